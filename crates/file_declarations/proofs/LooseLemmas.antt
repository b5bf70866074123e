-- Loose parts, one after another.
use Rattle.std.proofs.Common.{◌≡◌, true, false, List, [], ◌∷◌, ◌++◌, refl, ap}
use Rattle.php_tree.specs.declared.token.Token.{Token}
use Rattle.scope_names.specs.Form.{Part, word, child, part_before}
use Rattle.file_declarations.specs.declared.loose.Loose.{Loose}
use Rattle.file_declarations.specs.Loose.{loose_part, loose_before, text_token}

-- a further part stands before what follows
pub loose_push : (ls : List Loose) (l : Loose) (ps : List Part) → loose_before (ls ++ l ∷ []) ps ≡ loose_before ls (loose_part l ps)
loose_push [] l ps = refl
loose_push (k ∷ ls) l ps = ap (λ (qs : List Part). loose_part k qs) (loose_push ls l ps)

-- of a token only its kind and its text are seen
pub text_before : (t : Token) (ps : List Part) → part_before (text_token t.kind t.text) ps ≡ part_before t ps
text_before t [] = refl
text_before t (word false k v ∷ ps) = refl
text_before t (word true k v ∷ ps) = refl
text_before t (child ∷ ps) = refl
