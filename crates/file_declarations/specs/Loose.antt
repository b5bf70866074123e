-- Parts of a node, before its names are joined.
use Rattle.std.specs.Prelude.{ℕ, List, [], ◌∷◌}
use Rattle.php_tree.specs.declared.token.TokenKind.{TokenKind}
use Rattle.php_tree.specs.declared.token.Token.{Token}
use Rattle.scope_names.specs.Form.{Part, child, part_before}
use Rattle.file_declarations.specs.declared.loose.Loose.{Loose}
use Rattle.file_declarations.specs.declared.loose.Loose.TheVariants as loose

-- a token of a kind and a text
abbrev pub text_token : TokenKind → List ℕ → Token
text_token k text = record { kind = k; lead = []; text = text; start = 0 }

-- a part before others
abbrev pub loose_part : Loose → List Part → List Part
loose_part (loose.Token k text) ps = part_before (text_token k text.now) ps
loose_part loose.Child ps = child ∷ ps

-- some parts before others
abbrev pub loose_before : List Loose → List Part → List Part
loose_before [] ps = ps
loose_before (l ∷ ls) ps = loose_part l (loose_before ls ps)
