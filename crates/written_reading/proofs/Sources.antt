-- The leaves of a forest have the texts of a source's tokens.
use Rattle.std.proofs.Common.{◌≡◌, ℕ, Bool, true, false, ◌&&◌, List, [], ◌∷◌, ◌++◌, refl, subst, append_assoc}
use Rattle.php_tree.specs.declared.token.Token.{Token}
use Rattle.php_tree.specs.declared.token.TokenKind.{TokenKind}
use Rattle.php_tree.specs.declared.token.TokenKind.TheVariants as token
use Rattle.php_tree.specs.Tree.{Forest, none, leaf, node, leaves}
use Rattle.rewritten_shapes.specs.Laws as shapes
use Rattle.rewritten_shapes.specs.Laws.{is_spelled_by, opens_name, AreSpelled}
use Rattle.written_reading.specs.Spellings.{is_source_text}
use Rattle.written_reading.specs.Laws.{begins_namespace, NoneBehind, SourcesAreSpelled}
use Rattle.written_reading.proofs.Behind.{no_name_is_namespace}
use Rattle.written_reading.proofs.Spelled.{AreSource, tokens_are_source}

rest_source : (ts us : List Token) → AreSource (ts ++ us) → AreSource us
rest_source [] us h = h
rest_source (t ∷ ts) us h = rest_source ts us h.1

rest_none : (ts us : List Token) → NoneBehind (ts ++ us) → NoneBehind us
rest_none [] us h = h
rest_none (t ∷ ts) us h = rest_none ts us h.1

is_spelled : (k : TokenKind) (text : List ℕ) → is_source_text k text ≡ true → is_spelled_by k text ≡ true
is_spelled token.Label [] h = absurd cc
is_spelled token.Label (b ∷ bs) h = h
is_spelled token.Cast text h = h
is_spelled token.DollarBrace text h = h
is_spelled _ text h = refl

-- what comes first among parts comes first among their tokens
none_behind : (opens : Bool) (f : Forest) (us : List Token) → (opens && begins_namespace (leaves f ++ us)) ≡ false → (opens && shapes.begins_namespace f) ≡ false
none_behind false f us h = refl
none_behind true none us h = refl
none_behind true (leaf t f) us h = h
none_behind true (node k c f) us h = refl

are_spelled : (f : Forest) (us : List Token) → AreSource (leaves f ++ us) → NoneBehind (leaves f ++ us) → AreSpelled f
are_spelled none us h n = tt
are_spelled (leaf t f) us h n =
    ((is_spelled t.kind t.text h.0, none_behind (opens_name t.kind t.text) f us n.0), are_spelled f us h.1 n.1)
are_spelled (node k c f) us h n =
    let same = append_assoc (leaves c) (leaves f) us in
    let sources : AreSource (leaves c ++ (leaves f ++ us)) = subst AreSource same h in
    let names : NoneBehind (leaves c ++ (leaves f ++ us)) = subst NoneBehind same n in (
      are_spelled c (leaves f ++ us) sources names,
      are_spelled f us (rest_source (leaves c) (leaves f ++ us) sources) (rest_none (leaves c) (leaves f ++ us) names),
    )

pub sources_are_spelled : SourcesAreSpelled
sources_are_spelled v bytes f h =
    are_spelled f.statements (f.end ∷ []) (tokens_are_source v bytes _ h) (no_name_is_namespace v bytes _ h)
