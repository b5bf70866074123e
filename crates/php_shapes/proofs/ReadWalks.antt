-- What the parts of items are, item by item.
use Rattle.std.proofs.Common.{◌≡◌, true, List, [], ◌∷◌, ◌++◌, refl, sym, ap, ◌∙◌}
use Rattle.php_tree.specs.declared.token.Token.{Token}
use Rattle.php_tree.specs.Tree.{Forest, none, leaf, ◌+++◌, leaves}
use Rattle.php_terminals.specs.declared.terminal.Terminal.{Terminal}
use Rattle.php_forms.specs.declared.item.Group.{Group}
use Rattle.php_forms.specs.declared.item.Item.{Item}
use Rattle.php_forms.specs.declared.item.Item.TheVariants.{Word, Part, Repeats}
use Rattle.php_forms.specs.Grammar.{Tables, Walks, ends, word as a_word, part, stop, repeat}
use Rattle.php_shapes.proofs.ReadMatch.{leaves_before}

pub no_items : (T : Tables) (f : Forest) (us : List Token) → Walks T [] f us → f ≡ none
no_items T f us ends = refl

pub word_first : (T : Tables) (c : Terminal) (is : List Item) (f : Forest) (us : List Token)
    → Walks T (Word c ∷ is) f us → (x : Token) × (h : Forest) × (f ≡ leaf x h) × (T.accepts c x ≡ true)
    × Walks T is h us
word_first T c is f us (a_word {t = x} {f = h} a w) = (x, h, refl, a, w)

pub part_first : (T : Tables) (g : Group) (is : List Item) (f : Forest) (us : List Token) → Walks T (Part g ∷ is) f us
    → (h : Forest) × (m : Forest) × (f ≡ h +++ m) × Walks T (T.parts g (leaves h ++ (leaves m ++ us))) h
    (leaves m ++ us) × Walks T is m us
part_first T g is f us (part {h = h} {f = m} y w) = (h, m, refl, y, w)

cons_not_nil : (A : Type 0) (x : A) (xs : List A) → [] ≡ x ∷ xs → ⊥
cons_not_nil A x xs e = cc

-- no repeat, where the next tokens choose none
pub no_repeats : (T : Tables) (g : Group) (is : List Item) (f : Forest) (us : List Token) → T.parts g (leaves f ++ us) ≡ [] → Walks T (Repeats g ∷ is) f us → Walks T is f us
no_repeats T g is f us e (stop y w) = w
no_repeats T g is f us e (repeat {i = i} {js = js} {h = h} {f = m} y x lt w) = absurd (cons_not_nil Item i js (sym e ∙ ap (T.parts g) (leaves_before h m us) ∙ y))
