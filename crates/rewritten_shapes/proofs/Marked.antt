-- Tokens that stand in no name: what stands behind a name is told from it.
use Rattle.std.proofs.Common.{◌≡◌, ℕ, Bool, true, false, cond, ◌&&◌, ◌||◌, inl, inr, if◌then◌else◌, codes, List, Option, refl, sym, ap, ◌∙◌, subst}
use Rattle.std.proofs.lemmas.Bool.{or_from}
use Rattle.php_tree.specs.declared.token.Token.{Token}
use Rattle.php_tree.specs.declared.token.TokenKind.{TokenKind}
use Rattle.php_tree.specs.declared.version.Version.TheVariants.{V74}
use Rattle.php_tree.specs.Tree.{Forest, none, leaf, node, ◌+++◌}
use Rattle.php_terminals.specs.declared.terminal.Terminal.{Terminal}
use Rattle.php_terminals.specs.declared.terminal.Terminal.TheVariants as t
use Rattle.php_terminals.specs.Classify.{is_any_label, terminal, terminal_by}
use Rattle.php_terminals.specs.Classify as classes
use Rattle.php_terminals.specs.Words as words
use Rattle.php_grammar.specs.Accepts.{accepts, same_class}
use Rattle.php_shapes.specs.Names.{name}
use Rattle.php_shapes.specs.Notation.{Rule, nothing, word, place, ◌|||◌, many}
use Rattle.php_shapes.specs.Shapes.{Fits, is_nothing, is_word, is_both, is_first, is_second, no_more, once_more, is_place}
use Rattle.syntax_rules.specs.Around.{Around}
use Rattle.syntax_rules.specs.HashComment.{hash_comment}
use Rattle.rewritten_shapes.specs.Laws.{AreSpelled}
use Rattle.rewritten_shapes.specs.RefusedWords.{declares, has, has_before, in_class, is_brace, is_double_colon, is_keyword_now}
use Rattle.rewritten_shapes.proofs.Bilingual.{Both, a_called, a_label, a_name, alike, either, has_join, label_any, left_false, next, old, right_false, shown_terminal, spelled_front, spelled_rest, times}
use Rattle.rewritten_shapes.proofs.Shown.{names_whole, new_parts, shown, shown_token}
use Rattle.rewritten_shapes.proofs.Sides.{and_left, and_right, apart_parts, are_apart, stay_apart, still_first}
use Rattle.rewritten_shapes.proofs.Tabled.{written}
use Rattle.rewritten_shapes.proofs.Units.{Whole, name_is}

-- `::`, `{`, and the words that declare a class
pub data Mark : Type 0 where
  colons : Mark
  brace : Mark
  declaring : Mark

abbrev pub marks : Mark → Terminal → Bool
marks colons x = is_double_colon x
marks brace x = is_brace x
marks declaring x = declares x

-- whether a rule asks for such a token in no place of its own
abbrev asks_no : Mark → Terminal → Bool
asks_no m t.Comma = true
asks_no m t.Extends = true
asks_no m t.Implements = true
asks_no m t.Static = true
asks_no m t.ClassModifier = true
asks_no m _ = false

comma_no : (m : Mark) (own : Terminal) → same_class t.Comma own ≡ true → marks m own ≡ false
comma_no colons t.Comma e = refl
comma_no brace t.Comma e = refl
comma_no declaring t.Comma e = refl
comma_no m _ e = absurd cc

extends_no : (m : Mark) (own : Terminal) → same_class t.Extends own ≡ true → marks m own ≡ false
extends_no colons t.Extends e = refl
extends_no brace t.Extends e = refl
extends_no declaring t.Extends e = refl
extends_no m _ e = absurd cc

implements_no : (m : Mark) (own : Terminal) → same_class t.Implements own ≡ true → marks m own ≡ false
implements_no colons t.Implements e = refl
implements_no brace t.Implements e = refl
implements_no declaring t.Implements e = refl
implements_no m _ e = absurd cc

static_no : (m : Mark) (own : Terminal) → same_class t.Static own ≡ true → marks m own ≡ false
static_no colons t.Static e = refl
static_no brace t.Static e = refl
static_no declaring t.Static e = refl
static_no m _ e = absurd cc

modifier_no : (m : Mark) (own : Terminal) → same_class t.ClassModifier own ≡ true → marks m own ≡ false
modifier_no colons t.ClassModifier e = refl
modifier_no brace t.ClassModifier e = refl
modifier_no declaring t.ClassModifier e = refl
modifier_no m _ e = absurd cc

word_no : (m : Mark) (c : Terminal) (x : Token) → asks_no m c ≡ true → accepts V74 c x ≡ true → marks m (terminal x) ≡ false
word_no m t.Comma x h e = comma_no m (terminal x) e
word_no m t.Extends x h e = extends_no m (terminal x) e
word_no m t.Implements x h e = implements_no m (terminal x) e
word_no m t.Static x h e = static_no m (terminal x) e
word_no m t.ClassModifier x h e = modifier_no m (terminal x) e
word_no m _ x h e = absurd cc

pub label_no : (m : Mark) (own : Terminal) → is_any_label own ≡ true → marks m own ≡ false
label_no colons t.Label e = refl
label_no colons t.Match e = refl
label_no colons t.Readonly e = refl
label_no colons t.MixedOrNever e = refl
label_no brace t.Label e = refl
label_no brace t.Match e = refl
label_no brace t.Readonly e = refl
label_no brace t.MixedOrNever e = refl
label_no declaring t.Label e = refl
label_no declaring t.Match e = refl
label_no declaring t.Readonly e = refl
label_no declaring t.MixedOrNever e = refl
label_no m _ e = absurd cc

name_no : (m : Mark) (text : List ℕ) → marks m (classes.name text) ≡ false
name_no m text = go m (words.is_word (codes "\\") (words.front 1 text)) (words.is_word (codes "namespace\\") (words.front 10 text))
  where
    go : (m : Mark) (a b : Bool) → marks m (cond a t.FullName (cond b t.RelativeName t.QualifiedName)) ≡ false
    go colons true b = refl
    go colons false true = refl
    go colons false false = refl
    go brace true b = refl
    go brace false true = refl
    go brace false false = refl
    go declaring true b = refl
    go declaring false true = refl
    go declaring false false = refl

-- the new parts of a name have none
name_has_no : (m : Mark) (f : Forest) → Fits V74 (name V74) f → AreSpelled f → (a : Bool → Option Around) (b : Bool) → has (marks m) (new_parts a b f) ≡ false
name_has_no m f p s a b = go (name_is f p s a b)
  where
    go : Whole (names_whole (written a b f)) → has (marks m) (new_parts a b f) ≡ false
    go (inl r) = ap (λ d. has (marks m) (shown d)) r.2 ∙ or_from
        (marks m (terminal (shown_token (hash_comment r.0)))) false
        (ap (marks m) (shown_terminal r.0) ∙ label_no m (terminal r.0) (label_any r.0 r.1)) refl
    go (inr r) = ap (λ d. has (marks m) (shown d)) r.2 ∙ or_from (marks m (terminal (shown_token r.0))) false
        (ap (λ (sort : TokenKind). marks m (terminal_by sort (shown_token r.0).text)) r.1
        ∙ name_no m (shown_token r.0).text) refl

-- ---- rules

abbrev pub plain_rule : Mark → Rule → Bool
plain_rule m nothing = true
plain_rule m (word c) = asks_no m c
plain_rule m (place p) = true
plain_rule m (r ||| s) = plain_rule m r && plain_rule m s
plain_rule m _ = false

abbrev pub has_none_of : Mark → Both → Bool
has_none_of m (alike r) = plain_rule m r
has_none_of m a_name = true
has_none_of m a_called = true
has_none_of m (a_label c) = false
has_none_of m (next r s) = stay_apart (old r) (old s) && (has_none_of m r && has_none_of m s)
has_none_of m (either r s) = has_none_of m r && has_none_of m s
has_none_of m (times r) = stay_apart (old r) (old r) && has_none_of m r

plain_no : (m : Mark) (r : Rule) (f : Forest) → plain_rule m r ≡ true → Fits V74 r f → (a : Bool → Option Around) (b : Bool) → has (marks m) (new_parts a b f) ≡ false
plain_no m nothing f e is_nothing a b = refl
plain_no m (word c) f e (is_word {x} p) a b = or_from (marks m (terminal (shown_token (hash_comment x)))) false (ap (marks m) (shown_terminal x) ∙ word_no m c x e p) refl
plain_no m (place p) f e (is_place n o) a b = refl
plain_no m (r ||| s) f e (is_first x) a b = plain_no m r f (and_left (plain_rule m r) (plain_rule m s) e) x a b
plain_no m (r ||| s) f e (is_second x) a b = plain_no m s f (and_right (plain_rule m r) (plain_rule m s) e) x a b
plain_no m _ f e x a b = absurd cc

join_no : (m : Mark) (a : Bool → Option Around) (b : Bool) (r s : Rule) (f g h : Forest) → f ≡ g +++ h → Fits V74 r g → Fits V74 s h → stay_apart r s ≡ true
    → has (marks m) (new_parts a b g) ≡ false → has (marks m) (new_parts a (still_first b g) h) ≡ false → has (marks m) (new_parts a b f) ≡ false
join_no m a b r s f g h d x y e p q =
    ap (λ z. has (marks m) (new_parts a b z)) d ∙ ap (has (marks m)) (apart_parts a b g h (are_apart x y e))
    ∙ has_join (marks m) (new_parts a b g) (new_parts a (still_first b g) h) ∙ or_from (has (marks m) (new_parts a b g)) (has (marks m) (new_parts a (still_first b g) h)) p q

many_no : (m : Mark) (q : Rule) → stay_apart q q ≡ true
    → ((f : Forest) → Fits V74 q f → AreSpelled f → (a : Bool → Option Around) (b : Bool)
    → has (marks m) (new_parts a b f) ≡ false)
    → (f : Forest) → Fits V74 (many q) f → AreSpelled f → (a : Bool → Option Around) (b : Bool) → has (marks m) (new_parts a b f) ≡ false
many_no m q e one _ no_more s a b = refl
many_no m q e one f (once_more {g} {h} x y d) s a b =
    let sp = subst AreSpelled d s in
    join_no m a b q (many q) f g h d x y e (one g x (spelled_front g h sp) a b) (many_no m q e one h y (spelled_rest g h sp) a (still_first b g))

pub both_no : (m : Mark) (r : Both) → has_none_of m r ≡ true → (f : Forest) → Fits V74 (old r) f → AreSpelled f
    → (a : Bool → Option Around) (b : Bool) → has (marks m) (new_parts a b f) ≡ false
both_no m (alike r) e f x s a b = plain_no m r f e x a b
both_no m a_name e f x s a b = name_has_no m f x s a b
both_no m a_called e f x s a b = name_has_no m f x s a b
both_no m (a_label c) e f x s a b = absurd cc
both_no m (next r s) e f (is_both {g} {h} x y d) sp a b =
    let apart = and_left (stay_apart (old r) (old s)) (has_none_of m r && has_none_of m s) e in
    let both = and_right (stay_apart (old r) (old s)) (has_none_of m r && has_none_of m s) e in
    let ss = subst AreSpelled d sp in
    join_no m a b (old r) (old s) f g h d x y apart (both_no m r (and_left (has_none_of m r) (has_none_of m s) both) g x (spelled_front g h ss) a b)
    (both_no m s (and_right (has_none_of m r) (has_none_of m s) both) h y (spelled_rest g h ss) a (still_first b g))
both_no m (either r s) e f (is_first x) sp a b = both_no m r (and_left (has_none_of m r) (has_none_of m s) e) f x sp a b
both_no m (either r s) e f (is_second x) sp a b = both_no m s (and_right (has_none_of m r) (has_none_of m s) e) f x sp a b
both_no m (times r) e f x s a b = many_no m (old r) (and_left (stay_apart (old r) (old r)) (has_none_of m r) e)
    (both_no m r (and_right (stay_apart (old r) (old r)) (has_none_of m r) e)) f x s a b

-- ---- what stands before such a token

pub front_by : (x y z : Bool) → x ≡ false → (if x then false else (y || z)) ≡ false → (y ≡ false) × (z ≡ false)
front_by true y z e h = absurd cc
front_by false y z e h = (left_false y z h, right_false y z h)

pub before_front : (m : Mark) (g h : Forest) → has (marks m) g ≡ false → has_before (marks m) (g +++ h) ≡ false → has is_keyword_now g ≡ false
before_front m none h e p = refl
before_front m (leaf x g) h e p =
    let z = front_by (marks m (terminal x)) (is_keyword_now (terminal x)) (has_before (marks m) (g +++ h)) (left_false (marks m (terminal x)) (has (marks m) g) e) p in
    or_from (is_keyword_now (terminal x)) (has is_keyword_now g) z.0 (before_front m g h (right_false (marks m (terminal x)) (has (marks m) g) e) z.1)
before_front m (node k c g) h e p = before_front m g h e p

-- the same of a class, behind the name that it declares
pub class_front : (g h : Forest) → has declares g ≡ false → in_class false (g +++ h) ≡ false → (has is_keyword_now g ≡ false) × (in_class false h ≡ false)
class_front none h e p = (refl, p)
class_front (leaf x g) h e p =
    let d = left_false (declares (terminal x)) (has declares g) e in
    let z = class_front g h (right_false (declares (terminal x)) (has declares g) e)
    (ap (λ (b : Bool). in_class b (g +++ h)) (sym d) ∙ right_false (is_keyword_now (terminal x))
    (in_class (declares (terminal x)) (g +++ h)) p) in
    (or_from (is_keyword_now (terminal x)) (has is_keyword_now g) (left_false (is_keyword_now (terminal x)) (in_class (declares (terminal x)) (g +++ h)) p) z.0, z.1)
class_front (node k c g) h e p = class_front g h e p
