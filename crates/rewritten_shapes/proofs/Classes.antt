-- Members of classes by name, and declarations of classes.
use Rattle.std.proofs.Common.{◌≡◌, Bool, true, false, ◌||◌, Option, refl, sym, ap, ◌∙◌, subst}
use Rattle.php_tree.specs.declared.kind.NodeKind.{NodeKind}
use Rattle.php_tree.specs.declared.kind.NodeKind.TheVariants as k
use Rattle.php_tree.specs.declared.token.Token.{Token}
use Rattle.php_tree.specs.declared.version.Version.TheVariants.{V74, V83}
use Rattle.php_tree.specs.Tree.{Forest, none, leaf, ◌+++◌}
use Rattle.php_terminals.specs.declared.terminal.Terminal.{Terminal}
use Rattle.php_terminals.specs.declared.terminal.Terminal.TheVariants as t
use Rattle.php_terminals.specs.Classify.{is_any_label, terminal}
use Rattle.php_grammar.specs.Accepts.{accepts, same_class}
use Rattle.php_shapes.specs.Atoms as at
use Rattle.php_shapes.specs.Declarations as de
use Rattle.php_shapes.specs.Forms.{form}
use Rattle.php_shapes.specs.Notation.{Rule, nothing, word, place, ◌~◌, many}
use Rattle.php_shapes.specs.Places.{ClassBase}
use Rattle.php_shapes.specs.Postfixes as po
use Rattle.php_shapes.specs.Shapes.{Fits, IsNode, is_nothing, is_word, is_both, is_first, is_node}
use Rattle.syntax_rules.specs.Around.{Around, within}
use Rattle.syntax_rules.specs.HashComment.{hash_comment}
use Rattle.rewritten_shapes.specs.Laws.{AreSpelled}
use Rattle.rewritten_shapes.specs.RefusedWords.{declares, has, has_before, has_refused, in_class, is_any_of_them, is_double_colon, is_keyword_now, named}
use Rattle.rewritten_shapes.proofs.Bilingual.{
  Both,
  a_name,
  alike,
  both_kept,
  either,
  keywords,
  label_kept,
  all_four,
  left_false,
  new,
  next,
  old,
  reads,
  right_false,
  shown_terminal,
  spelled_front,
  spelled_rest,
  times,
}
use Rattle.rewritten_shapes.proofs.Calm.{is_steady, shown_accepts, steady_shown}
use Rattle.rewritten_shapes.proofs.Kept.{AllGood, Good, Kept, good_front, good_rest, is_settled, kept, kept_join, steady}
use Rattle.rewritten_shapes.proofs.Like.{like_leaf}
use Rattle.rewritten_shapes.proofs.Marked.{before_front, both_no, class_front, colons, declaring, has_none_of}
use Rattle.rewritten_shapes.proofs.Named.{inheritance, listed, may}
use Rattle.rewritten_shapes.proofs.Own.{before_new, class_new}
use Rattle.rewritten_shapes.proofs.Same.{assemble, has_no_lines, lines_fine}
use Rattle.rewritten_shapes.proofs.Shown.{new_parts, new_tree, shown_token}
use Rattle.rewritten_shapes.proofs.Sides.{apart_parts, are_apart, stay_apart, still_first}
use Rattle.rewritten_shapes.proofs.Simple.{is_simple}

-- ---- members by the name of a class

abbrev class_before : Both
class_before = either a_name (either (alike (word t.Static)) (alike (place ClassBase)))

member_kept : (rest : Rule) (c : Forest) → stay_apart (po.class_before V74) rest ≡ true → steady rest ≡ true
    → Fits V74 (po.class_before V74 ~ rest) c → AreSpelled c → AllGood c → (a : Bool → Option Around) (b : Bool)
    → has_before is_double_colon (new_parts a b c) ≡ false → Kept (po.class_before V83 ~ rest) c (new_parts a b c)
member_kept rest c e f (is_both {g} {h} x y d) s w a b n =
    let sp = subst AreSpelled d s in
    let al = subst AllGood d w in
    let same : new_parts a b c ≡ new_parts a b g +++ new_parts a (still_first b g) h = ap (new_parts a b) d ∙ apart_parts a b g h (are_apart x y e) in
    let free : has is_keyword_now (new_parts a b g) ≡ false =
    before_front colons (new_parts a b g) (new_parts a (still_first b g) h)
    (both_no colons class_before refl g x (spelled_front g h sp) a b)
    (ap (has_before is_double_colon) (sym same) ∙ n) in
    kept_join a b (po.class_before V74) rest (po.class_before V83) rest c g h d x y e
    (both_kept keywords class_before refl g x (spelled_front g h sp) (good_front g h al) a b free)
    (kept y f (good_rest g h al) a (still_first b g))

member_good : (rest : Rule) (a : Option Around) (k : NodeKind) (c : Forest)
    → stay_apart (po.class_before V74) rest ≡ true → steady rest ≡ true → form V74 k ≡ po.class_before V74 ~ rest
    → form V83 k ≡ po.class_before V83 ~ rest → is_simple k ≡ true → is_settled k ≡ true → has_no_lines k ≡ true
    → has_before is_double_colon (named c) ≡ false → AreSpelled c → AllGood c → IsNode V74 k c → Good k c (new_tree a k c)
member_good rest a k c e f p q sm st l h s w (is_node x near fine) =
    let b = new_parts (within k c) true c in
    let made = member_kept rest c e f (subst (λ (r : Rule). Fits V74 r c) p x) s w (within k c) true (sym (before_new is_double_colon (within k c) true c) ∙ h) in
    assemble a k c sm st (subst (λ (r : Rule). Kept r c b) (sym q) made) near (lines_fine k b l)

pub good_class_constant : (a : Option Around) (c : Forest) → has_refused k.ClassConstant c ≡ false → AreSpelled c
    → AllGood c → IsNode V74 k.ClassConstant c → Good k.ClassConstant c (new_tree a k.ClassConstant c)
good_class_constant a c h s w n = member_good (word t.DoubleColon ~ word t.AnyWord) a k.ClassConstant c refl refl refl refl refl refl refl h s w n

pub good_static_prop : (a : Option Around) (c : Forest) → has_refused k.StaticProp c ≡ false → AreSpelled c
    → AllGood c → IsNode V74 k.StaticProp c → Good k.StaticProp c (new_tree a k.StaticProp c)
good_static_prop a c h s w n = member_good (word t.DoubleColon ~ po.static_member) a k.StaticProp c refl refl refl refl refl refl refl h s w n

pub good_static_call : (a : Option Around) (c : Forest) → has_refused k.StaticCall c ≡ false → AreSpelled c
    → AllGood c → IsNode V74 k.StaticCall c → Good k.StaticCall c (new_tree a k.StaticCall c)
good_static_call a c h s w n = member_good (word t.DoubleColon ~ po.member ~ po.called) a k.StaticCall c refl refl refl refl refl refl refl h s w n

-- ---- declarations

-- the word of a declaration, the name, what the class extends and implements, and its members
abbrev declared : Terminal → Rule → Rule → Rule
declared key inherits members = word key ~ word t.ClassLabel ~ inherits ~ members

label_class : (y : Token) → accepts V74 t.ClassLabel y ≡ true → declares (terminal y) ≡ false
label_class y e = go (terminal y) e
  where
    go : (own : Terminal) → (is_any_label own || same_class t.ClassLabel own) ≡ true → declares own ≡ false
    go t.Class e = cc
    go t.Interface e = cc
    go t.Trait e = cc
    go _ e = refl

declared_kept : (key : Terminal) (inherits : Both) (members : Rule) → is_steady key ≡ true
    → ((x : Token) → accepts V74 key x ≡ true → declares (terminal x) ≡ true) → reads keywords inherits ≡ true
    → has_none_of declaring inherits ≡ true
    → stay_apart (word key) (word t.ClassLabel ~ old inherits ~ members) ≡ true
    → stay_apart (word t.ClassLabel) (old inherits ~ members) ≡ true → stay_apart (old inherits) members ≡ true
    → steady members ≡ true
    → (c : Forest) → Fits V74 (declared key (old inherits) members) c → AreSpelled c → AllGood c
    → (a : Bool → Option Around) (b : Bool) → in_class false (new_parts a b c) ≡ false
    → Kept (declared key (new inherits) members) c (new_parts a b c)
declared_kept key inherits members st dec rd lacks ap1 ap2 ap3 sm c
    (is_both {h = h1} (is_word {x} p) (is_both {h = h2} (is_word {x = y} q) (is_both {g = g3} {h = h3} u v d3) d2) d1)
    s w a b n =
    let s1 = subst AreSpelled d1 s in
    let s2 = subst AreSpelled d2 s1.1 in
    let s3 = subst AreSpelled d3 s2.1 in
    let w1 = subst AllGood d1 w in
    let w2 = subst AllGood d2 w1 in
    let w3 = subst AllGood d3 w2 in
    let tail : Fits V74 (old inherits ~ members) h2 = is_both u v d3 in
    let named : Fits V74 (word t.ClassLabel ~ old inherits ~ members) h1 = is_both (is_word {x = y} q) tail d2 in
    let x2 = shown_token (hash_comment x) in
    let y2 = shown_token (hash_comment y) in
    let p1 : new_parts a b c ≡ leaf x2 (new_parts a false h1) = ap (new_parts a b) d1 ∙ apart_parts a b (leaf x none) h1 (are_apart (is_word {c = key} {x = x} p) named ap1) in
    let p2 : new_parts a false h1 ≡ leaf y2 (new_parts a false h2) = ap (new_parts a false) d2
    ∙ apart_parts a false (leaf y none) h2 (are_apart (is_word {c = t.ClassLabel} {x = y} q) tail ap2) in
    let p3 : new_parts a false h2 ≡ new_parts a false g3 +++ new_parts a (still_first false g3) h3 = ap (new_parts a false) d3 ∙ apart_parts a false g3 h3 (are_apart u v ap3) in
    let n1 : in_class false (leaf x2 (leaf y2 (new_parts a false h2))) ≡ false = ap (in_class false) (sym (p1 ∙ ap (leaf x2) p2)) ∙ n in
    let n2 : in_class true (leaf y2 (new_parts a false h2)) ≡ false =
    ap (λ (z : Bool). in_class z (leaf y2 (new_parts a false h2))) (sym (ap declares (shown_terminal x) ∙ dec x p))
    ∙ right_false (is_keyword_now (terminal x2))
    (in_class (declares (terminal x2)) (leaf y2 (new_parts a false h2))) n1 in
    let any : is_any_of_them (terminal y) ≡ false = ap is_any_of_them (sym (shown_terminal y))
    ∙ left_false (is_any_of_them (terminal y2)) (in_class (declares (terminal y2)) (new_parts a false h2)) n2 in
    let n3 : in_class false (new_parts a false h2) ≡ false =
    ap (λ (z : Bool). in_class z (new_parts a false h2)) (sym (ap declares (shown_terminal y) ∙ label_class y q))
    ∙ right_false (is_any_of_them (terminal y2)) (in_class (declares (terminal y2)) (new_parts a false h2)) n2 in
    let z = class_front (new_parts a false g3) (new_parts a (still_first false g3) h3)
    (both_no declaring inherits lacks g3 u (spelled_front g3 h3 s3) a false) (ap (in_class false) (sym p3) ∙ n3)
    in
    kept_join a b (word key) (word t.ClassLabel ~ old inherits ~ members) (word key)
    (word t.ClassLabel ~ new inherits ~ members) c (leaf x none) h1 d1 (is_word {x = x} p) named ap1
    (record { fits = is_word (steady_shown key x st p); like = like_leaf x x2 (shown_terminal x) })
    (kept_join a false (word t.ClassLabel) (old inherits ~ members) (word t.ClassLabel) (new inherits ~ members) h1 (leaf y none) h2 d2 (is_word {x = y} q) tail ap2
    (record { fits = is_word (shown_accepts V83 t.ClassLabel y (label_kept t.ClassLabel all_four y refl q any)); like = like_leaf y y2 (shown_terminal y) })
    (kept_join a false (old inherits) members (new inherits) members h2 g3 h3 d3 u v ap3
    (both_kept keywords inherits rd g3 u (spelled_front g3 h3 s3) (good_front g3 h3 w3) a false z.0)
    (kept v sm (good_rest g3 h3 w3) a (still_first false g3))))

declares_class : (own : Terminal) → same_class t.Class own ≡ true → declares own ≡ true
declares_class t.Class e = refl
declares_class _ e = absurd cc

declares_interface : (own : Terminal) → same_class t.Interface own ≡ true → declares own ≡ true
declares_interface t.Interface e = refl
declares_interface _ e = absurd cc

abbrev modifiers : Both
modifiers = times (alike (word t.ClassModifier))

class_kept : (c : Forest) → Fits V74 (de.class_declaration V74) c → AreSpelled c → AllGood c
    → (a : Bool → Option Around) (b : Bool) → in_class false (new_parts a b c) ≡ false
    → Kept (de.class_declaration V83) c (new_parts a b c)
class_kept c (is_both is_nothing (is_both {f = f} {g} {h} x y d) o) s w a b n =
    let same0 : c ≡ g +++ h = o ∙ d in
    let sp = subst AreSpelled same0 s in
    let al = subst AllGood same0 w in
    let same : new_parts a b c ≡ new_parts a b g +++ new_parts a (still_first b g) h = ap (new_parts a b) same0 ∙ apart_parts a b g h (are_apart x y refl) in
    let z = class_front (new_parts a b g) (new_parts a (still_first b g) h)
    (both_no declaring modifiers refl g x (spelled_front g h sp) a b) (ap (in_class false) (sym same) ∙ n) in
    let tail = declared_kept t.Class inheritance at.members refl (λ u e. declares_class (terminal u) e) refl refl refl
    refl refl refl h y (spelled_rest g h sp) (good_rest g h al) a (still_first b g) z.1 in
    let made = kept_join a b (many (word t.ClassModifier)) (declared t.Class (old inheritance) at.members)
    (many (word t.ClassModifier)) (declared t.Class (new inheritance) at.members) c g h same0 x y refl
    (kept x refl (good_front g h al) a b) tail in
    record { fits = is_both (is_first is_nothing) made.fits refl; like = made.like }

pub good_class : (a : Option Around) (c : Forest) → has_refused k.Class c ≡ false → AreSpelled c → AllGood c → IsNode V74 k.Class c → Good k.Class c (new_tree a k.Class c)
good_class a c h s w (is_node x near fine) =
    let b = new_parts (within k.Class c) true c in
    assemble a k.Class c refl refl (class_kept c x s w (within k.Class c) true (sym (class_new (within k.Class c) true c) ∙ h)) near (lines_fine k.Class b refl)

abbrev extends : Both
extends = may (next (alike (word t.Extends)) (listed a_name))

pub good_interface : (a : Option Around) (c : Forest) → has_refused k.Interface c ≡ false → AreSpelled c → AllGood c
    → IsNode V74 k.Interface c → Good k.Interface c (new_tree a k.Interface c)
good_interface a c h s w (is_node x near fine) =
    let b = new_parts (within k.Interface c) true c in
    assemble a k.Interface c refl refl
    (declared_kept t.Interface extends at.members refl (λ u e. declares_interface (terminal u) e) refl refl refl refl
    refl refl c x s w (within k.Interface c) true (sym (class_new (within k.Interface c) true c) ∙ h))
    near (lines_fine k.Interface b refl)

declares_trait : (own : Terminal) → same_class t.Trait own ≡ true → declares own ≡ true
declares_trait t.Trait e = refl
declares_trait _ e = absurd cc

into_trait : (c : Forest) → Fits V74 de.trait_declaration c → Fits V74 (declared t.Trait nothing at.members) c
into_trait c (is_both p (is_both q r e) d) = is_both p (is_both q (is_both is_nothing r refl) e) d

out_of_trait : (c : Forest) → Fits V83 (declared t.Trait nothing at.members) c → Fits V83 de.trait_declaration c
out_of_trait c (is_both p (is_both {g} q (is_both is_nothing r f) e) d) = is_both p (is_both q r (e ∙ ap (λ z. g +++ z) f)) d

pub good_trait : (a : Option Around) (c : Forest) → has_refused k.Trait c ≡ false → AreSpelled c → AllGood c → IsNode V74 k.Trait c → Good k.Trait c (new_tree a k.Trait c)
good_trait a c h s w (is_node x near fine) =
    let b = new_parts (within k.Trait c) true c in
    let made = declared_kept t.Trait (alike nothing) at.members refl (λ u e. declares_trait (terminal u) e) refl refl
    refl refl refl refl c (into_trait c x) s w (within k.Trait c) true
    (sym (class_new (within k.Trait c) true c) ∙ h) in
    assemble a k.Trait c refl refl (record { fits = out_of_trait b made.fits; like = made.like }) near (lines_fine k.Trait b refl)
