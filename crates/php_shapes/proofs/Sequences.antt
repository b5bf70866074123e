-- Rules one after another, taken apart and put together.
use Rattle.std.proofs.Common.{◌≡◌, List, [], ◌++◌, refl, sym, ap, ◌∙◌, subst}
use Rattle.php_tree.specs.declared.token.Token.{Token}
use Rattle.php_tree.specs.declared.version.Version.{Version}
use Rattle.php_tree.specs.Tree.{Forest, none, leaf, node, ◌+++◌, leaves}
use Rattle.php_exprs.proofs.Forests.{forest_assoc}
use Rattle.php_shapes.specs.Notation.{Rule, nothing, word, kind, place, inside, ◌~◌, ◌|||◌, many, tokens, maybe}
use Rattle.php_shapes.specs.Shapes.{Fits, is_nothing, is_both, is_first, is_second}
use Rattle.php_shapes.proofs.Entries.{
  Entry,
  Meet,
  Meets,
  anything,
  class_alias,
  class_use_rest,
  else_ifs,
  else_part,
  entry,
  entry_value,
  flat,
  flat_entry,
  more_class_uses,
  plain,
  span,
  use_body,
  used_class,
  used_grouped,
  yield_to,
  yield_value,
}

-- ---- taking sequences apart, and putting them together

-- the first part of a sequence, and the others
abbrev pub Split : Version → Entry → List Entry → Forest → List Token → Type 0
Split v e es f rest = (h : Forest) × (i : Forest) × Meets v e h (leaves i ++ rest) × Meet v es i rest × (f ≡ h +++ i)

pub none_behind : (f : Forest) → f +++ none ≡ f
none_behind none = refl
none_behind (leaf x f) = ap (leaf x) (none_behind f)
none_behind (node j b f) = ap (node j b) (none_behind f)

pub pack : (v : Version) (r : Rule) (es : List Entry) (f : Forest) (rest : List Token) → Meet v (flat r es) f rest → Split v (plain r) es f rest
pack v nothing es f rest m = m
pack v (word c) es f rest m = m
pack v (kind k) es f rest m = m
pack v (place p) es f rest m = m
pack v (inside k r) es f rest m = m
pack v (r ~ s) es f rest m =
    let a = pack v r (flat s es) f rest m in
    let b = pack v s es a.1 rest a.3 in
    (a.0 +++ b.0, b.1, is_both a.2 b.2 refl, b.3, a.4 ∙ ap (λ (x : Forest). a.0 +++ x) b.4 ∙ sym (forest_assoc a.0 b.0 b.1))
pack v (r ||| s) es f rest m = m
pack v (many r) es f rest m = m
pack v tokens es f rest m = m

pub unpack : (v : Version) (r : Rule) (es : List Entry) (h i : Forest) (rest : List Token) → Fits v r h → Meet v es i rest → Meet v (flat r es) (h +++ i) rest
unpack v nothing es h i rest p m = (h, i, p, m, refl)
unpack v (word c) es h i rest p m = (h, i, p, m, refl)
unpack v (kind k) es h i rest p m = (h, i, p, m, refl)
unpack v (place q) es h i rest p m = (h, i, p, m, refl)
unpack v (inside k r) es h i rest p m = (h, i, p, m, refl)
unpack v (r ~ s) es h i rest (is_both {g = a} {h = b} p q e) m =
    subst (λ (x : Forest). Meet v (flat r (flat s es)) x rest)
    (sym (forest_assoc a b i) ∙ ap (λ (x : Forest). x +++ i) (sym e))
    (unpack v r (flat s es) a (b +++ i) rest p (unpack v s es b i rest q m))
unpack v (r ||| s) es h i rest p m = (h, i, p, m, refl)
unpack v (many r) es h i rest p m = (h, i, p, m, refl)
unpack v tokens es h i rest p m = (h, i, p, m, refl)

pub pack_entry : (v : Version) (e : Entry) (es : List Entry) (f : Forest) (rest : List Token) → Meet v (flat_entry e es) f rest → Split v e es f rest
pack_entry v (plain r) es f rest m = pack v r es f rest m
pack_entry v used_class es f rest m = m
pack_entry v used_grouped es f rest m = m
pack_entry v class_alias es f rest m = m
pack_entry v class_use_rest es f rest m = m
pack_entry v more_class_uses es f rest m = m
pack_entry v use_body es f rest m = m
pack_entry v else_ifs es f rest m = m
pack_entry v else_part es f rest m = m
pack_entry v yield_to es f rest m = m
pack_entry v yield_value es f rest m = m
pack_entry v entry es f rest m = m
pack_entry v entry_value es f rest m = m
pack_entry v span es f rest m = m
pack_entry v anything es f rest m = m

pub unpack_entry : (v : Version) (e : Entry) (es : List Entry) (h i : Forest) (rest : List Token)
    → Meets v e h (leaves i ++ rest) → Meet v es i rest → Meet v (flat_entry e es) (h +++ i) rest
unpack_entry v (plain r) es h i rest p m = unpack v r es h i rest p m
unpack_entry v used_class es h i rest p m = (h, i, p, m, refl)
unpack_entry v used_grouped es h i rest p m = (h, i, p, m, refl)
unpack_entry v class_alias es h i rest p m = (h, i, p, m, refl)
unpack_entry v class_use_rest es h i rest p m = (h, i, p, m, refl)
unpack_entry v more_class_uses es h i rest p m = (h, i, p, m, refl)
unpack_entry v use_body es h i rest p m = (h, i, p, m, refl)
unpack_entry v else_ifs es h i rest p m = (h, i, p, m, refl)
unpack_entry v else_part es h i rest p m = (h, i, p, m, refl)
unpack_entry v yield_to es h i rest p m = (h, i, p, m, refl)
unpack_entry v yield_value es h i rest p m = (h, i, p, m, refl)
unpack_entry v entry es h i rest p m = (h, i, p, m, refl)
unpack_entry v entry_value es h i rest p m = (h, i, p, m, refl)
unpack_entry v span es h i rest p m = (h, i, p, m, refl)
unpack_entry v anything es h i rest p m = (h, i, p, m, refl)

-- Parts of these entries are what the rule says.
abbrev pub Gives : Version → List Entry → Rule → Type 0
Gives v es r = (f : Forest) (rest : List Token) → Meet v es f rest → Fits v r f

pub whole : (v : Version) (r : Rule) → Gives v (flat r []) r
whole v r f rest m =
    let a = pack v r [] f rest m in
    let e : f ≡ a.0 = a.4 ∙ ap (λ (x : Forest). a.0 +++ x) a.3 ∙ none_behind a.0 in
    subst (Fits v r) (sym e) a.2

-- the parts are none
pub absent : (v : Version) (r : Rule) → Gives v [] (maybe r)
absent v r f rest m = subst (Fits v (maybe r)) (sym m) (is_first is_nothing)

-- the parts are there
pub present : (v : Version) (r : Rule) → Gives v (flat r []) (maybe r)
present v r f rest m = is_second (whole v r f rest m)

-- one of two rules
pub one : (v : Version) (r s : Rule) → Gives v (flat r []) (r ||| s)
one v r s f rest m = is_first (whole v r f rest m)

pub second : (v : Version) (r s : Rule) → Gives v (flat s []) (r ||| s)
second v r s f rest m = is_second (whole v s f rest m)

pub other : (v : Version) (es : List Entry) (r s : Rule) → Gives v es s → Gives v es (r ||| s)
other v es r s p f rest m = is_second (p f rest m)
