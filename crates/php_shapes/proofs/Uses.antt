-- Uses, and items of list forms: groups of the tables that belong together.
use Rattle.std.proofs.Common.{◌≡◌, ◌<◌, Bool, true, false, List, [], ◌∷◌, ◌++◌, length, refl, sym, ap, ◌∙◌, subst, arith}
use Rattle.php_tree.specs.declared.token.Token.{Token}
use Rattle.php_tree.specs.declared.version.Version.{Version}
use Rattle.php_tree.specs.declared.version.Version.TheVariants.{V74, V83}
use Rattle.php_tree.specs.Tree.{Forest, none, ◌+++◌, leaves}
use Rattle.php_terminals.specs.declared.terminal.Terminal.{Terminal}
use Rattle.php_terminals.specs.declared.terminal.Terminal.TheVariants as t
use Rattle.php_terminals.specs.Ahead.{first_of, second_of}
use Rattle.php_terminals.specs.Classify.{terminal}
use Rattle.php_grammar.specs.Accepts.{same_class}
use Rattle.php_exprs.proofs.Forests.{forest_assoc}
use Rattle.php_forms.specs.Declarations as fd
use Rattle.php_forms.specs.Lists as fl
use Rattle.php_shapes.specs.Atoms as at
use Rattle.php_shapes.specs.Names as na
use Rattle.php_shapes.specs.Namespaces as ns
use Rattle.php_shapes.specs.Notation.{Rule, nothing, word, place, ◌~◌, ◌|||◌, many, commas, commas_last, braces}
use Rattle.php_shapes.specs.Places.{TargetOrList}
use Rattle.php_shapes.specs.Shapes.{Fits, is_nothing, is_word, is_both, is_first, is_second, no_more, once_more}
use Rattle.php_shapes.proofs.Entries as sq
use Rattle.php_shapes.proofs.Entries.{Meet, Meets, alias_rule, entries, entry_to, flat, is_backslash, more_classes, plain, use_rest_rule, used_grouped_rule, used_rule}
use Rattle.php_shapes.proofs.Sequences.{Gives, none_behind, pack, whole}
use Rattle.php_shapes.proofs.Repeats.{second_is}
use Rattle.php_shapes.proofs.Told.{bare, first_join, first_none}

-- ---- names that a use gives to classes

used_74 : (x : Terminal) (f : Forest) → Fits V74 (na.imported_name V74) f → Fits V74 (used_rule V74 x) f
used_74 t.As f p = p
used_74 t.Backslash f p = p
used_74 _ f p = p

all_used_74 : (x : Terminal) → Gives V74 (entries V74 (fd.used_class x)) (na.imported_name V74)
all_used_74 t.As = whole V74 (na.imported_name V74)
all_used_74 t.Backslash = whole V74 (na.imported_name V74)
all_used_74 _ = whole V74 (na.imported_class V74)

used_83 : (x : Terminal) → Gives V83 (entries V83 (fd.used_class x)) (used_rule V83 x)
used_83 t.As = whole V83 (word t.ImportedName)
used_83 t.Backslash = whole V83 (word t.ImportedName)
used_83 _ = whole V83 (word t.ImportedClass)

used_is_word : (x : Terminal) (f : Forest) (rest : List Token) → Fits V83 (used_rule V83 x) f → second_of (leaves f ++ rest) ≡ first_of rest
used_is_word t.As f rest p = second_is V83 t.ImportedName f rest p
used_is_word t.Backslash f rest p = second_is V83 t.ImportedName f rest p
used_is_word _ f rest p = second_is V83 t.ImportedClass f rest p

pub used_class_once : (v : Version) (x : Terminal) (f : Forest) (rest : List Token) → second_of (leaves f ++ rest) ≡ x
    → Meet v (entries v (fd.used_class x)) f rest → Meets v sq.used_class f rest
used_class_once V74 x f rest e m = used_74 (first_of rest) f (all_used_74 x f rest m)
used_class_once V83 x f rest e m =
    let p = used_83 x f rest m in
    subst (λ (y : Terminal). Fits V83 (used_rule V83 y) f) (sym e ∙ used_is_word x f rest p) p

grouped_74 : (x : Terminal) (f : Forest) → Fits V74 (na.grouped_name V74) f → Fits V74 (used_grouped_rule V74 x) f
grouped_74 t.As f p = p
grouped_74 _ f p = p

all_grouped_74 : (x : Terminal) → Gives V74 (entries V74 (fd.used_grouped x)) (na.grouped_name V74)
all_grouped_74 t.As = whole V74 (na.grouped_name V74)
all_grouped_74 _ = whole V74 (na.grouped_class V74)

grouped_83 : (x : Terminal) → Gives V83 (entries V83 (fd.used_grouped x)) (used_grouped_rule V83 x)
grouped_83 t.As = whole V83 (word t.GroupedName)
grouped_83 _ = whole V83 (word t.GroupedClass)

grouped_is_word : (x : Terminal) (f : Forest) (rest : List Token) → Fits V83 (used_grouped_rule V83 x) f → second_of (leaves f ++ rest) ≡ first_of rest
grouped_is_word t.As f rest p = second_is V83 t.GroupedName f rest p
grouped_is_word _ f rest p = second_is V83 t.GroupedClass f rest p

pub used_grouped_once : (v : Version) (x : Terminal) (f : Forest) (rest : List Token)
    → second_of (leaves f ++ rest) ≡ x → Meet v (entries v (fd.used_grouped x)) f rest
    → Meets v sq.used_grouped f rest
used_grouped_once V74 x f rest e m = grouped_74 (first_of rest) f (all_grouped_74 x f rest m)
used_grouped_once V83 x f rest e m =
    let p = grouped_83 x f rest m in
    subst (λ (y : Terminal). Fits V83 (used_grouped_rule V83 y) f) (sym e ∙ grouped_is_word x f rest p) p

-- ---- their aliases

pub class_alias_once : (v : Version) (x : Terminal) → Gives v (entries v (fd.class_alias x)) (alias_rule x)
class_alias_once v t.As = whole v (word t.As ~ word t.ClassLabel)
class_alias_once v _ = bare v

as_nothing : (v : Version) (r : Rule) (a b : Forest) → Fits v r a → Fits v nothing b → Fits v r (a +++ b)
as_nothing v r a b p is_nothing = subst (Fits v r) (sym (none_behind a)) p

-- a name and its alias
class_by : (v : Version) (x : Terminal) (a b : Forest) → Fits v (used_rule v x) a → Fits v (alias_rule x) b
    → (is_backslash x ≡ true → ⊥) → Fits v (ns.imported_as_class v) (a +++ b)
class_by v t.As a b p q guard = is_second (is_both p q refl)
class_by v t.Backslash a b p q guard = absurd (guard refl)
class_by v _ a b p q guard = is_first (as_nothing v (na.imported_class v) a b p q)

grouped_by : (v : Version) (x : Terminal) (a b : Forest) → Fits v (used_grouped_rule v x) a → Fits v (alias_rule x) b → Fits v (ns.grouped_as_class v) (a +++ b)
grouped_by v t.As a b p q = is_second (is_first (is_both p q refl))
grouped_by v _ a b p q = is_first (as_nothing v (na.grouped_class v) a b p q)

pub class_grouped_once : (v : Version) (x : Terminal) → Gives v (entries v (fd.class_grouped x)) (ns.grouped_as_class v)
class_grouped_once v t.Function f rest m = is_second (is_second (is_first (whole v (word t.Function ~ ns.grouped v) f rest m)))
class_grouped_once v t.Const f rest m = is_second (is_second (is_second (whole v (word t.Const ~ ns.grouped v) f rest m)))
class_grouped_once v _ f rest m =
    let a = m.3 in
    subst (Fits v (ns.grouped_as_class v)) (sym m.4)
    (subst (λ (y : Forest). Fits v (ns.grouped_as_class v) (m.0 +++ y)) (sym (a.4 ∙ ap (λ (y : Forest). a.0 +++ y) a.3 ∙ none_behind a.0))
    (grouped_by v (first_of (leaves m.1 ++ rest)) m.0 a.0 m.2 (subst (λ (y : Terminal). Fits v (alias_rule y) a.0) (sym (first_join m.1 a.0 a.1 rest a.4)) a.2)))

-- ---- the names of a use

comma_no_backslash : (own : Terminal) → same_class t.Comma own ≡ true → is_backslash own ≡ false
comma_no_backslash t.Backslash e = absurd cc
comma_no_backslash _ e = refl

more_no_backslash : (v : Version) (f : Forest) (rest : List Token) → Fits v (more_classes v) f
    → is_backslash (first_of rest) ≡ false → is_backslash (first_of (leaves f ++ rest)) ≡ false
more_no_backslash v f rest no_more guard = guard
more_no_backslash v f rest (once_more {h = b} (is_both {h = a} (is_word {x} p) q e) w d) guard =
    subst (λ (y : Forest). is_backslash (first_of (leaves y ++ rest)) ≡ false) (sym (d ∙ ap (λ (y : Forest). y +++ b) e)) (comma_no_backslash (terminal x) p)

alias_none : (v : Version) (x : Terminal) (b : Forest) → is_backslash x ≡ true → Fits v (alias_rule x) b → b ≡ none
alias_none v t.Backslash b e is_nothing = refl
alias_none v t.As b e p = absurd cc
alias_none v _ b e is_nothing = refl

both : (b : Bool) → b ≡ true → b ≡ false → ⊥
both true e d = absurd cc
both false e d = absurd cc

pub more_class_uses_repeat : (v : Version) (x : Terminal) (h f : Forest) (rest : List Token)
    → Meet v (entries v (fd.more_class_uses x)) h (leaves f ++ rest) → 0 < length (leaves h)
    → Meets v sq.more_class_uses f rest → Meets v sq.more_class_uses (h +++ f) rest
more_class_uses_repeat v t.Comma h f rest m has ih guard =
    let fits = ih guard in
    let after = leaves f ++ rest in
    let a = m.3 in
    let b = a.3 in
    let x = first_of (leaves a.1 ++ after) in
    let same : a.1 ≡ b.0 = b.4 ∙ ap (λ (y : Forest). b.0 +++ y) b.3 ∙ none_behind b.0 in
    let alias : Fits v (alias_rule x) b.0 = subst (λ (y : Terminal). Fits v (alias_rule y) b.0) (sym (first_join a.1 b.0 b.1 after b.4)) b.2 in
    let last : is_backslash x ≡ true → ⊥ = λ e.
    both (is_backslash x) e (ap is_backslash (first_none a.1 after (same ∙ alias_none v x b.0 e alias)) ∙ more_no_backslash v f rest fits guard) in
    let class : Fits v (ns.imported_as_class v) (a.0 +++ b.0) = class_by v x a.0 b.0 a.2 alias last in
    once_more (is_both m.2 class (m.4 ∙ ap (λ (y : Forest). m.0 +++ y) (a.4 ∙ ap (λ (y : Forest). a.0 +++ y) same))) fits refl
more_class_uses_repeat v _ h f rest m has ih guard = absurd (omega (arith, subst (λ (y : Forest). 0 < length (leaves y)) m has))

pub class_use_rest_once : (v : Version) (x : Terminal) (f : Forest) (rest : List Token)
    → first_of (leaves f ++ rest) ≡ x → Meet v (entries v (fd.class_use_rest x)) f rest
    → is_backslash (first_of rest) ≡ false → Fits v (use_rest_rule v x) f
class_use_rest_once v t.Backslash f rest e m guard = whole v (word t.Backslash ~ braces (commas_last (ns.grouped_as_class v))) f rest m
class_use_rest_once v t.As f rest e m guard =
    let a = m.3 in
    let same : m.1 ≡ a.0 = a.4 ∙ ap (λ (y : Forest). a.0 +++ y) a.3 ∙ none_behind a.0 in
    let alias : Fits v (alias_rule t.As) m.0 = subst (λ (y : Terminal). Fits v (alias_rule y) m.0) (sym (first_join f m.0 m.1 rest m.4) ∙ e) m.2 in
    is_both alias (a.2 (ap is_backslash (first_none a.1 rest a.3) ∙ guard)) (m.4 ∙ ap (λ (y : Forest). m.0 +++ y) same)
class_use_rest_once v x f rest e m guard =
    let a = m.3 in
    let same : m.1 ≡ a.0 = a.4 ∙ ap (λ (y : Forest). a.0 +++ y) a.3 ∙ none_behind a.0 in
    let alias : Fits v nothing m.0 = subst (λ (y : Terminal). Fits v (alias_rule y) m.0) (sym (first_join f m.0 m.1 rest m.4) ∙ e) m.2 in
    subst (Fits v (more_classes v)) (sym (m.4 ∙ ap (λ (y : Forest). m.0 +++ y) same))
    (none_before v (more_classes v) m.0 a.0 alias (a.2 (ap is_backslash (first_none a.1 rest a.3) ∙ guard)))
  where
    none_before : (v : Version) (r : Rule) (a b : Forest) → Fits v nothing a → Fits v r b → Fits v r (a +++ b)
    none_before v r a b is_nothing p = p

classes_by : (v : Version) (x : Terminal) (a b : Forest) → Fits v (used_rule v x) a → Fits v (use_rest_rule v x) b
    → Fits v (commas (ns.imported_as_class v) ||| ns.in_group v (ns.grouped_as_class v)) (a +++ b)
classes_by v t.Backslash a b p q = is_second (is_both p q refl)
classes_by v t.As a b p (is_both {g = c} {h = d} q w e) =
    is_first (is_both (is_second (is_both p q refl)) w (ap (λ (y : Forest). a +++ y) e ∙ sym (forest_assoc a c d)))
classes_by v _ a b p q = is_first (is_both (is_first p) q refl)

-- functions or constants
named_by : (v : Version) → Gives v (flat (na.imported_name v)
    (plain (ns.alias ~ many (word t.Comma ~ ns.imported v) ||| word t.Backslash ~ braces
    (commas_last (ns.grouped_of_kind v))) ∷ [])) (commas (ns.imported v) ||| ns.in_group v (ns.grouped_of_kind v))
named_by v f rest m =
    let a = pack v (na.imported_name v) _ f rest m in
    go a.0 a.1 a.2 a.4 (whole v (ns.alias ~ many (word t.Comma ~ ns.imported v) ||| word t.Backslash ~ braces (commas_last (ns.grouped_of_kind v))) a.1 rest a.3)
  where
    go : (h i : Forest) → Fits v (na.imported_name v) h → f ≡ h +++ i
        → Fits v (ns.alias ~ many (word t.Comma ~ ns.imported v) ||| word t.Backslash ~ braces
        (commas_last (ns.grouped_of_kind v))) i
        → Fits v (commas (ns.imported v) ||| ns.in_group v (ns.grouped_of_kind v)) f
    go h i p e (is_first (is_both {g = a} {h = b} q w d)) = is_first (is_both (is_both p q refl) w (e ∙ ap (λ (y : Forest). h +++ y) d ∙ sym (forest_assoc h a b)))
    go h i p e (is_second q) = is_second (is_both p q e)

pub use_body_once : (v : Version) (x : Terminal) (f : Forest) (rest : List Token) → Meet v (entries v (fd.use_body x)) f rest → Meets v sq.use_body f rest
use_body_once v t.Function f rest m guard = is_first (is_both (is_first m.2) (named_by v m.1 rest m.3) m.4)
use_body_once v t.Const f rest m guard = is_first (is_both (is_second m.2) (named_by v m.1 rest m.3) m.4)
use_body_once v _ f rest m guard =
    let a = m.3 in
    let same : m.1 ≡ a.0 = a.4 ∙ ap (λ (y : Forest). a.0 +++ y) a.3 ∙ none_behind a.0 in
    let uses : Fits v (use_rest_rule v (first_of (leaves m.1 ++ rest))) a.0 =
    subst (λ (y : Terminal). Fits v (use_rest_rule v y) a.0) (sym (first_join m.1 a.0 a.1 rest a.4)) (a.2 (ap is_backslash (first_none a.1 rest a.3) ∙ guard)) in
    is_second (subst (Fits v (commas (ns.imported_as_class v) ||| ns.in_group v (ns.grouped_as_class v))) (sym (m.4 ∙ ap (λ (y : Forest). m.0 +++ y) same))
    (classes_by v (first_of (leaves m.1 ++ rest)) m.0 a.0 m.2 uses))

-- ---- the value of an item of a list form

pub entry_value_once : (v : Version) (x : Terminal) → Gives v (entries v (fl.entry_value x)) (entry_to x)
entry_value_once v t.DoubleArrow = whole v (word t.DoubleArrow ~ at.by_ref ~ place TargetOrList)
entry_value_once v _ = bare v
