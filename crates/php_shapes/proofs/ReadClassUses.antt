-- Uses of classes are read as they were.
use Rattle.std.proofs.Common.{◌≡◌, Bool, true, false, List, [], ◌∷◌, ◌++◌, refl, sym, ap, ◌∙◌, subst}
use Rattle.php_tree.specs.declared.token.Token.{Token}
use Rattle.php_tree.specs.declared.version.Version.{Version}
use Rattle.php_tree.specs.declared.version.Version.TheVariants.{V74, V83}
use Rattle.php_tree.specs.Tree.{Forest, none, leaf, ◌+++◌, leaves}
use Rattle.php_terminals.specs.declared.terminal.Terminal.{Terminal}
use Rattle.php_terminals.specs.declared.terminal.Terminal.TheVariants as t
use Rattle.php_terminals.specs.Ahead.{first_of}
use Rattle.php_forms.specs.declared.item.Group.TheVariants as g
use Rattle.php_forms.specs.declared.item.Item.{Item}
use Rattle.php_forms.specs.declared.item.Item.TheVariants.{Word, Part, Repeats}
use Rattle.php_forms.specs.Declarations.{class_alias, class_use_rest, more_class_uses}
use Rattle.php_forms.specs.Grammar.{Walks, ends, word as a_word, stop, repeat}
use Rattle.php_grammar.specs.Accepts.{accepts}
use Rattle.php_grammar.specs.Tables.{php}
use Rattle.php_exprs.proofs.Forests.{forest_assoc}
use Rattle.php_shapes.specs.Names.{imported_name}
use Rattle.php_shapes.specs.Namespaces.{imported_as_class}
use Rattle.php_shapes.specs.Notation.{Rule, word, ◌~◌, many, commas}
use Rattle.php_shapes.specs.Shapes.{Fits, is_first, is_second, no_more, once_more}
use Rattle.php_shapes.proofs.ReadClasses.{for_all}
use Rattle.php_shapes.proofs.ReadFirst.{first}
use Rattle.php_shapes.proofs.ReadMatch.{before_none, both_is, false_true, first_class, fits_alone, leaves_before, where_is, where_it, word_is}
use Rattle.php_shapes.proofs.ReadBodies.{group_alone, has_token, walks_on}
use Rattle.php_shapes.proofs.ReadStatements.{begins_with, begun}
use Rattle.php_shapes.proofs.ReadImports.{kept_walks, renamed_walks, renames}
use Rattle.php_shapes.proofs.ReadUses.{is_backslash, is_semi, name_ends}

-- what stands behind a name in a use, with its alias
abbrev pub ends_one : Terminal → Bool
ends_one t.Comma = true
ends_one t.Semi = true
ends_one t.CloseBrace = true
ends_one _ = false

pub ends_are : (c : Terminal) → ends_one c ≡ true → (renames c ≡ false) × (is_backslash c ≡ false) × (class_alias c ≡ [])
ends_are t.Comma h = (refl, refl, refl)
ends_are t.Semi h = (refl, refl, refl)
ends_are t.CloseBrace h = (refl, refl, refl)
ends_are c h = absurd (false_true h)

-- the alias of a class
abbrev pub as_class : Rule
as_class = word t.As ~ word t.ClassLabel

as_begins : (v : Version) → begins_with v as_class t.As ≡ true
unfolding for_all
as_begins V74 = refl
as_begins V83 = refl

pub as_first : (v : Version) (f : Forest) (us : List Token) → Fits v as_class f → first_of (leaves f ++ us) ≡ t.As
as_first v f us x = begun v as_class t.As f us x refl (as_begins v)

-- an alias of a class
pub alias_walks : (v : Version) (f : Forest) (us : List Token) → Fits v as_class f → Walks (php v) (Part g.ClassAlias ∷ []) f us
alias_walks v f us x =
    let p : (o : Forest) × (m : Forest) × Fits v (word t.As) o × Fits v (word t.ClassLabel) m × (f ≡ o +++ m) = both_is v (word t.As) (word t.ClassLabel) f x in
    let a : (z : Token) × (p.0 ≡ leaf z none) × (accepts v t.As z ≡ true) = word_is v t.As p.0 p.2 in
    let l : (z : Token) × (p.1 ≡ leaf z none) × (accepts v t.ClassLabel z ≡ true) = word_is v t.ClassLabel p.1 p.3 in
    let at : f ≡ leaf a.0 (leaf l.0 none) = p.4 ∙ ap (λ (i : Forest). i +++ p.1) a.1 ∙ ap (leaf a.0) l.1 in
    group_alone v g.ClassAlias f us (subst (λ (is : List Item). Walks (php v) is f us) (sym (ap class_alias (as_first v f us x)))
    (subst (λ (i : Forest). Walks (php v) (Word t.As ∷ Word t.ClassLabel ∷ []) i us) (sym at) (a_word a.2 (a_word l.2 ends))))

-- no alias
pub no_alias : (v : Version) (us : List Token) → ends_one (first_of us) ≡ true → Walks (php v) (Part g.ClassAlias ∷ []) none us
no_alias v us h = group_alone v g.ClassAlias none us (subst (λ (is : List Item). Walks (php v) is none us) (sym ((ends_are (first_of us) h).2)) ends)

-- A name and its alias.
record Imported (v : Version) (f : Forest) : Type 0 where
  name : Forest
  alias : Forest
  whole : f ≡ name +++ alias
  used : (us : List Token) → ends_one (first_of us) ≡ true → Walks (php v) (Part g.UsedClass ∷ []) name (leaves alias ++ us)
  aliased : (us : List Token) → ends_one (first_of us) ≡ true → Walks (php v) (Part g.ClassAlias ∷ []) alias us
  closed : (us : List Token) → ends_one (first_of us) ≡ true → is_backslash (first_of (leaves alias ++ us)) ≡ false

imported_is : (v : Version) (f : Forest) → Fits v (imported_as_class v) f → Imported v f
imported_is v f (is_first x) = record {
  name = f;
  alias = none;
  whole = sym (before_none f);
  used = λ us h. kept_walks v f us x ((ends_are (first_of us) h).0) (name_ends us ((ends_are (first_of us) h).1));
  aliased = no_alias v;
  closed = λ us h. (ends_are (first_of us) h).1;
}
imported_is v f (is_second x) =
    let p : (o : Forest) × (m : Forest) × Fits v (imported_name v) o × Fits v as_class m × (f ≡ o +++ m) = both_is v (imported_name v) as_class f x in
    record {
      name = p.0;
      alias = p.1;
      whole = p.4;
      used = λ us h. renamed_walks v p.0 (leaves p.1 ++ us) p.2 (ap renames (as_first v p.1 us p.3)) (name_ends (leaves p.1 ++ us) (ap is_backslash (as_first v p.1 us p.3)));
      aliased = λ us h. alias_walks v p.1 us p.3;
      closed = λ us h. ap is_backslash (as_first v p.1 us p.3);
    }

-- one name with its alias
one_walks : (v : Version) (f : Forest) (us : List Token) → Fits v (imported_as_class v) f
    → ends_one (first_of us) ≡ true → Walks (php v) (Part g.UsedClass ∷ Part g.ClassAlias ∷ []) f us
one_walks v f us x h =
    let i : Imported v f = imported_is v f x in
    subst (λ (m : Forest). Walks (php v) (Part g.UsedClass ∷ Part g.ClassAlias ∷ []) m us) (sym i.whole)
    (walks_on (php v) (Part g.UsedClass ∷ []) (Part g.ClassAlias ∷ []) i.name i.alias us (i.used us h) (i.aliased us h))

-- ---- several

abbrev more_imported : Version → Rule
more_imported v = word t.Comma ~ imported_as_class v

more_begins : (v : Version) → (begins_with v (more_imported v) t.Comma ≡ true) × (for_all (λ c. where_it (first v (many (more_imported v) ∷ []) is_semi c) (ends_one c)) ≡ true)
unfolding for_all
more_begins V74 = (refl, refl)
more_begins V83 = (refl, refl)

more_end : (v : Version) (f : Forest) (us : List Token) → Fits v (many (more_imported v)) f → is_semi (first_of us) ≡ true → ends_one (first_of (leaves f ++ us)) ≡ true
more_end v f us x h = where_is (first v (many (more_imported v) ∷ []) is_semi) ends_one (first_of (leaves f ++ us))
    ((more_begins v).1) (first_class v (many (more_imported v) ∷ []) is_semi f us
    (fits_alone v (many (more_imported v)) f x) h)

semi_ends : (c : Terminal) → is_semi c ≡ true → more_class_uses c ≡ []
semi_ends t.Semi h = refl
semi_ends c h = absurd (false_true h)

-- one more
next_walks : (v : Version) (a : Forest) (us : List Token) → Fits v (more_imported v) a → ends_one (first_of us) ≡ true
    → Walks (php v) (Word t.Comma ∷ Part g.UsedClass ∷ Part g.ClassAlias ∷ []) a us
next_walks v a us x h =
    let p : (o : Forest) × (e : Forest) × Fits v (word t.Comma) o × Fits v (imported_as_class v) e × (a ≡ o +++ e) = both_is v (word t.Comma) (imported_as_class v) a x in
    let z : (c : Token) × (p.0 ≡ leaf c none) × (accepts v t.Comma c ≡ true) = word_is v t.Comma p.0 p.2 in
    subst (λ (i : Forest). Walks (php v) (Word t.Comma ∷ Part g.UsedClass ∷ Part g.ClassAlias ∷ []) i us)
    (sym (p.4 ∙ ap (λ (i : Forest). i +++ p.1) z.1)) (a_word z.2 (one_walks v p.1 us p.3 h))

more_by : (v : Version) (r : Rule) (us : List Token) → ((a : Forest) → Fits v r a → Fits v (more_imported v) a)
    → ((m : Forest) → Fits v (many r) m → ends_one (first_of (leaves m ++ us)) ≡ true) → is_semi (first_of us) ≡ true
    → (f : Forest) → Fits v (many r) f → Walks (php v) (Repeats g.MoreClassUses ∷ []) f us
more_by v r us same closed h f no_more = stop (semi_ends (first_of us) h) ends
more_by v r us same closed h f (once_more {g = a} {h = m} x y at) =
    subst (λ (i : Forest). Walks (php v) (Repeats g.MoreClassUses ∷ []) i us) (sym at)
    (repeat {h = a} {f = m} (ap more_class_uses (begun v (more_imported v) t.Comma a (leaves m ++ us) (same a x) refl ((more_begins v).0)))
    (next_walks v a (leaves m ++ us) (same a x) (closed m y))
    (has_token v (more_imported v) a (same a x) refl) (more_by v r us same closed h m y))

more_walks : (v : Version) (f : Forest) (us : List Token) → Fits v (many (more_imported v)) f → is_semi (first_of us) ≡ true → Walks (php v) (Repeats g.MoreClassUses ∷ []) f us
more_walks v f us x h = more_by v (more_imported v) us (λ a y. y) (λ m y. more_end v m us y h) h f x

rest_of : (c : Terminal) → is_backslash c ≡ false → class_use_rest c ≡ Part g.ClassAlias ∷ Repeats g.MoreClassUses ∷ []
rest_of t.Backslash h = absurd (false_true (sym h))
rest_of c h = refl

-- Classes with commas between, before the semicolon.
pub classes_walk : (v : Version) (f : Forest) (us : List Token) → Fits v (commas (imported_as_class v)) f
    → is_semi (first_of us) ≡ true → Walks (php v) (Part g.UsedClass ∷ Part g.ClassUseRest ∷ []) f us
classes_walk v f us x h =
    let p : (a : Forest) × (m : Forest) × Fits v (imported_as_class v) a × Fits v (many (more_imported v)) m
    × (f ≡ a +++ m) = both_is v (imported_as_class v) (many (more_imported v)) f x in
    let i : Imported v p.0 = imported_is v p.0 p.2 in
    let r : Forest = i.alias +++ p.1 in
    let at : f ≡ i.name +++ r = p.4 ∙ ap (λ (y : Forest). y +++ p.1) i.whole ∙ forest_assoc i.name i.alias p.1 in
    let next : List Token = leaves p.1 ++ us in
    let e : ends_one (first_of next) ≡ true = more_end v p.1 us p.3 h in
    let same : leaves r ++ us ≡ leaves i.alias ++ next = leaves_before i.alias p.1 us in
    let no : is_backslash (first_of (leaves r ++ us)) ≡ false = ap (λ (ts : List Token). is_backslash (first_of ts)) same ∙ i.closed next e in
    subst (λ (y : Forest). Walks (php v) (Part g.UsedClass ∷ Part g.ClassUseRest ∷ []) y us) (sym at)
    (walks_on (php v) (Part g.UsedClass ∷ []) (Part g.ClassUseRest ∷ []) i.name r us
    (subst (λ (ts : List Token). Walks (php v) (Part g.UsedClass ∷ []) i.name ts) (sym same) (i.used next e))
    (group_alone v g.ClassUseRest r us (subst (λ (is : List Item). Walks (php v) is r us) (sym (rest_of (first_of (leaves r ++ us)) no))
    (walks_on (php v) (Part g.ClassAlias ∷ []) (Repeats g.MoreClassUses ∷ []) i.alias p.1 us (i.aliased next e) (more_walks v p.1 us p.3 h)))))
