-- One name of a use of classes in braces is read as it was.
use Rattle.std.proofs.Common.{◌≡◌, ℕ, ◌≤◌, Bool, true, false, not, List, [], ◌∷◌, ◌++◌, refl, sym, ap, ◌∙◌, subst}
use Rattle.std.proofs.lemmas.Bool.{not-true}
use Rattle.php_tree.specs.declared.token.Token.{Token}
use Rattle.php_tree.specs.declared.version.Version.{Version}
use Rattle.php_tree.specs.declared.version.Version.TheVariants.{V74, V83}
use Rattle.php_tree.specs.Tree.{Forest, none, ◌+++◌, leaves, count}
use Rattle.php_terminals.specs.declared.terminal.Terminal.{Terminal}
use Rattle.php_terminals.specs.declared.terminal.Terminal.TheVariants as t
use Rattle.php_terminals.specs.Ahead.{first_of}
use Rattle.php_forms.specs.declared.item.Group.TheVariants as g
use Rattle.php_forms.specs.declared.item.Item.{Item}
use Rattle.php_forms.specs.declared.item.Item.TheVariants.{Word, Part}
use Rattle.php_forms.specs.Declarations.{class_grouped}
use Rattle.php_forms.specs.Grammar.{Walks}
use Rattle.php_grammar.specs.Tables.{php}
use Rattle.php_shapes.specs.Names.{grouped_class, grouped_name}
use Rattle.php_shapes.specs.Namespaces.{grouped, grouped_as_class}
use Rattle.php_shapes.specs.Notation.{Rule, word, ◌~◌}
use Rattle.php_shapes.specs.Shapes.{Fits, is_first, is_second}
use Rattle.php_shapes.proofs.ReadClasses.{for_all}
use Rattle.php_shapes.proofs.ReadFirst.{nullable, starts}
use Rattle.php_shapes.proofs.ReadEnds.{Below}
use Rattle.php_shapes.proofs.ReadMatch.{before_none, both_is, false_true, fits_alone, matched, matches, where_is, where_it}
use Rattle.php_shapes.proofs.ReadBodies.{group_alone, walks_on}
use Rattle.php_shapes.proofs.ReadStatements.{begins_with, begun, first_in}
use Rattle.php_shapes.proofs.ReadImports.{grouped_kept_walks, grouped_renamed_walks, renames_grouped}
use Rattle.php_shapes.proofs.ReadUses.{is_backslash, name_ends}
use Rattle.php_shapes.proofs.ReadClassUses.{alias_walks, as_class, as_first, ends_are, ends_one, no_alias}

-- ---- one name in braces

kept_grouped : (c : Terminal) → ends_one c ≡ true → renames_grouped c ≡ false
kept_grouped t.Comma h = refl
kept_grouped t.Semi h = refl
kept_grouped t.CloseBrace h = refl
kept_grouped c h = absurd (false_true h)

-- `function` or `const`
abbrev tells_kind : Terminal → Bool
tells_kind t.Function = true
tells_kind t.Const = true
tells_kind _ = false

class_in_group : (c : Terminal) → tells_kind c ≡ false → class_grouped c ≡ Part g.UsedGrouped ∷ Part g.ClassAlias ∷ []
class_in_group t.Function h = absurd (false_true (sym h))
class_in_group t.Const h = absurd (false_true (sym h))
class_in_group c h = refl

abbrev with_alias : Version → Rule
with_alias v = grouped_name v ~ as_class

grouped_begin : (v : Version) → (for_all (λ c. where_it (starts v (grouped_class v) c) (not (tells_kind c))) ≡ true)
    × (for_all (λ c. where_it (starts v (with_alias v) c) (not (tells_kind c))) ≡ true)
    × (nullable (grouped_class v) ≡ false) × (nullable (with_alias v) ≡ false)
unfolding for_all
grouped_begin V74 = (refl, refl, refl, refl)
grouped_begin V83 = (refl, refl, refl, refl)

abbrev kind_items : Terminal → List Item
kind_items w = Word w ∷ Part g.GroupedName ∷ Part g.Alias ∷ []

kind_matches : (v : Version) → (matches v 60 false ((word t.Function ~ grouped v) ∷ []) (kind_items t.Function)
    ends_one ≡ true) × (matches v 60 false ((word t.Const ~ grouped v) ∷ []) (kind_items t.Const) ends_one ≡ true)
    × (begins_with v (word t.Function ~ grouped v) t.Function ≡ true)
    × (begins_with v (word t.Const ~ grouped v) t.Const ≡ true)
unfolding for_all
kind_matches V74 = (refl, refl, refl, refl)
kind_matches V83 = (refl, refl, refl, refl)

no_kind : (v : Version) (r : Rule) (f : Forest) (us : List Token)
    → for_all (λ c. where_it (starts v r c) (not (tells_kind c))) ≡ true → nullable r ≡ false → Fits v r f
    → tells_kind (first_of (leaves f ++ us)) ≡ false
no_kind v r f us b u x = not-true (tells_kind (first_of (leaves f ++ us))) (where_is (starts v r) (λ c. not (tells_kind c)) (first_of (leaves f ++ us)) b (first_in v r f us x u))

group_by : (v : Version) (f : Forest) (us : List Token) (is : List Item)
    → class_grouped (first_of (leaves f ++ us)) ≡ is → Walks (php v) is f us
    → Walks (php v) (Part g.ClassGrouped ∷ []) f us
group_by v f us is e w = group_alone v g.ClassGrouped f us (subst (λ (js : List Item). Walks (php v) js f us) (sym e) w)

module _ (v : Version) (n : ℕ) (below : Below v n) where
  kind_walk : (w : Terminal) (f : Forest) (us : List Token) → matches v 60 false ((word w ~ grouped v) ∷ [])
      (kind_items w) ends_one ≡ true → begins_with v (word w ~ grouped v) w ≡ true → class_grouped w ≡ kind_items w
      → Fits v (word w ~ grouped v) f → count f ≤ n → ends_one (first_of us) ≡ true
      → Walks (php v) (Part g.ClassGrouped ∷ []) f us
  kind_walk w f us m b e x le h = group_by v f us (kind_items w)
      (ap class_grouped (begun v (word w ~ grouped v) w f us x refl b) ∙ e)
      (matched v n below 60 false ((word w ~ grouped v) ∷ []) (kind_items w) ends_one f us m
      (fits_alone v (word w ~ grouped v) f x) le h (λ o. absurd (false_true o)))

  kept_walk : (f : Forest) (us : List Token) → Fits v (grouped_class v) f → ends_one (first_of us) ≡ true → Walks (php v) (Part g.ClassGrouped ∷ []) f us
  kept_walk f us x h =
      let e : class_grouped (first_of (leaves f ++ us)) ≡ Part g.UsedGrouped ∷ Part g.ClassAlias
      ∷ [] = class_in_group (first_of (leaves f ++ us))
      (no_kind v (grouped_class v) f us ((grouped_begin v).0) ((grouped_begin v).2) x) in
      group_by v f us (Part g.UsedGrouped ∷ Part g.ClassAlias ∷ []) e
      (subst (λ (i : Forest). Walks (php v) (Part g.UsedGrouped ∷ Part g.ClassAlias ∷ []) i us) (before_none f)
      (walks_on (php v) (Part g.UsedGrouped ∷ []) (Part g.ClassAlias ∷ []) f none us
      (grouped_kept_walks v f us x (kept_grouped (first_of us) h) (name_ends us ((ends_are (first_of us) h).1)))
      (no_alias v us h)))

  renamed_walk : (f : Forest) (us : List Token) → Fits v (with_alias v) f → Walks (php v) (Part g.ClassGrouped ∷ []) f us
  renamed_walk f us x =
      let e : class_grouped (first_of (leaves f ++ us)) ≡ Part g.UsedGrouped ∷ Part g.ClassAlias
      ∷ [] = class_in_group (first_of (leaves f ++ us))
      (no_kind v (with_alias v) f us ((grouped_begin v).1) ((grouped_begin v).3) x) in
      let p : (o : Forest) × (m : Forest) × Fits v (grouped_name v) o × Fits v as_class m × (f ≡ o +++ m) = both_is v (grouped_name v) as_class f x in
      group_by v f us (Part g.UsedGrouped ∷ Part g.ClassAlias ∷ []) e
      (subst (λ (i : Forest). Walks (php v) (Part g.UsedGrouped ∷ Part g.ClassAlias ∷ []) i us) (sym p.4)
      (walks_on (php v) (Part g.UsedGrouped ∷ []) (Part g.ClassAlias ∷ []) p.0 p.1 us
      (grouped_renamed_walks v p.0 (leaves p.1 ++ us) p.2 (ap renames_grouped (as_first v p.1 us p.3))
      (name_ends (leaves p.1 ++ us) (ap is_backslash (as_first v p.1 us p.3)))) (alias_walks v p.1 us p.3)))

  -- one name
  pub group_walk : (f : Forest) (us : List Token) → Fits v (grouped_as_class v) f → count f ≤ n → ends_one (first_of us) ≡ true → Walks (php v) (Part g.ClassGrouped ∷ []) f us
  group_walk f us (is_first x) le h = kept_walk f us x h
  group_walk f us (is_second (is_first x)) le h = renamed_walk f us x
  group_walk f us (is_second (is_second (is_first x))) le h = kind_walk t.Function f us ((kind_matches v).0) ((kind_matches v).2) refl x le h
  group_walk f us (is_second (is_second (is_second x))) le h = kind_walk t.Const f us ((kind_matches v).1) ((kind_matches v).3) refl x le h
