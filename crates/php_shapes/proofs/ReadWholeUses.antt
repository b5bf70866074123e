-- Whole uses are read as they were.
use Rattle.std.proofs.Common.{◌≡◌, ℕ, ◌<◌, ◌≤◌, Bool, true, false, not, List, [], ◌∷◌, ◌++◌, length, inl, inr, refl, sym, ap, ◌∙◌, subst}
use Rattle.std.proofs.lemmas.Bool.{not-true}
use Rattle.php_tree.specs.declared.kind.NodeKind.TheVariants as k
use Rattle.php_tree.specs.declared.token.Token.{Token}
use Rattle.php_tree.specs.declared.version.Version.{Version}
use Rattle.php_tree.specs.declared.version.Version.TheVariants.{V74, V83}
use Rattle.php_tree.specs.Tree.{Forest, none, leaf, ◌+++◌, leaves, count}
use Rattle.php_terminals.specs.declared.terminal.Terminal.{Terminal}
use Rattle.php_terminals.specs.declared.terminal.Terminal.TheVariants as t
use Rattle.php_terminals.specs.Classify.{terminal}
use Rattle.php_terminals.specs.Ahead.{first_of, second_of}
use Rattle.php_forms.specs.declared.item.Group.TheVariants as g
use Rattle.php_forms.specs.declared.item.Item.{Item}
use Rattle.php_forms.specs.declared.item.Item.TheVariants.{Word, Part, Repeats}
use Rattle.php_forms.specs.Declarations.{class_use_rest, more_class_grouped, use_body}
use Rattle.php_forms.specs.Grammar.{Walks, head, ends, word as a_word, part, stop, repeat}
use Rattle.php_grammar.specs.Accepts.{accepts, same_class}
use Rattle.php_grammar.specs.Tables.{php}
use Rattle.php_exprs.proofs.Forests.{forest_assoc}
use Rattle.php_shapes.specs.Forms.{form}
use Rattle.php_shapes.specs.Names.{imported_name}
use Rattle.php_shapes.specs.Namespaces.{grouped_as_class, grouped_of_kind, imported, imported_as_class, in_group}
use Rattle.php_shapes.specs.Notation.{Rule, word, ◌~◌, ◌|||◌, many, maybe, commas, commas_last, braces}
use Rattle.php_shapes.specs.Shapes.{Fits, is_first, is_second, no_more, once_more}
use Rattle.php_shapes.proofs.ReadClasses.{could, for_all, pinned, whenever}
use Rattle.php_shapes.proofs.ReadFirst.{first, nullable, starts}
use Rattle.php_shapes.proofs.ReadEnds.{Below}
use Rattle.php_shapes.proofs.ReadMatch.{both_is, either_is, false_true, first_class, fits_alone, leaves_before, left_le, nothing_is, right_le, where_is, where_it, word_is}
use Rattle.php_shapes.proofs.ReadBodies.{group_alone, has_token, walks_on}
use Rattle.php_shapes.proofs.ReadDeclarations.{after_word}
use Rattle.php_shapes.proofs.ReadNearest.{shaped}
use Rattle.php_shapes.proofs.ReadStatements.{begins_with, begun, first_in, settled, StatementGrows}
use Rattle.php_shapes.proofs.ReadImports.{NameEnds, renamed_walks, renames}
use Rattle.php_shapes.proofs.ReadUses.{ends_before_group, group_of, is_semi, kind_walks}
use Rattle.php_shapes.proofs.ReadClassUses.{classes_walk, ends_one}
use Rattle.php_shapes.proofs.ReadGroupedUses.{group_walk}

-- ---- names in braces

abbrev more_grouped_rule : Version → Rule
more_grouped_rule v = word t.Comma ~ grouped_as_class v

abbrev last_comma : Rule
last_comma = maybe (word t.Comma)

abbrev closes_group : Terminal → Bool
closes_group t.CloseBrace = true
closes_group _ = false

brace_of : (c : Terminal) → closes_group c ≡ true → c ≡ t.CloseBrace
brace_of t.CloseBrace h = refl
brace_of c h = absurd (false_true h)

more_of : (d : Terminal) → closes_group d ≡ false → more_class_grouped t.Comma d ≡ Word t.Comma ∷ Part g.ClassGrouped ∷ []
more_of t.CloseBrace h = absurd (false_true (sym h))
more_of d h = refl

comma_pinned : (v : Version) → (for_all (λ c. whenever (could v t.Comma c) (same_class t.Comma c)) ≡ true)
    × (for_all (λ c. whenever (could v t.CloseBrace c) (same_class t.CloseBrace c)) ≡ true)
    × (for_all (λ c. whenever (could v t.Backslash c) (same_class t.Backslash c)) ≡ true)
    × (for_all (λ c. whenever (could v t.OpenBrace c) (same_class t.OpenBrace c)) ≡ true)
unfolding for_all
comma_pinned V74 = (refl, refl, refl, refl)
comma_pinned V83 = (refl, refl, refl, refl)

group_begins : (v : Version) → (for_all (λ c. where_it (starts v (grouped_as_class v) c) (not (closes_group c))) ≡
    true) × (for_all (λ c. where_it (first v (many (more_grouped_rule v) ∷ last_comma ∷ []) closes_group c)
    (ends_one c)) ≡ true) × (nullable (grouped_as_class v) ≡ false)
unfolding for_all
group_begins V74 = (refl, refl, refl)
group_begins V83 = (refl, refl, refl)

comma_walks : (v : Version) (h : Forest) (us : List Token) → Fits v last_comma h → first_of us ≡ t.CloseBrace → Walks (php v) (Repeats g.MoreClassGrouped ∷ []) h us
comma_walks v h us (is_first x) e = subst (λ (i : Forest). Walks (php v) (Repeats g.MoreClassGrouped ∷ []) i us)
    (sym (nothing_is v h x)) (stop (ap (λ (c : Terminal). more_class_grouped c (second_of us)) e) ends)
comma_walks v h us (is_second x) e =
    let q : (z : Token) × (h ≡ leaf z none) × (accepts v t.Comma z ≡ true) = word_is v t.Comma h x in
    subst (λ (i : Forest). Walks (php v) (Repeats g.MoreClassGrouped ∷ []) i us) (sym q.1)
    (repeat {h = leaf q.0 none} {f = none} (ap (λ (c : Terminal). more_class_grouped c (first_of us))
    (pinned v t.Comma q.0 ((comma_pinned v).0) q.2) ∙ ap (more_class_grouped t.Comma) e) (a_word q.2 ends)
    (subst (λ (i : Forest). 0 < length (leaves i)) q.1 (has_token v (word t.Comma) h x refl))
    (stop (ap (λ (c : Terminal). more_class_grouped c (second_of us)) e) ends))

next_repeat : (v : Version) (a : Forest) (us : List Token) → Fits v (more_grouped_rule v) a
    → more_class_grouped (first_of (leaves a ++ us)) (second_of (leaves a ++ us)) ≡ Word t.Comma ∷ Part g.ClassGrouped
    ∷ []
next_repeat v a us x =
    let q : (z : Token) × (m : Forest) × (a ≡ leaf z m) × (terminal z ≡ t.Comma)
    × Fits v (grouped_as_class v) m = after_word v t.Comma (grouped_as_class v) a ((comma_pinned v).0) x in
    let next : Terminal = first_of (leaves q.1 ++ us) in
    ap (λ (i : Forest). more_class_grouped (first_of (leaves i ++ us)) (second_of (leaves i ++ us))) q.2
    ∙ ap (λ (c : Terminal). more_class_grouped c next) q.3
    ∙ more_of next (not-true (closes_group next)
    (where_is (starts v (grouped_as_class v)) (λ c. not (closes_group c)) next ((group_begins v).0)
    (first_in v (grouped_as_class v) q.1 us q.4 ((group_begins v).2))))

module _ (v : Version) (n : ℕ) (below : Below v n) where
  next_walks : (a : Forest) (us : List Token) → Fits v (more_grouped_rule v) a → count a ≤ n
      → ends_one (first_of us) ≡ true → Walks (php v) (Word t.Comma ∷ Part g.ClassGrouped ∷ []) a us
  next_walks a us x le h =
      let p : (o : Forest) × (e : Forest) × Fits v (word t.Comma) o × Fits v (grouped_as_class v) e × (a ≡ o +++ e) = both_is v (word t.Comma) (grouped_as_class v) a x in
      let z : (c : Token) × (p.0 ≡ leaf c none) × (accepts v t.Comma c ≡ true) = word_is v t.Comma p.0 p.2 in
      subst (λ (i : Forest). Walks (php v) (Word t.Comma ∷ Part g.ClassGrouped ∷ []) i us)
      (sym (p.4 ∙ ap (λ (i : Forest). i +++ p.1) z.1))
      (a_word z.2 (group_walk v n below p.1 us p.3
      (right_le p.0 p.1 n (subst (λ (i : Forest). count i ≤ n) p.4 le)) h))

  more_by : (r : Rule) (h : Forest) (us : List Token) → ((a : Forest) → Fits v r a → Fits v (more_grouped_rule v) a)
      → ((m : Forest) → Fits v (many r) m → ends_one (first_of (leaves (m +++ h) ++ us)) ≡ true) → Fits v last_comma h
      → first_of us ≡ t.CloseBrace → (f : Forest) → Fits v (many r) f → count f ≤ n
      → Walks (php v) (Repeats g.MoreClassGrouped ∷ []) (f +++ h) us
  more_by r h us same closed y e f no_more le = comma_walks v h us y e
  more_by r h us same closed y e f (once_more {g = a} {h = m} x xs at) le =
      let le2 : count (a +++ m) ≤ n = subst (λ (i : Forest). count i ≤ n) at le in
      subst (λ (i : Forest). Walks (php v) (Repeats g.MoreClassGrouped ∷ []) i us) (sym (ap (λ (i : Forest). i +++ h) at ∙ forest_assoc a m h))
      (repeat {h = a} {f = m +++ h} (next_repeat v a (leaves (m +++ h) ++ us) (same a x))
      (next_walks a (leaves (m +++ h) ++ us) (same a x) (left_le a m n le2) (closed m xs))
      (has_token v (more_grouped_rule v) a (same a x) refl)
      (more_by r h us same closed y e m xs (right_le a m n le2)))

  -- the names in braces, from the first on
  names_walk : (e m h c : Forest) (us : List Token) → Fits v (grouped_as_class v) e
      → Fits v (many (more_grouped_rule v)) m → Fits v last_comma h → Fits v (word t.CloseBrace) c
      → count (e +++ m) ≤ n → Walks (php v) (Part g.ClassGrouped ∷ Repeats g.MoreClassGrouped ∷ Word t.CloseBrace ∷ [])
      (e +++ ((m +++ h) +++ c)) us
  names_walk e m h c us xe xm xh xc le =
      let z : (b : Token) × (c ≡ leaf b none) × (accepts v t.CloseBrace b ≡ true) = word_is v t.CloseBrace c xc in
      let brace : first_of (leaves c ++ us) ≡ t.CloseBrace = ap (λ (i : Forest). first_of (leaves i ++ us)) z.1 ∙ pinned v t.CloseBrace z.0 ((comma_pinned v).1) z.2 in
      let closed : (k : Forest) → Fits v (many (more_grouped_rule v)) k
      → ends_one (first_of (leaves (k +++ h) ++ (leaves c ++ us))) ≡ true =
      λ k y. where_is (first v (many (more_grouped_rule v) ∷ last_comma ∷ []) closes_group) ends_one
      (first_of (leaves (k +++ h) ++ (leaves c ++ us))) ((group_begins v).1)
      (first_class v (many (more_grouped_rule v) ∷ last_comma ∷ []) closes_group (k +++ h) (leaves c ++ us)
      (k, h, y, fits_alone v last_comma h xh, refl) (ap closes_group brace)) in
      let same : leaves ((m +++ h) +++ c) ++ us ≡ leaves (m +++ h) ++ (leaves c ++ us) = leaves_before (m +++ h) c us in
      walks_on (php v) (Part g.ClassGrouped ∷ []) (Repeats g.MoreClassGrouped ∷ Word t.CloseBrace ∷ []) e ((m +++ h) +++ c) us
      (group_walk v n below e (leaves ((m +++ h) +++ c) ++ us) xe (left_le e m n le) (ap (λ (ts : List Token). ends_one (first_of ts)) same ∙ closed m xm))
      (walks_on (php v) (Repeats g.MoreClassGrouped ∷ []) (Word t.CloseBrace ∷ []) (m +++ h) c us
      (more_by (more_grouped_rule v) h (leaves c ++ us) (λ a y. y) closed xh brace m xm (right_le e m n le))
      (subst (λ (i : Forest). Walks (php v) (Word t.CloseBrace ∷ []) i us) (sym z.1) (a_word z.2 ends)))

  -- braces behind a name
  braces_walk : (f : Forest) (us : List Token) → Fits v (group_of (grouped_as_class v)) f → count f ≤ n
      → Walks (php v) (Word t.Backslash ∷ Word t.OpenBrace ∷ Part g.ClassGrouped ∷ Repeats g.MoreClassGrouped
      ∷ Word t.CloseBrace ∷ []) f us
  braces_walk f us x le =
      let r : Rule = grouped_as_class v in
      let p : (b : Forest) × (m : Forest) × Fits v (word t.Backslash) b × Fits v (braces (commas_last r)) m
      × (f ≡ b +++ m) = both_is v (word t.Backslash) (braces (commas_last r)) f x in
      let o : (b : Forest) × (m : Forest) × Fits v (word t.OpenBrace) b × Fits v (commas_last r ~ word t.CloseBrace) m
      × (p.1 ≡ b +++ m) = both_is v (word t.OpenBrace) (commas_last r ~ word t.CloseBrace) p.1 p.3 in
      let q : (b : Forest) × (m : Forest) × Fits v (commas_last r) b × Fits v (word t.CloseBrace) m × (o.1 ≡ b +++ m) = both_is v (commas_last r) (word t.CloseBrace) o.1 o.3 in
      let l : (b : Forest) × (m : Forest) × Fits v (commas r) b × Fits v last_comma m × (q.0 ≡ b +++ m) = both_is v (commas r) last_comma q.0 q.2 in
      let e : (b : Forest) × (m : Forest) × Fits v r b × Fits v (many (more_grouped_rule v)) m × (l.0 ≡ b +++ m) = both_is v r (many (more_grouped_rule v)) l.0 l.2 in
      let y : (z : Token) × (p.0 ≡ leaf z none) × (accepts v t.Backslash z ≡ true) = word_is v t.Backslash p.0 p.2 in
      let z : (z : Token) × (o.0 ≡ leaf z none) × (accepts v t.OpenBrace z ≡ true) = word_is v t.OpenBrace o.0 o.2 in
      let inner : o.1 ≡ e.0 +++ ((e.1 +++ l.1) +++ q.1) = q.4
      ∙ ap (λ (i : Forest). i +++ q.1) (l.4 ∙ ap (λ (i : Forest). i +++ l.1) e.4 ∙ forest_assoc e.0 e.1 l.1)
      ∙ forest_assoc e.0 (e.1 +++ l.1) q.1 in
      let at : f ≡ leaf y.0 (leaf z.0 (e.0 +++ ((e.1 +++ l.1) +++ q.1))) = p.4 ∙ ap (λ (i : Forest). i +++ p.1) y.1
      ∙ ap (leaf y.0) (o.4 ∙ ap (λ (i : Forest). i +++ o.1) z.1 ∙ ap (leaf z.0) inner) in
      let le1 : count p.1 ≤ n = right_le p.0 p.1 n (subst (λ (i : Forest). count i ≤ n) p.4 le) in
      let le2 : count o.1 ≤ n = right_le o.0 o.1 n (subst (λ (i : Forest). count i ≤ n) o.4 le1) in
      let le3 : count q.0 ≤ n = left_le q.0 q.1 n (subst (λ (i : Forest). count i ≤ n) q.4 le2) in
      let le4 : count l.0 ≤ n = left_le l.0 l.1 n (subst (λ (i : Forest). count i ≤ n) l.4 le3) in
      subst (λ (i : Forest). Walks (php v) (Word t.Backslash ∷ Word t.OpenBrace ∷ Part g.ClassGrouped ∷ Repeats g.MoreClassGrouped ∷ Word t.CloseBrace ∷ []) i us) (sym at)
      (a_word y.2 (a_word z.2 (names_walk e.0 e.1 l.1 q.1 us e.2 e.3 l.3 q.3 (subst (λ (i : Forest). count i ≤ n) e.4 le4))))

  -- a name and braces
  group_walks : (f : Forest) (us : List Token) → Fits v (in_group v (grouped_as_class v)) f → count f ≤ n → Walks (php v) (Part g.UsedClass ∷ Part g.ClassUseRest ∷ []) f us
  group_walks f us x le =
      let p : (o : Forest) × (m : Forest) × Fits v (imported_name v) o × Fits v (group_of (grouped_as_class v)) m
      × (f ≡ o +++ m) = both_is v (imported_name v) (group_of (grouped_as_class v)) f x in
      let e : (first_of (leaves p.1 ++ us) ≡ t.Backslash) × NameEnds (leaves p.1 ++ us) = ends_before_group v (grouped_as_class v) p.1 us p.3 in
      subst (λ (i : Forest). Walks (php v) (Part g.UsedClass ∷ Part g.ClassUseRest ∷ []) i us) (sym p.4)
      (walks_on (php v) (Part g.UsedClass ∷ []) (Part g.ClassUseRest ∷ []) p.0 p.1 us (renamed_walks v p.0 (leaves p.1 ++ us) p.2 (ap renames e.0) e.1)
      (group_alone v g.ClassUseRest p.1 us (subst (λ (is : List Item). Walks (php v) is p.1 us)
      (sym (ap class_use_rest e.0)) (braces_walk p.1 us p.3
      (right_le p.0 p.1 n (subst (λ (i : Forest). count i ≤ n) p.4 le))))))

-- ---- the whole

-- `function` or `const`
abbrev tells_kind : Terminal → Bool
tells_kind t.Function = true
tells_kind t.Const = true
tells_kind _ = false

use_of_classes : (c : Terminal) → tells_kind c ≡ false → use_body c ≡ Part g.UsedClass ∷ Part g.ClassUseRest ∷ []
use_of_classes t.Function h = absurd (false_true (sym h))
use_of_classes t.Const h = absurd (false_true (sym h))
use_of_classes c h = refl

abbrev kind_use : Version → Rule
kind_use v = (word t.Function ||| word t.Const) ~ (commas (imported v) ||| in_group v (grouped_of_kind v))

abbrev class_use : Version → Rule
class_use v = commas (imported_as_class v) ||| in_group v (grouped_as_class v)

uses_begin : (v : Version) → (for_all (λ c. where_it (starts v (class_use v) c) (not (tells_kind c))) ≡ true)
    × (nullable (class_use v) ≡ false) × (for_all (λ c. whenever (could v t.Semi c) (same_class t.Semi c)) ≡ true)
    × (begins_with v (form v k.Use) t.Use ≡ true)
unfolding for_all
uses_begin V74 = (refl, refl, refl, refl)
uses_begin V83 = (refl, refl, refl, refl)

class_walks : (v : Version) (n : ℕ) → Below v n → (f : Forest) (us : List Token) → Fits v (class_use v) f
    → count f ≤ n → is_semi (first_of us) ≡ true → Walks (php v) (use_body (first_of (leaves f ++ us))) f us
class_walks v n below f us x le h =
    let no : tells_kind (first_of (leaves f ++ us)) ≡ false =
    not-true (tells_kind (first_of (leaves f ++ us)))
    (where_is (starts v (class_use v)) (λ c. not (tells_kind c)) (first_of (leaves f ++ us)) ((uses_begin v).0)
    (first_in v (class_use v) f us x ((uses_begin v).1))) in
    subst (λ (is : List Item). Walks (php v) is f us) (sym (use_of_classes (first_of (leaves f ++ us)) no))
    (elim (either_is v (commas (imported_as_class v)) (in_group v (grouped_as_class v)) f x) [
      | inl y ↦ classes_walk v f us y h
      | inr y ↦ group_walks v n below f us y le
    ])

body_walks : (v : Version) (n : ℕ) → Below v n → (f : Forest) (us : List Token)
    → Fits v (kind_use v ||| class_use v) f → count f ≤ n → is_semi (first_of us) ≡ true
    → Walks (php v) (use_body (first_of (leaves f ++ us))) f us
body_walks v n below f us x le h = elim (either_is v (kind_use v) (class_use v) f x) [
  | inl y ↦ kind_walks v n below f us y le h
  | inr y ↦ class_walks v n below f us y le h
]

pub use_grows : (v : Version) (n : ℕ) → Below v n → StatementGrows v n k.Use
use_grows v n below c rest le x st =
    let y : Fits v (form v k.Use) c = shaped v k.Use c x in
    let p : (o : Forest) × (m : Forest) × Fits v (word t.Use) o
    × Fits v ((kind_use v ||| class_use v) ~ word t.Semi) m
    × (c ≡ o +++ m) = both_is v (word t.Use) ((kind_use v ||| class_use v) ~ word t.Semi) c y in
    let q : (f : Forest) × (m : Forest) × Fits v (kind_use v ||| class_use v) f × Fits v (word t.Semi) m
    × (p.1 ≡ f +++ m) = both_is v (kind_use v ||| class_use v) (word t.Semi) p.1 p.3 in
    let u : (z : Token) × (p.0 ≡ leaf z none) × (accepts v t.Use z ≡ true) = word_is v t.Use p.0 p.2 in
    let z : (z : Token) × (q.1 ≡ leaf z none) × (accepts v t.Semi z ≡ true) = word_is v t.Semi q.1 q.3 in
    let at : c ≡ leaf u.0 (q.0 +++ leaf z.0 none) = p.4 ∙ ap (λ (i : Forest). i +++ p.1) u.1 ∙ ap (leaf u.0) (q.4 ∙ ap (λ (i : Forest). q.0 +++ i) z.1) in
    let semi : is_semi (terminal z.0) ≡ true = ap is_semi (pinned v t.Semi z.0 ((uses_begin v).2) z.2) in
    let less : count q.0 ≤ n = left_le q.0 q.1 n (subst (λ (i : Forest). count i ≤ n) q.4 (right_le p.0 p.1 n (subst (λ (i : Forest). count i ≤ n) p.4 le))) in
    head (settled t.Use (leaves c ++ rest) (begun v (form v k.Use) t.Use c rest y refl ((uses_begin v).3)) refl)
    (subst (λ (i : Forest). Walks (php v) (Word t.Use ∷ Part g.UseBody ∷ Word t.Semi ∷ []) i rest) (sym at)
    (a_word u.2 (part {h = q.0} {f = leaf z.0 none} (body_walks v n below q.0 (z.0 ∷ rest) q.2 less semi) (a_word z.2 ends))))
