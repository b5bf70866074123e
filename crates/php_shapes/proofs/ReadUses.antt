-- Uses of functions and constants are read as they were.
use Rattle.std.proofs.Common.{◌≡◌, ℕ, ◌≤◌, Bool, true, false, not, List, [], ◌∷◌, ◌++◌, inl, inr, refl, sym, ap, ◌∙◌, subst}
use Rattle.std.proofs.lemmas.Bool.{not-true}
use Rattle.php_tree.specs.declared.token.Token.{Token}
use Rattle.php_tree.specs.declared.version.Version.{Version}
use Rattle.php_tree.specs.declared.version.Version.TheVariants.{V74, V83}
use Rattle.php_tree.specs.Tree.{Forest, none, leaf, ◌+++◌, leaves, count}
use Rattle.php_terminals.specs.declared.terminal.Terminal.{Terminal}
use Rattle.php_terminals.specs.declared.terminal.Terminal.TheVariants as t
use Rattle.php_terminals.specs.Classify.{terminal}
use Rattle.php_terminals.specs.Ahead.{first_of, second_of}
use Rattle.php_forms.specs.declared.item.Group.TheVariants as g
use Rattle.php_forms.specs.declared.item.Item.{Item}
use Rattle.php_forms.specs.declared.item.Item.TheVariants.{Word, Part, Repeats}
use Rattle.php_forms.specs.Declarations.{use_body, use_rest}
use Rattle.php_forms.specs.Grammar.{Walks, word as a_word}
use Rattle.php_forms.specs.Names.{name_more}
use Rattle.php_grammar.specs.Accepts.{accepts, same_class}
use Rattle.php_grammar.specs.Tables.{php}
use Rattle.php_exprs.proofs.Forests.{forest_assoc}
use Rattle.php_shapes.specs.Names.{imported_name}
use Rattle.php_shapes.specs.Namespaces.{alias, grouped_of_kind, imported, in_group}
use Rattle.php_shapes.specs.Notation.{Rule, word, ◌~◌, ◌|||◌, many, commas, commas_last, braces}
use Rattle.php_shapes.specs.Shapes.{Fits, is_both}
use Rattle.php_shapes.proofs.ReadClasses.{could, for_all, pinned, whenever}
use Rattle.php_shapes.proofs.ReadFirst.{first}
use Rattle.php_shapes.proofs.ReadEnds.{Below}
use Rattle.php_shapes.proofs.ReadMatch.{both_is, either_is, false_true, first_class, fits_alone, matched, matches, right_le, where_is, where_it, word_is}
use Rattle.php_shapes.proofs.ReadBodies.{group_alone, walks_on}
use Rattle.php_shapes.proofs.ReadDeclarations.{after_word}
use Rattle.php_shapes.proofs.ReadImports.{imported_name_walks, NameEnds}

abbrev pub is_semi : Terminal → Bool
is_semi t.Semi = true
is_semi _ = false

-- `\`
abbrev pub is_backslash : Terminal → Bool
is_backslash t.Backslash = true
is_backslash _ = false

pub no_more_name : (c d : Terminal) → is_backslash c ≡ false → name_more c d ≡ []
no_more_name t.Backslash d h = absurd (false_true (sym h))
no_more_name c d h = refl

-- a name ends before what begins with no backslash
pub name_ends : (us : List Token) → is_backslash (first_of us) ≡ false → NameEnds us
name_ends us h = no_more_name (first_of us) (second_of us) h

-- names in braces
abbrev pub group_of : Rule → Rule
group_of names = word t.Backslash ~ braces (commas_last names)

group_pinned : (v : Version) → (for_all (λ c. whenever (could v t.Backslash c) (same_class t.Backslash c)) ≡ true)
    × (for_all (λ c. whenever (could v t.OpenBrace c) (same_class t.OpenBrace c)) ≡ true)
unfolding for_all
group_pinned V74 = (refl, refl)
group_pinned V83 = (refl, refl)

-- a name ends before such braces
pub ends_before_group : (v : Version) (r : Rule) (f : Forest) (us : List Token) → Fits v (group_of r) f → (first_of (leaves f ++ us) ≡ t.Backslash) × NameEnds (leaves f ++ us)
ends_before_group v r f us x =
    let q : (b : Token) × (m : Forest) × (f ≡ leaf b m) × (terminal b ≡ t.Backslash)
    × Fits v (braces (commas_last r)) m = after_word v t.Backslash (braces (commas_last r)) f ((group_pinned v).0)
    x in
    let o : (b : Token) × (m : Forest) × (q.1 ≡ leaf b m) × (terminal b ≡ t.OpenBrace)
    × Fits v (commas_last r ~ word t.CloseBrace) m = after_word v t.OpenBrace (commas_last r ~ word t.CloseBrace)
    q.1 ((group_pinned v).1) q.4 in
    let at : f ≡ leaf q.0 (leaf o.0 o.1) = q.2 ∙ ap (leaf q.0) o.2 in
    let one : first_of (leaves f ++ us) ≡ t.Backslash = ap (λ (i : Forest). first_of (leaves i ++ us)) at ∙ q.3 in
    let two : second_of (leaves f ++ us) ≡ t.OpenBrace = ap (λ (i : Forest). second_of (leaves i ++ us)) at ∙ o.3 in
    (one, ap (λ (c : Terminal). name_more c (second_of (leaves f ++ us))) one ∙ ap (name_more t.Backslash) two)

-- ---- behind the first name

abbrev more_imports : Version → Rule
more_imports v = alias ~ many (word t.Comma ~ imported v)

abbrev more_items : List Item
more_items = Part g.Alias ∷ Repeats g.MoreUses ∷ []

abbrev group_items : List Item
group_items = Word t.Backslash ∷ Word t.OpenBrace ∷ Part g.Grouped ∷ Repeats g.MoreGrouped ∷ Word t.CloseBrace ∷ []

no_group : (c : Terminal) → is_backslash c ≡ false → use_rest c ≡ more_items
no_group t.Backslash h = absurd (false_true (sym h))
no_group c h = refl

imports_match : (v : Version) → matches v 60 false (more_imports v ∷ []) more_items is_semi ≡ true
unfolding for_all
imports_match V74 = refl
imports_match V83 = refl

groups_match : (v : Version) → matches v 60 false (group_of (grouped_of_kind v) ∷ []) group_items is_semi ≡ true
unfolding for_all
groups_match V74 = refl
groups_match V83 = refl

imports_begin : (v : Version) → for_all (λ c. where_it (first v (more_imports v ∷ []) is_semi c) (not (is_backslash c))) ≡ true
unfolding for_all
imports_begin V74 = refl
imports_begin V83 = refl

-- a name and what stands behind it
abbrev names_or_group : Version → Rule
names_or_group v = commas (imported v) ||| in_group v (grouped_of_kind v)

module _ (v : Version) (n : ℕ) (below : Below v n) where
  several : (f : Forest) (us : List Token) → Fits v (commas (imported v)) f → count f ≤ n
      → is_semi (first_of us) ≡ true → Walks (php v) (Part g.ImportedName ∷ Part g.UseRest ∷ []) f us
  several f us x le h =
      let p : (a : Forest) × (m : Forest) × Fits v (imported v) a × Fits v (many (word t.Comma ~ imported v)) m
      × (f ≡ a +++ m) = both_is v (imported v) (many (word t.Comma ~ imported v)) f x in
      let q : (a : Forest) × (m : Forest) × Fits v (imported_name v) a × Fits v alias m × (p.0 ≡ a +++ m) = both_is v (imported_name v) alias p.0 p.2 in
      let r : Forest = q.1 +++ p.1 in
      let at : f ≡ q.0 +++ r = p.4 ∙ ap (λ (i : Forest). i +++ p.1) q.4 ∙ forest_assoc q.0 q.1 p.1 in
      let y : Fits v (more_imports v) r = is_both q.3 p.3 refl in
      let no : is_backslash (first_of (leaves r ++ us)) ≡ false =
      not-true (is_backslash (first_of (leaves r ++ us)))
      (where_is (first v (more_imports v ∷ []) is_semi) (λ c. not (is_backslash c)) (first_of (leaves r ++ us))
      (imports_begin v) (first_class v (more_imports v ∷ []) is_semi r us (fits_alone v (more_imports v) r y) h))
      in
      subst (λ (i : Forest). Walks (php v) (Part g.ImportedName ∷ Part g.UseRest ∷ []) i us) (sym at)
      (walks_on (php v) (Part g.ImportedName ∷ []) (Part g.UseRest ∷ []) q.0 r us (imported_name_walks v q.0 (leaves r ++ us) q.2 (name_ends (leaves r ++ us) no))
      (group_alone v g.UseRest r us (subst (λ (is : List Item). Walks (php v) is r us) (sym (no_group (first_of (leaves r ++ us)) no))
      (matched v n below 60 false (more_imports v ∷ []) more_items is_semi r us (imports_match v)
      (fits_alone v (more_imports v) r y) (right_le q.0 r n (subst (λ (i : Forest). count i ≤ n) at le)) h
      (λ o. absurd (false_true o))))))

  grouped_names : (f : Forest) (us : List Token) → Fits v (in_group v (grouped_of_kind v)) f → count f ≤ n
      → is_semi (first_of us) ≡ true → Walks (php v) (Part g.ImportedName ∷ Part g.UseRest ∷ []) f us
  grouped_names f us x le h =
      let p : (a : Forest) × (m : Forest) × Fits v (imported_name v) a × Fits v (group_of (grouped_of_kind v)) m
      × (f ≡ a +++ m) = both_is v (imported_name v) (group_of (grouped_of_kind v)) f x in
      let e : (first_of (leaves p.1 ++ us) ≡ t.Backslash) × NameEnds (leaves p.1 ++ us) = ends_before_group v (grouped_of_kind v) p.1 us p.3 in
      subst (λ (i : Forest). Walks (php v) (Part g.ImportedName ∷ Part g.UseRest ∷ []) i us) (sym p.4)
      (walks_on (php v) (Part g.ImportedName ∷ []) (Part g.UseRest ∷ []) p.0 p.1 us (imported_name_walks v p.0 (leaves p.1 ++ us) p.2 e.1)
      (group_alone v g.UseRest p.1 us (subst (λ (is : List Item). Walks (php v) is p.1 us) (sym (ap use_rest e.0))
      (matched v n below 60 false (group_of (grouped_of_kind v) ∷ []) group_items is_semi p.1 us (groups_match v)
      (fits_alone v (group_of (grouped_of_kind v)) p.1 p.3)
      (right_le p.0 p.1 n (subst (λ (i : Forest). count i ≤ n) p.4 le)) h (λ o. absurd (false_true o))))))

  behind_kind : (f : Forest) (us : List Token) → Fits v (names_or_group v) f → count f ≤ n
      → is_semi (first_of us) ≡ true → Walks (php v) (Part g.ImportedName ∷ Part g.UseRest ∷ []) f us
  behind_kind f us x le h = elim (either_is v (commas (imported v)) (in_group v (grouped_of_kind v)) f x) [ inl y ↦ several f us y le h | inr y ↦ grouped_names f us y le h ]

  -- with the word of a kind before them
  with_word : (w : Terminal) (f : Forest) (us : List Token) → for_all (λ c. whenever (could v w c) (same_class w c)) ≡
      true → use_body w ≡ Word w ∷ Part g.ImportedName ∷ Part g.UseRest ∷ [] → Fits v (word w ~ names_or_group v) f
      → count f ≤ n → is_semi (first_of us) ≡ true → Walks (php v) (use_body (first_of (leaves f ++ us))) f us
  with_word w f us p e x le h =
      let q : (o : Forest) × (m : Forest) × Fits v (word w) o × Fits v (names_or_group v) m × (f ≡ o +++ m) = both_is v (word w) (names_or_group v) f x in
      let z : (y : Token) × (q.0 ≡ leaf y none) × (accepts v w y ≡ true) = word_is v w q.0 q.2 in
      let at : f ≡ leaf z.0 q.1 = q.4 ∙ ap (λ (i : Forest). i +++ q.1) z.1 in
      subst (λ (i : Forest). Walks (php v) (use_body (first_of (leaves i ++ us))) i us) (sym at)
      (subst (λ (is : List Item). Walks (php v) is (leaf z.0 q.1) us) (sym (ap use_body (pinned v w z.0 p z.2) ∙ e))
      (a_word z.2 (behind_kind q.1 us q.3 (right_le q.0 q.1 n (subst (λ (i : Forest). count i ≤ n) q.4 le)) h)))

kinds_pinned : (v : Version) → (for_all (λ c. whenever (could v t.Function c) (same_class t.Function c)) ≡ true)
    × (for_all (λ c. whenever (could v t.Const c) (same_class t.Const c)) ≡ true)
unfolding for_all
kinds_pinned V74 = (refl, refl)
kinds_pinned V83 = (refl, refl)

-- A use of functions or constants, before the semicolon.
pub kind_walks : (v : Version) (n : ℕ) → Below v n → (f : Forest) (us : List Token)
    → Fits v ((word t.Function ||| word t.Const) ~ (commas (imported v) ||| in_group v (grouped_of_kind v))) f
    → count f ≤ n → is_semi (first_of us) ≡ true → Walks (php v) (use_body (first_of (leaves f ++ us))) f us
kind_walks v n below f us x le h =
    let p : (o : Forest) × (m : Forest) × Fits v (word t.Function ||| word t.Const) o × Fits v (names_or_group v) m
    × (f ≡ o +++ m) = both_is v (word t.Function ||| word t.Const) (names_or_group v) f x in
    elim (either_is v (word t.Function) (word t.Const) p.0 p.2) [
      | inl y ↦ with_word v n below t.Function f us ((kinds_pinned v).0) refl (is_both y p.3 p.4) le h
      | inr y ↦ with_word v n below t.Const f us ((kinds_pinned v).1) refl (is_both y p.3 p.4) le h
    ]
