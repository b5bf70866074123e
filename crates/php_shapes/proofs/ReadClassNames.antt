-- Expressions that name a class are read as they were.
use Rattle.std.proofs.Common.{◌≡◌, ℕ, zero, suc, ◌<◌, ◌≤◌, Bool, true, false, List, [], ◌∷◌, ◌++◌, Some, None, ◌⊎◌, inl, inr, refl, sym, ap, ◌∙◌, subst, append_assoc, arith}
use Rattle.std.proofs.lemmas.Bool.{and_parts}
use Rattle.php_tree.specs.declared.kind.NodeKind.{NodeKind}
use Rattle.php_tree.specs.declared.kind.NodeKind.TheVariants as k
use Rattle.php_tree.specs.declared.token.Token.{Token}
use Rattle.php_tree.specs.declared.version.Version.{Version}
use Rattle.php_tree.specs.declared.version.Version.TheVariants.{V74, V83}
use Rattle.php_tree.specs.Tree.{Forest, none, leaf, node, ◌+++◌, leaves, count}
use Rattle.php_terminals.specs.declared.terminal.Terminal.{Terminal}
use Rattle.php_terminals.specs.declared.terminal.Terminal.TheVariants as t
use Rattle.php_terminals.specs.Classify.{terminal}
use Rattle.php_terminals.specs.Ahead.{behind_name, first_of, second_of}
use Rattle.php_terminals.specs.Marks.{is_name_part, is_variable_start}
use Rattle.php_forms.specs.declared.item.Sort.TheVariants as s
use Rattle.php_forms.specs.declared.item.Group.TheVariants as g
use Rattle.php_forms.specs.declared.item.Item.{Item}
use Rattle.php_forms.specs.declared.item.Item.TheVariants.{Word, Part}
use Rattle.php_forms.specs.Forms.{any, or_else}
use Rattle.php_forms.specs.Grammar.{Walks, Grows, Spells, word as a_word, head, onward}
use Rattle.php_grammar.specs.Accepts.{accepts, same_class}
use Rattle.php_grammar.specs.Bases.{is_offset_base}
use Rattle.php_grammar.specs.Operands.{class_ref_form, named_prop_form, simple_variable_form, static_prop_form as named_static}
use Rattle.php_grammar.specs.Tables.{php}
use Rattle.php_grammar.specs.Tails.{class_ref_by, offset_form, prop_form, static_prop_form}
use Rattle.php_shapes.specs.Forms.{form}
use Rattle.php_shapes.specs.Names.{name}
use Rattle.php_shapes.specs.Nearest.{is_to}
use Rattle.php_shapes.specs.Notation.{Rule, word, place, ◌~◌, maybe, expr, brackets, braces}
use Rattle.php_shapes.specs.Places.{Place, OffsetBase, MemberBase, ClassBase, ClassName, begins_with_class_name, is_class_name, may_stand}
use Rattle.php_shapes.specs.Postfixes.{class_before, member, static_member}
use Rattle.php_shapes.specs.Atoms.{variable}
use Rattle.php_shapes.specs.Shapes.{Fits, is_both, is_first, is_second, IsNode}
use Rattle.php_shapes.proofs.ReadClasses.{accepted, could, for_all, pinned, whenever}
use Rattle.php_shapes.proofs.ReadFirst.{nullable, starts}
use Rattle.php_shapes.proofs.ReadEnds.{behind_level, Below, closes_expression, Stopped}
use Rattle.php_shapes.proofs.ReadMatch.{both_is, false_true, fits_alone, leaves_before, left_le, matched, matches, place_is, right_le, where_is, where_it, word_is}
use Rattle.php_shapes.proofs.ReadBodies.{node_counts, walks_on}
use Rattle.php_shapes.proofs.ReadNames.{name_skips, only_words, static_member_walks, words_are}
use Rattle.php_shapes.proofs.ReadNearest.{shaped}
use Rattle.php_shapes.proofs.ReadStatements.{begins_with, begun, first_in}
use Rattle.php_shapes.proofs.ReadVariables.{Chosen, variable_chosen}

abbrev any_class : Terminal → Bool
any_class c = true

-- ---- where it ends

-- what no such expression goes on with
abbrev ends_ref : Terminal → Bool
ends_ref t.OpenBracket = false
ends_ref t.OpenBrace = false
ends_ref t.Arrow = false
ends_ref t.DoubleColon = false
ends_ref _ = true

ref_ends : (v : Version) (j : NodeKind) (c : Terminal) (ts : List Token) → ends_ref c ≡ true → class_ref_by v j c ts ≡ None
ref_ends v j t.OpenBracket ts h = absurd (false_true h)
ref_ends v j t.OpenBrace ts h = absurd (false_true h)
ref_ends v j t.Arrow ts h = absurd (false_true h)
ref_ends v j t.DoubleColon ts h = absurd (false_true h)
ref_ends v j c ts h = refl

ends_closed : (c : Terminal) → closes_expression c ≡ true → ends_ref c ≡ true
ends_closed t.OpenBracket h = absurd (false_true h)
ends_closed t.OpenBrace h = absurd (false_true h)
ends_closed t.Arrow h = absurd (false_true h)
ends_closed t.DoubleColon h = absurd (false_true h)
ends_closed c h = refl

ends_to : (c : Terminal) → is_to c ≡ true → ends_ref c ≡ true
ends_to t.OpenBracket h = absurd (false_true h)
ends_to t.OpenBrace h = absurd (false_true h)
ends_to t.Arrow h = absurd (false_true h)
ends_to t.DoubleColon h = absurd (false_true h)
ends_to c h = refl

ends_level : (v : Version) (c : Terminal) → 0 < behind_level v c → ends_ref c ≡ true
ends_level v t.OpenBracket h = absurd (omega arith)
ends_level v t.OpenBrace h = absurd (omega arith)
ends_level v t.Arrow h = absurd (omega arith)
ends_level v t.DoubleColon h = absurd (omega arith)
ends_level v c h = refl

stopped_ends : (v : Version) (j : NodeKind) (c : Forest) (rest : List Token) → Stopped v s.ClassRef (j, c) rest → ends_ref (first_of rest) ≡ true
stopped_ends v j c rest h = elim h [
  | inl b ↦ elim b [ inl e ↦ ends_closed (first_of rest) e | inr o ↦ elim o [ inl e ↦ ends_to (first_of rest) e.0 | inr e ↦ ends_level v (first_of rest) e.1 ] ]
  | inr e ↦ ap ends_ref e
]

-- ---- how it begins

-- With a variable, or with a class and `::`.
abbrev pub BeginsClass : List Token → Type 0
BeginsClass ts =
    (is_variable_start (first_of ts) ≡ true)
    ⊎ ((first_of ts ≡ t.Static) × (second_of ts ≡ t.DoubleColon))
    ⊎ ((is_name_part (first_of ts) ≡ true) × (first_of (behind_name ts) ≡ t.DoubleColon))

-- An expression that names a class is read as it was, whatever follows.
abbrev ClassGrows : Version → ℕ → ℕ → Type 0
ClassGrows v n m = (j : NodeKind) (c : Forest) (rest : List Token) → count c < m → count c ≤ n
    → is_class_name j ≡ true → begins_with_class_name c ≡ true → IsNode v j c → Grows (php v) s.ClassRef j c rest
    × BeginsClass (leaves c ++ rest)

class_tests : (v : Version) → (for_all (λ c. where_it (starts v variable c) (is_variable_start c)) ≡ true)
    × (begins_with v (brackets (maybe expr)) t.OpenBracket ≡ true)
    × (begins_with v (word t.Arrow ~ member) t.Arrow ≡ true)
    × (begins_with v (word t.DoubleColon ~ static_member) t.DoubleColon ≡ true)
    × (for_all (λ c. where_it (starts v static_member c) (is_variable_start c)) ≡ true)
    × (for_all (λ c. where_it (starts v (name v) c) (is_name_part c)) ≡ true)
    × (words_are v is_name_part (name v) ≡ true) × (nullable (name v) ≡ false)
    × (for_all (λ c. whenever (could v t.Static c) (same_class t.Static c)) ≡ true)
unfolding for_all
class_tests V74 = (refl, refl, refl, refl, refl, refl, refl, refl, refl)
class_tests V83 = (refl, refl, refl, refl, refl, refl, refl, refl, refl)

brace_test : begins_with V74 (braces expr) t.OpenBrace ≡ true
unfolding for_all
brace_test = refl

never_word : for_all (λ c. where_it (could V83 t.Never c) false) ≡ true
unfolding for_all
never_word = refl

class_matches : (v : Version) → (matches v 60 false (brackets (maybe expr) ∷ []) (offset_form.1) any_class ≡ true)
    × (matches v 60 false (braces expr ∷ []) (Word t.OpenBrace ∷ any ∷ Word t.CloseBrace ∷ []) any_class ≡ true)
    × (matches v 60 false ((word t.Arrow ~ member) ∷ []) (prop_form.1) any_class ≡ true)
unfolding for_all
class_matches V74 = (refl, refl, refl)
class_matches V83 = (refl, refl, refl)

abbrev is_colons : Terminal → Bool
is_colons t.DoubleColon = true
is_colons _ = false

name_matches : (v : Version) → matches v 60 false (name v ∷ []) (Part g.Name ∷ []) is_colons ≡ true
unfolding for_all
name_matches V74 = refl
name_matches V83 = refl

no_class_before : (c : Terminal) (ts : List Token) → is_variable_start c ≡ true
    → or_else (or_else (named_prop_form c) (named_static c)) (simple_variable_form ts) ≡ simple_variable_form ts
no_class_before t.Variable ts h = refl
no_class_before t.Dollar ts h = refl
no_class_before c ts h = absurd (false_true h)

named_ref : (ts : List Token) → is_name_part (first_of ts) ≡ true → class_ref_form ts ≡ Some (k.StaticProp, Part g.Name ∷ Word t.DoubleColon ∷ Part g.StaticMember ∷ [])
named_ref ts e = rw e refl

static_ref : (ts : List Token) → first_of ts ≡ t.Static → class_ref_form ts ≡ Some (k.StaticProp, Word t.Static ∷ Word t.DoubleColon ∷ Part g.StaticMember ∷ [])
static_ref ts e = rw e refl

colons_tail : (v : Version) (i : NodeKind) (c : Terminal) (ts : List Token) → c ≡ t.DoubleColon
    → is_variable_start (second_of ts) ≡ true → class_ref_by v i c ts ≡ Some static_prop_form
colons_tail v i c ts e h = rw (e, h) refl

brace_tail_is : (i : NodeKind) (c : Terminal) (ts : List Token) → c ≡ t.OpenBrace → is_offset_base i ≡ true
    → class_ref_by V74 i c ts ≡ Some (k.BraceOffset, Word t.OpenBrace ∷ any ∷ Word t.CloseBrace ∷ [])
brace_tail_is i c ts e h = rw (e, h) refl

less_is : (a m : ℕ) → a < suc m → a ≤ m
less_is a m lt = omega arith

lt_le : (a m : ℕ) → a < m → a ≤ m
lt_le a m lt = omega arith

no_less : (a : ℕ) → a < 0 → ⊥
no_less a lt = omega arith

-- ---- what stands behind

module _ (v : Version) (n : ℕ) (below : Below v n) where
  held : (r : Rule) (is : List Item) (a : Forest) (us : List Token) → matches v 60 false (r ∷ []) is any_class ≡ true → Fits v r a → count a ≤ n → Walks (php v) is a us
  held r is a us m x le = matched v n below 60 false (r ∷ []) is any_class a us m (fits_alone v r a x) le refl (λ o. absurd (false_true o))

  -- `::` and a static property
  colons_walk : (f : Forest) (rest : List Token) → Fits v (word t.DoubleColon ~ static_member) f → count f ≤ n
      → Walks (php v) (Word t.DoubleColon ∷ Part g.StaticMember ∷ []) f rest
  colons_walk f rest x le =
      let p : (o : Forest) × (m : Forest) × Fits v (word t.DoubleColon) o × Fits v static_member m × (f ≡ o +++ m) = both_is v (word t.DoubleColon) static_member f x in
      let z : (y : Token) × (p.0 ≡ leaf y none) × (accepts v t.DoubleColon y ≡ true) = word_is v t.DoubleColon p.0 p.2 in
      subst (λ (i : Forest). Walks (php v) (Word t.DoubleColon ∷ Part g.StaticMember ∷ []) i rest) (sym (p.4 ∙ ap (λ (i : Forest). i +++ p.1) z.1))
      (a_word z.2 (static_member_walks v n below p.1 rest p.3 (right_le p.0 p.1 n (subst (λ (i : Forest). count i ≤ n) p.4 le))))

  colons_second : (f : Forest) (rest : List Token) → Fits v (word t.DoubleColon ~ static_member) f → is_variable_start (second_of (leaves f ++ rest)) ≡ true
  colons_second f rest x =
      let p : (o : Forest) × (m : Forest) × Fits v (word t.DoubleColon) o × Fits v static_member m × (f ≡ o +++ m) = both_is v (word t.DoubleColon) static_member f x in
      let z : (y : Token) × (p.0 ≡ leaf y none) × (accepts v t.DoubleColon y ≡ true) = word_is v t.DoubleColon p.0 p.2 in
      subst (λ (i : Forest). is_variable_start (second_of (leaves i ++ rest)) ≡ true) (sym (p.4 ∙ ap (λ (i : Forest). i +++ p.1) z.1))
      (where_is (starts v static_member) is_variable_start (first_of (leaves p.1 ++ rest)) ((class_tests v).4) (first_in v static_member p.1 rest p.3 refl))

  -- a form that goes on behind another such expression
  behind_class : (m : ℕ) → ClassGrows v n m → (P : Place) (q : Rule) (j : NodeKind) (is : List Item) (c : Forest)
      (rest : List Token) → ((i : NodeKind) (b f : Forest) → may_stand v P (i, b) ≡ true → Fits v q f
      → class_ref_by v i (first_of (leaves f ++ rest)) (leaves f ++ rest) ≡ Some (j, is))
      → ((f : Forest) → Fits v q f → count f ≤ n → Walks (php v) is f rest) → Fits v (place P ~ q) c → count c ≤ m
      → count c ≤ n → begins_with_class_name c ≡ true → Grows (php v) s.ClassRef j c rest
      × BeginsClass (leaves c ++ rest)
  behind_class m ih P q j is c rest tail walk x lm le h =
      let p : (o : Forest) × (f : Forest) × Fits v (place P) o × Fits v q f × (c ≡ o +++ f) = both_is v (place P) q c x in
      let a : (i : NodeKind) × (b : Forest) × (p.0 ≡ node i b none) × (may_stand v P (i, b) ≡ true) × IsNode v i b = place_is v P p.0 p.2 in
      let at : c ≡ node a.0 a.1 p.1 = p.4 ∙ ap (λ (z : Forest). z +++ p.1) a.2 in
      let names : (is_class_name a.0 ≡ true) × (begins_with_class_name a.1 ≡ true) =
      and_parts (is_class_name a.0) (begins_with_class_name a.1)
      (subst (λ (z : Forest). begins_with_class_name z ≡ true) at h) in
      let less : (count a.1 < m) × (count p.1 ≤ m) = node_counts a.0 a.1 p.1 m (subst (λ (z : Forest). count z ≤ m) at lm) in
      let two : (count a.1 < n) × (count p.1 ≤ n) = node_counts a.0 a.1 p.1 n (subst (λ (z : Forest). count z ≤ n) at le) in
      let y : Grows (php v) s.ClassRef a.0 a.1 (leaves p.1 ++ rest)
      × BeginsClass (leaves a.1 ++ (leaves p.1 ++ rest)) =
      ih a.0 a.1 (leaves p.1 ++ rest) less.0 (lt_le (count a.1) n two.0) names.0 names.1 a.4 in (
        subst (λ (z : Forest). Grows (php v) s.ClassRef j z rest) (sym at) (onward y.0 (tail a.0 a.1 p.1 a.3 p.3) (walk p.1 p.3 two.1)),
        subst BeginsClass (sym (ap (λ (z : Forest). leaves z ++ rest) at ∙ append_assoc (leaves a.1) (leaves p.1) rest)) y.1,
      )

  -- a static property of a class by its name, or of `static`
  named_class : (a f : Forest) (rest : List Token) → Fits v (name v) a → Fits v (word t.DoubleColon ~ static_member) f
      → count (a +++ f) ≤ n → Grows (php v) s.ClassRef k.StaticProp (a +++ f) rest
      × BeginsClass (leaves (a +++ f) ++ rest)
  named_class a f rest x y le =
      let us : List Token = leaves f ++ rest in
      let same : leaves (a +++ f) ++ rest ≡ leaves a ++ us = leaves_before a f rest in
      let colons : first_of us ≡ t.DoubleColon = begun v (word t.DoubleColon ~ static_member) t.DoubleColon f rest y refl ((class_tests v).3) in
      let named : is_name_part (first_of (leaves a ++ us)) ≡ true =
      where_is (starts v (name v)) is_name_part (first_of (leaves a ++ us)) ((class_tests v).5)
      (first_in v (name v) a us x ((class_tests v).7)) in
      let behind : behind_name (leaves a ++ us) ≡ us = name_skips a us (only_words v is_name_part (name v) a ((class_tests v).6) x) (ap is_name_part colons) in (
        head (ap class_ref_form same ∙ named_ref (leaves a ++ us) named)
            (walks_on (php v) (Part g.Name ∷ []) (Word t.DoubleColon ∷ Part g.StaticMember ∷ []) a f rest
            (matched v n below 60 false (name v ∷ []) (Part g.Name ∷ []) is_colons a us (name_matches v)
            (fits_alone v (name v) a x) (left_le a f n le) (ap is_colons colons) (λ o. absurd (false_true o)))
            (colons_walk f rest y (right_le a f n le))),
        inr (inr (ap (λ (ts : List Token). is_name_part (first_of ts)) same ∙ named, ap (λ (ts : List Token). first_of (behind_name ts)) same ∙ ap first_of behind ∙ colons)),
      )

  static_class : (a f : Forest) (rest : List Token) → Fits v (word t.Static) a
      → Fits v (word t.DoubleColon ~ static_member) f → count (a +++ f) ≤ n
      → Grows (php v) s.ClassRef k.StaticProp (a +++ f) rest × BeginsClass (leaves (a +++ f) ++ rest)
  static_class a f rest x y le =
      let z : (z : Token) × (a ≡ leaf z none) × (accepts v t.Static z ≡ true) = word_is v t.Static a x in
      let one : terminal z.0 ≡ t.Static = pinned v t.Static z.0 ((class_tests v).8) z.2 in
      let colons : first_of (leaves f ++ rest) ≡ t.DoubleColon = begun v (word t.DoubleColon ~ static_member) t.DoubleColon f rest y refl ((class_tests v).3) in
      subst (λ (i : Forest). Grows (php v) s.ClassRef k.StaticProp (i +++ f) rest × BeginsClass (leaves (i +++ f) ++ rest)) (sym z.1)
      (head (static_ref (z.0 ∷ (leaves f ++ rest)) one) (a_word z.2 (colons_walk f rest y (right_le a f n le))), inr (inl (one, colons)))

  static_by : (m : ℕ) → ClassGrows v n m → (a f c : Forest) (rest : List Token) → Fits v (class_before v) a
      → Fits v (word t.DoubleColon ~ static_member) f → c ≡ a +++ f → count c ≤ m → count c ≤ n
      → begins_with_class_name c ≡ true → Grows (php v) s.ClassRef k.StaticProp c rest
      × BeginsClass (leaves c ++ rest)
  static_by m ih a f c rest (is_first x) y e lm le h = subst
      (λ (i : Forest). Grows (php v) s.ClassRef k.StaticProp i rest × BeginsClass (leaves i ++ rest)) (sym e)
      (named_class a f rest x y (subst (λ (i : Forest). count i ≤ n) e le))
  static_by m ih a f c rest (is_second (is_first x)) y e lm le h =
      subst (λ (i : Forest). Grows (php v) s.ClassRef k.StaticProp i rest × BeginsClass (leaves i ++ rest)) (sym e)
      (static_class a f rest x y (subst (λ (i : Forest). count i ≤ n) e le))
  static_by m ih a f c rest (is_second (is_second x)) y e lm le h =
      behind_class m ih ClassBase (word t.DoubleColon ~ static_member) k.StaticProp (static_prop_form.1) c rest
      (λ i b o st w. colons_tail v i (first_of (leaves o ++ rest)) (leaves o ++ rest)
      (begun v (word t.DoubleColon ~ static_member) t.DoubleColon o rest w refl ((class_tests v).3))
      (colons_second o rest w))
      (λ o w l. colons_walk o rest w l) (is_both x y e) lm le h

-- ---- all of them

offset_tail : (v : Version) (i : NodeKind) (c : Terminal) (ts : List Token) → c ≡ t.OpenBracket → class_ref_by v i c ts ≡ Some offset_form
offset_tail v i c ts e = rw e refl

prop_tail : (v : Version) (i : NodeKind) (c : Terminal) (ts : List Token) → c ≡ t.Arrow → class_ref_by v i c ts ≡ Some prop_form
prop_tail v i c ts e = rw e refl

braces_by : (v : Version) (n : ℕ) → Below v n → (m : ℕ) → ClassGrows v n m → (c : Forest) (rest : List Token)
    → Fits v (form v k.BraceOffset) c → count c ≤ m → count c ≤ n → begins_with_class_name c ≡ true
    → Grows (php v) s.ClassRef k.BraceOffset c rest × BeginsClass (leaves c ++ rest)
braces_by V74 n below m ih c rest x lm le h =
    behind_class V74 n below m ih OffsetBase (braces expr) k.BraceOffset (Word t.OpenBrace ∷ any ∷ Word t.CloseBrace ∷ []) c rest
    (λ i b f st w. brace_tail_is i (first_of (leaves f ++ rest)) (leaves f ++ rest) (begun V74 (braces expr) t.OpenBrace f rest w refl brace_test) st)
    (λ f w l. held V74 n below (braces expr) (Word t.OpenBrace ∷ any ∷ Word t.CloseBrace ∷ []) f rest ((class_matches V74).1) w l) x lm le h
braces_by V83 n below m ih c rest x lm le h =
    let q : (y : Token) × (c ≡ leaf y none) × (accepts V83 t.Never y ≡ true) = word_is V83 t.Never c x in
    absurd (false_true (where_is (could V83 t.Never) (λ d. false) (terminal q.0) never_word (accepted V83 t.Never q.0 q.2)))

by_kind : (v : Version) (n : ℕ) → Below v n → (m : ℕ) → ClassGrows v n m
    → (j : NodeKind) (c : Forest) (rest : List Token) → count c ≤ m → count c ≤ n → is_class_name j ≡ true
    → begins_with_class_name c ≡ true → Fits v (form v j) c → Grows (php v) s.ClassRef j c rest
    × BeginsClass (leaves c ++ rest)
by_kind v n below m ih k.Variable c rest lm le h b x =
    let q : Chosen v c rest = variable_chosen v n below c rest x le in
    let starts_it : is_variable_start (first_of (leaves c ++ rest)) ≡ true =
    where_is (starts v variable) is_variable_start (first_of (leaves c ++ rest)) ((class_tests v).0)
    (first_in v variable c rest x refl) in
    (head (no_class_before (first_of (leaves c ++ rest)) (leaves c ++ rest) starts_it ∙ q.simple) q.walk, inl starts_it)
by_kind v n below m ih k.Offset c rest lm le h b x =
    behind_class v n below m ih OffsetBase (brackets (maybe expr)) k.Offset (offset_form.1) c rest
    (λ i a f st w. offset_tail v i (first_of (leaves f ++ rest)) (leaves f ++ rest) (begun v (brackets (maybe expr)) t.OpenBracket f rest w refl ((class_tests v).1)))
    (λ f w l. held v n below (brackets (maybe expr)) (offset_form.1) f rest ((class_matches v).0) w l) x lm le b
by_kind v n below m ih k.BraceOffset c rest lm le h b x = braces_by v n below m ih c rest x lm le b
by_kind v n below m ih k.Prop c rest lm le h b x =
    behind_class v n below m ih MemberBase (word t.Arrow ~ member) k.Prop (prop_form.1) c rest
    (λ i a f st w. prop_tail v i (first_of (leaves f ++ rest)) (leaves f ++ rest) (begun v (word t.Arrow ~ member) t.Arrow f rest w refl ((class_tests v).2)))
    (λ f w l. held v n below (word t.Arrow ~ member) (prop_form.1) f rest ((class_matches v).2) w l) x lm le b
by_kind v n below m ih k.StaticProp c rest lm le h b x =
    let p : (a : Forest) × (f : Forest) × Fits v (class_before v) a × Fits v (word t.DoubleColon ~ static_member) f
    × (c ≡ a +++ f) = both_is v (class_before v) (word t.DoubleColon ~ static_member) c x in
    static_by v n below m ih p.0 p.1 c rest p.2 p.3 p.4 lm le b
by_kind v n below m ih j c rest lm le h b x = absurd (false_true h)

grows_to : (v : Version) (n : ℕ) → Below v n → (m : ℕ) → ClassGrows v n m
grows_to v n below zero j c rest lm le h b x = absurd (no_less (count c) lm)
grows_to v n below (suc m) j c rest lm le h b x = by_kind v n below m (grows_to v n below m) j c rest (less_is (count c) m lm) le h b (shaped v j c x)

self_less : (a : ℕ) → a < suc a
self_less a = omega arith

-- An expression that names a class is read as it was, where it stops; it begins with a variable, or a class and `::`.
pub class_refs_begin : (v : Version) (n : ℕ) → Below v n → (j : NodeKind) (c : Forest) (rest : List Token)
    → count c ≤ n → may_stand v ClassName (j, c) ≡ true → IsNode v j c → Grows (php v) s.ClassRef j c rest
    × BeginsClass (leaves c ++ rest)
class_refs_begin v n below j c rest le st x =
    let q : (is_class_name j ≡ true) × (begins_with_class_name c ≡ true) = and_parts (is_class_name j) (begins_with_class_name c) st in
    grows_to v n below (suc (count c)) j c rest (self_less (count c)) le q.0 q.1 x

pub class_refs_read : (v : Version) (n : ℕ) → Below v n → (j : NodeKind) (c : Forest) (rest : List Token)
    → count c ≤ n → may_stand v ClassName (j, c) ≡ true → IsNode v j c → Stopped v s.ClassRef (j, c) rest
    → Spells (php v) s.ClassRef (j, c) rest
class_refs_read v n below j c rest le st x h = ((class_refs_begin v n below j c rest le st x).0, ref_ends v j (first_of rest) rest (stopped_ends v j c rest h))
