-- `if` statements are read as they were.
use Rattle.std.proofs.Common.{◌≡◌, ℕ, ◌≤◌, Bool, true, false, not, ◌&&◌, ◌||◌, List, [], ◌∷◌, ◌++◌, Some, inl, inr, refl, sym, ap, ◌∙◌, subst}
use Rattle.std.proofs.lemmas.Bool.{not-true, and_parts}
use Rattle.php_tree.specs.declared.kind.NodeKind.TheVariants as k
use Rattle.php_tree.specs.declared.token.Token.{Token}
use Rattle.php_tree.specs.declared.version.Version.{Version}
use Rattle.php_tree.specs.declared.version.Version.TheVariants.{V74, V83}
use Rattle.php_tree.specs.Tree.{Forest, none, leaf, node, ◌+++◌, leaves, count}
use Rattle.php_terminals.specs.declared.terminal.Terminal.{Terminal}
use Rattle.php_terminals.specs.declared.terminal.Terminal.TheVariants as t
use Rattle.php_terminals.specs.Classify.{terminal}
use Rattle.php_terminals.specs.Ahead.{first_of, past_group}
use Rattle.php_forms.specs.declared.item.Sort.TheVariants as s
use Rattle.php_forms.specs.declared.item.Group.TheVariants as g
use Rattle.php_forms.specs.declared.item.Item.{Item}
use Rattle.php_forms.specs.declared.item.Item.TheVariants.{Word, Node, Part, Repeats}
use Rattle.php_forms.specs.Forms.{any, or_else}
use Rattle.php_forms.specs.Grammar.{Grows, Walks, head, ends, part, stop, repeat}
use Rattle.php_forms.specs.Heads.{chosen_by, if_form, statement_form}
use Rattle.php_forms.specs.Statements.{else_ifs, else_part, simple_form}
use Rattle.php_grammar.specs.Accepts.{accepts, same_class}
use Rattle.php_grammar.specs.Tables.{php}
use Rattle.php_exprs.proofs.Forests.{forest_assoc}
use Rattle.php_shapes.specs.Nearest.{elses_are_nearest, ends_in_if, has_else, is_else}
use Rattle.php_shapes.specs.Notation.{Rule, nothing, word, kind, place, inside, ◌~◌, ◌|||◌, many, tokens, maybe, expr}
use Rattle.php_shapes.specs.Shapes.{Fits, is_nothing, is_word, is_kind, is_place, is_inside, is_both, is_first, is_second, no_more, once_more, IsNode}
use Rattle.php_shapes.specs.Statements.{condition, statement}
use Rattle.php_shapes.proofs.ReadClasses.{accepted, could, for_all, pinned, whenever}
use Rattle.php_shapes.proofs.ReadFirst.{begins_statement, there}
use Rattle.php_shapes.proofs.ReadEnds.{Below, closes_statement, EndsStatement}
use Rattle.php_shapes.proofs.ReadMatch.{before_none, both_is, false_true, fits_alone, Last, leaves_before, left_le, matched, matches, nothing_is, right_le, word_is}
use Rattle.php_shapes.proofs.ReadPast.{group_past}
use Rattle.php_shapes.proofs.ReadNearest.{elses_nearest, follows, follows_statement, last_behind, last_near, last_of, nearest_right, right_false, shaped}
use Rattle.php_shapes.proofs.ReadBodies.{group_alone, has_token, statement_begins, walks_on}
use Rattle.php_shapes.proofs.ReadStatements.{begun, StatementGrows}

-- an `elseif` with its statement
abbrev pub else_if : Rule
else_if = word t.ElseIf ~ condition ~ statement

-- an `else` with its statement
abbrev pub else_rule : Rule
else_rule = word t.Else ~ statement

-- no part, or a token that a statement may stand before
abbrev pub Leads : Forest → Type 0
Leads none = Unit {0}
Leads (leaf x f) = follows_statement (terminal x) ≡ true
Leads (node j b f) = ⊥

-- parts end before others that follow them
pub near_end : (before : Bool) (a m : Forest) (rest : List Token) → Leads m
    → elses_are_nearest before (a +++ m) ≡ true → follows_statement (first_of rest) ≡ true → Last (a +++ m) rest
    → Last a (leaves m ++ rest) × (follows_statement (first_of (leaves m ++ rest)) ≡ true)
near_end before a none rest d e f l = (subst (λ (x : Forest). Last x rest) (before_none a) l, f)
near_end before a (leaf x m) rest d e f l = (last_near before a x m (leaves m ++ rest) e d, d)
near_end before a (node j b m) rest d e f l = absurd d

-- parts that begin with a token of a class
leads_with : (v : Version) (w : Terminal) (r : Rule) (f m : Forest)
    → for_all (λ c. whenever (could v w c) (same_class w c)) ≡ true → follows_statement w ≡ true
    → Fits v (word w ~ r) f → Leads (f +++ m)
leads_with v w r f m p d (is_both {g = g} {h = h} x y e) =
    let q : (z : Token) × (g ≡ leaf z none) × (accepts v w z ≡ true) = word_is v w g x in
    subst (λ (i : Forest). Leads (i +++ m)) (sym (e ∙ ap (λ (i : Forest). i +++ h) q.1))
    (subst (λ (c : Terminal). follows_statement c ≡ true) (sym (pinned v w q.0 p q.2)) d)

else_pinned : (v : Version) → for_all (λ c. whenever (could v t.Else c) (same_class t.Else c)) ≡ true
unfolding for_all
else_pinned V74 = refl
else_pinned V83 = refl

else_if_pinned : (v : Version) → for_all (λ c. whenever (could v t.ElseIf c) (same_class t.ElseIf c)) ≡ true
unfolding for_all
else_if_pinned V74 = refl
else_if_pinned V83 = refl

leads_else : (v : Version) (h : Forest) → Fits v (maybe else_rule) h → Leads h
leads_else v h (is_first x) = subst Leads (sym (nothing_is v h x)) tt
leads_else v h (is_second x) = subst Leads (before_none h) (leads_with v t.Else statement h none (else_pinned v) refl x)

leads_ifs : (v : Version) (g h : Forest) → Fits v (many else_if) g → Fits v (maybe else_rule) h → Leads (g +++ h)
leads_ifs v g h no_more y = leads_else v h y
leads_ifs v g h (once_more {g = a} {h = m} x xs at) y =
    subst Leads (sym (ap (λ (i : Forest). i +++ h) at ∙ forest_assoc a m h)) (leads_with v t.ElseIf (condition ~ statement) a (m +++ h) (else_if_pinned v) refl x)

-- ---- `else` and `elseif` parts

closed_else : (c : Terminal) → closes_statement c ≡ true → (else_ifs c ≡ []) × (else_part c ≡ [])
closed_else t.ElseIf h = absurd (false_true h)
closed_else t.Else h = absurd (false_true h)
closed_else c h = (refl, refl)

abbrev if_items : List Item
if_items = Word t.If ∷ Word t.OpenParen ∷ any ∷ Word t.CloseParen ∷ Node s.Statement ∷ []

abbrev else_if_items : List Item
else_if_items = Word t.ElseIf ∷ Word t.OpenParen ∷ any ∷ Word t.CloseParen ∷ Node s.Statement ∷ []

abbrev else_items : List Item
else_items = Word t.Else ∷ Node s.Statement ∷ []

else_if_matches : (v : Version) → matches v 60 true (else_if ∷ []) else_if_items follows_statement ≡ true
unfolding for_all
else_if_matches V74 = refl
else_if_matches V83 = refl

else_matches : (v : Version) → matches v 60 true (else_rule ∷ []) else_items follows_statement ≡ true
unfolding for_all
else_matches V74 = refl
else_matches V83 = refl

if_matches : (v : Version) → matches v 60 true (word t.If ∷ condition ∷ statement ∷ []) if_items follows_statement ≡ true
unfolding for_all
if_matches V74 = refl
if_matches V83 = refl

else_begins : (v : Version) (h : Forest) (rest : List Token) → Fits v else_rule h → first_of (leaves h ++ rest) ≡ t.Else
unfolding for_all
else_begins V74 h rest x = begun V74 else_rule t.Else h rest x refl refl
else_begins V83 h rest x = begun V83 else_rule t.Else h rest x refl refl

else_if_begins : (v : Version) (h : Forest) (rest : List Token) → Fits v else_if h → first_of (leaves h ++ rest) ≡ t.ElseIf
unfolding for_all
else_if_begins V74 h rest x = begun V74 else_if t.ElseIf h rest x refl refl
else_if_begins V83 h rest x = begun V83 else_if t.ElseIf h rest x refl refl

module _ (v : Version) (n : ℕ) (below : Below v n) where
  -- the `else`, or none
  else_walks : (h : Forest) (rest : List Token) → Fits v (maybe else_rule) h → count h ≤ n
      → follows_statement (first_of rest) ≡ true → (h ≡ none → closes_statement (first_of rest) ≡ true) → Last h rest
      → Walks (php v) (Repeats g.ElseIfs ∷ Part g.ElsePart ∷ []) h rest
  else_walks h rest (is_first x) le f c l =
      let no : h ≡ none = nothing_is v h x in
      let z : (else_ifs (first_of rest) ≡ []) × (else_part (first_of rest) ≡ []) = closed_else (first_of rest) (c no) in
      subst (λ (m : Forest). Walks (php v) (Repeats g.ElseIfs ∷ Part g.ElsePart ∷ []) m rest) (sym no)
      (stop z.0 (part {h = none} {f = none} (subst (λ (is : List Item). Walks (php v) is none rest) (sym z.1) ends) ends))
  else_walks h rest (is_second x) le f c l =
      let b : first_of (leaves h ++ rest) ≡ t.Else = else_begins v h rest x in
      stop (ap else_ifs b)
      (group_alone v g.ElsePart h rest
      (subst (λ (is : List Item). Walks (php v) is h rest) (sym (ap else_part b))
      (matched v n below 60 true (else_rule ∷ []) else_items follows_statement h rest (else_matches v) (fits_alone v else_rule h x) le f (λ _. l))))

  -- each `elseif`, and then the `else`
  else_ifs_walk : (before : Bool) (p h : Forest) (rest : List Token) → Fits v (many else_if) p
      → Fits v (maybe else_rule) h → elses_are_nearest before (p +++ h) ≡ true → count (p +++ h) ≤ n
      → follows_statement (first_of rest) ≡ true → (h ≡ none → closes_statement (first_of rest) ≡ true)
      → Last (p +++ h) rest → Walks (php v) (Repeats g.ElseIfs ∷ Part g.ElsePart ∷ []) (p +++ h) rest
  else_ifs_walk before p h rest no_more y e le f c l = else_walks h rest y le f c l
  else_ifs_walk before p h rest (once_more {g = a} {h = m} x xs at) y e le f c l =
      let whole : p +++ h ≡ a +++ (m +++ h) = ap (λ (i : Forest). i +++ h) at ∙ forest_assoc a m h in
      let le2 : count (a +++ (m +++ h)) ≤ n = subst (λ (i : Forest). count i ≤ n) whole le in
      let e2 : elses_are_nearest before (a +++ (m +++ h)) ≡ true = subst (λ (i : Forest). elses_are_nearest before i ≡ true) whole e in
      let l2 : Last (a +++ (m +++ h)) rest = subst (λ (i : Forest). Last i rest) whole l in
      let near : Last a (leaves (m +++ h) ++ rest) × (follows_statement (first_of (leaves (m +++ h) ++ rest)) ≡ true)
      = near_end before a (m +++ h) rest (leads_ifs v m h xs y) e2 f l2 in
      let after : (b : Bool) × (elses_are_nearest b (m +++ h) ≡ true) = nearest_right before a (m +++ h) e2 in
      subst (λ (i : Forest). Walks (php v) (Repeats g.ElseIfs ∷ Part g.ElsePart ∷ []) i rest) (sym whole)
      (repeat {h = a} {f = m +++ h} (ap else_ifs (else_if_begins v a (leaves (m +++ h) ++ rest) x))
      (matched v n below 60 true (else_if ∷ []) else_if_items follows_statement a (leaves (m +++ h) ++ rest)
      (else_if_matches v) (fits_alone v else_if a x) (left_le a (m +++ h) n le2) near.1 (λ _. near.0))
      (has_token v else_if a x refl)
      (else_ifs_walk after.0 m h rest xs y after.1 (right_le a (m +++ h) n le2) f c (last_behind a (m +++ h) rest l2)))

-- ---- no `else` among parts

-- no part of a rule is an `else`
abbrev lacks_else : Version → Rule → Bool
lacks_else v nothing = true
lacks_else v (word w) = for_all (λ c. whenever (could v w c) (not (is_else c)))
lacks_else v (kind j) = true
lacks_else v (place p) = true
lacks_else v (inside j r) = true
lacks_else v (r ~ q) = lacks_else v r && lacks_else v q
lacks_else v (r ||| q) = lacks_else v r && lacks_else v q
lacks_else v (many r) = lacks_else v r
lacks_else v tokens = false

first_false : (a b : Bool) → (a || b) ≡ false → a ≡ false
first_false true b h = absurd (false_true (sym h))
first_false false b h = refl

no_else_in : (g h : Forest) → has_else g ≡ false → has_else h ≡ false → has_else (g +++ h) ≡ false
no_else_in none h a b = b
no_else_in (leaf x g) h a b = rw (first_false (is_else (terminal x)) (has_else g) a) (no_else_in g h (right_false (is_else (terminal x)) (has_else g) a) b)
no_else_in (node j c g) h a b = no_else_in g h a b

no_else : (v : Version) (r : Rule) (f : Forest) → lacks_else v r ≡ true → Fits v r f → has_else f ≡ false
no_else v nothing f l is_nothing = refl
no_else v (word w) f l (is_word {x = x} a) = rw (not-true (is_else (terminal x)) (there (could v w) (λ c. not (is_else c)) l (terminal x) (accepted v w x a))) refl
no_else v (kind j) f l (is_kind x) = refl
no_else v (place p) f l (is_place m x) = refl
no_else v (inside j r) f l (is_inside x y) = refl
no_else v (r ~ q) f l (is_both {g = g} {h = h} x y e) =
    let z : (lacks_else v r ≡ true) × (lacks_else v q ≡ true) = and_parts (lacks_else v r) (lacks_else v q) l in
    ap has_else e ∙ no_else_in g h (no_else v r g z.0 x) (no_else v q h z.1 y)
no_else v (r ||| q) f l (is_first x) = no_else v r f ((and_parts (lacks_else v r) (lacks_else v q) l).0) x
no_else v (r ||| q) f l (is_second x) = no_else v q f ((and_parts (lacks_else v r) (lacks_else v q) l).1) x
no_else v (many r) f l no_more = refl
no_else v (many r) f l (once_more {g = g} {h = h} x y e) = ap has_else e ∙ no_else_in g h (no_else v r g l x) (no_else v (many r) h l y)
no_else v tokens f l x = absurd (false_true l)

-- ---- the whole

if_told : (x : Token) (us : List Token) → terminal x ≡ t.If → statement_form (x ∷ us) ≡ Some (if_form (first_of (past_group 0 us)))
if_told x us e = subst (λ (u : Terminal). or_else (chosen_by u (x ∷ us)) (Some (simple_form u)) ≡ Some (if_form (first_of (past_group 0 us)))) (sym e) refl

if_pinned : (v : Version) → for_all (λ c. whenever (could v t.If c) (same_class t.If c)) ≡ true
unfolding for_all
if_pinned V74 = refl
if_pinned V83 = refl

-- the condition stands in brackets that close
past_condition : (v : Version) (f : Forest) (us : List Token) → Fits v condition f → past_group 0 (leaves f ++ us) ≡ us
unfolding for_all
past_condition V74 f us x = group_past V74 t.OpenParen t.CloseParen expr f us refl refl refl x
past_condition V83 f us x = group_past V83 t.OpenParen t.CloseParen expr f us refl refl refl x

-- what stands behind the condition tells the form
pub if_chosen : (v : Version) (i d m : Forest) (rest : List Token) → Fits v (word t.If) i → Fits v condition d
    → statement_form (leaves (i +++ (d +++ m)) ++ rest) ≡ Some (if_form (first_of (leaves m ++ rest)))
if_chosen v i d m rest x y =
    let q : (z : Token) × (i ≡ leaf z none) × (accepts v t.If z ≡ true) = word_is v t.If i x in
    subst (λ (f : Forest). statement_form (leaves (f +++ (d +++ m)) ++ rest) ≡ Some (if_form (first_of (leaves m ++ rest)))) (sym q.1)
    (if_told q.0 (leaves (d +++ m) ++ rest) (pinned v t.If q.0 (if_pinned v) q.2)
    ∙ ap (λ (ts : List Token). Some (if_form (first_of ts))) (ap (past_group 0) (leaves_before d m rest) ∙ past_condition v d (leaves m ++ rest) y))

begins_if : (c : Terminal) → begins_statement c ≡ true → if_form c ≡ (
  k.If,
  Word t.If ∷ Word t.OpenParen ∷ any ∷ Word t.CloseParen ∷ Node s.Statement ∷ Repeats g.ElseIfs
      ∷ Part g.ElsePart ∷ [],
)
begins_if t.Colon h = absurd (false_true h)
begins_if c h = refl

open_without : (c : Forest) (d : Terminal) → has_else c ≡ false → EndsStatement (k.If, c) d → closes_statement d ≡ true
open_without c d h e = elim e [ inl x ↦ x | inr x ↦ absurd (false_true (sym (first_false (not (has_else c)) (ends_in_if false c) x.1) ∙ ap not h)) ]

abbrev if_lead : Rule
if_lead = word t.If ~ condition ~ statement ~ many else_if

if_lacks : (v : Version) → lacks_else v if_lead ≡ true
unfolding for_all
if_lacks V74 = refl
if_lacks V83 = refl

pub regroup : (i d b m : Forest) → i +++ (d +++ (b +++ m)) ≡ (i +++ (d +++ b)) +++ m
regroup i d b m = sym (forest_assoc i (d +++ b) m ∙ ap (λ (f : Forest). i +++ f) (forest_assoc d b m))

if_parts : (v : Version) (n : ℕ) → Below v n → (c i d b q h : Forest) (rest : List Token) → Fits v (word t.If) i
    → Fits v condition d → Fits v statement b → Fits v (many else_if) q → Fits v (maybe else_rule) h
    → c ≡ i +++ (d +++ (b +++ (q +++ h))) → count c ≤ n → IsNode v k.If c → EndsStatement (k.If, c) (first_of rest)
    → Grows (php v) s.Statement k.If c rest
if_parts v n below c i d b q h rest xi xd xb xq xh e le x st =
    let a : Forest = i +++ (d +++ b) in
    let m : Forest = q +++ h in
    let at : c ≡ a +++ m = e ∙ regroup i d b m in
    let near : elses_are_nearest false (a +++ m) ≡ true = subst (λ (f : Forest). elses_are_nearest false f ≡ true) at (elses_nearest v k.If c x) in
    let last : Last (a +++ m) rest = subst (λ (f : Forest). Last f rest) at (last_of k.If c rest st) in
    let f : follows_statement (first_of rest) ≡ true = follows (k.If, c) (first_of rest) st in
    let le2 : count (a +++ m) ≤ n = subst (λ (y : Forest). count y ≤ n) at le in
    let z : Last a (leaves m ++ rest) × (follows_statement (first_of (leaves m ++ rest)) ≡ true) = near_end false a m rest (leads_ifs v q h xq xh) near f last in
    let after : (o : Bool) × (elses_are_nearest o m ≡ true) = nearest_right false a m near in
    let chosen : statement_form (leaves c ++ rest) ≡ Some (if_form (first_of (leaves (b +++ m) ++ rest))) =
    ap (λ (y : Forest). statement_form (leaves y ++ rest)) e ∙ if_chosen v i d (b +++ m) rest xi xd in
    let begins : begins_statement (first_of (leaves (b +++ m) ++ rest)) ≡ true =
    subst (λ (ts : List Token). begins_statement (first_of ts) ≡ true) (sym (leaves_before b m rest))
    (statement_begins v b (leaves m ++ rest) xb) in
    let closes : h ≡ none → closes_statement (first_of rest) ≡ true =
    λ o. open_without c (first_of rest) (no_else v if_lead c (if_lacks v)
    (is_both xi (is_both xd (is_both xb (subst (λ (y : Forest). Fits v (many else_if) y)
    (sym (ap (λ (y : Forest). q +++ y) o ∙ before_none q)) xq) refl) refl) e)) st in
    head (chosen ∙ ap Some (begins_if (first_of (leaves (b +++ m) ++ rest)) begins))
    (subst (λ (y : Forest). Walks (php v) (if_items ++ (Repeats g.ElseIfs ∷ Part g.ElsePart ∷ [])) y rest) (sym at)
    (walks_on (php v) if_items (Repeats g.ElseIfs ∷ Part g.ElsePart ∷ []) a m rest
    (matched v n below 60 true (word t.If ∷ condition ∷ statement ∷ []) if_items follows_statement a
    (leaves m ++ rest) (if_matches v) (i, d +++ b, xi, (d, b, xd, fits_alone v statement b xb, refl), refl)
    (left_le a m n le2) z.1 (λ _. z.0))
    (else_ifs_walk v n below after.0 q h rest xq xh after.1 (right_le a m n le2) f closes (last_behind a m rest last))))

pub if_grows : (v : Version) (n : ℕ) → Below v n → StatementGrows v n k.If
if_grows v n below c rest le x st =
    let p1 : (i : Forest) × (r : Forest) × Fits v (word t.If) i
    × Fits v (condition ~ statement ~ many else_if ~ maybe else_rule) r
    × (c ≡ i +++ r) = both_is v (word t.If) (condition ~ statement ~ many else_if ~ maybe else_rule) c
    (shaped v k.If c x) in
    let p2 : (d : Forest) × (r : Forest) × Fits v condition d × Fits v (statement ~ many else_if ~ maybe else_rule) r
    × (p1.1 ≡ d +++ r) = both_is v condition (statement ~ many else_if ~ maybe else_rule) p1.1 p1.3 in
    let p3 : (b : Forest) × (r : Forest) × Fits v statement b × Fits v (many else_if ~ maybe else_rule) r
    × (p2.1 ≡ b +++ r) = both_is v statement (many else_if ~ maybe else_rule) p2.1 p2.3 in
    let p4 : (q : Forest) × (h : Forest) × Fits v (many else_if) q × Fits v (maybe else_rule) h × (p3.1 ≡ q +++ h) = both_is v (many else_if) (maybe else_rule) p3.1 p3.3 in
    if_parts v n below c p1.0 p2.0 p3.0 p4.0 p4.1 rest p1.2 p2.2 p3.2 p4.2 p4.3
    (p1.4 ∙ ap (λ (f : Forest). p1.0 +++ f)
    (p2.4 ∙ ap (λ (f : Forest). p2.0 +++ f) (p3.4 ∙ ap (λ (f : Forest). p3.0 +++ f) p4.4))) le x st
