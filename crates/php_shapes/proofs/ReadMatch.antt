-- Rules held against items: a test, and that parts which fit the rules are those of the items where it succeeds.
use Rattle.std.proofs.Common.{
  ◌≡◌,
  ℕ,
  zero,
  suc,
  ◌+◌,
  ◌<◌,
  ◌≤◌,
  Bool,
  true,
  false,
  not,
  ◌&&◌,
  ◌||◌,
  List,
  [],
  ◌∷◌,
  ◌++◌,
  length,
  ◌⊎◌,
  inl,
  inr,
  refl,
  sym,
  ap,
  ◌∙◌,
  subst,
  append_assoc,
  arith,
}
use Rattle.std.proofs.lemmas.Bool.{not-true, and_parts}
use Rattle.php_tree.specs.declared.kind.NodeKind.{NodeKind}
use Rattle.php_tree.specs.declared.token.Token.{Token}
use Rattle.php_tree.specs.declared.version.Version.{Version}
use Rattle.php_tree.specs.Tree.{Forest, none, leaf, node, ◌+++◌, leaves, count}
use Rattle.php_terminals.specs.declared.terminal.Terminal.{Terminal}
use Rattle.php_terminals.specs.Classify.{terminal}
use Rattle.php_terminals.specs.Ahead.{first_of, second_of}
use Rattle.php_grammar.specs.Accepts.{accepts, same_class}
use Rattle.php_forms.specs.declared.item.Sort.{Sort}
use Rattle.php_forms.specs.declared.item.Sort.TheVariants as s
use Rattle.php_forms.specs.declared.item.Group.{Group}
use Rattle.php_forms.specs.declared.item.Item.{Item}
use Rattle.php_forms.specs.declared.item.Item.TheVariants.{Word, Node, Part, Repeats, Span}
use Rattle.php_forms.specs.Grammar.{Walks, ends, word as a_word, child, part, stop, repeat, Spells}
use Rattle.php_grammar.specs.Tables.{php, parts}
use Rattle.php_exprs.proofs.Forests.{leaves_append, forest_assoc}
use Rattle.php_shapes.specs.Notation.{Rule, nothing, word, kind, place, inside, ◌~◌, ◌|||◌, many, tokens}
use Rattle.php_shapes.specs.Places.{Place, may_stand}
use Rattle.php_shapes.specs.Shapes.{Fits, is_nothing, is_word, is_kind, is_place, is_both, is_first, is_second, no_more, once_more, IsNode}
use Rattle.php_shapes.proofs.ReadClasses.{accepted, for_all, could, everywhere, or_is, same_is}
use Rattle.php_shapes.proofs.ReadFirst.{Begins, first, nullable, rule_begins, starts}
use Rattle.php_shapes.proofs.ReadParts.{is_fixed, looks_once, looks_twice, parts_are, parts_are_two, parts_by, parts_by_two}
use Rattle.php_shapes.proofs.ReadEnds.{Below, EndsStatement, Stopped, reads_kind, stopped, stops, suits}

-- ---- rules one after another

abbrev pub FitsAll : Version → List Rule → Forest → Type 0
FitsAll v [] f = f ≡ none
FitsAll v (r ∷ rs) f = (g : Forest) × (h : Forest) × Fits v r g × FitsAll v rs h × (f ≡ g +++ h)

pub before_none : (f : Forest) → f +++ none ≡ f
before_none none = refl
before_none (leaf x f) = ap (leaf x) (before_none f)
before_none (node j b f) = ap (node j b) (before_none f)

pub fits_alone : (v : Version) (r : Rule) (f : Forest) → Fits v r f → FitsAll v (r ∷ []) f
fits_alone v r f x = (f, none, x, refl, sym (before_none f))

pub leaves_before : (g h : Forest) (rest : List Token) → leaves (g +++ h) ++ rest ≡ leaves g ++ (leaves h ++ rest)
leaves_before g h rest = ap (λ (m : List Token). m ++ rest) (leaves_append g h) ∙ append_assoc (leaves g) (leaves h) rest

pub count_both : (g h : Forest) → count (g +++ h) ≡ count g + count h
count_both none h = omega arith
count_both (leaf x g) h = count_both g h
count_both (node j b g) h = omega (arith, count_both g h)

-- the class of the first token
first_begins : (P Q : Terminal → Bool) (b : Bool) (ts us : List Token) → Begins P b ts → Q (first_of us) ≡ true → (P (first_of (ts ++ us)) || b && Q (first_of (ts ++ us))) ≡ true
first_begins P Q b [] us h q = rw (h, q) (or_true (P (first_of us)))
  where
    or_true : (a : Bool) → (a || true) ≡ true
    or_true true = refl
    or_true false = refl
first_begins P Q b (x ∷ xs) us h q = rw h refl

pub first_class : (v : Version) (rs : List Rule) (F : Terminal → Bool) (f : Forest) (rest : List Token)
    → FitsAll v rs f → F (first_of rest) ≡ true → first v rs F (first_of (leaves f ++ rest)) ≡ true
first_class v [] F f rest e h = subst (λ (x : Forest). F (first_of (leaves x ++ rest)) ≡ true) (sym e) h
first_class v (r ∷ rs) F f rest x h =
    subst (λ (ts : List Token). first v (r ∷ rs) F (first_of ts) ≡ true) (sym (ap (λ (y : Forest). leaves y ++ rest) x.4 ∙ leaves_before x.0 x.1 rest))
    (first_begins (starts v r) (first v rs F) (nullable r) (leaves x.0) (leaves x.1 ++ rest) (rule_begins v x.2) (first_class v rs F x.1 rest x.3 h))

-- ---- the test

abbrev pub Check : Type 0
Check = Bool → List Rule → List Item → (Terminal → Bool) → Bool

abbrev pub is_empty : List Item → Bool
is_empty [] = true
is_empty (i ∷ is) = false

abbrev pub is_last : List Rule → Bool
is_last [] = true
is_last (r ∷ rs) = false

abbrev pub where_it : Bool → Bool → Bool
where_it true b = b
where_it false b = true

-- a word asks for the same class
abbrev pub takes_word : Rule → Terminal → Bool
takes_word (word w) asked = same_class w asked
takes_word nothing asked = false
takes_word (kind j) asked = false
takes_word (place p) asked = false
takes_word (inside j r) asked = false
takes_word (r ~ s) asked = false
takes_word (r ||| s) asked = false
takes_word (many r) asked = false
takes_word tokens asked = false

-- a sort reads the nodes of the rule
abbrev pub takes_node : Rule → Sort → Bool
takes_node (kind j) sort = reads_kind j sort
takes_node (place p) sort = suits p sort
takes_node (word w) sort = false
takes_node nothing sort = false
takes_node (inside j r) sort = false
takes_node (r ~ s) sort = false
takes_node (r ||| s) sort = false
takes_node (many r) sort = false
takes_node tokens sort = false

abbrev pub is_statement_sort : Sort → Bool
is_statement_sort s.Statement = true
is_statement_sort _ = false

-- a node stops before what follows it; the last statement does by what follows all
abbrev pub node_ends : Version → Bool → List Rule → (Terminal → Bool) → Sort → Bool
node_ends v fin rs F sort = (fin && is_last rs && is_statement_sort sort) || for_all (λ c. where_it (first v rs F c) (stops sort c))

-- each way to go by the rule agrees with the items that are chosen there
abbrev pub alternatives : Version → (Rule → Terminal → Bool) → (Terminal → Bool) → Rule → Bool
alternatives v check F (r ||| s) = alternatives v check F r && alternatives v check F s
alternatives v check F nothing = for_all (λ c. elim (first v (nothing ∷ []) F c) as (λ x. Bool) [ true ↦ check nothing c | false ↦ true ])
alternatives v check F (word w) = for_all (λ c. elim (first v (word w ∷ []) F c) as (λ x. Bool) [ true ↦ check (word w) c | false ↦ true ])
alternatives v check F (kind j) = for_all (λ c. elim (first v (kind j ∷ []) F c) as (λ x. Bool) [ true ↦ check (kind j) c | false ↦ true ])
alternatives v check F (place p) = for_all (λ c. elim (first v (place p ∷ []) F c) as (λ x. Bool) [ true ↦ check (place p) c | false ↦ true ])
alternatives v check F (inside j r) = for_all (λ c. elim (first v (inside j r ∷ []) F c) as (λ x. Bool) [ true ↦ check (inside j r) c | false ↦ true ])
alternatives v check F (r ~ s) = for_all (λ c. elim (first v ((r ~ s) ∷ []) F c) as (λ x. Bool) [ true ↦ check (r ~ s) c | false ↦ true ])
alternatives v check F (many r) = for_all (λ c. elim (first v (many r ∷ []) F c) as (λ x. Bool) [ true ↦ check (many r) c | false ↦ true ])
alternatives v check F tokens = for_all (λ c. elim (first v (tokens ∷ []) F c) as (λ x. Bool) [ true ↦ check tokens c | false ↦ true ])

-- the rule is a group of its own
abbrev pub aligned : Version → Check → Bool → Rule → List Rule → Group → List Item → (Terminal → Bool) → Bool
aligned v go fin r rs group is F =
    looks_once group && (alternatives v (λ a c. go (fin && is_last rs) (a ∷ []) (parts_by v group c) (first v rs F)) (first v rs F) r && go fin rs is F)

-- the rule is what repeats of a group are
abbrev pub repeating : Version → Check → Bool → Rule → List Rule → Group → List Item → (Terminal → Bool) → Bool
repeating v go fin a rs group is F =
    looks_once group
    && (not (nullable a)
    && (for_all (λ c. where_it (first v rs F c) (is_empty (parts_by v group c)))
    && (for_all (λ c. elim (starts v a c) as (λ x. Bool) [
      | true ↦ not (is_empty (parts_by v group c)) && go false (a ∷ []) (parts_by v group c)
          (first v (many a ∷ rs) F)
      | false ↦ true
    ])
    && go fin rs is F)))

-- two tokens choose no items of a group here
abbrev pub none_by_two : Version → Group → (Terminal → Bool) → Bool
none_by_two v group F = for_all (λ c. where_it (F c) (for_all (λ d. is_empty (parts_by_two v group c d))))

-- the items that two tokens choose are those of a rule that begins with a word
abbrev pub repeat_by_two : Version → Check → Terminal → (Terminal → Bool) → Rule → Group → (Terminal → Bool) → Bool
repeat_by_two v go w second a group F =
    for_all (λ c. elim (could v w c) as (λ x. Bool) [
      | true ↦ for_all (λ d. elim (second d) as (λ x. Bool) [
        | true ↦ not (is_empty (parts_by_two v group c d)) && go false (a ∷ []) (parts_by_two v group c d) F
        | false
            ↦ true
      ])
      | false ↦ true
    ])

-- the same where the next two tokens choose a repeat
abbrev pub repeating_two : Version → Check → Bool → Rule → List Rule → Group → List Item → (Terminal → Bool) → Bool
repeating_two v go fin (word w ~ b) rs group is F =
    looks_twice group
    && (not (nullable b)
    && (none_by_two v group (first v rs F)
    && (repeat_by_two v go w (starts v b) (word w ~ b) group (first v (many (word w ~ b) ∷ rs) F)
    && go fin rs is F)))
repeating_two v go fin _ rs group is F = false

-- the same where a last repeat may be a word alone
abbrev pub repeating_last : Version → Check → Bool → Rule → List Rule → Group → List Item → (Terminal → Bool) → Bool
repeating_last v go fin (word w ~ b) ((nothing ||| word u) ∷ rs) group is F =
    looks_twice group
    && (not (nullable b)
    && (none_by_two v group (first v rs F)
    && (repeat_by_two v go w (starts v b) (word w ~ b) group (first v (many (word w ~ b) ∷ (nothing ||| word u) ∷ rs) F)
    && (repeat_by_two v go u (first v rs F) (word u) group (first v rs F)
    && go fin rs is F))))
repeating_last v go fin _ rs group is F = false

abbrev pub on_repeats : Version → Check → Bool → Rule → List Rule → Group → List Item → (Terminal → Bool) → Bool
on_repeats v go fin (many a) rs group is F = elim (looks_once group) as (λ x. Bool) [
  | true ↦ repeating v go fin a rs group is F
  | false ↦ elim (repeating_two v go fin a rs group is F) as (λ x. Bool)
      [ true ↦ true | false ↦ repeating_last v go fin a rs group is F ]
]
on_repeats v go fin _ rs group is F = false

-- a group stands where no rule does
abbrev pub skipping : Version → Check → Bool → List Rule → Group → List Item → (Terminal → Bool) → Bool
skipping v go fin rs group is F =
    looks_once group && (for_all (λ c. where_it (first v rs F c) (is_empty (parts_by v group c))) && go fin rs is F)

abbrev pub on_span : Rule → Bool
on_span tokens = true
on_span _ = false

abbrev pub on_item : Version → Check → Bool → Rule → List Rule → List Item → (Terminal → Bool) → Bool
on_item v go fin r rs [] F = false
on_item v go fin r rs (Word w ∷ is) F = takes_word r w && go fin rs is F
on_item v go fin r rs (Node sort ∷ is) F = takes_node r sort && (node_ends v fin rs F sort && go fin rs is F)
on_item v go fin r rs (Part group ∷ is) F = aligned v go fin r rs group is F
on_item v go fin r rs (Repeats group ∷ is) F = on_repeats v go fin r rs group is F
on_item v go fin r rs (Span ∷ is) F = false

-- a name is a group of its own
abbrev pub on_name : Version → Check → Bool → Rule → List Rule → List Item → (Terminal → Bool) → Bool
on_name v go fin r rs (Part group ∷ is) F = elim (is_fixed group) as (λ x. Bool) [ true ↦ aligned v go fin r rs group is F | false ↦ false ]
on_name v go fin r rs _ F = false

abbrev pub on_rule : Version → Check → Bool → Rule → List Rule → List Item → (Terminal → Bool) → Bool
on_rule v go fin nothing rs is F = go fin rs is F
on_rule v go fin (r ~ q) rs is F = elim (on_name v go fin (r ~ q) rs is F) as (λ x. Bool) [ true ↦ true | false ↦ go fin (r ∷ q ∷ rs) is F ]
on_rule v go fin (word w) rs is F = on_item v go fin (word w) rs is F
on_rule v go fin (kind j) rs is F = on_item v go fin (kind j) rs is F
on_rule v go fin (place p) rs is F = on_item v go fin (place p) rs is F
on_rule v go fin (inside j r) rs is F = on_item v go fin (inside j r) rs is F
on_rule v go fin (r ||| q) rs is F = on_item v go fin (r ||| q) rs is F
on_rule v go fin (many r) rs is F = on_item v go fin (many r) rs is F
on_rule v go fin tokens rs is F = on_item v go fin tokens rs is F

abbrev pub on_nothing : Version → Check → Bool → List Item → (Terminal → Bool) → Bool
on_nothing v go fin [] F = true
on_nothing v go fin (Part group ∷ is) F = skipping v go fin [] group is F
on_nothing v go fin (Repeats group ∷ is) F = skipping v go fin [] group is F
on_nothing v go fin (Word w ∷ is) F = false
on_nothing v go fin (Node sort ∷ is) F = false
on_nothing v go fin (Span ∷ is) F = false

abbrev pub step : Version → Check → Check
step v go fin [] is F = on_nothing v go fin is F
step v go fin (r ∷ rs) is F = on_rule v go fin r rs is F

-- rules held against items, to a depth
abbrev pub matches : Version → ℕ → Check
matches v zero fin rs is F = false
matches v (suc n) fin rs is F = step v (matches v n) fin rs is F

-- ---- what it says

-- the last part ends before what follows, where it is a statement
abbrev pub Last : Forest → List Token → Type 0
Last none rest = Unit {0}
Last (leaf x f) rest = Last f rest
Last (node j b none) rest = EndsStatement (j, b) (first_of rest)
Last (node j b (leaf x f)) rest = Last f rest
Last (node j b (node i a f)) rest = Last (node i a f) rest

last_of_more : (j : NodeKind) (b f : Forest) (rest : List Token) → Last (node j b f) rest → Last f rest
last_of_more j b none rest h = tt
last_of_more j b (leaf x f) rest h = h
last_of_more j b (node i a f) rest h = h

last_right : (g h : Forest) (rest : List Token) → Last (g +++ h) rest → Last h rest
last_right none h rest l = l
last_right (leaf x g) h rest l = last_right g h rest l
last_right (node j b g) h rest l = last_right g h rest (last_of_more j b (g +++ h) rest l)

-- the parts that fit the rules are those of the items
abbrev pub Holds : Version → ℕ → Check → Type 0
Holds v n go = (fin : Bool) (rs : List Rule) (is : List Item) (F : Terminal → Bool) (f : Forest) (rest : List Token)
    → go fin rs is F ≡ true → FitsAll v rs f → count f ≤ n → F (first_of rest) ≡ true → (fin ≡ true → Last f rest)
    → Walks (php v) is f rest

pub choice : (v : Version) (P Q : Terminal → Bool) (c : Terminal) → for_all (λ d. elim (P d) as (λ x. Bool) [ true ↦ Q d | false ↦ true ]) ≡ true → P c ≡ true → Q c ≡ true
choice v P Q c h p = go (P c) p (everywhere (λ d. elim (P d) as (λ x. Bool) [ true ↦ Q d | false ↦ true ]) h c)
  where
    go : (b : Bool) → b ≡ true → (elim b as (λ x. Bool) [ true ↦ Q c | false ↦ true ]) ≡ true → Q c ≡ true
    go true e k = k
    go false e k = absurd cc

pub where_is : (P Q : Terminal → Bool) (c : Terminal) → for_all (λ d. where_it (P d) (Q d)) ≡ true → P c ≡ true → Q c ≡ true
where_is P Q c h p = go (P c) p (everywhere (λ d. where_it (P d) (Q d)) h c)
  where
    go : (b : Bool) → b ≡ true → where_it b (Q c) ≡ true → Q c ≡ true
    go true e k = k
    go false e k = absurd cc

empty_is : (is : List Item) → is_empty is ≡ true → is ≡ []
empty_is [] e = refl
empty_is (i ∷ is) e = absurd cc

-- one alternative
one_of : (v : Version) (check : Rule → Terminal → Bool) (F : Terminal → Bool) (r : Rule) (g : Forest)
    (us : List Token) → alternatives v check F r ≡ true → Fits v r g → F (first_of us) ≡ true → (a : Rule)
    × Fits v a g × (check a (first_of (leaves g ++ us)) ≡ true)
one_of v check F (r ||| q) g us h (is_first x) f = one_of v check F r g us ((and_parts (alternatives v check F r) (alternatives v check F q) h).0) x f
one_of v check F (r ||| q) g us h (is_second x) f = one_of v check F q g us ((and_parts (alternatives v check F r) (alternatives v check F q) h).1) x f
one_of v check F nothing g us h x f = (
  nothing,
  x,
  choice v (first v (nothing ∷ []) F) (check nothing)
      (first_of (leaves g ++ us)) h (first_class v (nothing ∷ []) F g us (fits_alone v nothing g x) f),
)
one_of v check F (word w) g us h x f = (
  word w,
  x,
  choice v (first v (word w ∷ []) F) (check (word w))
      (first_of (leaves g ++ us)) h (first_class v (word w ∷ []) F g us (fits_alone v (word w) g x) f),
)
one_of v check F (kind j) g us h x f = (
  kind j,
  x,
  choice v (first v (kind j ∷ []) F) (check (kind j))
      (first_of (leaves g ++ us)) h (first_class v (kind j ∷ []) F g us (fits_alone v (kind j) g x) f),
)
one_of v check F (place p) g us h x f = (
  place p,
  x,
  choice v (first v (place p ∷ []) F) (check (place p))
      (first_of (leaves g ++ us)) h (first_class v (place p ∷ []) F g us (fits_alone v (place p) g x) f),
)
one_of v check F (inside j r) g us h x f = (
  inside j r,
  x,
  choice v (first v (inside j r ∷ []) F) (check (inside j r))
      (first_of (leaves g ++ us)) h (first_class v (inside j r ∷ []) F g us (fits_alone v (inside j r) g x) f),
)
one_of v check F (r ~ q) g us h x f = (
  r ~ q,
  x,
  choice v (first v ((r ~ q) ∷ []) F) (check (r ~ q))
      (first_of (leaves g ++ us)) h (first_class v ((r ~ q) ∷ []) F g us (fits_alone v (r ~ q) g x) f),
)
one_of v check F (many r) g us h x f = (
  many r,
  x,
  choice v (first v (many r ∷ []) F) (check (many r))
      (first_of (leaves g ++ us)) h (first_class v (many r ∷ []) F g us (fits_alone v (many r) g x) f),
)
one_of v check F tokens g us h x f = (
  tokens,
  x,
  choice v (first v (tokens ∷ []) F) (check tokens)
      (first_of (leaves g ++ us)) h (first_class v (tokens ∷ []) F g us (fits_alone v tokens g x) f),
)

-- ---- what fits a rule

pub word_is : (v : Version) (w : Terminal) (g : Forest) → Fits v (word w) g → (x : Token) × (g ≡ leaf x none) × (accepts v w x ≡ true)
word_is v w g (is_word {x = x} a) = (x, refl, a)

pub kind_is : (v : Version) (j : NodeKind) (g : Forest) → Fits v (kind j) g → (c : Forest) × (g ≡ node j c none) × IsNode v j c
kind_is v j g (is_kind {c = c} x) = (c, refl, x)

pub place_is : (v : Version) (p : Place) (g : Forest) → Fits v (place p) g → (j : NodeKind) × (c : Forest) × (g ≡ node j c none) × (may_stand v p (j, c) ≡ true) × IsNode v j c
place_is v p g (is_place {k = j} {c = c} m x) = (j, c, refl, m, x)

pub nothing_is : (v : Version) (g : Forest) → Fits v nothing g → g ≡ none
nothing_is v g is_nothing = refl

pub both_is : (v : Version) (r q : Rule) (f : Forest) → Fits v (r ~ q) f → (g : Forest) × (h : Forest) × Fits v r g × Fits v q h × (f ≡ g +++ h)
both_is v r q f (is_both {g = g} {h = h} x y e) = (g, h, x, y, e)

pub either_is : (v : Version) (r q : Rule) (f : Forest) → Fits v (r ||| q) f → Fits v r f ⊎ Fits v q f
either_is v r q f (is_first x) = inl x
either_is v r q f (is_second x) = inr x

pub nodes_count : (j : NodeKind) (c h : Forest) (n : ℕ) → count (node j c h) ≤ n → (count c < n) × (count h ≤ n)
nodes_count j c h n le = (omega arith, omega arith)

pub false_true : false ≡ true → ⊥
false_true e = cc

pub zero_le : (n : ℕ) → 0 ≤ n
zero_le n = omega arith

pub left_le : (g h : Forest) (n : ℕ) → count (g +++ h) ≤ n → count g ≤ n
left_le g h n le = omega (arith, count_both g h)

pub right_le : (g h : Forest) (n : ℕ) → count (g +++ h) ≤ n → count h ≤ n
right_le g h n le = omega (arith, count_both g h)

three : (a b c : Bool) → (a && b && c) ≡ true → (a ≡ true) × (b ≡ true) × (c ≡ true)
three true true c h = (refl, refl, h)
three true false c h = absurd cc
three false b c h = absurd cc

middle : (a c : Bool) → (a && false && c) ≡ true → false ≡ true
middle true c h = h
middle false c h = h

inner_last : (v : Version) (fin : Bool) (rs : List Rule) (g h : Forest) (rest : List Token) → FitsAll v rs h
    → (fin ≡ true → Last (g +++ h) rest) → (fin && is_last rs) ≡ true → Last g (leaves h ++ rest)
inner_last v true [] g h rest y l e = subst (λ (f : Forest). Last g (leaves f ++ rest)) (sym y)
    (subst (λ (f : Forest). Last f rest) (ap (λ (f : Forest). g +++ f) y ∙ before_none g) (l refl))
inner_last v true (r ∷ rs) g h rest y l e = absurd (false_true e)
inner_last v false rs g h rest y l e = absurd (false_true e)

pub begins_there : (P : Terminal → Bool) (ts us : List Token) → Begins P false ts → P (first_of (ts ++ us)) ≡ true
begins_there P [] us h = absurd (false_true h)
begins_there P (x ∷ xs) us h = h

some_token : (P : Terminal → Bool) (ts : List Token) → Begins P false ts → 0 < length ts
some_token P [] h = absurd (false_true h)
some_token P (x ∷ xs) h = omega arith

some_items : (is : List Item) → not (is_empty is) ≡ true → (i : Item) × (js : List Item) × (is ≡ i ∷ js)
some_items [] h = absurd (false_true h)
some_items (i ∷ is) h = (i, is, refl)

five : (a b c d e : Bool) → (a && (b && (c && (d && e)))) ≡ true → (a ≡ true) × (b ≡ true) × (c ≡ true) × (d ≡ true) × (e ≡ true)
five true true true true e h = (refl, refl, refl, refl, h)
five true true true false e h = absurd (false_true h)
five true true false d e h = absurd (false_true h)
five true false c d e h = absurd (false_true h)
five false b c d e h = absurd (false_true h)

chosen : (a b : Bool) → (elim a as (λ x. Bool) [ true ↦ b | false ↦ false ]) ≡ true → b ≡ true
chosen true b h = h
chosen false b h = absurd (false_true h)

one_token : (x : Token) (ts : List Token) → 0 < length (x ∷ ts)
one_token x ts = omega arith

three_ways : (a b c d : Bool) → (elim a as (λ x. Bool) [ true ↦ b | false ↦ elim c as (λ x. Bool) [ true ↦ true | false ↦ d ] ]) ≡ true → (b ≡ true) ⊎ (c ≡ true) ⊎ (d ≡ true)
three_ways true b c d h = inl h
three_ways false b true d h = inr (inl refl)
three_ways false b false d h = inr (inr h)

-- ---- steps

module _ (v : Version) where
  no_group : (group : Group) (is : List Item) (f : Forest) (rest : List Token) → parts v group (leaves f ++ rest) ≡ []
      → Walks (php v) is f rest → Walks (php v) (Part group ∷ is) f rest
  no_group group is f rest e w = part {h = none} (subst (λ (js : List Item). Walks (php v) js none (leaves f ++ rest)) (sym e) ends) w

  empty_here : (group : Group) (F : Terminal → Bool) (ts : List Token) → looks_once group ≡ true
      → for_all (λ c. where_it (F c) (is_empty (parts_by v group c))) ≡ true → F (first_of ts) ≡ true
      → parts v group ts ≡ []
  empty_here group F ts o a h = parts_are v group ts o ∙ empty_is (parts_by v group (first_of ts)) (where_is F (λ c. is_empty (parts_by v group c)) (first_of ts) a h)

module _ (v : Version) (n : ℕ) (below : Below v n) (go : Check) (holds : Holds v n go) where
  skip_holds : (repeats : Bool) (fin : Bool) (rs : List Rule) (group : Group) (is : List Item) (F : Terminal → Bool)
      (f : Forest) (rest : List Token) → skipping v go fin rs group is F ≡ true → FitsAll v rs f → count f ≤ n
      → F (first_of rest) ≡ true → (fin ≡ true → Last f rest) → (parts v group (leaves f ++ rest) ≡ [])
      × Walks (php v) is f rest
  skip_holds repeats fin rs group is F f rest c x le h l =
      let one : (looks_once group ≡ true) × ((for_all (λ d. where_it (first v rs F d) (is_empty (parts_by v group d)))
      && go fin rs is F) ≡ true) = and_parts (looks_once group)
      (for_all (λ d. where_it (first v rs F d) (is_empty (parts_by v group d))) && go fin rs is F) c in
      let two : (for_all (λ d. where_it (first v rs F d) (is_empty (parts_by v group d))) ≡ true)
      × (go fin rs is F ≡ true) = and_parts (for_all (λ d. where_it (first v rs F d) (is_empty (parts_by v group d))))
      (go fin rs is F) one.1 in
      (empty_here v group (first v rs F) (leaves f ++ rest) one.0 two.0 (first_class v rs F f rest x h), holds fin rs is F f rest two.1 x le h l)

  nothing_holds : (fin : Bool) (is : List Item) (F : Terminal → Bool) (rest : List Token) → on_nothing v go fin is F ≡ true → F (first_of rest) ≡ true → Walks (php v) is none rest
  nothing_holds fin [] F rest c h = ends
  nothing_holds fin (Part group ∷ is) F rest c h = let r : (parts v group rest ≡ [])
      × Walks (php v) is none rest = skip_holds true fin [] group is F none rest c refl (zero_le n) h (λ e. tt)
      in no_group v group is none rest r.0 r.1
  nothing_holds fin (Repeats group ∷ is) F rest c h = let r : (parts v group rest ≡ [])
      × Walks (php v) is none rest = skip_holds true fin [] group is F none rest c refl (zero_le n) h (λ e. tt)
      in stop r.0 r.1
  nothing_holds fin (Word w ∷ is) F rest c h = absurd (false_true c)
  nothing_holds fin (Node sort ∷ is) F rest c h = absurd (false_true c)
  nothing_holds fin (Span ∷ is) F rest c h = absurd (false_true c)

  word_holds : (r : Rule) (w : Terminal) (is : List Item) (g h : Forest) (rest : List Token) → takes_word r w ≡ true
      → Fits v r g → Walks (php v) is h rest → Walks (php v) (Word w ∷ is) (g +++ h) rest
  word_holds (word a) w is g h rest c x k =
      let q : (y : Token) × (g ≡ leaf y none) × (accepts v a y ≡ true) = word_is v a g x in
      subst (λ (f : Forest). Walks (php v) (Word w ∷ is) (f +++ h) rest) (sym q.1) (a_word (subst (λ (u : Terminal). accepts v u q.0 ≡ true) (same_is a w c) q.2) k)
  word_holds nothing w is g h rest c x k = absurd (false_true c)
  word_holds (kind j) w is g h rest c x k = absurd (false_true c)
  word_holds (place p) w is g h rest c x k = absurd (false_true c)
  word_holds (inside j r) w is g h rest c x k = absurd (false_true c)
  word_holds (r ~ q) w is g h rest c x k = absurd (false_true c)
  word_holds (r ||| q) w is g h rest c x k = absurd (false_true c)
  word_holds (many r) w is g h rest c x k = absurd (false_true c)
  word_holds tokens w is g h rest c x k = absurd (false_true c)

  -- a node of a rule is read where it stops
  node_read : (r : Rule) (sort : Sort) (is : List Item) (g h : Forest) (rest : List Token) → takes_node r sort ≡ true
      → Fits v r g → count (g +++ h) ≤ n → ((j : NodeKind) (c : Forest) → g ≡ node j c none
      → Stopped v sort (j, c) (leaves h ++ rest)) → Walks (php v) is h rest
      → Walks (php v) (Node sort ∷ is) (g +++ h) rest
  node_read (kind j) sort is g h rest c x le st k =
      let q : (b : Forest) × (g ≡ node j b none) × IsNode v j b = kind_is v j g x in
      let le' : count (node j q.0 h) ≤ n = subst (λ (f : Forest). count (f +++ h) ≤ n) q.1 le in
      let y : Spells (php v) sort (j, q.0) (leaves h ++ rest) = below.kinded j sort q.0 (leaves h ++ rest) c ((nodes_count j q.0 h n le').0) q.2 (st j q.0 q.1) in
      subst (λ (f : Forest). Walks (php v) (Node sort ∷ is) (f +++ h) rest) (sym q.1) (child y.0 y.1 k)
  node_read (place p) sort is g h rest c x le st k =
      let q : (j : NodeKind) × (b : Forest) × (g ≡ node j b none) × (may_stand v p (j, b) ≡ true) × IsNode v j b = place_is v p g x in
      let le' : count (node q.0 q.1 h) ≤ n = subst (λ (f : Forest). count (f +++ h) ≤ n) q.2 le in
      let y : Spells (php v) sort (q.0, q.1) (leaves h ++ rest) = below.placed p sort q.0 q.1 (leaves h ++ rest) c ((nodes_count q.0 q.1 h n le').0) q.3 q.4 (st q.0 q.1 q.2) in
      subst (λ (f : Forest). Walks (php v) (Node sort ∷ is) (f +++ h) rest) (sym q.2) (child y.0 y.1 k)
  node_read (word a) w is g h rest c x le st k = absurd (false_true c)
  node_read nothing w is g h rest c x le st k = absurd (false_true c)
  node_read (inside j r) w is g h rest c x le st k = absurd (false_true c)
  node_read (r ~ q) w is g h rest c x le st k = absurd (false_true c)
  node_read (r ||| q) w is g h rest c x le st k = absurd (false_true c)
  node_read (many r) w is g h rest c x le st k = absurd (false_true c)
  node_read tokens w is g h rest c x le st k = absurd (false_true c)

  last_stops : (sort : Sort) (j : NodeKind) (c : Forest) (rest : List Token) → is_statement_sort sort ≡ true → EndsStatement (j, c) (first_of rest) → Stopped v sort (j, c) rest
  last_stops s.Statement j c rest e h = h
  last_stops s.Block j c rest e h = absurd (false_true e)
  last_stops s.Case j c rest e h = absurd (false_true e)
  last_stops s.Member j c rest e h = absurd (false_true e)
  last_stops s.Param j c rest e h = absurd (false_true e)
  last_stops s.TypeName j c rest e h = absurd (false_true e)
  last_stops s.Args j c rest e h = absurd (false_true e)
  last_stops s.Item j c rest e h = absurd (false_true e)
  last_stops s.ListItem j c rest e h = absurd (false_true e)
  last_stops (s.Operand m) j c rest e h = absurd (false_true e)
  last_stops s.Entry j c rest e h = absurd (false_true e)
  last_stops s.Target j c rest e h = absurd (false_true e)
  last_stops s.Place j c rest e h = absurd (false_true e)
  last_stops s.SimpleVariable j c rest e h = absurd (false_true e)
  last_stops s.PlainVariable j c rest e h = absurd (false_true e)
  last_stops s.ClassRef j c rest e h = absurd (false_true e)
  last_stops s.Interpolated j c rest e h = absurd (false_true e)
  last_stops s.Embedded j c rest e h = absurd (false_true e)

  stops_last : (fin : Bool) (rs : List Rule) (sort : Sort) (g h : Forest) (rest : List Token)
      → (fin && is_last rs && is_statement_sort sort) ≡ true → FitsAll v rs h → (fin ≡ true → Last (g +++ h) rest)
      → (j : NodeKind) (b : Forest) → g ≡ node j b none → Stopped v sort (j, b) (leaves h ++ rest)
  stops_last fin (r ∷ rs) sort g h rest y x l j b e = absurd (false_true (middle fin (is_statement_sort sort) y))
  stops_last fin [] sort g h rest y x l j b e =
      let z : Last (node j b none) rest = subst (λ (f : Forest). Last f rest)
      (ap (λ (f : Forest). f +++ h) e ∙ ap (λ (f : Forest). node j b f) x)
      (l ((three fin true (is_statement_sort sort) y).0)) in
      last_stops sort j b (leaves h ++ rest) ((three fin true (is_statement_sort sort) y).2) (subst (λ (f : Forest). EndsStatement (j, b) (first_of (leaves f ++ rest))) (sym x) z)

  stops_here : (fin : Bool) (rs : List Rule) (F : Terminal → Bool) (sort : Sort) (g h : Forest) (rest : List Token)
      → node_ends v fin rs F sort ≡ true → FitsAll v rs h → F (first_of rest) ≡ true
      → (fin ≡ true → Last (g +++ h) rest) → (j : NodeKind) (c : Forest) → g ≡ node j c none
      → Stopped v sort (j, c) (leaves h ++ rest)
  stops_here fin rs F sort g h rest c x f l j b e =
      elim (or_is (fin && is_last rs && is_statement_sort sort) (for_all (λ d. where_it (first v rs F d) (stops sort d))) c) [
        | inl y ↦ stops_last fin rs sort g h rest y x l j b e
        | inr y ↦ stopped v sort (j, b) (leaves h ++ rest) (where_is (first v rs F) (stops sort) (first_of (leaves h ++ rest)) y (first_class v rs F h rest x f))
      ]

  aligned_holds : (fin : Bool) (r : Rule) (rs : List Rule) (group : Group) (is : List Item) (F : Terminal → Bool)
      (g h : Forest) (rest : List Token) → aligned v go fin r rs group is F ≡ true → Fits v r g → FitsAll v rs h
      → count (g +++ h) ≤ n → F (first_of rest) ≡ true → (fin ≡ true → Last (g +++ h) rest)
      → Walks (php v) (Part group ∷ is) (g +++ h) rest
  aligned_holds fin r rs group is F g h rest c x y le f l =
      let check : Rule → Terminal → Bool = λ a d. go (fin && is_last rs) (a ∷ []) (parts_by v group d) (first v rs F) in
      let one : (looks_once group ≡ true) × ((alternatives v check (first v rs F) r && go fin rs is F) ≡ true) =
      and_parts (looks_once group) (alternatives v check (first v rs F) r && go fin rs is F) c in
      let two : (alternatives v check (first v rs F) r ≡ true) × (go fin rs is F ≡ true) = and_parts (alternatives v check (first v rs F) r) (go fin rs is F) one.1 in
      let at : first v rs F (first_of (leaves h ++ rest)) ≡ true = first_class v rs F h rest y f in
      let o : (a : Rule) × Fits v a g × (check a (first_of (leaves g ++ (leaves h ++ rest))) ≡ true) = one_of v check (first v rs F) r g (leaves h ++ rest) two.0 x at in
      part
      (subst (λ (js : List Item). Walks (php v) js g (leaves h ++ rest)) (sym (parts_are v group (leaves g ++ (leaves h ++ rest)) one.0))
      (holds (fin && is_last rs) (o.0 ∷ []) (parts_by v group (first_of (leaves g ++ (leaves h ++ rest))))
      (first v rs F) g (leaves h ++ rest) o.2 (fits_alone v o.0 g o.1) (left_le g h n le) at
      (inner_last v fin rs g h rest y l)))
      (holds fin rs is F h rest two.1 y (right_le g h n le) f (λ e. last_right g h rest (l e)))

  -- repeats of a group
  repeats_hold : (a : Rule) (rs : List Rule) (group : Group) (is : List Item) (F : Terminal → Bool) (h : Forest)
      (rest : List Token) → looks_once group ≡ true → nullable a ≡ false
      → for_all (λ d. where_it (first v rs F d) (is_empty (parts_by v group d))) ≡ true
      → for_all (λ d. elim (starts v a d) as (λ x. Bool) [
        | true ↦ not (is_empty (parts_by v group d)) && go false (a ∷ []) (parts_by v group d) (first v (many a ∷ rs) F)
        | false ↦ true
      ]) ≡ true → FitsAll v rs h → F (first_of rest) ≡ true → Walks (php v) is h rest → (g : Forest)
      → Fits v (many a) g → count g ≤ n → Walks (php v) (Repeats group ∷ is) (g +++ h) rest
  repeats_hold a rs group is F h rest o nn st tu y f w g no_more le = stop (empty_here v group (first v rs F) (leaves h ++ rest) o st (first_class v rs F h rest y f)) w
  repeats_hold a rs group is F h rest o nn st tu y f w g (once_more {g = g1} {h = g2} x more e) le =
      let le' : count (g1 +++ g2) ≤ n = subst (λ (z : Forest). count z ≤ n) e le in
      let us : List Token = leaves (g2 +++ h) ++ rest in
      let begins : Begins (starts v a) false (leaves g1) = subst (λ (b : Bool). Begins (starts v a) b (leaves g1)) nn (rule_begins v x) in
      let c : starts v a (first_of (leaves g1 ++ us)) ≡ true = begins_there (starts v a) (leaves g1) us begins in
      let q : (not (is_empty (parts_by v group (first_of (leaves g1 ++ us)))) ≡ true)
      × (go false (a ∷ []) (parts_by v group (first_of (leaves g1 ++ us))) (first v (many a ∷ rs) F) ≡ true) =
      and_parts (not (is_empty (parts_by v group (first_of (leaves g1 ++ us)))))
      (go false (a ∷ []) (parts_by v group (first_of (leaves g1 ++ us))) (first v (many a ∷ rs) F))
      (choice v (starts v a) (λ d. not (is_empty (parts_by v group d))
      && go false (a ∷ []) (parts_by v group d) (first v (many a ∷ rs) F)) (first_of (leaves g1 ++ us)) tu c) in
      let at : first v (many a ∷ rs) F (first_of us) ≡ true = first_class v (many a ∷ rs) F (g2 +++ h) rest (g2, h, more, y, refl) f in
      let inner : Walks (php v) (parts v group (leaves g1 ++ us)) g1 us =
      subst (λ (js : List Item). Walks (php v) js g1 us) (sym (parts_are v group (leaves g1 ++ us) o))
      (holds false (a ∷ []) (parts_by v group (first_of (leaves g1 ++ us))) (first v (many a ∷ rs) F) g1 us q.1
      (fits_alone v a g1 x) (left_le g1 g2 n le') at (λ z. absurd (false_true z))) in
      let some : (i : Item) × (js : List Item) × (parts v group (leaves g1 ++ us) ≡ i ∷ js) =
      some_items (parts v group (leaves g1 ++ us))
      (ap (λ (js : List Item). not (is_empty js)) (parts_are v group (leaves g1 ++ us) o) ∙ q.0) in
      let all : Walks (php v) (Repeats group ∷ is) (g1 +++ (g2 +++ h)) rest =
      repeat some.2 (subst (λ (js : List Item). Walks (php v) js g1 us) some.2 inner)
      (some_token (starts v a) (leaves g1) begins)
      (repeats_hold a rs group is F h rest o nn st tu y f w g2 more (right_le g1 g2 n le')) in
      subst (λ (z : Forest). Walks (php v) (Repeats group ∷ is) z rest) (sym (ap (λ (z : Forest). z +++ h) e ∙ forest_assoc g1 g2 h)) all

  repeating_holds : (fin : Bool) (a : Rule) (rs : List Rule) (group : Group) (is : List Item) (F : Terminal → Bool)
      (g h : Forest) (rest : List Token) → repeating v go fin a rs group is F ≡ true → Fits v (many a) g
      → FitsAll v rs h → count (g +++ h) ≤ n → F (first_of rest) ≡ true → (fin ≡ true → Last (g +++ h) rest)
      → Walks (php v) (Repeats group ∷ is) (g +++ h) rest
  repeating_holds fin a rs group is F g h rest c x y le f l =
      let S : Bool = for_all (λ d. where_it (first v rs F d) (is_empty (parts_by v group d))) in
      let U : Bool = for_all (λ d. elim (starts v a d) as (λ x. Bool) [
        | true ↦ not (is_empty (parts_by v group d)) && go false (a ∷ []) (parts_by v group d)
            (first v (many a ∷ rs) F)
        | false ↦ true
      ]) in
      let q : (looks_once group ≡ true) × (not (nullable a) ≡ true) × (S ≡ true) × (U ≡ true)
      × (go fin rs is F ≡ true) = five (looks_once group) (not (nullable a)) S U (go fin rs is F) c in
      repeats_hold a rs group is F h rest q.0 (not-true (nullable a) q.1) q.2 q.3 y f
      (holds fin rs is F h rest q.4 y (right_le g h n le) f (λ e. last_right g h rest (l e))) g x
      (left_le g h n le)

  -- a repeat that two tokens choose
  repeat_two : (w : Terminal) (second : Terminal → Bool) (a : Rule) (group : Group) (is : List Item)
      (F : Terminal → Bool) (x : Token) (g1 h : Forest) (rest : List Token) → looks_twice group ≡ true
      → repeat_by_two v go w second a group F ≡ true → accepts v w x ≡ true → Fits v a (leaf x g1) → count g1 ≤ n
      → second (first_of (leaves g1 ++ (leaves h ++ rest))) ≡ true → F (first_of (leaves h ++ rest)) ≡ true
      → Walks (php v) (Repeats group ∷ is) h rest → Walks (php v) (Repeats group ∷ is) (leaf x g1 +++ h) rest
  repeat_two w second a group is F x g1 h rest tw t acc fit le sec f more =
      let us : List Token = leaves h ++ rest in
      let c : Terminal = terminal x in
      let d : Terminal = first_of (leaves g1 ++ us) in
      let one : for_all (λ e. elim (second e) as (λ x. Bool) [
        | true ↦ not (is_empty (parts_by_two v group c e)) && go false (a ∷ []) (parts_by_two v group c e) F
        | false
            ↦ true
      ]) ≡ true = choice v (could v w)
      (λ c. for_all (λ e. elim (second e) as (λ x. Bool) [
        | true ↦ not (is_empty (parts_by_two v group c e)) && go false (a ∷ []) (parts_by_two v group c e) F
        | false
            ↦ true
      ])) c t (accepted v w x acc) in
      let two : (not (is_empty (parts_by_two v group c d)) && go false (a ∷ []) (parts_by_two v group c d) F) ≡ true =
      choice v second (λ e. not (is_empty (parts_by_two v group c e))
      && go false (a ∷ []) (parts_by_two v group c e) F) d one sec in
      let q : (not (is_empty (parts_by_two v group c d)) ≡ true)
      × (go false (a ∷ []) (parts_by_two v group c d) F ≡ true) =
      and_parts (not (is_empty (parts_by_two v group c d))) (go false (a ∷ []) (parts_by_two v group c d) F) two in
      let are : parts v group (leaves (leaf x g1) ++ us) ≡ parts_by_two v group c d = parts_are_two v group (leaves (leaf x g1) ++ us) tw in
      let inner : Walks (php v) (parts v group (leaves (leaf x g1) ++ us)) (leaf x g1) us =
      subst (λ (js : List Item). Walks (php v) js (leaf x g1) us) (sym are)
      (holds false (a ∷ []) (parts_by_two v group c d) F (leaf x g1) us q.1 (fits_alone v a (leaf x g1) fit) le f
      (λ z. absurd (false_true z))) in
      let some : (i : Item) × (js : List Item) × (parts v group (leaves (leaf x g1) ++ us) ≡ i ∷ js) =
      some_items (parts v group (leaves (leaf x g1) ++ us)) (ap (λ (js : List Item). not (is_empty js)) are ∙ q.0)
      in
      repeat some.2 (subst (λ (js : List Item). Walks (php v) js (leaf x g1) us) some.2 inner) (one_token x (leaves g1)) more

  none_two : (group : Group) (F : Terminal → Bool) (ts : List Token) → looks_twice group ≡ true → none_by_two v group F ≡ true → F (first_of ts) ≡ true → parts v group ts ≡ []
  none_two group F ts tw a f =
      parts_are_two v group ts tw ∙ empty_is (parts_by_two v group (first_of ts) (second_of ts))
      (everywhere (λ d. is_empty (parts_by_two v group (first_of ts) d))
      (where_is F (λ c. for_all (λ d. is_empty (parts_by_two v group c d))) (first_of ts) a f) (second_of ts))

  repeats_two : (w : Terminal) (b : Rule) (rs : List Rule) (group : Group) (is : List Item) (F : Terminal → Bool)
      (h : Forest) (rest : List Token) → looks_twice group ≡ true → nullable b ≡ false
      → repeat_by_two v go w (starts v b) (word w ~ b) group (first v (many (word w ~ b) ∷ rs) F) ≡ true
      → FitsAll v rs h → F (first_of rest) ≡ true → Walks (php v) (Repeats group ∷ is) h rest → (g : Forest)
      → Fits v (many (word w ~ b)) g → count g ≤ n → Walks (php v) (Repeats group ∷ is) (g +++ h) rest
  repeats_two w b rs group is F h rest tw nn tu y f walk g no_more le = walk
  repeats_two w b rs group is F h rest tw nn tu y f walk g (once_more {g = g1} {h = g2} x more e) le =
      let le' : count (g1 +++ g2) ≤ n = subst (λ (z : Forest). count z ≤ n) e le in
      let p : (k1 : Forest) × (k2 : Forest) × Fits v (word w) k1 × Fits v b k2 × (g1 ≡ k1 +++ k2) = both_is v (word w) b g1 x in
      let q : (u : Token) × (p.0 ≡ leaf u none) × (accepts v w u ≡ true) = word_is v w p.0 p.2 in
      let at : g1 ≡ leaf q.0 p.1 = p.4 ∙ ap (λ (z : Forest). z +++ p.1) q.1 in
      let begins : Begins (starts v b) false (leaves p.1) = subst (λ (b' : Bool). Begins (starts v b) b' (leaves p.1)) nn (rule_begins v p.3) in
      let le1 : count p.1 ≤ n = subst (λ (z : Forest). count z ≤ n) at (left_le g1 g2 n le') in
      let all : Walks (php v) (Repeats group ∷ is) (leaf q.0 p.1 +++ (g2 +++ h)) rest =
      repeat_two w (starts v b) (word w ~ b) group is (first v (many (word w ~ b) ∷ rs) F) q.0 p.1 (g2 +++ h) rest
      tw tu q.2 (subst (λ (z : Forest). Fits v (word w ~ b) z) at x) le1
      (begins_there (starts v b) (leaves p.1) (leaves (g2 +++ h) ++ rest) begins)
      (first_class v (many (word w ~ b) ∷ rs) F (g2 +++ h) rest (g2, h, more, y, refl) f)
      (repeats_two w b rs group is F h rest tw nn tu y f walk g2 more (right_le g1 g2 n le')) in
      subst (λ (z : Forest). Walks (php v) (Repeats group ∷ is) z rest)
      (sym (ap (λ (z : Forest). z +++ h) (e ∙ ap (λ (z : Forest). z +++ g2) at)
      ∙ forest_assoc (leaf q.0 p.1) g2 h)) all

  repeating_two_holds : (fin : Bool) (a : Rule) (rs : List Rule) (group : Group) (is : List Item) (F : Terminal → Bool)
      (g h : Forest) (rest : List Token) → repeating_two v go fin a rs group is F ≡ true → Fits v (many a) g
      → FitsAll v rs h → count (g +++ h) ≤ n → F (first_of rest) ≡ true → (fin ≡ true → Last (g +++ h) rest)
      → Walks (php v) (Repeats group ∷ is) (g +++ h) rest
  repeating_two_holds fin (word w ~ b) rs group is F g h rest c x y le f l =
      let S : Bool = none_by_two v group (first v rs F) in
      let U : Bool = repeat_by_two v go w (starts v b) (word w ~ b) group (first v (many (word w ~ b) ∷ rs) F) in
      let q : (looks_twice group ≡ true) × (not (nullable b) ≡ true) × (S ≡ true) × (U ≡ true)
      × (go fin rs is F ≡ true) = five (looks_twice group) (not (nullable b)) S U (go fin rs is F) c in
      repeats_two w b rs group is F h rest q.0 (not-true (nullable b) q.1) q.3 y f
      (stop (none_two group (first v rs F) (leaves h ++ rest) q.0 q.2 (first_class v rs F h rest y f))
      (holds fin rs is F h rest q.4 y (right_le g h n le) f (λ e. last_right g h rest (l e))))
      g x (left_le g h n le)
  repeating_two_holds fin nothing rs group is F g h rest c x y le f l = absurd (false_true c)
  repeating_two_holds fin (word e) rs group is F g h rest c x y le f l = absurd (false_true c)
  repeating_two_holds fin (kind j) rs group is F g h rest c x y le f l = absurd (false_true c)
  repeating_two_holds fin (place p) rs group is F g h rest c x y le f l = absurd (false_true c)
  repeating_two_holds fin (inside j r) rs group is F g h rest c x y le f l = absurd (false_true c)
  repeating_two_holds fin (r ||| q) rs group is F g h rest c x y le f l = absurd (false_true c)
  repeating_two_holds fin (many r) rs group is F g h rest c x y le f l = absurd (false_true c)
  repeating_two_holds fin tokens rs group is F g h rest c x y le f l = absurd (false_true c)
  repeating_two_holds fin (nothing ~ b) rs group is F g h rest c x y le f l = absurd (false_true c)
  repeating_two_holds fin ((kind j) ~ b) rs group is F g h rest c x y le f l = absurd (false_true c)
  repeating_two_holds fin ((place p) ~ b) rs group is F g h rest c x y le f l = absurd (false_true c)
  repeating_two_holds fin ((inside j r) ~ b) rs group is F g h rest c x y le f l = absurd (false_true c)
  repeating_two_holds fin ((r ||| q) ~ b) rs group is F g h rest c x y le f l = absurd (false_true c)
  repeating_two_holds fin ((many r) ~ b) rs group is F g h rest c x y le f l = absurd (false_true c)
  repeating_two_holds fin (tokens ~ b) rs group is F g h rest c x y le f l = absurd (false_true c)
  repeating_two_holds fin ((r ~ q) ~ b) rs group is F g h rest c x y le f l = absurd (false_true c)

  -- behind the repeats, a word alone or nothing
  last_repeat : (fin : Bool) (u : Terminal) (rs : List Rule) (group : Group) (is : List Item) (F : Terminal → Bool)
      (g h : Forest) (rest : List Token) → looks_twice group ≡ true → none_by_two v group (first v rs F) ≡ true
      → repeat_by_two v go u (first v rs F) (word u) group (first v rs F) ≡ true → Fits v (nothing ||| word u) g
      → FitsAll v rs h → F (first_of rest) ≡ true → Walks (php v) is h rest
      → Walks (php v) (Repeats group ∷ is) (g +++ h) rest
  last_repeat fin u rs group is F g h rest tw nn la (is_first x) y f walk =
      subst (λ (z : Forest). Walks (php v) (Repeats group ∷ is) (z +++ h) rest) (sym (nothing_is v g x))
      (stop (none_two group (first v rs F) (leaves h ++ rest) tw nn (first_class v rs F h rest y f)) walk)
  last_repeat fin u rs group is F g h rest tw nn la (is_second x) y f walk =
      let q : (z : Token) × (g ≡ leaf z none) × (accepts v u z ≡ true) = word_is v u g x in
      let at : first v rs F (first_of (leaves h ++ rest)) ≡ true = first_class v rs F h rest y f in
      subst (λ (z : Forest). Walks (php v) (Repeats group ∷ is) (z +++ h) rest) (sym q.1)
      (repeat_two u (first v rs F) (word u) group is (first v rs F) q.0 none h rest tw la q.2 (subst (λ (z : Forest). Fits v (word u) z) q.1 x) (zero_le n) at at
      (stop (none_two group (first v rs F) (leaves h ++ rest) tw nn at) walk))

  repeating_last_holds : (fin : Bool) (a : Rule) (rs : List Rule) (group : Group) (is : List Item) (F : Terminal → Bool)
      (g h : Forest) (rest : List Token) → repeating_last v go fin a rs group is F ≡ true → Fits v (many a) g
      → FitsAll v rs h → count (g +++ h) ≤ n → F (first_of rest) ≡ true → (fin ≡ true → Last (g +++ h) rest)
      → Walks (php v) (Repeats group ∷ is) (g +++ h) rest
  repeating_last_holds fin (word w ~ b) ((nothing ||| word u) ∷ rs) group is F g h rest c x y le f l =
      let S : Bool = none_by_two v group (first v rs F) in
      let U : Bool = repeat_by_two v go w (starts v b) (word w ~ b) group (first v (many (word w ~ b) ∷ (nothing ||| word u) ∷ rs) F) in
      let Z : Bool = repeat_by_two v go u (first v rs F) (word u) group (first v rs F) in
      let q : (looks_twice group ≡ true) × (not (nullable b) ≡ true) × (S ≡ true) × (U ≡ true)
      × ((Z && go fin rs is F) ≡ true) = five (looks_twice group) (not (nullable b)) S U (Z && go fin rs is F) c
      in
      let z : (Z ≡ true) × (go fin rs is F ≡ true) = and_parts Z (go fin rs is F) q.4 in
      let le2 : count y.1 ≤ n = right_le y.0 y.1 n (subst (λ (m : Forest). count m ≤ n) y.4 (right_le g h n le)) in
      let last : Walks (php v) is y.1 rest = holds fin rs is F y.1 rest z.1 y.3 le2 f
      (λ e. last_right y.0 y.1 rest (subst (λ (m : Forest). Last m rest) y.4 (last_right g h rest (l e)))) in
      repeats_two w b ((nothing ||| word u) ∷ rs) group is F h rest q.0 (not-true (nullable b) q.1) q.3 y f
      (subst (λ (m : Forest). Walks (php v) (Repeats group ∷ is) m rest) (sym y.4) (last_repeat fin u rs group is F y.0 y.1 rest q.0 q.2 z.0 y.2 y.3 f last))
      g x (left_le g h n le)
  repeating_last_holds fin nothing rs group is F g h rest c x y le f l = absurd (false_true c)
  repeating_last_holds fin (word e) rs group is F g h rest c x y le f l = absurd (false_true c)
  repeating_last_holds fin (kind j) rs group is F g h rest c x y le f l = absurd (false_true c)
  repeating_last_holds fin (place p) rs group is F g h rest c x y le f l = absurd (false_true c)
  repeating_last_holds fin (inside j r) rs group is F g h rest c x y le f l = absurd (false_true c)
  repeating_last_holds fin (r ||| q) rs group is F g h rest c x y le f l = absurd (false_true c)
  repeating_last_holds fin (many r) rs group is F g h rest c x y le f l = absurd (false_true c)
  repeating_last_holds fin tokens rs group is F g h rest c x y le f l = absurd (false_true c)
  repeating_last_holds fin (nothing ~ b) rs group is F g h rest c x y le f l = absurd (false_true c)
  repeating_last_holds fin ((kind j) ~ b) rs group is F g h rest c x y le f l = absurd (false_true c)
  repeating_last_holds fin ((place p) ~ b) rs group is F g h rest c x y le f l = absurd (false_true c)
  repeating_last_holds fin ((inside j r) ~ b) rs group is F g h rest c x y le f l = absurd (false_true c)
  repeating_last_holds fin ((r ||| q) ~ b) rs group is F g h rest c x y le f l = absurd (false_true c)
  repeating_last_holds fin ((many r) ~ b) rs group is F g h rest c x y le f l = absurd (false_true c)
  repeating_last_holds fin (tokens ~ b) rs group is F g h rest c x y le f l = absurd (false_true c)
  repeating_last_holds fin ((r ~ q) ~ b) rs group is F g h rest c x y le f l = absurd (false_true c)
  repeating_last_holds fin (word w ~ b) [] group is F g h rest c x y le f l = absurd (false_true c)
  repeating_last_holds fin (word w ~ b) (nothing ∷ rs) group is F g h rest c x y le f l = absurd (false_true c)
  repeating_last_holds fin (word w ~ b) ((word e) ∷ rs) group is F g h rest c x y le f l = absurd (false_true c)
  repeating_last_holds fin (word w ~ b) ((kind j) ∷ rs) group is F g h rest c x y le f l = absurd (false_true c)
  repeating_last_holds fin (word w ~ b) ((place p) ∷ rs) group is F g h rest c x y le f l = absurd (false_true c)
  repeating_last_holds fin (word w ~ b) ((inside j r) ∷ rs) group is F g h rest c x y le f l = absurd (false_true c)
  repeating_last_holds fin (word w ~ b) ((many r) ∷ rs) group is F g h rest c x y le f l = absurd (false_true c)
  repeating_last_holds fin (word w ~ b) (tokens ∷ rs) group is F g h rest c x y le f l = absurd (false_true c)
  repeating_last_holds fin (word w ~ b) ((r ~ q) ∷ rs) group is F g h rest c x y le f l = absurd (false_true c)
  repeating_last_holds fin (word w ~ b) (((word e) ||| z) ∷ rs) group is F g h rest c x y le f l = absurd (false_true c)
  repeating_last_holds fin (word w ~ b) (((kind j) ||| z) ∷ rs) group is F g h rest c x y le f l = absurd (false_true c)
  repeating_last_holds fin (word w ~ b) (((place p) ||| z) ∷ rs) group is F g h rest c x y le f l = absurd (false_true c)
  repeating_last_holds fin (word w ~ b) (((inside j r) ||| z) ∷ rs) group is F g h rest c x y le f l = absurd (false_true c)
  repeating_last_holds fin (word w ~ b) (((r ||| o) ||| z) ∷ rs) group is F g h rest c x y le f l = absurd (false_true c)
  repeating_last_holds fin (word w ~ b) (((many r) ||| z) ∷ rs) group is F g h rest c x y le f l = absurd (false_true c)
  repeating_last_holds fin (word w ~ b) ((tokens ||| z) ∷ rs) group is F g h rest c x y le f l = absurd (false_true c)
  repeating_last_holds fin (word w ~ b) (((r ~ q) ||| z) ∷ rs) group is F g h rest c x y le f l = absurd (false_true c)
  repeating_last_holds fin (word w ~ b) ((nothing ||| nothing) ∷ rs) group is F g h rest c x y le f l = absurd (false_true c)
  repeating_last_holds fin (word w ~ b) ((nothing ||| (kind j)) ∷ rs) group is F g h rest c x y le f l = absurd (false_true c)
  repeating_last_holds fin (word w ~ b) ((nothing ||| (place p)) ∷ rs) group is F g h rest c x y le f l = absurd (false_true c)
  repeating_last_holds fin (word w ~ b) ((nothing ||| (inside j r)) ∷ rs) group is F g h rest c x y le f l = absurd (false_true c)
  repeating_last_holds fin (word w ~ b) ((nothing ||| (r ||| q)) ∷ rs) group is F g h rest c x y le f l = absurd (false_true c)
  repeating_last_holds fin (word w ~ b) ((nothing ||| (many r)) ∷ rs) group is F g h rest c x y le f l = absurd (false_true c)
  repeating_last_holds fin (word w ~ b) ((nothing ||| tokens) ∷ rs) group is F g h rest c x y le f l = absurd (false_true c)
  repeating_last_holds fin (word w ~ b) ((nothing ||| (r ~ q)) ∷ rs) group is F g h rest c x y le f l = absurd (false_true c)

  on_repeats_hold : (fin : Bool) (r : Rule) (rs : List Rule) (group : Group) (is : List Item) (F : Terminal → Bool)
      (g h : Forest) (rest : List Token) → on_repeats v go fin r rs group is F ≡ true → Fits v r g → FitsAll v rs h
      → count (g +++ h) ≤ n → F (first_of rest) ≡ true → (fin ≡ true → Last (g +++ h) rest)
      → Walks (php v) (Repeats group ∷ is) (g +++ h) rest
  on_repeats_hold fin (many a) rs group is F g h rest c x y le f l =
      elim (three_ways (looks_once group) (repeating v go fin a rs group is F) (repeating_two v go fin a rs group is F) (repeating_last v go fin a rs group is F) c) [
        | inl e ↦ repeating_holds fin a rs group is F g h rest e x y le f l
        | inr e ↦ elim e [ inl o ↦ repeating_two_holds fin a rs group is F g h rest o x y le f l | inr o ↦ repeating_last_holds fin a rs group is F g h rest o x y le f l ]
      ]
  on_repeats_hold fin nothing rs group is F g h rest c x y le f l = absurd (false_true c)
  on_repeats_hold fin (word w) rs group is F g h rest c x y le f l = absurd (false_true c)
  on_repeats_hold fin (kind j) rs group is F g h rest c x y le f l = absurd (false_true c)
  on_repeats_hold fin (place p) rs group is F g h rest c x y le f l = absurd (false_true c)
  on_repeats_hold fin (inside j r) rs group is F g h rest c x y le f l = absurd (false_true c)
  on_repeats_hold fin (r ~ q) rs group is F g h rest c x y le f l = absurd (false_true c)
  on_repeats_hold fin (r ||| q) rs group is F g h rest c x y le f l = absurd (false_true c)
  on_repeats_hold fin tokens rs group is F g h rest c x y le f l = absurd (false_true c)

  item_holds : (fin : Bool) (r : Rule) (rs : List Rule) (is : List Item) (F : Terminal → Bool) (g h : Forest)
      (rest : List Token) → on_item v go fin r rs is F ≡ true → Fits v r g → FitsAll v rs h → count (g +++ h) ≤ n
      → F (first_of rest) ≡ true → (fin ≡ true → Last (g +++ h) rest) → Walks (php v) is (g +++ h) rest
  item_holds fin r rs [] F g h rest c x y le f l = absurd (false_true c)
  item_holds fin r rs (Word w ∷ is) F g h rest c x y le f l =
      let q : (takes_word r w ≡ true) × (go fin rs is F ≡ true) = and_parts (takes_word r w) (go fin rs is F) c in
      word_holds r w is g h rest q.0 x (holds fin rs is F h rest q.1 y (right_le g h n le) f (λ e. last_right g h rest (l e)))
  item_holds fin r rs (Node sort ∷ is) F g h rest c x y le f l =
      let q : (takes_node r sort ≡ true) × ((node_ends v fin rs F sort && go fin rs is F) ≡ true) = and_parts (takes_node r sort) (node_ends v fin rs F sort && go fin rs is F) c in
      let p : (node_ends v fin rs F sort ≡ true) × (go fin rs is F ≡ true) = and_parts (node_ends v fin rs F sort) (go fin rs is F) q.1 in
      node_read r sort is g h rest q.0 x le (stops_here fin rs F sort g h rest p.0 y f l) (holds fin rs is F h rest p.1 y (right_le g h n le) f (λ e. last_right g h rest (l e)))
  item_holds fin r rs (Part group ∷ is) F g h rest c x y le f l = aligned_holds fin r rs group is F g h rest c x y le f l
  item_holds fin r rs (Repeats group ∷ is) F g h rest c x y le f l = on_repeats_hold fin r rs group is F g h rest c x y le f l
  item_holds fin r rs (Span ∷ is) F g h rest c x y le f l = absurd (false_true c)

  name_holds : (fin : Bool) (r : Rule) (rs : List Rule) (is : List Item) (F : Terminal → Bool) (g h : Forest)
      (rest : List Token) → on_name v go fin r rs is F ≡ true → Fits v r g → FitsAll v rs h → count (g +++ h) ≤ n
      → F (first_of rest) ≡ true → (fin ≡ true → Last (g +++ h) rest) → Walks (php v) is (g +++ h) rest
  name_holds fin r rs [] F g h rest c x y le f l = absurd (false_true c)
  name_holds fin r rs (Word w ∷ is) F g h rest c x y le f l = absurd (false_true c)
  name_holds fin r rs (Node sort ∷ is) F g h rest c x y le f l = absurd (false_true c)
  name_holds fin r rs (Part group ∷ is) F g h rest c x y le f l =
      aligned_holds fin r rs group is F g h rest (chosen (is_fixed group) (aligned v go fin r rs group is F) c) x y le
      f l
  name_holds fin r rs (Repeats group ∷ is) F g h rest c x y le f l = absurd (false_true c)
  name_holds fin r rs (Span ∷ is) F g h rest c x y le f l = absurd (false_true c)

  both_hold : (fin : Bool) (r q : Rule) (rs : List Rule) (is : List Item) (F : Terminal → Bool) (g h : Forest)
      (rest : List Token) (b : Bool) → on_name v go fin (r ~ q) rs is F ≡ b
      → (elim b as (λ x. Bool) [ true ↦ true | false ↦ go fin (r ∷ q ∷ rs) is F ]) ≡ true → Fits v (r ~ q) g
      → FitsAll v rs h → count (g +++ h) ≤ n → F (first_of rest) ≡ true → (fin ≡ true → Last (g +++ h) rest)
      → Walks (php v) is (g +++ h) rest
  both_hold fin r q rs is F g h rest true e c x y le f l = name_holds fin (r ~ q) rs is F g h rest e x y le f l
  both_hold fin r q rs is F g h rest false e c x y le f l =
      let p : (g1 : Forest) × (g2 : Forest) × Fits v r g1 × Fits v q g2 × (g ≡ g1 +++ g2) = both_is v r q g x in
      let at : g +++ h ≡ p.0 +++ (p.1 +++ h) = ap (λ (z : Forest). z +++ h) p.4 ∙ forest_assoc p.0 p.1 h in
      subst (λ (z : Forest). Walks (php v) is z rest) (sym at)
      (holds fin (r ∷ q ∷ rs) is F (p.0 +++ (p.1 +++ h)) rest c (p.0, p.1 +++ h, p.2, (p.1, h, p.3, y, refl), refl)
      (subst (λ (z : Forest). count z ≤ n) at le) f (λ e. subst (λ (z : Forest). Last z rest) at (l e)))

  rule_holds : (fin : Bool) (r : Rule) (rs : List Rule) (is : List Item) (F : Terminal → Bool) (g h : Forest)
      (rest : List Token) → on_rule v go fin r rs is F ≡ true → Fits v r g → FitsAll v rs h → count (g +++ h) ≤ n
      → F (first_of rest) ≡ true → (fin ≡ true → Last (g +++ h) rest) → Walks (php v) is (g +++ h) rest
  rule_holds fin nothing rs is F g h rest c x y le f l = holds fin rs is F (g +++ h) rest c (subst (λ (z : Forest). FitsAll v rs (z +++ h)) (sym (nothing_is v g x)) y) le f l
  rule_holds fin (r ~ q) rs is F g h rest c x y le f l = both_hold fin r q rs is F g h rest (on_name v go fin (r ~ q) rs is F) refl c x y le f l
  rule_holds fin (word w) rs is F g h rest c x y le f l = item_holds fin (word w) rs is F g h rest c x y le f l
  rule_holds fin (kind j) rs is F g h rest c x y le f l = item_holds fin (kind j) rs is F g h rest c x y le f l
  rule_holds fin (place p) rs is F g h rest c x y le f l = item_holds fin (place p) rs is F g h rest c x y le f l
  rule_holds fin (inside j r) rs is F g h rest c x y le f l = item_holds fin (inside j r) rs is F g h rest c x y le f l
  rule_holds fin (r ||| q) rs is F g h rest c x y le f l = item_holds fin (r ||| q) rs is F g h rest c x y le f l
  rule_holds fin (many r) rs is F g h rest c x y le f l = item_holds fin (many r) rs is F g h rest c x y le f l
  rule_holds fin tokens rs is F g h rest c x y le f l = item_holds fin tokens rs is F g h rest c x y le f l

  step_holds : Holds v n (step v go)
  step_holds fin [] is F f rest c x le h l = subst (λ (z : Forest). Walks (php v) is z rest) (sym x) (nothing_holds fin is F rest c h)
  step_holds fin (r ∷ rs) is F f rest c x le h l =
      subst (λ (z : Forest). Walks (php v) is z rest) (sym x.4)
      (rule_holds fin r rs is F x.0 x.1 rest c x.2 x.3 (subst (λ (z : Forest). count z ≤ n) x.4 le) h (λ e. subst (λ (z : Forest). Last z rest) x.4 (l e)))

-- Parts that fit the rules are those of the items.
pub matched : (v : Version) (n : ℕ) → Below v n → (m : ℕ) → Holds v n (matches v m)
matched v n below zero fin rs is F f rest c x le h l = absurd (false_true c)
matched v n below (suc m) fin rs is F f rest c x le h l = step_holds v n below (matches v m) (matched v n below m) fin rs is F f rest c x le h l
