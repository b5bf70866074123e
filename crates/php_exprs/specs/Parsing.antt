-- A parser on lists of tokens, for any tables.
use Rattle.std.specs.Prelude.{ℕ, zero, suc, ◌+◌, nat_lt, Bool, true, false, List, [], ◌∷◌, length, Option, Some, None}
use Rattle.php_tree.specs.declared.token.Token.{Token}
use Rattle.php_tree.specs.Tree.{depth, Forest, Tree, none, leaf, node, ◌+++◌}
use Rattle.php_forms.specs.declared.item.Sort.{Sort}
use Rattle.php_forms.specs.declared.item.Group.{Group}
use Rattle.php_forms.specs.declared.item.Item.{Item}
use Rattle.php_forms.specs.declared.item.Item.TheVariants.{Word, Node, Part, Repeats, Span}
use Rattle.php_forms.specs.Grammar.{Form, Tables}

infixl 10 ◌>>=◌
abbrev pub ◌>>=◌ : {A B : Type 0} → Option A → (A → Option B) → Option B
None >>= f = None
(Some x) >>= f = f x

-- what a step read, and the tokens after it
abbrev pub Read : Type 0 → Type 0
Read A = Option (A × List Token)

abbrev pub given : {A : Type 0} → Bool → Option A → Option A
given true o = o
given false o = None

abbrev pub Steps : Type 0
Steps = List Item → List Token → Read Forest

-- one repeat of a group that begins here, and the others
abbrev pub repeat_at : Steps → (List Token → Read Forest) → List Item → List Token → Read Forest
repeat_at steps more [] ts = Some (none, ts)
repeat_at steps more (i ∷ is) ts = do
  h ← steps (i ∷ is) ts
  f ← given (nat_lt (length h.1) (length ts)) (more h.1)
  Some (h.0 +++ f.0, f.1)

-- a group again and again, each time with a token
abbrev pub repeats_at : Tables → Steps → ℕ → Group → List Token → Read Forest
repeats_at T steps zero g ts = repeat_at steps (λ _. None) (T.parts g ts) ts
repeats_at T steps (suc n) g ts = repeat_at steps (repeats_at T steps n g) (T.parts g ts) ts

-- so many tokens
abbrev pub run_at : ℕ → List Token → Read Forest
run_at zero ts = Some (none, ts)
run_at (suc n) [] = None
run_at (suc n) (t ∷ ts) = run_at n ts >>= λ h. Some (leaf t h.0, h.1)

-- the items, with a way to read nodes and one for groups
abbrev pub items_at : Tables → (Sort → List Token → Read Tree) → Steps → Steps
items_at T child steps [] ts = Some (none, ts)
items_at T child steps (Word c ∷ is) [] = None
items_at T child steps (Word c ∷ is) (t ∷ ts) = given (T.accepts c t) (items_at T child steps is ts >>= λ f. Some (leaf t f.0, f.1))
items_at T child steps (Node s ∷ is) ts = child s ts >>= λ n. items_at T child steps is n.1 >>= λ f. Some (node n.0.0 n.0.1 f.0, f.1)
items_at T child steps (Part g ∷ is) ts = steps (T.parts g ts) ts >>= λ h. items_at T child steps is h.1 >>= λ f. Some (h.0 +++ f.0, f.1)
items_at T child steps (Repeats g ∷ is) ts = repeats_at T steps (length ts) g ts >>= λ h. items_at T child steps is h.1 >>= λ f. Some (h.0 +++ f.0, f.1)
items_at T child steps (Span ∷ is) ts = run_at (T.span ts) ts >>= λ h. items_at T child steps is h.1 >>= λ f. Some (h.0 +++ f.0, f.1)

-- groups at most k deep in one another
abbrev pub walk : Tables → (Sort → List Token → Read Tree) → ℕ → Steps
walk T child zero = items_at T child (λ _ _. None)
walk T child (suc k) = items_at T child (walk T child k)

-- the groups in groups at most n deep
abbrev pub under : Tables → (Sort → List Token → Read Tree) → ℕ → Steps
under T child zero = λ _ _. None
under T child (suc n) = walk T child n

-- a node as it grew once, and the way on
abbrev pub grown : Steps → (Tree → List Token → Read Tree) → ℕ → Tree → Option Form → List Token → Read Tree
grown steps more d t None ts = Some (t, ts)
grown steps more d t (Some form) ts = given (nat_lt (depth t.1 + 1) d) (steps form.1 ts >>= λ f. more (form.0, node t.0 t.1 f.0) f.1)

-- a node, while it may grow: at most n times, and no deeper than d
abbrev pub grow : Tables → Steps → ℕ → ℕ → Sort → Tree → List Token → Read Tree
grow T steps d zero s t ts = grown steps (λ _ _. None) d t (T.tail s t ts) ts
grow T steps d (suc n) s t ts = grown steps (grow T steps d n s) d t (T.tail s t ts) ts

abbrev pub begin : Steps → Option Form → List Token → Read Tree
begin steps None ts = None
begin steps (Some form) ts = steps form.1 ts >>= λ c. Some ((form.0, c.0), c.1)

-- a node of the sort, no deeper than d
abbrev pub parse : Tables → ℕ → ℕ → Sort → List Token → Read Tree
parse T k zero s ts = None
parse T k (suc d) s ts = begin (walk T (parse T k d) k) (T.form s ts) ts >>= λ t. grow T (walk T (parse T k d) k) (suc d) (suc d) s t.0 t.1
