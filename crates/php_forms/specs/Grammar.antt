-- A grammar given by tables, and what it is for tokens to be a tree of it.
use Rattle.std.specs.Prelude.{◌≡◌, ℕ, ◌<◌, Bool, true, List, [], ◌∷◌, ◌++◌, length, Option, Some, None}
use Rattle.php_tree.specs.declared.kind.NodeKind.{NodeKind}
use Rattle.php_tree.specs.declared.token.Token.{Token}
use Rattle.php_tree.specs.Tree.{Forest, Tree, none, leaf, node, ◌+++◌, leaves}
use Rattle.php_terminals.specs.declared.terminal.Terminal.{Terminal}
use Rattle.php_forms.specs.declared.item.Sort.{Sort}
use Rattle.php_forms.specs.declared.item.Group.{Group}
use Rattle.php_forms.specs.declared.item.Item.{Item}
use Rattle.php_forms.specs.declared.item.Item.TheVariants.{Word, Node, Part, Repeats, Span}

-- A form: the kind of its node, and its items in order.
abbrev pub Form : Type 0
Form = NodeKind × List Item

-- The tables of a grammar. All but the first look at the tokens that come next.
pub record Tables : Type 0 where
  -- whether a token is of a class
  pub accepts : Terminal → Token → Bool
  -- the form with which a node of a sort begins
  pub form : Sort → List Token → Option Form
  -- the items of a group, or none
  pub parts : Group → List Token → List Item
  -- how many tokens a span takes
  pub span : List Token → ℕ
  -- the form that goes on behind a node, as its first part: no form where the node ends
  pub tail : Sort → Tree → List Token → Option Form

-- tokens alone
abbrev pub IsFlat : Forest → Type 0
IsFlat none = Unit {0}
IsFlat (leaf t f) = IsFlat f
IsFlat (node k c f) = ⊥

-- Walks T items parts rest: the parts are those of the items, one after another, where the tokens `rest` follow.
-- Grows T sort kind parts rest: a node of the sort has begun, and has this kind and these parts so far, where the
-- tokens `rest` follow.
mutual
  pub data Walks (T : Tables) : List Item → Forest → List Token → Type 0 where
    -- nothing is left
    ends : {rest : List Token} → Walks T [] none rest
    -- a token of the class
    word : {c : Terminal} {is : List Item} {t : Token} {f : Forest} {rest : List Token} → T.accepts c t ≡ true → Walks T is f rest → Walks T (Word c ∷ is) (leaf t f) rest
    -- a node that is of the sort, and goes no further
    child : {s : Sort} {is : List Item} {k : NodeKind} {c f : Forest} {rest : List Token}
        → Grows T s k c (leaves f ++ rest) → T.tail s (k, c) (leaves f ++ rest) ≡ None → Walks T is f rest
        → Walks T (Node s ∷ is) (node k c f) rest
    -- the items of a group
    part : {g : Group} {is : List Item} {h f : Forest} {rest : List Token}
        → Walks T (T.parts g (leaves h ++ (leaves f ++ rest))) h (leaves f ++ rest) → Walks T is f rest
        → Walks T (Part g ∷ is) (h +++ f) rest
    -- no repeat of a group: the next tokens choose none
    stop : {g : Group} {is : List Item} {f : Forest} {rest : List Token} → T.parts g (leaves f ++ rest) ≡ [] → Walks T is f rest → Walks T (Repeats g ∷ is) f rest
    -- a repeat of a group, with at least one token, and then the other repeats
    repeat : {g : Group} {i : Item} {js is : List Item} {h f : Forest} {rest : List Token}
        → T.parts g (leaves h ++ (leaves f ++ rest)) ≡ i ∷ js → Walks T (i ∷ js) h (leaves f ++ rest)
        → 0 < length (leaves h) → Walks T (Repeats g ∷ is) f rest → Walks T (Repeats g ∷ is) (h +++ f) rest
    -- as many tokens as the span takes
    span : {is : List Item} {f : Forest} {rest : List Token} (h : Forest) → IsFlat h
        → T.span (leaves h ++ (leaves f ++ rest)) ≡ length (leaves h) → Walks T is f rest
        → Walks T (Span ∷ is) (h +++ f) rest

  pub data Grows (T : Tables) : Sort → NodeKind → Forest → List Token → Type 0 where
    -- the form with which the node begins
    head : {s : Sort} {k : NodeKind} {is : List Item} {c : Forest} {rest : List Token} → T.form s (leaves c ++ rest) ≡ Some (k, is) → Walks T is c rest → Grows T s k c rest
    -- a form that goes on behind a node
    onward : {s : Sort} {j k : NodeKind} {is : List Item} {b f : Forest} {rest : List Token}
        → Grows T s j b (leaves f ++ rest) → T.tail s (j, b) (leaves f ++ rest) ≡ Some (k, is) → Walks T is f rest
        → Grows T s k (node j b f) rest

-- A node of the sort, where the tokens `rest` follow.
abbrev pub Spells : Tables → Sort → Tree → List Token → Type 0
Spells T s t rest = Grows T s t.0 t.1 rest × (T.tail s t rest ≡ None)

-- each group among the items has a rank below n
abbrev pub IsNested : (Group → ℕ) → ℕ → List Item → Type 0
IsNested rank n [] = Unit {0}
IsNested rank n (Word c ∷ is) = IsNested rank n is
IsNested rank n (Node s ∷ is) = IsNested rank n is
IsNested rank n (Part g ∷ is) = (rank g < n) × IsNested rank n is
IsNested rank n (Repeats g ∷ is) = (rank g < n) × IsNested rank n is
IsNested rank n (Span ∷ is) = IsNested rank n is

-- No group leads back to itself other than through a node: each has a rank, below that of the groups that use it.
pub record Ranked (T : Tables) (k : ℕ) (rank : Group → ℕ) : Type 0 where
  pub forms : (s : Sort) (ts : List Token) (form : Form) → T.form s ts ≡ Some form → IsNested rank k form.1
  pub tails : (s : Sort) (t : Tree) (ts : List Token) (form : Form) → T.tail s t ts ≡ Some form → IsNested rank k form.1
  pub groups : (g : Group) (ts : List Token) → IsNested rank (rank g) (T.parts g ts)
