-- What stands first among some parts.
use Rattle.std.proofs.Common.{◌≡◌, ℕ, ◌+◌, ◌≤◌, length, sym, arith, Bool, true, false, ◌&&◌, if◌then◌else◌, [], refl, ap, ◌∙◌, Option, Some, None}
use Rattle.php_tree.specs.declared.token.Token.{Token}
use Rattle.php_tree.specs.declared.kind.NodeKind.{NodeKind}
use Rattle.php_tree.specs.Tree.{Forest, none, leaf, node, Tree, leaves}
use Rattle.php_tree.specs.Places.{behind, end_of}
use Rattle.php_terminals.specs.declared.terminal.Terminal.TheVariants as t
use Rattle.php_terminals.specs.Classify.{terminal}
use Rattle.syntax_upgrade.specs.NameHeads.{head_at}
use Rattle.syntax_upgrade.specs.Found.{text_start}
use Rattle.syntax_upgrade.specs.ReservedName.{class_by, next}
use Rattle.syntax_rules.specs.Around.{operator_of}
use Rattle.syntax_rules.specs.Casts.{first_text}
use Rattle.syntax_rules.specs.UnsetCast.{is_variable}
use Rattle.syntax_upgrade.specs.Parts.{first_leaf, first_node, has_none, others, text_or_none}
use Rattle.syntax_upgrade.specs.UnsetCast.{both, variable_in, tokens_in}

pub operator_is : (f g : Forest) (n : Tree) → first_node f ≡ Some n → g ≡ others f → text_or_none (first_leaf g) ≡ operator_of f
operator_is none g n h e = cc
operator_is (leaf t f) g n h e = cc
operator_is (node k c none) g n h e = rw e refl
operator_is (node k c (leaf t f)) g n h e = rw e refl
operator_is (node k c (node j b f)) g n h e = rw e refl

pub operator_none : (f : Forest) → None ≡ first_node f → [] ≡ operator_of f
operator_none none h = refl
operator_none (leaf t f) h = refl
operator_none (node k c f) h = cc

and_false : (b : Bool) → (b && false) ≡ false
and_false true = refl
and_false false = refl

true_and : (b : Bool) → (b && true) ≡ b
true_and true = refl
true_and false = refl

none_some : {A : Type 0} {x : A} → Some x ≡ None → ⊥
none_some h = cc

some_some : {A : Type 0} {x y : A} → Some x ≡ Some y → x ≡ y
some_some h = cc

pub first_text_is : (f : Forest) → text_or_none (first_leaf f) ≡ first_text f
first_text_is none = refl
first_text_is (leaf t f) = refl
first_text_is (node k c f) = refl

-- ---- a plain variable, by its first part and the others

abbrev only : NodeKind → Option Token → Bool → Option Token
only k None b = None
only k (Some t) b = if is_variable k t.kind && b then Some t else None

with_true : (b : Bool) (t : Token) → (if b && true then Some t else None) ≡ (if b then Some t else None)
with_true true t = refl
with_true false t = refl

with_false : (b : Bool) (t : Token) → (if b && false then Some t else None) ≡ None
with_false true t = refl
with_false false t = refl

pub variable_in_is : (k : NodeKind) (f : Forest) → only k (first_leaf f) (has_none (others f)) ≡ variable_in k f
variable_in_is k none = refl
variable_in_is k (leaf t none) = with_true (is_variable k t.kind) t
variable_in_is k (leaf t (leaf u f)) = with_false (is_variable k t.kind) t
variable_in_is k (leaf t (node j b f)) = with_false (is_variable k t.kind) t
variable_in_is k (node j b f) = refl

-- ---- a token and a plain variable, by the parts

abbrev two : Option Token → Option Tree → Bool → Option (Token × Token)
two None n b = None
two (Some t) None b = None
two (Some t) (Some n) b = if b then both t (variable_in n.0 n.1) else None

two_none : (o : Option Token) (n : Option Tree) → two o n false ≡ None
two_none None n = refl
two_none (Some t) None = refl
two_none (Some t) (Some n) = refl

pub tokens_in_is : (f : Forest) → two (first_leaf f) (first_node (others f)) (has_none (others (others f))) ≡ tokens_in f
tokens_in_is none = refl
tokens_in_is (leaf t none) = refl
tokens_in_is (leaf t (leaf u f)) = refl
tokens_in_is (leaf t (node k c none)) = refl
tokens_in_is (leaf t (node k c (leaf u f))) = refl
tokens_in_is (leaf t (node k c (node j b f))) = refl
tokens_in_is (node k c f) = refl

pub tokens_there : (f g r : Forest) (x v : Token) (n : Tree) → Some x ≡ first_leaf f → g ≡ others f → Some n ≡ first_node g
    → r ≡ others g → has_none r ≡ true → Some v ≡ variable_in n.0 n.1 → Some (x, v) ≡ tokens_in f
tokens_there f g r x v n a b d e h i =
    ap (both x) i
    ∙ ap (λ (o : Option Token). two o (Some n) true) a
    ∙ ap (λ (o : Option Tree). two (first_leaf f) o true) (d ∙ ap first_node b)
    ∙ ap (λ (u : Bool). two (first_leaf f) (first_node (others f)) u) (sym h ∙ ap has_none (e ∙ ap others b))
    ∙ tokens_in_is f

-- ---- where a first token stands

pub end_behind : (at : ℕ) (f : Forest) → at ≤ end_of at f
end_behind at none = omega arith
end_behind at (leaf t f) = let h = end_behind (behind at t) f in omega (arith, h)
end_behind at (node k c f) = let h = end_behind at c in let i = end_behind (end_of at c) f in omega (arith, h, i)

pub first_within : (at : ℕ) (f : Forest) (t : Token) → Some t ≡ first_leaf f → at + length t.lead ≤ end_of at f
first_within at none t e = absurd (none_some e)
first_within at (leaf x f) t e =
    let n : length t.lead ≡ length x.lead = ap (λ (u : Token). length u.lead) (some_some e) in
    let h = end_behind (behind at x) f in omega (arith, n, h)
first_within at (node k c f) t e = absurd (none_some e)

-- ---- what stands next

pub next_none : (f : Forest) → None ≡ first_leaf f → t.End ≡ next f
next_none none e = refl
next_none (leaf x f) e = absurd (none_some (sym e))
next_none (node k c f) e = refl

pub next_some : (f : Forest) (x : Token) (m : ℕ) → Some x ≡ first_leaf f → ((r : Forest) → f ≡ leaf x r → m ≡ (head_at x r).more)
    → class_by m (terminal x) ≡ next f
next_some none x m e h = absurd (none_some e)
next_some (leaf y f) x m e h =
    let s : x ≡ y = some_some e in
    ap (λ (n : ℕ). class_by n (terminal x)) (h f (ap (λ (u : Token). leaf u f) (sym s)))
    ∙ ap (λ (u : Token). class_by (head_at u f).more (terminal u)) s
next_some (node k c f) x m e h = absurd (none_some e)

pub text_place : (at : ℕ) (f : Forest) (x : Token) → Some x ≡ first_leaf f → at + length x.lead ≡ text_start at (leaves f)
text_place at none x e = absurd (none_some e)
text_place at (leaf y f) x e = ap (λ (u : Token). at + length u.lead) (some_some e)
text_place at (node k c f) x e = absurd (none_some e)
