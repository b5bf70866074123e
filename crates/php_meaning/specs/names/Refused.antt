-- Statements that PHP refuses to compile, wherever they stand and whether they are reached or not: `break` and `continue` out of
-- more loops than there are, a `return` that the type behind the parameters doesn't allow, and `$this` as the variable of a
-- `catch` or as a static one. (PHP manual, "break", "continue", "Type declarations": "Return only types", "Exceptions"; RFC
-- "Return types". What stands in an expression isn't looked at.)
use Rattle.std.specs.Prelude.{ℕ, zero, suc, Bool, true, false, not, ◌&&◌, ◌||◌, nat_lt, cond, if◌then◌else◌, List, [], ◌∷◌, ◌++◌, codes, ℤ, pos, Option, Some, None}
use Rattle.std.specs.Str.{bytes_eq}
use Rattle.php_tree.specs.declared.kind.NodeKind.{NodeKind}
use Rattle.php_tree.specs.declared.kind.NodeKind.TheVariants as kind
use Rattle.php_tree.specs.Tree.{Forest, none, leaf, node}
use Rattle.scope_names.specs.Form.{Form, form, kids, texts}
use Rattle.scope_names.specs.Words.{has_word, is_keyword, is_end}
use Rattle.php_meaning.specs.literals.Literals.{int_literal}
use Rattle.php_meaning.specs.runs.Kinds.{is_expression}

-- ---- the kinds and forms of a node's children

-- the kinds and forms of the nodes that are no expressions
abbrev pub kid_before : Bool → NodeKind × Form → List (NodeKind × Form) → List (NodeKind × Form)
kid_before true k ks = ks
kid_before false k ks = k ∷ ks

abbrev pub is_type : NodeKind → Bool
is_type kind.TypeName = true
is_type k = false

abbrev pub is_parameter : NodeKind → Bool
is_parameter kind.Param = true
is_parameter k = false

-- the words of a type among these parts
abbrev pub type_bits : Forest → Form
type_bits none = []
type_bits (leaf t f) = type_bits f
type_bits (node k c f) = cond (is_type k) (form c) (type_bits f)

-- the form of a child; in front of that of a parameter stand the words of its type
abbrev pub kid_form : NodeKind → Forest → Form
kid_form k c = cond (is_parameter k) (type_bits c) [] ++ form c

abbrev pub kid_forms : Forest → List (NodeKind × Form)
kid_forms none = []
kid_forms (leaf t f) = kid_forms f
kid_forms (node k c f) = kid_before (is_expression k) (k, kid_form k c) (kid_forms f)

-- ---- loops that are left

abbrev pub number_of : ℤ → ℕ
number_of (pos k) = k
number_of i = 0

-- how many loops are left or gone on with
abbrev pub levels : List (List ℕ) → ℕ
levels (w ∷ n ∷ ws) = if is_end n then 1 else number_of (int_literal n)
levels ws = 1

-- ---- types of results

-- the words of the type behind a function's parameters
abbrev pub result_words : List (NodeKind × Form) → List (List ℕ)
result_words [] = []
result_words ((kind.TypeName, f) ∷ ks) = texts f
result_words (k ∷ ks) = result_words ks

abbrev pub is_void : List (List ℕ) → Bool
is_void (w ∷ []) = is_keyword (codes "void") w
is_void ws = false

-- whether a function that yields may have this type, where a `return` without a value is allowed
abbrev may_yield : List (List ℕ) → Bool
may_yield (w ∷ []) =
    is_keyword (codes "Generator") w || is_keyword (codes "Iterator") w || is_keyword (codes "Traversable") w
    || is_keyword (codes "iterable") w || is_keyword (codes "\\Generator") w || is_keyword (codes "\\Iterator") w
    || is_keyword (codes "\\Traversable") w
may_yield ws = false

-- ---- statements

-- how many loops and switches stand around code, and the words of the type of its function, none where it has none
pub record Around : Type 0 where
  pub loops : ℕ
  pub result : List (List ℕ)

abbrev pub no_loops : Around
no_loops = record { loops = 0; result = [] }

-- whether so many loops can't be left
abbrev is_too_far : ℕ → ℕ → Bool
is_too_far loops zero = true
is_too_far loops (suc n) = nat_lt loops (suc n)

abbrev refuses_return : List (List ℕ) → ℕ → Bool
refuses_return [] n = false
refuses_return (w ∷ ws) zero = not (is_void (w ∷ ws)) && not (may_yield (w ∷ ws))
refuses_return (w ∷ ws) (suc n) = is_void (w ∷ ws)

-- whether PHP refuses a statement where it stands
abbrev pub refuses : Around → NodeKind → Form → Bool
refuses a kind.Break f = is_too_far a.loops (levels (texts f))
refuses a kind.Continue f = is_too_far a.loops (levels (texts f))
refuses a kind.Return f = refuses_return a.result (kids f)
refuses a kind.Try f = has_word (codes "$this") (texts f)
refuses a kind.Statics f = has_word (codes "$this") (texts f)
refuses a k f = false

-- what stands around the children of a node
abbrev in_loop : Around → Around
in_loop a = record a { loops = suc a.loops }

abbrev in_function : Form → List (NodeKind × Form) → Around
in_function f ks = record { loops = 0; result = cond (has_word (codes ":") (texts f)) (result_words ks) [] }

abbrev pub inside : Around → NodeKind → Form → List (NodeKind × Form) → Around
inside a kind.While f ks = in_loop a
inside a kind.DoWhile f ks = in_loop a
inside a kind.For f ks = in_loop a
inside a kind.Foreach f ks = in_loop a
inside a kind.Switch f ks = in_loop a
inside a kind.Function f ks = in_function f ks
inside a kind.Method f ks = in_function f ks
inside a kind.Class f ks = no_loops
inside a kind.Interface f ks = no_loops
inside a kind.Trait f ks = no_loops
inside a k f ks = a

-- an expression is not looked at; a statement is refused for itself or for what stands in it
abbrev pub judged : Bool → Bool → Bool → Bool
judged true itself within = false
judged false itself within = itself || within

-- whether PHP refuses to compile what stands here
abbrev pub refused : Around → Forest → Bool
refused a none = false
refused a (leaf t f) = refused a f
refused a (node k c f) =
    judged (is_expression k) (refuses a k (form c)) (refused (inside a k (form c) (kid_forms c)) c) || refused a f
