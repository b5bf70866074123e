-- Statements that are read as they were: those that the first token tells.
use Rattle.std.proofs.Common.{◌≡◌, ℕ, ◌≤◌, Bool, true, false, List, [], ◌∷◌, ◌++◌, Option, Some, None, refl, sym, ap, subst}
use Rattle.php_tree.specs.declared.kind.NodeKind.{NodeKind}
use Rattle.php_tree.specs.declared.kind.NodeKind.TheVariants as k
use Rattle.php_tree.specs.declared.token.Token.{Token}
use Rattle.php_tree.specs.declared.version.Version.{Version}
use Rattle.php_tree.specs.declared.version.Version.TheVariants.{V74, V83}
use Rattle.php_tree.specs.Tree.{Forest, leaves, count}
use Rattle.php_terminals.specs.declared.terminal.Terminal.{Terminal}
use Rattle.php_terminals.specs.declared.terminal.Terminal.TheVariants as t
use Rattle.php_terminals.specs.Ahead.{first_of}
use Rattle.php_forms.specs.declared.item.Sort.{Sort}
use Rattle.php_forms.specs.declared.item.Sort.TheVariants as s
use Rattle.php_forms.specs.declared.item.Item.{Item}
use Rattle.php_forms.specs.Forms.{or_else}
use Rattle.php_forms.specs.Grammar.{Form, Grows, head}
use Rattle.php_forms.specs.Heads.{chosen_by, statement_form}
use Rattle.php_forms.specs.Statements.{simple_form}
use Rattle.php_grammar.specs.Accepts.{same_class}
use Rattle.php_grammar.specs.Tables.{php, form as begin}
use Rattle.php_shapes.specs.Forms.{form}
use Rattle.php_shapes.specs.Notation.{Rule}
use Rattle.php_shapes.specs.Shapes.{Fits, IsNode}
use Rattle.php_shapes.proofs.ReadClasses.{for_all, same_is}
use Rattle.php_shapes.proofs.ReadFirst.{Begins, nullable, rule_begins, starts}
use Rattle.php_shapes.proofs.ReadEnds.{Below, EndsStatement}
use Rattle.php_shapes.proofs.ReadMatch.{begins_there, fits_alone, Last, matched, matches, where_is, where_it}
use Rattle.php_shapes.proofs.ReadNearest.{follows, follows_statement, last_of, shaped}

-- A statement of a kind is read as it was, wherever it ends.
abbrev pub StatementGrows : Version → ℕ → NodeKind → Type 0
StatementGrows v n j = (c : Forest) (rest : List Token) → count c ≤ n → IsNode v j c → EndsStatement (j, c) (first_of rest) → Grows (php v) s.Statement j c rest

-- the class of the first token of a node
pub first_in : (v : Version) (r : Rule) (c : Forest) (rest : List Token) → Fits v r c → nullable r ≡ false → starts v r (first_of (leaves c ++ rest)) ≡ true
first_in v r c rest x e = begins_there (starts v r) (leaves c) rest (subst (λ (b : Bool). Begins (starts v r) b (leaves c)) e (rule_begins v x))

-- a rule begins with tokens of one class alone
abbrev pub begins_with : Version → Rule → Terminal → Bool
begins_with v r w = for_all (λ c. where_it (starts v r c) (same_class c w))

pub begun : (v : Version) (r : Rule) (w : Terminal) (c : Forest) (rest : List Token) → Fits v r c → nullable r ≡ false → begins_with v r w ≡ true → first_of (leaves c ++ rest) ≡ w
begun v r w c rest x e b = same_is (first_of (leaves c ++ rest)) w (where_is (starts v r) (λ d. same_class d w) (first_of (leaves c ++ rest)) b (first_in v r c rest x e))

-- A node is read as it was where its tokens choose its form.
pub grows_by : (v : Version) (n : ℕ) → Below v n → (sort : Sort) (fin : Bool) (j : NodeKind) (is : List Item)
    (F : Terminal → Bool) → matches v 60 fin (form v j ∷ []) is F ≡ true → (c : Forest) (rest : List Token)
    → count c ≤ n → IsNode v j c → F (first_of rest) ≡ true → (fin ≡ true → Last c rest)
    → begin v sort (leaves c ++ rest) ≡ Some (j, is) → Grows (php v) sort j c rest
grows_by v n below sort fin j is F m c rest le x f l e = head e (matched v n below 60 fin (form v j ∷ []) is F c rest m (fits_alone v (form v j) c (shaped v j c x)) le f l)

-- the first token settles the form
pub settled : (w : Terminal) (ts : List Token) → first_of ts ≡ w → chosen_by w ts ≡ None → statement_form ts ≡ Some (simple_form w)
settled w ts e h = subst (λ (u : Terminal). or_else (chosen_by u ts) (Some (simple_form u)) ≡ Some (simple_form w))
    (sym e) (ap (λ (o : Option Form). or_else o (Some (simple_form w))) h)

-- a statement whose first class tells its form
pub told : (v : Version) (n : ℕ) → Below v n → (j : NodeKind) (w : Terminal) → nullable (form v j) ≡ false
    → begins_with v (form v j) w ≡ true → ((ts : List Token) → chosen_by w ts ≡ None) → (simple_form w).0 ≡ j
    → matches v 60 true (form v j ∷ []) ((simple_form w).1) follows_statement ≡ true → StatementGrows v n j
told v n below j w u b o e m c rest le x stop =
    let f : Fits v (form v j) c = shaped v j c x in
    subst (λ (i : NodeKind). Grows (php v) s.Statement i c rest) e
    (head (settled w (leaves c ++ rest) (begun v (form v j) w c rest f u b) (o (leaves c ++ rest)))
    (matched v n below 60 true (form v j ∷ []) ((simple_form w).1) follows_statement c rest m
    (fits_alone v (form v j) c f) le (follows (j, c) (first_of rest) stop) (λ h. last_of j c rest stop)))

-- ---- each of them

pub block_grows : (v : Version) (n : ℕ) → Below v n → StatementGrows v n k.Block
unfolding for_all
block_grows V74 n below = told V74 n below k.Block t.OpenBrace refl refl (λ ts. refl) refl refl
block_grows V83 n below = told V83 n below k.Block t.OpenBrace refl refl (λ ts. refl) refl refl

pub empty_grows : (v : Version) (n : ℕ) → Below v n → StatementGrows v n k.Empty
unfolding for_all
empty_grows V74 n below = told V74 n below k.Empty t.Semi refl refl (λ ts. refl) refl refl
empty_grows V83 n below = told V83 n below k.Empty t.Semi refl refl (λ ts. refl) refl refl

pub echo_grows : (v : Version) (n : ℕ) → Below v n → StatementGrows v n k.Echo
unfolding for_all
echo_grows V74 n below = told V74 n below k.Echo t.Echo refl refl (λ ts. refl) refl refl
echo_grows V83 n below = told V83 n below k.Echo t.Echo refl refl (λ ts. refl) refl refl

pub html_grows : (v : Version) (n : ℕ) → Below v n → StatementGrows v n k.Html
unfolding for_all
html_grows V74 n below = told V74 n below k.Html t.InlineHtml refl refl (λ ts. refl) refl refl
html_grows V83 n below = told V83 n below k.Html t.InlineHtml refl refl (λ ts. refl) refl refl

pub return_grows : (v : Version) (n : ℕ) → Below v n → StatementGrows v n k.Return
unfolding for_all
return_grows V74 n below = told V74 n below k.Return t.Return refl refl (λ ts. refl) refl refl
return_grows V83 n below = told V83 n below k.Return t.Return refl refl (λ ts. refl) refl refl

pub while_grows : (v : Version) (n : ℕ) → Below v n → StatementGrows v n k.While
unfolding for_all
while_grows V74 n below = told V74 n below k.While t.While refl refl (λ ts. refl) refl refl
while_grows V83 n below = told V83 n below k.While t.While refl refl (λ ts. refl) refl refl

pub do_grows : (v : Version) (n : ℕ) → Below v n → StatementGrows v n k.DoWhile
unfolding for_all
do_grows V74 n below = told V74 n below k.DoWhile t.Do refl refl (λ ts. refl) refl refl
do_grows V83 n below = told V83 n below k.DoWhile t.Do refl refl (λ ts. refl) refl refl

pub for_grows : (v : Version) (n : ℕ) → Below v n → StatementGrows v n k.For
unfolding for_all
for_grows V74 n below = told V74 n below k.For t.For refl refl (λ ts. refl) refl refl
for_grows V83 n below = told V83 n below k.For t.For refl refl (λ ts. refl) refl refl

pub foreach_grows : (v : Version) (n : ℕ) → Below v n → StatementGrows v n k.Foreach
unfolding for_all
foreach_grows V74 n below = told V74 n below k.Foreach t.Foreach refl refl (λ ts. refl) refl refl
foreach_grows V83 n below = told V83 n below k.Foreach t.Foreach refl refl (λ ts. refl) refl refl

pub switch_grows : (v : Version) (n : ℕ) → Below v n → StatementGrows v n k.Switch
unfolding for_all
switch_grows V74 n below = told V74 n below k.Switch t.Switch refl refl (λ ts. refl) refl refl
switch_grows V83 n below = told V83 n below k.Switch t.Switch refl refl (λ ts. refl) refl refl

pub break_grows : (v : Version) (n : ℕ) → Below v n → StatementGrows v n k.Break
unfolding for_all
break_grows V74 n below = told V74 n below k.Break t.Break refl refl (λ ts. refl) refl refl
break_grows V83 n below = told V83 n below k.Break t.Break refl refl (λ ts. refl) refl refl

pub continue_grows : (v : Version) (n : ℕ) → Below v n → StatementGrows v n k.Continue
unfolding for_all
continue_grows V74 n below = told V74 n below k.Continue t.Continue refl refl (λ ts. refl) refl refl
continue_grows V83 n below = told V83 n below k.Continue t.Continue refl refl (λ ts. refl) refl refl

pub global_grows : (v : Version) (n : ℕ) → Below v n → StatementGrows v n k.Global
unfolding for_all
global_grows V74 n below = told V74 n below k.Global t.Global refl refl (λ ts. refl) refl refl
global_grows V83 n below = told V83 n below k.Global t.Global refl refl (λ ts. refl) refl refl

pub unset_grows : (v : Version) (n : ℕ) → Below v n → StatementGrows v n k.Unset
unfolding for_all
unset_grows V74 n below = told V74 n below k.Unset t.Unset refl refl (λ ts. refl) refl refl
unset_grows V83 n below = told V83 n below k.Unset t.Unset refl refl (λ ts. refl) refl refl

pub throw_grows : (v : Version) (n : ℕ) → Below v n → StatementGrows v n k.Throw
unfolding for_all
throw_grows V74 n below = told V74 n below k.Throw t.Throw refl refl (λ ts. refl) refl refl
throw_grows V83 n below = told V83 n below k.Throw t.Throw refl refl (λ ts. refl) refl refl

pub try_grows : (v : Version) (n : ℕ) → Below v n → StatementGrows v n k.Try
unfolding for_all
try_grows V74 n below = told V74 n below k.Try t.Try refl refl (λ ts. refl) refl refl
try_grows V83 n below = told V83 n below k.Try t.Try refl refl (λ ts. refl) refl refl

pub declare_grows : (v : Version) (n : ℕ) → Below v n → StatementGrows v n k.Declare
unfolding for_all
declare_grows V74 n below = told V74 n below k.Declare t.Declare refl refl (λ ts. refl) refl refl
declare_grows V83 n below = told V83 n below k.Declare t.Declare refl refl (λ ts. refl) refl refl

pub goto_grows : (v : Version) (n : ℕ) → Below v n → StatementGrows v n k.Goto
unfolding for_all
goto_grows V74 n below = told V74 n below k.Goto t.Goto refl refl (λ ts. refl) refl refl
goto_grows V83 n below = told V83 n below k.Goto t.Goto refl refl (λ ts. refl) refl refl
