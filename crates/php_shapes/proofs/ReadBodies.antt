-- Statements one after another are read as they were; items one after another.
use Rattle.std.proofs.Common.{◌≡◌, ℕ, ◌<◌, ◌≤◌, Bool, true, false, List, [], ◌∷◌, ◌++◌, length, None, inl, refl, sym, ap, ◌∙◌, subst, arith}
use Rattle.php_tree.specs.declared.kind.NodeKind.{NodeKind}
use Rattle.php_tree.specs.declared.token.Token.{Token}
use Rattle.php_tree.specs.declared.version.Version.{Version}
use Rattle.php_tree.specs.Tree.{Forest, none, leaf, node, ◌+++◌, leaves, count}
use Rattle.php_terminals.specs.declared.terminal.Terminal.{Terminal}
use Rattle.php_terminals.specs.declared.terminal.Terminal.TheVariants as t
use Rattle.php_terminals.specs.Ahead.{first_of}
use Rattle.php_forms.specs.declared.item.Sort.TheVariants as s
use Rattle.php_forms.specs.declared.item.Group.{Group}
use Rattle.php_forms.specs.declared.item.Group.TheVariants as g
use Rattle.php_forms.specs.declared.item.Item.{Item}
use Rattle.php_forms.specs.declared.item.Item.TheVariants.{Word, Node, Part, Repeats, Span}
use Rattle.php_forms.specs.Grammar.{Tables, Walks, Grows, Spells, ends, word as a_word, child, part, stop, repeat, span}
use Rattle.php_forms.specs.Statements.{statements as repeat_of}
use Rattle.php_grammar.specs.Tables.{php}
use Rattle.php_exprs.proofs.Forests.{forest_assoc}
use Rattle.php_shapes.specs.Notation.{Rule}
use Rattle.php_shapes.specs.Places.{Statement, may_stand}
use Rattle.php_shapes.specs.Shapes.{Fits, no_more, once_more, IsNode}
use Rattle.php_shapes.specs.Statements.{statement, statements}
use Rattle.php_shapes.proofs.ReadFirst.{Begins, begins_statement, nullable, rule_begins, starts}
use Rattle.php_shapes.proofs.ReadEnds.{Below, closes_statement, EndsStatement}
use Rattle.php_shapes.proofs.ReadMatch.{before_none, begins_there, false_true, Last, leaves_before, place_is}
use Rattle.php_shapes.proofs.ReadNearest.{last_closed}

-- ---- items one after another

longer : (f g : Forest) (us rest : List Token) → us ≡ leaves g ++ rest → leaves f ++ us ≡ leaves (f +++ g) ++ rest
longer f g us rest e = ap (λ (m : List Token). leaves f ++ m) e ∙ sym (leaves_before f g rest)

go_on : (T : Tables) (js : List Item) (g : Forest) (rest : List Token) → Walks T js g rest
    → (is : List Item) (f : Forest) (us : List Token) → Walks T is f us → us ≡ leaves g ++ rest
    → Walks T (is ++ js) (f +++ g) rest
go_on T js g rest w [] f us ends e = w
go_on T js g rest w (Word c ∷ is) f us (a_word {f = h} a x) e = a_word a (go_on T js g rest w is h us x e)
go_on T js g rest w (Node sort ∷ is) f us (child {k = k} {c = c} {f = h} y n x) e =
    child (subst (λ (m : List Token). Grows T sort k c m) (longer h g us rest e) y)
    (subst (λ (m : List Token). T.tail sort (k, c) m ≡ None) (longer h g us rest e) n)
    (go_on T js g rest w is h us x e)
go_on T js g rest w (Part gr ∷ is) f us (part {h = h} {f = k} y x) e =
    subst (λ (m : Forest). Walks T (Part gr ∷ (is ++ js)) m rest) (sym (forest_assoc h k g))
    (part (subst (λ (m : List Token). Walks T (T.parts gr (leaves h ++ m)) h m) (longer k g us rest e) y) (go_on T js g rest w is k us x e))
go_on T js g rest w (Repeats gr ∷ is) f us (stop y x) e =
    stop (subst (λ (m : List Token). T.parts gr m ≡ []) (longer f g us rest e) y) (go_on T js g rest w is f us x e)
go_on T js g rest w (Repeats gr ∷ is) f us (repeat {i = i} {js = ks} {h = h} {f = k} y x lt z) e =
    subst (λ (m : Forest). Walks T (Repeats gr ∷ (is ++ js)) m rest) (sym (forest_assoc h k g))
    (repeat (subst (λ (m : List Token). T.parts gr (leaves h ++ m) ≡ i ∷ ks) (longer k g us rest e) y)
    (subst (λ (m : List Token). Walks T (i ∷ ks) h m) (longer k g us rest e) x) lt
    (go_on T js g rest w (Repeats gr ∷ is) k us z e))
go_on T js g rest w (Span ∷ is) f us (span {f = k} h a y x) e =
    subst (λ (m : Forest). Walks T (Span ∷ (is ++ js)) m rest) (sym (forest_assoc h k g))
    (span h a (subst (λ (m : List Token). T.span (leaves h ++ m) ≡ length (leaves h)) (longer k g us rest e) y) (go_on T js g rest w is k us x e))

-- The parts of items, and those of the items behind them.
pub walks_on : (T : Tables) (is js : List Item) (f g : Forest) (rest : List Token) → Walks T is f (leaves g ++ rest) → Walks T js g rest → Walks T (is ++ js) (f +++ g) rest
walks_on T is js f g rest x w = go_on T js g rest w is f (leaves g ++ rest) x refl

-- a group that is the last item
pub group_alone : (v : Version) (gr : Group) (h : Forest) (rest : List Token) → Walks (php v) ((php v).parts gr (leaves h ++ rest)) h rest → Walks (php v) (Part gr ∷ []) h rest
group_alone v gr h rest w = subst (λ (m : Forest). Walks (php v) (Part gr ∷ []) m rest) (before_none h) (part {h = h} {f = none} w ends)

-- ---- statements

-- what begins a statement is a repeat of statements
begins_repeat : (c : Terminal) → begins_statement c ≡ true → repeat_of c ≡ Node s.Statement ∷ []
begins_repeat t.CloseBrace h = absurd (false_true h)
begins_repeat t.End h = absurd (false_true h)
begins_repeat t.Case h = absurd (false_true h)
begins_repeat t.Default h = absurd (false_true h)
begins_repeat t.Else h = absurd (false_true h)
begins_repeat t.ElseIf h = absurd (false_true h)
begins_repeat t.EndDeclare h = absurd (false_true h)
begins_repeat t.EndFor h = absurd (false_true h)
begins_repeat t.EndForeach h = absurd (false_true h)
begins_repeat t.EndIf h = absurd (false_true h)
begins_repeat t.EndSwitch h = absurd (false_true h)
begins_repeat t.EndWhile h = absurd (false_true h)
begins_repeat c h = refl

-- a statement ends before another
begins_closes : (c : Terminal) → begins_statement c ≡ true → closes_statement c ≡ true
begins_closes t.CloseBrace h = refl
begins_closes t.End h = refl
begins_closes t.Case h = refl
begins_closes t.Default h = refl
begins_closes t.EndDeclare h = refl
begins_closes t.EndFor h = refl
begins_closes t.EndForeach h = refl
begins_closes t.EndIf h = refl
begins_closes t.EndSwitch h = refl
begins_closes t.EndWhile h = refl
begins_closes t.While h = refl
begins_closes c h = h

pub statement_begins : (v : Version) (g : Forest) (us : List Token) → Fits v statement g → begins_statement (first_of (leaves g ++ us)) ≡ true
statement_begins v g us x = begins_there begins_statement (leaves g) us (rule_begins v x)

last_rest : (j : NodeKind) (b f : Forest) (rest : List Token) → Last (node j b f) rest → Last f rest
last_rest j b none rest h = tt
last_rest j b (leaf x f) rest h = h
last_rest j b (node i a f) rest h = h

ends_before : (v : Version) (j : NodeKind) (b h : Forest) (us : List Token) → Fits v statements h → Last (node j b h) us → EndsStatement (j, b) (first_of (leaves h ++ us))
ends_before v j b h us no_more l = l
ends_before v j b h us (once_more {g = a} {h = k} x y e) l =
    inl (begins_closes (first_of (leaves h ++ us))
    (subst (λ (ts : List Token). begins_statement (first_of ts) ≡ true)
    (sym (ap (λ (f : Forest). leaves f ++ us) e ∙ leaves_before a k us))
    (statement_begins v a (leaves k ++ us) x)))

some_token : (P : Terminal → Bool) (ts : List Token) → Begins P false ts → 0 < length ts
some_token P [] h = absurd (false_true h)
some_token P (x ∷ xs) h = omega arith

-- what fits a rule that asks for a token has one
pub has_token : (v : Version) (r : Rule) (g : Forest) → Fits v r g → nullable r ≡ false → 0 < length (leaves g)
has_token v r g x e = some_token (starts v r) (leaves g) (subst (λ (b : Bool). Begins (starts v r) b (leaves g)) e (rule_begins v x))

-- how many nodes there are in a node and behind it
pub node_counts : (j : NodeKind) (c h : Forest) (n : ℕ) → count (node j c h) ≤ n → (count c < n) × (count h ≤ n)
node_counts j c h n le = (omega arith, omega arith)

-- Statements up to what ends them.
pub statements_read : (v : Version) (n : ℕ) → Below v n → (f : Forest) (us : List Token) → Fits v statements f
    → count f ≤ n → repeat_of (first_of us) ≡ [] → Last f us → Walks (php v) (Repeats g.Statements ∷ []) f us
statements_read v n below f us no_more le e l = stop e ends
statements_read v n below f us (once_more {g = a} {h = h} x y at) le e l =
    let q : (j : NodeKind) × (b : Forest) × (a ≡ node j b none) × (may_stand v Statement (j, b) ≡ true) × IsNode v j b = place_is v Statement a x in
    let whole : f ≡ node q.0 q.1 h = at ∙ ap (λ (m : Forest). m +++ h) q.2 in
    let two : (count q.1 < n) × (count h ≤ n) = node_counts q.0 q.1 h n (subst (λ (m : Forest). count m ≤ n) whole le) in
    let l2 : Last (node q.0 q.1 h) us = subst (λ (m : Forest). Last m us) whole l in
    let z : Spells (php v) s.Statement (q.0, q.1) (leaves h ++ us) =
    below.placed Statement s.Statement q.0 q.1 (leaves h ++ us) refl two.0 q.3 q.4
    (ends_before v q.0 q.1 h us y l2) in
    subst (λ (m : Forest). Walks (php v) (Repeats g.Statements ∷ []) m us) (sym at)
    (repeat (begins_repeat (first_of (leaves a ++ (leaves h ++ us))) (statement_begins v a (leaves h ++ us) x))
    (subst (λ (m : Forest). Walks (php v) (Node s.Statement ∷ []) m (leaves h ++ us)) (sym q.2) (child {f = none} z.0 z.1 ends))
    (has_token v statement a x refl)
    (statements_read v n below h us y two.1 e (last_rest q.0 q.1 h us l2)))

-- The statements of a file are read up to its end.
pub file_walks : (v : Version) (n : ℕ) → Below v n → (f : Forest) (rest : List Token) → Fits v statements f
    → count f ≤ n → first_of rest ≡ t.End → Walks (php v) (Repeats g.Statements ∷ []) f rest
file_walks v n below f rest x le e =
    statements_read v n below f rest x le (ap repeat_of e) (last_closed f rest (ap closes_statement e))
