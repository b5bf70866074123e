-- Declarations that are read as they were.
use Rattle.std.proofs.Common.{◌≡◌, ℕ, ◌≤◌, Bool, true, false, List, [], ◌∷◌, ◌++◌, Option, Some, refl, sym, ap, ◌∙◌, subst}
use Rattle.php_tree.specs.declared.kind.NodeKind.{NodeKind}
use Rattle.php_tree.specs.declared.kind.NodeKind.TheVariants as k
use Rattle.php_tree.specs.declared.token.Token.{Token}
use Rattle.php_tree.specs.declared.version.Version.{Version}
use Rattle.php_tree.specs.declared.version.Version.TheVariants.{V74, V83}
use Rattle.php_tree.specs.Tree.{Forest, none, leaf, ◌+++◌, leaves, count}
use Rattle.php_terminals.specs.declared.terminal.Terminal.{Terminal}
use Rattle.php_terminals.specs.declared.terminal.Terminal.TheVariants as t
use Rattle.php_terminals.specs.Classify.{is_any_label, terminal}
use Rattle.php_terminals.specs.Ahead.{first_of, second_of}
use Rattle.php_forms.specs.declared.item.Sort.TheVariants as s
use Rattle.php_forms.specs.declared.item.Group.TheVariants as g
use Rattle.php_forms.specs.declared.item.Item.{Item}
use Rattle.php_forms.specs.declared.item.Item.TheVariants.{Word, Node, Part, Repeats}
use Rattle.php_forms.specs.Forms.{or_else}
use Rattle.php_forms.specs.Grammar.{Form, Walks, head, ends, part}
use Rattle.php_forms.specs.Heads.{chosen_by, function_form, label_form, name_of_function, static_form, statement_form}
use Rattle.php_forms.specs.Statements.{simple_form}
use Rattle.php_grammar.specs.Accepts.{accepts, same_class}
use Rattle.php_grammar.specs.Tables.{php}
use Rattle.php_shapes.specs.Atoms.{by_ref, inheritance, members, params, return_type}
use Rattle.php_shapes.specs.Forms.{form}
use Rattle.php_shapes.specs.Notation.{Rule, nothing, word, kind, ◌~◌, many, commas}
use Rattle.php_shapes.specs.Shapes.{Fits, is_first, is_second}
use Rattle.php_shapes.specs.Statements.{declared_variable}
use Rattle.php_shapes.proofs.ReadClasses.{could, for_all, pinned, whenever}
use Rattle.php_shapes.proofs.ReadFirst.{nullable, starts}
use Rattle.php_shapes.proofs.ReadEnds.{Below}
use Rattle.php_shapes.proofs.ReadMatch.{both_is, false_true, fits_alone, Last, matched, matches, nothing_is, where_is, where_it, word_is}
use Rattle.php_shapes.proofs.ReadNearest.{follows, follows_statement, last_of, shaped}
use Rattle.php_shapes.proofs.ReadStatements.{StatementGrows, told, begun, begins_with, first_in, grows_by}

pub interface_grows : (v : Version) (n : ℕ) → Below v n → StatementGrows v n k.Interface
unfolding for_all
interface_grows V74 n below = told V74 n below k.Interface t.Interface refl refl (λ ts. refl) refl refl
interface_grows V83 n below = told V83 n below k.Interface t.Interface refl refl (λ ts. refl) refl refl

pub trait_grows : (v : Version) (n : ℕ) → Below v n → StatementGrows v n k.Trait
unfolding for_all
trait_grows V74 n below = told V74 n below k.Trait t.Trait refl refl (λ ts. refl) refl refl
trait_grows V83 n below = told V83 n below k.Trait t.Trait refl refl (λ ts. refl) refl refl

pub const_grows : (v : Version) (n : ℕ) → Below v n → StatementGrows v n k.Const
unfolding for_all
const_grows V74 n below = told V74 n below k.Const t.Const refl refl (λ ts. refl) refl refl
const_grows V83 n below = told V83 n below k.Const t.Const refl refl (λ ts. refl) refl refl

-- ---- classes

-- what a class may begin with
abbrev begins_class : Terminal → Bool
begins_class t.Class = true
begins_class t.ClassModifier = true
begins_class t.AttributeOpen = true
begins_class _ = false

class_told : (c : Terminal) (ts : List Token) → begins_class c ≡ true → or_else (chosen_by c ts) (Some (simple_form c)) ≡ Some (simple_form t.Class)
class_told t.Class ts h = refl
class_told t.ClassModifier ts h = refl
class_told t.AttributeOpen ts h = refl
class_told c ts h = absurd (false_true h)

class_begins : (v : Version) → for_all (λ c. where_it (starts v (form v k.Class) c) (begins_class c)) ≡ true
unfolding for_all
class_begins V74 = refl
class_begins V83 = refl

class_nullable : (v : Version) → nullable (form v k.Class) ≡ false
class_nullable V74 = refl
class_nullable V83 = refl

-- a class without its attribute
abbrev class_rest : Version → Rule
class_rest v = many (word t.ClassModifier) ~ word t.Class ~ word t.ClassLabel ~ inheritance v ~ members

abbrev class_items : List Item
class_items = Repeats g.ClassModifiers ∷ Word t.Class ∷ Word t.ClassLabel ∷ Part g.Extends ∷ Part g.Implements ∷ Word t.OpenBrace ∷ Repeats g.Members ∷ Word t.CloseBrace ∷ []

class_matches_74 : matches V74 60 true (class_rest V74 ∷ []) class_items follows_statement ≡ true
unfolding for_all
class_matches_74 = refl

class_matches_83 : matches V83 60 true (form V83 k.Class ∷ []) (Part g.Attribute ∷ class_items) follows_statement ≡ true
unfolding for_all
class_matches_83 = refl

class_walks : (v : Version) (n : ℕ) → Below v n → (c : Forest) (rest : List Token) → count c ≤ n
    → Fits v (form v k.Class) c → follows_statement (first_of rest) ≡ true → Last c rest
    → Walks (php v) (Part g.Attribute ∷ class_items) c rest
class_walks V74 n below c rest le x f l =
    let p : (a : Forest) × (m : Forest) × Fits V74 nothing a × Fits V74 (class_rest V74) m × (c ≡ a +++ m) = both_is V74 nothing (class_rest V74) c x in
    let at : c ≡ p.1 = p.4 ∙ ap (λ (i : Forest). i +++ p.1) (nothing_is V74 p.0 p.2) in
    part {h = none} ends (matched V74 n below 60 true (class_rest V74 ∷ []) class_items follows_statement c rest
    class_matches_74 (fits_alone V74 (class_rest V74) c
    (subst (λ (i : Forest). Fits V74 (class_rest V74) i) (sym at) p.3)) le f (λ _. l))
class_walks V83 n below c rest le x f l = matched V83 n below 60 true (form V83 k.Class ∷ [])
    (Part g.Attribute ∷ class_items) follows_statement c rest class_matches_83 (fits_alone V83 (form V83 k.Class) c x)
    le f (λ _. l)

pub class_grows : (v : Version) (n : ℕ) → Below v n → StatementGrows v n k.Class
class_grows v n below c rest le x e =
    head (class_told (first_of (leaves c ++ rest)) (leaves c ++ rest)
    (where_is (starts v (form v k.Class)) begins_class (first_of (leaves c ++ rest)) (class_begins v)
    (first_in v (form v k.Class) c rest (shaped v k.Class c x) (class_nullable v))))
    (class_walks v n below c rest le (shaped v k.Class c x) (follows (k.Class, c) (first_of rest) e) (last_of k.Class c rest e))

-- ---- what the second token tells

-- a statement of a form that its tokens choose
pub chosen_grows : (v : Version) (n : ℕ) → Below v n → (j : NodeKind) (is : List Item)
    → matches v 60 true (form v j ∷ []) is follows_statement ≡ true
    → ((c : Forest) (rest : List Token) → Fits v (form v j) c → statement_form (leaves c ++ rest) ≡ Some (j, is))
    → StatementGrows v n j
chosen_grows v n below j is m chosen c rest le x e =
    grows_by v n below s.Statement true j is follows_statement m c rest le x (follows (j, c) (first_of rest) e) (λ _. last_of j c rest e) (chosen c rest (shaped v j c x))

-- a word and then the rest
pub after_word : (v : Version) (w : Terminal) (r : Rule) (c : Forest)
    → for_all (λ c. whenever (could v w c) (same_class w c)) ≡ true → Fits v (word w ~ r) c → (x : Token)
    × (m : Forest) × (c ≡ leaf x m) × (terminal x ≡ w) × Fits v r m
after_word v w r c p y =
    let q : (g : Forest) × (h : Forest) × Fits v (word w) g × Fits v r h × (c ≡ g +++ h) = both_is v (word w) r c y in
    let o : (x : Token) × (q.0 ≡ leaf x none) × (accepts v w x ≡ true) = word_is v w q.0 q.2 in
    (o.0, q.1, q.4 ∙ ap (λ (i : Forest). i +++ q.1) o.1, pinned v w o.0 p o.2, q.3)

-- the form by the first class
pub form_by : (x : Token) (us : List Token) (w : Terminal) (form : Form) → terminal x ≡ w → chosen_by w (x ∷ us) ≡ Some form → statement_form (x ∷ us) ≡ Some form
form_by x us w form e h = subst (λ (u : Terminal). or_else (chosen_by u (x ∷ us)) (Some (simple_form u)) ≡ Some form)
    (sym e) (ap (λ (o : Option Form). or_else o (Some (simple_form w))) h)

statics_pinned : (v : Version) → for_all (λ c. whenever (could v t.Static c) (same_class t.Static c)) ≡ true
unfolding for_all
statics_pinned V74 = refl
statics_pinned V83 = refl

abbrev statics_rest : Rule
statics_rest = commas declared_variable ~ word t.Semi

statics_begin : (v : Version) → begins_with v statics_rest t.Variable ≡ true
unfolding for_all
statics_begin V74 = refl
statics_begin V83 = refl

statics_matches : (v : Version) → matches v 60 true (form v k.Statics ∷ []) ((static_form t.Variable).1) follows_statement ≡ true
unfolding for_all
statics_matches V74 = refl
statics_matches V83 = refl

statics_chosen : (v : Version) (c : Forest) (rest : List Token) → Fits v (form v k.Statics) c → statement_form (leaves c ++ rest) ≡ Some (static_form t.Variable)
statics_chosen v c rest y =
    let q : (x : Token) × (m : Forest) × (c ≡ leaf x m) × (terminal x ≡ t.Static) × Fits v statics_rest m = after_word v t.Static statics_rest c (statics_pinned v) y in
    ap (λ (i : Forest). statement_form (leaves i ++ rest)) q.2
    ∙ form_by q.0 (leaves q.1 ++ rest) t.Static (static_form t.Variable) q.3
    (ap (λ (u : Terminal). Some (static_form u))
    (begun v statics_rest t.Variable q.1 rest q.4 refl (statics_begin v)))

pub statics_grows : (v : Version) (n : ℕ) → Below v n → StatementGrows v n k.Statics
statics_grows v n below = chosen_grows v n below k.Statics ((static_form t.Variable).1) (statics_matches v) (statics_chosen v)

-- ---- functions

abbrev function_items : List Item
function_items = Word t.Function ∷ Part g.ByRef ∷ Word t.FunctionLabel ∷ Word t.OpenParen ∷ Part g.Params ∷ Word t.CloseParen ∷ Part g.ReturnType ∷ Node s.Block ∷ []

abbrev function_rest : Rule
function_rest = word t.FunctionLabel ~ params ~ return_type ~ kind k.Block

function_pinned : (v : Version) → (for_all (λ c. whenever (could v t.Function c) (same_class t.Function c)) ≡ true)
    × (for_all (λ c. whenever (could v t.Ampersand c) (same_class t.Ampersand c)) ≡ true)
unfolding for_all
function_pinned V74 = (refl, refl)
function_pinned V83 = (refl, refl)

name_begins : (v : Version) → for_all (λ c. where_it (starts v function_rest c) (is_any_label c)) ≡ true
unfolding for_all
name_begins V74 = refl
name_begins V83 = refl

function_matches : (v : Version) → matches v 60 true (form v k.Function ∷ []) function_items follows_statement ≡ true
unfolding for_all
function_matches V74 = refl
function_matches V83 = refl

name_stays : (second third : Terminal) → is_any_label second ≡ true → is_any_label (name_of_function second third) ≡ true
name_stays t.Ampersand third h = absurd (false_true h)
name_stays second third h = h

-- a function's name stands behind `function`, or behind an `&` there
named_function : (second third : Terminal) → is_any_label second ≡ true → function_form second third ≡ (k.Function, function_items)
named_function second third h = rw (name_stays second third h) refl

marked_function : (third : Terminal) → is_any_label third ≡ true → function_form t.Ampersand third ≡ (k.Function, function_items)
marked_function third h = rw h refl

label_first : (v : Version) (r : Forest) (rest : List Token) → Fits v function_rest r → is_any_label (first_of (leaves r ++ rest)) ≡ true
label_first v r rest y = where_is (starts v function_rest) is_any_label (first_of (leaves r ++ rest)) (name_begins v) (first_in v function_rest r rest y refl)

function_by : (v : Version) (b r : Forest) (rest : List Token) → Fits v by_ref b → Fits v function_rest r
    → function_form (first_of (leaves (b +++ r) ++ rest)) (second_of (leaves (b +++ r) ++ rest)) ≡
    (k.Function, function_items)
function_by v b r rest (is_first x) y =
    subst (λ (i : Forest). function_form (first_of (leaves (i +++ r) ++ rest)) (second_of (leaves (i +++ r) ++ rest)) ≡ (k.Function, function_items)) (sym (nothing_is v b x))
    (named_function (first_of (leaves r ++ rest)) (second_of (leaves r ++ rest)) (label_first v r rest y))
function_by v b r rest (is_second x) y =
    let q : (z : Token) × (b ≡ leaf z none) × (accepts v t.Ampersand z ≡ true) = word_is v t.Ampersand b x in
    subst (λ (i : Forest). function_form (first_of (leaves (i +++ r) ++ rest)) (second_of (leaves (i +++ r) ++ rest)) ≡ (k.Function, function_items)) (sym q.1)
    (subst (λ (c : Terminal). function_form c (first_of (leaves r ++ rest)) ≡ (k.Function, function_items)) (sym (pinned v t.Ampersand q.0 ((function_pinned v).1) q.2))
    (marked_function (first_of (leaves r ++ rest)) (label_first v r rest y)))

function_chosen : (v : Version) (c : Forest) (rest : List Token) → Fits v (form v k.Function) c → statement_form (leaves c ++ rest) ≡ Some (k.Function, function_items)
function_chosen v c rest y =
    let q : (x : Token) × (m : Forest) × (c ≡ leaf x m) × (terminal x ≡ t.Function)
    × Fits v (by_ref ~ function_rest) m = after_word v t.Function (by_ref ~ function_rest) c
    ((function_pinned v).0) y in
    let p : (b : Forest) × (r : Forest) × Fits v by_ref b × Fits v function_rest r × (q.1 ≡ b +++ r) = both_is v by_ref function_rest q.1 q.4 in
    ap (λ (i : Forest). statement_form (leaves i ++ rest)) (q.2 ∙ ap (leaf q.0) p.4)
    ∙ form_by q.0 (leaves (p.0 +++ p.1) ++ rest) t.Function (k.Function, function_items) q.3 (ap Some (function_by v p.0 p.1 rest p.2 p.3))

pub function_grows : (v : Version) (n : ℕ) → Below v n → StatementGrows v n k.Function
function_grows v n below = chosen_grows v n below k.Function function_items (function_matches v) (function_chosen v)

-- ---- labels

label_by : (c : Terminal) (ts : List Token) → is_any_label c ≡ true → or_else (chosen_by c ts) (Some (simple_form c)) ≡ Some (label_form (second_of ts))
label_by t.Label ts h = refl
label_by t.Match ts h = refl
label_by t.Readonly ts h = refl
label_by t.MixedOrNever ts h = refl
label_by c ts h = absurd (false_true h)

labels_begin : (v : Version) → for_all (λ c. where_it (starts v (form v k.LabelStmt) c) (is_any_label c)) ≡ true
unfolding for_all
labels_begin V74 = refl
labels_begin V83 = refl

colon_begins : (v : Version) → begins_with v (word t.Colon) t.Colon ≡ true
unfolding for_all
colon_begins V74 = refl
colon_begins V83 = refl

label_matches : (v : Version) → matches v 60 true (form v k.LabelStmt ∷ []) ((label_form t.Colon).1) follows_statement ≡ true
unfolding for_all
label_matches V74 = refl
label_matches V83 = refl

label_chosen : (v : Version) (c : Forest) (rest : List Token) → Fits v (form v k.LabelStmt) c → statement_form (leaves c ++ rest) ≡ Some (label_form t.Colon)
label_chosen v c rest y =
    let p : (f : Forest) × (m : Forest) × Fits v (word t.FreeLabel) f × Fits v (word t.Colon) m × (c ≡ f +++ m) = both_is v (word t.FreeLabel) (word t.Colon) c y in
    let q : (z : Token) × (p.0 ≡ leaf z none) × (accepts v t.FreeLabel z ≡ true) = word_is v t.FreeLabel p.0 p.2 in
    let at : c ≡ leaf q.0 p.1 = p.4 ∙ ap (λ (i : Forest). i +++ p.1) q.1 in
    label_by (first_of (leaves c ++ rest)) (leaves c ++ rest)
    (where_is (starts v (form v k.LabelStmt)) is_any_label (first_of (leaves c ++ rest)) (labels_begin v)
    (first_in v (form v k.LabelStmt) c rest y refl))
    ∙ ap (λ (i : Forest). Some (label_form (second_of (leaves i ++ rest)))) at
    ∙ ap (λ (u : Terminal). Some (label_form u)) (begun v (word t.Colon) t.Colon p.1 rest p.3 refl (colon_begins v))

pub label_grows : (v : Version) (n : ℕ) → Below v n → StatementGrows v n k.LabelStmt
label_grows v n below = chosen_grows v n below k.LabelStmt ((label_form t.Colon).1) (label_matches v) (label_chosen v)
