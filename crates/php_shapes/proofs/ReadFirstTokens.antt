-- The first tokens of an expression: they are those of no other statement.
use Rattle.std.proofs.Common.{◌≡◌, ℕ, Bool, true, false, cond, List, [], ◌∷◌, ◌++◌, drop, Option, Some, None, ◌⊎◌, inl, inr, refl, sym, ap, ◌∙◌, subst, append_assoc}
use Rattle.php_tree.specs.declared.kind.NodeKind.{NodeKind}
use Rattle.php_tree.specs.declared.kind.NodeKind.TheVariants as k
use Rattle.php_tree.specs.declared.token.Token.{Token}
use Rattle.php_tree.specs.declared.version.Version.{Version}
use Rattle.php_tree.specs.declared.version.Version.TheVariants.{V74, V83}
use Rattle.php_tree.specs.Tree.{Forest, none, leaf, ◌+++◌, leaves}
use Rattle.php_terminals.specs.declared.terminal.Terminal.{Terminal}
use Rattle.php_terminals.specs.declared.terminal.Terminal.TheVariants as t
use Rattle.php_terminals.specs.Classify.{terminal}
use Rattle.php_terminals.specs.Ahead.{behind_name, first_of, is_called, second_of, third_of}
use Rattle.php_terminals.specs.Marks.{is_name_part, is_variable_start}
use Rattle.php_forms.specs.declared.item.Sort.TheVariants as s
use Rattle.php_forms.specs.declared.item.Group.{Group}
use Rattle.php_forms.specs.declared.item.Group.TheVariants as g
use Rattle.php_forms.specs.declared.item.Item.{Item}
use Rattle.php_forms.specs.declared.item.Item.TheVariants.{Word, Node, Part, Repeats}
use Rattle.php_forms.specs.Atoms.{atom_form}
use Rattle.php_forms.specs.Declarations.{by_ref}
use Rattle.php_forms.specs.Forms.{or_else}
use Rattle.php_forms.specs.Grammar.{Form, Grows, Walks, head, onward}
use Rattle.php_forms.specs.Heads.{expression_form, function_form, namespace_form, static_form}
use Rattle.php_forms.specs.Names.{name_lead}
use Rattle.php_grammar.specs.Accepts.{accepts, same_class}
use Rattle.php_grammar.specs.Operands.{name_by, name_form, operand_by, operand_form, static_by}
use Rattle.php_grammar.specs.Tables.{php, parts}
use Rattle.php_shapes.proofs.ReadClasses.{accepted, could, for_all, pinned, whenever}
use Rattle.php_shapes.proofs.ReadMatch.{false_true, leaves_before}
use Rattle.php_shapes.proofs.ReadWalks.{no_items, part_first, word_first}

pub none_some : (f : Form) → None ≡ Some f → ⊥
none_some f e = cc

pub some_form : (a b : Form) → Some a ≡ Some b → a ≡ b
some_form a b e = cc

-- ---- the form that an expression begins with

-- The form that these tokens begin, and its parts.
abbrev pub FirstForm : Version → List Token → Type 0
FirstForm v ts = (form : Form) × (b : Forest) × (us : List Token) × (operand_form v ts ≡ Some form) × Walks (php v) form.1 b us × (ts ≡ leaves b ++ us)

pub first_form : (v : Version) (m : ℕ) (j : NodeKind) (c : Forest) (us ts : List Token) → Grows (php v) (s.Operand m) j c us → ts ≡ leaves c ++ us → FirstForm v ts
first_form v m j c us ts (head {is = is} e w) at = ((j, is), c, us, ap (operand_form v) at ∙ e, w, at)
first_form v m j c us ts (onward {j = i} {b = b} {f = f} y e w) at = first_form v m i b (leaves f ++ us) ts y (at ∙ append_assoc (leaves b) (leaves f) us)

-- the form by the class of the first token
abbrev pub operand_at : Version → Terminal → List Token → Option Form
operand_at v c ts = or_else (or_else (cond (is_name_part c) (Some (name_form (behind_name ts))) None) (atom_form c)) (operand_by v c ts)

pub at_class : (v : Version) (c : Terminal) (ts : List Token) (o : Option Form) → first_of ts ≡ c → operand_form v ts ≡ o → operand_at v c ts ≡ o
at_class v c ts o e h = subst (λ (d : Terminal). operand_at v d ts ≡ o) e h

-- ---- `static`

pub static_fine : (d : Terminal) (ts : List Token) (f : Form) → static_by d ts ≡ Some f → static_form d ≡ expression_form
static_fine t.Variable ts f e = absurd (none_some f e)
static_fine d ts f e = refl

-- ---- `function`

marks : (d : Terminal) → (d ≡ t.Ampersand) ⊎ (by_ref d ≡ [])
marks t.Ampersand = inl refl
marks d = inr refl

open_paren_pinned : (v : Version) → (for_all (λ c. whenever (could v t.OpenParen c) (same_class t.OpenParen c)) ≡
    true) × (for_all (λ c. whenever (could v t.Ampersand c) (same_class t.Ampersand c)) ≡ true)
unfolding for_all
open_paren_pinned V74 = (refl, refl)
open_paren_pinned V83 = (refl, refl)

opens_by : (v : Version) (h : Forest) (x : Token) (m : Forest) (us : List Token) → terminal x ≡ t.OpenParen
    → Walks (php v) (by_ref (first_of (leaves h ++ (x ∷ (leaves m ++ us))))) h (x ∷ (leaves m ++ us))
    → function_form (first_of (leaves (h +++ leaf x m) ++ us)) (second_of (leaves (h +++ leaf x m) ++ us)) ≡
    expression_form
opens_by v h x m us e w = elim (marks (first_of (leaves h ++ (x ∷ (leaves m ++ us))))) [
  | inl a ↦
      let q : (y : Token) × (f : Forest) × (h ≡ leaf y f) × (accepts v t.Ampersand y ≡ true)
      × Walks (php v) [] f (x ∷ (leaves m ++ us)) = word_first (php v) t.Ampersand [] h (x ∷ (leaves m ++ us))
      (subst (λ (c : Terminal). Walks (php v) (by_ref c) h (x ∷ (leaves m ++ us))) a w) in
      let one : h ≡ leaf q.0 none = q.2 ∙ ap (leaf q.0) (no_items (php v) q.1 (x ∷ (leaves m ++ us)) q.4) in
      subst (λ (f : Forest). function_form (first_of (leaves (f +++ leaf x m) ++ us)) (second_of (leaves (f +++ leaf x m) ++ us)) ≡ expression_form) (sym one)
      (rw (pinned v t.Ampersand q.0 ((open_paren_pinned v).1) q.3, e) refl)
  | inr a ↦
      subst (λ (f : Forest). function_form (first_of (leaves (f +++ leaf x m) ++ us))
      (second_of (leaves (f +++ leaf x m) ++ us)) ≡ expression_form)
      (sym (no_items (php v) h (x ∷ (leaves m ++ us))
      (subst (λ (is : List Item). Walks (php v) is h (x ∷ (leaves m ++ us))) a w)))
      (rw e refl)
]

-- behind `function` an `&` may stand, and then a parenthesis
closure_opens : (v : Version) (is : List Item) (b : Forest) (us : List Token)
    → Walks (php v) (Part g.ByRef ∷ Word t.OpenParen ∷ is) b us
    → function_form (first_of (leaves b ++ us)) (second_of (leaves b ++ us)) ≡ expression_form
closure_opens v is b us w =
    let p : (h : Forest) × (m : Forest) × (b ≡ h +++ m) × Walks (php v)
    (by_ref (first_of (leaves h ++ (leaves m ++ us)))) h (leaves m ++ us)
    × Walks (php v) (Word t.OpenParen ∷ is) m us = part_first (php v) g.ByRef (Word t.OpenParen ∷ is) b us w in
    let o : (x : Token) × (h : Forest) × (p.1 ≡ leaf x h) × (accepts v t.OpenParen x ≡ true) × Walks (php v) is h us = word_first (php v) t.OpenParen is p.1 us p.4 in
    let paren : terminal o.0 ≡ t.OpenParen = pinned v t.OpenParen o.0 ((open_paren_pinned v).0) o.3 in
    subst (λ (f : Forest). function_form (first_of (leaves f ++ us)) (second_of (leaves f ++ us)) ≡ expression_form) (sym (p.2 ∙ ap (λ (f : Forest). p.0 +++ f) o.2))
    (opens_by v p.0 o.0 o.1 us paren (subst (λ (f : Forest). Walks (php v) (by_ref (first_of (leaves p.0 ++ (leaves f ++ us)))) p.0 (leaves f ++ us)) o.2 p.3))

abbrev after_paren : List Item
after_paren = Part g.Params ∷ Word t.CloseParen ∷ Part g.ClosureUse ∷ Part g.ReturnType ∷ Node s.Block ∷ []

abbrev closure_rest : List Item
closure_rest = Part g.ByRef ∷ Word t.OpenParen ∷ after_paren

-- a closure begins with `function` and no name
pub function_fine : (v : Version) (ts : List Token) → first_of ts ≡ t.Function → FirstForm v ts → function_form (second_of ts) (third_of ts) ≡ expression_form
function_fine v ts e f =
    let same : (k.Closure, Word t.Function ∷ closure_rest) ≡ f.0 = some_form (k.Closure, Word t.Function ∷ closure_rest) f.0 (at_class v t.Function ts (Some f.0) e f.3) in
    let q : (x : Token) × (h : Forest) × (f.1 ≡ leaf x h) × (accepts v t.Function x ≡ true)
    × Walks (php v) closure_rest h f.2 = word_first (php v) t.Function closure_rest f.1 f.2
    (subst (λ (o : Form). Walks (php v) o.1 f.1 f.2) (sym same) f.4) in
    let at : ts ≡ q.0 ∷ (leaves q.1 ++ f.2) = f.5 ∙ ap (λ (i : Forest). leaves i ++ f.2) q.2 in
    ap (λ (us : List Token). function_form (second_of us) (third_of us)) at ∙ closure_opens v after_paren q.1 f.2 q.4

-- ---- names

abbrev static_call : Form
static_call = (k.StaticCall, Part g.Name ∷ Word t.DoubleColon ∷ Part g.Member ∷ Word t.OpenParen ∷ Node s.Args ∷ Word t.CloseParen ∷ [])

abbrev static_prop : Form
static_prop = (k.StaticProp, Part g.Name ∷ Word t.DoubleColon ∷ Part g.StaticMember ∷ [])

abbrev static_constant : Form
static_constant = (k.ClassConstant, Part g.Name ∷ Word t.DoubleColon ∷ Word t.AnyWord ∷ [])

statics_first : (member : List Token) (a b : Bool) → (is : List Item)
    × (((cond a static_call (cond b static_prop static_constant)).1 ≡ Part g.Name ∷ is)
    ⊎ ((cond a static_call (cond b static_prop static_constant)).1 ≡ Part g.CalledName ∷ is))
statics_first member true b = (Word t.DoubleColon ∷ Part g.Member ∷ Word t.OpenParen ∷ Node s.Args ∷ Word t.CloseParen ∷ [], inl refl)
statics_first member false true = (Word t.DoubleColon ∷ Part g.StaticMember ∷ [], inl refl)
statics_first member false false = (Word t.DoubleColon ∷ Word t.AnyWord ∷ [], inl refl)

-- an expression that begins with a name begins with the items of one
names_first : (d : Terminal) (rest : List Token) → (is : List Item) × (((name_by d rest).1 ≡ Part g.Name ∷ is) ⊎ ((name_by d rest).1 ≡ Part g.CalledName ∷ is))
names_first t.OpenParen rest = (Word t.OpenParen ∷ Node s.Args ∷ Word t.CloseParen ∷ [], inr refl)
names_first t.DoubleColon rest = statics_first (drop 1 rest) (is_called (drop 1 rest)) (is_variable_start (first_of (drop 1 rest)))
names_first d rest = ([], inl refl)

backslash_pinned : (v : Version) → for_all (λ c. whenever (could v t.Backslash c) (same_class t.Backslash c)) ≡ true
unfolding for_all
backslash_pinned V74 = refl
backslash_pinned V83 = refl

lead_second : (is : List Item) (h : Forest) (ws : List Token) → first_of (leaves h ++ ws) ≡ t.Namespace
    → Walks (php V74) (Part g.NameLead ∷ is) h ws → second_of (leaves h ++ ws) ≡ t.Backslash
lead_second is h ws e w =
    let p : (a : Forest) × (m : Forest) × (h ≡ a +++ m) × Walks (php V74)
    (name_lead (first_of (leaves a ++ (leaves m ++ ws)))) a (leaves m ++ ws)
    × Walks (php V74) is m ws = part_first (php V74) g.NameLead is h ws w in
    let same : leaves h ++ ws ≡ leaves p.0 ++ (leaves p.1 ++ ws) = ap (λ (i : Forest). leaves i ++ ws) p.2 ∙ leaves_before p.0 p.1 ws in
    let lead : Walks (php V74) (Word t.Namespace ∷ Word t.Backslash ∷ []) p.0 (leaves p.1 ++ ws) =
    subst (λ (c : Terminal). Walks (php V74) (name_lead c) p.0 (leaves p.1 ++ ws)) (sym (ap first_of same) ∙ e)
    p.3 in
    let x : (y : Token) × (f : Forest) × (p.0 ≡ leaf y f) × (accepts V74 t.Namespace y ≡ true)
    × Walks (php V74) (Word t.Backslash ∷ []) f (leaves p.1 ++ ws) =
    word_first (php V74) t.Namespace (Word t.Backslash ∷ []) p.0 (leaves p.1 ++ ws) lead in
    let z : (y : Token) × (f : Forest) × (x.1 ≡ leaf y f) × (accepts V74 t.Backslash y ≡ true)
    × Walks (php V74) [] f (leaves p.1 ++ ws) = word_first (php V74) t.Backslash [] x.1 (leaves p.1 ++ ws) x.4 in
    ap second_of (same ∙ ap (λ (i : Forest). leaves i ++ (leaves p.1 ++ ws)) (x.2 ∙ ap (leaf x.0) z.2)) ∙ pinned V74 t.Backslash z.0 (backslash_pinned V74) z.3

-- in 8.3 a whole name is no `namespace`
not_whole : (w : Terminal) (is : List Item) (h : Forest) (ws : List Token) → could V83 w t.Namespace ≡ false
    → first_of (leaves h ++ ws) ≡ t.Namespace → Walks (php V83) (Word w ∷ is) h ws
    → second_of (leaves h ++ ws) ≡ t.Backslash
not_whole w is h ws n e x =
    let q : (y : Token) × (f : Forest) × (h ≡ leaf y f) × (accepts V83 w y ≡ true) × Walks (php V83) is f ws = word_first (php V83) w is h ws x in
    absurd (false_true (sym n ∙ subst (λ (c : Terminal). could V83 w c ≡ true) (ap (λ (i : Forest). first_of (leaves i ++ ws)) (sym q.2) ∙ e) (accepted V83 w q.0 q.3)))

by_version : (v : Version) (gr : Group) (h : Forest) (ws : List Token) → (gr ≡ g.Name) ⊎ (gr ≡ g.CalledName)
    → first_of (leaves h ++ ws) ≡ t.Namespace → Walks (php v) (parts v gr (leaves h ++ ws)) h ws
    → second_of (leaves h ++ ws) ≡ t.Backslash
by_version V74 gr h ws o e w = elim o [
  | inl a ↦ lead_second (Word t.AnyLabel ∷ Repeats g.NameMore ∷ []) h ws e (subst (λ (x : Group). Walks (php V74) (parts V74 x (leaves h ++ ws)) h ws) a w)
  | inr a ↦ lead_second (Word t.AnyLabel ∷ Repeats g.NameMore ∷ []) h ws e (subst (λ (x : Group). Walks (php V74) (parts V74 x (leaves h ++ ws)) h ws) a w)
]
by_version V83 gr h ws o e w = elim o [
  | inl a ↦ not_whole t.NameToken [] h ws refl e (subst (λ (x : Group). Walks (php V83) (parts V83 x (leaves h ++ ws)) h ws) a w)
  | inr a ↦ not_whole t.CalledName [] h ws refl e (subst (λ (x : Group). Walks (php V83) (parts V83 x (leaves h ++ ws)) h ws) a w)
]

-- behind `namespace` a name goes on with a backslash
name_second : (v : Version) (gr : Group) (is : List Item) (b : Forest) (us : List Token) → (gr ≡ g.Name)
    ⊎ (gr ≡ g.CalledName) → first_of (leaves b ++ us) ≡ t.Namespace → Walks (php v) (Part gr ∷ is) b us
    → second_of (leaves b ++ us) ≡ t.Backslash
name_second v gr is b us o e w =
    let p : (h : Forest) × (m : Forest) × (b ≡ h +++ m) × Walks (php v) (parts v gr (leaves h ++ (leaves m ++ us))) h
    (leaves m ++ us) × Walks (php v) is m us = part_first (php v) gr is b us w in
    let same : leaves b ++ us ≡ leaves p.0 ++ (leaves p.1 ++ us) = ap (λ (i : Forest). leaves i ++ us) p.2 ∙ leaves_before p.0 p.1 us in
    ap second_of same ∙ by_version v gr p.0 (leaves p.1 ++ us) o (sym (ap first_of same) ∙ e) p.3

pub namespace_fine : (v : Version) (ts : List Token) → first_of ts ≡ t.Namespace → FirstForm v ts → namespace_form (second_of ts) ≡ expression_form
namespace_fine v ts e f =
    let same : name_form (behind_name ts) ≡ f.0 = some_form (name_form (behind_name ts)) f.0 (at_class v t.Namespace ts (Some f.0) e f.3) in
    let n : (is : List Item) × (((name_form (behind_name ts)).1 ≡ Part g.Name ∷ is)
    ⊎ ((name_form (behind_name ts)).1 ≡ Part g.CalledName ∷ is)) =
    names_first (first_of (behind_name ts)) (behind_name ts) in
    let w : Walks (php v) ((name_form (behind_name ts)).1) f.1 f.2 = subst (λ (o : Form). Walks (php v) o.1 f.1 f.2) (sym same) f.4 in
    ap namespace_form (ap second_of f.5 ∙ elim n.1 [
      | inl h ↦ name_second v g.Name n.0 f.1 f.2 (inl refl) (sym (ap first_of f.5) ∙ e) (subst (λ (is : List Item). Walks (php v) is f.1 f.2) h w)
      | inr h ↦ name_second v g.CalledName n.0 f.1 f.2 (inr refl) (sym (ap first_of f.5) ∙ e) (subst (λ (is : List Item). Walks (php v) is f.1 f.2) h w)
    ])
