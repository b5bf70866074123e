-- In a tree with the shape of the grammar names with `\` stand within one node, and a label stands behind each `\`.
use Rattle.std.proofs.Common.{◌≡◌, Bool, true, false, ◌||◌, if◌then◌else◌, refl, sym, ap, ◌∙◌, subst}
use Rattle.std.proofs.lemmas.Bool.{or_left, or_right}
use Rattle.php_tree.specs.declared.kind.NodeKind.{NodeKind}
use Rattle.php_tree.specs.declared.kind.NodeKind.TheVariants as k
use Rattle.php_tree.specs.declared.token.Token.{Token}
use Rattle.php_tree.specs.declared.version.Version.TheVariants.{V74}
use Rattle.php_tree.specs.Tree.{Forest, none, leaf, node, ◌+++◌}
use Rattle.php_terminals.specs.declared.terminal.Terminal.TheVariants as t
use Rattle.php_grammar.specs.Accepts.{accepts}
use Rattle.php_shapes.specs.Forms.{form}
use Rattle.php_shapes.specs.Names.{names}
use Rattle.php_shapes.specs.Notation.{Rule, nothing, word, place, inside, ◌~◌, ◌|||◌, many, tokens}
use Rattle.php_shapes.specs.Notation as rule
use Rattle.php_shapes.specs.Places.{Place, Statement, Member, is_member, is_statement, may_stand}
use Rattle.php_shapes.specs.Shapes.{Fits, is_nothing, is_word, is_kind, is_place, is_inside, is_both, is_first, is_second, no_more, once_more, is_tokens, IsNode, is_node}
use Rattle.rewritten_shapes.specs.paired.Names.{State, calm, edge, run, step}
use Rattle.rewritten_shapes.specs.paired.Traits.{PlainTraits, has_plain_rules, is_trait_use}
use Rattle.rewritten_shapes.proofs.paired.Pairing.{past_names, plain_front, plain_rest}
use Rattle.rewritten_shapes.proofs.paired.NameTokens.{part_of, word_holds, word_states}
use Rattle.rewritten_shapes.proofs.paired.States.{
  States,
  at,
  at_calm,
  at_edge,
  at_is,
  at_key,
  first_holds,
  holds,
  image,
  image_holds,
  is_within,
  join,
  second_holds,
  wider_holds,
  wrong,
}
use Rattle.rewritten_shapes.proofs.paired.TraitNames.{FineLabels, fine_front, rules_run}

-- ---- rules

abbrev pub is_quiet_end : NodeKind → Bool
is_quiet_end k.Case = true
is_quiet_end j = is_statement j || is_member j

-- what may stand before a node
abbrev pub entry : NodeKind → States
entry k.Block = at_edge
entry _ = at_key

-- what stands behind a node
abbrev pub exits : NodeKind → States
exits j = if is_quiet_end j then at_calm else at_edge

abbrev place_exits : Place → States
place_exits Statement = at_calm
place_exits Member = at_calm
place_exits _ = at_edge

abbrev repeated : (States → States) → States → States
repeated g a = if is_within (g a) a then a else at (λ b. if is_within (g b) b then b else wrong) (join a (g a))

-- what stands behind the parts of a rule
abbrev trans : Rule → States → States
trans nothing a = a
trans (word c) a = at (word_states c) a
trans (rule.kind j) a = if is_within (image edge a) (entry j) then exits j else wrong
trans (place p) a = if is_within (image edge a) at_key then place_exits p else wrong
trans (inside j r) a = image edge (trans r (image edge a))
trans (r ~ q) a = trans q (trans r a)
trans (r ||| q) a = at (λ b. join (trans r b) (trans q b)) a
trans (many r) a = at (repeated (trans r)) a
trans tokens a = wrong

form_exits : (j : NodeKind) → is_trait_use j ≡ false → is_within (image edge (trans (form V74 j) (entry j))) (exits j) ≡ true
form_exits k.Block e = refl
form_exits k.Empty e = refl
form_exits k.ExprStmt e = refl
form_exits k.Echo e = refl
form_exits k.Html e = refl
form_exits k.Return e = refl
form_exits k.If e = refl
form_exits k.IfAlt e = refl
form_exits k.While e = refl
form_exits k.DoWhile e = refl
form_exits k.For e = refl
form_exits k.Foreach e = refl
form_exits k.Switch e = refl
form_exits k.Case e = refl
form_exits k.Break e = refl
form_exits k.Continue e = refl
form_exits k.Global e = refl
form_exits k.Statics e = refl
form_exits k.Unset e = refl
form_exits k.Throw e = refl
form_exits k.Try e = refl
form_exits k.Function e = refl
form_exits k.Param e = refl
form_exits k.TypeName e = refl
form_exits k.Class e = refl
form_exits k.Interface e = refl
form_exits k.Trait e = refl
form_exits k.Property e = refl
form_exits k.ClassConst e = refl
form_exits k.Method e = refl
form_exits k.Const e = refl
form_exits k.Namespace e = refl
form_exits k.Use e = refl
form_exits k.Declare e = refl
form_exits k.Goto e = refl
form_exits k.LabelStmt e = refl
form_exits k.Variable e = refl
form_exits k.Number e = refl
form_exits k.Float e = refl
form_exits k.Text e = refl
form_exits k.Quoted e = refl
form_exits k.Constant e = refl
form_exits k.ClassConstant e = refl
form_exits k.Array e = refl
form_exits k.Item e = refl
form_exits k.List e = refl
form_exits k.Paren e = refl
form_exits k.Offset e = refl
form_exits k.BraceOffset e = refl
form_exits k.Prop e = refl
form_exits k.StaticProp e = refl
form_exits k.Call e = refl
form_exits k.MethodCall e = refl
form_exits k.StaticCall e = refl
form_exits k.Args e = refl
form_exits k.New e = refl
form_exits k.Isset e = refl
form_exits k.EmptyTest e = refl
form_exits k.Exit e = refl
form_exits k.Closure e = refl
form_exits k.Arrow e = refl
form_exits k.Include e = refl
form_exits k.EvalTest e = refl
form_exits k.Binary e = refl
form_exits k.Prefix e = refl
form_exits k.Postfix e = refl
form_exits k.Cast e = refl
form_exits k.Ternary e = refl
form_exits k.ShortTernary e = refl
form_exits k.Assign e = refl
form_exits k.AssignRef e = refl
form_exits k.CompoundAssign e = refl
form_exits k.InstanceOf e = refl
form_exits k.Print e = refl
form_exits k.Yield e = refl
form_exits _ e = absurd cc

at_holds : (f : States → States) (a : States) (s : State) → holds (f a) s ≡ true → holds (at f a) s ≡ true
at_holds f a s h = ap (λ (b : States). holds b s) (at_is f a) ∙ h

within_any : (b : Bool) → is_within (if b then at_calm else at_edge) at_edge ≡ true
within_any true = refl
within_any false = refl

quiet_of : (j : NodeKind) → (is_statement j || is_member j) ≡ true → is_quiet_end j ≡ true
quiet_of k.Case e = refl
quiet_of _ e = e

exits_place : (p : Place) (j : NodeKind) (c : Forest) → may_stand V74 p (j, c) ≡ true → is_within (exits j) (place_exits p) ≡ true
exits_place Statement j c e = ap (λ (b : Bool). is_within (if b then at_calm else at_edge) at_calm) (quiet_of j (or_left (is_statement j) (is_member j) e))
exits_place Member j c e = ap (λ (b : Bool). is_within (if b then at_calm else at_edge) at_calm) (quiet_of j (or_right (is_statement j) (is_member j) e))
exits_place _ j c e = within_any (is_quiet_end j)

-- ---- steps

run_join : (s : State) (f g : Forest) → run s (f +++ g) ≡ run (run s f) g
run_join s none g = refl
run_join s (leaf x f) g = run_join (step s (part_of x)) f g
run_join s (node j c f) g = run_join (edge (run (edge s) c)) f g

fine_rest : (f g : Forest) → FineLabels (f +++ g) → FineLabels g
fine_rest none g l = l
fine_rest (leaf x f) g l = fine_rest f g l.1
fine_rest (node j c f) g l = fine_rest f g l.1

abbrev NodeRuns : NodeKind → Forest → Type 0
NodeRuns j c = (s : State) → holds (entry j) s ≡ true → holds (exits j) (edge (run s c)) ≡ true

abbrev Runs : Rule → Forest → Type 0
Runs r f = (a : States) (s : State) → holds a s ≡ true → holds (trans r a) (run s f) ≡ true

node_state : (j : NodeKind) (c : Forest) (d b : States) → is_within d (entry j) ≡ true → is_within (exits j) b ≡ true
    → NodeRuns j c → (a : States) (s : State) → holds a s ≡ true
    → holds (if is_within (image edge a) d then b else wrong) (edge (run (edge s) c)) ≡ true
node_state j c d b v w n a s h = go (is_within (image edge a) d) refl
  where
    go : (z : Bool) → is_within (image edge a) d ≡ z → holds (if z then b else wrong) (edge (run (edge s) c)) ≡ true
    go true e =
        let first = wider_holds (image edge a) d (edge s) e (image_holds edge a s h) in
        wider_holds (exits j) b (edge (run (edge s) c)) w (n (edge s) (wider_holds d (entry j) (edge s) v first))
    go false e = refl

key_entry : (j : NodeKind) → is_within at_key (entry j) ≡ true
key_entry k.Block = refl
key_entry _ = refl

entry_self : (j : NodeKind) → is_within (entry j) (entry j) ≡ true
entry_self k.Block = refl
entry_self _ = refl

within_self : (b : Bool) → is_within (if b then at_calm else at_edge) (if b then at_calm else at_edge) ≡ true
within_self true = refl
within_self false = refl

repeats_none : (g : States → States) (a : States) (s : State) → holds a s ≡ true → holds (repeated g a) s ≡ true
repeats_none g a s h = go (is_within (g a) a)
  where
    again : (b : States) (d : Bool) → holds b s ≡ true → holds (if d then b else wrong) s ≡ true
    again b true h = h
    again b false h = refl

    go : (d : Bool) → holds (if d then a else at (λ b. if is_within (g b) b then b else wrong) (join a (g a))) s ≡ true
    go true = h
    go false =
        at_holds (λ b. if is_within (g b) b then b else wrong) (join a (g a)) s (again (join a (g a)) (is_within (g (join a (g a))) (join a (g a))) (first_holds a (g a) s h))

repeats_more : (r : Rule) (g h : Forest) → Runs r g → Runs (many r) h → (a : States) (s : State) → holds a s ≡ true → holds (trans (many r) a) (run (run s g) h) ≡ true
repeats_more r g h p q a s o = go (is_within (trans r a) a) refl
  where
    c : States
    c = join a (trans r a)

    u : State
    u = run (run s g) h

    more : (d : Bool) → is_within (trans r (join a (trans r a))) (join a (trans r a)) ≡ d → holds (if d then join a (trans r a) else wrong) (run (run s g) h) ≡ true
    more true e =
        let first = wider_holds (trans r (join a (trans r a))) (join a (trans r a)) (run s g) e (p (join a (trans r a)) s (first_holds a (trans r a) s o)) in
        sym (ap (λ (b : States). holds b (run (run s g) h))
        (at_is (repeated (trans r)) (join a (trans r a))
        ∙ ap (λ (d : Bool). if d then join a (trans r a) else at
        (λ b. if is_within (trans r b) b then b else wrong)
        (join (join a (trans r a)) (trans r (join a (trans r a))))) e))
        ∙ q (join a (trans r a)) (run s g) first
    more false e = refl

    go : (d : Bool) → is_within (trans r a) a ≡ d → holds (trans (many r) a) (run (run s g) h) ≡ true
    go true e = q a (run s g) (wider_holds (trans r a) a (run s g) e (p a s o))
    go false e =
        ap (λ (b : States). holds b (run (run s g) h))
        (at_is (repeated (trans r)) a
        ∙ ap (λ (d : Bool). if d then a else at (λ b. if is_within (trans r b) b then b else wrong)
        (join a (trans r a))) e)
        ∙ at_holds (λ b. if is_within (trans r b) b then b else wrong) (join a (trans r a)) (run (run s g) h)
        (more (is_within (trans r (join a (trans r a))) (join a (trans r a))) refl)

trait_state : (c : Forest) (x : Token) (g i : Forest) → c ≡ leaf x (g +++ i) → (s : State)
    → run (run (step s (part_of x)) g) i ≡ calm → holds (exits k.TraitUse) (edge (run s c)) ≡ true
trait_state c x g i same s e =
    ap (λ (z : State). holds (exits k.TraitUse) (edge z)) (ap (run s) same ∙ run_join (step s (part_of x)) g i ∙ e)

trait_rules : (c : Forest) (x : Token) (g i : Forest) → c ≡ leaf x (g +++ i) → accepts V74 t.Use x ≡ true → Fits V74 (names V74) g → has_plain_rules c ≡ has_plain_rules i
trait_rules c x g i same p q = ap has_plain_rules same ∙ past_names x g i p q

-- ---- trees

mutual
  pub runs_fit : {r : Rule} {f : Forest} → Fits V74 r f → FineLabels f → PlainTraits f → (a : States) (s : State) → holds a s ≡ true → holds (trans r a) (run s f) ≡ true
  runs_fit is_nothing l w a s h = h
  runs_fit (is_word {c} {x} p) l w a s h = at_holds (word_states c) a (step s (part_of x)) (word_holds c x l.0 p a s h)
  runs_fit (is_kind {k = j} {c} n) l w a s h = node_state j c (entry j) (exits j) (entry_self j) (within_self (is_quiet_end j)) (node_runs n l.0 w) a s h
  runs_fit (is_place {p} {k = j} {c} m n) l w a s h = node_state j c at_key (place_exits p) (key_entry j) (exits_place p j c m) (node_runs n l.0 w) a s h
  runs_fit (is_inside {k = j} {r} {c} p near) l w a s h =
      image_holds edge (trans r (image edge a)) (run (edge s) c) (runs_fit p l.0 w.1 (image edge a) (edge s) (image_holds edge a s h))
  runs_fit (is_both {r} {s = q} {f} {g} {h = i} b d e) l w a s h =
      let lines = subst FineLabels e l in
      let parts = subst PlainTraits e w in
      ap (λ (z : Forest). holds (trans q (trans r a)) (run s z)) e
      ∙ ap (holds (trans q (trans r a))) (run_join s g i)
      ∙ runs_fit d (fine_rest g i lines) (plain_rest g i parts) (trans r a) (run s g) (runs_fit b (fine_front g i lines) (plain_front g i parts) a s h)
  runs_fit (is_first {r} {s = q} {f} b) l w a s h =
      at_holds (λ c. join (trans r c) (trans q c)) a (run s f) (first_holds (trans r a) (trans q a) (run s f) (runs_fit b l w a s h))
  runs_fit (is_second {r} {s = q} {f} b) l w a s h =
      at_holds (λ c. join (trans r c) (trans q c)) a (run s f) (second_holds (trans r a) (trans q a) (run s f) (runs_fit b l w a s h))
  runs_fit (no_more {r}) l w a s h = at_holds (repeated (trans r)) a s (repeats_none (trans r) a s h)
  runs_fit (once_more {r} {f} {g} {h = i} b d e) l w a s h =
      let lines = subst FineLabels e l in
      let parts = subst PlainTraits e w in
      ap (λ (z : Forest). holds (trans (many r) a) (run s z)) e
      ∙ ap (holds (trans (many r) a)) (run_join s g i)
      ∙ repeats_more r g i (runs_fit b (fine_front g i lines) (plain_front g i parts)) (runs_fit d (fine_rest g i lines) (plain_rest g i parts)) a s h
  runs_fit (is_tokens b) l w a s h = refl

  node_runs : {j : NodeKind} {c : Forest} → IsNode V74 j c → FineLabels c → PlainTraits (node j c none) → (s : State)
      → holds (entry j) s ≡ true → holds (exits j) (edge (run s c)) ≡ true
  node_runs (is_node {k = k.TraitUse} {c} (is_both {h = f} (is_word {x} p) (is_both {g} {h = i} q r e) d) near fine) l w s h =
      let same : c ≡ leaf x (g +++ i) = d ∙ ap (leaf x) e in
      let lines = subst FineLabels same l in
      let parts = subst PlainTraits same w.1 in
      let behind = word_holds t.Use x lines.0 p at_key s h in
      let named = runs_fit q (fine_front g i lines.1) (plain_front g i parts) at_key (step s (part_of x)) behind in
      trait_state c x g i same s (rules_run i r (fine_rest g i lines.1) (sym (trait_rules c x g i same p q) ∙ w.0 refl) (run (step s (part_of x)) g) named)
  node_runs (is_node {k = j} {c} p near fine) l w s h =
      wider_holds (image edge (trans (form V74 j) (entry j))) (exits j) (edge (run s c)) (form_exits j refl)
      (image_holds edge (trans (form V74 j) (entry j)) (run s c) (runs_fit p l w.1 (entry j) s h))
