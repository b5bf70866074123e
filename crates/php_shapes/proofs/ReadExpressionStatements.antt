-- Expressions as statements are read as they were.
use Rattle.std.proofs.Common.{◌≡◌, ℕ, ◌<◌, ◌≤◌, true, List, [], ◌∷◌, ◌++◌, Some, None, inl, refl, sym, ap, ◌∙◌, subst, append_assoc}
use Rattle.php_tree.specs.declared.kind.NodeKind.{NodeKind}
use Rattle.php_tree.specs.declared.kind.NodeKind.TheVariants as k
use Rattle.php_tree.specs.declared.token.Token.{Token}
use Rattle.php_tree.specs.declared.version.Version.{Version}
use Rattle.php_tree.specs.declared.version.Version.TheVariants.{V74, V83}
use Rattle.php_tree.specs.Tree.{Forest, none, leaf, node, ◌+++◌, leaves, count}
use Rattle.php_terminals.specs.declared.terminal.Terminal.{Terminal}
use Rattle.php_terminals.specs.declared.terminal.Terminal.TheVariants as t
use Rattle.php_terminals.specs.Classify.{is_any_label, terminal}
use Rattle.php_terminals.specs.Ahead.{behind_name, first_of, second_of}
use Rattle.php_terminals.specs.Indents.{is_misindented}
use Rattle.php_terminals.specs.Marks.{is_name_part}
use Rattle.php_forms.specs.declared.item.Sort.TheVariants as s
use Rattle.php_forms.specs.declared.item.Group.TheVariants as g
use Rattle.php_forms.specs.declared.item.Item.{Item}
use Rattle.php_forms.specs.declared.item.Item.TheVariants.{Word, Part, Repeats}
use Rattle.php_forms.specs.Forms.{or_else}
use Rattle.php_forms.specs.Grammar.{Form, Grows, Walks, head, onward, Spells}
use Rattle.php_forms.specs.Heads.{chosen_by, expression_form, label_form, statement_form}
use Rattle.php_forms.specs.Names.{name_lead, name_more}
use Rattle.php_forms.specs.Statements.{simple_form}
use Rattle.php_grammar.specs.Accepts.{accepts, same_class}
use Rattle.php_grammar.specs.Operands.{name_by, name_form, operand_form}
use Rattle.php_grammar.specs.Tables.{php, parts, tail}
use Rattle.php_shapes.specs.Forms.{form}
use Rattle.php_shapes.specs.Notation.{word, expr}
use Rattle.php_shapes.specs.Places.{Operand, may_stand}
use Rattle.php_shapes.specs.Shapes.{Fits, IsNode}
use Rattle.php_shapes.proofs.ReadClasses.{could, for_all, pinned, whenever}
use Rattle.php_shapes.proofs.ReadFirst.{begins_expression}
use Rattle.php_shapes.proofs.ReadEnds.{Below, closes_expression, Ends}
use Rattle.php_shapes.proofs.ReadMatch.{before_none, both_is, false_true, leaves_before, matches, place_is, word_is}
use Rattle.php_shapes.proofs.ReadStops.{ends_here}
use Rattle.php_shapes.proofs.ReadNearest.{follows, follows_statement, last_of, shaped}
use Rattle.php_shapes.proofs.ReadBodies.{node_counts}
use Rattle.php_shapes.proofs.ReadStatements.{first_in, grows_by, StatementGrows}
use Rattle.php_shapes.proofs.ReadWalks.{no_items, no_repeats, part_first, word_first}
use Rattle.php_shapes.proofs.ReadFirstTokens.{at_class, FirstForm, first_form, function_fine, namespace_fine, none_some, operand_at, some_form, static_fine}

-- ---- labels: a colon behind one stands behind the whole expression

label_in_name : (c : Terminal) → is_any_label c ≡ true → is_name_part c ≡ true
label_in_name t.Label h = refl
label_in_name t.Match h = refl
label_in_name t.Readonly h = refl
label_in_name t.MixedOrNever h = refl
label_in_name c h = absurd (false_true h)

-- a label has no lead
label_leads : (c : Terminal) → is_any_label c ≡ true → name_lead c ≡ []
label_leads t.Backslash h = absurd (false_true h)
label_leads t.Namespace h = absurd (false_true h)
label_leads c h = refl

end_colon : t.End ≡ t.Colon → ⊥
end_colon e = cc

colon_name : (x y : Token) (us : List Token) → is_any_label (terminal x) ≡ true → terminal y ≡ t.Colon → behind_name (x ∷ (y ∷ us)) ≡ y ∷ us
colon_name x y us h e = rw (label_in_name (terminal x) h, e) refl

label_atom : (v : Version) (c : Terminal) (ts : List Token) → is_any_label c ≡ true → operand_at v c ts ≡ Some (name_form (behind_name ts))
label_atom v t.Label ts h = refl
label_atom v t.Match ts h = refl
label_atom v t.Readonly ts h = refl
label_atom v t.MixedOrNever ts h = refl
label_atom v c ts h = absurd (false_true h)

alone_by : (v : Version) (f : Forest) (us : List Token) → is_any_label (first_of (leaves f ++ us)) ≡ true
    → second_of (leaves f ++ us) ≡ t.Colon → Walks (php v) (parts v g.Name (leaves f ++ us)) f us
    → first_of us ≡ t.Colon
alone_by V74 f us h e w =
    let p : (a : Forest) × (m : Forest) × (f ≡ a +++ m) × Walks (php V74)
    (name_lead (first_of (leaves a ++ (leaves m ++ us)))) a (leaves m ++ us)
    × Walks (php V74) (Word t.AnyLabel ∷ Repeats g.NameMore ∷ []) m us =
    part_first (php V74) g.NameLead (Word t.AnyLabel ∷ Repeats g.NameMore ∷ []) f us w in
    let same : leaves f ++ us ≡ leaves p.0 ++ (leaves p.1 ++ us) = ap (λ (i : Forest). leaves i ++ us) p.2 ∙ leaves_before p.0 p.1 us in
    let no : p.0 ≡ none = no_items (php V74) p.0 (leaves p.1 ++ us)
    (subst (λ (is : List Item). Walks (php V74) is p.0 (leaves p.1 ++ us))
    (ap name_lead (sym (ap first_of same)) ∙ label_leads (first_of (leaves f ++ us)) h) p.3) in
    let q : (x : Token) × (m : Forest) × (p.1 ≡ leaf x m) × (accepts V74 t.AnyLabel x ≡ true)
    × Walks (php V74) (Repeats g.NameMore ∷ []) m us = word_first (php V74) t.AnyLabel (Repeats g.NameMore ∷ []) p.1
    us p.4 in
    let one : f ≡ leaf q.0 q.1 = p.2 ∙ ap (λ (i : Forest). i +++ p.1) no ∙ q.2 in
    let colon : first_of (leaves q.1 ++ us) ≡ t.Colon = ap (λ (i : Forest). second_of (leaves i ++ us)) (sym one) ∙ e in
    let stopped : q.1 ≡ none = no_items (php V74) q.1 us (no_repeats (php V74) g.NameMore [] q.1 us (ap (λ (c : Terminal). name_more c (second_of (leaves q.1 ++ us))) colon) q.4) in
    ap (λ (i : Forest). first_of (leaves i ++ us)) (sym stopped) ∙ colon
alone_by V83 f us h e w =
    let q : (x : Token) × (m : Forest) × (f ≡ leaf x m) × (accepts V83 t.NameToken x ≡ true) × Walks (php V83) [] m us = word_first (php V83) t.NameToken [] f us w in
    ap (λ (i : Forest). second_of (leaves i ++ us)) (sym (q.2 ∙ ap (leaf q.0) (no_items (php V83) q.1 us q.4))) ∙ e

-- a name of one label
name_alone : (v : Version) (f : Forest) (us : List Token) → is_any_label (first_of (leaves f ++ us)) ≡ true
    → second_of (leaves f ++ us) ≡ t.Colon → Walks (php v) (Part g.Name ∷ []) f us → first_of us ≡ t.Colon
name_alone v f us h e w =
    let p : (a : Forest) × (m : Forest) × (f ≡ a +++ m) × Walks (php v)
    (parts v g.Name (leaves a ++ (leaves m ++ us))) a (leaves m ++ us)
    × Walks (php v) [] m us = part_first (php v) g.Name [] f us w in
    let no : p.1 ≡ none = no_items (php v) p.1 us p.4 in
    let same : f ≡ p.0 = p.2 ∙ ap (λ (i : Forest). p.0 +++ i) no ∙ before_none p.0 in
    alone_by v p.0 us (subst (λ (i : Forest). is_any_label (first_of (leaves i ++ us)) ≡ true) same h)
    (ap (λ (i : Forest). second_of (leaves i ++ us)) (sym same) ∙ e)
    (subst (λ (i : Forest). Walks (php v) (parts v g.Name (leaves p.0 ++ (leaves i ++ us))) p.0 (leaves i ++ us))
    no p.3)

-- before a colon no expression goes on
ends_at_colon : (v : Version) (m : ℕ) (b : Forest) (us : List Token) → first_of us ≡ t.Colon → tail v (s.Operand m) (k.Constant, b) us ≡ None
unfolding is_misindented
ends_at_colon v m b us e = ends_here v m (k.Constant, b) us refl refl (subst (λ (c : Terminal). Ends v m (k.Constant, b) c) (sym e) (inl refl))

colon_form : (v : Version) (ts : List Token) → is_any_label (first_of ts) ≡ true → second_of ts ≡ t.Colon → operand_form v ts ≡ Some (k.Constant, Part g.Name ∷ [])
colon_form v [] h e = absurd (false_true h)
colon_form v (x ∷ []) h e = absurd (end_colon e)
colon_form v (x ∷ (y ∷ us)) h e = label_atom v (terminal x) (x ∷ (y ∷ us)) h
    ∙ ap (λ (ts : List Token). Some (name_form ts)) (colon_name x y us h e)
    ∙ ap (λ (c : Terminal). Some (name_by c (y ∷ us))) e

-- a colon behind a label that begins an expression stands behind the whole of it
colon_behind : (v : Version) (m : ℕ) (j : NodeKind) (c : Forest) (us : List Token)
    → is_any_label (first_of (leaves c ++ us)) ≡ true → second_of (leaves c ++ us) ≡ t.Colon
    → Grows (php v) (s.Operand m) j c us → (j ≡ k.Constant) × (first_of us ≡ t.Colon)
colon_behind v m j c us h e (head {is = is} o w) =
    let same : (j, is) ≡ (k.Constant, Part g.Name ∷ []) = some_form (j, is) (k.Constant, Part g.Name ∷ []) (sym o ∙ colon_form v (leaves c ++ us) h e) in
    (ap (λ (f : Form). f.0) same, name_alone v c us h e (subst (λ (f : Form). Walks (php v) f.1 c us) same w))
colon_behind v m j c us h e (onward {j = i} {is = is} {b = b} {f = f} y o w) =
    let same : leaves c ++ us ≡ leaves b ++ (leaves f ++ us) = append_assoc (leaves b) (leaves f) us in
    let q : (i ≡ k.Constant) × (first_of (leaves f ++ us) ≡ t.Colon) =
    colon_behind v m i b (leaves f ++ us) (subst (λ (ts : List Token). is_any_label (first_of ts) ≡ true) same h)
    (ap second_of (sym same) ∙ e) y in
    absurd (none_some (j, is) (sym (ends_at_colon v m b (leaves f ++ us) q.1) ∙ ap (λ (x : NodeKind). tail v (s.Operand m) (x, b) (leaves f ++ us)) (sym q.0) ∙ o))

-- ---- the statement

label_fine : (d : Terminal) → (d ≡ t.Colon → ⊥) → label_form d ≡ expression_form
label_fine t.Colon f = absurd (f refl)
label_fine d f = refl

-- The tokens of an expression begin no other statement.
expression_chosen : (v : Version) (ts : List Token) (c : Terminal) → first_of ts ≡ c → begins_expression c ≡ true
    → FirstForm v ts → (is_any_label c ≡ true → second_of ts ≡ t.Colon → ⊥)
    → or_else (chosen_by c ts) (Some (simple_form c)) ≡ Some expression_form
expression_chosen v ts t.If e h f n = absurd (false_true h)
expression_chosen v ts t.OpenBrace e h f n = absurd (false_true h)
expression_chosen v ts t.Semi e h f n = absurd (false_true h)
expression_chosen v ts t.Echo e h f n = absurd (false_true h)
expression_chosen v ts t.InlineHtml e h f n = absurd (false_true h)
expression_chosen v ts t.Return e h f n = absurd (false_true h)
expression_chosen v ts t.While e h f n = absurd (false_true h)
expression_chosen v ts t.Do e h f n = absurd (false_true h)
expression_chosen v ts t.For e h f n = absurd (false_true h)
expression_chosen v ts t.Foreach e h f n = absurd (false_true h)
expression_chosen v ts t.Switch e h f n = absurd (false_true h)
expression_chosen v ts t.Break e h f n = absurd (false_true h)
expression_chosen v ts t.Continue e h f n = absurd (false_true h)
expression_chosen v ts t.Global e h f n = absurd (false_true h)
expression_chosen v ts t.Unset e h f n = absurd (false_true h)
expression_chosen v ts t.Throw e h f n = absurd (false_true h)
expression_chosen v ts t.Try e h f n = absurd (false_true h)
expression_chosen v ts t.Declare e h f n = absurd (false_true h)
expression_chosen v ts t.Goto e h f n = absurd (false_true h)
expression_chosen v ts t.Class e h f n = absurd (false_true h)
expression_chosen v ts t.ClassModifier e h f n = absurd (false_true h)
expression_chosen v ts t.AttributeOpen e h f n = absurd (false_true h)
expression_chosen v ts t.Interface e h f n = absurd (false_true h)
expression_chosen v ts t.Trait e h f n = absurd (false_true h)
expression_chosen v ts t.Use e h f n = absurd (false_true h)
expression_chosen v ts t.Const e h f n = absurd (false_true h)
expression_chosen v ts t.Static e h f n = ap Some (static_fine (second_of ts) ts f.0 (at_class v t.Static ts (Some f.0) e f.3))
expression_chosen v ts t.Function e h f n = ap Some (function_fine v ts e f)
expression_chosen v ts t.Namespace e h f n = ap Some (namespace_fine v ts e f)
expression_chosen v ts t.Label e h f n = ap Some (label_fine (second_of ts) (n refl))
expression_chosen v ts t.Match e h f n = ap Some (label_fine (second_of ts) (n refl))
expression_chosen v ts t.Readonly e h f n = ap Some (label_fine (second_of ts) (n refl))
expression_chosen v ts t.MixedOrNever e h f n = ap Some (label_fine (second_of ts) (n refl))
expression_chosen v ts c e h f n = refl

semi_pinned : (v : Version) → for_all (λ c. whenever (could v t.Semi c) (same_class t.Semi c)) ≡ true
unfolding for_all
semi_pinned V74 = refl
semi_pinned V83 = refl

expression_matches : (v : Version) → matches v 60 true (form v k.ExprStmt ∷ []) (expression_form.1) follows_statement ≡ true
unfolding for_all
expression_matches V74 = refl
expression_matches V83 = refl

semi_colon : t.Semi ≡ t.Colon → ⊥
semi_colon e = cc

-- an expression before a semicolon
chosen_before : (v : Version) (j : NodeKind) (b : Forest) (z : Token) (rest : List Token)
    → Grows (php v) (s.Operand 24) j b (z ∷ rest) → terminal z ≡ t.Semi
    → begins_expression (first_of (leaves b ++ (z ∷ rest))) ≡ true
    → statement_form (leaves b ++ (z ∷ rest)) ≡ Some expression_form
chosen_before v j b z rest y e h =
    let ts : List Token = leaves b ++ (z ∷ rest) in
    expression_chosen v ts (first_of ts) refl h (first_form v 24 j b (z ∷ rest) ts y refl) (λ l c. semi_colon (sym e ∙ (colon_behind v 24 j b (z ∷ rest) l c y).1))

pub expression_grows : (v : Version) (n : ℕ) → Below v n → StatementGrows v n k.ExprStmt
expression_grows v n below c rest le x e =
    let p : (g : Forest) × (h : Forest) × Fits v expr g × Fits v (word t.Semi) h × (c ≡ g +++ h) = both_is v expr (word t.Semi) c (shaped v k.ExprStmt c x) in
    let q : (j : NodeKind) × (b : Forest) × (p.0 ≡ node j b none) × (may_stand v (Operand 24) (j, b) ≡ true) × IsNode v j b = place_is v (Operand 24) p.0 p.2 in
    let z : (y : Token) × (p.1 ≡ leaf y none) × (accepts v t.Semi y ≡ true) = word_is v t.Semi p.1 p.3 in
    let at : c ≡ node q.0 q.1 (leaf z.0 none) = p.4 ∙ ap (λ (i : Forest). i +++ p.1) q.2 ∙ ap (λ (i : Forest). node q.0 q.1 i) z.1 in
    let semi : terminal z.0 ≡ t.Semi = pinned v t.Semi z.0 (semi_pinned v) z.2 in
    let less : (count q.1 < n) × (count (leaf z.0 none) ≤ n) = node_counts q.0 q.1 (leaf z.0 none) n (subst (λ (i : Forest). count i ≤ n) at le) in
    let same : leaves c ++ rest ≡ leaves q.1 ++ (z.0 ∷ rest) = ap (λ (i : Forest). leaves i ++ rest) at ∙ append_assoc (leaves q.1) (z.0 ∷ []) rest in
    let y : Spells (php v) (s.Operand 24) (q.0, q.1) (z.0 ∷ rest) =
    below.placed (Operand 24) (s.Operand 24) q.0 q.1 (z.0 ∷ rest) refl less.0 q.3 q.4
    (inl (ap closes_expression semi)) in
    let begins : begins_expression (first_of (leaves c ++ rest)) ≡ true =
    ap (λ (i : Forest). begins_expression (first_of (leaves i ++ rest))) p.4
    ∙ ap (λ (ts : List Token). begins_expression (first_of ts)) (leaves_before p.0 p.1 rest)
    ∙ first_in v expr p.0 (leaves p.1 ++ rest) p.2 refl in
    grows_by v n below s.Statement true k.ExprStmt (expression_form.1) follows_statement (expression_matches v) c rest
    le x (follows (k.ExprStmt, c) (first_of rest) e) (λ _. last_of k.ExprStmt c rest e)
    (ap statement_form same ∙ chosen_before v q.0 q.1 z.0 rest y.0 semi (subst (λ (ts : List Token). begins_expression (first_of ts) ≡ true) same begins))
