-- What stands behind the bracket that leads an expression.
use Rattle.std.proofs.Common.{◌≡◌, ℕ, zero, suc, ◌<◌, Bool, true, false, not, ◌&&◌, ◌||◌, List, ◌++◌, ◌⊎◌, inl, inr, Some, refl, sym, ap, ◌∙◌, subst, nat_le, append_assoc, arith}
use Rattle.std.proofs.lemmas.Bool.{or_left, and_parts, or_right, not-true}
use Rattle.php_tree.specs.declared.kind.NodeKind.{NodeKind}
use Rattle.php_tree.specs.declared.kind.NodeKind.TheVariants as k
use Rattle.php_tree.specs.declared.token.Token.{Token}
use Rattle.php_tree.specs.declared.version.Version.{Version}
use Rattle.php_tree.specs.declared.version.Version.TheVariants.{V74, V83}
use Rattle.php_tree.specs.Tree.{Forest, none, node, ◌+++◌, leaves, count}
use Rattle.php_terminals.specs.declared.terminal.Terminal.{Terminal}
use Rattle.php_terminals.specs.declared.terminal.Terminal.TheVariants as t
use Rattle.php_terminals.specs.Ahead.{first_of}
use Rattle.php_shapes.specs.Forms.{form as shape_of}
use Rattle.php_shapes.specs.Notation.{Rule, nothing, word, kind, place, inside, ◌~◌, ◌|||◌, many, maybe, parens}
use Rattle.php_shapes.specs.Places.{Place, Operand, may_stand}
use Rattle.php_shapes.specs.Shapes.{Fits, is_both, is_first, is_second, IsNode, is_node}
use Rattle.php_shapes.proofs.ReadClasses.{for_all}
use Rattle.php_shapes.proofs.ReadFirst.{Begins, nullable, rule_begins, starts}
use Rattle.php_shapes.proofs.ReadEnds.{closes_item}
use Rattle.php_shapes.proofs.ReadMatch.{begins_there, both_is, false_true, place_is, where_is, where_it}
use Rattle.php_shapes.proofs.ReadOperands.{first_is, only_class}
use Rattle.php_terminals.specs.Ahead.{past_group}
use Rattle.php_terminals.specs.Marks.{goes_on}
use Rattle.php_grammar.specs.Bases.{is_list, is_offset_base, is_target, role_of}
use Rattle.php_shapes.specs.Atoms.{items}
use Rattle.php_shapes.specs.Notation.{tokens}
use Rattle.php_shapes.specs.Places.{Left, LeftShort, OffsetBase, MemberBase, ClassBase, Callee, Target, TargetOrList, is_expression}
use Rattle.php_shapes.proofs.ReadPostfixes.{base_expression, callee_offset, class_offset, member_offset, target_offset}
use Rattle.php_shapes.proofs.ReadPast.{group_past, pass, word_closes, word_opens}
use Rattle.php_grammar.specs.Bases.{is_short_ternary}
use Rattle.php_grammar.specs.Edges.{edge}
use Rattle.php_shapes.specs.Atoms.{list_item}
use Rattle.php_shapes.specs.Notation.{commas}
use Rattle.php_shapes.specs.Places.{ClassName, Embedded, Member, Statement}
use Rattle.php_shapes.proofs.ReadAssigns.{short_is_expression}
use Rattle.php_shapes.proofs.ReadClasses.{or_is}

-- ---- what stands behind the bracket that leads a node

-- the left part of a node is of a class of kinds
abbrev pub Lefts : Version → (NodeKind → Bool) → (Place → Bool) → Type 0
Lefts v S L = (p : Place) (i : NodeKind) (b : Forest) → L p ≡ true → may_stand v p (i, b) ≡ true → S i ≡ true

-- no opening bracket
abbrev pub is_no_bracket : Terminal → Bool
is_no_bracket t.OpenBracket = false
is_no_bracket _ = true

abbrev pub no_bracket_first : Version → Rule → Bool
no_bracket_first v r = for_all (λ c. where_it (starts v r c) (is_no_bracket c)) && not (nullable r)

-- the same of one rule and then another
abbrev pub led_front : Version → (Place → Bool) → (Terminal → Bool) → Rule → Rule → Bool
led_front v L K (r ||| q) z = led_front v L K r z && led_front v L K q z
led_front v L K (place p) z = L p && (not (nullable z) && for_all (λ c. where_it (starts v z c) (K c)))
led_front v L K nothing z = no_bracket_first v (nothing ~ z)
led_front v L K (word w) z = no_bracket_first v ((word w) ~ z)
led_front v L K (kind j) z = no_bracket_first v ((kind j) ~ z)
led_front v L K (inside j r) z = no_bracket_first v ((inside j r) ~ z)
led_front v L K (r ~ q) z = no_bracket_first v ((r ~ q) ~ z)
led_front v L K (many r) z = no_bracket_first v ((many r) ~ z)
led_front v L K tokens z = no_bracket_first v (tokens ~ z)

-- A rule begins with no bracket, or with a left part behind which a class of tokens stands.
abbrev pub led : Version → (Place → Bool) → (Terminal → Bool) → Rule → Bool
led v L K (r ~ z) = led_front v L K r z
led v L K (r ||| q) = led v L K r && led v L K q
led v L K nothing = no_bracket_first v nothing
led v L K (word w) = no_bracket_first v (word w)
led v L K (kind j) = no_bracket_first v (kind j)
led v L K (place p) = no_bracket_first v (place p)
led v L K (inside j r) = no_bracket_first v (inside j r)
led v L K (many r) = no_bracket_first v (many r)
led v L K tokens = no_bracket_first v tokens

-- the left part of a node, and what stands behind it
pub record LedBy (v : Version) (L : Place → Bool) (K : Terminal → Bool) (c : Forest) (us : List Token) : Type 0 where
  pub i : NodeKind
  pub b : Forest
  pub f : Forest
  pub p : Place
  pub allowed : L p ≡ true
  pub stands : may_stand v p (i, b) ≡ true
  pub node_ : IsNode v i b
  pub same : c ≡ node i b f
  pub next : K (first_of (leaves f ++ us)) ≡ true

no_bracket : (v : Version) (L : Place → Bool) (K : Terminal → Bool) (r : Rule) (c : Forest) (us : List Token)
    → (for_all (λ d. where_it (starts v r d) (is_no_bracket d)) && not (nullable r)) ≡ true → Fits v r c
    → first_of (leaves c ++ us) ≡ t.OpenBracket → LedBy v L K c us
no_bracket v L K r c us h x e =
    let q : (for_all (λ d. where_it (starts v r d) (is_no_bracket d)) ≡ true)
    × (not (nullable r) ≡ true) = and_parts (for_all (λ d. where_it (starts v r d) (is_no_bracket d)))
    (not (nullable r)) h in
    absurd (false_true (ap is_no_bracket (sym e) ∙ where_is (starts v r) is_no_bracket (first_of (leaves c ++ us)) q.0
    (begins_there (starts v r) (leaves c) us
    (subst (λ (z : Bool). Begins (starts v r) z (leaves c)) (not-true (nullable r) q.1) (rule_begins v x)))))

place_led : (v : Version) (L : Place → Bool) (K : Terminal → Bool) (p : Place) (z : Rule) (c : Forest)
    (us : List Token) → (L p && (not (nullable z) && for_all (λ d. where_it (starts v z d) (K d)))) ≡ true
    → Fits v (place p ~ z) c → LedBy v L K c us
place_led v L K p z c us h x =
    let q : (L p ≡ true) × ((not (nullable z) && for_all (λ d. where_it (starts v z d) (K d))) ≡ true) =
    and_parts (L p) (not (nullable z) && for_all (λ d. where_it (starts v z d) (K d))) h in
    let q2 : (not (nullable z) ≡ true) × (for_all (λ d. where_it (starts v z d) (K d)) ≡ true) = and_parts (not (nullable z)) (for_all (λ d. where_it (starts v z d) (K d))) q.1 in
    let o : (g1 : Forest) × (g2 : Forest) × Fits v (place p) g1 × Fits v z g2 × (c ≡ g1 +++ g2) = both_is v (place p) z c x in
    let w : (i : NodeKind) × (b : Forest) × (o.0 ≡ node i b none) × (may_stand v p (i, b) ≡ true) × IsNode v i b = place_is v p o.0 o.2 in
    record {
      i = w.0;
      b = w.1;
      f = o.1;
      p = p;
      allowed = q.0;
      stands = w.3;
      node_ = w.4;
      same = o.4
          ∙ ap (λ (m : Forest). m +++ o.1) w.2;
      next = where_is (starts v z) K (first_of (leaves o.1 ++ us)) q2.1
          (begins_there (starts v z) (leaves o.1) us
          (subst (λ (m : Bool). Begins (starts v z) m (leaves o.1)) (not-true (nullable z) q2.0) (rule_begins v o.3)));
    }

front_by : (v : Version) (L : Place → Bool) (K : Terminal → Bool) (r z : Rule) (c g h : Forest) (us : List Token)
    → led_front v L K r z ≡ true → Fits v r g → Fits v z h → c ≡ g +++ h → first_of (leaves c ++ us) ≡ t.OpenBracket
    → LedBy v L K c us
front_by v L K (r ||| q) z c g h us l (is_first x) y e m = front_by v L K r z c g h us ((and_parts (led_front v L K r z) (led_front v L K q z) l).0) x y e m
front_by v L K (r ||| q) z c g h us l (is_second x) y e m = front_by v L K q z c g h us ((and_parts (led_front v L K r z) (led_front v L K q z) l).1) x y e m
front_by v L K (place p) z c g h us l x y e m = place_led v L K p z c us l (is_both x y e)
front_by v L K nothing z c g h us l x y e m = no_bracket v L K (nothing ~ z) c us l (is_both x y e) m
front_by v L K (word w) z c g h us l x y e m = no_bracket v L K ((word w) ~ z) c us l (is_both x y e) m
front_by v L K (kind j) z c g h us l x y e m = no_bracket v L K ((kind j) ~ z) c us l (is_both x y e) m
front_by v L K (inside j r) z c g h us l x y e m = no_bracket v L K ((inside j r) ~ z) c us l (is_both x y e) m
front_by v L K (r ~ q) z c g h us l x y e m = no_bracket v L K ((r ~ q) ~ z) c us l (is_both x y e) m
front_by v L K (many r) z c g h us l x y e m = no_bracket v L K ((many r) ~ z) c us l (is_both x y e) m
front_by v L K tokens z c g h us l x y e m = no_bracket v L K (tokens ~ z) c us l (is_both x y e) m

pub led_by : (v : Version) (L : Place → Bool) (K : Terminal → Bool) (r : Rule) (c : Forest) (us : List Token)
    → led v L K r ≡ true → Fits v r c → first_of (leaves c ++ us) ≡ t.OpenBracket → LedBy v L K c us
led_by v L K (r ~ z) c us l (is_both {g = g} {h = h} x y e) m = front_by v L K r z c g h us l x y e m
led_by v L K (r ||| q) c us h (is_first x) m = led_by v L K r c us ((and_parts (led v L K r) (led v L K q) h).0) x m
led_by v L K (r ||| q) c us h (is_second x) m = led_by v L K q c us ((and_parts (led v L K r) (led v L K q) h).1) x m
led_by v L K nothing c us h x m = no_bracket v L K nothing c us h x m
led_by v L K (word w) c us h x m = no_bracket v L K (word w) c us h x m
led_by v L K (kind j) c us h x m = no_bracket v L K (kind j) c us h x m
led_by v L K (place p) c us h x m = no_bracket v L K (place p) c us h x m
led_by v L K (inside j r) c us h x m = no_bracket v L K (inside j r) c us h x m
led_by v L K (many r) c us h x m = no_bracket v L K (many r) c us h x m
led_by v L K tokens c us h x m = no_bracket v L K tokens c us h x m

-- `[..]` and `list(..)`
abbrev pub is_bracketed : NodeKind → Bool
is_bracketed k.Array = true
is_bracketed k.List = true
is_bracketed _ = false

-- the items of a list form
abbrev pub list_parts : Rule
list_parts = commas (maybe list_item)

-- a list form by its word
abbrev pub list_word : Rule
list_word = word t.List ~ parens list_parts

-- kinds whose left parts are led by brackets, and what stands behind them
pub record Leading (v : Version) (S : NodeKind → Bool) (K : Terminal → Bool) : Type 0 where
  pub L : Place → Bool
  pub lefts : (p : Place) (i : NodeKind) (b : Forest) → L p ≡ true → may_stand v p (i, b) ≡ true → S i ≡ true
  pub led_ : (j : NodeKind) → S j ≡ true → is_bracketed j ≡ false → led v L K (shape_of v j) ≡ true

bracket_words : (v : Version) → (word_opens v t.OpenBracket ≡ true) × (word_closes v t.CloseBracket ≡ true)
    × (only_class v (word t.Array ~ parens items) t.Array ≡ true) × (pass v items 0 ≡ Some 0)
unfolding for_all
bracket_words V74 = (refl, refl, refl, refl)
bracket_words V83 = (refl, refl, refl, refl)

list_words : (v : Version) → (only_class v list_word t.List ≡ true) × (pass v list_parts 0 ≡ Some 0)
unfolding for_all
list_words V74 = (refl, refl)
list_words V83 = (refl, refl)

other_word : (a b : Terminal) (ts : List Token) → first_of ts ≡ a → first_of ts ≡ b → is_no_bracket a ≡ true → is_no_bracket b ≡ false → ⊥
other_word a b ts e f h g = false_true (sym g ∙ ap is_no_bracket (sym f ∙ e) ∙ h)

array_past : (v : Version) (c : Forest) (us : List Token) → IsNode v k.Array c → first_of (leaves c ++ us) ≡ t.OpenBracket → past_group 0 (leaves c ++ us) ≡ us
array_past v c us (is_node (is_first x) near st) e = group_past v t.OpenBracket t.CloseBracket items c us ((bracket_words v).0) ((bracket_words v).1) ((bracket_words v).3) x
array_past v c us (is_node (is_second x) near st) e = absurd
    (other_word t.Array t.OpenBracket (leaves c ++ us)
    (first_is v (word t.Array ~ parens items) t.Array c us ((bracket_words v).2) refl x) e refl refl)

pub list_past : (v : Version) (c : Forest) (us : List Token) → IsNode v k.List c → first_of (leaves c ++ us) ≡ t.OpenBracket → past_group 0 (leaves c ++ us) ≡ us
list_past v c us (is_node (is_first x) near st) e = group_past v t.OpenBracket t.CloseBracket list_parts c us ((bracket_words v).0) ((bracket_words v).1) ((list_words v).1) x
list_past v c us (is_node (is_second x) near st) e =
    absurd (other_word t.List t.OpenBracket (leaves c ++ us)
    (first_is v list_word t.List c us ((list_words v).0) refl x) e refl refl)

pub bracketed_past : (v : Version) (j : NodeKind) (c : Forest) (us : List Token) → is_bracketed j ≡ true
    → IsNode v j c → first_of (leaves c ++ us) ≡ t.OpenBracket → past_group 0 (leaves c ++ us) ≡ us
bracketed_past v k.Array c us h x e = array_past v c us x e
bracketed_past v k.List c us h x e = list_past v c us x e
bracketed_past v other c us h x e = absurd (false_true h)

shape_is : (v : Version) (j : NodeKind) (c : Forest) → IsNode v j c → Fits v (shape_of v j) c
shape_is v j c (is_node x near st) = x

abbrev Leads : Version → (Terminal → Bool) → Forest → List Token → Type 0
Leads v K c us = (past_group 0 (leaves c ++ us) ≡ us) ⊎ (K (first_of (past_group 0 (leaves c ++ us))) ≡ true)

self : (n : ℕ) → n < suc n
self n = omega arith

left_count : (n : ℕ) (i : NodeKind) (c b f : Forest) → c ≡ node i b f → count c < suc n → count b < n
left_count n i c b f e lt = let eq : count c ≡ count (node i b f) = ap count e in omega arith

further : (v : Version) (K : Terminal → Bool) (c b f : Forest) (i : NodeKind) (us : List Token) → c ≡ node i b f
    → K (first_of (leaves f ++ us)) ≡ true → Leads v K b (leaves f ++ us)
    → K (first_of (past_group 0 (leaves c ++ us))) ≡ true
further v K c b f i us e next z =
    subst (λ (m : List Token). K (first_of (past_group 0 m)) ≡ true) (sym (ap (λ (m : Forest). leaves m ++ us) e ∙ append_assoc (leaves b) (leaves f) us))
    (elim z [ inl a ↦ subst (λ (m : List Token). K (first_of m) ≡ true) (sym a) next | inr a ↦ a ])

lead_step : (v : Version) (S : NodeKind → Bool) (K : Terminal → Bool) → Leading v S K → (n : ℕ)
    → ((i : NodeKind) (b : Forest) (ts : List Token) → count b < n → S i ≡ true → IsNode v i b
    → first_of (leaves b ++ ts) ≡ t.OpenBracket → Leads v K b ts) → (j : NodeKind) (c : Forest) (us : List Token)
    → count c < suc n → S j ≡ true → IsNode v j c → first_of (leaves c ++ us) ≡ t.OpenBracket → (a : Bool)
    → is_bracketed j ≡ a → Leads v K c us
lead_step v S K T n ih j c us lt h x e true a = inl (bracketed_past v j c us a x e)
lead_step v S K T n ih j c us lt h x e false a =
    let q : LedBy v T.L K c us = led_by v T.L K (shape_of v j) c us (T.led_ j h a) (shape_is v j c x) e in
    inr (further v K c q.b q.f q.i us q.same q.next
    (ih q.i q.b (leaves q.f ++ us) (left_count n q.i c q.b q.f q.same lt) (T.lefts q.p q.i q.b q.allowed q.stands)
    q.node_ (ap first_of (sym (ap (λ (m : Forest). leaves m ++ us) q.same
    ∙ append_assoc (leaves q.b) (leaves q.f) us)) ∙ e)))

-- behind the bracket that leads a node stands what goes on with its left part; or the node is that bracket
pub leading : (v : Version) (S : NodeKind → Bool) (K : Terminal → Bool) → Leading v S K
    → (n : ℕ) (j : NodeKind) (c : Forest) (us : List Token) → count c < n → S j ≡ true → IsNode v j c
    → first_of (leaves c ++ us) ≡ t.OpenBracket → Leads v K c us
leading v S K T zero j c us lt h x e = absurd (omega arith)
leading v S K T (suc n) j c us lt h x e = lead_step v S K T n (leading v S K T n) j c us lt h x e (is_bracketed j) refl

-- the same where the node is no such bracket itself
pub inner_lead : (v : Version) (S : NodeKind → Bool) (K : Terminal → Bool) → Leading v S K
    → (j : NodeKind) (c : Forest) (us : List Token) → S j ≡ true → is_bracketed j ≡ false → IsNode v j c
    → first_of (leaves c ++ us) ≡ t.OpenBracket → K (first_of (past_group 0 (leaves c ++ us))) ≡ true
inner_lead v S K T j c us h a x e =
    let q : LedBy v T.L K c us = led_by v T.L K (shape_of v j) c us (T.led_ j h a) (shape_is v j c x) e in
    further v K c q.b q.f q.i us q.same q.next
    (leading v S K T (suc (count q.b)) q.i q.b (leaves q.f ++ us) (self (count q.b))
    (T.lefts q.p q.i q.b q.allowed q.stands) q.node_
    (ap first_of (sym (ap (λ (m : Forest). leaves m ++ us) q.same ∙ append_assoc (leaves q.b) (leaves q.f) us))
    ∙ e))

-- ---- expressions, and what is written

abbrev pub before_key : Terminal → Bool
before_key c = not (closes_item c)

abbrev pub is_any_expression : NodeKind → Bool
is_any_expression j = is_expression j || is_list j

abbrev left_places : Place → Bool
left_places Statement = false
left_places Member = false
left_places (Operand n) = false
left_places ClassName = false
left_places Embedded = false
left_places _ = true

expression_led : (v : Version) (j : NodeKind) → is_any_expression j ≡ true → is_bracketed j ≡ false → led v left_places before_key (shape_of v j) ≡ true
unfolding for_all
expression_led V74 k.Variable h e = refl
expression_led V74 k.Number h e = refl
expression_led V74 k.Float h e = refl
expression_led V74 k.Text h e = refl
expression_led V74 k.Quoted h e = refl
expression_led V74 k.Constant h e = refl
expression_led V74 k.ClassConstant h e = refl
expression_led V74 k.Array h e = absurd (false_true (sym e))
expression_led V74 k.List h e = absurd (false_true (sym e))
expression_led V74 k.Paren h e = refl
expression_led V74 k.Offset h e = refl
expression_led V74 k.BraceOffset h e = refl
expression_led V74 k.Prop h e = refl
expression_led V74 k.StaticProp h e = refl
expression_led V74 k.Call h e = refl
expression_led V74 k.MethodCall h e = refl
expression_led V74 k.StaticCall h e = refl
expression_led V74 k.New h e = refl
expression_led V74 k.Isset h e = refl
expression_led V74 k.EmptyTest h e = refl
expression_led V74 k.Exit h e = refl
expression_led V74 k.Closure h e = refl
expression_led V74 k.Arrow h e = refl
expression_led V74 k.Include h e = refl
expression_led V74 k.EvalTest h e = refl
expression_led V74 k.Binary h e = refl
expression_led V74 k.Prefix h e = refl
expression_led V74 k.Postfix h e = refl
expression_led V74 k.Cast h e = refl
expression_led V74 k.Ternary h e = refl
expression_led V74 k.ShortTernary h e = refl
expression_led V74 k.Assign h e = refl
expression_led V74 k.AssignRef h e = refl
expression_led V74 k.CompoundAssign h e = refl
expression_led V74 k.InstanceOf h e = refl
expression_led V74 k.Print h e = refl
expression_led V74 k.Yield h e = refl
expression_led V74 other h e = absurd (false_true h)
expression_led V83 k.Variable h e = refl
expression_led V83 k.Number h e = refl
expression_led V83 k.Float h e = refl
expression_led V83 k.Text h e = refl
expression_led V83 k.Quoted h e = refl
expression_led V83 k.Constant h e = refl
expression_led V83 k.ClassConstant h e = refl
expression_led V83 k.Array h e = absurd (false_true (sym e))
expression_led V83 k.List h e = absurd (false_true (sym e))
expression_led V83 k.Paren h e = refl
expression_led V83 k.Offset h e = refl
expression_led V83 k.BraceOffset h e = refl
expression_led V83 k.Prop h e = refl
expression_led V83 k.StaticProp h e = refl
expression_led V83 k.Call h e = refl
expression_led V83 k.MethodCall h e = refl
expression_led V83 k.StaticCall h e = refl
expression_led V83 k.New h e = refl
expression_led V83 k.Isset h e = refl
expression_led V83 k.EmptyTest h e = refl
expression_led V83 k.Exit h e = refl
expression_led V83 k.Closure h e = refl
expression_led V83 k.Arrow h e = refl
expression_led V83 k.Include h e = refl
expression_led V83 k.EvalTest h e = refl
expression_led V83 k.Binary h e = refl
expression_led V83 k.Prefix h e = refl
expression_led V83 k.Postfix h e = refl
expression_led V83 k.Cast h e = refl
expression_led V83 k.Ternary h e = refl
expression_led V83 k.ShortTernary h e = refl
expression_led V83 k.Assign h e = refl
expression_led V83 k.AssignRef h e = refl
expression_led V83 k.CompoundAssign h e = refl
expression_led V83 k.InstanceOf h e = refl
expression_led V83 k.Print h e = refl
expression_led V83 k.Yield h e = refl
expression_led V83 other h e = absurd (false_true h)

expression_left : (v : Version) (p : Place) (i : NodeKind) (b : Forest) → left_places p ≡ true → may_stand v p (i, b) ≡ true → is_any_expression i ≡ true
expression_left v Statement i b l h = absurd (false_true l)
expression_left v Member i b l h = absurd (false_true l)
expression_left v (Operand n) i b l h = absurd (false_true l)
expression_left v ClassName i b l h = absurd (false_true l)
expression_left v Embedded i b l h = absurd (false_true l)
expression_left v (Left n) i b l h = or_left (is_expression i) (is_list i) ((and_parts (is_expression i) (nat_le (edge v (i, b)) n) h).0)
expression_left v LeftShort i b l h = or_left (is_expression i) (is_list i) (short_is_expression i ((and_parts (is_short_ternary i) (nat_le (edge v (i, b)) 18) h).0))
expression_left v OffsetBase i b l h = or_left (is_expression i) (is_list i) (base_expression i h)
expression_left v MemberBase i b l h = or_left (is_expression i) (is_list i) (base_expression i (member_offset (role_of i) h))
expression_left v ClassBase i b l h = or_left (is_expression i) (is_list i) (base_expression i (class_offset (role_of i) h))
expression_left v Callee i b l h = or_left (is_expression i) (is_list i) (base_expression i (callee_offset (role_of i) h))
expression_left v Target i b l h = or_left (is_expression i) (is_list i) (base_expression i (target_offset (role_of i) h))
expression_left v TargetOrList i b l h = elim (or_is (is_target i) (is_list i) h) [
  | inl e ↦ or_left (is_expression i) (is_list i) (base_expression i (target_offset (role_of i) e))
  | inr e
      ↦ or_right (is_expression i) (is_list i) e
]

pub expressions_lead : (v : Version) → Leading v is_any_expression before_key
expressions_lead v = record { L = left_places; lefts = expression_left v; led_ = expression_led v }

abbrev base_places : Place → Bool
base_places OffsetBase = true
base_places MemberBase = true
base_places ClassBase = true
base_places Callee = true
base_places _ = false

base_led : (v : Version) (j : NodeKind) → is_offset_base j ≡ true → is_bracketed j ≡ false → led v base_places goes_on (shape_of v j) ≡ true
unfolding for_all
base_led V74 k.Variable h e = refl
base_led V74 k.Text h e = refl
base_led V74 k.Constant h e = refl
base_led V74 k.ClassConstant h e = refl
base_led V74 k.Array h e = absurd (false_true (sym e))
base_led V74 k.Paren h e = refl
base_led V74 k.Offset h e = refl
base_led V74 k.BraceOffset h e = refl
base_led V74 k.Prop h e = refl
base_led V74 k.StaticProp h e = refl
base_led V74 k.Call h e = refl
base_led V74 k.MethodCall h e = refl
base_led V74 k.StaticCall h e = refl
base_led V74 other h e = absurd (false_true h)
base_led V83 k.Variable h e = refl
base_led V83 k.Text h e = refl
base_led V83 k.Constant h e = refl
base_led V83 k.ClassConstant h e = refl
base_led V83 k.Array h e = absurd (false_true (sym e))
base_led V83 k.Paren h e = refl
base_led V83 k.Offset h e = refl
base_led V83 k.BraceOffset h e = refl
base_led V83 k.Prop h e = refl
base_led V83 k.StaticProp h e = refl
base_led V83 k.Call h e = refl
base_led V83 k.MethodCall h e = refl
base_led V83 k.StaticCall h e = refl
base_led V83 other h e = absurd (false_true h)

base_left : (v : Version) (p : Place) (i : NodeKind) (b : Forest) → base_places p ≡ true → may_stand v p (i, b) ≡ true → is_offset_base i ≡ true
base_left v OffsetBase i b l h = h
base_left v MemberBase i b l h = member_offset (role_of i) h
base_left v ClassBase i b l h = class_offset (role_of i) h
base_left v Callee i b l h = callee_offset (role_of i) h
base_left v Statement i b l h = absurd (false_true l)
base_left v Member i b l h = absurd (false_true l)
base_left v (Operand n) i b l h = absurd (false_true l)
base_left v (Left n) i b l h = absurd (false_true l)
base_left v LeftShort i b l h = absurd (false_true l)
base_left v Target i b l h = absurd (false_true l)
base_left v TargetOrList i b l h = absurd (false_true l)
base_left v ClassName i b l h = absurd (false_true l)
base_left v Embedded i b l h = absurd (false_true l)

pub bases_lead : (v : Version) → Leading v is_offset_base goes_on
bases_lead v = record { L = base_places; lefts = base_left v; led_ = base_led v }
