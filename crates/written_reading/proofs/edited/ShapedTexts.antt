-- In a file of the grammar no operator stands leftmost behind `{$` in a quoted text: a variable does.
use Rattle.std.proofs.Common.{◌≡◌, ℕ, ◌+◌, ◌-◌, Bool, true, false, not, cond, ◌&&◌, ◌||◌, nat_eq, refl, sym, ap, ◌∙◌, subst}
use Rattle.std.proofs.lemmas.Bool.{and_parts, and_from, or_right}
use Rattle.php_tree.specs.declared.kind.NodeKind.{NodeKind}
use Rattle.php_tree.specs.declared.kind.NodeKind.TheVariants as k
use Rattle.php_tree.specs.declared.token.Token.{Token}
use Rattle.php_tree.specs.declared.token.TokenKind.{TokenKind}
use Rattle.php_tree.specs.declared.token.TokenKind.TheVariants as token
use Rattle.php_tree.specs.declared.version.Version.TheVariants.{V74}
use Rattle.php_tree.specs.Tree.{File, Forest, none, leaf, node, ◌+++◌}
use Rattle.php_terminals.specs.declared.terminal.Terminal.TheVariants as t
use Rattle.php_terminals.specs.Classify.{terminal}
use Rattle.php_terminals.specs.Marks.{closes, opens}
use Rattle.php_grammar.specs.Accepts.{accepts}
use Rattle.php_grammar.specs.Bases.{is_variable, is_variable_expression}
use Rattle.php_shapes.specs.Atoms.{variable}
use Rattle.php_shapes.specs.Forms.{form}
use Rattle.php_shapes.specs.Places.{Embedded, begins_with_variable, is_postfixed, may_stand}
use Rattle.php_shapes.specs.Quoted.{interpolated, quoted, quoted_part}
use Rattle.php_shapes.specs.Notation.{Rule, many}
use Rattle.php_shapes.specs.Shapes.{
  Fits,
  IsNode,
  Shape,
  is_balanced,
  is_nothing,
  is_word,
  is_kind,
  is_place,
  is_inside,
  is_both,
  is_first,
  is_second,
  no_more,
  once_more,
  is_tokens,
  is_node,
}
use Rattle.php_exprs.proofs.Forests.{forest_assoc}
use Rattle.php_shapes.proofs.Leftmost.{front_node, postfixed_forms}
use Rattle.syntax_rules.specs.Together.{is_quoted}
use Rattle.rewritten_shapes.specs.paired.Tokens.{opens_text}
use Rattle.rewritten_shapes.proofs.paired.Marks as told
use Rattle.rewritten_shapes.proofs.paired.Quotable.{form_names_no_text, names_no_text}
use Rattle.written_reading.proofs.edited.PlainTexts.{PlainTexts, begins_plainly, has_operands, has_plain_code, is_curly}

-- ---- the node behind `{$`

variable_begins : {c : Forest} → Fits V74 variable c → begins_plainly c ≡ true
variable_begins (is_first (is_word p)) = refl
variable_begins (is_second (is_both (is_word p) y e)) = ap begins_plainly e

variable_node : (j : NodeKind) (c : Forest) → is_variable j ≡ true → IsNode V74 j c → (not (has_operands j) && begins_plainly c) ≡ true
variable_node k.Variable c e (is_node x near fine) = variable_begins x
variable_node _ c e n = absurd cc

no_operands : (j : NodeKind) → is_postfixed j ≡ true → not (has_operands j) ≡ true
no_operands k.Binary e = absurd cc
no_operands k.Ternary e = absurd cc
no_operands k.ShortTernary e = absurd cc
no_operands _ e = refl

the_shape : (j : NodeKind) (c : Forest) → IsNode V74 j c → Fits V74 (form V74 j) c
the_shape j c (is_node x near fine) = x

-- no operator stands leftmost in a node that begins with a variable
led_plainly : (c : Forest) (j : NodeKind) (a : Bool) → is_variable j ≡ a → (a || is_postfixed j && begins_with_variable c) ≡ true
    → IsNode V74 j c → (not (has_operands j) && begins_plainly c) ≡ true
led_plainly c j true e w n = variable_node j c e n
led_plainly none j false e w n = let p = and_parts (is_postfixed j) false w in absurd (let z : false ≡ true = p.1 in cc)
led_plainly (leaf x f) j false e w n = let p = and_parts (is_postfixed j) false w in absurd (let z : false ≡ true = p.1 in cc)
led_plainly (node i b f) j false e w n =
    let p = and_parts (is_postfixed j) (begins_with_variable (node i b f)) w in
    and_from (not (has_operands j)) (not (has_operands i) && begins_plainly b) (no_operands j p.0)
    (led_plainly b i (is_variable i) refl p.1 (front_node V74 (the_shape j (node i b f) n) (postfixed_forms V74 j p.0) i b f refl))

-- ---- quoted texts

-- parts of a quoted text that others may follow
abbrev Leads : Forest → Type 0
Leads f = (h : Forest) → has_plain_code h ≡ true → has_plain_code (f +++ h) ≡ true

free_step : (t : Token) (h : Forest) → is_curly t.kind ≡ false → has_plain_code h ≡ true → has_plain_code (leaf t h) ≡ true
free_step t h e p = subst (λ (b : Bool). ((not b || begins_plainly h) && has_plain_code h) ≡ true) (sym e) p

curly_step : (t : Token) (h : Forest) → begins_plainly h ≡ true → has_plain_code h ≡ true → has_plain_code (leaf t h) ≡ true
curly_step t h e p = and_from (not (is_curly t.kind) || begins_plainly h) (has_plain_code h) (or_right (not (is_curly t.kind)) (begins_plainly h) e) p

curly_leads : (f : Forest) (x : Token) (j : NodeKind) (c : Forest) (y : Token) → f ≡ leaf x (node j c (leaf y none))
    → may_stand V74 Embedded (j, c) ≡ true → IsNode V74 j c → is_curly y.kind ≡ false → Leads f
curly_leads f x j c y e m n q h r =
    let w = and_parts (is_variable_expression j) (begins_with_variable (node j c none)) m in
    ap (λ (g : Forest). has_plain_code (g +++ h)) e
    ∙ curly_step x (node j c (leaf y h)) (led_plainly c j (is_variable j) refl w.1 n) (free_step y h q r)

closing : (y : Token) → accepts V74 t.CloseBrace y ≡ true → is_curly y.kind ≡ false
closing y q = ap is_curly (told.close_brace y q).kind

named_leads : (f : Forest) (x n y : Token) → f ≡ leaf x (leaf n (leaf y none)) → is_curly x.kind ≡ false → is_curly n.kind ≡ false
    → is_curly y.kind ≡ false → Leads f
named_leads f x n y e p m q h r =
    ap (λ (g : Forest). has_plain_code (g +++ h)) e ∙ free_step x (leaf n (leaf y h)) p (free_step n (leaf y h) m (free_step y h q r))

offset_leads : (f : Forest) (x n o : Token) (j : NodeKind) (c : Forest) (s y : Token)
    → f ≡ leaf x (leaf n (leaf o (node j c (leaf s (leaf y none))))) → is_curly x.kind ≡ false → is_curly n.kind ≡ false
    → is_curly o.kind ≡ false → is_curly s.kind ≡ false → is_curly y.kind ≡ false → Leads f
offset_leads f x n o j c s y e p m a b q h r =
    ap (λ (g : Forest). has_plain_code (g +++ h)) e
    ∙ free_step x (leaf n (leaf o (node j c (leaf s (leaf y h))))) p
    (free_step n (leaf o (node j c (leaf s (leaf y h)))) m
    (free_step o (node j c (leaf s (leaf y h))) a (free_step s (leaf y h) b (free_step y h q r))))

node_leads : (f : Forest) (x : Token) (j : NodeKind) (c : Forest) (y : Token) → f ≡ leaf x (node j c (leaf y none)) → is_curly x.kind ≡ false
    → is_curly y.kind ≡ false → Leads f
node_leads f x j c y e p q h r =
    ap (λ (g : Forest). has_plain_code (g +++ h)) e ∙ free_step x (node j c (leaf y h)) p (free_step y h q r)

simple_leads : {f : Forest} → Fits V74 interpolated f → Leads f
simple_leads (is_first (is_inside x near)) h r = r
simple_leads (is_second (is_first (is_inside x near))) h r = r
simple_leads (is_second (is_second (is_inside x near))) h r = r

part_leads : {f : Forest} → Fits V74 quoted_part f → Leads f
part_leads (is_first (is_word {x} p)) h r = free_step x h (ap is_curly (told.piece x p)) r
part_leads (is_second (is_first v)) h r = simple_leads v h r
part_leads (is_second (is_second (is_first (is_both {f} (is_word {x} p) (is_both (is_place {k = j} {c} m n) (is_word {x = y} q) e) d)))) h r =
    curly_leads f x j c y (d ∙ ap (leaf x) e) m n (closing y q) h r
part_leads (is_second (is_second (is_second (is_first (is_both {f} (is_word {x} p)
    (is_both (is_word {x = n} m) (is_both {h = i} (is_first is_nothing) (is_word {x = y} q) a) b) d))))) h r =
    named_leads f x n y (d ∙ ap (leaf x) b ∙ ap (λ (g : Forest). leaf x (leaf n g)) a) (ap is_curly (told.dollar x p)) (ap is_curly (told.var_name n m)) (closing y q) h r
part_leads (is_second (is_second (is_second (is_first (is_both {f} (is_word {x} p)
    (is_both (is_word {x = n} m) (is_both {h = i} (is_second
    (is_both (is_word {x = o} u) (is_both (is_place {k = j} {c} v w) (is_word {x = s} z) ea) eb)) (is_word {x = y} q)
    a) b) d))))) h r =
    offset_leads f x n o j c s y
    (d ∙ ap (leaf x) b ∙ ap (λ (g : Forest). leaf x (leaf n g)) a
    ∙ ap (λ (g : Forest). leaf x (leaf n (g +++ leaf y none))) eb
    ∙ ap (λ (g : Forest). leaf x (leaf n (leaf o (g +++ leaf y none)))) ea)
    (ap is_curly (told.dollar x p)) (ap is_curly (told.var_name n m)) (ap is_curly (told.open_bracket o u).kind)
    (ap is_curly (told.close_bracket s z).kind) (closing y q) h r
part_leads (is_second (is_second (is_second (is_second (is_both {f} (is_word {x} p) (is_both (is_place {k = j} {c} m n) (is_word {x = y} q) e) d))))) h r =
    node_leads f x j c y (d ∙ ap (leaf x) e) (ap is_curly (told.dollar x p)) (closing y q) h r

pieces_lead : {f : Forest} → Fits V74 (many quoted_part) f → Leads f
pieces_lead no_more h r = r
pieces_lead (once_more {f} {g} {h = i} p q e) h r =
    ap (λ (j : Forest). has_plain_code (j +++ h)) e
    ∙ ap has_plain_code (forest_assoc g i h)
    ∙ part_leads p (i +++ h) (pieces_lead q h r)

opening : (sort : TokenKind) → opens_text sort ≡ true → is_curly sort ≡ false
opening token.CurlyOpen e = absurd cc
opening _ e = refl

text_is_plain : {c : Forest} → Fits V74 quoted c → has_plain_code c ≡ true
text_is_plain (is_both {f = c} (is_word {x} p) (is_both {g} q (is_word {x = y} r) e) d) =
    ap has_plain_code (d ∙ ap (leaf x) e)
    ∙ free_step x (g +++ leaf y none) (opening x.kind (told.text_start x p))
    (pieces_lead q (leaf y none) (free_step y none (ap is_curly (told.text_end y r)) refl))

quoted_kind : (j : NodeKind) {c : Forest} → is_quoted j ≡ true → Fits V74 (form V74 j) c → has_plain_code c ≡ true
quoted_kind k.Quoted h p = text_is_plain p
quoted_kind j h p = absurd cc

-- ---- trees

plain_join : (f g : Forest) → PlainTexts f → PlainTexts g → PlainTexts (f +++ g)
plain_join none g a b = b
plain_join (leaf t f) g a b = plain_join f g a b
plain_join (node j c f) g a b = (a.0, a.1, plain_join f g a.2 b)

-- what stands behind a token of balanced ones is balanced
behind_token : (P : Type 0) (a b x y z w : Bool) → (x ≡ true → P) → (z ≡ true → P) → (w ≡ true → P) → cond a x (cond b (y && z) w) ≡ true → P
behind_token P true b x y z w f g h i = f i
behind_token P false true x y z w f g h i = g (and_parts y z i).1
behind_token P false false x y z w f g h i = h i

balanced_plain : (n : ℕ) (f : Forest) → is_balanced n f ≡ true → PlainTexts f
balanced_plain n none h = tt
balanced_plain n (leaf x f) h =
    behind_token (PlainTexts f) (opens (terminal x)) (closes (terminal x)) (is_balanced (n + 1) f) (not (nat_eq n 0)) (is_balanced (n - 1) f) (is_balanced n f)
    (λ i. balanced_plain (n + 1) f i) (λ i. balanced_plain (n - 1) f i) (λ i. balanced_plain n f i) h
balanced_plain n (node j b f) h = absurd cc

no_text : (a b : Bool) → (not a && b) ≡ true → a ≡ true → ⊥
no_text true b h g = cc
no_text false b h g = cc

mutual
  parts_plain : {r : Rule} {f : Forest} → names_no_text r ≡ true → Fits V74 r f → PlainTexts f
  parts_plain h is_nothing = tt
  parts_plain h (is_word a) = tt
  parts_plain h (is_kind n) = node_plain n
  parts_plain h (is_place a n) = node_plain n
  parts_plain h (is_inside {k = j} {r} {c} p n) =
      (λ g. absurd (no_text (is_quoted j) (names_no_text r) h g), parts_plain (and_parts (not (is_quoted j)) (names_no_text r) h).1 p, tt)
  parts_plain h (is_both {r} {s} {f} {g} {h = i} p q e) =
      let w = and_parts (names_no_text r) (names_no_text s) h in
      subst PlainTexts (sym e) (plain_join g i (parts_plain w.0 p) (parts_plain w.1 q))
  parts_plain h (is_first {r} {s} p) = parts_plain (and_parts (names_no_text r) (names_no_text s) h).0 p
  parts_plain h (is_second {r} {s} p) = parts_plain (and_parts (names_no_text r) (names_no_text s) h).1 p
  parts_plain h no_more = tt
  parts_plain h (once_more {r} {f} {g} {h = i} p q e) = subst PlainTexts (sym e) (plain_join g i (parts_plain h p) (parts_plain h q))
  parts_plain h (is_tokens {f} b) = balanced_plain 0 f b

  node_plain : {j : NodeKind} {c : Forest} → IsNode V74 j c → PlainTexts (node j c none)
  node_plain (is_node {k = j} {c} p n m) = (λ h. quoted_kind j h p, parts_plain (form_names_no_text j) p, tt)

pub shaped_texts : (f : File) → Shape V74 f → PlainTexts f.statements
shaped_texts f s = parts_plain refl s.shaped
