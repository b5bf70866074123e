-- What rewritten trees have of the source's: forms, numbers of declarations, sites and tables.
use Rattle.std.proofs.Common.{
  ◌≡◌,
  ℕ,
  ◌+◌,
  suc,
  Bool,
  true,
  false,
  ◌&&◌,
  ◌||◌,
  cond,
  IsTrue,
  List,
  [],
  ◌∷◌,
  ◌++◌,
  codes,
  Option,
  None,
  refl,
  ap,
  sym,
  ◌∙◌,
  subst,
  arith,
  append-nil,
  append_assoc,
  zero-add,
}
use Rattle.std.proofs.lemmas.Bool.{true≢false}
use Rattle.php_tree.specs.declared.token.TokenKind.{TokenKind}
use Rattle.php_tree.specs.declared.token.TokenKind.TheVariants as token
use Rattle.php_tree.specs.declared.token.Token.{Token}
use Rattle.php_tree.specs.declared.kind.NodeKind.{NodeKind}
use Rattle.php_tree.specs.declared.kind.NodeKind.TheVariants as kind
use Rattle.php_tree.specs.Tree.{Forest, none, leaf, node}
use Rattle.php_meaning.specs.runs.World.{Bytes}
use Rattle.scope_names.specs.Slot.{Declared}
use Rattle.scope_names.specs.Form.{Form, Word, Child, Part, word, child, part_of, part_before, parts, bits, form, joins, is_name_part, is_namespace, first_is, is_backslash}
use Rattle.scope_names.specs.Sites.{Site, file_site, is_declaration, declarations, one_if, declared_here, within, within_form, beside, names_beside}
use Rattle.php_meaning.specs.runs.Kinds.{is_expression}
use Rattle.php_meaning.specs.names.Refused.{kid_forms, kid_form, kid_before, is_type, is_parameter, type_bits, Around, no_loops, refuses, inside, judged, refused}
use Rattle.php_meaning.specs.names.Tables.{
  Tables,
  tables_of,
  listed,
  is_told,
  entry,
  holder,
  keeps_top,
  refused_file,
  file_entry,
  written_of,
  first_written,
  defined_by,
  defines,
  defining,
}
use Rattle.php_meaning.proofs.Parens.{same_before, no_type, Plain, expression_plain, defined_by_same, without_end, joined_same}
use Rattle.syntax_rules.specs.Keeps.{token_of}
use Rattle.syntax_rules.proofs.Rewrites.{
  IsToken,
  Rewrites,
  ends,
  same_token,
  inner,
  changed,
  parens,
  Changed,
  brackets,
  float,
  null,
  curled,
  Curled,
  closing,
  piece,
  escaped,
  simple,
  code,
  name,
  offset,
  expression,
}

-- ---- forms

pub parts_same : {f g : Forest} → Rewrites f g → parts g ≡ parts f
parts_same ends = refl
parts_same (same_token {t} {u} {f} {g} i r) = same_before t u (parts g) i.kind_is i.text_is ∙ ap (part_before t) (parts_same r)
parts_same (inner p q) = ap (λ ps. child ∷ ps) (parts_same q)
parts_same (changed p q) = ap (λ ps. child ∷ ps) (parts_same q)
parts_same (parens e p q) = ap (λ ps. child ∷ ps) (parts_same q)

pub forms_same : {f g : Forest} → Rewrites f g → form g ≡ form f
forms_same r = ap bits (parts_same r)

-- ---- expressions

-- what a rule changes is an expression, and becomes one
pub old_expression : {k j : NodeKind} {c d : Forest} → Changed k c j d → IsTrue (is_expression k)
old_expression (brackets p q) = refl
old_expression (float e d p) = refl
old_expression (null e d) = refl
old_expression (curled e p) = refl

pub new_expression : {k j : NodeKind} {c d : Forest} → Changed k c j d → IsTrue (is_expression j)
new_expression (brackets p q) = refl
new_expression (float e d p) = refl
new_expression (null e d) = refl
new_expression (curled e p) = refl

-- ---- declarations

-- a node and what follows it, the node by itself or in one of its own
with_rest : (a b x y : ℕ) → b + 0 ≡ a + 0 → y ≡ x → b + y ≡ a + x
with_rest a b x y e d = omega (arith, e, d)

held_rest : (a b x y : ℕ) → b + 0 ≡ a + 0 → y ≡ x → (0 + (b + 0)) + y ≡ a + x
held_rest a b x y e d = omega (arith, e, d)

held_last : (a b x y : ℕ) → b + 0 ≡ a + 0 → y ≡ x → (b + 0) + y ≡ a + x
held_last a b x y e d = omega (arith, e, d)

put_rest : (x y : ℕ) → y ≡ x → 0 + y ≡ x
put_rest x y d = omega (arith, d)

mutual
  pub declarations_same : {f g : Forest} → Rewrites f g → declarations g ≡ declarations f
  declarations_same ends = refl
  declarations_same (same_token i r) = declarations_same r
  declarations_same (inner {k} {c} {d} {f} {g} p q) =
      ap (λ n. one_if (is_declaration k) n + declarations g) (declarations_same p)
      ∙ ap (λ n. one_if (is_declaration k) (declarations c) + n) (declarations_same q)
  declarations_same (changed {k} {j} {c} {d} {f} {g} p q) =
      ap (λ n. n + declarations g) (changed_declares p) ∙ ap (λ n. one_if (is_declaration k) (declarations c) + n) (declarations_same q)
  declarations_same (parens {k} {j} {c} {d} {f} {g} e p q) =
      let a : one_if (is_declaration j) (declarations d) + 0 ≡ one_if (is_declaration k) (declarations c) + 0 = declarations_same p in
      let b : declarations g ≡ declarations f = declarations_same q in
      omega (arith, a, b)

  pub changed_declares : {k j : NodeKind} {c d : Forest} → Changed k c j d
      → one_if (is_declaration j) (declarations d) ≡ one_if (is_declaration k) (declarations c)
  changed_declares (brackets {k} {j} {l} {i} {c} {d} {e} {b} p q) =
      let x : one_if (is_declaration l) (declarations e) + 0 ≡ one_if (is_declaration k) (declarations c) + 0 = declarations_same p in
      let y : one_if (is_declaration i) (declarations b) + 0 ≡ one_if (is_declaration j) (declarations d) + 0 = declarations_same q in
      omega (arith, x, y)
  changed_declares (float e d p) = declarations_same p
  changed_declares (null e d) = refl
  changed_declares (curled e p) = curled_declares p

  pub curled_declares : {f g : Forest} → Curled f g → declarations g ≡ declarations f
  curled_declares (closing i) = refl
  curled_declares (piece i p) = curled_declares p
  curled_declares (escaped b h i p) = curled_declares p
  curled_declares (simple {k} {j} {c} {d} {f} {g} r p) =
      with_rest (one_if (is_declaration k) (declarations c)) (one_if (is_declaration j) (declarations d)) (declarations f) (declarations g)
      (declarations_same r) (curled_declares p)
  curled_declares (code {k = k} {j = j} {c = c} {d = d} {f = f} {g = g} i l r p) =
      with_rest (one_if (is_declaration k) (declarations c)) (one_if (is_declaration j) (declarations d)) (declarations f) (declarations g)
      (declarations_same r) (curled_declares p)
  curled_declares (name {f = f} {g = g} e x j p) = put_rest (declarations f) (declarations g) (curled_declares p)
  curled_declares (offset {k = k} {j = j} {c = c} {d = d} {f = f} {g = g} e x i z r p) =
      held_rest (one_if (is_declaration k) (declarations c)) (one_if (is_declaration j) (declarations d)) (declarations f) (declarations g)
      (declarations_same r) (curled_declares p)
  curled_declares (expression {k = k} {j = j} {c = c} {d = d} {f = f} {g = g} e i z r p) =
      held_last (one_if (is_declaration k) (declarations c)) (one_if (is_declaration j) (declarations d)) (declarations f) (declarations g)
      (declarations_same r) (curled_declares p)

-- ---- sites

pub within_same : (k : NodeKind) (s : Site) {c d : Forest} → Rewrites c d → within k d s ≡ within k c s
within_same k s p = ap (λ f. within_form k f s) (forms_same p)

pub beside_same : (k : NodeKind) (s : Site) {c d : Forest} → Rewrites c d → beside k d s ≡ beside k c s
beside_same k s {c} {d} p =
    ap (λ f. record (names_beside k f s) { number = one_if (is_declaration k) (declarations d) + s.number }) (forms_same p)
    ∙ ap (λ n. record (names_beside k (form c) s) { number = one_if (is_declaration k) n + s.number }) (declarations_same p)

-- expressions lead to the same names behind them
pub plain_beside : (k j : NodeKind) (c d : Forest) (s : Site) → IsTrue (is_expression k) → IsTrue (is_expression j)
    → one_if (is_declaration j) (declarations d) ≡ one_if (is_declaration k) (declarations c)
    → beside j d s ≡ beside k c s
plain_beside k j c d s x y e =
    ap (λ (r : Site). record r { number = one_if (is_declaration j) (declarations d) + s.number }) ((expression_plain j y).beside (form d) s)
    ∙ ap (λ n. record s { number = n + s.number }) e
    ∙ ap (λ (r : Site). record r { number = one_if (is_declaration k) (declarations c) + s.number }) (sym ((expression_plain k x).beside (form c) s))

-- a node and what it became lead to the same site
pub node_beside : {k j : NodeKind} {c d : Forest} → Rewrites (node k c none) (node j d none) → (s : Site) → beside j d s ≡ beside k c s
node_beside (inner {k} p ends) s = beside_same k s p
node_beside (changed {k} {j} {c} {d} p ends) s = plain_beside k j c d s (old_expression p) (new_expression p) (changed_declares p)
node_beside (parens {k} {j} {c} {d} {o = o} {p = p} e q ends) s =
    let a : one_if (is_declaration j) (declarations d) + 0 ≡ one_if (is_declaration k) (declarations c) + 0 = declarations_same q in
    plain_beside k kind.Paren c (leaf o (node j d (leaf p none))) s e refl (omega (arith, a))

-- behind a variable stands what stood before it
pub beside_variable : (s : Site) → record s { number = 0 + s.number } ≡ s
beside_variable s = ap (λ n. record s { number = n }) (zero-add s.number)

-- ---- tables

type_bits_same : {f g : Forest} → Rewrites f g → type_bits g ≡ type_bits f
type_bits_same ends = refl
type_bits_same (same_token i r) = type_bits_same r
type_bits_same (inner {k} {c} {d} {f} {g} p q) =
    ap (λ x. cond (is_type k) x (type_bits g)) (forms_same p) ∙ ap (λ x. cond (is_type k) (form c) x) (type_bits_same q)
type_bits_same (changed {k} {j} {c} {d} {f} {g} p q) =
    ap (λ b. cond b (form d) (type_bits g)) (no_type j (new_expression p)) ∙ type_bits_same q
    ∙ ap (λ b. cond b (form c) (type_bits f)) (sym (no_type k (old_expression p)))
type_bits_same (parens {k} {j} {c} {d} {f} {g} e p q) =
    type_bits_same q ∙ ap (λ b. cond b (form c) (type_bits f)) (sym (no_type k e))

kid_form_same : (k : NodeKind) {c d : Forest} → Rewrites c d → kid_form k d ≡ kid_form k c
kid_form_same k {c} {d} p =
    ap (λ x. cond (is_parameter k) (type_bits d) [] ++ x) (forms_same p)
    ∙ ap (λ x. cond (is_parameter k) x [] ++ form c) (type_bits_same p)

pub kid_forms_same : {f g : Forest} → Rewrites f g → kid_forms g ≡ kid_forms f
kid_forms_same ends = refl
kid_forms_same (same_token i r) = kid_forms_same r
kid_forms_same (inner {k} {c} {d} {f} {g} p q) =
    ap (λ x. kid_before (is_expression k) (k, x) (kid_forms g)) (kid_form_same k p)
    ∙ ap (λ ks. kid_before (is_expression k) (k, kid_form k c) ks) (kid_forms_same q)
kid_forms_same (changed {k} {j} {c} {d} {f} {g} p q) =
    ap (λ b. kid_before b (j, kid_form j d) (kid_forms g)) (new_expression p) ∙ kid_forms_same q
    ∙ ap (λ b. kid_before b (k, kid_form k c) (kid_forms f)) (sym (old_expression p))
kid_forms_same (parens {k} {j} {c} {d} {f} {g} e p q) =
    kid_forms_same q ∙ ap (λ b. kid_before b (k, kid_form k c) (kid_forms f)) (sym e)

-- what PHP refuses to compile, it refuses of the rewritten file too
refused_same : {f g : Forest} → Rewrites f g → (a : Around) → refused a g ≡ refused a f
refused_same ends a = refl
refused_same (same_token i r) a = refused_same r a
refused_same (inner {k} {c} {d} {f} {g} p q) a =
    ap (λ x. judged (is_expression k) (refuses a k x) (refused (inside a k x (kid_forms d)) d) || refused a g) (forms_same p)
    ∙ ap (λ x. judged (is_expression k) (refuses a k (form c)) (refused (inside a k (form c) x) d) || refused a g) (kid_forms_same p)
    ∙ ap (λ x. judged (is_expression k) (refuses a k (form c)) x || refused a g) (refused_same p (inside a k (form c) (kid_forms c)))
    ∙ ap (λ x. judged (is_expression k) (refuses a k (form c)) (refused (inside a k (form c) (kid_forms c)) c) || x) (refused_same q a)
refused_same (changed {k} {j} {c} {d} {f} {g} p q) a =
    ap (λ b. judged b (refuses a j (form d)) (refused (inside a j (form d) (kid_forms d)) d) || refused a g) (new_expression p)
    ∙ refused_same q a
    ∙ ap (λ b. judged b (refuses a k (form c)) (refused (inside a k (form c) (kid_forms c)) c) || refused a f) (sym (old_expression p))
refused_same (parens {k} {j} {c} {d} {f} {g} e p q) a =
    refused_same q a
    ∙ ap (λ b. judged b (refuses a k (form c)) (refused (inside a k (form c) (kid_forms c)) c) || refused a f) (sym e)

-- ---- constants by `define`

written_same : {f g : Forest} → Rewrites f g → first_written g ≡ first_written f
written_same ends = refl
written_same (same_token i r) = written_same r
written_same (inner {k} {c} {d} p q) =
    ap (λ x. written_of k x (first_written d)) (forms_same p) ∙ ap (λ ws. written_of k (form c) ws) (written_same p)
written_same (changed (brackets p q) r) = refl
written_same (changed (float e d p) r) = refl
written_same (changed (null e d) r) = refl
written_same (changed (curled e p) r) = refl
written_same (parens e p q) = written_same p

-- what a node defines
abbrev own : NodeKind → Forest → List Bytes
own k c = defined_by k (form c) (first_written c) ++ defines c

-- a node's own part and what follows it, the node by itself or in one of its own
alone : (a b x y : List Bytes) → b ++ [] ≡ a ++ [] → y ≡ x → b ++ y ≡ a ++ x
alone a b x y e h = joined_same (without_end e) h

held : (a b x y : List Bytes) → b ++ [] ≡ a ++ [] → y ≡ x → (b ++ []) ++ y ≡ a ++ x
held a b x y e h = joined_same (append-nil b ∙ without_end e) h

mutual
  defines_same : {f g : Forest} → Rewrites f g → defines g ≡ defines f
  defines_same ends = refl
  defines_same (same_token i r) = defines_same r
  defines_same (inner {k} {c} {d} p q) =
      joined_same (joined_same (defined_by_same k (form c) (form d) (first_written c) (first_written d) (forms_same p) (written_same p)) (defines_same p))
      (defines_same q)
  defines_same (changed p q) = joined_same (changed_defines p) (defines_same q)
  defines_same (parens {k} {j} {c} {d} {f} {g} e p q) = held (own k c) (own j d) (defines f) (defines g) (defines_same p) (defines_same q)

  changed_defines : {k j : NodeKind} {c d : Forest} → Changed k c j d → own j d ≡ own k c
  changed_defines (brackets {k} {j} {l} {i} {c} {d} {e} {b} p q) =
      alone (own k c) (own l e) (own j d ++ []) (own i b ++ []) (defines_same p) (defines_same q)
  changed_defines (float e d p) = defines_same p
  changed_defines (null e d) = refl
  changed_defines (curled e p) = curled_defines p

  curled_defines : {f g : Forest} → Curled f g → defines g ≡ defines f
  curled_defines (closing i) = refl
  curled_defines (piece i p) = curled_defines p
  curled_defines (escaped b h i p) = curled_defines p
  curled_defines (simple {k} {j} {c} {d} {f} {g} r p) = alone (own k c) (own j d) (defines f) (defines g) (defines_same r) (curled_defines p)
  curled_defines (code {k = k} {j = j} {c = c} {d = d} {f = f} {g = g} i l r p) =
      alone (own k c) (own j d) (defines f) (defines g) (defines_same r) (curled_defines p)
  curled_defines (name e x j p) = curled_defines p
  curled_defines (offset {k = k} {j = j} {c = c} {d = d} {f = f} {g = g} e x i z r p) =
      held (own k c) (own j d) (defines f) (defines g) (defines_same r) (curled_defines p)
  curled_defines (expression {k = k} {j = j} {c = c} {d = d} {f = f} {g = g} e i z r p) =
      held (own k c) (own j d) (defines f) (defines g) (defines_same r) (curled_defines p)

entry_same : {f g : Forest} → Rewrites f g → (path : Bytes) → file_entry path g ≡ file_entry path f
entry_same {f} {g} p path =
    ap (λ b. entry b (refused_file path (declarations g)) (defining path (declarations g) (defines g) ∷ [])) (refused_same p no_loops)
    ∙ ap (λ n. entry (refused no_loops f) (refused_file path n) (defining path n (defines g) ∷ [])) (declarations_same p)
    ∙ ap (λ ns. entry (refused no_loops f) (refused_file path (declarations f)) (defining path (declarations f) ns ∷ [])) (defines_same p)

both_joined : {a b x y : Tables} → a ≡ b → x ≡ y → a ++ x ≡ b ++ y
both_joined {a} {b} {x} {y} e d = ap (λ z. z ++ x) e ∙ ap (λ z. b ++ z) d

-- a node's declarations, and those of what follows it
node_and_rest : (k : NodeKind) (c f : Forest) (s : Site) (of : Option Declared) (top : Bool)
    → listed s of top (node k c f) ≡ listed s of top (node k c none) ++ listed (beside k c s) of top f
node_and_rest k c f s of top =
    ap (λ x. x ++ listed (beside k c s) of top f)
    (sym (append-nil (entry (is_told k) (record { at = declared_here s; kind = k; site = s; form = form c; kids = kid_forms c; of = of; is_top = top })
    (listed (within k c s) (holder k s) (keeps_top k && top) c))))

-- an expression holds the same declarations wherever it stands
anywhere : (k : NodeKind) (c : Forest) (s : Site) (of : Option Declared) (top : Bool) → Plain k
    → listed s None false (node k c none) ≡ listed s of top (node k c none)
anywhere k c s of top h =
    subst (λ b. entry b (record { at = declared_here s; kind = k; site = s; form = form c; kids = kid_forms c; of = None; is_top = false })
    (listed (within k c s) (holder k s) (keeps_top k && false) c) ++ []
    ≡ entry b (record { at = declared_here s; kind = k; site = s; form = form c; kids = kid_forms c; of = of; is_top = top })
    (listed (within k c s) (holder k s) (keeps_top k && top) c) ++ []) (sym h.told)
    (subst (λ b. listed (within k c s) (holder k s) (b && false) c ++ [] ≡ listed (within k c s) (holder k s) (b && top) c ++ []) (sym h.top) refl)

pub changed_beside : {k j : NodeKind} {c d : Forest} → Changed k c j d → (s : Site) → beside j d s ≡ beside k c s
changed_beside {k} {j} {c} {d} p s = plain_beside k j c d s (old_expression p) (new_expression p) (changed_declares p)

inner_lists : (k : NodeKind) {c d : Forest} → Rewrites c d → (s : Site) (of : Option Declared) (top : Bool) (f g : Forest)
    → listed (within k c s) (holder k s) (keeps_top k && top) d ≡ listed (within k c s) (holder k s) (keeps_top k && top) c
    → listed (beside k c s) of top g ≡ listed (beside k c s) of top f → listed s of top (node k d g) ≡ listed s of top (node k c f)
inner_lists k {c} {d} p s of top f g i h =
    both_joined
    (ap (λ x. entry (is_told k) (record { at = declared_here s; kind = k; site = s; form = x; kids = kid_forms d; of = of; is_top = top })
    (listed (within k d s) (holder k s) (keeps_top k && top) d)) (forms_same p)
    ∙ ap (λ x. entry (is_told k) (record { at = declared_here s; kind = k; site = s; form = form c; kids = x; of = of; is_top = top })
    (listed (within k d s) (holder k s) (keeps_top k && top) d)) (kid_forms_same p)
    ∙ ap (λ x. entry (is_told k) (record { at = declared_here s; kind = k; site = s; form = form c; kids = kid_forms c; of = of; is_top = top })
    (listed x (holder k s) (keeps_top k && top) d)) (within_same k s p)
    ∙ ap (λ x. entry (is_told k) (record { at = declared_here s; kind = k; site = s; form = form c; kids = kid_forms c; of = of; is_top = top }) x) i)
    (ap (λ x. listed x of top g) (beside_same k s p) ∙ h)

parens_list : (k j : NodeKind) (c d : Forest) (o p : Token) → IsTrue (is_expression k) → (q : Rewrites (node k c none) (node j d none))
    → (s : Site) (of : Option Declared) (top : Bool) (f g : Forest)
    → listed s None false (node j d (leaf p none)) ≡ listed s None false (node k c none)
    → listed (beside k c s) of top g ≡ listed (beside k c s) of top f
    → listed s of top (node kind.Paren (leaf o (node j d (leaf p none))) g) ≡ listed s of top (node k c f)
parens_list k j c d o p e q s of top f g i h =
    both_joined (i ∙ anywhere k c s of top (expression_plain k e))
    (ap (λ x. listed x of top g) (node_beside (parens {o = o} {p = p} e q ends) s) ∙ h)
    ∙ sym (node_and_rest k c f s of top)

-- an expression that stands in a node of its own, before others
held_list : (k j : NodeKind) (c d f g : Forest) (q : Token) (u : Site) → (s : Site) → u ≡ beside k c s
    → listed s None false (node j d (leaf q none)) ≡ listed s None false (node k c none)
    → listed (beside k c s) None false g ≡ listed (beside k c s) None false f
    → listed s None false (node j d (leaf q none)) ++ listed u None false g ≡ listed s None false (node k c f)
held_list k j c d f g q u s e i h =
    both_joined i (ap (λ x. listed x None false g) e ∙ h) ∙ sym (node_and_rest k c f s None false)

changed_rest : {k j : NodeKind} {c d : Forest} → Changed k c j d → (s : Site) (of : Option Declared) (top : Bool) (f g : Forest)
    → listed (beside k c s) of top g ≡ listed (beside k c s) of top f → listed (beside j d s) of top g ≡ listed (beside k c s) of top f
changed_rest p s of top f g h = ap (λ x. listed x of top g) (changed_beside p s) ∙ h

pub offset_beside : {k j : NodeKind} {c d : Forest} (x o y : Token) → IsTrue (is_expression k) → Rewrites (node k c none) (node j d none) → (s : Site)
    → beside kind.Offset (node kind.Variable (leaf x none) (leaf o (node j d (leaf y none)))) s ≡ beside k c s
offset_beside {k} {j} {c} {d} x o y z r s =
    let a : one_if (is_declaration j) (declarations d) + 0 ≡ one_if (is_declaration k) (declarations c) + 0 = declarations_same r in
    plain_beside k kind.Offset c (node kind.Variable (leaf x none) (leaf o (node j d (leaf y none)))) s z refl (omega (arith, a))

pub expression_beside : {k j : NodeKind} {c d : Forest} (x o y : Token) → IsTrue (is_expression k) → Rewrites (node k c none) (node j d none) → (s : Site)
    → beside kind.Variable (leaf x (leaf o (node j d (leaf y none)))) s ≡ beside k c s
expression_beside {k} {j} {c} {d} x o y z r s =
    let a : one_if (is_declaration j) (declarations d) + 0 ≡ one_if (is_declaration k) (declarations c) + 0 = declarations_same r in
    plain_beside k kind.Variable c (leaf x (leaf o (node j d (leaf y none)))) s z refl (omega (arith, a))

mutual
  pub listed_same : {f g : Forest} → Rewrites f g → (s : Site) (of : Option Declared) (top : Bool) → listed s of top g ≡ listed s of top f
  listed_same ends s of top = refl
  listed_same (same_token i r) s of top = listed_same r s of top
  listed_same (inner {k} {c} {d} {f} {g} p q) s of top =
      inner_lists k p s of top f g (listed_same p (within k c s) (holder k s) (keeps_top k && top)) (listed_same q (beside k c s) of top)
  listed_same (changed {k} {j} {c} {d} {f} {g} p q) s of top =
      parts_list p s of top f g (changed_rest p s of top f g (listed_same q (beside k c s) of top))
  listed_same (parens {k} {j} {c} {d} {f} {g} {o} {p} e q r) s of top =
      parens_list k j c d o p e q s of top f g (node_lists q s None false none (leaf p none) refl) (listed_same r (beside k c s) of top)

  -- a node and what it became, before others that list alike
  node_lists : {k j : NodeKind} {c d : Forest} → Rewrites (node k c none) (node j d none) → (s : Site) (of : Option Declared) (top : Bool) (f g : Forest)
      → listed (beside k c s) of top g ≡ listed (beside k c s) of top f → listed s of top (node j d g) ≡ listed s of top (node k c f)
  node_lists (inner {k} {c} {d} p ends) s of top f g h =
      inner_lists k p s of top f g (listed_same p (within k c s) (holder k s) (keeps_top k && top)) h
  node_lists (changed p ends) s of top f g h = parts_list p s of top f g (changed_rest p s of top f g h)
  node_lists (parens {k} {j} {c} {d} {o = o} {p = p} e q ends) s of top f g h =
      parens_list k j c d o p e q s of top f g (node_lists q s None false none (leaf p none) refl) h

  parts_list : {k j : NodeKind} {c d : Forest} → Changed k c j d → (s : Site) (of : Option Declared) (top : Bool) (f g : Forest)
      → listed (beside j d s) of top g ≡ listed (beside k c s) of top f → listed s of top (node j d g) ≡ listed s of top (node k c f)
  parts_list (brackets {k} {j} {l} {i} {c} {d} {e} {b} {o} {p = m} {q} {r} p n) s of top f g h =
      both_joined (node_lists p s None false (leaf o (node j d (leaf m none))) (leaf q (node i b (leaf r none)))
      (node_lists n (beside k c s) None false (leaf m none) (leaf r none) refl)) h
  parts_list (float e x p) s of top f g h = both_joined (node_lists p s None false none none refl) h
  parts_list (null e x) s of top f g h = h
  parts_list (curled e p) s of top f g h = both_joined (curled_lists p s) h

  curled_lists : {f g : Forest} → Curled f g → (s : Site) → listed s None false g ≡ listed s None false f
  curled_lists (closing i) s = refl
  curled_lists (piece i p) s = curled_lists p s
  curled_lists (escaped b h i p) s = curled_lists p s
  curled_lists (simple {k} {j} {c} {d} {f} {g} r p) s = node_lists r s None false f g (curled_lists p (beside k c s))
  curled_lists (code {k = k} {c = c} {f = f} {g = g} {v = v} i l r p) s = node_lists r s None false f (leaf v g) (curled_lists p (beside k c s))
  curled_lists (name {g = g} e x j p) s = ap (λ z. listed z None false g) (beside_variable s) ∙ curled_lists p s
  curled_lists (offset {k = k} {j = j} {c = c} {d = d} {f = f} {g = g} {x = x} {o = o} {q = q} e n i z r p) s =
      ap (λ u. listed u None false (node j d (leaf q none)) ++ listed
      (beside kind.Offset (node kind.Variable (leaf x none) (leaf o (node j d (leaf q none)))) s) None false g)
      (beside_variable s)
      ∙ held_list k j c d f g q (beside kind.Offset (node kind.Variable (leaf x none) (leaf o (node j d (leaf q none)))) s) s (offset_beside x o q z r s)
      (node_lists r s None false none (leaf q none) refl) (curled_lists p (beside k c s))
  curled_lists (expression {k = k} {j = j} {c = c} {d = d} {f = f} {g = g} {a = x} {b = o} {q = q} e i z r p) s =
      held_list k j c d f g q (beside kind.Variable (leaf x (leaf o (node j d (leaf q none)))) s) s (expression_beside x o q z r s)
      (node_lists r s None false none (leaf q none) refl) (curled_lists p (beside k c s))

-- a file's declarations by its path
pub data AreRewrites : List (Bytes × Forest) → List (Bytes × Forest) → Type 0 where
  no_file : AreRewrites [] []
  one_file :
      {path : Bytes} {f g : Forest} {fs gs : List (Bytes × Forest)} → Rewrites f g → AreRewrites fs gs →
      AreRewrites ((path, f) ∷ fs) ((path, g) ∷ gs)

pub tables_same : {fs gs : List (Bytes × Forest)} → AreRewrites fs gs → tables_of gs ≡ tables_of fs
tables_same no_file = refl
tables_same (one_file {path} r rs) =
    both_joined (listed_same r (file_site path) None true) (both_joined (entry_same r path) (tables_same rs))
