-- Groups of the tables whose choice shows what follows them.
use Rattle.std.proofs.Common.{
  ◌≡◌,
  ℕ,
  suc,
  ◌+◌,
  ◌-◌,
  Bool,
  true,
  false,
  not,
  cond,
  ◌&&◌,
  ◌||◌,
  nat_eq,
  List,
  [],
  ◌∷◌,
  ◌++◌,
  length,
  Option,
  Some,
  None,
  refl,
  sym,
  ap,
  ◌∙◌,
  subst,
  append_assoc,
  arith,
}
use Rattle.php_tree.specs.declared.kind.NodeKind.{NodeKind}
use Rattle.php_tree.specs.declared.kind.NodeKind.TheVariants as k
use Rattle.php_tree.specs.declared.token.Token.{Token}
use Rattle.php_tree.specs.declared.version.Version.{Version}
use Rattle.php_tree.specs.declared.version.Version.TheVariants.{V74, V83}
use Rattle.php_tree.specs.Tree.{Forest, none, leaf, node, ◌+++◌, leaves}
use Rattle.php_terminals.specs.declared.terminal.Terminal.{Terminal}
use Rattle.php_terminals.specs.declared.terminal.Terminal.TheVariants as t
use Rattle.php_terminals.specs.Ahead.{behind_name, first_of, second_of, spanned}
use Rattle.php_terminals.specs.Classify.{terminal}
use Rattle.php_terminals.specs.Marks.{closes, is_double_colon, is_name_part, opens}
use Rattle.php_grammar.specs.Accepts.{same_class}
use Rattle.php_grammar.specs.Operands as fo
use Rattle.php_forms.specs.declared.item.Item.{Item}
use Rattle.php_forms.specs.Grammar.{Form, IsFlat}
use Rattle.php_exprs.proofs.Forests.{leaves_append}
use Rattle.php_forms.specs.Atoms as fa
use Rattle.php_forms.specs.Declarations as fd
use Rattle.php_forms.specs.Heads as fh
use Rattle.php_forms.specs.Statements as fs
use Rattle.php_shapes.specs.Atoms as at
use Rattle.php_shapes.specs.Declarations as de
use Rattle.php_shapes.specs.Names as na
use Rattle.php_shapes.specs.Postfixes as po
use Rattle.php_shapes.specs.Nearest.{has_else, is_else, is_to}
use Rattle.php_shapes.specs.Notation.{Rule, nothing, word, kind, place, inside, ◌~◌, ◌|||◌, tokens, maybe, braces}
use Rattle.php_shapes.specs.Places.{Operand, ClassName}
use Rattle.php_shapes.specs.Shapes.{Fits, is_nothing, is_word, is_kind, is_place, is_inside, is_both, is_first, is_second, is_tokens, is_node, is_balanced}
use Rattle.php_shapes.proofs.Entries as sq
use Rattle.php_shapes.proofs.Entries.{Entry, Meet, Meets, else_rule, entries, flat, is_none, is_one_node, to_rule}
use Rattle.php_shapes.proofs.Sequences.{Gives, absent, none_behind, one, pack, present, second, unpack, whole}

-- ---- sequences

-- no part
pub bare : (v : Version) → Gives v [] nothing
bare v f rest m = subst (Fits v nothing) (sym m) is_nothing

-- the first rule of a sequence gives way to another
pub first_as : (v : Version) (r s u : Rule) (es : List Entry) → ((f : Forest) → Fits v r f → Fits v s f) → Gives v (flat s es) u → Gives v (flat r es) u
first_as v r s u es w p f rest m =
    let a = pack v r es f rest m in
    subst (Fits v u) (sym a.4) (p (a.0 +++ a.1) rest (unpack v s es a.0 a.1 rest (w a.0 a.2) a.3))

cond_gives : (v : Version) (b : Bool) (is js : List Item) (r : Rule) → Gives v (entries v is) r → Gives v (entries v js) r → Gives v (entries v (cond b is js)) r
cond_gives v true is js r p q = p
cond_gives v false is js r p q = q

-- the token that parts begin with
pub first_leaf : (f : Forest) (x : Token) (g : Forest) (rest : List Token) → f ≡ leaf x g → first_of (leaves f ++ rest) ≡ terminal x
first_leaf f x g rest e = ap (λ (y : Forest). first_of (leaves y ++ rest)) e

pub first_none : (f : Forest) (rest : List Token) → f ≡ none → first_of (leaves f ++ rest) ≡ first_of rest
first_none f rest e = ap (λ (y : Forest). first_of (leaves y ++ rest)) e

pub join : (h i : Forest) (rest : List Token) → leaves (h +++ i) ++ rest ≡ leaves h ++ (leaves i ++ rest)
join h i rest = ap (λ (m : List Token). m ++ rest) (leaves_append h i) ∙ append_assoc (leaves h) (leaves i) rest

pub first_join : (f h i : Forest) (rest : List Token) → f ≡ h +++ i → first_of (leaves f ++ rest) ≡ first_of (leaves h ++ (leaves i ++ rest))
first_join f h i rest e = ap (λ (y : Forest). first_of (leaves y ++ rest)) e ∙ ap first_of (join h i rest)

-- ---- the braces of a use of traits

brace_opens_none : (own : Terminal) → same_class t.CloseBrace own ≡ true → opens own ≡ false
brace_opens_none t.OpenParen e = absurd cc
brace_opens_none t.OpenBracket e = absurd cc
brace_opens_none t.OpenBrace e = absurd cc
brace_opens_none t.CurlyOpen e = absurd cc
brace_opens_none t.DollarBrace e = absurd cc
brace_opens_none t.AttributeOpen e = absurd cc
brace_opens_none _ e = refl

brace_closes : (own : Terminal) → same_class t.CloseBrace own ≡ true → closes own ≡ true
brace_closes t.CloseBrace e = refl
brace_closes _ e = absurd cc

at_end : (b : Bool) (m : ℕ) → cond b 0 (suc m) ≡ 0 → b ≡ true
at_end true m e = refl
at_end false m e = absurd (omega (arith, e))

closed_here : (n : ℕ) (y : Token) (zs : List Token) → opens (terminal y) ≡ false → closes (terminal y) ≡ true → spanned n (y ∷ zs) ≡ 0 → nat_eq n 0 ≡ true
closed_here n y zs p q e =
    at_end (nat_eq n 0) (spanned (n - 1) zs)
    (sym (rw (p, q) refl) ∙ e)

module _ (y : Token) (zs : List Token) (p : opens (terminal y) ≡ false) (q : closes (terminal y) ≡ true) where
  span_balanced : (h : Forest) (n : ℕ) → IsFlat h → spanned n (leaves h ++ (y ∷ zs)) ≡ length (leaves h) → is_balanced n h ≡ true
  span_balanced none n flat e = closed_here n y zs p q e
  span_balanced (node j b h) n flat e = absurd flat
  span_balanced (leaf x h) n flat e =
      go (opens (terminal x)) (closes (terminal x)) (nat_eq n 0) e
      (λ d. span_balanced h (n + 1) flat d) (λ d. span_balanced h (n - 1) flat d) (λ d. span_balanced h n flat d)
    where
      more : List Token
      more = leaves h ++ (y ∷ zs)

      go : (o c z : Bool) → cond o (suc (spanned (n + 1) (leaves h ++ (y ∷ zs))))
          (cond c (cond z 0 (suc (spanned (n - 1) (leaves h ++ (y ∷ zs))))) (suc (spanned n (leaves h ++ (y ∷ zs)))))
          ≡ suc (length (leaves h))
          → (spanned (n + 1) (leaves h ++ (y ∷ zs)) ≡ length (leaves h) → is_balanced (n + 1) h ≡ true)
          → (spanned (n - 1) (leaves h ++ (y ∷ zs)) ≡ length (leaves h) → is_balanced (n - 1) h ≡ true)
          → (spanned n (leaves h ++ (y ∷ zs)) ≡ length (leaves h) → is_balanced n h ≡ true)
          → cond o (is_balanced (n + 1) h) (cond c (not z && is_balanced (n - 1) h) (is_balanced n h)) ≡ true
      go true c z e f g i = f (omega (arith, e))
      go false true true e f g i = absurd (omega (arith, e))
      go false true false e f g i = g (omega (arith, e))
      go false false z e f g i = i (omega (arith, e))

brace_last : (v : Version) (h i : Forest) (rest : List Token) → Fits v (word t.CloseBrace) i → IsFlat h
    → spanned 0 (leaves h ++ (leaves i ++ rest)) ≡ length (leaves h) → is_balanced 0 h ≡ true
brace_last v h i rest (is_word {x} p) flat e =
    span_balanced x rest (brace_opens_none (terminal x) p) (brace_closes (terminal x) p) h 0 flat e

pub trait_rules_once : (v : Version) (x : Terminal) → Gives v (entries v (fd.trait_rules x)) (word t.Semi ||| braces tokens)
trait_rules_once v t.OpenBrace f rest m =
    let a = m.3 in
    let last = whole v (word t.CloseBrace) a.1 rest a.3 in
    is_second (is_both m.2 (is_both (is_tokens (brace_last v a.0 a.1 rest last a.2.0 a.2.1)) last a.4) m.4)
trait_rules_once v _ f rest m = is_first (whole v (word t.Semi) f rest m)

-- ---- static properties

is_variable_token : Terminal → Bool
is_variable_token t.Variable = true
is_variable_token _ = false

variable_is : (own : Terminal) → same_class t.Variable own ≡ true → is_variable_token own ≡ true
unfolding is_variable_token
variable_is t.Variable e = refl
variable_is _ e = absurd cc

both_ways : (b : Bool) → b ≡ true → b ≡ false → ⊥
both_ways true e d = absurd cc
both_ways false e d = absurd cc

dollar_part : (v : Version) (f : Forest) (rest : List Token) → is_variable_token (first_of (leaves f ++ rest)) ≡ false
    → Fits v (kind k.Variable) f → Fits v (inside k.Variable at.dollar_variable) f
dollar_part v f rest d (is_kind (is_node (is_first (is_word {x} e)) near fine)) = absurd (both_ways (is_variable_token (terminal x)) (variable_is (terminal x) e) d)
dollar_part v f rest d (is_kind (is_node (is_second p) near fine)) = is_inside p near

pub static_member_once : (v : Version) (x : Terminal) (f : Forest) (rest : List Token)
    → first_of (leaves f ++ rest) ≡ x → Meet v (entries v (fa.static_member x)) f rest → Fits v po.static_member f
unfolding is_variable_token
static_member_once v t.Variable f rest e m = one v (word t.Variable) (inside k.Variable at.dollar_variable) f rest m
static_member_once v x f rest e m = is_second (dollar_part v f rest (ap is_variable_token e) (whole v (kind k.Variable) f rest m))

-- ---- what `new` makes, and the class behind `instanceof`

abbrev pub class_rule : Version → Rule
class_rule v = na.name v ||| word t.Static ||| place ClassName

abbrev pub new_class : Version → Rule
new_class v = word t.Class ~ at.new_arguments ~ at.inheritance v ~ at.members

abbrev pub created_rule : Version → Rule
created_rule v = class_rule v ~ at.new_arguments ||| new_class v

by_class : (v : Version) (r : Rule) → ((f : Forest) → Fits v r f → Fits v (class_rule v) f) → Gives v (flat r (flat at.new_arguments [])) (created_rule v)
by_class v r w = first_as v r (class_rule v) (created_rule v) (flat at.new_arguments []) w (one v (class_rule v ~ at.new_arguments) (new_class v))

ref_gives : (v : Version) → Gives v (entries v fo.created_ref) (created_rule v)
ref_gives v = by_class v (place ClassName) (λ f p. is_second (is_second p))

created_by_once : (v : Version) (x : Terminal) (ts : List Token) → Gives v (entries v (fo.created_by x ts)) (created_rule v)
created_by_once v t.Class ts = second v (class_rule v ~ at.new_arguments) (new_class v)
created_by_once v t.Static ts = cond_gives v (is_double_colon (second_of ts)) _ _ (created_rule v) (ref_gives v) (by_class v (word t.Static) (λ f p. is_second (is_first p)))
created_by_once v _ ts = ref_gives v

pub created_once : (v : Version) (ts : List Token) → Gives v (entries v (fo.created ts)) (created_rule v)
created_once v ts =
    cond_gives v (is_name_part (first_of ts)) _ _ (created_rule v)
    (cond_gives v (is_double_colon (first_of (behind_name ts))) _ _ (created_rule v) (ref_gives v) (by_class v (na.name v) (λ f p. is_first p)))
    (created_by_once v (first_of ts) ts)

instance_gives : (v : Version) → Gives v (entries v fo.instance_expr) (class_rule v)
instance_gives v f rest m = is_second (is_second (whole v (place ClassName) f rest m))

instance_by_once : (v : Version) (x : Terminal) (ts : List Token) → Gives v (entries v (fo.instance_by x ts)) (class_rule v)
instance_by_once v t.Static ts = cond_gives v (is_double_colon (second_of ts)) _ _ (class_rule v) (instance_gives v)
    (λ f rest m. is_second (is_first (whole v (word t.Static) f rest m)))
instance_by_once v _ ts = instance_gives v

pub instance_ref_once : (v : Version) (ts : List Token) → Gives v (entries v (fo.instance_ref ts)) (class_rule v)
instance_ref_once v ts =
    cond_gives v (is_name_part (first_of ts)) _ _ (class_rule v)
    (cond_gives v (is_double_colon (first_of (behind_name ts))) _ _ (class_rule v) (instance_gives v) (one v (na.name v) (word t.Static ||| place ClassName)))
    (instance_by_once v (first_of ts) ts)

-- ---- the attribute of a class

attribute_83_once : (x : Terminal) → Gives V83 (entries V83 (fh.attribute_83 x)) (de.attribute V83)
attribute_83_once t.AttributeOpen = present V83 (word t.AttributeOpen ~ word t.AttributeName ~ word t.CloseBracket)
attribute_83_once _ = absent V83 (word t.AttributeOpen ~ word t.AttributeName ~ word t.CloseBracket)

pub attribute_once : (v : Version) (x : Terminal) → Gives v (entries v (fh.attribute v x)) (de.attribute v)
attribute_once V74 x = bare V74
attribute_once V83 x = attribute_83_once x

-- ---- `else`

else_is : (own : Terminal) → same_class t.Else own ≡ true → is_else own ≡ true
else_is t.Else e = refl
else_is _ e = absurd cc

has_first : (b c : Bool) → b ≡ true → (b || c) ≡ false → ⊥
has_first true c e d = absurd cc
has_first false c e d = absurd cc

begins_with_else : (v : Version) (h i : Forest) → Fits v (word t.Else) h → has_else (h +++ i) ≡ false → ⊥
begins_with_else v h i (is_word {x} p) e = has_first (is_else (terminal x)) (has_else i) (else_is (terminal x) p) e

pub else_part_once : (v : Version) (x : Terminal) (f : Forest) (rest : List Token) → first_of (leaves f ++ rest) ≡ x
    → Meet v (entries v (fs.else_part x)) f rest → Meets v sq.else_part f rest
else_part_once v t.Else f rest e m =
    let no : has_else f ≡ false → ⊥ = λ d. begins_with_else v m.0 m.1 m.2 (ap has_else (sym m.4) ∙ d) in
    (present v else_rule f rest m, λ d. absurd (no d), λ d. absurd (no d))
else_part_once v x f rest e m = (absent v else_rule f rest m, λ d. ap is_else e, λ d. ap is_none m)

-- ---- the value of a `yield`

word_is_some : (v : Version) (c : Terminal) (h i : Forest) → Fits v (word c) h → is_none (h +++ i) ≡ true → ⊥
word_is_some v c h i (is_word p) e = absurd cc

pub yield_to_once : (v : Version) (x : Terminal) (f : Forest) (rest : List Token) → first_of (leaves f ++ rest) ≡ x
    → Meet v (entries v (fa.yield_to x)) f rest → Meets v sq.yield_to f rest
yield_to_once v t.DoubleArrow f rest e m =
    (present v to_rule f rest m, λ d. absurd (word_is_some v t.DoubleArrow m.0 m.1 m.2 (ap is_none (sym m.4) ∙ d)))
yield_to_once v x f rest e m = (absent v to_rule f rest m, λ d. ap is_to (sym (first_none f rest m) ∙ e))

one_then_none : (v : Version) (h i : Forest) → Fits v (place (Operand 20)) h → is_one_node (h +++ i) ≡ true → is_none i ≡ true
one_then_none v h i q e = go h i q e
  where
    behind : (j : NodeKind) (b i : Forest) → is_one_node (node j b i) ≡ true → is_none i ≡ true
    behind j b none e = refl
    behind j b (leaf x i) e = absurd cc
    behind j b (node l a i) e = absurd cc

    go : (h i : Forest) → Fits v (place (Operand 20)) h → is_one_node (h +++ i) ≡ true → is_none i ≡ true
    go h i (is_place {k = j} {c = b} w n) e = behind j b i e

pub yield_value_once : (v : Version) (o : Option Form) (f : Forest) (rest : List Token) → Meet v (entries v (fo.yield_by o)) f rest → Meets v sq.yield_value f rest
yield_value_once v None f rest m = (absent v (place (Operand 20) ~ maybe to_rule) f rest m, λ d. absurd (not_one (ap is_one_node (sym m) ∙ d)))
  where
    not_one : false ≡ true → ⊥
    not_one e = absurd cc
yield_value_once v (Some form) f rest m =
    let a = m.3 in
    let same : m.1 ≡ a.0 = a.4 ∙ ap (λ (y : Forest). a.0 +++ y) a.3 ∙ none_behind a.0 in (
      is_second (is_both m.2 a.2.0 (m.4 ∙ ap (λ (y : Forest). m.0 +++ y) same)),
      λ d. ap is_to (sym (first_none a.1 rest a.3)) ∙ a.2.1 (ap is_none (sym same) ∙ one_then_none v m.0 m.1 m.2 (ap is_one_node (sym m.4) ∙ d)),
    )
