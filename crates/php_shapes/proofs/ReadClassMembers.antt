-- Members, and nodes that stand by their kinds, are read as they were.
use Rattle.std.proofs.Common.{◌≡◌, ℕ, suc, ◌+◌, ◌≤◌, Bool, true, false, not, ◌&&◌, List, [], ◌∷◌, ◌++◌, Option, Some, None, ◌⊎◌, inl, inr, refl, sym, ap, ◌∙◌, subst, arith}
use Rattle.std.specs.List.{prefix_len}
use Rattle.std.proofs.lemmas.Bool.{and_parts, not-true}
use Rattle.php_tree.specs.declared.kind.NodeKind.{NodeKind}
use Rattle.php_tree.specs.declared.kind.NodeKind.TheVariants as k
use Rattle.php_tree.specs.declared.token.Token.{Token}
use Rattle.php_tree.specs.declared.version.Version.{Version}
use Rattle.php_tree.specs.declared.version.Version.TheVariants.{V74, V83}
use Rattle.php_tree.specs.Tree.{Forest, none, leaf, ◌+++◌, leaves, count}
use Rattle.php_terminals.specs.declared.terminal.Terminal.{Terminal}
use Rattle.php_terminals.specs.declared.terminal.Terminal.TheVariants as t
use Rattle.php_terminals.specs.Classify.{is_modifier, terminal}
use Rattle.php_terminals.specs.Ahead.{first_of}
use Rattle.php_forms.specs.declared.item.Sort.{Sort}
use Rattle.php_forms.specs.declared.item.Sort.TheVariants as s
use Rattle.php_forms.specs.declared.item.Group.TheVariants as g
use Rattle.php_forms.specs.declared.item.Item.{Item}
use Rattle.php_forms.specs.declared.item.Item.TheVariants.{Word, Part, Repeats}
use Rattle.php_forms.specs.Forms.{any, or_else}
use Rattle.php_forms.specs.Grammar.{Form, Grows, head}
use Rattle.php_forms.specs.Heads.{is_some_modifier, behind_modifiers, case_form, member_form, modified_form, trait_use_form}
use Rattle.php_grammar.specs.Accepts.{accepts}
use Rattle.php_grammar.specs.Tables.{php}
use Rattle.php_exprs.proofs.Forests.{forest_assoc}
use Rattle.php_shapes.specs.Atoms.{by_ref, params, return_type}
use Rattle.php_shapes.specs.Declarations.{constant_of}
use Rattle.php_shapes.specs.Forms.{form}
use Rattle.php_shapes.specs.Notation.{Rule, word, kind, ◌~◌, ◌|||◌, many, maybe, commas, expr}
use Rattle.php_shapes.specs.Shapes.{Fits, is_both, no_more, once_more, IsNode}
use Rattle.php_shapes.specs.Statements.{declared_variable, statements}
use Rattle.php_shapes.proofs.ReadClasses.{accepted, for_all}
use Rattle.php_shapes.proofs.ReadFirst.{first, nullable, starts}
use Rattle.php_shapes.proofs.ReadEnds.{Below, closes_case, closes_item, closes_type, stops}
use Rattle.php_shapes.proofs.ReadMatch.{both_is, either_is, false_true, first_class, fits_alone, leaves_before, matched, matches, where_is, where_it, word_is}
use Rattle.php_shapes.proofs.ReadNearest.{shaped}
use Rattle.php_shapes.proofs.ReadStatements.{begins_with, begun, first_in, grows_by}

-- ---- modifiers

no_modifier : (us : List Token) → is_modifier (first_of us) ≡ false → behind_modifiers us ≡ first_of us
no_modifier [] h = refl
no_modifier (x ∷ us) h = rw h refl

one_modifier : (x : Token) (us : List Token) → is_modifier (terminal x) ≡ true → behind_modifiers (x ∷ us) ≡ behind_modifiers us
one_modifier x us h =
    let e : 1 + prefix_len is_some_modifier us ≡ suc (prefix_len is_some_modifier us) = omega arith in
    rw (h, e) refl

right_true : (a b : Bool) → (a && b) ≡ true → b ≡ true
right_true true b h = h
right_true false b h = absurd (false_true h)

past_modifiers : (v : Version) (f : Forest) (us : List Token) → Fits v (many (word t.Modifier)) f
    → is_modifier (first_of us) ≡ false → behind_modifiers (leaves f ++ us) ≡ first_of us
past_modifiers v f us no_more h = no_modifier us h
past_modifiers v f us (once_more {g = a} {h = m} x y e) h =
    let q : (z : Token) × (a ≡ leaf z none) × (accepts v t.Modifier z ≡ true) = word_is v t.Modifier a x in
    subst (λ (i : Forest). behind_modifiers (leaves i ++ us) ≡ first_of us) (sym (e ∙ ap (λ (i : Forest). i +++ m) q.1))
    (one_modifier q.0 (leaves m ++ us) (right_true _ (is_modifier (terminal q.0)) (accepted v t.Modifier q.0 q.2)) ∙ past_modifiers v m us y h)

-- `use`
abbrev is_use : Terminal → Bool
is_use t.Use = true
is_use _ = false

no_use : (c : Terminal) → is_use c ≡ false → trait_use_form c ≡ None
no_use t.Use h = absurd (false_true (sym h))
no_use c h = refl

abbrev any_class : Terminal → Bool
any_class c = true

-- what stands behind modifiers tells a member
abbrev tells : Version → Rule → Bool
tells v r = for_all (λ c. where_it (starts v r c) (not (is_modifier c))) && for_all (λ c. where_it (first v (many (word t.Modifier) ∷ r ∷ []) any_class c) (not (is_use c)))

member_chosen : (v : Version) (r : Rule) (f m : Forest) (rest : List Token) → nullable r ≡ false → tells v r ≡ true
    → Fits v (many (word t.Modifier)) f → Fits v r m → member_form (leaves (f +++ m) ++ rest) ≡ Some
    (modified_form (first_of (leaves m ++ rest)))
member_chosen v r f m rest u h x y =
    let z : (for_all (λ c. where_it (starts v r c) (not (is_modifier c))) ≡ true)
    × (for_all (λ c. where_it (first v (many (word t.Modifier) ∷ r ∷ []) any_class c) (not (is_use c))) ≡ true) =
    and_parts (for_all (λ c. where_it (starts v r c) (not (is_modifier c))))
    (for_all (λ c. where_it (first v (many (word t.Modifier) ∷ r ∷ []) any_class c) (not (is_use c)))) h in
    let no : trait_use_form (first_of (leaves (f +++ m) ++ rest)) ≡ None =
    no_use (first_of (leaves (f +++ m) ++ rest))
    (not-true (is_use (first_of (leaves (f +++ m) ++ rest)))
    (where_is (first v (many (word t.Modifier) ∷ r ∷ []) any_class) (λ c. not (is_use c))
    (first_of (leaves (f +++ m) ++ rest)) z.1
    (first_class v (many (word t.Modifier) ∷ r ∷ []) any_class (f +++ m) rest (f, m, x, fits_alone v r m y, refl)
    refl))) in
    let behind : behind_modifiers (leaves (f +++ m) ++ rest) ≡ first_of (leaves m ++ rest) =
    ap behind_modifiers (leaves_before f m rest) ∙ past_modifiers v f (leaves m ++ rest) x
    (not-true (is_modifier (first_of (leaves m ++ rest)))
    (where_is (starts v r) (λ c. not (is_modifier c)) (first_of (leaves m ++ rest)) z.0
    (first_in v r m rest y u))) in
    ap (λ (o : Option Form). or_else o (Some (modified_form (behind_modifiers (leaves (f +++ m) ++ rest))))) no ∙ ap (λ (c : Terminal). Some (modified_form c)) behind

-- ---- members

-- A member of a kind is read as it was, whatever follows.
abbrev pub MemberGrows : Version → ℕ → NodeKind → Type 0
MemberGrows v n j = (c : Forest) (rest : List Token) → count c ≤ n → IsNode v j c → Grows (php v) s.Member j c rest

abbrev method_rest : Rule
method_rest = word t.Function ~ by_ref ~ word t.AnyWord ~ params ~ return_type ~ (kind k.Block ||| word t.Semi)

abbrev const_rest : Rule
const_rest = word t.Const ~ commas (constant_of t.ConstantWord) ~ word t.Semi

abbrev property_rest : Rule
property_rest = maybe (kind k.TypeName) ~ commas declared_variable ~ word t.Semi

method_tells : (v : Version) → tells v method_rest ≡ true
unfolding for_all
method_tells V74 = refl
method_tells V83 = refl

const_tells : (v : Version) → tells v const_rest ≡ true
unfolding for_all
const_tells V74 = refl
const_tells V83 = refl

property_tells : (v : Version) → tells v property_rest ≡ true
unfolding for_all
property_tells V74 = refl
property_tells V83 = refl

method_matches : (v : Version) → matches v 60 false (form v k.Method ∷ []) ((modified_form t.Function).1) any_class ≡ true
unfolding for_all
method_matches V74 = refl
method_matches V83 = refl

const_matches : (v : Version) → matches v 60 false (form v k.ClassConst ∷ []) ((modified_form t.Const).1) any_class ≡ true
unfolding for_all
const_matches V74 = refl
const_matches V83 = refl

property_matches : (v : Version) → matches v 60 false (form v k.Property ∷ []) ((modified_form t.Variable).1) any_class ≡ true
unfolding for_all
property_matches V74 = refl
property_matches V83 = refl

-- a member with modifiers, by what stands behind them
modified : (v : Version) (n : ℕ) → Below v n → (j : NodeKind) (r : Rule) (is : List Item) → nullable r ≡ false
    → tells v r ≡ true → ((m : Forest) (rest : List Token) → Fits v r m
    → modified_form (first_of (leaves m ++ rest)) ≡ (j, is)) → matches v 60 false (form v j ∷ []) is any_class ≡ true
    → ((c : Forest) → IsNode v j c → Fits v (many (word t.Modifier) ~ r) c) → MemberGrows v n j
modified v n below j r is u h e m split c rest le x =
    let p : (f : Forest) × (q : Forest) × Fits v (many (word t.Modifier)) f × Fits v r q × (c ≡ f +++ q) = both_is v (many (word t.Modifier)) r c (split c x) in
    let chosen : member_form (leaves c ++ rest) ≡ Some (j, is) =
    ap (λ (y : Forest). member_form (leaves y ++ rest)) p.4 ∙ member_chosen v r p.0 p.1 rest u h p.2 p.3
    ∙ ap Some (e p.1 rest p.3) in
    grows_by v n below s.Member false j is any_class m c rest le x refl (λ f. absurd (false_true f)) chosen

method_begins : (v : Version) → begins_with v method_rest t.Function ≡ true
unfolding for_all
method_begins V74 = refl
method_begins V83 = refl

const_begins : (v : Version) → begins_with v const_rest t.Const ≡ true
unfolding for_all
const_begins V74 = refl
const_begins V83 = refl

pub method_grows : (v : Version) (n : ℕ) → Below v n → MemberGrows v n k.Method
method_grows v n below = modified v n below k.Method method_rest ((modified_form t.Function).1) refl (method_tells v)
    (λ m rest x. ap modified_form (begun v method_rest t.Function m rest x refl (method_begins v))) (method_matches v)
    (shaped v k.Method)

pub class_const_grows : (v : Version) (n : ℕ) → Below v n → MemberGrows v n k.ClassConst
class_const_grows v n below = modified v n below k.ClassConst const_rest ((modified_form t.Const).1) refl
    (const_tells v) (λ m rest x. ap modified_form (begun v const_rest t.Const m rest x refl (const_begins v)))
    (const_matches v) (shaped v k.ClassConst)

-- what a property has behind its modifiers
abbrev begins_property : Terminal → Bool
begins_property t.Function = false
begins_property t.Const = false
begins_property c = true

property_by : (c : Terminal) → begins_property c ≡ true → modified_form c ≡ (k.Property, (modified_form t.Variable).1)
property_by t.Function h = absurd (false_true h)
property_by t.Const h = absurd (false_true h)
property_by c h = refl

property_begins : (v : Version) → for_all (λ c. where_it (starts v property_rest c) (begins_property c)) ≡ true
unfolding for_all
property_begins V74 = refl
property_begins V83 = refl

-- the first modifier of a property is one of its modifiers
property_split : (v : Version) (c : Forest) → IsNode v k.Property c → Fits v (many (word t.Modifier) ~ property_rest) c
property_split v c x =
    let p : (f : Forest) × (q : Forest) × Fits v (word t.Modifier) f
    × Fits v (many (word t.Modifier) ~ property_rest) q × (c ≡ f +++ q) =
    both_is v (word t.Modifier) (many (word t.Modifier) ~ property_rest) c (shaped v k.Property c x) in
    let r : (f : Forest) × (q : Forest) × Fits v (many (word t.Modifier)) f × Fits v property_rest q × (p.1 ≡ f +++ q) = both_is v (many (word t.Modifier)) property_rest p.1 p.3 in
    is_both (once_more p.2 r.2 refl) r.3 (p.4 ∙ ap (λ (y : Forest). p.0 +++ y) r.4 ∙ sym (forest_assoc p.0 r.0 r.1))

pub property_grows : (v : Version) (n : ℕ) → Below v n → MemberGrows v n k.Property
property_grows v n below = modified v n below k.Property property_rest ((modified_form t.Variable).1) refl
    (property_tells v) (λ m rest x. property_by (first_of (leaves m ++ rest))
    (where_is (starts v property_rest) begins_property (first_of (leaves m ++ rest)) (property_begins v)
    (first_in v property_rest m rest x refl))) (property_matches v) (property_split v)

-- ---- nodes by their kinds

-- A node of a kind is read as it was where its sort ends.
abbrev pub KindGrows : Version → ℕ → NodeKind → Sort → Type 0
KindGrows v n j sort = (c : Forest) (rest : List Token) → count c ≤ n → IsNode v j c → stops sort (first_of rest) ≡ true → Grows (php v) sort j c rest

block_matches : (v : Version) → matches v 60 false (form v k.Block ∷ []) (Word t.OpenBrace ∷ Repeats g.Statements ∷ Word t.CloseBrace ∷ []) any_class ≡ true
unfolding for_all
block_matches V74 = refl
block_matches V83 = refl

param_matches : (v : Version) → matches v 60 false (form v k.Param ∷ [])
    (Part g.ParamType ∷ Part g.ByRef ∷ Part g.Variadic ∷ Word t.Variable ∷ Part g.FirstValue ∷ []) closes_item ≡ true
unfolding for_all
param_matches V74 = refl
param_matches V83 = refl

type_matches : (v : Version) → matches v 60 false (form v k.TypeName ∷ []) (Part g.Nullable ∷ Part g.TypeWord ∷ []) closes_type ≡ true
unfolding for_all
type_matches V74 = refl
type_matches V83 = refl

pub body_grows : (v : Version) (n : ℕ) → Below v n → KindGrows v n k.Block s.Block
body_grows v n below c rest le x e = grows_by v n below s.Block false k.Block
    (Word t.OpenBrace ∷ Repeats g.Statements ∷ Word t.CloseBrace ∷ []) any_class (block_matches v) c rest le x refl
    (λ f. absurd (false_true f)) refl

pub param_grows : (v : Version) (n : ℕ) → Below v n → KindGrows v n k.Param s.Param
param_grows v n below c rest le x e = grows_by v n below s.Param false k.Param
    (Part g.ParamType ∷ Part g.ByRef ∷ Part g.Variadic ∷ Word t.Variable ∷ Part g.FirstValue ∷ []) closes_item
    (param_matches v) c rest le x e (λ f. absurd (false_true f)) refl

pub type_grows : (v : Version) (n : ℕ) → Below v n → KindGrows v n k.TypeName s.TypeName
type_grows v n below c rest le x e = grows_by v n below s.TypeName false k.TypeName
    (Part g.Nullable ∷ Part g.TypeWord ∷ []) closes_type (type_matches v) c rest le x e (λ f. absurd (false_true f))
    refl

-- `case` or `default`
abbrev case_items : Terminal → List Item
case_items t.Case = Word t.Case ∷ any ∷ Part g.CaseMark ∷ Repeats g.Statements ∷ []
case_items _ = Word t.Default ∷ Part g.CaseMark ∷ Repeats g.Statements ∷ []

abbrev case_rest : Rule
case_rest = (word t.Colon ||| word t.Semi) ~ statements

abbrev with_value : Rule
with_value = (word t.Case ~ expr) ~ case_rest

abbrev without_value : Rule
without_value = word t.Default ~ case_rest

value_matches : (v : Version) → matches v 60 false (with_value ∷ []) (case_items t.Case) closes_case ≡ true
unfolding for_all
value_matches V74 = refl
value_matches V83 = refl

default_matches : (v : Version) → matches v 60 false (without_value ∷ []) (case_items t.Default) closes_case ≡ true
unfolding for_all
default_matches V74 = refl
default_matches V83 = refl

value_begins : (v : Version) → begins_with v with_value t.Case ≡ true
unfolding for_all
value_begins V74 = refl
value_begins V83 = refl

default_begins : (v : Version) → begins_with v without_value t.Default ≡ true
unfolding for_all
default_begins V74 = refl
default_begins V83 = refl

-- the two cases
case_split : (v : Version) (c : Forest) → Fits v (form v k.Case) c → Fits v with_value c ⊎ Fits v without_value c
case_split v c x =
    let p : (f : Forest) × (q : Forest) × Fits v (word t.Case ~ expr ||| word t.Default) f × Fits v case_rest q
    × (c ≡ f +++ q) = both_is v (word t.Case ~ expr ||| word t.Default) case_rest c x in
    elim (either_is v (word t.Case ~ expr) (word t.Default) p.0 p.2) [ inl y ↦ inl (is_both y p.3 p.4) | inr y ↦ inr (is_both y p.3 p.4) ]

case_by : (v : Version) (n : ℕ) → Below v n → (r : Rule) (w : Terminal) → nullable r ≡ false
    → begins_with v r w ≡ true → case_form w ≡ Some (k.Case, case_items w)
    → matches v 60 false (r ∷ []) (case_items w) closes_case ≡ true → (c : Forest) (rest : List Token) → count c ≤ n
    → Fits v r c → closes_case (first_of rest) ≡ true → Grows (php v) s.Case k.Case c rest
case_by v n below r w u b e m c rest le x f =
    head (ap case_form (begun v r w c rest x u b) ∙ e)
    (matched v n below 60 false (r ∷ []) (case_items w) closes_case c rest m (fits_alone v r c x) le f
    (λ o. absurd (false_true o)))

pub case_grows : (v : Version) (n : ℕ) → Below v n → KindGrows v n k.Case s.Case
case_grows v n below c rest le x e = elim (case_split v c (shaped v k.Case c x)) [
  | inl y ↦ case_by v n below with_value t.Case refl (value_begins v) refl (value_matches v) c rest le y e
  | inr y ↦ case_by v n below without_value t.Default refl (default_begins v) refl (default_matches v) c rest le y e
]
