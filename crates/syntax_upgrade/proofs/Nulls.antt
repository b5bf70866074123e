-- A cast `(unset)` of a plain variable, by its two tokens.
use Rattle.std.proofs.Common.{
  ◌≡◌,
  ℕ,
  ◌<◌,
  Bool,
  true,
  false,
  not,
  ◌&&◌,
  if◌then◌else◌,
  List,
  [],
  ◌∷◌,
  ◌++◌,
  length,
  Option,
  Some,
  None,
  refl,
  ap,
  sym,
  ◌∙◌,
  codes,
  arith,
  append-nil,
}
use Rattle.std.specs.Str.{bytes_eq}
use Rattle.std.proofs.lemmas.Bool.{false≢true}
use Rattle.std.proofs.lemmas.Option.{none-some}
use Rattle.std.proofs.lemmas.Slice.Eq.{bytes_eq-Decides}
use Rattle.php_tree.specs.declared.token.Token.{Token}
use Rattle.php_tree.specs.declared.token.TokenKind.{TokenKind}
use Rattle.php_tree.specs.declared.token.TokenKind.TheVariants as token
use Rattle.php_tree.specs.declared.kind.NodeKind.{NodeKind}
use Rattle.php_tree.specs.declared.kind.NodeKind.TheVariants as kind
use Rattle.php_tree.specs.Tree.{Forest, none, leaf, node, Tree}
use Rattle.tracked_changes.specs.Pieces.{kept, changed, also, before}
use Rattle.tracked_changes.specs.patches.Patches.{Wrapping}
use Rattle.tracked_changes.specs.Draft.{NewToken, no_more, new_leaf, new_node}
use Rattle.tracked_changes.specs.Walk.{NewTree, new_alone}
use Rattle.tracked_changes.specs.Parens.{in_wrappings}
use Rattle.tracked_changes.specs.Tokens.{retexted}
use Rattle.tracked_changes.proofs.Joining.{before-append}
use Rattle.syntax_rules.specs.Around.{within}
use Rattle.syntax_rules.specs.BraceOffset.{is_brace_offset}
use Rattle.syntax_rules.specs.Casts.{bare, first_text, is_cast}
use Rattle.syntax_rules.specs.declared.rules.Rules.{Rules}
use Rattle.syntax_rules.specs.HashComment.{lead_by}
use Rattle.syntax_rules.specs.Together.{node_by, token_by}
use Rattle.syntax_rules.proofs.Walked.{common_stays}
use Rattle.syntax_rules.proofs.HashCommentKeeps.{lead_keeps}
use Rattle.syntax_rules.specs.RealCast.{is_real_cast}
use Rattle.syntax_rules.specs.SplitName.{begins_root, is_nothing}
use Rattle.syntax_rules.specs.UnsetCast.{is_edited, is_unset_cast, is_variable, of_variable}
use Rattle.syntax_upgrade.specs.declared.split_name.Ahead.{Ahead}
use Rattle.syntax_upgrade.specs.Heads.{shown}
use Rattle.syntax_rules.specs.InContext.{parts_by}
use Rattle.syntax_upgrade.specs.Inside.{inside_next, null_for}
use Rattle.syntax_upgrade.specs.UnsetCast.{both, null_token, tokens_in, unset_in, variable_in}
use Rattle.syntax_upgrade.specs.Written.{Written, token_next}
use Rattle.syntax_upgrade.proofs.Tokens.{and_first, and_second}

-- ---- which nodes have these tokens

abbrev is_there : Option (Token × Token) → Bool
is_there None = false
is_there (Some p) = true

if_variable : (b : Bool) (x t : Token) → b ≡ is_there (both x (if b then Some t else None))
if_variable true x t = refl
if_variable false x t = refl

variable_is : (x : Token) (k : NodeKind) (c : Forest) → of_variable (leaf x (node k c none)) ≡ is_there (both x (variable_in k c))
variable_is x k none = refl
variable_is x k (leaf t none) = if_variable (is_variable k t.kind) x t
variable_is x k (leaf t (leaf u f)) = refl
variable_is x k (leaf t (node j b f)) = refl
variable_is x k (node j b f) = refl

no_more_leaf : (x y : Token) (k : NodeKind) (c f : Forest) → of_variable (leaf x (node k c (leaf y f))) ≡ false
no_more_leaf x y k none f = refl
no_more_leaf x y k (leaf t none) f = refl
no_more_leaf x y k (leaf t (leaf u g)) f = refl
no_more_leaf x y k (leaf t (node j b g)) f = refl
no_more_leaf x y k (node j b g) f = refl

no_more_node : (x : Token) (k l : NodeKind) (c d f : Forest) → of_variable (leaf x (node k c (node l d f))) ≡ false
no_more_node x k l none d f = refl
no_more_node x k l (leaf t none) d f = refl
no_more_node x k l (leaf t (leaf u g)) d f = refl
no_more_node x k l (leaf t (node j b g)) d f = refl
no_more_node x k l (node j b g) d f = refl

of_variable_is : (f : Forest) → of_variable f ≡ is_there (tokens_in f)
of_variable_is none = refl
of_variable_is (leaf x none) = refl
of_variable_is (leaf x (leaf y f)) = refl
of_variable_is (leaf x (node k c none)) = variable_is x k c
of_variable_is (leaf x (node k c (leaf y f))) = no_more_leaf x y k c f
of_variable_is (leaf x (node k c (node l d f))) = no_more_node x k l c d f
of_variable_is (node k c f) = refl

by_cast : (b : Bool) (f : Forest) → (b && of_variable f) ≡ is_there (if b then tokens_in f else None)
by_cast true f = of_variable_is f
by_cast false f = refl

-- a cast of a plain variable, by its two tokens
pub edited_by : (b : Bool) (f : Forest) → (b && is_there (tokens_in f)) ≡ (b && of_variable f)
edited_by true f = sym (of_variable_is f)
edited_by false f = refl

with_cast : (a b x : Bool) → (a && (b && x)) ≡ ((a && b) && x)
with_cast true b x = refl
with_cast false b x = refl

edited_is : (r : Rules) (t : Tree) → (r.unset_casts && is_edited t) ≡ is_there (unset_in r t)
edited_is r t = with_cast r.unset_casts (is_unset_cast t) (of_variable t.1) ∙ by_cast (r.unset_casts && is_unset_cast t) t.1

-- none where the rule edits nothing
pub not_edited : (r : Rules) (t : Tree) → unset_in r t ≡ None → (r.unset_casts && is_edited t) ≡ false
not_edited r t h = edited_is r t ∙ ap is_there h

-- ---- the parts of such a node

pub variable_kind : (k : NodeKind) (j : TokenKind) → is_variable k j ≡ true → k ≡ kind.Variable
variable_kind kind.Variable j h = refl
variable_kind k j h = absurd (false≢true h)

abbrev pub these : Token → Token → Forest
these x v = leaf x (node kind.Variable (leaf v none) none)

abbrev first_of : (Token × Token) → Option (Token × Token) → Token × Token
first_of p None = p
first_of p (Some q) = q

some_is : (p q : Token × Token) → Some p ≡ Some q → p ≡ q
some_is p q h = ap (first_of p) h

none_is : (p : Token × Token) {A : Type 0} → None ≡ Some p → A
none_is p h = absurd (none-some p h)

shape_of_variable : (b : Bool) (y t : Token) (k : NodeKind) (x v : Token) → is_variable k t.kind ≡ b
    → both y (if b then Some t else None) ≡ Some (x, v) → leaf y (node k (leaf t none) none) ≡ these x v
shape_of_variable false y t k x v e h = none_is (x, v) h
shape_of_variable true y t k x v e h =
    let p : (y, t) ≡ (x, v) = some_is (y, t) (x, v) h in
    ap (λ (j : NodeKind). leaf y (node j (leaf t none) none)) (variable_kind k t.kind e)
    ∙ ap (λ (q : Token × Token). these q.0 q.1) p

shape_of_operand : (y : Token) (k : NodeKind) (c : Forest) (x v : Token) → both y (variable_in k c) ≡ Some (x, v)
    → leaf y (node k c none) ≡ these x v
shape_of_operand y k none x v h = none_is (x, v) h
shape_of_operand y k (leaf t none) x v h = shape_of_variable (is_variable k t.kind) y t k x v refl h
shape_of_operand y k (leaf t (leaf u f)) x v h = none_is (x, v) h
shape_of_operand y k (leaf t (node j b f)) x v h = none_is (x, v) h
shape_of_operand y k (node j b f) x v h = none_is (x, v) h

pub shape : (f : Forest) (x v : Token) → tokens_in f ≡ Some (x, v) → f ≡ these x v
shape none x v h = none_is (x, v) h
shape (leaf y none) x v h = none_is (x, v) h
shape (leaf y (leaf u f)) x v h = none_is (x, v) h
shape (leaf y (node k c none)) x v h = shape_of_operand y k c x v h
shape (leaf y (node k c (leaf u f))) x v h = none_is (x, v) h
shape (leaf y (node k c (node j b f))) x v h = none_is (x, v) h
shape (node k c f) x v h = none_is (x, v) h

pub cast_and : (b : Bool) (o : Option (Token × Token)) (x v : Token) → (if b then o else None) ≡ Some (x, v)
    → (b ≡ true) × (o ≡ Some (x, v))
cast_and true o x v h = (refl, h)
cast_and false o x v h = none_is (x, v) h

-- ---- they are written by one token

taken_bytes : (r : Rules) (v : Token) → before (((lead_by r.hash_comments v.lead ++ kept v.text ∷ []) ++ []) ++ []) ≡ v.lead ++ v.text
taken_bytes r v =
    let lead = lead_by r.hash_comments v.lead in
    let ps = lead ++ kept v.text ∷ [] in
    ap before (append-nil (ps ++ []) ∙ append-nil ps)
    ∙ before-append lead (kept v.text ∷ [])
    ∙ ap (λ (bs : List ℕ). bs ++ (v.text ++ [])) (lead_keeps r.hash_comments v.lead)
    ∙ ap (λ (bs : List ℕ). v.lead ++ bs) (append-nil v.text)

abbrev null_of : Rules → Token → List ℕ → NewToken
null_of r x out = record {
  kind = token.Op;
  lead = lead_by r.hash_comments x.lead;
  text = changed out (codes "(") ∷ also (codes "null") ∷ also (codes ")") ∷ [];
}

abbrev no_wrappings : List Wrapping
no_wrappings = []

no_wrap : (a b : Bool) → (if a then no_wrappings else []) ++ (if b then no_wrappings else []) ≡ []
no_wrap true true = refl
no_wrap true false = refl
no_wrap false true = refl
no_wrap false false = refl

-- a plain variable becomes itself
variable_stays : (r : Rules) (k : NodeKind) (c : Forest) (x v : Token)
    → parts_by r (within k c) true (these x v)
    ≡ new_leaf (token_by r x) (new_node kind.Variable (new_leaf (token_by r v) no_more) no_more)
variable_stays r k c x v =
    let own : NewTree = (kind.Variable, new_leaf (token_by r v) no_more) in
    ap (λ (ws : List Wrapping). new_leaf (token_by r x) (new_alone (in_wrappings ws (node_by r (kind.Variable, leaf v none) own))))
    (no_wrap r.nested_ternaries r.dot_operands)
    ∙ ap (λ (t : NewTree). new_leaf (token_by r x) (new_alone t)) (common_stays r kind.Variable (leaf v none) own refl)

null_is : (r : Rules) (k : NodeKind) (c : Forest) (x v : Token) → null_for (parts_by r (within k c) true (these x v)) ≡ null_token r x v
null_is r k c x v =
    ap null_for (variable_stays r k c x v) ∙ ap (λ (bs : List ℕ). null_of r x (x.text ++ bs)) (taken_bytes r v)

no_brace : (k : NodeKind) → is_cast k ≡ true → is_brace_offset k ≡ false
no_brace kind.Cast h = refl
no_brace k h = absurd (false≢true h)

and_false : (b : Bool) → (b && false) ≡ false
and_false true = refl
and_false false = refl

no_real : (b : Bool) (bs : List ℕ) → bytes_eq bs (codes "(unset)") ≡ true → (b && bytes_eq bs (codes "(real)")) ≡ false
no_real b bs h =
    let e : bs ≡ codes "(unset)" = (bytes_eq-Decides bs (codes "(unset)")).0 h in
    ap (λ (xs : List ℕ). b && bytes_eq xs (codes "(real)")) e ∙ and_false b

third : (a b c : Bool) (p q r s : Written) → a ≡ false → b ≡ false → c ≡ true
    → (if a then p else (if b then q else (if c then r else s))) ≡ r
third a b c p q r s h i j = rw (h, i, j) refl

off_too : (a b : Bool) → b ≡ false → (a && b) ≡ false
off_too a b h = ap (λ (x : Bool). a && x) h ∙ and_false a

null_next : (r : Rules) (t : Tree) (w : Written) → is_unset_cast t ≡ true → (r.unset_casts && is_edited t) ≡ true
    → inside_next r t w ≡ token_next r.split_names (null_for (parts_by r (within t.0 t.1) true t.1)) w
null_next r t w h e =
    let text = bare (first_text t.1) in
    third (r.brace_offsets && is_brace_offset t.0) (r.real_casts && is_real_cast t) (r.unset_casts && is_edited t) _ _ _ _
    (off_too r.brace_offsets (is_brace_offset t.0) (no_brace t.0 (and_first (is_cast t.0) (bytes_eq text (codes "(unset)")) h)))
    (off_too r.real_casts (is_real_cast t)
    (no_real (is_cast t.0) text (and_second (is_cast t.0) (bytes_eq text (codes "(unset)")) h)))
    e

-- such a node is a cast `(unset)`, and these are its tokens
pub these_tokens : (r : Rules) (t : Tree) (x v : Token) → unset_in r t ≡ Some (x, v) → (is_unset_cast t ≡ true) × (tokens_in t.1 ≡ Some (x, v))
these_tokens r t x v h =
    let both = cast_and (r.unset_casts && is_unset_cast t) (tokens_in t.1) x v h in
    (and_second r.unset_casts (is_unset_cast t) both.0, both.1)

pub is_null : (r : Rules) (t : Tree) (x v : Token) → unset_in r t ≡ Some (x, v) → (r.unset_casts && is_edited t) ≡ true
is_null r t x v h = edited_is r t ∙ ap is_there h

pub null_written : (r : Rules) (t : Tree) (x v : Token) (w : Written) → unset_in r t ≡ Some (x, v)
    → token_next r.split_names (null_token r x v) w ≡ inside_next r t w
null_written r t x v w h =
    let both = these_tokens r t x v h in
    sym (null_next r t w both.0 (is_null r t x v h)
    ∙ ap (λ (f : Forest). token_next r.split_names (null_for (parts_by r (within t.0 t.1) true f)) w) (shape t.1 x v both.1)
    ∙ ap (λ (n : NewToken). token_next r.split_names n w) (null_is r t.0 t.1 x v))

-- ---- the cast has a text

some_text : (bs : List ℕ) → bytes_eq (bare bs) (codes "(unset)") ≡ true → 0 < length bs
some_text [] h = absurd (false≢true h)
some_text (b ∷ bs) h = omega arith

pub cast_text : (r : Rules) (t : Tree) (x v : Token) → unset_in r t ≡ Some (x, v) → 0 < length x.text
cast_text r t x v h =
    let both = these_tokens r t x v h in
    let s : bytes_eq (bare (first_text t.1)) (codes "(unset)") ≡ true =
    and_second (is_cast t.0) (bytes_eq (bare (first_text t.1)) (codes "(unset)")) both.0 in
    some_text x.text (sym (ap (λ (f : Forest). bytes_eq (bare (first_text f)) (codes "(unset)")) (shape t.1 x v both.1)) ∙ s)

-- ---- what it begins with

root_same : (xs ys zs : List ℕ) → 0 < length xs → begins_root ((xs ++ []) ++ []) ≡ begins_root ((xs ++ ys) ++ zs)
root_same [] ys zs h = absurd (omega (arith, h))
root_same (x ∷ xs) ys zs h = refl

nothing_same : (xs ys zs : List ℕ) → 0 < length xs → is_nothing ((xs ++ []) ++ []) ≡ is_nothing ((xs ++ ys) ++ zs)
nothing_same [] ys zs h = absurd (omega (arith, h))
nothing_same (x ∷ xs) ys zs h = refl

abbrev ahead_of : Rules → Token → Bool → Bool → Ahead
ahead_of r x rooted empty = record {
  kind = token.Op;
  more = 0;
  rooted = rooted;
  empty = empty;
  lead_rooted = begins_root (before (lead_by r.hash_comments x.lead));
  lead_empty = is_nothing (before (lead_by r.hash_comments x.lead));
}

pub null_shown : (r : Rules) (x v : Token) → 0 < length x.text
    → shown (record { more = 0; token = retexted token.Op (codes "(") (token_by r x) }) ≡ shown (record { more = 0; token = null_token r x v })
null_shown r x v h =
    let out = v.lead ++ v.text in
    ap (λ (b : Bool). ahead_of r x b (is_nothing ((x.text ++ []) ++ []))) (root_same x.text out [] h)
    ∙ ap (ahead_of r x (begins_root ((x.text ++ out) ++ []))) (nothing_same x.text out [] h)

-- ---- which casts stay

abbrev is_absent : Option (Token × Token) → Bool
is_absent None = true
is_absent (Some p) = false

not_there : (o : Option (Token × Token)) → not (is_there o) ≡ is_absent o
not_there None = refl
not_there (Some p) = refl

pub undecided_is : (b : Bool) (f : Forest) → (b && is_absent (tokens_in f)) ≡ (b && not (of_variable f))
undecided_is true f = sym (not_there (tokens_in f)) ∙ ap not (sym (of_variable_is f))
undecided_is false f = refl
