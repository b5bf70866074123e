-- The tokens of a draft, node by node.
use Rattle.std.proofs.Common.{◌≡◌, Bool, true, false, not, ◌&&◌, ◌||◌, List, [], ◌∷◌, ◌++◌, Option, Some, None, refl, sym, ap, ◌∙◌, append_assoc}
use Rattle.std.proofs.lemmas.Bool.{and_parts}
use Rattle.php_tree.specs.declared.token.Token.{Token}
use Rattle.php_tree.specs.declared.token.TokenKind.{TokenKind}
use Rattle.php_tree.specs.declared.token.TokenKind.TheVariants as token
use Rattle.php_tree.specs.declared.kind.NodeKind.{NodeKind}
use Rattle.php_tree.specs.declared.kind.NodeKind.TheVariants as kind
use Rattle.php_tree.specs.Tree.{Forest, none, leaf, node, Tree, ◌+++◌}
use Rattle.php_shapes.specs.Places.{is_expression}
use Rattle.tracked_changes.specs.patches.Patches.{Wrapping}
use Rattle.tracked_changes.specs.Draft.{NewToken, Draft, new_leaf}
use Rattle.tracked_changes.specs.Walk.{NewTree}
use Rattle.tracked_changes.specs.Parens.{in_wrappings}
use Rattle.syntax_rules.specs.Around.{Around, within, kind_if_first}
use Rattle.syntax_rules.specs.NestedTernary.{nests}
use Rattle.syntax_rules.specs.DotPrecedence.{is_binary, is_dot, takes_apart, is_regrouped}
use Rattle.syntax_rules.specs.DollarBrace as braces
use Rattle.syntax_rules.specs.DollarBrace.{begins_dollar_brace, parts}
use Rattle.syntax_rules.specs.HashComment.{hash_comment}
use Rattle.syntax_rules.specs.Rewritten.{wrapping}
use Rattle.syntax_rules.specs.InContext.{changed_node, draft_in, is_nested, nests_in, parens_if}
use Rattle.syntax_rules.proofs.InContext.{wrapping_is}
use Rattle.written_tokens.specs.tokens.Written.{draft_tokens}
use Rattle.rewritten_shapes.specs.paired.Paired.{is_common, is_ternary, may_be_grouped}
use Rattle.rewritten_shapes.specs.paired.Tokens.{opens_text}
use Rattle.written_reading.proofs.edited.PlainTexts.{has_operands}

-- ---- what is put round nodes

-- whether nothing is put round the first parts of what stands around
abbrev pub is_free : Option Around → Bool
is_free None = true
is_free (Some a) = not (has_operands a.kind)

nests_not : (o k : NodeKind) → not (has_operands o) ≡ true → nests o k ≡ false
nests_not kind.Ternary k h = absurd cc
nests_not kind.ShortTernary k h = absurd cc
nests_not o k h = refl

binary_not : (o : NodeKind) → not (has_operands o) ≡ true → is_binary o ≡ false
binary_not kind.Binary h = absurd cc
binary_not o h = refl

nests_maybe : (a : Around) (k : NodeKind) (i : Bool) → a.is_first ≡ i → not (has_operands a.kind) ≡ true → is_nested (Some a) k ≡ false
nests_maybe a k true e h = rw e (nests_not a.kind k h)
nests_maybe a k false e h = rw e refl

and_none : (x : Bool) → (x && false) ≡ false
and_none true = refl
and_none false = refl

apart_not : (a : Around) (t : Tree) → not (has_operands a.kind) ≡ true → is_regrouped (Some a) t ≡ false
apart_not a t h = rw (binary_not a.kind h) (and_none (is_dot t))

pub free_wrapping : (a : Option Around) (t : Tree) → is_free a ≡ true → wrapping a t ≡ []
free_wrapping None t h = refl
free_wrapping (Some a) t h =
    wrapping_is (Some a) t
    ∙ ap (λ (x : Bool). parens_if x ++ parens_if (is_regrouped (Some a) t)) (nests_maybe a t.0 a.is_first refl h)
    ∙ ap parens_if (apart_not a t h)

-- ---- what is put in parentheses

nests_ternary : (o k : NodeKind) → nests o k ≡ true → is_ternary k ≡ true
nests_ternary kind.Ternary kind.Ternary h = refl
nests_ternary kind.Ternary kind.ShortTernary h = refl
nests_ternary kind.ShortTernary kind.Ternary h = refl
nests_ternary o k h = absurd cc

nested_ternary : (a : Option Around) (k : NodeKind) → is_nested a k ≡ true → is_ternary k ≡ true
nested_ternary a k h = by (kind_if_first a) h
  where
    by : (o : Option NodeKind) → nests_in o k ≡ true → is_ternary k ≡ true
    by None h = absurd cc
    by (Some o) h = nests_ternary o k h

regrouped_dot : (a : Option Around) (t : Tree) → is_regrouped a t ≡ true → is_dot t ≡ true
regrouped_dot None t h = absurd cc
regrouped_dot (Some a) t h = (and_parts (is_dot t) (takes_apart a) h).0

abbrev pub is_wrapped : List Wrapping → Bool
is_wrapped [] = false
is_wrapped (w ∷ ws) = true

or_right : (x : Bool) → (x || true) ≡ true
or_right true = refl
or_right false = refl

wrapped_by : (t : Tree) (x y : Bool) → (x ≡ true → is_ternary t.0 ≡ true) → (y ≡ true → is_dot t ≡ true) → is_wrapped (parens_if x ++ parens_if y) ≡ true → may_be_grouped t ≡ true
wrapped_by t true y p q h = ap (λ (z : Bool). z || is_dot t) (p refl)
wrapped_by t false true p q h = ap (λ (z : Bool). is_ternary t.0 || z) (q refl) ∙ or_right (is_ternary t.0)
wrapped_by t false false p q h = absurd cc

-- what is put in parentheses may be
pub wrapped_groups : (a : Option Around) (t : Tree) → is_wrapped (wrapping a t) ≡ true → may_be_grouped t ≡ true
wrapped_groups a t h =
    wrapped_by t (is_nested a t.0) (is_regrouped a t) (nested_ternary a t.0) (regrouped_dot a t) (ap is_wrapped (sym (wrapping_is a t)) ∙ h)

pub grouped_expression : (k : NodeKind) (x : Bool) → (is_ternary k || (is_binary k && x)) ≡ true → is_expression k ≡ true
grouped_expression kind.Ternary x h = refl
grouped_expression kind.ShortTernary x h = refl
grouped_expression kind.Binary x h = refl
grouped_expression k x h = absurd cc

-- ---- nodes

pub common_node : (k : NodeKind) (c : Forest) (t : NewTree) → is_common k ≡ true → changed_node (k, c) t ≡ t
common_node kind.Quoted c t h = absurd cc
common_node kind.BraceOffset c t h = absurd cc
common_node kind.Cast c t h = absurd cc
common_node k c t h = refl

-- the draft of a node's parts
abbrev pub part_draft : (Bool → Option Around) → Bool → NodeKind → Forest → Draft
part_draft around i k c = (in_wrappings (wrapping (around i) (k, c)) (changed_node (k, c) (k, draft_in (within k c) true c))).1

-- parts, a token, and other parts
pub draft_behind : (around : Bool → Option Around) (i : Bool) (g : Forest) (u : Token) (h : Forest)
    → draft_tokens (draft_in around i (g +++ leaf u h)) ≡ draft_tokens (draft_in around i g) ++ hash_comment u
    ∷ draft_tokens (draft_in around false h)
draft_behind around i none u h = refl
draft_behind around i (leaf t g) u h = ap (λ (l : List NewToken). hash_comment t ∷ l) (draft_behind around false g u h)
draft_behind around i (node k c g) u h =
    ap (λ (l : List NewToken). draft_tokens (part_draft around i k c) ++ l) (draft_behind around false g u h)
    ∙ sym (append_assoc (draft_tokens (part_draft around i k c)) (draft_tokens (draft_in around false g)) (hash_comment u ∷ draft_tokens (draft_in around false h)))

-- ---- the token that opens a quoted text

opens_no_brace : (k : TokenKind) → opens_text k ≡ true → (braces.is_dollar_brace k ≡ false) × (braces.is_piece k ≡ false)
opens_no_brace token.Quote h = (refl, refl)
opens_no_brace token.HeredocStart h = (refl, refl)
opens_no_brace token.Backtick h = (refl, refl)
opens_no_brace k h = absurd cc

pub opening_part : (t : NewToken) (d : Draft) → opens_text t.kind ≡ true → parts (new_leaf t d) ≡ new_leaf t (parts d)
opening_part t d h = let (p, q) = opens_no_brace t.kind h in rw (p, q) refl
