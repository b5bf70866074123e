-- `{$` for `${` loses no byte of the source.
use Rattle.std.proofs.Common.{◌≡◌, ℕ, Bool, false, ◌&&◌, if◌then◌else◌, List, [], ◌∷◌, ◌++◌, refl, ap, sym, ◌∙◌, codes, append_assoc, append-nil}
use Rattle.php_tree.specs.declared.token.TokenKind.TheVariants as token
use Rattle.php_tree.specs.declared.kind.NodeKind.{NodeKind}
use Rattle.php_tree.specs.declared.kind.NodeKind.TheVariants as kind
use Rattle.tracked_changes.specs.Pieces.{before}
use Rattle.tracked_changes.specs.Draft.{NewToken, Draft, no_more, new_leaf, new_node}
use Rattle.tracked_changes.specs.Tokens.{is_text, retexted, put_also}
use Rattle.tracked_changes.proofs.Joining.{before-append}
use Rattle.tracked_changes.proofs.Keeping.{SameToken, SameBytes, same_leaf, same_node, same_if, same_draft_if, retexted_keeps}
use Rattle.tracked_changes.proofs.Walking.{pieces-then}
use Rattle.syntax_rules.specs.DollarBrace.{
  is_dollar_brace,
  curly,
  named,
  plain,
  with_offset,
  with_node,
  opened,
  ends_bare,
  before_last,
  escaped,
  is_piece,
  begins_dollar_brace,
  part,
  parts,
  DollarBraceIsWritten,
}

curly_keeps : (t : NewToken) → SameToken (curly t) t
curly_keeps t = retexted_keeps token.CurlyOpen (codes "{") t

-- the variable of a name has the name's bytes
variable_keeps : (name : NewToken) (d : Draft) → SameBytes (named name d) (new_leaf name d)
variable_keeps name d = simp (append-nil, before-append) refl

plain_keeps : (t name : NewToken) (d : Draft) → SameBytes (plain t name d) (new_leaf t (new_leaf name d))
plain_keeps t name d =
    same_leaf (curly t) t (named name d) (new_leaf name d) (curly_keeps t) (variable_keeps name d)

with_offset_keeps : (t name mark : NewToken) (d : Draft) → SameBytes (with_offset t name mark d) (new_leaf t (new_leaf name (new_leaf mark d)))
with_offset_keeps t name mark no_more = plain_keeps t name (new_leaf mark no_more)
with_offset_keeps t name mark (new_leaf u d) = plain_keeps t name (new_leaf mark (new_leaf u d))
with_offset_keeps t name mark (new_node k e no_more) = plain_keeps t name (new_leaf mark (new_node k e no_more))
with_offset_keeps t name mark (new_node k e (new_node l c d)) = plain_keeps t name (new_leaf mark (new_node k e (new_node l c d)))
with_offset_keeps t name mark (new_node k e (new_leaf shut d)) =
    let read : Draft =
    named name (new_leaf mark (new_node k e (new_leaf shut no_more))) in
    let from : Draft = new_leaf mark (new_node k e (new_leaf shut d)) in
    same_leaf (curly t) t (new_node kind.Offset read d) (new_leaf name from) (curly_keeps t)
    (ap before (sym (pieces-then read d)) ∙ variable_keeps name from)

with_node_keeps : (t : NewToken) (k : NodeKind) (e d : Draft) → SameBytes (with_node t k e d) (new_leaf t (new_node k e d))
with_node_keeps t k e no_more = refl
with_node_keeps t k e (new_node l c d) = refl
with_node_keeps t k e (new_leaf close d) =
    let shut : NewToken = retexted token.Op (codes "}") close in
    let made : Draft = new_node kind.Variable
    (new_leaf (put_also token.Op (codes "$")) (new_leaf (put_also token.Op (codes "{")) (new_node k e (new_leaf shut no_more))))
    (new_leaf (put_also token.Op (codes "}")) d) in
    let from : Draft = new_node k e (new_leaf close d) in
    let same : SameBytes made from = simp (append-nil, append_assoc, before-append) refl in
    same_leaf (curly t) t made from (curly_keeps t) same

opened_keeps : (t : NewToken) (d : Draft) → SameBytes (opened t d) (new_leaf t d)
opened_keeps t no_more = refl
opened_keeps t (new_node k e d) = with_node_keeps t k e d
opened_keeps t (new_leaf name no_more) = refl
opened_keeps t (new_leaf name (new_node k e d)) = refl
opened_keeps t (new_leaf name (new_leaf mark d)) =
    same_draft_if (is_text (codes "[") mark) (with_offset t name mark d) (plain t name (new_leaf mark d)) (new_leaf t (new_leaf name (new_leaf mark d)))
    (with_offset_keeps t name mark d) (plain_keeps t name (new_leaf mark d))

before_last_keeps : (bytes : List ℕ) → before (before_last bytes) ≡ bytes
before_last_keeps [] = refl
before_last_keeps (b ∷ []) = refl
before_last_keeps (b ∷ c ∷ bs) = ap (λ x. b ∷ x) (before_last_keeps (c ∷ bs))

escaped_keeps : (t : NewToken) → SameToken (escaped t) t
escaped_keeps t =
    same_if (ends_bare false (before t.text)) (record t { text = before_last (before t.text) }) t t
    (before-append t.lead (before_last (before t.text)) ∙ ap (λ x. before t.lead ++ x) (before_last_keeps (before t.text)) ∙ sym (before-append t.lead t.text)) refl

part_keeps : (t : NewToken) (behind : Bool) (d : Draft) → SameBytes (part t behind d) (new_leaf t d)
part_keeps t behind d =
    let other : NewToken = if is_piece t.kind && behind then escaped t else t in
    same_draft_if (is_dollar_brace t.kind) (opened t d) (new_leaf other d) (new_leaf t d) (opened_keeps t d)
    (same_leaf other t d d (same_if (is_piece t.kind && behind) (escaped t) t t (escaped_keeps t) refl) refl)

parts_keep : (d : Draft) → SameBytes (parts d) d
parts_keep no_more = refl
parts_keep (new_leaf t d) = part_keeps t (begins_dollar_brace d) (parts d) ∙ same_leaf t t (parts d) d refl (parts_keep d)
parts_keep (new_node k c d) = same_node k k c c (parts d) d refl (parts_keep d)

pub dollar_brace_is_written : DollarBraceIsWritten
dollar_brace_is_written = record {
  bytes = λ t. parts_keep t.1;
  name = record { edits = refl; tree = refl };
  offset = record { edits = refl; tree = refl };
  expression = record { edits = refl; tree = refl };
}
