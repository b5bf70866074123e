-- Brackets for braces lose no byte of the source.
use Rattle.std.proofs.Common.{refl, codes}
use Rattle.php_tree.specs.declared.token.TokenKind.TheVariants as token
use Rattle.tracked_changes.specs.Draft.{NewToken, Draft, no_more, new_leaf, new_node}
use Rattle.tracked_changes.specs.Tokens.{is_text, retexted}
use Rattle.tracked_changes.proofs.Keeping.{SameToken, SameBytes, same_leaf, same_node, same_if, retexted_keeps}
use Rattle.syntax_rules.specs.BraceOffset.{bracket, bracketed, BraceOffsetIsWritten}

bracket_keeps : (t : NewToken) → SameToken (bracket t) t
bracket_keeps t =
    let shut : NewToken = retexted token.Op (codes "]") t in
    same_if (is_text (codes "{") t) (retexted token.Op (codes "[") t) _ t (retexted_keeps token.Op (codes "[") t)
    (same_if (is_text (codes "}") t) shut t t (retexted_keeps token.Op (codes "]") t) refl)

bracketed_keeps : (d : Draft) → SameBytes (bracketed d) d
bracketed_keeps no_more = refl
bracketed_keeps (new_leaf t d) = same_leaf (bracket t) t (bracketed d) d (bracket_keeps t) (bracketed_keeps d)
bracketed_keeps (new_node k c d) = same_node k k c c (bracketed d) d refl (bracketed_keeps d)

pub brace_offset_is_written : BraceOffsetIsWritten
brace_offset_is_written = (λ t. bracketed_keeps t.1, record { edits = refl; tree = refl })
