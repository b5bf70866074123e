-- Other casts, and null, lose no byte of the source.
use Rattle.std.proofs.Common.{List, [], ◌∷◌, ◌++◌, refl, ap, sym, ◌∙◌, codes, append-nil}
use Rattle.php_tree.specs.declared.token.TokenKind.TheVariants as token
use Rattle.tracked_changes.specs.Pieces.{Piece, changed, also, before}
use Rattle.tracked_changes.specs.Draft.{Draft, no_more, new_leaf, new_node, pieces}
use Rattle.tracked_changes.specs.Tokens.{retexted}
use Rattle.tracked_changes.specs.Leads.{first_lead, without_lead}
use Rattle.tracked_changes.specs.Walk.{NodesKeepBytes}
use Rattle.tracked_changes.proofs.Joining.{before-append}
use Rattle.tracked_changes.proofs.Keeping.{SameBytes, same_leaf, retexted_keeps}
use Rattle.tracked_changes.proofs.Wrapping.{pieces-without_lead}
use Rattle.syntax_rules.specs.RealCast.{float_first, RealCastIsWritten}
use Rattle.syntax_rules.specs.UnsetCast.{unset_cast, UnsetCastIsWritten}

float_keeps : (d : Draft) → SameBytes (float_first d) d
float_keeps no_more = refl
float_keeps (new_leaf t d) = same_leaf (retexted token.Cast (codes "(float)") t) t d d (retexted_keeps token.Cast (codes "(float)") t) refl
float_keeps (new_node k c d) = refl

pub real_cast_is_written : RealCastIsWritten
real_cast_is_written = (λ t. float_keeps t.1, record { edits = refl; tree = refl })

unset_keeps : NodesKeepBytes unset_cast
unset_keeps t =
    let lead : List Piece = first_lead t.1 in
    let rest : List Piece = pieces (without_lead t.1) in
    let whole : List Piece = changed (before rest) (codes "(") ∷ [] in
    let behind : List Piece = also (codes "null") ∷ also (codes ")") ∷ [] in
    before-append (lead ++ whole) behind
    ∙ append-nil (before (lead ++ whole))
    ∙ before-append lead whole
    ∙ ap (λ x. before lead ++ x) (append-nil (before rest))
    ∙ sym (before-append lead rest)
    ∙ ap before (sym (pieces-without_lead t.1))

pub unset_cast_is_written : UnsetCastIsWritten
unset_cast_is_written = (unset_keeps, record { edits = refl; tree = refl })
