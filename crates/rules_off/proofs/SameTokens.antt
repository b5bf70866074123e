-- Tokens whose comments have no place: each rule set makes the same of them.
use Rattle.std.proofs.Common.{◌≡◌, ℕ, ◌+◌, Bool, true, false, if◌then◌else◌, List, [], ◌∷◌, refl, ap, sym, length}
use Rattle.std.specs.Prelude.{take_while}
use Rattle.rule_tables.specs.declared.rule.RuleId.TheVariants as rule
use Rattle.php_tree.specs.declared.token.Token.{Token}
use Rattle.tracked_changes.specs.Pieces.{Piece, kept}
use Rattle.syntax_rules.specs.declared.rules.Rules.{Rules}
use Rattle.syntax_rules.specs.HashComment.{Standing, begins_hash, lead_by, moved, outside, spaced, untouched}
use Rattle.syntax_rules.specs.Together.{every_rule, token_by}
use Rattle.syntax_upgrade.specs.OffPlaces.{comment_reports, comments, is_in_line, off_if}
use Rattle.rules_off.proofs.Found.{both_none, no_place}

lead_same : (s : Standing) (at : ℕ) (bs : List ℕ) → comments s at bs ≡ [] → spaced s bs ≡ untouched bs
lead_same s at [] h = refl
lead_same s at (b ∷ bs) h =
    let n = both_none (off_if (begins_hash s b bs) rule.HashComment at (at + 1 + length (take_while is_in_line bs))) (comments (moved s b bs) (at + 1) bs) h in
    rw (no_place (begins_hash s b bs) rule.HashComment at (at + 1 + length (take_while is_in_line bs)) n.0)
    (ap (λ (ps : List Piece). kept (b ∷ []) ∷ ps) (lead_same (moved s b bs) (at + 1) bs n.1))

lead_if : (on : Bool) (at : ℕ) (bs : List ℕ) → (if on then [] else comments outside at bs) ≡ [] → lead_by on bs ≡ spaced outside bs
lead_if true at bs h = refl
lead_if false at bs h = sym (lead_same outside at bs h)

pub token_same : (r : Rules) (at : ℕ) (x : Token) → comment_reports r at x ≡ [] → token_by r x ≡ token_by every_rule x
token_same r at x h =
    ap (λ (l : List Piece). record { kind = x.kind; lead = l; text = kept x.text ∷ [] }) (lead_if r.hash_comments at x.lead h)
