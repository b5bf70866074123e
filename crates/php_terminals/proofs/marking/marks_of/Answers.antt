use Rattle.std.proofs.Common.{◌≡◌, ℕ, ◌+◌, List, length, drop, refl, sym, ap, ◌∙◌, subst}
use Rattle.php_terminals.specs.Marked.{IsMark}
use Rattle.php_terminals.proofs.MarksMade.{Marking, marking_more, next_is}
use Rattle.php_terminals.proofs.marking.marks_of.Goals as goal

pub loop-token-preserved : goal.loop-token-preserved
loop-token-preserved c =
    let bytes = c.in_ok-bytes.bytes.items in
    let all = c.args.tokens.now in
    let t = c.token-item.result in
    let m = c.mark_at.result in
    let at = c.loop-token.at in
    let ts = drop (c.loop-token.token-index + 1) all in
    let lead : length c.as_slice-in-loop-token.result.now ≡ length t.lead = ap length c.as_slice-in-loop-token.ensures in
    let text : length c.as_slice-in-loop-token-2.result.now ≡ length t.text = ap length c.as_slice-in-loop-token-2.ensures in
    let start = c.mark_at.ensures.start ∙ ap (λ (n : ℕ). at + n) lead in
    let far = ap (λ (n : ℕ). at + n + length c.as_slice-in-loop-token-2.result.now) lead ∙ ap (λ (n : ℕ). at + length t.lead + n) text in
    let is = subst (λ (b : List ℕ). IsMark b m) c.as_slice-in-loop-token-3.ensures.value c.mark_at.ensures.mark in
    let more = marking_more bytes all (drop c.loop-token.token-index all) t ts at c.loop-token.marks.items
    c.push.new.marks.items m (next_is all c.loop-token.token-index t c.loop-token-test.true c.token-item.is) is
    c.mark_at.ensures.kind c.mark_at.ensures.lead start (c.mark_at.ensures.end ∙ far) c.in_ok-push.ensures
    c.loop-token.invariant in
    subst (λ (n : ℕ). Marking bytes all ts n c.push.new.marks.items) (sym far) more
