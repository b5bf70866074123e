use Rattle.std.proofs.Common.{◌≡◌, ℕ, ◌+◌, ◌≤◌, List, take, drop, ap, ◌∙◌, arith}
use Rattle.php_spellings.specs.Bytes.{label_len}
use Rattle.php_lexer.specs.Modes.{label_place, label_of}
use Rattle.php_lexer.specs.Views.{cut}
use Rattle.php_lexer.proofs.Labels.{label_is, start_is}
use Rattle.php_lexer.proofs.modes.heredoc_stepped.Goals as goal

pub returns : goal.returns
returns c =
    let bytes = c.args.bytes.now in
    let text = take c.args.len (drop c.args.at bytes) in
    let from = 1 + c.label_start-from.result in
    let same : c.split_at-2.result.0.now ≡ text = c.split_at-2.ensures.front ∙ ap (λ (u : List ℕ). take c.args.len u) c.split_at.ensures.back in
    let place : from ≡ 1 + label_place text = ap (λ (n : ℕ). 1 + n) (c.label_start-from.ensures.count ∙ ap label_place same) in
    let count : c.label_bytes.result ≡ label_len (drop from text) = c.label_bytes.ensures.count
    ∙ ap label_len (c.split_at-3.ensures.back ∙ ap (λ (u : List ℕ). drop from u) same) in
    let room : from + c.label_bytes.result ≤ c.args.len = omega arith in
    start_is (cut bytes (c.args.at + from) (c.args.at + (from + c.label_bytes.result))) (label_of text)
    (label_is bytes c.args.at c.args.len from c.label_bytes.result c.requires.within room place count)
