use Rattle.std.proofs.Common.{◌≡◌, ◌∙◌, codes, string_bytes, subst, List, ℕ, ◌++◌}
use Rattle.review_answers.specs.Answers.{crlf, length_line_of, status_line_of}
use Rattle.review_answers.proofs.HeadLines.{five_lines}
use Rattle.review_answers.proofs.whole.head.Goals as goal

pub returns : goal.returns
returns c =
    five_lines (status_line_of c.args.code) (codes "Content-Type: application/json") (length_line_of c.args.length)
    (codes "Connection: close") (string_bytes c.new-text.result) (string_bytes c.add_line.new.text)
    (string_bytes c.add_line-2.new.text) (string_bytes c.add_line-3.new.text) (string_bytes c.add_line-4.new.text)
    (string_bytes c.add_line-5.new.text)
    c.new-text.ensures.bytes
    (subst (λ (s : List ℕ). string_bytes c.add_line.new.text ≡ string_bytes c.new-text.result ++ (s ++ crlf))
    (c.as_str.ensures.value ∙ c.in_ok-status.ensures) c.in_ok-add_line.ensures)
    c.in_ok-add_line-2.ensures
    (subst (λ (s : List ℕ). string_bytes c.add_line-3.new.text ≡ string_bytes c.add_line-2.new.text ++ (s ++ crlf))
    (c.as_str-2.ensures.value ∙ c.in_ok-length.ensures) c.in_ok-add_line-3.ensures)
    c.in_ok-add_line-4.ensures
    c.in_ok-add_line-5.ensures
