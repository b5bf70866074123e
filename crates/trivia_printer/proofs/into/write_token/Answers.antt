use Rattle.std.proofs.Common.{◌≡◌, ◌≤◌, ℕ, ◌+◌, List, ◌++◌, length, ap, ◌∙◌, arith, length-append}
use Rattle.php_tree.specs.Tree.{token_bytes}
use Rattle.trivia_printer.specs.Written.{written}
use Rattle.trivia_printer.proofs.Buffers.{written_pair}
use Rattle.trivia_printer.proofs.into.write_token.Goals as goal

pub returns-clause-written : goal.returns-clause-written
returns-clause-written c =
    let xs = c.as_slice.result.now in
    let ys = c.as_slice-2.result.now in
    let same : xs ++ ys ≡ token_bytes c.args.token.now = ap (λ (bs : List ℕ). bs ++ ys) c.as_slice.ensures
    ∙ ap (λ (bs : List ℕ). c.args.token.now.lead ++ bs) c.as_slice-2.ensures in
    let long : length xs + length ys ≡ length (token_bytes c.args.token.now) = omega (arith, ap length same, length-append xs ys) in
    let room : c.args.at + length (token_bytes c.args.token.now) ≤ length c.args.out.now = c.requires in
    let le : c.args.at + length xs + length ys ≤ length c.args.out.now = omega arith in
    written_pair c.args.out.now c.write_bytes-middle.new.out c.write_bytes.new.out c.args.at
    c.write_bytes-middle.result xs ys c.write_bytes-middle.ensures.written c.write_bytes-middle.ensures.place
    c.write_bytes.ensures.written le
    ∙ ap (written c.args.out.now c.args.at) same
