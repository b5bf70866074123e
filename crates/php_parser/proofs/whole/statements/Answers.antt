use Rattle.std.proofs.Common.{◌≡◌, ℕ, List, drop, sym, ap, subst, ◌∙◌}
use Rattle.php_tree.specs.declared.token.Token.{Token}
use Rattle.php_terminals.specs.Tokens.{tokens_in}
use Rattle.php_exprs.specs.Reading.{ReadsStatements}
use Rattle.php_parser.specs.Files.{ends_file}
use Rattle.php_parser.proofs.Files.{file_found}
use Rattle.php_parser.proofs.whole.statements.Goals as goal

pub returns-clause-found : goal.returns-clause-found
returns-clause-found c =
    let ts = tokens_in c.args.tokens in
    let x = c.in_ok-row.ensures.found in
    let ends = ap ends_file (ap (λ (n : ℕ). drop n ts) (sym c.at.ensures) ∙ sym c.behind.ensures.tokens) ∙ sym c.ends_file.ensures ∙ c.if-not-ends_file.false in
    let reads = subst (λ (n : ℕ). ReadsStatements c.args.version n ts x.0 x.1.0) c.bound.ensures x.1.1 in
    file_found c.args.version ts c.in_ok-row.row c.in_ok-row.deep x.0 x.1.0 reads x.1.2 ends
