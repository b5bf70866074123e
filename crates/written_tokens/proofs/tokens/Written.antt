-- A rewritten file has its tokens where a row of 7.4 has them but for names.
use Rattle.std.proofs.Common.{ℕ, List, [], map, refl, sym, ◌∙◌, subst}
use Rattle.php_tree.specs.declared.version.Version.TheVariants.{V83}
use Rattle.php_tree.specs.Tree.{file_leaves}
use Rattle.php_lexer.specs.Lexed.{Lexeme, Lexed, start, lexeme, TokensOf}
use Rattle.php_lexer.proofs.LawProofs.{no_byte_lost}
use Rattle.php_relexing.specs.Tiles.{joined}
use Rattle.php_relexing.specs.Spelled.{spelled}
use Rattle.tracked_changes.specs.Draft.{rewritten, rewritten_token, rewritten_file}
use Rattle.written_tokens.specs.tokens.Whole.{whole_tokens}
use Rattle.written_tokens.specs.tokens.Written.{RowsAreWritten}
use Rattle.written_tokens.proofs.tokens.Placing.{file_placed, file_bytes, rewritten_has_tokens}
use Rattle.written_tokens.proofs.tokens.Spelled.{tokens_in_newer}

pub rows_are_written : RowsAreWritten
rows_are_written d us steps common apart same =
    let lexed : Lexed V83 start [] (joined us) (whole_tokens (spelled [] us)) = tokens_in_newer start [] us refl common apart steps in
    let tokens : Lexed V83 start [] (joined us) (map lexeme (file_leaves (rewritten_file d))) =
    subst (λ (l : List Lexeme). Lexed V83 start [] (joined us) l) (same ∙ sym (rewritten_has_tokens d)) lexed in
    let there : TokensOf V83 (joined us) (file_leaves (rewritten_file d)) =
    record {
      lexed = tokens;
      placed =
          file_placed (record { statements = rewritten d.statements; end = rewritten_token d.end });
    } in
    subst (λ (u : List ℕ). TokensOf V83 u (file_leaves (rewritten_file d)))
    (sym (no_byte_lost V83 (joined us) (file_leaves (rewritten_file d)) there) ∙ file_bytes (rewritten_file d))
    there
