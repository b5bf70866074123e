-- The texts that tokens of a source have.
use Rattle.std.specs.Prelude.{ℕ, Bool, true, not, ◌&&◌, ◌||◌, List, codes}
use Rattle.std.specs.Str.{bytes_eq}
use Rattle.php_tree.specs.declared.token.TokenKind.{TokenKind}
use Rattle.php_tree.specs.declared.token.TokenKind.TheVariants as token
use Rattle.php_spellings.specs.Bytes.{is_empty}
use Rattle.php_terminals.specs.Classify.{cast}
use Rattle.syntax_rules.specs.Casts.{bare}
use Rattle.rewritten_shapes.specs.Laws.{has_no_root, is_old}

-- Whether a text is one that a source's token of a kind has, where the kind is a label's (PHP manual, "Variables: Basics"), a
-- cast's or that of `${`: a label has no `\`, and a cast that 8.3 lacks is `(real)` or `(unset)`.
abbrev pub is_source_text : TokenKind → List ℕ → Bool
is_source_text token.Label text = not (is_empty text) && has_no_root text
is_source_text token.Cast text =
    not (is_old (cast text)) || (bytes_eq (bare text) (codes "(real)") || bytes_eq (bare text) (codes "(unset)"))
is_source_text token.DollarBrace text = bytes_eq text (codes "${")
is_source_text _ text = true
