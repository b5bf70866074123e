use Rattle.std.proofs.Common.{ℕ, sym, ap, ◌∙◌, arith}
use Rattle.php_spellings.specs.Words.{keywords, words_by, is_word_of}
use Rattle.php_spellings.proofs.KeywordLemmas.{by_first}
use Rattle.php_spellings.proofs.keywords.keyword.Goals as goal

pub returns-in-len1-up : goal.returns-in-len1-up
returns-in-len1-up c = c.keyword_on.ensures ∙ ap (λ (l : ℕ). is_word_of (words_by l keywords) c.args.text.now) c.lower.ensures ∙ sym (by_first c.args.text.now (omega arith))
