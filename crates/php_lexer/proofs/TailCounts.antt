-- What the rows count is the longest.
use Rattle.std.proofs.Common.{ℕ, List, [], ◌∷◌, refl}
use Rattle.php_spellings.specs.declared.table.State.TheVariants.{First}
use Rattle.php_spellings.specs.declared.table.Tail.{Tail}
use Rattle.php_spellings.specs.declared.table.Tail.TheVariants.{When, AnyRun, SomeOf, UpTo, Shaped, AnyWord, BracedName, EndLine, NowdocRest}
use Rattle.php_spellings.specs.Bytes.{lower}
use Rattle.php_lexer.specs.Heredocs.{led}
use Rattle.php_lexer.specs.Rules.{Row, rule, follows, is_tail, kind_by}
use Rattle.php_lexer.specs.Scan.{tail_len, behind, scan_by}
use Rattle.php_lexer.proofs.Counts.{Describes, Sorts, sorts_row, describes_run, describes_some_run, describes_until}
use Rattle.php_lexer.proofs.Behind.{describes_behind, describes_nothing}
use Rattle.php_lexer.proofs.ShapeCounts.{describes_shape}
use Rattle.php_lexer.proofs.WordCounts.{describes_word, describes_name}
use Rattle.php_lexer.proofs.HeredocCounts.{describes_end_line, describes_nowdoc}

pub describes_tail : (label : List ℕ) (tail : Tail) (bs : List ℕ) → Describes (is_tail label tail) bs (tail_len label tail bs)
describes_tail label (When f) bs = describes_nothing (follows f) bs
describes_tail label (AnyRun r) bs = describes_run r label First bs
describes_tail label (SomeOf r s) bs = describes_some_run r label s bs
describes_tail label (UpTo u) bs = describes_until u First bs
describes_tail label (Shaped sh s) bs = describes_shape sh s bs
describes_tail label AnyWord bs = describes_word bs
describes_tail label BracedName bs = describes_name bs
describes_tail label EndLine bs = describes_end_line label bs
describes_tail label NowdocRest bs = describes_nowdoc bs

pub sorts_by : (label : List ℕ) (rows : List Row) (bs : List ℕ) → Sorts (kind_by label rows) bs (scan_by label rows bs)
sorts_by label [] bs = λ m le. refl
sorts_by label (rule kind w tail ∷ rows) bs = sorts_row kind (led lower w (is_tail label tail)) (kind_by label rows)
    bs (behind lower w (tail_len label tail) bs) (scan_by label rows bs)
    (describes_behind lower w (is_tail label tail) (tail_len label tail) (describes_tail label tail) bs)
    (sorts_by label rows bs)
