-- The first line and the end of a heredoc before other bytes, and the pieces before the end.
use Rattle.std.specs.Prelude.{◌≡◌, ℕ, suc, Bool, false, true, not, ◌&&◌, nat_eq, List, [], ◌∷◌, ◌++◌, length}
use Rattle.php_tree.specs.declared.version.Version.{Version}
use Rattle.php_spellings.specs.declared.table.Kind.TheVariants.{HeredocStart, Piece, QuotedEnd}
use Rattle.php_spellings.specs.declared.table.Mark.TheVariants.{Here}
use Rattle.php_spellings.specs.Bytes.{is_line_end, begins_by}
use Rattle.php_lexer.specs.Heredocs.{no_label, ends_heredoc}
use Rattle.php_lexer.specs.Modes.{code, quoted, IsLongest}
use Rattle.php_relexing.specs.Labels.{is_label}

-- The closing label stays where no byte of a label follows.
abbrev pub HeredocEndsStay : Type 0
HeredocEndsStay =
    (v w : Version) (label t r s : List ℕ) →
    is_label label ≡ true →
    no_label s ≡ true →
    IsLongest v (quoted Here label true) (t ++ r) QuotedEnd (length t) →
    IsLongest w (quoted Here label true) (t ++ s) QuotedEnd (length t)

-- Pieces up to a line end stay where the next line ends the heredoc.
abbrev pub PiecesStayBeforeLabels : Type 0
PiecesStayBeforeLabels =
    (v w : Version) (label : List ℕ) (fresh : Bool) (x : List ℕ) (e : ℕ) (r s : List ℕ) →
    is_label label ≡ true →
    is_line_end e ≡ true →
    ends_heredoc label s ≡ true →
    IsLongest v (quoted Here label fresh) ((x ++ e ∷ []) ++ r) Piece (length (x ++ e ∷ [])) →
    IsLongest w (quoted Here label fresh) ((x ++ e ∷ []) ++ s) Piece (length (x ++ e ∷ []))

-- whether a text ends in a line feed; true behind one
abbrev pub ends_feed : Bool → List ℕ → Bool
ends_feed fed [] = fed
ends_feed fed (b ∷ bs) = ends_feed (nat_eq b 10) bs

-- The first line of a heredoc stays where its line end doesn't go on.
abbrev pub HeredocStartsStay : Type 0
HeredocStartsStay =
    (v w : Version) (a r s : List ℕ) →
    (not (ends_feed false a) && begins_by 10 s) ≡ false →
    IsLongest v code (60 ∷ 60 ∷ 60 ∷ a ++ r) HeredocStart (suc (suc (suc (length a)))) →
    IsLongest w code (60 ∷ 60 ∷ 60 ∷ a ++ s) HeredocStart (suc (suc (suc (length a))))
