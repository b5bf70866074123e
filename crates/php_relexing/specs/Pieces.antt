-- Pieces of quoted texts in the bytes that were written.
use Rattle.std.specs.Prelude.{◌≡◌, ℕ, Bool, false, true, not, ◌&&◌, ◌||◌, nat_eq, List, [], ◌∷◌, ◌++◌, length}
use Rattle.php_tree.specs.declared.version.Version.{Version}
use Rattle.php_spellings.specs.declared.table.Kind.TheVariants.{Piece}
use Rattle.php_spellings.specs.declared.table.Mark.{Mark}
use Rattle.php_spellings.specs.declared.table.Mark.TheVariants.{Double, Back, Here}
use Rattle.php_spellings.specs.Bytes.{begins_by}
use Rattle.php_lexer.specs.Tails.{begins_part}
use Rattle.php_lexer.specs.Modes.{quoted, IsLongest}
use Rattle.php_relexing.specs.Labels.{is_label}

-- whether `$` and a label, `${` or `{$` begins here
abbrev pub part_begins : List ℕ → Bool
part_begins [] = false
part_begins (b ∷ bs) = begins_part b bs

-- whether a text ends in a `$` that no backslash takes along; true behind a backslash
abbrev pub ends_dollar : Bool → List ℕ → Bool
ends_dollar escaped [] = false
ends_dollar escaped (b ∷ []) = not escaped && nat_eq b 36
ends_dollar escaped (b ∷ c ∷ bs) = ends_dollar (not escaped && nat_eq b 92) (c ∷ bs)

-- a backslash before the last byte
abbrev pub escape_last : List ℕ → List ℕ
escape_last [] = []
escape_last (b ∷ []) = 92 ∷ b ∷ []
escape_last (b ∷ c ∷ bs) = b ∷ escape_last (c ∷ bs)

-- the label of a heredoc is one; other quoted texts have none
abbrev pub is_labelled : Mark → List ℕ → Bool
is_labelled Double label = true
is_labelled Back label = true
is_labelled Here label = is_label label

-- whether the second bytes begin as the first do, or with `{` where those begin with `$`
abbrev pub fronts : List ℕ → List ℕ → Bool
fronts r s = begins_by 36 r && begins_by 36 s || (begins_by 123 r || begins_by 36 r) && begins_by 123 s

abbrev pub is_heredoc : Mark → Bool
is_heredoc Double = false
is_heredoc Back = false
is_heredoc Here = true

-- A piece stays before a part that begins as that in the source, and before `{$` in place of another part where it
-- doesn't end in a bare `$`.
abbrev pub PiecesStayBeforeParts : Type 0
PiecesStayBeforeParts =
    (v w : Version) (mark : Mark) (label : List ℕ) (fresh : Bool) (a r s : List ℕ) →
    is_labelled mark label ≡ true →
    part_begins r ≡ true →
    part_begins s ≡ true →
    fronts r s ≡ true →
    (begins_by 123 s && ends_dollar false a) ≡ false →
    IsLongest v (quoted mark label fresh) (a ++ r) Piece (length a) →
    IsLongest w (quoted mark label fresh) (a ++ s) Piece (length a)

-- A piece that ends in a bare `$` is one before `{$` with a backslash before the `$`.
abbrev pub EscapedPiecesStay : Type 0
EscapedPiecesStay =
    (v w : Version) (mark : Mark) (label : List ℕ) (fresh : Bool) (a r s : List ℕ) →
    is_labelled mark label ≡ true →
    part_begins s ≡ true →
    ends_dollar false a ≡ true →
    IsLongest v (quoted mark label fresh) (a ++ r) Piece (length a) →
    IsLongest w (quoted mark label fresh) (escape_last a ++ s) Piece (length (escape_last a))

-- the byte that closes a quoted text other than a heredoc
abbrev pub closing : Mark → ℕ
closing Double = 34
closing Back = 96
closing Here = 10

-- A piece stays before the closing byte of its text.
abbrev pub PiecesStayBeforeEnds : Type 0
PiecesStayBeforeEnds =
    (v w : Version) (mark : Mark) (label : List ℕ) (fresh : Bool) (a r s : List ℕ) →
    is_heredoc mark ≡ false →
    IsLongest v (quoted mark label fresh) (a ++ closing mark ∷ r) Piece (length a) →
    IsLongest w (quoted mark label fresh) (a ++ closing mark ∷ s) Piece (length a)
