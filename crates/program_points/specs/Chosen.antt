-- Pieces, as the code has them.
use Rattle.std.specs.Prelude.{◌≡◌, ℕ, nat_eq, Bool, true, false, List, [], ◌∷◌, Option, Some, None}
use Rattle.std.specs.Borrow.{Bor}
use Rattle.php_rows.specs.Reading.{forest_in}
use Rattle.program_points.specs.declared.case.Entry.{Entry}
use Rattle.program_points.specs.declared.point.Point.{Point}
use Rattle.program_points.specs.declared.piece.Piece.{Piece}
use Rattle.program_points.specs.declared.piece.Piece.TheVariants as piece
use Rattle.program_points.specs.declared.piece.Which.{Which}
use Rattle.program_points.specs.declared.piece.Which.TheVariants as which
use Rattle.program_points.specs.Rows.{first_default}
use Rattle.program_points.specs.Pieces.{Pieces, end, word, expr, stmt, other, pieces, exprs, stmts, steps, is_word, without_words}

-- a piece before others
abbrev pub piece_to : Piece → Pieces → Pieces
piece_to (piece.Word w) ps = word w.now ps
piece_to (piece.Expr n) ps = expr n ps
piece_to (piece.Stmt n) ps = stmt n ps
piece_to (piece.Other k n inner) ps = other k n (pieces inner.number (forest_in inner)) ps

-- some pieces before others
abbrev pub pieces_to : List Piece → Pieces → Pieces
pieces_to [] ps = ps
pieces_to (x ∷ xs) ps = piece_to x (pieces_to xs ps)

-- some pieces alone
abbrev pub pieces_of : List Piece → Pieces
pieces_of xs = pieces_to xs end

-- those that are meant
abbrev pub chosen : Which → Pieces → List ℕ
chosen which.Exprs ps = exprs ps
chosen which.Stmts ps = stmts ps
chosen which.Steps ps = steps ps

-- the number of a piece, where it is one of those
abbrev pub pick : Which → Piece → Option ℕ
pick which.Exprs (piece.Expr n) = Some n
pick which.Exprs (piece.Word w) = None
pick which.Exprs (piece.Stmt n) = None
pick which.Exprs (piece.Other k n inner) = None
pick which.Stmts (piece.Stmt n) = Some n
pick which.Stmts (piece.Word w) = None
pick which.Stmts (piece.Expr n) = None
pick which.Stmts (piece.Other k n inner) = None
pick which.Steps (piece.Expr n) = Some n
pick which.Steps (piece.Stmt n) = Some n
pick which.Steps (piece.Word w) = None
pick which.Steps (piece.Other k n inner) = None

-- the first of those that are meant, and the pieces behind it
abbrev pub IsNextOf : Which → Option (ℕ × Bor (List Piece)) → List ℕ → Type 0
IsNextOf w None ns = ns ≡ []
IsNextOf w (Some x) ns = ns ≡ x.0 ∷ chosen w (pieces_of x.1.now)

-- whether a piece is this word
abbrev pub is_this : List ℕ → Piece → Bool
is_this w (piece.Word t) = is_word w t.now
is_this w (piece.Expr n) = false
is_this w (piece.Stmt n) = false
is_this w (piece.Other k n inner) = false

-- the only two
abbrev pub pair_of : List ℕ → Option (ℕ × ℕ)
pair_of [] = None
pair_of (a ∷ []) = None
pair_of (a ∷ b ∷ []) = Some (a, b)
pair_of (a ∷ b ∷ c ∷ more) = None

-- the only three
abbrev pub three_of : List ℕ → Option (ℕ × ℕ × ℕ)
three_of [] = None
three_of (a ∷ []) = None
three_of (a ∷ b ∷ []) = None
three_of (a ∷ b ∷ c ∷ []) = Some (a, b, c)
three_of (a ∷ b ∷ c ∷ d ∷ more) = None

-- pieces with their words, where these are wanted
abbrev pub kept : Bool → Pieces → Pieces
kept true ps = ps
kept false ps = without_words ps

-- a word before pieces, where words are wanted
abbrev pub word_to : Bool → List ℕ → Pieces → Pieces
word_to true t ps = word t ps
word_to false t ps = ps

-- whether a piece is the statement with a number
abbrev pub is_stmt : ℕ → Piece → Bool
is_stmt n (piece.Stmt m) = nat_eq n m
is_stmt n (piece.Word w) = false
is_stmt n (piece.Expr m) = false
is_stmt n (piece.Other k m inner) = false

-- where the default starts, where this was found before, or else among these
abbrev pub default_behind : Option Point → List Entry → Option Point
default_behind (Some p) es = Some p
default_behind None es = first_default es
