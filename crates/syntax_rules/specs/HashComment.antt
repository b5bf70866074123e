-- Comments that begin `#[`. From 8.0 on `#[` begins an attribute. (RFC "Shorter Attribute Syntax", UPGRADING 8.0.)
use Rattle.std.specs.Prelude.{◌≡◌, ℕ, Bool, false, ◌==◌, ◌&&◌, ◌||◌, if◌then◌else◌, List, [], ◌∷◌, ◌++◌, codes}
use Rattle.php_tree.specs.declared.token.Token.{Token}
use Rattle.tracked_changes.specs.Pieces.{Piece, kept, changed, after}
use Rattle.tracked_changes.specs.Draft.{NewToken}
use Rattle.tracked_changes.specs.Walk.{TokensKeepBytes}

-- Where a byte of a token's trivia stands. (PHP manual, "Comments": `//` and `#` go up to the line's end, `/*` up to `*/`. A
-- line comment ends before `?>` too, which is a token, so that the trivia end there.)
pub data Standing : Type 0 where
  -- in no comment, or at the first byte of one
  outside : Standing
  -- at the `*` of `/*`
  opening : Standing
  block : Standing
  -- at the `/` of `*/`
  closing : Standing
  line : Standing

-- whether the next byte is this one
abbrev pub next_is : ℕ → List ℕ → Bool
next_is n [] = false
next_is n (b ∷ bs) = b == n

-- where the next byte stands behind one outside comments: `#` is 35, `/` 47 and `*` 42
abbrev pub behind_outside : ℕ → List ℕ → Standing
behind_outside b bs =
    if b == 35 || (b == 47 && next_is 47 bs) then line
    else (if b == 47 && next_is 42 bs then opening else outside)

-- where the next byte stands
abbrev pub moved : Standing → ℕ → List ℕ → Standing
moved outside b bs = behind_outside b bs
moved opening b bs = block
moved block b bs = if b == 42 && next_is 47 bs then closing else block
moved closing b bs = outside
moved line b bs = if b == 10 || b == 13 then outside else line

-- whether a comment begins `#[` here: `[` is 91
abbrev pub begins_hash : Standing → ℕ → List ℕ → Bool
begins_hash outside b bs = b == 35 && next_is 91 bs
begins_hash _ b bs = false

-- The edit: a space is put in behind the `#`. No such comment is kept, and none is undecided.
abbrev pub spaced : Standing → List ℕ → List Piece
spaced s [] = []
spaced s (b ∷ bs) =
    kept (b ∷ []) ∷ (if begins_hash s b bs then changed [] (codes " ") ∷ [] else []) ++ spaced (moved s b bs) bs

abbrev pub hash_comment : Token → NewToken
hash_comment t = record { kind = t.kind; lead = spaced outside t.lead; text = kept t.text ∷ [] }

-- trivia in which none is put in, byte by byte
abbrev pub untouched : List ℕ → List Piece
untouched [] = []
untouched (b ∷ bs) = kept (b ∷ []) ∷ untouched bs

-- the trivia of a token, where the rule is on or off
abbrev pub lead_by : Bool → List ℕ → List Piece
lead_by is_on lead = if is_on then spaced outside lead else untouched lead

-- comments in one lead, those of other kinds among them
abbrev pub HashRow : Type 0
HashRow =
    after (spaced outside (codes " #[A]\n/* #[B] */ #C #[D]\n// #[E]\n/*/ #[F] */#[G"))
    ≡ codes " # [A]\n/* #[B] */ #C #[D]\n// #[E]\n/*/ #[F] */# [G"

-- The edit keeps the source's bytes, and writes what the row says.
abbrev pub HashCommentIsWritten : Type 0
HashCommentIsWritten = TokensKeepBytes hash_comment × HashRow
