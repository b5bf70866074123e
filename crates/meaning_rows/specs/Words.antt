-- The words that rows of whole programs are written in: tokens, and what runs come to.
use Rattle.std.specs.Prelude.{◌≡◌, ℕ, List, [], ◌∷◌, codes, pos, Option, Some, None}
use Prim.Native.String.{String}
use Rattle.php_tree.specs.declared.token.Token.{Token}
use Rattle.php_tree.specs.declared.token.TokenKind.{TokenKind}
use Rattle.php_tree.specs.declared.version.Version.{Version}
use Rattle.php_tree.specs.declared.version.Version.TheVariants.{V74, V83}
use Rattle.php_tree.specs.Tree.{Forest, leaf}
use Rattle.php_meaning.specs.Cause.{Cause}
use Rattle.php_meaning.specs.runs.World.{Bytes, Place, End, Going, Ended, Threw, Outside}
use Rattle.php_meaning.specs.runs.Input.{Input, nothing, item, SentText}
use Rattle.php_meaning.specs.runs.Run.{Program, run}

-- a token by its bytes, without trivia, and what follows it
abbrev pub b : TokenKind → Bytes → Forest → Forest
b kind text rest = leaf (record { kind = kind; lead = []; text = text; start = 0 }) rest

-- a token by its text
abbrev pub t : TokenKind → String → Forest → Forest
t kind text rest = b kind (codes text) rest

-- files by path
abbrev pub Files : Type 0
Files = List (Bytes × Forest)

-- one file
abbrev pub file : Forest → Files
file f = (codes "a.php", f) ∷ []

-- a run that ended with 0; one that has no meaning from a place on, whichever it is
abbrev pub ended : End
ended = Ended (pos 0)

abbrev pub nowhere : Place
nowhere = record { file = []; node = None }

abbrev pub outside : Cause → End
outside c = Outside nowhere c

abbrev pub without_place : End → End
without_place Going = Going
without_place (Ended i) = Ended i
without_place (Threw class) = Threw class
without_place (Outside p c) = outside c

-- the request of each row: `id=2`
abbrev pub input : Input
input = record { get = item (codes "id") (SentText (codes "2")) nothing; post = nothing; argv = [] }

-- what a run of at most so many turns from an entry echoes, and how it ends
abbrev pub came : ℕ → Version → Files → Bytes → Bytes × End
came n v files entry =
    let a = run v (record { files = files; prepend = None }) [] entry input n in
    (a.echo, without_place a.end)

-- What a program comes to in 7.4, and what the trees that 8.3 reads, of the same bytes or of the rewritten ones, come to
-- in 8.3.
abbrev pub Comes : ℕ → Files → Files → Bytes → Bytes × End → Bytes × End → Type 0
Comes n old new entry a b = (came n V74 old entry ≡ a) × (came n V83 new entry ≡ b)
