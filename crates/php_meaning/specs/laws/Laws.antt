-- Laws of runs.
use Rattle.std.specs.Prelude.{◌≡◌, ℕ, ◌+◌, IsTrue, List, [], ◌∷◌, ◌++◌}
use Rattle.php_tree.specs.declared.token.Token.{Token}
use Rattle.php_tree.specs.declared.version.Version.{Version}
use Rattle.php_tree.specs.declared.version.Version.TheVariants.{V74, V83}
use Rattle.php_tree.specs.declared.kind.NodeKind.TheVariants.{Paren}
use Rattle.php_tree.specs.declared.kind.NodeKind.{NodeKind}
use Rattle.php_tree.specs.Tree.{Forest, none, leaf, node}
use Rattle.php_meaning.specs.runs.Kinds.{is_expression}
use Rattle.php_meaning.specs.runs.World.{Bytes, End, Going, Ended, Threw, Outside}
use Rattle.php_meaning.specs.runs.Input.{Input}
use Rattle.php_meaning.specs.runs.Run.{Program, Mark, Result, Done, Over, Answer, is_newer, result_of, run}

-- the run stays inside the profile and reaches no mark
abbrev pub IsInside : End → Type 0
IsInside Going = Unit {0}
IsInside (Ended status) = Unit {0}
IsInside (Threw class) = Unit {0}
IsInside (Outside place cause) = ⊥

-- the same echo and the same end
pub record SameRun (a b : Answer) : Type 0 where
  pub echo : b.echo ≡ a.echo
  pub end : b.end ≡ a.end

-- ---- turns and marks

-- the first bytes are the front of the second ones
abbrev pub IsFrontOf : Bytes → Bytes → Type 0
IsFrontOf front whole = (rest : Bytes) × (whole ≡ front ++ rest)

-- the run came to an end within its turns
abbrev pub IsOver : End → Type 0
IsOver Going = ⊥
IsOver (Ended status) = Unit {0}
IsOver (Threw class) = Unit {0}
IsOver (Outside place cause) = Unit {0}

-- with more turns, a run echoes what it echoed, and maybe more
abbrev pub EchoGrows : Type 0
EchoGrows =
    (v : Version) (p : Program) (marks : List Mark) (entry : Bytes) (input : Input) (n more : ℕ)
    → IsFrontOf (run v p marks entry input n).echo (run v p marks entry input (n + more)).echo

-- a run that came to an end is the same with more turns
abbrev pub EndStays : Type 0
EndStays =
    (v : Version) (p : Program) (marks : List Mark) (entry : Bytes) (input : Input) (n more : ℕ)
    → IsOver (run v p marks entry input n).end
    → run v p marks entry input (n + more) ≡ run v p marks entry input n

-- where it goes on, no turn is left
abbrev pub IsSpent : Result → Type 0
IsSpent (Done o w) = Unit {0}
IsSpent (Over Going w) = w.turns ≡ 0
IsSpent (Over (Ended status) w) = Unit {0}
IsSpent (Over (Threw class) w) = Unit {0}
IsSpent (Over (Outside place cause) w) = Unit {0}

-- A run goes on past its bound only where it must take a turn and none is left: no other bound cuts it off.
abbrev pub GoingTookAllTurns : Type 0
GoingTookAllTurns =
    (v : Version) (p : Program) (marks : List Mark) (entry : Bytes) (input : Input) (n : ℕ)
    → IsSpent (result_of (is_newer v) p marks entry input n)

-- a run that stays inside with marks does the same without them
abbrev pub MarksOnlyStop : Type 0
MarksOnlyStop =
    (v : Version) (p : Program) (marks : List Mark) (entry : Bytes) (input : Input) (n : ℕ)
    → IsInside (run v p marks entry input n).end
    → SameRun (run v p marks entry input n) (run v p [] entry input n)

-- ---- versions

-- a 7.4 run that asks at no point where the versions differ is the 8.3 run
abbrev pub SameWhereUnasked : Type 0
SameWhereUnasked =
    (p : Program) (marks : List Mark) (entry : Bytes) (input : Input) (n : ℕ)
    → (run V74 p marks entry input n).asked ≡ [] → run V83 p marks entry input n ≡ run V74 p marks entry input n

-- A run that a claim on both versions is about: it stays inside, and asks at no point where the versions differ. (The
-- second is asked for as long as nothing is rewritten at such points.)
pub record IsCovered (a : Answer) : Type 0 where
  pub inside : IsInside a.end
  pub unasked : a.asked ≡ []

-- What the second program does in 8.3 is what the first one does in 7.4: from every entry, on every input and for every
-- bound, where the first run is covered, the second one has the same echo and the same end.
abbrev pub KeepsMeaning : Program → List Mark → Program → Type 0
KeepsMeaning source marks written =
    (entry : Bytes) (input : Input) (n : ℕ)
    → IsCovered (run V74 source marks entry input n)
    → SameRun (run V74 source marks entry input n) (run V83 written [] entry input n)

-- the same wherever the first run stays inside, whatever it asks
abbrev pub KeepsRuns : Program → List Mark → Program → Type 0
KeepsRuns source marks written =
    (entry : Bytes) (input : Input) (n : ℕ)
    → IsInside (run V74 source marks entry input n).end
    → SameRun (run V74 source marks entry input n) (run V83 written [] entry input n)

-- ---- parentheses

-- The second forest is the first one with some expressions in parentheses. Trivia and places of tokens don't count, nor
-- what the two tokens round a node are.
pub data Parenthesized : Forest → Forest → Type 0 where
  ends : Parenthesized none none
  token : {t u : Token} {f g : Forest} → u.kind ≡ t.kind → u.text ≡ t.text → Parenthesized f g → Parenthesized (leaf t f) (leaf u g)
  inner : {k : NodeKind} {c d f g : Forest} → Parenthesized c d → Parenthesized f g → Parenthesized (node k c f) (node k d g)
  parens : {k j : NodeKind} {c d f g : Forest} {o p : Token}
      → IsTrue (is_expression k) → Parenthesized (node k c none) (node j d none) → Parenthesized f g
      → Parenthesized (node k c f) (node Paren (leaf o (node j d (leaf p none))) g)

-- the same of the files of two programs, under the same paths
pub data AreParenthesized : List (Bytes × Forest) → List (Bytes × Forest) → Type 0 where
  no_files : AreParenthesized [] []
  file : {path : Bytes} {f g : Forest} {fs gs : List (Bytes × Forest)} → Parenthesized f g → AreParenthesized fs gs → AreParenthesized ((path, f) ∷ fs) ((path, g) ∷ gs)

-- In each version, parentheses change no run that stays inside.
abbrev pub ParensChangeNoRun : Type 0
ParensChangeNoRun =
    (v : Version) (source written : Program) (marks : List Mark)
    → AreParenthesized source.files written.files → written.prepend ≡ source.prepend
    → (entry : Bytes) (input : Input) (n : ℕ)
    → IsInside (run v source marks entry input n).end
    → SameRun (run v source marks entry input n) (run v written [] entry input n)

-- With parentheses, the newer version does what the older one did without them.
abbrev pub ParensKeepMeaning : Type 0
ParensKeepMeaning =
    (source written : Program) (marks : List Mark)
    → AreParenthesized source.files written.files → written.prepend ≡ source.prepend → KeepsMeaning source marks written
