-- A program's 7.4 run and another program's 8.3 run, where the first one asks for the version at rewritten nodes alone: each
-- of these keeps what it does by a law of its own, across the versions.
use Rattle.std.specs.Prelude.{◌≡◌, ℕ, zero, suc, ◌+◌, Bool, true, false, IsTrue, List, [], ◌∷◌, ◌++◌}
use Rattle.php_tree.specs.declared.token.Token.{Token}
use Rattle.php_tree.specs.declared.kind.NodeKind.{NodeKind}
use Rattle.php_tree.specs.declared.kind.NodeKind.TheVariants as kind
use Rattle.php_tree.specs.declared.version.Version.TheVariants.{V74, V83}
use Rattle.php_tree.specs.Tree.{Forest, none, leaf, node, count}
use Rattle.php_meaning.specs.runs.World.{Bytes, Place, Visit, Asked, World}
use Rattle.scope_names.specs.Sites.{Site, file_site, is_declaration, declarations, within, beside}
use Rattle.php_meaning.specs.names.Tables.{Tables, tables_of}
use Rattle.php_meaning.specs.runs.Script.{Mode}
use Rattle.php_meaning.specs.runs.Input.{Input}
use Rattle.php_meaning.specs.runs.Run.{Program, Mark, Result, Done, Over, Entry, place_in, place_of_file, step, declared_in, run}
use Rattle.php_meaning.specs.laws.Laws.{IsInside, SameRun}
use Rattle.php_meaning.specs.laws.Following.{Same, DoneAlike, OverAlike}
use Rattle.php_meaning.specs.laws.SameScripts.{HasScriptOf, HasNoRule, DeclareAlike}

-- What a claim on a run rests on: the places of nodes that a law of its own is about, at which alone the version may be asked;
-- and what each visit shows, as that the value in hand is of its expression's type.
pub record Claim : Type 0 where
  pub handled : Place → Bool
  pub good : Visit → Bool

abbrev pub AskedAt : (Place → Bool) → List Asked → Type 0
AskedAt handled [] = Unit {0}
AskedAt handled (a ∷ more) = IsTrue (handled a.place) × AskedAt handled more

abbrev pub Show : (Visit → Bool) → List Visit → Type 0
Show good [] = Unit {0}
Show good (v ∷ more) = IsTrue (good v) × Show good more

-- the claim's premises hold of what a world tells
abbrev pub Meets : Claim → World → Type 0
Meets claim w = AskedAt claim.handled w.asked × Show claim.good w.visits

-- the first list has the second one at its end
abbrev pub Extends : {A : Type 0} → List A → List A → Type 0
Extends {A} new old = (front : List A) × (new ≡ front ++ old)

abbrev pub world_in : Result → World
world_in (Done o w) = w
world_in (Over e w) = w

-- what the second world tells was told by the first one too, and then more
pub record Grown (new old : World) : Type 0 where
  pub asked : Extends new.asked old.asked
  pub visits : Extends new.visits old.visits

-- where the first meets the claim's premises and is not outside, the second does the same
abbrev pub FollowsAcross : Claim → Result → Result → Type 0
FollowsAcross claim (Done o w) r = Meets claim w → DoneAlike o w r
FollowsAcross claim (Over e w) r = Meets claim w → IsInside e → OverAlike e w r

pub record Across (claim : Claim) (m n : World → Result) : Type 0 where
  pub grows : (w : World) → Grown (world_in (m w)) w
  pub follows : (w u : World) → Same w u → FollowsAcross claim (m w) (n u)

-- A node that does in 8.3 what another one does in 7.4, whatever else runs. Neither is a declaration, and the declarations in
-- one do what those in the other do.
pub record DoesAcross (claim : Claim) (t t' : Tables) (s : Site) (k : NodeKind) (c : Forest) (j : NodeKind) (d : Forest) : Type 0 where
  pub node : (marks : List Mark) (lower low : Entry → World → Result) → ((e : Entry) → Across claim (lower e) (low e))
      → (id jd : ℕ) (m : Mode)
      → Across claim (step false t marks lower s (node k c none) id zero m) (step true t' [] low s (node j d none) jd zero m)
  pub inside : (marks : List Mark) (lower low : Entry → World → Result) → ((e : Entry) → Across claim (lower e) (low e))
      → (id jd n : ℕ) (m : Mode) (x y : World → Result) → Across claim x y
      → Across claim (declared_in false t marks lower (within k c s) c id n m x) (declared_in true t' [] low (within j d s) d jd n m y)
  pub declaration : is_declaration k ≡ false
  pub undeclared : is_declaration j ≡ false
  pub beside : beside j d s ≡ beside k c s

-- The second forest is the first one, whose first node has the number `id`, rewritten: nodes with the same script, which are
-- not among the handled places, some of them in parentheses; nodes that do the same across the versions; and any nodes in
-- place of those that have no rule.
pub data IsRewritten (claim : Claim) (t t' : Tables) : ℕ → Site → Forest → Forest → Type 0 where
  nothing : {id : ℕ} {s : Site} → IsRewritten claim t t' id s none none
  token_before : {id : ℕ} {s : Site} {u : Token} {f g : Forest} → IsRewritten claim t t' id s f g → IsRewritten claim t t' id s (leaf u f) g
  token_behind : {id : ℕ} {s : Site} {u : Token} {f g : Forest} → IsRewritten claim t t' id s f g → IsRewritten claim t t' id s f (leaf u g)
  same : {id : ℕ} {s : Site} {k j : NodeKind} {c d f g : Forest}
      → HasScriptOf t t' s k c j d → claim.handled (place_in s id) ≡ false
      → IsRewritten claim t t' (suc id) (within k c s) c d → IsRewritten claim t t' (suc (id + count c)) (beside k c s) f g
      → IsRewritten claim t t' id s (node k c f) (node j d g)
  replaced : {id : ℕ} {s : Site} {k j : NodeKind} {c d f g : Forest} → HasNoRule t s k c j d
      → IsRewritten claim t t' (suc (id + count c)) (beside k c s) f g → IsRewritten claim t t' id s (node k c f) (node j d g)
  kept : {id : ℕ} {s : Site} {k j : NodeKind} {c d f g : Forest} → DoesAcross claim t t' s k c j d
      → IsRewritten claim t t' (suc (id + count c)) (beside k c s) f g → IsRewritten claim t t' id s (node k c f) (node j d g)
  wrapped : {id : ℕ} {s : Site} {k j : NodeKind} {c d f g : Forest} {o p : Token}
      → beside k c s ≡ beside kind.Paren (leaf o (node j d (leaf p none))) s
      → IsRewritten claim t t' id s (node k c none) (node j d none)
      → IsRewritten claim t t' (suc (id + count c)) (beside k c s) f g
      → IsRewritten claim t t' id s (node k c f) (node kind.Paren (leaf o (node j d (leaf p none))) g)

-- the same of the files of two programs, under the same paths
pub data AreRewritten (claim : Claim) (t t' : Tables) : List (Bytes × Forest) → List (Bytes × Forest) → Type 0 where
  no_more : AreRewritten claim t t' [] []
  one_more : {path : Bytes} {f g : Forest} {fs gs : List (Bytes × Forest)}
      → IsRewritten claim t t' 0 (file_site path) f g → AreRewritten claim t t' fs gs
      → AreRewritten claim t t' ((path, f) ∷ fs) ((path, g) ∷ gs)

-- Where the 7.4 run of a program is not outside, asks at handled places alone and shows what the claim says, the 8.3 run of the rewritten program has
-- its echo and its end.
abbrev pub RewrittenRunsAcross : Type 0
RewrittenRunsAcross =
    (claim : Claim) (source written : Program) (marks : List Mark)
    → AreRewritten claim (tables_of source.files) (tables_of written.files) source.files written.files
    → DeclareAlike (tables_of source.files) (tables_of written.files) → written.prepend ≡ source.prepend
    → ((path : Bytes) → claim.handled (place_of_file path) ≡ false)
    → (entry : Bytes) (input : Input) (n : ℕ)
    → IsInside (run V74 source marks entry input n).end → AskedAt claim.handled (run V74 source marks entry input n).asked
    → Show claim.good (run V74 source marks entry input n).visits
    → SameRun (run V74 source marks entry input n) (run V83 written [] entry input n)
