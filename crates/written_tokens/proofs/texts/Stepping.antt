-- One tile of a row, and those behind it.
use Rattle.std.proofs.Common.{◌≡◌, ℕ, suc, false, List, ◌∷◌, ◌++◌, length, refl, sym, subst}
use Rattle.php_tree.specs.declared.version.Version.TheVariants.{V74}
use Rattle.php_spellings.specs.declared.table.Kind.{Kind}
use Rattle.php_lexer.specs.Modes.{Mode, html, code, named, quoted, offset, property, ModeStep, stay, enter, leave, code_mode_step, mode_step_of, IsLongest}
use Rattle.php_lexer.specs.Lexed.{Stack, stepped_by}
use Rattle.php_relexing.specs.Tiles.{Tile, tile, joined}
use Rattle.php_relexing.specs.Spelled.{Steps, step}
use Rattle.php_relexing.specs.Written.{is_var_name}
use Rattle.php_relexing.proofs.Passes.{passes_join}
use Rattle.php_relexing.proofs.WrittenTokens.{named_is_code}
use Rattle.written_tokens.specs.tokens.Levels.{stack_of}

-- the first tile is the longest of the mode, and the others go on behind it
pub record First (k : Stack) (kind : Kind) (b : ℕ) (a : List ℕ) (ts : List Tile) : Type 0 where
  pub longest : IsLongest V74 k.top (b ∷ a ++ joined ts) kind (suc (length a))
  pub more : Steps V74 (stepped_by (mode_step_of V74 k.top kind (b ∷ a) (joined ts)) k) ts

first_of : {k : Stack} {kind : Kind} {b : ℕ} {a : List ℕ} {ts : List Tile} → Steps V74 k (tile kind b a ∷ ts) → First k kind b a ts
first_of (step {stack = k} kind b a ts h p) = record {
  longest = h;
  more = subst (λ (x : Stack). Steps V74 x ts) (passes_join.mode_steps V74 k kind b a (joined ts)) p;
}

pub first : (k : Stack) (kind : Kind) (b : ℕ) (a : List ℕ) (ts : List Tile) → Steps V74 k (tile kind b a ∷ ts) → First k kind b a ts
first k kind b a ts h = first_of h

pub step_by : (k : Stack) (kind : Kind) (b : ℕ) (a : List ℕ) (ts : List Tile)
    → IsLongest V74 k.top (b ∷ a ++ joined ts) kind (suc (length a))
    → Steps V74 (stepped_by (mode_step_of V74 k.top kind (b ∷ a) (joined ts)) k) ts → Steps V74 k (tile kind b a ∷ ts)
step_by k kind b a ts h p = step kind b a ts h (subst (λ (x : Stack). Steps V74 x ts) (sym (passes_join.mode_steps V74 k kind b a (joined ts))) p)

-- ---- directly behind `${`

same_mode_step : (t : ModeStep) (below : List Mode) (depth : ℕ) → stepped_by t (stack_of named below depth) ≡ stepped_by t (stack_of code below depth)
same_mode_step (stay m) below depth = refl
same_mode_step (enter html under) below depth = refl
same_mode_step (enter code under) below depth = refl
same_mode_step (enter named under) below depth = refl
same_mode_step (enter (quoted mark label fresh) under) below depth = refl
same_mode_step (enter offset under) below depth = refl
same_mode_step (enter property under) below depth = refl
same_mode_step leave below depth = refl

-- what begins with no name steps on as code
pub named_steps : (below : List Mode) (depth : ℕ) (kind : Kind) (b : ℕ) (a : List ℕ) (ts : List Tile)
    → is_var_name kind ≡ false → Steps V74 (stack_of named below depth) (tile kind b a ∷ ts)
    → Steps V74 (stack_of code below depth) (tile kind b a ∷ ts)
named_steps below depth kind b a ts h steps =
    let at = first (stack_of named below depth) kind b a ts steps in
    step_by (stack_of code below depth) kind b a ts
    (named_is_code.other V74 (b ∷ a ++ joined ts) kind (suc (length a)) h at.longest)
    (subst (λ (x : Stack). Steps V74 x ts) (same_mode_step (code_mode_step kind (b ∷ a)) below depth) at.more)
