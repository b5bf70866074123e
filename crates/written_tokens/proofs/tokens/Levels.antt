-- Tiles that open and close in pairs leave the modes below as they are.
use Rattle.std.proofs.Common.{◌≡◌, ℕ, suc, Bool, true, false, cond, List, ◌∷◌, ◌++◌, refl, sym, ap, ◌∙◌, subst}
use Rattle.php_tree.specs.declared.version.Version.{Version}
use Rattle.php_lexer.specs.Modes.{Mode, html, code, named, quoted, offset, property, ModeStep, enter, leave}
use Rattle.php_lexer.specs.Lexed.{effect, deeper, less_one, stepped_by}
use Rattle.php_relexing.specs.Tiles.{Tile, tile}
use Rattle.php_relexing.specs.Passes.{Pass, nothing, then}
use Rattle.php_relexing.proofs.Passes.{passes_join}
use Rattle.written_tokens.specs.tokens.Levels.{is_quoted, Level, none, flat, deep, stack_of, LevelsPass}

entered : (top up under : Mode) (n : ℕ) → deeper (effect top (enter up under)) n ≡ cond (is_quoted up) (suc n) n
entered html html under n = refl
entered html code under n = refl
entered html named under n = refl
entered html (quoted mark2 label2 fresh2) under n = refl
entered html offset under n = refl
entered html property under n = refl
entered code html under n = refl
entered code code under n = refl
entered code named under n = refl
entered code (quoted mark2 label2 fresh2) under n = refl
entered code offset under n = refl
entered code property under n = refl
entered named html under n = refl
entered named code under n = refl
entered named named under n = refl
entered named (quoted mark2 label2 fresh2) under n = refl
entered named offset under n = refl
entered named property under n = refl
entered (quoted mark label fresh) html under n = refl
entered (quoted mark label fresh) code under n = refl
entered (quoted mark label fresh) named under n = refl
entered (quoted mark label fresh) (quoted mark2 label2 fresh2) under n = refl
entered (quoted mark label fresh) offset under n = refl
entered (quoted mark label fresh) property under n = refl
entered offset html under n = refl
entered offset code under n = refl
entered offset named under n = refl
entered offset (quoted mark2 label2 fresh2) under n = refl
entered offset offset under n = refl
entered offset property under n = refl
entered property html under n = refl
entered property code under n = refl
entered property named under n = refl
entered property (quoted mark2 label2 fresh2) under n = refl
entered property offset under n = refl
entered property property under n = refl

left : (low : Mode) (n : ℕ) → deeper (effect low leave) n ≡ cond (is_quoted low) (less_one n) n
left html n = refl
left code n = refl
left named n = refl
left (quoted mark label fresh) n = refl
left offset n = refl
left property n = refl

back : (b : Bool) (n : ℕ) → cond b (less_one (cond b (suc n) n)) (cond b (suc n) n) ≡ n
back true n = refl
back false n = refl

same_depth : (top up under low : Mode) (n : ℕ) → is_quoted up ≡ is_quoted low → deeper (effect low leave) (deeper (effect top (enter up under)) n) ≡ n
same_depth top up under low n h =
    left low (deeper (effect top (enter up under)) n)
    ∙ ap (λ (d : ℕ). cond (is_quoted low) (less_one d) d) (entered top up under n)
    ∙ ap (λ (b : Bool). cond b (less_one (cond (is_quoted up) (suc n) n)) (cond (is_quoted up) (suc n) n)) (sym h)
    ∙ back (is_quoted up) n

passed : {v : Version} {rest : List ℕ} {m n : Mode} {ts : List Tile} → Level v rest m ts n
    → (below : List Mode) (depth : ℕ) → Pass v rest (stack_of m below depth) ts (stack_of n below depth)
passed none below depth = nothing
passed (flat {v} {rest} {m} {n} to kind b a ts h mode_step more) below depth =
    then kind b a ts h
    (subst (λ (t : ModeStep). Pass v rest (stepped_by t (stack_of m below depth)) ts (stack_of n below depth)) (sym mode_step) (passed more below depth))
passed (deep {v} {rest} {m} {n} up under low kind b a ts k c e us h mode_step inner close out same more) below depth =
    let d : ℕ = deeper (effect m (enter up under)) depth in
    let last : Pass v rest (stack_of under below (deeper (effect low leave) (deeper (effect m (enter up under)) depth))) us (stack_of n below depth) =
    subst (λ (x : ℕ). Pass v rest (stack_of under below x) us (stack_of n below depth)) (sym (same_depth m up under low depth same)) (passed more below depth) in
    let shut : Pass v rest (stack_of low (under ∷ below) (deeper (effect m (enter up under)) depth)) (tile k c e ∷ us) (stack_of n below depth) =
    then k c e us close
    (subst (λ (t : ModeStep). Pass v rest (stepped_by t (stack_of low (under ∷ below) (deeper (effect m (enter up under)) depth))) us (stack_of n below depth)) (sym out) last) in
    let whole = passes_join.join v rest (stack_of up (under ∷ below) (deeper (effect m (enter up under)) depth))
    (stack_of low (under ∷ below) (deeper (effect m (enter up under)) depth)) (stack_of n below depth) ts
    (tile k c e ∷ us) (passed inner (under ∷ below) (deeper (effect m (enter up under)) depth)) shut in
    then kind b a (ts ++ tile k c e ∷ us) h
    (subst (λ (t : ModeStep). Pass v rest (stepped_by t (stack_of m below depth)) (ts ++ tile k c e ∷ us) (stack_of n below depth)) (sym mode_step) whole)

pub levels_pass : LevelsPass
levels_pass v rest m n ts h below depth = passed h below depth
