-- A token of code that leaves the stack as it is.
use Rattle.std.proofs.Common.{◌≡◌, ℕ, List, take, drop, refl, sym, ap, ◌∙◌, subst}
use Rattle.php_tree.specs.declared.version.Version.{Version}
use Rattle.php_spellings.specs.declared.table.Kind.{Kind}
use Rattle.php_lexer.specs.declared.fault.LexFault.{LexFault}
use Rattle.php_lexer.specs.declared.modes.Mode.{Mode as CodeMode}
use Rattle.php_lexer.specs.declared.modes.Mode.TheVariants.{Code}
use Rattle.php_lexer.specs.declared.modes.ModeStep.TheVariants.{Stay}
use Rattle.php_lexer.specs.Modes.{code, stay, code_mode_step}
use Rattle.php_lexer.specs.Views.{IsStepped}

in_code : (v : Version) (bytes : List ℕ) (kind : Kind) (at n : ℕ) (ms : List CodeMode) (fs : List LexFault)
    → code_mode_step kind (take n (drop at bytes)) ≡ stay code → IsStepped v bytes Code kind at n ms Code ms fs fs
in_code v bytes kind at n ms fs e = record { mode_step = Stay Code; seen = sym e; after = λ b. (refl, refl); noted = λ b. refl }

pub stayed : (v : Version) (bytes : List ℕ) (m : CodeMode) (kind : Kind) (at n : ℕ) (ms : List CodeMode)
    (fs : List LexFault) (text : List ℕ) → text ≡ take n (drop at bytes) → m ≡ Code → code_mode_step kind text ≡ stay code
    → IsStepped v bytes m kind at n ms m ms fs fs
stayed v bytes m kind at n ms fs text t is e =
    let P : CodeMode → Type 0 = λ x. IsStepped v bytes x kind at n ms x ms fs fs in
    subst P (sym is) (in_code v bytes kind at n ms fs (ap (code_mode_step kind) (sym t) ∙ e))
