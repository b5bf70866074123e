-- A whole file, step by step.
use Rattle.std.proofs.Common.{◌≡◌, ℕ, zero, true, false, ap, ◌∙◌}
use Rattle.php_tree.specs.declared.token.Token.{Token}
use Rattle.php_tree.specs.Tree.{Forest, File, file_leaves}
use Rattle.php_tree.specs.Places.{end_of}
use Rattle.php_terminals.specs.declared.terminal.Terminal.TheVariants.{End}
use Rattle.tracked_changes.specs.Draft.{token_pieces}
use Rattle.syntax_rules.specs.Around.{at_top}
use Rattle.syntax_rules.specs.declared.rules.Rules.{Rules}
use Rattle.syntax_rules.specs.Together.{token_by}
use Rattle.syntax_upgrade.specs.declared.progress.Progress.TheVariants as code
use Rattle.syntax_upgrade.specs.Enums.{enums}
use Rattle.syntax_upgrade.specs.Labels.{Labels, label_next, labels_in, no_labels}
use Rattle.syntax_upgrade.specs.Laws.{file_next}
use Rattle.syntax_upgrade.specs.OffPlaces.{Off, no_off, off_in, off_reports, trivia_off}
use Rattle.syntax_upgrade.specs.Progress.{left_walked}
use Rattle.syntax_upgrade.specs.Steps.{recorded_next}
use Rattle.syntax_upgrade.specs.Writing.{front, pieces_next}
use Rattle.syntax_upgrade.specs.Written.{Written, at_front}
use Rattle.syntax_upgrade.proofs.Labelled.{labels_are}
use Rattle.syntax_upgrade.proofs.Walking.{top_written}

pub file_steps : (r : Rules) (f : File) (g : Forest) (x : Token) (start walked ended : Written) → g ≡ f.statements → x ≡ f.end → start ≡ at_front front
    → walked ≡ left_walked r (code.Names false zero) at_top true g start
    → ended ≡ recorded_next (pieces_next (token_pieces (token_by r x))) walked → ended.recorded ≡ file_next r f
file_steps r f g x start walked ended a b d e h =
    ap (λ (w : Written). w.recorded) h
    ∙ ap (λ (t : Token). pieces_next (token_pieces (token_by r t)) walked.recorded) b
    ∙ ap (λ (w : Written). pieces_next (token_pieces (token_by r f.end)) w.recorded)
    (e
    ∙ ap (λ (v : Forest). left_walked r (code.Names false zero) at_top true v start) a
    ∙ ap (λ (w : Written). left_walked r (code.Names false zero) at_top true f.statements w) d
    ∙ top_written r f.statements (at_front front))

pub label_steps : (f : File) (g : Forest) (x : Token) (place : ℕ) (start walked ended : Labels) → g ≡ f.statements → x ≡ f.end
    → start ≡ no_labels → place ≡ end_of 0 g → walked ≡ labels_in 0 g start → ended ≡ label_next place x walked
    → ended.found ≡ enums End 0 (file_leaves f)
label_steps f g x place start walked ended a b d e h i =
    ap (λ (s : Labels). s.found) i
    ∙ ap (λ (n : ℕ). (label_next n x walked).found) (e ∙ ap (λ (v : Forest). end_of 0 v) a)
    ∙ ap (λ (t : Token). (label_next (end_of 0 f.statements) t walked).found) b
    ∙ ap (λ (s : Labels). (label_next (end_of 0 f.statements) f.end s).found)
    (h ∙ ap (λ (v : Forest). labels_in 0 v start) a ∙ ap (λ (s : Labels). labels_in 0 f.statements s) d)
    ∙ labels_are f

pub off_steps : (r : Rules) (f : File) (g : Forest) (x : Token) (place : ℕ) (start walked ended : Off) → g ≡ f.statements → x ≡ f.end
    → start ≡ no_off → place ≡ end_of 0 g → walked ≡ off_in r at_top true zero 0 g start → ended ≡ trivia_off r place x walked
    → ended.found ≡ off_reports r f
off_steps r f g x place start walked ended a b d e h i =
    ap (λ (s : Off). s.found) i
    ∙ ap (λ (n : ℕ). (trivia_off r n x walked).found) (e ∙ ap (λ (v : Forest). end_of 0 v) a)
    ∙ ap (λ (t : Token). (trivia_off r (end_of 0 f.statements) t walked).found) b
    ∙ ap (λ (s : Off). (trivia_off r (end_of 0 f.statements) f.end s).found)
    (h ∙ ap (λ (v : Forest). off_in r at_top true zero 0 v start) a ∙ ap (λ (s : Off). off_in r at_top true zero 0 f.statements s) d)
