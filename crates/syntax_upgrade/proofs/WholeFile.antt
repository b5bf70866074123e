-- The bytes and the number of edits of a file are those that the tokens of its draft write.
use Rattle.std.proofs.Common.{◌≡◌, Bool, true, false, if◌then◌else◌, ◌++◌, ap, sym, ◌∙◌}
use Rattle.php_tree.specs.Tree.{File}
use Rattle.tracked_changes.specs.Draft.{Draft, token_pieces, pieces, file_pieces}
use Rattle.tracked_changes.proofs.Splicing.{file_printed-rewritten}
use Rattle.syntax_rules.specs.Around.{at_top}
use Rattle.syntax_rules.specs.declared.rules.Rules.{Rules}
use Rattle.syntax_rules.specs.Together.{names_by, token_by}
use Rattle.syntax_rules.specs.SplitName.{whole_names, split_name}
use Rattle.syntax_rules.specs.Rewritten.{draft_by}
use Rattle.syntax_upgrade.specs.Writing.{Recorded, front, pieces_next}
use Rattle.syntax_upgrade.specs.Written.{Written, at_front, draft_next}
use Rattle.syntax_rules.specs.InContext.{parts_by}
use Rattle.syntax_upgrade.specs.Laws.{EditsAreWritten, file_next}
use Rattle.syntax_rules.proofs.InContext.{drafted_by_is}
use Rattle.syntax_upgrade.proofs.Recording.{edits_written, out_written}
use Rattle.syntax_upgrade.proofs.Tokens.{draft_as_is, draft_written, pieces_append}

-- a draft, written from the front
split_written : (n : Bool) (d : Draft)
    → (draft_next n (whole_names n d) (at_front front)).recorded ≡ pieces_next (pieces (if n then split_name d else whole_names false d)) front
split_written true d = ap (λ (w : Written). w.recorded) (draft_written false (whole_names true d) front)
split_written false d = ap (λ (w : Written). w.recorded) (draft_as_is false (whole_names false d) front)

-- the pieces of a file, written one after another
file_written : (r : Rules) (f : File) → file_next r f ≡ pieces_next (file_pieces (draft_by r f)) front
file_written r f =
    let d = parts_by r at_top true f.statements in
    let end = token_pieces (token_by r f.end) in
    ap (pieces_next end) (split_written r.split_names d)
    ∙ sym (pieces_append (pieces (names_by r d)) end front)
    ∙ ap (λ (x : Draft). pieces_next (pieces (names_by r x) ++ end) front) (sym (drafted_by_is r f.statements))

pub files_are_written : EditsAreWritten
files_are_written r f = record {
  bytes = ap (λ (w : Recorded). w.out) (file_written r f) ∙ out_written (file_pieces (draft_by r f)) front ∙ sym (file_printed-rewritten (draft_by r f));
  edits = ap (λ (w : Recorded). w.edits) (file_written r f) ∙ edits_written (file_pieces (draft_by r f));
}
