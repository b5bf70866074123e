-- Files in which no place of a rule that is off is found.
use Rattle.std.proofs.Common.{◌≡◌, zero, Bool, true, false, if◌then◌else◌, [], refl, ap, sym, ◌∙◌}
use Rattle.php_tree.specs.Tree.{File}
use Rattle.php_tree.specs.Places.{end_of}
use Rattle.tracked_changes.specs.Draft.{NewToken, Draft, FileDraft, rewritten_file}
use Rattle.tracked_changes.specs.Edits as draft
use Rattle.syntax_rules.specs.declared.rules.Rules.{Rules}
use Rattle.syntax_rules.specs.Around.{at_top}
use Rattle.syntax_rules.specs.InContext.{parts_by}
use Rattle.syntax_rules.specs.Rewritten.{draft_by}
use Rattle.syntax_rules.specs.SplitName.{apart, split_name, whole_names}
use Rattle.syntax_rules.specs.Together.{every_rule, names_by, token_by}
use Rattle.syntax_rules.proofs.InContext.{drafted_by_is}
use Rattle.syntax_upgrade.specs.OffPlaces.{Off, comment_reports, no_off, off_in, off_reports}
use Rattle.rules_off.specs.Laws.{NamesAreAside, RulesOff}
use Rattle.rules_off.proofs.Asides.{names_are_aside}
use Rattle.rules_off.proofs.Agreement.{partly}
use Rattle.rules_off.proofs.Found.{both_none}
use Rattle.rules_off.proofs.SameTokens.{token_same}
use Rattle.rules_off.proofs.Spaces.{apart_same}
use Rattle.rules_off.proofs.Walk.{walks}

-- where names stay as they are, none wants a space
names_if : (b : Bool) (d : Draft) → (b ≡ false → apart false (whole_names b d) ≡ whole_names b d)
    → (if b then split_name d else whole_names false d) ≡ apart false (whole_names b d)
names_if true d h = refl
names_if false d h = sym (h refl)

drafts_same : (r : Rules) (f : File) → NamesAreAside f.statements → off_reports r f ≡ [] → draft_by r f ≡ draft_by every_rule f
drafts_same r f h e =
    let o : Off = off_in r at_top true zero 0 f.statements no_off in
    let n = both_none o.found (comment_reports r (end_of 0 f.statements) f.end) e in
    let p = ((walks r at_top true f.statements h).outside 0 no_off n.0).both in
    let d : Draft = parts_by r at_top true f.statements in
    let names : names_by r d ≡ names_by every_rule (parts_by every_rule at_top true f.statements) =
    names_if r.split_names d (λ x. apart_same false (partly r at_top true f.statements) (p.apart x).0) ∙ ap (apart false) p.same in
    ap (λ (x : Draft). file_of (names_by r x) (token_by r f.end)) (drafted_by_is r f.statements)
    ∙ ap (λ (x : Draft). file_of x (token_by r f.end)) names
    ∙ ap (file_of (names_by every_rule (parts_by every_rule at_top true f.statements))) (token_same r (end_of 0 f.statements) f.end n.1)
    ∙ sym (ap (λ (x : Draft). file_of (names_by every_rule x) (token_by every_rule f.end)) (drafted_by_is every_rule f.statements))
  where
    file_of : Draft → NewToken → FileDraft
    file_of d t = record { statements = d; end = t }

pub rules_off : RulesOff
rules_off = record {
  same_edits = λ r f h e. ap draft.edits (drafts_same r f h e);
  same_file = λ r f h e. ap rewritten_file (drafts_same r f h e);
  aside = names_are_aside;
  silent = refl;
  left_out = refl;
  by_all = refl;
}
