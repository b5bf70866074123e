-- The rules together lose no byte of the source.
use Rattle.std.proofs.Common.{◌≡◌, Bool, true, false, ◌&&◌, if◌then◌else◌, [], ◌∷◌, ◌++◌, refl, ap, sym, ◌∙◌, append-nil}
use Rattle.span_edits.specs.Splice.{spliced}
use Rattle.php_tree.specs.Tree.{Tree, File, file_printed}
use Rattle.tracked_changes.specs.Pieces.{before, kept}
use Rattle.tracked_changes.specs.Draft.{Draft, token_pieces, pieces, source}
use Rattle.tracked_changes.specs.Edits.{edits}
use Rattle.tracked_changes.specs.Walk.{NewTree, NodesKeepBytes, TokensKeepBytes, drafted_file}
use Rattle.tracked_changes.proofs.Joining.{before-append}
use Rattle.tracked_changes.proofs.Keeping.{SameBytes, same_draft_if}
use Rattle.tracked_changes.proofs.Splicing.{spliced_is_rewritten}
use Rattle.tracked_changes.proofs.Walking.{walks_keep_the_source}
use Rattle.tracked_changes.proofs.Wrapping.{wrappings_keep_bytes}
use Rattle.syntax_rules.specs.BraceOffset.{is_brace_offset, brace_offset}
use Rattle.syntax_rules.specs.RealCast.{is_real_cast, real_cast}
use Rattle.syntax_rules.specs.UnsetCast.{is_edited, unset_cast}
use Rattle.syntax_rules.specs.declared.rules.Rules.{Rules}
use Rattle.syntax_rules.specs.HashComment.{lead_by}
use Rattle.syntax_rules.specs.SplitName.{whole_names, split_name}
use Rattle.syntax_rules.specs.DollarBrace.{dollar_brace}
use Rattle.syntax_rules.specs.Together.{Choice, is_quoted, token_by, node_by, rewriting, names_by, syntax_draft, SyntaxIsRewritten}
use Rattle.syntax_rules.proofs.BraceOffsetKeeps.{brace_offset_is_written}
use Rattle.syntax_rules.proofs.CastsKeep.{real_cast_is_written, unset_cast_is_written}
use Rattle.syntax_rules.proofs.HashCommentKeeps.{lead_keeps}
use Rattle.syntax_rules.proofs.SplitNameKeeps.{whole_keeps, split_keeps}
use Rattle.syntax_rules.proofs.DollarBraceKeeps.{dollar_brace_is_written}

-- two nodes have the same bytes in the source
abbrev pub SameNode : NewTree → NewTree → Type 0
SameNode t u = SameBytes t.1 u.1

same_node_if : (b : Bool) (x y t : NewTree) → SameNode x t → SameNode y t → SameNode (if b then x else y) t
same_node_if true x y t h k = h
same_node_if false x y t h k = k

token_keeps : (r : Rules) → TokensKeepBytes (token_by r)
token_keeps r t =
    let lead = lead_by r.hash_comments t.lead in
    before-append lead (kept t.text ∷ []) ∙ ap (λ x. x ++ (t.text ++ [])) (lead_keeps r.hash_comments t.lead)
    ∙ ap (λ x. t.lead ++ x) (append-nil t.text)

node_keeps : (r : Rules) (s : Tree) → NodesKeepBytes (node_by r s)
node_keeps r s t =
    same_node_if (r.brace_offsets && is_brace_offset s.0) (brace_offset t) _ t (brace_offset_is_written.0 t)
    (same_node_if (r.real_casts && is_real_cast s) (real_cast t) _ t (real_cast_is_written.0 t)
    (same_node_if (r.unset_casts && is_edited s) (unset_cast t) _ t (unset_cast_is_written.0 t)
    (same_node_if (r.dollar_braces && is_quoted s.0) (dollar_brace t) t t (dollar_brace_is_written.bytes t) refl)))

names_keep : (r : Rules) (d : Draft) → SameBytes (names_by r d) d
names_keep r d = same_draft_if r.split_names (split_name d) (whole_names false d) d (split_keeps d) (whole_keeps false d)

draft_keeps : (c : Choice) (f : File) → source (syntax_draft c f) ≡ file_printed f
draft_keeps c f =
    let d = drafted_file (rewriting c) f in
    before-append (pieces (names_by c.rules d.statements)) (token_pieces d.end)
    ∙ ap (λ x. x ++ before (token_pieces d.end)) (names_keep c.rules d.statements)
    ∙ sym (before-append (pieces d.statements) (token_pieces d.end))
    ∙ walks_keep_the_source (rewriting c) f (token_keeps c.rules)
    (λ id s t. wrappings_keep_bytes (c.wraps id) (node_by c.rules s t) ∙ node_keeps c.rules s t)

pub syntax_is_rewritten : SyntaxIsRewritten
syntax_is_rewritten = record {
  bytes = draft_keeps;
  written = λ c f. ap (λ x. spliced x (edits (syntax_draft c f))) (sym (draft_keeps c f)) ∙ spliced_is_rewritten (syntax_draft c f);
  row = refl;
  text = refl;
}
