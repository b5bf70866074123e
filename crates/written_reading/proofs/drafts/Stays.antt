-- The changes leave names as they are, but for trivia.
use Rattle.std.proofs.Common.{◌≡◌, ℕ, Bool, true, false, ◌&&◌, ◌||◌, if◌then◌else◌, codes, List, [], ◌∷◌, ◌++◌, refl, sym, ap, ◌∙◌, subst}
use Rattle.php_tree.specs.declared.token.TokenKind.{TokenKind}
use Rattle.php_tree.specs.declared.token.TokenKind.TheVariants as kind
use Rattle.php_tree.specs.Tree.{Forest, none, leaf, node}
use Rattle.php_spellings.specs.Bytes.{is_empty}
use Rattle.tracked_changes.specs.Pieces.{Piece, after, before, changed, new_bytes}
use Rattle.tracked_changes.specs.Draft.{NewToken, Draft, no_more, new_leaf, new_node}
use Rattle.syntax_rules.specs.Around.{at_top}
use Rattle.syntax_rules.specs.SplitName.{begins_root, is_label, is_name, is_nothing, is_one, keyword_behind}
use Rattle.rewritten_shapes.specs.Laws.{AreSpelled, is_label_text, is_spelled_by}
use Rattle.rewritten_shapes.proofs.Tabled.{drafted_is, written}
use Rattle.written_tokens.specs.tokens.Drafted.{all_spaced, all_whole, joins, names_within}
use Rattle.written_tokens.specs.tokens.Parted.{NamesStay}
use Rattle.written_tokens.specs.tokens.Spaced.{nameless_draft, PartsHaveText, spaces_put}
use Rattle.written_tokens.specs.tokens.Written.{draft_tokens}
use Rattle.written_tokens.proofs.tokens.Spaced.{spaces_come_first}
use Rattle.rewritten_shapes.specs.paired.Names.{calm, run}
use Rattle.rewritten_shapes.proofs.paired.NameRuns.{runs_fit}
use Rattle.rewritten_shapes.proofs.paired.Pairing.{shaped_files_are_paired}
use Rattle.rewritten_shapes.proofs.paired.States.{at_calm}
use Rattle.rewritten_shapes.proofs.paired.TraitNames.{FineLabels, calm_is}
use Rattle.written_reading.specs.drafts.Drafts.{run_draft}
use Rattle.written_reading.specs.drafts.Laws.{NamesAreWithin, NamesOfFilesStay}
use Rattle.written_reading.proofs.drafts.Drawn.{AllKept, Kept}
use Rattle.written_reading.proofs.drafts.Order.{is_below}
use Rattle.written_reading.proofs.drafts.Texts.{paired_drawn}
use Rattle.written_reading.proofs.drafts.Within.{ok_below, ok_within}

-- ---- tokens in order

abbrev pub ListKept : List NewToken → Type 0
ListKept [] = Unit {0}
ListKept (t ∷ ts) = Kept t × ListKept ts

list_kept : (ts us : List NewToken) → ListKept ts → ListKept us → ListKept (ts ++ us)
list_kept [] us p q = q
list_kept (t ∷ ts) us p q = (p.0, list_kept ts us p.1 q)

pub tokens_kept : (d : Draft) → AllKept d → ListKept (draft_tokens d)
tokens_kept no_more h = tt
tokens_kept (new_leaf t d) h = (h.0, tokens_kept d h.1)
tokens_kept (new_node k c d) h = list_kept (draft_tokens c) (draft_tokens d) (tokens_kept c h.0) (tokens_kept d h.1)

-- a space before a token changes its trivia alone
abbrev pub given : Bool → NewToken → NewToken
given b t = if b then record t { lead = t.lead ++ changed [] (codes " ") ∷ [] } else t

pub given_lead : (ps : List Piece) → is_empty (after (ps ++ changed [] (codes " ") ∷ [])) ≡ false
given_lead [] = refl
given_lead (p ∷ ps) = some_back (new_bytes p) (after (ps ++ changed [] (codes " ") ∷ [])) (given_lead ps)
  where
    some_back : (xs ys : List ℕ) → is_empty ys ≡ false → is_empty (xs ++ ys) ≡ false
    some_back [] ys e = e
    some_back (x ∷ xs) ys e = refl

pub kept_given : (b : Bool) (t : NewToken) → Kept t → Kept (given b t)
kept_given true t h = record {
  same = record {
    backslash = h.same.backslash;
    word = h.same.word;
    front =
        h.same.front;
  };
  text = h.text;
  sign = h.sign;
  lead = λ b e. given_lead t.lead;
}
kept_given false t h = h

one_given : (b c : Bool) (t u : NewToken) → is_one (given b t) (given c u) ≡ is_one t u
one_given true true t u = refl
one_given true false t u = refl
one_given false true t u = refl
one_given false false t u = refl

text_given : (b : Bool) (t : NewToken) → before (given b t).text ≡ before t.text
text_given true t = refl
text_given false t = refl

abbrev pub put : Bool → NewToken → Bool → Bool
put behind t b = behind && (b || is_name t.kind) && begins_root (before t.text) && is_nothing (before t.lead)

joins_spaced : (b behind : Bool) (t : NewToken) (ws : List NewToken) → joins (given b t) (all_spaced behind ws) ≡ joins t ws
joins_spaced b behind t [] = refl
joins_spaced b behind t (u ∷ us) = one_given b (behind && is_name u.kind && begins_root (before u.text) && is_nothing (before u.lead)) t u

no_text : (xs : List ℕ) → is_nothing xs ≡ false → is_empty xs ≡ false
no_text [] e = absurd cc
no_text (x ∷ xs) e = refl

stays : (behind : Bool) (ts : List NewToken) → ListKept ts → PartsHaveText ts → NamesStay (spaces_put behind ts)
stays behind [] h w = tt
stays behind (t ∷ ts) h w =
    let b = put behind t (joins t (all_whole ts)) in
    let k = kept_given b t h.0 in (
      k.same,
      λ j.
          let there : joins t (all_whole ts) ≡ true =
          sym (joins_spaced b (keyword_behind behind t) t (all_whole ts))
          ∙ ap (joins (given b t)) (spaces_come_first (keyword_behind behind t) ts w.1)
          ∙ j in
          let old : is_empty (before (given b t).text) ≡ false = ap is_empty (text_given b t) ∙ no_text (before t.text) (w.0 there).0 in
          record { old = old; new = k.text old },
      stays (keyword_behind behind t) ts h.1 w.1,
    )

-- ---- files

fine_label : (sort : TokenKind) (text : List ℕ) → is_spelled_by sort text ≡ true → is_label sort ≡ true → is_label_text text ≡ true
fine_label kind.Label text e h = e
fine_label _ text e h = absurd cc

pub fine_labels : (f : Forest) → AreSpelled f → FineLabels f
fine_labels none s = tt
fine_labels (leaf x f) s = (fine_label x.kind x.text s.0.0, fine_labels f s.1)
fine_labels (node j c f) s = (fine_labels c s.0, fine_labels f s.1)

pub names_are_within : NamesAreWithin
names_are_within f s p w =
    let end : run calm f.statements ≡ calm = calm_is (run calm f.statements) (runs_fit s.shaped (fine_labels f.statements p) w at_calm calm refl) in
    let new = paired_drawn (shaped_files_are_paired f s w) at_top true in
    ap names_within (drafted_is f.statements)
    ∙ ok_within (written at_top true f.statements) calm
    (ok_below (run_draft calm (written at_top true f.statements)) calm (ap (is_below (run_draft calm (written at_top true f.statements))) (sym end) ∙ new.runs calm calm refl) refl)

pub names_of_files_stay : NamesOfFilesStay
names_of_files_stay f s p w t =
    let new = paired_drawn (shaped_files_are_paired f s w) at_top true in
    stays false (draft_tokens (nameless_draft f).statements)
    (subst (λ (d : Draft). ListKept (draft_tokens d)) (sym (drafted_is f.statements)) (tokens_kept (written at_top true f.statements) new.kept)) t
