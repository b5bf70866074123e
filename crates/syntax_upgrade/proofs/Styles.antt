-- The draft inside each kind of node, as its parts are walked.
use Rattle.std.proofs.Common.{◌≡◌, zero, Bool, true, false, ◌&&◌, if◌then◌else◌, Option, refl, ap, sym, ◌∙◌, codes}
use Rattle.php_tree.specs.declared.token.TokenKind.TheVariants as token
use Rattle.php_tree.specs.declared.token.Token.{Token}
use Rattle.php_tree.specs.Tree.{Forest, none, leaf, node}
use Rattle.tracked_changes.specs.Draft.{NewToken, unchanged_token, Draft, no_more, new_leaf, new_node, ◌then◌}
use Rattle.tracked_changes.specs.Tokens.{is_text, retexted}
use Rattle.tracked_changes.specs.Walk.{NewTree}
use Rattle.syntax_rules.specs.UnsetCast.{is_edited, unset_cast}
use Rattle.syntax_rules.specs.DollarBrace.{dollar_brace}
use Rattle.syntax_rules.specs.Together.{is_quoted, token_by}
use Rattle.syntax_rules.specs.Around.{Around, within}
use Rattle.syntax_rules.specs.declared.rules.Rules.{Rules}
use Rattle.syntax_rules.specs.BraceOffset.{bracket, bracketed, is_brace_offset, brace_offset}
use Rattle.syntax_rules.specs.RealCast.{float_first, is_real_cast, real_cast}
use Rattle.syntax_rules.specs.SplitName.{in_front, whole_names}
use Rattle.syntax_upgrade.specs.Written.{Written, token_next, draft_next}
use Rattle.syntax_rules.specs.InContext.{child_by, parts_by}
use Rattle.syntax_upgrade.specs.NamesWalked.{walked, own_in}
use Rattle.syntax_upgrade.specs.Inside.{bracketed_token, float_token, float_walked, with_lead}
use Rattle.syntax_upgrade.specs.Laws.{InsidesAreWritten}
use Rattle.syntax_upgrade.proofs.TextsWalk.{text_written}
use Rattle.syntax_upgrade.proofs.Unset.{unset_written}
use Rattle.syntax_upgrade.proofs.NamesWalk.{walks}
use Rattle.syntax_upgrade.proofs.Tokens.{and_second}

module _ (r : Rules) where
  plain_is : (around : Bool → Option Around) (i : Bool) (f : Forest) → own_in r (token_by r) around i f ≡ parts_by r around i f
  plain_is around i none = refl
  plain_is around i (leaf t f) = ap (new_leaf (token_by r t)) (plain_is around false f)
  plain_is around i (node k c f) = ap (λ (d : Draft). child_by r (around i) (k, c) then d) (plain_is around false f)

  by_text : (a b : Bool) (t : Token)
      → with_lead r t (if a then retexted token.Op (codes "[") (unchanged_token t) else (if b then retexted token.Op (codes "]") (unchanged_token t) else unchanged_token t))
      ≡ (if a then retexted token.Op (codes "[") (token_by r t) else (if b then retexted token.Op (codes "]") (token_by r t) else token_by r t))
  by_text true b t = refl
  by_text false true t = refl
  by_text false false t = refl

  -- a bracket in the place of a brace, with the trivia that the rules give it
  bracket_is : (t : Token) → bracketed_token r t ≡ bracket (token_by r t)
  bracket_is t = by_text (is_text (codes "{") (unchanged_token t)) (is_text (codes "}") (unchanged_token t)) t

  braces_is : (around : Bool → Option Around) (i : Bool) (f : Forest) → own_in r (bracketed_token r) around i f ≡ bracketed (parts_by r around i f)
  braces_is around i none = refl
  braces_is around i (leaf t f) =
      ap (λ (u : NewToken). new_leaf u (own_in r (bracketed_token r) around false f)) (bracket_is t)
      ∙ ap (new_leaf (bracket (token_by r t))) (braces_is around false f)
  braces_is around i (node k c f) = ap (λ (d : Draft). child_by r (around i) (k, c) then d) (braces_is around false f)

  -- parts as they stand, besides whole names
  pub plain_written : (around : Bool → Option Around) (i : Bool) (f : Forest) (w : Written)
      → walked r (token_by r) around i zero f w ≡ draft_next r.split_names (whole_names r.split_names (parts_by r around i f)) w
  plain_written around i f w =
      (walks r (token_by r) around i f).all w ∙ ap (λ (d : Draft). draft_next r.split_names (whole_names r.split_names d) w) (plain_is around i f)

  -- the parts of an offset in braces
  pub braces_written : (around : Bool → Option Around) (i : Bool) (f : Forest) (w : Written)
      → walked r (bracketed_token r) around i zero f w ≡ draft_next r.split_names (whole_names r.split_names (bracketed (parts_by r around i f))) w
  braces_written around i f w =
      (walks r (bracketed_token r) around i f).all w ∙ ap (λ (d : Draft). draft_next r.split_names (whole_names r.split_names d) w) (braces_is around i f)

  -- a token that begins no name
  cast_alone : (t : NewToken) (d : Draft) → in_front r.split_names (retexted token.Cast (codes "(float)") t) d ≡ new_leaf (retexted token.Cast (codes "(float)") t) d
  cast_alone t no_more = refl
  cast_alone t (new_leaf u d) = refl
  cast_alone t (new_node k c d) = refl

  -- the parts of a cast `(real)`
  float_written : (around : Bool → Option Around) (i : Bool) (f : Forest) (w : Written)
      → float_walked r around i f w ≡ draft_next r.split_names (whole_names r.split_names (float_first (parts_by r around i f))) w
  float_written around i none w = refl
  float_written around i (leaf t f) w =
      plain_written around false f (token_next r.split_names (float_token r t) w)
      ∙ ap (λ (d : Draft). draft_next r.split_names d w) (sym (cast_alone (token_by r t) (whole_names r.split_names (parts_by r around false f))))
  float_written around i (node k c f) w = plain_written around i (node k c f) w

  -- ---- by its rule

  by_rule : (b : Bool) (x y : Written) (p q : NewTree) (w : Written)
      → (b ≡ true → x ≡ draft_next r.split_names (whole_names r.split_names p.1) w) → y ≡ draft_next r.split_names (whole_names r.split_names q.1) w
      → (if b then x else y) ≡ draft_next r.split_names (whole_names r.split_names (if b then p else q).1) w
  by_rule true x y p q w h k = h refl
  by_rule false x y p q w h k = k

pub inside_written : InsidesAreWritten
inside_written r t w h =
    let around = within t.0 t.1 in
    let d : NewTree = (t.0, parts_by r around true t.1) in
    by_rule r (r.brace_offsets && is_brace_offset t.0) _ _ (brace_offset d) _ w (λ e. braces_written r around true t.1 w)
    (by_rule r (r.real_casts && is_real_cast t) _ _ (real_cast d) _ w (λ e. float_written r around true t.1 w)
    (by_rule r (r.unset_casts && is_edited t) _ _ (unset_cast d) _ w (λ e. sym (unset_written r.split_names d w))
    (by_rule r (r.dollar_braces && is_quoted t.0) _ _ (dollar_brace d) d w
    (λ e. text_written r around t.1 (h (and_second r.dollar_braces (is_quoted t.0) e)) true w)
    (plain_written r around true t.1 w))))
