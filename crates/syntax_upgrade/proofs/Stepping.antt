-- Tokens, written step by step.
use Rattle.std.proofs.Common.{◌≡◌, ℕ, Bool, true, false, List, [], ◌∷◌, ◌++◌, codes, refl, ap, sym, ◌∙◌}
use Rattle.php_tree.specs.declared.token.Token.{Token}
use Rattle.php_tree.specs.declared.token.TokenKind.{TokenKind}
use Rattle.tracked_changes.specs.Pieces.{Piece, kept}
use Rattle.tracked_changes.specs.Draft.{token_pieces}
use Rattle.tracked_changes.specs.Tokens.{retexted}
use Rattle.syntax_rules.specs.DollarBrace.{dollar_name}
use Rattle.syntax_rules.specs.declared.rules.Rules.{Rules}
use Rattle.syntax_rules.specs.HashComment.{lead_by}
use Rattle.syntax_rules.specs.Together.{token_by}
use Rattle.syntax_rules.specs.SplitName.{deleted}
use Rattle.syntax_upgrade.specs.Writing.{Recorded, pieces_next, also_next, changed_next, kept_next}
use Rattle.syntax_upgrade.specs.Written.{Written, token_next}
use Rattle.syntax_upgrade.specs.Heads.{own_of}
use Rattle.syntax_upgrade.specs.NamesWalked.{Head, inner_next}
use Rattle.syntax_upgrade.specs.Steps.{begun_next, recorded_next}
use Rattle.syntax_upgrade.specs.UnsetCast.{null_token}
use Rattle.syntax_upgrade.proofs.Own.{own_lead}
use Rattle.syntax_upgrade.proofs.Tokens.{pieces_append}

no_lead : (b : Bool) → lead_by b [] ≡ []
no_lead true = refl
no_lead false = refl

module _ (r : Rules) where
  -- a token inside a name: its trivia are deleted, its text stays
  pub inner_steps : (b : Bool) (t : Token) (w : Written)
      → recorded_next (pieces_next (own_of r b t).text) (recorded_next (pieces_next (deleted t.lead)) w) ≡ inner_next (own_of r b t) w
  inner_steps b t w =
      ap (λ (q : Recorded). recorded_next (λ x. q) w)
      (sym (pieces_append (deleted t.lead) (own_of r b t).text w.recorded)
      ∙ ap (λ (bs : List ℕ). pieces_next (deleted bs ++ (own_of r b t).text) w.recorded) (sym (own_lead r b t)))

  -- a token with another kind and text
  pub replaced_steps : (k : TokenKind) (text : List ℕ) (t : Token) (w : Written)
      → recorded_next (changed_next text) (begun_next r.split_names (record { more = 0; token = retexted k text (token_by r t) }) (lead_by r.hash_comments t.lead) w)
      ≡ token_next r.split_names (retexted k text (token_by r t)) w
  replaced_steps k text t w = refl

  -- the name behind `${`
  pub name_steps : (t : Token) (w : Written)
      → recorded_next (kept_next t.text) (recorded_next (pieces_next (lead_by r.hash_comments t.lead))
      (recorded_next (also_next (codes "$"))
      (begun_next r.split_names (record { more = 0; token = dollar_name (token_by r t) })
      (lead_by r.hash_comments []) w)))
      ≡ token_next r.split_names (dollar_name (token_by r t)) w
  name_steps t w =
      let h : Head = record { more = 0; token = dollar_name (token_by r t) } in
      let b = begun_next r.split_names h [] w in
      ap (λ (l : List Piece). recorded_next (kept_next t.text)
      (recorded_next (pieces_next (lead_by r.hash_comments t.lead))
      (recorded_next (also_next (codes "$")) (begun_next r.split_names h l w))))
      (no_lead r.hash_comments)
      ∙ ap (λ (q : Recorded). recorded_next (λ x. q) b)
      (sym (pieces_append (lead_by r.hash_comments t.lead) (kept t.text ∷ []) (also_next (codes "$") b.recorded)))

  -- the token at the end of a file
  pub end_steps : (t : Token) (w : Written)
      → recorded_next (kept_next t.text) (recorded_next (pieces_next (lead_by r.hash_comments t.lead)) w)
      ≡ recorded_next (pieces_next (token_pieces (token_by r t))) w
  end_steps t w =
      ap (λ (q : Recorded). recorded_next (λ x. q) w) (sym (pieces_append (lead_by r.hash_comments t.lead) (kept t.text ∷ []) w.recorded))

  -- one token in the place of a cast and a variable
  pub null_steps : (x v : Token) (w : Written)
      → recorded_next (also_next (codes ")")) (recorded_next (also_next (codes "null")) (recorded_next (changed_next (codes "("))
      (begun_next r.split_names (record { more = 0; token = null_token r x v }) (lead_by r.hash_comments x.lead) w)))
      ≡ token_next r.split_names (null_token r x v) w
  null_steps x v w = refl
