-- What parts that no rule touches write: their bytes.
use Rattle.std.proofs.Common.{◌≡◌, ℕ, Bool, true, false, ◌&&◌, ◌==◌, List, [], ◌∷◌, ◌++◌, refl, ap, sym, ◌∙◌, append-nil, append_assoc}
use Rattle.std.specs.List.{list_any}
use Rattle.std.proofs.lemmas.Bool.{true≢false}
use Rattle.php_tree.specs.declared.kind.NodeKind.{NodeKind}
use Rattle.php_tree.specs.declared.token.Token.{Token}
use Rattle.php_tree.specs.Tree.{Forest, none, leaf, node, leaves, token_bytes, tokens_bytes}
use Rattle.tracked_changes.specs.Draft.{Draft}
use Rattle.syntax_rules.specs.declared.rules.Rules.{Rules}
use Rattle.syntax_rules.specs.HashComment.{lead_by, outside}
use Rattle.syntax_rules.specs.SplitName.{is_keyword, keyword_behind, whole_names}
use Rattle.syntax_rules.specs.Together.{token_by}
use Rattle.syntax_upgrade.specs.Calm.{AreApart, AreCalm, IsCalm, is_calm_kind, has_no_token, last_keyword}
use Rattle.syntax_upgrade.specs.Laws.{own_next}
use Rattle.syntax_upgrade.specs.Writing.{Recorded, kept_next, pieces_next}
use Rattle.syntax_upgrade.specs.Written.{Written, draft_next, token_next}
use Rattle.syntax_upgrade.proofs.CalmDrafts.{and_none, calm_draft, inside_stays, names_stay}
use Rattle.syntax_upgrade.proofs.Spaced.{kept_whole, no_hash}

pub kept_on : (xs ys : List ℕ) (r : Recorded) → kept_next ys (kept_next xs r) ≡ kept_next (xs ++ ys) r
kept_on xs ys r = ap (λ (bs : List ℕ). record { out = bs; edits = r.edits; goes_on = false }) (append_assoc r.out xs ys)

-- each token's bytes, one token after another
abbrev stay : List Token → Recorded → Recorded
stay [] r = r
stay (x ∷ xs) r = stay xs (kept_next (token_bytes x) r)

stay_append : (xs ys : List Token) (r : Recorded) → stay ys (stay xs r) ≡ stay (xs ++ ys) r
stay_append [] ys r = refl
stay_append (x ∷ xs) ys r = stay_append xs ys (kept_next (token_bytes x) r)

pub keyword_append : (b : Bool) (xs ys : List Token) → last_keyword (last_keyword b xs) ys ≡ last_keyword b (xs ++ ys)
keyword_append b [] ys = refl
keyword_append b (x ∷ xs) ys = keyword_append (is_keyword x.kind) xs ys

-- some tokens at once
stay_whole : (x : Token) (xs : List Token) (r : Recorded) → stay (x ∷ xs) r ≡ kept_next (tokens_bytes (x ∷ xs)) r
stay_whole x [] r = ap (λ (bs : List ℕ). kept_next bs r) (sym (append-nil (token_bytes x)))
stay_whole x (y ∷ xs) r =
    stay_whole y xs (kept_next (token_bytes x) r) ∙ kept_on (token_bytes x) (tokens_bytes (y ∷ xs)) r

lead_kept : (on : Bool) (lead text : List ℕ) (r : Recorded) → list_any (λ b. b == 35) lead ≡ false
    → kept_next text (pieces_next (lead_by on lead) r) ≡ kept_next (lead ++ text) r
lead_kept true [] text r h = refl
lead_kept false [] text r h = refl
lead_kept true (b ∷ bs) text r h = ap (kept_next text) (no_hash outside b bs r h) ∙ kept_on (b ∷ bs) text r
lead_kept false (b ∷ bs) text r h = ap (kept_next text) (sym (kept_whole b bs r)) ∙ kept_on (b ∷ bs) text r

module _ (r : Rules) where
  pub behind_calm : (b : Bool) (t : Token) → IsCalm t → keyword_behind b (token_by r t) ≡ is_keyword t.kind
  behind_calm b t h = rw (append-nil t.text, h.some) refl

  token_stays : (n : Bool) (t : Token) (x : Recorded) (b : Bool) → IsCalm t
      → token_next n (token_by r t) (record { recorded = x; behind = b; parens = 0 })
      ≡ record { recorded = kept_next (token_bytes t) x; behind = is_keyword t.kind; parens = 0 }
  token_stays n t x b h =
      rw (h.no_name, and_none (n && b), behind_calm b t h)
      (ap (λ (y : Recorded). record { recorded = y; behind = is_keyword t.kind; parens = 0 })
      (lead_kept r.hash_comments t.lead t.text x h.lead))

  draft_stays : (n : Bool) (f : Forest) (x : Recorded) (b : Bool) → AreCalm f
      → draft_next n (calm_draft r f) (record { recorded = x; behind = b; parens = 0 })
      ≡ record { recorded = stay (leaves f) x; behind = last_keyword b (leaves f); parens = 0 }
  draft_stays n none x b h = refl
  draft_stays n (leaf t f) x b h =
      ap (draft_next n (calm_draft r f)) (token_stays n t x b h.0)
      ∙ draft_stays n f (kept_next (token_bytes t) x) (is_keyword t.kind) h.1
  draft_stays n (node k c f) x b h =
      ap (draft_next n (calm_draft r f)) (draft_stays n c x b h.1.0)
      ∙ draft_stays n f (stay (leaves c) x) (last_keyword b (leaves c)) h.1.1
      ∙ rw (stay_append (leaves c) (leaves f) x, keyword_append b (leaves c) (leaves f)) refl

  at_once : (ts : List Token) (x : Recorded) → has_no_token ts ≡ false → stay ts x ≡ kept_next (tokens_bytes ts) x
  at_once [] x h = absurd (true≢false h)
  at_once (t ∷ ts) x h = stay_whole t ts x

  -- A node that no rule touches is written as it is.
  pub node_written_so : (k : NodeKind) (f : Forest) (w : Written) → is_calm_kind k ≡ true → AreCalm f → AreApart (leaves f) → w.parens ≡ 0 → has_no_token (leaves f) ≡ false
      → own_next r (k, f) w
      ≡ record { recorded = kept_next (tokens_bytes (leaves f)) w.recorded; behind = last_keyword w.behind (leaves f); parens = 0 }
  node_written_so k f w h i a p s =
      ap (λ (d : Draft). draft_next r.split_names (whole_names r.split_names d) w) (inside_stays r k f h i a)
      ∙ ap (λ (d : Draft). draft_next r.split_names d w) (names_stay r r.split_names f i)
      ∙ ap (λ (n : ℕ). draft_next r.split_names (calm_draft r f) (record { recorded = w.recorded; behind = w.behind; parens = n })) p
      ∙ draft_stays r.split_names f w.recorded w.behind i
      ∙ ap (λ (x : Recorded). record { recorded = x; behind = last_keyword w.behind (leaves f); parens = 0 }) (at_once (leaves f) w.recorded s)
