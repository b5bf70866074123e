-- Parts walked from the first write their draft with its names whole.
use Rattle.std.proofs.Common.{◌≡◌, zero, suc, Bool, true, false, ◌&&◌, ◌||◌, List, ◌++◌, Option, Some, None, refl, ap, ◌∙◌}
use Rattle.php_tree.specs.declared.token.Token.{Token}
use Rattle.php_tree.specs.Tree.{Forest, none, leaf, node}
use Rattle.tracked_changes.specs.Pieces.{Piece, before}
use Rattle.tracked_changes.specs.Draft.{NewToken, Draft, new_leaf}
use Rattle.syntax_rules.specs.declared.rules.Rules.{Rules}
use Rattle.syntax_rules.specs.Around.{Around}
use Rattle.syntax_rules.specs.SplitName.{is_one, one_name, in_front, deleted, whole_names, is_nothing, keyword_behind}
use Rattle.syntax_upgrade.specs.Writing.{Recorded, pieces_next}
use Rattle.syntax_upgrade.specs.Written.{Written, token_next, draft_next}
use Rattle.syntax_upgrade.specs.NamesWalked.{Head, head_of, begins, first_next, inner_next, walked, own_in}
use Rattle.syntax_upgrade.specs.Laws.{NamesAreWalked}
use Rattle.syntax_upgrade.proofs.Tokens.{pieces_append}

three : (b c d : List Piece) (r : Recorded) → pieces_next (c ++ d) (pieces_next b r) ≡ pieces_next (b ++ c ++ d) r
three b c d r = simp pieces_append refl

four : (a b c d : List Piece) (r : Recorded) → pieces_next (c ++ d) (pieces_next (a ++ b) r) ≡ pieces_next (a ++ (b ++ c ++ d)) r
four a b c d r = simp pieces_append refl

module _ (r : Rules) (own : Token → NewToken) (around : Bool → Option Around) where
  abbrev whole : Bool → Forest → Draft
  whole i f = whole_names r.split_names (own_in r own around i f)

  -- what the draft begins with, and how what is behind is written
  abbrev Fits : Bool → Forest → Option Head → Type 0
  Fits i f None = (t : NewToken) → in_front r.split_names t (whole i f) ≡ new_leaf t (whole i f)
  Fits i f (Some h) =
      (d : Draft) × (whole i f ≡ new_leaf h.token d)
      × ((w : Written) → walked r own around i (suc h.more) f w ≡ draft_next r.split_names d (inner_next h.token w))

  pub record Walks (i : Bool) (f : Forest) : Type 0 where
    pub all : (w : Written) → walked r own around i zero f w ≡ draft_next r.split_names (whole i f) w
    pub first : Fits i f (begins r.split_names own f)

  -- a token that is not one with what is ahead
  alone : (t : Token) (f : Forest) (i : Bool) → in_front r.split_names (own t) (whole false f) ≡ new_leaf (own t) (whole false f)
      → head_of r.split_names (own t) (begins r.split_names own f) ≡ record { more = zero; token = own t } → Walks false f → Walks i (leaf t f)
  alone t f i e h q = record {
    all = λ w. rw (h, e) (q.all (token_next r.split_names (own t) w));
    first = rw h (whole false f, e, λ w. q.all (inner_next (own t) w));
  }

  -- a token that is one with what is ahead
  one : (t : Token) (f : Forest) (i : Bool) (h : Head) (d : Draft) → (is_one (own t) h.token && (r.split_names || is_nothing (before h.token.lead))) ≡ true
      → begins r.split_names own f ≡ Some h → whole false f ≡ new_leaf h.token d
      → ((w : Written) → walked r own around false (suc h.more) f w ≡ draft_next r.split_names d (inner_next h.token w))
      → Walks i (leaf t f)
  one t f i h d o b e q =
      let u = one_name (own t) h.token in
      let head : head_of r.split_names (own t) (begins r.split_names own f) ≡ record { more = suc h.more; token = u } = rw (b, o) refl in
      let start : in_front r.split_names (own t) (whole false f) ≡ new_leaf u d =
      rw (e, o) refl in
      record {
        all = λ w.
            rw (head, start)
            (q (first_next r.split_names (record { more = suc h.more; token = u }) (own t) w)
            ∙ ap (λ (x : Recorded). draft_next r.split_names d (record { recorded = x; behind = keyword_behind w.behind u; parens = 0 }))
            (three (own t).text (deleted (before h.token.lead)) h.token.text _));
        first =
            rw head (
              d,
              start,
              λ w. q (inner_next (own t) w)
                  ∙ ap (λ (x : Recorded). draft_next r.split_names d (record { recorded = x; behind = w.behind; parens = w.parens }))
                  (four (deleted (before (own t).lead)) (own t).text (deleted (before h.token.lead)) h.token.text w.recorded),
            );
      }

  one_or_alone : (t : Token) (f : Forest) (i : Bool) (h : Head) → begins r.split_names own f ≡ Some h → Fits false f (Some h) → Walks false f
      → (o : Bool) → (is_one (own t) h.token && (r.split_names || is_nothing (before h.token.lead))) ≡ o → Walks i (leaf t f)
  one_or_alone t f i h b fit q true o = one t f i h fit.0 o b fit.1 fit.2
  one_or_alone t f i h b fit q false o =
      alone t f i
      (rw (fit.1, o) refl)
      (rw (b, o) refl) q

  by_head : (t : Token) (f : Forest) (i : Bool) (b : Option Head) → begins r.split_names own f ≡ b → Fits false f b → Walks false f → Walks i (leaf t f)
  by_head t f i None b fit w = alone t f i (fit (own t)) (rw b refl) w
  by_head t f i (Some h) b fit w = one_or_alone t f i h b fit w (is_one (own t) h.token && (r.split_names || is_nothing (before h.token.lead))) refl

  pub walks : (i : Bool) (f : Forest) → Walks i f
  walks i none = record { all = λ w. refl; first = λ t. refl }
  walks i (node k c f) = record { all = λ w. (walks false f).all _; first = λ t. refl }
  walks i (leaf t f) = by_head t f i (begins r.split_names own f) refl (walks false f).first (walks false f)

pub names_walked : NamesAreWalked
names_walked r own around i f w = (walks r own around i f).all w
