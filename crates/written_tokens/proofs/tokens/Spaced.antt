-- Spaces may be put before names that are still in parts.
use Rattle.std.proofs.Common.{◌≡◌, ℕ, Bool, true, false, cond, not, ◌&&◌, ◌||◌, List, [], ◌∷◌, ◌++◌, codes, refl, sym, ap, ◌∙◌, append_assoc, append-nil}
use Rattle.std.proofs.lemmas.Bool.{not-true}
use Rattle.php_tree.specs.declared.token.TokenKind.{TokenKind}
use Rattle.php_tree.specs.declared.token.TokenKind.TheVariants as token
use Rattle.tracked_changes.specs.Pieces.{Piece, changed, old_bytes, before}
use Rattle.tracked_changes.specs.Draft.{NewToken}
use Rattle.syntax_rules.specs.SplitName.{
  is_label,
  is_name,
  is_keyword,
  is_nothing,
  begins_root,
  is_backslash,
  is_namespace,
  deleted,
  is_one,
  one_name,
  space_before,
  keyword_behind,
}
use Rattle.written_tokens.specs.tokens.Drafted.{before_all, all_whole, all_spaced, joins}
use Rattle.written_tokens.specs.tokens.Spaced.{space_put, spaces_put, front_text, SpacesComeFirst}

before_append : (ps qs : List Piece) → before (ps ++ qs) ≡ before ps ++ before qs
before_append [] qs = refl
before_append (p ∷ ps) qs = ap (λ (l : List ℕ). old_bytes p ++ l) (before_append ps qs) ∙ sym (append_assoc (old_bytes p) (before ps) (before qs))

spaced_lead : (ps : List Piece) → before (ps ++ changed [] (codes " ") ∷ []) ≡ before ps
spaced_lead ps = before_append ps (changed [] (codes " ") ∷ []) ∙ append-nil (before ps)

-- ---- a space changes the trivia alone

abbrev given : Bool → NewToken → NewToken
given b t = cond b (record t { lead = t.lead ++ changed [] (codes " ") ∷ [] }) t

one_given : (t u : NewToken) (b : Bool) → is_one t (given b u) ≡ is_one t u
one_given t u true = refl
one_given t u false = refl

given_one : (t u : NewToken) (b : Bool) → is_one (given b t) u ≡ is_one t u
given_one t u true = refl
given_one t u false = refl

name_given : (t u : NewToken) (b : Bool) → one_name t (given b u) ≡ one_name t u
name_given t u true = ap (λ (l : List ℕ). record { kind = token.Name; lead = t.lead; text = t.text ++ deleted l ++ u.text }) (spaced_lead u.lead)
name_given t u false = refl

given_name : (t u : NewToken) (b : Bool) → one_name (given b t) u ≡ given b (one_name t u)
given_name t u true = refl
given_name t u false = refl

-- ---- a part before what follows

root_front : (xs ys : List ℕ) → is_nothing xs ≡ false → begins_root (xs ++ ys) ≡ begins_root xs
root_front [] ys h = absurd cc
root_front (x ∷ xs) ys h = refl

some_front : (xs ys : List ℕ) → is_nothing xs ≡ false → is_nothing (xs ++ ys) ≡ false
some_front [] ys h = absurd cc
some_front (x ∷ xs) ys h = refl

old_text : (t u : NewToken) → before (one_name t u).text ≡ before t.text ++ (before (deleted (before u.lead)) ++ before u.text)
old_text t u =
    before_append (t.text ++ deleted (before u.lead)) u.text
    ∙ ap (λ (l : List ℕ). l ++ before u.text) (before_append t.text (deleted (before u.lead)))
    ∙ append_assoc (before t.text) (before (deleted (before u.lead))) (before u.text)

-- what is joined to a token is no keyword
label_word : (k : TokenKind) → is_label k ≡ true → is_keyword k ≡ false
label_word token.Label h = refl
label_word _ h = absurd cc

name_word : (k : TokenKind) → is_name k ≡ true → is_keyword k ≡ false
name_word token.Name h = refl
name_word _ h = absurd cc

either_word : (k : TokenKind) (x y : Bool) → is_label k ≡ x → is_name k ≡ y → (x || y) ≡ true → is_keyword k ≡ false
either_word k true y p q h = label_word k p
either_word k false true p q h = name_word k q
either_word k false false p q h = absurd cc

part_of : (p l n r d : Bool) → ((p && (l || (n && not r))) || (d && n && r)) ≡ true → (l || n) ≡ true
part_of p true n r d h = refl
part_of p false true r d h = refl
part_of true false false r true h = absurd cc
part_of true false false r false h = absurd cc
part_of false false false r true h = absurd cc
part_of false false false r false h = absurd cc

one_word : (t u : NewToken) → is_one t u ≡ true → is_keyword u.kind ≡ false
one_word t u h = either_word u.kind (is_label u.kind) (is_name u.kind) refl refl
    (part_of (is_backslash t) (is_label u.kind) (is_name u.kind) (begins_root (before u.text))
    (is_label t.kind || is_namespace t) h)

behind_part : (b : Bool) (t u : NewToken) → is_one t u ≡ true → is_nothing (before u.text) ≡ false → keyword_behind b u ≡ false
behind_part b t u h text = rw (text, one_word t u h) refl

behind_name : (b : Bool) (t u : NewToken) → is_nothing (before t.text) ≡ false → keyword_behind b (one_name t u) ≡ false
behind_name b t u text = rw (ap is_nothing (old_text t u) ∙ some_front (before t.text) (before (deleted (before u.lead)) ++ before u.text) text) refl

-- ---- the whole

abbrev wants : Bool → NewToken → Bool → Bool
wants behind t begins = behind && (begins || is_name t.kind) && begins_root (before t.text) && is_nothing (before t.lead)

space_is : (behind : Bool) (t u : NewToken) → is_nothing (before t.text) ≡ false → space_before behind (one_name t u) ≡ given (wants behind t true) (one_name t u)
space_is behind t u text = ap (λ (r : Bool). given (behind && true && r && is_nothing (before t.lead)) (one_name t u))
    (ap begins_root (old_text t u) ∙ root_front (before t.text) (before (deleted (before u.lead)) ++ before u.text)
    text)

apart_is : (t : NewToken) (us : List NewToken) → joins t us ≡ false → before_all t us ≡ t ∷ us
apart_is t [] h = refl
apart_is t (u ∷ us) h = rw h refl

joins_spaced : (t : NewToken) (behind : Bool) (us : List NewToken) → joins t (all_spaced behind us) ≡ joins t us
joins_spaced t behind [] = refl
joins_spaced t behind (u ∷ us) = one_given t u (behind && is_name u.kind && begins_root (before u.text) && is_nothing (before u.lead))

given_joins : (t : NewToken) (us : List NewToken) (b : Bool) → joins (given b t) us ≡ joins t us
given_joins t [] b = refl
given_joins t (u ∷ us) b = given_one t u b

module _ (behind : Bool) (t : NewToken) (ts : List NewToken) where
  abbrev Goal : Type 0
  Goal = all_spaced behind (all_whole (t ∷ ts)) ≡ all_whole (spaces_put behind (t ∷ ts))

  apart_goal : all_spaced (keyword_behind behind t) (all_whole ts) ≡ all_whole
      (spaces_put (keyword_behind behind t) ts) → joins t (all_whole ts) ≡ false
      → all_spaced behind (all_whole (t ∷ ts)) ≡ all_whole (spaces_put behind (t ∷ ts))
  apart_goal ih h =
      let bare : joins t (all_spaced (keyword_behind behind t) (all_whole ts)) ≡ false = joins_spaced t (keyword_behind behind t) (all_whole ts) ∙ h in
      ap (all_spaced behind) (apart_is t (all_whole ts) h)
      ∙ sym (apart_is (given (wants behind t false) t) (all_spaced (keyword_behind behind t) (all_whole ts))
      (given_joins t (all_spaced (keyword_behind behind t) (all_whole ts)) (wants behind t false) ∙ bare))
      ∙ ap (λ (l : List NewToken). before_all (given (wants behind t false) t) l) ih
      ∙ ap (λ (b : Bool). before_all (space_put behind t b) (all_whole (spaces_put (keyword_behind behind t) ts))) (sym h)

  one_goal : (us : List NewToken) → all_whole ts ≡ us → all_spaced (keyword_behind behind t) (all_whole ts) ≡
      all_whole (spaces_put (keyword_behind behind t) ts) → joins t us ≡ true → is_nothing (before t.text) ≡ false
      → front_text us ≡ true → all_spaced behind (all_whole (t ∷ ts)) ≡ all_whole (spaces_put behind (t ∷ ts))
  one_goal [] e ih h text first = absurd cc
  one_goal (u ∷ us) e ih h text first =
      let flag : Bool = keyword_behind behind t in
      let spaced : Bool = flag && is_name u.kind && begins_root (before u.text) && is_nothing (before u.lead) in
      let there : joins t (all_whole ts) ≡ true = ap (joins t) e ∙ h in
      let one : before_all t (u ∷ us) ≡ one_name t u ∷ us = rw h refl in
      let left : all_spaced behind (all_whole (t ∷ ts)) ≡ given (wants behind t true) (one_name t u) ∷ all_spaced false us =
      ap (λ (l : List NewToken). all_spaced behind (before_all t l)) e
      ∙ ap (all_spaced behind) one
      ∙ ap (λ (x : NewToken). x ∷ all_spaced (keyword_behind behind (one_name t u)) us) (space_is behind t u text)
      ∙ ap (λ (b : Bool). given (wants behind t true) (one_name t u) ∷ all_spaced b us) (behind_name behind t u text) in
      let next : all_spaced flag (u ∷ us) ≡ given spaced u ∷ all_spaced false us =
      ap (λ (b : Bool). given spaced u ∷ all_spaced b us) (behind_part flag t u h (not-true (is_nothing (before u.text)) first)) in
      let met : is_one (given (wants behind t true) t) (given spaced u) ≡ true = given_one t (given spaced u) (wants behind t true) ∙ one_given t u spaced ∙ h in
      let right : before_all (given (wants behind t true) t) (given spaced u ∷ all_spaced false us) ≡ given (wants behind t true) (one_name t u) ∷ all_spaced false us =
      ap (λ (b : Bool). cond b (one_name (given (wants behind t true) t) (given spaced u) ∷ all_spaced false us)
      (given (wants behind t true) t ∷ given spaced u ∷ all_spaced false us)) met
      ∙ ap (λ (x : NewToken). x ∷ all_spaced false us) (name_given (given (wants behind t true) t) u spaced ∙ given_name t u (wants behind t true)) in
      left ∙ sym right
      ∙ ap (λ (l : List NewToken). before_all (given (wants behind t true) t) l) (sym next ∙ ap (all_spaced flag) (sym e) ∙ ih)
      ∙ ap (λ (b : Bool). before_all (space_put behind t b) (all_whole (spaces_put flag ts))) (sym there)

  goal_by : (b : Bool) → joins t (all_whole ts) ≡ b → all_spaced (keyword_behind behind t) (all_whole ts) ≡ all_whole
      (spaces_put (keyword_behind behind t) ts)
      → (joins t (all_whole ts) ≡ true → (is_nothing (before t.text) ≡ false) × (front_text (all_whole ts) ≡ true))
      → all_spaced behind (all_whole (t ∷ ts)) ≡ all_whole (spaces_put behind (t ∷ ts))
  goal_by false h ih texts = apart_goal ih h
  goal_by true h ih texts = one_goal (all_whole ts) refl ih h (texts h).0 (texts h).1

pub spaces_come_first : SpacesComeFirst
spaces_come_first behind [] h = refl
spaces_come_first behind (t ∷ ts) h = goal_by behind t ts (joins t (all_whole ts)) refl (spaces_come_first (keyword_behind behind t) ts h.1) h.0
