-- The first token of a draft, and the trivia before it.
use Rattle.std.proofs.Common.{◌≡◌, Bool, true, false, cond, ◌&&◌, List, [], ◌∷◌, ◌++◌, refl, sym, ap, ◌∙◌}
use Rattle.tracked_changes.specs.Pieces.{Piece}
use Rattle.tracked_changes.specs.Draft.{NewToken, Draft, no_more, new_leaf, new_node}
use Rattle.tracked_changes.specs.Leads.{holds_none, first_lead, without_lead}
use Rattle.written_tokens.specs.tokens.Written.{draft_tokens}

abbrev pub lead_of : List NewToken → List Piece
lead_of [] = []
lead_of (t ∷ ts) = t.lead

abbrev pub leadless : List NewToken → List NewToken
leadless [] = []
leadless (t ∷ ts) = record t { lead = [] } ∷ ts

abbrev are_none : List NewToken → Bool
are_none [] = true
are_none (t ∷ ts) = false

none_append : (ts us : List NewToken) → are_none (ts ++ us) ≡ (are_none ts && are_none us)
none_append [] us = refl
none_append (t ∷ ts) us = refl

holds_is : (d : Draft) → holds_none d ≡ are_none (draft_tokens d)
holds_is no_more = refl
holds_is (new_leaf t d) = refl
holds_is (new_node k c d) =
    ap (λ (x : Bool). x && holds_none d) (holds_is c)
    ∙ ap (λ (x : Bool). are_none (draft_tokens c) && x) (holds_is d)
    ∙ sym (none_append (draft_tokens c) (draft_tokens d))

node_lead : (ts us : List NewToken) (x y : List Piece) → x ≡ lead_of us → y ≡ lead_of ts → cond (are_none ts) x y ≡ lead_of (ts ++ us)
node_lead [] us x y p q = p
node_lead (t ∷ ts) us x y p q = q

pub first_lead_is : (d : Draft) → first_lead d ≡ lead_of (draft_tokens d)
first_lead_is no_more = refl
first_lead_is (new_leaf t d) = refl
first_lead_is (new_node k c d) =
    ap (λ (x : Bool). cond x (first_lead d) (first_lead c)) (holds_is c)
    ∙ node_lead (draft_tokens c) (draft_tokens d) (first_lead d) (first_lead c) (first_lead_is d) (first_lead_is c)

node_bare : (ts us vs ws : List NewToken) → vs ≡ leadless us → ws ≡ leadless ts → cond (are_none ts) (ts ++ vs) (ws ++ us) ≡ leadless (ts ++ us)
node_bare [] us vs ws p q = p
node_bare (t ∷ ts) us vs ws p q = ap (λ (x : List NewToken). x ++ us) q

tokens_cond : (b : Bool) (x y : Draft) → draft_tokens (cond b x y) ≡ cond b (draft_tokens x) (draft_tokens y)
tokens_cond true x y = refl
tokens_cond false x y = refl

pub without_lead_is : (d : Draft) → draft_tokens (without_lead d) ≡ leadless (draft_tokens d)
without_lead_is no_more = refl
without_lead_is (new_leaf t d) = refl
without_lead_is (new_node k c d) =
    tokens_cond (holds_none c) (new_node k c (without_lead d)) (new_node k (without_lead c) d)
    ∙ ap (λ (x : Bool). cond x (draft_tokens c ++ draft_tokens (without_lead d)) (draft_tokens (without_lead c) ++ draft_tokens d)) (holds_is c)
    ∙ node_bare (draft_tokens c) (draft_tokens d) (draft_tokens (without_lead d)) (draft_tokens (without_lead c)) (without_lead_is d) (without_lead_is c)
