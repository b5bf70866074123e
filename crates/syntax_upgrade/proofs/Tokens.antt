-- The tokens of a draft, written, are its pieces with the names apart from keywords.
use Rattle.std.proofs.Common.{◌≡◌, ℕ, Bool, true, false, ◌&&◌, if◌then◌else◌, List, [], ◌∷◌, ◌++◌, refl, ap, sym, ◌∙◌, codes}
use Rattle.std.proofs.lemmas.Bool.{false≢true, true≢false}
use Rattle.php_tree.specs.declared.kind.NodeKind.{NodeKind}
use Rattle.tracked_changes.specs.Pieces.{Piece, changed, before}
use Rattle.tracked_changes.specs.Draft.{NewToken, Draft, no_more, new_leaf, new_node, token_pieces, pieces}
use Rattle.tracked_changes.specs.Leads.{holds_none, first_lead, without_lead}
use Rattle.tracked_changes.specs.Tokens.{put_in}
use Rattle.syntax_rules.specs.SplitName.{space_before, is_name, begins_root, keyword_behind, keyword_last, apart, is_nothing}
use Rattle.syntax_upgrade.specs.Writing.{Recorded, pieces_next, piece_next}
use Rattle.syntax_upgrade.specs.Written.{Written, space_next, wants_space, token_next, draft_next, wrapped}

pub pieces_append : (ps qs : List Piece) (r : Recorded) → pieces_next (ps ++ qs) r ≡ pieces_next qs (pieces_next ps r)
pieces_append [] qs r = refl
pieces_append (p ∷ ps) qs r = pieces_append ps qs (piece_next p r)

space_first : (b : Bool) (t : NewToken) (r : Recorded)
    → pieces_next (token_pieces (if b then record t { lead = t.lead ++ changed [] (codes " ") ∷ [] } else t)) r
    ≡ pieces_next t.text (space_next b (pieces_next t.lead r))
space_first true t r =
    pieces_append (t.lead ++ changed [] (codes " ") ∷ []) t.text r
    ∙ ap (pieces_next t.text) (pieces_append t.lead (changed [] (codes " ") ∷ []) r)
space_first false t r = pieces_append t.lead t.text r

-- The tokens of a draft, written.
pub draft_written : (b : Bool) (d : Draft) (r : Recorded)
    → draft_next true d (record { recorded = r; behind = b; parens = 0 })
    ≡ record { recorded = pieces_next (pieces (apart b d)) r; behind = keyword_last b d; parens = 0 }
draft_written b no_more r = refl
draft_written b (new_leaf t d) r =
    draft_written (keyword_behind b t) d (pieces_next t.text (space_next (wants_space true b t) (pieces_next t.lead r)))
    ∙ ap (λ (x : Recorded). record { recorded = x; behind = keyword_last (keyword_behind b t) d; parens = 0 })
    (ap (pieces_next (pieces (apart (keyword_behind b t) d))) (sym (space_first (wants_space true b t) t r))
    ∙ sym (pieces_append (token_pieces (space_before b t)) (pieces (apart (keyword_behind b t) d)) r))
draft_written b (new_node k c d) r =
    ap (draft_next true d) (draft_written b c r)
    ∙ draft_written (keyword_last b c) d (pieces_next (pieces (apart b c)) r)
    ∙ ap (λ (x : Recorded). record { recorded = x; behind = keyword_last (keyword_last b c) d; parens = 0 })
    (sym (pieces_append (pieces (apart b c)) (pieces (apart (keyword_last b c) d)) r))

-- the same where names are not set apart
pub draft_as_is : (b : Bool) (d : Draft) (r : Recorded)
    → draft_next false d (record { recorded = r; behind = b; parens = 0 })
    ≡ record { recorded = pieces_next (pieces d) r; behind = keyword_last b d; parens = 0 }
draft_as_is b no_more r = refl
draft_as_is b (new_leaf t d) r =
    draft_as_is (keyword_behind b t) d (pieces_next t.text (pieces_next t.lead r))
    ∙ ap (λ (x : Recorded). record { recorded = x; behind = keyword_last (keyword_behind b t) d; parens = 0 })
    (ap (pieces_next (pieces d)) (sym (pieces_append t.lead t.text r)) ∙ sym (pieces_append (token_pieces t) (pieces d) r))
draft_as_is b (new_node k c d) r =
    ap (draft_next false d) (draft_as_is b c r)
    ∙ draft_as_is (keyword_last b c) d (pieces_next (pieces c) r)
    ∙ ap (λ (x : Recorded). record { recorded = x; behind = keyword_last (keyword_last b c) d; parens = 0 })
    (sym (pieces_append (pieces c) (pieces d) r))

-- ---- parentheses

same_space : (nl n g : Bool) → (nl && n && g && true) ≡ (n && g && nl)
same_space true true true = refl
same_space true true false = refl
same_space true false true = refl
same_space true false false = refl
same_space false true true = refl
same_space false true false = refl
same_space false false true = refl
same_space false false false = refl

and_true : (b : Bool) → (b && true) ≡ b
and_true true = refl
and_true false = refl

abbrev written_so : Recorded → Bool → ℕ → Written
written_so r b p = record { recorded = r; behind = b; parens = p }

token_opens : (a : Bool) (t : NewToken) (r : Recorded) (b : Bool) (p : ℕ)
    → token_next a (record t { lead = [] }) (token_next a (put_in t.lead (codes "(")) (written_so r b p))
    ≡ token_next a t (wrapped (written_so r b p))
token_opens true t r false p = refl
token_opens false t r false p = refl
token_opens true t r true p =
    let nl = is_nothing (before t.lead) in
    rw (same_space nl (is_name t.kind) (begins_root (before t.text)), and_true nl) refl
token_opens false t r true p = rw (and_true (is_nothing (before t.lead))) refl

pub and_first : (a b : Bool) → (a && b) ≡ true → a ≡ true
and_first true b h = refl
and_first false b h = absurd (false≢true h)

pub and_second : (a b : Bool) → (a && b) ≡ true → b ≡ true
and_second true b h = h
and_second false b h = absurd (false≢true h)

pub nothing_written : (a : Bool) (d : Draft) (w : Written) → holds_none d ≡ true → draft_next a d w ≡ w
nothing_written a no_more w h = refl
nothing_written a (new_leaf t d) w h = absurd (false≢true h)
nothing_written a (new_node k c d) w h =
    ap (draft_next a d) (nothing_written a c w (and_first (holds_none c) (holds_none d) h))
    ∙ nothing_written a d w (and_second (holds_none c) (holds_none d) h)

-- a parenthesis put in behind the trivia before a draft opens at its first text
abbrev OpensFirst : Bool → Draft → Written → Type 0
OpensFirst a d w = holds_none d ≡ false
    → draft_next a (without_lead d) (token_next a (put_in (first_lead d) (codes "(")) w) ≡ draft_next a d (wrapped w)

opens_node : (a : Bool) (k : NodeKind) (c d : Draft) (w : Written) (b : Bool) → holds_none c ≡ b
    → OpensFirst a c w → OpensFirst a d w → OpensFirst a (new_node k c d) w
opens_node a k c d w true e hc hd h =
    let n : holds_none d ≡ false = rw e at h in
    rw e (ap (draft_next a (without_lead d)) (nothing_written a c (token_next a (put_in (first_lead d) (codes "(")) w) e)
    ∙ hd n ∙ sym (ap (draft_next a d) (nothing_written a c (wrapped w) e)))
opens_node a k c d w false e hc hd h = rw e (ap (draft_next a d) (hc e))

pub opens_first : (a : Bool) (d : Draft) (w : Written) → OpensFirst a d w
opens_first a no_more w h = absurd (true≢false h)
opens_first a (new_leaf t d) w h = ap (draft_next a d) (token_opens a t w.recorded w.behind w.parens)
opens_first a (new_node k c d) w h = opens_node a k c d w (holds_none c) refl (opens_first a c w) (opens_first a d w) h
