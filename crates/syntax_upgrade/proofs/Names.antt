-- Whole names, and the trivia before a draft.
use Rattle.std.proofs.Common.{◌≡◌, ℕ, Bool, true, false, ◌&&◌, ◌||◌, if◌then◌else◌, List, [], ◌++◌, refl, ap, sym, ◌∙◌, codes, append-nil}
use Rattle.std.specs.Prelude.{cond}
use Rattle.std.proofs.lemmas.Bool.{false≢true}
use Rattle.php_tree.specs.declared.kind.NodeKind.{NodeKind}
use Rattle.tracked_changes.specs.patches.Patches.{Wrapping}
use Rattle.tracked_changes.specs.Pieces.{Piece, before}
use Rattle.tracked_changes.specs.Draft.{NewToken, Draft, no_more, new_leaf, new_node}
use Rattle.tracked_changes.specs.Leads.{holds_none, first_lead, without_lead}
use Rattle.tracked_changes.specs.Tokens.{put_in}
use Rattle.tracked_changes.specs.Walk.{NewTree, new_alone}
use Rattle.tracked_changes.specs.Parens.{in_parens, in_wrappings}
use Rattle.syntax_rules.specs.SplitName.{is_one, one_name, in_front, whole_names, is_nothing}
use Rattle.syntax_upgrade.specs.Writing.{Recorded}
use Rattle.syntax_upgrade.specs.Written.{Written, token_next, draft_next, wrapped, unwrapped, wrapped_if, unwrapped_if}
use Rattle.syntax_rules.specs.InContext.{inside_by, parens_if}
use Rattle.syntax_rules.proofs.InContext.{wrapping_by_is}
use Rattle.syntax_upgrade.specs.Laws.{NodesAreWritten, nests_by, regroups_by}
use Rattle.syntax_upgrade.proofs.Tokens.{opens_first, nothing_written, and_first, and_second}

abbrev joined_if : Bool → NewToken → NewToken → Draft → Draft
joined_if b t u d = if b then new_leaf (one_name t u) d else new_leaf t (new_leaf u d)

abbrev bare : NewToken → NewToken
bare t = record t { lead = [] }

some_if : (b : Bool) (t u : NewToken) (d : Draft) → holds_none (joined_if b t u d) ≡ false
some_if true t u d = refl
some_if false t u d = refl

lead_if : (b : Bool) (t u : NewToken) (d : Draft) → first_lead (joined_if b t u d) ≡ t.lead
lead_if true t u d = refl
lead_if false t u d = refl

bare_if : (b : Bool) (t u : NewToken) (d : Draft) → joined_if b (bare t) u d ≡ without_lead (joined_if b t u d)
bare_if true t u d = refl
bare_if false t u d = refl

front_some : (n : Bool) (t : NewToken) (d : Draft) → holds_none (in_front n t d) ≡ false
front_some n t no_more = refl
front_some n t (new_leaf u d) = some_if (is_one t u && (n || is_nothing (before u.lead))) t u d
front_some n t (new_node k c d) = refl

front_lead : (n : Bool) (t : NewToken) (d : Draft) → first_lead (in_front n t d) ≡ t.lead
front_lead n t no_more = refl
front_lead n t (new_leaf u d) = lead_if (is_one t u && (n || is_nothing (before u.lead))) t u d
front_lead n t (new_node k c d) = refl

front_bare : (n : Bool) (t : NewToken) (d : Draft) → in_front n (bare t) d ≡ without_lead (in_front n t d)
front_bare n t no_more = refl
front_bare n t (new_leaf u d) = bare_if (is_one t u && (n || is_nothing (before u.lead))) t u d
front_bare n t (new_node k c d) = refl

pub whole_none : (n : Bool) (d : Draft) → holds_none (whole_names n d) ≡ holds_none d
whole_none n no_more = refl
whole_none n (new_leaf t d) = front_some n t (whole_names n d)
whole_none n (new_node k c d) = rw (whole_none n c, whole_none n d) refl

lead_cases : (b x : Bool) (ps qs us vs : List Piece) → b ≡ x → ps ≡ us → qs ≡ vs → cond b ps qs ≡ cond x us vs
lead_cases b x ps qs us vs e h k = rw (e, h, k) refl

pub whole_lead : (n : Bool) (d : Draft) → first_lead (whole_names n d) ≡ first_lead d
whole_lead n no_more = refl
whole_lead n (new_leaf t d) = front_lead n t (whole_names n d)
whole_lead n (new_node k c d) = lead_cases _ _ _ _ _ _ (whole_none n c) (whole_lead n d) (whole_lead n c)

bare_cases : (n : Bool) (k : NodeKind) (c d : Draft) (b : Bool)
    → whole_names n (without_lead c) ≡ without_lead (whole_names n c)
    → whole_names n (without_lead d) ≡ without_lead (whole_names n d)
    → whole_names n (cond b (new_node k c (without_lead d)) (new_node k (without_lead c) d))
    ≡ cond b (new_node k (whole_names n c) (without_lead (whole_names n d))) (new_node k (without_lead (whole_names n c)) (whole_names n d))
bare_cases n k c d true h i = ap (new_node k (whole_names n c)) i
bare_cases n k c d false h i = ap (λ (x : Draft). new_node k x (whole_names n d)) h

pub whole_bare : (n : Bool) (d : Draft) → whole_names n (without_lead d) ≡ without_lead (whole_names n d)
whole_bare n no_more = refl
whole_bare n (new_leaf t d) = front_bare n t (whole_names n d)
whole_bare n (new_node k c d) =
    bare_cases n k c d (holds_none c) (whole_bare n c) (whole_bare n d)
    ∙ ap (λ (b : Bool). cond b (new_node k (whole_names n c) (without_lead (whole_names n d))) (new_node k (without_lead (whole_names n c)) (whole_names n d)))
    (sym (whole_none n c))

-- ---- parentheses round a node

closed : (n : Bool) (r : Recorded) (b : Bool) (p : ℕ)
    → token_next n (put_in [] (codes ")")) (record { recorded = r; behind = b; parens = p })
    ≡ unwrapped (record { recorded = r; behind = b; parens = p })
closed true r true p = refl
closed true r false p = refl
closed false r true p = refl
closed false r false p = refl

opened_alone : (n : Bool) (r : Recorded) (b : Bool) (p : ℕ)
    → unwrapped (token_next n (put_in [] (codes "(")) (record { recorded = r; behind = b; parens = p }))
    ≡ unwrapped (wrapped (record { recorded = r; behind = b; parens = p }))
opened_alone true r true p = refl
opened_alone true r false p = refl
opened_alone false r true p = refl
opened_alone false r false p = refl

no_lead : (d : Draft) → holds_none d ≡ true → first_lead d ≡ []
no_lead no_more h = refl
no_lead (new_leaf t d) h = absurd (false≢true h)
no_lead (new_node k c d) h =
    let n : holds_none c ≡ true = and_first (holds_none c) (holds_none d) h in
    rw n (no_lead d (and_second (holds_none c) (holds_none d) h))

none_bare : (n : Bool) (d : Draft) (w : Written) → holds_none d ≡ true → draft_next n (without_lead d) w ≡ w
none_bare n no_more w h = refl
none_bare n (new_leaf t d) w h = absurd (false≢true h)
none_bare n (new_node k c d) w h =
    let m : holds_none c ≡ true = and_first (holds_none c) (holds_none d) h in
    rw m (ap (draft_next n (without_lead d)) (nothing_written n c w m) ∙ none_bare n d w (and_second (holds_none c) (holds_none d) h))

in_parens_opened : (n : Bool) (e : Draft) (w : Written) (b : Bool) → holds_none e ≡ b
    → unwrapped (draft_next n (without_lead e) (token_next n (put_in (first_lead e) (codes "(")) w))
    ≡ unwrapped (draft_next n e (wrapped w))
in_parens_opened n e w false h = ap unwrapped (opens_first n e w h)
in_parens_opened n e w true h =
    ap unwrapped (none_bare n e (token_next n (put_in (first_lead e) (codes "(")) w) h)
    ∙ ap (λ (l : List Piece). unwrapped (token_next n (put_in l (codes "(")) w)) (no_lead e h)
    ∙ opened_alone n w.recorded w.behind w.parens
    ∙ ap unwrapped (sym (nothing_written n e (wrapped w) h))

-- Parentheses round a node, written: one that opens at its first text, and one that closes behind it.
pub in_parens_written : (n : Bool) (t : NewTree) (w : Written)
    → draft_next n (whole_names n (new_alone (in_parens t))) w
    ≡ unwrapped (draft_next n (whole_names n t.1) (wrapped w))
in_parens_written n t w =
    let e = whole_names n t.1 in
    let next = draft_next n (without_lead e) (token_next n (put_in (first_lead e) (codes "(")) w) in
    rw (whole_bare n t.1, ← whole_lead n t.1) (closed n next.recorded next.behind next.parens)
    ∙ in_parens_opened n e w (holds_none e) refl

wraps_written : (n b : Bool) (ws : List Wrapping) (t : NewTree) (w : Written)
    → draft_next n (whole_names n (new_alone (in_wrappings (parens_if b ++ ws) t))) w
    ≡ unwrapped_if b (draft_next n (whole_names n (new_alone (in_wrappings ws t))) (wrapped_if b w))
wraps_written n false ws t w = refl
wraps_written n true ws t w = in_parens_written n (in_wrappings ws t) w

-- A node where it stands, written: what is put round it opens and closes, and its own draft stands between.
pub node_written : NodesAreWritten
node_written r a t w =
    let n = r.split_names in
    let nests = nests_by r a t in
    let regroups = regroups_by r a t in
    rw (wrapping_by_is r a t)
    (wraps_written n nests (parens_if regroups) (inside_by r t) w
    ∙ ap (unwrapped_if nests)
    (ap (λ (ws : List Wrapping). draft_next n (whole_names n (new_alone (in_wrappings ws (inside_by r t)))) (wrapped_if nests w))
    (sym (append-nil (parens_if regroups)))
    ∙ wraps_written n regroups [] (inside_by r t) (wrapped_if nests w)))
