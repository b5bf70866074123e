-- The edits of parentheses as drafts are those of the table.
use Rattle.std.proofs.Common.{
  ◌≡◌,
  ℕ,
  suc,
  ◌+◌,
  ◌≤◌,
  Bool,
  true,
  false,
  cond,
  List,
  [],
  ◌∷◌,
  ◌++◌,
  length,
  refl,
  ap,
  sym,
  ◌∙◌,
  subst,
  arith,
  append_assoc,
  append-nil,
  length-append,
  le_refl,
}
use Rattle.std.proofs.Math.Bridge.{le_prop}
use Rattle.std.proofs.Math.Nat.{le-add_right}
use Rattle.span_edits.specs.declared.edit.Edit.{Edit}
use Rattle.span_edits.specs.declared.span.Span.{Span}
use Rattle.php_tree.specs.declared.token.Token.{Token}
use Rattle.php_tree.specs.declared.kind.NodeKind.{NodeKind}
use Rattle.php_tree.specs.Tree.{Forest, none, leaf, node, leaves, count, printed}
use Rattle.php_tree.specs.Places.{ArePlaced, behind, end_of}
use Rattle.php_tree.specs.Ids.{first_or, stop_or, place_of}
use Rattle.php_tree.proofs.Placed.{ends_at, placed-front, placed-back, stop_is}
use Rattle.tracked_changes.specs.patches.Patches.{Patches, Wrapping, InParens, opening, closing}
use Rattle.tracked_changes.specs.patches.Rewritten as patched
use Rattle.tracked_changes.specs.patches.Changes as table
use Rattle.tracked_changes.specs.patches.Laws.{HaveTokens}
use Rattle.tracked_changes.proofs.patches.Leads.{clash, none_append, lead_append, unwrapped, rewritten_none, rewritten_lead}
use Rattle.tracked_changes.specs.Pieces.{Piece, kept, changed, also, before, after}
use Rattle.tracked_changes.specs.Draft.{Draft, new_node, token_pieces, pieces, unchanged_token}
use Rattle.tracked_changes.specs.Edits.{join, joined, replacement, edits_from}
use Rattle.tracked_changes.specs.Leads.{holds_none, first_lead, without_lead}
use Rattle.tracked_changes.specs.Walk.{NewTree, drafted}
use Rattle.tracked_changes.specs.Parens.{in_wrappings, wrapping, WrappingHasEdits}
use Rattle.tracked_changes.proofs.Joining.{before-append, edits_from-append}
use Rattle.tracked_changes.proofs.Unchanged.{OnlyKept, no_edits, before_token, ends-leaves}
use Rattle.tracked_changes.proofs.Walking.{before-drafted}
use Rattle.tracked_changes.proofs.Wrapping.{
  no_pieces,
  pieces-without_lead,
  none_is_none,
  lead_is_lead,
  leaves-unplaced,
  same_none,
  same_lead,
  rewritten_is_rewritten,
  wrappings_keep_bytes,
}

-- ---- an insertion

nothing_added : (at : ℕ) → at + 0 ≡ at
nothing_added at = omega arith

abbrev pub span_of : (a b : ℕ) → a ≤ b → Span
span_of a b h = record { start = a; end = b; ordered = h }

same_span : (a b : ℕ) (h : a ≤ b) (k : a ≤ a) → b ≡ a → span_of a b h ≡ span_of a a k
same_span a b h k e =
    subst (λ x. (l : a ≤ x) → span_of a b h ≡ span_of a x l) e (λ l. ap (λ o. span_of a b o) (le_prop h l)) k

same_edit : (at : ℕ) (text : List ℕ) → replacement at [] text ≡ table.insertion at text
same_edit at text =
    ap (λ (s : Span). let e : Edit = record { span = s; text = text } in e) (same_span at (at + 0) (le-add_right at 0) (le_refl at) (nothing_added at))

-- ---- what opens and closes a node

abbrev pub opens : List Wrapping → List Piece
opens [] = []
opens (w ∷ ws) = changed [] (opening w) ∷ opens ws

abbrev pub closes : List Wrapping → List Piece
closes [] = []
closes (w ∷ ws) = closes ws ++ changed [] (closing w) ∷ []

bare_wrapped : (ws : List Wrapping) (t : NewTree) → pieces (without_lead (in_wrappings ws t).1) ≡ opens ws ++ (pieces (without_lead t.1) ++ closes ws)
bare_wrapped [] t = sym (append-nil (pieces (without_lead t.1)))
bare_wrapped (InParens ∷ ws) t = rw (bare_wrapped ws t) (simp append_assoc)

before_opens : (ws : List Wrapping) → before (opens ws) ≡ []
before_opens [] = refl
before_opens (w ∷ ws) = before_opens ws

before_closes : (ws : List Wrapping) → before (closes ws) ≡ []
before_closes [] = refl
before_closes (w ∷ ws) = before-append (closes ws) (changed [] (closing w) ∷ []) ∙ rw (before_closes ws) refl

opening_edits : (at : ℕ) (ws : List Wrapping) → edits_from at (opens ws) ≡ table.openings at ws
opening_edits at [] = refl
opening_edits at (w ∷ ws) =
    ap (λ e. e ∷ edits_from (at + 0) (opens ws)) (same_edit at (opening w))
    ∙ ap (λ x. table.insertion at (opening w) ∷ edits_from x (opens ws)) (nothing_added at)
    ∙ ap (λ es. table.insertion at (opening w) ∷ es) (opening_edits at ws)

closing_edits : (at : ℕ) (ws : List Wrapping) → edits_from at (closes ws) ≡ table.closings at ws
closing_edits at [] = refl
closing_edits at (w ∷ ws) =
    edits_from-append at (closes ws) (changed [] (closing w) ∷ [])
    ∙ ap (λ x. edits_from at (closes ws) ++ replacement x [] (closing w) ∷ []) (ap (λ bs. at + length bs) (before_closes ws) ∙ nothing_added at)
    ∙ ap (λ e. edits_from at (closes ws) ++ e ∷ []) (same_edit at (closing w))
    ∙ ap (λ es. es ++ table.insertion at (closing w) ∷ []) (closing_edits at ws)

wrapped_holds : (ws : List Wrapping) (t : NewTree) → holds_none t.1 ≡ false → holds_none (in_wrappings ws t).1 ≡ false
wrapped_holds [] t h = h
wrapped_holds (InParens ∷ ws) t h = refl

wrapped_first : (ws : List Wrapping) (t : NewTree) → first_lead (in_wrappings ws t).1 ≡ first_lead t.1
wrapped_first [] t = refl
wrapped_first (InParens ∷ ws) t = wrapped_first ws t

append_at : (at stop : ℕ) (ps qs : List Piece) → at + length (before ps) ≡ stop → edits_from at (ps ++ qs) ≡ edits_from at ps ++ edits_from stop qs
append_at at stop ps qs e = edits_from-append at ps qs ∙ ap (λ x. edits_from at ps ++ edits_from x qs) e

-- a node in its wrappings, and what follows it
wrapped_edits : (from stop : ℕ) (ws : List Wrapping) (bare rest : List Piece) → from + length (before bare) ≡ stop
    → edits_from from ((opens ws ++ (bare ++ closes ws)) ++ rest)
    ≡ table.openings from ws ++ edits_from from bare ++ table.closings stop ws ++ edits_from stop rest
wrapped_edits from stop ws bare rest e =
    let inside : List Piece = bare ++ closes ws in
    let opened : from + length (before (opens ws)) ≡ from = ap (λ bs. from + length bs) (before_opens ws) ∙ nothing_added from in
    let same : before (opens ws ++ inside) ≡ before bare =
    before-append (opens ws) inside ∙ ap (λ x. x ++ before inside) (before_opens ws) ∙ before-append bare (closes ws)
    ∙ ap (λ x. before bare ++ x) (before_closes ws) ∙ append-nil (before bare) in
    append_at from stop (opens ws ++ inside) rest (ap (λ bs. from + length bs) same ∙ e)
    ∙ ap (λ es. es ++ edits_from stop rest) (append_at from from (opens ws) inside opened
    ∙ ap (λ es. edits_from from (opens ws) ++ es) (append_at from stop bare (closes ws) e)
    ∙ sym (append_assoc (edits_from from (opens ws)) (edits_from from bare) (edits_from stop (closes ws))))
    ∙ ap (λ es. es ++ edits_from from bare ++ edits_from stop (closes ws) ++ edits_from stop rest) (opening_edits from ws)
    ∙ ap (λ es. table.openings from ws ++ edits_from from bare ++ es ++ edits_from stop rest) (closing_edits stop ws)

-- ---- places

end_is : (at : ℕ) (f : Forest) → end_of at f ≡ at + length (printed f)
end_is at none = omega arith
end_is at (leaf t f) =
    let sum : length ((t.lead ++ t.text) ++ printed f) ≡ (length t.lead + length t.text) + length (printed f) = simp length-append refl in
    end_is (behind at t) f ∙ omega arith
end_is at (node k c f) =
    let sum : length (printed c ++ printed f) ≡ length (printed c) + length (printed f) = length-append (printed c) (printed f) in
    let first : end_of at c ≡ at + length (printed c) = end_is at c in
    end_is (end_of at c) f ∙ omega arith

start_is : (at : ℕ) (ts : List Token) (next : Token) → patched.has_none ts ≡ false → ArePlaced at ts → (place_of ts next).0 ≡ at + length (patched.first_lead ts)
start_is at [] next e h = clash (sym e)
start_is at (t ∷ ts) next e h = h.0

stop_at : (at : ℕ) (ts : List Token) (next : Token) → patched.has_none ts ≡ false → ArePlaced at ts → (place_of ts next).1 ≡ ends_at at ts
stop_at at [] next e h = clash (sym e)
stop_at at (t ∷ ts) next e h = ap (λ x. stop_or ts (x + length t.text)) h.0 ∙ stop_is (behind at t) ts h.1

-- ---- drafts of a table

module _ (p : Patches) where
  abbrev pub draft : ℕ → Forest → Draft
  draft id f = drafted (wrapping p) id f

  draft_bytes : (id : ℕ) (f : Forest) → before (pieces (draft id f)) ≡ printed f
  draft_bytes id f = before-drafted (wrapping p) before_token (λ i t. wrappings_keep_bytes (p i)) id f

  holds : (id : ℕ) (f : Forest) → HaveTokens p id f → holds_none (draft id f) ≡ patched.has_none (leaves f)
  holds id f h =
      sym (none_is_none (draft id f)) ∙ ap (λ g. patched.has_none (leaves g)) (rewritten_is_rewritten p id f)
      ∙ ap patched.has_none (leaves-unplaced (patched.rewritten p id f)) ∙ same_none (leaves (patched.rewritten p id f))
      ∙ rewritten_none p id f h

  only_kept_if : (b : Bool) (ps qs : List Piece) → OnlyKept ps → OnlyKept qs → OnlyKept (cond b ps qs)
  only_kept_if true ps qs h k = h
  only_kept_if false ps qs h k = k

  kept_lead : (id : ℕ) (f : Forest) → OnlyKept (first_lead (draft id f))
  kept_lead id none = tt
  kept_lead id (leaf t f) = tt
  kept_lead id (node k c f) =
      only_kept_if (holds_none (in_wrappings (p id) (k, draft (suc id) c)).1) (first_lead (draft (suc (id + count c)) f)) (first_lead (in_wrappings (p id) (k, draft (suc id) c)).1)
      (kept_lead (suc (id + count c)) f) (subst OnlyKept (sym (wrapped_first (p id) (k, draft (suc id) c))) (kept_lead (suc id) c))

  same_kept : (ps : List Piece) → OnlyKept ps → before ps ≡ after ps
  same_kept [] h = refl
  same_kept (kept b ∷ ps) h = ap (λ x. b ++ x) (same_kept ps h)
  same_kept (changed o t ∷ ps) h = absurd h
  same_kept (also t ∷ ps) h = absurd h

  lead_bytes : (id : ℕ) (f : Forest) → HaveTokens p id f → before (first_lead (draft id f)) ≡ patched.first_lead (leaves f)
  lead_bytes id f h =
      same_kept (first_lead (draft id f)) (kept_lead id f) ∙ sym (lead_is_lead (draft id f))
      ∙ ap (λ g. patched.first_lead (leaves g)) (rewritten_is_rewritten p id f)
      ∙ ap patched.first_lead (leaves-unplaced (patched.rewritten p id f)) ∙ same_lead (leaves (patched.rewritten p id f))
      ∙ rewritten_lead p id f h

  -- ---- the edits of a forest, and those from behind its first trivia on

  pub record Both (id at : ℕ) (f : Forest) (next : Token) : Type 0 where
    pub whole : edits_from at (pieces (draft id f)) ≡ table.edits_of p id f next
    pub bare : patched.has_none (leaves f) ≡ false
        → edits_from (at + length (patched.first_lead (leaves f))) (pieces (without_lead (draft id f))) ≡ table.edits_of p id f next

  whole_of : (id at : ℕ) (f : Forest) (next : Token) → HaveTokens p id f
      → edits_from (at + length (patched.first_lead (leaves f))) (pieces (without_lead (draft id f))) ≡ table.edits_of p id f next
      → edits_from at (pieces (draft id f)) ≡ table.edits_of p id f next
  whole_of id at f next h b =
      ap (edits_from at) (pieces-without_lead (draft id f))
      ∙ edits_from-append at (first_lead (draft id f)) (pieces (without_lead (draft id f)))
      ∙ ap (λ es. es ++ edits_from (at + length (before (first_lead (draft id f)))) (pieces (without_lead (draft id f)))) (no_edits at (first_lead (draft id f)) (kept_lead id f))
      ∙ ap (λ bs. edits_from (at + length bs) (pieces (without_lead (draft id f)))) (lead_bytes id f h)
      ∙ b

  -- a node with tokens, by what stands in it and what follows it
  node_bare : (id at : ℕ) (k : NodeKind) (c f : Forest) (next : Token) → patched.has_none (leaves c) ≡ false
      → HaveTokens p id (node k c f) → ArePlaced at (leaves c)
      → edits_from (at + length (patched.first_lead (leaves c))) (pieces (without_lead (draft (suc id) c))) ≡ table.edits_of p (suc id) c (first_or (leaves f) next)
      → edits_from (end_of at c) (pieces (draft (suc (id + count c)) f)) ≡ table.edits_of p (suc (id + count c)) f next
      → edits_from (at + length (patched.first_lead (leaves c ++ leaves f))) (pieces (without_lead (draft id (node k c f)))) ≡ table.edits_of p id (node k c f) next
  node_bare id at k c f next e h placed_c inner outer =
      let ws : List Wrapping = p id in
      let inside : Draft = draft (suc id) c in
      let made : NewTree = in_wrappings ws (k, inside) in
      let rest : Draft = draft (suc (id + count c)) f in
      let lead : List ℕ = patched.first_lead (leaves c) in
      let from : ℕ = at + length lead in
      let bare : List Piece = pieces (without_lead inside) in
      let filled : holds_none inside ≡ false = holds (suc id) c h.1 ∙ e in
      let whole : before (first_lead inside) ++ before bare ≡ printed c =
      sym (before-append (first_lead inside) bare) ∙ ap before (sym (pieces-without_lead inside)) ∙ draft_bytes (suc id) c in
      let sum : length lead + length (before bare) ≡ length (printed c) =
      ap (λ bs. length bs + length (before bare)) (sym (lead_bytes (suc id) c h.1)) ∙ sym (length-append (before (first_lead inside)) (before bare)) ∙ ap length whole in
      let stop : from + length (before bare) ≡ end_of at c = omega arith ∙ sym (end_is at c) in
      let shape : pieces (without_lead (draft id (node k c f))) ≡ (opens ws ++ (bare ++ closes ws)) ++ pieces rest =
      ap (λ b. pieces (cond b (new_node made.0 made.1 (without_lead rest)) (new_node made.0 (without_lead made.1) rest))) (wrapped_holds ws (k, inside) filled)
      ∙ ap (λ ps. ps ++ pieces rest) (bare_wrapped ws (k, inside)) in
      let after_it : Token = first_or (leaves f) next in
      let first : (place_of (leaves c) after_it).0 ≡ from = start_is at (leaves c) after_it e placed_c in
      let last : (place_of (leaves c) after_it).1 ≡ end_of at c = stop_at at (leaves c) after_it e placed_c ∙ ends-leaves at c in
      ap (λ bs. edits_from (at + length bs) (pieces (without_lead (draft id (node k c f))))) (lead_append (leaves c) (leaves f) e)
      ∙ ap (edits_from from) shape
      ∙ wrapped_edits from (end_of at c) ws bare (pieces rest) stop
      ∙ ap (λ es. table.openings from ws ++ es ++ table.closings (end_of at c) ws ++ edits_from (end_of at c) (pieces rest)) inner
      ∙ ap (λ es. table.openings from ws ++ table.edits_of p (suc id) c after_it ++ table.closings (end_of at c) ws ++ es) outer
      ∙ ap (λ x. table.openings x ws ++ table.edits_of p (suc id) c after_it ++ table.closings (end_of at c) ws ++ table.edits_of p (suc (id + count c)) f next) (sym first)
      ∙ ap (λ x. table.openings (place_of (leaves c) after_it).0 ws ++ table.edits_of p (suc id) c after_it
      ++ table.closings x ws ++ table.edits_of p (suc (id + count c)) f next) (sym last)

  -- a node without tokens
  module _ (id at : ℕ) (k : NodeKind) (c f : Forest) (next : Token) (e : patched.has_none (leaves c) ≡ true) (h : HaveTokens p id (node k c f)) where
    unwrapped_here : p id ≡ []
    unwrapped_here = unwrapped p (p id) (leaves c) h.0 e

    empty_inside : pieces (draft (suc id) c) ≡ []
    empty_inside = no_pieces (draft (suc id) c) (holds (suc id) c h.1 ∙ e)

    same_draft : draft id (node k c f) ≡ new_node k (draft (suc id) c) (draft (suc (id + count c)) f)
    same_draft = ap (λ ws. new_node (in_wrappings ws (k, draft (suc id) c)).0 (in_wrappings ws (k, draft (suc id) c)).1 (draft (suc (id + count c)) f)) unwrapped_here

    no_place : end_of at c ≡ at
    no_place = end_is at c ∙ ap (λ bs. at + length bs) (sym (draft_bytes (suc id) c) ∙ ap before empty_inside) ∙ nothing_added at

    listed : edits_from at (pieces (draft (suc id) c)) ≡ table.edits_of p (suc id) c (first_or (leaves f) next)
        → table.edits_of p (suc (id + count c)) f next ≡ table.edits_of p id (node k c f) next
    listed inner =
        let none : [] ≡ table.edits_of p (suc id) c (first_or (leaves f) next) = sym (ap (edits_from at) empty_inside) ∙ inner in
        ap (λ es. es ++ table.edits_of p (suc (id + count c)) f next) none
        ∙ rw unwrapped_here (sym (rw (append-nil (table.edits_of p (suc id) c (first_or (leaves f) next))) refl))

    empty_whole : edits_from at (pieces (draft (suc id) c)) ≡ table.edits_of p (suc id) c (first_or (leaves f) next)
        → edits_from (end_of at c) (pieces (draft (suc (id + count c)) f)) ≡ table.edits_of p (suc (id + count c)) f next
        → edits_from at (pieces (draft id (node k c f))) ≡ table.edits_of p id (node k c f) next
    empty_whole inner outer =
        ap (λ d. edits_from at (pieces d)) same_draft
        ∙ ap (λ ps. edits_from at (ps ++ pieces (draft (suc (id + count c)) f))) empty_inside
        ∙ ap (λ x. edits_from x (pieces (draft (suc (id + count c)) f))) (sym no_place)
        ∙ outer ∙ listed inner

    empty_bare : edits_from at (pieces (draft (suc id) c)) ≡ table.edits_of p (suc id) c (first_or (leaves f) next)
        → edits_from (end_of at c + length (patched.first_lead (leaves f))) (pieces (without_lead (draft (suc (id + count c)) f))) ≡ table.edits_of p (suc (id + count c)) f next
        → edits_from (at + length (patched.first_lead (leaves c ++ leaves f))) (pieces (without_lead (draft id (node k c f)))) ≡ table.edits_of p id (node k c f) next
    empty_bare inner outer =
        let rest : Draft = draft (suc (id + count c)) f in
        ap (λ ts. edits_from (at + length (patched.first_lead ts)) (pieces (without_lead (draft id (node k c f))))) (none_append (leaves c) (leaves f) e)
        ∙ ap (λ d. edits_from (at + length (patched.first_lead (leaves f))) (pieces (without_lead d))) same_draft
        ∙ ap (λ b. edits_from (at + length (patched.first_lead (leaves f)))
        (pieces (cond b (new_node k (draft (suc id) c) (without_lead rest))
        (new_node k (without_lead (draft (suc id) c)) rest)))) (holds (suc id) c h.1 ∙ e)
        ∙ ap (λ ps. edits_from (at + length (patched.first_lead (leaves f))) (ps ++ pieces (without_lead rest))) empty_inside
        ∙ ap (λ x. edits_from (x + length (patched.first_lead (leaves f))) (pieces (without_lead rest))) (sym no_place)
        ∙ outer ∙ listed inner

  -- ---- all forests

  node_both : (b : Bool) (id at : ℕ) (k : NodeKind) (c f : Forest) (next : Token) → patched.has_none (leaves c) ≡ b
      → HaveTokens p id (node k c f) → ArePlaced at (leaves c)
      → Both (suc id) at c (first_or (leaves f) next) → Both (suc (id + count c)) (end_of at c) f next → Both id at (node k c f) next
  node_both true id at k c f next e h placed_c inner outer = record {
    whole = empty_whole id at k c f next e h inner.whole outer.whole;
    bare = λ filled. empty_bare id at k c f next e h inner.whole (outer.bare (ap patched.has_none (sym (none_append (leaves c) (leaves f) e)) ∙ filled));
  }
  node_both false id at k c f next e h placed_c inner outer =
      let b = node_bare id at k c f next e h placed_c (inner.bare e) outer.whole in
      record { whole = whole_of id at (node k c f) next h b; bare = λ filled. b }

  all_edits : (id at : ℕ) (f : Forest) (next : Token) → HaveTokens p id f → ArePlaced at (leaves f) → Both id at f next
  all_edits id at none next h q = record { whole = refl; bare = λ e. clash (sym e) }
  all_edits id at (leaf t f) next h q =
      let rest = all_edits id (behind at t) f next h q.1 in
      record { whole = rest.whole; bare = λ e. rest.whole }
  all_edits id at (node k c f) next h q =
      let placed_c : ArePlaced at (leaves c) = placed-front at (leaves c) (leaves f) q in
      let placed_f : ArePlaced (end_of at c) (leaves f) = subst (λ x. ArePlaced x (leaves f)) (ends-leaves at c) (placed-back at (leaves c) (leaves f) q) in
      node_both (patched.has_none (leaves c)) id at k c f next refl h placed_c
      (all_edits (suc id) at c (first_or (leaves f) next) h.1 placed_c)
      (all_edits (suc (id + count c)) (end_of at c) f next h.2 placed_f)

-- ---- no text goes on

abbrev pub NoAlso : List Piece → Type 0
NoAlso [] = Unit {0}
NoAlso (kept b ∷ ps) = NoAlso ps
NoAlso (changed o t ∷ ps) = NoAlso ps
NoAlso (also t ∷ ps) = ⊥

no_also_append : (ps qs : List Piece) → NoAlso ps → NoAlso qs → NoAlso (ps ++ qs)
no_also_append [] qs h g = g
no_also_append (kept b ∷ ps) qs h g = no_also_append ps qs h g
no_also_append (changed o t ∷ ps) qs h g = no_also_append ps qs h g
no_also_append (also t ∷ ps) qs h g = absurd h

no_also_split : (ps qs : List Piece) → NoAlso (ps ++ qs) → NoAlso ps × NoAlso qs
no_also_split [] qs h = (tt, h)
no_also_split (kept b ∷ ps) qs h = no_also_split ps qs h
no_also_split (changed o t ∷ ps) qs h = no_also_split ps qs h
no_also_split (also t ∷ ps) qs h = absurd h

join_alone : (p : Piece) (ps : List Piece) → NoAlso (p ∷ ps) → join p ps ≡ p ∷ ps
join_alone (kept b) ps h = refl
join_alone (changed o t) [] h = refl
join_alone (changed o t) (kept b ∷ ps) h = refl
join_alone (changed o t) (changed u v ∷ ps) h = refl
join_alone (changed o t) (also m ∷ ps) h = absurd h
join_alone (also t) ps h = absurd h

pub joined_alone : (ps : List Piece) → NoAlso ps → joined ps ≡ ps
joined_alone [] h = refl
joined_alone (kept b ∷ ps) h = ap (λ qs. kept b ∷ qs) (joined_alone ps h)
joined_alone (changed o t ∷ ps) h = ap (join (changed o t)) (joined_alone ps h) ∙ join_alone (changed o t) ps h
joined_alone (also t ∷ ps) h = absurd h

no_also_wrapped : (ws : List Wrapping) (t : NewTree) → NoAlso (pieces t.1) → NoAlso (pieces (in_wrappings ws t).1)
no_also_wrapped [] t h = h
no_also_wrapped (InParens ∷ ws) t h =
    let inner : Draft = (in_wrappings ws t).1 in
    let opened : List Piece = changed [] (opening InParens) ∷ [] in
    let closed : List Piece = changed [] (closing InParens) ∷ [] in
    let both = no_also_split (first_lead inner) (pieces (without_lead inner)) (subst NoAlso (pieces-without_lead inner) (no_also_wrapped ws t h)) in
    no_also_append (first_lead inner ++ opened) (pieces (without_lead inner) ++ closed) (no_also_append (first_lead inner) opened both.0 tt)
    (no_also_append (pieces (without_lead inner)) closed both.1 tt)

no_also_drafted : (p : Patches) (id : ℕ) (f : Forest) → NoAlso (pieces (drafted (wrapping p) id f))
no_also_drafted p id none = tt
no_also_drafted p id (leaf t f) = no_also_drafted p id f
no_also_drafted p id (node k c f) =
    no_also_append (pieces (in_wrappings (p id) (k, drafted (wrapping p) (suc id) c)).1) (pieces (drafted (wrapping p) (suc (id + count c)) f))
    (no_also_wrapped (p id) (k, drafted (wrapping p) (suc id) c) (no_also_drafted p (suc id) c)) (no_also_drafted p (suc (id + count c)) f)

-- ---- a whole file

pub wrapping_has_edits : WrappingHasEdits
wrapping_has_edits p f q h =
    let front : ArePlaced 0 (leaves f.statements) = placed-front 0 (leaves f.statements) (f.end ∷ []) q in
    let body : List Piece = pieces (drafted (wrapping p) 0 f.statements) in
    let last : List Piece = token_pieces (unchanged_token f.end) in
    ap (edits_from 0) (joined_alone (body ++ last) (no_also_append body last (no_also_drafted p 0 f.statements) tt))
    ∙ edits_from-append 0 body last
    ∙ append-nil (edits_from 0 body)
    ∙ (all_edits p 0 0 f.statements f.end h front).whole
