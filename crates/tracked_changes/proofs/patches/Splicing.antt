-- The bytes with the edits made are the rewritten tree, printed.
use Rattle.std.proofs.Common.{◌≡◌, ℕ, suc, ◌+◌, ◌≤◌, Bool, true, false, List, [], ◌∷◌, ◌++◌, length, refl, ap, sym, ◌∙◌, subst, arith, append_assoc, length-append}
use Rattle.std.proofs.Math.Seq.{take-append_seam, drop-append_seam}
use Rattle.std.proofs.lemmas.List.{append-nil}
use Rattle.span_edits.specs.declared.edit.Edit.{Edit}
use Rattle.span_edits.specs.EditList.{AreApart}
use Rattle.span_edits.specs.Splice.{spliced_from}
use Rattle.span_edits.proofs.SpliceLemmas.{spliced_from-skip, spliced_from-edit, spliced_from-none}
use Rattle.php_tree.specs.declared.token.Token.{Token}
use Rattle.php_tree.specs.declared.kind.NodeKind.{NodeKind}
use Rattle.php_tree.specs.Tree.{Forest, none, leaf, node, leaves, count, printed, token_bytes, file_printed}
use Rattle.php_tree.specs.Places.{ArePlaced, behind, end_of, placed}
use Rattle.php_tree.specs.Ids.{first_or, stop_or, place_of}
use Rattle.php_tree.proofs.Placed.{ends_at, ends-append, placed-front, placed-back, stop_is}
use Rattle.tracked_changes.specs.patches.Patches.{Patches, Wrapping, opening, closing}
use Rattle.tracked_changes.specs.patches.Rewritten.{has_none, first_lead, without_lead, wrapped, rewritten}
use Rattle.tracked_changes.specs.patches.Changes.{insertion, openings, closings, edits_of, edits}
use Rattle.tracked_changes.specs.patches.Laws.{HaveTokens, SplicedIsRewritten}
use Rattle.tracked_changes.proofs.patches.Leads.{
  clash,
  none_append,
  lead_append,
  is_empty,
  printed_none,
  printed-without_lead,
  opened,
  closed,
  wrapped_filled,
  wrapped_printed,
  unwrapped,
  rewritten_none,
  rewritten_lead,
}

-- ---- places

ends-leaves : (at : ℕ) (f : Forest) → ends_at at (leaves f) ≡ end_of at f
ends-leaves at none = refl
ends-leaves at (leaf t f) = ends-leaves (behind at t) f
ends-leaves at (node k c f) = ends-append at (leaves c) (leaves f) ∙ rw (ends-leaves at c) (ends-leaves (end_of at c) f)

-- the place of a node with tokens
start_is : (at : ℕ) (ts : List Token) (next : Token) → has_none ts ≡ false → ArePlaced at ts → (place_of ts next).0 ≡ at + length (first_lead ts)
start_is at [] next e h = cc
start_is at (t ∷ ts) next e h = h.0

stop_at : (at : ℕ) (ts : List Token) (next : Token) → has_none ts ≡ false → ArePlaced at ts → (place_of ts next).1 ≡ ends_at at ts
stop_at at [] next e h = cc
stop_at at (t ∷ ts) next e h = ap (λ x. stop_or ts (x + length t.text)) h.0 ∙ stop_is (behind at t) ts h.1

-- ---- edits that lie apart

apart_from : (at from to : ℕ) (es : List Edit) → at ≤ from → AreApart from es to → AreApart at es to
apart_from at from to [] h a = omega (arith, a)
apart_from at from to (e ∷ es) h a = (omega (arith, a.0), a.1)

open_apart : (at to : ℕ) (ws : List Wrapping) (es : List Edit) → AreApart at es to → AreApart at (openings at ws ++ es) to
open_apart at to [] es a = a
open_apart at to (w ∷ ws) es a = (omega arith, open_apart at to ws es a)

close_apart : (at to : ℕ) (ws : List Wrapping) (es : List Edit) → AreApart at es to → AreApart at (closings at ws ++ es) to
close_apart at to [] es a = a
close_apart at to (w ∷ ws) es a =
    subst (λ xs. AreApart at xs to) (sym (append_assoc (closings at ws) (insertion at (closing w) ∷ []) es))
    (close_apart at to ws (insertion at (closing w) ∷ es) (omega arith, a))

-- ---- splices

opened_splice : (at to : ℕ) (ws : List Wrapping) (bytes : List ℕ) (es : List Edit) → AreApart at es to
    → spliced_from at bytes (openings at ws ++ es) ≡ opened ws ++ spliced_from at bytes es
opened_splice at to [] bytes es a = refl
opened_splice at to (w ∷ ws) bytes es a =
    spliced_from-edit 0 at to bytes (insertion at (opening w)) (openings at ws ++ es) refl (omega arith) (omega arith) (open_apart at to ws es a)
    ∙ ap (λ x. opening w ++ x) (opened_splice at to ws bytes es a) ∙ sym (append_assoc (opening w) (opened ws) (spliced_from at bytes es))

closed_splice : (at to : ℕ) (ws : List Wrapping) (bytes : List ℕ) (es : List Edit) → AreApart at es to
    → spliced_from at bytes (closings at ws ++ es) ≡ closed ws ++ spliced_from at bytes es
closed_splice at to [] bytes es a = refl
closed_splice at to (w ∷ ws) bytes es a =
    ap (spliced_from at bytes) (append_assoc (closings at ws) (insertion at (closing w) ∷ []) es)
    ∙ closed_splice at to ws bytes (insertion at (closing w) ∷ es) (omega arith, a)
    ∙ ap (λ x. closed ws ++ x) (spliced_from-edit 0 at to bytes (insertion at (closing w)) es refl (omega arith) (omega arith) a)
    ∙ sym (append_assoc (closed ws) (closing w) (spliced_from at bytes es))

-- bytes in front of all edits
front_splice : (front bytes : List ℕ) (place at to : ℕ) (es : List Edit) → at ≡ place + length front → AreApart at es to
    → spliced_from place (front ++ bytes) es ≡ front ++ spliced_from at bytes es
front_splice front bytes place at to es e a =
    spliced_from-skip (length front) place at to (front ++ bytes) es e (simp length-append (omega arith)) a
    ∙ rw (take-append_seam front bytes, drop-append_seam front bytes) refl

-- ---- forests

module _ (p : Patches) where
  -- the splice of a forest that begins at a place, before these bytes and edits
  record Whole (id at : ℕ) (f : Forest) (next : Token) (rest : List ℕ) (es : List Edit) (to : ℕ) : Type 0 where
    same : spliced_from at (printed f ++ rest) (edits_of p id f next ++ es) ≡ printed (rewritten p id f) ++ spliced_from (end_of at f) rest es
    apart : AreApart at (edits_of p id f next ++ es) to

  -- the same from behind its first trivia on
  record Bare (id at : ℕ) (f : Forest) (next : Token) (rest : List ℕ) (es : List Edit) (to : ℕ) : Type 0 where
    same : spliced_from (at + length (first_lead (leaves f))) (printed (without_lead f) ++ rest) (edits_of p id f next ++ es)
        ≡ printed (without_lead (rewritten p id f)) ++ spliced_from (end_of at f) rest es
    apart : AreApart (at + length (first_lead (leaves f))) (edits_of p id f next ++ es) to

  whole_of : (id at : ℕ) (f : Forest) (next : Token) (rest : List ℕ) (es : List Edit) (to : ℕ) → HaveTokens p id f → Bare id at f next rest es to → Whole id at f next rest es to
  whole_of id at f next rest es to h b = record {
    same = rw (printed-without_lead f, printed-without_lead (rewritten p id f), rewritten_lead p id f h)
        (ap (λ x. spliced_from at x (edits_of p id f next ++ es)) (append_assoc (first_lead (leaves f)) (printed (without_lead f)) rest)
        ∙ front_splice (first_lead (leaves f)) (printed (without_lead f) ++ rest) at (at + length (first_lead (leaves f))) to (edits_of p id f next ++ es) refl b.apart
        ∙ ap (λ x. first_lead (leaves f) ++ x) b.same
        ∙ sym (append_assoc (first_lead (leaves f)) (printed (without_lead (rewritten p id f))) (spliced_from (end_of at f) rest es)));
    apart = apart_from at _ to _ (omega arith) b.apart;
  }

  -- a node with tokens, by what stands in it and what follows it
  node_bare : (id at : ℕ) (k : NodeKind) (c f : Forest) (next : Token) (rest : List ℕ) (es : List Edit) (to : ℕ)
      → has_none (leaves c) ≡ false → HaveTokens p id (node k c f) → ArePlaced at (leaves c)
      → Whole (suc (id + count c)) (end_of at c) f next rest es to
      → ((us : List Edit) (bytes : List ℕ) → AreApart (end_of at c) us to → Bare (suc id) at c (first_or (leaves f) next) bytes us to)
      → Bare id at (node k c f) next rest es to
  node_bare id at k c f next rest es to e h placed_c behind_it inside =
      let after : Token = first_or (leaves f) next in
      let tail : List Edit = edits_of p (suc (id + count c)) f next ++ es in
      let stop : (place_of (leaves c) after).1 ≡ end_of at c = stop_at at (leaves c) after e placed_c ∙ ends-leaves at c in
      let start : (place_of (leaves c) after).0 ≡ at + length (first_lead (leaves c)) = start_is at (leaves c) after e placed_c in
      let lead : first_lead (leaves c ++ leaves f) ≡ first_lead (leaves c) = lead_append (leaves c) (leaves f) e in
      let closes : AreApart (end_of at c) (closings (end_of at c) (p id) ++ tail) to = close_apart (end_of at c) to (p id) tail behind_it.apart in
      let inner : Bare (suc id) at c after (printed f ++ rest) (closings (end_of at c) (p id) ++ tail) to =
      inside (closings (end_of at c) (p id) ++ tail) (printed f ++ rest) closes in
      let filled : has_none (leaves (rewritten p (suc id) c)) ≡ false = rewritten_none p (suc id) c h.1 ∙ e in
      let wrapping : has_none (leaves (wrapped (p id) (k, rewritten p (suc id) c)).1) ≡ false = wrapped_filled (p id) (k, rewritten p (suc id) c) filled in
      let list : edits_of p id (node k c f) next ++ es ≡ openings (at + length (first_lead (leaves c))) (p id)
      ++ (edits_of p (suc id) c after ++ (closings (end_of at c) (p id) ++ tail)) =
      rw (stop, start) (simp append_assoc) in
      record {
        same = rw (list, lead, e, wrapping)
            (ap (λ x. spliced_from (at + length (first_lead (leaves c))) x
            (openings (at + length (first_lead (leaves c))) (p id)
            ++ (edits_of p (suc id) c after ++ (closings (end_of at c) (p id) ++ tail))))
            (append_assoc (printed (without_lead c)) (printed f) rest)
            ∙ opened_splice (at + length (first_lead (leaves c))) to (p id)
            (printed (without_lead c) ++ (printed f ++ rest))
            (edits_of p (suc id) c after ++ (closings (end_of at c) (p id) ++ tail)) inner.apart
            ∙ ap (λ x. opened (p id) ++ x)
            (inner.same ∙ ap (λ x. printed (without_lead (rewritten p (suc id) c)) ++ x)
            (closed_splice (end_of at c) to (p id) (printed f ++ rest) tail behind_it.apart ∙ ap (λ x. closed (p id) ++ x) behind_it.same))
            ∙ rw (wrapped_printed (p id) (k, rewritten p (suc id) c)) (simp append_assoc));
        apart = rw (list, lead) (open_apart (at + length (first_lead (leaves c))) to (p id) _ inner.apart);
      }

  -- ---- nodes without tokens

  end_none : (at : ℕ) (f : Forest) → has_none (leaves f) ≡ true → end_of at f ≡ at
  end_none at f e = sym (ends-leaves at f) ∙ ap (ends_at at) (is_empty (leaves f) e)

  split_none : (ts us : List Token) → has_none (ts ++ us) ≡ true → (has_none ts ≡ true) × (has_none us ≡ true)
  split_none [] us h = (refl, h)
  split_none (t ∷ ts) us h = clash h

  edits_none : (id : ℕ) (f : Forest) (next : Token) → HaveTokens p id f → has_none (leaves f) ≡ true → edits_of p id f next ≡ []
  edits_none id none next h e = refl
  edits_none id (leaf t f) next h e = clash e
  edits_none id (node k c f) next h e =
      let both = split_none (leaves c) (leaves f) e in
      let bare : p id ≡ [] = unwrapped p (p id) (leaves c) h.0 both.0 in
      rw (bare, edits_none (suc id) c (first_or (leaves f) next) h.1 both.0, edits_none (suc (id + count c)) f next h.2 both.1) refl

  -- what a node without tokens adds: nothing
  record Adds (id at : ℕ) (k : NodeKind) (c f : Forest) (next : Token) : Type 0 where
    listed : edits_of p id (node k c f) next ≡ edits_of p (suc (id + count c)) f next
    written : rewritten p id (node k c f) ≡ node k (rewritten p (suc id) c) (rewritten p (suc (id + count c)) f)
    empty : printed c ≡ []
    still : printed (rewritten p (suc id) c) ≡ []
    none_left : has_none (leaves (rewritten p (suc id) c)) ≡ true
    here : end_of at c ≡ at

  adds : (id at : ℕ) (k : NodeKind) (c f : Forest) (next : Token) → has_none (leaves c) ≡ true → HaveTokens p id (node k c f) → Adds id at k c f next
  adds id at k c f next e h =
      let bare : p id ≡ [] = unwrapped p (p id) (leaves c) h.0 e in
      let gone : has_none (leaves (rewritten p (suc id) c)) ≡ true = rewritten_none p (suc id) c h.1 ∙ e in
      record {
        listed = rw (bare, edits_none (suc id) c (first_or (leaves f) next) h.1 e) refl;
        written = rw bare refl;
        empty = printed_none c e;
        still = printed_none (rewritten p (suc id) c) gone;
        none_left = gone;
        here = end_none at c e;
      }

  empty_whole : (id at : ℕ) (k : NodeKind) (c f : Forest) (next : Token) (rest : List ℕ) (es : List Edit) (to : ℕ) → Adds id at k c f next
      → Whole (suc (id + count c)) (end_of at c) f next rest es to → Whole id at (node k c f) next rest es to
  empty_whole id at k c f next rest es to a w =
      let back : Whole (suc (id + count c)) at f next rest es to = subst (λ x. Whole (suc (id + count c)) x f next rest es to) a.here w in
      let out : printed (rewritten p id (node k c f)) ≡ printed (rewritten p (suc (id + count c)) f) = ap printed a.written ∙ rw a.still refl in
      let front : spliced_from at ((printed c ++ printed f) ++ rest) (edits_of p (suc (id + count c)) f next ++ es) ≡
      printed (rewritten p (suc (id + count c)) f) ++ spliced_from (end_of (end_of at c) f) rest es =
      rw (a.empty, a.here) back.same in
      record {
        same = rw a.listed (front ∙ ap (λ x. x ++ spliced_from (end_of (end_of at c) f) rest es) (sym out));
        apart = rw a.listed back.apart;
      }

  empty_bare : (id at : ℕ) (k : NodeKind) (c f : Forest) (next : Token) (rest : List ℕ) (es : List Edit) (to : ℕ) → has_none (leaves c) ≡ true → Adds id at k c f next
      → Bare (suc (id + count c)) (end_of at c) f next rest es to → Bare id at (node k c f) next rest es to
  empty_bare id at k c f next rest es to e a b =
      let back : Bare (suc (id + count c)) at f next rest es to = subst (λ x. Bare (suc (id + count c)) x f next rest es to) a.here b in
      let out : printed (without_lead (rewritten p id (node k c f))) ≡ printed (without_lead (rewritten p (suc (id + count c)) f)) =
      ap (λ x. printed (without_lead x)) a.written ∙ rw (a.none_left, a.still) refl in
      let front : spliced_from (at + length (first_lead (leaves f))) ((printed c ++ printed (without_lead f)) ++ rest) (edits_of p (suc (id + count c)) f next ++ es)
      ≡ printed (without_lead (rewritten p (suc (id + count c)) f)) ++ spliced_from (end_of (end_of at c) f) rest es = rw (a.empty, a.here) back.same in
      record {
        same = rw (a.listed, none_append (leaves c) (leaves f) e, e) (front ∙ ap (λ x. x ++ spliced_from (end_of (end_of at c) f) rest es) (sym out));
        apart = rw (a.listed, none_append (leaves c) (leaves f) e) back.apart;
      }

  -- ---- all forests

  record Both (id at : ℕ) (f : Forest) (next : Token) (rest : List ℕ) (es : List Edit) (to : ℕ) : Type 0 where
    whole : Whole id at f next rest es to
    bare : has_none (leaves f) ≡ false → Bare id at f next rest es to

  node_both : (b : Bool) (id at : ℕ) (k : NodeKind) (c f : Forest) (next : Token) (rest : List ℕ) (es : List Edit) (to : ℕ)
      → has_none (leaves c) ≡ b → HaveTokens p id (node k c f) → ArePlaced at (leaves c)
      → Both (suc (id + count c)) (end_of at c) f next rest es to
      → ((us : List Edit) (bytes : List ℕ) → AreApart (end_of at c) us to → Both (suc id) at c (first_or (leaves f) next) bytes us to)
      → Both id at (node k c f) next rest es to
  node_both true id at k c f next rest es to e h placed_c after inside =
      let a : Adds id at k c f next = adds id at k c f next e h in
      record {
        whole = empty_whole id at k c f next rest es to a after.whole;
        bare = λ filled. empty_bare id at k c f next rest es to e a (after.bare (ap has_none (sym (none_append (leaves c) (leaves f) e)) ∙ filled));
      }
  node_both false id at k c f next rest es to e h placed_c after inside =
      let b : Bare id at (node k c f) next rest es to = node_bare id at k c f next rest es to e h placed_c after.whole (λ us bytes a. (inside us bytes a).bare e) in
      record { whole = whole_of id at (node k c f) next rest es to h b; bare = λ filled. b }

  leaf_bare : (id at : ℕ) (t : Token) (f : Forest) (next : Token) (rest : List ℕ) (es : List Edit) (to : ℕ)
      → Whole id (behind at t) f next rest es to → Bare id at (leaf t f) next rest es to
  leaf_bare id at t f next rest es to w = record {
    same = ap (λ x. spliced_from (at + length t.lead) x (edits_of p id f next ++ es)) (append_assoc t.text (printed f) rest)
        ∙ front_splice t.text (printed f ++ rest) (at + length t.lead) (behind at t) to (edits_of p id f next ++ es) refl w.apart
        ∙ ap (λ x. t.text ++ x) w.same
        ∙ sym (append_assoc t.text (printed (rewritten p id f)) (spliced_from (end_of (behind at t) f) rest es));
    apart = apart_from (at + length t.lead) (behind at t) to _ (omega arith) w.apart;
  }

  splices : (id at : ℕ) (f : Forest) (next : Token) (rest : List ℕ) (es : List Edit) (to : ℕ)
      → HaveTokens p id f → ArePlaced at (leaves f) → AreApart (end_of at f) es to → Both id at f next rest es to
  splices id at none next rest es to h q a = record { whole = record { same = refl; apart = a }; bare = λ e. clash (sym e) }
  splices id at (leaf t f) next rest es to h q a =
      let b : Bare id at (leaf t f) next rest es to = leaf_bare id at t f next rest es to (splices id (behind at t) f next rest es to h q.1 a).whole in
      record { whole = whole_of id at (leaf t f) next rest es to h b; bare = λ e. b }
  splices id at (node k c f) next rest es to h q a =
      let placed_c : ArePlaced at (leaves c) = placed-front at (leaves c) (leaves f) q in
      let placed_f : ArePlaced (end_of at c) (leaves f) = subst (λ x. ArePlaced x (leaves f)) (ends-leaves at c) (placed-back at (leaves c) (leaves f) q) in
      node_both (has_none (leaves c)) id at k c f next rest es to refl h placed_c
      (splices (suc (id + count c)) (end_of at c) f next rest es to h.2 placed_f a)
      (λ us bytes x. splices (suc id) at c (first_or (leaves f) next) bytes us to h.1 placed_c x)

-- places change no byte
pub printed-placed : (at : ℕ) (f : Forest) → printed (placed at f) ≡ printed f
printed-placed at none = refl
printed-placed at (leaf t f) = ap (λ x. token_bytes t ++ x) (printed-placed (behind at t) f)
printed-placed at (node k c f) = rw (printed-placed at c, printed-placed (end_of at c) f) refl

pub spliced_is_rewritten : SplicedIsRewritten
spliced_is_rewritten p f q h =
    let front : ArePlaced 0 (leaves f.statements) = placed-front 0 (leaves f.statements) (f.end ∷ []) q in
    let both = splices p 0 0 f.statements f.end (token_bytes f.end) [] (end_of 0 f.statements) h front (omega arith) in
    ap (λ es. spliced_from 0 (file_printed f) es) (sym (append-nil (edits p f)))
    ∙ both.whole.same
    ∙ rw (spliced_from-none (end_of 0 f.statements) (token_bytes f.end), printed-placed 0 (rewritten p 0 f.statements)) refl
