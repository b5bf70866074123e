-- Forests without their first trivia, and wrapped nodes, printed.
use Rattle.std.proofs.Common.{◌≡◌, ◌≢◌, ℕ, suc, ◌+◌, Bool, true, false, cond, List, [], ◌∷◌, ◌++◌, refl, ap, sym, ◌∙◌, append_assoc}
use Rattle.std.proofs.lemmas.List.{append-nil}
use Rattle.php_tree.specs.declared.token.Token.{Token}
use Rattle.php_tree.specs.declared.kind.NodeKind.{NodeKind}
use Rattle.php_tree.specs.Tree.{Forest, none, leaf, node, Tree, leaves, count, printed}
use Rattle.tracked_changes.specs.patches.Patches.{Patches, Wrapping, InParens, opening, closing}
use Rattle.tracked_changes.specs.patches.Rewritten.{has_none, first_lead, without_lead, wrapped, rewritten}
use Rattle.tracked_changes.specs.patches.Laws.{HaveTokens}

-- ---- lists of tokens

pub is_filled : (ts : List Token) → ts ≢ [] → has_none ts ≡ false
is_filled [] h = absurd (h refl)
is_filled (t ∷ ts) h = refl

pub is_empty : (ts : List Token) → has_none ts ≡ true → ts ≡ []
is_empty [] h = refl
is_empty (t ∷ ts) h = cc

pub none_append : (ts us : List Token) → has_none ts ≡ true → ts ++ us ≡ us
none_append [] us h = refl
none_append (t ∷ ts) us h = cc

pub lead_append : (ts us : List Token) → has_none ts ≡ false → first_lead (ts ++ us) ≡ first_lead ts
lead_append [] us h = cc
lead_append (t ∷ ts) us h = refl

pub filled_append : (ts us : List Token) → has_none ts ≡ false → has_none (ts ++ us) ≡ false
filled_append [] us h = cc
filled_append (t ∷ ts) us h = refl

-- ---- forests

pub clash : {P : Type 0} → false ≡ true → P
clash q = cc

printed_none_node : (b : Bool) (c f : Forest) → has_none (leaves c) ≡ b → has_none (leaves c ++ leaves f) ≡ true
    → (has_none (leaves c) ≡ true → printed c ≡ []) → (has_none (leaves f) ≡ true → printed f ≡ []) → printed c ++ printed f ≡ []
printed_none_node true c f e h g k =
    let rest : has_none (leaves f) ≡ true = ap has_none (sym (none_append (leaves c) (leaves f) e)) ∙ h in
    rw (g e, k rest) refl
printed_none_node false c f e h g k = clash (sym (filled_append (leaves c) (leaves f) e) ∙ h)

pub printed_none : (f : Forest) → has_none (leaves f) ≡ true → printed f ≡ []
printed_none none h = refl
printed_none (leaf t f) h = cc
printed_none (node k c f) h = printed_none_node (has_none (leaves c)) c f refl h (printed_none c) (printed_none f)

printed_node : (b : Bool) (k : NodeKind) (c f : Forest) → has_none (leaves c) ≡ b
    → printed c ≡ first_lead (leaves c) ++ printed (without_lead c) → printed f ≡ first_lead (leaves f) ++ printed (without_lead f)
    → printed c ++ printed f ≡ first_lead (leaves c ++ leaves f) ++ printed (cond b (node k c (without_lead f)) (node k (without_lead c) f))
printed_node true k c f e g h = rw (none_append (leaves c) (leaves f) e, printed_none c e) h
printed_node false k c f e g h = rw (lead_append (leaves c) (leaves f) e, g) (simp append_assoc)

-- a forest is its first trivia and the rest
pub printed-without_lead : (f : Forest) → printed f ≡ first_lead (leaves f) ++ printed (without_lead f)
printed-without_lead none = refl
printed-without_lead (leaf t f) = simp append_assoc
printed-without_lead (node k c f) = printed_node (has_none (leaves c)) k c f refl (printed-without_lead c) (printed-without_lead f)

-- ---- wrapped nodes

-- what opens and closes a node, as bytes
abbrev pub opened : List Wrapping → List ℕ
opened [] = []
opened (w ∷ ws) = opening w ++ opened ws

abbrev pub closed : List Wrapping → List ℕ
closed [] = []
closed (w ∷ ws) = closed ws ++ closing w

pub wrapped_filled : (ws : List Wrapping) (t : Tree) → has_none (leaves t.1) ≡ false → has_none (leaves (wrapped ws t).1) ≡ false
wrapped_filled [] t h = h
wrapped_filled (InParens ∷ ws) t h = refl

pub wrapped_lead : (ws : List Wrapping) (t : Tree) → first_lead (leaves (wrapped ws t).1) ≡ first_lead (leaves t.1)
wrapped_lead [] t = refl
wrapped_lead (InParens ∷ ws) t = wrapped_lead ws t

pub wrapped_printed : (ws : List Wrapping) (t : Tree) → printed (without_lead (wrapped ws t).1) ≡ opened ws ++ (printed (without_lead t.1) ++ closed ws)
wrapped_printed [] t = sym (append-nil (printed (without_lead t.1)))
wrapped_printed (InParens ∷ ws) t = rw (wrapped_printed ws t) (simp (append_assoc, append-nil))

module _ (p : Patches) where
  pub wrapped_as : (id : ℕ) (t : Tree) → p id ≡ [] → wrapped (p id) t ≡ t
  wrapped_as id t e = ap (λ ws. wrapped ws t) e

  -- no wrapping where there is no token
  pub unwrapped : (ws : List Wrapping) (ts : List Token) → (ws ≢ [] → ts ≢ []) → has_none ts ≡ true → ws ≡ []
  unwrapped [] ts h e = refl
  unwrapped (w ∷ ws) ts h e = absurd (h (λ q. let r : w ∷ ws ≡ [] = q in cc) (is_empty ts e))

  none_node : (b : Bool) (id : ℕ) (k : NodeKind) (c f d g : Forest) → has_none (leaves c) ≡ b → (p id ≢ [] → leaves c ≢ [])
      → has_none (leaves d) ≡ has_none (leaves c) → has_none (leaves g) ≡ has_none (leaves f)
      → has_none (leaves (wrapped (p id) (k, d)).1 ++ leaves g) ≡ has_none (leaves c ++ leaves f)
  none_node true id k c f d g e h i j =
      let bare : p id ≡ [] = unwrapped (p id) (leaves c) h e in
      rw (bare, none_append (leaves d) (leaves g) (i ∙ e), none_append (leaves c) (leaves f) e) j
  none_node false id k c f d g e h i j =
      filled_append _ (leaves g) (wrapped_filled (p id) (k, d) (i ∙ e)) ∙ sym (filled_append (leaves c) (leaves f) e)

  pub rewritten_none : (id : ℕ) (f : Forest) → HaveTokens p id f → has_none (leaves (rewritten p id f)) ≡ has_none (leaves f)
  rewritten_none id none h = refl
  rewritten_none id (leaf t f) h = refl
  rewritten_none id (node k c f) h =
      none_node (has_none (leaves c)) id k c f (rewritten p (suc id) c) (rewritten p (suc (id + count c)) f) refl h.0
      (rewritten_none (suc id) c h.1) (rewritten_none (suc (id + count c)) f h.2)

  lead_node : (b : Bool) (id : ℕ) (k : NodeKind) (c f d g : Forest) → has_none (leaves c) ≡ b → (p id ≢ [] → leaves c ≢ [])
      → has_none (leaves d) ≡ has_none (leaves c) → first_lead (leaves d) ≡ first_lead (leaves c) → first_lead (leaves g) ≡ first_lead (leaves f)
      → first_lead (leaves (wrapped (p id) (k, d)).1 ++ leaves g) ≡ first_lead (leaves c ++ leaves f)
  lead_node true id k c f d g e h i j l =
      let bare : p id ≡ [] = unwrapped (p id) (leaves c) h e in
      rw (bare, none_append (leaves d) (leaves g) (i ∙ e), none_append (leaves c) (leaves f) e) l
  lead_node false id k c f d g e h i j l =
      lead_append _ (leaves g) (wrapped_filled (p id) (k, d) (i ∙ e)) ∙ wrapped_lead (p id) (k, d) ∙ j ∙ sym (lead_append (leaves c) (leaves f) e)

  pub rewritten_lead : (id : ℕ) (f : Forest) → HaveTokens p id f → first_lead (leaves (rewritten p id f)) ≡ first_lead (leaves f)
  rewritten_lead id none h = refl
  rewritten_lead id (leaf t f) h = refl
  rewritten_lead id (node k c f) h =
      lead_node (has_none (leaves c)) id k c f (rewritten p (suc id) c) (rewritten p (suc (id + count c)) f) refl h.0
      (rewritten_none (suc id) c h.1) (rewritten_lead (suc id) c h.1) (rewritten_lead (suc (id + count c)) f h.2)
