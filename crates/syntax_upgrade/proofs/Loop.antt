-- The walk over the parts of a node, part by part.
use Rattle.std.proofs.Common.{◌≡◌, ℕ, zero, suc, ◌+◌, ◌*◌, ◌≤◌, ◌<◌, Bool, false, List, ◌++◌, Option, refl, ap, sym, ◌∙◌, subst, arith, append_assoc, append-nil}
use Rattle.php_tree.specs.declared.kind.NodeKind.{NodeKind}
use Rattle.php_tree.specs.declared.token.Token.{Token}
use Rattle.php_tree.specs.Tree.{Forest, none, leaf, node}
use Rattle.php_tree.specs.Places.{behind, end_of}
use Rattle.php_rows.specs.Reading.{weight}
use Rattle.syntax_rules.specs.declared.rules.Rules.{Rules}
use Rattle.syntax_rules.specs.Around.{Around}
use Rattle.syntax_upgrade.specs.declared.progress.Progress.{Progress}
use Rattle.syntax_upgrade.specs.Found.{Report}
use Rattle.syntax_upgrade.specs.Labels.{Labels, label_next, labels_in}
use Rattle.syntax_upgrade.specs.NamesWalked.{child_next}
use Rattle.syntax_upgrade.specs.OffPlaces.{Off, child_off, off_in}
use Rattle.syntax_upgrade.specs.Progress.{left_walked}
use Rattle.syntax_rules.specs.Quotable.{AreQuotable}
use Rattle.syntax_upgrade.specs.Reports.{at_node, reports_in}
use Rattle.syntax_upgrade.specs.ReservedName.{Standing, at_first, past_node}
use Rattle.syntax_upgrade.specs.Written.{Written}
use Rattle.syntax_upgrade.proofs.Walking.{none_left}

-- nothing is left
none_off : (r : Rules) (around : Bool → Option Around) (i : Bool) (inner at : ℕ) (o : Off) → o ≡ off_in r around i inner at none o
none_off r around i zero at o = refl
none_off r around i (suc inner) at o = refl

-- What is still to be written, reported and passed, so that it comes to what is wanted in the end.
pub record Holds (r : Rules) (around : Bool → Option Around) (k : NodeKind) (bound : ℕ) (W : Written) (G : List Report) (S : Labels) (O : Off) (E : ℕ)
    (p : Progress) (i : Bool) (f : Forest) (st : Standing) (more inner at : ℕ) (w : Written) (g : List Report) (s : Labels) (o : Off) : Type 0 where
  pub small : weight f ≤ bound
  pub quotable : AreQuotable f
  pub written : left_walked r p around i f w ≡ W
  pub found : g ++ reports_in k st more at f ≡ G
  pub labels : labels_in at f s ≡ S
  pub off : off_in r around i inner at f o ≡ O
  pub end : end_of at f ≡ E

module _ (r : Rules) (around : Bool → Option Around) (k : NodeKind) (bound : ℕ) (W : Written) (G : List Report) (S : Labels) (O : Off) (E : ℕ)
    (p : Progress) (i : Bool) (f : Forest) (st : Standing) (more inner at : ℕ) (w : Written) (g : List Report) (s : Labels) (o : Off)
    (h : Holds r around k bound W G S O E p i f st more inner at w g s o) where
  -- behind a token
  pub leaf_step : (t : Token) (v : Forest) (q : Progress) (u : Written) (st' : Standing) (more' inner' at' : ℕ) (g' : List Report) (s' : Labels) (o' : Off)
      → f ≡ leaf t v
      → left_walked r q around false v u ≡ left_walked r p around i (leaf t v) w
      → at' ≡ behind at t
      → g' ++ reports_in k st' more' at' v ≡ g ++ reports_in k st more at (leaf t v)
      → s' ≡ label_next at t s
      → off_in r around false inner' (behind at t) v o' ≡ off_in r around i inner at (leaf t v) o
      → Holds r around k bound W G S O E q false v st' more' inner' at' u g' s' o'
  leaf_step t v q u st' more' inner' at' g' s' o' e x a y l z =
      let small : weight (leaf t v) ≤ bound = subst (λ (m : Forest). weight m ≤ bound) e h.small in
      record {
        small = omega (arith, small);
        quotable = subst AreQuotable e h.quotable;
        written = x ∙ ap (λ (m : Forest). left_walked r p around i m w) (sym e) ∙ h.written;
        found = y ∙ ap (λ (m : Forest). g ++ reports_in k st more at m) (sym e) ∙ h.found;
        labels = rw (l, a) (ap (λ (m : Forest). labels_in at m s) (sym e)) ∙ h.labels;
        off = ap (λ (n : ℕ). off_in r around false inner' n v o') a ∙ z ∙ ap (λ (m : Forest). off_in r around i inner at m o) (sym e) ∙ h.off;
        end = rw a (ap (λ (m : Forest). end_of at m) (sym e)) ∙ h.end;
      }

  -- behind a node
  pub node_step : (j : NodeKind) (b v : Forest) (q : Progress) (u : Written) (at' : ℕ) (g' : List Report) (s' : Labels) (o' : Off)
      → f ≡ node j b v
      → left_walked r q around false v (child_next r (around i) (j, b) w) ≡ left_walked r p around i (node j b v) w
      → u ≡ child_next r (around i) (j, b) w
      → at' ≡ end_of at b
      → g' ≡ g ++ (reports_in j at_first zero at b ++ at_node at (j, b))
      → s' ≡ labels_in at b s
      → o' ≡ child_off r (around i) at (j, b) o
      → Holds r around k bound W G S O E q false v (past_node st) zero zero at' u g' s' o'
  node_step j b v q u at' g' s' o' e x y a z l c =
      let small : weight (node j b v) ≤ bound = subst (λ (m : Forest). weight m ≤ bound) e h.small in
      let quotable : AreQuotable (node j b v) = subst AreQuotable e h.quotable in
      record {
        small = omega (arith, small);
        quotable = quotable.2;
        written = ap (left_walked r q around false v) y ∙ x ∙ ap (λ (m : Forest). left_walked r p around i m w) (sym e) ∙ h.written;
        found =
            rw (z, a) (append_assoc g (reports_in j at_first zero at b ++ at_node at (j, b)) (reports_in k (past_node st) zero (end_of at b) v))
            ∙ ap (λ (m : Forest). g ++ reports_in k st more at m) (sym e) ∙ h.found;
        labels = rw (l, a) (ap (λ (m : Forest). labels_in at m s) (sym e)) ∙ h.labels;
        off =
            ap (λ (n : ℕ). off_in r around false zero n v o') a
            ∙ ap (off_in r around false zero (end_of at b) v) c
            ∙ ap (λ (m : Forest). off_in r around i inner at m o) (sym e) ∙ h.off;
        end = rw a (ap (λ (m : Forest). end_of at m) (sym e)) ∙ h.end;
      }

  -- the node that comes next is smaller, and its quoted texts are walked
  pub inner_small : (j : NodeKind) (b v : Forest) → f ≡ node j b v → 4 * weight b + 2 < 4 * bound
  inner_small j b v e =
      let small : weight (node j b v) ≤ bound = subst (λ (m : Forest). weight m ≤ bound) e h.small in omega (arith, small)

  pub inner_quotable : (j : NodeKind) (b v : Forest) → f ≡ node j b v → AreQuotable (node j b none)
  inner_quotable j b v e = let q : AreQuotable (node j b v) = subst AreQuotable e h.quotable in (q.0, q.1, tt)

  pub rest_small : (j : NodeKind) (b v : Forest) → f ≡ node j b v → weight v < weight f
  rest_small j b v e = let n : weight f ≡ weight (node j b v) = ap weight e in omega (arith, n)

  pub rest_less : (t : Token) (v : Forest) → f ≡ leaf t v → weight v < weight f
  rest_less t v e = let n : weight f ≡ weight (leaf t v) = ap weight e in omega (arith, n)

  -- nothing is left
  pub stop_written : f ≡ none → w ≡ W
  stop_written e = sym (none_left r p around i w) ∙ ap (λ (m : Forest). left_walked r p around i m w) (sym e) ∙ h.written

  pub stop_found : f ≡ none → g ≡ G
  stop_found e = sym (append-nil g) ∙ ap (λ (m : Forest). g ++ reports_in k st more at m) (sym e) ∙ h.found

  pub stop_labels : f ≡ none → s ≡ S
  stop_labels e = ap (λ (m : Forest). labels_in at m s) (sym e) ∙ h.labels

  pub stop_off : f ≡ none → o ≡ O
  stop_off e = none_off r around i inner at o ∙ ap (λ (m : Forest). off_in r around i inner at m o) (sym e) ∙ h.off

  pub stop_end : f ≡ none → at ≡ E
  stop_end e = ap (λ (m : Forest). end_of at m) (sym e) ∙ h.end
