-- A node that no rule touches, as the walk passes it.
use Rattle.std.proofs.Common.{◌≡◌, ℕ, Bool, false, if◌then◌else◌, List, [], ◌∷◌, Option, None, refl, ap, sym, ◌∙◌}
use Rattle.std.proofs.lemmas.Bool.{true≢false}
use Rattle.php_tree.specs.declared.kind.NodeKind.{NodeKind}
use Rattle.php_tree.specs.declared.token.Token.{Token}
use Rattle.php_tree.specs.Tree.{Forest, leaves, tokens_bytes}
use Rattle.php_terminals.specs.declared.terminal.Terminal.{Terminal}
use Rattle.syntax_rules.specs.declared.rules.Rules.{Rules}
use Rattle.syntax_upgrade.specs.declared.calm.Calm.{Calm}
use Rattle.syntax_upgrade.specs.Calm.{has_no_token, last_class, last_keyword}
use Rattle.syntax_upgrade.specs.CalmRuns.{Stays}
use Rattle.syntax_upgrade.specs.Found.{Report}
use Rattle.syntax_upgrade.specs.Labels.{Labels, labels_in}
use Rattle.syntax_upgrade.specs.Laws.{own_next}
use Rattle.syntax_upgrade.specs.OffPlaces.{Off, inside_off}
use Rattle.syntax_upgrade.specs.Writing.{Recorded, kept_next}
use Rattle.syntax_upgrade.specs.Written.{Written}
use Rattle.syntax_upgrade.proofs.CalmOff.{behind_last, inside_passed, off_behind}
use Rattle.syntax_upgrade.proofs.CalmReports.{labels_passed}
use Rattle.syntax_upgrade.proofs.CalmWritten.{node_written_so}

abbrev pub written_so : Recorded → Bool → ℕ → Written
written_so x b p = record { recorded = x; behind = b; parens = p }

abbrev pub labels_so : Terminal → Option (ℕ × ℕ) → List Report → Labels
labels_so x o rs = record { before = x; held = o; found = rs }

abbrev pub off_so : Bool → List Report → Off
off_so b rs = record { behind = b; found = rs }

same_written : (bs cs : List ℕ) (b d : Bool) (p : ℕ) (w : Written) → bs ≡ cs → b ≡ d → p ≡ 0
    → written_so (kept_next bs w.recorded) d p ≡ written_so (kept_next cs w.recorded) b 0
same_written bs cs b d p w e f g = rw (e, f, g) refl

pub passed_written : (r : Rules) (k : NodeKind) (f : Forest) (w : Written) (bytes text : List ℕ) (c : Calm)
    → Stays bytes (k, f) c → w.parens ≡ 0 → text ≡ tokens_bytes (leaves f)
    → written_so (kept_next text w.recorded) c.last.is_keyword w.parens ≡ own_next r (k, f) w
passed_written r k f w bytes text c s p e =
    same_written text (tokens_bytes (leaves f)) (last_keyword w.behind (leaves f)) c.last.is_keyword w.parens w e (s.keyword w.behind) p
    ∙ sym (node_written_so r k f w s.kind s.parts s.apart p s.some)

pub passed_labels : (at : ℕ) (k : NodeKind) (f : Forest) (s : Labels) (bytes : List ℕ) (c : Calm)
    → Stays bytes (k, f) c → s.held ≡ None → labels_so c.last.class s.held s.found ≡ labels_in at f s
passed_labels at k f s bytes c h e =
    ap (λ (x : Terminal). labels_so x s.held s.found) (sym (h.class s.before))
    ∙ ap (λ (o : Option (ℕ × ℕ)). labels_so (last_class s.before (leaves f)) o s.found) e
    ∙ sym (labels_passed at f s.before s.found h.parts)
    ∙ ap (λ (o : Option (ℕ × ℕ)). labels_in at f (labels_so s.before o s.found)) (sym e)

behind_is : (r : Rules) (b d : Bool) (ts : List Token) → has_no_token ts ≡ false → last_keyword false ts ≡ d
    → (if r.split_names then false else d) ≡ off_behind r b ts
behind_is r b d [] h e = absurd (true≢false h)
behind_is r b d (t ∷ ts) h e = rw (sym e) (sym (behind_last r b t ts))

pub passed_off : (r : Rules) (at : ℕ) (k : NodeKind) (f : Forest) (s : Off) (bytes : List ℕ) (c : Calm)
    → Stays bytes (k, f) c
    → off_so (if r.split_names then false else c.last.is_keyword) s.found ≡ inside_off r at (k, f) s
passed_off r at k f s bytes c h =
    ap (λ (b : Bool). off_so b s.found) (behind_is r s.behind c.last.is_keyword (leaves f) h.some (h.keyword false))
    ∙ sym (inside_passed r k f at s h.kind h.parts h.apart)
