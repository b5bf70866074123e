-- What parts begin with, where comments are spaced and where they stay: as many tokens are one name.
use Rattle.std.proofs.Common.{◌≡◌, ℕ, suc, Bool, true, false, ◌&&◌, ◌||◌, List, [], ◌++◌, Option, Some, None, refl, ap, sym, ◌∙◌, append-nil}
use Rattle.php_tree.specs.declared.token.Token.{Token}
use Rattle.php_tree.specs.Tree.{Forest, none, leaf, node}
use Rattle.tracked_changes.specs.Pieces.{before}
use Rattle.tracked_changes.specs.Draft.{NewToken, unchanged_token}
use Rattle.syntax_rules.specs.HashComment.{hash_comment}
use Rattle.syntax_rules.proofs.HashCommentKeeps.{lead_keeps}
use Rattle.syntax_rules.specs.SplitName.{is_nothing, is_one, one_name}
use Rattle.syntax_upgrade.specs.NamesWalked as whole
use Rattle.syntax_upgrade.specs.NameHeads as own
use Rattle.syntax_upgrade.proofs.Own.{one_text}

-- two tokens of one kind with the same bytes
record Same (t u : NewToken) : Type 0 where
  kind : t.kind ≡ u.kind
  lead : before t.lead ≡ before u.lead
  text : before t.text ≡ before u.text

abbrev SameHead : Option whole.Head → Option own.Head → Type 0
SameHead None None = Unit {0}
SameHead (Some h) (Some g) = (h.more ≡ g.more) × Same h.token g.token
SameHead _ _ = ⊥

same_token : (t : Token) → Same (hash_comment t) (unchanged_token t)
same_token t = record { kind = refl; lead = lead_keeps true t.lead ∙ sym (append-nil t.lead); text = refl }

same_one : (t : Token) (u v : NewToken) → Same u v → is_one (hash_comment t) u ≡ is_one (unchanged_token t) v
same_one t u v s = rw (s.kind, s.text) refl

same_text : (t : Token) (u v : NewToken) → Same u v
    → before (one_name (hash_comment t) u).text ≡ before (one_name (unchanged_token t) v).text
same_text t u v s =
    one_text (hash_comment t) u
    ∙ ap (λ (bs : List ℕ). (t.text ++ []) ++ (bs ++ before u.text)) s.lead
    ∙ ap (λ (bs : List ℕ). (t.text ++ []) ++ (before v.lead ++ bs)) s.text
    ∙ sym (one_text (unchanged_token t) v)

with_true : (b x : Bool) → (b && (true || x)) ≡ b
with_true true x = refl
with_true false x = refl

same_joined : (t : Token) (h : whole.Head) (g : own.Head) → h.more ≡ g.more → Same h.token g.token → (b : Bool)
    → is_one (hash_comment t) h.token ≡ b → is_one (unchanged_token t) g.token ≡ b
    → SameHead (Some (whole.head_of true (hash_comment t) (Some h))) (Some (own.head_of t (Some g)))
same_joined t h g m s true e i =
    rw (with_true (is_one (hash_comment t) h.token) (is_nothing (before h.token.lead)), e, i) (
      ap suc m,
      record {
        kind = refl;
        lead = lead_keeps true t.lead
            ∙ sym (append-nil t.lead);
        text = same_text t h.token g.token s;
      },
    )
same_joined t h g m s false e i =
    rw (with_true (is_one (hash_comment t) h.token) (is_nothing (before h.token.lead)), e, i) (refl, same_token t)

same_step : (t : Token) (o : Option whole.Head) (p : Option own.Head) → SameHead o p
    → SameHead (Some (whole.head_of true (hash_comment t) o)) (Some (own.head_of t p))
same_step t None None s = (refl, same_token t)
same_step t None (Some g) s = absurd s
same_step t (Some h) None s = absurd s
same_step t (Some h) (Some g) s =
    same_joined t h g s.0 s.1 (is_one (hash_comment t) h.token) refl (sym (same_one t h.token g.token s.1))

same_heads : (f : Forest) → SameHead (whole.begins true hash_comment f) (own.begins f)
same_heads none = tt
same_heads (leaf t f) = same_step t (whole.begins true hash_comment f) (own.begins f) (same_heads f)
same_heads (node k c f) = tt

pub same_more : (t : Token) (f : Forest) → (whole.head_of true (hash_comment t) (whole.begins true hash_comment f)).more ≡ (own.head_at t f).more
same_more t f = (same_step t (whole.begins true hash_comment f) (own.begins f) (same_heads f)).0
