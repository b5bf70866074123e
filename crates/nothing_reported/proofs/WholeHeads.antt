-- A name, and what is behind it.
use Rattle.std.proofs.Common.{◌≡◌, ℕ, zero, suc, Bool, true, false, ◌&&◌, ◌||◌, if◌then◌else◌, refl}
use Rattle.php_tree.specs.declared.token.Token.{Token}
use Rattle.php_tree.specs.Tree.{Forest, none, leaf, node}
use Rattle.tracked_changes.specs.Pieces.{before}
use Rattle.tracked_changes.specs.Draft.{Draft, new_leaf, unchanged, unchanged_token}
use Rattle.syntax_rules.specs.SplitName.{is_one, one_name, in_front, whole_names, is_nothing}
use Rattle.syntax_upgrade.specs.NameHeads.{Head, single, head_at}

-- the forest behind the first so many tokens
abbrev pub skipped : ℕ → Forest → Forest
skipped more none = none
skipped zero (leaf t f) = leaf t f
skipped (suc more) (leaf t f) = skipped more f
skipped more (node k c f) = node k c f

-- the draft of a forest with its names whole
abbrev pub whole : Forest → Draft
whole f = whole_names true (unchanged f)

-- a head is what the draft begins with
pub record Fits (t : Token) (f : Forest) (h : Head) : Type 0 where
  pub first : in_front true (unchanged_token t) (whole f) ≡ new_leaf h.token (whole (skipped h.more f))

or_true : (b x : Bool) → (b && (true || x)) ≡ b
or_true true x = refl
or_true false x = refl

two_fits : (t u : Token) (f : Forest) (h : Head) → Fits u f h → (b : Bool) → is_one (unchanged_token t) h.token ≡ b
    → Fits t (leaf u f) (if b then record { more = suc h.more; token = one_name (unchanged_token t) h.token } else single t)
two_fits t u f h fit true e = record {
  first = rw (fit.first, or_true (is_one (unchanged_token t) h.token) (is_nothing (before h.token.lead)), e) refl;
}
two_fits t u f h fit false e = record {
  first = rw (fit.first, or_true (is_one (unchanged_token t) h.token) (is_nothing (before h.token.lead)), e) refl;
}

pub fits : (t : Token) (f : Forest) → Fits t f (head_at t f)
fits t none = record { first = refl }
fits t (node k c f) = record { first = refl }
fits t (leaf u f) = two_fits t u f (head_at u f) (fits u f) (is_one (unchanged_token t) (head_at u f).token) refl

pub skipped_zero : (f : Forest) → skipped zero f ≡ f
skipped_zero none = refl
skipped_zero (leaf t f) = refl
skipped_zero (node k c f) = refl
