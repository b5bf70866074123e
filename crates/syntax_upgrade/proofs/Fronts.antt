-- What parts begin with, where the first token is alone.
use Rattle.std.proofs.Common.{◌≡◌, ℕ, zero, suc, ◌≤◌, Bool, true, false, not, ◌||◌, ◌&&◌, List, [], ◌∷◌, drop, length, Option, Some, None, refl, ap, sym, ◌∙◌}
use Rattle.std.specs.Prelude.{slice_get}
use Rattle.std.proofs.lemmas.Option.{none-some}
use Rattle.std.proofs.lemmas.Bool.{false≢true}
use Rattle.std.proofs.lemmas.List.{drop_all}
use Rattle.php_tree.specs.declared.token.Token.{Token}
use Rattle.php_tree.specs.Tree.{Forest, none, leaf, node}
use Rattle.php_rows.specs.Flatten.{leafed}
use Rattle.php_rows.specs.Reading.{begins_with_token}
use Rattle.tracked_changes.specs.Draft.{NewToken}
use Rattle.tracked_changes.specs.Pieces.{before}
use Rattle.syntax_rules.specs.SplitName.{begins_root, is_backslash, is_label, is_name, is_namespace, is_one}
use Rattle.syntax_upgrade.specs.declared.split_name.Ahead.{Ahead}
use Rattle.syntax_upgrade.specs.NamesWalked.{Head, head_of, begins}
use Rattle.syntax_upgrade.specs.Heads.{alone_first, may_go_on}

abbrev or_first : Option Token → Token → Token
or_first None t = t
or_first (Some u) t = u

some_is : (u t : Token) → Some u ≡ Some t → u ≡ t
some_is u t e = ap (λ (o : Option Token). or_first o t) e

one_of : (a b x y z : Bool) → (a || b) ≡ false → ((a && x) || ((b && y) && z)) ≡ false
one_of true b x y z h = absurd (false≢true (sym h))
one_of false true x y z h = absurd (false≢true (sym h))
one_of false false x y z h = refl

-- a token that goes on with nothing is alone
pub loose_head : (n : Bool) (t : NewToken) (o : Option Head) → may_go_on t ≡ false → head_of n t o ≡ record { more = zero; token = t }
loose_head n t None h = refl
loose_head n t (Some u) h =
    let e : is_one t u.token ≡ false =
    one_of (is_backslash t) (is_label t.kind || is_namespace t)
    (is_label u.token.kind || (is_name u.token.kind && not (begins_root (before u.token.text))))
    (is_name u.token.kind) (begins_root (before u.token.text)) h
    in
    rw e refl

-- ---- some tokens before parts that don't begin with one

pub from_get : (ts : List Token) (i : ℕ) (t : Token) → slice_get ts i ≡ Some t → drop i ts ≡ t ∷ drop (suc i) ts
from_get [] zero t e = absurd (none-some t e)
from_get [] (suc i) t e = absurd (none-some t e)
from_get (u ∷ ts) zero t e = ap (λ (x : Token). x ∷ ts) (some_is u t e)
from_get (u ∷ ts) (suc i) t e = from_get ts i t e

pub loose_first : (n : Bool) (own : Token → NewToken) (ts : List Token) (i : ℕ) (t : Token) (f : Forest) → slice_get ts i ≡ Some t
    → may_go_on (own t) ≡ false → begins n own (leafed (drop i ts) f) ≡ alone_first own (leafed (drop i ts) f)
loose_first n own ts i t f e h =
    rw (from_get ts i t e) (ap Some (loose_head n (own t) (begins n own (leafed (drop (suc i) ts) f)) h))

-- nothing but parts that don't begin with a token
none_first : (n : Bool) (own : Token → NewToken) (f : Forest) → begins_with_token f ≡ false → begins n own f ≡ alone_first own f
none_first n own none h = refl
none_first n own (leaf t f) h = absurd (false≢true (sym h))
none_first n own (node k c f) h = refl

pub past_first : (n : Bool) (own : Token → NewToken) (ts : List Token) (i : ℕ) (f : Forest) → length ts ≤ i → begins_with_token f ≡ false
    → begins n own (leafed (drop i ts) f) ≡ alone_first own (leafed (drop i ts) f)
past_first n own ts i f l h = rw (drop_all i ts l) (none_first n own f h)

no_first : (own : Token → NewToken) (f : Forest) → begins_with_token f ≡ false → alone_first own f ≡ None
no_first own none h = refl
no_first own (leaf t f) h = absurd (false≢true (sym h))
no_first own (node k c f) h = refl

-- the token behind so many
pub first_alone : (own : Token → NewToken) (ts : List Token) (i : ℕ) (t : Token) (f : Forest) → slice_get ts i ≡ Some t
    → alone_first own (leafed (drop i ts) f) ≡ Some (record { more = zero; token = own t })
first_alone own ts i t f e = ap (λ (us : List Token). alone_first own (leafed us f)) (from_get ts i t e)

pub no_alone : (own : Token → NewToken) (ts : List Token) (i : ℕ) (f : Forest) → length ts ≤ i → begins_with_token f ≡ false
    → alone_first own (leafed (drop i ts) f) ≡ None
no_alone own ts i f l h = ap (λ (us : List Token). alone_first own (leafed us f)) (drop_all i ts l) ∙ no_first own f h

-- one token more in front
pub one_before : (n : Bool) (own : Token → NewToken) (ts : List Token) (i : ℕ) (t : Token) (f : Forest) → slice_get ts i ≡ Some t
    → begins n own (leafed (drop i ts) f) ≡ Some (head_of n (own t) (begins n own (leafed (drop (suc i) ts) f)))
one_before n own ts i t f e = ap (λ (us : List Token). begins n own (leafed us f)) (from_get ts i t e)

abbrev or_ahead : Option Ahead → Ahead → Ahead
or_ahead None a = a
or_ahead (Some b) a = b

pub ahead_is : (a b : Ahead) → Some a ≡ Some b → a ≡ b
ahead_is a b e = ap (λ (o : Option Ahead). or_ahead o b) e

pub no_ahead : (a : Ahead) {A : Type 0} → None ≡ Some a → A
no_ahead a e = absurd (none-some a e)
