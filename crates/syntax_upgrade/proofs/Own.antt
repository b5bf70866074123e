-- What a token becomes keeps its bytes.
use Rattle.std.proofs.Common.{
  ◌≡◌,
  ℕ,
  Option,
  Some,
  None,
  Bool,
  true,
  false,
  ◌||◌,
  ◌&&◌,
  ◌==◌,
  if◌then◌else◌,
  List,
  [],
  ◌∷◌,
  ◌++◌,
  refl,
  ap,
  sym,
  ◌∙◌,
  codes,
  append-nil,
  append_assoc,
}
use Rattle.php_tree.specs.declared.token.Token.{Token}
use Rattle.php_tree.specs.declared.token.TokenKind.TheVariants as token
use Rattle.tracked_changes.specs.Pieces.{before}
use Rattle.tracked_changes.specs.Draft.{NewToken, unchanged_token}
use Rattle.tracked_changes.specs.Tokens.{retexted}
use Rattle.syntax_rules.specs.declared.rules.Rules.{Rules}
use Rattle.tracked_changes.proofs.Joining.{before-append}
use Rattle.syntax_rules.proofs.HashCommentKeeps.{lead_keeps}
use Rattle.syntax_rules.specs.SplitName.{begins_root, is_nothing, deleted, one_name}
use Rattle.std.proofs.lemmas.Option.{none-some}
use Rattle.syntax_upgrade.specs.declared.split_name.Ahead.{Ahead}
use Rattle.syntax_upgrade.specs.NamesWalked.{Head, head_of}
use Rattle.syntax_upgrade.specs.Heads.{bare_of, own_of, shown, shown_if_any}

text_if : (a b : Bool) (t : NewToken) → before (if a then retexted token.Op (codes "[") t else (if b then retexted token.Op (codes "]") t else t)).text ≡ before t.text
text_if true b t = append-nil (before t.text)
text_if false true t = append-nil (before t.text)
text_if false false t = refl

pub own_lead : (r : Rules) (b : Bool) (t : Token) → before (own_of r b t).lead ≡ t.lead
own_lead r b t = lead_keeps r.hash_comments t.lead

pub own_text : (b : Bool) (t : Token) → before (bare_of b t).text ≡ t.text
own_text true t = text_if _ _ (unchanged_token t) ∙ append-nil t.text
own_text false t = append-nil t.text

or_false : (b : Bool) → b ≡ (b || false)
or_false true = refl
or_false false = refl

-- ---- a token that is one with what is ahead

root_of : (xs ys : List ℕ) → begins_root (xs ++ ys) ≡ (begins_root xs || (is_nothing xs && begins_root ys))
root_of [] ys = refl
root_of (x ∷ xs) ys = or_false (x == 92)

nothing_of : (xs ys : List ℕ) → is_nothing (xs ++ ys) ≡ (is_nothing xs && is_nothing ys)
nothing_of [] ys = refl
nothing_of (x ∷ xs) ys = refl

before_deleted : (bs : List ℕ) → before (deleted bs) ≡ bs
before_deleted [] = refl
before_deleted (b ∷ bs) = append-nil (b ∷ bs)

-- the text of a name
pub one_text : (t u : NewToken) → before (one_name t u).text ≡ before t.text ++ (before u.lead ++ before u.text)
one_text t u =
    simp (before-append, append_assoc) refl
    ∙ ap (λ (xs : List ℕ). before t.text ++ (xs ++ before u.text)) (before_deleted (before u.lead))

pub one_root : (r : Rules) (b : Bool) (t : Token) (u : NewToken)
    → begins_root (before (one_name (own_of r b t) u).text)
    ≡ (begins_root t.text || (is_nothing t.text && (begins_root (before u.lead) || (is_nothing (before u.lead) && begins_root (before u.text)))))
one_root r b t u =
    rw (one_text (own_of r b t) u, own_text b t, root_of t.text (before u.lead ++ before u.text), root_of (before u.lead) (before u.text)) refl

pub one_nothing : (r : Rules) (b : Bool) (t : Token) (u : NewToken)
    → is_nothing (before (one_name (own_of r b t) u).text)
    ≡ (is_nothing t.text && (is_nothing (before u.lead) && is_nothing (before u.text)))
one_nothing r b t u =
    rw (one_text (own_of r b t) u, own_text b t, nothing_of t.text (before u.lead ++ before u.text), nothing_of (before u.lead) (before u.text)) refl

-- what is ahead, where something is
abbrev front_of : Ahead → Option Ahead → Ahead
front_of a None = a
front_of a (Some b) = b

pub joined_in : (n : Bool) (a : Ahead) (o : Option Head) (t : NewToken) (P : Ahead → Type 0) → Some a ≡ shown_if_any o
    → ((h : Head) → a ≡ shown h → P (shown (head_of n t (Some h)))) → P (shown (head_of n t o))
joined_in n a None t P e f = absurd (none-some a (sym e))
joined_in n a (Some h) t P e f = f h (ap (front_of a) e)
