-- What the rules that are on, and all rules, make of parts: the same.
use Rattle.std.proofs.Common.{◌≡◌, ℕ, zero, suc, Bool, true, false, not, ◌&&◌, ◌||◌, [], Option, Some, None, refl, sym, ◌∙◌, subst}
use Rattle.std.proofs.lemmas.Bool.{false≢true, or_parts}
use Rattle.php_tree.specs.declared.token.Token.{Token}
use Rattle.php_tree.specs.Tree.{Forest}
use Rattle.tracked_changes.specs.Pieces.{before}
use Rattle.tracked_changes.specs.Draft.{NewToken, Draft, new_leaf}
use Rattle.syntax_rules.specs.declared.rules.Rules.{Rules}
use Rattle.syntax_rules.specs.Around.{Around}
use Rattle.syntax_rules.specs.DollarBrace.{is_dollar_brace}
use Rattle.syntax_rules.specs.InContext.{parts_by}
use Rattle.syntax_rules.specs.SplitName.{in_front, is_nothing, keyword_behind, keyword_last, whole_names}
use Rattle.syntax_rules.specs.Together.{every_rule, token_by}
use Rattle.syntax_upgrade.specs.NamesWalked.{Head, begins}
use Rattle.syntax_upgrade.specs.OffPlaces.{Off, first_off, has_trivia, off_in}
use Rattle.syntax_upgrade.specs.Written.{wants_space}
use Rattle.rules_off.proofs.Found.{FirstSeen}
use Rattle.rules_off.proofs.SameNodes.{Dollarless}
use Rattle.rules_off.proofs.Spaces.{Spaceless, Under}

-- the draft of parts by the rules that are on, and by all of them, their names whole
abbrev pub partly : Rules → (Bool → Option Around) → Bool → Forest → Draft
partly r around i f = whole_names r.split_names (parts_by r around i f)

abbrev pub fully : (Bool → Option Around) → Bool → Forest → Draft
fully around i f = whole_names true (parts_by every_rule around i f)

-- no name in a draft behind a keyword or not wants a space, and behind the draft stands no keyword that isn't seen
abbrev pub StandsApart : Bool → Draft → Bool → Type 0
StandsApart from w to = Spaceless from w × Under (keyword_last from w) to

-- Both drafts are the same, without what a rule that is off would edit.
pub record Same (r : Rules) (w v : Draft) (from to : Bool) : Type 0 where
  pub same : w ≡ v
  pub none : r.dollar_braces ≡ false → Dollarless w
  pub apart : r.split_names ≡ false → StandsApart from w to

-- what a draft begins with
abbrev pub Begins : Option Head → Draft → Type 0
Begins None w = (n : Bool) (t : NewToken) → in_front n t w ≡ new_leaf t w
Begins (Some h) w = (d : Draft) × (w ≡ new_leaf h.token d)

pub record Agree (r : Rules) (w v : Draft) (o : Option Head) (from to : Bool) : Type 0 where
  pub both : Same r w v from to
  pub begins : Begins o w

-- two tokens are the same but for their trivia, which have the same bytes in the source
pub record Alike (t u : NewToken) : Type 0 where
  pub kind : u.kind ≡ t.kind
  pub text : u.text ≡ t.text
  pub lead : before u.lead ≡ before t.lead

-- Inside a name both drafts begin with what is left of it, and are then the same.
pub record Inside (r : Rules) (w v : Draft) (h : Head) (from to : Bool) : Type 0 where
  pub rest : Draft
  pub other : NewToken
  pub partly_is : w ≡ new_leaf h.token rest
  pub fully_is : v ≡ new_leaf other rest
  pub alike : Alike h.token other
  pub bare : r.split_names ≡ false → is_nothing (before h.token.lead) ≡ true
  pub none : r.dollar_braces ≡ false → Dollarless rest
  pub apart : r.split_names ≡ false → StandsApart from rest to

abbrev pub AgreeInside : Rules → (Bool → Option Around) → Bool → Forest → Option Head → Type 0
AgreeInside r around i f None = Unit {0}
AgreeInside r around i f (Some h) =
    (at : ℕ) (s : Off) → (off_in r around i (suc h.more) at f s).found ≡ [] → (r.split_names ≡ false → has_trivia (suc h.more) f ≡ false)
    → Inside r (partly r around i f) (fully around i f) h s.behind (off_in r around i (suc h.more) at f s).behind

-- wherever the parts stand, outside names and inside one
pub record Walks (r : Rules) (around : Bool → Option Around) (i : Bool) (f : Forest) : Type 0 where
  pub outside : (at : ℕ) (s : Off) → (off_in r around i zero at f s).found ≡ []
      → Agree r (partly r around i f) (fully around i f) (begins true (token_by r) f) s.behind (off_in r around i zero at f s).behind
  pub inside : AgreeInside r around i f (begins true (token_by r) f)

-- ---- behind the first token of parts

off_here : (on is_place : Bool) → (not on && is_place) ≡ false → on ≡ false → is_place ≡ false
off_here true is_place h n = absurd (false≢true (sym n))
off_here false is_place h n = h

pub seen_dollar : (r : Rules) (at : ℕ) (x : Token) (h : Head) (f : Forest) (s : Off) → FirstSeen r at x h f s → r.dollar_braces ≡ false → is_dollar_brace x.kind ≡ false
seen_dollar r at x h f s seen n = off_here r.dollar_braces (is_dollar_brace x.kind) seen.dollar n

pub seen_trivia : (r : Rules) (at : ℕ) (x : Token) (h : Head) (f : Forest) (s : Off) → FirstSeen r at x h f s → r.split_names ≡ false → has_trivia h.more f ≡ false
seen_trivia r at x h f s seen n = (or_parts (has_trivia h.more f) (wants_space true s.behind h.token) (seen.split n)).0

-- a token or a whole name, and what follows it
pub led : (r : Rules) (at : ℕ) (x : Token) (h : Head) (f : Forest) (s : Off) → FirstSeen r at x h f s → (w v d : Draft) (to : Bool)
    → w ≡ new_leaf h.token d → v ≡ new_leaf h.token d → (r.dollar_braces ≡ false → (is_dollar_brace h.token.kind ≡ false) × Dollarless d)
    → (r.split_names ≡ false → StandsApart (first_off r at x h f s).behind d to) → Agree r w v (Some h) s.behind to
led r at x h f s seen w v d to e g plain apart = record {
  both = record {
    same = e ∙ sym g;
    none = λ n. subst Dollarless (sym e) (plain n);
    apart = λ n. subst (λ (y : Draft). StandsApart s.behind y to) (sym e)
        (let a : StandsApart (keyword_behind s.behind h.token) d to = subst (λ (b : Bool). StandsApart b d to) (seen.behind n) (apart n) in
        (((or_parts (has_trivia h.more f) (wants_space true s.behind h.token) (seen.split n)).1, a.0), a.1));
  };
  begins = (d, e);
}
