-- What is found at places of rules that are off, where nothing is found in the end.
use Rattle.std.proofs.Common.{◌≡◌, ℕ, zero, suc, ◌+◌, Bool, true, false, ◌&&◌, if◌then◌else◌, not, List, [], ◌∷◌, ◌++◌, Option, refl, sym, length}
use Rattle.std.proofs.lemmas.Bool.{false≢true}
use Rattle.rule_tables.specs.declared.rule.RuleId.{RuleId}
use Rattle.rule_tables.specs.declared.rule.RuleId.TheVariants as rule
use Rattle.php_tree.specs.declared.token.Token.{Token}
use Rattle.php_tree.specs.Tree.{Forest, none, leaf, node, Tree}
use Rattle.php_tree.specs.Places.{behind, end_of}
use Rattle.syntax_rules.specs.declared.rules.Rules.{Rules}
use Rattle.syntax_rules.specs.Around.{Around, within}
use Rattle.syntax_rules.specs.BraceOffset.{is_brace_offset}
use Rattle.syntax_rules.specs.DollarBrace.{is_dollar_brace}
use Rattle.syntax_rules.specs.DotPrecedence.{is_regrouped}
use Rattle.syntax_rules.specs.InContext.{is_nested}
use Rattle.syntax_rules.specs.RealCast.{is_real_cast}
use Rattle.syntax_rules.specs.SplitName.{keyword_behind}
use Rattle.syntax_rules.specs.Together.{token_by}
use Rattle.syntax_rules.specs.UnsetCast.{is_edited}
use Rattle.syntax_upgrade.specs.Found.{Report}
use Rattle.syntax_upgrade.specs.NamesWalked.{Head}
use Rattle.syntax_upgrade.specs.OffPlaces.{
  Off,
  behind_more,
  comment_reports,
  dollar_reports,
  first_off,
  head_by,
  head_off,
  inner_off,
  is_split,
  more_by,
  name_off,
  node_if,
  node_off,
  null_off,
  off_if,
  off_in,
  trivia_off,
}

-- nothing in front of nothing
pub both_none : (xs ys : List Report) → xs ++ ys ≡ [] → (xs ≡ []) × (ys ≡ [])
both_none [] ys e = (refl, e)
both_none (x ∷ xs) ys e = absurd cc

pub no_place : (b : Bool) (r : RuleId) (start end : ℕ) → off_if b r start end ≡ [] → b ≡ false
no_place true r start end e = absurd cc
no_place false r start end e = refl

-- ---- a token

pub record FirstSeen (r : Rules) (at : ℕ) (x : Token) (h : Head) (f : Forest) (s : Off) : Type 0 where
  pub before : s.found ≡ []
  pub comments : comment_reports r at x ≡ []
  pub split : r.split_names ≡ false → is_split s.behind h f ≡ false
  pub behind : r.split_names ≡ false → (first_off r at x h f s).behind ≡ keyword_behind s.behind h.token
  pub dollar : (not r.dollar_braces && is_dollar_brace x.kind) ≡ false

abbrev name_if : Bool → ℕ → Token → Head → Forest → Off → Off
name_if b at x h f o = if b then record { behind = false; found = o.found } else head_off at x h f o

record NameSeen (b : Bool) (at : ℕ) (x : Token) (h : Head) (f : Forest) (o : Off) : Type 0 where
  pub before : o.found ≡ []
  pub split : b ≡ false → is_split o.behind h f ≡ false
  pub behind : b ≡ false → (name_if b at x h f o).behind ≡ keyword_behind o.behind h.token

name_seen : (b : Bool) (at : ℕ) (x : Token) (h : Head) (f : Forest) (o : Off) → (name_if b at x h f o).found ≡ [] → NameSeen b at x h f o
name_seen true at x h f o e = record { before = e; split = λ n. absurd (false≢true (sym n)); behind = λ n. absurd (false≢true (sym n)) }
name_seen false at x h f o e =
    let n = both_none o.found _ e in
    record {
      before = n.0;
      split = λ m. no_place (is_split o.behind h f) rule.SplitName (at + length x.lead) (behind_more h.more (behind at x) f) n.1;
      behind = λ m. refl;
    }

pub first_seen : (r : Rules) (at : ℕ) (x : Token) (h : Head) (f : Forest) (s : Off) → (first_off r at x h f s).found ≡ [] → FirstSeen r at x h f s
first_seen r at x h f s e =
    let n = both_none (name_off r at x h f (trivia_off r at x s)).found (dollar_reports r at x) e in
    let m = name_seen r.split_names at x h f (trivia_off r at x s) n.0 in
    let l = both_none s.found (comment_reports r at x) m.before in
    record {
      before = l.0;
      comments = l.1;
      split = m.split;
      behind = m.behind;
      dollar = no_place (not r.dollar_braces && is_dollar_brace x.kind) rule.DollarBrace (at + length x.lead) (behind at x) n.1;
    }

inner_before : (b : Bool) (s t : Off) → (t.found ≡ [] → s.found ≡ []) → (if b then s else t).found ≡ [] → s.found ≡ []
inner_before true s t h e = e
inner_before false s t h e = h e

-- ---- a node

pub record NodeSeen (r : Rules) (a : Option Around) (n : Tree) (s : Off) : Type 0 where
  pub before : s.found ≡ []
  pub nested : (not r.nested_ternaries && is_nested a n.0) ≡ false
  pub regrouped : (not r.dot_operands && is_regrouped a n) ≡ false
  pub brace : (not r.brace_offsets && is_brace_offset n.0) ≡ false
  pub real : (not r.real_casts && is_real_cast n) ≡ false
  pub unset : (not r.unset_casts && is_edited n) ≡ false

if_seen : (b : Bool) (x : RuleId) (at : ℕ) (n : Tree) (s : Off) → (node_if b x at n s).found ≡ [] → (b ≡ false) × (s.found ≡ [])
if_seen b x at n s e = let m = both_none s.found _ e in (no_place b x _ _ m.1, m.0)

pub node_seen : (r : Rules) (a : Option Around) (at : ℕ) (n : Tree) (s : Off) → (node_off r a at n s).found ≡ [] → NodeSeen r a n s
node_seen r a at n s e =
    let nested : Off = node_if (not r.nested_ternaries && is_nested a n.0) rule.NestedTernary at n s in
    let dots : Off = node_if (not r.dot_operands && is_regrouped a n) rule.DotPrecedence at n nested in
    let braces : Off = node_if (not r.brace_offsets && is_brace_offset n.0) rule.BraceOffset at n dots in
    let casts : Off = node_if (not r.real_casts && is_real_cast n) rule.RealCast at n braces in
    let u = if_seen (not r.unset_casts && is_edited n) rule.UnsetCast at n casts e in
    let v = if_seen (not r.real_casts && is_real_cast n) rule.RealCast at n braces u.1 in
    let w = if_seen (not r.brace_offsets && is_brace_offset n.0) rule.BraceOffset at n dots v.1 in
    let x = if_seen (not r.dot_operands && is_regrouped a n) rule.DotPrecedence at n nested w.1 in
    let y = if_seen (not r.nested_ternaries && is_nested a n.0) rule.NestedTernary at n s x.1 in
    record { before = y.1; nested = y.0; regrouped = x.0; brace = w.0; real = v.0; unset = u.0 }

-- ---- a walk

null_before : (r : Rules) (at : ℕ) (f : Forest) (s : Off) → (null_off r at f s).found ≡ [] → s.found ≡ []
null_before r at none s e = e
null_before r at (leaf x f) s e = (first_seen r at x (record { more = zero; token = token_by r x }) f s e).before
null_before r at (node k c f) s e = e

either_before : (b : Bool) (s t u : Off) → (t.found ≡ [] → s.found ≡ []) → (u.found ≡ [] → s.found ≡ []) → (if b then t else u).found ≡ [] → s.found ≡ []
either_before true s t u h g e = h e
either_before false s t u h g e = g e

-- what is found before is found behind
pub found_before : (r : Rules) (around : Bool → Option Around) (i : Bool) (n at : ℕ) (f : Forest) (s : Off)
    → (off_in r around i n at f s).found ≡ [] → s.found ≡ []
found_before r around i n at none s e = e
found_before r around i zero at (leaf x f) s e =
    (first_seen r at x (head_by r x f) f s
    (found_before r around false (more_by r (head_by r x f)) (behind at x) f (first_off r at x (head_by r x f) f s) e)).before
found_before r around i (suc n) at (leaf x f) s e =
    inner_before r.split_names s (trivia_off r at x s) (λ h. (both_none s.found (comment_reports r at x) h).0)
    (found_before r around false n (behind at x) f (inner_off r at x s) e)
found_before r around i n at (node k c f) s e =
    let inside : Off = if r.unset_casts && is_edited (k, c) then null_off r at c s else off_in r (within k c) true zero at c s in
    either_before (r.unset_casts && is_edited (k, c)) s (null_off r at c s) (off_in r (within k c) true zero at c s)
    (null_before r at c s) (found_before r (within k c) true zero at c s)
    (node_seen r (around i) at (k, c) inside
    (found_before r around false zero (end_of at c) f (node_off r (around i) at (k, c) inside) e)).before
