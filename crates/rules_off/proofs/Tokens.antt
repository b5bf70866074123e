-- A token in front of parts of which all rules make the same.
use Rattle.std.proofs.Common.{◌≡◌, ℕ, zero, suc, Bool, true, false, not, ◌&&◌, ◌||◌, if◌then◌else◌, List, [], ◌∷◌, Option, Some, None, refl, ap, sym, ◌∙◌, subst}
use Rattle.std.proofs.lemmas.Bool.{false≢true}
use Rattle.php_tree.specs.declared.token.Token.{Token}
use Rattle.php_tree.specs.Tree.{Forest, leaf}
use Rattle.php_tree.specs.Places.{behind}
use Rattle.tracked_changes.specs.Pieces.{Piece, before, kept}
use Rattle.tracked_changes.specs.Draft.{NewToken, Draft, new_leaf}
use Rattle.syntax_rules.specs.declared.rules.Rules.{Rules}
use Rattle.syntax_rules.specs.Around.{Around}
use Rattle.syntax_rules.specs.SplitName.{in_front, is_nothing, is_one, one_name}
use Rattle.syntax_rules.specs.Together.{every_rule, token_by}
use Rattle.syntax_rules.proofs.HashCommentKeeps.{lead_keeps}
use Rattle.syntax_upgrade.specs.NamesWalked.{Head, begins}
use Rattle.syntax_upgrade.specs.OffPlaces.{Off, first_off, has_trivia, head_by, inner_off, more_by, off_in, trivia_off}
use Rattle.syntax_upgrade.proofs.Tokens.{and_first}
use Rattle.rules_off.proofs.Agreement.{Agree, AgreeInside, Alike, Begins, Inside, StandsApart, Walks, fully, led, partly, seen_dollar, seen_trivia}
use Rattle.rules_off.proofs.Found.{first_seen, found_before}
use Rattle.rules_off.proofs.SameNodes.{Dollarless}
use Rattle.rules_off.proofs.SameTokens.{token_same}

inner_behind : (b : Bool) (s t : Off) → t.behind ≡ s.behind → (if b then s else t).behind ≡ s.behind
inner_behind true s t h = refl
inner_behind false s t h = h

zero_if : (b : Bool) → (if b then zero else zero) ≡ zero
zero_if true = refl
zero_if false = refl

not_false : (a b : Bool) → (not a || b) ≡ false → (a ≡ true) × (b ≡ false)
not_false true b h = (refl, h)
not_false false b h = absurd (false≢true (sym h))

module _ (r : Rules) (around : Bool → Option Around) (i : Bool) (x : Token) (f : Forest) where
  abbrev own : NewToken
  own = token_by r x

  abbrev every : NewToken
  every = token_by every_rule x

  abbrev rest : Draft
  rest = partly r around false f

  abbrev all : Draft
  all = fully around false f

  -- a walk from the token on, which begins so
  abbrev stepped : ℕ → Off → Head → Off
  stepped at s h = off_in r around false (more_by r h) (behind at x) f (first_off r at x h f s)

  abbrev Outside : Head → Type 0
  Outside h = (at : ℕ) (s : Off) → (stepped at s h).found ≡ []
      → Agree r (partly r around i (leaf x f)) (fully around i (leaf x f)) (Some h) s.behind (stepped at s h).behind

  -- the same, the next so many tokens inside a name
  abbrev ended : ℕ → Off → Head → ℕ → Off
  ended at s h m = off_in r around false m (behind at x) f (first_off r at x h f s)

  abbrev Found : ℕ → Off → Head → ℕ → Type 0
  Found at s h m = (ended at s h m).found ≡ []
      → Agree r (partly r around i (leaf x f)) (fully around i (leaf x f)) (Some h) s.behind (ended at s h m).behind

  walks_from : (h : Head) → head_by r x f ≡ h → Outside h → AgreeInside r around i (leaf x f) (Some h) → Walks r around i (leaf x f)
  walks_from h e p q = record {
    outside = subst Outside (sym e) p;
    inside = subst (λ (g : Head). AgreeInside r around i (leaf x f) (Some g)) (sym e) q;
  }

  -- the trivia of the token, as each set of rules has them
  own_lead : before own.lead ≡ x.lead
  own_lead = lead_keeps r.hash_comments x.lead

  same_lead : before every.lead ≡ before own.lead
  same_lead = lead_keeps true x.lead ∙ sym own_lead

  own_bare : (n : ℕ) → has_trivia (suc n) (leaf x f) ≡ false → is_nothing (before own.lead) ≡ true
  own_bare n h = ap is_nothing own_lead ∙ (not_false (is_nothing x.lead) (has_trivia n f) h).0

  rest_bare : (n : ℕ) → has_trivia (suc n) (leaf x f) ≡ false → has_trivia n f ≡ false
  rest_bare n h = (not_false (is_nothing x.lead) (has_trivia n f) h).1

  -- what is behind a token inside a name
  inner_same : (at : ℕ) (s : Off) → (inner_off r at x s).behind ≡ s.behind
  inner_same at s = inner_behind r.split_names s (trivia_off r at x s) refl

  -- ---- a token that is no name with what follows it

  abbrev alone : Head
  alone = record { more = zero; token = own }

  -- nothing that begins so is one with it
  abbrev Fronts : Type 0
  Fronts = (at : ℕ) (s : Off) → (off_in r around false zero at f s).found ≡ []
      → (n : Bool) (l : List Piece) → in_front n (record { kind = x.kind; lead = l; text = kept x.text ∷ [] }) rest
      ≡ new_leaf (record { kind = x.kind; lead = l; text = kept x.text ∷ [] }) rest

  alone_outside : Walks r around false f → Fronts → Outside alone
  alone_outside w fronts at s = subst (Found at s alone) (sym (zero_if (r.split_names && r.hash_comments))) outside
    where
      outside : Found at s alone zero
      outside e =
          let o : Off = first_off r at x alone f s in
          let seen = first_seen r at x alone f s (found_before r around false zero (behind at x) f o e) in
          let ahead = (w.outside (behind at x) o e).both in
          let front = fronts (behind at x) o e in
          led r at x alone f s seen (partly r around i (leaf x f)) (fully around i (leaf x f)) rest (ended at s alone zero).behind
          (front r.split_names own.lead)
          (ap (in_front true every) (sym ahead.same) ∙ front true every.lead ∙ ap (λ (t : NewToken). new_leaf t rest) (sym (token_same r at x seen.comments)))
          (λ n. (seen_dollar r at x alone f s seen n, ahead.none n)) ahead.apart

  alone_inside : Walks r around false f → Fronts → AgreeInside r around i (leaf x f) (Some alone)
  alone_inside w fronts at s e bare =
      let o : Off = inner_off r at x s in
      let ahead = (w.outside (behind at x) o e).both in
      let front = fronts (behind at x) o e in
      record {
        rest = rest;
        other = every;
        partly_is = front r.split_names own.lead;
        fully_is = ap (in_front true every) (sym ahead.same) ∙ front true every.lead;
        alike = record { kind = refl; text = refl; lead = same_lead };
        bare = λ n. own_bare zero (bare n);
        none = ahead.none;
        apart = λ n. subst (λ (b : Bool). StandsApart b rest (off_in r around false zero (behind at x) f o).behind) (inner_same at s) (ahead.apart n);
      }

  pub alone_walks : Walks r around false f → Fronts → head_by r x f ≡ alone → Walks r around i (leaf x f)
  alone_walks w fronts e = walks_from alone e (alone_outside w fronts) (alone_inside w fronts)

  -- ---- a token that is one name with what follows it

  abbrev joined : Head → Head
  joined g = record { more = suc g.more; token = one_name own g.token }

  one_is : (d e : Bool) (t u : NewToken) (y : Draft) → is_one t u ≡ true → (d || is_nothing (before u.lead)) ≡ true
      → in_front d t (new_leaf u y) ≡ new_leaf (one_name t u) y
  one_is d e t u y o n = rw (o, n) refl

  or_bare : (b c : Bool) → (b ≡ false → c ≡ true) → (b || c) ≡ true
  or_bare true c h = refl
  or_bare false c h = h refl

  -- names do not depend on trivia
  one_alike : (u v : NewToken) → Alike u v → is_one own u ≡ true → is_one every v ≡ true
  one_alike u v a o = rw (a.kind, a.text) o

  name_alike : (t u v : NewToken) → Alike u v → one_name t v ≡ one_name t u
  name_alike t u v a = rw (a.lead, a.text) refl

  -- both drafts, where the token is one name with what they begin with
  record Joined (g : Head) (from to : Bool) : Type 0 where
    behind_name : Draft
    every_name : NewToken
    partly_is : partly r around i (leaf x f) ≡ new_leaf (one_name own g.token) behind_name
    fully_is : fully around i (leaf x f) ≡ new_leaf every_name behind_name
    every_is : every_name ≡ one_name every g.token
    plain : r.dollar_braces ≡ false → Dollarless behind_name
    apart : r.split_names ≡ false → StandsApart from behind_name to

  join : (g : Head) (from to : Bool) → is_one own g.token ≡ true → Inside r rest all g from to → Joined g from to
  join g from to o p = record {
    behind_name = p.rest;
    every_name = one_name every p.other;
    partly_is =
        ap (in_front r.split_names own) p.partly_is
        ∙ one_is r.split_names true own g.token p.rest o (or_bare r.split_names (is_nothing (before g.token.lead)) p.bare);
    fully_is = ap (in_front true every) p.fully_is ∙ one_is true true every p.other p.rest (one_alike g.token p.other p.alike o) refl;
    every_is = name_alike every g.token p.other p.alike;
    plain = p.none;
    apart = p.apart;
  }

  joined_inside : (g : Head) → is_one own g.token ≡ true → AgreeInside r around false f (Some g) → AgreeInside r around i (leaf x f) (Some (joined g))
  joined_inside g o p at s e bare =
      let b : Off = inner_off r at x s in
      let to : Bool = (off_in r around false (suc g.more) (behind at x) f b).behind in
      let j : Joined g b.behind to = join g b.behind to o (p (behind at x) b e (λ n. rest_bare (suc g.more) (bare n))) in
      record {
        rest = j.behind_name;
        other = j.every_name;
        partly_is = j.partly_is;
        fully_is = j.fully_is;
        alike = subst (λ (t : NewToken). Alike (one_name own g.token) t) (sym j.every_is) (record { kind = refl; text = refl; lead = same_lead });
        bare = λ n. own_bare (suc g.more) (bare n);
        none = j.plain;
        apart = λ n. subst (λ (y : Bool). StandsApart y j.behind_name to) (inner_same at s) (j.apart n);
      }

  joined_outside : (g : Head) → is_one own g.token ≡ true → begins true (token_by r) f ≡ Some g → Walks r around false f → Outside (joined g)
  joined_outside g o b w at s = by (r.split_names && r.hash_comments) refl
    where
      -- the whole name is the same
      name_is : (m : ℕ) → (ended at s (joined g) m).found ≡ [] → one_name every g.token ≡ one_name own g.token
      name_is m e =
          let start : Off = first_off r at x (joined g) f s in
          ap (λ (t : NewToken). one_name t g.token)
          (sym (token_same r at x (first_seen r at x (joined g) f s (found_before r around false m (behind at x) f start e)).comments))

      unlooked : (r.split_names && r.hash_comments) ≡ true → Found at s (joined g) zero
      unlooked y e =
          let start : Off = first_off r at x (joined g) f s in
          let seen = first_seen r at x (joined g) f s (found_before r around false zero (behind at x) f start e) in
          let ahead = w.outside (behind at x) start e in
          let front : Begins (Some g) rest = subst (λ (h : Option Head). Begins h rest) b ahead.begins in
          let on : r.split_names ≡ true = and_first r.split_names r.hash_comments y in
          led r at x (joined g) f s seen (partly r around i (leaf x f)) (fully around i (leaf x f)) front.0 (ended at s (joined g) zero).behind
          (ap (in_front r.split_names own) front.1 ∙ one_is r.split_names true own g.token front.0 o (rw on refl))
          (ap (in_front true every) (sym ahead.both.same ∙ front.1) ∙ one_is true true every g.token front.0 o refl
          ∙ ap (λ (t : NewToken). new_leaf t front.0) (name_is zero e))
          (λ n. (refl, (subst Dollarless front.1 (ahead.both.none n)).1))
          (λ n. absurd (false≢true (sym n ∙ on)))

      looked : Found at s (joined g) (suc g.more)
      looked e =
          let start : Off = first_off r at x (joined g) f s in
          let seen = first_seen r at x (joined g) f s (found_before r around false (suc g.more) (behind at x) f start e) in
          let ahead : AgreeInside r around false f (Some g) = subst (AgreeInside r around false f) b w.inside in
          let to : Bool = (ended at s (joined g) (suc g.more)).behind in
          let j : Joined g start.behind to = join g start.behind to o (ahead (behind at x) start e (seen_trivia r at x (joined g) f s seen)) in
          led r at x (joined g) f s seen (partly r around i (leaf x f)) (fully around i (leaf x f)) j.behind_name to
          j.partly_is
          (j.fully_is ∙ ap (λ (t : NewToken). new_leaf t j.behind_name) (j.every_is ∙ name_is (suc g.more) e))
          (λ n. (refl, j.plain n)) j.apart

      by : (y : Bool) → (r.split_names && r.hash_comments) ≡ y → Found at s (joined g) (if y then zero else suc g.more)
      by true e = unlooked e
      by false e = looked

  pub joined_walks : (g : Head) → is_one own g.token ≡ true → begins true (token_by r) f ≡ Some g → head_by r x f ≡ joined g → Walks r around false f
      → Walks r around i (leaf x f)
  joined_walks g o b e w =
      walks_from (joined g) e (joined_outside g o b w) (joined_inside g o (subst (AgreeInside r around false f) b w.inside))

  -- ---- either of them

  abbrev single_if : Bool → Head → Head
  single_if y g = if y then joined g else alone

  pub token_walks : Walks r around false f → Walks r around i (leaf x f)
  token_walks w = by (begins true (token_by r) f) refl
    where
      not_one : (g : Head) → begins true (token_by r) f ≡ Some g → is_one own g.token ≡ false → Fronts
      not_one g b o at s e n l =
          let front : Begins (Some g) rest = subst (λ (h : Option Head). Begins h rest) b (w.outside at s e).begins in
          rw (front.1, o) refl

      by_one : (g : Head) → begins true (token_by r) f ≡ Some g → (y : Bool) → is_one own g.token ≡ y → Walks r around i (leaf x f)
      by_one g b true o = joined_walks g o b (rw (b, o) refl) w
      by_one g b false o = alone_walks w (not_one g b o) (rw (b, o) refl)

      by : (h : Option Head) → begins true (token_by r) f ≡ h → Walks r around i (leaf x f)
      by None b =
          alone_walks w
          (λ at s e n l. (subst (λ (h : Option Head). Begins h rest) b (w.outside at s e).begins) n (record { kind = x.kind; lead = l; text = kept x.text ∷ [] }))
          (rw b refl)
      by (Some g) b = by_one g b (is_one own g.token) refl
