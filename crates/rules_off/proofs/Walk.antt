-- Parts, walked: where no place of a rule that is off is found, all rules make the same of them.
use Rattle.std.proofs.Common.{◌≡◌, ℕ, zero, Bool, true, false, ◌&&◌, ◌||◌, if◌then◌else◌, List, [], Option, refl, ap, sym, ◌∙◌, subst}
use Rattle.std.proofs.lemmas.Bool.{false≢true, or_right}
use Rattle.php_tree.specs.declared.kind.NodeKind.{NodeKind}
use Rattle.php_tree.specs.Tree.{Forest, none, leaf, node, Tree}
use Rattle.php_tree.specs.Places.{end_of}
use Rattle.tracked_changes.specs.patches.Patches.{Wrapping}
use Rattle.tracked_changes.specs.Draft.{Draft, new_node}
use Rattle.tracked_changes.specs.Parens.{in_wrappings}
use Rattle.tracked_changes.specs.Walk.{NewTree}
use Rattle.syntax_rules.specs.declared.rules.Rules.{Rules}
use Rattle.syntax_rules.specs.Around.{Around, within}
use Rattle.syntax_rules.specs.BraceOffset.{is_brace_offset}
use Rattle.syntax_rules.specs.InContext.{parts_by}
use Rattle.syntax_rules.specs.RealCast.{is_real_cast}
use Rattle.syntax_rules.specs.Rewritten.{wrapping_by}
use Rattle.syntax_rules.specs.SplitName.{keyword_last, whole_names}
use Rattle.syntax_rules.specs.Together.{every_rule, is_quoted, node_by}
use Rattle.syntax_rules.specs.UnsetCast.{is_edited, unset_cast}
use Rattle.syntax_upgrade.specs.OffPlaces.{Off, null_off, node_off, off_in}
use Rattle.syntax_upgrade.proofs.Tokens.{and_second}
use Rattle.rules_off.specs.Laws.{HoldNoName, NamesAreAside, is_worded}
use Rattle.rules_off.proofs.Agreement.{Same, StandsApart, Walks, fully, partly}
use Rattle.rules_off.proofs.Found.{NodeSeen, found_before, node_seen}
use Rattle.rules_off.proofs.MeekNodes.{changed_meek}
use Rattle.rules_off.proofs.NullCasts.{cast_apart, null_same}
use Rattle.rules_off.proofs.SameNodes.{Dollarless, changed_same, edited_is, wrapping_same}
use Rattle.rules_off.proofs.Spaces.{Spaceless, last_under, spaceless_under, wrappings_meek}
use Rattle.rules_off.proofs.Tokens.{token_walks}
use Rattle.rules_off.proofs.WholeNodes.{Aside, Loose, whole_changed, whole_tree, whole_wrappings}

-- ---- a node's own tokens

loose_parts : (r : Rules) (around : Bool → Option Around) (i : Bool) (f : Forest) → HoldNoName f → Loose (parts_by r around i f)
loose_parts r around i none h = tt
loose_parts r around i (leaf x f) h = (h.0, loose_parts r around false f h.1)
loose_parts r around i (node k c f) h = loose_parts r around false f h

aside : (r : Rules) (k : NodeKind) (c : Forest) → (is_worded (k, c) ≡ true → HoldNoName c) → Aside (k, c) (parts_by r (within k c) true c)
aside r k c h =
    let loose : is_worded (k, c) ≡ true → Loose (parts_by r (within k c) true c) = λ e. loose_parts r (within k c) true c (h e) in
    record {
      brace = λ e. loose (rw e refl);
      real = λ e. loose (or_right (is_brace_offset k) (is_real_cast (k, c) || is_quoted k) (rw e refl));
      quoted = λ e. loose (or_right (is_brace_offset k) (is_real_cast (k, c) || is_quoted k) (or_right (is_real_cast (k, c)) (is_quoted k) e));
    }

-- ---- a node

-- what becomes of a node where its parts, their names whole, are these
abbrev changed : Rules → Option Around → Tree → Draft → NewTree
changed r a n d = in_wrappings (wrapping_by r a n) (node_by r n (n.0, d))

abbrev before_rest : NewTree → Draft → Draft
before_rest t d = new_node t.0 t.1 d

whole_child : (b : Bool) (r : Rules) (a : Option Around) (k : NodeKind) (c : Forest) → (is_worded (k, c) ≡ true → HoldNoName c)
    → whole_tree b (changed r a (k, c) (parts_by r (within k c) true c)) ≡ changed r a (k, c) (whole_names b (parts_by r (within k c) true c))
whole_child b r a k c h =
    whole_wrappings b (wrapping_by r a (k, c)) (node_by r (k, c) (k, parts_by r (within k c) true c))
    ∙ ap (in_wrappings (wrapping_by r a (k, c))) (whole_changed b r (k, c) k (parts_by r (within k c) true c) (aside r k c h))

module _ (r : Rules) (around : Bool → Option Around) (i : Bool) (k : NodeKind) (c f : Forest) (h : is_worded (k, c) ≡ true → HoldNoName c) where
  abbrev a : Option Around
  a = around i

  abbrev inner : Draft
  inner = partly r (within k c) true c

  abbrev every_inner : Draft
  every_inner = fully (within k c) true c

  abbrev own : NewTree
  own = changed r a (k, c) inner

  partly_is : partly r around i (node k c f) ≡ before_rest own (partly r around false f)
  partly_is = ap (λ (t : NewTree). before_rest t (partly r around false f)) (whole_child r.split_names r a k c h)

  fully_is : fully around i (node k c f) ≡ before_rest (changed every_rule a (k, c) every_inner) (fully around false f)
  fully_is = ap (λ (t : NewTree). before_rest t (fully around false f)) (whole_child true every_rule a k c h)

  -- a node of which all rules make the same, and what follows it
  join : (from between to : Bool) → own ≡ changed every_rule a (k, c) every_inner → (r.split_names ≡ false → StandsApart from own.1 between)
      → Same r (partly r around false f) (fully around false f) between to → Same r (partly r around i (node k c f)) (fully around i (node k c f)) from to
  join from between to e apart rest = record {
    same =
        partly_is ∙ ap (λ (t : NewTree). before_rest t (partly r around false f)) e
        ∙ ap (before_rest (changed every_rule a (k, c) every_inner)) rest.same ∙ sym fully_is;
    none = λ n. subst Dollarless (sym partly_is) (rest.none n);
    apart = λ n. subst (λ (y : Draft). StandsApart from y to) (sym partly_is)
        (let p : StandsApart from own.1 between = apart n in
        let q : StandsApart between (partly r around false f) to = rest.apart n in (
          (p.0, spaceless_under (keyword_last from own.1) between (partly r around false f) p.1 q.0),
          λ x. q.1 (last_under (keyword_last from own.1) between (partly r around false f) p.1 x),
        ));
  }

  -- where its parts are the same
  parts_agree : (s o : Off) → NodeSeen r a (k, c) o → (r.unset_casts && is_edited (k, c)) ≡ false → Same r inner every_inner s.behind o.behind
      → (own ≡ changed every_rule a (k, c) every_inner) × (r.split_names ≡ false → StandsApart s.behind own.1 o.behind)
  parts_agree s o seen n p = (
    ap (λ (ws : List Wrapping). in_wrappings ws (node_by r (k, c) (k, inner))) (wrapping_same r a (k, c) o seen)
        ∙ ap (in_wrappings (wrapping_by every_rule a (k, c))) (changed_same r a (k, c) o (k, inner) seen p.none)
        ∙ ap (changed every_rule a (k, c)) p.same,
    λ e.
        let q : StandsApart s.behind inner o.behind = p.apart e in
        let l = changed_meek r (k, c) (k, inner) n s.behind s.behind (λ x. x) q.0 in
        let m = wrappings_meek (wrapping_by r a (k, c)) (node_by r (k, c) (k, inner)) s.behind s.behind (λ x. x) l.0 in
        (m.0, λ x. q.1 (l.1 (m.1 x))),
  )

  -- where all of it is taken out
  null_agrees : (at : ℕ) (s o : Off) → NodeSeen r a (k, c) o → (r.unset_casts && is_edited (k, c)) ≡ true → (null_off r at c s).found ≡ []
      → (own ≡ changed every_rule a (k, c) every_inner) × (r.split_names ≡ false → StandsApart s.behind own.1 o.behind)
  null_agrees at s o seen y found =
      let e : is_edited (k, c) ≡ true = and_second r.unset_casts (is_edited (k, c)) y in
      let n : node_by r (k, c) (k, inner) ≡ unset_cast (k, inner) = edited_is r (k, c) (k, inner) y in
      let m : node_by every_rule (k, c) (k, every_inner) ≡ unset_cast (k, every_inner) = edited_is every_rule (k, c) (k, every_inner) e in (
        ap (λ (ws : List Wrapping). in_wrappings ws (node_by r (k, c) (k, inner))) (wrapping_same r a (k, c) o seen)
            ∙ ap (in_wrappings (wrapping_by every_rule a (k, c))) (n ∙ null_same r k c at s e found ∙ sym m),
        λ g.
            let p = cast_apart r s.behind k c e in
            let q : Spaceless s.behind (node_by r (k, c) (k, inner)).1 = subst (λ (t : NewTree). Spaceless s.behind t.1) (sym n) p.0 in
            let l : keyword_last s.behind (node_by r (k, c) (k, inner)).1 ≡ false = ap (λ (t : NewTree). keyword_last s.behind t.1) n ∙ p.1 in
            let w = wrappings_meek (wrapping_by r a (k, c)) (node_by r (k, c) (k, inner)) s.behind s.behind (λ x. x) q in
            (w.0, λ x. absurd (false≢true (sym l ∙ w.1 x))),
      )

  abbrev begun : Bool → ℕ → Off → Off
  begun b at s = if b then null_off r at c s else off_in r (within k c) true zero at c s

  abbrev ended : Bool → ℕ → Off → Off
  ended b at s = off_in r around false zero (end_of at c) f (node_off r a at (k, c) (begun b at s))

  walked : Walks r (within k c) true c → Walks r around false f → (b : Bool) → (r.unset_casts && is_edited (k, c)) ≡ b
      → (at : ℕ) (s : Off) → (ended b at s).found ≡ [] → Same r (partly r around i (node k c f)) (fully around i (node k c f)) s.behind (ended b at s).behind
  walked p q true e at s found =
      let o : Off = null_off r at c s in
      let seen = node_seen r a at (k, c) o (found_before r around false zero (end_of at c) f (node_off r a at (k, c) o) found) in
      let x = null_agrees at s o seen e seen.before in
      join s.behind o.behind (ended true at s).behind x.0 x.1 (q.outside (end_of at c) (node_off r a at (k, c) o) found).both
  walked p q false e at s found =
      let o : Off = off_in r (within k c) true zero at c s in
      let seen = node_seen r a at (k, c) o (found_before r around false zero (end_of at c) f (node_off r a at (k, c) o) found) in
      let x = parts_agree s o seen e (p.outside at s seen.before).both in
      join s.behind o.behind (ended false at s).behind x.0 x.1 (q.outside (end_of at c) (node_off r a at (k, c) o) found).both

  node_walks : Walks r (within k c) true c → Walks r around false f → Walks r around i (node k c f)
  node_walks p q = record {
    outside = λ at s found. record {
      both = walked p q (r.unset_casts && is_edited (k, c)) refl at s found;
      begins = λ n t. refl;
    };
    inside = tt;
  }

-- ---- all parts

pub walks : (r : Rules) (around : Bool → Option Around) (i : Bool) (f : Forest) → NamesAreAside f → Walks r around i f
walks r around i none h = record {
  outside = λ at s found. record {
    both = record { same = refl; none = λ n. tt; apart = λ n. (tt, λ x. x) };
    begins = λ n t. refl;
  };
  inside = tt;
}
walks r around i (leaf x f) h = token_walks r around i x f (walks r around false f h)
walks r around i (node k c f) h = node_walks r around i k c f h.0 (walks r (within k c) true c h.1) (walks r around false f h.2)
