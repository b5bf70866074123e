-- No token that a node could have taken stands behind it.
use Rattle.std.proofs.Common.{◌≡◌, Bool, true, false, not, ◌&&◌, ◌||◌, List, ◌++◌, refl, sym, ap, ◌∙◌}
use Rattle.std.proofs.lemmas.Bool.{and_from}
use Rattle.php_tree.specs.declared.kind.NodeKind.{NodeKind}
use Rattle.php_tree.specs.declared.token.Token.{Token}
use Rattle.php_tree.specs.Tree.{Forest, none, leaf, node, ◌+++◌, leaves}
use Rattle.php_terminals.specs.declared.terminal.Terminal.{Terminal}
use Rattle.php_terminals.specs.Ahead.{first_of}
use Rattle.php_terminals.specs.Classify.{terminal}
use Rattle.php_forms.specs.Grammar.{IsFlat}
use Rattle.php_shapes.specs.Nearest.{arrows_are_nearest, elses_are_nearest, ends_in_if, ends_in_yield, goes_on_if, is_nearest, is_open_if, is_open_yield, is_to}
use Rattle.php_shapes.proofs.Entries.{flat}
use Rattle.php_shapes.proofs.Told.{join}

-- nothing is both
pub false_is : {A : Type 0} → false ≡ true → A
false_is e = absurd cc

pub or_either : {A : Type 0} (b c : Bool) → (b ≡ true → A) → (c ≡ true → A) → (b || c) ≡ true → A
or_either true c f g e = f refl
or_either false c f g e = g e

-- ---- for nodes that are open, and tokens that they take

module _ (opens : NodeKind → Forest → Bool) (takes : Terminal → Bool) where
  abbrev pub ends_in : Bool → Forest → Bool
  ends_in before none = before
  ends_in before (leaf x f) = ends_in false f
  ends_in before (node j b f) = ends_in (opens j b || ends_in false b) f

  abbrev pub are_nearest : Bool → Forest → Bool
  are_nearest before none = true
  are_nearest before (leaf x f) = not (before && takes (terminal x)) && are_nearest false f
  are_nearest before (node j b f) = are_nearest (opens j b || ends_in false b) f

  -- where something before is open, the next token is not one that it takes
  abbrev pub Shut : Bool → List Token → Type 0
  Shut before ts = before ≡ true → takes (first_of ts) ≡ false

  -- Parts before these tokens: each token belongs to the nearest, and so does the next one.
  pub record Follows (f : Forest) (rest : List Token) : Type 0 where
    pub ends : (before : Bool) → Shut before (leaves f ++ rest) → Shut (ends_in before f) rest
    pub near : (before : Bool) → Shut before (leaves f ++ rest) → are_nearest before f ≡ true

  pub follows_none : (rest : List Token) → Follows none rest
  follows_none rest = record { ends = λ before shut. shut; near = λ before shut. refl }

  not_taken : (before took : Bool) → (before ≡ true → took ≡ false) → not (before && took) ≡ true
  not_taken true true h = false_is (sym (h refl))
  not_taken true false h = refl
  not_taken false took h = refl

  pub follows_leaf : (x : Token) (f : Forest) (rest : List Token) → Follows f rest → Follows (leaf x f) rest
  follows_leaf x f rest ih = record {
    ends = λ before shut. ih.ends false (λ e. false_is e);
    near = λ before shut. and_from (not (before && takes (terminal x))) (are_nearest false f) (not_taken before (takes (terminal x)) shut) (ih.near false (λ e. false_is e));
  }

  pub follows_node : (j : NodeKind) (b f : Forest) (rest : List Token) → Shut (opens j b || ends_in false b) (leaves f ++ rest) → Follows f rest → Follows (node j b f) rest
  follows_node j b f rest shut ih = record {
    ends = λ before h. ih.ends (opens j b || ends_in false b) shut;
    near = λ before h. ih.near (opens j b || ends_in false b) shut;
  }

  ends_append : (h f : Forest) (before : Bool) → ends_in before (h +++ f) ≡ ends_in (ends_in before h) f
  ends_append none f before = refl
  ends_append (leaf x h) f before = ends_append h f false
  ends_append (node j b h) f before = ends_append h f (opens j b || ends_in false b)

  and_assoc : (a b c : Bool) → (a && b) && c ≡ a && (b && c)
  and_assoc true b c = refl
  and_assoc false b c = refl

  near_append : (h f : Forest) (before : Bool) → are_nearest before (h +++ f) ≡ are_nearest before h && are_nearest (ends_in before h) f
  near_append none f before = refl
  near_append (leaf x h) f before =
      ap (λ (y : Bool). not (before && takes (terminal x)) && y) (near_append h f false)
      ∙ sym (and_assoc (not (before && takes (terminal x))) (are_nearest false h) (are_nearest (ends_in false h) f))
  near_append (node j b h) f before = near_append h f (opens j b || ends_in false b)

  pub follows_append : (h f : Forest) (rest : List Token) → Follows h (leaves f ++ rest) → Follows f rest → Follows (h +++ f) rest
  follows_append h f rest p q =
      let part : (before : Bool) → Shut before (leaves (h +++ f) ++ rest) → Shut before (leaves h ++ (leaves f ++ rest)) =
      λ before shut. λ e. ap (λ (ts : List Token). takes (first_of ts)) (sym (join h f rest)) ∙ shut e in
      record {
        ends = λ before shut e. q.ends (ends_in before h) (p.ends before (part before shut)) (sym (ends_append h f before) ∙ e);
        near = λ before shut.
            near_append h f before
            ∙ and_from (are_nearest before h) (are_nearest (ends_in before h) f) (p.near before (part before shut)) (q.near (ends_in before h) (p.ends before (part before shut)));
      }

  pub follows_flat : (h : Forest) (rest : List Token) → IsFlat h → Follows h rest
  follows_flat none rest flat = follows_none rest
  follows_flat (leaf x h) rest flat = follows_leaf x h rest (follows_flat h rest flat)
  follows_flat (node j b h) rest flat = absurd flat

  -- a node in which and behind which all is so
  pub shut_by : (j : NodeKind) (b : Forest) (rest : List Token) → Follows b rest → Shut (opens j b) rest → Shut (opens j b || ends_in false b) rest
  shut_by j b rest p q = or_either (opens j b) (ends_in false b) q (p.ends false (λ e. false_is e))

-- ---- `else` and `=>`

abbrev pub Ifs : Forest → List Token → Type 0
Ifs = Follows is_open_if goes_on_if

abbrev pub Yields : Forest → List Token → Type 0
Yields = Follows is_open_yield is_to

ifs_same : (f : Forest) (before : Bool) → ends_in_if before f ≡ ends_in is_open_if goes_on_if before f
ifs_same none before = refl
ifs_same (leaf x f) before = ifs_same f false
ifs_same (node j b f) before =
    ap (λ (y : Bool). ends_in_if (is_open_if j b || y) f) (ifs_same b false) ∙ ifs_same f (is_open_if j b || ends_in is_open_if goes_on_if false b)

yields_same : (f : Forest) (before : Bool) → ends_in_yield before f ≡ ends_in is_open_yield is_to before f
yields_same none before = refl
yields_same (leaf x f) before = yields_same f false
yields_same (node j b f) before =
    ap (λ (y : Bool). ends_in_yield (is_open_yield j b || y) f) (yields_same b false) ∙ yields_same f (is_open_yield j b || ends_in is_open_yield is_to false b)

elses_same : (f : Forest) (before : Bool) → elses_are_nearest before f ≡ are_nearest is_open_if goes_on_if before f
elses_same none before = refl
elses_same (leaf x f) before = ap (λ (y : Bool). not (before && goes_on_if (terminal x)) && y) (elses_same f false)
elses_same (node j b f) before =
    ap (λ (y : Bool). elses_are_nearest (is_open_if j b || y) f) (ifs_same b false) ∙ elses_same f (is_open_if j b || ends_in is_open_if goes_on_if false b)

arrows_same : (f : Forest) (before : Bool) → arrows_are_nearest before f ≡ are_nearest is_open_yield is_to before f
arrows_same none before = refl
arrows_same (leaf x f) before = ap (λ (y : Bool). not (before && is_to (terminal x)) && y) (arrows_same f false)
arrows_same (node j b f) before =
    ap (λ (y : Bool). arrows_are_nearest (is_open_yield j b || y) f) (yields_same b false) ∙ arrows_same f (is_open_yield j b || ends_in is_open_yield is_to false b)

-- each `else` and `=>` belongs to the nearest
pub nearest : (f : Forest) (rest : List Token) → Ifs f rest → Yields f rest → is_nearest f ≡ true
nearest f rest p q =
    and_from (elses_are_nearest false f) (arrows_are_nearest false f)
    (elses_same f false ∙ p.near false (λ e. false_is e))
    (arrows_same f false ∙ q.near false (λ e. false_is e))
