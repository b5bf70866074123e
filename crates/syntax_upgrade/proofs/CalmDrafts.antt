-- The draft of parts that no rule touches.
use Rattle.std.proofs.Common.{
  ◌≡◌,
  ◌==◌,
  ◌⊎◌,
  inl,
  inr,
  ℕ,
  Bool,
  true,
  false,
  ◌&&◌,
  ◌||◌,
  if◌then◌else◌,
  List,
  [],
  ◌∷◌,
  ◌++◌,
  Option,
  Some,
  None,
  refl,
  ap,
  sym,
  ◌∙◌,
  codes,
  append-nil,
}
use Rattle.std.specs.Str.{bytes_eq}
use Rattle.std.proofs.lemmas.Bool.{false≢true}
use Rattle.php_tree.specs.declared.kind.NodeKind.{NodeKind}
use Rattle.php_tree.specs.declared.kind.NodeKind.TheVariants as kind
use Rattle.php_tree.specs.declared.token.Token.{Token}
use Rattle.php_tree.specs.Tree.{Forest, none, leaf, node, Tree, leaves}
use Rattle.tracked_changes.specs.patches.Patches.{Wrapping}
use Rattle.tracked_changes.specs.Draft.{Draft, no_more, new_leaf, new_node, ◌then◌}
use Rattle.tracked_changes.specs.Walk.{NewTree, new_alone}
use Rattle.tracked_changes.specs.Parens.{in_wrappings}
use Rattle.syntax_rules.specs.declared.rules.Rules.{Rules}
use Rattle.syntax_rules.specs.Around.{Around, kind_if_first, operator_of, within}
use Rattle.syntax_rules.specs.BraceOffset.{is_brace_offset}
use Rattle.syntax_rules.specs.Casts.{is_cast}
use Rattle.syntax_rules.specs.DollarBrace.{begins_dollar_brace, dollar_brace, is_piece, parts}
use Rattle.syntax_rules.specs.DotPrecedence.{is_binary, is_regrouped, is_shift, is_sum}
use Rattle.syntax_rules.specs.NestedTernary.{nests}
use Rattle.syntax_rules.specs.RealCast.{is_real_cast}
use Rattle.syntax_rules.specs.UnsetCast.{is_edited}
use Rattle.syntax_rules.specs.SplitName.{in_front, is_backslash, is_label, is_namespace, is_one, whole_names}
use Rattle.syntax_rules.specs.Together.{is_quoted, node_by, token_by}
use Rattle.syntax_rules.specs.Rewritten.{wrapping_by}
use Rattle.syntax_rules.specs.InContext.{inside_by, is_nested, nests_in, parts_by}
use Rattle.syntax_rules.proofs.InContext.{wrapping_by_is}
use Rattle.syntax_upgrade.specs.Calm.{AreApart, AreCalm, IsCalm, NoneJoins, NoneTakes, is_calm_kind, may_join, may_take}

-- ---- kinds

pub no_nest : (o k : NodeKind) → is_calm_kind k ≡ true → nests o k ≡ false
no_nest kind.Ternary kind.Ternary h = absurd (false≢true h)
no_nest kind.Ternary kind.ShortTernary h = absurd (false≢true h)
no_nest kind.ShortTernary kind.Ternary h = absurd (false≢true h)
no_nest o k h = refl

pub no_offset : (k : NodeKind) → is_calm_kind k ≡ true → is_brace_offset k ≡ false
no_offset kind.BraceOffset h = absurd (false≢true h)
no_offset k h = refl

pub no_cast : (k : NodeKind) → is_calm_kind k ≡ true → is_cast k ≡ false
no_cast kind.Cast h = absurd (false≢true h)
no_cast k h = refl

pub and_none : (b : Bool) → (b && false) ≡ false
and_none true = refl
and_none false = refl

nested_in : (o : Option NodeKind) (k : NodeKind) → is_calm_kind k ≡ true → nests_in o k ≡ false
nested_in None k h = refl
nested_in (Some o) k h = no_nest o k h

pub not_nested : (a : Option Around) (k : NodeKind) → is_calm_kind k ≡ true → is_nested a k ≡ false
not_nested a k h = nested_in (kind_if_first a) k h

pub not_real : (k : NodeKind) (c : Forest) → is_calm_kind k ≡ true → is_real_cast (k, c) ≡ false
not_real k c h = rw (no_cast k h) refl

pub not_edited : (k : NodeKind) (c : Forest) → is_calm_kind k ≡ true → is_edited (k, c) ≡ false
not_edited k c h = rw (no_cast k h) refl

-- ---- operators

record Neither (bs : List ℕ) : Type 0 where
  sum : is_sum bs ≡ false
  shift : is_shift bs ≡ false

two_none : (a b : Bool) → (a || b) ≡ false → (a ≡ false) × (b ≡ false)
two_none true b h = absurd (false≢true (sym h))
two_none false b h = (refl, h)

and_also : (b : Bool) → (b && true) ≡ b
and_also true = refl
and_also false = refl

takes_none : (bs : List ℕ) → may_take bs ≡ false → Neither bs
takes_none [] h = record { sum = refl; shift = refl }
takes_none (b ∷ []) h =
    let n = two_none (b == 43) (b == 45) h in
    record { sum = rw (n.0, n.1) refl; shift = rw (and_none (b == 60), and_none (b == 62)) refl }
takes_none (b ∷ c ∷ []) h =
    let n = two_none (b == 60 && c == 60) (b == 62 && c == 62) h in
    record { sum = rw (and_none (b == 43), and_none (b == 45)) refl; shift = rw (and_also (c == 60), and_also (c == 62), n.0, n.1) refl }
takes_none (b ∷ c ∷ d ∷ bs) h = record {
  sum = rw (and_none (b == 43), and_none (b == 45)) refl;
  shift = rw (and_none (c == 60), and_none (c == 62), and_none (b == 60), and_none (b == 62)) refl;
}

joins_none : (bs : List ℕ) → may_join bs ≡ false → bytes_eq bs (codes ".") ≡ false
joins_none [] h = refl
joins_none (b ∷ []) h = rw h refl
joins_none (b ∷ c ∷ bs) h = and_none (b == 46)

takes_first : (xs ys : List Token) → NoneTakes (xs ++ ys) → NoneTakes xs
takes_first [] ys h = tt
takes_first (x ∷ xs) ys h = (h.0, takes_first xs ys h.1)

takes_rest : (xs ys : List Token) → NoneTakes (xs ++ ys) → NoneTakes ys
takes_rest [] ys h = h
takes_rest (x ∷ xs) ys h = takes_rest xs ys h.1

joins_first : (xs ys : List Token) → NoneJoins (xs ++ ys) → NoneJoins xs
joins_first [] ys h = tt
joins_first (x ∷ xs) ys h = (h.0, joins_first xs ys h.1)

joins_rest : (xs ys : List Token) → NoneJoins (xs ++ ys) → NoneJoins ys
joins_rest [] ys h = h
joins_rest (x ∷ xs) ys h = joins_rest xs ys h.1

operator_takes : (f : Forest) → NoneTakes (leaves f) → Neither (operator_of f)
operator_takes none h = record { sum = refl; shift = refl }
operator_takes (leaf t f) h = record { sum = refl; shift = refl }
operator_takes (node k c none) h = record { sum = refl; shift = refl }
operator_takes (node k c (leaf t f)) h = takes_none t.text (takes_rest (leaves c) (t ∷ leaves f) h).0
operator_takes (node k c (node j b f)) h = record { sum = refl; shift = refl }

operator_joins : (f : Forest) → NoneJoins (leaves f) → bytes_eq (operator_of f) (codes ".") ≡ false
operator_joins none h = refl
operator_joins (leaf t f) h = refl
operator_joins (node k c none) h = refl
operator_joins (node k c (leaf t f)) h = joins_none t.text (joins_rest (leaves c) (t ∷ leaves f) h).0
operator_joins (node k c (node j b f)) h = refl

-- nodes there are put in no parentheses for their `.`
abbrev pub IsFree : (Bool → Option Around) → Type 0
IsFree around = (i : Bool) (t : Tree) → is_regrouped (around i) t ≡ false

free_within : (k : NodeKind) (f : Forest) → NoneTakes (leaves f) → IsFree (within k f)
free_within k f h = λ i t.
    let o = operator_takes f h in
    rw (o.sum, o.shift, and_none, and_none) refl

no_dot : (a : Option Around) (k : NodeKind) (c : Forest) → bytes_eq (operator_of c) (codes ".") ≡ false → is_regrouped a (k, c) ≡ false
no_dot None k c h = refl
no_dot (Some a) k c h = rw (h, and_none (is_binary k)) refl

-- no `.` among some parts is taken apart where they stand
abbrev pub Kept : (Bool → Option Around) → Forest → Type 0
Kept around f = (IsFree around × NoneTakes (leaves f)) ⊎ NoneJoins (leaves f)

pub kept_within : (k : NodeKind) (f : Forest) → AreApart (leaves f) → Kept (within k f) f
kept_within k f (inl h) = inl (free_within k f h, h)
kept_within k f (inr h) = inr h

pub kept_here : (around : Bool → Option Around) (i : Bool) (k : NodeKind) (c f : Forest) → Kept around (node k c f) → is_regrouped (around i) (k, c) ≡ false
kept_here around i k c f (inl h) = h.0 i (k, c)
kept_here around i k c f (inr h) = no_dot (around i) k c (operator_joins c (joins_first (leaves c) (leaves f) h))

pub kept_inner : (around : Bool → Option Around) (k : NodeKind) (c f : Forest) → Kept around (node k c f) → Kept (within k c) c
kept_inner around k c f (inl h) = let n = takes_first (leaves c) (leaves f) h.1 in inl (free_within k c n, n)
kept_inner around k c f (inr h) = inr (joins_first (leaves c) (leaves f) h)

pub kept_rest : (around : Bool → Option Around) (k : NodeKind) (c f : Forest) → Kept around (node k c f) → Kept around f
kept_rest around k c f (inl h) = inl (h.0, takes_rest (leaves c) (leaves f) h.1)
kept_rest around k c f (inr h) = inr (joins_rest (leaves c) (leaves f) h)

pub kept_behind : (around : Bool → Option Around) (t : Token) (f : Forest) → Kept around (leaf t f) → Kept around f
kept_behind around t f (inl h) = inl (h.0, h.1.1)
kept_behind around t f (inr h) = inr h.1

module _ (r : Rules) where
  -- each token by itself
  abbrev pub calm_draft : Forest → Draft
  calm_draft none = no_more
  calm_draft (leaf t f) = new_leaf (token_by r t) (calm_draft f)
  calm_draft (node k c f) = new_node k (calm_draft c) (calm_draft f)

  -- ---- names

  not_root : (t : Token) → IsCalm t → is_backslash (token_by r t) ≡ false
  not_root t h = rw (append-nil t.text, h.no_root) (and_none _)

  pub not_one : (t u : Token) → IsCalm t → IsCalm u → is_one (token_by r t) (token_by r u) ≡ false
  not_one t u h i = rw (not_root t h, i.no_name, and_none (is_label t.kind || is_namespace (token_by r t))) refl

  pub alone_in_front : (n : Bool) (t : Token) (f : Forest) → IsCalm t → AreCalm f
      → in_front n (token_by r t) (calm_draft f) ≡ new_leaf (token_by r t) (calm_draft f)
  alone_in_front n t none h i = refl
  alone_in_front n t (leaf u f) h i = rw (not_one t u h i.0) refl
  alone_in_front n t (node k c f) h i = refl

  pub names_stay : (n : Bool) (f : Forest) → AreCalm f → whole_names n (calm_draft f) ≡ calm_draft f
  names_stay n none h = refl
  names_stay n (leaf t f) h = ap (in_front n (token_by r t)) (names_stay n f h.1) ∙ alone_in_front n t f h.0 h.1
  names_stay n (node k c f) h = rw (names_stay n c h.1.0, names_stay n f h.1.1) refl

  -- ---- quoted texts

  begins_none : (f : Forest) → AreCalm f → begins_dollar_brace (calm_draft f) ≡ false
  begins_none none h = refl
  begins_none (leaf t f) h = h.0.no_brace
  begins_none (node k c f) h = refl

  texts_stay : (f : Forest) → AreCalm f → parts (calm_draft f) ≡ calm_draft f
  texts_stay none h = refl
  texts_stay (leaf t f) h =
      let e = begins_none f h.1 in
      let q : parts (calm_draft f) ≡ calm_draft f = texts_stay f h.1 in
      rw (h.0.no_brace, e, and_none (is_piece t.kind), q) refl
  texts_stay (node k c f) h = ap (new_node k (calm_draft c)) (texts_stay f h.1.1)

  -- ---- nodes

  text_if : (b : Bool) (k : NodeKind) (c : Forest) → AreCalm c
      → (if b then dollar_brace (k, calm_draft c) else (k, calm_draft c)) ≡ (k, calm_draft c)
  text_if true k c h = ap (λ (d : Draft). (k, d)) (texts_stay c h)
  text_if false k c h = refl

  pub node_stays : (k : NodeKind) (c : Forest) → is_calm_kind k ≡ true → AreCalm c → node_by r (k, c) (k, calm_draft c) ≡ (k, calm_draft c)
  node_stays k c h i =
      rw (no_offset k h, not_real k c h, not_edited k c h, and_none r.brace_offsets, and_none r.real_casts, and_none r.unset_casts)
      (text_if (r.dollar_braces && is_quoted k) k c i)

  no_wrap : (a : Option Around) (k : NodeKind) (c : Forest) → is_calm_kind k ≡ true → is_regrouped a (k, c) ≡ false → wrapping_by r a (k, c) ≡ []
  no_wrap a k c h e =
      wrapping_by_is r a (k, c)
      ∙ rw (not_nested a k h, e, and_none r.nested_ternaries, and_none r.dot_operands) refl

  pub parts_stay : (around : Bool → Option Around) (i : Bool) (f : Forest) → Kept around f → AreCalm f → parts_by r around i f ≡ calm_draft f
  parts_stay around i none free h = refl
  parts_stay around i (leaf t f) free h = ap (new_leaf (token_by r t)) (parts_stay around false f (kept_behind around t f free) h.1)
  parts_stay around i (node k c f) free h =
      let w : wrapping_by r (around i) (k, c) ≡ [] = no_wrap (around i) k c h.0 (kept_here around i k c f free) in
      let inner : parts_by r (within k c) true c ≡ calm_draft c = parts_stay (within k c) true c (kept_inner around k c f free) h.1.0 in
      let rest : parts_by r around false f ≡ calm_draft f = parts_stay around false f (kept_rest around k c f free) h.1.1 in
      ap (λ (ws : List Wrapping). new_alone (in_wrappings ws (node_by r (k, c) (k, parts_by r (within k c) true c))) then parts_by r around false f) w
      ∙ ap (λ (d : Draft). new_alone (node_by r (k, c) (k, d)) then parts_by r around false f) inner
      ∙ ap (λ (n : NewTree). new_alone n then parts_by r around false f) (node_stays k c h.0 h.1.0)
      ∙ ap (new_node k (calm_draft c)) rest

  pub inside_stays : (k : NodeKind) (f : Forest) → is_calm_kind k ≡ true → AreCalm f → AreApart (leaves f) → (inside_by r (k, f)).1 ≡ calm_draft f
  inside_stays k f h i a =
      ap (λ (d : Draft). (node_by r (k, f) (k, d)).1) (parts_stay (within k f) true f (kept_within k f a) i)
      ∙ ap (λ (n : NewTree). n.1) (node_stays k f h i)
