-- Whole names and node rules: it doesn't matter which come first.
use Rattle.std.proofs.Common.{◌≡◌, ℕ, Bool, true, false, not, ◌&&◌, ◌||◌, if◌then◌else◌, List, [], ◌∷◌, ◌++◌, refl, ap, sym, ◌∙◌, codes}
use Rattle.std.specs.Str.{bytes_eq}
use Rattle.std.proofs.lemmas.Bool.{false≢true}
use Rattle.std.proofs.lemmas.Slice.Eq.{bytes_eq-Decides}
use Rattle.php_tree.specs.declared.token.TokenKind.{TokenKind}
use Rattle.php_tree.specs.declared.token.TokenKind.TheVariants as token
use Rattle.php_tree.specs.declared.kind.NodeKind.{NodeKind}
use Rattle.php_tree.specs.declared.kind.NodeKind.TheVariants as kind
use Rattle.php_tree.specs.Tree.{Tree}
use Rattle.tracked_changes.specs.patches.Patches.{Wrapping, InParens}
use Rattle.tracked_changes.specs.Pieces.{Piece, before, changed}
use Rattle.tracked_changes.specs.Draft.{NewToken, Draft, no_more, new_leaf, new_node, pieces}
use Rattle.tracked_changes.specs.Leads.{first_lead, without_lead}
use Rattle.tracked_changes.specs.Tokens.{is_text, retexted, put_in, put_also}
use Rattle.tracked_changes.specs.Walk.{NewTree}
use Rattle.tracked_changes.specs.Parens.{in_parens, in_wrappings}
use Rattle.syntax_rules.specs.declared.rules.Rules.{Rules}
use Rattle.syntax_rules.specs.BraceOffset.{bracket, bracketed, brace_offset, is_brace_offset}
use Rattle.syntax_rules.specs.DollarBrace.{begins_dollar_brace, before_last, curly, dollar_brace, ends_bare, escaped, is_dollar_brace, is_piece, named, opened, parts, plain, with_node, with_offset}
use Rattle.syntax_rules.specs.Quotable.{is_loose}
use Rattle.syntax_rules.specs.RealCast.{float_first, is_real_cast, real_cast}
use Rattle.syntax_rules.specs.SplitName.{in_front, is_backslash, is_label, is_namespace, is_one, whole_names}
use Rattle.syntax_rules.specs.Together.{is_quoted, node_by}
use Rattle.syntax_rules.specs.UnsetCast.{is_edited, opening, unset_cast}
use Rattle.syntax_rules.proofs.SplitNameKeeps.{whole_keeps}
use Rattle.syntax_upgrade.proofs.Tokens.{and_second}
use Rattle.syntax_upgrade.proofs.Names.{whole_bare, whole_lead}

-- no token among the parts of a draft themselves can be one with a name behind it
abbrev pub Loose : Draft → Type 0
Loose no_more = Unit {0}
Loose (new_leaf t d) = (is_loose t ≡ true) × Loose d
Loose (new_node k c d) = Loose d

neither : (a b : Bool) → (not a && not b) ≡ true → (a ≡ false) × (b ≡ false)
neither true b h = absurd (false≢true h)
neither false true h = absurd (false≢true h)
neither false false h = (refl, refl)

one_never : (t u : NewToken) → is_loose t ≡ true → is_one t u ≡ false
one_never t u h =
    let n = neither (is_backslash t) (is_label t.kind || is_namespace t) h in
    rw (n.0, n.1) refl

pub front_loose : (n : Bool) (t : NewToken) (d : Draft) → is_loose t ≡ true → in_front n t d ≡ new_leaf t d
front_loose n t no_more h = refl
front_loose n t (new_leaf u d) h = rw (one_never t u h) refl
front_loose n t (new_node k c d) h = refl

-- ---- an offset in braces

not_both : (xs : List ℕ) (c e : ℕ) → bytes_eq xs (c ∷ []) ≡ true → bytes_eq (c ∷ []) (e ∷ []) ≡ false → bytes_eq (xs ++ []) (e ∷ []) ≡ false
not_both xs c e h n =
    let same : xs ≡ c ∷ [] = (bytes_eq-Decides xs (c ∷ [])).0 h in
    rw same n

bracket_if : (x : Bool) (c : ℕ) (text : List ℕ) (t : NewToken) (u : NewToken) → bytes_eq (before t.text) (c ∷ []) ≡ x → bytes_eq (c ∷ []) (codes "\\") ≡ false
    → is_loose u ≡ true → is_loose (if x then retexted token.Op text t else u) ≡ true
bracket_if true c text t u e n h = rw (not_both (before t.text) c 92 e n) refl
bracket_if false c text t u e n h = h

bracket_loose : (t : NewToken) → is_loose t ≡ true → is_loose (bracket t) ≡ true
bracket_loose t h =
    bracket_if (is_text (codes "{") t) 123 (codes "[") t _ refl refl
    (bracket_if (is_text (codes "}") t) 125 (codes "]") t t refl refl h)

pub whole_bracketed : (n : Bool) (d : Draft) → Loose d → whole_names n (bracketed d) ≡ bracketed (whole_names n d)
whole_bracketed n no_more h = refl
whole_bracketed n (new_leaf t d) h =
    front_loose n (bracket t) (whole_names n (bracketed d)) (bracket_loose t h.0)
    ∙ ap (new_leaf (bracket t)) (whole_bracketed n d h.1)
    ∙ sym (ap bracketed (front_loose n t (whole_names n d) h.0))
whole_bracketed n (new_node k c d) h = ap (new_node k (whole_names n c)) (whole_bracketed n d h)

-- ---- a cast `(real)`

pub whole_float : (n : Bool) (d : Draft) → Loose d → whole_names n (float_first d) ≡ float_first (whole_names n d)
whole_float n no_more h = refl
whole_float n (new_leaf t d) h =
    front_loose n (retexted token.Cast (codes "(float)") t) (whole_names n d) refl
    ∙ sym (ap float_first (front_loose n t (whole_names n d) h.0))
whole_float n (new_node k c d) h = refl

-- ---- a quoted text

whole_begins : (n : Bool) (d : Draft) → Loose d → begins_dollar_brace (whole_names n d) ≡ begins_dollar_brace d
whole_begins n no_more h = refl
whole_begins n (new_leaf t d) h = ap begins_dollar_brace (front_loose n t (whole_names n d) h.0)
whole_begins n (new_node k c d) h = refl

whole_offset : (n : Bool) (t name mark : NewToken) (d : Draft) → is_loose mark ≡ true → Loose d
    → whole_names n (with_offset t name mark d) ≡ with_offset t name mark (whole_names n d)
whole_offset n t name mark (new_node k e (new_leaf shut d)) m h =
    ap (λ (x : Draft). new_leaf (curly t) (new_node kind.Offset (named name x) (whole_names n d)))
    (front_loose n mark (new_node k (whole_names n e) (new_leaf shut no_more)) m)
    ∙ sym (ap (λ (x : Draft). with_offset t name mark (new_node k (whole_names n e) x)) (front_loose n shut (whole_names n d) h.0))
whole_offset n t name mark no_more m h = refl
whole_offset n t name mark (new_leaf v d) m h =
    ap (λ (x : Draft). new_leaf (curly t) (named name x))
    (front_loose n mark (in_front n v (whole_names n d)) m
    ∙ ap (new_leaf mark) (front_loose n v (whole_names n d) h.0))
    ∙ sym (ap (with_offset t name mark) (front_loose n v (whole_names n d) h.0))
whole_offset n t name mark (new_node k e no_more) m h = refl
whole_offset n t name mark (new_node k e (new_node j g d)) m h = refl

whole_node : (n : Bool) (t : NewToken) (k : NodeKind) (e d : Draft) → is_loose t ≡ true → Loose d
    → whole_names n (with_node t k e d) ≡ with_node t k (whole_names n e) (whole_names n d)
whole_node n t k e (new_leaf close d) l h =
    front_loose n (curly t) _ refl
    ∙ ap (λ (x : Draft). new_leaf (curly t) (new_node kind.Variable
    (new_leaf (put_also token.Op (codes "$")) (new_leaf (put_also token.Op (codes "{"))
    (new_node k (whole_names n e) (new_leaf (retexted token.Op (codes "}") close) no_more)))) x))
    (front_loose n (put_also token.Op (codes "}")) (whole_names n d) refl)
    ∙ sym (ap (with_node t k (whole_names n e)) (front_loose n close (whole_names n d) h.0))
whole_node n t k e no_more l h = refl
whole_node n t k e (new_node j g d) l h = refl

opened_if : (n x : Bool) (t name mark : NewToken) (d : Draft) → is_loose mark ≡ true → Loose d
    → whole_names n (if x then with_offset t name mark d else plain t name (new_leaf mark d))
    ≡ (if x then with_offset t name mark (whole_names n d) else plain t name (new_leaf mark (whole_names n d)))
opened_if n true t name mark d m h = whole_offset n t name mark d m h
opened_if n false t name mark d m h = ap (plain t name) (front_loose n mark (whole_names n d) m)

whole_opened : (n : Bool) (t : NewToken) (d : Draft) → is_loose t ≡ true → Loose d → whole_names n (opened t d) ≡ opened t (whole_names n d)
whole_opened n t no_more l h = refl
whole_opened n t (new_leaf name no_more) l h = front_loose n t (new_leaf name no_more) l
whole_opened n t (new_leaf name (new_leaf mark d)) l h =
    opened_if n (is_text (codes "[") mark) t name mark d h.1.0 h.1.1
    ∙ sym (ap (opened t) (front_loose n name (in_front n mark (whole_names n d)) h.0
    ∙ ap (new_leaf name) (front_loose n mark (whole_names n d) h.1.0)))
whole_opened n t (new_leaf name (new_node k e d)) l h = front_loose n t (new_leaf name (new_node k (whole_names n e) (whole_names n d))) l
whole_opened n t (new_node k e d) l h = whole_node n t k e d l h

-- ---- what a quoted text becomes holds no name either

loose_offset : (t name mark : NewToken) (d : Draft) → is_loose mark ≡ true → Loose d → Loose (with_offset t name mark d)
loose_offset t name mark (new_node k e (new_leaf shut d)) m h = (refl, h.1)
loose_offset t name mark no_more m h = (refl, (m, tt))
loose_offset t name mark (new_leaf v d) m h = (refl, (m, h))
loose_offset t name mark (new_node k e no_more) m h = (refl, (m, tt))
loose_offset t name mark (new_node k e (new_node j g d)) m h = (refl, (m, h))

loose_node : (t : NewToken) (k : NodeKind) (e d : Draft) → is_loose t ≡ true → Loose d → Loose (with_node t k e d)
loose_node t k e (new_leaf close d) l h = (refl, (refl, h.1))
loose_node t k e no_more l h = (l, tt)
loose_node t k e (new_node j g d) l h = (l, h)

loose_if : (x : Bool) (d e : Draft) → Loose d → Loose e → Loose (if x then d else e)
loose_if true d e p q = p
loose_if false d e p q = q

loose_opened : (t : NewToken) (d : Draft) → is_loose t ≡ true → Loose d → Loose (opened t d)
loose_opened t no_more l h = (l, tt)
loose_opened t (new_leaf name no_more) l h = (l, h)
loose_opened t (new_leaf name (new_leaf mark d)) l h =
    loose_if (is_text (codes "[") mark) (with_offset t name mark d) (plain t name (new_leaf mark d))
    (loose_offset t name mark d h.1.0 h.1.1) (refl, h.1)
loose_opened t (new_leaf name (new_node k e d)) l h = (l, h)
loose_opened t (new_node k e d) l h = loose_node t k e d l h

piece_loose : (k : TokenKind) (l ps : List Piece) → is_piece k ≡ true → is_loose (record { kind = k; lead = l; text = ps }) ≡ true
piece_loose token.Piece l ps h = refl
piece_loose k l ps h = absurd cc

escaped_loose : (x y e : Bool) (t : NewToken) → is_piece t.kind ≡ x → is_loose t ≡ true
    → is_loose (if x && y then (if e then record t { text = before_last (before t.text) } else t) else t) ≡ true
escaped_loose true true true t p l = piece_loose t.kind t.lead (before_last (before t.text)) p
escaped_loose true true false t p l = l
escaped_loose true false e t p l = l
escaped_loose false y e t p l = l

abbrev piece_of : Bool → NewToken → NewToken
piece_of y t = if is_piece t.kind && y then escaped t else t

piece_of_loose : (y : Bool) (t : NewToken) → is_loose t ≡ true → is_loose (piece_of y t) ≡ true
piece_of_loose y t l = escaped_loose (is_piece t.kind) y (ends_bare false (before t.text)) t refl l

abbrev part_by : Bool → NewToken → Bool → Draft → Draft
part_by x t y d = if x then opened t d else new_leaf (piece_of y t) d

loose_part : (x y : Bool) (t : NewToken) (d : Draft) → is_loose t ≡ true → Loose d → Loose (part_by x t y d)
loose_part true y t d l h = loose_opened t d l h
loose_part false y t d l h = (piece_of_loose y t l, h)

loose_parts : (d : Draft) → Loose d → Loose (parts d)
loose_parts no_more h = tt
loose_parts (new_leaf t d) h = loose_part (is_dollar_brace t.kind) (begins_dollar_brace d) t (parts d) h.0 (loose_parts d h.1)
loose_parts (new_node k c d) h = loose_parts d h

whole_part : (n x y : Bool) (t : NewToken) (d : Draft) → is_loose t ≡ true → Loose d → whole_names n (part_by x t y d) ≡ part_by x t y (whole_names n d)
whole_part n true y t d l h = whole_opened n t d l h
whole_part n false y t d l h = front_loose n (piece_of y t) (whole_names n d) (piece_of_loose y t l)

pub whole_parts : (n : Bool) (d : Draft) → Loose d → whole_names n (parts d) ≡ parts (whole_names n d)
whole_parts n no_more h = refl
whole_parts n (new_leaf t d) h =
    let x : Bool = is_dollar_brace t.kind in
    whole_part n x (begins_dollar_brace d) t (parts d) h.0 (loose_parts d h.1)
    ∙ ap (part_by x t (begins_dollar_brace d)) (whole_parts n d h.1)
    ∙ ap (λ (y : Bool). part_by x t y (parts (whole_names n d))) (sym (whole_begins n d h.1))
    ∙ sym (ap parts (front_loose n t (whole_names n d) h.0))
whole_parts n (new_node k c d) h = ap (new_node k (whole_names n c)) (whole_parts n d h)

-- ---- a cast `(unset)`, and parentheses

opening_is : (d e : Draft) → first_lead d ≡ first_lead e → before (pieces (without_lead d)) ≡ before (pieces (without_lead e)) → opening d ≡ opening e
opening_is d e p q =
    ap (λ (l : List Piece). record { kind = token.Op; lead = l; text = changed (before (pieces (without_lead d))) (codes "(") ∷ [] }) p
    ∙ ap (λ (bs : List ℕ). record { kind = token.Op; lead = first_lead e; text = changed bs (codes "(") ∷ [] }) q

abbrev null_of : NewToken → NewTree
null_of o = (
  kind.Paren,
  new_leaf o
      (new_node kind.Constant (new_leaf (put_also token.Label (codes "null")) no_more)
      (new_leaf (put_also token.Op (codes ")")) no_more)),
)

pub null_is : (k j : NodeKind) (d e : Draft) → first_lead d ≡ first_lead e → before (pieces (without_lead d)) ≡ before (pieces (without_lead e))
    → unset_cast (k, d) ≡ unset_cast (j, e)
null_is k j d e p q = ap null_of (opening_is d e p q)

abbrev pub whole_tree : Bool → NewTree → NewTree
whole_tree n t = (t.0, whole_names n t.1)

whole_null : (n : Bool) (t : NewTree) → whole_tree n (unset_cast t) ≡ unset_cast (whole_tree n t)
whole_null n t =
    ap null_of (opening_is t.1 (whole_names n t.1) (sym (whole_lead n t.1))
    (sym (ap (λ (d : Draft). before (pieces d)) (sym (whole_bare n t.1)) ∙ whole_keeps n (without_lead t.1))))

whole_parens : (n : Bool) (t : NewTree) → whole_tree n (in_parens t) ≡ in_parens (whole_tree n t)
whole_parens n t =
    ap (λ (d : Draft). (kind.Paren, new_leaf (put_in (first_lead t.1) (codes "(")) (new_node t.0 d (new_leaf (put_in [] (codes ")")) no_more))))
    (whole_bare n t.1)
    ∙ ap (λ (l : List Piece). (kind.Paren, new_leaf (put_in l (codes "(")) (new_node t.0 (without_lead (whole_names n t.1)) (new_leaf (put_in [] (codes ")")) no_more))))
    (sym (whole_lead n t.1))

pub whole_wrappings : (n : Bool) (ws : List Wrapping) (t : NewTree) → whole_tree n (in_wrappings ws t) ≡ in_wrappings ws (whole_tree n t)
whole_wrappings n [] t = refl
whole_wrappings n (InParens ∷ ws) t = whole_parens n (in_wrappings ws t) ∙ ap in_parens (whole_wrappings n ws t)

-- ---- a node

tree_if : (n x : Bool) (a b c d : NewTree) → (x ≡ true → whole_tree n a ≡ c) → whole_tree n b ≡ d → whole_tree n (if x then a else b) ≡ (if x then c else d)
tree_if n true a b c d p q = p refl
tree_if n false a b c d p q = q

-- the tokens of a node itself hold no name, where a rule may write them anew
pub record Aside (s : Tree) (d : Draft) : Type 0 where
  pub brace : is_brace_offset s.0 ≡ true → Loose d
  pub real : is_real_cast s ≡ true → Loose d
  pub quoted : is_quoted s.0 ≡ true → Loose d

pub whole_changed : (n : Bool) (r : Rules) (s : Tree) (k : NodeKind) (d : Draft) → Aside s d
    → whole_tree n (node_by r s (k, d)) ≡ node_by r s (k, whole_names n d)
whole_changed n r s k d h =
    let t : NewTree = (k, d) in
    let u : NewTree = (k, whole_names n d) in
    tree_if n (r.brace_offsets && is_brace_offset s.0) (brace_offset t) _ (brace_offset u) _
    (λ e. ap (λ (x : Draft). (kind.Offset, x)) (whole_bracketed n d (h.brace (and_second r.brace_offsets (is_brace_offset s.0) e))))
    (tree_if n (r.real_casts && is_real_cast s) (real_cast t) _ (real_cast u) _
    (λ e. ap (λ (x : Draft). (k, x)) (whole_float n d (h.real (and_second r.real_casts (is_real_cast s) e))))
    (tree_if n (r.unset_casts && is_edited s) (unset_cast t) _ (unset_cast u) _ (λ e. whole_null n t)
    (tree_if n (r.dollar_braces && is_quoted s.0) (dollar_brace t) t (dollar_brace u) u
    (λ e. ap (λ (x : Draft). (k, x)) (whole_parts n d (h.quoted (and_second r.dollar_braces (is_quoted s.0) e)))) refl)))
