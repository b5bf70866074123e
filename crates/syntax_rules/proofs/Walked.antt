-- What the walk by all rules makes of a tree, before names are joined, is the tree rewritten.
use Rattle.std.proofs.Common.{
  ◌≡◌,
  ℕ,
  zero,
  suc,
  ◌+◌,
  ◌<◌,
  Bool,
  true,
  false,
  ◌&&◌,
  ◌||◌,
  ◌==◌,
  if◌then◌else◌,
  cond,
  IsTrue,
  List,
  [],
  ◌∷◌,
  ◌++◌,
  length,
  codes,
  Option,
  None,
  Some,
  refl,
  ap,
  sym,
  ◌∙◌,
  subst,
  arith,
  append-nil,
  slice_get,
  length-append,
  add-zero,
  zero-add,
}
use Rattle.std.specs.Prelude.{unwrap_or}
use Rattle.std.specs.Str.{bytes_eq}
use Rattle.std.proofs.lemmas.Slice.Eq.{bytes_eq-Decides}
use Rattle.php_tree.specs.declared.token.TokenKind.{TokenKind}
use Rattle.php_tree.specs.declared.token.TokenKind.TheVariants as token
use Rattle.php_tree.specs.declared.token.Token.{Token}
use Rattle.php_tree.specs.declared.kind.NodeKind.{NodeKind}
use Rattle.php_tree.specs.declared.kind.NodeKind.TheVariants as kind
use Rattle.php_tree.specs.Tree.{Forest, none, leaf, node, count}
use Rattle.tracked_changes.specs.patches.Patches.{Patches, Wrapping, InParens}
use Rattle.php_meaning.specs.runs.Kinds.{is_expression}
use Rattle.php_meaning.specs.Rules.{cast_word}
use Rattle.tracked_changes.specs.Pieces.{after, also, before, kept}
use Rattle.tracked_changes.specs.Draft.{NewToken, Draft, no_more, new_leaf, new_node, ◌then◌, rewritten, rewritten_token}
use Rattle.tracked_changes.specs.Leads.{holds_none, without_lead}
use Rattle.tracked_changes.specs.Walk.{NewTree, new_alone, drafted}
use Rattle.tracked_changes.specs.Parens.{in_wrappings}
use Rattle.syntax_rules.specs.declared.rules.Rules.{Rules}
use Rattle.syntax_rules.specs.BraceOffset.{brace_offset}
use Rattle.syntax_rules.specs.HashComment.{lead_by}
use Rattle.syntax_rules.specs.Casts.{bare}
use Rattle.syntax_rules.specs.RealCast.{real_cast}
use Rattle.syntax_rules.specs.UnsetCast.{of_variable, is_variable, unset_cast}
use Rattle.syntax_rules.specs.DollarBrace.{is_dollar_brace, is_piece, begins_dollar_brace, ends_bare, before_last, escaped, opened, parts, dollar_brace}
use Rattle.syntax_rules.specs.Together.{Choice, rewriting, node_by, token_by}
use Rattle.syntax_rules.specs.Keeps.{
  token_of,
  opens_text,
  is_common,
  AreFormed,
  nothing,
  token_first,
  common,
  braced,
  a_cast,
  text,
  IsQuoted,
  closing,
  piece,
  simple,
  code,
  name,
  offset,
  expression,
}
use Rattle.syntax_rules.proofs.ParenLemmas.{MayWrap}
use Rattle.syntax_rules.proofs.Rewrites as became
use Rattle.syntax_rules.proofs.Rewrites.{
  IsToken,
  begins,
  Rewrites,
  ends,
  same_token,
  inner,
  changed,
  parens,
  Changed,
  brackets,
  float,
  null,
  curled,
  Curled,
  SameTokens,
  no_token,
  one_token,
  one_node,
  stays,
  before_others,
}

-- ---- tokens

abbrev pub chosen : Rules → Patches → Choice
chosen r p = record { wraps = p; rules = r }

token_walked : (r : Rules) (t : Token) → IsToken t.kind t.text (rewritten_token (token_by r t))
token_walked r t = record { kind_is = refl; text_is = append-nil t.text }

-- ---- parentheses

all_same : (f : Forest) → SameTokens f f
all_same none = no_token
all_same (leaf t f) = one_token (record { kind_is = refl; text_is = refl }) (all_same f)
all_same (node k c f) = one_node (all_same c) (all_same f)

lead_same : (d : Draft) → SameTokens (rewritten d) (rewritten (without_lead d))
lead_same no_more = no_token
lead_same (new_leaf t d) = one_token (record { kind_is = refl; text_is = refl }) (all_same (rewritten d))
lead_same (new_node k c d) =
    elim (holds_none c) as (λ b. SameTokens (node k (rewritten c) (rewritten d)) (rewritten (cond b (new_node k c (without_lead d)) (new_node k (without_lead c) d))))
    [ true ↦ one_node (all_same (rewritten c)) (lead_same d) | false ↦ one_node (lead_same c) (all_same (rewritten d)) ]

abbrev pub Wraps : Patches → ℕ → Forest → Type 0
Wraps p id none = Unit {0}
Wraps p id (leaf t f) = Wraps p id f
Wraps p id (node k c f) = MayWrap (p id) k × Wraps p (suc id) c × Wraps p (suc (id + count c)) f

-- what a node became
abbrev Becomes : NodeKind → Forest → NewTree → Type 0
Becomes k c t = Rewrites (node k c none) (node t.0 (rewritten t.1) none)

in_wraps : (ws : List Wrapping) (k : NodeKind) (c : Forest) (t : NewTree) → MayWrap ws k → Becomes k c t → Becomes k c (in_wrappings ws t)
in_wraps [] k c t e p = p
in_wraps (InParens ∷ ws) k c t e p =
    parens e (stays (in_wraps ws k c t (inside ws e) p) (one_node (lead_same (in_wrappings ws t).1) no_token)) ends
  where
    inside : (ws : List Wrapping) → IsTrue (is_expression k) → MayWrap ws k
    inside [] h = tt
    inside (w ∷ ws) h = h

-- ---- nodes

and_false : (b : Bool) → (b && false) ≡ false
and_false true = refl
and_false false = refl

-- a node that no rule changes, whatever is on
untouched_if : (a b c d : Bool) (w x y z t : NewTree)
    → (if a && false then w else (if b && false then x else (if c && false then y else (if d && false then z else t)))) ≡ t
untouched_if a b c d w x y z t = rw (and_false a, and_false b, and_false c, and_false d) refl

pub common_stays : (r : Rules) (k : NodeKind) (c : Forest) (t : NewTree) → IsTrue (is_common k) → node_by r (k, c) t ≡ t
common_stays r kind.BraceOffset c t h = cc
common_stays r kind.Cast c t h = cc
common_stays r kind.Quoted c t h = cc
common_stays r k c t h = untouched_if r.brace_offsets r.real_casts r.unset_casts r.dollar_braces _ _ _ _ t

-- a cast of a plain variable
record IsPlainCast (k : NodeKind) (c : Forest) : Type 0 where
  variable : Token
  kind_is : k ≡ kind.Variable
  parts_are : c ≡ leaf variable none

variable_kind : (k : NodeKind) (j : TokenKind) → is_variable k j ≡ true → k ≡ kind.Variable
variable_kind kind.Variable j h = refl
variable_kind k j h = cc

plain_cast : (t : Token) (k : NodeKind) (c : Forest) → of_variable (leaf t (node k c none)) ≡ true → IsPlainCast k c
plain_cast t k none h = cc
plain_cast t k (leaf x none) h = record { variable = x; kind_is = variable_kind k x.kind h; parts_are = refl }
plain_cast t k (leaf x (leaf y f)) h = cc
plain_cast t k (leaf x (node j d f)) h = cc
plain_cast t k (node j d f) h = cc

null_becomes : (x : Token) (k : NodeKind) (c : Forest) (d : Draft) → IsPlainCast k c
    → cast_word x.text ≡ codes "(unset)" → Becomes kind.Cast (leaf x (node k c none)) (unset_cast (kind.Cast, d))
null_becomes x k c d q e =
    subst (λ j. Becomes kind.Cast (leaf x (node j c none)) (unset_cast (kind.Cast, d))) (sym q.kind_is)
    (subst (λ b. Becomes kind.Cast (leaf x (node kind.Variable b none)) (unset_cast (kind.Cast, d))) (sym q.parts_are)
    (changed (null e refl) ends))

-- a cast, by which rules are on, what it is spelled and its operand
abbrev pub cast_by : Bool → Bool → NewTree → NewTree
cast_by real nulled t = if real then real_cast t else (if nulled then unset_cast t else t)

cast_becomes : (r : Rules) (x : Token) (k : NodeKind) (c : Forest) (y : NewTree) (real nulled : Bool)
    → (real ≡ true → cast_word x.text ≡ codes "(real)")
    → (nulled ≡ true → (cast_word x.text ≡ codes "(unset)") × IsPlainCast k c)
    → Becomes k c y
    → Becomes kind.Cast (leaf x (node k c none)) (cast_by real nulled (kind.Cast, new_leaf (token_by r x) (new_node y.0 y.1 no_more)))
cast_becomes r x k c y true nulled a b p = changed (float (a refl) refl p) ends
cast_becomes r x k c y false true a b p = null_becomes x k c (new_leaf (token_by r x) (new_node y.0 y.1 no_more)) (b refl).1 (b refl).0
cast_becomes r x k c y false false a b p = inner (same_token (token_walked r x) p) ends

-- what the rules make of a cast
pub cast_is : (r : Rules) (real nulled : Bool) (w z t : NewTree)
    → (if r.brace_offsets && false then w else (if real then real_cast t else (if nulled then unset_cast t else (if r.dollar_braces && false then z else t))))
    ≡ cast_by real nulled t
cast_is r real nulled w z t = rw (and_false r.brace_offsets, and_false r.dollar_braces) refl

and_both : (a b c : Bool) → (a && (b && c)) ≡ true → (b ≡ true) × (c ≡ true)
and_both true true c h = (refl, h)
and_both true false c h = cc
and_both false b c h = cc

and_later : (a b : Bool) → (a && b) ≡ true → b ≡ true
and_later true b h = h
and_later false b h = cc

-- ---- offsets in braces

pub braced_is : (r : Rules) (w x y z t : NewTree)
    → (if r.brace_offsets && true then w else (if r.real_casts && false then x else (if r.unset_casts && false then y else (if r.dollar_braces && false then z else t))))
    ≡ (if r.brace_offsets then w else t)
braced_is r w x y z t = rw (and_false r.real_casts, and_false r.unset_casts, and_false r.dollar_braces) (first r.brace_offsets w t)
  where
    first : (b : Bool) (w t : NewTree) → (if b && true then w else t) ≡ (if b then w else t)
    first true w t = refl
    first false w t = refl

-- ---- quoted texts

begins_same : (r : Rules) (p : Patches) (id : ℕ) (f : Forest) → begins_dollar_brace (drafted (rewriting (chosen r p)) id f) ≡ begins f
begins_same r p id none = refl
begins_same r p id (leaf t f) = refl
begins_same r p id (node k c f) = refl

-- a piece, before `${` or not
piece_becomes : (r : Rules) (lead word : List ℕ) (start : ℕ) (f : Forest) (d : Draft) (b : Bool) → b ≡ begins f → Curled f (rewritten d)
    → Curled (leaf (token_of token.Piece lead word start) f)
    (rewritten (new_leaf (if b then escaped (token_by r (token_of token.Piece lead word start)) else token_by r (token_of token.Piece lead word start)) d))
piece_becomes r lead word start f d false e p = became.piece (token_walked r (token_of token.Piece lead word start)) p
piece_becomes r lead word start f d true e p = by_end (ends_bare false (word ++ [])) refl
  where
    by_end : (b : Bool) → ends_bare false (word ++ []) ≡ b
        → Curled (leaf (token_of token.Piece lead word start) f)
        (rewritten (new_leaf (if b then record (token_by r (token_of token.Piece lead word start))
        { text = before_last (word ++ []) } else token_by r (token_of token.Piece lead word start)) d))
    by_end true h =
        became.escaped {new = after (before_last (word ++ []))} (ap (ends_bare false) (sym (append-nil word)) ∙ h) (sym e) (record { kind_is = refl; text_is = refl }) p
    by_end false h = became.piece (token_walked r (token_of token.Piece lead word start)) p

pub opening_kind : (k : TokenKind) → IsTrue (opens_text k) → (is_dollar_brace k ≡ false) × (is_piece k ≡ false)
opening_kind token.Quote h = (refl, refl)
opening_kind token.HeredocStart h = (refl, refl)
opening_kind token.Backtick h = (refl, refl)
opening_kind k h = cc

text_becomes : (r : Rules) (x : Token) (c : Forest) (d : Draft) → IsTrue (opens_text x.kind) → Curled c (rewritten (parts d))
    → Becomes kind.Quoted (leaf x c) (dollar_brace (kind.Quoted, new_leaf (token_by r x) d))
text_becomes r x c d h p =
    subst (λ b. Becomes kind.Quoted (leaf x c) (
      kind.Quoted,
      if b then opened (token_by r x) (parts d) else new_leaf
          (if is_piece x.kind && begins_dollar_brace d then escaped (token_by r x) else token_by r x) (parts d),
    ))
    (sym (opening_kind x.kind h).0)
    (subst (λ b. Becomes kind.Quoted (leaf x c) (kind.Quoted, new_leaf (if b && begins_dollar_brace d then escaped (token_by r x) else token_by r x) (parts d)))
    (sym (opening_kind x.kind h).1)
    (changed (curled refl p) ends))

pub quoted_is : (r : Rules) (w x y z t : NewTree)
    → (if r.brace_offsets && false then w else (if r.real_casts && false then x else (if r.unset_casts && false then y else (if r.dollar_braces && true then z else t))))
    ≡ (if r.dollar_braces then z else t)
quoted_is r w x y z t = rw (and_false r.brace_offsets, and_false r.real_casts, and_false r.unset_casts) (last r.dollar_braces z t)
  where
    last : (b : Bool) (z t : NewTree) → (if b && true then z else t) ≡ (if b then z else t)
    last true z t = refl
    last false z t = refl

either : (k : NodeKind) (c : Forest) (b : Bool) (x y : NewTree) → Becomes k c x → Becomes k c y → Becomes k c (if b then x else y)
either k c true x y p q = p
either k c false x y p q = q

-- ---- the walk

-- the name behind `${` as a variable
dollar_text : (b : Bool) (word : List ℕ) → after (also (codes "$") ∷ (lead_by b [] ++ kept word ∷ [])) ≡ 36 ∷ word
dollar_text true word = ap (λ x. 36 ∷ x) (append-nil word)
dollar_text false word = ap (λ x. 36 ∷ x) (append-nil word)

mutual
  pub walked : (r : Rules) (p : Patches) (id : ℕ) {f : Forest} → AreFormed f → Wraps p id f → Rewrites f (rewritten (drafted (rewriting (chosen r p)) id f))
  walked r p id nothing w = ends
  walked r p id (token_first {t} {f} a) w = same_token (token_walked r t) (walked r p id a w)
  walked r p id (common {k} {c} {f} h a b) w =
      let inside : NewTree = (k, drafted (rewriting (chosen r p)) (suc id) c) in
      before_others
      (in_wraps (p id) k c (node_by r (k, c) inside) w.0
      (subst (λ t. Becomes k c t) (sym (common_stays r k c inside h)) (inner (walked r p (suc id) a w.1) ends)))
      (walked r p (suc (id + count c)) b w.2)
  walked r p id (braced {k} {j} {c} {d} {f} {o} {p = q} a b e) w =
      let here : Forest = node k c (leaf o (node j d (leaf q none))) in
      let inside : NewTree = (kind.BraceOffset, drafted (rewriting (chosen r p)) (suc id) here) in
      let base = walked r p (suc id) a (w.1.0, w.1.1, tt) in
      let offset = walked r p (suc (suc id + count c)) b (w.1.2.0, w.1.2.1, tt) in
      before_others
      (in_wraps (p id) kind.BraceOffset here (node_by r (kind.BraceOffset, here) inside) w.0
      (subst (λ t. Becomes kind.BraceOffset here t) (sym (braced_is r (brace_offset inside) _ _ _ inside))
      (either kind.BraceOffset here r.brace_offsets (brace_offset inside) inside
      (changed (brackets base offset) ends)
      (inner (before_others base (same_token (token_walked r o) (before_others offset (same_token (token_walked r q) ends)))) ends))))
      (walked r p (suc (id + count here)) e w.2)
  walked r p id (a_cast {t = x} {k} {c} {f} a b) w =
      let y : NewTree = in_wrappings (p (suc id)) (node_by r (k, c) (k, drafted (rewriting (chosen r p)) (suc (suc id)) c)) in
      let here : Forest = leaf x (node k c none) in
      let inside : NewTree = (kind.Cast, new_leaf (token_by r x) (new_node y.0 y.1 no_more)) in
      let is_real : Bool = bytes_eq (bare x.text) (codes "(real)") in
      let is_unset : Bool = bytes_eq (bare x.text) (codes "(unset)") in
      let is_plain : Bool = of_variable here in
      before_others
      (in_wraps (p id) kind.Cast here (node_by r (kind.Cast, here) inside) w.0
      (subst (λ t. Becomes kind.Cast here t) (sym (cast_is r (r.real_casts && is_real) (r.unset_casts && (is_unset && is_plain)) _ _ inside))
      (cast_becomes r x k c y (r.real_casts && is_real) (r.unset_casts && (is_unset && is_plain))
      (λ h. (bytes_eq-Decides (bare x.text) (codes "(real)")).0 (and_later r.real_casts is_real h))
      (λ h. let both = and_both r.unset_casts is_unset is_plain h in
      ((bytes_eq-Decides (bare x.text) (codes "(unset)")).0 both.0, plain_cast x k c both.1))
      (walked r p (suc id) a (w.1.0, w.1.1, tt)))))
      (walked r p (suc (id + count here)) b w.2)
  walked r p id (text {t = x} {c} {f} h q b) w =
      let here : Forest = leaf x c in
      let d : Draft = drafted (rewriting (chosen r p)) (suc id) c in
      let inside : NewTree = (kind.Quoted, new_leaf (token_by r x) d) in
      before_others
      (in_wraps (p id) kind.Quoted here (node_by r (kind.Quoted, here) inside) w.0
      (subst (λ t. Becomes kind.Quoted here t) (sym (quoted_is r _ _ _ (dollar_brace inside) inside))
      (either kind.Quoted here r.dollar_braces (dollar_brace inside) inside
      (text_becomes r x c d h (curled_walked r p (suc id) q w.1))
      (inner (same_token (token_walked r x) (quoted_walked r p (suc id) q w.1)) ends))))
      (walked r p (suc (id + count here)) b w.2)

  -- a quoted text where `${` stays
  quoted_walked : (r : Rules) (p : Patches) (id : ℕ) {f : Forest} → IsQuoted f → Wraps p id f → Rewrites f (rewritten (drafted (rewriting (chosen r p)) id f))
  quoted_walked r p id (closing {lead} {text = word} {start}) w = same_token (token_walked r (token_of token.QuotedEnd lead word start)) ends
  quoted_walked r p id (piece {lead} {text = word} {start} {f} q) w =
      same_token (token_walked r (token_of token.Piece lead word start)) (quoted_walked r p id q w)
  quoted_walked r p id (simple {k} {c} {f} a q) w =
      before_others (walked r p id a (w.0, w.1, tt)) (quoted_walked r p (suc (id + count c)) q w.2)
  quoted_walked r p id (code {lead} {text = word} {shut_lead} {start} {shut_start} {k} {c} {f} a q) w =
      same_token (token_walked r (token_of token.CurlyOpen lead word start))
      (before_others (walked r p id a (w.0, w.1, tt))
      (same_token (token_walked r (token_of token.Op shut_lead (codes "}") shut_start)) (quoted_walked r p (suc (id + count c)) q w.2)))
  quoted_walked r p id (name {lead} {text} {word} {shut_lead} {start} {word_start} {shut_start} q) w =
      same_token (token_walked r (token_of token.DollarBrace lead text start))
      (same_token (token_walked r (token_of token.VarName [] word word_start))
      (same_token (token_walked r (token_of token.Op shut_lead (codes "}") shut_start)) (quoted_walked r p id q w)))
  quoted_walked r p id (offset {lead} {text} {word} {open_lead} {shut_lead} {end_lead} {start} {word_start} {open_start} {shut_start} {end_start} {k} {c} e a q) w =
      same_token (token_walked r (token_of token.DollarBrace lead text start))
      (same_token (token_walked r (token_of token.VarName [] word word_start))
      (same_token (token_walked r (token_of token.Op open_lead (codes "[") open_start))
      (before_others (walked r p id a (w.0, w.1, tt))
      (same_token (token_walked r (token_of token.Op shut_lead (codes "]") shut_start))
      (same_token (token_walked r (token_of token.Op end_lead (codes "}") end_start)) (quoted_walked r p (suc (id + count c)) q w.2))))))
  quoted_walked r p id (expression {lead} {text} {shut_lead} {start} {shut_start} {k} {c} e a q) w =
      same_token (token_walked r (token_of token.DollarBrace lead text start))
      (before_others (walked r p id a (w.0, w.1, tt))
      (same_token (token_walked r (token_of token.Op shut_lead (codes "}") shut_start)) (quoted_walked r p (suc (id + count c)) q w.2)))

  curled_walked : (r : Rules) (p : Patches) (id : ℕ) {f : Forest} → IsQuoted f → Wraps p id f → Curled f (rewritten (parts (drafted (rewriting (chosen r p)) id f)))
  curled_walked r p id (closing {lead} {text = word} {start}) w = became.closing (token_walked r (token_of token.QuotedEnd lead word start))
  curled_walked r p id (piece {lead} {text = word} {start} {f} q) w =
      piece_becomes r lead word start f (parts (drafted (rewriting (chosen r p)) id f))
      (begins_dollar_brace (drafted (rewriting (chosen r p)) id f)) (begins_same r p id f)
      (curled_walked r p id q w)
  curled_walked r p id (simple {k} {c} {f} a q) w =
      became.simple (walked r p id a (w.0, w.1, tt)) (curled_walked r p (suc (id + count c)) q w.2)
  curled_walked r p id (code {lead} {text = word} {shut_lead} {start} {shut_start} {k} {c} {f} a q) w =
      became.code (token_walked r (token_of token.CurlyOpen lead word start)) (record { kind_is = refl; text_is = refl })
      (walked r p id a (w.0, w.1, tt)) (curled_walked r p (suc (id + count c)) q w.2)
  curled_walked r p id (name {word = word} q) w =
      became.name refl (dollar_text r.hash_comments word) (record { kind_is = refl; text_is = refl }) (curled_walked r p id q w)
  curled_walked r p id (offset {word = word} {k = k} {c = c} e a q) w =
      became.offset refl (dollar_text r.hash_comments word) (record { kind_is = refl; text_is = refl }) e
      (walked r p id a (w.0, w.1, tt)) (curled_walked r p (suc (id + count c)) q w.2)
  curled_walked r p id (expression {k = k} {c = c} e a q) w =
      became.expression refl (record { kind_is = refl; text_is = refl }) e (walked r p id a (w.0, w.1, tt)) (curled_walked r p (suc (id + count c)) q w.2)
