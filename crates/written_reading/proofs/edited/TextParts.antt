-- The draft of a quoted text, part by part.
use Rattle.std.proofs.Common.{◌≡◌, ℕ, Bool, true, false, ◌&&◌, List, [], ◌∷◌, ◌++◌, map, codes, Option, refl, ap, ◌∙◌, if◌then◌else◌}
use Rattle.std.specs.Str.{bytes_eq}
use Rattle.php_tree.specs.declared.token.Token.{Token}
use Rattle.php_tree.specs.declared.token.TokenKind.TheVariants as token
use Rattle.php_tree.specs.declared.kind.NodeKind.{NodeKind}
use Rattle.php_tree.specs.declared.kind.NodeKind.TheVariants as kind
use Rattle.php_tree.specs.Tree.{Forest, none, leaf, node, leaves}
use Rattle.tracked_changes.specs.Draft.{NewToken, Draft, new_leaf, new_node}
use Rattle.tracked_changes.specs.Tokens.{is_text, retexted, put_also}
use Rattle.syntax_rules.specs.Around.{Around, within}
use Rattle.syntax_rules.specs.DollarBrace.{is_dollar_brace, is_piece, begins_dollar_brace, escaped, parts, curly, dollar_name}
use Rattle.syntax_rules.specs.HashComment.{hash_comment}
use Rattle.syntax_rules.specs.InContext.{draft_in}
use Rattle.written_tokens.specs.tokens.Written.{draft_tokens}
use Rattle.written_tokens.specs.names.Fronts.{FrontOfRow}
use Rattle.rewritten_shapes.specs.paired.Paired.{
  IsKey,
  label,
  number,
  negative,
  variable,
  IsSimple,
  alone,
  with_offset,
  with_property,
  Interpolated,
  text_end,
  piece,
  simple,
  curly as curly_part,
  named,
  named_offset,
  expression,
}
use Rattle.rewritten_shapes.specs.paired.Tokens.{IsMark}
use Rattle.written_reading.proofs.edited.TileFacts.{leaves_html, html_behind, html_append}
use Rattle.written_reading.proofs.edited.Drafts.{is_free, part_draft}
use Rattle.written_reading.proofs.edited.FrontsKept.{free_draft}
use Rattle.written_reading.proofs.edited.TextWrittenAs.{TextWrittenAs, piece_by}
use Rattle.written_reading.proofs.edited.SimpleWrittenAs.{is_unit_token, is_key_token, alone_written_as, offset_written_as, minus_written_as, property_written_as}

-- ---- tokens

-- a token that is neither a piece nor `${`
pub kept_part : (t : NewToken) (d : Draft) → is_dollar_brace t.kind ≡ false → is_piece t.kind ≡ false → parts (new_leaf t d) ≡ new_leaf t (parts d)
kept_part t d p q = rw (p, q) refl

chosen : (b : Bool) (t : NewToken) → (if true && b then escaped t else t) ≡ piece_by b t
chosen true t = refl
chosen false t = refl

pub piece_part : (t : NewToken) (d : Draft) → t.kind ≡ token.Piece → draft_tokens (parts (new_leaf t d)) ≡ piece_by (begins_dollar_brace d) t ∷ draft_tokens (parts d)
piece_part t d is =
    let p : is_dollar_brace t.kind ≡ false = ap is_dollar_brace is in
    let q : is_piece t.kind ≡ true = ap is_piece is in
    rw (p, q) (ap (λ (x : NewToken). x ∷ draft_tokens (parts d)) (chosen (begins_dollar_brace d) t))

-- ---- `${`

mark_part : (u : Token) (x : ℕ) (d : Draft) → IsMark x u → parts (new_leaf (hash_comment u) d) ≡ new_leaf (hash_comment u) (parts d)
mark_part u x d mark = kept_part (hash_comment u) d (ap is_dollar_brace mark.kind) (ap is_piece mark.kind)

text_of : (u : Token) (x : ℕ) → IsMark x u → is_text (codes "[") (hash_comment u) ≡ bytes_eq (x ∷ []) (codes "[")
text_of u x mark = ap (λ (l : List ℕ). bytes_eq (l ++ []) (codes "[")) mark.text

-- `${name}`
pub named_part : (t v u : Token) (d : Draft) → t.kind ≡ token.DollarBrace → v.kind ≡ token.VarName → IsMark 125 u
    → draft_tokens (parts (new_leaf (hash_comment t) (new_leaf (hash_comment v) (new_leaf (hash_comment u) d)))) ≡
    curly (hash_comment t) ∷ dollar_name (hash_comment v) ∷ hash_comment u ∷ draft_tokens (parts d)
named_part t v u d is name mark =
    let p : is_dollar_brace t.kind ≡ true = ap is_dollar_brace is in
    let q : is_dollar_brace v.kind ≡ false = ap is_dollar_brace name in
    let r : is_piece v.kind ≡ false = ap is_piece name in
    let s : is_dollar_brace u.kind ≡ false = ap is_dollar_brace mark.kind in
    let w : is_piece u.kind ≡ false = ap is_piece mark.kind in
    let x : bytes_eq (u.text ++ []) (codes "[") ≡ false = text_of u 125 mark in
    rw (p, q, r, s, w, x) refl

-- `${name[..]}`
pub offset_part : (t v o s u : Token) (k : NodeKind) (e d : Draft) → t.kind ≡ token.DollarBrace
    → v.kind ≡ token.VarName → IsMark 91 o → IsMark 93 s → IsMark 125 u
    → draft_tokens (parts (new_leaf (hash_comment t)
    (new_leaf (hash_comment v) (new_leaf (hash_comment o) (new_node k e
    (new_leaf (hash_comment s) (new_leaf (hash_comment u) d))))))) ≡ curly (hash_comment t)
    ∷ dollar_name (hash_comment v) ∷ ((hash_comment o ∷ (draft_tokens e ++ hash_comment s ∷ [])) ++ hash_comment u
    ∷ draft_tokens (parts d))
offset_part t v o s u k e d is name mo ms mu =
    let p : is_dollar_brace t.kind ≡ true = ap is_dollar_brace is in
    let q : is_dollar_brace v.kind ≡ false = ap is_dollar_brace name in
    let r : is_piece v.kind ≡ false = ap is_piece name in
    let p1 : is_dollar_brace o.kind ≡ false = ap is_dollar_brace mo.kind in
    let q1 : is_piece o.kind ≡ false = ap is_piece mo.kind in
    let p2 : is_dollar_brace s.kind ≡ false = ap is_dollar_brace ms.kind in
    let q2 : is_piece s.kind ≡ false = ap is_piece ms.kind in
    let p3 : is_dollar_brace u.kind ≡ false = ap is_dollar_brace mu.kind in
    let q3 : is_piece u.kind ≡ false = ap is_piece mu.kind in
    let x : bytes_eq (o.text ++ []) (codes "[") ≡ true = text_of o 91 mo in
    rw (p, q, r, p1, q1, p2, q2, p3, q3, x) refl

-- `${..}`
pub row_part : (t u : Token) (k : NodeKind) (e d : Draft) → t.kind ≡ token.DollarBrace → IsMark 125 u
    → draft_tokens (parts (new_leaf (hash_comment t) (new_node k e (new_leaf (hash_comment u) d)))) ≡ curly
    (hash_comment t) ∷ put_also token.Op (codes "$") ∷ put_also token.Op (codes "{")
    ∷ ((draft_tokens e ++ retexted token.Op (codes "}") (hash_comment u) ∷ []) ++ put_also token.Op (codes "}")
    ∷ draft_tokens (parts d))
row_part t u k e d is mu =
    let p : is_dollar_brace t.kind ≡ true = ap is_dollar_brace is in
    let q : is_dollar_brace u.kind ≡ false = ap is_dollar_brace mu.kind in
    let r : is_piece u.kind ≡ false = ap is_piece mu.kind in
    rw (p, q, r) refl

-- ---- simple variables

plain_variable : (around : Bool → Option Around) (i : Bool) (t : Token) → is_free (around i) ≡ true
    → draft_tokens (part_draft around i kind.Variable (leaf t none)) ≡ hash_comment t ∷ []
plain_variable around i t free = ap draft_tokens (free_draft around i kind.Variable (leaf t none) free)

abbrev all_spaced : List Token → List NewToken
all_spaced = map hash_comment

key_tokens : (around : Bool → Option Around) → is_free (around false) ≡ true → {f : Forest} → IsKey f → draft_tokens (draft_in around false f) ≡ all_spaced (leaves f)
key_tokens around free (label is mark) = refl
key_tokens around free (number is mark) = refl
key_tokens around free (negative minus is mark) = refl
key_tokens around free (variable {t} {u} is mark) = ap (λ (l : List NewToken). l ++ hash_comment u ∷ []) (plain_variable around false t free)

pub simple_tokens : (around : Bool → Option Around) (i : Bool) → is_free (around i) ≡ true
    → {j : NodeKind} {c : Forest} → IsSimple j c → draft_tokens (part_draft around i j c) ≡ all_spaced (leaves c)
simple_tokens around i free (alone {t} is) = plain_variable around i t free
simple_tokens around i free (with_offset {t} {o} {f} is mark key) =
    let c = node kind.Variable (leaf t none) (leaf o f) in
    ap draft_tokens (free_draft around i kind.Offset c free)
    ∙ ap (λ (l : List NewToken). l ++ hash_comment o ∷ draft_tokens (draft_in (within kind.Offset c) false f)) (plain_variable (within kind.Offset c) true t refl)
    ∙ ap (λ (l : List NewToken). hash_comment t ∷ hash_comment o ∷ l) (key_tokens (within kind.Offset c) refl key)
simple_tokens around i free (with_property {t} {o} {u} is op arrow word) =
    let c = node kind.Variable (leaf t none) (leaf o (leaf u none)) in
    ap draft_tokens (free_draft around i kind.Prop c free)
    ∙ ap (λ (l : List NewToken). l ++ hash_comment o ∷ hash_comment u ∷ []) (plain_variable (within kind.Prop c) true t refl)

simple_begins : {j : NodeKind} {c : Forest} → IsSimple j c → (s : Token) × (ss : List Token) × (leaves c ≡ s ∷ ss) × (is_unit_token s.kind ≡ true)
simple_begins (alone {t} is) = (t, [], refl, ap is_unit_token is)
simple_begins (with_offset {t} {o} {f} is mark key) = (t, o ∷ leaves f, refl, ap is_unit_token is)
simple_begins (with_property {t} {o} {u} is op arrow word) = (t, o ∷ u ∷ [], refl, ap is_unit_token is)

-- the first token of a quoted text behind its opening one
pub text_begins : {c : Forest} → Interpolated c → (s : Token) × (ss : List Token) × (leaves c ≡ s ∷ ss) × (is_unit_token s.kind ≡ true)
text_begins (text_end {t} is) = (t, [], refl, ap is_unit_token is)
text_begins (piece {t} {f} is more) = (t, leaves f, refl, ap is_unit_token is)
text_begins (simple {j} {c} {f} one more) =
    let (s, ss, same, unit) = simple_begins one in (s, ss ++ leaves f, ap (λ (l : List Token). l ++ leaves f) same, unit)
text_begins (curly_part {j} {t} {u} {c} {f} is inner mark more) = (t, leaves c ++ u ∷ leaves f, refl, ap is_unit_token is)
text_begins (named {t} {n} {u} {f} is name mark more) = (t, n ∷ u ∷ leaves f, refl, ap is_unit_token is)
text_begins (named_offset {j} {t} {n} {o} {s} {u} {c} {f} is name mo inner ms mu more) =
    (t, n ∷ o ∷ (leaves c ++ s ∷ u ∷ leaves f), refl, ap is_unit_token is)
text_begins (expression {j} {t} {u} {c} {f} is inner mark more) = (t, leaves c ++ u ∷ leaves f, refl, ap is_unit_token is)

-- a simple variable stays
pub simple_written_as : FrontOfRow → {j : NodeKind} {c : Forest} → IsSimple j c
    → (starts : Bool) (s : Token) (ss : List Token) (ts : List NewToken) → is_unit_token s.kind ≡ true
    → TextWrittenAs starts (s ∷ ss) ts → TextWrittenAs false (leaves c ++ s ∷ ss) (all_spaced (leaves c) ++ ts)
simple_written_as front (alone {t} is) starts s ss ts unit written_as = alone_written_as front starts t s ss ts is unit written_as
simple_written_as front (with_offset {t} {o} is mark (label {t = k} {u} word shut)) starts s ss ts unit written_as =
    offset_written_as front starts t o k u (s ∷ ss) ts is mark (ap is_key_token word) shut written_as
simple_written_as front (with_offset {t} {o} is mark (number {t = k} {u} int shut)) starts s ss ts unit written_as =
    offset_written_as front starts t o k u (s ∷ ss) ts is mark (ap is_key_token int) shut written_as
simple_written_as front (with_offset {t} {o} is mark (negative {s = m} {t = k} {u} minus int shut)) starts s ss ts unit written_as =
    minus_written_as front starts t o m k u (s ∷ ss) ts is mark minus (ap is_key_token int) shut written_as
simple_written_as front (with_offset {t} {o} is mark (variable {t = k} {u} var shut)) starts s ss ts unit written_as =
    offset_written_as front starts t o k u (s ∷ ss) ts is mark (ap is_key_token var) shut written_as
simple_written_as front (with_property {t} {o} {u} is op arrow word) starts s ss ts unit written_as =
    property_written_as front starts t o u (s ∷ ss) ts is op arrow word written_as

-- ---- code behind a quoted text

pub text_coded : {c : Forest} → Interpolated c → (h : Bool) → html_behind h (leaves c) ≡ false
text_coded (text_end {t} is) h = ap leaves_html is
text_coded (piece {t} {f} is more) h = text_coded more (leaves_html t.kind)
text_coded (simple {j} {c} {f} one more) h = html_append h (leaves c) (leaves f) ∙ text_coded more (html_behind h (leaves c))
text_coded (curly_part {j} {t} {u} {c} {f} is inner mark more) h =
    html_append (leaves_html t.kind) (leaves c) (u ∷ leaves f) ∙ text_coded more (leaves_html u.kind)
text_coded (named {t} {n} {u} {f} is name mark more) h = text_coded more (leaves_html u.kind)
text_coded (named_offset {j} {t} {n} {o} {s} {u} {c} {f} is name mo inner ms mu more) h =
    html_append (leaves_html o.kind) (leaves c) (s ∷ u ∷ leaves f) ∙ text_coded more (leaves_html u.kind)
text_coded (expression {j} {t} {u} {c} {f} is inner mark more) h =
    html_append (leaves_html t.kind) (leaves c) (u ∷ leaves f) ∙ text_coded more (leaves_html u.kind)
