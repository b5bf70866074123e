-- Each tree's tiles become those of its draft: by induction over parts whose brackets stand in pairs.
use Rattle.std.proofs.Common.{◌≡◌, ℕ, Bool, true, false, not, ◌&&◌, ◌||◌, List, [], ◌∷◌, ◌++◌, map, codes, Option, refl, sym, ap, ◌∙◌, subst, append_assoc, append-nil}
use Rattle.std.proofs.lemmas.Bool.{and_parts}
use Rattle.php_tree.specs.declared.token.Token.{Token}
use Rattle.php_tree.specs.declared.token.TokenKind.{TokenKind}
use Rattle.php_tree.specs.declared.token.TokenKind.TheVariants as token_kind
use Rattle.php_tree.specs.declared.kind.NodeKind.{NodeKind}
use Rattle.php_tree.specs.declared.kind.NodeKind.TheVariants as kind
use Rattle.php_tree.specs.Tree.{Forest, none, leaf, node, leaves, ◌+++◌}
use Rattle.tracked_changes.specs.Draft.{NewToken, Draft, no_more, new_leaf}
use Rattle.tracked_changes.specs.Tokens.{retexted, put_also}
use Rattle.tracked_changes.specs.Walk.{NewTree}
use Rattle.syntax_rules.specs.Around.{Around, within}
use Rattle.syntax_rules.specs.DollarBrace.{is_dollar_brace, is_piece, begins_dollar_brace, parts}
use Rattle.syntax_rules.specs.DollarBrace as braced
use Rattle.syntax_rules.specs.HashComment.{hash_comment}
use Rattle.syntax_rules.specs.InContext.{changed_node, draft_in}
use Rattle.written_tokens.specs.tokens.Written.{draft_tokens}
use Rattle.rewritten_shapes.specs.paired.Paired.{
  is_common,
  IsStanding,
  IsSimple,
  Paired,
  no_part,
  token,
  rounds,
  braces,
  part,
  brace_offset,
  cast,
  text,
  Interpolated,
  text_end,
  piece,
  simple,
  curly,
  named,
  named_offset,
  expression,
}
use Rattle.rewritten_shapes.specs.paired.Tokens.{is_op, is_mark, is_code_kind, is_code_token, opens_text, has_stop, IsMark}
use Rattle.written_reading.proofs.edited.PlainTexts.{begins_plainly, is_curly, has_plain_code, PlainTexts}
use Rattle.written_reading.proofs.edited.TileFacts.{leaves_html, html_behind}
use Rattle.written_reading.proofs.edited.WrittenAs.{WrittenAs, written_as_join}
use Rattle.written_reading.proofs.edited.TileKinds.{is_marked}
use Rattle.written_reading.proofs.edited.TokenWrittenAs.{token_written_as}
use Rattle.written_reading.proofs.edited.Drafts.{is_free, common_node, part_draft, opening_part}
use Rattle.written_reading.proofs.edited.NodeWrittenAs.{standing_written_as, plain_written_as}
use Rattle.written_reading.proofs.edited.FrontsKept.{new_front, old_front, Dollar, are_some, plain_some, front_kept}
use Rattle.written_reading.proofs.edited.QuotedTiles.{is_name_kind}
use Rattle.written_reading.proofs.edited.TextWrittenAs.{TextWrittenAs, piece_by, end_written_as, piece_written_as}
use Rattle.written_reading.proofs.edited.CurlyWrittenAs.{curly_written_as, named_written_as, begins_other, row_written_as}
use Rattle.written_reading.proofs.edited.QuotedWrittenAs.{quoted_written_as}
use Rattle.written_reading.proofs.edited.TextParts.{kept_part, piece_part, named_part, offset_part, row_part, simple_tokens, text_begins, simple_written_as, text_coded}
use Rattle.written_reading.proofs.edited.TreeWrittenAs.{Laws, plain_behind, node_joins, token_joins, node_alone, group_joins, round_parts, brace_parts, offset_written_as, cast_written_as}

-- ---- the first token

code_other : (k : TokenKind) → is_code_kind k ≡ true → not (is_name_kind k) ≡ true
code_other token_kind.VarName h = absurd cc
code_other k h = refl

opens_other : (k : TokenKind) → opens_text k ≡ true → not (is_name_kind k) ≡ true
opens_other token_kind.VarName h = absurd cc
opens_other k h = refl

other_append : (ss us : List Token) → begins_other ss ≡ true → begins_other us ≡ true → begins_other (ss ++ us) ≡ true
other_append [] us p q = q
other_append (s ∷ ss) us p q = p

first_other : (k x : TokenKind) → k ≡ x → not (is_name_kind x) ≡ true → not (is_name_kind k) ≡ true
first_other k x e h = ap (λ (y : TokenKind). not (is_name_kind y)) e ∙ h

-- no name behind `${` is first
paired_other : {f : Forest} → Paired f → begins_other (leaves f) ≡ true
paired_other no_part = refl
paired_other (token {t} {f} code more) = code_other t.kind (and_parts (is_code_kind t.kind) (not (is_mark 40 t || (is_mark 41 t || (is_mark 123 t || is_mark 125 t)))) code).0
paired_other (rounds {t} {u} {f} {g} {h} mt pg mu ph e) = first_other t.kind token_kind.Op mt.kind refl
paired_other (braces {t} {u} {f} {g} {h} mt pg mu ph e) = first_other t.kind token_kind.Op mt.kind refl
paired_other (part {j} {c} {f} common standing pc pf) = other_append (leaves c) (leaves f) (paired_other pc) (paired_other pf)
paired_other (brace_offset {i = m} {j} {t} {u} {b} {c} {f} pb mt pc mu pf) =
    other_append (leaves (node m b (leaf t (node j c (leaf u none))))) (leaves f)
    (other_append (leaves b) (t ∷ (leaves c ++ u ∷ []))
    (subst (λ (l : List Token). begins_other l ≡ true) (append-nil (leaves b)) (paired_other pb))
    (first_other t.kind token_kind.Op mt.kind refl))
    (paired_other pf)
paired_other (cast {j} {t} {b} {f} is pb pf) = first_other t.kind token_kind.Cast is refl
paired_other (text {t} {c} {f} opens inner pf) = opens_other t.kind opens

-- ---- quoted texts

text_as : (ss : List Token) (x y : Bool) (ts us : List NewToken) → x ≡ y → ts ≡ us → TextWrittenAs x ss ts → TextWrittenAs y ss us
text_as ss x y ts us p q h = subst (λ (z : Bool). TextWrittenAs z ss us) p (subst (λ (l : List NewToken). TextWrittenAs x ss l) q h)

abbrev pub GoodText : Forest → Type 0
GoodText c =
    (around : Bool → Option Around) →
    is_free (around false) ≡ true →
    has_plain_code c ≡ true →
    PlainTexts c →
    TextWrittenAs (begins_dollar_brace (draft_in around false c)) (leaves c) (draft_tokens (parts (draft_in around false c)))

-- ---- parts

abbrev pub Good : Forest → Type 0
Good f =
    (around : Bool → Option Around) (i h : Bool) →
    PlainTexts f →
    WrittenAs h (has_stop f) (leaves f) (draft_tokens (draft_in around i f))

module _ (laws : Laws) where
  -- a node of the code in a quoted text, alone
  inner_node : (around : Bool → Option Around) (k : NodeKind) (c : Forest) → Good (node k c none)
      → PlainTexts (node k c none) → WrittenAs false false (leaves c) (draft_tokens (part_draft around false k c))
  inner_node around k c good plain = node_alone laws around false false k c (good around false false plain)

  text_node : (around : Bool → Option Around) (i h : Bool) (t : Token) (c : Forest) → opens_text t.kind ≡ true
      → Interpolated c → GoodText c → has_plain_code (leaf t c) ≡ true → PlainTexts c
      → WrittenAs h false (leaves (leaf t c)) (draft_tokens (part_draft around i kind.Quoted (leaf t c)))
  text_node around i h t c opens inner good code plain =
      let all = leaf t c in
      let low = within kind.Quoted all in
      plain_written_as laws.comes_in (around i) h false kind.Quoted all (changed_node (kind.Quoted, all) (kind.Quoted, draft_in low true all)) refl
      (subst (λ (d : Draft). WrittenAs h false (t ∷ leaves c) (draft_tokens d)) (sym (opening_part (hash_comment t) (draft_in low false c) opens))
      (quoted_written_as laws.means laws.texts h (begins_dollar_brace (draft_in low false c)) t (leaves c) (draft_tokens (parts (draft_in low false c))) opens
      (text_coded inner (leaves_html t.kind)) (good low refl (and_parts (not (is_curly t.kind) || begins_plainly c) (has_plain_code c) code).1 plain)))

  -- ---- units of a quoted text

  end_case : (t : Token) → t.kind ≡ token_kind.QuotedEnd → GoodText (leaf t none)
  end_case t is around free code plain =
      text_as (t ∷ []) false (is_dollar_brace t.kind) (hash_comment t ∷ []) (draft_tokens (parts (new_leaf (hash_comment t) no_more))) (sym (ap is_dollar_brace is))
      (ap draft_tokens (sym (kept_part (hash_comment t) no_more (ap is_dollar_brace is) (ap is_piece is))))
      (end_written_as laws.means.front t is)

  piece_case : (t : Token) (f : Forest) → t.kind ≡ token_kind.Piece → GoodText f → GoodText (leaf t f)
  piece_case t f is good around free code plain =
      let d = draft_in around false f in
      text_as (t ∷ leaves f) false (is_dollar_brace t.kind)
      (piece_by (begins_dollar_brace d) (hash_comment t) ∷ draft_tokens (parts d))
      (draft_tokens (parts (new_leaf (hash_comment t) d))) (sym (ap is_dollar_brace is))
      (sym (piece_part (hash_comment t) d is))
      (piece_written_as laws.means.front (begins_dollar_brace d) t (leaves f) (draft_tokens (parts d)) is
      (good around free (and_parts (not (is_curly t.kind) || begins_plainly f) (has_plain_code f) code).1 plain))

  simple_case : (j : NodeKind) (c f : Forest) → IsSimple j c → Interpolated f → GoodText f → GoodText (node j c f)
  simple_case j c f one inner good around free code plain =
      let d = draft_in around false f in
      let ts = draft_tokens (parts d) in
      let (s, ss, same, unit) = text_begins inner in
      let written_as = simple_written_as laws.means.front one (begins_dollar_brace d) s ss ts unit
      (subst (λ (l : List Token). TextWrittenAs (begins_dollar_brace d) l ts) same (good around free code plain.2)) in
      subst (λ (l : List NewToken). TextWrittenAs false (leaves c ++ leaves f) (l ++ ts)) (sym (simple_tokens around false free one))
      (subst (λ (l : List Token). TextWrittenAs false (leaves c ++ l) (map hash_comment (leaves c) ++ ts)) (sym same) written_as)

  by_curly : (k : TokenKind) (b : Bool) → k ≡ token_kind.CurlyOpen → (not (is_curly k) || b) ≡ true → b ≡ true
  by_curly k b is h = subst (λ (x : TokenKind). (not (is_curly x) || b) ≡ true) is h

  not_none : (ss : List Token) → are_some (ss ++ []) ≡ true → ss ≡ [] → ⊥
  not_none ss h e = let w : are_some ([] ++ []) ≡ true = subst (λ (l : List Token). are_some (l ++ []) ≡ true) e h in cc

  curly_case : (t u : Token) (j : NodeKind) (c f : Forest) → t.kind ≡ token_kind.CurlyOpen → IsMark 125 u
      → Paired (node j c none) → Good (node j c none) → GoodText f → GoodText (leaf t (node j c (leaf u f)))
  curly_case t u j c f is mu paired inner good around free code plain =
      let d = draft_in around false f in
      let ts = draft_tokens (parts d) in
      let ns = draft_tokens (part_draft around false j c) in
      let own = and_parts (not (is_curly t.kind) || begins_plainly (node j c (leaf u f))) ((not (is_curly u.kind) || begins_plainly f) && has_plain_code f) code in
      let first : begins_plainly (node j c none) ≡ true = by_curly t.kind (begins_plainly (node j c (leaf u f))) is own.0 in
      let rest = (and_parts (not (is_curly u.kind) || begins_plainly f) (has_plain_code f) own.1).1 in
      let dollar : Dollar (old_front (leaves c)) → Dollar (new_front ns) =
      λ x. subst (λ (l : List NewToken). Dollar (new_front l)) (append-nil ns)
      (front_kept paired around false free first (subst (λ (l : List Token). Dollar (old_front l)) (sym (append-nil (leaves c))) x)) in
      text_as (t ∷ (leaves c ++ u ∷ leaves f)) false (is_dollar_brace t.kind)
      (hash_comment t ∷ (ns ++ hash_comment u ∷ ts))
      (draft_tokens (parts (draft_in around false (leaf t (node j c (leaf u f))))))
      (sym (ap is_dollar_brace is))
      (sym (ap draft_tokens (kept_part (hash_comment t) (draft_in around false (node j c (leaf u f))) (ap is_dollar_brace is) (ap is_piece is))
      ∙ ap (λ (x : Draft). hash_comment t ∷ (ns ++ draft_tokens x)) (kept_part (hash_comment u) d (ap is_dollar_brace mu.kind) (ap is_piece mu.kind))))
      (curly_written_as laws.means laws.join false (begins_dollar_brace d) t u (leaves c) ns (leaves f) ts is mu (not_none (leaves c) (plain_some (node j c none) first)) dollar
      (inner_node around j c inner (plain.0, plain.1, tt)) (good around free rest plain.2))

  no_written_as : WrittenAs false false [] []
  no_written_as below depth tiles more m steps same = (refl, refl)

  named_case : (t v u : Token) (f : Forest) → t.kind ≡ token_kind.DollarBrace → v.kind ≡ token_kind.VarName → IsMark 125 u → GoodText f → GoodText (leaf t (leaf v (leaf u f)))
  named_case t v u f is name mu good around free code plain =
      let d = draft_in around false f in
      let ts = draft_tokens (parts d) in
      let one = and_parts (not (is_curly t.kind) || begins_plainly (leaf v (leaf u f))) (has_plain_code (leaf v (leaf u f))) code in
      let two = and_parts (not (is_curly v.kind) || begins_plainly (leaf u f)) (has_plain_code (leaf u f)) one.1 in
      let three = and_parts (not (is_curly u.kind) || begins_plainly f) (has_plain_code f) two.1 in
      text_as (t ∷ v ∷ u ∷ leaves f) true (is_dollar_brace t.kind)
      (braced.curly (hash_comment t) ∷ braced.dollar_name (hash_comment v) ∷ hash_comment u ∷ ts)
      (draft_tokens (parts (draft_in around false (leaf t (leaf v (leaf u f))))))
      (sym (ap is_dollar_brace is)) (sym (named_part t v u d is name mu))
      (named_written_as laws.means laws.join false (begins_dollar_brace d) t v u [] [] (leaves f) ts is name mu no_written_as (good around free three.1 plain))

  mark_code : (o : Token) (x : ℕ) → IsMark x o → is_marked (x ∷ []) ≡ false → is_code_token o ≡ true
  mark_code o x mark h =
      let p : is_code_kind o.kind ≡ true = ap is_code_kind mark.kind in
      let q : is_op o.kind ≡ true = ap is_op mark.kind in
      let r : o.text ≡ x ∷ [] = mark.text in
      rw (p, q, r) (ap not h)

  -- `[`, code and `]`
  square_parts : (o s : Token) (ss : List Token) (ts : List NewToken) → IsMark 91 o → IsMark 93 s
      → WrittenAs false false ss ts → WrittenAs false (is_op o.kind || (false || is_op s.kind)) (o ∷ (ss ++ s ∷ []))
      (hash_comment o ∷ (ts ++ hash_comment s ∷ []))
  square_parts o s ss ts mo ms written_as =
      token_joins laws false o (ss ++ s ∷ []) (false || is_op s.kind) (ts ++ hash_comment s ∷ []) (mark_code o 91 mo refl)
      (written_as_join laws.join (leaves_html o.kind) false (is_op s.kind) ss (s ∷ []) ts (hash_comment s ∷ [])
      (subst (λ (x : Bool). WrittenAs x false ss ts) (sym (ap leaves_html mo.kind)) written_as)
      (token_written_as laws.means (html_behind (leaves_html o.kind) ss) s (mark_code s 93 ms refl)))

  offset_case : (t v o s u : Token) (j : NodeKind) (c f : Forest) → t.kind ≡ token_kind.DollarBrace
      → v.kind ≡ token_kind.VarName → IsMark 91 o → IsMark 93 s → IsMark 125 u → Good (node j c none) → GoodText f
      → GoodText (leaf t (leaf v (leaf o (node j c (leaf s (leaf u f))))))
  offset_case t v o s u j c f is name mo ms mu inner good around free code plain =
      let d = draft_in around false f in
      let ts = draft_tokens (parts d) in
      let ns = draft_tokens (part_draft around false j c) in
      let x1 = node j c (leaf s (leaf u f)) in
      let one = and_parts (not (is_curly t.kind) || begins_plainly (leaf v (leaf o x1))) (has_plain_code (leaf v (leaf o x1))) code in
      let two = and_parts (not (is_curly v.kind) || begins_plainly (leaf o x1)) (has_plain_code (leaf o x1)) one.1 in
      let three = and_parts (not (is_curly o.kind) || begins_plainly x1) (has_plain_code (leaf s (leaf u f))) two.1 in
      let four = and_parts (not (is_curly s.kind) || begins_plainly (leaf u f)) (has_plain_code (leaf u f)) three.1 in
      let five = and_parts (not (is_curly u.kind) || begins_plainly f) (has_plain_code f) four.1 in
      let row = hash_comment o ∷ (ns ++ hash_comment s ∷ []) in
      let written_as = named_written_as laws.means laws.join (is_op o.kind || (false || is_op s.kind)) (begins_dollar_brace d) t v u (o ∷ (leaves c ++ s ∷ [])) row (leaves f) ts is name mu
      (square_parts o s (leaves c) ns mo ms (inner_node around j c inner (plain.0, plain.1, tt))) (good around free five.1 plain.2) in
      subst (λ (l : List Token). TextWrittenAs (is_dollar_brace t.kind) (t ∷ v ∷ o ∷ l)
      (draft_tokens (parts (draft_in around false (leaf t (leaf v (leaf o x1)))))))
      (append_assoc (leaves c) (s ∷ []) (u ∷ leaves f))
      (text_as (t ∷ v ∷ ((o ∷ (leaves c ++ s ∷ [])) ++ u ∷ leaves f)) true (is_dollar_brace t.kind)
      (braced.curly (hash_comment t) ∷ braced.dollar_name (hash_comment v) ∷ (row ++ hash_comment u ∷ ts))
      (draft_tokens (parts (draft_in around false (leaf t (leaf v (leaf o x1))))))
      (sym (ap is_dollar_brace is)) (sym (offset_part t v o s u _ _ d is name mo ms mu)) written_as)

  expression_case : (t u : Token) (j : NodeKind) (c f : Forest) → t.kind ≡ token_kind.DollarBrace → IsMark 125 u
      → Paired (node j c none) → Good (node j c none) → GoodText f → GoodText (leaf t (node j c (leaf u f)))
  expression_case t u j c f is mu paired inner good around free code plain =
      let d = draft_in around false f in
      let ts = draft_tokens (parts d) in
      let ns = draft_tokens (part_draft around false j c) in
      let one = and_parts (not (is_curly t.kind) || begins_plainly (node j c (leaf u f))) ((not (is_curly u.kind) || begins_plainly f) && has_plain_code f) code in
      let two = and_parts (not (is_curly u.kind) || begins_plainly f) (has_plain_code f) one.1 in
      let close = retexted token_kind.Op (codes "}") (hash_comment u) in
      let front = braced.curly (hash_comment t) ∷ put_also token_kind.Op (codes "$") ∷ put_also token_kind.Op (codes "{") ∷ [] in
      let last = put_also token_kind.Op (codes "}") ∷ ts in
      text_as (t ∷ (leaves c ++ u ∷ leaves f)) true (is_dollar_brace t.kind) (front ++ (ns ++ close ∷ last))
      (draft_tokens (parts (draft_in around false (leaf t (node j c (leaf u f))))))
      (sym (ap is_dollar_brace is))
      (sym (row_part t u _ _ d is mu ∙ ap (λ (l : List NewToken). front ++ l) (append_assoc ns (close ∷ []) last)))
      (row_written_as laws.means laws.join false (begins_dollar_brace d) t u (leaves c) ns (leaves f) ts is
      (subst (λ (l : List Token). begins_other l ≡ true) (append-nil (leaves c)) (paired_other paired)) mu
      (inner_node around j c inner (plain.0, plain.1, tt)) (good around free two.1 plain.2))

  -- ---- parts of code

  group_round : (t u : Token) (f g r : Forest) → IsMark 40 t → IsMark 41 u → f ≡ g +++ leaf u r → Good g → Good r → Good (leaf t f)
  group_round t u f g r mt mu same inner outer around i h plain =
      let p = plain_behind g u r (subst PlainTexts same plain) in
      group_joins laws around i h t u f g r 40 41 mt same
      (round_parts laws h (has_stop g) t u (leaves g) (draft_tokens (draft_in around false g)) mt mu (inner around false false p.0))
      (outer around false (html_behind h (t ∷ (leaves g ++ u ∷ []))) p.1)

  group_brace : (t u : Token) (f g r : Forest) → IsMark 123 t → IsMark 125 u → f ≡ g +++ leaf u r → Good g → Good r → Good (leaf t f)
  group_brace t u f g r mt mu same inner outer around i h plain =
      let p = plain_behind g u r (subst PlainTexts same plain) in
      group_joins laws around i h t u f g r 123 125 mt same
      (brace_parts laws h (has_stop g) t u (leaves g) (draft_tokens (draft_in around false g)) mt mu (inner around false false p.0))
      (outer around false (html_behind h (t ∷ (leaves g ++ u ∷ []))) p.1)

  node_case : (j : NodeKind) (c f : Forest) → is_common j ≡ true → IsStanding j c → Good c → Good f → Good (node j c f)
  node_case j c f common standing inner outer around i h plain =
      node_joins laws around i h j c f
      (standing_written_as laws.comes_in (around i) h j c (changed_node (j, c) (j, draft_in (within j c) true c)) standing
      (subst (λ (n : NewTree). WrittenAs h (has_stop c) (leaves c) (draft_tokens n.1)) (sym (common_node j c (j, draft_in (within j c) true c) common))
      (inner (within j c) true h plain.1)))
      (outer around false (html_behind h (leaves c)) plain.2)

  offset_node : (m j : NodeKind) (t u : Token) (b c f : Forest) → IsMark 123 t → IsMark 125 u → Good (node m b none)
      → Good (node j c none) → Good f → Good (node kind.BraceOffset (node m b (leaf t (node j c (leaf u none)))) f)
  offset_node m j t u b c f mt mu base index outer around i h plain =
      let all = node m b (leaf t (node j c (leaf u none))) in
      let own = plain.1 in
      let second = own.2 in
      node_joins laws around i h kind.BraceOffset all f
      (offset_written_as laws (around i) h m j t u b c mt mu
      (node_alone laws (within kind.BraceOffset all) true h m b (base (within kind.BraceOffset all) true h (own.0, own.1, tt)))
      (node_alone laws (within kind.BraceOffset all) false false j c (index (within kind.BraceOffset all) false false (second.0, second.1, tt)))
      around i)
      (outer around false (html_behind h (leaves all)) plain.2)

  cast_node : (t : Token) (j : NodeKind) (b f : Forest) → t.kind ≡ token_kind.Cast → Good (node j b none) → Good f → Good (node kind.Cast (leaf t (node j b none)) f)
  cast_node t j b f is operand outer around i h plain =
      let all = leaf t (node j b none) in
      node_joins laws around i h kind.Cast all f
      (cast_written_as laws around i h t j b is (operand (within kind.Cast all) false false plain.1))
      (outer around false (html_behind h (leaves all)) plain.2)

  text_case : (t : Token) (c f : Forest) → opens_text t.kind ≡ true → Interpolated c → GoodText c → Good f → Good (node kind.Quoted (leaf t c) f)
  text_case t c f opens inner good outer around i h plain =
      node_joins laws around i h kind.Quoted (leaf t c) f
      (text_node around i h t c opens inner good (plain.0 refl) plain.1)
      (outer around false (html_behind h (leaves (leaf t c))) plain.2)

  token_case : (t : Token) (f : Forest) → is_code_token t ≡ true → Good f → Good (leaf t f)
  token_case t f code outer around i h plain =
      token_joins laws h t (leaves f) (has_stop f) (draft_tokens (draft_in around false f)) code (outer around false (leaves_html t.kind) plain)

  none_case : Good none
  none_case around i h plain below depth tiles more m steps same = (refl, refl)

  -- ---- the induction

  mutual
    pub paired_written_as : {f : Forest} → Paired f → Good f
    paired_written_as no_part = none_case
    paired_written_as (token {t} {f} code more) = token_case t f code (paired_written_as more)
    paired_written_as (rounds {t} {u} {f} {g} {h = r} mt inner mu outer same) = group_round t u f g r mt mu same (paired_written_as inner) (paired_written_as outer)
    paired_written_as (braces {t} {u} {f} {g} {h = r} mt inner mu outer same) = group_brace t u f g r mt mu same (paired_written_as inner) (paired_written_as outer)
    paired_written_as (part {j} {c} {f} common standing inner outer) = node_case j c f common standing (paired_written_as inner) (paired_written_as outer)
    paired_written_as (brace_offset {i = m} {j} {t} {u} {b} {c} {f} base mt index mu outer) =
        offset_node m j t u b c f mt mu (paired_written_as base) (paired_written_as index) (paired_written_as outer)
    paired_written_as (cast {j} {t} {b} {f} is operand outer) = cast_node t j b f is (paired_written_as operand) (paired_written_as outer)
    paired_written_as (text {t} {c} {f} opens inner outer) = text_case t c f opens inner (text_written_as inner) (paired_written_as outer)

    pub text_written_as : {c : Forest} → Interpolated c → GoodText c
    text_written_as (text_end {t} is) = end_case t is
    text_written_as (piece {t} {f} is more) = piece_case t f is (text_written_as more)
    text_written_as (simple {j} {c} {f} one more) = simple_case j c f one more (text_written_as more)
    text_written_as (curly {j} {t} {u} {c} {f} is inner mark more) = curly_case t u j c f is mark inner (paired_written_as inner) (text_written_as more)
    text_written_as (named {t} {n} {u} {f} is name mark more) = named_case t n u f is name mark (text_written_as more)
    text_written_as (named_offset {j} {t} {n} {o} {s} {u} {c} {f} is name mo inner ms mu more) =
        offset_case t n o s u j c f is name mo ms mu (paired_written_as inner) (text_written_as more)
    text_written_as (expression {j} {t} {u} {c} {f} is inner mark more) = expression_case t u j c f is mark inner (paired_written_as inner) (text_written_as more)
