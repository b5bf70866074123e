-- What the tiles of parts become, by what stands in them.
use Rattle.std.proofs.Common.{◌≡◌, ℕ, Bool, true, false, ◌||◌, List, [], ◌∷◌, ◌++◌, codes, Option, refl, sym, ap, ◌∙◌, subst, append_assoc, append-nil}
use Rattle.std.proofs.lemmas.Bool.{and_parts}
use Rattle.php_tree.specs.declared.token.Token.{Token}
use Rattle.php_tree.specs.declared.token.TokenKind.{TokenKind}
use Rattle.php_tree.specs.declared.token.TokenKind.TheVariants as token
use Rattle.php_tree.specs.declared.kind.NodeKind.{NodeKind}
use Rattle.php_tree.specs.declared.kind.NodeKind.TheVariants as kind
use Rattle.php_tree.specs.Tree.{Forest, none, leaf, node, leaves, ◌+++◌}
use Rattle.php_lexer.specs.Modes.{code}
use Rattle.tracked_changes.specs.Draft.{NewToken, Draft, new_leaf}
use Rattle.tracked_changes.specs.Tokens.{retexted, put_also}
use Rattle.syntax_rules.specs.Around.{Around, within}
use Rattle.syntax_rules.specs.BraceOffset.{bracket}
use Rattle.syntax_rules.specs.HashComment.{hash_comment}
use Rattle.syntax_rules.specs.RealCast.{is_real_cast}
use Rattle.syntax_rules.specs.UnsetCast.{is_variable, is_unset_cast, is_edited, opening}
use Rattle.syntax_rules.specs.InContext.{changed_node, draft_in}
use Rattle.written_tokens.specs.tokens.Written.{draft_tokens}
use Rattle.written_tokens.specs.tiles.IsRewrittenTo.{RewritingsJoin}
use Rattle.written_tokens.specs.tiles.Edits.{BracesBecome, BracesAreSquared, RoundsBecome, RoundsComeIn, CastsBecomeFloat, CastsBecomeNull}
use Rattle.written_tokens.specs.texts.TextRows.{TextsBecome}
use Rattle.rewritten_shapes.specs.paired.Tokens.{is_op, is_code_kind, is_code_token, has_stop, IsMark}
use Rattle.written_reading.proofs.edited.PlainTexts.{PlainTexts}
use Rattle.written_reading.proofs.edited.TileFacts.{leaves_html, html_behind}
use Rattle.written_reading.proofs.edited.WrittenAs.{WrittenAs, written_as_join}
use Rattle.written_reading.proofs.edited.Leads.{Means}
use Rattle.written_reading.proofs.edited.TokenWrittenAs.{token_written_as}
use Rattle.written_reading.proofs.edited.Between.{brace_opens, round_opens, between_written_as}
use Rattle.written_reading.proofs.edited.CastWrittenAs.{float_written_as, null_written_as}
use Rattle.written_reading.proofs.edited.Drafts.{part_draft, draft_behind}
use Rattle.written_reading.proofs.edited.NodeWrittenAs.{plain_written_as, kept_put, opening_put, closing_put}

-- what is known of tiles
pub record Laws : Type 0 where
  pub means : Means
  pub join : RewritingsJoin
  pub rounds : RoundsBecome
  pub braces : BracesBecome
  pub squares : BracesAreSquared
  pub comes_in : RoundsComeIn
  pub floats : CastsBecomeFloat
  pub nulls : CastsBecomeNull
  pub texts : TextsBecome

-- ---- joined parts

leaves_behind : (g : Forest) (u : Token) (r : Forest) → leaves (g +++ leaf u r) ≡ leaves g ++ u ∷ leaves r
leaves_behind none u r = refl
leaves_behind (leaf t g) u r = ap (λ (l : List Token). t ∷ l) (leaves_behind g u r)
leaves_behind (node k c g) u r =
    ap (λ (l : List Token). leaves c ++ l) (leaves_behind g u r) ∙ sym (append_assoc (leaves c) (leaves g) (u ∷ leaves r))

pub plain_behind : (g : Forest) (u : Token) (r : Forest) → PlainTexts (g +++ leaf u r) → PlainTexts g × PlainTexts r
plain_behind none u r h = (tt, h)
plain_behind (leaf t g) u r h = plain_behind g u r h
plain_behind (node k c g) u r h = let rest = plain_behind g u r h.2 in ((h.0, h.1, rest.0), rest.1)

module _ (laws : Laws) where
  -- a node and what follows it
  pub node_joins : (around : Bool → Option Around) (i h : Bool) (k : NodeKind) (c f : Forest)
      → WrittenAs h false (leaves c) (draft_tokens (part_draft around i k c))
      → WrittenAs (html_behind h (leaves c)) (has_stop f) (leaves f) (draft_tokens (draft_in around false f))
      → WrittenAs h (has_stop (node k c f)) (leaves (node k c f)) (draft_tokens (draft_in around i (node k c f)))
  node_joins around i h k c f p q =
      written_as_join laws.join h false (has_stop f) (leaves c) (leaves f) (draft_tokens (part_draft around i k c)) (draft_tokens (draft_in around false f)) p q

  -- a token and what follows it
  pub token_joins : (h : Bool) (t : Token) (ss : List Token) (stop : Bool) (ts : List NewToken)
      → is_code_token t ≡ true → WrittenAs (leaves_html t.kind) stop ss ts
      → WrittenAs h (is_op t.kind || stop) (t ∷ ss) (hash_comment t ∷ ts)
  token_joins h t ss stop ts p q = written_as_join laws.join h (is_op t.kind) stop (t ∷ []) ss (hash_comment t ∷ []) ts (token_written_as laws.means h t p) q

  -- a node alone
  pub node_alone : (around : Bool → Option Around) (i h : Bool) (k : NodeKind) (c : Forest)
      → WrittenAs h false (leaves c ++ []) (draft_tokens (part_draft around i k c) ++ [])
      → WrittenAs h false (leaves c) (draft_tokens (part_draft around i k c))
  node_alone around i h k c p =
      subst (λ (l : List NewToken). WrittenAs h false (leaves c) l) (append-nil (draft_tokens (part_draft around i k c)))
      (subst (λ (l : List Token). WrittenAs h false l (draft_tokens (part_draft around i k c) ++ [])) (append-nil (leaves c)) p)

  -- parts between two marks, and what follows them
  pub group_joins : (around : Bool → Option Around) (i h : Bool) (t u : Token) (f g r : Forest) (b c : ℕ) → IsMark b t
      → f ≡ g +++ leaf u r → WrittenAs h true (t ∷ (leaves g ++ u ∷ []))
      (hash_comment t ∷ (draft_tokens (draft_in around false g) ++ hash_comment u ∷ []))
      → WrittenAs (html_behind h (t ∷ (leaves g ++ u ∷ []))) (has_stop r) (leaves r)
      (draft_tokens (draft_in around false r)) → WrittenAs h (has_stop (leaf t f)) (leaves (leaf t f))
      (draft_tokens (draft_in around i (leaf t f)))
  group_joins around i h t u f g r b c mark same p q =
      let inner = draft_tokens (draft_in around false g) in
      let outer = draft_tokens (draft_in around false r) in
      let all : WrittenAs h true ((t ∷ (leaves g ++ u ∷ [])) ++ leaves r) ((hash_comment t ∷ (inner ++ hash_comment u ∷ [])) ++ outer) =
      written_as_join laws.join h true (has_stop r) (t ∷ (leaves g ++ u ∷ [])) (leaves r) (hash_comment t ∷ (inner ++ hash_comment u ∷ [])) outer p q in
      let old : t ∷ ((leaves g ++ u ∷ []) ++ leaves r) ≡ t ∷ leaves f =
      ap (λ (l : List Token). t ∷ l) (append_assoc (leaves g) (u ∷ []) (leaves r) ∙ sym (leaves_behind g u r) ∙ ap leaves (sym same)) in
      let new : hash_comment t ∷ ((inner ++ hash_comment u ∷ []) ++ outer) ≡ hash_comment t ∷ draft_tokens (draft_in around false f) =
      ap (λ (l : List NewToken). hash_comment t ∷ l)
      (append_assoc inner (hash_comment u ∷ []) outer ∙ sym (draft_behind around false g u r)
      ∙ ap (λ (x : Forest). draft_tokens (draft_in around false x)) (sym same)) in
      subst (λ (x : Bool). WrittenAs h x (t ∷ leaves f) (hash_comment t ∷ draft_tokens (draft_in around false f))) (sym (ap (λ (x : TokenKind). is_op x || has_stop f) mark.kind))
      (subst (λ (l : List NewToken). WrittenAs h true (t ∷ leaves f) l) new
      (subst (λ (l : List Token). WrittenAs h true l (hash_comment t ∷ ((inner ++ hash_comment u ∷ []) ++ outer))) old all))

  pub round_parts : (h stop : Bool) (t u : Token) (ss : List Token) (ts : List NewToken) → IsMark 40 t → IsMark 41 u
      → WrittenAs false stop ss ts → WrittenAs h true (t ∷ (ss ++ u ∷ [])) (hash_comment t ∷ (ts ++ hash_comment u ∷ []))
  round_parts h stop t u ss ts mt mu p =
      between_written_as laws.means laws.join 40 41 40 41 (λ ms. ms) round_opens laws.rounds refl h stop t u ss ts
      (hash_comment t) (hash_comment u) mt mu (kept_put 40 t mt) (kept_put 41 u mu) p

  pub brace_parts : (h stop : Bool) (t u : Token) (ss : List Token) (ts : List NewToken) → IsMark 123 t → IsMark 125 u
      → WrittenAs false stop ss ts → WrittenAs h true (t ∷ (ss ++ u ∷ [])) (hash_comment t ∷ (ts ++ hash_comment u ∷ []))
  brace_parts h stop t u ss ts mt mu p =
      between_written_as laws.means laws.join 123 125 123 125 (λ ms. code ∷ ms) brace_opens laws.braces refl h stop t u ss
      ts (hash_comment t) (hash_comment u) mt mu (kept_put 123 t mt) (kept_put 125 u mu) p

  -- ---- offsets in braces

  pub offset_written_as : (a : Option Around) (h : Bool) (m j : NodeKind) (t u : Token) (b c : Forest) → IsMark 123 t
      → IsMark 125 u → WrittenAs h false (leaves b)
      (draft_tokens (part_draft (within kind.BraceOffset (node m b (leaf t (node j c (leaf u none))))) true m b))
      → WrittenAs false false (leaves c) (draft_tokens (part_draft
      (within kind.BraceOffset (node m b (leaf t (node j c (leaf u none))))) false j c))
      → (around : Bool → Option Around) (i : Bool) → WrittenAs h false
      (leaves (node m b (leaf t (node j c (leaf u none)))))
      (draft_tokens (part_draft around i kind.BraceOffset (node m b (leaf t (node j c (leaf u none))))))
  offset_written_as a h m j t u b c mt mu p q around i =
      let all = node m b (leaf t (node j c (leaf u none))) in
      let low = within kind.BraceOffset all in
      let inner = draft_tokens (part_draft low false j c) in
      let square = between_written_as laws.means laws.join 123 125 91 93 (λ ms. code ∷ ms) brace_opens laws.squares refl
      (html_behind h (leaves b)) false t u (leaves c) inner (bracket (hash_comment t)) (bracket (hash_comment u))
      mt mu (opening_put t mt) (closing_put u mu) q in
      plain_written_as laws.comes_in (around i) h true kind.BraceOffset all (changed_node (kind.BraceOffset, all) (kind.BraceOffset, draft_in low true all)) refl
      (written_as_join laws.join h false true (leaves b) (t ∷ (leaves c ++ u ∷ []))
      (draft_tokens (part_draft low true m b))
      (bracket (hash_comment t) ∷ (inner ++ bracket (hash_comment u) ∷ [])) p square)

  -- ---- casts

  variable_kind : (j : NodeKind) (k : TokenKind) → is_variable j k ≡ true → k ≡ token.Variable
  variable_kind kind.Variable token.Variable h = refl
  variable_kind j k h = absurd cc

  cast_token : (t : Token) → t.kind ≡ token.Cast → is_code_token t ≡ true
  cast_token t is =
      let p : is_code_kind t.kind ≡ true = ap is_code_kind is in
      let q : is_op t.kind ≡ false = ap is_op is in
      rw (p, q) refl

  -- `(unset)` before a variable
  unset_written_as : (h : Bool) (t : Token) (j : NodeKind) (b : Forest) (d : Draft) → t.kind ≡ token.Cast
      → is_edited (kind.Cast, leaf t (node j b none)) ≡ true
      → WrittenAs h false (t ∷ (leaves b ++ [])) (opening (new_leaf (hash_comment t) d)
      ∷ put_also token.Label (codes "null") ∷ put_also token.Op (codes ")") ∷ [])
  unset_written_as h t j none d is e = absurd (let f = (and_parts (is_unset_cast (kind.Cast, leaf t (node j none none))) false e).1 in cc)
  unset_written_as h t j (leaf v none) d is e =
      null_written_as laws.means laws.nulls h t v (opening (new_leaf (hash_comment t) d)) (put_also token.Label (codes "null")) (put_also token.Op (codes ")")) is
      (variable_kind j v.kind (and_parts (is_unset_cast (kind.Cast, leaf t (node j (leaf v none) none))) (is_variable j v.kind) e).1)
      (record { lead = refl; kind = refl; text = refl; null = refl; shut = refl })
  unset_written_as h t j (leaf v (leaf w x)) d is e = absurd (let f = (and_parts (is_unset_cast (kind.Cast, leaf t (node j (leaf v (leaf w x)) none))) false e).1 in cc)
  unset_written_as h t j (leaf v (node k c x)) d is e = absurd (let f = (and_parts (is_unset_cast (kind.Cast, leaf t (node j (leaf v (node k c x)) none))) false e).1 in cc)
  unset_written_as h t j (node k c x) d is e = absurd (let f = (and_parts (is_unset_cast (kind.Cast, leaf t (node j (node k c x) none))) false e).1 in cc)

  cast_by : (h x y : Bool) (t : Token) (j : NodeKind) (b : Forest) → t.kind ≡ token.Cast
      → is_real_cast (kind.Cast, leaf t (node j b none)) ≡ x → is_edited (kind.Cast, leaf t (node j b none)) ≡ y
      → WrittenAs false false (leaves b ++ []) (draft_tokens (draft_in (within kind.Cast (leaf t (node j b none))) false
      (node j b none))) → WrittenAs h false (t ∷ (leaves b ++ []))
      (draft_tokens (changed_node (kind.Cast, leaf t (node j b none))
      (kind.Cast, draft_in (within kind.Cast (leaf t (node j b none))) true (leaf t (node j b none)))).1)
  cast_by h true y t j b is e g p =
      let rest = draft_tokens (draft_in (within kind.Cast (leaf t (node j b none))) false (node j b none)) in
      let n = retexted token.Cast (codes "(float)") (hash_comment t) in
      rw e (written_as_join laws.join h false false (t ∷ []) (leaves b ++ []) (n ∷ []) rest
      (float_written_as laws.means laws.floats h t n is (record { lead = refl; kind = refl; text = refl }))
      (subst (λ (x : Bool). WrittenAs x false (leaves b ++ []) rest) (sym (ap leaves_html is)) p))
  cast_by h false true t j b is e g p = rw (e, g) (unset_written_as h t j b (draft_in (within kind.Cast (leaf t (node j b none))) false (node j b none)) is g)
  cast_by h false false t j b is e g p =
      let rest = draft_tokens (draft_in (within kind.Cast (leaf t (node j b none))) false (node j b none)) in
      rw (e, g) (subst (λ (x : Bool). WrittenAs h x (t ∷ (leaves b ++ [])) (hash_comment t ∷ rest)) (ap (λ (x : TokenKind). is_op x || false) is)
      (token_joins h t (leaves b ++ []) false rest (cast_token t is)
      (subst (λ (x : Bool). WrittenAs x false (leaves b ++ []) rest) (sym (ap leaves_html is)) p)))

  pub cast_written_as : (around : Bool → Option Around) (i h : Bool) (t : Token) (j : NodeKind) (b : Forest)
      → t.kind ≡ token.Cast → WrittenAs false false (leaves b ++ [])
      (draft_tokens (draft_in (within kind.Cast (leaf t (node j b none))) false (node j b none)))
      → WrittenAs h false (leaves (leaf t (node j b none)))
      (draft_tokens (part_draft around i kind.Cast (leaf t (node j b none))))
  cast_written_as around i h t j b is p =
      let all = leaf t (node j b none) in
      plain_written_as laws.comes_in (around i) h false kind.Cast all (changed_node (kind.Cast, all) (kind.Cast, draft_in (within kind.Cast all) true all)) refl
      (cast_by h (is_real_cast (kind.Cast, all)) (is_edited (kind.Cast, all)) t j b is refl refl p)
