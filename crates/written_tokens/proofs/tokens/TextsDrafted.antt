-- The changes put no label without a text into a draft, but `null` in parentheses.
use Rattle.std.proofs.Common.{
  ◌≡◌,
  ℕ,
  suc,
  ◌+◌,
  Bool,
  true,
  false,
  cond,
  not,
  ◌&&◌,
  ◌||◌,
  List,
  [],
  ◌∷◌,
  ◌++◌,
  codes,
  map,
  Option,
  Some,
  None,
  refl,
  sym,
  ap,
  ◌∙◌,
  subst,
  append_assoc,
}
use Rattle.std.specs.Str.{bytes_eq}
use Rattle.std.specs.Cmp.Lexicographic.{bytes_decides}
use Rattle.php_tree.specs.declared.token.Token.{Token}
use Rattle.php_tree.specs.declared.token.TokenKind.{TokenKind}
use Rattle.php_tree.specs.declared.token.TokenKind.TheVariants as token
use Rattle.php_tree.specs.declared.kind.NodeKind.{NodeKind}
use Rattle.php_tree.specs.declared.kind.NodeKind.TheVariants as kind
use Rattle.php_tree.specs.Tree.{Forest, none, leaf, node, Tree, count}
use Rattle.tracked_changes.specs.patches.Patches.{Patches, Wrapping, InParens}
use Rattle.tracked_changes.specs.Pieces.{before}
use Rattle.tracked_changes.specs.Draft.{NewToken, Draft, no_more, new_leaf, new_node, pieces}
use Rattle.tracked_changes.specs.Leads.{holds_none, without_lead}
use Rattle.tracked_changes.specs.Parens.{in_parens, in_wrappings}
use Rattle.tracked_changes.specs.Tokens.{is_text, put_also}
use Rattle.tracked_changes.specs.Walk.{NewTree, drafted}
use Rattle.syntax_rules.specs.Casts.{is_cast, bare}
use Rattle.syntax_rules.specs.SplitName.{is_label, is_name, is_nothing}
use Rattle.syntax_rules.specs.BraceOffset.{is_brace_offset, bracket, bracketed, brace_offset}
use Rattle.syntax_rules.specs.RealCast.{is_real_cast, float_first, real_cast}
use Rattle.syntax_rules.specs.UnsetCast.{is_edited, of_variable, opening, unset_cast}
use Rattle.syntax_rules.specs.DollarBrace.{is_dollar_brace, plain, with_offset, with_node, opened, ends_bare, escaped, is_piece, begins_dollar_brace, part, parts, dollar_brace}
use Rattle.syntax_rules.specs.Together.{is_quoted, every_rule, node_by, rewriting, all_on}
use Rattle.written_tokens.specs.tokens.Written.{draft_tokens}
use Rattle.written_tokens.proofs.tokens.Texts.{is_wordy, Fine, Quiet, null, Row, no_token, a_token, a_null, row_join}

-- ---- drafts whose labels have a text

mutual
  pub data Texts : Draft → Type 0 where
    no_part : Texts no_more
    a_leaf : {t : NewToken} {d : Draft} → Fine t → Texts d → Texts (new_leaf t d)
    a_node : {k : NodeKind} {c d : Draft} → Inner c → Texts d → Texts (new_node k c d)

  -- the same for the parts of a node, which may be `null` in parentheses
  pub data Inner : Draft → Type 0 where
    parts_of : {c : Draft} → Texts c → Inner c
    nulled :
        {c : Draft} (p q : NewToken) (k : NodeKind) →
        Quiet p →
        Quiet q →
        c ≡ new_leaf p (new_node k (new_leaf null no_more) (new_leaf q no_more)) →
        Inner c

mutual
  pub texts_row : {d : Draft} → Texts d → Row (draft_tokens d)
  texts_row no_part = no_token
  texts_row (a_leaf p x) = a_token p (texts_row x)
  texts_row (a_node i x) = row_join (inner_row i) (texts_row x)

  inner_row : {c : Draft} → Inner c → Row (draft_tokens c)
  inner_row (parts_of x) = texts_row x
  inner_row (nulled p q k x y e) = subst (λ (d : Draft). Row (draft_tokens d)) (sym e) (a_null x y no_token)

-- ---- parentheses

bare_quiet : (t : NewToken) → Quiet t → Quiet (record t { lead = [] })
bare_quiet t q = record { op = q.op; root = q.root }

inner_by : (k : NodeKind) (c d : Draft) (b : Bool) → Inner c → Inner (without_lead c) → Texts d
    → Texts (without_lead d) → Texts (cond b (new_node k c (without_lead d)) (new_node k (without_lead c) d))
inner_by k c d true i j x y = a_node i y
inner_by k c d false i j x y = a_node j x

mutual
  lead_texts : {d : Draft} → Texts d → Texts (without_lead d)
  lead_texts no_part = no_part
  lead_texts (a_leaf {t} p x) = a_leaf {t = record t { lead = [] }} p x
  lead_texts (a_node {k} {c} {d} i x) = inner_by k c d (holds_none c) i (lead_inner i) x (lead_texts x)

  lead_inner : {c : Draft} → Inner c → Inner (without_lead c)
  lead_inner (parts_of x) = parts_of (lead_texts x)
  lead_inner (nulled p q k x y e) = nulled (record p { lead = [] }) q k (bare_quiet p x) y (ap without_lead e)

wrapped_inner : (ws : List Wrapping) (t : NewTree) → Inner t.1 → Inner (in_wrappings ws t).1
wrapped_inner [] t i = i
wrapped_inner (InParens ∷ ws) t i =
    parts_of (a_leaf (λ h. absurd cc) (a_node (lead_inner (wrapped_inner ws t i)) (a_leaf (λ h. absurd cc) no_part)))

-- ---- offsets and casts

bracket_by : (t : NewToken) (a b : Bool) → is_text (codes "{") t ≡ a → is_text (codes "}") t ≡ b → Fine t → Fine (bracket t)
bracket_by t true b e g p = rw e (λ h. absurd cc)
bracket_by t false true e g p = rw (e, g) (λ h. absurd cc)
bracket_by t false false e g p = rw (e, g) p

bracketed_texts : {d : Draft} → Texts d → Texts (bracketed d)
bracketed_texts no_part = no_part
bracketed_texts (a_leaf {t} p x) = a_leaf (bracket_by t (is_text (codes "{") t) (is_text (codes "}") t) refl refl p) (bracketed_texts x)
bracketed_texts (a_node i x) = a_node i (bracketed_texts x)

float_texts : {d : Draft} → Texts d → Texts (float_first d)
float_texts no_part = no_part
float_texts (a_leaf p x) = a_leaf (λ h. absurd cc) x
float_texts (a_node i x) = a_node i x

-- a cast's text is no `\`, whatever follows
cast_by : (text rest : List ℕ) (b : Bool) → bytes_eq (text ++ rest) (codes "\\") ≡ b → bytes_eq (bare text) (codes "(unset)") ≡ true → b ≡ false
cast_by text rest false e h = refl
cast_by [] rest true e h = absurd cc
cast_by (x ∷ []) rest true e h = absurd (only x rest ((bytes_decides (x ∷ rest) (codes "\\")).0 e) h)
  where
    head_of : List ℕ → ℕ
    head_of [] = 0
    head_of (y ∷ ys) = y

    only : (x : ℕ) (rest : List ℕ) → x ∷ rest ≡ codes "\\" → bytes_eq (bare (x ∷ [])) (codes "(unset)") ≡ true → ⊥
    only x rest e h = let w : bytes_eq (bare (92 ∷ [])) (codes "(unset)") ≡ true = subst (λ (y : ℕ). bytes_eq (bare (y ∷ [])) (codes "(unset)") ≡ true) (ap head_of e) h in cc
cast_by (x ∷ y ∷ text) rest true e h = absurd (let w : x ∷ y ∷ text ++ rest ≡ codes "\\" = (bytes_decides (x ∷ y ∷ text ++ rest) (codes "\\")).0 e in cc)

-- ---- `${`

piece_plain : (k : TokenKind) → is_piece k ≡ true → is_wordy k ≡ false
piece_plain token.Piece h = refl
piece_plain _ h = absurd cc

escaped_fine : (t : NewToken) (b : Bool) → is_piece t.kind ≡ true → ends_bare false (before t.text) ≡ b → Fine t → Fine (escaped t)
escaped_fine t true h e p = rw e (λ w. absurd (let z : false ≡ true = sym (piece_plain t.kind h) ∙ w in cc))
escaped_fine t false h e p = rw e p

piece_fine : (t : NewToken) (a b : Bool) → is_piece t.kind ≡ a → Fine t → Fine (cond (a && b) (escaped t) t)
piece_fine t true true h p = escaped_fine t (ends_bare false (before t.text)) h refl p
piece_fine t true false h p = p
piece_fine t false b h p = p

plain_texts : (t name : NewToken) {d : Draft} → Texts d → Texts (plain t name d)
plain_texts t name x = a_leaf (λ h. absurd cc) (a_node (parts_of (a_leaf (λ h. absurd cc) no_part)) x)

offset_texts : (t name mark : NewToken) {d : Draft} → Fine mark → Texts d → Texts (with_offset t name mark d)
offset_texts t name mark m no_part = plain_texts t name (a_leaf m no_part)
offset_texts t name mark m (a_leaf p x) = plain_texts t name (a_leaf m (a_leaf p x))
offset_texts t name mark m (a_node i no_part) = plain_texts t name (a_leaf m (a_node i no_part))
offset_texts t name mark m (a_node i (a_node j x)) = plain_texts t name (a_leaf m (a_node i (a_node j x)))
offset_texts t name mark m (a_node i (a_leaf p x)) =
    a_leaf (λ h. absurd cc)
    (a_node (parts_of (a_node (parts_of (a_leaf (λ h. absurd cc) no_part)) (a_leaf m (a_node i (a_leaf p no_part))))) x)

node_texts : (t : NewToken) (k : NodeKind) {e d : Draft} → Fine t → Inner e → Texts d → Texts (with_node t k e d)
node_texts t k p i no_part = a_leaf p (a_node i no_part)
node_texts t k p i (a_node j x) = a_leaf p (a_node i (a_node j x))
node_texts t k p i (a_leaf q x) =
    a_leaf (λ h. absurd cc)
    (a_node (parts_of (a_leaf (λ h. absurd cc) (a_leaf (λ h. absurd cc) (a_node i (a_leaf (λ h. absurd cc) no_part)))))
    (a_leaf (λ h. absurd cc) x))

mark_by : (t name mark : NewToken) {d : Draft} (b : Bool) → Fine mark → Texts d → Texts (cond b (with_offset t name mark d) (plain t name (new_leaf mark d)))
mark_by t name mark true m x = offset_texts t name mark m x
mark_by t name mark false m x = plain_texts t name (a_leaf m x)

opened_texts : (t : NewToken) {d : Draft} → Fine t → Texts d → Texts (opened t d)
opened_texts t p no_part = a_leaf p no_part
opened_texts t p (a_leaf q no_part) = a_leaf p (a_leaf q no_part)
opened_texts t p (a_leaf q (a_node i x)) = a_leaf p (a_leaf q (a_node i x))
opened_texts t p (a_leaf {t = name} q (a_leaf {t = mark} m x)) = mark_by t name mark (is_text (codes "[") mark) m x
opened_texts t p (a_node {k} i x) = node_texts t k p i x

part_by : (t : NewToken) (behind b : Bool) {d : Draft} → Fine t → Texts d → Texts (cond b (opened t d) (new_leaf (cond (is_piece t.kind && behind) (escaped t) t) d))
part_by t behind true p x = opened_texts t p x
part_by t behind false p x = a_leaf (piece_fine t (is_piece t.kind) behind refl p) x

parts_texts : {d : Draft} → Texts d → Texts (parts d)
parts_texts no_part = no_part
parts_texts (a_leaf {t} {d} p x) = part_by t (begins_dollar_brace d) (is_dollar_brace t.kind) p (parts_texts x)
parts_texts (a_node i x) = a_node i (parts_texts x)

-- ---- trees

-- labels and names have a text
abbrev pub FineToken : TokenKind → List ℕ → Type 0
FineToken k text = is_wordy k ≡ true → is_nothing text ≡ false

abbrev pub AllFine : Forest → Type 0
AllFine none = Unit {0}
AllFine (leaf t f) = FineToken t.kind t.text × AllFine f
AllFine (node k c f) = AllFine c × AllFine f

kept_text : (l : List ℕ) → is_nothing l ≡ false → is_nothing (l ++ []) ≡ false
kept_text [] h = h
kept_text (x ∷ l) h = refl

-- a node is edited, or not
quoted_by : (b : Bool) (t : NewTree) → Texts t.1 → Inner (cond b (dollar_brace t) t).1
quoted_by true t x = parts_of (parts_texts x)
quoted_by false t x = parts_of x

module _ (wraps : Patches) where
  abbrev draft_from : ℕ → Forest → Draft
  draft_from id f = drafted (rewriting (all_on wraps)) id f

  -- the parenthesis in the place of a cast `(unset)` is no `\`
  opening_quiet : (id : ℕ) (k : NodeKind) (c : Forest) → is_edited (k, c) ≡ true → Quiet (opening (draft_from id c))
  opening_quiet id kind.Cast (leaf x f) h = record {
    op = refl;
    root = ap (λ (l : List ℕ). bytes_eq l (codes "\\")) (append_assoc x.text (before (pieces (draft_from id f))) [])
        ∙ cast_by x.text (before (pieces (draft_from id f)) ++ []) (bytes_eq (x.text ++ (before (pieces (draft_from id f)) ++ [])) (codes "\\")) refl
        (first_of (bytes_eq (bare x.text) (codes "(unset)")) (of_variable (leaf x f)) h);
  }
    where
      first_of : (a b : Bool) → (a && b) ≡ true → a ≡ true
      first_of true b h = refl
      first_of false b h = h
  opening_quiet id k c h = absurd cc

  unset_by : (id : ℕ) (k : NodeKind) (c : Forest) (b : Bool) → is_edited (k, c) ≡ b → Texts (draft_from id c)
      → Inner (cond b (unset_cast (k, draft_from id c))
      (cond (is_quoted k) (dollar_brace (k, draft_from id c)) (k, draft_from id c))).1
  unset_by id k c true e x = nulled (opening (draft_from id c)) (put_also token.Op (codes ")")) kind.Constant (opening_quiet id k c e) (record { op = refl; root = refl }) refl
  unset_by id k c false e x = quoted_by (is_quoted k) (k, draft_from id c) x

  edited_by : (id : ℕ) (k : NodeKind) (c : Forest) (a b : Bool) → Texts (draft_from id c)
      → Inner (cond a (brace_offset (k, draft_from id c))
      (cond b (real_cast (k, draft_from id c))
      (cond (is_edited (k, c)) (unset_cast (k, draft_from id c))
      (cond (is_quoted k) (dollar_brace (k, draft_from id c)) (k, draft_from id c))))).1
  edited_by id k c true b x = parts_of (bracketed_texts x)
  edited_by id k c false true x = parts_of (float_texts x)
  edited_by id k c false false x = unset_by id k c (is_edited (k, c)) refl x

  pub drafted_texts : (id : ℕ) (f : Forest) → AllFine f → Texts (drafted (rewriting (all_on wraps)) id f)
  drafted_texts id none h = no_part
  drafted_texts id (leaf t f) h = a_leaf (λ w. kept_text t.text (h.0 w)) (drafted_texts id f h.1)
  drafted_texts id (node k c f) h =
      a_node
      (wrapped_inner (wraps id) (node_by every_rule (k, c) (k, draft_from (suc id) c))
      (edited_by (suc id) k c (is_brace_offset k) (is_real_cast (k, c)) (drafted_texts (suc id) c h.0)))
      (drafted_texts (suc (id + count c)) f h.1)
