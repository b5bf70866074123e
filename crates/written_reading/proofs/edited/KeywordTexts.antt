-- Keywords of a draft have a text in the source.
use Rattle.std.proofs.Common.{◌≡◌, ℕ, suc, ◌+◌, Bool, true, false, cond, ◌&&◌, List, [], ◌∷◌, ◌++◌, codes, map, Option, Some, None, refl, sym, ◌∙◌, subst, append_assoc}
use Rattle.php_tree.specs.declared.version.Version.TheVariants.{V74}
use Rattle.php_tree.specs.declared.token.Token.{Token}
use Rattle.php_tree.specs.declared.token.TokenKind.{TokenKind}
use Rattle.php_tree.specs.declared.token.TokenKind.TheVariants as token
use Rattle.php_tree.specs.declared.kind.NodeKind.{NodeKind}
use Rattle.php_tree.specs.Tree.{File, Forest, none, leaf, node, count, leaves, file_leaves}
use Rattle.php_spellings.specs.Bytes.{is_empty}
use Rattle.php_spellings.specs.Words.{token_of}
use Rattle.php_lexer.specs.Lexed.{Lexeme, Lexed, start, lexeme}
use Rattle.php_relexing.specs.Tiles.{Tile, tile}
use Rattle.php_relexing.specs.Spelled.{lexeme_with, spelled}
use Rattle.php_reading.specs.Reading.{Reads}
use Rattle.tracked_changes.specs.patches.Patches.{Patches, Wrapping, InParens}
use Rattle.tracked_changes.specs.Pieces.{before}
use Rattle.tracked_changes.specs.Draft.{NewToken, Draft, no_more, new_leaf, new_node}
use Rattle.tracked_changes.specs.Leads.{holds_none, without_lead}
use Rattle.tracked_changes.specs.Parens.{in_wrappings}
use Rattle.tracked_changes.specs.Tokens.{is_text}
use Rattle.tracked_changes.specs.Walk.{NewTree, drafted}
use Rattle.syntax_rules.specs.SplitName.{is_keyword}
use Rattle.syntax_rules.specs.BraceOffset.{is_brace_offset, bracket, bracketed, brace_offset}
use Rattle.syntax_rules.specs.RealCast.{is_real_cast, float_first, real_cast}
use Rattle.syntax_rules.specs.UnsetCast.{is_edited, unset_cast}
use Rattle.syntax_rules.specs.DollarBrace.{is_dollar_brace, plain, with_offset, with_node, opened, ends_bare, escaped, is_piece, begins_dollar_brace, parts, dollar_brace}
use Rattle.syntax_rules.specs.Together.{is_quoted, every_rule, node_by, rewriting, all_on}
use Rattle.syntax_rules.specs.Rewritten.{patches}
use Rattle.written_tokens.specs.tokens.Written.{draft_tokens}
use Rattle.written_tokens.specs.tokens.Spaced.{nameless_draft}
use Rattle.written_tokens.proofs.tokens.Tiling.{tokens_are_tiles}
use Rattle.written_reading.specs.drafts.Apart.{KeywordsHaveText}

abbrev HasText : NewToken → Type 0
HasText t = is_keyword t.kind ≡ true → is_empty (before t.text) ≡ false

data Keyed : Draft → Type 0 where
  no_part : Keyed no_more
  a_leaf : {t : NewToken} {d : Draft} → HasText t → Keyed d → Keyed (new_leaf t d)
  a_node : {k : NodeKind} {c d : Draft} → Keyed c → Keyed d → Keyed (new_node k c d)

texts_append : (ts us : List NewToken) → KeywordsHaveText ts → KeywordsHaveText us → KeywordsHaveText (ts ++ us)
texts_append [] us p q = q
texts_append (t ∷ ts) us p q = (p.0, texts_append ts us p.1 q)

keyed_tokens : {d : Draft} → Keyed d → KeywordsHaveText (draft_tokens d)
keyed_tokens no_part = tt
keyed_tokens (a_leaf p x) = (p, keyed_tokens x)
keyed_tokens (a_node {k} {c} {d} x y) = texts_append (draft_tokens c) (draft_tokens d) (keyed_tokens x) (keyed_tokens y)

-- ---- parentheses

without_by : (k : NodeKind) (c d : Draft) (b : Bool) → Keyed c → Keyed (without_lead c) → Keyed d
    → Keyed (without_lead d) → Keyed (cond b (new_node k c (without_lead d)) (new_node k (without_lead c) d))
without_by k c d true i j x y = a_node i y
without_by k c d false i j x y = a_node j x

keyed_without : {d : Draft} → Keyed d → Keyed (without_lead d)
keyed_without no_part = no_part
keyed_without (a_leaf {t} p x) = a_leaf {t = record t { lead = [] }} p x
keyed_without (a_node {k} {c} {d} i x) = without_by k c d (holds_none c) i (keyed_without i) x (keyed_without x)

keyed_wrapped : (ws : List Wrapping) (t : NewTree) → Keyed t.1 → Keyed (in_wrappings ws t).1
keyed_wrapped [] t i = i
keyed_wrapped (InParens ∷ ws) t i = a_leaf (λ h. absurd cc) (a_node (keyed_without (keyed_wrapped ws t i)) (a_leaf (λ h. absurd cc) no_part))

-- ---- offsets and casts

bracket_by : (t : NewToken) (a b : Bool) → is_text (codes "{") t ≡ a → is_text (codes "}") t ≡ b → HasText t → HasText (bracket t)
bracket_by t true b e g p = rw e (λ h. absurd cc)
bracket_by t false true e g p = rw (e, g) (λ h. absurd cc)
bracket_by t false false e g p = rw (e, g) p

keyed_bracketed : {d : Draft} → Keyed d → Keyed (bracketed d)
keyed_bracketed no_part = no_part
keyed_bracketed (a_leaf {t} p x) = a_leaf (bracket_by t (is_text (codes "{") t) (is_text (codes "}") t) refl refl p) (keyed_bracketed x)
keyed_bracketed (a_node i x) = a_node i (keyed_bracketed x)

keyed_float : {d : Draft} → Keyed d → Keyed (float_first d)
keyed_float no_part = no_part
keyed_float (a_leaf p x) = a_leaf (λ h. absurd cc) x
keyed_float (a_node i x) = a_node i x

-- ---- `${`

piece_keyword : (k : TokenKind) → is_piece k ≡ true → is_keyword k ≡ false
piece_keyword token.Piece h = refl
piece_keyword k h = absurd cc

escaped_by : (t : NewToken) (b : Bool) → is_piece t.kind ≡ true → ends_bare false (before t.text) ≡ b → HasText t → HasText (escaped t)
escaped_by t true h e p = rw e (λ w. absurd (let z : false ≡ true = sym (piece_keyword t.kind h) ∙ w in cc))
escaped_by t false h e p = rw e p

piece_by : (t : NewToken) (a b : Bool) → is_piece t.kind ≡ a → HasText t → HasText (cond (a && b) (escaped t) t)
piece_by t true true h p = escaped_by t (ends_bare false (before t.text)) h refl p
piece_by t true false h p = p
piece_by t false b h p = p

keyed_plain : (t name : NewToken) {d : Draft} → Keyed d → Keyed (plain t name d)
keyed_plain t name x = a_leaf (λ h. absurd cc) (a_node (a_leaf (λ h. absurd cc) no_part) x)

keyed_offset : (t name mark : NewToken) {d : Draft} → HasText mark → Keyed d → Keyed (with_offset t name mark d)
keyed_offset t name mark m no_part = keyed_plain t name (a_leaf m no_part)
keyed_offset t name mark m (a_leaf q x) = keyed_plain t name (a_leaf m (a_leaf q x))
keyed_offset t name mark m (a_node i no_part) = keyed_plain t name (a_leaf m (a_node i no_part))
keyed_offset t name mark m (a_node i (a_node j x)) = keyed_plain t name (a_leaf m (a_node i (a_node j x)))
keyed_offset t name mark m (a_node i (a_leaf q x)) =
    a_leaf (λ h. absurd cc) (a_node (a_node (a_leaf (λ h. absurd cc) no_part) (a_leaf m (a_node i (a_leaf q no_part)))) x)

keyed_row : (t : NewToken) (k : NodeKind) {e d : Draft} → HasText t → Keyed e → Keyed d → Keyed (with_node t k e d)
keyed_row t k p i no_part = a_leaf p (a_node i no_part)
keyed_row t k p i (a_node j x) = a_leaf p (a_node i (a_node j x))
keyed_row t k p i (a_leaf q x) =
    a_leaf (λ h. absurd cc)
    (a_node (a_leaf (λ h. absurd cc) (a_leaf (λ h. absurd cc) (a_node i (a_leaf (λ h. absurd cc) no_part)))) (a_leaf (λ h. absurd cc) x))

mark_by : (t name mark : NewToken) {d : Draft} (b : Bool) → HasText mark → Keyed d → Keyed (cond b (with_offset t name mark d) (plain t name (new_leaf mark d)))
mark_by t name mark true m x = keyed_offset t name mark m x
mark_by t name mark false m x = keyed_plain t name (a_leaf m x)

keyed_opened : (t : NewToken) {d : Draft} → HasText t → Keyed d → Keyed (opened t d)
keyed_opened t p no_part = a_leaf p no_part
keyed_opened t p (a_leaf q no_part) = a_leaf p (a_leaf q no_part)
keyed_opened t p (a_leaf q (a_node i x)) = a_leaf p (a_leaf q (a_node i x))
keyed_opened t p (a_leaf {t = name} q (a_leaf {t = mark} m x)) = mark_by t name mark (is_text (codes "[") mark) m x
keyed_opened t p (a_node {k} i x) = keyed_row t k p i x

part_by : (t : NewToken) (behind b : Bool) {d : Draft} → HasText t → Keyed d → Keyed (cond b (opened t d) (new_leaf (cond (is_piece t.kind && behind) (escaped t) t) d))
part_by t behind true p x = keyed_opened t p x
part_by t behind false p x = a_leaf (piece_by t (is_piece t.kind) behind refl p) x

keyed_parts : {d : Draft} → Keyed d → Keyed (parts d)
keyed_parts no_part = no_part
keyed_parts (a_leaf {t} {d} p x) = part_by t (begins_dollar_brace d) (is_dollar_brace t.kind) p (keyed_parts x)
keyed_parts (a_node i x) = a_node i (keyed_parts x)

-- ---- trees

abbrev KeywordText : TokenKind → List ℕ → Type 0
KeywordText k text = is_keyword k ≡ true → is_empty text ≡ false

abbrev AllKeyed : Forest → Type 0
AllKeyed none = Unit {0}
AllKeyed (leaf t f) = KeywordText t.kind t.text × AllKeyed f
AllKeyed (node k c f) = AllKeyed c × AllKeyed f

kept_text : (l : List ℕ) → is_empty l ≡ false → is_empty (l ++ []) ≡ false
kept_text [] h = h
kept_text (x ∷ l) h = refl

quoted_by : (b : Bool) (t : NewTree) → Keyed t.1 → Keyed (cond b (dollar_brace t) t).1
quoted_by true t x = keyed_parts x
quoted_by false t x = x

unset_by : (b c : Bool) (t : NewTree) → Keyed t.1 → Keyed (cond b (unset_cast t) (cond c (dollar_brace t) t)).1
unset_by true c t x = a_leaf (λ h. absurd cc) (a_node (a_leaf (λ h. absurd cc) no_part) (a_leaf (λ h. absurd cc) no_part))
unset_by false c t x = quoted_by c t x

edited_by : (a b c d : Bool) (t : NewTree) → Keyed t.1 → Keyed (cond a (brace_offset t) (cond b (real_cast t) (cond c (unset_cast t) (cond d (dollar_brace t) t)))).1
edited_by true b c d t x = keyed_bracketed x
edited_by false true c d t x = keyed_float x
edited_by false false c d t x = unset_by c d t x

module _ (wraps : Patches) where
  keyed_drafted : (id : ℕ) (f : Forest) → AllKeyed f → Keyed (drafted (rewriting (all_on wraps)) id f)
  keyed_drafted id none h = no_part
  keyed_drafted id (leaf t f) h = a_leaf (λ w. kept_text t.text (h.0 w)) (keyed_drafted id f h.1)
  keyed_drafted id (node k c f) h =
      a_node
      (keyed_wrapped (wraps id) (node_by every_rule (k, c) (k, drafted (rewriting (all_on wraps)) (suc id) c))
      (edited_by (is_brace_offset k) (is_real_cast (k, c)) (is_edited (k, c)) (is_quoted k) (k, drafted (rewriting (all_on wraps)) (suc id) c) (keyed_drafted (suc id) c h.0)))
      (keyed_drafted (suc (id + count c)) f h.1)

-- ---- files

abbrev AllText : List Lexeme → Type 0
AllText [] = Unit {0}
AllText (x ∷ xs) = KeywordText x.kind x.text × AllText xs

spelled_by : (k : Option TokenKind) (lead : List ℕ) (b : ℕ) (a : List ℕ) (rest : List ℕ → List Lexeme)
    → ((l : List ℕ) → AllText (rest l)) → AllText (lexeme_with k lead (b ∷ a) rest)
spelled_by None lead b a rest h = h (lead ++ b ∷ a)
spelled_by (Some k) lead b a rest h = (λ w. refl, h [])

spelled_text : (lead : List ℕ) (ts : List Tile) → AllText (spelled lead ts)
spelled_text lead [] = (λ h. absurd cc, tt)
spelled_text lead (tile kind b a ∷ ts) = spelled_by (token_of kind (b ∷ a)) lead b a (λ l. spelled l ts) (λ l. spelled_text l ts)

leaves_keyed : (f : Forest) (rest : List Token) → AllText (map lexeme (leaves f ++ rest)) → AllKeyed f × AllText (map lexeme rest)
leaves_keyed none rest h = (tt, h)
leaves_keyed (leaf t f) rest h = let (p, q) = leaves_keyed f rest h.1 in ((h.0, p), q)
leaves_keyed (node k c f) rest h =
    let (p, q) = leaves_keyed c (leaves f ++ rest) (subst (λ (ts : List Token). AllText (map lexeme ts)) (append_assoc (leaves c) (leaves f) rest) h) in
    let (r, s) = leaves_keyed f rest q in
    ((p, r), s)

pub keywords_have_text : (bytes : List ℕ) (f : File) → Reads V74 bytes f → KeywordsHaveText (draft_tokens (nameless_draft f).statements)
keywords_have_text bytes f r =
    let row = tokens_are_tiles V74 start [] bytes (map lexeme (file_leaves f))
    (subst (λ (ts : List Token). Lexed V74 start [] bytes (map lexeme ts)) r.parsed.text r.lexed.lexed) in
    let texts : AllText (map lexeme (file_leaves f)) = subst AllText row.tokens (spelled_text [] row.tiles) in
    keyed_tokens (keyed_drafted (patches f.statements) 0 f.statements (leaves_keyed f.statements (f.end ∷ []) texts).0)
