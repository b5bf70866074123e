-- Parts of names have a text in the source.
use Rattle.std.proofs.Common.{◌≡◌, ℕ, Bool, true, false, not, ◌&&◌, ◌||◌, List, [], ◌∷◌, ◌++◌, codes, refl, sym, ap, ◌∙◌, subst, append_assoc}
use Rattle.std.proofs.lemmas.Bool.{not_from_false}
use Rattle.php_tree.specs.declared.token.TokenKind.{TokenKind}
use Rattle.php_tree.specs.declared.token.TokenKind.TheVariants as token
use Rattle.tracked_changes.specs.Pieces.{Piece, old_bytes, before}
use Rattle.tracked_changes.specs.Draft.{NewToken}
use Rattle.tracked_changes.specs.Tokens.{put_also}
use Rattle.syntax_rules.specs.SplitName.{is_label, is_name, is_op, is_keyword, is_nothing, begins_root, is_backslash, is_namespace, deleted, is_one, one_name}
use Rattle.written_tokens.specs.tokens.Drafted.{before_all, all_whole, joins}
use Rattle.written_tokens.specs.tokens.Spaced.{front_text, PartsHaveText}

-- ---- tokens

-- a label or a name
abbrev pub is_wordy : TokenKind → Bool
is_wordy k = is_label k || is_name k

-- such a token has a text in the source
abbrev pub Fine : NewToken → Type 0
Fine t = is_wordy t.kind ≡ true → is_nothing (before t.text) ≡ false

-- an operator that is no `\`
pub record Quiet (t : NewToken) : Type 0 where
  pub op : t.kind ≡ token.Op
  pub root : is_backslash t ≡ false

-- the constant that is put in
abbrev pub null : NewToken
null = put_also token.Label (codes "null")

-- Tokens in a row: labels have a text, apart from a `null` between operators.
pub data Row : List NewToken → Type 0 where
  no_token : Row []
  a_token : {t : NewToken} {ts : List NewToken} → Fine t → Row ts → Row (t ∷ ts)
  a_null : {p q : NewToken} {ts : List NewToken} → Quiet p → Quiet q → Row ts → Row (p ∷ null ∷ q ∷ ts)

pub row_join : {ts us : List NewToken} → Row ts → Row us → Row (ts ++ us)
row_join no_token r = r
row_join (a_token p x) r = a_token p (row_join x r)
row_join (a_null p q x) r = a_null p q (row_join x r)

-- ---- what joins has a text

and_false : (x : Bool) → (x && false) ≡ false
and_false true = refl
and_false false = refl

no_text : (t u : NewToken) → before t.text ≡ [] → is_label t.kind ≡ false → is_one t u ≡ false
no_text t u e h = rw (e, h, and_false (is_op t.kind), and_false (is_keyword t.kind)) refl

text_by : (t u : NewToken) (l : List ℕ) (b : Bool) → before t.text ≡ l → is_label t.kind ≡ b → Fine t → is_one t u ≡ true → is_nothing l ≡ false
text_by t u (x ∷ l) b e h p one = refl
text_by t u [] false e h p one = absurd (let w : false ≡ true = sym (no_text t u e h) ∙ one in cc)
text_by t u [] true e h p one = absurd (let w : true ≡ false = ap is_nothing (sym e) ∙ p (ap (λ (x : Bool). x || is_name t.kind) h) in cc)

part_text : (t u : NewToken) → Fine t → is_one t u ≡ true → is_nothing (before t.text) ≡ false
part_text t u p one = text_by t u (before t.text) (is_label t.kind) refl refl p one

wordy_by : (b l n r w : Bool) → ((b && (l || (n && not r))) || (w && n && r)) ≡ true → (l || n) ≡ true
wordy_by b true n r w h = refl
wordy_by b false true r w h = refl
wordy_by true false false r true h = absurd cc
wordy_by true false false r false h = absurd cc
wordy_by false false false r true h = absurd cc
wordy_by false false false r false h = absurd cc

pub before_append : (ps qs : List Piece) → before (ps ++ qs) ≡ before ps ++ before qs
before_append [] qs = refl
before_append (p ∷ ps) qs = ap (λ (l : List ℕ). old_bytes p ++ l) (before_append ps qs) ∙ sym (append_assoc (old_bytes p) (before ps) (before qs))

some_front : (xs ys : List ℕ) → is_nothing xs ≡ false → is_nothing (xs ++ ys) ≡ false
some_front [] ys h = absurd cc
some_front (x ∷ xs) ys h = refl

one_text : (t u : NewToken) → is_nothing (before t.text) ≡ false → is_nothing (before (one_name t u).text) ≡ false
one_text t u h =
    ap is_nothing (before_append (t.text ++ deleted (before u.lead)) u.text
    ∙ ap (λ (l : List ℕ). l ++ before u.text) (before_append t.text (deleted (before u.lead)))
    ∙ append_assoc (before t.text) (before (deleted (before u.lead))) (before u.text))
    ∙ some_front (before t.text) (before (deleted (before u.lead)) ++ before u.text) h

-- ---- rows

quiet_one : (t u : NewToken) → Quiet t → is_one t u ≡ false
quiet_one t u q = rw (q.root, q.op) refl

quiet_joins : (t : NewToken) (us : List NewToken) → Quiet t → joins t us ≡ false
quiet_joins t [] q = refl
quiet_joins t (u ∷ us) q = quiet_one t u q

alone : (t : NewToken) (us : List NewToken) → joins t us ≡ false → before_all t us ≡ t ∷ us
alone t [] h = refl
alone t (u ∷ us) h = rw h refl

quiet_alone : (t : NewToken) (us : List NewToken) → Quiet t → before_all t us ≡ t ∷ us
quiet_alone t us q = alone t us (quiet_joins t us q)

pub quiet_fine : (t : NewToken) → Quiet t → Fine t
quiet_fine t q h = absurd (let w : false ≡ true = sym (ap is_wordy q.op) ∙ h in cc)

null_one : (u : NewToken) → Quiet u → is_one null u ≡ false
null_one u q = rw (q.op) refl

null_joins : (q : NewToken) (us : List NewToken) → Quiet q → joins null (before_all q us) ≡ false
null_joins q us h = ap (joins null) (quiet_alone q us h) ∙ null_one q h

-- what is first of some tokens has a text, where it is a part of a name
abbrev FrontFine : List NewToken → Type 0
FrontFine [] = Unit {0}
FrontFine (u ∷ us) = Fine u

front_by : (t u : NewToken) (us : List NewToken) (b : Bool) → is_one t u ≡ b → Fine t → FrontFine (before_all t (u ∷ us))
front_by t u us false e p = subst FrontFine (sym (alone t (u ∷ us) e)) p
front_by t u us true e p =
    let whole : before_all t (u ∷ us) ≡ one_name t u ∷ us = rw e refl in
    subst FrontFine (sym whole) (λ h. one_text t u (part_text t u p e))

front_of : (t : NewToken) (us : List NewToken) → Fine t → FrontFine (before_all t us)
front_of t [] p = p
front_of t (u ∷ us) p = front_by t u us (is_one t u) refl p

front_fine : {ts : List NewToken} → Row ts → FrontFine (all_whole ts)
front_fine no_token = tt
front_fine (a_token {t} {ts} p r) = front_of t (all_whole ts) p
front_fine (a_null {p} {q} {ts} x y r) = front_of p (all_whole (null ∷ q ∷ ts)) (quiet_fine p x)

joined_front : (t : NewToken) (us : List NewToken) → FrontFine us → joins t us ≡ true → front_text us ≡ true
joined_front t [] p h = absurd cc
joined_front t (u ∷ us) p h =
    not_from_false (is_nothing (before u.text))
    (p (wordy_by (is_backslash t) (is_label u.kind) (is_name u.kind) (begins_root (before u.text)) (is_label t.kind || is_namespace t) h))

joined_text : (t : NewToken) (us : List NewToken) → Fine t → joins t us ≡ true → is_nothing (before t.text) ≡ false
joined_text t [] p h = absurd cc
joined_text t (u ∷ us) p h = part_text t u p h

no_join : {A : Type 0} (t : NewToken) (us : List NewToken) → joins t us ≡ false → joins t us ≡ true → A
no_join t us e h = absurd (let w : false ≡ true = sym e ∙ h in cc)

pub row_texts : {ts : List NewToken} → Row ts → PartsHaveText ts
row_texts no_token = tt
row_texts (a_token {t} {ts} p r) = (λ h. (joined_text t (all_whole ts) p h, joined_front t (all_whole ts) (front_fine r) h), row_texts r)
row_texts (a_null {p} {q} {ts} x y r) = (
  no_join p (all_whole (null ∷ q ∷ ts)) (quiet_joins p (all_whole (null ∷ q ∷ ts)) x),
  (
    no_join null (all_whole (q ∷ ts)) (null_joins q (all_whole ts) y),
    (no_join q (all_whole ts) (quiet_joins q (all_whole ts) y), row_texts r),
  ),
)
