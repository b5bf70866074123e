-- Whether a text ends in a bare `$`, byte by byte.
use Rattle.std.proofs.Common.{
  ◌≡◌,
  ℕ,
  ◌<◌,
  if◌then◌else◌,
  suc,
  ◌+◌,
  ◌-◌,
  ◌==◌,
  ◌&&◌,
  Bool,
  true,
  false,
  not,
  List,
  [],
  ◌∷◌,
  ◌++◌,
  length,
  refl,
  ap,
  sym,
  ◌∙◌,
  arith,
  append_assoc,
  append-nil,
  codes,
  take,
  drop,
}
use Rattle.std.proofs.lemmas.Bool.{false≢true}
use Rattle.tracked_changes.specs.Pieces.{Piece, before, kept}
use Rattle.php_tree.specs.declared.token.Token.{Token}
use Rattle.tracked_changes.specs.Draft.{NewToken}
use Rattle.syntax_rules.specs.SplitName.{begins_root, is_keyword, is_name, is_nothing}
use Rattle.syntax_rules.specs.declared.rules.Rules.{Rules}
use Rattle.syntax_rules.specs.HashComment.{lead_by}
use Rattle.syntax_rules.specs.Together.{token_by}
use Rattle.syntax_rules.specs.DollarBrace.{before_last, ends_bare, escaped}
use Rattle.syntax_upgrade.specs.Writing.{Recorded, changed_next, kept_next, pieces_next}
use Rattle.syntax_upgrade.specs.Written.{Written, opens_next, space_next, token_next}
use Rattle.syntax_upgrade.specs.Steps.{begun_next, recorded_next}
use Rattle.php_tree.specs.declared.token.TokenKind.{TokenKind}

-- what is known behind some bytes: whether they end so, and whether a backslash takes the next byte along
abbrev pub bare_behind : Bool → Bool → List ℕ → Bool
bare_behind bare escaped [] = bare
bare_behind bare escaped (b ∷ bs) = bare_behind (not escaped && (b == 36)) (not escaped && (b == 92)) bs

pub bare_is : (escaped : Bool) (b : ℕ) (bs : List ℕ) (bare : Bool) → bare_behind bare escaped (b ∷ bs) ≡ ends_bare escaped (b ∷ bs)
bare_is escaped b [] bare = refl
bare_is escaped b (c ∷ bs) bare = bare_is (not escaped && (b == 92)) c bs (not escaped && (b == 36))

pub bare_all : (bs : List ℕ) → bare_behind false false bs ≡ ends_bare false bs
bare_all [] = refl
bare_all (b ∷ bs) = bare_is false b bs false

pub before_last_before : (bs : List ℕ) → before (before_last bs) ≡ bs
before_last_before [] = refl
before_last_before (b ∷ []) = refl
before_last_before (b ∷ c ∷ bs) = ap (λ (xs : List ℕ). b ∷ xs) (before_last_before (c ∷ bs))

pub bare_some : (bs : List ℕ) → ends_bare false bs ≡ true → 0 < length bs
bare_some [] h = absurd (false≢true h)
bare_some (b ∷ bs) h = omega arith

-- ---- a backslash before the last byte

kept_first : (r : Recorded) → changed_next (codes "\\") r ≡ changed_next (codes "\\") (kept_next [] r)
kept_first r = ap (λ (bs : List ℕ). record { out = bs ++ codes "\\"; edits = r.edits + 1; goes_on = true }) (sym (append-nil r.out))

pub kept_twice : (b : ℕ) (bs : List ℕ) (r : Recorded) → kept_next bs (kept_next (b ∷ []) r) ≡ kept_next (b ∷ bs) r
kept_twice b bs r =
    ap (λ (xs : List ℕ). record { out = xs; edits = r.edits; goes_on = false }) (append_assoc r.out (b ∷ []) bs)

last_steps : (xs : List ℕ) (y : ℕ) (r : Recorded)
    → pieces_next (before_last (xs ++ y ∷ [])) r ≡ kept_next (y ∷ []) (changed_next (codes "\\") (kept_next xs r))
last_steps [] y r = ap (kept_next (y ∷ [])) (kept_first r)
last_steps (x ∷ []) y r = refl
last_steps (x ∷ z ∷ xs) y r =
    last_steps (z ∷ xs) y (kept_next (x ∷ []) r)
    ∙ ap (λ (q : Recorded). kept_next (y ∷ []) (changed_next (codes "\\") q)) (kept_twice x (z ∷ xs) r)

-- the last byte of some
record Last (bs : List ℕ) : Type 0 where
  last : ℕ
  whole : bs ≡ take (length bs - 1) bs ++ last ∷ []
  end : drop (length bs - 1) bs ≡ last ∷ []

last_of : (bs : List ℕ) → 0 < length bs → Last bs
last_of [] h = absurd (omega (arith, h))
last_of (b ∷ []) h = record { last = b; whole = refl; end = refl }
last_of (b ∷ c ∷ bs) h =
    let l = last_of (c ∷ bs) (omega arith) in
    let one : suc (suc (length bs)) - 1 ≡ suc (length (c ∷ bs) - 1) = omega arith in
    record {
      last = l.last;
      whole = ap (λ (xs : List ℕ). b ∷ xs) l.whole ∙ ap (λ (n : ℕ). take n (b ∷ c ∷ bs) ++ l.last ∷ []) (sym one);
      end = ap (λ (n : ℕ). drop n (b ∷ c ∷ bs)) one ∙ l.end;
    }

text_steps : (bs : List ℕ) (r : Recorded) → 0 < length bs
    → kept_next (drop (length bs - 1) bs) (changed_next (codes "\\") (kept_next (take (length bs - 1) bs) r)) ≡ pieces_next (before_last bs) r
text_steps bs r h =
    let l = last_of bs h in
    ap (λ (e : List ℕ). kept_next e (changed_next (codes "\\") (kept_next (take (length bs - 1) bs) r))) l.end
    ∙ sym (last_steps (take (length bs - 1) bs) l.last r)
    ∙ ap (λ (xs : List ℕ). pieces_next (before_last xs) r) (sym l.whole)

abbrev made : TokenKind → List Piece → List Piece → NewToken
made k lead text = record { kind = k; lead = lead; text = text }

-- before the text of a token with these bytes
abbrev begun_by : Bool → TokenKind → List Piece → List ℕ → Written → Written
begun_by n k lead bs w = record {
  recorded = space_next (n && w.behind && is_name k && begins_root bs && is_nothing (before lead)) (opens_next w.parens (pieces_next lead w.recorded));
  behind = if is_nothing bs then w.behind && is_nothing (before lead) else is_keyword k;
  parens = 0;
}

-- the text of a token with a backslash before its last byte
abbrev backslashed : List ℕ → Recorded → Recorded
backslashed bs r = kept_next (drop (length bs - 1) bs) (changed_next (codes "\\") (kept_next (take (length bs - 1) bs) r))

escaped_steps : (n : Bool) (k : TokenKind) (lead : List Piece) (xs ys : List ℕ) (b : Bool) (w : Written) → xs ≡ ys → 0 < length xs → b ≡ true
    → recorded_next (backslashed xs) (begun_next n (record { more = 0; token = made k lead (kept xs ∷ []) }) lead w)
    ≡ token_next n (if b then made k lead (before_last ys) else made k lead (kept xs ∷ [])) w
escaped_steps n k lead [] ys b w e h t = absurd (omega (arith, h))
escaped_steps n k lead (x ∷ xs) ys b w e h t =
    let same : before (before_last (x ∷ xs)) ≡ (x ∷ xs) ++ [] = before_last_before (x ∷ xs) ∙ sym (append-nil (x ∷ xs)) in
    let begun : Written = begun_by n k lead ((x ∷ xs) ++ []) w in
    ap (λ (r : Recorded). recorded_next (λ (q : Recorded). r) begun) (text_steps (x ∷ xs) begun.recorded h)
    ∙ ap (λ (bs : List ℕ). recorded_next (pieces_next (before_last (x ∷ xs))) (begun_by n k lead bs w)) (sym same)
    ∙ ap (λ (bs : List ℕ). token_next n (made k lead (before_last bs)) w) e
    ∙ ap (λ (c : Bool). token_next n (if c then made k lead (before_last ys) else made k lead (kept (x ∷ xs) ∷ [])) w) (sym t)

-- a text that ends in a bare `$`
pub backslash_steps : (r : Rules) (t : Token) (w : Written) → 0 < length t.text → ends_bare false t.text ≡ true
    → recorded_next (backslashed t.text) (begun_next r.split_names (record { more = 0; token = token_by r t }) (lead_by r.hash_comments t.lead) w)
    ≡ token_next r.split_names (escaped (token_by r t)) w
backslash_steps r t w h e =
    escaped_steps r.split_names t.kind (lead_by r.hash_comments t.lead) t.text (before (token_by r t).text) (ends_bare false (before (token_by r t).text)) w
    (sym (append-nil t.text)) h (ap (ends_bare false) (append-nil t.text) ∙ e)
