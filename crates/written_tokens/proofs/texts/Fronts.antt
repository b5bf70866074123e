-- No label goes on in the written bytes where none does in the source.
use Rattle.std.proofs.Common.{◌≡◌, ℕ, Bool, true, false, not, ◌&&◌, ◌||◌, nat_eq, List, [], ◌∷◌, ◌++◌, refl, sym, ap, ◌∙◌}
use Rattle.std.proofs.lemmas.Bool.{and_parts, eqb-true}
use Rattle.php_spellings.specs.Bytes.{is_label_byte, begins}
use Rattle.php_lexer.specs.Heredocs.{no_label}
use Rattle.php_relexing.specs.Tiles.{Tile, joined}
use Rattle.php_relexing.specs.Pieces.{ends_dollar, escape_last}
use Rattle.php_lexer.specs.Modes.{ends_line}
use Rattle.written_tokens.specs.tiles.ContinuesAs.{ContinuesAs, ended, same, put, hash, brace, escaped, is_mark, is_put}
use Rattle.written_tokens.proofs.texts.QuotedTokens.{line_at}

pub no_label_is : (bs : List ℕ) → begins is_label_byte bs ≡ false → no_label bs ≡ true
no_label_is bs h = ap not h

pub label_not : (bs : List ℕ) → no_label bs ≡ true → begins is_label_byte bs ≡ false
label_not bs h = not_it (begins is_label_byte bs) h
  where
    not_it : (t : Bool) → not t ≡ true → t ≡ false
    not_it true k = absurd cc
    not_it false k = refl

-- what edits put in begins no label
put_by : (c : ℕ) (t : Bool) (u v w x y z o : Bool) → nat_eq c 40 ≡ t → nat_eq c 91 ≡ u → nat_eq c 93 ≡ v
    → nat_eq c 125 ≡ w → nat_eq c 92 ≡ x → nat_eq c 35 ≡ y → nat_eq c 41 ≡ z
    → (t || u || v || w || x || y || (o && z)) ≡ true → is_label_byte c ≡ false
put_by c true u v w x y z o p q r s m n l h = ap is_label_byte (eqb-true c 40 p)
put_by c false true v w x y z o p q r s m n l h = ap is_label_byte (eqb-true c 91 q)
put_by c false false true w x y z o p q r s m n l h = ap is_label_byte (eqb-true c 93 r)
put_by c false false false true x y z o p q r s m n l h = ap is_label_byte (eqb-true c 125 s)
put_by c false false false false true y z o p q r s m n l h = ap is_label_byte (eqb-true c 92 m)
put_by c false false false false false true z o p q r s m n l h = ap is_label_byte (eqb-true c 35 n)
put_by c false false false false false false true o p q r s m n l h = ap is_label_byte (eqb-true c 41 l)
put_by c false false false false false false false true p q r s m n l h = absurd cc
put_by c false false false false false false false false p q r s m n l h = absurd cc

put_label : (tight : Bool) (c : ℕ) → is_put tight c ≡ true → is_label_byte c ≡ false
put_label tight c h = put_by c (nat_eq c 40) (nat_eq c 91) (nat_eq c 93) (nat_eq c 125) (nat_eq c 92) (nat_eq c 35) (nat_eq c 41) (not tight) refl refl refl refl refl refl refl h

escaped_label : (b c : ℕ) (a e : List ℕ) → escape_last (b ∷ a) ≡ c ∷ e → no_label (b ∷ []) ≡ true → no_label (c ∷ []) ≡ true
escaped_label b c [] e h k = ap (λ (u : List ℕ). not (begins is_label_byte u)) (sym h)
escaped_label b c (x ∷ a) e h k = ap (λ (u : List ℕ). not (begins is_label_byte u)) (sym h) ∙ k

pub goes_no_label : {tight gap : Bool} {ts us : List Tile} → ContinuesAs tight gap ts us → no_label (joined ts) ≡ true → no_label (joined us) ≡ true
goes_no_label ended h = refl
goes_no_label (same kind b a g) h = h
goes_no_label {tight} (put kind c e k gap) h = ap not (put_label tight c (and_parts (is_mark kind) (is_put tight c) k).1)
goes_no_label (hash a e) h = refl
goes_no_label (brace kind e) h = refl
goes_no_label (escaped b c a e d k) h = escaped_label b c a e k h

-- ---- a backslash before a last `$` changes no line end

bare_dollar : (f : Bool) (b : ℕ) → (not f && nat_eq b 36) ≡ true → b ≡ 36
bare_dollar f b h = eqb-true b 36 (and_parts (not f) (nat_eq b 36) h).1

-- the text before its last `$`
pub record BareText (t : List ℕ) : Type 0 where
  pub front : List ℕ
  pub whole : t ≡ front ++ 36 ∷ []
  pub slashed : escape_last t ≡ (front ++ 92 ∷ []) ++ 36 ∷ []

bare_text : (f : Bool) (b : ℕ) (a : List ℕ) → ends_dollar f (b ∷ a) ≡ true → BareText (b ∷ a)
bare_text f b [] h =
    let is = bare_dollar f b h in
    record {
      front = [];
      whole = ap (λ (x : ℕ). x ∷ []) is;
      slashed = ap (λ (x : ℕ). 92 ∷ x ∷ []) is;
    }
bare_text f b (c ∷ a) h =
    let ih = bare_text (not f && nat_eq b 92) c a h in
    record {
      front = b ∷ ih.front;
      whole = ap (λ (u : List ℕ). b ∷ u) ih.whole;
      slashed = ap (λ (u : List ℕ). b ∷ u) ih.slashed;
    }

pub line_same : (b : ℕ) (a : List ℕ) (c : ℕ) (e : List ℕ) → ends_dollar false (b ∷ a) ≡ true → escape_last (b ∷ a) ≡ c ∷ e → ends_line (b ∷ a) ≡ ends_line (c ∷ e)
line_same b a c e h k =
    let is = bare_text false b a h in
    ap ends_line is.whole ∙ line_at is.front 36 ∙ sym (ap ends_line (sym k ∙ is.slashed) ∙ line_at (is.front ++ 92 ∷ []) 36)
