-- How the source and the written text go on behind a unit of a quoted text, and the pieces before it.
use Rattle.std.proofs.Common.{◌≡◌, ℕ, suc, Bool, true, false, not, ◌&&◌, nat_eq, List, [], ◌∷◌, ◌++◌, length, ◌⊎◌, inl, inr, refl, sym, ap, ◌∙◌, subst}
use Rattle.std.proofs.lemmas.Bool.{and_parts, eqb-true}
use Rattle.php_tree.specs.declared.version.Version.TheVariants.{V74}
use Rattle.php_spellings.specs.declared.table.Kind.TheVariants.{Piece}
use Rattle.php_spellings.specs.declared.table.Mark.{Mark}
use Rattle.php_spellings.specs.declared.table.Mark.TheVariants.{Double, Back, Here}
use Rattle.php_spellings.specs.Bytes.{is_line_end, is_letter, begins_by}
use Rattle.php_lexer.specs.Heredocs.{ends_heredoc}
use Rattle.php_lexer.specs.Modes.{quoted, ends_line, IsLongest}
use Rattle.php_relexing.specs.Pieces.{ends_dollar, escape_last, is_labelled, is_heredoc, closing}
use Rattle.php_relexing.proofs.HeredocEnds.{pieces_stay_before_labels}
use Rattle.php_relexing.proofs.PieceLaws.{pieces_stay_before_parts}
use Rattle.php_relexing.proofs.PieceEnds.{escaped_pieces_stay, pieces_stay_before_ends}
use Rattle.written_tokens.proofs.texts.Evenly.{Dull, Even, dull, dull_dollar, dull_brace, dull_double, dull_back, even_front, even_line, even_escaped}
use Rattle.written_tokens.proofs.texts.PieceTokens.{two_pieces, no_bare}
use Rattle.written_tokens.proofs.texts.QuotedTokens.{Last, last_of}

-- How the bytes of the source and the written ones go on in a quoted text, by the next unit; true where it is `${`.
pub data Seam (mark : Mark) (label : List ℕ) (fresh : Bool) : Bool → List ℕ → List ℕ → Type 0 where
  dollar : (c d : ℕ) (r s : List ℕ) → is_letter c ≡ true → is_letter d ≡ true → Seam mark label fresh false (36 ∷ c ∷ r) (36 ∷ d ∷ s)
  curly : (r s : List ℕ) → begins_by 36 r ≡ true → begins_by 36 s ≡ true → Seam mark label fresh false (123 ∷ r) (123 ∷ s)
  curled : (r s : List ℕ) → Seam mark label fresh true (36 ∷ 123 ∷ r) (123 ∷ 36 ∷ s)
  closed : (r s : List ℕ) → is_heredoc mark ≡ false → Seam mark label fresh false (closing mark ∷ r) (closing mark ∷ s)
  label_ends : (b : ℕ) (a r s : List ℕ) → mark ≡ Here → fresh ≡ true → ends_heredoc label (b ∷ a ++ s) ≡ true → Seam mark label fresh false (b ∷ a ++ r) (b ∷ a ++ s)
  pieces :
      (b c : ℕ) (a e r s : List ℕ) →
      IsLongest V74 (quoted mark label fresh) (b ∷ a ++ r) Piece (suc (length a)) →
      IsLongest V74 (quoted mark label fresh) (c ∷ e ++ s) Piece (suc (length e)) →
      Even (b ∷ a ++ r) (c ∷ e ++ s) →
      begins_by 34 r ≡ begins_by 34 s →
      nat_eq b 10 ≡ nat_eq c 10 →
      Seam mark label fresh false (b ∷ a ++ r) (c ∷ e ++ s)

-- ---- what they begin with

dull_closing : (mark : Mark) → is_heredoc mark ≡ false → Dull (closing mark)
dull_closing Double h = dull_double
dull_closing Back h = dull_back
dull_closing Here h = absurd cc

-- the bytes go on evenly, but before the label that ends a heredoc
even_or_fresh : {mark : Mark} {label : List ℕ} {fresh : Bool} {t : Bool} {r s : List ℕ} → Seam mark label fresh t r s → Even r s ⊎ (fresh ≡ true)
even_or_fresh (dollar c d r s p q) = inl (dull 36 36 (c ∷ r) (d ∷ s) dull_dollar dull_dollar)
even_or_fresh (curly r s p q) = inl (dull 123 123 r s dull_brace dull_brace)
even_or_fresh (curled r s) = inl (dull 36 123 (123 ∷ r) (36 ∷ s) dull_dollar dull_brace)
even_or_fresh {mark} (closed r s h) = inl (dull (closing mark) (closing mark) r s (dull_closing mark h) (dull_closing mark h))
even_or_fresh (label_ends b a r s h k e) = inr k
even_or_fresh (pieces b c a e r s h k even q f) = inl even

pub seam_even : (mark : Mark) (label : List ℕ) (t : Bool) (r s : List ℕ) → Seam mark label false t r s → Even r s
seam_even mark label t r s seam = by_case (even_or_fresh seam)
  where
    by_case : Even r s ⊎ (false ≡ true) → Even r s
    by_case (inl e) = e
    by_case (inr k) = absurd cc

-- a line feed comes in both or in neither
pub seam_feed : {mark : Mark} {label : List ℕ} {fresh : Bool} {t : Bool} {r s : List ℕ} → Seam mark label fresh t r s → begins_by 10 r ≡ begins_by 10 s
seam_feed (dollar c d r s p q) = refl
seam_feed (curly r s p q) = refl
seam_feed (curled r s) = refl
seam_feed (closed r s h) = refl
seam_feed (label_ends b a r s h k e) = refl
seam_feed (pieces b c a e r s h k even q f) = f

-- ---- a piece

line_of : (t : List ℕ) (l : Last t) → ends_line t ≡ true → is_line_end l.byte ≡ true
line_of t l h = sym l.line ∙ h

module _ (mark : Mark) (label : List ℕ) (fresh : Bool) (labelled : is_labelled mark label ≡ true) (b : ℕ) (a : List ℕ) where
  even_by : (r s : List ℕ) → Even r s ⊎ (ends_line (b ∷ a) ≡ true) → Even (b ∷ a ++ r) (b ∷ a ++ s)
  even_by r s (inl e) = even_front (b ∷ a) r s e
  even_by r s (inr h) =
      let l = last_of b a in
      subst (λ (u : List ℕ). Even (u ++ r) (u ++ s)) (sym l.same) (even_line l.front l.byte r s (line_of (b ∷ a) l h))

  at_label : (r s : List ℕ) → mark ≡ Here → ends_line (b ∷ a) ≡ true → ends_heredoc label s ≡ true
      → IsLongest V74 (quoted mark label fresh) (b ∷ a ++ r) Piece (suc (length a))
      → IsLongest V74 (quoted mark label fresh) (b ∷ a ++ s) Piece (suc (length a))
  at_label r s here line ends h =
      let l = last_of b a in
      subst (λ (m : Mark). IsLongest V74 (quoted m label fresh) (b ∷ a ++ s) Piece (suc (length a))) (sym here)
      (subst (λ (u : List ℕ). IsLongest V74 (quoted Here label fresh) (u ++ s) Piece (length u)) (sym l.same)
      (pieces_stay_before_labels V74 V74 label fresh l.front l.byte r s (subst (λ (m : Mark). is_labelled m label ≡ true) here labelled) (line_of (b ∷ a) l line) ends
      (subst (λ (u : List ℕ). IsLongest V74 (quoted Here label fresh) (u ++ r) Piece (length u)) l.same
      (subst (λ (m : Mark). IsLongest V74 (quoted m label fresh) (b ∷ a ++ r) Piece (suc (length a))) here h))))

  -- what a piece before such bytes is in the written text
  pub record PieceStays (r s : List ℕ) : Type 0 where
    pub longest : IsLongest V74 (quoted mark label fresh) (b ∷ a ++ s) Piece (suc (length a))
    pub even : Even (b ∷ a ++ r) (b ∷ a ++ s)
    pub quote : begins_by 34 r ≡ begins_by 34 s

  abbrev Behind : Bool → List ℕ → List ℕ → Type 0
  Behind t r s = Seam mark label (ends_line (b ∷ a)) t r s

  abbrev IsPiece : List ℕ → Type 0
  IsPiece r = IsLongest V74 (quoted mark label fresh) (b ∷ a ++ r) Piece (suc (length a))

  stays : {t : Bool} {r s : List ℕ} → Behind t r s → (t && ends_dollar false (b ∷ a)) ≡ false → IsPiece r → IsPiece s
  stays (dollar c d r s p q) bare h = pieces_stay_before_parts V74 V74 mark label fresh (b ∷ a) (36 ∷ c ∷ r) (36 ∷ d ∷ s) labelled (rw p refl) (rw q refl) refl refl h
  stays (curly r s p q) bare h = pieces_stay_before_parts V74 V74 mark label fresh (b ∷ a) (123 ∷ r) (123 ∷ s) labelled p q refl (no_bare mark label fresh b a r h) h
  stays (curled r s) bare h = pieces_stay_before_parts V74 V74 mark label fresh (b ∷ a) (36 ∷ 123 ∷ r) (123 ∷ 36 ∷ s) labelled refl refl refl bare h
  stays (closed r s k) bare h = pieces_stay_before_ends V74 V74 mark label fresh (b ∷ a) r s k h
  stays (label_ends c e r s here line ends) bare h = at_label (c ∷ e ++ r) (c ∷ e ++ s) here line ends h
  stays (pieces c d e f r s k l even q g) bare h = absurd (two_pieces mark label fresh b a c e r h k)

  quotes : {t : Bool} {r s : List ℕ} → Behind t r s → IsPiece r → begins_by 34 r ≡ begins_by 34 s
  quotes (dollar c d r s p q) h = refl
  quotes (curly r s p q) h = refl
  quotes (curled r s) h = refl
  quotes (closed r s k) h = refl
  quotes (label_ends c e r s here line ends) h = refl
  quotes (pieces c d e f r s k l even q g) h = absurd (two_pieces mark label fresh b a c e r h k)

  pub piece_stays : (t : Bool) (r s : List ℕ) → Behind t r s → (t && ends_dollar false (b ∷ a)) ≡ false → IsPiece r → PieceStays r s
  piece_stays t r s seam bare h = record {
    longest = stays seam bare h;
    even = even_by r s (even_or_fresh seam);
    quote = quotes seam h;
  }

-- ---- a piece with a backslash before its last `$`

escaped_feed : (f : Bool) (b c : ℕ) (a e : List ℕ) → ends_dollar f (b ∷ a) ≡ true → escape_last (b ∷ a) ≡ c ∷ e → nat_eq b 10 ≡ nat_eq c 10
escaped_feed f b c [] e h k =
    let dollar : b ≡ 36 = eqb-true b 36 (and_parts (not f) (nat_eq b 36) h).1 in
    ap (λ (x : ℕ). nat_eq x 10) dollar ∙ ap (begins_by 10) k
escaped_feed f b c (x ∷ a) e h k = ap (begins_by 10) k

module _ (mark : Mark) (label : List ℕ) (fresh : Bool) (labelled : is_labelled mark label ≡ true) (b c : ℕ)
    (a e : List ℕ) (bare : ends_dollar false (b ∷ a) ≡ true) (same : escape_last (b ∷ a) ≡ c ∷ e) where
  pub record EscapedStays (r s : List ℕ) : Type 0 where
    pub longest : IsLongest V74 (quoted mark label fresh) (c ∷ e ++ s) Piece (suc (length e))
    pub even : Even (b ∷ a ++ r) (c ∷ e ++ s)
    pub quote : begins_by 34 r ≡ begins_by 34 s
    pub feed : nat_eq b 10 ≡ nat_eq c 10

  pub escaped_stays : (now : Bool) {t : Bool} {r s : List ℕ} → Seam mark label now t r s → t ≡ true
      → IsLongest V74 (quoted mark label fresh) (b ∷ a ++ r) Piece (suc (length a)) → EscapedStays r s
  escaped_stays now (dollar x y r s p q) t h = absurd cc
  escaped_stays now (curly r s p q) t h = absurd cc
  escaped_stays now (curled r s) t h = record {
    longest =
        subst (λ (u : List ℕ). IsLongest V74 (quoted mark label fresh) (u ++ 123 ∷ 36 ∷ s) Piece (length u)) same
        (escaped_pieces_stay V74 V74 mark label fresh (b ∷ a) (36 ∷ 123 ∷ r) (123 ∷ 36 ∷ s) labelled refl bare h);
    even = subst (λ (u : List ℕ). Even (b ∷ a ++ 36 ∷ 123 ∷ r) (u ++ 123 ∷ 36 ∷ s)) same (even_escaped false b a (36 ∷ 123 ∷ r) (123 ∷ 36 ∷ s) bare);
    quote = refl;
    feed = escaped_feed false b c a e bare same;
  }
  escaped_stays now (closed r s k) t h = absurd cc
  escaped_stays now (label_ends x y r s here line ends) t h = absurd cc
  escaped_stays now (pieces x y u v r s k l even q g) t h = absurd cc
