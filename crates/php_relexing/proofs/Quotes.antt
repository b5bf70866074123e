-- `"` opens a quoted text.
use Rattle.std.proofs.Common.{◌≡◌, ℕ, ◌+◌, Bool, true, false, cond, not, ◌&&◌, nat_eq, List, [], ◌∷◌, ◌++◌, length, None, refl, ap, ◌∙◌, arith}
use Rattle.std.proofs.lemmas.Bool.{and_parts}
use Rattle.php_tree.specs.declared.version.Version.{Version}
use Rattle.php_tree.specs.declared.version.Version.TheVariants.{V74, V83}
use Rattle.php_spellings.specs.declared.table.Kind.TheVariants.{Piece, Quote}
use Rattle.php_spellings.specs.declared.table.Mark.TheVariants.{Double}
use Rattle.php_spellings.specs.declared.table.State.{State}
use Rattle.php_spellings.specs.declared.table.State.TheVariants.{First, Plain, Escaped}
use Rattle.php_spellings.specs.declared.table.Run.TheVariants.{Body}
use Rattle.php_spellings.specs.declared.table.Until.TheVariants.{Closed}
use Rattle.php_spellings.specs.Bytes.{begins_by}
use Rattle.php_lexer.specs.Tails.{begins_part, in_piece, moved, is_run}
use Rattle.php_lexer.specs.Modes.{code, quoted, IsLongest}
use Rattle.php_lexer.specs.Scan.{scan, until_len}
use Rattle.php_relexing.specs.Pieces.{part_begins}
use Rattle.php_relexing.specs.Parts.{QuotesOpen, BinaryQuotesOpen}
use Rattle.php_relexing.proofs.Closed.{double_to, bd_scan}
use Rattle.php_relexing.proofs.PieceRuns.{piece_len}
use Rattle.php_relexing.proofs.Pieces.{state_behind, piece_of}
use Rattle.php_relexing.proofs.PieceLaws.{is_escaped, not_escaped}
use Rattle.php_relexing.proofs.Scanned.{found, longest_of}

quote_scan : (v : Version) (s : List ℕ) → until_len Closed First s ≡ None → scan v code (34 ∷ s) ≡ found Quote 1
quote_scan V74 s e = rw e refl
quote_scan V83 s e = rw e refl

first_plain : (bs : List ℕ) → until_len Closed First bs ≡ until_len Closed Plain bs
first_plain [] = refl
first_plain (b ∷ bs) = refl

no_text : (s : List ℕ) → part_begins s ≡ true → until_len Closed First s ≡ None
no_text [] h = absurd cc
no_text (b ∷ s) h = rw h refl

not_two : (x y : Bool) → (not x && not y) ≡ true → (x ≡ false) × (y ≡ false)
not_two true y h = absurd cc
not_two false true h = absurd cc
not_two false false h = (refl, refl)

-- a piece is neither barred nor closed
piece_over : (s : State) (x u : List ℕ) → is_run (Body Double) [] s x u ≡ true → until_len Closed (state_behind Double s x) u ≡ None → until_len Closed s (x ++ u) ≡ None
piece_over s [] u h e = e
piece_over First (b ∷ x) u h e =
    let (here, more) = and_parts (in_piece Double [] First b (x ++ u)) (is_run (Body Double) [] (moved (Body Double) First b) x u) h in
    let is = not_two (nat_eq b 34) (begins_part b (x ++ u)) here in
    rw (is.1, is.0, piece_over (moved (Body Double) First b) x u more e) refl
piece_over Plain (b ∷ x) u h e =
    let (here, more) = and_parts (in_piece Double [] Plain b (x ++ u)) (is_run (Body Double) [] (moved (Body Double) Plain b) x u) h in
    let is = not_two (nat_eq b 34) (begins_part b (x ++ u)) here in
    rw (is.1, is.0, piece_over (moved (Body Double) Plain b) x u more e) refl
piece_over Escaped (b ∷ x) u h e = rw (piece_over (moved (Body Double) Escaped b) x u h e) refl

-- behind a piece a part begins, where the text doesn't close
barred : (t p : Bool) (n : ℕ) → t ≡ false → cond (not t && not p) (1 + n) 0 ≡ 0 → p ≡ true
barred true p n h e = absurd cc
barred false true n h e = refl
barred false false n h e = absurd (omega arith)

stop_none : (s : State) (c : ℕ) (u : List ℕ) → is_escaped s ≡ false → nat_eq c 34 ≡ false → piece_len Double [] s (c ∷ u) ≡ 0 → until_len Closed s (c ∷ u) ≡ None
stop_none First c u e h z = rw (barred (nat_eq c 34) (begins_part c u) (piece_len Double [] (moved (Body Double) First c) u) h z) refl
stop_none Plain c u e h z = rw (barred (nat_eq c 34) (begins_part c u) (piece_len Double [] (moved (Body Double) Plain c) u) h z) refl
stop_none Escaped c u e h z = absurd cc

end_none : (s : State) (u : List ℕ) → begins_by 34 u ≡ false → piece_len Double [] s u ≡ 0 → until_len Closed s u ≡ None
end_none s [] h z = refl
end_none s (c ∷ u) h z = stop_none s c u (not_escaped Double [] s c u z) h z

-- a text that a piece begins, and that goes on, has no end as a text without parts
piece_none : (v : Version) (a s : List ℕ) → begins_by 34 s ≡ false → IsLongest v (quoted Double [] false) (a ++ s) Piece (length a) → until_len Closed First (a ++ s) ≡ None
piece_none v a s e h =
    let is = piece_of v Double [] false a s h in
    first_plain (a ++ s) ∙ piece_over Plain a s is.run (end_none (state_behind Double Plain a) s e is.stops)

pub quotes_open : QuotesOpen
quotes_open = record {
  part = λ v s h. longest_of v code (34 ∷ s) Quote 1 (quote_scan v s (no_text s h));
  piece = λ v w a s e h. longest_of w code (34 ∷ a ++ s) Quote 1 (quote_scan w (a ++ s) (piece_none v a s e h));
}

pub binary_quotes_open : BinaryQuotesOpen
binary_quotes_open = record {
  part = λ v b s is h. longest_of v code (b ∷ 34 ∷ s) Quote 2 (bd_scan v b s is ∙ ap double_to (no_text s h));
  piece = λ v w b a s is e h. longest_of w code (b ∷ 34 ∷ a ++ s) Quote 2 (bd_scan w b (a ++ s) is ∙ ap double_to (piece_none v a s e h));
}
