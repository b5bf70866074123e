-- Tokens of quoted texts before bytes that are the same up to an edit of names.
use Rattle.std.proofs.Common.{◌≡◌, ℕ, suc, ◌+◌, Bool, true, false, cond, List, [], ◌∷◌, ◌++◌, length, codes, Option, Some, None, refl, sym, ap, ◌∙◌, arith}
use Rattle.php_tree.specs.declared.version.Version.TheVariants.{V74}
use Rattle.php_spellings.specs.declared.table.Kind.{Kind}
use Rattle.php_spellings.specs.declared.table.Kind.TheVariants.{InlineHtml, Variable, Label, Digits, Op, Piece, CurlyOpen, DollarBrace, QuotedEnd}
use Rattle.php_spellings.specs.declared.table.Mark.{Mark}
use Rattle.php_spellings.specs.declared.table.Mark.TheVariants.{Double, Back, Here}
use Rattle.php_spellings.specs.declared.table.State.{State}
use Rattle.php_spellings.specs.declared.table.State.TheVariants.{First}
use Rattle.php_spellings.specs.declared.table.Run.TheVariants.{Labels, Body}
use Rattle.php_spellings.specs.declared.table.Shape.TheVariants as shape
use Rattle.php_spellings.specs.declared.table.Spot.TheVariants.{Begin}
use Rattle.php_spellings.specs.declared.table.Follow.TheVariants.{Anything, Dollar}
use Rattle.php_spellings.specs.declared.table.Tail.TheVariants.{When, SomeOf, Shaped, EndLine}
use Rattle.php_spellings.specs.Bytes.{lower}
use Rattle.php_lexer.specs.Tails.{in_piece, moved}
use Rattle.php_lexer.specs.RulesQuoted.{from_line, end_rows}
use Rattle.php_lexer.specs.Modes.{Mode, html, code, named, quoted, offset, property, quoted_mode_step, mode_step_of, IsLongest}
use Rattle.php_lexer.specs.Scan.{scan, scan_by, behind, tail_len, some_len, add_to, here_len, longer}
use Rattle.php_relexing.specs.Labels.{all_label}
use Rattle.php_relexing.proofs.PieceRuns.{piece_len, piece_scan}
use Rattle.php_relexing.proofs.Scanned.{found, found_length, scan_of, longest_of, rescanned}
use Rattle.written_tokens.proofs.names.Shared.{Share, both, byte_same, run_same, low_same, digits_same, hex_same, binary_same, end_same, arrow_same, piece_same}

pub share_behind : (x r s : List ℕ) → Share r s → Share (x ++ r) (x ++ s)
share_behind [] r s h = h
share_behind (b ∷ x) r s h = both b (share_behind x r s h)

-- none, or the same first byte
pub data SameFront : List ℕ → List ℕ → Type 0 where
  nothing : SameFront [] []
  first : {r s : List ℕ} (c : ℕ) → Share r s → SameFront (c ∷ r) (c ∷ s)

abbrev pub is_piece : Kind → Bool
is_piece Piece = true
is_piece _ = false

abbrev kind_found : Option (Kind × ℕ) → Kind
kind_found None = Piece
kind_found (Some x) = x.0

-- ---- what is counted

label_tail : (label r s : List ℕ) → Share r s → tail_len label (SomeOf Labels First) r ≡ tail_len label (SomeOf Labels First) s
label_tail label r s h = ap some_len (run_same label h First)

dollar_tail : (label r s : List ℕ) → Share r s → tail_len label (When Dollar) r ≡ tail_len label (When Dollar) s
dollar_tail label r s h = ap here_len (byte_same 36 refl h)

any_tail : (label r s : List ℕ) → Share r s → tail_len label (When Anything) r ≡ tail_len label (When Anything) s
any_tail label r s h = refl

end_tail : (label : List ℕ) → all_label label ≡ true → (r s : List ℕ) → Share r s → tail_len label EndLine r ≡ tail_len label EndLine s
end_tail label ok r s h = end_same label ok h

add_same : (p q : Option ℕ) → p ≡ q → add_to 0 p ≡ add_to 0 q
add_same p q e = ap (add_to 0) e

-- ---- quoted texts

module _ (mark : Mark) (label : List ℕ) (fresh : Bool) (ok : all_label label ≡ true) where
  ends_by : (m : Mark) (f : Bool) (r s : List ℕ) → Share r s → scan_by label (end_rows m f) r ≡ scan_by label (end_rows m f) s
  ends_by Double f r s h = ap (λ (o : Option ℕ). longer QuotedEnd o None) (low_same (codes "\"") (tail_len label (When Anything)) (any_tail label) refl r s h)
  ends_by Back f r s h = ap (λ (o : Option ℕ). longer QuotedEnd o None) (low_same (codes "`") (tail_len label (When Anything)) (any_tail label) refl r s h)
  ends_by Here true r s h = ap (λ (o : Option ℕ). longer QuotedEnd (add_to 0 o) None) (end_tail label ok r s h)
  ends_by Here false r s h = refl

  abbrev Parts : List ℕ → Option (Kind × ℕ) → Option (Kind × ℕ)
  Parts bs o =
      longer Variable (behind lower (codes "$") (tail_len label (SomeOf Labels First)) bs)
      (longer CurlyOpen (behind lower (codes "{") (tail_len label (When Dollar)) bs)
      (longer DollarBrace (behind lower (codes "${") (tail_len label (When Anything)) bs) o))

  parts_same : (r s : List ℕ) (o : Option (Kind × ℕ)) → Share r s → Parts r o ≡ Parts s o
  parts_same r s o h =
      let one = low_same (codes "$") (tail_len label (SomeOf Labels First)) (label_tail label) refl r s h in
      let two = low_same (codes "{") (tail_len label (When Dollar)) (dollar_tail label) refl r s h in
      let three = low_same (codes "${") (tail_len label (When Anything)) (any_tail label) refl r s h in
      ap (λ (x : Option ℕ). longer Variable x
      (longer CurlyOpen (behind lower (codes "{") (tail_len label (When Dollar)) r)
      (longer DollarBrace (behind lower (codes "${") (tail_len label (When Anything)) r) o))) one
      ∙ ap (λ (x : Option ℕ). longer Variable (behind lower (codes "$") (tail_len label (SomeOf Labels First)) s)
      (longer CurlyOpen x (longer DollarBrace (behind lower (codes "${") (tail_len label (When Anything)) r) o)))
      two
      ∙ ap (λ (x : Option ℕ). longer Variable (behind lower (codes "$") (tail_len label (SomeOf Labels First)) s)
      (longer CurlyOpen (behind lower (codes "{") (tail_len label (When Dollar)) s) (longer DollarBrace x o)))
      three

  abbrev Pieces : List ℕ → Option (Kind × ℕ)
  Pieces bs = longer Piece (add_to 0 (some_len (piece_len mark label (from_line fresh) bs))) (scan_by label (end_rows mark fresh) bs)

  scan_is : (bs : List ℕ) → scan V74 (quoted mark label fresh) bs ≡ Parts bs (Pieces bs)
  scan_is bs = refl

  pieces_same : (r s : List ℕ) → piece_len mark label (from_line fresh) r ≡ piece_len mark label (from_line fresh) s → Share r s → Pieces r ≡ Pieces s
  pieces_same r s e h =
      ap (λ (n : ℕ). longer Piece (add_to 0 (some_len n)) (scan_by label (end_rows mark fresh) r)) e
      ∙ ap (λ (o : Option (Kind × ℕ)). longer Piece (add_to 0 (some_len (piece_len mark label (from_line fresh) s))) o) (ends_by mark fresh r s h)

  scan_same : (r s : List ℕ) → piece_len mark label (from_line fresh) r ≡ piece_len mark label (from_line fresh) s
      → Share r s → scan V74 (quoted mark label fresh) r ≡ scan V74 (quoted mark label fresh) s
  scan_same r s e h = parts_same r s (Pieces r) h ∙ ap (λ (o : Option (Kind × ℕ)). Parts s o) (pieces_same r s e h)

  -- a piece goes as far
  stop_by : (t : Bool) (n : ℕ) → cond t (1 + n) 0 ≡ 0 → t ≡ false
  stop_by true n e = absurd (omega arith)
  stop_by false n e = refl

  stop_same : (st : State) → {r s : List ℕ} → SameFront r s → piece_len mark label st r ≡ 0 → piece_len mark label st s ≡ 0
  stop_same st nothing e = refl
  stop_same st (first {r} {s} c h) e =
      let out : in_piece mark label st c s ≡ false = sym (piece_same mark label ok st c h)
      ∙ stop_by (in_piece mark label st c r) (piece_len mark label (moved (Body mark) st c) r) e in
      rw out refl

  step_by : (t : Bool) (n m : ℕ) → cond t (1 + n) 0 ≡ suc m → (t ≡ true) × (n ≡ m)
  step_by true n m e = (refl, omega arith)
  step_by false n m e = absurd (omega arith)

  body_same : (x : List ℕ) (st : State) (r s : List ℕ) → Share r s → SameFront r s → piece_len mark label st (x ++ r) ≡ length x → piece_len mark label st (x ++ s) ≡ length x
  body_same [] st r s h front e = stop_same st front e
  body_same (b ∷ x) st r s h front e =
      let (goes, more) = step_by (in_piece mark label st b (x ++ r)) (piece_len mark label (moved (Body mark) st b) (x ++ r)) (length x) e in
      let here : in_piece mark label st b (x ++ s) ≡ true = sym (piece_same mark label ok st b (share_behind x r s h)) ∙ goes in
      let rest = body_same x (moved (Body mark) st b) r s h front more in
      rw (here, rest) (omega arith)

  -- one token
  piece_by : (kind : Kind) (b : ℕ) (a r s : List ℕ) → Share r s → (is_piece kind ≡ true → SameFront r s) → (t : Bool)
      → in_piece mark label (from_line fresh) b (a ++ r) ≡ t
      → scan V74 (quoted mark label fresh) (b ∷ a ++ r) ≡ found kind (suc (length a))
      → scan V74 (quoted mark label fresh) (b ∷ a ++ s) ≡ found kind (suc (length a))
  piece_by kind b a r s h front true e is =
      let old : found Piece (piece_len mark label (from_line fresh) (b ∷ a ++ r)) ≡ found kind (suc (length a)) = sym (piece_scan V74 mark label fresh b (a ++ r) e) ∙ is in
      let kinds : Piece ≡ kind = ap kind_found old in
      let size : piece_len mark label (from_line fresh) (b ∷ a ++ r) ≡ suc (length a) =
      found_length Piece kind (piece_len mark label (from_line fresh) (b ∷ a ++ r)) (suc (length a)) old in
      let new : in_piece mark label (from_line fresh) b (a ++ s) ≡ true = sym (piece_same mark label ok (from_line fresh) b (share_behind a r s h)) ∙ e in
      let same = body_same (b ∷ a) (from_line fresh) r s h (front (sym (ap is_piece kinds))) size in
      piece_scan V74 mark label fresh b (a ++ s) new ∙ ap (λ (n : ℕ). found Piece n) same ∙ ap (λ (k : Kind). found k (suc (length a))) kinds
  piece_by kind b a r s h front false e is =
      let new : in_piece mark label (from_line fresh) b (a ++ s) ≡ false = sym (piece_same mark label ok (from_line fresh) b (share_behind a r s h)) ∙ e in
      let size : piece_len mark label (from_line fresh) (b ∷ a ++ r) ≡ piece_len mark label (from_line fresh) (b ∷ a ++ s) = rw (e, new) refl in
      sym (scan_same (b ∷ a ++ r) (b ∷ a ++ s) size (both b (share_behind a r s h))) ∙ is

  pub quoted_stays : (kind : Kind) (b : ℕ) (a r s : List ℕ) → Share r s → (is_piece kind ≡ true → SameFront r s)
      → IsLongest V74 (quoted mark label fresh) (b ∷ a ++ r) kind (suc (length a))
      → IsLongest V74 (quoted mark label fresh) (b ∷ a ++ s) kind (suc (length a))
  quoted_stays kind b a r s h front is =
      longest_of V74 (quoted mark label fresh) (b ∷ a ++ s) kind (suc (length a))
      (piece_by kind b a r s h front (in_piece mark label (from_line fresh) b (a ++ r)) refl (scan_of V74 (quoted mark label fresh) (b ∷ a ++ r) kind (suc (length a)) is))

-- ---- simple offsets and properties

whole_tail : (r s : List ℕ) → Share r s → tail_len [] (Shaped shape.Digits Begin) r ≡ tail_len [] (Shaped shape.Digits Begin) s
whole_tail r s h = digits_same h Begin

hex_tail : (r s : List ℕ) → Share r s → tail_len [] (Shaped shape.Hexadecimal Begin) r ≡ tail_len [] (Shaped shape.Hexadecimal Begin) s
hex_tail r s h = hex_same h Begin

binary_tail : (r s : List ℕ) → Share r s → tail_len [] (Shaped shape.Binary Begin) r ≡ tail_len [] (Shaped shape.Binary Begin) s
binary_tail r s h = binary_same h Begin

longer_same : (kind : Kind) (p q : Option ℕ) (o u : Option (Kind × ℕ)) → p ≡ q → o ≡ u → longer kind p o ≡ longer kind q u
longer_same kind p q o u e f = ap (λ (x : Option ℕ). longer kind x o) e ∙ ap (λ (x : Option (Kind × ℕ)). longer kind q x) f

offset_same : (r s : List ℕ) → Share r s → scan V74 offset r ≡ scan V74 offset s
offset_same r s h =
    longer_same Op _ _ _ _ (low_same (codes "[") (tail_len [] (When Anything)) (any_tail []) refl r s h)
    (longer_same Op _ _ _ _ (low_same (codes "]") (tail_len [] (When Anything)) (any_tail []) refl r s h)
    (longer_same Op _ _ _ _ (low_same (codes "-") (tail_len [] (When Anything)) (any_tail []) refl r s h)
    (longer_same Variable _ _ _ _ (low_same (codes "$") (tail_len [] (SomeOf Labels First)) (label_tail []) refl r s h)
    (longer_same Label _ _ _ _ (add_same _ _ (label_tail [] r s h))
    (longer_same Digits _ _ _ _ (add_same _ _ (whole_tail r s h))
    (longer_same Digits _ _ _ _ (low_same (codes "0x") (tail_len [] (Shaped shape.Hexadecimal Begin)) hex_tail refl r s h)
    (longer_same Digits _ _ _ _ (low_same (codes "0b") (tail_len [] (Shaped shape.Binary Begin)) binary_tail refl r s h) refl)))))))

property_same : (r s : List ℕ) → Share r s → scan V74 property r ≡ scan V74 property s
property_same r s h =
    longer_same Op _ _ _ _ (low_same (codes "->") (tail_len [] (When Anything)) (any_tail []) refl r s h)
    (longer_same Label _ _ _ _ (add_same _ _ (label_tail [] r s h)) refl)

pub offset_stays : (kind : Kind) (b : ℕ) (a r s : List ℕ) → Share r s
    → IsLongest V74 offset (b ∷ a ++ r) kind (suc (length a))
    → IsLongest V74 offset (b ∷ a ++ s) kind (suc (length a))
offset_stays kind b a r s h is = rescanned V74 V74 offset offset (b ∷ a ++ r) (b ∷ a ++ s) kind (suc (length a))
    (offset_same (b ∷ a ++ r) (b ∷ a ++ s) (both b (share_behind a r s h))) is

pub property_stays : (kind : Kind) (b : ℕ) (a r s : List ℕ) → Share r s
    → IsLongest V74 property (b ∷ a ++ r) kind (suc (length a))
    → IsLongest V74 property (b ∷ a ++ s) kind (suc (length a))
property_stays kind b a r s h is = rescanned V74 V74 property property (b ∷ a ++ r) (b ∷ a ++ s) kind (suc (length a))
    (property_same (b ∷ a ++ r) (b ∷ a ++ s) (both b (share_behind a r s h))) is

-- ---- what a token does to the modes

quoted_mode_steps : (mark : Mark) (label : List ℕ) (kind : Kind) (text r s : List ℕ) → Share r s → quoted_mode_step V74 mark label kind text r ≡ quoted_mode_step V74 mark label kind text s
quoted_mode_steps mark label Variable text r s h = rw (byte_same 91 refl h, arrow_same h) refl
quoted_mode_steps mark label QuotedEnd text r s h = refl
quoted_mode_steps mark label CurlyOpen text r s h = refl
quoted_mode_steps mark label DollarBrace text r s h = refl
quoted_mode_steps mark label _ text r s h = refl

pub mode_step_same : (m : Mode) (kind : Kind) (text r s : List ℕ) → Share r s → mode_step_of V74 m kind text r ≡ mode_step_of V74 m kind text s
mode_step_same html InlineHtml text r s h = refl
mode_step_same html _ text r s h = refl
mode_step_same code kind text r s h = refl
mode_step_same named kind text r s h = refl
mode_step_same (quoted mark label fresh) kind text r s h = quoted_mode_steps mark label kind text r s h
mode_step_same offset Op text r s h = refl
mode_step_same offset _ text r s h = refl
mode_step_same property Label text r s h = refl
mode_step_same property _ text r s h = refl
