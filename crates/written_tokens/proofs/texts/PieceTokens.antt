-- What stands directly behind a piece of a quoted text.
use Rattle.std.proofs.Common.{◌≡◌, ℕ, suc, ◌+◌, Bool, true, false, cond, not, nat_eq, List, [], ◌∷◌, ◌++◌, length, refl, sym, ap, ◌∙◌, subst, arith}
use Rattle.std.proofs.lemmas.Bool.{and_parts, eqb-true}
use Rattle.php_tree.specs.declared.version.Version.TheVariants.{V74}
use Rattle.php_spellings.specs.declared.table.Kind.TheVariants.{Piece}
use Rattle.php_spellings.specs.declared.table.Mark.{Mark}
use Rattle.php_spellings.specs.declared.table.Mark.TheVariants.{Double, Back, Here}
use Rattle.php_spellings.specs.declared.table.State.{State}
use Rattle.php_spellings.specs.declared.table.State.TheVariants.{First, Plain, Escaped}
use Rattle.php_spellings.specs.declared.table.Run.TheVariants.{Body}
use Rattle.php_spellings.specs.Bytes.{is_line_end}
use Rattle.php_lexer.specs.Tails.{in_piece, escape, moved, is_run}
use Rattle.php_lexer.specs.RulesQuoted.{from_line}
use Rattle.php_lexer.specs.Modes.{quoted, ends_line, IsLongest}
use Rattle.php_relexing.specs.Pieces.{ends_dollar}
use Rattle.php_relexing.proofs.PieceRuns.{piece_len}
use Rattle.php_relexing.proofs.Pieces.{state_behind, piece_of}
use Rattle.php_relexing.proofs.PieceLaws.{is_escaped, moved_escaped, line_state, part_stops, not_escaped}
use Rattle.written_tokens.proofs.texts.QuotedTokens.{Last, last_of}

-- ---- no piece

state_last : (mark : Mark) (s : State) (x : List ℕ) (e : ℕ) → state_behind mark s (x ++ e ∷ []) ≡ moved (Body mark) (state_behind mark s x) e
state_last mark s [] e = refl
state_last mark s (b ∷ x) e = state_last mark (moved (Body mark) s b) x e

-- a state that is not behind a backslash is that of a line's front, or plain
at_front : (t : Bool) (s : State) (e : ℕ) → is_escaped (cond t First (escape s e)) ≡ false → cond t First (escape s e) ≡ from_line t
at_front true s e h = refl
at_front false First e h = by_slash (nat_eq e 92) h
  where
    by_slash : (u : Bool) → is_escaped (cond u Escaped Plain) ≡ false → cond u Escaped Plain ≡ Plain
    by_slash true k = absurd cc
    by_slash false k = refl
at_front false Plain e h = by_slash (nat_eq e 92) h
  where
    by_slash : (u : Bool) → is_escaped (cond u Escaped Plain) ≡ false → cond u Escaped Plain ≡ Plain
    by_slash true k = absurd cc
    by_slash false k = refl
at_front false Escaped e h = refl

heredoc_state : (s : State) (t : List ℕ) (l : Last t) → is_escaped (state_behind Here s t) ≡ false → state_behind Here s t ≡ from_line (ends_line t)
heredoc_state s t l h =
    let whole : state_behind Here s t ≡ cond (is_line_end l.byte) First (escape (state_behind Here s l.front) l.byte) =
    ap (state_behind Here s) l.same ∙ state_last Here s l.front l.byte in
    whole ∙ at_front (is_line_end l.byte) (state_behind Here s l.front) l.byte (ap is_escaped (sym whole) ∙ h) ∙ ap from_line (sym l.line)

plain_same : (st : State) (fresh : Bool) (c : ℕ) (bs : List ℕ) → is_escaped st ≡ false
    → (in_piece Double [] st c bs ≡ in_piece Double [] (from_line fresh) c bs)
    × (in_piece Back [] st c bs ≡ in_piece Back [] (from_line fresh) c bs)
plain_same Escaped fresh c bs h = absurd cc
plain_same First true c bs h = (refl, refl)
plain_same First false c bs h = (refl, refl)
plain_same Plain true c bs h = (refl, refl)
plain_same Plain false c bs h = (refl, refl)

unlabelled : (label : List ℕ) (st : State) (c : ℕ) (bs : List ℕ)
    → (in_piece Double label st c bs ≡ in_piece Double [] st c bs)
    × (in_piece Back label st c bs ≡ in_piece Back [] st c bs)
unlabelled label First c bs = (refl, refl)
unlabelled label Plain c bs = (refl, refl)
unlabelled label Escaped c bs = (refl, refl)

-- behind a piece the state tells no more than whether a line begins
front_same : (mark : Mark) (label : List ℕ) (s : State) (b : ℕ) (a : List ℕ) (c : ℕ) (bs : List ℕ)
    → is_escaped (state_behind mark s (b ∷ a)) ≡ false → in_piece mark label (state_behind mark s (b ∷ a)) c bs ≡
    in_piece mark label (from_line (ends_line (b ∷ a))) c bs
front_same Double label s b a c bs h =
    let st = state_behind Double s (b ∷ a) in
    let to = from_line (ends_line (b ∷ a)) in
    (unlabelled label st c bs).0 ∙ (plain_same st (ends_line (b ∷ a)) c bs h).0 ∙ sym (unlabelled label to c bs).0
front_same Back label s b a c bs h =
    let st = state_behind Back s (b ∷ a) in
    let to = from_line (ends_line (b ∷ a)) in
    (unlabelled label st c bs).1 ∙ (plain_same st (ends_line (b ∷ a)) c bs h).1 ∙ sym (unlabelled label to c bs).1
front_same Here label s b a c bs h = ap (λ (st : State). in_piece Here label st c bs) (heredoc_state s (b ∷ a) (last_of b a) h)

none_inside : (t : Bool) (n : ℕ) → cond t (1 + n) 0 ≡ 0 → t ≡ false
none_inside true n h = absurd (omega arith)
none_inside false n h = refl

-- no piece stands directly behind a piece
pub two_pieces : (mark : Mark) (label : List ℕ) (fresh : Bool) (b : ℕ) (a : List ℕ) (c : ℕ) (e r : List ℕ)
    → IsLongest V74 (quoted mark label fresh) (b ∷ a ++ (c ∷ e ++ r)) Piece (suc (length a))
    → IsLongest V74 (quoted mark label (ends_line (b ∷ a))) (c ∷ e ++ r) Piece (suc (length e)) → ⊥
two_pieces mark label fresh b a c e r h k =
    let one = piece_of V74 mark label fresh (b ∷ a) (c ∷ e ++ r) h in
    let two = piece_of V74 mark label (ends_line (b ∷ a)) (c ∷ e) r k in
    let st = state_behind mark (from_line fresh) (b ∷ a) in
    let plain = not_escaped mark label st c (e ++ r) one.stops in
    let out : in_piece mark label st c (e ++ r) ≡ false = none_inside (in_piece mark label st c (e ++ r)) (piece_len mark label (moved (Body mark) st c) (e ++ r)) one.stops in
    let goes : in_piece mark label (from_line (ends_line (b ∷ a))) c (e ++ r) ≡ true =
    (and_parts (in_piece mark label (from_line (ends_line (b ∷ a))) c (e ++ r))
    (is_run (Body mark) label (moved (Body mark) (from_line (ends_line (b ∷ a))) c) e r) two.run).0 in
    let clash : true ≡ false = sym goes ∙ sym (front_same mark label (from_line fresh) b a c (e ++ r) plain) ∙ out in
    cc

-- ---- no bare `$` before `{`

bare_run : (mark : Mark) (label : List ℕ) (s : State) (x r : List ℕ) → ends_dollar (is_escaped s) x ≡ true → is_run (Body mark) label s x (123 ∷ r) ≡ true → ⊥
bare_run mark label s [] r h run = cc
bare_run mark label s (b ∷ []) r h run =
    let (plain, dollar) = and_parts (not (is_escaped s)) (nat_eq b 36) h in
    let here : in_piece mark label s b (123 ∷ r) ≡ true = (and_parts (in_piece mark label s b (123 ∷ r)) true run).0 in
    let at : in_piece mark label s 36 (123 ∷ r) ≡ true = subst (λ (x : ℕ). in_piece mark label s x (123 ∷ r) ≡ true) (eqb-true b 36 dollar) here in
    let stop : piece_len mark label s (36 ∷ 123 ∷ r) ≡ 0 = part_stops mark label s (36 ∷ 123 ∷ r) (unescaped (is_escaped s) plain) refl in
    let out = none_inside (in_piece mark label s 36 (123 ∷ r)) (piece_len mark label (moved (Body mark) s 36) (123 ∷ r)) stop in
    let clash : true ≡ false = sym at ∙ out in
    cc
  where
    unescaped : (t : Bool) → not t ≡ true → t ≡ false
    unescaped true k = absurd cc
    unescaped false k = refl
bare_run mark label s (b ∷ c ∷ x) r h run =
    let (here, more) = and_parts (in_piece mark label s b (c ∷ x ++ 123 ∷ r)) (is_run (Body mark) label (moved (Body mark) s b) (c ∷ x) (123 ∷ r)) run in
    bare_run mark label (moved (Body mark) s b) (c ∷ x) r (subst (λ (t : Bool). ends_dollar t (c ∷ x) ≡ true) (sym (moved_escaped mark s b)) h) more

pub no_bare : (mark : Mark) (label : List ℕ) (fresh : Bool) (b : ℕ) (a r : List ℕ)
    → IsLongest V74 (quoted mark label fresh) (b ∷ a ++ 123 ∷ r) Piece (suc (length a))
    → ends_dollar false (b ∷ a) ≡ false
no_bare mark label fresh b a r h = by_test (ends_dollar false (b ∷ a)) refl
  where
    by_test : (t : Bool) → ends_dollar false (b ∷ a) ≡ t → t ≡ false
    by_test false p = refl
    by_test true p = absurd (bare_run mark label (from_line fresh) (b ∷ a) r
        (subst (λ (t : Bool). ends_dollar t (b ∷ a) ≡ true) (sym (line_state fresh)) p)
        (piece_of V74 mark label fresh (b ∷ a) (123 ∷ r) h).run)
