-- The tiles that are written for a quoted text are tokens of it.
use Rattle.std.proofs.Common.{◌≡◌, ℕ, suc, Bool, true, false, ◌&&◌, ◌||◌, nat_eq, List, [], ◌∷◌, ◌++◌, length, refl, sym, ap, subst}
use Rattle.std.proofs.lemmas.Bool.{and_parts, eqb-true}
use Rattle.php_tree.specs.declared.version.Version.TheVariants.{V74}
use Rattle.php_spellings.specs.declared.table.Kind.{Kind}
use Rattle.php_spellings.specs.declared.table.Kind.TheVariants.{Variable, Op, Piece, CurlyOpen, DollarBrace, VarName, QuotedEnd}
use Rattle.php_spellings.specs.declared.table.Mark.{Mark}
use Rattle.php_spellings.specs.declared.table.Mark.TheVariants.{Double, Back, Here}
use Rattle.php_spellings.specs.Bytes.{is_letter, is_label_byte, begins, begins_by}
use Rattle.php_lexer.specs.Modes.{Mode, code, named, quoted, ends_line, IsLongest}
use Rattle.php_lexer.specs.Lexed.{Stack}
use Rattle.php_relexing.specs.Tiles.{Tile, tile, joined}
use Rattle.php_relexing.specs.Spelled.{Steps}
use Rattle.php_relexing.specs.Labels.{all_label}
use Rattle.php_relexing.specs.Pieces.{is_labelled}
use Rattle.php_relexing.specs.Written.{is_var_name}
use Rattle.php_relexing.proofs.HeredocEnds.{heredoc_ends_stay}
use Rattle.php_relexing.proofs.Parts.{braces_open}
use Rattle.php_relexing.proofs.Picked.{longest_meets}
use Rattle.php_relexing.proofs.WrittenTokens.{marks_are_tokens, variables_are_tokens, named_is_code}
use Rattle.written_tokens.specs.tokens.Levels.{stack_of}
use Rattle.written_tokens.specs.tiles.ContinuesAs.{ContinuesAs, same, put}
use Rattle.written_tokens.specs.texts.TextRows.{begins_dollar_brace, begins_var_name}
use Rattle.written_tokens.proofs.texts.Stepping.{first, step_by, named_steps}
use Rattle.written_tokens.proofs.texts.QuotedTokens.{VariableText, variable_text, curly_next, double_end, back_end, no_end}
use Rattle.written_tokens.proofs.texts.HeredocTails.{heredoc_end}
use Rattle.written_tokens.proofs.texts.OpenRows.{OpenRow, ends, kept, slashed, simple, indexed, fetched, curled, by_name, by_row, head_of, row_goes}
use Rattle.written_tokens.proofs.texts.Seams as seams
use Rattle.written_tokens.proofs.texts.Seams.{Seam, seam_even, piece_stays, escaped_stays}
use Rattle.written_tokens.proofs.texts.Fronts.{goes_no_label, no_label_is, label_not, line_same}
use Rattle.written_tokens.proofs.texts.Units.{alone_source, alone_written, offset_source, offset_written, fetched_source, fetched_written}

abbrev In : Mark → List ℕ → Bool → List Mode → ℕ → Stack
In mark label fresh below depth = stack_of (quoted mark label fresh) (code ∷ below) (suc depth)

-- ---- `{`, code and `}`

abbrev Code : Mark → List ℕ → List Mode → ℕ → Stack
Code mark label below depth = stack_of code (quoted mark label false ∷ code ∷ below) (suc depth)

shut_source : (mark : Mark) (label : List ℕ) (below : List Mode) (depth : ℕ) (ts : List Tile)
    → Steps V74 (Code mark label below depth) (tile Op 125 [] ∷ ts) → Steps V74 (In mark label false below depth) ts
shut_source mark label below depth ts h = (first (Code mark label below depth) Op 125 [] ts h).more

shut_written : (mark : Mark) (label : List ℕ) (over : List Mode) (deep : ℕ) (us : List Tile)
    → Steps V74 (In mark label false over deep) us → Steps V74 (Code mark label over deep) (tile Op 125 [] ∷ us)
shut_written mark label over deep us h = step_by (Code mark label over deep) Op 125 [] us (marks_are_tokens.end_brace V74 (joined us)) h

-- code that one `}` closes in the source, and two of them in the written text
deeper_written : (mark : Mark) (label : List ℕ) (over : List Mode) (deep : ℕ) (us : List Tile)
    → Steps V74 (In mark label false over deep) us → Steps V74
    (stack_of code (code ∷ quoted mark label false ∷ code ∷ over) (suc deep)) (tile Op 125 [] ∷ tile Op 125 [] ∷ us)
deeper_written mark label over deep us h =
    step_by (stack_of code (code ∷ quoted mark label false ∷ code ∷ over) (suc deep)) Op 125 [] (tile Op 125 [] ∷ us) (marks_are_tokens.end_brace V74 (125 ∷ joined us))
    (shut_written mark label over deep us h)

first_stays : (n : ℕ) (ys zs : List Tile) → begins_by n (joined ys) ≡ true → begins_by n (joined (ys ++ zs)) ≡ true
first_stays n [] zs h = absurd cc
first_stays n (tile kind b a ∷ ys) zs h = h

-- ---- behind `${`

var_rest : (b : ℕ) (a r : List ℕ) (x : Bool) → (x && begins (λ c. nat_eq c 91 || nat_eq c 125) r || false) ≡ true → begins is_label_byte r ≡ false
var_rest b a [] x h = refl
var_rest b a (c ∷ r) true h = by_byte (nat_eq c 91) (nat_eq c 125) refl refl h
  where
    by_byte : (s t : Bool) → nat_eq c 91 ≡ s → nat_eq c 125 ≡ t → (s || t || false) ≡ true → is_label_byte c ≡ false
    by_byte true t p q e = ap is_label_byte (eqb-true c 91 p)
    by_byte false true p q e = ap is_label_byte (eqb-true c 125 q)
    by_byte false false p q e = absurd cc
var_rest b a (c ∷ r) false h = absurd cc

name_ends : (b : ℕ) (a r : List ℕ) → IsLongest V74 named (b ∷ a ++ r) VarName (suc (length a)) → begins is_label_byte r ≡ false
name_ends b a r h = var_rest b a r _ (longest_meets is_var_name V74 named (b ∷ a) r VarName refl h)

not_name : (kind : Kind) (b : ℕ) (a : List ℕ) (xs : List Tile) → begins_var_name (tile kind b a ∷ xs) ≡ false → is_var_name kind ≡ false
not_name VarName b a xs h = absurd cc
not_name _ b a xs h = refl

-- a row directly behind `${` steps on as code
row_source : (below : List Mode) (depth : ℕ) (xs ts : List Tile) → begins_var_name xs ≡ false
    → Steps V74 (stack_of named below depth) (xs ++ tile Op 125 [] ∷ ts)
    → Steps V74 (stack_of code below depth) (xs ++ tile Op 125 [] ∷ ts)
row_source below depth [] ts h steps = named_steps below depth Op 125 [] ts refl steps
row_source below depth (tile kind b a ∷ xs) ts h steps = named_steps below depth kind b a (xs ++ tile Op 125 [] ∷ ts) (not_name kind b a xs h) steps

-- ---- the source

module _ (rest after : List Tile) where
  pub row_leaves : {ts us : List Tile} → OpenRow rest after ts us
      → (mark : Mark) (label : List ℕ) (fresh : Bool) (below : List Mode) (depth : ℕ)
      → Steps V74 (In mark label fresh below depth) ts → Steps V74 (stack_of code below depth) rest
  row_leaves (ends b a) mark label fresh below depth h = (first (In mark label fresh below depth) QuotedEnd b a rest h).more
  row_leaves (kept {ts} b a bare row) mark label fresh below depth h =
      row_leaves row mark label (ends_line (b ∷ a)) below depth (first (In mark label fresh below depth) Piece b a ts h).more
  row_leaves (slashed {ts} b c a e s d k row) mark label fresh below depth h =
      row_leaves row mark label (ends_line (b ∷ a)) below depth (first (In mark label fresh below depth) Piece b a ts h).more
  row_leaves (simple {ts} b a row) mark label fresh below depth h =
      row_leaves row mark label false below depth (alone_source mark label fresh (code ∷ below) (suc depth) b a ts (head_of row) h).more
  row_leaves (indexed {ts} b a ks key row) mark label fresh below depth h =
      row_leaves row mark label false below depth (offset_source mark label fresh (code ∷ below) (suc depth) b a ks ts key h)
  row_leaves (fetched {ts} b a c e row) mark label fresh below depth h =
      row_leaves row mark label false below depth (fetched_source mark label fresh (code ∷ below) (suc depth) b a c e ts h).more
  row_leaves (curled {ts} needs stops xs ys d become row) mark label fresh below depth h =
      row_leaves row mark label false below depth
      (shut_source mark label below depth ts
      (become.source (quoted mark label false ∷ code ∷ below) (suc depth) (tile Op 125 [] ∷ ts)
      (first (In mark label fresh below depth) CurlyOpen 123 [] (xs ++ tile Op 125 [] ∷ ts) h).more))
  row_leaves (by_name {ts} needs stops b a xs ys become row) mark label fresh below depth h =
      let low = quoted mark label false ∷ code ∷ below in
      row_leaves row mark label false below depth
      (shut_source mark label below depth ts
      (become.source low (suc depth) (tile Op 125 [] ∷ ts)
      (first (stack_of named low (suc depth)) VarName b a (xs ++ tile Op 125 [] ∷ ts)
      (first (In mark label fresh below depth) DollarBrace 36 (123 ∷ []) (tile VarName b a ∷ xs ++ tile Op 125 [] ∷ ts) h).more).more))
  row_leaves (by_row {ts} needs stops xs ys d become row) mark label fresh below depth h =
      let low = quoted mark label false ∷ code ∷ below in
      row_leaves row mark label false below depth
      (shut_source mark label below depth ts
      (become.source low (suc depth) (tile Op 125 [] ∷ ts)
      (row_source low (suc depth) xs ts d
      (first (In mark label fresh below depth) DollarBrace 36 (123 ∷ []) (xs ++ tile Op 125 [] ∷ ts) h).more)))

-- ---- the written text

-- The written tiles step on from the mode, and their bytes go on as the source's do.
pub record Written (mark : Mark) (label : List ℕ) (fresh : Bool) (over : List Mode) (deep : ℕ) (ts us : List Tile) : Type 0 where
  pub steps : Steps V74 (In mark label fresh over deep) us
  pub seam : Seam mark label fresh (begins_dollar_brace ts) (joined ts) (joined us)

dollar_seam : (mark : Mark) (label : List ℕ) (fresh : Bool) (b : ℕ) (a r s t : List ℕ) → VariableText b a t → Seam mark label fresh false (b ∷ a ++ r) (b ∷ a ++ s)
dollar_seam mark label fresh b [] r s t text = absurd (let h = text.label in cc)
dollar_seam mark label fresh b (c ∷ l) r s t text =
    let letter = (and_parts (is_letter c) (all_label l) text.label).0 in
    subst (λ (x : ℕ). Seam mark label fresh false (x ∷ c ∷ l ++ r) (x ∷ c ∷ l ++ s)) (sym text.dollar) (seams.dollar c c (l ++ r) (l ++ s) letter letter)

module _ (rest after : List Tile) (below over : List Mode) (depth deep : ℕ) (go : ContinuesAs false false rest after) (more : Steps V74 (stack_of code over deep) after) where
  -- the closing token
  ending : (mark : Mark) (label : List ℕ) (fresh : Bool) → is_labelled mark label ≡ true → (b : ℕ) (a : List ℕ)
      → IsLongest V74 (quoted mark label fresh) (b ∷ a ++ joined rest) QuotedEnd (suc (length a))
      → IsLongest V74 (quoted mark label fresh) (b ∷ a ++ joined after) QuotedEnd (suc (length a))
      × Seam mark label fresh false (b ∷ a ++ joined rest) (b ∷ a ++ joined after)
  ending Double label fresh labelled b a h =
      let is = double_end label fresh b a (joined rest) h in
      subst (λ (x : ℕ). IsLongest V74 (quoted Double label fresh) (x ∷ a ++ joined after) QuotedEnd (suc (length a))
      × Seam Double label fresh false (x ∷ a ++ joined rest) (x ∷ a ++ joined after)) (sym is.byte)
      (subst (λ (u : List ℕ). IsLongest V74 (quoted Double label fresh) (34 ∷ u ++ joined after) QuotedEnd
      (suc (length u)) × Seam Double label fresh false (34 ∷ u ++ joined rest) (34 ∷ u ++ joined after))
      (sym is.empty)
      (braces_open.double V74 label fresh (joined after), seams.closed (joined rest) (joined after) refl))
  ending Back label fresh labelled b a h =
      let is = back_end label fresh b a (joined rest) h in
      subst (λ (x : ℕ). IsLongest V74 (quoted Back label fresh) (x ∷ a ++ joined after) QuotedEnd (suc (length a))
      × Seam Back label fresh false (x ∷ a ++ joined rest) (x ∷ a ++ joined after)) (sym is.byte)
      (subst (λ (u : List ℕ). IsLongest V74 (quoted Back label fresh) (96 ∷ u ++ joined after) QuotedEnd
      (suc (length u)) × Seam Back label fresh false (96 ∷ u ++ joined rest) (96 ∷ u ++ joined after))
      (sym is.empty)
      (braces_open.back V74 label fresh (joined after), seams.closed (joined rest) (joined after) refl))
  ending Here label false labelled b a h = absurd (no_end label b a (joined rest) h)
  ending Here label true labelled b a h =
      let stops = goes_no_label go (heredoc_end label b a (joined rest) h).stops in
      let there = heredoc_ends_stay V74 V74 label (b ∷ a) (joined rest) (joined after) labelled stops h in
      (there, seams.label_ends b a (joined rest) (joined after) refl refl (heredoc_end label b a (joined after) there).line)

  pub row_written : {ts us : List Tile} → OpenRow rest after ts us → (mark : Mark) (label : List ℕ) (fresh : Bool)
      → is_labelled mark label ≡ true → Steps V74 (In mark label fresh below depth) ts
      → Written mark label fresh over deep ts us
  row_written (ends b a) mark label fresh labelled h =
      let at = ending mark label fresh labelled b a (first (In mark label fresh below depth) QuotedEnd b a rest h).longest in
      record { steps = step_by (In mark label fresh over deep) QuotedEnd b a after at.0 more; seam = at.1 }
  row_written (kept {ts} {us} b a bare row) mark label fresh labelled h =
      let at = first (In mark label fresh below depth) Piece b a ts h in
      let ih = row_written row mark label (ends_line (b ∷ a)) labelled at.more in
      let is = piece_stays mark label fresh labelled b a (begins_dollar_brace ts) (joined ts) (joined us) ih.seam bare at.longest in
      record {
        steps = step_by (In mark label fresh over deep) Piece b a us is.longest ih.steps;
        seam = seams.pieces b b a a (joined ts) (joined us) at.longest is.longest is.even is.quote refl;
      }
  row_written (slashed {ts} {us} b c a e next bare k row) mark label fresh labelled h =
      let at = first (In mark label fresh below depth) Piece b a ts h in
      let ih = row_written row mark label (ends_line (b ∷ a)) labelled at.more in
      let is = escaped_stays mark label fresh labelled b c a e bare k (ends_line (b ∷ a)) ih.seam next at.longest in
      record {
        steps = step_by (In mark label fresh over deep) Piece c e us is.longest
            (subst (λ (t : Bool). Steps V74 (In mark label t over deep) us) (line_same b a c e bare k) ih.steps);
        seam = seams.pieces b c a e (joined ts) (joined us) at.longest is.longest is.even is.quote is.feed;
      }
  row_written (simple {ts} {us} b a row) mark label fresh labelled h =
      let source = alone_source mark label fresh (code ∷ below) (suc depth) b a ts (head_of row) h in
      let ih = row_written row mark label false labelled source.more in
      let even = seam_even mark label (begins_dollar_brace ts) (joined ts) (joined us) ih.seam in
      record {
        steps = alone_written mark label fresh labelled (code ∷ below) (code ∷ over) (suc depth) (suc deep) b a ts us source even ih.steps;
        seam = dollar_seam mark label fresh b a (joined ts) (joined us) (joined ts) (variable_text mark label fresh b a (joined ts) source.longest);
      }
  row_written (indexed {ts} {us} b a ks key row) mark label fresh labelled h =
      let ih = row_written row mark label false labelled (offset_source mark label fresh (code ∷ below) (suc depth) b a ks ts key h) in
      let old = joined (tile Op 91 [] ∷ ks ++ tile Op 93 [] ∷ ts) in
      let text = variable_text mark label fresh b a old (first (In mark label fresh below depth) Variable b a (tile Op 91 [] ∷ ks ++ tile Op 93 [] ∷ ts) h).longest in
      record {
        steps = offset_written mark label fresh labelled (code ∷ below) (code ∷ over) (suc depth) (suc deep) b a ks ts us key h ih.steps;
        seam = dollar_seam mark label fresh b a old (joined (tile Op 91 [] ∷ ks ++ tile Op 93 [] ∷ us)) old text;
      }
  row_written (fetched {ts} {us} b a c e row) mark label fresh labelled h =
      let source = fetched_source mark label fresh (code ∷ below) (suc depth) b a c e ts h in
      let ih = row_written row mark label false labelled source.more in
      let even = seam_even mark label (begins_dollar_brace ts) (joined ts) (joined us) ih.seam in
      let old = 45 ∷ 62 ∷ c ∷ e ++ joined ts in
      record {
        steps = fetched_written mark label fresh labelled (code ∷ below) (code ∷ over) (suc depth) (suc deep) b a c e ts us source even ih.steps;
        seam = dollar_seam mark label fresh b a old (45 ∷ 62 ∷ c ∷ e ++ joined us) old (variable_text mark label fresh b a old source.variable);
      }
  row_written (curled {ts} {us} needs stops xs ys dollar become row) mark label fresh labelled h =
      let low = quoted mark label false ∷ code ∷ below in
      let high = quoted mark label false ∷ code ∷ over in
      let at = first (In mark label fresh below depth) CurlyOpen 123 [] (xs ++ tile Op 125 [] ∷ ts) h in
      let ih = row_written row mark label false labelled (shut_source mark label below depth ts (become.source low (suc depth) (tile Op 125 [] ∷ ts) at.more)) in
      let go_on = same Op 125 [] (row_goes row go _ _) in
      let inner = become.written false low high (suc depth) (suc deep) (tile Op 125 [] ∷ ts) (tile Op 125 [] ∷ us) go_on at.more (shut_written mark label over deep us ih.steps) in
      let begin = first_stays 36 ys (tile Op 125 [] ∷ us) dollar in
      record {
        steps = step_by (In mark label fresh over deep) CurlyOpen 123 [] (ys ++ tile Op 125 [] ∷ us)
            (braces_open.curly V74 mark label fresh (joined (ys ++ tile Op 125 [] ∷ us)) labelled begin) inner;
        seam = seams.curly (joined (xs ++ tile Op 125 [] ∷ ts)) (joined (ys ++ tile Op 125 [] ∷ us))
            (curly_next mark label fresh (joined (xs ++ tile Op 125 [] ∷ ts)) at.longest) begin;
      }
  row_written (by_name {ts} {us} needs stops b a xs ys become row) mark label fresh labelled h =
      let low = quoted mark label false ∷ code ∷ below in
      let high = quoted mark label false ∷ code ∷ over in
      let old = xs ++ tile Op 125 [] ∷ ts in
      let new = ys ++ tile Op 125 [] ∷ us in
      let at = first (In mark label fresh below depth) DollarBrace 36 (123 ∷ []) (tile VarName b a ∷ old) h in
      let name = first (stack_of named low (suc depth)) VarName b a old at.more in
      let ih = row_written row mark label false labelled (shut_source mark label below depth ts (become.source low (suc depth) (tile Op 125 [] ∷ ts) name.more)) in
      let inner = become.written false low high (suc depth) (suc deep) (tile Op 125 [] ∷ ts) (tile Op 125 [] ∷ us)
      (same Op 125 [] (row_goes row go _ _)) name.more (shut_written mark label over deep us ih.steps) in
      let stop = goes_no_label (become.goes false false (tile Op 125 [] ∷ ts) (tile Op 125 [] ∷ us)
      (same Op 125 [] (row_goes row go _ _))) (no_label_is (joined old) (name_ends b a (joined old) name.longest))
      in
      record {
        steps =
            step_by (In mark label fresh over deep) CurlyOpen 123 [] (tile Variable 36 (b ∷ a) ∷ new)
            (braces_open.curly V74 mark label fresh (joined (tile Variable 36 (b ∷ a) ∷ new)) labelled refl)
            (step_by (Code mark label over deep) Variable 36 (b ∷ a) new
            (variables_are_tokens V74 (b ∷ a) (joined new)
            (named_is_code.name V74 (b ∷ a) (joined old) name.longest) (label_not (joined new) stop)) inner);
        seam = seams.curled (joined (tile VarName b a ∷ old)) (b ∷ a ++ joined new);
      }
  row_written (by_row {ts} {us} needs stops xs ys none become row) mark label fresh labelled h =
      let low = quoted mark label false ∷ code ∷ below in
      let high = code ∷ quoted mark label false ∷ code ∷ over in
      let old = xs ++ tile Op 125 [] ∷ ts in
      let new = ys ++ tile Op 125 [] ∷ tile Op 125 [] ∷ us in
      let at = first (In mark label fresh below depth) DollarBrace 36 (123 ∷ []) old h in
      let code_steps = row_source low (suc depth) xs ts none at.more in
      let ih = row_written row mark label false labelled (shut_source mark label below depth ts (become.source low (suc depth) (tile Op 125 [] ∷ ts) code_steps)) in
      let go_on = same Op 125 [] (put Op 125 [] refl refl) in
      let inner = become.written false low high (suc depth) (suc deep) (tile Op 125 [] ∷ ts)
      (tile Op 125 [] ∷ tile Op 125 [] ∷ us) go_on code_steps (deeper_written mark label over deep us ih.steps) in
      record {
        steps =
            step_by (In mark label fresh over deep) CurlyOpen 123 [] (tile Op 36 [] ∷ tile Op 123 [] ∷ new)
            (braces_open.curly V74 mark label fresh (36 ∷ 123 ∷ joined new) labelled refl)
            (step_by (Code mark label over deep) Op 36 [] (tile Op 123 [] ∷ new) (marks_are_tokens.dollar V74 (joined new))
            (step_by (Code mark label over deep) Op 123 [] new (marks_are_tokens.brace V74 (joined new)) inner));
        seam = seams.curled (joined old) (123 ∷ joined new);
      }
