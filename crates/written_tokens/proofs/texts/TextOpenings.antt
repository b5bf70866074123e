-- A quoted text becomes the one that is written.
use Rattle.std.proofs.Common.{◌≡◌, ℕ, suc, Bool, true, false, ◌&&◌, List, [], ◌∷◌, ◌++◌, length, refl, sym, subst}
use Rattle.php_tree.specs.declared.version.Version.TheVariants.{V74}
use Rattle.php_spellings.specs.declared.table.Kind.{Kind}
use Rattle.php_spellings.specs.declared.table.Kind.TheVariants.{
  Space,
  Comment,
  Tag,
  OpenEcho,
  InlineHtml,
  Variable,
  Word,
  Label,
  Keyword,
  Name,
  Decimal,
  Octal,
  Hexadecimal,
  Binary,
  Digits,
  Float,
  Text,
  Quote,
  Backtick,
  HeredocStart,
  Cast,
  Op,
  AttributeOpen,
  Semi,
  Close,
  Piece,
  CurlyOpen,
  DollarBrace,
  VarName,
  QuotedEnd,
}
use Rattle.php_spellings.specs.declared.table.Mark.{Mark}
use Rattle.php_spellings.specs.declared.table.Mark.TheVariants.{Double, Back, Here}
use Rattle.php_lexer.specs.Modes.{Mode, code, quoted, ModeStep, enter, code_mode_step, label_of, IsLongest}
use Rattle.php_lexer.specs.Lexed.{stepped_by}
use Rattle.php_relexing.specs.Tiles.{Tile, tile, joined}
use Rattle.php_relexing.specs.Spelled.{Steps}
use Rattle.php_relexing.specs.Pieces.{is_labelled}
use Rattle.php_relexing.proofs.Bools.{and_false}
use Rattle.written_tokens.specs.tokens.Levels.{stack_of}
use Rattle.written_tokens.specs.tiles.ContinuesAs.{ContinuesAs, same, is_trivia, stops_cast}
use Rattle.written_tokens.specs.tiles.IsRewrittenTo.{IsRewrittenTo, gap_behind}
use Rattle.written_tokens.specs.texts.TextRows.{TextRow, begins_dollar_brace, TextsBecome}
use Rattle.written_tokens.proofs.texts.HeredocLines.{start_text, heredoc_lines_stay, line_label}
use Rattle.written_tokens.proofs.texts.OpenRows.{open_row, row_goes, row_gap}
use Rattle.written_tokens.proofs.texts.Seams.{Seam, seam_feed}
use Rattle.written_tokens.proofs.texts.Stepping.{first, step_by}
use Rattle.written_tokens.proofs.texts.TextsWritten.{row_leaves, row_written}
use Rattle.written_tokens.proofs.texts.OpeningTokens.{quote_stays, back_stays}

-- ---- the whole text

-- an opening token of a kind, which leaves the mode
pub record Opens (kind : Kind) (b : ℕ) (a : List ℕ) (mark : Mark) (label : List ℕ) (fresh : Bool) : Type 0 where
  pub mode_step : code_mode_step kind (b ∷ a) ≡ enter (quoted mark label fresh) code
  pub stops : stops_cast kind ≡ true
  pub labelled : (r : List ℕ) → IsLongest V74 code (b ∷ a ++ r) kind (suc (length a)) → is_labelled mark label ≡ true
  pub stays : (t : Bool) (r s : List ℕ) → Seam mark label fresh t r s
      → IsLongest V74 code (b ∷ a ++ r) kind (suc (length a)) → IsLongest V74 code (b ∷ a ++ s) kind (suc (length a))

module _ (kind : Kind) (b : ℕ) (a : List ℕ) (mark : Mark) (label : List ℕ) (fresh : Bool) (opens : Opens kind b a mark label fresh) (ts us : List Tile) (row : TextRow ts us) where
  tight_row : (rest after : List Tile) (tight gap : Bool) → ContinuesAs (tight && false) (gap_behind gap ts) rest after → ContinuesAs false false rest after
  tight_row rest after tight gap g =
      subst (λ (t : Bool). ContinuesAs t false rest after) (and_false tight)
      (subst (λ (t : Bool). ContinuesAs (tight && false) t rest after) (row_gap row gap) g)

  loose_row : (rest after : List Tile) (gap : Bool) → ContinuesAs false (gap_behind gap ts) rest after → ContinuesAs false false rest after
  loose_row rest after gap g = subst (λ (t : Bool). ContinuesAs false t rest after) (row_gap row gap) g

  goes : (tight gap : Bool) (rest after : List Tile) → ContinuesAs (tight && false) (gap_behind gap (tile kind b a ∷ ts))
      rest after → ContinuesAs tight gap ((tile kind b a ∷ ts) ++ rest) ((tile kind b a ∷ us) ++ after)
  goes tight gap rest after g = same kind b a (row_goes (open_row rest after row) (tight_row rest after tight (is_trivia kind) g) _ _)

  inside : (below : List Mode) (depth : ℕ) (x : List Tile) → Steps V74
      (stepped_by (code_mode_step kind (b ∷ a)) (stack_of code below depth)) x
      → Steps V74 (stack_of (quoted mark label fresh) (code ∷ below) (suc depth)) x
  inside below depth x h = subst (λ (t : ModeStep). Steps V74 (stepped_by t (stack_of code below depth)) x) opens.mode_step h

  outside : (below : List Mode) (depth : ℕ) (x : List Tile) → Steps V74
      (stack_of (quoted mark label fresh) (code ∷ below) (suc depth)) x
      → Steps V74 (stepped_by (code_mode_step kind (b ∷ a)) (stack_of code below depth)) x
  outside below depth x h = subst (λ (t : ModeStep). Steps V74 (stepped_by t (stack_of code below depth)) x) (sym opens.mode_step) h

  source : (below : List Mode) (depth : ℕ) (rest : List Tile) → Steps V74 (stack_of code below depth) ((tile kind b a ∷ ts) ++ rest) → Steps V74 (stack_of code below depth) rest
  source below depth rest h =
      row_leaves rest [] (open_row rest [] row) mark label fresh below depth (inside below depth (ts ++ rest) (first (stack_of code below depth) kind b a (ts ++ rest) h).more)

  written : (gap : Bool) (below over : List Mode) (depth deep : ℕ) (rest after : List Tile)
      → ContinuesAs false (gap_behind gap (tile kind b a ∷ ts)) rest after
      → Steps V74 (stack_of code below depth) ((tile kind b a ∷ ts) ++ rest)
      → Steps V74 (stack_of code over deep) after → Steps V74 (stack_of code over deep)
      ((tile kind b a ∷ us) ++ after)
  written gap below over depth deep rest after g h more =
      let at = first (stack_of code below depth) kind b a (ts ++ rest) h in
      let text = row_written rest after below over depth deep (loose_row rest after (is_trivia kind) g) more
      (open_row rest after row) mark label fresh (opens.labelled (joined (ts ++ rest)) at.longest)
      (inside below depth (ts ++ rest) at.more) in
      step_by (stack_of code over deep) kind b a (us ++ after)
      (opens.stays (begins_dollar_brace (ts ++ rest)) (joined (ts ++ rest)) (joined (us ++ after)) text.seam at.longest)
      (outside over deep (us ++ after) text.steps)

  pub become : IsRewrittenTo false true code code (tile kind b a ∷ ts) (tile kind b a ∷ us)
  become = record { goes = goes; source = source; written = written }

quote_opens : (b : ℕ) (a : List ℕ) → Opens Quote b a Double [] false
quote_opens b a = record { mode_step = refl; stops = refl; labelled = λ r h. refl; stays = quote_stays b a }

back_opens : (b : ℕ) (a : List ℕ) → Opens Backtick b a Back [] false
back_opens b a = record { mode_step = refl; stops = refl; labelled = λ r h. refl; stays = back_stays b a }

heredoc_opens : (b : ℕ) (a : List ℕ) → Opens HeredocStart b a Here (label_of (b ∷ a)) true
heredoc_opens b a = record {
  mode_step = refl;
  stops = refl;
  labelled = λ r h. line_label b a (start_text b a r h);
  stays = λ t r s seam h. heredoc_lines_stay b a r s (seam_feed seam) h;
}

pub texts_become : TextsBecome
texts_become Quote b a ts us h row = become Quote b a Double [] false (quote_opens b a) ts us row
texts_become Backtick b a ts us h row = become Backtick b a Back [] false (back_opens b a) ts us row
texts_become HeredocStart b a ts us h row = become HeredocStart b a Here (label_of (b ∷ a)) true (heredoc_opens b a) ts us row
texts_become Space b a ts us h row = absurd cc
texts_become Comment b a ts us h row = absurd cc
texts_become Tag b a ts us h row = absurd cc
texts_become OpenEcho b a ts us h row = absurd cc
texts_become InlineHtml b a ts us h row = absurd cc
texts_become Variable b a ts us h row = absurd cc
texts_become Word b a ts us h row = absurd cc
texts_become Label b a ts us h row = absurd cc
texts_become Keyword b a ts us h row = absurd cc
texts_become Name b a ts us h row = absurd cc
texts_become Decimal b a ts us h row = absurd cc
texts_become Octal b a ts us h row = absurd cc
texts_become Hexadecimal b a ts us h row = absurd cc
texts_become Binary b a ts us h row = absurd cc
texts_become Digits b a ts us h row = absurd cc
texts_become Float b a ts us h row = absurd cc
texts_become Text b a ts us h row = absurd cc
texts_become Cast b a ts us h row = absurd cc
texts_become Op b a ts us h row = absurd cc
texts_become AttributeOpen b a ts us h row = absurd cc
texts_become Semi b a ts us h row = absurd cc
texts_become Close b a ts us h row = absurd cc
texts_become Piece b a ts us h row = absurd cc
texts_become CurlyOpen b a ts us h row = absurd cc
texts_become DollarBrace b a ts us h row = absurd cc
texts_become VarName b a ts us h row = absurd cc
texts_become QuotedEnd b a ts us h row = absurd cc
