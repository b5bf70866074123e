-- Modes whose labels are labels, and none behind `${`.
use Rattle.std.proofs.Common.{◌≡◌, ℕ, Bool, true, false, cond, ◌&&◌, List, [], ◌∷◌, drop, refl}
use Rattle.std.proofs.lemmas.Bool.{and_parts}
use Rattle.php_tree.specs.declared.version.Version.TheVariants.{V74}
use Rattle.php_spellings.specs.declared.table.Kind.{Kind}
use Rattle.php_spellings.specs.declared.table.Kind.TheVariants.{InlineHtml, Variable, Label, Quote, Backtick, HeredocStart, Op, Close, CurlyOpen, DollarBrace, QuotedEnd}
use Rattle.php_spellings.specs.declared.table.Mark.{Mark}
use Rattle.php_spellings.specs.Bytes.{begins_by}
use Rattle.php_lexer.specs.Modes.{
  Mode,
  html,
  code,
  named,
  quoted,
  offset,
  property,
  ModeStep,
  stay,
  enter,
  leave,
  is_byte,
  label_of,
  label_place,
  begins_property,
  code_mode_step,
  quoted_mode_step,
  mode_step_of,
}
use Rattle.php_lexer.specs.Lexed.{Stack, stepped_by}
use Rattle.php_relexing.specs.Labels.{all_label}
use Rattle.written_tokens.specs.tokens.Levels.{stack_of}
use Rattle.written_tokens.proofs.texts.HeredocLines.{all_front}
use Rattle.written_tokens.specs.names.Named.{is_dollar_brace}

abbrev pub mode_ok : Mode → Bool
mode_ok html = true
mode_ok code = true
mode_ok named = false
mode_ok (quoted mark label fresh) = all_label label
mode_ok offset = true
mode_ok property = true

-- inline HTML lies below no mode
abbrev pub under_ok : Mode → Bool
under_ok html = false
under_ok code = true
under_ok named = false
under_ok (quoted mark label fresh) = all_label label
under_ok offset = true
under_ok property = true

abbrev pub modes_ok : List Mode → Bool
modes_ok [] = true
modes_ok (m ∷ ms) = under_ok m && modes_ok ms

pub under_mode : (m : Mode) → under_ok m ≡ true → mode_ok m ≡ true
under_mode html h = absurd cc
under_mode code h = h
under_mode named h = absurd cc
under_mode (quoted mark label fresh) h = h
under_mode offset h = h
under_mode property h = h

abbrev pub stack_ok : Stack → Bool
stack_ok k = mode_ok k.top && modes_ok k.below

abbrev mode_step_ok : ModeStep → Bool
mode_step_ok (stay m) = mode_ok m
mode_step_ok (enter above under) = mode_ok above && under_ok under
mode_step_ok leave = true

chosen : (t : Bool) (x y : ModeStep) → mode_step_ok x ≡ true → mode_step_ok y ≡ true → mode_step_ok (cond t x y) ≡ true
chosen true x y p q = p
chosen false x y p q = q

and_true : (x : Bool) → x ≡ true → (x && true) ≡ true
and_true true h = refl
and_true false h = absurd cc

code_ok : (kind : Kind) (text : List ℕ) → mode_step_ok (code_mode_step kind text) ≡ true
code_ok Op text = chosen (is_byte 123 text) (enter code code) (cond (is_byte 125 text) leave (stay code)) refl (chosen (is_byte 125 text) leave (stay code) refl refl)
code_ok Close text = refl
code_ok Quote text = refl
code_ok Backtick text = refl
code_ok HeredocStart text = and_true (all_label (label_of text)) (all_front (drop (label_place text) (drop 1 text)))
code_ok _ text = refl

quoted_ok : (mark : Mark) (label : List ℕ) (kind : Kind) (text rest : List ℕ) → all_label label ≡ true
    → is_dollar_brace kind ≡ false → mode_step_ok (quoted_mode_step V74 mark label kind text rest) ≡ true
quoted_ok mark label DollarBrace text rest h d = absurd cc
quoted_ok mark label Variable text rest h d =
    chosen (begins_by 91 rest) (enter offset (quoted mark label false))
    (cond (begins_property V74 rest) (enter property (quoted mark label false)) (stay (quoted mark label false)))
    h
    (chosen (begins_property V74 rest) (enter property (quoted mark label false)) (stay (quoted mark label false)) h h)
quoted_ok mark label QuotedEnd text rest h d = refl
quoted_ok mark label CurlyOpen text rest h d = h
quoted_ok mark label _ text rest h d = h

mode_step_is_ok : (m : Mode) (kind : Kind) (text rest : List ℕ) → mode_ok m ≡ true → is_dollar_brace kind ≡ false → mode_step_ok (mode_step_of V74 m kind text rest) ≡ true
mode_step_is_ok html InlineHtml text rest h d = refl
mode_step_is_ok html _ text rest h d = refl
mode_step_is_ok code kind text rest h d = code_ok kind text
mode_step_is_ok named kind text rest h d = absurd cc
mode_step_is_ok (quoted mark label fresh) kind text rest h d = quoted_ok mark label kind text rest h d
mode_step_is_ok offset Op text rest h d = chosen (is_byte 93 text) leave (stay offset) refl refl
mode_step_is_ok offset _ text rest h d = refl
mode_step_is_ok property Label text rest h d = refl
mode_step_is_ok property _ text rest h d = refl

stepped_ok : (t : ModeStep) (m : Mode) (below : List Mode) (depth : ℕ) → mode_step_ok t ≡ true → modes_ok below ≡ true → stack_ok (stepped_by t (stack_of m below depth)) ≡ true
stepped_ok (stay n) m below depth p q = rw (p, q) refl
stepped_ok (enter above under) m below depth p q =
    let (one, two) = and_parts (mode_ok above) (under_ok under) p in
    rw (one, two, q) refl
stepped_ok leave m [] depth p q = refl
stepped_ok leave m (n ∷ below) depth p q =
    let (one, two) = and_parts (under_ok n) (modes_ok below) q in
    rw (under_mode n one, two) refl

-- a token that isn't `${` keeps them so
pub behind_ok : (m : Mode) (below : List Mode) (depth : ℕ) (kind : Kind) (text rest : List ℕ)
    → stack_ok (stack_of m below depth) ≡ true → is_dollar_brace kind ≡ false
    → stack_ok (stepped_by (mode_step_of V74 m kind text rest) (stack_of m below depth)) ≡ true
behind_ok m below depth kind text rest h d =
    let (top, others) = and_parts (mode_ok m) (modes_ok below) h in
    stepped_ok (mode_step_of V74 m kind text rest) m below depth (mode_step_is_ok m kind text rest top d) others
