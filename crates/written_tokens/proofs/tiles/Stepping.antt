-- One tile before others, and what it does to the modes.
use Rattle.std.proofs.Common.{◌≡◌, ℕ, suc, Bool, true, false, not, ◌||◌, nat_eq, List, [], ◌∷◌, ◌++◌, length, refl, sym, ◌∙◌, subst}
use Rattle.php_tree.specs.declared.version.Version.TheVariants.{V74}
use Rattle.php_spellings.specs.declared.table.Kind.{Kind}
use Rattle.php_spellings.specs.declared.table.Kind.TheVariants.{
  Space,
  Comment,
  Tag,
  OpenEcho,
  InlineHtml,
  Variable,
  Word,
  Label,
  Keyword,
  Name,
  Decimal,
  Octal,
  Hexadecimal,
  Binary,
  Digits,
  Float,
  Text,
  Quote,
  Backtick,
  HeredocStart,
  Cast,
  Op,
  AttributeOpen,
  Semi,
  Close,
  Piece,
  CurlyOpen,
  DollarBrace,
  VarName,
  QuotedEnd,
}
use Rattle.php_lexer.specs.Modes.{Mode, html, code, mode_step_of, code_mode_step, brace_mode_step, IsLongest}
use Rattle.php_lexer.specs.Lexed.{Stack, stepped_by}
use Rattle.php_relexing.specs.Tiles.{Tile, tile, joined}
use Rattle.php_relexing.specs.Spelled.{Steps, step}
use Rattle.php_relexing.proofs.Passes.{passes_join}
use Rattle.written_tokens.specs.tokens.Levels.{stack_of}
use Rattle.written_tokens.proofs.tokens.Kept.{opened}
use Rattle.written_tokens.specs.tiles.CodeTokens.{is_plain, mode_behind, mode_opened}

-- a tile comes before the steps of the modes that it leaves
pub stepped : (k n : Stack) (kind : Kind) (b : ℕ) (a : List ℕ) (ts : List Tile)
    → IsLongest V74 k.top (b ∷ a ++ joined ts) kind (suc (length a))
    → stepped_by (mode_step_of V74 k.top kind (b ∷ a) (joined ts)) k ≡ n → Steps V74 n ts → Steps V74 k (tile kind b a ∷ ts)
stepped k n kind b a ts h e more =
    step kind b a ts h
    (subst (λ (x : Stack). Steps V74 x ts) (sym (passes_join.mode_steps V74 k kind b a (joined ts) ∙ e)) more)

pub longest_in : (k : Stack) (kind : Kind) (b : ℕ) (a : List ℕ) (ts : List Tile) → Steps V74 k (tile kind b a ∷ ts) → IsLongest V74 k.top (b ∷ a ++ joined ts) kind (suc (length a))
longest_in k kind b a ts h = (opened h).0

pub steps_behind : (k n : Stack) (kind : Kind) (b : ℕ) (a : List ℕ) (ts : List Tile)
    → stepped_by (mode_step_of V74 k.top kind (b ∷ a) (joined ts)) k ≡ n → Steps V74 k (tile kind b a ∷ ts) → Steps V74 n ts
steps_behind k n kind b a ts e h =
    subst (λ (x : Stack). Steps V74 x ts) (passes_join.mode_steps V74 k kind b a (joined ts) ∙ e) (opened h).1

-- ---- code

not_or : (x y : Bool) → not (x || y) ≡ true → (x ≡ false) × (y ≡ false)
not_or true y h = absurd cc
not_or false true h = absurd cc
not_or false false h = (refl, refl)

op_stays : (b : ℕ) (a : List ℕ) (below : List Mode) (depth : ℕ) → not (nat_eq b 123 || nat_eq b 125) ≡ true
    → stepped_by (brace_mode_step (b ∷ a)) (stack_of code below depth) ≡ stack_of code below depth
op_stays b [] below depth h = let (open_, close) = not_or (nat_eq b 123) (nat_eq b 125) h in rw (open_, close) refl
op_stays b (c ∷ a) below depth h = refl

-- such a tile of code leaves the modes below as they are
pub plain_mode_step : (kind : Kind) (b : ℕ) (a : List ℕ) (below : List Mode) (depth : ℕ) → is_plain kind b a ≡ true
    → stepped_by (code_mode_step kind (b ∷ a)) (stack_of code below depth) ≡ stack_of (mode_behind kind) below depth
plain_mode_step Space b a below depth h = refl
plain_mode_step Comment b a below depth h = refl
plain_mode_step Tag b a below depth h = refl
plain_mode_step OpenEcho b a below depth h = refl
plain_mode_step InlineHtml b a below depth h = refl
plain_mode_step Variable b a below depth h = refl
plain_mode_step Word b a below depth h = refl
plain_mode_step Label b a below depth h = refl
plain_mode_step Keyword b a below depth h = refl
plain_mode_step Name b a below depth h = refl
plain_mode_step Decimal b a below depth h = refl
plain_mode_step Octal b a below depth h = refl
plain_mode_step Hexadecimal b a below depth h = refl
plain_mode_step Binary b a below depth h = refl
plain_mode_step Digits b a below depth h = refl
plain_mode_step Float b a below depth h = refl
plain_mode_step Text b a below depth h = refl
plain_mode_step Quote b a below depth h = absurd cc
plain_mode_step Backtick b a below depth h = absurd cc
plain_mode_step HeredocStart b a below depth h = absurd cc
plain_mode_step Cast b a below depth h = refl
plain_mode_step Op b a below depth h = op_stays b a below depth h
plain_mode_step AttributeOpen b a below depth h = refl
plain_mode_step Semi b a below depth h = refl
plain_mode_step Close b a below depth h = refl
plain_mode_step Piece b a below depth h = refl
plain_mode_step CurlyOpen b a below depth h = refl
plain_mode_step DollarBrace b a below depth h = refl
plain_mode_step VarName b a below depth h = refl
plain_mode_step QuotedEnd b a below depth h = refl

-- ---- inline HTML

pub html_mode_step : (kind : Kind) (b : ℕ) (a rest : List ℕ) (below : List Mode) (depth : ℕ)
    → stepped_by (mode_step_of V74 html kind (b ∷ a) rest) (stack_of html below depth) ≡ stack_of (mode_opened kind) below
    depth
html_mode_step Space b a rest below depth = refl
html_mode_step Comment b a rest below depth = refl
html_mode_step Tag b a rest below depth = refl
html_mode_step OpenEcho b a rest below depth = refl
html_mode_step InlineHtml b a rest below depth = refl
html_mode_step Variable b a rest below depth = refl
html_mode_step Word b a rest below depth = refl
html_mode_step Label b a rest below depth = refl
html_mode_step Keyword b a rest below depth = refl
html_mode_step Name b a rest below depth = refl
html_mode_step Decimal b a rest below depth = refl
html_mode_step Octal b a rest below depth = refl
html_mode_step Hexadecimal b a rest below depth = refl
html_mode_step Binary b a rest below depth = refl
html_mode_step Digits b a rest below depth = refl
html_mode_step Float b a rest below depth = refl
html_mode_step Text b a rest below depth = refl
html_mode_step Quote b a rest below depth = refl
html_mode_step Backtick b a rest below depth = refl
html_mode_step HeredocStart b a rest below depth = refl
html_mode_step Cast b a rest below depth = refl
html_mode_step Op b a rest below depth = refl
html_mode_step AttributeOpen b a rest below depth = refl
html_mode_step Semi b a rest below depth = refl
html_mode_step Close b a rest below depth = refl
html_mode_step Piece b a rest below depth = refl
html_mode_step CurlyOpen b a rest below depth = refl
html_mode_step DollarBrace b a rest below depth = refl
html_mode_step VarName b a rest below depth = refl
html_mode_step QuotedEnd b a rest below depth = refl
