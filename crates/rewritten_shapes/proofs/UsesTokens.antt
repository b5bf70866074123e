-- Tokens of uses: which stand in code, and the words of a use as its new parts have them.
use Rattle.std.proofs.Common.{◌≡◌, ℕ, Bool, true, false, cond, ◌&&◌, ◌||◌, nat_eq, nat_lt, if◌then◌else◌, codes, List, slice_index, length, Option, refl, sym, ap, ◌∙◌}
use Rattle.std.specs.Char.{to_ascii_lowercase}
use Rattle.std.proofs.lemmas.Bool.{or_left, or_right}
use Rattle.php_tree.specs.declared.token.Token.{Token}
use Rattle.php_tree.specs.declared.token.TokenKind.{TokenKind}
use Rattle.php_tree.specs.declared.token.TokenKind.TheVariants as token
use Rattle.php_tree.specs.Tree.{Forest, none, leaf, node}
use Rattle.php_terminals.specs.declared.terminal.Terminal.{Terminal}
use Rattle.php_terminals.specs.declared.terminal.Terminal.TheVariants as t
use Rattle.php_terminals.specs.Classify.{cast, cast_letter, name, opening, terminal, terminal_by}
use Rattle.php_terminals.specs.Words.{front, is_word, label, labels, operator, operators}
use Rattle.php_grammar.specs.Accepts.{same_class}
use Rattle.syntax_rules.specs.Around.{Around}
use Rattle.rewritten_shapes.specs.Laws.{opens_name}
use Rattle.rewritten_shapes.specs.RefusedWords.{in_use, in_uses, is_comma, is_keyword_now, is_of_code, is_renamed, is_type_name, named}
use Rattle.rewritten_shapes.proofs.NameParts.{clash, cond_not, or_none}
use Rattle.rewritten_shapes.proofs.OperatorWords.{found, low_word, op_kind, open_brace_is, rows_not}
use Rattle.rewritten_shapes.proofs.Own.{named_own, own}
use Rattle.rewritten_shapes.proofs.Shown.{new_parts}

-- ---- what stands in code

cast_not : (p : Terminal → Bool) (text : List ℕ) → p t.OldCast ≡ false → p t.Cast ≡ false → p (cast text) ≡ false
cast_not p text e d =
    cond_not p (nat_lt (opening text) (length text)) (cast_letter (to_ascii_lowercase (slice_index text (opening text)))) t.Cast
    (cond_not p (nat_eq (to_ascii_lowercase (slice_index text (opening text))) 114 || nat_eq (to_ascii_lowercase (slice_index text (opening text))) 117) t.OldCast t.Cast e d) d

name_not : (p : Terminal → Bool) (text : List ℕ) → p t.FullName ≡ false → p t.RelativeName ≡ false → p t.QualifiedName ≡ false → p (name text) ≡ false
name_not p text e d c =
    cond_not p (is_word (codes "\\") (front 1 text)) t.FullName (cond (is_word (codes "namespace\\") (front 10 text)) t.RelativeName t.QualifiedName) e
    (cond_not p (is_word (codes "namespace\\") (front 10 text)) t.RelativeName t.QualifiedName d c)

-- `use`, `function` and `const`
abbrev asks_key : Terminal → Bool
asks_key own = same_class t.Use own || (same_class t.Function own || same_class t.Const own)

label_no_key : (text : List ℕ) → asks_key (label text) ≡ false
unfolding labels
label_no_key text = rows_not asks_key t.Label labels text refl refl

operator_no_key : (text : List ℕ) → asks_key (operator text) ≡ false
unfolding operators
operator_no_key text = rows_not asks_key t.OtherOp operators text refl refl

key_by : (sort : TokenKind) (text : List ℕ) → asks_key (terminal_by sort text) ≡ true → opens_name sort text ≡ true
key_by token.Keyword text e = refl
key_by token.Label text e = absurd (clash (label_no_key text) e)
key_by token.Op text e = absurd (clash (operator_no_key text) e)
key_by token.Cast text e = absurd (clash (cast_not asks_key text refl refl) e)
key_by token.Name text e = absurd (clash (name_not asks_key text refl refl refl) e)
key_by _ text e = absurd cc

pub use_code : (x : Token) → same_class t.Use (terminal x) ≡ true → opens_name x.kind x.text ≡ true
use_code x e = key_by x.kind x.text (or_left (same_class t.Use (terminal x)) _ e)

pub function_code : (x : Token) → same_class t.Function (terminal x) ≡ true → opens_name x.kind x.text ≡ true
function_code x e = key_by x.kind x.text (or_right (same_class t.Use (terminal x)) _ (or_left (same_class t.Function (terminal x)) _ e))

pub const_code : (x : Token) → same_class t.Const (terminal x) ≡ true → opens_name x.kind x.text ≡ true
const_code x e = key_by x.kind x.text (or_right (same_class t.Use (terminal x)) _ (or_right (same_class t.Function (terminal x)) _ e))

abbrev asks_comma : Terminal → Bool
asks_comma own = same_class t.Comma own

label_no_comma : (text : List ℕ) → asks_comma (label text) ≡ false
unfolding labels
label_no_comma text = rows_not asks_comma t.Label labels text refl refl

comma_word : (text : List ℕ) → asks_comma (operator text) ≡ true → opens_name token.Op text ≡ true
unfolding operators
comma_word text e = ap (opens_name token.Op) (low_word (codes ",") text refl (or_none (is_word (codes ",") text) (found t.Comma t.OtherOp operators text refl e)))

comma_by : (sort : TokenKind) (text : List ℕ) → asks_comma (terminal_by sort text) ≡ true → opens_name sort text ≡ true
comma_by token.Keyword text e = refl
comma_by token.Label text e = absurd (clash (label_no_comma text) e)
comma_by token.Op text e = comma_word text e
comma_by token.Cast text e = absurd (clash (cast_not asks_comma text refl refl) e)
comma_by token.Name text e = absurd (clash (name_not asks_comma text refl refl refl) e)
comma_by _ text e = absurd cc

pub comma_code : (x : Token) → same_class t.Comma (terminal x) ≡ true → opens_name x.kind x.text ≡ true
comma_code x e = comma_by x.kind x.text e

pub brace_code : (x : Token) → same_class t.OpenBrace (terminal x) ≡ true → opens_name x.kind x.text ≡ true
brace_code x e = ap (λ (sort : TokenKind). opens_name sort x.text) (op_kind x.kind t.OpenBrace x.text refl e) ∙ ap (opens_name token.Op) (open_brace_is x e)

-- ---- one token of a use

-- whether a name behind a token is a class, where it was so before it
abbrev pub flag_after : Bool → Bool → Token → Bool
flag_after u c z = if is_comma (terminal z) then u else (if is_of_code (terminal z) then false else c)

use_by : (key c type renamed tail : Bool) → ((key || ((c && type) && (if renamed then false else true))) || tail) ≡
    false → (key ≡ false) × (c ≡ true → renamed ≡ false → type ≡ false) × (tail ≡ false)
use_by true c y r tail e = absurd cc
use_by false true true true tail e = (refl, λ p q. absurd cc, e)
use_by false true true false tail e = absurd cc
use_by false true false r tail e = (refl, λ p q. refl, e)
use_by false false y r tail e = (refl, λ p q. absurd cc, e)

pub use_step : (u c : Bool) (z : Token) (f : Forest) → in_use u c (leaf z f) ≡ false
    → (is_keyword_now (terminal z) ≡ false) × (c ≡ true → is_renamed f ≡ false → is_type_name z ≡ false)
    × (in_use u (flag_after u c z) f ≡ false)
use_step u c z f e = use_by (is_keyword_now (terminal z)) c (is_type_name z) (is_renamed f) (in_use u (flag_after u c z) f) e

pub same_flag : (u c : Bool) (z : Token) → is_comma (terminal z) ≡ false → is_of_code (terminal z) ≡ false → flag_after u c z ≡ c
same_flag u c z e d = ap (λ (b : Bool). if b then u else (if is_of_code (terminal z) then false else c)) e ∙ ap (λ (b : Bool). if b then false else c) d

pub comma_flag : (u c : Bool) (z : Token) → is_comma (terminal z) ≡ true → flag_after u c z ≡ u
comma_flag u c z e = ap (λ (b : Bool). if b then u else (if is_of_code (terminal z) then false else c)) e

pub false_flag : (z : Token) → flag_after false false z ≡ false
false_flag z = go (is_comma (terminal z)) (is_of_code (terminal z))
  where
    go : (a b : Bool) → (if a then false else (if b then false else false)) ≡ false
    go true b = refl
    go false true = refl
    go false false = refl

-- ---- the words of a use are those of its new parts

renamed_own : (f : Forest) → is_renamed f ≡ is_renamed (own f)
renamed_own none = refl
renamed_own (leaf x f) = refl
renamed_own (node k c f) = refl

use_own : (u c : Bool) (f : Forest) → in_use u c f ≡ in_use u c (own f)
use_own u c none = refl
use_own u c (leaf x f) =
    ap (λ (y : Bool). (is_keyword_now (terminal x) || ((c && is_type_name x) && (if y then false else true))) || in_use u (flag_after u c x) f) (renamed_own f)
    ∙ ap (λ (y : Bool). (is_keyword_now (terminal x) || ((c && is_type_name x) && (if is_renamed (own f) then false else true))) || y) (use_own u (flag_after u c x) f)
use_own u c (node k b f) = use_own u c f

uses_own : (f : Forest) → in_uses f ≡ in_uses (own f)
uses_own none = refl
uses_own (leaf x none) = refl
uses_own (leaf x (leaf y f)) = use_own (if is_of_code (terminal y) then false else true) (if is_of_code (terminal y) then false else true) (leaf y f)
uses_own (leaf x (node k b f)) = refl
uses_own (node k b f) = refl

pub uses_new : (a : Bool → Option Around) (b : Bool) (c : Forest) → in_uses (named c) ≡ in_uses (new_parts a b c)
uses_new a b c = uses_own (named c) ∙ ap in_uses (named_own a b c) ∙ sym (uses_own (new_parts a b c))
