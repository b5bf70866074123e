-- Words that 8.3 refuses in uses.
use Rattle.std.proofs.Common.{◌≡◌, ℕ, zero, suc, Bool, true, false, not, ◌&&◌, ◌||◌, if◌then◌else◌, [], refl, sym, ap, ◌∙◌}
use Rattle.php_tree.specs.declared.token.Token.{Token}
use Rattle.php_tree.specs.declared.kind.NodeKind.TheVariants as kind
use Rattle.php_tree.specs.Tree.{Forest, none, leaf, node}
use Rattle.php_tree.specs.Places.{behind, end_of}
use Rattle.php_terminals.specs.declared.terminal.Terminal.{Terminal}
use Rattle.php_terminals.specs.declared.terminal.Terminal.TheVariants as t
use Rattle.php_terminals.specs.Classify.{terminal}
use Rattle.syntax_upgrade.specs.NameHeads.{head_at}
use Rattle.syntax_upgrade.specs.ReservedName as own
use Rattle.syntax_upgrade.specs.ReservedName.{
  Rank,
  first,
  second,
  later,
  Standing,
  at_first,
  class_by,
  gives_type,
  is_class_next,
  is_last,
  next,
  past,
  past_node,
  refused_tokens,
  refuses,
  refuses_last,
}
use Rattle.nothing_reported.proofs.WholeHeads.{skipped_zero}
use Rattle.rewritten_shapes.specs.Laws.{AreSpelled}
use Rattle.rewritten_shapes.specs.RefusedWords as words
use Rattle.rewritten_shapes.specs.RefusedWords.{in_use, in_uses, is_renamed, is_type_name, is_whole_name, named}
use Rattle.nothing_reported.specs.Laws.{HasNoName}
use Rattle.nothing_reported.proofs.Fronts.{left, front_token, front_is, same_test, empty_if}
use Rattle.nothing_reported.proofs.UsedNames.{use_here}

-- ---- the same tests

same_comma : (x : Terminal) → words.is_comma x ≡ own.is_comma x
same_comma t.Comma = refl
same_comma _ = refl

same_code : (x : Terminal) → words.is_of_code x ≡ own.is_of_code x
same_code t.Function = refl
same_code t.Const = refl
same_code _ = refl

use_if : (key c type renamed tail : Bool) → key ≡ false → (c ≡ true → renamed ≡ false → type ≡ false) → tail ≡ false
    → (key || c && type && (if renamed then false else true) || tail) ≡ false
use_if true c y r tail k h e = absurd cc
use_if false true true true tail k h e = e
use_if false true true false tail k h e = absurd (let z : true ≡ false = h refl refl in cc)
use_if false true false r tail k h e = e
use_if false false y r tail k h e = e

-- ---- behind the second token of a use

flag : (p q u c : Bool) → (if p then u else c && not q) ≡ (if p then u else (if q then false else c))
flag true q u c = refl
flag false true u true = refl
flag false true u false = refl
flag false false u true = refl
flag false false u false = refl

comma_is : (x : Token) (f : Forest) → own.is_comma (class_by (head_at x f).more (terminal x)) ≡ words.is_comma (terminal (front_token x f))
comma_is x f = sym (same_comma (class_by (head_at x f).more (terminal x))) ∙ same_test words.is_comma x f refl refl

code_is : (x : Token) (f : Forest) → own.is_of_code (class_by (head_at x f).more (terminal x)) ≡ words.is_of_code (terminal (front_token x f))
code_is x f = sym (same_code (class_by (head_at x f).more (terminal x))) ∙ same_test words.is_of_code x f refl refl

flag_is : (x : Token) (f : Forest) (u c : Bool)
    → (if own.is_comma (class_by (head_at x f).more (terminal x)) then u else c && not (own.is_of_code (class_by (head_at x f).more (terminal x))))
    ≡ (if words.is_comma (terminal (front_token x f)) then u else (if words.is_of_code (terminal (front_token x f)) then false else c))
flag_is x f u c =
    let k = class_by (head_at x f).more (terminal x) in
    flag (own.is_comma k) (own.is_of_code k) u c
    ∙ ap (λ (p : Bool). if p then u else (if own.is_of_code k then false else c)) (comma_is x f)
    ∙ ap (λ (q : Bool). if words.is_comma (terminal (front_token x f)) then u else (if q then false else c)) (code_is x f)

abbrev later_at : Terminal → Bool → Bool → Bool → Standing
later_at b i u c = record { before = b; in_braces = i; rank = later; of_classes = u; of_class = c }

used_none : (f : Forest) (m : ℕ) (b : Terminal) (i u c : Bool) (at : ℕ) → AreSpelled f → HasNoName f
    → refused_tokens kind.Use (later_at b i u c) m at f ≡ [] → in_use u c (left m f) ≡ false
used_none none m b i u c at s n e = refl
used_none (leaf x f) (suc m) b i u c at s n e =
    used_none f m b i u c (behind at x) s.1 n.1
    (empty_if (is_last m && refuses_last kind.Use (later_at b i u c) (terminal x) (next f)) at x
    (refused_tokens kind.Use (later_at b i u c) m (behind at x) f) e).1
used_none (leaf x f) zero b i u c at s n e =
    let h = head_at x f in
    let k = class_by h.more (terminal x) in
    let shown = front_token x f in
    let rest = left h.more f in
    let p = empty_if (is_last h.more && refuses kind.Use (later_at b i u c) (terminal x) (next f)) at x
    (refused_tokens kind.Use (past (later_at b i u c) k) h.more (behind at x) f) e in
    let here = use_here x f (later_at b i u c) at s.1 n e in
    let flagged : Bool = if own.is_comma k then u else c && not (own.is_of_code k) in
    let tail : in_use u flagged rest ≡ false = used_none f h.more k (i || own.is_brace k) u flagged (behind at x) s.1 n.1 p.1 in
    ap (in_use u c) (front_is x f)
    ∙ use_if (words.is_keyword_now (terminal shown)) c (is_type_name shown) (is_renamed rest)
    (in_use u (if words.is_comma (terminal shown) then u else (if words.is_of_code (terminal shown) then false else c)) rest)
    here.0 here.1
    (ap (λ (d : Bool). in_use u d rest) (sym (flag_is x f u c)) ∙ tail)
used_none (node j q f) m b i u c at s n e =
    ap (λ (g : Forest). in_use u c (named g)) (sym (skipped_zero f)) ∙ used_none f zero t.End i u c (end_of at q) s.1 n.1 e

-- ---- the second token of a use

abbrev in_second : Forest → Bool
in_second none = false
in_second (leaf x f) = in_use (if words.is_of_code (terminal x) then false else true) (if words.is_of_code (terminal x) then false else true) (leaf x f)
in_second (node j b f) = false

not_if : (q : Bool) → (if q then false else true) ≡ not q
not_if true = refl
not_if false = refl

second_flag : (p q : Bool) → (if p then (if q then false else true) else (if q then false else (if q then false else true))) ≡ not q
second_flag true true = refl
second_flag true false = refl
second_flag false true = refl
second_flag false false = refl

abbrev second_at : Terminal → Bool → Bool → Standing
second_at b i u = record { before = b; in_braces = i; rank = second; of_classes = u; of_class = true }

second_none : (f : Forest) (m : ℕ) (b : Terminal) (i u : Bool) (at : ℕ) → AreSpelled f → HasNoName f
    → refused_tokens kind.Use (second_at b i u) m at f ≡ [] → in_second (left m f) ≡ false
second_none none m b i u at s n e = refl
second_none (node j q f) m b i u at s n e = refl
second_none (leaf x f) (suc m) b i u at s n e =
    second_none f m b i u (behind at x) s.1 n.1
    (empty_if (is_last m && refuses_last kind.Use (second_at b i u) (terminal x) (next f)) at x
    (refused_tokens kind.Use (second_at b i u) m (behind at x) f) e).1
second_none (leaf x f) zero b i u at s n e =
    let h = head_at x f in
    let k = class_by h.more (terminal x) in
    let shown = front_token x f in
    let code : Bool = words.is_of_code (terminal shown) in
    let classes : Bool = if code then false else true in
    let rest = left h.more f in
    let p = empty_if (is_last h.more && refuses kind.Use (second_at b i u) (terminal x) (next f)) at x
    (refused_tokens kind.Use (past (second_at b i u) k) h.more (behind at x) f) e in
    let here = use_here x f (second_at b i u) at s.1 n e in
    let flagged : Bool = not (own.is_of_code k) in
    let tail : in_use flagged flagged rest ≡ false = used_none f h.more k (i || own.is_brace k) flagged flagged (behind at x) s.1 n.1 p.1 in
    ap in_second (front_is x f)
    ∙ use_if (words.is_keyword_now (terminal shown)) classes (is_type_name shown) (is_renamed rest)
    (in_use classes (if words.is_comma (terminal shown) then classes else (if code then false else classes)) rest)
    here.0 (λ c r. here.1 refl r)
    (ap (λ (d : Bool). in_use classes d rest) (second_flag (words.is_comma (terminal shown)) code)
    ∙ ap (λ (d : Bool). in_use d (not code) rest) (not_if code)
    ∙ ap (λ (q : Bool). in_use (not q) (not q) rest) (sym (code_is x f))
    ∙ tail)

uses_second : (x : Token) (f : Forest) → in_uses (leaf x f) ≡ in_second f
uses_second x none = refl
uses_second x (leaf y f) = refl
uses_second x (node j b f) = refl

pub none_used : (c : Forest) (at : ℕ) → AreSpelled c → HasNoName c → refused_tokens kind.Use at_first zero at c ≡ [] → in_uses (named c) ≡ false
none_used none at s n e = refl
none_used (node j b f) at s n e = refl
none_used (leaf x f) at s n e =
    let h = head_at x f in
    let k = class_by h.more (terminal x) in
    let p = empty_if (is_last h.more && refuses kind.Use at_first (terminal x) (next f)) at x (refused_tokens kind.Use (past at_first k) h.more (behind at x) f) e in
    ap in_uses (front_is x f) ∙ uses_second (front_token x f) (left h.more f)
    ∙ second_none f h.more k (false || own.is_brace k) false (behind at x) s.1 n.1 p.1
