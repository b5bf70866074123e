-- Tokens that forms ask for, as parts of names.
use Rattle.std.proofs.Common.{◌≡◌, ℕ, Bool, true, false, not, ◌&&◌, ◌||◌, if◌then◌else◌, codes, List, [], ◌∷◌, refl, sym, ap, ◌∙◌, append-nil, ◌==◌}
use Rattle.std.specs.Str.{bytes_eq, str_to_ascii_lowercase}
use Rattle.std.proofs.lemmas.Bool.{eqb-true}
use Rattle.php_tree.specs.declared.token.Token.{Token}
use Rattle.php_tree.specs.declared.token.TokenKind.{TokenKind}
use Rattle.php_tree.specs.declared.token.TokenKind.TheVariants as kind
use Rattle.php_tree.specs.declared.version.Version.TheVariants.{V74}
use Rattle.php_terminals.specs.declared.terminal.Terminal.{Terminal}
use Rattle.php_terminals.specs.declared.terminal.Terminal.TheVariants as t
use Rattle.php_terminals.specs.Classify.{is_any_label, is_class, is_word_kind, is_word_token, terminal, terminal_by}
use Rattle.php_terminals.specs.Terminals.{code}
use Rattle.php_terminals.specs.Words.{keywords, labels, operators}
use Rattle.php_spellings.specs.Bytes.{begins, begins_by, is_letter}
use Rattle.php_grammar.specs.Accepts.{accepts, same_class}
use Rattle.syntax_rules.specs.SplitName.{is_keyword, is_label, is_name}
use Rattle.syntax_rules.specs.SplitName as names
use Rattle.rewritten_shapes.specs.Laws.{has_no_root, is_label_text, is_namespace_word}
use Rattle.rewritten_shapes.proofs.Calm.{asks_calm, calm_asked, fresh_kind, calm_shut}
use Rattle.rewritten_shapes.proofs.NameParts.{space_by}
use Rattle.rewritten_shapes.proofs.OperatorWords.{backslash_is, op_kind}
use Rattle.rewritten_shapes.specs.paired.Names.{Part, State, bad, key, label, mark, other, part_by, root, space, step}
use Rattle.rewritten_shapes.specs.paired.Tokens.{IsMark}
use Rattle.rewritten_shapes.proofs.paired.Asked.{both_left, by_either, is_one_of, label_or, labels_hold, no_clash}
use Rattle.rewritten_shapes.proofs.paired.Marks.{cast_not, keyword_not, name_not, open_brace, operator_not}
use Rattle.rewritten_shapes.proofs.paired.States.{States, first_holds, holds, image, image_holds, join, second_holds, wrong}

-- a label has the text of one
abbrev pub FineLabel : Token → Type 0
FineLabel x = is_label x.kind ≡ true → is_label_text x.text ≡ true

-- what a token is for names
abbrev pub part_of : Token → Part
part_of x = part_by x.kind x.text

-- ---- labels

unfoldable pub label_classes : List Terminal
label_classes =
    t.Label ∷ t.Match ∷ t.Readonly ∷ t.MixedOrNever ∷ t.AnyLabel ∷ t.FreeLabel ∷ t.FunctionLabel ∷ t.ClassLabel ∷ []

abbrev is_label_code : ℕ → Bool
is_label_code n = is_one_of label_classes n

label_kind : (sort : TokenKind) (text : List ℕ) → is_label_code (code (terminal_by sort text)) ≡ true → is_label sort ≡ true
unfolding keywords operators label_classes
label_kind kind.Label text e = refl
label_kind kind.Keyword text e = absurd (no_clash (keyword_not (λ own. is_label_code (code own)) text refl refl refl) e)
label_kind kind.Op text e = absurd (no_clash (operator_not (λ own. is_label_code (code own)) text refl refl) e)
label_kind kind.Cast text e = absurd (no_clash (cast_not (λ own. is_label_code (code own)) text refl refl) e)
label_kind kind.Name text e = absurd (no_clash (name_not (λ own. is_label_code (code own)) text refl refl refl) e)
label_kind _ text e = absurd cc

pub label_part : (sort : TokenKind) (text : List ℕ) → is_label sort ≡ true → is_label_text text ≡ true → part_by sort text ≡ label
label_part kind.Label [] e d = absurd cc
label_part kind.Label (b ∷ bs) e d = go (b == 92) (both_left (not (b == 92)) (has_no_root bs) d)
  where
    go : (c : Bool) → not c ≡ true → (if c then bad else label) ≡ label
    go true h = absurd cc
    go false h = refl
label_part _ text e d = absurd cc

-- one that a form asks for as a label
label_is : (c : Terminal) (x : Token) → (is_label_code (code c) && labels_hold is_label_code) ≡ true
    → (is_any_label (terminal x) || same_class c (terminal x)) ≡ true → FineLabel x → part_of x ≡ label
label_is c x h e f =
    let l : is_label x.kind ≡ true = label_kind x.kind x.text (label_or is_label_code c (terminal x) h e) in
    label_part x.kind x.text l (f l)

-- ---- `\` and `namespace`

root_is : (x : Token) → accepts V74 t.Backslash x ≡ true → part_of x ≡ root
root_is x e =
    ap (λ (sort : TokenKind). part_by sort x.text) (op_kind x.kind t.Backslash x.text refl e)
    ∙ ap (part_by kind.Op) (backslash_is x e)

space_part : (sort : TokenKind) (text : List ℕ) → (is_keyword sort && bytes_eq (str_to_ascii_lowercase text) (codes "namespace")) ≡ true → part_by sort text ≡ space
space_part kind.Keyword text e = ap (λ (b : Bool). if b then space else key) e
space_part _ text e = absurd cc

space_is : (x : Token) → accepts V74 t.Namespace x ≡ true → part_of x ≡ space
space_is x e = space_part x.kind x.text (space_by x.kind x.text e)

-- ---- words, and what is no part of a name

abbrev is_word_part : Part → Bool
is_word_part label = true
is_word_part space = true
is_word_part key = true
is_word_part _ = false

abbrev is_plain_part : Part → Bool
is_plain_part key = true
is_plain_part mark = true
is_plain_part other = true
is_plain_part _ = false

abbrev is_quiet_part : Part → Bool
is_quiet_part mark = true
is_quiet_part other = true
is_quiet_part _ = false

word_if : (b : Bool) → is_word_part (if b then space else key) ≡ true
word_if true = refl
word_if false = refl

word_part : (x : Token) (sort : TokenKind) → x.kind ≡ sort → is_word_kind sort ≡ true → FineLabel x → is_word_part (part_by sort x.text) ≡ true
word_part x kind.Label e h f = ap is_word_part (label_part kind.Label x.text refl (f (ap is_label e)))
word_part x kind.Keyword e h f = word_if (is_namespace_word x.text)
word_part x _ e h f = absurd cc

plain_if : (a b : Bool) → a ≡ false → is_plain_part (if a then space else key) ≡ true
plain_if true b e = absurd cc
plain_if false b e = refl

op_if : (a b : Bool) → a ≡ false → is_plain_part (if a then root else (if b then other else mark)) ≡ true
op_if true b e = absurd cc
op_if false true e = refl
op_if false false e = refl

no_left : (a b c : Bool) → not (a || (b || c)) ≡ true → a ≡ false
no_left true b c e = absurd cc
no_left false b c e = refl

no_right : (a b c : Bool) → not (a || (b || c)) ≡ true → c ≡ false
no_right true b c e = absurd cc
no_right false true c e = absurd cc
no_right false false true e = absurd cc
no_right false false false e = refl

plain_part : (sort : TokenKind) (text : List ℕ) → not (is_label sort || is_name sort) ≡ true
    → not (names.is_op sort && bytes_eq text (codes "\\") ||
    (is_label sort || is_keyword sort && bytes_eq (str_to_ascii_lowercase text) (codes "namespace"))) ≡ true
    → is_plain_part (part_by sort text) ≡ true
plain_part kind.Label text e d = absurd cc
plain_part kind.Name text e d = absurd cc
plain_part kind.Keyword text e d = plain_if (is_namespace_word text) true (no_right false false (is_namespace_word text) d)
plain_part kind.Op text e d = op_if (bytes_eq text (codes "\\")) (begins is_letter text) (no_left (bytes_eq text (codes "\\")) false false d)
plain_part _ text e d = refl

plain_is : (c : Terminal) (x : Token) → asks_calm c ≡ true → accepts V74 c x ≡ true → is_plain_part (part_of x) ≡ true
plain_is c x h e =
    let calm_ = calm_asked c x h e in
    plain_part x.kind x.text (fresh_kind x.kind x.text calm_)
    (ap (λ (text : List ℕ). not (names.is_op x.kind && bytes_eq text (codes "\\")
    || (is_label x.kind || is_keyword x.kind && bytes_eq (str_to_ascii_lowercase text) (codes "namespace"))))
    (sym (append-nil x.text)) ∙ calm_shut x calm_)

-- classes whose tokens are no keywords
unfoldable pub quiet_classes : List Terminal
quiet_classes = t.Semi ∷ t.CloseBrace ∷ t.Colon ∷ t.InlineHtml ∷ []

no_keyword : (sort : TokenKind) (text : List ℕ) → is_one_of quiet_classes (code (terminal_by sort text)) ≡ true → is_keyword sort ≡ false
unfolding keywords quiet_classes
no_keyword kind.Keyword text e = absurd (no_clash (keyword_not (λ own. is_one_of quiet_classes (code own)) text refl refl refl) e)
no_keyword _ text e = refl

quiet_part : (sort : TokenKind) (text : List ℕ) → is_keyword sort ≡ false → is_plain_part (part_by sort text) ≡ true → is_quiet_part (part_by sort text) ≡ true
quiet_part kind.Keyword text e h = absurd cc
quiet_part kind.Label [] e h = absurd cc
quiet_part kind.Label (b ∷ bs) e h = label_if (b == 92) h
  where
    label_if : (c : Bool) → is_plain_part (if c then bad else label) ≡ true → is_quiet_part (if c then bad else label) ≡ true
    label_if true h = absurd cc
    label_if false h = absurd cc
quiet_part kind.Op text e h = mark_if (bytes_eq text (codes "\\")) (begins is_letter text) h
  where
    mark_if : (a b : Bool) → is_plain_part (if a then root else (if b then other else mark)) ≡ true → is_quiet_part (if a then root else (if b then other else mark)) ≡ true
    mark_if true b h = absurd cc
    mark_if false true h = refl
    mark_if false false h = refl
quiet_part kind.Name text e h = absurd cc
quiet_part _ text e h = refl

quiet_is : (c : Terminal) (x : Token) → is_one_of quiet_classes (code c) ≡ true → asks_calm c ≡ true
    → same_class c (terminal x) ≡ true → accepts V74 c x ≡ true → is_quiet_part (part_of x) ≡ true
quiet_is c x h a e p =
    quiet_part x.kind x.text
    (no_keyword x.kind x.text (ap (is_one_of quiet_classes) (sym (eqb-true (code c) (code (terminal x)) e)) ∙ h))
    (plain_is c x a p)

-- an opening brace
pub brace_is : (x : Token) → IsMark 123 x → part_of x ≡ mark
brace_is x m = ap (λ (sort : TokenKind). part_by sort x.text) m.kind ∙ ap (part_by kind.Op) m.text

pub shut_is : (x : Token) → IsMark 125 x → part_of x ≡ mark
shut_is x m = ap (λ (sort : TokenKind). part_by sort x.text) m.kind ∙ ap (part_by kind.Op) m.text

-- ---- states

abbrev after : Part → States → States
after p a = image (λ s. step s p) a

abbrev after_word : States → States
after_word a = join (after label a) (join (after space a) (after key a))

abbrev after_plain : States → States
after_plain a = join (after key a) (join (after mark a) (after other a))

abbrev after_quiet : States → States
after_quiet a = join (after mark a) (after other a)

-- the states behind a token of a class
abbrev pub word_states : Terminal → States → States
word_states t.AnyLabel a = after label a
word_states t.FreeLabel a = after label a
word_states t.FunctionLabel a = after label a
word_states t.ClassLabel a = after label a
word_states t.Backslash a = after root a
word_states t.Namespace a = after space a
word_states t.OpenBrace a = after mark a
word_states t.AnyWord a = after_word a
word_states t.ConstantWord a = after_word a
word_states t.Semi a = after_quiet a
word_states t.CloseBrace a = after_quiet a
word_states t.Colon a = after_quiet a
word_states t.InlineHtml a = after_quiet a
word_states c a = if asks_calm c then after_plain a else wrong

after_holds : (p q : Part) (a : States) (s : State) → q ≡ p → holds a s ≡ true → holds (after p a) (step s q) ≡ true
after_holds p q a s e h = ap (λ (r : Part). holds (after p a) (step s r)) e ∙ image_holds (λ u. step u p) a s h

second_of : (p q r : Part) (a : States) (u : State) → holds (after q a) u ≡ true → holds (join (after p a) (join (after q a) (after r a))) u ≡ true
second_of p q r a u h = second_holds (after p a) (join (after q a) (after r a)) u (first_holds (after q a) (after r a) u h)

third_of : (p q r : Part) (a : States) (u : State) → holds (after r a) u ≡ true → holds (join (after p a) (join (after q a) (after r a))) u ≡ true
third_of p q r a u h = second_holds (after p a) (join (after q a) (after r a)) u (second_holds (after q a) (after r a) u h)

word_holds_by : (p : Part) (a : States) (s : State) → is_word_part p ≡ true → holds a s ≡ true → holds (after_word a) (step s p) ≡ true
word_holds_by label a s e h = first_holds (after label a) (join (after space a) (after key a)) (step s label) (image_holds (λ u. step u label) a s h)
word_holds_by space a s e h = second_of label space key a (step s space) (image_holds (λ u. step u space) a s h)
word_holds_by key a s e h = third_of label space key a (step s key) (image_holds (λ u. step u key) a s h)
word_holds_by _ a s e h = absurd cc

plain_holds : (p : Part) (a : States) (s : State) → is_plain_part p ≡ true → holds a s ≡ true → holds (after_plain a) (step s p) ≡ true
plain_holds key a s e h = first_holds (after key a) (join (after mark a) (after other a)) (step s key) (image_holds (λ u. step u key) a s h)
plain_holds mark a s e h = second_of key mark other a (step s mark) (image_holds (λ u. step u mark) a s h)
plain_holds other a s e h = third_of key mark other a (step s other) (image_holds (λ u. step u other) a s h)
plain_holds _ a s e h = absurd cc

quiet_holds : (p : Part) (a : States) (s : State) → is_quiet_part p ≡ true → holds a s ≡ true → holds (after_quiet a) (step s p) ≡ true
quiet_holds mark a s e h = first_holds (after mark a) (after other a) (step s mark) (image_holds (λ u. step u mark) a s h)
quiet_holds other a s e h = second_holds (after mark a) (after other a) (step s other) (image_holds (λ u. step u other) a s h)
quiet_holds _ a s e h = absurd cc

-- no token has a class that stands for several
no_set : (c : Terminal) (sort : TokenKind) (text : List ℕ) → is_one_of (t.AnyWord ∷ t.ConstantWord ∷ []) (code (terminal_by sort text)) ≡ true → is_word_kind sort ≡ true
unfolding keywords labels operators
no_set c kind.Label text e = refl
no_set c kind.Keyword text e = refl
no_set c kind.Op text e = absurd (no_clash (operator_not (λ own. is_one_of (t.AnyWord ∷ t.ConstantWord ∷ []) (code own)) text refl refl) e)
no_set c kind.Cast text e = absurd (no_clash (cast_not (λ own. is_one_of (t.AnyWord ∷ t.ConstantWord ∷ []) (code own)) text refl refl) e)
no_set c kind.Name text e = absurd (no_clash (name_not (λ own. is_one_of (t.AnyWord ∷ t.ConstantWord ∷ []) (code own)) text refl refl refl) e)
no_set c _ text e = absurd cc

set_word : (c : Terminal) (x : Token) → is_one_of (t.AnyWord ∷ t.ConstantWord ∷ []) (code c) ≡ true → same_class c (terminal x) ≡ true → is_word_kind x.kind ≡ true
set_word c x h e = no_set c x.kind x.text (ap (is_one_of (t.AnyWord ∷ t.ConstantWord ∷ [])) (sym (eqb-true (code c) (code (terminal x)) e)) ∙ h)

pub word_holds : (c : Terminal) (x : Token) → FineLabel x → accepts V74 c x ≡ true → (a : States) (s : State)
    → holds a s ≡ true → holds (word_states c a) (step s (part_of x)) ≡ true
unfolding label_classes quiet_classes
word_holds t.AnyLabel x f e a s h = after_holds label (part_of x) a s (label_is t.AnyLabel x refl e f) h
word_holds t.FreeLabel x f e a s h = after_holds label (part_of x) a s (label_is t.FreeLabel x refl e f) h
word_holds t.FunctionLabel x f e a s h = after_holds label (part_of x) a s (label_is t.FunctionLabel x refl e f) h
word_holds t.ClassLabel x f e a s h = after_holds label (part_of x) a s (label_is t.ClassLabel x refl e f) h
word_holds t.Backslash x f e a s h = after_holds root (part_of x) a s (root_is x e) h
word_holds t.Namespace x f e a s h = after_holds space (part_of x) a s (space_is x e) h
word_holds t.OpenBrace x f e a s h = after_holds mark (part_of x) a s (brace_is x (open_brace x e)) h
word_holds t.AnyWord x f e a s h =
    word_holds_by (part_of x) a s
    (word_part x x.kind refl (by_either (is_word_token x) (same_class t.AnyWord (terminal x)) (is_word_kind x.kind) (λ d. d) (set_word t.AnyWord x refl) e) f) h
word_holds t.ConstantWord x f e a s h =
    word_holds_by (part_of x) a s
    (word_part x x.kind refl
    (by_either (is_word_token x && not (is_class (terminal x))) (same_class t.ConstantWord (terminal x)) (is_word_kind x.kind)
    (λ d. both_left (is_word_token x) (not (is_class (terminal x))) d) (set_word t.ConstantWord x refl) e) f) h
word_holds t.Semi x f e a s h = quiet_holds (part_of x) a s (quiet_is t.Semi x refl refl e e) h
word_holds t.CloseBrace x f e a s h = quiet_holds (part_of x) a s (quiet_is t.CloseBrace x refl refl e e) h
word_holds t.Colon x f e a s h = quiet_holds (part_of x) a s (quiet_is t.Colon x refl refl e e) h
word_holds t.InlineHtml x f e a s h = quiet_holds (part_of x) a s (quiet_is t.InlineHtml x refl refl e e) h
word_holds c x f e a s h = go (asks_calm c) refl
  where
    go : (b : Bool) → asks_calm c ≡ b → holds (if b then after_plain a else wrong) (step s (part_of x)) ≡ true
    go true d = plain_holds (part_of x) a s (plain_is c x d e) h
    go false d = refl
