-- Tokens that belong to no name.
use Rattle.std.proofs.Common.{◌≡◌, ℕ, Bool, true, false, not, cond, ◌&&◌, ◌||◌, nat_eq, nat_lt, codes, List, [], ◌∷◌, length, refl, sym, ap, ◌∙◌, append-nil}
use Rattle.std.specs.Char.{to_ascii_lowercase}
use Rattle.std.specs.Str.{bytes_eq, str_to_ascii_lowercase}
use Rattle.std.proofs.lemmas.Slice.Eq.{bytes_eq-Decides}
use Rattle.std.proofs.lemmas.List.{take-map}
use Rattle.std.proofs.lemmas.Bool.{eqb-true, false_from_ne_true}
use Rattle.php_tree.specs.declared.token.Token.{Token}
use Rattle.php_tree.specs.declared.token.TokenKind.{TokenKind}
use Rattle.php_tree.specs.declared.token.TokenKind.TheVariants as kind
use Rattle.php_tree.specs.declared.version.Version.{Version}
use Rattle.php_tree.specs.declared.version.Version.TheVariants.{V74, V83}
use Rattle.php_terminals.specs.declared.terminal.Terminal.{Terminal}
use Rattle.php_terminals.specs.declared.terminal.Terminal.TheVariants as t
use Rattle.php_terminals.specs.Classify.{is_modifier, is_sign_or_tight, name, terminal, terminal_by}
use Rattle.php_terminals.specs.Terminals.{code}
use Rattle.php_terminals.specs.Words.{find_row, front, is_word, keyword, keywords, label, labels, operator, operators}
use Rattle.php_grammar.specs.Accepts.{accepts, same_class}
use Rattle.syntax_rules.specs.HashComment.{hash_comment}
use Rattle.syntax_rules.specs.SplitName.{is_keyword, is_label, is_name, is_op}
use Rattle.rewritten_shapes.proofs.Bare.{bare_accepts, bare_token}
use Rattle.rewritten_shapes.proofs.Shown.{is_fresh, is_shut, shown_token}

-- whether a token of a class is no part of a name
abbrev pub is_calm : Terminal → Bool
is_calm t.Label = false
is_calm t.Match = false
is_calm t.Readonly = false
is_calm t.MixedOrNever = false
is_calm t.Backslash = false
is_calm t.Namespace = false
is_calm t.QualifiedName = false
is_calm t.FullName = false
is_calm t.RelativeName = false
is_calm _ = true

-- ---- from the class to the token

-- labels are of one of four classes
label_calm : (text : List ℕ) → is_calm (label text) ≡ true → ⊥
unfolding labels
label_calm text h =
    go (is_word (codes "match") text) (is_word (codes "readonly") text) (is_word (codes "mixed") text) (is_word (codes "never") text) h
  where
    go : (a b c d : Bool) → is_calm (cond a t.Match (cond b t.Readonly (cond c t.MixedOrNever (cond d t.MixedOrNever t.Label)))) ≡ true → ⊥
    go true b c d e = cc
    go false true c d e = cc
    go false false true d e = cc
    go false false false true e = cc
    go false false false false e = cc

pub name_calm : (text : List ℕ) → is_calm (name text) ≡ true → ⊥
name_calm text h = go (is_word (codes "\\") (front 1 text)) (is_word (codes "namespace\\") (front 10 text)) h
  where
    go : (a b : Bool) → is_calm (cond a t.FullName (cond b t.RelativeName t.QualifiedName)) ≡ true → ⊥
    go true b e = cc
    go false true e = cc
    go false false e = cc

-- whether two texts are the same
abbrev pub equal : List ℕ → List ℕ → Bool
equal [] [] = true
equal [] (b ∷ bs) = false
equal (a ∷ w) [] = false
equal (a ∷ w) (b ∷ bs) = nat_eq a b && equal w bs

-- a word is told from a text by the text in lower case
pub lower_word : (w text : List ℕ) → is_word w text ≡ equal w (str_to_ascii_lowercase text)
lower_word [] [] = refl
lower_word [] (b ∷ bs) = refl
lower_word (a ∷ w) [] = refl
lower_word (a ∷ w) (b ∷ bs) = ap (λ x. nat_eq a (to_ascii_lowercase b) && x) (lower_word w bs)

abbrev row_of : Terminal → List (List ℕ × Terminal) → List ℕ → Terminal
row_of other [] word = other
row_of other (r ∷ rs) word = cond (equal r.0 word) r.1 (row_of other rs word)

lower_row : (other : Terminal) (rows : List (List ℕ × Terminal)) (text : List ℕ) → find_row other rows text ≡ row_of other rows (str_to_ascii_lowercase text)
lower_row other [] text = refl
lower_row other (r ∷ rs) text =
    ap (λ x. cond x r.1 (find_row other rs text)) (lower_word r.0 text)
    ∙ ap (λ x. cond (equal r.0 (str_to_ascii_lowercase text)) r.1 x) (lower_row other rs text)

lower_front : (n : ℕ) (text : List ℕ) → str_to_ascii_lowercase (front n text) ≡ front n (str_to_ascii_lowercase text)
lower_front n text = sym (take-map to_ascii_lowercase n text)

-- the keyword `namespace`
namespace_is : (text : List ℕ) → bytes_eq (str_to_ascii_lowercase text) (codes "namespace") ≡ true → keyword text ≡ t.Namespace
unfolding keywords
namespace_is text h =
    let low : str_to_ascii_lowercase text ≡ codes "namespace" = (bytes_eq-Decides (str_to_ascii_lowercase text) (codes "namespace")).0 h in
    let long : is_word (codes "yield") (front 5 text) ≡ false =
    lower_word (codes "yield") (front 5 text) ∙ ap (equal (codes "yield")) (lower_front 5 text) ∙ ap (λ (x : List ℕ). equal (codes "yield") (front 5 x)) low in
    let row : find_row t.OtherKeyword keywords text ≡ t.Namespace = lower_row t.OtherKeyword keywords text ∙ ap (row_of t.OtherKeyword keywords) low in
    ap (λ (b : Bool). cond (nat_lt 5 (length text) && b) t.YieldFrom (find_row t.OtherKeyword keywords text)) long
    ∙ go (nat_lt 5 (length text)) (find_row t.OtherKeyword keywords text) ∙ row
  where
    go : (b : Bool) (x : Terminal) → cond (b && false) t.YieldFrom x ≡ x
    go true x = refl
    go false x = refl

root_is : (text : List ℕ) → bytes_eq text (codes "\\") ≡ true → operator text ≡ t.Backslash
unfolding operators
root_is text h = ap operator ((bytes_eq-Decides text (codes "\\")).0 h)

true_false : true ≡ false → ⊥
true_false e = cc

keyword_calm : (text : List ℕ) → is_calm (keyword text) ≡ true → bytes_eq (str_to_ascii_lowercase text) (codes "namespace") ≡ false
keyword_calm text h = false_from_ne_true (bytes_eq (str_to_ascii_lowercase text) (codes "namespace")) (λ e. true_false (sym h ∙ ap is_calm (namespace_is text e)))

operator_calm : (text : List ℕ) → is_calm (operator text) ≡ true → bytes_eq text (codes "\\") ≡ false
operator_calm text h = false_from_ne_true (bytes_eq text (codes "\\")) (λ e. true_false (sym h ∙ ap is_calm (root_is text e)))

shut_by : (kind : TokenKind) (text : List ℕ) → is_calm (terminal_by kind text) ≡ true
    → not (is_op kind && bytes_eq text (codes "\\")
    || (is_label kind || is_keyword kind && bytes_eq (str_to_ascii_lowercase text) (codes "namespace"))) ≡ true
shut_by kind.Label text h = absurd (label_calm text h)
shut_by kind.Keyword text h = ap not (keyword_calm text h)
shut_by kind.Op text h = ap (λ (b : Bool). not (b || false)) (operator_calm text h)
shut_by _ text h = refl

pub fresh_kind : (kind : TokenKind) (text : List ℕ) → is_calm (terminal_by kind text) ≡ true → not (is_label kind || is_name kind) ≡ true
fresh_kind kind.Label text h = absurd (label_calm text h)
fresh_kind kind.Name text h = absurd (name_calm text h)
fresh_kind _ text h = refl

pub calm_shut : (x : Token) → is_calm (terminal x) ≡ true → is_shut (hash_comment x) ≡ true
calm_shut x h = rw append-nil (shut_by x.kind x.text h)

pub calm_fresh : (x : Token) → is_calm (terminal x) ≡ true → is_fresh (hash_comment x) ≡ true
calm_fresh x h = fresh_kind x.kind x.text h

-- a token as it is shown
pub shown_is : (x : Token) → shown_token (hash_comment x) ≡ bare_token x
shown_is x = ap (λ (text : List ℕ). bare_token (record x { text = text })) (append-nil x.text)

-- ---- from what is asked for to the class

abbrev calm_code : ℕ → Bool
calm_code n = not (nat_eq n 14 || nat_eq n 15 || nat_eq n 16 || nat_eq n 19 || nat_eq n 20 || nat_eq n 21 || nat_eq n 22 || nat_eq n 63 || nat_eq n 94)

code_calm : (x : Terminal) → is_calm x ≡ calm_code (code x)
code_calm t.Label = refl
code_calm t.Match = refl
code_calm t.Readonly = refl
code_calm t.MixedOrNever = refl
code_calm t.Backslash = refl
code_calm t.Namespace = refl
code_calm t.QualifiedName = refl
code_calm t.FullName = refl
code_calm t.RelativeName = refl
code_calm _ = refl

-- whether a token that a form asks for is no part of a name
abbrev pub asks_calm : Terminal → Bool
asks_calm t.AnyLabel = false
asks_calm t.FreeLabel = false
asks_calm t.FunctionLabel = false
asks_calm t.ClassLabel = false
asks_calm t.NameToken = false
asks_calm t.CalledName = false
asks_calm t.NamespaceToken = false
asks_calm t.ImportedName = false
asks_calm t.ImportedClass = false
asks_calm t.GroupedName = false
asks_calm t.GroupedClass = false
asks_calm t.AttributeName = false
asks_calm t.AnyWord = false
asks_calm t.ConstantWord = false
asks_calm t.BinaryOperator = false
asks_calm asked = is_calm asked

same_calm : (asked own : Terminal) → is_calm asked ≡ true → same_class asked own ≡ true → is_calm own ≡ true
same_calm asked own h e =
    let same : code asked ≡ code own = eqb-true (code asked) (code own) e in
    code_calm own ∙ ap calm_code (sym same) ∙ sym (code_calm asked) ∙ h

modifier_calm : (own : Terminal) → (is_modifier own || same_class t.Modifier own) ≡ true → is_calm own ≡ true
modifier_calm t.Label e = absurd cc
modifier_calm t.Match e = absurd cc
modifier_calm t.Readonly e = absurd cc
modifier_calm t.MixedOrNever e = absurd cc
modifier_calm t.Backslash e = absurd cc
modifier_calm t.Namespace e = absurd cc
modifier_calm t.QualifiedName e = absurd cc
modifier_calm t.FullName e = absurd cc
modifier_calm t.RelativeName e = absurd cc
modifier_calm _ e = refl

sign_calm : (own : Terminal) → (is_sign_or_tight own || same_class t.SignOrTight own) ≡ true → is_calm own ≡ true
sign_calm t.Label e = absurd cc
sign_calm t.Match e = absurd cc
sign_calm t.Readonly e = absurd cc
sign_calm t.MixedOrNever e = absurd cc
sign_calm t.Backslash e = absurd cc
sign_calm t.Namespace e = absurd cc
sign_calm t.QualifiedName e = absurd cc
sign_calm t.FullName e = absurd cc
sign_calm t.RelativeName e = absurd cc
sign_calm _ e = refl

pub calm_asked : (asked : Terminal) (x : Token) → asks_calm asked ≡ true → accepts V74 asked x ≡ true → is_calm (terminal x) ≡ true
calm_asked t.AnyLabel x h e = absurd cc
calm_asked t.FreeLabel x h e = absurd cc
calm_asked t.FunctionLabel x h e = absurd cc
calm_asked t.ClassLabel x h e = absurd cc
calm_asked t.NameToken x h e = absurd cc
calm_asked t.CalledName x h e = absurd cc
calm_asked t.NamespaceToken x h e = absurd cc
calm_asked t.ImportedName x h e = absurd cc
calm_asked t.ImportedClass x h e = absurd cc
calm_asked t.GroupedName x h e = absurd cc
calm_asked t.GroupedClass x h e = absurd cc
calm_asked t.AttributeName x h e = absurd cc
calm_asked t.AnyWord x h e = absurd cc
calm_asked t.ConstantWord x h e = absurd cc
calm_asked t.BinaryOperator x h e = absurd cc
calm_asked t.Modifier x h e = modifier_calm (terminal x) e
calm_asked t.SignOrTight x h e = sign_calm (terminal x) e
calm_asked asked x h e = same_calm asked (terminal x) h e

-- ---- what both versions ask for alike

abbrev pub is_steady : Terminal → Bool
is_steady t.FreeLabel = false
is_steady t.FunctionLabel = false
is_steady t.ClassLabel = false
is_steady t.NameToken = false
is_steady t.CalledName = false
is_steady t.ImportedName = false
is_steady t.ImportedClass = false
is_steady t.GroupedName = false
is_steady t.GroupedClass = false
is_steady t.BinaryOperator = false
is_steady _ = true

steady_accepts : (asked : Terminal) (x : Token) → is_steady asked ≡ true → accepts V74 asked x ≡ accepts V83 asked x
steady_accepts t.AnyLabel x h = refl
steady_accepts t.NamespaceToken x h = refl
steady_accepts t.AttributeName x h = refl
steady_accepts t.AnyWord x h = refl
steady_accepts t.ConstantWord x h = refl
steady_accepts t.Modifier x h = refl
steady_accepts t.SignOrTight x h = refl
steady_accepts t.FreeLabel x h = absurd cc
steady_accepts t.FunctionLabel x h = absurd cc
steady_accepts t.ClassLabel x h = absurd cc
steady_accepts t.NameToken x h = absurd cc
steady_accepts t.CalledName x h = absurd cc
steady_accepts t.ImportedName x h = absurd cc
steady_accepts t.ImportedClass x h = absurd cc
steady_accepts t.GroupedName x h = absurd cc
steady_accepts t.GroupedClass x h = absurd cc
steady_accepts t.BinaryOperator x h = absurd cc
steady_accepts _ x h = refl

-- a token that stays is accepted as it is shown
pub shown_accepts : (v : Version) (asked : Terminal) (x : Token) → accepts v asked x ≡ true → accepts v asked (shown_token (hash_comment x)) ≡ true
shown_accepts v asked x e = ap (accepts v asked) (shown_is x) ∙ sym (bare_accepts v asked x) ∙ e

pub steady_shown : (asked : Terminal) (x : Token) → is_steady asked ≡ true → accepts V74 asked x ≡ true → accepts V83 asked (shown_token (hash_comment x)) ≡ true
steady_shown asked x h e = shown_accepts V83 asked x (sym (steady_accepts asked x h) ∙ e)
