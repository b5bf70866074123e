-- The tokens of names: labels, `\` and `namespace`.
use Rattle.std.proofs.Common.{◌≡◌, ℕ, Bool, true, false, cond, ◌&&◌, ◌||◌, nat_eq, nat_lt, codes, List, [], ◌∷◌, ◌++◌, slice_index, length, refl, sym, ap, ◌∙◌, append-nil}
use Rattle.std.specs.Char.{to_ascii_lowercase}
use Rattle.std.specs.Str.{bytes_eq, str_to_ascii_lowercase}
use Rattle.std.proofs.lemmas.Bool.{eqb-true}
use Rattle.std.proofs.lemmas.Slice.Eq.{bytes_eq-Decides}
use Rattle.php_tree.specs.declared.token.Token.{Token}
use Rattle.php_tree.specs.declared.token.TokenKind.{TokenKind}
use Rattle.php_tree.specs.declared.token.TokenKind.TheVariants as token
use Rattle.php_tree.specs.declared.version.Version.TheVariants.{V74}
use Rattle.php_terminals.specs.declared.terminal.Terminal.{Terminal}
use Rattle.php_terminals.specs.declared.terminal.Terminal.TheVariants as t
use Rattle.php_terminals.specs.Classify.{cast, cast_letter, is_any_label, name, opening, terminal_by}
use Rattle.php_terminals.specs.Words.{find_row, front, is_word, keyword, keywords, label, labels, operator, operators}
use Rattle.php_grammar.specs.Accepts.{accepts, same_class}
use Rattle.syntax_rules.specs.HashComment.{hash_comment}
use Rattle.syntax_rules.specs.SplitName.{is_backslash, is_keyword, is_namespace, is_op}
use Rattle.rewritten_shapes.proofs.Calm.{equal, lower_word}
use Rattle.rewritten_shapes.proofs.OperatorWords.{backslash_is, found, op_kind, rows_not}

pub root_token : (x : Token) → accepts V74 t.Backslash x ≡ true → is_backslash (hash_comment x) ≡ true
root_token x e =
    ap (λ (sort : TokenKind). is_op sort && bytes_eq (x.text ++ []) (codes "\\")) (op_kind x.kind t.Backslash x.text refl e)
    ∙ ap (λ (text : List ℕ). bytes_eq (text ++ []) (codes "\\")) (backslash_is x e)

-- ---- labels

abbrev asks_label : Terminal → Bool
asks_label own = is_any_label own || same_class t.AnyLabel own

pub clash : {b : Bool} → b ≡ false → b ≡ true → ⊥
clash e d = let z : false ≡ true = sym e ∙ d in cc

pub cond_not : (p : Terminal → Bool) (b : Bool) (x y : Terminal) → p x ≡ false → p y ≡ false → p (cond b x y) ≡ false
cond_not p true x y e d = e
cond_not p false x y e d = d

keyword_no_label : (text : List ℕ) → asks_label (keyword text) ≡ false
unfolding keywords
keyword_no_label text = cond_not asks_label (nat_lt 5 (length text) && is_word (codes "yield") (front 5 text))
    t.YieldFrom (find_row t.OtherKeyword keywords text) refl
    (rows_not asks_label t.OtherKeyword keywords text refl refl)

operator_no_label : (text : List ℕ) → asks_label (operator text) ≡ false
unfolding operators
operator_no_label text = rows_not asks_label t.OtherOp operators text refl refl

cast_no_label : (text : List ℕ) → asks_label (cast text) ≡ false
cast_no_label text = cond_not asks_label (nat_lt (opening text) (length text))
    (cast_letter (to_ascii_lowercase (slice_index text (opening text)))) t.Cast
    (cond_not asks_label (nat_eq (to_ascii_lowercase (slice_index text (opening text))) 114
    || nat_eq (to_ascii_lowercase (slice_index text (opening text))) 117) t.OldCast t.Cast refl refl) refl

name_no_label : (text : List ℕ) → asks_label (name text) ≡ false
name_no_label text =
    cond_not asks_label (is_word (codes "\\") (front 1 text)) t.FullName (cond (is_word (codes "namespace\\") (front 10 text)) t.RelativeName t.QualifiedName) refl
    (cond_not asks_label (is_word (codes "namespace\\") (front 10 text)) t.RelativeName t.QualifiedName refl refl)

label_by : (sort : TokenKind) (text : List ℕ) → asks_label (terminal_by sort text) ≡ true → sort ≡ token.Label
label_by token.Label text e = refl
label_by token.Keyword text e = absurd (clash (keyword_no_label text) e)
label_by token.Op text e = absurd (clash (operator_no_label text) e)
label_by token.Cast text e = absurd (clash (cast_no_label text) e)
label_by token.Name text e = absurd (clash (name_no_label text) e)
label_by _ text e = absurd cc

pub label_token : (x : Token) → accepts V74 t.AnyLabel x ≡ true → x.kind ≡ token.Label
label_token x e = label_by x.kind x.text e

-- ---- `namespace`

abbrev asks_space : Terminal → Bool
asks_space own = same_class t.Namespace own

label_no_space : (text : List ℕ) → asks_space (label text) ≡ false
unfolding labels
label_no_space text = rows_not asks_space t.Label labels text refl refl

operator_no_space : (text : List ℕ) → asks_space (operator text) ≡ false
unfolding operators
operator_no_space text = rows_not asks_space t.OtherOp operators text refl refl

cast_no_space : (text : List ℕ) → asks_space (cast text) ≡ false
cast_no_space text = cond_not asks_space (nat_lt (opening text) (length text))
    (cast_letter (to_ascii_lowercase (slice_index text (opening text)))) t.Cast
    (cond_not asks_space (nat_eq (to_ascii_lowercase (slice_index text (opening text))) 114
    || nat_eq (to_ascii_lowercase (slice_index text (opening text))) 117) t.OldCast t.Cast refl refl) refl

name_no_space : (text : List ℕ) → asks_space (name text) ≡ false
name_no_space text =
    cond_not asks_space (is_word (codes "\\") (front 1 text)) t.FullName (cond (is_word (codes "namespace\\") (front 10 text)) t.RelativeName t.QualifiedName) refl
    (cond_not asks_space (is_word (codes "namespace\\") (front 10 text)) t.RelativeName t.QualifiedName refl refl)

equal_is : (w text : List ℕ) → equal w text ≡ true → text ≡ w
equal_is [] [] e = refl
equal_is [] (b ∷ bs) e = absurd cc
equal_is (a ∷ w) [] e = absurd cc
equal_is (a ∷ w) (b ∷ bs) e =
    let p : a ≡ b = eqb-true a b (one (nat_eq a b) (equal w bs) e) in
    let q : bs ≡ w = equal_is w bs (two (nat_eq a b) (equal w bs) e) in
    rw (p, q) refl
  where
    one : (a b : Bool) → (a && b) ≡ true → a ≡ true
    one true b e = refl
    one false b e = cc

    two : (a b : Bool) → (a && b) ≡ true → b ≡ true
    two true b e = e
    two false b e = cc

pub or_none : (b : Bool) → (b || false) ≡ true → b ≡ true
or_none true e = refl
or_none false e = e

row_space : (text : List ℕ) → asks_space (find_row t.OtherKeyword keywords text) ≡ true → is_word (codes "namespace") text ≡ true
unfolding keywords
row_space text e = or_none (is_word (codes "namespace") text) (found t.Namespace t.OtherKeyword keywords text refl e)

keyword_space : (text : List ℕ) → asks_space (keyword text) ≡ true → bytes_eq (str_to_ascii_lowercase text) (codes "namespace") ≡ true
keyword_space text e = (bytes_eq-Decides (str_to_ascii_lowercase text) (codes "namespace")).1
    (equal_is (codes "namespace") (str_to_ascii_lowercase text)
    (sym (lower_word (codes "namespace") text) ∙ row_space text
    (go (nat_lt 5 (length text) && is_word (codes "yield") (front 5 text)) e)))
  where
    go : (b : Bool) → asks_space (cond b t.YieldFrom (find_row t.OtherKeyword keywords text)) ≡ true → asks_space (find_row t.OtherKeyword keywords text) ≡ true
    go true e = absurd cc
    go false e = e

pub space_by : (sort : TokenKind) (text : List ℕ) → asks_space (terminal_by sort text) ≡ true
    → (is_keyword sort && bytes_eq (str_to_ascii_lowercase text) (codes "namespace")) ≡ true
space_by token.Keyword text e = keyword_space text e
space_by token.Label text e = absurd (clash (label_no_space text) e)
space_by token.Op text e = absurd (clash (operator_no_space text) e)
space_by token.Cast text e = absurd (clash (cast_no_space text) e)
space_by token.Name text e = absurd (clash (name_no_space text) e)
space_by _ text e = absurd cc

pub space_token : (x : Token) → accepts V74 t.Namespace x ≡ true → is_namespace (hash_comment x) ≡ true
space_token x e = ap (λ (text : List ℕ). is_keyword x.kind && bytes_eq (str_to_ascii_lowercase text) (codes "namespace")) (append-nil x.text) ∙ space_by x.kind x.text e
