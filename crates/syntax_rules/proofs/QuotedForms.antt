-- The words of quoted texts, and of what they become.
use Rattle.std.proofs.Common.{◌≡◌, ℕ, Bool, true, false, not, cond, ◌&&◌, ◌||◌, ◌==◌, IsTrue, List, [], ◌∷◌, ◌++◌, codes, refl, ap, sym, ◌∙◌}
use Rattle.php_tree.specs.declared.token.TokenKind.{TokenKind}
use Rattle.php_tree.specs.declared.token.TokenKind.TheVariants as token
use Rattle.php_tree.specs.declared.token.Token.{Token}
use Rattle.php_tree.specs.declared.kind.NodeKind.{NodeKind}
use Rattle.php_tree.specs.declared.kind.NodeKind.TheVariants as kind
use Rattle.php_tree.specs.Tree.{Forest, none, leaf, node}
use Rattle.scope_names.specs.Form.{Form, Word, Child, Part, word, child, part_of, part_before, parts, bits, form, joins, is_name_part, is_namespace, first_is, is_backslash}
use Rattle.php_meaning.specs.expressions.QuotedTexts.{closing_word, ends_here, begins_dollar}
use Rattle.php_meaning.specs.expressions.QuotedTexts as quoted
use Rattle.syntax_rules.specs.DollarBrace.{ends_bare}
use Rattle.syntax_rules.specs.Keeps.{token_of}
use Rattle.syntax_rules.proofs.Rewrites.{IsToken, begins, Rewrites, Curled, closing, piece, escaped, simple, code, name, offset, expression}

-- ---- one word

part_is : {k : TokenKind} {w : List ℕ} {u : Token} → IsToken k w u → is_name_part k w ≡ false → part_of u ≡ word false k w
part_is {k} {w} {u} i e =
    ap (λ x. word (is_name_part x u.text) x u.text) i.kind_is ∙ ap (λ x. word (is_name_part k x) k x) i.text_is ∙ ap (λ b. word b k w) e

no_join : {k : TokenKind} {w : List ℕ} {u : Token} → IsToken k w u → is_name_part k w ≡ false → is_namespace k w ≡ false → (v : List ℕ) → joins u v ≡ false
no_join {k} {w} {u} i e n v =
    ap (λ x. is_name_part x u.text || (is_namespace x u.text && first_is is_backslash v)) i.kind_is
    ∙ ap (λ x. is_name_part k x || (is_namespace k x && first_is is_backslash v)) i.text_is
    ∙ ap (λ b. b || (is_namespace k w && first_is is_backslash v)) e ∙ ap (λ b. b && first_is is_backslash v) n

-- a token that is no part of a name stands alone
pub part_alone : {k : TokenKind} {w : List ℕ} {u : Token} → IsToken k w u → is_name_part k w ≡ false → is_namespace k w ≡ false → (ps : List Part)
    → part_before u ps ≡ word false k w ∷ ps
part_alone i e n [] = ap (λ p. p ∷ []) (part_is i e)
part_alone i e n (word false l v ∷ ps) = ap (λ p. p ∷ word false l v ∷ ps) (part_is i e)
part_alone {k} {w} {u} i e n (word true l v ∷ ps) =
    chosen (joins u v) (no_join i e n v) ∙ ap (λ p. p ∷ word true l v ∷ ps) (part_is i e)
  where
    chosen : (c : Bool) → c ≡ false
        → cond c (word true token.Name (u.text ++ v) ∷ ps) (part_of u ∷ word true l v ∷ ps) ≡ part_of u ∷ word true l v ∷ ps
    chosen true g = cc
    chosen false g = refl
part_alone i e n (child ∷ ps) = ap (λ p. p ∷ child ∷ ps) (part_is i e)

pub word_form : {k : TokenKind} {w : List ℕ} {u : Token} → IsToken k w u → is_name_part k w ≡ false → is_namespace k w ≡ false → (f : Forest)
    → form (leaf u f) ≡ Word k w ∷ form f
word_form i e n f = ap bits (part_alone i e n (parts f))

-- a token of the source is one of its kind and text
pub itself : (k : TokenKind) (lead text : List ℕ) (start : ℕ) → IsToken k text (token_of k lead text start)
itself k lead text start = record { kind_is = refl; text_is = refl }

pub of_kind : {k : TokenKind} {u : Token} → u.kind ≡ k → IsToken k u.text u
of_kind {u = u} e = record { kind_is = e; text_is = refl }

-- ---- parts of quoted texts

-- a brace's node and its `}`
pub code_form : {k : TokenKind} {w : List ℕ} {u v : Token} → IsToken k w u → is_name_part k w ≡ false → is_namespace k w ≡ false
    → IsToken token.Op (codes "}") v → (j : NodeKind) (d f : Forest)
    → form (leaf u (node j d (leaf v f))) ≡ Word k w ∷ Child ∷ Word token.Op (codes "}") ∷ form f
code_form {k} {w} {v = v} i e n q j d f =
    word_form i e n (node j d (leaf v f)) ∙ ap (λ x. Word k w ∷ Child ∷ x) (word_form q refl refl f)

-- `${`, a name and `}`
pub name_form : (lead text name_text shut_lead : List ℕ) (start name_start shut_start : ℕ) (f : Forest)
    → form (leaf (token_of token.DollarBrace lead text start) (leaf (token_of token.VarName [] name_text name_start) (leaf (token_of token.Op shut_lead (codes "}") shut_start) f)))
    ≡ Word token.DollarBrace text ∷ Word token.VarName name_text ∷ Word token.Op (codes "}") ∷ form f
name_form lead text name_text shut_lead start name_start shut_start f =
    word_form (itself token.DollarBrace lead text start) refl refl
    (leaf (token_of token.VarName [] name_text name_start)
    (leaf (token_of token.Op shut_lead (codes "}") shut_start) f))
    ∙ ap (λ x. Word token.DollarBrace text ∷ x) (word_form (itself token.VarName [] name_text name_start) refl refl (leaf (token_of token.Op shut_lead (codes "}") shut_start) f))
    ∙ ap (λ x. Word token.DollarBrace text ∷ Word token.VarName name_text ∷ x) (word_form (itself token.Op shut_lead (codes "}") shut_start) refl refl f)

-- `${`, a name and an offset
pub offset_form : (lead text name_text open_lead shut_lead end_lead : List ℕ) (start name_start open_start shut_start end_start : ℕ) (k : NodeKind) (c f : Forest)
    → form
    (leaf (token_of token.DollarBrace lead text start) (leaf (token_of token.VarName [] name_text name_start)
    (leaf (token_of token.Op open_lead (codes "[") open_start) (node k c
    (leaf (token_of token.Op shut_lead (codes "]") shut_start) (leaf (token_of token.Op end_lead (codes "}") end_start) f))))))
    ≡ Word token.DollarBrace text ∷ Word token.VarName name_text ∷ Word token.Op (codes "[") ∷ Child ∷ Word token.Op (codes "]") ∷ Word token.Op (codes "}") ∷ form f
offset_form lead text name_text open_lead shut_lead end_lead start name_start open_start shut_start end_start k c f =
    word_form (itself token.DollarBrace lead text start) refl refl
    (leaf (token_of token.VarName [] name_text name_start)
    (leaf (token_of token.Op open_lead (codes "[") open_start)
    (node k c (leaf (token_of token.Op shut_lead (codes "]") shut_start)
    (leaf (token_of token.Op end_lead (codes "}") end_start) f)))))
    ∙ ap (λ x. Word token.DollarBrace text ∷ x)
    (word_form (itself token.VarName [] name_text name_start) refl refl
    (leaf (token_of token.Op open_lead (codes "[") open_start)
    (node k c (leaf (token_of token.Op shut_lead (codes "]") shut_start)
    (leaf (token_of token.Op end_lead (codes "}") end_start) f)))))
    ∙ ap (λ x. Word token.DollarBrace text ∷ Word token.VarName name_text ∷ x)
    (word_form (itself token.Op open_lead (codes "[") open_start) refl refl
    (node k c (leaf (token_of token.Op shut_lead (codes "]") shut_start)
    (leaf (token_of token.Op end_lead (codes "}") end_start) f))))
    ∙ ap (λ x. Word token.DollarBrace text ∷ Word token.VarName name_text ∷ Word token.Op (codes "[") ∷ Child ∷ x)
    (word_form (itself token.Op shut_lead (codes "]") shut_start) refl refl
    (leaf (token_of token.Op end_lead (codes "}") end_start) f))
    ∙ ap (λ x. Word token.DollarBrace text ∷ Word token.VarName name_text ∷ Word token.Op (codes "[") ∷ Child
    ∷ Word token.Op (codes "]") ∷ x) (word_form (itself token.Op end_lead (codes "}") end_start) refl refl f)

-- ---- what is looked at behind a part

-- the text of the closing token
pub closing_same : {f g : Forest} → Curled f g → closing_word (form g) ≡ closing_word (form f)
closing_same (closing {lead} {text} {start} i) =
    ap closing_word (word_form i refl refl none) ∙ sym (ap closing_word (word_form (itself token.QuotedEnd lead text start) refl refl none))
closing_same (piece {lead} {text} {start} {f = f} {g = g} i p) =
    ap closing_word (word_form i refl refl g) ∙ closing_same p ∙ sym (ap closing_word (word_form (itself token.Piece lead text start) refl refl f))
closing_same (escaped {lead} {text} {start = start} {f = f} {g = g} b h i p) =
    ap closing_word (word_form i refl refl g) ∙ closing_same p ∙ sym (ap closing_word (word_form (itself token.Piece lead text start) refl refl f))
closing_same (simple r p) = closing_same p
closing_same (code {lead} {text} {shut_lead} {start} {shut_start} {k} {j} {c} {d} {f} {g} i l r p) =
    ap closing_word (code_form i refl refl l j d g) ∙ closing_same p
    ∙ sym (ap closing_word (code_form (itself token.CurlyOpen lead text start) refl refl (itself token.Op shut_lead (codes "}") shut_start) k c f))
closing_same (name {lead} {text} {word = w} {shut_lead} {start} {word_start} {shut_start} {f} {g} {u} {x} e n l p) =
    ap closing_word (code_form (of_kind {u = u} e) refl refl l kind.Variable (leaf x none) g) ∙ closing_same p
    ∙ sym (ap closing_word (name_form lead text w shut_lead start word_start shut_start f))
closing_same (offset {lead} {text} {word = w} {open_lead} {shut_lead} {end_lead} {start} {word_start} {open_start}
    {shut_start} {end_start} {k} {j} {c} {d} {f} {g} {u} {x} {o} {q} e n l z r p) =
    ap closing_word (code_form (of_kind {u = u} e) refl refl l kind.Offset (node kind.Variable (leaf x none) (leaf o (node j d (leaf q none)))) g) ∙ closing_same p
    ∙ sym (ap closing_word (offset_form lead text w open_lead shut_lead end_lead start word_start open_start shut_start end_start k c f))
closing_same (expression {lead} {text} {shut_lead} {start} {shut_start} {k} {j} {c} {d} {f} {g} {u} {a} {b} {q} e l z r p) =
    ap closing_word (code_form (of_kind {u = u} e) refl refl l kind.Variable (leaf a (leaf b (node j d (leaf q none)))) g) ∙ closing_same p
    ∙ sym (ap closing_word (code_form (itself token.DollarBrace lead text start) refl refl (itself token.Op shut_lead (codes "}") shut_start) k c f))

-- the kinds of words of a text but the closing one
abbrev pub is_open : TokenKind → Bool
is_open token.Piece = true
is_open token.CurlyOpen = true
is_open token.DollarBrace = true
is_open _ = false

-- a question on the first words that `{`, `${` and pieces answer alike
pub front_same : (q : Form → Bool) → ((w v : List ℕ) (f g : Form) → q (Word token.QuotedEnd w ∷ f) ≡ q (Word token.QuotedEnd v ∷ g))
    → ((k l : TokenKind) (w v : List ℕ) (f g : Form) → is_open k ≡ true → is_open l ≡ true → q (Word k w ∷ f) ≡ q (Word l v ∷ g))
    → ((f g : Form) → q (Child ∷ f) ≡ q (Child ∷ g))
    → {f g : Forest} → Curled f g → q (form g) ≡ q (form f)
front_same q a b c (closing {lead} {text} {start} i) =
    ap q (word_form i refl refl none) ∙ a text text [] [] ∙ sym (ap q (word_form (itself token.QuotedEnd lead text start) refl refl none))
front_same q a b c (piece {lead} {text} {start} {f = f} {g = g} i p) =
    ap q (word_form i refl refl g) ∙ b token.Piece token.Piece text text (form g) (form f) refl refl
    ∙ sym (ap q (word_form (itself token.Piece lead text start) refl refl f))
front_same q a b c (escaped {lead} {text} {new} {start} {f = f} {g = g} e h i p) =
    ap q (word_form i refl refl g) ∙ b token.Piece token.Piece new text (form g) (form f) refl refl
    ∙ sym (ap q (word_form (itself token.Piece lead text start) refl refl f))
front_same q a b c (simple {f = f} {g = g} r p) = c (form g) (form f)
front_same q a b c (code {lead} {text} {shut_lead} {start} {shut_start} {k} {j} {c = x} {d} {f} {g} i l r p) =
    ap q (code_form i refl refl l j d g) ∙ b token.CurlyOpen token.CurlyOpen text text
    (Child ∷ Word token.Op (codes "}") ∷ form g) (Child ∷ Word token.Op (codes "}") ∷ form f) refl refl
    ∙ sym (ap q (code_form (itself token.CurlyOpen lead text start) refl refl (itself token.Op shut_lead (codes "}") shut_start) k x f))
front_same q a b c (name {lead} {text} {word = w} {shut_lead} {start} {word_start} {shut_start} {f} {g} {u} {x} e n l p) =
    ap q (code_form (of_kind {u = u} e) refl refl l kind.Variable (leaf x none) g)
    ∙ b token.CurlyOpen token.DollarBrace u.text text (Child ∷ Word token.Op (codes "}") ∷ form g)
    (Word token.VarName w ∷ Word token.Op (codes "}") ∷ form f) refl refl
    ∙ sym (ap q (name_form lead text w shut_lead start word_start shut_start f))
front_same q a b c (offset {lead} {text} {word = w} {open_lead} {shut_lead} {end_lead} {start} {word_start}
    {open_start} {shut_start} {end_start} {k} {j} {c = y} {d} {f} {g} {u} {x} {o} {q = m} e n l z r p) =
    ap q (code_form (of_kind {u = u} e) refl refl l kind.Offset (node kind.Variable (leaf x none) (leaf o (node j d (leaf m none)))) g)
    ∙ b token.CurlyOpen token.DollarBrace u.text text (Child ∷ Word token.Op (codes "}") ∷ form g)
    (Word token.VarName w ∷ Word token.Op (codes "[") ∷ Child ∷ Word token.Op (codes "]")
    ∷ Word token.Op (codes "}") ∷ form f) refl refl
    ∙ sym (ap q (offset_form lead text w open_lead shut_lead end_lead start word_start open_start shut_start end_start k y f))
front_same q a b c (expression {lead} {text} {shut_lead} {start} {shut_start} {k} {j} {c = y} {d} {f} {g} {u} {a = v} {b = x} {q = m} e l z r p) =
    ap q (code_form (of_kind {u = u} e) refl refl l kind.Variable (leaf v (leaf x (node j d (leaf m none)))) g)
    ∙ b token.CurlyOpen token.DollarBrace u.text text (Child ∷ Word token.Op (codes "}") ∷ form g) (Child ∷ Word token.Op (codes "}") ∷ form f) refl refl
    ∙ sym (ap q (code_form (itself token.DollarBrace lead text start) refl refl (itself token.Op shut_lead (codes "}") shut_start) k y f))

pub ends_behind : {f g : Forest} → Curled f g → ends_here (form g) ≡ ends_here (form f)
ends_behind p = front_same ends_here (λ w v f g. refl) opens (λ f g. refl) p
  where
    opens : (k l : TokenKind) (w v : List ℕ) (f g : Form) → is_open k ≡ true → is_open l ≡ true → ends_here (Word k w ∷ f) ≡ ends_here (Word l v ∷ g)
    opens k l w v f g a b = not_end k w f a ∙ sym (not_end l v g b)
      where
        not_end : (k : TokenKind) (w : List ℕ) (f : Form) → is_open k ≡ true → ends_here (Word k w ∷ f) ≡ false
        not_end token.Piece w f a = refl
        not_end token.CurlyOpen w f a = refl
        not_end token.DollarBrace w f a = refl
        not_end k w f a = cc

-- no `${` is left
pub no_dollar : {f g : Forest} → Curled f g → begins_dollar (form g) ≡ false
no_dollar (closing i) = ap begins_dollar (word_form i refl refl none)
no_dollar (piece {g = g} i p) = ap begins_dollar (word_form i refl refl g)
no_dollar (escaped {g = g} e h i p) = ap begins_dollar (word_form i refl refl g)
no_dollar (simple r p) = refl
no_dollar (code {j = j} {d = d} {g = g} i l r p) = ap begins_dollar (code_form i refl refl l j d g)
no_dollar (name {g = g} {u = u} {x = x} e n l p) = ap begins_dollar (code_form (of_kind {u = u} e) refl refl l kind.Variable (leaf x none) g)
no_dollar (offset {j = j} {d = d} {g = g} {u = u} {x = x} {o = o} {q = q} e n l z r p) =
    ap begins_dollar (code_form (of_kind {u = u} e) refl refl l kind.Offset (node kind.Variable (leaf x none) (leaf o (node j d (leaf q none)))) g)
no_dollar (expression {j = j} {d = d} {g = g} {u = u} {a = a} {b = b} {q = q} e l z r p) =
    ap begins_dollar (code_form (of_kind {u = u} e) refl refl l kind.Variable (leaf a (leaf b (node j d (leaf q none)))) g)

-- `${` that stands first
pub dollar_first : {f g : Forest} → Curled f g → begins f ≡ true → begins_dollar (form f) ≡ true
dollar_first (closing i) h = cc
dollar_first (piece i p) h = cc
dollar_first (escaped e b i p) h = cc
dollar_first (simple r p) h = cc
dollar_first (code i l r p) h = cc
dollar_first (name {lead} {text} {word = w} {shut_lead} {start} {word_start} {shut_start} {f} e n l p) h =
    ap begins_dollar (name_form lead text w shut_lead start word_start shut_start f)
dollar_first (offset {lead} {text} {word = w} {open_lead} {shut_lead} {end_lead} {start} {word_start} {open_start} {shut_start} {end_start} {k} {c = c} {f = f} e n l z r p) h =
    ap begins_dollar (offset_form lead text w open_lead shut_lead end_lead start word_start open_start shut_start end_start k c f)
dollar_first (expression {lead} {text} {shut_lead} {start} {shut_start} {k} {c = c} {f = f} e l z r p) h =
    ap begins_dollar (code_form (itself token.DollarBrace lead text start) refl refl (itself token.Op shut_lead (codes "}") shut_start) k c f)

pub bare_same : (e : Bool) (w : List ℕ) → quoted.ends_bare e w ≡ ends_bare e w
bare_same e [] = refl
bare_same e (b ∷ []) = refl
bare_same e (b ∷ c ∷ bs) = bare_same (not e && (b == 92)) (c ∷ bs)

-- what opens a quoted text is a word of its own
pub not_named_before : {k : TokenKind} {w : List ℕ} {u : Token} → IsToken k w u → is_name_part k w ≡ false → is_namespace k w ≡ false
    → (t : Token) (f : Forest) → form (leaf t (leaf u f)) ≡ Word t.kind t.text ∷ form (leaf u f)
not_named_before {k} {w} {u} i e n t f =
    ap (λ ps. bits (part_before t ps)) (part_alone i e n (parts f)) ∙ ap (λ ps. Word t.kind t.text ∷ bits ps) (sym (part_alone i e n (parts f)))

pub source_opening : {f g : Forest} → Curled f g → (t : Token) → form (leaf t f) ≡ Word t.kind t.text ∷ form f
source_opening (closing {lead} {text} {start} i) t = not_named_before (itself token.QuotedEnd lead text start) refl refl t none
source_opening (piece {lead} {text} {start} {f = f} i p) t = not_named_before (itself token.Piece lead text start) refl refl t f
source_opening (escaped {lead} {text} {start = start} {f = f} e h i p) t = not_named_before (itself token.Piece lead text start) refl refl t f
source_opening (simple r p) t = refl
source_opening (code {lead} {text} {shut_lead} {start} {shut_start} {k = k} {c = c} {f = f} i l r p) t =
    not_named_before (itself token.CurlyOpen lead text start) refl refl t (node k c (leaf (token_of token.Op shut_lead (codes "}") shut_start) f))
source_opening (name {lead} {text} {word = w} {shut_lead} {start} {word_start} {shut_start} {f = f} e n l p) t =
    not_named_before (itself token.DollarBrace lead text start) refl refl t
    (leaf (token_of token.VarName [] w word_start) (leaf (token_of token.Op shut_lead (codes "}") shut_start) f))
source_opening (offset {lead} {text} {word = w} {open_lead} {shut_lead} {end_lead} {start} {word_start} {open_start}
    {shut_start} {end_start} {k = k} {c = c} {f = f} e n l z r p) t =
    not_named_before (itself token.DollarBrace lead text start) refl refl t
    (leaf (token_of token.VarName [] w word_start) (leaf (token_of token.Op open_lead (codes "[") open_start) (node k c
    (leaf (token_of token.Op shut_lead (codes "]") shut_start) (leaf (token_of token.Op end_lead (codes "}") end_start) f)))))
source_opening (expression {lead} {text} {shut_lead} {start} {shut_start} {k = k} {c = c} {f = f} e l z r p) t =
    not_named_before (itself token.DollarBrace lead text start) refl refl t (node k c (leaf (token_of token.Op shut_lead (codes "}") shut_start) f))

pub target_opening : {f g : Forest} → Curled f g → (t : Token) → form (leaf t g) ≡ Word t.kind t.text ∷ form g
target_opening (closing i) t = not_named_before i refl refl t none
target_opening (piece {g = g} i p) t = not_named_before i refl refl t g
target_opening (escaped {g = g} e h i p) t = not_named_before i refl refl t g
target_opening (simple r p) t = refl
target_opening (code {j = j} {d = d} {g = g} {v = v} i l r p) t = not_named_before i refl refl t (node j d (leaf v g))
target_opening (name {g = g} {u = u} {x = x} {v = v} e n l p) t =
    not_named_before (of_kind {u = u} e) refl refl t (node kind.Variable (leaf x none) (leaf v g))
target_opening (offset {j = j} {d = d} {g = g} {u = u} {x = x} {o = o} {q = q} {v = v} e n l z r p) t =
    not_named_before (of_kind {u = u} e) refl refl t (node kind.Offset (node kind.Variable (leaf x none) (leaf o (node j d (leaf q none)))) (leaf v g))
target_opening (expression {j = j} {d = d} {g = g} {u = u} {a = a} {b = b} {q = q} {v = v} e l z r p) t =
    not_named_before (of_kind {u = u} e) refl refl t (node kind.Variable (leaf a (leaf b (node j d (leaf q none)))) (leaf v g))
