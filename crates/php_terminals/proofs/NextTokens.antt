-- The next token among those of a file, and what it makes of the questions on those that come.
use Rattle.std.proofs.Common.{
  ◌≡◌,
  ℕ,
  suc,
  ◌+◌,
  ◌-◌,
  ◌<◌,
  ◌≤◌,
  true,
  false,
  nat_le,
  nat_eq,
  List,
  ◌∷◌,
  length,
  map,
  take,
  drop,
  get_or,
  refl,
  sym,
  ap,
  ◌∙◌,
  drop-cons,
  add-one,
  arith,
}
use Rattle.std.specs.List.{prefix_len}
use Rattle.std.proofs.lemmas.List.{drop-map}
use Rattle.std.proofs.lemmas.List.Elements.{All-get_or}
use Rattle.std.proofs.lemmas.Bool.Decides.{nat_tests}
use Rattle.php_tree.specs.declared.token.Token.{Token}
use Rattle.php_tree.specs.declared.token.TokenKind.TheVariants.{InlineHtml}
use Rattle.php_terminals.specs.declared.mark.Mark.{Mark}
use Rattle.php_terminals.specs.declared.terminal.Terminal.{Terminal}
use Rattle.php_terminals.specs.declared.terminal.Terminal.TheVariants as t
use Rattle.php_terminals.specs.declared.tokens.Tokens.{Tokens}
use Rattle.php_terminals.specs.Classify.{terminal}
use Rattle.php_terminals.specs.Marks.{opens, closes, is_dollar, is_name_part}
use Rattle.php_terminals.specs.Marked.{IsMark, token_at}
use Rattle.php_terminals.specs.Tokens.{tokens_in}
use Rattle.php_terminals.specs.Ahead.{past_group, spanned, name_len, dollars, is_in_name, is_some_dollar}

-- what an index past the end would give
abbrev pub no_mark : Mark
no_mark = record { kind = InlineHtml; class = t.InlineHtml; lead = 0; start = 0; end = 0 }

-- the class that a place has
abbrev pub class_at : Tokens → ℕ → Terminal
class_at ts i = (get_or ts.marks.now i no_mark).class

abbrev next_of : Tokens → ℕ → Token
next_of ts i = token_at ts.bytes.now (get_or ts.marks.now i no_mark)

next_token : (ts : Tokens) (i : ℕ) → i < length ts.marks.now → drop i (tokens_in ts) ≡ next_of ts i ∷ drop (i + 1) (tokens_in ts)
next_token ts i lt = rw add-one (drop-map (token_at ts.bytes.now) i ts.marks.now
    ∙ ap (map (token_at ts.bytes.now)) (drop-cons ts.marks.now i no_mark lt)
    ∙ ap (λ (u : List Token). next_of ts i ∷ u) (sym (drop-map (token_at ts.bytes.now) (suc i) ts.marks.now)))

next_class : (ts : Tokens) (i : ℕ) → i < length ts.marks.now → class_at ts i ≡ terminal (next_of ts i)
next_class ts i lt = (All-get_or (IsMark ts.bytes.now) ts.marks.now i no_mark lt ts.marked).class

-- ---- runs

one_more : (n : ℕ) (x : Token) (xs : List Token) → length (take (1 + n) (x ∷ xs)) ≡ 1 + length (take n xs)
one_more n x xs =
    let e : 1 + n ≡ suc n = omega arith in
    let f : suc (length (take n xs)) ≡ 1 + length (take n xs) = omega arith in
    ap (λ (k : ℕ). length (take k (x ∷ xs))) e ∙ f

dollar_then : (x : Token) (xs : List Token) → is_dollar (terminal x) ≡ true → dollars (x ∷ xs) ≡ 1 + dollars xs
dollar_then x xs h = rw h (one_more (prefix_len is_some_dollar xs) x xs)

dollar_not : (x : Token) (xs : List Token) → is_dollar (terminal x) ≡ false → dollars (x ∷ xs) ≡ 0
dollar_not x xs h = rw h refl

name_then : (x : Token) (xs : List Token) → is_name_part (terminal x) ≡ true → name_len (x ∷ xs) ≡ 1 + name_len xs
name_then x xs h = rw h (one_more (prefix_len is_in_name xs) x xs)

name_not : (x : Token) (xs : List Token) → is_name_part (terminal x) ≡ false → name_len (x ∷ xs) ≡ 0
name_not x xs h = rw h refl

pub dollars_more : (ts : Tokens) (i : ℕ) → i < length ts.marks.now → is_dollar (class_at ts i) ≡ true → dollars (drop i (tokens_in ts)) ≡ 1 + dollars (drop (i + 1) (tokens_in ts))
dollars_more ts i lt h = ap dollars (next_token ts i lt) ∙ dollar_then (next_of ts i) (drop (i + 1) (tokens_in ts)) (ap is_dollar (sym (next_class ts i lt)) ∙ h)

pub dollars_end : (ts : Tokens) (i : ℕ) → i < length ts.marks.now → is_dollar (class_at ts i) ≡ false → dollars (drop i (tokens_in ts)) ≡ 0
dollars_end ts i lt h = ap dollars (next_token ts i lt) ∙ dollar_not (next_of ts i) (drop (i + 1) (tokens_in ts)) (ap is_dollar (sym (next_class ts i lt)) ∙ h)

pub name_more : (ts : Tokens) (i : ℕ) → i < length ts.marks.now → is_name_part (class_at ts i) ≡ true
    → name_len (drop i (tokens_in ts)) ≡ 1 + name_len (drop (i + 1) (tokens_in ts))
name_more ts i lt h = ap name_len (next_token ts i lt) ∙ name_then (next_of ts i) (drop (i + 1) (tokens_in ts)) (ap is_name_part (sym (next_class ts i lt)) ∙ h)

pub name_end : (ts : Tokens) (i : ℕ) → i < length ts.marks.now → is_name_part (class_at ts i) ≡ false → name_len (drop i (tokens_in ts)) ≡ 0
name_end ts i lt h = ap name_len (next_token ts i lt) ∙ name_not (next_of ts i) (drop (i + 1) (tokens_in ts)) (ap is_name_part (sym (next_class ts i lt)) ∙ h)

-- ---- brackets

le_one : (n : ℕ) → n ≤ 1 → nat_le n 1 ≡ true
le_one n h = grind (arith, nat_tests)

more_than_one : (n : ℕ) → 1 < n → nat_le n 1 ≡ false
more_than_one n h = grind (arith, nat_tests)

some : (n : ℕ) → 0 < n → nat_eq n 0 ≡ false
some n h = grind (arith, nat_tests)

pub past_open : (ts : Tokens) (i n : ℕ) → i < length ts.marks.now → opens (class_at ts i) ≡ true
    → past_group n (drop i (tokens_in ts)) ≡ past_group (n + 1) (drop (i + 1) (tokens_in ts))
past_open ts i n lt h = ap (past_group n) (next_token ts i lt) ∙ (let e : opens (terminal (next_of ts i)) ≡ true = ap opens (sym (next_class ts i lt)) ∙ h in rw e refl)

pub past_plain : (ts : Tokens) (i n : ℕ) → i < length ts.marks.now → opens (class_at ts i) ≡ false
    → closes (class_at ts i) ≡ false → past_group n (drop i (tokens_in ts)) ≡ past_group n
    (drop (i + 1) (tokens_in ts))
past_plain ts i n lt g h = ap (past_group n) (next_token ts i lt)
    ∙ (let d : opens (terminal (next_of ts i)) ≡ false = ap opens (sym (next_class ts i lt)) ∙ g
    in let e : closes (terminal (next_of ts i)) ≡ false = ap closes (sym (next_class ts i lt)) ∙ h in rw (d, e) refl)

pub past_last : (ts : Tokens) (i n : ℕ) → i < length ts.marks.now → n ≤ 1 → opens (class_at ts i) ≡ false
    → closes (class_at ts i) ≡ true → past_group n (drop i (tokens_in ts)) ≡ drop (i + 1) (tokens_in ts)
past_last ts i n lt le g h = ap (past_group n) (next_token ts i lt)
    ∙ (let d : opens (terminal (next_of ts i)) ≡ false = ap opens (sym (next_class ts i lt)) ∙ g
    in let e : closes (terminal (next_of ts i)) ≡ true = ap closes (sym (next_class ts i lt)) ∙ h
    in rw (d, e, le_one n le) refl)

pub past_close : (ts : Tokens) (i n : ℕ) → i < length ts.marks.now → 1 < n → opens (class_at ts i) ≡ false
    → closes (class_at ts i) ≡ true → past_group n (drop i (tokens_in ts)) ≡ past_group (n - 1)
    (drop (i + 1) (tokens_in ts))
past_close ts i n lt more g h = ap (past_group n) (next_token ts i lt)
    ∙ (let d : opens (terminal (next_of ts i)) ≡ false = ap opens (sym (next_class ts i lt)) ∙ g
    in let e : closes (terminal (next_of ts i)) ≡ true = ap closes (sym (next_class ts i lt)) ∙ h
    in rw (d, e, more_than_one n more) refl)

pub span_open : (ts : Tokens) (i n : ℕ) → i < length ts.marks.now → opens (class_at ts i) ≡ true
    → spanned n (drop i (tokens_in ts)) ≡ suc (spanned (n + 1) (drop (i + 1) (tokens_in ts)))
span_open ts i n lt h = ap (spanned n) (next_token ts i lt) ∙ (let e : opens (terminal (next_of ts i)) ≡ true = ap opens (sym (next_class ts i lt)) ∙ h in rw e refl)

pub span_plain : (ts : Tokens) (i n : ℕ) → i < length ts.marks.now → opens (class_at ts i) ≡ false
    → closes (class_at ts i) ≡ false → spanned n (drop i (tokens_in ts)) ≡ suc
    (spanned n (drop (i + 1) (tokens_in ts)))
span_plain ts i n lt g h = ap (spanned n) (next_token ts i lt)
    ∙ (let d : opens (terminal (next_of ts i)) ≡ false = ap opens (sym (next_class ts i lt)) ∙ g
    in let e : closes (terminal (next_of ts i)) ≡ false = ap closes (sym (next_class ts i lt)) ∙ h in rw (d, e) refl)

pub span_end : (ts : Tokens) (i : ℕ) → i < length ts.marks.now → opens (class_at ts i) ≡ false → closes (class_at ts i) ≡ true → spanned 0 (drop i (tokens_in ts)) ≡ 0
span_end ts i lt g h = ap (spanned 0) (next_token ts i lt) ∙
    (let d : opens (terminal (next_of ts i)) ≡ false = ap opens (sym (next_class ts i lt)) ∙ g
    in let e : closes (terminal (next_of ts i)) ≡ true = ap closes (sym (next_class ts i lt)) ∙ h in rw (d, e) refl)

pub span_close : (ts : Tokens) (i n : ℕ) → i < length ts.marks.now → 0 < n → opens (class_at ts i) ≡ false
    → closes (class_at ts i) ≡ true → spanned n (drop i (tokens_in ts)) ≡ suc
    (spanned (n - 1) (drop (i + 1) (tokens_in ts)))
span_close ts i n lt more g h = ap (spanned n) (next_token ts i lt)
    ∙ (let d : opens (terminal (next_of ts i)) ≡ false = ap opens (sym (next_class ts i lt)) ∙ g
    in let e : closes (terminal (next_of ts i)) ≡ true = ap closes (sym (next_class ts i lt)) ∙ h
    in rw (d, e, some n more) refl)
