-- Where a name may begin, no label is spelled `namespace`.
use Rattle.std.proofs.Common.{◌≡◌, ℕ, Bool, true, false, cond, not, ◌&&◌, ◌||◌, nat_eq, List, [], ◌∷◌, map, take, drop, Option, Some, None, codes, refl, sym, ap, ◌∙◌, subst}
use Rattle.std.specs.Str.{bytes_eq}
use Rattle.std.proofs.lemmas.Bool.{and_parts, eqb-true}
use Rattle.std.proofs.lemmas.Slice.Eq.{bytes_eq-Decides}
use Rattle.php_tree.specs.declared.version.Version.{Version}
use Rattle.php_tree.specs.declared.version.Version.TheVariants.{V74, V83}
use Rattle.php_tree.specs.declared.token.Token.{Token}
use Rattle.php_tree.specs.declared.token.TokenKind.{TokenKind}
use Rattle.php_tree.specs.declared.token.TokenKind.TheVariants as token
use Rattle.php_spellings.specs.declared.table.Kind.{Kind}
use Rattle.php_spellings.specs.declared.table.Kind.TheVariants as kind
use Rattle.php_spellings.specs.declared.table.Mark.TheVariants.{Double, Back, Here}
use Rattle.php_spellings.specs.declared.table.Tail.{Tail}
use Rattle.php_spellings.specs.Bytes.{lower}
use Rattle.php_spellings.specs.Words.{token_of, is_keyword}
use Rattle.php_lexer.specs.Heredocs.{led}
use Rattle.php_lexer.specs.Rules.{Row, rule, is_tail, kind_by}
use Rattle.php_lexer.specs.Modes.{Mode, html, code, named, quoted, offset, property, rows_of, label_in, kind_of, code_mode_step, mode_step_of}
use Rattle.php_lexer.specs.Lexed.{Lexeme, Stack, Lexed, ends, trivia, token, stepped_by, lexeme}
use Rattle.rewritten_shapes.specs.Laws.{is_namespace_label, opens_name}
use Rattle.written_reading.specs.Laws.{begins_namespace, NoneBehind, NoNameIsNamespace}
use Rattle.written_reading.proofs.Texts.{no_namespace}

-- ---- what all rows of a list have

every : (Kind → List ℕ → Bool) → List Row → Bool
every p [] = true
every p (rule k w tail ∷ rows) = p k w && every p rows

record Has (p : Kind → List ℕ → Bool) (k : Kind) (label text rest : List ℕ) : Type 0 where
  word : List ℕ
  tail : Tail
  holds : p k word ≡ true
  begins : led lower word (is_tail label tail) text rest ≡ true

abbrev some_kind : Kind → Option Kind
some_kind k = Some k

same_kind : (k j : Kind) → some_kind k ≡ some_kind j → k ≡ j
same_kind k j e = cc

rows_have : (p : Kind → List ℕ → Bool) (label : List ℕ) (rows : List Row) → every p rows ≡ true
    → (k : Kind) (text rest : List ℕ) → kind_by label rows text rest ≡ Some k → Has p k label text rest
unfolding every
rows_have p label [] h k text rest e = absurd cc
rows_have p label (rule j w tail ∷ rows) h k text rest e =
    let f = and_parts (p j w) (every p rows) h in
    by (led lower w (is_tail label tail) text rest) refl f.0 (rows_have p label rows f.1 k text rest) e
  where
    by : (t : Bool) → led lower w (is_tail label tail) text rest ≡ t → p j w ≡ true
        → (kind_by label rows text rest ≡ Some k → Has p k label text rest)
        → cond t (Some j) (kind_by label rows text rest) ≡ Some k → Has p k label text rest
    by true h f others q = subst (λ (x : Kind). Has p x label text rest) (same_kind j k q) (record { word = w; tail = tail; holds = f; begins = h })
    by false h f others q = others q

-- ---- tokens behind which a name may begin

abbrev opens_op : List ℕ → Bool
opens_op text = bytes_eq text (codes "\\") || (bytes_eq text (codes ",") || bytes_eq text (codes "{"))

abbrev opens : Kind → List ℕ → Bool
opens kind.Word text = true
opens kind.Keyword text = true
opens kind.Op text = opens_op text
opens _ text = false

abbrev opt_opens : Option TokenKind → List ℕ → Bool
opt_opens None text = false
opt_opens (Some t) text = opens_name t text

no_number : (b : Bool) (text : List ℕ) → opt_opens (Some (cond b token.Int token.Float)) text ≡ true → ⊥
no_number true text h = absurd cc
no_number false text h = absurd cc

opens_is : (k : Kind) (text : List ℕ) → opt_opens (token_of k text) text ≡ true → opens k text ≡ true
opens_is kind.Word text h = refl
opens_is kind.Keyword text h = refl
opens_is kind.Op text h = h
opens_is kind.Decimal text h = absurd (no_number _ text h)
opens_is kind.Octal text h = absurd (no_number _ text h)
opens_is kind.Hexadecimal text h = absurd (no_number _ text h)
opens_is kind.Binary text h = absurd (no_number _ text h)
opens_is _ text h = absurd cc

-- one of the three operators
by_op : (P : List ℕ → Type 0) → P (codes "\\") → P (codes ",") → P (codes "{") → (text : List ℕ) → opens_op text ≡ true → P text
by_op P p q r text h = go (bytes_eq text (codes "\\")) (bytes_eq text (codes ",")) (bytes_eq text (codes "{")) refl refl refl h
  where
    go : (x y z : Bool) → bytes_eq text (codes "\\") ≡ x → bytes_eq text (codes ",") ≡ y → bytes_eq text (codes "{") ≡ z → (x || (y || z)) ≡ true → P text
    go true y z a b c e = subst P (sym ((bytes_eq-Decides text (codes "\\")).0 a)) p
    go false true z a b c e = subst P (sym ((bytes_eq-Decides text (codes ",")).0 b)) q
    go false false true a b c e = subst P (sym ((bytes_eq-Decides text (codes "{")).0 c)) r
    go false false false a b c e = absurd cc

-- whether no text of a row opens a name
abbrev plain : List ℕ → Bool
plain [] = false
plain (a ∷ w) = not (nat_eq a 92 || (nat_eq a 44 || nat_eq a 123))

abbrev is_shut : Kind → List ℕ → Bool
is_shut kind.Word w = false
is_shut kind.Keyword w = false
is_shut kind.Op w = plain w
is_shut _ w = true

no_op : (a : ℕ) (w : List ℕ) (is : List ℕ → List ℕ → Bool) (text rest : List ℕ) → plain (a ∷ w) ≡ true → led lower (a ∷ w) is text rest ≡ true → opens_op text ≡ true → ⊥
no_op a w is text rest p h o = by_op (λ (x : List ℕ). led lower (a ∷ w) is x rest ≡ true → ⊥) (at 92 refl) (at 44 refl) (at 123 refl) text o h
  where
    at : (b : ℕ) → plain (lower b ∷ w) ≡ false → led lower (a ∷ w) is (b ∷ []) rest ≡ true → ⊥
    at b s h =
        let e = and_parts (nat_eq a (lower b)) (led lower w is [] rest) h in
        let n : plain (lower b ∷ w) ≡ true = subst (λ (x : ℕ). plain (x ∷ w) ≡ true) (eqb-true a (lower b) e.0) p in cc

shut_is : (k : Kind) (label text rest : List ℕ) → Has is_shut k label text rest → opens k text ≡ true → ⊥
shut_is k label text rest h o = go k h.word h.holds h.begins o
  where
    go : (j : Kind) (w : List ℕ) → is_shut j w ≡ true → led lower w (is_tail label h.tail) text rest ≡ true → opens j text ≡ true → ⊥
    go kind.Word w s l o = absurd cc
    go kind.Keyword w s l o = absurd cc
    go kind.Op [] s l o = absurd cc
    go kind.Op (a ∷ w) s l o = no_op a w (is_tail label h.tail) text rest s l o
    go _ w s l o = absurd cc

-- ---- the mode behind them

abbrev Top : Version → Stack → Mode → Kind → List ℕ → List ℕ → Type 0
Top v stack m k text rest = (stepped_by (mode_step_of v m k text rest) stack).top ≡ code

in_html : (v : Version) (stack : Stack) (k : Kind) (text rest : List ℕ) → opens k text ≡ true → Top v stack html k text rest
in_html v stack kind.Word text rest o = refl
in_html v stack kind.Keyword text rest o = refl
in_html v stack kind.Op text rest o = refl
in_html v stack _ text rest o = absurd cc

in_code : (stack : Stack) (k : Kind) (text : List ℕ) → opens k text ≡ true → (stepped_by (code_mode_step k text) stack).top ≡ code
in_code stack kind.Word text o = refl
in_code stack kind.Keyword text o = refl
in_code stack kind.Op text o = by_op (λ (x : List ℕ). (stepped_by (code_mode_step kind.Op x) stack).top ≡ code) refl refl refl text o
in_code stack _ text o = absurd cc

abbrev is_inner : Mode → Bool
is_inner html = false
is_inner code = false
is_inner named = false
is_inner (quoted mark label fresh) = true
is_inner offset = true
is_inner property = true

inner_shut : (v : Version) (m : Mode) → is_inner m ≡ true → every is_shut (rows_of v m) ≡ true
unfolding every
inner_shut v html i = absurd cc
inner_shut v code i = absurd cc
inner_shut v named i = absurd cc
inner_shut v (quoted Double label fresh) i = refl
inner_shut v (quoted Back label fresh) i = refl
inner_shut v (quoted Here label true) i = refl
inner_shut v (quoted Here label false) i = refl
inner_shut v offset i = refl
inner_shut V74 property i = refl
inner_shut V83 property i = refl

inner_none : (v : Version) (m : Mode) (k : Kind) (text rest : List ℕ) → is_inner m ≡ true → kind_of v m text rest ≡ Some k → opens k text ≡ true → ⊥
inner_none v m k text rest i e o = shut_is k (label_in m) text rest (rows_have is_shut (label_in m) (rows_of v m) (inner_shut v m i) k text rest e) o

to_code : (v : Version) (stack : Stack) (m : Mode) (k : Kind) (text rest : List ℕ) → kind_of v m text rest ≡ Some k → opens k text ≡ true → Top v stack m k text rest
to_code v stack html k text rest e o = in_html v stack k text rest o
to_code v stack code k text rest e o = in_code stack k text o
to_code v stack named k text rest e o = in_code stack k text o
to_code v stack (quoted mark label fresh) k text rest e o = absurd (inner_none v (quoted mark label fresh) k text rest refl e o)
to_code v stack offset k text rest e o = absurd (inner_none v offset k text rest refl e o)
to_code v stack property k text rest e o = absurd (inner_none v property k text rest refl e o)

-- trivia of code stay in code
trivia_stay : (stack : Stack) (k : Kind) (text : List ℕ) → token_of k text ≡ None → (stepped_by (code_mode_step k text) stack).top ≡ code
trivia_stay stack kind.Space text e = refl
trivia_stay stack kind.Comment text e = refl
trivia_stay stack kind.Tag text e = refl
trivia_stay stack _ text e = absurd cc

-- ---- labels of code

abbrev no_label : Kind → List ℕ → Bool
no_label kind.Label w = false
no_label _ w = true

code_labels : (v : Version) → every no_label (rows_of v code) ≡ true
unfolding every
code_labels V74 = refl
code_labels V83 = refl

abbrev opt_namespace : Option TokenKind → List ℕ → Bool
opt_namespace None text = false
opt_namespace (Some t) text = is_namespace_label t text

word_namespace : (b : Bool) (text : List ℕ) → is_keyword text ≡ b → is_namespace_label (cond b token.Keyword token.Label) text ≡ false
word_namespace true text e = refl
word_namespace false text e = no_namespace text e

number_namespace : (b : Bool) (text : List ℕ) → is_namespace_label (cond b token.Int token.Float) text ≡ false
number_namespace true text = refl
number_namespace false text = refl

kind_namespace : (k : Kind) (w text : List ℕ) → no_label k w ≡ true → opt_namespace (token_of k text) text ≡ false
kind_namespace kind.Word w text n = word_namespace (is_keyword text) text refl
kind_namespace kind.Label w text n = absurd cc
kind_namespace kind.Decimal w text n = number_namespace _ text
kind_namespace kind.Octal w text n = number_namespace _ text
kind_namespace kind.Hexadecimal w text n = number_namespace _ text
kind_namespace kind.Binary w text n = number_namespace _ text
kind_namespace _ w text n = refl

code_namespace : (v : Version) (k : Kind) (text rest : List ℕ) → kind_of v code text rest ≡ Some k → opt_namespace (token_of k text) text ≡ false
code_namespace v k text rest e = let h = rows_have no_label [] (rows_of v code) (code_labels v) k text rest e in kind_namespace k h.word text h.holds

-- ---- all tokens

abbrev first_namespace : List Lexeme → Bool
first_namespace [] = false
first_namespace (x ∷ xs) = is_namespace_label x.kind x.text

abbrev NoneSo : List Lexeme → Type 0
NoneSo [] = Unit {0}
NoneSo (x ∷ xs) = ((opens_name x.kind x.text && first_namespace xs) ≡ false) × NoneSo xs

none_by : (b c : Bool) → (b ≡ true → c ≡ false) → (b && c) ≡ false
none_by true c f = f refl
none_by false c f = refl

lexed_none : {v : Version} {stack : Stack} {lead bytes : List ℕ} {ts : List Lexeme} → Lexed v stack lead bytes ts → (stack.top ≡ code → first_namespace ts ≡ false) × NoneSo ts
lexed_none (ends e d) = ((λ c. refl), (refl, tt))
lexed_none (trivia {version = v} {stack = stack} {bytes = bytes} k n h e rest) =
    let ih = lexed_none rest in
    ((λ c. ih.0 (subst (λ (m : Mode). (stepped_by (mode_step_of v m k (take n bytes) (drop n bytes)) stack).top ≡ code) (sym c) (trivia_stay stack k (take n bytes) e))), ih.1)
lexed_none (token {version = v} {stack = stack} {bytes = bytes} {ts = ts} k n t h e rest) =
    let ih = lexed_none rest in (
      (λ c. sym (ap (λ (o : Option TokenKind). opt_namespace o (take n bytes)) e)
          ∙ code_namespace v k (take n bytes) (drop n bytes) (subst (λ (m : Mode). kind_of v m (take n bytes) (drop n bytes) ≡ Some k) c h.is)),
      (
        none_by (opens_name t (take n bytes)) (first_namespace ts)
            (λ o. ih.0 (to_code v stack stack.top k (take n bytes) (drop n bytes) h.is
            (opens_is k (take n bytes) (ap (λ (x : Option TokenKind). opt_opens x (take n bytes)) e ∙ o)))),
        ih.1,
      ),
    )

first_is : (ts : List Token) → first_namespace (map lexeme ts) ≡ begins_namespace ts
first_is [] = refl
first_is (t ∷ ts) = refl

none_behind : (ts : List Token) → NoneSo (map lexeme ts) → NoneBehind ts
none_behind [] h = tt
none_behind (t ∷ ts) h = (ap (λ (b : Bool). opens_name t.kind t.text && b) (sym (first_is ts)) ∙ h.0, none_behind ts h.1)

pub no_name_is_namespace : NoNameIsNamespace
no_name_is_namespace v bytes ts h = none_behind ts (lexed_none h.lexed).1
