-- Bytes have one list of tokens, one fault, and not both.
use Rattle.std.proofs.Common.{Option, Some, None, inl, inr, ◌≡◌, ℕ, ◌+◌, List, [], ◌∷◌, ◌++◌, length, take, drop, refl, sym, ap, ◌∙◌, subst, arith}
use Rattle.std.proofs.lemmas.Bool.{cases_lt}
use Rattle.php_tree.specs.declared.version.Version.{Version}
use Rattle.php_tree.specs.declared.token.TokenKind.{TokenKind}
use Rattle.php_spellings.specs.declared.table.Kind.{Kind}
use Rattle.php_lexer.specs.declared.fault.LexFault.{LexFault}
use Rattle.php_spellings.specs.Words.{token_of}
use Rattle.php_lexer.specs.Modes.{Mode, html, code, named, quoted, offset, property, kind_of, IsLongest, ModeStep, stay, enter, leave}
use Rattle.php_lexer.specs.Lexed.{Lexeme, Stack, Lexed, ends, trivia, token, Stops, here, unended, later, mode_step_at, after, opened_by, effect, deeper, stepped_by}
use Rattle.php_lexer.proofs.Longest.{longest_some}
use Rattle.php_lexer.proofs.Fronts.{depth_is}

abbrev some_kind : Kind → Option Kind
some_kind k = Some k

pub clash : {A : Type 0} {k : Kind} {o : Option Kind} → o ≡ Some k → o ≡ None → A
clash p q = let e = sym p ∙ q in absurd cc

pub same_length : (v : Version) (m : Mode) (bytes : List ℕ) (k j : Kind) (i n : ℕ) → IsLongest v m bytes k i → IsLongest v m bytes j n → i ≡ n
same_length v m bytes k j i n p q = elim (cases_lt i n) [
  | inl lt ↦ clash q.is (p.longest n lt q.within)
  | inr le ↦ elim (cases_lt n i) [ inl lt ↦ clash p.is (q.longest i lt p.within) | inr ge ↦ omega arith ]
]

kind_eq : (k j : Kind) → some_kind k ≡ some_kind j → k ≡ j
kind_eq k j e = cc

pub same_kind : (v : Version) (m : Mode) (bytes : List ℕ) (k j : Kind) (i n : ℕ) → IsLongest v m bytes k i → IsLongest v m bytes j n → k ≡ j
same_kind v m bytes k j i n p q = kind_eq k j (let e = same_length v m bytes k j i n p q in sym p.is ∙ ap (λ (x : ℕ). kind_of v m (take x bytes) (drop x bytes)) e ∙ q.is)

none_left : (v : Version) (m : Mode) (bytes : List ℕ) (k : Kind) (n : ℕ) → bytes ≡ [] → IsLongest v m bytes k n → ⊥
none_left v m bytes k n e h =
    let some = longest_some v m bytes k n h in
    let size : length bytes ≡ 0 = ap length e in
    let w = h.within in omega arith

-- the kind of a token of the first n bytes
abbrev token_at : Kind → ℕ → List ℕ → Option TokenKind
token_at k n bytes = token_of k (take n bytes)

same_at : (k j : Kind) (n i : ℕ) (bytes : List ℕ) → k ≡ j → n ≡ i → token_at k n bytes ≡ token_at j i bytes
same_at k j n i bytes p q = ap (λ (x : Kind). token_at x n bytes) p ∙ ap (λ (x : ℕ). token_at j x bytes) q

differ : {A : Type 0} (k j : Kind) (n i : ℕ) (bytes : List ℕ) (t : TokenKind) → k ≡ j → n ≡ i → token_at k n bytes ≡ None → token_at j i bytes ≡ Some t → A
differ k j n i bytes t p q none some = let e : token_at k n bytes ≡ token_at j i bytes = same_at k j n i bytes p q in absurd cc

abbrev some_token : TokenKind → Option TokenKind
some_token t = Some t

token_eq : (t u : TokenKind) → some_token t ≡ some_token u → t ≡ u
token_eq t u e = cc

abbrev stack_parts : Mode → List Mode → ℕ → Stack
stack_parts top below n = record { top = top; below = below; depth = n }

abbrev lexeme_of : TokenKind → List ℕ → List ℕ → Lexeme
lexeme_of kind lead text = record { kind = kind; lead = lead; text = text }

same_token : (t u : TokenKind) (lead bytes : List ℕ) (n i : ℕ) (ts us : List Lexeme) → t ≡ u → n ≡ i → ts ≡ us
    → lexeme_of t lead (take n bytes) ∷ ts ≡ lexeme_of u lead (take i bytes) ∷ us
same_token t u lead bytes n i ts us p q r = rw (p, q, r) refl

pub one_lexing : {v : Version} {stack : Stack} {lead bytes : List ℕ} {ts us : List Lexeme} → Lexed v stack lead bytes ts → Lexed v stack lead bytes us → ts ≡ us
one_lexing (ends e d) (ends e' d') = refl
one_lexing (ends {version = v} {stack} {lead} {bytes} e d) (trivia k n h b l) = absurd (none_left v stack.top bytes k n e h)
one_lexing (ends {version = v} {stack} {lead} {bytes} e d) (token k n t h b l) = absurd (none_left v stack.top bytes k n e h)
one_lexing (trivia {version = v} {stack} {lead} {bytes} k n h b l) (ends e d) = absurd (none_left v stack.top bytes k n e h)
one_lexing (token {version = v} {stack} {lead} {bytes} k n t h b l) (ends e d) = absurd (none_left v stack.top bytes k n e h)
one_lexing (trivia {version = v} {stack} {lead} {bytes} k n h b l) (token j i t h' b' l') =
    differ k j n i bytes t (same_kind v stack.top bytes k j n i h h') (same_length v stack.top bytes k j n i h h') b
    b'
one_lexing (token {version = v} {stack} {lead} {bytes} k n t h b l) (trivia j i h' b' l') =
    differ j k i n bytes t (same_kind v stack.top bytes j k i n h' h) (same_length v stack.top bytes j k i n h' h) b'
    b
one_lexing (trivia {version = v} {stack} {lead} {bytes} k n h b l) (trivia {ts = us} j i h' b' l') =
    let kinds = same_kind v stack.top bytes k j n i h h' in
    let sizes = same_length v stack.top bytes k j n i h h' in
    one_lexing l (subst (λ (x : Kind). Lexed v (after v stack x n bytes) (lead ++ take n bytes) (drop n bytes) us)
    (sym kinds) (subst (λ (x : ℕ). Lexed v (after v stack j x bytes) (lead ++ take x bytes) (drop x bytes) us)
    (sym sizes) l'))
one_lexing (token {version = v} {stack} {lead} {bytes} {ts = ts} k n t h b l) (token {ts = us} j i u h' b' l') =
    let kinds = same_kind v stack.top bytes k j n i h h' in
    let sizes = same_length v stack.top bytes k j n i h h' in
    let tokens : t ≡ u = token_eq t u (sym b ∙ same_at k j n i bytes kinds sizes ∙ b') in
    let rest = one_lexing l (subst (λ (x : Kind). Lexed v (after v stack x n bytes) [] (drop n bytes) us) (sym kinds)
    (subst (λ (x : ℕ). Lexed v (after v stack j x bytes) [] (drop x bytes) us) (sym sizes) l')) in
    same_token t u lead bytes n i ts us tokens sizes rest

stepped_depth : (t : ModeStep) (top : Mode) (below : List Mode) (n : ℕ) → (stepped_by t (stack_parts top below n)).depth ≡ deeper (effect top t) n
stepped_depth (stay m) html below n = refl
stepped_depth (stay m) code below n = refl
stepped_depth (stay m) named below n = refl
stepped_depth (stay m) (quoted mark label fresh) below n = refl
stepped_depth (stay m) offset below n = refl
stepped_depth (stay m) property below n = refl
stepped_depth (enter above under) top below n = refl
stepped_depth leave top below n = refl

deep : (v : Version) (stack : Stack) (k : Kind) (n : ℕ) (bytes : List ℕ) (at : ℕ) (fs : List LexFault)
    → stack.depth ≡ length fs → (after v stack k n bytes).depth ≡ length
    (opened_by stack.top (mode_step_at v stack k n bytes) at fs)
deep v stack k n bytes at fs d =
    stepped_depth (mode_step_at v stack k n bytes) stack.top stack.below stack.depth
    ∙ ap (λ (i : ℕ). deeper (effect stack.top (mode_step_at v stack k n bytes)) i) d
    ∙ sym (depth_is (effect stack.top (mode_step_at v stack k n bytes)) at fs)

move : (v : Version) (stack : Stack) (bytes : List ℕ) (fs : List LexFault) (at : ℕ) (f : LexFault) (k j : Kind)
    (n i : ℕ) → k ≡ j → n ≡ i → Stops v (after v stack j i bytes)
    (opened_by stack.top (mode_step_at v stack j i bytes) at fs) (at + i) (drop i bytes) f
    → Stops v (after v stack k n bytes) (opened_by stack.top (mode_step_at v stack k n bytes) at fs) (at + n)
    (drop n bytes) f
move v stack bytes fs at f k j n i p q s =
    subst (λ (x : Kind). Stops v (after v stack x n bytes) (opened_by stack.top (mode_step_at v stack x n bytes) at fs)
    (at + n) (drop n bytes) f) (sym p) (subst (λ (x : ℕ). Stops v (after v stack j x bytes)
    (opened_by stack.top (mode_step_at v stack j x bytes) at fs) (at + x) (drop x bytes) f) (sym q) s)

-- Where the tokens stop there are none.
pub no_stop : {v : Version} {stack : Stack} {lead bytes : List ℕ} {ts : List Lexeme} → Lexed v stack lead bytes ts
    → (fs : List LexFault) (at : ℕ) (f : LexFault) → stack.depth ≡ length fs → Stops v stack fs at bytes f → ⊥
no_stop (ends e d) fs at f same (here some none) = let size = ap length e in omega arith
no_stop (ends e d) fs at f same unended = omega arith
no_stop (ends {version = v} {stack} {lead} {bytes} e d) fs at f same (later j i h s) = none_left v stack.top bytes j i e h
no_stop (trivia k n h b l) fs at f same (here some none) = clash h.is (none n h.within)
no_stop (trivia {version = v} {stack} {lead} {bytes} k n h b l) fs at f same unended = none_left v stack.top [] k n refl h
no_stop (trivia {version = v} {stack} {lead} {bytes} k n h b l) fs at f same (later j i h' s) =
    no_stop l (opened_by stack.top (mode_step_at v stack k n bytes) at fs) (at + n) f (deep v stack k n bytes at fs same)
    (move v stack bytes fs at f k j n i (same_kind v stack.top bytes k j n i h h')
    (same_length v stack.top bytes k j n i h h') s)
no_stop (token k n t h b l) fs at f same (here some none) = clash h.is (none n h.within)
no_stop (token {version = v} {stack} {lead} {bytes} k n t h b l) fs at f same unended = none_left v stack.top [] k n refl h
no_stop (token {version = v} {stack} {lead} {bytes} k n t h b l) fs at f same (later j i h' s) =
    no_stop l (opened_by stack.top (mode_step_at v stack k n bytes) at fs) (at + n) f (deep v stack k n bytes at fs same)
    (move v stack bytes fs at f k j n i (same_kind v stack.top bytes k j n i h h')
    (same_length v stack.top bytes k j n i h h') s)

-- There is one fault.
pub one_fault : {v : Version} {stack : Stack} {bytes : List ℕ} {fs : List LexFault} {at : ℕ} {f g : LexFault} → Stops v stack fs at bytes f → Stops v stack fs at bytes g → f ≡ g
one_fault (here some none) (here some' none') = refl
one_fault (here some none) unended = absurd (omega arith)
one_fault (here some none) (later j i h s) = clash h.is (none i h.within)
one_fault unended (here some none) = absurd (omega arith)
one_fault unended unended = refl
one_fault (unended {version = v} {stack}) (later j i h s) = absurd (none_left v stack.top [] j i refl h)
one_fault (later j i h s) (here some none) = clash h.is (none i h.within)
one_fault (later {version = v} {stack} j i h s) unended = absurd (none_left v stack.top [] j i refl h)
one_fault (later {version = v} {stack} {fs} {at} {bytes} k n h s) (later {fault = g} j i h' s') =
    one_fault s (move v stack bytes fs at g k j n i (same_kind v stack.top bytes k j n i h h')
    (same_length v stack.top bytes k j n i h h') s')
