-- Inline HTML before an opening tag.
use Rattle.std.proofs.Common.{
  ◌≡◌,
  ℕ,
  suc,
  ◌+◌,
  Bool,
  true,
  false,
  cond,
  not,
  ◌&&◌,
  ◌||◌,
  nat_eq,
  List,
  [],
  ◌∷◌,
  ◌++◌,
  length,
  drop,
  codes,
  Some,
  None,
  refl,
  sym,
  ap,
  ◌∙◌,
  subst,
  arith,
}
use Rattle.std.proofs.lemmas.Bool.{and_parts, eqb-true, or_parts, not-true}
use Rattle.std.proofs.lemmas.Bool.Decides.{nat_tests}
use Rattle.php_tree.specs.declared.version.Version.{Version}
use Rattle.php_spellings.specs.declared.table.Kind.{Kind}
use Rattle.php_spellings.specs.declared.table.Kind.TheVariants.{OpenEcho, InlineHtml}
use Rattle.php_spellings.specs.declared.table.State.{State}
use Rattle.php_spellings.specs.declared.table.State.TheVariants.{First, Plain}
use Rattle.php_spellings.specs.declared.table.Run.TheVariants.{Html}
use Rattle.php_spellings.specs.Bytes.{is_space, is_empty, lower, begins, starts_word}
use Rattle.php_lexer.specs.Tails.{begins_tag, is_run}
use Rattle.php_lexer.specs.Modes.{html, IsLongest}
use Rattle.php_lexer.specs.Scan.{scan, run_len, some_len, add_to, longer}
use Rattle.php_lexer.proofs.Dispatch.{other_head}
use Rattle.php_relexing.specs.Inline.{HtmlStays}
use Rattle.php_relexing.proofs.Picked.{longest_meets}
use Rattle.php_relexing.proofs.Scanned.{found, longest_of}

-- ---- a `<` stops a tag

third : (x y z u : Bool) → ((x && (y && false)) && z) ≡ ((x && (y && false)) && u)
third true true z u = refl
third true false z u = refl
third false y z u = refl

second : (x z u : Bool) → ((x && false) && z) ≡ ((x && false) && u)
second true z u = refl
second false z u = refl

fourth : (x y w z u : Bool) → ((x && (y && (w && false))) && z) ≡ ((x && (y && (w && false))) && u)
fourth true true true z u = refl
fourth true true false z u = refl
fourth true false w z u = refl
fourth false y w z u = refl

tag_same : (x r s : List ℕ) → begins_tag (x ++ 60 ∷ r) ≡ begins_tag (x ++ 60 ∷ s)
tag_same [] r s = refl
tag_same (a ∷ []) r s = ap (λ (t : Bool). (nat_eq 63 (lower a) && false) || t)
    (second (nat_eq 63 (lower a)) (is_empty (drop 2 r) || begins is_space (drop 2 r))
    (is_empty (drop 2 s) || begins is_space (drop 2 s)))
tag_same (a ∷ b ∷ []) r s = ap (λ (t : Bool). (nat_eq 63 (lower a) && (nat_eq 61 (lower b) && true)) || t)
    (third (nat_eq 63 (lower a)) (nat_eq 112 (lower b)) (is_empty (drop 1 r) || begins is_space (drop 1 r))
    (is_empty (drop 1 s) || begins is_space (drop 1 s)))
tag_same (a ∷ b ∷ c ∷ []) r s = ap (λ (t : Bool). (nat_eq 63 (lower a) && (nat_eq 61 (lower b) && true)) || t)
    (fourth (nat_eq 63 (lower a)) (nat_eq 112 (lower b)) (nat_eq 104 (lower c)) (is_empty r || begins is_space r)
    (is_empty s || begins is_space s))
tag_same (a ∷ b ∷ c ∷ d ∷ []) r s = refl
tag_same (a ∷ b ∷ c ∷ d ∷ e ∷ x) r s = refl

-- ---- the run

html_over : (st : State) (a r s : List ℕ) → is_run Html [] st a (60 ∷ r) ≡ true → is_run Html [] st a (60 ∷ s) ≡ true
html_over st [] r s h = refl
html_over st (b ∷ a) r s h =
    let (here, more) = and_parts (not (nat_eq b 60 && begins_tag (a ++ 60 ∷ r))) (is_run Html [] Plain a (60 ∷ r)) h in
    let there : not (nat_eq b 60 && begins_tag (a ++ 60 ∷ s)) ≡ true = ap (λ (t : Bool). not (nat_eq b 60 && t)) (tag_same a s r) ∙ here in
    rw (there, html_over Plain a r s more) refl

html_len : (st : State) (a s : List ℕ) → is_run Html [] st a (60 ∷ s) ≡ true → begins_tag s ≡ true → run_len Html [] st (a ++ 60 ∷ s) ≡ length a
html_len st [] s h e = rw e refl
html_len st (b ∷ a) s h e =
    let (here, more) = and_parts (not (nat_eq b 60 && begins_tag (a ++ 60 ∷ s))) (is_run Html [] Plain a (60 ∷ s)) h in
    rw (here, html_len Plain a s more e) (omega arith)

-- ---- no tag begins

more_by : (t x y z : Bool) → x ≡ (y && z) → (t && x) ≡ ((t && y) && z)
more_by true x y z e = e
more_by false x y z e = refl

starts_more : (w : List ℕ) (c : ℕ) (bs : List ℕ) → starts_word (w ++ c ∷ []) bs ≡ (starts_word w bs && starts_word (c ∷ []) (drop (length w) bs))
starts_more [] c bs = refl
starts_more (x ∷ w) c [] = refl
starts_more (x ∷ w) c (b ∷ bs) = more_by (nat_eq x (lower b)) (starts_word (w ++ c ∷ []) bs) (starts_word w bs) (starts_word (c ∷ []) (drop (length w) bs)) (starts_more w c bs)

-- what an opening tag begins with: none of the rows of tags meets the bytes
pub record NoTag (bs : List ℕ) : Type 0 where
  pub echo : starts_word (codes "?=") bs ≡ false
  pub space : starts_word (codes "?php ") bs ≡ false
  pub tab : starts_word (codes "?php\t") bs ≡ false
  pub feed : starts_word (codes "?php\n") bs ≡ false
  pub return : starts_word (codes "?php\r") bs ≡ false
  pub both : starts_word (codes "?php\r\n") bs ≡ false
  pub last : cond (starts_word (codes "?php") bs) (add_to 5 (cond (is_empty (drop 4 bs)) (Some 0) None)) None ≡ None

no_byte : (c : ℕ) (u : List ℕ) → nat_eq c 32 || nat_eq c 9 || nat_eq c 10 || nat_eq c 13 ≡ true → begins is_space u ≡ false → starts_word (c ∷ []) u ≡ false
no_byte c [] h e = refl
no_byte c (y ∷ u) h e = let other : nat_eq c (lower y) ≡ false = grind (arith, nat_tests) in rw other refl

one_more : (w : List ℕ) (c : ℕ) (bs : List ℕ) (t : Bool) → starts_word w bs ≡ t
    → (t ≡ true → starts_word (c ∷ []) (drop (length w) bs) ≡ false) → starts_word (w ++ c ∷ []) bs ≡ false
one_more w c bs false e f = starts_more w c bs ∙ rw e refl
one_more w c bs true e f = starts_more w c bs ∙ rw (e, f refl) refl

last_by : (bs : List ℕ) (t : Bool) → starts_word (codes "?php") bs ≡ t → (t ≡ true → is_empty (drop 4 bs) ≡ false)
    → cond t (add_to 5 (cond (is_empty (drop 4 bs)) (Some 0) None)) None ≡ None
last_by bs false e f = refl
last_by bs true e f = rw (f refl) refl

behind_by : (t x y : Bool) → (t && (x || y)) ≡ false → t ≡ true → (x ≡ false) × (y ≡ false)
behind_by t x y h e = or_parts x y (rw e at h)

no_tag : (bs : List ℕ) → begins_tag bs ≡ false → NoTag bs
no_tag bs h =
    let (echo, php) = or_parts (starts_word (codes "?=") bs) (starts_word (codes "?php") bs && (is_empty (drop 4 bs) || begins is_space (drop 4 bs))) h in
    let behind = behind_by (starts_word (codes "?php") bs) (is_empty (drop 4 bs)) (begins is_space (drop 4 bs)) php in
    let return = one_more (codes "?php") 13 bs (starts_word (codes "?php") bs) refl (λ e. no_byte 13 (drop 4 bs) refl (behind e).1) in
    record {
      echo = echo;
      space = one_more (codes "?php") 32 bs (starts_word (codes "?php") bs) refl (λ e. no_byte 32 (drop 4 bs) refl (behind e).1);
      tab = one_more (codes "?php") 9 bs (starts_word (codes "?php") bs) refl (λ e. no_byte 9 (drop 4 bs) refl (behind e).1);
      feed = one_more (codes "?php") 10 bs (starts_word (codes "?php") bs) refl (λ e. no_byte 10 (drop 4 bs) refl (behind e).1);
      return = return;
      both = one_more (codes "?php\r") 10 bs false return (λ e. absurd cc);
      last = last_by bs (starts_word (codes "?php") bs) refl (λ e. (behind e).0);
    }

-- ---- the scan

inline_row : (n : ℕ) → longer InlineHtml (add_to 0 (some_len (suc n))) None ≡ found InlineHtml (suc n)
inline_row n =
    let some : nat_eq (suc n) 0 ≡ false = grind (arith, nat_tests) in
    let same : 0 + suc n ≡ suc n = omega arith in
    rw (some, same) refl

less_rows : (v : Version) (bs : List ℕ) → NoTag bs → scan v html (60 ∷ bs) ≡ longer InlineHtml (add_to 0 (some_len (run_len Html [] First (60 ∷ bs)))) None
less_rows v bs none = rw (none.echo, none.space, none.tab, none.feed, none.return, none.both, none.last) refl

at_less : (v : Version) (bs : List ℕ) (n : ℕ) → begins_tag bs ≡ false → run_len Html [] First (60 ∷ bs) ≡ suc n → scan v html (60 ∷ bs) ≡ found InlineHtml (suc n)
at_less v bs n h e = less_rows v bs (no_tag bs h) ∙ ap (λ (k : ℕ). longer InlineHtml (add_to 0 (some_len k)) None) e ∙ inline_row n

other_rows : (v : Version) (b : ℕ) (bs : List ℕ) → nat_eq b 60 ≡ false → scan v html (b ∷ bs) ≡ longer InlineHtml (add_to 0 (some_len (run_len Html [] First (b ∷ bs)))) None
other_rows v b bs h = rw (other_head 60 b refl h) refl

at_other : (v : Version) (b : ℕ) (bs : List ℕ) (n : ℕ) → nat_eq b 60 ≡ false → run_len Html [] First (b ∷ bs) ≡ suc n → scan v html (b ∷ bs) ≡ found InlineHtml (suc n)
at_other v b bs n h e = other_rows v b bs h ∙ ap (λ (k : ℕ). longer InlineHtml (add_to 0 (some_len k)) None) e ∙ inline_row n

inline_by : (v : Version) (b : ℕ) (bs : List ℕ) (n : ℕ) (t : Bool) → nat_eq b 60 ≡ t → not (t && begins_tag bs) ≡ true
    → run_len Html [] First (b ∷ bs) ≡ suc n → scan v html (b ∷ bs) ≡ found InlineHtml (suc n)
inline_by v b bs n true p h e =
    let same = eqb-true b 60 p in
    subst (λ (x : ℕ). scan v html (x ∷ bs) ≡ found InlineHtml (suc n)) (sym same)
    (at_less v bs n (not-true (begins_tag bs) h) (subst (λ (x : ℕ). run_len Html [] First (x ∷ bs) ≡ suc n) same e))
inline_by v b bs n false p h e = at_other v b bs n p e

abbrev is_inline : Kind → Bool
is_inline InlineHtml = true
is_inline _ = false

or_none : (x : Bool) → (x || false) ≡ true → x ≡ true
or_none true h = refl
or_none false h = absurd cc

inline_is : (w : Version) (a r s : List ℕ) → begins_tag s ≡ true
    → (not (is_empty a) && is_run Html [] First a (60 ∷ r)) ≡ true
    → IsLongest w html (a ++ 60 ∷ s) InlineHtml (length a)
inline_is w [] r s e h = absurd cc
inline_is w (b ∷ a) r s e h =
    let run = html_over First (b ∷ a) r s h in
    let first = (and_parts (not (nat_eq b 60 && begins_tag (a ++ 60 ∷ s))) (is_run Html [] Plain a (60 ∷ s)) run).0 in
    longest_of w html (b ∷ a ++ 60 ∷ s) InlineHtml (suc (length a)) (inline_by w b (a ++ 60 ∷ s) (length a) (nat_eq b 60) refl first (html_len First (b ∷ a) s run e))

pub html_stays : HtmlStays
html_stays = record {
  inline = λ v w a r s e h. inline_is w a r s e (or_none _ (longest_meets is_inline v html a (60 ∷ r) InlineHtml refl h));
  echo = λ v s. longest_of v html (60 ∷ 63 ∷ 61 ∷ s) OpenEcho 3 refl;
}
