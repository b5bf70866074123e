-- Names between the braces of a use of traits: a label stands behind each `\`.
use Rattle.std.proofs.Common.{◌≡◌, ℕ, Bool, true, false, not, ◌&&◌, ◌||◌, if◌then◌else◌, codes, List, refl, sym, ap, ◌∙◌, subst, ◌==◌, ◌∷◌, []}
use Rattle.std.specs.Str.{bytes_eq}
use Rattle.std.proofs.lemmas.Slice.Eq.{bytes_eq-Decides}
use Rattle.php_tree.specs.declared.token.Token.{Token}
use Rattle.php_tree.specs.declared.token.TokenKind.{TokenKind}
use Rattle.php_tree.specs.declared.token.TokenKind.TheVariants as kind
use Rattle.php_tree.specs.declared.version.Version.TheVariants.{V74}
use Rattle.php_tree.specs.Tree.{Forest, none, leaf, node, ◌+++◌}
use Rattle.php_terminals.specs.declared.terminal.Terminal.TheVariants as t
use Rattle.php_spellings.specs.Bytes.{begins, begins_by, is_letter}
use Rattle.php_lexer.specs.Modes.{is_byte}
use Rattle.php_shapes.specs.Notation.{word, tokens, ◌~◌, ◌|||◌}
use Rattle.php_shapes.specs.Shapes.{Fits, is_word, is_both, is_first, is_second, is_tokens}
use Rattle.rewritten_shapes.specs.Laws.{is_label_text, is_namespace_word}
use Rattle.syntax_rules.specs.SplitName.{is_label}
use Rattle.rewritten_shapes.specs.paired.Names.{
  Part,
  State,
  bad,
  blank,
  calm,
  edged,
  failed,
  key,
  keyed,
  label,
  mark,
  other,
  part_by,
  root,
  rooted,
  rooted_key,
  run,
  space,
  step,
  worded,
}
use Rattle.rewritten_shapes.specs.paired.Tokens.{IsMark, is_code_kind, is_code_token, is_mark, is_op}
use Rattle.rewritten_shapes.specs.paired.Traits.{are_plain, has_plain_rules, is_plain}
use Rattle.rewritten_shapes.proofs.paired.Asked.{both_left, both_right}
use Rattle.rewritten_shapes.proofs.paired.CodeTokens.{is_brace}
use Rattle.rewritten_shapes.proofs.paired.Marks as told
use Rattle.rewritten_shapes.proofs.paired.NameTokens.{FineLabel, brace_is, label_part, part_of, shut_is, word_holds}
use Rattle.rewritten_shapes.proofs.paired.States.{at_calm, at_word, holds}

-- labels have texts as those of a source
abbrev pub FineLabels : Forest → Type 0
FineLabels none = Unit {0}
FineLabels (leaf x f) = FineLabel x × FineLabels f
FineLabels (node j c f) = FineLabels c × FineLabels f

-- ---- tokens of code

abbrev is_bad : Part → Bool
is_bad bad = true
is_bad blank = true
is_bad _ = false

abbrev is_root : Part → Bool
is_root root = true
is_root _ = false

op_good : (a b : Bool) → is_bad (if a then root else (if b then other else mark)) ≡ false
op_good true b = refl
op_good false true = refl
op_good false false = refl

word_good : (b : Bool) → is_bad (if b then space else key) ≡ false
word_good true = refl
word_good false = refl

good_part : (sort : TokenKind) (text : List ℕ) → is_code_kind sort ≡ true → (is_label sort ≡ true → is_label_text text ≡ true) → is_bad (part_by sort text) ≡ false
good_part kind.Label text e f = ap is_bad (label_part kind.Label text refl (f refl))
good_part kind.Keyword text e f = word_good (is_namespace_word text)
good_part kind.Op text e f = op_good (bytes_eq text (codes "\\")) (begins is_letter text)
good_part kind.Name text e f = absurd cc
good_part _ text e f = refl

-- `\` by its part
root_mark : (sort : TokenKind) (text : List ℕ) → is_root (part_by sort text) ≡ true → (is_op sort && is_byte 92 text) ≡ true
root_mark kind.Op text e = op_byte (bytes_eq text (codes "\\")) refl e
  where
    op_byte : (b : Bool) → bytes_eq text (codes "\\") ≡ b → is_root (if b then root else (if begins is_letter text then other else mark)) ≡ true → is_byte 92 text ≡ true
    op_byte true d e = ap (is_byte 92) ((bytes_eq-Decides text (codes "\\")).0 d)
    op_byte false d e = absurd (no_root (begins is_letter text) e)
      where
        no_root : (b : Bool) → is_root (if b then other else mark) ≡ true → ⊥
        no_root true e = cc
        no_root false e = cc
root_mark kind.Label [] e = absurd cc
root_mark kind.Label (b ∷ bs) e = absurd (no_root (b == 92) e)
  where
    no_root : (c : Bool) → is_root (if c then bad else label) ≡ true → ⊥
    no_root true e = cc
    no_root false e = cc
root_mark kind.Keyword text e = absurd (no_root (is_namespace_word text) e)
  where
    no_root : (b : Bool) → is_root (if b then space else key) ≡ true → ⊥
    no_root true e = cc
    no_root false e = cc
root_mark _ text e = absurd cc

-- ---- states

-- whether anything may come
abbrev is_ready : State → Bool
is_ready calm = true
is_ready keyed = true
is_ready worded = true
is_ready _ = false

-- whether a label must come
abbrev waits : State → Bool
waits rooted = true
waits rooted_key = true
waits _ = false

abbrev label_first : Forest → Bool
label_first none = false
label_first (leaf y f) = is_label y.kind
label_first (node j c f) = false

-- what comes next may
abbrev may_go : State → Forest → Bool
may_go s f = is_ready s || (waits s && label_first f)

implied : (a b : Bool) → (not a || b) ≡ true → a ≡ true → b ≡ true
implied true b e h = e
implied false b e h = absurd cc

ready_step : (s : State) (p : Part) (f : Forest) → is_ready s ≡ true → is_bad p ≡ false → (is_root p ≡ true → label_first f ≡ true) → may_go (step s p) f ≡ true
ready_step failed p f e d g = absurd cc
ready_step calm root f e d g = g refl
ready_step calm label f e d g = refl
ready_step calm space f e d g = refl
ready_step calm key f e d g = refl
ready_step calm mark f e d g = refl
ready_step calm other f e d g = refl
ready_step calm bad f e d g = absurd cc
ready_step calm blank f e d g = absurd cc
ready_step keyed root f e d g = g refl
ready_step keyed label f e d g = refl
ready_step keyed space f e d g = refl
ready_step keyed key f e d g = refl
ready_step keyed mark f e d g = refl
ready_step keyed other f e d g = refl
ready_step keyed bad f e d g = absurd cc
ready_step keyed blank f e d g = absurd cc
ready_step rooted p f e d g = absurd cc
ready_step rooted_key p f e d g = absurd cc
ready_step worded root f e d g = g refl
ready_step worded label f e d g = refl
ready_step worded space f e d g = refl
ready_step worded key f e d g = refl
ready_step worded mark f e d g = refl
ready_step worded other f e d g = refl
ready_step worded bad f e d g = absurd cc
ready_step worded blank f e d g = absurd cc
ready_step edged p f e d g = absurd cc

waiting_step : (s : State) (f : Forest) → waits s ≡ true → may_go (step s label) f ≡ true
waiting_step rooted f e = refl
waiting_step rooted_key f e = refl
waiting_step _ f e = absurd cc

by_state : (P : Type 0) (a b c : Bool) → (a ≡ true → P) → (b ≡ true → c ≡ true → P) → (a || (b && c)) ≡ true → P
by_state P true b c f g e = f refl
by_state P false true c f g e = g refl e
by_state P false false c f g e = absurd cc

goes_on : (x : Token) (f : Forest) (s : State) → is_plain x ≡ true → FineLabel x
    → (not (is_mark 92 x) || label_first f) ≡ true → may_go s (leaf x f) ≡ true → may_go (step s (part_of x)) f ≡ true
goes_on x f s e l n h =
    by_state (may_go (step s (part_of x)) f ≡ true) (is_ready s) (waits s) (is_label x.kind)
    (λ r. ready_step s (part_of x) f r (good_part x.kind x.text (both_left (is_code_kind x.kind) _ (both_left (is_code_token x) _ e)) l)
    (λ d. implied (is_mark 92 x) (label_first f) n (root_mark x.kind x.text d)))
    (λ w d. ap (λ (p : Part). may_go (step s p) f) (label_part x.kind x.text d (l d)) ∙ waiting_step s f w) h

-- in front of `}`
shut_step : (s : State) (u : Token) → IsMark 125 u → may_go s (leaf u none) ≡ true → step s (part_of u) ≡ calm
shut_step s u m h = ap (step s) (shut_is u m) ∙ go s (ap (λ (sort : TokenKind). is_ready s || (waits s && is_label sort)) (sym m.kind) ∙ h)
  where
    go : (s : State) → (is_ready s || (waits s && false)) ≡ true → step s mark ≡ calm
    go calm e = refl
    go keyed e = refl
    go worded e = refl
    go rooted e = absurd cc
    go rooted_key e = absurd cc
    go failed e = absurd cc
    go edged e = absurd cc

plain_run : (f : Forest) (u : Token) (s : State) → are_plain (f +++ leaf u none) ≡ true → FineLabels f → IsMark 125 u
    → may_go s (f +++ leaf u none) ≡ true → run s (f +++ leaf u none) ≡ calm
plain_run none u s e l m h = shut_step s u m h
plain_run (leaf x none) u s e l m h =
    shut_step (step s (part_of x)) u m
    (goes_on x (leaf u none) s (both_left (is_plain x) _ e) l.0 (both_left (not (is_mark 92 x) || is_label u.kind) _ (both_right (is_plain x) _ e)) h)
plain_run (leaf x (leaf y f)) u s e l m h =
    plain_run (leaf y f) u (step s (part_of x)) (both_right (not (is_mark 92 x) || is_label y.kind) _ (both_right (is_plain x) _ e)) l.1 m
    (goes_on x (leaf y (f +++ leaf u none)) s (both_left (is_plain x) _ e) l.0 (both_left (not (is_mark 92 x) || is_label y.kind) _ (both_right (is_plain x) _ e)) h)
plain_run (leaf x (node j c f)) u s e l m h = absurd cc
plain_run (node j c f) u s e l m h = absurd cc

pub calm_is : (s : State) → holds at_calm s ≡ true → s ≡ calm
calm_is calm e = refl
calm_is _ e = absurd cc

word_is : (s : State) → holds at_word s ≡ true → s ≡ worded
word_is worded e = refl
word_is _ e = absurd cc

by_yes : (a b c : Bool) → a ≡ true → ((a && b) || (not a && c)) ≡ true → b ≡ true
by_yes true true c e h = refl
by_yes true false c e h = cc
by_yes false b c e h = cc

pub fine_front : (f g : Forest) → FineLabels (f +++ g) → FineLabels f
fine_front none g l = tt
fine_front (leaf x f) g l = (l.0, fine_front f g l.1)
fine_front (node j c f) g l = (l.0, fine_front f g l.1)

-- what stands behind the names of traits
pub rules_run : (h : Forest) → Fits V74 (word t.Semi ||| (word t.OpenBrace ~ tokens ~ word t.CloseBrace)) h
    → FineLabels h → has_plain_rules h ≡ true → (s : State) → holds at_word s ≡ true → run s h ≡ calm
rules_run h (is_first (is_word {x} p)) l w s e = calm_is (step s (part_of x)) (word_holds t.Semi x l.0 p at_word s e)
rules_run h (is_second (is_both {f = r} {g} (is_word {x} p) (is_both {g = i} (is_tokens b) (is_word {x = u} q) e) d)) l w s o =
    let same : h ≡ leaf x (i +++ leaf u none) = d ∙ ap (leaf x) e in
    let fine = subst FineLabels same l in
    let plain : are_plain (i +++ leaf u none) ≡ true =
    by_yes (is_mark 123 x) (are_plain (i +++ leaf u none)) (has_plain_rules (i +++ leaf u none)) (is_brace x (told.open_brace x p)) (ap has_plain_rules (sym same) ∙ w) in
    ap (run s) same
    ∙ ap (λ (z : State). run z (i +++ leaf u none)) (ap (λ (z : State). step z (part_of x)) (word_is s o) ∙ ap (step worded) (brace_is x (told.open_brace x p)))
    ∙ plain_run i u calm plain (fine_front i (leaf u none) fine.1) (told.close_brace u q) refl
