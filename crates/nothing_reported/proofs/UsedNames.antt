-- One token or name of a use: whether it is a word that 8.3 refuses there.
use Rattle.std.proofs.Common.{◌≡◌, ℕ, zero, suc, Bool, true, false, not, ◌&&◌, ◌||◌, nat_eq, nat_lt, inl, inr, codes, List, [], ◌∷◌, length, slice_index, refl, sym, ap, ◌∙◌, subst}
use Rattle.std.specs.Char.{to_ascii_lowercase}
use Rattle.std.proofs.lemmas.Bool.{and_right, or_from}
use Rattle.php_tree.specs.declared.token.Token.{Token}
use Rattle.php_tree.specs.declared.token.TokenKind.{TokenKind}
use Rattle.php_tree.specs.declared.token.TokenKind.TheVariants as token
use Rattle.php_tree.specs.declared.kind.NodeKind.TheVariants as kind
use Rattle.php_tree.specs.Tree.{Forest, none, leaf, node}
use Rattle.php_tree.specs.Places.{behind}
use Rattle.php_terminals.specs.declared.terminal.Terminal.{Terminal}
use Rattle.php_terminals.specs.declared.terminal.Terminal.TheVariants as t
use Rattle.php_terminals.specs.Classify.{cast, cast_letter, names_refused, opening, terminal, terminal_by}
use Rattle.php_terminals.specs.Words.{find_row, front, is_word, keyword, keywords, label, labels, operator, operators}
use Rattle.tracked_changes.specs.Draft.{unchanged_token}
use Rattle.syntax_rules.specs.SplitName.{is_label, is_name}
use Rattle.syntax_upgrade.specs.NameHeads.{head_at}
use Rattle.syntax_upgrade.specs.ReservedName as own
use Rattle.syntax_upgrade.specs.ReservedName.{
  Rank,
  first,
  second,
  later,
  Standing,
  at_first,
  class_by,
  gives_type,
  is_class_next,
  is_last,
  next,
  past,
  past_node,
  refused_tokens,
  refuses,
  refuses_last,
}
use Rattle.nothing_reported.proofs.WholeHeads.{skipped, skipped_zero}
use Rattle.rewritten_shapes.specs.Laws.{AreSpelled, has_no_root, is_label_text, is_spelled_by}
use Rattle.rewritten_shapes.specs.RefusedWords as words
use Rattle.rewritten_shapes.specs.RefusedWords.{in_use, in_uses, is_renamed, is_type_name, is_whole_name, named}
use Rattle.rewritten_shapes.proofs.NameParts.{cond_not}
use Rattle.rewritten_shapes.proofs.OperatorWords.{rows_not}
use Rattle.nothing_reported.specs.Laws.{HasNoName}
use Rattle.nothing_reported.proofs.Fronts.{left, Sort, sort, front_token, front_is, alone_class, name_class, same_test, empty_if, alone_of}
use Rattle.nothing_reported.proofs.OwnWords.{same_keyword, same_type, word_none}
use Rattle.nothing_reported.proofs.NameEnds.{Ended, ended, refused_label}

-- ---- the same tests

same_as : (x : Terminal) → words.is_as x ≡ own.is_as x
same_as t.As = refl
same_as _ = refl

same_root : (x : Terminal) → words.is_root x ≡ own.is_root x
same_root t.Backslash = refl
same_root _ = refl

-- ---- a name's class is no other token's

keyword_whole : (text : List ℕ) → is_whole_name (keyword text) ≡ false
unfolding keywords
keyword_whole text = cond_not is_whole_name (nat_lt 5 (length text) && is_word (codes "yield") (front 5 text))
    t.YieldFrom (find_row t.OtherKeyword keywords text) refl
    (rows_not is_whole_name t.OtherKeyword keywords text refl refl)

label_whole : (text : List ℕ) → is_whole_name (label text) ≡ false
unfolding labels
label_whole text = rows_not is_whole_name t.Label labels text refl refl

operator_whole : (text : List ℕ) → is_whole_name (operator text) ≡ false
unfolding operators
operator_whole text = rows_not is_whole_name t.OtherOp operators text refl refl

cast_whole : (text : List ℕ) → is_whole_name (cast text) ≡ false
cast_whole text = cond_not is_whole_name (nat_lt (opening text) (length text))
    (cast_letter (to_ascii_lowercase (slice_index text (opening text)))) t.Cast
    (cond_not is_whole_name (nat_eq (to_ascii_lowercase (slice_index text (opening text))) 114
    || nat_eq (to_ascii_lowercase (slice_index text (opening text))) 117) t.OldCast t.Cast refl refl) refl

no_whole : (k : TokenKind) (text : List ℕ) → is_name k ≡ false → is_whole_name (terminal_by k text) ≡ false
no_whole token.Label text e = label_whole text
no_whole token.Keyword text e = keyword_whole text
no_whole token.Op text e = operator_whole text
no_whole token.Cast text e = cast_whole text
no_whole token.Name text e = cc
no_whole _ text e = refl

-- ---- what stands behind a name

renamed_is : (g : Forest) → is_renamed (named g) ≡ (own.is_as (next g) || own.is_root (next g))
renamed_is none = refl
renamed_is (node j b f) = refl
renamed_is (leaf y f) =
    let k = class_by (head_at y f).more (terminal y) in
    let shown = terminal (front_token y f) in
    ap is_renamed (front_is y f)
    ∙ ap (λ (b : Bool). b || words.is_root shown) (sym (same_test words.is_as y f refl refl) ∙ same_as k)
    ∙ ap (λ (b : Bool). own.is_as k || b) (sym (same_test words.is_root y f refl refl) ∙ same_root k)

gives_none : (c y a r : Bool) → (c && y && not (a || r)) ≡ false → c ≡ true → (a || r) ≡ false → y ≡ false
gives_none true true true r e h g = absurd cc
gives_none true true false true e h g = absurd cc
gives_none true true false false e h g = absurd cc
gives_none true false a r e h g = refl
gives_none false y a r e h g = absurd cc

-- ---- the last token of a name

skip_next : (n : ℕ) (f : Forest) (z : Token) (g : Forest) → skipped n f ≡ leaf z g → skipped (suc n) f ≡ g
skip_next n none z g e = absurd cc
skip_next n (node j b f) z g e = absurd cc
skip_next zero (leaf u h) z g e = skipped_zero h ∙ (let same : h ≡ g = cc in same)
skip_next (suc n) (leaf u h) z g e = skip_next n h z g e

spelled_skipped : (n : ℕ) (f : Forest) → AreSpelled f → AreSpelled (skipped n f)
spelled_skipped n none s = s
spelled_skipped n (node j b f) s = s
spelled_skipped zero (leaf u h) s = s
spelled_skipped (suc n) (leaf u h) s = spelled_skipped n h s.1

last_none : (n : ℕ) (f : Forest) (s : Standing) (at : ℕ) (z : Token) (g : Forest) → refused_tokens kind.Use s (suc n) at f ≡ [] → skipped n f ≡ leaf z g
    → gives_type s.of_class (terminal z) (next g) ≡ false
last_none n none s at z g e i = absurd cc
last_none n (node j b f) s at z g e i = absurd cc
last_none zero (leaf u h) s at z g e i =
    let p = empty_if (gives_type s.of_class (terminal u) (next h)) at u (refused_tokens kind.Use s zero (behind at u) h) e in
    let one : u ≡ z = cc in
    let two : h ≡ g = cc in
    subst (λ (x : Token). gives_type s.of_class (terminal x) (next g) ≡ false) one
    (subst (λ (x : Forest). gives_type s.of_class (terminal u) (next x) ≡ false) two p.0)
last_none (suc n) (leaf u h) s at z g e i =
    last_none n h s (behind at u) z g (empty_if (is_last (suc n) && refuses_last kind.Use s (terminal u) (next h)) at u (refused_tokens kind.Use s (suc n) (behind at u) h) e).1 i

-- a label of a source has no `\`
label_root : (text : List ℕ) → is_label_text text ≡ true → has_no_root text ≡ true
label_root [] e = refl
label_root (b ∷ bs) e = e

label_kind : (k : TokenKind) (text : List ℕ) → is_label k ≡ true → is_spelled_by k text ≡ true → (is_label_text text ≡ true) × (terminal_by k text ≡ label text)
label_kind token.Label text e s = (s, refl)
label_kind _ text e s = absurd cc

-- a use that gives classes names does so behind a name too
stays_class : (r : Rank) (u c : Bool) → c ≡ true → is_class_next r u c t.QualifiedName ≡ true
stays_class first u c e = refl
stays_class second u c e = refl
stays_class later u true e = refl
stays_class later u false e = absurd cc

-- ---- one token or name of a use

or_first : (a b : Bool) → (a || b) ≡ false → a ≡ false
or_first true b e = absurd cc
or_first false b e = refl

or_second : (a b : Bool) → (a || b) ≡ false → b ≡ false
or_second true b e = absurd cc
or_second false b e = e

type_alone : (x : Token) (f : Forest) → is_name x.kind ≡ false → (head_at x f).token ≡ unchanged_token x
    → own.is_type_now (terminal x) ≡ false → is_type_name (front_token x f) ≡ false
type_alone x f k e h =
    let shown = front_token x f in
    or_from (words.is_type_now (terminal shown)) (is_whole_name (terminal shown) && names_refused shown.text)
    (ap words.is_type_now (alone_class x f e) ∙ same_type (terminal x) ∙ h)
    (ap (λ (b : Bool). b && names_refused shown.text) (ap is_whole_name (alone_class x f e) ∙ no_whole x.kind x.text k))

type_name : (x : Token) (f : Forest) (n : ℕ) (s : Standing) (at : ℕ) → AreSpelled f → HasNoName f → (head_at x f).more ≡ suc n → (head_at x f).token.kind ≡ token.Name
    → refused_tokens kind.Use s (suc n) at f ≡ [] → s.of_class ≡ true → is_renamed (left (suc n) f) ≡ false → is_type_name (front_token x f) ≡ false
type_name x f n s at sp nn e k raw c r =
    let shown = front_token x f in
    or_from (words.is_type_now (terminal shown)) (is_whole_name (terminal shown) && names_refused shown.text)
    (name_class words.is_type_now x f k refl refl)
    (and_right (is_whole_name (terminal shown)) (names_refused shown.text) (go (names_refused shown.text) refl))
  where
    ends : Ended n f (front_token x f).text
    ends = ended x f nn n e

    spelled : AreSpelled (leaf ends.last ends.rest)
    spelled = subst AreSpelled ends.is (spelled_skipped n f sp)

    free : own.is_type_now (terminal ends.last) ≡ false
    free =
        gives_none s.of_class (own.is_type_now (terminal ends.last)) (own.is_as (next ends.rest)) (own.is_root (next ends.rest))
        (last_none n f s at ends.last ends.rest raw ends.is) c
        (sym (renamed_is ends.rest) ∙ ap (λ (g : Forest). is_renamed (named g)) (sym (skip_next n f ends.last ends.rest ends.is)) ∙ r)

    go : (b : Bool) → names_refused (front_token x f).text ≡ b → b ≡ false
    go false p = refl
    go true p =
        let l = label_kind ends.last.kind ends.last.text ends.label spelled.0.0 in
        let type : own.is_type_now (terminal ends.last) ≡ true =
        ap own.is_type_now l.1 ∙ refused_label ends.first ends.last.text (label_root ends.last.text l.0) (ap names_refused (sym ends.text) ∙ p) in
        absurd (let z : false ≡ true = sym free ∙ type in cc)

pub use_here : (x : Token) (f : Forest) (s : Standing) (at : ℕ) → AreSpelled f → HasNoName (leaf x f) → refused_tokens kind.Use s zero at (leaf x f) ≡ []
    → (words.is_keyword_now (terminal (front_token x f)) ≡ false)
    × (s.of_class ≡ true → is_renamed (left (head_at x f).more f) ≡ false → is_type_name (front_token x f) ≡ false)
use_here x f s at sp nn e = (
  word_none words.is_keyword_now x f (refuses kind.Use s (terminal x) (next f)) parts.0
      (λ r. same_keyword (terminal x) ∙ or_first (own.is_keyword_now (terminal x)) (gives_type s.of_class (terminal x) (next f)) r) refl refl refl,
  λ c r. go (sort x f) c r,
)
  where
    parts : ((is_last (head_at x f).more && refuses kind.Use s (terminal x) (next f)) ≡ false)
        × (refused_tokens kind.Use (past s (class_by (head_at x f).more (terminal x))) (head_at x f).more (behind at x) f ≡ [])
    parts =
        empty_if (is_last (head_at x f).more && refuses kind.Use s (terminal x) (next f)) at x
        (refused_tokens kind.Use (past s (class_by (head_at x f).more (terminal x))) (head_at x f).more (behind at x) f) e

    go : Sort x (head_at x f) → s.of_class ≡ true → is_renamed (left (head_at x f).more f) ≡ false → is_type_name (front_token x f) ≡ false
    go (inl q) c r =
        type_alone x f nn.0 q.1
        (gives_none s.of_class (own.is_type_now (terminal x)) (own.is_as (next f)) (own.is_root (next f))
        (or_second (own.is_keyword_now (terminal x)) (gives_type s.of_class (terminal x) (next f))
        (alone_of (head_at x f).more (refuses kind.Use s (terminal x) (next f)) parts.0 q.0)) c
        (sym (renamed_is f) ∙ ap (λ (g : Forest). is_renamed (named g)) (sym (skipped_zero f)) ∙ ap (λ (m : ℕ). is_renamed (left m f)) (sym q.0) ∙ r))
    go (inr q) c r =
        type_name x f q.0 (past s t.QualifiedName) (behind at x) sp nn.1 q.1 q.2
        (subst (λ (m : ℕ). refused_tokens kind.Use (past s (class_by m (terminal x))) m (behind at x) f ≡ []) q.1 parts.1)
        (stays_class s.rank s.of_classes s.of_class c)
        (ap (λ (m : ℕ). is_renamed (left m f)) (sym q.1) ∙ r)
