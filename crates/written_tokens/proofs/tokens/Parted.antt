-- Whole names are those of the tokens in parts.
use Rattle.std.proofs.Common.{◌≡◌, ℕ, Bool, true, false, cond, not, ◌&&◌, ◌||◌, codes, List, [], ◌∷◌, ◌++◌, map, refl, sym, ap, ◌∙◌, subst, append_assoc}
use Rattle.std.specs.Str.{bytes_eq, str_to_ascii_lowercase}
use Rattle.php_tree.specs.declared.token.TokenKind.{TokenKind}
use Rattle.php_tree.specs.declared.token.TokenKind.TheVariants as token
use Rattle.php_spellings.specs.Bytes.{is_empty, begins_by}
use Rattle.php_lexer.specs.Lexed.{Lexeme}
use Rattle.tracked_changes.specs.Pieces.{Piece, new_bytes, old_bytes, before, after}
use Rattle.tracked_changes.specs.Draft.{NewToken}
use Rattle.tracked_changes.specs.Tokens.{is_text}
use Rattle.syntax_rules.specs.SplitName as names
use Rattle.written_tokens.specs.tokens.Whole.{is_label_kind, is_name_kind, is_keyword_kind, is_namespace, is_backslash, is_one, before_tokens, whole_tokens}
use Rattle.written_tokens.specs.tokens.Written.{new_lexeme}
use Rattle.written_tokens.specs.tokens.Drafted.{before_all, all_whole, joins}
use Rattle.written_tokens.specs.tokens.Parted.{bare, parted, may_be_part, SamePart, HasText, NamesStay, WholeOfParts}

-- ---- bytes

after_append : (ps qs : List Piece) → after (ps ++ qs) ≡ after ps ++ after qs
after_append [] qs = refl
after_append (p ∷ ps) qs = ap (λ (l : List ℕ). new_bytes p ++ l) (after_append ps qs) ∙ sym (append_assoc (new_bytes p) (after ps) (after qs))

before_append : (ps qs : List Piece) → before (ps ++ qs) ≡ before ps ++ before qs
before_append [] qs = refl
before_append (p ∷ ps) qs = ap (λ (l : List ℕ). old_bytes p ++ l) (before_append ps qs) ∙ sym (append_assoc (old_bytes p) (before ps) (before qs))

none_after : (bs : List ℕ) → after (names.deleted bs) ≡ []
none_after [] = refl
none_after (b ∷ bs) = refl

joined_text : (t u : NewToken) → after (t.text ++ names.deleted (before u.lead) ++ u.text) ≡ after t.text ++ after u.text
joined_text t u =
    after_append (t.text ++ names.deleted (before u.lead)) u.text
    ∙ ap (λ (l : List ℕ). l ++ after u.text) (after_append t.text (names.deleted (before u.lead))
    ∙ ap (λ (l : List ℕ). after t.text ++ l) (none_after (before u.lead)) ∙ append_nothing (after t.text))
  where
    append_nothing : (l : List ℕ) → l ++ [] ≡ l
    append_nothing [] = refl
    append_nothing (x ∷ l) = ap (λ (m : List ℕ). x ∷ m) (append_nothing l)

root_front : (xs ys : List ℕ) → is_empty xs ≡ false → names.begins_root (xs ++ ys) ≡ names.begins_root xs
root_front [] ys h = absurd cc
root_front (x ∷ xs) ys h = refl

by_front : (xs ys : List ℕ) → is_empty xs ≡ false → begins_by 92 (xs ++ ys) ≡ begins_by 92 xs
by_front [] ys h = absurd cc
by_front (x ∷ xs) ys h = refl

-- what is first of a whole name is the same before and after
abbrev SameFront : List NewToken → Type 0
SameFront [] = Unit {0}
SameFront (u ∷ us) = may_be_part u.kind ≡ true → names.begins_root (before u.text) ≡ begins_by 92 (after u.text)

-- what joins what follows may be a part of a name
kind_by : (k : TokenKind) (a b c d e : Bool) → (((names.is_op k && a) && b) || (((names.is_label k || (names.is_keyword k && c)) && d) && e)) ≡ true → may_be_part k ≡ true
kind_by token.Label a b c d e h = refl
kind_by token.Keyword a b c d e h = refl
kind_by token.Op a b c d e h = refl
kind_by token.Name a b c d e h = refl
kind_by _ a b c d e h = absurd cc

joins_part : (t u : NewToken) → names.is_one t u ≡ true → may_be_part t.kind ≡ true
joins_part t u h =
    kind_by t.kind (is_text (codes "\\") t) (names.is_label u.kind || (names.is_name u.kind && not (names.begins_root (before u.text))))
    (bytes_eq (str_to_ascii_lowercase (before t.text)) (codes "namespace")) (names.is_name u.kind) (names.begins_root (before u.text)) h

one_front : (t u : NewToken) → SamePart t → HasText t → may_be_part t.kind ≡ true
    → names.begins_root (before (names.one_name t u).text) ≡ begins_by 92 (after (names.one_name t u).text)
one_front t u same text part =
    ap names.begins_root (before_append (t.text ++ names.deleted (before u.lead)) u.text
    ∙ ap (λ (l : List ℕ). l ++ before u.text) (before_append t.text (names.deleted (before u.lead)))
    ∙ append_assoc (before t.text) (before (names.deleted (before u.lead))) (before u.text))
    ∙ root_front (before t.text) (before (names.deleted (before u.lead)) ++ before u.text) text.old
    ∙ same.front part
    ∙ sym (by_front (after t.text) (after u.text) text.new)
    ∙ sym (ap (begins_by 92) (joined_text t u))

-- ---- the same neighbours are one

label_is : (k : TokenKind) → names.is_label k ≡ is_label_kind k
label_is token.Label = refl
label_is _ = refl

name_is : (k : TokenKind) → names.is_name k ≡ is_name_kind k
name_is token.Name = refl
name_is _ = refl

if_and : (x y : Bool) → cond x y false ≡ x && y
if_and true y = refl
if_and false y = refl

shape : (p l n r : Bool) (k d : Bool) → ((p && (l || (n && not r))) || ((k || d) && n && r)) ≡ ((p && (l || n && not r)) || ((k || d) && (n && r)))
shape p l n r true d = refl
shape p l n r false true = refl
shape p l n r false false = refl

name_part : (k : TokenKind) → names.is_name k ≡ true → may_be_part k ≡ true
name_part token.Name e = refl
name_part _ e = absurd cc

-- how a text begins is asked of names alone
of_names : (p l n r s w : Bool) → (n ≡ true → r ≡ s) → ((p && (l || (n && not r))) || ((w && n) && r)) ≡ ((p && (l || (n && not s))) || ((w && n) && s))
of_names p l true r s w f = rw (f refl) refl
of_names p l false r s true f = refl
of_names p l false r s false f = refl

one_is : (t u : NewToken) → SamePart t → (may_be_part u.kind ≡ true
    → names.begins_root (before u.text) ≡ begins_by 92 (after u.text))
    → names.is_one t u ≡ is_one t.kind (after t.text) u.kind (after u.text)
one_is t u same front =
    of_names (names.is_backslash t) (names.is_label u.kind) (names.is_name u.kind) (names.begins_root (before u.text))
    (begins_by 92 (after u.text)) (names.is_label t.kind || names.is_namespace t)
    (λ h. front (name_part u.kind h))
    ∙ rw (same.backslash, same.word, label_is t.kind, label_is u.kind, name_is u.kind, if_and (is_keyword_kind t.kind) (is_namespace (after t.text)))
    (shape (is_backslash t.kind (after t.text)) (is_label_kind u.kind) (is_name_kind u.kind)
    (begins_by 92 (after u.text)) (is_label_kind t.kind) (is_keyword_kind t.kind && is_namespace (after t.text)))

-- ---- tokens without the trivia before the first

abbrev bare_first : List Lexeme → List Lexeme
bare_first [] = []
bare_first (x ∷ xs) = record x { lead = [] } ∷ xs

bare_is : (ts : List NewToken) → map new_lexeme (bare ts) ≡ bare_first (map new_lexeme ts)
bare_is [] = refl
bare_is (t ∷ ts) = ap (λ (l : List ℕ). record { kind = t.kind; lead = l; text = after t.text } ∷ map new_lexeme ts) (none_after (before t.lead))

bare_by : (x y : Lexeme) (ys : List Lexeme) (t : Bool) → cond t
    (record { kind = token.Name; lead = []; text = x.text ++ y.text } ∷ ys) (record x { lead = [] } ∷ y ∷ ys) ≡
    bare_first (cond t (record { kind = token.Name; lead = x.lead; text = x.text ++ y.text } ∷ ys) (x ∷ y ∷ ys))
bare_by x y ys true = refl
bare_by x y ys false = refl

bare_front : (x : Lexeme) (ys : List Lexeme) → before_tokens (record x { lead = [] }) ys ≡ bare_first (before_tokens x ys)
bare_front x [] = refl
bare_front x (y ∷ ys) = bare_by x y ys (is_one x.kind x.text y.kind y.text && is_empty y.lead)

bare_whole : (xs : List Lexeme) → whole_tokens (bare_first xs) ≡ bare_first (whole_tokens xs)
bare_whole [] = refl
bare_whole (x ∷ xs) = bare_front x (whole_tokens xs)

-- ---- the whole

record Parts (ts : List NewToken) : Type 0 where
  same : map new_lexeme (all_whole ts) ≡ whole_tokens (map new_lexeme (parted ts))
  front : SameFront (all_whole ts)

apart_tokens : (t : NewToken) (us : List NewToken) → SamePart t → SameFront us → joins t us ≡ false
    → before_tokens (new_lexeme t) (map new_lexeme us) ≡ new_lexeme t ∷ map new_lexeme us
apart_tokens t [] same front h = refl
apart_tokens t (u ∷ us) same front h = rw (sym (one_is t u same front) ∙ h) refl

apart_drafts : (t : NewToken) (us : List NewToken) → joins t us ≡ false → before_all t us ≡ t ∷ us
apart_drafts t [] h = refl
apart_drafts t (u ∷ us) h = rw h refl

one_tokens : (t u : NewToken) (us : List NewToken) → SamePart t
    → (may_be_part u.kind ≡ true → names.begins_root (before u.text) ≡ begins_by 92 (after u.text))
    → names.is_one t u ≡ true → before_tokens (new_lexeme t) (bare_first (map new_lexeme (u ∷ us))) ≡ new_lexeme
    (names.one_name t u) ∷ map new_lexeme us
one_tokens t u us same front h =
    let one : is_one t.kind (after t.text) u.kind (after u.text) ≡ true = sym (one_is t u same front) ∙ h in
    rw one (ap (λ (l : List ℕ). record { kind = token.Name; lead = after t.lead; text = l } ∷ map new_lexeme us) (sym (joined_text t u)))

module _ (t : NewToken) (ts : List NewToken) (same : SamePart t) (ih : Parts ts) where
  apart_parts : joins t (all_whole ts) ≡ false → Parts (t ∷ ts)
  apart_parts h = record {
    same = ap (map new_lexeme) (apart_drafts t (all_whole ts) h)
        ∙ sym (apart_tokens t (all_whole ts) same ih.front h)
        ∙ ap (before_tokens (new_lexeme t)) ih.same
        ∙ ap (λ (b : Bool). whole_tokens (new_lexeme t ∷ map new_lexeme (cond b (bare (parted ts)) (parted ts)))) (sym h);
    front = subst SameFront (sym (apart_drafts t (all_whole ts) h)) same.front;
  }

  one_parts : (us : List NewToken) → all_whole ts ≡ us → joins t us ≡ true → HasText t → Parts (t ∷ ts)
  one_parts [] e h text = absurd cc
  one_parts (u ∷ us) e h text =
      let front : SameFront (u ∷ us) = subst SameFront e ih.front in
      let first : before_all t (u ∷ us) ≡ names.one_name t u ∷ us = rw h refl in
      let whole : before_all t (all_whole ts) ≡ names.one_name t u ∷ us = ap (before_all t) e ∙ first in
      let there : joins t (all_whole ts) ≡ true = ap (joins t) e ∙ h in
      record {
        same = ap (map new_lexeme) whole
            ∙ sym (one_tokens t u us same front h)
            ∙ ap (λ (l : List NewToken). before_tokens (new_lexeme t) (bare_first (map new_lexeme l))) (sym e)
            ∙ ap (λ (l : List Lexeme). before_tokens (new_lexeme t) (bare_first l)) ih.same
            ∙ ap (before_tokens (new_lexeme t)) (sym (bare_whole (map new_lexeme (parted ts))))
            ∙ ap (λ (l : List Lexeme). before_tokens (new_lexeme t) (whole_tokens l)) (sym (bare_is (parted ts)))
            ∙ ap (λ (b : Bool). whole_tokens (new_lexeme t ∷ map new_lexeme (cond b (bare (parted ts)) (parted ts)))) (sym there);
        front = subst SameFront (sym whole) (λ part. one_front t u same text (joins_part t u h));
      }

  parts_by : (b : Bool) → joins t (all_whole ts) ≡ b → (joins t (all_whole ts) ≡ true → HasText t) → Parts (t ∷ ts)
  parts_by false h text = apart_parts h
  parts_by true h text = one_parts (all_whole ts) refl h (text h)

parts_of : (ts : List NewToken) → NamesStay ts → Parts ts
parts_of [] h = record { same = refl; front = tt }
parts_of (t ∷ ts) h = parts_by t ts h.0 (parts_of ts h.2) (joins t (all_whole ts)) refl h.1

pub whole_of_parts : WholeOfParts
whole_of_parts ts h = (parts_of ts h).same
