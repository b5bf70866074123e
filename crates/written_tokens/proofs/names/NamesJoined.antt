-- Which neighbours among a draft's tokens are one name.
use Rattle.std.proofs.Common.{◌≡◌, ℕ, Bool, true, false, cond, not, ◌&&◌, ◌||◌, nat_eq, List, [], ◌∷◌, ◌++◌, codes, refl, sym, ap, ◌∙◌, append_assoc}
use Rattle.std.specs.Str.{bytes_eq}
use Rattle.std.proofs.lemmas.Bool.{and_parts, or_left}
use Rattle.tracked_changes.specs.Pieces.{Piece, changed, old_bytes, new_bytes, before, after}
use Rattle.tracked_changes.specs.Draft.{NewToken}
use Rattle.syntax_rules.specs.SplitName as names
use Rattle.written_tokens.specs.tokens.Drafted.{before_all, all_whole, all_spaced, joins}
use Rattle.written_tokens.specs.tokens.Spaced.{spaces_put, PartsHaveText}
use Rattle.written_tokens.proofs.tokens.Spaced.{spaces_come_first}

before_append : (ps qs : List Piece) → before (ps ++ qs) ≡ before ps ++ before qs
before_append [] qs = refl
before_append (p ∷ ps) qs = ap (λ (l : List ℕ). old_bytes p ++ l) (before_append ps qs) ∙ sym (append_assoc (old_bytes p) (before ps) (before qs))

pub after_append : (ps qs : List Piece) → after (ps ++ qs) ≡ after ps ++ after qs
after_append [] qs = refl
after_append (p ∷ ps) qs = ap (λ (l : List ℕ). new_bytes p ++ l) (after_append ps qs) ∙ sym (append_assoc (new_bytes p) (after ps) (after qs))

pub deleted_none : (bs : List ℕ) → after (names.deleted bs) ≡ []
deleted_none [] = refl
deleted_none (b ∷ bs) = refl

-- ---- the front of a whole name

root_front : (xs ys : List ℕ) → names.is_nothing xs ≡ false → names.begins_root (xs ++ ys) ≡ names.begins_root xs
root_front [] ys h = absurd cc
root_front (x ∷ xs) ys h = refl

old_text : (t u : NewToken) → before (names.one_name t u).text ≡ before t.text ++ (before (names.deleted (before u.lead)) ++ before u.text)
old_text t u =
    before_append (t.text ++ names.deleted (before u.lead)) u.text
    ∙ ap (λ (l : List ℕ). l ++ before u.text) (before_append t.text (names.deleted (before u.lead)))
    ∙ append_assoc (before t.text) (before (names.deleted (before u.lead))) (before u.text)

front_root : (u v : NewToken) → names.is_nothing (before u.text) ≡ false → names.begins_root (before (names.one_name u v).text) ≡ names.begins_root (before u.text)
front_root u v h = ap names.begins_root (old_text u v) ∙ root_front (before u.text) (before (names.deleted (before v.lead)) ++ before v.text) h

text_root : (bs : List ℕ) → bytes_eq bs (codes "\\") ≡ true → names.begins_root bs ≡ true
text_root [] h = absurd cc
text_root (b ∷ bs) h = (and_parts (nat_eq b 92) _ h).0

backslash_root : (u : NewToken) → names.is_backslash u ≡ true → names.begins_root (before u.text) ≡ true
backslash_root u h = text_root (before u.text) (and_parts (names.is_op u.kind) (bytes_eq (before u.text) (codes "\\")) h).1

-- ---- neighbours that are one name

-- a token that is no name, and if it is a label or `namespace`, begins with no `\`
pub record Known (u : NewToken) : Type 0 where
  pub no_name : names.is_name u.kind ≡ false
  pub plain : (names.is_label u.kind || names.is_namespace u) ≡ true → names.begins_root (before u.text) ≡ false

abbrev Wordy : NewToken → Type 0
Wordy u = (names.is_label u.kind || names.is_namespace u) ≡ true

-- a word behind `\`, or a `\` behind a word
pub data Joined (t u : NewToken) : Type 0 where
  behind : names.is_backslash t ≡ true → Wordy u → Joined t u
  root : names.is_backslash u ≡ true → Wordy t → Joined t u

alone_parts : (p l n r d : Bool) → n ≡ false → ((p && (l || (n && not r))) || (d && n && r)) ≡ true → (p ≡ true) × (l ≡ true)
alone_parts true true n r d e h = (refl, refl)
alone_parts true false true r d e h = absurd cc
alone_parts true false false r true e h = absurd cc
alone_parts true false false r false e h = absurd cc
alone_parts false l true r d e h = absurd cc
alone_parts false l false r true e h = absurd cc
alone_parts false l false r false e h = absurd cc

alone : (t u : NewToken) → Known u → names.is_one t u ≡ true → Joined t u
alone t u known h =
    let (slash, label) = alone_parts (names.is_backslash t) (names.is_label u.kind) (names.is_name u.kind)
    (names.begins_root (before u.text)) (names.is_label t.kind || names.is_namespace t) known.no_name h in
    behind slash (or_left (names.is_label u.kind) (names.is_namespace u) label)

word_parts : (p l n r d : Bool) → p ≡ false → ((p && (l || (n && not r))) || (d && n && r)) ≡ true → d ≡ true
word_parts true l n r d e h = absurd cc
word_parts false l n r true e h = refl
word_parts false l n r false e h = absurd cc

-- a part that goes on as a name is `\` or a word
pub part_is : (u v : NewToken) → names.is_one u v ≡ true → (t : Bool) → names.is_backslash u ≡ t → t ≡ false → Wordy u
part_is u v h true e k = absurd cc
part_is u v h false e k =
    word_parts (names.is_backslash u) (names.is_label v.kind) (names.is_name v.kind) (names.begins_root (before v.text)) (names.is_label u.kind || names.is_namespace u) e h

name_parts : (p r d : Bool) → ((p && (false || (true && not r))) || (d && true && r)) ≡ true → (r ≡ true → d ≡ true) × (r ≡ false → p ≡ true)
name_parts true true true h = (λ e. refl, λ e. refl)
name_parts true true false h = absurd cc
name_parts true false d h = (λ e. absurd cc, λ e. refl)
name_parts false true true h = (λ e. refl, λ e. absurd cc)
name_parts false true false h = absurd cc
name_parts false false true h = absurd cc
name_parts false false false h = absurd cc

whole : (t u v : NewToken) → Known u → names.is_nothing (before u.text) ≡ false → names.is_one u v ≡ true
    → names.is_one t (names.one_name u v) ≡ true → (q : Bool) → names.is_backslash u ≡ q → Joined t u
whole t u v known text one h true e =
    let parts = name_parts (names.is_backslash t) (names.begins_root (before (names.one_name u v).text)) (names.is_label t.kind || names.is_namespace t) h in
    root e (parts.0 (front_root u v text ∙ backslash_root u e))
whole t u v known text one h false e =
    let parts = name_parts (names.is_backslash t) (names.begins_root (before (names.one_name u v).text)) (names.is_label t.kind || names.is_namespace t) h in
    let word = part_is u v one false e refl in
    behind (parts.1 (front_root u v text ∙ known.plain word)) word

joined_by : (t u v : NewToken) (vs : List NewToken) → Known u
    → (names.is_one u v ≡ true → names.is_nothing (before u.text) ≡ false) → (x : Bool) → names.is_one u v ≡ x
    → joins t (cond x (names.one_name u v ∷ vs) (u ∷ v ∷ vs)) ≡ true → Joined t u
joined_by t u v vs known text true e h = whole t u v known (text e) e h (names.is_backslash u) refl
joined_by t u v vs known text false e h = alone t u known h

joined_to : (t u : NewToken) (ws : List NewToken) → Known u → (joins u ws ≡ true → names.is_nothing (before u.text) ≡ false) → joins t (before_all u ws) ≡ true → Joined t u
joined_to t u [] known text h = alone t u known h
joined_to t u (v ∷ vs) known text h = joined_by t u v vs known text (names.is_one u v) refl h

pub joined_of : (t u : NewToken) (more : List NewToken) → Known u → PartsHaveText (u ∷ more) → joins t (all_whole (u ∷ more)) ≡ true → Joined t u
joined_of t u more known texts h = joined_to t u (all_whole more) known (λ e. (texts.0 e).0) h

-- ---- what a space is put before

abbrev pub wants : Bool → NewToken → Bool → Bool
wants flag t begins = flag && (begins || names.is_name t.kind) && names.begins_root (before t.text) && names.is_nothing (before t.lead)

abbrev pub given : Bool → NewToken → NewToken
given b t = cond b (record t { lead = t.lead ++ changed [] (codes " ") ∷ [] }) t

wants_parts : (flag begins n r l : Bool) → n ≡ false → (flag && (begins || n) && r && l) ≡ true → (begins ≡ true) × ((r ≡ true) × (l ≡ true))
wants_parts true true n true true e h = (refl, (refl, refl))
wants_parts true true n true false e h = absurd cc
wants_parts true true n false l e h = absurd cc
wants_parts true false false r l e h = absurd cc
wants_parts true false true r l e h = absurd cc
wants_parts false begins n r l e h = absurd cc

front_part : (u : NewToken) (ws : List NewToken) → Known u → joins u ws ≡ true → names.begins_root (before u.text) ≡ true → (q : Bool) → names.is_backslash u ≡ q → q ≡ true
front_part u ws known h r true e = refl
front_part u [] known h r false e = absurd cc
front_part u (v ∷ vs) known h r false e =
    absurd (let clash : true ≡ false = sym r ∙ known.plain (part_is u v h false e refl) in cc)

-- a space is put before `\`, where no trivia stand
pub put_before : (flag : Bool) (u : NewToken) (more : List NewToken) → Known u
    → wants flag u (joins u (all_whole more)) ≡ true → (names.is_backslash u ≡ true)
    × (names.is_nothing (before u.lead) ≡ true)
put_before flag u more known h =
    let parts = wants_parts flag (joins u (all_whole more)) (names.is_name u.kind) (names.begins_root (before u.text)) (names.is_nothing (before u.lead)) known.no_name h in
    (front_part u (all_whole more) known parts.0 parts.1.0 (names.is_backslash u) refl, parts.1.1)

-- ---- a space changes no neighbours

one_given : (t u : NewToken) (b : Bool) → names.is_one t (given b u) ≡ names.is_one t u
one_given t u true = refl
one_given t u false = refl

joins_given : (t : NewToken) (us : List NewToken) (b : Bool) → joins (given b t) us ≡ joins t us
joins_given t [] b = refl
joins_given t (u ∷ us) true = refl
joins_given t (u ∷ us) false = refl

joins_spaced : (t : NewToken) (flag : Bool) (us : List NewToken) → joins t (all_spaced flag us) ≡ joins t us
joins_spaced t flag [] = refl
joins_spaced t flag (u ∷ us) = one_given t u (flag && names.is_name u.kind && names.begins_root (before u.text) && names.is_nothing (before u.lead))

pub joins_same : (t : NewToken) (b flag : Bool) (more : List NewToken) → PartsHaveText more → joins (given b t) (all_whole (spaces_put flag more)) ≡ joins t (all_whole more)
joins_same t b flag more texts =
    joins_given t (all_whole (spaces_put flag more)) b
    ∙ ap (joins t) (sym (spaces_come_first flag more texts))
    ∙ joins_spaced t flag (all_whole more)
