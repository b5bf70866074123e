-- Names in parts are apart from other words.
use Rattle.std.proofs.Common.{◌≡◌, ℕ, Bool, true, false, not, ◌&&◌, ◌||◌, ◌==◌, if◌then◌else◌, codes, List, [], ◌∷◌, ◌++◌, map, ◌⊎◌, inl, inr, refl, sym, ap, ◌∙◌, subst}
use Rattle.std.specs.Str.{bytes_eq, str_to_ascii_lowercase}
use Rattle.std.proofs.lemmas.Slice.Eq.{bytes_eq-Decides}
use Rattle.std.proofs.lemmas.Bool.{and_from, false_from_ne_true}
use Rattle.php_tree.specs.declared.token.TokenKind.{TokenKind}
use Rattle.php_tree.specs.declared.token.TokenKind.TheVariants as kind
use Rattle.php_spellings.specs.Bytes.{begins, is_empty, is_letter}
use Rattle.php_lexer.specs.Lexed.{Lexeme}
use Rattle.tracked_changes.specs.Pieces.{after, before}
use Rattle.tracked_changes.specs.Draft.{NewToken, Draft}
use Rattle.syntax_rules.specs.SplitName as names
use Rattle.rewritten_shapes.specs.Laws.{is_namespace_word}
use Rattle.written_tokens.specs.tokens.Drafted.{all_whole, before_all, joins}
use Rattle.written_tokens.specs.tokens.Parted.{bare, parted}
use Rattle.written_tokens.specs.tokens.Spaced.{spaces_put}
use Rattle.written_tokens.specs.tokens.Whole.{is_backslash, is_keyword_kind, is_label_kind, is_namespace, is_op_kind}
use Rattle.written_tokens.specs.tokens.Written.{new_lexeme}
use Rattle.rewritten_shapes.specs.paired.Names.{
  Part,
  State,
  bad,
  blank,
  calm,
  edged,
  failed,
  key,
  keyed,
  label,
  mark,
  other,
  part_by,
  root,
  rooted,
  rooted_key,
  space,
  step,
  worded,
}
use Rattle.rewritten_shapes.proofs.paired.Asked.{both_right, no_clash}
use Rattle.php_parser.specs.Ends.{is_end}
use Rattle.syntax_rules.specs.Around.{at_top}
use Rattle.rewritten_shapes.proofs.Tabled.{drafted_is, written}
use Rattle.written_tokens.specs.tokens.Spaced.{nameless_draft}
use Rattle.written_tokens.specs.tokens.Written.{draft_tokens}
use Rattle.rewritten_shapes.specs.paired.Names.{run}
use Rattle.rewritten_shapes.proofs.paired.NameRuns.{runs_fit}
use Rattle.rewritten_shapes.proofs.paired.Pairing.{shaped_files_are_paired}
use Rattle.rewritten_shapes.proofs.paired.States.{at_calm}
use Rattle.rewritten_shapes.proofs.paired.TraitNames.{calm_is}
use Rattle.written_reading.specs.drafts.Apart.{KeywordsHaveText, NamesAreApart, names_apart}
use Rattle.written_tokens.specs.names.Neighbours.{is_labelled, is_parted}
use Rattle.written_reading.specs.drafts.Drafts.{new_part, run_draft}
use Rattle.written_reading.proofs.drafts.Drawn.{Kept}
use Rattle.written_reading.proofs.drafts.Order.{below_trans, is_below}
use Rattle.written_reading.proofs.drafts.Texts.{paired_drawn}
use Rattle.written_reading.proofs.drafts.Stays.{ListKept, fine_labels, given, given_lead, put, tokens_kept}
use Rattle.written_reading.proofs.drafts.Within.{is_label_part, is_loose, is_ok, label_text, list_below, loose_join, one_text, plain_front, run_list}

-- ---- what may come behind `\`

abbrev is_root : Part → Bool
is_root root = true
is_root _ = false

abbrev is_key : Part → Bool
is_key key = true
is_key _ = false

abbrev goes_on : Part → Bool
goes_on label = true
goes_on mark = true
goes_on _ = false

abbrev is_rooted : State → Bool
is_rooted rooted = true
is_rooted rooted_key = true
is_rooted failed = true
is_rooted _ = false

root_step : (s : State) (p : Part) → is_root p ≡ true → is_rooted (step s p) ≡ true
root_step failed root e = refl
root_step failed _ e = absurd cc
root_step calm root e = refl
root_step calm _ e = absurd cc
root_step keyed root e = refl
root_step keyed _ e = absurd cc
root_step rooted root e = refl
root_step rooted _ e = absurd cc
root_step rooted_key root e = refl
root_step rooted_key _ e = absurd cc
root_step worded root e = refl
root_step worded _ e = absurd cc
root_step edged root e = refl
root_step edged _ e = absurd cc

-- tokens that come to an end where anything may come
abbrev Ends : State → List NewToken → Type 0
Ends s ts = run_list s ts ≡ calm

list_failed : (ts : List NewToken) → run_list failed ts ≡ failed
list_failed [] = refl
list_failed (t ∷ ts) = list_failed ts

failed_not : (ts : List NewToken) (s : State) → s ≡ failed → Ends s ts → ⊥
failed_not ts s e h = no_clash (ap is_ok (ap (λ (z : State). run_list z ts) e ∙ list_failed ts)) (ap is_ok h)

rooted_next : (s : State) (u : NewToken) (ts : List NewToken) → is_rooted s ≡ true → Ends s (u ∷ ts) → goes_on (new_part u) ≡ true
rooted_next s u ts r h = go s (new_part u) refl r h
  where
    go : (s : State) (p : Part) → new_part u ≡ p → is_rooted s ≡ true → Ends (step s (new_part u)) ts → goes_on p ≡ true
    go rooted root e r h = absurd (failed_not ts (step rooted (new_part u)) (ap (step rooted) e) h)
    go rooted label e r h = refl
    go rooted space e r h = absurd (failed_not ts (step rooted (new_part u)) (ap (step rooted) e) h)
    go rooted key e r h = absurd (failed_not ts (step rooted (new_part u)) (ap (step rooted) e) h)
    go rooted mark e r h = refl
    go rooted other e r h = absurd (failed_not ts (step rooted (new_part u)) (ap (step rooted) e) h)
    go rooted blank e r h = absurd (failed_not ts (step rooted (new_part u)) (ap (step rooted) e) h)
    go rooted bad e r h = absurd (failed_not ts (step rooted (new_part u)) (ap (step rooted) e) h)
    go rooted_key root e r h = absurd (failed_not ts (step rooted_key (new_part u)) (ap (step rooted_key) e) h)
    go rooted_key label e r h = refl
    go rooted_key space e r h = absurd (failed_not ts (step rooted_key (new_part u)) (ap (step rooted_key) e) h)
    go rooted_key key e r h = absurd (failed_not ts (step rooted_key (new_part u)) (ap (step rooted_key) e) h)
    go rooted_key mark e r h = refl
    go rooted_key other e r h = absurd (failed_not ts (step rooted_key (new_part u)) (ap (step rooted_key) e) h)
    go rooted_key blank e r h = absurd (failed_not ts (step rooted_key (new_part u)) (ap (step rooted_key) e) h)
    go rooted_key bad e r h = absurd (failed_not ts (step rooted_key (new_part u)) (ap (step rooted_key) e) h)
    go failed p e r h = absurd (failed_not ts failed refl h)
    go _ p e r h = absurd cc

-- ---- tokens by their parts

keyword_is : (sort : TokenKind) → names.is_keyword sort ≡ is_keyword_kind sort
keyword_is kind.Keyword = refl
keyword_is _ = refl

label_is : (sort : TokenKind) → names.is_label sort ≡ is_label_kind sort
label_is kind.Label = refl
label_is _ = refl

-- what isn't `\` by its part
not_root : (sort : TokenKind) (text : List ℕ) → is_root (part_by sort text) ≡ false → (names.is_op sort && bytes_eq text (codes "\\")) ≡ false
not_root kind.Op text e = go (bytes_eq text (codes "\\")) e
  where
    go : (b : Bool) → is_root (if b then root else (if begins is_letter text then other else mark)) ≡ false → b ≡ false
    go true e = absurd cc
    go false e = refl
not_root _ text e = refl

not_backslash : (t : NewToken) → Kept t → is_root (new_part t) ≡ false → is_backslash t.kind (after t.text) ≡ false
not_backslash t h e = sym h.same.backslash ∙ not_root t.kind (before t.text) e

-- a label or a bracket, by its part
next_by : (sort : TokenKind) (text new : List ℕ) → goes_on (part_by sort text) ≡ true
    → (names.is_op sort ≡ true → begins is_letter new ≡ begins is_letter text)
    → (not (begins is_letter new) || is_label_kind sort) ≡ true
next_by kind.Label text new e h = or_true (not (begins is_letter new))
  where
    or_true : (b : Bool) → (b || true) ≡ true
    or_true true = refl
    or_true false = refl
next_by kind.Op text new e h = ap (λ (b : Bool). not b || false) (h refl ∙ go (bytes_eq text (codes "\\")) (begins is_letter text) e)
  where
    go : (b c : Bool) → goes_on (if b then root else (if c then other else mark)) ≡ true → c ≡ false
    go true c e = absurd cc
    go false true e = absurd cc
    go false false e = refl
next_by kind.Keyword text new e h = absurd (go (is_namespace_word text) e)
  where
    go : (b : Bool) → goes_on (if b then space else key) ≡ true → ⊥
    go true e = cc
    go false e = cc
next_by _ text new e h = absurd cc

labelled_by : (a b c d : Bool) → (a ≡ true → (not c || d) ≡ true) → (not (a && b && c) || d) ≡ true
labelled_by true true c d f = f refl
labelled_by true false c d f = refl
labelled_by false b c d f = refl

root_of : (t : NewToken) → Kept t → is_backslash t.kind (after t.text) ≡ true → is_root (new_part t) ≡ true
root_of t h e = go (is_root (new_part t)) refl
  where
    go : (b : Bool) → is_root (new_part t) ≡ b → is_root (new_part t) ≡ true
    go true d = d
    go false d = absurd (no_clash (not_backslash t h d) e)

-- neighbours, whatever stands before the second
labelled_pair : (t u : NewToken) (lead : List ℕ) (s : State) (ts : List NewToken) → Kept t → Kept u
    → Ends (step s (new_part t)) (u ∷ ts) → is_labelled (new_lexeme t)
    (record { kind = u.kind; lead = lead; text = after u.text }) ≡ true
labelled_pair t u lead s ts h k e =
    labelled_by (is_backslash t.kind (after t.text)) (is_empty lead) (begins is_letter (after u.text)) (is_label_kind u.kind)
    (λ b. next_by u.kind (before u.text) (after u.text) (rooted_next (step s (new_part t)) u ts (root_step s (new_part t) (root_of t h b)) e) k.sign)

-- ---- keywords

not_key : (sort : TokenKind) (text : List ℕ) (b : Bool) → is_key (part_by sort text) ≡ false
    → (names.is_keyword sort && bytes_eq (str_to_ascii_lowercase text) (codes "namespace")) ≡
    (if is_keyword_kind sort then b else false) → (is_keyword_kind sort && not b) ≡ false
not_key kind.Keyword text b e d = go (is_namespace_word text) b d e
  where
    go : (n b : Bool) → n ≡ b → is_key (if n then space else key) ≡ false → not b ≡ false
    go true true d e = refl
    go true false d e = absurd cc
    go false b d e = absurd cc
not_key _ text b e d = refl

parted_by : (a b c d : Bool) → (a && b) ≡ false → not (a && b && c && d) ≡ true
parted_by true true c d e = absurd cc
parted_by true false c d e = refl
parted_by false b c d e = refl

parted_or : (a b c d : Bool) → c ≡ false → not (a && b && c && d) ≡ true
parted_or true true true d e = absurd cc
parted_or true true false d e = refl
parted_or true false c d e = refl
parted_or false b c d e = refl

parted_lead : (a b c d : Bool) → d ≡ false → not (a && b && c && d) ≡ true
parted_lead true true true true e = absurd cc
parted_lead true true true false e = refl
parted_lead true true false d e = refl
parted_lead true false c d e = refl
parted_lead false b c d e = refl

parted_other : (t u : NewToken) (lead : List ℕ) → Kept t → is_key (new_part t) ≡ false
    → is_parted (new_lexeme t) (record { kind = u.kind; lead = lead; text = after u.text }) ≡ true
parted_other t u lead h e =
    parted_by (is_keyword_kind t.kind) (not (is_namespace (after t.text))) (is_backslash u.kind (after u.text)) (is_empty lead)
    (not_key t.kind (before t.text) (is_namespace (after t.text)) e h.same.word)

parted_no_root : (t u : NewToken) (lead : List ℕ) → Kept u → is_root (new_part u) ≡ false
    → is_parted (new_lexeme t) (record { kind = u.kind; lead = lead; text = after u.text }) ≡ true
parted_no_root t u lead k e =
    parted_or (is_keyword_kind t.kind) (not (is_namespace (after t.text))) (is_backslash u.kind (after u.text)) (is_empty lead) (not_backslash u k e)

parted_some : (t u : NewToken) (lead : List ℕ) → is_empty lead ≡ false → is_parted (new_lexeme t) (record { kind = u.kind; lead = lead; text = after u.text }) ≡ true
parted_some t u lead e = parted_lead (is_keyword_kind t.kind) (not (is_namespace (after t.text))) (is_backslash u.kind (after u.text)) (is_empty lead) e

-- ---- a space before `\` behind a keyword

root_true : (sort : TokenKind) (text : List ℕ) → is_root (part_by sort text) ≡ true → (names.is_op sort && bytes_eq text (codes "\\")) ≡ true
root_true kind.Op text e = go (bytes_eq text (codes "\\")) e
  where
    go : (b : Bool) → is_root (if b then root else (if begins is_letter text then other else mark)) ≡ true → b ≡ true
    go true e = refl
    go false e = absurd (none (begins is_letter text) e)
      where
        none : (c : Bool) → is_root (if c then other else mark) ≡ true → ⊥
        none true e = cc
        none false e = cc
root_true kind.Label [] e = absurd cc
root_true kind.Label (b ∷ bs) e = absurd (go (b == 92) e)
  where
    go : (c : Bool) → is_root (if c then bad else label) ≡ true → ⊥
    go true e = cc
    go false e = cc
root_true kind.Keyword text e = absurd (go (is_namespace_word text) e)
  where
    go : (c : Bool) → is_root (if c then space else key) ≡ true → ⊥
    go true e = cc
    go false e = cc
root_true _ text e = absurd cc

root_text : (t : NewToken) → is_root (new_part t) ≡ true → names.begins_root (before t.text) ≡ true
root_text t e =
    ap names.begins_root ((bytes_eq-Decides (before t.text) (codes "\\")).0
    (both_right (names.is_op t.kind) (bytes_eq (before t.text) (codes "\\"))
    (root_true t.kind (before t.text) e)))

label_kind : (sort : TokenKind) (text : List ℕ) → part_by sort text ≡ label → names.is_label sort ≡ true
label_kind kind.Label text e = refl
label_kind kind.Keyword text e = absurd (go (is_namespace_word text) e)
  where
    go : (c : Bool) → (if c then space else key) ≡ label → ⊥
    go true e = cc
    go false e = cc
label_kind kind.Op text e = absurd (go (bytes_eq text (codes "\\")) (begins is_letter text) e)
  where
    go : (c d : Bool) → (if c then root else (if d then other else mark)) ≡ label → ⊥
    go true d e = cc
    go false true e = cc
    go false false e = cc
label_kind _ text e = absurd cc

by_label : (p l n r w m : Bool) → p ≡ true → l ≡ true → ((p && (l || (n && not r))) || ((w && m) && r)) ≡ true
by_label true true n r w m e d = refl
by_label true false n r w m e d = cc
by_label false l n r w m e d = cc

by_name : (p l r w : Bool) → p ≡ true → r ≡ false → ((p && (l || (true && not r))) || ((w && true) && r)) ≡ true
by_name true true false w e d = refl
by_name true false false w e d = refl
by_name true l true w e d = absurd cc
by_name false l r w e d = cc

label_joins : (u v : NewToken) (ws : List NewToken) → names.is_backslash u ≡ true → new_part v ≡ label → joins u (before_all v ws) ≡ true
label_joins u v [] r e =
    by_label (names.is_backslash u) (names.is_label v.kind) (names.is_name v.kind) (names.begins_root (before v.text))
    (names.is_label u.kind || names.is_namespace u) (names.is_name v.kind) r (label_kind v.kind (before v.text) e)
label_joins u v (w ∷ ws) r e = go (names.is_one v w)
  where
    go : (b : Bool) → joins u (if b then names.one_name v w ∷ ws else v ∷ w ∷ ws) ≡ true
    go true =
        by_name (names.is_backslash u) (names.is_label kind.Name) (names.begins_root (before (names.one_name v w).text)) (names.is_label u.kind || names.is_namespace u) r
        (ap names.begins_root (one_text v w) ∙ plain_front (before v.text)
        (before (names.deleted (before w.lead)) ++ before w.text)
        (label_text v.kind (before v.text) (ap is_label_part e)).0)
    go false =
        by_label (names.is_backslash u) (names.is_label v.kind) (names.is_name v.kind)
        (names.begins_root (before v.text)) (names.is_label u.kind || names.is_namespace u) (names.is_name v.kind)
        r (label_kind v.kind (before v.text) e)

-- behind `\` behind a keyword stands a label
root_joins : (u : NewToken) (ts : List NewToken) → names.is_backslash u ≡ true → Ends rooted_key ts → joins u (all_whole ts) ≡ true
root_joins u [] r e = absurd (no_clash {b = is_ends rooted_key} refl (ap is_ends e))
  where
    is_ends : State → Bool
    is_ends calm = true
    is_ends _ = false
root_joins u (v ∷ ts) r e = label_joins u v (all_whole ts) r (go (new_part v) refl)
  where
    go : (p : Part) → new_part v ≡ p → new_part v ≡ label
    go label d = d
    go root d = absurd (failed_not ts (step rooted_key (new_part v)) (ap (step rooted_key) d) e)
    go space d = absurd (failed_not ts (step rooted_key (new_part v)) (ap (step rooted_key) d) e)
    go key d = absurd (failed_not ts (step rooted_key (new_part v)) (ap (step rooted_key) d) e)
    go mark d = absurd (failed_not ts (step rooted_key (new_part v)) (ap (step rooted_key) d) e)
    go other d = absurd (failed_not ts (step rooted_key (new_part v)) (ap (step rooted_key) d) e)
    go blank d = absurd (failed_not ts (step rooted_key (new_part v)) (ap (step rooted_key) d) e)
    go bad d = absurd (failed_not ts (step rooted_key (new_part v)) (ap (step rooted_key) d) e)

-- ---- the row

has_text : (xs : List ℕ) → is_empty xs ≡ false → names.is_nothing xs ≡ false
has_text [] e = absurd cc
has_text (x ∷ xs) e = refl

no_nothing : (xs : List ℕ) → names.is_nothing xs ≡ false → is_empty xs ≡ false
no_nothing [] e = absurd cc
no_nothing (x ∷ xs) e = refl

-- a `\` with or without a space has trivia before it
lead_by : (u : NewToken) (c : Bool) → Kept u → names.is_backslash u ≡ true → names.is_nothing (before u.lead) ≡ c → is_empty (after (given c u).lead) ≡ false
lead_by u true k r e = given_lead u.lead
lead_by u false k r e = k.lead r (no_nothing (before u.lead) e)

put_is : (b j n r c : Bool) → b ≡ true → j ≡ true → r ≡ true → (b && (j || n) && r && c) ≡ c
put_is true true n true c p q e = refl
put_is false j n r c p q e = cc
put_is true false n r c p q e = cc
put_is true true n false c p q e = cc

spaced_lead : (b : Bool) (u : NewToken) (ts : List NewToken) → Kept u → b ≡ true → is_root (new_part u) ≡ true
    → Ends rooted_key ts → is_empty (after (given (put b u (joins u (all_whole ts))) u).lead) ≡ false
spaced_lead b u ts k p r e =
    let root_there = root_true u.kind (before u.text) r in
    ap (λ (c : Bool). is_empty (after (given c u).lead))
    (put_is b (joins u (all_whole ts)) (names.is_name u.kind) (names.begins_root (before u.text))
    (names.is_nothing (before u.lead)) p (root_joins u ts root_there e) (root_text u r))
    ∙ lead_by u (names.is_nothing (before u.lead)) k root_there refl

key_kind : (sort : TokenKind) (text : List ℕ) → is_key (part_by sort text) ≡ true → names.is_keyword sort ≡ true
key_kind kind.Keyword text e = refl
key_kind kind.Label [] e = absurd cc
key_kind kind.Label (b ∷ bs) e = absurd (go (b == 92) e)
  where
    go : (c : Bool) → is_key (if c then bad else label) ≡ true → ⊥
    go true e = cc
    go false e = cc
key_kind kind.Op text e = absurd (go (bytes_eq text (codes "\\")) (begins is_letter text) e)
  where
    go : (c d : Bool) → is_key (if c then root else (if d then other else mark)) ≡ true → ⊥
    go true d e = cc
    go false true e = cc
    go false false e = cc
key_kind _ text e = absurd cc

behind_key : (b : Bool) (t : NewToken) → is_key (new_part t) ≡ true → (names.is_keyword t.kind ≡ true → is_empty (before t.text) ≡ false) → names.keyword_behind b t ≡ true
behind_key b t e w =
    let k = key_kind t.kind (before t.text) e in
    ap (λ (c : Bool). if c then b && names.is_nothing (before t.lead) else names.is_keyword t.kind) (has_text (before t.text) (w k)) ∙ k

-- behind a keyword and `\`
key_root : (s : State) (p q : Part) → is_key p ≡ true → is_root q ≡ true → (step (step s p) q ≡ rooted_key) ⊎ (step (step s p) q ≡ failed)
key_root s key root e d = go s
  where
    go : (s : State) → (step (step s key) root ≡ rooted_key) ⊎ (step (step s key) root ≡ failed)
    go failed = inr refl
    go rooted = inr refl
    go rooted_key = inr refl
    go calm = inl refl
    go keyed = inl refl
    go worded = inl refl
    go edged = inl refl
key_root s key _ e d = absurd cc
key_root s _ q e d = absurd cc

loose_key : (p : Part) → is_key p ≡ true → is_loose p ≡ true
loose_key key e = refl
loose_key _ e = absurd cc

-- neighbours where the second keeps its trivia
parted_kept : (b : Bool) (t u : NewToken) (s : State) (ts : List NewToken) → Kept t → Kept u
    → (names.is_keyword t.kind ≡ true → is_empty (before t.text) ≡ false) → Ends (step s (new_part t)) (u ∷ ts)
    → is_parted (new_lexeme t) (new_lexeme (given (put (names.keyword_behind b t) u (joins u (all_whole ts))) u)) ≡ true
parted_kept b t u s ts h k w e = go (is_key (new_part t)) (is_root (new_part u)) refl refl
  where
    c : Bool
    c = put (names.keyword_behind b t) u (joins u (all_whole ts))

    same : (c : Bool) → new_lexeme (given c u) ≡ record { kind = u.kind; lead = after (given c u).lead; text = after u.text }
    same true = refl
    same false = refl

    told : is_parted (new_lexeme t) (record {
      kind = u.kind;
      lead =
          after (given (put (names.keyword_behind b t) u (joins u (all_whole ts))) u).lead;
      text = after u.text;
    }) ≡
        true → is_parted (new_lexeme t) (new_lexeme (given (put (names.keyword_behind b t) u (joins u (all_whole ts)))
        u)) ≡ true
    told x = ap (is_parted (new_lexeme t)) (same (put (names.keyword_behind b t) u (joins u (all_whole ts)))) ∙ x

    ends : is_key (new_part t) ≡ true → is_root (new_part u) ≡ true → Ends rooted_key ts
    ends p r = by_sum (key_root s (new_part t) (new_part u) p r)
      where
        by_sum : (step (step s (new_part t)) (new_part u) ≡ rooted_key) ⊎ (step (step s (new_part t)) (new_part u) ≡ failed) → Ends rooted_key ts
        by_sum (inl d) = ap (λ (z : State). run_list z ts) (sym d) ∙ e
        by_sum (inr d) = absurd (failed_not ts (step (step s (new_part t)) (new_part u)) d e)

    go : (p r : Bool) → is_key (new_part t) ≡ p → is_root (new_part u) ≡ r
        → is_parted (new_lexeme t) (new_lexeme (given (put (names.keyword_behind b t) u (joins u (all_whole ts))) u))
        ≡ true
    go false r d g = told (parted_other t u _ h d)
    go true false d g = told (parted_no_root t u _ k g)
    go true true d g =
        told (parted_some t u _ (spaced_lead (names.keyword_behind b t) u ts k (behind_key b t d w) g (ends d g)))

-- the first of a row without its trivia
head_apart : (x : Lexeme) (lead : List ℕ) (xs : List Lexeme) → names_apart (x ∷ xs) ≡ true → names_apart (record x { lead = lead } ∷ xs) ≡ true
head_apart x lead [] h = refl
head_apart x lead (y ∷ ys) h = h

-- the end of a file
is_end_kind : TokenKind → Bool
is_end_kind kind.End = true
is_end_kind _ = false

end_backslash : (sort : TokenKind) (text : List ℕ) → sort ≡ kind.End → is_backslash sort text ≡ false
end_backslash sort text e = ap (λ (z : TokenKind). is_op_kind z && bytes_eq text (codes "\\")) e

last_root : (s : State) (t : NewToken) → Ends s (t ∷ []) → is_root (new_part t) ≡ false
last_root s t e = go (is_root (new_part t)) refl
  where
    go : (b : Bool) → is_root (new_part t) ≡ b → is_root (new_part t) ≡ false
    go false d = d
    go true d = absurd (no_clash (ap is_rooted e) (root_step s (new_part t) d))

last_apart : (t : NewToken) (x : Lexeme) (s : State) → x.kind ≡ kind.End → Kept t → Ends s (t ∷ []) → names_apart (new_lexeme t ∷ x ∷ []) ≡ true
last_apart t x s f h e =
    and_from (is_labelled (new_lexeme t) x && is_parted (new_lexeme t) x) true
    (and_from (is_labelled (new_lexeme t) x) (is_parted (new_lexeme t) x)
    (labelled_by (is_backslash t.kind (after t.text)) (is_empty x.lead) (begins is_letter x.text) (is_label_kind x.kind)
    (λ b. absurd (no_clash (not_backslash t h (last_root s t e)) b)))
    (parted_or (is_keyword_kind t.kind) (not (is_namespace (after t.text))) (is_backslash x.kind x.text) (is_empty x.lead) (end_backslash x.kind x.text f))) refl

-- a token keeps its kind and text with a space before it
abbrev Neighbours : NewToken → NewToken → Type 0
Neighbours t u = (lead : List ℕ) → is_labelled (new_lexeme t) (record { kind = u.kind; lead = lead; text = after u.text }) ≡ true

given_first : (c : Bool) (t : NewToken) (xs : List Lexeme) → names_apart (new_lexeme t ∷ xs) ≡ true → names_apart (new_lexeme (given c t) ∷ xs) ≡ true
given_first true t xs h = head_apart (new_lexeme t) (after (given true t).lead) xs h
given_first false t xs h = h

given_lexeme : (c : Bool) (u : NewToken) → new_lexeme (given c u) ≡ record { kind = u.kind; lead = after (given c u).lead; text = after u.text }
given_lexeme true u = refl
given_lexeme false u = refl

bare_lexeme : (c : Bool) (u : NewToken)
    → new_lexeme (record (given c u) { lead = names.deleted (before (given c u).lead) }) ≡ record
    { kind = u.kind; lead = after (names.deleted (before (given c u).lead)); text = after u.text }
bare_lexeme true u = refl
bare_lexeme false u = refl

given_loose : (c : Bool) (t : NewToken) → new_part (given c t) ≡ new_part t
given_loose true t = refl
given_loose false t = refl

-- a keyword joins nothing
no_key : (c : Bool) (t : NewToken) (ws : List NewToken) → joins (given c t) ws ≡ true → is_key (new_part t) ≡ false
no_key c t ws j = false_from_ne_true (is_key (new_part t)) (λ e. loose_join (given c t) ws (ap is_loose (given_loose c t) ∙ loose_key (new_part t) e) j)

-- two tokens in front of others
second_apart : (b : Bool) (t u : NewToken) (ts : List NewToken) (s : State) (x : Lexeme) → Kept t → Kept u
    → (names.is_keyword t.kind ≡ true → is_empty (before t.text) ≡ false) → Ends (step s (new_part t)) (u ∷ ts)
    → names_apart (map new_lexeme (parted (spaces_put (names.keyword_behind b t) (u ∷ ts))) ++ x ∷ []) ≡ true
    → (j : Bool) → joins (given (put b t (joins t (all_whole (u ∷ ts)))) t) (all_whole (spaces_put (names.keyword_behind b t) (u ∷ ts))) ≡ j
    → names_apart (new_lexeme t ∷ (map new_lexeme (if j then bare
    (parted (spaces_put (names.keyword_behind b t) (u ∷ ts))) else parted
    (spaces_put (names.keyword_behind b t) (u ∷ ts))) ++ x ∷ [])) ≡ true
second_apart b t u ts s x h k w e ih true g =
    let d = put (names.keyword_behind b t) u (joins u (all_whole ts)) in
    let first = record (given (put (names.keyword_behind b t) u (joins u (all_whole ts))) u)
    { lead = names.deleted (before (given (put (names.keyword_behind b t) u (joins u (all_whole ts))) u).lead) }
    in
    and_from (is_labelled (new_lexeme t) (new_lexeme first) && is_parted (new_lexeme t) (new_lexeme first)) _
    (and_from (is_labelled (new_lexeme t) (new_lexeme first)) (is_parted (new_lexeme t) (new_lexeme first))
    (ap (is_labelled (new_lexeme t)) (bare_lexeme (put (names.keyword_behind b t) u (joins u (all_whole ts))) u) ∙ labelled_pair t u _ s ts h k e)
    (ap (is_parted (new_lexeme t)) (bare_lexeme (put (names.keyword_behind b t) u (joins u (all_whole ts))) u)
    ∙ parted_other t u _ h (no_key (put b t (joins t (all_whole (u ∷ ts)))) t (all_whole (spaces_put (names.keyword_behind b t) (u ∷ ts))) g)))
    (head_apart (new_lexeme (given (put (names.keyword_behind b t) u (joins u (all_whole ts))) u)) (after first.lead) _ ih)
second_apart b t u ts s x h k w e ih false g =
    let first = given (put (names.keyword_behind b t) u (joins u (all_whole ts))) u in
    and_from (is_labelled (new_lexeme t) (new_lexeme first) && is_parted (new_lexeme t) (new_lexeme first)) _
    (and_from (is_labelled (new_lexeme t) (new_lexeme first)) (is_parted (new_lexeme t) (new_lexeme first))
    (ap (is_labelled (new_lexeme t)) (given_lexeme (put (names.keyword_behind b t) u (joins u (all_whole ts))) u) ∙ labelled_pair t u _ s ts h k e)
    (parted_kept b t u s ts h k w e))
    ih

end_is : (sort : TokenKind) → is_end sort ≡ true → sort ≡ kind.End
end_is kind.End e = refl
end_is _ e = absurd cc

calm_below : (s : State) → is_below s calm ≡ true → s ≡ calm
calm_below calm e = refl
calm_below _ e = absurd cc

row_apart : (ts : List NewToken) (b : Bool) (s : State) (x : Lexeme) → x.kind ≡ kind.End → ListKept ts
    → KeywordsHaveText ts → Ends s ts → names_apart (map new_lexeme (parted (spaces_put b ts)) ++ x ∷ []) ≡ true
row_apart [] b s x f h w e = refl
row_apart (t ∷ []) b s x f h w e = given_first (put b t false) t (x ∷ []) (last_apart t x s f h.0 e)
row_apart (t ∷ u ∷ ts) b s x f h w e =
    given_first (put b t (joins t (all_whole (u ∷ ts)))) t _
    (second_apart b t u ts s x h.0 h.1.0 w.0 e (row_apart (u ∷ ts) (names.keyword_behind b t) (step s (new_part t)) x f h.1 w.1 e)
    (joins (given (put b t (joins t (all_whole (u ∷ ts)))) t) (all_whole (spaces_put (names.keyword_behind b t) (u ∷ ts)))) refl)

-- the row of a file's names in parts
pub names_are_apart : NamesAreApart
names_are_apart f s p w t =
    let paired = paired_drawn (shaped_files_are_paired f s w) at_top true in
    row_apart (draft_tokens (nameless_draft f).statements) false calm (new_lexeme (nameless_draft f).end) (end_is f.end.kind s.ends)
    (subst (λ (d : Draft). ListKept (draft_tokens d)) (sym (drafted_is f.statements)) (tokens_kept (written at_top true f.statements) paired.kept)) t
    (ap (λ (d : Draft). run_list calm (draft_tokens d)) (drafted_is f.statements)
    ∙ calm_below (run_list calm (draft_tokens (written at_top true f.statements)))
    (below_trans (run_list calm (draft_tokens (written at_top true f.statements))) (run_draft calm (written at_top true f.statements)) calm
    (list_below (written at_top true f.statements) calm calm refl)
    (ap (is_below (run_draft calm (written at_top true f.statements)))
    (sym (calm_is (run calm f.statements) (runs_fit s.shaped (fine_labels f.statements p) w at_calm calm refl)))
    ∙ paired.runs calm calm refl)))
