-- Names in one token: each node has the form that it had.
use Rattle.std.proofs.Common.{
  ◌≡◌,
  ℕ,
  zero,
  suc,
  ◌+◌,
  Bool,
  true,
  false,
  not,
  ◌&&◌,
  ◌||◌,
  ◌==◌,
  cond,
  if◌then◌else◌,
  IsTrue,
  List,
  [],
  ◌∷◌,
  ◌++◌,
  codes,
  Option,
  None,
  refl,
  ap,
  sym,
  ◌∙◌,
  subst,
  append-nil,
  append_assoc,
}
use Rattle.std.specs.Str.{bytes_eq, str_to_ascii_lowercase}
use Rattle.std.proofs.lemmas.Slice.Eq.{bytes_eq-Decides}
use Rattle.php_tree.specs.declared.token.TokenKind.{TokenKind}
use Rattle.php_tree.specs.declared.token.TokenKind.TheVariants as token
use Rattle.php_tree.specs.declared.token.Token.{Token}
use Rattle.php_tree.specs.declared.kind.NodeKind.{NodeKind}
use Rattle.php_tree.specs.Tree.{Forest, none, leaf, node, count}
use Rattle.php_tree.specs.Places.{placed, behind, end_of}
use Rattle.php_meaning.specs.runs.World.{Bytes}
use Rattle.scope_names.specs.Slot.{Declared}
use Rattle.scope_names.specs.Form.{Form, Part, child, part_before, parts, bits, form, joins, is_name_part, is_namespace, first_is, is_backslash}
use Rattle.scope_names.specs.Sites.{Site, file_site, is_declaration, declarations, one_if, declared_here, within, within_form, beside, names_beside}
use Rattle.php_meaning.specs.runs.Kinds.{is_expression}
use Rattle.php_meaning.specs.names.Refused.{kid_forms, kid_form, kid_before, is_type, is_parameter, type_bits, Around, no_loops, refuses, inside, judged, refused}
use Rattle.php_meaning.specs.names.Tables.{
  Tables,
  tables_of,
  listed,
  is_told,
  entry,
  holder,
  keeps_top,
  refused_file,
  file_entry,
  written_of,
  first_written,
  defines,
  defining,
}
use Rattle.php_meaning.specs.Rules.{rule}
use Rattle.php_meaning.specs.laws.SameScripts.{HasScriptsOf, nothing, token_before, token_behind, same, HaveScriptsOf, no_more, one_more}
use Rattle.php_meaning.proofs.Parens.{same_before, names_joined, defined_by_same, joined_same}
use Rattle.tracked_changes.specs.Pieces.{before, after, changed}
use Rattle.tracked_changes.specs.Draft as draft
use Rattle.tracked_changes.specs.Draft.{NewToken, Draft, new_leaf, new_node, rewritten, rewritten_token}
use Rattle.tracked_changes.proofs.Joining.{before-append, after-append}
use Rattle.syntax_rules.specs.SplitName.{
  split_name,
  is_nothing,
  is_label,
  is_name,
  is_keyword,
  is_op,
  begins_root,
  is_one,
  one_name,
  deleted,
  in_front,
  whole_names,
  space_before,
  keyword_behind,
  keyword_last,
  apart,
}
use Rattle.syntax_rules.specs.declared.rules.Rules.{Rules}
use Rattle.syntax_rules.specs.Together.{names_by}
use Rattle.syntax_rules.specs.SplitName as names
use Rattle.syntax_rules.proofs.Rewrites.{IsToken, SameTokens, no_token, one_token, one_node}

-- ---- tokens that may be parts of names

-- a draft begins with a token
abbrev pub leads : Draft → Bool
leads draft.no_more = false
leads (new_leaf t d) = true
leads (new_node k c d) = false

-- A token is as it was, or an operator that is put in.
pub data IsKept (t : NewToken) : Type 0 where
  as_it_was : before t.text ≡ after t.text → IsKept t
  put_in_code : t.kind ≡ token.Op → before t.text ≡ [] → IsKept t

-- A token before another one that could be a part of a name is kept, and so is a name.
abbrev pub IsProper : Draft → Type 0
IsProper draft.no_more = Unit {0}
IsProper (new_leaf t d) = (IsTrue (is_name t.kind) → before t.text ≡ after t.text)
    × (IsTrue (leads d) → IsTrue (is_op t.kind || (is_label t.kind || is_keyword t.kind)) → IsKept t) × IsProper d
IsProper (new_node k c d) = IsProper c × IsProper d

-- ---- joined names

is_label_kind : (k : TokenKind) → IsTrue (is_label k) → k ≡ token.Label
is_label_kind token.Label h = refl
is_label_kind k h = cc

is_name_kind : (k : TokenKind) → IsTrue (is_name k) → k ≡ token.Name
is_name_kind token.Name h = refl
is_name_kind k h = cc

is_op_kind : (k : TokenKind) → IsTrue (is_op k) → k ≡ token.Op
is_op_kind token.Op h = refl
is_op_kind k h = cc

is_keyword_kind : (k : TokenKind) → IsTrue (is_keyword k) → k ≡ token.Keyword
is_keyword_kind token.Keyword h = refl
is_keyword_kind k h = cc

first_of : (a b : Bool) → IsTrue (a && b) → IsTrue a
first_of true b h = refl
first_of false b h = cc

rest_of : (a b : Bool) → IsTrue (a && b) → IsTrue b
rest_of true b h = h
rest_of false b h = cc

-- Why two tokens are one name: `\` and then a label or a name, or a label or `namespace` and a name that begins with `\`.
data Why (t u : NewToken) : Type 0 where
  behind_root : t.kind ≡ token.Op → before t.text ≡ codes "\\" → IsTrue (is_label u.kind || is_name u.kind) → Why t u
  behind_label : t.kind ≡ token.Label → IsTrue (is_name u.kind) → IsTrue (begins_root (before u.text)) → Why t u
  behind_space :
      t.kind ≡ token.Keyword → str_to_ascii_lowercase (before t.text) ≡ codes "namespace" → IsTrue (is_name u.kind) →
      IsTrue (begins_root (before u.text)) → Why t u

why_one : (t u : NewToken) → is_one t u ≡ true → Why t u
why_one t u h =
    by_cases (names.is_backslash t) (is_label u.kind) (is_name u.kind) (begins_root (before u.text)) (is_label t.kind) (names.is_namespace t) refl refl refl refl refl refl h
  where
    by_cases : (a b c d e f : Bool) → names.is_backslash t ≡ a → is_label u.kind ≡ b → is_name u.kind ≡ c
        → begins_root (before u.text) ≡ d → is_label t.kind ≡ e → names.is_namespace t ≡ f
        → ((a && (b || (c && not d))) || ((e || f) && c && d)) ≡ true → Why t u
    by_cases true true c d e f a b c' d' e' f' h = root a (ap (λ x. x || is_name u.kind) b)
      where
        root : names.is_backslash t ≡ true → (is_label u.kind || is_name u.kind) ≡ true → Why t u
        root x y =
            behind_root (is_op_kind t.kind (first_of (is_op t.kind) (bytes_eq (before t.text) (codes "\\")) x))
            ((bytes_eq-Decides (before t.text) (codes "\\")).0 (rest_of (is_op t.kind) (bytes_eq (before t.text) (codes "\\")) x)) y
    by_cases true false true d e f a b c d' e' f' h = root a (ap (λ x. x || is_name u.kind) b ∙ c)
      where
        root : names.is_backslash t ≡ true → (is_label u.kind || is_name u.kind) ≡ true → Why t u
        root x y =
            behind_root (is_op_kind t.kind (first_of (is_op t.kind) (bytes_eq (before t.text) (codes "\\")) x))
            ((bytes_eq-Decides (before t.text) (codes "\\")).0 (rest_of (is_op t.kind) (bytes_eq (before t.text) (codes "\\")) x)) y
    by_cases false b true true true f a b' c d e f' h = behind_label (is_label_kind t.kind e) c d
    by_cases false b true true false true a b' c d e f h =
        behind_space (is_keyword_kind t.kind (first_of (is_keyword t.kind) (bytes_eq (str_to_ascii_lowercase (before t.text)) (codes "namespace")) f))
        ((bytes_eq-Decides (str_to_ascii_lowercase (before t.text)) (codes "namespace")).0
        (rest_of (is_keyword t.kind) (bytes_eq (str_to_ascii_lowercase (before t.text)) (codes "namespace")) f)) c d
    by_cases true false false d e f a b c d' e' f' h = cc_of e f h
      where
        cc_of : (e f : Bool) → ((e || f) && false && d) ≡ true → Why t u
        cc_of true f h = cc
        cc_of false true h = cc
        cc_of false false h = cc
    by_cases false b false d true f a b' c d' e f' h = cc
    by_cases false b false d false true a b' c d' e f h = cc
    by_cases false b c d false false a b' c' d' e f h = cc
    by_cases false b true false true f a b' c d e f' h = cc
    by_cases false b true false false true a b' c d e f h = cc

-- ---- what a joined name has

text_one_name : (t u : NewToken) → after (one_name t u).text ≡ after t.text ++ after u.text
text_one_name t u =
    after-append (t.text ++ deleted (before u.lead)) u.text
    ∙ ap (λ x. x ++ after u.text) (after-append t.text (deleted (before u.lead)) ∙ ap (λ x. after t.text ++ x) (none_after (before u.lead)) ∙ append-nil (after t.text))
  where
    none_after : (bytes : List ℕ) → after (deleted bytes) ≡ []
    none_after [] = refl
    none_after (b ∷ bs) = refl

source_one_name : (t u : NewToken) → before (one_name t u).text ≡ before t.text ++ (before (deleted (before u.lead)) ++ before u.text)
source_one_name t u =
    before-append (t.text ++ deleted (before u.lead)) u.text
    ∙ ap (λ x. x ++ before u.text) (before-append t.text (deleted (before u.lead)))
    ∙ append_assoc (before t.text) (before (deleted (before u.lead))) (before u.text)

part_kind : (k : TokenKind) (w : Bytes) → IsTrue (is_label k || is_name k) → is_name_part k w ≡ true
part_kind token.Label w h = refl
part_kind token.Name w h = refl
part_kind k w h = cc

root_first : (w : Bytes) → IsTrue (begins_root w) → first_is is_backslash w ≡ true
root_first [] h = cc
root_first (b ∷ bs) h = h

-- what stands first is a name that begins with `\` in the rewritten file too, where it does in the source
abbrev Head : Draft → Type 0
Head draft.no_more = Unit {0}
Head (new_leaf u d) = IsTrue (is_name u.kind) → IsTrue (begins_root (before u.text)) → first_is is_backslash (after u.text) ≡ true
Head (new_node k c d) = Unit {0}

name_or : (a b : Bool) → IsTrue b → IsTrue (a || b)
name_or true b h = refl
name_or false b h = h

why_part : (t u : NewToken) → Why t u → IsTrue (is_label u.kind || is_name u.kind)
why_part t u (behind_root k w h) = h
why_part t u (behind_label k h r) = name_or (is_label u.kind) (is_name u.kind) h
why_part t u (behind_space k w h r) = name_or (is_label u.kind) (is_name u.kind) h

-- the kinds that may begin a name
may_begin : (t u : NewToken) → Why t u → IsTrue (is_op t.kind || (is_label t.kind || is_keyword t.kind))
may_begin t u (behind_root k w h) = ap (λ x. is_op x || (is_label x || is_keyword x)) k
may_begin t u (behind_label k h r) = ap (λ x. is_op x || (is_label x || is_keyword x)) k
may_begin t u (behind_space k w h r) = ap (λ x. is_op x || (is_label x || is_keyword x)) k

other_kind : (x y : TokenKind) (b : Bool) → is_op x ≡ b → is_op y ≡ not b → x ≡ y → ⊥
other_kind x y true e d k = absurd (let f : true ≡ false = sym e ∙ ap is_op k ∙ d in cc)
other_kind x y false e d k = absurd (let f : false ≡ true = sym e ∙ ap is_op k ∙ d in cc)

-- a part of a name is as it was
kept_one : (t u : NewToken) → Why t u → IsKept t → before t.text ≡ after t.text
kept_one t u y (as_it_was e) = e
kept_one t u (behind_root k w h) (put_in_code o e) = absurd (let f : [] ≡ codes "\\" = sym e ∙ w in cc)
kept_one t u (behind_label k h r) (put_in_code o e) = absurd (other_kind token.Label token.Op false refl refl (sym k ∙ o))
kept_one t u (behind_space k w h r) (put_in_code o e) = absurd (other_kind token.Keyword token.Op false refl refl (sym k ∙ o))

why_joins : (t u : NewToken) → Why t u → before t.text ≡ after t.text
    → (IsTrue (is_name u.kind) → IsTrue (begins_root (before u.text)) → first_is is_backslash (after u.text) ≡ true)
    → joins (rewritten_token t) (after u.text) ≡ true
why_joins t u (behind_root k w h) e n =
    ap (λ x. is_name_part x (after t.text) || (is_namespace x (after t.text) && first_is is_backslash (after u.text))) k
    ∙ ap (λ x. is_name_part token.Op x || (is_namespace token.Op x && first_is is_backslash (after u.text))) (sym e ∙ w)
why_joins t u (behind_label k h r) e n =
    ap (λ x. is_name_part x (after t.text) || (is_namespace x (after t.text) && first_is is_backslash (after u.text))) k
why_joins t u (behind_space k w h r) e n =
    ap (λ x. is_name_part x (after t.text) || (is_namespace x (after t.text) && first_is is_backslash (after u.text))) k
    ∙ ap (λ x. bytes_eq x (codes "namespace") && first_is is_backslash (after u.text)) (ap str_to_ascii_lowercase (sym e) ∙ w)
    ∙ n h r

first_joined : (w v x : Bytes) → (IsTrue (begins_root (w ++ v)) → w ≡ [] → first_is is_backslash x ≡ true) → IsTrue (begins_root (w ++ v)) → first_is is_backslash (w ++ x) ≡ true
first_joined [] v x h r = h r refl
first_joined (b ∷ bs) v x h r = r

why_head : (t u : NewToken) → Why t u → before t.text ≡ after t.text
    → (IsTrue (is_name u.kind) → IsTrue (begins_root (before u.text)) → first_is is_backslash (after u.text) ≡ true)
    → IsTrue (begins_root (before (one_name t u).text)) → first_is is_backslash (after (one_name t u).text) ≡ true
why_head t u (behind_root k w h) e n r =
    ap (first_is is_backslash) (text_one_name t u) ∙ ap (λ x. first_is is_backslash (x ++ after u.text)) (sym e ∙ w)
why_head t u (behind_label k h b) e n r =
    ap (first_is is_backslash) (text_one_name t u)
    ∙ ap (λ x. first_is is_backslash (x ++ after u.text)) (sym e)
    ∙ first_joined (before t.text) (before (deleted (before u.lead)) ++ before u.text) (after u.text) (λ x y. n h b)
    (subst (λ z. IsTrue (begins_root z)) (source_one_name t u) r)
why_head t u (behind_space k w h b) e n r =
    ap (first_is is_backslash) (text_one_name t u)
    ∙ ap (λ x. first_is is_backslash (x ++ after u.text)) (sym e)
    ∙ first_joined (before t.text) (before (deleted (before u.lead)) ++ before u.text) (after u.text) (λ x y. n h b)
    (subst (λ z. IsTrue (begins_root z)) (source_one_name t u) r)

-- ---- whole names

record Whole (f : Forest) (e : Draft) : Type 0 where
  parts_are : parts (rewritten e) ≡ parts f
  head : Head e

proper_head : (t : NewToken) (d : Draft) → (IsTrue (is_name t.kind) → before t.text ≡ after t.text) → Head (new_leaf t d)
proper_head t d h = λ n r. ap (first_is is_backslash) (sym (h n)) ∙ root_first (before t.text) r

in_front_whole : (n : Bool) (t : NewToken) (f : Forest) (e : Draft) → (IsTrue (is_name t.kind) → before t.text ≡ after t.text)
    → (IsTrue (is_op t.kind || (is_label t.kind || is_keyword t.kind)) → IsKept t)
    → Whole f e → Whole (leaf (rewritten_token t) f) (in_front n t e)
in_front_whole n t f draft.no_more h g w = record { parts_are = ap (part_before (rewritten_token t)) w.parts_are; head = proper_head t draft.no_more h }
in_front_whole n t f (new_node k c d) h g w = record { parts_are = ap (part_before (rewritten_token t)) w.parts_are; head = proper_head t (new_node k c d) h }
in_front_whole n t f (new_leaf u d) h g w = chosen (is_one t u && (n || is_nothing (before u.lead))) refl
  where
    chosen : (b : Bool) → (is_one t u && (n || is_nothing (before u.lead))) ≡ b
        → Whole (leaf (rewritten_token t) f) (cond b (new_leaf (one_name t u) d) (new_leaf t (new_leaf u d)))
    chosen false x = record { parts_are = ap (part_before (rewritten_token t)) w.parts_are; head = proper_head t (new_leaf u d) h }
    chosen true x =
        let y : Why t u = why_one t u (first_of (is_one t u) (n || is_nothing (before u.lead)) x) in
        let same : before t.text ≡ after t.text = kept_one t u y (g (may_begin t u y)) in
        record {
          parts_are =
              sym (names_joined (rewritten_token t) (rewritten_token u) (rewritten_token (one_name t u)) (rewritten d) refl (text_one_name t u)
              (part_kind u.kind (after u.text) (why_part t u y)) (why_joins t u y same w.head))
              ∙ ap (part_before (rewritten_token t)) w.parts_are;
          head = λ n r. why_head t u y same w.head r;
        }

whole_parts : (n : Bool) (d : Draft) → IsProper d → Whole (rewritten d) (whole_names n d)
whole_parts n draft.no_more p = record { parts_are = refl; head = tt }
whole_parts n (new_node k c d) p = record { parts_are = ap (λ x. child ∷ x) (whole_parts n d p.1).parts_are; head = tt }
whole_parts n (new_leaf t draft.no_more) p = record { parts_are = refl; head = proper_head t draft.no_more p.0 }
whole_parts n (new_leaf t (new_node k c d)) p =
    let w = whole_parts n (new_node k c d) p.2 in
    record { parts_are = ap (part_before (rewritten_token t)) w.parts_are; head = proper_head t (whole_names n (new_node k c d)) p.0 }
whole_parts n (new_leaf t (new_leaf u d)) p =
    in_front_whole n t (rewritten (new_leaf u d)) (whole_names n (new_leaf u d)) p.0 (p.1 refl) (whole_parts n (new_leaf u d) p.2)

-- ---- trees

-- the same nodes with the same parts, whatever tokens a name has
pub data Named : Forest → Forest → Type 0 where
  ends : Named none none
  token_first : {t : Token} {f g : Forest} → Named f g → Named (leaf t f) g
  token_last : {u : Token} {f g : Forest} → Named f g → Named f (leaf u g)
  inner : {k : NodeKind} {c d f g : Forest} → parts d ≡ parts c → Named c d → Named f g → Named (node k c f) (node k d g)

strip : {f g : Forest} {u : Token} → Named f (leaf u g) → Named f g
strip (token_first p) = token_first (strip p)
strip (token_last p) = p

in_front_named : (n : Bool) (t : NewToken) {f : Forest} (e : Draft) → Named f (rewritten e) → Named (leaf (rewritten_token t) f) (rewritten (in_front n t e))
in_front_named n t draft.no_more p = token_first (token_last p)
in_front_named n t (new_node k c d) p = token_first (token_last p)
in_front_named n t {f} (new_leaf u d) p =
    elim (is_one t u && (n || is_nothing (before u.lead))) as (λ b. Named (leaf (rewritten_token t) f) (rewritten (cond b (new_leaf (one_name t u) d) (new_leaf t (new_leaf u d)))))
    [ true ↦ token_first (token_last (strip p)) | false ↦ token_first (token_last p) ]

whole_named : (n : Bool) (d : Draft) → IsProper d → Named (rewritten d) (rewritten (whole_names n d))
whole_named n draft.no_more p = ends
whole_named n (new_leaf t d) p = in_front_named n t (whole_names n d) (whole_named n d p.2)
whole_named n (new_node k c d) p = inner (whole_parts n c p.0).parts_are (whole_named n c p.0) (whole_named n d p.1)

same_parts : {f g : Forest} → SameTokens f g → parts g ≡ parts f
same_parts no_token = refl
same_parts (one_token {t} {u} {f} {g} i a) = same_before t u (parts g) i.kind_is i.text_is ∙ ap (part_before t) (same_parts a)
same_parts (one_node a b) = ap (λ x. child ∷ x) (same_parts b)

named_stays : {f g h : Forest} → Named f g → SameTokens g h → Named f h
named_stays ends no_token = ends
named_stays (token_first p) a = token_first (named_stays p a)
named_stays (token_last p) (one_token i a) = token_last (named_stays p a)
named_stays (inner e p q) (one_node a b) = inner (same_parts a ∙ e) (named_stays p a) (named_stays q b)

placed_stays : (at : ℕ) (f : Forest) → SameTokens f (placed at f)
placed_stays at none = no_token
placed_stays at (leaf t f) = one_token (record { kind_is = refl; text_is = refl }) (placed_stays (behind at t) f)
placed_stays at (node k c f) = one_node (placed_stays at c) (placed_stays (end_of at c) f)

spaced : (b : Bool) (t : NewToken) → IsToken (rewritten_token t).kind (rewritten_token t).text
    (rewritten_token (cond b (record t { lead = t.lead ++ changed [] (codes " ") ∷ [] }) t))
spaced true t = record { kind_is = refl; text_is = refl }
spaced false t = record { kind_is = refl; text_is = refl }

apart_stays : (behind : Bool) (d : Draft) → SameTokens (rewritten d) (rewritten (apart behind d))
apart_stays behind draft.no_more = no_token
apart_stays behind (new_leaf t d) =
    one_token (spaced (behind && is_name t.kind && begins_root (before t.text) && is_nothing (before t.lead)) t) (apart_stays (keyword_behind behind t) d)
apart_stays behind (new_node k c d) = one_node (apart_stays behind c) (apart_stays (keyword_last behind c) d)

-- names whole and apart from keywords, or those whole that have no trivia inside, each token in its place
pub split_named : (r : Rules) (d : Draft) → IsProper d → Named (rewritten d) (placed 0 (rewritten (names_by r d)))
split_named r d p = named_stays (by_rule r.split_names) (placed_stays 0 (rewritten (names_by r d)))
  where
    by_rule : (b : Bool) → Named (rewritten d) (rewritten (if b then split_name d else names.whole_names false d))
    by_rule true = named_stays (whole_named true d p) (apart_stays false (names.whole_names true d))
    by_rule false = whole_named false d p

-- ---- scripts and tables

declarations_are : {f g : Forest} → Named f g → declarations g ≡ declarations f
declarations_are ends = refl
declarations_are (token_first p) = declarations_are p
declarations_are (token_last p) = declarations_are p
declarations_are (inner {k} {c} {d} {f} {g} e p q) =
    ap (λ n. one_if (is_declaration k) n + declarations g) (declarations_are p) ∙ ap (λ n. one_if (is_declaration k) (declarations c) + n) (declarations_are q)

within_is : (k : NodeKind) (s : Site) (c d : Forest) → parts d ≡ parts c → within k d s ≡ within k c s
within_is k s c d e = ap (λ f. within_form k f s) (ap bits e)

beside_is : (k : NodeKind) (s : Site) {c d : Forest} → parts d ≡ parts c → Named c d → beside k d s ≡ beside k c s
beside_is k s {c} {d} e p =
    ap (λ f. record (names_beside k f s) { number = one_if (is_declaration k) (declarations d) + s.number }) (ap bits e)
    ∙ ap (λ n. record (names_beside k (form c) s) { number = one_if (is_declaration k) n + s.number }) (declarations_are p)

pub named_scripts : (t : Tables) (s : Site) {f g : Forest} → Named f g → HasScriptsOf t t s f g
named_scripts t s ends = nothing
named_scripts t s (token_first p) = token_before (named_scripts t s p)
named_scripts t s (token_last p) = token_behind (named_scripts t s p)
named_scripts t s (inner {k} {c} {d} {f} {g} e p q) =
    same (record {
      script = λ m. ap (rule t s k m) (ap bits e);
      statement = refl;
      declaration = refl;
      within = within_is k s c d e;
      beside = beside_is k s e p;
    }) (named_scripts t (within k c s) p) (named_scripts t (beside k c s) q)

type_bits_are : {f g : Forest} → Named f g → type_bits g ≡ type_bits f
type_bits_are ends = refl
type_bits_are (token_first p) = type_bits_are p
type_bits_are (token_last p) = type_bits_are p
type_bits_are (inner {k} {c} {d} {f} {g} e p q) =
    ap (λ x. cond (is_type k) x (type_bits g)) (ap bits e) ∙ ap (λ x. cond (is_type k) (form c) x) (type_bits_are q)

kid_form_is : (k : NodeKind) {c d : Forest} → parts d ≡ parts c → Named c d → kid_form k d ≡ kid_form k c
kid_form_is k {c} {d} e p =
    ap (λ x. cond (is_parameter k) (type_bits d) [] ++ x) (ap bits e)
    ∙ ap (λ x. cond (is_parameter k) x [] ++ form c) (type_bits_are p)

kid_forms_are : {f g : Forest} → Named f g → kid_forms g ≡ kid_forms f
kid_forms_are ends = refl
kid_forms_are (token_first p) = kid_forms_are p
kid_forms_are (token_last p) = kid_forms_are p
kid_forms_are (inner {k} {c} {d} {f} {g} e p q) =
    ap (λ x. kid_before (is_expression k) (k, x) (kid_forms g)) (kid_form_is k e p)
    ∙ ap (λ ks. kid_before (is_expression k) (k, kid_form k c) ks) (kid_forms_are q)

refused_is : {f g : Forest} → Named f g → (a : Around) → refused a g ≡ refused a f
refused_is ends a = refl
refused_is (token_first p) a = refused_is p a
refused_is (token_last p) a = refused_is p a
refused_is (inner {k} {c} {d} {f} {g} e p q) a =
    ap (λ x. judged (is_expression k) (refuses a k x) (refused (inside a k x (kid_forms d)) d) || refused a g) (ap bits e)
    ∙ ap (λ x. judged (is_expression k) (refuses a k (form c)) (refused (inside a k (form c) x) d) || refused a g) (kid_forms_are p)
    ∙ ap (λ x. judged (is_expression k) (refuses a k (form c)) x || refused a g) (refused_is p (inside a k (form c) (kid_forms c)))
    ∙ ap (λ x. judged (is_expression k) (refuses a k (form c)) (refused (inside a k (form c) (kid_forms c)) c) || x) (refused_is q a)

both_joined : {a b x y : Tables} → a ≡ b → x ≡ y → a ++ x ≡ b ++ y
both_joined {a} {b} {x} {y} e d = ap (λ z. z ++ x) e ∙ ap (λ z. b ++ z) d

named_lists : {f g : Forest} → Named f g → (s : Site) (of : Option Declared) (top : Bool) → listed s of top g ≡ listed s of top f
named_lists ends s of top = refl
named_lists (token_first p) s of top = named_lists p s of top
named_lists (token_last p) s of top = named_lists p s of top
named_lists (inner {k} {c} {d} {f} {g} e p q) s of top =
    both_joined
    (ap (λ x. entry (is_told k) (record { at = declared_here s; kind = k; site = s; form = x; kids = kid_forms d; of = of; is_top = top })
    (listed (within k d s) (holder k s) (keeps_top k && top) d)) (ap bits e)
    ∙ ap (λ x. entry (is_told k) (record { at = declared_here s; kind = k; site = s; form = form c; kids = x; of = of; is_top = top })
    (listed (within k d s) (holder k s) (keeps_top k && top) d)) (kid_forms_are p)
    ∙ ap (λ x. entry (is_told k) (record { at = declared_here s; kind = k; site = s; form = form c; kids = kid_forms c; of = of; is_top = top })
    (listed x (holder k s) (keeps_top k && top) d)) (within_is k s c d e)
    ∙ ap (λ x. entry (is_told k) (record { at = declared_here s; kind = k; site = s; form = form c; kids = kid_forms c; of = of; is_top = top }) x)
    (named_lists p (within k c s) (holder k s) (keeps_top k && top)))
    (ap (λ x. listed x of top g) (beside_is k s e p) ∙ named_lists q (beside k c s) of top)

written_is : {f g : Forest} → Named f g → first_written g ≡ first_written f
written_is ends = refl
written_is (token_first p) = written_is p
written_is (token_last p) = written_is p
written_is (inner {k} {c} {d} e p q) =
    ap (λ x. written_of k x (first_written d)) (ap bits e) ∙ ap (λ ws. written_of k (form c) ws) (written_is p)

defines_are : {f g : Forest} → Named f g → defines g ≡ defines f
defines_are ends = refl
defines_are (token_first p) = defines_are p
defines_are (token_last p) = defines_are p
defines_are (inner {k} {c} {d} e p q) =
    joined_same (joined_same (defined_by_same k (form c) (form d) (first_written c) (first_written d) (ap bits e) (written_is p)) (defines_are p))
    (defines_are q)

entry_is : {f g : Forest} → Named f g → (path : Bytes) → file_entry path g ≡ file_entry path f
entry_is {f} {g} p path =
    ap (λ b. entry b (refused_file path (declarations g)) (defining path (declarations g) (defines g) ∷ [])) (refused_is p no_loops)
    ∙ ap (λ n. entry (refused no_loops f) (refused_file path n) (defining path n (defines g) ∷ [])) (declarations_are p)
    ∙ ap (λ ns. entry (refused no_loops f) (refused_file path (declarations f)) (defining path (declarations f) ns ∷ [])) (defines_are p)

-- the same of files by their paths
pub data AreNamed : List (Bytes × Forest) → List (Bytes × Forest) → Type 0 where
  no_file : AreNamed [] []
  one_file : {path : Bytes} {f g : Forest} {fs gs : List (Bytes × Forest)} → Named f g → AreNamed fs gs → AreNamed ((path, f) ∷ fs) ((path, g) ∷ gs)

pub named_tables : {fs gs : List (Bytes × Forest)} → AreNamed fs gs → tables_of gs ≡ tables_of fs
named_tables no_file = refl
named_tables (one_file {path} r rs) =
    both_joined (named_lists r (file_site path) None true) (both_joined (entry_is r path) (named_tables rs))

pub named_files : (t : Tables) {fs gs : List (Bytes × Forest)} → AreNamed fs gs → HaveScriptsOf t t fs gs
named_files t no_file = no_more
named_files t (one_file {path} r rs) = one_more (named_scripts t (file_site path) r) (named_files t rs)
