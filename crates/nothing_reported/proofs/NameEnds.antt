-- The last part of a name with `\`.
use Rattle.std.proofs.Common.{
  ◌≡◌,
  ℕ,
  zero,
  suc,
  ◌-◌,
  Bool,
  true,
  false,
  not,
  ◌&&◌,
  ◌||◌,
  ◌==◌,
  if◌then◌else◌,
  nat_eq,
  inl,
  inr,
  codes,
  List,
  [],
  ◌∷◌,
  ◌++◌,
  length,
  drop,
  refl,
  sym,
  ap,
  ◌∙◌,
  append-nil,
  append_assoc,
}
use Rattle.std.specs.Char.{to_ascii_lowercase}
use Rattle.std.specs.Str.{bytes_eq}
use Rattle.std.proofs.lemmas.Bool.{eqb-true}
use Rattle.std.proofs.lemmas.Slice.Eq.{bytes_eq-Decides}
use Rattle.php_tree.specs.declared.token.Token.{Token}
use Rattle.php_tree.specs.Tree.{Forest, none, leaf, node}
use Rattle.php_terminals.specs.Classify.{ends_in, last, names_refused}
use Rattle.php_terminals.specs.Words.{is_word, label, labels}
use Rattle.tracked_changes.specs.Pieces.{Piece, after, before}
use Rattle.tracked_changes.specs.Draft.{NewToken, unchanged_token}
use Rattle.syntax_rules.specs.SplitName.{begins_root, deleted, is_backslash, is_label, is_name, is_namespace, is_one, is_op, one_name}
use Rattle.syntax_upgrade.specs.NameHeads.{Head, single, head_at}
use Rattle.syntax_upgrade.specs.ReservedName as own
use Rattle.nothing_reported.proofs.WholeHeads.{skipped}
use Rattle.rewritten_shapes.specs.Laws.{has_no_root}
use Rattle.rewritten_shapes.proofs.OperatorWords.{low_word}
use Rattle.nothing_reported.specs.Laws.{HasNoName}
use Rattle.nothing_reported.proofs.Fronts.{Sort, sort}

and_first : (a b : Bool) → (a && b) ≡ true → a ≡ true
and_first true b e = refl
and_first false b e = cc

and_second : (a b : Bool) → (a && b) ≡ true → b ≡ true
and_second true b e = e
and_second false b e = cc

-- ---- the bytes of a name

-- The last token of a name is a label behind `\`.
pub record Ended (n : ℕ) (f : Forest) (bytes : List ℕ) : Type 0 where
  pub last : Token
  pub rest : Forest
  pub first : List ℕ
  pub is : skipped n f ≡ leaf last rest
  pub text : bytes ≡ first ++ 92 ∷ last.text
  pub label : is_label last.kind ≡ true

after_deleted : (bs : List ℕ) (ps : List Piece) → after (deleted bs ++ ps) ≡ after ps
after_deleted [] ps = refl
after_deleted (b ∷ bs) ps = refl

one_text : (x : Token) (u : NewToken) → after (one_name (unchanged_token x) u).text ≡ x.text ++ after u.text
one_text x u = ap (λ (bs : List ℕ). x.text ++ bs) (after_deleted (before u.lead) u.text)

-- a token that is one with a label is `\`
one_label : (a l y n r : Bool) → n ≡ false → ((a && (l || (n && not r))) || (y && n && r)) ≡ true → (a && l) ≡ true
one_label true true y n r h e = refl
one_label true false true false r h e = e
one_label true false false false r h e = e
one_label false l true false r h e = e
one_label false l false false r h e = e
one_label a l y true r h e = absurd (let z : false ≡ true = sym h in cc)

backslash_text : (x : Token) → is_backslash (unchanged_token x) ≡ true → x.text ≡ 92 ∷ []
backslash_text x e = sym (append-nil x.text) ∙ (bytes_eq-Decides (x.text ++ []) (codes "\\")).0 (and_second (is_op x.kind) (bytes_eq (x.text ++ []) (codes "\\")) e)

two_ended : (x u : Token) (g : Forest) (h : Head) → Sort u h → is_name u.kind ≡ false
    → ((n : ℕ) → h.more ≡ suc n → Ended n g (after h.token.text)) → is_one (unchanged_token x) h.token ≡ true
    → (n : ℕ) → h.more ≡ n → Ended n (leaf u g) (after (one_name (unchanged_token x) h.token).text)
two_ended x u g h (inl s) k i o zero e =
    let y = unchanged_token x in
    let is : is_one y (unchanged_token u) ≡ true = ap (λ (v : NewToken). is_one y v) (sym s.1) ∙ o in
    let both : (is_backslash y && is_label u.kind) ≡ true =
    one_label (is_backslash y) (is_label u.kind) (is_label y.kind || is_namespace y) (is_name u.kind) (begins_root (u.text ++ [])) k is in
    record {
      last = u;
      rest = g;
      first = [];
      is = refl;
      text =
          one_text x h.token
          ∙ ap (λ (v : NewToken). x.text ++ after v.text) s.1
          ∙ ap (λ (bs : List ℕ). bs ++ (u.text ++ [])) (backslash_text x (and_first (is_backslash y) (is_label u.kind) both))
          ∙ ap (λ (bs : List ℕ). 92 ∷ bs) (append-nil u.text);
      label = and_second (is_backslash y) (is_label u.kind) both;
    }
two_ended x u g h (inl s) k i o (suc n) e = absurd (let z : zero ≡ suc n = sym s.0 ∙ e in cc)
two_ended x u g h (inr s) k i o zero e = absurd (let z : suc s.0 ≡ zero = sym s.1 ∙ e in cc)
two_ended x u g h (inr s) k i o (suc n) e =
    let r = i n e in
    record {
      last = r.last;
      rest = r.rest;
      first = x.text ++ r.first;
      is = r.is;
      text =
          one_text x h.token
          ∙ ap (λ (bs : List ℕ). x.text ++ bs) r.text
          ∙ sym (append_assoc x.text r.first (92 ∷ r.last.text));
      label = r.label;
    }

-- by whether the token and what is ahead are one
ended_if : (x u : Token) (g : Forest) (h : Head) → Sort u h → is_name u.kind ≡ false
    → ((n : ℕ) → h.more ≡ suc n → Ended n g (after h.token.text)) → (b : Bool) → is_one (unchanged_token x) h.token ≡ b
    → (n : ℕ) → (if b then record { more = suc h.more; token = one_name (unchanged_token x) h.token } else single x).more ≡ suc n
    → Ended n (leaf u g) (after (if b then record { more = suc h.more; token = one_name (unchanged_token x) h.token } else single x).token.text)
ended_if x u g h s k i true o n e = two_ended x u g h s k i o n (let z : h.more ≡ n = cc in z)
ended_if x u g h s k i false o n e = absurd (let z : zero ≡ suc n = e in cc)

pub ended : (x : Token) (f : Forest) → HasNoName f → (n : ℕ) → (head_at x f).more ≡ suc n → Ended n f (after (head_at x f).token.text)
ended x none k n e = absurd (let z : zero ≡ suc n = e in cc)
ended x (node j b f) k n e = absurd (let z : zero ≡ suc n = e in cc)
ended x (leaf u g) k n e =
    ended_if x u g (head_at u g) (sort u g) k.0 (ended u g k.1) (is_one (unchanged_token x) (head_at u g).token) refl n e

-- ---- `\mixed` and `\never`

-- a text that a word is: its first byte, and the others
word_parts : (a : ℕ) (w text : List ℕ) → is_word (a ∷ w) text ≡ true
    → (b : ℕ) × (v : List ℕ) × (text ≡ b ∷ v) × (nat_eq a (to_ascii_lowercase b) ≡ true) × (is_word w v ≡ true)
word_parts a w [] e = absurd cc
word_parts a w (b ∷ v) e =
    (b, v, refl, and_first (nat_eq a (to_ascii_lowercase b)) (is_word w v) e, and_second (nat_eq a (to_ascii_lowercase b)) (is_word w v) e)

-- whether no byte of a word is `\`
abbrev are_letters : List ℕ → Bool
are_letters [] = true
are_letters (a ∷ w) = not (nat_eq a 92) && are_letters w

no_root_byte : (a b : ℕ) → not (nat_eq a 92) ≡ true → nat_eq a (to_ascii_lowercase b) ≡ true → not (b == 92) ≡ true
no_root_byte a b h e = go (b == 92) refl
  where
    go : (c : Bool) → (b == 92) ≡ c → not c ≡ true
    go false p = refl
    go true p =
        let same : b ≡ 92 = eqb-true b 92 p in
        let here : nat_eq a (to_ascii_lowercase 92) ≡ true = ap (λ (n : ℕ). nat_eq a (to_ascii_lowercase n)) (sym same) ∙ e in
        absurd (let z : not true ≡ true = ap not (sym here) ∙ h in cc)

word_no_root : (w v : List ℕ) → are_letters w ≡ true → is_word w v ≡ true → has_no_root v ≡ true
word_no_root [] [] h e = refl
word_no_root [] (b ∷ v) h e = cc
word_no_root (a ∷ w) [] h e = cc
word_no_root (a ∷ w) (b ∷ v) h e =
    let one : not (b == 92) ≡ true = no_root_byte a b (and_first (not (nat_eq a 92)) (are_letters w) h) (and_first (nat_eq a (to_ascii_lowercase b)) (is_word w v) e) in
    let two : has_no_root v ≡ true = word_no_root w v (and_second (not (nat_eq a 92)) (are_letters w) h) (and_second (nat_eq a (to_ascii_lowercase b)) (is_word w v) e) in
    rw (one, two) refl

-- a byte `\` of a list
root_inside : (p v : List ℕ) → has_no_root (p ++ 92 ∷ v) ≡ false
root_inside [] v = refl
root_inside (b ∷ p) v = go (not (b == 92)) (root_inside p v)
  where
    go : (a : Bool) → has_no_root (p ++ 92 ∷ v) ≡ false → (a && has_no_root (p ++ 92 ∷ v)) ≡ false
    go true e = e
    go false e = refl

dropped_no_root : (k : ℕ) (bs : List ℕ) → has_no_root bs ≡ true → has_no_root (drop k bs) ≡ true
dropped_no_root zero bs h = h
dropped_no_root (suc k) [] h = refl
dropped_no_root (suc k) (b ∷ bs) h = dropped_no_root k bs (and_second (not (b == 92)) (has_no_root bs) h)

-- what stands behind the last `\`
behind_root : (p : List ℕ) (k : ℕ) (z v : List ℕ) → has_no_root z ≡ true → has_no_root v ≡ true → drop k (p ++ 92 ∷ z) ≡ 92 ∷ v → z ≡ v
behind_root [] zero z v h g e = cc
behind_root [] (suc k) z v h g e =
    absurd (let x : false ≡ true = sym (ap has_no_root e) ∙ dropped_no_root k z h in cc)
behind_root (b ∷ p) zero z v h g e =
    let same : p ++ 92 ∷ z ≡ v = cc in
    absurd (let x : false ≡ true = sym (root_inside p z) ∙ ap has_no_root same ∙ g in cc)
behind_root (b ∷ p) (suc k) z v h g e = behind_root p k z v h g e

-- a label behind the last `\` of a text that ends in `\` and a word
last_word : (w p z : List ℕ) → are_letters w ≡ true → has_no_root z ≡ true → ends_in (92 ∷ w) (p ++ 92 ∷ z) ≡ true → is_word w z ≡ true
last_word w p z l h e =
    let text = p ++ 92 ∷ z in
    let r = word_parts 92 w (last (length (92 ∷ w)) text) e in
    let b = r.0 in
    let v = r.1 in
    let root : b ≡ 92 = lower_root b r.3 in
    let cut : drop (length text - length (92 ∷ w)) text ≡ 92 ∷ v = r.2 ∙ ap (λ (n : ℕ). n ∷ v) root in
    let same : z ≡ v = behind_root p (length text - length (92 ∷ w)) z v h (word_no_root w v l r.4) cut in
    ap (is_word w) same ∙ r.4
  where
    lower_root : (b : ℕ) → nat_eq 92 (to_ascii_lowercase b) ≡ true → b ≡ 92
    lower_root b e =
        let same : b ∷ [] ≡ 92 ∷ [] = low_word (codes "\\") (b ∷ []) refl (ap (λ (x : Bool). x && true) e) in
        cc

-- a text is one word alone
one_word : (w y text : List ℕ) → is_word w text ≡ true → is_word y text ≡ true → w ≡ y
one_word [] [] text h e = refl
one_word [] (c ∷ y) [] h e = cc
one_word [] (c ∷ y) (b ∷ v) h e = cc
one_word (a ∷ w) [] [] h e = cc
one_word (a ∷ w) [] (b ∷ v) h e = cc
one_word (a ∷ w) (c ∷ y) [] h e = cc
one_word (a ∷ w) (c ∷ y) (b ∷ v) h e =
    let one : a ≡ to_ascii_lowercase b = eqb-true a (to_ascii_lowercase b) (and_first (nat_eq a (to_ascii_lowercase b)) (is_word w v) h) in
    let two : c ≡ to_ascii_lowercase b = eqb-true c (to_ascii_lowercase b) (and_first (nat_eq c (to_ascii_lowercase b)) (is_word y v) e) in
    let rest : w ≡ y = one_word w y v (and_second (nat_eq a (to_ascii_lowercase b)) (is_word w v) h) (and_second (nat_eq c (to_ascii_lowercase b)) (is_word y v) e) in
    rw (one, two, rest) refl

other_word : (w y text : List ℕ) → is_word w text ≡ true → is_word w w ≡ true → is_word w y ≡ false → is_word y text ≡ false
other_word w y text h i e = go (is_word y text) refl
  where
    go : (b : Bool) → is_word y text ≡ b → b ≡ false
    go true p = absurd (let z : true ≡ false = sym i ∙ ap (is_word w) (one_word w y text h p) ∙ e in cc)
    go false p = refl

mixed_label : (text : List ℕ) → is_word (codes "mixed") text ≡ true → own.is_type_now (label text) ≡ true
unfolding labels
mixed_label text e =
    let one : is_word (codes "match") text ≡ false = other_word (codes "mixed") (codes "match") text e refl refl in
    let two : is_word (codes "readonly") text ≡ false = other_word (codes "mixed") (codes "readonly") text e refl refl in
    rw (one, two, e) refl

never_label : (text : List ℕ) → is_word (codes "never") text ≡ true → own.is_type_now (label text) ≡ true
unfolding labels
never_label text e =
    let one : is_word (codes "match") text ≡ false = other_word (codes "never") (codes "match") text e refl refl in
    let two : is_word (codes "readonly") text ≡ false = other_word (codes "never") (codes "readonly") text e refl refl in
    let three : is_word (codes "mixed") text ≡ false = other_word (codes "never") (codes "mixed") text e refl refl in
    rw (one, two, three, e) refl

-- a name whose last part is refused for a class ends in such a label
pub refused_label : (p z : List ℕ) → has_no_root z ≡ true → names_refused (p ++ 92 ∷ z) ≡ true → own.is_type_now (label z) ≡ true
refused_label p z h e = go (ends_in (codes "\\mixed") (p ++ 92 ∷ z)) refl e
  where
    go : (b : Bool) → ends_in (codes "\\mixed") (p ++ 92 ∷ z) ≡ b → (b || ends_in (codes "\\never") (p ++ 92 ∷ z)) ≡ true → own.is_type_now (label z) ≡ true
    go true d e = mixed_label z (last_word (codes "mixed") p z refl h d)
    go false d e = never_label z (last_word (codes "never") p z refl h e)
