-- No rule that is off has a place in parts that none touches.
use Rattle.std.proofs.Common.{
  ◌≡◌,
  ℕ,
  zero,
  ◌+◌,
  Bool,
  true,
  false,
  ◌&&◌,
  ◌||◌,
  ◌==◌,
  not,
  if◌then◌else◌,
  List,
  [],
  ◌∷◌,
  ◌++◌,
  Option,
  Some,
  refl,
  ap,
  sym,
  ◌∙◌,
  append-nil,
  append_assoc,
  length,
  length-append,
  arith,
}
use Rattle.std.specs.List.{list_any}
use Rattle.std.proofs.lemmas.Bool.{false≢true}
use Rattle.php_tree.specs.declared.kind.NodeKind.{NodeKind}
use Rattle.php_tree.specs.declared.token.Token.{Token}
use Rattle.php_tree.specs.Tree.{Forest, none, leaf, node, leaves, tokens_bytes}
use Rattle.php_tree.specs.Places.{behind, end_of}
use Rattle.syntax_rules.specs.declared.rules.Rules.{Rules}
use Rattle.syntax_rules.specs.Around.{Around, within}
use Rattle.syntax_rules.specs.DotPrecedence.{is_regrouped}
use Rattle.syntax_rules.specs.HashComment.{Standing, begins_hash, block, closing, line, moved, opening, outside}
use Rattle.syntax_rules.specs.SplitName.{is_keyword}
use Rattle.syntax_rules.specs.Together.{token_by}
use Rattle.syntax_rules.specs.UnsetCast.{is_edited}
use Rattle.syntax_upgrade.specs.Calm.{AreApart, AreCalm, IsCalm, is_calm_kind, last_keyword}
use Rattle.syntax_upgrade.specs.Found.{Report}
use Rattle.syntax_upgrade.specs.NamesWalked.{Head, head_of}
use Rattle.syntax_upgrade.specs.OffPlaces.{
  Off,
  comments,
  dollar_reports,
  first_off,
  head_by,
  head_off,
  inside_off,
  more_by,
  name_off,
  null_off,
  off_in,
  node_off,
  trivia_off,
  with_found,
}
use Rattle.syntax_upgrade.proofs.CalmDrafts.{Kept, and_none, kept_behind, kept_here, kept_inner, kept_rest, kept_within, no_offset, not_edited, not_nested, not_one, not_real}
use Rattle.syntax_upgrade.proofs.CalmWritten.{behind_calm}
use Rattle.syntax_upgrade.proofs.UnsetWalk.{not_null}

no_begin : (s : Standing) (b : ℕ) (bs : List ℕ) → (b == 35) ≡ false → begins_hash s b bs ≡ false
no_begin outside b bs h = rw h refl
no_begin opening b bs h = refl
no_begin block b bs h = refl
no_begin closing b bs h = refl
no_begin line b bs h = refl

neither : (a b : Bool) → (a || b) ≡ false → (a ≡ false) × (b ≡ false)
neither true b h = absurd (false≢true (sym h))
neither false b h = (refl, h)

comments_none : (s : Standing) (at : ℕ) (bs : List ℕ) → list_any (λ b. b == 35) bs ≡ false → comments s at bs ≡ []
comments_none s at [] h = refl
comments_none s at (b ∷ bs) h =
    let n = neither (b == 35) (list_any (λ x. x == 35) bs) h in
    rw (no_begin s b bs n.0) (comments_none (moved s b bs) (at + 1) bs n.1)

-- places behind bytes
pub end_behind_bytes : (at : ℕ) (f : Forest) → end_of at f ≡ at + length (tokens_bytes (leaves f))
end_behind_bytes at none = omega arith
end_behind_bytes at (leaf t f) =
    let one : length ((t.lead ++ t.text) ++ tokens_bytes (leaves f)) ≡ (length t.lead + length t.text) + length (tokens_bytes (leaves f)) = simp length-append refl in
    end_behind_bytes (behind at t) f ∙ omega (arith, one)
end_behind_bytes at (node k c f) =
    let both : length (tokens_bytes (leaves c ++ leaves f)) ≡ length (tokens_bytes (leaves c)) + length (tokens_bytes (leaves f)) =
    ap length (bytes_append (leaves c) (leaves f)) ∙ length-append (tokens_bytes (leaves c)) (tokens_bytes (leaves f)) in
    let first : end_of at c ≡ at + length (tokens_bytes (leaves c)) = end_behind_bytes at c in
    end_behind_bytes (end_of at c) f ∙ omega (arith, both, first)
  where
    bytes_append : (xs ys : List Token) → tokens_bytes (xs ++ ys) ≡ tokens_bytes xs ++ tokens_bytes ys
    bytes_append [] ys = refl
    bytes_append (x ∷ xs) ys = ap (λ (bs : List ℕ). (x.lead ++ x.text) ++ bs) (bytes_append xs ys) ∙ sym (append_assoc (x.lead ++ x.text) (tokens_bytes xs) (tokens_bytes ys))

module _ (r : Rules) where
  abbrev single : Token → Head
  single t = record { more = zero; token = token_by r t }

  -- a token is no name with others
  head_alone : (t : Token) (f : Forest) → IsCalm t → AreCalm f → head_by r t f ≡ single t
  head_alone t none h i = refl
  head_alone t (leaf u f) h i =
      ap (λ (x : Head). head_of true (token_by r t) (Some x)) (head_alone u f i.0 i.1)
      ∙ rw (not_one r t u h i.0) refl
  head_alone t (node k c f) h i = refl

  abbrev so : Bool → List Report → Off
  so b rs = record { behind = b; found = rs }

  -- whether a keyword stands last, where names are looked at
  abbrev pub off_behind : Bool → List Token → Bool
  off_behind b [] = b
  off_behind b (t ∷ ts) = off_behind (if r.split_names then false else is_keyword t.kind) ts

  behind_append : (b : Bool) (xs ys : List Token) → off_behind (off_behind b xs) ys ≡ off_behind b (xs ++ ys)
  behind_append b [] ys = refl
  behind_append b (x ∷ xs) ys = behind_append (if r.split_names then false else is_keyword x.kind) xs ys

  pub behind_last : (b : Bool) (t : Token) (ts : List Token)
      → off_behind b (t ∷ ts) ≡ (if r.split_names then false else last_keyword false (t ∷ ts))
  behind_last b t [] = refl
  behind_last b t (u ∷ ts) = behind_last (if r.split_names then false else is_keyword t.kind) u ts

  none_found : (on : Bool) (xs : List Report) → xs ≡ [] → (if on then [] else xs) ≡ []
  none_found true xs h = refl
  none_found false xs h = h

  trivia_passed : (at : ℕ) (t : Token) (b : Bool) (rs : List Report) → IsCalm t → trivia_off r at t (so b rs) ≡ so b rs
  trivia_passed at t b rs h =
      ap (λ (xs : List Report). so b (rs ++ xs)) (none_found r.hash_comments (comments outside at t.lead) (comments_none outside at t.lead h.lead))
      ∙ ap (so b) (append-nil rs)

  head_passed : (at : ℕ) (t : Token) (f : Forest) (b : Bool) (rs : List Report) → IsCalm t
      → head_off at t (single t) f (so b rs) ≡ so (is_keyword t.kind) rs
  head_passed at t f b rs h = rw (behind_calm r b t h, h.no_name, and_none b, append-nil rs) refl

  name_if : (s : Bool) (at : ℕ) (t : Token) (f : Forest) (b : Bool) (rs : List Report) → IsCalm t
      → (if s then so false rs else head_off at t (single t) f (so b rs)) ≡ so (if s then false else is_keyword t.kind) rs
  name_if true at t f b rs h = refl
  name_if false at t f b rs h = head_passed at t f b rs h

  dollar_passed : (at : ℕ) (t : Token) (b : Bool) (rs : List Report) → IsCalm t
      → with_found (dollar_reports r at t) (so b rs) ≡ so b rs
  dollar_passed at t b rs h = rw (h.no_brace, and_none (not r.dollar_braces), append-nil rs) refl

  first_passed : (at : ℕ) (t : Token) (f : Forest) (b : Bool) (rs : List Report) → IsCalm t
      → first_off r at t (single t) f (so b rs) ≡ so (if r.split_names then false else is_keyword t.kind) rs
  first_passed at t f b rs h =
      ap (λ (s : Off). with_found (dollar_reports r at t) (name_off r at t (single t) f s)) (trivia_passed at t b rs h)
      ∙ ap (with_found (dollar_reports r at t)) (name_if r.split_names at t f b rs h)
      ∙ dollar_passed at t (if r.split_names then false else is_keyword t.kind) rs h

  zero_if : (b : Bool) → (if b then zero else zero) ≡ zero
  zero_if true = refl
  zero_if false = refl

  five : (b : Bool) (g : List Report) → so b (((((g ++ []) ++ []) ++ []) ++ []) ++ []) ≡ so b g
  five b g = simp append-nil refl

  node_passed : (a : Option Around) (at : ℕ) (k : NodeKind) (c : Forest) (b : Bool) (rs : List Report)
      → is_calm_kind k ≡ true → is_regrouped a (k, c) ≡ false → node_off r a at (k, c) (so b rs) ≡ so b rs
  node_passed a at k c b rs h e =
      rw (
        not_edited k c h,
        not_real k c h,
        no_offset k h,
        not_nested a k h,
        e,
        and_none (not r.unset_casts),
        and_none (not r.real_casts),
        and_none (not r.brace_offsets),
        and_none (not r.dot_operands),
        and_none (not r.nested_ternaries),
      )
      (five b rs)

  else_if : (u : Bool) (p q : Off) → u ≡ false → (if u then p else q) ≡ q
  else_if u p q e = rw e refl

  not_null_node : (k : NodeKind) (c : Forest) → is_calm_kind k ≡ true → (r.unset_casts && is_edited (k, c)) ≡ false
  not_null_node k c h = rw (not_edited k c h) (and_none r.unset_casts)

  off_passed : (around : Bool → Option Around) (i : Bool) (at : ℕ) (f : Forest) (b : Bool) (rs : List Report) → Kept around f → AreCalm f
      → off_in r around i zero at f (so b rs) ≡ so (off_behind b (leaves f)) rs
  off_passed around i at none b rs free h = refl
  off_passed around i at (leaf t f) b rs free h =
      ap (λ (x : Head). off_in r around false (more_by r x) (behind at t) f (first_off r at t x f (so b rs))) (head_alone t f h.0 h.1)
      ∙ ap (λ (n : ℕ). off_in r around false n (behind at t) f (first_off r at t (single t) f (so b rs))) (zero_if (r.split_names && r.hash_comments))
      ∙ ap (off_in r around false zero (behind at t) f) (first_passed at t f b rs h.0)
      ∙ off_passed around false (behind at t) f (if r.split_names then false else is_keyword t.kind) rs (kept_behind around t f free) h.1
  off_passed around i at (node k c f) b rs free h =
      let inner : off_in r (within k c) true zero at c (so b rs) ≡ so (off_behind b (leaves c)) rs =
      off_passed (within k c) true at c b rs (kept_inner around k c f free) h.1.0 in
      ap (λ (s : Off). off_in r around false zero (end_of at c) f (node_off r (around i) at (k, c) s))
      (else_if (r.unset_casts && is_edited (k, c)) (null_off r at c (so b rs)) (off_in r (within k c) true zero at c (so b rs)) (not_null_node k c h.0) ∙ inner)
      ∙ ap (off_in r around false zero (end_of at c) f) (node_passed (around i) at k c (off_behind b (leaves c)) rs h.0 (kept_here around i k c f free))
      ∙ off_passed around false (end_of at c) f (off_behind b (leaves c)) rs (kept_rest around k c f free) h.1.1
      ∙ ap (λ (x : Bool). so x rs) (behind_append b (leaves c) (leaves f))

  pub inside_passed : (k : NodeKind) (f : Forest) (at : ℕ) (s : Off) → is_calm_kind k ≡ true → AreCalm f → AreApart (leaves f)
      → inside_off r at (k, f) s ≡ so (off_behind s.behind (leaves f)) s.found
  inside_passed k f at s h i a =
      not_null r (k, f) at s (not_null_node k f h) ∙ off_passed (within k f) true at f s.behind s.found (kept_within k f a) i
