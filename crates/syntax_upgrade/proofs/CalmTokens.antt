-- Tokens that the code went over, and the parts that they are.
use Rattle.std.proofs.Common.{
  ◌≡◌,
  ◌⊎◌,
  inl,
  inr,
  ℕ,
  zero,
  suc,
  ◌-◌,
  ◌≤◌,
  ◌<◌,
  Bool,
  true,
  false,
  not,
  ◌&&◌,
  ◌||◌,
  ◌==◌,
  List,
  [],
  ◌∷◌,
  ◌++◌,
  All,
  length,
  map,
  take,
  drop,
  slice_range,
  Option,
  Some,
  None,
  if◌then◌else◌,
  refl,
  ap,
  sym,
  ◌∙◌,
  codes,
  arith,
  subst,
}
use Rattle.std.specs.List.{list_all}
use Rattle.std.specs.Str.{bytes_eq}
use Rattle.std.proofs.lemmas.Bool.{eqb-true, false≢true, true≢false}
use Rattle.std.proofs.lemmas.List.Folds.{list_all-append, list_all-map}
use Rattle.php_tree.specs.declared.kind.NodeKind.{NodeKind}
use Rattle.php_tree.specs.declared.token.Token.{Token}
use Rattle.php_tree.specs.declared.token.TokenKind.{TokenKind}
use Rattle.php_tree.specs.declared.token.TokenKind.TheVariants as token
use Rattle.php_tree.specs.Tree.{Forest, none, leaf, node, leaves, token_bytes, tokens_bytes}
use Rattle.php_terminals.specs.declared.mark.Mark.{Mark}
use Rattle.php_terminals.specs.declared.terminal.Terminal.{Terminal}
use Rattle.php_terminals.specs.Classify.{terminal}
use Rattle.php_terminals.specs.Marked.{IsMark, token_at}
use Rattle.php_rows.specs.declared.flat.Flat.{Flat}
use Rattle.php_rows.specs.Kinds.{kind_of, kinds}
use Rattle.php_rows.proofs.Leaves.{range_joins}
use Rattle.syntax_rules.specs.DollarBrace.{is_dollar_brace}
use Rattle.syntax_rules.specs.SplitName.{is_name, is_nothing}
use Rattle.syntax_upgrade.specs.declared.calm.Calm.{Calm}
use Rattle.syntax_upgrade.specs.declared.calm.Last.{Last}
use Rattle.syntax_upgrade.specs.Calm.{
  AreApart,
  AreCalm,
  IsCalm,
  NoneJoins,
  NoneTakes,
  has_hash,
  has_no_token,
  is_calm,
  is_calm_kind,
  is_calm_text,
  is_calm_token,
  is_enum,
  last_class,
  last_keyword,
  may_join,
  may_take,
}
use Rattle.syntax_upgrade.specs.NodeRule.{is_reported_token}
use Rattle.syntax_upgrade.specs.node_rules.{node_rules}
use Rattle.syntax_upgrade.specs.ReservedName.{is_doubtful}
use Rattle.syntax_upgrade.specs.CalmRuns.{AllCalm, AreRun, Stays, behind_mark, runs}

-- ---- one token

both : (a b : Bool) → (a && b) ≡ true → (a ≡ true) × (b ≡ true)
both true b h = (refl, h)
both false b h = absurd (false≢true h)

not_so : (b : Bool) → not b ≡ true → b ≡ false
not_so true h = absurd (false≢true h)
not_so false h = refl

neither : (a b : Bool) → (a || b) ≡ false → (a ≡ false) × (b ≡ false)
neither true b h = absurd (true≢false h)
neither false b h = (refl, h)

and_none : (b : Bool) → (b && false) ≡ false
and_none true = refl
and_none false = refl

not_name : (k : TokenKind) → is_calm_token k ≡ true → is_name k ≡ false
not_name token.Name h = absurd (false≢true h)
not_name k h = refl

not_brace : (k : TokenKind) → is_calm_token k ≡ true → is_dollar_brace k ≡ false
not_brace token.DollarBrace h = absurd (false≢true h)
not_brace k h = refl

record TextIs (bs : List ℕ) : Type 0 where
  some : is_nothing bs ≡ false
  no_root : bytes_eq bs (codes "\\") ≡ false

text_is : (bs : List ℕ) → is_calm_text bs ≡ true → TextIs bs
text_is [] h = absurd (false≢true h)
text_is (b ∷ []) h = record { some = refl; no_root = rw (not_so (b == 92) h) refl }
text_is (b ∷ c ∷ bs) h = record { some = refl; no_root = and_none (b == 92) }

token_is : (x : Token) → is_calm x ≡ true → IsCalm x
token_is x h =
    let a = both (is_calm_token x.kind) _ h in
    let b = both (not (is_doubtful (terminal x))) _ a.1 in
    let c = both (is_calm_text x.text) _ b.1 in
    let d = both (not (has_hash x.lead)) _ c.1 in
    let e = both (not (is_enum x.kind x.text)) (not (is_reported_token node_rules x)) d.1 in
    let t = text_is x.text c.0 in
    record {
      lead = not_so (has_hash x.lead) d.0;
      some = t.some;
      no_name = not_name x.kind a.0;
      no_brace = not_brace x.kind a.0;
      no_root = t.no_root;
      sure = not_so (is_doubtful (terminal x)) b.0;
      no_enum = not_so (is_enum x.kind x.text) e.0;
      unreported = not_so (is_reported_token node_rules x) e.1;
    }

-- ---- some tokens

calm_first : (xs ys : List Token) → AllCalm (xs ++ ys) → AllCalm xs
calm_first [] ys h = tt
calm_first (x ∷ xs) ys h = (h.0, calm_first xs ys h.1)

calm_rest : (xs ys : List Token) → AllCalm (xs ++ ys) → AllCalm ys
calm_rest [] ys h = h
calm_rest (x ∷ xs) ys h = calm_rest xs ys h.1

-- parts whose tokens and whose nodes are so
are_calm : (f : Forest) → AllCalm (leaves f) → list_all is_calm_kind (kinds f) ≡ true → AreCalm f
are_calm none h i = tt
are_calm (leaf t f) h i = (h.0, are_calm f h.1 i)
are_calm (node k c f) h i =
    let a = both (is_calm_kind k) (list_all is_calm_kind (kinds c ++ kinds f)) i in
    let b = both (list_all is_calm_kind (kinds c)) (list_all is_calm_kind (kinds f)) (sym (list_all-append is_calm_kind (kinds c) (kinds f)) ∙ a.1) in
    (a.0, (are_calm c (calm_first (leaves c) (leaves f) h) b.0, are_calm f (calm_rest (leaves c) (leaves f) h) b.1))

-- ---- marks

no_range : (bytes : List ℕ) (a b : ℕ) → a ≡ b → slice_range bytes a b ≡ []
no_range bytes a b e = let n : b - a ≡ zero = omega arith in ap (λ (k : ℕ). take k (drop a bytes)) n

all_behind : (bytes : List ℕ) (m : Mark) (ms : List Mark) → All (IsMark bytes) (m ∷ ms) → All (IsMark bytes) ms
all_behind bytes m ms all = λ k d lt. all (suc k) d (omega (arith, lt))

all_first : (bytes : List ℕ) (m : Mark) (ms : List Mark) → All (IsMark bytes) (m ∷ ms) → IsMark bytes m
all_first bytes m ms all = all zero m (omega arith)

some_is : (a b : Last) → Some a ≡ Some b → a ≡ b
some_is a b h = cc

some_none : (a : Last) → Some a ≡ None → ⊥
some_none a h = cc

going : (b : Bool) (o : Option Last) (to : Last) → Some to ≡ (if b then o else None) → (b ≡ true) × (Some to ≡ o)
going true o to h = (refl, h)
going false o to h = absurd (some_none to h)

-- what tokens one behind another are
record Passed (bytes : List ℕ) (from : Last) (ms : List Mark) (to : Last) : Type 0 where
  order : from.end ≤ to.end
  within : to.end ≤ length bytes
  calm : AllCalm (map (token_at bytes) ms)
  text : slice_range bytes from.end to.end ≡ tokens_bytes (map (token_at bytes) ms)
  class : last_class from.class (map (token_at bytes) ms) ≡ to.class
  keyword : last_keyword from.is_keyword (map (token_at bytes) ms) ≡ to.is_keyword
  takes : to.takes ≡ false → (from.takes ≡ false) × NoneTakes (map (token_at bytes) ms)
  joins : to.joins ≡ false → (from.joins ≡ false) × NoneJoins (map (token_at bytes) ms)

passed : (bytes : List ℕ) (from : Last) (ms : List Mark) (to : Last) → from.end ≤ length bytes → All (IsMark bytes) ms → Some to ≡ runs bytes from ms → Passed bytes from ms to
passed bytes from [] to lt all h =
    let same : to ≡ from = some_is to from h in
    let e : from.end ≡ to.end = ap (λ (l : Last). l.end) (sym same) in
    record {
      order = omega (arith, e);
      within = omega (arith, e, lt);
      calm = tt;
      text = no_range bytes from.end to.end e;
      class = ap (λ (l : Last). l.class) (sym same);
      keyword = ap (λ (l : Last). l.is_keyword) (sym same);
      takes = λ q. (ap (λ (l : Last). l.takes) (sym same) ∙ q, tt);
      joins = λ q. (ap (λ (l : Last). l.joins) (sym same) ∙ q, tt);
    }
passed bytes from (m ∷ ms) to lt all h =
    let i = all_first bytes m ms all in
    let o = i.order in
    let b = i.behind in
    let w = i.within in
    let g = going (m.lead == from.end && is_calm (token_at bytes m)) (runs bytes (behind_mark bytes from m) ms) to h in
    let g2 = both (m.lead == from.end) (is_calm (token_at bytes m)) g.0 in
    let p = passed bytes (behind_mark bytes from m) ms to w (all_behind bytes m ms all) g.1 in
    let q = p.order in
    let e : m.lead ≡ from.end = eqb-true m.lead from.end g2.0 in
    record {
      order = omega (arith, o, b, q, e);
      within = p.within;
      calm = (token_is (token_at bytes m) g2.1, p.calm);
      text =
          ap (λ (n : ℕ). slice_range bytes n to.end) (sym e)
          ∙ sym (range_joins bytes m.lead m.end to.end (omega (arith, o, b)) q)
          ∙ ap (λ (bs : List ℕ). bs ++ slice_range bytes m.end to.end) (sym (range_joins bytes m.lead m.start m.end o b))
          ∙ ap (λ (bs : List ℕ). token_bytes (token_at bytes m) ++ bs) p.text;
      class = ap (λ (x : Terminal). last_class x (map (token_at bytes) ms)) (sym i.class) ∙ p.class;
      keyword = p.keyword;
      takes = λ u. let a = p.takes u in let n = neither from.takes (may_take (token_at bytes m).text) a.0 in (n.0, (n.1, a.1));
      joins = λ u. let a = p.joins u in let n = neither from.joins (may_join (token_at bytes m).text) a.0 in (n.0, (n.1, a.1));
    }

some_there : (g : Mark → Token) (ms : List Mark) → 0 < length ms → has_no_token (map g ms) ≡ false
some_there g [] h = absurd (omega (arith, h))
some_there g (m ∷ ms) h = refl

-- the last of some tokens doesn't depend on what stands before them
class_of_some : (x : Terminal) (ts : List Token) (z : Terminal) → has_no_token ts ≡ false → last_class z ts ≡ last_class x ts
class_of_some x [] z h = absurd (true≢false h)
class_of_some x (t ∷ ts) z h = refl

keyword_of_some : (x : Bool) (ts : List Token) (z : Bool) → has_no_token ts ≡ false → last_keyword z ts ≡ last_keyword x ts
keyword_of_some x [] z h = absurd (true≢false h)
keyword_of_some x (t ∷ ts) z h = refl

one_of : (a b : Bool) (A B : Type 0) → (a && b) ≡ false → (a ≡ false → A) → (b ≡ false → B) → A ⊎ B
one_of false b A B h f g = inl (f refl)
one_of true b A B h f g = inr (g h)

pub run_is : (bytes : List ℕ) (from to : Last) (ms : List Mark) (c : Calm) → from.end ≤ length bytes → All (IsMark bytes) ms
    → 0 < length ms → Some to ≡ runs bytes from ms → c.start ≡ from.end → c.last ≡ to → (to.takes && to.joins) ≡ false → AreRun bytes (map (token_at bytes) ms) c
run_is bytes from to ms c lt all some h cs cl free =
    let p = passed bytes from ms to lt all h in
    let le : c.last.end ≡ to.end = ap (λ (l : Last). l.end) cl in
    let there = some_there (token_at bytes) ms some in
    record {
      calm = p.calm;
      apart = one_of to.takes to.joins (NoneTakes (map (token_at bytes) ms)) (NoneJoins (map (token_at bytes) ms)) free (λ q. (p.takes q).1) (λ q. (p.joins q).1);
      some = there;
      order = let o = p.order in omega (arith, o, cs, le);
      within = let w = p.within in omega (arith, w, le);
      text = ap (λ (n : ℕ). slice_range bytes n c.last.end) cs ∙ ap (slice_range bytes from.end) le ∙ p.text;
      class = λ x. class_of_some from.class (map (token_at bytes) ms) x there ∙ p.class ∙ ap (λ (l : Last). l.class) (sym cl);
      keyword = λ b. keyword_of_some from.is_keyword (map (token_at bytes) ms) b there ∙ p.keyword ∙ ap (λ (l : Last). l.is_keyword) (sym cl);
    }

pub stays : (bytes tb : List ℕ) (ts : List Token) (k : NodeKind) (f : Forest) (ns : List Flat) (c : Calm)
    → AreRun tb ts c → ts ≡ leaves f → tb ≡ bytes
    → is_calm_kind k ≡ true → list_all (λ x. is_calm_kind x.kind) ns ≡ true → map kind_of ns ≡ kinds f → Stays bytes (k, f) c
stays bytes tb ts k f ns c r e eb ck cn en =
    let ks : list_all is_calm_kind (kinds f) ≡ true =
    ap (list_all is_calm_kind) (sym en) ∙ list_all-map is_calm_kind kind_of ns ∙ cn in
    record {
      kind = ck;
      apart = subst AreApart e r.apart;
      parts = are_calm f (subst AllCalm e r.calm) ks;
      some = subst (λ (us : List Token). has_no_token us ≡ false) e r.some;
      order = r.order;
      within = subst (λ (bs : List ℕ). c.last.end ≤ length bs) eb r.within;
      text = ap (λ (bs : List ℕ). slice_range bs c.start c.last.end) (sym eb) ∙ r.text ∙ ap tokens_bytes e;
      class = λ x. ap (last_class x) (sym e) ∙ r.class x;
      keyword = λ b. ap (last_keyword b) (sym e) ∙ r.keyword b;
    }
