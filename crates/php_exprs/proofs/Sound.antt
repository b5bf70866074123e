-- What the parser reads is spelled so.
use Rattle.std.proofs.Common.{
  ◌≡◌,
  ℕ,
  zero,
  suc,
  ◌+◌,
  ◌<◌,
  ◌≤◌,
  List,
  [],
  ◌∷◌,
  ◌++◌,
  length,
  Option,
  Some,
  None,
  nat_lt,
  refl,
  sym,
  ap,
  ◌∙◌,
  subst,
  append_assoc,
  arith,
  length-append,
}
use Rattle.std.proofs.lemmas.Bool.{ltb-true}
use Rattle.php_tree.specs.declared.token.Token.{Token}
use Rattle.php_tree.specs.Tree.{depth, Forest, Tree, none, leaf, node, ◌+++◌, leaves}
use Rattle.php_forms.specs.declared.item.Sort.{Sort}
use Rattle.php_forms.specs.declared.item.Group.{Group}
use Rattle.php_forms.specs.declared.item.Item.{Item}
use Rattle.php_forms.specs.declared.item.Item.TheVariants.{Word, Node, Part, Repeats, Span}
use Rattle.php_forms.specs.Grammar.{Form, Tables, Walks, ends, word, child, part, stop, repeat, span, IsFlat, Grows, head, onward, Spells}
use Rattle.php_exprs.specs.Parsing.{◌>>=◌, Read, given, Steps, repeat_at, repeats_at, run_at, items_at, walk, grown, grow, begin, parse}
use Rattle.php_exprs.proofs.Forests.{bind_some, given_some, some_is, leaves_append, depth_append, forest_assoc}

-- the parts that a step read
pub record Took (T : Tables) (d : ℕ) (is : List Item) (ts : List Token) (y : Forest × List Token) : Type 0 where
  pub walks : Walks T is y.0 y.1
  pub text : ts ≡ leaves y.0 ++ y.1
  pub low : depth y.0 ≤ d

pub record TookNode (T : Tables) (d : ℕ) (s : Sort) (ts : List Token) (y : Tree × List Token) : Type 0 where
  pub spells : Spells T s y.0 y.1
  pub text : ts ≡ leaves y.0.1 ++ y.1
  pub low : depth y.0.1 < d

abbrev StepsSound : Tables → ℕ → Steps → Type 0
StepsSound T d steps = (is : List Item) (ts : List Token) (y : Forest × List Token) → steps is ts ≡ Some y → Took T d is ts y

abbrev ChildSound : Tables → ℕ → (Sort → List Token → Read Tree) → Type 0
ChildSound T d child_at = (s : Sort) (ts : List Token) (y : Tree × List Token) → child_at s ts ≡ Some y → TookNode T d s ts y

two_texts : (f g : Forest) (ts mid rest : List Token) → ts ≡ leaves f ++ mid → mid ≡ leaves g ++ rest → ts ≡ leaves (f +++ g) ++ rest
two_texts f g ts mid rest p q = p ∙ ap (λ (m : List Token). leaves f ++ m) q
    ∙ sym (append_assoc (leaves f) (leaves g) rest) ∙ ap (λ (m : List Token). m ++ rest) (sym (leaves_append f g))

low_both : (f g : Forest) (d : ℕ) → depth f ≤ d → depth g ≤ d → depth (f +++ g) ≤ d
low_both f g d p q = omega (arith, depth_append f g)

-- tokens that a run read
record TookRun (n : ℕ) (ts : List Token) (y : Forest × List Token) : Type 0 where
  flat : IsFlat y.0
  text : ts ≡ leaves y.0 ++ y.1
  many : n ≡ length (leaves y.0)
  low : depth y.0 ≡ 0

run_sound : (n : ℕ) (ts : List Token) (y : Forest × List Token) → run_at n ts ≡ Some y → TookRun n ts y
run_sound zero ts y e = subst (λ (z : Forest × List Token). TookRun zero ts z) (some_is (none, ts) y e) (record { flat = tt; text = refl; many = refl; low = refl })
run_sound (suc n) [] y e = absurd cc
run_sound (suc n) (t ∷ ts) y e =
    let b = bind_some (run_at n ts) (λ h. Some (leaf t h.0, h.1)) y e in
    let r = run_sound n ts b.0 b.1 in
    subst (λ (z : Forest × List Token). TookRun (suc n) (t ∷ ts) z) (some_is (leaf t b.0.0, b.0.1) y b.2)
    (record { flat = r.flat; text = ap (λ (us : List Token). t ∷ us) r.text; many = ap suc r.many; low = r.low })

module _ (T : Tables) (d : ℕ) where
  -- a group and what follows it
  after_part : (g : Group) (is : List Item) (ts : List Token) (h f : Forest × List Token)
      → Took T d (T.parts g ts) ts h → Took T d is h.1 f → Took T d (Part g ∷ is) ts (h.0 +++ f.0, f.1)
  after_part g is ts h f p q =
      let w = subst (λ (m : List Token). Walks T (T.parts g ts) h.0 m) q.text p.walks in
      let e = p.text ∙ ap (λ (m : List Token). leaves h.0 ++ m) q.text in
      record {
        walks = part (subst (λ (u : List Token). Walks T (T.parts g u) h.0 (leaves f.0 ++ f.1)) e w) q.walks;
        text = two_texts h.0 f.0 ts h.1 f.1 p.text q.text;
        low = low_both h.0 f.0 d p.low q.low;
      }

  -- the repeats of a group, and what follows them
  record Repeated (g : Group) (ts : List Token) (y : Forest × List Token) : Type 0 where
    before : (is : List Item) (f : Forest) (rest : List Token) → y.1 ≡ leaves f ++ rest → Walks T is f rest → Walks T (Repeats g ∷ is) (y.0 +++ f) rest
    text : ts ≡ leaves y.0 ++ y.1
    low : depth y.0 ≤ d

  one_repeat : (steps : Steps) (more : List Token → Read Forest) → StepsSound T d steps → (g : Group)
      → ((ts : List Token) (y : Forest × List Token) → more ts ≡ Some y → Repeated g ts y)
      → (is : List Item) (ts : List Token) (y : Forest × List Token) → T.parts g ts ≡ is
      → repeat_at steps more is ts ≡ Some y → Repeated g ts y
  one_repeat steps more sound g ih [] ts y p e =
      subst (λ (z : Forest × List Token). Repeated g ts z) (some_is (none, ts) y e) (record {
        before = λ is f rest q w. stop (ap (T.parts g) (sym q) ∙ p) w;
        text = refl;
        low = omega arith;
      })
  one_repeat steps more sound g ih (i ∷ is) ts y p e =
      let b = bind_some (steps (i ∷ is) ts) (λ h. given (nat_lt (length h.1) (length ts)) (more h.1) >>= λ f. Some (h.0 +++ f.0, f.1)) y e in
      let h = b.0 in
      let c = bind_some (given (nat_lt (length h.1) (length ts)) (more h.1)) (λ f. Some (h.0 +++ f.0, f.1)) y b.2 in
      let m = given_some (nat_lt (length h.1) (length ts)) (more h.1) c.0 c.1 in
      let one = sound (i ∷ is) ts h b.1 in
      let all = ih h.1 c.0 m.1 in
      let short : length h.1 < length ts = ltb-true _ _ m.0 in
      let has : 0 < length (leaves h.0) = omega (arith, ap length one.text, length-append (leaves h.0) h.1) in
      subst (λ (z : Forest × List Token). Repeated g ts z) (some_is (h.0 +++ c.0.0, c.0.1) y c.2) (record {
        before = λ js f rest q w.
            let mid : h.1 ≡ leaves (c.0.0 +++ f) ++ rest = two_texts c.0.0 f h.1 c.0.1 rest all.text q in
            let whole : ts ≡ leaves h.0 ++ (leaves (c.0.0 +++ f) ++ rest) = one.text ∙ ap (λ (m : List Token). leaves h.0 ++ m) mid in
            let first : T.parts g (leaves h.0 ++ (leaves (c.0.0 +++ f) ++ rest)) ≡ i ∷ is = ap (T.parts g) (sym whole) ∙ p in
            let one_walks = subst (λ (m : List Token). Walks T (i ∷ is) h.0 m) mid one.walks in
            subst (λ (z : Forest). Walks T (Repeats g ∷ js) z rest) (sym (forest_assoc h.0 c.0.0 f)) (repeat first one_walks has (all.before js f rest q w));
        text = two_texts h.0 c.0.0 ts h.1 c.0.1 one.text all.text;
        low = low_both h.0 c.0.0 d one.low all.low;
      })

  repeats_sound : (steps : Steps) → StepsSound T d steps → (n : ℕ) (g : Group) (ts : List Token) (y : Forest × List Token) → repeats_at T steps n g ts ≡ Some y → Repeated g ts y
  repeats_sound steps sound zero g ts y e = one_repeat steps (λ _. None) sound g (λ us z q. absurd cc) (T.parts g ts) ts y refl e
  repeats_sound steps sound (suc n) g ts y e = one_repeat steps (repeats_at T steps n g) sound g (repeats_sound steps sound n g) (T.parts g ts) ts y refl e

  items_sound : (child_at : Sort → List Token → Read Tree) (steps : Steps) → ChildSound T d child_at → StepsSound T d steps → StepsSound T d (items_at T child_at steps)
  items_sound child_at steps cs ss [] ts y e =
      subst (λ (z : Forest × List Token). Took T d [] ts z) (some_is (none, ts) y e) (record { walks = ends; text = refl; low = omega arith })
  items_sound child_at steps cs ss (Word c ∷ is) [] y e = absurd cc
  items_sound child_at steps cs ss (Word c ∷ is) (t ∷ ts) y e =
      let g = given_some (T.accepts c t) (items_at T child_at steps is ts >>= λ f. Some (leaf t f.0, f.1)) y e in
      let b = bind_some (items_at T child_at steps is ts) (λ f. Some (leaf t f.0, f.1)) y g.1 in
      let r = items_sound child_at steps cs ss is ts b.0 b.1 in
      subst (λ (z : Forest × List Token). Took T d (Word c ∷ is) (t ∷ ts) z) (some_is (leaf t b.0.0, b.0.1) y b.2)
      (record { walks = word g.0 r.walks; text = ap (λ (us : List Token). t ∷ us) r.text; low = r.low })
  items_sound child_at steps cs ss (Node s ∷ is) ts y e =
      let a = bind_some (child_at s ts) (λ n. items_at T child_at steps is n.1 >>= λ f. Some (node n.0.0 n.0.1 f.0, f.1)) y e in
      let n = a.0 in
      let b = bind_some (items_at T child_at steps is n.1) (λ f. Some (node n.0.0 n.0.1 f.0, f.1)) y a.2 in
      let f = b.0 in
      let p = cs s ts n a.1 in
      let r = items_sound child_at steps cs ss is n.1 f b.1 in
      let spells = subst (λ (m : List Token). Spells T s n.0 m) r.text p.spells in
      subst (λ (z : Forest × List Token). Took T d (Node s ∷ is) ts z) (some_is (node n.0.0 n.0.1 f.0, f.1) y b.2)
      (record {
        walks = child spells.0 spells.1 r.walks;
        text = p.text ∙ ap (λ (m : List Token). leaves n.0.1 ++ m) r.text ∙ sym (append_assoc (leaves n.0.1) (leaves f.0) f.1);
        low = let a1 = p.low in let a2 = r.low in omega arith;
      })
  items_sound child_at steps cs ss (Part g ∷ is) ts y e =
      let a = bind_some (steps (T.parts g ts) ts) (λ h. items_at T child_at steps is h.1 >>= λ f. Some (h.0 +++ f.0, f.1)) y e in
      let h = a.0 in
      let b = bind_some (items_at T child_at steps is h.1) (λ f. Some (h.0 +++ f.0, f.1)) y a.2 in
      subst (λ (z : Forest × List Token). Took T d (Part g ∷ is) ts z) (some_is (h.0 +++ b.0.0, b.0.1) y b.2)
      (after_part g is ts h b.0 (ss (T.parts g ts) ts h a.1) (items_sound child_at steps cs ss is h.1 b.0 b.1))
  items_sound child_at steps cs ss (Repeats g ∷ is) ts y e =
      let a = bind_some (repeats_at T steps (length ts) g ts) (λ h. items_at T child_at steps is h.1 >>= λ f. Some (h.0 +++ f.0, f.1)) y e in
      let h = a.0 in
      let b = bind_some (items_at T child_at steps is h.1) (λ f. Some (h.0 +++ f.0, f.1)) y a.2 in
      let p = repeats_sound steps ss (length ts) g ts h a.1 in
      let r = items_sound child_at steps cs ss is h.1 b.0 b.1 in
      subst (λ (z : Forest × List Token). Took T d (Repeats g ∷ is) ts z) (some_is (h.0 +++ b.0.0, b.0.1) y b.2)
      (record { walks = p.before is b.0.0 b.0.1 r.text r.walks; text = two_texts h.0 b.0.0 ts h.1 b.0.1 p.text r.text; low = low_both h.0 b.0.0 d p.low r.low })
  items_sound child_at steps cs ss (Span ∷ is) ts y e =
      let a = bind_some (run_at (T.span ts) ts) (λ h. items_at T child_at steps is h.1 >>= λ f. Some (h.0 +++ f.0, f.1)) y e in
      let h = a.0 in
      let b = bind_some (items_at T child_at steps is h.1) (λ f. Some (h.0 +++ f.0, f.1)) y a.2 in
      let p = run_sound (T.span ts) ts h a.1 in
      let r = items_sound child_at steps cs ss is h.1 b.0 b.1 in
      let whole : ts ≡ leaves h.0 ++ (leaves b.0.0 ++ b.0.1) = p.text ∙ ap (λ (m : List Token). leaves h.0 ++ m) r.text in
      let low1 = p.low in
      subst (λ (z : Forest × List Token). Took T d (Span ∷ is) ts z) (some_is (h.0 +++ b.0.0, b.0.1) y b.2)
      (record {
        walks = span h.0 p.flat (ap T.span (sym whole) ∙ p.many) r.walks;
        text =
            two_texts h.0 b.0.0 ts h.1 b.0.1 p.text r.text;
        low = low_both h.0 b.0.0 d (omega arith) r.low;
      })

  pub walk_sound : (child_at : Sort → List Token → Read Tree) → ChildSound T d child_at → (k : ℕ) → StepsSound T d (walk T child_at k)
  walk_sound child_at cs zero = items_sound child_at (λ _ _. None) cs (λ is ts y e. absurd cc)
  walk_sound child_at cs (suc k) = items_sound child_at (walk T child_at k) cs (walk_sound child_at cs k)

-- a node so far, with the text that it and what comes stand for
record Growing (T : Tables) (d : ℕ) (s : Sort) (ts : List Token) (t : Tree) (rest : List Token) : Type 0 where
  grows : Grows T s t.0 t.1 rest
  text : ts ≡ leaves t.1 ++ rest
  low : depth t.1 < d

module _ (T : Tables) (d : ℕ) (steps : Steps) (sound : StepsSound T d steps) (s : Sort) (ts : List Token) where
  grown_sound : (more : Tree → List Token → Read Tree)
      → ((t : Tree) (rest : List Token) (y : Tree × List Token) → Growing T (suc d) s ts t rest → more t rest ≡ Some y
      → TookNode T (suc d) s ts y) → (t : Tree) (o : Option Form) (rest : List Token) (y : Tree × List Token)
      → Growing T (suc d) s ts t rest → T.tail s t rest ≡ o → grown steps more (suc d) t o rest ≡ Some y
      → TookNode T (suc d) s ts y
  grown_sound more ih t None rest y g p e =
      subst (λ (z : Tree × List Token). TookNode T (suc d) s ts z) (some_is (t, rest) y e) (record { spells = (g.grows, p); text = g.text; low = g.low })
  grown_sound more ih t (Some form) rest y g p e =
      let q = given_some (nat_lt (depth t.1 + 1) (suc d)) (steps form.1 rest >>= λ f. more (form.0, node t.0 t.1 f.0) f.1) y e in
      let b = bind_some (steps form.1 rest) (λ f. more (form.0, node t.0 t.1 f.0) f.1) y q.1 in
      let f = b.0 in
      let r = sound form.1 rest f b.1 in
      let short : depth t.1 + 1 < suc d = ltb-true _ _ q.0 in
      let lowf = r.low in
      ih (form.0, node t.0 t.1 f.0) f.1 y (record {
        grows = onward (subst (λ (m : List Token). Grows T s t.0 t.1 m) r.text g.grows) (ap (T.tail s t) (sym r.text) ∙ p) r.walks;
        text = g.text ∙ ap (λ (m : List Token). leaves t.1 ++ m) r.text ∙ sym (append_assoc (leaves t.1) (leaves f.0) f.1);
        low = omega arith;
      }) b.2

  grow_sound : (n : ℕ) (t : Tree) (rest : List Token) (y : Tree × List Token) → Growing T (suc d) s ts t rest → grow T steps (suc d) n s t rest ≡ Some y → TookNode T (suc d) s ts y
  grow_sound zero t rest y g e = grown_sound (λ _ _. None) (λ u r z h q. absurd cc) t (T.tail s t rest) rest y g refl e
  grow_sound (suc n) t rest y g e = grown_sound (grow T steps (suc d) n s) (grow_sound n) t (T.tail s t rest) rest y g refl e

  begin_sound : (o : Option Form) (y : Tree × List Token) → T.form s ts ≡ o → begin steps o ts ≡ Some y → Growing T (suc d) s ts y.0 y.1
  begin_sound None y p e = absurd cc
  begin_sound (Some form) y p e =
      let b = bind_some (steps form.1 ts) (λ c. Some ((form.0, c.0), c.1)) y e in
      let r = sound form.1 ts b.0 b.1 in
      let lowf = r.low in
      subst (λ (z : Tree × List Token). Growing T (suc d) s ts z.0 z.1) (some_is ((form.0, b.0.0), b.0.1) y b.2) (record {
        grows = head (ap (T.form s) (sym r.text) ∙ p) r.walks;
        text = r.text;
        low = omega arith;
      })

-- What is read is a node of the sort, no deeper than d, and the tokens are its text and the rest.
pub parse_sound : (T : Tables) (k d : ℕ) → ChildSound T d (parse T k d)
parse_sound T k zero s ts y e = absurd cc
parse_sound T k (suc d) s ts y e =
    let steps = walk T (parse T k d) k in
    let sound : StepsSound T d steps = walk_sound T d (parse T k d) (parse_sound T k d) k in
    let b = bind_some (begin steps (T.form s ts) ts) (λ t. grow T steps (suc d) (suc d) s t.0 t.1) y e in
    grow_sound T d steps sound s ts (suc d) b.0.0 b.0.1 y (begin_sound T d steps sound s ts (T.form s ts) b.0 refl b.1) b.2
