-- What is read doesn't depend on where tokens stand.
use Rattle.std.proofs.Common.{
  ◌≡◌,
  ℕ,
  zero,
  suc,
  ◌+◌,
  ◌-◌,
  ◌<◌,
  ◌≤◌,
  max,
  Bool,
  true,
  false,
  List,
  [],
  ◌∷◌,
  ◌++◌,
  length,
  take,
  drop,
  map,
  Option,
  Some,
  None,
  nat_lt,
  refl,
  sym,
  ap,
  ◌∙◌,
  subst,
  arith,
}
use Rattle.std.proofs.lemmas.List.{length-map}
use Rattle.php_tree.specs.declared.kind.NodeKind.{NodeKind}
use Rattle.php_tree.specs.declared.token.Token.{Token}
use Rattle.php_tree.specs.declared.version.Version.{Version}
use Rattle.php_tree.specs.Tree.{Forest, Tree, none, leaf, node, ◌+++◌, depth, leaves}
use Rattle.php_terminals.specs.declared.terminal.Terminal.{Terminal}
use Rattle.php_terminals.specs.Marked.{placeless, all_placeless}
use Rattle.php_forms.specs.declared.item.Sort.{Sort}
use Rattle.php_forms.specs.declared.item.Group.{Group}
use Rattle.php_forms.specs.declared.item.Item.{Item}
use Rattle.php_forms.specs.declared.item.Item.TheVariants.{Word, Node, Part, Repeats, Span}
use Rattle.php_forms.specs.Grammar.{Form}
use Rattle.php_grammar.specs.Tables.{php}
use Rattle.php_grammar.proofs.Placeless.{forest_placeless, tree_placeless, accepts_p, form_p, parts_p, spanned_p, tail_p}
use Rattle.php_exprs.specs.Parsing.{◌>>=◌, given, Read, Steps, repeat_at, repeats_at, run_at, items_at, walk, grown, grow, begin, parse}

abbrev forest_read : Read Forest → Read Forest
forest_read None = None
forest_read (Some y) = Some (forest_placeless y.0, all_placeless y.1)

abbrev pub tree_read : Read Tree → Read Tree
tree_read None = None
tree_read (Some y) = Some (tree_placeless y.0, all_placeless y.1)

append_p : (f g : Forest) → forest_placeless (f +++ g) ≡ forest_placeless f +++ forest_placeless g
append_p none g = refl
append_p (leaf t f) g = ap (leaf (placeless t)) (append_p f g)
append_p (node k c f) g = ap (node k (forest_placeless c)) (append_p f g)

depth_p : (f : Forest) → depth (forest_placeless f) ≡ depth f
depth_p none = refl
depth_p (leaf t f) = depth_p f
depth_p (node k c f) = rw (depth_p c, depth_p f) refl

abbrev some : Forest → List Token → Read Forest
some f ts = Some (f, ts)

-- what was read, and a step behind it
joins : (h : Forest) (r : Read Forest) → (forest_read r >>= λ f. Some (forest_placeless h +++ f.0, f.1)) ≡ forest_read (r >>= λ f. Some (h +++ f.0, f.1))
joins h None = refl
joins h (Some y) = ap (λ (f : Forest). some f (all_placeless y.1)) (sym (append_p h y.0))

leads : (t : Token) (r : Read Forest) → (forest_read r >>= λ f. Some (leaf (placeless t) f.0, f.1)) ≡ forest_read (r >>= λ f. Some (leaf t f.0, f.1))
leads t None = refl
leads t (Some y) = refl

nodes : (x : Tree) (r : Read Forest) → (forest_read r >>= λ f. Some (node x.0 (forest_placeless x.1) f.0, f.1)) ≡ forest_read (r >>= λ f. Some (node x.0 x.1 f.0, f.1))
nodes x None = refl
nodes x (Some y) = refl

gives : (b : Bool) (r : Read Forest) → given b (forest_read r) ≡ forest_read (given b r)
gives true r = refl
gives false r = refl

run_p : (n : ℕ) (ts : List Token) → run_at n (all_placeless ts) ≡ forest_read (run_at n ts)
run_p zero ts = refl
run_p (suc n) [] = refl
run_p (suc n) (t ∷ ts) = rw (run_p n ts) (leads t (run_at n ts))

abbrev Blind : Steps → Type 0
Blind steps = (is : List Item) (ts : List Token) → steps is (all_placeless ts) ≡ forest_read (steps is ts)

abbrev BlindChild : (Sort → List Token → Read Tree) → Type 0
BlindChild child = (s : Sort) (ts : List Token) → child s (all_placeless ts) ≡ tree_read (child s ts)

abbrev BlindMore : (List Token → Read Forest) → Type 0
BlindMore more = (ts : List Token) → more (all_placeless ts) ≡ forest_read (more ts)

module _ (v : Version) where
  repeat_then : (more : List Token → Read Forest) → BlindMore more → (ts : List Token) (r : Read Forest)
      → (forest_read r >>= λ h. given (nat_lt (length h.1) (length (all_placeless ts))) (more h.1) >>= λ f. Some
      (h.0 +++ f.0, f.1)) ≡ forest_read (r >>= λ h. given (nat_lt (length h.1) (length ts)) (more h.1) >>= λ f. Some
      (h.0 +++ f.0, f.1))
  repeat_then more blind ts None = refl
  repeat_then more blind ts (Some h) =
      rw (
        length-map h.1 placeless,
        length-map ts placeless,
        blind h.1,
        gives (nat_lt (length h.1) (length ts)) (more h.1),
      )
      (joins h.0 (given (nat_lt (length h.1) (length ts)) (more h.1)))

  repeat_p : (steps : Steps) (more : List Token → Read Forest) → Blind steps → BlindMore more
      → (is : List Item) (ts : List Token) → repeat_at steps more is (all_placeless ts) ≡ forest_read
      (repeat_at steps more is ts)
  repeat_p steps more bs bm [] ts = refl
  repeat_p steps more bs bm (i ∷ is) ts = rw (bs (i ∷ is) ts) (repeat_then more bm ts (steps (i ∷ is) ts))

  repeats_p : (steps : Steps) → Blind steps → (n : ℕ) (g : Group) (ts : List Token) → repeats_at (php v) steps n g (all_placeless ts) ≡ forest_read (repeats_at (php v) steps n g ts)
  repeats_p steps bs zero g ts = ap (λ (is : List Item). repeat_at steps (λ _. None) is (all_placeless ts))
      (parts_p v g ts) ∙ repeat_p steps (λ _. None) bs (λ us. refl) ((php v).parts g ts) ts
  repeats_p steps bs (suc n) g ts = ap (λ (is : List Item). repeat_at steps (repeats_at (php v) steps n g) is
      (all_placeless ts)) (parts_p v g ts) ∙ repeat_p steps (repeats_at (php v) steps n g) bs (repeats_p steps bs n g)
      ((php v).parts g ts) ts

  -- a step, and the items behind it
  behind_step : (more : Steps) (is : List Item)
      → ((us : List Token) → more is (all_placeless us) ≡ forest_read (more is us)) → (r : Read Forest)
      → (forest_read r >>= λ h. more is h.1 >>= λ f. Some (h.0 +++ f.0, f.1)) ≡ forest_read
      (r >>= λ h. more is h.1 >>= λ f. Some (h.0 +++ f.0, f.1))
  behind_step more is bm None = refl
  behind_step more is bm (Some h) = rw (bm h.1) (joins h.0 (more is h.1))

  behind_child : (more : Steps) (is : List Item)
      → ((us : List Token) → more is (all_placeless us) ≡ forest_read (more is us)) → (r : Read Tree)
      → (tree_read r >>= λ n. more is n.1 >>= λ f. Some (node n.0.0 n.0.1 f.0, f.1)) ≡ forest_read
      (r >>= λ n. more is n.1 >>= λ f. Some (node n.0.0 n.0.1 f.0, f.1))
  behind_child more is bm None = refl
  behind_child more is bm (Some n) = rw (bm n.1) (nodes n.0 (more is n.1))

  items_p : (child : Sort → List Token → Read Tree) (steps : Steps) → BlindChild child → Blind steps → Blind (items_at (php v) child steps)
  items_p child steps bc bs [] ts = refl
  items_p child steps bc bs (Word c ∷ is) [] = refl
  items_p child steps bc bs (Word c ∷ is) (t ∷ ts) =
      rw (accepts_p v c t, items_p child steps bc bs is ts, leads t (items_at (php v) child steps is ts))
      (gives ((php v).accepts c t) (items_at (php v) child steps is ts >>= λ f. Some (leaf t f.0, f.1)))
  items_p child steps bc bs (Node s ∷ is) ts = rw (bc s ts) (behind_child (items_at (php v) child steps) is (λ us. items_p child steps bc bs is us) (child s ts))
  items_p child steps bc bs (Part g ∷ is) ts =
      ap (λ (js : List Item). steps js (all_placeless ts) >>= λ h. items_at (php v) child steps is h.1 >>= λ f. Some (h.0 +++ f.0, f.1)) (parts_p v g ts)
      ∙ rw (bs ((php v).parts g ts) ts) (behind_step (items_at (php v) child steps) is (λ us. items_p child steps bc bs is us) (steps ((php v).parts g ts) ts))
  items_p child steps bc bs (Repeats g ∷ is) ts =
      rw (length-map ts placeless, repeats_p steps bs (length ts) g ts)
      (behind_step (items_at (php v) child steps) is (λ us. items_p child steps bc bs is us)
      (repeats_at (php v) steps (length ts) g ts))
  items_p child steps bc bs (Span ∷ is) ts =
      rw (spanned_p 0 ts, run_p ((php v).span ts) ts) (behind_step (items_at (php v) child steps) is (λ us. items_p child steps bc bs is us) (run_at ((php v).span ts) ts))

  walk_p : (child : Sort → List Token → Read Tree) → BlindChild child → (n : ℕ) → Blind (walk (php v) child n)
  walk_p child bc zero is ts = items_p child (λ _ _. None) bc (λ js us. refl) is ts
  walk_p child bc (suc n) is ts = items_p child (walk (php v) child n) bc (walk_p child bc n) is ts

  abbrev BlindGrow : (Tree → List Token → Read Tree) → Type 0
  BlindGrow more = (x : Tree) (ts : List Token) → more (tree_placeless x) (all_placeless ts) ≡ tree_read (more x ts)

  gives_tree : (b : Bool) (r : Read Tree) → given b (tree_read r) ≡ tree_read (given b r)
  gives_tree true r = refl
  gives_tree false r = refl

  behind_parts : (more : Tree → List Token → Read Tree) → BlindGrow more → (k : NodeKind) (x : Tree) (r : Read Forest)
      → (forest_read r >>= λ f. more (k, node x.0 (forest_placeless x.1) f.0) f.1) ≡ tree_read
      (r >>= λ f. more (k, node x.0 x.1 f.0) f.1)
  behind_parts more bm k x None = refl
  behind_parts more bm k x (Some f) = bm (k, node x.0 x.1 f.0) f.1

  grown_p : (steps : Steps) (more : Tree → List Token → Read Tree) → Blind steps → BlindGrow more
      → (d : ℕ) (x : Tree) (o : Option Form) (ts : List Token)
      → grown steps more d (tree_placeless x) o (all_placeless ts) ≡ tree_read (grown steps more d x o ts)
  grown_p steps more bs bm d x None ts = refl
  grown_p steps more bs bm d x (Some form) ts =
      rw (depth_p x.1, bs form.1 ts, behind_parts more bm form.0 x (steps form.1 ts))
      (gives_tree (nat_lt (depth x.1 + 1) d) (steps form.1 ts >>= λ f. more (form.0, node x.0 x.1 f.0) f.1))

  grow_p : (steps : Steps) → Blind steps → (d n : ℕ) (s : Sort) → BlindGrow (grow (php v) steps d n s)
  grow_p steps bs d zero s x ts = ap (λ (o : Option Form). grown steps (λ _ _. None) d (tree_placeless x) o
      (all_placeless ts)) (tail_p v s x ts) ∙ grown_p steps (λ _ _. None) bs (λ y us. refl) d x ((php v).tail s x ts)
      ts
  grow_p steps bs d (suc n) s x ts = ap (λ (o : Option Form). grown steps (grow (php v) steps d n s) d
      (tree_placeless x) o (all_placeless ts)) (tail_p v s x ts)
      ∙ grown_p steps (grow (php v) steps d n s) bs (grow_p steps bs d n s) d x ((php v).tail s x ts) ts

  begin_p : (steps : Steps) → Blind steps → (o : Option Form) (ts : List Token) → begin steps o (all_placeless ts) ≡ tree_read (begin steps o ts)
  begin_p steps bs None ts = refl
  begin_p steps bs (Some form) ts = rw (bs form.1 ts) (kinds form.0 (steps form.1 ts))
    where
      kinds : (k : NodeKind) (r : Read Forest) → (forest_read r >>= λ c. Some ((k, c.0), c.1)) ≡ tree_read (r >>= λ c. Some ((k, c.0), c.1))
      kinds k None = refl
      kinds k (Some y) = refl

  behind_begin : (more : Tree → List Token → Read Tree) → BlindGrow more → (r : Read Tree) → (tree_read r >>= λ t. more t.0 t.1) ≡ tree_read (r >>= λ t. more t.0 t.1)
  behind_begin more bm None = refl
  behind_begin more bm (Some t) = bm t.0 t.1

  pub parse_p : (k d : ℕ) (s : Sort) (ts : List Token) → parse (php v) k d s (all_placeless ts) ≡ tree_read (parse (php v) k d s ts)
  parse_p k zero s ts = refl
  parse_p k (suc d) s ts =
      let steps : Steps = walk (php v) (parse (php v) k d) k in
      let blind : Blind steps = walk_p (parse (php v) k d) (parse_p k d) k in
      let more : Tree → List Token → Read Tree = λ t us. grow (php v) steps (suc d) (suc d) s t us in
      ap (λ (o : Option Form). begin steps o (all_placeless ts) >>= λ t. more t.0 t.1) (form_p v s ts)
      ∙ ap (λ (r : Read Tree). r >>= λ t. more t.0 t.1) (begin_p steps blind ((php v).form s ts) ts)
      ∙ behind_begin more (grow_p steps blind (suc d) (suc d) s) (begin steps ((php v).form s ts) ts)
