-- Two runs in one version that do the same but for what they tell of themselves, wherever the first stays inside.
use Rattle.std.specs.Prelude.{◌≡◌, ℕ, zero, suc, ◌+◌, List, [], ◌∷◌, ◌++◌, Bool, true, false, ◌&&◌, nat_eq, nat_lt, cond, refl, Option, Some, None}
use Rattle.std.specs.Str.{bytes_eq}
use Rattle.std.proofs.Common.{ap, sym, ◌∙◌, subst, arith}
use Rattle.std.proofs.lemmas.Slice.Eq.{bytes_eq-Decides}
use Rattle.php_tree.specs.declared.token.TokenKind.TheVariants as token
use Rattle.php_tree.specs.declared.token.Token.{Token}
use Rattle.php_tree.specs.declared.kind.NodeKind.{NodeKind}
use Rattle.php_tree.specs.Tree.{Forest, none, leaf, node, count}
use Rattle.scope_names.specs.Slot.{Declared}
use Rattle.scope_names.specs.Form.{Form, Part, word, child, joins, part_of, part_before, bits, parts, form, kids}
use Rattle.scope_names.specs.Sites.{Site, file_site, is_declaration, declarations, one_if, within, beside}
use Rattle.php_meaning.specs.names.Tables.{Tables, tables_of}
use Rattle.php_meaning.specs.Cause.{Cause, NoRule, Call}
use Rattle.php_meaning.specs.runs.World.{Store, Bytes, Place, Going, Outside, Before, World}
use Rattle.php_meaning.specs.runs.Script.{
  Return,
  Throw,
  Break,
  Continue,
  Out,
  Val,
  Fresh,
  At,
  Jump,
  Mode,
  Target,
  Kid,
  Again,
  There,
  File,
  Script,
  Give,
  Stop,
  Finish,
  Look,
  Put,
  Echo,
  Turn,
  Ask,
  Run,
}
use Rattle.php_meaning.specs.Rules.{rule, file_script}
use Rattle.php_meaning.specs.runs.Kinds.{is_statement}
use Rattle.php_meaning.specs.runs.Input.{Input}
use Rattle.php_meaning.specs.runs.Run.{
  begun,
  Program,
  Mark,
  file_at,
  is_stopped,
  is_refused,
  Result,
  Done,
  Over,
  then_do,
  with_turn,
  play,
  Entry,
  FileStart,
  DeclarationStart,
  place_in,
  place_of_file,
  told,
  left,
  starting,
  unless_stopped,
  going,
  repeated,
  passes,
  at_node,
  step,
  run_file,
  declared_in,
  run_declared,
  unless_refused,
  start,
  value_count,
  place_of_entry,
  enter,
  first_world,
  end_of_file,
  answer,
  and_start,
  start_all,
  run_of,
}
use Rattle.php_meaning.specs.laws.Laws.{IsInside, SameRun}
use Rattle.php_meaning.specs.laws.Following.{Same, Follows, Alike}
use Rattle.php_meaning.specs.laws.SameScripts.{HasScriptsOf, nothing, token_before, token_behind, same, replaced, kept, wrapped, HaveScriptsOf, no_more, one_more, DeclareAlike}

then_follows : (r q : Result) (k l : Out → World → Result) → Follows r q → ((o : Out) → Alike (k o) (l o)) → Follows (then_do r k) (then_do q l)
then_follows (Done o w) (Done p u) k l f h = subst (λ x. Follows (k o w) (l x u)) (sym f.0) ((h o).follows w u f.1)
then_follows (Done o w) (Over e u) k l f h = absurd f
then_follows (Over e w) (Done p u) k l f h = λ i. absurd (f i)
then_follows (Over e w) (Over d u) k l f h = f

turn_follows : (w u : World) (n m : ℕ) (k l : World → Result) → m ≡ n → Same w u → Alike k l → Follows (with_turn w n k) (with_turn u m l)
turn_follows w u zero m k l e s h = subst (λ x. Follows (Over Going w) (with_turn u x l)) (sym e) (λ i. (refl, s))
turn_follows w u (suc n) m k l e s h =
    subst (λ x. Follows (k (record w { turns = n })) (with_turn u x l)) (sym e)
    (h.follows (record w { turns = n }) (record u { turns = n }) (record { store = s.store; echo = s.echo; turns = refl }))

module _ (v : Bool) (here there : Place) (go to : Target → World → Result) (h : (x : Target) → Alike (go x) (to x)) where
  play_follows : (s : Script) (w u : World) → Same w u → Follows (play v here go s w) (play v there to s u)
  play_follows (Give o) w u s = (refl, s)
  play_follows (Stop c) w u s = λ i. absurd i
  play_follows (Finish status) w u s = λ i. (refl, s)
  play_follows (Look k) w u s =
      subst (λ st. Follows (play v here go (k w.store) w) (play v there to (k st) u)) (sym s.store) (play_follows (k w.store) w u s)
  play_follows (Put st k) w u s =
      play_follows k (record w { store = st }) (record u { store = st }) (record { store = refl; echo = s.echo; turns = s.turns })
  play_follows (Echo bytes k) w u s =
      play_follows k (record w { echo = w.echo ++ bytes }) (record u { echo = u.echo ++ bytes })
      (record { store = s.store; echo = ap (λ e. e ++ bytes) s.echo; turns = s.turns })
  play_follows (Turn k) w u s =
      turn_follows w u w.turns u.turns (play v here go k) (play v there to k) s.turns s (record { follows = λ a b t. play_follows k a b t })
  play_follows (Ask point k) w u s =
      play_follows (k v) (record w { asked = record { place = here; point = point } ∷ w.asked }) (record u { asked = record { place = there; point = point } ∷ u.asked })
      (record { store = s.store; echo = s.echo; turns = s.turns })
  play_follows (Run x k) w u s =
      then_follows (go x w) (to x u) (λ o a. play v here go (k o) a) (λ o a. play v there to (k o) a) ((h x).follows w u s)
      (λ o. record { follows = λ a b t. play_follows (k o) a b t })

left_follows : (s : Site) (id jd : ℕ) (m n : Mode) (r q : Result) → Follows r q → Follows (left s id m r) (left s jd n q)
left_follows s id jd m n (Done o w) (Done p u) f = (f.0, record { store = f.1.store; echo = f.1.echo; turns = f.1.turns })
left_follows s id jd m n (Done o w) (Over e u) f = absurd f
left_follows s id jd m n (Over e w) (Done p u) f = f
left_follows s id jd m n (Over e w) (Over d u) f = f

-- a node that hands on what stands in it
handed_follows : (s : Site) (jd : ℕ) (m : Mode) (r q : Result) → Follows r q → Follows r (left s jd m (then_do q (λ o u. Done o u)))
handed_follows s jd m (Done o w) (Done p u) f = (f.0, record { store = f.1.store; echo = f.1.echo; turns = f.1.turns })
handed_follows s jd m (Done o w) (Over e u) f = absurd f
handed_follows s jd m (Over e w) (Done p u) f = λ i. absurd (f i)
handed_follows s jd m (Over e w) (Over d u) f = f

stopped_follows : (b : Bool) (here : Place) (w : World) (r q : Result) → Follows r q → Follows (unless_stopped b here w r) q
stopped_follows true here w r q f = λ i. absurd i
stopped_follows false here w r q f = f

refused_follows : (b : Bool) (path : Bytes) (w : World) (r q : Result) → Follows r q → Follows (unless_refused b path w r) q
refused_follows true path w r q f = λ i. absurd i
refused_follows false path w r q f = f

starting_follows : (a b : Bool) (w u : World) (k l : World → Result) → b ≡ a → Same w u → Alike k l → Follows (starting a w k) (starting b u l)
starting_follows true b w u k l e s h =
    subst (λ x. Follows (starting true w k) (starting x u l)) (sym e) (turn_follows w u w.turns u.turns k l s.turns s h)
starting_follows false b w u k l e s h =
    subst (λ x. Follows (starting false w k) (starting x u l)) (sym e) (h.follows w u s)

either_alike : (a b : Bool) (f g l j : World → Result) → b ≡ a → Alike f l → Alike g j
    → Alike (λ w. elim a [ true ↦ f w | false ↦ g w ]) (λ w. elim b [ true ↦ l w | false ↦ j w ])
either_alike a b f g l j e p q =
    subst (λ x. Alike (λ w. elim a [ true ↦ f w | false ↦ g w ]) (λ w. elim x [ true ↦ l w | false ↦ j w ])) (sym e) (both a)
  where
    both : (x : Bool) → Alike (λ w. elim x [ true ↦ f w | false ↦ g w ]) (λ w. elim x [ true ↦ l w | false ↦ j w ])
    both true = p
    both false = q

over_alike : (here there : Place) (c d : Cause) → Alike (λ w. Over (Outside here c) w) (λ w. Over (Outside there d) w)
over_alike here there c d = record { follows = λ w u s i. absurd i }

-- what runs itself again
module _ {A : Type 0} (free : ℕ) (out off : A → World → Result) (h' : (a : A) → Alike (out a) (off a)) (f l : (A → World → Result) → A → World → Result)
    (h : (x y : A → World → Result) → ((a : A) → Alike (x a) (y a)) → (a : A) → Alike (f x a) (l y a)) where
  repeated_alike : (n left : ℕ) (a : A) → Alike (repeated free out f n left a) (repeated free off l n left a)
  repeated_alike zero zero a = h' a
  repeated_alike zero (suc left) a = h _ _ (repeated_alike zero left) a
  repeated_alike (suc n) zero a = record {
    follows = λ w u s.
        (either_alike (nat_lt w.turns (suc n)) (nat_lt u.turns (suc n)) _ _ _ _ (ap (λ x. nat_lt x (suc n)) s.turns)
        (h _ _ (repeated_alike n free) a) (h' a)).follows w u s;
  }
  repeated_alike (suc n) (suc left) a = record {
    follows = λ w u s.
        (either_alike (nat_lt w.turns (suc n)) (nat_lt u.turns (suc n)) _ _ _ _ (ap (λ x. nat_lt x (suc n)) s.turns)
        (h _ _ (repeated_alike n free) a) (h _ _ (repeated_alike (suc n) left) a)).follows w u s;
  }

-- neither node is the declaration that is looked for
neither_alike : (a b p q : Bool) (f g l j : World → Result) → a ≡ false → b ≡ false → Alike g j
    → Alike (λ w. elim (a && p) [ true ↦ f w | false ↦ g w ]) (λ w. elim (b && q) [ true ↦ l w | false ↦ j w ])
neither_alike true b p q f g l j e d h = absurd (let x : true ≡ false = e in cc)
neither_alike false true p q f g l j e d h = absurd (let x : true ≡ false = d in cc)
neither_alike false false p q f g l j e d h = h

-- ---- nodes with the same scripts

pub kids_behind : (t : Token) (ps : List Part) → kids (bits (part_before t ps)) ≡ kids (bits ps)
kids_behind t [] = refl
kids_behind t (word false k v ∷ ps) = refl
kids_behind t (child ∷ ps) = refl
kids_behind t (word true k v ∷ ps) =
    elim (joins t v) as (λ b. kids (bits (cond b (word true token.Name (t.text ++ v) ∷ ps) (part_of t ∷ word true k v ∷ ps))) ≡ kids (bits ps))
    [ true ↦ refl | false ↦ refl ]

pub children_same : {t t' : Tables} {s : Site} {f g : Forest} → HasScriptsOf t t' s f g → kids (form g) ≡ kids (form f)
children_same nothing = refl
children_same (token_before {u} {f} {g} d) = children_same d ∙ sym (kids_behind u (parts f))
children_same (token_behind {u} {f} {g} d) = kids_behind u (parts g) ∙ children_same d
children_same (same h d e) = ap suc (children_same e)
children_same (replaced h e) = ap suc (children_same e)
children_same (kept h e) = ap suc (children_same e)
children_same (wrapped h d e) = ap suc (children_same e)

pub no_sum : (a b : ℕ) → a + b ≡ zero → (a ≡ zero) × (b ≡ zero)
no_sum a b e = (let x : a ≡ zero = omega (arith, e) in x, let y : b ≡ zero = omega (arith, e) in y)

-- a node that is no declaration and holds none
no_declaration : (b : Bool) (n : ℕ) → one_if b n ≡ zero → (b ≡ false) × (n ≡ zero)
no_declaration true n e = absurd (let f : ⊥ = omega (arith, e) in f)
no_declaration false n e = (refl, e)

-- where nothing is declared, nothing is found
pub none_found : (v : Bool) (t : Tables) (ms : List Mark) (go : Entry → World → Result) (s : Site) (f : Forest)
    → declarations f ≡ zero → (id n : ℕ) (m : Mode) (x : World → Result) (w : World)
    → declared_in v t ms go s f id n m x w ≡ x w
none_found v t ms go s none e id n m x w = refl
none_found v t ms go s (leaf a f) e id n m x w = none_found v t ms go s f e id n m x w
none_found v t ms go s (node k c f) e id n m x w =
    let both : (one_if (is_declaration k) (declarations c) ≡ zero) × (declarations f ≡ zero) = no_sum (one_if (is_declaration k) (declarations c)) (declarations f) e in
    let inner : (is_declaration k ≡ false) × (declarations c ≡ zero) = no_declaration (is_declaration k) (declarations c) both.0 in
    subst (λ b. elim (b && nat_eq s.number n) as (λ y. Result) [
      | true ↦ at_node v t go s k c id (step v t ms go (within k c s) c (suc id)) m w
      | false ↦ declared_in v t ms go (within k c s) c (suc id) n m (λ u. declared_in v t ms go (beside k c s) f (suc (id + count c)) n m x u) w
    ] ≡ x w) (sym inner.0)
    (none_found v t ms go (within k c s) c inner.1 (suc id) n m (λ u. declared_in v t ms go (beside k c s) f (suc (id + count c)) n m x u) w
    ∙ none_found v t ms go (beside k c s) f both.1 (suc (id + count c)) n m x w)

-- a node that is no declaration and holds none is passed over
pub passed : (v : Bool) (t : Tables) (ms : List Mark) (go : Entry → World → Result) (s : Site) (k : NodeKind) (c f : Forest) → is_declaration k ≡ false → declarations c ≡ zero
    → (id n : ℕ) (m : Mode) (x : World → Result) (w : World)
    → declared_in v t ms go s (node k c f) id n m x w ≡ declared_in v t ms go (beside k c s) f (suc (id + count c)) n m x w
passed v t ms go s k c f e z id n m x w =
    subst (λ b. elim (b && nat_eq s.number n) as (λ y. Result) [
      | true ↦ at_node v t go s k c id (step v t ms go (within k c s) c (suc id)) m w
      | false ↦ declared_in v t ms go (within k c s) c (suc id) n m (λ u. declared_in v t ms go (beside k c s) f (suc (id + count c)) n m x u) w
    ] ≡ declared_in v t ms go (beside k c s) f (suc (id + count c)) n m x w) (sym e)
    (none_found v t ms go (within k c s) c z (suc id) n m (λ u. declared_in v t ms go (beside k c s) f (suc (id + count c)) n m x u) w)

module _ (v : Bool) (t t' : Tables) (early : (path : Bytes) (n : ℕ) → file_script t' path n ≡ file_script t path n)
    (marks : List Mark) (lower low : Entry → World → Result) (h : (e : Entry) → Alike (lower e) (low e)) where
  going_alike : (kid lid : ℕ → Mode → World → Result) → ((i : ℕ) (m : Mode) → Alike (kid i m) (lid i m))
      → (again anew : Mode → World → Result) → ((m : Mode) → Alike (again m) (anew m))
      → (x : Target) → Alike (going lower kid again x) (going low lid anew x)
  going_alike kid lid g again anew a (Kid i m) = g i m
  going_alike kid lid g again anew a (Again m) = a m
  going_alike kid lid g again anew a (There b m) = h (DeclarationStart b m)
  going_alike kid lid g again anew a (File path) = h (FileStart path)

  -- a script and the same one by other words
  script_follows : (here there : Place) (go to : Target → World → Result) → ((x : Target) → Alike (go x) (to x))
      → (a b : Script) → b ≡ a → (w u : World) → Same w u → Follows (play v here go a w) (play v there to b u)
  script_follows here there go to g a b e w u s = subst (λ x. Follows (play v here go a w) (play v there to x u)) (sym e) (play_follows v here there go to g a w u s)

  node_alike : (s : Site) (k j : NodeKind) (c d : Forest) (id jd : ℕ) (kid lid : ℕ → Mode → World → Result)
      → ((m : Mode) → rule t' s j m (form d) ≡ rule t s k m (form c))
      → ((i : ℕ) (m : Mode) → Alike (kid i m) (lid i m))
      → (m : Mode) → Alike (at_node v t lower s k c id kid m) (at_node v t' low s j d jd lid m)
  node_alike s k j c d id jd kid lid e g m =
      let pass : (Mode → World → Result) → Mode → World → Result =
      λ again n a. play v (place_in s id) (going lower kid again) (rule t s k n (form c)) a in
      let past : (Mode → World → Result) → Mode → World → Result =
      λ again n a. play v (place_in s jd) (going low lid again) (rule t' s j n (form d)) a in
      let one : (x y : Mode → World → Result) → ((i : Mode) → Alike (x i) (y i)) → (i : Mode) → Alike (pass x i) (past y i) =
      λ x y a i. record {
        follows = λ w u z. script_follows (place_in s id) (place_in s jd) (going lower kid x)
            (going low lid y) (going_alike kid lid g x y a) (rule t s k i (form c)) (rule t' s j i (form d)) (e i) w u z;
      } in
      let both : (n : ℕ) → Alike (pass (passes (place_in s id) pass n) m) (past (passes (place_in s jd) past n) m) =
      λ n. one _ _ (repeated_alike 1 _ _ (λ i. over_alike (place_in s id) (place_in s jd) NoRule NoRule) pass past one n 1) m in
      record {
        follows = λ w u z.
            subst (λ n. Follows (pass (passes (place_in s id) pass w.turns) m w) (past (passes (place_in s jd) past n) m u)) (sym z.turns)
            ((both w.turns).follows w u z);
      }

  -- a node without a rule is outside, whatever stands in its place
  no_rule_follows : (a stop : Bool) (s : Site) (id : ℕ) (m : Mode) (n : World → Result) (w : World) (q : Result)
      → a ≡ false → ((u : World) → n u ≡ Over (Outside (place_in s id) NoRule) u)
      → Follows (starting a w (λ u. unless_stopped stop (place_in s id) u (left s id m (n (told s id Before None u))))) q
  no_rule_follows a stop s id m n w q e f =
      subst (λ x. Follows (starting x w (λ u. unless_stopped stop (place_in s id) u (left s id m (n (told s id Before None u))))) q)
      (sym e)
      (subst (λ x. Follows (unless_stopped stop (place_in s id) w (left s id m x)) q) (sym (f (told s id Before None w)))
      (is_outside stop))
    where
      is_outside : (b : Bool) → Follows (unless_stopped b (place_in s id) w (left s id m (Over (Outside (place_in s id) NoRule) (told s id Before None w)))) q
      is_outside true = λ i. absurd i
      is_outside false = λ i. absurd i

  step_follows : (s : Site) {f g : Forest} → HasScriptsOf t t' s f g → (id jd i : ℕ) (m : Mode) (w u : World)
      → Same w u → Follows (step v t marks lower s f id i m w) (step v t' [] low s g jd i m u)
  step_follows s nothing id jd i m w u e = λ x. absurd x
  step_follows s (token_before d) id jd i m w u e = step_follows s d id jd i m w u e
  step_follows s (token_behind d) id jd i m w u e = step_follows s d id jd i m w u e
  step_follows s (same {k} {j} {c} {d} {f} {g} r p q) id jd zero m w u e =
      starting_follows (is_statement k) (is_statement j) w u _ _ r.statement e (record {
        follows = λ a b z.
            stopped_follows (is_stopped marks s.file id) (place_in s id) a _ _
            (left_follows s id jd m m _ _
            ((node_alike s k j c d id jd (step v t marks lower (within k c s) c (suc id)) (step v t' [] low (within j d s) d (suc jd)) r.script
            (λ i n. subst (λ x. Alike (step v t marks lower (within k c s) c (suc id) i n) (step v t' [] low x d (suc jd) i n)) (sym r.within)
            (record { follows = λ x y y'. step_follows (within k c s) p (suc id) (suc jd) i n x y y' }))
            m).follows (told s id Before None a) (told s jd Before None b) (record { store = z.store; echo = z.echo; turns = z.turns })));
      })
  step_follows s (same {k} {j} {c} {d} {f} {g} r p q) id jd (suc i) m w u e =
      subst (λ x. Follows (step v t marks lower (beside k c s) f (suc (id + count c)) i m w) (step v t' [] low x g (suc (jd + count d)) i m u)) (sym r.beside)
      (step_follows (beside k c s) q (suc (id + count c)) (suc (jd + count d)) i m w u e)
  step_follows s (replaced {k} {j} {c} {d} {f} {g} r q) id jd zero m w u e =
      let kid : ℕ → Mode → World → Result = step v t marks lower (within k c s) c (suc id) in
      let pass : (Mode → World → Result) → Mode → World → Result =
      λ again n a. play v (place_in s id) (going lower kid again) (rule t s k n (form c)) a in
      no_rule_follows (is_statement k) (is_stopped marks s.file id) s id m (at_node v t lower s k c id kid m) w _ r.statement
      (λ a. ap (λ x. play v (place_in s id) (going lower kid (passes (place_in s id) pass a.turns)) x a) (r.script m))
  step_follows s (replaced {k} {j} {c} {d} {f} {g} r q) id jd (suc i) m w u e =
      subst (λ x. Follows (step v t marks lower (beside k c s) f (suc (id + count c)) i m w) (step v t' [] low x g (suc (jd + count d)) i m u)) (sym r.beside)
      (step_follows (beside k c s) q (suc (id + count c)) (suc (jd + count d)) i m w u e)
  step_follows s (kept {k} {j} {c} {d} {f} {g} r q) id jd zero m w u e = (r.node v marks lower low h id jd m).follows w u e
  step_follows s (kept {k} {j} {c} {d} {f} {g} r q) id jd (suc i) m w u e =
      subst (λ x. Follows (step v t marks lower (beside k c s) f (suc (id + count c)) i m w) (step v t' [] low x g (suc (jd + count d)) i m u)) (sym r.beside)
      (step_follows (beside k c s) q (suc (id + count c)) (suc (jd + count d)) i m w u e)
  step_follows s (wrapped {k} {j} {c} {d} {f} {g} r p q) id jd zero m w u e =
      handed_follows s jd m _ _ (step_follows s p id (suc jd) zero m w (told s jd Before None u) (record { store = e.store; echo = e.echo; turns = e.turns }))
  step_follows s (wrapped {k} {j} {c} {d} {f} {g} r p q) id jd (suc i) m w u e =
      subst (λ x. Follows (step v t marks lower (beside k c s) f (suc (id + count c)) i m w) (step v t' [] low x g (suc (jd + (suc (count d) + 0))) i m u)) r
      (step_follows (beside k c s) q (suc (id + count c)) (suc (jd + (suc (count d) + 0))) i m w u e)

  declared_alike : (s : Site) {f g : Forest} → HasScriptsOf t t' s f g → (id jd n : ℕ) (m : Mode) (x y : World → Result) → Alike x y
      → Alike (declared_in v t marks lower s f id n m x) (declared_in v t' [] low s g jd n m y)
  declared_alike s nothing id jd n m x y a = a
  declared_alike s (token_before d) id jd n m x y a = declared_alike s d id jd n m x y a
  declared_alike s (token_behind d) id jd n m x y a = declared_alike s d id jd n m x y a
  declared_alike s (same {k} {j} {c} {d} {f} {g} r p q) id jd n m x y a =
      either_alike (is_declaration k && nat_eq s.number n) (is_declaration j && nat_eq s.number n) _ _ _ _
      (ap (λ b. b && nat_eq s.number n) r.declaration)
      (node_alike s k j c d id jd (step v t marks lower (within k c s) c (suc id)) (step v t' [] low (within j d s) d (suc jd)) r.script
      (λ i o. subst (λ z. Alike (step v t marks lower (within k c s) c (suc id) i o) (step v t' [] low z d (suc jd) i o)) (sym r.within)
      (record { follows = λ w u z. step_follows (within k c s) p (suc id) (suc jd) i o w u z })) m)
      (subst (λ z. Alike (declared_in v t marks lower (within k c s) c (suc id) n m
      (λ w. declared_in v t marks lower (beside k c s) f (suc (id + count c)) n m x w))
      (declared_in v t' [] low z d (suc jd) n m
      (λ w. declared_in v t' [] low (beside j d s) g (suc (jd + count d)) n m y w))) (sym r.within)
      (declared_alike (within k c s) p (suc id) (suc jd) n m _ _
      (subst (λ z. Alike (declared_in v t marks lower (beside k c s) f (suc (id + count c)) n m x) (declared_in v t' [] low z g (suc (jd + count d)) n m y)) (sym r.beside)
      (declared_alike (beside k c s) q (suc (id + count c)) (suc (jd + count d)) n m x y a))))
  declared_alike s (replaced {k} {j} {c} {d} {f} {g} r q) id jd n m x y a = record {
    follows = λ w u z.
        subst (λ p. Follows p (declared_in v t' [] low s (node j d g) jd n m y u)) (sym (passed v t marks lower s k c f r.declaration r.none_inside id n m x w))
        (subst (λ p. Follows (declared_in v t marks lower (beside k c s) f (suc (id + count c)) n m x w) p)
        (sym (passed v t' [] low s j d g r.undeclared r.none_instead jd n m y u))
        (subst (λ p. Follows (declared_in v t marks lower (beside k c s) f (suc (id + count c)) n m x w) (declared_in v t' [] low p g (suc (jd + count d)) n m y u)) (sym r.beside)
        ((declared_alike (beside k c s) q (suc (id + count c)) (suc (jd + count d)) n m x y a).follows w u z)));
  }
  declared_alike s (kept {k} {j} {c} {d} {f} {g} r q) id jd n m x y a =
      neither_alike (is_declaration k) (is_declaration j) (nat_eq s.number n) (nat_eq s.number n) _ _ _ _ r.declaration r.undeclared
      (r.inside v marks lower low h (suc id) (suc jd) n m _ _
      (subst (λ z. Alike (declared_in v t marks lower (beside k c s) f (suc (id + count c)) n m x) (declared_in v t' [] low z g (suc (jd + count d)) n m y)) (sym r.beside)
      (declared_alike (beside k c s) q (suc (id + count c)) (suc (jd + count d)) n m x y a)))
  declared_alike s (wrapped {k} {j} {c} {d} {f} {g} r p q) id jd n m x y a =
      declared_alike s p id (suc jd) n m _ _
      (subst (λ z. Alike (declared_in v t marks lower (beside k c s) f (suc (id + count c)) n m x) (declared_in v t' [] low z g (suc (jd + (suc (count d) + 0))) n m y)) r
      (declared_alike (beside k c s) q (suc (id + count c)) (suc (jd + (suc (count d) + 0))) n m x y a))

  file_follows : (path : Bytes) {f g : Forest} → HasScriptsOf t t' (file_site path) f g → (w u : World) → Same w u
      → Follows (run_file v t marks lower path (Some f) w) (run_file v t' [] low path (Some g) u)
  file_follows path {f} {g} d w u e =
      script_follows (place_of_file path) (place_of_file path) _ _
      (going_alike _ _ (λ j n. record { follows = λ x y z. step_follows (file_site path) d 0 0 j n x y z }) _ _ (λ m. record { follows = λ x y z i. absurd i }))
      (file_script t path (kids (form f))) (file_script t' path (kids (form g))) (ap (file_script t' path) (children_same d) ∙ early path (kids (form f))) w u e

  found_follows : (path : Bytes) {fs gs : List (Bytes × Forest)} → HaveScriptsOf t t' fs gs → (w u : World) → Same w u
      → Follows (run_file v t marks lower path (file_at fs path) w) (run_file v t' [] low path (file_at gs path) u)
  found_follows path no_more w u e = λ i. absurd i
  found_follows path (one_more {path = p} {f} {g} {fs} {gs} d ds) w u e =
      (elim (bytes_eq p path)
      as (λ b. (b ≡ true → p ≡ path) → Follows (run_file v t marks lower path (cond b (Some f) (file_at fs path)) w)
      (run_file v t' [] low path (cond b (Some g) (file_at gs path)) u)) [
        | true ↦ λ y. file_follows path (subst (λ q. HasScriptsOf t t' (file_site q) f g) (y refl) d) w u e
        | false ↦ λ y. found_follows path ds w u e
      ]) ((bytes_eq-Decides p path).0)

  declaration_follows : (b : Declared) (m : Mode) {fs gs : List (Bytes × Forest)} → HaveScriptsOf t t' fs gs → (w u : World) → Same w u
      → Follows (run_declared v t marks lower b m (file_at fs b.file) w) (run_declared v t' [] low b m (file_at gs b.file) u)
  declaration_follows b m no_more w u e = λ i. absurd i
  declaration_follows b m (one_more {path = p} {f} {g} {fs} {gs} d ds) w u e =
      (elim (bytes_eq p b.file)
      as (λ c. (c ≡ true → p ≡ b.file)
      → Follows (run_declared v t marks lower b m (cond c (Some f) (file_at fs b.file)) w)
      (run_declared v t' [] low b m (cond c (Some g) (file_at gs b.file)) u)) [
        | true ↦ λ y. (declared_alike (file_site b.file) (subst (λ q. HasScriptsOf t t' (file_site q) f g) (y refl) d)
            0 0 b.number m _ _ (record { follows = λ x x' z i. absurd i })).follows w u e
        | false ↦ λ y. declaration_follows b m ds w u e
      ]) ((bytes_eq-Decides p b.file).0)

module _ (v : Bool) (t t' : Tables) (early : (path : Bytes) (n : ℕ) → file_script t' path n ≡ file_script t path n)
    (marks : List Mark) (source written : Program) (same_files : HaveScriptsOf t t' source.files written.files) where
  start_alike : (lower low : Entry → World → Result) → ((e : Entry) → Alike (lower e) (low e))
      → (e : Entry) → Alike (start v t source marks lower e) (start v t' written [] low e)
  start_alike lower low h (FileStart path) = record {
    follows = λ w u s.
        refused_follows (is_refused marks path) path w _ _
        (found_follows v t t' early marks lower low h path same_files (begun path w) (begun path u)
        (record { store = ap (λ (st : Store). record st { started = path ∷ st.started }) s.store; echo = s.echo; turns = s.turns }));
  }
  start_alike lower low h (DeclarationStart b m) = record {
    follows = λ w u s. declaration_follows v t t' early marks lower low h b m same_files w u s;
  }

  enter_alike : value_count t' ≡ value_count t → (n : ℕ) (e : Entry) → Alike (enter v t source marks n e) (enter v t' written [] n e)
  enter_alike count n e =
      let out : Entry → World → Result = λ d w. Over (Outside (place_of_entry d) Call) w in
      subst (λ c. Alike (enter v t source marks n e) (repeated c out (start v t' written []) n c e)) (sym count)
      (repeated_alike (value_count t) out out (λ d. over_alike (place_of_entry d) (place_of_entry d) Call Call)
      (start v t source marks) (start v t' written []) start_alike n (value_count t) e)

-- ---- whole runs

and_start_alike : (path : Bytes) (k l : World → Result) → Alike k l → (o : Out) → Alike (and_start path k o) (and_start path l o)
and_start_alike path k l h (Val x) = h
and_start_alike path k l h (Fresh x) = h
and_start_alike path k l h (At c) = h
and_start_alike path k l h (Jump (Return x)) = h
and_start_alike path k l h (Jump (Throw n)) = record { follows = λ w u s. (refl, s) }
and_start_alike path k l h (Jump (Break n)) = record { follows = λ w u s i. absurd i }
and_start_alike path k l h (Jump (Continue n)) = record { follows = λ w u s i. absurd i }

start_all_alike : (k l : Bytes → World → Result) → ((path : Bytes) → Alike (k path) (l path))
    → (first : Option Bytes) (entry : Bytes) → Alike (start_all k first entry) (start_all l first entry)
start_all_alike k l h None entry = h entry
start_all_alike k l h (Some path) entry = record {
  follows = λ w u s.
      then_follows (k path w) (l path u) _ _ ((h path).follows w u s) (λ o. and_start_alike path (k entry) (l entry) (h entry) o);
}

end_same : (path : Bytes) (o : Out) (w u : World) → Same w u → end_of_file path o u ≡ end_of_file path o w
end_same path (Val x) w u s = refl
end_same path (Fresh x) w u s = refl
end_same path (At c) w u s = refl
end_same path (Jump (Return x)) w u s = refl
end_same path (Jump (Throw n)) w u s = ap (λ st. end_of_file path (Jump (Throw n)) (record w { store = st })) s.store
end_same path (Jump (Break n)) w u s = refl
end_same path (Jump (Continue n)) w u s = refl

pub answer_same : (path : Bytes) (r q : Result) → Follows r q → IsInside (answer path r).end → SameRun (answer path r) (answer path q)
answer_same path (Done o w) (Done p u) f i = record {
  echo = f.1.echo;
  end = ap (λ x. end_of_file path x u) f.0 ∙ end_same path o w u f.1;
}
answer_same path (Done o w) (Over e u) f i = absurd f
answer_same path (Over e w) (Done p u) f i = absurd (f i)
answer_same path (Over e w) (Over d u) f i = record { echo = (f i).1.echo; end = (f i).0 }

-- in one version, a program with the scripts of another one does what that one does
pub scripts_alike : (v : Bool) (source written : Program) (marks : List Mark)
    → HaveScriptsOf (tables_of source.files) (tables_of written.files) source.files written.files
    → DeclareAlike (tables_of source.files) (tables_of written.files)
    → written.prepend ≡ source.prepend
    → (entry : Bytes) (input : Input) (n : ℕ) → IsInside (run_of v source marks entry input n).end
    → SameRun (run_of v source marks entry input n) (run_of v written [] entry input n)
scripts_alike v source written marks same_files declared same_first entry input n i =
    let t : Tables = tables_of source.files in
    let t' : Tables = tables_of written.files in
    let old : Bytes → World → Result = λ path. start v t source marks (enter v t source marks n) (FileStart path) in
    let new : Bytes → World → Result = λ path. start v t' written [] (enter v t' written [] n) (FileStart path) in
    answer_same entry _ _
    (subst (λ first. Follows (start_all old source.prepend entry (first_world input n)) (start_all new first entry (first_world input n)))
    (sym same_first)
    ((start_all_alike old new
    (λ path. start_alike v t t' declared.early marks source written same_files (enter v t source marks n) (enter v t' written [] n)
    (enter_alike v t t' declared.early marks source written same_files declared.count n) (FileStart path)) source.prepend entry).follows _ _
    (record { store = refl; echo = refl; turns = refl }))) i
