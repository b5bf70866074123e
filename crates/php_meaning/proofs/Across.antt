-- A 7.4 run and an 8.3 run that do the same, wherever the first stays inside and asks at handled places alone.
use Rattle.std.specs.Prelude.{◌≡◌, ℕ, zero, suc, ◌+◌, IsTrue, List, [], ◌∷◌, ◌++◌, Bool, true, false, ◌&&◌, nat_eq, nat_lt, cond, refl, Option, Some, None}
use Rattle.std.specs.Str.{bytes_eq}
use Rattle.std.proofs.Common.{ap, sym, ◌∙◌, subst, append_assoc}
use Rattle.std.proofs.lemmas.Slice.Eq.{bytes_eq-Decides}
use Rattle.std.proofs.lemmas.Bool.{true≢false}
use Rattle.php_tree.specs.declared.kind.NodeKind.{NodeKind}
use Rattle.php_tree.specs.Tree.{Forest, none, node, count}
use Rattle.scope_names.specs.Slot.{Declared}
use Rattle.scope_names.specs.Form.{parts, form, kids}
use Rattle.scope_names.specs.Sites.{Site, file_site, is_declaration, declarations, within, beside}
use Rattle.php_meaning.specs.names.Tables.{Tables, tables_of}
use Rattle.php_meaning.specs.Cause.{Cause, NoRule, Call}
use Rattle.php_meaning.specs.values.Value.{Value}
use Rattle.php_meaning.specs.runs.World.{Asked, Visit, Moment, Store, Bytes, Place, Going, Outside, Before, World}
use Rattle.php_meaning.specs.runs.Script.{
  Return,
  Throw,
  Break,
  Continue,
  Out,
  Val,
  Fresh,
  At,
  Jump,
  Mode,
  Target,
  Kid,
  Again,
  There,
  File,
  Script,
  Give,
  Stop,
  Finish,
  Look,
  Put,
  Echo,
  Turn,
  Ask,
  Run,
}
use Rattle.php_meaning.specs.Rules.{rule, file_script}
use Rattle.php_meaning.specs.runs.Kinds.{is_statement}
use Rattle.php_meaning.specs.runs.Run.{
  begun,
  Program,
  Mark,
  file_at,
  is_stopped,
  is_refused,
  Result,
  Done,
  Over,
  then_do,
  with_turn,
  play,
  Entry,
  FileStart,
  DeclarationStart,
  place_in,
  place_of_file,
  told,
  moment_of,
  value_of,
  left,
  starting,
  unless_stopped,
  going,
  repeated,
  passes,
  at_node,
  step,
  run_file,
  declared_in,
  run_declared,
  unless_refused,
  start,
  value_count,
  place_of_entry,
  enter,
  first_world,
  answer,
  and_start,
  start_all,
}
use Rattle.php_meaning.specs.laws.Laws.{IsInside, SameRun}
use Rattle.php_meaning.specs.laws.Following.{Same, DoneAlike, OverAlike}
use Rattle.php_meaning.specs.laws.Across.{
  Claim,
  AskedAt,
  Show,
  Meets,
  Extends,
  world_in,
  Grown,
  FollowsAcross,
  Across,
  IsRewritten,
  nothing,
  token_before,
  token_behind,
  same,
  replaced,
  kept,
  wrapped,
  AreRewritten,
  no_more,
  one_more,
  RewrittenRunsAcross,
}
use Rattle.php_meaning.proofs.Alike.{passed, kids_behind, answer_same}

below : (p : Place → Bool) (front old : List Asked) → AskedAt p (front ++ old) → AskedAt p old
below p [] old a = a
below p (x ∷ front) old a = below p front old a.1

shown_below : (p : Visit → Bool) (front old : List Visit) → Show p (front ++ old) → Show p old
shown_below p [] old a = a
shown_below p (x ∷ front) old a = shown_below p front old a.1

met_below : (claim : Claim) (new old : World) → Grown new old → Meets claim new → Meets claim old
met_below claim new old g m =
    (below claim.handled g.asked.0 old.asked (subst (AskedAt claim.handled) g.asked.1 m.0), shown_below claim.good g.visits.0 old.visits (subst (Show claim.good) g.visits.1 m.1))

-- what holds of a claim's premises in the end held before
bring : (claim : Claim) (r q : Result) (old : World) → Grown (world_in r) old → (Meets claim old → FollowsAcross claim r q) → FollowsAcross claim r q
bring claim (Done o w) q old e f = λ a. f (met_below claim w old e a) a
bring claim (Over x w) q old e f = λ a. f (met_below claim w old e a) a

pub grown : (w : World) → Grown w w
grown w = record { asked = ([], refl); visits = ([], refl) }

extends_more : {A : Type 0} (c b a : List A) → Extends c b → Extends b a → Extends c a
extends_more c b a p q = (p.0 ++ q.0, p.1 ∙ (ap (λ t. p.0 ++ t) q.1 ∙ sym (append_assoc p.0 q.0 a)))

pub grown_more : (c b a : World) → Grown c b → Grown b a → Grown c a
grown_more c b a p q = record {
  asked = extends_more c.asked b.asked a.asked p.asked q.asked;
  visits = extends_more c.visits b.visits a.visits p.visits q.visits;
}

pub then_grown : (w : World) (r : Result) (k : Out → World → Result) → Grown (world_in r) w
    → ((o : Out) (u : World) → Grown (world_in (k o u)) u) → Grown (world_in (then_do r k)) w
then_grown w (Done o u) k g h = grown_more (world_in (k o u)) u w (h o u) g
then_grown w (Over e u) k g h = g

turn_grown : (w : World) (n : ℕ) (k : World → Result) → ((u : World) → Grown (world_in (k u)) u) → Grown (world_in (with_turn w n k)) w
turn_grown w zero k h = grown w
turn_grown w (suc n) k h = let g = h (record w { turns = n }) in record { asked = g.asked; visits = g.visits }

module _ (claim : Claim) where
  pub then_follows : (r q : Result) (k l : Out → World → Result) → FollowsAcross claim r q
      → ((o : Out) → Across claim (k o) (l o)) → FollowsAcross claim (then_do r k) (then_do q l)
  then_follows (Done o w) q k l f h = bring claim (k o w) (then_do q l) w ((h o).grows w) (λ a. after q (f a))
    where
      after : (q : Result) → DoneAlike o w q → FollowsAcross claim (k o w) (then_do q l)
      after (Done p u) d = subst (λ x. FollowsAcross claim (k o w) (l x u)) (sym d.0) ((h o).follows w u d.1)
      after (Over e u) d = absurd d
  then_follows (Over e w) q k l f h = λ a i. after q (f a i)
    where
      after : (q : Result) → OverAlike e w q → OverAlike e w (then_do q l)
      after (Done p u) d = absurd d
      after (Over x u) d = d

  turn_follows : (w u : World) (n m : ℕ) (k l : World → Result) → m ≡ n → Same w u → Across claim k l → FollowsAcross claim (with_turn w n k) (with_turn u m l)
  turn_follows w u zero m k l e s h = subst (λ x. FollowsAcross claim (Over Going w) (with_turn u x l)) (sym e) (λ a i. (refl, s))
  turn_follows w u (suc n) m k l e s h =
      subst (λ x. FollowsAcross claim (k (record w { turns = n })) (with_turn u x l)) (sym e)
      (h.follows (record w { turns = n }) (record u { turns = n }) (record { store = s.store; echo = s.echo; turns = refl }))

  nowhere : (b : Bool) → b ≡ false → IsTrue b → ⊥
  nowhere b e h = true≢false (sym h ∙ e)

module _ (claim : Claim) (here there : Place) (plain : claim.handled here ≡ false) (go to : Target → World → Result) (h : (x : Target) → Across claim (go x) (to x)) where
  pub play_grows : (s : Script) (w : World) → Grown (world_in (play false here go s w)) w
  play_grows (Give o) w = grown w
  play_grows (Stop c) w = grown w
  play_grows (Finish status) w = grown w
  play_grows (Look k) w = play_grows (k w.store) w
  play_grows (Put s k) w = let g = play_grows k (record w { store = s }) in record { asked = g.asked; visits = g.visits }
  play_grows (Echo bytes k) w = let g = play_grows k (record w { echo = w.echo ++ bytes }) in record { asked = g.asked; visits = g.visits }
  play_grows (Turn k) w = turn_grown w w.turns (λ u. play false here go k u) (λ u. play_grows k u)
  play_grows (Ask point k) w =
      let x : Asked = record { place = here; point = point } in
      grown_more (world_in (play false here go (k false) (record w { asked = x ∷ w.asked }))) (record w { asked = x ∷ w.asked }) w
      (play_grows (k false) (record w { asked = x ∷ w.asked })) (record { asked = (x ∷ [], refl); visits = ([], refl) })
  play_grows (Run t k) w = then_grown w (go t w) (λ o u. play false here go (k o) u) ((h t).grows w) (λ o u. play_grows (k o) u)

  pub play_follows : (s : Script) (w u : World) → Same w u → FollowsAcross claim (play false here go s w) (play true there to s u)
  play_follows (Give o) w u s = λ a. (refl, s)
  play_follows (Stop c) w u s = λ a i. absurd i
  play_follows (Finish status) w u s = λ a i. (refl, s)
  play_follows (Look k) w u s =
      subst (λ st. FollowsAcross claim (play false here go (k w.store) w) (play true there to (k st) u)) (sym s.store) (play_follows (k w.store) w u s)
  play_follows (Put st k) w u s =
      play_follows k (record w { store = st }) (record u { store = st }) (record { store = refl; echo = s.echo; turns = s.turns })
  play_follows (Echo bytes k) w u s =
      play_follows k (record w { echo = w.echo ++ bytes }) (record u { echo = u.echo ++ bytes })
      (record { store = s.store; echo = ap (λ e. e ++ bytes) s.echo; turns = s.turns })
  play_follows (Turn k) w u s =
      turn_follows claim w u w.turns u.turns (play false here go k) (play true there to k) s.turns s (record { grows = play_grows k; follows = λ a b t. play_follows k a b t })
  play_follows (Ask point k) w u s =
      let x : Asked = record { place = here; point = point } in
      bring claim (play false here go (k false) (record w { asked = x ∷ w.asked })) (play true there to (Ask point k) u) (record w { asked = x ∷ w.asked })
      (play_grows (k false) (record w { asked = x ∷ w.asked })) (λ a. absurd (nowhere claim (claim.handled here) plain a.0.0))
  play_follows (Run x k) w u s =
      then_follows claim (go x w) (to x u) (λ o a. play false here go (k o) a) (λ o a. play true there to (k o) a) ((h x).follows w u s)
      (λ o. record { grows = play_grows (k o); follows = λ a b t. play_follows (k o) a b t })

-- a script that never asks, as that of a file
pub told_grown : (s : Site) (id : ℕ) (m : Moment) (v : Option Value) (w : World) → Grown (told s id m v w) w
told_grown s id m v w = record { asked = ([], refl); visits = (record { place = place_in s id; body = s.body; moment = m; value = v; store = w.store } ∷ [], refl) }

module _ (claim : Claim) where
  left_grown : (s : Site) (id : ℕ) (m : Mode) (old : World) (r : Result) → Grown (world_in r) old → Grown (world_in (left s id m r)) old
  left_grown s id m old (Done o w) g =
      grown_more (told s id (moment_of o) (value_of m o) w) w old (told_grown s id (moment_of o) (value_of m o) w) g
  left_grown s id m old (Over e w) g = g

  left_met : (s : Site) (id : ℕ) (m : Mode) (o : Out) (w : World) → Meets claim (told s id (moment_of o) (value_of m o) w) → Meets claim w
  left_met s id m o w z = (z.0, z.1.1)

  left_follows : (s : Site) (id jd : ℕ) (m n : Mode) (r q : Result) → FollowsAcross claim r q → FollowsAcross claim (left s id m r) (left s jd n q)
  left_follows s id jd m n (Done o w) (Done p u) f = λ a. let g = f (left_met s id m o w a) in (g.0, record { store = g.1.store; echo = g.1.echo; turns = g.1.turns })
  left_follows s id jd m n (Done o w) (Over e u) f = λ a. absurd (f (left_met s id m o w a))
  left_follows s id jd m n (Over e w) (Done p u) f = f
  left_follows s id jd m n (Over e w) (Over d u) f = f

  -- a node that hands on what stands in it
  handed_follows : (s : Site) (jd : ℕ) (m : Mode) (r q : Result) → FollowsAcross claim r q → FollowsAcross claim r (left s jd m (then_do q (λ o u. Done o u)))
  handed_follows s jd m (Done o w) (Done p u) f = λ a. let g = f a in (g.0, record { store = g.1.store; echo = g.1.echo; turns = g.1.turns })
  handed_follows s jd m (Done o w) (Over e u) f = λ a. absurd (f a)
  handed_follows s jd m (Over e w) (Done p u) f = λ a i. absurd (f a i)
  handed_follows s jd m (Over e w) (Over d u) f = f

  -- a node that is told before and after, unless it is marked
  pub told_across : (b : Bool) (s : Site) (id jd : ℕ) (i j : Mode) (m n : World → Result) → Across claim m n
      → Across claim (λ u. unless_stopped b (place_in s id) u (left s id i (m (told s id Before None u))))
      (λ u. unless_stopped false (place_in s jd) u (left s jd j (n (told s jd Before None u))))
  told_across true s id jd i j m n h = record { grows = λ w. grown w; follows = λ w u z a i. absurd i }
  told_across false s id jd i j m n h = record {
    grows = λ w. left_grown s id i w (m (told s id Before None w))
        (grown_more (world_in (m (told s id Before None w))) (told s id Before None w) w (h.grows (told s id Before None w)) (told_grown s id Before None w));
    follows = λ w u z.
        left_follows s id jd i j (m (told s id Before None w)) (n (told s jd Before None u))
        (h.follows (told s id Before None w) (told s jd Before None u) (record { store = z.store; echo = z.echo; turns = z.turns }));
  }

  starting_across : (a b : Bool) (k l : World → Result) → b ≡ a → Across claim k l → Across claim (λ w. starting a w k) (λ w. starting b w l)
  starting_across a b k l e h = subst (λ x. Across claim (λ w. starting a w k) (λ w. starting x w l)) (sym e) (both a)
    where
      both : (x : Bool) → Across claim (λ w. starting x w k) (λ w. starting x w l)
      both true = record {
        grows = λ w. turn_grown w w.turns k (λ u. h.grows u);
        follows = λ w u s. turn_follows claim w u w.turns u.turns k l s.turns s h;
      }
      both false = h

  over_across : (here there : Place) (c d : Cause) → Across claim (λ w. Over (Outside here c) w) (λ w. Over (Outside there d) w)
  over_across here there c d = record { grows = λ w. grown w; follows = λ w u s a i. absurd i }

  -- neither node is the declaration that is looked for
  neither_across : (a b p q : Bool) (f g l j : World → Result) → a ≡ false → b ≡ false → Across claim g j
      → Across claim (λ w. elim (a && p) [ true ↦ f w | false ↦ g w ]) (λ w. elim (b && q) [ true ↦ l w | false ↦ j w ])
  neither_across true b p q f g l j e d h = absurd (let x : true ≡ false = e in cc)
  neither_across false true p q f g l j e d h = absurd (let x : true ≡ false = d in cc)
  neither_across false false p q f g l j e d h = h

  either_across : (a b : Bool) (f g l j : World → Result) → b ≡ a → Across claim f l → Across claim g j
      → Across claim (λ w. elim a [ true ↦ f w | false ↦ g w ]) (λ w. elim b [ true ↦ l w | false ↦ j w ])
  either_across a b f g l j e p q =
      subst (λ x. Across claim (λ w. elim a [ true ↦ f w | false ↦ g w ]) (λ w. elim x [ true ↦ l w | false ↦ j w ])) (sym e) (both a)
    where
      both : (x : Bool) → Across claim (λ w. elim x [ true ↦ f w | false ↦ g w ]) (λ w. elim x [ true ↦ l w | false ↦ j w ])
      both true = p
      both false = q

-- what runs itself again
module _ (claim : Claim) {A : Type 0} (free : ℕ) (out off : A → World → Result) (h' : (a : A) → Across claim (out a) (off a))
    (f l : (A → World → Result) → A → World → Result)
    (h : (x y : A → World → Result) → ((a : A) → Across claim (x a) (y a)) → (a : A) → Across claim (f x a) (l y a)) where
  pub repeated_across : (n left : ℕ) (a : A) → Across claim (repeated free out f n left a) (repeated free off l n left a)
  repeated_across zero zero a = h' a
  repeated_across zero (suc left) a = h _ _ (repeated_across zero left) a
  repeated_across (suc n) zero a =
      let by : (w u : World) → Same w u
      → Across claim (λ x. elim (nat_lt w.turns (suc n))
      [ true ↦ f (repeated free out f n free) a x | false ↦ out a x ])
      (λ x. elim (nat_lt u.turns (suc n)) [ true ↦ l (repeated free off l n free) a x | false ↦ off a x ]) =
      λ w u s. either_across claim (nat_lt w.turns (suc n)) (nat_lt u.turns (suc n)) _ _ _ _ (ap (λ x. nat_lt x (suc n)) s.turns) (h _ _ (repeated_across n free) a) (h' a) in
      record { grows = λ w. (by w w (record { store = refl; echo = refl; turns = refl })).grows w; follows = λ w u s. (by w u s).follows w u s }
  repeated_across (suc n) (suc left) a =
      let by : (w u : World) → Same w u
      → Across claim (λ x. elim (nat_lt w.turns (suc n))
      [ true ↦ f (repeated free out f n free) a x | false ↦ f (repeated free out f (suc n) left) a x ])
      (λ x. elim (nat_lt u.turns (suc n))
      [ true ↦ l (repeated free off l n free) a x | false ↦ l (repeated free off l (suc n) left) a x ]) =
      λ w u s. either_across claim (nat_lt w.turns (suc n)) (nat_lt u.turns (suc n)) _ _ _ _
      (ap (λ x. nat_lt x (suc n)) s.turns) (h _ _ (repeated_across n free) a)
      (h _ _ (repeated_across (suc n) left) a) in
      record { grows = λ w. (by w w (record { store = refl; echo = refl; turns = refl })).grows w; follows = λ w u s. (by w u s).follows w u s }

children_rewritten : {claim : Claim} {t t' : Tables} {id : ℕ} {s : Site} {f g : Forest} → IsRewritten claim t t' id s f g → kids (form g) ≡ kids (form f)
children_rewritten nothing = refl
children_rewritten (token_before {u = u} {f = f} {g = g} d) = children_rewritten d ∙ sym (kids_behind u (parts f))
children_rewritten (token_behind {u = u} {f = f} {g = g} d) = kids_behind u (parts g) ∙ children_rewritten d
children_rewritten (same h p d e) = ap suc (children_rewritten e)
children_rewritten (replaced h e) = ap suc (children_rewritten e)
children_rewritten (kept h e) = ap suc (children_rewritten e)
children_rewritten (wrapped h d e) = ap suc (children_rewritten e)

module _ (claim : Claim) (t t' : Tables) (marks : List Mark) (lower low : Entry → World → Result) (h : (e : Entry) → Across claim (lower e) (low e)) where
  pub going_across : (kid lid : ℕ → Mode → World → Result) → ((i : ℕ) (m : Mode) → Across claim (kid i m) (lid i m))
      → (again anew : Mode → World → Result) → ((m : Mode) → Across claim (again m) (anew m))
      → (x : Target) → Across claim (going lower kid again x) (going low lid anew x)
  going_across kid lid g again anew a (Kid i m) = g i m
  going_across kid lid g again anew a (Again m) = a m
  going_across kid lid g again anew a (There b m) = h (DeclarationStart b m)
  going_across kid lid g again anew a (File path) = h (FileStart path)

  -- a script and the same one by other words
  pub script_across : (here there : Place) → claim.handled here ≡ false → (go to : Target → World → Result) → ((x : Target) → Across claim (go x) (to x)) → (a b : Script) → b ≡ a
      → Across claim (play false here go a) (play true there to b)
  script_across here there p go to g a b e =
      subst (λ x. Across claim (play false here go a) (play true there to x)) (sym e)
      (record { grows = play_grows claim here there p go to g a; follows = play_follows claim here there p go to g a })

  node_across : (s : Site) (k j : NodeKind) (c d : Forest) (id jd : ℕ) → claim.handled (place_in s id) ≡ false → (kid lid : ℕ → Mode → World → Result)
      → ((m : Mode) → rule t' s j m (form d) ≡ rule t s k m (form c))
      → ((i : ℕ) (m : Mode) → Across claim (kid i m) (lid i m))
      → (m : Mode) → Across claim (at_node false t lower s k c id kid m) (at_node true t' low s j d jd lid m)
  node_across s k j c d id jd p kid lid e g m =
      let pass : (Mode → World → Result) → Mode → World → Result =
      λ again n a. play false (place_in s id) (going lower kid again) (rule t s k n (form c)) a in
      let past : (Mode → World → Result) → Mode → World → Result =
      λ again n a. play true (place_in s jd) (going low lid again) (rule t' s j n (form d)) a in
      let one : (x y : Mode → World → Result) → ((i : Mode) → Across claim (x i) (y i)) → (i : Mode) → Across claim (pass x i) (past y i) =
      λ x y a i. script_across (place_in s id) (place_in s jd) p (going lower kid x) (going low lid y)
      (going_across kid lid g x y a) (rule t s k i (form c)) (rule t' s j i (form d)) (e i) in
      let both : (n : ℕ) → Across claim (pass (passes (place_in s id) pass n) m) (past (passes (place_in s jd) past n) m) =
      λ n. one _ _ (repeated_across claim 1 _ _ (λ i. over_across claim (place_in s id) (place_in s jd) NoRule NoRule) pass past one n 1) m in
      record {
        grows = λ w. (both w.turns).grows w;
        follows = λ w u z.
            subst (λ n. FollowsAcross claim (pass (passes (place_in s id) pass w.turns) m w) (past (passes (place_in s jd) past n) m u)) (sym z.turns)
            ((both w.turns).follows w u z);
      }

  -- a node without a rule is outside, whatever stands in its place
  pub no_rule_across : (a stop : Bool) (s : Site) (id : ℕ) (m : Mode) (n : World → Result) (q : World → Result)
      → a ≡ false → ((u : World) → n u ≡ Over (Outside (place_in s id) NoRule) u)
      → Across claim (λ w. starting a w (λ u. unless_stopped stop (place_in s id) u (left s id m (n (told s id Before None u))))) q
  no_rule_across a stop s id m n q e f =
      subst (λ x. Across claim (λ w. starting x w (λ u. unless_stopped stop (place_in s id) u (left s id m (n (told s id Before None u))))) q)
      (sym e) (record { grows = λ w. grows stop w; follows = λ w u z. is_outside stop w (q u) })
    where
      grows : (b : Bool) (w : World) → Grown (world_in (unless_stopped b (place_in s id) w (left s id m (n (told s id Before None w))))) w
      grows true w = grown w
      grows false w = subst (λ x. Grown (world_in (left s id m x)) w) (sym (f (told s id Before None w))) (told_grown s id Before None w)

      is_outside : (b : Bool) (w : World) (r : Result) → FollowsAcross claim (unless_stopped b (place_in s id) w (left s id m (n (told s id Before None w)))) r
      is_outside true w r = λ a i. absurd i
      is_outside false w r = subst (λ x. FollowsAcross claim (left s id m x) r) (sym (f (told s id Before None w))) (λ a i. absurd i)

  pub step_across : (id : ℕ) (s : Site) {f g : Forest} → IsRewritten claim t t' id s f g → (jd i : ℕ) (m : Mode)
      → Across claim (step false t marks lower s f id i m) (step true t' [] low s g jd i m)
  step_across id s nothing jd i m = record { grows = λ w. grown w; follows = λ w u e a x. absurd x }
  step_across id s (token_before d) jd i m = step_across id s d jd i m
  step_across id s (token_behind d) jd i m = step_across id s d jd i m
  step_across id s (same {k = k} {j = j} {c = c} {d = d} {f = f} {g = g} r plain p q) jd zero m =
      starting_across claim (is_statement k) (is_statement j) _ _ r.statement
      (told_across claim (is_stopped marks s.file id) s id jd m m _ _
      (node_across s k j c d id jd plain (step false t marks lower (within k c s) c (suc id)) (step true t' [] low (within j d s) d (suc jd)) r.script
      (λ i n. subst (λ x. Across claim (step false t marks lower (within k c s) c (suc id) i n) (step true t' [] low x d (suc jd) i n)) (sym r.within)
      (step_across (suc id) (within k c s) p (suc jd) i n)) m))
  step_across id s (same {k = k} {j = j} {c = c} {d = d} {f = f} {g = g} r plain p q) jd (suc i) m =
      subst (λ x. Across claim (step false t marks lower (beside k c s) f (suc (id + count c)) i m) (step true t' [] low x g (suc (jd + count d)) i m)) (sym r.beside)
      (step_across (suc (id + count c)) (beside k c s) q (suc (jd + count d)) i m)
  step_across id s (replaced {k = k} {j = j} {c = c} {d = d} {f = f} {g = g} r q) jd zero m =
      let kid : ℕ → Mode → World → Result = step false t marks lower (within k c s) c (suc id) in
      let pass : (Mode → World → Result) → Mode → World → Result =
      λ again n a. play false (place_in s id) (going lower kid again) (rule t s k n (form c)) a in
      no_rule_across (is_statement k) (is_stopped marks s.file id) s id m (at_node false t lower s k c id kid m) _ r.statement
      (λ a. ap (λ x. play false (place_in s id) (going lower kid (passes (place_in s id) pass a.turns)) x a) (r.script m))
  step_across id s (replaced {k = k} {j = j} {c = c} {d = d} {f = f} {g = g} r q) jd (suc i) m =
      subst (λ x. Across claim (step false t marks lower (beside k c s) f (suc (id + count c)) i m) (step true t' [] low x g (suc (jd + count d)) i m)) (sym r.beside)
      (step_across (suc (id + count c)) (beside k c s) q (suc (jd + count d)) i m)
  step_across id s (kept {k = k} {j = j} {c = c} {d = d} {f = f} {g = g} r q) jd zero m = r.node marks lower low h id jd m
  step_across id s (kept {k = k} {j = j} {c = c} {d = d} {f = f} {g = g} r q) jd (suc i) m =
      subst (λ x. Across claim (step false t marks lower (beside k c s) f (suc (id + count c)) i m) (step true t' [] low x g (suc (jd + count d)) i m)) (sym r.beside)
      (step_across (suc (id + count c)) (beside k c s) q (suc (jd + count d)) i m)
  step_across id s (wrapped {k = k} {j = j} {c = c} {d = d} {f = f} {g = g} r p q) jd zero m =
      let inner : Across claim (step false t marks lower s (node k c none) id zero m)
      (step true t' [] low s (node j d none) (suc jd) zero m) = step_across id s p (suc jd) zero m in
      record {
        grows = λ w. inner.grows w;
        follows = λ w u e.
            handed_follows claim s jd m _ _ (inner.follows w (told s jd Before None u) (record { store = e.store; echo = e.echo; turns = e.turns }));
      }
  step_across id s (wrapped {k = k} {j = j} {c = c} {d = d} {f = f} {g = g} r p q) jd (suc i) m =
      subst (λ x. Across claim (step false t marks lower (beside k c s) f (suc (id + count c)) i m) (step true t' [] low x g (suc (jd + (suc (count d) + 0))) i m)) r
      (step_across (suc (id + count c)) (beside k c s) q (suc (jd + (suc (count d) + 0))) i m)

  -- nodes that are no declarations and hold none are passed over
  passed_over : (id : ℕ) (s : Site) (k j : NodeKind) (c d f g : Forest) → is_declaration k ≡ false → is_declaration j ≡ false → declarations c ≡ zero → declarations d ≡ zero
      → (jd n : ℕ) (m : Mode) (x y : World → Result)
      → Across claim (declared_in false t marks lower (beside k c s) f (suc (id + count c)) n m x) (declared_in true t' [] low (beside j d s) g (suc (jd + count d)) n m y)
      → Across claim (declared_in false t marks lower s (node k c f) id n m x) (declared_in true t' [] low s (node j d g) jd n m y)
  passed_over id s k j c d f g e e' z z' jd n m x y a = record {
    grows = λ w. subst (λ r. Grown (world_in r) w) (sym (passed false t marks lower s k c f e z id n m x w)) (a.grows w);
    follows = λ w u i.
        subst (λ p. FollowsAcross claim p (declared_in true t' [] low s (node j d g) jd n m y u)) (sym (passed false t marks lower s k c f e z id n m x w))
        (subst (λ p. FollowsAcross claim (declared_in false t marks lower (beside k c s) f (suc (id + count c)) n m x w) p) (sym (passed true t' [] low s j d g e' z' jd n m y u))
        (a.follows w u i));
  }

  pub declared_across : (id : ℕ) (s : Site) {f g : Forest} → IsRewritten claim t t' id s f g → (jd n : ℕ) (m : Mode) (x y : World → Result) → Across claim x y
      → Across claim (declared_in false t marks lower s f id n m x) (declared_in true t' [] low s g jd n m y)
  declared_across id s nothing jd n m x y a = a
  declared_across id s (token_before d) jd n m x y a = declared_across id s d jd n m x y a
  declared_across id s (token_behind d) jd n m x y a = declared_across id s d jd n m x y a
  declared_across id s (same {k = k} {j = j} {c = c} {d = d} {f = f} {g = g} r plain p q) jd n m x y a =
      either_across claim (is_declaration k && nat_eq s.number n) (is_declaration j && nat_eq s.number n) _ _ _ _
      (ap (λ b. b && nat_eq s.number n) r.declaration)
      (node_across s k j c d id jd plain (step false t marks lower (within k c s) c (suc id)) (step true t' [] low (within j d s) d (suc jd)) r.script
      (λ i o. subst (λ z. Across claim (step false t marks lower (within k c s) c (suc id) i o) (step true t' [] low z d (suc jd) i o)) (sym r.within)
      (step_across (suc id) (within k c s) p (suc jd) i o)) m)
      (subst (λ z. Across claim (declared_in false t marks lower (within k c s) c (suc id) n m
      (λ w. declared_in false t marks lower (beside k c s) f (suc (id + count c)) n m x w))
      (declared_in true t' [] low z d (suc jd) n m
      (λ w. declared_in true t' [] low (beside j d s) g (suc (jd + count d)) n m y w))) (sym r.within)
      (declared_across (suc id) (within k c s) p (suc jd) n m _ _
      (subst (λ z. Across claim (declared_in false t marks lower (beside k c s) f (suc (id + count c)) n m x)
      (declared_in true t' [] low z g (suc (jd + count d)) n m y)) (sym r.beside)
      (declared_across (suc (id + count c)) (beside k c s) q (suc (jd + count d)) n m x y a))))
  declared_across id s (replaced {k = k} {j = j} {c = c} {d = d} {f = f} {g = g} r q) jd n m x y a =
      passed_over id s k j c d f g r.declaration r.undeclared r.none_inside r.none_instead jd n m x y
      (subst (λ z. Across claim (declared_in false t marks lower (beside k c s) f (suc (id + count c)) n m x)
      (declared_in true t' [] low z g (suc (jd + count d)) n m y)) (sym r.beside)
      (declared_across (suc (id + count c)) (beside k c s) q (suc (jd + count d)) n m x y a))
  declared_across id s (kept {k = k} {j = j} {c = c} {d = d} {f = f} {g = g} r q) jd n m x y a =
      neither_across claim (is_declaration k) (is_declaration j) (nat_eq s.number n) (nat_eq s.number n) _ _ _ _ r.declaration r.undeclared
      (r.inside marks lower low h (suc id) (suc jd) n m _ _
      (subst (λ z. Across claim (declared_in false t marks lower (beside k c s) f (suc (id + count c)) n m x)
      (declared_in true t' [] low z g (suc (jd + count d)) n m y)) (sym r.beside)
      (declared_across (suc (id + count c)) (beside k c s) q (suc (jd + count d)) n m x y a)))
  declared_across id s (wrapped {k = k} {j = j} {c = c} {d = d} {f = f} {g = g} r p q) jd n m x y a =
      declared_across id s p (suc jd) n m _ _
      (subst (λ z. Across claim (declared_in false t marks lower (beside k c s) f (suc (id + count c)) n m x)
      (declared_in true t' [] low z g (suc (jd + (suc (count d) + 0))) n m y)) r
      (declared_across (suc (id + count c)) (beside k c s) q (suc (jd + (suc (count d) + 0))) n m x y a))

  file_across : ((path : Bytes) (n : ℕ) → file_script t' path n ≡ file_script t path n) → (path : Bytes) → claim.handled (place_of_file path) ≡ false → {f g : Forest}
      → IsRewritten claim t t' 0 (file_site path) f g
      → Across claim (run_file false t marks lower path (Some f)) (run_file true t' [] low path (Some g))
  file_across early path p {f} {g} d =
      script_across (place_of_file path) (place_of_file path) p _ _
      (going_across _ _ (λ j n. step_across 0 (file_site path) d 0 j n) _ _ (λ m. record { grows = λ w. grown w; follows = λ x y z a i. absurd i }))
      (file_script t path (kids (form f))) (file_script t' path (kids (form g)))
      (ap (file_script t' path) (children_rewritten d) ∙ early path (kids (form f)))

  found_across : ((path : Bytes) (n : ℕ) → file_script t' path n ≡ file_script t path n) → (path : Bytes) → claim.handled (place_of_file path) ≡ false
      → {fs gs : List (Bytes × Forest)} → AreRewritten claim t t' fs gs
      → Across claim (run_file false t marks lower path (file_at fs path)) (run_file true t' [] low path (file_at gs path))
  found_across early path h' no_more = record { grows = λ w. grown w; follows = λ w u e a i. absurd i }
  found_across early path h' (one_more {path = p} {f = f} {g = g} {fs = fs} {gs = gs} d ds) =
      (elim (bytes_eq p path)
      as (λ b. (b ≡ true → p ≡ path)
      → Across claim (run_file false t marks lower path (cond b (Some f) (file_at fs path)))
      (run_file true t' [] low path (cond b (Some g) (file_at gs path)))) [
        | true ↦ λ y. file_across early path h' (subst (λ q. IsRewritten claim t t' 0 (file_site q) f g) (y refl) d)
        | false ↦ λ y. found_across early path h' ds
      ]) ((bytes_eq-Decides p path).0)

  declaration_across : (b : Declared) (m : Mode) {fs gs : List (Bytes × Forest)} → AreRewritten claim t t' fs gs
      → Across claim (run_declared false t marks lower b m (file_at fs b.file)) (run_declared true t' [] low b m (file_at gs b.file))
  declaration_across b m no_more = record { grows = λ w. grown w; follows = λ w u e a i. absurd i }
  declaration_across b m (one_more {path = p} {f = f} {g = g} {fs = fs} {gs = gs} d ds) =
      (elim (bytes_eq p b.file)
      as (λ c. (c ≡ true → p ≡ b.file)
      → Across claim (run_declared false t marks lower b m (cond c (Some f) (file_at fs b.file)))
      (run_declared true t' [] low b m (cond c (Some g) (file_at gs b.file)))) [
        | true ↦ λ y. declared_across 0 (file_site b.file)
            (subst (λ q. IsRewritten claim t t' 0 (file_site q) f g) (y refl) d) 0 b.number m _ _
            (record { grows = λ w. grown w; follows = λ w u e a i. absurd i })
        | false ↦ λ y. declaration_across b m ds
      ]) ((bytes_eq-Decides p b.file).0)

refused_across : (claim : Claim) (b : Bool) (path : Bytes) (m n : World → Result) → Across claim m n
    → Across claim (λ w. unless_refused b path w (m (begun path w))) (λ w. unless_refused false path w (n (begun path w)))
refused_across claim true path m n h = record { grows = λ w. grown w; follows = λ w u e a i. absurd i }
refused_across claim false path m n h = record {
  grows = λ w. let g = h.grows (begun path w) in record { asked = g.asked; visits = g.visits };
  follows = λ w u s. h.follows (begun path w) (begun path u)
      (record { store = ap (λ (st : Store). record st { started = path ∷ st.started }) s.store; echo = s.echo; turns = s.turns });
}

module _ (claim : Claim) (t t' : Tables) (early : (path : Bytes) (n : ℕ)
    → file_script t' path n ≡ file_script t path n) (marks : List Mark) (source written : Program)
    (same_files : AreRewritten claim t t' source.files written.files)
    (plain : (path : Bytes) → claim.handled (place_of_file path) ≡ false) where
  start_across : (lower low : Entry → World → Result) → ((e : Entry) → Across claim (lower e) (low e))
      → (e : Entry) → Across claim (start false t source marks lower e) (start true t' written [] low e)
  start_across lower low h (FileStart path) =
      refused_across claim (is_refused marks path) path _ _ (found_across claim t t' marks lower low h early path (plain path) same_files)
  start_across lower low h (DeclarationStart b m) = declaration_across claim t t' marks lower low h b m same_files

  enter_across : value_count t' ≡ value_count t → (n : ℕ) (e : Entry) → Across claim (enter false t source marks n e) (enter true t' written [] n e)
  enter_across count n e =
      let out : Entry → World → Result = λ d w. Over (Outside (place_of_entry d) Call) w in
      subst (λ c. Across claim (enter false t source marks n e) (repeated c out (start true t' written []) n c e)) (sym count)
      (repeated_across claim (value_count t) out out (λ d. over_across claim (place_of_entry d) (place_of_entry d) Call Call)
      (start false t source marks) (start true t' written []) start_across n (value_count t) e)

-- ---- whole runs

and_start_across : (claim : Claim) (path : Bytes) (k l : World → Result) → Across claim k l → (o : Out) → Across claim (and_start path k o) (and_start path l o)
and_start_across claim path k l h (Val x) = h
and_start_across claim path k l h (Fresh x) = h
and_start_across claim path k l h (At c) = h
and_start_across claim path k l h (Jump (Return x)) = h
and_start_across claim path k l h (Jump (Throw n)) = record { grows = λ w. grown w; follows = λ w u s a. (refl, s) }
and_start_across claim path k l h (Jump (Break n)) = record { grows = λ w. grown w; follows = λ w u s a i. absurd i }
and_start_across claim path k l h (Jump (Continue n)) = record { grows = λ w. grown w; follows = λ w u s a i. absurd i }

start_all_across : (claim : Claim) (k l : Bytes → World → Result) → ((path : Bytes) → Across claim (k path) (l path))
    → (first : Option Bytes) (entry : Bytes) → Across claim (start_all k first entry) (start_all l first entry)
start_all_across claim k l h None entry = h entry
start_all_across claim k l h (Some path) entry = record {
  grows = λ w. then_grown w (k path w) (and_start path (k entry)) ((h path).grows w) (λ o u. (and_start_across claim path (k entry) (l entry) (h entry) o).grows u);
  follows = λ w u s.
      then_follows claim (k path w) (l path u) _ _ ((h path).follows w u s) (λ o. and_start_across claim path (k entry) (l entry) (h entry) o);
}

answer_across : (claim : Claim) (path : Bytes) (r q : Result) → FollowsAcross claim r q → IsInside (answer path r).end
    → AskedAt claim.handled (answer path r).asked → Show claim.good (answer path r).visits → SameRun (answer path r) (answer path q)
answer_across claim path (Done o w) q f i a b = answer_same path (Done o w) q (f (a, b)) i
answer_across claim path (Over e w) q f i a b = answer_same path (Over e w) q (f (a, b)) i

pub rewritten_runs_across : RewrittenRunsAcross
rewritten_runs_across claim source written marks same_files declared same_first plain entry input n i a b =
    let t : Tables = tables_of source.files in
    let t' : Tables = tables_of written.files in
    let old : Bytes → World → Result = λ path. start false t source marks (enter false t source marks n) (FileStart path) in
    let new : Bytes → World → Result = λ path. start true t' written [] (enter true t' written [] n) (FileStart path) in
    answer_across claim entry _ _
    (subst (λ first. FollowsAcross claim (start_all old source.prepend entry (first_world input n)) (start_all new first entry (first_world input n)))
    (sym same_first)
    ((start_all_across claim old new
    (λ path. start_across claim t t' declared.early marks source written same_files plain (enter false t source marks n) (enter true t' written [] n)
    (enter_across claim t t' declared.early marks source written same_files plain declared.count n) (FileStart path)) source.prepend entry).follows _ _
    (record { store = refl; echo = refl; turns = refl }))) i a b
