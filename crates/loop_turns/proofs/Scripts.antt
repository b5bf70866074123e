-- Scripts that go on with another pass only once a turn was taken, and those of loops among them.
use Rattle.std.specs.Prelude.{ℕ, zero, suc, ◌+◌, ◌-◌, Bool, true, false, not, ◌&&◌, ◌||◌, IsTrue, cond, List, [], ◌∷◌, codes, refl, Option, Some, None}
use Rattle.php_tree.specs.declared.kind.NodeKind.{NodeKind}
use Rattle.php_tree.specs.declared.kind.NodeKind.TheVariants as kind
use Rattle.scope_names.specs.Slot.{Declared, Slot, Unnamed}
use Rattle.scope_names.specs.Form.{Form, kids, texts}
use Rattle.scope_names.specs.Words.{has_word}
use Rattle.scope_names.specs.Sites.{Site}
use Rattle.php_meaning.specs.values.Value.{Value, Null, Truth, Int, Text, Object, Arr, Key, Cell, Entries, none, own, shared}
use Rattle.php_meaning.specs.values.Convert.{to_truth}
use Rattle.php_meaning.specs.values.Copies.{copied}
use Rattle.php_meaning.specs.values.Arrays.{Array, Entry, entry_after}
use Rattle.php_meaning.specs.Cause.{NoRule, Conversion, Reference, Error, Outcome, Gives, Outside, ExceptionClass}
use Rattle.php_meaning.specs.Differences.{ByVersion, Alike, Differs}
use Rattle.php_meaning.specs.names.Tables.{Tables, declaration_at}
use Rattle.php_meaning.specs.names.Tables as table
use Rattle.php_meaning.specs.runs.World.{Bytes, Member, Store}
use Rattle.php_meaning.specs.runs.Stores.{cells_of, next_cell, object_at, walking, walked_over}
use Rattle.php_meaning.specs.runs.Locations.{Change, Changed, Refused, written, shared_at, bound_at, changed_at, shared_element, front, last_of}
use Rattle.php_meaning.specs.runs.Script.{
  Way,
  Return,
  Throw,
  Break,
  Continue,
  Typing,
  Untyped,
  Typed,
  Root,
  InVariable,
  InProperty,
  InStatic,
  InValue,
  Location,
  Out,
  Val,
  Fresh,
  At,
  Jump,
  Mode,
  Read,
  Quiet,
  Top,
  Early,
  Later,
  Left,
  Behind,
  Target,
  Kid,
  Again,
  There,
  File,
  Script,
  Give,
  Stop,
  Finish,
  Look,
  Put,
  Echo,
  Turn,
  Ask,
  Run,
  give,
  value_then,
  location_then,
  child_value,
  child_location,
  given,
  asking,
  throws,
}
use Rattle.php_meaning.specs.expressions.Assigning.{
  Base,
  Made,
  Unmade,
  Properties,
  size,
  numbered,
  variable_base,
  static_base,
  with_base,
  kept,
  kept_then,
  root_then,
  held_to,
  after_change,
  base_typing,
  unless_part,
  change,
  write,
  base_cell,
  cell_then,
  has_offsets,
  slot_of,
  bind_root,
  bind,
  base_value,
}
use Rattle.php_meaning.specs.statements.Loops.{
  run_then,
  after_jump,
  after_pass,
  body,
  while_pass,
  do_pass,
  last_value,
  first_part,
  second_part,
  third_part,
  for_test,
  for_first,
  for_later,
  has_key,
  by_reference,
  value_index,
  key_value,
  with_key,
  foreach_pass,
  foreach_over,
  meet,
  foreach_behind,
  foreach,
}
use Rattle.php_meaning.specs.classes.Types.{of_form, of_type, passes, type_form}
use Rattle.php_meaning.specs.classes.Properties.{is_barred, Found, found_then, property_found, property_base, property_base_then, bind_member, bind_property, properties_at}
use Rattle.php_meaning.specs.Rules.{rule}
use Rattle.loop_turns.specs.Laws.{is_loop}

-- ---- turns in scripts

abbrev pub is_read : Mode → Bool
is_read Read = true
is_read m = false

-- the ways in which a node goes on with a further pass
abbrev pub is_pass : Mode → Bool
is_pass Later = true
is_pass (Left es) = true
is_pass (Behind c met) = true
is_pass m = false

-- where `p` says which children take a turn
module _ (p : ℕ → Bool) where
  -- whether a turn was taken, once this was run
  abbrev pub turned : Bool → Target → Bool
  turned b (Kid i m) = b || (is_read m && p i)
  turned b (Again m) = b
  turned b (There d m) = b
  turned b (File path) = b

  -- a further pass comes after a turn
  abbrev pub MayRun : Bool → Target → Type 0
  MayRun b (Kid i m) = Unit {0}
  MayRun b (Again m) = IsTrue b × IsTrue (is_pass m)
  MayRun b (There d m) = Unit {0}
  MayRun b (File path) = Unit {0}

  -- where a turn was taken or not, no further pass comes without one
  abbrev pub Safe : Bool → Script → Type 0
  Safe b (Give o) = Unit {0}
  Safe b (Stop c) = Unit {0}
  Safe b (Finish status) = Unit {0}
  Safe b (Look k) = (s : Store) → Safe b (k s)
  Safe b (Put s k) = Safe b k
  Safe b (Echo bytes k) = Safe b k
  Safe b (Turn k) = Safe true k
  Safe b (Ask point k) = (n : Bool) → Safe b (k n)
  Safe b (Run t k) = MayRun b t × ((o : Out) → Safe (turned b t) (k o))

  pub raise : (b : Bool) (s : Script) → Safe b s → Safe true s
  raise b (Give o) h = tt
  raise b (Stop c) h = tt
  raise b (Finish status) h = tt
  raise b (Look k) h = λ s. raise b (k s) (h s)
  raise b (Put s k) h = raise b k h
  raise b (Echo bytes k) h = raise b k h
  raise b (Turn k) h = h
  raise b (Ask point k) h = λ n. raise b (k n) (h n)
  raise b (Run (Kid i m) k) h = (tt, λ o. raise (b || (is_read m && p i)) (k o) (h.1 o))
  raise b (Run (Again m) k) h = ((refl, h.0.1), λ o. raise b (k o) (h.1 o))
  raise b (Run (There d m) k) h = (tt, λ o. raise b (k o) (h.1 o))
  raise b (Run (File path) k) h = (tt, λ o. raise b (k o) (h.1 o))

  over : (b c : Bool) (s : Script) → Safe b s → Safe (b || c) s
  over true c s h = h
  over false true s h = raise false s h
  over false false s h = h

  -- ---- common steps

  value_then_safe : (b : Bool) (k : Value → Script) → ((v : Value) → Safe b (k v)) → (o : Out) → Safe b (value_then k o)
  value_then_safe b k h (Val v) = h v
  value_then_safe b k h (Fresh v) = h v
  value_then_safe b k h (At l) = tt
  value_then_safe b k h (Jump w) = tt

  location_then_safe : (b : Bool) (k : Location → Script) → ((l : Location) → Safe b (k l)) → (o : Out) → Safe b (location_then k o)
  location_then_safe b k h (Val v) = tt
  location_then_safe b k h (Fresh v) = tt
  location_then_safe b k h (At l) = h l
  location_then_safe b k h (Jump w) = tt

  child_safe : (b : Bool) (i : ℕ) (k : Value → Script) → ((v : Value) → Safe b (k v)) → Safe b (child_value i k)
  child_safe b i k h = (tt, λ o. over b (p i) (value_then k o) (value_then_safe b k h o))

  located_safe : (b : Bool) (i : ℕ) (k : Location → Script) → ((l : Location) → Safe b (k l)) → Safe b (child_location i k)
  located_safe b i k h = (tt, λ o. over b false (location_then k o) (location_then_safe b k h o))

  cond_safe : (b x : Bool) (s t : Script) → Safe b s → Safe b t → Safe b (cond x s t)
  cond_safe b true s t h g = h
  cond_safe b false s t h g = g

  option_safe : {A : Type 0} (b : Bool) (o : Option A) (s : Script) (k : A → Script) → Safe b s → ((a : A) → Safe b (k a))
      → Safe b (elim o as (λ r. Script) [ None ↦ s | Some a ↦ k a ])
  option_safe b None s k h g = h
  option_safe b (Some a) s k h g = g a

  given_safe : {A : Type 0} (b : Bool) (r : Outcome A) (k : A → Script) → ((a : A) → Safe b (k a)) → Safe b (given r k)
  given_safe b (Gives a) k h = h a
  given_safe b (Outside c) k h = tt

  asking_safe : {A : Type 0} (b : Bool) (r : ByVersion A) (k : A → Script) → ((a : A) → Safe b (k a)) → Safe b (asking r k)
  asking_safe b (Alike a) k h = h a
  asking_safe b (Differs point old new) k h = λ n. cond_safe b n (k new) (k old) (h new) (h old)

  kept_safe : (b : Bool) (k : Value → Script) → ((v : Value) → Safe b (k v)) → (v : Value) → Safe b (kept v k)
  kept_safe b k h Null = h Null
  kept_safe b k h (Truth x) = h (Truth x)
  kept_safe b k h (Int i) = h (Int i)
  kept_safe b k h (Text t) = h (Text t)
  kept_safe b k h (Object n) = h (Object n)
  kept_safe b k h (Arr largest next es) = λ s. given_safe b (copied (cells_of s) s.serials (Arr largest next es)) (λ v. Put (numbered (size v) s) (k v)) (λ v. h v)

  kept_then_safe : (b : Bool) (k : Value → Script) → ((v : Value) → Safe b (k v)) → (o : Out) → Safe b (kept_then k o)
  kept_then_safe b k h (Val v) = kept_safe b k h v
  kept_then_safe b k h (Fresh v) = h v
  kept_then_safe b k h (At l) = tt
  kept_then_safe b k h (Jump w) = tt

  throws_safe : (b : Bool) (c : ExceptionClass) → Safe b (throws c)
  throws_safe b c = λ s. tt

  -- ---- locations

  module _ (t : Tables) (site : Site) where
    of_form_safe : (b : Bool) (s : Site) (o : Option Form) (v : Value) (k : Script) → Safe b k → Safe b (of_form t s o v k)
    of_form_safe b s None v k h = h
    of_form_safe b s (Some f) v k h = λ st. cond_safe b (passes t st s (texts f) v) k (Stop Conversion) h tt

    typed_safe : (b : Bool) (d : Declared) (v : Value) (k : Script) → Safe b k → Safe b (of_type t d v k)
    typed_safe b d v k h =
        option_safe b (declaration_at t d) k (λ e. of_form t e.site (type_form e.kids) v k) h
        (λ e. of_form_safe b e.site (type_form e.kids) v k h)

    held_safe : (b : Bool) (typing : Typing) (v : Value) (k : Script) → Safe b k → Safe b (held_to (properties_at t site) typing v k)
    held_safe b Untyped v k h = h
    held_safe b (Typed d) v k h = typed_safe b d v k h

    found_safe : (b : Bool) (n : ℕ) (name : Bytes) (unseen : Script) (k : Found → Script) → Safe b unseen → ((f : Found) → Safe b (k f))
        → Safe b (found_then t site n name unseen k)
    found_safe b n name unseen k h g = λ s.
        cond_safe b
        (is_barred t s (object_at s.objects n).class name) (Stop NoRule)
        (elim (property_found t s site (object_at s.objects n).class name) as (λ r. Script) [ None ↦ unseen | Some a ↦ k a ]) tt
        (option_safe b (property_found t s site (object_at s.objects n).class name) unseen k h g)

    base_safe : (b : Bool) (v : Value) (name : Bytes) (k : Base → Script) → ((x : Base) → Safe b (k x)) → Safe b (property_base_then t site v name k)
    base_safe b Null name k h = tt
    base_safe b (Truth x) name k h = tt
    base_safe b (Int i) name k h = tt
    base_safe b (Text w) name k h = tt
    base_safe b (Arr largest next es) name k h = tt
    base_safe b (Object n) name k h =
        found_safe b n name (throws Error) (λ f. Look (λ s. k (property_base n f name s))) (throws_safe b Error)
        (λ f s. h (property_base n f name s))

    root_safe : (b : Bool) (r : Root) (k : Base → Script) → ((x : Base) → Safe b (k x)) → Safe b (root_then (properties_at t site) site r k)
    root_safe b (InVariable name) k h = λ s. h (variable_base site name s)
    root_safe b (InProperty v name) k h = base_safe b v name k h
    root_safe b (InStatic class name typing) k h = λ s. h (static_base class name typing s)
    root_safe b (InValue v) k h = tt

    part_safe : (b : Bool) (os : List (Option Value)) (x : Base) (k : Script) → Safe b k → Safe b (unless_part os x k)
    part_safe b [] x k h = h
    part_safe b (o ∷ os) (Made c typing) k h = h
    part_safe b (o ∷ os) (Unmade slot Untyped hold) k h = h
    part_safe b (o ∷ os) (Unmade slot (Typed d) hold) k h = tt

    after_safe : {A : Type 0} (b : Bool) (x : Base) (k : A → Script) → ((a : A) → Safe b (k a)) → (c : Change A)
        → Safe b (after_change (properties_at t site) x k c)
    after_safe b x k h (Changed w u a) = held_safe b (base_typing x) w (Put (numbered 1 (with_base x w u)) (k a)) (h a)
    after_safe b x k h (Refused e) = throws_safe b e

    change_safe : {A : Type 0} (b : Bool) (r : Root) (ks : List (Option Value)) (leaf : Store → Value → ByVersion (Outcome (Change A))) (k : A → Script)
        → ((a : A) → Safe b (k a)) → Safe b (change (properties_at t site) site r ks leaf k)
    change_safe b r ks leaf k h =
        let then_change : Base → Script =
        λ x. Look (λ s. asking (changed_at leaf s (base_value x s) ks) (λ o. given o (after_change (properties_at t site) x k))) in
        root_safe b r (λ x. unless_part ks x (then_change x)) (λ x. part_safe b ks x (then_change x) (λ s.
        asking_safe b (changed_at leaf s (base_value x s) ks) (λ o. given o (after_change (properties_at t site) x k)) (λ o.
        given_safe b o (after_change (properties_at t site) x k) (after_safe b x k h))))

    write_safe : (b : Bool) (l : Location) (v : Value) (k : Script) → Safe b k → Safe b (write (properties_at t site) site l v k)
    write_safe b l v k h = change_safe b l.root l.offsets (written v) (λ u. k) (λ u. h)

    base_cell_safe : (b : Bool) (k : Cell → Script) → ((c : Cell) → Safe b (k c)) → (x : Base) → Safe b (base_cell k x)
    base_cell_safe b k h (Made c Untyped) = h c
    base_cell_safe b k h (Made c (Typed d)) = tt
    base_cell_safe b k h (Unmade slot Untyped hold) = λ s. h (next_cell slot s)
    base_cell_safe b k h (Unmade slot (Typed d) hold) = tt

    cell_safe : (b : Bool) (taker : Slot) (l : Location) (k : Cell → Script) → ((c : Cell) → Safe b (k c)) → Safe b (cell_then (properties_at t site) site taker l k)
    cell_safe b taker l k h =
        option_safe b (last_of l.offsets) (root_then (properties_at t site) site l.root (base_cell k))
        (λ key. change (properties_at t site) site l.root (front l.offsets) (shared_at taker key) k)
        (root_safe b l.root (base_cell k) (base_cell_safe b k h))
        (λ key. change_safe b l.root (front l.offsets) (shared_at taker key) k h)

    member_safe : (b : Bool) (typing : Typing) (n : ℕ) (m : Member) (c : Cell) (k : Script) → Safe b k → Safe b (bind_member typing n m c k)
    member_safe b Untyped n m c k h = λ s. h
    member_safe b (Typed d) n m c k h = tt

    bound_safe : (b : Bool) (v : Value) (name : Bytes) (c : Cell) (k : Script) → Safe b k → Safe b (bind_property t site v name c k)
    bound_safe b Null name c k h = tt
    bound_safe b (Truth x) name c k h = tt
    bound_safe b (Int i) name c k h = tt
    bound_safe b (Text w) name c k h = tt
    bound_safe b (Arr largest next es) name c k h = tt
    bound_safe b (Object n) name c k h =
        found_safe b n name (Stop Reference) (λ f. bind_member f.typing n f.member c k) tt (λ f. member_safe b f.typing n f.member c k h)

    bind_root_safe : (b : Bool) (r : Root) (c : Cell) (k : Script) → Safe b k → Safe b (bind_root (properties_at t site) r c k)
    bind_root_safe b (InVariable name) c k h = λ s. h
    bind_root_safe b (InProperty v name) c k h = bound_safe b v name c k h
    bind_root_safe b (InStatic class name Untyped) c k h = λ s. h
    bind_root_safe b (InStatic class name (Typed d)) c k h = tt
    bind_root_safe b (InValue v) c k h = tt

    bind_safe : (b : Bool) (l : Location) (c : Cell) (k : Script) → Safe b k → Safe b (bind (properties_at t site) site l c k)
    bind_safe b l c k h =
        option_safe b (last_of l.offsets) (bind_root (properties_at t site) l.root c k)
        (λ key. change (properties_at t site) site l.root (front l.offsets) (bound_at key c) (λ u. k)) (bind_root_safe b l.root c k h)
        (λ key. change_safe b l.root (front l.offsets) (bound_at key c) (λ u. k) (λ u. h))

  -- ---- passes

  after_jump_safe : (b : Bool) (next : Script) → Safe b next → (w : Way) → Safe b (after_jump next w)
  after_jump_safe b next h (Return v) = tt
  after_jump_safe b next h (Throw n) = tt
  after_jump_safe b next h (Break zero) = tt
  after_jump_safe b next h (Break (suc zero)) = tt
  after_jump_safe b next h (Break (suc (suc n))) = tt
  after_jump_safe b next h (Continue zero) = tt
  after_jump_safe b next h (Continue (suc zero)) = h
  after_jump_safe b next h (Continue (suc (suc n))) = tt

  after_pass_safe : (b : Bool) (next : Script) → Safe b next → (o : Out) → Safe b (after_pass next o)
  after_pass_safe b next h (Val v) = h
  after_pass_safe b next h (Fresh v) = h
  after_pass_safe b next h (At l) = h
  after_pass_safe b next h (Jump w) = after_jump_safe b next h w

  run_then_safe : (i n : ℕ) (k : Out → Script) → ((o : Out) → Safe true (k o)) → Safe true (run_then i n k)
  run_then_safe i zero k h = h (Val Null)
  run_then_safe i (suc n) k h = (tt, by_out (run_then_safe (suc i) n k h))
    where
      by_out : Safe true (run_then (suc i) n k) → (o : Out)
          → Safe true (elim o as (λ r. Script) [ Val v ↦ run_then (suc i) n k | Fresh v ↦ run_then (suc i) n k | At l ↦ k (At l) | Jump w ↦ k (Jump w) ])
      by_out g (Val v) = g
      by_out g (Fresh v) = g
      by_out g (At l) = h (At l)
      by_out g (Jump w) = h (Jump w)

  turned_child : (x : Bool) (s : Script) → IsTrue x → Safe true s → Safe x s
  turned_child true s e h = h
  turned_child false s e h = absurd cc

  -- whether the body takes a turn: it stands behind a colon, or is a child that does
  abbrev pub Takes : Form → Type 0
  Takes f = IsTrue (has_word (codes ":") (texts f) || p (kids f - 1))

  body_safe : (f : Form) (i : ℕ) (k : Out → Script) → Takes f → ((o : Out) → Safe true (k o)) → Safe false (body f i k)
  body_safe f i k e h = by_colon (has_word (codes ":") (texts f)) e
    where
      by_colon : (x : Bool) → IsTrue (x || p (kids f - 1)) → Safe false (cond x (Turn (run_then i (kids f - i) k)) (Run (Kid (kids f - 1) Read) k))
      by_colon true g = run_then_safe i (kids f - i) k h
      by_colon false g = (tt, λ o. turned_child (p (kids f - 1)) (k o) g (h o))

  -- a further pass, once a turn was taken
  again_safe : (m : Mode) → IsTrue (is_pass m) → Safe true (Run (Again m) Give)
  again_safe m e = ((refl, e), λ o. tt)

  -- ---- while, do and for

  abbrev further : Script
  further = Run (Again Later) Give

  while_safe : (f : Form) → Takes f → Safe false (while_pass f)
  while_safe f e =
      child_safe false 0 (λ v. cond (to_truth v) (body f 1 (after_pass further)) (give Null)) (λ v.
      cond_safe false (to_truth v) (body f 1 (after_pass further)) (give Null)
      (body_safe f 1 (after_pass further) e (after_pass_safe true further (again_safe Later refl))) tt)

  do_safe : IsTrue (p 0) → Safe false do_pass
  do_safe e =
      let test : Script = child_value 1 (λ v. cond (to_truth v) further (give Null)) in (
        tt,
        λ o. turned_child (p 0) (after_pass test o) e (after_pass_safe true test
            (child_safe true 1 (λ v. cond (to_truth v) further (give Null)) (λ v. cond_safe true (to_truth v) further (give Null) (again_safe Later refl) tt)) o),
      )

  last_safe : (b : Bool) (i n : ℕ) (v : Value) (k : Value → Script) → ((w : Value) → Safe b (k w)) → Safe b (last_value i n v k)
  last_safe b i zero v k h = h v
  last_safe b i (suc n) v k h = child_safe b i (λ w. last_value (suc i) n w k) (λ w. last_safe b (suc i) n w k h)

  for_test_safe : (f : Form) → Takes f → Safe false (for_test f)
  for_test_safe f e =
      let bodies : Script = body f (first_part f + second_part f + third_part f) (after_pass further) in
      last_safe false (first_part f) (second_part f) (Truth true) (λ v. cond (to_truth v) bodies (give Null)) (λ v.
      cond_safe false (to_truth v) bodies (give Null)
      (body_safe f (first_part f + second_part f + third_part f) (after_pass further) e (after_pass_safe true further (again_safe Later refl))) tt)

  for_first_safe : (f : Form) → Takes f → Safe false (for_first f)
  for_first_safe f e = last_safe false 0 (first_part f) Null (λ v. for_test f) (λ v. for_test_safe f e)

  for_later_safe : (f : Form) → Takes f → Safe false (for_later f)
  for_later_safe f e =
      last_safe false (first_part f + second_part f) (third_part f) Null (λ v. for_test f) (λ v. for_test_safe f e)

  -- ---- foreach

  module _ (t : Tables) (site : Site) (f : Form) (e : Takes f) where
    abbrev at_site : Properties
    at_site = properties_at t site

    with_key_safe : (key : Key) (next : Script) → Safe true next → Safe false (with_key at_site site f key next)
    with_key_safe key next h =
        cond_safe false (has_key f) (child_location 1 (λ l. write at_site site l (key_value key) (body f 3 (after_pass next)))) (body f 2 (after_pass next))
        (located_safe false 1 (λ l. write at_site site l (key_value key) (body f 3 (after_pass next))) (λ l.
        write_safe t site false l (key_value key) (body f 3 (after_pass next)) (body_safe f 3 (after_pass next) e (after_pass_safe true next h))))
        (body_safe f 2 (after_pass next) e (after_pass_safe true next h))

    item_safe : (k : Key) (v : Value) (rest : Entries)
        → Safe false (child_location (value_index f) (λ l. write at_site site l v (with_key at_site site f k (Run (Again (Left rest)) Give))))
    item_safe k v rest =
        located_safe false (value_index f) (λ l. write at_site site l v (with_key at_site site f k (Run (Again (Left rest)) Give))) (λ l.
        write_safe t site false l v (with_key at_site site f k (Run (Again (Left rest)) Give))
        (with_key_safe k (Run (Again (Left rest)) Give) (again_safe (Left rest) refl)))

    left_safe : (es : Entries) → Safe false (foreach_pass at_site site f es)
    left_safe none = tt
    left_safe (own k n v rest) = item_safe k v rest
    left_safe (shared k n c rest) = λ st. item_safe k (st.held c) rest

    meet_safe : (c : Cell) (a : Array) (o : Option Entry) → Safe false (meet at_site site f c a o)
    meet_safe c a None = tt
    meet_safe c a (Some x) =
        let next : Script = Run (Again (Behind c (Some x.serial))) Give in
        let bound : Location → Cell → Script = λ l d. bind at_site site l d (with_key at_site site f x.key next) in
        let changes : Location → Outcome (Change Cell) → Script = λ l o. given o (after_change at_site (Made c Untyped) (bound l)) in
        let shares : Location → Script = λ l. Look (λ st. asking (shared_element (slot_of site l) a x.key (Some x.element) st) (changes l)) in
        located_safe false (value_index f) (λ l. cond (has_offsets l) (Stop NoRule) (shares l)) (λ l.
        cond_safe false (has_offsets l) (Stop NoRule) (shares l) tt (λ st.
        asking_safe false (shared_element (slot_of site l) a x.key (Some x.element) st) (changes l) (λ o.
        given_safe false o (after_change at_site (Made c Untyped) (bound l)) (after_safe t site false (Made c Untyped) (bound l) (λ d.
        bind_safe t site false l d (with_key at_site site f x.key next) (with_key_safe x.key next (again_safe (Behind c (Some x.serial)) refl)))))))

    behind_safe : (c : Cell) (met : Option ℕ) (v : Value) → Safe false (foreach_behind at_site site f c met v)
    behind_safe c met Null = tt
    behind_safe c met (Truth x) = tt
    behind_safe c met (Int i) = tt
    behind_safe c met (Text w) = tt
    behind_safe c met (Object n) = tt
    behind_safe c met (Arr largest next es) = meet_safe c (record { largest = largest; next = next; entries = es }) (entry_after met es)

  over_safe : (v : Value) → Safe true (foreach_over v)
  over_safe Null = tt
  over_safe (Truth x) = tt
  over_safe (Int i) = tt
  over_safe (Text w) = tt
  over_safe (Object n) = tt
  over_safe (Arr largest next es) = again_safe (Left es) refl

  foreach_safe : (t : Tables) (site : Site) (f : Form) → Safe true (foreach (properties_at t site) site f)
  foreach_safe t site f =
      let begun : Cell → Script =
      λ c. Look (λ st. Put (walking c st) (Run (Again (Behind c None)) (λ o. Look (λ u. Put (walked_over c u) (Give o))))) in
      cond_safe true (by_reference f) (child_location 0 (λ l. cell_then (properties_at t site) site Unnamed l begun)) (Run (Kid 0 Read) (kept_then foreach_over))
      (located_safe true 0 (λ l. cell_then (properties_at t site) site Unnamed l begun) (λ l. cell_safe t site true Unnamed l begun (λ c st. ((refl, refl), λ o u. tt))))
      (tt, λ o. kept_then_safe true foreach_over over_safe o)

  -- ---- the rules of loops

  -- what takes the turn of a loop's body: behind a colon, the last child, or of a `do` the first one
  abbrev pub BodyTakes : NodeKind → Form → Type 0
  BodyTakes kind.DoWhile f = IsTrue (p 0)
  BodyTakes k f = Takes f

  -- the rules of `while`, `do` and `for`, in any way, and of `foreach` in its further passes
  module _ (t : Tables) (s : Site) (f : Form) where
    while_rule : Takes f → (m : Mode) → Safe false (rule t s kind.While m f)
    while_rule e Read = while_safe f e
    while_rule e Quiet = while_safe f e
    while_rule e Top = while_safe f e
    while_rule e Early = while_safe f e
    while_rule e Later = while_safe f e
    while_rule e m = tt

    do_rule : IsTrue (p 0) → (m : Mode) → Safe false (rule t s kind.DoWhile m f)
    do_rule e Read = do_safe e
    do_rule e Quiet = do_safe e
    do_rule e Top = do_safe e
    do_rule e Early = do_safe e
    do_rule e Later = do_safe e
    do_rule e m = tt

    for_rule : Takes f → (m : Mode) → Safe false (rule t s kind.For m f)
    for_rule e Read = for_first_safe f e
    for_rule e Quiet = for_first_safe f e
    for_rule e Top = for_first_safe f e
    for_rule e Early = for_first_safe f e
    for_rule e Later = for_later_safe f e
    for_rule e m = tt

    foreach_rule : Takes f → (m : Mode) → IsTrue (is_pass m) → Safe false (rule t s kind.Foreach m f)
    foreach_rule e (Left es) h = left_safe t s f e es
    foreach_rule e (Behind c met) h = λ st. behind_safe t s f e c met (st.held c)
    foreach_rule e Later h = tt
    foreach_rule e m h = absurd cc

    foreach_first : Takes f → (m : Mode) → Safe true (rule t s kind.Foreach m f)
    foreach_first e Read = foreach_safe t s f
    foreach_first e Quiet = foreach_safe t s f
    foreach_first e Top = foreach_safe t s f
    foreach_first e Early = foreach_safe t s f
    foreach_first e (Left es) = raise false (foreach_pass (properties_at t s) s f es) (left_safe t s f e es)
    foreach_first e (Behind c met) = λ st. raise false (foreach_behind (properties_at t s) s f c met (st.held c)) (behind_safe t s f e c met (st.held c))
    foreach_first e m = tt

    -- a further pass of a loop goes on with another one only after a turn
    pub passes_safe : (k : NodeKind) → IsTrue (is_loop k) → BodyTakes k f → (m : Mode) → IsTrue (is_pass m) → Safe false (rule t s k m f)
    passes_safe kind.While l e m h = while_rule e m
    passes_safe kind.DoWhile l e m h = do_rule e m
    passes_safe kind.For l e m h = for_rule e m
    passes_safe kind.Foreach l e m h = foreach_rule e m h
    passes_safe k l e m h = absurd cc

    -- and the first one goes on with further passes alone
    pub first_safe : (k : NodeKind) → IsTrue (is_loop k) → BodyTakes k f → (m : Mode) → Safe true (rule t s k m f)
    first_safe kind.While l e m = raise false (rule t s kind.While m f) (while_rule e m)
    first_safe kind.DoWhile l e m = raise false (rule t s kind.DoWhile m f) (do_rule e m)
    first_safe kind.For l e m = raise false (rule t s kind.For m f) (for_rule e m)
    first_safe kind.Foreach l e m = foreach_first e m
    first_safe k l e m = absurd cc
