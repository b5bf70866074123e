-- A quoted text in 7.4 does what the rewritten one does in 8.3: `{$x}` for `${x}`, `{$x[..]}` for `${x[..]}`.
use Rattle.std.proofs.Common.{
  ◌≡◌,
  ℕ,
  zero,
  suc,
  ◌+◌,
  Bool,
  true,
  false,
  ◌&&◌,
  ◌||◌,
  if◌then◌else◌,
  cond,
  IsTrue,
  List,
  [],
  ◌∷◌,
  ◌++◌,
  length,
  codes,
  Option,
  None,
  Some,
  refl,
  ap,
  sym,
  ◌∙◌,
  subst,
}
use Rattle.std.specs.Str.{bytes_eq}
use Rattle.php_tree.specs.declared.token.TokenKind.{TokenKind}
use Rattle.php_tree.specs.declared.token.TokenKind.TheVariants as token
use Rattle.php_tree.specs.declared.token.Token.{Token}
use Rattle.php_tree.specs.declared.kind.NodeKind.{NodeKind}
use Rattle.php_tree.specs.declared.kind.NodeKind.TheVariants as kind
use Rattle.php_tree.specs.Tree.{Forest, none, leaf, node}
use Rattle.php_meaning.specs.values.Value.{Value, Text, Object}
use Rattle.php_meaning.specs.Cause.{Cause, NoRule, Outcome, Gives, Outside, Came, Returns, Throws, ExceptionClass, exception_name}
use Rattle.php_meaning.specs.values.Convert.{to_text}
use Rattle.php_meaning.specs.values.Offsets.{Strict, at_offset}
use Rattle.php_meaning.specs.runs.World.{Bytes, Store, Place, World, Moment, Before, After, with_object}
use Rattle.scope_names.specs.Sites.{Site}
use Rattle.php_meaning.specs.expressions.Expressions.{offset_of}
use Rattle.scope_names.specs.Form.{Form, Word, Child, Part, word, child, part_of, part_before, parts, bits, form, joins, is_name_part, is_namespace, first_is, is_backslash}
use Rattle.php_meaning.specs.runs.Stores.{cells_of, held_or_null, variable_cell}
use Rattle.php_meaning.specs.runs.Script.{
  Throw,
  Jump,
  Out,
  Val,
  Fresh,
  At,
  Mode,
  Read,
  Target,
  Kid,
  Script,
  Give,
  Stop,
  Look,
  Run,
  give,
  value_then,
  child_value,
  given,
  came_then,
  throws,
}
use Rattle.php_meaning.specs.expressions.QuotedTexts.{
  object_then,
  variable_read,
  Style,
  piece,
  ends_line,
  Standing,
  InText,
  InCode,
  BeforeBrace,
  BehindDollar,
  BehindName,
  InBrackets,
  BeforeBracket,
  text_then,
  text_at,
  quoted,
  ends_here,
  object_of,
  is_filled,
}
use Rattle.php_meaning.specs.runs.Run.{Result, Done, Over, then_do, play, Entry, going, place_in, told, left, value_of}
use Rattle.php_meaning.specs.laws.Following.{Same}
use Rattle.php_meaning.specs.laws.Across.{Claim, world_in, Grown, Meets, FollowsAcross, Across}
use Rattle.php_meaning.proofs.Across.{grown, grown_more, then_grown, then_follows}
use Rattle.syntax_rules.specs.DollarBrace.{ends_bare}
use Rattle.syntax_rules.proofs.Rewrites.{IsToken}

-- ---- common steps

module _ (claim : Claim) (here there : Place) (go to : Target → World → Result) where
  -- what two scripts do
  abbrev pub Plays : Script → Script → Type 0
  Plays a b = Across claim (play false here go a) (play true there to b)

  pub gives_alike : (o : Out) → Plays (Give o) (Give o)
  gives_alike o = record { grows = λ w. grown w; follows = λ w u s a. (refl, s) }

  pub stops_alike : (c : Cause) (b : Script) → Plays (Stop c) b
  stops_alike c b = record { grows = λ w. grown w; follows = λ w u s a i. absurd i }

  pub looks_alike : (k l : Store → Script) → ((st : Store) → Plays (k st) (l st)) → Plays (Look k) (Look l)
  looks_alike k l h = record {
    grows = λ w. (h w.store).grows w;
    follows = λ w u s.
        subst (λ st. FollowsAcross claim (play false here go (k w.store) w) (play true there to (l st) u)) (sym s.store) ((h w.store).follows w u s);
  }

  pub given_alike : {A : Type 0} (o : Outcome A) (k l : A → Script) → ((a : A) → Plays (k a) (l a)) → Plays (given o k) (given o l)
  given_alike (Gives a) k l h = h a
  given_alike (Outside c) k l h = stops_alike c (Stop c)

  pub throws_alike : (c : ExceptionClass) → Plays (throws c) (throws c)
  throws_alike c = record {
    grows = λ w. let g = grown w in record { asked = g.asked; visits = g.visits };
    follows = λ w u e a. (
      ap (λ (st : Store). Jump (Throw (length st.objects))) e.store,
      record { store = ap (with_object (exception_name c)) e.store; echo = e.echo; turns = e.turns },
    );
  }

  pub value_alike : (k l : Value → Script) → ((v : Value) → Plays (k v) (l v)) → (o : Out) → Plays (value_then k o) (value_then l o)
  value_alike k l h (Val v) = h v
  value_alike k l h (Fresh v) = h v
  value_alike k l h (At x) = stops_alike NoRule (Stop NoRule)
  value_alike k l h (Jump w) = gives_alike (Jump w)

  pub runs_alike : (x y : Target) (k l : Out → Script) → Across claim (go x) (to y) → ((o : Out) → Plays (k o) (l o)) → Plays (Run x k) (Run y l)
  runs_alike x y k l h g = record {
    grows = λ w. then_grown w (go x w) (λ o u. play false here go (k o) u) (h.grows w) (λ o u. (g o).grows u);
    follows = λ w u s. then_follows claim (go x w) (to y u) (λ o a. play false here go (k o) a) (λ o a. play true there to (l o) a) (h.follows w u s) g;
  }

  pub text_alike : (v : Value) (k l : Bytes → Script) → ((b : Bytes) → Plays (k b) (l b)) → Plays (text_then v k) (text_then v l)
  text_alike v k l h = given_alike (to_text v) k l h

-- ---- variables

-- a node within another one, once the other one is left
pub left_then : (s : Site) (id : ℕ) (m : Mode) (r : Result) (k l : Out → World → Result)
    → then_do (left s id m (then_do r k)) l ≡ then_do r (λ o u. then_do (left s id m (k o u)) l)
left_then s id m (Done o w) k l = refl
left_then s id m (Over e w) k l = refl

pub same_told : {w u : World} (s : Site) (id : ℕ) (m : Moment) (v : Option Value) → Same w u → Same w (told s id m v u)
same_told s id m v e = record { store = e.store; echo = e.echo; turns = e.turns }

-- what a node does that reads a variable, before what goes on with its value
abbrev pub variable_node : (s : Site) (id : ℕ) (i : Mode) (go : Target → World → Result) (name : Bytes) → World → Result
variable_node s id i go name u = left s id i (play true (place_in s id) go (variable_read name give) (told s id Before None u))

module _ (claim : Claim) (here : Place) (go to : Target → World → Result) (s : Site) (id : ℕ) (i : Mode) (name : Bytes) (m : Value → Script)
    (onward : Out → World → Result) (h : (v : Value) → Across claim (play false here go (m v)) (onward (Val v))) where
  -- by the object that the code runs in
  object_follows : (o : Option ℕ) (w u : World) → Same w u
      → FollowsAcross claim (play false here go (object_then o m) w) (then_do (left s id i (play true (place_in s id) to (object_then o give) (told s id Before None u))) onward)
  object_follows None w u e = λ a i. absurd i
  object_follows (Some n) w u e =
      (h (Object n)).follows w (told s id After (value_of i (Val (Object n))) (told s id Before None u))
      (same_told s id After (value_of i (Val (Object n))) (same_told s id Before None e))

  object_grows : (o : Option ℕ) (w : World) → Grown (world_in (play false here go (object_then o m) w)) w
  object_grows None w = grown w
  object_grows (Some n) w = (h (Object n)).grows w

  variable_follows : (b : Bool) (w u : World) → Same w u
      → FollowsAcross claim
      (play false here go (if b then Look (λ st. object_then (object_of name st) m) else Look (λ st. m (held_or_null st (variable_cell name st)))) w)
      (then_do (left s id i (play true (place_in s id) to
      (if b then Look (λ st. object_then (object_of name st) give) else Look
      (λ st. give (held_or_null st (variable_cell name st)))) (told s id Before None u))) onward)
  variable_follows true w u e =
      subst (λ st. FollowsAcross claim (play false here go (object_then (object_of name w.store) m) w)
      (then_do (left s id i (play true (place_in s id) to (object_then (object_of name st) give)
      (told s id Before None u))) onward))
      (sym e.store) (object_follows (object_of name w.store) w u e)
  variable_follows false w u e =
      let v : Store → Value = λ st. held_or_null st (variable_cell name st) in
      subst (λ st. FollowsAcross claim (play false here go (m (v w.store)) w)
      (onward (Val (v st)) (told s id After (value_of i (Val (v st))) (told s id Before None u))))
      (sym e.store)
      ((h (v w.store)).follows w (told s id After (value_of i (Val (v w.store))) (told s id Before None u))
      (same_told s id After (value_of i (Val (v w.store))) (same_told s id Before None e)))

  variable_grows : (b : Bool) (w : World)
      → Grown (world_in (play false here go (if b then Look (λ st. object_then (object_of name st) m) else Look (λ st. m (held_or_null st (variable_cell name st)))) w)) w
  variable_grows true w = object_grows (object_of name w.store) w
  variable_grows false w = (h (held_or_null w.store (variable_cell name w.store))).grows w

  -- a variable is read where its name stands, and in 8.3 at a node of its own
  pub variable_across : Across claim (play false here go (variable_read name m)) (λ u. then_do (variable_node s id i to name u) onward)
  variable_across = record {
    grows = λ w. variable_grows (is_filled name) w;
    follows = λ w u e. variable_follows (is_filled name) w u e;
  }

-- ---- offsets

module _ (claim : Claim) (here there : Place) (go to over : Target → World → Result) (s : Site) (id : ℕ) (k l : Bytes → Script)
    (h : (b : Bytes) → Plays claim here there go to (k b) (l b)) where
  -- what comes behind the text of a node
  abbrev pub behind_text : Out → World → Result
  behind_text o u = play true there to (value_then (λ v. text_then v l) o) u

  offset_follows : (o : Outcome Came) (w u : World) → Same w u
      → FollowsAcross claim (play false here go (given o (came_then (λ v. text_then v k))) w)
      (then_do (left s id Read (play true (place_in s id) over (given o (came_then give)) u)) behind_text)
  offset_follows (Outside c) w u e = λ a i. absurd i
  offset_follows (Gives (Returns v)) w u e =
      (text_alike claim here there go to v k l h).follows w (told s id After (Some v) u) (same_told s id After (Some v) e)
  offset_follows (Gives (Throws c)) w u e = λ a. (
    ap (λ (st : Store). Jump (Throw (length st.objects))) e.store,
    record { store = ap (with_object (exception_name c)) e.store; echo = e.echo; turns = e.turns },
  )

  offset_grows : (o : Outcome Came) (w : World) → Grown (world_in (play false here go (given o (came_then (λ v. text_then v k))) w)) w
  offset_grows (Outside c) w = grown w
  offset_grows (Gives (Returns v)) w = (text_alike claim here there go to v k l h).grows w
  offset_grows (Gives (Throws c)) w = let g = grown w in record { asked = g.asked; visits = g.visits }

  pub offset_across : (v key : Value)
      → Across claim (play false here go (text_at v key k)) (λ u. then_do (left s id Read (play true (place_in s id) over (offset_of Strict v key) u)) behind_text)
  offset_across v key = record {
    grows = λ w. offset_grows (at_offset (cells_of w.store) Strict v key) w;
    follows = λ w u e.
        subst (λ st. FollowsAcross claim (play false here go (given (at_offset (cells_of w.store) Strict v key) (came_then (λ x. text_then x k))) w)
        (then_do (left s id Read (play true (place_in s id) over (given (at_offset (cells_of st) Strict v key) (came_then give)) u)) behind_text)) (sym e.store)
        (offset_follows (at_offset (cells_of w.store) Strict v key) w u e);
  }

  -- the offset's key is a child in both, behind which comes what does the same
  module _ (old new : Value → Script)
      (same : (key : Value) → Across claim (play false here go (old key)) (λ u. then_do (left s id Read (play true (place_in s id) over (new key) u)) behind_text)) where
    key_across : (o : Out)
        → Across claim (play false here go (value_then old o)) (λ u. then_do (left s id Read (play true (place_in s id) over (value_then new o) u)) behind_text)
    key_across (Val key) = same key
    key_across (Fresh key) = same key
    key_across (At x) = record { grows = λ w. grown w; follows = λ w u e a i. absurd i }
    key_across (Jump x) = record { grows = λ w. grown w; follows = λ w u e a. (refl, record { store = e.store; echo = e.echo; turns = e.turns }) }

    pub keyed_across : (i : ℕ) (kid lid : World → Result) → Across claim kid lid
        → ((w : World) → go (Kid i Read) w ≡ kid w) → ((u : World) → over (Kid 1 Read) u ≡ lid u)
        → Across claim (play false here go (child_value i old)) (λ u. then_do (left s id Read (play true (place_in s id) over (child_value 1 new) u)) behind_text)
    keyed_across i kid lid g e d = record {
      grows = λ w.
          subst (λ r. Grown (world_in (then_do r (λ o x. play false here go (value_then old o) x))) w) (sym (e w))
          (then_grown w (kid w) _ (g.grows w) (λ o x. (key_across o).grows x));
      follows = λ w u z.
          subst (λ r. FollowsAcross claim r (then_do (left s id Read (play true (place_in s id) over (child_value 1 new) u)) behind_text))
          (ap (λ r. then_do r (λ o x. play false here go (value_then old o) x)) (sym (e w)))
          (subst (λ r. FollowsAcross claim (then_do (kid w) (λ o x. play false here go (value_then old o) x)) r)
          (sym (ap (λ r. then_do (left s id Read (then_do r (λ o x. play true (place_in s id) over (value_then new o) x))) behind_text) (d u)
          ∙ left_then s id Read (lid u) _ behind_text))
          (then_follows claim (kid w) (lid u) _ _ (g.follows w u z) (λ o. key_across o)));
    }
