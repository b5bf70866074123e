-- `(unset)$x` in 7.4 does what `(null)` does in 8.3, whatever `$x` holds.
use Rattle.std.specs.Prelude.{◌≡◌, ℕ, suc, Bool, true, false, if◌then◌else◌, List, [], ◌∷◌, codes, refl, Option, None, Some}
use Rattle.std.specs.Str.{bytes_eq}
use Rattle.std.proofs.Common.{ap, sym, ◌∙◌, subst}
use Rattle.php_tree.specs.declared.token.Token.{Token}
use Rattle.php_tree.specs.declared.kind.NodeKind.TheVariants as kind
use Rattle.php_tree.specs.Tree.{Forest, none, leaf, node}
use Rattle.php_meaning.specs.values.Value.{Value, Null, Object}
use Rattle.php_meaning.specs.Cause.{Cause, NoRule}
use Rattle.scope_names.specs.Form.{Word, Child, form}
use Rattle.scope_names.specs.Sites.{Site}
use Rattle.php_meaning.specs.names.Tables.{Tables}
use Rattle.php_meaning.specs.literals.Literals.{found}
use Rattle.php_meaning.specs.runs.Stores.{held_or_null, variable_cell}
use Rattle.php_meaning.specs.runs.World.{Bytes, Store, Place, Outside, Before, After, World}
use Rattle.php_meaning.specs.runs.Script.{Val, Mode, Read, Quiet, Target, Stop, Look, give, value_then, child_value, Top, Unchanged, Early, stands}
use Rattle.php_meaning.specs.expressions.QuotedTexts.{object_then, variable_read, object_of, is_filled}
use Rattle.php_meaning.specs.expressions.Expressions.{plain_name}
use Rattle.php_meaning.specs.Rules.{rule, cast, casts, cast_word, cast_again}
use Rattle.php_meaning.specs.runs.Run.{Mark, Result, Done, Over, then_do, play, Entry, is_stopped, place_in, told, left, value_of, unless_stopped, going, passes, at_node, step}
use Rattle.php_meaning.specs.laws.Following.{Same}
use Rattle.php_meaning.specs.laws.Across.{Claim, world_in, Grown, FollowsAcross, Across, DoesAcross}
use Rattle.php_meaning.proofs.Across.{grown, grown_more, told_grown, no_rule_across}

-- what reading a variable comes to: a value, with nothing changed and nothing asked, or a mark
data Harmless (u : World) : Result → Type 0 where
  came : {v : Value} {w : World} → Same u w → Grown w u → Harmless u (Done (Val v) w)
  out : {p : Place} {c : Cause} {w : World} → Grown w u → Harmless u (Over (Outside p c) w)

same_world : (u : World) → Same u u
same_world u = record { store = refl; echo = refl; turns = refl }

-- the value of a variable at its node
value_harmless : (s : Site) (id : ℕ) (v : Value) (u : World) → Harmless u (left s id Read (Done (Val v) (told s id Before None u)))
value_harmless s id v u =
    came (record { store = refl; echo = refl; turns = refl })
    (grown_more (told s id After (Some v) (told s id Before None u)) (told s id Before None u) u
    (told_grown s id After (Some v) (told s id Before None u)) (told_grown s id Before None u))

object_harmless : (o : Option ℕ) (s : Site) (id : ℕ) (go : Target → World → Result) (u : World)
    → Harmless u (left s id Read (play false (place_in s id) go (object_then o give) (told s id Before None u)))
object_harmless None s id go u = out (told_grown s id Before None u)
object_harmless (Some n) s id go u = value_harmless s id (Object n) u

reading_harmless : (stop : Bool) (s : Site) (id : ℕ) (go : Target → World → Result) (name : Bytes) (u : World)
    → Harmless u (unless_stopped stop (place_in s id) u (left s id Read (play false (place_in s id) go (variable_read name give) (told s id Before None u))))
reading_harmless true s id go name u = out (grown u)
reading_harmless false s id go name u =
    elim (is_filled name)
    as (λ b. Harmless u (left s id Read (play false (place_in s id) go
    (if b then Look (λ st. object_then (object_of name st) give) else Look
    (λ st. give (held_or_null st (variable_cell name st)))) (told s id Before None u)))) [
      | true ↦ object_harmless (object_of name u.store) s id go u
      | false ↦ value_harmless s id (held_or_null u.store (variable_cell name u.store)) u
    ]

-- the value is dropped for null
abbrev dropped : Place → (Target → World → Result) → Result → Result
dropped here go r = then_do r (λ o w. play false here go (value_then (λ v. give Null) o) w)

dropped_grows : (here : Place) (go : Target → World → Result) (s : Site) (id : ℕ) (m : Mode) (u : World) (r : Result) → Harmless u r
    → Grown (world_in (left s id m (dropped here go r))) u
dropped_grows here go s id m u r (came {w = w} same e) =
    let v : Option Value = value_of m (Val Null) in grown_more (told s id After v w) w u (told_grown s id After v w) e
dropped_grows here go s id m u r (out e) = e

dropped_follows : (claim : Claim) (here : Place) (go : Target → World → Result) (s : Site) (id : ℕ) (m : Mode) (u w : World) (r : Result) → Harmless u r → Same u w
    → FollowsAcross claim (left s id m (dropped here go r)) (Done (Val Null) w)
dropped_follows claim here go s id m u w r (came same e) z =
    λ a. (refl, record { store = z.store ∙ sym same.store; echo = z.echo ∙ sym same.echo; turns = z.turns ∙ sym same.turns })
dropped_follows claim here go s id m u w r (out e) z = λ a i. absurd i

-- the trees
abbrev cast_of : Token → Token → Forest
cast_of u x = leaf u (node kind.Variable (leaf x none) none)

abbrev null_of : Token → Token → Token → Forest
null_of o n p = leaf o (node kind.Constant (leaf n none) (leaf p none))

-- a node that is marked, or drops a harmless value
dropped_across : (claim : Claim) (stop : Bool) (s : Site) (id : ℕ) (m : Mode) (f : World → Result) (g : World → Result)
    → ((w : World) → Grown (world_in (left s id m (f (told s id Before None w)))) w)
    → ((w u : World) → Same w u → FollowsAcross claim (left s id m (f (told s id Before None w))) (g u))
    → Across claim (λ w. unless_stopped stop (place_in s id) w (left s id m (f (told s id Before None w)))) g
dropped_across claim true s id m f g x y = record { grows = λ w. grown w; follows = λ w u z a i. absurd i }
dropped_across claim false s id m f g x y = record { grows = x; follows = y }

module _ (claim : Claim) (t t' : Tables) (s : Site) (u x o n p : Token) (is_unset : cast_word u.text ≡ codes "(unset)") (is_null : n.text ≡ codes "null") where
  module _ (marks : List Mark) (lower low : Entry → World → Result) (id jd : ℕ) where
    -- in a mode in which the cast reads its operand, and the constant gives null
    reads_across : (m : Mode)
        → rule t s kind.Cast m (Word u.kind u.text ∷ Child ∷ []) ≡ cast (found casts (cast_word u.text))
        → rule t' s kind.Constant m (Word n.kind (codes "null") ∷ []) ≡ give Null
        → Across claim (step false t marks lower s (node kind.Cast (cast_of u x) none) id 0 m) (step true t' [] low s (node kind.Paren (null_of o n p) none) jd 0 m)
    reads_across m reads gives =
        dropped_across claim (is_stopped marks s.file id) s id m
        (at_node false t lower s kind.Cast (cast_of u x) id (step false t marks lower s (cast_of u x) (suc id)) m)
        (step true t' [] low s (node kind.Paren (null_of o n p) none) jd 0 m)
        (λ w. subst (λ r. Grown (world_in (left s id m r)) w) (sym (comes (told s id Before None w)))
        (grown_more _ (told s id Before None w) w
        (dropped_grows (place_in s id) (onward (told s id Before None w)) s id m (told s id Before None w) _ (harmless (told s id Before None w)))
        (told_grown s id Before None w)))
        (λ w a z. subst (λ r. FollowsAcross claim (left s id m r) (step true t' [] low s (node kind.Paren (null_of o n p) none) jd 0 m a)) (sym (comes (told s id Before None w)))
        (subst (λ r. FollowsAcross claim (left s id m (dropped (place_in s id) (onward (told s id Before None w))
        (step false t marks lower s (cast_of u x) (suc id) 0 Read (told s id Before None w)))) r) (sym (ends a))
        (dropped_follows claim (place_in s id) (onward (told s id Before None w)) s id m (told s id Before None w) _ _ (harmless (told s id Before None w))
        (record { store = z.store; echo = z.echo; turns = z.turns }))))
      where
        onward : World → Target → World → Result
        onward a = going lower (step false t marks lower s (cast_of u x) (suc id))
            (passes (place_in s id) (λ again i b. play false (place_in s id)
            (going lower (step false t marks lower s (cast_of u x) (suc id)) again)
            (rule t s kind.Cast i (form (cast_of u x))) b) a.turns)

        comes : (a : World) → at_node false t lower s kind.Cast (cast_of u x) id (step false t marks lower s (cast_of u x) (suc id)) m a
            ≡ dropped (place_in s id) (onward a) (step false t marks lower s (cast_of u x) (suc id) 0 Read a)
        comes a = ap (λ sc. play false (place_in s id) (onward a) sc a) (reads ∙ ap (λ w. cast (found casts w)) is_unset)

        harmless : (a : World) → Harmless a (step false t marks lower s (cast_of u x) (suc id) 0 Read a)
        harmless a = reading_harmless (is_stopped marks s.file (suc id)) s (suc id)
            (going lower (step false t marks lower s (leaf x none) (suc (suc id)))
            (passes (place_in s (suc id)) (λ again i b. play false (place_in s (suc id))
            (going lower (step false t marks lower s (leaf x none) (suc (suc id))) again)
            (rule t s kind.Variable i (form (leaf x none))) b) a.turns))
            (plain_name x.text) a

        within_constant : World → Target → World → Result
        within_constant a = going low (step true t' [] low s (leaf n none) (suc (suc jd)))
            (passes (place_in s (suc jd)) (λ again i c. play true (place_in s (suc jd))
            (going low (step true t' [] low s (leaf n none) (suc (suc jd))) again)
            (rule t' s kind.Constant i (form (leaf n none))) c) a.turns)

        ends : (a : World) → step true t' [] low s (node kind.Paren (null_of o n p) none) jd 0 m a
            ≡ Done (Val Null) (told s jd After (value_of m (Val Null)) (told s (suc jd) After (value_of m (Val Null)) (told s (suc jd) Before None (told s jd Before None a))))
        ends a =
            ap (λ sc. left s jd m (then_do (left s (suc jd) m
            (play true (place_in s (suc jd)) (within_constant a) sc
            (told s (suc jd) Before None (told s jd Before None a)))) (λ o w. Done o w)))
            (ap (λ w. rule t' s kind.Constant m (Word n.kind w ∷ [])) is_null ∙ gives)

  -- in any other mode the cast has no rule
  stops_across : (marks : List Mark) (lower low : Entry → World → Result) → ((e : Entry) → Across claim (lower e) (low e)) → (id jd : ℕ) (m : Mode)
      → ((w : List ℕ) → rule t s kind.Cast m (Word u.kind w ∷ Child ∷ []) ≡ Stop NoRule)
      → Across claim (step false t marks lower s (node kind.Cast (cast_of u x) none) id 0 m) (step true t' [] low s (node kind.Paren (null_of o n p) none) jd 0 m)
  stops_across marks lower low h id jd m e =
      no_rule_across claim t t' marks lower low h false (is_stopped marks s.file id) s id m
      (at_node false t lower s kind.Cast (cast_of u x) id (step false t marks lower s (cast_of u x) (suc id)) m) _
      refl
      (λ a. ap (λ sc. play false (place_in s id) (onward a) sc a) (e u.text))
    where
      onward : World → Target → World → Result
      onward a = going lower (step false t marks lower s (cast_of u x) (suc id))
          (passes (place_in s id) (λ again i b. play false (place_in s id)
          (going lower (step false t marks lower s (cast_of u x) (suc id)) again)
          (rule t s kind.Cast i (form (cast_of u x))) b) a.turns)

  -- what gave a value gives it again
  again_across : (marks : List Mark) (lower low : Entry → World → Result) (id jd : ℕ) (v : Value)
      → Across claim (step false t marks lower s (node kind.Cast (cast_of u x) none) id 0 (Unchanged v))
      (step true t' [] low s (node kind.Paren (null_of o n p) none) jd 0 (Unchanged v))
  again_across marks lower low id jd v =
      dropped_across claim (is_stopped marks s.file id) s id (Unchanged v)
      (at_node false t lower s kind.Cast (cast_of u x) id (step false t marks lower s (cast_of u x) (suc id))
      (Unchanged v)) (step true t' [] low s (node kind.Paren (null_of o n p) none) jd 0 (Unchanged v))
      (λ w. subst (λ r. Grown (world_in (left s id (Unchanged v) r)) w) (sym (gives_again (told s id Before None w)))
      (grown_more (told s id After None (told s id Before None w)) (told s id Before None w) w
      (told_grown s id After None (told s id Before None w)) (told_grown s id Before None w)))
      (λ w a z. subst (λ r. FollowsAcross claim (left s id (Unchanged v) r)
      (step true t' [] low s (node kind.Paren (null_of o n p) none) jd 0 (Unchanged v) a))
      (sym (gives_again (told s id Before None w)))
      (λ b. (refl, record { store = z.store; echo = z.echo; turns = z.turns })))
    where
      onward : World → Target → World → Result
      onward a = going lower (step false t marks lower s (cast_of u x) (suc id))
          (passes (place_in s id) (λ again i b. play false (place_in s id)
          (going lower (step false t marks lower s (cast_of u x) (suc id)) again)
          (rule t s kind.Cast i (form (cast_of u x))) b) a.turns)

      gives_again : (a : World) → at_node false t lower s kind.Cast (cast_of u x) id (step false t marks lower s (cast_of u x) (suc id)) (Unchanged v) a ≡ Done stands a
      gives_again a = ap (λ w. play false (place_in s id) (onward a) (cast_again (found casts w)) a) is_unset

  unset_modes : (marks : List Mark) (lower low : Entry → World → Result) → ((e : Entry) → Across claim (lower e) (low e)) → (id jd : ℕ) (m : Mode)
      → Across claim (step false t marks lower s (node kind.Cast (cast_of u x) none) id 0 m) (step true t' [] low s (node kind.Paren (null_of o n p) none) jd 0 m)
  unset_modes marks lower low h id jd Read = reads_across marks lower low id jd Read refl refl
  unset_modes marks lower low h id jd Quiet = reads_across marks lower low id jd Quiet refl refl
  unset_modes marks lower low h id jd Top = reads_across marks lower low id jd Top refl refl
  unset_modes marks lower low h id jd Early = reads_across marks lower low id jd Early refl refl
  unset_modes marks lower low h id jd (Unchanged v) = again_across marks lower low id jd v
  unset_modes marks lower low h id jd m = stops_across marks lower low h id jd m (λ w. refl)

  -- the law of the rule, at its node
  pub unset_cast_across : DoesAcross claim t t' s kind.Cast (cast_of u x) kind.Paren (null_of o n p)
  unset_cast_across = record {
    node = unset_modes;
    declaration = refl;
    undeclared = refl;
    beside = refl;
    inside = λ marks lower low h id jd n m x y a. a;
  }
