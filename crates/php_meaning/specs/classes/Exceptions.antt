-- `throw` and `try`. (PHP manual, "Exceptions".)
use Rattle.std.specs.Prelude.{ℕ, suc, ◌+◌, ◌-◌, Bool, false, not, ◌||◌, if◌then◌else◌, List, [], ◌∷◌, ◌++◌, codes, Option, Some, None}
use Rattle.std.specs.Str.{bytes_eq}
use Rattle.php_meaning.specs.values.Value.{Object, own}
use Rattle.php_meaning.specs.Cause.{NoRule, Declaration, Error}
use Rattle.php_meaning.specs.runs.World.{Bytes, Store}
use Rattle.scope_names.specs.Form.{Form, Bit, Word, Child, kids, texts}
use Rattle.scope_names.specs.Words.{has_keyword, is_keyword}
use Rattle.scope_names.specs.Sites.{Site, class_named}
use Rattle.php_meaning.specs.names.Tables.{Tables}
use Rattle.php_meaning.specs.runs.Stores.{object_at}
use Rattle.php_meaning.specs.expressions.Assigning.{write}
use Rattle.php_meaning.specs.expressions.Expressions.{plain_name, in_variable}
use Rattle.php_meaning.specs.classes.Lines.{is_in, is_a}
use Rattle.php_meaning.specs.classes.Members.{is_dollar}
use Rattle.php_meaning.specs.runs.Script.{Continue, Break, Throw, Out, Jump, Read, Kid, Script, Give, Stop, Look, Run, child_value, throws}
use Rattle.php_meaning.specs.classes.Properties.{properties_at}

-- ---- exceptions

abbrev pub throw_value : Tables → Script
throw_value t = child_value 0 (elim [
  | Object n ↦ Look (λ s. if is_a t s (object_at s.objects n).class (codes "Throwable") then Give (Jump (Throw n)) else throws Error)
  | _ ↦ throws Error
])

-- a handler: the classes that it catches, its variable, and the index of its block
pub record Handler : Type 0 where
  pub classes : List Bytes
  pub variable : Bytes
  pub block : ℕ

-- the handlers of a form, from the block with this index on; `names` and `name` are those of the handler so far
abbrev pub handlers : Site → ℕ → List Bytes → Bytes → List Bit → List Handler
handlers s i names name [] = []
handlers s i names name (Child ∷ f) = handlers s (suc i) [] [] f
handlers s i names name (Word _ w ∷ f) =
    if is_keyword (codes "catch") w || bytes_eq w (codes "(") || is_keyword (codes "try") w
    || is_keyword (codes "finally") w || bytes_eq w (codes ")") then handlers s i names name f
    else (if bytes_eq w (codes "|") then handlers s i (class_named s name ∷ names) [] f
    else (if is_dollar w then record { classes = class_named s name ∷ names; variable = plain_name w; block = i } ∷ handlers s i [] [] f
    else handlers s i names (name ++ w) f))

abbrev pub catches : Tables → Store → Bytes → List Bytes → Bool
catches t s class [] = false
catches t s class (n ∷ ns) = is_a t s class n || catches t s class ns

-- The first handler that catches a class. One before it that names `Stringable`, which every class of exceptions is of in 8.x
-- alone, is outside.
abbrev pub handler_then : Tables → Store → Bytes → List Handler → Script → (Handler → Script) → Script
handler_then t s class [] missing k = missing
handler_then t s class (h ∷ hs) missing k =
    if catches t s class h.classes then k h
    else (if is_in h.classes (codes "Stringable") then Stop Declaration else handler_then t s class hs missing k)

-- What follows a block of a try: the `finally` block, whose own way to leave counts before the other one. It may not leave a
-- loop around it.
abbrev pub finished_with : Out → Out → Script
finished_with o (Jump (Break n)) = Stop NoRule
finished_with o (Jump (Continue n)) = Stop NoRule
finished_with o (Jump w) = Give (Jump w)
finished_with o p = Give o

abbrev pub finished : Option ℕ → Out → Script
finished None o = Give o
finished (Some j) o = Run (Kid j Read) (finished_with o)

abbrev pub after_try : Tables → Site → List Handler → Option ℕ → Out → Script
after_try t site hs last (Jump (Throw n)) =
    Look (λ s. handler_then t s (object_at s.objects n).class hs (finished last (Jump (Throw n))) (λ h.
    write (properties_at t site) site (in_variable h.variable) (Object n) (Run (Kid h.block Read) (finished last))))
after_try t site hs last o = finished last o

abbrev pub try_script : Tables → Site → Form → Script
try_script t s f =
    Run (Kid 0 Read) (after_try t s (handlers s 0 [] [] f) (if has_keyword (codes "finally") (texts f) then Some (kids f - 1) else None))
