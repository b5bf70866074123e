-- What is said of a value, weakened.
use Rattle.std.specs.Prelude.{Result, Ok, Err, IfOk}

pub ok_then : {T E : Type 0} (r : Result T E) (P Q : T → Type 0) → ((x : T) → P x → Q x) → IfOk r P → IfOk r Q
ok_then (Ok x) P Q f h = f x h
ok_then (Err e) P Q f h = h
