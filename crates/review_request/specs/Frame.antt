-- What a head asks for, or the first of its refusals: no route, another method, no owner or key, no length, a bad length
-- or one that is too great.
use Rattle.std.specs.Prelude.{ℕ, Bool, true, false, List, [], length, Option, None, Some, Result, Ok, Err, codes, if◌then◌else◌}
use Rattle.std.specs.Str.{bytes_eq}
use Rattle.review_request.specs.Fields.{Fields, text_in, stated_length}
use Rattle.review_request.specs.Routes.{ask_at}
use Rattle.review_request.specs.declared.frame.Frame.{Frame}
use Rattle.review_request.specs.declared.refusal.Refusal.{Refusal}
use Rattle.review_request.specs.declared.refusal.Refusal.TheVariants.{NoRoute, WrongMethod}
use Rattle.review_request.specs.declared.route.Ask.{Ask}
use Rattle.review_request.specs.declared.route.Ask.TheVariants.{Add, Head, File, Reports, Judge, Close}

-- what follows an answer that is none of the refusals
abbrev pub then_say : {A B : Type 0} → Result A Refusal → (A → Result B Refusal) → Result B Refusal
then_say (Ok value) next = next value
then_say (Err refusal) next = Err refusal

-- the method of what is asked for
abbrev pub method_of : Ask → List ℕ
method_of Add = codes "POST"
method_of (Head job) = codes "GET"
method_of (File job n) = codes "GET"
method_of (Reports job) = codes "GET"
method_of (Judge job n) = codes "POST"
method_of (Close job) = codes "POST"

-- what is asked for by a method, at a path that has this route or none
abbrev pub by_method : List ℕ → Option Ask → Result Ask Refusal
by_method method None = Err NoRoute
by_method method (Some ask) = if bytes_eq method (method_of ask) then Ok ask else Err WrongMethod

-- the key: of a new job alone
abbrev pub key_in : Ask → Fields → Result (List ℕ) Refusal
key_in Add fields = text_in (codes "idempotency-key") fields
key_in (Head job) fields = Ok []
key_in (File job n) fields = Ok []
key_in (Reports job) fields = Ok []
key_in (Judge job n) fields = Ok []
key_in (Close job) fields = Ok []

-- the length of the body: 0 of a GET, whatever its fields say
abbrev pub length_in : Ask → Fields → Result ℕ Refusal
length_in Add fields = stated_length fields
length_in (Head job) fields = Ok 0
length_in (File job n) fields = Ok 0
length_in (Reports job) fields = Ok 0
length_in (Judge job n) fields = stated_length fields
length_in (Close job) fields = stated_length fields

-- what a head comes to by its method, its target and its fields
abbrev pub framed : List ℕ → List ℕ → Fields → Result Frame Refusal
framed method target fields =
    then_say (by_method method (ask_at target)) (λ ask.
    then_say (text_in (codes "x-owner") fields) (λ owner.
    then_say (key_in ask fields) (λ key.
    then_say (length_in ask fields) (λ length.
    Ok (record { ask = ask; owner = owner; key = key; length = length })))))
