-- What was read of a request, put together.
use Rattle.std.proofs.Common.{◌≡◌, ℕ, ◌<◌, ◌≤◌, ◌⊎◌, Bool, true, false, List, [], ◌∷◌, ◌++◌, length, Option, None, Some, Result, Ok, Err, ap, sym, refl, subst, inl, inr, ◌∙◌, map, codes, string_bytes, not}
use Rattle.std.proofs.lemmas.List.{append-nil}
use Rattle.conn_ports.specs.Link.{Link}
use Rattle.io_ports.specs.declared.fault.PortFault.{PortFault}
use Rattle.io_ports.specs.declared.fault.PortFault.TheVariants as fault
use Rattle.std.specs.Prelude.{if◌then◌else◌, nat_le, option_and_then}
use Rattle.std.specs.Str.{bytes_eq}
use Rattle.httparse.specs.Grammar.{RequestHead}
use Rattle.httparse.specs.Spans.{name_and_value}
use Rattle.review_request.specs.Fields.{Fields, is_field, is_visible, only_one, stated_by, text_in, values_of, visible, within_limit}
use Rattle.review_request.specs.Frame.{by_method, framed, key_in, length_in, method_of, then_say}
use Rattle.review_request.specs.Head.{IsParsed, field_parts}
use Rattle.review_request.specs.HeadBytes.{IsHeadEnd}
use Rattle.review_request.specs.Numbers.{number_of}
use Rattle.review_request.specs.Routes.{ask_at}
use Rattle.review_request.specs.declared.head.Head.{Head}
use Rattle.review_request.specs.declared.route.Ask.{Ask}
use Rattle.review_request.specs.declared.route.Ask.TheVariants as ask
use Rattle.review_request.proofs.TakenLemmas.{took_then}
use Rattle.review_request.specs.Reading.{FrameOf, Gives, HeadGives, IsAllowed, IsBad, IsCut, Reading, Refuses, frame_of}
use Rattle.review_request.specs.Stops.{Says, stop_of}
use Rattle.review_request.specs.Taken.{Took, TookFrom, TookAll, EndsAt}
use Rattle.review_request.specs.declared.frame.Frame.{Frame}
use Rattle.review_request.specs.declared.head_bytes.HeadEnd.{HeadEnd}
use Rattle.review_request.specs.declared.head_bytes.HeadEnd.TheVariants.{Ended, Cut}
use Rattle.review_request.specs.declared.refusal.Refusal.{Refusal}
use Rattle.review_request.specs.declared.refusal.Refusal.TheVariants.{LongHead, BadHead, NoRoute, WrongMethod, BadOwner, NoLength, BadLength, LongBody, BadBody}
use Rattle.review_request.specs.declared.request.Request.{Request}
use Rattle.review_request.specs.declared.stop.Stop.{Stop}
use Rattle.review_request.specs.declared.stop.Stop.TheVariants.{Refused, Conn, Memory}

-- bytes, read behind others
took_behind : (head body : List ℕ) (y z : Option Link) → TookAll body y z → TookFrom head (head ++ body) y z
took_behind head body None z t = tt
took_behind head body (Some y) None t = t
took_behind head body (Some y) (Some z) t =
    record { bytes = t.bytes; appended = ap (λ b. head ++ b) t.appended; taken = t.taken; left = t.left; written = t.written }

-- a head and a body
took_both : (head body : List ℕ) (x y z : Option Link) → TookAll head x y → TookAll body y z → TookAll (head ++ body) x z
took_both head body x y z p q = took_then [] head (head ++ body) x y z p (took_behind head body y z q)

-- a head alone
of_head : (x y : Option Link) (head : List ℕ) (result : Result Request Stop) → TookAll head x y → length head ≤ 16384
    → Gives head [] (EndsAt x y) result → Reading x y result
of_head x y head result took most gives = record {
  head = head;
  body = [];
  took = subst (λ h. TookAll h x y) (sym (append-nil head)) took;
  most = most;
  gives = gives;
}

-- a fault while a head was read
pub head_failed : (x y : Option Link) (head : List ℕ) (f : PortFault) → TookAll head x y → length head ≤ 16384
    → Reading x y (Err (stop_of f))
head_failed x y head fault.Failed took most = of_head x y head (Err Conn) took most (inl refl)
head_failed x y head fault.Memory took most = of_head x y head (Err Memory) took most (inl refl)

-- a refusal, with another reason for the end
refuses_then : (head : List ℕ) (e f : Type 0) → (e → f) → (r : Refusal) → Refuses head e r → Refuses head f r
refuses_then head e f go LongHead p = p
refuses_then head e f go BadHead (inl p) = inl (p.0, go p.1)
refuses_then head e f go BadHead (inr p) = inr p
refuses_then head e f go NoRoute p = p
refuses_then head e f go WrongMethod p = p
refuses_then head e f go BadOwner p = p
refuses_then head e f go NoLength p = p
refuses_then head e f go BadLength p = p
refuses_then head e f go LongBody p = p
refuses_then head e f go BadBody p = p

-- a head that is refused, or whose parts find no memory
pub head_refused : (x y : Option Link) (head : List ℕ) (end : HeadEnd) (stop : Stop) → TookAll head x y
    → length head ≤ 16384 → (end ≡ Cut → EndsAt x y) → FrameOf head (end ≡ Cut) (Err stop) → Reading x y (Err stop)
head_refused x y head end (Refused r) took most cut p =
    of_head x y head (Err (Refused r)) took most (inl (refuses_then head (end ≡ Cut) (EndsAt x y) cut r p, refl))
head_refused x y head end Conn took most cut p = absurd p
head_refused x y head end Memory took most cut p = of_head x y head (Err Memory) took most (inl refl)

-- the refusals that parts of a head meet
abbrev of_parts : Refusal → Bool
of_parts LongHead = false
of_parts BadHead = false
of_parts NoRoute = true
of_parts WrongMethod = true
of_parts BadOwner = true
of_parts NoLength = true
of_parts BadLength = true
of_parts LongBody = true
of_parts BadBody = false

abbrev IsFramed : {A : Type 0} → Result A Refusal → Type 0
IsFramed (Ok value) = Unit {0}
IsFramed (Err r) = of_parts r ≡ true

then_is : {A B : Type 0} (x : Result A Refusal) (f : A → Result B Refusal) → IsFramed x → ((a : A) → IsFramed (f a))
    → IsFramed (then_say x f)
then_is (Ok a) f p q = q a
then_is (Err r) f p q = p

if_is : {A : Type 0} (b : Bool) (x y : Result A Refusal) → IsFramed x → IsFramed y → IsFramed (if b then x else y)
if_is true x y p q = p
if_is false x y p q = q

method_is : (method : List ℕ) (o : Option Ask) → IsFramed (by_method method o)
method_is method None = refl
method_is method (Some ask) = if_is (bytes_eq method (method_of ask)) (Ok ask) (Err WrongMethod) tt refl

visible_is : (o : Option (List ℕ)) → IsFramed (visible o)
visible_is None = refl
visible_is (Some text) = if_is (is_visible text) (Ok text) (Err BadOwner) tt refl

text_is : (name : List ℕ) (fields : Fields) → IsFramed (text_in name fields)
text_is name fields = visible_is (only_one (values_of name fields))

key_is : (a : Ask) (fields : Fields) → IsFramed (key_in a fields)
key_is ask.Add fields = text_is (codes "idempotency-key") fields
key_is (ask.Head job) fields = tt
key_is (ask.File job n) fields = tt
key_is (ask.Reports job) fields = tt
key_is (ask.Judge job n) fields = tt
key_is (ask.Close job) fields = tt

limit_is : (o : Option ℕ) → IsFramed (within_limit o)
limit_is None = refl
limit_is (Some n) = if_is (nat_le n 4194304) (Ok n) (Err LongBody) tt refl

stated_is : (name coding : List ℕ) (fields : Fields) → IsFramed (stated_by name coding fields)
stated_is name coding fields =
    if_is (not (is_field name fields)) (Err NoLength)
    (if is_field coding fields then Err BadLength else within_limit (option_and_then number_of (only_one (values_of name fields))))
    refl
    (if_is (is_field coding fields) (Err BadLength) (within_limit (option_and_then number_of (only_one (values_of name fields)))) refl
    (limit_is (option_and_then number_of (only_one (values_of name fields)))))

length_is : (a : Ask) (fields : Fields) → IsFramed (length_in a fields)
length_is ask.Add fields = stated_is (codes "content-length") (codes "transfer-encoding") fields
length_is (ask.Head job) fields = tt
length_is (ask.File job n) fields = tt
length_is (ask.Reports job) fields = tt
length_is (ask.Judge job n) fields = stated_is (codes "content-length") (codes "transfer-encoding") fields
length_is (ask.Close job) fields = stated_is (codes "content-length") (codes "transfer-encoding") fields

framed_is : (method target : List ℕ) (fields : Fields) → IsFramed (framed method target fields)
framed_is method target fields =
    then_is (by_method method (ask_at target)) _ (method_is method (ask_at target)) (λ a.
    then_is (text_in (codes "x-owner") fields) _ (text_is (codes "x-owner") fields) (λ owner.
    then_is (key_in a fields) _ (key_is a fields) (λ key.
    then_is (length_in a fields) _ (length_is a fields) (λ length. tt))))

-- such a refusal is one of the bytes
said_refused : (bytes : List ℕ) (cut : Type 0) (r : Refusal) → HeadGives bytes (Err r) → of_parts r ≡ true
    → Refuses bytes cut r
said_refused bytes cut LongHead p e = cc
said_refused bytes cut BadHead p e = cc
said_refused bytes cut NoRoute p e = p
said_refused bytes cut WrongMethod p e = p
said_refused bytes cut BadOwner p e = p
said_refused bytes cut NoLength p e = p
said_refused bytes cut BadLength p e = p
said_refused bytes cut LongBody p e = p
said_refused bytes cut BadBody p e = cc

-- a head whose parts are these comes to what the parts do
gives_parts : (bytes : List ℕ) (head : Head) (said : Result Frame Refusal) → IsHeadEnd bytes Ended → IsParsed bytes (Ok head)
    → framed head.method.items (string_bytes head.target) (map field_parts head.fields.items) ≡ said → HeadGives bytes said
gives_parts bytes head said end (h, reads, parts, few) gives = record {
  ended = end;
  parts = h;
  reads = reads;
  few = few;
  gives = ap (λ m. framed m h.target (map name_and_value h.fields)) (sym parts.method)
      ∙ ap (λ t. framed head.method.items t (map name_and_value h.fields)) (sym parts.target)
      ∙ ap (λ fs. framed head.method.items (string_bytes head.target) fs) (sym parts.fields)
      ∙ gives;
}

-- the bytes of a head, once its parts were read
pub frame_said : (bytes : List ℕ) (cut : Type 0) (head : Head) (result : Result Frame Stop) → IsHeadEnd bytes Ended
    → IsParsed bytes (Ok head)
    → Says (λ frame. frame) (framed head.method.items (string_bytes head.target) (map field_parts head.fields.items)) result
    → FrameOf bytes cut result
frame_said bytes cut head (Ok frame) end parsed e = gives_parts bytes head (Ok frame) end parsed e
frame_said bytes cut head (Err (Refused r)) end parsed e =
    said_refused bytes cut r (gives_parts bytes head (Err r) end parsed e)
    (subst IsFramed e (framed_is head.method.items (string_bytes head.target) (map field_parts head.fields.items)))
frame_said bytes cut head (Err Conn) end parsed e = absurd e
frame_said bytes cut head (Err Memory) end parsed e = tt

-- a fault while a body was read
pub body_failed : (x y z : Option Link) (head body : List ℕ) (frame : Frame) (f : PortFault) → TookAll head x y
    → length head ≤ 16384 → TookAll body y z → HeadGives head (Ok frame) → length body ≤ frame.length
    → Reading x z (Err (stop_of f))
body_failed x y z head body frame fault.Failed took most after gives few =
    record { head = head; body = body; took = took_both head body x y z took after; most = most; gives = inr (frame, gives, few) }
body_failed x y z head body frame fault.Memory took most after gives few =
    record { head = head; body = body; took = took_both head body x y z took after; most = most; gives = inr (frame, gives, few) }

-- the end of the input, seen from before
end_then : (x y z : Option Link) (head : List ℕ) → TookAll head x y → EndsAt y z → EndsAt x z
end_then None y z head p q = tt
end_then (Some x) (Some y) (Some z) head p q = q
end_then (Some x) (Some y) None head p q = q
end_then (Some x) None z head p q = absurd p

-- the input ended inside the body
pub body_cut : (x y z : Option Link) (head body : List ℕ) (frame : Frame) → TookAll head x y
    → length head ≤ 16384 → TookAll body y z → HeadGives head (Ok frame) → length body < frame.length → EndsAt y z
    → Reading x z (Err (Refused BadBody))
body_cut x y z head body frame took most after gives short end = record {
  head = head;
  body = body;
  took = took_both head body x y z took after;
  most = most;
  gives = inr (record { word = refl; frame = frame; gives = gives; short = short; end = end_then x y z head took end });
}

-- a whole request
pub request_read : (x y z : Option Link) (head : List ℕ) (frame : Frame) (request : Request) → TookAll head x y
    → length head ≤ 16384 → TookAll request.body.items y z → HeadGives head (Ok frame) → frame_of request ≡ frame
    → Reading x z (Ok request)
request_read x y z head frame request took most after gives same = record {
  head = head;
  body = request.body.items;
  took = took_both head request.body.items x y z took after;
  most = most;
  gives = (subst (λ f. HeadGives head (Ok f)) (sym same) gives, refl);
}
