-- What the bytes that were read of a request come to, in the order of the refusals.
use Rattle.std.specs.Prelude.{◌≡◌, ℕ, ◌<◌, ◌≤◌, ◌⊎◌, List, [], ◌++◌, length, map, Option, Result, Ok, Err}
use Rattle.conn_ports.specs.Link.{Link}
use Rattle.httparse.specs.Grammar.{RequestHead}
use Rattle.httparse.specs.Spans.{name_and_value}
use Rattle.review_request.specs.Frame.{framed}
use Rattle.review_request.specs.Head.{IsHead}
use Rattle.review_request.specs.HeadBytes.{IsHeadEnd}
use Rattle.review_request.specs.Taken.{TookAll, EndsAt}
use Rattle.review_request.specs.declared.frame.Frame.{Frame}
use Rattle.review_request.specs.declared.head_bytes.HeadEnd.TheVariants.{Ended, TooLong, Cut}
use Rattle.review_request.specs.declared.refusal.Refusal.{Refusal}
use Rattle.review_request.specs.declared.refusal.Refusal.TheVariants.{LongHead, BadHead, NoRoute, WrongMethod, BadOwner, NoLength, BadLength, LongBody, BadBody}
use Rattle.review_request.specs.declared.request.Request.{Request}
use Rattle.review_request.specs.declared.stop.Stop.{Stop}
use Rattle.review_request.specs.declared.stop.Stop.TheVariants.{Refused, Conn, Memory}

-- the bytes are a head of at most 32 fields that comes to this
pub record HeadGives (head : List ℕ) (said : Result Frame Refusal) : Type 0 where
  pub ended : IsHeadEnd head Ended
  pub parts : RequestHead
  pub reads : IsHead head parts
  pub few : length parts.fields ≤ 32
  pub gives : framed parts.method parts.target (map name_and_value parts.fields) ≡ said

-- the bytes are 16,384 in which no head ends, or a head of more than 32 fields
abbrev pub IsLong : List ℕ → Type 0
IsLong head = IsHeadEnd head TooLong ⊎ (IsHeadEnd head Ended × ((h : RequestHead) × IsHead head h × (32 < length h.fields)))

-- the input ended before a head did, or what ended is no head of the grammar
abbrev pub IsBad : List ℕ → Type 0 → Type 0
IsBad head ended = (IsHeadEnd head Cut × ended) ⊎ (IsHeadEnd head Ended × ((h : RequestHead) → ¬ (IsHead head h)))

-- the bytes of a head are refused so, before anything behind it is read
abbrev pub Refuses : List ℕ → Type 0 → Refusal → Type 0
Refuses head ended LongHead = IsLong head
Refuses head ended BadHead = IsBad head ended
Refuses head ended NoRoute = HeadGives head (Err NoRoute)
Refuses head ended WrongMethod = HeadGives head (Err WrongMethod)
Refuses head ended BadOwner = HeadGives head (Err BadOwner)
Refuses head ended NoLength = HeadGives head (Err NoLength)
Refuses head ended BadLength = HeadGives head (Err BadLength)
Refuses head ended LongBody = HeadGives head (Err LongBody)
Refuses head ended BadBody = ⊥

-- what the bytes of a head come to, unless memory lacks
abbrev pub FrameOf : List ℕ → Type 0 → Result Frame Stop → Type 0
FrameOf head ended (Ok frame) = HeadGives head (Ok frame)
FrameOf head ended (Err (Refused refusal)) = Refuses head ended refusal
FrameOf head ended (Err Conn) = ⊥
FrameOf head ended (Err Memory) = Unit {0}

-- the input ended inside the body
pub record IsCut (head body : List ℕ) (ended : Type 0) (refusal : Refusal) : Type 0 where
  pub word : refusal ≡ BadBody
  pub frame : Frame
  pub gives : HeadGives head (Ok frame)
  pub short : length body < frame.length
  pub end : ended

-- nothing behind a head was read, or at most as much as the head says
abbrev pub IsAllowed : List ℕ → List ℕ → Type 0
IsAllowed head body = (body ≡ []) ⊎ ((frame : Frame) × HeadGives head (Ok frame) × (length body ≤ frame.length))

-- the frame of a request
abbrev pub frame_of : Request → Frame
frame_of r = record { ask = r.ask; owner = r.owner; key = r.key; length = length r.body.items }

-- what a head and what was read behind it come to; `ended` says that the input has ended
abbrev pub Gives : List ℕ → List ℕ → Type 0 → Result Request Stop → Type 0
Gives head body ended (Ok request) = HeadGives head (Ok (frame_of request)) × (request.body.items ≡ body)
Gives head body ended (Err (Refused refusal)) = (Refuses head ended refusal × (body ≡ [])) ⊎ IsCut head body ended refusal
Gives head body ended (Err Conn) = IsAllowed head body
Gives head body ended (Err Memory) = IsAllowed head body

-- what was read of a request from a connection: at most 16,384 bytes of a head, and what is allowed behind it
pub record Reading (before now : Option Link) (result : Result Request Stop) : Type 0 where
  pub head : List ℕ
  pub body : List ℕ
  pub took : TookAll (head ++ body) before now
  pub most : length head ≤ 16384
  pub gives : Gives head body (EndsAt before now) result
