-- The head of a request by the grammar of HTTP/1.0 and 1.1 (RFC 9112, sections 2 to 5, as `httparse` states it).
use Rattle.std.specs.Prelude.{◌≡◌, ℕ, ◌<◌, ◌≤◌, List, [], length, map, Option, None, Some, Result, Ok, Err, String, string_bytes}
use Rattle.httparse.specs.Grammar.{RequestHead, ReadsRequest}
use Rattle.httparse.specs.Spans.{IsRequestAt, IsRequestWithin, name_and_value}
use Rattle.httparse.specs.declared.spans.HeaderSpan.{HeaderSpan}
use Rattle.httparse.specs.declared.spans.RequestSpans.{RequestSpans}
use Rattle.review_request.specs.declared.head.Field.{Field}
use Rattle.review_request.specs.declared.head.Head.{Head}
use Rattle.review_request.specs.declared.refusal.Refusal.{Refusal}
use Rattle.review_request.specs.declared.refusal.Refusal.TheVariants.{LongHead, BadHead, NoRoute, WrongMethod, BadOwner, NoLength, BadLength, LongBody, BadBody}

-- the bytes are this head, and nothing follows
abbrev pub IsHead : List ℕ → RequestHead → Type 0
IsHead bytes h = ReadsRequest bytes h []

-- a field as its name and its value
abbrev pub field_parts : Field → List ℕ × List ℕ
field_parts f = (f.name.items, f.value.items)

-- the parts of a head
pub record HasParts (head : Head) (h : RequestHead) : Type 0 where
  pub method : head.method.items ≡ h.method
  pub target : string_bytes head.target ≡ h.target
  pub fields : map field_parts head.fields.items ≡ map name_and_value h.fields

-- what the bytes of a head come to: its parts where it has at most 32 fields
abbrev pub IsParsed : List ℕ → Result Head Refusal → Type 0
IsParsed bytes (Ok head) = (h : RequestHead) × IsHead bytes h × HasParts head h × (length h.fields ≤ 32)
IsParsed bytes (Err LongHead) = (h : RequestHead) × IsHead bytes h × (32 < length h.fields)
IsParsed bytes (Err BadHead) = (h : RequestHead) → ¬ (IsHead bytes h)
IsParsed bytes (Err NoRoute) = ⊥
IsParsed bytes (Err WrongMethod) = ⊥
IsParsed bytes (Err BadOwner) = ⊥
IsParsed bytes (Err NoLength) = ⊥
IsParsed bytes (Err BadLength) = ⊥
IsParsed bytes (Err LongBody) = ⊥
IsParsed bytes (Err BadBody) = ⊥

-- the spans of a head that is all of the bytes
pub record AreSpans (bytes : List ℕ) (headers : List HeaderSpan) (spans : RequestSpans) : Type 0 where
  pub head : RequestHead
  pub at : IsRequestAt bytes headers spans head
  pub whole : IsHead bytes head
  pub within : IsRequestWithin bytes headers spans

-- what is found with room for so many fields
abbrev pub Finds : List ℕ → ℕ → List HeaderSpan → Option RequestSpans → Type 0
Finds bytes room headers None = (h : RequestHead) → IsHead bytes h → room < length h.fields
Finds bytes room headers (Some spans) = AreSpans bytes headers spans
