-- A head has no more fields than bytes.
use Rattle.std.proofs.Common.{◌≡◌, ℕ, ◌+◌, ◌<◌, ◌≤◌, List, [], ◌∷◌, ◌++◌, length, ap, arith, None, Err}
use Rattle.std.specs.List.{flat_map}
use Rattle.std.proofs.lemmas.List.{length-append}
use Rattle.httparse.specs.Ascii.{space, colon}
use Rattle.httparse.specs.Grammar.{Field, print_field, print_end, print_blank, print_version, print_section, print_request, RequestHead, ReadsRequest}
use Rattle.httparse.specs.declared.spans.HeaderSpan.{HeaderSpan}
use Rattle.httparse.specs.declared.spans.RequestSpans.{RequestSpans}
use Rattle.review_request.specs.Head.{AreSpans, Finds, IsHead, IsParsed}
use Rattle.review_request.specs.declared.refusal.Refusal.TheVariants.{BadHead, LongHead}

longer : (front back : List ℕ) → length back ≤ length (front ++ back)
longer front back = rw length-append (omega arith)

one_byte : (f : Field) → 1 ≤ length (print_field f)
one_byte f = omega (arith, length-append (f.name ++ colon ∷ f.raw) (print_end f.end), length-append f.name (colon ∷ f.raw))

fields_fit : (fields : List Field) → length fields ≤ length (flat_map print_field fields)
fields_fit [] = omega arith
fields_fit (f ∷ fields) =
    omega (arith, length-append (print_field f) (flat_map print_field fields), one_byte f, fields_fit fields)

section_fits : (h : RequestHead) → length h.fields ≤ length (print_section h.fields h.last)
section_fits h = omega (arith, length-append (flat_map print_field h.fields) (print_end h.last), fields_fit h.fields)

head_fits : (h : RequestHead) → length h.fields ≤ length (print_request h)
unfolding print_request
head_fits h =
    omega (
      arith,
      section_fits h,
      longer (print_blank h.blank ++ h.method ++ space ∷ h.target ++ space ∷ print_version h.minor ++ print_end h.line_end) (print_section h.fields h.last),
    )

pub few_fields : (bytes : List ℕ) (h : RequestHead) → IsHead bytes h → length h.fields ≤ length bytes
few_fields bytes h r = omega (arith, head_fits h, ap length r.1, length-append (print_request h) [])

-- a head for which so much room is too little is none
pub bad_head : (bytes : List ℕ) (room : ℕ) (headers : List HeaderSpan) → room ≡ length bytes → Finds bytes room headers None → IsParsed bytes (Err BadHead)
bad_head bytes room headers e many h r = omega (arith, e, many h r, few_fields bytes h r)

-- a head that is found with more room has more fields
pub long_head : (bytes : List ℕ) (headers : List HeaderSpan) (spans : RequestSpans) → AreSpans bytes headers spans
    → ((h : RequestHead) → IsHead bytes h → 32 < length h.fields) → IsParsed bytes (Err LongHead)
long_head bytes headers spans s many = (s.head, s.whole, many s.head s.whole)
