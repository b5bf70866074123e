-- The fields of a head by their names (RFC 9110, section 5.1: names are compared without case).
use Rattle.std.specs.Prelude.{ℕ, ◌&&◌, Bool, List, [], ◌∷◌, length, map, filter, Option, None, Some, Result, Ok, Err, codes, not, nat_le, option_and_then, if◌then◌else◌}
use Rattle.std.specs.List.{list_all, list_any}
use Rattle.std.specs.Str.{str_eq_ignore_ascii_case}
use Rattle.review_request.specs.Numbers.{number_of}
use Rattle.review_request.specs.declared.refusal.Refusal.{Refusal}
use Rattle.review_request.specs.declared.refusal.Refusal.TheVariants.{BadOwner, NoLength, BadLength, LongBody}

-- fields, each a name with its value
abbrev pub Fields : Type 0
Fields = List (List ℕ × List ℕ)

-- the values of the fields with this name, in order
abbrev pub values_of : List ℕ → Fields → List (List ℕ)
values_of name fields = map (λ f. f.1) (filter (λ f. str_eq_ignore_ascii_case f.0 name) fields)

-- the only one of these
abbrev pub only_one : List (List ℕ) → Option (List ℕ)
only_one [] = None
only_one (v ∷ []) = Some v
only_one (v ∷ w ∷ vs) = None

-- whether some field has this name
abbrev pub is_field : List ℕ → Fields → Bool
is_field name fields = list_any (λ f. str_eq_ignore_ascii_case f.0 name) fields

-- a byte that is visible: no control byte, no space, and none past ASCII
abbrev pub is_visible_byte : ℕ → Bool
is_visible_byte b = nat_le 33 b && nat_le b 126

-- whether a text may stand for an owner or a key: 1 to 64 bytes from 33 to 126
abbrev pub is_visible : List ℕ → Bool
is_visible text = nat_le 1 (length text) && nat_le (length text) 64 && list_all is_visible_byte text

-- such a text, and else a refusal
abbrev pub visible : Option (List ℕ) → Result (List ℕ) Refusal
visible None = Err BadOwner
visible (Some text) = if is_visible text then Ok text else Err BadOwner

-- the visible text of the only field with this name
abbrev pub text_in : List ℕ → Fields → Result (List ℕ) Refusal
text_in name fields = visible (only_one (values_of name fields))

-- a length of at most 4,194,304 bytes
abbrev pub within_limit : Option ℕ → Result ℕ Refusal
within_limit None = Err BadLength
within_limit (Some n) = if nat_le n 4194304 then Ok n else Err LongBody

-- the length by the fields of two names: that with this name, where none has the other
abbrev pub stated_by : List ℕ → List ℕ → Fields → Result ℕ Refusal
stated_by name coding fields =
    if not (is_field name fields) then Err NoLength
    else if is_field coding fields then Err BadLength
    else within_limit (option_and_then number_of (only_one (values_of name fields)))

-- the stated length of a POST
abbrev pub stated_length : Fields → Result ℕ Refusal
stated_length fields = stated_by (codes "content-length") (codes "transfer-encoding") fields
