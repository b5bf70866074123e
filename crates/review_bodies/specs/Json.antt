-- Bodies as JSON values (RFC 8259, as `serde_json` reads them).
use Rattle.std.specs.Prelude.{◌≡◌, ℕ, ◌+◌, List, Option, None, Some, option_and_then, IsUtf8}
use Rattle.serde_json.specs.Data.{Data, null, boolean, number, string, array, object, Members, no_members, member}
use Rattle.serde_json.specs.Find.{as_str, get}
use Rattle.serde_json.specs.Read.{read}

-- the body is this value's text, in UTF-8
abbrev pub IsJson : List ℕ → Data → Type 0
IsJson body d = IsUtf8 body × (read body ≡ Some d)

-- how many members there are
abbrev pub count_members : Members → ℕ
count_members no_members = 0
count_members (member k d ms) = 1 + count_members ms

-- how many members an object has; another value has none
abbrev pub size : Data → ℕ
size null = 0
size (boolean b) = 0
size (number n) = 0
size (string s) = 0
size (array ds) = 0
size (object ms) = count_members ms

-- the text at a key of an object
abbrev pub text_at : List ℕ → Data → Option (List ℕ)
text_at key d = option_and_then as_str (get key d)

-- a body comes to what its value has by a form, and to nothing where it is no JSON or hasn't the form
abbrev pub Comes : {A B : Type 0} → (Data → Option B) → (A → B) → List ℕ → Option A → Type 0
Comes form view body (Some a) = (d : Data) × IsJson body d × (form d ≡ Some (view a))
Comes form view body None = (d : Data) → IsJson body d → form d ≡ None
