-- Words of a form by their kinds.
use Rattle.std.specs.Prelude.{ℕ, if◌then◌else◌, codes, drop, List, [], ◌∷◌, Option, Some, None}
use Rattle.std.specs.Str.{bytes_eq}
use Rattle.php_tree.specs.declared.token.TokenKind.{TokenKind}
use Rattle.php_tree.specs.declared.token.TokenKind.TheVariants as kind
use Rattle.scope_names.specs.Form.{Form, Word, Child}
use Rattle.scope_names.specs.Words.{is_keyword}

-- a word before others, where it is a name
abbrev pub name_before : TokenKind → List ℕ → List (List ℕ) → List (List ℕ)
name_before kind.Label w ws = w ∷ ws
name_before kind.Name w ws = w ∷ ws
name_before k w ws = ws

-- the names among the words, in order
abbrev pub spelled_names : Form → List (List ℕ)
spelled_names [] = []
spelled_names (Word k w ∷ f) = name_before k w (spelled_names f)
spelled_names (Child ∷ f) = spelled_names f

-- a variable before others, without its dollar sign
abbrev pub variable_before : TokenKind → List ℕ → List (List ℕ) → List (List ℕ)
variable_before kind.Variable w ws = drop 1 w ∷ ws
variable_before k w ws = ws

-- the variables among the words, in order, without their dollar signs
abbrev pub spelled_variables : Form → List (List ℕ)
spelled_variables [] = []
spelled_variables (Word k w ∷ f) = variable_before k w (spelled_variables f)
spelled_variables (Child ∷ f) = spelled_variables f

-- what stands before a word with this text
abbrev pub before_text : List ℕ → Form → Form
before_text t [] = []
before_text t (Word k w ∷ f) = if bytes_eq t w then [] else Word k w ∷ before_text t f
before_text t (Child ∷ f) = Child ∷ before_text t f

-- what stands behind it
abbrev pub behind_text : List ℕ → Form → Form
behind_text t [] = []
behind_text t (Word k w ∷ f) = if bytes_eq t w then f else behind_text t f
behind_text t (Child ∷ f) = behind_text t f

-- what stands behind a keyword
abbrev pub behind_keyword : List ℕ → Form → Form
behind_keyword t [] = []
behind_keyword t (Word k w ∷ f) = if is_keyword t w then f else behind_keyword t f
behind_keyword t (Child ∷ f) = behind_keyword t f

-- a word that may be a member's name: a label or a keyword
abbrev pub member_word : TokenKind → List ℕ → List (List ℕ)
member_word kind.Label w = w ∷ []
member_word kind.Keyword w = w ∷ []
member_word k w = []

-- the member's name that stands first, if any
abbrev pub first_member : Form → List (List ℕ)
first_member [] = []
first_member (Word k w ∷ f) = member_word k w
first_member (Child ∷ f) = []

-- the variable that stands first, if any
abbrev pub first_variable : Form → List (List ℕ)
first_variable [] = []
first_variable (Word k w ∷ f) = variable_before k w []
first_variable (Child ∷ f) = []

-- the first of some, if any
abbrev pub first_of : List (List ℕ) → List (List ℕ)
first_of [] = []
first_of (w ∷ ws) = w ∷ []

abbrev pub behind_first : List (List ℕ) → List (List ℕ)
behind_first [] = []
behind_first (w ∷ ws) = ws

-- without the sign of a reference in front
abbrev pub without_ampersand : Form → Form
without_ampersand [] = []
without_ampersand (Word k w ∷ f) = if bytes_eq (codes "&") w then f else Word k w ∷ f
without_ampersand (Child ∷ f) = Child ∷ f

-- the words directly before an equals sign: `before` is the one that was read last
abbrev pub before_equals : Option (List ℕ) → Form → List (List ℕ)
before_equals before [] = []
before_equals (Some w) (Word k v ∷ f) =
    if bytes_eq (codes "=") v then w ∷ before_equals None f else before_equals (Some v) f
before_equals None (Word k v ∷ f) = before_equals (Some v) f
before_equals before (Child ∷ f) = before_equals None f
