-- The numbers and names of rules, of forms outside, of causes and of weights. They are this project's own.
use Rattle.std.specs.Prelude.{ℕ, List, [], ◌∷◌, codes, nat_eq, if◌then◌else◌, decimal, Option, Some, None, unwrap_or}
use Rattle.io_ports.specs.declared.report.Weight.{Weight}
use Rattle.io_ports.specs.declared.report.Weight.TheVariants.{Note, Stop, Compile}

-- the name beside a number
abbrev pub name_of : ℕ → List (ℕ × List ℕ) → Option (List ℕ)
name_of n [] = None
name_of n (row ∷ rows) = if nat_eq row.0 n then Some row.1 else name_of n rows

-- the 22 rules, and the forms outside
unfoldable pub code_names : List (ℕ × List ℕ)
code_names =
    (1, codes "nested-ternary") ∷ (2, codes "dot-precedence") ∷ (3, codes "brace-offset")
    ∷ (4, codes "real-cast") ∷ (5, codes "unset-cast") ∷ (6, codes "hash-comment")
    ∷ (7, codes "split-name") ∷ (8, codes "dollar-brace") ∷ (9, codes "reserved-name")
    ∷ (10, codes "loose-compare") ∷ (11, codes "word-arithmetic") ∷ (12, codes "next-key")
    ∷ (13, codes "old-constructor") ∷ (14, codes "inherited-static") ∷ (15, codes "dynamic-property")
    ∷ (16, codes "get-class") ∷ (17, codes "static-call") ∷ (18, codes "bare-constant")
    ∷ (19, codes "removed-call") ∷ (20, codes "implode-order") ∷ (21, codes "substr-false")
    ∷ (22, codes "strpos-needle")
    ∷ (98, codes "nullsafe-text") ∷ (99, codes "static-twice") ∷ (100, codes "parent")
    ∷ (101, codes "float") ∷ (102, codes "eval") ∷ (103, codes "variable-variable")
    ∷ (104, codes "include") ∷ (105, codes "handler") ∷ (106, codes "magic")
    ∷ (107, codes "generator") ∷ (108, codes "closure") ∷ (109, codes "goto")
    ∷ (110, codes "trait") ∷ (111, codes "foreach-object") ∷ (112, codes "text-offset-write")
    ∷ (113, codes "ticks") ∷ (114, codes "unknown-call") ∷ (115, codes "unknown-class")
    ∷ (116, codes "unknown-constant") ∷ (117, codes "argument") ∷ (118, codes "override")
    ∷ (119, codes "other-form") ∷ (120, codes "declared-type") ∷ (121, codes "magic-constant")
    ∷ (122, codes "builtin-name") ∷ []

-- why a place stands open
unfoldable pub cause_names : List (ℕ × List ℕ)
cause_names =
    (1, codes "off") ∷ (2, codes "types") ∷ (3, codes "order") ∷ (4, codes "called")
    ∷ (5, codes "dynamic") ∷ (6, codes "shape") ∷ (7, codes "namespace") ∷ (8, codes "always") ∷ []

-- the name of a code or a cause, or its decimal number where it has none
unfoldable pub code_text : ℕ → List ℕ
code_text n = unwrap_or (name_of n code_names) (decimal n)

unfoldable pub cause_text : ℕ → List ℕ
cause_text n = unwrap_or (name_of n cause_names) (decimal n)

abbrev pub weight_name : Weight → List ℕ
weight_name Note = codes "note"
weight_name Stop = codes "stop"
weight_name Compile = codes "compile"
