-- The fields with a name, one field after another.
use Rattle.std.proofs.Common.{◌≡◌, ℕ, ◌+◌, ◌<◌, ◌≤◌, Bool, true, false, cond, List, [], ◌∷◌, ◌++◌, length, map, take, drop, get_or, Option, None, Some, is_some, ap, sym, ◌∙◌, refl, arith, IsTrue}
use Rattle.std.specs.List.{filter, list_all, list_any}
use Rattle.std.specs.Option.{option_map, option_to_list}
use Rattle.std.specs.Prelude.{option_and_then, not, if◌then◌else◌, ◌||◌, ◌&&◌, nat_le, Result, Ok, Err}
use Rattle.std.specs.Char.{to_ascii_lowercase}
use Rattle.std.specs.Cmp.Lexicographic.{bytes_decides}
use Rattle.std.specs.Str.{bytes_eq, str_eq_ignore_ascii_case, IsAscii, IsUtf8}
use Rattle.std.proofs.lemmas.Str.{IsUtf8-from_ascii}
use Rattle.std.proofs.lemmas.Str.Ascii.{IsAscii-cons, IsAscii-nil}
use Rattle.std.proofs.lemmas.List.{take_more, take-append-drop, take_all, map-append, append-nil}
use Rattle.std.proofs.lemmas.List.Elements.{filter-append}
use Rattle.review_request.specs.Fields.{Fields, is_field, is_visible, is_visible_byte, only_one, stated_by, values_of, within_limit}
use Rattle.review_request.specs.Numbers.{number_of}
use Rattle.review_request.specs.Head.{field_parts}
use Rattle.review_request.specs.declared.head.Field.{Field}
use Rattle.review_request.specs.declared.refusal.Refusal.TheVariants.{NoLength, BadLength, LongBody}

-- whether a field has this name
has_name : List ℕ → List ℕ × List ℕ → Bool
has_name name f = str_eq_ignore_ascii_case f.0 name

values_append : (name : List ℕ) (a b : Fields) → values_of name (a ++ b) ≡ values_of name a ++ values_of name b
values_append name a b =
    ap (map (λ f. f.1)) (filter-append (λ f. str_eq_ignore_ascii_case f.0 name) a b)
    ∙ map-append (λ f. f.1) (filter (λ f. str_eq_ignore_ascii_case f.0 name) a) (filter (λ f. str_eq_ignore_ascii_case f.0 name) b)

one_value : (b : Bool) (f : List ℕ × List ℕ) → map (λ f. f.1) (cond b (f ∷ []) []) ≡ cond b (f.1 ∷ []) []
one_value true f = refl
one_value false f = refl

-- the values of the first fields, and what one field more adds
pub values_more : (name : List ℕ) (fields : List Field) (i : ℕ) (d : Field) → i < length fields
    → values_of name (map field_parts (take (i + 1) fields))
    ≡ values_of name (map field_parts (take i fields))
    ++ cond (str_eq_ignore_ascii_case (get_or fields i d).name.items name) ((get_or fields i d).value.items ∷ []) []
values_more name fields i d h =
    ap (λ fs. values_of name (map field_parts fs)) (take_more fields i d h)
    ∙ ap (values_of name) (map-append field_parts (take i fields) (get_or fields i d ∷ []))
    ∙ values_append name (map field_parts (take i fields)) (field_parts (get_or fields i d) ∷ [])
    ∙ ap (λ vs. values_of name (map field_parts (take i fields)) ++ vs)
    (one_value (str_eq_ignore_ascii_case (get_or fields i d).name.items name) (field_parts (get_or fields i d)))

-- the values of all fields are those of the first ones, and then those of the others
pub values_parted : (name : List ℕ) (fields : List Field) (i : ℕ)
    → values_of name (map field_parts fields)
    ≡ values_of name (map field_parts (take i fields)) ++ values_of name (map field_parts (drop i fields))
values_parted name fields i =
    ap (λ fs. values_of name (map field_parts fs)) (sym (take-append-drop i fields))
    ∙ ap (values_of name) (map-append field_parts (take i fields) (drop i fields))
    ∙ values_append name (map field_parts (take i fields)) (map field_parts (drop i fields))

-- one value is the only one
the_value : (o : Option (List ℕ)) → only_one (option_to_list o) ≡ o
the_value None = refl
the_value (Some v) = refl

pub values_end : (name : List ℕ) (fields : List Field) (n : ℕ) (o : Option (List ℕ)) → n ≡ length fields
    → values_of name (map field_parts (take n fields)) ≡ option_to_list o
    → o ≡ only_one (values_of name (map field_parts fields))
values_end name fields n o e so_far =
    sym (ap only_one (sym (ap (λ fs. values_of name (map field_parts fs)) (take_all n fields (omega (arith, e)))) ∙ so_far) ∙ the_value o)

-- a second value
no_longer_one : (o : Option (List ℕ)) (w : List ℕ) (ws : List (List ℕ)) → is_some o ≡ true
    → only_one ((option_to_list o ++ w ∷ []) ++ ws) ≡ None
no_longer_one (Some v) w ws e = refl
no_longer_one None w ws e = cc

-- what one field adds
abbrev added : List ℕ → List Field → ℕ → Field → List (List ℕ)
added name fields i d = cond (str_eq_ignore_ascii_case (get_or fields i d).name.items name) ((get_or fields i d).value.items ∷ []) []

pub value_second : (name : List ℕ) (fields : List Field) (i : ℕ) (d : Field) (o : Option (List ℕ)) → i < length fields
    → values_of name (map field_parts (take i fields)) ≡ option_to_list o → is_some o ≡ true
    → str_eq_ignore_ascii_case (get_or fields i d).name.items name ≡ true
    → None ≡ only_one (values_of name (map field_parts fields))
value_second name fields i d o h so_far some same =
    let one = values_more name fields i d h ∙ ap (λ vs. vs ++ added name fields i d) so_far
    ∙ ap (λ b. option_to_list o ++ cond b ((get_or fields i d).value.items ∷ []) []) same in
    sym (ap only_one (values_parted name fields (i + 1) ∙ ap (λ vs. vs ++ values_of name (map field_parts (drop (i + 1) fields))) one)
    ∙ no_longer_one o (get_or fields i d).value.items (values_of name (map field_parts (drop (i + 1) fields))) some)

-- a first value
pub value_first : (name : List ℕ) (fields : List Field) (i : ℕ) (d : Field) (o : Option (List ℕ)) → i < length fields
    → values_of name (map field_parts (take i fields)) ≡ option_to_list o → is_some o ≡ false
    → str_eq_ignore_ascii_case (get_or fields i d).name.items name ≡ true
    → values_of name (map field_parts (take (i + 1) fields)) ≡ (get_or fields i d).value.items ∷ []
value_first name fields i d None h so_far none same =
    values_more name fields i d h ∙ ap (λ vs. vs ++ added name fields i d) so_far
    ∙ ap (λ b. cond b ((get_or fields i d).value.items ∷ []) []) same
value_first name fields i d (Some v) h so_far none same = cc

-- a field with another name
pub value_other : (name : List ℕ) (fields : List Field) (i : ℕ) (d : Field) (o : Option (List ℕ)) → i < length fields
    → values_of name (map field_parts (take i fields)) ≡ option_to_list o
    → str_eq_ignore_ascii_case (get_or fields i d).name.items name ≡ false
    → values_of name (map field_parts (take (i + 1) fields)) ≡ option_to_list o
value_other name fields i d o h so_far other =
    values_more name fields i d h ∙ ap (λ vs. vs ++ added name fields i d) so_far
    ∙ ap (λ b. option_to_list o ++ cond b ((get_or fields i d).value.items ∷ []) []) other
    ∙ append-nil (option_to_list o)

-- a field has a name as its parts have
or_else : (t b c : Bool) → b ≡ c → (t || b) ≡ (t || c)
or_else t b c e = ap (λ b. t || b) e

pub is_field_parts : (name : List ℕ) (fields : List Field)
    → is_field name (map field_parts fields) ≡ list_any (λ f. str_eq_ignore_ascii_case f.name.items name) fields
is_field_parts name [] = refl
is_field_parts name (f ∷ fields) =
    or_else (str_eq_ignore_ascii_case f.name.items name) (is_field name (map field_parts fields)) _ (is_field_parts name fields)

-- names that are the same in lower case
pub same_name : (a b : List ℕ) (t : Bool) → (IsTrue t → map to_ascii_lowercase a ≡ map to_ascii_lowercase b)
    → (map to_ascii_lowercase a ≡ map to_ascii_lowercase b → IsTrue t) → t ≡ str_eq_ignore_ascii_case a b
same_name a b t to from = by t (bytes_eq (map to_ascii_lowercase a) (map to_ascii_lowercase b)) to from
    (λ e. (bytes_decides (map to_ascii_lowercase a) (map to_ascii_lowercase b)).0 e)
    (λ e. (bytes_decides (map to_ascii_lowercase a) (map to_ascii_lowercase b)).1 e)
  where
    by : {P : Type 0} (t u : Bool) → (IsTrue t → P) → (P → IsTrue t) → (u ≡ true → P) → (P → u ≡ true) → t ≡ u
    by true true to from u_to u_from = refl
    by false false to from u_to u_from = refl
    by true false to from u_to u_from = sym (u_from (to refl))
    by false true to from u_to u_from = from (u_to refl)

pub maps_some : {A B : Type 0} (f : A → B) (o : Option A) → is_some (option_map f o) ≡ is_some o
maps_some f None = refl
maps_some f (Some x) = refl

-- the length, case by case
module _ (name coding : List ℕ) (fields : Fields) where
  pub none_stated : is_field name fields ≡ false → Err NoLength ≡ stated_by name coding fields
  none_stated none = sym (ap (λ b. if not b then Err NoLength else if is_field coding fields then Err BadLength
      else within_limit (option_and_then number_of (only_one (values_of name fields)))) none)

  pub coded : is_field name fields ≡ true → is_field coding fields ≡ true → Err BadLength ≡ stated_by name coding fields
  coded some code = sym (ap (λ b. if not b then Err NoLength else if is_field coding fields then Err BadLength
      else within_limit (option_and_then number_of (only_one (values_of name fields)))) some
      ∙ ap (λ b. if b then Err BadLength else within_limit (option_and_then number_of (only_one (values_of name fields)))) code)

  pub stated : is_field name fields ≡ true → is_field coding fields ≡ false → (o : Option (List ℕ)) → o ≡ only_one (values_of name fields)
      → within_limit (option_and_then number_of o) ≡ stated_by name coding fields
  stated some plain o e = sym (ap (λ b. if not b then Err NoLength else if is_field coding fields then Err BadLength
      else within_limit (option_and_then number_of (only_one (values_of name fields)))) some
      ∙ ap (λ b. if b then Err BadLength else within_limit (option_and_then number_of (only_one (values_of name fields)))) plain
      ∙ ap (λ o. within_limit (option_and_then number_of o)) (sym e))

fits : (n m : ℕ) → n ≤ m → nat_le n m ≡ true
fits n m h = grind (arith, h)

passes : (n m : ℕ) → m < n → nat_le n m ≡ false
passes n m h = grind (arith, h)

-- a number within the limit, or past it
pub limited : (o : Option ℕ) (n : ℕ) → Some n ≡ o → n ≤ 4194304 → Ok n ≡ within_limit o
limited o n e h = ap (λ b. if b then Ok n else Err LongBody) (sym (fits n 4194304 h)) ∙ ap within_limit e

pub past_limit : (o : Option ℕ) (n : ℕ) → Some n ≡ o → 4194304 < n → Err LongBody ≡ within_limit o
past_limit o n e h = ap (λ b. if b then Ok n else Err LongBody) (sym (passes n 4194304 h)) ∙ ap within_limit e

-- a visible text is ASCII
more_ascii : (b : ℕ) (text : List ℕ) (t : Bool) → is_visible_byte b ≡ t → (t && list_all is_visible_byte text) ≡ true
    → IsAscii text → IsAscii (b ∷ text)
more_ascii b text true v e rest = IsAscii-cons b text (grind (arith, v)) rest
more_ascii b text false v e rest = cc

others : (t u : Bool) → (t && u) ≡ true → u ≡ true
others true u e = e
others false u e = cc

ascii : (text : List ℕ) → list_all is_visible_byte text ≡ true → IsAscii text
ascii [] e = IsAscii-nil
ascii (b ∷ text) e =
    more_ascii b text (is_visible_byte b) refl e (ascii text (others (is_visible_byte b) (list_all is_visible_byte text) e))

pub visible_is_text : (text : List ℕ) → is_visible text ≡ true → IsUtf8 text
visible_is_text text e = IsUtf8-from_ascii text (ascii text (last (nat_le 1 (length text)) (nat_le (length text) 64) (list_all is_visible_byte text) e))
  where
    last : (a b c : Bool) → (a && b && c) ≡ true → c ≡ true
    last true true c e = e
    last true false c e = cc
    last false b c e = cc
