-- Properties of objects: which one code at a site means, its cell, its value. (PHP manual, "Classes and Objects":
-- "Properties", "Visibility"; RFC "Typed Properties 2.0".)
use Rattle.std.specs.Prelude.{ℕ, ◌-◌, Bool, true, false, not, ◌&&◌, ◌||◌, cond, if◌then◌else◌, nat_eq, [], ◌∷◌, codes, is_some, Option, Some, None}
use Rattle.scope_names.specs.Slot as slot
use Rattle.php_meaning.specs.values.Value.{Value, Null, Object, Cell, none, own}
use Rattle.php_meaning.specs.Cause.{NoRule, Reference, Error}
use Rattle.php_meaning.specs.runs.World.{Bytes, Member, Store}
use Rattle.scope_names.specs.Form.{Form, kids, texts}
use Rattle.scope_names.specs.Words.{first_word, behind_word}
use Rattle.scope_names.specs.Sites.{Site}
use Rattle.php_meaning.specs.names.Tables.{Tables}
use Rattle.php_meaning.specs.names.Tables as table
use Rattle.php_meaning.specs.runs.Stores.{object_at, cell_of, with_property, without_property}
use Rattle.php_meaning.specs.expressions.Assigning.{Properties, Base, Made, Unmade}
use Rattle.php_meaning.specs.classes.Lines.{class_name, declared_class, line, is_a}
use Rattle.php_meaning.specs.classes.Members.{declared_line, has_modifier, is_seen, own_property, own_static, first_listed}
use Rattle.php_meaning.specs.classes.Declaring.{is_listed, exception_properties}
use Rattle.php_meaning.specs.classes.Types.{typing_of, of_type}
use Rattle.php_meaning.specs.runs.Script.{Typing, Untyped, Typed, Script, Stop, Look, Put, give, throws}

-- ---- properties

abbrev pub is_nothing : Bytes → Bool
is_nothing [] = true
is_nothing (b ∷ bs) = false

-- a property as code at a site means it: whose it is where it is private, and its type
pub record Found : Type 0 where
  pub member : Member
  pub typing : Typing

abbrev pub owned_by : Bytes → Bytes → table.Declaration → Found
owned_by name class e = record { member = record { name = name; owner = Some class }; typing = typing_of e }

abbrev pub shared_by : Bytes → table.Declaration → Found
shared_by name e = record { member = record { name = name; owner = None }; typing = typing_of e }

-- none where the code may not use it; one that no class of the line declares has no type
abbrev pub found_from : Tables → Store → Site → Tables → Bytes → Bool → Option Found
found_from t s site [] name is_first = Some (record { member = record { name = name; owner = None }; typing = Untyped })
found_from t s site (d ∷ ds) name is_first = elim (own_property t d name) [
  | None ↦ found_from t s site ds name false
  | Some e ↦
      if has_modifier (codes "private") e.form
      then (if is_seen t s site e.form (class_name d) then Some (owned_by name (class_name d) e)
      else (if is_first then None else found_from t s site ds name false))
      else (if is_seen t s site e.form (class_name d) then Some (shared_by name e) else None)
]

-- the private property of the class that code stands in, where the object is of that class
abbrev pub own_found : Tables → Store → Site → Bytes → Bytes → Option Found
own_found t s site class name = elim site.class [
  | None ↦ None
  | Some c ↦ (elim (declared_class t s.declared c) [
    | None ↦ None
    | Some d ↦ (elim (own_property t d name) [
      | None ↦ None
      | Some e ↦ if has_modifier (codes "private") e.form && is_a t s class c then Some (owned_by name (class_name d) e) else None
    ])
  ])
]

abbrev pub property_found : Tables → Store → Site → Bytes → Bytes → Option Found
property_found t s site class name = elim (own_found t s site class name) [
  | Some f ↦ Some f
  | None ↦ found_from t s site (declared_line t s.declared (line t s class)) name true
]

-- whether a property has no meaning at an object of a class: it has no name of its own here, an exception has it from the start,
-- or it is a static one
abbrev pub is_barred : Tables → Store → Bytes → Bytes → Bool
is_barred t s class name =
    is_nothing name || (is_listed name exception_properties && is_a t s class (codes "Throwable"))
    || is_some (first_listed (own_static t) (declared_line t s.declared (line t s class)) name)

-- The property of an object as code at a site means it, or what comes where it may not be used.
abbrev pub found_then : Tables → Site → ℕ → Bytes → Script → (Found → Script) → Script
found_then t site n name unseen k = Look (λ s.
    if is_barred t s (object_at s.objects n).class name
    then Stop NoRule
    else (elim (property_found t s site (object_at s.objects n).class name) [ None ↦ unseen | Some f ↦ k f ]))

-- ---- the cell of a property, and its value

abbrev pub property_base : ℕ → Found → Bytes → Store → Base
property_base n f name s = elim (cell_of n f.member s) [
  | Some c ↦ Made c f.typing
  | None ↦ Unmade (slot.Property name) f.typing (with_property n f.member)
]

-- what a location in a property begins with
abbrev pub property_base_then : Tables → Site → Value → Bytes → (Base → Script) → Script
property_base_then t site (Object n) name k =
    found_then t site n name (throws Error) (λ f. Look (λ s. k (property_base n f name s)))
property_base_then t site v name k = Stop Reference

-- A property is bound to a cell in place of its own. One that has a type is outside, and so is one that the code may not use, since
-- PHP makes the reference first.
abbrev pub bind_member : Typing → ℕ → Member → Cell → Script → Script
bind_member Untyped n m c k = Look (λ s. Put (with_property n m c (without_property n m s)) k)
bind_member (Typed d) n m c k = Stop Reference

abbrev pub bind_property : Tables → Site → Value → Bytes → Cell → Script → Script
bind_property t site (Object n) name c k = found_then t site n name (Stop Reference) (λ f. bind_member f.typing n f.member c k)
bind_property t site v name c k = Stop Reference

-- what reading a property gives that has no cell: null, and outside where it has a type
abbrev pub read_missing : Typing → (Value → Script) → Script
read_missing Untyped k = k Null
read_missing typing k = Stop Reference

abbrev pub value_or : Option Cell → Store → Script → (Value → Script) → Script
value_or (Some c) s missing k = k (s.held c)
value_or None s missing k = missing

-- the value of a property
abbrev pub property_value : Tables → Site → Value → Bytes → Script
property_value t site (Object n) name =
    found_then t site n name (throws Error) (λ f. Look (λ s. value_or (cell_of n f.member s) s (read_missing f.typing give) give))
property_value t site v name = cond (is_nothing name) (Stop NoRule) (give Null)

-- the same where nothing is said of what isn't there: a property that may not be seen counts as missing
abbrev pub property_quietly : Tables → Site → Value → Bytes → (Value → Script) → Script
property_quietly t site (Object n) name k =
    found_then t site n name (k Null) (λ f. Look (λ s. value_or (cell_of n f.member s) s (k Null) k))
property_quietly t site v name k = cond (is_nothing name) (Stop NoRule) (k Null)

-- a property is taken away
abbrev pub unset_property : Tables → Site → Value → Bytes → Script
unset_property t site (Object n) name =
    found_then t site n name (throws Error) (λ f. Look (λ s. Put (without_property n f.member s) (give Null)))
unset_property t site v name = Stop Reference

abbrev pub properties_at : Tables → Site → Properties
properties_at t site = record {
  base = property_base_then t site;
  bound = bind_property t site;
  typed = of_type t;
}

-- The name of the member behind `->`, with so many children: the object and what the name is called with. One that an
-- expression names has no name here.
abbrev pub member_word : ℕ → Form → Bytes
member_word n f = if nat_eq (kids f) n then first_word (behind_word (codes "->") (texts f)) else []
