-- Types of the code and their terms.
use Rattle.std.proofs.Common.{◌≡◌, ℕ, ◌<◌, Bool, List, map, length, get_or, slice_get, ltb, Bor, Box, Option, Some, None, is_some, sym, ap, subst, ◌∙◌, rules}
use Rattle.std.specs.Option.{option_map, IfSome}
use Rattle.std.specs.declared.alloc.Global.{Global}
use Rattle.std.proofs.lemmas.Bool.{ltb-true}
use Rattle.std.proofs.lemmas.Option.{slice_get-map, slice_get-get_or}
use Rattle.scalar_types.specs.declared.php_type.Parts.{Parts}
use Rattle.scalar_types.specs.declared.php_type.PhpType.{PhpType, Any, the_lemmas}
use Rattle.scalar_types.specs.declared.php_type.PhpType.TheViews.{Known, roll-Parts}
use Rattle.scalar_types.specs.Terms.{term, any, array, facts_of}

-- a known type with an element
pub term-array : (bits : ℕ) (neg text_keys : Bool) (shared classes xs ys : List ℕ) (b : Box PhpType Global) (e : PhpType)
    → b.value ≡ e → shared ≡ xs → classes ≡ ys
    → term (Known (roll-Parts (record { bits = bits; element = Some b; neg = neg; text_keys = text_keys; shared = shared; classes = classes })))
    ≡ array (record { bits = bits; neg = neg; text_keys = text_keys; shared = xs; classes = ys }) (term e)
term-array bits neg text_keys shared classes xs ys b e h k l =
    step
    ∙ (λ i. array (record { bits = bits; neg = neg; text_keys = text_keys; shared = k i; classes = l i }) (term (h i)))
  where
    step : term (Known (roll-Parts (record { bits = bits; element = Some b; neg = neg; text_keys = text_keys; shared = shared; classes = classes })))
        ≡ array (record { bits = bits; neg = neg; text_keys = text_keys; shared = shared; classes = classes }) (term b.value)
    step = search (rules, the_lemmas)

pub term-Any : (a : PhpType) → a ≡ Any → term a ≡ any
term-Any a e = search (rules, the_lemmas)

pub term-known : (a : PhpType) (p : Parts) (b : Box PhpType Global) → a ≡ Known p → p.element ≡ Some b → term a ≡ array (facts_of p) (term b.value)
term-known a p b e h = search (rules, the_lemmas)

-- a type that is read at a place
pub slice_get-term : (types : List PhpType) (i : ℕ) (x : PhpType) → i < length types → x ≡ get_or types i x → slice_get (map term types) i ≡ Some (term x)
slice_get-term types i x within e =
    slice_get-map term types i ∙ ap (option_map term) (slice_get-get_or types i x within ∙ ap Some (sym e))

-- what `get` of a slice answers
pub IfSome-get : (types read : List PhpType) (P : PhpType → Type 0) (i : ℕ) (r : Option (Bor PhpType)) → read ≡ types
    → is_some r ≡ ltb i (length read) → IfSome r (λ x. x.now ≡ get_or read i x.now)
    → ((x : PhpType) → slice_get (map term types) i ≡ Some (term x) → P x) → IfSome r (λ x. P x.now)
IfSome-get types read P i None same there at f = tt
IfSome-get types read P i (Some x) same there at f =
    f x.now
    (subst (λ l. slice_get (map term l) i ≡ Some (term x.now)) same (slice_get-term read i x.now (ltb-true i (length read) (sym there)) at))
