-- The members of an object, counted.
use Rattle.std.proofs.Common.{◌≡◌, ℕ, ◌+◌, List, [], ◌∷◌, length, map, String, refl, arith}
use Rattle.std.specs.declared.alloc.Global.{Global}
use Rattle.serde_json.specs.Data.{Data}
use Rattle.serde_json.specs.View.{members_of, members_view, view}
use Rattle.serde_json.specs.declared.value.Value.{Value}
use Rattle.review_bodies.specs.Json.{count_members}

pub members_counted : (ms : List (String Global × Value)) → count_members (members_view ms) ≡ length ms
members_counted [] = refl
members_counted (m ∷ ms) = omega (arith, members_counted ms)
