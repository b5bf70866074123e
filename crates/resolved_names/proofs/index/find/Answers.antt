use Rattle.std.proofs.Common.{◌≡◌, ℕ, List, subst, slice_get}
use Rattle.std.specs.Prelude.{is_some, IfSome}
use Rattle.std.specs.Map.{lookup, values_of}
use Rattle.std.specs.Str.{bytes_eq}
use Rattle.resolved_names.specs.Index.{declared_in}
use Rattle.resolved_names.proofs.IndexLemmas.{place_kept}
use Rattle.resolved_names.proofs.index.find.Goals as goal

pub returns : goal.returns
returns c =
    let es = c.args.index.now.entries in
    let o = c.get_index_of.result in
    place_kept es (declared_in c.args.told.now) c.args.sort c.args.text.now c.in_ok-key.key o c.in_ok-key.ensures c.requires
    (subst (λ (w : List ℕ). is_some o ≡ is_some (lookup (λ y. bytes_eq w y.items) es)) c.as_slice.ensures.value c.get_index_of.ensures.found)
    (subst (λ (w : List ℕ). IfSome o (λ i. slice_get (values_of es) i ≡ lookup (λ y. bytes_eq w y.items) es)) c.as_slice.ensures.value c.get_index_of.ensures.value)
