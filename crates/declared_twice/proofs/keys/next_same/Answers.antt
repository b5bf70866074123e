use Rattle.std.proofs.Common.{◌≡◌, ◌≤◌, List, length, map, sym, ap, subst, ◌∙◌, arith, Option}
use Rattle.std.specs.Prelude.{option_map}
use Rattle.std.specs.Borrow.{Bor}
use Rattle.std.proofs.lemmas.List.{take_all, length-map}
use Rattle.file_declarations.specs.declared.declaration.Declaration.{Declaration}
use Rattle.declared_twice.specs.Keys.{Key, key_of, lent, lent_key}
use Rattle.declared_twice.proofs.NextLemmas.{Lent, equal_keys, lent_cmp, next_from_later, same_keys}
use Rattle.declared_twice.specs.Later.{AreLater}
use Rattle.declared_twice.proofs.keys.next_same.Goals as goal

pub returns : goal.returns
returns c =
    let ds = c.args.declared.now in
    let ks = c.loop-declaration.keys.items in
    let i = c.loop-declaration.declaration-index in
    let past : length ds ≤ i = omega arith in
    let e : map (option_map lent_key) ks ≡ map key_of (lent ds) = c.loop-declaration.invariant ∙ ap (λ (xs : List (Bor Declaration)). map key_of (lent xs)) (take_all i ds past) in
    let l : length ks ≡ length (lent ds) = sym (length-map ks (option_map lent_key)) ∙ ap (λ (xs : List (Option Key)). length xs) e ∙ length-map (lent ds) key_of in
    next_from_later lent_cmp ks (lent ds) c.in_ok-later.later.items equal_keys same_keys e l
    (subst (λ (os : List (Option Lent)). AreLater lent_cmp os c.in_ok-later.later.items) c.as_slice.ensures.value c.in_ok-later.ensures)
