use Rattle.std.proofs.Common.{List, [], ◌∷◌, ◌++◌, take, sym, ap, ◌∙◌}
use Rattle.std.specs.Borrow.{Bor}
use Rattle.std.proofs.lemmas.List.{map_push}
use Rattle.file_declarations.specs.declared.declaration.Declaration.{Declaration}
use Rattle.file_declarations.specs.declared.told.Told.{Told}
use Rattle.declared_twice.specs.Keys.{declared_in, lent}
use Rattle.declared_twice.proofs.ClashLemmas.{declared_more, declared_same}
use Rattle.declared_twice.proofs.EntryLemmas.{take_item}
use Rattle.declared_twice.proofs.declaring.declared.Goals as goal

pub loop-one-preserved-in-None : goal.loop-one-preserved-in-None
loop-one-preserved-in-None c =
    let ts = c.args.told.now in
    let i = c.loop-one.one-index in
    let x = c.one-item.result in
    c.loop-one.invariant ∙ sym (ap (λ (us : List Told). declared_in us) (take_item ts i x c.loop-one-test.true c.one-item.is) ∙ declared_same (take i ts) x (sym c.in-None.ensures))

pub loop-one-preserved : goal.loop-one-preserved
loop-one-preserved c =
    let ts = c.args.told.now in
    let i = c.loop-one.one-index in
    let x = c.one-item.result in
    let d = c.in-Some.declaration in
    ap (λ (ds : List (Bor Declaration)). lent ds) c.in_ok-push.ensures.items
    ∙ map_push (λ (y : Bor Declaration). y.now) c.loop-one.all.items d
    ∙ ap (λ (ds : List Declaration). ds ++ d.now ∷ []) c.loop-one.invariant
    ∙ sym (ap (λ (us : List Told). declared_in us) (take_item ts i x c.loop-one-test.true c.one-item.is) ∙ declared_more (take i ts) x d.now (sym c.in-Some.ensures))
