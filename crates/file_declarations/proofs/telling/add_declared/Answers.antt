use Rattle.std.proofs.Common.{◌≡◌, List, [], ◌∷◌, ◌++◌, sym, ap, ◌∙◌, append_assoc}
use Rattle.file_declarations.specs.declared.told.Told.{Told}
use Rattle.file_declarations.specs.declared.told.Told.TheVariants.{Declares}
use Rattle.file_declarations.specs.Told.{declared_told}
use Rattle.file_declarations.proofs.TellLemmas.{declared_push}
use Rattle.file_declarations.proofs.telling.add_declared.Goals as goal

pub loop-name-preserved : goal.loop-name-preserved
loop-name-preserved c =
    let d : Told = Declares (record { name = c.in-Some.name; at = c.args.at; is_top = c.args.is_top }) in
    c.in_ok-push.ensures.items
    ∙ ap (λ (ts : List Told). ts ++ d ∷ []) c.loop-name.invariant
    ∙ append_assoc c.args.told.now.items (declared_told c.args.at c.args.is_top c.loop-name.yielded) (d ∷ [])
    ∙ ap (λ (ts : List Told). c.args.told.now.items ++ ts) (sym (declared_push c.args.at c.args.is_top c.loop-name.yielded c.in-Some.name))
