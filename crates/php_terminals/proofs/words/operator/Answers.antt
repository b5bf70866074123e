use Rattle.std.proofs.Common.{◌∙◌, refl, sym, lit<}
use Rattle.php_terminals.specs.declared.terminal.Terminal.TheVariants.{OtherOp}
use Rattle.php_terminals.specs.declared.words.TheConstants.{OPERATOR_PLACES}
use Rattle.php_terminals.specs.Words.{operators}
use Rattle.php_terminals.proofs.SlotLemmas.{one_look, place_below}
use Rattle.php_terminals.proofs.words.operator.Goals as goal

pub row_class-requires : goal.row_class-requires
row_class-requires c = place_below 59 OPERATOR_PLACES c.slot.result (lit< tt) refl

pub returns : goal.returns
unfolding operators
returns c =
    let look = one_look OtherOp operators OPERATOR_PLACES c.args.text.now refl refl (rw (sym c.slot.ensures.is) (place_below 59 OPERATOR_PLACES c.slot.result (lit< tt) refl)) in
    c.row_class.ensures ∙ rw c.slot.ensures.is look
