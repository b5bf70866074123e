use Rattle.std.proofs.Common.{◌∙◌, refl, sym, lit<}
use Rattle.php_terminals.specs.declared.terminal.Terminal.TheVariants.{OtherKeyword}
use Rattle.php_terminals.specs.declared.words.TheConstants.{KEYWORD_PLACES}
use Rattle.php_terminals.specs.Words.{keywords}
use Rattle.php_terminals.proofs.SlotLemmas.{one_look, place_below}
use Rattle.php_terminals.proofs.words.listed_keyword.Goals as goal

pub row_class-requires : goal.row_class-requires
row_class-requires c = place_below 66 KEYWORD_PLACES c.slot.result (lit< tt) refl

pub returns : goal.returns
unfolding keywords
returns c =
    let look = one_look OtherKeyword keywords KEYWORD_PLACES c.args.text.now refl refl (rw (sym c.slot.ensures.is) (place_below 66 KEYWORD_PLACES c.slot.result (lit< tt) refl)) in
    c.row_class.ensures ∙ rw c.slot.ensures.is look
