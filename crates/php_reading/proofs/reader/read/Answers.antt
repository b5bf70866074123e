use Rattle.std.proofs.Common.{sym, subst, Err}
use Rattle.php_tree.specs.Whole.{file}
use Rattle.php_reading.specs.declared.fault.ReadFault.{ReadFault}
use Rattle.php_reading.specs.declared.fault.ReadFault.TheVariants.{NotInGrammar}
use Rattle.php_reading.specs.Faults.{of_lexing}
use Rattle.php_reading.specs.Reading.{Answers, Refuses}
use Rattle.php_reading.proofs.Trees.{reads_of, one_tree}
use Rattle.php_reading.proofs.Causes.{answers_of, fault_of, no_tree, one_fault, tree_has_none, without_tree}
use Rattle.php_reading.proofs.reader.read.Goals as goal

pub returns-in-Err-clause-only : goal.returns-in-Err-clause-only
returns-in-Err-clause-only c f p =
    let cause = fault_of c.args.version c.args.bytes.now c.in-Err.fault c.in-Err.ensures.fault in
    subst (λ (x : ReadFault). Answers (Err x) f) (sym c.of_lexing.ensures) (answers_of c.args.version c.args.bytes.now f (of_lexing c.in-Err.fault) cause p)

pub returns-in-Err-clause-refused : goal.returns-in-Err-clause-refused
returns-in-Err-clause-refused c fault m q =
    let cause = fault_of c.args.version c.args.bytes.now c.in-Err.fault c.in-Err.ensures.fault in
    subst (λ (x : ReadFault). Refuses (Err x) fault) (sym c.of_lexing.ensures) (one_fault c.args.version c.args.bytes.now (of_lexing c.in-Err.fault) cause fault m q)

pub returns-in-Ok-parse-clause-only : goal.returns-in-Ok-parse-clause-only
returns-in-Ok-parse-clause-only c f p =
    one_tree c.args.version c.args.bytes.now (file c.in-Ok-parse.tree) f
    (reads_of c.args.version c.args.bytes.now c.in-Ok.tokens.items (file c.in-Ok-parse.tree)
    c.in-Ok.ensures.tokens c.in-Ok-parse.ensures.found) p

pub returns-in-Ok-parse-clause-refused : goal.returns-in-Ok-parse-clause-refused
returns-in-Ok-parse-clause-refused c fault m q =
    tree_has_none c.args.version c.args.bytes.now (file c.in-Ok-parse.tree) c.in-Ok.ensures.within
    (reads_of c.args.version c.args.bytes.now c.in-Ok.tokens.items (file c.in-Ok-parse.tree)
    c.in-Ok.ensures.tokens c.in-Ok-parse.ensures.found) fault m q

pub returns-in-Err-NotInGrammar-clause-only : goal.returns-in-Err-NotInGrammar-clause-only
returns-in-Err-NotInGrammar-clause-only c f p =
    no_tree c.args.version c.args.bytes.now f p
    (without_tree c.args.version c.args.bytes.now c.in-Ok.tokens.items c.in-Err-NotInGrammar.field-0
    c.in-Ok.ensures.within c.in-Ok.ensures.tokens c.in-Err-NotInGrammar.field-0-is
    c.in-Err-NotInGrammar.ensures.only)

pub returns-in-Err-NotInGrammar-clause-refused : goal.returns-in-Err-NotInGrammar-clause-refused
returns-in-Err-NotInGrammar-clause-refused c fault m q =
    one_fault c.args.version c.args.bytes.now NotInGrammar
    (without_tree c.args.version c.args.bytes.now c.in-Ok.tokens.items c.in-Err-NotInGrammar.field-0
    c.in-Ok.ensures.within c.in-Ok.ensures.tokens c.in-Err-NotInGrammar.field-0-is
    c.in-Err-NotInGrammar.ensures.only) fault m q
