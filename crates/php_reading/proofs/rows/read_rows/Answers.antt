use Rattle.std.proofs.Common.{◌≡◌, ◌∙◌, List, ℕ, sym, subst}
use Rattle.php_rows.specs.File.{file_in}
use Rattle.php_reading.specs.declared.fault.ReadFault.{ReadFault}
use Rattle.php_reading.specs.declared.fault.ReadFault.TheVariants.{NotInGrammar}
use Rattle.php_reading.specs.Faults.{of_lexing}
use Rattle.php_reading.specs.Reading.{InPlaceOf, InPlaceOfFault, IsFault}
use Rattle.php_reading.proofs.Trees.{one_tree}
use Rattle.php_reading.proofs.Causes.{answers_of, fault_of, no_tree, one_fault, tree_has_none}
use Rattle.php_reading.proofs.RowTrees.{row_none, row_reads, short_for}
use Rattle.php_reading.proofs.rows.read_rows.Goals as goal

pub returns-in-Err-clause-only : goal.returns-in-Err-clause-only
returns-in-Err-clause-only c f p =
    let cause = subst (λ (b : List ℕ). IsFault c.args.version b (of_lexing c.in-Err.fault)) c.as_slice.ensures.value
    (fault_of c.args.version c.as_slice.result.now c.in-Err.fault c.in-Err.ensures.fault) in
    subst (λ (x : ReadFault). InPlaceOf x f) (sym c.of_lexing.ensures) (answers_of c.args.version c.args.bytes.items f (of_lexing c.in-Err.fault) cause p)

pub returns-in-Err-clause-refused : goal.returns-in-Err-clause-refused
returns-in-Err-clause-refused c fault m q =
    let cause = subst (λ (b : List ℕ). IsFault c.args.version b (of_lexing c.in-Err.fault)) c.as_slice.ensures.value
    (fault_of c.args.version c.as_slice.result.now c.in-Err.fault c.in-Err.ensures.fault) in
    subst (λ (x : ReadFault). InPlaceOfFault x fault) (sym c.of_lexing.ensures) (one_fault c.args.version c.args.bytes.items (of_lexing c.in-Err.fault) cause fault m q)

pub returns-in-Ok-parse_marks-clause-only : goal.returns-in-Ok-parse_marks-clause-only
returns-in-Ok-parse_marks-clause-only c f p =
    let tree = file_in c.in-Ok-parse_marks.tree in
    let reads = row_reads c.args.version c.as_slice.result.now c.args.bytes.items c.in-Ok.marks.items tree
    c.as_slice.ensures.value c.in-Ok.ensures.tokens c.in-Ok-parse_marks.ensures.found in
    one_tree c.args.version c.args.bytes.items tree f reads p

pub returns-in-Ok-parse_marks-clause-refused : goal.returns-in-Ok-parse_marks-clause-refused
returns-in-Ok-parse_marks-clause-refused c fault m q =
    let tree = file_in c.in-Ok-parse_marks.tree in
    let reads = row_reads c.args.version c.as_slice.result.now c.args.bytes.items c.in-Ok.marks.items tree
    c.as_slice.ensures.value c.in-Ok.ensures.tokens c.in-Ok-parse_marks.ensures.found in
    tree_has_none c.args.version c.args.bytes.items tree (short_for c.as_slice.result.now c.args.bytes.items c.as_slice.ensures.value c.in-Ok.ensures.within) reads fault m q

pub returns-in-Err-NotInGrammar-clause-only : goal.returns-in-Err-NotInGrammar-clause-only
returns-in-Err-NotInGrammar-clause-only c f p =
    no_tree c.args.version c.args.bytes.items f p
    (row_none c.args.version c.as_slice.result.now c.args.bytes.items c.in-Ok.marks.items c.in-Err-NotInGrammar.field-0
    c.as_slice.ensures.value c.in-Ok.ensures.within c.in-Ok.ensures.tokens c.in-Err-NotInGrammar.field-0-is c.in-Err-NotInGrammar.ensures.only)

pub returns-in-Err-NotInGrammar-clause-refused : goal.returns-in-Err-NotInGrammar-clause-refused
returns-in-Err-NotInGrammar-clause-refused c fault m q =
    one_fault c.args.version c.args.bytes.items NotInGrammar
    (row_none c.args.version c.as_slice.result.now c.args.bytes.items c.in-Ok.marks.items c.in-Err-NotInGrammar.field-0
    c.as_slice.ensures.value c.in-Ok.ensures.within c.in-Ok.ensures.tokens c.in-Err-NotInGrammar.field-0-is c.in-Err-NotInGrammar.ensures.only)
    fault m q
