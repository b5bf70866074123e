use Rattle.std.proofs.Common.{◌≡◌, ◌==◌, ℕ, Bool, false, List, [], ◌∷◌, arith, rules}
use Rattle.node_names.specs.Facts.{parts_from}
use Rattle.node_names.specs.Seen.{texts_of}
use Rattle.file_declarations.proofs.WordLemmas.{cutting_other}
use Rattle.file_declarations.proofs.path_parts.parts_of.Goals as goal

pub bytes-preserved : goal.bytes-preserved
bytes-preserved c =
    cutting_other (texts_of c.bytes.parts.items) c.bytes.start.now c.bytes.left.now c.in-Some.behind.now c.in-Some.byte (parts_from [] c.args.path.now)
    (search (rules, c.in-Some.ensures, c.in-Some.byte-is, c.in-Some.behind-is)) (search (rules, c.if-byte-eq47.false)) c.bytes.invariant
