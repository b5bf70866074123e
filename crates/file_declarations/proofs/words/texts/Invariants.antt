use Rattle.std.proofs.Common.{◌≡◌, ◌++◌, drop}
use Rattle.node_names.specs.Seen.{form_of, texts_of}
use Rattle.scope_names.specs.Form.{texts}
use Rattle.file_declarations.proofs.words.texts.Given as goal

abbrev pub invariant-loop-piece : goal.invariant-loop-piece
invariant-loop-piece l = texts_of l.words.items ++ texts (form_of (drop l.piece-index l.pieces)) ≡ texts (form_of l.pieces)
