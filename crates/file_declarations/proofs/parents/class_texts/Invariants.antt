use Rattle.std.proofs.Common.{◌≡◌, ◌++◌, drop}
use Rattle.node_names.specs.Facts.{class_texts}
use Rattle.node_names.specs.Seen.{texts_of}
use Rattle.file_declarations.specs.NamesSite.{names_site}
use Rattle.file_declarations.proofs.parents.class_texts.Given as goal

abbrev pub invariant-loop-word : goal.invariant-loop-word
invariant-loop-word l =
    l.classes.items ++ class_texts (names_site l.names) (texts_of (drop l.word-index l.words)) ≡ class_texts (names_site l.names) (texts_of l.words)
