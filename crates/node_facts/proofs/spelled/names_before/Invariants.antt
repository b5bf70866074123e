use Rattle.std.proofs.Common.{◌≡◌, ◌++◌, drop}
use Rattle.node_names.specs.Seen.{form_of, texts_of}
use Rattle.node_names.specs.Spelled.{spelled_names, before_text}
use Rattle.node_facts.proofs.spelled.names_before.Given as goal

abbrev pub invariant-loop-piece : goal.invariant-loop-piece
invariant-loop-piece l =
    texts_of l.words.items ++ spelled_names (before_text l.text (form_of (drop l.piece-index l.form))) ≡ spelled_names (before_text l.text (form_of l.form))
