use Rattle.std.proofs.Common.{◌≡◌, ◌++◌, drop}
use Rattle.std.specs.Prelude.{option_map, None}
use Rattle.node_names.specs.Seen.{form_of, texts_of}
use Rattle.node_names.specs.Spelled.{before_equals}
use Rattle.node_names.proofs.spelled.values.Given as goal

abbrev pub invariant-loop-piece : goal.invariant-loop-piece
invariant-loop-piece l =
    texts_of l.words.items ++ before_equals (option_map (λ w. w.now) l.before) (form_of (drop l.piece-index l.form))
    ≡ before_equals None (form_of l.form)
