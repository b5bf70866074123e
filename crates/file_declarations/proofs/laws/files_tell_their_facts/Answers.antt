use Rattle.std.proofs.Common.{true}
use Rattle.node_names.specs.Slots.{in_file}
use Rattle.file_declarations.proofs.FactLemmas.{told_facts}
use Rattle.file_declarations.proofs.laws.files_tell_their_facts.Goals as goal

pub returns : goal.returns
returns c = λ path f g. told_facts f 0 (in_file path) true g
