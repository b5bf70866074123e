use Rattle.std.proofs.Common.{rules}
use Rattle.std.specs.Ordering.{nat_cmp}
use Rattle.std.specs.Cmp.Lexicographic.{slice_cmp}
use Rattle.std.proofs.lemmas.Fn.{always_returns_same}
use Rattle.io_ports.specs.Files.{File}
use Rattle.io_ports.proofs.Places.{Searched, searched}
use Rattle.io_ports.proofs.memory.files.place_of.Goals as goal

-- the closure compares a file's path with this one
came : (c : goal.After-binary_search_by) → Searched c.args.path.now c.args.files.now c.binary_search_by.result
came c = searched c.args.path.now c.args.files.now c.binary_search_by.result c.requires
    (c.binary_search_by.ensures.position (λ (f : File). slice_cmp nat_cmp f.0 c.args.path.now) (always_returns_same _ _ _ (λ a r f' called. search rules)))

pub returns-clause-found : goal.returns-clause-found
returns-clause-found c = (came c).found

pub returns-clause-set : goal.returns-clause-set
returns-clause-set c = (came c).set

pub returns-clause-absent : goal.returns-clause-absent
returns-clause-absent c = (came c).absent

pub returns-clause-added : goal.returns-clause-added
returns-clause-added c = (came c).added
