use Rattle.std.proofs.Common.{rules, ◌≡◌, Some, ap, sym, subst, ◌∙◌, slice_get}
use Rattle.std.proofs.lemmas.Option.{slice_get-get_or}
use Rattle.io_ports.specs.Files.{IsTree, put_file}
use Rattle.io_ports.proofs.FileLaws.{put_is_tree}
use Rattle.io_ports.proofs.memory.files.put_into.Goals as goal

-- a put keeps the order
pub returns-in-Ok-clause-ordered : goal.returns-in-Ok-clause-ordered
returns-in-Ok-clause-ordered c =
    let got : slice_get c.args.files.now.items c.in-Ok.at ≡ Some c.index_mut.result.now =
    slice_get-get_or c.args.files.now.items c.in-Ok.at c.index_mut.result.now (search rules) ∙ ap Some (sym c.index_mut.ensures.value) in
    let put = rw c.as_slice.ensures.value at c.in-Ok.ensures.set c.new-bytes.result c.index_mut.result.now got in
    subst IsTree put (put_is_tree c.args.path.now c.new-bytes.result c.args.files.now.items c.requires)

pub returns-in_ok-insert-in-Err-clause-ordered : goal.returns-in_ok-insert-in-Err-clause-ordered
returns-in_ok-insert-in-Err-clause-ordered c =
    let added : put_file c.args.path.now c.new-bytes.result c.args.files.now.items ≡ c.insert.new.self.items = search rules in
    subst IsTree added (put_is_tree c.args.path.now c.new-bytes.result c.args.files.now.items c.requires)
