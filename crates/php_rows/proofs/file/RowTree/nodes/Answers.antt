use Rattle.std.proofs.Common.{◌≡◌, ◌-◌, length, ap, sym, ◌∙◌}
use Rattle.php_rows.specs.File.{tokens_of}
use Rattle.php_rows.proofs.Fitting.{count_read}
use Rattle.php_rows.proofs.file.RowTree.nodes.Goals as goal

pub returns : goal.returns
returns c =
    let r = c.args.self.now in
    ap length c.as_slice.ensures.value ∙ sym (count_read (length r.nodes.items) 0 (length r.marks.items - 1) r.nodes.items (tokens_of r) r.nested)
