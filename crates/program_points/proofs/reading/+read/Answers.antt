use Rattle.std.proofs.Common.{ap, ◌∙◌, arith}
use Rattle.php_terminals.specs.declared.tokens.Tokens.{Tokens}
use Rattle.php_tree.specs.Tree.{Forest}
use Rattle.php_rows.specs.Reading.{forest_in, weight}
use Rattle.program_points.specs.Pieces.{Pieces, and_then, pieces}
use Rattle.program_points.specs.Chosen.{kept, pieces_to}
use Rattle.program_points.proofs.ReadingLemmas.{read_child}
use Rattle.program_points.proofs.reading.+read.Goals as goal

pub read_parts-parts-preserved : goal.read_parts-parts-preserved
read_parts-parts-preserved t c =
    let h = rw c.in-Some-Child.field-0-is at c.in-Some-Child.ensures in
    record {
      bytes = ap (λ (ts : Tokens). ts.bytes.now) h.tokens ∙ c.parts.invariant.bytes;
      small = omega (arith, c.parts.invariant.small, ap (λ (f : Forest). weight f) h.parts);
      whole = read_child c.args.has_words c.parts.left.number c.in-Some-Child.number c.next.new.self.number c.in-Some-Child.kind
          (forest_in c.in-Some-Child.inner) (forest_in c.parts.left) (forest_in c.next.new.self) c.parts.pieces.items c.add_child.new.pieces.items
          (λ (ps : Pieces). pieces_to c.args.pieces.now.items (and_then (kept c.args.has_words (pieces c.args.parts.number (forest_in c.args.parts))) ps))
          h.parts h.own h.number c.in_ok-add_child-in-Some-Child.ensures c.parts.invariant.whole;
    }
