use Rattle.std.proofs.Common.{◌≡◌, ℕ, suc, List, sym, ap, ◌∙◌, ◌++◌}
use Rattle.php_rows.specs.Reading.{forest_in, weight}
use Rattle.program_points.specs.declared.piece.Piece.{Piece}
use Rattle.program_points.specs.Chosen.{pieces_of}
use Rattle.program_points.specs.Edges.{Around, edges, in_parts}
use Rattle.program_points.specs.Pieces.{pieces, stmts}
use Rattle.program_points.specs.Rows.{try_body, catches, finally_of}
use Rattle.program_points.specs.Walked.{around_in, around_of}
use Rattle.program_points.proofs.AroundLemmas.{taken_off}
use Rattle.program_points.proofs.WalkLemmas.{walked_child, same_around, node_walked, try_is, parts_same}
use Rattle.program_points.proofs.walk.+walk.Goals as goal

pub walk_parts-parts-preserved : goal.walk_parts-parts-preserved
walk_parts-parts-preserved t c =
    let h = rw c.in-Some-Child.field-0-is at c.in-Some-Child.ensures in
    let old = c.args.stacks.now in
    let now = c.parts.stacks in
    let inv = c.parts.invariant in
    let walked = c.in_ok-walk_node-in-Some-Child.ensures in
    walked_child (λ (m : ℕ). around_of old) (weight (forest_in c.args.parts)) c.parts.left.number c.in-Some-Child.number c.next.new.self.number
    (c.args.edges.now.items ++ edges (λ (m : ℕ). around_of old) c.args.parts.number (forest_in c.args.parts))
    c.parts.edges.items c.walk_node.new.edges.items c.in-Some-Child.kind (forest_in c.in-Some-Child.inner) (forest_in c.parts.left) (forest_in c.next.new.self)
    (around_of now) old now c.walk_node.new.stacks h.parts h.own h.number (same_around old now inv.frames inv.handlers)
    walked.edges walked.frames walked.handlers inv

pub walk_try-parts-preserved : goal.walk_try-parts-preserved
walk_try-parts-preserved t c =
    let h = rw c.in-Some-Child.field-0-is at c.in-Some-Child.ensures in
    let tried = c.args.tried in
    let old = c.args.stacks.now in
    let now = c.parts.stacks in
    let inside = c.enter_part.new.stacks in
    let after = c.walk_node.new.stacks in
    let done = c.lower.new.stacks in
    let inv = c.parts.invariant in
    let entered = c.in_ok-enter_part-in-Some-Child.ensures in
    let walked = c.in_ok-walk_node-in-Some-Child.ensures in
    let high = c.heights-outside.result in
    walked_child (around_in tried (around_of old)) (weight (forest_in c.args.parts)) c.parts.left.number c.in-Some-Child.number c.next.new.self.number
    (c.args.edges.now.items ++ edges (around_in tried (around_of old)) c.args.parts.number (forest_in c.args.parts))
    c.parts.edges.items c.walk_node.new.edges.items c.in-Some-Child.kind (forest_in c.in-Some-Child.inner) (forest_in c.parts.left) (forest_in c.next.new.self)
    (around_of inside) old now done h.parts h.own h.number
    (entered.around ∙ ap (λ (a : Around). around_in tried a c.in-Some-Child.number) (same_around old now inv.frames inv.handlers))
    walked.edges
    (taken_off high.0 now.frames.items inside.frames.items after.frames.items done.frames.items
    c.heights-outside.ensures.frames entered.above.frames walked.frames c.lower.ensures.frames)
    (taken_off high.1 now.handlers.items inside.handlers.items after.handlers.items done.handlers.items
    c.heights-outside.ensures.handlers entered.above.handlers walked.handlers c.lower.ensures.handlers)
    inv

pub walk_node-returns-then-is_try-clause-edges : goal.walk_node-returns-then-is_try-clause-edges
walk_node-returns-then-is_try-clause-edges t c =
    let n = c.args.number in
    let k = c.args.kind in
    let g = forest_in c.args.parts in
    let a = around_of c.args.stacks.now in
    let ps = pieces (suc n) g in
    let read : pieces_of c.read.new.pieces.items ≡ ps = c.in_ok-read.ensures ∙ ap (λ (j : ℕ). pieces j g) c.requires in
    node_walked n c.args.parts.number k g a
    (λ (m : ℕ). in_parts n (stmts (pieces_of c.body_of.result.now)) (stmts (pieces_of c.catches_of.result.now)) (stmts (pieces_of c.last_of.result.now)) a m)
    c.args.edges.now.items c.row_edges.new.edges.items c.walk_try.new.edges.items c.in_ok-frame.ensures.edges c.in_ok-walk_try.ensures.edges c.requires
    (try_is k n ps a (sym c.is_elsewhere.ensures ∙ c.if-is_elsewhere.false) (sym c.is_try.ensures ∙ c.if-is_try.true)
    ∙ parts_same n ps (stmts (pieces_of c.body_of.result.now)) (stmts (pieces_of c.catches_of.result.now)) (stmts (pieces_of c.last_of.result.now)) a
    (c.body_of.ensures ∙ ap (λ (xs : List Piece). try_body (pieces_of xs)) c.as_slice.ensures.value ∙ ap try_body read)
    (c.catches_of.ensures ∙ ap (λ (xs : List Piece). catches (pieces_of xs)) c.as_slice-then-is_try.ensures.value ∙ ap catches read)
    (c.last_of.ensures ∙ ap (λ (xs : List Piece). finally_of (pieces_of xs)) c.as_slice-then-is_try-2.ensures.value ∙ ap finally_of read))
