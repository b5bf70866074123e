use Rattle.std.proofs.Common.{◌≡◌, ◌≤◌, ◌-◌, ◌<◌, ◌+◌, suc, ◌∷◌, drop, length, map, arith, refl, ap, sym, ◌∙◌, subst, List, ◌^◌, Some, Option, ℕ, slice_range, slice_index_or}
use Rattle.php_tree.specs.declared.token.Token.{Token}
use Rattle.php_tree.proofs.Placed.{placed_fact}
use Rattle.php_terminals.specs.Marked.{token_at}
use Rattle.php_terminals.specs.Tokens.{tokens_in}
use Rattle.php_tree.specs.Ids.{place_of}
use Rattle.php_rows.specs.File.{file_in, nowhere, tokens_of}
use Rattle.php_rows.proofs.Whole.{NodeFound, node_found, no_place, same_length, node_ordered, followed}
use Rattle.php_rows.proofs.file.RowTree.span.Goals as goal

pub returns-then-id-nodes : goal.returns-then-id-nodes
returns-then-id-nodes c =
    let r = c.args.self.now in
    let l = ap length c.as_slice-nodes.ensures.value in
    sym (no_place r.nodes.items (length r.marks.items - 1) (tokens_of r) (file_in r).end c.args.id r.nested (omega arith))

pub place_between-requires : goal.place_between-requires
place_between-requires c =
    let r = c.args.self.now in
    let ns = r.nodes.items in
    let x = c.at.result.0 in
    let xs = c.at.result.1.now in
    let o = node_found ns xs (length r.marks.items - 1) (tokens_of r) (file_in r).end c.args.id x r.nested
    (ap (drop c.args.id) (sym c.as_slice-nodes.ensures.value) ∙ c.at.ensures) in
    let m = same_length c.tokens.result.bytes.now r.bytes.items c.tokens.result.marks.now r.marks.items c.tokens.ensures.tokens in
    let late = o.late in
    let ended = r.ended in
    record {
      order = node_ordered (x.size - 1) x.first x.end _ o.nested;
      within = omega arith;
      placed = rw c.tokens.ensures.tokens (placed_fact 0 (tokens_of r) r.placed);
    }

pub returns : goal.returns
returns c =
    let r = c.args.self.now in
    let ns = r.nodes.items in
    let x = c.at.result.0 in
    let xs = c.at.result.1.now in
    let end = length r.marks.items - 1 in
    let o = node_found ns xs end (tokens_of r) (file_in r).end c.args.id x r.nested (ap (drop c.args.id) (sym c.as_slice-nodes.ensures.value) ∙ c.at.ensures) in
    let d = token_at r.bytes.items nowhere in
    let next = slice_index_or (tokens_of r) x.end d in
    let f = followed r.bytes.items r.marks.items x.end d r.ended o.late in
    let h = c.place_between.ensures next d (rw c.tokens.ensures.tokens refl) in
    ap some h ∙ ap (λ (us : List Token). some (place_of (slice_range us x.first x.end) next)) c.tokens.ensures.tokens
    ∙ ap (λ (t : Token). some (place_of (slice_range (tokens_of r) x.first x.end) t)) (sym f) ∙ sym o.place
  where
    some : ℕ × ℕ → Option (ℕ × ℕ)
    some x = Some x
