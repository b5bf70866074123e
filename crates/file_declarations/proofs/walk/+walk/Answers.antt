use Rattle.std.proofs.Common.{◌≡◌, ◌≤◌, ℕ, suc, ◌+◌, Bool, List, [], ◌∷◌, ◌++◌, length, sym, ap, subst, ◌∙◌, refl, arith}
use Rattle.php_tree.specs.Tree.{Forest, alone, count}
use Rattle.php_rows.specs.Reading.{forest_in, weight}
use Rattle.scope_names.specs.Form.{form, texts}
use Rattle.scope_names.specs.Sites.{Site, names_beside}
use Rattle.file_declarations.specs.declared.import.Import.{Import}
use Rattle.file_declarations.specs.declared.told.Told.{Told}
use Rattle.file_declarations.specs.Imported.{IsLonger}
use Rattle.file_declarations.specs.Standing.{site_at, space_or}
use Rattle.file_declarations.specs.Told.{told, told_at}
use Rattle.file_declarations.proofs.RoleRows.{within_other, within_space}
use Rattle.file_declarations.proofs.Walking.{holds_child, node_told, space_site}
use Rattle.file_declarations.proofs.walk.+walk.Goals as goal

pub walk_parts-parts-preserved : goal.walk_parts-parts-preserved
walk_parts-parts-preserved t c =
    let h = rw c.in-Some-Child.field-0-is at c.in-Some-Child.ensures in
    let path = c.args.spot.path.now in
    let outer = c.args.spot.space.now in
    let f = c.args.spot.file in
    let top = c.args.spot.is_top in
    let own = c.parts.standing.own in
    let from = c.parts.standing.from in
    let is = c.parts.imports.items in
    let k = c.in-Some-Child.kind in
    let g = forest_in c.in-Some-Child.inner in
    let walked = c.in_ok-walk_node-in-Some-Child.ensures in
    let passed = c.in_ok-standing-in-Some-Child.ensures in
    holds_child path outer f top c.args.imports.now.items (weight (forest_in c.args.parts))
    (c.args.told.now.items ++ told f c.args.parts.number (site_at path outer c.args.spot.from c.args.imports.now.items) top (forest_in c.args.parts))
    c.parts.told.items c.walk_node.new.told.items c.parts.left.number c.next.new.self.number own c.in_ok-standing-in-Some-Child.standing.own
    from c.in_ok-standing-in-Some-Child.standing.from is c.pass.new.known.items (forest_in c.parts.left) (forest_in c.next.new.self) k g
    h.parts
    (walked.told
    ∙ ap (λ (sp : List ℕ). c.parts.told.items ++ told f c.in-Some-Child.number (site_at path sp from is) top (alone (k, g))) c.space_of.ensures
    ∙ ap (λ (i : ℕ). c.parts.told.items ++ told f i (site_at path (space_or outer own) from is) top (alone (k, g))) h.own)
    (h.number ∙ ap (λ (i : ℕ). suc i + count g) h.own)
    (subst (λ (js : List Import). IsLonger js c.pass.new.known.items) walked.imports passed.grew)
    passed.from
    (subst (λ (js : List Import). site_at path (space_or outer c.in_ok-standing-in-Some-Child.standing.own) c.in_ok-standing-in-Some-Child.standing.from c.pass.new.known.items
    ≡ names_beside k (form g) (site_at path (space_or outer own) from js)) walked.imports (passed.site path outer))
    c.parts.invariant

pub walk_node-returns-clause-told : goal.walk_node-returns-clause-told
walk_node-returns-clause-told t c =
    let path = c.args.spot.path.now in
    let space = c.args.spot.space.now in
    let from = c.args.spot.from in
    let f = c.args.spot.file in
    let n = c.args.number in
    let k = c.args.kind in
    let g = forest_in c.args.parts in
    let s = site_at path space from c.args.imports.now.items in
    let first = c.args.told.now.items in
    let second = c.tell_own.new.told.items in
    node_told f n c.args.parts.number s s c.args.spot.is_top c.stays_top-is_top.result k g first second c.walk_parts-2.new.told.items
    (subst (λ (is : List Import). second ≡ first ++ told_at (record { file = f; node = n }) c.args.spot.is_top k g
    (site_at path space from is)) c.as_slice.ensures.value c.in_ok-tell_own.ensures)
    c.in_ok-walk_parts-2.ensures.told
    c.requires.number
    (sym (within_other k (form g) s (sym c.is_space.ensures ∙ c.if-is_space.false)))
    c.stays_top-is_top.ensures
