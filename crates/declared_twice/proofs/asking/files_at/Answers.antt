use Rattle.std.proofs.Common.{ℕ, ◌+◌, List, ◌∷◌, ◌++◌, [], take, drop, sym, ap, subst, ◌∙◌}
use Rattle.program_names.specs.Entries.{AreFiles, first_absent, paths_of}
use Rattle.declared_twice.proofs.EntryLemmas.{files_push, absent_past, take_item, drop_item}
use Rattle.declared_twice.proofs.asking.files_at.Goals as goal

pub loop-path-preserved : goal.loop-path-preserved
loop-path-preserved c =
    let paths = paths_of c.args.program.now.files.items in
    let ws = c.args.paths.now in
    let i = c.loop-path.path-index in
    let w = c.path-item.result in
    let n = c.in_ok-file.file in
    record {
      files =
          subst (λ (us : List (List ℕ)). AreFiles paths us c.push.new.self.items) (sym (take_item ws i w c.loop-path-test.true c.path-item.is))
          (subst (λ (ns : List ℕ). AreFiles paths (take i ws ++ w ∷ []) ns) (sym c.in_ok-push.ensures.items)
          (files_push paths (take i ws) c.loop-path.files.items w n c.loop-path.invariant.files c.in_ok-file.ensures));
      absent =
          sym (absent_past paths (drop (i + 1) ws) w n c.in_ok-file.ensures)
          ∙ sym (ap (λ (us : List (List ℕ)). first_absent paths us) (drop_item ws i w c.loop-path-test.true c.path-item.is))
          ∙ c.loop-path.invariant.absent;
    }
