use Rattle.std.proofs.Common.{◌≡◌, map, ℕ, ◌≤◌, drop}
use Rattle.upgrade_core.specs.Files.{file_of}
use Rattle.upgrade_core.specs.Limits as spec
use Rattle.upgrade_core.proofs.limits.bytes_limit.Given as goal

abbrev pub invariant-loop-file : goal.invariant-loop-file
invariant-loop-file l =
    (l.sum ≤ 4194304) × (spec.bytes_limit l.sum (map file_of (drop l.file-index l.files)) ≡ spec.bytes_limit 0 (map file_of l.files))
