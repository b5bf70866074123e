use Rattle.std.proofs.Common.{◌≡◌, ℕ, List, Some, sym, ap, ◌∙◌}
use Rattle.std.proofs.lemmas.Option.{none-some}
use Rattle.program_names.specs.Entries.{paths_of}
use Rattle.declared_twice.proofs.EntryLemmas.{no_path}
use Rattle.declared_twice.proofs.asking.file_at.Goals as goal

pub returns-in_ok-copy-in-None : goal.returns-in_ok-copy-in-None
returns-in_ok-copy-in-None c =
    let same : c.as_bytes.result.now ≡ c.args.path.now = c.as_bytes.ensures.value ∙ c.as_str.ensures in (
      c.in_ok-copy-in-None.ensures,
      no_path (paths_of c.args.program.now.files.items) c.args.path.now
          (λ f e. none-some f ((c.in-None.ensures f).0 (e ∙ ap (λ (x : List ℕ). Some x) (sym same)))),
    )
