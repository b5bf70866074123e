-- The page, computed in both versions.
use Rattle.std.proofs.Common.{refl}
use Rattle.builtin_tables.specs.Beyond.{beyond_functions, beyond_classes, beyond_constants}
use Rattle.builtin_tables.specs.Builtins.{builtin_rows}
use Rattle.builtin_tables.specs.Constants.{named_constants, word_constants}
use Rattle.builtin_tables.specs.Named.{is_same_name}
use Rattle.builtin_tables.specs.Newer.{newer_functions, newer_classes, newer_constants}
use Rattle.meaning_rows.specs.Page.{PageComes}

pub page : PageComes
unfolding builtin_rows named_constants word_constants is_same_name newer_functions newer_classes newer_constants beyond_functions beyond_classes beyond_constants
page = (refl, refl)
