-- The files and the settings of a new job: `{"files":[{"path":P,"text":T},..],"settings":T}`.
use Rattle.std.specs.Prelude.{ℕ, ◌==◌, List, [], ◌∷◌, codes, Option, None, Some, Vec, option_and_then, if◌then◌else◌}
use Rattle.std.specs.Option.{option_map}
use Rattle.std.specs.declared.alloc.Global.{Global}
use Rattle.serde_json.specs.Data.{Data, Items, no_items, item}
use Rattle.serde_json.specs.Find.{as_array, get}
use Rattle.job_core.specs.Work.{SourceText}
use Rattle.review_bodies.specs.Json.{size, text_at}
use Rattle.review_bodies.specs.declared.upload.Upload.{Upload}

-- a file: an object with exactly the keys path and text
abbrev pub file_of : Data → Option SourceText
file_of d =
    if size d == 2
    then option_and_then (λ path. option_map (λ text. (path, text)) (text_at (codes "text") d)) (text_at (codes "path") d)
    else None

-- files, if each item is one
abbrev pub files_of : Items → Option (List SourceText)
files_of no_items = Some []
files_of (item d ds) = option_and_then (λ f. option_map (λ fs. f ∷ fs) (files_of ds)) (file_of d)

-- files in the order of the body, and the text of the settings
pub record Sent : Type 0 where
  pub files : List SourceText
  pub settings : List ℕ

-- what an upload holds
abbrev pub held : Upload → Sent
held u = record { files = u.files.items; settings = u.settings }

abbrev pub held_files : Option (Vec SourceText Global) → Option (List SourceText)
held_files files = option_map (λ v. v.items) files

-- an object with exactly the keys files and settings
abbrev pub upload_of : Data → Option Sent
upload_of d =
    if size d == 2
    then option_and_then (λ settings. option_map (λ files. record { files = files; settings = settings }) (option_and_then files_of (option_and_then as_array (get (codes "files") d)))) (text_at (codes "settings") d)
    else None
