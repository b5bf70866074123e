-- The files and the settings of a request for a new job.
use Rattle.std.specs.Prelude.{◌≡◌, ℕ, List, Option, None, Some}
use Rattle.job_core.specs.Work.{SourceText}
use Rattle.review_bodies.specs.Json.{IsJson}
use Rattle.review_bodies.specs.Upload.{Sent, upload_of}
use Rattle.serde_json.specs.Data.{Data}
use Rattle.upload_order.specs.Paths.{Orders}
use Rattle.job_replies.specs.declared.received.Received.{Received}

-- the body holds these files, here in the order of their paths, and this text of settings
pub record IsReceived (body : List ℕ) (files : List SourceText) (settings : List ℕ) : Type 0 where
  pub value : Data
  pub json : IsJson body value
  pub sent : Sent
  pub form : upload_of value ≡ Some sent
  pub orders : Orders sent.files files
  pub text : settings ≡ sent.settings

-- what a body holds, or that it holds none
abbrev pub Receives : List ℕ → Option Received → Type 0
Receives body (Some r) = IsReceived body r.files.items r.settings
Receives body None = (files : List SourceText) (settings : List ℕ) → ¬ (IsReceived body files settings)
