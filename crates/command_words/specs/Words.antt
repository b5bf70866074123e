-- The command line: this project's own, by the definitions of `clap`, which says what a command takes.
use Rattle.std.specs.Prelude.{◌≡◌, ℕ, true, if◌then◌else◌, List, [], ◌∷◌, codes, Option, None, Some, option_map, Result, Ok, Err, string_bytes}
use Rattle.std.specs.Str.{bytes_eq}
use Rattle.clap.specs.declared.builder.action.ArgAction.TheVariants.{Set}
use Rattle.clap.specs.Faults.{fault_of}
use Rattle.clap.specs.Kinds.{Kinds}
use Rattle.clap.specs.Walk.{Rule, Text, first_of}
use Rattle.clap.specs.Simple.{App, matches_of, new_app, new_rule, with_rule}
use Rattle.command_words.specs.declared.words.Command.{Command}
use Rattle.command_words.specs.declared.words.Command.TheVariants.{Upgrade, Check}
use Rattle.command_words.specs.declared.words.WordsFault.{WordsFault}
use Rattle.command_words.specs.declared.words.WordsFault.TheVariants.{Refused, Memory}

-- the required option `--settings` of one text
abbrev pub settings_rule : Rule
settings_rule = record (new_rule (codes "settings")) { long = Some (codes "settings"); required = true; action = Some Set }

-- a command of this name with that option
abbrev pub with_settings : Text → App
with_settings name = with_rule (new_app name) settings_rule

-- what was read, where there is no fault
abbrev pub unless_faulty : {X : Type 0} → Kinds → Option X → Option X
unless_faulty [] read = read
unless_faulty (k ∷ ks) read = None

-- the option's text, where the command takes the words
abbrev pub settings_in : App → List Text → Option Text
settings_in app words = unless_faulty (fault_of app words) (first_of (codes "settings") (matches_of app words))

-- what is asked for: a command, with the name of the settings file
pub data Asked : Type 0 where
  ToUpgrade : List ℕ → Asked
  ToCheck : List ℕ → Asked

abbrev pub upgrade_in : List Text → Option Asked
upgrade_in words = option_map ToUpgrade (settings_in (with_settings (codes "upgrade")) words)

abbrev pub check_in : List Text → Option Asked
check_in words = option_map ToCheck (settings_in (with_settings (codes "check")) words)

-- The command of some words; none where they are not in the grammar. The first word names it.
abbrev pub asked : List Text → Option Asked
asked [] = None
asked (word ∷ words) =
    if bytes_eq word (codes "upgrade") then upgrade_in (word ∷ words)
    else (if bytes_eq word (codes "check") then check_in (word ∷ words) else None)

abbrev pub asked_by : Command → Asked
asked_by (Upgrade name) = ToUpgrade (string_bytes name)
asked_by (Check name) = ToCheck (string_bytes name)

-- the answer is the command, or the refusal, unless memory is wanting
abbrev pub IsReading : Option Asked → Result Command WordsFault → Type 0
IsReading o (Ok command) = o ≡ Some (asked_by command)
IsReading o (Err Refused) = o ≡ None
IsReading o (Err Memory) = Unit {0}
