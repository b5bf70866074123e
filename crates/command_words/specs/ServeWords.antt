-- The words of `serve`: this project's own, by the definitions of `clap`.
use Rattle.std.specs.Prelude.{◌≡◌, ◌≤◌, false, ℕ, true, if◌then◌else◌, List, [], ◌∷◌, codes, Option, None, Some, option_map, option_and_then}
use Rattle.std.specs.Str.{bytes_eq}
use Rattle.std.specs.Str.Parse.{digits_value, without_leading_plus}
use Rattle.clap.specs.declared.builder.action.ArgAction.TheVariants.{Set}
use Rattle.clap.specs.declared.builder.value_parser.ValueParser.TheVariants.{Unsigned}
use Rattle.clap.specs.declared.builder.arg.Arg.{Arg}
use Rattle.clap.specs.Built.{IsPlainArg}
use Rattle.clap.specs.Facts.{least_values}
use Rattle.clap.specs.Faults.{fault_of}
use Rattle.clap.specs.Walk.{Rule, Text, one_of, rule_of}
use Rattle.clap.specs.Simple.{App, matches_of, new_app, new_rule, with_rule}
use Rattle.command_words.specs.declared.serve_words.Serving.{Serving}
use Rattle.command_words.specs.Words.{unless_faulty}

-- the required option of this name with one whole number, from 1 to `most`
abbrev pub number_rule : Text → ℕ → Rule
number_rule name most =
    record (new_rule name) { long = Some name; required = true; action = Some Set; parser = Some (Unsigned 1 most) }

-- the command `serve` with its two options
abbrev pub serve_app : App
serve_app = with_rule (with_rule (new_app (codes "serve")) (number_rule (codes "port") 65535))
    (number_rule (codes "connections") 1000000)

-- the number of an option, in decimal; a plus may stand before its digits
abbrev pub number_in : Text → List Text → Option ℕ
number_in id words = option_map (λ t. digits_value 10 (without_leading_plus t)) (one_of id (matches_of serve_app words))

-- what both numbers ask for
abbrev pub serving_by : Option ℕ → Option ℕ → Option Serving
serving_by port connections =
    option_and_then (λ p. option_map (λ n. record { port = p; connections = n }) connections) port

-- the numbers of both options, where the command takes the words
abbrev pub serving_in : List Text → Option Serving
serving_in words = unless_faulty (fault_of serve_app words)
    (serving_by (number_in (codes "port") words) (number_in (codes "connections") words))

-- What some words ask for; none where they are not those of `serve`.
abbrev pub serving_asked : List Text → Option Serving
serving_asked [] = None
serving_asked (word ∷ words) = if bytes_eq word (codes "serve") then serving_in (word ∷ words) else None

-- ---- what a parse wants of such an option

pub record IsNumberOption (name : Text) (most : ℕ) (a : Arg) : Type 0 where
  pub rule : rule_of a ≡ number_rule name most
  pub plain : IsPlainArg a
  pub global : a.global ≡ false
  pub delimiter : a.val_delim ≡ None
  pub least : 1 ≤ least_values a
