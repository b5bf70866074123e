-- What a check of a document answers.
use Rattle.std.specs.Prelude.{◌≡◌, Option, None, Some, Result, Ok, Err}
use Rattle.rule_tables.specs.declared.settings_fault.SettingsFault.{SettingsFault}
use Rattle.rule_tables.specs.declared.settings_fault.SettingsFault.TheVariants.{Memory}

-- a fault that was found, or none
abbrev pub checked : Option SettingsFault → Result (Unit {0}) SettingsFault
checked None = Ok tt
checked (Some fault) = Err fault

-- the answer is what was found, unless memory is wanting
abbrev pub IsCheck : Option SettingsFault → Result (Unit {0}) SettingsFault → Type 0
IsCheck fault result = (result ≡ Err Memory → ⊥) → result ≡ checked fault
