-- The line that a run puts: this project's own.
use Rattle.std.specs.Prelude.{ℕ, List, [], ◌∷◌, ◌++◌, codes, decimal, Result, Ok, Err}
use Rattle.rule_tables.specs.declared.settings_fault.SettingsFault.{SettingsFault}
use Rattle.rule_tables.specs.declared.settings_fault.SettingsFault.TheVariants as settings
use Rattle.upgrade_core.specs.declared.fault.LimitFault.{LimitFault}
use Rattle.upgrade_core.specs.declared.fault.LimitKind.{LimitKind}
use Rattle.upgrade_core.specs.declared.fault.LimitKind.TheVariants as kind
use Rattle.upgrade_core.specs.declared.place.Place.{Place}
use Rattle.upgrade_cli.specs.declared.stop.NamesStop.{NamesStop}
use Rattle.upgrade_cli.specs.declared.stop.NamesStop.TheVariants as names
use Rattle.upgrade_cli.specs.declared.stop.Stop.{Stop}
use Rattle.upgrade_cli.specs.declared.stop.Stop.TheVariants as stop
use Rattle.upgrade_cli.specs.declared.stop.Summary.{Summary}

-- of a run that did all
abbrev pub summary_line : Summary → List ℕ
summary_line s =
    codes "files " ++ decimal s.files ++ codes " edits " ++ decimal s.edits
    ++ codes " reports " ++ decimal s.reports ++ codes " stops " ++ decimal s.stops ++ codes "\n"

-- a size that passes its limit
abbrev pub kind_name : LimitKind → List ℕ
kind_name kind.Files = codes "files"
kind_name kind.FileBytes = codes "file-bytes"
kind_name kind.AllBytes = codes "all-bytes"
kind_name kind.SettingsBytes = codes "settings-bytes"
kind_name kind.Variables = codes "variables"
kind_name kind.Cells = codes "cells"

abbrev pub limit_line : LimitFault → List ℕ
limit_line l = codes "limit " ++ kind_name l.kind ++ codes " " ++ decimal l.number ++ codes "\n"

-- settings that are refused
abbrev pub settings_line : SettingsFault → List ℕ
settings_line settings.NotToml = codes "settings not-toml\n"
settings_line (settings.UnknownKey key) = codes "settings unknown-key " ++ key ++ codes "\n"
settings_line (settings.UnknownRule key) = codes "settings unknown-rule " ++ key ++ codes "\n"
settings_line (settings.BadValue key) = codes "settings bad-value " ++ key ++ codes "\n"
settings_line settings.Memory = codes ""

-- names that are refused
abbrev pub place_text : Place → List ℕ
place_text p = codes " " ++ p.path ++ codes ":" ++ decimal p.start

abbrev pub spaced : List (List ℕ) → List ℕ
spaced [] = []
spaced (n ∷ ns) = codes " " ++ n ++ spaced ns

abbrev pub names_line : NamesStop → List ℕ
names_line (names.Twice name first second) =
    codes "names twice " ++ name ++ place_text first ++ place_text second ++ codes "\n"
names_line (names.Cycle classes) = codes "names cycle" ++ spaced classes.items ++ codes "\n"
names_line (names.NoFile path) = codes "names no-file " ++ path ++ codes "\n"

-- of a run that stopped
abbrev pub stop_line : Stop → List ℕ
stop_line stop.Usage = codes "usage: upgrader upgrade, check, sample or serve\n"
stop_line (stop.Limit l) = limit_line l
stop_line stop.NoSettings = codes "settings absent\n"
stop_line (stop.Settings fault) = settings_line fault
stop_line (stop.Source path) = codes "source " ++ path ++ codes "\n"
stop_line (stop.Names fault) = names_line fault
stop_line stop.SourceFault = codes "fault source\n"
stop_line stop.SinkFault = codes "fault sink\n"
stop_line stop.TargetFault = codes "fault target\n"
stop_line stop.Memory = codes ""

abbrev pub line : Result Summary Stop → List ℕ
line (Ok s) = summary_line s
line (Err e) = stop_line e
