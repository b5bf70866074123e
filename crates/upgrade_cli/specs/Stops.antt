-- Why a run stops where one of its parts refuses.
use Rattle.std.specs.Prelude.{◌≡◌, List, None}
use Rattle.io_ports.specs.Files as ports
use Rattle.io_ports.specs.declared.fault.PortFault.{PortFault}
use Rattle.io_ports.specs.declared.fault.PortFault.TheVariants as port
use Rattle.command_words.specs.declared.words.WordsFault.{WordsFault}
use Rattle.command_words.specs.declared.words.WordsFault.TheVariants as words
use Rattle.rule_tables.specs.declared.settings_fault.SettingsFault.{SettingsFault}
use Rattle.rule_tables.specs.declared.settings_fault.SettingsFault.TheVariants as settings
use Rattle.resolved_names.specs.declared.names_fault.NamesFault.{NamesFault}
use Rattle.resolved_names.specs.declared.names_fault.NamesFault.TheVariants as names
use Rattle.upgrade_core.specs.declared.fault.UpgradeFault.{UpgradeFault}
use Rattle.upgrade_core.specs.declared.fault.UpgradeFault.TheVariants as fault
use Rattle.upgrade_core.specs.Files.{Trees}
use Rattle.upgrade_core.specs.Limits.{bytes_limit}
use Rattle.upgrade_core.specs.Names.{place_at}
use Rattle.upgrade_core.specs.Trees.{AreRead}
use Rattle.upgrade_cli.specs.declared.stop.NamesStop.{NamesStop}
use Rattle.upgrade_cli.specs.declared.stop.NamesStop.TheVariants as stops
use Rattle.upgrade_cli.specs.declared.stop.Stop.{Stop}
use Rattle.upgrade_cli.specs.declared.stop.Stop.TheVariants as stop

abbrev pub source_stop : PortFault → Stop
source_stop port.Failed = stop.SourceFault
source_stop port.Memory = stop.Memory

abbrev pub target_stop : PortFault → Stop
target_stop port.Failed = stop.TargetFault
target_stop port.Memory = stop.Memory

abbrev pub words_stop : WordsFault → Stop
words_stop words.Refused = stop.Usage
words_stop words.Memory = stop.Memory

abbrev pub settings_stop : SettingsFault → Stop
settings_stop settings.NotToml = stop.Settings settings.NotToml
settings_stop (settings.UnknownKey key) = stop.Settings (settings.UnknownKey key)
settings_stop (settings.UnknownRule key) = stop.Settings (settings.UnknownRule key)
settings_stop (settings.BadValue key) = stop.Settings (settings.BadValue key)
settings_stop settings.Memory = stop.Memory

-- what is told of refused names, over the trees of the program
abbrev pub IsToldOf : Trees → NamesFault → NamesStop → Type 0
IsToldOf trees (names.Twice name first second) told = told ≡ stops.Twice name (place_at trees first) (place_at trees second)
IsToldOf trees (names.Cycle classes) told = told ≡ stops.Cycle classes
IsToldOf trees (names.NoFile path) told = told ≡ stops.NoFile path
IsToldOf trees names.Memory told = ⊥

-- the stop of refused names, or want of memory
abbrev pub IsNamesStop : List ports.File → NamesFault → Stop → Type 0
IsNamesStop files fault (stop.Names told) = (trees : Trees) → AreRead files trees → IsToldOf trees fault told
IsNamesStop files fault stop.Memory = Unit {0}
IsNamesStop files fault _ = ⊥

-- the stop of a refusal
abbrev pub IsUpgradeStop : List ports.File → UpgradeFault → Stop → Type 0
IsUpgradeStop files (fault.Source path) s = s ≡ stop.Source path
IsUpgradeStop files (fault.Names f) s = IsNamesStop files f s
IsUpgradeStop files (fault.Limit limit) s = s ≡ stop.Limit limit
IsUpgradeStop files (fault.Sink at) s = s ≡ stop.SinkFault
IsUpgradeStop files fault.Memory s = s ≡ stop.Memory

-- refused names have files within the limits
abbrev pub AreNamed : List ports.File → UpgradeFault → Type 0
AreNamed files (fault.Names f) = bytes_limit 0 files ≡ None
AreNamed files _ = Unit {0}
