-- What settings may say, and what is refused first: this project's own keys, over the documents of TOML 1.1.
use Rattle.std.specs.Prelude.{ℕ, Bool, true, false, if◌then◌else◌, List, codes, Option, None, Some, is_some, option_map, Result, Ok, Err}
use Rattle.std.specs.Str.{bytes_eq, is_utf8}
use Rattle.std.specs.Ordering.{nat_cmp, is_lt}
use Rattle.std.specs.Cmp.Lexicographic.{slice_cmp}
use Rattle.toml.specs.Data.{Data, string, array, table, Items, no_items, item, Members, no_members, member, as_bool, as_str}
use Rattle.toml.specs.Parse.{parse_document}
use Rattle.rule_tables.specs.declared.settings_fault.SettingsFault.{SettingsFault}
use Rattle.rule_tables.specs.declared.settings_fault.SettingsFault.TheVariants.{NotToml, UnknownKey, UnknownRule, BadValue}
use Rattle.rule_tables.specs.Rules.{rule_named}
use Rattle.rule_tables.specs.SettingsView.{SettingsView, settings_of}

-- each item is a text
abbrev pub are_texts : Items → Bool
are_texts no_items = true
are_texts (item (string s) items) = are_texts items
are_texts (item _ items) = false

-- a list of texts
abbrev pub is_text_list : Data → Bool
is_text_list (array items) = are_texts items
is_text_list _ = false

-- a refused key, and why
abbrev pub Refused : Type 0
Refused = List ℕ × SettingsFault

-- of two refusals the one at the lesser key
abbrev pub lesser : Option Refused → Option Refused → Option Refused
lesser None b = b
lesser (Some a) None = Some a
lesser (Some a) (Some b) = if is_lt (slice_cmp nat_cmp b.0 a.0) then Some b else Some a

-- a key that is refused, or none
abbrev pub refused : List ℕ → Option SettingsFault → Option Refused
refused key fault = option_map (λ f. (key, f)) fault

-- the refusal at the least key of a table, in byte order, by a test of a key and its value
abbrev pub least_refused : (List ℕ → Data → Option SettingsFault) → Members → Option Refused
least_refused test no_members = None
least_refused test (member key value members) = lesser (refused key (test key value)) (least_refused test members)

-- a fault at a value of the wrong type
abbrev pub unless : Bool → List ℕ → Option SettingsFault
unless is_right key = if is_right then None else Some (BadValue key)

-- what is refused at a key of `rules`: no rule's name, then a value that is no bool
abbrev pub rule_fault : List ℕ → Data → Option SettingsFault
rule_fault key value = if is_some (rule_named key) then unless (is_some (as_bool value)) key else Some (UnknownRule key)

-- what is refused at `rules`: no table, or else its least refused key
abbrev pub rules_fault : List ℕ → Data → Option SettingsFault
rules_fault key (table members) = option_map (λ r. r.1) (least_refused rule_fault members)
rules_fault key _ = Some (BadValue key)

-- what is refused at a key of the document: an unknown key, then a value of another type than the key table says
abbrev pub key_fault : List ℕ → Data → Option SettingsFault
key_fault key value =
    if bytes_eq key (codes "entries") then unless (is_text_list value) key
    else (if bytes_eq key (codes "prepend") then unless (is_some (as_str value)) key
    else (if bytes_eq key (codes "rules") then rules_fault key value else Some (UnknownKey key)))

-- the settings of a document, or its first refused key
abbrev pub judged : Option Refused → Members → Result SettingsView SettingsFault
judged None document = Ok (settings_of document)
judged (Some r) document = Err r.1

-- what a document says: nothing where there is none
abbrev pub of_document : Option Members → Result SettingsView SettingsFault
of_document None = Err NotToml
of_document (Some members) = judged (least_refused key_fault members) members

-- what bytes say
abbrev pub outcome : List ℕ → Result SettingsView SettingsFault
outcome bytes = if is_utf8 bytes then of_document (parse_document bytes) else Err NotToml
