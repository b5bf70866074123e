-- What settings are: this project's own.
use Rattle.std.specs.Prelude.{ℕ, ◌==◌, Bool, false, not, List, [], ◌∷◌, codes, filter, Option, None, Some, option_map, option_and_then}
use Rattle.std.specs.List.{list_any}
use Rattle.toml.specs.Data.{string, Items, no_items, item, Members, get_member, as_array, as_bool, as_str, as_table}
use Rattle.rule_tables.specs.declared.rule.RuleId.{RuleId}
use Rattle.rule_tables.specs.Rules.{all_rules, name_of, number_of}

-- the rules that are off, the paths of the entries, if they are listed, and the path of the file that each run starts with, if one is named
pub record SettingsView : Type 0 where
  pub off : List RuleId
  pub entries : Option (List (List ℕ))
  pub prepend : Option (List ℕ)

-- whether a rule is on
abbrev pub has_rule : SettingsView → RuleId → Bool
has_rule settings rule = not (list_any (λ r. number_of r == number_of rule) settings.off)

-- the texts among some items
abbrev pub texts_of : Items → List (List ℕ)
texts_of no_items = []
texts_of (item (string s) items) = s ∷ texts_of items
texts_of (item _ items) = texts_of items

-- a value that is there and false
abbrev pub is_false : Option Bool → Bool
is_false (Some b) = not b
is_false None = false

-- whether a document switches a rule off
abbrev pub switches_off : Members → RuleId → Bool
switches_off document rule =
    is_false (option_and_then as_bool
    (option_and_then (get_member (name_of rule)) (option_and_then as_table (get_member (codes "rules") document))))

-- the settings of a document without a refused key: every rule is on that isn't switched off, every file is an entry
-- unless they are listed, and no file comes first unless it is named
abbrev pub settings_of : Members → SettingsView
settings_of document = record {
  off = filter (λ rule. switches_off document rule) all_rules;
  entries = option_map texts_of (option_and_then as_array (get_member (codes "entries") document));
  prepend = option_and_then as_str (get_member (codes "prepend") document);
}
