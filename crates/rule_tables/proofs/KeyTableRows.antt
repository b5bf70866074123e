-- What some documents say, computed.
use Rattle.std.proofs.Common.{◌≡◌, [], ◌∷◌, codes, None, Ok, Err, refl}
use Rattle.toml.specs.Parse.{parse_document}
use Rattle.toml.proofs.OnLiterals.{toml_on_literals}
use Rattle.rule_tables.specs.declared.rule.RuleId.TheVariants.{NextKey}
use Rattle.rule_tables.specs.declared.settings_fault.SettingsFault.TheVariants.{NotToml, UnknownKey, UnknownRule, BadValue}
use Rattle.rule_tables.specs.KeyTable.{of_document}

unknown_key : of_document (parse_document (codes "colour = 1")) ≡ Err (UnknownKey (codes "colour"))
unfolding toml_on_literals
unknown_key = refl

unknown_rule : of_document (parse_document (codes "[rules]\nswap = true")) ≡ Err (UnknownRule (codes "swap"))
unfolding toml_on_literals
unknown_rule = refl

bad_value : of_document (parse_document (codes "entries = \"a\"")) ≡ Err (BadValue (codes "entries"))
unfolding toml_on_literals
bad_value = refl

-- `prepend` comes before `zeal`, whichever is written first
least_key : of_document (parse_document (codes "zeal = 1\nprepend = 1")) ≡ Err (BadValue (codes "prepend"))
unfolding toml_on_literals
least_key = refl

repeated_key : of_document (parse_document (codes "prepend = \"a\"\nprepend = \"a\"")) ≡ Err NotToml
unfolding toml_on_literals
repeated_key = refl

empty_file : of_document (parse_document []) ≡ Ok (record { off = []; entries = None; prepend = None })
unfolding toml_on_literals
empty_file = refl

rule_off : of_document (parse_document (codes "[rules]\nnext-key = false")) ≡ Ok (record { off = NextKey ∷ []; entries = None; prepend = None })
unfolding toml_on_literals
rule_off = refl
