-- What bytes say, from what a parser and the checks say of them.
use Rattle.std.proofs.Common.{◌≡◌, ℕ, inl, inr, List, Option, Some, None, option_map, Ok, Err, IsUtf8, refl, sym, ap, ◌∙◌}
use Rattle.std.specs.Str.{is_utf8}
use Rattle.std.proofs.lemmas.Str.{IsUtf8-from_is_utf8, is_utf8-from_IsUtf8}
use Rattle.std.proofs.lemmas.Bool.{cases_Bool}
use Rattle.toml.specs.Data.{Members}
use Rattle.toml.specs.Parse.{parse_document}
use Rattle.rule_tables.specs.declared.rule.RuleId.{RuleId}
use Rattle.rule_tables.specs.declared.settings_fault.SettingsFault.{SettingsFault}
use Rattle.rule_tables.specs.declared.settings_fault.SettingsFault.TheVariants.{NotToml}
use Rattle.rule_tables.specs.Checks.{checked}
use Rattle.rule_tables.specs.KeyTable.{Refused, judged, outcome, least_refused, key_fault}
use Rattle.rule_tables.specs.SettingsView.{SettingsView, settings_of}

-- bytes that are no UTF-8
pub outcome-no_text : (bytes : List ℕ) → (IsUtf8 bytes → ⊥) → Err NotToml ≡ outcome bytes
outcome-no_text bytes h =
    elim (cases_Bool (is_utf8 bytes)) [
      | inl e ↦ absurd (h (IsUtf8-from_is_utf8 bytes e))
      | inr e ↦ rw e refl
    ]

-- bytes that are a document
outcome-document : (bytes : List ℕ) (doc : Members) → IsUtf8 bytes → parse_document bytes ≡ Some doc → outcome bytes ≡ judged (least_refused key_fault doc) doc
outcome-document bytes doc utf8 parsed = rw (is_utf8-from_IsUtf8 bytes utf8, parsed) refl

judged-refused : (r : Option Refused) (doc : Members) (f : SettingsFault) → Err f ≡ checked (option_map (λ q. q.1) r) → Err f ≡ judged r doc
judged-refused None doc f h = absurd cc
judged-refused (Some r) doc f h = let same : f ≡ r.1 = cc in ap Err same

judged-free : (r : Option Refused) (doc : Members) → Ok tt ≡ checked (option_map (λ q. q.1) r) → Ok (settings_of doc) ≡ judged r doc
judged-free None doc h = refl
judged-free (Some r) doc h = absurd cc

-- a document with a refused key
pub outcome-refused : (bytes text : List ℕ) (doc : Members) (f : SettingsFault) → text ≡ bytes → IsUtf8 bytes
    → parse_document text ≡ Some doc → Err f ≡ checked (option_map (λ q. q.1) (least_refused key_fault doc))
    → Err f ≡ outcome bytes
outcome-refused bytes text doc f same utf8 parsed h =
    judged-refused (least_refused key_fault doc) doc f h
    ∙ sym (outcome-document bytes doc utf8 (ap parse_document (sym same) ∙ parsed))

-- a document without one
pub outcome-free : (bytes text : List ℕ) (doc : Members) (view : SettingsView) → text ≡ bytes → IsUtf8 bytes
    → parse_document text ≡ Some doc → Ok tt ≡ checked (option_map (λ q. q.1) (least_refused key_fault doc))
    → view ≡ settings_of doc → Ok view ≡ outcome bytes
outcome-free bytes text doc view same utf8 parsed h is =
    ap Ok is ∙ judged-free (least_refused key_fault doc) doc h
    ∙ sym (outcome-document bytes doc utf8 (ap parse_document (sym same) ∙ parsed))

-- settings with equal parts
pub same-settings : (off off' : List RuleId) (entries entries' : Option (List (List ℕ)))
    (prepend prepend' : Option (List ℕ)) → off ≡ off' → entries ≡ entries' → prepend ≡ prepend'
    → let a : SettingsView = record { off = off; entries = entries; prepend = prepend }
    in let b : SettingsView = record { off = off'; entries = entries'; prepend = prepend' } in a ≡ b
same-settings off off' entries entries' prepend prepend' e f g = rw (e, f, g) refl
