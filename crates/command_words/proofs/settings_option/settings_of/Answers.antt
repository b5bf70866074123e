use Rattle.std.proofs.Common.{rules, ◌≡◌, ℕ, List, ap, ap₂, ◌∙◌, Some}
use Rattle.clap.specs.Simple.{app_of, with_rule}
use Rattle.clap.specs.Walk.{rule_of}
use Rattle.command_words.specs.Words.{settings_rule, with_settings}
use Rattle.command_words.proofs.Decides.{taken, refused}
use Rattle.command_words.proofs.settings_option.settings_of.Goals as goal

pub returns-in-Some : goal.returns-in-Some
returns-in-Some c =
    let rule_is : rule_of c.action-settings.result ≡ settings_rule = search rules in
    let app_is : app_of c.in_ok-command.command ≡ with_settings c.args.name.now =
    c.in_ok-command.ensures.shape (search rules) ∙ ap₂ with_rule c.new-2.ensures.app rule_is in
    taken (app_of c.in_ok-command.command) c.args.name.now _ c.in-Ok.matches _ app_is c.in-Ok.ensures.kinds c.in-Ok.ensures.matches
    (ap (λ (t : List ℕ). Some t) c.in_ok-from_str-in-Some.ensures.ok ∙ c.in-Some.ensures)

pub returns-in-Ok : goal.returns-in-Ok
returns-in-Ok c =
    let rule_is : rule_of c.action-settings.result ≡ settings_rule = search rules in
    let app_is : app_of c.in_ok-command.command ≡ with_settings c.args.name.now =
    c.in_ok-command.ensures.shape (search rules) ∙ ap₂ with_rule c.new-2.ensures.app rule_is in
    taken (app_of c.in_ok-command.command) c.args.name.now _ c.in-Ok.matches _ app_is c.in-Ok.ensures.kinds c.in-Ok.ensures.matches c.in-None.ensures

pub returns : goal.returns
returns c =
    let rule_is : rule_of c.action-settings.result ≡ settings_rule = search rules in
    let app_is : app_of c.in_ok-command.command ≡ with_settings c.args.name.now =
    c.in_ok-command.ensures.shape (search rules) ∙ ap₂ with_rule c.new-2.ensures.app rule_is in
    refused (app_of c.in_ok-command.command) c.args.name.now _ c.in-Err.error app_is c.in-Err.ensures.kinds
    (λ e. c.in_default.not-OutOfMemory (c.kind.ensures ∙ e))
