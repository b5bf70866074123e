use Rattle.std.proofs.Common.{◌≡◌, ap₂, ◌∙◌, codes, arith}
use Rattle.std.specs.Str.Parse.{ParsesUnsigned, ExplainsUnsignedError, HasUnsignedDigitsIfOk}
use Rattle.clap.specs.Simple.{app_of, with_rule}
use Rattle.command_words.specs.ServeWords.{IsNumberOption, serve_app}
use Rattle.command_words.proofs.Serves.{both_numbers, is_read, taken, refused}
use Rattle.command_words.proofs.serve_words.serving_of.Goals as goal

pub returns-in-Ok : goal.returns-in-Ok
returns-in-Ok c =
    let port : IsNumberOption (codes "port") 65535 c.number_option-port.result = c.number_option-port.ensures in
    let connections : IsNumberOption (codes "connections") 1000000 c.number_option-connections.result =
    c.number_option-connections.ensures in
    let app_is : app_of c.in_ok-command.command ≡ serve_app = c.in_ok-command.ensures.shape connections.global
    ∙ ap₂ with_rule (c.in_ok-arg.ensures.shape port.global ∙ ap₂ with_rule c.new.ensures.app port.rule) connections.rule in
    let are = both_numbers c.new.result c.in_ok-arg.field-0 c.in_ok-command.command c.number_option-port.result
    c.number_option-connections.result c.in-Ok.matches c.in_ok-arg.ensures c.in_ok-command.ensures
    c.new.ensures.empty.0 c.new.ensures.empty.1 c.new.ensures.local c.new.ensures.negates port connections
    c.in-Ok.ensures.parsed in
    let p = is_read (λ bs r. ParsesUnsigned 16 10 bs r × ExplainsUnsignedError 10 bs r × HasUnsignedDigitsIfOk bs r) 16 65535
    are.port c.get_one-port.result (c.get_one-port.ensures.value are.port are.port_is) (λ u x g. g.0) (omega arith)
    are.port_in in
    let n = is_read (λ bs r. ParsesUnsigned 32 10 bs r × ExplainsUnsignedError 10 bs r × HasUnsignedDigitsIfOk bs r) 32 1000000
    are.connections c.get_one-connections.result (c.get_one-connections.ensures.value are.connections are.connections_is)
    (λ u x g. g.0) (omega arith) are.connections_in in
    taken (app_of c.in_ok-command.command) _ c.in-Ok.matches c.get_one-port.result c.get_one-connections.result c.both_given.result
    app_is c.in-Ok.ensures.kinds c.in-Ok.ensures.matches are p n c.both_given.ensures

pub returns : goal.returns
returns c =
    let port : IsNumberOption (codes "port") 65535 c.number_option-port.result = c.number_option-port.ensures in
    let connections : IsNumberOption (codes "connections") 1000000 c.number_option-connections.result =
    c.number_option-connections.ensures in
    let app_is : app_of c.in_ok-command.command ≡ serve_app = c.in_ok-command.ensures.shape connections.global
    ∙ ap₂ with_rule (c.in_ok-arg.ensures.shape port.global ∙ ap₂ with_rule c.new.ensures.app port.rule) connections.rule in
    refused (app_of c.in_ok-command.command) _ c.in-Err.error app_is c.in-Err.ensures.kinds
    (λ e. c.in_default.not-OutOfMemory (c.kind.ensures ∙ e))
