use Rattle.std.proofs.Common.{map}
use Rattle.std.specs.Prelude.{string_bytes}
use Rattle.command_words.specs.Words.{asked, asked_by}
use Rattle.upgrade_cli.proofs.Statuses.{not_usage_is}
use Rattle.upgrade_cli.proofs.whole.outcome.Goals as goal

pub returns-in-Ok-clause-usage : goal.returns-in-Ok-clause-usage
returns-in-Ok-clause-usage g c =
    not_usage_is (asked (map string_bytes c.args.words.now)) (asked_by c.in-Ok.command) c.follow.result c.in-Ok.ensures c.follow.ensures.not_usage
