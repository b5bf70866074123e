use Rattle.node_facts.proofs.FlatLemmas.{listed_whole, slots_whole}
use Rattle.node_facts.proofs.whole.walked.Goals as goal

pub returns-clause-slots : goal.returns-clause-slots
returns-clause-slots c = slots_whole c.args.path.now c.walk_parts.new.facts c.in_ok-walk_parts.ensures.whole

pub returns-clause-listed : goal.returns-clause-listed
returns-clause-listed c = listed_whole c.args.path.now c.walk_parts.new.facts c.in_ok-walk_parts.ensures.whole
