use Rattle.std.proofs.Common.{◌∙◌, ap, map}
use Rattle.io_ports.specs.Names.{name_of, cause_names}
use Rattle.io_ports.proofs.reports.names.cause_name.Goals as goal

pub returns : goal.returns
unfolding cause_names
returns c = c.name_in.ensures ∙ ap (λ rows. name_of c.args.cause (map (λ r. (r.0, r.1.now)) rows)) c.as_slice.ensures
