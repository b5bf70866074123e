use Rattle.std.proofs.Common.{◌∙◌, ap, map}
use Rattle.io_ports.specs.Names.{name_of, code_names}
use Rattle.io_ports.proofs.reports.names.code_name.Goals as goal

pub returns : goal.returns
unfolding code_names
returns c = c.name_in.ensures ∙ ap (λ rows. name_of c.args.code (map (λ r. (r.0, r.1.now)) rows)) c.as_slice.ensures
