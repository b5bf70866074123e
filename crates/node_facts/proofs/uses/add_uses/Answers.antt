use Rattle.std.proofs.Common.{◌≡◌, ◌++◌, List, sym, ap, subst, ◌∙◌}
use Rattle.std.specs.Prelude.{OnOk}
use Rattle.node_names.specs.Compared.{Use}
use Rattle.node_names.specs.Seen.{form_of}
use Rattle.node_facts.specs.Seen.{uses_in}
use Rattle.node_facts.specs.Standing.{site_of}
use Rattle.node_facts.specs.UseRoles.{uses_by}
use Rattle.node_facts.specs.declared.use_role.UseRole.{UseRole}
use Rattle.node_facts.proofs.KindRows.{uses_are}
use Rattle.node_facts.proofs.uses.add_uses.Goals as goal

pub returns : goal.returns
returns c =
    let f = form_of c.args.form.now in
    let s = site_of c.args.scene in
    subst (λ (us : List Use). OnOk c.uses_by.result (uses_in c.uses_by.new.uses.items ≡ uses_in c.args.uses.now.items ++ us))
    (ap (λ (r : UseRole). uses_by r f s) c.use_role-role.ensures ∙ sym (uses_are c.args.kind f s))
    c.uses_by.ensures
