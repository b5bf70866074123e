-- What a node opens for the names in it.
use Rattle.std.specs.Prelude.{Some, None, []}
use Rattle.scope_names.specs.Sites.{Site, in_no_class, in_body, in_member}
use Rattle.file_declarations.specs.Texts.{bytes_option}
use Rattle.node_facts.specs.declared.opened.Opened.{Opened}
use Rattle.node_facts.specs.declared.opened.Opened.TheVariants as opened

-- where the names in a node stand that opens this
abbrev pub names_in : Opened → Site → Site
names_in opened.Nothing s = s
names_in opened.Function s = in_no_class (in_body s)
names_in opened.Method s = in_member (in_body s)
names_in opened.Member s = in_member s
names_in opened.NoClass s = in_no_class s
names_in (opened.Class name parent) s =
    record s { class = Some name.items; parent = bytes_option parent; members = None }
names_in opened.NoMembers s = record s { members = None }
names_in (opened.Anonymous parent) s = record s { members = Some (bytes_option parent) }
names_in (opened.Namespace space) s = record s { space = space.items; imports = [] }
