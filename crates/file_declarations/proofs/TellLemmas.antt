-- What nodes tell, one after another.
use Rattle.std.proofs.Common.{◌≡◌, ℕ, Bool, List, [], ◌∷◌, ◌++◌, refl, sym, ap, ◌∙◌, append_assoc}
use Rattle.php_tree.specs.declared.kind.NodeKind.{NodeKind}
use Rattle.php_tree.specs.Tree.{Forest}
use Rattle.scope_names.specs.Sites.{Site}
use Rattle.node_names.specs.declared.name.Name.{Name}
use Rattle.file_declarations.specs.declared.node_ref.NodeRef.{NodeRef}
use Rattle.file_declarations.specs.declared.role.Role.{Role}
use Rattle.file_declarations.specs.declared.told.Told.{Told}
use Rattle.file_declarations.specs.declared.told.Told.TheVariants.{Declares}
use Rattle.file_declarations.specs.Told.{told_at, declared_told}
use Rattle.file_declarations.specs.Roles.{role_of, told_by}
use Rattle.file_declarations.proofs.RoleRows.{told_is}

pub declared_push : (at : NodeRef) (top : Bool) (ns : List Name) (n : Name) →
    declared_told at top (ns ++ n ∷ []) ≡ declared_told at top ns ++ Declares (record { name = n; at = at; is_top = top }) ∷ []
declared_push at top [] n = refl
declared_push at top (m ∷ ns) n = ap (λ (ts : List Told). Declares (record { name = m; at = at; is_top = top }) ∷ ts) (declared_push at top ns n)

-- two lists behind what was told
pub both_told : (old mid new ds es : List Told) → mid ≡ old ++ ds → new ≡ mid ++ es → new ≡ old ++ (ds ++ es)
both_told old mid new ds es e h = h ∙ ap (λ (ts : List Told). ts ++ es) e ∙ append_assoc old ds es

pub told_role : (r : Role) (at : NodeRef) (top : Bool) (k : NodeKind) (c : Forest) (s : Site) → r ≡ role_of k → told_at at top k c s ≡ told_by r at top k c s
told_role r at top k c s e = told_is at top k c s ∙ ap (λ (x : Role). told_by x at top k c s) (sym e)
