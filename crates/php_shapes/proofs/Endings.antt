-- How nodes of each sort end: as those that may stand there.
use Rattle.std.proofs.Common.{◌≡◌, ℕ, Bool, true, false, not, cond, ◌&&◌, ◌||◌, List, Option, Some, None, refl, sym, ap, ◌∙◌, subst}
use Rattle.std.proofs.lemmas.Bool.{not-true, or_left, or_right}
use Rattle.php_tree.specs.declared.kind.NodeKind.{NodeKind}
use Rattle.php_tree.specs.declared.kind.NodeKind.TheVariants as k
use Rattle.php_tree.specs.declared.token.Token.{Token}
use Rattle.php_tree.specs.declared.version.Version.{Version}
use Rattle.php_tree.specs.Tree.{Forest, none, node}
use Rattle.php_terminals.specs.Ahead.{first_of}
use Rattle.php_terminals.specs.Indents.{is_misindented}
use Rattle.php_terminals.specs.Marks.{is_double_arrow}
use Rattle.php_forms.specs.declared.item.Sort.{Sort}
use Rattle.php_forms.specs.declared.item.Sort.TheVariants as s
use Rattle.php_forms.specs.Forms.{or_else, refused}
use Rattle.php_forms.specs.Grammar.{Form}
use Rattle.php_grammar.specs.Bases.{is_list, is_target, is_variable_expression}
use Rattle.php_grammar.specs.Tables as ft
use Rattle.php_grammar.specs.Tails as ta
use Rattle.php_shapes.specs.Atoms as at
use Rattle.php_shapes.specs.Quoted as qu
use Rattle.php_shapes.specs.Forms.{form}
use Rattle.php_shapes.specs.Nearest.{is_nearest}
use Rattle.php_shapes.specs.Notation.{kind, place}
use Rattle.php_shapes.specs.Places.{ClassName, Embedded, Member, Statement, Operand, Place, Target, TargetOrList, begins_with_variable, is_expression, may_stand}
use Rattle.php_shapes.specs.Shapes.{Fits, is_node, is_kind, is_place, is_inside}
use Rattle.php_shapes.proofs.Entries.{Meets, entry_rule, sorted}
use Rattle.php_shapes.proofs.Follows.{false_is}
use Rattle.php_shapes.proofs.Standing.{Made, Stands, is_operand, is_quiet, is_tight, quiet_fine}
use Rattle.php_shapes.proofs.Operations.{is_no_list}

-- ---- ends

pub or_none : (o q : Option Form) → or_else o q ≡ None → q ≡ None
or_none None q e = e
or_none (Some fm) q e = absurd cc

pub cond_none : (b : Bool) (q : Option Form) → cond b refused q ≡ None → (b ≡ false) × (q ≡ None)
cond_none true q e = absurd cc
cond_none false q e = (refl, e)

pub test_holds : (b : Bool) → ta.refused_unless b ≡ None → b ≡ true
test_holds true e = refl
test_holds false e = absurd cc

pub list_quiet : (j : NodeKind) → is_list j ≡ true → is_quiet j ≡ true
list_quiet k.List e = refl
list_quiet k.If e = false_is e
list_quiet k.Yield e = false_is e
list_quiet k.Text e = false_is e
list_quiet k.Quoted e = false_is e
list_quiet _ e = refl

pub operand_ends : (v : Version) (limit : ℕ) (j : NodeKind) (b : Forest) → Fits v (form v j) b → is_nearest b ≡ true
    → is_operand j ≡ true → is_tight v limit j b ≡ true → is_misindented (j, b) ≡ false → is_list j ≡ false
    → Fits v (place (Operand limit)) (node j b none)
operand_ends v limit j b p near o tight fine list =
    is_place (ap (λ (y : Bool). y && is_tight v limit j b) (is_no_list (is_expression j) (is_list j) o list) ∙ tight) (is_node p near fine)

pub target_ends : (v : Version) (j : NodeKind) (b : Forest) (ts : List Token) → Fits v (form v j) b
    → is_nearest b ≡ true → ta.place_tail v (j, b) ts ≡ None → Fits v (place Target) (node j b none)
target_ends v j b ts p near e =
    let a = cond_none (is_misindented (j, b)) (or_else (ta.postfix_tail v j ts) (ta.refused_unless (is_target j))) e in
    is_place (test_holds (is_target j) (or_none (ta.postfix_tail v j ts) (ta.refused_unless (is_target j)) a.1)) (is_node p near a.0)

pub target_or_list : (v : Version) (j : NodeKind) (b : Forest) → Fits v (place Target) (node j b none) → Fits v (place TargetOrList) (node j b none)
target_or_list v j b (is_place w n) = is_place (or_left (is_target j) (is_list j) w) n

pub list_or_target : (v : Version) (j : NodeKind) (b : Forest) → Fits v (form v j) b → is_nearest b ≡ true → is_list j ≡ true → Fits v (place TargetOrList) (node j b none)
list_or_target v j b p near e = is_place (or_right (is_target j) (is_list j) e) (is_node p near (quiet_fine j b (list_quiet j e)))

pub any_target_ends : (v : Version) (j : NodeKind) (b : Forest) (ts : List Token) → Fits v (form v j) b
    → is_nearest b ≡ true → ta.target_tail v (j, b) ts ≡ None → Fits v (place TargetOrList) (node j b none)
any_target_ends v j b ts p near e = go (is_list j) refl e
  where
    go : (l : Bool) → is_list j ≡ l → cond l None (ta.place_tail v (j, b) ts) ≡ None → Fits v (place TargetOrList) (node j b none)
    go true d e = list_or_target v j b p near d
    go false d e = target_or_list v j b (target_ends v j b ts p near e)

pub entry_ends : (v : Version) (j : NodeKind) (b : Forest) (ts : List Token) → Fits v (form v j) b
    → is_nearest b ≡ true → is_operand j ≡ true → is_tight v 24 j b ≡ true → ta.entry_tail v (j, b) ts ≡ None
    → Fits v (entry_rule (is_double_arrow (first_of ts))) (node j b none)
entry_ends v j b ts p near o tight e =
    let a = cond_none (is_misindented (j, b)) (or_else (ta.operand_tail v 24 (j, b) ts) (ta.entry_end j (first_of ts))) e in
    go a.0 (is_double_arrow (first_of ts)) (or_none (ta.operand_tail v 24 (j, b) ts) (ta.entry_end j (first_of ts)) a.1)
  where
    go : is_misindented (j, b) ≡ false → (l : Bool) → cond l (ta.refused_unless (not (is_list j)))
        (ta.refused_unless (is_target j || is_list j)) ≡ None → Fits v (entry_rule l) (node j b none)
    go fine true d = operand_ends v 24 j b p near o tight fine (not-true (is_list j) (test_holds (not (is_list j)) d))
    go fine false d = is_place (test_holds (is_target j || is_list j) d) (is_node p near fine)

pub kind_ends : (v : Version) (i j : NodeKind) (b : Forest) → Made v j b → is_nearest b ≡ true → j ≡ i → Fits v (kind i) (node j b none)
kind_ends v i j b p near e = subst (λ (l : NodeKind). Fits v (kind l) (node j b none)) e (is_kind (is_node p.fits near p.fine))

pub place_ends : (v : Version) (p : Place) (j : NodeKind) (b : Forest) → Made v j b → is_nearest b ≡ true → may_stand v p (j, b) ≡ true → Fits v (place p) (node j b none)
place_ends v p j b m near e = is_place e (is_node m.fits near m.fine)

pub embedded_ends : (v : Version) (j : NodeKind) (b : Forest) (ts : List Token) → Made v j b → begins_with_variable (node j b none) ≡ true
    → is_nearest b ≡ true → ta.embedded_tail v j ts ≡ None → Fits v (place Embedded) (node j b none)
embedded_ends v j b ts m w near e =
    let a : is_variable_expression j ≡ true = test_holds (is_variable_expression j)
    (or_none (ta.postfix_tail v j ts) (ta.refused_unless (is_variable_expression j)) e) in
    place_ends v Embedded j b m near (ap (λ (y : Bool). y && begins_with_variable (node j b none)) a ∙ w)

-- A node of each sort ends as one that may stand there.
pub ends_good : (v : Version) (s : Sort) (j : NodeKind) (b : Forest) (ts : List Token) → Stands v s j b
    → is_nearest b ≡ true → ft.tail v s (j, b) ts ≡ None → Meets v (sorted s) (node j b none) ts
ends_good v s.Statement j b ts p near e = place_ends v Statement j b p.0 near p.1
ends_good v s.Block j b ts p near e = kind_ends v k.Block j b p.0 near p.1
ends_good v s.Case j b ts p near e = kind_ends v k.Case j b p.0 near p.1
ends_good v s.Member j b ts p near e = place_ends v Member j b p.0 near p.1
ends_good v s.Param j b ts p near e = kind_ends v k.Param j b p.0 near p.1
ends_good v s.TypeName j b ts p near e = kind_ends v k.TypeName j b p.0 near p.1
ends_good v s.Args j b ts p near e = kind_ends v k.Args j b p.0 near p.1
ends_good v s.Item j b ts p near e = kind_ends v k.Item j b p.0 near p.1
ends_good v s.ListItem j b ts p near e = subst (λ (l : NodeKind). Fits v at.list_item (node l b none)) (sym p.1) (is_inside p.0 near)
ends_good v (s.Operand limit) j b ts p near e =
    let a = cond_none (is_misindented (j, b)) (or_else (ta.operand_tail v limit (j, b) ts) (ta.refused_unless (not (is_list j)))) e in
    operand_ends v limit j b p.0 near p.1 p.2 a.0
    (not-true (is_list j) (test_holds (not (is_list j)) (or_none (ta.operand_tail v limit (j, b) ts) (ta.refused_unless (not (is_list j))) a.1)))
ends_good v s.Entry j b ts p near e = entry_ends v j b ts p.0 near p.1 p.2 e
ends_good v s.Target j b ts p near e = any_target_ends v j b ts p near e
ends_good v s.Place j b ts p near e = target_ends v j b ts p near e
ends_good v s.SimpleVariable j b ts p near e = kind_ends v k.Variable j b p.0 near p.1
ends_good v s.PlainVariable j b ts p near e = subst (λ (l : NodeKind). Fits v qu.plain_variable (node l b none)) (sym p.1) (is_inside p.0 near)
ends_good v s.ClassRef j b ts p near e = place_ends v ClassName j b p.0 near p.1
ends_good v s.Interpolated j b ts p near e = p.0 near
ends_good v s.Embedded j b ts p near e = embedded_ends v j b ts p.0 p.1 near e
