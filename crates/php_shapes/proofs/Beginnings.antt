-- How expressions begin: each form of the tables is the form of its kind.
use Rattle.std.proofs.Common.{Bool, true, false, not, cond, List, [], drop, Some, None, refl}
use Rattle.std.specs.Prelude.{IfSome}
use Rattle.php_tree.specs.declared.kind.NodeKind.TheVariants as k
use Rattle.php_tree.specs.declared.token.Token.{Token}
use Rattle.php_tree.specs.declared.version.Version.{Version}
use Rattle.php_tree.specs.declared.version.Version.TheVariants.{V74, V83}
use Rattle.php_tree.specs.Tree.{Forest}
use Rattle.php_terminals.specs.declared.terminal.Terminal.{Terminal}
use Rattle.php_terminals.specs.declared.terminal.Terminal.TheVariants as t
use Rattle.php_terminals.specs.Ahead.{behind_name, first_of, is_called, past_group, second_of}
use Rattle.php_terminals.specs.Marks.{begins_place, ends_item, goes_on, is_assign, is_name_part, is_variable_start}
use Rattle.php_forms.specs.Forms.{or_else}
use Rattle.php_forms.specs.Atoms as fa
use Rattle.php_grammar.specs.Operands as fo
use Rattle.php_shapes.specs.Atoms as at
use Rattle.php_shapes.specs.Names as na
use Rattle.php_shapes.specs.Operators as op
use Rattle.php_shapes.specs.Postfixes as po
use Rattle.php_shapes.specs.Quoted as qu
use Rattle.php_shapes.specs.Notation.{Rule, word, kind, place, ◌~◌, ◌|||◌, maybe, expr, commas, parens, brackets, braces}
use Rattle.php_shapes.specs.Places.{Callee, Operand}
use Rattle.php_shapes.specs.Shapes.{Fits, is_both, is_first, is_second}
use Rattle.php_shapes.proofs.Entries.{entries, flat}
use Rattle.php_shapes.proofs.Sequences.{Gives, one, second, whole}
use Rattle.php_shapes.proofs.Told.{first_as}
use Rattle.php_shapes.proofs.Standing.{cond_form, cond_option, or_else_form}
use Rattle.php_shapes.proofs.Heads.{
  Heads,
  arrow_rule,
  atom,
  before,
  cast_rule,
  clone_rule,
  closure_rule,
  not_rule,
  sign_rule,
  step_rule,
  withal,
  without,
  yield_from_heads,
  yield_heads,
}

-- ---- expressions that their first token settles

pub atom_heads : (v : Version) (x : Terminal) → IfSome (fa.atom_form x) (Heads v)
atom_heads v t.Variable = atom v k.Variable _ refl refl (λ c. refl) (one v (word t.Variable) at.dollar_variable)
atom_heads v t.Int = atom v k.Number _ refl refl (λ c. refl) (whole v (word t.Int))
atom_heads v t.Float = atom v k.Float _ refl refl (λ c. refl) (whole v (word t.Float))
atom_heads v t.Text = atom v k.Text _ refl refl (λ c. refl) (whole v (word t.Text))
atom_heads v t.QuoteOpen = atom v k.Quoted _ refl refl (λ c. refl) (whole v qu.quoted)
atom_heads v t.OpenParen = atom v k.Paren _ refl refl (λ c. refl) (whole v (parens expr))
atom_heads v t.New = atom v k.New _ refl refl (λ c. refl) (whole v (at.new v))
atom_heads v t.Clone = before v k.Prefix _ refl refl refl (one v clone_rule (sign_rule ||| not_rule ||| step_rule))
atom_heads v t.Plus = before v k.Prefix _ refl refl refl (λ f rest m. is_second (is_first (whole v sign_rule f rest m)))
atom_heads v t.Minus = before v k.Prefix _ refl refl refl (λ f rest m. is_second (is_first (whole v sign_rule f rest m)))
atom_heads v t.Tight = before v k.Prefix _ refl refl refl (λ f rest m. is_second (is_first (whole v sign_rule f rest m)))
atom_heads v t.Not = before v k.Prefix _ refl refl refl (λ f rest m. is_second (is_second (is_first (whole v not_rule f rest m))))
atom_heads v t.Step = before v k.Prefix _ refl refl refl (λ f rest m. is_second (is_second (is_second (whole v step_rule f rest m))))
atom_heads v t.Cast = before v k.Cast _ refl refl refl (cast_rule v)
atom_heads v t.Print = before v k.Print _ refl refl refl (whole v op.print)
atom_heads v t.Yield = yield_heads v
atom_heads v t.YieldFrom = yield_from_heads v
atom_heads v t.Include = before v k.Include _ refl refl refl (whole v op.include)
atom_heads v t.Isset = atom v k.Isset _ refl refl (λ c. refl) (whole v at.isset)
atom_heads v t.Empty = atom v k.EmptyTest _ refl refl (λ c. refl) (whole v (word t.Empty ~ parens expr))
atom_heads v t.Exit = atom v k.Exit _ refl refl (λ c. refl) (whole v at.exit)
atom_heads v t.Eval = atom v k.EvalTest _ refl refl (λ c. refl) (whole v (word t.Eval ~ parens expr))
atom_heads v t.Function = atom v k.Closure _ refl refl (λ c. refl) (without v (word t.Static) closure_rule (flat closure_rule []) (whole v closure_rule))
atom_heads v t.Fn = before v k.Arrow _ refl refl refl (without v (word t.Static) arrow_rule (flat arrow_rule []) (whole v arrow_rule))
atom_heads v _ = tt

-- ---- variables, names, `static`, brackets

pub dollar_gives : (v : Version) (x : Terminal) → Gives v (entries v (fo.dollar_form x).1) at.dollar_variable
dollar_gives v t.OpenBrace f rest m = is_both m.2 (one v (braces expr) (kind k.Variable) m.1 rest m.3) m.4
dollar_gives v _ f rest m = is_both m.2 (second v (braces expr) (kind k.Variable) m.1 rest m.3) m.4

pub dollar_heads : (v : Version) (x : Terminal) → Heads v (fo.dollar_form x)
dollar_heads v t.OpenBrace = atom v k.Variable _ refl refl (λ c. refl) (λ f rest m. is_second (dollar_gives v t.OpenBrace f rest m))
dollar_heads v x = atom v k.Variable _ refl refl (λ c. refl) (λ f rest m. is_second (dollar_gives v x f rest m))

-- what begins with a class and `::`
module _ (v : Version) (r : Rule) (w : (f : Forest) → Fits v r f → Fits v (po.class_before v) f) where
  pub call_of : Gives v (flat (r ~ word t.DoubleColon ~ po.member ~ po.called) []) (po.static_call v)
  call_of = first_as v r (po.class_before v) (po.static_call v) (flat (word t.DoubleColon ~ po.member ~ po.called) []) w (whole v (po.static_call v))

  pub prop_of : Gives v (flat (r ~ word t.DoubleColon ~ po.static_member) []) (po.static_prop v)
  prop_of = first_as v r (po.class_before v) (po.static_prop v) (flat (word t.DoubleColon ~ po.static_member) []) w (whole v (po.static_prop v))

  pub constant_of : Gives v (flat (r ~ word t.DoubleColon ~ word t.AnyWord) []) (po.class_constant v)
  constant_of = first_as v r (po.class_before v) (po.class_constant v) (flat (word t.DoubleColon ~ word t.AnyWord) []) w (whole v (po.class_constant v))

pub by_name : (v : Version) (f : Forest) → Fits v (na.name v) f → Fits v (po.class_before v) f
by_name v f p = is_first p

pub by_static : (v : Version) (f : Forest) → Fits v (word t.Static) f → Fits v (po.class_before v) f
by_static v f p = is_second (is_first p)

pub static_name_heads : (v : Version) (ts : List Token) → Heads v (fo.static_name_form ts)
static_name_heads v ts =
    cond_form (Heads v) (is_called ts) _ _
    (atom v k.StaticCall _ refl refl (λ c. refl) (call_of v (na.name v) (by_name v)))
    (cond_form (Heads v) (is_variable_start (first_of ts)) _ _
    (atom v k.StaticProp _ refl refl (λ c. refl) (prop_of v (na.name v) (by_name v)))
    (atom v k.ClassConstant _ refl refl (λ c. refl) (constant_of v (na.name v) (by_name v))))

pub static_member_heads : (v : Version) (ts : List Token) → Heads v (fo.static_member_form ts)
static_member_heads v ts =
    cond_form (Heads v) (is_called ts) _ _
    (atom v k.StaticCall _ refl refl (λ c. refl) (call_of v (word t.Static) (by_static v)))
    (cond_form (Heads v) (is_variable_start (first_of ts)) _ _
    (atom v k.StaticProp _ refl refl (λ c. refl) (prop_of v (word t.Static) (by_static v)))
    (atom v k.ClassConstant _ refl refl (λ c. refl) (constant_of v (word t.Static) (by_static v))))

pub name_heads : (v : Version) (x : Terminal) (ts : List Token) → Heads v (fo.name_by x ts)
name_heads v t.OpenParen ts =
    atom v k.Call _ refl refl (λ c. refl)
    (first_as v (na.called_name v) (na.called_name v ||| place Callee) (po.call v) (flat po.called []) (λ f p. is_first p) (whole v (po.call v)))
name_heads v t.DoubleColon ts = static_name_heads v (drop 1 ts)
name_heads v _ ts = atom v k.Constant _ refl refl (λ c. refl) (whole v (na.name v))

pub static_heads : (v : Version) (x : Terminal) (ts : List Token) → IfSome (fo.static_by x ts) (Heads v)
static_heads v t.Function ts = atom v k.Closure _ refl refl (λ c. refl) (withal v (word t.Static) closure_rule)
static_heads v t.Fn ts = before v k.Arrow _ refl refl refl (withal v (word t.Static) arrow_rule)
static_heads v t.DoubleColon ts = static_member_heads v (drop 2 ts)
static_heads v _ ts = tt

pub bracket_heads : (v : Version) (b : Bool) → Heads v (fo.bracket_form b)
bracket_heads v true = atom v k.List _ refl refl (λ c. refl) (one v (brackets (commas (maybe at.list_item))) (word t.List ~ parens (commas (maybe at.list_item))))
bracket_heads v false = atom v k.Array _ refl refl (λ c. refl) (one v (brackets at.items) (word t.Array ~ parens at.items))

pub list_word_heads : (v : Version) → Heads v fo.list_word_form
list_word_heads v = atom v k.List _ refl refl (λ c. refl) (second v (brackets (commas (maybe at.list_item))) (word t.List ~ parens (commas (maybe at.list_item))))

pub array_word_heads : (v : Version) (x : Terminal) → IfSome (fo.array_word_form x) (Heads v)
array_word_heads v t.OpenParen = atom v k.Array _ refl refl (λ c. refl) (second v (brackets at.items) (word t.Array ~ parens at.items))
array_word_heads v _ = tt

pub old_cast_heads : (v : Version) → IfSome (fo.old_cast_form v) (Heads v)
old_cast_heads V74 =
    before V74 k.Cast _ refl refl refl
    (first_as V74 (word t.OldCast) (word t.Cast ||| word t.OldCast) (op.cast V74) (flat (place (Operand 3)) []) (λ f p. is_second p) (whole V74 (op.cast V74)))
old_cast_heads V83 = tt

pub operand_by_heads : (v : Version) (x : Terminal) (ts : List Token) → IfSome (fo.operand_by v x ts) (Heads v)
operand_by_heads v t.Dollar ts = dollar_heads v (second_of ts)
operand_by_heads v t.Static ts = static_heads v (second_of ts) ts
operand_by_heads v t.OpenBracket ts = bracket_heads v (is_assign (first_of (past_group 0 ts)))
operand_by_heads v t.Array ts = array_word_heads v (second_of ts)
operand_by_heads v t.List ts = list_word_heads v
operand_by_heads v t.OldCast ts = old_cast_heads v
operand_by_heads v _ ts = tt

pub named_heads : (v : Version) (b : Bool) (ts : List Token) → IfSome (cond b (Some (fo.name_form (behind_name ts))) None) (Heads v)
named_heads v true ts = name_heads v (first_of (behind_name ts)) (behind_name ts)
named_heads v false ts = tt

-- an expression
pub operand_heads : (v : Version) (ts : List Token) → IfSome (fo.operand_form v ts) (Heads v)
operand_heads v ts =
    or_else_form (Heads v) (or_else (fo.named_form ts) (fa.atom_form (first_of ts))) (fo.chosen_operand v ts)
    (or_else_form (Heads v) (fo.named_form ts) (fa.atom_form (first_of ts)) (named_heads v (is_name_part (first_of ts)) ts) (atom_heads v (first_of ts)))
    (operand_by_heads v (first_of ts) ts)

-- a variable expression
pub place_heads : (v : Version) (ts : List Token) → IfSome (fo.place_form v ts) (Heads v)
place_heads v ts = cond_option (Heads v) (begins_place (first_of ts)) (fo.operand_form v ts) None (λ e. operand_heads v ts) (λ e. tt)

pub target_by_heads : (v : Version) (x : Terminal) (ts : List Token) → IfSome (fo.target_by x ts) (Heads v)
target_by_heads v t.OpenBracket ts = bracket_heads v (not (goes_on (first_of (past_group 0 ts))))
target_by_heads v t.List ts = list_word_heads v
target_by_heads v _ ts = tt

-- what is written
pub target_heads : (v : Version) (ts : List Token) → IfSome (fo.target_form v ts) (Heads v)
target_heads v ts = or_else_form (Heads v) (fo.target_list_form ts) (fo.place_form v ts) (target_by_heads v (first_of ts) ts) (place_heads v ts)

pub entry_by_heads : (v : Version) (x : Terminal) (ts : List Token) → IfSome (fo.entry_by x ts) (Heads v)
entry_by_heads v t.OpenBracket ts = bracket_heads v (ends_item (first_of (past_group 0 ts)))
entry_by_heads v _ ts = tt

-- the first expression of an item of a list form
pub entry_heads : (v : Version) (ts : List Token) → IfSome (fo.entry_form v ts) (Heads v)
entry_heads v ts = or_else_form (Heads v) (fo.entry_list_form ts) (fo.operand_form v ts) (entry_by_heads v (first_of ts) ts) (operand_heads v ts)
