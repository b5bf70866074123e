-- Each node is read as it was.
use Rattle.std.proofs.Common.{◌≡◌, ℕ, zero, suc, ◌<◌, ◌≤◌, Bool, true, false, ◌&&◌, ◌||◌, List, [], ◌∷◌, inl, inr, refl, sym, ap, ◌∙◌, subst, nat_le, append-nil, arith}
use Rattle.php_tree.specs.declared.kind.NodeKind.{NodeKind}
use Rattle.php_tree.specs.declared.kind.NodeKind.TheVariants as k
use Rattle.php_tree.specs.declared.token.Token.{Token}
use Rattle.php_tree.specs.declared.version.Version.{Version}
use Rattle.php_tree.specs.declared.version.Version.TheVariants.{V74, V83}
use Rattle.php_tree.specs.Tree.{Forest, Tree, none, leaf, node, ◌+++◌, leaves, count}
use Rattle.php_terminals.specs.declared.terminal.Terminal.{Terminal}
use Rattle.php_terminals.specs.declared.terminal.Terminal.TheVariants as t
use Rattle.php_terminals.specs.Ahead.{first_of}
use Rattle.php_forms.specs.declared.item.Sort.{Sort}
use Rattle.php_forms.specs.declared.item.Sort.TheVariants as s
use Rattle.php_forms.specs.Grammar.{Grows, Spells}
use Rattle.php_grammar.specs.Levels.{level}
use Rattle.php_grammar.specs.Tables.{php}
use Rattle.php_shapes.specs.Nearest.{ends_in_yield, is_open_yield, is_to}
use Rattle.php_shapes.specs.Notation.{Rule, nothing, word, kind, place, inside, ◌~◌, ◌|||◌, many}
use Rattle.php_shapes.specs.Places.{Place, Operand, may_stand}
use Rattle.php_shapes.specs.Shapes.{Fits, is_both, is_first, is_second, is_kind, IsNode, is_node}
use Rattle.php_shapes.proofs.ReadEnds.{Behind, Below, closes_expression, closes_item, Ends, is_open_for_arrow}
use Rattle.php_shapes.proofs.ReadMatch.{false_true}
use Rattle.php_shapes.proofs.ReadOperands.{Before}
use Rattle.std.proofs.lemmas.Bool.{leb-true, eqb-true, or_left, and_parts}
use Rattle.php_tree.specs.declared.token.TokenKind.{TokenKind}
use Rattle.php_tree.specs.declared.token.TokenKind.TheVariants as kind_
use Rattle.php_tree.specs.Tree.{File, depth, file_leaves}
use Rattle.php_terminals.specs.Classify.{terminal_by}
use Rattle.php_exprs.specs.Expr.{IsExpression as IsRead}
use Rattle.php_parser.specs.Ends.{is_end}
use Rattle.php_parser.specs.Files.{ReadsFile, bound}
use Rattle.php_shapes.specs.Shapes.{IsExpression, Shape}
use Rattle.php_shapes.proofs.ReadBodies.{file_walks}
use Rattle.php_grammar.specs.Bases.{is_list, is_offset_base, is_target, is_variable_expression, role_of}
use Rattle.php_shapes.specs.Forms.{form as shape}
use Rattle.php_shapes.specs.Notation.{tokens}
use Rattle.php_shapes.specs.Places.{Statement, Member, Target, TargetOrList, ClassName, Embedded, begins_with_variable, is_expression, is_prefix}
use Rattle.php_shapes.specs.Shapes.{is_inside, is_word}
use Rattle.php_shapes.proofs.ReadEnds.{behind_level, closes_embedded, closes_target, goes_behind, reads_kind, Stopped, suits}
use Rattle.php_shapes.proofs.ReadOperands.{FitsLevel, Grown, number_grows, float_grows, text_grows, paren_grows, isset_grows, empty_test_grows, eval_test_grows, exit_grows}
use Rattle.php_shapes.proofs.ReadPrefixes.{casts_grow, include__grows, prefixes_grow, print__grows}
use Rattle.php_shapes.proofs.ReadInfix.{binaries_grow, not_list}
use Rattle.php_shapes.proofs.ReadPostfixes.{base_expression, base_level, braces_grow, methods_grow, offsets_grow, props_grow, target_offset}
use Rattle.php_shapes.proofs.ReadNames.{all_calls_grow, class_constants_grow, constants_grow, static_calls_grow, static_props_grow}
use Rattle.php_shapes.proofs.ReadAssigns.{assigns_grow, compounds_grow, postfixes_grow, refs_grow, shorts_grow, ternaries_grow}
use Rattle.php_shapes.proofs.ReadVariables.{args_grow, items_grow, simple_variables_grow, variables_grow}
use Rattle.php_shapes.proofs.ReadClosures.{arrays_grow, arrows_grow, closures_grow}
use Rattle.php_shapes.proofs.ReadYields.{yields_grow}
use Rattle.php_shapes.proofs.ReadQuoted.{quoted_grows}
use Rattle.php_shapes.proofs.ReadEmbedded.{embedded_closes, embedded_read, variable_offset}
use Rattle.php_shapes.proofs.ReadLists.{list_entries, list_targets, lists_grow}
use Rattle.php_shapes.proofs.ReadPlaces.{entry_targets_read, keys_read, places_read, targets_read}
use Rattle.php_shapes.proofs.ReadSorts.{member_grows, statement_grows}
use Rattle.php_shapes.proofs.ReadClassMembers.{body_grows, case_grows, param_grows, type_grows}
use Rattle.php_shapes.proofs.ReadStops.{ends_here, positive, straight}
use Rattle.php_shapes.proofs.ReadClasses.{or_is}
use Rattle.php_shapes.specs.Shapes.{is_nothing, is_place, is_tokens, no_more, once_more}

-- ---- no `yield` at the end of what is written

-- what fits a rule ends in a token, or in a variable
abbrev calm : Rule → Bool
calm (word w) = true
calm (kind k.Variable) = true
calm (kind j) = false
calm (inside k.Variable r) = calm r
calm (inside j r) = false
calm (r ~ q) = calm q
calm (r ||| q) = calm r && calm q
calm nothing = false
calm (place p) = false
calm (many r) = false
calm tokens = false

-- parts do not end in a `yield`, whatever stands before them
abbrev Quiet : Forest → Type 0
Quiet f = (b : Bool) → ends_in_yield b f ≡ false

yield_both : (b : Bool) (g h : Forest) → ends_in_yield b (g +++ h) ≡ ends_in_yield (ends_in_yield b g) h
yield_both b none h = refl
yield_both b (leaf x g) h = yield_both false g h
yield_both b (node j c g) h = yield_both (is_open_yield j c || ends_in_yield false c) g h

quiet_both : (f g h : Forest) → f ≡ g +++ h → Quiet h → Quiet f
quiet_both f g h e q b = ap (ends_in_yield b) e ∙ yield_both b g h ∙ q (ends_in_yield b g)

mutual
  rule_quiet : (v : Version) {r : Rule} {f : Forest} → Fits v r f → calm r ≡ true → Quiet f
  rule_quiet v (is_word a) h = λ b. refl
  rule_quiet v (is_kind {k = k.Variable} x) h = λ b. variable_quiet v x false
  rule_quiet v (is_inside {k = k.Variable} x near) h = λ b. rule_quiet v x h false
  rule_quiet v (is_both {f = f} {g = g1} {h = g2} x y e) h = quiet_both f g1 g2 e (rule_quiet v y h)
  rule_quiet v (is_first {r = r} {s = q} x) h = rule_quiet v x ((and_parts (calm r) (calm q) h).0)
  rule_quiet v (is_second {r = r} {s = q} x) h = rule_quiet v x ((and_parts (calm r) (calm q) h).1)
  rule_quiet v is_nothing h = absurd (false_true h)
  rule_quiet v (is_place m x) h = absurd (false_true h)
  rule_quiet v no_more h = absurd (false_true h)
  rule_quiet v (once_more x y e) h = absurd (false_true h)
  rule_quiet v (is_tokens x) h = absurd (false_true h)
  rule_quiet v (is_kind {k = k.Block} x) h = absurd (false_true h)
  rule_quiet v (is_kind {k = k.Empty} x) h = absurd (false_true h)
  rule_quiet v (is_kind {k = k.ExprStmt} x) h = absurd (false_true h)
  rule_quiet v (is_kind {k = k.Echo} x) h = absurd (false_true h)
  rule_quiet v (is_kind {k = k.Html} x) h = absurd (false_true h)
  rule_quiet v (is_kind {k = k.Return} x) h = absurd (false_true h)
  rule_quiet v (is_kind {k = k.If} x) h = absurd (false_true h)
  rule_quiet v (is_kind {k = k.IfAlt} x) h = absurd (false_true h)
  rule_quiet v (is_kind {k = k.While} x) h = absurd (false_true h)
  rule_quiet v (is_kind {k = k.DoWhile} x) h = absurd (false_true h)
  rule_quiet v (is_kind {k = k.For} x) h = absurd (false_true h)
  rule_quiet v (is_kind {k = k.Foreach} x) h = absurd (false_true h)
  rule_quiet v (is_kind {k = k.Switch} x) h = absurd (false_true h)
  rule_quiet v (is_kind {k = k.Case} x) h = absurd (false_true h)
  rule_quiet v (is_kind {k = k.Break} x) h = absurd (false_true h)
  rule_quiet v (is_kind {k = k.Continue} x) h = absurd (false_true h)
  rule_quiet v (is_kind {k = k.Global} x) h = absurd (false_true h)
  rule_quiet v (is_kind {k = k.Statics} x) h = absurd (false_true h)
  rule_quiet v (is_kind {k = k.Unset} x) h = absurd (false_true h)
  rule_quiet v (is_kind {k = k.Throw} x) h = absurd (false_true h)
  rule_quiet v (is_kind {k = k.Try} x) h = absurd (false_true h)
  rule_quiet v (is_kind {k = k.Function} x) h = absurd (false_true h)
  rule_quiet v (is_kind {k = k.Param} x) h = absurd (false_true h)
  rule_quiet v (is_kind {k = k.TypeName} x) h = absurd (false_true h)
  rule_quiet v (is_kind {k = k.Class} x) h = absurd (false_true h)
  rule_quiet v (is_kind {k = k.Interface} x) h = absurd (false_true h)
  rule_quiet v (is_kind {k = k.Trait} x) h = absurd (false_true h)
  rule_quiet v (is_kind {k = k.Property} x) h = absurd (false_true h)
  rule_quiet v (is_kind {k = k.ClassConst} x) h = absurd (false_true h)
  rule_quiet v (is_kind {k = k.Method} x) h = absurd (false_true h)
  rule_quiet v (is_kind {k = k.TraitUse} x) h = absurd (false_true h)
  rule_quiet v (is_kind {k = k.Const} x) h = absurd (false_true h)
  rule_quiet v (is_kind {k = k.Namespace} x) h = absurd (false_true h)
  rule_quiet v (is_kind {k = k.Use} x) h = absurd (false_true h)
  rule_quiet v (is_kind {k = k.Declare} x) h = absurd (false_true h)
  rule_quiet v (is_kind {k = k.Goto} x) h = absurd (false_true h)
  rule_quiet v (is_kind {k = k.LabelStmt} x) h = absurd (false_true h)
  rule_quiet v (is_kind {k = k.Number} x) h = absurd (false_true h)
  rule_quiet v (is_kind {k = k.Float} x) h = absurd (false_true h)
  rule_quiet v (is_kind {k = k.Text} x) h = absurd (false_true h)
  rule_quiet v (is_kind {k = k.Quoted} x) h = absurd (false_true h)
  rule_quiet v (is_kind {k = k.Constant} x) h = absurd (false_true h)
  rule_quiet v (is_kind {k = k.ClassConstant} x) h = absurd (false_true h)
  rule_quiet v (is_kind {k = k.Array} x) h = absurd (false_true h)
  rule_quiet v (is_kind {k = k.Item} x) h = absurd (false_true h)
  rule_quiet v (is_kind {k = k.List} x) h = absurd (false_true h)
  rule_quiet v (is_kind {k = k.Paren} x) h = absurd (false_true h)
  rule_quiet v (is_kind {k = k.Offset} x) h = absurd (false_true h)
  rule_quiet v (is_kind {k = k.BraceOffset} x) h = absurd (false_true h)
  rule_quiet v (is_kind {k = k.Prop} x) h = absurd (false_true h)
  rule_quiet v (is_kind {k = k.StaticProp} x) h = absurd (false_true h)
  rule_quiet v (is_kind {k = k.Call} x) h = absurd (false_true h)
  rule_quiet v (is_kind {k = k.MethodCall} x) h = absurd (false_true h)
  rule_quiet v (is_kind {k = k.StaticCall} x) h = absurd (false_true h)
  rule_quiet v (is_kind {k = k.Args} x) h = absurd (false_true h)
  rule_quiet v (is_kind {k = k.New} x) h = absurd (false_true h)
  rule_quiet v (is_kind {k = k.Isset} x) h = absurd (false_true h)
  rule_quiet v (is_kind {k = k.EmptyTest} x) h = absurd (false_true h)
  rule_quiet v (is_kind {k = k.Exit} x) h = absurd (false_true h)
  rule_quiet v (is_kind {k = k.Closure} x) h = absurd (false_true h)
  rule_quiet v (is_kind {k = k.Arrow} x) h = absurd (false_true h)
  rule_quiet v (is_kind {k = k.Include} x) h = absurd (false_true h)
  rule_quiet v (is_kind {k = k.EvalTest} x) h = absurd (false_true h)
  rule_quiet v (is_kind {k = k.Binary} x) h = absurd (false_true h)
  rule_quiet v (is_kind {k = k.Prefix} x) h = absurd (false_true h)
  rule_quiet v (is_kind {k = k.Postfix} x) h = absurd (false_true h)
  rule_quiet v (is_kind {k = k.Cast} x) h = absurd (false_true h)
  rule_quiet v (is_kind {k = k.Ternary} x) h = absurd (false_true h)
  rule_quiet v (is_kind {k = k.ShortTernary} x) h = absurd (false_true h)
  rule_quiet v (is_kind {k = k.Assign} x) h = absurd (false_true h)
  rule_quiet v (is_kind {k = k.AssignRef} x) h = absurd (false_true h)
  rule_quiet v (is_kind {k = k.CompoundAssign} x) h = absurd (false_true h)
  rule_quiet v (is_kind {k = k.InstanceOf} x) h = absurd (false_true h)
  rule_quiet v (is_kind {k = k.Print} x) h = absurd (false_true h)
  rule_quiet v (is_kind {k = k.Yield} x) h = absurd (false_true h)
  rule_quiet v (is_inside {k = k.Block} x near) h = absurd (false_true h)
  rule_quiet v (is_inside {k = k.Empty} x near) h = absurd (false_true h)
  rule_quiet v (is_inside {k = k.ExprStmt} x near) h = absurd (false_true h)
  rule_quiet v (is_inside {k = k.Echo} x near) h = absurd (false_true h)
  rule_quiet v (is_inside {k = k.Html} x near) h = absurd (false_true h)
  rule_quiet v (is_inside {k = k.Return} x near) h = absurd (false_true h)
  rule_quiet v (is_inside {k = k.If} x near) h = absurd (false_true h)
  rule_quiet v (is_inside {k = k.IfAlt} x near) h = absurd (false_true h)
  rule_quiet v (is_inside {k = k.While} x near) h = absurd (false_true h)
  rule_quiet v (is_inside {k = k.DoWhile} x near) h = absurd (false_true h)
  rule_quiet v (is_inside {k = k.For} x near) h = absurd (false_true h)
  rule_quiet v (is_inside {k = k.Foreach} x near) h = absurd (false_true h)
  rule_quiet v (is_inside {k = k.Switch} x near) h = absurd (false_true h)
  rule_quiet v (is_inside {k = k.Case} x near) h = absurd (false_true h)
  rule_quiet v (is_inside {k = k.Break} x near) h = absurd (false_true h)
  rule_quiet v (is_inside {k = k.Continue} x near) h = absurd (false_true h)
  rule_quiet v (is_inside {k = k.Global} x near) h = absurd (false_true h)
  rule_quiet v (is_inside {k = k.Statics} x near) h = absurd (false_true h)
  rule_quiet v (is_inside {k = k.Unset} x near) h = absurd (false_true h)
  rule_quiet v (is_inside {k = k.Throw} x near) h = absurd (false_true h)
  rule_quiet v (is_inside {k = k.Try} x near) h = absurd (false_true h)
  rule_quiet v (is_inside {k = k.Function} x near) h = absurd (false_true h)
  rule_quiet v (is_inside {k = k.Param} x near) h = absurd (false_true h)
  rule_quiet v (is_inside {k = k.TypeName} x near) h = absurd (false_true h)
  rule_quiet v (is_inside {k = k.Class} x near) h = absurd (false_true h)
  rule_quiet v (is_inside {k = k.Interface} x near) h = absurd (false_true h)
  rule_quiet v (is_inside {k = k.Trait} x near) h = absurd (false_true h)
  rule_quiet v (is_inside {k = k.Property} x near) h = absurd (false_true h)
  rule_quiet v (is_inside {k = k.ClassConst} x near) h = absurd (false_true h)
  rule_quiet v (is_inside {k = k.Method} x near) h = absurd (false_true h)
  rule_quiet v (is_inside {k = k.TraitUse} x near) h = absurd (false_true h)
  rule_quiet v (is_inside {k = k.Const} x near) h = absurd (false_true h)
  rule_quiet v (is_inside {k = k.Namespace} x near) h = absurd (false_true h)
  rule_quiet v (is_inside {k = k.Use} x near) h = absurd (false_true h)
  rule_quiet v (is_inside {k = k.Declare} x near) h = absurd (false_true h)
  rule_quiet v (is_inside {k = k.Goto} x near) h = absurd (false_true h)
  rule_quiet v (is_inside {k = k.LabelStmt} x near) h = absurd (false_true h)
  rule_quiet v (is_inside {k = k.Number} x near) h = absurd (false_true h)
  rule_quiet v (is_inside {k = k.Float} x near) h = absurd (false_true h)
  rule_quiet v (is_inside {k = k.Text} x near) h = absurd (false_true h)
  rule_quiet v (is_inside {k = k.Quoted} x near) h = absurd (false_true h)
  rule_quiet v (is_inside {k = k.Constant} x near) h = absurd (false_true h)
  rule_quiet v (is_inside {k = k.ClassConstant} x near) h = absurd (false_true h)
  rule_quiet v (is_inside {k = k.Array} x near) h = absurd (false_true h)
  rule_quiet v (is_inside {k = k.Item} x near) h = absurd (false_true h)
  rule_quiet v (is_inside {k = k.List} x near) h = absurd (false_true h)
  rule_quiet v (is_inside {k = k.Paren} x near) h = absurd (false_true h)
  rule_quiet v (is_inside {k = k.Offset} x near) h = absurd (false_true h)
  rule_quiet v (is_inside {k = k.BraceOffset} x near) h = absurd (false_true h)
  rule_quiet v (is_inside {k = k.Prop} x near) h = absurd (false_true h)
  rule_quiet v (is_inside {k = k.StaticProp} x near) h = absurd (false_true h)
  rule_quiet v (is_inside {k = k.Call} x near) h = absurd (false_true h)
  rule_quiet v (is_inside {k = k.MethodCall} x near) h = absurd (false_true h)
  rule_quiet v (is_inside {k = k.StaticCall} x near) h = absurd (false_true h)
  rule_quiet v (is_inside {k = k.Args} x near) h = absurd (false_true h)
  rule_quiet v (is_inside {k = k.New} x near) h = absurd (false_true h)
  rule_quiet v (is_inside {k = k.Isset} x near) h = absurd (false_true h)
  rule_quiet v (is_inside {k = k.EmptyTest} x near) h = absurd (false_true h)
  rule_quiet v (is_inside {k = k.Exit} x near) h = absurd (false_true h)
  rule_quiet v (is_inside {k = k.Closure} x near) h = absurd (false_true h)
  rule_quiet v (is_inside {k = k.Arrow} x near) h = absurd (false_true h)
  rule_quiet v (is_inside {k = k.Include} x near) h = absurd (false_true h)
  rule_quiet v (is_inside {k = k.EvalTest} x near) h = absurd (false_true h)
  rule_quiet v (is_inside {k = k.Binary} x near) h = absurd (false_true h)
  rule_quiet v (is_inside {k = k.Prefix} x near) h = absurd (false_true h)
  rule_quiet v (is_inside {k = k.Postfix} x near) h = absurd (false_true h)
  rule_quiet v (is_inside {k = k.Cast} x near) h = absurd (false_true h)
  rule_quiet v (is_inside {k = k.Ternary} x near) h = absurd (false_true h)
  rule_quiet v (is_inside {k = k.ShortTernary} x near) h = absurd (false_true h)
  rule_quiet v (is_inside {k = k.Assign} x near) h = absurd (false_true h)
  rule_quiet v (is_inside {k = k.AssignRef} x near) h = absurd (false_true h)
  rule_quiet v (is_inside {k = k.CompoundAssign} x near) h = absurd (false_true h)
  rule_quiet v (is_inside {k = k.InstanceOf} x near) h = absurd (false_true h)
  rule_quiet v (is_inside {k = k.Print} x near) h = absurd (false_true h)
  rule_quiet v (is_inside {k = k.Yield} x near) h = absurd (false_true h)

  variable_quiet : (v : Version) {c : Forest} → IsNode v k.Variable c → Quiet c
  variable_quiet v (is_node x near e) = rule_quiet v x refl

node_quiet : (v : Version) (j : NodeKind) (c : Forest) → calm (shape v j) ≡ true → IsNode v j c → ends_in_yield false c ≡ false
node_quiet v j c h (is_node x near e) = rule_quiet v x h false

targets_quiet : (v : Version) (j : NodeKind) (c : Forest) → is_target j ≡ true → IsNode v j c → is_open_for_arrow (j, c) ≡ false
targets_quiet v k.Block c h x = absurd (false_true h)
targets_quiet v k.Empty c h x = absurd (false_true h)
targets_quiet v k.ExprStmt c h x = absurd (false_true h)
targets_quiet v k.Echo c h x = absurd (false_true h)
targets_quiet v k.Html c h x = absurd (false_true h)
targets_quiet v k.Return c h x = absurd (false_true h)
targets_quiet v k.If c h x = absurd (false_true h)
targets_quiet v k.IfAlt c h x = absurd (false_true h)
targets_quiet v k.While c h x = absurd (false_true h)
targets_quiet v k.DoWhile c h x = absurd (false_true h)
targets_quiet v k.For c h x = absurd (false_true h)
targets_quiet v k.Foreach c h x = absurd (false_true h)
targets_quiet v k.Switch c h x = absurd (false_true h)
targets_quiet v k.Case c h x = absurd (false_true h)
targets_quiet v k.Break c h x = absurd (false_true h)
targets_quiet v k.Continue c h x = absurd (false_true h)
targets_quiet v k.Global c h x = absurd (false_true h)
targets_quiet v k.Statics c h x = absurd (false_true h)
targets_quiet v k.Unset c h x = absurd (false_true h)
targets_quiet v k.Throw c h x = absurd (false_true h)
targets_quiet v k.Try c h x = absurd (false_true h)
targets_quiet v k.Function c h x = absurd (false_true h)
targets_quiet v k.Param c h x = absurd (false_true h)
targets_quiet v k.TypeName c h x = absurd (false_true h)
targets_quiet v k.Class c h x = absurd (false_true h)
targets_quiet v k.Interface c h x = absurd (false_true h)
targets_quiet v k.Trait c h x = absurd (false_true h)
targets_quiet v k.Property c h x = absurd (false_true h)
targets_quiet v k.ClassConst c h x = absurd (false_true h)
targets_quiet v k.Method c h x = absurd (false_true h)
targets_quiet v k.TraitUse c h x = absurd (false_true h)
targets_quiet v k.Const c h x = absurd (false_true h)
targets_quiet v k.Namespace c h x = absurd (false_true h)
targets_quiet v k.Use c h x = absurd (false_true h)
targets_quiet v k.Declare c h x = absurd (false_true h)
targets_quiet v k.Goto c h x = absurd (false_true h)
targets_quiet v k.LabelStmt c h x = absurd (false_true h)
targets_quiet v k.Variable c h x = node_quiet v k.Variable c refl x
targets_quiet v k.Number c h x = absurd (false_true h)
targets_quiet v k.Float c h x = absurd (false_true h)
targets_quiet v k.Text c h x = absurd (false_true h)
targets_quiet v k.Quoted c h x = absurd (false_true h)
targets_quiet v k.Constant c h x = absurd (false_true h)
targets_quiet v k.ClassConstant c h x = absurd (false_true h)
targets_quiet v k.Array c h x = absurd (false_true h)
targets_quiet v k.Item c h x = absurd (false_true h)
targets_quiet v k.List c h x = absurd (false_true h)
targets_quiet v k.Paren c h x = absurd (false_true h)
targets_quiet v k.Offset c h x = node_quiet v k.Offset c refl x
targets_quiet V74 k.BraceOffset c h x = node_quiet V74 k.BraceOffset c refl x
targets_quiet V83 k.BraceOffset c h x = node_quiet V83 k.BraceOffset c refl x
targets_quiet v k.Prop c h x = node_quiet v k.Prop c refl x
targets_quiet v k.StaticProp c h x = node_quiet v k.StaticProp c refl x
targets_quiet v k.Call c h x = absurd (false_true h)
targets_quiet v k.MethodCall c h x = absurd (false_true h)
targets_quiet v k.StaticCall c h x = absurd (false_true h)
targets_quiet v k.Args c h x = absurd (false_true h)
targets_quiet v k.New c h x = absurd (false_true h)
targets_quiet v k.Isset c h x = absurd (false_true h)
targets_quiet v k.EmptyTest c h x = absurd (false_true h)
targets_quiet v k.Exit c h x = absurd (false_true h)
targets_quiet v k.Closure c h x = absurd (false_true h)
targets_quiet v k.Arrow c h x = absurd (false_true h)
targets_quiet v k.Include c h x = absurd (false_true h)
targets_quiet v k.EvalTest c h x = absurd (false_true h)
targets_quiet v k.Binary c h x = absurd (false_true h)
targets_quiet v k.Prefix c h x = absurd (false_true h)
targets_quiet v k.Postfix c h x = absurd (false_true h)
targets_quiet v k.Cast c h x = absurd (false_true h)
targets_quiet v k.Ternary c h x = absurd (false_true h)
targets_quiet v k.ShortTernary c h x = absurd (false_true h)
targets_quiet v k.Assign c h x = absurd (false_true h)
targets_quiet v k.AssignRef c h x = absurd (false_true h)
targets_quiet v k.CompoundAssign c h x = absurd (false_true h)
targets_quiet v k.InstanceOf c h x = absurd (false_true h)
targets_quiet v k.Print c h x = absurd (false_true h)
targets_quiet v k.Yield c h x = absurd (false_true h)

-- ---- expressions

-- what is proved of `new`, of `instanceof` and of what names a class
pub record Created (v : Version) : Type 0 where
  pub news : (n : ℕ) → Below v n → (m : ℕ) (c : Forest) (rest : List Token) → Fits v (shape v k.New) c → count c ≤ n
      → Before v (k.New, c) (first_of rest) → Grows (php v) (s.Operand m) k.New c rest
  pub instances : (n : ℕ) → Below v n → Grown v n → (m : ℕ) (c : Forest) (rest : List Token)
      → Fits v (shape v k.InstanceOf) c → count c ≤ n → FitsLevel v m (k.InstanceOf, c)
      → Before v (k.InstanceOf, c) (first_of rest) → Grows (php v) (s.Operand m) k.InstanceOf c rest
  pub refs : (n : ℕ) → Below v n → (j : NodeKind) (c : Forest) (rest : List Token) → count c ≤ n
      → may_stand v ClassName (j, c) ≡ true → IsNode v j c → Stopped v s.ClassRef (j, c) rest
      → Spells (php v) s.ClassRef (j, c) rest

none_fewer : (n : ℕ) → n < 0 → ⊥
none_fewer n lt = omega arith

fewer : (m n : ℕ) → m < suc n → m ≤ n
fewer m n lt = omega arith

self_le : (n : ℕ) → n ≤ n
self_le n = omega arith

end_by : (kd : TokenKind) (text : List ℕ) → is_end kd ≡ true → terminal_by kd text ≡ t.End
end_by kind_.End text h = refl
end_by kd text h = absurd (false_true h)

end_class : (x : Token) → is_end x.kind ≡ true → first_of (x ∷ []) ≡ t.End
end_class x h = end_by x.kind x.text h

list_goes : (v : Version) (d : Terminal) → goes_behind v k.List d ≡ true → d ≡ t.Assign
list_goes v t.Assign h = refl
list_goes V74 t.OpenBrace h = absurd (false_true h)
list_goes V83 t.OpenBrace h = absurd (false_true h)
list_goes v d h = absurd (false_true h)

the_shape : (v : Version) (j : NodeKind) (c : Forest) → IsNode v j c → Fits v (shape v j) c
the_shape v j c (is_node x near e) = x

low_level : (m l : ℕ) → l ≡ 0 → l ≤ m
low_level m l e = omega arith

item_closes : (c : Terminal) → closes_item c ≡ true → closes_expression c ≡ true
item_closes t.Comma h = refl
item_closes t.CloseParen h = refl
item_closes t.CloseBracket h = refl
item_closes c h = absurd (false_true h)

behind_target : (v : Version) (x : Tree) (c : Terminal) → is_open_for_arrow x ≡ false → closes_target c ≡ true → Behind v x c
behind_target v x t.DoubleArrow q h = inr (inl (refl, q))
behind_target v x t.Comma q h = inl refl
behind_target v x t.CloseParen q h = inl refl
behind_target v x t.CloseBracket q h = inl refl
behind_target v x c q h = absurd (false_true h)

list_before : (v : Version) (c : Forest) (d : Terminal) → Before v (k.List, c) d → d ≡ t.Assign
list_before v c d h = elim h [ inl q ↦ absurd (false_true (sym q.0)) | inr q ↦ list_goes v d q ]

module _ (v : Version) (made : Created v) where
  grows : (n : ℕ) → Below v n → Grown v n → (m : ℕ) (j : NodeKind) (c : Forest) (rest : List Token) → count c ≤ n
      → (is_expression j || is_list j) ≡ true → FitsLevel v m (j, c) → IsNode v j c → Before v (j, c) (first_of rest)
      → Grows (php v) (s.Operand m) j c rest
  grows n below grown m k.Block c rest le e fl x h = absurd (false_true e)
  grows n below grown m k.Empty c rest le e fl x h = absurd (false_true e)
  grows n below grown m k.ExprStmt c rest le e fl x h = absurd (false_true e)
  grows n below grown m k.Echo c rest le e fl x h = absurd (false_true e)
  grows n below grown m k.Html c rest le e fl x h = absurd (false_true e)
  grows n below grown m k.Return c rest le e fl x h = absurd (false_true e)
  grows n below grown m k.If c rest le e fl x h = absurd (false_true e)
  grows n below grown m k.IfAlt c rest le e fl x h = absurd (false_true e)
  grows n below grown m k.While c rest le e fl x h = absurd (false_true e)
  grows n below grown m k.DoWhile c rest le e fl x h = absurd (false_true e)
  grows n below grown m k.For c rest le e fl x h = absurd (false_true e)
  grows n below grown m k.Foreach c rest le e fl x h = absurd (false_true e)
  grows n below grown m k.Switch c rest le e fl x h = absurd (false_true e)
  grows n below grown m k.Case c rest le e fl x h = absurd (false_true e)
  grows n below grown m k.Break c rest le e fl x h = absurd (false_true e)
  grows n below grown m k.Continue c rest le e fl x h = absurd (false_true e)
  grows n below grown m k.Global c rest le e fl x h = absurd (false_true e)
  grows n below grown m k.Statics c rest le e fl x h = absurd (false_true e)
  grows n below grown m k.Unset c rest le e fl x h = absurd (false_true e)
  grows n below grown m k.Throw c rest le e fl x h = absurd (false_true e)
  grows n below grown m k.Try c rest le e fl x h = absurd (false_true e)
  grows n below grown m k.Function c rest le e fl x h = absurd (false_true e)
  grows n below grown m k.Param c rest le e fl x h = absurd (false_true e)
  grows n below grown m k.TypeName c rest le e fl x h = absurd (false_true e)
  grows n below grown m k.Class c rest le e fl x h = absurd (false_true e)
  grows n below grown m k.Interface c rest le e fl x h = absurd (false_true e)
  grows n below grown m k.Trait c rest le e fl x h = absurd (false_true e)
  grows n below grown m k.Property c rest le e fl x h = absurd (false_true e)
  grows n below grown m k.ClassConst c rest le e fl x h = absurd (false_true e)
  grows n below grown m k.Method c rest le e fl x h = absurd (false_true e)
  grows n below grown m k.TraitUse c rest le e fl x h = absurd (false_true e)
  grows n below grown m k.Const c rest le e fl x h = absurd (false_true e)
  grows n below grown m k.Namespace c rest le e fl x h = absurd (false_true e)
  grows n below grown m k.Use c rest le e fl x h = absurd (false_true e)
  grows n below grown m k.Declare c rest le e fl x h = absurd (false_true e)
  grows n below grown m k.Goto c rest le e fl x h = absurd (false_true e)
  grows n below grown m k.LabelStmt c rest le e fl x h = absurd (false_true e)
  grows n below grown m k.Variable c rest le e fl (is_node x near st) h = variables_grow v n below m c rest x le
  grows n below grown m k.Number c rest le e fl (is_node x near st) h = number_grows v n below m c rest x le h
  grows n below grown m k.Float c rest le e fl (is_node x near st) h = float_grows v n below m c rest x le h
  grows n below grown m k.Text c rest le e fl (is_node x near st) h = text_grows v n below m c rest x le h
  grows n below grown m k.Quoted c rest le e fl (is_node x near st) h = quoted_grows v n below m c rest x le
  grows n below grown m k.Constant c rest le e fl (is_node x near st) h = constants_grow v n below m c rest x le h
  grows n below grown m k.ClassConstant c rest le e fl (is_node x near st) h = class_constants_grow v n below grown m c rest x le h
  grows n below grown m k.Array c rest le e fl (is_node x near st) h = arrays_grow v n below m c rest x le h
  grows n below grown m k.Item c rest le e fl x h = absurd (false_true e)
  grows n below grown m k.List c rest le e fl (is_node x near st) h = lists_grow v n below m c rest (is_node x near st) x le (list_before v c (first_of rest) h)
  grows n below grown m k.Paren c rest le e fl (is_node x near st) h = paren_grows v n below m c rest x le h
  grows n below grown m k.Offset c rest le e fl (is_node x near st) h = offsets_grow v n below grown m c rest x le h
  grows n below grown m k.BraceOffset c rest le e fl (is_node x near st) h = braces_grow v n below grown m c rest x le h
  grows n below grown m k.Prop c rest le e fl (is_node x near st) h = props_grow v n below grown m c rest x le h
  grows n below grown m k.StaticProp c rest le e fl (is_node x near st) h = static_props_grow v n below grown m c rest x le h
  grows n below grown m k.Call c rest le e fl (is_node x near st) h = all_calls_grow v n below grown m c rest x le h
  grows n below grown m k.MethodCall c rest le e fl (is_node x near st) h = methods_grow v n below grown m c rest x le h
  grows n below grown m k.StaticCall c rest le e fl (is_node x near st) h = static_calls_grow v n below grown m c rest x le h
  grows n below grown m k.Args c rest le e fl x h = absurd (false_true e)
  grows n below grown m k.New c rest le e fl (is_node x near st) h = made.news n below m c rest x le h
  grows n below grown m k.Isset c rest le e fl (is_node x near st) h = isset_grows v n below m c rest x le h
  grows n below grown m k.EmptyTest c rest le e fl (is_node x near st) h = empty_test_grows v n below m c rest x le h
  grows n below grown m k.Exit c rest le e fl (is_node x near st) h = exit_grows v n below m c rest x le h
  grows n below grown m k.Closure c rest le e fl (is_node x near st) h = closures_grow v n below m c rest x le h
  grows n below grown m k.Arrow c rest le e fl (is_node x near st) h = arrows_grow v n below m c rest x le h
  grows n below grown m k.Include c rest le e fl (is_node x near st) h = include__grows v n below m c rest x le h
  grows n below grown m k.EvalTest c rest le e fl (is_node x near st) h = eval_test_grows v n below m c rest x le h
  grows n below grown m k.Binary c rest le e fl (is_node x near st) h = binaries_grow v n below grown m c rest x le fl h
  grows n below grown m k.Prefix c rest le e fl (is_node x near st) h = prefixes_grow v n below m c rest x le h
  grows n below grown m k.Postfix c rest le e fl (is_node x near st) h = postfixes_grow v n below grown m c rest x le h
  grows n below grown m k.Cast c rest le e fl (is_node x near st) h = casts_grow v n below m c rest x le h
  grows n below grown m k.Ternary c rest le e fl (is_node x near st) h = ternaries_grow v n below grown m c rest x le fl h
  grows n below grown m k.ShortTernary c rest le e fl (is_node x near st) h = shorts_grow v n below grown m c rest x le fl h
  grows n below grown m k.Assign c rest le e fl (is_node x near st) h = assigns_grow v n below grown m c rest x le h
  grows n below grown m k.AssignRef c rest le e fl (is_node x near st) h = refs_grow v n below grown m c rest x le h
  grows n below grown m k.CompoundAssign c rest le e fl (is_node x near st) h = compounds_grow v n below grown m c rest x le h
  grows n below grown m k.InstanceOf c rest le e fl (is_node x near st) h = made.instances n below grown m c rest x le fl h
  grows n below grown m k.Print c rest le e fl (is_node x near st) h = print__grows v n below m c rest x le h
  grows n below grown m k.Yield c rest le e fl (is_node x near st) h = yields_grow v n below m c rest x near le h

  behind_of : (m : ℕ) (x : Tree) (c : Terminal) → Ends v m x c → Behind v x c
  behind_of m x c e = elim e [ inl h ↦ inl h | inr h ↦ elim h [ inl q ↦ inr (inl q) | inr q ↦ inr (inr (q.0, positive m (behind_level v c) q.1)) ] ]

  level_of : (m : ℕ) (x : Tree) → (nat_le (level v x) m || is_prefix x.0) ≡ true → FitsLevel v m x
  level_of m x h = elim (or_is (nat_le (level v x) m) (is_prefix x.0) h) [ inl e ↦ inl (leb-true (level v x) m e) | inr e ↦ inr e ]

  operand_read : (n : ℕ) → Below v n → Grown v n → (m : ℕ) (j : NodeKind) (c : Forest) (rest : List Token)
      → count c ≤ n → may_stand v (Operand m) (j, c) ≡ true → IsNode v j c → Ends v m (j, c) (first_of rest)
      → Spells (php v) (s.Operand m) (j, c) rest
  operand_read n below grown m j c rest le st x e =
      let q : (is_expression j ≡ true) × ((nat_le (level v (j, c)) m || is_prefix j) ≡ true) = and_parts (is_expression j) (nat_le (level v (j, c)) m || is_prefix j) st in
      let nl : is_list j ≡ false = not_list j q.0 in (
        grows n below grown m j c rest le (or_left (is_expression j) (is_list j) q.0) (level_of m (j, c) q.1) x
            (inl (nl, behind_of m (j, c) (first_of rest) e)),
        ends_here v m (j, c) rest (straight v j c x) nl e,
      )

  -- an expression before what may stand behind it
  any_grows : (n : ℕ) → Below v n → Grown v n → (j : NodeKind) (c : Forest) (rest : List Token) → count c ≤ n
      → is_expression j ≡ true → FitsLevel v 24 (j, c) → IsNode v j c → Behind v (j, c) (first_of rest)
      → Grows (php v) (s.Operand 24) j c rest
  any_grows n below grown j c rest le h f x b = grows n below grown 24 j c rest le (or_left (is_expression j) (is_list j) h) f x (inl (not_list j h, b))

  target_grows : (n : ℕ) → Below v n → Grown v n → (j : NodeKind) (c : Forest) (rest : List Token) → count c ≤ n
      → is_target j ≡ true → IsNode v j c → Behind v (j, c) (first_of rest) → Grows (php v) (s.Operand 24) j c rest
  target_grows n below grown j c rest le h x b = any_grows n below grown j c rest le
      (base_expression j (target_offset (role_of j) h))
      (inl (low_level 24 (level v (j, c)) (base_level v j c (target_offset (role_of j) h)))) x b

  target_read : (n : ℕ) → Below v n → Grown v n → (j : NodeKind) (c : Forest) (rest : List Token) → count c ≤ n
      → (is_target j || is_list j) ≡ true → IsNode v j c → closes_target (first_of rest) ≡ true
      → Spells (php v) s.Target (j, c) rest
  target_read n below grown j c rest le h x cl = elim (or_is (is_target j) (is_list j) h) [
    | inl e ↦ targets_read v j c rest (target_grows n below grown j c rest le e x (behind_target v (j, c) (first_of rest) (targets_quiet v j c e x) cl)) e x cl
    | inr e ↦ list_target n below j c rest le e x cl
  ]
    where
      list_target : (n : ℕ) → Below v n → (j : NodeKind) (c : Forest) (rest : List Token) → count c ≤ n
          → is_list j ≡ true → IsNode v j c → closes_target (first_of rest) ≡ true
          → Spells (php v) s.Target (j, c) rest
      list_target n below k.List c rest le e x cl = list_targets v n below c rest x (the_shape v k.List c x) le cl
      list_target n below other c rest le e x cl = absurd (false_true e)

  entry_read : (n : ℕ) → Below v n → Grown v n → (j : NodeKind) (c : Forest) (rest : List Token) → count c ≤ n
      → (is_target j || is_list j) ≡ true → IsNode v j c → closes_item (first_of rest) ≡ true
      → Spells (php v) s.Entry (j, c) rest
  entry_read n below grown j c rest le h x cl = elim (or_is (is_target j) (is_list j) h) [
    | inl e ↦ entry_targets_read v j c rest (target_grows n below grown j c rest le e x (inl (item_closes (first_of rest) cl))) e x cl
    | inr e ↦ list_entry n below j c rest le e x cl
  ]
    where
      list_entry : (n : ℕ) → Below v n → (j : NodeKind) (c : Forest) (rest : List Token) → count c ≤ n
          → is_list j ≡ true → IsNode v j c → closes_item (first_of rest) ≡ true → Spells (php v) s.Entry (j, c) rest
      list_entry n below k.List c rest le e x cl = list_entries v n below c rest x (the_shape v k.List c x) le cl
      list_entry n below other c rest le e x cl = absurd (false_true e)

  key_read : (n : ℕ) → Below v n → Grown v n → (j : NodeKind) (c : Forest) (rest : List Token) → count c ≤ n
      → is_expression j ≡ true → FitsLevel v 24 (j, c) → IsNode v j c → first_of rest ≡ t.DoubleArrow
      → is_open_for_arrow (j, c) ≡ false → Spells (php v) s.Entry (j, c) rest
  key_read n below grown j c rest le h f x e q = keys_read v j c rest (any_grows n below grown j c rest le h f x (inr (inl (ap is_to e, q)))) h x e

  expression_target : (j : NodeKind) → is_expression j ≡ true → (is_target j || is_list j) ≡ true → is_target j ≡ true
  expression_target j e h = elim (or_is (is_target j) (is_list j) h) [ inl q ↦ q | inr q ↦ absurd (false_true (sym (not_list j e) ∙ q)) ]

  target_level : (j : NodeKind) (c : Forest) → (is_target j || is_list j) ≡ true → is_expression j ≡ true → FitsLevel v 24 (j, c)
  target_level j c h e = inl (low_level 24 (level v (j, c)) (base_level v j c (target_offset (role_of j) (expression_target j e h))))

  operand_entry : (n : ℕ) → Below v n → Grown v n → (j : NodeKind) (c : Forest) (rest : List Token) → count c ≤ n
      → may_stand v (Operand 24) (j, c) ≡ true → IsNode v j c → Stopped v s.Entry (j, c) rest
      → Spells (php v) s.Entry (j, c) rest
  operand_entry n below grown j c rest le st x h =
      let q : (is_expression j ≡ true) × ((nat_le (level v (j, c)) 24 || is_prefix j) ≡ true) = and_parts (is_expression j) (nat_le (level v (j, c)) 24 || is_prefix j) st in
      elim h [
        | inl w ↦ entry_read n below grown j c rest le w.1 x w.0
        | inr w ↦ key_read n below grown j c rest le q.0 (level_of 24 (j, c) q.1) x w.0 w.2
      ]

  embedded_grows : (n : ℕ) → Below v n → Grown v n → (j : NodeKind) (c : Forest) (rest : List Token) → count c ≤ n
      → may_stand v Embedded (j, c) ≡ true → IsNode v j c → closes_embedded (first_of rest) ≡ true
      → Grows (php v) (s.Operand 24) j c rest
  embedded_grows n below grown j c rest le st x h =
      let base : is_offset_base j ≡ true = variable_offset (role_of j) ((and_parts (is_variable_expression j) (begins_with_variable (node j c none)) st).0) in
      any_grows n below grown j c rest le (base_expression j base) (inl (low_level 24 (level v (j, c)) (base_level v j c base))) x
      (inl (embedded_closes (first_of rest) h))

  at_places : (n : ℕ) → Below v n → Grown v n → (p : Place) (sort : Sort) (j : NodeKind) (c : Forest)
      (rest : List Token) → suits p sort ≡ true → count c ≤ n → may_stand v p (j, c) ≡ true → IsNode v j c
      → Stopped v sort (j, c) rest → Spells (php v) sort (j, c) rest
  at_places n below grown Statement s.Statement j c rest su le st x h = (statement_grows v n below j c rest le st x h, refl)
  at_places n below grown Member s.Member j c rest su le st x h = (member_grows v n below j c rest le st x, refl)
  at_places n below grown (Operand a) (s.Operand m) j c rest su le st x h =
      subst (λ (z : ℕ). Spells (php v) (s.Operand z) (j, c) rest) (eqb-true a m su)
      (operand_read n below grown a j c rest le st x
      (subst (λ (z : ℕ). Ends v z (j, c) (first_of rest)) (sym (eqb-true a m su)) h))
  at_places n below grown (Operand a) s.Entry j c rest su le st x h =
      operand_entry n below grown j c rest le
      (subst (λ (z : ℕ). may_stand v (Operand z) (j, c) ≡ true) (eqb-true a 24 su) st) x h
  at_places n below grown Target s.Place j c rest su le st x h = places_read v j c rest (target_grows n below grown j c rest le st x h) st x h
  at_places n below grown TargetOrList s.Entry j c rest su le st x h =
      elim h [
        | inl q ↦ entry_read n below grown j c rest le q.1 x q.0
        | inr q
            ↦ key_read n below grown j c rest le q.1 (target_level j c st q.1) x q.0 q.2
      ]
  at_places n below grown TargetOrList s.Target j c rest su le st x h = target_read n below grown j c rest le st x h
  at_places n below grown ClassName s.ClassRef j c rest su le st x h = made.refs n below j c rest le st x h
  at_places n below grown Embedded s.Embedded j c rest su le st x h = embedded_read v j c rest (embedded_grows n below grown j c rest le st x h) st x h
  at_places n below grown p sort j c rest su le st x h = absurd (false_true su)

  at_kinds : (n : ℕ) → Below v n → (j : NodeKind) (sort : Sort) (c : Forest) (rest : List Token)
      → reads_kind j sort ≡ true → count c ≤ n → IsNode v j c → Stopped v sort (j, c) rest
      → Spells (php v) sort (j, c) rest
  at_kinds n below k.Block s.Block c rest su le x h = (body_grows v n below c rest le x h, refl)
  at_kinds n below k.Case s.Case c rest su le x h = (case_grows v n below c rest le x h, refl)
  at_kinds n below k.Param s.Param c rest su le x h = (param_grows v n below c rest le x h, refl)
  at_kinds n below k.TypeName s.TypeName c rest su le x h = (type_grows v n below c rest le x h, refl)
  at_kinds n below k.Args s.Args c rest su le x h = (args_grow v n below c rest x le h, refl)
  at_kinds n below k.Item s.Item c rest su le x h = (items_grow v n below c rest x le h, refl)
  at_kinds n below k.Variable s.SimpleVariable c rest su le x h = (simple_variables_grow v n below c rest x le, refl)
  at_kinds n below j sort c rest su le x h = absurd (false_true su)

  -- all nodes with fewer nodes are read, and grow
  mutual
    all_below : (n : ℕ) → Below v n
    all_below zero = record { placed = λ p sort j c rest su lt st x h. absurd (none_fewer (count c) lt); kinded = λ j sort c rest su lt x h. absurd (none_fewer (count c) lt) }
    all_below (suc n) = record {
      placed = λ p sort j c rest su lt st x h. at_places n (all_below n) (all_grown n) p
          sort j c rest su (fewer (count c) n lt) st x h;
      kinded =
          λ j sort c rest su lt x h. at_kinds n (all_below n) j sort c rest su (fewer (count c) n lt) x h;
    }

    all_grown : (n : ℕ) → Grown v n
    all_grown zero = record { operand = λ m j c rest lt e fl x h. absurd (none_fewer (count c) lt) }
    all_grown (suc n) = record { operand = λ m j c rest lt e fl x h. grows n (all_below n) (all_grown n) m j c rest (fewer (count c) n lt) e fl x h }

  -- An expression that has the shape is read as it was.
  pub expressions_are_read : (d : ℕ) (x : Tree) → IsExpression v x → depth x.1 < d → IsRead v d (leaves x.1) x
  expressions_are_read d x e lt = record {
    spells = operand_read (count x.1) (all_below (count x.1)) (all_grown (count x.1)) 24 x.0 x.1 [] (self_le (count x.1)) e.stands e.shaped (inl refl);
    text = sym (append-nil (leaves x.1));
    low = lt;
  }

  -- A file that has the shape is read as it was.
  pub files_are_read : (f : File) → Shape v f → depth f.statements ≤ bound v → ReadsFile v (file_leaves f) f
  files_are_read f e le = record {
    walks = file_walks v (count f.statements) (all_below (count f.statements)) f.statements (f.end ∷ []) e.shaped (self_le (count f.statements)) (end_class f.end e.ends);
    text = refl;
    ends = e.ends;
    low = le;
  }
