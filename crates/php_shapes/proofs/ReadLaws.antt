-- What has the shape is read, and its leaves determine it.
use Rattle.std.proofs.Common.{◌≡◌, ℕ, suc, ◌<◌, ◌≤◌, max, List, [], Some, sym, ap, ◌∙◌, subst, arith}
use Rattle.php_tree.specs.declared.token.Token.{Token}
use Rattle.php_tree.specs.declared.version.Version.{Version}
use Rattle.php_tree.specs.Tree.{File, Tree, depth, file_leaves, leaves}
use Rattle.php_forms.specs.declared.item.Sort.TheVariants.{Operand}
use Rattle.php_grammar.specs.Tables.{php}
use Rattle.php_grammar.proofs.Ranks.{rank, php_ranked}
use Rattle.php_exprs.specs.Expr.{IsExpression as IsRead}
use Rattle.php_exprs.specs.Parsing.{parse}
use Rattle.php_exprs.proofs.Complete.{parse_complete}
use Rattle.php_exprs.proofs.Forests.{some_is}
use Rattle.php_parser.specs.Files.{ReadsFile, bound}
use Rattle.php_parser.proofs.Files.{one_tree}
use Rattle.php_shapes.specs.Shapes.{IsExpression, Shape}
use Rattle.php_shapes.proofs.ReadAll.{Created, expressions_are_read, files_are_read}
use Rattle.php_shapes.proofs.ReadClassNames.{class_refs_read}
use Rattle.php_shapes.proofs.ReadNew.{instances_grow, news_grow}

made : (v : Version) → Created v
made v = record { news = news_grow v; instances = instances_grow v; refs = class_refs_read v }

pub expression_is_read : (v : Version) (d : ℕ) (x : Tree) → IsExpression v x → depth x.1 < d → IsRead v d (leaves x.1) x
expression_is_read v d x = expressions_are_read v (made v) d x

pub file_is_read : (v : Version) (f : File) → Shape v f → depth f.statements ≤ bound v → ReadsFile v (file_leaves f) f
file_is_read v f = files_are_read v (made v) f

pub one_file : (v : Version) (f g : File) → Shape v f → Shape v g → depth f.statements ≤ bound v → depth g.statements ≤ bound v → file_leaves f ≡ file_leaves g → f ≡ g
one_file v f g x y a b e = one_tree v (file_leaves g) f g (subst (λ (ts : List Token). ReadsFile v ts f) e (file_is_read v f x a)) (file_is_read v g y b)

left_low : (a b : ℕ) → a < suc (max a b)
left_low a b = omega arith

right_low : (a b : ℕ) → b < suc (max a b)
right_low a b = omega arith

parsed : (v : Version) (d : ℕ) (x : Tree) → IsRead v d (leaves x.1) x → parse (php v) 7 d (Operand 24) (leaves x.1) ≡ Some (x, [])
parsed v d x p = ap (parse (php v) 7 d (Operand 24)) p.text ∙ parse_complete (php v) 7 rank (php_ranked v) d (Operand 24) x.0 x.1 [] p.spells.0 p.spells.1 p.low

pub one_expression : (v : Version) (x y : Tree) → IsExpression v x → IsExpression v y → leaves x.1 ≡ leaves y.1 → x ≡ y
one_expression v x y p q e =
    let d : ℕ = suc (max (depth x.1) (depth y.1)) in
    let a : parse (php v) 7 d (Operand 24) (leaves x.1) ≡ Some (x, []) = parsed v d x (expression_is_read v d x p (left_low (depth x.1) (depth y.1))) in
    let b : parse (php v) 7 d (Operand 24) (leaves y.1) ≡ Some (y, []) = parsed v d y (expression_is_read v d y q (right_low (depth x.1) (depth y.1))) in
    ap (λ (z : Tree × List Token). z.0) (some_is (x, []) (y, []) (sym a ∙ ap (parse (php v) 7 d (Operand 24)) e ∙ b))
