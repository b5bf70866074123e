-- Files as statements and an end.
use Rattle.std.proofs.lemmas.List.{length-append}
use Rattle.std.proofs.Math.Seq.{take-append_seam, get_or-append_seam}
use Rattle.php_tree.specs.Places.{ArePlaced}
use Rattle.php_rows.specs.Nodes.{with_tokens}
use Rattle.php_rows.proofs.Pushed.{with_own}
use Rattle.std.proofs.Common.{◌≡◌, ℕ, ◌+◌, ◌-◌, get_or, take, arith, List, [], ◌∷◌, ◌++◌, Some, length, map, Result, Ok, Err, refl, sym, ap, ◌∙◌, subst, true, false}
use Rattle.php_tree.specs.declared.token.Token.{Token}
use Rattle.php_tree.specs.declared.node.Node.{Node}
use Rattle.php_tree.specs.declared.version.Version.{Version}
use Rattle.php_tree.specs.Tree.{File, Forest, depth, leaves, file_leaves, nodes_forest}
use Rattle.php_forms.specs.declared.item.Group.TheVariants.{Statements}
use Rattle.php_forms.specs.declared.item.Item.TheVariants.{Repeats}
use Rattle.php_forms.specs.Grammar.{Walks}
use Rattle.php_grammar.specs.Tables.{php}
use Rattle.php_exprs.specs.Reading.{AnswersStatements, IsListed, ReadsStatements}
use Rattle.php_exprs.proofs.Forests.{some_is}
use Rattle.php_exprs.proofs.StatementLemmas.{repeated_is}
use Rattle.php_exprs.specs.Parsing.{Read}
use Rattle.php_exprs.specs.declared.fault.ParseFault.{ParseFault}
use Rattle.php_exprs.specs.declared.fault.ParseFault.TheVariants.{NotInGrammar, Memory}
use Rattle.php_exprs.specs.Built.{behind}
use Rattle.php_rows.specs.declared.row.Row.{Row}
use Rattle.php_rows.specs.Rows.{IsWhole}
use Rattle.php_parser.specs.Ends.{is_end}
use Rattle.php_parser.specs.Files.{Answers, AnswersRow, AnswersWhole, ReadsFile, bound, ends_file}

-- a file of statements and an end
abbrev pub file_of : Forest → Token → File
file_of f t = record { statements = f; end = t }

-- the statements of a file, before its end
pub as_statements : (v : Version) (tokens : List Token) (f : File) → ReadsFile v tokens f → ReadsStatements v (bound v) tokens f.statements (f.end ∷ [])
as_statements v tokens f p = record { walks = p.walks; text = p.text; low = p.low }

first_is : (t u : Token) (ts us : List Token) → t ∷ ts ≡ u ∷ us → t ≡ u
first_is t u ts us e = cc

pub one_tree : (v : Version) (tokens : List Token) (f g : File) → ReadsFile v tokens f → ReadsFile v tokens g → f ≡ g
one_tree v tokens f g p q =
    let same = some_is (f.statements, f.end ∷ []) (g.statements, g.end ∷ [])
    (sym (repeated_is v (bound v) tokens f.statements (f.end ∷ []) (as_statements v tokens f p))
    ∙ repeated_is v (bound v) tokens g.statements (g.end ∷ []) (as_statements v tokens g q)) in
    let statements : f.statements ≡ g.statements = ap (λ (x : Forest × List Token). x.0) same in
    let ends : f.end ≡ g.end = first_is f.end g.end [] [] (ap (λ (x : Forest × List Token). x.1) same) in
    ap (λ (x : Forest). file_of x f.end) statements ∙ ap (file_of g.statements) ends

-- ---- rows of statements

last_alone : (ts : List Token) → ends_file ts ≡ true → (t : Token) × ((ts ≡ t ∷ []) × (is_end t.kind ≡ true))
last_alone [] e = absurd cc
last_alone (t ∷ []) e = (t, (refl, e))
last_alone (t ∷ u ∷ ts) e = absurd cc

abbrev pub WholeFile : Version → List Token → Row → ℕ → Type 0
WholeFile v ts row deep = (f : File) × (ReadsFile v ts f × IsWhole ts row deep f.statements f.end)

pub file_found : (v : Version) (ts : List Token) (row : Row) (deep : ℕ) (f : Forest) (rest : List Token)
    → ReadsStatements v (bound v) ts f rest → IsListed ts row deep f rest → ends_file (behind ts row) ≡ true
    → WholeFile v ts row deep
file_found v ts row deep f rest r l e =
    let t = last_alone (behind ts row) e in
    let is : rest ≡ t.0 ∷ [] = sym l.left ∙ t.1.0 in
    let text : ts ≡ leaves f ++ t.0 ∷ [] = r.text ∙ ap (λ (us : List Token). leaves f ++ us) is in
    let reads : ReadsFile v ts (file_of f t.0) = record {
      walks = subst (λ (us : List Token). Walks (php v) (Repeats Statements ∷ []) f us) is r.walks;
      text = text;
      ends = t.1.1;
      low = r.low;
    } in
    (file_of f t.0, (reads, record { nodes = l.made; text = text; deep = l.depth_is }))

pub whole_only : (v : Version) (ts : List Token) (row : Row) (deep : ℕ) (f : File) → ReadsFile v ts f
    → IsListed ts row deep f.statements (f.end ∷ []) → IsWhole ts row deep f.statements f.end
whole_only v ts row deep f p l = record { nodes = l.made; text = p.text; deep = l.depth_is }

pub not_ended : (v : Version) (ts : List Token) (row : Row) (deep : ℕ) (f : File) → ReadsFile v ts f
    → IsListed ts row deep f.statements (f.end ∷ []) → ends_file (behind ts row) ≡ false → ⊥
not_ended v ts row deep f p l e = let x : true ≡ false = sym p.ends ∙ ap ends_file (sym l.left) ∙ e in absurd cc

pub none_answers : (v : Version) (ts : List Token) (e : ParseFault) (f : File) → AnswersStatements (Err e) ts f.statements (f.end ∷ []) → AnswersWhole (Err e) ts f
none_answers v ts NotInGrammar f a = a
none_answers v ts Memory f a = tt

pub row_answers : (ts : List Token) (e : ParseFault) (f : File) → AnswersWhole (Err e) ts f → AnswersRow (Err e) f
row_answers ts NotInGrammar f a = a
row_answers ts Memory f a = tt

pub tree_answers : (e : ParseFault) (f : File) → AnswersRow (Err e) f → Answers (Err e) f
tree_answers NotInGrammar f a = a
tree_answers Memory f a = tt

-- ---- the tokens at some places

pub whole_for : (v : Version) (us ts : List Token) (row : Row) (deep : ℕ) → us ≡ ts → WholeFile v us row deep → WholeFile v ts row deep
whole_for v us ts row deep e w = subst (λ (xs : List Token). WholeFile v xs row deep) e w

pub is_whole_for : (us ts : List Token) (row : Row) (deep : ℕ) (f : File) → us ≡ ts → IsWhole us row deep f.statements f.end → IsWhole ts row deep f.statements f.end
is_whole_for us ts row deep f e w = subst (λ (xs : List Token). IsWhole xs row deep f.statements f.end) e w

pub reads_for : (v : Version) (us ts : List Token) (f : File) → us ≡ ts → ReadsFile v ts f → ReadsFile v us f
reads_for v us ts f e p = subst (λ (xs : List Token). ReadsFile v xs f) (sym e) p

-- ---- the file of a row

file_front : (ts : List Token) (f : File) → ts ≡ file_leaves f → take (length ts - 1) ts ≡ leaves f.statements
file_front ts f e =
    let n : length ts - 1 ≡ length (leaves f.statements) = let l = ap length e in let m = length-append (leaves f.statements) (f.end ∷ []) in omega arith in
    rw n (ap (take (length (leaves f.statements))) e ∙ take-append_seam (leaves f.statements) (f.end ∷ []))

pub file_long : (ts : List Token) (f : File) → ts ≡ file_leaves f → length ts ≡ length (leaves f.statements) + 1
file_long ts f e = let l = ap length e in let m = length-append (leaves f.statements) (f.end ∷ []) in omega arith

pub front_is : (ts front : List Token) (n : ℕ) (f : File) → ts ≡ file_leaves f → n ≡ length ts - 1 → front ≡ take n ts → front ≡ leaves f.statements
front_is ts front n f e l t = t ∙ ap (λ (m : ℕ). take m ts) l ∙ file_front ts f e

pub last_is : (ts : List Token) (n : ℕ) (f : File) (x : Token) → ts ≡ file_leaves f → n ≡ length ts - 1 → x ≡ get_or ts n x → x ≡ f.end
last_is ts n f x e l g =
    let m : n ≡ length (leaves f.statements) = let a = file_long ts f e in omega arith in
    g ∙ rw (m, e) (get_or-append_seam (leaves f.statements) f.end [] x)

pub statements_are : (f : File) (front : List Token) (g : Forest) → front ≡ leaves f.statements → g ≡ with_tokens f.statements front → g ≡ f.statements
statements_are f front g e w = w ∙ ap (with_tokens f.statements) e ∙ with_own f.statements

pub same_file : (f : File) (g : Forest) (t : Token) → g ≡ f.statements → t ≡ f.end → file_of g t ≡ f
same_file f g t e p = ap (λ (x : Forest). file_of x t) e ∙ ap (file_of f.statements) p

pub placed_for : (ts us : List Token) → ts ≡ us → ArePlaced 0 ts → ArePlaced 0 us
placed_for ts us e p = subst (λ (xs : List Token). ArePlaced 0 xs) e p
