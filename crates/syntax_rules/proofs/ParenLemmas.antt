-- A rewritten forest is the source's with some nodes in parentheses.
use Rattle.std.proofs.Common.{ℕ, suc, ◌+◌, true, false, cond, IsTrue, List, [], ◌∷◌, map, Option, None, Some, refl, sym, subst}
use Rattle.php_tree.specs.declared.kind.NodeKind.{NodeKind}
use Rattle.php_tree.specs.declared.kind.NodeKind.TheVariants.{Ternary, ShortTernary}
use Rattle.php_tree.specs.Tree.{Forest, none, leaf, node, Tree, File, alone, ◌+++◌, leaves, count}
use Rattle.php_tree.specs.Places.{placed, behind, end_of}
use Rattle.tracked_changes.specs.patches.Patches.{Wrapping, InParens}
use Rattle.tracked_changes.specs.patches.Rewritten.{has_none, without_lead, wrapped}
use Rattle.php_meaning.specs.runs.World.{Bytes}
use Rattle.php_meaning.specs.laws.Laws.{Parenthesized, ends, token, inner, parens, AreParenthesized, no_files, file}
use Rattle.php_meaning.proofs.Parens.{parens_keep_meaning}
use Rattle.php_meaning.specs.runs.Kinds.{is_expression}
use Rattle.syntax_rules.specs.NestedTernary.{around, program, all_grouped, GroupingKeepsMeaning}
use Rattle.syntax_rules.proofs.Regrouped.{regrouped, rewritten_is}

-- trivia don't count
leadless : (f : Forest) {g : Forest} → Parenthesized f g → Parenthesized f (without_lead g)
leadless f ends = ends
leadless f (token k e d) = token k e d
leadless f (inner {k} {c} {d} {f = h} {g} p q) =
    elim (has_none (leaves d)) as (λ b. Parenthesized (node k c h) (cond b (node k d (without_lead g)) (node k (without_lead d) g)))
    [ true ↦ inner p (leadless h q) | false ↦ inner (leadless c p) q ]
leadless f (parens h p q) = parens h p q

-- nor do places
placed_same : (at : ℕ) {f g : Forest} → Parenthesized f g → Parenthesized f (placed at g)
placed_same at ends = ends
placed_same at (token {u} k e d) = token k e (placed_same (behind at u) d)
placed_same at (inner {d} p q) = inner (placed_same at p) (placed_same (end_of at d) q)
placed_same at (parens {o} h p q) = parens h (placed_same (behind at o) p) (placed_same _ q)

bare_node : (k : NodeKind) (c : Forest) {j : NodeKind} {d : Forest} → Parenthesized (node k c none) (node j d none) → Parenthesized (node k c none) (node j (without_lead d) none)
bare_node k c (inner p q) = inner (leadless c p) q
bare_node k c (parens h p q) = parens h p q

-- where something is put round a node, it is an expression
abbrev pub MayWrap : List Wrapping → NodeKind → Type 0
MayWrap [] k = Unit {0}
MayWrap (w ∷ ws) k = IsTrue (is_expression k)

pub around_expressions : (outer : Option NodeKind) (k : NodeKind) → MayWrap (around outer k) k
around_expressions None k = tt
around_expressions (Some Ternary) Ternary = refl
around_expressions (Some Ternary) ShortTernary = refl
around_expressions (Some ShortTernary) Ternary = refl
around_expressions (Some ShortTernary) ShortTernary = tt
around_expressions (Some Ternary) k = tt
around_expressions (Some ShortTernary) k = tt
around_expressions (Some o) k = tt

-- a node in its wrappings
wrapped_same : (ws : List Wrapping) (k : NodeKind) (c : Forest) (t : Tree) → MayWrap ws k → Parenthesized (node k c none) (node t.0 t.1 none)
    → {f g : Forest} → Parenthesized f g → Parenthesized (node k c f) (alone (wrapped ws t) +++ g)
wrapped_same [] k c t e (inner p q) r = inner p r
wrapped_same [] k c t e (parens h p q) r = parens h p r
wrapped_same (InParens ∷ ws) k c t e p r = parens e (bare_node k c (wrapped_same ws k c t (inside ws e) p ends)) r
  where
    inside : (ws : List Wrapping) → IsTrue (is_expression k) → MayWrap ws k
    inside [] h = tt
    inside (w ∷ ws) h = h

regrouped_same : (outer : Option NodeKind) (f : Forest) → Parenthesized f (regrouped outer f)
regrouped_same outer none = ends
regrouped_same outer (leaf t f) = token refl refl (regrouped_same None f)
regrouped_same outer (node k c f) =
    wrapped_same (around outer k) k c (k, regrouped (Some k) c) (around_expressions outer k) (inner (regrouped_same (Some k) c) ends)
    (regrouped_same None f)

files_same : (files : List (Bytes × File)) → AreParenthesized (map (λ f. (f.0, f.1.statements)) files) (map (λ f. (f.0, f.1.statements)) (all_grouped files))
files_same [] = no_files
files_same (f ∷ fs) =
    file (placed_same 0 (subst (λ g. Parenthesized f.1.statements g) (sym (rewritten_is f.1.statements)) (regrouped_same None f.1.statements)))
    (files_same fs)

pub grouping_keeps_meaning : GroupingKeepsMeaning
grouping_keeps_meaning files prepend marks =
    parens_keep_meaning (program files prepend) (program (all_grouped files) prepend) marks (files_same files) refl
