-- The parser reads exactly what is spelled.
use Rattle.std.proofs.Common.{◌≡◌, ℕ, ◌+◌, ◌<◌, List, [], ◌∷◌, ◌++◌, Option, Some, None, Result, Ok, Err, refl, sym, ap, ◌∙◌, subst, arith}
use Rattle.std.specs.Prelude.{IfOk}
use Rattle.php_tree.specs.declared.token.Token.{Token}
use Rattle.php_rows.specs.declared.row.Row.{Row}
use Rattle.php_rows.specs.Rows.{Grew}
use Rattle.php_exprs.specs.declared.build.Closed.{Closed}
use Rattle.php_exprs.specs.Built.{AddedNode, IsClosed, behind}
use Rattle.php_tree.specs.Tree.{Tree, alone, leaves, depth}
use Rattle.php_tree.specs.declared.version.Version.{Version}
use Rattle.php_forms.specs.declared.item.Sort.{Sort}
use Rattle.php_exprs.specs.declared.fault.ParseFault.{ParseFault}
use Rattle.php_exprs.specs.declared.fault.ParseFault.TheVariants.{NotInGrammar, Memory}
use Rattle.php_forms.specs.Grammar.{Spells}
use Rattle.php_exprs.specs.Parsing.{Read, parse}
use Rattle.php_grammar.specs.Tables.{php}
use Rattle.php_exprs.specs.Parsed.{GivesTree, node_at}
use Rattle.php_exprs.specs.Reading.{Reads, ReadsNode, Answers}
use Rattle.php_exprs.proofs.Forests.{some_is}
use Rattle.php_exprs.proofs.Sound.{parse_sound}
use Rattle.php_exprs.proofs.Complete.{parse_complete, read}
use Rattle.php_grammar.proofs.Ranks.{rank, php_ranked}

is_read : (v : Version) (s : Sort) (d : ℕ) (all : List Token) (old new : Row) (c : Closed)
    → GivesTree (Ok c) v all old new d (node_at (php v) d s (behind all old)) → (t : Tree)
    × ReadsNode v s d all old new c t
unfolding node_at
is_read v s d all old new c g = go (parse (php v) 7 d s (behind all old)) refl g
  where
    go : (r : Read Tree) → parse (php v) 7 d s (behind all old) ≡ r → GivesTree (Ok c) v all old new d r → (t : Tree) × ReadsNode v s d all old new c t
    go None e g = absurd g
    go (Some y) e g =
        let p = parse_sound (php v) 7 d s (behind all old) y e in
        let P : List Token → Type 0 = λ rest. Reads v s d (behind all old) y.0 rest in
        (y.0, record { reads = subst P (sym g.2) (record { spells = p.spells; text = p.text; low = p.low }); added = g.0; told = g.1 })

pub only_read : (v : Version) (s : Sort) (d : ℕ) (all : List Token) (old new : Row) (r : Result Closed ParseFault)
    → GivesTree r v all old new d (node_at (php v) d s (behind all old)) → (t : Tree) (rest : List Token)
    → Reads v s d (behind all old) t rest → Answers r all old new t rest
unfolding node_at
only_read v s d all old new (Err Memory) g t rest p = tt
only_read v s d all old new (Err NotInGrammar) g t rest p =
    let c = parse_complete (php v) 7 rank (php_ranked v) d s t.0 t.1 rest p.spells.0 p.spells.1 p.low in
    let e : read t rest ≡ None = sym c ∙ ap (parse (php v) 7 d s) (sym p.text) ∙ g in
    absurd cc
only_read v s d all old new (Ok x) g t rest p = go (parse (php v) 7 d s (behind all old)) refl g
  where
    go : (o : Read Tree) → parse (php v) 7 d s (behind all old) ≡ o → GivesTree (Ok x) v all old new d o → Answers (Ok x) all old new t rest
    go None e g = absurd g
    go (Some y) e g =
        let c = parse_complete (php v) 7 rank (php_ranked v) d s t.0 t.1 rest p.spells.0 p.spells.1 p.low in
        let same = some_is y (t, rest) (sym e ∙ ap (parse (php v) 7 d s) p.text ∙ c) in
        let P : Tree → Type 0 = λ u. Grew old new (alone u) in
        (subst P (ap (λ (y : Tree × List Token). y.0) same) g.0.grew, g.2 ∙ ap (λ (y : Tree × List Token). y.1) same)

pub found_from : (v : Version) (s : Sort) (d : ℕ) (all : List Token) (old new : Row) (r : Result Closed ParseFault)
    → GivesTree r v all old new d (node_at (php v) d s (behind all old))
    → IfOk r (λ c. (t : Tree) × ReadsNode v s d all old new c t)
found_from v s d all old new (Ok c) g = is_read v s d all old new c g
found_from v s d all old new (Err e) g = tt
