-- Statements one after another, beside the parser on lists.
use Rattle.std.proofs.Common.{◌≡◌, ℕ, ◌+◌, ◌<◌, ◌≤◌, List, [], ◌∷◌, ◌++◌, length, drop, Option, Some, None, Result, Ok, Err, refl, sym, ap, ◌∙◌, subst, arith}
use Rattle.std.specs.Prelude.{IfOk}
use Rattle.php_tree.specs.declared.token.Token.{Token}
use Rattle.php_tree.specs.declared.version.Version.{Version}
use Rattle.php_tree.specs.Tree.{Forest, Tree, none, leaf, node, ◌+++◌, leaves, depth}
use Rattle.php_terminals.specs.declared.terminal.Terminal.{Terminal}
use Rattle.php_terminals.specs.declared.terminal.Terminal.TheVariants as t
use Rattle.php_forms.specs.declared.item.Sort.{Sort}
use Rattle.php_forms.specs.declared.item.Sort.TheVariants as s
use Rattle.php_forms.specs.declared.item.Group.TheVariants.{Statements}
use Rattle.php_forms.specs.declared.item.Item.TheVariants.{Node, Repeats}
use Rattle.php_terminals.specs.Ahead.{first_of}
use Rattle.php_forms.specs.Grammar.{Tables, Walks, ends}
use Rattle.php_forms.specs.Statements.{statements}
use Rattle.php_grammar.specs.Tables.{php, parts}
use Rattle.php_grammar.proofs.Ranks.{rank, php_ranked}
use Rattle.php_exprs.specs.declared.fault.ParseFault.{ParseFault}
use Rattle.php_exprs.specs.declared.fault.ParseFault.TheVariants.{NotInGrammar, Memory}
use Rattle.php_exprs.specs.Parsing.{◌>>=◌, Read, Steps, items_at, repeats_at, walk, under, parse}
use Rattle.php_exprs.specs.Parsed.{Extends, node_at, inner_at, parts_at, repeated_at}
use Rattle.php_rows.specs.declared.row.Row.{Row}
use Rattle.php_rows.specs.Flatten.{flatten}
use Rattle.php_rows.specs.Rows.{Grew, IsRowOf}
use Rattle.php_exprs.specs.Built.{Added, State, behind}
use Rattle.php_exprs.specs.Reading.{ReadsStatements, IsListed, AnswersStatements}
use Rattle.php_exprs.proofs.Forests.{append_none, some_is}
use Rattle.php_exprs.proofs.Sound.{Took, parse_sound, walk_sound}
use Rattle.php_exprs.proofs.Complete.{parse_complete, walk_reads, walk_is}
use Rattle.php_exprs.proofs.Steps.{inner_is, to_part}

-- a repeat of statements is one statement
pub statement_items : (x : Terminal) → 0 < length (statements x) → statements x ≡ Node s.Statement ∷ []
statement_items t.CloseBrace lt = absurd (omega arith)
statement_items t.End lt = absurd (omega arith)
statement_items t.Case lt = absurd (omega arith)
statement_items t.Default lt = absurd (omega arith)
statement_items t.Else lt = absurd (omega arith)
statement_items t.ElseIf lt = absurd (omega arith)
statement_items t.EndDeclare lt = absurd (omega arith)
statement_items t.EndFor lt = absurd (omega arith)
statement_items t.EndForeach lt = absurd (omega arith)
statement_items t.EndIf lt = absurd (omega arith)
statement_items t.EndSwitch lt = absurd (omega arith)
statement_items t.EndWhile lt = absurd (omega arith)
statement_items _ lt = refl

abbrev nothing_more : List Token → Read Forest
nothing_more ts = Some (none, ts)

abbrev alone_then : Forest × List Token → Tree → Read Forest
alone_then f x = Some (node x.0 x.1 f.0, f.1)

abbrev single : Tree × List Token → Read Forest
single x = nothing_more x.1 >>= λ f. alone_then f x.0

one_node : (T : Tables) (d n : ℕ) (o : Sort) (ts : List Token) → parts_at T d n (Node o ∷ []) ts ≡ (node_at T d o ts >>= to_part)
unfolding parts_at
one_node T d n o ts = go (node_at T d o ts)
  where
    go : (r : Read Tree) → (r >>= single) ≡ (r >>= to_part)
    go None = refl
    go (Some x) = refl

pub one_statement : (v : Version) (d : ℕ) (ts : List Token) → 0 < length (parts v Statements ts)
    → inner_at (php v) d 7 (parts v Statements ts) ts ≡ (node_at (php v) d s.Statement ts >>= to_part)
one_statement v d ts has =
    ap (λ is. inner_at (php v) d 7 is ts) (statement_items (first_of ts) has)
    ∙ inner_is (php v) d 7 6 (Node s.Statement ∷ []) ts (omega arith) ∙ one_node (php v) d 6 s.Statement ts

-- the statements of the parser on lists, as items
as_items : (v : Version) (d : ℕ) (ts : List Token) → walk (php v) (parse (php v) 7 d) 7 (Repeats Statements ∷ []) ts ≡
    (repeated_at (php v) d 7 (length ts) Statements ts >>= λ h. Some (h.0 +++ none, h.1))
unfolding repeated_at inner_at node_at
as_items v d ts = ap (λ (st : Steps). st (Repeats Statements ∷ []) ts) (walk_is (php v) (parse (php v) 7 d) 7)

take_none : (r : Read Forest) (y : Forest × List Token) → r ≡ Some y → (r >>= λ h. Some (h.0 +++ none, h.1)) ≡ Some y
take_none r y e = ap (λ (o : Read Forest). o >>= λ h. Some (h.0 +++ none, h.1)) e ∙ ap (λ (f : Forest). read f y.1) (append_none y.0)
  where
    read : Forest → List Token → Read Forest
    read f ts = Some (f, ts)

drop_none : (r : Read Forest) (y : Forest × List Token) → (r >>= λ h. Some (h.0 +++ none, h.1)) ≡ Some y → r ≡ Some y
drop_none None y e = absurd cc
drop_none (Some x) y e = ap (λ (f : Forest). read f x.1) (sym (append_none x.0)) ∙ e
  where
    read : Forest → List Token → Read Forest
    read f ts = Some (f, ts)

-- the row of a file's statements
listed : (v : Version) (all : List Token) (old new : State) (f : Forest) (rest : List Token) → old.0.nodes.items ≡ []
    → old.0.at ≡ 0 → old.1.deep ≡ 0 → Added v all old new f → behind all new.0 ≡ rest
    → IsListed all new.0 new.1.deep f rest
listed v all old new f rest n at d a e =
    let deep = a.deep in
    record {
      made = a.grew.nodes ∙ rw (n, at) refl;
      depth_is = omega arith;
      left = e;
    }

-- nothing was read
pub record IsFirst (old : State) : Type 0 where
  pub nodes : old.0.nodes.items ≡ []
  pub at : old.0.at ≡ 0
  pub deep : old.1.deep ≡ 0

abbrev Listed : Version → ℕ → List Token → State → Type 0
Listed v d all new = (f : Forest) × ((rest : List Token) × ReadsStatements v d all f rest × IsListed all new.0 new.1.deep f rest)

pub statements_found : (v : Version) (d : ℕ) (all : List Token) (old new : State) → IsFirst old
    → Extends (Ok tt) v all old new d (repeated_at (php v) d 7 (length (behind all old.0)) Statements
    (behind all old.0)) → Listed v d all new
statements_found v d all old new o g = go (repeated_at (php v) d 7 (length (behind all old.0)) Statements (behind all old.0)) refl g
  where
    whole : behind all old.0 ≡ all
    whole = ap (λ (n : ℕ). drop n all) o.at

    go : (r : Read Forest) → repeated_at (php v) d 7 (length (behind all old.0)) Statements (behind all old.0) ≡ r → Extends (Ok tt) v all old new d r → Listed v d all new
    go None e g = absurd g
    go (Some y) e g =
        let same : repeated_at (php v) d 7 (length all) Statements all ≡ Some y = ap (λ (ts : List Token). repeated_at (php v) d 7 (length ts) Statements ts) (sym whole) ∙ e in
        let w = walk_sound (php v) d (parse (php v) 7 d) (parse_sound (php v) 7 d) 7 (Repeats Statements ∷ []) all y
        (as_items v d all ∙ take_none (repeated_at (php v) d 7 (length all) Statements all) y same) in
        (y.0, (y.1, record { walks = w.walks; text = w.text; low = w.low }, listed v all old new y.0 y.1 o.nodes o.at o.deep g.0 g.1))

pub repeated_is : (v : Version) (d : ℕ) (ts : List Token) (f : Forest) (rest : List Token)
    → ReadsStatements v d ts f rest → repeated_at (php v) d 7 (length ts) Statements ts ≡ Some (f, rest)
repeated_is v d ts f rest p =
    let w = walk_reads (php v) 7 rank (php_ranked v) d (parse (php v) 7 d) (parse_complete (php v) 7 rank (php_ranked v) d) 7 p.walks (omega arith, tt) p.low in
    drop_none (repeated_at (php v) d 7 (length ts) Statements ts) (f, rest)
    (sym (as_items v d ts) ∙ ap (walk (php v) (parse (php v) 7 d) 7 (Repeats Statements ∷ [])) p.text ∙ w)

pub statements_only : (v : Version) (d : ℕ) (all : List Token) (old new : State) → IsFirst old
    → Extends (Ok tt) v all old new d (repeated_at (php v) d 7 (length (behind all old.0)) Statements
    (behind all old.0)) → (f : Forest) (rest : List Token) → ReadsStatements v d all f rest
    → IsListed all new.0 new.1.deep f rest
statements_only v d all old new o g f rest p =
    let l = statements_found v d all old new o g in
    let one = repeated_is v d all l.0 l.1.0 l.1.1 in
    let other = repeated_is v d all f rest p in
    let same = some_is (l.0, l.1.0) (f, rest) (sym one ∙ other) in
    let P : Forest × List Token → Type 0 = λ y. IsListed all new.0 new.1.deep y.0 y.1 in
    subst P same l.1.2

pub statements_none : (v : Version) (d : ℕ) (all : List Token) (old new : State) → IsFirst old → (e : ParseFault)
    → Extends (Err e) v all old new d (repeated_at (php v) d 7 (length (behind all old.0)) Statements
    (behind all old.0)) → (f : Forest) (rest : List Token) → ReadsStatements v d all f rest
    → AnswersStatements (Err e) all f rest
statements_none v d all old new o Memory g f rest p = tt
statements_none v d all old new o NotInGrammar g f rest p =
    let whole : behind all old.0 ≡ all = ap (λ (n : ℕ). drop n all) o.at in
    let e = sym (repeated_is v d all f rest p) ∙ ap (λ (ts : List Token). repeated_at (php v) d 7 (length ts) Statements ts) (sym whole) ∙ g in
    absurd cc
