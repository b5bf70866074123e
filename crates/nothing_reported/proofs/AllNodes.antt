-- Every node of a file.
use Rattle.std.proofs.Common.{◌≡◌, ℕ, zero, suc, Bool, true, false, not, ◌&&◌, if◌then◌else◌, List, [], ◌∷◌, ◌++◌, refl, sym, ◌∙◌, subst}
use Rattle.std.proofs.lemmas.Bool.{or_from}
use Rattle.php_tree.specs.declared.kind.NodeKind.{NodeKind}
use Rattle.php_tree.specs.declared.kind.NodeKind.TheVariants as kind
use Rattle.php_tree.specs.declared.version.Version.TheVariants.{V74}
use Rattle.php_tree.specs.Tree.{Forest, none, leaf, node, Tree, File, file_leaves, leaves}
use Rattle.php_lexer.specs.Lexed.{TokensOf}
use Rattle.php_reading.specs.Reading.{Reads}
use Rattle.written_reading.proofs.Sources.{sources_are_spelled}
use Rattle.nothing_reported.proofs.NoNames.{old_sources}
use Rattle.php_tree.specs.Places.{behind, end_of}
use Rattle.php_terminals.specs.declared.terminal.Terminal.{Terminal}
use Rattle.php_terminals.specs.declared.terminal.Terminal.TheVariants as t
use Rattle.php_terminals.specs.Classify.{terminal}
use Rattle.syntax_rules.specs.Casts.{is_cast}
use Rattle.syntax_rules.specs.UnsetCast.{is_undecided}
use Rattle.syntax_upgrade.specs.Found.{Report, undecided}
use Rattle.rule_tables.specs.declared.cause.Cause.TheVariants.{Shape}
use Rattle.rule_tables.specs.declared.rule.RuleId.TheVariants as rule
use Rattle.syntax_upgrade.specs.Found.{text_start}
use Rattle.syntax_upgrade.specs.NodeRule.{reports_of}
use Rattle.syntax_upgrade.specs.Reports.{at_node, reports, reports_in}
use Rattle.syntax_upgrade.specs.UnsetCast.{undecided_casts}
use Rattle.syntax_upgrade.specs.NameHeads.{head_at}
use Rattle.syntax_upgrade.specs.ReservedName as own
use Rattle.syntax_upgrade.specs.ReservedName.{Standing, at_first, class_by, of_reserved, past, past_node, refused_if, refused_tokens}
use Rattle.syntax_upgrade.specs.Enums.{enums}
use Rattle.rewritten_shapes.specs.Laws.{AreSpelled, NoneReported}
use Rattle.rewritten_shapes.specs.RefusedWords as words
use Rattle.rewritten_shapes.specs.RefusedWords.{has_refused}
use Rattle.nothing_reported.specs.Laws.{HasNoName}
use Rattle.nothing_reported.proofs.OwnWords.{none_anywhere, none_before, same_keyword, same_match}
use Rattle.nothing_reported.proofs.ClassWords.{none_in_class}
use Rattle.nothing_reported.proofs.UsedWords.{none_used}

same_colon : (x : Terminal) → words.is_double_colon x ≡ own.is_double_colon x
same_colon t.DoubleColon = refl
same_colon _ = refl

same_brace : (x : Terminal) → words.is_brace x ≡ own.is_brace x
same_brace t.OpenBrace = refl
same_brace _ = refl

-- ---- a node

no_keyword : (k : NodeKind) → ((s : Standing) (x y : Terminal) → own.refuses k s x y ≡ own.is_keyword_now x)
    → (c : Forest) (at : ℕ) → of_reserved at (k, c) ≡ [] → words.has words.is_keyword_now (words.named c) ≡ false
no_keyword k h c at e = none_anywhere k words.is_keyword_now refl refl refl (λ s x y r. same_keyword x ∙ sym (h s x y) ∙ r) c at_first at e

before_colon : (k : NodeKind) → ((s : Standing) (x y : Terminal)
    → own.refuses k s x y ≡ (own.is_keyword_now x && not (own.is_double_colon s.before))) → (c : Forest) (at : ℕ)
    → of_reserved at (k, c) ≡ []
    → words.has_before words.is_double_colon (words.named c) ≡ false
before_colon k h c at e =
    none_before k words.is_double_colon refl refl (λ s. own.is_double_colon s.before) h (λ s x o i. sym (same_colon x) ∙ i) (λ s o. refl) c at_first at refl e

none_refused : (k : NodeKind) (c : Forest) (at : ℕ) → AreSpelled c → HasNoName c → of_reserved at (k, c) ≡ [] → has_refused k c ≡ false
none_refused kind.Function c at s n e = none_anywhere kind.Function words.is_match refl refl refl (λ s x y r. same_match x ∙ r) c at_first at e
none_refused kind.Call c at s n e = none_anywhere kind.Call words.is_match refl refl refl (λ s x y r. same_match x ∙ r) c at_first at e
none_refused kind.Constant c at s n e = no_keyword kind.Constant (λ s x y. refl) c at e
none_refused kind.TypeName c at s n e = no_keyword kind.TypeName (λ s x y. refl) c at e
none_refused kind.New c at s n e = no_keyword kind.New (λ s x y. refl) c at e
none_refused kind.InstanceOf c at s n e = no_keyword kind.InstanceOf (λ s x y. refl) c at e
none_refused kind.Try c at s n e = no_keyword kind.Try (λ s x y. refl) c at e
none_refused kind.ClassConstant c at s n e = before_colon kind.ClassConstant (λ s x y. refl) c at e
none_refused kind.StaticProp c at s n e = before_colon kind.StaticProp (λ s x y. refl) c at e
none_refused kind.StaticCall c at s n e = before_colon kind.StaticCall (λ s x y. refl) c at e
none_refused kind.TraitUse c at s n e =
    none_before kind.TraitUse words.is_brace refl refl (λ s. s.in_braces) (λ s x y. refl)
    (λ s x o i. or_from s.in_braces (own.is_brace x) o (sym (same_brace x) ∙ i)) (λ s o. o) c at_first at refl e
none_refused kind.Class c at s n e = none_in_class kind.Class (λ s x y. refl) c at e
none_refused kind.Interface c at s n e = none_in_class kind.Interface (λ s x y. refl) c at e
none_refused kind.Trait c at s n e = none_in_class kind.Trait (λ s x y. refl) c at e
none_refused kind.Const c at s n e = no_keyword kind.Const (λ s x y. refl) c at e
none_refused kind.Use c at s n e = none_used c at s n e
none_refused kind.Goto c at s n e = no_keyword kind.Goto (λ s x y. refl) c at e
none_refused kind.LabelStmt c at s n e = no_keyword kind.LabelStmt (λ s x y. refl) c at e
none_refused kind.Declare c at s n e = no_keyword kind.Declare (λ s x y. refl) c at e
none_refused _ c at s n e = refl

pub only_if : (b : Bool) (r : Report) → (if b then r ∷ [] else []) ≡ [] → b ≡ false
only_if false r e = refl
only_if true r e = absurd cc

pub empty_both : (ps qs : List Report) → ps ++ qs ≡ [] → (ps ≡ []) × (qs ≡ [])
empty_both [] qs e = (refl, e)
empty_both (p ∷ ps) qs e = absurd cc

no_cast : (x : Tree) → is_cast x.0 ≡ false → is_undecided x ≡ false
no_cast x e = rw e refl

unsaid : (cast there : Bool) (r : Report) → (cast ≡ false → there ≡ false)
    → (if cast && true then (if there then r ∷ [] else []) else []) ≡ [] → there ≡ false
unsaid false there r g e = g refl
unsaid true there r g e = only_if there r e

-- the first rule that reports nodes
cast_decided : (at : ℕ) (x : Tree) → at_node at x ≡ [] → is_undecided x ≡ false
cast_decided at x e =
    unsaid (is_cast x.0) (is_undecided x) (undecided rule.UnsetCast Shape (text_start at (leaves x.1)) (end_of at x.1)) (no_cast x)
    (empty_both (reports_of undecided_casts at x) _ e).0

-- ---- all nodes

joined : (ps qs : List Report) → ps ≡ [] → qs ≡ [] → ps ++ qs ≡ []
joined ps qs e h = rw (e, h) refl

-- no node is refused, and none of the own words of a node
all_none : (k : NodeKind) (st : Standing) (more at : ℕ) (f : Forest) → AreSpelled f → HasNoName f → reports_in k st more at f ≡ []
    → NoneReported f × (refused_tokens k st more at f ≡ [])
all_none k st more at none s n e = (tt, refl)
all_none k st zero at (leaf x f) s n e =
    let p = empty_both (refused_if _ at x) (reports_in k (past st (class_by (head_at x f).more (terminal x))) (head_at x f).more (behind at x) f) e in
    let r = all_none k (past st (class_by (head_at x f).more (terminal x))) (head_at x f).more (behind at x) f s.1 n.1 p.1 in
    (r.0, joined (refused_if _ at x) (refused_tokens k (past st (class_by (head_at x f).more (terminal x))) (head_at x f).more (behind at x) f) p.0 r.1)
all_none k st (suc more) at (leaf x f) s n e =
    let p = empty_both (refused_if _ at x) (reports_in k st more (behind at x) f) e in
    let r = all_none k st more (behind at x) f s.1 n.1 p.1 in
    (r.0, joined (refused_if _ at x) (refused_tokens k st more (behind at x) f) p.0 r.1)
all_none k st more at (node j b f) s n e =
    let here = reports_in j at_first zero at b ++ at_node at (j, b) in
    let p = empty_both here (reports_in k (past_node st) zero (end_of at b) f) e in
    let q = empty_both (reports_in j at_first zero at b) (at_node at (j, b)) p.0 in
    let inner = all_none j at_first zero at b s.0 n.0 q.0 in
    let rest = all_none k (past_node st) zero (end_of at b) f s.1 n.1 p.1 in
    ((cast_decided at (j, b) q.1, none_refused j b at s.0 n.0 inner.1, inner.0, rest.0), rest.1)

-- a file that 7.4 reads has its tokens
tokens_of : (bytes : List ℕ) (f : File) → Reads V74 bytes f → TokensOf V74 bytes (file_leaves f)
tokens_of bytes f r = subst (TokensOf V74 bytes) r.parsed.text r.lexed

pub none_by_words : (f : File) → AreSpelled f.statements → HasNoName f.statements → reports_in kind.Block at_first zero 0 f.statements ≡ []
    → NoneReported f.statements
none_by_words f s n e = (all_none kind.Block at_first zero 0 f.statements s n e).0

pub none_by_reports : (bytes : List ℕ) (f : File) → Reads V74 bytes f → reports f ≡ [] → NoneReported f.statements
none_by_reports bytes f r e =
    let tokens = tokens_of bytes f r in
    none_by_words f (sources_are_spelled V74 bytes f tokens) (old_sources bytes f.statements (f.end ∷ []) tokens)
    (empty_both (reports_in kind.Block at_first zero 0 f.statements) (enums t.End 0 (file_leaves f)) e).0
