-- Namespaces are read as they were.
use Rattle.std.proofs.Common.{◌≡◌, ℕ, Bool, true, false, not, List, [], ◌∷◌, ◌++◌, Some, refl, sym, ap, ◌∙◌}
use Rattle.std.proofs.lemmas.Bool.{not-true}
use Rattle.php_tree.specs.declared.kind.NodeKind.TheVariants as k
use Rattle.php_tree.specs.declared.token.Token.{Token}
use Rattle.php_tree.specs.declared.version.Version.{Version}
use Rattle.php_tree.specs.declared.version.Version.TheVariants.{V74, V83}
use Rattle.php_tree.specs.Tree.{Forest, leaf, leaves}
use Rattle.php_terminals.specs.declared.terminal.Terminal.{Terminal}
use Rattle.php_terminals.specs.declared.terminal.Terminal.TheVariants as t
use Rattle.php_terminals.specs.Classify.{terminal}
use Rattle.php_terminals.specs.Ahead.{first_of}
use Rattle.php_forms.specs.declared.item.Group.TheVariants as g
use Rattle.php_forms.specs.declared.item.Item.{Item}
use Rattle.php_forms.specs.declared.item.Item.TheVariants.{Word, Part}
use Rattle.php_forms.specs.Heads.{namespace_form, statement_form}
use Rattle.php_grammar.specs.Accepts.{same_class}
use Rattle.php_shapes.specs.Forms.{form}
use Rattle.php_shapes.specs.Names.{namespace_name}
use Rattle.php_shapes.specs.Notation.{Rule, word, ◌~◌, ◌|||◌, braces}
use Rattle.php_shapes.specs.Shapes.{Fits}
use Rattle.php_shapes.specs.Statements.{statements}
use Rattle.php_shapes.proofs.ReadClasses.{could, for_all, whenever}
use Rattle.php_shapes.proofs.ReadFirst.{nullable, starts}
use Rattle.php_shapes.proofs.ReadEnds.{Below}
use Rattle.php_shapes.proofs.ReadMatch.{false_true, matches, where_is, where_it}
use Rattle.php_shapes.proofs.ReadNearest.{follows_statement}
use Rattle.php_shapes.proofs.ReadStatements.{StatementGrows, first_in}
use Rattle.php_shapes.proofs.ReadDeclarations.{after_word, chosen_grows, form_by}

-- what stands behind `namespace`
abbrev namespace_rest : Version → Rule
namespace_rest v = braces statements ||| namespace_name v ~ (braces statements ||| word t.Semi)

abbrev namespace_items : List Item
namespace_items = Word t.Namespace ∷ Part g.NamespaceBody ∷ []

-- `\`
abbrev is_backslash : Terminal → Bool
is_backslash t.Backslash = true
is_backslash _ = false

no_name : (c : Terminal) → is_backslash c ≡ false → namespace_form c ≡ (k.Namespace, namespace_items)
no_name t.Backslash h = absurd (false_true (sym h))
no_name c h = refl

namespace_pinned : (v : Version) → for_all (λ c. whenever (could v t.Namespace c) (same_class t.Namespace c)) ≡ true
unfolding for_all
namespace_pinned V74 = refl
namespace_pinned V83 = refl

namespace_begins : (v : Version) → for_all (λ c. where_it (starts v (namespace_rest v) c) (not (is_backslash c))) ≡ true
unfolding for_all
namespace_begins V74 = refl
namespace_begins V83 = refl

namespace_nullable : (v : Version) → nullable (namespace_rest v) ≡ false
namespace_nullable V74 = refl
namespace_nullable V83 = refl

namespace_matches : (v : Version) → matches v 60 true (form v k.Namespace ∷ []) namespace_items follows_statement ≡ true
unfolding for_all
namespace_matches V74 = refl
namespace_matches V83 = refl

namespace_chosen : (v : Version) (c : Forest) (rest : List Token) → Fits v (form v k.Namespace) c → statement_form (leaves c ++ rest) ≡ Some (k.Namespace, namespace_items)
namespace_chosen v c rest y =
    let q : (x : Token) × (m : Forest) × (c ≡ leaf x m) × (terminal x ≡ t.Namespace)
    × Fits v (namespace_rest v) m = after_word v t.Namespace (namespace_rest v) c (namespace_pinned v) y in
    let next : Terminal = first_of (leaves q.1 ++ rest) in
    let no : is_backslash next ≡ false = not-true (is_backslash next)
    (where_is (starts v (namespace_rest v)) (λ d. not (is_backslash d)) next (namespace_begins v)
    (first_in v (namespace_rest v) q.1 rest q.4 (namespace_nullable v))) in
    ap (λ (i : Forest). statement_form (leaves i ++ rest)) q.2 ∙ form_by q.0 (leaves q.1 ++ rest) t.Namespace (k.Namespace, namespace_items) q.3 (ap Some (no_name next no))

pub namespace_grows : (v : Version) (n : ℕ) → Below v n → StatementGrows v n k.Namespace
namespace_grows v n below = chosen_grows v n below k.Namespace namespace_items (namespace_matches v) (namespace_chosen v)
