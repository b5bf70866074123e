-- The rewritten file has the shape of the 8.3 grammar.
use Rattle.std.specs.Prelude.{◌≡◌, ℕ, ◌≤◌, Bool, true, false, not, ◌==◌, ◌&&◌, ◌||◌, List, [], ◌∷◌}
use Rattle.std.specs.Str.{bytes_eq, str_to_ascii_lowercase}
use Rattle.std.specs.Prelude.{codes}
use Rattle.php_tree.specs.declared.token.Token.{Token}
use Rattle.php_tree.specs.declared.token.TokenKind.{TokenKind}
use Rattle.php_tree.specs.declared.token.TokenKind.TheVariants as token
use Rattle.php_tree.specs.declared.version.Version.TheVariants.{V74, V83}
use Rattle.php_tree.specs.Tree.{Forest, none, leaf, node, File, depth}
use Rattle.php_terminals.specs.declared.terminal.Terminal.{Terminal}
use Rattle.php_terminals.specs.declared.terminal.Terminal.TheVariants as t
use Rattle.php_terminals.specs.Classify.{cast}
use Rattle.php_shapes.specs.Shapes.{Shape}
use Rattle.syntax_rules.specs.Casts.{bare}
use Rattle.syntax_rules.specs.Rewritten.{rewritten}
use Rattle.syntax_rules.specs.UnsetCast.{is_undecided}
use Rattle.rewritten_shapes.specs.RefusedWords.{has_refused}

-- whether no byte is `\`, which is 92
abbrev pub has_no_root : List ℕ → Bool
has_no_root [] = true
has_no_root (b ∷ bs) = not (b == 92) && has_no_root bs

-- whether a text could be a label's: some bytes, and no `\` among them
abbrev pub is_label_text : List ℕ → Bool
is_label_text [] = false
is_label_text (b ∷ bs) = has_no_root (b ∷ bs)

-- whether a text is the word `namespace`, without ASCII case
abbrev pub is_namespace_word : List ℕ → Bool
is_namespace_word text = bytes_eq (str_to_ascii_lowercase text) (codes "namespace")

-- whether a cast is of a class that 8.3 lacks
abbrev pub is_old : Terminal → Bool
is_old t.OldCast = true
is_old _ = false

-- whether a label, a cast or a `${` has a text as the tokens of a source have it
abbrev pub is_spelled_by : TokenKind → List ℕ → Bool
is_spelled_by token.Label text = is_label_text text
is_spelled_by token.Cast text = not (is_old (cast text)) || (bytes_eq (bare text) (codes "(real)") || bytes_eq (bare text) (codes "(unset)"))
is_spelled_by token.DollarBrace text = bytes_eq text (codes "${")
is_spelled_by _ text = true

-- whether a token is a label that is spelled `namespace`
abbrev pub is_namespace_label : TokenKind → List ℕ → Bool
is_namespace_label token.Label text = is_namespace_word text
is_namespace_label _ text = false

-- whether parts begin with such a label
abbrev pub begins_namespace : Forest → Bool
begins_namespace none = false
begins_namespace (leaf y f) = is_namespace_label y.kind y.text
begins_namespace (node k c f) = false

-- whether a name may begin behind a token: a keyword, `\`, `,` or `{`
abbrev pub opens_name : TokenKind → List ℕ → Bool
opens_name token.Keyword text = true
opens_name token.Op text = bytes_eq text (codes "\\") || (bytes_eq text (codes ",") || bytes_eq text (codes "{"))
opens_name _ text = false

-- A token before some parts is spelled as in a source: its text is, and where a name may begin behind it, no label `namespace`
-- stands there. Only a simple property or offset of a quoted text is such a label, as in `"$a->namespace"`.
abbrev pub IsSpelled : Token → Forest → Type 0
IsSpelled x f = (is_spelled_by x.kind x.text ≡ true) × ((opens_name x.kind x.text && begins_namespace f) ≡ false)

-- Each token is spelled as in a source.
abbrev pub AreSpelled : Forest → Type 0
AreSpelled none = Unit {0}
AreSpelled (leaf x f) = IsSpelled x f × AreSpelled f
AreSpelled (node k c f) = AreSpelled c × AreSpelled f

-- No cast `(unset)` is undecided, and no node has a word that 8.3 refuses there.
abbrev pub NoneReported : Forest → Type 0
NoneReported none = Unit {0}
NoneReported (leaf x f) = NoneReported f
NoneReported (node k c f) = (is_undecided (k, c) ≡ false) × (has_refused k c ≡ false) × NoneReported c × NoneReported f

-- A 7.4 file in which the rules report nothing that stops compiling has, once it is rewritten, the shape of 8.3.
abbrev pub RewrittenHasShape : Type 0
RewrittenHasShape =
    (f : File) → Shape V74 f → AreSpelled f.statements → NoneReported f.statements → Shape V83 (rewritten f)

-- The rewritten file is at most three times as deep: a node in parentheses is one level deeper, and the value of `${name[..]}` one
-- level more.
abbrev pub RewrittenIsShallow : Type 0
RewrittenIsShallow =
    (f : File) → AreSpelled f.statements → depth f.statements ≤ 500 → depth (rewritten f).statements ≤ 1500
