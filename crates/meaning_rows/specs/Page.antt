-- A page of two files, in 7.4 and rewritten, and what both come to.
use Rattle.std.specs.Prelude.{[], ◌∷◌, codes}
use Rattle.php_tree.specs.declared.token.TokenKind.TheVariants as token
use Rattle.php_tree.specs.declared.kind.NodeKind.TheVariants as kind
use Rattle.php_tree.specs.Tree.{Forest, none, node}
use Rattle.meaning_rows.specs.Words.{t, ended, Comes}

-- lib.php:
-- <?php
-- class Page {
--     private $name;
--     function Page($name) { $this->name = $name; }
--     function letter() { return $this->name{0}; }
-- }
-- index.php:
-- <?php
-- require __DIR__ . '/lib.php';
-- $id = (int)$_GET['id'];
-- $titles = [1 => 'One', 2 => 'Two'];
-- $name = isset($titles[$id]) ? $titles[$id] : 'none';
-- $page = new Page($name);
-- $level = $id > 1 ? 'high' : $id > 0 ? 'low' : 'zero';
-- ?>
-- <h1><?= "Item ${id}: " . $name ?></h1>
-- <ul>
-- <?php foreach ($titles as $k => $t): ?>
-- <li<?= $k == $id ? ' class="on"' : '' ?>><?= $t ?></li>
-- <?php endforeach; ?>
-- </ul>
-- <p><?= $page->letter(), $level ?></p>
-- <?php if ($name == 0) { echo 'word'; } ?>
-- <?php if ($_GET['id'] == $id) { echo 'exact'; } ?>
-- rewritten:
-- <?php
-- class Page {
--     private $name;
--     function __construct($name) { $this->name = $name; }
--     function letter() { return $this->name[0]; }
-- }
-- <?php
-- require __DIR__ . '/lib.php';
-- $id = (int)$_GET['id'];
-- $titles = [1 => 'One', 2 => 'Two'];
-- $name = isset($titles[$id]) ? $titles[$id] : 'none';
-- $page = new Page($name);
-- $level = ($id > 1 ? 'high' : $id > 0) ? 'low' : 'zero';
-- ?>
-- <h1><?= "Item {$id}: " . $name ?></h1>
-- <ul>
-- <?php foreach ($titles as $k => $t): ?>
-- <li<?= $k == $id ? ' class="on"' : '' ?>><?= $t ?></li>
-- <?php endforeach; ?>
-- </ul>
-- <p><?= $page->letter(), $level ?></p>
-- <?php if ((int)$name == 0) { echo 'word'; } ?>
-- <?php if ($_GET['id'] == $id) { echo 'exact'; } ?>
abbrev pub page_tree0 : Forest
page_tree0 =
    (node kind.Class (t token.Keyword "class" (t token.Label "Page" (t token.Op "{" (node kind.Property (t
    token.Keyword "private" (t token.Variable "$name" (t token.Semi ";" none))) (node kind.Method (t token.Keyword
    "function" (t token.Label "Page" (t token.Op "(" (node kind.Param (t token.Variable "$name" none) (t token.Op ")"
    (node kind.Block (t token.Op "{" (node kind.ExprStmt (node kind.Assign (node kind.Prop (node kind.Variable (t
    token.Variable "$this" none) (t token.Op "->" (t token.Label "name" none))) (t token.Op "=" (node kind.Variable (t
    token.Variable "$name" none) none))) (t token.Semi ";" none)) (t token.Op "}" none))) none)))))) (node kind.Method
    (t token.Keyword "function" (t token.Label "letter" (t token.Op "(" (t token.Op ")" (node kind.Block (t token.Op
    "{" (node kind.Return (t token.Keyword "return" (node kind.BraceOffset (node kind.Prop (node kind.Variable (t
    token.Variable "$this" none) (t token.Op "->" (t token.Label "name" none))) (t token.Op "{" (node kind.Number (t
    token.Int "0" none) (t token.Op "}" none)))) (t token.Semi ";" none))) (t token.Op "}" none))) none))))) (t
    token.Op "}" none))))))) none)

abbrev pub page_tree1 : Forest
page_tree1 =
    (node kind.ExprStmt (node kind.Include (t token.Keyword "require" (node kind.Binary (node kind.Constant (t
    token.Label "__DIR__" none) (t token.Op "." (node kind.Text (t token.Text "'/lib.php'" none) none))) none)) (t
    token.Semi ";" none)) (node kind.ExprStmt (node kind.Assign (node kind.Variable (t token.Variable "$id" none) (t
    token.Op "=" (node kind.Cast (t token.Cast "(int)" (node kind.Offset (node kind.Variable (t token.Variable "$_GET"
    none) (t token.Op "[" (node kind.Text (t token.Text "'id'" none) (t token.Op "]" none)))) none)) none))) (t
    token.Semi ";" none)) (node kind.ExprStmt (node kind.Assign (node kind.Variable (t token.Variable "$titles" none)
    (t token.Op "=" (node kind.Array (t token.Op "[" (node kind.Item (node kind.Number (t token.Int "1" none) (t
    token.Op "=>" (node kind.Text (t token.Text "'One'" none) none))) (t token.Op "," (node kind.Item (node
    kind.Number (t token.Int "2" none) (t token.Op "=>" (node kind.Text (t token.Text "'Two'" none) none))) (t
    token.Op "]" none))))) none))) (t token.Semi ";" none)) (node kind.ExprStmt (node kind.Assign (node kind.Variable
    (t token.Variable "$name" none) (t token.Op "=" (node kind.Ternary (node kind.Isset (t token.Keyword "isset" (t
    token.Op "(" (node kind.Offset (node kind.Variable (t token.Variable "$titles" none) (t token.Op "[" (node
    kind.Variable (t token.Variable "$id" none) (t token.Op "]" none)))) (t token.Op ")" none)))) (t token.Op "?"
    (node kind.Offset (node kind.Variable (t token.Variable "$titles" none) (t token.Op "[" (node kind.Variable (t
    token.Variable "$id" none) (t token.Op "]" none)))) (t token.Op ":" (node kind.Text (t token.Text "'none'" none)
    none))))) none))) (t token.Semi ";" none)) (node kind.ExprStmt (node kind.Assign (node kind.Variable (t
    token.Variable "$page" none) (t token.Op "=" (node kind.New (t token.Keyword "new" (t token.Label "Page" (t
    token.Op "(" (node kind.Args (node kind.Variable (t token.Variable "$name" none) none) (t token.Op ")" none)))))
    none))) (t token.Semi ";" none)) (node kind.ExprStmt (node kind.Assign (node kind.Variable (t token.Variable
    "$level" none) (t token.Op "=" (node kind.Ternary (node kind.Ternary (node kind.Binary (node kind.Variable (t
    token.Variable "$id" none) (t token.Op ">" (node kind.Number (t token.Int "1" none) none))) (t token.Op "?" (node
    kind.Text (t token.Text "'high'" none) (t token.Op ":" (node kind.Binary (node kind.Variable (t token.Variable
    "$id" none) (t token.Op ">" (node kind.Number (t token.Int "0" none) none))) none))))) (t token.Op "?" (node
    kind.Text (t token.Text "'low'" none) (t token.Op ":" (node kind.Text (t token.Text "'zero'" none) none)))))
    none))) (t token.Semi ";" none)) (node kind.Empty (t token.Close "?>\n" none) (node kind.Html (t token.InlineHtml
    "<h1>" none) (node kind.Echo (t token.OpenEcho "<?=" (node kind.Binary (node kind.Quoted (t token.Quote "\"" (t
    token.Piece "Item " (t token.DollarBrace "${" (t token.VarName "id" (t token.Op "}" (t token.Piece ": " (t
    token.QuotedEnd "\"" none))))))) (t token.Op "." (node kind.Variable (t token.Variable "$name" none) none))) (t
    token.Close "?>" none))) (node kind.Html (t token.InlineHtml "</h1>\n<ul>\n" none) (node kind.Foreach (t
    token.Keyword "foreach" (t token.Op "(" (node kind.Variable (t token.Variable "$titles" none) (t token.Keyword
    "as" (node kind.Variable (t token.Variable "$k" none) (t token.Op "=>" (node kind.Variable (t token.Variable "$t"
    none) (t token.Op ")" (t token.Op ":" (node kind.Empty (t token.Close "?>\n" none) (node kind.Html (t
    token.InlineHtml "<li" none) (node kind.Echo (t token.OpenEcho "<?=" (node kind.Ternary (node kind.Binary (node
    kind.Variable (t token.Variable "$k" none) (t token.Op "==" (node kind.Variable (t token.Variable "$id" none)
    none))) (t token.Op "?" (node kind.Text (t token.Text "' class=\"on\"'" none) (t token.Op ":" (node kind.Text (t
    token.Text "''" none) none))))) (t token.Close "?>" none))) (node kind.Html (t token.InlineHtml ">" none) (node
    kind.Echo (t token.OpenEcho "<?=" (node kind.Variable (t token.Variable "$t" none) (t token.Close "?>" none)))
    (node kind.Html (t token.InlineHtml "</li>\n" none) (t token.Keyword "endforeach" (t token.Semi ";"
    none))))))))))))))))) (node kind.Empty (t token.Close "?>\n" none) (node kind.Html (t token.InlineHtml
    "</ul>\n<p>" none) (node kind.Echo (t token.OpenEcho "<?=" (node kind.MethodCall (node kind.Variable (t
    token.Variable "$page" none) (t token.Op "->" (t token.Label "letter" (t token.Op "(" (node kind.Args none (t
    token.Op ")" none)))))) (t token.Op "," (node kind.Variable (t token.Variable "$level" none) (t token.Close "?>"
    none))))) (node kind.Html (t token.InlineHtml "</p>\n" none) (node kind.If (t token.Keyword "if" (t token.Op "("
    (node kind.Binary (node kind.Variable (t token.Variable "$name" none) (t token.Op "==" (node kind.Number (t
    token.Int "0" none) none))) (t token.Op ")" (node kind.Block (t token.Op "{" (node kind.Echo (t token.Keyword
    "echo" (node kind.Text (t token.Text "'word'" none) (t token.Semi ";" none))) (t token.Op "}" none))) none)))))
    (node kind.Empty (t token.Close "?>\n" none) (node kind.If (t token.Keyword "if" (t token.Op "(" (node kind.Binary
    (node kind.Offset (node kind.Variable (t token.Variable "$_GET" none) (t token.Op "[" (node kind.Text (t
    token.Text "'id'" none) (t token.Op "]" none)))) (t token.Op "==" (node kind.Variable (t token.Variable "$id"
    none) none))) (t token.Op ")" (node kind.Block (t token.Op "{" (node kind.Echo (t token.Keyword "echo" (node
    kind.Text (t token.Text "'exact'" none) (t token.Semi ";" none))) (t token.Op "}" none))) none))))) (node
    kind.Empty (t token.Close "?>\n" none) none)))))))))))))))))))

abbrev pub page_new_tree0 : Forest
page_new_tree0 =
    (node kind.Class (t token.Keyword "class" (t token.Label "Page" (t token.Op "{" (node kind.Property (t
    token.Keyword "private" (t token.Variable "$name" (t token.Semi ";" none))) (node kind.Method (t token.Keyword
    "function" (t token.Label "__construct" (t token.Op "(" (node kind.Param (t token.Variable "$name" none) (t
    token.Op ")" (node kind.Block (t token.Op "{" (node kind.ExprStmt (node kind.Assign (node kind.Prop (node
    kind.Variable (t token.Variable "$this" none) (t token.Op "->" (t token.Label "name" none))) (t token.Op "=" (node
    kind.Variable (t token.Variable "$name" none) none))) (t token.Semi ";" none)) (t token.Op "}" none))) none))))))
    (node kind.Method (t token.Keyword "function" (t token.Label "letter" (t token.Op "(" (t token.Op ")" (node
    kind.Block (t token.Op "{" (node kind.Return (t token.Keyword "return" (node kind.Offset (node kind.Prop (node
    kind.Variable (t token.Variable "$this" none) (t token.Op "->" (t token.Label "name" none))) (t token.Op "[" (node
    kind.Number (t token.Int "0" none) (t token.Op "]" none)))) (t token.Semi ";" none))) (t token.Op "}" none)))
    none))))) (t token.Op "}" none))))))) none)

abbrev pub page_new_tree1 : Forest
page_new_tree1 =
    (node kind.ExprStmt (node kind.Include (t token.Keyword "require" (node kind.Binary (node kind.Constant (t
    token.Label "__DIR__" none) (t token.Op "." (node kind.Text (t token.Text "'/lib.php'" none) none))) none)) (t
    token.Semi ";" none)) (node kind.ExprStmt (node kind.Assign (node kind.Variable (t token.Variable "$id" none) (t
    token.Op "=" (node kind.Cast (t token.Cast "(int)" (node kind.Offset (node kind.Variable (t token.Variable "$_GET"
    none) (t token.Op "[" (node kind.Text (t token.Text "'id'" none) (t token.Op "]" none)))) none)) none))) (t
    token.Semi ";" none)) (node kind.ExprStmt (node kind.Assign (node kind.Variable (t token.Variable "$titles" none)
    (t token.Op "=" (node kind.Array (t token.Op "[" (node kind.Item (node kind.Number (t token.Int "1" none) (t
    token.Op "=>" (node kind.Text (t token.Text "'One'" none) none))) (t token.Op "," (node kind.Item (node
    kind.Number (t token.Int "2" none) (t token.Op "=>" (node kind.Text (t token.Text "'Two'" none) none))) (t
    token.Op "]" none))))) none))) (t token.Semi ";" none)) (node kind.ExprStmt (node kind.Assign (node kind.Variable
    (t token.Variable "$name" none) (t token.Op "=" (node kind.Ternary (node kind.Isset (t token.Keyword "isset" (t
    token.Op "(" (node kind.Offset (node kind.Variable (t token.Variable "$titles" none) (t token.Op "[" (node
    kind.Variable (t token.Variable "$id" none) (t token.Op "]" none)))) (t token.Op ")" none)))) (t token.Op "?"
    (node kind.Offset (node kind.Variable (t token.Variable "$titles" none) (t token.Op "[" (node kind.Variable (t
    token.Variable "$id" none) (t token.Op "]" none)))) (t token.Op ":" (node kind.Text (t token.Text "'none'" none)
    none))))) none))) (t token.Semi ";" none)) (node kind.ExprStmt (node kind.Assign (node kind.Variable (t
    token.Variable "$page" none) (t token.Op "=" (node kind.New (t token.Keyword "new" (t token.Label "Page" (t
    token.Op "(" (node kind.Args (node kind.Variable (t token.Variable "$name" none) none) (t token.Op ")" none)))))
    none))) (t token.Semi ";" none)) (node kind.ExprStmt (node kind.Assign (node kind.Variable (t token.Variable
    "$level" none) (t token.Op "=" (node kind.Ternary (node kind.Paren (t token.Op "(" (node kind.Ternary (node
    kind.Binary (node kind.Variable (t token.Variable "$id" none) (t token.Op ">" (node kind.Number (t token.Int "1"
    none) none))) (t token.Op "?" (node kind.Text (t token.Text "'high'" none) (t token.Op ":" (node kind.Binary (node
    kind.Variable (t token.Variable "$id" none) (t token.Op ">" (node kind.Number (t token.Int "0" none) none)))
    none))))) (t token.Op ")" none))) (t token.Op "?" (node kind.Text (t token.Text "'low'" none) (t token.Op ":"
    (node kind.Text (t token.Text "'zero'" none) none))))) none))) (t token.Semi ";" none)) (node kind.Empty (t
    token.Close "?>\n" none) (node kind.Html (t token.InlineHtml "<h1>" none) (node kind.Echo (t token.OpenEcho "<?="
    (node kind.Binary (node kind.Quoted (t token.Quote "\"" (t token.Piece "Item " (t token.CurlyOpen "{" (node
    kind.Variable (t token.Variable "$id" none) (t token.Op "}" (t token.Piece ": " (t token.QuotedEnd "\""
    none))))))) (t token.Op "." (node kind.Variable (t token.Variable "$name" none) none))) (t token.Close "?>"
    none))) (node kind.Html (t token.InlineHtml "</h1>\n<ul>\n" none) (node kind.Foreach (t token.Keyword "foreach" (t
    token.Op "(" (node kind.Variable (t token.Variable "$titles" none) (t token.Keyword "as" (node kind.Variable (t
    token.Variable "$k" none) (t token.Op "=>" (node kind.Variable (t token.Variable "$t" none) (t token.Op ")" (t
    token.Op ":" (node kind.Empty (t token.Close "?>\n" none) (node kind.Html (t token.InlineHtml "<li" none) (node
    kind.Echo (t token.OpenEcho "<?=" (node kind.Ternary (node kind.Binary (node kind.Variable (t token.Variable "$k"
    none) (t token.Op "==" (node kind.Variable (t token.Variable "$id" none) none))) (t token.Op "?" (node kind.Text
    (t token.Text "' class=\"on\"'" none) (t token.Op ":" (node kind.Text (t token.Text "''" none) none))))) (t
    token.Close "?>" none))) (node kind.Html (t token.InlineHtml ">" none) (node kind.Echo (t token.OpenEcho "<?="
    (node kind.Variable (t token.Variable "$t" none) (t token.Close "?>" none))) (node kind.Html (t token.InlineHtml
    "</li>\n" none) (t token.Keyword "endforeach" (t token.Semi ";" none))))))))))))))))) (node kind.Empty (t
    token.Close "?>\n" none) (node kind.Html (t token.InlineHtml "</ul>\n<p>" none) (node kind.Echo (t token.OpenEcho
    "<?=" (node kind.MethodCall (node kind.Variable (t token.Variable "$page" none) (t token.Op "->" (t token.Label
    "letter" (t token.Op "(" (node kind.Args none (t token.Op ")" none)))))) (t token.Op "," (node kind.Variable (t
    token.Variable "$level" none) (t token.Close "?>" none))))) (node kind.Html (t token.InlineHtml "</p>\n" none)
    (node kind.If (t token.Keyword "if" (t token.Op "(" (node kind.Binary (node kind.Cast (t token.Cast "(int)" (node
    kind.Variable (t token.Variable "$name" none) none)) (t token.Op "==" (node kind.Number (t token.Int "0" none)
    none))) (t token.Op ")" (node kind.Block (t token.Op "{" (node kind.Echo (t token.Keyword "echo" (node kind.Text
    (t token.Text "'word'" none) (t token.Semi ";" none))) (t token.Op "}" none))) none))))) (node kind.Empty (t
    token.Close "?>\n" none) (node kind.If (t token.Keyword "if" (t token.Op "(" (node kind.Binary (node kind.Offset
    (node kind.Variable (t token.Variable "$_GET" none) (t token.Op "[" (node kind.Text (t token.Text "'id'" none) (t
    token.Op "]" none)))) (t token.Op "==" (node kind.Variable (t token.Variable "$id" none) none))) (t token.Op ")"
    (node kind.Block (t token.Op "{" (node kind.Echo (t token.Keyword "echo" (node kind.Text (t token.Text "'exact'"
    none) (t token.Semi ";" none))) (t token.Op "}" none))) none))))) (node kind.Empty (t token.Close "?>\n" none)
    none)))))))))))))))))))

-- what the page echoes in both versions
abbrev pub PageComes : Type 0
PageComes =
    Comes 200 ((codes "lib.php", page_tree0) ∷ (codes "index.php", page_tree1) ∷ [])
    ((codes "lib.php", page_new_tree0) ∷ (codes "index.php", page_new_tree1) ∷ []) (codes "index.php")
    ((codes "<h1>Item 2: Two</h1>\n<ul>\n<li>One</li>\n<li class=\"on\">Two</li>\n</ul>\n<p>Tlow</p>\nwordexact"), ended)
    ((codes "<h1>Item 2: Two</h1>\n<ul>\n<li>One</li>\n<li class=\"on\">Two</li>\n</ul>\n<p>Tlow</p>\nwordexact"), ended)
