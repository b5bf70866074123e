-- Trees whose nodes have the same scripts, and that they run alike.
use Rattle.std.specs.Prelude.{◌≡◌, ℕ, zero, Bool, true, false, IsTrue, List, [], ◌∷◌, ◌++◌}
use Rattle.php_tree.specs.declared.token.TokenKind.TheVariants as token
use Rattle.php_tree.specs.declared.token.Token.{Token}
use Rattle.php_tree.specs.declared.kind.NodeKind.{NodeKind}
use Rattle.php_tree.specs.declared.kind.NodeKind.TheVariants as kind
use Rattle.php_tree.specs.Tree.{Forest, none, leaf, node}
use Rattle.php_meaning.specs.Cause.{NoRule}
use Rattle.php_meaning.specs.runs.World.{Bytes, World}
use Rattle.scope_names.specs.Form.{Form, form, kids, is_name_part, joins}
use Rattle.scope_names.specs.Sites.{Site, file_site, is_declaration, declarations, within, beside}
use Rattle.php_meaning.specs.names.Tables.{Tables, tables_of}
use Rattle.php_meaning.specs.runs.Script.{Mode, Stop}
use Rattle.php_meaning.specs.Rules.{rule, file_script}
use Rattle.php_meaning.specs.runs.Kinds.{is_statement}
use Rattle.php_meaning.specs.runs.Run.{Program, Mark, Result, Entry, step, declared_in, value_count}
use Rattle.php_meaning.specs.laws.Following.{Alike}
use Rattle.php_meaning.specs.laws.Laws.{KeepsMeaning}

-- Two nodes at one site, by their kinds and parts and by the declarations of their programs, have the same script however
-- they are evaluated, take a turn alike,
-- are declarations alike, and lead to the same sites within and beside them.
pub record HasScriptOf (t t' : Tables) (s : Site) (k : NodeKind) (c : Forest) (j : NodeKind) (d : Forest) : Type 0 where
  pub script : (m : Mode) → rule t' s j m (form d) ≡ rule t s k m (form c)
  pub statement : is_statement j ≡ is_statement k
  pub declaration : is_declaration j ≡ is_declaration k
  pub within : within j d s ≡ within k c s
  pub beside : beside j d s ≡ beside k c s

-- A node that is no statement and has no rule, and what stands in its place: a run that reaches it has no meaning from
-- there on. Neither holds a declaration.
pub record HasNoRule (t : Tables) (s : Site) (k : NodeKind) (c : Forest) (j : NodeKind) (d : Forest) : Type 0 where
  pub script : (m : Mode) → rule t s k m (form c) ≡ Stop NoRule
  pub statement : is_statement k ≡ false
  pub declaration : is_declaration k ≡ false
  pub undeclared : is_declaration j ≡ false
  pub beside : beside j d s ≡ beside k c s
  pub none_inside : declarations c ≡ zero
  pub none_instead : declarations d ≡ zero

-- A node that does what another one does, by other steps: whatever else runs, wherever that one is not outside. This is what
-- a law of one rule says of the node that it rewrites. Neither is a declaration, and the declarations in one do what those in
-- the other do.
pub record DoesAs (t t' : Tables) (s : Site) (k : NodeKind) (c : Forest) (j : NodeKind) (d : Forest) : Type 0 where
  pub node : (v : Bool) (marks : List Mark) (lower low : Entry → World → Result) → ((e : Entry) → Alike (lower e) (low e))
      → (id jd : ℕ) (m : Mode) → Alike (step v t marks lower s (node k c none) id zero m) (step v t' [] low s (node j d none) jd zero m)
  pub inside : (v : Bool) (marks : List Mark) (lower low : Entry → World → Result) → ((e : Entry) → Alike (lower e) (low e))
      → (id jd n : ℕ) (m : Mode) (x y : World → Result) → Alike x y
      → Alike (declared_in v t marks lower (within k c s) c id n m x) (declared_in v t' [] low (within j d s) d jd n m y)
  pub declaration : is_declaration k ≡ false
  pub undeclared : is_declaration j ≡ false
  pub beside : beside j d s ≡ beside k c s

-- The second forest has the nodes of the first one, each with its script, and some of them in parentheses; in place of a
-- node that has no rule any node may stand, and in place of any other one a node that does the same. Tokens count by the
-- scripts of their nodes alone.
pub data HasScriptsOf (t t' : Tables) : Site → Forest → Forest → Type 0 where
  nothing : {s : Site} → HasScriptsOf t t' s none none
  token_before : {s : Site} {u : Token} {f g : Forest} → HasScriptsOf t t' s f g → HasScriptsOf t t' s (leaf u f) g
  token_behind : {s : Site} {u : Token} {f g : Forest} → HasScriptsOf t t' s f g → HasScriptsOf t t' s f (leaf u g)
  same : {s : Site} {k j : NodeKind} {c d f g : Forest}
      → HasScriptOf t t' s k c j d → HasScriptsOf t t' (within k c s) c d → HasScriptsOf t t' (beside k c s) f g
      → HasScriptsOf t t' s (node k c f) (node j d g)
  replaced : {s : Site} {k j : NodeKind} {c d f g : Forest} → HasNoRule t s k c j d → HasScriptsOf t t' (beside k c s) f g
      → HasScriptsOf t t' s (node k c f) (node j d g)
  kept : {s : Site} {k j : NodeKind} {c d f g : Forest} → DoesAs t t' s k c j d → HasScriptsOf t t' (beside k c s) f g
      → HasScriptsOf t t' s (node k c f) (node j d g)
  wrapped : {s : Site} {k j : NodeKind} {c d f g : Forest} {o p : Token}
      → beside k c s ≡ beside kind.Paren (leaf o (node j d (leaf p none))) s
      → HasScriptsOf t t' s (node k c none) (node j d none) → HasScriptsOf t t' (beside k c s) f g
      → HasScriptsOf t t' s (node k c f) (node kind.Paren (leaf o (node j d (leaf p none))) g)

-- the same of the files of two programs, under the same paths
pub data HaveScriptsOf (t t' : Tables) : List (Bytes × Forest) → List (Bytes × Forest) → Type 0 where
  no_more : HaveScriptsOf t t' [] []
  one_more : {path : Bytes} {f g : Forest} {fs gs : List (Bytes × Forest)}
      → HasScriptsOf t t' (file_site path) f g → HaveScriptsOf t t' fs gs → HaveScriptsOf t t' ((path, f) ∷ fs) ((path, g) ∷ gs)

-- Declarations that take place alike when a file starts, and write down as many values.
pub record DeclareAlike (t t' : Tables) : Type 0 where
  pub early : (path : Bytes) (n : ℕ) → file_script t' path n ≡ file_script t path n
  pub count : value_count t' ≡ value_count t

-- Files whose nodes have the same scripts, each by the declarations of its program, run alike.
abbrev pub SameScriptsKeepMeaning : Type 0
SameScriptsKeepMeaning =
    (source written : Program) (marks : List Mark)
    → HaveScriptsOf (tables_of source.files) (tables_of written.files) source.files written.files
    → DeclareAlike (tables_of source.files) (tables_of written.files)
    → written.prepend ≡ source.prepend → KeepsMeaning source marks written

-- A node's form, and so its script and where its parts stand, is the same whether a name is one token or several.
abbrev pub NamesAsOneToken : Type 0
NamesAsOneToken =
    (t u whole : Token) (f : Forest)
    → whole.kind ≡ token.Name → whole.text ≡ t.text ++ u.text
    → IsTrue (is_name_part u.kind u.text) → IsTrue (joins t u.text)
    → form (leaf t (leaf u f)) ≡ form (leaf whole f)

-- whether the script of a kind depends on no token, but on how many children there are
abbrev pub counts_children : NodeKind → Bool
counts_children kind.Block = true
counts_children kind.Empty = true
counts_children kind.ExprStmt = true
counts_children kind.Echo = true
counts_children kind.Return = true
counts_children kind.If = true
counts_children kind.DoWhile = true
counts_children kind.Switch = true
counts_children kind.Global = true
counts_children kind.Unset = true
counts_children kind.Throw = true
counts_children kind.Paren = true
counts_children kind.Array = true
counts_children kind.Isset = true
counts_children kind.EmptyTest = true
counts_children kind.Exit = true
counts_children kind.Ternary = true
counts_children kind.ShortTernary = true
counts_children kind.Assign = true
counts_children kind.AssignRef = true
counts_children kind.Print = true
counts_children k = false

-- The script of such a kind is the same whatever its tokens are, where the children are as many.
abbrev pub OtherTokensCountNothing : Type 0
OtherTokensCountNothing =
    (t : Tables) (s : Site) (k : NodeKind) (m : Mode) (f g : Form)
    → IsTrue (counts_children k) → kids g ≡ kids f → rule t s k m g ≡ rule t s k m f
