-- The declarations of a program, computed from its files once: what a rule may know of a function or class that stands
-- elsewhere. Each has a name that no rewriting changes.
use Rattle.std.specs.Prelude.{ℕ, Bool, true, false, ◌&&◌, nat_eq, if◌then◌else◌, List, [], ◌∷◌, ◌++◌, codes, Option, Some, None}
use Rattle.std.specs.Str.{bytes_eq}
use Rattle.php_tree.specs.declared.kind.NodeKind.{NodeKind}
use Rattle.php_tree.specs.declared.kind.NodeKind.TheVariants as kind
use Rattle.php_tree.specs.declared.token.TokenKind.TheVariants as token
use Rattle.php_tree.specs.Tree.{Forest, none, leaf, node}
use Rattle.scope_names.specs.Slot.{Declared}
use Rattle.scope_names.specs.Form.{Form, Word, form, texts}
use Rattle.scope_names.specs.Words.{is_keyword, first_word, before_word, last_part}
use Rattle.scope_names.specs.Sites.{Site, file_site, is_declaration, declarations, declared_here, within, beside}
use Rattle.php_meaning.specs.Cause.{Outcome, Gives, Outside}
use Rattle.php_meaning.specs.literals.Literals.{name_of}
use Rattle.php_meaning.specs.literals.TextLiterals.{text_literal}
use Rattle.php_meaning.specs.runs.World.{Bytes}
use Rattle.php_meaning.specs.names.Refused.{kid_forms, no_loops, refused}

-- A declaration: where it stands, its kind and form, the kinds and forms of its children that are no expressions, the class that
-- it is a member of, and whether it is unconditional. The `const` statements stand among them, under the number of the declaration
-- behind; and for each file the names that its calls of `define` write down, as a `Call`, and an `Empty` where PHP refuses to
-- compile it.
pub record Declaration : Type 0 where
  pub at : Declared
  pub kind : NodeKind
  pub site : Site
  pub form : Form
  pub kids : List (NodeKind × Form)
  pub of : Option Declared
  pub is_top : Bool

abbrev pub Tables : Type 0
Tables = List Declaration

-- whether what stands in a node is unconditional where the node is (PHP's source, `zend_compile_top_stmt`: a block that stands
-- for itself counts as its statements)
abbrev pub keeps_top : NodeKind → Bool
keeps_top kind.Block = true
keeps_top kind.Namespace = true
keeps_top kind.Declare = true
keeps_top k = false

-- the class that a node's children are members of
abbrev pub holder : NodeKind → Site → Option Declared
holder kind.Class s = Some (declared_here s)
holder kind.Interface s = Some (declared_here s)
holder k s = None

-- the kinds that stand in the tables
abbrev pub is_told : NodeKind → Bool
is_told kind.Const = true
is_told k = is_declaration k

abbrev pub entry : Bool → Declaration → Tables → Tables
entry true d ds = d ∷ ds
entry false d ds = ds

-- the declarations of a forest that begins at this site
abbrev pub listed : Site → Option Declared → Bool → Forest → Tables
listed s of top none = []
listed s of top (leaf t f) = listed s of top f
listed s of top (node k c f) =
    entry (is_told k)
    (record { at = declared_here s; kind = k; site = s; form = form c; kids = kid_forms c; of = of; is_top = top })
    (listed (within k c s) (holder k s) (keeps_top k && top) c) ++ listed (beside k c s) of top f

-- a file that PHP refuses to compile, under the number behind its declarations
abbrev pub refused_file : Bytes → ℕ → Declaration
refused_file path n = record {
  at = record { file = path; number = n };
  kind = kind.Empty;
  site = file_site path;
  form = [];
  kids = [];
  of = None;
  is_top = true;
}

-- ---- constants by `define`

-- the bytes that a text literal writes
abbrev pub bytes_written : Outcome Bytes → List Bytes
bytes_written (Gives w) = w ∷ []
bytes_written (Outside c) = []

-- the text that a first argument writes down, in parentheses or not
abbrev pub written_of : NodeKind → Form → List Bytes → List Bytes
written_of kind.Text f inside = bytes_written (text_literal (first_word (texts f)))
written_of kind.Paren f inside = inside
written_of kind.Args f inside = inside
written_of k f inside = []

abbrev pub first_written : Forest → List Bytes
first_written none = []
first_written (leaf t f) = first_written f
first_written (node k c f) = written_of k (form c) (first_written c)

-- whether a call is one of `define`, by the last part of its name
abbrev pub is_define : Form → Bool
is_define f = is_keyword (codes "define") (last_part (name_of (before_word (codes "(") (texts f))))

abbrev pub defined_by : NodeKind → Form → List Bytes → List Bytes
defined_by kind.Call f names = if is_define f then names else []
defined_by k f names = []

-- the names that the calls of `define` in a forest write down, reached or not
abbrev pub defines : Forest → List Bytes
defines none = []
defines (leaf t f) = defines f
defines (node k c f) = (defined_by k (form c) (first_written c) ++ defines c) ++ defines f

abbrev pub as_words : List Bytes → Form
as_words [] = []
as_words (w ∷ ws) = Word token.Text w ∷ as_words ws

-- those of a file, under the number behind its declarations
abbrev pub defining : Bytes → ℕ → List Bytes → Declaration
defining path n names = record {
  at = record { file = path; number = n };
  kind = kind.Call;
  site = file_site path;
  form = as_words names;
  kids = [];
  of = None;
  is_top = true;
}

abbrev pub file_entry : Bytes → Forest → Tables
file_entry path f =
    entry (refused no_loops f) (refused_file path (declarations f)) (defining path (declarations f) (defines f) ∷ [])

-- the declarations of a program's files, and which files PHP refuses to compile
abbrev pub tables_of : List (List ℕ × Forest) → Tables
tables_of [] = []
tables_of (f ∷ fs) = listed (file_site f.0) None true f.1 ++ (file_entry f.0 f.1 ++ tables_of fs)

-- ---- finding

abbrev pub is_same_declared : Declared → Declared → Bool
is_same_declared a b = nat_eq a.number b.number && bytes_eq a.file b.file

abbrev pub declaration_at : Tables → Declared → Option Declaration
declaration_at [] d = None
declaration_at (e ∷ es) d = if is_declaration e.kind && is_same_declared e.at d then Some e else declaration_at es d
