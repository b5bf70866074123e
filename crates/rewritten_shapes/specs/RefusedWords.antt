-- Words that 8.3 refuses where 7.4 takes them as labels: `match`, `readonly`, `mixed` and `never` (PHP manual, "List of Keywords"
-- and "List of other reserved words"; the RFC on match expressions; UPGRADING 8.0, 8.1 and 8.3).
use Rattle.std.specs.Prelude.{Bool, true, false, ◌&&◌, ◌||◌, if◌then◌else◌}
use Rattle.php_tree.specs.declared.token.Token.{Token}
use Rattle.php_tree.specs.declared.kind.NodeKind.{NodeKind}
use Rattle.php_tree.specs.declared.kind.NodeKind.TheVariants as k
use Rattle.php_tree.specs.Tree.{Forest, none, leaf, node}
use Rattle.php_terminals.specs.declared.terminal.Terminal.{Terminal}
use Rattle.php_terminals.specs.declared.terminal.Terminal.TheVariants as t
use Rattle.php_terminals.specs.Classify.{terminal, names_refused}
use Rattle.tracked_changes.specs.Draft.{rewritten, unchanged}
use Rattle.syntax_rules.specs.SplitName.{whole_names}

-- the parts of a node with each name one token, so that a label alone is a name without `\`, or no name
abbrev pub named : Forest → Forest
named c = rewritten (whole_names true (unchanged c))

-- `match`
abbrev pub is_match : Terminal → Bool
is_match t.Match = true
is_match _ = false

-- `match` or `readonly`
abbrev pub is_keyword_now : Terminal → Bool
is_keyword_now t.Match = true
is_keyword_now t.Readonly = true
is_keyword_now _ = false

-- `mixed` or `never`
abbrev pub is_type_now : Terminal → Bool
is_type_now t.MixedOrNever = true
is_type_now _ = false

-- any of the four
abbrev pub is_any_of_them : Terminal → Bool
is_any_of_them x = is_keyword_now x || is_type_now x

-- whether a token of a class is among parts
abbrev pub has : (Terminal → Bool) → Forest → Bool
has which none = false
has which (leaf x f) = which (terminal x) || has which f
has which (node j b f) = has which f

-- ---- declarations of classes

-- what stands before the name that a class, an interface or a trait declares
abbrev pub declares : Terminal → Bool
declares t.Class = true
declares t.Interface = true
declares t.Trait = true
declares _ = false

-- whether the declared name is one of the four, or another name is `match` or `readonly`
abbrev pub in_class : Bool → Forest → Bool
in_class is_declared none = false
in_class is_declared (leaf x f) =
    (if is_declared then is_any_of_them (terminal x) else is_keyword_now (terminal x)) || in_class (declares (terminal x)) f
in_class is_declared (node j b f) = in_class false f

-- ---- names before something else

abbrev pub is_double_colon : Terminal → Bool
is_double_colon t.DoubleColon = true
is_double_colon _ = false

abbrev pub is_brace : Terminal → Bool
is_brace t.OpenBrace = true
is_brace _ = false

-- whether `match` or `readonly` stands before a token of a class
abbrev pub has_before : (Terminal → Bool) → Forest → Bool
has_before end none = false
has_before end (leaf x f) = if end (terminal x) then false else is_keyword_now (terminal x) || has_before end f
has_before end (node j b f) = has_before end f

-- ---- uses

abbrev pub is_of_code : Terminal → Bool
is_of_code t.Function = true
is_of_code t.Const = true
is_of_code _ = false

abbrev pub is_comma : Terminal → Bool
is_comma t.Comma = true
is_comma _ = false

abbrev pub is_as : Terminal → Bool
is_as t.As = true
is_as _ = false

abbrev pub is_root : Terminal → Bool
is_root t.Backslash = true
is_root _ = false

-- whether the next token says that a name is not the one that the use gives: an alias or braces stand behind it
abbrev pub is_renamed : Forest → Bool
is_renamed none = false
is_renamed (leaf x f) = is_as (terminal x) || is_root (terminal x)
is_renamed (node j b f) = false

-- a name with `\`, but for one that begins with `namespace\`
abbrev pub is_whole_name : Terminal → Bool
is_whole_name t.QualifiedName = true
is_whole_name t.FullName = true
is_whole_name _ = false

-- whether a token is a label `mixed` or `never`, or a name with `\` whose last part is
abbrev pub is_type_name : Token → Bool
is_type_name x = is_type_now (terminal x) || is_whole_name (terminal x) && names_refused x.text

-- Whether a use has a refused word: `match` or `readonly` as a whole name or an alias, `mixed` or `never` where it gives a class
-- that name. `uses` where names are classes unless a word says otherwise, `of_class` where this one is.
abbrev pub in_use : Bool → Bool → Forest → Bool
in_use uses of_class none = false
in_use uses of_class (leaf x f) =
    is_keyword_now (terminal x)
    || of_class && is_type_name x && (if is_renamed f then false else true)
    || in_use uses (if is_comma (terminal x) then uses else (if is_of_code (terminal x) then false else of_class)) f
in_use uses of_class (node j b f) = in_use uses of_class f

-- a use, by what stands behind its first word
abbrev pub in_uses : Forest → Bool
in_uses none = false
in_uses (leaf x none) = false
in_uses (leaf x (leaf y f)) = in_use (if is_of_code (terminal y) then false else true) (if is_of_code (terminal y) then false else true) (leaf y f)
in_uses (leaf x (node j b f)) = false
in_uses (node j b f) = false

-- ---- nodes

-- whether a node has a word that 8.3 refuses there
abbrev pub has_refused : NodeKind → Forest → Bool
-- the name of a function, and the name of one that is called
has_refused k.Function c = has is_match (named c)
has_refused k.Call c = has is_match (named c)
-- names of classes, and constants that are read
has_refused k.Constant c = has is_keyword_now (named c)
has_refused k.TypeName c = has is_keyword_now (named c)
has_refused k.New c = has is_keyword_now (named c)
has_refused k.InstanceOf c = has is_keyword_now (named c)
has_refused k.Try c = has is_keyword_now (named c)
has_refused k.ClassConstant c = has_before is_double_colon (named c)
has_refused k.StaticProp c = has_before is_double_colon (named c)
has_refused k.StaticCall c = has_before is_double_colon (named c)
has_refused k.TraitUse c = has_before is_brace (named c)
-- names that are declared
has_refused k.Class c = in_class false (named c)
has_refused k.Interface c = in_class false (named c)
has_refused k.Trait c = in_class false (named c)
has_refused k.Const c = has is_keyword_now (named c)
-- names that are imported
has_refused k.Use c = in_uses (named c)
-- other labels
has_refused k.Goto c = has is_keyword_now (named c)
has_refused k.LabelStmt c = has is_keyword_now (named c)
has_refused k.Declare c = has is_keyword_now (named c)
has_refused _ c = false
