-- Trees whose braces stand in pairs and whose quoted texts are whole, part by part, as tokens are read in modes.
use Rattle.std.specs.Prelude.{◌≡◌, Bool, true, false, not, ◌||◌, [], ◌∷◌}
use Rattle.php_tree.specs.declared.kind.NodeKind.{NodeKind}
use Rattle.php_tree.specs.declared.kind.NodeKind.TheVariants as k
use Rattle.php_tree.specs.declared.token.Token.{Token}
use Rattle.php_tree.specs.declared.token.TokenKind.TheVariants as kind
use Rattle.php_tree.specs.Tree.{Forest, Tree, none, leaf, node, leaves, ◌+++◌}
use Rattle.php_shapes.specs.Places.{is_expression}
use Rattle.syntax_rules.specs.BraceOffset.{is_brace_offset}
use Rattle.syntax_rules.specs.DotPrecedence.{is_dot}
use Rattle.syntax_rules.specs.Together.{is_quoted}
use Rattle.rewritten_shapes.specs.paired.Tokens.{is_code_token, IsMark, opens_text, has_stop, begins_inside, ends_inside}

-- whether a kind is that of a cast
abbrev pub is_cast : NodeKind → Bool
is_cast k.Cast = true
is_cast _ = false

-- whether the parts of a node of this kind may stand in any order: it is no quoted text, no offset in braces and no cast
abbrev pub is_common : NodeKind → Bool
is_common j = not (is_quoted j || (is_brace_offset j || is_cast j))

abbrev pub is_ternary : NodeKind → Bool
is_ternary k.Ternary = true
is_ternary k.ShortTernary = true
is_ternary _ = false

-- whether the rules that group may put a node in parentheses
abbrev pub may_be_grouped : Tree → Bool
may_be_grouped t = is_ternary t.0 || is_dot t

-- An expression begins and ends in code, and one that may be put in parentheses has an operator of its own.
pub record IsStanding (j : NodeKind) (c : Forest) : Type 0 where
  pub begins : is_expression j ≡ true → begins_inside (leaves c) ≡ true
  pub ends : is_expression j ≡ true → ends_inside (leaves c) ≡ true
  pub stops : may_be_grouped (j, c) ≡ true → has_stop c ≡ true

-- ---- simple variables of quoted texts

-- A simple offset and its `]`: a label or a number, a number behind `-`, or a variable. `[` is 91, `]` 93 and `-` 45.
pub data IsKey : Forest → Type 0 where
  label : {t u : Token} → t.kind ≡ kind.Label → IsMark 93 u → IsKey (leaf t (leaf u none))
  number : {t u : Token} → t.kind ≡ kind.Int → IsMark 93 u → IsKey (leaf t (leaf u none))
  negative : {s t u : Token} → IsMark 45 s → t.kind ≡ kind.Int → IsMark 93 u → IsKey (leaf s (leaf t (leaf u none)))
  variable :
      {t u : Token} → t.kind ≡ kind.Variable → IsMark 93 u → IsKey (node k.Variable (leaf t none) (leaf u none))

-- A variable, alone, with a simple offset, or with a simple property: `->` is 45 and 62.
pub data IsSimple : NodeKind → Forest → Type 0 where
  alone : {t : Token} → t.kind ≡ kind.Variable → IsSimple k.Variable (leaf t none)
  with_offset :
      {t o : Token} {f : Forest} → t.kind ≡ kind.Variable → IsMark 91 o → IsKey f →
      IsSimple k.Offset (node k.Variable (leaf t none) (leaf o f))
  with_property :
      {t o u : Token} → t.kind ≡ kind.Variable → o.kind ≡ kind.Op → o.text ≡ 45 ∷ 62 ∷ [] → u.kind ≡ kind.Label →
      IsSimple k.Prop (node k.Variable (leaf t none) (leaf o (leaf u none)))

-- ---- parts

-- Paired f: parts that are read from code or inline HTML on. Each `{` has its `}` among the same parts, and each `(` its
-- `)`.
-- Interpolated f: parts of a quoted text behind its opening token, up to its end.
mutual
  pub data Paired : Forest → Type 0 where
    no_part : Paired none
    token : {t : Token} {f : Forest} → is_code_token t ≡ true → Paired f → Paired (leaf t f)
    rounds :
        {t u : Token} {f g h : Forest} → IsMark 40 t → Paired g → IsMark 41 u → Paired h → f ≡ g +++ leaf u h →
        Paired (leaf t f)
    braces :
        {t u : Token} {f g h : Forest} → IsMark 123 t → Paired g → IsMark 125 u → Paired h → f ≡ g +++ leaf u h →
        Paired (leaf t f)
    part : {j : NodeKind} {c f : Forest} → is_common j ≡ true → IsStanding j c → Paired c → Paired f → Paired (node j c f)
    brace_offset :
        {i j : NodeKind} {t u : Token} {b c f : Forest} → Paired (node i b none) → IsMark 123 t → Paired (node j c none) →
        IsMark 125 u → Paired f → Paired (node k.BraceOffset (node i b (leaf t (node j c (leaf u none)))) f)
    cast :
        {j : NodeKind} {t : Token} {b f : Forest} → t.kind ≡ kind.Cast → Paired (node j b none) → Paired f →
        Paired (node k.Cast (leaf t (node j b none)) f)
    text :
        {t : Token} {c f : Forest} → opens_text t.kind ≡ true → Interpolated c → Paired f →
        Paired (node k.Quoted (leaf t c) f)

  pub data Interpolated : Forest → Type 0 where
    text_end : {t : Token} → t.kind ≡ kind.QuotedEnd → Interpolated (leaf t none)
    piece : {t : Token} {f : Forest} → t.kind ≡ kind.Piece → Interpolated f → Interpolated (leaf t f)
    simple : {j : NodeKind} {c f : Forest} → IsSimple j c → Interpolated f → Interpolated (node j c f)
    -- `{$..}`
    curly :
        {j : NodeKind} {t u : Token} {c f : Forest} → t.kind ≡ kind.CurlyOpen → Paired (node j c none) → IsMark 125 u →
        Interpolated f → Interpolated (leaf t (node j c (leaf u f)))
    -- `${name}`
    named :
        {t n u : Token} {f : Forest} → t.kind ≡ kind.DollarBrace → n.kind ≡ kind.VarName → IsMark 125 u →
        Interpolated f → Interpolated (leaf t (leaf n (leaf u f)))
    -- `${name[..]}`
    named_offset :
        {j : NodeKind} {t n o s u : Token} {c f : Forest} → t.kind ≡ kind.DollarBrace → n.kind ≡ kind.VarName →
        IsMark 91 o → Paired (node j c none) → IsMark 93 s → IsMark 125 u → Interpolated f →
        Interpolated (leaf t (leaf n (leaf o (node j c (leaf s (leaf u f))))))
    -- `${..}`
    expression :
        {j : NodeKind} {t u : Token} {c f : Forest} → t.kind ≡ kind.DollarBrace → Paired (node j c none) → IsMark 125 u →
        Interpolated f → Interpolated (leaf t (node j c (leaf u f)))
