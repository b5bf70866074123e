-- Nodes that no rule touches: what is asked of their tokens and of the nodes inside them.
use Rattle.std.specs.Prelude.{◌≡◌, ◌⊎◌, ℕ, Bool, true, false, not, ◌==◌, ◌&&◌, ◌||◌, List, [], ◌∷◌, codes}
use Rattle.std.specs.List.{list_any}
use Rattle.std.specs.Str.{bytes_eq}
use Rattle.php_tree.specs.declared.kind.NodeKind.{NodeKind}
use Rattle.php_tree.specs.declared.kind.NodeKind.TheVariants as kind
use Rattle.php_tree.specs.declared.token.Token.{Token}
use Rattle.php_tree.specs.declared.token.TokenKind.{TokenKind}
use Rattle.php_tree.specs.declared.token.TokenKind.TheVariants as token
use Rattle.php_tree.specs.Tree.{Forest, none, leaf, node}
use Rattle.php_terminals.specs.declared.terminal.Terminal.{Terminal}
use Rattle.php_terminals.specs.Classify.{terminal}
use Rattle.php_terminals.specs.Words.{is_word}
use Rattle.syntax_rules.specs.DollarBrace.{is_dollar_brace}
use Rattle.syntax_rules.specs.SplitName.{is_keyword, is_name, is_nothing}
use Rattle.syntax_upgrade.specs.Enums.{is_label}
use Rattle.syntax_upgrade.specs.NodeRule.{is_reported_kind, is_reported_token}
use Rattle.syntax_upgrade.specs.node_rules.{node_rules}
use Rattle.syntax_upgrade.specs.ReservedName.{is_doubtful}

-- whether a rule edits nodes of this kind, or has them in parentheses within others
abbrev pub is_edited_kind : NodeKind → Bool
is_edited_kind kind.Ternary = true
is_edited_kind kind.ShortTernary = true
is_edited_kind kind.BraceOffset = true
is_edited_kind kind.Cast = true
is_edited_kind _ = false

-- whether no rule touches nodes of this kind
abbrev pub is_calm_kind : NodeKind → Bool
is_calm_kind k = not (is_edited_kind k) && not (is_reported_kind node_rules k)

-- whether no rule edits tokens of this kind
abbrev pub is_calm_token : TokenKind → Bool
is_calm_token token.Name = false
is_calm_token token.DollarBrace = false
is_calm_token _ = true

-- whether no rule looks for tokens with this text: `\\` and the empty text are none
abbrev pub is_calm_text : List ℕ → Bool
is_calm_text [] = false
is_calm_text (b ∷ []) = not (b == 92)
is_calm_text (b ∷ c ∷ bs) = true

-- whether a text is `.`
abbrev pub may_join : List ℕ → Bool
may_join [] = false
may_join (b ∷ []) = b == 46
may_join (b ∷ c ∷ bs) = false

-- whether a text is an operator that takes a `.` beside it apart: `+`, `-`, `<<` or `>>`
abbrev pub may_take : List ℕ → Bool
may_take [] = false
may_take (b ∷ []) = b == 43 || b == 45
may_take (b ∷ c ∷ []) = b == 60 && c == 60 || b == 62 && c == 62
may_take (b ∷ c ∷ d ∷ bs) = false

-- whether there is a `#`
abbrev pub has_hash : List ℕ → Bool
has_hash bs = list_any (λ b. b == 35) bs

-- whether it is a label `enum`
abbrev pub is_enum : TokenKind → List ℕ → Bool
is_enum kind text = is_label kind && is_word (codes "enum") text

-- whether no rule touches a token
abbrev pub is_calm : Token → Bool
is_calm x =
    is_calm_token x.kind && (not (is_doubtful (terminal x)) && (is_calm_text x.text && (not (has_hash x.lead) && (not (is_enum x.kind x.text) && not (is_reported_token node_rules x)))))

-- No rule touches the token.
pub record IsCalm (x : Token) : Type 0 where
  pub lead : list_any (λ b. b == 35) x.lead ≡ false
  pub some : is_nothing x.text ≡ false
  pub no_name : is_name x.kind ≡ false
  pub no_brace : is_dollar_brace x.kind ≡ false
  pub no_root : bytes_eq x.text (codes "\\") ≡ false
  pub sure : is_doubtful (terminal x) ≡ false
  pub no_enum : (is_label x.kind && is_word (codes "enum") x.text) ≡ false
  pub unreported : is_reported_token node_rules x ≡ false

-- all tokens and all nodes are so
abbrev pub AreCalm : Forest → Type 0
AreCalm none = Unit {0}
AreCalm (leaf t f) = IsCalm t × AreCalm f
AreCalm (node k c f) = (is_calm_kind k ≡ true) × (AreCalm c × AreCalm f)

-- none of some tokens takes a `.` apart
abbrev pub NoneTakes : List Token → Type 0
NoneTakes [] = Unit {0}
NoneTakes (x ∷ xs) = (may_take x.text ≡ false) × NoneTakes xs

-- none of some tokens is a `.`
abbrev pub NoneJoins : List Token → Type 0
NoneJoins [] = Unit {0}
NoneJoins (x ∷ xs) = (may_join x.text ≡ false) × NoneJoins xs

-- no `.` is taken apart among some tokens
abbrev pub AreApart : List Token → Type 0
AreApart ts = NoneTakes ts ⊎ NoneJoins ts

-- the class of the last of some tokens, or another one
abbrev pub last_class : Terminal → List Token → Terminal
last_class x [] = x
last_class x (t ∷ ts) = last_class (terminal t) ts

-- whether the last of some tokens is a keyword
abbrev pub last_keyword : Bool → List Token → Bool
last_keyword b [] = b
last_keyword b (t ∷ ts) = last_keyword (is_keyword t.kind) ts

abbrev pub has_no_token : List Token → Bool
has_no_token [] = true
has_no_token (t ∷ ts) = false
