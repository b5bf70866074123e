-- What the rules on syntax make of trees, before names are joined: tokens and nodes as they were, nodes that a rule changes,
-- and expressions in parentheses.
use Rattle.std.proofs.Common.{◌≡◌, ℕ, Bool, true, false, IsTrue, List, [], ◌∷◌, codes, refl, ap, sym, ◌∙◌}
use Rattle.php_tree.specs.declared.token.TokenKind.{TokenKind}
use Rattle.php_tree.specs.declared.token.TokenKind.TheVariants as token
use Rattle.php_tree.specs.declared.token.Token.{Token}
use Rattle.php_tree.specs.declared.kind.NodeKind.{NodeKind}
use Rattle.php_tree.specs.declared.kind.NodeKind.TheVariants as kind
use Rattle.php_tree.specs.Tree.{Forest, none, leaf, node}
use Rattle.php_meaning.specs.runs.Kinds.{is_expression}
use Rattle.php_meaning.specs.Rules.{cast_word}
use Rattle.syntax_rules.specs.DollarBrace.{is_dollar_brace, ends_bare}
use Rattle.syntax_rules.specs.Keeps.{token_of}

-- a token of a kind with a text
pub record IsToken (kind : TokenKind) (text : List ℕ) (t : Token) : Type 0 where
  pub kind_is : t.kind ≡ kind
  pub text_is : t.text ≡ text

-- whether `${` stands first
abbrev pub begins : Forest → Bool
begins none = false
begins (leaf t f) = is_dollar_brace t.kind
begins (node k c f) = false

mutual
  pub data Rewrites : Forest → Forest → Type 0 where
    ends : Rewrites none none
    same_token : {t u : Token} {f g : Forest} → IsToken t.kind t.text u → Rewrites f g → Rewrites (leaf t f) (leaf u g)
    inner : {k : NodeKind} {c d f g : Forest} → Rewrites c d → Rewrites f g → Rewrites (node k c f) (node k d g)
    changed : {k j : NodeKind} {c d f g : Forest} → Changed k c j d → Rewrites f g → Rewrites (node k c f) (node j d g)
    parens :
        {k j : NodeKind} {c d f g : Forest} {o p : Token} → IsTrue (is_expression k) →
        Rewrites (node k c none) (node j d none) → Rewrites f g →
        Rewrites (node k c f) (node kind.Paren (leaf o (node j d (leaf p none))) g)

  pub data Changed : NodeKind → Forest → NodeKind → Forest → Type 0 where
    brackets :
        {k j l i : NodeKind} {c d e b : Forest} {o p q r : Token} →
        Rewrites (node k c none) (node l e none) → Rewrites (node j d none) (node i b none) →
        Changed kind.BraceOffset (node k c (leaf o (node j d (leaf p none)))) kind.Offset (node l e (leaf q (node i b (leaf r none))))
    float :
        {t u : Token} {k j : NodeKind} {c d : Forest} → cast_word t.text ≡ codes "(real)" → u.text ≡ codes "(float)" →
        Rewrites (node k c none) (node j d none) →
        Changed kind.Cast (leaf t (node k c none)) kind.Cast (leaf u (node j d none))
    null :
        {u x o n p : Token} → cast_word u.text ≡ codes "(unset)" → n.text ≡ codes "null" →
        Changed kind.Cast (leaf u (node kind.Variable (leaf x none) none)) kind.Paren
        (leaf o (node kind.Constant (leaf n none) (leaf p none)))
    curled : {t u : Token} {f g : Forest} → u.kind ≡ t.kind → Curled f g → Changed kind.Quoted (leaf t f) kind.Quoted (leaf u g)

  -- the same of what stands behind the opening token of a quoted text
  pub data Curled : Forest → Forest → Type 0 where
    closing :
        {lead text : List ℕ} {start : ℕ} {u : Token} → IsToken token.QuotedEnd text u →
        Curled (leaf (token_of token.QuotedEnd lead text start) none) (leaf u none)
    piece :
        {lead text : List ℕ} {start : ℕ} {u : Token} {f g : Forest} → IsToken token.Piece text u → Curled f g →
        Curled (leaf (token_of token.Piece lead text start) f) (leaf u g)
    escaped :
        {lead text new : List ℕ} {start : ℕ} {u : Token} {f g : Forest} → ends_bare false text ≡ true → begins f ≡ true →
        IsToken token.Piece new u → Curled f g →
        Curled (leaf (token_of token.Piece lead text start) f) (leaf u g)
    simple :
        {k j : NodeKind} {c d f g : Forest} → Rewrites (node k c none) (node j d none) → Curled f g →
        Curled (node k c f) (node j d g)
    code :
        {lead text shut_lead : List ℕ} {start shut_start : ℕ} {k j : NodeKind} {c d f g : Forest} {u v : Token} →
        IsToken token.CurlyOpen text u → IsToken token.Op (codes "}") v →
        Rewrites (node k c none) (node j d none) → Curled f g →
        Curled (leaf (token_of token.CurlyOpen lead text start) (node k c (leaf (token_of token.Op shut_lead (codes "}") shut_start) f)))
        (leaf u (node j d (leaf v g)))
    name :
        {lead text word shut_lead : List ℕ} {start word_start shut_start : ℕ} {f g : Forest} {u x v : Token} →
        u.kind ≡ token.CurlyOpen → x.text ≡ 36 ∷ word → IsToken token.Op (codes "}") v → Curled f g →
        Curled
        (leaf (token_of token.DollarBrace lead text start) (leaf (token_of token.VarName [] word word_start)
        (leaf (token_of token.Op shut_lead (codes "}") shut_start) f)))
        (leaf u (node kind.Variable (leaf x none) (leaf v g)))
    offset :
        {lead text word open_lead shut_lead end_lead : List ℕ} {start word_start open_start shut_start end_start : ℕ}
        {k j : NodeKind} {c d f g : Forest} {u x o q v : Token} →
        u.kind ≡ token.CurlyOpen → x.text ≡ 36 ∷ word → IsToken token.Op (codes "}") v → IsTrue (is_expression k) →
        Rewrites (node k c none) (node j d none) → Curled f g →
        Curled
        (leaf (token_of token.DollarBrace lead text start) (leaf (token_of token.VarName [] word word_start)
        (leaf (token_of token.Op open_lead (codes "[") open_start) (node k c
        (leaf (token_of token.Op shut_lead (codes "]") shut_start) (leaf (token_of token.Op end_lead (codes "}") end_start) f))))))
        (leaf u (node kind.Offset (node kind.Variable (leaf x none) (leaf o (node j d (leaf q none)))) (leaf v g)))
    expression :
        {lead text shut_lead : List ℕ} {start shut_start : ℕ} {k j : NodeKind} {c d f g : Forest} {u a b q v : Token} →
        u.kind ≡ token.CurlyOpen → IsToken token.Op (codes "}") v → IsTrue (is_expression k) →
        Rewrites (node k c none) (node j d none) → Curled f g →
        Curled (leaf (token_of token.DollarBrace lead text start) (node k c (leaf (token_of token.Op shut_lead (codes "}") shut_start) f)))
        (leaf u (node kind.Variable (leaf a (leaf b (node j d (leaf q none)))) (leaf v g)))

-- ---- trivia and places

-- the same nodes, and tokens of the same kinds and texts
pub data SameTokens : Forest → Forest → Type 0 where
  no_token : SameTokens none none
  one_token : {t u : Token} {f g : Forest} → IsToken t.kind t.text u → SameTokens f g → SameTokens (leaf t f) (leaf u g)
  one_node : {k : NodeKind} {c d f g : Forest} → SameTokens c d → SameTokens f g → SameTokens (node k c f) (node k d g)

-- a token that is the same as another one
pub passed_on : {k : TokenKind} {w : List ℕ} {t u : Token} → IsToken k w t → IsToken t.kind t.text u → IsToken k w u
passed_on a b = record { kind_is = b.kind_is ∙ a.kind_is; text_is = b.text_is ∙ a.text_is }

mutual
  pub stays : {f g h : Forest} → Rewrites f g → SameTokens g h → Rewrites f h
  stays ends no_token = ends
  stays (same_token i r) (one_token j a) = same_token (passed_on i j) (stays r a)
  stays (inner p q) (one_node a b) = inner (stays p a) (stays q b)
  stays (changed p q) (one_node a b) = changed (changed_stays p a) (stays q b)
  stays (parens e p q) (one_node (one_token i (one_node a (one_token j no_token))) b) = parens e (stays p (one_node a no_token)) (stays q b)

  changed_stays : {k j : NodeKind} {c d e : Forest} → Changed k c j d → SameTokens d e → Changed k c j e
  changed_stays (brackets p q) (one_node a (one_token i (one_node b (one_token j no_token)))) =
      brackets (stays p (one_node a no_token)) (stays q (one_node b no_token))
  changed_stays (float e d p) (one_token i (one_node a no_token)) = float e (i.text_is ∙ d) (stays p (one_node a no_token))
  changed_stays (null e d) (one_token i (one_node (one_token j no_token) (one_token l no_token))) = null e (j.text_is ∙ d)
  changed_stays (curled e p) (one_token i a) = curled (i.kind_is ∙ e) (curled_stays p a)

  curled_stays : {f g h : Forest} → Curled f g → SameTokens g h → Curled f h
  curled_stays (closing i) (one_token j no_token) = closing (passed_on i j)
  curled_stays (piece i p) (one_token j a) = piece (passed_on i j) (curled_stays p a)
  curled_stays (escaped b h i p) (one_token j a) = escaped b h (passed_on i j) (curled_stays p a)
  curled_stays (simple r p) (one_node a b) = simple (stays r (one_node a no_token)) (curled_stays p b)
  curled_stays (code i j r p) (one_token l (one_node a (one_token m b))) =
      code (passed_on i l) (passed_on j m) (stays r (one_node a no_token)) (curled_stays p b)
  curled_stays (name e x j p) (one_token l (one_node (one_token n no_token) (one_token m b))) =
      name (l.kind_is ∙ e) (n.text_is ∙ x) (passed_on j m) (curled_stays p b)
  curled_stays (offset e x j z r p) (one_token l (one_node (one_node (one_token n no_token) (one_token o (one_node a (one_token q no_token)))) (one_token m b))) =
      offset (l.kind_is ∙ e) (n.text_is ∙ x) (passed_on j m) z (stays r (one_node a no_token)) (curled_stays p b)
  curled_stays (expression e j z r p) (one_token l (one_node (one_token n (one_token o (one_node a (one_token q no_token)))) (one_token m b))) =
      expression (l.kind_is ∙ e) (passed_on j m) z (stays r (one_node a no_token)) (curled_stays p b)

-- a node, and what follows it
pub before_others : {k j : NodeKind} {c d f g : Forest} → Rewrites (node k c none) (node j d none) → Rewrites f g → Rewrites (node k c f) (node j d g)
before_others (inner p r) q = inner p q
before_others (changed p r) q = changed p q
before_others (parens e p r) q = parens e p q
