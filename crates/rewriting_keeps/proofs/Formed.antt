-- In a tree with the shape of the grammar the parts of nodes that a rule changes are as the rules take them.
use Rattle.std.proofs.Common.{◌≡◌, ℕ, ◌+◌, ◌-◌, Bool, true, false, not, cond, ◌&&◌, ◌||◌, IsTrue, nat_eq, nat_le, List, [], ◌∷◌, All, codes, refl, ap, sym, ◌∙◌, subst}
use Rattle.php_tree.specs.declared.token.TokenKind.{TokenKind}
use Rattle.php_tree.specs.declared.token.TokenKind.TheVariants as token
use Rattle.php_tree.specs.declared.token.Token.{Token}
use Rattle.php_tree.specs.declared.kind.NodeKind.{NodeKind}
use Rattle.php_tree.specs.declared.kind.NodeKind.TheVariants as kind
use Rattle.php_tree.specs.declared.version.Version.TheVariants.{V74}
use Rattle.php_tree.specs.Tree.{Forest, none, leaf, node, File, ◌+++◌}
use Rattle.php_terminals.specs.Classify.{terminal}
use Rattle.php_terminals.specs.Marks.{closes, opens}
use Rattle.php_grammar.specs.Levels.{level}
use Rattle.php_shapes.specs.Forms.{form}
use Rattle.php_shapes.specs.Notation.{Rule, nothing, word, place, inside, ◌~◌, ◌|||◌, many, tokens}
use Rattle.php_shapes.specs.Notation as rule
use Rattle.php_shapes.specs.Places.{Operand, may_stand, is_prefix}
use Rattle.php_shapes.specs.Places as shapes
use Rattle.php_shapes.specs.Quoted.{interpolated, quoted_part, simple_key}
use Rattle.php_shapes.specs.Shapes.{
  Shape,
  is_balanced,
  Fits,
  is_nothing,
  is_word,
  is_kind,
  is_place,
  is_inside,
  is_both,
  is_first,
  is_second,
  no_more,
  once_more,
  is_tokens,
  IsNode,
  is_node,
}
use Rattle.php_meaning.specs.runs.World.{Bytes}
use Rattle.php_meaning.specs.runs.Kinds.{is_expression}
use Rattle.syntax_rules.specs.Keeps as formed
use Rattle.syntax_rules.specs.Keeps.{token_of, opens_text, is_common, AreFormed, token_first, common, braced, a_cast, IsQuoted}
use Rattle.rewritten_shapes.specs.paired.Tokens as paired
use Rattle.rewritten_shapes.proofs.paired.Fronts.{join_assoc, join_none}
use Rattle.rewritten_shapes.proofs.paired.Marks as told
use Rattle.rewriting_keeps.specs.Laws.{NamesAreDirect, ShapedFilesAreFormed}

front_of : (a b : Bool) → IsTrue (a && b) → IsTrue a
front_of true b h = refl
front_of false b h = cc

back_of : (a b : Bool) → IsTrue (a && b) → IsTrue b
back_of true b h = h
back_of false b h = cc

-- ---- rules that name a kind and its parts

-- whether none of the kinds whose parts a rule changes is among them
abbrev is_fine : Rule → Bool
is_fine nothing = true
is_fine (word c) = true
is_fine (rule.kind k) = true
is_fine (place p) = true
is_fine (inside k r) = is_common k && is_fine r
is_fine (r ~ s) = is_fine r && is_fine s
is_fine (r ||| s) = is_fine r && is_fine s
is_fine (many r) = is_fine r
is_fine tokens = true

form_is_fine : (k : NodeKind) → IsTrue (is_common k) → IsTrue (is_fine (form V74 k))
form_is_fine kind.Block h = refl
form_is_fine kind.Empty h = refl
form_is_fine kind.ExprStmt h = refl
form_is_fine kind.Echo h = refl
form_is_fine kind.Html h = refl
form_is_fine kind.Return h = refl
form_is_fine kind.If h = refl
form_is_fine kind.IfAlt h = refl
form_is_fine kind.While h = refl
form_is_fine kind.DoWhile h = refl
form_is_fine kind.For h = refl
form_is_fine kind.Foreach h = refl
form_is_fine kind.Switch h = refl
form_is_fine kind.Case h = refl
form_is_fine kind.Break h = refl
form_is_fine kind.Continue h = refl
form_is_fine kind.Global h = refl
form_is_fine kind.Statics h = refl
form_is_fine kind.Unset h = refl
form_is_fine kind.Throw h = refl
form_is_fine kind.Try h = refl
form_is_fine kind.Function h = refl
form_is_fine kind.Param h = refl
form_is_fine kind.TypeName h = refl
form_is_fine kind.Class h = refl
form_is_fine kind.Interface h = refl
form_is_fine kind.Trait h = refl
form_is_fine kind.Property h = refl
form_is_fine kind.ClassConst h = refl
form_is_fine kind.Method h = refl
form_is_fine kind.TraitUse h = refl
form_is_fine kind.Const h = refl
form_is_fine kind.Namespace h = refl
form_is_fine kind.Use h = refl
form_is_fine kind.Declare h = refl
form_is_fine kind.Goto h = refl
form_is_fine kind.LabelStmt h = refl
form_is_fine kind.Variable h = refl
form_is_fine kind.Number h = refl
form_is_fine kind.Float h = refl
form_is_fine kind.Text h = refl
form_is_fine kind.Constant h = refl
form_is_fine kind.ClassConstant h = refl
form_is_fine kind.Array h = refl
form_is_fine kind.Item h = refl
form_is_fine kind.List h = refl
form_is_fine kind.Paren h = refl
form_is_fine kind.Offset h = refl
form_is_fine kind.Prop h = refl
form_is_fine kind.StaticProp h = refl
form_is_fine kind.Call h = refl
form_is_fine kind.MethodCall h = refl
form_is_fine kind.StaticCall h = refl
form_is_fine kind.Args h = refl
form_is_fine kind.New h = refl
form_is_fine kind.Isset h = refl
form_is_fine kind.EmptyTest h = refl
form_is_fine kind.Exit h = refl
form_is_fine kind.Closure h = refl
form_is_fine kind.Arrow h = refl
form_is_fine kind.Include h = refl
form_is_fine kind.EvalTest h = refl
form_is_fine kind.Binary h = refl
form_is_fine kind.Prefix h = refl
form_is_fine kind.Postfix h = refl
form_is_fine kind.Ternary h = refl
form_is_fine kind.ShortTernary h = refl
form_is_fine kind.Assign h = refl
form_is_fine kind.AssignRef h = refl
form_is_fine kind.CompoundAssign h = refl
form_is_fine kind.InstanceOf h = refl
form_is_fine kind.Print h = refl
form_is_fine kind.Yield h = refl
form_is_fine kind.Quoted h = cc
form_is_fine kind.BraceOffset h = cc
form_is_fine kind.Cast h = cc

-- ---- rows of parts

joined : {f g : Forest} → AreFormed f → AreFormed g → AreFormed (f +++ g)
joined formed.nothing q = q
joined (token_first p) q = token_first (joined p q)
joined (common h a p) q = common h a (joined p q)
joined (braced a b p) q = braced a b (joined p q)
joined (a_cast a p) q = a_cast a (joined p q)
joined (formed.text h a p) q = formed.text h a (joined p q)

direct_front : (f g : Forest) → NamesAreDirect (f +++ g) → NamesAreDirect f
direct_front none g d = tt
direct_front (leaf t f) g d = (d.0, direct_front f g d.1)
direct_front (node k c f) g d = (d.0, direct_front f g d.1)

direct_rest : (f g : Forest) → NamesAreDirect (f +++ g) → NamesAreDirect g
direct_rest none g d = d
direct_rest (leaf t f) g d = direct_rest f g d.1
direct_rest (node k c f) g d = direct_rest f g d.1

-- tokens in balance
behind_token : (P : Type 0) (a b x y z w : Bool) → (IsTrue x → P) → (IsTrue z → P) → (IsTrue w → P)
    → IsTrue (cond a x (cond b (y && z) w)) → P
behind_token P true b x y z w f g h i = f i
behind_token P false true x y z w f g h i = g (back_of y z i)
behind_token P false false x y z w f g h i = h i

balanced_is_formed : (n : ℕ) (f : Forest) → is_balanced n f ≡ true → AreFormed f
balanced_is_formed n none h = formed.nothing
balanced_is_formed n (leaf x f) h =
    behind_token (AreFormed (leaf x f)) (opens (terminal x)) (closes (terminal x)) _ (not (nat_eq n 0)) _ _
    (λ i. token_first (balanced_is_formed (n + 1) f i)) (λ i. token_first (balanced_is_formed (n - 1) f i)) (λ i. token_first (balanced_is_formed n f i)) h
balanced_is_formed n (node j b f) h = cc

-- ---- tokens by their kinds and texts

as_token : (P : Token → Type 0) (k : TokenKind) (w : List ℕ) (y : Token) → y.kind ≡ k → y.text ≡ w → P (token_of k y.lead w y.start) → P y
as_token P k w y e d p = subst (λ z. P (token_of y.kind y.lead z y.start)) (sym d) (subst (λ z. P (token_of z y.lead w y.start)) (sym e) p)

as_kind : (P : Token → Type 0) (k : TokenKind) (y : Token) → y.kind ≡ k → P (token_of k y.lead y.text y.start) → P y
as_kind P k y e p = subst (λ z. P (token_of z y.lead y.text y.start)) (sym e) p

as_direct : (P : Token → Type 0) (k : TokenKind) (y : Token) → y.kind ≡ k → y.lead ≡ [] → P (token_of k [] y.text y.start) → P y
as_direct P k y e d p = subst (λ z. P (token_of y.kind z y.text y.start)) (sym d) (subst (λ z. P (token_of z [] y.text y.start)) (sym e) p)

-- ---- expressions

same_expressions : (k : NodeKind) → shapes.is_expression k ≡ true → IsTrue (is_expression k)
same_expressions kind.Variable h = h
same_expressions k h = h

stands : (k : NodeKind) (c : Forest) → may_stand V74 (Operand 24) (k, c) ≡ true → IsTrue (is_expression k)
stands k c h = same_expressions k (front_of (shapes.is_expression k) (nat_le (level V74 (k, c)) 24 || is_prefix k) h)

opening : (k : TokenKind) → paired.opens_text k ≡ true → IsTrue (opens_text k)
opening token.Quote h = refl
opening token.HeredocStart h = refl
opening token.Backtick h = refl
opening k h = cc

-- ---- simple variables of quoted texts

key_is_formed : {g : Forest} → Fits V74 simple_key g → AreFormed g
key_is_formed (is_first (is_word p)) = token_first formed.nothing
key_is_formed (is_second (is_first (is_word p))) = token_first formed.nothing
key_is_formed (is_second (is_second (is_first (is_both (is_word p) (is_word q) e)))) = subst AreFormed (sym e) (token_first (token_first formed.nothing))
key_is_formed (is_second (is_second (is_second (is_inside (is_word p) near)))) = common refl (token_first formed.nothing) formed.nothing

simple_part : {f : Forest} → Fits V74 interpolated f → (h : Forest) → IsQuoted h → IsQuoted (f +++ h)
simple_part (is_first (is_inside (is_word p) near)) h o = formed.simple (common refl (token_first formed.nothing) formed.nothing) o
simple_part (is_second (is_first (is_inside {c} (is_both (is_inside (is_word {x} p) m) (is_both (is_word {x = b} q) (is_both {g} r (is_word {x = u} w) d3) d2) d1) near))) h o =
    let same : c ≡ node kind.Variable (leaf x none) (leaf b (g +++ leaf u none)) = d1 ∙ ap (node kind.Variable (leaf x none)) (d2 ∙ ap (leaf b) d3) in
    formed.simple (common refl (subst AreFormed (sym same)
    (common refl (token_first formed.nothing) (token_first (joined (key_is_formed r) (token_first formed.nothing))))) formed.nothing) o
simple_part (is_second (is_second (is_inside {c} (is_both (is_inside (is_word {x} p) m) (is_both (is_word {x = b} q) (is_word {x = u} w) d2) d1) near))) h o =
    let same : c ≡ node kind.Variable (leaf x none) (leaf b (leaf u none)) = d1 ∙ ap (node kind.Variable (leaf x none)) d2 in
    formed.simple (common refl (subst AreFormed (sym same) (common refl (token_first formed.nothing) (token_first (token_first formed.nothing)))) formed.nothing) o

-- ---- trees

mutual
  parts_formed : {r : Rule} {f : Forest} → Fits V74 r f → IsTrue (is_fine r) → NamesAreDirect f → AreFormed f
  parts_formed is_nothing h d = formed.nothing
  parts_formed (is_word a) h d = token_first formed.nothing
  parts_formed (is_kind n) h d = node_formed n d
  parts_formed (is_place a n) h d = node_formed n d
  parts_formed (is_inside {k} {r} p near) h d =
      common (front_of (is_common k) (is_fine r) h) (parts_formed p (back_of (is_common k) (is_fine r) h) d.0) formed.nothing
  parts_formed (is_both {r} {s} {f} {g} {h = i} p q e) h d =
      let parts = subst NamesAreDirect e d in
      subst AreFormed (sym e)
      (joined (parts_formed p (front_of (is_fine r) (is_fine s) h) (direct_front g i parts)) (parts_formed q (back_of (is_fine r) (is_fine s) h) (direct_rest g i parts)))
  parts_formed (is_first {r} {s} p) h d = parts_formed p (front_of (is_fine r) (is_fine s) h) d
  parts_formed (is_second {r} {s} p) h d = parts_formed p (back_of (is_fine r) (is_fine s) h) d
  parts_formed no_more h d = formed.nothing
  parts_formed (once_more {r} {f} {g} {h = i} p q e) h d =
      let parts = subst NamesAreDirect e d in
      subst AreFormed (sym e) (joined (parts_formed p h (direct_front g i parts)) (parts_formed q h (direct_rest g i parts)))
  parts_formed (is_tokens {f} b) h d = balanced_is_formed 0 f b

  pieces : {f : Forest} → Fits V74 (many quoted_part) f → NamesAreDirect f → (h : Forest) → IsQuoted h → IsQuoted (f +++ h)
  pieces no_more w h o = o
  pieces (once_more {f} {g} {h = i} a b e) w h o =
      let parts = subst NamesAreDirect e w in
      subst IsQuoted (sym (join_assoc g i h) ∙ ap (λ (x : Forest). x +++ h) (sym e))
      (piece_part a (direct_front g i parts) (i +++ h) (pieces b (direct_rest g i parts) h o))

  piece_part : {f : Forest} → Fits V74 quoted_part f → NamesAreDirect f → (h : Forest) → IsQuoted h → IsQuoted (f +++ h)
  piece_part (is_first (is_word {x} p)) w h o = as_kind (λ x. IsQuoted (leaf x h)) token.Piece x (told.piece x p) (formed.piece o)
  piece_part (is_second (is_first v)) w h o = simple_part v h o
  piece_part (is_second (is_second (is_first (is_both {f} (is_word {x} p) (is_both (is_place {k = j} {c} m n) (is_word {x = y} q) e) d)))) w h o =
      let same : f ≡ leaf x (node j c (leaf y none)) = d ∙ ap (leaf x) e in
      let parts = subst NamesAreDirect same w in
      subst (λ (g : Forest). IsQuoted (g +++ h)) (sym same)
      (as_kind (λ x. IsQuoted (leaf x (node j c (leaf y h)))) token.CurlyOpen x (told.curly x p)
      (as_token (λ y. IsQuoted (leaf (token_of token.CurlyOpen x.lead x.text x.start) (node j c (leaf y h)))) token.Op
      (codes "}") y (told.close_brace y q).kind (told.close_brace y q).text
      (formed.code (node_formed n (parts.1.0, tt)) o)))
  piece_part (is_second (is_second (is_second (is_first (is_both {f} (is_word {x} p)
      (is_both (is_word {x = n} m) (is_both {h = i} (is_first is_nothing) (is_word {x = y} q) a) b) d))))) w h o =
      let same : f ≡ leaf x (leaf n (leaf y none)) = d ∙ ap (leaf x) b ∙ ap (λ (g : Forest). leaf x (leaf n g)) a in
      let parts = subst NamesAreDirect same w in
      subst (λ (g : Forest). IsQuoted (g +++ h)) (sym same)
      (as_kind (λ x. IsQuoted (leaf x (leaf n (leaf y h)))) token.DollarBrace x (told.dollar x p)
      (as_direct (λ n. IsQuoted (leaf (token_of token.DollarBrace x.lead x.text x.start) (leaf n (leaf y h)))) token.VarName n (told.var_name n m) (parts.1.0 (told.var_name n m))
      (as_token (λ y. IsQuoted (leaf (token_of token.DollarBrace x.lead x.text x.start)
      (leaf (token_of token.VarName [] n.text n.start) (leaf y h)))) token.Op (codes "}") y
      (told.close_brace y q).kind (told.close_brace y q).text
      (formed.name o))))
  piece_part (is_second (is_second (is_second (is_first (is_both {f} (is_word {x} p)
      (is_both (is_word {x = n} m) (is_both {h = i} (is_second
      (is_both (is_word {x = b} u) (is_both (is_place {k = j} {c} v z) (is_word {x = s} l) ea) eb))
      (is_word {x = y} q) a) e) d))))) w h o =
      let same : f ≡ leaf x (leaf n (leaf b (node j c (leaf s (leaf y none))))) =
      d ∙ ap (leaf x) e ∙ ap (λ (g : Forest). leaf x (leaf n g)) a
      ∙ ap (λ (g : Forest). leaf x (leaf n (g +++ leaf y none))) eb
      ∙ ap (λ (g : Forest). leaf x (leaf n (leaf b (g +++ leaf y none)))) ea in
      let parts = subst NamesAreDirect same w in
      subst (λ (g : Forest). IsQuoted (g +++ h)) (sym same)
      (as_kind (λ x. IsQuoted (leaf x (leaf n (leaf b (node j c (leaf s (leaf y h))))))) token.DollarBrace x (told.dollar x p)
      (as_direct (λ n. IsQuoted (leaf (token_of token.DollarBrace x.lead x.text x.start)
      (leaf n (leaf b (node j c (leaf s (leaf y h))))))) token.VarName n (told.var_name n m)
      (parts.1.0 (told.var_name n m))
      (as_token (λ b. IsQuoted (leaf (token_of token.DollarBrace x.lead x.text x.start)
      (leaf (token_of token.VarName [] n.text n.start) (leaf b (node j c (leaf s (leaf y h))))))) token.Op
      (codes "[") b (told.open_bracket b u).kind (told.open_bracket b u).text
      (as_token (λ s. IsQuoted (leaf (token_of token.DollarBrace x.lead x.text x.start)
      (leaf (token_of token.VarName [] n.text n.start)
      (leaf (token_of token.Op b.lead (codes "[") b.start) (node j c (leaf s (leaf y h))))))) token.Op (codes "]")
      s (told.close_bracket s l).kind (told.close_bracket s l).text
      (as_token (λ y. IsQuoted (leaf (token_of token.DollarBrace x.lead x.text x.start)
      (leaf (token_of token.VarName [] n.text n.start)
      (leaf (token_of token.Op b.lead (codes "[") b.start)
      (node j c (leaf (token_of token.Op s.lead (codes "]") s.start) (leaf y h))))))) token.Op (codes "}") y
      (told.close_brace y q).kind (told.close_brace y q).text
      (formed.offset (stands j c v) (node_formed z (parts.1.1.1.0, tt)) o))))))
  piece_part (is_second (is_second (is_second (is_second (is_both {f} (is_word {x} p) (is_both (is_place {k = j} {c} m n) (is_word {x = y} q) e) d))))) w h o =
      let same : f ≡ leaf x (node j c (leaf y none)) = d ∙ ap (leaf x) e in
      let parts = subst NamesAreDirect same w in
      subst (λ (g : Forest). IsQuoted (g +++ h)) (sym same)
      (as_kind (λ x. IsQuoted (leaf x (node j c (leaf y h)))) token.DollarBrace x (told.dollar x p)
      (as_token (λ y. IsQuoted (leaf (token_of token.DollarBrace x.lead x.text x.start) (node j c (leaf y h))))
      token.Op (codes "}") y (told.close_brace y q).kind (told.close_brace y q).text
      (formed.expression (stands j c m) (node_formed n (parts.1.0, tt)) o)))

  node_formed : {j : NodeKind} {c : Forest} → IsNode V74 j c → NamesAreDirect (node j c none) → AreFormed (node j c none)
  node_formed (is_node {k = kind.Quoted} {c} (is_both (is_word {x} p) (is_both {g} a (is_word {x = y} q) e) d) near fine) w =
      let same : c ≡ leaf x (g +++ leaf y none) = d ∙ ap (leaf x) e in
      let parts = subst NamesAreDirect same w.0 in
      subst (λ (b : Forest). AreFormed (node kind.Quoted b none)) (sym same)
      (formed.text (opening x.kind (told.text_start x p))
      (pieces a (direct_front g (leaf y none) parts.1) (leaf y none) (as_kind (λ y. IsQuoted (leaf y none)) token.QuotedEnd y (told.text_end y q) formed.closing)) formed.nothing)
  node_formed (is_node {k = kind.BraceOffset} {c}
      (is_both (is_place {k = i} {c = b} m1 n1)
      (is_both (is_word {x} p) (is_both (is_place {k = j} {c = d} m2 n2) (is_word {x = u} q) e1) e2) e3) near fine) w
      =
      let same : c ≡ node i b (leaf x (node j d (leaf u none))) = e3 ∙ ap (node i b) (e2 ∙ ap (leaf x) e1) in
      let parts = subst NamesAreDirect same w.0 in
      subst (λ (z : Forest). AreFormed (node kind.BraceOffset z none)) (sym same)
      (braced (node_formed n1 (parts.0, tt)) (node_formed n2 (parts.1.1.0, tt)) formed.nothing)
  node_formed (is_node {k = kind.Cast} {c} (is_both (is_first (is_word {x} p)) (is_place {k = j} {c = b} m n) e) near fine) w =
      let parts = subst NamesAreDirect e w.0 in
      subst (λ (z : Forest). AreFormed (node kind.Cast z none)) (sym e) (a_cast (node_formed n (parts.1.0, tt)) formed.nothing)
  node_formed (is_node {k = kind.Cast} {c} (is_both (is_second (is_word {x} p)) (is_place {k = j} {c = b} m n) e) near fine) w =
      let parts = subst NamesAreDirect e w.0 in
      subst (λ (z : Forest). AreFormed (node kind.Cast z none)) (sym e) (a_cast (node_formed n (parts.1.0, tt)) formed.nothing)
  node_formed (is_node {k = j} {c} p near fine) w = common refl (parts_formed p (form_is_fine j refl) w.0) formed.nothing

pub shaped_files_are_formed : ShapedFilesAreFormed
shaped_files_are_formed f s d = parts_formed s.shaped refl d
