-- In trees with the shape of the grammar the body of each loop is a statement, or stands behind a colon.
use Rattle.std.specs.Prelude.{◌≡◌, ℕ, zero, suc, ◌+◌, ◌-◌, Bool, true, false, not, cond, ◌&&◌, ◌||◌, IsTrue, nat_eq, List, [], ◌∷◌, ◌++◌, codes, refl}
use Rattle.std.specs.Str.{bytes_eq}
use Rattle.std.proofs.Common.{ap, sym, ◌∙◌, subst, arith}
use Rattle.php_tree.specs.declared.token.Token.{Token}
use Rattle.php_tree.specs.declared.token.TokenKind.{TokenKind}
use Rattle.php_tree.specs.declared.token.TokenKind.TheVariants as token
use Rattle.php_tree.specs.declared.kind.NodeKind.{NodeKind}
use Rattle.php_tree.specs.declared.kind.NodeKind.TheVariants as kind
use Rattle.php_tree.specs.declared.version.Version.{Version}
use Rattle.php_tree.specs.declared.version.Version.TheVariants.{V74, V83}
use Rattle.php_tree.specs.Tree.{Forest, none, leaf, node, ◌+++◌}
use Rattle.php_terminals.specs.declared.terminal.Terminal.{Terminal}
use Rattle.php_terminals.specs.declared.terminal.Terminal.TheVariants as t
use Rattle.php_terminals.specs.Classify.{terminal, terminal_by}
use Rattle.php_terminals.specs.Marks.{closes, opens}
use Rattle.php_terminals.specs.Words.{keyword, keywords, label, labels, operator, operators}
use Rattle.php_terminals.specs.Words as words
use Rattle.php_grammar.specs.Accepts.{same_class}
use Rattle.php_shapes.specs.Forms.{form}
use Rattle.php_shapes.specs.Notation.{Rule, nothing, place, inside, ◌~◌, ◌|||◌, many, tokens}
use Rattle.php_shapes.specs.Notation as rule
use Rattle.php_shapes.specs.Places as shapes
use Rattle.php_shapes.specs.Statements.{body, statement, do_while}
use Rattle.php_shapes.specs.Shapes.{is_balanced, Fits, is_nothing, is_kind, is_place, is_inside, is_both, is_first, is_second, no_more, once_more, is_tokens, IsNode, is_node}
use Rattle.php_shapes.specs.Shapes as fits
use Rattle.scope_names.specs.Form as seen
use Rattle.scope_names.specs.Form.{Part, child, part_of, part_before, parts, bits, joins, is_name_part, texts, kids}
use Rattle.scope_names.specs.Words.{has_word}
use Rattle.php_meaning.specs.runs.Kinds.{is_statement}
use Rattle.rewritten_shapes.proofs.OperatorWords.{found, low_word}
use Rattle.rewritten_shapes.proofs.paired.Asked.{no_clash}
use Rattle.rewritten_shapes.proofs.paired.Marks.{keyword_not, label_not, cast_not, name_not}
use Rattle.loop_turns.specs.Laws.{is_loop, statement_at, has_body, loops_have_bodies, ShapedLoopsHaveBodies}

both : (a b : Bool) → IsTrue a → IsTrue b → IsTrue (a && b)
both true b h g = g
both false b h g = absurd cc

or_left : (a b : Bool) → IsTrue a → IsTrue (a || b)
or_left true b h = refl
or_left false b h = absurd cc

or_right : (a b : Bool) → IsTrue b → IsTrue (a || b)
or_right true b h = refl
or_right false b h = h

or_map : (a b c : Bool) → (IsTrue b → IsTrue c) → IsTrue (a || b) → IsTrue (a || c)
or_map true b c f h = refl
or_map false b c f h = f h

front_of : (a b : Bool) → IsTrue (a && b) → IsTrue a
front_of true b h = refl
front_of false b h = cc

back_of : (a b : Bool) → IsTrue (a && b) → IsTrue b
back_of true b h = h
back_of false b h = cc

-- ---- the colon

abbrev is_colon : Terminal → Bool
is_colon own = same_class t.Colon own

colon_keyword : (text : List ℕ) → is_colon (keyword text) ≡ false
unfolding keywords
colon_keyword text = keyword_not is_colon text refl refl refl

colon_label : (text : List ℕ) → is_colon (label text) ≡ false
unfolding labels
colon_label text = label_not is_colon text refl refl

colon_by : (sort : TokenKind) (text : List ℕ) → is_colon (terminal_by sort text) ≡ true → sort ≡ token.Op
colon_by token.Op text e = refl
colon_by token.Label text e = absurd (no_clash (colon_label text) e)
colon_by token.Keyword text e = absurd (no_clash (colon_keyword text) e)
colon_by token.Cast text e = absurd (no_clash (cast_not is_colon text refl refl) e)
colon_by token.Name text e = absurd (no_clash (name_not is_colon text refl refl refl) e)
colon_by _ text e = absurd cc

one_alone : (a : Bool) → (a || false) ≡ true → a ≡ true
one_alone true e = refl
one_alone false e = e

colon_kind : (x : Token) → same_class t.Colon (terminal x) ≡ true → x.kind ≡ token.Op
colon_kind x e = colon_by x.kind x.text e

colon_text : (x : Token) → same_class t.Colon (terminal x) ≡ true → x.text ≡ codes ":"
unfolding operators
colon_text x e =
    let o : same_class t.Colon (operator x.text) ≡ true = ap (λ (sort : TokenKind). same_class t.Colon (terminal_by sort x.text)) (sym (colon_kind x e)) ∙ e in
    low_word (codes ":") x.text refl (one_alone (words.is_word (codes ":") x.text) (found t.Colon t.OtherOp operators x.text refl o))

-- ---- words of a node

abbrev colon_in : List Part → Bool
colon_in [] = false
colon_in (seen.word false k w ∷ ps) = bytes_eq (codes ":") w || colon_in ps
colon_in (seen.word true k w ∷ ps) = colon_in ps
colon_in (child ∷ ps) = colon_in ps

colon_word : (ps : List Part) → IsTrue (colon_in ps) → IsTrue (has_word (codes ":") (texts (bits ps)))
colon_word [] h = cc
colon_word (seen.word false k w ∷ ps) h = or_map (bytes_eq (codes ":") w) (colon_in ps) _ (colon_word ps) h
colon_word (seen.word true k w ∷ ps) h = or_right (bytes_eq (codes ":") w) _ (colon_word ps h)
colon_word (child ∷ ps) h = colon_word ps h

colon_head : (b : Bool) (k : TokenKind) (w : List ℕ) (ps : List Part) → IsTrue (colon_in ps) → IsTrue (colon_in (seen.word b k w ∷ ps))
colon_head true k w ps h = h
colon_head false k w ps h = or_right (bytes_eq (codes ":") w) (colon_in ps) h

colon_behind : (x : Token) (ps : List Part) → IsTrue (colon_in ps) → IsTrue (colon_in (part_before x ps))
colon_behind x [] h = cc
colon_behind x (seen.word false k w ∷ ps) h = colon_head (is_name_part x.kind x.text) x.kind x.text (seen.word false k w ∷ ps) h
colon_behind x (child ∷ ps) h = colon_head (is_name_part x.kind x.text) x.kind x.text (child ∷ ps) h
colon_behind x (seen.word true k w ∷ ps) h = by_join (joins x w)
  where
    by_join : (b : Bool) → IsTrue (colon_in (cond b (seen.word true token.Name (x.text ++ w) ∷ ps) (part_of x ∷ seen.word true k w ∷ ps)))
    by_join true = h
    by_join false = colon_head (is_name_part x.kind x.text) x.kind x.text (seen.word true k w ∷ ps) h

abbrev colon_token : List ℕ → ℕ → Token
colon_token lead start = record { kind = token.Op; lead = lead; text = codes ":"; start = start }

as_colon : (P : Token → Type 0) (x : Token) → x.kind ≡ token.Op → x.text ≡ codes ":" → P (colon_token x.lead x.start) → P x
as_colon P x e d p =
    subst (λ z. P (record { kind = x.kind; lead = x.lead; text = z; start = x.start })) (sym d)
    (subst (λ z. P (record { kind = z; lead = x.lead; text = codes ":"; start = x.start })) (sym e) p)

colon_first : (lead : List ℕ) (start : ℕ) (ps : List Part) → IsTrue (colon_in (part_before (colon_token lead start) ps))
colon_first lead start [] = refl
colon_first lead start (seen.word false k w ∷ ps) = refl
colon_first lead start (seen.word true k w ∷ ps) = refl
colon_first lead start (child ∷ ps) = refl

-- a colon among the parts of a node
colon_among : (f : Forest) (x : Token) (g : Forest) → same_class t.Colon (terminal x) ≡ true → IsTrue (colon_in (parts (f +++ leaf x g)))
colon_among none x g e =
    as_colon (λ z. IsTrue (colon_in (part_before z (parts g)))) x (colon_kind x e) (colon_text x e) (colon_first x.lead x.start (parts g))
colon_among (leaf y f) x g e = colon_behind y (parts (f +++ leaf x g)) (colon_among f x g e)
colon_among (node k c f) x g e = colon_among f x g e

-- ---- the last child

nodes : Forest → ℕ
nodes none = zero
nodes (leaf x f) = nodes f
nodes (node k c f) = suc (nodes f)

kids_behind : (x : Token) (ps : List Part) → kids (bits (part_before x ps)) ≡ kids (bits ps)
kids_behind x [] = refl
kids_behind x (seen.word false k w ∷ ps) = refl
kids_behind x (child ∷ ps) = refl
kids_behind x (seen.word true k w ∷ ps) = by_join (joins x w)
  where
    by_join : (b : Bool) → kids (bits (cond b (seen.word true token.Name (x.text ++ w) ∷ ps) (part_of x ∷ seen.word true k w ∷ ps))) ≡ kids (bits ps)
    by_join true = refl
    by_join false = refl

kids_are_nodes : (f : Forest) → kids (seen.form f) ≡ nodes f
unfolding nodes
kids_are_nodes none = refl
kids_are_nodes (leaf x f) = kids_behind x (parts f) ∙ kids_are_nodes f
kids_are_nodes (node k c f) = ap suc (kids_are_nodes f)

one_more : (f : Forest) (k : NodeKind) (b : Forest) → nodes (f +++ node k b none) ≡ suc (nodes f)
unfolding nodes
one_more none k b = refl
one_more (leaf x f) k b = one_more f k b
one_more (node j c f) k b = ap suc (one_more f k b)

last_at : (f : Forest) (k : NodeKind) (b : Forest) → statement_at (nodes f) (f +++ node k b none) ≡ is_statement k
unfolding nodes
last_at none k b = refl
last_at (leaf x f) k b = last_at f k b
last_at (node j c f) k b = last_at f k b

last_is : (f : Forest) (k : NodeKind) (b : Forest) → IsTrue (is_statement k)
    → IsTrue (statement_at (kids (seen.form (f +++ node k b none)) - 1) (f +++ node k b none))
last_is f k b h =
    let less : suc (nodes f) - 1 ≡ nodes f = omega arith in
    let index : kids (seen.form (f +++ node k b none)) - 1 ≡ nodes f = ap (λ n. n - 1) (kids_are_nodes (f +++ node k b none) ∙ one_more f k b) ∙ less in
    subst (λ n. IsTrue (statement_at n (f +++ node k b none))) (sym index) (last_at f k b ∙ h)

-- ---- loops

same_statements : (k : NodeKind) → shapes.is_statement k ≡ true → IsTrue (is_statement k)
same_statements kind.Block h = h
same_statements k h = h

module _ (v : Version) where
  abbrev HasBody : Forest → Type 0
  HasBody c = IsTrue (has_word (codes ":") (texts (seen.form c)) || statement_at (kids (seen.form c) - 1) c)

  body_last : {last : Terminal} (f : Forest) {h : Forest} → Fits v (body last) h → HasBody (f +++ h)
  body_last f (is_first (is_place {k = k} {c = b} m n)) = or_right (has_word (codes ":") (texts (seen.form (f +++ node k b none)))) _ (last_is f k b (same_statements k m))
  body_last f (is_second (is_both {h = h} (fits.is_word {x = x} p) q e)) =
      subst (λ z. HasBody (f +++ z)) (sym e) (or_left _ _ (colon_word (parts (f +++ leaf x h)) (colon_among f x h p)))

  loop_body : {w last : Terminal} {r : Rule} {c : Forest} → Fits v (rule.word w ~ r ~ body last) c → HasBody c
  loop_body (is_both (fits.is_word {x = x} p) (is_both {g = g} {h = h} q b e) d) =
      subst HasBody (sym (d ∙ ap (leaf x) e)) (body_last (leaf x g) b)

  do_body : {c : Forest} → Fits v do_while c → IsTrue (statement_at 0 c)
  do_body (is_both (fits.is_word {x = x} p) (is_both {h = h} (is_place {k = k} {c = b} m n) q e) d) =
      subst (λ z. IsTrue (statement_at 0 z)) (sym (d ∙ ap (leaf x) e)) (same_statements k m)

-- ---- trees

-- whether no rule puts a loop's kind on parts of its own
abbrev is_calm : Rule → Bool
is_calm nothing = true
is_calm (rule.word c) = true
is_calm (rule.kind k) = true
is_calm (place p) = true
is_calm (inside k r) = not (is_loop k) && is_calm r
is_calm (r ~ s) = is_calm r && is_calm s
is_calm (r ||| s) = is_calm r && is_calm s
is_calm (many r) = is_calm r
is_calm tokens = true

form_is_calm : (v : Version) (k : NodeKind) → IsTrue (is_calm (form v k))
form_is_calm V74 kind.Block = refl
form_is_calm V74 kind.Empty = refl
form_is_calm V74 kind.ExprStmt = refl
form_is_calm V74 kind.Echo = refl
form_is_calm V74 kind.Html = refl
form_is_calm V74 kind.Return = refl
form_is_calm V74 kind.If = refl
form_is_calm V74 kind.IfAlt = refl
form_is_calm V74 kind.While = refl
form_is_calm V74 kind.DoWhile = refl
form_is_calm V74 kind.For = refl
form_is_calm V74 kind.Foreach = refl
form_is_calm V74 kind.Switch = refl
form_is_calm V74 kind.Case = refl
form_is_calm V74 kind.Break = refl
form_is_calm V74 kind.Continue = refl
form_is_calm V74 kind.Global = refl
form_is_calm V74 kind.Statics = refl
form_is_calm V74 kind.Unset = refl
form_is_calm V74 kind.Throw = refl
form_is_calm V74 kind.Try = refl
form_is_calm V74 kind.Function = refl
form_is_calm V74 kind.Param = refl
form_is_calm V74 kind.TypeName = refl
form_is_calm V74 kind.Class = refl
form_is_calm V74 kind.Interface = refl
form_is_calm V74 kind.Trait = refl
form_is_calm V74 kind.Property = refl
form_is_calm V74 kind.ClassConst = refl
form_is_calm V74 kind.Method = refl
form_is_calm V74 kind.TraitUse = refl
form_is_calm V74 kind.Const = refl
form_is_calm V74 kind.Namespace = refl
form_is_calm V74 kind.Use = refl
form_is_calm V74 kind.Declare = refl
form_is_calm V74 kind.Goto = refl
form_is_calm V74 kind.LabelStmt = refl
form_is_calm V74 kind.Variable = refl
form_is_calm V74 kind.Number = refl
form_is_calm V74 kind.Float = refl
form_is_calm V74 kind.Text = refl
form_is_calm V74 kind.Quoted = refl
form_is_calm V74 kind.Constant = refl
form_is_calm V74 kind.ClassConstant = refl
form_is_calm V74 kind.Array = refl
form_is_calm V74 kind.Item = refl
form_is_calm V74 kind.List = refl
form_is_calm V74 kind.Paren = refl
form_is_calm V74 kind.Offset = refl
form_is_calm V74 kind.BraceOffset = refl
form_is_calm V74 kind.Prop = refl
form_is_calm V74 kind.StaticProp = refl
form_is_calm V74 kind.Call = refl
form_is_calm V74 kind.MethodCall = refl
form_is_calm V74 kind.StaticCall = refl
form_is_calm V74 kind.Args = refl
form_is_calm V74 kind.New = refl
form_is_calm V74 kind.Isset = refl
form_is_calm V74 kind.EmptyTest = refl
form_is_calm V74 kind.Exit = refl
form_is_calm V74 kind.Closure = refl
form_is_calm V74 kind.Arrow = refl
form_is_calm V74 kind.Include = refl
form_is_calm V74 kind.EvalTest = refl
form_is_calm V74 kind.Binary = refl
form_is_calm V74 kind.Prefix = refl
form_is_calm V74 kind.Postfix = refl
form_is_calm V74 kind.Cast = refl
form_is_calm V74 kind.Ternary = refl
form_is_calm V74 kind.ShortTernary = refl
form_is_calm V74 kind.Assign = refl
form_is_calm V74 kind.AssignRef = refl
form_is_calm V74 kind.CompoundAssign = refl
form_is_calm V74 kind.InstanceOf = refl
form_is_calm V74 kind.Print = refl
form_is_calm V74 kind.Yield = refl
form_is_calm V83 kind.Block = refl
form_is_calm V83 kind.Empty = refl
form_is_calm V83 kind.ExprStmt = refl
form_is_calm V83 kind.Echo = refl
form_is_calm V83 kind.Html = refl
form_is_calm V83 kind.Return = refl
form_is_calm V83 kind.If = refl
form_is_calm V83 kind.IfAlt = refl
form_is_calm V83 kind.While = refl
form_is_calm V83 kind.DoWhile = refl
form_is_calm V83 kind.For = refl
form_is_calm V83 kind.Foreach = refl
form_is_calm V83 kind.Switch = refl
form_is_calm V83 kind.Case = refl
form_is_calm V83 kind.Break = refl
form_is_calm V83 kind.Continue = refl
form_is_calm V83 kind.Global = refl
form_is_calm V83 kind.Statics = refl
form_is_calm V83 kind.Unset = refl
form_is_calm V83 kind.Throw = refl
form_is_calm V83 kind.Try = refl
form_is_calm V83 kind.Function = refl
form_is_calm V83 kind.Param = refl
form_is_calm V83 kind.TypeName = refl
form_is_calm V83 kind.Class = refl
form_is_calm V83 kind.Interface = refl
form_is_calm V83 kind.Trait = refl
form_is_calm V83 kind.Property = refl
form_is_calm V83 kind.ClassConst = refl
form_is_calm V83 kind.Method = refl
form_is_calm V83 kind.TraitUse = refl
form_is_calm V83 kind.Const = refl
form_is_calm V83 kind.Namespace = refl
form_is_calm V83 kind.Use = refl
form_is_calm V83 kind.Declare = refl
form_is_calm V83 kind.Goto = refl
form_is_calm V83 kind.LabelStmt = refl
form_is_calm V83 kind.Variable = refl
form_is_calm V83 kind.Number = refl
form_is_calm V83 kind.Float = refl
form_is_calm V83 kind.Text = refl
form_is_calm V83 kind.Quoted = refl
form_is_calm V83 kind.Constant = refl
form_is_calm V83 kind.ClassConstant = refl
form_is_calm V83 kind.Array = refl
form_is_calm V83 kind.Item = refl
form_is_calm V83 kind.List = refl
form_is_calm V83 kind.Paren = refl
form_is_calm V83 kind.Offset = refl
form_is_calm V83 kind.BraceOffset = refl
form_is_calm V83 kind.Prop = refl
form_is_calm V83 kind.StaticProp = refl
form_is_calm V83 kind.Call = refl
form_is_calm V83 kind.MethodCall = refl
form_is_calm V83 kind.StaticCall = refl
form_is_calm V83 kind.Args = refl
form_is_calm V83 kind.New = refl
form_is_calm V83 kind.Isset = refl
form_is_calm V83 kind.EmptyTest = refl
form_is_calm V83 kind.Exit = refl
form_is_calm V83 kind.Closure = refl
form_is_calm V83 kind.Arrow = refl
form_is_calm V83 kind.Include = refl
form_is_calm V83 kind.EvalTest = refl
form_is_calm V83 kind.Binary = refl
form_is_calm V83 kind.Prefix = refl
form_is_calm V83 kind.Postfix = refl
form_is_calm V83 kind.Cast = refl
form_is_calm V83 kind.Ternary = refl
form_is_calm V83 kind.ShortTernary = refl
form_is_calm V83 kind.Assign = refl
form_is_calm V83 kind.AssignRef = refl
form_is_calm V83 kind.CompoundAssign = refl
form_is_calm V83 kind.InstanceOf = refl
form_is_calm V83 kind.Print = refl
form_is_calm V83 kind.Yield = refl

joined : (f g : Forest) → IsTrue (loops_have_bodies f) → IsTrue (loops_have_bodies g) → IsTrue (loops_have_bodies (f +++ g))
joined none g p q = q
joined (leaf x f) g p q = joined f g p q
joined (node k c f) g p q =
    let here : Bool = not (is_loop k) || has_body k c in
    let rest : IsTrue (loops_have_bodies c && loops_have_bodies f) = back_of here (loops_have_bodies c && loops_have_bodies f) p in
    both here (loops_have_bodies c && loops_have_bodies (f +++ g)) (front_of here (loops_have_bodies c && loops_have_bodies f) p)
    (both (loops_have_bodies c) (loops_have_bodies (f +++ g)) (front_of (loops_have_bodies c) (loops_have_bodies f) rest)
    (joined f g (back_of (loops_have_bodies c) (loops_have_bodies f) rest) q))

behind_token : (P : Type 0) (a b x y z w : Bool) → (IsTrue x → P) → (IsTrue z → P) → (IsTrue w → P)
    → IsTrue (cond a x (cond b (y && z) w)) → P
behind_token P true b x y z w f g h i = f i
behind_token P false true x y z w f g h i = g (back_of y z i)
behind_token P false false x y z w f g h i = h i

balanced_have : (n : ℕ) (f : Forest) → is_balanced n f ≡ true → IsTrue (loops_have_bodies f)
balanced_have n none h = refl
balanced_have n (leaf x f) h =
    behind_token (IsTrue (loops_have_bodies f)) (opens (terminal x)) (closes (terminal x)) _ (not (nat_eq n 0)) _ _
    (balanced_have (n + 1) f) (balanced_have (n - 1) f) (balanced_have n f) h
balanced_have n (node j b f) h = cc

module _ (v : Version) where
  mutual
    parts_have : {r : Rule} {f : Forest} → Fits v r f → IsTrue (is_calm r) → IsTrue (loops_have_bodies f)
    parts_have is_nothing h = refl
    parts_have (fits.is_word p) h = refl
    parts_have (is_kind n) h = node_has n
    parts_have (is_place m n) h = node_has n
    parts_have (is_inside {k} {r} {c} p near) h =
        both (not (is_loop k) || has_body k c) (loops_have_bodies c && true) (or_left (not (is_loop k)) (has_body k c) (front_of (not (is_loop k)) (is_calm r) h))
        (both (loops_have_bodies c) true (parts_have p (back_of (not (is_loop k)) (is_calm r) h)) refl)
    parts_have (is_both {r} {s} {g = g} {h = i} p q e) h =
        subst (λ z. IsTrue (loops_have_bodies z)) (sym e)
        (joined g i (parts_have p (front_of (is_calm r) (is_calm s) h)) (parts_have q (back_of (is_calm r) (is_calm s) h)))
    parts_have (is_first {r} {s} p) h = parts_have p (front_of (is_calm r) (is_calm s) h)
    parts_have (is_second {r} {s} p) h = parts_have p (back_of (is_calm r) (is_calm s) h)
    parts_have no_more h = refl
    parts_have (once_more {g = g} {h = i} p q e) h =
        subst (λ z. IsTrue (loops_have_bodies z)) (sym e) (joined g i (parts_have p h) (parts_have q h))
    parts_have (is_tokens {f} b) h = balanced_have 0 f b

    node_has : {k : NodeKind} {c : Forest} → IsNode v k c → IsTrue (loops_have_bodies (node k c none))
    node_has (is_node {k = kind.While} {c} p near fine) =
        both (has_body kind.While c) (loops_have_bodies c && true) (loop_body v p) (both (loops_have_bodies c) true (parts_have p (form_is_calm v kind.While)) refl)
    node_has (is_node {k = kind.DoWhile} {c} p near fine) =
        both (has_body kind.DoWhile c) (loops_have_bodies c && true) (do_body v p) (both (loops_have_bodies c) true (parts_have p (form_is_calm v kind.DoWhile)) refl)
    node_has (is_node {k = kind.For} {c} p near fine) =
        both (has_body kind.For c) (loops_have_bodies c && true) (loop_body v p) (both (loops_have_bodies c) true (parts_have p (form_is_calm v kind.For)) refl)
    node_has (is_node {k = kind.Foreach} {c} p near fine) =
        both (has_body kind.Foreach c) (loops_have_bodies c && true) (loop_body v p) (both (loops_have_bodies c) true (parts_have p (form_is_calm v kind.Foreach)) refl)
    node_has (is_node {k = j} {c} p near fine) = both (loops_have_bodies c) true (parts_have p (form_is_calm v j)) refl

pub shaped_loops_have_bodies : ShapedLoopsHaveBodies
shaped_loops_have_bodies v f s = parts_have v s.shaped refl
