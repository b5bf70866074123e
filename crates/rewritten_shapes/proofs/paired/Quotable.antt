-- In a tree with the shape of the grammar each quoted text is one that is walked.
use Rattle.std.proofs.Common.{◌≡◌, ℕ, ◌+◌, ◌-◌, Bool, true, false, not, cond, ◌&&◌, ◌||◌, if◌then◌else◌, nat_eq, codes, List, [], ◌∷◌, ◌++◌, refl, ap, sym, ◌∙◌, subst}
use Rattle.std.specs.Str.{bytes_eq, str_to_ascii_lowercase}
use Rattle.std.proofs.lemmas.Bool.{and_from}
use Rattle.php_tree.specs.declared.kind.NodeKind.{NodeKind}
use Rattle.php_tree.specs.declared.kind.NodeKind.TheVariants as k
use Rattle.php_tree.specs.declared.token.Token.{Token}
use Rattle.php_tree.specs.declared.token.TokenKind.{TokenKind}
use Rattle.php_tree.specs.declared.token.TokenKind.TheVariants as kind
use Rattle.php_tree.specs.declared.version.Version.TheVariants.{V74}
use Rattle.php_tree.specs.Tree.{Forest, none, leaf, node, ◌+++◌}
use Rattle.php_terminals.specs.Classify.{terminal}
use Rattle.php_terminals.specs.Marks.{closes, opens}
use Rattle.php_shapes.specs.Forms.{form}
use Rattle.php_shapes.specs.Notation.{Rule, nothing, word, place, inside, ◌~◌, ◌|||◌, many, tokens}
use Rattle.php_shapes.specs.Notation as rule
use Rattle.php_shapes.specs.Quoted.{interpolated, quoted, quoted_part}
use Rattle.php_shapes.specs.Shapes.{
  is_balanced,
  Fits,
  is_nothing,
  is_word,
  is_kind,
  is_place,
  is_inside,
  is_both,
  is_first,
  is_second,
  no_more,
  once_more,
  is_tokens,
  IsNode,
  is_node,
}
use Rattle.syntax_rules.specs.DollarBrace.{is_dollar_brace, is_piece}
use Rattle.syntax_rules.specs.HashComment.{hash_comment}
use Rattle.syntax_rules.specs.SplitName.{is_keyword, is_label}
use Rattle.syntax_rules.specs.SplitName as names
use Rattle.syntax_rules.specs.Together.{is_quoted}
use Rattle.syntax_rules.specs.Quotable.{AreQuotable}
use Rattle.syntax_rules.specs.Quotable.{anything, close, expression, is_bracket, is_loose, is_plain, is_quotable, mark, offset, place_behind, shut}
use Rattle.syntax_rules.specs.Quotable as place
use Rattle.rewritten_shapes.specs.paired.Laws.{QuotedTextsAreWalked}
use Rattle.rewritten_shapes.specs.paired.Tokens.{IsMark, opens_text}
use Rattle.rewritten_shapes.proofs.paired.Asked.{both_left, both_right}
use Rattle.rewritten_shapes.proofs.paired.Marks as told

-- ---- tokens of quoted texts

-- whether a token of the kind can't be one with a name behind it, and is no `${`
abbrev is_free_kind : TokenKind → Bool
is_free_kind kind.Label = false
is_free_kind kind.Keyword = false
is_free_kind kind.Op = false
is_free_kind kind.DollarBrace = false
is_free_kind _ = true

-- a token that is no `${` and can't be one with a name behind it
abbrev IsFree : Token → Type 0
IsFree t = (is_dollar_brace t.kind ≡ false) × (is_loose (hash_comment t) ≡ true)

loose_by : (sort : TokenKind) (text : List ℕ) → is_free_kind sort ≡ true → (is_dollar_brace sort ≡ false)
    × ((not (names.is_op sort && bytes_eq text (codes "\\"))
    && not (is_label sort || is_keyword sort && bytes_eq (str_to_ascii_lowercase text) (codes "namespace"))) ≡ true)
loose_by kind.Label text e = absurd cc
loose_by kind.Keyword text e = absurd cc
loose_by kind.Op text e = absurd cc
loose_by kind.DollarBrace text e = absurd cc
loose_by _ text e = (refl, refl)

free_kind : (t : Token) → is_free_kind t.kind ≡ true → IsFree t
free_kind t e = loose_by t.kind (t.text ++ []) e

-- a bracket that is told by its text
free_mark : (b : ℕ) (t : Token) → IsMark b t → bytes_eq (b ∷ []) (codes "\\") ≡ false → IsFree t
free_mark b t m e = (
  ap is_dollar_brace m.kind,
  ap (λ (sort : TokenKind). not (names.is_op sort && bytes_eq (t.text ++ []) (codes "\\"))
      && not (is_label sort || is_keyword sort && bytes_eq (str_to_ascii_lowercase (t.text ++ []))
      (codes "namespace"))) m.kind
      ∙ ap (λ (text : List ℕ). not (bytes_eq (text ++ []) (codes "\\")) && true) m.text
      ∙ ap (λ (x : Bool). not x && true) e,
)

plain_by : (sort : TokenKind) (t : Token) → t.kind ≡ sort → is_dollar_brace sort ≡ false → is_piece sort ≡ false → is_plain t ≡ true
plain_by sort t e d p =
    ap (λ (s : TokenKind). not (is_dollar_brace s) && not (is_piece s)) e
    ∙ ap (λ (x : Bool). not x && not (is_piece sort)) d
    ∙ ap (λ (x : Bool). true && not x) p

bracket_is : (b : ℕ) (t : Token) → IsMark b t → is_bracket t ≡ bytes_eq (b ∷ []) (codes "[")
bracket_is b t m = ap (λ (text : List ℕ). bytes_eq (text ++ []) (codes "[")) m.text

-- ---- steps

if_yes : (b : Bool) (x y : Bool) → b ≡ true → (if b then x else y) ≡ x
if_yes true x y e = refl
if_yes false x y e = cc

if_no : (b : Bool) (x y : Bool) → b ≡ false → (if b then x else y) ≡ y
if_no true x y e = cc
if_no false x y e = refl

free_step : (t : Token) (f : Forest) → IsFree t → is_quotable anything f ≡ true → is_quotable anything (leaf t f) ≡ true
free_step t f p q =
    if_no (is_dollar_brace t.kind) (is_quotable (place_behind f) f) (is_loose (hash_comment t) && is_quotable anything f) p.0
    ∙ and_from (is_loose (hash_comment t)) (is_quotable anything f) p.1 q

dollar_step : (t : Token) (f : Forest) → t.kind ≡ kind.DollarBrace → is_quotable (place_behind f) f ≡ true → is_quotable anything (leaf t f) ≡ true
dollar_step t f e q =
    if_yes (is_dollar_brace t.kind) (is_quotable (place_behind f) f) (is_loose (hash_comment t) && is_quotable anything f) (ap is_dollar_brace e) ∙ q

name_step : (t : Token) (f : Forest) → is_plain t ≡ true → is_quotable mark f ≡ true → is_quotable place.name (leaf t f) ≡ true
name_step t f p q = and_from (is_plain t) (is_quotable mark f) p q

-- behind a name: `}`
mark_step : (t : Token) (f : Forest) → IsMark 125 t → is_quotable anything f ≡ true → is_quotable mark (leaf t f) ≡ true
mark_step t f m q =
    and_from (is_plain t) (if is_bracket t then is_quotable offset f else is_loose (hash_comment t) && is_quotable anything f)
    (plain_by kind.Op t m.kind refl refl)
    (if_no (is_bracket t) (is_quotable offset f) (is_loose (hash_comment t) && is_quotable anything f) (bracket_is 125 t m)
    ∙ and_from (is_loose (hash_comment t)) (is_quotable anything f) (free_mark 125 t m refl).1 q)

-- behind a name: `[`
bracket_step : (t : Token) (f : Forest) → IsMark 91 t → is_quotable offset f ≡ true → is_quotable mark (leaf t f) ≡ true
bracket_step t f m q =
    and_from (is_plain t) (if is_bracket t then is_quotable offset f else is_loose (hash_comment t) && is_quotable anything f)
    (plain_by kind.Op t m.kind refl refl)
    (if_yes (is_bracket t) (is_quotable offset f) (is_loose (hash_comment t) && is_quotable anything f) (bracket_is 91 t m) ∙ q)

shut_step : (t : Token) (f : Forest) → IsMark 93 t → is_quotable anything f ≡ true → is_quotable shut (leaf t f) ≡ true
shut_step t f m q = and_from (is_plain t) (is_quotable anything f) (plain_by kind.Op t m.kind refl refl) q

close_step : (t : Token) (f : Forest) → IsMark 125 t → is_quotable anything f ≡ true → is_quotable close (leaf t f) ≡ true
close_step t f m q = and_from (is_plain t) (is_quotable anything f) (plain_by kind.Op t m.kind refl refl) q

-- ---- quoted texts

join_assoc : (f g h : Forest) → (f +++ g) +++ h ≡ f +++ (g +++ h)
join_assoc none g h = refl
join_assoc (leaf t f) g h = ap (leaf t) (join_assoc f g h)
join_assoc (node j c f) g h = ap (node j c) (join_assoc f g h)

-- parts of a quoted text that others may follow
abbrev Leads : Forest → Type 0
Leads f = (h : Forest) → is_quotable anything h ≡ true → is_quotable anything (f +++ h) ≡ true

-- parts with their own brackets
curly_leads : (f : Forest) (x : Token) (j : NodeKind) (c : Forest) (y : Token) → f ≡ leaf x (node j c (leaf y none)) → x.kind ≡ kind.CurlyOpen → IsMark 125 y → Leads f
curly_leads f x j c y e p q h r =
    ap (λ (g : Forest). is_quotable anything (g +++ h)) e
    ∙ free_step x (node j c (leaf y h)) (free_kind x (ap is_free_kind p)) (free_step y h (free_mark 125 y q refl) r)

named_leads : (f : Forest) (x n y : Token) → f ≡ leaf x (leaf n (leaf y none)) → x.kind ≡ kind.DollarBrace → n.kind ≡ kind.VarName → IsMark 125 y → Leads f
named_leads f x n y e p m q h r =
    ap (λ (g : Forest). is_quotable anything (g +++ h)) e
    ∙ dollar_step x (leaf n (leaf y h)) p (name_step n (leaf y h) (plain_by kind.VarName n m refl refl) (mark_step y h q r))

offset_leads : (f : Forest) (x n o : Token) (j : NodeKind) (c : Forest) (s y : Token)
    → f ≡ leaf x (leaf n (leaf o (node j c (leaf s (leaf y none))))) → x.kind ≡ kind.DollarBrace
    → n.kind ≡ kind.VarName → IsMark 91 o → IsMark 93 s → IsMark 125 y → Leads f
offset_leads f x n o j c s y e p m a b q h r =
    ap (λ (g : Forest). is_quotable anything (g +++ h)) e
    ∙ dollar_step x (leaf n (leaf o (node j c (leaf s (leaf y h))))) p
    (name_step n (leaf o (node j c (leaf s (leaf y h)))) (plain_by kind.VarName n m refl refl)
    (bracket_step o (node j c (leaf s (leaf y h))) a (shut_step s (leaf y h) b (free_step y h (free_mark 125 y q refl) r))))

node_leads : (f : Forest) (x : Token) (j : NodeKind) (c : Forest) (y : Token) → f ≡ leaf x (node j c (leaf y none)) → x.kind ≡ kind.DollarBrace → IsMark 125 y → Leads f
node_leads f x j c y e p q h r =
    ap (λ (g : Forest). is_quotable anything (g +++ h)) e ∙ dollar_step x (node j c (leaf y h)) p (close_step y h q r)

simple_leads : {f : Forest} → Fits V74 interpolated f → Leads f
simple_leads (is_first (is_inside x near)) h r = r
simple_leads (is_second (is_first (is_inside x near))) h r = r
simple_leads (is_second (is_second (is_inside x near))) h r = r

part_leads : {f : Forest} → Fits V74 quoted_part f → Leads f
part_leads (is_first (is_word {x} p)) h r = free_step x h (free_kind x (ap is_free_kind (told.piece x p))) r
part_leads (is_second (is_first v)) h r = simple_leads v h r
part_leads (is_second (is_second (is_first (is_both {f} (is_word {x} p) (is_both (is_place {k = j} {c} m n) (is_word {x = y} q) e) d)))) h r =
    curly_leads f x j c y (d ∙ ap (leaf x) e) (told.curly x p) (told.close_brace y q) h r
part_leads (is_second (is_second (is_second (is_first (is_both {f} (is_word {x} p)
    (is_both (is_word {x = n} m) (is_both {h = i} (is_first is_nothing) (is_word {x = y} q) a) b) d))))) h r =
    named_leads f x n y (d ∙ ap (leaf x) b ∙ ap (λ (g : Forest). leaf x (leaf n g)) a) (told.dollar x p) (told.var_name n m) (told.close_brace y q) h r
part_leads (is_second (is_second (is_second (is_first (is_both {f} (is_word {x} p)
    (is_both (is_word {x = n} m) (is_both {h = i} (is_second
    (is_both (is_word {x = o} u) (is_both (is_place {k = j} {c} v w) (is_word {x = s} z) ea) eb)) (is_word {x = y} q)
    a) b) d))))) h r =
    offset_leads f x n o j c s y
    (d ∙ ap (leaf x) b ∙ ap (λ (g : Forest). leaf x (leaf n g)) a
    ∙ ap (λ (g : Forest). leaf x (leaf n (g +++ leaf y none))) eb
    ∙ ap (λ (g : Forest). leaf x (leaf n (leaf o (g +++ leaf y none)))) ea)
    (told.dollar x p) (told.var_name n m) (told.open_bracket o u) (told.close_bracket s z) (told.close_brace y q) h r
part_leads (is_second (is_second (is_second (is_second (is_both {f} (is_word {x} p) (is_both (is_place {k = j} {c} m n) (is_word {x = y} q) e) d))))) h r =
    node_leads f x j c y (d ∙ ap (leaf x) e) (told.dollar x p) (told.close_brace y q) h r

pieces_lead : {f : Forest} → Fits V74 (many quoted_part) f → Leads f
pieces_lead no_more h r = r
pieces_lead (once_more {f} {g} {h = i} p q e) h r =
    ap (λ (j : Forest). is_quotable anything (j +++ h)) e
    ∙ ap (is_quotable anything) (join_assoc g i h)
    ∙ part_leads p (i +++ h) (pieces_lead q h r)

opening_free : (sort : TokenKind) → opens_text sort ≡ true → is_free_kind sort ≡ true
opening_free kind.Quote e = refl
opening_free kind.HeredocStart e = refl
opening_free kind.Backtick e = refl
opening_free _ e = absurd cc

text_is_quotable : {c : Forest} → Fits V74 quoted c → is_quotable anything c ≡ true
text_is_quotable (is_both {f = c} (is_word {x} p) (is_both {g} (q) (is_word {x = y} r) e) d) =
    ap (is_quotable anything) (d ∙ ap (leaf x) e)
    ∙ free_step x (g +++ leaf y none) (free_kind x (opening_free x.kind (told.text_start x p)))
    (pieces_lead q (leaf y none) (free_step y none (free_kind y (ap is_free_kind (told.text_end y r))) refl))

quoted_kind : (j : NodeKind) {c : Forest} → is_quoted j ≡ true → Fits V74 (form V74 j) c → is_quotable anything c ≡ true
quoted_kind k.Quoted h p = text_is_quotable p
quoted_kind j h p = absurd cc

-- ---- rules that name a kind and its parts

-- whether no quoted text is among them
abbrev pub names_no_text : Rule → Bool
names_no_text nothing = true
names_no_text (word c) = true
names_no_text (rule.kind j) = true
names_no_text (place p) = true
names_no_text (inside j r) = not (is_quoted j) && names_no_text r
names_no_text (r ~ s) = names_no_text r && names_no_text s
names_no_text (r ||| s) = names_no_text r && names_no_text s
names_no_text (many r) = names_no_text r
names_no_text tokens = true

pub form_names_no_text : (j : NodeKind) → names_no_text (form V74 j) ≡ true
form_names_no_text k.Block = refl
form_names_no_text k.Empty = refl
form_names_no_text k.ExprStmt = refl
form_names_no_text k.Echo = refl
form_names_no_text k.Html = refl
form_names_no_text k.Return = refl
form_names_no_text k.If = refl
form_names_no_text k.IfAlt = refl
form_names_no_text k.While = refl
form_names_no_text k.DoWhile = refl
form_names_no_text k.For = refl
form_names_no_text k.Foreach = refl
form_names_no_text k.Switch = refl
form_names_no_text k.Case = refl
form_names_no_text k.Break = refl
form_names_no_text k.Continue = refl
form_names_no_text k.Global = refl
form_names_no_text k.Statics = refl
form_names_no_text k.Unset = refl
form_names_no_text k.Throw = refl
form_names_no_text k.Try = refl
form_names_no_text k.Function = refl
form_names_no_text k.Param = refl
form_names_no_text k.TypeName = refl
form_names_no_text k.Class = refl
form_names_no_text k.Interface = refl
form_names_no_text k.Trait = refl
form_names_no_text k.Property = refl
form_names_no_text k.ClassConst = refl
form_names_no_text k.Method = refl
form_names_no_text k.TraitUse = refl
form_names_no_text k.Const = refl
form_names_no_text k.Namespace = refl
form_names_no_text k.Use = refl
form_names_no_text k.Declare = refl
form_names_no_text k.Goto = refl
form_names_no_text k.LabelStmt = refl
form_names_no_text k.Variable = refl
form_names_no_text k.Number = refl
form_names_no_text k.Float = refl
form_names_no_text k.Text = refl
form_names_no_text k.Quoted = refl
form_names_no_text k.Constant = refl
form_names_no_text k.ClassConstant = refl
form_names_no_text k.Array = refl
form_names_no_text k.Item = refl
form_names_no_text k.List = refl
form_names_no_text k.Paren = refl
form_names_no_text k.Offset = refl
form_names_no_text k.BraceOffset = refl
form_names_no_text k.Prop = refl
form_names_no_text k.StaticProp = refl
form_names_no_text k.Call = refl
form_names_no_text k.MethodCall = refl
form_names_no_text k.StaticCall = refl
form_names_no_text k.Args = refl
form_names_no_text k.New = refl
form_names_no_text k.Isset = refl
form_names_no_text k.EmptyTest = refl
form_names_no_text k.Exit = refl
form_names_no_text k.Closure = refl
form_names_no_text k.Arrow = refl
form_names_no_text k.Include = refl
form_names_no_text k.EvalTest = refl
form_names_no_text k.Binary = refl
form_names_no_text k.Prefix = refl
form_names_no_text k.Postfix = refl
form_names_no_text k.Cast = refl
form_names_no_text k.Ternary = refl
form_names_no_text k.ShortTernary = refl
form_names_no_text k.Assign = refl
form_names_no_text k.AssignRef = refl
form_names_no_text k.CompoundAssign = refl
form_names_no_text k.InstanceOf = refl
form_names_no_text k.Print = refl
form_names_no_text k.Yield = refl

-- ---- trees

quotable_join : (f g : Forest) → AreQuotable f → AreQuotable g → AreQuotable (f +++ g)
quotable_join none g a b = b
quotable_join (leaf t f) g a b = quotable_join f g a b
quotable_join (node j c f) g a b = (a.0, a.1, quotable_join f g a.2 b)

-- what stands behind a token of balanced ones is balanced
behind_token : (P : Type 0) (a b x y z w : Bool) → (x ≡ true → P) → (z ≡ true → P) → (w ≡ true → P) → cond a x (cond b (y && z) w) ≡ true → P
behind_token P true b x y z w f g h i = f i
behind_token P false true x y z w f g h i = g (both_right y z i)
behind_token P false false x y z w f g h i = h i

balanced_quotable : (n : ℕ) (f : Forest) → is_balanced n f ≡ true → AreQuotable f
balanced_quotable n none h = tt
balanced_quotable n (leaf x f) h =
    behind_token (AreQuotable f) (opens (terminal x)) (closes (terminal x)) (is_balanced (n + 1) f) (not (nat_eq n 0)) (is_balanced (n - 1) f) (is_balanced n f)
    (λ i. balanced_quotable (n + 1) f i) (λ i. balanced_quotable (n - 1) f i) (λ i. balanced_quotable n f i) h
balanced_quotable n (node j b f) h = absurd cc

no_text : (a b : Bool) → (not a && b) ≡ true → a ≡ true → ⊥
no_text true b h g = cc
no_text false b h g = cc

mutual
  parts_quotable : {r : Rule} {f : Forest} → names_no_text r ≡ true → Fits V74 r f → AreQuotable f
  parts_quotable h is_nothing = tt
  parts_quotable h (is_word a) = tt
  parts_quotable h (is_kind n) = node_quotable n
  parts_quotable h (is_place a n) = node_quotable n
  parts_quotable h (is_inside {k = j} {r} {c} p n) =
      (λ g. absurd (no_text (is_quoted j) (names_no_text r) h g), parts_quotable (both_right (not (is_quoted j)) (names_no_text r) h) p, tt)
  parts_quotable h (is_both {r} {s} {f} {g} {h = i} p q e) =
      subst AreQuotable (sym e)
      (quotable_join g i (parts_quotable (both_left (names_no_text r) (names_no_text s) h) p) (parts_quotable (both_right (names_no_text r) (names_no_text s) h) q))
  parts_quotable h (is_first {r} {s} p) = parts_quotable (both_left (names_no_text r) (names_no_text s) h) p
  parts_quotable h (is_second {r} {s} p) = parts_quotable (both_right (names_no_text r) (names_no_text s) h) p
  parts_quotable h no_more = tt
  parts_quotable h (once_more {r} {f} {g} {h = i} p q e) =
      subst AreQuotable (sym e) (quotable_join g i (parts_quotable h p) (parts_quotable h q))
  parts_quotable h (is_tokens {f} b) = balanced_quotable 0 f b

  node_quotable : {j : NodeKind} {c : Forest} → IsNode V74 j c → AreQuotable (node j c none)
  node_quotable (is_node {k = j} {c} p n m) = (λ h. quoted_kind j h p, parts_quotable (form_names_no_text j) p, tt)

pub quoted_texts_are_walked : QuotedTextsAreWalked
quoted_texts_are_walked f s = parts_quotable refl s.shaped
