-- What holds of each class of tokens, and which classes a token may have.
use Rattle.std.proofs.Common.{
  ◌≡◌,
  ℕ,
  zero,
  suc,
  Bool,
  true,
  false,
  not,
  cond,
  ◌&&◌,
  ◌||◌,
  nat_lt,
  List,
  [],
  ◌∷◌,
  length,
  Option,
  Some,
  None,
  ◌⊎◌,
  inl,
  inr,
  refl,
  sym,
  ap,
  ◌∙◌,
  subst,
}
use Rattle.std.proofs.lemmas.Bool.{eqb-true, and_parts}
use Rattle.std.specs.Prelude.{slice_index}
use Rattle.std.specs.Char.{to_ascii_lowercase}
use Rattle.php_tree.specs.declared.token.Token.{Token}
use Rattle.php_tree.specs.declared.token.TokenKind.{TokenKind}
use Rattle.php_tree.specs.declared.token.TokenKind.TheVariants as kind
use Rattle.php_tree.specs.declared.version.Version.{Version}
use Rattle.php_terminals.specs.declared.terminal.Terminal.{Terminal}
use Rattle.php_terminals.specs.declared.terminal.Terminal.TheVariants as t
use Rattle.php_terminals.specs.Classify.{
  terminal,
  terminal_by,
  cast,
  cast_letter,
  opening,
  name,
  is_any_label,
  is_attribute_by,
  is_full,
  is_modifier,
  is_qualified,
  is_relative,
  is_sign_or_tight,
  is_word_token,
  is_word_kind,
  names_refused,
}
use Rattle.php_terminals.specs.Words.{find_row, is_word, keyword, keywords, label, labels, operator, operators}
use Rattle.php_terminals.specs.Terminals.{code}
use Rattle.php_grammar.specs.Accepts.{accepts, in_set, is_class_label, is_free_label, is_function_label, same_class}
use Rattle.php_grammar.specs.Levels.{binary_level}

-- ---- tests over all classes
abbrev pub all_classes : List Terminal
all_classes =
    t.InlineHtml
    ∷ t.Variable
    ∷ t.Int
    ∷ t.Float
    ∷ t.Text
    ∷ t.QuoteOpen
    ∷ t.Piece
    ∷ t.CurlyOpen
    ∷ t.DollarBrace
    ∷ t.VarName
    ∷ t.QuotedEnd
    ∷ t.Cast
    ∷ t.OldCast
    ∷ t.AttributeOpen
    ∷ t.QualifiedName
    ∷ t.FullName
    ∷ t.RelativeName
    ∷ t.Semi
    ∷ t.End
    ∷ t.Label
    ∷ t.Match
    ∷ t.Readonly
    ∷ t.MixedOrNever
    ∷ t.Array
    ∷ t.As
    ∷ t.Break
    ∷ t.Callable
    ∷ t.Case
    ∷ t.Catch
    ∷ t.Class
    ∷ t.Clone
    ∷ t.Const
    ∷ t.Continue
    ∷ t.Declare
    ∷ t.Default
    ∷ t.Do
    ∷ t.Echo
    ∷ t.Else
    ∷ t.ElseIf
    ∷ t.Empty
    ∷ t.EndDeclare
    ∷ t.EndFor
    ∷ t.EndForeach
    ∷ t.EndIf
    ∷ t.EndSwitch
    ∷ t.EndWhile
    ∷ t.Eval
    ∷ t.Exit
    ∷ t.Extends
    ∷ t.Finally
    ∷ t.Fn
    ∷ t.For
    ∷ t.Foreach
    ∷ t.Function
    ∷ t.Global
    ∷ t.Goto
    ∷ t.If
    ∷ t.Implements
    ∷ t.Include
    ∷ t.InstanceOf
    ∷ t.Interface
    ∷ t.Isset
    ∷ t.List
    ∷ t.Namespace
    ∷ t.New
    ∷ t.And
    ∷ t.Or
    ∷ t.Xor
    ∷ t.Print
    ∷ t.ClassModifier
    ∷ t.Visibility
    ∷ t.Return
    ∷ t.Static
    ∷ t.Switch
    ∷ t.Throw
    ∷ t.Trait
    ∷ t.Try
    ∷ t.Unset
    ∷ t.Use
    ∷ t.While
    ∷ t.Yield
    ∷ t.YieldFrom
    ∷ t.OtherKeyword
    ∷ t.OpenParen
    ∷ t.CloseParen
    ∷ t.OpenBracket
    ∷ t.CloseBracket
    ∷ t.OpenBrace
    ∷ t.CloseBrace
    ∷ t.Comma
    ∷ t.Colon
    ∷ t.DoubleColon
    ∷ t.Arrow
    ∷ t.DoubleArrow
    ∷ t.Backslash
    ∷ t.Dollar
    ∷ t.Ellipsis
    ∷ t.Question
    ∷ t.Assign
    ∷ t.CompoundAssign
    ∷ t.Power
    ∷ t.Plus
    ∷ t.Minus
    ∷ t.Factor
    ∷ t.Shift
    ∷ t.Dot
    ∷ t.Order
    ∷ t.Equality
    ∷ t.Ampersand
    ∷ t.Caret
    ∷ t.Bar
    ∷ t.BooleanAnd
    ∷ t.BooleanOr
    ∷ t.Coalesce
    ∷ t.Step
    ∷ t.Not
    ∷ t.Tight
    ∷ t.OtherOp
    ∷ t.AnyLabel
    ∷ t.FreeLabel
    ∷ t.FunctionLabel
    ∷ t.ClassLabel
    ∷ t.NameToken
    ∷ t.CalledName
    ∷ t.NamespaceToken
    ∷ t.ImportedName
    ∷ t.ImportedClass
    ∷ t.GroupedName
    ∷ t.GroupedClass
    ∷ t.AttributeName
    ∷ t.AnyWord
    ∷ t.ConstantWord
    ∷ t.Modifier
    ∷ t.BinaryOperator
    ∷ t.SignOrTight
    ∷ t.Never
    ∷ []

-- a test, where another one holds
abbrev pub whenever : Bool → Bool → Bool
whenever true b = b
whenever false b = true

abbrev pub all_of : (Terminal → Bool) → List Terminal → Bool
all_of P [] = true
all_of P (c ∷ cs) = P c && all_of P cs

abbrev nth : ℕ → List Terminal → Option Terminal
nth n [] = None
nth zero (c ∷ cs) = Some c
nth (suc n) (c ∷ cs) = nth n cs

some_is : (a b : Terminal) → Some a ≡ Some b → a ≡ b
some_is a b e = cc

holds_at : (P : Terminal → Bool) (n : ℕ) (cs : List Terminal) (c : Terminal) → all_of P cs ≡ true → nth n cs ≡ Some c → P c ≡ true
holds_at P n [] c h e = absurd cc
holds_at P zero (d ∷ cs) c h e = subst (λ (x : Terminal). P x ≡ true) (some_is d c e) ((and_parts (P d) (all_of P cs) h).0)
holds_at P (suc n) (d ∷ cs) c h e = holds_at P n cs c ((and_parts (P d) (all_of P cs) h).1) e

nth_code : (c : Terminal) → nth (code c) all_classes ≡ Some c
nth_code t.InlineHtml = refl
nth_code other = refl

-- whether a test holds of all classes
unfoldable pub for_all : (Terminal → Bool) → Bool
for_all P = all_of P all_classes

pub everywhere : (P : Terminal → Bool) → for_all P ≡ true → (c : Terminal) → P c ≡ true
unfolding for_all
everywhere P h c = holds_at P (code c) all_classes c h (nth_code c)

pub same_is : (a b : Terminal) → same_class a b ≡ true → a ≡ b
same_is a b h = some_is a b (sym (nth_code a) ∙ ap (λ (n : ℕ). nth n all_classes) (eqb-true (code a) (code b) h) ∙ nth_code b)

-- ---- classes of tokens

-- a class that a token may have, and none that stands for several
abbrev pub is_real : Terminal → Bool
is_real c = nat_lt (code c) 118

-- a class that a label or a keyword has
abbrev pub is_word_class : Terminal → Bool
is_word_class c = nat_lt 18 (code c) && nat_lt (code c) 83

-- a class that a whole name has
abbrev pub is_whole_name : Terminal → Bool
is_whole_name c = is_qualified c || is_full c || is_relative c

abbrev rows_all : (Terminal → Bool) → List (List ℕ × Terminal) → Bool
rows_all P [] = true
rows_all P (r ∷ rs) = P r.1 && rows_all P rs

pub either_holds : (P : Terminal → Bool) (b : Bool) (x y : Terminal) → P x ≡ true → P y ≡ true → P (cond b x y) ≡ true
either_holds P true x y h k = h
either_holds P false x y h k = k

found_in : (P : Terminal → Bool) (other : Terminal) (rows : List (List ℕ × Terminal)) (text : List ℕ) → P other ≡ true
    → rows_all P rows ≡ true → P (find_row other rows text) ≡ true
found_in P other [] text h a = h
found_in P other (r ∷ rs) text h a =
    let two : (P r.1 ≡ true) × (rows_all P rs ≡ true) = and_parts (P r.1) (rows_all P rs) a in
    either_holds P (is_word r.0 text) r.1 (find_row other rs text) two.0 (found_in P other rs text h two.1)

label_in : (P : Terminal → Bool) (text : List ℕ) → P t.Label ≡ true → rows_all P labels ≡ true → P (label text) ≡ true
label_in P text h a = found_in P t.Label labels text h a

keyword_in : (P : Terminal → Bool) (text : List ℕ) → P t.YieldFrom ≡ true → P t.OtherKeyword ≡ true → rows_all P keywords ≡ true → P (keyword text) ≡ true
keyword_in P text y o a = either_holds P _ t.YieldFrom (find_row t.OtherKeyword keywords text) y (found_in P t.OtherKeyword keywords text o a)

operator_in : (P : Terminal → Bool) (text : List ℕ) → P t.OtherOp ≡ true → rows_all P operators ≡ true → P (operator text) ≡ true
operator_in P text o a = found_in P t.OtherOp operators text o a

letter_in : (P : Terminal → Bool) (b : ℕ) → P t.OldCast ≡ true → P t.Cast ≡ true → P (cast_letter b) ≡ true
letter_in P b o c = either_holds P _ t.OldCast t.Cast o c

cast_in : (P : Terminal → Bool) (text : List ℕ) → P t.OldCast ≡ true → P t.Cast ≡ true → P (cast text) ≡ true
cast_in P text o c = either_holds P (nat_lt (opening text) (length text))
    (cast_letter (to_ascii_lowercase (slice_index text (opening text)))) t.Cast
    (letter_in P (to_ascii_lowercase (slice_index text (opening text))) o c) c

name_in : (P : Terminal → Bool) (text : List ℕ) → P t.FullName ≡ true → P t.RelativeName ≡ true → P t.QualifiedName ≡ true → P (name text) ≡ true
name_in P text f r q = either_holds P _ t.FullName _ f (either_holds P _ t.RelativeName t.QualifiedName r q)

real_by : (k : TokenKind) (text : List ℕ) → is_real (terminal_by k text) ≡ true
unfolding keywords operators labels
real_by kind.Label text = label_in is_real text refl refl
real_by kind.Keyword text = keyword_in is_real text refl refl refl
real_by kind.Op text = operator_in is_real text refl refl
real_by kind.Cast text = cast_in is_real text refl refl
real_by kind.Name text = name_in is_real text refl refl refl
real_by kind.InlineHtml text = refl
real_by kind.OpenEcho text = refl
real_by kind.Variable text = refl
real_by kind.Int text = refl
real_by kind.Float text = refl
real_by kind.Text text = refl
real_by kind.Quote text = refl
real_by kind.HeredocStart text = refl
real_by kind.Backtick text = refl
real_by kind.AttributeOpen text = refl
real_by kind.Semi text = refl
real_by kind.Close text = refl
real_by kind.End text = refl
real_by kind.Piece text = refl
real_by kind.CurlyOpen text = refl
real_by kind.DollarBrace text = refl
real_by kind.VarName text = refl
real_by kind.QuotedEnd text = refl

pub real : (x : Token) → is_real (terminal x) ≡ true
real x = real_by x.kind x.text

word_by : (k : TokenKind) (text : List ℕ) → is_word_kind k ≡ true → is_word_class (terminal_by k text) ≡ true
unfolding keywords labels
word_by kind.Label text h = label_in is_word_class text refl refl
word_by kind.Keyword text h = keyword_in is_word_class text refl refl refl
word_by kind.Op text h = absurd cc
word_by kind.Cast text h = absurd cc
word_by kind.Name text h = absurd cc
word_by kind.InlineHtml text h = absurd cc
word_by kind.OpenEcho text h = absurd cc
word_by kind.Variable text h = absurd cc
word_by kind.Int text h = absurd cc
word_by kind.Float text h = absurd cc
word_by kind.Text text h = absurd cc
word_by kind.Quote text h = absurd cc
word_by kind.HeredocStart text h = absurd cc
word_by kind.Backtick text h = absurd cc
word_by kind.AttributeOpen text h = absurd cc
word_by kind.Semi text h = absurd cc
word_by kind.Close text h = absurd cc
word_by kind.End text h = absurd cc
word_by kind.Piece text h = absurd cc
word_by kind.CurlyOpen text h = absurd cc
word_by kind.DollarBrace text h = absurd cc
word_by kind.VarName text h = absurd cc
word_by kind.QuotedEnd text h = absurd cc

attribute_by : (k : TokenKind) (text : List ℕ) → is_attribute_by k text ≡ true → is_whole_name (terminal_by k text) ≡ true
attribute_by kind.Name text h = name_in is_whole_name text refl refl refl
attribute_by kind.Label text h = absurd cc
attribute_by kind.Keyword text h = absurd cc
attribute_by kind.Op text h = absurd cc
attribute_by kind.Cast text h = absurd cc
attribute_by kind.InlineHtml text h = absurd cc
attribute_by kind.OpenEcho text h = absurd cc
attribute_by kind.Variable text h = absurd cc
attribute_by kind.Int text h = absurd cc
attribute_by kind.Float text h = absurd cc
attribute_by kind.Text text h = absurd cc
attribute_by kind.Quote text h = absurd cc
attribute_by kind.HeredocStart text h = absurd cc
attribute_by kind.Backtick text h = absurd cc
attribute_by kind.AttributeOpen text h = absurd cc
attribute_by kind.Semi text h = absurd cc
attribute_by kind.Close text h = absurd cc
attribute_by kind.End text h = absurd cc
attribute_by kind.Piece text h = absurd cc
attribute_by kind.CurlyOpen text h = absurd cc
attribute_by kind.DollarBrace text h = absurd cc
attribute_by kind.VarName text h = absurd cc
attribute_by kind.QuotedEnd text h = absurd cc

-- whether a token of the second class may be one that a form asks for by the first
abbrev pub may : Version → Terminal → Terminal → Bool
may v t.AnyLabel own = is_any_label own
may v t.FreeLabel own = is_free_label v own
may v t.FunctionLabel own = is_function_label v own
may v t.ClassLabel own = is_class_label v own
may v t.NameToken own = is_free_label v own || is_whole_name own
may v t.CalledName own = is_function_label v own || is_whole_name own
may v t.NamespaceToken own = is_any_label own || is_qualified own
may v t.ImportedName own = is_free_label v own || is_qualified own || is_full own
may v t.ImportedClass own = is_class_label v own || is_qualified own || is_full own
may v t.GroupedName own = is_free_label v own || is_qualified own
may v t.GroupedClass own = is_class_label v own || is_qualified own
may v t.AttributeName own = is_whole_name own
may v t.AnyWord own = is_word_class own
may v t.ConstantWord own = is_word_class own
may v t.Modifier own = is_modifier own
may v t.BinaryOperator own = nat_lt 0 (binary_level v own)
may v t.SignOrTight own = is_sign_or_tight own
may v asked own = same_class asked own

abbrev pub could : Version → Terminal → Terminal → Bool
could v asked own = is_real own && may v asked own

pub or_is : (a b : Bool) → (a || b) ≡ true → (a ≡ true) ⊎ (b ≡ true)
or_is true b h = inl refl
or_is false b h = inr h

and_left : (a b c : Bool) → (a || b && c) ≡ true → (a || b) ≡ true
and_left true b c h = refl
and_left false true c h = refl
and_left false false c h = h

and_left_3 : (a b c d : Bool) → (a || (b || c) && d) ≡ true → (a || b || c) ≡ true
and_left_3 true b c d h = refl
and_left_3 false true c d h = refl
and_left_3 false false true d h = refl
and_left_3 false false false d h = h

or_4 : (a b c d : Bool) → (a || b || c || d) ≡ true → (a || (b || c || d)) ≡ true
or_4 true b c d h = refl
or_4 false b c d h = h

-- a class that stands for several is no token's own
of_set : (asked own : Terminal) (a b : Bool) → is_real own ≡ true → is_real asked ≡ false → (a ≡ true → b ≡ true) → (a || same_class asked own) ≡ true → b ≡ true
of_set asked own a b r n f h = elim (or_is a (same_class asked own) h) [ inl e ↦ f e | inr e ↦ absurd (no (sym r ∙ ap is_real (sym (same_is asked own e)) ∙ n)) ]
  where
    no : true ≡ false → ⊥
    no e = cc

may_be : (v : Version) (asked own : Terminal) (x : Token) → terminal x ≡ own → is_real own ≡ true → (in_set v asked own x || same_class asked own) ≡ true → may v asked own ≡ true
may_be v t.AnyLabel own x e r = of_set t.AnyLabel own _ _ r refl (λ h. h)
may_be v t.FreeLabel own x e r = of_set t.FreeLabel own _ _ r refl (λ h. h)
may_be v t.FunctionLabel own x e r = of_set t.FunctionLabel own _ _ r refl (λ h. h)
may_be v t.ClassLabel own x e r = of_set t.ClassLabel own _ _ r refl (λ h. h)
may_be v t.NameToken own x e r = of_set t.NameToken own (in_set v t.NameToken own x) (may v t.NameToken own) r refl
    (or_4 (is_free_label v own) (is_qualified own) (is_full own) (is_relative own))
may_be v t.CalledName own x e r = of_set t.CalledName own (in_set v t.CalledName own x) (may v t.CalledName own) r
    refl (or_4 (is_function_label v own) (is_qualified own) (is_full own) (is_relative own))
may_be v t.NamespaceToken own x e r = of_set t.NamespaceToken own _ _ r refl (λ h. h)
may_be v t.ImportedName own x e r = of_set t.ImportedName own _ _ r refl (λ h. h)
may_be v t.GroupedName own x e r = of_set t.GroupedName own _ _ r refl (λ h. h)
may_be v t.Modifier own x e r = of_set t.Modifier own _ _ r refl (λ h. h)
may_be v t.BinaryOperator own x e r = of_set t.BinaryOperator own _ _ r refl (λ h. h)
may_be v t.SignOrTight own x e r = of_set t.SignOrTight own _ _ r refl (λ h. h)
may_be v t.ImportedClass own x e r = of_set t.ImportedClass own (in_set v t.ImportedClass own x)
    (may v t.ImportedClass own) r refl (and_left_3 (is_class_label v own) (is_qualified own) (is_full own)
    (not (names_refused x.text)))
may_be v t.GroupedClass own x e r = of_set t.GroupedClass own (in_set v t.GroupedClass own x)
    (may v t.GroupedClass own) r refl (and_left (is_class_label v own) (is_qualified own)
    (not (names_refused x.text)))
may_be v t.AttributeName own x e r = of_set t.AttributeName own _ _ r refl (λ h. subst (λ (c : Terminal). is_whole_name c ≡ true) e (attribute_by x.kind x.text h))
may_be v t.AnyWord own x e r = of_set t.AnyWord own _ _ r refl (λ h. subst (λ (c : Terminal). is_word_class c ≡ true) e (word_by x.kind x.text h))
may_be v t.ConstantWord own x e r = of_set t.ConstantWord own _ _ r refl
    (λ h. subst (λ (c : Terminal). is_word_class c ≡ true) e (word_by x.kind x.text ((and_parts (is_word_token x) _ h).0)))
may_be v asked own x e r = λ h. h

pub accepted : (v : Version) (asked : Terminal) (x : Token) → accepts v asked x ≡ true → could v asked (terminal x) ≡ true
accepted v asked x h = rw (real x) (may_be v asked (terminal x) x refl (real x) h)

-- a token of a class that stands for itself alone
pub pinned : (v : Version) (asked : Terminal) (x : Token) → for_all (λ c. whenever (could v asked c) (same_class asked c)) ≡ true → accepts v asked x ≡ true → terminal x ≡ asked
pinned v asked x t h = sym (same_is asked (terminal x) (when_true _ _ (accepted v asked x h) (everywhere (λ c. whenever (could v asked c) (same_class asked c)) t (terminal x))))
  where
    when_true : (a b : Bool) → a ≡ true → whenever a b ≡ true → b ≡ true
    when_true true b h k = k
    when_true false b h k = absurd cc
