-- With which classes of tokens nodes begin.
use Rattle.std.proofs.Common.{◌≡◌, Bool, true, false, cond, ◌&&◌, ◌||◌, List, [], ◌∷◌, ◌++◌, inl, inr, refl, sym, ◌∙◌, subst, append-nil}
use Rattle.std.proofs.lemmas.Bool.{or_left, or_right, and_parts}
use Rattle.php_tree.specs.declared.kind.NodeKind.{NodeKind}
use Rattle.php_tree.specs.declared.kind.NodeKind.TheVariants as k
use Rattle.php_tree.specs.declared.token.Token.{Token}
use Rattle.php_tree.specs.declared.version.Version.{Version}
use Rattle.php_tree.specs.declared.version.Version.TheVariants.{V74, V83}
use Rattle.php_tree.specs.Tree.{Forest, ◌+++◌, leaves}
use Rattle.php_terminals.specs.declared.terminal.Terminal.{Terminal}
use Rattle.php_terminals.specs.declared.terminal.Terminal.TheVariants as t
use Rattle.php_terminals.specs.Classify.{terminal}
use Rattle.php_terminals.specs.Marks.{begins_place, is_open_brace, is_variable_start}
use Rattle.php_grammar.specs.Bases.{is_callee, is_class_base, is_list, is_member_base, is_offset_base, is_short_ternary, is_target, is_variable_expression}
use Rattle.php_exprs.proofs.Forests.{leaves_append}
use Rattle.php_shapes.specs.Forms.{form}
use Rattle.php_shapes.specs.Notation.{Rule, nothing, word, kind, place, inside, ◌~◌, ◌|||◌, many, tokens}
use Rattle.php_shapes.specs.Places.{
  Place,
  Statement,
  Member,
  Operand,
  Left,
  LeftShort,
  OffsetBase,
  MemberBase,
  ClassBase,
  Callee,
  Target,
  TargetOrList,
  ClassName,
  Embedded,
  is_expression,
  is_member,
  is_statement,
  may_stand,
  is_class_name,
}
use Rattle.php_shapes.specs.Shapes.{Fits, is_nothing, is_word, is_kind, is_place, is_inside, is_both, is_first, is_second, no_more, once_more, is_tokens, IsNode, is_node}
use Rattle.php_shapes.proofs.ReadClasses.{for_all, could, accepted, everywhere, whenever, or_is}

-- what an expression or a list form begins with
abbrev pub begins_expression : Terminal → Bool
begins_expression t.Variable = true
begins_expression t.Int = true
begins_expression t.Float = true
begins_expression t.Text = true
begins_expression t.QuoteOpen = true
begins_expression t.Cast = true
begins_expression t.OldCast = true
begins_expression t.QualifiedName = true
begins_expression t.FullName = true
begins_expression t.RelativeName = true
begins_expression t.Label = true
begins_expression t.Match = true
begins_expression t.Readonly = true
begins_expression t.MixedOrNever = true
begins_expression t.Array = true
begins_expression t.Clone = true
begins_expression t.Empty = true
begins_expression t.Eval = true
begins_expression t.Exit = true
begins_expression t.Fn = true
begins_expression t.Function = true
begins_expression t.Include = true
begins_expression t.Isset = true
begins_expression t.List = true
begins_expression t.Namespace = true
begins_expression t.New = true
begins_expression t.Print = true
begins_expression t.Static = true
begins_expression t.Yield = true
begins_expression t.YieldFrom = true
begins_expression t.OpenParen = true
begins_expression t.OpenBracket = true
begins_expression t.Backslash = true
begins_expression t.Dollar = true
begins_expression t.Plus = true
begins_expression t.Minus = true
begins_expression t.Tight = true
begins_expression t.Not = true
begins_expression t.Step = true
begins_expression _ = false

-- what a statement begins with
abbrev pub begins_statement : Terminal → Bool
begins_statement t.Semi = true
begins_statement t.InlineHtml = true
begins_statement t.OpenBrace = true
begins_statement t.Echo = true
begins_statement t.Return = true
begins_statement t.If = true
begins_statement t.While = true
begins_statement t.Do = true
begins_statement t.For = true
begins_statement t.Foreach = true
begins_statement t.Switch = true
begins_statement t.Break = true
begins_statement t.Continue = true
begins_statement t.Global = true
begins_statement t.Unset = true
begins_statement t.Throw = true
begins_statement t.Try = true
begins_statement t.Declare = true
begins_statement t.Goto = true
begins_statement t.Class = true
begins_statement t.ClassModifier = true
begins_statement t.AttributeOpen = true
begins_statement t.Interface = true
begins_statement t.Trait = true
begins_statement t.Use = true
begins_statement t.Const = true
begins_statement c = begins_expression c

-- what a member begins with
abbrev pub begins_member : Terminal → Bool
begins_member t.ClassModifier = true
begins_member t.Visibility = true
begins_member t.Static = true
begins_member t.Const = true
begins_member t.Function = true
begins_member t.Use = true
begins_member _ = false

-- what a type begins with
abbrev pub begins_type : Terminal → Bool
begins_type t.Question = true
begins_type t.Array = true
begins_type t.Callable = true
begins_type t.Label = true
begins_type t.Match = true
begins_type t.Readonly = true
begins_type t.MixedOrNever = true
begins_type t.Backslash = true
begins_type t.Namespace = true
begins_type t.QualifiedName = true
begins_type t.FullName = true
begins_type t.RelativeName = true
begins_type _ = false

-- what a parameter begins with
abbrev pub begins_param : Terminal → Bool
begins_param t.Ampersand = true
begins_param t.Ellipsis = true
begins_param t.Variable = true
begins_param c = begins_type c

-- what arguments begin with
abbrev pub begins_args : Terminal → Bool
begins_args t.Ellipsis = true
begins_args c = begins_expression c

-- what an item of an array or of a list form begins with
abbrev pub begins_item : Terminal → Bool
begins_item t.Ampersand = true
begins_item c = begins_args c

-- what a list form begins with
abbrev pub begins_list : Terminal → Bool
begins_list t.OpenBracket = true
begins_list t.List = true
begins_list _ = false

-- what a case begins with
abbrev pub begins_case : Terminal → Bool
begins_case t.Case = true
begins_case t.Default = true
begins_case _ = false

-- what a node of a kind begins with
abbrev pub begins : NodeKind → Terminal → Bool
begins k.Variable c = is_variable_start c
begins k.Block c = is_open_brace c
begins k.Offset c = begins_place c
begins k.BraceOffset c = begins_place c
begins k.Prop c = begins_place c
begins k.StaticProp c = begins_place c
begins k.Call c = begins_place c
begins k.MethodCall c = begins_place c
begins k.StaticCall c = begins_place c
begins k.Array c = begins_place c
begins k.Text c = begins_place c
begins k.Constant c = begins_place c
begins k.ClassConstant c = begins_place c
begins k.Paren c = begins_place c
begins k.Case c = begins_case c
begins k.Param c = begins_param c
begins k.TypeName c = begins_type c
begins k.Item c = begins_item c
begins k.Args c = begins_args c
begins k.List c = begins_list c
begins j c = cond (is_expression j) (begins_expression c) (cond (is_statement j) (begins_statement c) (begins_member c))

-- whether a node of a kind may have no token
abbrev pub may_be_empty : NodeKind → Bool
may_be_empty k.Args = true
may_be_empty _ = false

-- what a node at a place begins with
abbrev pub begins_at : Place → Terminal → Bool
begins_at Statement c = begins_statement c
begins_at Member c = begins_member c
begins_at (Operand n) c = begins_expression c
begins_at (Left n) c = begins_expression c
begins_at LeftShort c = begins_expression c
begins_at OffsetBase c = begins_place c
begins_at MemberBase c = begins_place c
begins_at ClassBase c = begins_place c
begins_at Callee c = begins_place c
begins_at Target c = begins_place c
begins_at TargetOrList c = begins_expression c
begins_at ClassName c = begins_expression c
begins_at Embedded c = begins_place c

-- whether a rule may have no token
abbrev pub nullable : Rule → Bool
nullable nothing = true
nullable (word w) = false
nullable (kind j) = may_be_empty j
nullable (place p) = false
nullable (inside j r) = nullable r
nullable (r ~ s) = nullable r && nullable s
nullable (r ||| s) = nullable r || nullable s
nullable (many r) = true
nullable tokens = true

-- what a rule begins with
abbrev pub starts : Version → Rule → Terminal → Bool
starts v nothing c = false
starts v (word w) c = could v w c
starts v (kind j) c = begins j c
starts v (place p) c = begins_at p c
starts v (inside j r) c = starts v r c
starts v (r ~ s) c = starts v r c || nullable r && starts v s c
starts v (r ||| s) c = starts v r c || starts v s c
starts v (many r) c = starts v r c
starts v tokens c = true

-- what rules one after another begin with, where a token of the classes F follows them
abbrev pub first : Version → List Rule → (Terminal → Bool) → Terminal → Bool
first v [] F c = F c
first v (r ∷ rs) F c = starts v r c || nullable r && first v rs F c

-- Tokens begin with one of the classes P; or there are none, where b says that this may be.
abbrev pub Begins : (Terminal → Bool) → Bool → List Token → Type 0
Begins P b [] = b ≡ true
Begins P b (x ∷ xs) = P (terminal x) ≡ true

-- ---- the table of the kinds

abbrev pub sound_kind : Version → NodeKind → Bool
sound_kind v j = for_all (λ c. whenever (starts v (form v j) c) (begins j c)) && whenever (nullable (form v j)) (may_be_empty j)

abbrev pub sound_at : (NodeKind → Bool) → (Terminal → Bool) → NodeKind → Bool
sound_at stands P j = whenever (stands j) (for_all (λ c. whenever (begins j c) (P c)))

kinds_are_sound : (v : Version) (j : NodeKind) → sound_kind v j ≡ true
unfolding for_all
kinds_are_sound V74 k.Block = refl
kinds_are_sound V74 other = refl
kinds_are_sound V83 k.Block = refl
kinds_are_sound V83 other = refl

-- ---- places

pub at_expression : (j : NodeKind) → sound_at is_expression begins_expression j ≡ true
unfolding for_all
at_expression k.Block = refl
at_expression other = refl

pub at_statement : (j : NodeKind) → sound_at is_statement begins_statement j ≡ true
unfolding for_all
at_statement k.Block = refl
at_statement other = refl

pub at_member : (j : NodeKind) → sound_at is_member begins_member j ≡ true
unfolding for_all
at_member k.Block = refl
at_member other = refl

pub at_list : (j : NodeKind) → sound_at is_list begins_expression j ≡ true
unfolding for_all
at_list k.Block = refl
at_list other = refl

pub at_target : (j : NodeKind) → sound_at is_target begins_place j ≡ true
unfolding for_all
at_target k.Block = refl
at_target other = refl

pub at_offset_base : (j : NodeKind) → sound_at is_offset_base begins_place j ≡ true
unfolding for_all
at_offset_base k.Block = refl
at_offset_base other = refl

pub at_member_base : (j : NodeKind) → sound_at is_member_base begins_place j ≡ true
unfolding for_all
at_member_base k.Block = refl
at_member_base other = refl

pub at_class_base : (j : NodeKind) → sound_at is_class_base begins_place j ≡ true
unfolding for_all
at_class_base k.Block = refl
at_class_base other = refl

pub at_callee : (j : NodeKind) → sound_at is_callee begins_place j ≡ true
unfolding for_all
at_callee k.Block = refl
at_callee other = refl

pub at_short : (j : NodeKind) → sound_at is_short_ternary begins_expression j ≡ true
unfolding for_all
at_short k.Block = refl
at_short other = refl

pub at_class_name : (j : NodeKind) → sound_at is_class_name begins_expression j ≡ true
unfolding for_all
at_class_name k.Block = refl
at_class_name other = refl

pub at_variable_expression : (j : NodeKind) → sound_at is_variable_expression begins_place j ≡ true
unfolding for_all
at_variable_expression k.Block = refl
at_variable_expression other = refl

pub when_true : (a b : Bool) → a ≡ true → whenever a b ≡ true → b ≡ true
when_true true b h k = k
when_true false b h k = absurd cc

-- what holds wherever one test does holds at a class
pub there : (P Q : Terminal → Bool) → for_all (λ c. whenever (P c) (Q c)) ≡ true → (c : Terminal) → P c ≡ true → Q c ≡ true
there P Q h c p = when_true (P c) (Q c) p (everywhere (λ d. whenever (P d) (Q d)) h c)

places_begin : for_all (λ c. whenever (begins_place c) (begins_expression c)) ≡ true
unfolding for_all
places_begin = refl

stand : (S : NodeKind → Bool) (P : Terminal → Bool) (j : NodeKind) → sound_at S P j ≡ true → S j ≡ true → (c : Terminal) → begins j c ≡ true → P c ≡ true
stand S P j s h c b = there (begins j) P (when_true (S j) _ h s) c b

pub place_expression : (d : Terminal) → begins_place d ≡ true → begins_expression d ≡ true
place_expression d e = there begins_place begins_expression places_begin d e

pub at_place : (v : Version) (p : Place) (j : NodeKind) (c : Forest) → may_stand v p (j, c) ≡ true → (d : Terminal) → begins j d ≡ true → begins_at p d ≡ true
unfolding for_all
at_place v Statement j c h d b = stand is_statement begins_statement j (at_statement j) h d b
at_place v Member j c h d b = stand is_member begins_member j (at_member j) h d b
at_place v (Operand n) j c h d b = stand is_expression begins_expression j (at_expression j) ((and_parts (is_expression j) _ h).0) d b
at_place v (Left n) j c h d b = stand is_expression begins_expression j (at_expression j) ((and_parts (is_expression j) _ h).0) d b
at_place v LeftShort j c h d b = stand is_short_ternary begins_expression j (at_short j) ((and_parts (is_short_ternary j) _ h).0) d b
at_place v OffsetBase j c h d b = stand is_offset_base begins_place j (at_offset_base j) h d b
at_place v MemberBase j c h d b = stand is_member_base begins_place j (at_member_base j) h d b
at_place v ClassBase j c h d b = stand is_class_base begins_place j (at_class_base j) h d b
at_place v Callee j c h d b = stand is_callee begins_place j (at_callee j) h d b
at_place v Target j c h d b = stand is_target begins_place j (at_target j) h d b
at_place v TargetOrList j c h d b = elim (or_is (is_target j) (is_list j) h) [
  | inl e ↦ place_expression d (stand is_target begins_place j (at_target j) e d b)
  | inr e
      ↦ stand is_list begins_expression j (at_list j) e d b
]
at_place v ClassName j c h d b = stand is_class_name begins_expression j (at_class_name j) ((and_parts (is_class_name j) _ h).0) d b
at_place v Embedded j c h d b = stand is_variable_expression begins_place j (at_variable_expression j) ((and_parts (is_variable_expression j) _ h).0) d b

-- ---- trees

Begins-weaken : (P Q : Terminal → Bool) (b c : Bool) (ts : List Token) → ((d : Terminal) → P d ≡ true → Q d ≡ true) → (b ≡ true → c ≡ true) → Begins P b ts → Begins Q c ts
Begins-weaken P Q b c [] f g h = g h
Begins-weaken P Q b c (x ∷ xs) f g h = f (terminal x) h

abbrev in_both : Version → Rule → Rule → Terminal → Bool
in_both v r s c = starts v (r ~ s) c

Begins-both : (P Q : Terminal → Bool) (b c : Bool) (ts us : List Token) → Begins P b ts → Begins Q c us → Begins (λ d. P d || b && Q d) (b && c) (ts ++ us)
Begins-both P Q b c [] [] h k = rw (h, k) refl
Begins-both P Q b c [] (y ∷ ys) h k = rw h (or_right (P (terminal y)) (Q (terminal y)) k)
Begins-both P Q b c (x ∷ xs) us h k = rw h refl

cover : (v : Version) (f g h : Forest) (P Q : Terminal → Bool) (b c : Bool) → f ≡ g +++ h → Begins P b (leaves g)
    → Begins Q c (leaves h) → Begins (λ d. P d || b && Q d) (b && c) (leaves f)
cover v f g h P Q b c e x y = rw (e, leaves_append g h) (Begins-both P Q b c (leaves g) (leaves h) x y)

Begins-more : (P : Terminal → Bool) (b : Bool) (ts us : List Token) → Begins P b ts → Begins P true us → Begins P true (ts ++ us)
Begins-more P b [] us h k = k
Begins-more P b (x ∷ xs) us h k = h

Begins-any : (ts : List Token) → Begins (λ d. true) true ts
Begins-any [] = refl
Begins-any (x ∷ xs) = refl

Begins-alone : (P : Terminal → Bool) (b : Bool) (c : Forest) → Begins P b (leaves c) → Begins P b (leaves c ++ [])
Begins-alone P b c h = rw (append-nil (leaves c)) h

-- a node that may have no token stands at no place
pub no_args : (v : Version) (p : Place) (c : Forest) → may_stand v p (k.Args, c) ≡ false
no_args v Statement c = refl
no_args v Member c = refl
no_args v (Operand n) c = refl
no_args v (Left n) c = refl
no_args v LeftShort c = refl
no_args v OffsetBase c = refl
no_args v MemberBase c = refl
no_args v ClassBase c = refl
no_args v Callee c = refl
no_args v Target c = refl
no_args v TargetOrList c = refl
no_args v ClassName c = refl
no_args v Embedded c = refl

empty_is : (j : NodeKind) → may_be_empty j ≡ true → j ≡ k.Args
empty_is k.Args h = refl
empty_is other h = absurd cc

not_empty : (v : Version) (p : Place) (j : NodeKind) (c : Forest) → may_stand v p (j, c) ≡ true → may_be_empty j ≡ true → false ≡ true
not_empty v p j c m e = sym (no_args v p c) ∙ subst (λ (i : NodeKind). may_stand v p (i, c) ≡ true) (empty_is j e) m

mutual
  pub rule_begins : (v : Version) {r : Rule} {f : Forest} → Fits v r f → Begins (starts v r) (nullable r) (leaves f)
  rule_begins v is_nothing = refl
  rule_begins v (is_word {c = w} {x = x} a) = accepted v w x a
  rule_begins v (is_kind {k = j} {c = c} n) = Begins-alone (begins j) (may_be_empty j) c (node_begins v n)
  rule_begins v (is_place {p = p} {k = j} {c = c} m n) = Begins-alone (begins_at p) false c
      (Begins-weaken (begins j) (begins_at p) (may_be_empty j) false (leaves c) (at_place v p j c m)
      (not_empty v p j c m) (node_begins v n))
  rule_begins v (is_inside {k = j} {r = r} {c = c} x near) = Begins-alone (starts v r) (nullable r) c (rule_begins v x)
  rule_begins v (is_both {r = r} {s = s} {f = f} {g = g} {h = h} x y e) = cover v f g h (starts v r) (starts v s) (nullable r) (nullable s) e (rule_begins v x) (rule_begins v y)
  rule_begins v (is_first {r = r} {s = s} {f = f} x) = Begins-weaken (starts v r) (starts v (r ||| s)) (nullable r)
      (nullable (r ||| s)) (leaves f) (λ d. or_left (starts v r d) (starts v s d)) (or_left (nullable r) (nullable s))
      (rule_begins v x)
  rule_begins v (is_second {r = r} {s = s} {f = f} x) = Begins-weaken (starts v s) (starts v (r ||| s)) (nullable s)
      (nullable (r ||| s)) (leaves f) (λ d. or_right (starts v r d) (starts v s d))
      (or_right (nullable r) (nullable s)) (rule_begins v x)
  rule_begins v no_more = refl
  rule_begins v (once_more {r = r} {f = f} {g = g} {h = h} x y e) =
      rw (e, leaves_append g h) (Begins-more (starts v r) (nullable r) (leaves g) (leaves h) (rule_begins v x)
      (rule_begins v y))
  rule_begins v (is_tokens {f = f} b) = Begins-any (leaves f)

  pub node_begins : (v : Version) {j : NodeKind} {c : Forest} → IsNode v j c → Begins (begins j) (may_be_empty j) (leaves c)
  node_begins v (is_node {k = j} {c = c} x near straight) =
      Begins-weaken (starts v (form v j)) (begins j) (nullable (form v j)) (may_be_empty j) (leaves c)
      (there (starts v (form v j)) (begins j) ((and_parts _ _ (kinds_are_sound v j)).0))
      (λ e. when_true _ _ e ((and_parts _ _ (kinds_are_sound v j)).1)) (rule_begins v x)
