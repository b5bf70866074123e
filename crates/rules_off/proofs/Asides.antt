-- In a tree with the shape of the 7.4 grammar no name is part of an offset in braces, a cast `(real)` or a quoted text itself.
use Rattle.std.proofs.Common.{◌≡◌, ℕ, ◌+◌, ◌-◌, Bool, true, false, not, cond, ◌&&◌, ◌||◌, nat_eq, codes, List, [], ◌∷◌, ◌++◌, refl, ap, sym, ◌∙◌, subst}
use Rattle.std.specs.Str.{bytes_eq, str_to_ascii_lowercase}
use Rattle.php_tree.specs.declared.kind.NodeKind.{NodeKind}
use Rattle.php_tree.specs.declared.kind.NodeKind.TheVariants as k
use Rattle.php_tree.specs.declared.token.Token.{Token}
use Rattle.php_tree.specs.declared.token.TokenKind.{TokenKind}
use Rattle.php_tree.specs.declared.token.TokenKind.TheVariants as kind
use Rattle.php_tree.specs.declared.version.Version.TheVariants.{V74}
use Rattle.php_tree.specs.Tree.{File, Forest, none, leaf, node, ◌+++◌}
use Rattle.php_terminals.specs.Classify.{terminal}
use Rattle.php_terminals.specs.Marks.{closes, opens}
use Rattle.php_reading.specs.Reading.{Reads}
use Rattle.php_shapes.specs.Forms.{form}
use Rattle.php_shapes.specs.Notation.{Rule, nothing, word, place, inside, ◌~◌, ◌|||◌, many, tokens}
use Rattle.php_shapes.specs.Notation as rule
use Rattle.php_shapes.specs.Operators.{cast}
use Rattle.php_shapes.specs.Postfixes.{brace_offset}
use Rattle.php_shapes.specs.Quoted.{interpolated, quoted, quoted_part}
use Rattle.php_shapes.specs.Shapes.{
  is_balanced,
  Fits,
  is_nothing,
  is_word,
  is_kind,
  is_place,
  is_inside,
  is_both,
  is_first,
  is_second,
  no_more,
  once_more,
  is_tokens,
  IsNode,
  is_node,
}
use Rattle.php_shapes.proofs.Walked.{file_has_shape}
use Rattle.syntax_rules.specs.HashComment.{hash_comment}
use Rattle.syntax_rules.specs.Quotable.{is_loose}
use Rattle.syntax_rules.specs.SplitName.{is_keyword, is_label}
use Rattle.syntax_rules.specs.SplitName as names
use Rattle.rewritten_shapes.specs.paired.Tokens.{IsMark, opens_text}
use Rattle.rewritten_shapes.proofs.paired.Asked.{both_left, both_right}
use Rattle.rewritten_shapes.proofs.paired.Marks as told
use Rattle.rules_off.specs.Laws.{HoldNoName, NamesAreAside, is_worded}

-- ---- tokens that are no parts of names

abbrev IsLoose : Token → Type 0
IsLoose t = is_loose (hash_comment t) ≡ true

-- whether no token of the kind is a part of a name
abbrev is_free_kind : TokenKind → Bool
is_free_kind kind.Label = false
is_free_kind kind.Keyword = false
is_free_kind kind.Op = false
is_free_kind _ = true

loose_by : (sort : TokenKind) (text : List ℕ) → is_free_kind sort ≡ true
    → (not (names.is_op sort && bytes_eq text (codes "\\"))
    && not (is_label sort || is_keyword sort && bytes_eq (str_to_ascii_lowercase text) (codes "namespace"))) ≡ true
loose_by kind.Label text e = absurd cc
loose_by kind.Keyword text e = absurd cc
loose_by kind.Op text e = absurd cc
loose_by _ text e = refl

loose_kind : (t : Token) → is_free_kind t.kind ≡ true → IsLoose t
loose_kind t e = loose_by t.kind (t.text ++ []) e

-- a bracket that is told by its text
loose_mark : (b : ℕ) (t : Token) → IsMark b t → bytes_eq (b ∷ []) (codes "\\") ≡ false → IsLoose t
loose_mark b t m e =
    ap (λ (sort : TokenKind). not (names.is_op sort && bytes_eq (t.text ++ []) (codes "\\"))
    && not (is_label sort || is_keyword sort && bytes_eq (str_to_ascii_lowercase (t.text ++ [])) (codes "namespace"))) m.kind
    ∙ ap (λ (text : List ℕ). not (bytes_eq (text ++ []) (codes "\\")) && true) m.text
    ∙ ap (λ (x : Bool). not x && true) e

hold_join : (f g : Forest) → HoldNoName f → HoldNoName g → HoldNoName (f +++ g)
hold_join none g a b = b
hold_join (leaf t f) g a b = (a.0, hold_join f g a.1 b)
hold_join (node j c f) g a b = hold_join f g a b

-- ---- rules whose tokens are all of such classes

simple_holds : {f : Forest} → Fits V74 interpolated f → HoldNoName f
simple_holds (is_first (is_inside x near)) = tt
simple_holds (is_second (is_first (is_inside x near))) = tt
simple_holds (is_second (is_second (is_inside x near))) = tt

part_holds : {f : Forest} → Fits V74 quoted_part f → HoldNoName f
part_holds (is_first (is_word {x} p)) = (loose_kind x (ap is_free_kind (told.piece x p)), tt)
part_holds (is_second (is_first v)) = simple_holds v
part_holds (is_second (is_second (is_first (is_both {f} (is_word {x} p) (is_both (is_place {k = j} {c} m n) (is_word {x = y} q) e) d)))) =
    subst HoldNoName (sym (d ∙ ap (leaf x) e)) (loose_kind x (ap is_free_kind (told.curly x p)), (loose_mark 125 y (told.close_brace y q) refl, tt))
part_holds (is_second (is_second (is_second (is_first (is_both {f} (is_word {x} p)
    (is_both (is_word {x = n} m) (is_both {h = i} (is_first is_nothing) (is_word {x = y} q) a) b) d))))) =
    subst HoldNoName (sym (d ∙ ap (leaf x) b ∙ ap (λ (g : Forest). leaf x (leaf n g)) a)) (
      loose_kind x (ap is_free_kind (told.dollar x p)),
      (loose_kind n (ap is_free_kind (told.var_name n m)), (loose_mark 125 y (told.close_brace y q) refl, tt)),
    )
part_holds (is_second (is_second (is_second (is_first (is_both {f} (is_word {x} p)
    (is_both (is_word {x = n} m) (is_both {h = i} (is_second
    (is_both (is_word {x = o} u) (is_both (is_place {k = j} {c} v w) (is_word {x = s} z) ea) eb)) (is_word {x = y} q)
    a) b) d))))) =
    subst HoldNoName
    (sym (d ∙ ap (leaf x) b ∙ ap (λ (g : Forest). leaf x (leaf n g)) a
    ∙ ap (λ (g : Forest). leaf x (leaf n (g +++ leaf y none))) eb
    ∙ ap (λ (g : Forest). leaf x (leaf n (leaf o (g +++ leaf y none)))) ea)) (
      loose_kind x (ap is_free_kind (told.dollar x p)),
      (
        loose_kind n (ap is_free_kind (told.var_name n m)),
        (loose_mark 91 o (told.open_bracket o u) refl, (loose_mark 93 s (told.close_bracket s z) refl, (loose_mark 125 y (told.close_brace y q) refl, tt))),
      ),
    )
part_holds (is_second (is_second (is_second (is_second (is_both {f} (is_word {x} p) (is_both (is_place {k = j} {c} m n) (is_word {x = y} q) e) d))))) =
    subst HoldNoName (sym (d ∙ ap (leaf x) e)) (loose_kind x (ap is_free_kind (told.dollar x p)), (loose_mark 125 y (told.close_brace y q) refl, tt))

pieces_hold : {f : Forest} → Fits V74 (many quoted_part) f → HoldNoName f
pieces_hold no_more = tt
pieces_hold (once_more {f} {g} {h = i} p q e) = subst HoldNoName (sym e) (hold_join g i (part_holds p) (pieces_hold q))

opening_free : (sort : TokenKind) → opens_text sort ≡ true → is_free_kind sort ≡ true
opening_free kind.Quote e = refl
opening_free kind.HeredocStart e = refl
opening_free kind.Backtick e = refl
opening_free _ e = absurd cc

text_holds : {c : Forest} → Fits V74 quoted c → HoldNoName c
text_holds (is_both {f = c} (is_word {x} p) (is_both {g} (q) (is_word {x = y} r) e) d) =
    subst HoldNoName (sym (d ∙ ap (leaf x) e)) (
      loose_kind x (opening_free x.kind (told.text_start x p)),
      hold_join g (leaf y none) (pieces_hold q) (loose_kind y (ap is_free_kind (told.text_end y r)), tt),
    )

brace_holds : {c : Forest} → Fits V74 (brace_offset V74) c → HoldNoName c
brace_holds (is_both (is_place {k = j} {c = b} m n) (is_both (is_word {x} p) (is_both (is_place {k = i} {c = g} v w) (is_word {x = y} q) e) d) a) =
    subst HoldNoName (sym (a ∙ ap (node j b) (d ∙ ap (leaf x) e)))
    (loose_mark 123 x (told.open_brace x p) refl, (loose_mark 125 y (told.close_brace y q) refl, tt))

cast_holds : {c : Forest} → Fits V74 (cast V74) c → HoldNoName c
cast_holds (is_both (is_first (is_word {x} p)) (is_place {k = j} {c = b} m n) e) =
    subst HoldNoName (sym e) (loose_kind x (ap is_free_kind (told.is_cast x p)), tt)
cast_holds (is_both (is_second (is_word {x} p)) (is_place {k = j} {c = b} m n) e) =
    subst HoldNoName (sym e) (loose_kind x (ap is_free_kind (told.is_old_cast x p)), tt)

-- ---- nodes of these kinds

abbrev may_word : NodeKind → Bool
may_word k.BraceOffset = true
may_word k.Cast = true
may_word k.Quoted = true
may_word _ = false

worded_kind : (j : NodeKind) (c : Forest) → is_worded (j, c) ≡ true → may_word j ≡ true
worded_kind k.BraceOffset c h = refl
worded_kind k.Cast c h = refl
worded_kind k.Quoted c h = refl
worded_kind _ c h = absurd cc

worded_holds : (j : NodeKind) {c : Forest} → may_word j ≡ true → Fits V74 (form V74 j) c → HoldNoName c
worded_holds k.BraceOffset h p = brace_holds p
worded_holds k.Cast h p = cast_holds p
worded_holds k.Quoted h p = text_holds p
worded_holds _ h p = absurd cc

-- whether no rule gives parts of its own to a node of such a kind
abbrev words_none : Rule → Bool
words_none nothing = true
words_none (word c) = true
words_none (rule.kind j) = true
words_none (place p) = true
words_none (inside j r) = not (may_word j) && words_none r
words_none (r ~ s) = words_none r && words_none s
words_none (r ||| s) = words_none r && words_none s
words_none (many r) = words_none r
words_none tokens = true

form_words_none : (j : NodeKind) → words_none (form V74 j) ≡ true
form_words_none k.Block = refl
form_words_none k.Empty = refl
form_words_none k.ExprStmt = refl
form_words_none k.Echo = refl
form_words_none k.Html = refl
form_words_none k.Return = refl
form_words_none k.If = refl
form_words_none k.IfAlt = refl
form_words_none k.While = refl
form_words_none k.DoWhile = refl
form_words_none k.For = refl
form_words_none k.Foreach = refl
form_words_none k.Switch = refl
form_words_none k.Case = refl
form_words_none k.Break = refl
form_words_none k.Continue = refl
form_words_none k.Global = refl
form_words_none k.Statics = refl
form_words_none k.Unset = refl
form_words_none k.Throw = refl
form_words_none k.Try = refl
form_words_none k.Function = refl
form_words_none k.Param = refl
form_words_none k.TypeName = refl
form_words_none k.Class = refl
form_words_none k.Interface = refl
form_words_none k.Trait = refl
form_words_none k.Property = refl
form_words_none k.ClassConst = refl
form_words_none k.Method = refl
form_words_none k.TraitUse = refl
form_words_none k.Const = refl
form_words_none k.Namespace = refl
form_words_none k.Use = refl
form_words_none k.Declare = refl
form_words_none k.Goto = refl
form_words_none k.LabelStmt = refl
form_words_none k.Variable = refl
form_words_none k.Number = refl
form_words_none k.Float = refl
form_words_none k.Text = refl
form_words_none k.Quoted = refl
form_words_none k.Constant = refl
form_words_none k.ClassConstant = refl
form_words_none k.Array = refl
form_words_none k.Item = refl
form_words_none k.List = refl
form_words_none k.Paren = refl
form_words_none k.Offset = refl
form_words_none k.BraceOffset = refl
form_words_none k.Prop = refl
form_words_none k.StaticProp = refl
form_words_none k.Call = refl
form_words_none k.MethodCall = refl
form_words_none k.StaticCall = refl
form_words_none k.Args = refl
form_words_none k.New = refl
form_words_none k.Isset = refl
form_words_none k.EmptyTest = refl
form_words_none k.Exit = refl
form_words_none k.Closure = refl
form_words_none k.Arrow = refl
form_words_none k.Include = refl
form_words_none k.EvalTest = refl
form_words_none k.Binary = refl
form_words_none k.Prefix = refl
form_words_none k.Postfix = refl
form_words_none k.Cast = refl
form_words_none k.Ternary = refl
form_words_none k.ShortTernary = refl
form_words_none k.Assign = refl
form_words_none k.AssignRef = refl
form_words_none k.CompoundAssign = refl
form_words_none k.InstanceOf = refl
form_words_none k.Print = refl
form_words_none k.Yield = refl

-- ---- trees

aside_join : (f g : Forest) → NamesAreAside f → NamesAreAside g → NamesAreAside (f +++ g)
aside_join none g a b = b
aside_join (leaf t f) g a b = aside_join f g a b
aside_join (node j c f) g a b = (a.0, a.1, aside_join f g a.2 b)

-- what stands behind a token of balanced ones is balanced
behind_token : (P : Type 0) (a b x y z w : Bool) → (x ≡ true → P) → (z ≡ true → P) → (w ≡ true → P) → cond a x (cond b (y && z) w) ≡ true → P
behind_token P true b x y z w f g h i = f i
behind_token P false true x y z w f g h i = g (both_right y z i)
behind_token P false false x y z w f g h i = h i

balanced_aside : (n : ℕ) (f : Forest) → is_balanced n f ≡ true → NamesAreAside f
balanced_aside n none h = tt
balanced_aside n (leaf x f) h =
    behind_token (NamesAreAside f) (opens (terminal x)) (closes (terminal x)) (is_balanced (n + 1) f) (not (nat_eq n 0)) (is_balanced (n - 1) f) (is_balanced n f)
    (λ i. balanced_aside (n + 1) f i) (λ i. balanced_aside (n - 1) f i) (λ i. balanced_aside n f i) h
balanced_aside n (node j b f) h = absurd cc

no_word : (a b : Bool) → (not a && b) ≡ true → a ≡ true → ⊥
no_word true b h g = cc
no_word false b h g = cc

mutual
  parts_aside : {r : Rule} {f : Forest} → words_none r ≡ true → Fits V74 r f → NamesAreAside f
  parts_aside h is_nothing = tt
  parts_aside h (is_word a) = tt
  parts_aside h (is_kind n) = node_aside n
  parts_aside h (is_place a n) = node_aside n
  parts_aside h (is_inside {k = j} {r} {c} p n) =
      (λ g. absurd (no_word (may_word j) (words_none r) h (worded_kind j c g)), parts_aside (both_right (not (may_word j)) (words_none r) h) p, tt)
  parts_aside h (is_both {r} {s} {f} {g} {h = i} p q e) =
      subst NamesAreAside (sym e)
      (aside_join g i (parts_aside (both_left (words_none r) (words_none s) h) p) (parts_aside (both_right (words_none r) (words_none s) h) q))
  parts_aside h (is_first {r} {s} p) = parts_aside (both_left (words_none r) (words_none s) h) p
  parts_aside h (is_second {r} {s} p) = parts_aside (both_right (words_none r) (words_none s) h) p
  parts_aside h no_more = tt
  parts_aside h (once_more {r} {f} {g} {h = i} p q e) = subst NamesAreAside (sym e) (aside_join g i (parts_aside h p) (parts_aside h q))
  parts_aside h (is_tokens {f} b) = balanced_aside 0 f b

  node_aside : {j : NodeKind} {c : Forest} → IsNode V74 j c → NamesAreAside (node j c none)
  node_aside (is_node {k = j} {c} p n m) = (λ h. worded_holds j (worded_kind j c h) p, parts_aside (form_words_none j) p, tt)

pub names_are_aside : (bytes : List ℕ) (f : File) → Reads V74 bytes f → NamesAreAside f.statements
names_are_aside bytes f reads = parts_aside refl (file_has_shape V74 reads.tokens f reads.parsed).0.shaped
