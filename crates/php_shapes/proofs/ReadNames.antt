-- Names, and what begins with one: constants, calls, and members of a class that is named.
use Rattle.std.proofs.Common.{◌≡◌, ℕ, suc, ◌+◌, ◌<◌, ◌≤◌, Bool, true, false, not, ◌&&◌, List, [], ◌∷◌, ◌++◌, drop, Some, refl, sym, ap, ◌∙◌, subst, append-nil, arith}
use Rattle.std.specs.List.{prefix_len}
use Rattle.std.proofs.lemmas.Bool.{and_parts, not-true}
use Rattle.php_tree.specs.declared.kind.NodeKind.{NodeKind}
use Rattle.php_tree.specs.declared.kind.NodeKind.TheVariants as k
use Rattle.php_tree.specs.declared.token.Token.{Token}
use Rattle.php_tree.specs.declared.version.Version.{Version}
use Rattle.php_tree.specs.declared.version.Version.TheVariants.{V74, V83}
use Rattle.php_tree.specs.Tree.{Forest, none, leaf, node, ◌+++◌, leaves, count}
use Rattle.php_terminals.specs.declared.terminal.Terminal.{Terminal}
use Rattle.php_terminals.specs.declared.terminal.Terminal.TheVariants as t
use Rattle.php_terminals.specs.Classify.{terminal}
use Rattle.php_terminals.specs.Ahead.{behind_member, behind_name, first_of, is_in_name, second_of}
use Rattle.php_terminals.specs.Marks.{is_name_part, is_open_paren, is_variable_start}
use Rattle.php_terminals.specs.Indents.{is_misindented}
use Rattle.php_forms.specs.declared.item.Sort.TheVariants as s
use Rattle.php_forms.specs.declared.item.Group.TheVariants as g
use Rattle.php_forms.specs.declared.item.Item.{Item}
use Rattle.php_forms.specs.declared.item.Item.TheVariants.{Word, Node, Part}
use Rattle.php_forms.specs.Grammar.{Form, Walks, Grows, Spells, ends, child, part, head, word as a_word}
use Rattle.php_forms.specs.Names.{name as name_items}
use Rattle.php_grammar.specs.Accepts.{accepts, same_class}
use Rattle.php_grammar.specs.Operands.{name_by, name_form, operand_form, static_member_form, static_name_form}
use Rattle.php_grammar.specs.Bases.{is_class_base}
use Rattle.php_grammar.specs.Tables.{php, parts}
use Rattle.php_grammar.specs.Tails.{postfix_by, static_tail}
use Rattle.php_shapes.specs.Atoms.{dollar_variable}
use Rattle.php_shapes.specs.Names.{called_name, name}
use Rattle.php_shapes.specs.Notation.{Rule, nothing, word, kind, place, inside, ◌~◌, ◌|||◌, many, tokens}
use Rattle.php_shapes.specs.Postfixes.{call, called, class_before, class_constant, member, static_call, static_member, static_prop}
use Rattle.php_shapes.specs.Places.{ClassBase}
use Rattle.php_shapes.specs.Shapes.{Fits, is_nothing, is_word, is_both, is_first, is_second, is_inside, no_more, once_more, is_node}
use Rattle.php_shapes.proofs.ReadClasses.{accepted, could, for_all}
use Rattle.php_shapes.proofs.ReadFirst.{Begins, nullable, rule_begins, starts}
use Rattle.php_shapes.proofs.ReadEnds.{Below}
use Rattle.php_shapes.proofs.ReadMatch.{before_none, begins_there, both_is, false_true, fits_alone, leaves_before, left_le, matched, matches, right_le, where_is, where_it, word_is}
use Rattle.php_shapes.proofs.ReadMembers.{behind_variables}
use Rattle.php_shapes.proofs.ReadOperands.{Before, before_class, class_before as class_of_before, first_is, Grown, grow_head, only_class, second_starts}
use Rattle.php_shapes.proofs.ReadPostfixes.{call_ahead, call_paren, calls_grow, class_base, member_ahead, no_paren, not_called, postfix_grows, split_word, tested}

-- ---- tokens of a class alone

-- parts that are tokens, each of a class that a test holds of
abbrev pub Only : (Terminal → Bool) → Forest → Type 0
Only P none = Unit {0}
Only P (leaf x f) = (P (terminal x) ≡ true) × Only P f
Only P (node j c f) = ⊥

abbrev pub words_are : Version → (Terminal → Bool) → Rule → Bool
words_are v P nothing = true
words_are v P (word w) = for_all (λ c. where_it (could v w c) (P c))
words_are v P (r ~ q) = words_are v P r && words_are v P q
words_are v P (r ||| q) = words_are v P r && words_are v P q
words_are v P (many r) = words_are v P r
words_are v P (kind j) = false
words_are v P (place p) = false
words_are v P (inside j r) = false
words_are v P tokens = false

only_both : (P : Terminal → Bool) (f g h : Forest) → f ≡ g +++ h → Only P g → Only P h → Only P f
only_both P f g h e x y = subst (λ (z : Forest). Only P z) (sym e) (go g x)
  where
    go : (g : Forest) → Only P g → Only P (g +++ h)
    go none x = y
    go (leaf z g) x = (x.0, go g x.1)
    go (node j c g) x = absurd x

pub only_words : (v : Version) (P : Terminal → Bool) (r : Rule) (f : Forest) → words_are v P r ≡ true → Fits v r f → Only P f
only_words v P nothing f h is_nothing = tt
only_words v P (word w) f h (is_word {x = x} a) = (where_is (could v w) P (terminal x) h (accepted v w x a), tt)
only_words v P (r ~ q) f h (is_both {g = a} {h = b} x y e) = let z : (words_are v P r ≡ true)
    × (words_are v P q ≡ true) = and_parts (words_are v P r) (words_are v P q) h
    in only_both P f a b e (only_words v P r a z.0 x) (only_words v P q b z.1 y)
only_words v P (r ||| q) f h (is_first x) = only_words v P r f ((and_parts (words_are v P r) (words_are v P q) h).0) x
only_words v P (r ||| q) f h (is_second x) = only_words v P q f ((and_parts (words_are v P r) (words_are v P q) h).1) x
only_words v P (many r) f h no_more = tt
only_words v P (many r) f h (once_more {g = a} {h = b} x y e) = only_both P f a b e (only_words v P r a h x) (only_words v P (many r) b h y)
only_words v P (kind j) f h x = absurd (false_true h)
only_words v P (place p) f h x = absurd (false_true h)
only_words v P (inside j r) f h x = absurd (false_true h)
only_words v P tokens f h x = absurd (false_true h)

-- ---- behind a name

one_plus : (n : ℕ) → 1 + n ≡ suc n
one_plus n = omega arith

name_ends : (us : List Token) → is_name_part (first_of us) ≡ false → behind_name us ≡ us
name_ends [] e = refl
name_ends (x ∷ us) e = rw e refl

name_goes : (x : Token) (us : List Token) → is_name_part (terminal x) ≡ true → behind_name (x ∷ us) ≡ behind_name us
name_goes x us e = rw (e, one_plus (prefix_len is_in_name us)) refl

pub name_skips : (f : Forest) (us : List Token) → Only is_name_part f → is_name_part (first_of us) ≡ false → behind_name (leaves f ++ us) ≡ us
name_skips none us x e = name_ends us e
name_skips (leaf y f) us x e = name_goes y (leaves f ++ us) x.0 ∙ name_skips f us x.1 e
name_skips (node j c f) us x e = absurd x

name_words : (v : Version) → words_are v is_name_part (name v) ≡ true
unfolding for_all
name_words V74 = refl
name_words V83 = refl

called_words : (v : Version) → words_are v is_name_part (called_name v) ≡ true
unfolding for_all
called_words V74 = refl
called_words V83 = refl

abbrev pub begins_with_name : Version → Rule → Bool
begins_with_name v r = for_all (λ c. where_it (starts v r c) (is_name_part c))

name_begins : (v : Version) → begins_with_name v (name v) ≡ true
unfolding for_all
name_begins V74 = refl
name_begins V83 = refl

called_begins : (v : Version) → begins_with_name v (called_name v) ≡ true
unfolding for_all
called_begins V74 = refl
called_begins V83 = refl

pub name_first : (v : Version) (r : Rule) (f : Forest) (us : List Token) → begins_with_name v r ≡ true
    → nullable r ≡ false → Fits v r f → is_name_part (first_of (leaves f ++ us)) ≡ true
name_first v r f us b nn x = where_is (starts v r) is_name_part (first_of (leaves f ++ us)) b
    (begins_there (starts v r) (leaves f) us (subst (λ (z : Bool). Begins (starts v r) z (leaves f)) nn
    (rule_begins v x)))

named_is : (v : Version) (ts us : List Token) → is_name_part (first_of ts) ≡ true → behind_name ts ≡ us → operand_form v ts ≡ Some (name_form us)
named_is v ts us e b = rw (e, b) refl

name_not_null : (v : Version) → nullable (name v) ≡ false
name_not_null V74 = refl
name_not_null V83 = refl

called_not_null : (v : Version) → nullable (called_name v) ≡ false
called_not_null V74 = refl
called_not_null V83 = refl

-- the form of an expression that begins with a name
pub by_name : (v : Version) (f : Forest) (us : List Token) → Fits v (name v) f → is_name_part (first_of us) ≡ false → operand_form v (leaves f ++ us) ≡ Some (name_form us)
by_name v f us x e = named_is v (leaves f ++ us) us (name_first v (name v) f us (name_begins v) (name_not_null v) x)
    (name_skips f us (only_words v is_name_part (name v) f (name_words v) x) e)

by_called_name : (v : Version) (f : Forest) (us : List Token) → Fits v (called_name v) f
    → is_name_part (first_of us) ≡ false → operand_form v (leaves f ++ us) ≡ Some (name_form us)
by_called_name v f us x e =
    named_is v (leaves f ++ us) us (name_first v (called_name v) f us (called_begins v) (called_not_null v) x)
    (name_skips f us (only_words v is_name_part (called_name v) f (called_words v) x) e)

-- ---- constants

abbrev pub ends_constant : Terminal → Bool
ends_constant t.OpenParen = false
ends_constant t.DoubleColon = false
ends_constant c = not (is_name_part c)

constant_ends : (v : Version) → for_all (λ c. where_it (before_class v k.Constant c) (ends_constant c)) ≡ true
unfolding for_all
constant_ends V74 = refl
constant_ends V83 = refl

constant_form : (c : Terminal) (us : List Token) → ends_constant c ≡ true → name_by c us ≡ (k.Constant, Part g.Name ∷ [])
constant_form t.OpenParen us e = absurd (false_true e)
constant_form t.DoubleColon us e = absurd (false_true e)
constant_form c us e = refl

no_name : (c : Terminal) → ends_constant c ≡ true → is_name_part c ≡ false
no_name t.QualifiedName e = absurd (false_true e)
no_name t.FullName e = absurd (false_true e)
no_name t.RelativeName e = absurd (false_true e)
no_name t.Label e = absurd (false_true e)
no_name t.Match e = absurd (false_true e)
no_name t.Readonly e = absurd (false_true e)
no_name t.MixedOrNever e = absurd (false_true e)
no_name t.Namespace e = absurd (false_true e)
no_name t.Backslash e = absurd (false_true e)
no_name other e = refl

constant_test : (v : Version) → matches v 60 false (name v ∷ []) (Part g.Name ∷ []) (before_class v k.Constant) ≡ true
unfolding for_all
constant_test V74 = refl
constant_test V83 = refl

pub constants_grow : (v : Version) (n : ℕ) → Below v n → (m : ℕ) (c : Forest) (rest : List Token) → Fits v (name v) c
    → count c ≤ n → Before v (k.Constant, c) (first_of rest) → Grows (php v) (s.Operand m) k.Constant c rest
constants_grow v n below m c rest x le h =
    let e : ends_constant (first_of rest) ≡ true = where_is (before_class v k.Constant) ends_constant (first_of rest)
    (constant_ends v) (class_of_before v k.Constant c (first_of rest) h) in
    grow_head v n below m k.Constant (name v) (Part g.Name ∷ []) c rest (constant_test v)
    (by_name v c rest x (no_name (first_of rest) e) ∙ ap (λ (z : Form). Some z)
    (constant_form (first_of rest) rest e)) x le h

-- ---- calls

abbrev called_items : List Item
called_items = Part g.CalledName ∷ Word t.OpenParen ∷ Node s.Args ∷ Word t.CloseParen ∷ []

call_test : (v : Version) → matches v 60 false ((called_name v ~ called) ∷ []) called_items (before_class v k.Call) ≡ true
unfolding for_all
call_test V74 = refl
call_test V83 = refl

paren_form : (us : List Token) → first_of us ≡ t.OpenParen → name_form us ≡ (k.Call, called_items)
paren_form us e = rw e refl

pub named_calls_grow : (v : Version) (n : ℕ) → Below v n → (m : ℕ) (c : Forest) (rest : List Token)
    → Fits v (called_name v ~ called) c → count c ≤ n → Before v (k.Call, c) (first_of rest)
    → Grows (php v) (s.Operand m) k.Call c rest
named_calls_grow v n below m c rest x le h =
    let o : (g1 : Forest) × (g2 : Forest) × Fits v (called_name v) g1 × Fits v called g2 × (c ≡ g1 +++ g2) = both_is v (called_name v) called c x in
    let us : List Token = leaves o.1 ++ rest in
    let e : first_of us ≡ t.OpenParen = first_is v called t.OpenParen o.1 rest (call_paren v) refl o.3 in
    grow_head v n below m k.Call (called_name v ~ called) called_items c rest (call_test v)
    (ap (λ (z : Forest). operand_form v (leaves z ++ rest)) o.4 ∙ ap (operand_form v) (leaves_before o.0 o.1 rest)
    ∙ by_called_name v o.0 us o.2 (ap is_name_part e) ∙ ap (λ (z : Form). Some z) (paren_form us e)) x le h

pub all_calls_grow : (v : Version) (n : ℕ) → Below v n → Grown v n → (m : ℕ) (c : Forest) (rest : List Token)
    → Fits v (call v) c → count c ≤ n → Before v (k.Call, c) (first_of rest)
    → Grows (php v) (s.Operand m) k.Call c rest
all_calls_grow v n below grown m c rest (is_both (is_first x) y e) le h = named_calls_grow v n below m c rest (is_both x y e) le h
all_calls_grow v n below grown m c rest (is_both (is_second x) y e) le h = calls_grow v n below grown m c rest (is_both x y e) le h

-- ---- members of classes

-- what the tokens behind `::` tell of a member: whether it is called, and whether it begins as a variable
pub record Tells (v : Version) (j : NodeKind) (q : Rule) (items : List Item) : Type 0 where
  pub by_a_name : (f : Forest) (rest : List Token) → Fits v (word t.DoubleColon ~ q) f
      → before_class v j (first_of rest) ≡ true → static_name_form (drop 1 (leaves f ++ rest)) ≡
      (j, Part g.Name ∷ items)
  pub by_static : (f : Forest) (rest : List Token) → Fits v (word t.DoubleColon ~ q) f
      → before_class v j (first_of rest) ≡ true → static_member_form (drop 1 (leaves f ++ rest)) ≡
      (j, Word t.Static ∷ items)
  pub by_tail : (f : Forest) (rest : List Token) → Fits v (word t.DoubleColon ~ q) f
      → before_class v j (first_of rest) ≡ true → static_tail (drop 1 (leaves f ++ rest)) ≡ (j, items)

abbrev pub begins_with_colons : Version → Rule → Bool
begins_with_colons v q = only_class v (word t.DoubleColon ~ q) t.DoubleColon

colons_tail : (v : Version) (i : NodeKind) (w : Terminal) (ts : List Token) (f : Form) → w ≡ t.DoubleColon
    → is_class_base i ≡ true → static_tail (drop 1 ts) ≡ f → postfix_by v i w ts ≡ Some f
colons_tail v i w ts f e b q = rw (e, b, q) refl

colons_form : (us : List Token) (f : Form) → first_of us ≡ t.DoubleColon → static_name_form (drop 1 us) ≡ f → name_form us ≡ f
colons_form us f e q = rw e q

static_form : (v : Version) (ts : List Token) (f : Form) → first_of ts ≡ t.Static → second_of ts ≡ t.DoubleColon → static_member_form (drop 2 ts) ≡ f → operand_form v ts ≡ Some f
static_form v ts f e d q = rw (e, d, q) refl

name_test : (v : Version) → matches v 60 false (name v ∷ []) (name_items v) (same_class t.DoubleColon) ≡ true
unfolding for_all
name_test V74 = refl
name_test V83 = refl

static_first : (v : Version) → only_class v (word t.Static) t.Static ≡ true
unfolding for_all
static_first V74 = refl
static_first V83 = refl

pub statics_grow : (v : Version) (n : ℕ) → Below v n → Grown v n
    → (m : ℕ) (j : NodeKind) (q : Rule) (items : List Item) (c : Forest) (rest : List Token)
    → begins_with_colons v q ≡ true → Tells v j q items
    → ((f : Forest) → Fits v (word t.DoubleColon ~ q) f → count f ≤ n → before_class v j (first_of rest) ≡ true
    → Walks (php v) items f rest) → Fits v (class_before v ~ word t.DoubleColon ~ q) c → count c ≤ n
    → Before v (j, c) (first_of rest) → Grows (php v) (s.Operand m) j c rest
statics_grow v n below grown m j q items c rest b tells walk (is_both {g = a} {h = f} (is_first x) y e) le h =
    let us : List Token = leaves f ++ rest in
    let bc : before_class v j (first_of rest) ≡ true = class_of_before v j c (first_of rest) h in
    let fc : first_of us ≡ t.DoubleColon = first_is v (word t.DoubleColon ~ q) t.DoubleColon f rest b refl y in
    let le' : count (a +++ f) ≤ n = subst (λ (z : Forest). count z ≤ n) e le in
    let w : Walks (php v) (name_items v) a us = matched v n below 60 false (name v ∷ []) (name_items v)
    (same_class t.DoubleColon) a us (name_test v) (fits_alone v (name v) a x) (left_le a f n le')
    (ap (same_class t.DoubleColon) fc) (λ z. absurd (false_true z)) in
    subst (λ (z : Forest). Grows (php v) (s.Operand m) j z rest) (sym e)
    (head (ap (operand_form v) (leaves_before a f rest) ∙ by_name v a us x (ap is_name_part fc)
    ∙ ap (λ (z : Form). Some z) (colons_form us (j, Part g.Name ∷ items) fc (tells.by_a_name f rest y bc)))
    (part {h = a} w (walk f y (right_le a f n le') bc)))
statics_grow v n below grown m j q items c rest b tells walk (is_both {g = a} {h = f} (is_second (is_first x)) y e) le h =
    let us : List Token = leaves f ++ rest in
    let bc : before_class v j (first_of rest) ≡ true = class_of_before v j c (first_of rest) h in
    let fc : first_of us ≡ t.DoubleColon = first_is v (word t.DoubleColon ~ q) t.DoubleColon f rest b refl y in
    let le' : count (a +++ f) ≤ n = subst (λ (z : Forest). count z ≤ n) e le in
    let u : (z : Token) × (a ≡ leaf z none) × (accepts v t.Static z ≡ true) = word_is v t.Static a x in
    let fs : first_of (leaves a ++ us) ≡ t.Static = first_is v (word t.Static) t.Static a us (static_first v) refl x in
    subst (λ (z : Forest). Grows (php v) (s.Operand m) j z rest) (sym (e ∙ ap (λ (z : Forest). z +++ f) u.1))
    (head (static_form v (u.0 ∷ us) (j, Word t.Static ∷ items) (sym (ap (λ (z : Forest). first_of (leaves z ++ us)) u.1) ∙ fs) fc (tells.by_static f rest y bc))
    (a_word u.2 (walk f y (right_le a f n le') bc)))
statics_grow v n below grown m j q items c rest b tells walk (is_both (is_second (is_second x)) y e) le h =
    postfix_grows v n below grown m ClassBase t.DoubleColon j (word t.DoubleColon ~ q) items c rest (class_base v) b
    refl (λ i d f st y' fc. colons_tail v i (first_of (leaves f ++ rest)) (leaves f ++ rest) (j, items) fc st
    (tells.by_tail f rest y' (class_of_before v j c (first_of rest) h))) walk (is_both x y e) le h

-- called
called_name_form : (ms : List Token) → behind_member ms ≡ t.OpenParen
    → static_name_form ms ≡ (
      k.StaticCall,
      Part g.Name ∷ Word t.DoubleColon ∷ Part g.Member ∷ Word t.OpenParen
          ∷ Node s.Args ∷ Word t.CloseParen ∷ [],
    )
called_name_form ms e = rw e refl

called_static_form : (ms : List Token) → behind_member ms ≡ t.OpenParen
    → static_member_form ms ≡ (
      k.StaticCall,
      Word t.Static ∷ Word t.DoubleColon ∷ Part g.Member ∷ Word t.OpenParen
          ∷ Node s.Args ∷ Word t.CloseParen ∷ [],
    )
called_static_form ms e = rw e refl

called_tail : (ms : List Token) → behind_member ms ≡ t.OpenParen
    → static_tail ms ≡ (
      k.StaticCall,
      Word t.DoubleColon ∷ Part g.Member ∷ Word t.OpenParen ∷ Node s.Args
          ∷ Word t.CloseParen ∷ [],
    )
called_tail ms e = rw e refl

abbrev static_call_items : List Item
static_call_items = Word t.DoubleColon ∷ Part g.Member ∷ Word t.OpenParen ∷ Node s.Args ∷ Word t.CloseParen ∷ []

call_tells : (v : Version) → Tells v k.StaticCall (member ~ called) static_call_items
call_tells v = record {
  by_a_name = λ f rest x b. called_name_form (drop 1 (leaves f ++ rest)) (call_ahead v t.DoubleColon f rest x);
  by_static = λ f rest x b. called_static_form (drop 1 (leaves f ++ rest)) (call_ahead v t.DoubleColon f rest x);
  by_tail = λ f rest x b. called_tail (drop 1 (leaves f ++ rest)) (call_ahead v t.DoubleColon f rest x);
}

static_call_first : (v : Version) → begins_with_colons v (member ~ called) ≡ true
unfolding for_all
static_call_first V74 = refl
static_call_first V83 = refl

static_call_test : (v : Version) → matches v 60 false ((word t.DoubleColon ~ member ~ called) ∷ []) static_call_items (before_class v k.StaticCall) ≡ true
unfolding for_all
static_call_test V74 = refl
static_call_test V83 = refl

pub static_calls_grow : (v : Version) (n : ℕ) → Below v n → Grown v n → (m : ℕ) (c : Forest) (rest : List Token)
    → Fits v (static_call v) c → count c ≤ n → Before v (k.StaticCall, c) (first_of rest)
    → Grows (php v) (s.Operand m) k.StaticCall c rest
static_calls_grow v n below grown m c rest x le h = statics_grow v n below grown m k.StaticCall (member ~ called)
    static_call_items c rest (static_call_first v) (call_tells v)
    (tested v n below k.StaticCall (word t.DoubleColon ~ member ~ called) static_call_items rest (static_call_test v))
    x le h

-- constants of classes
constant_name_form : (ms : List Token) → is_open_paren (behind_member ms) ≡ false
    → is_variable_start (first_of ms) ≡ false → static_name_form ms ≡
    (k.ClassConstant, Part g.Name ∷ Word t.DoubleColon ∷ Word t.AnyWord ∷ [])
constant_name_form ms e d = rw (e, d) refl

constant_static_form : (ms : List Token) → is_open_paren (behind_member ms) ≡ false
    → is_variable_start (first_of ms) ≡ false → static_member_form ms ≡
    (k.ClassConstant, Word t.Static ∷ Word t.DoubleColon ∷ Word t.AnyWord ∷ [])
constant_static_form ms e d = rw (e, d) refl

constant_tail : (ms : List Token) → is_open_paren (behind_member ms) ≡ false → is_variable_start (first_of ms) ≡ false
    → static_tail ms ≡ (k.ClassConstant, Word t.DoubleColon ∷ Word t.AnyWord ∷ [])
constant_tail ms e d = rw (e, d) refl

class_constant_paren : (v : Version) → no_paren v k.ClassConstant ≡ true
unfolding for_all
class_constant_paren V74 = refl
class_constant_paren V83 = refl

any_word_start : (v : Version) → for_all (λ c. where_it (starts v (word t.AnyWord) c) (not (is_variable_start c))) ≡ true
unfolding for_all
any_word_start V74 = refl
any_word_start V83 = refl

as_member : (v : Version) (f : Forest) → Fits v (word t.DoubleColon ~ word t.AnyWord) f → Fits v (word t.DoubleColon ~ member) f
as_member v f (is_both x y e) = is_both x (is_second (is_second y)) e

word_ahead : (v : Version) (f : Forest) (rest : List Token) → Fits v (word t.DoubleColon ~ word t.AnyWord) f
    → before_class v k.ClassConstant (first_of rest) ≡ true →
    (is_open_paren (behind_member (drop 1 (leaves f ++ rest))) ≡ false)
    × (is_variable_start (first_of (drop 1 (leaves f ++ rest))) ≡ false)
word_ahead v f rest x b = (
  ap is_open_paren (member_ahead v t.DoubleColon f rest (as_member v f x)) ∙ not_called v k.ClassConstant (first_of rest) (class_constant_paren v) b,
  not-true (is_variable_start (second_of (leaves f ++ rest)))
      (where_is (starts v (word t.AnyWord)) (λ c. not (is_variable_start c)) (second_of (leaves f ++ rest))
      (any_word_start v) (second_starts v t.DoubleColon (word t.AnyWord) f rest refl x)),
)

constant_tells : (v : Version) → Tells v k.ClassConstant (word t.AnyWord) (Word t.DoubleColon ∷ Word t.AnyWord ∷ [])
constant_tells v = record {
  by_a_name = λ f rest x b. constant_name_form (drop 1 (leaves f ++ rest)) ((word_ahead v f rest x b).0) ((word_ahead v f rest x b).1);
  by_static = λ f rest x b. constant_static_form (drop 1 (leaves f ++ rest)) ((word_ahead v f rest x b).0) ((word_ahead v f rest x b).1);
  by_tail = λ f rest x b. constant_tail (drop 1 (leaves f ++ rest)) ((word_ahead v f rest x b).0) ((word_ahead v f rest x b).1);
}

class_constant_first : (v : Version) → begins_with_colons v (word t.AnyWord) ≡ true
unfolding for_all
class_constant_first V74 = refl
class_constant_first V83 = refl

class_constant_test : (v : Version) → matches v 60 false ((word t.DoubleColon ~ word t.AnyWord) ∷ [])
    (Word t.DoubleColon ∷ Word t.AnyWord ∷ []) (before_class v k.ClassConstant) ≡ true
unfolding for_all
class_constant_test V74 = refl
class_constant_test V83 = refl

pub class_constants_grow : (v : Version) (n : ℕ) → Below v n → Grown v n → (m : ℕ) (c : Forest) (rest : List Token)
    → Fits v (class_constant v) c → count c ≤ n → Before v (k.ClassConstant, c) (first_of rest)
    → Grows (php v) (s.Operand m) k.ClassConstant c rest
class_constants_grow v n below grown m c rest x le h = statics_grow v n below grown m k.ClassConstant (word t.AnyWord)
    (Word t.DoubleColon ∷ Word t.AnyWord ∷ []) c rest (class_constant_first v) (constant_tells v)
    (tested v n below k.ClassConstant (word t.DoubleColon ~ word t.AnyWord) (Word t.DoubleColon ∷ Word t.AnyWord ∷ [])
    rest (class_constant_test v)) x le h

-- static properties
prop_name_form : (ms : List Token) → is_open_paren (behind_member ms) ≡ false → is_variable_start (first_of ms) ≡ true
    → static_name_form ms ≡ (k.StaticProp, Part g.Name ∷ Word t.DoubleColon ∷ Part g.StaticMember ∷ [])
prop_name_form ms e d = rw (e, d) refl

prop_static_form : (ms : List Token) → is_open_paren (behind_member ms) ≡ false
    → is_variable_start (first_of ms) ≡ true → static_member_form ms ≡
    (k.StaticProp, Word t.Static ∷ Word t.DoubleColon ∷ Part g.StaticMember ∷ [])
prop_static_form ms e d = rw (e, d) refl

prop_tail : (ms : List Token) → is_open_paren (behind_member ms) ≡ false → is_variable_start (first_of ms) ≡ true
    → static_tail ms ≡ (k.StaticProp, Word t.DoubleColon ∷ Part g.StaticMember ∷ [])
prop_tail ms e d = rw (e, d) refl

static_prop_paren : (v : Version) → no_paren v k.StaticProp ≡ true
unfolding for_all
static_prop_paren V74 = refl
static_prop_paren V83 = refl

static_member_start : (v : Version) → for_all (λ c. where_it (starts v static_member c) (is_variable_start c)) ≡ true
unfolding for_all
static_member_start V74 = refl
static_member_start V83 = refl

inner_none : (b : Forest) (us : List Token) → leaves (node k.Variable b none) ++ us ≡ leaves b ++ us
inner_none b us = ap (λ (z : List Token). z ++ us) (append-nil (leaves b))

pub static_member_ahead : (v : Version) (g : Forest) (us : List Token) → Fits v static_member g → behind_member (leaves g ++ us) ≡ first_of us
static_member_ahead v g us (is_first x) = behind_variables v g us (is_first x)
static_member_ahead v g us (is_second (is_inside {c = b} x near)) = ap behind_member (inner_none b us) ∙ behind_variables v b us (is_second x)

prop_ahead : (v : Version) (f : Forest) (rest : List Token) → Fits v (word t.DoubleColon ~ static_member) f
    → before_class v k.StaticProp (first_of rest) ≡ true
    → (is_open_paren (behind_member (drop 1 (leaves f ++ rest))) ≡ false)
    × (is_variable_start (first_of (drop 1 (leaves f ++ rest))) ≡ true)
prop_ahead v f rest x b =
    let q : (y : Token) × (f' : Forest) × (f ≡ leaf y f') × Fits v static_member f' = split_word v t.DoubleColon static_member f x in (
      ap (λ (z : Forest). is_open_paren (behind_member (drop 1 (leaves z ++ rest)))) q.2
          ∙ ap is_open_paren (static_member_ahead v q.1 rest q.3)
          ∙ not_called v k.StaticProp (first_of rest) (static_prop_paren v) b,
      where_is (starts v static_member) is_variable_start (second_of (leaves f ++ rest)) (static_member_start v) (second_starts v t.DoubleColon static_member f rest refl x),
    )

prop_tells : (v : Version) → Tells v k.StaticProp static_member (Word t.DoubleColon ∷ Part g.StaticMember ∷ [])
prop_tells v = record {
  by_a_name = λ f rest x b. prop_name_form (drop 1 (leaves f ++ rest)) ((prop_ahead v f rest x b).0) ((prop_ahead v f rest x b).1);
  by_static = λ f rest x b. prop_static_form (drop 1 (leaves f ++ rest)) ((prop_ahead v f rest x b).0) ((prop_ahead v f rest x b).1);
  by_tail = λ f rest x b. prop_tail (drop 1 (leaves f ++ rest)) ((prop_ahead v f rest x b).0) ((prop_ahead v f rest x b).1);
}

static_prop_first : (v : Version) → begins_with_colons v static_member ≡ true
unfolding for_all
static_prop_first V74 = refl
static_prop_first V83 = refl

variable_first : (v : Version) → only_class v (word t.Variable) t.Variable ≡ true
unfolding for_all
variable_first V74 = refl
variable_first V83 = refl

dollar_first : (v : Version) → only_class v dollar_variable t.Dollar ≡ true
unfolding for_all
dollar_first V74 = refl
dollar_first V83 = refl

member_items : (v : Version) (ts : List Token) → first_of ts ≡ t.Variable → parts v g.StaticMember ts ≡ Word t.Variable ∷ []
member_items v ts e = rw e refl

dollar_items : (v : Version) (ts : List Token) → first_of ts ≡ t.Dollar → parts v g.StaticMember ts ≡ Node s.SimpleVariable ∷ []
dollar_items v ts e = rw e refl

inner_count : (b : Forest) (n : ℕ) → count (node k.Variable b none) ≤ n → count b < n
inner_count b n le = omega arith

pub unmisindented : (b : Forest) → is_misindented (k.Variable, b) ≡ false
unfolding is_misindented
unmisindented b = refl

-- the member of a static property
pub static_member_walks : (v : Version) (n : ℕ) → Below v n → (f : Forest) (rest : List Token)
    → Fits v static_member f → count f ≤ n → Walks (php v) (Part g.StaticMember ∷ []) f rest
static_member_walks v n below f rest (is_first x) le =
    let u : (y : Token) × (f ≡ leaf y none) × (accepts v t.Variable y ≡ true) = word_is v t.Variable f x in
    subst (λ (z : Forest). Walks (php v) (Part g.StaticMember ∷ []) z rest) (before_none f)
    (part {h = f} (subst (λ (js : List Item). Walks (php v) js f rest)
    (sym (member_items v (leaves f ++ rest)
    (first_is v (word t.Variable) t.Variable f rest (variable_first v) refl x)))
    (subst (λ (z : Forest). Walks (php v) (Word t.Variable ∷ []) z rest) (sym u.1) (a_word u.2 ends))) ends)
static_member_walks v n below f rest (is_second (is_inside {c = b} x near)) le =
    let y : Spells (php v) s.SimpleVariable (k.Variable, b) rest =
    below.kinded k.Variable s.SimpleVariable b rest refl (inner_count b n le)
    (is_node (is_second x) near (unmisindented b)) refl in
    part {h = node k.Variable b none} (subst (λ (js : List Item). Walks (php v) js (node k.Variable b none) rest)
    (sym (dollar_items v (leaves (node k.Variable b none) ++ rest)
    (ap first_of (inner_none b rest) ∙ first_is v dollar_variable t.Dollar b rest (dollar_first v) refl x)))
    (child y.0 y.1 ends)) ends

prop_walks : (v : Version) (n : ℕ) → Below v n → (rest : List Token) (f : Forest)
    → Fits v (word t.DoubleColon ~ static_member) f → count f ≤ n → before_class v k.StaticProp (first_of rest) ≡ true
    → Walks (php v) (Word t.DoubleColon ∷ Part g.StaticMember ∷ []) f rest
prop_walks v n below rest f (is_both {g = a} {h = b} x y e) le bc =
    let u : (z : Token) × (a ≡ leaf z none) × (accepts v t.DoubleColon z ≡ true) = word_is v t.DoubleColon a x in
    subst (λ (z : Forest). Walks (php v) (Word t.DoubleColon ∷ Part g.StaticMember ∷ []) z rest) (sym (e ∙ ap (λ (z : Forest). z +++ b) u.1))
    (a_word u.2 (static_member_walks v n below b rest y (right_le a b n (subst (λ (z : Forest). count z ≤ n) e le))))

pub static_props_grow : (v : Version) (n : ℕ) → Below v n → Grown v n → (m : ℕ) (c : Forest) (rest : List Token)
    → Fits v (static_prop v) c → count c ≤ n → Before v (k.StaticProp, c) (first_of rest)
    → Grows (php v) (s.Operand m) k.StaticProp c rest
static_props_grow v n below grown m c rest x le h = statics_grow v n below grown m k.StaticProp static_member
    (Word t.DoubleColon ∷ Part g.StaticMember ∷ []) c rest (static_prop_first v) (prop_tells v)
    (prop_walks v n below rest) x le h
