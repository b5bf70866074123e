-- Quoted texts.
use Rattle.std.proofs.Common.{◌≡◌, ℕ, ◌<◌, ◌≤◌, Bool, true, false, List, [], ◌∷◌, ◌++◌, length, Some, None, refl, sym, ap, ◌∙◌, subst, append-nil, arith}
use Rattle.php_tree.specs.declared.kind.NodeKind.TheVariants as k
use Rattle.php_tree.specs.declared.token.Token.{Token}
use Rattle.php_tree.specs.declared.version.Version.{Version}
use Rattle.php_tree.specs.declared.version.Version.TheVariants.{V74, V83}
use Rattle.php_tree.specs.Tree.{Forest, none, leaf, node, ◌+++◌, leaves, count}
use Rattle.php_terminals.specs.declared.terminal.Terminal.{Terminal}
use Rattle.php_terminals.specs.declared.terminal.Terminal.TheVariants as t
use Rattle.php_terminals.specs.Classify.{terminal}
use Rattle.php_terminals.specs.Ahead.{first_of, second_of}
use Rattle.php_forms.specs.declared.item.Sort.TheVariants as s
use Rattle.php_forms.specs.declared.item.Group.TheVariants as g
use Rattle.php_forms.specs.declared.item.Item.{Item}
use Rattle.php_forms.specs.declared.item.Item.TheVariants.{Word, Node, Part, Repeats}
use Rattle.php_forms.specs.Forms.{any}
use Rattle.php_forms.specs.Grammar.{Walks, Grows, ends, child, stop, repeat, head, onward, word as a_word}
use Rattle.php_grammar.specs.Accepts.{accepts, same_class}
use Rattle.php_grammar.specs.Operands.{operand_form}
use Rattle.php_grammar.specs.Tables.{php, parts}
use Rattle.php_shapes.specs.Notation.{Rule, word, place, ◌~◌, many, maybe, expr}
use Rattle.php_shapes.specs.Places.{Embedded}
use Rattle.php_shapes.specs.Shapes.{Fits, is_both, is_first, is_second}
use Rattle.php_shapes.proofs.ReadClasses.{for_all}
use Rattle.php_shapes.proofs.ReadFirst.{Begins, rule_begins, starts}
use Rattle.php_shapes.proofs.ReadEnds.{Below}
use Rattle.php_shapes.proofs.ReadMatch.{false_true, fits_alone, left_le, matched, matches, right_le, where_is, where_it, word_is}
use Rattle.php_shapes.proofs.ReadOperands.{first_is, only_class, second_starts}
use Rattle.php_shapes.proofs.ReadAssigns.{second_is}
use Rattle.php_terminals.specs.Classify.{is_any_label}
use Rattle.php_forms.specs.Quoted.{simple_key}
use Rattle.php_grammar.specs.Tables.{plain_variable_form}
use Rattle.php_grammar.specs.Tails.{interpolated_by, interpolated_tail}
use Rattle.php_shapes.specs.Notation.{brackets}
use Rattle.php_shapes.specs.Quoted.{interpolated, quoted, quoted_part, simple_key as key_rule}
use Rattle.php_shapes.specs.Shapes.{is_inside, no_more, once_more}
use Rattle.php_shapes.proofs.ReadVariables.{group_alone, starts_with}
use Rattle.php_shapes.proofs.ReadClosures.{between_words}
use Rattle.php_shapes.proofs.ReadClasses.{same_is}

-- what may follow a part of a quoted text
abbrev goes_quoted : Terminal → Bool
goes_quoted t.Piece = true
goes_quoted t.Variable = true
goes_quoted t.CurlyOpen = true
goes_quoted t.DollarBrace = true
goes_quoted t.QuotedEnd = true
goes_quoted _ = false

abbrev anything : Terminal → Bool
anything c = true

-- no name behind `${`
abbrev is_no_name : Terminal → Bool
is_no_name t.VarName = false
is_no_name _ = true

abbrev named_rule : Rule
named_rule = word t.DollarBrace ~ word t.VarName ~ maybe (brackets expr) ~ word t.CloseBrace

quoted_firsts : (v : Version) → (only_class v (word t.Variable) t.Variable ≡ true)
    × (only_class v (word t.Piece) t.Piece ≡ true)
    × (only_class v (word t.CurlyOpen ~ place Embedded ~ word t.CloseBrace) t.CurlyOpen ≡ true)
    × (only_class v (word t.DollarBrace ~ word t.VarName ~ maybe (brackets expr) ~ word t.CloseBrace) t.DollarBrace ≡
    true) × (only_class v (word t.DollarBrace ~ expr ~ word t.CloseBrace) t.DollarBrace ≡ true)
    × (only_class v (word t.VarName ~ maybe (brackets expr) ~ word t.CloseBrace) t.VarName ≡ true)
    × (for_all (λ c. where_it (starts v (expr ~ word t.CloseBrace) c) (is_no_name c)) ≡ true)
unfolding for_all
quoted_firsts V74 = (refl, refl, refl, refl, refl, refl, refl)
quoted_firsts V83 = (refl, refl, refl, refl, refl, refl, refl)

quoted_tests : (v : Version) → (matches v 60 false ((word t.CurlyOpen ~ place Embedded ~ word t.CloseBrace) ∷ [])
    (Word t.CurlyOpen ∷ Node s.Embedded ∷ Word t.CloseBrace ∷ []) anything ≡ true)
    × (matches v 60 false ((word t.DollarBrace ~ word t.VarName ~ maybe (brackets expr) ~ word t.CloseBrace) ∷ [])
    (Word t.DollarBrace ∷ Word t.VarName ∷ Part g.NamedKey ∷ Word t.CloseBrace ∷ []) anything ≡ true)
    × (matches v 60 false ((word t.DollarBrace ~ expr ~ word t.CloseBrace) ∷ [])
    (Word t.DollarBrace ∷ any ∷ Word t.CloseBrace ∷ []) anything ≡ true)
unfolding for_all
quoted_tests V74 = (refl, refl, refl)
quoted_tests V83 = (refl, refl, refl)

-- ---- variables in them

plain_form : (ts : List Token) → first_of ts ≡ t.Variable → plain_variable_form (first_of ts) ≡ Some (k.Variable, Word t.Variable ∷ [])
plain_form ts e = rw e refl

variable_walk : (v : Version) (c : Forest) (rest : List Token) → Fits v (word t.Variable) c → Walks (php v) (Word t.Variable ∷ []) c rest
variable_walk v c rest x = let u : (y : Token) × (c ≡ leaf y none)
    × (accepts v t.Variable y ≡ true) = word_is v t.Variable c x
    in subst (λ (z : Forest). Walks (php v) (Word t.Variable ∷ []) z rest) (sym u.1) (a_word u.2 ends)

plain_grows : (v : Version) (c : Forest) (rest : List Token) → Fits v (word t.Variable) c → Grows (php v) s.PlainVariable k.Variable c rest
plain_grows v c rest x = head (plain_form (leaves c ++ rest) (first_is v (word t.Variable) t.Variable c rest ((quoted_firsts v).0) refl x)) (variable_walk v c rest x)

inner_grows : (v : Version) (c : Forest) (rest : List Token) → Fits v (word t.Variable) c → Grows (php v) s.Interpolated k.Variable c rest
inner_grows v c rest x = head (plain_form (leaves c ++ rest) (first_is v (word t.Variable) t.Variable c rest ((quoted_firsts v).0) refl x)) (variable_walk v c rest x)

variable_ends : (c : Terminal) → goes_quoted c ≡ true → interpolated_by k.Variable c ≡ None
variable_ends t.OpenBracket e = absurd (false_true e)
variable_ends t.Arrow e = absurd (false_true e)
variable_ends c e = refl

offset_ends : (c : Terminal) → interpolated_by k.Offset c ≡ None
offset_ends t.OpenBracket = refl
offset_ends t.Arrow = refl
offset_ends c = refl

prop_ends : (c : Terminal) → interpolated_by k.Prop c ≡ None
prop_ends t.OpenBracket = refl
prop_ends t.Arrow = refl
prop_ends c = refl

-- ---- simple offsets

key_firsts : (v : Version) → (for_all (λ c. where_it (starts v (word t.AnyLabel) c) (is_any_label c)) ≡ true)
    × (only_class v (word t.Int) t.Int ≡ true) × (only_class v (word t.Minus ~ word t.Int) t.Minus ≡ true)
    × (only_class v (brackets key_rule) t.OpenBracket ≡ true)
    × (only_class v (word t.Arrow ~ word t.AnyLabel) t.Arrow ≡ true)
unfolding for_all
key_firsts V74 = (refl, refl, refl, refl, refl)
key_firsts V83 = (refl, refl, refl, refl, refl)

label_key : (c : Terminal) → is_any_label c ≡ true → simple_key c ≡ Word t.AnyLabel ∷ []
label_key t.Label e = refl
label_key t.Match e = refl
label_key t.Readonly e = refl
label_key t.MixedOrNever e = refl
label_key c e = absurd (false_true e)

int_key : (c : Terminal) → c ≡ t.Int → simple_key c ≡ Word t.Int ∷ []
int_key c e = rw e refl

minus_key : (c : Terminal) → c ≡ t.Minus → simple_key c ≡ Word t.Minus ∷ Word t.Int ∷ []
minus_key c e = rw e refl

variable_key : (c : Terminal) → c ≡ t.Variable → simple_key c ≡ Node s.PlainVariable ∷ []
variable_key c e = rw e refl

one_word : (v : Version) (w : Terminal) (c : Forest) (rest : List Token) → Fits v (word w) c → Walks (php v) (Word w ∷ []) c rest
one_word v w c rest x = let u : (y : Token) × (c ≡ leaf y none) × (accepts v w y ≡ true) = word_is v w c x
    in subst (λ (z : Forest). Walks (php v) (Word w ∷ []) z rest) (sym u.1) (a_word u.2 ends)

two_words : (v : Version) (a b : Terminal) (c : Forest) (rest : List Token) → Fits v (word a ~ word b) c → Walks (php v) (Word a ∷ Word b ∷ []) c rest
two_words v a b c rest (is_both {g = x0} {h = y0} x y e) =
    let u : (z : Token) × (x0 ≡ leaf z none) × (accepts v a z ≡ true) = word_is v a x0 x in
    subst (λ (z : Forest). Walks (php v) (Word a ∷ Word b ∷ []) z rest) (sym (e ∙ ap (λ (z : Forest). z +++ y0) u.1)) (a_word u.2 (one_word v b y0 rest y))

variable_none : (c : Forest) (us : List Token) → leaves (node k.Variable c none) ++ us ≡ leaves c ++ us
variable_none c us = ap (λ (z : List Token). z ++ us) (append-nil (leaves c))

key_walk : (v : Version) (f : Forest) (us : List Token) → Fits v key_rule f → Walks (php v) (Part g.SimpleKey ∷ []) f us
key_walk v f us (is_first x) = group_alone v g.SimpleKey (Word t.AnyLabel ∷ []) f us
    (label_key (first_of (leaves f ++ us)) (starts_with v (word t.AnyLabel) is_any_label f us ((key_firsts v).0) refl
    x)) (one_word v t.AnyLabel f us x)
key_walk v f us (is_second (is_first x)) = group_alone v g.SimpleKey (Word t.Int ∷ []) f us
    (int_key (first_of (leaves f ++ us)) (first_is v (word t.Int) t.Int f us ((key_firsts v).1) refl x))
    (one_word v t.Int f us x)
key_walk v f us (is_second (is_second (is_first x))) = group_alone v g.SimpleKey (Word t.Minus ∷ Word t.Int ∷ []) f us
    (minus_key (first_of (leaves f ++ us)) (first_is v (word t.Minus ~ word t.Int) t.Minus f us ((key_firsts v).2)
    refl x)) (two_words v t.Minus t.Int f us x)
key_walk v f us (is_second (is_second (is_second (is_inside {c = c} x near)))) =
    group_alone v g.SimpleKey (Node s.PlainVariable ∷ []) (node k.Variable c none) us
    (variable_key (first_of (leaves (node k.Variable c none) ++ us))
    (ap first_of (variable_none c us) ∙ first_is v (word t.Variable) t.Variable c us ((quoted_firsts v).0) refl x))
    (child (plain_grows v c us x) refl ends)

offset_tail : (ts : List Token) → first_of ts ≡ t.OpenBracket → interpolated_tail k.Variable ts ≡ Some (k.Offset, Word t.OpenBracket ∷ Part g.SimpleKey ∷ Word t.CloseBracket ∷ [])
offset_tail ts e = rw e refl

prop_tail : (ts : List Token) → first_of ts ≡ t.Arrow → interpolated_tail k.Variable ts ≡ Some (k.Prop, Word t.Arrow ∷ Word t.AnyLabel ∷ [])
prop_tail ts e = rw e refl

self_le : (n : ℕ) → n ≤ n
self_le n = omega arith

-- a variable, alone or with a simple offset or property
interpolated_walk : (v : Version) (f : Forest) (us : List Token) → Fits v interpolated f → goes_quoted (first_of us) ≡ true → Walks (php v) (Node s.Interpolated ∷ []) f us
interpolated_walk v f us (is_first (is_inside {c = c} x near)) h = child (inner_grows v c us x) (variable_ends (first_of us) h) ends
interpolated_walk v f us (is_second (is_first (is_inside (is_both {h = b} (is_inside {c = c} x near') y e) near))) h =
    subst (λ (z : Forest). Walks (php v) (Node s.Interpolated ∷ []) (node k.Offset z none) us) (sym e)
    (child (onward (inner_grows v c (leaves b ++ us) x)
    (offset_tail (leaves b ++ us) (first_is v (brackets key_rule) t.OpenBracket b us ((key_firsts v).3) refl y))
    (between_words v t.OpenBracket t.CloseBracket key_rule (Part g.SimpleKey ∷ []) (count b) b us y
    (self_le (count b)) (λ f' us' y' le' st. key_walk v f' us' y'))) (offset_ends (first_of us)) ends)
interpolated_walk v f us (is_second (is_second (is_inside (is_both {h = b} (is_inside {c = c} x near') y e) near))) h =
    subst (λ (z : Forest). Walks (php v) (Node s.Interpolated ∷ []) (node k.Prop z none) us) (sym e)
    (child (onward (inner_grows v c (leaves b ++ us) x)
    (prop_tail (leaves b ++ us) (first_is v (word t.Arrow ~ word t.AnyLabel) t.Arrow b us ((key_firsts v).4) refl
    y)) (two_words v t.Arrow t.AnyLabel b us y)) (prop_ends (first_of us)) ends)

-- ---- parts

-- a part is chosen by the next two tokens
record PartRead (v : Version) (f : Forest) (us : List Token) : Type 0 where
  i : Item
  js : List Item
  chosen : parts v g.QuotedParts (leaves f ++ us) ≡ i ∷ js
  walk : Walks (php v) (i ∷ js) f us

by_piece : (v : Version) (ts : List Token) → first_of ts ≡ t.Piece → parts v g.QuotedParts ts ≡ Word t.Piece ∷ []
by_piece v ts e = rw e refl

by_variable : (v : Version) (ts : List Token) → first_of ts ≡ t.Variable → parts v g.QuotedParts ts ≡ Node s.Interpolated ∷ []
by_variable v ts e = rw e refl

by_curly : (v : Version) (ts : List Token) → first_of ts ≡ t.CurlyOpen → parts v g.QuotedParts ts ≡ Word t.CurlyOpen ∷ Node s.Embedded ∷ Word t.CloseBrace ∷ []
by_curly v ts e = rw e refl

by_named : (v : Version) (ts : List Token) → first_of ts ≡ t.DollarBrace → second_of ts ≡ t.VarName
    → parts v g.QuotedParts ts ≡ Word t.DollarBrace ∷ Word t.VarName ∷ Part g.NamedKey ∷ Word t.CloseBrace ∷ []
by_named v ts e d = rw (e, d) refl

by_expression : (v : Version) (ts : List Token) (d : Terminal) → first_of ts ≡ t.DollarBrace → second_of ts ≡ d
    → is_no_name d ≡ true → parts v g.QuotedParts ts ≡ Word t.DollarBrace ∷ any ∷ Word t.CloseBrace ∷ []
by_expression v ts t.VarName e d h = absurd (false_true h)
by_expression v ts c e d h = rw (e, d) refl

interpolated_first : (v : Version) → only_class v interpolated t.Variable ≡ true
unfolding for_all
interpolated_first V74 = refl
interpolated_first V83 = refl

part_read : (v : Version) (n : ℕ) → Below v n → (f : Forest) (us : List Token) → Fits v quoted_part f → count f ≤ n → goes_quoted (first_of us) ≡ true → PartRead v f us
part_read v n below f us (is_first x) le h =
    record {
      i = Word t.Piece;
      js = [];
      chosen = by_piece v (leaves f ++ us)
          (first_is v (word t.Piece) t.Piece f us ((quoted_firsts v).1) refl x);
      walk = one_word v t.Piece f us x;
    }
part_read v n below f us (is_second (is_first x)) le h = record {
  i = Node s.Interpolated;
  js = [];
  chosen = by_variable v (leaves f ++ us)
      (first_is v interpolated t.Variable f us (interpolated_first v) refl x);
  walk = interpolated_walk v f us x h;
}
part_read v n below f us (is_second (is_second (is_first x))) le h =
    record {
      i = Word t.CurlyOpen;
      js = Node s.Embedded ∷ Word t.CloseBrace
          ∷ [];
      chosen = by_curly v (leaves f ++ us)
          (first_is v (word t.CurlyOpen ~ place Embedded ~ word t.CloseBrace) t.CurlyOpen f us ((quoted_firsts v).2) refl x);
      walk =
          matched v n below 60 false ((word t.CurlyOpen ~ place Embedded ~ word t.CloseBrace) ∷ [])
          (Word t.CurlyOpen ∷ Node s.Embedded ∷ Word t.CloseBrace ∷ []) anything f us ((quoted_tests v).0)
          (fits_alone v (word t.CurlyOpen ~ place Embedded ~ word t.CloseBrace) f x) le refl (λ z. absurd (false_true z));
    }
part_read v n below f us (is_second (is_second (is_second (is_first x)))) le h =
    record {
      i = Word t.DollarBrace;
      js = Word t.VarName ∷ Part g.NamedKey ∷ Word t.CloseBrace
          ∷ [];
      chosen = by_named v (leaves f ++ us) (first_is v named_rule t.DollarBrace f us ((quoted_firsts v).3) refl x)
          (second_is v t.DollarBrace (word t.VarName ~ maybe (brackets expr) ~ word t.CloseBrace) t.VarName f us
          ((quoted_firsts v).5) refl x);
      walk = matched v n below 60 false (named_rule ∷ [])
          (Word t.DollarBrace ∷ Word t.VarName ∷ Part g.NamedKey ∷ Word t.CloseBrace ∷ []) anything f us
          ((quoted_tests v).1) (fits_alone v named_rule f x) le refl (λ z. absurd (false_true z));
    }
part_read v n below f us (is_second (is_second (is_second (is_second x)))) le h =
    record {
      i = Word t.DollarBrace;
      js = any ∷ Word t.CloseBrace
          ∷ [];
      chosen = by_expression v (leaves f ++ us) (second_of (leaves f ++ us))
          (first_is v (word t.DollarBrace ~ expr ~ word t.CloseBrace) t.DollarBrace f us ((quoted_firsts v).4) refl x) refl
          (where_is (starts v (expr ~ word t.CloseBrace)) is_no_name (second_of (leaves f ++ us)) ((quoted_firsts v).6)
          (second_starts v t.DollarBrace (expr ~ word t.CloseBrace) f us refl x));
      walk =
          matched v n below 60 false ((word t.DollarBrace ~ expr ~ word t.CloseBrace) ∷ [])
          (Word t.DollarBrace ∷ any ∷ Word t.CloseBrace ∷ []) anything f us ((quoted_tests v).2)
          (fits_alone v (word t.DollarBrace ~ expr ~ word t.CloseBrace) f x) le refl (λ z. absurd (false_true z));
    }

part_begins : (v : Version) → (for_all (λ c. where_it (starts v quoted_part c) (goes_quoted c)) ≡ true)
    × (only_class v (word t.QuotedEnd) t.QuotedEnd ≡ true) × (only_class v quoted t.QuoteOpen ≡ true)
unfolding for_all
part_begins V74 = (refl, refl, refl)
part_begins V83 = (refl, refl, refl)

begin_quoted : (P : Terminal → Bool) (ts us : List Token) → Begins P true ts
    → ((d : Terminal) → P d ≡ true → goes_quoted d ≡ true) → goes_quoted (first_of us) ≡ true
    → goes_quoted (first_of (ts ++ us)) ≡ true
begin_quoted P [] us b f h = h
begin_quoted P (x ∷ xs) us b f h = f (terminal x) b

some_leaf : (P : Terminal → Bool) (ts : List Token) → Begins P false ts → 0 < length ts
some_leaf P [] h = absurd (false_true h)
some_leaf P (x ∷ xs) h = omega arith

at_end : (v : Version) (us : List Token) → first_of us ≡ t.QuotedEnd → parts v g.QuotedParts us ≡ []
at_end v us e = rw e refl

all_parts : (v : Version) (n : ℕ) → Below v n → (us : List Token) → first_of us ≡ t.QuotedEnd → (f : Forest)
    → Fits v (many quoted_part) f → count f ≤ n → Walks (php v) (Repeats g.QuotedParts ∷ []) f us
all_parts v n below us e f no_more le = stop (at_end v us e) ends
all_parts v n below us e f (once_more {g = a} {h = b} x y at) le =
    let le' : count (a +++ b) ≤ n = subst (λ (z : Forest). count z ≤ n) at le in
    let go : goes_quoted (first_of (leaves b ++ us)) ≡ true =
    begin_quoted (starts v (many quoted_part)) (leaves b) us (rule_begins v y)
    (λ d p. where_is (starts v quoted_part) goes_quoted d ((part_begins v).0) p) (ap goes_quoted e) in
    let q : PartRead v a (leaves b ++ us) = part_read v n below a (leaves b ++ us) x (left_le a b n le') go in
    subst (λ (z : Forest). Walks (php v) (Repeats g.QuotedParts ∷ []) z us) (sym at)
    (repeat {h = a} q.chosen q.walk (some_leaf (starts v quoted_part) (leaves a) (rule_begins v x)) (all_parts v n below us e b y (right_le a b n le')))

end_is : (v : Version) (us : List Token) → starts v (word t.QuotedEnd) (first_of us) ≡ true → first_of us ≡ t.QuotedEnd
end_is v us st = same_is (first_of us) t.QuotedEnd (where_is (starts v (word t.QuotedEnd)) (λ d. same_class d t.QuotedEnd) (first_of us) ((part_begins v).1) st)

quoted_form : (v : Version) (ts : List Token) → first_of ts ≡ t.QuoteOpen → operand_form v ts ≡ Some (k.Quoted, Word t.QuoteOpen ∷ Repeats g.QuotedParts ∷ Word t.QuotedEnd ∷ [])
quoted_form v ts e = rw e refl

pub quoted_grows : (v : Version) (n : ℕ) → Below v n → (m : ℕ) (c : Forest) (rest : List Token) → Fits v quoted c → count c ≤ n → Grows (php v) (s.Operand m) k.Quoted c rest
quoted_grows v n below m c rest x le = head (quoted_form v (leaves c ++ rest)
    (first_is v quoted t.QuoteOpen c rest ((part_begins v).2) refl x))
    (between_words v t.QuoteOpen t.QuotedEnd (many quoted_part) (Repeats g.QuotedParts ∷ []) n c rest x le
    (λ f us y le' st. all_parts v n below us (end_is v us st) f y le'))
