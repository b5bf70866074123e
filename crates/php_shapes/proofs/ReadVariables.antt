-- Variables, arguments, items of arrays, closures and arrow functions.
use Rattle.std.proofs.Common.{◌≡◌, ℕ, ◌<◌, ◌≤◌, Bool, true, false, not, ◌&&◌, ◌||◌, List, [], ◌∷◌, ◌++◌, length, inl, inr, Some, None, refl, sym, ap, ◌∙◌, subst}
use Rattle.std.proofs.lemmas.Bool.{and_parts}
use Rattle.php_tree.specs.declared.kind.NodeKind.{NodeKind}
use Rattle.php_tree.specs.declared.kind.NodeKind.TheVariants as k
use Rattle.php_tree.specs.declared.token.Token.{Token}
use Rattle.php_tree.specs.declared.version.Version.{Version}
use Rattle.php_tree.specs.declared.version.Version.TheVariants.{V74, V83}
use Rattle.php_tree.specs.Tree.{Forest, none, leaf, node, ◌+++◌, leaves, count}
use Rattle.php_terminals.specs.declared.terminal.Terminal.{Terminal}
use Rattle.php_terminals.specs.declared.terminal.Terminal.TheVariants as t
use Rattle.php_terminals.specs.Classify.{terminal}
use Rattle.php_terminals.specs.Ahead.{first_of, second_of}
use Rattle.php_terminals.specs.Marks.{is_variable_start}
use Rattle.php_forms.specs.declared.item.Sort.TheVariants as s
use Rattle.php_forms.specs.declared.item.Group.TheVariants as g
use Rattle.php_forms.specs.declared.item.Item.{Item}
use Rattle.php_forms.specs.declared.item.Item.TheVariants.{Word, Node, Part, Repeats, Span}
use Rattle.php_forms.specs.Forms.{any}
use Rattle.php_forms.specs.Grammar.{Form, Tables, Walks, Grows, Spells, ends, child, part, stop, repeat, span, head, word as a_word}
use Rattle.php_forms.specs.Lists.{arg_list, item_form}
use Rattle.php_forms.specs.declared.item.Group.{Group}
use Rattle.php_grammar.specs.Operands.{operand_form, simple_variable_form}
use Rattle.php_grammar.specs.Tables.{php, parts}
use Rattle.php_exprs.proofs.Forests.{forest_assoc}
use Rattle.php_shapes.specs.Atoms.{by_ref, item, variable}
use Rattle.php_shapes.specs.Postfixes.{arguments}
use Rattle.php_shapes.specs.Nearest.{arrows_are_nearest, elses_are_nearest, is_nearest, is_to}
use Rattle.php_shapes.specs.Notation.{Rule, word, kind, ◌~◌, maybe, commas_last, expr, braces}
use Rattle.php_shapes.specs.Places.{Operand, may_stand}
use Rattle.php_shapes.specs.Shapes.{Fits, is_both, is_first, is_second, IsNode, is_node}
use Rattle.php_shapes.proofs.ReadClasses.{for_all}
use Rattle.php_shapes.proofs.ReadFirst.{Begins, nullable, rule_begins, starts}
use Rattle.php_shapes.proofs.ReadEnds.{Below, closes_args, closes_expression, closes_item, is_open_for_arrow}
use Rattle.php_shapes.proofs.ReadMatch.{before_none, begins_there, false_true, fits_alone, leaves_before, matched, matches, nodes_count, nothing_is, place_is, where_is, where_it}
use Rattle.php_shapes.proofs.ReadOperands.{first_is, only_class, second_starts}
use Rattle.php_shapes.proofs.ReadPostfixes.{split_word}
use Rattle.php_shapes.proofs.ReadAssigns.{second_is}

-- ---- walks one after another

behind_join : (f e : Forest) (rest ts : List Token) → ts ≡ leaves e ++ rest → leaves f ++ ts ≡ leaves (f +++ e) ++ rest
behind_join f e rest ts at = ap (λ (z : List Token). leaves f ++ z) at ∙ sym (leaves_before f e rest)

pub walk_join : (T : Tables) (js : List Item) (e : Forest) (rest : List Token) → Walks T js e rest
    → {is : List Item} {f : Forest} {ts : List Token} → ts ≡ leaves e ++ rest → Walks T is f ts
    → Walks T (is ++ js) (f +++ e) rest
walk_join T js e rest w at ends = w
walk_join T js e rest w at (a_word a x) = a_word a (walk_join T js e rest w at x)
walk_join T js e rest w at (child {s = sort} {k = j} {c = c} {f = f} gr ta x) =
    child (subst (λ (z : List Token). Grows T sort j c z) (behind_join f e rest _ at) gr)
    (subst (λ (z : List Token). T.tail sort (j, c) z ≡ None) (behind_join f e rest _ at) ta)
    (walk_join T js e rest w at x)
walk_join T js e rest w at (part {g = group} {is = is} {h = h} {f = f} x y) =
    subst (λ (z : Forest). Walks T (Part group ∷ (is ++ js)) z rest) (sym (forest_assoc h f e))
    (part (subst (λ (z : List Token). Walks T (T.parts group (leaves h ++ z)) h z) (behind_join f e rest _ at) x) (walk_join T js e rest w at y))
walk_join T js e rest w at (stop {g = group} {f = f} p x) = stop (subst (λ (z : List Token). T.parts group z ≡ []) (behind_join f e rest _ at) p) (walk_join T js e rest w at x)
walk_join T js e rest w at (repeat {g = group} {i = i} {js = ks} {is = is} {h = h} {f = f} p x lt y) =
    subst (λ (z : Forest). Walks T (Repeats group ∷ (is ++ js)) z rest) (sym (forest_assoc h f e))
    (repeat (subst (λ (z : List Token). T.parts group (leaves h ++ z) ≡ i ∷ ks) (behind_join f e rest _ at) p)
    (subst (λ (z : List Token). Walks T (i ∷ ks) h z) (behind_join f e rest _ at) x) lt
    (walk_join T js e rest w at y))
walk_join T js e rest w at (span {is = is} {f = f} h flat p x) =
    subst (λ (z : Forest). Walks T (Span ∷ (is ++ js)) z rest) (sym (forest_assoc h f e))
    (span h flat (subst (λ (z : List Token). T.span (leaves h ++ z) ≡ length (leaves h)) (behind_join f e rest _ at) p) (walk_join T js e rest w at x))

-- ---- variables

-- a variable as it is read wherever one may begin
pub record Chosen (v : Version) (c : Forest) (rest : List Token) : Type 0 where
  pub items : List Item
  pub operand : operand_form v (leaves c ++ rest) ≡ Some (k.Variable, items)
  pub simple : simple_variable_form (leaves c ++ rest) ≡ Some (k.Variable, items)
  pub walk : Walks (php v) items c rest

abbrev anything : Terminal → Bool
anything c = true

variable_tests : (v : Version) → (matches v 60 false (word t.Variable ∷ []) (Word t.Variable ∷ []) anything ≡ true)
    × (matches v 60 false ((word t.Dollar ~ braces expr) ∷ [])
    (Word t.Dollar ∷ Word t.OpenBrace ∷ any ∷ Word t.CloseBrace ∷ []) anything ≡ true)
    × (matches v 60 false ((word t.Dollar ~ kind k.Variable) ∷ []) (Word t.Dollar ∷ Node s.SimpleVariable ∷ [])
    anything ≡ true)
unfolding for_all
variable_tests V74 = (refl, refl, refl)
variable_tests V83 = (refl, refl, refl)

variable_firsts : (v : Version) → (only_class v (word t.Variable) t.Variable ≡ true)
    × (only_class v (word t.Dollar ~ braces expr) t.Dollar ≡ true)
    × (only_class v (word t.Dollar ~ kind k.Variable) t.Dollar ≡ true)
    × (only_class v (braces expr) t.OpenBrace ≡ true)
unfolding for_all
variable_firsts V74 = (refl, refl, refl, refl)
variable_firsts V83 = (refl, refl, refl, refl)

by_variable : (v : Version) (ts : List Token) → first_of ts ≡ t.Variable
    → (operand_form v ts ≡ Some (k.Variable, Word t.Variable ∷ []))
    × (simple_variable_form ts ≡ Some (k.Variable, Word t.Variable ∷ []))
by_variable v ts e = (rw e refl, rw e refl)

by_braces : (v : Version) (ts : List Token) → first_of ts ≡ t.Dollar → second_of ts ≡ t.OpenBrace
    → (operand_form v ts ≡ Some (k.Variable, Word t.Dollar ∷ Word t.OpenBrace ∷ any ∷ Word t.CloseBrace ∷ []))
    × (simple_variable_form ts ≡ Some (k.Variable, Word t.Dollar ∷ Word t.OpenBrace ∷ any ∷ Word t.CloseBrace ∷ []))
by_braces v ts e d = (rw (e, d) refl, rw (e, d) refl)

by_dollar : (v : Version) (ts : List Token) (d : Terminal) → first_of ts ≡ t.Dollar → second_of ts ≡ d
    → is_variable_start d ≡ true → (operand_form v ts ≡ Some (k.Variable, Word t.Dollar ∷ Node s.SimpleVariable ∷ []))
    × (simple_variable_form ts ≡ Some (k.Variable, Word t.Dollar ∷ Node s.SimpleVariable ∷ []))
by_dollar v ts t.Variable e d h = (rw (e, d) refl, rw (e, d) refl)
by_dollar v ts t.Dollar e d h = (rw (e, d) refl, rw (e, d) refl)
by_dollar v ts c e d h = absurd (false_true h)

pub variable_chosen : (v : Version) (n : ℕ) → Below v n → (c : Forest) (rest : List Token) → Fits v variable c → count c ≤ n → Chosen v c rest
variable_chosen v n below c rest (is_first x) le =
    let q : (operand_form v (leaves c ++ rest) ≡ Some (k.Variable, Word t.Variable ∷ []))
    × (simple_variable_form (leaves c ++ rest) ≡ Some (k.Variable, Word t.Variable ∷ [])) =
    by_variable v (leaves c ++ rest) (first_is v (word t.Variable) t.Variable c rest ((variable_firsts v).0) refl
    x) in
    record {
      items = Word t.Variable ∷ [];
      operand = q.0;
      simple = q.1;
      walk =
          matched v n below 60 false (word t.Variable ∷ []) (Word t.Variable ∷ []) anything c rest
          ((variable_tests v).0) (fits_alone v (word t.Variable) c x) le refl (λ z. absurd (false_true z));
    }
variable_chosen v n below c rest (is_second (is_both x (is_first y) e)) le =
    let z : Fits v (word t.Dollar ~ braces expr) c = is_both x y e in
    let q : (operand_form v (leaves c ++ rest) ≡ Some
    (k.Variable, Word t.Dollar ∷ Word t.OpenBrace ∷ any ∷ Word t.CloseBrace ∷ []))
    × (simple_variable_form (leaves c ++ rest) ≡ Some
    (k.Variable, Word t.Dollar ∷ Word t.OpenBrace ∷ any ∷ Word t.CloseBrace ∷ [])) =
    by_braces v (leaves c ++ rest) (first_is v (word t.Dollar ~ braces expr) t.Dollar c rest
    ((variable_firsts v).1) refl z) (second_is v t.Dollar (braces expr) t.OpenBrace c rest ((variable_firsts v).3)
    refl z) in
    record {
      items = Word t.Dollar ∷ Word t.OpenBrace ∷ any ∷ Word t.CloseBrace
          ∷ [];
      operand = q.0;
      simple = q.1;
      walk = matched v n below 60 false ((word t.Dollar ~ braces expr) ∷ [])
          (Word t.Dollar ∷ Word t.OpenBrace ∷ any ∷ Word t.CloseBrace ∷ []) anything c rest ((variable_tests v).1)
          (fits_alone v (word t.Dollar ~ braces expr) c z) le refl (λ z. absurd (false_true z));
    }
variable_chosen v n below c rest (is_second (is_both x (is_second y) e)) le =
    let z : Fits v (word t.Dollar ~ kind k.Variable) c = is_both x y e in
    let q : (operand_form v (leaves c ++ rest) ≡ Some (k.Variable, Word t.Dollar ∷ Node s.SimpleVariable ∷ []))
    × (simple_variable_form (leaves c ++ rest) ≡ Some (k.Variable, Word t.Dollar ∷ Node s.SimpleVariable ∷ [])) =
    by_dollar v (leaves c ++ rest) (second_of (leaves c ++ rest))
    (first_is v (word t.Dollar ~ kind k.Variable) t.Dollar c rest ((variable_firsts v).2) refl z) refl
    (second_starts v t.Dollar (kind k.Variable) c rest refl z) in
    record {
      items = Word t.Dollar ∷ Node s.SimpleVariable ∷ [];
      operand = q.0;
      simple = q.1;
      walk =
          matched v n below 60 false ((word t.Dollar ~ kind k.Variable) ∷ [])
          (Word t.Dollar ∷ Node s.SimpleVariable ∷ []) anything c rest ((variable_tests v).2)
          (fits_alone v (word t.Dollar ~ kind k.Variable) c z) le refl (λ z. absurd (false_true z));
    }

pub variables_grow : (v : Version) (n : ℕ) → Below v n → (m : ℕ) (c : Forest) (rest : List Token) → Fits v variable c → count c ≤ n → Grows (php v) (s.Operand m) k.Variable c rest
variables_grow v n below m c rest x le = let q : Chosen v c rest = variable_chosen v n below c rest x le in head q.operand q.walk

pub simple_variables_grow : (v : Version) (n : ℕ) → Below v n → (c : Forest) (rest : List Token)
    → IsNode v k.Variable c → count c ≤ n → Grows (php v) s.SimpleVariable k.Variable c rest
simple_variables_grow v n below c rest (is_node x near e) le = let q : Chosen v c rest = variable_chosen v n below c rest x le in head q.simple q.walk

-- ---- arguments

abbrev some_args : Rule
some_args = commas_last (maybe (word t.Ellipsis) ~ expr)

args_test : (v : Version) → matches v 60 false (some_args ∷ []) (Part g.Variadic ∷ any ∷ Repeats g.MoreArgs ∷ []) closes_args ≡ true
unfolding for_all
args_test V74 = refl
args_test V83 = refl

abbrev is_no_close : Terminal → Bool
is_no_close t.CloseParen = false
is_no_close t.CloseBracket = false
is_no_close _ = true

args_begin : (v : Version) → for_all (λ c. where_it (starts v some_args c) (is_no_close c)) ≡ true
unfolding for_all
args_begin V74 = refl
args_begin V83 = refl

arg_items : (c : Terminal) → is_no_close c ≡ true → arg_list c ≡ Part g.Variadic ∷ any ∷ Repeats g.MoreArgs ∷ []
arg_items t.CloseParen e = absurd (false_true e)
arg_items c e = refl

no_arg_items : (c : Terminal) → closes_args c ≡ true → arg_list c ≡ []
no_arg_items t.CloseParen e = refl
no_arg_items c e = absurd (false_true e)

pub starts_with : (v : Version) (q : Rule) (P : Terminal → Bool) (f : Forest) (us : List Token)
    → for_all (λ c. where_it (starts v q c) (P c)) ≡ true → nullable q ≡ false → Fits v q f
    → P (first_of (leaves f ++ us)) ≡ true
starts_with v q P f us t nn x = where_is (starts v q) P (first_of (leaves f ++ us)) t
    (begins_there (starts v q) (leaves f) us (subst (λ (b : Bool). Begins (starts v q) b (leaves f)) nn
    (rule_begins v x)))

-- a group alone
pub group_alone : (v : Version) (group : Group) (items : List Item) (f : Forest) (rest : List Token)
    → parts v group (leaves f ++ rest) ≡ items → Walks (php v) items f rest → Walks (php v) (Part group ∷ []) f rest
group_alone v group items f rest e w = subst (λ (z : Forest). Walks (php v) (Part group ∷ []) z rest) (before_none f)
    (part {h = f} (subst (λ (js : List Item). Walks (php v) js f rest) (sym e) w) ends)

args_walk : (v : Version) (n : ℕ) → Below v n → (c : Forest) (rest : List Token) → Fits v arguments c → count c ≤ n
    → closes_args (first_of rest) ≡ true → Walks (php v) (Part g.ArgList ∷ []) c rest
args_walk v n below c rest (is_first x) le h = group_alone v g.ArgList [] c rest
    (ap (λ (z : Forest). arg_list (first_of (leaves z ++ rest))) (nothing_is v c x) ∙ no_arg_items (first_of rest) h)
    (subst (λ (z : Forest). Walks (php v) [] z rest) (sym (nothing_is v c x)) ends)
args_walk v n below c rest (is_second x) le h = group_alone v g.ArgList
    (Part g.Variadic ∷ any ∷ Repeats g.MoreArgs ∷ []) c rest
    (arg_items (first_of (leaves c ++ rest)) (starts_with v some_args is_no_close c rest (args_begin v) refl x))
    (matched v n below 60 false (some_args ∷ []) (Part g.Variadic ∷ any ∷ Repeats g.MoreArgs ∷ []) closes_args c rest
    (args_test v) (fits_alone v some_args c x) le h (λ z. absurd (false_true z)))

pub args_grow : (v : Version) (n : ℕ) → Below v n → (c : Forest) (rest : List Token) → IsNode v k.Args c → count c ≤ n
    → closes_args (first_of rest) ≡ true → Grows (php v) s.Args k.Args c rest
args_grow v n below c rest (is_node x near e) le h = head refl (args_walk v n below c rest x le h)

-- ---- items of arrays

-- neither `&` nor `...`
abbrev pub is_no_mark : Terminal → Bool
is_no_mark t.Ampersand = false
is_no_mark t.Ellipsis = false
is_no_mark _ = true

item_tests : (v : Version) → (matches v 60 false ((word t.Ampersand ~ expr) ∷ []) (Word t.Ampersand ∷ any ∷ [])
    closes_item ≡ true) × (matches v 60 false ((word t.Ellipsis ~ expr) ∷ []) (Word t.Ellipsis ∷ any ∷ []) closes_item
    ≡ true) × (matches v 60 false ((word t.DoubleArrow ~ by_ref ~ expr) ∷ [])
    (Word t.DoubleArrow ∷ Part g.ByRef ∷ any ∷ []) closes_item ≡ true)
unfolding for_all
item_tests V74 = (refl, refl, refl)
item_tests V83 = (refl, refl, refl)

item_firsts : (v : Version) → (only_class v (word t.Ampersand ~ expr) t.Ampersand ≡ true)
    × (only_class v (word t.Ellipsis ~ expr) t.Ellipsis ≡ true)
    × (only_class v (word t.DoubleArrow ~ by_ref ~ expr) t.DoubleArrow ≡ true)
unfolding for_all
item_firsts V74 = (refl, refl, refl)
item_firsts V83 = (refl, refl, refl)

item_at : (c : Terminal) → is_no_mark c ≡ true → item_form c ≡ (k.Item, any ∷ Part g.ItemValue ∷ [])
item_at t.Ampersand e = absurd (false_true e)
item_at t.Ellipsis e = absurd (false_true e)
item_at c e = refl

expr_no_mark : (v : Version) → for_all (λ c. where_it (starts v expr c) (is_no_mark c)) ≡ true
unfolding for_all
expr_no_mark V74 = refl
expr_no_mark V83 = refl

-- an expression before a `=>` takes none
pub before_arrow : (i : NodeKind) (b : Forest) (x : Token) (f : Forest)
    → arrows_are_nearest false (node i b (leaf x f)) ≡ true → is_to (terminal x) ≡ true
    → is_open_for_arrow (i, b) ≡ false
before_arrow i b x f h e = go (is_open_for_arrow (i, b)) (is_to (terminal x)) (arrows_are_nearest false f) h e
  where
    go : (a c d : Bool) → (not (a && c) && d) ≡ true → c ≡ true → a ≡ false
    go true true d h e = absurd (false_true h)
    go true false d h e = absurd (false_true e)
    go false c d h e = refl

closes_both : (c : Terminal) → closes_item c ≡ true → (closes_expression c ≡ true) × (is_to c ≡ false)
closes_both t.Comma e = (refl, refl)
closes_both t.CloseParen e = (refl, refl)
closes_both t.CloseBracket e = (refl, refl)
closes_both c e = absurd (false_true e)

no_value : (v : Version) (ts : List Token) (c : Terminal) → first_of ts ≡ c → closes_item c ≡ true → parts v g.ItemValue ts ≡ []
no_value v ts t.Comma e h = rw e refl
no_value v ts t.CloseParen e h = rw e refl
no_value v ts t.CloseBracket e h = rw e refl
no_value v ts c e h = absurd (false_true h)

some_value : (v : Version) (ts : List Token) → first_of ts ≡ t.DoubleArrow → parts v g.ItemValue ts ≡ Word t.DoubleArrow ∷ Part g.ByRef ∷ any ∷ []
some_value v ts e = rw e refl

-- an expression and a value behind it
value_walk : (v : Version) (n : ℕ) → Below v n → (i : NodeKind) (b f : Forest) (rest : List Token)
    → may_stand v (Operand 24) (i, b) ≡ true → IsNode v i b → arrows_are_nearest false (node i b f) ≡ true
    → Fits v (maybe (word t.DoubleArrow ~ by_ref ~ expr)) f → count (node i b f) ≤ n
    → closes_item (first_of rest) ≡ true → Walks (php v) (any ∷ Part g.ItemValue ∷ []) (node i b f) rest
value_walk v n below i b f rest st nd near (is_first x) le h =
    let e : f ≡ none = nothing_is v f x in
    let y : Spells (php v) (s.Operand 24) (i, b) rest = below.placed (Operand 24) (s.Operand 24) i b rest refl
    ((nodes_count i b f n le).0) st nd (inl ((closes_both (first_of rest) h).0)) in
    subst (λ (z : Forest). Walks (php v) (any ∷ Part g.ItemValue ∷ []) (node i b z) rest) (sym e)
    (child y.0 y.1 (group_alone v g.ItemValue [] none rest (no_value v rest (first_of rest) refl h) ends))
value_walk v n below i b f rest st nd near (is_second x) le h =
    let us : List Token = leaves f ++ rest in
    let e : first_of us ≡ t.DoubleArrow = first_is v (word t.DoubleArrow ~ by_ref ~ expr) t.DoubleArrow f rest ((item_firsts v).2) refl x in
    let q : (u : Token) × (f' : Forest) × (f ≡ leaf u f') × Fits v (by_ref ~ expr) f' = split_word v t.DoubleArrow (by_ref ~ expr) f x in
    let open_ : is_open_for_arrow (i, b) ≡ false = before_arrow i b q.0 q.1
    (subst (λ (z : Forest). arrows_are_nearest false (node i b z) ≡ true) q.2 near)
    (ap is_to (sym (ap (λ (z : Forest). first_of (leaves z ++ rest)) q.2) ∙ e)) in
    let two : (count b < n) × (count f ≤ n) = nodes_count i b f n le in
    let y : Spells (php v) (s.Operand 24) (i, b) us = below.placed (Operand 24) (s.Operand 24) i b us refl two.0 st nd (inr (inl (ap is_to e, open_))) in
    child y.0 y.1 (group_alone v g.ItemValue (Word t.DoubleArrow ∷ Part g.ByRef ∷ any ∷ []) f rest (some_value v us e)
    (matched v n below 60 false ((word t.DoubleArrow ~ by_ref ~ expr) ∷ [])
    (Word t.DoubleArrow ∷ Part g.ByRef ∷ any ∷ []) closes_item f rest ((item_tests v).2)
    (fits_alone v (word t.DoubleArrow ~ by_ref ~ expr) f x) two.1 h (λ z. absurd (false_true z))))

item_grow : (v : Version) (n : ℕ) → Below v n → (c : Forest) (rest : List Token) → Fits v item c → is_nearest c ≡ true
    → count c ≤ n → closes_item (first_of rest) ≡ true → Grows (php v) s.Item k.Item c rest
item_grow v n below c rest (is_first x) near le h =
    head (ap (λ (d : Terminal). Some (item_form d))
    (first_is v (word t.Ampersand ~ expr) t.Ampersand c rest ((item_firsts v).0) refl x))
    (matched v n below 60 false ((word t.Ampersand ~ expr) ∷ []) (Word t.Ampersand ∷ any ∷ []) closes_item c rest
    ((item_tests v).0) (fits_alone v (word t.Ampersand ~ expr) c x) le h (λ z. absurd (false_true z)))
item_grow v n below c rest (is_second (is_first x)) near le h =
    head (ap (λ (d : Terminal). Some (item_form d))
    (first_is v (word t.Ellipsis ~ expr) t.Ellipsis c rest ((item_firsts v).1) refl x))
    (matched v n below 60 false ((word t.Ellipsis ~ expr) ∷ []) (Word t.Ellipsis ∷ any ∷ []) closes_item c rest
    ((item_tests v).1) (fits_alone v (word t.Ellipsis ~ expr) c x) le h (λ z. absurd (false_true z)))
item_grow v n below c rest (is_second (is_second (is_both {g = a} {h = f} x y e))) near le h =
    let w : (i : NodeKind) × (b : Forest) × (a ≡ node i b none) × (may_stand v (Operand 24) (i, b) ≡ true) × IsNode v i b = place_is v (Operand 24) a x in
    let at : c ≡ node w.0 w.1 f = e ∙ ap (λ (z : Forest). z +++ f) w.2 in
    let mark : is_no_mark (first_of (leaves c ++ rest)) ≡ true =
    subst (λ (z : List Token). is_no_mark (first_of z) ≡ true)
    (sym (ap (λ (z : Forest). leaves z ++ rest) e ∙ leaves_before a f rest))
    (starts_with v expr is_no_mark a (leaves f ++ rest) (expr_no_mark v) refl x) in
    head (ap (λ (z : Form). Some z) (item_at (first_of (leaves c ++ rest)) mark))
    (subst (λ (z : Forest). Walks (php v) (any ∷ Part g.ItemValue ∷ []) z rest) (sym at)
    (value_walk v n below w.0 w.1 f rest w.3 w.4
    (subst (λ (z : Forest). arrows_are_nearest false z ≡ true) at
    ((and_parts (elses_are_nearest false c) (arrows_are_nearest false c) near).1)) y
    (subst (λ (z : Forest). count z ≤ n) at le) h))

pub items_grow : (v : Version) (n : ℕ) → Below v n → (c : Forest) (rest : List Token) → IsNode v k.Item c
    → count c ≤ n → closes_item (first_of rest) ≡ true → Grows (php v) s.Item k.Item c rest
items_grow v n below c rest (is_node x near e) le h = item_grow v n below c rest x near le h
