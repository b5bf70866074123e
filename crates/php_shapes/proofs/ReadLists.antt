-- List forms.
use Rattle.std.proofs.Common.{◌≡◌, ℕ, ◌<◌, ◌≤◌, Bool, true, false, not, ◌&&◌, List, [], ◌∷◌, ◌++◌, length, inl, inr, Some, refl, sym, ap, ◌∙◌, subst, append-nil, arith}
use Rattle.std.proofs.lemmas.Bool.{and_parts}
use Rattle.php_tree.specs.declared.kind.NodeKind.{NodeKind}
use Rattle.php_tree.specs.declared.kind.NodeKind.TheVariants as k
use Rattle.php_tree.specs.declared.token.Token.{Token}
use Rattle.php_tree.specs.declared.version.Version.{Version}
use Rattle.php_tree.specs.declared.version.Version.TheVariants.{V74, V83}
use Rattle.php_tree.specs.Tree.{Forest, none, leaf, node, ◌+++◌, leaves, count}
use Rattle.php_terminals.specs.declared.terminal.Terminal.{Terminal}
use Rattle.php_terminals.specs.declared.terminal.Terminal.TheVariants as t
use Rattle.php_terminals.specs.Classify.{terminal}
use Rattle.php_terminals.specs.Ahead.{first_of}
use Rattle.php_forms.specs.declared.item.Sort.TheVariants as s
use Rattle.php_forms.specs.declared.item.Group.TheVariants as g
use Rattle.php_forms.specs.declared.item.Item.{Item}
use Rattle.php_forms.specs.declared.item.Item.TheVariants.{Word, Node, Part, Repeats}
use Rattle.php_forms.specs.Grammar.{Form, Walks, Grows, Spells, ends, child, stop, repeat, head, word as a_word}
use Rattle.php_grammar.specs.Accepts.{accepts}
use Rattle.php_grammar.specs.Operands.{operand_form}
use Rattle.php_grammar.specs.Tables.{php, parts}
use Rattle.php_shapes.specs.Atoms.{by_ref}
use Rattle.php_shapes.specs.Nearest.{arrows_are_nearest, elses_are_nearest, is_nearest, is_to}
use Rattle.php_shapes.specs.Notation.{Rule, word, place, ◌~◌, ◌|||◌, many, maybe, expr, parens}
use Rattle.php_shapes.specs.Places.{Operand, may_stand}
use Rattle.php_shapes.specs.Shapes.{Fits, is_both, is_first, is_second, IsNode}
use Rattle.php_shapes.proofs.ReadClasses.{for_all}
use Rattle.php_shapes.proofs.ReadFirst.{Begins, rule_begins, starts}
use Rattle.php_shapes.proofs.ReadEnds.{Below, closes_item, is_open_for_arrow}
use Rattle.php_shapes.proofs.ReadMatch.{
  both_is,
  false_true,
  fits_alone,
  leaves_before,
  left_le,
  matched,
  matches,
  nodes_count,
  nothing_is,
  place_is,
  right_le,
  where_is,
  where_it,
  word_is,
}
use Rattle.php_shapes.proofs.ReadOperands.{first_is, only_class}
use Rattle.php_shapes.proofs.ReadPostfixes.{split_word}
use Rattle.php_terminals.specs.Ahead.{past_group}
use Rattle.php_terminals.specs.Marks.{ends_item, goes_on, is_assign}
use Rattle.php_forms.specs.Lists.{entry_value, list_head, list_item_form}
use Rattle.php_grammar.specs.Operands.{entry_form, target_form}
use Rattle.php_shapes.specs.Atoms.{list, list_item}
use Rattle.php_shapes.specs.Notation.{brackets}
use Rattle.php_shapes.specs.Nearest.{elses_are_nearest}
use Rattle.php_shapes.specs.Places.{TargetOrList, is_expression}
use Rattle.php_shapes.specs.Shapes.{is_inside, no_more, once_more}
use Rattle.php_shapes.proofs.ReadEnds.{closes_target}
use Rattle.php_shapes.proofs.ReadVariables.{before_arrow, group_alone, is_no_mark, starts_with, walk_join}
use Rattle.php_shapes.proofs.ReadClosures.{between_words, closes_bracket}
use Rattle.php_shapes.proofs.ReadLeading.{list_parts, list_past, list_word}
use Rattle.php_shapes.proofs.ReadPlaces.{entry_closed, closes_item_all, target_end}

-- ---- items

abbrev item_rule : Rule
item_rule = word t.Ampersand ~ place TargetOrList ||| place TargetOrList ||| expr ~ word t.DoubleArrow ~ by_ref ~ place TargetOrList

list_tests : (v : Version) → (matches v 60 false ((word t.Ampersand ~ place TargetOrList) ∷ [])
    (Word t.Ampersand ∷ Node s.Target ∷ []) closes_item ≡ true)
    × (matches v 60 false ((word t.DoubleArrow ~ by_ref ~ place TargetOrList) ∷ [])
    (Word t.DoubleArrow ∷ Part g.ByRef ∷ Node s.Target ∷ []) closes_item ≡ true)
unfolding for_all
list_tests V74 = (refl, refl)
list_tests V83 = (refl, refl)

list_firsts : (v : Version) → (only_class v (word t.Ampersand ~ place TargetOrList) t.Ampersand ≡ true)
    × (only_class v (word t.DoubleArrow ~ by_ref ~ place TargetOrList) t.DoubleArrow ≡ true)
    × (for_all (λ c. where_it (starts v (place TargetOrList) c) (is_no_mark c)) ≡ true)
    × (for_all (λ c. where_it (starts v expr c) (is_no_mark c)) ≡ true)
    × (for_all (λ c. where_it (starts v item_rule c) (not (closes_item c))) ≡ true)
unfolding for_all
list_firsts V74 = (refl, refl, refl, refl, refl)
list_firsts V83 = (refl, refl, refl, refl, refl)

list_item_at : (c : Terminal) → is_no_mark c ≡ true → list_item_form c ≡ (k.Item, Node s.Entry ∷ Part g.EntryValue ∷ [])
list_item_at t.Ampersand e = absurd (false_true e)
list_item_at c e = refl

no_entry_value : (c : Terminal) → closes_item c ≡ true → entry_value c ≡ []
no_entry_value t.DoubleArrow e = absurd (false_true e)
no_entry_value c e = refl

some_entry_value : (v : Version) (ts : List Token) → first_of ts ≡ t.DoubleArrow → parts v g.EntryValue ts ≡ Word t.DoubleArrow ∷ Part g.ByRef ∷ Node s.Target ∷ []
some_entry_value v ts e = rw e refl

entry_alone : (v : Version) (n : ℕ) → Below v n → (i : NodeKind) (b : Forest) (rest : List Token)
    → may_stand v TargetOrList (i, b) ≡ true → IsNode v i b → count b < n → closes_item (first_of rest) ≡ true
    → Walks (php v) (Node s.Entry ∷ Part g.EntryValue ∷ []) (node i b none) rest
entry_alone v n below i b rest st nd lt h =
    let y : Spells (php v) s.Entry (i, b) rest = below.placed TargetOrList s.Entry i b rest refl lt st nd (inl (h, st)) in
    child y.0 y.1 (group_alone v g.EntryValue [] none rest (no_entry_value (first_of rest) h) ends)

and_first : (a b : Bool) → (a && b) ≡ true → a ≡ true
and_first true b h = refl
and_first false b h = absurd (false_true h)

entry_key : (v : Version) (n : ℕ) → Below v n → (i : NodeKind) (b f : Forest) (rest : List Token)
    → may_stand v (Operand 24) (i, b) ≡ true → IsNode v i b → arrows_are_nearest false (node i b f) ≡ true
    → Fits v (word t.DoubleArrow ~ by_ref ~ place TargetOrList) f → count (node i b f) ≤ n
    → closes_item (first_of rest) ≡ true → Walks (php v) (Node s.Entry ∷ Part g.EntryValue ∷ []) (node i b f) rest
entry_key v n below i b f rest st nd near x le h =
    let us : List Token = leaves f ++ rest in
    let e : first_of us ≡ t.DoubleArrow = first_is v (word t.DoubleArrow ~ by_ref ~ place TargetOrList) t.DoubleArrow f rest ((list_firsts v).1) refl x in
    let q : (u : Token) × (f' : Forest) × (f ≡ leaf u f') × Fits v (by_ref ~ place TargetOrList) f' = split_word v t.DoubleArrow (by_ref ~ place TargetOrList) f x in
    let open_ : is_open_for_arrow (i, b) ≡ false = before_arrow i b q.0 q.1
    (subst (λ (z : Forest). arrows_are_nearest false (node i b z) ≡ true) q.2 near)
    (ap is_to (sym (ap (λ (z : Forest). first_of (leaves z ++ rest)) q.2) ∙ e)) in
    let two : (count b < n) × (count f ≤ n) = nodes_count i b f n le in
    let y : Spells (php v) s.Entry (i, b) us = below.placed (Operand 24) s.Entry i b us refl two.0 st nd (inr (e, and_first (is_expression i) _ st, open_)) in
    child y.0 y.1 (group_alone v g.EntryValue (Word t.DoubleArrow ∷ Part g.ByRef ∷ Node s.Target ∷ []) f rest
    (some_entry_value v us e) (matched v n below 60 false
    ((word t.DoubleArrow ~ by_ref ~ place TargetOrList) ∷ [])
    (Word t.DoubleArrow ∷ Part g.ByRef ∷ Node s.Target ∷ []) closes_item f rest ((list_tests v).1)
    (fits_alone v (word t.DoubleArrow ~ by_ref ~ place TargetOrList) f x) two.1 h (λ z. absurd (false_true z))))

list_item_grows : (v : Version) (n : ℕ) → Below v n → (c : Forest) (rest : List Token) → Fits v item_rule c
    → is_nearest c ≡ true → count c ≤ n → closes_item (first_of rest) ≡ true → Grows (php v) s.ListItem k.Item c rest
list_item_grows v n below c rest (is_first x) near le h = head
    (ap (λ (d : Terminal). Some (list_item_form d))
    (first_is v (word t.Ampersand ~ place TargetOrList) t.Ampersand c rest ((list_firsts v).0) refl x))
    (matched v n below 60 false ((word t.Ampersand ~ place TargetOrList) ∷ []) (Word t.Ampersand ∷ Node s.Target ∷ [])
    closes_item c rest ((list_tests v).0) (fits_alone v (word t.Ampersand ~ place TargetOrList) c x) le h
    (λ z. absurd (false_true z)))
list_item_grows v n below c rest (is_second (is_first x)) near le h =
    let w : (i : NodeKind) × (b : Forest) × (c ≡ node i b none) × (may_stand v TargetOrList (i, b) ≡ true) × IsNode v i b = place_is v TargetOrList c x in
    head (ap (λ (z : Form). Some z) (list_item_at (first_of (leaves c ++ rest)) (starts_with v (place TargetOrList) is_no_mark c rest ((list_firsts v).2) refl x)))
    (subst (λ (z : Forest). Walks (php v) (Node s.Entry ∷ Part g.EntryValue ∷ []) z rest) (sym w.2)
    (entry_alone v n below w.0 w.1 rest w.3 w.4
    ((nodes_count w.0 w.1 none n (subst (λ (z : Forest). count z ≤ n) w.2 le)).0) h))
list_item_grows v n below c rest (is_second (is_second (is_both {g = a} {h = f} x y e))) near le h =
    let w : (i : NodeKind) × (b : Forest) × (a ≡ node i b none) × (may_stand v (Operand 24) (i, b) ≡ true) × IsNode v i b = place_is v (Operand 24) a x in
    let at : c ≡ node w.0 w.1 f = e ∙ ap (λ (z : Forest). z +++ f) w.2 in
    let mark : is_no_mark (first_of (leaves c ++ rest)) ≡ true =
    subst (λ (z : List Token). is_no_mark (first_of z) ≡ true)
    (sym (ap (λ (z : Forest). leaves z ++ rest) e ∙ leaves_before a f rest))
    (starts_with v expr is_no_mark a (leaves f ++ rest) ((list_firsts v).3) refl x) in
    head (ap (λ (z : Form). Some z) (list_item_at (first_of (leaves c ++ rest)) mark))
    (subst (λ (z : Forest). Walks (php v) (Node s.Entry ∷ Part g.EntryValue ∷ []) z rest) (sym at)
    (entry_key v n below w.0 w.1 f rest w.3 w.4
    (subst (λ (z : Forest). arrows_are_nearest false z ≡ true) at
    ((and_parts (elses_are_nearest false c) (arrows_are_nearest false c) near).1)) y
    (subst (λ (z : Forest). count z ≤ n) at le) h))

-- ---- an item that may be missing, and the others

no_head : (v : Version) (ts : List Token) (c : Terminal) → first_of ts ≡ c → closes_item c ≡ true → parts v g.ListHead ts ≡ []
no_head v ts t.Comma e h = rw e refl
no_head v ts t.CloseParen e h = rw e refl
no_head v ts t.CloseBracket e h = rw e refl
no_head v ts c e h = absurd (false_true h)

some_head_at : (c : Terminal) → not (closes_item c) ≡ true → list_head c ≡ Node s.ListItem ∷ []
some_head_at t.Comma h = absurd (false_true h)
some_head_at t.CloseParen h = absurd (false_true h)
some_head_at t.CloseBracket h = absurd (false_true h)
some_head_at c h = refl

item_none : (c : Forest) (us : List Token) → leaves (node k.Item c none) ++ us ≡ leaves c ++ us
item_none c us = ap (λ (z : List Token). z ++ us) (append-nil (leaves c))

inner_le : (c : Forest) (n : ℕ) → count (node k.Item c none) ≤ n → count c ≤ n
inner_le c n le = omega arith

head_walks : (v : Version) (n : ℕ) → Below v n → (w0 : Forest) (us : List Token) → Fits v (maybe list_item) w0
    → count w0 ≤ n → closes_item (first_of us) ≡ true → Walks (php v) (Part g.ListHead ∷ []) w0 us
head_walks v n below w0 us (is_first x) le h = group_alone v g.ListHead [] w0 us
    (no_head v (leaves w0 ++ us) (first_of (leaves w0 ++ us)) refl
    (subst (λ (z : Forest). closes_item (first_of (leaves z ++ us)) ≡ true) (sym (nothing_is v w0 x)) h))
    (subst (λ (z : Forest). Walks (php v) [] z us) (sym (nothing_is v w0 x)) ends)
head_walks v n below w0 us (is_second (is_inside {c = c} x near)) le h =
    group_alone v g.ListHead (Node s.ListItem ∷ []) (node k.Item c none) us
    (some_head_at (first_of (leaves (node k.Item c none) ++ us))
    (subst (λ (z : List Token). not (closes_item (first_of z)) ≡ true) (sym (item_none c us))
    (starts_with v item_rule (λ d. not (closes_item d)) c us ((list_firsts v).4) refl x)))
    (child (list_item_grows v n below c us x near (inner_le c n le) h) refl ends)

abbrev more_rule : Rule
more_rule = many (word t.Comma ~ maybe list_item)

comma_first : (v : Version) → (only_class v (word t.Comma ~ maybe list_item) t.Comma ≡ true) × (for_all (λ c. where_it (starts v more_rule c) (closes_item c)) ≡ true)
unfolding for_all
comma_first V74 = (refl, refl)
comma_first V83 = (refl, refl)

no_more_here : (v : Version) (ts : List Token) (c : Terminal) → first_of ts ≡ c → closes_bracket c ≡ true → parts v g.ListMore ts ≡ []
no_more_here v ts t.CloseParen e h = rw e refl
no_more_here v ts t.CloseBracket e h = rw e refl
no_more_here v ts c e h = absurd (false_true h)

more_here : (v : Version) (ts : List Token) → first_of ts ≡ t.Comma → parts v g.ListMore ts ≡ Word t.Comma ∷ Part g.ListHead ∷ []
more_here v ts e = rw e refl

closes_both_item : (c : Terminal) → closes_bracket c ≡ true → closes_item c ≡ true
closes_both_item t.CloseParen h = refl
closes_both_item t.CloseBracket h = refl
closes_both_item c h = absurd (false_true h)

begin_item : (P : Terminal → Bool) (ts us : List Token) → Begins P true ts
    → ((d : Terminal) → P d ≡ true → closes_item d ≡ true) → closes_item (first_of us) ≡ true
    → closes_item (first_of (ts ++ us)) ≡ true
begin_item P [] us b f h = h
begin_item P (x ∷ xs) us b f h = f (terminal x) b

ends_more : (v : Version) (g : Forest) (us : List Token) → Fits v more_rule g → closes_bracket (first_of us) ≡ true → closes_item (first_of (leaves g ++ us)) ≡ true
ends_more v g us x h = begin_item (starts v more_rule) (leaves g) us (rule_begins v x)
    (λ d p. where_is (starts v more_rule) closes_item d ((comma_first v).1) p) (closes_both_item (first_of us) h)

token_there : (x : Token) (f : Forest) → 0 < length (leaves (leaf x f))
token_there x f = omega arith

more_walks : (v : Version) (n : ℕ) → Below v n → (us : List Token) → closes_bracket (first_of us) ≡ true
    → (w0 : Forest) → Fits v more_rule w0 → count w0 ≤ n → Walks (php v) (Repeats g.ListMore ∷ []) w0 us
more_walks v n below us h w0 no_more le = stop (no_more_here v us (first_of us) refl h) ends
more_walks v n below us h w0 (once_more {g = a} {h = b} x y e) le =
    let le' : count (a +++ b) ≤ n = subst (λ (z : Forest). count z ≤ n) e le in
    let o : (g1 : Forest) × (g2 : Forest) × Fits v (word t.Comma) g1 × Fits v (maybe list_item) g2 × (a ≡ g1 +++ g2) = both_is v (word t.Comma) (maybe list_item) a x in
    let u : (z : Token) × (o.0 ≡ leaf z none) × (accepts v t.Comma z ≡ true) = word_is v t.Comma o.0 o.2 in
    let at : a ≡ leaf u.0 o.1 = o.4 ∙ ap (λ (z : Forest). z +++ o.1) u.1 in
    let ts : List Token = leaves b ++ us in
    let one : Walks (php v) (Word t.Comma ∷ Part g.ListHead ∷ []) (leaf u.0 o.1) ts =
    a_word u.2 (head_walks v n below o.1 ts o.3 (subst (λ (z : Forest). count z ≤ n) at (left_le a b n le'))
    (ends_more v b us y h)) in
    let first : first_of (leaves (leaf u.0 o.1) ++ ts) ≡ t.Comma =
    subst (λ (z : Forest). first_of (leaves z ++ ts) ≡ t.Comma) at
    (first_is v (word t.Comma ~ maybe list_item) t.Comma a ts ((comma_first v).0) refl x) in
    subst (λ (z : Forest). Walks (php v) (Repeats g.ListMore ∷ []) z us) (sym (e ∙ ap (λ (z : Forest). z +++ b) at))
    (repeat {h = leaf u.0 o.1} (more_here v (leaves (leaf u.0 o.1) ++ ts) first) one (token_there u.0 o.1) (more_walks v n below us h b y (right_le a b n le')))

parts_walk : (v : Version) (n : ℕ) → Below v n → (f : Forest) (us : List Token) → Fits v list_parts f → count f ≤ n
    → closes_bracket (first_of us) ≡ true → Walks (php v) (Part g.ListHead ∷ Repeats g.ListMore ∷ []) f us
parts_walk v n below f us (is_both {g = a} {h = b} x y e) le h =
    let le' : count (a +++ b) ≤ n = subst (λ (z : Forest). count z ≤ n) e le in
    subst (λ (z : Forest). Walks (php v) (Part g.ListHead ∷ Repeats g.ListMore ∷ []) z us) (sym e)
    (walk_join (php v) (Repeats g.ListMore ∷ []) b us (more_walks v n below us h b y (right_le a b n le')) refl
    (head_walks v n below a (leaves b ++ us) x (left_le a b n le') (ends_more v b us y h)))

-- ---- list forms

list_facts : (v : Version) → (only_class v (brackets list_parts) t.OpenBracket ≡ true)
    × (only_class v list_word t.List ≡ true)
    × (for_all (λ c. where_it (starts v (word t.CloseBracket) c) (closes_bracket c)) ≡ true)
    × (for_all (λ c. where_it (starts v (word t.CloseParen) c) (closes_bracket c)) ≡ true)
unfolding for_all
list_facts V74 = (refl, refl, refl, refl)
list_facts V83 = (refl, refl, refl, refl)

abbrev bracket_items : List Item
bracket_items = Word t.OpenBracket ∷ Part g.ListHead ∷ Repeats g.ListMore ∷ Word t.CloseBracket ∷ []

abbrev word_items : List Item
word_items = Word t.List ∷ Word t.OpenParen ∷ Part g.ListHead ∷ Repeats g.ListMore ∷ Word t.CloseParen ∷ []

bracket_walk : (v : Version) (n : ℕ) → Below v n → (c : Forest) (rest : List Token) → Fits v (brackets list_parts) c → count c ≤ n → Walks (php v) bracket_items c rest
bracket_walk v n below c rest x le = between_words v t.OpenBracket t.CloseBracket list_parts
    (Part g.ListHead ∷ Repeats g.ListMore ∷ []) n c rest x le
    (λ f us y le' st. parts_walk v n below f us y le'
    (where_is (starts v (word t.CloseBracket)) closes_bracket (first_of us) ((list_facts v).2) st))

word_walk : (v : Version) (n : ℕ) → Below v n → (c : Forest) (rest : List Token) → Fits v list_word c → count c ≤ n → Walks (php v) word_items c rest
word_walk v n below c rest x le =
    let p : (g1 : Forest) × (g2 : Forest) × Fits v (word t.List) g1 × Fits v (parens list_parts) g2 × (c ≡ g1 +++ g2) = both_is v (word t.List) (parens list_parts) c x in
    let u : (y : Token) × (p.0 ≡ leaf y none) × (accepts v t.List y ≡ true) = word_is v t.List p.0 p.2 in
    let at : c ≡ leaf u.0 p.1 = p.4 ∙ ap (λ (z : Forest). z +++ p.1) u.1 in
    subst (λ (z : Forest). Walks (php v) word_items z rest) (sym at)
    (a_word u.2 (between_words v t.OpenParen t.CloseParen list_parts (Part g.ListHead ∷ Repeats g.ListMore ∷ []) n p.1
    rest p.3 (subst (λ (z : Forest). count z ≤ n) at le)
    (λ f us y le' st. parts_walk v n below f us y le'
    (where_is (starts v (word t.CloseParen)) closes_bracket (first_of us) ((list_facts v).3) st))))

word_operand_form : (v : Version) (ts : List Token) → first_of ts ≡ t.List
    → (operand_form v ts ≡ Some (k.List, word_items)) × (target_form v ts ≡ Some (k.List, word_items))
    × (entry_form v ts ≡ Some (k.List, word_items))
word_operand_form v ts e = (rw e refl, rw e refl, rw e refl)

bracket_operand : (v : Version) (ts : List Token) → first_of ts ≡ t.OpenBracket → is_assign (first_of (past_group 0 ts)) ≡ true → operand_form v ts ≡ Some (k.List, bracket_items)
bracket_operand v ts e a = rw (e, a) refl

bracket_target : (v : Version) (ts : List Token) → first_of ts ≡ t.OpenBracket → goes_on (first_of (past_group 0 ts)) ≡ false → target_form v ts ≡ Some (k.List, bracket_items)
bracket_target v ts e a = rw (e, a) refl

bracket_entry : (v : Version) (ts : List Token) → first_of ts ≡ t.OpenBracket → ends_item (first_of (past_group 0 ts)) ≡ true → entry_form v ts ≡ Some (k.List, bracket_items)
bracket_entry v ts e a = rw (e, a) refl

target_no_goes : (c : Terminal) → closes_target c ≡ true → goes_on c ≡ false
target_no_goes t.DoubleArrow h = refl
target_no_goes t.Comma h = refl
target_no_goes t.CloseParen h = refl
target_no_goes t.CloseBracket h = refl
target_no_goes c h = absurd (false_true h)

item_ends : (c : Terminal) → closes_item c ≡ true → ends_item c ≡ true
item_ends t.Comma h = refl
item_ends t.CloseParen h = refl
item_ends t.CloseBracket h = refl
item_ends c h = absurd (false_true h)

past_is : (v : Version) (c : Forest) (rest : List Token) → IsNode v k.List c → Fits v (brackets list_parts) c → past_group 0 (leaves c ++ rest) ≡ rest
past_is v c rest nd x = list_past v c rest nd (first_is v (brackets list_parts) t.OpenBracket c rest ((list_facts v).0) refl x)

-- before an assignment
pub lists_grow : (v : Version) (n : ℕ) → Below v n → (m : ℕ) (c : Forest) (rest : List Token) → IsNode v k.List c
    → Fits v list c → count c ≤ n → first_of rest ≡ t.Assign → Grows (php v) (s.Operand m) k.List c rest
lists_grow v n below m c rest nd (is_first x) le h =
    head (bracket_operand v (leaves c ++ rest)
    (first_is v (brackets list_parts) t.OpenBracket c rest ((list_facts v).0) refl x)
    (ap (λ (z : List Token). is_assign (first_of z)) (past_is v c rest nd x) ∙ ap is_assign h))
    (bracket_walk v n below c rest x le)
lists_grow v n below m c rest nd (is_second x) le h =
    head ((word_operand_form v (leaves c ++ rest) (first_is v list_word t.List c rest ((list_facts v).1) refl x)).0)
    (word_walk v n below c rest x le)

-- as a target
pub list_targets : (v : Version) (n : ℕ) → Below v n → (c : Forest) (rest : List Token) → IsNode v k.List c
    → Fits v list c → count c ≤ n → closes_target (first_of rest) ≡ true → Spells (php v) s.Target (k.List, c) rest
list_targets v n below c rest nd (is_first x) le h = (
  head (bracket_target v (leaves c ++ rest)
      (first_is v (brackets list_parts) t.OpenBracket c rest ((list_facts v).0) refl x)
      (ap (λ (z : List Token). goes_on (first_of z)) (past_is v c rest nd x) ∙ target_no_goes (first_of rest) h))
      (bracket_walk v n below c rest x le),
  refl,
)
list_targets v n below c rest nd (is_second x) le h = (
  head ((word_operand_form v (leaves c ++ rest) (first_is v list_word t.List c rest ((list_facts v).1) refl x)).1)
      (word_walk v n below c rest x le),
  refl,
)

-- in another one
pub list_entries : (v : Version) (n : ℕ) → Below v n → (c : Forest) (rest : List Token) → IsNode v k.List c
    → Fits v list c → count c ≤ n → closes_item (first_of rest) ≡ true → Spells (php v) s.Entry (k.List, c) rest
list_entries v n below c rest nd (is_first x) le h = (
  head (bracket_entry v (leaves c ++ rest)
      (first_is v (brackets list_parts) t.OpenBracket c rest ((list_facts v).0) refl x)
      (ap (λ (z : List Token). ends_item (first_of z)) (past_is v c rest nd x) ∙ item_ends (first_of rest) h))
      (bracket_walk v n below c rest x le),
  entry_closed v k.List c rest nd (closes_item_all (first_of rest) h)
      (target_end k.List (first_of rest) h refl),
)
list_entries v n below c rest nd (is_second x) le h = (
  head ((word_operand_form v (leaves c ++ rest) (first_is v list_word t.List c rest ((list_facts v).1) refl x)).2)
      (word_walk v n below c rest x le),
  entry_closed v k.List c rest nd (closes_item_all (first_of rest) h)
      (target_end k.List (first_of rest) h refl),
)
