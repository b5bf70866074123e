-- Expressions in braces in quoted texts, with `${`.
use Rattle.std.proofs.Common.{◌≡◌, ℕ, Bool, true, false, not, ◌&&◌, if◌then◌else◌, codes, List, [], ◌++◌, Option, refl, ap, ◌∙◌}
use Rattle.std.specs.Str.{bytes_eq}
use Rattle.std.proofs.lemmas.Bool.{and_from}
use Rattle.php_tree.specs.declared.kind.NodeKind.{NodeKind}
use Rattle.php_tree.specs.declared.kind.NodeKind.TheVariants as k
use Rattle.php_tree.specs.declared.token.Token.{Token}
use Rattle.php_tree.specs.declared.token.TokenKind.TheVariants as token
use Rattle.php_tree.specs.declared.version.Version.TheVariants.{V74, V83}
use Rattle.php_tree.specs.Tree.{Forest, Tree, none, leaf, node}
use Rattle.php_terminals.specs.declared.terminal.Terminal.{Terminal}
use Rattle.php_terminals.specs.declared.terminal.Terminal.TheVariants as t
use Rattle.php_terminals.specs.Classify.{terminal}
use Rattle.php_terminals.specs.Words.{operators}
use Rattle.php_grammar.specs.Accepts.{accepts, same_class}
use Rattle.php_shapes.specs.Nearest.{goes_on_if, is_to}
use Rattle.php_shapes.specs.Places.{Embedded, Operand, may_stand}
use Rattle.php_shapes.specs.Quoted as rules
use Rattle.php_shapes.specs.Shapes.{IsNode, is_both, is_first, is_node, is_place, is_second, is_word, no_more}
use Rattle.tracked_changes.specs.Draft.{Draft, no_more, new_leaf, new_node}
use Rattle.tracked_changes.specs.Tokens.{is_text, put_also, retexted}
use Rattle.syntax_rules.specs.Around.{Around, within}
use Rattle.syntax_rules.specs.DollarBrace.{begins_dollar_brace, curly, dollar_name, escaped, is_piece, named, opened, plain, with_node, with_offset}
use Rattle.syntax_rules.specs.HashComment.{hash_comment}
use Rattle.rewritten_shapes.proofs.Braces.{is_quiet, quiet_near}
use Rattle.rewritten_shapes.proofs.Calm.{steady_shown}
use Rattle.rewritten_shapes.proofs.Kept.{AllGood, Good, good_stands}
use Rattle.rewritten_shapes.proofs.OperatorWords.{close_brace_is, open_bracket_is}
use Rattle.rewritten_shapes.proofs.QuotedParts.{close_is, curly_is, dollar_is, dollar_kind, is_mark, marks_part, name_is, opens_is, shuts_is}
use Rattle.rewritten_shapes.proofs.Same.{lines_fine}
use Rattle.rewritten_shapes.proofs.Shown.{new_tree, op_token, shown_token}
use Rattle.rewritten_shapes.proofs.Tabled.{changed, written}
use Rattle.syntax_rules.specs.Rewritten as all
use Rattle.tracked_changes.specs.Parens.{in_wrappings}
use Rattle.tracked_changes.specs.Walk.{NewTree}
use Rattle.rewritten_shapes.proofs.QuotedPieces.{drawn, seen, new_quoted, seen_leaf, leaf_drawn, leaf_seen, leaf_stays, shown_class, mark_of, shown_mark, Step}

-- ---- expressions in braces

pub curly_step : (b : Bool → Option Around) (x : Token) (k : NodeKind) (c : Forest) (y : Token) (rest : Forest)
    → same_class t.CurlyOpen (terminal x) ≡ true → may_stand V74 Embedded (k, c) ≡ true → IsNode V74 k c
    → same_class t.CloseBrace (terminal y) ≡ true → AllGood (leaf x (node k c (leaf y none)))
    → Step rules.quoted_part b (leaf x (node k c (leaf y none))) rest
curly_step b x k c y rest p m n q w =
    let e = curly_is (terminal x) p in
    let d = close_is (terminal y) q in
    let z = new_tree (b false) k c in
    let new = leaf (shown_token (hash_comment x)) (node z.0 z.1 (leaf (shown_token (hash_comment y)) none)) in
    let good = w.0 (b false) n in
    record {
      new = leaf (shown_token (hash_comment x)) (node z.0 z.1 (leaf (shown_token (hash_comment y)) none));
      is_part = marks_part rules.quoted_part (leaf x (node k c (leaf y none))) new refl
          (and_from (is_mark (terminal x)) (is_mark (terminal y) && true) (mark_of x t.CurlyOpen e refl)
          (and_from (is_mark (terminal y)) true (mark_of y t.CloseBrace d refl) refl)) refl
          (and_from (is_mark (terminal (shown_token (hash_comment x)))) (is_mark (terminal (shown_token (hash_comment y))) && true) (shown_mark x t.CurlyOpen e refl)
          (and_from (is_mark (terminal (shown_token (hash_comment y)))) true (shown_mark y t.CloseBrace d refl) refl))
          (is_second (is_second (is_first (is_both (is_word (steady_shown t.CurlyOpen x refl p))
          (is_both (is_place (good_stands Embedded k c z good refl m) good.shaped)
          (is_word (steady_shown t.CloseBrace y refl q)) refl) refl))));
      same = leaf_stays b false x t.CurlyOpen (node k c (leaf y rest)) e refl
          ∙ ap (λ (f : Forest). leaf (shown_token (hash_comment x)) (node z.0 z.1 f)) (leaf_stays b false y t.CloseBrace rest d refl);
    }

-- ---- `${`

dollar_drawn : (b : Bool → Option Around) (x : Token) (f : Forest) → same_class t.DollarBrace (terminal x) ≡ true → drawn b (leaf x f) ≡ opened (hash_comment x) (drawn b f)
dollar_drawn b x f e =
    ap (λ (z : Bool). if z then opened (hash_comment x) (drawn b f) else new_leaf
    (if is_piece x.kind && begins_dollar_brace (written b false f) then escaped (hash_comment x) else hash_comment
    x) (drawn b f))
    (dollar_kind x.kind x.text e)

-- the tokens that are put in
abbrev curly_token : Token
curly_token = record { kind = token.CurlyOpen; lead = []; text = codes "{"; start = 0 }

abbrev variable_token : Token → Token
variable_token n = shown_token (dollar_name (hash_comment n))

abbrev variable_parts : Token → Forest
variable_parts n = leaf (variable_token n) none

variable_shaped : (n : Token) → IsNode V83 k.Variable (variable_parts n)
variable_shaped n = is_node (is_first (is_word refl)) (quiet_near (variable_parts n) refl) (lines_fine k.Variable (variable_parts n) refl)

curly_seen : (x : Token) (d : Draft) → seen (new_leaf (curly (hash_comment x)) d) ≡ leaf curly_token (seen d)
curly_seen x d = seen_leaf (curly (hash_comment x)) d refl

no_bracket : (y : Token) → same_class t.CloseBrace (terminal y) ≡ true → is_text (codes "[") (hash_comment y) ≡ false
no_bracket y q = ap (λ (text : List ℕ). bytes_eq (text ++ []) (codes "[")) (close_brace_is y q)

is_bracket : (y : Token) → same_class t.OpenBracket (terminal y) ≡ true → is_text (codes "[") (hash_comment y) ≡ true
is_bracket y q = ap (λ (text : List ℕ). bytes_eq (text ++ []) (codes "[")) (open_bracket_is y q)

-- `${name}`
pub plain_step : (b : Bool → Option Around) (x n y : Token) (rest : Forest)
    → same_class t.DollarBrace (terminal x) ≡ true → same_class t.VarName (terminal n) ≡ true
    → same_class t.CloseBrace (terminal y) ≡ true → Step rules.quoted_part b (leaf x (leaf n (leaf y none))) rest
plain_step b x n y rest p o q =
    let e = dollar_is (terminal x) p in
    let v = name_is (terminal n) o in
    let d = close_is (terminal y) q in
    let new = leaf curly_token (node k.Variable (variable_parts n) (leaf (shown_token (hash_comment y)) none)) in
    record {
      new = leaf curly_token (node k.Variable (variable_parts n) (leaf (shown_token (hash_comment y)) none));
      is_part = marks_part rules.quoted_part (leaf x (leaf n (leaf y none))) new refl
          (and_from (is_mark (terminal x)) (is_mark (terminal n) && (is_mark (terminal y) && true)) (mark_of x t.DollarBrace e refl)
          (and_from (is_mark (terminal n)) (is_mark (terminal y) && true) (mark_of n t.VarName v refl)
          (and_from (is_mark (terminal y)) true (mark_of y t.CloseBrace d refl) refl))) refl
          (and_from (is_mark (terminal (shown_token (hash_comment y)))) true (shown_mark y t.CloseBrace d refl) refl)
          (is_second (is_second (is_first (is_both (is_word refl) (is_both (is_place refl (variable_shaped n)) (is_word (steady_shown t.CloseBrace y refl q)) refl) refl))));
      same = ap seen (dollar_drawn b x (leaf n (leaf y rest)) p
          ∙ ap (opened (hash_comment x)) (leaf_drawn b false n t.VarName (leaf y rest) v refl ∙ ap (new_leaf (hash_comment n)) (leaf_drawn b false y t.CloseBrace rest d refl))
          ∙ ap (λ (z : Bool). if z then with_offset (hash_comment x) (hash_comment n) (hash_comment y) (drawn b rest)
          else plain (hash_comment x) (hash_comment n) (new_leaf (hash_comment y) (drawn b rest)))
          (no_bracket y q))
          ∙ curly_seen x (named (hash_comment n) (new_leaf (hash_comment y) (drawn b rest)))
          ∙ ap (λ (f : Forest). leaf curly_token (node k.Variable (variable_parts n) f)) (leaf_seen y t.CloseBrace (drawn b rest) d refl);
    }

-- `${name[..]}`
abbrev offset_parts : Token → Token → Tree → Token → Forest
offset_parts n m z s = node k.Variable (variable_parts n) (leaf (shown_token (hash_comment m)) (node z.0 z.1 (leaf (shown_token (hash_comment s)) none)))

mark_quiet : (x y : Terminal) → x ≡ t.OpenBracket → y ≡ t.CloseBracket → (not (goes_on_if x) && (not (is_to x) && (not (goes_on_if y) && (not (is_to y) && true)))) ≡ true
mark_quiet x y p q = rw (p, q) refl

offset_shaped : (n m : Token) (j : NodeKind) (c : Forest) (z : Tree) (s : Token)
    → same_class t.OpenBracket (terminal m) ≡ true → may_stand V74 (Operand 24) (j, c) ≡ true → Good j c z
    → same_class t.CloseBracket (terminal s) ≡ true → IsNode V83 k.Offset (offset_parts n m z s)
offset_shaped n m j c z s p l g q =
    is_node
    (is_both (is_place refl (variable_shaped n))
    (is_both (is_word (steady_shown t.OpenBracket m refl p))
    (is_both (is_second (is_place (good_stands (Operand 24) j c z g refl l) g.shaped)) (is_word (steady_shown t.CloseBracket s refl q)) refl) refl) refl)
    (quiet_near (offset_parts n m z s) (mark_quiet (terminal (shown_token (hash_comment m)))
    (terminal (shown_token (hash_comment s))) (shown_class m t.OpenBracket (opens_is (terminal m) p))
    (shown_class s t.CloseBracket (shuts_is (terminal s) q))))
    (lines_fine k.Offset (offset_parts n m z s) refl)

-- a node by what its draft is
abbrev made : (Bool → Option Around) → NodeKind → Forest → NewTree
made b j c = in_wrappings (all.wrapping (b false) (j, c)) (changed (j, c) (j, written (within j c) true c))

offset_seen : (b : Bool → Option Around) (x n m : Token) (j : NodeKind) (c : Forest) (s y : Token) (rest : Forest)
    → same_class t.OpenBracket (terminal m) ≡ true → same_class t.CloseBracket (terminal s) ≡ true
    → same_class t.CloseBrace (terminal y) ≡ true → terminal m ≡ t.OpenBracket → terminal s ≡ t.CloseBracket
    → terminal y ≡ t.CloseBrace
    → seen (opened (hash_comment x) (new_leaf (hash_comment n) (new_leaf (hash_comment m) (drawn b (node j c (leaf s (leaf y rest)))))))
    ≡ leaf curly_token (node k.Offset (offset_parts n m (new_tree (b false) j c) s) (leaf (shown_token (hash_comment y)) (new_quoted b rest)))
offset_seen b x n m j c s y rest u r q a h d =
    let z = new_tree (b false) j c in
    let behind = new_node (made b j c).0 (made b j c).1 (new_leaf (hash_comment s) (new_leaf (hash_comment y) (drawn b rest))) in
    ap (λ (f : Draft). seen (opened (hash_comment x) (new_leaf (hash_comment n) (new_leaf (hash_comment m) (new_node (made b j c).0 (made b j c).1 f)))))
    (leaf_drawn b false s t.CloseBracket (leaf y rest) h refl ∙ ap (new_leaf (hash_comment s)) (leaf_drawn b false y t.CloseBrace rest d refl))
    ∙ ap (λ (z : Bool). seen (if z then with_offset (hash_comment x) (hash_comment n) (hash_comment m) behind else
    plain (hash_comment x) (hash_comment n) (new_leaf (hash_comment m) behind))) (is_bracket m u)
    ∙ curly_seen x (new_node k.Offset (named (hash_comment n)
    (new_leaf (hash_comment m) (new_node (made b j c).0 (made b j c).1 (new_leaf (hash_comment s) no_more))))
    (new_leaf (hash_comment y) (drawn b rest)))
    ∙ ap (λ (f : Forest). leaf curly_token (node k.Offset (node k.Variable (variable_parts n) f) (seen (new_leaf (hash_comment y) (drawn b rest)))))
    (leaf_seen m t.OpenBracket (new_node (made b j c).0 (made b j c).1 (new_leaf (hash_comment s) no_more)) a refl)
    ∙ ap (λ (f : Forest). leaf curly_token (node k.Offset (offset_parts n m z s) f)) (leaf_seen y t.CloseBrace (drawn b rest) d refl)

pub offset_step : (b : Bool → Option Around) (x n m : Token) (j : NodeKind) (c : Forest) (s y : Token) (rest : Forest)
    → same_class t.DollarBrace (terminal x) ≡ true → same_class t.VarName (terminal n) ≡ true
    → same_class t.OpenBracket (terminal m) ≡ true → may_stand V74 (Operand 24) (j, c) ≡ true → IsNode V74 j c
    → same_class t.CloseBracket (terminal s) ≡ true → same_class t.CloseBrace (terminal y) ≡ true
    → AllGood (leaf x (leaf n (leaf m (node j c (leaf s (leaf y none)))))) → Step rules.quoted_part b (leaf x (leaf n (leaf m (node j c (leaf s (leaf y none)))))) rest
offset_step b x n m j c s y rest p o u l i r q w =
    let e = dollar_is (terminal x) p in
    let v = name_is (terminal n) o in
    let a = opens_is (terminal m) u in
    let h = shuts_is (terminal s) r in
    let d = close_is (terminal y) q in
    let z = new_tree (b false) j c in
    let new = leaf curly_token (node k.Offset (offset_parts n m z s) (leaf (shown_token (hash_comment y)) none)) in
    let marks = and_from (is_mark (terminal x))
    (is_mark (terminal n) && (is_mark (terminal m) && (is_mark (terminal s) && (is_mark (terminal y) && true))))
    (mark_of x t.DollarBrace e refl)
    (and_from (is_mark (terminal n)) (is_mark (terminal m) && (is_mark (terminal s) && (is_mark (terminal y) && true))) (mark_of n t.VarName v refl)
    (and_from (is_mark (terminal m)) (is_mark (terminal s) && (is_mark (terminal y) && true)) (mark_of m t.OpenBracket a refl)
    (and_from (is_mark (terminal s)) (is_mark (terminal y) && true) (mark_of s t.CloseBracket h refl)
    (and_from (is_mark (terminal y)) true (mark_of y t.CloseBrace d refl) refl)))) in
    record {
      new = leaf curly_token (node k.Offset (offset_parts n m z s) (leaf (shown_token (hash_comment y)) none));
      is_part = marks_part rules.quoted_part (leaf x (leaf n (leaf m (node j c (leaf s (leaf y none)))))) new refl marks refl
          (and_from (is_mark (terminal (shown_token (hash_comment y)))) true (shown_mark y t.CloseBrace d refl) refl)
          (is_second (is_second (is_first (is_both (is_word refl)
          (is_both (is_place refl (offset_shaped n m j c z s u l (w.0 (b false) i) r))
          (is_word (steady_shown t.CloseBrace y refl q)) refl) refl))));
      same = ap seen (dollar_drawn b x (leaf n (leaf m (node j c (leaf s (leaf y rest))))) p
          ∙ ap (opened (hash_comment x)) (leaf_drawn b false n t.VarName (leaf m (node j c (leaf s (leaf y rest)))) v refl
          ∙ ap (new_leaf (hash_comment n)) (leaf_drawn b false m t.OpenBracket (node j c (leaf s (leaf y rest))) a refl)))
          ∙ offset_seen b x n m j c s y rest u r q a h d;
    }

-- `${..}`
abbrev dollar_parts : Tree → Forest
dollar_parts z = leaf (op_token (codes "$")) (leaf (op_token (codes "{")) (node z.0 z.1 (leaf (op_token (codes "}")) none)))

takes_dollar : accepts V83 t.Dollar (op_token (codes "$")) ≡ true
unfolding operators
takes_dollar = refl

takes_open : accepts V83 t.OpenBrace (op_token (codes "{")) ≡ true
unfolding operators
takes_open = refl

takes_close : accepts V83 t.CloseBrace (op_token (codes "}")) ≡ true
unfolding operators
takes_close = refl

close_mark : is_mark (terminal (op_token (codes "}"))) ≡ true
unfolding operators
close_mark = refl

dollar_quiet : (z : Tree) → is_quiet (dollar_parts z) ≡ true
unfolding operators
dollar_quiet z = refl

dollar_shaped : (j : NodeKind) (c : Forest) (z : Tree) → may_stand V74 (Operand 24) (j, c) ≡ true → Good j c z → IsNode V83 k.Variable (dollar_parts z)
dollar_shaped j c z l g =
    is_node
    (is_second (is_both (is_word takes_dollar)
    (is_first (is_both (is_word takes_open) (is_both (is_place (good_stands (Operand 24) j c z g refl l) g.shaped) (is_word takes_close) refl) refl)) refl))
    (quiet_near (dollar_parts z) (dollar_quiet z)) (lines_fine k.Variable (dollar_parts z) refl)

node_seen : (x y : Token) (e : NewTree) (d : Draft)
    → seen (with_node (hash_comment x) e.0 e.1 (new_leaf (hash_comment y) d)) ≡ leaf curly_token
    (node k.Variable (dollar_parts (e.0, seen e.1)) (leaf (op_token (codes "}")) (seen d)))
node_seen x y e d =
    let last = new_leaf (retexted token.Op (codes "}") (hash_comment y)) no_more in
    let inner = new_leaf (put_also token.Op (codes "{")) (new_node e.0 e.1 last) in
    curly_seen x (new_node k.Variable (new_leaf (put_also token.Op (codes "$")) inner) (new_leaf (put_also token.Op (codes "}")) d))
    ∙ ap (λ (f : Forest). leaf curly_token (node k.Variable (seen (new_leaf (put_also token.Op (codes "$")) inner)) f)) (seen_leaf (put_also token.Op (codes "}")) d refl)
    ∙ ap (λ (f : Forest). leaf curly_token (node k.Variable f (leaf (op_token (codes "}")) (seen d))))
    (seen_leaf (put_also token.Op (codes "$")) inner refl ∙ ap (leaf (op_token (codes "$"))) (seen_leaf (put_also token.Op (codes "{")) (new_node e.0 e.1 last) refl))

pub node_step : (b : Bool → Option Around) (x : Token) (j : NodeKind) (c : Forest) (y : Token) (rest : Forest)
    → same_class t.DollarBrace (terminal x) ≡ true → may_stand V74 (Operand 24) (j, c) ≡ true → IsNode V74 j c
    → same_class t.CloseBrace (terminal y) ≡ true → AllGood (leaf x (node j c (leaf y none)))
    → Step rules.quoted_part b (leaf x (node j c (leaf y none))) rest
node_step b x j c y rest p l i q w =
    let e = dollar_is (terminal x) p in
    let d = close_is (terminal y) q in
    let z = new_tree (b false) j c in
    let new = leaf curly_token (node k.Variable (dollar_parts z) (leaf (op_token (codes "}")) none)) in
    record {
      new = leaf curly_token (node k.Variable (dollar_parts z) (leaf (op_token (codes "}")) none));
      is_part = marks_part rules.quoted_part (leaf x (node j c (leaf y none))) new refl
          (and_from (is_mark (terminal x)) (is_mark (terminal y) && true) (mark_of x t.DollarBrace e refl)
          (and_from (is_mark (terminal y)) true (mark_of y t.CloseBrace d refl) refl)) refl
          (and_from (is_mark (terminal (op_token (codes "}")))) true close_mark refl)
          (is_second (is_second (is_first (is_both (is_word refl) (is_both (is_place refl (dollar_shaped j c z l (w.0 (b false) i))) (is_word takes_close) refl) refl))));
      same = ap seen (dollar_drawn b x (node j c (leaf y rest)) p
          ∙ ap (λ (f : Draft). opened (hash_comment x) (new_node (made b j c).0 (made b j c).1 f)) (leaf_drawn b false y t.CloseBrace rest d refl))
          ∙ node_seen x y (made b j c) (drawn b rest);
    }
