-- Offsets in braces, and casts.
use Rattle.std.proofs.Common.{◌≡◌, ℕ, max, Bool, true, false, not, cond, ◌&&◌, ◌||◌, if◌then◌else◌, nat_lt, length, codes, List, [], ◌++◌, Option, refl, sym, ap, ◌∙◌, subst, arith}
use Rattle.std.specs.Str.{bytes_eq}
use Rattle.std.proofs.lemmas.Bool.{and_from}
use Rattle.php_tree.specs.declared.kind.NodeKind.{NodeKind}
use Rattle.php_tree.specs.declared.kind.NodeKind.TheVariants.{BraceOffset, Cast, Constant, Offset}
use Rattle.php_tree.specs.declared.token.Token.{Token}
use Rattle.php_tree.specs.declared.token.TokenKind.{TokenKind}
use Rattle.php_tree.specs.declared.token.TokenKind.TheVariants as token
use Rattle.php_tree.specs.declared.version.Version.TheVariants.{V74, V83}
use Rattle.php_tree.specs.Tree.{Forest, Tree, none, leaf, node}
use Rattle.php_terminals.specs.declared.terminal.Terminal.{Terminal}
use Rattle.php_terminals.specs.declared.terminal.Terminal.TheVariants as t
use Rattle.php_terminals.specs.Classify.{cast, name, terminal, terminal_by}
use Rattle.php_terminals.specs.Words.{find_row, front, keyword, keywords, label, labels, operator, operators}
use Rattle.php_terminals.specs.Words as words
use Rattle.php_grammar.specs.Accepts.{accepts, same_class}
use Rattle.php_grammar.specs.Edges.{edge, edge_from}
use Rattle.php_grammar.specs.Levels.{level}
use Rattle.php_shapes.specs.Nearest.{arrows_are_nearest, elses_are_nearest, ends_in_if, ends_in_yield, goes_on_if, is_nearest, is_open_if, is_open_yield, is_to}
use Rattle.php_shapes.specs.Notation.{word, ◌|||◌}
use Rattle.php_shapes.specs.Operators as rules
use Rattle.php_shapes.specs.Places.{Operand, OffsetBase, may_stand}
use Rattle.php_shapes.specs.Postfixes.{brace_offset}
use Rattle.php_shapes.specs.Shapes.{Fits, IsNode, is_both, is_first, is_node, is_place, is_second, is_word}
use Rattle.tracked_changes.specs.Tokens.{is_text, retexted}
use Rattle.tracked_changes.specs.Walk.{NewTree}
use Rattle.syntax_rules.specs.Around.{Around, within}
use Rattle.syntax_rules.specs.BraceOffset.{bracket}
use Rattle.syntax_rules.specs.Casts.{bare}
use Rattle.syntax_rules.specs.HashComment.{hash_comment}
use Rattle.syntax_rules.specs.RealCast.{is_real_cast, real_cast}
use Rattle.syntax_rules.specs.UnsetCast.{is_edited, is_undecided, is_unset_cast, of_variable, unset_cast}
use Rattle.rewritten_shapes.specs.Laws.{AreSpelled, is_old, is_spelled_by}
use Rattle.rewritten_shapes.proofs.Calm.{shown_is, steady_shown}
use Rattle.rewritten_shapes.proofs.Kept.{AllGood, Good, becomes_offset, becomes_same, edge_is, good_stands}
use Rattle.rewritten_shapes.proofs.Like.{below_max, below_same}
use Rattle.rewritten_shapes.proofs.Operands.{dots_by, ternaries_by}
use Rattle.rewritten_shapes.proofs.OperatorWords.{close_brace_is, found, open_brace_is}
use Rattle.rewritten_shapes.proofs.Same.{lines_fine}
use Rattle.rewritten_shapes.proofs.Shown.{changed_tree, in_paren, new_tree, op_token, shown_token, shown_tree}
use Rattle.rewritten_shapes.proofs.Sides.{and_left, and_right}
use Rattle.rewritten_shapes.proofs.Simple.{unwrapped_tree}
use Rattle.rewritten_shapes.proofs.Tabled.{written}
use Rattle.rewritten_shapes.proofs.Unaries.{single, single_good}
use Rattle.rewritten_shapes.proofs.Wrapped.{paren_edge, paren_good, paren_shaped}

-- ---- parts without `else` and `=>`

-- whether no `else`, `elseif` or `=>` is among parts
abbrev pub is_quiet : Forest → Bool
is_quiet none = true
is_quiet (leaf x f) = not (goes_on_if (terminal x)) && (not (is_to (terminal x)) && is_quiet f)
is_quiet (node k c f) = is_quiet f

not_any : (b x y : Bool) → not x ≡ true → y ≡ true → (not (b && x) && y) ≡ true
not_any b true y e d = cc
not_any true false y e d = d
not_any false false y e d = d

quiet_elses : (b : Bool) (f : Forest) → is_quiet f ≡ true → elses_are_nearest b f ≡ true
quiet_elses b none e = refl
quiet_elses b (leaf x f) e =
    not_any b (goes_on_if (terminal x)) (elses_are_nearest false f) (and_left (not (goes_on_if (terminal x))) (not (is_to (terminal x)) && is_quiet f) e)
    (quiet_elses false f (and_right (not (is_to (terminal x))) (is_quiet f) (and_right (not (goes_on_if (terminal x))) (not (is_to (terminal x)) && is_quiet f) e)))
quiet_elses b (node k c f) e = quiet_elses (is_open_if k c || ends_in_if false c) f e

quiet_arrows : (b : Bool) (f : Forest) → is_quiet f ≡ true → arrows_are_nearest b f ≡ true
quiet_arrows b none e = refl
quiet_arrows b (leaf x f) e =
    let d = and_right (not (goes_on_if (terminal x))) (not (is_to (terminal x)) && is_quiet f) e in
    not_any b (is_to (terminal x)) (arrows_are_nearest false f) (and_left (not (is_to (terminal x))) (is_quiet f) d)
    (quiet_arrows false f (and_right (not (is_to (terminal x))) (is_quiet f) d))
quiet_arrows b (node k c f) e = quiet_arrows (is_open_yield k c || ends_in_yield false c) f e

pub quiet_near : (f : Forest) → is_quiet f ≡ true → is_nearest f ≡ true
quiet_near f e = and_from (elses_are_nearest false f) (arrows_are_nearest false f) (quiet_elses false f e) (quiet_arrows false f e)

-- ---- offsets

open_shown : (x : Token) → x.text ≡ codes "{" → shown_token (bracket (hash_comment x)) ≡ op_token (codes "[")
open_shown x e =
    ap (λ (b : Bool). shown_token (if b then retexted token.Op (codes "[") (hash_comment x) else
    (if is_text (codes "}") (hash_comment x) then retexted token.Op (codes "]") (hash_comment x) else hash_comment
    x)))
    (ap (λ (text : List ℕ). bytes_eq (text ++ []) (codes "{")) e)

close_shown : (x : Token) → x.text ≡ codes "}" → shown_token (bracket (hash_comment x)) ≡ op_token (codes "]")
close_shown x e =
    ap (λ (b : Bool). shown_token (if b then retexted token.Op (codes "[") (hash_comment x) else
    (if is_text (codes "}") (hash_comment x) then retexted token.Op (codes "]") (hash_comment x) else hash_comment
    x)))
    (ap (λ (text : List ℕ). bytes_eq (text ++ []) (codes "{")) e)
    ∙ ap (λ (b : Bool). shown_token (if b then retexted token.Op (codes "]") (hash_comment x) else hash_comment x)) (ap (λ (text : List ℕ). bytes_eq (text ++ []) (codes "}")) e)

opens_bracket : accepts V83 t.OpenBracket (op_token (codes "[")) ≡ true
unfolding operators
opens_bracket = refl

closes_bracket : accepts V83 t.CloseBracket (op_token (codes "]")) ≡ true
unfolding operators
closes_bracket = refl

quiet_brackets : (j : NodeKind) (d : Forest) (i : NodeKind) (e : Forest) → is_quiet (node j d (leaf (op_token (codes "[")) (node i e (leaf (op_token (codes "]")) none)))) ≡ true
unfolding operators
quiet_brackets j d i e = refl

-- an offset of two nodes
abbrev offset_parts : Tree → Tree → Forest
offset_parts y z = node y.0 y.1 (leaf (op_token (codes "[")) (node z.0 z.1 (leaf (op_token (codes "]")) none)))

offset_edge : (y z : Tree) → edge V83 (Offset, offset_parts y z) ≡ 0
offset_edge y z = edge_is V83 Offset (offset_parts y z) ∙ omega arith

offset_good : (j : NodeKind) (d : Forest) (x : Token) (i : NodeKind) (e : Forest) (w : Token) (y z : Tree)
    → may_stand V74 OffsetBase (j, d) ≡ true → may_stand V74 (Operand 24) (i, e) ≡ true → Good j d y → Good i e z
    → Good BraceOffset (node j d (leaf x (node i e (leaf w none)))) (Offset, offset_parts y z)
offset_good j d x i e w y z m n g h = record {
  shaped = is_node
      (is_both (is_place (good_stands OffsetBase j d y g refl m) g.shaped)
      (is_both (is_word opens_bracket) (is_both (is_second (is_place (good_stands (Operand 24) i e z h refl n) h.shaped)) (is_word closes_bracket) refl) refl) refl)
      (quiet_near (offset_parts y z) (quiet_brackets y.0 y.1 z.0 z.1)) (lines_fine Offset (offset_parts y z) refl);
  like = record {
    ifs = λ u. absurd cc;
    yields = λ u. absurd cc;
    edges = below_same 0;
    begins = λ u. g.like.begins u;
    leads = λ u. g.like.leads u;
  };
  becomes = becomes_offset;
  levels = below_same 0;
  dot_level = λ u. omega arith;
  dots = λ u v l. omega (arith, offset_edge y z);
  ternaries = λ u v l. omega (arith, offset_edge y z);
}

-- what a node with an offset in braces becomes
offset_tree : (j : NodeKind) (d : Forest) (x : Token) (i : NodeKind) (e : Forest) (w : Token) → x.text ≡ codes "{" → w.text ≡ codes "}"
    → changed_tree BraceOffset (node j d (leaf x (node i e (leaf w none))))
    ≡ (
      Offset,
      offset_parts (new_tree (within BraceOffset (node j d (leaf x (node i e (leaf w none)))) true) j d)
          (new_tree (within BraceOffset (node j d (leaf x (node i e (leaf w none)))) false) i e),
    )
offset_tree j d x i e w p q =
    let c = node j d (leaf x (node i e (leaf w none))) in
    let y = new_tree (within BraceOffset c true) j d in
    let z = new_tree (within BraceOffset c false) i e in
    ap (λ (u : Token). (Offset, node y.0 y.1 (leaf u (node z.0 z.1 (leaf (shown_token (bracket (hash_comment w))) none))))) (open_shown x p)
    ∙ ap (λ (u : Token). (Offset, node y.0 y.1 (leaf (op_token (codes "[")) (node z.0 z.1 (leaf u none))))) (close_shown w q)

offset_at : (j : NodeKind) (d : Forest) (x : Token) (i : NodeKind) (e : Forest) (w : Token)
    → may_stand V74 OffsetBase (j, d) ≡ true → IsNode V74 j d → accepts V74 t.OpenBrace x ≡ true
    → may_stand V74 (Operand 24) (i, e) ≡ true → IsNode V74 i e → accepts V74 t.CloseBrace w ≡ true
    → AllGood (node j d (leaf x (node i e (leaf w none)))) → Good BraceOffset
    (node j d (leaf x (node i e (leaf w none))))
    (changed_tree BraceOffset (node j d (leaf x (node i e (leaf w none)))))
offset_at j d x i e w m n p o q r u =
    let c = node j d (leaf x (node i e (leaf w none))) in
    let y = new_tree (within BraceOffset c true) j d in
    let z = new_tree (within BraceOffset c false) i e in
    subst (Good BraceOffset c) (sym (offset_tree j d x i e w (open_brace_is x p) (close_brace_is w r)))
    (offset_good j d x i e w y z m o (u.0 (within BraceOffset c true) n) (u.2.0 (within BraceOffset c false) q))

brace_fits : (c : Forest) → Fits V74 (brace_offset V74) c → AllGood c → Good BraceOffset c (changed_tree BraceOffset c)
brace_fits c (is_both (is_place {k = j} {c = d} m n) (is_both (is_word {x} p) (is_both (is_place {k = i} {c = e} o q) (is_word {x = w} r) f) g) h) u =
    let same : c ≡ node j d (leaf x (node i e (leaf w none))) = h ∙ ap (node j d) (g ∙ ap (leaf x) f) in
    subst (λ (c : Forest). Good BraceOffset c (changed_tree BraceOffset c)) (sym same) (offset_at j d x i e w m n p o q r (subst AllGood same u))

pub good_brace : (a : Option Around) (c : Forest) → AllGood c → IsNode V74 BraceOffset c → Good BraceOffset c (new_tree a BraceOffset c)
good_brace a c w (is_node f near fine) = subst (Good BraceOffset c) (sym (unwrapped_tree a BraceOffset c refl)) (brace_fits c f w)

-- ---- casts

old_label : (text : List ℕ) → same_class t.OldCast (label text) ≡ true → ⊥
unfolding labels
old_label text e = absurd (let z : false ≡ true = found t.OldCast t.Label labels text refl e in cc)

old_operator : (text : List ℕ) → same_class t.OldCast (operator text) ≡ true → ⊥
unfolding operators
old_operator text e = absurd (let z : false ≡ true = found t.OldCast t.OtherOp operators text refl e in cc)

old_row : (text : List ℕ) → same_class t.OldCast (find_row t.OtherKeyword keywords text) ≡ true → ⊥
unfolding keywords
old_row text e = absurd (let z : false ≡ true = found t.OldCast t.OtherKeyword keywords text refl e in cc)

old_cond : (b : Bool) (x y : Terminal) → (same_class t.OldCast x ≡ true → ⊥) → (same_class t.OldCast y ≡ true → ⊥) → same_class t.OldCast (cond b x y) ≡ true → ⊥
old_cond true x y p q e = p e
old_cond false x y p q e = q e

old_keyword : (text : List ℕ) → same_class t.OldCast (keyword text) ≡ true → ⊥
old_keyword text e = old_cond (nat_lt 5 (length text) && words.is_word (codes "yield") (front 5 text)) t.YieldFrom
    (find_row t.OtherKeyword keywords text) (λ u. cc) (old_row text) e

old_name : (text : List ℕ) → same_class t.OldCast (name text) ≡ true → ⊥
old_name text e =
    old_cond (words.is_word (codes "\\") (front 1 text)) t.FullName (cond (words.is_word (codes "namespace\\") (front 10 text)) t.RelativeName t.QualifiedName) (λ u. cc)
    (old_cond (words.is_word (codes "namespace\\") (front 10 text)) t.RelativeName t.QualifiedName (λ u. cc) (λ u. cc)) e

old_is : (x : Terminal) → same_class t.OldCast x ≡ true → is_old x ≡ true
old_is t.OldCast e = refl
old_is _ e = absurd cc

-- whether a cast is one that 8.3 lacks, by its word
abbrev is_lacking : List ℕ → Bool
is_lacking text = bytes_eq (bare text) (codes "(real)") || bytes_eq (bare text) (codes "(unset)")

spelled_old : (a b : Bool) → (not a || b) ≡ true → a ≡ true → b ≡ true
spelled_old true b e d = e
spelled_old false b e d = cc

old_lacks : (kind : TokenKind) (text : List ℕ) → is_spelled_by kind text ≡ true → same_class t.OldCast (terminal_by kind text) ≡ true → is_lacking text ≡ true
old_lacks token.Cast text s e = spelled_old (is_old (cast text)) (is_lacking text) s (old_is (cast text) e)
old_lacks token.Label text s e = absurd (old_label text e)
old_lacks token.Keyword text s e = absurd (old_keyword text e)
old_lacks token.Op text s e = absurd (old_operator text e)
old_lacks token.Name text s e = absurd (old_name text e)
old_lacks _ text s e = absurd cc

abbrev CastGood : Forest → Tree → Type 0
CastGood c x = Good Cast c x

cast_single : (x y : Token) (i : NodeKind) (e : Forest) (z : Tree) → accepts V83 t.Cast y ≡ true
    → goes_on_if (terminal y) ≡ false → is_to (terminal y) ≡ false → IsNode V74 i e
    → may_stand V74 (Operand 3) (i, e) ≡ true → Good i e z
    → Good Cast (single x i e) (Cast, single y z.0 z.1)
cast_single x y i e z p q r n m g =
    let c = single x i e in
    let b = single y z.0 z.1 in
    let ends = single_good Cast x y i e z 3 (omega arith) refl g n m (omega arith) in
    record {
      shaped = is_node (is_both (is_word p) (is_place (good_stands (Operand 3) i e z g refl m) g.shaped) refl)
          (quiet_near b (and_from (not (goes_on_if (terminal y))) (not (is_to (terminal y)) && true) (ap not q) (ap (λ u. not u && true) r))) (lines_fine Cast b refl);
      like = record {
        ifs = g.like.ifs;
        yields = g.like.yields;
        edges =
            below_max 3 3 (max (level V83 z) (edge_from V83 0 z.1)) (max (level V74 (i, e)) (edge_from V74 0 e))
            (below_same 3) g.like.edges;
        begins = λ u. absurd cc;
        leads = λ u. absurd cc;
      };
      becomes = becomes_same Cast;
      levels = below_same 3;
      dot_level = λ u. omega arith;
      dots = λ u v l. dots_by Cast c b i e z 3 ends g v l;
      ternaries = λ u v l. ternaries_by Cast c b i e z 3 ends g l;
    }

float_shown : (x : Token) → shown_token (retexted token.Cast (codes "(float)") (hash_comment x)) ≡ record { kind = token.Cast; lead = []; text = codes "(float)"; start = 0 }
float_shown x = refl

null_constant : IsNode V83 Constant (leaf (record { kind = token.Label; lead = []; text = codes "null"; start = 0 }) none)
unfolding labels
null_constant = is_node (is_word refl) refl (lines_fine Constant (leaf (record { kind = token.Label; lead = []; text = codes "null"; start = 0 }) none) refl)

null_good : (c : Forest) → Good Cast c (in_paren (Constant, leaf (record { kind = token.Label; lead = []; text = codes "null"; start = 0 }) none))
null_good c =
    let x : Tree = (Constant, leaf (record { kind = token.Label; lead = []; text = codes "null"; start = 0 }) none) in
    paren_good Cast c (in_paren x).1 refl (paren_shaped x refl null_constant) refl refl (paren_edge x)

cast_token : (y : Terminal) → same_class t.Cast y ≡ true → (goes_on_if y ≡ false) × (is_to y ≡ false)
cast_token t.Cast e = (refl, refl)
cast_token _ e = absurd cc

no_lack : (a b : Bool) → (a || b) ≡ true → a ≡ false → b ≡ false → ⊥
no_lack true b e d f = cc
no_lack false true e d f = cc
no_lack false false e d f = cc

-- neither edited nor undecided
not_unset : (a b : Bool) → (a && b) ≡ false → (a && not b) ≡ false → a ≡ false
not_unset true true e d = e
not_unset true false e d = d
not_unset false b e d = refl

-- the token of a cast that stays
cast_stays : (x : Token) (i : NodeKind) (e : Forest) → Fits V74 (word t.Cast ||| word t.OldCast) (leaf x none)
    → is_spelled_by x.kind x.text ≡ true → is_real_cast (Cast, single x i e) ≡ false
    → is_unset_cast (Cast, single x i e) ≡ false → accepts V74 t.Cast x ≡ true
cast_stays x i e (is_first (is_word p)) s r u = p
cast_stays x i e (is_second (is_word p)) s r u =
    absurd (no_lack (bytes_eq (bare x.text) (codes "(real)")) (bytes_eq (bare x.text) (codes "(unset)"))
    (old_lacks x.kind x.text s p) r u)

cast_at : (x : Token) (i : NodeKind) (e : Forest) → Fits V74 (word t.Cast ||| word t.OldCast) (leaf x none)
    → is_spelled_by x.kind x.text ≡ true → is_undecided (Cast, single x i e) ≡ false
    → may_stand V74 (Operand 3) (i, e) ≡ true → IsNode V74 i e → AllGood (single x i e)
    → Good Cast (single x i e) (changed_tree Cast (single x i e))
cast_at x i e f s u m n w = by_real (is_real_cast (Cast, single x i e)) refl
  where
    z : Tree
    z = new_tree (within Cast (single x i e) false) i e

    g : Good i e (new_tree (within Cast (single x i e) false) i e)
    g = w.0 (within Cast (single x i e) false) n

    old : NewTree
    old = (Cast, written (within Cast (single x i e)) true (single x i e))

    after_real : (r : Bool) → is_real_cast (Cast, single x i e) ≡ r
        → changed_tree Cast (single x i e) ≡ shown_tree
        (if r then real_cast (Cast, written (within Cast (single x i e)) true (single x i e)) else
        (if is_edited (Cast, single x i e) then unset_cast
        (Cast, written (within Cast (single x i e)) true (single x i e)) else
        (Cast, written (within Cast (single x i e)) true (single x i e))))
    after_real r d = ap (λ (b : Bool). shown_tree
        (if b then real_cast (Cast, written (within Cast (single x i e)) true (single x i e)) else
        (if is_edited (Cast, single x i e) then unset_cast
        (Cast, written (within Cast (single x i e)) true (single x i e)) else
        (Cast, written (within Cast (single x i e)) true (single x i e))))) d

    after_unset : (r : Bool) → is_edited (Cast, single x i e) ≡ r
        → shown_tree (if is_edited (Cast, single x i e) then unset_cast
        (Cast, written (within Cast (single x i e)) true (single x i e)) else
        (Cast, written (within Cast (single x i e)) true (single x i e))) ≡ shown_tree
        (if r then unset_cast (Cast, written (within Cast (single x i e)) true (single x i e)) else
        (Cast, written (within Cast (single x i e)) true (single x i e)))
    after_unset r d = ap (λ (b : Bool). shown_tree
        (if b then unset_cast (Cast, written (within Cast (single x i e)) true (single x i e)) else
        (Cast, written (within Cast (single x i e)) true (single x i e)))) d

    by_unset : (r : Bool) → is_real_cast (Cast, single x i e) ≡ false → is_edited (Cast, single x i e) ≡ r → Good Cast (single x i e) (changed_tree Cast (single x i e))
    by_unset true q d = subst (Good Cast (single x i e)) (sym (after_real false q ∙ after_unset true d)) (null_good (single x i e))
    by_unset false q d =
        let un : is_unset_cast (Cast, single x i e) ≡ false = not_unset (is_unset_cast (Cast, single x i e)) (of_variable (single x i e)) d u in
        let p = cast_stays x i e f s q un in
        let y = cast_token (terminal x) p in
        subst (Good Cast (single x i e)) (sym (after_real false q ∙ after_unset false d))
        (cast_single x (shown_token (hash_comment x)) i e (new_tree (within Cast (single x i e) false) i e) (steady_shown t.Cast x refl p)
        (ap (λ v. goes_on_if (terminal v)) (shown_is x) ∙ y.0) (ap (λ v. is_to (terminal v)) (shown_is x) ∙ y.1) n m g)

    by_real : (r : Bool) → is_real_cast (Cast, single x i e) ≡ r → Good Cast (single x i e) (changed_tree Cast (single x i e))
    by_real true q =
        subst (Good Cast (single x i e)) (sym (after_real true q))
        (cast_single x (record { kind = token.Cast; lead = []; text = codes "(float)"; start = 0 }) i e (new_tree (within Cast (single x i e) false) i e) refl refl refl n m g)
    by_real false q = by_unset (is_edited (Cast, single x i e)) q refl

cast_fits : (c : Forest) → Fits V74 (rules.cast V74) c → AreSpelled c → is_undecided (Cast, c) ≡ false → AllGood c → Good Cast c (changed_tree Cast c)
cast_fits c (is_both (is_first (is_word {x} p)) (is_place {k = i} {c = e} m n) h) s u w =
    let at = subst AreSpelled h s in
    subst (λ (c : Forest). Good Cast c (changed_tree Cast c)) (sym h)
    (cast_at x i e (is_first (is_word p)) at.0.0 (ap (λ (y : Forest). is_undecided (Cast, y)) (sym h) ∙ u) m n (subst AllGood h w))
cast_fits c (is_both (is_second (is_word {x} p)) (is_place {k = i} {c = e} m n) h) s u w =
    let at = subst AreSpelled h s in
    subst (λ (c : Forest). Good Cast c (changed_tree Cast c)) (sym h)
    (cast_at x i e (is_second (is_word p)) at.0.0 (ap (λ (y : Forest). is_undecided (Cast, y)) (sym h) ∙ u) m n (subst AllGood h w))

pub good_cast : (a : Option Around) (c : Forest) → AreSpelled c → is_undecided (Cast, c) ≡ false → AllGood c → IsNode V74 Cast c → Good Cast c (new_tree a Cast c)
good_cast a c s u w (is_node f near fine) = subst (Good Cast c) (sym (unwrapped_tree a Cast c refl)) (cast_fits c f s u w)
