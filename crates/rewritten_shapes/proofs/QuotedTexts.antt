-- Quoted texts.
use Rattle.std.proofs.Common.{◌≡◌, ℕ, Bool, true, false, not, ◌&&◌, ◌||◌, List, [], Option, refl, sym, ap, ◌∙◌, subst, arith}
use Rattle.std.proofs.lemmas.Bool.{and_from}
use Rattle.php_tree.specs.declared.kind.NodeKind.TheVariants as k
use Rattle.php_tree.specs.declared.token.Token.{Token}
use Rattle.php_tree.specs.declared.token.TokenKind.{TokenKind}
use Rattle.php_tree.specs.declared.version.Version.TheVariants.{V74, V83}
use Rattle.php_tree.specs.Tree.{Forest, none, leaf, node, ◌+++◌}
use Rattle.php_terminals.specs.declared.terminal.Terminal.{Terminal}
use Rattle.php_terminals.specs.declared.terminal.Terminal.TheVariants as t
use Rattle.php_terminals.specs.Classify.{terminal}
use Rattle.php_terminals.specs.Indents.{heredoc_fits, is_heredoc, is_heredoc_kind, is_misindented, is_uniform, leaf_fits, leaf_fits_by, margin, parts_fit}
use Rattle.php_exprs.proofs.Forests.{forest_assoc}
use Rattle.php_grammar.specs.Accepts.{same_class}
use Rattle.php_grammar.specs.Edges.{edge_from}
use Rattle.php_shapes.specs.Nearest.{ends_in_if, ends_in_yield, goes_on_if, is_to}
use Rattle.php_shapes.specs.Notation.{many}
use Rattle.php_shapes.specs.Quoted as rules
use Rattle.php_shapes.specs.Shapes.{Fits, IsNode, is_both, is_first, is_node, is_nothing, is_place, is_second, is_word, no_more, once_more}
use Rattle.tracked_changes.specs.Draft.{no_more}
use Rattle.syntax_rules.specs.Around.{Around, within}
use Rattle.syntax_rules.specs.DollarBrace.{part}
use Rattle.syntax_rules.specs.HashComment.{hash_comment}
use Rattle.rewritten_shapes.proofs.Braces.{is_quiet, quiet_near}
use Rattle.rewritten_shapes.proofs.Calm.{shown_is, steady_shown}
use Rattle.rewritten_shapes.proofs.Flat.{flat_fits}
use Rattle.rewritten_shapes.proofs.Kept.{AllGood, Good, becomes_same, edge_is, good_front, good_rest}
use Rattle.rewritten_shapes.proofs.Like.{below_same}
use Rattle.rewritten_shapes.proofs.QuotedLines.{margin_blank}
use Rattle.rewritten_shapes.proofs.QuotedParts.{Part, end_is, last_if, last_is, last_yield, lines_join, part_more, part_none, piece_is, quiet_join, quote_is}
use Rattle.rewritten_shapes.proofs.Shown.{changed_tree, new_tree, shown_token}
use Rattle.rewritten_shapes.proofs.Sides.{and_left, and_right}
use Rattle.rewritten_shapes.proofs.Simple.{unwrapped_tree}
use Rattle.rewritten_shapes.proofs.QuotedPieces.{new_quoted, leaf_stays, shown_class, Step, piece_step, interpolated_step}
use Rattle.rewritten_shapes.proofs.QuotedBraces.{curly_step, plain_step, offset_step, node_step}

-- ---- all parts

part_step : (b : Bool → Option Around) (f rest : Forest) → Fits V74 rules.quoted_part f → AllGood f → Step rules.quoted_part b f rest
part_step b f rest (is_first (is_word {x} p)) w = piece_step b x rest (piece_is (terminal x) p)
part_step b f rest (is_second (is_first x)) w = interpolated_step b f rest x w
part_step b f rest (is_second (is_second (is_first (is_both (is_word {x} p) (is_both (is_place {k = j} {c} l i) (is_word {x = y} q) g) h)))) w =
    let same : f ≡ leaf x (node j c (leaf y none)) = h ∙ ap (leaf x) g in
    subst (λ (z : Forest). Step rules.quoted_part b z rest) (sym same) (curly_step b x j c y rest p l i q (subst AllGood same w))
part_step b f rest (is_second (is_second (is_second (is_first
    (is_both (is_word {x} p) (is_both (is_word {x = n} o) (is_both (is_first is_nothing) (is_word {x = y} q) i) g)
    h))))) w =
    let same : f ≡ leaf x (leaf n (leaf y none)) = h ∙ ap (leaf x) (g ∙ ap (leaf n) i) in
    subst (λ (z : Forest). Step rules.quoted_part b z rest) (sym same) (plain_step b x n y rest p o q)
part_step b f rest (is_second (is_second (is_second (is_first
    (is_both (is_word {x} p) (is_both (is_word {x = n} o) (is_both
    (is_second (is_both (is_word {x = m} u) (is_both (is_place {k = j} {c} l v) (is_word {x = s} r) a) d))
    (is_word {x = y} q) i) g) h))))) w =
    let same : f ≡ leaf x (leaf n (leaf m (node j c (leaf s (leaf y none))))) =
    h ∙ ap (leaf x) (g ∙ ap (leaf n) (i ∙ ap (λ (z : Forest). z +++ leaf y none) (d ∙ ap (leaf m) a))) in
    subst (λ (z : Forest). Step rules.quoted_part b z rest) (sym same) (offset_step b x n m j c s y rest p o u l v r q (subst AllGood same w))
part_step b f rest (is_second (is_second (is_second (is_second (is_both (is_word {x} p) (is_both (is_place {k = j} {c} l i) (is_word {x = y} q) g) h))))) w =
    let same : f ≡ leaf x (node j c (leaf y none)) = h ∙ ap (leaf x) g in
    subst (λ (z : Forest). Step rules.quoted_part b z rest) (sym same) (node_step b x j c y rest p l i q (subst AllGood same w))

more_step : (b : Bool → Option Around) (g h rest : Forest) → Step rules.quoted_part b g (h +++ rest)
    → Step (many rules.quoted_part) b h rest → Step (many rules.quoted_part) b (g +++ h) rest
more_step b g h rest p q = record {
  new = p.new +++ q.new;
  is_part = part_more rules.quoted_part g p.new h q.new p.is_part q.is_part;
  same = ap (new_quoted b) (forest_assoc g h rest) ∙ p.same ∙ ap (λ (z : Forest). p.new +++ z) q.same ∙ sym (forest_assoc p.new q.new (new_quoted b rest));
}

many_step : (b : Bool → Option Around) (f rest : Forest) → Fits V74 (many rules.quoted_part) f → AllGood f → Step (many rules.quoted_part) b f rest
many_step b none rest no_more w = record { new = none; is_part = part_none rules.quoted_part; same = refl }
many_step b f rest (once_more {g} {h} x y d) w =
    let z = subst AllGood d w in
    subst (λ (z : Forest). Step (many rules.quoted_part) b z rest) (sym d)
    (more_step b g h rest (part_step b g (h +++ rest) x (good_front g h z)) (many_step b h rest y (good_rest g h z)))

-- ---- the node

end_fits : (indent : List ℕ) (fresh : Bool) (x : Token) → terminal x ≡ t.QuotedEnd → parts_fit indent fresh (leaf x none) ≡ true
unfolding leaf_fits
end_fits indent fresh x e = ap (λ (c : Terminal). leaf_fits_by c indent fresh x.text && true) e

heredoc_is : (g : Forest) (x : Token) → heredoc_fits (g +++ leaf x none) ≡ (is_uniform (margin x.text) && parts_fit (margin x.text) true (g +++ leaf x none))
heredoc_is g x = ap (λ (text : List ℕ). is_uniform (margin text) && parts_fit (margin text) true (g +++ leaf x none)) (last_is [] g x)

heredoc_lines : (g i : Forest) (x y : Token) → Part (many rules.quoted_part) g i → terminal y ≡ t.QuotedEnd
    → y.text ≡ x.text → heredoc_fits (g +++ leaf x none) ≡ true → heredoc_fits (i +++ leaf y none) ≡ true
heredoc_lines g i x y p q s e =
    let old = sym (heredoc_is g x) ∙ e in
    heredoc_is i y
    ∙ ap (λ (text : List ℕ). is_uniform (margin text) && parts_fit (margin text) true (i +++ leaf y none)) s
    ∙ and_from (is_uniform (margin x.text)) (parts_fit (margin x.text) true (i +++ leaf y none))
    (and_left (is_uniform (margin x.text)) (parts_fit (margin x.text) true (g +++ leaf x none)) old)
    (lines_join (margin x.text) true (many rules.quoted_part) g i (leaf x none) (leaf y none) p (margin_blank x.text) (λ b z. end_fits (margin x.text) b y q)
    (and_right (is_uniform (margin x.text)) (parts_fit (margin x.text) true (g +++ leaf x none)) old))

lines_by : (a b d : Bool) → (b ≡ true → d ≡ true) → not (not a || b) ≡ false → not (not a || d) ≡ false
lines_by false b d f e = refl
lines_by true true d f e = ap not (f refl)
lines_by true false d f e = cc

quoted_lines : (q q2 : Token) (f g : Forest) → q2.kind ≡ q.kind → (heredoc_fits f ≡ true → heredoc_fits g ≡ true)
    → is_misindented (k.Quoted, leaf q f) ≡ false → is_misindented (k.Quoted, leaf q2 g) ≡ false
unfolding is_misindented
quoted_lines q q2 f g s h e =
    ap (λ (kind : TokenKind). not (not (is_heredoc_kind kind) || heredoc_fits g)) s ∙ lines_by (is_heredoc q) (heredoc_fits f) (heredoc_fits g) h e

-- the new parts of the node
abbrev whole : Token → Forest → Token → Forest
whole q g e = leaf (shown_token (hash_comment q)) (g +++ leaf (shown_token (hash_comment e)) none)

end_quiet : (c : Terminal) → c ≡ t.QuotedEnd → (not (goes_on_if c) && (not (is_to c) && true)) ≡ true
end_quiet c e = ap (λ (c : Terminal). not (goes_on_if c) && (not (is_to c) && true)) e

quote_quiet : (c : Terminal) (b : Bool) → c ≡ t.QuoteOpen → b ≡ true → (not (goes_on_if c) && (not (is_to c) && b)) ≡ true
quote_quiet c b e d = ap (λ (c : Terminal). not (goes_on_if c) && (not (is_to c) && b)) e ∙ d

never : (b d : Bool) → b ≡ false → b ≡ true → d ≡ true
never b d e h = absurd (let z : false ≡ true = sym e ∙ h in cc)

whole_good : (q : Token) (f g : Forest) (e : Token) → same_class t.QuoteOpen (terminal q) ≡ true
    → same_class t.QuotedEnd (terminal e) ≡ true → Part (many rules.quoted_part) f g
    → is_misindented (k.Quoted, leaf q (f +++ leaf e none)) ≡ false
    → Good k.Quoted (leaf q (f +++ leaf e none)) (k.Quoted, whole q g e)
whole_good q f g e p r part fine =
    let c = leaf q (f +++ leaf e none) in
    let b = whole q g e in
    let y = shown_token (hash_comment e) in
    let end = shown_class e t.QuotedEnd (end_is (terminal e) r) in
    let fits : Fits V83 rules.quoted b = is_both (is_word (steady_shown t.QuoteOpen q refl p)) (is_both part.fits (is_word (steady_shown t.QuotedEnd e refl r)) refl) refl in
    let flat : edge_from V83 0 b ≡ 0 = flat_fits fits refl in
    let new = edge_is V83 k.Quoted b in
    let quiet = quote_quiet (terminal (shown_token (hash_comment q))) (is_quiet (g +++ leaf y none)) (shown_class q t.QuoteOpen (quote_is (terminal q) p))
    (quiet_join g (leaf y none) ∙ and_from (is_quiet g) (is_quiet (leaf y none)) part.quiet (end_quiet (terminal y) end)) in
    record {
      shaped = is_node fits (quiet_near b quiet)
          (quoted_lines q (shown_token (hash_comment q)) (f +++ leaf e none) (g +++ leaf y none) refl
          (heredoc_lines f g e y part end (ap (λ (z : Token). z.text) (shown_is e))) fine);
      like = record {
        ifs = never (ends_in_if false b) (ends_in_if false c) (last_if false g y);
        yields = never (ends_in_yield false b) (ends_in_yield false c) (last_yield false g y);
        edges = record { tight = λ h. omega (arith, flat); loose = omega (arith, flat) };
        begins = λ u. absurd cc;
        leads = λ u. absurd cc;
      };
      becomes = becomes_same k.Quoted;
      levels = below_same 0;
      dot_level = λ u. omega arith;
      dots = λ u v l. omega (arith, new, flat);
      ternaries = λ u v l. omega (arith, new, flat);
    }

whole_tree : (q : Token) (f : Forest) (e : Token) → same_class t.QuoteOpen (terminal q) ≡ true
    → same_class t.QuotedEnd (terminal e) ≡ true
    → (s : Step (many rules.quoted_part) (within k.Quoted (leaf q (f +++ leaf e none))) f (leaf e none))
    → changed_tree k.Quoted (leaf q (f +++ leaf e none)) ≡ (k.Quoted, whole q s.new e)
whole_tree q f e p r s =
    let b = within k.Quoted (leaf q (f +++ leaf e none)) in
    ap (λ (z : Forest). (k.Quoted, z))
    (leaf_stays b true q t.QuoteOpen (f +++ leaf e none) (quote_is (terminal q) p) refl
    ∙ ap (leaf (shown_token (hash_comment q))) (s.same ∙ ap (λ (z : Forest). s.new +++ z) (leaf_stays b false e t.QuotedEnd none (end_is (terminal e) r) refl)))

quoted_at : (q : Token) (f : Forest) (e : Token) → same_class t.QuoteOpen (terminal q) ≡ true
    → same_class t.QuotedEnd (terminal e) ≡ true → Fits V74 (many rules.quoted_part) f → AllGood f
    → is_misindented (k.Quoted, leaf q (f +++ leaf e none)) ≡ false
    → Good k.Quoted (leaf q (f +++ leaf e none)) (changed_tree k.Quoted (leaf q (f +++ leaf e none)))
quoted_at q f e p r x w fine =
    let s = many_step (within k.Quoted (leaf q (f +++ leaf e none))) f (leaf e none) x w in
    subst (Good k.Quoted (leaf q (f +++ leaf e none))) (sym (whole_tree q f e p r s)) (whole_good q f s.new e p r s.is_part fine)

quoted_fits_good : (c : Forest) → Fits V74 rules.quoted c → AllGood c → is_misindented (k.Quoted, c) ≡ false → Good k.Quoted c (changed_tree k.Quoted c)
quoted_fits_good c (is_both (is_word {x = q} p) (is_both {g = f} x (is_word {x = e} r) g) h) w fine =
    let same : c ≡ leaf q (f +++ leaf e none) = h ∙ ap (leaf q) g in
    subst (λ (z : Forest). Good k.Quoted z (changed_tree k.Quoted z)) (sym same)
    (quoted_at q f e p r x (good_front f (leaf e none) (subst AllGood same w)) (ap (λ (z : Forest). is_misindented (k.Quoted, z)) (sym same) ∙ fine))

-- a quoted text becomes a good one
pub good_quoted : (a : Option Around) (c : Forest) → AllGood c → IsNode V74 k.Quoted c → Good k.Quoted c (new_tree a k.Quoted c)
good_quoted a c w (is_node f near fine) = subst (Good k.Quoted c) (sym (unwrapped_tree a k.Quoted c refl)) (quoted_fits_good c f w fine)
