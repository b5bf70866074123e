-- Uses keep their shape.
use Rattle.std.proofs.Common.{◌≡◌, Bool, true, false, not, ◌||◌, if◌then◌else◌, Option, refl, sym, ap, ◌∙◌, subst}
use Rattle.php_exprs.proofs.Forests.{forest_assoc}
use Rattle.php_tree.specs.declared.kind.NodeKind.TheVariants as k
use Rattle.php_tree.specs.declared.token.Token.{Token}
use Rattle.php_tree.specs.declared.token.TokenKind.{TokenKind}
use Rattle.php_tree.specs.declared.version.Version.{Version}
use Rattle.php_tree.specs.declared.version.Version.TheVariants.{V74, V83}
use Rattle.php_tree.specs.Tree.{Forest, none, leaf, ◌+++◌}
use Rattle.php_terminals.specs.declared.terminal.Terminal.{Terminal}
use Rattle.php_terminals.specs.declared.terminal.Terminal.TheVariants as t
use Rattle.php_terminals.specs.Classify.{terminal}
use Rattle.php_grammar.specs.Accepts.{accepts, same_class}
use Rattle.php_shapes.specs.Names.{grouped_class, grouped_name, imported_class, imported_name, namespace_name}
use Rattle.php_shapes.specs.Namespaces.{grouped, grouped_as_class, grouped_of_kind, imported, imported_as_class, in_group, use_declaration}
use Rattle.php_shapes.specs.Notation.{Rule, word, ◌~◌, ◌|||◌, maybe, commas, commas_last, braces}
use Rattle.php_shapes.specs.Shapes.{Fits, IsNode, is_nothing, is_word, is_both, is_first, is_node, is_second}
use Rattle.tracked_changes.specs.Draft.{Draft, new_leaf}
use Rattle.syntax_rules.specs.Around.{Around, within}
use Rattle.syntax_rules.specs.HashComment.{hash_comment}
use Rattle.syntax_rules.specs.SplitName.{in_front, is_label, is_name}
use Rattle.rewritten_shapes.specs.Laws.{AreSpelled, begins_namespace, opens_name}
use Rattle.rewritten_shapes.specs.RefusedWords.{has_refused, in_use, in_uses, is_as, is_comma, is_of_code, is_renamed, is_root}
use Rattle.rewritten_shapes.proofs.Bilingual.{front_namespace, no_namespace, shown_terminal, spelled_front, spelled_rest}
use Rattle.rewritten_shapes.proofs.Calm.{calm_asked, calm_fresh, calm_shut}
use Rattle.rewritten_shapes.proofs.Kept.{AllGood, Good, Kept, good_front, good_rest, kept, kept_both, kept_first, kept_join, kept_second}
use Rattle.rewritten_shapes.proofs.OperatorWords.{op_kind}
use Rattle.rewritten_shapes.proofs.Same.{assemble, lines_fine}
use Rattle.rewritten_shapes.proofs.Shown.{begins_fresh, fresh_front, glued_fresh, is_fresh, names_whole, new_parts, new_tree, shown, shown_then, shut_front, whole_then}
use Rattle.rewritten_shapes.proofs.Sides.{apart_parts, are_apart, stay_apart, still_first, written_none}
use Rattle.rewritten_shapes.proofs.Tabled.{written}
use Rattle.rewritten_shapes.proofs.UsesItems.{Item, alone, class_item, comma_plain, either_item, kept_token, list_item, marked_item, named_item, renamed_item, word_steady}
use Rattle.rewritten_shapes.proofs.UsesNames.{grouped_names, imported_names}
use Rattle.rewritten_shapes.proofs.UsesTokens.{brace_code, const_code, false_flag, function_code, same_flag, use_code, use_step, uses_new}

-- ---- names in braces

root_by : (own : Terminal) → same_class t.Backslash own ≡ true → (is_comma own ≡ false) × (is_of_code own ≡ false)
root_by t.Backslash e = (refl, refl)
root_by _ e = absurd cc

brace_by : (own : Terminal) → same_class t.OpenBrace own ≡ true → (is_comma own ≡ false) × (is_of_code own ≡ false)
brace_by t.OpenBrace e = (refl, refl)
brace_by _ e = absurd cc

close_by : (own : Terminal) → same_class t.CloseBrace own ≡ true → (is_as own || is_root own) ≡ false
close_by t.CloseBrace e = refl
close_by _ e = absurd cc

semi_by : (own : Terminal) → same_class t.Semi own ≡ true → (is_as own || is_root own) ≡ false
semi_by t.Semi e = refl
semi_by _ e = absurd cc

-- `\` before a brace stays apart from the name before it
root_apart : (a : Bool → Option Around) (b : Bool) (g : Forest) (s o : Token) (h : Forest) → accepts V74 t.Backslash s ≡ true → accepts V74 t.OpenBrace o ≡ true
    → new_parts a b (g +++ leaf s (leaf o h)) ≡ new_parts a b g +++ leaf (kept_token s) (leaf (kept_token o) (new_parts a false h))
root_apart a b g s o h p q =
    let b2 = still_first b g in
    let tail = leaf s (leaf o h) in
    let inner = names_whole (written a false h) in
    let d : Draft = new_leaf (hash_comment o) inner in
    let eq : names_whole (written a b2 tail) ≡ new_leaf (hash_comment s) d =
    ap (in_front true (hash_comment s)) (shut_front (hash_comment o) inner (calm_shut o (calm_asked t.OpenBrace o refl q)))
    ∙ fresh_front (hash_comment s) d (calm_fresh o (calm_asked t.OpenBrace o refl q)) in
    let fresh : is_fresh (hash_comment s) ≡ true = ap (λ (sort : TokenKind). not (is_label sort || is_name sort)) (op_kind s.kind t.Backslash s.text refl p) in
    ap (λ (z : Draft). shown (names_whole z)) (written_none a b g tail)
    ∙ ap shown (whole_then (written a b g) (written a b2 tail) ∙ glued_fresh (written a b g) (names_whole (written a b2 tail)) (ap begins_fresh eq ∙ fresh))
    ∙ shown_then (names_whole (written a b g)) (names_whole (written a b2 tail))
    ∙ ap (λ (z : Draft). new_parts a b g +++ shown z) eq

comma_or_not : (f : Forest) → Fits V74 (maybe (word t.Comma)) f
    → (a : Bool → Option Around) (b : Bool) (rest : Forest) → is_renamed rest ≡ false
    → is_renamed (new_parts a b f +++ rest) ≡ false
comma_or_not _ (is_first is_nothing) a b rest q = q
comma_or_not _ (is_second (is_word {x} p)) a b rest q = comma_plain x p

-- the first token of a use is no `function` and no `const`
abbrev Named : Forest → Type 0
Named new = (z : Token) × (rest : Forest) × (new ≡ leaf z rest) × (is_of_code (terminal z) ≡ false)

group_kept : (u : Bool) (r r2 : Rule) → stay_apart (commas r) (maybe (word t.Comma)) ≡ true
    → stay_apart (commas_last r) (word t.CloseBrace) ≡ true → Item u u (commas r) (commas r2)
    → (f : Forest) → Fits V74 (in_group V74 r) f → AreSpelled f → begins_namespace f ≡ false → AllGood f → (a : Bool → Option Around) (b : Bool) (rest : Forest)
    → Named (new_parts a b f) × (in_use u u (new_parts a b f +++ rest) ≡ false → Kept (in_group V83 r2) f (new_parts a b f))
group_kept u r r2 e1 e2 items f (is_both {g = g1} nm (is_both (is_word {x = s} ps)
    (is_both {h = h3} (is_word {x = o} po) (is_both {g = g4} (is_both {g = g5} {h = h5} ls mb d5)
    (is_word {x = cl} pc) d4) d3) d2) d1) sp odd w a b rest =
    let tail = leaf s (leaf o h3) in
    let same0 : f ≡ g1 +++ tail = d1 ∙ ap (λ (v : Forest). g1 +++ v) (d2 ∙ ap (leaf s) d3) in
    let sp0 = subst AreSpelled same0 sp in
    let sp1 = (spelled_rest g1 tail sp0).1 in
    let i = imported_names g1 nm (spelled_front g1 tail sp0) (front_namespace g1 tail (ap begins_namespace (sym same0) ∙ odd)) a b in
    let s2 = kept_token s in
    let o2 = kept_token o in
    let c2 = kept_token cl in
    let n3 = new_parts a false h3 in
    let n4 = new_parts a false g4 in
    let n5 = new_parts a false g5 in
    let m5 = new_parts a (still_first false g5) h5 in
    let split : new_parts a b f ≡ leaf i.one (leaf s2 (leaf o2 n3)) = ap (new_parts a b) same0
    ∙ root_apart a b g1 s o h3 ps po ∙ ap (λ (v : Forest). v +++ leaf s2 (leaf o2 n3)) i.same in (
      (i.one, leaf s2 (leaf o2 n3), split, i.no_code),
      λ m.
          let st1 = use_step u u i.one (leaf s2 (leaf o2 (n3 +++ rest))) (ap (λ (v : Forest). in_use u u (v +++ rest)) (sym split) ∙ m) in
          let st2 = use_step u u s2 (leaf o2 (n3 +++ rest))
          (ap (λ (v : Bool). in_use u v (leaf s2 (leaf o2 (n3 +++ rest))))
          (sym (same_flag u u i.one i.no_comma i.no_code)) ∙ st1.2) in
          let root = root_by (terminal s) ps in
          let st3 = use_step u u o2 (n3 +++ rest)
          (ap (λ (v : Bool). in_use u v (leaf o2 (n3 +++ rest)))
          (sym (same_flag u u s2 (ap is_comma (shown_terminal s) ∙ root.0)
          (ap is_of_code (shown_terminal s) ∙ root.1))) ∙ st2.2) in
          let brace = brace_by (terminal o) po in
          let inner : in_use u u (n3 +++ rest) ≡ false = ap (λ (v : Bool). in_use u v (n3 +++ rest))
          (sym (same_flag u u o2 (ap is_comma (shown_terminal o) ∙ brace.0)
          (ap is_of_code (shown_terminal o) ∙ brace.1))) ∙ st3.2 in
          let list : Fits V74 (commas_last r) g4 = is_both ls mb d5 in
          let last : Fits V74 (word t.CloseBrace) (leaf cl none) = is_word pc in
          let same3 : n3 ≡ n4 +++ leaf c2 none = ap (new_parts a false) d4 ∙ apart_parts a false g4 (leaf cl none) (are_apart list last e2) in
          let same4 : n4 ≡ n5 +++ m5 = ap (new_parts a false) d5 ∙ apart_parts a false g5 h5 (are_apart ls mb e1) in
          let all : n3 +++ rest ≡ n5 +++ (m5 +++ leaf c2 rest) =
          ap (λ (v : Forest). v +++ rest) (same3 ∙ ap (λ (v : Forest). v +++ leaf c2 none) same4)
          ∙ forest_assoc (n5 +++ m5) (leaf c2 none) rest ∙ forest_assoc n5 m5 (leaf c2 rest) in
          let w3 : AllGood h3 = good_rest g1 tail (subst AllGood same0 w) in
          let w4 = good_front g4 (leaf cl none) (subst AllGood d4 w3) in
          let w5 = subst AllGood d5 w4 in
          let sp4 = spelled_front g4 (leaf cl none) (subst AreSpelled d4 sp1.1) in
          let odd5 = front_namespace g5 h5 (ap begins_namespace (sym d5)
          ∙ front_namespace g4 (leaf cl none)
          (ap begins_namespace (sym d4) ∙ no_namespace (opens_name o.kind o.text) (begins_namespace h3) sp1.0.1
          (brace_code o po))) in
          let plain : is_renamed (leaf c2 rest) ≡ false = ap (λ (own : Terminal). is_as own || is_root own) (shown_terminal cl) ∙ close_by (terminal cl) pc in
          let t1 = items g5 ls (spelled_front g5 h5 (subst AreSpelled d5 sp4)) odd5 (good_front g5 h5 w5) a false
          (m5 +++ leaf c2 rest) (comma_or_not h5 mb a (still_first false g5) (leaf c2 rest) plain)
          (ap (in_use u u) (sym all) ∙ inner) in
          let k4 = kept_join a false (commas r) (maybe (word t.Comma)) (commas r2) (maybe (word t.Comma)) g4 g5 h5 d5
          ls mb e1 t1.0 (kept mb refl (good_rest g5 h5 w5) a (still_first false g5)) in
          let k3 = kept_join a false (commas_last r) (word t.CloseBrace) (commas_last r2) (word t.CloseBrace) h3 g4
          (leaf cl none) d4 list last e2 k4 (word_steady t.CloseBrace cl refl pc) in
          let ko = kept_both (word t.OpenBrace) (commas_last r ~ word t.CloseBrace) (word t.OpenBrace)
          (commas_last r2 ~ word t.CloseBrace) (leaf o h3) (leaf o none) h3 (leaf o2 none) n3 refl
          (word_steady t.OpenBrace o refl po) k3 in
          let ks = kept_both (word t.Backslash) (braces (commas_last r)) (word t.Backslash) (braces (commas_last r2))
          tail (leaf s none) (leaf o h3) (leaf s2 none) (leaf o2 n3) refl (word_steady t.Backslash s refl ps) ko
          in
          subst (Kept (in_group V83 r2) f) (sym split)
          (kept_both (imported_name V74) (word t.Backslash ~ braces (commas_last r)) (word t.ImportedName)
          (word t.Backslash ~ braces (commas_last r2)) f g1 tail (leaf i.one none) (leaf s2 (leaf o2 n3)) same0
          (i.as_name st1.0) ks),
    )

-- ---- what a use lists

imported_item : (c : Bool) → Item false c (imported V74) (imported V83)
imported_item c = named_item false c (imported_name V74) t.ImportedName t.ImportedClass refl imported_names

grouped_item : (u c : Bool) → Item u c (grouped V74) (grouped V83)
grouped_item u c = named_item u c (namespace_name V74) t.GroupedName t.GroupedClass refl grouped_names

marked_items : (u c : Bool) → Item u c (word t.Function ~ grouped V74 ||| word t.Const ~ grouped V74) (word t.Function ~ grouped V83 ||| word t.Const ~ grouped V83)
marked_items u c =
    either_item u c (word t.Function ~ grouped V74) (word t.Const ~ grouped V74) (word t.Function ~ grouped V83) (word t.Const ~ grouped V83)
    (marked_item u c t.Function (grouped V74) (grouped V83) refl refl refl function_code (grouped_item u))
    (marked_item u c t.Const (grouped V74) (grouped V83) refl refl refl const_code (grouped_item u))

kind_item : (u c : Bool) → Item u c (grouped_of_kind V74) (grouped_of_kind V83)
kind_item u c =
    either_item u c (grouped V74) (word t.Function ~ grouped V74 ||| word t.Const ~ grouped V74) (grouped V83)
    (word t.Function ~ grouped V83 ||| word t.Const ~ grouped V83) (grouped_item u c) (marked_items u c)

abbrev alias_of_class : Rule
alias_of_class = word t.As ~ word t.ClassLabel

class_items : (u : Bool) → Item u true (imported_as_class V74) (imported_as_class V83)
class_items u =
    either_item u true (imported_class V74) (imported_name V74 ~ alias_of_class) (imported_class V83) (imported_name V83 ~ alias_of_class)
    (class_item u (imported_name V74) t.ImportedName t.ImportedClass imported_names)
    (renamed_item u (imported_name V74) t.ImportedName t.ImportedClass refl imported_names)

grouped_items : (u : Bool) → Item u true (grouped_as_class V74) (grouped_as_class V83)
grouped_items u =
    either_item u true (grouped_class V74) (grouped_name V74 ~ alias_of_class |||
    (word t.Function ~ grouped V74 ||| word t.Const ~ grouped V74)) (grouped_class V83)
    (grouped_name V83 ~ alias_of_class ||| (word t.Function ~ grouped V83 ||| word t.Const ~ grouped V83))
    (class_item u (namespace_name V74) t.GroupedName t.GroupedClass grouped_names)
    (either_item u true (grouped_name V74 ~ alias_of_class)
    (word t.Function ~ grouped V74 ||| word t.Const ~ grouped V74) (grouped_name V83 ~ alias_of_class)
    (word t.Function ~ grouped V83 ||| word t.Const ~ grouped V83)
    (renamed_item u (namespace_name V74) t.GroupedName t.GroupedClass refl grouped_names) (marked_items u true))

-- ---- uses

abbrev keyed : Version → Rule
keyed v = commas (imported v) ||| in_group v (grouped_of_kind v)

keyed_kept : (f : Forest) → Fits V74 (keyed V74) f → AreSpelled f → begins_namespace f ≡ false → AllGood f
    → (a : Bool → Option Around) (b : Bool) (rest : Forest) → is_renamed rest ≡ false
    → in_use false false (new_parts a b f +++ rest) ≡ false → Kept (keyed V83) f (new_parts a b f)
keyed_kept f (is_first x) s o w a b rest q m =
    kept_first (commas (imported V83)) (in_group V83 (grouped_of_kind V83)) f (new_parts a b f)
    (list_item false (imported V74) (imported V83) refl refl (imported_item false) f x s o w a b rest q m).0
keyed_kept f (is_second x) s o w a b rest q m =
    kept_second (commas (imported V83)) (in_group V83 (grouped_of_kind V83)) f (new_parts a b f)
    ((group_kept false (grouped_of_kind V74) (grouped_of_kind V83) refl refl
    (list_item false (grouped_of_kind V74) (grouped_of_kind V83) refl refl (kind_item false false)) f x s o w a b
    rest).1 m)

abbrev used : Version → Rule
used v = (word t.Function ||| word t.Const) ~ keyed v ||| (commas (imported_as_class v) ||| in_group v (grouped_as_class v))

used_names : (x z : Token) (new t rest : Forest) → new ≡ leaf z t → is_of_code (terminal z) ≡ false
    → in_uses (leaf x (new +++ rest)) ≡ false → in_use true true (new +++ rest) ≡ false
used_names x z new t rest e d m =
    ap (λ (v : Forest). in_use true true (v +++ rest)) e
    ∙ sym (ap (λ (q : Bool). in_use (if q then false else true) (if q then false else true) (leaf z (t +++ rest))) d)
    ∙ sym (ap (λ (v : Forest). in_uses (leaf x (v +++ rest))) e) ∙ m

-- the word of a use that says what its names are
keyed_by : (x z : Token) (f : Forest) → is_of_code (terminal z) ≡ true → in_uses (leaf x (leaf z f)) ≡ false → in_use false false f ≡ false
keyed_by x z f e m =
    let s = use_step false false z f (sym (ap (λ (q : Bool). in_use (if q then false else true) (if q then false else true) (leaf z f)) e) ∙ m) in
    ap (λ (q : Bool). in_use false q f) (sym (false_flag z)) ∙ s.2

function_by : (own : Terminal) → same_class t.Function own ≡ true → is_of_code own ≡ true
function_by t.Function e = refl
function_by _ e = absurd cc

const_by : (own : Terminal) → same_class t.Const own ≡ true → is_of_code own ≡ true
const_by t.Const e = refl
const_by _ e = absurd cc

imported_first : (f : Forest) → Fits V74 (imported_as_class V74) f → AreSpelled f → begins_namespace f ≡ false → (a : Bool → Option Around) (b : Bool) → Named (new_parts a b f)
imported_first f (is_first x) s o a b =
    let i = imported_names f x s o a b in
    (i.one, none, i.same, i.no_code)
imported_first f (is_second (is_both {g} {h} x y d)) s o a b =
    let i = imported_names g x (spelled_front g h (subst AreSpelled d s)) (front_namespace g h (ap begins_namespace (sym d) ∙ o)) a b in
    let h2 = new_parts a (still_first b g) h in
    (i.one, h2, ap (new_parts a b) d ∙ apart_parts a b g h (are_apart x y refl) ∙ ap (λ (z : Forest). z +++ h2) i.same, i.no_code)

classes_first : (f : Forest) → Fits V74 (commas (imported_as_class V74)) f → AreSpelled f → begins_namespace f ≡ false
    → (a : Bool → Option Around) (b : Bool) → Named (new_parts a b f)
classes_first f (is_both {g} {h} x y d) s o a b =
    let i = imported_first g x (spelled_front g h (subst AreSpelled d s)) (front_namespace g h (ap begins_namespace (sym d) ∙ o)) a b in
    let h2 = new_parts a (still_first b g) h in
    (i.0, i.1 +++ h2, ap (new_parts a b) d ∙ apart_parts a b g h (are_apart x y refl) ∙ ap (λ (z : Forest). z +++ h2) i.2, i.3)

used_kept : (x : Token) (f : Forest) → Fits V74 (used V74) f → AreSpelled f → begins_namespace f ≡ false → AllGood f
    → (a : Bool → Option Around) (b : Bool) (rest : Forest) → is_renamed rest ≡ false
    → in_uses (leaf x (new_parts a b f +++ rest)) ≡ false → Kept (used V83) f (new_parts a b f)
used_kept x f (is_first (is_both {h} (is_first (is_word {x = z} p)) y d)) s o w a b rest q m =
    let sp = subst AreSpelled d s in
    let same : new_parts a b f ≡ leaf (kept_token z) (new_parts a false h) = ap (new_parts a b) d ∙ alone a b t.Function z h refl p in
    let n = keyed_by x (kept_token z) (new_parts a false h +++ rest)
    (ap is_of_code (shown_terminal z) ∙ function_by (terminal z) p)
    (ap (λ (v : Forest). in_uses (leaf x (v +++ rest))) (sym same) ∙ m) in
    let inner = keyed_kept h y sp.1 (no_namespace (opens_name z.kind z.text) (begins_namespace h) sp.0.1 (function_code z p)) (subst AllGood d w) a false rest q n in
    kept_first ((word t.Function ||| word t.Const) ~ keyed V83) (commas (imported_as_class V83) ||| in_group V83 (grouped_as_class V83)) f (new_parts a b f)
    (kept_join a b (word t.Function ||| word t.Const) (keyed V74) (word t.Function ||| word t.Const) (keyed V83) f (leaf z none) h d (is_first (is_word p)) y refl
    (kept_first (word t.Function) (word t.Const) (leaf z none) (leaf (kept_token z) none) (word_steady t.Function z refl p)) inner)
used_kept x f (is_first (is_both {h} (is_second (is_word {x = z} p)) y d)) s o w a b rest q m =
    let sp = subst AreSpelled d s in
    let same : new_parts a b f ≡ leaf (kept_token z) (new_parts a false h) = ap (new_parts a b) d ∙ alone a b t.Const z h refl p in
    let n = keyed_by x (kept_token z) (new_parts a false h +++ rest)
    (ap is_of_code (shown_terminal z) ∙ const_by (terminal z) p)
    (ap (λ (v : Forest). in_uses (leaf x (v +++ rest))) (sym same) ∙ m) in
    let inner = keyed_kept h y sp.1 (no_namespace (opens_name z.kind z.text) (begins_namespace h) sp.0.1 (const_code z p)) (subst AllGood d w) a false rest q n in
    kept_first ((word t.Function ||| word t.Const) ~ keyed V83) (commas (imported_as_class V83) ||| in_group V83 (grouped_as_class V83)) f (new_parts a b f)
    (kept_join a b (word t.Function ||| word t.Const) (keyed V74) (word t.Function ||| word t.Const) (keyed V83) f (leaf z none) h d (is_second (is_word p)) y refl
    (kept_second (word t.Function) (word t.Const) (leaf z none) (leaf (kept_token z) none) (word_steady t.Const z refl p)) inner)
used_kept x f (is_second (is_first y)) s o w a b rest q m =
    let i = classes_first f y s o a b in
    let n = used_names x i.0 (new_parts a b f) i.1 rest i.2 i.3 m in
    let made = (list_item true (imported_as_class V74) (imported_as_class V83) refl refl (class_items true) f y s o w a b rest q n).0 in
    kept_second ((word t.Function ||| word t.Const) ~ keyed V83) (commas (imported_as_class V83) ||| in_group V83 (grouped_as_class V83)) f (new_parts a b f)
    (kept_first (commas (imported_as_class V83)) (in_group V83 (grouped_as_class V83)) f (new_parts a b f) made)
used_kept x f (is_second (is_second y)) s o w a b rest q m =
    let items = list_item true (grouped_as_class V74) (grouped_as_class V83) refl refl (grouped_items true) in
    let made = group_kept true (grouped_as_class V74) (grouped_as_class V83) refl refl items f y s o w a b rest in
    let n = used_names x made.0.0 (new_parts a b f) made.0.1 rest made.0.2 made.0.3 m in
    kept_second ((word t.Function ||| word t.Const) ~ keyed V83) (commas (imported_as_class V83) ||| in_group V83 (grouped_as_class V83)) f (new_parts a b f)
    (kept_second (commas (imported_as_class V83)) (in_group V83 (grouped_as_class V83)) f (new_parts a b f) (made.1 n))

use_kept : (c : Forest) → Fits V74 (use_declaration V74) c → AreSpelled c → AllGood c
    → (a : Bool → Option Around) (b : Bool) → in_uses (new_parts a b c) ≡ false
    → Kept (use_declaration V83) c (new_parts a b c)
use_kept c (is_both {h = i} (is_word {x} p) (is_both {g} y (is_word {x = z} v) e) d) s w a b m =
    let x2 = kept_token x in
    let z2 = kept_token z in
    let sp = subst AreSpelled d s in
    let w1 = good_front g (leaf z none) (subst AllGood e (subst AllGood d w)) in
    let sp1 = spelled_front g (leaf z none) (subst AreSpelled e sp.1) in
    let odd = front_namespace g (leaf z none) (ap begins_namespace (sym e) ∙ no_namespace (opens_name x.kind x.text) (begins_namespace i) sp.0.1 (use_code x p)) in
    let body : Fits V74 (used V74 ~ word t.Semi) i = is_both y (is_word v) e in
    let tail : new_parts a false i ≡ new_parts a false g +++ leaf z2 none = ap (new_parts a false) e
    ∙ apart_parts a false g (leaf z none) (are_apart y (is_word {c = t.Semi} {x = z} v) refl) in
    let same : new_parts a b c ≡ leaf x2 (new_parts a false g +++ leaf z2 none) = ap (new_parts a b) d ∙ alone a b t.Use x i refl p ∙ ap (leaf x2) tail in
    let plain : is_renamed (leaf z2 none) ≡ false = ap (λ (own : Terminal). is_as own || is_root own) (shown_terminal z) ∙ semi_by (terminal z) v in
    let made = used_kept x2 g y sp1 odd w1 a false (leaf z2 none) plain (ap in_uses (sym same) ∙ m) in
    kept_join a b (word t.Use) (used V74 ~ word t.Semi) (word t.Use) (used V83 ~ word t.Semi) c (leaf x none) i d (is_word p) body refl (word_steady t.Use x refl p)
    (kept_join a false (used V74) (word t.Semi) (used V83) (word t.Semi) i g (leaf z none) e y (is_word v) refl made (word_steady t.Semi z refl v))

pub good_use : (a : Option Around) (c : Forest) → AreSpelled c → has_refused k.Use c ≡ false → AllGood c → IsNode V74 k.Use c → Good k.Use c (new_tree a k.Use c)
good_use a c s h w (is_node x near fine) =
    let b = new_parts (within k.Use c) true c in
    assemble a k.Use c refl refl (use_kept c x s w (within k.Use c) true (sym (uses_new (within k.Use c) true c) ∙ h)) near (lines_fine k.Use b refl)
