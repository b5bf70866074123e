-- In a tree with the shape of the grammar brackets stand in pairs and quoted texts are whole.
use Rattle.std.proofs.Common.{◌≡◌, Bool, true, false, not, ◌&&◌, ◌||◌, if◌then◌else◌, [], refl, sym, ap, ◌∙◌, subst}
use Rattle.std.proofs.lemmas.Bool.{and_from}
use Rattle.php_tree.specs.declared.kind.NodeKind.{NodeKind}
use Rattle.php_tree.specs.declared.kind.NodeKind.TheVariants as k
use Rattle.php_tree.specs.declared.token.Token.{Token}
use Rattle.php_tree.specs.declared.version.Version.TheVariants.{V74}
use Rattle.php_tree.specs.Tree.{Forest, none, leaf, node, leaves, ◌+++◌}
use Rattle.php_terminals.specs.declared.terminal.Terminal.{Terminal}
use Rattle.php_terminals.specs.declared.terminal.Terminal.TheVariants as t
use Rattle.php_grammar.specs.Accepts.{accepts}
use Rattle.php_shapes.specs.Declarations.{trait_use}
use Rattle.php_shapes.specs.Forms.{form}
use Rattle.php_shapes.specs.Names.{names}
use Rattle.php_shapes.specs.Notation.{Rule, nothing, word, place, inside, ◌~◌, ◌|||◌, many, tokens}
use Rattle.php_shapes.specs.Notation as rule
use Rattle.php_shapes.specs.Places.{is_expression}
use Rattle.php_shapes.specs.Quoted.{interpolated, quoted_part, simple_key}
use Rattle.php_shapes.specs.Shapes.{Fits, is_nothing, is_word, is_kind, is_place, is_inside, is_both, is_first, is_second, no_more, once_more, is_tokens, IsNode, is_node}
use Rattle.syntax_rules.specs.DotPrecedence.{is_binary}
use Rattle.syntax_rules.specs.SplitName.{is_label}
use Rattle.rewritten_shapes.proofs.NameParts.{label_token}
use Rattle.rewritten_shapes.specs.paired.Laws.{ShapedFilesArePaired}
use Rattle.rewritten_shapes.specs.paired.Paired as pairs
use Rattle.rewritten_shapes.specs.paired.Paired.{IsKey, IsSimple, IsStanding, Interpolated, Paired, is_common, is_ternary, may_be_grouped}
use Rattle.rewritten_shapes.specs.paired.Tokens.{IsMark, begins_inside, ends_inside, is_code_token, is_mark}
use Rattle.rewritten_shapes.specs.paired.Traits.{PlainTraits, are_plain, has_plain_rules, is_plain}
use Rattle.rewritten_shapes.proofs.paired.Asked.{asks, both_left, both_right}
use Rattle.rewritten_shapes.proofs.paired.CodeTokens.{code_taken, is_brace, is_inner, no_brace, outer}
use Rattle.rewritten_shapes.proofs.paired.Edges.{edges, expression_begins, expression_ends, fit_begins, fit_ends, starts, stops}
use Rattle.rewritten_shapes.proofs.paired.Fronts.{
  Closing,
  Front,
  brace,
  closed,
  closes,
  either,
  front_closed,
  front_first,
  front_node,
  front_opened,
  front_second,
  front_token,
  join_assoc,
  join_none,
  opened,
  round,
  same_closing,
  same_front,
  unknown,
}
use Rattle.rewritten_shapes.proofs.paired.Marks as told
use Rattle.rewritten_shapes.proofs.paired.Stops.{grouped_stops}

-- ---- rules

-- what closes in a token of a class and what follows it
abbrev word_front : Terminal → Closing → Closing
word_front t.OpenParen s = opened round s
word_front t.CloseParen s = closed round s
word_front t.OpenBrace s = opened brace s
word_front t.CloseBrace s = closed brace s
word_front c s = if asks is_inner c then s else unknown

fits_word : (c : Terminal) (x : Token) (s : Closing) (h : Forest) → accepts V74 c x ≡ true → Front s h → Front (word_front c s) (leaf x h)
fits_word t.OpenParen x s h e o = front_opened round s x h (told.open_paren x e) o
fits_word t.CloseParen x s h e o = front_closed round s x h (told.close_paren x e) o
fits_word t.OpenBrace x s h e o = front_opened brace s x h (told.open_brace x e) o
fits_word t.CloseBrace x s h e o = front_closed brace s x h (told.close_brace x e) o
fits_word c x s h e o = go (asks is_inner c) refl
  where
    go : (b : Bool) → asks is_inner c ≡ b → Front (if b then s else unknown) (leaf x h)
    go true d = front_token s x h (code_taken c x d e) o
    go false d = tt

-- whether a node of a kind with parts of its own may be put in parentheses
abbrev is_groupable : NodeKind → Bool
is_groupable j = is_ternary j || is_binary j

-- whether nothing closes in parts by themselves
abbrev is_whole : Closing → Bool
is_whole s = same_closing (closes []) s

-- whether a node of a kind with parts of its own is paired
abbrev is_fine : NodeKind → Rule → Closing → Bool
is_fine j r s =
    is_common j && (not (is_groupable j) && (is_whole s && (not (is_expression j) || (starts false r && stops false r))))

-- what closes in the parts of a rule and what follows them
abbrev behind : Rule → Closing → Closing
behind nothing s = s
behind (word c) s = word_front c s
behind (rule.kind j) s = s
behind (place p) s = s
behind (inside j r) s = if is_fine j r (behind r (closes [])) then s else unknown
behind (r ~ q) s = behind r (behind q s)
behind (r ||| q) s = either (behind r s) (behind q s)
behind (many r) s = if same_closing s (behind r s) then s else unknown
behind tokens s = unknown

abbrev is_special : NodeKind → Bool
is_special k.Quoted = true
is_special k.BraceOffset = true
is_special k.Cast = true
is_special k.TraitUse = true
is_special _ = false

form_is_whole : (j : NodeKind) → is_special j ≡ false → is_whole (behind (form V74 j) (closes [])) ≡ true
unfolding edges outer
form_is_whole k.Block e = refl
form_is_whole k.Empty e = refl
form_is_whole k.ExprStmt e = refl
form_is_whole k.Echo e = refl
form_is_whole k.Html e = refl
form_is_whole k.Return e = refl
form_is_whole k.If e = refl
form_is_whole k.IfAlt e = refl
form_is_whole k.While e = refl
form_is_whole k.DoWhile e = refl
form_is_whole k.For e = refl
form_is_whole k.Foreach e = refl
form_is_whole k.Switch e = refl
form_is_whole k.Case e = refl
form_is_whole k.Break e = refl
form_is_whole k.Continue e = refl
form_is_whole k.Global e = refl
form_is_whole k.Statics e = refl
form_is_whole k.Unset e = refl
form_is_whole k.Throw e = refl
form_is_whole k.Try e = refl
form_is_whole k.Function e = refl
form_is_whole k.Param e = refl
form_is_whole k.TypeName e = refl
form_is_whole k.Class e = refl
form_is_whole k.Interface e = refl
form_is_whole k.Trait e = refl
form_is_whole k.Property e = refl
form_is_whole k.ClassConst e = refl
form_is_whole k.Method e = refl
form_is_whole k.Const e = refl
form_is_whole k.Namespace e = refl
form_is_whole k.Use e = refl
form_is_whole k.Declare e = refl
form_is_whole k.Goto e = refl
form_is_whole k.LabelStmt e = refl
form_is_whole k.Variable e = refl
form_is_whole k.Number e = refl
form_is_whole k.Float e = refl
form_is_whole k.Text e = refl
form_is_whole k.Constant e = refl
form_is_whole k.ClassConstant e = refl
form_is_whole k.Array e = refl
form_is_whole k.Item e = refl
form_is_whole k.List e = refl
form_is_whole k.Paren e = refl
form_is_whole k.Offset e = refl
form_is_whole k.Prop e = refl
form_is_whole k.StaticProp e = refl
form_is_whole k.Call e = refl
form_is_whole k.MethodCall e = refl
form_is_whole k.StaticCall e = refl
form_is_whole k.Args e = refl
form_is_whole k.New e = refl
form_is_whole k.Isset e = refl
form_is_whole k.EmptyTest e = refl
form_is_whole k.Exit e = refl
form_is_whole k.Closure e = refl
form_is_whole k.Arrow e = refl
form_is_whole k.Include e = refl
form_is_whole k.EvalTest e = refl
form_is_whole k.Binary e = refl
form_is_whole k.Prefix e = refl
form_is_whole k.Postfix e = refl
form_is_whole k.Ternary e = refl
form_is_whole k.ShortTernary e = refl
form_is_whole k.Assign e = refl
form_is_whole k.AssignRef e = refl
form_is_whole k.CompoundAssign e = refl
form_is_whole k.InstanceOf e = refl
form_is_whole k.Print e = refl
form_is_whole k.Yield e = refl
form_is_whole _ e = absurd cc

special_not : (j : NodeKind) → is_special j ≡ false → is_common j ≡ true
special_not k.Quoted e = absurd cc
special_not k.BraceOffset e = absurd cc
special_not k.Cast e = absurd cc
special_not _ e = refl

-- ---- nodes

whole_pairs : (s : Closing) (c : Forest) → is_whole s ≡ true → Front s (c +++ none) → Paired c
whole_pairs (closes []) c e o = subst Paired (join_none c) o
whole_pairs _ c e o = absurd cc

-- a node with the form of its kind
common_node : (j : NodeKind) (c f : Forest) → is_special j ≡ false → Fits V74 (form V74 j) c → Front (behind (form V74 j) (closes [])) (c +++ none) → Paired f → Paired (node j c f)
common_node j c f e p o q =
    pairs.part (special_not j e)
    (record { begins = expression_begins j p; ends = expression_ends j p; stops = grouped_stops j c p })
    (whole_pairs (behind (form V74 j) (closes [])) c (form_is_whole j e) o) q

ungrouped : (j : NodeKind) (c : Forest) → not (is_groupable j) ≡ true → may_be_grouped (j, c) ≡ true → ⊥
ungrouped k.Ternary c e d = cc
ungrouped k.ShortTernary c e d = cc
ungrouped k.Binary c e d = cc
ungrouped _ c e d = cc

by_implied : (P : Type 0) (a b : Bool) → (b ≡ true → P) → (not a || b) ≡ true → a ≡ true → P
by_implied P true b f e d = f e
by_implied P false b f e d = absurd cc

-- a node with parts of its own
fine_node : (j : NodeKind) (r : Rule) (c f : Forest) → is_fine j r (behind r (closes [])) ≡ true → Fits V74 r c
    → Front (behind r (closes [])) (c +++ none) → Paired f → Paired (node j c f)
fine_node j r c f e p o q =
    let e1 = both_right (is_common j) _ e in
    let e2 = both_right (not (is_groupable j)) _ e1 in
    let e3 = both_right (is_whole (behind r (closes []))) (not (is_expression j) || (starts false r && stops false r)) e2 in
    pairs.part (both_left (is_common j) _ e)
    (record {
      begins = by_implied (begins_inside (leaves c) ≡ true) (is_expression j) (starts false r && stops false r)
          (λ d. fit_begins p (both_left (starts false r) (stops false r) d)) e3;
      ends = by_implied (ends_inside (leaves c) ≡ true) (is_expression j) (starts false r && stops false r) (λ d. fit_ends p (both_right (starts false r) (stops false r) d)) e3;
      stops = λ d. absurd (ungrouped j c (both_left (not (is_groupable j)) _ e1) d);
    })
    (whole_pairs (behind r (closes [])) c (both_left (is_whole (behind r (closes []))) _ e2) o) q

-- ---- uses of traits

pub plain_front : (f g : Forest) → PlainTraits (f +++ g) → PlainTraits f
plain_front none g w = tt
plain_front (leaf x f) g w = plain_front f g w
plain_front (node j c f) g w = (w.0, w.1, plain_front f g w.2)

pub plain_rest : (f g : Forest) → PlainTraits (f +++ g) → PlainTraits g
plain_rest none g w = w
plain_rest (leaf x f) g w = plain_rest f g w
plain_rest (node j c f) g w = plain_rest f g w.2

-- tokens in front of `}`
plain_paired : (f : Forest) (u : Token) → are_plain (f +++ leaf u none) ≡ true → Paired f
plain_paired none u e = pairs.no_part
plain_paired (leaf x none) u e =
    pairs.token (both_left (is_code_token x) _ (both_left (is_plain x) _ e)) pairs.no_part
plain_paired (leaf x (leaf y f)) u e =
    pairs.token (both_left (is_code_token x) _ (both_left (is_plain x) _ e))
    (plain_paired (leaf y f) u (both_right (not (is_mark 92 x) || is_label y.kind) _
    (both_right (is_plain x) _ e)))
plain_paired (leaf x (node j c f)) u e = absurd cc
plain_paired (node j c f) u e = absurd cc

-- whether parts are tokens of code alone
abbrev are_code : Forest → Bool
are_code none = true
are_code (leaf x f) = is_code_token x && are_code f
are_code (node j c f) = false

code_join : (f g : Forest) → are_code f ≡ true → are_code g ≡ true → are_code (f +++ g) ≡ true
code_join none g d e = e
code_join (leaf x f) g d e =
    and_from (is_code_token x) (are_code (f +++ g)) (both_left (is_code_token x) (are_code f) d) (code_join f g (both_right (is_code_token x) (are_code f) d) e)
code_join (node j c f) g d e = absurd cc

-- whether a rule has only such tokens
abbrev is_of_code : Rule → Bool
is_of_code nothing = true
is_of_code (word c) = asks is_inner c
is_of_code (rule.kind j) = false
is_of_code (place p) = false
is_of_code (inside j r) = false
is_of_code (r ~ q) = is_of_code r && is_of_code q
is_of_code (r ||| q) = is_of_code r && is_of_code q
is_of_code (many r) = is_of_code r
is_of_code tokens = false

fits_code : {r : Rule} {f : Forest} → is_of_code r ≡ true → Fits V74 r f → are_code f ≡ true
fits_code h is_nothing = refl
fits_code h (is_word {c} {x} p) = and_from (is_code_token x) true (code_taken c x h p) refl
fits_code h (is_kind n) = absurd cc
fits_code h (is_place m n) = absurd cc
fits_code h (is_inside p near) = absurd cc
fits_code h (is_both {r} {s = q} {f} {g} {h = i} a b e) =
    ap are_code e ∙ code_join g i (fits_code (both_left (is_of_code r) (is_of_code q) h) a) (fits_code (both_right (is_of_code r) (is_of_code q) h) b)
fits_code h (is_first {r} {s = q} a) = fits_code (both_left (is_of_code r) (is_of_code q) h) a
fits_code h (is_second {r} {s = q} a) = fits_code (both_right (is_of_code r) (is_of_code q) h) a
fits_code h no_more = refl
fits_code h (once_more {r} {f} {g} {h = i} a b e) = ap are_code e ∙ code_join g i (fits_code h a) (fits_code h b)
fits_code h (is_tokens b) = absurd cc

code_paired : (f g : Forest) → are_code f ≡ true → Paired g → Paired (f +++ g)
code_paired none g e q = q
code_paired (leaf x f) g e q =
    pairs.token (both_left (is_code_token x) (are_code f) e) (code_paired f g (both_right (is_code_token x) (are_code f) e) q)
code_paired (node j c f) g e q = absurd cc

by_no : (a b c : Bool) → a ≡ false → ((a && b) || (not a && c)) ≡ c
by_no true b c e = cc
by_no false b c e = refl

by_yes : (a b c : Bool) → a ≡ true → ((a && b) || (not a && c)) ≡ true → b ≡ true
by_yes true true c e h = refl
by_yes true false c e h = cc
by_yes false b c e h = cc

past_code : (f g : Forest) → are_code f ≡ true → has_plain_rules (f +++ g) ≡ has_plain_rules g
past_code none g e = refl
past_code (leaf x f) g e =
    by_no (is_mark 123 x) (are_plain (f +++ g)) (has_plain_rules (f +++ g)) (no_brace x (both_left (is_code_token x) (are_code f) e))
    ∙ past_code f g (both_right (is_code_token x) (are_code f) e)
past_code (node j c f) g e = absurd cc

-- behind `use` and names
pub past_names : (x : Token) (g h : Forest) → accepts V74 t.Use x ≡ true → Fits V74 (names V74) g → has_plain_rules (leaf x (g +++ h)) ≡ has_plain_rules h
unfolding outer
past_names x g h p q =
    past_code (leaf x none) (g +++ h) (and_from (is_code_token x) true (code_taken t.Use x refl p) refl)
    ∙ past_code g h (fits_code {r = names V74} refl q)

rules_paired : (h : Forest) → Fits V74 (word t.Semi ||| (word t.OpenBrace ~ tokens ~ word t.CloseBrace)) h → has_plain_rules h ≡ true → Paired h
unfolding outer
rules_paired h (is_first (is_word {x} p)) w = pairs.token (code_taken t.Semi x refl p) pairs.no_part
rules_paired h (is_second (is_both (is_word {x} p) (is_both {f = r} {g} (is_tokens b) (is_word {x = u} q) e) d)) w =
    let same : h ≡ leaf x (g +++ leaf u none) = d ∙ ap (leaf x) e in
    let a = told.open_brace x p in
    let plain : are_plain (g +++ leaf u none) ≡ true =
    by_yes (is_mark 123 x) (are_plain (g +++ leaf u none)) (has_plain_rules (g +++ leaf u none)) (is_brace x a) (ap has_plain_rules (sym same) ∙ w) in
    subst Paired (sym same) (pairs.braces a (plain_paired g u plain) (told.close_brace u q) pairs.no_part refl)

trait_paired : (c : Forest) → Fits V74 (trait_use V74) c → has_plain_rules c ≡ true → Paired c
unfolding outer
trait_paired c (is_both {h = f} (is_word {x} p) (is_both {g} {h} q r e) d) w =
    let same : c ≡ leaf x none +++ (g +++ h) = d ∙ ap (leaf x) e in
    let use_code : are_code (leaf x none) ≡ true = and_from (is_code_token x) true (code_taken t.Use x refl p) refl in
    let name_code : are_code g ≡ true = fits_code {r = names V74} refl q in
    let plain : has_plain_rules h ≡ true =
    sym (past_code g h name_code) ∙ sym (past_code (leaf x none) (g +++ h) use_code) ∙ ap has_plain_rules (sym same) ∙ w in
    subst Paired (sym same) (code_paired (leaf x none) (g +++ h) use_code (code_paired g h name_code (rules_paired h r plain)))

-- ---- simple variables of quoted texts

key_is : {f : Forest} → Fits V74 simple_key f → (u : Token) → IsMark 93 u → IsKey (f +++ leaf u none)
key_is (is_first (is_word {x} p)) u m = pairs.label (label_token x p) m
key_is (is_second (is_first (is_word {x} p))) u m = pairs.number (told.number x p) m
key_is (is_second (is_second (is_first (is_both (is_word {x = s} a) (is_word {x} p) e)))) u m =
    subst (λ (f : Forest). IsKey (f +++ leaf u none)) (sym e) (pairs.negative (told.minus s a) (told.number x p) m)
key_is (is_second (is_second (is_second (is_inside (is_word {x} p) near)))) u m = pairs.variable (told.variable x p) m

simple_part : {f : Forest} → Fits V74 interpolated f → (h : Forest) → Interpolated h → Interpolated (f +++ h)
simple_part (is_first (is_inside (is_word {x} p) near)) h o = pairs.simple (pairs.alone (told.variable x p)) o
simple_part (is_second (is_first (is_inside {c} (is_both (is_inside (is_word {x} p) m) (is_both (is_word {x = b} q) (is_both {g} r (is_word {x = u} w) d3) d2) d1) near))) h o =
    let same : c ≡ node k.Variable (leaf x none) (leaf b (g +++ leaf u none)) = d1 ∙ ap (node k.Variable (leaf x none)) (d2 ∙ ap (leaf b) d3) in
    pairs.simple (subst (IsSimple k.Offset) (sym same) (pairs.with_offset (told.variable x p) (told.open_bracket b q) (key_is r u (told.close_bracket u w)))) o
simple_part (is_second (is_second (is_inside {c} (is_both (is_inside (is_word {x} p) m) (is_both (is_word {x = b} q) (is_word {x = u} w) d2) d1) near))) h o =
    let same : c ≡ node k.Variable (leaf x none) (leaf b (leaf u none)) = d1 ∙ ap (node k.Variable (leaf x none)) d2 in
    pairs.simple (subst (IsSimple k.Prop) (sym same) (pairs.with_property (told.variable x p) (told.arrow b q) (told.arrow_text b q) (label_token u w))) o

-- ---- steps

inside_front : (j : NodeKind) (r : Rule) (c : Forest) (s : Closing) (h : Forest) → Fits V74 r c
    → Front (behind r (closes [])) (c +++ none) → Front s h → (b : Bool) → is_fine j r (behind r (closes [])) ≡ b
    → Front (if b then s else unknown) (node j c h)
inside_front j r c s h p i o true e = front_node s j c h (λ g q. fine_node j r c g e p i q) o
inside_front j r c s h p i o false e = tt

stays_front : (s u : Closing) (h : Forest) → Front s h → Front (if same_closing s u then s else unknown) h
stays_front s u h o = go (same_closing s u)
  where
    go : (b : Bool) → Front (if b then s else unknown) h
    go true = o
    go false = tt

again_front : (s u : Closing) (f g : Forest) → Front (if same_closing s u then s else unknown) f → (Front s f → Front u g) → Front (if same_closing s u then s else unknown) g
again_front s u f g o n = go (same_closing s u) refl o
  where
    go : (b : Bool) → same_closing s u ≡ b → Front (if b then s else unknown) f → Front (if b then s else unknown) g
    go true e q = same_front s u g e (n q)
    go false e q = tt

trait_node : (c f : Forest) → Paired c → Paired f → Paired (node k.TraitUse c f)
trait_node c f p q = pairs.part refl (record { begins = λ e. absurd cc; ends = λ e. absurd cc; stops = λ e. absurd cc }) p q

-- ---- trees

mutual
  fronts : {r : Rule} {f : Forest} → Fits V74 r f → PlainTraits f → (s : Closing) (h : Forest) → Front s h → Front (behind r s) (f +++ h)
  fronts is_nothing w s h o = o
  fronts (is_word {c} {x} p) w s h o = fits_word c x s h p o
  fronts (is_kind {k = j} {c} n) w s h o = front_node s j c h (node_paired n w) o
  fronts (is_place {k = j} {c} m n) w s h o = front_node s j c h (node_paired n w) o
  fronts (is_inside {k = j} {r} {c} p near) w s h o =
      inside_front j r c s h p (fronts p w.1 (closes []) none pairs.no_part) o (is_fine j r (behind r (closes []))) refl
  fronts (is_both {r} {s = q} {f} {g} {h = i} a b e) w s h o =
      let parts = subst PlainTraits e w in
      subst (Front (behind r (behind q s))) (sym (join_assoc g i h) ∙ ap (λ (x : Forest). x +++ h) (sym e))
      (fronts a (plain_front g i parts) (behind q s) (i +++ h) (fronts b (plain_rest g i parts) s h o))
  fronts (is_first {r} {s = q} {f} a) w s h o = front_first (behind r s) (behind q s) (f +++ h) (fronts a w s h o)
  fronts (is_second {r} {s = q} {f} a) w s h o = front_second (behind r s) (behind q s) (f +++ h) (fronts a w s h o)
  fronts (no_more {r}) w s h o = stays_front s (behind r s) h o
  fronts (once_more {r} {f} {g} {h = i} a b e) w s h o =
      let parts = subst PlainTraits e w in
      subst (Front (behind (many r) s)) (sym (join_assoc g i h) ∙ ap (λ (x : Forest). x +++ h) (sym e))
      (again_front s (behind r s) (i +++ h) (g +++ (i +++ h)) (fronts b (plain_rest g i parts) s h o) (fronts a (plain_front g i parts) s (i +++ h)))
  fronts (is_tokens b) w s h o = tt

  pieces : {f : Forest} → Fits V74 (many quoted_part) f → PlainTraits f → (h : Forest) → Interpolated h → Interpolated (f +++ h)
  pieces no_more w h o = o
  pieces (once_more {f} {g} {h = i} a b e) w h o =
      let parts = subst PlainTraits e w in
      subst Interpolated (sym (join_assoc g i h) ∙ ap (λ (x : Forest). x +++ h) (sym e))
      (piece_part a (plain_front g i parts) (i +++ h) (pieces b (plain_rest g i parts) h o))

  piece_part : {f : Forest} → Fits V74 quoted_part f → PlainTraits f → (h : Forest) → Interpolated h → Interpolated (f +++ h)
  piece_part (is_first (is_word {x} p)) w h o = pairs.piece (told.piece x p) o
  piece_part (is_second (is_first v)) w h o = simple_part v h o
  piece_part (is_second (is_second (is_first (is_both {f} (is_word {x} p) (is_both (is_place {k = j} {c} m n) (is_word {x = y} q) e) d)))) w h o =
      let same : f ≡ leaf x (node j c (leaf y none)) = d ∙ ap (leaf x) e in
      let parts = subst PlainTraits same w in
      subst (λ (g : Forest). Interpolated (g +++ h)) (sym same)
      (pairs.curly (told.curly x p) (node_paired n (parts.0, parts.1, tt) none pairs.no_part) (told.close_brace y q) o)
  piece_part (is_second (is_second (is_second (is_first (is_both {f} (is_word {x} p)
      (is_both (is_word {x = n} m) (is_both {h = i} (is_first is_nothing) (is_word {x = y} q) a) b) d))))) w h o =
      let same : f ≡ leaf x (leaf n (leaf y none)) = d ∙ ap (leaf x) b ∙ ap (λ (g : Forest). leaf x (leaf n g)) a in
      subst (λ (g : Forest). Interpolated (g +++ h)) (sym same) (pairs.named (told.dollar x p) (told.var_name n m) (told.close_brace y q) o)
  piece_part (is_second (is_second (is_second (is_first (is_both {f} (is_word {x} p)
      (is_both (is_word {x = n} m) (is_both {h = i} (is_second
      (is_both (is_word {x = b} u) (is_both (is_place {k = j} {c} v z) (is_word {x = s} l) ea) eb))
      (is_word {x = y} q) a) e) d))))) w h o =
      let same : f ≡ leaf x (leaf n (leaf b (node j c (leaf s (leaf y none))))) =
      d ∙ ap (leaf x) e ∙ ap (λ (g : Forest). leaf x (leaf n g)) a
      ∙ ap (λ (g : Forest). leaf x (leaf n (g +++ leaf y none))) eb
      ∙ ap (λ (g : Forest). leaf x (leaf n (leaf b (g +++ leaf y none)))) ea in
      let parts = subst PlainTraits same w in
      subst (λ (g : Forest). Interpolated (g +++ h)) (sym same)
      (pairs.named_offset (told.dollar x p) (told.var_name n m) (told.open_bracket b u) (node_paired z (parts.0, parts.1, tt) none pairs.no_part)
      (told.close_bracket s l) (told.close_brace y q) o)
  piece_part (is_second (is_second (is_second (is_second (is_both {f} (is_word {x} p) (is_both (is_place {k = j} {c} m n) (is_word {x = y} q) e) d))))) w h o =
      let same : f ≡ leaf x (node j c (leaf y none)) = d ∙ ap (leaf x) e in
      let parts = subst PlainTraits same w in
      subst (λ (g : Forest). Interpolated (g +++ h)) (sym same)
      (pairs.expression (told.dollar x p) (node_paired n (parts.0, parts.1, tt) none pairs.no_part) (told.close_brace y q) o)

  node_paired : {j : NodeKind} {c : Forest} → IsNode V74 j c → PlainTraits (node j c none) → (f : Forest) → Paired f → Paired (node j c f)
  node_paired (is_node {k = k.Quoted} {c} (is_both (is_word {x} p) (is_both {g} a (is_word {x = y} q) e) d) near fine) w f o =
      let same : c ≡ leaf x (g +++ leaf y none) = d ∙ ap (leaf x) e in
      subst (λ (b : Forest). Paired (node k.Quoted b f)) (sym same)
      (pairs.text (told.text_start x p) (pieces a (plain_front g (leaf y none) (subst PlainTraits same w.1)) (leaf y none) (pairs.text_end (told.text_end y q))) o)
  node_paired (is_node {k = k.BraceOffset} {c}
      (is_both (is_place {k = i} {c = b} m1 n1)
      (is_both (is_word {x} p) (is_both (is_place {k = j} {c = d} m2 n2) (is_word {x = u} q) e1) e2) e3) near fine) w
      f o =
      let same : c ≡ node i b (leaf x (node j d (leaf u none))) = e3 ∙ ap (node i b) (e2 ∙ ap (leaf x) e1) in
      let parts = subst PlainTraits same w.1 in
      subst (λ (z : Forest). Paired (node k.BraceOffset z f)) (sym same)
      (pairs.brace_offset (node_paired n1 (parts.0, parts.1, tt) none pairs.no_part) (told.open_brace x p)
      (node_paired n2 (parts.2.0, parts.2.1, tt) none pairs.no_part) (told.close_brace u q) o)
  node_paired (is_node {k = k.Cast} {c} (is_both (is_first (is_word {x} p)) (is_place {k = j} {c = b} m n) e) near fine) w f o =
      let parts = subst PlainTraits e w.1 in
      subst (λ (z : Forest). Paired (node k.Cast z f)) (sym e)
      (pairs.cast (told.is_cast x p) (node_paired n (parts.0, parts.1, tt) none pairs.no_part) o)
  node_paired (is_node {k = k.Cast} {c} (is_both (is_second (is_word {x} p)) (is_place {k = j} {c = b} m n) e) near fine) w f o =
      let parts = subst PlainTraits e w.1 in
      subst (λ (z : Forest). Paired (node k.Cast z f)) (sym e)
      (pairs.cast (told.is_old_cast x p) (node_paired n (parts.0, parts.1, tt) none pairs.no_part) o)
  node_paired (is_node {k = k.TraitUse} {c} p near fine) w f o = trait_node c f (trait_paired c p (w.0 refl)) o
  node_paired (is_node {k = j} {c} p near fine) w f o = common_node j c f refl p (fronts p w.1 (closes []) none pairs.no_part) o

statements_paired : (s : Closing) (f : Forest) → s ≡ closes [] → Front s (f +++ none) → Paired f
statements_paired s f e o = subst Paired (join_none f) (subst (λ (u : Closing). Front u (f +++ none)) e o)

pub shaped_files_are_paired : ShapedFilesArePaired
unfolding edges outer
shaped_files_are_paired f s w = statements_paired _ f.statements refl (fronts s.shaped w (closes []) none pairs.no_part)
