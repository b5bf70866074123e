-- Uses of traits are read as they were: the tokens between braces.
use Rattle.std.proofs.Common.{◌≡◌, ℕ, suc, ◌+◌, ◌-◌, ◌≤◌, Bool, true, false, not, cond, ◌&&◌, nat_eq, List, [], ◌∷◌, ◌++◌, length, Some, refl, sym, ap, ◌∙◌, subst}
use Rattle.std.proofs.lemmas.Bool.{and_parts, not-true}
use Rattle.php_tree.specs.declared.kind.NodeKind.TheVariants as k
use Rattle.php_tree.specs.declared.token.Token.{Token}
use Rattle.php_tree.specs.declared.version.Version.{Version}
use Rattle.php_tree.specs.declared.version.Version.TheVariants.{V74, V83}
use Rattle.php_tree.specs.Tree.{Forest, none, leaf, node, ◌+++◌, leaves, count}
use Rattle.php_terminals.specs.declared.terminal.Terminal.{Terminal}
use Rattle.php_terminals.specs.declared.terminal.Terminal.TheVariants as t
use Rattle.php_terminals.specs.Classify.{terminal}
use Rattle.php_terminals.specs.Marks.{closes, opens}
use Rattle.php_terminals.specs.Ahead.{first_of, spanned}
use Rattle.php_forms.specs.declared.item.Group.TheVariants as g
use Rattle.php_forms.specs.declared.item.Item.{Item}
use Rattle.php_forms.specs.declared.item.Item.TheVariants.{Word, Part, Repeats, Span}
use Rattle.php_forms.specs.Declarations.{trait_rules}
use Rattle.php_forms.specs.Forms.{or_else}
use Rattle.php_forms.specs.Grammar.{Walks, IsFlat, head, ends, word as a_word, span}
use Rattle.php_forms.specs.Heads.{behind_modifiers, member_form, modified_form, trait_use_form}
use Rattle.php_grammar.specs.Accepts.{accepts, same_class}
use Rattle.php_grammar.specs.Tables.{php}
use Rattle.php_exprs.proofs.Forests.{forest_assoc}
use Rattle.php_shapes.specs.Forms.{form}
use Rattle.php_shapes.specs.Names.{names}
use Rattle.php_shapes.specs.Notation.{Rule, word, ◌~◌, ◌|||◌, tokens, braces}
use Rattle.php_shapes.specs.Shapes.{Fits, is_first, is_second, is_tokens, is_balanced}
use Rattle.php_shapes.proofs.ReadClasses.{could, for_all, pinned, whenever}
use Rattle.php_shapes.proofs.ReadEnds.{Below}
use Rattle.php_shapes.proofs.ReadMatch.{both_is, false_true, fits_alone, left_le, matched, matches, where_is, where_it, word_is}
use Rattle.php_shapes.proofs.ReadFirst.{starts}
use Rattle.php_shapes.proofs.ReadNearest.{shaped}
use Rattle.php_shapes.proofs.ReadBodies.{group_alone, walks_on}
use Rattle.php_shapes.proofs.ReadClassMembers.{MemberGrows}
use Rattle.php_shapes.proofs.ReadStatements.{begins_with, begun, first_in}

-- ---- tokens with brackets that close

balanced_rest : (a b : Bool) (n : ℕ) (f : Forest) → cond a (is_balanced (n + 1) f)
    (cond b (not (nat_eq n 0) && is_balanced (n - 1) f) (is_balanced n f)) ≡ true → (m : ℕ) × (is_balanced m f ≡ true)
balanced_rest true b n f h = (n + 1, h)
balanced_rest false true n f h = (n - 1, (and_parts (not (nat_eq n 0)) (is_balanced (n - 1) f) h).1)
balanced_rest false false n f h = (n, h)

flat : (n : ℕ) (f : Forest) → is_balanced n f ≡ true → IsFlat f
flat n none h = tt
flat n (leaf x f) h = let q : (m : ℕ) × (is_balanced m f ≡ true) = balanced_rest (opens (terminal x)) (closes (terminal x)) n f h in flat q.0 f q.1
flat n (node j b f) h = absurd (false_true h)

span_step : (a b : Bool) (n : ℕ) (f : Forest) (us : List Token)
    → ((m : ℕ) → is_balanced m f ≡ true → spanned m us ≡ length (leaves f))
    → cond a (is_balanced (n + 1) f) (cond b (not (nat_eq n 0) && is_balanced (n - 1) f) (is_balanced n f)) ≡ true
    → cond a (suc (spanned (n + 1) us)) (cond b (cond (nat_eq n 0) 0 (suc (spanned (n - 1) us))) (suc (spanned n us)))
    ≡ suc (length (leaves f))
span_step true b n f us ih h = ap (λ (m : ℕ). suc m) (ih (n + 1) h)
span_step false true n f us ih h =
    let q : (not (nat_eq n 0) ≡ true) × (is_balanced (n - 1) f ≡ true) = and_parts (not (nat_eq n 0)) (is_balanced (n - 1) f) h in
    ap (λ (o : Bool). cond o 0 (suc (spanned (n - 1) us))) (not-true (nat_eq n 0) q.0) ∙ ap (λ (m : ℕ). suc m) (ih (n - 1) q.1)
span_step false false n f us ih h = ap (λ (m : ℕ). suc m) (ih n h)

-- a span takes what stands before the bracket that closes
spans : (n : ℕ) (f : Forest) (y : Token) (us : List Token) → terminal y ≡ t.CloseBrace → is_balanced n f ≡ true → spanned n (leaves f ++ (y ∷ us)) ≡ length (leaves f)
spans n none y us e h = rw (e, h) refl
spans n (leaf x f) y us e h = span_step (opens (terminal x)) (closes (terminal x)) n f (leaves f ++ (y ∷ us)) (λ m b. spans m f y us e b) h
spans n (node j b f) y us e h = absurd (false_true h)

tokens_are : (v : Version) (f : Forest) → Fits v tokens f → is_balanced 0 f ≡ true
tokens_are v f (is_tokens h) = h

-- ---- the use

abbrev names_items : List Item
names_items = Word t.Use ∷ Part g.Name ∷ Repeats g.MoreNames ∷ []

abbrev ends_names : Terminal → Bool
ends_names t.Semi = true
ends_names t.OpenBrace = true
ends_names _ = false

abbrev rules : Rule
rules = word t.Semi ||| braces tokens

names_match : (v : Version) → matches v 60 false (word t.Use ∷ names v ∷ []) names_items ends_names ≡ true
unfolding for_all
names_match V74 = refl
names_match V83 = refl

abbrev is_pinned : Version → Terminal → Bool
is_pinned v w = for_all (λ c. whenever (could v w c) (same_class w c))

brackets_pinned : (v : Version) → (is_pinned v t.OpenBrace ≡ true) × (is_pinned v t.CloseBrace ≡ true) × (is_pinned v t.Semi ≡ true)
unfolding for_all
brackets_pinned V74 = (refl, refl, refl)
brackets_pinned V83 = (refl, refl, refl)

use_begins : (v : Version) → begins_with v (form v k.TraitUse) t.Use ≡ true
unfolding for_all
use_begins V74 = refl
use_begins V83 = refl

rules_begin : (v : Version) → for_all (λ c. where_it (starts v rules c) (ends_names c)) ≡ true
unfolding for_all
rules_begin V74 = refl
rules_begin V83 = refl

rules_walk : (v : Version) (r : Forest) (rest : List Token) → Fits v rules r → Walks (php v) (Part g.TraitRules ∷ []) r rest
rules_walk v r rest (is_first x) =
    let q : (z : Token) × (r ≡ leaf z none) × (accepts v t.Semi z ≡ true) = word_is v t.Semi r x in
    subst (λ (i : Forest). Walks (php v) (Part g.TraitRules ∷ []) i rest) (sym q.1)
    (group_alone v g.TraitRules (leaf q.0 none) rest
    (subst (λ (c : Terminal). Walks (php v) (trait_rules c) (leaf q.0 none) rest)
    (sym (pinned v t.Semi q.0 ((brackets_pinned v).2) q.2)) (a_word q.2 ends)))
rules_walk v r rest (is_second x) =
    let p : (o : Forest) × (m : Forest) × Fits v (word t.OpenBrace) o × Fits v (tokens ~ word t.CloseBrace) m
    × (r ≡ o +++ m) = both_is v (word t.OpenBrace) (tokens ~ word t.CloseBrace) r x in
    let q : (f : Forest) × (c : Forest) × Fits v tokens f × Fits v (word t.CloseBrace) c × (p.1 ≡ f +++ c) = both_is v tokens (word t.CloseBrace) p.1 p.3 in
    let o : (z : Token) × (p.0 ≡ leaf z none) × (accepts v t.OpenBrace z ≡ true) = word_is v t.OpenBrace p.0 p.2 in
    let c : (z : Token) × (q.1 ≡ leaf z none) × (accepts v t.CloseBrace z ≡ true) = word_is v t.CloseBrace q.1 q.3 in
    let at : r ≡ leaf o.0 (q.0 +++ leaf c.0 none) = p.4 ∙ ap (λ (i : Forest). i +++ p.1) o.1 ∙ ap (λ (i : Forest). leaf o.0 i) (q.4 ∙ ap (λ (i : Forest). q.0 +++ i) c.1) in
    let b : is_balanced 0 q.0 ≡ true = tokens_are v q.0 q.2 in
    let w : Walks (php v) (Word t.OpenBrace ∷ Span ∷ Word t.CloseBrace ∷ []) (leaf o.0 (q.0 +++ leaf c.0 none)) rest =
    a_word o.2 (span q.0 (flat 0 q.0 b) (spans 0 q.0 c.0 rest
    (pinned v t.CloseBrace c.0 ((brackets_pinned v).1) c.2) b) (a_word c.2 ends)) in
    subst (λ (i : Forest). Walks (php v) (Part g.TraitRules ∷ []) i rest) (sym at)
    (group_alone v g.TraitRules (leaf o.0 (q.0 +++ leaf c.0 none)) rest
    (subst (λ (d : Terminal). Walks (php v) (trait_rules d) (leaf o.0 (q.0 +++ leaf c.0 none)) rest)
    (sym (pinned v t.OpenBrace o.0 ((brackets_pinned v).0) o.2)) w))

rules_not_empty : (v : Version) (r : Forest) (rest : List Token) → Fits v rules r → ends_names (first_of (leaves r ++ rest)) ≡ true
rules_not_empty v r rest x = where_is (starts v rules) ends_names (first_of (leaves r ++ rest)) (rules_begin v) (first_in v rules r rest x refl)

use_form : (ts : List Token) → first_of ts ≡ t.Use → member_form ts ≡ Some (k.TraitUse, names_items ++ (Part g.TraitRules ∷ []))
use_form ts e = ap (λ (c : Terminal). or_else (trait_use_form c) (Some (modified_form (behind_modifiers ts)))) e

pub trait_use_grows : (v : Version) (n : ℕ) → Below v n → MemberGrows v n k.TraitUse
trait_use_grows v n below c rest le x =
    let y : Fits v (form v k.TraitUse) c = shaped v k.TraitUse c x in
    let p : (u : Forest) × (m : Forest) × Fits v (word t.Use) u × Fits v (names v ~ rules) m × (c ≡ u +++ m) = both_is v (word t.Use) (names v ~ rules) c y in
    let q : (l : Forest) × (r : Forest) × Fits v (names v) l × Fits v rules r × (p.1 ≡ l +++ r) = both_is v (names v) rules p.1 p.3 in
    let at : c ≡ (p.0 +++ q.0) +++ q.1 = p.4 ∙ ap (λ (i : Forest). p.0 +++ i) q.4 ∙ sym (forest_assoc p.0 q.0 q.1) in
    let le2 : count (p.0 +++ q.0) ≤ n = left_le (p.0 +++ q.0) q.1 n (subst (λ (i : Forest). count i ≤ n) at le) in
    head (use_form (leaves c ++ rest) (begun v (form v k.TraitUse) t.Use c rest y refl (use_begins v)))
    (subst (λ (i : Forest). Walks (php v) (names_items ++ (Part g.TraitRules ∷ [])) i rest) (sym at)
    (walks_on (php v) names_items (Part g.TraitRules ∷ []) (p.0 +++ q.0) q.1 rest
    (matched v n below 60 false (word t.Use ∷ names v ∷ []) names_items ends_names (p.0 +++ q.0) (leaves q.1 ++ rest)
    (names_match v) (p.0, q.0, p.2, fits_alone v (names v) q.0 q.2, refl) le2 (rules_not_empty v q.1 rest q.3)
    (λ o. absurd (false_true o)))
    (rules_walk v q.1 rest q.3)))
