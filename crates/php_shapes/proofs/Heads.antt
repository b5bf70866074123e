-- Heads of expressions: prefixes, casts, closures and `yield`.
use Rattle.std.proofs.Common.{◌≡◌, ℕ, Bool, true, false, ◌||◌, nat_le, List, [], ◌∷◌, refl, sym, ap, ◌∙◌, subst, arith}
use Rattle.std.proofs.lemmas.Bool.{le-leb, or_right}
use Rattle.php_tree.specs.declared.kind.NodeKind.{NodeKind}
use Rattle.php_tree.specs.declared.kind.NodeKind.TheVariants as k
use Rattle.php_tree.specs.declared.token.Token.{Token}
use Rattle.php_tree.specs.declared.version.Version.{Version}
use Rattle.php_tree.specs.declared.version.Version.TheVariants.{V74, V83}
use Rattle.php_tree.specs.Tree.{Forest, none, leaf, node, ◌+++◌}
use Rattle.php_terminals.specs.declared.terminal.Terminal.{Terminal}
use Rattle.php_terminals.specs.declared.terminal.Terminal.TheVariants as t
use Rattle.php_terminals.specs.Classify.{terminal}
use Rattle.php_forms.specs.declared.item.Item.{Item}
use Rattle.php_forms.specs.declared.item.Item.TheVariants.{Word, Node, Part}
use Rattle.php_forms.specs.declared.item.Sort.TheVariants as s
use Rattle.php_forms.specs.declared.item.Group.TheVariants as g
use Rattle.php_forms.specs.Grammar.{Form}
use Rattle.php_grammar.specs.Accepts.{same_class}
use Rattle.php_grammar.specs.Levels.{level}
use Rattle.php_shapes.specs.Atoms as at
use Rattle.php_shapes.specs.Operators as op
use Rattle.php_shapes.specs.Forms.{form}
use Rattle.php_shapes.specs.Nearest.{is_to, is_value_alone, is_yield}
use Rattle.php_shapes.specs.Notation.{Rule, word, kind, place, ◌~◌, ◌|||◌, maybe, expr}
use Rattle.php_shapes.specs.Places.{Operand, Target, is_prefix}
use Rattle.php_shapes.specs.Shapes.{Fits, is_nothing, is_word, is_both, is_first, is_second}
use Rattle.php_shapes.proofs.Entries.{Entry, Meet, entries, flat, is_one_node}
use Rattle.php_shapes.proofs.Sequences.{Gives, none_behind, whole}
use Rattle.php_shapes.proofs.Told.{first_as, first_none}
use Rattle.php_shapes.proofs.Follows.{false_is}
use Rattle.php_shapes.proofs.Standing.{Closed, closed, is_closed, is_operand, is_tight}

-- The head of an expression: it may stand behind any operator.
pub record Headed (v : Version) (k : NodeKind) (c : Forest) (rest : List Token) : Type 0 where
  pub fits : Fits v (form v k) c
  pub operand : is_operand k ≡ true
  pub tight : (limit : ℕ) → is_tight v limit k c ≡ true
  pub shut : Closed k c rest

-- Each node with such a form is the head of an expression.
pub record Heads (v : Version) (fm : Form) : Type 0 where
  pub at_all : (c : Forest) (rest : List Token) → Meet v (entries v fm.1) c rest → Headed v fm.0 c rest

pub zero_tight : (n limit : ℕ) (b : Bool) → n ≡ 0 → (nat_le n limit || b) ≡ true
zero_tight n limit b e = ap (λ (m : ℕ). nat_le m limit || b) e ∙ go limit b
  where
    go : (limit : ℕ) (b : Bool) → (nat_le 0 limit || b) ≡ true
    go limit b = ap (λ (y : Bool). y || b) (le-leb 0 limit (omega arith))

-- an expression without an operator of its own
pub atom : (v : Version) (k : NodeKind) (is : List Item) → is_operand k ≡ true → is_closed k ≡ true
    → ((c : Forest) → level v (k, c) ≡ 0) → Gives v (entries v is) (form v k) → Heads v (k, is)
atom v k is o q low p = record {
  at_all = λ c rest m.
      record {
        fits = p c rest m;
        operand = o;
        tight = λ limit. zero_tight (level v (k, c)) limit (is_prefix k) (low c);
        shut = closed k c rest q;
      };
}

-- a prefix
pub before : (v : Version) (k : NodeKind) (is : List Item) → is_operand k ≡ true → is_closed k ≡ true → is_prefix k ≡ true → Gives v (entries v is) (form v k) → Heads v (k, is)
before v k is o q b p = record {
  at_all = λ c rest m.
      record {
        fits = p c rest m;
        operand = o;
        tight = λ limit. or_right (nat_le (level v (k, c)) limit) (is_prefix k) b;
        shut = closed k c rest q;
      };
}

-- ---- prefixes and casts

abbrev pub clone_rule : Rule
clone_rule = word t.Clone ~ place (Operand 1)

abbrev pub sign_rule : Rule
sign_rule = word t.SignOrTight ~ place (Operand 3)

abbrev pub not_rule : Rule
not_rule = word t.Not ~ place (Operand 5)

abbrev pub step_rule : Rule
step_rule = word t.Step ~ place Target

pub cast_rule : (v : Version) → Gives v (flat (word t.Cast ~ place (Operand 3)) []) (op.cast v)
cast_rule V74 = first_as V74 (word t.Cast) (word t.Cast ||| word t.OldCast) (op.cast V74) (flat (place (Operand 3)) []) (λ f p. is_first p) (whole V74 (op.cast V74))
cast_rule V83 = whole V83 (op.cast V83)

-- ---- closures

-- a first part that isn't there
pub without : (v : Version) (r s : Rule) (es : List Entry) → Gives v es s → Gives v es (maybe r ~ s)
without v r s es p f rest m = is_both (is_first is_nothing) (p f rest m) refl

-- a first part that is there
pub withal : (v : Version) (r s : Rule) → Gives v (flat (r ~ s) []) (maybe r ~ s)
withal v r s = first_as v r (maybe r) (maybe r ~ s) (flat s []) (λ f p. is_second p) (whole v (maybe r ~ s))

abbrev pub closure_rule : Rule
closure_rule = word t.Function ~ at.by_ref ~ at.params ~ at.closure_use ~ at.return_type ~ kind k.Block

abbrev pub arrow_rule : Rule
arrow_rule = word t.Fn ~ at.by_ref ~ at.params ~ at.return_type ~ word t.DoubleArrow ~ expr

-- ---- `yield`

pub value_one : (x : Token) (i : Forest) → is_value_alone (leaf x i) ≡ true → is_one_node i ≡ true
value_one x (node j b none) e = refl
value_one x none e = false_is e
value_one x (leaf y i) e = false_is e
value_one x (node j b (leaf y i)) e = false_is e
value_one x (node j b (node l a i)) e = false_is e

pub value_yield : (x : Token) (i : Forest) → is_value_alone (leaf x i) ≡ true → is_yield (terminal x) ≡ true
value_yield x (node j b none) e = e
value_yield x none e = false_is e
value_yield x (leaf y i) e = false_is e
value_yield x (node j b (leaf y i)) e = false_is e
value_yield x (node j b (node l a i)) e = false_is e

pub from_is_not : (own : Terminal) → same_class t.YieldFrom own ≡ true → is_yield own ≡ false
from_is_not t.Yield e = absurd cc
from_is_not _ e = refl

pub behind_yield : (v : Version) (c : Terminal) (h i : Forest) → Fits v (word c) h → is_value_alone (h +++ i) ≡ true → is_one_node i ≡ true
behind_yield v c h i (is_word {x} p) e = value_one x i e

pub from_shut : (v : Version) (h i : Forest) → Fits v (word t.YieldFrom) h → is_value_alone (h +++ i) ≡ true → false ≡ true
from_shut v h i (is_word {x} p) e = sym (from_is_not (terminal x) p) ∙ value_yield x i e

pub yield_headed : (v : Version) (c : Forest) (rest : List Token) → Meet v (entries v (Word t.Yield ∷ Part g.YieldValue ∷ [])) c rest → Headed v k.Yield c rest
yield_headed v c rest m =
    let a = m.3 in
    let same : m.1 ≡ a.0 = a.4 ∙ ap (λ (y : Forest). a.0 +++ y) a.3 ∙ none_behind a.0 in
    record {
      fits = go m.0 m.1 m.2 m.4 (subst (Fits v (maybe (place (Operand 20) ~ maybe (word t.DoubleArrow ~ place (Operand 20))))) (sym same) a.2.0);
      operand = refl;
      tight = λ limit. or_right (nat_le (level v (k.Yield, c)) limit) true refl;
      shut = (
        λ e. false_is e,
        λ e. ap is_to (sym (first_none a.1 rest a.3)) ∙ a.2.1 (ap is_one_node (sym same) ∙ behind_yield v t.Yield m.0 m.1 m.2 (ap is_value_alone (sym m.4) ∙ e)),
      );
    }
  where
    go : (h i : Forest) → Fits v (word t.Yield) h → c ≡ h +++ i → Fits v (maybe (place (Operand 20) ~ maybe (word t.DoubleArrow ~ place (Operand 20)))) i → Fits v op.yield c
    go h i p e (is_first is_nothing) = is_first (subst (Fits v (word t.Yield)) (sym (e ∙ none_behind h)) p)
    go h i p e (is_second q) = is_second (is_first (is_both p q e))

pub yield_heads : (v : Version) → Heads v (k.Yield, Word t.Yield ∷ Part g.YieldValue ∷ [])
yield_heads v = record { at_all = yield_headed v }

pub yield_from_headed : (v : Version) (c : Forest) (rest : List Token) → Meet v (entries v (Word t.YieldFrom ∷ Node (s.Operand 20) ∷ [])) c rest → Headed v k.Yield c rest
yield_from_headed v c rest m = record {
  fits = is_second (is_second (whole v (word t.YieldFrom ~ place (Operand 20)) c rest m));
  operand = refl;
  tight = λ limit. or_right (nat_le (level v (k.Yield, c)) limit) true refl;
  shut = (λ e. false_is e, λ e. false_is (from_shut v m.0 m.1 m.2 (ap is_value_alone (sym m.4) ∙ e)));
}

pub yield_from_heads : (v : Version) → Heads v (k.Yield, Word t.YieldFrom ∷ Node (s.Operand 20) ∷ [])
yield_from_heads v = record { at_all = yield_from_headed v }
