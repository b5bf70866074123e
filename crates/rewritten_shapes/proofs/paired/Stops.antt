-- Nodes that the rules which group may put in parentheses have an operator of their own.
use Rattle.std.proofs.Common.{◌≡◌, ℕ, Bool, true, false, ◌||◌, codes, List, [], ◌∷◌, refl, sym, ap, ◌∙◌}
use Rattle.std.specs.Str.{bytes_eq}
use Rattle.std.proofs.lemmas.Bool.{eqb-true, or_left, or_right}
use Rattle.std.proofs.lemmas.Slice.Eq.{bytes_eq-Decides}
use Rattle.php_tree.specs.declared.kind.NodeKind.{NodeKind}
use Rattle.php_tree.specs.declared.kind.NodeKind.TheVariants as k
use Rattle.php_tree.specs.declared.token.Token.{Token}
use Rattle.php_tree.specs.declared.token.TokenKind.{TokenKind}
use Rattle.php_tree.specs.declared.token.TokenKind.TheVariants as kind
use Rattle.php_tree.specs.declared.version.Version.TheVariants.{V74}
use Rattle.php_tree.specs.Tree.{Forest, none, leaf, node, ◌+++◌}
use Rattle.php_terminals.specs.declared.terminal.Terminal.{Terminal}
use Rattle.php_terminals.specs.declared.terminal.Terminal.TheVariants as t
use Rattle.php_terminals.specs.Classify.{terminal, terminal_by}
use Rattle.php_terminals.specs.Terminals.{code}
use Rattle.php_terminals.specs.Words.{keywords, labels, operators}
use Rattle.php_grammar.specs.Accepts.{accepts, same_class}
use Rattle.php_shapes.specs.Forms.{form}
use Rattle.php_shapes.specs.Notation.{word, place, ◌~◌}
use Rattle.php_shapes.specs.Operators.{binary, short_ternary, ternary}
use Rattle.php_shapes.specs.Places.{Place}
use Rattle.php_shapes.specs.Shapes.{Fits, is_word, is_place, is_both, is_first, is_second}
use Rattle.syntax_rules.specs.Around.{operator_of}
use Rattle.rewritten_shapes.specs.paired.Paired.{may_be_grouped}
use Rattle.rewritten_shapes.specs.paired.Tokens.{has_stop, is_op}
use Rattle.rewritten_shapes.proofs.paired.Asked.{is_one_of}
use Rattle.rewritten_shapes.proofs.paired.Marks as told

-- the classes of operators between two operands
unfoldable binaries : List Terminal
binaries =
    t.Power ∷ t.Factor ∷ t.Plus ∷ t.Minus ∷ t.Shift ∷ t.Dot ∷ t.Order ∷ t.Equality ∷ t.Ampersand ∷ t.Caret ∷ t.Bar
    ∷ t.BooleanAnd ∷ t.BooleanOr ∷ t.Coalesce ∷ t.And ∷ t.Xor ∷ t.Or ∷ []

-- of the tokens with the text `.` only an operator is one
dot_by : (sort : TokenKind) → is_one_of binaries (code (terminal_by sort (codes "."))) ≡ true → is_op sort ≡ true
unfolding keywords labels operators binaries
dot_by kind.Op e = refl
dot_by _ e = absurd cc

dot_op : (c : Terminal) (x : Token) → is_one_of binaries (code c) ≡ true → same_class c (terminal x) ≡ true → x.text ≡ codes "." → is_op x.kind ≡ true
dot_op c x h e d =
    dot_by x.kind (ap (λ (text : List ℕ). is_one_of binaries (code (terminal_by x.kind text))) (sym d)
    ∙ ap (is_one_of binaries) (sym (eqb-true (code c) (code (terminal x)) e)) ∙ h)

-- whether a class is read by itself: no form asks for it as one of several
abbrev reads_alone : Terminal → Type 0
reads_alone c = (x : Token) → accepts V74 c x ≡ true → same_class c (terminal x) ≡ true

two_operands : (a b : Place) (c : Terminal) (f : Forest) → reads_alone c → is_one_of binaries (code c) ≡ true
    → Fits V74 (place a ~ (word c ~ place b)) f → bytes_eq (operator_of f) (codes ".") ≡ true → has_stop f ≡ true
two_operands a b c f u h (is_both (is_place {k = j} {c = d} m n) (is_both (is_word {x} p) (is_place {k = i} {c = e} o q) y) z) w =
    let same : f ≡ node j d (leaf x (node i e none)) = z ∙ ap (node j d) y in
    let text : x.text ≡ codes "." = (bytes_eq-Decides x.text (codes ".")).0 (ap (λ (g : Forest). bytes_eq (operator_of g) (codes ".")) (sym same) ∙ w) in
    ap has_stop same ∙ or_left (is_op x.kind) false (dot_op c x h (u x p) text)

binary_stops : (f : Forest) → Fits V74 (binary V74) f → bytes_eq (operator_of f) (codes ".") ≡ true → has_stop f ≡ true
unfolding binaries
binary_stops f (is_first p) e = two_operands _ _ t.Power f (λ x d. d) refl p e
binary_stops f (is_second (is_first p)) e = two_operands _ _ t.Factor f (λ x d. d) refl p e
binary_stops f (is_second (is_second (is_first p))) e = two_operands _ _ t.Plus f (λ x d. d) refl p e
binary_stops f (is_second (is_second (is_second (is_first p)))) e = two_operands _ _ t.Minus f (λ x d. d) refl p e
binary_stops f (is_second (is_second (is_second (is_second (is_first p))))) e = two_operands _ _ t.Shift f (λ x d. d) refl p e
binary_stops f (is_second (is_second (is_second (is_second (is_second (is_first p)))))) e = two_operands _ _ t.Dot f (λ x d. d) refl p e
binary_stops f (is_second (is_second (is_second (is_second (is_second (is_second (is_first p))))))) e = two_operands _ _ t.Order f (λ x d. d) refl p e
binary_stops f (is_second (is_second (is_second (is_second (is_second (is_second (is_second (is_first p)))))))) e = two_operands _ _ t.Equality f (λ x d. d) refl p e
binary_stops f (is_second (is_second (is_second (is_second (is_second (is_second (is_second (is_second (is_first p))))))))) e = two_operands _ _ t.Ampersand f (λ x d. d) refl p e
binary_stops f (is_second (is_second (is_second (is_second (is_second
    (is_second (is_second (is_second (is_second (is_first p)))))))))) e =
    two_operands _ _ t.Caret f (λ x d. d) refl p e
binary_stops f (is_second (is_second (is_second (is_second (is_second
    (is_second (is_second (is_second (is_second (is_second (is_first p))))))))))) e =
    two_operands _ _ t.Bar f (λ x d. d) refl p e
binary_stops f (is_second (is_second (is_second (is_second (is_second
    (is_second (is_second (is_second (is_second (is_second (is_second (is_first p)))))))))))) e =
    two_operands _ _ t.BooleanAnd f (λ x d. d) refl p e
binary_stops f (is_second (is_second (is_second (is_second (is_second
    (is_second (is_second (is_second (is_second (is_second (is_second (is_second (is_first p))))))))))))) e =
    two_operands _ _ t.BooleanOr f (λ x d. d) refl p e
binary_stops f (is_second (is_second (is_second (is_second (is_second
    (is_second (is_second (is_second (is_second (is_second (is_second (is_second (is_second (is_first p))))))))))))))
    e = two_operands _ _ t.Coalesce f (λ x d. d) refl p e
binary_stops f (is_second (is_second (is_second (is_second (is_second
    (is_second (is_second (is_second (is_second (is_second (is_second
    (is_second (is_second (is_second (is_first p))))))))))))))) e = two_operands _ _ t.And f (λ x d. d) refl p e
binary_stops f (is_second (is_second (is_second (is_second (is_second
    (is_second (is_second (is_second (is_second (is_second (is_second
    (is_second (is_second (is_second (is_second (is_first p)))))))))))))))) e =
    two_operands _ _ t.Xor f (λ x d. d) refl p e
binary_stops f (is_second (is_second (is_second (is_second (is_second
    (is_second (is_second (is_second (is_second (is_second (is_second
    (is_second (is_second (is_second (is_second (is_second p)))))))))))))))) e =
    two_operands _ _ t.Or f (λ x d. d) refl p e

-- a ternary
question_stops : (f g h : Forest) (x : Token) → f ≡ g +++ leaf x h → is_op x.kind ≡ true → has_stop f ≡ true
question_stops f g h x d e = ap has_stop d ∙ go g
  where
    go : (g : Forest) → has_stop (g +++ leaf x h) ≡ true
    go none = or_left (is_op x.kind) (has_stop h) e
    go (leaf y g) = or_right (is_op y.kind) (has_stop (g +++ leaf x h)) (go g)
    go (node j c g) = go g

question_op : (x : Token) → accepts V74 t.Question x ≡ true → is_op x.kind ≡ true
question_op x e = ap is_op (told.question x e)

ternary_stops : (f : Forest) → Fits V74 (ternary V74) f → has_stop f ≡ true
ternary_stops f (is_both {g} q (is_both {h = i} (is_word {x} p) r y) z) =
    question_stops f g i x (z ∙ ap (λ (h : Forest). g +++ h) y) (question_op x p)

short_stops : (f : Forest) → Fits V74 (short_ternary V74) f → has_stop f ≡ true
short_stops f (is_both {g} q (is_both {h = i} (is_word {x} p) r y) z) =
    question_stops f g i x (z ∙ ap (λ (h : Forest). g +++ h) y) (question_op x p)

pub grouped_stops : (j : NodeKind) (c : Forest) → Fits V74 (form V74 j) c → may_be_grouped (j, c) ≡ true → has_stop c ≡ true
grouped_stops k.Ternary c p e = ternary_stops c p
grouped_stops k.ShortTernary c p e = short_stops c p
grouped_stops k.Binary c p e = binary_stops c p e
grouped_stops _ c p e = absurd cc
