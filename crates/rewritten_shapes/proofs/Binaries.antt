-- Nodes with an operator between two operands.
use Rattle.std.proofs.Common.{◌≡◌, ℕ, ◌≤◌, Bool, true, false, ◌&&◌, ◌||◌, ◌⊎◌, inl, inr, codes, List, Option, Some, refl, sym, ap, ◌∙◌, subst, arith}
use Rattle.std.specs.Str.{bytes_eq}
use Rattle.std.proofs.lemmas.Bool.{or_right}
use Rattle.php_tree.specs.declared.kind.NodeKind.{NodeKind}
use Rattle.php_tree.specs.declared.kind.NodeKind.TheVariants.{Binary}
use Rattle.php_tree.specs.declared.token.Token.{Token}
use Rattle.php_tree.specs.declared.version.Version.TheVariants.{V74, V83}
use Rattle.php_tree.specs.Tree.{Forest}
use Rattle.php_terminals.specs.declared.terminal.Terminal.{Terminal}
use Rattle.php_terminals.specs.declared.terminal.Terminal.TheVariants as t
use Rattle.php_terminals.specs.Classify.{terminal}
use Rattle.php_grammar.specs.Accepts.{accepts, same_class}
use Rattle.php_grammar.specs.Edges.{edge}
use Rattle.php_shapes.specs.Nearest.{is_nearest}
use Rattle.php_shapes.specs.Notation.{Rule, word, place, ◌~◌}
use Rattle.php_shapes.specs.Operators.{binary}
use Rattle.php_shapes.specs.Places.{Left, Operand, may_stand}
use Rattle.php_shapes.specs.Shapes.{Fits, IsNode, is_first, is_node, is_second}
use Rattle.syntax_rules.specs.Around.{Around, within}
use Rattle.syntax_rules.specs.DotPrecedence.{is_dot, is_shift, is_sum, takes_apart}
use Rattle.syntax_rules.specs.HashComment.{hash_comment}
use Rattle.syntax_rules.specs.Rewritten as all
use Rattle.rewritten_shapes.proofs.Calm.{steady_shown}
use Rattle.rewritten_shapes.proofs.Kept.{AllGood, Good, Kept, good_stands, kept}
use Rattle.rewritten_shapes.proofs.Like.{Below, below_same}
use Rattle.rewritten_shapes.proofs.Operands as op
use Rattle.rewritten_shapes.proofs.Operands.{Level, Two, dot_edge, left_dot, left_tight, pair, pair_good, pair_kept, right_dot, right_tight, two}
use Rattle.rewritten_shapes.proofs.OperatorWords.{dot_is, minus_is, plus_is, shift_is}
use Rattle.rewritten_shapes.proofs.Shown.{changed_tree, new_parts, new_tree, new_tree_is, shown_token}
use Rattle.rewritten_shapes.proofs.Wrapped.{wrapped_good}

-- where the operands of a node of two operands stand
abbrev at_left : Token → Around
at_left x = record { kind = Binary; operator = x.text; is_first = true }

abbrev at_right : Token → Around
at_right x = record { kind = Binary; operator = x.text; is_first = false }

sum_left : (x : Token) → is_sum x.text ≡ true → takes_apart (at_left x) ≡ true
sum_left x e = ap (λ (b : Bool). is_shift x.text || (b && true)) e ∙ or_right (is_shift x.text) true refl

shift_any : (x : Token) (f : Bool) → is_shift x.text ≡ true → takes_apart (record { kind = Binary; operator = x.text; is_first = f }) ≡ true
shift_any x f e = ap (λ (b : Bool). b || (is_sum x.text && f)) e

-- the rule of an operator
abbrev rule : ℕ → Terminal → ℕ → Rule
rule l op r = place (Left l) ~ (word op ~ place (Operand r))

-- the new parts keep the rule in 8.3
abbrev Keeps : ℕ → Terminal → ℕ → Type 0
Keeps l op r = (c : Forest) → Fits V74 (rule l op r) c → AllGood c → Kept (binary V83) c (new_parts (within Binary c) true c)

-- of a right operand that is a `.`: it is too loose for the place, the node is looser, or it stands in parentheses
abbrev Loose : ℕ → ℕ → Terminal → Type 0
Loose r old op = (r ≤ 6) ⊎ ((9 ≤ old) ⊎ (op ≡ t.Shift))

loose_at : (r old : ℕ) (op : Terminal) (new : ℕ) (v : Level op old new) (x : Token) (i : NodeKind) (e : Forest)
    → accepts V74 op x ≡ true → Loose r old op → (r ≤ 6)
    ⊎ ((9 ≤ old) ⊎ (is_dot (i, e) ≡ true → edge V83 (new_tree (Some (at_right x)) i e) ≡ 0))
loose_at r old op new v x i e p (inl u) = inl u
loose_at r old op new v x i e p (inr (inl u)) = inr (inl u)
loose_at r old op new v x i e p (inr (inr u)) =
    inr (inr (λ d. dot_edge (at_right x) i e d (shift_any x false (shift_is x (ap (λ (z : Terminal). same_class z (terminal x)) (sym u) ∙ v.takes x p)))))

made_at : (j : NodeKind) (d : Forest) (x : Token) (i : NodeKind) (e : Forest) (r old new : ℕ) (op : Terminal) → Level op old new → accepts V74 op x ≡ true
    → IsNode V74 i e → may_stand V74 (Operand r) (i, e) ≡ true → AllGood (pair j d x i e)
    → Kept (binary V83) (pair j d x i e) (new_parts (within Binary (pair j d x i e)) true (pair j d x i e)) → is_nearest (pair j d x i e) ≡ true
    → Loose r old op → (r ≤ 17) ⊎ (19 ≤ old) → (bytes_eq x.text (codes ".") ≡ false → new ≤ old) → (old ≤ 18 → new ≤ 17) → Below new old
    → Good Binary (pair j d x i e) (changed_tree Binary (pair j d x i e))
made_at j d x i e r old new op v p n m w kept near loose tight same low below =
    pair_good j d x i e (new_tree (Some (at_left x)) j d) (new_tree (Some (at_right x)) i e) r old new op v p (w.2.0 (Some (at_right x)) n) n m kept near
    (loose_at r old op new v x i e p loose) tight same low below

made : (l r old new : ℕ) (op : Terminal) (c : Forest) → Level op old new → Keeps l op r → Loose r old op → (r ≤ 17) ⊎ (19 ≤ old)
    → ((x : Token) → accepts V74 op x ≡ true → bytes_eq x.text (codes ".") ≡ false → new ≤ old) → (old ≤ 18 → new ≤ 17) → Below new old
    → Fits V74 (rule l op r) c → AllGood c → is_nearest c ≡ true → Good Binary c (changed_tree Binary c)
made l r old new op c v keeps loose tight same low below f w near =
    let y = two l r op c f in
    let here : Good Binary (pair y.j y.d y.x y.i y.e) (changed_tree Binary (pair y.j y.d y.x y.i y.e)) =
    made_at y.j y.d y.x y.i y.e r old new op v y.takes y.right_node y.right (subst AllGood y.same w)
    (keeps (pair y.j y.d y.x y.i y.e) (subst (Fits V74 (rule l op r)) y.same f) (subst AllGood y.same w))
    (ap is_nearest (sym y.same) ∙ near) loose tight (same y.x y.takes) low below in
    subst (λ (c : Forest). Good Binary c (changed_tree Binary c)) (sym y.same) here

-- ---- operators whose operands stand elsewhere in 8.3

by_hand : (l r m n : ℕ) (op : Terminal) → ((x : Token) → accepts V74 op x ≡ true → accepts V83 op (shown_token (hash_comment x)) ≡ true)
    → ((x : Token) (j : NodeKind) (d : Forest) → accepts V74 op x ≡ true → Good j d (new_tree (Some (at_left x)) j d)
    → may_stand V74 (Left l) (j, d) ≡ true → may_stand V83 (Left m) (new_tree (Some (at_left x)) j d) ≡ true)
    → ((x : Token) (j : NodeKind) (d : Forest) → accepts V74 op x ≡ true → Good j d (new_tree (Some (at_right x)) j d)
    → may_stand V74 (Operand r) (j, d) ≡ true → may_stand V83 (Operand n) (new_tree (Some (at_right x)) j d) ≡
    true)
    → (c : Forest) → Fits V74 (rule l op r) c → AllGood c → Kept (rule m op n) c (new_parts (within Binary c) true c)
by_hand l r m n op takes left right c f w =
    let y = two l r op c f in
    let u = subst AllGood y.same w in
    let g = u.0 (Some (at_left y.x)) y.left_node in
    let h = u.2.0 (Some (at_right y.x)) y.right_node in
    subst (λ (c : Forest). Kept (rule m op n) c (new_parts (within Binary c) true c)) (sym y.same)
    (pair_kept y.j y.d y.x y.i y.e (new_tree (Some (at_left y.x)) y.j y.d) (new_tree (Some (at_right y.x)) y.i y.e) m n op g h (takes y.x y.takes)
    (left y.x y.j y.d y.takes g y.left) (right y.x y.i y.e y.takes h y.right))

by_plus : (c : Forest) → Fits V74 (rule 7 t.Plus 6) c → AllGood c → Kept (rule 7 t.Plus 6) c (new_parts (within Binary c) true c)
by_plus = by_hand 7 6 7 6 t.Plus (λ x e. steady_shown t.Plus x refl e)
    (λ x j d p g m. left_tight 7 (at_left x) j d (omega arith) (sum_left x (plus_is x p)) g m)
    (λ x j d p g m. good_stands (Operand 6) j d (new_tree (Some (at_right x)) j d) g refl m)

by_minus : (c : Forest) → Fits V74 (rule 7 t.Minus 6) c → AllGood c → Kept (rule 7 t.Minus 6) c (new_parts (within Binary c) true c)
by_minus = by_hand 7 6 7 6 t.Minus (λ x e. steady_shown t.Minus x refl e)
    (λ x j d p g m. left_tight 7 (at_left x) j d (omega arith) (sum_left x (minus_is x p)) g m)
    (λ x j d p g m. good_stands (Operand 6) j d (new_tree (Some (at_right x)) j d) g refl m)

by_shift : (c : Forest) → Fits V74 (rule 8 t.Shift 7) c → AllGood c → Kept (rule 8 t.Shift 7) c (new_parts (within Binary c) true c)
by_shift = by_hand 8 7 8 7 t.Shift (λ x e. steady_shown t.Shift x refl e)
    (λ x j d p g m. left_tight 8 (at_left x) j d (omega arith) (shift_any x true (shift_is x p)) g m)
    (λ x j d p g m. right_tight (at_right x) j d (shift_any x false (shift_is x p)) g m)

by_dot : (c : Forest) → Fits V74 (rule 7 t.Dot 6) c → AllGood c → Kept (rule 9 t.Dot 8) c (new_parts (within Binary c) true c)
by_dot = by_hand 7 6 9 8 t.Dot (λ x e. steady_shown t.Dot x refl e)
    (λ x j d p g m. left_dot j d (new_tree (Some (at_left x)) j d) g m)
    (λ x j d p g m. right_dot j d (new_tree (Some (at_right x)) j d) g m)

-- ---- each operator

inject : (r s : Rule) (c b : Forest) → (Fits V83 r b → Fits V83 s b) → Kept r c b → Kept s c b
inject r s c b f p = record { fits = f p.fits; like = p.like }

keeps_power : Keeps 1 t.Power 2
keeps_power c f w = inject (rule 1 t.Power 2) (binary V83) c (new_parts (within Binary c) true c) (λ p. is_first p) (kept f refl w (within Binary c) true)

keeps_factor : Keeps 6 t.Factor 5
keeps_factor c f w = inject (rule 6 t.Factor 5) (binary V83) c (new_parts (within Binary c) true c) (λ p. is_second (is_first p)) (kept f refl w (within Binary c) true)

keeps_plus : Keeps 7 t.Plus 6
keeps_plus c f w = inject (rule 7 t.Plus 6) (binary V83) c (new_parts (within Binary c) true c) (λ p. is_second (is_second (is_first p))) (by_plus c f w)

keeps_minus : Keeps 7 t.Minus 6
keeps_minus c f w = inject (rule 7 t.Minus 6) (binary V83) c (new_parts (within Binary c) true c) (λ p. is_second (is_second (is_second (is_first p)))) (by_minus c f w)

keeps_shift : Keeps 8 t.Shift 7
keeps_shift c f w = inject (rule 8 t.Shift 7) (binary V83) c (new_parts (within Binary c) true c) (λ p. is_second (is_second (is_second (is_second (is_first p))))) (by_shift c f w)

keeps_dot : Keeps 7 t.Dot 6
keeps_dot c f w = inject (rule 9 t.Dot 8) (binary V83) c (new_parts (within Binary c) true c)
    (λ p. is_second (is_second (is_second (is_second (is_second (is_first p)))))) (by_dot c f w)

keeps_order : Keeps 9 t.Order 9
keeps_order c f w = inject (rule 9 t.Order 9) (binary V83) c (new_parts (within Binary c) true c)
    (λ p. is_second (is_second (is_second (is_second (is_second (is_second (is_first p)))))))
    (kept f refl w (within Binary c) true)

keeps_equality : Keeps 10 t.Equality 10
keeps_equality c f w = inject (rule 10 t.Equality 10) (binary V83) c (new_parts (within Binary c) true c)
    (λ p. is_second (is_second (is_second (is_second (is_second (is_second (is_second (is_first p))))))))
    (kept f refl w (within Binary c) true)

keeps_ampersand : Keeps 12 t.Ampersand 11
keeps_ampersand c f w = inject (rule 12 t.Ampersand 11) (binary V83) c (new_parts (within Binary c) true c)
    (λ p. is_second (is_second (is_second (is_second (is_second (is_second (is_second (is_second (is_first p)))))))))
    (kept f refl w (within Binary c) true)

keeps_caret : Keeps 13 t.Caret 12
keeps_caret c f w = inject (rule 13 t.Caret 12) (binary V83) c (new_parts (within Binary c) true c)
    (λ p. is_second (is_second (is_second (is_second (is_second
    (is_second (is_second (is_second (is_second (is_first p)))))))))) (kept f refl w (within Binary c) true)

keeps_bar : Keeps 14 t.Bar 13
keeps_bar c f w = inject (rule 14 t.Bar 13) (binary V83) c (new_parts (within Binary c) true c)
    (λ p. is_second (is_second (is_second (is_second (is_second
    (is_second (is_second (is_second (is_second (is_second (is_first p)))))))))))
    (kept f refl w (within Binary c) true)

keeps_booleanand : Keeps 15 t.BooleanAnd 14
keeps_booleanand c f w = inject (rule 15 t.BooleanAnd 14) (binary V83) c (new_parts (within Binary c) true c)
    (λ p. is_second (is_second (is_second (is_second (is_second
    (is_second (is_second (is_second (is_second (is_second (is_second (is_first p))))))))))))
    (kept f refl w (within Binary c) true)

keeps_booleanor : Keeps 16 t.BooleanOr 15
keeps_booleanor c f w = inject (rule 16 t.BooleanOr 15) (binary V83) c (new_parts (within Binary c) true c)
    (λ p. is_second (is_second (is_second (is_second (is_second
    (is_second (is_second (is_second (is_second (is_second (is_second (is_second (is_first p)))))))))))))
    (kept f refl w (within Binary c) true)

keeps_coalesce : Keeps 16 t.Coalesce 17
keeps_coalesce c f w = inject (rule 16 t.Coalesce 17) (binary V83) c (new_parts (within Binary c) true c)
    (λ p. is_second (is_second (is_second (is_second (is_second
    (is_second (is_second (is_second (is_second (is_second (is_second (is_second (is_second (is_first p))))))))))))))
    (kept f refl w (within Binary c) true)

keeps_and : Keeps 21 t.And 20
keeps_and c f w = inject (rule 21 t.And 20) (binary V83) c (new_parts (within Binary c) true c)
    (λ p. is_second (is_second (is_second (is_second (is_second
    (is_second (is_second (is_second (is_second (is_second (is_second
    (is_second (is_second (is_second (is_first p))))))))))))))) (kept f refl w (within Binary c) true)

keeps_xor : Keeps 22 t.Xor 21
keeps_xor c f w = inject (rule 22 t.Xor 21) (binary V83) c (new_parts (within Binary c) true c)
    (λ p. is_second (is_second (is_second (is_second (is_second
    (is_second (is_second (is_second (is_second (is_second (is_second
    (is_second (is_second (is_second (is_second (is_first p)))))))))))))))) (kept f refl w (within Binary c) true)

keeps_or : Keeps 23 t.Or 22
keeps_or c f w = inject (rule 23 t.Or 22) (binary V83) c (new_parts (within Binary c) true c)
    (λ p. is_second (is_second (is_second (is_second (is_second
    (is_second (is_second (is_second (is_second (is_second (is_second
    (is_second (is_second (is_second (is_second (is_second (p))))))))))))))))) (kept f refl w (within Binary c) true)

below_dot : Below 9 7
below_dot = record { tight = λ h. absurd (omega arith); loose = omega arith }

not_dot : (x : Token) → accepts V74 t.Dot x ≡ true → bytes_eq x.text (codes ".") ≡ false → 9 ≤ 7
not_dot x p e = let z : true ≡ false = sym (ap (λ (y : List ℕ). bytes_eq y (codes ".")) (dot_is x p)) ∙ e in absurd cc

binary_made : (c : Forest) → Fits V74 (binary V74) c → AllGood c → is_nearest c ≡ true → Good Binary c (changed_tree Binary c)
binary_made c (is_first p) w near = made 1 2 2 2 t.Power c op.level_power keeps_power (inl (omega arith))
    (inl (omega arith)) (λ x p e. omega arith) (λ h. omega arith) (below_same 2) p w near
binary_made c (is_second (is_first p)) w near = made 6 5 6 6 t.Factor c op.level_factor keeps_factor
    (inl (omega arith)) (inl (omega arith)) (λ x p e. omega arith) (λ h. omega arith) (below_same 6) p w near
binary_made c (is_second (is_second (is_first p))) w near = made 7 6 7 7 t.Plus c op.level_plus keeps_plus
    (inl (omega arith)) (inl (omega arith)) (λ x p e. omega arith) (λ h. omega arith) (below_same 7) p w near
binary_made c (is_second (is_second (is_second (is_first p)))) w near =
    made 7 6 7 7 t.Minus c op.level_minus keeps_minus (inl (omega arith)) (inl (omega arith)) (λ x p e. omega arith)
    (λ h. omega arith) (below_same 7) p w near
binary_made c (is_second (is_second (is_second (is_second (is_first p))))) w near =
    made 8 7 8 8 t.Shift c op.level_shift keeps_shift (inr (inr refl)) (inl (omega arith)) (λ x p e. omega arith)
    (λ h. omega arith) (below_same 8) p w near
binary_made c (is_second (is_second (is_second (is_second (is_second (is_first p)))))) w near =
    made 7 6 7 9 t.Dot c op.level_dot keeps_dot (inl (omega arith)) (inl (omega arith)) not_dot (λ h. omega arith)
    below_dot p w near
binary_made c (is_second (is_second (is_second (is_second (is_second (is_second (is_first p))))))) w near =
    made 9 9 10 10 t.Order c op.level_order keeps_order (inr (inl (omega arith))) (inl (omega arith))
    (λ x p e. omega arith) (λ h. omega arith) (below_same 10) p w near
binary_made c (is_second (is_second (is_second (is_second (is_second (is_second (is_second (is_first p)))))))) w near
    = made 10 10 11 11 t.Equality c op.level_equality keeps_equality (inr (inl (omega arith))) (inl (omega arith))
    (λ x p e. omega arith) (λ h. omega arith) (below_same 11) p w near
binary_made c (is_second (is_second (is_second (is_second (is_second
    (is_second (is_second (is_second (is_first p))))))))) w near =
    made 12 11 12 12 t.Ampersand c op.level_ampersand keeps_ampersand (inr (inl (omega arith))) (inl (omega arith))
    (λ x p e. omega arith) (λ h. omega arith) (below_same 12) p w near
binary_made c (is_second (is_second (is_second (is_second (is_second
    (is_second (is_second (is_second (is_second (is_first p)))))))))) w near =
    made 13 12 13 13 t.Caret c op.level_caret keeps_caret (inr (inl (omega arith))) (inl (omega arith))
    (λ x p e. omega arith) (λ h. omega arith) (below_same 13) p w near
binary_made c (is_second (is_second (is_second (is_second (is_second
    (is_second (is_second (is_second (is_second (is_second (is_first p))))))))))) w near =
    made 14 13 14 14 t.Bar c op.level_bar keeps_bar (inr (inl (omega arith))) (inl (omega arith))
    (λ x p e. omega arith) (λ h. omega arith) (below_same 14) p w near
binary_made c (is_second (is_second (is_second (is_second (is_second
    (is_second (is_second (is_second (is_second (is_second (is_second (is_first p)))))))))))) w near =
    made 15 14 15 15 t.BooleanAnd c op.level_booleanand keeps_booleanand (inr (inl (omega arith))) (inl (omega arith))
    (λ x p e. omega arith) (λ h. omega arith) (below_same 15) p w near
binary_made c (is_second (is_second (is_second (is_second (is_second
    (is_second (is_second (is_second (is_second (is_second (is_second (is_second (is_first p))))))))))))) w near =
    made 16 15 16 16 t.BooleanOr c op.level_booleanor keeps_booleanor (inr (inl (omega arith))) (inl (omega arith))
    (λ x p e. omega arith) (λ h. omega arith) (below_same 16) p w near
binary_made c (is_second (is_second (is_second (is_second (is_second
    (is_second (is_second (is_second (is_second (is_second (is_second (is_second (is_second (is_first p))))))))))))))
    w near = made 16 17 17 17 t.Coalesce c op.level_coalesce keeps_coalesce (inr (inl (omega arith)))
    (inl (omega arith)) (λ x p e. omega arith) (λ h. omega arith) (below_same 17) p w near
binary_made c (is_second (is_second (is_second (is_second (is_second
    (is_second (is_second (is_second (is_second (is_second (is_second
    (is_second (is_second (is_second (is_first p))))))))))))))) w near =
    made 21 20 21 21 t.And c op.level_and keeps_and (inr (inl (omega arith))) (inr (omega arith))
    (λ x p e. omega arith) (λ h. absurd (omega arith)) (below_same 21) p w near
binary_made c (is_second (is_second (is_second (is_second (is_second
    (is_second (is_second (is_second (is_second (is_second (is_second
    (is_second (is_second (is_second (is_second (is_first p)))))))))))))))) w near =
    made 22 21 22 22 t.Xor c op.level_xor keeps_xor (inr (inl (omega arith))) (inr (omega arith))
    (λ x p e. omega arith) (λ h. absurd (omega arith)) (below_same 22) p w near
binary_made c (is_second (is_second (is_second (is_second (is_second
    (is_second (is_second (is_second (is_second (is_second (is_second
    (is_second (is_second (is_second (is_second (is_second (p))))))))))))))))) w near =
    made 23 22 23 23 t.Or c op.level_or keeps_or (inr (inl (omega arith))) (inr (omega arith)) (λ x p e. omega arith)
    (λ h. absurd (omega arith)) (below_same 23) p w near

pub good_binary : (a : Option Around) (c : Forest) → AllGood c → IsNode V74 Binary c → Good Binary c (new_tree a Binary c)
good_binary a c w (is_node f near fine) =
    subst (Good Binary c) (sym (new_tree_is a Binary c)) (wrapped_good Binary c (all.wrapping a (Binary, c)) (changed_tree Binary c) refl (binary_made c f w near))
