-- `if` statements with colons are read as they were.
use Rattle.std.proofs.Common.{◌≡◌, ℕ, ◌≤◌, Bool, true, false, List, [], ◌∷◌, ◌++◌, Some, refl, sym, ap, ◌∙◌, subst}
use Rattle.php_tree.specs.declared.kind.NodeKind.TheVariants as k
use Rattle.php_tree.specs.declared.token.Token.{Token}
use Rattle.php_tree.specs.declared.version.Version.{Version}
use Rattle.php_tree.specs.declared.version.Version.TheVariants.{V74, V83}
use Rattle.php_tree.specs.Tree.{Forest, none, leaf, node, ◌+++◌, leaves, count}
use Rattle.php_terminals.specs.declared.terminal.Terminal.{Terminal}
use Rattle.php_terminals.specs.declared.terminal.Terminal.TheVariants as t
use Rattle.php_terminals.specs.Classify.{terminal}
use Rattle.php_terminals.specs.Ahead.{first_of}
use Rattle.php_forms.specs.declared.item.Sort.TheVariants as s
use Rattle.php_forms.specs.declared.item.Group.TheVariants as g
use Rattle.php_forms.specs.declared.item.Item.{Item}
use Rattle.php_forms.specs.declared.item.Item.TheVariants.{Word, Part, Repeats}
use Rattle.php_forms.specs.Forms.{any}
use Rattle.php_forms.specs.Grammar.{Grows, Walks, head, ends, part, stop, repeat}
use Rattle.php_forms.specs.Heads.{if_form, statement_form}
use Rattle.php_forms.specs.Statements.{alt_else, alt_else_ifs, statements as repeat_of}
use Rattle.php_grammar.specs.Accepts.{accepts, same_class}
use Rattle.php_grammar.specs.Tables.{php}
use Rattle.php_exprs.proofs.Forests.{forest_assoc}
use Rattle.php_shapes.specs.Nearest.{elses_are_nearest}
use Rattle.php_shapes.specs.Notation.{Rule, word, ◌~◌, many, maybe}
use Rattle.php_shapes.specs.Shapes.{Fits, is_both, is_first, is_second, no_more, once_more, IsNode}
use Rattle.php_shapes.specs.Statements.{condition, statements}
use Rattle.php_shapes.proofs.ReadClasses.{could, for_all, pinned, whenever}
use Rattle.php_shapes.proofs.ReadEnds.{Below}
use Rattle.php_shapes.proofs.ReadMatch.{before_none, both_is, false_true, FitsAll, fits_alone, Last, leaves_before, left_le, matched, matches, nothing_is, right_le, word_is}
use Rattle.php_shapes.proofs.ReadNearest.{elses_nearest, follows_statement, last_near, nearest_right, shaped}
use Rattle.php_shapes.proofs.ReadBodies.{has_token, statements_read, walks_on}
use Rattle.php_shapes.proofs.ReadIfs.{if_chosen, regroup}
use Rattle.php_shapes.proofs.ReadStatements.{begins_with, begun, StatementGrows}

-- an `elseif` with colons
abbrev alt_else_if : Rule
alt_else_if = word t.ElseIf ~ condition ~ word t.Colon ~ statements

-- an `else` with a colon
abbrev alt_else_rule : Rule
alt_else_rule = word t.Else ~ word t.Colon ~ statements

-- the end
abbrev alt_end : Rule
alt_end = word t.EndIf ~ word t.Semi

abbrev any_class : Terminal → Bool
any_class c = true

abbrev opening : Terminal → List Item
opening w = Word w ∷ Word t.OpenParen ∷ any ∷ Word t.CloseParen ∷ Word t.Colon ∷ []

abbrev else_opening : List Item
else_opening = Word t.Else ∷ Word t.Colon ∷ []

abbrev ending : List Item
ending = Word t.EndIf ∷ Word t.Semi ∷ []

-- parts that begin with a token before which statements end
abbrev Halts : Forest → Type 0
Halts none = ⊥
Halts (leaf x f) = (follows_statement (terminal x) ≡ true) × (repeat_of (terminal x) ≡ [])
Halts (node j b f) = ⊥

halted : (before : Bool) (a m : Forest) (rest : List Token) → Halts m → elses_are_nearest before (a +++ m) ≡ true
    → Last a (leaves m ++ rest) × (repeat_of (first_of (leaves m ++ rest)) ≡ [])
halted before a none rest h e = absurd h
halted before a (leaf x m) rest h e = (last_near before a x m (leaves m ++ rest) e h.0, h.1)
halted before a (node j b m) rest h e = absurd h

halts_with : (v : Version) (w : Terminal) (r : Rule) (f m : Forest)
    → for_all (λ c. whenever (could v w c) (same_class w c)) ≡ true → follows_statement w ≡ true → repeat_of w ≡ []
    → Fits v (word w ~ r) f → Halts (f +++ m)
halts_with v w r f m p d n (is_both {g = g} {h = h} x y e) =
    let q : (z : Token) × (g ≡ leaf z none) × (accepts v w z ≡ true) = word_is v w g x in
    subst (λ (i : Forest). Halts (i +++ m)) (sym (e ∙ ap (λ (i : Forest). i +++ h) q.1))
    (subst (λ (c : Terminal). (follows_statement c ≡ true) × (repeat_of c ≡ [])) (sym (pinned v w q.0 p q.2)) (d, n))

pinned_words : (v : Version) → (for_all (λ c. whenever (could v t.Else c) (same_class t.Else c)) ≡ true)
    × (for_all (λ c. whenever (could v t.ElseIf c) (same_class t.ElseIf c)) ≡ true)
    × (for_all (λ c. whenever (could v t.EndIf c) (same_class t.EndIf c)) ≡ true)
unfolding for_all
pinned_words V74 = (refl, refl, refl)
pinned_words V83 = (refl, refl, refl)

end_halts : (v : Version) (z m : Forest) → Fits v alt_end z → Halts (z +++ m)
end_halts v z m x = halts_with v t.EndIf (word t.Semi) z m ((pinned_words v).2) refl refl x

else_halts : (v : Version) (h z m : Forest) → Fits v (maybe alt_else_rule) h → Fits v alt_end z → Halts ((h +++ z) +++ m)
else_halts v h z m (is_first x) y = subst (λ (i : Forest). Halts ((i +++ z) +++ m)) (sym (nothing_is v h x)) (end_halts v z m y)
else_halts v h z m (is_second x) y = subst Halts (sym (forest_assoc h z m)) (halts_with v t.Else (word t.Colon ~ statements) h (z +++ m) ((pinned_words v).0) refl refl x)

ifs_halt : (v : Version) (p h z : Forest) → Fits v (many alt_else_if) p → Fits v (maybe alt_else_rule) h → Fits v alt_end z → Halts (p +++ (h +++ z))
ifs_halt v p h z no_more y w = subst Halts (before_none (h +++ z)) (else_halts v h z none y w)
ifs_halt v p h z (once_more {g = a} {h = m} x xs e) y w = subst Halts
    (sym (ap (λ (i : Forest). i +++ (h +++ z)) e ∙ forest_assoc a m (h +++ z)))
    (halts_with v t.ElseIf (condition ~ word t.Colon ~ statements) a (m +++ (h +++ z)) ((pinned_words v).1) refl refl
    x)

-- ---- matched openings

if_opens : (v : Version) → matches v 60 false (word t.If ∷ condition ∷ word t.Colon ∷ []) (opening t.If) any_class ≡ true
unfolding for_all
if_opens V74 = refl
if_opens V83 = refl

else_if_opens : (v : Version) → matches v 60 false (word t.ElseIf ∷ condition ∷ word t.Colon ∷ []) (opening t.ElseIf) any_class ≡ true
unfolding for_all
else_if_opens V74 = refl
else_if_opens V83 = refl

else_opens : (v : Version) → matches v 60 false (word t.Else ∷ word t.Colon ∷ []) else_opening any_class ≡ true
unfolding for_all
else_opens V74 = refl
else_opens V83 = refl

end_matches : (v : Version) → matches v 60 false (alt_end ∷ []) ending any_class ≡ true
unfolding for_all
end_matches V74 = refl
end_matches V83 = refl

first_words : (v : Version) → (begins_with v alt_else_rule t.Else ≡ true) × (begins_with v alt_else_if t.ElseIf ≡ true) × (begins_with v alt_end t.EndIf ≡ true)
unfolding for_all
first_words V74 = (refl, refl, refl)
first_words V83 = (refl, refl, refl)

-- ---- the parts

module _ (v : Version) (n : ℕ) (below : Below v n) where
  -- an opening and its statements
  opened : (rs : List Rule) (is : List Item) (before : Bool) (b q m : Forest) (rest : List Token)
      → matches v 60 false rs is any_class ≡ true → FitsAll v rs b → Fits v statements q → Halts m
      → elses_are_nearest before ((b +++ q) +++ m) ≡ true → count (b +++ q) ≤ n
      → Walks (php v) (is ++ (Repeats g.Statements ∷ [])) (b +++ q) (leaves m ++ rest)
  opened rs is before b q m rest e x y h near le =
      let after : (o : Bool) × (elses_are_nearest o (q +++ m) ≡ true) =
      nearest_right before b (q +++ m) (subst (λ (i : Forest). elses_are_nearest before i ≡ true)
      (forest_assoc b q m) near) in
      let z : Last q (leaves m ++ rest) × (repeat_of (first_of (leaves m ++ rest)) ≡ []) = halted after.0 q m rest h after.1 in
      walks_on (php v) is (Repeats g.Statements ∷ []) b q (leaves m ++ rest)
      (matched v n below 60 false rs is any_class b (leaves q ++ (leaves m ++ rest)) e x (left_le b q n le) refl (λ f. absurd (false_true f)))
      (statements_read v n below q (leaves m ++ rest) y (right_le b q n le) z.1 z.0)

  end_walks : (z : Forest) (rest : List Token) → Fits v alt_end z → count z ≤ n → Walks (php v) ending z rest
  end_walks z rest x le = matched v n below 60 false (alt_end ∷ []) ending any_class z rest (end_matches v) (fits_alone v alt_end z x) le refl (λ f. absurd (false_true f))

  -- the `else`, or none, and the end
  else_walks : (before : Bool) (h z : Forest) (rest : List Token) → Fits v (maybe alt_else_rule) h → Fits v alt_end z
      → elses_are_nearest before (h +++ z) ≡ true → count (h +++ z) ≤ n
      → Walks (php v) (Repeats g.AltElseIfs ∷ Part g.AltElse ∷ ending) (h +++ z) rest
  else_walks before h z rest (is_first x) y near le =
      let no : h ≡ none = nothing_is v h x in
      let b : first_of (leaves z ++ rest) ≡ t.EndIf = begun v alt_end t.EndIf z rest y refl ((first_words v).2) in
      subst (λ (m : Forest). Walks (php v) (Repeats g.AltElseIfs ∷ Part g.AltElse ∷ ending) (m +++ z) rest) (sym no)
      (stop (ap alt_else_ifs b) (part {h = none} {f = z} (subst
      (λ (is : List Item). Walks (php v) is none (leaves z ++ rest)) (sym (ap alt_else b)) ends)
      (end_walks z rest y (right_le h z n le))))
  else_walks before h z rest (is_second x) y near le =
      let p : (i : Forest) × (r : Forest) × Fits v (word t.Else) i × Fits v (word t.Colon ~ statements) r
      × (h ≡ i +++ r) = both_is v (word t.Else) (word t.Colon ~ statements) h x in
      let q : (i : Forest) × (r : Forest) × Fits v (word t.Colon) i × Fits v statements r × (p.1 ≡ i +++ r) = both_is v (word t.Colon) statements p.1 p.3 in
      let at : h ≡ (p.0 +++ q.0) +++ q.1 = p.4 ∙ ap (λ (i : Forest). p.0 +++ i) q.4 ∙ sym (forest_assoc p.0 q.0 q.1) in
      let b : first_of (leaves h ++ (leaves z ++ rest)) ≡ t.Else = begun v alt_else_rule t.Else h (leaves z ++ rest) x refl ((first_words v).0) in
      let hs : Halts z = subst Halts (before_none z) (end_halts v z none y) in
      let w : Walks (php v) (else_opening ++ (Repeats g.Statements ∷ [])) h (leaves z ++ rest) =
      subst (λ (m : Forest). Walks (php v) (else_opening ++ (Repeats g.Statements ∷ [])) m (leaves z ++ rest))
      (sym at) (opened (word t.Else ∷ word t.Colon ∷ []) else_opening before (p.0 +++ q.0) q.1 z rest
      (else_opens v) (p.0, q.0, p.2, fits_alone v (word t.Colon) q.0 q.2, refl) q.3 hs
      (subst (λ (m : Forest). elses_are_nearest before (m +++ z) ≡ true) at near)
      (subst (λ (m : Forest). count m ≤ n) at (left_le h z n le))) in
      stop (ap alt_else_ifs (ap first_of (leaves_before h z rest) ∙ b))
      (part (subst (λ (is : List Item). Walks (php v) is h (leaves z ++ rest)) (sym (ap alt_else b)) w) (end_walks z rest y (right_le h z n le)))

  -- each `elseif`, and then the others
  else_ifs_walk : (before : Bool) (p h z : Forest) (rest : List Token) → Fits v (many alt_else_if) p
      → Fits v (maybe alt_else_rule) h → Fits v alt_end z → elses_are_nearest before (p +++ (h +++ z)) ≡ true
      → count (p +++ (h +++ z)) ≤ n → Walks (php v) (Repeats g.AltElseIfs ∷ Part g.AltElse ∷ ending) (p +++ (h +++ z))
      rest
  else_ifs_walk before p h z rest no_more y w near le = else_walks before h z rest y w near le
  else_ifs_walk before p h z rest (once_more {g = a} {h = m} x xs e) y w near le =
      let f : Forest = m +++ (h +++ z) in
      let whole : p +++ (h +++ z) ≡ a +++ f = ap (λ (i : Forest). i +++ (h +++ z)) e ∙ forest_assoc a m (h +++ z) in
      let le2 : count (a +++ f) ≤ n = subst (λ (i : Forest). count i ≤ n) whole le in
      let near2 : elses_are_nearest before (a +++ f) ≡ true = subst (λ (i : Forest). elses_are_nearest before i ≡ true) whole near in
      let o1 : (i : Forest) × (r : Forest) × Fits v (word t.ElseIf) i
      × Fits v (condition ~ word t.Colon ~ statements) r
      × (a ≡ i +++ r) = both_is v (word t.ElseIf) (condition ~ word t.Colon ~ statements) a x in
      let o2 : (i : Forest) × (r : Forest) × Fits v condition i × Fits v (word t.Colon ~ statements) r
      × (o1.1 ≡ i +++ r) = both_is v condition (word t.Colon ~ statements) o1.1 o1.3 in
      let o3 : (i : Forest) × (r : Forest) × Fits v (word t.Colon) i × Fits v statements r × (o2.1 ≡ i +++ r) = both_is v (word t.Colon) statements o2.1 o2.3 in
      let b : Forest = o1.0 +++ (o2.0 +++ o3.0) in
      let at : a ≡ b +++ o3.1 = o1.4 ∙ ap (λ (i : Forest). o1.0 +++ i) (o2.4 ∙ ap (λ (i : Forest). o2.0 +++ i) o3.4) ∙ regroup o1.0 o2.0 o3.0 o3.1 in
      let after : (o : Bool) × (elses_are_nearest o f ≡ true) = nearest_right before a f near2 in
      let wa : Walks (php v) (opening t.ElseIf ++ (Repeats g.Statements ∷ [])) a (leaves f ++ rest) =
      subst (λ (i : Forest). Walks (php v) (opening t.ElseIf ++ (Repeats g.Statements ∷ [])) i (leaves f ++ rest))
      (sym at) (opened (word t.ElseIf ∷ condition ∷ word t.Colon ∷ []) (opening t.ElseIf) before b o3.1 f rest
      (else_if_opens v) (
        o1.0,
        o2.0 +++ o3.0,
        o1.2,
        (o2.0, o3.0, o2.2, fits_alone v (word t.Colon) o3.0 o3.2, refl),
        refl,
      ) o3.3 (ifs_halt v m h z xs y w)
      (subst (λ (i : Forest). elses_are_nearest before (i +++ f) ≡ true) at near2)
      (subst (λ (i : Forest). count i ≤ n) at (left_le a f n le2))) in
      subst (λ (i : Forest). Walks (php v) (Repeats g.AltElseIfs ∷ Part g.AltElse ∷ ending) i rest) (sym whole)
      (repeat {h = a} {f = f} (ap alt_else_ifs (begun v alt_else_if t.ElseIf a (leaves f ++ rest) x refl ((first_words v).1))) wa (has_token v alt_else_if a x refl)
      (else_ifs_walk after.0 m h z rest xs y w after.1 (right_le a f n le2)))

-- ---- the whole

colon_first : (v : Version) → begins_with v (word t.Colon ~ statements ~ many alt_else_if ~ maybe alt_else_rule ~ alt_end) t.Colon ≡ true
unfolding for_all
colon_first V74 = refl
colon_first V83 = refl

whole_grows : (v : Version) (n : ℕ) → Below v n → (c i d o b p h z : Forest) (rest : List Token)
    → Fits v (word t.If) i → Fits v condition d → Fits v (word t.Colon) o → Fits v statements b
    → Fits v (many alt_else_if) p → Fits v (maybe alt_else_rule) h → Fits v alt_end z
    → c ≡ i +++ (d +++ (o +++ (b +++ (p +++ (h +++ z))))) → count c ≤ n → IsNode v k.IfAlt c
    → Grows (php v) s.Statement k.IfAlt c rest
whole_grows v n below c i d o b p h z rest xi xd xo xb xp xh xz e le x =
    let a : Forest = i +++ (d +++ o) in
    let f : Forest = p +++ (h +++ z) in
    let at : c ≡ (a +++ b) +++ f = e ∙ regroup i d o (b +++ f) ∙ sym (forest_assoc a b f) in
    let near : elses_are_nearest false ((a +++ b) +++ f) ≡ true = subst (λ (y : Forest). elses_are_nearest false y ≡ true) at (elses_nearest v k.IfAlt c x) in
    let le2 : count ((a +++ b) +++ f) ≤ n = subst (λ (y : Forest). count y ≤ n) at le in
    let after : (u : Bool) × (elses_are_nearest u f ≡ true) = nearest_right false (a +++ b) f near in
    let colon : first_of (leaves (o +++ (b +++ f)) ++ rest) ≡ t.Colon =
    begun v (word t.Colon ~ statements ~ many alt_else_if ~ maybe alt_else_rule ~ alt_end) t.Colon
    (o +++ (b +++ f)) rest (is_both xo (is_both xb (is_both xp (is_both xh xz refl) refl) refl) refl) refl
    (colon_first v) in
    head (ap (λ (y : Forest). statement_form (leaves y ++ rest)) e ∙ if_chosen v i d (o +++ (b +++ f)) rest xi xd ∙ ap (λ (u : Terminal). Some (if_form u)) colon)
    (subst (λ (y : Forest). Walks (php v) ((opening t.If ++ (Repeats g.Statements ∷ [])) ++ (Repeats g.AltElseIfs ∷ Part g.AltElse ∷ ending)) y rest) (sym at)
    (walks_on (php v) (opening t.If ++ (Repeats g.Statements ∷ [])) (Repeats g.AltElseIfs ∷ Part g.AltElse ∷ ending) (a +++ b) f rest
    (opened v n below (word t.If ∷ condition ∷ word t.Colon ∷ []) (opening t.If) false a b f rest (if_opens v)
    (i, d +++ o, xi, (d, o, xd, fits_alone v (word t.Colon) o xo, refl), refl) xb (ifs_halt v p h z xp xh xz) near
    (left_le (a +++ b) f n le2))
    (else_ifs_walk v n below after.0 p h z rest xp xh xz after.1 (right_le (a +++ b) f n le2))))

pub if_colons_grows : (v : Version) (n : ℕ) → Below v n → StatementGrows v n k.IfAlt
if_colons_grows v n below c rest le x e =
    let o1 : (i : Forest) × (r : Forest) × Fits v (word t.If) i
    × Fits v (condition ~ word t.Colon ~ statements ~ many alt_else_if ~ maybe alt_else_rule ~ alt_end) r
    × (c ≡ i +++ r) = both_is v (word t.If)
    (condition ~ word t.Colon ~ statements ~ many alt_else_if ~ maybe alt_else_rule ~ alt_end) c
    (shaped v k.IfAlt c x) in
    let o2 : (i : Forest) × (r : Forest) × Fits v condition i
    × Fits v (word t.Colon ~ statements ~ many alt_else_if ~ maybe alt_else_rule ~ alt_end) r
    × (o1.1 ≡ i +++ r) = both_is v condition
    (word t.Colon ~ statements ~ many alt_else_if ~ maybe alt_else_rule ~ alt_end) o1.1 o1.3 in
    let o3 : (i : Forest) × (r : Forest) × Fits v (word t.Colon) i
    × Fits v (statements ~ many alt_else_if ~ maybe alt_else_rule ~ alt_end) r
    × (o2.1 ≡ i +++ r) = both_is v (word t.Colon) (statements ~ many alt_else_if ~ maybe alt_else_rule ~ alt_end)
    o2.1 o2.3 in
    let o4 : (i : Forest) × (r : Forest) × Fits v statements i
    × Fits v (many alt_else_if ~ maybe alt_else_rule ~ alt_end) r
    × (o3.1 ≡ i +++ r) = both_is v statements (many alt_else_if ~ maybe alt_else_rule ~ alt_end) o3.1 o3.3 in
    let o5 : (i : Forest) × (r : Forest) × Fits v (many alt_else_if) i × Fits v (maybe alt_else_rule ~ alt_end) r
    × (o4.1 ≡ i +++ r) = both_is v (many alt_else_if) (maybe alt_else_rule ~ alt_end) o4.1 o4.3 in
    let o6 : (i : Forest) × (r : Forest) × Fits v (maybe alt_else_rule) i × Fits v alt_end r × (o5.1 ≡ i +++ r) = both_is v (maybe alt_else_rule) alt_end o5.1 o5.3 in
    whole_grows v n below c o1.0 o2.0 o3.0 o4.0 o5.0 o6.0 o6.1 rest o1.2 o2.2 o3.2 o4.2 o5.2 o6.2 o6.3
    (o1.4 ∙ ap (λ (f : Forest). o1.0 +++ f) (o2.4 ∙ ap (λ (f : Forest). o2.0 +++ f)
    (o3.4 ∙ ap (λ (f : Forest). o3.0 +++ f)
    (o4.4 ∙ ap (λ (f : Forest). o4.0 +++ f) (o5.4 ∙ ap (λ (f : Forest). o5.0 +++ f) o6.4)))))
    le x
