-- What the rules make of a file's parts: no piece with `?->` comes directly behind a variable.
use Rattle.std.proofs.Common.{◌≡◌, ℕ, Bool, true, false, not, cond, ◌&&◌, ◌||◌, if◌then◌else◌, nat_eq, codes, List, [], ◌∷◌, ◌++◌, Option, refl, sym, ap, ◌∙◌, subst, append-nil}
use Rattle.std.proofs.lemmas.Bool.{or_parts, and_from}
use Rattle.php_tree.specs.declared.kind.NodeKind.{NodeKind}
use Rattle.php_tree.specs.declared.kind.NodeKind.TheVariants as k
use Rattle.php_tree.specs.declared.token.Token.{Token}
use Rattle.php_tree.specs.declared.token.TokenKind.{TokenKind}
use Rattle.php_tree.specs.declared.token.TokenKind.TheVariants as kind
use Rattle.php_tree.specs.Tree.{Forest, none, leaf, node, ◌+++◌}
use Rattle.tracked_changes.specs.patches.Patches.{Wrapping, InParens}
use Rattle.tracked_changes.specs.Pieces.{after, before}
use Rattle.tracked_changes.specs.Draft.{NewToken, Draft, no_more, new_leaf, new_node, ◌then◌}
use Rattle.tracked_changes.specs.Leads.{first_lead, holds_none, without_lead}
use Rattle.tracked_changes.specs.Parens.{in_wrappings}
use Rattle.tracked_changes.specs.Tokens.{put_also, put_in, retexted}
use Rattle.tracked_changes.specs.Walk.{NewTree}
use Rattle.syntax_rules.specs.Around.{Around, within}
use Rattle.syntax_rules.specs.DollarBrace.{before_last, begins_dollar_brace, curly, dollar_name, ends_bare, escaped, parts}
use Rattle.syntax_rules.specs.HashComment.{hash_comment}
use Rattle.syntax_rules.specs.RealCast.{is_real_cast, real_cast}
use Rattle.syntax_rules.specs.Rewritten.{wrapping}
use Rattle.syntax_rules.specs.UnsetCast.{is_edited, opening, unset_cast}
use Rattle.rewritten_shapes.proofs.Sides.{written_none}
use Rattle.rewritten_shapes.proofs.Tabled.{changed, written}
use Rattle.php_spellings.specs.Bytes.{begins, is_letter}
use Rattle.written_tokens.specs.tokens.Written.{begins_question, draft_tokens, has_nullsafe, is_piece, is_quoted_node, is_variable_node, new_lexeme, piece_questions}
use Rattle.written_tokens.specs.tokens.Written as written_file
use Rattle.rewritten_shapes.specs.paired.Paired as pairs
use Rattle.rewritten_shapes.specs.paired.Paired.{Paired, Interpolated, IsSimple, IsKey, is_common}
use Rattle.rewritten_shapes.specs.paired.Tokens.{IsMark, is_code_kind, is_code_token, opens_text}
use Rattle.rewritten_shapes.proofs.paired.Asked.{both_left, both_right}
use Rattle.written_tokens.specs.names.Neighbours.{is_variable_kind}
use Rattle.written_reading.proofs.drafts.Drawn.{kind_is, of_kind, of_text, text_is}
use Rattle.written_reading.proofs.drafts.Texts.{common_changed}

-- ---- drafts

-- whether a token may come behind a variable or another token
abbrev pub may_come : Bool → NewToken → Bool
may_come v t = not (v && is_piece t.kind && begins_question (after t.text))

-- whether a variable stands last
abbrev pub last_variable : Bool → Draft → Bool
last_variable v no_more = v
last_variable v (new_leaf t d) = last_variable (is_variable_kind t.kind) d
last_variable v (new_node k c d) = last_variable (last_variable v c) d

abbrev pub safe : Bool → Draft → Bool
safe v no_more = true
safe v (new_leaf t d) = may_come v t && safe (is_variable_kind t.kind) d
safe v (new_node k c d) = safe v c && safe (last_variable v c) d

-- whatever stands before
abbrev pub AllSafe : Draft → Type 0
AllSafe d = (v : Bool) → safe v d ≡ true

no_piece : (v : Bool) (t : NewToken) → is_piece t.kind ≡ false → may_come v t ≡ true
no_piece v t e = ap (λ (b : Bool). not (v && b && begins_question (after t.text))) e ∙ go v
  where
    go : (v : Bool) → not (v && false && begins_question (after t.text)) ≡ true
    go true = refl
    go false = refl

safe_leaf : (t : NewToken) (d : Draft) → is_piece t.kind ≡ false → AllSafe d → AllSafe (new_leaf t d)
safe_leaf t d e o v = and_from (may_come v t) (safe (is_variable_kind t.kind) d) (no_piece v t e) (o (is_variable_kind t.kind))

safe_node : (j : NodeKind) (c d : Draft) → AllSafe c → AllSafe d → AllSafe (new_node j c d)
safe_node j c d p q v = and_from (safe v c) (safe (last_variable v c) d) (p v) (q (last_variable v c))

safe_none : AllSafe no_more
safe_none v = refl

safe_after : (d e : Draft) (v : Bool) → safe v d ≡ true → AllSafe e → safe v (d then e) ≡ true
safe_after no_more e v p q = q v
safe_after (new_leaf t d) e v p q =
    and_from (may_come v t) (safe (is_variable_kind t.kind) (d then e)) (both_left (may_come v t) (safe (is_variable_kind t.kind) d) p)
    (safe_after d e (is_variable_kind t.kind) (both_right (may_come v t) (safe (is_variable_kind t.kind) d) p) q)
safe_after (new_node k c d) e v p q =
    and_from (safe v c) (safe (last_variable v c) (d then e)) (both_left (safe v c) (safe (last_variable v c) d) p)
    (safe_after d e (last_variable v c) (both_right (safe v c) (safe (last_variable v c) d) p) q)

safe_join : (d e : Draft) → AllSafe d → AllSafe e → AllSafe (d then e)
safe_join d e p q v = safe_after d e v (p v) q

lead_last : (d : Draft) (v : Bool) → last_variable v (without_lead d) ≡ last_variable v d
lead_last no_more v = refl
lead_last (new_leaf t d) v = refl
lead_last (new_node k c d) v = by_lead (holds_none c) (lead_last d (last_variable v c)) (ap (λ (z : Bool). last_variable z d) (lead_last c v))
  where
    by_lead : (b : Bool) → last_variable (last_variable v c) (without_lead d) ≡ last_variable v (new_node k c d)
        → last_variable (last_variable v (without_lead c)) d ≡ last_variable v (new_node k c d)
        → last_variable v (cond b (new_node k c (without_lead d)) (new_node k (without_lead c) d)) ≡ last_variable v
        (new_node k c d)
    by_lead true p q = p
    by_lead false p q = q

lead_safe : (d : Draft) (v : Bool) → safe v (without_lead d) ≡ safe v d
lead_safe no_more v = refl
lead_safe (new_leaf t d) v = refl
lead_safe (new_node k c d) v =
    by_lead (holds_none c) (ap (λ (z : Bool). safe v c && z) (lead_safe d (last_variable v c)))
    (ap (λ (z : Bool). z && safe (last_variable v (without_lead c)) d) (lead_safe c v) ∙ ap (λ (z : Bool). safe v c && safe z d) (lead_last c v))
  where
    by_lead : (b : Bool) → (safe v c && safe (last_variable v c) (without_lead d)) ≡ safe v (new_node k c d)
        → (safe v (without_lead c) && safe (last_variable v (without_lead c)) d) ≡ safe v (new_node k c d)
        → safe v (cond b (new_node k c (without_lead d)) (new_node k (without_lead c) d)) ≡ safe v (new_node k c d)
    by_lead true p q = p
    by_lead false p q = q

wraps_safe : (ws : List Wrapping) (t : NewTree) → AllSafe t.1 → AllSafe (in_wrappings ws t).1
wraps_safe [] t p = p
wraps_safe (InParens ∷ ws) t p =
    let inside = in_wrappings ws t in
    safe_leaf (put_in (first_lead inside.1) (codes "(")) (new_node inside.0 (without_lead inside.1) (new_leaf (put_in [] (codes ")")) no_more)) refl
    (safe_node inside.0 (without_lead inside.1) (new_leaf (put_in [] (codes ")")) no_more)
    (λ v. lead_safe inside.1 v ∙ wraps_safe ws t p v) (safe_leaf (put_in [] (codes ")")) no_more refl safe_none))

wraps_last : (ws : List Wrapping) (t : NewTree) → ((v : Bool) → last_variable v t.1 ≡ false) → (v : Bool) → last_variable v (in_wrappings ws t).1 ≡ false
wraps_last [] t p v = p v
wraps_last (InParens ∷ ws) t p v = refl

-- what becomes of a node where it stands
abbrev new_here : (Bool → Option Around) → Bool → NodeKind → Forest → NewTree
new_here a b j c = in_wrappings (wrapping (a b) (j, c)) (changed (j, c) (j, written (within j c) true c))

leaf_step : (v : Bool) (t : NewToken) (d : Draft) → is_piece t.kind ≡ false → safe (is_variable_kind t.kind) d ≡ true → safe v (new_leaf t d) ≡ true
leaf_step v t d e h = and_from (may_come v t) (safe (is_variable_kind t.kind) d) (no_piece v t e) h

node_step : (v : Bool) (j : NodeKind) (c d : Draft) → safe v c ≡ true → safe (last_variable v c) d ≡ true → safe v (new_node j c d) ≡ true
node_step v j c d p q = and_from (safe v c) (safe (last_variable v c) d) p q

node_safe : (j : NodeKind) (c f : Forest) (a : Bool → Option Around) (b : Bool)
    → AllSafe (changed (j, c) (j, written (within j c) true c)).1 → AllSafe (written a false f)
    → AllSafe (written a b (node j c f))
node_safe j c f a b p q =
    safe_node (new_here a b j c).0 (new_here a b j c).1 (written a false f) (wraps_safe (wrapping (a b) (j, c)) (changed (j, c) (j, written (within j c) true c)) p) q

-- ---- what no quoted text has

abbrev pub IsSafe : Forest → Type 0
IsSafe f = written_file.is_safe f ≡ true

safe_front : (f g : Forest) → IsSafe (f +++ g) → IsSafe f
safe_front none g h = refl
safe_front (leaf x f) g h = safe_front f g h
safe_front (node j c f) g h =
    let own = not (is_quoted_node j && has_nullsafe c) in
    let rest = both_right (not (is_quoted_node j && has_nullsafe c)) (written_file.is_safe c && written_file.is_safe (f +++ g)) h in
    and_from (not (is_quoted_node j && has_nullsafe c)) (written_file.is_safe c && written_file.is_safe f)
    (both_left (not (is_quoted_node j && has_nullsafe c))
    (written_file.is_safe c && written_file.is_safe (f +++ g)) h)
    (and_from (written_file.is_safe c) (written_file.is_safe f) (both_left (written_file.is_safe c) (written_file.is_safe (f +++ g)) rest)
    (safe_front f g (both_right (written_file.is_safe c) (written_file.is_safe (f +++ g)) rest)))

safe_rest : (f g : Forest) → IsSafe (f +++ g) → IsSafe g
safe_rest none g h = h
safe_rest (leaf x f) g h = safe_rest f g h
safe_rest (node j c f) g h =
    safe_rest f g (both_right (written_file.is_safe c) (written_file.is_safe (f +++ g))
    (both_right (not (is_quoted_node j && has_nullsafe c))
    (written_file.is_safe c && written_file.is_safe (f +++ g)) h))

inner_safe : (j : NodeKind) (c f : Forest) → IsSafe (node j c f) → IsSafe c
inner_safe j c f h = both_left (written_file.is_safe c) (written_file.is_safe f)
    (both_right (not (is_quoted_node j && has_nullsafe c)) (written_file.is_safe c && written_file.is_safe f) h)

next_safe : (j : NodeKind) (c f : Forest) → IsSafe (node j c f) → IsSafe f
next_safe j c f h = both_right (written_file.is_safe c) (written_file.is_safe f)
    (both_right (not (is_quoted_node j && has_nullsafe c)) (written_file.is_safe c && written_file.is_safe f) h)

alone_safe : (j : NodeKind) (c f : Forest) → IsSafe (node j c f) → IsSafe (node j c none)
alone_safe j c f h =
    and_from (not (is_quoted_node j && has_nullsafe c)) (written_file.is_safe c && true)
    (both_left (not (is_quoted_node j && has_nullsafe c)) (written_file.is_safe c && written_file.is_safe f) h)
    (and_from (written_file.is_safe c) true (inner_safe j c f h) refl)

-- ---- pieces

and_false : (b : Bool) → (b && false) ≡ false
and_false true = refl
and_false false = refl

question_last : (bs : List ℕ) → begins_question bs ≡ false → begins_question (after (before_last bs)) ≡ false
question_last [] e = refl
question_last (a ∷ []) e = refl
question_last (a ∷ b ∷ []) e = and_false (nat_eq a 63)
question_last (a ∷ b ∷ c ∷ []) e = ap (λ (z : Bool). nat_eq a 63 && (z && begins is_letter (c ∷ []))) (and_false (nat_eq b 45)) ∙ and_false (nat_eq a 63)
question_last (a ∷ b ∷ c ∷ d ∷ []) e = ap (λ (z : Bool). nat_eq a 63 && z) (and_false (nat_eq b 45 && nat_eq c 62)) ∙ and_false (nat_eq a 63)
question_last (a ∷ b ∷ c ∷ d ∷ f ∷ bs) e = e

escaped_question : (x : Token) (b : Bool) → begins_question x.text ≡ false
    → begins_question (after (if b then record (hash_comment x) { text = before_last (before (hash_comment x).text) }
    else hash_comment x).text) ≡ false
escaped_question x true e = question_last (x.text ++ []) (ap begins_question (append-nil x.text) ∙ e)
escaped_question x false e = ap begins_question (append-nil x.text) ∙ e

piece_question : (x : Token) (b : Bool) → begins_question x.text ≡ false → begins_question (after (if b then escaped (hash_comment x) else hash_comment x).text) ≡ false
piece_question x true e = escaped_question x (ends_bare false (before (hash_comment x).text)) e
piece_question x false e = ap begins_question (append-nil x.text) ∙ e

escaped_kind : (x : Token) (b : Bool) → (if b then record (hash_comment x) { text = before_last (before (hash_comment x).text) } else hash_comment x).kind ≡ x.kind
escaped_kind x true = refl
escaped_kind x false = refl

piece_kind : (x : Token) (b : Bool) → (if b then escaped (hash_comment x) else hash_comment x).kind ≡ x.kind
piece_kind x true = escaped_kind x (ends_bare false (before (hash_comment x).text))
piece_kind x false = refl

come_by : (v : Bool) (t : NewToken) → (v ≡ true → begins_question (after t.text) ≡ false) → may_come v t ≡ true
come_by false t f = refl
come_by true t f = ap not (ap (λ (b : Bool). is_piece t.kind && b) (f refl) ∙ and_false (is_piece t.kind))

-- ---- parts of quoted texts

-- Parts of a quoted text, behind a variable or another part.
abbrev TextSafe : Forest → Type 0
TextSafe f = (a : Bool → Option Around) (b v : Bool) → (v ≡ true → piece_questions f ≡ false) → safe v (parts (written a b f)) ≡ true

piece_safe : (x : Token) (f : Forest) → TextSafe f → TextSafe (leaf (of_kind kind.Piece x) f)
piece_safe x f o a b v q =
    let y = if begins_dollar_brace (written a false f) then escaped (hash_comment (of_kind kind.Piece x)) else hash_comment (of_kind kind.Piece x) in
    and_from (may_come v y) (safe (is_variable_kind y.kind) (parts (written a false f)))
    (come_by v y (λ h. piece_question (of_kind kind.Piece x) (begins_dollar_brace (written a false f)) (q h)))
    (ap (λ (z : TokenKind). safe (is_variable_kind z) (parts (written a false f))) (piece_kind (of_kind kind.Piece x) (begins_dollar_brace (written a false f)))
    ∙ o a false false (λ h. absurd cc))

abbrev NodeSafe : NodeKind → Forest → Type 0
NodeSafe j c = (a : Bool → Option Around) (b : Bool) → AllSafe (new_here a b j c).1

no_variable : {P : Type 0} → false ≡ true → P
no_variable e = absurd cc

curly_safe : (x u : Token) (j : NodeKind) (c f : Forest) → NodeSafe j c → TextSafe f → TextSafe (leaf (of_kind kind.CurlyOpen x) (node j c (leaf (of_text 125 u) f)))
curly_safe x u j c f n o a b v q =
    let t = new_here a false j c in
    let d = parts (written a false f) in
    leaf_step v (hash_comment (of_kind kind.CurlyOpen x)) (new_node t.0 t.1 (new_leaf (hash_comment (of_text 125 u)) d)) refl
    (node_step false t.0 t.1 (new_leaf (hash_comment (of_text 125 u)) d) (n a false false)
    (leaf_step (last_variable false t.1) (hash_comment (of_text 125 u)) d refl (o a false false no_variable)))

named_safe : (x n u : Token) (f : Forest) → TextSafe f → TextSafe (leaf (of_kind kind.DollarBrace x) (leaf (of_kind kind.VarName n) (leaf (of_text 125 u) f)))
named_safe x n u f o a b v q =
    let d = parts (written a false f) in
    let name = new_leaf (dollar_name (hash_comment (of_kind kind.VarName n))) no_more in
    leaf_step v (curly (hash_comment (of_kind kind.DollarBrace x))) (new_node k.Variable name (new_leaf (hash_comment (of_text 125 u)) d)) refl
    (node_step false k.Variable name (new_leaf (hash_comment (of_text 125 u)) d) refl
    (leaf_step true (hash_comment (of_text 125 u)) d refl (o a false false no_variable)))

offset_safe : (x n w s u : Token) (j : NodeKind) (c f : Forest) → NodeSafe j c → TextSafe f
    → TextSafe (leaf (of_kind kind.DollarBrace x)
    (leaf (of_kind kind.VarName n) (leaf (of_text 91 w) (node j c (leaf (of_text 93 s) (leaf (of_text 125 u) f))))))
offset_safe x n w s u j c f m o a b v q =
    let t = new_here a false j c in
    let d = parts (written a false f) in
    let name = new_leaf (dollar_name (hash_comment (of_kind kind.VarName n))) no_more in
    let last = new_leaf (hash_comment (of_text 93 s)) no_more in
    let offset = new_node k.Variable name (new_leaf (hash_comment (of_text 91 w)) (new_node t.0 t.1 last)) in
    leaf_step v (curly (hash_comment (of_kind kind.DollarBrace x))) (new_node k.Offset offset (new_leaf (hash_comment (of_text 125 u)) d)) refl
    (node_step false k.Offset offset (new_leaf (hash_comment (of_text 125 u)) d)
    (node_step false k.Variable name (new_leaf (hash_comment (of_text 91 w)) (new_node t.0 t.1 last)) refl
    (leaf_step true (hash_comment (of_text 91 w)) (new_node t.0 t.1 last) refl
    (node_step false t.0 t.1 last (m a false false) (leaf_step (last_variable false t.1) (hash_comment (of_text 93 s)) no_more refl refl))))
    (leaf_step false (hash_comment (of_text 125 u)) d refl (o a false false no_variable)))

expression_safe : (x u : Token) (j : NodeKind) (c f : Forest) → NodeSafe j c → TextSafe f → TextSafe (leaf (of_kind kind.DollarBrace x) (node j c (leaf (of_text 125 u) f)))
expression_safe x u j c f m o a b v q =
    let t = new_here a false j c in
    let d = parts (written a false f) in
    let last = new_leaf (retexted kind.Op (codes "}") (hash_comment (of_text 125 u))) no_more in
    let inside = new_leaf (put_also kind.Op (codes "$")) (new_leaf (put_also kind.Op (codes "{")) (new_node t.0 t.1 last)) in
    leaf_step v (curly (hash_comment (of_kind kind.DollarBrace x))) (new_node k.Variable inside (new_leaf (put_also kind.Op (codes "}")) d)) refl
    (node_step false k.Variable inside (new_leaf (put_also kind.Op (codes "}")) d)
    (leaf_step false (put_also kind.Op (codes "$")) (new_leaf (put_also kind.Op (codes "{")) (new_node t.0 t.1 last)) refl
    (leaf_step false (put_also kind.Op (codes "{")) (new_node t.0 t.1 last) refl
    (node_step false t.0 t.1 last (m a false false) (leaf_step (last_variable false t.1) (retexted kind.Op (codes "}") (hash_comment (of_text 125 u))) no_more refl refl))))
    (leaf_step false (put_also kind.Op (codes "}")) d refl (o a false false no_variable)))

-- ---- simple variables

not_kind : (sort : TokenKind) (t : Token) → t.kind ≡ sort → is_piece sort ≡ false → is_piece t.kind ≡ false
not_kind sort t e h = ap is_piece e ∙ h

mark_safe : (b : ℕ) (t : Token) → IsMark b t → is_piece t.kind ≡ false
mark_safe b t m = ap is_piece m.kind

key_safe : {f : Forest} → IsKey f → (a : Bool → Option Around) → AllSafe (written a false f)
key_safe (pairs.label {t} {u} e m) a = safe_leaf (hash_comment t) (new_leaf (hash_comment u) no_more)
    (not_kind kind.Label t e refl) (safe_leaf (hash_comment u) no_more (mark_safe 93 u m) safe_none)
key_safe (pairs.number {t} {u} e m) a = safe_leaf (hash_comment t) (new_leaf (hash_comment u) no_more)
    (not_kind kind.Int t e refl) (safe_leaf (hash_comment u) no_more (mark_safe 93 u m) safe_none)
key_safe (pairs.negative {s} {t} {u} n e m) a = safe_leaf (hash_comment s)
    (new_leaf (hash_comment t) (new_leaf (hash_comment u) no_more)) (mark_safe 45 s n)
    (safe_leaf (hash_comment t) (new_leaf (hash_comment u) no_more) (not_kind kind.Int t e refl)
    (safe_leaf (hash_comment u) no_more (mark_safe 93 u m) safe_none))
key_safe (pairs.variable {t} {u} e m) a =
    node_safe k.Variable (leaf t none) (leaf u none) a false
    (safe_leaf (hash_comment t) no_more (not_kind kind.Variable t e refl) safe_none)
    (safe_leaf (hash_comment u) no_more (mark_safe 93 u m) safe_none)

key_last : {f : Forest} → IsKey f → (a : Bool → Option Around) (v : Bool) → last_variable v (written a false f) ≡ false
key_last (pairs.label {t} {u} e m) a v = ap is_variable_kind m.kind
key_last (pairs.number {t} {u} e m) a v = ap is_variable_kind m.kind
key_last (pairs.negative {s} {t} {u} n e m) a v = ap is_variable_kind m.kind
key_last (pairs.variable {t} {u} e m) a v = ap is_variable_kind m.kind

simple_safe : {j : NodeKind} {c : Forest} → IsSimple j c → AllSafe (changed (j, c) (j, written (within j c) true c)).1
simple_safe (pairs.alone {t} e) = safe_leaf (hash_comment t) no_more (not_kind kind.Variable t e refl) safe_none
simple_safe (pairs.with_offset {t} {o} {f} e m q) =
    let c = node k.Variable (leaf t none) (leaf o f) in
    node_safe k.Variable (leaf t none) (leaf o f) (within k.Offset c) true (safe_leaf (hash_comment t) no_more (not_kind kind.Variable t e refl) safe_none)
    (safe_leaf (hash_comment o) (written (within k.Offset c) false f) (mark_safe 91 o m) (key_safe q (within k.Offset c)))
simple_safe (pairs.with_property {t} {o} {u} e m a q) =
    let c = node k.Variable (leaf t none) (leaf o (leaf u none)) in
    node_safe k.Variable (leaf t none) (leaf o (leaf u none)) (within k.Prop c) true (safe_leaf (hash_comment t) no_more (not_kind kind.Variable t e refl) safe_none)
    (safe_leaf (hash_comment o) (new_leaf (hash_comment u) no_more) (not_kind kind.Op o m refl) (safe_leaf (hash_comment u) no_more (not_kind kind.Label u q refl) safe_none))

no_clash : {b : Bool} → b ≡ false → b ≡ true → ⊥
no_clash e d = let z : false ≡ true = sym e ∙ d in cc

-- what stands behind a simple variable
simple_next : {j : NodeKind} {c : Forest} (f : Forest) → IsSimple j c → has_nullsafe (node j c f) ≡ false
    → (a : Bool → Option Around) (b v : Bool) → last_variable v
    (in_wrappings (wrapping (a b) (j, c)) (changed (j, c) (j, written (within j c) true c))).1 ≡ true
    → piece_questions f ≡ false
simple_next f (pairs.alone {t} e) h a b v l = (or_parts (piece_questions f) (has_nullsafe f) h).0
simple_next f (pairs.with_offset {t} {o} {f = g} e m q) h a b v l =
    let c = node k.Variable (leaf t none) (leaf o g) in
    absurd (no_clash (wraps_last (wrapping (a b) (k.Offset, c))
    (changed (k.Offset, c) (k.Offset, written (within k.Offset c) true c))
    (λ z. key_last q (within k.Offset c) (is_variable_kind o.kind)) v) l)
simple_next f (pairs.with_property {t} {o} {u} e m w q) h a b v l =
    let c = node k.Variable (leaf t none) (leaf o (leaf u none)) in
    absurd (no_clash (wraps_last (wrapping (a b) (k.Prop, c)) (changed (k.Prop, c) (k.Prop, written (within k.Prop c) true c)) (λ z. ap is_variable_kind q) v) l)

rest_null : {j : NodeKind} {c : Forest} (f : Forest) → IsSimple j c → has_nullsafe (node j c f) ≡ false → has_nullsafe f ≡ false
rest_null {j} f e h = (or_parts (is_variable_node j && piece_questions f) (has_nullsafe f) h).1

-- ---- nodes that are changed

offset_changed : (i j : NodeKind) (t u : Token) (b c : Forest) → NodeSafe i b → NodeSafe j c
    → AllSafe (changed (k.BraceOffset, node i b (leaf (of_text 123 t) (node j c (leaf (of_text 125 u) none)))) (
      k.BraceOffset,
      written (within k.BraceOffset
          (node i b (leaf (of_text 123 t) (node j c (leaf (of_text 125 u) none))))) true
          (node i b (leaf (of_text 123 t) (node j c (leaf (of_text 125 u) none)))),
    )).1
offset_changed i j t u b c n m =
    let whole = node i b (leaf (of_text 123 t) (node j c (leaf (of_text 125 u) none))) in
    let x = new_here (within k.BraceOffset whole) true i b in
    let y = new_here (within k.BraceOffset whole) false j c in
    let last = new_leaf (retexted kind.Op (codes "]") (hash_comment (of_text 125 u))) no_more in
    safe_node x.0 x.1 (new_leaf (retexted kind.Op (codes "[") (hash_comment (of_text 123 t))) (new_node y.0 y.1 last)) (n (within k.BraceOffset whole) true)
    (safe_leaf (retexted kind.Op (codes "[") (hash_comment (of_text 123 t))) (new_node y.0 y.1 last) refl
    (safe_node y.0 y.1 last (m (within k.BraceOffset whole) false) (safe_leaf (retexted kind.Op (codes "]") (hash_comment (of_text 125 u))) no_more refl safe_none)))

cast_safe : (x : Token) (j : NodeKind) (b : Forest) → NodeSafe j b
    → AllSafe (changed (k.Cast, leaf (of_kind kind.Cast x) (node j b none)) (
      k.Cast,
      written (within k.Cast (leaf (of_kind kind.Cast x) (node j b none))) true
          (leaf (of_kind kind.Cast x) (node j b none)),
    )).1
cast_safe x j b n = real (is_real_cast (k.Cast, leaf (of_kind kind.Cast x) (node j b none))) (is_edited (k.Cast, leaf (of_kind kind.Cast x) (node j b none)))
  where
    t : NewTree
    t = new_here (within k.Cast (leaf (of_kind kind.Cast x) (node j b none))) false j b

    real : (r e : Bool) → AllSafe (if r then real_cast (
      k.Cast,
      new_leaf (hash_comment (of_kind kind.Cast x))
          (new_node (new_here (within k.Cast (leaf (of_kind kind.Cast x) (node j b none))) false j b).0
          (new_here (within k.Cast (leaf (of_kind kind.Cast x) (node j b none))) false j b).1 no_more),
    ) else
        (if e then unset_cast (
          k.Cast,
          new_leaf (hash_comment (of_kind kind.Cast x))
              (new_node (new_here (within k.Cast (leaf (of_kind kind.Cast x) (node j b none))) false j b).0
              (new_here (within k.Cast (leaf (of_kind kind.Cast x) (node j b none))) false j b).1 no_more),
        ) else (
          k.Cast,
          new_leaf (hash_comment (of_kind kind.Cast x))
              (new_node (new_here (within k.Cast (leaf (of_kind kind.Cast x) (node j b none))) false j b).0
              (new_here (within k.Cast (leaf (of_kind kind.Cast x) (node j b none))) false j b).1 no_more),
        ))).1
    real true e =
        let y = new_here (within k.Cast (leaf (of_kind kind.Cast x) (node j b none))) false j b in
        safe_leaf (retexted kind.Cast (codes "(float)") (hash_comment (of_kind kind.Cast x)))
        (new_node y.0 y.1 no_more) refl (safe_node y.0 y.1 no_more
        (n (within k.Cast (leaf (of_kind kind.Cast x) (node j b none))) false) safe_none)
    real false true =
        let y = new_here (within k.Cast (leaf (of_kind kind.Cast x) (node j b none))) false j b in
        let null = new_leaf (put_also kind.Label (codes "null")) no_more in
        let last = new_leaf (put_also kind.Op (codes ")")) no_more in
        safe_leaf (opening (new_leaf (hash_comment (of_kind kind.Cast x)) (new_node y.0 y.1 no_more))) (new_node k.Constant null last) refl
        (safe_node k.Constant null last (safe_leaf (put_also kind.Label (codes "null")) no_more refl safe_none) (safe_leaf (put_also kind.Op (codes ")")) no_more refl safe_none))
    real false false =
        let y = new_here (within k.Cast (leaf (of_kind kind.Cast x) (node j b none))) false j b in
        safe_leaf (hash_comment (of_kind kind.Cast x)) (new_node y.0 y.1 no_more) refl
        (safe_node y.0 y.1 no_more (n (within k.Cast (leaf (of_kind kind.Cast x) (node j b none))) false)
        safe_none)

-- ---- trees

text_kind : (x : Token) (sort : TokenKind) (c : Forest) → opens_text sort ≡ true → TextSafe c
    → AllSafe (changed (k.Quoted, leaf (of_kind sort x) c)
    (k.Quoted, written (within k.Quoted (leaf (of_kind sort x) c)) true (leaf (of_kind sort x) c))).1
text_kind x kind.Quote c e o v = leaf_step v (hash_comment (of_kind kind.Quote x))
    (parts (written (within k.Quoted (leaf (of_kind kind.Quote x) c)) false c)) refl
    (o (within k.Quoted (leaf (of_kind kind.Quote x) c)) false false no_variable)
text_kind x kind.HeredocStart c e o v = leaf_step v (hash_comment (of_kind kind.HeredocStart x))
    (parts (written (within k.Quoted (leaf (of_kind kind.HeredocStart x) c)) false c)) refl
    (o (within k.Quoted (leaf (of_kind kind.HeredocStart x) c)) false false no_variable)
text_kind x kind.Backtick c e o v = leaf_step v (hash_comment (of_kind kind.Backtick x))
    (parts (written (within k.Quoted (leaf (of_kind kind.Backtick x) c)) false c)) refl
    (o (within k.Quoted (leaf (of_kind kind.Backtick x) c)) false false no_variable)
text_kind x _ c e o v = absurd cc

code_kind : (sort : TokenKind) → is_code_kind sort ≡ true → is_piece sort ≡ false
code_kind kind.Piece e = absurd cc
code_kind _ e = refl

code_safe : (x : Token) → is_code_token x ≡ true → is_piece x.kind ≡ false
code_safe x e = code_kind x.kind (both_left (is_code_kind x.kind) _ e)

pair_safe : (t u : Token) (b e : ℕ) (f g h : Forest) (a : Bool → Option Around) → IsMark b t → IsMark e u
    → ((a : Bool → Option Around) (z : Bool) → AllSafe (written a z g))
    → ((a : Bool → Option Around) (z : Bool) → AllSafe (written a z h)) → f ≡ g +++ leaf u h
    → AllSafe (new_leaf (hash_comment t) (written a false f))
pair_safe t u b e f g h a m n p q d =
    safe_leaf (hash_comment t) (written a false f) (mark_safe b t m)
    (subst (λ (z : Forest). AllSafe (written a false z)) (sym d)
    (subst AllSafe (sym (written_none a false g (leaf u h)))
    (safe_join (written a false g) (new_leaf (hash_comment u) (written a false h)) (p a false) (safe_leaf (hash_comment u) (written a false h) (mark_safe e u n) (q a false)))))

whole_node : (j : NodeKind) (c : Forest) → ((a : Bool → Option Around) (b : Bool) → AllSafe (written a b (node j c none))) → NodeSafe j c
whole_node j c p a b v = both_left (safe v (new_here a b j c).1) true (p a b v)

text_null : (c f : Forest) (t : Token) → IsSafe (node k.Quoted (leaf t c) f) → has_nullsafe c ≡ false
text_null c f t h = go (has_nullsafe c) (both_left (not (has_nullsafe c)) (written_file.is_safe c && written_file.is_safe f) h)
  where
    go : (b : Bool) → not b ≡ true → b ≡ false
    go true e = absurd cc
    go false e = refl

leaf_null : (j : NodeKind) (c : Forest) (u : Token) (f : Forest) → has_nullsafe (node j c (leaf u f)) ≡ false
    → IsMark 125 u → (is_variable_node j && false || has_nullsafe f) ≡ false
leaf_null j c u f n m = ap (λ (z : TokenKind). is_variable_node j && (is_piece z && begins_question u.text) || has_nullsafe f) (sym m.kind) ∙ n

mark_null : (j : NodeKind) (c : Forest) (s u : Token) (f : Forest)
    → has_nullsafe (node j c (leaf s (leaf u f))) ≡ false → IsMark 93 s
    → (is_variable_node j && false || has_nullsafe f) ≡ false
mark_null j c s u f n m = ap (λ (z : TokenKind). is_variable_node j && (is_piece z && begins_question s.text) || has_nullsafe f) (sym m.kind) ∙ n

mutual
  pub safe_drawn : {f : Forest} → Paired f → IsSafe f → (a : Bool → Option Around) (b : Bool) → AllSafe (written a b f)
  safe_drawn pairs.no_part w a b = safe_none
  safe_drawn (pairs.token {t} {f} e o) w a b = safe_leaf (hash_comment t) (written a false f) (code_safe t e) (safe_drawn o w a false)
  safe_drawn (pairs.rounds {t} {u} {f} {g} {h} m p n q e) w a b =
      let whole = subst IsSafe e w in
      pair_safe t u 40 41 f g h a m n (safe_drawn p (safe_front g (leaf u h) whole)) (safe_drawn q (safe_rest g (leaf u h) whole)) e
  safe_drawn (pairs.braces {t} {u} {f} {g} {h} m p n q e) w a b =
      let whole = subst IsSafe e w in
      pair_safe t u 123 125 f g h a m n (safe_drawn p (safe_front g (leaf u h) whole)) (safe_drawn q (safe_rest g (leaf u h) whole)) e
  safe_drawn (pairs.part {j} {c} {f} e z p q) w a b =
      node_safe j c f a b (subst (λ (t : NewTree). AllSafe t.1)
      (sym (common_changed j c (j, written (within j c) true c) e))
      (safe_drawn p (inner_safe j c f w) (within j c) true)) (safe_drawn q (next_safe j c f w) a false)
  safe_drawn (pairs.brace_offset {i} {j} {t} {u} {b = d} {c} {f} p m q n o) w a b =
      let inside = inner_safe k.BraceOffset (node i d (leaf t (node j c (leaf u none)))) f w in
      let first = whole_node i d (safe_drawn p (alone_safe i d (leaf t (node j c (leaf u none))) inside)) in
      let second = whole_node j c (safe_drawn q (alone_safe j c (leaf u none) (next_safe i d (leaf t (node j c (leaf u none))) inside))) in
      subst (λ (x : Token). AllSafe (written a b (node k.BraceOffset (node i d (leaf x (node j c (leaf u none)))) f))) (sym (text_is 123 t m))
      (subst (λ (x : Token). AllSafe (written a b (node k.BraceOffset (node i d (leaf (of_text 123 t) (node j c (leaf x none)))) f))) (sym (text_is 125 u n))
      (node_safe k.BraceOffset (node i d (leaf (of_text 123 t) (node j c (leaf (of_text 125 u) none)))) f a b
      (offset_changed i j t u d c first second)
      (safe_drawn o (next_safe k.BraceOffset (node i d (leaf t (node j c (leaf u none)))) f w) a false)))
  safe_drawn (pairs.cast {j} {t} {b = d} {f} e p q) w a b =
      let inside = whole_node j d (safe_drawn p (inner_safe k.Cast (leaf t (node j d none)) f w)) in
      subst (λ (x : Token). AllSafe (written a b (node k.Cast (leaf x (node j d none)) f))) (sym (kind_is kind.Cast t e))
      (node_safe k.Cast (leaf (of_kind kind.Cast t) (node j d none)) f a b (cast_safe t j d inside) (safe_drawn q (next_safe k.Cast (leaf t (node j d none)) f w) a false))
  safe_drawn (pairs.text {t} {c} {f} e o q) w a b =
      node_safe k.Quoted (leaf t c) f a b (text_kind t t.kind c e
      (safe_texted o (inner_safe k.Quoted (leaf t c) f w) (text_null c f t w)))
      (safe_drawn q (next_safe k.Quoted (leaf t c) f w) a false)

  safe_texted : {f : Forest} → Interpolated f → IsSafe f → has_nullsafe f ≡ false → TextSafe f
  safe_texted (pairs.text_end {t} e) w n a b v q =
      subst (λ (x : Token). safe v (parts (written a b (leaf x none))) ≡ true) (sym (kind_is kind.QuotedEnd t e))
      (leaf_step v (hash_comment (of_kind kind.QuotedEnd t)) no_more refl refl)
  safe_texted (pairs.piece {t} {f} e o) w n a b v q =
      subst (λ (x : Token). safe v (parts (written a b (leaf x f))) ≡ true) (sym (kind_is kind.Piece t e))
      (piece_safe t f (safe_texted o w n) a b v (λ h. ap (λ (x : Token). piece_questions (leaf x f)) (sym (kind_is kind.Piece t e)) ∙ q h))
  safe_texted (pairs.simple {j} {c} {f} e o) w n a b v q =
      let t = new_here a b j c in
      node_step v t.0 t.1 (parts (written a false f)) (wraps_safe (wrapping (a b) (j, c)) (changed (j, c) (j, written (within j c) true c)) (simple_safe e) v)
      (safe_texted o (next_safe j c f w) (rest_null f e n) a false (last_variable v t.1) (simple_next f e n a b v))
  safe_texted (pairs.curly {j} {t} {u} {c} {f} e p m o) w n a b v q =
      let inside = whole_node j c (safe_drawn p (alone_safe j c (leaf u f) w)) in
      let rest = safe_texted o (next_safe j c (leaf u f) w) (or_parts (is_variable_node j && false) (has_nullsafe f) (leaf_null j c u f n m)).1 in
      subst (λ (x : Token). safe v (parts (written a b (leaf x (node j c (leaf u f))))) ≡ true) (sym (kind_is kind.CurlyOpen t e))
      (subst (λ (x : Token). safe v (parts (written a b (leaf (of_kind kind.CurlyOpen t) (node j c (leaf x f))))) ≡ true) (sym (text_is 125 u m))
      (curly_safe t u j c f inside rest a b v (λ h. refl)))
  safe_texted (pairs.named {t} {n = y} {u} {f} e d m o) w n a b v q =
      subst (λ (x : Token). safe v (parts (written a b (leaf x (leaf y (leaf u f))))) ≡ true) (sym (kind_is kind.DollarBrace t e))
      (subst (λ (x : Token). safe v (parts (written a b (leaf (of_kind kind.DollarBrace t) (leaf x (leaf u f))))) ≡ true) (sym (kind_is kind.VarName y d))
      (subst (λ (x : Token). safe v (parts (written a b (leaf (of_kind kind.DollarBrace t) (leaf (of_kind kind.VarName y) (leaf x f))))) ≡ true) (sym (text_is 125 u m))
      (named_safe t y u f (safe_texted o w n) a b v (λ h. refl))))
  safe_texted (pairs.named_offset {j} {t} {n = y} {o = z} {s} {u} {c} {f} e d m p i r o) w n a b v q =
      let inside = whole_node j c (safe_drawn p (alone_safe j c (leaf s (leaf u f)) w)) in
      let rest = safe_texted o (next_safe j c (leaf s (leaf u f)) w) (or_parts (is_variable_node j && false) (has_nullsafe f) (mark_null j c s u f n i)).1 in
      subst (λ (x : Token). safe v (parts (written a b (leaf x (leaf y (leaf z (node j c (leaf s (leaf u f)))))))) ≡ true) (sym (kind_is kind.DollarBrace t e))
      (subst (λ (x : Token). safe v (parts (written a b (leaf (of_kind kind.DollarBrace t)
      (leaf x (leaf z (node j c (leaf s (leaf u f)))))))) ≡ true) (sym (kind_is kind.VarName y d))
      (subst (λ (x : Token). safe v (parts (written a b (leaf (of_kind kind.DollarBrace t)
      (leaf (of_kind kind.VarName y) (leaf x (node j c (leaf s (leaf u f)))))))) ≡ true) (sym (text_is 91 z m))
      (subst (λ (x : Token). safe v (parts (written a b (leaf (of_kind kind.DollarBrace t)
      (leaf (of_kind kind.VarName y) (leaf (of_text 91 z) (node j c (leaf x (leaf u f)))))))) ≡ true)
      (sym (text_is 93 s i))
      (subst (λ (x : Token). safe v (parts (written a b (leaf (of_kind kind.DollarBrace t)
      (leaf (of_kind kind.VarName y) (leaf (of_text 91 z) (node j c (leaf (of_text 93 s) (leaf x f)))))))) ≡ true)
      (sym (text_is 125 u r))
      (offset_safe t y z s u j c f inside rest a b v (λ h. refl))))))
  safe_texted (pairs.expression {j} {t} {u} {c} {f} e p m o) w n a b v q =
      let inside = whole_node j c (safe_drawn p (alone_safe j c (leaf u f) w)) in
      let rest = safe_texted o (next_safe j c (leaf u f) w) (or_parts (is_variable_node j && false) (has_nullsafe f) (leaf_null j c u f n m)).1 in
      subst (λ (x : Token). safe v (parts (written a b (leaf x (node j c (leaf u f))))) ≡ true) (sym (kind_is kind.DollarBrace t e))
      (subst (λ (x : Token). safe v (parts (written a b (leaf (of_kind kind.DollarBrace t) (node j c (leaf x f))))) ≡ true) (sym (text_is 125 u m))
      (expression_safe t u j c f inside rest a b v (λ h. refl)))
