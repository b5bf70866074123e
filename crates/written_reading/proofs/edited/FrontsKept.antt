-- Parts that begin with `$` still begin so once they are edited, where no node round the first token has operands on either
-- side of an operator.
use Rattle.std.proofs.Common.{◌≡◌, ℕ, Bool, true, false, not, List, [], ◌∷◌, ◌++◌, codes, Option, refl, sym, ap, subst}
use Rattle.std.specs.Str.{bytes_eq}
use Rattle.std.proofs.lemmas.Bool.{and_parts, eqb-true}
use Rattle.php_tree.specs.declared.token.Token.{Token}
use Rattle.php_tree.specs.declared.kind.NodeKind.{NodeKind}
use Rattle.php_tree.specs.declared.kind.NodeKind.TheVariants as kind
use Rattle.php_tree.specs.Tree.{Forest, none, leaf, node, leaves}
use Rattle.php_spellings.specs.Bytes.{begins_by}
use Rattle.tracked_changes.specs.patches.Patches.{Wrapping}
use Rattle.tracked_changes.specs.Pieces.{after}
use Rattle.tracked_changes.specs.Draft.{NewToken, Draft}
use Rattle.tracked_changes.specs.Walk.{NewTree}
use Rattle.tracked_changes.specs.Parens.{in_wrappings}
use Rattle.syntax_rules.specs.Around.{Around, within}
use Rattle.syntax_rules.specs.Casts.{bare}
use Rattle.syntax_rules.specs.HashComment.{outside, spaced, hash_comment}
use Rattle.syntax_rules.specs.RealCast.{is_real_cast}
use Rattle.syntax_rules.specs.UnsetCast.{of_variable, is_edited}
use Rattle.syntax_rules.specs.InContext.{changed_node, draft_in}
use Rattle.written_tokens.specs.tokens.Written.{draft_tokens}
use Rattle.rewritten_shapes.specs.paired.Paired.{Paired, no_part, token, rounds, braces, part, brace_offset, cast, text}
use Rattle.written_reading.proofs.edited.PlainTexts.{has_operands, begins_plainly}
use Rattle.written_reading.proofs.edited.Drafts.{is_free, free_wrapping, common_node, part_draft, opening_part}

-- the bytes of the first token, with its trivia
abbrev pub new_front : List NewToken → List ℕ
new_front [] = []
new_front (t ∷ ts) = after t.lead ++ after t.text

abbrev pub old_front : List Token → List ℕ
old_front [] = []
old_front (t ∷ ts) = t.lead ++ t.text

abbrev pub Dollar : List ℕ → Type 0
Dollar bytes = begins_by 36 bytes ≡ true

same_text : (text : List ℕ) → Dollar text → Dollar (text ++ [])
same_text [] h = absurd cc
same_text (x ∷ xs) h = h

-- a lead that is kept, and a text that is put in behind it where the lead isn't empty
lead_front : (lead text new : List ℕ) → Dollar (lead ++ text) → (Dollar text → Dollar new) → Dollar (after (spaced outside lead) ++ new)
lead_front [] old new h p = p h
lead_front (x ∷ xs) old new h p = h

hash_front : (t : Token) → Dollar (t.lead ++ t.text) → Dollar (after (hash_comment t).lead ++ after (hash_comment t).text)
hash_front t h = lead_front t.lead t.text (t.text ++ []) h (same_text t.text)

more_front : (ts us : List NewToken) → Dollar (new_front ts) → Dollar (new_front (ts ++ us))
more_front [] us h = absurd cc
more_front (t ∷ ts) us h = h

less_front : (ts us : List NewToken) → Dollar (new_front (ts ++ [])) → Dollar (new_front (ts ++ us))
less_front [] us h = absurd cc
less_front (t ∷ ts) us h = h

abbrev pub are_some : List Token → Bool
are_some [] = false
are_some (t ∷ ts) = true

some_append : (ts us : List Token) → are_some ts ≡ true → are_some (ts ++ us) ≡ true
some_append [] us h = absurd cc
some_append (t ∷ ts) us h = refl

pub plain_some : (f : Forest) → begins_plainly f ≡ true → are_some (leaves f) ≡ true
plain_some none h = absurd cc
plain_some (leaf t f) h = refl
plain_some (node k c f) h = some_append (leaves c) (leaves f) (plain_some c (and_parts (not (has_operands k)) (begins_plainly c) h).1)

front_append : (ts us : List Token) → are_some ts ≡ true → Dollar (old_front (ts ++ us)) → Dollar (old_front ts)
front_append [] us h d = absurd cc
front_append (t ∷ ts) us h d = d

front_more : (ts us : List Token) → are_some ts ≡ true → Dollar (old_front ts) → Dollar (old_front (ts ++ us))
front_more [] us h d = absurd cc
front_more (t ∷ ts) us h d = d

-- the parts of a node round which nothing is put
pub free_draft : (around : Bool → Option Around) (i : Bool) (k : NodeKind) (c : Forest) → is_free (around i) ≡ true
    → part_draft around i k c ≡ (changed_node (k, c) (k, draft_in (within k c) true c)).1
free_draft around i k c h =
    ap (λ (ws : List Wrapping). (in_wrappings ws (changed_node (k, c) (k, draft_in (within k c) true c))).1) (free_wrapping (around i) (k, c) h)

-- ---- casts

-- no such cast begins with `$`
no_real : (text : List ℕ) → bytes_eq (bare text) (codes "(real)") ≡ true → Dollar text → ⊥
no_real [] h d = cc
no_real (x ∷ xs) h d =
    let e : bytes_eq (bare (36 ∷ xs)) (codes "(real)") ≡ true = subst (λ (y : ℕ). bytes_eq (bare (y ∷ xs)) (codes "(real)") ≡ true) (eqb-true x 36 d) h in cc

no_unset : (text : List ℕ) → bytes_eq (bare text) (codes "(unset)") ≡ true → Dollar text → ⊥
no_unset [] h d = cc
no_unset (x ∷ xs) h d =
    let e : bytes_eq (bare (36 ∷ xs)) (codes "(unset)") ≡ true = subst (λ (y : ℕ). bytes_eq (bare (y ∷ xs)) (codes "(unset)") ≡ true) (eqb-true x 36 d) h in cc

cast_front : (around : Bool → Option Around) (t : Token) (c : Forest) (x y : Bool)
    → is_real_cast (kind.Cast, leaf t c) ≡ x → is_edited (kind.Cast, leaf t c) ≡ y → Dollar (t.lead ++ t.text)
    → Dollar (new_front (draft_tokens (changed_node (kind.Cast, leaf t c)
    (kind.Cast, draft_in around true (leaf t c))).1))
cast_front around t c true y e g h = rw e (lead_front t.lead t.text (codes "(float)") h (λ d. absurd (no_real t.text e d)))
cast_front around t c false true e g h =
    rw (e, g) (lead_front t.lead t.text (codes "(") h (λ d. absurd (no_unset t.text (and_parts (bytes_eq (bare t.text) (codes "(unset)")) (of_variable (leaf t c)) g).0 d)))
cast_front around t c false false e g h = rw (e, g) (hash_front t h)

-- ---- parts

abbrev Kept : Forest → Type 0
Kept f =
    (around : Bool → Option Around) (i : Bool) →
    is_free (around i) ≡ true →
    begins_plainly f ≡ true →
    Dollar (old_front (leaves f)) →
    Dollar (new_front (draft_tokens (draft_in around i f)))

-- a node is kept at its front where the draft of its parts is
node_kept : (around : Bool → Option Around) (i : Bool) (k : NodeKind) (c f : Forest) → is_free (around i) ≡ true
    → Dollar (new_front (draft_tokens (changed_node (k, c) (k, draft_in (within k c) true c)).1))
    → Dollar (new_front (draft_tokens (draft_in around i (node k c f))))
node_kept around i k c f free h =
    more_front (draft_tokens (part_draft around i k c)) (draft_tokens (draft_in around false f))
    (subst (λ (d : Draft). Dollar (new_front (draft_tokens d))) (sym (free_draft around i k c free)) h)

pub front_kept : {f : Forest} → Paired f → Kept f
front_kept no_part around i free plain h = absurd cc
front_kept (token {t} {f} code p) around i free plain h = hash_front t h
front_kept (rounds {t} {u} {f} {g} {h = r} mt pg mu pr e) around i free plain h = hash_front t h
front_kept (braces {t} {u} {f} {g} {h = r} mt pg mu pr e) around i free plain h = hash_front t h
front_kept (part {j} {c} {f} common standing pc pf) around i free plain h =
    let own = and_parts (not (has_operands j)) (begins_plainly c) plain in
    node_kept around i j c f free
    (subst (λ (t : NewTree). Dollar (new_front (draft_tokens t.1))) (sym (common_node j c (j, draft_in (within j c) true c) common))
    (front_kept pc (within j c) true own.0 own.1 (front_append (leaves c) (leaves f) (plain_some c own.1) h)))
front_kept (brace_offset {i = m} {j} {t} {u} {b} {c} {f} pb mt pc mu pf) around i free plain h =
    let all = node m b (leaf t (node j c (leaf u none))) in
    let own = and_parts (not (has_operands m)) (begins_plainly b) plain in
    let some = plain_some b own.1 in
    let first : Dollar (old_front (leaves b)) =
    front_append (leaves b) (t ∷ (leaves c ++ u ∷ [])) some (front_append (leaves all) (leaves f) (some_append (leaves b) (t ∷ (leaves c ++ u ∷ [])) some) h) in
    node_kept around i kind.BraceOffset all f free
    (less_front (draft_tokens (part_draft (within kind.BraceOffset all) true m b)) _
    (front_kept pb (within kind.BraceOffset all) true refl plain (front_more (leaves b) [] some first)))
front_kept (cast {j} {t} {b} {f} is pb pf) around i free plain h =
    node_kept around i kind.Cast (leaf t (node j b none)) f free
    (cast_front (within kind.Cast (leaf t (node j b none))) t (node j b none)
    (is_real_cast (kind.Cast, leaf t (node j b none))) (is_edited (kind.Cast, leaf t (node j b none))) refl refl
    h)
front_kept (text {t} {c} {f} opens inner pf) around i free plain h =
    node_kept around i kind.Quoted (leaf t c) f free
    (subst (λ (d : Draft). Dollar (new_front (draft_tokens d))) (sym (opening_part (hash_comment t) (draft_in (within kind.Quoted (leaf t c)) false c) opens)) (hash_front t h))
