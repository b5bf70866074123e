-- Files in which no form is reported: no `?->` directly behind a variable in a quoted text, and no use of traits.
use Rattle.std.proofs.Common.{◌≡◌, ℕ, zero, suc, Bool, true, false, not, ◌&&◌, ◌||◌, if◌then◌else◌, List, [], ◌∷◌, ◌++◌, Some, refl, ap, nat_eq}
use Rattle.std.proofs.lemmas.Bool.{false≢true, or_parts}
use Rattle.php_spellings.specs.Bytes.{is_letter}
use Rattle.php_tree.specs.declared.kind.NodeKind.{NodeKind}
use Rattle.php_tree.specs.declared.kind.NodeKind.TheVariants as kind
use Rattle.php_tree.specs.declared.token.TokenKind.{TokenKind}
use Rattle.php_tree.specs.declared.token.TokenKind.TheVariants as token
use Rattle.php_tree.specs.Tree.{Forest, none, leaf, node, File, file_leaves, leaves}
use Rattle.php_tree.specs.Places.{behind, end_of}
use Rattle.php_terminals.specs.declared.terminal.Terminal.TheVariants as t
use Rattle.php_terminals.specs.Classify.{terminal}
use Rattle.rewritten_shapes.specs.paired.Traits.{PlainTraits, is_trait_use}
use Rattle.syntax_upgrade.specs.Enums.{enums}
use Rattle.syntax_upgrade.specs.Found.{Report, outside, text_start}
use Rattle.syntax_upgrade.specs.NameHeads.{head_at}
use Rattle.syntax_upgrade.specs.NodeRule.{has_sought, reports_of}
use Rattle.syntax_upgrade.specs.Reports.{at_node, reports, reports_in}
use Rattle.syntax_upgrade.specs.ReservedName.{Standing, at_first, class_by, past, past_node, refused_if}
use Rattle.syntax_upgrade.specs.UnsetCast.{undecided_casts}
use Rattle.syntax_upgrade.specs.node_rules.NullsafeText as own
use Rattle.syntax_upgrade.specs.node_rules.Traits as traits
use Rattle.written_tokens.specs.tokens.Written as written
use Rattle.nothing_reported.proofs.AllNodes.{empty_both, only_if}

-- ---- texts

and_none : (b : Bool) → (b && false) ≡ false
and_none true = refl
and_none false = refl

and_four : (p q r s : Bool) → (p && ((q && r) && s)) ≡ (p && (q && (r && s)))
and_four false q r s = refl
and_four true false r s = refl
and_four true true r s = refl

-- one by one, `?`, `-`, `>` and a letter
question_is : (bs : List ℕ) → written.begins_question bs ≡ own.begins_question bs
question_is [] = refl
question_is (a ∷ []) = and_none (nat_eq a 63)
question_is (a ∷ b ∷ []) = and_none (nat_eq a 63)
question_is (a ∷ b ∷ c ∷ []) = and_three (nat_eq a 63) (nat_eq b 45) (nat_eq c 62)
  where
    and_three : (p q r : Bool) → (p && (q && r && false)) ≡ false
    and_three false q r = refl
    and_three true false r = refl
    and_three true true false = refl
    and_three true true true = refl
question_is (a ∷ b ∷ c ∷ d ∷ bs) = and_four (nat_eq a 63) (nat_eq b 45) (nat_eq c 62) (is_letter d)

piece_is : (k : TokenKind) → written.is_piece k ≡ own.is_piece k
piece_is token.Piece = refl
piece_is _ = refl

variable_is : (k : NodeKind) → written.is_variable_node k ≡ own.is_variable k
variable_is kind.Variable = refl
variable_is _ = refl

quoted_is : (k : NodeKind) → written.is_quoted_node k ≡ own.is_quoted k
quoted_is kind.Quoted = refl
quoted_is _ = refl

or_none : (b : Bool) → ((b && false) || false) ≡ false
or_none true = refl
or_none false = refl

-- nothing stands so behind a variable, and nothing later
pub no_nullsafe : (b : Bool) (f : Forest) → own.has_question b f ≡ false
    → ((b && written.piece_questions f) ≡ false) × (written.has_nullsafe f ≡ false)
no_nullsafe b none h = (and_none b, refl)
no_nullsafe b (leaf x f) h =
    let p = or_parts (b && own.is_question x) (own.has_question false f) h in
    let q : (written.is_piece x.kind && written.begins_question x.text) ≡ own.is_question x = rw (piece_is x.kind, question_is x.text) refl in
    (rw q p.0, (no_nullsafe false f p.1).1)
no_nullsafe b (node k c f) h =
    let r = no_nullsafe (own.is_variable k) f h in
    (and_none b, rw (variable_is k, r.0) r.1)

-- ---- one node

joined_none : (b : Bool) (c : Forest) → (b && own.has_question false c) ≡ false → (b && written.has_nullsafe c) ≡ false
joined_none false c h = refl
joined_none true c h = (no_nullsafe false c h).1

-- where no piece begins so, none stands behind a variable
none_behind : (b : Bool) (f : Forest) → has_sought (Some own.is_question) f ≡ false → own.has_question b f ≡ false
none_behind b none h = refl
none_behind b (leaf x f) h =
    let p = or_parts (own.is_question x) (has_sought (Some own.is_question) f) h in
    rw (p.0, and_none b) (none_behind false f p.1)
none_behind b (node k c f) h = none_behind (own.is_variable k) f h

unsaid : (quoted sought there : Bool) (r : Report) → (sought ≡ false → there ≡ false)
    → (if quoted && (false || sought) then (if there then r ∷ [] else []) else []) ≡ [] → (quoted && there) ≡ false
unsaid false sought there r g e = refl
unsaid true false there r g e = g refl
unsaid true true there r g e = only_if there r e

no_text : (k : NodeKind) (c : Forest) (at : ℕ) → reports_of own.nullsafe_texts at (k, c) ≡ [] → (own.is_quoted k && own.has_question false c) ≡ false
no_text k c at e =
    unsaid (own.is_quoted k) (has_sought (Some own.is_question) c) (own.has_question false c)
    (outside own.number (text_start at (leaves c)) (end_of at c)) (none_behind false c) e

safe_node : (k : NodeKind) (c : Forest) → (own.is_quoted k && own.has_question false c) ≡ false → not (written.is_quoted_node k && written.has_nullsafe c) ≡ true
safe_node k c h =
    let e : (written.is_quoted_node k && written.has_nullsafe c) ≡ false = rw (quoted_is k) (joined_none (own.is_quoted k) c h) in
    ap not e

no_use : (k : NodeKind) (c : Forest) (at : ℕ) → reports_of traits.traits at (k, c) ≡ [] → is_trait_use k ≡ true → ⊥
no_use kind.TraitUse c at h i = let no : ⊥ = cc in no
no_use _ c at h i = absurd (false≢true i)

-- ---- all nodes

pub record Clear (f : Forest) : Type 0 where
  pub safe : written.is_safe f ≡ true
  pub plain : PlainTraits f

clear_node : (k : NodeKind) (c f : Forest) → (own.is_quoted k && own.has_question false c) ≡ false → (is_trait_use k ≡ true → ⊥) → Clear c → Clear f → Clear (node k c f)
clear_node k c f q u i r = record {
  safe = rw (safe_node k c q, i.safe, r.safe) refl;
  plain = (λ e. absurd (u e), i.plain, r.plain);
}

pub clear : (k : NodeKind) (st : Standing) (more at : ℕ) (f : Forest) → reports_in k st more at f ≡ [] → Clear f
clear k st more at none e = record { safe = refl; plain = tt }
clear k st zero at (leaf x f) e =
    let r = clear k (past st (class_by (head_at x f).more (terminal x))) (head_at x f).more (behind at x) f
    (empty_both (refused_if _ at x) (reports_in k (past st (class_by (head_at x f).more (terminal x))) (head_at x f).more (behind at x) f) e).1 in
    record { safe = r.safe; plain = r.plain }
clear k st (suc more) at (leaf x f) e =
    let r = clear k st more (behind at x) f (empty_both (refused_if _ at x) (reports_in k st more (behind at x) f) e).1 in
    record { safe = r.safe; plain = r.plain }
clear k st more at (node j b f) e =
    let here = reports_in j at_first zero at b ++ at_node at (j, b) in
    let p = empty_both here (reports_in k (past_node st) zero (end_of at b) f) e in
    let q = empty_both (reports_in j at_first zero at b) (at_node at (j, b)) p.0 in
    let forms = empty_both (reports_of undecided_casts at (j, b)) _ q.1 in
    let texts = empty_both (reports_of own.nullsafe_texts at (j, b)) _ forms.1 in
    let uses = empty_both (reports_of traits.traits at (j, b)) _ texts.1 in
    clear_node j b f
    (no_text j b at texts.0)
    (no_use j b at uses.0)
    (clear j at_first zero at b q.0)
    (clear k (past_node st) zero (end_of at b) f p.1)

pub clear_file : (f : File) → reports f ≡ [] → Clear f.statements
clear_file f e = clear kind.Block at_first zero 0 f.statements (empty_both (reports_in kind.Block at_first zero 0 f.statements) (enums t.End 0 (file_leaves f)) e).0
