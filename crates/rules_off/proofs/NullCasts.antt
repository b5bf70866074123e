-- A cast `(unset)` of a plain variable, whose tokens are all taken out.
use Rattle.std.proofs.Common.{◌≡◌, ℕ, zero, Bool, true, false, ◌&&◌, if◌then◌else◌, List, [], ◌∷◌, ◌++◌, refl, ap, sym, ◌∙◌, subst, codes, append-nil}
use Rattle.std.specs.Str.{bytes_eq}
use Rattle.std.proofs.lemmas.Bool.{false≢true}
use Rattle.php_tree.specs.declared.token.Token.{Token}
use Rattle.php_tree.specs.declared.token.TokenKind.{TokenKind}
use Rattle.php_tree.specs.declared.kind.NodeKind.{NodeKind}
use Rattle.php_tree.specs.declared.kind.NodeKind.TheVariants as kind
use Rattle.php_tree.specs.Tree.{Forest, none, leaf, node}
use Rattle.tracked_changes.specs.patches.Patches.{Wrapping}
use Rattle.tracked_changes.specs.Pieces.{before, kept}
use Rattle.tracked_changes.specs.Draft.{NewToken, Draft, no_more, new_leaf, new_node, pieces, token_pieces}
use Rattle.tracked_changes.specs.Leads.{first_lead, without_lead}
use Rattle.tracked_changes.proofs.Joining.{before-append}
use Rattle.syntax_rules.specs.declared.rules.Rules.{Rules}
use Rattle.syntax_rules.specs.Around.{within}
use Rattle.syntax_rules.specs.Casts.{bare, first_text, is_cast}
use Rattle.syntax_rules.specs.HashComment.{lead_by}
use Rattle.syntax_rules.specs.InContext.{parts_by}
use Rattle.syntax_rules.specs.SplitName.{is_nothing, keyword_behind, keyword_last, whole_names}
use Rattle.syntax_rules.specs.Together.{every_rule, token_by}
use Rattle.syntax_rules.specs.UnsetCast.{is_edited, is_unset_cast, is_variable, of_variable, opening, unset_cast}
use Rattle.syntax_rules.proofs.HashCommentKeeps.{lead_keeps}
use Rattle.syntax_rules.proofs.SplitNameKeeps.{whole_keeps}
use Rattle.syntax_upgrade.specs.OffPlaces.{Off, null_off}
use Rattle.syntax_upgrade.proofs.Names.{whole_bare, whole_lead}
use Rattle.syntax_upgrade.proofs.Tokens.{and_first, and_second}
use Rattle.rules_off.proofs.Found.{first_seen}
use Rattle.rules_off.proofs.SameTokens.{token_same}
use Rattle.rules_off.proofs.Spaces.{Spaceless, no_space}
use Rattle.rules_off.proofs.WholeNodes.{null_is}

-- ---- the parts of such a cast, drafted

-- a plain variable in a cast
abbrev variable : Token → Forest
variable y = node kind.Variable (leaf y none) none

abbrev no_wrapping : List Wrapping
no_wrapping = []

if_none : (b : Bool) → (if b then no_wrapping else no_wrapping) ≡ no_wrapping
if_none true = refl
if_none false = refl

and_none : (b : Bool) → (b && false) ≡ false
and_none true = refl
and_none false = refl

abbrev drafted_variable : Rules → Token → Draft
drafted_variable r y = new_node kind.Variable (new_leaf (token_by r y) no_more) no_more

variable_drafted : (r : Rules) (k : NodeKind) (c : Forest) (y : Token) → parts_by r (within k c) false (variable y) ≡ drafted_variable r y
variable_drafted r k c y =
    rw (if_none r.nested_ternaries, if_none r.dot_operands, and_none r.brace_offsets, and_none r.real_casts, and_none r.unset_casts, and_none r.dollar_braces) refl

variable_bytes : (r : Rules) (y : Token) → before (pieces (drafted_variable r y)) ≡ y.lead ++ y.text
variable_bytes r y =
    let all : before (token_pieces (token_by r y)) ≡ y.lead ++ y.text =
    before-append (lead_by r.hash_comments y.lead) (kept y.text ∷ [])
    ∙ ap (λ (bs : List ℕ). bs ++ (y.text ++ [])) (lead_keeps r.hash_comments y.lead)
    ∙ ap (λ (bs : List ℕ). y.lead ++ bs) (append-nil y.text) in
    ap before (append-nil (token_pieces (token_by r y) ++ []) ∙ append-nil (token_pieces (token_by r y))) ∙ all

-- the parts, with their names whole or not
abbrev drafted : Rules → Bool → NodeKind → Forest → Draft
drafted r n k c = whole_names n (parts_by r (within k c) true c)

abbrev cast_of : Token → Token → Forest
cast_of x y = leaf x (variable y)

cast_lead : (r : Rules) (n : Bool) (k : NodeKind) (x y : Token) → first_lead (drafted r n k (cast_of x y)) ≡ (token_by r x).lead
cast_lead r n k x y = whole_lead n (parts_by r (within k (cast_of x y)) true (cast_of x y))

cast_bytes : (r : Rules) (n : Bool) (k : NodeKind) (x y : Token)
    → before (pieces (without_lead (drafted r n k (cast_of x y)))) ≡ x.text ++ (y.lead ++ y.text)
cast_bytes r n k x y =
    let d : Draft = parts_by r (within k (cast_of x y)) true (cast_of x y) in
    ap (λ (e : Draft). before (pieces e)) (sym (whole_bare n d))
    ∙ whole_keeps n (without_lead d)
    ∙ ap (λ (e : Draft). x.text ++ before (pieces e)) (variable_drafted r k (cast_of x y) y)
    ∙ ap (λ (bs : List ℕ). x.text ++ bs) (variable_bytes r y)

-- ---- its shape

variable_kind : (k : NodeKind) (t : TokenKind) → is_variable k t ≡ true → k ≡ kind.Variable
variable_kind kind.Variable t h = refl
variable_kind k t h = absurd cc

pub record IsCast (c : Forest) : Type 0 where
  pub cast : Token
  pub operand : Token
  pub is : c ≡ cast_of cast operand

cast_shape : (c : Forest) → of_variable c ≡ true → IsCast c
cast_shape (leaf x (node k (leaf y none) none)) h = record {
  cast = x;
  operand = y;
  is = ap (λ (j : NodeKind). leaf x (node j (leaf y none) none)) (variable_kind k y.kind h);
}
cast_shape c h = absurd cc

-- ---- what it becomes

-- the same by each rule set, where the trivia before it have no place
pub null_same : (r : Rules) (k : NodeKind) (c : Forest) (at : ℕ) (s : Off) → is_edited (k, c) ≡ true → (null_off r at c s).found ≡ []
    → unset_cast (k, drafted r r.split_names k c) ≡ unset_cast (k, drafted every_rule true k c)
null_same r k c at s h e =
    let p = cast_shape c (and_second (is_unset_cast (k, c)) (of_variable c) h) in
    let x : Token = p.cast in
    let y : Token = p.operand in
    let found : (null_off r at (cast_of x y) s).found ≡ [] = subst (λ (f : Forest). (null_off r at f s).found ≡ []) p.is e in
    let seen = first_seen r at x (record { more = zero; token = token_by r x }) (variable y) s found in
    subst (λ (f : Forest). unset_cast (k, drafted r r.split_names k f) ≡ unset_cast (k, drafted every_rule true k f)) (sym p.is)
    (null_is k k (drafted r r.split_names k (cast_of x y)) (drafted every_rule true k (cast_of x y))
    (cast_lead r r.split_names k x y ∙ ap (λ (t : NewToken). t.lead) (token_same r at x seen.comments) ∙ sym (cast_lead every_rule true k x y))
    (cast_bytes r r.split_names k x y ∙ sym (cast_bytes every_rule true k x y)))

some_text : (text : List ℕ) → bytes_eq (bare text) (codes "(unset)") ≡ true → (bs : List ℕ) → is_nothing (text ++ bs) ≡ false
some_text [] h bs = absurd (false≢true h)
some_text (b ∷ text) h bs = refl

null_apart : (b : Bool) (k : NodeKind) (d : Draft) → is_nothing (before (pieces (without_lead d))) ≡ false
    → Spaceless b (unset_cast (k, d)).1 × (keyword_last b (unset_cast (k, d)).1 ≡ false)
null_apart b k d h =
    let n : keyword_behind b (opening d) ≡ false = rw (append-nil (before (pieces (without_lead d))), h) refl in (
      (
        no_space b (opening d) refl,
        rw n ((refl, tt), (refl, tt)),
      ),
      rw n refl,
    )

-- no name stands in it, and no keyword stands last
pub cast_apart : (r : Rules) (b : Bool) (k : NodeKind) (c : Forest) → is_edited (k, c) ≡ true
    → Spaceless b (unset_cast (k, drafted r r.split_names k c)).1 × (keyword_last b (unset_cast (k, drafted r r.split_names k c)).1 ≡ false)
cast_apart r b k c h =
    let u : is_unset_cast (k, c) ≡ true = and_first (is_unset_cast (k, c)) (of_variable c) h in
    let text : bytes_eq (bare (first_text c)) (codes "(unset)") ≡ true = and_second (is_cast k) (bytes_eq (bare (first_text c)) (codes "(unset)")) u in
    let p = cast_shape c (and_second (is_unset_cast (k, c)) (of_variable c) h) in
    let same : first_text c ≡ p.cast.text = ap first_text p.is in
    null_apart b k (drafted r r.split_names k c)
    (ap (λ (f : Forest). is_nothing (before (pieces (without_lead (drafted r r.split_names k f))))) p.is
    ∙ ap is_nothing (cast_bytes r r.split_names k p.cast p.operand)
    ∙ some_text p.cast.text (subst (λ (bs : List ℕ). bytes_eq (bare bs) (codes "(unset)") ≡ true) same text) (p.operand.lead ++ p.operand.text))
