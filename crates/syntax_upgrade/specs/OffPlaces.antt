-- The places of rules that are off: where each of them would edit, in the order of a walk.
use Rattle.std.specs.Prelude.{ℕ, zero, suc, ◌+◌, ◌==◌, Bool, true, false, not, ◌&&◌, ◌||◌, if◌then◌else◌, List, [], ◌∷◌, ◌++◌, length, take_while, Option, Some, None}
use Rattle.rule_tables.specs.declared.rule.RuleId.{RuleId}
use Rattle.rule_tables.specs.declared.rule.RuleId.TheVariants as rule
use Rattle.php_tree.specs.declared.token.Token.{Token}
use Rattle.php_tree.specs.Tree.{Forest, none, leaf, node, Tree, File, leaves}
use Rattle.php_tree.specs.Places.{behind, end_of}
use Rattle.syntax_rules.specs.declared.rules.Rules.{Rules}
use Rattle.syntax_rules.specs.Around.{Around, within, at_top}
use Rattle.syntax_rules.specs.BraceOffset.{is_brace_offset}
use Rattle.syntax_rules.specs.DollarBrace.{is_dollar_brace}
use Rattle.syntax_rules.specs.DotPrecedence.{is_regrouped}
use Rattle.syntax_rules.specs.HashComment.{Standing, outside, begins_hash, moved}
use Rattle.syntax_rules.specs.InContext.{is_nested}
use Rattle.syntax_rules.specs.RealCast.{is_real_cast}
use Rattle.syntax_rules.specs.SplitName.{is_nothing, keyword_behind}
use Rattle.syntax_rules.specs.Together.{token_by}
use Rattle.syntax_rules.specs.UnsetCast.{is_edited}
use Rattle.syntax_upgrade.specs.Found.{Report, off, text_start}
use Rattle.syntax_upgrade.specs.NamesWalked.{Head, begins, head_of}
use Rattle.syntax_upgrade.specs.Written.{wants_space}

-- the place where the text of the first of some tokens begins, if there is one
abbrev pub first_start : ℕ → List Token → Option ℕ
first_start at [] = None
first_start at (x ∷ xs) = Some (at + length x.lead)

-- a place of a rule that is off, if it is one
abbrev pub off_if : Bool → RuleId → ℕ → ℕ → List Report
off_if is_place rule start end = if is_place then off rule start end ∷ [] else []

-- ---- comments

-- whether a byte ends no line: a line feed is 10, a carriage return 13
abbrev pub is_in_line : ℕ → Bool
is_in_line b = not (b == 10 || b == 13)

-- the comments that begin `#[` in trivia that begin at a place, each up to its line's end
abbrev pub comments : Standing → ℕ → List ℕ → List Report
comments s at [] = []
comments s at (b ∷ bs) =
    off_if (begins_hash s b bs) rule.HashComment at (at + 1 + length (take_while is_in_line bs)) ++ comments (moved s b bs) (at + 1) bs

abbrev pub comment_reports : Rules → ℕ → Token → List Report
comment_reports r at x = if r.hash_comments then [] else comments outside at x.lead

-- ---- names

-- the token or the whole name that begins with a token, before other parts
abbrev pub head_by : Rules → Token → Forest → Head
head_by r x f = head_of true (token_by r x) (begins true (token_by r) f)

-- whether trivia stand before one of so many tokens
abbrev pub has_trivia : ℕ → Forest → Bool
has_trivia zero f = false
has_trivia (suc n) none = false
has_trivia (suc n) (leaf x f) = not (is_nothing x.lead) || has_trivia n f
has_trivia (suc n) (node k c f) = false

-- the place behind so many tokens that begin at a place
abbrev pub behind_more : ℕ → ℕ → Forest → ℕ
behind_more zero at f = at
behind_more (suc n) at none = at
behind_more (suc n) at (leaf x f) = behind_more n (behind at x) f
behind_more (suc n) at (node k c f) = at

-- whether a name has trivia inside, or begins with `\` directly behind a keyword
abbrev pub is_split : Bool → Head → Forest → Bool
is_split behind h f = has_trivia h.more f || wants_space true behind h.token

-- ---- `${`

abbrev pub dollar_reports : Rules → ℕ → Token → List Report
dollar_reports r at x =
    off_if (not r.dollar_braces && is_dollar_brace x.kind) rule.DollarBrace (at + length x.lead) (behind at x)

-- ---- a walk

-- What is found, and whether a keyword stands directly before what comes next, where names are looked at.
pub record Off : Type 0 where
  pub behind : Bool
  pub found : List Report

abbrev pub with_found : List Report → Off → Off
with_found rs s = record { behind = s.behind; found = s.found ++ rs }

-- behind the trivia of a token
abbrev pub trivia_off : Rules → ℕ → Token → Off → Off
trivia_off r at x s = with_found (comment_reports r at x) s

-- behind the first token of a name, or another token, before other parts
abbrev pub head_off : ℕ → Token → Head → Forest → Off → Off
head_off at x h f s = record {
  behind = keyword_behind s.behind h.token;
  found = s.found ++ off_if (is_split s.behind h f) rule.SplitName (at + length x.lead) (behind_more h.more (behind at x) f);
}

-- the same, if names are looked at
abbrev pub name_off : Rules → ℕ → Token → Head → Forest → Off → Off
name_off r at x h f s = if r.split_names then record { behind = false; found = s.found } else head_off at x h f s

-- behind a token that is outside names, or the first one of a name
abbrev pub first_off : Rules → ℕ → Token → Head → Forest → Off → Off
first_off r at x h f s = with_found (dollar_reports r at x) (name_off r at x h f (trivia_off r at x s))

-- how many tokens of the name that begins with a token stand behind it, where that matters
abbrev pub more_by : Rules → Head → ℕ
more_by r h = if r.split_names && r.hash_comments then zero else h.more

-- behind a token inside a name, whose trivia are deleted where names are whole
abbrev pub inner_off : Rules → ℕ → Token → Off → Off
inner_off r at x s = if r.split_names then s else trivia_off r at x s

-- behind the tokens of a cast `(unset)` that is edited: all from the cast on is taken out
abbrev pub null_off : Rules → ℕ → Forest → Off → Off
null_off r at none s = s
null_off r at (leaf x f) s = first_off r at x (record { more = zero; token = token_by r x }) f s
null_off r at (node k c f) s = s

-- a node that begins at a place, if it is a place of a rule
abbrev pub node_if : Bool → RuleId → ℕ → Tree → Off → Off
node_if is_place rule at n s = with_found (off_if is_place rule (text_start at (leaves n.1)) (end_of at n.1)) s

-- Behind a node: the rules that edit whole nodes, one line a rule.
abbrev pub node_off : Rules → Option Around → ℕ → Tree → Off → Off
node_off r a at n s =
    node_if (not r.unset_casts && is_edited n) rule.UnsetCast at n
    (node_if (not r.real_casts && is_real_cast n) rule.RealCast at n
    (node_if (not r.brace_offsets && is_brace_offset n.0) rule.BraceOffset at n
    (node_if (not r.dot_operands && is_regrouped a n) rule.DotPrecedence at n
    (node_if (not r.nested_ternaries && is_nested a n.0) rule.NestedTernary at n s))))

-- Behind parts that begin at a place, the next so many tokens inside a name: behind each token, and behind each node, whose
-- own parts come before it.
abbrev pub off_in : Rules → (Bool → Option Around) → Bool → ℕ → ℕ → Forest → Off → Off
off_in r around i inner at none s = s
off_in r around i zero at (leaf x f) s =
    off_in r around false (more_by r (head_by r x f)) (behind at x) f (first_off r at x (head_by r x f) f s)
off_in r around i (suc inner) at (leaf x f) s = off_in r around false inner (behind at x) f (inner_off r at x s)
off_in r around i inner at (node k c f) s =
    off_in r around false zero (end_of at c) f
    (node_off r (around i) at (k, c)
    (if r.unset_casts && is_edited (k, c) then null_off r at c s else off_in r (within k c) true zero at c s))

-- behind the parts of a node, and behind the node
abbrev pub inside_off : Rules → ℕ → Tree → Off → Off
inside_off r at n s =
    if r.unset_casts && is_edited n then null_off r at n.1 s else off_in r (within n.0 n.1) true zero at n.1 s

abbrev pub child_off : Rules → Option Around → ℕ → Tree → Off → Off
child_off r a at n s = node_off r a at n (inside_off r at n s)

-- the front of a file
abbrev pub no_off : Off
no_off = record { behind = false; found = [] }

-- The places of a file.
abbrev pub off_reports : Rules → File → List Report
off_reports r f = (trivia_off r (end_of 0 f.statements) f.end (off_in r at_top true zero 0 f.statements no_off)).found
