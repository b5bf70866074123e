-- The rules on syntax together: one draft of a file, from which its edits and the rewritten file are read off.
use Rattle.std.specs.Prelude.{◌≡◌, Bool, true, false, ◌==◌, ◌&&◌, if◌then◌else◌, [], ◌∷◌, map, codes}
use Rattle.span_edits.specs.Splice.{spliced}
use Rattle.php_tree.specs.declared.token.TokenKind.TheVariants as token
use Rattle.php_tree.specs.declared.token.Token.{Token}
use Rattle.php_tree.specs.declared.kind.NodeKind.{NodeKind}
use Rattle.php_tree.specs.declared.kind.NodeKind.TheVariants as kind
use Rattle.php_tree.specs.Tree.{none, node, Tree, File, file_printed}
use Rattle.tracked_changes.specs.patches.Patches.{Patches, InParens}
use Rattle.tracked_changes.specs.Pieces.{kept}
use Rattle.tracked_changes.specs.Draft.{NewToken, Draft, FileDraft, source, rewritten_file}
use Rattle.tracked_changes.specs.Edits.{edits}
use Rattle.tracked_changes.specs.Walk.{NewTree, Rewriting, drafted_file}
use Rattle.tracked_changes.specs.Parens.{in_wrappings}
use Rattle.syntax_rules.specs.BraceOffset.{is_brace_offset, brace_offset}
use Rattle.syntax_rules.specs.RealCast.{is_real_cast, real_cast}
use Rattle.syntax_rules.specs.UnsetCast.{is_edited, unset_cast}
use Rattle.syntax_rules.specs.declared.rules.Rules.{Rules}
use Rattle.syntax_rules.specs.HashComment.{lead_by}
use Rattle.syntax_rules.specs.SplitName.{whole_names, split_name}
use Rattle.syntax_rules.specs.DollarBrace.{dollar_brace}
use Rattle.syntax_rules.specs.Written.{word, word_behind, op, shown}

-- every rule is on
abbrev pub every_rule : Rules
every_rule = record {
  nested_ternaries = true;
  dot_operands = true;
  brace_offsets = true;
  real_casts = true;
  unset_casts = true;
  hash_comments = true;
  split_names = true;
  dollar_braces = true;
}

-- what is put round each node by the rules that group, and which of the others are on
pub record Choice : Type 0 where
  pub wraps : Patches
  pub rules : Rules

abbrev pub is_quoted : NodeKind → Bool
is_quoted kind.Quoted = true
is_quoted _ = false

-- a token
abbrev pub token_by : Rules → Token → NewToken
token_by r t = record { kind = t.kind; lead = lead_by r.hash_comments t.lead; text = kept t.text ∷ [] }

-- a node, as it stands in the source and once its parts are done
abbrev pub node_by : Rules → Tree → NewTree → NewTree
node_by r s t =
    if r.brace_offsets && is_brace_offset s.0 then brace_offset t
    else (if r.real_casts && is_real_cast s then real_cast t
    else (if r.unset_casts && is_edited s then unset_cast t
    else (if r.dollar_braces && is_quoted s.0 then dollar_brace t else t)))

-- tokens and nodes; parentheses stand round what a node becomes
abbrev pub rewriting : Choice → Rewriting
rewriting c = record {
  of_token = token_by c.rules;
  of_node = λ id s t. in_wrappings (c.wraps id) (node_by c.rules s t);
}

-- names: where the rule is off, those without trivia inside are whole
abbrev pub names_by : Rules → Draft → Draft
names_by r d = if r.split_names then split_name d else whole_names false d

-- The draft of a file.
abbrev pub syntax_draft : Choice → File → FileDraft
syntax_draft c f = record {
  statements = names_by c.rules (drafted_file (rewriting c) f).statements;
  end = token_by c.rules f.end;
}

-- `return\A . 1 + 2;` with parentheses round the left operand: the space stands before the name
abbrev pub sum_source : File
sum_source = record {
  statements = node kind.Return (word token.Keyword (codes "return")
      (node kind.Binary
      (node kind.Binary (node kind.Constant (op (codes "\\") (word token.Label (codes "A") none))
      (word_behind (codes " ") token.Op (codes ".")
      (node kind.Number (word_behind (codes " ") token.Int (codes "1") none) none)))
      (word_behind (codes " ") token.Op (codes "+")
      (node kind.Number (word_behind (codes " ") token.Int (codes "2") none) none)))
      (word token.Semi (codes ";") none))) none;
  end = record { kind = token.End; lead = []; text = []; start = 0 };
}

abbrev pub third : Patches
third id = if id == 2 then InParens ∷ [] else []

abbrev pub all_on : Patches → Choice
all_on wraps = record { wraps = wraps; rules = every_rule }

-- For every choice and every file: the draft's source is the file, printed; with the edits made it is the rewritten file,
-- printed. In the row each edit stands where the walk comes to it.
pub record SyntaxIsRewritten : Type 0 where
  pub bytes : (c : Choice) (f : File) → source (syntax_draft c f) ≡ file_printed f
  pub written : (c : Choice) (f : File)
      → spliced (file_printed f) (edits (syntax_draft c f)) ≡ file_printed (rewritten_file (syntax_draft c f))
  pub row : map shown (edits (syntax_draft (all_on third) sum_source))
      ≡ (6, 6, codes "(") ∷ (6, 6, codes " ") ∷ (12, 12, codes ")") ∷ []
  pub text : file_printed (rewritten_file (syntax_draft (all_on third) sum_source)) ≡ codes "return( \\A . 1) + 2;"
