-- A node's own parts, walked from the first.
use Rattle.std.specs.Prelude.{zero, Bool, true, false, ◌&&◌, if◌then◌else◌, [], ◌∷◌, Option, codes}
use Rattle.php_tree.specs.declared.token.Token.{Token}
use Rattle.php_tree.specs.declared.token.TokenKind.TheVariants as token
use Rattle.php_tree.specs.Tree.{Forest, none, leaf, node, Tree}
use Rattle.tracked_changes.specs.Pieces.{changed, also, before}
use Rattle.tracked_changes.specs.Draft.{NewToken, Draft, pieces, unchanged_token}
use Rattle.tracked_changes.specs.Leads.{first_lead, without_lead}
use Rattle.tracked_changes.specs.Tokens.{retexted}
use Rattle.syntax_rules.specs.Around.{Around, within}
use Rattle.syntax_rules.specs.BraceOffset.{is_brace_offset, bracket}
use Rattle.syntax_rules.specs.RealCast.{is_real_cast}
use Rattle.syntax_rules.specs.UnsetCast.{is_edited}
use Rattle.syntax_rules.specs.declared.rules.Rules.{Rules}
use Rattle.syntax_rules.specs.HashComment.{lead_by}
use Rattle.syntax_rules.specs.Together.{is_quoted, token_by}
use Rattle.syntax_upgrade.specs.Written.{Written, token_next}
use Rattle.syntax_rules.specs.InContext.{parts_by}
use Rattle.syntax_upgrade.specs.NamesWalked.{walked}
use Rattle.syntax_upgrade.specs.Texts.{other, text_walked}

-- a token, with the trivia that the rules give it
abbrev pub with_lead : Rules → Token → NewToken → NewToken
with_lead r t u = record { kind = u.kind; lead = lead_by r.hash_comments t.lead; text = u.text }

-- a token of an offset in braces
abbrev pub bracketed_token : Rules → Token → NewToken
bracketed_token r t = with_lead r t (bracket (unchanged_token t))

-- the token of a cast `(real)`
abbrev pub float_token : Rules → Token → NewToken
float_token r t = retexted token.Cast (codes "(float)") (token_by r t)

-- the parts of a cast `(real)`
abbrev pub float_walked : Rules → (Bool → Option Around) → Bool → Forest → Written → Written
float_walked r around i none w = w
float_walked r around i (leaf t f) w =
    walked r (token_by r) around false zero f (token_next r.split_names (float_token r t) w)
float_walked r around i (node k c f) w = walked r (token_by r) around i zero (node k c f) w

-- one token in the place of a cast `(unset)`
abbrev pub null_for : Draft → NewToken
null_for d = record {
  kind = token.Op;
  lead = first_lead d;
  text = changed (before (pieces (without_lead d))) (codes "(") ∷ also (codes "null") ∷ also (codes ")") ∷ [];
}

-- the parts of a node, by its rule
abbrev pub inside_next : Rules → Tree → Written → Written
inside_next r t w =
    if r.brace_offsets && is_brace_offset t.0 then walked r (bracketed_token r) (within t.0 t.1) true zero t.1 w
    else (if r.real_casts && is_real_cast t then float_walked r (within t.0 t.1) true t.1 w
    else (if r.unset_casts && is_edited t then token_next r.split_names (null_for (parts_by r (within t.0 t.1) true t.1)) w
    else (if r.dollar_braces && is_quoted t.0 then text_walked r (within t.0 t.1) true other t.1 w
    else walked r (token_by r) (within t.0 t.1) true zero t.1 w)))
