-- Tokens that no rule touches, one directly behind another, as the code goes over them.
use Rattle.std.specs.Prelude.{◌≡◌, ◌≤◌, ◌==◌, ◌&&◌, ◌||◌, if◌then◌else◌, ℕ, Bool, true, false, List, [], ◌∷◌, length, slice_range, Option, Some, None}
use Rattle.php_tree.specs.declared.token.Token.{Token}
use Rattle.php_tree.specs.Tree.{Tree, leaves, tokens_bytes}
use Rattle.php_terminals.specs.declared.mark.Mark.{Mark}
use Rattle.php_terminals.specs.declared.terminal.Terminal.{Terminal}
use Rattle.php_terminals.specs.Marked.{token_at}
use Rattle.syntax_rules.specs.SplitName.{is_keyword}
use Rattle.syntax_upgrade.specs.declared.calm.Calm.{Calm}
use Rattle.syntax_upgrade.specs.declared.calm.Last.{Last}
use Rattle.syntax_upgrade.specs.Calm.{AreApart, AreCalm, IsCalm, has_no_token, is_calm, is_calm_kind, last_class, last_keyword, may_join, may_take}

-- behind a token that stands behind another one
abbrev pub behind_mark : List ℕ → Last → Mark → Last
behind_mark bytes last m = record {
  end = m.end;
  class = m.class;
  is_keyword = is_keyword m.kind;
  takes = last.takes || may_take (token_at bytes m).text;
  joins = last.joins || may_join (token_at bytes m).text;
}

-- behind some tokens, from behind another one, if no rule touches one of them and each stands directly behind the one before it
abbrev pub runs : List ℕ → Last → List Mark → Option Last
runs bytes last [] = Some last
runs bytes last (m ∷ ms) = if m.lead == last.end && is_calm (token_at bytes m) then runs bytes (behind_mark bytes last m) ms else None

-- no rule touches one of some tokens
abbrev pub AllCalm : List Token → Type 0
AllCalm [] = Unit {0}
AllCalm (x ∷ xs) = IsCalm x × AllCalm xs

-- No rule touches one of some tokens, and their bytes are those between two places.
pub record AreRun (bytes : List ℕ) (ts : List Token) (c : Calm) : Type 0 where
  pub calm : AllCalm ts
  pub apart : AreApart ts
  pub some : has_no_token ts ≡ false
  pub order : c.start ≤ c.last.end
  pub within : c.last.end ≤ length bytes
  pub text : slice_range bytes c.start c.last.end ≡ tokens_bytes ts
  pub class : (x : Terminal) → last_class x ts ≡ c.last.class
  pub keyword : (b : Bool) → last_keyword b ts ≡ c.last.is_keyword

-- No rule touches the node, and its bytes are those between two places.
pub record Stays (bytes : List ℕ) (n : Tree) (c : Calm) : Type 0 where
  pub kind : is_calm_kind n.0 ≡ true
  pub parts : AreCalm n.1
  pub apart : AreApart (leaves n.1)
  pub some : has_no_token (leaves n.1) ≡ false
  pub order : c.start ≤ c.last.end
  pub within : c.last.end ≤ length bytes
  pub text : slice_range bytes c.start c.last.end ≡ tokens_bytes (leaves n.1)
  pub class : (x : Terminal) → last_class x (leaves n.1) ≡ c.last.class
  pub keyword : (b : Bool) → last_keyword b (leaves n.1) ≡ c.last.is_keyword
