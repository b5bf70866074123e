-- A token of a node, where places of rules that are off are looked for.
use Rattle.std.proofs.Common.{◌≡◌, ℕ, zero, Bool, true, false, ◌&&◌, if◌then◌else◌, ◌++◌, Option, refl, ap, sym, ◌∙◌}
use Rattle.std.proofs.lemmas.Bool.{false≢true}
use Rattle.php_tree.specs.declared.token.Token.{Token}
use Rattle.php_tree.specs.Tree.{Forest, leaf}
use Rattle.php_tree.specs.Places.{behind}
use Rattle.syntax_rules.specs.declared.rules.Rules.{Rules}
use Rattle.syntax_rules.specs.Around.{Around}
use Rattle.syntax_upgrade.specs.NamesWalked.{Head}
use Rattle.syntax_upgrade.specs.OffPlaces.{Off, dollar_reports, first_off, head_by, head_off, off_in, trivia_off}
use Rattle.syntax_upgrade.proofs.Tokens.{and_first}

on_if : (b : Bool) (p q q' : Off) → b ≡ true → (if b then p else q) ≡ (if b then p else q')
on_if true p q q' h = refl
on_if false p q q' h = absurd (false≢true h)

-- where names stay as they are, it doesn't matter what begins with a token
same_first : (r : Rules) (at : ℕ) (x : Token) (h g : Head) (f : Forest) (s : Off) → r.split_names ≡ true
    → first_off r at x h f s ≡ first_off r at x g f s
same_first r at x h g f s e =
    let t = trivia_off r at x s in
    ap (λ (o : Off). record { behind = o.behind; found = o.found ++ dollar_reports r at x })
    (on_if r.split_names (record { behind = false; found = t.found }) (head_off at x h f t) (head_off at x g f t) e)

count_if : (b : Bool) (n : ℕ) → b ≡ true → (if b then zero else n) ≡ zero
count_if true n h = refl
count_if false n h = absurd (false≢true h)

count_else : (b : Bool) (n : ℕ) → b ≡ false → (if b then zero else n) ≡ n
count_else true n h = absurd (false≢true (sym h))
count_else false n h = refl

module _ (r : Rules) (around : Bool → Option Around) (i : Bool) (at : ℕ) (x : Token) (f : Forest) (s : Off) where
  -- where neither comments nor names are looked at
  pub unlooked : (n : ℕ) (h : Head) (o : Off) → n ≡ 0 → (r.split_names && r.hash_comments) ≡ true → o ≡ first_off r at x h f s
      → off_in r around false 0 (behind at x) f o ≡ off_in r around i n at (leaf x f) s
  unlooked n h o z b e =
      ap (off_in r around false 0 (behind at x) f)
      (e ∙ same_first r at x h (head_by r x f) f s (and_first r.split_names r.hash_comments b))
      ∙ ap (λ (m : ℕ). off_in r around false m (behind at x) f (first_off r at x (head_by r x f) f s))
      (sym (count_if (r.split_names && r.hash_comments) (head_by r x f).more b))
      ∙ ap (λ (m : ℕ). off_in r around i m at (leaf x f) s) (sym z)

  -- where they are
  pub looked : (n more : ℕ) (o : Off) → n ≡ 0 → (r.split_names && r.hash_comments) ≡ false → more ≡ (head_by r x f).more
      → o ≡ first_off r at x (head_by r x f) f s
      → off_in r around false more (behind at x) f o ≡ off_in r around i n at (leaf x f) s
  looked n more o z b m e =
      ap (off_in r around false more (behind at x) f) e
      ∙ ap (λ (k : ℕ). off_in r around false k (behind at x) f (first_off r at x (head_by r x f) f s))
      (m ∙ sym (count_else (r.split_names && r.hash_comments) (head_by r x f).more b))
      ∙ ap (λ (k : ℕ). off_in r around i k at (leaf x f) s) (sym z)
