-- Parts with whole names begin with a token that stands alone, or with a name.
use Rattle.std.proofs.Common.{◌≡◌, ℕ, zero, suc, Bool, true, false, cond, ◌&&◌, if◌then◌else◌, ◌⊎◌, inl, inr, codes, List, [], ◌++◌, Option, Some, None, refl, sym, ap, ◌∙◌, append-nil}
use Rattle.php_tree.specs.declared.token.Token.{Token}
use Rattle.php_tree.specs.declared.token.TokenKind.TheVariants.{Name}
use Rattle.php_tree.specs.Tree.{Forest, leaf}
use Rattle.php_terminals.specs.declared.terminal.Terminal.{Terminal}
use Rattle.php_terminals.specs.declared.terminal.Terminal.TheVariants as t
use Rattle.php_terminals.specs.Classify.{name, terminal, terminal_by}
use Rattle.php_terminals.specs.Words.{front, is_word}
use Rattle.tracked_changes.specs.Draft.{NewToken, rewritten, rewritten_token, unchanged_token}
use Rattle.syntax_rules.specs.SplitName.{is_one, one_name}
use Rattle.syntax_upgrade.specs.Found.{Report}
use Rattle.syntax_upgrade.specs.NameHeads.{Head, single, head_of, begins, head_at}
use Rattle.syntax_upgrade.specs.ReservedName.{class_by, is_last}
use Rattle.syntax_upgrade.specs.ReservedName.{refused_if}
use Rattle.nothing_reported.proofs.WholeHeads.{fits, skipped}
use Rattle.rewritten_shapes.specs.RefusedWords.{named}

-- the parts behind the first so many tokens, with whole names
abbrev pub left : ℕ → Forest → Forest
left more f = named (skipped more f)

-- A head is a token alone, or a name of several.
abbrev pub Sort : Token → Head → Type 0
Sort x h = ((h.more ≡ zero) × (h.token ≡ unchanged_token x)) ⊎ ((n : ℕ) × (h.more ≡ suc n) × (h.token.kind ≡ Name))

sort_if : (x : Token) (h : Head) (b : Bool) → Sort x (if b then record { more = suc h.more; token = one_name (unchanged_token x) h.token } else single x)
sort_if x h true = inr (h.more, refl, refl)
sort_if x h false = inl (refl, refl)

sort_of : (x : Token) (o : Option Head) → Sort x (head_of x o)
sort_of x None = inl (refl, refl)
sort_of x (Some h) = sort_if x h (is_one (unchanged_token x) h.token)

pub sort : (x : Token) (f : Forest) → Sort x (head_at x f)
sort x f = sort_of x (begins f)

-- the token or the name that parts begin with, rewritten
abbrev pub front_token : Token → Forest → Token
front_token x f = rewritten_token (head_at x f).token

pub front_is : (x : Token) (f : Forest) → named (leaf x f) ≡ leaf (front_token x f) (left (head_at x f).more f)
front_is x f = ap rewritten (fits x f).first

-- ---- classes

name_if : (p : Terminal → Bool) (a b : Bool) → p t.FullName ≡ p t.QualifiedName → p t.RelativeName ≡ p t.QualifiedName
    → p (cond a t.FullName (cond b t.RelativeName t.QualifiedName)) ≡ p t.QualifiedName
name_if p true b e d = e
name_if p false true e d = d
name_if p false false e d = refl

-- the classes of names are alike for a test
pub name_test : (p : Terminal → Bool) (text : List ℕ) → p t.FullName ≡ p t.QualifiedName → p t.RelativeName ≡ p t.QualifiedName → p (name text) ≡ p t.QualifiedName
name_test p text e d = name_if p (is_word (codes "\\") (front 1 text)) (is_word (codes "namespace\\") (front 10 text)) e d

-- a token alone keeps its class
pub alone_class : (x : Token) (f : Forest) → (head_at x f).token ≡ unchanged_token x → terminal (front_token x f) ≡ terminal x
alone_class x f e = ap (λ (u : NewToken). terminal (rewritten_token u)) e ∙ ap (terminal_by x.kind) (append-nil x.text)

pub name_class : (p : Terminal → Bool) (x : Token) (f : Forest) → (head_at x f).token.kind ≡ Name → p t.FullName ≡ p t.QualifiedName → p t.RelativeName ≡ p t.QualifiedName
    → p (terminal (front_token x f)) ≡ p t.QualifiedName
name_class p x f k e d =
    ap (λ kind. p (terminal_by kind (front_token x f).text)) k ∙ name_test p (front_token x f).text e d

-- a test of the class that the walk over words goes on with
pub same_test : (p : Terminal → Bool) (x : Token) (f : Forest) → p t.FullName ≡ p t.QualifiedName → p t.RelativeName ≡ p t.QualifiedName
    → p (class_by (head_at x f).more (terminal x)) ≡ p (terminal (front_token x f))
same_test p x f e d = go (sort x f)
  where
    go : Sort x (head_at x f) → p (class_by (head_at x f).more (terminal x)) ≡ p (terminal (front_token x f))
    go (inl s) = ap (λ (m : ℕ). p (class_by m (terminal x))) s.0 ∙ ap p (sym (alone_class x f s.1))
    go (inr s) = ap (λ (m : ℕ). p (class_by m (terminal x))) s.1 ∙ sym (name_class p x f s.2 e d)

-- ---- places

-- no place where none is put in front, and none behind
pub empty_if : (b : Bool) (at : ℕ) (x : Token) (ps : List Report) → refused_if b at x ++ ps ≡ [] → (b ≡ false) × (ps ≡ [])
empty_if true at x ps e = absurd cc
empty_if false at x ps e = (refl, e)

pub alone_of : (m : ℕ) (b : Bool) → (is_last m && b) ≡ false → m ≡ zero → b ≡ false
alone_of zero b e z = e
alone_of (suc m) b e z = absurd cc
