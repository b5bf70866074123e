-- Nodes in which no word is refused.
use Rattle.std.proofs.Common.{◌≡◌, ℕ, zero, suc, Bool, true, false, ◌&&◌, ◌||◌, List, ◌++◌, refl, ap, sym, ◌∙◌}
use Rattle.std.proofs.lemmas.Bool.{false≢true}
use Rattle.php_tree.specs.declared.kind.NodeKind.{NodeKind}
use Rattle.php_tree.specs.declared.kind.NodeKind.TheVariants as k
use Rattle.php_tree.specs.declared.token.Token.{Token}
use Rattle.php_tree.specs.Tree.{Forest, none, leaf, node}
use Rattle.php_tree.specs.Places.{behind, end_of}
use Rattle.php_terminals.specs.declared.terminal.Terminal.{Terminal}
use Rattle.php_terminals.specs.declared.terminal.Terminal.TheVariants as t
use Rattle.php_terminals.specs.Classify.{terminal}
use Rattle.syntax_upgrade.specs.Found.{Report}
use Rattle.syntax_upgrade.specs.NameHeads.{head_at}
use Rattle.syntax_upgrade.specs.Reports.{at_node, reports_in}
use Rattle.syntax_upgrade.specs.ReservedName.{
  Standing,
  at_first,
  past,
  past_node,
  class_by,
  next,
  is_doubtful,
  is_keyword_now,
  is_match,
  is_quiet,
  is_type_now,
  refuses,
  refuses_last,
  refused_if,
}

-- ---- nothing is refused

none_refused : (j : NodeKind) (s : Standing) (x y : Terminal) → is_quiet j ≡ true → refuses j s x y ≡ false
none_refused k.Function s x y h = absurd (false≢true h)
none_refused k.Call s x y h = absurd (false≢true h)
none_refused k.Constant s x y h = absurd (false≢true h)
none_refused k.TypeName s x y h = absurd (false≢true h)
none_refused k.New s x y h = absurd (false≢true h)
none_refused k.InstanceOf s x y h = absurd (false≢true h)
none_refused k.Try s x y h = absurd (false≢true h)
none_refused k.ClassConstant s x y h = absurd (false≢true h)
none_refused k.StaticProp s x y h = absurd (false≢true h)
none_refused k.StaticCall s x y h = absurd (false≢true h)
none_refused k.TraitUse s x y h = absurd (false≢true h)
none_refused k.Class s x y h = absurd (false≢true h)
none_refused k.Interface s x y h = absurd (false≢true h)
none_refused k.Trait s x y h = absurd (false≢true h)
none_refused k.Const s x y h = absurd (false≢true h)
none_refused k.Use s x y h = absurd (false≢true h)
none_refused k.Goto s x y h = absurd (false≢true h)
none_refused k.LabelStmt s x y h = absurd (false≢true h)
none_refused k.Declare s x y h = absurd (false≢true h)
none_refused _ s x y h = refl

none_last : (j : NodeKind) (s : Standing) (x y : Terminal) → is_quiet j ≡ true → refuses_last j s x y ≡ false
none_last k.Use s x y h = absurd (false≢true h)
none_last _ s x y h = refl

pub and_false : (b : Bool) → (b && false) ≡ false
and_false true = refl
and_false false = refl

if_none : (b c : Bool) (at : ℕ) (x : Token) (rs : List Report) → c ≡ false → refused_if (b && c) at x ++ rs ≡ rs
if_none b c at x rs e = rw (e, and_false b) refl

-- where the next token stands, and how many are inside a name, tells nothing
pub quiet : (j : NodeKind) → is_quiet j ≡ true → (s u : Standing) (m n : ℕ) (at : ℕ) (f : Forest)
    → reports_in j s m at f ≡ reports_in j u n at f
quiet j h s u m n at none = refl
quiet j h s u zero zero at (leaf x f) =
    if_none _ _ at x _ (none_refused j s (terminal x) (next f) h)
    ∙ quiet j h _ _ _ _ (behind at x) f
    ∙ sym (if_none _ _ at x _ (none_refused j u (terminal x) (next f) h))
quiet j h s u zero (suc n) at (leaf x f) =
    if_none _ _ at x _ (none_refused j s (terminal x) (next f) h)
    ∙ quiet j h _ _ _ _ (behind at x) f
    ∙ sym (if_none _ _ at x _ (none_last j u (terminal x) (next f) h))
quiet j h s u (suc m) zero at (leaf x f) =
    if_none _ _ at x _ (none_last j s (terminal x) (next f) h)
    ∙ quiet j h _ _ _ _ (behind at x) f
    ∙ sym (if_none _ _ at x _ (none_refused j u (terminal x) (next f) h))
quiet j h s u (suc m) (suc n) at (leaf x f) =
    if_none _ _ at x _ (none_last j s (terminal x) (next f) h)
    ∙ quiet j h _ _ _ _ (behind at x) f
    ∙ sym (if_none _ _ at x _ (none_last j u (terminal x) (next f) h))
quiet j h s u m n at (node l b f) =
    ap (λ (rs : List Report). (reports_in l at_first zero at b ++ at_node at (l, b)) ++ rs)
    (quiet j h (past_node s) (past_node u) zero zero (end_of at b) f)

pub quiet_leaf : (j : NodeKind) → is_quiet j ≡ true → (s : Standing) (m at : ℕ) (x : Token) (f : Forest)
    → reports_in j s m (behind at x) f ≡ reports_in j s m at (leaf x f)
quiet_leaf j h s zero at x f =
    quiet j h s (past s (class_by (head_at x f).more (terminal x))) zero (head_at x f).more (behind at x) f
    ∙ sym (if_none _ _ at x _ (none_refused j s (terminal x) (next f) h))
quiet_leaf j h s (suc m) at x f =
    quiet j h s s (suc m) m (behind at x) f
    ∙ sym (if_none _ _ at x _ (none_last j s (terminal x) (next f) h))

-- ---- no other class is refused

and_of_false : (a b : Bool) → (a && false && b) ≡ false
and_of_false true b = refl
and_of_false false b = refl

both : (a b : Bool) → (a || b) ≡ false → (a ≡ false) × (b ≡ false)
both true b h = absurd (false≢true (sym h))
both false b h = (refl, h)

match_is_now : (x : Terminal) → is_keyword_now x ≡ false → is_match x ≡ false
match_is_now t.Match h = absurd (false≢true (sym h))
match_is_now _ h = refl

and_second_false : (a b : Bool) → b ≡ false → (a && b) ≡ false
and_second_false true b h = h
and_second_false false b h = refl

pub not_doubtful : (j : NodeKind) (s : Standing) (x y : Terminal) → is_doubtful x ≡ false → refuses j s x y ≡ false
not_doubtful k.Function s x y h = match_is_now x (both (is_keyword_now x) (is_type_now x) h).0
not_doubtful k.Call s x y h = match_is_now x (both (is_keyword_now x) (is_type_now x) h).0
not_doubtful k.Constant s x y h = (both (is_keyword_now x) (is_type_now x) h).0
not_doubtful k.TypeName s x y h = (both (is_keyword_now x) (is_type_now x) h).0
not_doubtful k.New s x y h = (both (is_keyword_now x) (is_type_now x) h).0
not_doubtful k.InstanceOf s x y h = (both (is_keyword_now x) (is_type_now x) h).0
not_doubtful k.Try s x y h = (both (is_keyword_now x) (is_type_now x) h).0
not_doubtful k.ClassConstant s x y h = let p = both (is_keyword_now x) (is_type_now x) h in rw p.0 refl
not_doubtful k.StaticProp s x y h = let p = both (is_keyword_now x) (is_type_now x) h in rw p.0 refl
not_doubtful k.StaticCall s x y h = let p = both (is_keyword_now x) (is_type_now x) h in rw p.0 refl
not_doubtful k.TraitUse s x y h = let p = both (is_keyword_now x) (is_type_now x) h in rw p.0 refl
not_doubtful k.Class s x y h = let p = both (is_keyword_now x) (is_type_now x) h in rw (p.0, p.1) (and_false _)
not_doubtful k.Interface s x y h = let p = both (is_keyword_now x) (is_type_now x) h in rw (p.0, p.1) (and_false _)
not_doubtful k.Trait s x y h = let p = both (is_keyword_now x) (is_type_now x) h in rw (p.0, p.1) (and_false _)
not_doubtful k.Const s x y h = (both (is_keyword_now x) (is_type_now x) h).0
not_doubtful k.Use s x y h = let p = both (is_keyword_now x) (is_type_now x) h in rw (p.0, p.1) (and_of_false s.of_class _)
not_doubtful k.Goto s x y h = (both (is_keyword_now x) (is_type_now x) h).0
not_doubtful k.LabelStmt s x y h = (both (is_keyword_now x) (is_type_now x) h).0
not_doubtful k.Declare s x y h = (both (is_keyword_now x) (is_type_now x) h).0
not_doubtful _ s x y h = refl

pub not_doubtful_last : (j : NodeKind) (s : Standing) (x y : Terminal) → is_doubtful x ≡ false → refuses_last j s x y ≡ false
not_doubtful_last k.Use s x y h = let p = both (is_keyword_now x) (is_type_now x) h in rw p.1 (and_of_false s.of_class _)
not_doubtful_last _ s x y h = refl
