-- What stands behind the name of a member.
use Rattle.std.proofs.Common.{◌≡◌, ℕ, suc, ◌+◌, Bool, true, false, not, ◌&&◌, List, [], ◌∷◌, ◌++◌, drop, ◌⊎◌, inl, inr, refl, sym, ap, ◌∙◌, subst, append-nil, arith}
use Rattle.std.specs.List.{prefix_len}
use Rattle.php_tree.specs.declared.kind.NodeKind.TheVariants as k
use Rattle.php_tree.specs.declared.token.Token.{Token}
use Rattle.php_tree.specs.declared.version.Version.{Version}
use Rattle.php_tree.specs.declared.version.Version.TheVariants.{V74, V83}
use Rattle.php_tree.specs.Tree.{Forest, none, leaf, node, ◌+++◌, leaves}
use Rattle.php_terminals.specs.declared.terminal.Terminal.{Terminal}
use Rattle.php_terminals.specs.declared.terminal.Terminal.TheVariants as t
use Rattle.php_terminals.specs.Classify.{terminal}
use Rattle.php_terminals.specs.Ahead.{behind_member, behind_rest, dollars, first_of, is_some_dollar, past_group}
use Rattle.php_terminals.specs.Marks.{is_dollar, is_open_brace}
use Rattle.php_grammar.specs.Accepts.{accepts}
use Rattle.php_shapes.specs.Atoms.{variable}
use Rattle.php_shapes.specs.Notation.{word, expr, braces}
use Rattle.php_shapes.specs.Postfixes.{member}
use Rattle.php_shapes.specs.Shapes.{Fits, is_first, is_second, is_both, is_kind, IsNode, is_node}
use Rattle.php_shapes.proofs.ReadClasses.{accepted, could, for_all}
use Rattle.php_shapes.proofs.ReadMatch.{false_true, where_is, where_it, word_is}
use Rattle.php_shapes.proofs.ReadOperands.{first_is, only_class}
use Rattle.php_shapes.proofs.ReadPast.{group_past, word_opens, word_closes}

-- behind the `$` and one token or group
abbrev pub behind_dollars : List Token → Terminal
behind_dollars ts = behind_rest (drop (dollars ts) ts)

plain_rest : (x : Token) (us : List Token) → is_open_brace (terminal x) ≡ false → behind_rest (x ∷ us) ≡ first_of us
plain_rest x us e = rw e refl

plain_dollars : (x : Token) (us : List Token) → is_dollar (terminal x) ≡ false → behind_dollars (x ∷ us) ≡ behind_rest (x ∷ us)
plain_dollars x us e = rw e refl

one_plus : (n : ℕ) → 1 + n ≡ suc n
one_plus n = omega arith

one_more : (x : Token) (us : List Token) → is_dollar (terminal x) ≡ true → drop (dollars (x ∷ us)) (x ∷ us) ≡ drop (dollars us) us
one_more x us e = rw (e, one_plus (prefix_len is_some_dollar us)) refl

one_dollar : (x : Token) (us : List Token) → is_dollar (terminal x) ≡ true → behind_dollars (x ∷ us) ≡ behind_dollars us
one_dollar x us e = ap behind_rest (one_more x us e)

group_rest : (ts us : List Token) → first_of ts ≡ t.OpenBrace → past_group 0 ts ≡ us → behind_rest ts ≡ first_of us
group_rest ts us e p = rw (e, p) refl

no_dollars : (ts : List Token) → first_of ts ≡ t.OpenBrace → behind_dollars ts ≡ behind_rest ts
no_dollars [] e = refl
no_dollars (x ∷ xs) e = plain_dollars x xs (ap is_dollar e)

brace_first : (v : Version) → only_class v (braces expr) t.OpenBrace ≡ true
unfolding for_all
brace_first V74 = refl
brace_first V83 = refl

brace_opens : (v : Version) → word_opens v t.OpenBrace ≡ true
unfolding for_all
brace_opens V74 = refl
brace_opens V83 = refl

brace_closes : (v : Version) → word_closes v t.CloseBrace ≡ true
unfolding for_all
brace_closes V74 = refl
brace_closes V83 = refl

braces_behind : (v : Version) (g : Forest) (us : List Token) → Fits v (braces expr) g → (first_of (leaves g ++ us) ≡ t.OpenBrace) × (behind_rest (leaves g ++ us) ≡ first_of us)
braces_behind v g us x =
    let e : first_of (leaves g ++ us) ≡ t.OpenBrace = first_is v (braces expr) t.OpenBrace g us (brace_first v) refl x in
    (e, group_rest (leaves g ++ us) us e (group_past v t.OpenBrace t.CloseBrace expr g us (brace_opens v) (brace_closes v) refl x))

dollar_word : (v : Version) → for_all (λ c. where_it (could v t.Dollar c) (is_dollar c)) ≡ true
unfolding for_all
dollar_word V74 = refl
dollar_word V83 = refl

variable_word : (v : Version) → for_all (λ c. where_it (could v t.Variable c) (not (is_dollar c) && not (is_open_brace c))) ≡ true
unfolding for_all
variable_word V74 = refl
variable_word V83 = refl

any_word : (v : Version) → for_all (λ c. where_it (could v t.AnyWord c) (not (is_dollar c) && not (is_open_brace c))) ≡ true
unfolding for_all
any_word V74 = refl
any_word V83 = refl

neither : (a b : Bool) → (not a && not b) ≡ true → (a ≡ false) × (b ≡ false)
neither true b h = absurd (false_true h)
neither false true h = absurd (false_true h)
neither false false h = (refl, refl)

plain_word : (v : Version) (w : Terminal) (g : Forest) (us : List Token)
    → for_all (λ c. where_it (could v w c) (not (is_dollar c) && not (is_open_brace c))) ≡ true → Fits v (word w) g
    → (is_dollar (first_of (leaves g ++ us)) ≡ false) × (behind_rest (leaves g ++ us) ≡ first_of us)
    × (behind_dollars (leaves g ++ us) ≡ first_of us)
plain_word v w g us h x =
    let u : (y : Token) × (g ≡ leaf y none) × (accepts v w y ≡ true) = word_is v w g x in
    let q : (is_dollar (terminal u.0) ≡ false) × (is_open_brace (terminal u.0) ≡ false) =
    neither (is_dollar (terminal u.0)) (is_open_brace (terminal u.0))
    (where_is (could v w) (λ c. not (is_dollar c) && not (is_open_brace c)) (terminal u.0) h
    (accepted v w u.0 u.2)) in
    subst (λ (z : Forest). (is_dollar (first_of (leaves z ++ us)) ≡ false)
    × (behind_rest (leaves z ++ us) ≡ first_of us) × (behind_dollars (leaves z ++ us) ≡ first_of us)) (sym u.1)
    (q.0, plain_rest u.0 us q.1, plain_dollars u.0 us q.0 ∙ plain_rest u.0 us q.1)

dollar_step : (v : Version) (g h : Forest) (us : List Token) → Fits v (word t.Dollar) g → behind_dollars (leaves (g +++ h) ++ us) ≡ behind_dollars (leaves h ++ us)
dollar_step v g h us x =
    let u : (y : Token) × (g ≡ leaf y none) × (accepts v t.Dollar y ≡ true) = word_is v t.Dollar g x in
    ap (λ (z : Forest). behind_dollars (leaves (z +++ h) ++ us)) u.1
    ∙ one_dollar u.0 (leaves h ++ us) (where_is (could v t.Dollar) is_dollar (terminal u.0) (dollar_word v) (accepted v t.Dollar u.0 u.2))

append-none : (c : Forest) (us : List Token) → leaves (node k.Variable c none) ++ us ≡ leaves c ++ us
append-none c us = ap (λ (z : List Token). z ++ us) (append-nil (leaves c))

mutual
  variable_fits : (v : Version) {c : Forest} (us : List Token) → Fits v variable c → behind_dollars (leaves c ++ us) ≡ first_of us
  variable_fits v {c} us (is_first x) = (plain_word v t.Variable c us (variable_word v) x).2
  variable_fits v us (is_second (is_both {g = g} {h = h} x (is_first y) e)) =
      ap (λ (z : Forest). behind_dollars (leaves z ++ us)) e ∙ dollar_step v g h us x
      ∙ no_dollars (leaves h ++ us) ((braces_behind v h us y).0) ∙ (braces_behind v h us y).1
  variable_fits v us (is_second (is_both {g = g} {h = h} x (is_second (is_kind {c = b} y)) e)) =
      ap (λ (z : Forest). behind_dollars (leaves z ++ us)) e ∙ dollar_step v g (node k.Variable b none) us x
      ∙ ap behind_dollars (append-none b us) ∙ variable_behind v us y

  variable_behind : (v : Version) {c : Forest} (us : List Token) → IsNode v k.Variable c → behind_dollars (leaves c ++ us) ≡ first_of us
  variable_behind v us (is_node x near straight) = variable_fits v us x

from_dollars : (ts : List Token) → behind_member ts ≡ behind_dollars ts ⊎ ((is_dollar (first_of ts) ≡ false) × (behind_member ts ≡ behind_rest ts))
from_dollars ts = go (is_dollar (first_of ts)) refl
  where
    go : (b : Bool) → is_dollar (first_of ts) ≡ b → behind_member ts ≡ behind_dollars ts ⊎ ((is_dollar (first_of ts) ≡ false) × (behind_member ts ≡ behind_rest ts))
    go true e = inl (rw e refl)
    go false e = inr (e, rw e refl)

-- where it begins with no `$`
not_dollar : (ts : List Token) → is_dollar (first_of ts) ≡ false → behind_member ts ≡ behind_rest ts
not_dollar ts e = rw e refl

no_dollar_before : (ts : List Token) → is_dollar (first_of ts) ≡ false → behind_dollars ts ≡ behind_rest ts
no_dollar_before [] e = refl
no_dollar_before (x ∷ xs) e = plain_dollars x xs e

pub member_of_variable : (ts us : List Token) → behind_dollars ts ≡ first_of us → behind_member ts ≡ first_of us
member_of_variable ts us e = elim (from_dollars ts) [ inl h ↦ h ∙ e | inr h ↦ h.1 ∙ sym (no_dollar_before ts h.0) ∙ e ]

pub behind_members : (v : Version) (g : Forest) (us : List Token) → Fits v member g → behind_member (leaves g ++ us) ≡ first_of us
behind_members v g us (is_first (is_kind {c = b} x)) = ap behind_member (append-none b us) ∙ member_of_variable (leaves b ++ us) us (variable_behind v us x)
behind_members v g us (is_second (is_first x)) = not_dollar (leaves g ++ us) (ap is_dollar ((braces_behind v g us x).0)) ∙ (braces_behind v g us x).1
behind_members v g us (is_second (is_second x)) = let q : (is_dollar (first_of (leaves g ++ us)) ≡ false)
    × (behind_rest (leaves g ++ us) ≡ first_of us) × (behind_dollars (leaves g ++ us) ≡ first_of us) =
    plain_word v t.AnyWord g us (any_word v) x in not_dollar (leaves g ++ us) q.0 ∙ q.1

-- a static member: a variable, as a token, or one that begins with `$`
pub behind_variables : (v : Version) (c : Forest) (us : List Token) → Fits v variable c → behind_member (leaves c ++ us) ≡ first_of us
behind_variables v c us x = member_of_variable (leaves c ++ us) us (variable_fits v us x)
