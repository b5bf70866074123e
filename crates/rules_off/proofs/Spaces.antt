-- Drafts in which no name stands directly behind a keyword, and what node rules make of them.
use Rattle.std.proofs.Common.{◌≡◌, ℕ, Bool, true, false, ◌&&◌, if◌then◌else◌, List, [], ◌∷◌, refl, ap, sym, ◌∙◌, subst, codes, append-nil}
use Rattle.std.proofs.lemmas.Bool.{false≢true}
use Rattle.php_tree.specs.declared.token.TokenKind.{TokenKind}
use Rattle.php_tree.specs.declared.kind.NodeKind.{NodeKind}
use Rattle.tracked_changes.specs.patches.Patches.{Wrapping, InParens}
use Rattle.tracked_changes.specs.Pieces.{before}
use Rattle.tracked_changes.specs.Draft.{NewToken, Draft, no_more, new_leaf, new_node}
use Rattle.tracked_changes.specs.Leads.{holds_none, first_lead, without_lead}
use Rattle.tracked_changes.specs.Tokens.{retexted, put_in}
use Rattle.tracked_changes.specs.Walk.{NewTree}
use Rattle.tracked_changes.specs.Parens.{in_parens, in_wrappings}
use Rattle.syntax_rules.specs.SplitName.{apart, begins_root, is_keyword, is_name, is_nothing, keyword_behind, keyword_last}
use Rattle.syntax_upgrade.specs.Written.{wants_space}
use Rattle.syntax_upgrade.proofs.Tokens.{and_first, and_second}

-- one test holds only where another does
abbrev pub Under : Bool → Bool → Type 0
Under a b = a ≡ true → b ≡ true

-- no token of a draft behind a keyword or not wants a space before it
abbrev pub Spaceless : Bool → Draft → Type 0
Spaceless b no_more = Unit {0}
Spaceless b (new_leaf t d) = (wants_space true b t ≡ false) × Spaceless (keyword_behind b t) d
Spaceless b (new_node k c d) = Spaceless b c × Spaceless (keyword_last b c) d

pub apart_same : (b : Bool) (d : Draft) → Spaceless b d → apart b d ≡ d
apart_same b no_more h = refl
apart_same b (new_leaf t d) h = rw h.0 (ap (new_leaf t) (apart_same (keyword_behind b t) d h.1))
apart_same b (new_node k c d) h =
    ap (λ (x : Draft). new_node k x (apart (keyword_last b c) d)) (apart_same b c h.0)
    ∙ ap (new_node k c) (apart_same (keyword_last b c) d h.1)

-- ---- behind no keyword rather than one

wants_under : (a b : Bool) (t : NewToken) → Under a b → wants_space true b t ≡ false → wants_space true a t ≡ false
wants_under false b t u h = refl
wants_under true b t u h = subst (λ (x : Bool). wants_space true x t ≡ false) (u refl) h

behind_if : (a b n l k : Bool) → Under a b → Under (if n then a && l else k) (if n then b && l else k)
behind_if a b false l k u e = e
behind_if false b true l k u e = absurd (false≢true e)
behind_if true b true l k u e = rw (u refl) e

behind_under : (a b : Bool) (t : NewToken) → Under a b → Under (keyword_behind a t) (keyword_behind b t)
behind_under a b t u = behind_if a b (is_nothing (before t.text)) (is_nothing (before t.lead)) (is_keyword t.kind) u

pub last_under : (a b : Bool) (d : Draft) → Under a b → Under (keyword_last a d) (keyword_last b d)
last_under a b no_more u = u
last_under a b (new_leaf t d) u = last_under (keyword_behind a t) (keyword_behind b t) d (behind_under a b t u)
last_under a b (new_node k c d) u = last_under (keyword_last a c) (keyword_last b c) d (last_under a b c u)

pub spaceless_under : (a b : Bool) (d : Draft) → Under a b → Spaceless b d → Spaceless a d
spaceless_under a b no_more u h = tt
spaceless_under a b (new_leaf t d) u h =
    (wants_under a b t u h.0, spaceless_under (keyword_behind a t) (keyword_behind b t) d (behind_under a b t u) h.1)
spaceless_under a b (new_node k c d) u h =
    (spaceless_under a b c u h.0, spaceless_under (keyword_last a c) (keyword_last b c) d (last_under a b c u) h.1)

-- ---- what a change does

-- behind what a token stands, and behind what stands what follows it
abbrev pub Meek : NewToken → NewToken → Type 0
Meek t u = (a b : Bool) → Under a b → wants_space true b t ≡ false
    → (wants_space true a u ≡ false) × Under (keyword_behind a u) (keyword_behind b t)

-- a draft with no more names behind keywords than another
abbrev pub Meeker : Draft → Draft → Type 0
Meeker d e = (a b : Bool) → Under a b → Spaceless b d → Spaceless a e × Under (keyword_last a e) (keyword_last b d)

pub meeker_same : (d : Draft) → Meeker d d
meeker_same d a b u h = (spaceless_under a b d u h, last_under a b d u)

pub meeker_both : (c d e : Draft) → Meeker c d → Meeker d e → Meeker c e
meeker_both c d e p q a b u h =
    let m = p b b (λ x. x) h in
    let n = q a b u m.0 in
    (n.0, λ x. m.1 (n.1 x))

pub meek_same : (t : NewToken) → Meek t t
meek_same t a b u h = (wants_under a b t u h, behind_under a b t u)

abbrev pub IsWordless : TokenKind → Type 0
IsWordless k = (is_name k ≡ false) × (is_keyword k ≡ false)

pub no_space : (a : Bool) (t : NewToken) → is_name t.kind ≡ false → wants_space true a t ≡ false
no_space false t h = refl
no_space true t h = rw h refl

not_behind : (a b n l k : Bool) → Under a b → Under (if n then a && l else false) (if n then b && l else k)
not_behind a b false l k u e = absurd (false≢true e)
not_behind false b true l k u e = absurd (false≢true e)
not_behind true b true l k u e = rw (u refl) e

-- a token that is neither a name nor a keyword, with no more bytes
pub meek_by : (t u : NewToken) → IsWordless u.kind → is_nothing (before u.text) ≡ is_nothing (before t.text)
    → is_nothing (before u.lead) ≡ is_nothing (before t.lead) → Meek t u
meek_by t u w e f a b v h =
    (no_space a u w.0, rw (e, f, w.1) (not_behind a b (is_nothing (before t.text)) (is_nothing (before t.lead)) (is_keyword t.kind) v))

pub meek_retexted : (k : TokenKind) (text : List ℕ) (t : NewToken) → IsWordless k → Meek t (retexted k text t)
meek_retexted k text t w = meek_by t (retexted k text t) w (ap is_nothing (append-nil (before t.text))) refl

pub meek_if : (b : Bool) (t u v : NewToken) → Meek t u → Meek t v → Meek t (if b then u else v)
meek_if true t u v p q = p
meek_if false t u v p q = q

pub meeker_leaf : (t u : NewToken) (d e : Draft) → Meek t u → Meeker d e → Meeker (new_leaf t d) (new_leaf u e)
meeker_leaf t u d e p q a b v h =
    let m = p a b v h.0 in
    let n = q (keyword_behind a u) (keyword_behind b t) m.1 h.1 in
    ((m.0, n.0), n.1)

pub meeker_node : (k j : NodeKind) (c b d e : Draft) → Meeker c b → Meeker d e → Meeker (new_node k c d) (new_node j b e)
meeker_node k j c b d e p q x y v h =
    let m = p x y v h.0 in
    let n = q (keyword_last x b) (keyword_last y c) m.1 h.1 in
    ((m.0, n.0), n.1)

-- ---- parentheses

and_true : (b : Bool) → (b && true) ≡ b
and_true true = refl
and_true false = refl

none_last : (b : Bool) (d : Draft) → holds_none d ≡ true → keyword_last b d ≡ b
none_last b no_more h = refl
none_last b (new_leaf t d) h = absurd (false≢true h)
none_last b (new_node k c d) h =
    ap (λ (x : Bool). keyword_last x d) (none_last b c (and_first (holds_none c) (holds_none d) h)) ∙ none_last b d (and_second (holds_none c) (holds_none d) h)

none_spaceless : (b : Bool) (d : Draft) → holds_none d ≡ true → Spaceless b d
none_spaceless b no_more h = tt
none_spaceless b (new_leaf t d) h = absurd (false≢true h)
none_spaceless b (new_node k c d) h =
    (none_spaceless b c (and_first (holds_none c) (holds_none d) h), none_spaceless (keyword_last b c) d (and_second (holds_none c) (holds_none d) h))

-- a draft without its first trivia, behind these trivia
record Bared (b : Bool) (d : Draft) : Type 0 where
  none : Spaceless (b && is_nothing (before (first_lead d))) (without_lead d)
  last : keyword_last (b && is_nothing (before (first_lead d))) (without_lead d) ≡ keyword_last b d

bare_wants : (b l n g : Bool) → (b && n && g && l) ≡ false → ((b && l) && n && g && true) ≡ false
bare_wants false l n g h = refl
bare_wants true false n g h = refl
bare_wants true true n g h = h

bared_node : (b : Bool) (k : NodeKind) (c d : Draft) (x : Bool) → holds_none c ≡ x → Spaceless b (new_node k c d) → Bared b c → Bared (keyword_last b c) d
    → Bared b (new_node k c d)
bared_node b k c d true e h p q =
    let o : keyword_last b c ≡ b = none_last b c e in
    let y : Bool = b && is_nothing (before (first_lead d)) in
    let n : Spaceless y (without_lead d) = rw o at q.none in
    let l : keyword_last y (without_lead d) ≡ keyword_last (keyword_last b c) d = subst (λ (z : Bool). keyword_last (z && is_nothing (before (first_lead d))) (without_lead d) ≡ keyword_last (keyword_last b c) d) o q.last in
    record {
      none = rw e (none_spaceless y c e, rw (none_last y c e) n);
      last = rw e (ap (λ (z : Bool). keyword_last z (without_lead d)) (none_last y c e) ∙ l);
    }
bared_node b k c d false e h p q = record {
  none = rw e (p.none, rw p.last h.1);
  last = rw e (ap (λ (z : Bool). keyword_last z d) p.last);
}

bared : (b : Bool) (d : Draft) → Spaceless b d → Bared b d
bared b no_more h = record { none = tt; last = and_true b }
bared b (new_leaf t d) h =
    let l : Bool = is_nothing (before t.lead) in
    let e : keyword_behind (b && l) (record t { lead = [] }) ≡ keyword_behind b t = rw (and_true (b && l)) refl in
    record {
      none = (bare_wants b l (is_name t.kind) (begins_root (before t.text)) h.0, rw e h.1);
      last = ap (λ (x : Bool). keyword_last x d) e;
    }
bared b (new_node k c d) h = bared_node b k c d (holds_none c) refl h (bared b c h.0) (bared (keyword_last b c) d h.1)

parens_apart : (b : Bool) (t : NewTree) → Spaceless b t.1 → Spaceless b (in_parens t).1 × (keyword_last b (in_parens t).1 ≡ keyword_last b t.1)
parens_apart b t h =
    let p = bared b t.1 h in
    let x : Bool = keyword_last (b && is_nothing (before (first_lead t.1))) (without_lead t.1) in
    ((no_space b (put_in (first_lead t.1) (codes "(")) refl, (p.none, (no_space x (put_in [] (codes ")")) refl, tt))), and_true x ∙ p.last)

pub parens_meek : (t : NewTree) → Meeker t.1 (in_parens t).1
parens_meek t a b u h =
    let p = parens_apart a t (spaceless_under a b t.1 u h) in
    (p.0, λ e. last_under a b t.1 u (sym p.1 ∙ e))

pub wrappings_meek : (ws : List Wrapping) (t : NewTree) → Meeker t.1 (in_wrappings ws t).1
wrappings_meek [] t = meeker_same t.1
wrappings_meek (InParens ∷ ws) t =
    meeker_both t.1 (in_wrappings ws t).1 (in_parens (in_wrappings ws t)).1 (wrappings_meek ws t) (parens_meek (in_wrappings ws t))
