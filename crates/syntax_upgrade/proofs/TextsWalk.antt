-- A quoted text walked from the first token writes its draft.
use Rattle.std.proofs.Common.{◌≡◌, Bool, true, false, not, ◌&&◌, ◌||◌, if◌then◌else◌, Option, refl, ◌∙◌, codes}
use Rattle.std.proofs.lemmas.Bool.{false≢true}
use Rattle.php_tree.specs.declared.token.Token.{Token}
use Rattle.php_tree.specs.declared.token.TokenKind.{TokenKind}
use Rattle.php_tree.specs.declared.token.TokenKind.TheVariants as token
use Rattle.php_tree.specs.Tree.{Forest, none, leaf, node}
use Rattle.tracked_changes.specs.Pieces.{before}
use Rattle.tracked_changes.specs.Draft.{NewToken, Draft, no_more, new_leaf, new_node}
use Rattle.tracked_changes.specs.Tokens.{put_also}
use Rattle.syntax_rules.specs.Around.{Around}
use Rattle.syntax_rules.specs.DollarBrace.{is_dollar_brace, is_piece, escaped, begins_dollar_brace, parts, ends_bare, before_last}
use Rattle.syntax_rules.specs.declared.rules.Rules.{Rules}
use Rattle.syntax_rules.specs.SplitName.{is_op, is_name, begins_root, is_label, is_keyword, is_backslash, is_namespace, is_one, in_front, whole_names}
use Rattle.syntax_upgrade.specs.Written.{Written, token_next, draft_next}
use Rattle.syntax_rules.specs.InContext.{parts_by}
use Rattle.syntax_rules.specs.Together.{token_by}
use Rattle.syntax_rules.specs.Quotable.{is_loose, is_plain, is_bracket, anything, offset, is_quotable}
use Rattle.syntax_upgrade.specs.Texts.{other, begins_dollar, text_walked}
use Rattle.syntax_upgrade.proofs.Tokens.{and_first, and_second}

neither : (a b : Bool) → (not a && not b) ≡ true → (a ≡ false) × (b ≡ false)
neither false false h = (refl, refl)
neither false true h = absurd (false≢true h)
neither true b h = absurd (false≢true h)

-- ---- tokens that begin no name

abbrev NoName : NewToken → Type 0
NoName t = (u : NewToken) → is_one t u ≡ false

front_loose : (n : Bool) (t : NewToken) (d : Draft) → NoName t → in_front n t d ≡ new_leaf t d
front_loose n t no_more h = refl
front_loose n t (new_leaf u d) h = rw (h u) refl
front_loose n t (new_node k c d) h = refl

none_of : (a b x y z : Bool) → (a ≡ false) × (b ≡ false) → ((a && x) || (b && y && z)) ≡ false
none_of a b x y z h = rw (h.0, h.1) refl

loose : (t : NewToken) → is_loose t ≡ true → NoName t
loose t h u = none_of (is_backslash t) (is_label t.kind || is_namespace t)
    (is_label u.kind || is_name u.kind && not (begins_root (before u.text))) (is_name u.kind) (begins_root (before u.text))
    (neither (is_backslash t) (is_label t.kind || is_namespace t) h)

piece_kind : (k : TokenKind) → is_piece k ≡ true → (is_op k ≡ false) × (is_label k ≡ false) × (is_keyword k ≡ false)
piece_kind token.Piece h = (refl, refl, refl)
piece_kind k h = absurd (false≢true h)

piece_loose : (t : NewToken) → is_piece t.kind ≡ true → NoName t
piece_loose t h u = let k = piece_kind t.kind h in rw (k.0, k.1, k.2) refl

escaped_kind : (b : Bool) (t : NewToken) → NoName t → is_piece t.kind ≡ true
    → NoName (if b then record t { text = before_last (before t.text) } else t)
escaped_kind true t n h = piece_loose (record t { text = before_last (before t.text) }) h
escaped_kind false t n h = n

text_loose : (p b : Bool) (t : NewToken) → is_piece t.kind ≡ p → NoName t → NoName (if p && b then escaped t else t)
text_loose false b t e n = n
text_loose true false t e n = n
text_loose true true t e n = escaped_kind (ends_bare false (before t.text)) t n e

also_front : (n : Bool) (d : Draft) → in_front n (put_also token.Op (codes "}")) d ≡ new_leaf (put_also token.Op (codes "}")) d
also_front n no_more = refl
also_front n (new_leaf u d) = refl
also_front n (new_node k c d) = refl

-- ---- the walk

module _ (r : Rules) (around : Bool → Option Around) where
  abbrev drawn : Bool → Forest → Draft
  drawn i f = parts (parts_by r around i f)

  begins_same : (f : Forest) (i : Bool) → begins_dollar_brace (parts_by r around i f) ≡ begins_dollar f
  begins_same none i = refl
  begins_same (leaf t f) i = refl
  begins_same (node k c f) i = refl

  -- a text is walked
  abbrev IsWalked : Forest → Type 0
  IsWalked f = is_quotable anything f ≡ true → (i : Bool) (w : Written)
      → text_walked r around i other f w ≡ draft_next r.split_names (whole_names r.split_names (drawn i f)) w

  -- and each end of it
  abbrev AreWalked : Forest → Type 0
  AreWalked none = IsWalked none
  AreWalked (leaf t f) = IsWalked (leaf t f) × AreWalked f
  AreWalked (node k c f) = IsWalked (node k c f) × AreWalked f

  now : (f : Forest) → AreWalked f → IsWalked f
  now none a = a
  now (leaf t f) a = a.0
  now (node k c f) a = a.0

  -- a token that is neither `${` nor a piece of text stands for itself
  plain_part : (t : Token) (i : Bool) (f : Forest) → is_plain t ≡ true
      → drawn i (leaf t f) ≡ new_leaf (token_by r t) (drawn false f)
  plain_part t i f h =
      let n = neither (is_dollar_brace t.kind) (is_piece t.kind) h in
      rw (n.0, n.1) refl

  plain_walked : (t : Token) (i : Bool) (f : Forest) (w : Written) → is_plain t ≡ true
      → text_walked r around i other (leaf t f) w ≡ text_walked r around false other f (token_next r.split_names (token_by r t) w)
  plain_walked t i f w h =
      let n = neither (is_dollar_brace t.kind) (is_piece t.kind) h in
      rw (n.0, n.1) refl

  -- another token
  text_part : (t : Token) (f : Forest) → is_dollar_brace t.kind ≡ false → AreWalked f → IsWalked (leaf t f)
  text_part t f e a h i w =
      let both : (is_loose (token_by r t) && is_quotable anything f) ≡ true = rw e at h in
      let n = text_loose (is_piece t.kind) (begins_dollar f) (token_by r t) refl
      (loose (token_by r t) (and_first (is_loose (token_by r t)) (is_quotable anything f) both)) in
      let x = if is_piece t.kind && begins_dollar f then escaped (token_by r t) else token_by r t in
      rw (e, begins_same f false, front_loose r.split_names x (whole_names r.split_names (drawn false f)) n)
      (now f a (and_second (is_loose (token_by r t)) (is_quotable anything f) both) false (token_next r.split_names x w))

  -- `${`, a name and what follows it
  marked : (t n m : Token) (f : Forest) → is_dollar_brace t.kind ≡ true → is_plain n ≡ true → is_plain m ≡ true
      → (b : Bool) → is_bracket m ≡ b → (if b then is_quotable offset f else is_loose (token_by r m) && is_quotable anything f) ≡ true
      → AreWalked (leaf m f) → IsWalked (leaf t (leaf n (leaf m f)))
  marked t n m f e p q false b h a _ i w =
      let d = neither (is_dollar_brace m.kind) (is_piece m.kind) q in
      let ok : is_quotable anything (leaf m f) ≡ true = rw d.0 h in
      rw (e, plain_part n false (leaf m f) p, plain_part m false f q, b)
      (now (leaf m f) a ok false _ ∙ rw (plain_part m false f q) refl)
  marked t n m none e p q true b h a _ i w = absurd (false≢true h)
  marked t n m (leaf s f) e p q true b h a _ i w = absurd (false≢true h)
  marked t n m (node k c none) e p q true b h a _ i w = absurd (false≢true h)
  marked t n m (node k c (node l d f)) e p q true b h a _ i w = absurd (false≢true h)
  marked t n m (node k c (leaf s f)) e p q true b h a _ i w =
      let s_plain = and_first (is_plain s) (is_quotable anything f) h in
      rw (
        e,
        plain_part n false (leaf m (node k c (leaf s f))) p,
        plain_part m false (node k c (leaf s f)) q,
        plain_part s false f s_plain,
        b,
        plain_walked m false (node k c (leaf s f)) _ q,
        plain_walked s false f _ s_plain,
      )
      (now f a.1.1.1 (and_second (is_plain s) (is_quotable anything f) h) false _)

  dollar_part : (t : Token) (f : Forest) → is_dollar_brace t.kind ≡ true → AreWalked f → IsWalked (leaf t f)
  dollar_part t none e a h i w = absurd (false≢true (rw e at h))
  dollar_part t (leaf n none) e a h i w = absurd (false≢true (and_second (is_plain n) false (rw e at h)))
  dollar_part t (leaf n (node k c f)) e a h i w = absurd (false≢true (and_second (is_plain n) false (rw e at h)))
  dollar_part t (leaf n (leaf m f)) e a h i w =
      let last = if is_bracket m then is_quotable offset f else is_loose (token_by r m) && is_quotable anything f in
      let all : (is_plain n && (is_plain m && last)) ≡ true = rw e at h in
      let behind = and_second (is_plain n) (is_plain m && last) all in
      marked t n m f e (and_first (is_plain n) (is_plain m && last) all) (and_first (is_plain m) last behind)
      (is_bracket m) refl (and_second (is_plain m) last behind) a.1 h i w
  dollar_part t (node k c none) e a h i w = absurd (false≢true (rw e at h))
  dollar_part t (node k c (node l d f)) e a h i w = absurd (false≢true (rw e at h))
  dollar_part t (node k c (leaf s f)) e a h i w =
      let both : (is_plain s && is_quotable anything f) ≡ true = rw e at h in
      rw (e, plain_part s false f (and_first (is_plain s) (is_quotable anything f) both), also_front r.split_names (whole_names r.split_names (drawn false f)))
      (now f a.1.1 (and_second (is_plain s) (is_quotable anything f) both) false _)

  step : (t : Token) (f : Forest) → (b : Bool) → is_dollar_brace t.kind ≡ b → AreWalked f → IsWalked (leaf t f)
  step t f false e a = text_part t f e a
  step t f true e a = dollar_part t f e a

  ends_walked : (f : Forest) → AreWalked f
  ends_walked none = λ h i w. refl
  ends_walked (leaf t f) = (step t f (is_dollar_brace t.kind) refl (ends_walked f), ends_walked f)
  ends_walked (node k c f) = ((λ h i w. now f (ends_walked f) h false _), ends_walked f)

  -- A quoted text, walked, writes its draft.
  pub text_written : (f : Forest) → IsWalked f
  text_written f = now f (ends_walked f)
