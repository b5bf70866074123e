-- Names become one token.
use Rattle.std.proofs.Common.{◌≡◌, ◌==◌, ℕ, Bool, true, false, not, ◌&&◌, ◌||◌, ◌⊎◌, inl, inr, if◌then◌else◌, codes, List, [], ◌∷◌, ◌++◌, Option, refl, sym, ap, ◌∙◌, subst}
use Rattle.std.proofs.lemmas.Bool.{or_left, or_right, not-true, and_from}
use Rattle.php_tree.specs.declared.token.Token.{Token}
use Rattle.php_tree.specs.declared.token.TokenKind.{TokenKind}
use Rattle.php_tree.specs.declared.token.TokenKind.TheVariants as token
use Rattle.php_tree.specs.declared.version.Version.TheVariants.{V74}
use Rattle.php_tree.specs.Tree.{Forest, leaf, ◌+++◌}
use Rattle.php_terminals.specs.declared.terminal.Terminal.TheVariants as t
use Rattle.php_grammar.specs.Accepts.{accepts}
use Rattle.php_shapes.specs.Names.{more_of_name, name}
use Rattle.php_shapes.specs.Notation.{word, ◌~◌}
use Rattle.php_shapes.specs.Shapes.{Fits, is_nothing, is_word, is_both, is_first, is_second, no_more, once_more}
use Rattle.tracked_changes.specs.Pieces.{after, before}
use Rattle.tracked_changes.proofs.Joining.{after-append}
use Rattle.tracked_changes.specs.Draft.{NewToken, Draft, new_leaf}
use Rattle.tracked_changes.specs.Draft as draft
use Rattle.syntax_rules.specs.Around.{Around}
use Rattle.syntax_rules.specs.HashComment.{hash_comment}
use Rattle.syntax_rules.specs.SplitName.{begins_root, deleted, in_front, is_backslash, is_label, is_name, is_namespace, is_one, one_name}
use Rattle.rewritten_shapes.specs.Laws.{AreSpelled, begins_namespace, has_no_root, is_label_text, is_namespace_word, is_namespace_label, is_spelled_by}
use Rattle.rewritten_shapes.proofs.NameParts.{label_token, root_token, space_token}
use Rattle.rewritten_shapes.proofs.OperatorWords.{backslash_is}
use Rattle.rewritten_shapes.proofs.Shown.{names_whole}
use Rattle.rewritten_shapes.proofs.Sides.{and_left}
use Rattle.rewritten_shapes.proofs.Tabled.{written}

-- ---- two tokens

if_true : {A : Type 0} (b : Bool) (x y : A) → b ≡ true → (if b && true then x else y) ≡ x
if_true true x y e = refl
if_true false x y e = cc

joins : (t u : NewToken) (d : Draft) → is_one t u ≡ true → in_front true t (new_leaf u d) ≡ new_leaf (one_name t u) d
joins t u d e = if_true (is_one t u) (new_leaf (one_name t u) d) (new_leaf t (new_leaf u d)) e

-- `\` before a label
root_label : (t u : NewToken) → is_backslash t ≡ true → is_label u.kind ≡ true → is_one t u ≡ true
root_label t u p q = or_left (is_backslash t && (is_label u.kind
    || (is_name u.kind && not (begins_root (before u.text))))) _
    (and_from (is_backslash t) _ p (or_left (is_label u.kind) _ q))

-- `\` before a name that doesn't begin with one
root_name : (t u : NewToken) → is_backslash t ≡ true → is_name u.kind ≡ true → begins_root (before u.text) ≡ false → is_one t u ≡ true
root_name t u p q r = or_left (is_backslash t && (is_label u.kind
    || (is_name u.kind && not (begins_root (before u.text))))) _
    (and_from (is_backslash t) _ p (or_right (is_label u.kind) _ (and_from (is_name u.kind) _ q (ap not r))))

-- a label or `namespace` before a name that begins with `\`
part_name : (t u : NewToken) → (is_label t.kind || is_namespace t) ≡ true → is_name u.kind ≡ true → begins_root (before u.text) ≡ true → is_one t u ≡ true
part_name t u p q r =
    or_right (is_backslash t && (is_label u.kind || (is_name u.kind && not (begins_root (before u.text))))) _
    (and_from ((is_label t.kind || is_namespace t) && is_name u.kind) (begins_root (before u.text)) (and_from (is_label t.kind || is_namespace t) (is_name u.kind) p q) r)

-- ---- how texts begin

root_front : (text rest : List ℕ) → text ≡ codes "\\" → begins_root (text ++ rest) ≡ true
root_front text rest e = ap (λ (x : List ℕ). begins_root (x ++ rest)) e

no_root_front : (text rest : List ℕ) → is_label_text text ≡ true → begins_root (text ++ rest) ≡ false
no_root_front [] rest e = absurd cc
no_root_front (b ∷ bs) rest e =
    not-true (b == 92) (and_left (not (b == 92)) (has_no_root bs) e)

label_spelled : (sort : TokenKind) (text : List ℕ) → sort ≡ token.Label → is_spelled_by sort text ≡ true → is_label_text text ≡ true
label_spelled sort text e s = ap (λ (k : TokenKind). is_spelled_by k text) (sym e) ∙ s

label_is : (sort : TokenKind) → sort ≡ token.Label → is_label sort ≡ true
label_is sort e = ap is_label e

-- ---- names

-- further parts of a name: none, or one token that begins with `\`
pub record Root (u : NewToken) : Type 0 where
  pub kind : u.kind ≡ token.Name
  pub root : begins_root (before u.text) ≡ true
  pub text : (rest : List ℕ) × (after u.text ≡ 92 ∷ rest)

abbrev More : Draft → Type 0
More d = (d ≡ draft.no_more) ⊎ ((u : NewToken) × Root u × (d ≡ new_leaf u draft.no_more))

-- a label and what may follow it
abbrev behind_label : (a : Bool → Option Around) (b : Bool) → Token → Forest → Draft
behind_label a b y h = in_front true (hash_comment y) (names_whole (written a b h))

-- a label, or a name that doesn't begin with `\`
pub record Bare (y : Token) (u : NewToken) : Type 0 where
  pub kind : (u ≡ hash_comment y) ⊎ (u.kind ≡ token.Name)
  pub plain : begins_root (before u.text) ≡ false
  pub text : (u ≡ hash_comment y) ⊎ ((u.kind ≡ token.Name) × (rest : List ℕ) × (after u.text ≡ y.text ++ 92 ∷ rest))

deleted_after : (bytes : List ℕ) → after (deleted bytes) ≡ []
deleted_after [] = refl
deleted_after (b ∷ bs) = refl

label_more : (y : Token) (d : Draft) → y.kind ≡ token.Label → is_label_text y.text ≡ true → More d → (u : NewToken)
    × Bare y u × (in_front true (hash_comment y) d ≡ new_leaf u draft.no_more)
label_more y d k s (inl e) = (hash_comment y, record { kind = inl refl; plain = no_root_front y.text [] s; text = inl refl }, ap (in_front true (hash_comment y)) e)
label_more y d k s (inr r) = (
  one_name (hash_comment y) r.0,
  record {
    kind = inr refl;
    plain = no_root_front y.text _ s;
    text =
        inr (
          refl,
          r.1.text.0,
          ap (λ (z : List ℕ). y.text ++ z)
              (after-append (deleted (before r.0.lead)) r.0.text ∙ ap (λ (z : List ℕ). z ++ after r.0.text)
              (deleted_after (before r.0.lead)) ∙ r.1.text.1),
        );
  },
  ap (in_front true (hash_comment y)) r.2 ∙ joins (hash_comment y) r.0 draft.no_more
      (part_name (hash_comment y) r.0 (or_left (is_label y.kind) _ (label_is y.kind k)) (ap is_name r.1.kind)
      r.1.root),
)

root_more : (x y : Token) (u : NewToken) → accepts V74 t.Backslash x ≡ true → y.kind ≡ token.Label → Bare y u
    → (v : NewToken) × Root v × (in_front true (hash_comment x) (new_leaf u draft.no_more) ≡ new_leaf v draft.no_more)
root_more x y u p k b = (
  one_name (hash_comment x) u,
  record {
    kind = refl;
    root = root_front x.text _ (backslash_is x p);
    text = (
      after (deleted (before u.lead) ++ u.text),
      ap (λ (z : List ℕ). z ++ after (deleted (before u.lead) ++ u.text))
          (backslash_is x p),
    );
  },
  joins (hash_comment x) u draft.no_more (one b.kind),
)
  where
    one : (u ≡ hash_comment y) ⊎ (u.kind ≡ token.Name) → is_one (hash_comment x) u ≡ true
    one (inl e) = root_label (hash_comment x) u (root_token x p) (ap (λ (z : NewToken). is_label z.kind) e ∙ label_is y.kind k)
    one (inr e) = root_name (hash_comment x) u (root_token x p) (ap is_name e) b.plain

more_is : {f : Forest} → Fits V74 more_of_name f → AreSpelled f → (a : Bool → Option Around) (b : Bool) → More (names_whole (written a b f))
more_is no_more s a b = inl refl
more_is (once_more {f} {h} (is_both (is_word {x} p) (is_word {x = y} q) e) rest d) s a b =
    let same : f ≡ leaf x (leaf y h) = d ∙ ap (λ (g : Forest). g +++ h) e in
    let sp = subst AreSpelled same s in
    let l = label_more y (names_whole (written a false h)) (label_token y q) (label_spelled y.kind y.text (label_token y q) sp.1.0.0) (more_is rest sp.1.1 a false) in
    let r = root_more x y l.0 p (label_token y q) l.1 in
    inr (r.0, r.1, ap (λ (g : Forest). names_whole (written a b g)) same ∙ ap (in_front true (hash_comment x)) l.2 ∙ r.2)

-- A name as one token: a label alone, or a name.
abbrev pub Whole : Draft → Type 0
Whole d =
    ((y : Token) × (accepts V74 t.AnyLabel y ≡ true) × (d ≡ new_leaf (hash_comment y) draft.no_more))
    ⊎ ((u : NewToken) × (u.kind ≡ token.Name) × (d ≡ new_leaf u draft.no_more))

whole_of : (y : Token) (u : NewToken) (d : Draft) → accepts V74 t.AnyLabel y ≡ true → d ≡ new_leaf u draft.no_more → (u ≡ hash_comment y) ⊎ (u.kind ≡ token.Name) → Whole d
whole_of y u d p e (inl w) = inl (y, p, e ∙ ap (λ (z : NewToken). new_leaf z draft.no_more) w)
whole_of y u d p e (inr w) = inr (u, w, e)

pub name_is : (f : Forest) → Fits V74 (name V74) f → AreSpelled f → (a : Bool → Option Around) (b : Bool) → Whole (names_whole (written a b f))
name_is f (is_both (is_first is_nothing) (is_both {h = h} (is_word {x = y} q) m e) d) s a b =
    let same : f ≡ leaf y h = d ∙ e in
    let sp = subst AreSpelled same s in
    let l = label_more y (names_whole (written a false h)) (label_token y q) (label_spelled y.kind y.text (label_token y q) sp.0.0) (more_is m sp.1 a false) in
    whole_of y l.0 (names_whole (written a b f)) q (ap (λ (g : Forest). names_whole (written a b g)) same ∙ l.2) l.1.kind
name_is f (is_both (is_second (is_first (is_word {x} p))) (is_both {h = h} (is_word {x = y} q) m e) d) s a b =
    let same : f ≡ leaf x (leaf y h) = d ∙ ap (leaf x) e in
    let sp = subst AreSpelled same s in
    let l = label_more y (names_whole (written a false h)) (label_token y q) (label_spelled y.kind y.text (label_token y q) sp.1.0.0) (more_is m sp.1.1 a false) in
    let r = root_more x y l.0 p (label_token y q) l.1 in
    inr (r.0, r.1.kind, ap (λ (g : Forest). names_whole (written a b g)) same ∙ ap (in_front true (hash_comment x)) l.2 ∙ r.2)
name_is f (is_both {h = k} (is_second (is_second (is_both (is_word {x = n} o) (is_word {x} p) c))) (is_both {h = h} (is_word {x = y} q) m e) d) s a b =
    let same : f ≡ leaf n (leaf x (leaf y h)) = d ∙ ap (λ (g : Forest). g +++ k) c ∙ ap (λ (g : Forest). leaf n (leaf x g)) e in
    let sp = subst AreSpelled same s in
    let l = label_more y (names_whole (written a false h)) (label_token y q) (label_spelled y.kind y.text (label_token y q) sp.1.1.0.0) (more_is m sp.1.1.1 a false) in
    let r = root_more x y l.0 p (label_token y q) l.1 in
    inr (
      one_name (hash_comment n) r.0,
      refl,
      ap (λ (g : Forest). names_whole (written a b g)) same ∙ ap
          (λ z. in_front true (hash_comment n) (in_front true (hash_comment x) z)) l.2
          ∙ ap (in_front true (hash_comment n)) r.2
          ∙ joins (hash_comment n) r.0 draft.no_more (part_name (hash_comment n) r.0 (or_right (is_label n.kind) _ (space_token n o)) (ap is_name r.1.kind) r.1.root),
    )

-- a name without a lead: a label, or one that doesn't begin with `\`
pub plain_is : (f : Forest) → Fits V74 (word t.AnyLabel ~ more_of_name) f → AreSpelled f → begins_namespace f ≡ false → (a : Bool → Option Around) (b : Bool)
    → (y : Token) × (accepts V74 t.AnyLabel y ≡ true)
    × ((is_label_text y.text ≡ true) × (is_namespace_word y.text ≡ false)) × (u : NewToken) × Bare y u
    × (names_whole (written a b f) ≡ new_leaf u draft.no_more)
plain_is f (is_both {h = h} (is_word {x = y} q) m d) s o a b =
    let sp = subst AreSpelled d s in
    let k = label_token y q in
    let word_ = label_spelled y.kind y.text k sp.0.0 in
    let l = label_more y (names_whole (written a false h)) k word_ (more_is m sp.1 a false) in (
      y,
      q,
      (
        word_,
        ap (λ (sort : TokenKind). is_namespace_label sort y.text) (sym k) ∙ ap begins_namespace (sym d)
            ∙ o,
      ),
      l.0,
      l.1,
      ap (λ (g : Forest). names_whole (written a b g)) d ∙ l.2,
    )

-- a name behind `\`
pub full_is : (x : Token) (g f : Forest) → f ≡ leaf x g → accepts V74 t.Backslash x ≡ true
    → Fits V74 (word t.AnyLabel ~ more_of_name) g → AreSpelled g → (a : Bool → Option Around) (b : Bool)
    → (v : NewToken) × Root v × (names_whole (written a b f) ≡ new_leaf v draft.no_more)
full_is x g f c p (is_both {h = h} (is_word {x = y} q) m d) s a b =
    let sp = subst AreSpelled d s in
    let k = label_token y q in
    let l = label_more y (names_whole (written a false h)) k (label_spelled y.kind y.text k sp.0.0) (more_is m sp.1 a false) in
    let r = root_more x y l.0 p k l.1 in
    (r.0, r.1, ap (λ (z : Forest). names_whole (written a b z)) (c ∙ ap (leaf x) d) ∙ ap (in_front true (hash_comment x)) l.2 ∙ r.2)
