-- Uses of traits keep their shape: any tokens may stand between the braces.
use Rattle.std.proofs.Common.{◌≡◌, ℕ, ◌+◌, ◌-◌, Bool, true, false, not, cond, ◌&&◌, ◌||◌, nat_eq, if◌then◌else◌, Option, refl, sym, ap, ◌∙◌, subst}
use Rattle.std.proofs.lemmas.Bool.{false_from_ne_true}
use Rattle.php_tree.specs.declared.kind.NodeKind.TheVariants as k
use Rattle.php_tree.specs.declared.token.Token.{Token}
use Rattle.php_tree.specs.declared.version.Version.TheVariants.{V74, V83}
use Rattle.php_tree.specs.Tree.{Forest, none, leaf, node, ◌+++◌}
use Rattle.php_terminals.specs.declared.terminal.Terminal.{Terminal}
use Rattle.php_terminals.specs.declared.terminal.Terminal.TheVariants as t
use Rattle.php_terminals.specs.Classify.{terminal}
use Rattle.php_terminals.specs.Marks.{closes, opens}
use Rattle.php_grammar.specs.Accepts.{same_class}
use Rattle.php_shapes.specs.Declarations.{trait_use}
use Rattle.php_shapes.specs.Names.{names}
use Rattle.php_shapes.specs.Nearest.{elses_are_nearest, arrows_are_nearest, goes_on_if, has_else, is_else, is_to}
use Rattle.php_shapes.specs.Notation.{Rule, word, tokens, ◌~◌, ◌|||◌, braces}
use Rattle.php_shapes.specs.Shapes.{Fits, IsNode, is_balanced, is_both, is_first, is_node, is_second, is_tokens, is_word}
use Rattle.tracked_changes.specs.Draft.{NewToken, Draft, no_more, new_leaf, new_node}
use Rattle.syntax_rules.specs.Around.{Around, within}
use Rattle.syntax_rules.specs.HashComment.{hash_comment}
use Rattle.syntax_rules.specs.SplitName.{in_front, is_one, one_name}
use Rattle.rewritten_shapes.specs.Laws.{AreSpelled}
use Rattle.rewritten_shapes.specs.RefusedWords.{has, has_before, has_refused, is_brace, is_keyword_now}
use Rattle.rewritten_shapes.proofs.Bilingual.{a_name, both_kept, keywords, shown_terminal, spelled_front}
use Rattle.rewritten_shapes.proofs.Calm.{calm_shut, fresh_kind, is_calm, name_calm, steady_shown}
use Rattle.rewritten_shapes.proofs.Kept.{AllGood, Good, Kept, good_front, good_rest, kept, kept_first, kept_join, kept_second}
use Rattle.rewritten_shapes.proofs.Like.{Like, below_same, like_join, like_leaf, like_none}
use Rattle.rewritten_shapes.proofs.Marked.{before_front, both_no, brace, front_by}
use Rattle.rewritten_shapes.proofs.Named.{listed}
use Rattle.rewritten_shapes.proofs.Own.{before_new}
use Rattle.rewritten_shapes.proofs.Same.{assemble, lines_fine}
use Rattle.rewritten_shapes.proofs.Shown.{fresh_is_one, names_whole, new_parts, new_tree, shown, shown_token, shut_is_one}
use Rattle.rewritten_shapes.proofs.Sides.{and_right, apart_parts, are_apart, still_first}
use Rattle.rewritten_shapes.proofs.Tabled.{written}

-- ---- tokens of names

-- a class of tokens that no bracket, no `else` and no `=>` is of
record Neutral (own : Terminal) : Type 0 where
  opens_ : opens own ≡ false
  closes_ : closes own ≡ false
  goes : goes_on_if own ≡ false
  to : is_to own ≡ false
  else_ : is_else own ≡ false

neutral : (own : Terminal) → is_calm own ≡ false → Neutral own
neutral t.Label e = record { opens_ = refl; closes_ = refl; goes = refl; to = refl; else_ = refl }
neutral t.Match e = record { opens_ = refl; closes_ = refl; goes = refl; to = refl; else_ = refl }
neutral t.Readonly e = record { opens_ = refl; closes_ = refl; goes = refl; to = refl; else_ = refl }
neutral t.MixedOrNever e = record { opens_ = refl; closes_ = refl; goes = refl; to = refl; else_ = refl }
neutral t.Backslash e = record { opens_ = refl; closes_ = refl; goes = refl; to = refl; else_ = refl }
neutral t.Namespace e = record { opens_ = refl; closes_ = refl; goes = refl; to = refl; else_ = refl }
neutral t.QualifiedName e = record { opens_ = refl; closes_ = refl; goes = refl; to = refl; else_ = refl }
neutral t.FullName e = record { opens_ = refl; closes_ = refl; goes = refl; to = refl; else_ = refl }
neutral t.RelativeName e = record { opens_ = refl; closes_ = refl; goes = refl; to = refl; else_ = refl }
neutral _ e = absurd cc

clash : (b : Bool) → b ≡ true → b ≡ false → ⊥
clash true e d = cc
clash false e d = cc

first_neutral : (x : Token) (u : NewToken) → is_one (hash_comment x) u ≡ true → Neutral (terminal x)
first_neutral x u e = neutral (terminal x) (false_from_ne_true (is_calm (terminal x)) (λ d. clash (is_one (hash_comment x) u) e (shut_is_one (hash_comment x) u (calm_shut x d))))

second_neutral : (t u : NewToken) → is_one t u ≡ true → Neutral (terminal (shown_token u))
second_neutral t u e = neutral (terminal (shown_token u))
    (false_from_ne_true (is_calm (terminal (shown_token u)))
    (λ d. clash (is_one t u) e (fresh_is_one t u (fresh_kind u.kind (shown_token u).text d))))

joined_neutral : (t u : NewToken) → Neutral (terminal (shown_token (one_name t u)))
joined_neutral t u = neutral (terminal (shown_token (one_name t u)))
    (false_from_ne_true (is_calm (terminal (shown_token (one_name t u)))) (λ d. name_calm (shown_token (one_name t u)).text d))

-- ---- joined tokens

passes : (n : ℕ) (x : Token) (f : Forest) → Neutral (terminal x) → is_balanced n (leaf x f) ≡ is_balanced n f
passes n x f h =
    ap (λ (b : Bool). cond b (is_balanced (n + 1) f) (cond (closes (terminal x)) (not (nat_eq n 0) && is_balanced (n - 1) f) (is_balanced n f))) h.opens_
    ∙ ap (λ (b : Bool). cond b (not (nat_eq n 0) && is_balanced (n - 1) f) (is_balanced n f)) h.closes_

-- tokens that stand for tokens
record TokensKept (f g : Forest) : Type 0 where
  balanced : (n : ℕ) → is_balanced n f ≡ true → is_balanced n g ≡ true
  like : Like f g

same_balance : (n : ℕ) (x y : Token) (f g : Forest) → terminal y ≡ terminal x
    → ((m : ℕ) → is_balanced m f ≡ true → is_balanced m g ≡ true) → is_balanced n (leaf x f) ≡ true
    → is_balanced n (leaf y g) ≡ true
same_balance n x y f g e p h =
    ap (λ (z : Terminal). cond (opens z) (is_balanced (n + 1) g) (cond (closes z) (not (nat_eq n 0) && is_balanced (n - 1) g) (is_balanced n g))) e
    ∙ go (opens (terminal x)) (closes (terminal x)) (nat_eq n 0) h
  where
    go : (a b c : Bool) → cond a (is_balanced (n + 1) f) (cond b (not c && is_balanced (n - 1) f) (is_balanced n f)) ≡
        true → cond a (is_balanced (n + 1) g) (cond b (not c && is_balanced (n - 1) g) (is_balanced n g)) ≡ true
    go true b c e = p (n + 1) e
    go false true true e = e
    go false true false e = p (n - 1) e
    go false false c e = p n e

-- a token in front
in_front_kept : (x : Token) (f g : Forest) → TokensKept f g → TokensKept (leaf x f) (leaf (shown_token (hash_comment x)) g)
in_front_kept x f g p = record {
  balanced = λ n e. same_balance n x (shown_token (hash_comment x)) f g (shown_terminal x) p.balanced e;
  like = like_join (leaf x none) f (leaf (shown_token (hash_comment x)) none) g (like_leaf x (shown_token (hash_comment x)) (shown_terminal x)) p.like;
}

last_of : (a b : Bool) → a ≡ false → (a || b) ≡ b
last_of true b e = absurd cc
last_of false b e = refl

calm_and : (b x y : Bool) → x ≡ false → y ≡ true → (not (b && x) && y) ≡ true
calm_and b true y e d = absurd cc
calm_and true false y e d = d
calm_and false false y e d = d

-- two tokens joined
joined_kept : (x : Token) (u : NewToken) (f g : Forest) → is_one (hash_comment x) u ≡ true
    → TokensKept f (leaf (shown_token u) g) → TokensKept (leaf x f)
    (leaf (shown_token (one_name (hash_comment x) u)) g)
joined_kept x u f g e p =
    let j = shown_token (one_name (hash_comment x) u) in
    let one = first_neutral x u e in
    let two = second_neutral (hash_comment x) u e in
    let new = joined_neutral (hash_comment x) u in
    record {
      balanced = λ n h. passes n j g new ∙ sym (passes n (shown_token u) g two) ∙ p.balanced n (sym (passes n x f one) ∙ h);
      like = record {
        elses = λ b d w h. calm_and d (goes_on_if (terminal j)) (elses_are_nearest false g) new.goes
            (p.like.elses false false (λ z. z)
            (and_right (not (b && goes_on_if (terminal x))) (elses_are_nearest false f) h));
        ifs = λ b d w h. p.like.ifs false false (λ z. z) h;
        arrows = λ b d w h. calm_and d (is_to (terminal j)) (arrows_are_nearest false g) new.to
            (p.like.arrows false false (λ z. z)
            (and_right (not (b && is_to (terminal x))) (arrows_are_nearest false f) h));
        yields = λ b d w h. p.like.yields false false (λ z. z) h;
        same_else = last_of (is_else (terminal j)) (has_else g) new.else_
            ∙ sym (last_of (is_else (terminal (shown_token u))) (has_else g) two.else_) ∙ p.like.same_else
            ∙ sym (last_of (is_else (terminal x)) (has_else f) one.else_);
        edges = λ m d w. p.like.edges 0 0 (below_same 0);
        begins = λ h. refl;
        leads = λ h. h;
        is_some = λ h. absurd cc;
        is_empty = λ h. absurd cc;
      };
    }

front_kept : (x : Token) (f : Forest) (d : Draft) → TokensKept f (shown d) → TokensKept (leaf x f) (shown (in_front true (hash_comment x) d))
front_kept x f no_more p = in_front_kept x f none p
front_kept x f (new_node k c d) p = in_front_kept x f (node k (shown c) (shown d)) p
front_kept x f (new_leaf u d) p = go (is_one (hash_comment x) u) refl
  where
    go : (b : Bool) → is_one (hash_comment x) u ≡ b → TokensKept (leaf x f)
        (shown (if b && true then new_leaf (one_name (hash_comment x) u) d else new_leaf (hash_comment x)
        (new_leaf u d)))
    go true e = joined_kept x u f (shown d) e p
    go false e = in_front_kept x f (leaf (shown_token u) (shown d)) p

-- whether parts are tokens alone
abbrev tokens_alone : Forest → Bool
tokens_alone none = true
tokens_alone (leaf x f) = tokens_alone f
tokens_alone (node k c f) = false

by_bracket : (a b : Bool) (n : ℕ) (f : Forest) → cond a (is_balanced (n + 1) f)
    (cond b (not (nat_eq n 0) && is_balanced (n - 1) f) (is_balanced n f)) ≡ true
    → (is_balanced (n + 1) f ≡ true → tokens_alone f ≡ true) → (is_balanced (n - 1) f ≡ true → tokens_alone f ≡ true)
    → (is_balanced n f ≡ true → tokens_alone f ≡ true) → tokens_alone f ≡ true
by_bracket true b n f e p q r = p e
by_bracket false true n f e p q r = q (and_right (not (nat_eq n 0)) (is_balanced (n - 1) f) e)
by_bracket false false n f e p q r = r e

balanced_alone : (n : ℕ) (f : Forest) → is_balanced n f ≡ true → tokens_alone f ≡ true
balanced_alone n none e = refl
balanced_alone n (node k c f) e = cc
balanced_alone n (leaf x f) e = by_bracket (opens (terminal x)) (closes (terminal x)) n f e (balanced_alone (n + 1) f) (balanced_alone (n - 1) f) (balanced_alone n f)

all_kept : (f : Forest) → tokens_alone f ≡ true → (a : Bool → Option Around) (b : Bool) → TokensKept f (new_parts a b f)
all_kept none e a b = record { balanced = λ n h. h; like = like_none }
all_kept (leaf x f) e a b = front_kept x f (names_whole (written a false f)) (all_kept f e a false)
all_kept (node k c f) e a b = absurd cc

tokens_kept : (f : Forest) → is_balanced 0 f ≡ true → (a : Bool → Option Around) (b : Bool) → Kept tokens f (new_parts a b f)
tokens_kept f e a b =
    let p = all_kept f (balanced_alone 0 f e) a b in
    record { fits = is_tokens (p.balanced 0 e); like = p.like }

-- ---- a use of traits

abbrev tail_rule : Rule
tail_rule = word t.Semi ||| braces tokens

tail_kept : (f : Forest) → Fits V74 tail_rule f → AllGood f → (a : Bool → Option Around) (b : Bool) → Kept tail_rule f (new_parts a b f)
tail_kept f (is_first p) w a b = kept_first (word t.Semi) (braces tokens) f (new_parts a b f) (kept p refl w a b)
tail_kept f (is_second (is_both {h = i} (is_word {x} o) (is_both {g} {h} (is_tokens b2) (is_word {x = y} c) e) d)) w a b =
    let last : Fits V74 (word t.CloseBrace) h = is_word c in
    let inner : Fits V74 (tokens ~ word t.CloseBrace) i = is_both (is_tokens b2) last e in
    kept_second (word t.Semi) (braces tokens) f (new_parts a b f)
    (kept_join a b (word t.OpenBrace) (tokens ~ word t.CloseBrace) (word t.OpenBrace) (tokens ~ word t.CloseBrace) f (leaf x none) i d (is_word {x = x} o) inner refl
    (record { fits = is_word (steady_shown t.OpenBrace x refl o); like = like_leaf x (shown_token (hash_comment x)) (shown_terminal x) })
    (kept_join a false tokens (word t.CloseBrace) tokens (word t.CloseBrace) i g h e (is_tokens b2) last refl (tokens_kept g b2 a false)
    (kept last refl tt a (still_first false g))))

use_no : (own : Terminal) → same_class t.Use own ≡ true → is_brace own ≡ false
use_no t.Use e = refl
use_no _ e = absurd cc

use_kept : (c : Forest) → Fits V74 (trait_use V74) c → AreSpelled c → AllGood c
    → (a : Bool → Option Around) (b : Bool) → has_before is_brace (new_parts a b c) ≡ false
    → Kept (trait_use V83) c (new_parts a b c)
use_kept c (is_both {h = f} (is_word {x} p) (is_both {g} {h} q r e) d) s w a b n =
    let same : c ≡ leaf x (g +++ h) = d ∙ ap (leaf x) e in
    let s1 = (subst AreSpelled same s).1 in
    let w1 : AllGood (g +++ h) = subst AllGood same w in
    let whole : Fits V74 (names V74 ~ tail_rule) f = is_both q r e in
    let x2 = shown_token (hash_comment x) in
    let p1 : new_parts a b c ≡ leaf x2 (new_parts a false f) = ap (new_parts a b) d ∙ apart_parts a b (leaf x none) f (are_apart (is_word {c = t.Use} {x = x} p) whole refl) in
    let p2 : new_parts a false f ≡ new_parts a false g +++ new_parts a (still_first false g) h = ap (new_parts a false) e ∙ apart_parts a false g h (are_apart q r refl) in
    let n1 = front_by (is_brace (terminal x2)) (is_keyword_now (terminal x2))
    (has_before is_brace (new_parts a false f)) (ap is_brace (shown_terminal x) ∙ use_no (terminal x) p)
    (ap (has_before is_brace) (sym p1) ∙ n) in
    let free : has is_keyword_now (new_parts a false g) ≡ false =
    before_front brace (new_parts a false g) (new_parts a (still_first false g) h)
    (both_no brace (listed a_name) refl g q (spelled_front g h s1) a false)
    (ap (has_before is_brace) (sym p2) ∙ n1.1) in
    kept_join a b (word t.Use) (names V74 ~ tail_rule) (word t.Use) (names V83 ~ tail_rule) c (leaf x none) f d (is_word {x = x} p) whole refl
    (record { fits = is_word (steady_shown t.Use x refl p); like = like_leaf x x2 (shown_terminal x) })
    (kept_join a false (names V74) tail_rule (names V83) tail_rule f g h e q r refl
    (both_kept keywords (listed a_name) refl g q (spelled_front g h s1) (good_front g h w1) a false free)
    (tail_kept h r (good_rest g h w1) a (still_first false g)))

pub good_trait_use : (a : Option Around) (c : Forest) → has_refused k.TraitUse c ≡ false → AreSpelled c → AllGood c
    → IsNode V74 k.TraitUse c → Good k.TraitUse c (new_tree a k.TraitUse c)
good_trait_use a c h s w (is_node x near fine) =
    let b = new_parts (within k.TraitUse c) true c in
    assemble a k.TraitUse c refl refl (use_kept c x s w (within k.TraitUse c) true (sym (before_new is_brace (within k.TraitUse c) true c) ∙ h)) near (lines_fine k.TraitUse b refl)
