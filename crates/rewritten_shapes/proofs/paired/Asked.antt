-- What holds of each token that a form of 7.4 asks for, told by the token's class.
use Rattle.std.proofs.Common.{◌≡◌, ℕ, Bool, true, false, not, ◌&&◌, ◌||◌, nat_eq, List, [], ◌∷◌, refl, sym, ap, ◌∙◌}
use Rattle.std.proofs.lemmas.Bool.{eqb-true}
use Rattle.php_tree.specs.declared.token.Token.{Token}
use Rattle.php_tree.specs.declared.version.Version.TheVariants.{V74}
use Rattle.php_terminals.specs.declared.terminal.Terminal.{Terminal}
use Rattle.php_terminals.specs.declared.terminal.Terminal.TheVariants as t
use Rattle.php_terminals.specs.Classify.{is_any_label, is_class, is_modifier, is_sign_or_tight, is_word_token, terminal}
use Rattle.php_terminals.specs.Terminals.{code}
use Rattle.php_grammar.specs.Accepts.{accepts, same_class}

-- ---- booleans

pub both_left : (a b : Bool) → (a && b) ≡ true → a ≡ true
both_left true b e = refl
both_left false b e = cc

pub both_right : (a b : Bool) → (a && b) ≡ true → b ≡ true
both_right true b e = e
both_right false b e = cc

pub no_clash : {b : Bool} → b ≡ false → b ≡ true → ⊥
no_clash e d = let z : false ≡ true = sym e ∙ d in cc

-- a fact by one of two tests
pub by_either : (a b c : Bool) → (a ≡ true → c ≡ true) → (b ≡ true → c ≡ true) → (a || b) ≡ true → c ≡ true
by_either true b c f g e = f refl
by_either false b c f g e = g e

-- ---- classes

-- whether a number is that of one of these classes
abbrev pub is_one_of : List Terminal → ℕ → Bool
is_one_of [] n = false
is_one_of (c ∷ cs) n = nat_eq (code c) n || is_one_of cs n

-- whether a test holds of all labels
abbrev pub labels_hold : (ℕ → Bool) → Bool
labels_hold q = q (code t.Label) && (q (code t.Match) && (q (code t.Readonly) && q (code t.MixedOrNever)))

-- whether a test holds of each class that is taken where a form of 7.4 asks for this one; words are left to another test
abbrev pub asks : (ℕ → Bool) → Terminal → Bool
asks q t.AnyLabel = q (code t.AnyLabel) && labels_hold q
asks q t.FreeLabel = q (code t.FreeLabel) && labels_hold q
asks q t.FunctionLabel = q (code t.FunctionLabel) && labels_hold q
asks q t.ClassLabel = q (code t.ClassLabel) && labels_hold q
asks q t.NameToken = false
asks q t.CalledName = false
asks q t.NamespaceToken = false
asks q t.ImportedName = false
asks q t.ImportedClass = false
asks q t.GroupedName = false
asks q t.GroupedClass = false
asks q t.AttributeName = false
asks q t.AnyWord = q (code t.AnyWord)
asks q t.ConstantWord = q (code t.ConstantWord)
asks q t.Modifier = q (code t.Modifier) && (q (code t.ClassModifier) && (q (code t.Visibility) && q (code t.Static)))
asks q t.BinaryOperator = false
asks q t.SignOrTight = q (code t.SignOrTight) && (q (code t.Plus) && (q (code t.Minus) && q (code t.Tight)))
asks q c = q (code c)

same : (q : ℕ → Bool) (c own : Terminal) → q (code c) ≡ true → same_class c own ≡ true → q (code own) ≡ true
same q c own h e = ap q (sym (eqb-true (code c) (code own) e)) ∙ h

label_holds : (q : ℕ → Bool) (own : Terminal) → labels_hold q ≡ true → is_any_label own ≡ true → q (code own) ≡ true
label_holds q t.Label h e = both_left (q (code t.Label)) _ h
label_holds q t.Match h e = both_left (q (code t.Match)) _ (both_right (q (code t.Label)) _ h)
label_holds q t.Readonly h e =
    both_left (q (code t.Readonly)) _ (both_right (q (code t.Match)) _ (both_right (q (code t.Label)) _ h))
label_holds q t.MixedOrNever h e =
    both_right (q (code t.Readonly)) _ (both_right (q (code t.Match)) _ (both_right (q (code t.Label)) _ h))
label_holds q _ h e = absurd cc

pub label_or : (q : ℕ → Bool) (c own : Terminal) → (q (code c) && labels_hold q) ≡ true → (is_any_label own || same_class c own) ≡ true → q (code own) ≡ true
label_or q c own h e =
    by_either (is_any_label own) (same_class c own) (q (code own)) (label_holds q own (both_right (q (code c)) (labels_hold q) h))
    (same q c own (both_left (q (code c)) (labels_hold q) h)) e

modifier_holds : (q : ℕ → Bool) (own : Terminal) → (q (code t.ClassModifier) && (q (code t.Visibility) && q (code t.Static))) ≡ true → is_modifier own ≡ true → q (code own) ≡ true
modifier_holds q t.ClassModifier h e = both_left (q (code t.ClassModifier)) _ h
modifier_holds q t.Visibility h e = both_left (q (code t.Visibility)) _ (both_right (q (code t.ClassModifier)) _ h)
modifier_holds q t.Static h e = both_right (q (code t.Visibility)) _ (both_right (q (code t.ClassModifier)) _ h)
modifier_holds q _ h e = absurd cc

sign_holds : (q : ℕ → Bool) (own : Terminal) → (q (code t.Plus) && (q (code t.Minus) && q (code t.Tight))) ≡ true → is_sign_or_tight own ≡ true → q (code own) ≡ true
sign_holds q t.Plus h e = both_left (q (code t.Plus)) _ h
sign_holds q t.Minus h e = both_left (q (code t.Minus)) _ (both_right (q (code t.Plus)) _ h)
sign_holds q t.Tight h e = both_right (q (code t.Minus)) _ (both_right (q (code t.Plus)) _ h)
sign_holds q _ h e = absurd cc

-- A test on tokens that holds where one on classes does, and of all words.
module _ (q : ℕ → Bool) (p : Token → Bool) (by_class : (x : Token) → q (code (terminal x)) ≡ true → p x ≡ true) (by_word : (x : Token) → is_word_token x ≡ true → p x ≡ true) where
  same_holds : (c : Terminal) (x : Token) → q (code c) ≡ true → same_class c (terminal x) ≡ true → p x ≡ true
  same_holds c x h e = by_class x (same q c (terminal x) h e)

  pub taken : (c : Terminal) (x : Token) → asks q c ≡ true → accepts V74 c x ≡ true → p x ≡ true
  taken t.AnyLabel x h e = by_class x (label_or q t.AnyLabel (terminal x) h e)
  taken t.FreeLabel x h e = by_class x (label_or q t.FreeLabel (terminal x) h e)
  taken t.FunctionLabel x h e = by_class x (label_or q t.FunctionLabel (terminal x) h e)
  taken t.ClassLabel x h e = by_class x (label_or q t.ClassLabel (terminal x) h e)
  taken t.NameToken x h e = absurd cc
  taken t.CalledName x h e = absurd cc
  taken t.NamespaceToken x h e = absurd cc
  taken t.ImportedName x h e = absurd cc
  taken t.ImportedClass x h e = absurd cc
  taken t.GroupedName x h e = absurd cc
  taken t.GroupedClass x h e = absurd cc
  taken t.AttributeName x h e = absurd cc
  taken t.AnyWord x h e =
      by_either (is_word_token x) (same_class t.AnyWord (terminal x)) (p x) (by_word x) (same_holds t.AnyWord x h) e
  taken t.ConstantWord x h e =
      by_either (is_word_token x && not (is_class (terminal x))) (same_class t.ConstantWord (terminal x)) (p x)
      (λ d. by_word x (both_left (is_word_token x) (not (is_class (terminal x))) d)) (same_holds t.ConstantWord x h) e
  taken t.Modifier x h e =
      by_either (is_modifier (terminal x)) (same_class t.Modifier (terminal x)) (p x)
      (λ d. by_class x (modifier_holds q (terminal x) (both_right (q (code t.Modifier)) _ h) d))
      (same_holds t.Modifier x (both_left (q (code t.Modifier)) _ h)) e
  taken t.BinaryOperator x h e = absurd cc
  taken t.SignOrTight x h e =
      by_either (is_sign_or_tight (terminal x)) (same_class t.SignOrTight (terminal x)) (p x)
      (λ d. by_class x (sign_holds q (terminal x) (both_right (q (code t.SignOrTight)) _ h) d))
      (same_holds t.SignOrTight x (both_left (q (code t.SignOrTight)) _ h)) e
  taken c x h e = same_holds c x h e
