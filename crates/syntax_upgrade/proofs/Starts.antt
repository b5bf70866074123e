-- Where a node's parts begin, by its rule.
use Rattle.std.proofs.Common.{◌≡◌, zero, Bool, true, false, ◌&&◌, if◌then◌else◌, Option, refl, sym, ◌∙◌}
use Rattle.php_tree.specs.Tree.{Forest, Tree}
use Rattle.syntax_rules.specs.Around.{Around, within}
use Rattle.syntax_rules.specs.BraceOffset.{is_brace_offset}
use Rattle.syntax_rules.specs.declared.rules.Rules.{Rules}
use Rattle.syntax_rules.specs.RealCast.{is_real_cast}
use Rattle.syntax_rules.specs.Together.{is_quoted, token_by}
use Rattle.syntax_rules.specs.UnsetCast.{is_edited}
use Rattle.syntax_upgrade.specs.Heads.{own_of}
use Rattle.syntax_upgrade.specs.Inside.{bracketed_token, float_walked, inside_next}
use Rattle.syntax_upgrade.specs.NamesWalked.{walked}
use Rattle.syntax_upgrade.specs.Texts.{other, text_walked}
use Rattle.syntax_upgrade.specs.Written.{Written}

first : (a : Bool) (p q : Written) → a ≡ true → (if a then p else q) ≡ p
first a p q h = rw h refl

second : (a b : Bool) (p q r : Written) → a ≡ false → b ≡ true → (if a then p else (if b then q else r)) ≡ q
second a b p q r h i = rw (h, i) refl

fourth : (a b c d : Bool) (p q r s z : Written) → a ≡ false → b ≡ false → c ≡ false → d ≡ true
    → (if a then p else (if b then q else (if c then r else (if d then s else z)))) ≡ s
fourth a b c d p q r s z h i j k = rw (h, i, j, k) refl

fifth : (a b c d : Bool) (p q r s z : Written) → a ≡ false → b ≡ false → c ≡ false → d ≡ false
    → (if a then p else (if b then q else (if c then r else (if d then s else z)))) ≡ z
fifth a b c d p q r s z h i j k = rw (h, i, j, k) refl

module _ (r : Rules) where
  pub own_true : (around : Bool → Option Around) (i : Bool) (f : Forest) (w : Written)
      → walked r (own_of r true) around i zero f w ≡ walked r (bracketed_token r) around i zero f w
  own_true around i f w = refl

  pub own_false : (around : Bool → Option Around) (i : Bool) (f : Forest) (w : Written)
      → walked r (own_of r false) around i zero f w ≡ walked r (token_by r) around i zero f w
  own_false around i f w = refl

  pub braces_start : (t : Tree) (w : Written) → (r.brace_offsets && is_brace_offset t.0) ≡ true
      → walked r (own_of r true) (within t.0 t.1) true zero t.1 w ≡ inside_next r t w
  braces_start t w h = own_true (within t.0 t.1) true t.1 w ∙ sym (first (r.brace_offsets && is_brace_offset t.0) _ _ h)

  pub float_start : (t : Tree) (w : Written) → (r.brace_offsets && is_brace_offset t.0) ≡ false → (r.real_casts && is_real_cast t) ≡ true
      → float_walked r (within t.0 t.1) true t.1 w ≡ inside_next r t w
  float_start t w h i = sym (second (r.brace_offsets && is_brace_offset t.0) (r.real_casts && is_real_cast t) _ _ _ h i)

  pub text_start : (t : Tree) (w : Written) → (r.brace_offsets && is_brace_offset t.0) ≡ false → (r.real_casts && is_real_cast t) ≡ false → (r.unset_casts && is_edited t) ≡ false
      → (r.dollar_braces && is_quoted t.0) ≡ true → text_walked r (within t.0 t.1) true other t.1 w ≡ inside_next r t w
  text_start t w h i j k = sym (fourth (r.brace_offsets && is_brace_offset t.0) (r.real_casts && is_real_cast t)
      (r.unset_casts && is_edited t) (r.dollar_braces && is_quoted t.0) _ _ _ _ _ h i j k)

  pub plain_start : (t : Tree) (w : Written) → (r.brace_offsets && is_brace_offset t.0) ≡ false → (r.real_casts && is_real_cast t) ≡ false → (r.unset_casts && is_edited t) ≡ false
      → (r.dollar_braces && is_quoted t.0) ≡ false → walked r (own_of r false) (within t.0 t.1) true zero t.1 w ≡ inside_next r t w
  plain_start t w h i j k =
      own_false (within t.0 t.1) true t.1 w
      ∙ sym (fifth (r.brace_offsets && is_brace_offset t.0) (r.real_casts && is_real_cast t) (r.unset_casts && is_edited t) (r.dollar_braces && is_quoted t.0) _ _ _ _ _ h i j k)
