-- No token is of the class that stands for none.
use Rattle.std.proofs.Common.{◌≡◌, ℕ, Bool, true, false, not, cond, ◌&&◌, ◌||◌, nat_eq, nat_lt, List, [], ◌∷◌, length, refl}
use Rattle.std.specs.Prelude.{codes, slice_index}
use Rattle.std.specs.Char.{to_ascii_lowercase}
use Rattle.std.proofs.lemmas.Bool.{not-true}
use Rattle.php_tree.specs.declared.token.TokenKind.{TokenKind}
use Rattle.php_tree.specs.declared.token.TokenKind.TheVariants as kind
use Rattle.php_tree.specs.declared.version.Version.{Version}
use Rattle.php_tree.specs.Tree.{Forest}
use Rattle.php_terminals.specs.declared.terminal.Terminal.{Terminal}
use Rattle.php_terminals.specs.declared.terminal.Terminal.TheVariants as t
use Rattle.php_terminals.specs.Classify.{opening, terminal, terminal_by}
use Rattle.php_terminals.specs.Words.{find_row, front, is_word, keywords, labels, operators}
use Rattle.php_grammar.specs.Accepts.{same_class}
use Rattle.php_shapes.specs.Notation.{word}
use Rattle.php_shapes.specs.Shapes.{Fits, is_word as is_token}
use Rattle.php_shapes.proofs.Sequences.{other}

abbrev pub is_never : Terminal → Bool
is_never t.Never = true
is_never _ = false

abbrev none_never : List (List ℕ × Terminal) → Bool
none_never [] = true
none_never (r ∷ rs) = not (is_never r.1) && none_never rs

either_class : (b : Bool) (x y : Terminal) → is_never x ≡ false → is_never y ≡ false → is_never (cond b x y) ≡ false
either_class true x y p q = p
either_class false x y p q = q

and_first : (b c : Bool) → (b && c) ≡ true → b ≡ true
and_first true c e = refl
and_first false c e = absurd cc

and_second : (b c : Bool) → (b && c) ≡ true → c ≡ true
and_second true c e = e
and_second false c e = absurd cc

found : (other : Terminal) (rows : List (List ℕ × Terminal)) (text : List ℕ) → is_never other ≡ false → none_never rows ≡ true → is_never (find_row other rows text) ≡ false
found other [] text p q = p
found other (r ∷ rs) text p q =
    either_class (is_word r.0 text) r.1 (find_row other rs text)
    (not-true (is_never r.1) (and_first (not (is_never r.1)) (none_never rs) q))
    (found other rs text p (and_second (not (is_never r.1)) (none_never rs) q))

keywords_fine : none_never keywords ≡ true
unfolding keywords
keywords_fine = refl

operators_fine : none_never operators ≡ true
unfolding operators
operators_fine = refl

labels_fine : none_never labels ≡ true
unfolding labels
labels_fine = refl

class_is : (k : TokenKind) (text : List ℕ) → is_never (terminal_by k text) ≡ false
class_is kind.InlineHtml text = refl
class_is kind.OpenEcho text = refl
class_is kind.Variable text = refl
class_is kind.Label text = found t.Label labels text refl labels_fine
class_is kind.Keyword text = either_class (nat_lt 5 (length text) && is_word (codes "yield") (front 5 text))
    t.YieldFrom (find_row t.OtherKeyword keywords text) refl (found t.OtherKeyword keywords text refl keywords_fine)
class_is kind.Int text = refl
class_is kind.Float text = refl
class_is kind.Text text = refl
class_is kind.Quote text = refl
class_is kind.HeredocStart text = refl
class_is kind.Backtick text = refl
class_is kind.Cast text =
    either_class (nat_lt (opening text) (length text)) _ t.Cast
    (either_class (nat_eq (to_ascii_lowercase (slice_index text (opening text))) 114
    || nat_eq (to_ascii_lowercase (slice_index text (opening text))) 117) t.OldCast t.Cast refl refl) refl
class_is kind.Op text = found t.OtherOp operators text refl operators_fine
class_is kind.AttributeOpen text = refl
class_is kind.Name text =
    either_class (is_word (codes "\\") (front 1 text)) t.FullName _ refl
    (either_class (is_word (codes "namespace\\") (front 10 text)) t.RelativeName t.QualifiedName refl refl)
class_is kind.Semi text = refl
class_is kind.Close text = refl
class_is kind.End text = refl
class_is kind.Piece text = refl
class_is kind.CurlyOpen text = refl
class_is kind.DollarBrace text = refl
class_is kind.VarName text = refl
class_is kind.QuotedEnd text = refl

same_never : (own : Terminal) → same_class t.Never own ≡ true → is_never own ≡ true
same_never t.Never e = refl
same_never _ e = absurd cc

both_ways : (b : Bool) → b ≡ true → b ≡ false → ⊥
both_ways true e d = absurd cc
both_ways false e d = absurd cc

-- no parts are such a token
pub no_such : (v : Version) (f : Forest) → Fits v (word t.Never) f → ⊥
no_such v f (is_token {x} p) = both_ways (is_never (terminal x)) (same_never (terminal x) p) (class_is x.kind x.text)
