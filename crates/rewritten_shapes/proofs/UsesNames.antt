-- The names in a use become one token each.
use Rattle.std.proofs.Common.{◌≡◌, ℕ, Bool, true, false, not, ◌&&◌, ◌||◌, ◌⊎◌, inl, inr, List, ◌∷◌, ◌++◌, Option, refl, sym, ap, ◌∙◌, subst}
use Rattle.php_tree.specs.declared.token.Token.{Token}
use Rattle.php_tree.specs.declared.token.TokenKind.{TokenKind}
use Rattle.php_tree.specs.declared.token.TokenKind.TheVariants as token
use Rattle.php_tree.specs.declared.version.Version.TheVariants.{V74, V83}
use Rattle.php_tree.specs.Tree.{Forest, none, leaf}
use Rattle.php_terminals.specs.declared.terminal.Terminal.{Terminal}
use Rattle.php_terminals.specs.declared.terminal.Terminal.TheVariants as t
use Rattle.php_terminals.specs.Classify.{is_any_label, is_constant_label, is_full, is_plain_label, is_qualified, names_refused, terminal, terminal_by}
use Rattle.php_grammar.specs.Accepts.{accepts, same_class}
use Rattle.php_shapes.specs.Names.{imported_name, namespace_name}
use Rattle.php_shapes.specs.Nearest.{goes_on_if, is_else, is_to}
use Rattle.php_shapes.specs.Notation.{Rule, word}
use Rattle.php_shapes.specs.Shapes.{Fits, is_nothing, is_word, is_both, is_first, is_second}
use Rattle.tracked_changes.specs.Pieces.{after}
use Rattle.tracked_changes.specs.Draft.{NewToken}
use Rattle.syntax_rules.specs.Around.{Around}
use Rattle.syntax_rules.specs.HashComment.{hash_comment}
use Rattle.rewritten_shapes.specs.Laws.{AreSpelled, begins_namespace, is_label_text, is_namespace_word}
use Rattle.rewritten_shapes.specs.RefusedWords.{is_comma, is_keyword_now, is_of_code, is_type_name, is_type_now, is_whole_name}
use Rattle.rewritten_shapes.proofs.Bilingual.{label_any, like_word, no_else, no_variable, of_name, shown_terminal}
use Rattle.rewritten_shapes.proofs.Kept.{Kept}
use Rattle.rewritten_shapes.proofs.Qualified.{qualified_is}
use Rattle.rewritten_shapes.proofs.Shown.{new_parts, shown, shown_token}
use Rattle.rewritten_shapes.proofs.Sides.{empty_rule, may_be_empty}
use Rattle.rewritten_shapes.proofs.Units.{Bare, Root, full_is, plain_is}

-- ---- classes

-- a label, a name with `\` between its parts, or, where it may be, one that begins with `\`
abbrev is_name_of : Bool → Terminal → Bool
is_name_of full t.Label = true
is_name_of full t.Match = true
is_name_of full t.Readonly = true
is_name_of full t.MixedOrNever = true
is_name_of full t.QualifiedName = true
is_name_of full t.FullName = full
is_name_of full _ = false

label_of : (own : Terminal) → is_any_label own ≡ true → is_name_of false own ≡ true
label_of t.Label e = refl
label_of t.Match e = refl
label_of t.Readonly e = refl
label_of t.MixedOrNever e = refl
label_of _ e = absurd cc

to_full : (own : Terminal) → is_name_of false own ≡ true → is_name_of true own ≡ true
to_full t.Label e = refl
to_full t.Match e = refl
to_full t.Readonly e = refl
to_full t.MixedOrNever e = refl
to_full t.QualifiedName e = refl
to_full _ e = absurd cc

no_comma_by : (own : Terminal) → is_name_of true own ≡ true → is_comma own ≡ false
no_comma_by t.Comma e = absurd cc
no_comma_by _ e = refl

no_code_by : (own : Terminal) → is_name_of true own ≡ true → is_of_code own ≡ false
no_code_by t.Function e = absurd cc
no_code_by t.Const e = absurd cc
no_code_by _ e = refl

quiet_by : (own : Terminal) → is_name_of true own ≡ true → (goes_on_if own ≡ false) × (is_to own ≡ false) × (is_else own ≡ false)
quiet_by t.Else e = absurd cc
quiet_by t.ElseIf e = absurd cc
quiet_by t.DoubleArrow e = absurd cc
quiet_by _ e = (refl, refl, refl)

imported_by : (own : Terminal) → is_name_of true own ≡ true → is_keyword_now own ≡ false
    → (((is_constant_label own || is_qualified own) || is_full own) || same_class t.ImportedName own) ≡ true
imported_by t.Label e d = refl
imported_by t.MixedOrNever e d = refl
imported_by t.QualifiedName e d = refl
imported_by t.FullName e d = refl
imported_by t.Match e d = absurd cc
imported_by t.Readonly e d = absurd cc
imported_by _ e d = absurd cc

grouped_by : (own : Terminal) → is_name_of false own ≡ true → is_keyword_now own ≡ false → ((is_constant_label own || is_qualified own) || same_class t.GroupedName own) ≡ true
grouped_by t.Label e d = refl
grouped_by t.MixedOrNever e d = refl
grouped_by t.QualifiedName e d = refl
grouped_by t.Match e d = absurd cc
grouped_by t.Readonly e d = absurd cc
grouped_by _ e d = absurd cc

class_by : (own : Terminal) (refused : Bool) → is_name_of true own ≡ true → is_keyword_now own ≡ false
    → (is_type_now own || (is_whole_name own && refused)) ≡ false
    → ((is_plain_label own || ((is_qualified own || is_full own) && not refused)) || same_class t.ImportedClass own) ≡
    true
class_by t.Label r e d c = refl
class_by t.QualifiedName false e d c = refl
class_by t.FullName false e d c = refl
class_by t.QualifiedName true e d c = absurd cc
class_by t.FullName true e d c = absurd cc
class_by t.MixedOrNever r e d c = absurd cc
class_by t.Match r e d c = absurd cc
class_by t.Readonly r e d c = absurd cc
class_by _ r e d c = absurd cc

grouped_class_by : (own : Terminal) (refused : Bool) → is_name_of false own ≡ true → is_keyword_now own ≡ false
    → (is_type_now own || (is_whole_name own && refused)) ≡ false
    → ((is_plain_label own || (is_qualified own && not refused)) || same_class t.GroupedClass own) ≡ true
grouped_class_by t.Label r e d c = refl
grouped_class_by t.QualifiedName false e d c = refl
grouped_class_by t.QualifiedName true e d c = absurd cc
grouped_class_by t.MixedOrNever r e d c = absurd cc
grouped_class_by t.Match r e d c = absurd cc
grouped_class_by t.Readonly r e d c = absurd cc
grouped_class_by _ r e d c = absurd cc

-- ---- a name as one token

-- One token stands for a name: it is of one class where it is no keyword, and of another where it is no type either.
pub record Imported (n k : Terminal) (f new : Forest) : Type 0 where
  pub one : Token
  pub same : new ≡ leaf one none
  pub no_comma : is_comma (terminal one) ≡ false
  pub no_code : is_of_code (terminal one) ≡ false
  pub as_name : is_keyword_now (terminal one) ≡ false → Kept (word n) f (leaf one none)
  pub as_class : is_keyword_now (terminal one) ≡ false → is_type_name one ≡ false → Kept (word k) f (leaf one none)

-- names of a rule become such tokens
abbrev pub Names : Rule → Terminal → Terminal → Type 0
Names r n k = (f : Forest) → Fits V74 r f → AreSpelled f → begins_namespace f ≡ false → (a : Bool → Option Around) (b : Bool) → Imported n k f (new_parts a b f)

imported_from : (n k : Terminal) (r : Rule) (f new : Forest) (u : Token) → Fits V74 r f → of_name r ≡ true
    → may_be_empty r ≡ false → new ≡ leaf u none → is_name_of true (terminal u) ≡ true
    → (is_keyword_now (terminal u) ≡ false → accepts V83 n u ≡ true) → (is_keyword_now (terminal u) ≡ false → is_type_name u ≡ false → accepts V83 k u ≡ true) → Imported n k f new
imported_from n k r f new u x e m same own takes_name takes_class = record {
  one = u;
  same = same;
  no_comma = no_comma_by (terminal u) own;
  no_code = no_code_by (terminal u) own;
  as_name = λ h. record {
    fits = is_word (takes_name h);
    like =
        like_word f u (no_else x e) (no_variable x e) empty (quiet_by (terminal u) own).0 (quiet_by (terminal u) own).1
        (quiet_by (terminal u) own).2;
  };
  as_class = λ h d. record {
    fits = is_word (takes_class h d);
    like =
        like_word f u (no_else x e) (no_variable x e) empty (quiet_by (terminal u) own).0 (quiet_by (terminal u) own).1
        (quiet_by (terminal u) own).2;
  };
}
  where
    empty : f ≡ none → ⊥
    empty z = let c : false ≡ true = sym m ∙ empty_rule V74 x z in cc

plain_class : (y : Token) (u : NewToken) → accepts V74 t.AnyLabel y ≡ true → is_label_text y.text ≡ true
    → is_namespace_word y.text ≡ false → Bare y u → is_name_of false (terminal (shown_token u)) ≡ true
plain_class y u p s n b = go b.text
  where
    go : (u ≡ hash_comment y) ⊎ ((u.kind ≡ token.Name) × (rest : List ℕ) × (after u.text ≡ y.text ++ 92 ∷ rest)) → is_name_of false (terminal (shown_token u)) ≡ true
    go (inl e) = ap (λ (z : NewToken). is_name_of false (terminal (shown_token z))) e ∙ ap (is_name_of false) (shown_terminal y) ∙ label_of (terminal y) (label_any y p)
    go (inr r) =
        ap (is_name_of false)
        (ap (λ (sort : TokenKind). terminal_by sort (after u.text)) r.0 ∙ ap (λ (text : List ℕ). terminal_by token.Name text) r.2 ∙ qualified_is y.text r.1 s n)

full_class : (v : NewToken) → Root v → is_name_of true (terminal (shown_token v)) ≡ true
full_class v r =
    ap (is_name_of true) (ap (λ (sort : TokenKind). terminal_by sort (after v.text)) r.kind ∙ ap (λ (text : List ℕ). terminal_by token.Name text) r.text.1)

pub grouped_names : Names (namespace_name V74) t.GroupedName t.GroupedClass
grouped_names f x s o a b =
    let r = plain_is f x s o a b in
    let u = shown_token r.3 in
    let own = plain_class r.0 r.3 r.1 r.2.0 r.2.1 r.4 in
    imported_from t.GroupedName t.GroupedClass (namespace_name V74) f (new_parts a b f) u x refl refl (ap shown r.5) (to_full (terminal u) own)
    (λ h. grouped_by (terminal u) own h) (λ h d. grouped_class_by (terminal u) (names_refused u.text) own h d)

imported_token : (f : Forest) (u : Token) (a : Bool → Option Around) (b : Bool) → Fits V74 (imported_name V74) f
    → new_parts a b f ≡ leaf u none → is_name_of true (terminal u) ≡ true
    → Imported t.ImportedName t.ImportedClass f (new_parts a b f)
imported_token f u a b x same own =
    imported_from t.ImportedName t.ImportedClass (imported_name V74) f (new_parts a b f) u x refl refl same own
    (λ h. imported_by (terminal u) own h) (λ h d. class_by (terminal u) (names_refused u.text) own h d)

pub imported_names : Names (imported_name V74) t.ImportedName t.ImportedClass
imported_names f (is_both {h = h} (is_first is_nothing) x d) s o a b =
    let r = plain_is h x (subst AreSpelled d s) (ap begins_namespace (sym d) ∙ o) a b in
    let same : new_parts a b f ≡ leaf (shown_token r.3) none = ap (new_parts a b) d ∙ ap shown r.5 in
    imported_token f (shown_token r.3) a b (is_both (is_first is_nothing) x d) same (to_full (terminal (shown_token r.3)) (plain_class r.0 r.3 r.1 r.2.0 r.2.1 r.4))
imported_names f (is_both {h = h} (is_second (is_word {x = y} p)) x d) s o a b =
    let r = full_is y h f d p x (subst AreSpelled d s).1 a b in
    imported_token f (shown_token r.0) a b (is_both (is_second (is_word p)) x d) (ap shown r.2) (full_class r.0 r.1)
