-- Namespaces keep their shape.
use Rattle.std.proofs.Common.{◌≡◌, ℕ, Bool, true, false, not, ◌&&◌, ◌||◌, ◌⊎◌, inl, inr, codes, List, [], ◌∷◌, ◌++◌, Option, refl, sym, ap, ◌∙◌, subst}
use Rattle.std.specs.Str.{bytes_eq, str_to_ascii_lowercase}
use Rattle.php_tree.specs.declared.kind.NodeKind.TheVariants as k
use Rattle.php_tree.specs.declared.token.Token.{Token}
use Rattle.php_tree.specs.declared.token.TokenKind.{TokenKind}
use Rattle.php_tree.specs.declared.token.TokenKind.TheVariants as token
use Rattle.php_tree.specs.declared.version.Version.TheVariants.{V74, V83}
use Rattle.php_tree.specs.Tree.{Forest, none, leaf, ◌+++◌}
use Rattle.php_terminals.specs.declared.terminal.Terminal.{Terminal}
use Rattle.php_terminals.specs.declared.terminal.Terminal.TheVariants as t
use Rattle.php_terminals.specs.Classify.{is_any_label, is_qualified, terminal, terminal_by}
use Rattle.php_grammar.specs.Accepts.{accepts, same_class}
use Rattle.php_shapes.specs.Names.{namespace_name}
use Rattle.php_shapes.specs.Namespaces.{namespace_declaration}
use Rattle.php_shapes.specs.Nearest.{goes_on_if, is_else, is_to}
use Rattle.php_shapes.specs.Notation.{Rule, word, ◌~◌, ◌|||◌, braces}
use Rattle.php_shapes.specs.Shapes.{Fits, IsNode, is_both, is_first, is_node, is_second, is_word}
use Rattle.php_shapes.specs.Statements.{statements}
use Rattle.tracked_changes.specs.Pieces.{after, before}
use Rattle.tracked_changes.specs.Draft.{NewToken, Draft, new_leaf, ◌then◌}
use Rattle.syntax_rules.specs.Around.{Around, within}
use Rattle.syntax_rules.specs.HashComment.{hash_comment}
use Rattle.syntax_rules.specs.SplitName.{begins_root, in_front, is_backslash, is_keyword, is_label, is_name, is_namespace, is_one, is_op}
use Rattle.rewritten_shapes.specs.Laws.{AreSpelled, begins_namespace, is_label_text, is_namespace_word, opens_name}
use Rattle.rewritten_shapes.proofs.Bilingual.{label_any, like_word, name_quiet, no_else, no_variable, front_namespace, no_namespace, quiet_label, shown_terminal, spelled_front}
use Rattle.rewritten_shapes.proofs.Calm.{shown_accepts, steady_shown}
use Rattle.rewritten_shapes.proofs.Kept.{AllGood, Good, Kept, good_rest, kept, kept_both, kept_first, kept_join, kept_second}
use Rattle.rewritten_shapes.proofs.Like.{like_leaf}
use Rattle.rewritten_shapes.proofs.NameParts.{space_by}
use Rattle.rewritten_shapes.proofs.Qualified.{qualified_is}
use Rattle.rewritten_shapes.proofs.Same.{assemble, lines_fine}
use Rattle.rewritten_shapes.proofs.Shown.{apart_leaf, names_whole, new_parts, new_tree, shown, shown_token}
use Rattle.rewritten_shapes.proofs.Sides.{apart_drafts, are_apart, empty_rule, still_first}
use Rattle.rewritten_shapes.proofs.Tabled.{written}
use Rattle.rewritten_shapes.proofs.Units.{Bare, plain_is}

-- ---- the keyword before a name

word_no_op : (sort : TokenKind) (b : Bool) → (is_keyword sort && b) ≡ true → is_op sort ≡ false
word_no_op token.Keyword b e = refl
word_no_op token.Op b e = absurd cc
word_no_op _ b e = refl

space_no_root : (n : Token) → accepts V74 t.Namespace n ≡ true → is_backslash (hash_comment n) ≡ false
space_no_root n e = ap (λ (b : Bool). b && bytes_eq (n.text ++ []) (codes "\\"))
    (word_no_op n.kind (bytes_eq (str_to_ascii_lowercase n.text) (codes "namespace")) (space_by n.kind n.text e))

no_join : (a b c d : Bool) → a ≡ false → d ≡ false → ((a && b) || (c && d)) ≡ false
no_join true b c d e f = absurd cc
no_join false b true d e f = f
no_join false b false d e f = refl

apart_from : (t u : NewToken) → is_backslash t ≡ false → begins_root (before u.text) ≡ false → is_one t u ≡ false
apart_from t u e f = no_join (is_backslash t)
    (is_label u.kind || (is_name u.kind && not (begins_root (before u.text))))
    ((is_label t.kind || is_namespace t) && is_name u.kind) (begins_root (before u.text)) e f

-- ---- the name

abbrev tail_rule : Rule
tail_rule = braces statements ||| word t.Semi

takes_qualified : (y : Token) (u : NewToken) → accepts V74 t.AnyLabel y ≡ true → is_label_text y.text ≡ true
    → is_namespace_word y.text ≡ false → Bare y u → accepts V83 t.NamespaceToken (shown_token u) ≡ true
takes_qualified y u p s n b = go b.text
  where
    go : (u ≡ hash_comment y) ⊎ ((u.kind ≡ token.Name) × (rest : List ℕ) × (after u.text ≡ y.text ++ 92 ∷ rest)) → accepts V83 t.NamespaceToken (shown_token u) ≡ true
    go (inl e) = ap (λ (z : NewToken). accepts V83 t.NamespaceToken (shown_token z)) e
        ∙ shown_accepts V83 t.NamespaceToken y
        (ap (λ (z : Bool). (z || is_qualified (terminal y)) || same_class t.NamespaceToken (terminal y))
        (label_any y p))
    go (inr r) =
        let own : terminal (shown_token u) ≡ t.QualifiedName =
        ap (λ (sort : TokenKind). terminal_by sort (after u.text)) r.0
        ∙ ap (λ (text : List ℕ). terminal_by token.Name text) r.2 ∙ qualified_is y.text r.1 s n in
        ap (λ (x : Terminal). (is_any_label x || is_qualified x) || same_class t.NamespaceToken x) own

of_code : (sort : TokenKind) (text : List ℕ) → (is_keyword sort && bytes_eq (str_to_ascii_lowercase text) (codes "namespace")) ≡ true → opens_name sort text ≡ true
of_code token.Keyword text e = refl
of_code _ text e = absurd cc

empty : (g : Forest) → Fits V74 (namespace_name V74) g → g ≡ none → ⊥
empty g p e = let z : false ≡ true = empty_rule V74 p e in cc

abbrev Quiet : Token → Type 0
Quiet u = (goes_on_if (terminal u) ≡ false) × (is_to (terminal u) ≡ false) × (is_else (terminal u) ≡ false)

quiet : (y : Token) (u : NewToken) → accepts V74 t.AnyLabel y ≡ true → (u ≡ hash_comment y) ⊎ (u.kind ≡ token.Name) → Quiet (shown_token u)
quiet y u p (inl e) = subst (λ (z : NewToken). Quiet (shown_token z)) (sym e) (
  ap goes_on_if (shown_terminal y) ∙ (quiet_label (terminal y) p).0,
  ap is_to (shown_terminal y) ∙ (quiet_label (terminal y) p).1,
  ap is_else (shown_terminal y) ∙ (quiet_label (terminal y) p).2,
)
quiet y u p (inr e) = name_quiet (shown_token u) e

unit_kept : (g : Forest) → Fits V74 (namespace_name V74) g → AreSpelled g → begins_namespace g ≡ false
    → (a : Bool → Option Around) (b : Bool) → Kept (word t.NamespaceToken) g (new_parts a b g)
unit_kept g p s o a b =
    let r = plain_is g p s o a b in
    let u = shown_token r.3 in
    let same : new_parts a b g ≡ leaf u none = ap shown r.5 in
    subst (Kept (word t.NamespaceToken) g) (sym same)
    (record {
      fits = is_word (takes_qualified r.0 r.3 r.1 r.2.0 r.2.1 r.4);
      like = like_word g u (no_else p refl) (no_variable p refl) (λ e. empty g p e) (quiet r.0 r.3 r.1 r.4.kind).0 (quiet r.0 r.3 r.1 r.4.kind).1 (quiet r.0 r.3 r.1 r.4.kind).2;
    })

-- the keyword stays apart from the name
behind_space : (n : Token) (g h : Forest) (a : Bool → Option Around) (b : Bool) → accepts V74 t.Namespace n ≡ true
    → Fits V74 (namespace_name V74) g → Fits V74 tail_rule h → AreSpelled g → begins_namespace g ≡ false
    → new_parts a b (leaf n (g +++ h)) ≡ leaf (shown_token (hash_comment n)) (new_parts a false (g +++ h))
behind_space n g h a b o p q s odd =
    let r = plain_is g p s odd a false in
    let d = names_whole (written a (still_first false g) h) in
    let same : names_whole (written a false (g +++ h)) ≡ new_leaf r.3 d = apart_drafts a false g h (are_apart p q refl) ∙ ap (λ (z : Draft). z then d) r.5 in
    ap (λ (z : Draft). shown (in_front true (hash_comment n) z)) same
    ∙ ap shown (apart_leaf (hash_comment n) r.3 d (apart_from (hash_comment n) r.3 (space_no_root n o) r.4.plain))
    ∙ ap (λ (z : Draft). leaf (shown_token (hash_comment n)) (shown z)) (sym same)

space_kept : (c : Forest) → Fits V74 (namespace_declaration V74) c → AreSpelled c → AllGood c
    → (a : Bool → Option Around) (b : Bool) → Kept (namespace_declaration V83) c (new_parts a b c)
space_kept c (is_both {h = f} (is_word {x = n} o) (is_first x) d) s w a b =
    let w1 = subst AllGood d w in
    kept_join a b (word t.Namespace) (braces statements) (word t.Namespace) (braces statements ||| word t.NamespaceToken ~ tail_rule) c (leaf n none) f d (is_word {x = n} o) x refl
    (record { fits = is_word (steady_shown t.Namespace n refl o); like = like_leaf n (shown_token (hash_comment n)) (shown_terminal n) })
    (kept_first (braces statements) (word t.NamespaceToken ~ tail_rule) f (new_parts a false f) (kept x refl w1 a false))
space_kept c (is_both {h = f} (is_word {x = n} o) (is_second (is_both {g} {h} p q e)) d) s w a b =
    let same : c ≡ leaf n (g +++ h) = d ∙ ap (leaf n) e in
    let sp = subst AreSpelled same s in
    let s1 = sp.1 in
    let odd = front_namespace g h (no_namespace (opens_name n.kind n.text) (begins_namespace (g +++ h)) sp.0.1 (of_code n.kind n.text (space_by n.kind n.text o))) in
    let w1 : AllGood (g +++ h) = subst AllGood same w in
    let name = unit_kept g p (spelled_front g h s1) odd a false in
    let rest : Kept (word t.NamespaceToken ~ tail_rule) (g +++ h) (new_parts a false (g +++ h)) =
    kept_join a false (namespace_name V74) tail_rule (word t.NamespaceToken) tail_rule (g +++ h) g h refl p q refl name (kept q refl (good_rest g h w1) a (still_first false g)) in
    let made = kept_both (word t.Namespace) tail_rule (word t.Namespace)
    (braces statements ||| word t.NamespaceToken ~ tail_rule) c (leaf n none) (g +++ h)
    (leaf (shown_token (hash_comment n)) none) (new_parts a false (g +++ h)) same
    (record { fits = is_word (steady_shown t.Namespace n refl o); like = like_leaf n (shown_token (hash_comment n)) (shown_terminal n) })
    (kept_second (braces statements) (word t.NamespaceToken ~ tail_rule) (g +++ h) (new_parts a false (g +++ h)) rest) in
    subst (Kept (namespace_declaration V83) c) (sym (ap (new_parts a b) same ∙ behind_space n g h a b o p q (spelled_front g h s1) odd)) made

pub good_namespace : (a : Option Around) (c : Forest) → AreSpelled c → AllGood c → IsNode V74 k.Namespace c → Good k.Namespace c (new_tree a k.Namespace c)
good_namespace a c s w (is_node x near fine) =
    let b = new_parts (within k.Namespace c) true c in
    assemble a k.Namespace c refl refl (space_kept c x s w (within k.Namespace c) true) near (lines_fine k.Namespace b refl)
