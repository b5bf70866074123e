-- Rules that 8.3 has with each name as one token, and without the words that it refuses.
use Rattle.std.proofs.Common.{◌≡◌, ℕ, Bool, true, false, not, cond, ◌&&◌, ◌||◌, inl, inr, codes, List, Option, refl, sym, ap, ◌∙◌, subst}
use Rattle.std.proofs.lemmas.Bool.{or_from}
use Rattle.php_tree.specs.declared.token.Token.{Token}
use Rattle.php_tree.specs.declared.token.TokenKind.{TokenKind}
use Rattle.php_tree.specs.declared.token.TokenKind.TheVariants as token
use Rattle.php_tree.specs.declared.version.Version.TheVariants.{V74, V83}
use Rattle.php_tree.specs.Tree.{Forest, none, leaf, node, ◌+++◌}
use Rattle.php_terminals.specs.declared.terminal.Terminal.{Terminal}
use Rattle.php_terminals.specs.declared.terminal.Terminal.TheVariants as t
use Rattle.php_terminals.specs.Classify.{is_any_label, is_called_label, is_constant_label, is_full, is_plain_label, is_qualified, is_relative, terminal, terminal_by}
use Rattle.php_terminals.specs.Classify as classes
use Rattle.php_terminals.specs.Words as words
use Rattle.php_grammar.specs.Accepts.{accepts, same_class}
use Rattle.php_shapes.specs.Names.{called_name, name}
use Rattle.php_shapes.specs.Nearest.{goes_on_if, has_else, is_else, is_to}
use Rattle.php_shapes.specs.Places.{begins_with_variable}
use Rattle.php_shapes.specs.Notation.{Rule, nothing, word, ◌~◌, ◌|||◌, many}
use Rattle.php_shapes.specs.Shapes.{Fits, is_nothing, is_word, is_both, is_first, is_second, no_more, once_more, is_kind, is_place, is_inside, is_tokens}
use Rattle.syntax_rules.specs.Around.{Around}
use Rattle.syntax_rules.specs.HashComment.{hash_comment}
use Rattle.rewritten_shapes.specs.Laws.{AreSpelled, begins_namespace, opens_name}
use Rattle.rewritten_shapes.specs.RefusedWords.{has, is_any_of_them, is_keyword_now, is_match}
use Rattle.rewritten_shapes.proofs.Calm.{shown_accepts, shown_is}
use Rattle.rewritten_shapes.proofs.Kept.{AllGood, Kept, good_front, good_rest, kept, kept_first, kept_join, kept_many, kept_second, steady}
use Rattle.rewritten_shapes.proofs.Like.{Like, below_zero, else_join, like_leaf, like_none}
use Rattle.rewritten_shapes.proofs.Shown.{names_whole, new_parts, shown, shown_token}
use Rattle.rewritten_shapes.proofs.Sides.{and_left, and_right, apart_parts, are_apart, empty_rule, stay_apart, still_first}
use Rattle.rewritten_shapes.proofs.Tabled.{written}
use Rattle.rewritten_shapes.proofs.Units.{Whole, name_is}
use Rattle.rewritten_shapes.proofs.NameParts.{label_token}
use Rattle.php_grammar.specs.Edges.{edge_from}

-- which words a node may not have
pub data Which : Type 0 where
  -- `match`
  match_alone : Which
  -- `match` and `readonly`
  keywords : Which
  -- all four
  all_four : Which

abbrev pub test : Which → Terminal → Bool
test match_alone x = is_match x
test keywords x = is_keyword_now x
test all_four x = is_any_of_them x

-- ---- labels

asked_free : (own : Terminal) → is_any_label own ≡ true → is_keyword_now own ≡ false → is_constant_label own ≡ true
asked_free t.Label e d = refl
asked_free t.MixedOrNever e d = refl
asked_free t.Match e d = cc
asked_free t.Readonly e d = cc
asked_free _ e d = cc

asked_called : (own : Terminal) → is_any_label own ≡ true → is_match own ≡ false → is_called_label own ≡ true
asked_called t.Label e d = refl
asked_called t.MixedOrNever e d = refl
asked_called t.Readonly e d = refl
asked_called t.Match e d = cc
asked_called _ e d = cc

any_label : (text : List ℕ) → is_any_label (words.label text) ≡ true
unfolding words.labels
any_label text = go (words.is_word (codes "match") text) (words.is_word (codes "readonly") text) (words.is_word (codes "mixed") text) (words.is_word (codes "never") text)
  where
    go : (a b c d : Bool) → is_any_label (cond a t.Match (cond b t.Readonly (cond c t.MixedOrNever (cond d t.MixedOrNever t.Label)))) ≡ true
    go true b c d = refl
    go false true c d = refl
    go false false true d = refl
    go false false false true = refl
    go false false false false = refl

pub label_any : (y : Token) → accepts V74 t.AnyLabel y ≡ true → is_any_label (terminal y) ≡ true
label_any y e = ap (λ (sort : TokenKind). is_any_label (terminal_by sort y.text)) (label_token y e) ∙ any_label y.text

free_label : (own : Terminal) → (is_any_label own || same_class t.FreeLabel own) ≡ true → is_keyword_now own ≡ false → (is_constant_label own || same_class t.FreeLabel own) ≡ true
free_label t.Label e d = refl
free_label t.MixedOrNever e d = refl
free_label t.FreeLabel e d = refl
free_label t.Match e d = absurd cc
free_label t.Readonly e d = absurd cc
free_label _ e d = absurd cc

function_label : (own : Terminal) → (is_any_label own || same_class t.FunctionLabel own) ≡ true → is_match own ≡ false
    → (is_called_label own || same_class t.FunctionLabel own) ≡ true
function_label t.Label e d = refl
function_label t.MixedOrNever e d = refl
function_label t.Readonly e d = refl
function_label t.FunctionLabel e d = refl
function_label t.Match e d = absurd cc
function_label _ e d = absurd cc

class_label : (own : Terminal) → (is_any_label own || same_class t.ClassLabel own) ≡ true → is_any_of_them own ≡ false → (is_plain_label own || same_class t.ClassLabel own) ≡ true
class_label t.Label e d = refl
class_label t.ClassLabel e d = refl
class_label t.MixedOrNever e d = absurd cc
class_label t.Match e d = absurd cc
class_label t.Readonly e d = absurd cc
class_label _ e d = absurd cc

-- ---- names

name_token : (text : List ℕ) → ((((is_constant_label (classes.name text) || is_qualified (classes.name text))
    || is_full (classes.name text)) || is_relative (classes.name text)) || same_class t.NameToken (classes.name text))
    ≡ true
name_token text = go (words.is_word (codes "\\") (words.front 1 text)) (words.is_word (codes "namespace\\") (words.front 10 text))
  where
    go : (a b : Bool) → ((((is_constant_label (cond a t.FullName (cond b t.RelativeName t.QualifiedName))
        || is_qualified (cond a t.FullName (cond b t.RelativeName t.QualifiedName)))
        || is_full (cond a t.FullName (cond b t.RelativeName t.QualifiedName)))
        || is_relative (cond a t.FullName (cond b t.RelativeName t.QualifiedName)))
        || same_class t.NameToken (cond a t.FullName (cond b t.RelativeName t.QualifiedName))) ≡ true
    go true b = refl
    go false true = refl
    go false false = refl

called_token : (text : List ℕ) → ((((is_called_label (classes.name text) || is_qualified (classes.name text))
    || is_full (classes.name text)) || is_relative (classes.name text))
    || same_class t.CalledName (classes.name text)) ≡ true
called_token text = go (words.is_word (codes "\\") (words.front 1 text)) (words.is_word (codes "namespace\\") (words.front 10 text))
  where
    go : (a b : Bool) → ((((is_called_label (cond a t.FullName (cond b t.RelativeName t.QualifiedName))
        || is_qualified (cond a t.FullName (cond b t.RelativeName t.QualifiedName)))
        || is_full (cond a t.FullName (cond b t.RelativeName t.QualifiedName)))
        || is_relative (cond a t.FullName (cond b t.RelativeName t.QualifiedName)))
        || same_class t.CalledName (cond a t.FullName (cond b t.RelativeName t.QualifiedName))) ≡ true
    go true b = refl
    go false true = refl
    go false false = refl

quiet_name : (text : List ℕ) → (goes_on_if (classes.name text) ≡ false) × (is_to (classes.name text) ≡ false) × (is_else (classes.name text) ≡ false)
quiet_name text = go (words.is_word (codes "\\") (words.front 1 text)) (words.is_word (codes "namespace\\") (words.front 10 text))
  where
    go : (a b : Bool) → (goes_on_if (cond a t.FullName (cond b t.RelativeName t.QualifiedName)) ≡ false)
        × (is_to (cond a t.FullName (cond b t.RelativeName t.QualifiedName)) ≡ false)
        × (is_else (cond a t.FullName (cond b t.RelativeName t.QualifiedName)) ≡ false)
    go true b = (refl, refl, refl)
    go false true = (refl, refl, refl)
    go false false = (refl, refl, refl)

pub quiet_label : (own : Terminal) → (is_any_label own || same_class t.AnyLabel own) ≡ true → (goes_on_if own ≡ false) × (is_to own ≡ false) × (is_else own ≡ false)
quiet_label t.Else e = absurd cc
quiet_label t.ElseIf e = absurd cc
quiet_label t.DoubleArrow e = absurd cc
quiet_label _ e = (refl, refl, refl)

-- the tokens of names are none of these
abbrev asks_name : Terminal → Bool
asks_name t.AnyLabel = true
asks_name t.Backslash = true
asks_name t.Namespace = true
asks_name _ = false

abbrev pub of_name : Rule → Bool
of_name nothing = true
of_name (word c) = asks_name c
of_name (r ~ s) = of_name r && of_name s
of_name (r ||| s) = of_name r && of_name s
of_name (many r) = of_name r
of_name _ = false

root_else : (own : Terminal) → same_class t.Backslash own ≡ true → is_else own ≡ false
root_else t.Else e = cc
root_else _ e = refl

space_else : (own : Terminal) → same_class t.Namespace own ≡ true → is_else own ≡ false
space_else t.Else e = cc
space_else _ e = refl

word_else : (c : Terminal) (x : Token) → asks_name c ≡ true → accepts V74 c x ≡ true → is_else (terminal x) ≡ false
word_else t.AnyLabel x h e = (quiet_label (terminal x) e).2
word_else t.Backslash x h e = root_else (terminal x) e
word_else t.Namespace x h e = space_else (terminal x) e
word_else _ x h e = absurd cc

pub no_else : {r : Rule} {f : Forest} → Fits V74 r f → of_name r ≡ true → has_else f ≡ false
no_else is_nothing h = refl
no_else (is_word {c} {x} p) h = or_from (is_else (terminal x)) false (word_else c x h p) refl
no_else (is_kind n) h = absurd cc
no_else (is_place m n) h = absurd cc
no_else (is_inside x near) h = absurd cc
no_else (is_both {r} {s} {f} {g} {h} x y d) e =
    ap has_else d ∙ else_join g h ∙ or_from (has_else g) (has_else h) (no_else x (and_left (of_name r) (of_name s) e)) (no_else y (and_right (of_name r) (of_name s) e))
no_else (is_first {r} {s} x) h = no_else x (and_left (of_name r) (of_name s) h)
no_else (is_second {r} {s} x) h = no_else x (and_right (of_name r) (of_name s) h)
no_else no_more h = refl
no_else (once_more {r} {f} {g} {h} x y d) e = ap has_else d ∙ else_join g h ∙ or_from (has_else g) (has_else h) (no_else x e) (no_else y e)
no_else (is_tokens b) h = absurd cc

variable_join : (g h : Forest) → begins_with_variable g ≡ false → begins_with_variable h ≡ false → begins_with_variable (g +++ h) ≡ false
variable_join none h e d = d
variable_join (leaf x g) h e d = refl
variable_join (node k c g) h e d = e

-- no variable stands in a name
pub no_variable : {r : Rule} {f : Forest} → Fits V74 r f → of_name r ≡ true → begins_with_variable f ≡ false
no_variable is_nothing h = refl
no_variable (is_word p) h = refl
no_variable (is_kind n) h = absurd cc
no_variable (is_place m n) h = absurd cc
no_variable (is_inside x near) h = absurd cc
no_variable (is_both {r} {s} {f} {g} {h} x y d) e =
    ap begins_with_variable d ∙ variable_join g h (no_variable x (and_left (of_name r) (of_name s) e)) (no_variable y (and_right (of_name r) (of_name s) e))
no_variable (is_first {r} {s} x) h = no_variable x (and_left (of_name r) (of_name s) h)
no_variable (is_second {r} {s} x) h = no_variable x (and_right (of_name r) (of_name s) h)
no_variable no_more h = refl
no_variable (once_more {r} {f} {g} {h} x y d) e = ap begins_with_variable d ∙ variable_join g h (no_variable x e) (no_variable y e)
no_variable (is_tokens b) h = absurd cc

calm_if : (b x : Bool) → x ≡ false → (not (b && x) && true) ≡ true
calm_if b true e = absurd cc
calm_if true false e = refl
calm_if false false e = refl

-- some parts without `else`, for which one token stands
pub like_word : (f : Forest) (y : Token) → has_else f ≡ false → begins_with_variable f ≡ false → (f ≡ none → ⊥) → goes_on_if (terminal y) ≡ false
    → is_to (terminal y) ≡ false → is_else (terminal y) ≡ false → Like f (leaf y none)
like_word f y e v n i a l = record {
  elses = λ b d p h. calm_if d (goes_on_if (terminal y)) i;
  ifs = λ b d p h. absurd cc;
  arrows = λ b d p h. calm_if d (is_to (terminal y)) a;
  yields = λ b d p h. absurd cc;
  same_else = or_from (is_else (terminal y)) false l refl ∙ sym e;
  edges = λ u d p. below_zero (edge_from V74 u f);
  begins = λ h. refl;
  leads = λ h. absurd (let z : false ≡ true = sym v ∙ h in cc);
  is_some = λ h. absurd cc;
  is_empty = λ h. absurd (n h);
}

-- ---- a name

pub name_quiet : (u : Token) → u.kind ≡ token.Name → (goes_on_if (terminal u) ≡ false) × (is_to (terminal u) ≡ false) × (is_else (terminal u) ≡ false)
name_quiet u e = subst (λ (sort : TokenKind). (goes_on_if (terminal_by sort u.text) ≡ false)
    × (is_to (terminal_by sort u.text) ≡ false) × (is_else (terminal_by sort u.text) ≡ false)) (sym e)
    (quiet_name u.text)

takes_name : (u : Token) → u.kind ≡ token.Name → accepts V83 t.NameToken u ≡ true
takes_name u e = ap (λ (sort : TokenKind). ((((is_constant_label (terminal_by sort u.text)
    || is_qualified (terminal_by sort u.text)) || is_full (terminal_by sort u.text))
    || is_relative (terminal_by sort u.text)) || same_class t.NameToken (terminal_by sort u.text))) e
    ∙ name_token u.text

takes_called : (u : Token) → u.kind ≡ token.Name → accepts V83 t.CalledName u ≡ true
takes_called u e = ap (λ (sort : TokenKind). ((((is_called_label (terminal_by sort u.text)
    || is_qualified (terminal_by sort u.text)) || is_full (terminal_by sort u.text))
    || is_relative (terminal_by sort u.text)) || same_class t.CalledName (terminal_by sort u.text))) e
    ∙ called_token u.text

label_name : (y : Token) → is_constant_label (terminal y) ≡ true → accepts V83 t.NameToken y ≡ true
label_name y e = ap (λ (b : Bool). ((((b || is_qualified (terminal y)) || is_full (terminal y)) || is_relative (terminal y)) || same_class t.NameToken (terminal y))) e

label_called : (y : Token) → is_called_label (terminal y) ≡ true → accepts V83 t.CalledName y ≡ true
label_called y e = ap (λ (b : Bool). ((((b || is_qualified (terminal y)) || is_full (terminal y)) || is_relative (terminal y)) || same_class t.CalledName (terminal y))) e

or_one : (a : Bool) → (a || false) ≡ false → a ≡ false
or_one true e = e
or_one false e = refl

pub shown_terminal : (y : Token) → terminal (shown_token (hash_comment y)) ≡ terminal y
shown_terminal y = ap terminal (shown_is y)

-- a name becomes one token of a class
name_kept : (asked : Terminal) (which : Which) → ((u : Token) → u.kind ≡ token.Name → accepts V83 asked u ≡ true)
    → ((y : Token) → accepts V74 t.AnyLabel y ≡ true → test which (terminal y) ≡ false → accepts V83 asked y ≡ true)
    → (f : Forest) → Fits V74 (name V74) f → AreSpelled f → (a : Bool → Option Around) (b : Bool)
    → has (test which) (new_parts a b f) ≡ false → Kept (word asked) f (new_parts a b f)
name_kept asked which names labels f p s a b h = go (name_is f p s a b)
  where
    empty : f ≡ none → ⊥
    empty e = let z : false ≡ true = empty_rule V74 p e in cc

    free : has_else f ≡ false
    free = no_else p refl

    plain : begins_with_variable f ≡ false
    plain = no_variable p refl

    go : Whole (names_whole (written a b f)) → Kept (word asked) f (new_parts a b f)
    go (inl r) =
        let y = r.0 in
        let same : new_parts a b f ≡ leaf (shown_token (hash_comment y)) none = ap shown r.2 in
        let quiet = quiet_label (terminal y) r.1 in
        let no : test which (terminal y) ≡ false = or_one (test which (terminal y))
        (ap (λ (z : Terminal). test which z || false) (sym (shown_terminal y)) ∙ ap (has (test which)) (sym same)
        ∙ h) in
        subst (Kept (word asked) f) (sym same)
        (record {
          fits = is_word (shown_accepts V83 asked y (labels y r.1 no));
          like = like_word f (shown_token (hash_comment y)) free plain empty (ap goes_on_if (shown_terminal y) ∙ quiet.0)
              (ap is_to (shown_terminal y) ∙ quiet.1) (ap is_else (shown_terminal y) ∙ quiet.2);
        })
    go (inr r) =
        let u = shown_token r.0 in
        let quiet = name_quiet u r.1 in
        subst (Kept (word asked) f) (sym (ap shown r.2)) (record { fits = is_word (names u r.1); like = like_word f u free plain empty quiet.0 quiet.1 quiet.2 })

-- ---- rules in both versions

pub data Both : Type 0 where
  -- a rule that is the same
  alike : Rule → Both
  -- a name
  a_name : Both
  -- the name of a function that is called
  a_called : Both
  -- a label of a class that 8.3 narrows
  a_label : Terminal → Both
  next : Both → Both → Both
  either : Both → Both → Both
  times : Both → Both

abbrev pub old : Both → Rule
old (alike r) = r
old a_name = name V74
old a_called = called_name V74
old (a_label c) = word c
old (next r s) = old r ~ old s
old (either r s) = old r ||| old s
old (times r) = many (old r)

abbrev pub new : Both → Rule
new (alike r) = r
new a_name = word t.NameToken
new a_called = word t.CalledName
new (a_label c) = word c
new (next r s) = new r ~ new s
new (either r s) = new r ||| new s
new (times r) = many (new r)

abbrev same_which : Which → Which → Bool
same_which match_alone match_alone = true
same_which keywords keywords = true
same_which all_four all_four = true
same_which _ _ = false

-- whether the words that a node may not have are those that a label of the class may not be
abbrev narrows : Terminal → Which → Bool
narrows t.FreeLabel keywords = true
narrows t.FunctionLabel match_alone = true
narrows t.ClassLabel all_four = true
narrows _ _ = false

abbrev pub reads : Which → Both → Bool
reads which (alike r) = steady r
reads which a_name = same_which which keywords
reads which a_called = same_which which match_alone
reads which (a_label c) = narrows c which
reads which (next r s) = stay_apart (old r) (old s) && (reads which r && reads which s)
reads which (either r s) = reads which r && reads which s
reads which (times r) = stay_apart (old r) (old r) && reads which r

pub has_join : (p : Terminal → Bool) (g h : Forest) → has p (g +++ h) ≡ (has p g || has p h)
has_join p none h = refl
has_join p (leaf x g) h = ap (λ (y : Bool). p (terminal x) || y) (has_join p g h) ∙ or_assoc (p (terminal x)) (has p g) (has p h)
  where
    or_assoc : (a b c : Bool) → (a || (b || c)) ≡ ((a || b) || c)
    or_assoc true b c = refl
    or_assoc false b c = refl
has_join p (node j b g) h = has_join p g h

pub left_false : (a b : Bool) → (a || b) ≡ false → a ≡ false
left_false true b e = e
left_false false b e = refl

pub right_false : (a b : Bool) → (a || b) ≡ false → b ≡ false
right_false true b e = absurd cc
right_false false b e = e

pub front_namespace : (g h : Forest) → begins_namespace (g +++ h) ≡ false → begins_namespace g ≡ false
front_namespace none h e = refl
front_namespace (leaf x g) h e = e
front_namespace (node k c g) h e = refl

front_spelled : (a : Bool) (g h : Forest) → (a && begins_namespace (g +++ h)) ≡ false → (a && begins_namespace g) ≡ false
front_spelled true g h e = front_namespace g h e
front_spelled false g h e = refl

-- behind a token that a name may follow stands no label `namespace`
pub no_namespace : (a b : Bool) → (a && b) ≡ false → a ≡ true → b ≡ false
no_namespace true b e d = e
no_namespace false b e d = absurd cc

pub spelled_front : (g h : Forest) → AreSpelled (g +++ h) → AreSpelled g
spelled_front none h p = tt
spelled_front (leaf x g) h p = ((p.0.0, front_spelled (opens_name x.kind x.text) g h p.0.1), spelled_front g h p.1)
spelled_front (node k c g) h p = (p.0, spelled_front g h p.1)

pub spelled_rest : (g h : Forest) → AreSpelled (g +++ h) → AreSpelled h
spelled_rest none h p = p
spelled_rest (leaf x g) h p = spelled_rest g h p.1
spelled_rest (node k c g) h p = spelled_rest g h p.1

pub label_kept : (c : Terminal) (which : Which) (x : Token) → narrows c which ≡ true → accepts V74 c x ≡ true → test which (terminal x) ≡ false → accepts V83 c x ≡ true
label_kept t.FreeLabel keywords x e p h = free_label (terminal x) p h
label_kept t.FunctionLabel match_alone x e p h = function_label (terminal x) p h
label_kept t.ClassLabel all_four x e p h = class_label (terminal x) p h
label_kept t.FreeLabel match_alone x e p h = absurd cc
label_kept t.FreeLabel all_four x e p h = absurd cc
label_kept t.FunctionLabel keywords x e p h = absurd cc
label_kept t.FunctionLabel all_four x e p h = absurd cc
label_kept t.ClassLabel match_alone x e p h = absurd cc
label_kept t.ClassLabel keywords x e p h = absurd cc
label_kept _ w x e p h = absurd cc

-- what a rule asks of parts, to be kept
abbrev Keeps : Which → Both → Type 0
Keeps which r =
    (f : Forest) → Fits V74 (old r) f → AreSpelled f → AllGood f → (a : Bool → Option Around) (b : Bool)
    → has (test which) (new_parts a b f) ≡ false → Kept (new r) f (new_parts a b f)

-- the new parts of two rules have none of the words
parts_free : (which : Which) (a : Bool → Option Around) (b : Bool) (r s : Rule) (f g h : Forest) → f ≡ g +++ h
    → Fits V74 r g → Fits V74 s h → stay_apart r s ≡ true → has (test which) (new_parts a b f) ≡ false
    → (has (test which) (new_parts a b g) ≡ false) × (has (test which) (new_parts a (still_first b g) h) ≡ false)
parts_free which a b r s f g h d x y e n =
    let same : new_parts a b f ≡ new_parts a b g +++ new_parts a (still_first b g) h = ap (new_parts a b) d ∙ apart_parts a b g h (are_apart x y e) in
    let both = sym (has_join (test which) (new_parts a b g) (new_parts a (still_first b g) h)) ∙ ap (has (test which)) (sym same) ∙ n in
    (left_false (has (test which) (new_parts a b g)) _ both, right_false (has (test which) (new_parts a b g)) _ both)

many_kept : (which : Which) (q q2 : Rule) → stay_apart q q ≡ true
    → ((f : Forest) → Fits V74 q f → AreSpelled f → AllGood f → (a : Bool → Option Around) (b : Bool) → has (test which) (new_parts a b f) ≡ false → Kept q2 f (new_parts a b f))
    → (f : Forest) → Fits V74 (many q) f → AreSpelled f → AllGood f → (a : Bool → Option Around) (b : Bool)
    → has (test which) (new_parts a b f) ≡ false → Kept (many q2) f (new_parts a b f)
many_kept which q q2 e one _ no_more s w a b n = record { fits = no_more; like = like_none }
many_kept which q q2 e one f (once_more {g} {h} x y d) s w a b n =
    let z = parts_free which a b q (many q) f g h d x y e n in
    let sp = subst AreSpelled d s in
    let al = subst AllGood d w in
    kept_many a b q q2 f g h d x y e (one g x (spelled_front g h sp) (good_front g h al) a b z.0)
    (many_kept which q q2 e one h y (spelled_rest g h sp) (good_rest g h al) a (still_first b g) z.1)

pub both_kept : (which : Which) (r : Both) → reads which r ≡ true → (f : Forest) → Fits V74 (old r) f → AreSpelled f
    → AllGood f → (a : Bool → Option Around) (b : Bool) → has (test which) (new_parts a b f) ≡ false
    → Kept (new r) f (new_parts a b f)
both_kept which (alike r) e f p s w a b n = kept p e w a b
both_kept keywords a_name e f p s w a b n = name_kept t.NameToken keywords takes_name (λ y q h. label_name y (asked_free (terminal y) (label_any y q) h)) f p s a b n
both_kept match_alone a_name e f p s w a b n = absurd cc
both_kept all_four a_name e f p s w a b n = absurd cc
both_kept match_alone a_called e f p s w a b n = name_kept t.CalledName match_alone takes_called (λ y q h. label_called y (asked_called (terminal y) (label_any y q) h)) f p s a b n
both_kept keywords a_called e f p s w a b n = absurd cc
both_kept all_four a_called e f p s w a b n = absurd cc
both_kept which (a_label c) e f (is_word {x} p) s w a b n = record {
  fits = is_word (shown_accepts V83 c x (label_kept c which x e p (or_one (test which (terminal x)) (ap (λ (z : Terminal). test which z || false) (sym (shown_terminal x)) ∙ n))));
  like = like_leaf x (shown_token (hash_comment x)) (shown_terminal x);
}
both_kept which (next r s) e f (is_both {g} {h} x y d) sp w a b n =
    let apart = and_left (stay_apart (old r) (old s)) (reads which r && reads which s) e in
    let both = and_right (stay_apart (old r) (old s)) (reads which r && reads which s) e in
    let z = parts_free which a b (old r) (old s) f g h d x y apart n in
    let ss = subst AreSpelled d sp in
    let al = subst AllGood d w in
    kept_join a b (old r) (old s) (new r) (new s) f g h d x y apart
    (both_kept which r (and_left (reads which r) (reads which s) both) g x (spelled_front g h ss) (good_front g h al) a b z.0)
    (both_kept which s (and_right (reads which r) (reads which s) both) h y (spelled_rest g h ss) (good_rest g h al) a (still_first b g) z.1)
both_kept which (either r s) e f (is_first x) sp w a b n = kept_first (new r) (new s) f (new_parts a b f)
    (both_kept which r (and_left (reads which r) (reads which s) e) f x sp w a b n)
both_kept which (either r s) e f (is_second x) sp w a b n = kept_second (new r) (new s) f (new_parts a b f)
    (both_kept which s (and_right (reads which r) (reads which s) e) f x sp w a b n)
both_kept which (times r) e f p s w a b n = many_kept which (old r) (new r)
    (and_left (stay_apart (old r) (old r)) (reads which r) e)
    (both_kept which r (and_right (stay_apart (old r) (old r)) (reads which r) e)) f p s w a b n
