-- What is read has the shape.
use Rattle.std.proofs.Common.{◌≡◌, ℕ, ◌<◌, true, List, [], ◌∷◌, ◌++◌, length, Option, Some, None, refl, sym, ap, ◌∙◌, subst}
use Rattle.std.specs.Prelude.{IfSome}
use Rattle.php_tree.specs.declared.kind.NodeKind.{NodeKind}
use Rattle.php_tree.specs.declared.token.Token.{Token}
use Rattle.php_tree.specs.declared.version.Version.{Version}
use Rattle.php_tree.specs.Tree.{File, Forest, Tree, none, leaf, node, ◌+++◌, leaves, file_leaves}
use Rattle.php_terminals.specs.declared.terminal.Terminal.{Terminal}
use Rattle.php_terminals.specs.Ahead.{spanned}
use Rattle.php_forms.specs.declared.item.Group.{Group}
use Rattle.php_forms.specs.declared.item.Item.{Item}
use Rattle.php_forms.specs.declared.item.Item.TheVariants.{Word, Node, Part, Repeats, Span}
use Rattle.php_forms.specs.declared.item.Sort.{Sort}
use Rattle.php_forms.specs.declared.item.Sort.TheVariants.{Operand}
use Rattle.php_forms.specs.Grammar.{Form, Grows, IsFlat, Walks, child, ends, head, onward, part, span, stop, repeat, word}
use Rattle.php_grammar.specs.Tables.{form, parts, php, tail}
use Rattle.php_exprs.specs.Expr as ex
use Rattle.php_exprs.proofs.Forests.{forest_assoc}
use Rattle.php_parser.specs.Files.{ReadsFile}
use Rattle.php_shapes.specs.Notation as no
use Rattle.php_shapes.specs.Places as pl
use Rattle.php_shapes.specs.Nearest.{goes_on_if, is_nearest, is_open_if, is_open_yield, is_to}
use Rattle.php_shapes.specs.Shapes.{Fits, IsExpression, Shape, is_place, is_word}
use Rattle.php_shapes.specs.Statements as st
use Rattle.php_shapes.proofs.Entries as sq
use Rattle.php_shapes.proofs.Entries.{Meet, entries, flat, once, sorted, repeats}
use Rattle.php_shapes.proofs.Sequences.{pack_entry, unpack_entry, whole}
use Rattle.php_shapes.proofs.Told.{join}
use Rattle.php_shapes.proofs.Parts.{once_meets, stop_meets, repeat_meets}
use Rattle.php_shapes.proofs.Follows.{Ifs, Yields, follows_append, follows_flat, follows_leaf, follows_node, follows_none, nearest, shut_by}
use Rattle.php_shapes.proofs.Standing.{Closed, Good, Stands}
use Rattle.php_shapes.proofs.Openings.{begins_good}
use Rattle.php_shapes.proofs.Continuations.{GoesOn, goes_good}
use Rattle.php_shapes.proofs.Endings.{ends_good}

-- What is known of parts that were read.
record Walked (v : Version) (is : List Item) (f : Forest) (rest : List Token) : Type 0 where
  meet : Meet v (entries v is) f rest
  ifs : Ifs f rest
  yields : Yields f rest

-- What is known of a node that was read.
record Grown (v : Version) (s : Sort) (k : NodeKind) (c : Forest) (rest : List Token) : Type 0 where
  stands : Stands v s k c
  shut : Closed k c rest
  ifs : Ifs c rest
  yields : Yields c rest

near_in : (v : Version) (s : Sort) (k : NodeKind) (c : Forest) (rest : List Token) → Grown v s k c rest → is_nearest c ≡ true
near_in v s k c rest n = nearest c rest n.ifs n.yields

module _ (v : Version) where
  word_walked : (c : Terminal) (is : List Item) (t : Token) (f : Forest) (rest : List Token)
      → (php v).accepts c t ≡ true → Walked v is f rest → Walked v (Word c ∷ is) (leaf t f) rest
  word_walked c is t f rest p r = record {
    meet = (leaf t none, f, is_word p, r.meet, refl);
    ifs = follows_leaf is_open_if goes_on_if t f rest r.ifs;
    yields = follows_leaf is_open_yield is_to t f rest r.yields;
  }

  child_walked : (s : Sort) (is : List Item) (k : NodeKind) (c f : Forest) (rest : List Token)
      → tail v s (k, c) (leaves f ++ rest) ≡ None → Grown v s k c (leaves f ++ rest) → Walked v is f rest
      → Walked v (Node s ∷ is) (node k c f) rest
  child_walked s is k c f rest e n r = record {
    meet = unpack_entry v (sorted s) (entries v is) (node k c none) f rest (ends_good v s k c (leaves f ++ rest) n.stands (near_in v s k c (leaves f ++ rest) n) e) r.meet;
    ifs = follows_node is_open_if goes_on_if k c f rest (shut_by is_open_if goes_on_if k c (leaves f ++ rest) n.ifs n.shut.0) r.ifs;
    yields = follows_node is_open_yield is_to k c f rest (shut_by is_open_yield is_to k c (leaves f ++ rest) n.yields n.shut.1) r.yields;
  }

  part_walked : (g : Group) (is : List Item) (h f : Forest) (rest : List Token)
      → Walked v (parts v g (leaves h ++ (leaves f ++ rest))) h (leaves f ++ rest) → Walked v is f rest
      → Walked v (Part g ∷ is) (h +++ f) rest
  part_walked g is h f rest a r = record {
    meet = unpack_entry v (once v g) (entries v is) h f rest (once_meets v g h (leaves f ++ rest) a.meet) r.meet;
    ifs = follows_append is_open_if goes_on_if h f rest a.ifs r.ifs;
    yields = follows_append is_open_yield is_to h f rest a.yields r.yields;
  }

  stop_walked : (g : Group) (is : List Item) (f : Forest) (rest : List Token) → parts v g (leaves f ++ rest) ≡ [] → Walked v is f rest → Walked v (Repeats g ∷ is) f rest
  stop_walked g is f rest p r = record {
    meet = unpack_entry v (repeats v g) (entries v is) none f rest (stop_meets v g (leaves f ++ rest) p) r.meet;
    ifs = r.ifs;
    yields = r.yields;
  }

  repeat_meet : (g : Group) (is : List Item) (h f : Forest) (rest : List Token)
      → Meet v (entries v (parts v g (leaves h ++ (leaves f ++ rest)))) h (leaves f ++ rest) → 0 < length (leaves h)
      → Meet v (entries v (Repeats g ∷ is)) f rest → Meet v (entries v (Repeats g ∷ is)) (h +++ f) rest
  repeat_meet g is h f rest m has r =
      let b = pack_entry v (repeats v g) (entries v is) f rest r in
      let same : leaves f ++ rest ≡ leaves b.0 ++ (leaves b.1 ++ rest) = ap (λ (y : Forest). leaves y ++ rest) b.4 ∙ join b.0 b.1 rest in
      let here : Meet v (entries v (parts v g (leaves h ++ (leaves b.0 ++ (leaves b.1 ++ rest))))) h (leaves b.0 ++ (leaves b.1 ++ rest)) =
      subst (λ (ts : List Token). Meet v (entries v (parts v g (leaves h ++ ts))) h ts) same m in
      subst (λ (y : Forest). Meet v (entries v (Repeats g ∷ is)) y rest)
      (forest_assoc h b.0 b.1 ∙ ap (λ (y : Forest). h +++ y) (sym b.4))
      (unpack_entry v (repeats v g) (entries v is) (h +++ b.0) b.1 rest (repeat_meets v g h b.0 (leaves b.1 ++ rest) here has b.2) b.3)

  repeat_walked : (g : Group) (i : Item) (js is : List Item) (h f : Forest) (rest : List Token)
      → parts v g (leaves h ++ (leaves f ++ rest)) ≡ i ∷ js → Walked v (i ∷ js) h (leaves f ++ rest)
      → 0 < length (leaves h) → Walked v (Repeats g ∷ is) f rest → Walked v (Repeats g ∷ is) (h +++ f) rest
  repeat_walked g i js is h f rest p a has r = record {
    meet = repeat_meet g is h f rest (subst (λ (ks : List Item). Meet v (entries v ks) h (leaves f ++ rest)) (sym p) a.meet) has r.meet;
    ifs = follows_append is_open_if goes_on_if h f rest a.ifs r.ifs;
    yields = follows_append is_open_yield is_to h f rest a.yields r.yields;
  }

  span_walked : (is : List Item) (h f : Forest) (rest : List Token) → IsFlat h
      → spanned 0 (leaves h ++ (leaves f ++ rest)) ≡ length (leaves h) → Walked v is f rest
      → Walked v (Span ∷ is) (h +++ f) rest
  span_walked is h f rest flat p r = record {
    meet = unpack_entry v sq.span (entries v is) h f rest (flat, p) r.meet;
    ifs = follows_append is_open_if goes_on_if h f rest (follows_flat is_open_if goes_on_if h (leaves f ++ rest) flat) r.ifs;
    yields = follows_append is_open_yield is_to h f rest (follows_flat is_open_yield is_to h (leaves f ++ rest) flat) r.yields;
  }

  head_grown : (s : Sort) (k : NodeKind) (is : List Item) (c : Forest) (rest : List Token) → form v s (leaves c ++ rest) ≡ Some (k, is) → Walked v is c rest → Grown v s k c rest
  head_grown s k is c rest p a =
      let begun : Good v s (k, is) = subst (λ (o : Option Form). IfSome o (Good v s)) p (begins_good v s (leaves c ++ rest)) in
      let x = begun.good c rest a.meet in
      record { stands = x.0; shut = x.1; ifs = a.ifs; yields = a.yields }

  onward_grown : (s : Sort) (j k : NodeKind) (is : List Item) (b f : Forest) (rest : List Token)
      → tail v s (j, b) (leaves f ++ rest) ≡ Some (k, is) → Grown v s j b (leaves f ++ rest) → Walked v is f rest
      → Grown v s k (node j b f) rest
  onward_grown s j k is b f rest p n a =
      let ts = leaves f ++ rest in
      let on : GoesOn v s j b ts (k, is) = subst (λ (o : Option Form). IfSome o (GoesOn v s j b ts)) p (goes_good v s j b ts n.stands (near_in v s j b ts n)) in
      let x = on.goes f rest refl a.meet in
      record {
        stands = x.0;
        shut = x.1;
        ifs = follows_node is_open_if goes_on_if j b f rest (shut_by is_open_if goes_on_if j b ts n.ifs n.shut.0) a.ifs;
        yields = follows_node is_open_yield is_to j b f rest (shut_by is_open_yield is_to j b ts n.yields n.shut.1) a.yields;
      }

  mutual
    walked : {is : List Item} {f : Forest} {rest : List Token} → Walks (php v) is f rest → Walked v is f rest
    walked (ends {rest}) = record { meet = refl; ifs = follows_none is_open_if goes_on_if rest; yields = follows_none is_open_yield is_to rest }
    walked (word {c} {is} {t} {f} {rest} p w) = word_walked c is t f rest p (walked w)
    walked (child {s} {is} {k} {c} {f} {rest} g e w) = child_walked s is k c f rest e (grown g) (walked w)
    walked (part {g} {is} {h} {f} {rest} w u) = part_walked g is h f rest (walked w) (walked u)
    walked (stop {g} {is} {f} {rest} p w) = stop_walked g is f rest p (walked w)
    walked (repeat {g} {i} {js} {is} {h} {f} {rest} p w has u) = repeat_walked g i js is h f rest p (walked w) has (walked u)
    walked (span {is} {f} {rest} h flat p w) = span_walked is h f rest flat p (walked w)

    grown : {s : Sort} {k : NodeKind} {c : Forest} {rest : List Token} → Grows (php v) s k c rest → Grown v s k c rest
    grown (head {s} {k} {is} {c} {rest} p w) = head_grown s k is c rest p (walked w)
    grown (onward {s} {j} {k} {is} {b} {f} {rest} g p w) = onward_grown s j k is b f rest p (grown g) (walked w)

-- A file that is read has the shape, and its leaves are the tokens.
pub file_has_shape : (v : Version) (tokens : List Token) (f : File) → ReadsFile v tokens f → Shape v f × (tokens ≡ file_leaves f)
file_has_shape v tokens f r =
    (record { shaped = whole v st.statements f.statements (f.end ∷ []) (walked v r.walks).meet; ends = r.ends }, r.text)

all_leaves : (ts : List Token) → ts ++ [] ≡ ts
all_leaves [] = refl
all_leaves (x ∷ ts) = ap (λ (us : List Token). x ∷ us) (all_leaves ts)

stands_as : (v : Version) (k : NodeKind) (c : Forest) → Fits v (no.place (pl.Operand 24)) (node k c none) → IsExpression v (k, c)
stands_as v k c (is_place w n) = record { stands = w; shaped = n }

-- An expression that is read has the shape, and its leaves are the tokens.
pub expression_has_shape : (v : Version) (d : ℕ) (tokens : List Token) (x : Tree) → ex.IsExpression v d tokens x → IsExpression v x × (tokens ≡ leaves x.1)
expression_has_shape v d tokens x r =
    let n = grown v r.spells.0 in
    (stands_as v x.0 x.1 (ends_good v (Operand 24) x.0 x.1 [] n.stands (near_in v (Operand 24) x.0 x.1 [] n) r.spells.1), r.text ∙ all_leaves (leaves x.1))
