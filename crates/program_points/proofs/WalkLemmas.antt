-- The walk over the nodes of a file, node by node.
use Rattle.std.proofs.Common.{◌≡◌, ◌≤◌, ◌<◌, ℕ, suc, ◌+◌, Bool, true, false, if◌then◌else◌, List, []}
use Rattle.std.proofs.Common.{◌∷◌, ◌++◌, length, take, reverse, slice_index_or, refl, sym, ap, ◌∙◌, append_assoc, append-nil, arith}
use Rattle.std.proofs.lemmas.List.{reverse-append}
use Rattle.std.proofs.Math.Seq.{take-suc}
use Rattle.php_tree.specs.declared.kind.NodeKind.{NodeKind}
use Rattle.php_tree.specs.declared.token.Token.{Token}
use Rattle.php_tree.specs.Tree.{Forest, none, leaf, node, count, alone}
use Rattle.php_rows.specs.Reading.{weight}
use Rattle.program_points.specs.declared.frame.Frame.{Frame}
use Rattle.program_points.specs.declared.frame.Handler.{Handler}
use Rattle.program_points.specs.declared.around.Stacks.{Stacks}
use Rattle.program_points.specs.Pieces.{Pieces, pieces}
use Rattle.program_points.specs.Flows.{flow_of}
use Rattle.program_points.specs.Rows.{Edge, try_body, catches, finally_of}
use Rattle.program_points.specs.Edges.{Around, nothing, in_part, in_parts, in_loop, loop_of, inside, is_elsewhere, is_try, row, own, edges}
use Rattle.program_points.specs.Walked.{around_of}

-- ---- later parts, the innermost last

pub last_handler : (hs : List Handler) (n : ℕ) (h : Handler) → n < length hs → h ≡ slice_index_or hs n h → reverse (take (suc n) hs) ≡ h ∷ reverse (take n hs)
last_handler hs n h l e =
    ap reverse (take-suc hs n h l) ∙ ap (λ g. reverse (take n hs ++ g ∷ [])) (sym e) ∙ reverse-append (take n hs) (h ∷ [])

-- ---- parts, one after another

-- what was found, and what is still to be found, make the whole
pub record Walked (around : ℕ → Around) (bound : ℕ) (whole so_far : List Edge) (n : ℕ) (left : Forest) (old new : Stacks) : Type 0 where
  pub all : so_far ++ edges around n left ≡ whole
  pub small : weight left ≤ bound
  pub frames : new.frames.items ≡ old.frames.items
  pub handlers : new.handlers.items ≡ old.handlers.items

pub same_around : (old new : Stacks) → new.frames.items ≡ old.frames.items → new.handlers.items ≡ old.handlers.items → around_of new ≡ around_of old
same_around old new f h =
    let at : List Frame → List Handler → Around = λ fs hs. record { frames = reverse fs; handlers = reverse hs } in
    ap (λ fs. at fs new.handlers.items) f ∙ ap (λ hs. at old.frames.items hs) h

-- a node alone, and then what follows it
edges_node : (around : ℕ → Around) (n : ℕ) (k : NodeKind) (c f : Forest) →
    edges around n (node k c f) ≡ edges around n (alone (k, c)) ++ edges around (suc n + count c) f
edges_node around n k c f =
    ap (λ es. es ++ edges around (suc n + count c) f)
    (sym (append-nil (row k n c (around n) ++ edges (inside k n (pieces (suc n) c) (around n)) (suc n) c)))

pub walked_first : (around : ℕ → Around) (n : ℕ) (left : Forest) (so_far : List Edge) (s : Stacks) →
    Walked around (weight left) (so_far ++ edges around n left) so_far n left s s
walked_first around n left so_far s = record { all = refl; small = omega arith; frames = refl; handlers = refl }

pub walked_leaf : (around : ℕ → Around) (bound n m : ℕ) (whole so_far : List Edge) (t : Token) (left rest : Forest) (old new : Stacks) →
    left ≡ leaf t rest → m ≡ n → Walked around bound whole so_far n left old new → Walked around bound whole so_far m rest old new
walked_leaf around bound n m whole so_far t left rest old new e i w = record {
  all = ap (λ j. so_far ++ edges around j rest) i ∙ sym (ap (λ f. so_far ++ edges around n f) e) ∙ w.all;
  small = omega (arith, w.small, ap (λ f. weight f) e);
  frames = w.frames;
  handlers = w.handlers;
}

pub walked_child : (around : ℕ → Around) (bound n i m : ℕ) (whole so_far more : List Edge) (k : NodeKind) (c left rest : Forest) (a : Around) (old new newer : Stacks) →
    left ≡ node k c rest → i ≡ n → m ≡ suc i + count c → a ≡ around i → more ≡ so_far ++ edges (λ (j : ℕ). a) i (alone (k, c)) →
    newer.frames.items ≡ new.frames.items → newer.handlers.items ≡ new.handlers.items →
    Walked around bound whole so_far n left old new → Walked around bound whole more m rest old newer
walked_child around bound n i m whole so_far more k c left rest a old new newer e own next same added frames handlers w = record {
  all =
      ap (λ es. es ++ edges around m rest) (added ∙ ap (λ (x : Around). so_far ++ edges (λ (j : ℕ). x) i (alone (k, c))) same)
      ∙ append_assoc so_far (edges around i (alone (k, c))) (edges around m rest)
      ∙ ap (λ j. so_far ++ (edges around i (alone (k, c)) ++ edges around j rest)) next
      ∙ ap (λ es. so_far ++ es) (sym (edges_node around i k c rest))
      ∙ ap (λ j. so_far ++ edges around j (node k c rest)) own
      ∙ ap (λ f. so_far ++ edges around n f) (sym e) ∙ w.all;
  small = omega (arith, w.small, ap (λ f. weight f) e);
  frames = frames ∙ w.frames;
  handlers = handlers ∙ w.handlers;
}

pub walked_last : (around : ℕ → Around) (bound n : ℕ) (whole so_far : List Edge) (left : Forest) (old new : Stacks) →
    left ≡ none → Walked around bound whole so_far n left old new → so_far ≡ whole
walked_last around bound n whole so_far left old new e w = sym (append-nil so_far) ∙ ap (λ f. so_far ++ edges around n f) (sym e) ∙ w.all

-- ---- a node, and then its parts

-- what is around the parts of a node, by whether it is elsewhere and whether it is a `try`
abbrev inner_by : Bool → Bool → NodeKind → ℕ → Pieces → Around → ℕ → Around
inner_by b t k n ps a m = if b then nothing else (if t then in_part n ps a m else in_loop (loop_of (flow_of k) n ps) a)

pub elsewhere_is : (k : NodeKind) (n : ℕ) (ps : Pieces) (a : Around) → is_elsewhere k ≡ true → inside k n ps a ≡ (λ (m : ℕ). nothing)
elsewhere_is k n ps a e = ap (λ (b : Bool). inner_by b (is_try k) k n ps a) e

pub try_is : (k : NodeKind) (n : ℕ) (ps : Pieces) (a : Around) → is_elsewhere k ≡ false → is_try k ≡ true → inside k n ps a ≡ in_part n ps a
try_is k n ps a e t = ap (λ (b : Bool). inner_by b (is_try k) k n ps a) e ∙ ap (λ (b : Bool). inner_by false b k n ps a) t

pub loop_is : (k : NodeKind) (n : ℕ) (ps : Pieces) (a : Around) → is_elsewhere k ≡ false → is_try k ≡ false →
    inside k n ps a ≡ (λ (m : ℕ). in_loop (loop_of (flow_of k) n ps) a)
loop_is k n ps a e t = ap (λ (b : Bool). inner_by b (is_try k) k n ps a) e ∙ ap (λ (b : Bool). inner_by false b k n ps a) t

pub node_walked : (n m : ℕ) (k : NodeKind) (c : Forest) (a : Around) (inner : ℕ → Around) (e0 e1 e2 : List Edge) →
    e1 ≡ e0 ++ row k n c a → e2 ≡ e1 ++ edges inner m c → m ≡ suc n → inside k n (pieces (suc n) c) a ≡ inner →
    e2 ≡ e0 ++ edges (λ (j : ℕ). a) n (alone (k, c))
node_walked n m k c a inner e0 e1 e2 p q i same =
    q ∙ ap (λ es. es ++ edges inner m c) p ∙ append_assoc e0 (row k n c a) (edges inner m c)
    ∙ ap (λ j. e0 ++ (row k n c a ++ edges inner j c)) i
    ∙ ap (λ (f : ℕ → Around). e0 ++ (row k n c a ++ edges f (suc n) c)) (sym same)
    ∙ ap (λ es. e0 ++ es) (sym (append-nil (row k n c a ++ edges (inside k n (pieces (suc n) c) a) (suc n) c)))

-- what is around the parts of a `try`, by its parts
pub parts_same : (n : ℕ) (ps : Pieces) (body caught last : List ℕ) (a : Around) → body ≡ try_body ps → caught ≡ catches ps → last ≡ finally_of ps →
    in_part n ps a ≡ (λ (m : ℕ). in_parts n body caught last a m)
parts_same n ps body caught last a b c l =
    let around : List ℕ → List ℕ → List ℕ → ℕ → Around = λ xs ys zs m. in_parts n xs ys zs a m in
    ap (λ (xs : List ℕ). around xs (catches ps) (finally_of ps)) (sym b)
    ∙ ap (λ (ys : List ℕ). around body ys (finally_of ps)) (sym c)
    ∙ ap (λ (zs : List ℕ). around body caught zs) (sym l)
