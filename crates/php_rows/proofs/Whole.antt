-- Whole files as rows.
use Rattle.std.proofs.Common.{
  ◌≡◌,
  ◌≢◌,
  ℕ,
  zero,
  suc,
  ◌+◌,
  ◌-◌,
  ◌<◌,
  ◌≤◌,
  true,
  List,
  [],
  ◌∷◌,
  ◌++◌,
  Option,
  Some,
  None,
  inl,
  inr,
  length,
  map,
  take,
  drop,
  slice_range,
  slice_get,
  slice_index_or,
  refl,
  sym,
  ap,
  subst,
  ◌∙◌,
  append_assoc,
  arith,
}
use Rattle.std.proofs.lemmas.List.{length-append, length-map, length-drop, length-take-le, take-append-drop, take_at, take_all, append-nil, drop_more, get_or-drop}
use Rattle.std.proofs.lemmas.Option.{slice_get_past}
use Rattle.std.proofs.Math.Seq.{take-append_seam, drop-append_seam, get_or-append_seam}
use Rattle.php_tree.specs.declared.kind.NodeKind.{NodeKind}
use Rattle.php_tree.specs.declared.token.Token.{Token}
use Rattle.php_tree.specs.Tree.{Forest, File, Tree, none, leaf, node, leaves, count, depth}
use Rattle.php_tree.specs.Ids.{preorder, places, place_of, first_or, first_of, stop_or}
use Rattle.php_tree.specs.Places.{ArePlaced}
use Rattle.php_tree.proofs.Placed.{ends_at, placed-front, placed-back, placed_between}
use Rattle.php_tree.proofs.Preorder.{length-preorder, length-places}
use Rattle.php_terminals.specs.declared.mark.Mark.{Mark}
use Rattle.php_terminals.specs.Marked.{IsMark, token_at}
use Rattle.php_rows.specs.declared.flat.Flat.{Flat}
use Rattle.php_rows.specs.declared.row.Row.{Row}
use Rattle.php_rows.specs.File.{nowhere}
use Rattle.php_rows.specs.Flatten.{fits, flatten, tokens, read}
use Rattle.php_rows.specs.Rows.{IsWhole}
use Rattle.php_rows.proofs.Flattened.{length_flatten}
use Rattle.php_rows.proofs.Fitting.{fits_flatten, fits_enough, count_read, in_order}
use Rattle.php_rows.proofs.Found.{FoundAt, found, inner_of, first_or-append}
use Rattle.std.proofs.lemmas.List.Folds.{drop_split}
use Rattle.std.proofs.lemmas.Bool.{cases_lt}
use Rattle.php_rows.proofs.RowReads.{read_enough, range_step, range_none}
use Rattle.php_rows.proofs.Roundtrip.{read_flatten}
use Rattle.php_rows.proofs.TokensRead.{index_token, index_any, token_read}

-- ---- as it is made

long : (ts : List Token) (f : Forest) (last : Token) → ts ≡ leaves f ++ last ∷ [] → length ts ≡ suc (tokens f)
long ts f last e = ap length e ∙ length-append (leaves f) (last ∷ []) ∙ omega arith

pub whole_fits : (ts : List Token) (row : Row) (n : ℕ) (f : Forest) (last : Token) → IsWhole ts row n f last
    → fits (length row.nodes.items) 0 (length ts - 1) row.nodes.items ≡ true
whole_fits ts row n f last w =
    let l = long ts f last w.text in
    let e : length ts - 1 ≡ 0 + tokens f = omega arith in
    let c = length_flatten 0 f in
    rw (w.nodes, e) (fits_flatten (length (flatten 0 f)) 0 f (omega arith))

pub whole_reads : (ts : List Token) (row : Row) (n : ℕ) (f : Forest) (last : Token) → IsWhole ts row n f last
    → read (length row.nodes.items) 0 (length ts - 1) row.nodes.items ts ≡ f
whole_reads ts row n f last w =
    let l = long ts f last w.text in
    let e : length ts - 1 ≡ 0 + tokens f = omega arith in
    let c = length_flatten 0 f in
    let text : take (tokens f) (drop 0 ts) ≡ leaves f = ap (take (tokens f)) w.text ∙ take-append_seam (leaves f) (last ∷ []) in
    rw (w.nodes, e) (read_flatten (length (flatten 0 f)) 0 f ts (omega arith) text)

pub whole_ends : (bytes : List ℕ) (ms : List Mark) (row : Row) (n : ℕ) (f : Forest) (last : Token)
    → IsWhole (map (token_at bytes) ms) row n f last → token_at bytes (slice_index_or ms (length ms - 1) nowhere) ≡
    last
whole_ends bytes ms row n f last w =
    let l = long (map (token_at bytes) ms) f last w.text in
    let m = length-map ms (token_at bytes) in
    let at : length ms - 1 ≡ length (leaves f) = omega arith in
    sym (index_token bytes ms (length ms - 1) nowhere (omega arith))
    ∙ ap (λ (k : ℕ). slice_index_or (map (token_at bytes) ms) k (token_at bytes nowhere)) at
    ∙ ap (λ (us : List Token). slice_index_or us (length (leaves f)) (token_at bytes nowhere)) w.text
    ∙ get_or-append_seam (leaves f) last [] (token_at bytes nowhere)

pub whole_some : (ts : List Token) (row : Row) (n : ℕ) (f : Forest) (last : Token) → IsWhole ts row n f last → 0 < length ts
whole_some ts row n f last w = let l = long ts f last w.text in omega arith

-- the same of the nodes that were taken out of the row
pub whole_all : (bytes : List ℕ) (ms : List Mark) (row : Row) (ns : List Flat) (n : ℕ) (f : Forest) (last : Token)
    → ns ≡ row.nodes.items → IsWhole (map (token_at bytes) ms) row n f last
    → (fits (length ns) 0 (length ms - 1) ns ≡ true) × (read (length ns) 0 (length ms - 1) ns (map (token_at bytes) ms) ≡ f)
whole_all bytes ms row ns n f last e w =
    let ts = map (token_at bytes) ms in
    let m : length ts ≡ length ms = length-map ms (token_at bytes) in
    rw (e, sym m) (whole_fits ts row n f last w, whole_reads ts row n f last w)

abbrev file : Forest → Token → File
file f t = record { statements = f; end = t }

pub same_file : (f g : Forest) (s t : Token) → f ≡ g → s ≡ t → file f s ≡ file g t
same_file f g s t p q = ap (λ (h : Forest). file h s) p ∙ ap (λ (u : Token). file g u) q

-- ---- a node by its number

abbrev cons : Flat → List Flat → List Flat
cons x xs = x ∷ xs

-- the node and those behind it
at_is : (ns xs : List Flat) (id : ℕ) (x d : Flat) → drop id ns ≡ x ∷ xs → (id < length ns) × (x ≡ slice_index_or ns id d) × (xs ≡ drop (suc id) ns)
at_is [] xs zero x d e = absurd (nil_cons x xs e)
  where
    nil_cons : (x : Flat) (a : List Flat) → [] ≡ x ∷ a → ⊥
    nil_cons x a e = cc
at_is [] xs (suc id) x d e = absurd (nil_cons x xs e)
  where
    nil_cons : (x : Flat) (a : List Flat) → [] ≡ x ∷ a → ⊥
    nil_cons x a e = cc
at_is (n ∷ ns) xs zero x d e =
    let e2 : cons n ns ≡ cons x xs = e in
    (omega arith, cc, cc)
at_is (n ∷ ns) xs (suc id) x d e = let r = at_is ns xs id x d e in let lt = r.0 in (omega arith, r.1, r.2)

pub record NodeFound (ns xs : List Flat) (end : ℕ) (ts : List Token) (next : Token) (id : ℕ) (x : Flat) : Type 0 where
  pub few : x.size - 1 ≤ length xs
  pub nested : fits (x.size - 1) x.first x.end (take (x.size - 1) xs) ≡ true
  pub late : x.end ≤ end
  pub numbers : suc id + (x.size - 1) ≤ length ns
  pub node : slice_get (preorder (read (length ns) 0 end ns ts)) id ≡ Some (x.kind, read (x.size - 1) x.first x.end (take (x.size - 1) xs) ts)
  pub place : slice_get (places (read (length ns) 0 end ns ts) next) id ≡ Some (place_of (slice_range ts x.first x.end) (first_or (slice_range ts x.end end) next))

pub node_found : (ns xs : List Flat) (end : ℕ) (ts : List Token) (next : Token) (id : ℕ) (x : Flat)
    → fits (length ns) 0 end ns ≡ true → drop id ns ≡ x ∷ xs → NodeFound ns xs end ts next id x
node_found ns xs end ts next id x h e =
    let a = at_is ns xs id x x e in
    let o = found (length ns) 0 end ns ts next id x x h (omega arith) a.0 a.1 in
    let w = o.within in
    let few = o.few in
    let l = length-drop (suc id) ns in
    let lx = ap length a.2 in
    let inner : inner_of id x ns ≡ take (x.size - 1) xs = ap (take (x.size - 1)) (sym a.2) in
    let short : length (take (x.size - 1) xs) ≡ x.size - 1 = ap length (sym inner) ∙ few in
    record {
      few = omega arith;
      nested = fits_enough (x.size - 1) (length ns) x.first x.end (take (x.size - 1) xs) (omega arith) (omega arith)
          ∙ subst (λ (us : List Flat). fits (length ns) x.first x.end us ≡ true) inner o.nested;
      late = o.late;
      numbers = w;
      node = o.node ∙ ap (λ (us : List Flat). Some (x.kind, read (length ns) x.first x.end us ts)) inner
          ∙ ap (λ (g : Forest). Some (x.kind, g)) (read_enough (length ns) (x.size - 1) x.first x.end (take (x.size - 1) xs) ts (omega arith) (omega arith));
      place = o.place;
    }

pub no_node : (ns : List Flat) (end : ℕ) (ts : List Token) (id : ℕ) → fits (length ns) 0 end ns ≡ true
    → length ns ≤ id → slice_get (preorder (read (length ns) 0 end ns ts)) id ≡ None
no_node ns end ts id h le =
    let a = length-preorder (read (length ns) 0 end ns ts) in
    let b = count_read (length ns) 0 end ns ts h in
    slice_get_past (preorder (read (length ns) 0 end ns ts)) id (omega arith)

pub no_place : (ns : List Flat) (end : ℕ) (ts : List Token) (next : Token) (id : ℕ) → fits (length ns) 0 end ns ≡ true
    → length ns ≤ id → slice_get (places (read (length ns) 0 end ns ts) next) id ≡ None
no_place ns end ts next id h le =
    let a = length-places (read (length ns) 0 end ns ts) next in
    let b = count_read (length ns) 0 end ns ts h in
    slice_get_past (places (read (length ns) 0 end ns ts) next) id (omega arith)

-- ---- places

pub length_range : (bs : List ℕ) (a b : ℕ) → b ≤ length bs → length (slice_range bs a b) ≡ b - a
length_range bs a b le = let l = length-drop a bs in length-take-le (b - a) (drop a bs) (omega arith)

pub lead_length : (bytes : List ℕ) (m : Mark) → IsMark bytes m → length (token_at bytes m).lead ≡ m.start - m.lead
lead_length bytes m i =
    let b = i.behind in
    let w = i.within in
    length_range bytes m.lead m.start (omega arith)

pub placed_range : (ts us : List Token) (first end : ℕ) (next : Token) → ArePlaced 0 ts → first ≤ end
    → end < length ts → us ≡ slice_range ts first end → next ≡ slice_index_or ts end next
    → (at : ℕ) × ArePlaced at (us ++ next ∷ [])
placed_range ts us first end next p le lt e n =
    let behind : drop end ts ≡ next ∷ drop (end + 1) ts = drop_more ts end next lt ∙ ap (λ (t : Token). t ∷ drop (end + 1) ts) (sym n) in
    let whole : ts ≡ take first ts ++ (us ++ next ∷ drop (end + 1) ts) =
    sym (take-append-drop first ts) ∙ ap (λ (vs : List Token). take first ts ++ vs)
    (drop_split ts first end le ∙ ap (λ (vs : List Token). vs ++ drop end ts) (sym e)
    ∙ ap (λ (vs : List Token). us ++ vs) behind) in
    let late = placed-back 0 (take first ts) (us ++ next ∷ drop (end + 1) ts) (subst (λ (vs : List Token). ArePlaced 0 vs) whole p) in
    let split : us ++ next ∷ drop (end + 1) ts ≡ (us ++ next ∷ []) ++ drop (end + 1) ts = sym (append_assoc us (next ∷ []) (drop (end + 1) ts)) in (
      ends_at 0 (take first ts),
      placed-front (ends_at 0 (take first ts)) (us ++ next ∷ []) (drop (end + 1) ts)
          (subst (λ (vs : List Token). ArePlaced (ends_at 0 (take first ts)) vs) split late),
    )

-- some tokens, and the one behind them
pub place_is : (bytes : List ℕ) (ms : List Mark) (first end : ℕ) (m n d : Mark) → first < end → end < length ms → IsMark bytes n → ArePlaced 0 (map (token_at bytes) ms)
    → m ≡ slice_index_or ms first d → n ≡ slice_index_or ms end d
    → (m.start ≤ n.lead) × (place_of (slice_range (map (token_at bytes) ms) first end) (token_at bytes n) ≡ (m.start, n.lead))
place_is bytes ms first end m n d lt within i p em en =
    let ts = map (token_at bytes) ms in
    let l = length-map ms (token_at bytes) in
    let us = slice_range ts first end in
    let at_end : token_at bytes n ≡ slice_index_or ts end (token_at bytes n) = token_read bytes ms end n d within en in
    let at_first : token_at bytes m ≡ slice_index_or ts first (token_at bytes m) = token_read bytes ms first m d (omega arith) em in
    let q = placed_range ts us first end (token_at bytes n) p (omega arith) (omega arith) refl at_end in
    let some : first_of us ≡ Some (token_at bytes m) = ap first_of
    (range_step first end ts (token_at bytes m) lt (omega arith))
    ∙ ap (λ (t : Token). some_token t) (sym at_first) in
    let r = placed_between q.0 us (token_at bytes m) (token_at bytes n) q.1 some in
    let lead = lead_length bytes n i in
    let order = i.order in
    let fits = r.0 in
    let stop : n.start - length (token_at bytes n).lead ≡ n.lead = omega arith in
    (omega arith, r.1 ∙ ap (λ (k : ℕ). (m.start, k)) stop)
  where
    some_token : Token → Option Token
    some_token t = Some t

pub same_length : (b c : List ℕ) (ms ns : List Mark) → map (token_at b) ms ≡ map (token_at c) ns → length ms ≡ length ns
same_length b c ms ns e = sym (length-map ms (token_at b)) ∙ ap length e ∙ length-map ns (token_at c)

pub node_ordered : (n at end : ℕ) (ns : List Flat) → fits n at end ns ≡ true → at ≤ end
node_ordered n at end ns h = in_order n at end ns h

-- the token that follows a node, among those up to the end of the file
pub followed : (bytes : List ℕ) (ms : List Mark) (k : ℕ) (d : Token) → 0 < length ms → k ≤ length ms - 1
    → first_or (slice_range (map (token_at bytes) ms) k (length ms - 1)) (token_at bytes (slice_index_or ms (length ms - 1) nowhere)) ≡ slice_index_or (map (token_at bytes) ms) k d
followed bytes ms k d has le =
    let ts = map (token_at bytes) ms in
    let l = length-map ms (token_at bytes) in
    elim (cases_lt k (length ms - 1)) [
      | inl lt ↦ ap (λ (us : List Token). first_or us (token_at bytes (slice_index_or ms (length ms - 1) nowhere))) (range_step k (length ms - 1) ts d lt (omega arith))
      | inr ge ↦ ap (λ (us : List Token). first_or us (token_at bytes (slice_index_or ms (length ms - 1) nowhere))) (range_none k (length ms - 1) ts ge)
          ∙ sym (index_token bytes ms (length ms - 1) nowhere (omega arith))
          ∙ index_any ts (length ms - 1) (token_at bytes nowhere) d (omega arith)
          ∙ ap (λ (i : ℕ). slice_index_or ts i d) (omega arith)
    ]
