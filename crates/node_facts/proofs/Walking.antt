-- The walk over the parts of a node, part by part.
use Rattle.std.proofs.Common.{
  ◌≡◌,
  ◌≤◌,
  ℕ,
  zero,
  ◌+◌,
  Bool,
  true,
  false,
  List,
  [],
  ◌∷◌,
  ◌++◌,
  Option,
  None,
  length,
  drop,
  refl,
  sym,
  ap,
  subst,
  ◌∙◌,
  append_assoc,
  append-nil,
  arith,
}
use Rattle.std.specs.Prelude.{Vec}
use Rattle.std.specs.declared.alloc.Global.{Global}
use Rattle.php_tree.specs.declared.kind.NodeKind.{NodeKind}
use Rattle.php_tree.specs.declared.token.Token.{Token}
use Rattle.php_tree.specs.Tree.{Forest, none, leaf, node, alone}
use Rattle.php_rows.specs.Reading.{weight}
use Rattle.scope_names.specs.Form.{Form, form}
use Rattle.scope_names.specs.Sites.{Site, names_beside, names_within, declarations, is_declaration, one_if}
use Rattle.node_names.specs.Slots.{Standing, stands_within, stands_beside, closures, is_closure}
use Rattle.file_declarations.specs.declared.import.Import.{Import}
use Rattle.file_declarations.specs.Imported.{IsLonger, last_first}
use Rattle.file_declarations.specs.Standing.{site_at as slim_at, space_or}
use Rattle.node_facts.specs.declared.counts.Counts.{Counts}
use Rattle.node_facts.specs.declared.facts.FileFacts.{FileFacts}
use Rattle.node_facts.specs.declared.opened.Opened.{Opened}
use Rattle.node_facts.specs.declared.spot.Spot.{Spot}
use Rattle.node_facts.specs.Named.{Named, named, named_at}
use Rattle.node_facts.specs.Dispatch.{asks_form, form_if, named_by}
use Rattle.node_facts.specs.Opened.{names_in}
use Rattle.node_facts.specs.Past.{past, entered}
use Rattle.node_facts.specs.Flat.{facts_in}
use Rattle.node_facts.specs.Standing.{standing_among, standing_at, site_with, stands_by, closure_by}
use Rattle.node_facts.proofs.KindRows.{beside_named, closure_is, named_is, with_names}

-- ---- numbers

abbrev pub counts_of : ℕ → ℕ → Counts
counts_of n m = record { number = n; next = m }

counts_eq : (a b x y : ℕ) → a ≡ b → x ≡ y → counts_of a x ≡ counts_of b y
counts_eq a b x y e h = ap (λ (n : ℕ). counts_of n x) e ∙ ap (λ (m : ℕ). counts_of b m) h

-- a node, and then what follows it
pub past_node : (k : NodeKind) (c g : Forest) (n : Counts) → past (node k c g) n ≡ past g (past (alone (k, c)) n)
past_node k c g n =
    counts_eq (one_if (is_declaration k) (declarations c) + declarations g + n.number) (declarations g + (one_if (is_declaration k) (declarations c) + zero + n.number))
    (one_if (is_closure k) (closures c) + closures g + n.next) (closures g + (one_if (is_closure k) (closures c) + zero + n.next))
    (omega arith) (omega arith)

one_more : (b : Bool) (n m : ℕ) → n + one_if b m ≡ one_if b n + zero + m
one_more true n m = omega arith
one_more false n m = omega arith

-- a node's parts, counted from inside it
pub past_inner : (k : NodeKind) (c : Forest) (n : Counts) → past c (entered k n) ≡ past (alone (k, c)) n
past_inner k c n =
    counts_eq (declarations c + one_if (is_declaration k) n.number) (one_if (is_declaration k) (declarations c) + zero + n.number)
    (closures c + one_if (is_closure k) n.next) (one_if (is_closure k) (closures c) + zero + n.next)
    (one_more (is_declaration k) (declarations c) n.number) (one_more (is_closure k) (closures c) n.next)

pub past_none : (n : Counts) → past none n ≡ n
past_none n = counts_eq (zero + n.number) n.number (zero + n.next) n.next (omega arith) (omega arith)

-- ---- where code stands

-- a site with a number, a closure around and the number of the next one
abbrev pub standing_from : Site → ℕ → Option ℕ → ℕ → Standing
standing_from s n closure next = record { site = record s { number = n }; closure = closure; next = next }

add_zero : (a b : ℕ) → a + zero + b ≡ a + b
add_zero a b = omega arith

-- behind a node
pub stands_behind : (spot : Spot) (own own_new : Option (Vec ℕ Global)) (from from_new : ℕ) (is is_new : List Import) (n : Counts) (k : NodeKind) (c : Forest) →
    slim_at spot.path.now (space_or spot.space.now own_new) from_new is_new ≡ names_beside k (form c) (slim_at spot.path.now (space_or spot.space.now own) from is) →
    standing_among spot own_new from_new is_new (past (alone (k, c)) n) ≡ stands_beside k c (standing_among spot own from is n)
stands_behind spot own own_new from from_new is is_new n k c e =
    let s = (standing_among spot own from is n).site in
    let t = slim_at spot.path.now (space_or spot.space.now own) from is in
    let number = one_if (is_declaration k) (declarations c) + n.number in
    let next = one_if (is_closure k) (closures c) + n.next in
    ap (λ (m : ℕ). standing_from (with_names s (space_or spot.space.now own_new) (last_first (drop from_new is_new)))
    m spot.closure (one_if (is_closure k) (closures c) + zero + n.next))
    (add_zero (one_if (is_declaration k) (declarations c)) n.number)
    ∙ ap (λ (m : ℕ). standing_from (with_names s (space_or spot.space.now own_new) (last_first (drop from_new is_new))) number spot.closure m)
    (add_zero (one_if (is_closure k) (closures c)) n.next)
    ∙ ap (λ (x : Site). standing_from (with_names s x.space x.imports) number spot.closure next) e
    ∙ ap (λ (x : Site). standing_from x number spot.closure next) (sym (beside_named k (form c) s t refl refl))

-- inside a node
pub stands_inside : (o : Opened) (k : NodeKind) (c : Forest) (p : Standing) → names_in o p.site ≡ names_within k (form c) p.site → stands_by o k p ≡ stands_within k c p
stands_inside o k c p e =
    ap (λ (s : Site). standing_from s (one_if (is_declaration k) p.site.number) (closure_by k p.closure p.next) (one_if (is_closure k) p.next)) e
    ∙ ap (λ (m : Option ℕ). standing_from (names_within k (form c) p.site) (one_if (is_declaration k) p.site.number) m (one_if (is_closure k) p.next)) (sym (closure_is k p))

-- ---- what nodes tell

-- a node alone, and then what follows it
pub named_node : (p : Standing) (k : NodeKind) (c g : Forest) → named p (node k c g) ≡ named p (alone (k, c)) ++ named (stands_beside k c p) g
named_node p k c g = ap (λ (xs : List Named). xs ++ named (stands_beside k c p) g) (sym (append-nil (named_at k c p ∷ named (stands_within k c p) c)))

-- what a node tells, and then what its parts do
pub node_named : (first second third : List Named) (p q : Standing) (k : NodeKind) (c : Forest) →
    second ≡ first ++ named_at k c p ∷ [] → third ≡ second ++ named q c → q ≡ stands_within k c p → third ≡ first ++ named p (alone (k, c))
node_named first second third p q k c a b e =
    b ∙ ap (λ (xs : List Named). xs ++ named q c) a
    ∙ append_assoc first (named_at k c p ∷ []) (named q c)
    ∙ ap (λ (x : Standing). first ++ (named_at k c p ∷ named x c)) e
    ∙ ap (λ (xs : List Named). first ++ xs) (sym (append-nil (named_at k c p ∷ named (stands_within k c p) c)))

-- ---- the walk

-- what was told, and what is still to be told, make the whole
pub record Holds (spot : Spot) (before : List Import) (bound : ℕ) (whole : List Named) (numbers : Counts)
    (so_far : List Named) (own : Option (Vec ℕ Global)) (from : ℕ) (is : List Import) (n : Counts) (left : Forest) : Type 0 where
  pub all : so_far ++ named (standing_among spot own from is n) left ≡ whole
  pub longer : IsLonger before is
  pub from_in : from ≤ length is
  pub counted : past left n ≡ numbers
  pub small : weight left ≤ bound

longer_more : (a b c : List Import) → IsLonger a b → IsLonger b c → IsLonger a c
longer_more a b c p q = (p.0 ++ q.0, q.1 ∙ ap (λ (is : List Import). is ++ q.0) p.1 ∙ append_assoc a p.0 q.0)

module _ (spot : Spot) (before : List Import) (bound : ℕ) (whole : List Named) (numbers : Counts) where
  pub holds_leaf : (so_far : List Named) (own : Option (Vec ℕ Global)) (from : ℕ) (is : List Import) (n : Counts) (left rest : Forest) (t : Token) →
      left ≡ leaf t rest → Holds spot before bound whole numbers so_far own from is n left → Holds spot before bound whole numbers so_far own from is n rest
  holds_leaf so_far own from is n left rest t e h = record {
    all = sym (ap (λ (g : Forest). so_far ++ named (standing_among spot own from is n) g) e) ∙ h.all;
    longer = h.longer;
    from_in = h.from_in;
    counted = sym (ap (λ (g : Forest). past g n) e) ∙ h.counted;
    small = omega (arith, h.small, ap (λ (g : Forest). weight g) e);
  }

  pub holds_child : (so_far so_new : List Named) (own own_new : Option (Vec ℕ Global)) (from from_new : ℕ)
      (is is_new : List Import) (n n_new : Counts) (left rest : Forest) (k : NodeKind) (c : Forest) →
      left ≡ node k c rest → so_new ≡ so_far ++ named (standing_among spot own from is n) (alone (k, c)) → n_new ≡ past (alone (k, c)) n →
      IsLonger is is_new → from_new ≤ length is_new →
      slim_at spot.path.now (space_or spot.space.now own_new) from_new is_new ≡ names_beside k (form c) (slim_at spot.path.now (space_or spot.space.now own) from is) →
      Holds spot before bound whole numbers so_far own from is n left → Holds spot before bound whole numbers so_new own_new from_new is_new n_new rest
  holds_child so_far so_new own own_new from from_new is is_new n n_new left rest k c e told count longer within site h =
      let p = standing_among spot own from is n in
      record {
        all = ap (λ (xs : List Named). xs ++ named (standing_among spot own_new from_new is_new n_new) rest) told
            ∙ append_assoc so_far (named p (alone (k, c))) (named (standing_among spot own_new from_new is_new n_new) rest)
            ∙ ap (λ (m : Counts). so_far ++ (named p (alone (k, c)) ++ named (standing_among spot own_new from_new is_new m) rest)) count
            ∙ ap (λ (x : Standing). so_far ++ (named p (alone (k, c)) ++ named x rest)) (stands_behind spot own own_new from from_new is is_new n k c site)
            ∙ ap (λ (xs : List Named). so_far ++ xs) (sym (named_node p k c rest))
            ∙ sym (ap (λ (g : Forest). so_far ++ named p g) e) ∙ h.all;
        longer = longer_more before is is_new h.longer longer;
        from_in = within;
        counted = ap (λ (m : Counts). past rest m) count ∙ sym (past_node k c rest n) ∙ sym (ap (λ (g : Forest). past g n) e) ∙ h.counted;
        small = omega (arith, h.small, ap (λ (g : Forest). weight g) e);
      }

  pub holds_last : (so_far : List Named) (own : Option (Vec ℕ Global)) (from : ℕ) (is : List Import) (n : Counts) (left : Forest) →
      left ≡ none → Holds spot before bound whole numbers so_far own from is n left → so_far ≡ whole
  holds_last so_far own from is n left e h =
      sym (append-nil so_far) ∙ sym (ap (λ (g : Forest). so_far ++ named (standing_among spot own from is n) g) e) ∙ h.all

  pub counted_last : (so_far : List Named) (own : Option (Vec ℕ Global)) (from : ℕ) (is : List Import) (n : Counts) (left : Forest) →
      left ≡ none → Holds spot before bound whole numbers so_far own from is n left → n ≡ numbers
  counted_last so_far own from is n left e h = sym (past_none n) ∙ sym (ap (λ (g : Forest). past g n) e) ∙ h.counted

pub holds_first : (spot : Spot) (so_far : List Named) (from : ℕ) (is : List Import) (n : Counts) (left : Forest) → spot.from ≡ from → from ≤ length is →
    Holds spot is (weight left) (so_far ++ named (standing_at spot is n) left) (past left n) so_far None from is n left
holds_first spot so_far from is n left e w = record {
  all = ap (λ (m : ℕ). so_far ++ named (standing_among spot None m is n) left) (sym e);
  longer = ([], sym (append-nil is));
  from_in = w;
  counted = refl;
  small = omega arith;
}

-- the spot among the parts, where the namespace is this one
abbrev pub standing_in : Spot → List ℕ → ℕ → List Import → Counts → Standing
standing_in s space from is n = record {
  site = record (site_with s (last_first (drop from is)) n.number) { space = space };
  closure = s.closure;
  next = n.next;
}

pub among_is : (s : Spot) (own : Option (Vec ℕ Global)) (space : List ℕ) (from : ℕ) (is : List Import) (n : Counts) → space ≡ space_or s.space.now own →
    standing_in s space from is n ≡ standing_among s own from is n
among_is s own space from is n e = ap (λ (sp : List ℕ). standing_in s sp from is n) e

-- one more node's fact
pub told_added : (path scene_path : List ℕ) (old new : FileFacts) (k : NodeKind) (fm : Form) (c : Forest) (p q : Standing) →
    scene_path ≡ path → facts_in scene_path new ≡ facts_in scene_path old ++ named_by k fm c q ∷ [] → fm ≡ form_if (asks_form k) (form c) → q ≡ p →
    facts_in path new ≡ facts_in path old ++ named_at k c p ∷ []
told_added path scene_path old new k fm c p q place h fe qe =
    subst (λ (s : List ℕ). facts_in s new ≡ facts_in s old ++ named_by k fm c q ∷ []) place h
    ∙ ap (λ (n : Named). facts_in path old ++ n ∷ []) (
    ap (λ (f : Form). named_by k f c q) fe
    ∙ ap (λ (s : Standing). named_by k (form_if (asks_form k) (form c)) c s) qe
    ∙ named_is k c p)

-- what a node tells, and then what its parts do, in one file
pub node_step : (path inner_path : List ℕ) (xs ys zs : FileFacts) (p q : Standing) (k : NodeKind) (c : Forest) → inner_path ≡ path →
    facts_in path ys ≡ facts_in path xs ++ named_at k c p ∷ [] → facts_in inner_path zs ≡ facts_in inner_path ys ++ named q c →
    q ≡ stands_within k c p → facts_in path zs ≡ facts_in path xs ++ named p (alone (k, c))
node_step path inner_path xs ys zs p q k c e a b h =
    node_named (facts_in path xs) (facts_in path ys) (facts_in path zs) p q k c a
    (subst (λ (s : List ℕ). facts_in s zs ≡ facts_in s ys ++ named q c) e b) h
