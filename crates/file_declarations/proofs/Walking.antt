-- The walk over the parts of a node, part by part.
use Rattle.std.proofs.Common.{
  ◌≡◌,
  ◌≤◌,
  ◌<◌,
  ℕ,
  suc,
  ◌+◌,
  ◌*◌,
  Bool,
  ◌&&◌,
  List,
  [],
  ◌∷◌,
  ◌++◌,
  Option,
  None,
  length,
  take,
  drop,
  refl,
  sym,
  ap,
  subst,
  ◌∙◌,
  append_assoc,
  append-nil,
  add-one,
  arith,
}
use Rattle.std.proofs.Math.Seq.{take-append_seam, drop-length}
use Rattle.std.specs.Prelude.{Vec}
use Rattle.std.specs.declared.alloc.Global.{Global}
use Rattle.php_tree.specs.declared.kind.NodeKind.{NodeKind}
use Rattle.php_tree.specs.declared.token.Token.{Token}
use Rattle.php_tree.specs.Tree.{Forest, none, leaf, node, count, alone}
use Rattle.php_rows.specs.Reading.{weight}
use Rattle.scope_names.specs.Form.{form}
use Rattle.node_names.specs.Facts.{keeps_top}
use Rattle.scope_names.specs.Sites.{Site, as_space, names_beside}
use Rattle.file_declarations.specs.declared.import.Import.{Import}
use Rattle.file_declarations.specs.declared.told.Told.{Told}
use Rattle.file_declarations.specs.Imported.{IsLonger}
use Rattle.file_declarations.specs.Spaces.{space_of_words}
use Rattle.file_declarations.specs.Standing.{site_at, space_or}
use Rattle.file_declarations.specs.Told.{told, told_at, scope_within}

-- what was told, and what is still to be told, make the whole
pub record Holds (path outer : List ℕ) (f : ℕ) (top : Bool) (before : List Import) (bound : ℕ) (whole : List Told)
    (so_far : List Told) (n : ℕ) (own : Option (Vec ℕ Global)) (from : ℕ) (is : List Import) (left : Forest) : Type 0 where
  pub all : so_far ++ told f n (site_at path (space_or outer own) from is) top left ≡ whole
  pub longer : IsLonger before is
  pub from_in : from ≤ length is
  pub small : weight left ≤ bound

-- a node alone, and then what follows it
pub told_node : (f n : ℕ) (s : Site) (top : Bool) (k : NodeKind) (c g : Forest) →
    told f n s top (node k c g) ≡ told f n s top (alone (k, c)) ++ told f (suc n + count c) (names_beside k (form c) s) top g
told_node f n s top k c g =
    ap (λ (ts : List Told). ts ++ told f (suc n + count c) (names_beside k (form c) s) top g) (sym (append-nil (told_at (record { file = f; node = n }) top k c s
    ++ told f (suc n) (scope_within k (form c) s) (keeps_top k && top) c)))

pub longer_more : (a b c : List Import) → IsLonger a b → IsLonger b c → IsLonger a c
longer_more a b c p q = (p.0 ++ q.0, q.1 ∙ ap (λ (is : List Import). is ++ q.0) p.1 ∙ append_assoc a p.0 q.0)

module _ (path outer : List ℕ) (f : ℕ) (top : Bool) (before : List Import) (bound : ℕ) (whole : List Told) where
  pub holds_leaf : (so_far : List Told) (n : ℕ) (own : Option (Vec ℕ Global)) (from : ℕ) (is : List Import) (left rest : Forest) (t : Token) →
      left ≡ leaf t rest → Holds path outer f top before bound whole so_far n own from is left → Holds path outer f top before bound whole so_far n own from is rest
  holds_leaf so_far n own from is left rest t e h = record {
    all = sym (ap (λ (g : Forest). so_far ++ told f n (site_at path (space_or outer own) from is) top g) e) ∙ h.all;
    longer = h.longer;
    from_in = h.from_in;
    small = omega (arith, h.small, ap (λ (g : Forest). weight g) e);
  }

  pub holds_child : (so_far so_new : List Told) (n m : ℕ) (own own_new : Option (Vec ℕ Global)) (from from_new : ℕ)
      (is is_new : List Import) (left rest : Forest) (k : NodeKind) (c : Forest) →
      left ≡ node k c rest → so_new ≡ so_far ++ told f n (site_at path (space_or outer own) from is) top (alone (k, c)) →
      m ≡ suc n + count c → IsLonger is is_new → from_new ≤ length is_new →
      site_at path (space_or outer own_new) from_new is_new ≡ names_beside k (form c) (site_at path (space_or outer own) from is) →
      Holds path outer f top before bound whole so_far n own from is left → Holds path outer f top before bound whole so_new m own_new from_new is_new rest
  holds_child so_far so_new n m own own_new from from_new is is_new left rest k c e told_is number longer within site h =
      let s = site_at path (space_or outer own) from is in
      record {
        all = ap (λ (ts : List Told). ts ++ told f m (site_at path (space_or outer own_new) from_new is_new) top rest) told_is
            ∙ append_assoc so_far (told f n s top (alone (k, c))) (told f m (site_at path (space_or outer own_new) from_new is_new) top rest)
            ∙ ap (λ (x : Site). so_far ++ (told f n s top (alone (k, c)) ++ told f m x top rest)) site
            ∙ ap (λ (i : ℕ). so_far ++ (told f n s top (alone (k, c)) ++ told f i (names_beside k (form c) s) top rest)) number
            ∙ ap (λ (ts : List Told). so_far ++ ts) (sym (told_node f n s top k c rest))
            ∙ sym (ap (λ (g : Forest). so_far ++ told f n s top g) e) ∙ h.all;
        longer = longer_more before is is_new h.longer longer;
        from_in = within;
        small = omega (arith, h.small, ap (λ (g : Forest). weight g) e);
      }

  pub holds_last : (so_far : List Told) (n : ℕ) (own : Option (Vec ℕ Global)) (from : ℕ) (is : List Import) (left : Forest) →
      left ≡ none → Holds path outer f top before bound whole so_far n own from is left → so_far ≡ whole
  holds_last so_far n own from is left e h =
      sym (append-nil so_far) ∙ sym (ap (λ (g : Forest). so_far ++ told f n (site_at path (space_or outer own) from is) top g) e) ∙ h.all

pub kept_front : (before is : List Import) (n : ℕ) → n ≡ length before → IsLonger before is → take n is ≡ before
kept_front before is n e l =
    ap (λ (k : ℕ). take k is) e ∙ ap (λ (xs : List Import). take (length before) xs) l.1 ∙ take-append_seam before l.0

pub holds_first : (path outer : List ℕ) (f : ℕ) (top : Bool) (so_far : List Told) (n from : ℕ) (is : List Import) (left : Forest) → from ≤ length is →
    Holds path outer f top is (weight left) (so_far ++ told f n (site_at path outer from is) top left) so_far n None from is left
holds_first path outer f top so_far n from is left w = record {
  all = refl;
  longer = ([], sym (append-nil is));
  from_in = w;
  small = omega arith;
}

-- what a node tells, and then what its parts do
pub node_told : (f n m : ℕ) (s inner : Site) (top own : Bool) (k : NodeKind) (c : Forest) (first second third : List Told) →
    second ≡ first ++ told_at (record { file = f; node = n }) top k c s → third ≡ second ++ told f m inner own c →
    m ≡ n + 1 → inner ≡ scope_within k (form c) s → own ≡ (keeps_top k && top) → third ≡ first ++ told f n s top (alone (k, c))
node_told f n m s inner top own k c first second third a b number site tops =
    let at = told_at (record { file = f; node = n }) top k c s in
    b ∙ ap (λ (ts : List Told). ts ++ told f m inner own c) a
    ∙ append_assoc first at (told f m inner own c)
    ∙ ap (λ (i : ℕ). first ++ (at ++ told f i inner own c)) (number ∙ add-one n)
    ∙ ap (λ (x : Site). first ++ (at ++ told f (suc n) x own c)) site
    ∙ ap (λ (t : Bool). first ++ (at ++ told f (suc n) (scope_within k (form c) s) t c)) tops
    ∙ ap (λ (ts : List Told). first ++ ts) (sym (append-nil (at ++ told f (suc n) (scope_within k (form c) s) (keeps_top k && top) c)))

-- the site in a namespace that begins here
pub space_site : (path space outer : List ℕ) (from : ℕ) (is : List Import) (ws : List (List ℕ)) → space ≡ space_of_words ws →
    site_at path space (length is) is ≡ as_space ws (site_at path outer from is)
space_site path space outer from is ws e =
    ap (λ (sp : List ℕ). site_at path sp (length is) is) e
    ∙ ap (λ (js : List Import). site_with path (space_of_words ws) js) (drop-length is)
  where
    site_with : List ℕ → List ℕ → List Import → Site
    site_with p sp js = site_at p sp 0 js
