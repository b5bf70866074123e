-- What a put does to the contents of paths, and what the order of a tree says of them.
use Rattle.std.proofs.Common.{◌≡◌, ◌≢◌, ℕ, Bool, true, false, List, [], ◌∷◌, ◌++◌, map, Some, refl, sym, ap, ◌∙◌, cond, nat_cmp, Less, Equal, Greater}
use Rattle.std.specs.declared.cmp.Ordering.{Ordering}
use Rattle.std.specs.Ordering.{match_ordering, is_eq, ordering_reverse}
use Rattle.std.specs.Str.{bytes_eq}
use Rattle.std.specs.Cmp.Lexicographic.{slice_cmp, bytes_decides, texts_ties, nat_list_cmp_total}
use Rattle.std.proofs.lemmas.Cmp.{tied_itself}
use Rattle.io_ports.specs.Files.{File, content, put_file, IsTree, AllBelow, KeepsOthers}

-- paths in byte order
abbrev pub path_cmp : List ℕ → List ℕ → Ordering
path_cmp = slice_cmp nat_cmp

same : (p : List ℕ) → bytes_eq p p ≡ true
same p = (bytes_decides p p).1 refl

-- two paths that compare equal are one
pub equal_is : (p q : List ℕ) → path_cmp p q ≡ Equal → p ≡ q
equal_is p q e = (bytes_decides p q).0 (texts_ties p q ∙ ap is_eq e)

differs : (p q : List ℕ) → (p ≢ q) → bytes_eq p q ≡ false
differs p q n = by (bytes_eq p q) refl
  where
    by : (b : Bool) → bytes_eq p q ≡ b → b ≡ false
    by true e = absurd (n ((bytes_decides p q).0 e))
    by false e = refl

pub less_differs : (p q : List ℕ) → path_cmp p q ≡ Less → bytes_eq p q ≡ false
less_differs p q e = texts_ties p q ∙ ap is_eq e

pub less_is : (p q : List ℕ) → path_cmp p q ≡ Less → path_cmp q p ≡ Greater
less_is p q e = nat_list_cmp_total.antisymm q p ∙ ap ordering_reverse e

pub greater_is : (p q : List ℕ) → path_cmp p q ≡ Greater → path_cmp q p ≡ Less
greater_is p q e = nat_list_cmp_total.antisymm q p ∙ ap ordering_reverse e

-- a put sets its file
pub put_sets : (path bytes : List ℕ) (files : List File) → content path (put_file path bytes files) ≡ Some bytes
put_sets path bytes [] = rw (same path) refl
put_sets path bytes (f ∷ fs) = by (path_cmp path f.0) refl (put_sets path bytes fs)
  where
    by : (o : Ordering) → path_cmp path f.0 ≡ o → content path (put_file path bytes fs) ≡ Some bytes
        → content path (match_ordering o ((path, bytes) ∷ f ∷ fs) ((f.0, bytes) ∷ fs) (f ∷ put_file path bytes fs)) ≡
        Some bytes
    by Less e r = rw (same path) refl
    by Equal e r =
        let is : bytes_eq f.0 path ≡ true = (bytes_decides f.0 path).1 (sym (equal_is path f.0 e)) in
        rw is refl
    by Greater e r =
        let other : bytes_eq f.0 path ≡ false = less_differs f.0 path (greater_is path f.0 e) in
        rw other r

-- and keeps all others
pub put_keeps : (path bytes : List ℕ) (files : List File) → KeepsOthers path files (put_file path bytes files)
put_keeps path bytes [] q n =
    let other : bytes_eq path q ≡ false = differs path q (λ e. n (sym e)) in
    rw other refl
put_keeps path bytes (f ∷ fs) q n = by (path_cmp path f.0) refl (put_keeps path bytes fs q n)
  where
    by : (o : Ordering) → path_cmp path f.0 ≡ o → content q (put_file path bytes fs) ≡ content q fs
        → content q (match_ordering o ((path, bytes) ∷ f ∷ fs) ((f.0, bytes) ∷ fs) (f ∷ put_file path bytes fs)) ≡
        content q (f ∷ fs)
    by Less e r =
        let other : bytes_eq path q ≡ false = differs path q (λ e. n (sym e)) in
        rw other refl
    by Equal e r =
        let other : bytes_eq f.0 q ≡ false = differs f.0 q (λ d. n (sym (equal_is path f.0 e ∙ d))) in
        rw other refl
    by Greater e r = ap (cond (bytes_eq f.0 q) (Some f.1)) r

-- a put above all paths of a part goes behind it
pub put_behind : (path bytes : List ℕ) (files more : List File) → AllBelow path (map (λ f. f.0) files) → put_file path bytes (files ++ more) ≡ files ++ put_file path bytes more
put_behind path bytes [] more h = refl
put_behind path bytes (f ∷ fs) more h =
    let behind : path_cmp path f.0 ≡ Greater = less_is f.0 path h.0 in
    rw behind (ap (λ rest. f ∷ rest) (put_behind path bytes fs more h.1))

-- a put of the first path
pub put_here : (bytes : List ℕ) (f : File) (files : List File) → put_file f.0 bytes (f ∷ files) ≡ (f.0, bytes) ∷ files
put_here bytes f files = rw (tied_itself nat_list_cmp_total f.0) refl

-- a put above all other paths of a tree is the last file
pub put_last : (path bytes : List ℕ) (files : List File) → AllBelow path (map (λ f. f.0) files) → put_file path bytes files ≡ files ++ (path, bytes) ∷ []
put_last path bytes [] h = refl
put_last path bytes (f ∷ fs) h =
    let behind : path_cmp path f.0 ≡ Greater = less_is f.0 path h.0 in
    rw behind (ap (λ rest. f ∷ rest) (put_last path bytes fs h.1))

-- a put keeps the order
pub put_is_tree : (path bytes : List ℕ) (files : List File) → IsTree files → IsTree (put_file path bytes files)
put_is_tree path bytes [] t = tt
put_is_tree path bytes (f ∷ []) t = by (path_cmp path f.0) refl
  where
    by : (o : Ordering) → path_cmp path f.0 ≡ o → IsTree (match_ordering o ((path, bytes) ∷ f ∷ []) ((f.0, bytes) ∷ []) (f ∷ (path, bytes) ∷ []))
    by Less e = (e, tt)
    by Equal e = tt
    by Greater e = (greater_is path f.0 e, tt)
put_is_tree path bytes (f ∷ g ∷ fs) t = by (path_cmp path f.0) refl (put_is_tree path bytes (g ∷ fs) t.1)
  where
    after : (o : Ordering) → path_cmp f.0 path ≡ Less → IsTree
        (match_ordering o ((path, bytes) ∷ g ∷ fs) ((g.0, bytes) ∷ fs) (g ∷ put_file path bytes fs))
        → IsTree (f ∷ match_ordering o ((path, bytes) ∷ g ∷ fs) ((g.0, bytes) ∷ fs) (g ∷ put_file path bytes fs))
    after Less b r = (b, r)
    after Equal b r = (t.0, r)
    after Greater b r = (t.0, r)

    by : (o : Ordering) → path_cmp path f.0 ≡ o → IsTree (put_file path bytes (g ∷ fs))
        → IsTree (match_ordering o ((path, bytes) ∷ f ∷ g ∷ fs) ((f.0, bytes) ∷ g ∷ fs)
        (f ∷ put_file path bytes (g ∷ fs)))
    by Less e r = (e, t)
    by Equal e r = t
    by Greater e r = after (path_cmp path g.0) (greater_is path f.0 e) r

-- the files behind the first are a tree
pub tree_rest : (f : File) (files : List File) → IsTree (f ∷ files) → IsTree files
tree_rest f [] t = tt
tree_rest f (g ∷ fs) t = t.1

-- the first path is below each later one
pub first_below : (g f : File) (fs gs : List File) → IsTree (g ∷ (fs ++ f ∷ gs)) → path_cmp g.0 f.0 ≡ Less
first_below g f [] gs t = t.0
first_below g f (h ∷ fs) gs t = nat_list_cmp_total.trans g.0 h.0 f.0 t.0 (first_below h f fs gs t.1)

-- the paths before a file of a tree are below its path
pub all_below : (f : File) (fs gs : List File) → IsTree (fs ++ f ∷ gs) → AllBelow f.0 (map (λ g. g.0) fs)
all_below f [] gs t = tt
all_below f (g ∷ fs) gs t = (first_below g f fs gs t, all_below f fs gs (tree_rest g (fs ++ f ∷ gs) t))

-- the content of a listed path is its file's
pub content_listed : (f : File) (fs gs : List File) → IsTree (fs ++ f ∷ gs) → content f.0 (fs ++ f ∷ gs) ≡ Some f.1
content_listed f [] gs t = rw (same f.0) refl
content_listed f (g ∷ fs) gs t =
    let other : bytes_eq g.0 f.0 ≡ false = less_differs g.0 f.0 (first_below g f fs gs t) in
    rw other (content_listed f fs gs (tree_rest g (fs ++ f ∷ gs) t))
