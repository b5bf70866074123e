-- Names in uses are read as they were.
use Rattle.std.proofs.Common.{◌≡◌, ◌<◌, Bool, true, false, List, [], ◌∷◌, ◌++◌, length, ◌⊎◌, inl, inr, refl, sym, ap, ◌∙◌, subst}
use Rattle.php_tree.specs.declared.token.Token.{Token}
use Rattle.php_tree.specs.declared.version.Version.{Version}
use Rattle.php_tree.specs.declared.version.Version.TheVariants.{V74, V83}
use Rattle.php_tree.specs.Tree.{Forest, none, leaf, ◌+++◌, leaves}
use Rattle.php_terminals.specs.declared.terminal.Terminal.{Terminal}
use Rattle.php_terminals.specs.declared.terminal.Terminal.TheVariants as t
use Rattle.php_terminals.specs.Classify.{is_any_label, terminal}
use Rattle.php_terminals.specs.Ahead.{first_of, second_of}
use Rattle.php_forms.specs.declared.item.Group.{Group}
use Rattle.php_forms.specs.declared.item.Group.TheVariants as g
use Rattle.php_forms.specs.declared.item.Item.{Item}
use Rattle.php_forms.specs.declared.item.Item.TheVariants.{Word, Part, Repeats}
use Rattle.php_forms.specs.Declarations.{used_class, used_grouped}
use Rattle.php_forms.specs.Grammar.{Walks, ends, word as a_word, part, stop, repeat}
use Rattle.php_forms.specs.Names.{name_more, name_more_label, root_lead}
use Rattle.php_grammar.specs.Accepts.{accepts, same_class}
use Rattle.php_grammar.specs.Tables.{php}
use Rattle.php_shapes.specs.Names.{grouped_class, grouped_name, imported_class, imported_name, more_of_name}
use Rattle.php_shapes.specs.Notation.{word, ◌~◌, maybe}
use Rattle.php_shapes.specs.Shapes.{Fits, is_first, is_second, no_more, once_more}
use Rattle.php_shapes.proofs.ReadClasses.{accepted, could, for_all, pinned, whenever}
use Rattle.php_shapes.proofs.ReadFirst.{there}
use Rattle.php_shapes.proofs.ReadMatch.{both_is, false_true, nothing_is, word_is}
use Rattle.php_shapes.proofs.ReadBodies.{group_alone, has_token}

-- No further part of a name comes next.
abbrev pub NameEnds : List Token → Type 0
NameEnds us = name_more (first_of us) (second_of us) ≡ []

label_repeat : (c : Terminal) → is_any_label c ≡ true → name_more_label c ≡ Word t.Backslash ∷ Word t.AnyLabel ∷ []
label_repeat t.Label h = refl
label_repeat t.Match h = refl
label_repeat t.Readonly h = refl
label_repeat t.MixedOrNever h = refl
label_repeat c h = absurd (false_true h)

no_root : (c : Terminal) → is_any_label c ≡ true → root_lead c ≡ []
no_root t.Backslash h = absurd (false_true h)
no_root c h = refl

backslash_pinned : (v : Version) → for_all (λ c. whenever (could v t.Backslash c) (same_class t.Backslash c)) ≡ true
unfolding for_all
backslash_pinned V74 = refl
backslash_pinned V83 = refl

labels_are : (v : Version) → for_all (λ c. whenever (could v t.AnyLabel c) (is_any_label c)) ≡ true
unfolding for_all
labels_are V74 = refl
labels_are V83 = refl

a_label : (v : Version) (x : Token) → accepts v t.AnyLabel x ≡ true → is_any_label (terminal x) ≡ true
a_label v x a = there (could v t.AnyLabel) is_any_label (labels_are v) (terminal x) (accepted v t.AnyLabel x a)

-- further parts of a name
more_walks : (v : Version) (f : Forest) (us : List Token) → Fits v more_of_name f → NameEnds us → Walks (php v) (Repeats g.NameMore ∷ []) f us
more_walks v f us no_more e = stop e ends
more_walks v f us (once_more {g = a} {h = m} x y at) e =
    let p : (b : Forest) × (l : Forest) × Fits v (word t.Backslash) b × Fits v (word t.AnyLabel) l × (a ≡ b +++ l) = both_is v (word t.Backslash) (word t.AnyLabel) a x in
    let b : (z : Token) × (p.0 ≡ leaf z none) × (accepts v t.Backslash z ≡ true) = word_is v t.Backslash p.0 p.2 in
    let l : (z : Token) × (p.1 ≡ leaf z none) × (accepts v t.AnyLabel z ≡ true) = word_is v t.AnyLabel p.1 p.3 in
    let one : a ≡ leaf b.0 (leaf l.0 none) = p.4 ∙ ap (λ (i : Forest). i +++ p.1) b.1 ∙ ap (λ (i : Forest). leaf b.0 i) l.1 in
    let repeats : name_more (terminal b.0) (terminal l.0) ≡ Word t.Backslash ∷ Word t.AnyLabel
    ∷ [] = ap (λ (c : Terminal). name_more c (terminal l.0)) (pinned v t.Backslash b.0 (backslash_pinned v) b.2)
    ∙ label_repeat (terminal l.0) (a_label v l.0 l.2) in
    subst (λ (i : Forest). Walks (php v) (Repeats g.NameMore ∷ []) i us) (sym (at ∙ ap (λ (i : Forest). i +++ m) one))
    (repeat {h = leaf b.0 (leaf l.0 none)} {f = m} repeats (a_word b.2 (a_word l.2 ends))
    (subst (λ (i : Forest). 0 < length (leaves i)) one
    (has_token v (word t.Backslash ~ word t.AnyLabel) a x refl)) (more_walks v m us y e))

-- a label and further parts
label_walks : (v : Version) (f : Forest) (us : List Token) → Fits v (word t.AnyLabel ~ more_of_name) f → NameEnds us → Walks (php v) (Word t.AnyLabel ∷ Repeats g.NameMore ∷ []) f us
label_walks v f us x e =
    let p : (l : Forest) × (m : Forest) × Fits v (word t.AnyLabel) l × Fits v more_of_name m × (f ≡ l +++ m) = both_is v (word t.AnyLabel) more_of_name f x in
    let l : (z : Token) × (p.0 ≡ leaf z none) × (accepts v t.AnyLabel z ≡ true) = word_is v t.AnyLabel p.0 p.2 in
    subst (λ (i : Forest). Walks (php v) (Word t.AnyLabel ∷ Repeats g.NameMore ∷ []) i us) (sym (p.4 ∙ ap (λ (i : Forest). i +++ p.1) l.1)) (a_word l.2 (more_walks v p.1 us p.3 e))

label_starts : (v : Version) (f : Forest) (us : List Token) → Fits v (word t.AnyLabel ~ more_of_name) f → is_any_label (first_of (leaves f ++ us)) ≡ true
label_starts v f us x =
    let p : (l : Forest) × (m : Forest) × Fits v (word t.AnyLabel) l × Fits v more_of_name m × (f ≡ l +++ m) = both_is v (word t.AnyLabel) more_of_name f x in
    let l : (z : Token) × (p.0 ≡ leaf z none) × (accepts v t.AnyLabel z ≡ true) = word_is v t.AnyLabel p.0 p.2 in
    subst (λ (i : Forest). is_any_label (first_of (leaves i ++ us)) ≡ true) (sym (p.4 ∙ ap (λ (i : Forest). i +++ p.1) l.1)) (a_label v l.0 l.2)

abbrev root_items : List Item
root_items = Part g.RootLead ∷ Word t.AnyLabel ∷ Repeats g.NameMore ∷ []

root_by : (v : Version) (b m : Forest) (us : List Token) → Fits v (maybe (word t.Backslash)) b
    → Fits v (word t.AnyLabel ~ more_of_name) m → NameEnds us → Walks (php v) root_items (b +++ m) us
root_by v b m us (is_first x) y e =
    subst (λ (i : Forest). Walks (php v) root_items (i +++ m) us) (sym (nothing_is v b x))
    (part {h = none} {f = m} (subst (λ (is : List Item). Walks (php v) is none (leaves m ++ us))
    (sym (no_root (first_of (leaves m ++ us)) (label_starts v m us y))) ends) (label_walks v m us y e))
root_by v b m us (is_second x) y e =
    let q : (z : Token) × (b ≡ leaf z none) × (accepts v t.Backslash z ≡ true) = word_is v t.Backslash b x in
    subst (λ (i : Forest). Walks (php v) root_items (i +++ m) us) (sym q.1)
    (part {h = leaf q.0 none} {f = m} (subst (λ (c : Terminal). Walks (php v) (root_lead c) (leaf q.0 none)
    (leaves m ++ us)) (sym (pinned v t.Backslash q.0 (backslash_pinned v) q.2)) (a_word q.2 ends))
    (label_walks v m us y e))

-- the same behind a backslash or none
root_walks : (v : Version) (f : Forest) (us : List Token) → Fits v (maybe (word t.Backslash) ~ word t.AnyLabel ~ more_of_name) f → NameEnds us → Walks (php v) root_items f us
root_walks v f us x e =
    let p : (b : Forest) × (m : Forest) × Fits v (maybe (word t.Backslash)) b
    × Fits v (word t.AnyLabel ~ more_of_name) m × (f ≡ b +++ m) =
    both_is v (maybe (word t.Backslash)) (word t.AnyLabel ~ more_of_name) f x in
    subst (λ (i : Forest). Walks (php v) root_items i us) (sym p.4) (root_by v p.0 p.1 us p.2 p.3 e)

whole_walks : (v : Version) (w : Terminal) (f : Forest) (us : List Token) → Fits v (word w) f → Walks (php v) (Word w ∷ []) f us
whole_walks v w f us x =
    let q : (z : Token) × (f ≡ leaf z none) × (accepts v w z ≡ true) = word_is v w f x in
    subst (λ (i : Forest). Walks (php v) (Word w ∷ []) i us) (sym q.1) (a_word q.2 ends)

-- ---- the four kinds of names

pub imported_name_walks : (v : Version) (f : Forest) (us : List Token) → Fits v (imported_name v) f → NameEnds us → Walks (php v) (Part g.ImportedName ∷ []) f us
imported_name_walks V74 f us x e = group_alone V74 g.ImportedName f us (root_walks V74 f us x e)
imported_name_walks V83 f us x e = group_alone V83 g.ImportedName f us (whole_walks V83 t.ImportedName f us x)

pub imported_class_walks : (v : Version) (f : Forest) (us : List Token) → Fits v (imported_class v) f → NameEnds us → Walks (php v) (Part g.ImportedClass ∷ []) f us
imported_class_walks V74 f us x e = group_alone V74 g.ImportedClass f us (root_walks V74 f us x e)
imported_class_walks V83 f us x e = group_alone V83 g.ImportedClass f us (whole_walks V83 t.ImportedClass f us x)

pub grouped_name_walks : (v : Version) (f : Forest) (us : List Token) → Fits v (grouped_name v) f → NameEnds us → Walks (php v) (Part g.GroupedName ∷ []) f us
grouped_name_walks V74 f us x e = group_alone V74 g.GroupedName f us (label_walks V74 f us x e)
grouped_name_walks V83 f us x e = group_alone V83 g.GroupedName f us (whole_walks V83 t.GroupedName f us x)

pub grouped_class_walks : (v : Version) (f : Forest) (us : List Token) → Fits v (grouped_class v) f → NameEnds us → Walks (php v) (Part g.GroupedClass ∷ []) f us
grouped_class_walks V74 f us x e = group_alone V74 g.GroupedClass f us (label_walks V74 f us x e)
grouped_class_walks V83 f us x e = group_alone V83 g.GroupedClass f us (whole_walks V83 t.GroupedClass f us x)

-- ---- a name that is a class's, or one with an alias or before braces

-- what a name is no class's before
abbrev pub renames : Terminal → Bool
renames t.As = true
renames t.Backslash = true
renames _ = false

abbrev pub renames_grouped : Terminal → Bool
renames_grouped t.As = true
renames_grouped _ = false

used_of : (d : Terminal) → (used_class d ≡ Part g.ImportedName ∷ []) ⊎ (used_class d ≡ Part g.ImportedClass ∷ [])
used_of t.As = inl refl
used_of t.Backslash = inl refl
used_of d = inr refl

used_renamed : (d : Terminal) → renames d ≡ true → used_class d ≡ Part g.ImportedName ∷ []
used_renamed t.As h = refl
used_renamed t.Backslash h = refl
used_renamed d h = absurd (false_true h)

used_kept : (d : Terminal) → renames d ≡ false → used_class d ≡ Part g.ImportedClass ∷ []
used_kept t.As h = absurd (false_true (sym h))
used_kept t.Backslash h = absurd (false_true (sym h))
used_kept d h = refl

grouped_of : (d : Terminal) → (used_grouped d ≡ Part g.GroupedName ∷ []) ⊎ (used_grouped d ≡ Part g.GroupedClass ∷ [])
grouped_of t.As = inl refl
grouped_of d = inr refl

grouped_renamed : (d : Terminal) → renames_grouped d ≡ true → used_grouped d ≡ Part g.GroupedName ∷ []
grouped_renamed t.As h = refl
grouped_renamed d h = absurd (false_true h)

grouped_kept : (d : Terminal) → renames_grouped d ≡ false → used_grouped d ≡ Part g.GroupedClass ∷ []
grouped_kept t.As h = absurd (false_true (sym h))
grouped_kept d h = refl

-- what stands behind a name of one token
behind_word : (v : Version) (w : Terminal) (f : Forest) (us : List Token) → Fits v (word w) f → second_of (leaves f ++ us) ≡ first_of us
behind_word v w f us x = ap (λ (i : Forest). second_of (leaves i ++ us)) ((word_is v w f x).1)

chosen : (v : Version) (gr : Group) (is : List Item) (f : Forest) (us : List Token)
    → (php v).parts gr (leaves f ++ us) ≡ is → Walks (php v) is f us → Walks (php v) (Part gr ∷ []) f us
chosen v gr is f us e w = group_alone v gr f us (subst (λ (js : List Item). Walks (php v) js f us) (sym e) w)

-- a name with an alias, or before braces
pub renamed_walks : (v : Version) (f : Forest) (us : List Token) → Fits v (imported_name v) f
    → renames (first_of us) ≡ true → NameEnds us → Walks (php v) (Part g.UsedClass ∷ []) f us
renamed_walks V74 f us x h e = elim (used_of (second_of (leaves f ++ us))) [
  | inl o ↦ chosen V74 g.UsedClass (Part g.ImportedName ∷ []) f us o (imported_name_walks V74 f us x e)
  | inr o ↦ chosen V74 g.UsedClass (Part g.ImportedClass ∷ []) f us o (imported_class_walks V74 f us x e)
]
renamed_walks V83 f us x h e = chosen V83 g.UsedClass (Part g.ImportedName ∷ []) f us
    (ap used_class (behind_word V83 t.ImportedName f us x) ∙ used_renamed (first_of us) h)
    (imported_name_walks V83 f us x e)

-- a class's name
pub kept_walks : (v : Version) (f : Forest) (us : List Token) → Fits v (imported_class v) f
    → renames (first_of us) ≡ false → NameEnds us → Walks (php v) (Part g.UsedClass ∷ []) f us
kept_walks V74 f us x h e = elim (used_of (second_of (leaves f ++ us))) [
  | inl o ↦ chosen V74 g.UsedClass (Part g.ImportedName ∷ []) f us o (imported_name_walks V74 f us x e)
  | inr o ↦ chosen V74 g.UsedClass (Part g.ImportedClass ∷ []) f us o (imported_class_walks V74 f us x e)
]
kept_walks V83 f us x h e = chosen V83 g.UsedClass (Part g.ImportedClass ∷ []) f us
    (ap used_class (behind_word V83 t.ImportedClass f us x) ∙ used_kept (first_of us) h)
    (imported_class_walks V83 f us x e)

-- the same two in braces
pub grouped_renamed_walks : (v : Version) (f : Forest) (us : List Token) → Fits v (grouped_name v) f
    → renames_grouped (first_of us) ≡ true → NameEnds us → Walks (php v) (Part g.UsedGrouped ∷ []) f us
grouped_renamed_walks V74 f us x h e = elim (grouped_of (second_of (leaves f ++ us))) [
  | inl o ↦ chosen V74 g.UsedGrouped (Part g.GroupedName ∷ []) f us o (grouped_name_walks V74 f us x e)
  | inr o ↦ chosen V74 g.UsedGrouped (Part g.GroupedClass ∷ []) f us o (grouped_class_walks V74 f us x e)
]
grouped_renamed_walks V83 f us x h e = chosen V83 g.UsedGrouped (Part g.GroupedName ∷ []) f us
    (ap used_grouped (behind_word V83 t.GroupedName f us x) ∙ grouped_renamed (first_of us) h)
    (grouped_name_walks V83 f us x e)

pub grouped_kept_walks : (v : Version) (f : Forest) (us : List Token) → Fits v (grouped_class v) f
    → renames_grouped (first_of us) ≡ false → NameEnds us → Walks (php v) (Part g.UsedGrouped ∷ []) f us
grouped_kept_walks V74 f us x h e = elim (grouped_of (second_of (leaves f ++ us))) [
  | inl o ↦ chosen V74 g.UsedGrouped (Part g.GroupedName ∷ []) f us o (grouped_name_walks V74 f us x e)
  | inr o ↦ chosen V74 g.UsedGrouped (Part g.GroupedClass ∷ []) f us o (grouped_class_walks V74 f us x e)
]
grouped_kept_walks V83 f us x h e = chosen V83 g.UsedGrouped (Part g.GroupedClass ∷ []) f us
    (ap used_grouped (behind_word V83 t.GroupedClass f us x) ∙ grouped_kept (first_of us) h)
    (grouped_class_walks V83 f us x e)
