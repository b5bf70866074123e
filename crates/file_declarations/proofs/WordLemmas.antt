-- Words, names and paths, read from the front.
use Rattle.std.proofs.Common.{
  ◌≡◌,
  ◌≤◌,
  ◌==◌,
  ℕ,
  zero,
  suc,
  ◌+◌,
  ◌-◌,
  Bool,
  true,
  false,
  if◌then◌else◌,
  List,
  [],
  ◌∷◌,
  ◌++◌,
  length,
  take,
  refl,
  sym,
  ap,
  ◌∙◌,
  append_assoc,
  append-nil,
  add-one,
  Option,
  Some,
  None,
  arith,
}
use Rattle.std.proofs.Math.Seq.{take-append-add}
use Rattle.std.proofs.lemmas.List.{length-take-le}
use Rattle.scope_names.specs.Words.{last_part_from, between_ends, in_first, is_end, first_word, drop_first}
use Rattle.scope_names.specs.Imports.{Sort, Import, imports_behind, named, sort_by, without_sort}
use Rattle.std.specs.Borrow.{Bor}
use Rattle.node_names.specs.Seen.{texts_of}
use Rattle.node_names.specs.Facts.{folders_of, up, joined_path, parts_from}

-- ---- the last part of a name

-- what was read of the last part, and what is left, make the last part
pub record IsLast (last left whole : List ℕ) : Type 0 where
  pub part : List ℕ
  pub is : last ≡ part ++ left
  pub same : last_part_from part left ≡ whole

pub last_step : (last rest whole : List ℕ) (b : ℕ) → IsLast last (b ∷ rest) whole → IsLast (if b == 92 then rest else last) rest whole
last_step last rest whole b i =
    elim (b == 92) as (λ t. (last_part_from i.part (b ∷ rest) ≡
    (if t then last_part_from [] rest else last_part_from (i.part ++ b ∷ []) rest))
    → IsLast (if t then rest else last) rest whole) [
      | true ↦ λ e. record { part = []; is = refl; same = sym e ∙ i.same }
      | false ↦ λ e. record { part = i.part ++ b ∷ []; is = i.is ∙ sym (append_assoc i.part (b ∷ []) rest); same = sym e ∙ i.same }
    ] refl

-- ---- groups of words

-- words before others, in the first of some lists
abbrev pub group_before : List (List ℕ) → List (List (List ℕ)) → List (List (List ℕ))
group_before g [] = g ∷ []
group_before g (ws ∷ more) = (g ++ ws) ∷ more

in_first_none : (w : List ℕ) (xs : List (List (List ℕ))) → group_before [] (in_first w xs) ≡ in_first w xs
in_first_none w [] = refl
in_first_none w (x ∷ xs) = refl

-- no words before the groups
pub group_none : (ws : List (List ℕ)) → group_before [] (between_ends ws) ≡ between_ends ws
group_none [] = refl
group_none (w ∷ ws) = elim (is_end w) as (λ t. group_before []
    (if t then [] ∷ between_ends ws else in_first w (between_ends ws)) ≡
    (if t then [] ∷ between_ends ws else in_first w (between_ends ws))) [
      | true ↦ refl
      | false ↦ in_first_none w (between_ends ws)
    ]

-- a further word of a group
pub group_word : (g : List (List ℕ)) (w : List ℕ) (xs : List (List (List ℕ))) → group_before g (in_first w xs) ≡ group_before (g ++ w ∷ []) xs
group_word g w [] = refl
group_word g w (x ∷ xs) = ap (λ (ys : List (List ℕ)). ys ∷ xs) (sym (append_assoc g (w ∷ []) x))

-- the first of several groups
pub behind_cons : (s : Sort) (b : List ℕ) (g : List (List ℕ)) (xs : List (List (List ℕ))) →
    imports_behind s b (g ∷ xs) ≡ imports_behind s b (g ∷ []) ++ imports_behind s b xs
behind_cons s b g xs =
    ap (λ (is : List Import). is ++ imports_behind s b xs) (sym (append-nil (named (sort_by (first_word g) s) b (without_sort g))))

-- ---- the front of a text

pub front_step : (xs rest : List ℕ) (n b : ℕ) → xs ≡ take n xs ++ b ∷ rest → n ≤ length xs → take (n + 1) xs ≡ take n xs ++ b ∷ []
front_step xs rest n b e w =
    ap (λ (k : ℕ). take (k + 1) xs) (sym (length-take-le n xs w))
    ∙ ap (λ (zs : List ℕ). take (length (take n xs) + 1) zs) e
    ∙ take-append-add (take n xs) (b ∷ rest) 1

-- ---- paths

-- the parts that were cut off, what was read of the next one, and what is left make the parts of the whole
pub record Cutting (parts : List (List ℕ)) (start left : List ℕ) (whole : List (List ℕ)) : Type 0 where
  pub within : length left ≤ length start
  pub split_at : start ≡ take (length start - length left) start ++ left
  pub all : parts ++ parts_from (take (length start - length left) start) left ≡ whole

take_none : (xs : List ℕ) → take (length xs - length xs) xs ≡ []
take_none xs = ap (λ (n : ℕ). take n xs) (nothing (length xs - length xs) (omega arith)) ∙ take_zero xs
  where
    nothing : (n : ℕ) → n ≡ 0 → n ≡ 0
    nothing n e = e

    take_zero : (ys : List ℕ) → take 0 ys ≡ []
    take_zero [] = refl
    take_zero (y ∷ ys) = refl

pub cutting_first : (bytes : List ℕ) → Cutting [] bytes bytes (parts_from [] bytes)
cutting_first bytes = record {
  within = omega arith;
  split_at = sym (ap (λ (xs : List ℕ). xs ++ bytes) (take_none bytes));
  all = ap (λ (xs : List ℕ). parts_from xs bytes) (take_none bytes);
}

-- a part ends at a slash
pub cutting_slash : (parts : List (List ℕ)) (start left behind : List ℕ) (whole : List (List ℕ)) → left ≡ 47 ∷ behind → Cutting parts start left whole →
    Cutting (parts ++ take (length start - length left) start ∷ []) behind behind whole
cutting_slash parts start left behind whole e c = record {
  within = omega arith;
  split_at = sym (ap (λ (xs : List ℕ). xs ++ behind) (take_none behind));
  all = append_assoc parts (take (length start - length left) start ∷ []) (parts_from (take (length behind - length behind) behind) behind)
      ∙ ap (λ (xs : List ℕ). parts ++ take (length start - length left) start ∷ parts_from xs behind) (take_none behind)
      ∙ sym (ap (λ (xs : List ℕ). parts ++ parts_from (take (length start - length left) start) xs) e) ∙ c.all;
}

-- any other byte belongs to the part
pub cutting_other : (parts : List (List ℕ)) (start left behind : List ℕ) (b : ℕ) (whole : List (List ℕ)) → left ≡ b ∷ behind → (b == 47) ≡ false → Cutting parts start left whole →
    Cutting parts start behind whole
cutting_other parts start left behind b whole e n c = record {
  within = omega (arith, c.within, size);
  split_at = c.split_at ∙ ap (λ (xs : List ℕ). take (length start - length left) start ++ xs) e
      ∙ sym (append_assoc (take (length start - length left) start) (b ∷ []) behind)
      ∙ ap (λ (xs : List ℕ). xs ++ behind) (sym more);
  all = ap (λ (xs : List ℕ). parts ++ parts_from xs behind) more
      ∙ sym (ap (λ (t : Bool). parts ++ (if t then take (length start - length left) start
      ∷ parts_from [] behind else parts_from (take (length start - length left) start ++ b ∷ []) behind)) n)
      ∙ sym (ap (λ (xs : List ℕ). parts ++ parts_from (take (length start - length left) start) xs) e) ∙ c.all;
}
  where
    size : length left ≡ length behind + 1
    size = ap (λ (xs : List ℕ). length xs) e ∙ sym (add-one (length behind))

    more : take (length start - length behind) start ≡ take (length start - length left) start ++ b ∷ []
    more = ap (λ (k : ℕ). take k start) (next (length start - length behind) (length start - length left) (omega (arith, c.within, size)))
        ∙ front_step start behind (length start - length left) b (c.split_at ∙ ap (λ (xs : List ℕ). take (length start - length left) start ++ xs) e) (omega arith)
      where
        next : (m k : ℕ) → m ≡ k + 1 → m ≡ k + 1
        next m k h = h

pub cutting_last : (parts : List (List ℕ)) (start left : List ℕ) (whole : List (List ℕ)) → left ≡ [] → Cutting parts start left whole →
    parts ++ take (length start - length left) start ∷ [] ≡ whole
cutting_last parts start left whole e c = sym (ap (λ (xs : List ℕ). parts ++ parts_from (take (length start - length left) start) xs) e) ∙ c.all

pub folders_push : (ps : List (List ℕ)) (p : List ℕ) → folders_of (ps ++ p ∷ []) ≡ ps
folders_push [] p = refl
folders_push (q ∷ []) p = refl
folders_push (q ∷ r ∷ ps) p = ap (λ (xs : List (List ℕ)). q ∷ xs) (folders_push (r ∷ ps) p)

up_push : (ps : List (List ℕ)) (p : List ℕ) → up (ps ++ p ∷ []) ≡ Some ps
up_push [] p = refl
up_push (q ∷ ps) p = ap (λ (xs : List (List ℕ)). Some xs) (folders_push (q ∷ ps) p)

pub up_texts : (ws : List (Bor (List ℕ))) (w : Bor (List ℕ)) → up (texts_of (ws ++ w ∷ [])) ≡ Some (texts_of ws)
up_texts ws w = ap (λ (ps : List (List ℕ)). up ps) (texts_push ws w) ∙ up_push (texts_of ws) w.now
  where
    texts_push : (vs : List (Bor (List ℕ))) (v : Bor (List ℕ)) → texts_of (vs ++ v ∷ []) ≡ texts_of vs ++ v.now ∷ []
    texts_push [] v = refl
    texts_push (u ∷ vs) v = ap (λ (ps : List (List ℕ)). u.now ∷ ps) (texts_push vs v)

pub up_none : (ws : List (Bor (List ℕ))) → length ws ≡ 0 → up (texts_of ws) ≡ None
up_none [] e = refl
up_none (w ∷ ws) e = absurd (omega (arith, e))

-- all parts but the last one
folders_front : (ps : List (List ℕ)) → folders_of ps ≡ take (length ps - 1) ps
folders_front [] = refl
folders_front (p ∷ []) = refl
folders_front (p ∷ q ∷ ps) =
    ap (λ (xs : List (List ℕ)). p ∷ xs) (folders_front (q ∷ ps))
    ∙ ap (λ (n : ℕ). take n (p ∷ q ∷ ps)) (less (length (q ∷ ps) - 1) (length (p ∷ q ∷ ps) - 1) (omega arith))
  where
    less : (m n : ℕ) → suc m ≡ n → suc m ≡ n
    less m n e = e

take_texts : (n : ℕ) (ws : List (Bor (List ℕ))) → take n (texts_of ws) ≡ texts_of (take n ws)
take_texts zero [] = refl
take_texts zero (w ∷ ws) = refl
take_texts (suc n) [] = refl
take_texts (suc n) (w ∷ ws) = ap (λ (ps : List (List ℕ)). w.now ∷ ps) (take_texts n ws)

texts_length : (ws : List (Bor (List ℕ))) → length (texts_of ws) ≡ length ws
texts_length [] = refl
texts_length (w ∷ ws) = omega (arith, texts_length ws)

pub folders_take : (ws : List (Bor (List ℕ))) → texts_of (take (length ws - 1) ws) ≡ folders_of (texts_of ws)
folders_take ws =
    sym (take_texts (length ws - 1) ws) ∙ ap (λ (n : ℕ). take (n - 1) (texts_of ws)) (sym (texts_length ws)) ∙ sym (folders_front (texts_of ws))

-- parts of a path, each behind a slash
abbrev pub joined_tail : List (List ℕ) → List ℕ
joined_tail [] = []
joined_tail (p ∷ ps) = 47 ∷ p ++ joined_tail ps

joined_cons : (p : List ℕ) (ps : List (List ℕ)) → joined_path (p ∷ ps) ≡ p ++ joined_tail ps
joined_cons p [] = sym (append-nil p)
joined_cons p (q ∷ ps) = ap (λ (bs : List ℕ). p ++ 47 ∷ bs) (joined_cons q ps)

-- the first part, and then the others
pub joined_is : (ps : List (List ℕ)) → joined_path ps ≡ first_word ps ++ joined_tail (drop_first ps)
joined_is [] = refl
joined_is (p ∷ ps) = joined_cons p ps
