-- Files, one after another.
use Rattle.std.proofs.Common.{◌≡◌, ℕ, ◌+◌, ◌<◌, List, [], ◌∷◌, ◌++◌, length, map, take, drop, get_or, Option, None, Some, ap, sym, ◌∙◌, refl, arith}
use Rattle.std.specs.Prelude.{option_and_then}
use Rattle.std.specs.Option.{option_map}
use Rattle.std.proofs.lemmas.List.{take_more, take_all, take-append-drop, map-append}
use Rattle.serde_json.specs.Data.{Data, Items, no_items, item}
use Rattle.serde_json.specs.View.{items_of, items_view, view}
use Rattle.serde_json.specs.declared.value.Value.{Value}
use Rattle.job_core.specs.Work.{SourceText}
use Rattle.review_bodies.specs.Upload.{file_of, files_of}

-- some files, and then more
abbrev joined : Option (List SourceText) → Option (List SourceText) → Option (List SourceText)
joined fs gs = option_and_then (λ f. option_map (λ g. f ++ g) gs) fs

behind : (f : Option SourceText) (fs gs : Option (List SourceText))
    → option_and_then (λ x. option_map (λ xs. x ∷ xs) (joined fs gs)) f
    ≡ joined (option_and_then (λ x. option_map (λ xs. x ∷ xs) fs) f) gs
behind None fs gs = refl
behind (Some x) None gs = refl
behind (Some x) (Some xs) None = refl
behind (Some x) (Some xs) (Some ys) = refl

same_joined : (gs : Option (List SourceText)) → gs ≡ joined (Some []) gs
same_joined None = refl
same_joined (Some xs) = refl

files_append : (ds es : List Data) → files_of (items_of (ds ++ es)) ≡ joined (files_of (items_of ds)) (files_of (items_of es))
files_append [] es = same_joined (files_of (items_of es))
files_append (d ∷ ds) es =
    ap (λ r. option_and_then (λ x. option_map (λ xs. x ∷ xs) r) (file_of d)) (files_append ds es)
    ∙ behind (file_of d) (files_of (items_of ds)) (files_of (items_of es))

values_append : (vs ws : List Value) → files_of (items_view (vs ++ ws)) ≡ joined (files_of (items_view vs)) (files_of (items_view ws))
values_append vs ws = ap (λ ds. files_of (items_of ds)) (map-append view vs ws) ∙ files_append (map view vs) (map view ws)

one_file : (o : Option SourceText) (f : SourceText) → o ≡ Some f → option_and_then (λ x. option_map (λ xs. x ∷ xs) (Some [])) o ≡ Some (f ∷ [])
one_file o f e = ap (λ o. option_and_then (λ x. option_map (λ xs. x ∷ xs) (Some [])) o) e

-- one file more
pub files_more : (vs : List Value) (i : ℕ) (d : Value) (fs : List SourceText) (f : SourceText) → i < length vs
    → files_of (items_view (take i vs)) ≡ Some fs → file_of (view (get_or vs i d)) ≡ Some f
    → files_of (items_view (take (i + 1) vs)) ≡ Some (fs ++ f ∷ [])
files_more vs i d fs f h so_far e =
    ap (λ vs. files_of (items_view vs)) (take_more vs i d h) ∙ values_append (take i vs) (get_or vs i d ∷ [])
    ∙ ap (λ l. joined l (files_of (items_view (get_or vs i d ∷ [])))) so_far
    ∙ ap (λ r. joined (Some fs) r) (one_file (file_of (view (get_or vs i d))) f e)

none_joined : (fs gs : Option (List SourceText)) → gs ≡ None → joined fs gs ≡ None
none_joined None gs e = refl
none_joined (Some fs) gs e = ap (λ g. option_map (λ x. fs ++ x) g) e

-- a value that is no file
pub no_file : (vs : List Value) (i : ℕ) (d : Value) → i < length vs → file_of (view (get_or vs i d)) ≡ None
    → None ≡ files_of (items_view vs)
no_file vs i d h e =
    sym (ap (λ vs. files_of (items_view vs)) (sym (take-append-drop (i + 1) vs)) ∙ values_append (take (i + 1) vs) (drop (i + 1) vs)
    ∙ ap (λ r. joined r (files_of (items_view (drop (i + 1) vs)))) (ap (λ vs. files_of (items_view vs)) (take_more vs i d h)
    ∙ values_append (take i vs) (get_or vs i d ∷ [])
    ∙ none_joined (files_of (items_view (take i vs))) (files_of (items_view (get_or vs i d ∷ [])))
    (ap (λ o. option_and_then (λ x. option_map (λ xs. x ∷ xs) (Some [])) o) e)))

-- all of them
pub files_end : (vs : List Value) (n : ℕ) (fs : List SourceText) → n ≡ length vs → files_of (items_view (take n vs)) ≡ Some fs
    → Some fs ≡ files_of (items_view vs)
files_end vs n fs e so_far = sym (ap (λ vs. files_of (items_view vs)) (sym (take_all n vs (omega (arith, e)))) ∙ so_far)
