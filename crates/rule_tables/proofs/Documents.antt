-- Items of a document.
use Rattle.std.proofs.Common.{◌≡◌, ℕ, ◌+◌, ◌<◌, true, false, List, ◌∷◌, length, drop, get_or, Some, None, is_some, refl, sym, ap, ◌∙◌}
use Rattle.std.proofs.lemmas.Bool.{false≢true}
use Rattle.toml.specs.Data.{Data, string, integer, float, boolean, datetime, array, table, Items, item, as_str}
use Rattle.toml.specs.View.{view, items_view}
use Rattle.toml.specs.declared.value.Value.{Value}
use Rattle.toml.proofs.Views.{items_view-drop}
use Rattle.rule_tables.specs.KeyTable.{are_texts}
use Rattle.rule_tables.specs.SettingsView.{texts_of}

-- a text before other items
pub texts_of-text : (d : Data) (items : Items) (s : List ℕ) → as_str d ≡ Some s → texts_of (item d items) ≡ s ∷ texts_of items
texts_of-text (string t) items s h = let same : t ≡ s = cc in ap (λ u. u ∷ texts_of items) same
texts_of-text (integer z) items s h = absurd cc
texts_of-text (float x) items s h = absurd cc
texts_of-text (boolean b) items s h = absurd cc
texts_of-text (datetime t) items s h = absurd cc
texts_of-text (array ds) items s h = absurd cc
texts_of-text (table ms) items s h = absurd cc

-- another value before other items
pub texts_of-other : (d : Data) (items : Items) → as_str d ≡ None → texts_of (item d items) ≡ texts_of items
texts_of-other (string t) items h = absurd cc
texts_of-other (integer z) items h = refl
texts_of-other (float x) items h = refl
texts_of-other (boolean b) items h = refl
texts_of-other (datetime t) items h = refl
texts_of-other (array ds) items h = refl
texts_of-other (table ms) items h = refl

pub are_texts-text : (d : Data) (items : Items) → is_some (as_str d) ≡ true → are_texts (item d items) ≡ are_texts items
are_texts-text (string t) items h = refl
are_texts-text (integer z) items h = absurd (false≢true h)
are_texts-text (float x) items h = absurd (false≢true h)
are_texts-text (boolean b) items h = absurd (false≢true h)
are_texts-text (datetime t) items h = absurd (false≢true h)
are_texts-text (array ds) items h = absurd (false≢true h)
are_texts-text (table ms) items h = absurd (false≢true h)

pub are_texts-other : (d : Data) (items : Items) → is_some (as_str d) ≡ false → are_texts (item d items) ≡ false
are_texts-other (string t) items h = absurd (false≢true (sym h))
are_texts-other (integer z) items h = refl
are_texts-other (float x) items h = refl
are_texts-other (boolean b) items h = refl
are_texts-other (datetime t) items h = refl
are_texts-other (array ds) items h = refl
are_texts-other (table ms) items h = refl

-- the items from an index on begin with the one there
pub items-at : (vs : List Value) (i : ℕ) (v : Value) → i < length vs → v ≡ get_or vs i v → items_view (drop i vs) ≡ item (view v) (items_view (drop (i + 1) vs))
items-at vs i v h is = items_view-drop vs i v h ∙ ap (λ w. item (view w) (items_view (drop (i + 1) vs))) (sym is)
