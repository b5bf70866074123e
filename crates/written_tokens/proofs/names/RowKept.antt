-- No `${` and no comment that begins `#[` comes into a row once its names are edited.
use Rattle.std.proofs.Common.{◌≡◌, ℕ, Bool, not, ◌&&◌, List, [], ◌∷◌, refl, sym, ap, ◌∙◌}
use Rattle.php_spellings.specs.declared.table.Kind.{Kind}
use Rattle.php_relexing.specs.Tiles.{Tile, tile}
use Rattle.written_tokens.specs.names.Leads.{is_hash, none_hash}
use Rattle.written_tokens.specs.names.Named.{is_dollar_brace, none_dollar, all_tiles, NoneComeIn}
use Rattle.written_tokens.proofs.names.NamedKept.{named_keeps}

abbrev no_dollar : Kind → ℕ → List ℕ → Bool
no_dollar kind b a = not (is_dollar_brace kind)

abbrev no_hash : Kind → ℕ → List ℕ → Bool
no_hash kind b a = not (is_hash kind b a)

dollar_is : (ts : List Tile) → none_dollar ts ≡ all_tiles no_dollar ts
dollar_is [] = refl
dollar_is (tile kind b a ∷ ts) = ap (λ (x : Bool). not (is_dollar_brace kind) && x) (dollar_is ts)

hash_is : (ts : List Tile) → none_hash ts ≡ all_tiles no_hash ts
hash_is [] = refl
hash_is (tile kind b a ∷ ts) = ap (λ (x : Bool). not (is_hash kind b a) && x) (hash_is ts)

pub none_come_in : NoneComeIn
none_come_in gap ts us h = (
  λ d. dollar_is us ∙ named_keeps no_dollar gap ts us h refl (sym (dollar_is ts) ∙ d),
  λ d. hash_is us ∙ named_keeps no_hash gap ts us h refl (sym (hash_is ts) ∙ d),
)
