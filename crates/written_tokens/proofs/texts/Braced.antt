-- No `${` stands in a written text.
use Rattle.std.proofs.Common.{◌≡◌, ℕ, Bool, true, false, ◌||◌, List, [], ◌∷◌, ◌++◌, refl}
use Rattle.std.proofs.lemmas.Bool.{or_parts, or_from}
use Rattle.php_spellings.specs.declared.table.Kind.TheVariants.{Op}
use Rattle.php_relexing.specs.Tiles.{Tile, tile}
use Rattle.written_tokens.specs.texts.TextRows.{
  TextRow,
  quote_end,
  piece,
  escaped_piece,
  variable,
  with_offset,
  with_property,
  curly,
  dollar_name,
  dollar_row,
  is_dollar_brace,
  has_dollar_brace,
  has_inside,
  TextsAreBraced,
}

none_joined : (xs : List Tile) (c : ℕ) (us : List Tile) → has_dollar_brace xs ≡ false → has_dollar_brace us ≡ false → has_dollar_brace (xs ++ tile Op c [] ∷ us) ≡ false
none_joined [] c us h k = k
none_joined (tile kind b a ∷ xs) c us h k =
    let (here, more) = or_parts (is_dollar_brace kind) (has_dollar_brace xs) h in
    or_from (is_dollar_brace kind) (has_dollar_brace (xs ++ tile Op c [] ∷ us)) here (none_joined xs c us more k)

braced : {ts us : List Tile} (row : TextRow ts us) → has_inside row ≡ false → has_dollar_brace us ≡ false
braced (quote_end b a) h = refl
braced (piece b a e row) h = braced row h
braced (escaped_piece b c a e k l m row) h = braced row h
braced (variable b a row) h = braced row h
braced (with_offset {ts} {us} b a ks key row) h =
    let (here, more) = or_parts (has_dollar_brace ks) (has_inside row) h in
    none_joined ks 93 us here (braced row more)
braced (with_property b a c e row) h = braced row h
braced (curly {ts} {us} needs stops xs ys d become row) h =
    let (here, more) = or_parts (has_dollar_brace ys) (has_inside row) h in
    none_joined ys 125 us here (braced row more)
braced (dollar_name {ts} {us} needs stops b a xs ys become row) h =
    let (here, more) = or_parts (has_dollar_brace ys) (has_inside row) h in
    none_joined ys 125 us here (braced row more)
braced (dollar_row {ts} {us} needs stops xs ys d become row) h =
    let (here, more) = or_parts (has_dollar_brace ys) (has_inside row) h in
    none_joined ys 125 (tile Op 125 [] ∷ us) here (braced row more)

pub texts_are_braced : TextsAreBraced
texts_are_braced ts us row h = braced row h
