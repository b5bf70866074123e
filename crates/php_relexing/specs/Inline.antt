-- Inline HTML and opening tags before other bytes.
use Rattle.std.specs.Prelude.{◌≡◌, ℕ, Bool, false, true, ◌&&◌, nat_eq, List, [], ◌∷◌, ◌++◌, length}
use Rattle.php_tree.specs.declared.version.Version.{Version}
use Rattle.php_spellings.specs.declared.table.Kind.TheVariants.{Tag, OpenEcho, InlineHtml}
use Rattle.php_spellings.specs.Bytes.{begins_by}
use Rattle.php_lexer.specs.Tails.{begins_tag}
use Rattle.php_lexer.specs.Modes.{html, IsLongest}

-- whether a text ends in a carriage return
abbrev pub ends_return : List ℕ → Bool
ends_return [] = false
ends_return (b ∷ []) = nat_eq b 13
ends_return (b ∷ c ∷ bs) = ends_return (c ∷ bs)

-- A tag with white space stays where no line end goes on behind it; one without is at the end of the bytes.
abbrev pub TagsStay : Type 0
TagsStay =
    (v w : Version) (a r s : List ℕ) →
    (ends_return a && begins_by 10 s) ≡ false →
    (r ≡ [] → s ≡ []) →
    IsLongest v html (a ++ r) Tag (length a) →
    IsLongest w html (a ++ s) Tag (length a)

-- Inline HTML stays before an opening tag, and `<?=` stays.
pub record HtmlStays : Type 0 where
  pub inline : (v w : Version) (a r s : List ℕ) → begins_tag s ≡ true → IsLongest v html (a ++ 60 ∷ r) InlineHtml (length a) → IsLongest w html (a ++ 60 ∷ s) InlineHtml (length a)
  pub echo : (v : Version) (s : List ℕ) → IsLongest v html (60 ∷ 63 ∷ 61 ∷ s) OpenEcho 3
