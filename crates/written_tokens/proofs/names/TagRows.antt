-- Trivia of inline HTML begin with a tag.
use Rattle.std.proofs.Common.{◌≡◌, ℕ, suc, Bool, true, false, List, ◌∷◌, ◌++◌, length, refl}
use Rattle.php_tree.specs.declared.version.Version.TheVariants.{V74}
use Rattle.php_spellings.specs.declared.table.Kind.{Kind}
use Rattle.php_spellings.specs.declared.table.Kind.TheVariants.{Space, Comment, Tag}
use Rattle.php_lexer.specs.Modes.{html, IsLongest}
use Rattle.php_relexing.specs.Tiles.{joined}
use Rattle.php_relexing.proofs.Picked.{longest_meets}
use Rattle.written_tokens.proofs.tokens.Kept.{opened}
use Rattle.written_tokens.specs.tiles.ContinuesAs.{is_trivia}
use Rattle.written_tokens.specs.names.Leads.{is_tag, TagsLead}

abbrev is_blank_kind : Kind → Bool
is_blank_kind Space = true
is_blank_kind Comment = true
is_blank_kind _ = false

tag_by : (kind : Kind) (b : ℕ) (a r : List ℕ) → is_trivia kind ≡ true → IsLongest V74 html (b ∷ a ++ r) kind (suc (length a)) → is_tag kind ≡ true
tag_by Tag b a r t h = refl
tag_by Space b a r t h = absurd (let no = longest_meets is_blank_kind V74 html (b ∷ a) r Space refl h in cc)
tag_by Comment b a r t h = absurd (let no = longest_meets is_blank_kind V74 html (b ∷ a) r Comment refl h in cc)
tag_by _ b a r t h = absurd cc

pub tags_lead : TagsLead
tags_lead below depth kind b a ts t h = tag_by kind b a (joined ts) t (opened h).0
