-- The row with spaces before names and no trivia inside.
use Rattle.std.proofs.Common.{◌≡◌, ℕ, suc, Bool, true, false, cond, ◌&&◌, ◌||◌, nat_eq, List, [], ◌∷◌, ◌++◌, length, map, Option, Some, None, codes, refl, sym, ap, ◌∙◌, subst}
use Rattle.std.specs.Str.{bytes_eq}
use Rattle.std.proofs.lemmas.Bool.{and_parts, eqb-true}
use Rattle.php_tree.specs.declared.version.Version.TheVariants.{V74}
use Rattle.php_tree.specs.declared.token.TokenKind.{TokenKind}
use Rattle.php_tree.specs.declared.token.TokenKind.TheVariants as token
use Rattle.php_spellings.specs.declared.table.Kind.{Kind}
use Rattle.php_spellings.specs.declared.table.Kind.TheVariants.{Space, Word, Label, Keyword, Op}
use Rattle.php_spellings.specs.Bytes.{begins_by}
use Rattle.php_spellings.specs.Words.{token_of}
use Rattle.php_lexer.specs.Modes.{Mode, code, IsLongest}
use Rattle.php_lexer.specs.Lexed.{Lexeme}
use Rattle.php_relexing.specs.Tiles.{Tile, tile, joined}
use Rattle.php_relexing.specs.Spelled.{spelled}
use Rattle.php_relexing.proofs.Picked.{longest_meets}
use Rattle.tracked_changes.specs.Pieces.{changed, before, after}
use Rattle.tracked_changes.specs.Draft.{NewToken}
use Rattle.syntax_rules.specs.SplitName as names
use Rattle.written_tokens.specs.tokens.Whole.{is_label_kind, is_name_kind, is_keyword_kind, is_op_kind, is_namespace, is_backslash}
use Rattle.written_tokens.specs.tokens.Written.{new_lexeme}
use Rattle.written_tokens.specs.tokens.Drafted.{all_whole, joins}
use Rattle.written_tokens.specs.tokens.Parted.{bare, parted, may_be_part, SamePart}
use Rattle.written_tokens.specs.tokens.Spaced.{space_put, spaces_put}
use Rattle.written_tokens.specs.tiles.ContinuesAs.{is_trivia}
use Rattle.written_tokens.specs.tiles.Edits.{all_trivia}
use Rattle.written_tokens.proofs.tiles.Behind.{keyword_first}
use Rattle.written_tokens.specs.names.Named.{all_blank, Named, none, same, spaced, closed, rooted}
use Rattle.written_tokens.proofs.names.FrontRows.{trivia_spelled, token_spelled}
use Rattle.written_tokens.proofs.names.NamedModes.{mode_ok}
use Rattle.written_tokens.proofs.names.NameTiles.{is_wordy, wordy_kind, op_kind, no_name, wordy_first, not_space_word}
use Rattle.written_tokens.proofs.names.NamesJoined.{after_append, deleted_none, Known, wants, given}

-- ---- kinds of parts

label_is : (k : TokenKind) → names.is_label k ≡ is_label_kind k
label_is token.Label = refl
label_is _ = refl

name_is : (k : TokenKind) → names.is_name k ≡ is_name_kind k
name_is token.Name = refl
name_is _ = refl

keyword_is : (k : TokenKind) → names.is_keyword k ≡ is_keyword_kind k
keyword_is token.Keyword = refl
keyword_is _ = refl

wordy_by : (l k n : Bool) → (l || (k && n)) ≡ true → (l || k) ≡ true
wordy_by true k n h = refl
wordy_by false true n h = refl
wordy_by false false n h = absurd cc

abbrev pub Wordy : NewToken → Type 0
Wordy u = (names.is_label u.kind || names.is_namespace u) ≡ true

wordy_token : (u : NewToken) → Wordy u → (is_label_kind u.kind || is_keyword_kind u.kind) ≡ true
wordy_token u h =
    rw (sym (label_is u.kind), sym (keyword_is u.kind)) (wordy_by (names.is_label u.kind) (names.is_keyword u.kind) _ h)

may_be : (k : TokenKind) → (is_label_kind k || is_keyword_kind k) ≡ true → may_be_part k ≡ true
may_be token.Label h = refl
may_be token.Keyword h = refl
may_be _ h = absurd cc

-- how the text of a word begins
front_of : (u : NewToken) → SamePart u → (is_label_kind u.kind || is_keyword_kind u.kind) ≡ true → names.begins_root (before u.text) ≡ begins_by 92 (after u.text)
front_of u part h = part.front (may_be u.kind h)

-- a token of the draft by its tile
pub record Placed (u : NewToken) (m : Mode) (kind : Kind) (b : ℕ) (a r : List ℕ) : Type 0 where
  pub ok : mode_ok m ≡ true
  pub longest : IsLongest V74 m (b ∷ a ++ r) kind (suc (length a))
  pub is : token_of kind (b ∷ a) ≡ Some u.kind
  pub text : b ∷ a ≡ after u.text
  pub part : SamePart u

module _ (u : NewToken) (m : Mode) (kind : Kind) (b : ℕ) (a r : List ℕ) (p : Placed u m kind b a r) where
  pub wordy_tile : Wordy u → is_wordy kind ≡ true
  wordy_tile h = wordy_kind kind (b ∷ a) u.kind p.is (wordy_token u h)

  plain_front : Wordy u → names.begins_root (before u.text) ≡ false
  plain_front h =
      front_of u p.part (wordy_token u h)
      ∙ ap (begins_by 92) (sym p.text)
      ∙ wordy_first m kind b a r p.ok (wordy_tile h) p.longest

  pub known_of : Known u
  known_of = record { no_name = name_is u.kind ∙ no_name m kind b a r u.kind p.is p.longest; plain = plain_front }

  -- the operator `\`
  one_byte : (x : ℕ) (y : List ℕ) → bytes_eq (x ∷ y) (codes "\\") ≡ true → (x ≡ 92) × (y ≡ [])
  one_byte x [] h = (eqb-true x 92 (and_parts (nat_eq x 92) true h).0, refl)
  one_byte x (z ∷ y) h = absurd (let clash = (and_parts (nat_eq x 92) false h).1 in cc)

  pub root_tile : names.is_backslash u ≡ true → tile kind b a ≡ tile Op 92 []
  root_tile h =
      let there : is_backslash u.kind (after u.text) ≡ true = sym p.part.backslash ∙ h in
      let (op, text) = and_parts (is_op_kind u.kind) (bytes_eq (after u.text) (codes "\\")) there in
      let bytes = one_byte b a (subst (λ (x : List ℕ). bytes_eq x (codes "\\") ≡ true) (sym p.text) text) in
      ap (λ (k : Kind). tile k b a) (op_kind kind (b ∷ a) u.kind p.is op)
      ∙ ap (λ (x : ℕ). tile Op x a) bytes.0
      ∙ ap (λ (x : List ℕ). tile Op 92 x) bytes.1

abbrev is_label_tile : Kind → Bool
is_label_tile Label = true
is_label_tile _ = false

namespace_by : (x y : Bool) → x ≡ true → cond x y false ≡ true → y ≡ true
namespace_by true y e h = h
namespace_by false y e h = absurd cc

keyword_not : (u : NewToken) (l : Bool) → names.is_label u.kind ≡ l → Some u.kind ≡ Some token.Keyword → (l || names.is_namespace u) ≡ true → names.is_namespace u ≡ true
keyword_not u true e k h =
    let same : u.kind ≡ token.Keyword = ap kind_in k in
    absurd (let clash : names.is_label token.Keyword ≡ true = subst (λ (j : TokenKind). names.is_label j ≡ true) same e in cc)
  where
    kind_in : Option TokenKind → TokenKind
    kind_in None = token.End
    kind_in (Some j) = j
keyword_not u false e k h = h

-- a word of code behind `\`
pub word_tile : (u : NewToken) (kind : Kind) (b : ℕ) (a r : List ℕ) → Placed u code kind b a r → Wordy u → is_wordy kind ≡ true → kind ≡ Word
word_tile u Word b a r p h e = refl
word_tile u Label b a r p h e = absurd (let clash = longest_meets is_label_tile V74 code (b ∷ a) r Label refl p.longest in cc)
word_tile u Keyword b a r p h e =
    let space = keyword_not u (names.is_label u.kind) refl (sym p.is) h in
    let there : cond (is_keyword_kind u.kind) (is_namespace (after u.text)) false ≡ true = sym p.part.word ∙ space in
    let text : is_namespace (b ∷ a) ≡ true = ap is_namespace p.text ∙ namespace_so (is_keyword_kind u.kind) (is_namespace (after u.text)) there in
    absurd (not_space_word b a (keyword_first b a r p.longest) text)
  where
    namespace_so : (x y : Bool) → cond x y false ≡ true → y ≡ true
    namespace_so true y h = h
    namespace_so false y h = absurd cc
word_tile u _ b a r p h e = absurd cc

-- ---- rows

pub itself : (g : Bool) (ts : List Tile) → Named g ts ts
itself g [] = none
itself g (tile kind b a ∷ ts) = same kind b a (itself (is_trivia kind) ts)

pub behind_same : (g : Bool) (trivia ts us : List Tile) → ((h : Bool) → Named h ts us) → Named g (trivia ++ ts) (trivia ++ us)
behind_same g [] ts us f = f g
behind_same g (tile kind b a ∷ trivia) ts us f = same kind b a (behind_same (is_trivia kind) trivia ts us f)

abbrev space_tile : Tile
space_tile = tile Space 32 []

-- the tokens behind the first one
abbrev pub tail_of : Bool → NewToken → List NewToken → List NewToken
tail_of flag t more =
    cond (joins (space_put flag t (joins t (all_whole more))) (all_whole (spaces_put (names.keyword_behind flag t) more)))
    (bare (parted (spaces_put (names.keyword_behind flag t) more))) (parted (spaces_put (names.keyword_behind flag t) more))

pub record Body (flag : Bool) (t : NewToken) (more : List NewToken) (end : Lexeme) (us : List Tile) : Type 0 where
  pub trivia : List Tile
  pub kind : Kind
  pub b : ℕ
  pub a : List ℕ
  pub rest : List Tile
  pub whole : us ≡ trivia ++ tile kind b a ∷ rest
  pub free : all_trivia trivia ≡ true
  pub lead : joined trivia ≡ after t.lead
  pub m : Mode
  pub placed : Placed t m kind b a (joined rest)
  pub new : List Tile
  pub put : (g : Bool) → Named g (tile kind b a ∷ rest) (tile kind b a ∷ new)
  pub tokens : spelled [] new ≡ map new_lexeme (tail_of flag t more) ++ end ∷ []

-- ---- one part of a name before another

pub record Row (rest : List Tile) (kind : Kind) (b : ℕ) (a : List ℕ) (wanted : List Lexeme) : Type 0 where
  pub new : List Tile
  pub put : (g : Bool) → Named g (tile kind b a ∷ rest) (tile kind b a ∷ new)
  pub tokens : spelled [] new ≡ wanted

over_tile : (t u : Tile) (rest new : List Tile) → t ≡ u → ((g : Bool) → Named g (u ∷ rest) (u ∷ new)) → (g : Bool) → Named g (t ∷ rest) (t ∷ new)
over_tile t u rest new e f g = subst (λ (x : Tile). Named g (x ∷ rest) (x ∷ new)) (sym e) (f g)

bare_lexeme : (u : NewToken) (us : List NewToken) → map new_lexeme (bare (u ∷ us)) ≡ record { kind = u.kind; lead = []; text = after u.text } ∷ map new_lexeme us
bare_lexeme u us = ap (λ (l : List ℕ). record { kind = u.kind; lead = l; text = after u.text } ∷ map new_lexeme us) (deleted_none (before u.lead))

given_kind : (w : Bool) (u : NewToken) → (given w u).kind ≡ u.kind
given_kind true u = refl
given_kind false u = refl

given_text : (w : Bool) (u : NewToken) → after (given w u).text ≡ after u.text
given_text true u = refl
given_text false u = refl

bare_given : (w : Bool) (u : NewToken) (us : List NewToken) → map new_lexeme (bare (given w u ∷ us)) ≡ record { kind = u.kind; lead = []; text = after u.text } ∷ map new_lexeme us
bare_given true u us = bare_lexeme (given true u) us
bare_given false u us = bare_lexeme u us

module _ (flag : Bool) (u : NewToken) (more : List NewToken) (end : Lexeme) (rest : List Tile) (next : Body flag u more end rest) where
  abbrev Tail : List Lexeme
  Tail = map new_lexeme (tail_of flag u more) ++ end ∷ []

  abbrev Spaced : Bool
  Spaced = wants flag u (joins u (all_whole more))

  -- the second token without trivia
  token_only : spelled [] (tile next.kind next.b next.a ∷ next.new) ≡ record { kind = u.kind; lead = []; text = after u.text } ∷ Tail
  token_only =
      token_spelled [] next.kind next.b next.a u.kind next.new next.placed.is
      ∙ ap (λ (x : List ℕ). record { kind = u.kind; lead = []; text = x } ∷ spelled [] next.new) next.placed.text
      ∙ ap (λ (l : List Lexeme). record { kind = u.kind; lead = []; text = after u.text } ∷ l) next.tokens

  wanted_bare : map new_lexeme (bare (parted (spaces_put flag (u ∷ more)))) ++ end ∷ [] ≡ record { kind = u.kind; lead = []; text = after u.text } ∷ Tail
  wanted_bare = ap (λ (l : List Lexeme). l ++ end ∷ []) (bare_given Spaced u (tail_of flag u more))

  pub closed_row : (kind : Kind) (b : ℕ) (a : List ℕ) → is_trivia kind ≡ false → all_blank next.trivia ≡ true
      → names.is_backslash u ≡ true
      → Row rest kind b a (map new_lexeme (bare (parted (spaces_put flag (u ∷ more)))) ++ end ∷ [])
  closed_row kind b a plain blank root =
      let e = root_tile u next.m next.kind next.b next.a (joined next.rest) next.placed root in
      let inner : Named false (tile Op 92 [] ∷ next.rest) (tile Op 92 [] ∷ next.new) = subst (λ (x : Tile). Named false (x ∷ next.rest) (x ∷ next.new)) e (next.put false) in
      let shut : Named false (next.trivia ++ tile next.kind next.b next.a ∷ next.rest)
      (tile next.kind next.b next.a ∷ next.new) =
      subst (λ (x : Tile). Named false (next.trivia ++ x ∷ next.rest) (x ∷ next.new)) (sym e)
      (closed next.trivia blank inner) in
      let there : Named (is_trivia kind) rest (tile next.kind next.b next.a ∷ next.new) =
      subst (λ (g : Bool). Named g rest (tile next.kind next.b next.a ∷ next.new)) (sym plain)
      (subst (λ (l : List Tile). Named false l (tile next.kind next.b next.a ∷ next.new)) (sym next.whole) shut)
      in
      record {
        new = tile next.kind next.b next.a ∷ next.new;
        put = λ g. same kind b a there;
        tokens = token_only ∙ sym wanted_bare;
      }

  pub rooted_row : (kind : Kind) (b : ℕ) (a : List ℕ) → tile kind b a ≡ tile Op 92 [] → all_blank next.trivia ≡ true
      → next.kind ≡ Word → Row rest kind b a (map new_lexeme (bare (parted (spaces_put flag (u ∷ more)))) ++ end ∷ [])
  rooted_row kind b a root blank word =
      let e : tile next.kind next.b next.a ≡ tile Word next.b next.a = ap (λ (k : Kind). tile k next.b next.a) word in
      let inner : Named false (tile Word next.b next.a ∷ next.rest) (tile Word next.b next.a ∷ next.new) =
      subst (λ (x : Tile). Named false (x ∷ next.rest) (x ∷ next.new)) e (next.put false) in
      let put_it = λ (g : Bool). subst (λ (l : List Tile). Named g (tile Op 92 [] ∷ l) (tile Op 92 [] ∷ tile next.kind next.b next.a ∷ next.new)) (sym next.whole)
      (subst (λ (x : Tile). Named g (tile Op 92 [] ∷ next.trivia ++ x ∷ next.rest) (tile Op 92 [] ∷ x ∷ next.new))
      (sym e) (rooted {gap = g} next.trivia next.b next.a blank inner)) in
      record {
        new = tile next.kind next.b next.a ∷ next.new;
        put = over_tile (tile kind b a) (tile Op 92 []) rest (tile next.kind next.b next.a ∷ next.new) root put_it;
        tokens = token_only ∙ sym wanted_bare;
      }

  -- with its trivia
  pub token_led : spelled [] (next.trivia ++ tile next.kind next.b next.a ∷ next.new) ≡ record { kind = u.kind; lead = after u.lead; text = after u.text } ∷ Tail
  token_led =
      trivia_spelled [] next.trivia (tile next.kind next.b next.a ∷ next.new) next.free
      ∙ token_spelled (joined next.trivia) next.kind next.b next.a u.kind next.new next.placed.is
      ∙ ap (λ (l : List ℕ). record { kind = u.kind; lead = l; text = next.b ∷ next.a } ∷ spelled [] next.new) next.lead
      ∙ ap (λ (x : List ℕ). record { kind = u.kind; lead = after u.lead; text = x } ∷ spelled [] next.new) next.placed.text
      ∙ ap (λ (l : List Lexeme). record { kind = u.kind; lead = after u.lead; text = after u.text } ∷ l) next.tokens

  abbrev Parted : List Lexeme
  Parted = map new_lexeme (parted (spaces_put flag (u ∷ more))) ++ end ∷ []

  pub kept_row : (kind : Kind) (b : ℕ) (a : List ℕ) → Spaced ≡ false → Row rest kind b a Parted
  kept_row kind b a out =
      let there : Named (is_trivia kind) rest (next.trivia ++ tile next.kind next.b next.a ∷ next.new) =
      subst (λ (l : List Tile). Named (is_trivia kind) l (next.trivia ++ tile next.kind next.b next.a ∷ next.new)) (sym next.whole)
      (behind_same (is_trivia kind) next.trivia (tile next.kind next.b next.a ∷ next.rest) (tile next.kind next.b next.a ∷ next.new) next.put) in
      record {
        new = next.trivia ++ tile next.kind next.b next.a ∷ next.new;
        put = λ g. same kind b a there;
        tokens = token_led ∙ ap (λ (w : Bool). new_lexeme (given w u) ∷ Tail) (sym out);
      }

  no_tiles : (ts : List Tile) → joined ts ≡ [] → ts ≡ []
  no_tiles [] h = refl
  no_tiles (tile k c e ∷ ts) h = absurd cc

  led_none : after u.lead ≡ [] → next.trivia ≡ []
  led_none e = no_tiles next.trivia (next.lead ∙ e)

  pub spaced_row : (kind : Kind) (b : ℕ) (a : List ℕ) → is_trivia kind ≡ false → Spaced ≡ true → names.is_backslash u ≡ true → after u.lead ≡ [] → Row rest kind b a Parted
  spaced_row kind b a plain is root none_before =
      let e = root_tile u next.m next.kind next.b next.a (joined next.rest) next.placed root in
      let inner : Named false (tile Op 92 [] ∷ next.rest) (tile Op 92 [] ∷ next.new) = subst (λ (x : Tile). Named false (x ∷ next.rest) (x ∷ next.new)) e (next.put false) in
      let put_space : Named false (tile next.kind next.b next.a ∷ next.rest)
      (space_tile ∷ tile next.kind next.b next.a ∷ next.new) =
      subst (λ (x : Tile). Named false (x ∷ next.rest) (space_tile ∷ x ∷ next.new)) (sym e) (spaced inner) in
      let bare_rest : rest ≡ tile next.kind next.b next.a ∷ next.rest = next.whole ∙ ap (λ (l : List Tile). l ++ tile next.kind next.b next.a ∷ next.rest) (led_none none_before) in
      let there : Named (is_trivia kind) rest (space_tile ∷ tile next.kind next.b next.a ∷ next.new) =
      subst (λ (g : Bool). Named g rest (space_tile ∷ tile next.kind next.b next.a ∷ next.new)) (sym plain)
      (subst (λ (l : List Tile). Named false l (space_tile ∷ tile next.kind next.b next.a ∷ next.new))
      (sym bare_rest) put_space) in
      let led : after (u.lead ++ changed [] (codes " ") ∷ []) ≡ 32 ∷ [] = after_append u.lead (changed [] (codes " ") ∷ []) ∙ ap (λ (l : List ℕ). l ++ 32 ∷ []) none_before in
      record {
        new = space_tile ∷ tile next.kind next.b next.a ∷ next.new;
        put = λ g. same kind b a there;
        tokens =
            token_spelled (32 ∷ []) next.kind next.b next.a u.kind next.new next.placed.is
            ∙ ap (λ (x : List ℕ). record { kind = u.kind; lead = 32 ∷ []; text = x } ∷ spelled [] next.new) next.placed.text
            ∙ ap (λ (l : List Lexeme). record { kind = u.kind; lead = 32 ∷ []; text = after u.text } ∷ l) next.tokens
            ∙ ap (λ (l : List ℕ). record { kind = u.kind; lead = l; text = after u.text } ∷ Tail) (sym led)
            ∙ ap (λ (w : Bool). new_lexeme (given w u) ∷ Tail) (sym is);
      }
