-- A row of a draft's tokens gets spaces before names, and loses the trivia inside.
use Rattle.std.proofs.Common.{◌≡◌, ℕ, Bool, true, false, cond, not, List, [], ◌∷◌, ◌++◌, map, Some, refl, sym, ◌∙◌, subst}
use Rattle.std.proofs.lemmas.Bool.{and_parts, not-true}
use Rattle.php_tree.specs.declared.version.Version.TheVariants.{V74}
use Rattle.php_tree.specs.declared.token.TokenKind.{TokenKind}
use Rattle.php_spellings.specs.declared.table.Kind.{Kind}
use Rattle.php_spellings.specs.declared.table.Kind.TheVariants.{Op}
use Rattle.php_spellings.specs.Words.{token_of}
use Rattle.php_lexer.specs.Modes.{Mode, code, mode_step_of}
use Rattle.php_lexer.specs.Lexed.{Lexeme, Stack, start, stepped_by}
use Rattle.php_relexing.specs.Tiles.{Tile, tile, joined}
use Rattle.php_relexing.specs.Spelled.{Steps, spelled}
use Rattle.tracked_changes.specs.Pieces.{before, after}
use Rattle.tracked_changes.specs.Draft.{NewToken}
use Rattle.syntax_rules.specs.SplitName as names
use Rattle.written_tokens.specs.tokens.Levels.{stack_of}
use Rattle.written_tokens.specs.tokens.Written.{new_lexeme}
use Rattle.written_tokens.specs.tokens.Drafted.{all_whole, joins}
use Rattle.written_tokens.specs.tokens.Parted.{bare, parted, SamePart, NamesStay}
use Rattle.written_tokens.specs.tokens.Spaced.{spaces_put, PartsHaveText}
use Rattle.written_tokens.specs.tiles.ContinuesAs.{is_trivia}
use Rattle.written_tokens.proofs.tiles.Stepping.{longest_in, steps_behind}
use Rattle.written_tokens.specs.names.Fronts.{Front}
use Rattle.written_tokens.specs.names.Named.{Named, same, is_dollar_brace, none_dollar}
use Rattle.written_tokens.specs.names.NamesPut.{LeadsStay, NamesRow, NamesArePut}
use Rattle.written_tokens.proofs.names.FrontRows.{is_some, front, trivia_is}
use Rattle.written_tokens.proofs.names.NamedModes.{mode_ok, modes_ok, stack_ok, behind_ok}
use Rattle.written_tokens.proofs.names.NamedRows.{no_op, strip, named_steps}
use Rattle.written_tokens.proofs.names.NameTiles.{behind_word, blank_of, Reached, reached}
use Rattle.written_tokens.proofs.names.NamesJoined.{Joined, behind, root, joined_of, wants, given, put_before, joins_same}
use Rattle.written_tokens.proofs.names.NamesBuilt.{
  Wordy,
  Placed,
  wordy_tile,
  known_of,
  root_tile,
  word_tile,
  itself,
  behind_same,
  tail_of,
  Body,
  Row,
  closed_row,
  rooted_row,
  kept_row,
  spaced_row,
  token_led,
}

part_of : (w : Bool) (t : NewToken) → SamePart (given w t) → SamePart t
part_of true t p = record { backslash = p.backslash; word = p.word; front = p.front }
part_of false t p = p

some_plain : (kind : Kind) (text : List ℕ) (j : TokenKind) → token_of kind text ≡ Some j → (x : Bool) → is_trivia kind ≡ x → x ≡ false
some_plain kind text j p true e = absurd (let clash = sym (trivia_is kind text e) ∙ p in cc)
some_plain kind text j p false e = refl

nothing_is : (bs : List ℕ) → names.is_nothing bs ≡ true → bs ≡ []
nothing_is [] h = refl
nothing_is (b ∷ bs) h = absurd cc

some_end : (ts : List NewToken) (end : Lexeme) → is_some (map new_lexeme ts ++ end ∷ []) ≡ true
some_end [] end = refl
some_end (t ∷ ts) end = refl

-- ---- a token, and the next one

module _ (t : NewToken) (kind : Kind) (b : ℕ) (a : List ℕ) (rest : List Tile) (r : Reached (tile kind b a ∷ rest)) (p : Placed t r.m kind b a (joined rest)) where
  plain : is_trivia kind ≡ false
  plain = some_plain kind (b ∷ a) t.kind p.is (is_trivia kind) refl

  abbrev onward : Stack
  onward = stepped_by (mode_step_of V74 r.m kind (b ∷ a) (joined rest)) (stack_of r.m r.below r.depth)

  dollar_parts : (not (is_dollar_brace kind) ≡ true) × (none_dollar rest ≡ true)
  dollar_parts = and_parts (not (is_dollar_brace kind)) (none_dollar rest) r.dollar

  onward_ok : stack_ok onward ≡ true
  onward_ok = behind_ok r.m r.below r.depth kind (b ∷ a) (joined rest) r.ok (not-true (is_dollar_brace kind) dollar_parts.0)

  onward_steps : Steps V74 onward rest
  onward_steps = steps_behind (stack_of r.m r.below r.depth) onward kind b a rest refl r.steps

  below_ok : modes_ok r.below ≡ true
  below_ok = (and_parts (mode_ok r.m) (modes_ok r.below) r.ok).1

  -- behind `\` is code
  code_steps : tile kind b a ≡ tile Op 92 [] → Steps V74 (stack_of code r.below r.depth) rest
  code_steps e =
      let there : Steps V74 (stack_of r.m r.below r.depth) (tile Op 92 [] ∷ rest) = subst (λ (x : Tile). Steps V74 (stack_of r.m r.below r.depth) (x ∷ rest)) e r.steps in
      let is : r.m ≡ code = no_op r.m (joined rest) p.ok (longest_in (stack_of r.m r.below r.depth) Op 92 [] rest there) in
      let in_code : Steps V74 (stack_of code r.below r.depth) (tile Op 92 [] ∷ rest) =
      subst (λ (m : Mode). Steps V74 (stack_of m r.below r.depth) (tile Op 92 [] ∷ rest)) is there in
      steps_behind (stack_of code r.below r.depth) (stack_of code r.below r.depth) Op 92 [] rest refl in_code

  module _ (flag : Bool) (u : NewToken) (more : List NewToken) (end : Lexeme) (next : Body flag u more end rest) where
    abbrev Behind : List Tile
    Behind = tile next.kind next.b next.a ∷ next.rest

    abbrev Bare : Type 0
    Bare = Row rest kind b a (map new_lexeme (bare (parted (spaces_put flag (u ∷ more)))) ++ end ∷ [])

    abbrev Led : Type 0
    Led = Row rest kind b a (map new_lexeme (parted (spaces_put flag (u ∷ more))) ++ end ∷ [])

    behind_root : names.is_backslash t ≡ true → Wordy u → Bare
    behind_root slash word =
        let e = root_tile t r.m kind b a (joined rest) p slash in
        let steps : Steps V74 (stack_of code r.below r.depth) (next.trivia ++ Behind) =
        subst (λ (l : List Tile). Steps V74 (stack_of code r.below r.depth) l) next.whole (code_steps e) in
        let blank = blank_of next.trivia Behind code r.below r.depth refl refl next.free steps in
        let words = strip next.trivia Behind code r.below r.depth blank refl steps in
        let placed : Placed u code next.kind next.b next.a (joined next.rest) = record {
          ok = refl;
          longest = longest_in (stack_of code r.below r.depth) next.kind next.b next.a next.rest words;
          is = next.placed.is;
          text = next.placed.text;
          part = next.placed.part;
        } in
        rooted_row flag u more end rest next kind b a e blank
        (word_tile u next.kind next.b next.a (joined next.rest) placed word (wordy_tile u code next.kind next.b next.a (joined next.rest) placed word))

    before_root : names.is_backslash u ≡ true → Wordy t → Bare
    before_root slash word =
        let steps : Steps V74 onward (next.trivia ++ Behind) = subst (λ (l : List Tile). Steps V74 onward l) next.whole onward_steps in
        let html_not = behind_word r.m r.below r.depth kind (b ∷ a) (joined rest) below_ok (wordy_tile t r.m kind b a (joined rest) p word) in
        let top = (and_parts (mode_ok onward.top) (modes_ok onward.below) onward_ok).0 in
        let blank = blank_of next.trivia Behind onward.top onward.below onward.depth top html_not next.free steps in
        closed_row flag u more end rest next kind b a plain blank slash

    bare_by : Joined t u → Bare
    bare_by (behind slash word) = behind_root slash word
    bare_by (root slash word) = before_root slash word

    led_by : names.is_nothing (after u.lead) ≡ names.is_nothing (before u.lead) → (w : Bool) → wants flag u (joins u (all_whole more)) ≡ w → Led
    led_by lead true e =
        let is = put_before flag u more (known_of u next.m next.kind next.b next.a (joined next.rest) next.placed) e in
        spaced_row flag u more end rest next kind b a plain e is.0 (nothing_is (after u.lead) (lead ∙ is.1))
    led_by lead false e = kept_row flag u more end rest next kind b a e

-- ---- all tokens

abbrev Spelled : NewToken → List NewToken → Lexeme → List Tile → Type 0
Spelled t more end us = spelled [] us ≡ map new_lexeme (t ∷ more) ++ end ∷ []

module _ (flag : Bool) (t : NewToken) (more : List NewToken) (end : Lexeme) (us : List Tile)
    (f : Front [] us (new_lexeme t) (map new_lexeme more ++ end ∷ [])) (r : Reached (tile f.kind f.b f.a ∷ f.rest))
    (part : SamePart t) where
  placed_here : Placed t r.m f.kind f.b f.a (joined f.rest)
  placed_here = record {
    ok = (and_parts (mode_ok r.m) (modes_ok r.below) r.ok).0;
    longest = longest_in (stack_of r.m r.below r.depth) f.kind f.b f.a f.rest r.steps;
    is = f.is;
    text = f.text;
    part = part;
  }

  body_of : Row f.rest f.kind f.b f.a (map new_lexeme (tail_of flag t more) ++ end ∷ []) → Body flag t more end us
  body_of row = record {
    trivia = f.trivia;
    kind = f.kind;
    b = f.b;
    a = f.a;
    rest = f.rest;
    whole = f.whole;
    free = f.free;
    lead = f.lead;
    m = r.m;
    placed = placed_here;
    new = row.new;
    put = row.put;
    tokens = row.tokens;
  }

last_row : (flag : Bool) (t : NewToken) (end : Lexeme) (us : List Tile)
    (f : Front [] us (new_lexeme t) (map new_lexeme [] ++ end ∷ []))
    → Row f.rest f.kind f.b f.a (map new_lexeme (tail_of flag t []) ++ end ∷ [])
last_row flag t end us f = record { new = f.rest; put = λ g. same f.kind f.b f.a (itself (is_trivia f.kind) f.rest); tokens = f.tokens }

tail_row : (flag : Bool) (t u : NewToken) (more : List NewToken) (end : Lexeme) (rest : List Tile) (kind : Kind)
    (b : ℕ) (a : List ℕ) → PartsHaveText (u ∷ more) → (j : Bool) → joins t (all_whole (u ∷ more)) ≡ j
    → Row rest kind b a (map new_lexeme (cond j (bare (parted (spaces_put (names.keyword_behind flag t) (u ∷ more))))
    (parted (spaces_put (names.keyword_behind flag t) (u ∷ more)))) ++ end ∷ [])
    → Row rest kind b a (map new_lexeme (tail_of flag t (u ∷ more)) ++ end ∷ [])
tail_row flag t u more end rest kind b a texts j e row =
    let same_j = joins_same t (wants flag t (joins t (all_whole (u ∷ more)))) (names.keyword_behind flag t) (u ∷ more) texts ∙ e in
    subst (λ (x : Bool). Row rest kind b a (map new_lexeme (cond x
    (bare (parted (spaces_put (names.keyword_behind flag t) (u ∷ more))))
    (parted (spaces_put (names.keyword_behind flag t) (u ∷ more)))) ++ end ∷ [])) (sym same_j) row

next_row : (flag : Bool) (t u : NewToken) (more : List NewToken) (end : Lexeme) (kind : Kind) (b : ℕ) (a : List ℕ)
    (rest : List Tile) (r : Reached (tile kind b a ∷ rest)) → Placed t r.m kind b a (joined rest)
    → PartsHaveText (u ∷ more) → LeadsStay (u ∷ more) → Body (names.keyword_behind flag t) u more end rest
    → (j : Bool) → joins t (all_whole (u ∷ more)) ≡ j → Row rest kind b a
    (map new_lexeme (cond j (bare (parted (spaces_put (names.keyword_behind flag t) (u ∷ more))))
    (parted (spaces_put (names.keyword_behind flag t) (u ∷ more)))) ++ end ∷ [])
next_row flag t u more end kind b a rest r p texts leads next true e =
    bare_by t kind b a rest r p (names.keyword_behind flag t) u more end next
    (joined_of t u more (known_of u next.m next.kind next.b next.a (joined next.rest) next.placed) texts e)
next_row flag t u more end kind b a rest r p texts leads next false e =
    led_by t kind b a rest r p (names.keyword_behind flag t) u more end next leads.0 (wants (names.keyword_behind flag t) u (joins u (all_whole more))) refl

build : (more : List NewToken) (flag : Bool) (t : NewToken) (end : Lexeme) (k : Stack) (us : List Tile)
    → stack_ok k ≡ true → none_dollar us ≡ true → PartsHaveText (t ∷ more) → LeadsStay (t ∷ more)
    → NamesStay (spaces_put flag (t ∷ more)) → Steps V74 k us → Spelled t more end us → Body flag t more end us
build [] flag t end k us ok d texts leads stay s h =
    let f = front [] us (new_lexeme t) (map new_lexeme [] ++ end ∷ []) (some_end [] end) h in
    let r = reached f.trivia (tile f.kind f.b f.a ∷ f.rest) k ok (subst (λ (l : List Tile). none_dollar l ≡ true) f.whole d) (subst (λ (l : List Tile). Steps V74 k l) f.whole s) in
    body_of flag t [] end us f r (part_of (wants flag t (joins t (all_whole []))) t stay.0) (last_row flag t end us f)
build (u ∷ more) flag t end k us ok d texts leads stay s h =
    let f = front [] us (new_lexeme t) (map new_lexeme (u ∷ more) ++ end ∷ []) (some_end (u ∷ more) end) h in
    let r = reached f.trivia (tile f.kind f.b f.a ∷ f.rest) k ok (subst (λ (l : List Tile). none_dollar l ≡ true) f.whole d) (subst (λ (l : List Tile). Steps V74 k l) f.whole s) in
    let part = part_of (wants flag t (joins t (all_whole (u ∷ more)))) t stay.0 in
    let p = placed_here flag t (u ∷ more) end us f r part in
    let next = build more (names.keyword_behind flag t) u end (onward t f.kind f.b f.a f.rest r p) f.rest
    (onward_ok t f.kind f.b f.a f.rest r p) (dollar_parts t f.kind f.b f.a f.rest r p).1 texts.1 leads.1 stay.2
    (onward_steps t f.kind f.b f.a f.rest r p) f.tokens in
    body_of flag t (u ∷ more) end us f r part
    (tail_row flag t u more end f.rest f.kind f.b f.a texts.1 (joins t (all_whole (u ∷ more))) refl
    (next_row flag t u more end f.kind f.b f.a f.rest r p texts.1 leads.1 next (joins t (all_whole (u ∷ more))) refl))

row_of : (t : NewToken) (more : List NewToken) (end : Lexeme) (us : List Tile) → none_dollar us ≡ true → Steps V74 start us → Body false t more end us → NamesRow us (t ∷ more) end
row_of t more end us d s body =
    let new : List Tile = body.trivia ++ tile body.kind body.b body.a ∷ body.new in
    let put : Named false us new = subst (λ (l : List Tile). Named false l new) (sym body.whole)
    (behind_same false body.trivia (tile body.kind body.b body.a ∷ body.rest)
    (tile body.kind body.b body.a ∷ body.new) body.put) in
    record { row = new; put = put; steps = named_steps false us new d put s; tokens = token_led false t more end us body }

pub names_are_put : NamesArePut
names_are_put us [] end d texts leads stay s h = record { row = us; put = itself false us; steps = s; tokens = h }
names_are_put us (t ∷ more) end d texts leads stay s h = row_of t more end us d s (build more false t end start us refl d texts leads stay s h)
