-- The trivia before a token with spaces behind `#`.
use Rattle.std.proofs.Common.{◌≡◌, ℕ, suc, Bool, true, false, cond, not, ◌&&◌, ◌||◌, nat_eq, List, [], ◌∷◌, ◌++◌, length, refl, sym, ap, ◌∙◌, append_assoc, arith}
use Rattle.std.proofs.lemmas.Bool.{and_parts, not-true}
use Rattle.std.proofs.lemmas.Bool.Decides.{nat_tests}
use Rattle.php_tree.specs.declared.version.Version.TheVariants.{V74}
use Rattle.php_spellings.specs.declared.table.Kind.{Kind}
use Rattle.php_spellings.specs.declared.table.Kind.TheVariants.{Space, Comment, Tag}
use Rattle.php_spellings.specs.declared.table.State.{State}
use Rattle.php_spellings.specs.declared.table.State.TheVariants.{First, Plain, Escaped}
use Rattle.php_spellings.specs.declared.table.Run.TheVariants.{Line}
use Rattle.php_spellings.specs.declared.table.Until.TheVariants.{Block}
use Rattle.php_spellings.specs.Bytes.{is_space, is_line_end, is_empty, begins_by}
use Rattle.php_lexer.specs.Tails.{in_line, is_run, is_until}
use Rattle.php_lexer.specs.Modes.{Mode, IsLongest}
use Rattle.php_lexer.specs.Lexed.{Stack}
use Rattle.php_lexer.specs.Lexed as lexed
use Rattle.php_relexing.specs.Tiles.{Tile, tile, joined}
use Rattle.php_relexing.specs.Spelled.{Steps}
use Rattle.php_relexing.specs.Comments.{stops_line}
use Rattle.tracked_changes.specs.Pieces.{after}
use Rattle.syntax_rules.specs.HashComment.{Standing, outside, opening, block, closing, line, next_is, moved, begins_hash, spaced}
use Rattle.written_tokens.proofs.tokens.Kept.{opened}
use Rattle.written_tokens.specs.tiles.ContinuesAs.{is_trivia}
use Rattle.written_tokens.specs.tiles.Edits.{all_trivia}
use Rattle.written_tokens.specs.names.Leads.{is_hash, spaced_tile, spaced_trivia, SpacedAreWritten, none_hash, SpacedAreTrivia}
use Rattle.written_tokens.specs.names.Named.{all_space}
use Rattle.written_tokens.proofs.names.TriviaTexts as texts

-- what the rule writes of some bytes
abbrev Wrote : Standing → List ℕ → List ℕ
Wrote s bs = after (spaced s bs)

step_by : (h : Bool) (b : ℕ) (bs : List ℕ) (s : Standing) → begins_hash s b bs ≡ h → Wrote s (b ∷ bs) ≡ b ∷ cond h (32 ∷ Wrote (moved s b bs) bs) (Wrote (moved s b bs) bs)
step_by true b bs s e = rw e refl
step_by false b bs s e = rw e refl

plain_step : (s t : Standing) (b : ℕ) (bs : List ℕ) → begins_hash s b bs ≡ false → moved s b bs ≡ t → Wrote s (b ∷ bs) ≡ b ∷ Wrote t bs
plain_step s t b bs e m = step_by false b bs s e ∙ ap (λ (u : Standing). b ∷ Wrote u bs) m

-- ---- outside comments

calm_moves : (b : ℕ) (bs : List ℕ) → (x y : Bool) → nat_eq b 35 ≡ x → nat_eq b 47 ≡ y → not (x || y) ≡ true → (moved outside b bs ≡ outside) × (begins_hash outside b bs ≡ false)
calm_moves b bs true y p q h = absurd cc
calm_moves b bs false true p q h = absurd cc
calm_moves b bs false false p q h = (rw (p, q) refl, rw p refl)

over_calm : (x r : List ℕ) → texts.all_calm x ≡ true → Wrote outside (x ++ r) ≡ x ++ Wrote outside r
over_calm [] r h = refl
over_calm (b ∷ x) r h =
    let (here, more) = and_parts (texts.is_calm b) (texts.all_calm x) h in
    let moves = calm_moves b (x ++ r) (nat_eq b 35) (nat_eq b 47) refl refl here in
    plain_step outside outside b (x ++ r) moves.1 moves.0 ∙ ap (λ (l : List ℕ). b ∷ l) (over_calm x r more)

space_calm : (b : ℕ) → is_space b ≡ true → texts.is_calm b ≡ true
space_calm b h = grind (arith, nat_tests)

spaces_calm : (x : List ℕ) → all_space x ≡ true → texts.all_calm x ≡ true
spaces_calm [] h = refl
spaces_calm (b ∷ x) h =
    let (here, more) = and_parts (is_space b) (all_space x) h in
    rw (space_calm b here, spaces_calm x more) refl

-- ---- in a comment of one line

line_moves : (b : ℕ) (bs : List ℕ) → is_line_end b ≡ false → moved line b bs ≡ line
line_moves b bs h = rw h refl

over_line : (x rest r : List ℕ) (st : State) → is_run Line [] st x rest ≡ true → Wrote line (x ++ r) ≡ x ++ Wrote line r
over_line [] rest r st h = refl
over_line (b ∷ x) rest r st h =
    let (here, more) = and_parts (in_line b (x ++ rest)) (is_run Line [] Plain x rest) h in
    let (goes, other) = and_parts (not (is_line_end b)) (not (nat_eq b 63 && begins_by 62 (x ++ rest))) here in
    plain_step line line b (x ++ r) refl (line_moves b (x ++ r) (not-true (is_line_end b) goes)) ∙ ap (λ (l : List ℕ). b ∷ l) (over_line x rest r Plain more)

-- whether bytes are none or begin with a line end
abbrev line_front : List ℕ → Bool
line_front [] = true
line_front (b ∷ bs) = is_line_end b

end_moves : (b : ℕ) (bs : List ℕ) → is_line_end b ≡ true → moved line b bs ≡ outside
end_moves b bs h = rw h refl

end_calm : (b : ℕ) → is_line_end b ≡ true → texts.is_calm b ≡ true
end_calm b h = grind (arith, nat_tests)

line_left : (bs : List ℕ) → line_front bs ≡ true → Wrote line bs ≡ Wrote outside bs
line_left [] h = refl
line_left (b ∷ bs) h =
    let moves = calm_moves b bs (nat_eq b 35) (nat_eq b 47) refl refl (end_calm b h) in
    plain_step line outside b bs refl (end_moves b bs h) ∙ sym (plain_step outside outside b bs moves.1 moves.0)

-- ---- between `/*` and `*/`

abbrev standing : State → List ℕ → Standing
standing First bs = block
standing Plain bs = block
standing Escaped bs = cond (begins_by 47 bs) closing block

within_block : (b c : ℕ) (x r : List ℕ) (t : Bool) → nat_eq b 42 ≡ t → moved block b (c ∷ x ++ r) ≡ standing (cond t Escaped Plain) (c ∷ x)
within_block b c x r true e = rw e refl
within_block b c x r false e = rw e refl

abbrev Over : State → List ℕ → List ℕ → List ℕ → Type 0
Over s x rest r = is_until Block s x rest ≡ true → Wrote (standing s x) (x ++ r) ≡ x ++ Wrote outside r

block_goes : (b : ℕ) (x rest r : List ℕ) → is_until Block (cond (nat_eq b 42) Escaped Plain) x rest ≡ true
    → Over (cond (nat_eq b 42) Escaped Plain) x rest r → Wrote block (b ∷ x ++ r) ≡ b ∷ x ++ Wrote outside r
block_goes b [] rest r h ih = absurd cc
block_goes b (c ∷ x) rest r h ih = plain_step block (standing (cond (nat_eq b 42) Escaped Plain) (c ∷ x)) b
    (c ∷ x ++ r) refl (within_block b c x r (nat_eq b 42) refl) ∙ ap (λ (l : List ℕ). b ∷ l) (ih h)

closed_by : (b : ℕ) (x rest r : List ℕ) (t : Bool) → nat_eq b 47 ≡ t
    → Over (cond (nat_eq b 42) Escaped Plain) x rest r
    → (true && cond t (is_empty x) (is_until Block (cond (nat_eq b 42) Escaped Plain) x rest)) ≡ true
    → Wrote (cond t closing block) (b ∷ x ++ r) ≡ b ∷ x ++ Wrote outside r
closed_by b [] rest r true e ih h = plain_step closing outside b r refl refl
closed_by b (c ∷ x) rest r true e ih h = absurd cc
closed_by b x rest r false e ih h = block_goes b x rest r h ih

over_block : (s : State) (x rest r : List ℕ) → Over s x rest r
over_block s [] rest r h = absurd cc
over_block First (b ∷ x) rest r h = block_goes b x rest r h (over_block (cond (nat_eq b 42) Escaped Plain) x rest r)
over_block Plain (b ∷ x) rest r h = block_goes b x rest r h (over_block (cond (nat_eq b 42) Escaped Plain) x rest r)
over_block Escaped (b ∷ x) rest r h = closed_by b x rest r (nat_eq b 47) refl (over_block (cond (nat_eq b 42) Escaped Plain) x rest r) h

-- ---- trivia

joined_append : (ts us : List Tile) → joined (ts ++ us) ≡ joined ts ++ joined us
joined_append [] us = refl
joined_append (tile kind b a ∷ ts) us = ap (λ (u : List ℕ). b ∷ u) (ap (λ (u : List ℕ). a ++ u) (joined_append ts us) ∙ sym (append_assoc a (joined ts) (joined us)))

-- no trivia begin as `?>` does
not_mark : (b : ℕ) → is_space b ≡ true → nat_eq b 63 ≡ false
not_mark b h = grind (arith, nat_tests)

comment_mark : (b : ℕ) (a r : List ℕ) → texts.CommentText b a r → nat_eq b 63 ≡ false
comment_mark b a r (texts.hash x run stop) = refl
comment_mark b a r (texts.block x until) = refl
comment_mark b a r (texts.slash x run stop) = refl

front_mark : (m : Mode) (kind : Kind) (b : ℕ) (a r : List ℕ) → is_trivia kind ≡ true → IsLongest V74 m (b ∷ a ++ r) kind (suc (length a)) → nat_eq b 63 ≡ false
front_mark m Space b a r t h = not_mark b (and_parts (is_space b) (all_space a) (texts.space_text m b a r h)).0
front_mark m Comment b a r t h = comment_mark b a r (texts.comment_text m b a r h)
front_mark m Tag b a r t h = texts.tag_mark m b a r h
front_mark m _ b a r t h = absurd cc

line_by : (b : ℕ) (bs : List ℕ) (e q : Bool) → is_line_end b ≡ e → nat_eq b 63 ≡ q → q ≡ false → (e || q && begins_by 62 bs) ≡ true → is_line_end b ≡ true
line_by b bs true q p r k h = p
line_by b bs false true p r k h = absurd cc
line_by b bs false false p r k h = absurd cc

-- behind a comment of one line, trivia begin with the line end
front_line : (stack : Stack) (ts rest : List Tile) → all_trivia ts ≡ true → Steps V74 stack (ts ++ rest) → stops_line (joined (ts ++ rest)) ≡ true → line_front (joined ts) ≡ true
front_line stack [] rest t h s = refl
front_line stack (tile kind b a ∷ ts) rest t h s =
    line_by b (a ++ joined (ts ++ rest)) (is_line_end b) (nat_eq b 63) refl refl
    (front_mark stack.top kind b a (joined (ts ++ rest)) (and_parts (is_trivia kind) (all_trivia ts) t).0
    (opened h).0) s

module _ (stack : Stack) (ts rest : List Tile) (free : all_trivia ts ≡ true) (more : Steps V74 stack (ts ++ rest))
    (ih : Wrote outside (joined ts) ≡ joined (spaced_trivia ts)) where
  calm_tile : (x : List ℕ) → texts.all_calm x ≡ true → Wrote outside (x ++ joined ts) ≡ x ++ joined (spaced_trivia ts)
  calm_tile x h = over_calm x (joined ts) h ∙ ap (λ (l : List ℕ). x ++ l) ih

  line_tile : (a : List ℕ) → is_run Line [] First a (joined (ts ++ rest)) ≡ true
      → stops_line (joined (ts ++ rest)) ≡ true → Wrote line (a ++ joined ts) ≡ a ++ joined (spaced_trivia ts)
  line_tile a run stop = over_line a (joined (ts ++ rest)) (joined ts) First run
      ∙ ap (λ (l : List ℕ). a ++ l) (line_left (joined ts) (front_line stack ts rest free more stop) ∙ ih)

  line_next : (bs : List ℕ) → line_front bs ≡ true → next_is 91 bs ≡ false
  line_next [] h = refl
  line_next (b ∷ bs) h = grind (arith, nat_tests)

  bracket_next : (a : List ℕ) → stops_line (joined (ts ++ rest)) ≡ true → next_is 91 (a ++ joined ts) ≡ begins_by 91 a
  bracket_next [] stop = line_next (joined ts) (front_line stack ts rest free more stop)
  bracket_next (c ∷ a) stop = refl

  hash_by : (a : List ℕ) (t : Bool) → begins_by 91 a ≡ t → is_run Line [] First a (joined (ts ++ rest)) ≡ true
      → stops_line (joined (ts ++ rest)) ≡ true → Wrote outside (35 ∷ a ++ joined ts) ≡ joined
      (cond t (tile Comment 35 (32 ∷ a)) (tile Comment 35 a) ∷ spaced_trivia ts)
  hash_by a true e run stop =
      step_by true 35 (a ++ joined ts) outside (bracket_next a stop ∙ e)
      ∙ ap (λ (l : List ℕ). 35 ∷ 32 ∷ l) (line_tile a run stop)
  hash_by a false e run stop =
      step_by false 35 (a ++ joined ts) outside (bracket_next a stop ∙ e)
      ∙ ap (λ (l : List ℕ). 35 ∷ l) (line_tile a run stop)

  comment_tile : (b : ℕ) (a : List ℕ) → texts.CommentText b a (joined (ts ++ rest))
      → Wrote outside (b ∷ a ++ joined ts) ≡ joined (spaced_tile (tile Comment b a) ∷ spaced_trivia ts)
  comment_tile b a (texts.hash x run stop) = hash_by x (begins_by 91 x) refl run stop
  comment_tile b a (texts.block x until) =
      plain_step outside opening 47 (42 ∷ x ++ joined ts) refl refl
      ∙ ap (λ (l : List ℕ). 47 ∷ l) (plain_step opening block 42 (x ++ joined ts) refl refl
      ∙ ap (λ (l : List ℕ). 42 ∷ l) (over_block First x (joined (ts ++ rest)) (joined ts) until ∙ ap (λ (l : List ℕ). x ++ l) ih))
  comment_tile b a (texts.slash x run stop) =
      plain_step outside line 47 (47 ∷ x ++ joined ts) refl refl
      ∙ ap (λ (l : List ℕ). 47 ∷ l) (plain_step line line 47 (x ++ joined ts) refl refl
      ∙ ap (λ (l : List ℕ). 47 ∷ l) (line_tile x run stop))

  tile_by : (m : Mode) (kind : Kind) (b : ℕ) (a : List ℕ) → is_trivia kind ≡ true
      → IsLongest V74 m (b ∷ a ++ joined (ts ++ rest)) kind (suc (length a))
      → Wrote outside (b ∷ a ++ joined ts) ≡ joined (spaced_tile (tile kind b a) ∷ spaced_trivia ts)
  tile_by m Space b a t h = calm_tile (b ∷ a) (spaces_calm (b ∷ a) (texts.space_text m b a (joined (ts ++ rest)) h))
  tile_by m Comment b a t h = comment_tile b a (texts.comment_text m b a (joined (ts ++ rest)) h)
  tile_by m Tag b a t h = calm_tile (b ∷ a) (texts.tag_text m b a (joined (ts ++ rest)) h)
  tile_by m _ b a t h = absurd cc

pub spaced_are_written : SpacedAreWritten
spaced_are_written stack [] rest t h = refl
spaced_are_written stack (tile kind b a ∷ ts) rest t h =
    let (here, free) = and_parts (is_trivia kind) (all_trivia ts) t in
    let (longest, others) = opened h in
    let next : Stack = lexed.after V74 stack kind (suc (length a)) (b ∷ a ++ joined (ts ++ rest)) in
    tile_by next ts rest free others (spaced_are_written next ts rest free others) stack.top kind b a here longest

-- ---- what they are

and_false : (x : Bool) → (x && false) ≡ false
and_false true = refl
and_false false = refl

both : (kind : Kind) (b : ℕ) (a : List ℕ) (t : Bool) → is_hash kind b a ≡ t → (us : List Tile) → is_trivia kind ≡ true
    → (all_trivia us ≡ true) × (none_hash us ≡ true)
    → (all_trivia (cond t (tile kind b (32 ∷ a)) (tile kind b a) ∷ us) ≡ true)
    × (none_hash (cond t (tile kind b (32 ∷ a)) (tile kind b a) ∷ us) ≡ true)
both kind b a true e us h ih = (rw (h, ih.0) refl, rw (no_hash kind b a, ih.1) refl)
  where
    no_hash : (k : Kind) (c : ℕ) (x : List ℕ) → is_hash k c (32 ∷ x) ≡ false
    no_hash Comment c x = and_false (nat_eq c 35)
    no_hash _ c x = refl
both kind b a false e us h ih = (rw (h, ih.0) refl, rw (e, ih.1) refl)

pub spaced_are_trivia : SpacedAreTrivia
spaced_are_trivia [] h = (refl, refl)
spaced_are_trivia (tile kind b a ∷ ts) h =
    let (here, more) = and_parts (is_trivia kind) (all_trivia ts) h in
    both kind b a (is_hash kind b a) refl (spaced_trivia ts) here (spaced_are_trivia ts more)
