-- Brackets round tokens of code.
use Rattle.std.proofs.Common.{◌≡◌, ℕ, suc, List, [], ◌∷◌, ◌++◌, length, refl, sym, ap, ◌∙◌, subst, append_assoc}
use Rattle.php_tree.specs.declared.version.Version.{Version}
use Rattle.php_spellings.specs.declared.table.Kind.{Kind}
use Rattle.php_spellings.specs.declared.table.Kind.TheVariants.{Op}
use Rattle.php_lexer.specs.Modes.{Mode, code, ModeStep, stay, enter, leave, mode_step_of, IsLongest}
use Rattle.php_relexing.specs.Tiles.{Tile, tile, joined}
use Rattle.php_relexing.proofs.Written.{closing_is, square_is, end_square_is}
use Rattle.php_relexing.proofs.Openings.{openings_are_uncast}
use Rattle.written_tokens.specs.tokens.Levels.{Level, none, flat, deep}
use Rattle.written_tokens.specs.tokens.Enclosed.{LevelsJoin, SquaresStandRound, RoundsStandRound}

joined_append : (ts us : List Tile) → joined (ts ++ us) ≡ joined ts ++ joined us
joined_append [] us = refl
joined_append (tile kind b a ∷ ts) us = ap (λ (u : List ℕ). b ∷ a ++ u) (joined_append ts us) ∙ ap (λ (u : List ℕ). b ∷ u) (sym (append_assoc a (joined ts) (joined us)))

whole : (ts us : List Tile) (rest : List ℕ) → joined ts ++ (joined us ++ rest) ≡ joined (ts ++ us) ++ rest
whole ts us rest = sym (append_assoc (joined ts) (joined us) rest) ∙ ap (λ (u : List ℕ). u ++ rest) (sym (joined_append ts us))

module _ (v : Version) (m : Mode) (kind : Kind) (b : ℕ) (a : List ℕ) {x y : List ℕ} (e : x ≡ y) where
  longest_moved : IsLongest v m (b ∷ a ++ x) kind (suc (length a)) → IsLongest v m (b ∷ a ++ y) kind (suc (length a))
  longest_moved h = subst (λ (u : List ℕ). IsLongest v m (b ∷ a ++ u) kind (suc (length a))) e h

  mode_step_moved : (t : ModeStep) → mode_step_of v m kind (b ∷ a) x ≡ t → mode_step_of v m kind (b ∷ a) y ≡ t
  mode_step_moved t h = subst (λ (u : List ℕ). mode_step_of v m kind (b ∷ a) u ≡ t) e h

join : {v : Version} {front : List ℕ} {m n : Mode} {ts : List Tile} → Level v front m ts n
    → (rest : List ℕ) (p : Mode) (us : List Tile) → joined us ++ rest ≡ front → Level v rest n us p
    → Level v rest m (ts ++ us) p
join none rest p us same more = more
join (flat {v} {rest = front} {m} {n} to kind b a ts h mode_step inner) rest p us same more =
    let bytes : joined ts ++ front ≡ joined (ts ++ us) ++ rest = ap (λ (u : List ℕ). joined ts ++ u) (sym same) ∙ whole ts us rest in
    flat to kind b a (ts ++ us) (longest_moved v m kind b a bytes h) (mode_step_moved v m kind b a bytes (stay to) mode_step) (join inner rest p us same more)
join (deep {v} {rest = front} {m} {n} up under low kind b a ts k c e vs h mode_step inner close out pair last) rest p us same more =
    let all : (ts ++ tile k c e ∷ vs) ++ us ≡ ts ++ tile k c e ∷ (vs ++ us) = append_assoc ts (tile k c e ∷ vs) us in
    let bytes : joined (ts ++ tile k c e ∷ vs) ++ front ≡ joined (ts ++ tile k c e ∷ (vs ++ us)) ++ rest =
    ap (λ (u : List ℕ). joined (ts ++ tile k c e ∷ vs) ++ u) (sym same)
    ∙ whole (ts ++ tile k c e ∷ vs) us rest
    ∙ ap (λ (l : List Tile). joined l ++ rest) all in
    let behind : joined (tile k c e ∷ vs) ++ front ≡ joined (tile k c e ∷ (vs ++ us)) ++ rest =
    ap (λ (u : List ℕ). joined (tile k c e ∷ vs) ++ u) (sym same) ∙ whole (tile k c e ∷ vs) us rest in
    let later : joined vs ++ front ≡ joined (vs ++ us) ++ rest = ap (λ (u : List ℕ). joined vs ++ u) (sym same) ∙ whole vs us rest in
    let there : Level v rest m (tile kind b a ∷ (ts ++ tile k c e ∷ (vs ++ us))) p =
    deep up under low kind b a ts k c e (vs ++ us) (longest_moved v m kind b a bytes h) (mode_step_moved v m kind b a bytes (enter up under) mode_step)
    (subst (λ (u : List ℕ). Level v u up ts low) behind inner)
    (longest_moved v low k c e later close) (mode_step_moved v low k c e later leave out) pair (join last rest p us same more) in
    subst (λ (l : List Tile). Level v rest m (tile kind b a ∷ l) p) (sym all) there

pub levels_join : LevelsJoin
levels_join v rest m n p ts us one two = join one rest p us refl two

pub squares_stand_round : SquaresStandRound
squares_stand_round v rest n ts us inner more =
    flat code Op 91 [] (ts ++ tile Op 93 [] ∷ us) (square_is v (joined (ts ++ tile Op 93 [] ∷ us) ++ rest)) refl
    (join inner rest n (tile Op 93 [] ∷ us) refl (flat code Op 93 [] us (end_square_is v (joined us ++ rest)) refl more))

pub rounds_stand_round : RoundsStandRound
rounds_stand_round v rest n ts us uncast inner more =
    flat code Op 40 [] (ts ++ tile Op 41 [] ∷ us) (openings_are_uncast.opens v (joined (ts ++ tile Op 41 [] ∷ us) ++ rest) uncast) refl
    (join inner rest n (tile Op 41 [] ∷ us) refl (flat code Op 41 [] us (closing_is v (joined us ++ rest)) refl more))
