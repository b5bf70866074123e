-- Simple variables of quoted texts, which stay as they are.
use Rattle.std.proofs.Common.{◌≡◌, ℕ, Bool, true, false, cond, ◌&&◌, List, [], ◌∷◌, ◌++◌, map, Some, refl, sym, ap, ◌∙◌, subst}
use Rattle.std.proofs.lemmas.Bool.{and_from}
use Rattle.php_tree.specs.declared.version.Version.TheVariants.{V74}
use Rattle.php_tree.specs.declared.token.Token.{Token}
use Rattle.php_tree.specs.declared.token.TokenKind.{TokenKind}
use Rattle.php_tree.specs.declared.token.TokenKind.TheVariants as token
use Rattle.php_spellings.specs.declared.table.Kind.{Kind}
use Rattle.php_spellings.specs.declared.table.Kind.TheVariants.{Comment, Variable, Label, Op, Piece, CurlyOpen, DollarBrace, QuotedEnd}
use Rattle.php_spellings.specs.declared.table.Mark.{Mark}
use Rattle.php_spellings.specs.Bytes.{is_letter, begins}
use Rattle.php_spellings.specs.Words.{token_of}
use Rattle.php_lexer.specs.Modes.{Mode, quoted, offset, property, ModeStep, stay, enter, part_mode_step}
use Rattle.php_lexer.specs.Lexed.{Lexeme, Stack, lexeme, stepped_by}
use Rattle.php_relexing.specs.Tiles.{Tile, tile, joined}
use Rattle.php_relexing.specs.Spelled.{Steps, spelled}
use Rattle.tracked_changes.specs.Draft.{NewToken}
use Rattle.syntax_rules.specs.HashComment.{hash_comment}
use Rattle.written_tokens.specs.tokens.Written.{new_lexeme}
use Rattle.written_tokens.specs.tokens.Levels.{stack_of}
use Rattle.written_tokens.specs.texts.TextRows as row
use Rattle.written_tokens.proofs.texts.Stepping.{first}
use Rattle.written_tokens.proofs.texts.QuotedTokens.{is_unit, no_op}
use Rattle.written_tokens.proofs.texts.OpenRows.{Head}
use Rattle.written_tokens.proofs.texts.Units.{alone_source}
use Rattle.written_tokens.specs.names.Fronts.{FrontOfRow}
use Rattle.rewritten_shapes.specs.paired.Tokens.{is_op, IsMark}
use Rattle.written_reading.specs.edited.Rows.{is_clean, all_clean}
use Rattle.written_reading.proofs.edited.WrittenAs.{has_more, more_behind}
use Rattle.written_reading.proofs.edited.TileKinds.{token_like, told, op_tile}
use Rattle.written_reading.proofs.edited.Between.{tile_same, mark_tile}
use Rattle.written_reading.proofs.edited.QuotedTiles.{tile_by, quoted_bare, offset_bare, property_bare, behind_bare, Next, next_of, next_spells, key_tile, offset_stays, label_tile}
use Rattle.written_reading.proofs.edited.TextWrittenAs.{TextStep, TextWrittenAs, as_tile, as_kind}

abbrev pub is_unit_token : TokenKind → Bool
is_unit_token token.Variable = true
is_unit_token token.Piece = true
is_unit_token token.CurlyOpen = true
is_unit_token token.DollarBrace = true
is_unit_token token.QuotedEnd = true
is_unit_token _ = false

unit_like : (kind : Kind) → is_unit_token (token_like kind) ≡ true → is_unit kind ≡ true
unit_like Variable h = refl
unit_like Piece h = refl
unit_like CurlyOpen h = refl
unit_like DollarBrace h = refl
unit_like QuotedEnd h = refl
unit_like kind h = absurd cc

-- ---- the variable

-- A variable's tile, and the steps behind it.
pub record Named (mark : Mark) (label : List ℕ) (fresh : Bool) (over : List Mode) (depth : ℕ) (v : Token) (tiles : List Tile) (more : List Lexeme) : Type 0 where
  pub next : Next v tiles more
  pub kind : next.kind ≡ Variable
  pub at : Steps V74 (stack_of (quoted mark label fresh) over depth) (tile Variable next.b next.a ∷ next.rest)
  pub behind : Steps V74 (stepped_by (part_mode_step V74 (quoted mark label false) (joined next.rest)) (stack_of (quoted mark label fresh) over depth)) next.rest

module _ (front : FrontOfRow) (mark : Mark) (label : List ℕ) (fresh : Bool) (over : List Mode) (depth : ℕ) where
  named : (v : Token) (tiles : List Tile) (more : List Lexeme) → v.kind ≡ token.Variable → has_more more ≡ true
      → Steps V74 (stack_of (quoted mark label fresh) over depth) tiles → spelled [] tiles ≡ lexeme v ∷ more
      → Named mark label fresh over depth v tiles more
  named v tiles more is m steps same =
      let stack = stack_of (quoted mark label fresh) over depth in
      let n : Next v tiles more = next_of front stack (quoted_bare mark label fresh) v tiles more m steps same in
      let kind : n.kind ≡ Variable = tile_by token.Variable refl n.kind (n.b ∷ n.a) v.kind is n.is in
      let at : Steps V74 stack (tile Variable n.b n.a ∷ n.rest) =
      subst (λ (x : Kind). Steps V74 stack (tile x n.b n.a ∷ n.rest)) kind (subst (λ (l : List Tile). Steps V74 stack l) n.whole steps) in
      record { next = n; kind = kind; at = at; behind = (first stack Variable n.b n.a n.rest at).more }

  -- the token behind it
  behind_named : (v o : Token) (tiles : List Tile) (more : List Lexeme) → has_more more ≡ true
      → (n : Named mark label fresh over depth v tiles (lexeme o ∷ more)) → Next o n.next.rest more
  behind_named v o tiles more m n =
      next_of front (stepped_by (part_mode_step V74 (quoted mark label false) (joined n.next.rest)) (stack_of (quoted mark label fresh) over depth))
      (behind_bare mark label (stack_of (quoted mark label fresh) over depth) (joined n.next.rest)) o n.next.rest more m n.behind n.next.tokens

  -- the steps from the variable on, where the next tile is given
  from_named : (v o : Token) (tiles : List Tile) (more : List Lexeme) (x : Kind) (y : ℕ) (z : List ℕ)
      → (n : Named mark label fresh over depth v tiles (lexeme o ∷ more)) → (k : Next o n.next.rest more)
      → tile k.kind k.b k.a ≡ tile x y z → Steps V74 (stack_of (quoted mark label fresh) over depth)
      (tile Variable n.next.b n.next.a ∷ tile x y z ∷ k.rest)
  from_named v o tiles more x y z n k same =
      subst (λ (u : Tile). Steps V74 (stack_of (quoted mark label fresh) over depth) (tile Variable n.next.b n.next.a ∷ u ∷ k.rest)) same
      (subst (λ (l : List Tile). Steps V74 (stack_of (quoted mark label fresh) over depth) (tile Variable n.next.b n.next.a ∷ l)) k.whole n.at)

-- ---- alone

pub alone_written_as : FrontOfRow → (starts : Bool) (v s : Token) (ss : List Token) (ts : List NewToken)
    → v.kind ≡ token.Variable → is_unit_token s.kind ≡ true → TextWrittenAs starts (s ∷ ss) ts
    → TextWrittenAs false (v ∷ s ∷ ss) (hash_comment v ∷ ts)
alone_written_as front starts v s ss ts is unit written_as mark label fresh over depth tiles more m steps same =
    let n : Named mark label fresh over depth v tiles (map lexeme (s ∷ ss) ++ more) =
    named front mark label fresh over depth v tiles (map lexeme (s ∷ ss) ++ more) is refl steps same in
    let k : Next s n.next.rest (map lexeme ss ++ more) = behind_named front mark label fresh over depth v s tiles (map lexeme ss ++ more) (more_behind ss more m) n in
    let head : Head n.next.rest = record {
      kind = k.kind;
      byte = k.b;
      bytes = k.a;
      more = k.rest;
      same = k.whole;
      unit = unit_like k.kind (sym (told is_unit_token refl refl k.kind (k.b ∷ k.a) s.kind k.is) ∙ unit);
    } in
    let behind = (alone_source mark label fresh over depth n.next.b n.next.a n.next.rest head n.at).more in
    let r : TextStep ts starts n.next.rest more = written_as mark label false over depth n.next.rest more m behind n.next.tokens in
    let p : Next v tiles (map lexeme (s ∷ ss) ++ more) = as_kind Variable v tiles (map lexeme (s ∷ ss) ++ more) n.next n.kind in
    record {
      xs = tile Variable n.next.b n.next.a ∷ r.xs;
      ys = tile Variable n.next.b n.next.a ∷ r.ys;
      rest = r.rest;
      split = p.whole ∙ ap (λ (l : List Tile). tile Variable n.next.b n.next.a ∷ l) r.split;
      left = r.left;
      row = row.variable n.next.b n.next.a r.row;
      starts_is = refl;
      spells = next_spells v tiles (map lexeme (s ∷ ss) ++ more) p r.ys (map new_lexeme ts) r.spells;
      clean = r.clean;
    }

-- ---- with an offset

-- whether a token of the kind may be a simple offset
abbrev pub is_key_token : TokenKind → Bool
is_key_token token.Label = true
is_key_token token.Keyword = true
is_key_token token.Int = true
is_key_token token.Float = true
is_key_token token.Variable = true
is_key_token _ = false

key_clean : (kind : Kind) (b : ℕ) (a : List ℕ) → is_key_token (token_like kind) ≡ true → is_clean kind b a ≡ true
key_clean Comment b a h = absurd cc
key_clean DollarBrace b a h = absurd cc
key_clean kind b a h = refl

key_no_op : (k : TokenKind) → is_key_token k ≡ true → is_op k ≡ false
key_no_op token.Op h = absurd cc
key_no_op k h = refl

-- A key and its `]`: the tiles, and the steps behind them.
pub record Keyed (mark : Mark) (label : List ℕ) (over : List Mode) (depth : ℕ) (k u : Token) (tiles : List Tile) (more : List Lexeme) : Type 0 where
  pub key : Next k tiles (lexeme u ∷ more)
  pub no_mark : row.is_op key.kind ≡ false
  pub clean : is_clean key.kind key.b key.a ≡ true
  pub shut : Next u key.rest more
  pub same : tile shut.kind shut.b shut.a ≡ tile Op 93 []
  pub behind : Steps V74 (stack_of (quoted mark label false) over depth) shut.rest

module _ (front : FrontOfRow) (mark : Mark) (label : List ℕ) (over : List Mode) (depth : ℕ) where
  abbrev Off : Stack
  Off = stack_of offset (quoted mark label false ∷ over) depth

  keyed : (k u : Token) (tiles : List Tile) (more : List Lexeme) → is_key_token k.kind ≡ true → IsMark 93 u
      → has_more more ≡ true → Steps V74 Off tiles → spelled [] tiles ≡ lexeme k ∷ lexeme u ∷ more
      → Keyed mark label over depth k u tiles more
  keyed k u tiles more is mu m steps same =
      let n : Next k tiles (lexeme u ∷ more) = next_of front Off offset_bare k tiles (lexeme u ∷ more) refl steps same in
      let like : is_key_token (token_like n.kind) ≡ true = sym (told is_key_token refl refl n.kind (n.b ∷ n.a) k.kind n.is) ∙ is in
      let plain : row.is_op n.kind ≡ false = key_tile n.kind (key_no_op (token_like n.kind) like) in
      let at : Steps V74 Off (tile n.kind n.b n.a ∷ n.rest) = subst (λ (l : List Tile). Steps V74 Off l) n.whole steps in
      let inside : Steps V74 Off n.rest =
      subst (λ (t : ModeStep). Steps V74 (stepped_by t Off) n.rest) (offset_stays n.kind (n.b ∷ n.a) (joined n.rest) plain) (first Off n.kind n.b n.a n.rest at).more in
      let s : Next u n.rest more = next_of front Off offset_bare u n.rest more m inside n.tokens in
      let shut : tile s.kind s.b s.a ≡ tile Op 93 [] = mark_tile u 93 mu s.kind s.b s.a s.is s.text in
      let last : Steps V74 Off (tile Op 93 [] ∷ s.rest) =
      subst (λ (x : Tile). Steps V74 Off (x ∷ s.rest)) shut (subst (λ (l : List Tile). Steps V74 Off l) s.whole inside) in
      record { key = n; no_mark = plain; clean = key_clean n.kind n.b n.a like; shut = s; same = shut; behind = (first Off Op 93 [] s.rest last).more }

  -- behind `[`
  opened : (fresh : Bool) (v o : Token) (tiles : List Tile) (more : List Lexeme) → IsMark 91 o
      → (n : Named mark label fresh over depth v tiles (lexeme o ∷ more)) → (k : Next o n.next.rest more)
      → Steps V74 Off k.rest
  opened fresh v o tiles more mo n k =
      (first Off Op 91 [] k.rest
      (first (stack_of (quoted mark label fresh) over depth) Variable n.next.b n.next.a (tile Op 91 [] ∷ k.rest)
      (from_named front mark label fresh over depth v o tiles more Op 91 [] n k (mark_tile o 91 mo k.kind k.b k.a k.is k.text))).more).more

pub offset_written_as : FrontOfRow → (starts : Bool) (v o k u : Token) (ss : List Token) (ts : List NewToken)
    → v.kind ≡ token.Variable → IsMark 91 o → is_key_token k.kind ≡ true → IsMark 93 u → TextWrittenAs starts ss ts
    → TextWrittenAs false (v ∷ o ∷ k ∷ u ∷ ss) (hash_comment v ∷ hash_comment o ∷ hash_comment k ∷ hash_comment u ∷ ts)
offset_written_as front starts v o k u ss ts is mo key mu written_as mark label fresh over depth tiles more m steps same =
    let left = map lexeme ss ++ more in
    let n : Named mark label fresh over depth v tiles (lexeme o ∷ lexeme k ∷ lexeme u ∷ left) =
    named front mark label fresh over depth v tiles (lexeme o ∷ lexeme k ∷ lexeme u ∷ left) is refl steps same in
    let q : Next o n.next.rest (lexeme k ∷ lexeme u ∷ left) = behind_named front mark label fresh over depth v o tiles (lexeme k ∷ lexeme u ∷ left) refl n in
    let inside = opened front mark label over depth fresh v o tiles (lexeme k ∷ lexeme u ∷ left) mo n q in
    let d : Keyed mark label over depth k u q.rest left = keyed front mark label over depth k u q.rest left key mu (more_behind ss more m) inside q.tokens in
    let r : TextStep ts starts d.shut.rest more = written_as mark label false over depth d.shut.rest more m d.behind d.shut.tokens in
    let v1 : Next v tiles (lexeme o ∷ lexeme k ∷ lexeme u ∷ left) = as_kind Variable v tiles (lexeme o ∷ lexeme k ∷ lexeme u ∷ left) n.next n.kind in
    let o1 : Next o n.next.rest (lexeme k ∷ lexeme u ∷ left) = as_tile Op 91 [] o n.next.rest (lexeme k ∷ lexeme u ∷ left) q (mark_tile o 91 mo q.kind q.b q.a q.is q.text) in
    let u1 : Next u d.key.rest left = as_tile Op 93 [] u d.key.rest left d.shut d.same in
    let last = tile Op 93 [] ∷ r.ys in
    let inner = tile d.key.kind d.key.b d.key.a ∷ last in
    record {
      xs = tile Variable n.next.b n.next.a ∷ tile Op 91 [] ∷ (tile d.key.kind d.key.b d.key.a ∷ []) ++ tile Op 93 [] ∷ r.xs;
      ys = tile Variable n.next.b n.next.a ∷ tile Op 91 [] ∷ (tile d.key.kind d.key.b d.key.a ∷ []) ++ tile Op 93 [] ∷ r.ys;
      rest = r.rest;
      split =
          v1.whole
          ∙ ap (λ (l : List Tile). tile Variable n.next.b n.next.a ∷ l)
          (o1.whole ∙ ap (λ (l : List Tile). tile Op 91 [] ∷ l)
          (d.key.whole ∙ ap (λ (l : List Tile). tile d.key.kind d.key.b d.key.a ∷ l)
          (u1.whole ∙ ap (λ (l : List Tile). tile Op 93 [] ∷ l) r.split)));
      left = r.left;
      row = row.with_offset n.next.b n.next.a (tile d.key.kind d.key.b d.key.a ∷ []) (row.bare d.key.kind d.key.b d.key.a d.no_mark) r.row;
      starts_is = refl;
      spells =
          next_spells v tiles (lexeme o ∷ lexeme k ∷ lexeme u ∷ left) v1 (tile Op 91 [] ∷ inner)
          (new_lexeme (hash_comment o) ∷ new_lexeme (hash_comment k) ∷ new_lexeme (hash_comment u)
          ∷ map new_lexeme ts)
          (next_spells o n.next.rest (lexeme k ∷ lexeme u ∷ left) o1 inner (new_lexeme (hash_comment k) ∷ new_lexeme (hash_comment u) ∷ map new_lexeme ts)
          (next_spells k q.rest (lexeme u ∷ left) d.key last (new_lexeme (hash_comment u) ∷ map new_lexeme ts)
          (next_spells u d.key.rest left u1 r.ys (map new_lexeme ts) r.spells)));
      clean = and_from (is_clean d.key.kind d.key.b d.key.a) (all_clean last) d.clean r.clean;
    }

-- the same with `-`
pub minus_written_as : FrontOfRow → (starts : Bool) (v o s k u : Token) (ss : List Token) (ts : List NewToken)
    → v.kind ≡ token.Variable → IsMark 91 o → IsMark 45 s → is_key_token k.kind ≡ true → IsMark 93 u
    → TextWrittenAs starts ss ts → TextWrittenAs false (v ∷ o ∷ s ∷ k ∷ u ∷ ss)
    (hash_comment v ∷ hash_comment o ∷ hash_comment s ∷ hash_comment k ∷ hash_comment u ∷ ts)
minus_written_as front starts v o s k u ss ts is mo ms key mu written_as mark label fresh over depth tiles more m steps same =
    let left = map lexeme ss ++ more in
    let all = lexeme s ∷ lexeme k ∷ lexeme u ∷ left in
    let off = stack_of offset (quoted mark label false ∷ over) depth in
    let n : Named mark label fresh over depth v tiles (lexeme o ∷ all) = named front mark label fresh over depth v tiles (lexeme o ∷ all) is refl steps same in
    let q : Next o n.next.rest all = behind_named front mark label fresh over depth v o tiles all refl n in
    let inside = opened front mark label over depth fresh v o tiles all mo n q in
    let w : Next s q.rest (lexeme k ∷ lexeme u ∷ left) = next_of front off offset_bare s q.rest (lexeme k ∷ lexeme u ∷ left) refl inside q.tokens in
    let minus : tile w.kind w.b w.a ≡ tile Op 45 [] = mark_tile s 45 ms w.kind w.b w.a w.is w.text in
    let at : Steps V74 off (tile Op 45 [] ∷ w.rest) =
    subst (λ (x : Tile). Steps V74 off (x ∷ w.rest)) minus (subst (λ (l : List Tile). Steps V74 off l) w.whole inside) in
    let d : Keyed mark label over depth k u w.rest left = keyed front mark label over depth k u w.rest left key mu
    (more_behind ss more m) (first off Op 45 [] w.rest at).more w.tokens in
    let r : TextStep ts starts d.shut.rest more = written_as mark label false over depth d.shut.rest more m d.behind d.shut.tokens in
    let v1 : Next v tiles (lexeme o ∷ all) = as_kind Variable v tiles (lexeme o ∷ all) n.next n.kind in
    let o1 : Next o n.next.rest all = as_tile Op 91 [] o n.next.rest all q (mark_tile o 91 mo q.kind q.b q.a q.is q.text) in
    let s1 : Next s q.rest (lexeme k ∷ lexeme u ∷ left) = as_tile Op 45 [] s q.rest (lexeme k ∷ lexeme u ∷ left) w minus in
    let u1 : Next u d.key.rest left = as_tile Op 93 [] u d.key.rest left d.shut d.same in
    let last = tile Op 93 [] ∷ r.ys in
    let inner = tile d.key.kind d.key.b d.key.a ∷ last in
    let two = new_lexeme (hash_comment k) ∷ new_lexeme (hash_comment u) ∷ map new_lexeme ts in
    record {
      xs = tile Variable n.next.b n.next.a ∷ tile Op 91 [] ∷ (tile Op 45 [] ∷ tile d.key.kind d.key.b d.key.a ∷ []) ++ tile Op 93 [] ∷ r.xs;
      ys = tile Variable n.next.b n.next.a ∷ tile Op 91 [] ∷ (tile Op 45 [] ∷ tile d.key.kind d.key.b d.key.a ∷ []) ++ tile Op 93 [] ∷ r.ys;
      rest = r.rest;
      split =
          v1.whole
          ∙ ap (λ (l : List Tile). tile Variable n.next.b n.next.a ∷ l)
          (o1.whole ∙ ap (λ (l : List Tile). tile Op 91 [] ∷ l)
          (s1.whole ∙ ap (λ (l : List Tile). tile Op 45 [] ∷ l)
          (d.key.whole ∙ ap (λ (l : List Tile). tile d.key.kind d.key.b d.key.a ∷ l)
          (u1.whole ∙ ap (λ (l : List Tile). tile Op 93 [] ∷ l) r.split))));
      left = r.left;
      row = row.with_offset n.next.b n.next.a (tile Op 45 [] ∷ tile d.key.kind d.key.b d.key.a ∷ []) (row.minus d.key.kind d.key.b d.key.a d.no_mark) r.row;
      starts_is = refl;
      spells =
          next_spells v tiles (lexeme o ∷ all) v1 (tile Op 91 [] ∷ tile Op 45 [] ∷ inner) (new_lexeme (hash_comment o) ∷ new_lexeme (hash_comment s) ∷ two)
          (next_spells o n.next.rest all o1 (tile Op 45 [] ∷ inner) (new_lexeme (hash_comment s) ∷ two)
          (next_spells s q.rest (lexeme k ∷ lexeme u ∷ left) s1 inner two
          (next_spells k w.rest (lexeme u ∷ left) d.key last (new_lexeme (hash_comment u) ∷ map new_lexeme ts)
          (next_spells u d.key.rest left u1 r.ys (map new_lexeme ts) r.spells))));
      clean = and_from (is_clean d.key.kind d.key.b d.key.a) (all_clean last) d.clean r.clean;
    }

-- ---- with a property

in_property : (mark : Mark) (label : List ℕ) (fresh : Bool) (over : List Mode) (depth : ℕ) (rest : List Tile)
    (t : Bool) → Steps V74 (stepped_by (cond t (enter property (quoted mark label false))
    (stay (quoted mark label false))) (stack_of (quoted mark label fresh) over depth)) (tile Op 45 (62 ∷ []) ∷ rest)
    → Steps V74 (stack_of property (quoted mark label false ∷ over) depth) (tile Op 45 (62 ∷ []) ∷ rest)
in_property mark label fresh over depth rest true h = h
in_property mark label fresh over depth rest false h = absurd
    (no_op mark label false 45 (62 ∷ []) (joined rest)
    (first (stack_of (quoted mark label false) over depth) Op 45 (62 ∷ []) rest h).longest)

arrow_tile : (o : Token) → o.kind ≡ token.Op → o.text ≡ 45 ∷ 62 ∷ [] → (kind : Kind) (b : ℕ) (a : List ℕ)
    → token_of kind (b ∷ a) ≡ Some o.kind → b ∷ a ≡ o.text → tile kind b a ≡ tile Op 45 (62 ∷ [])
arrow_tile o is same kind b a k h =
    ap (λ (x : Kind). tile x b a) (op_tile kind (b ∷ a) o.kind is k) ∙ tile_same Op b a 45 (62 ∷ []) (h ∙ same)

pub property_written_as : FrontOfRow → (starts : Bool) (v o u : Token) (ss : List Token) (ts : List NewToken)
    → v.kind ≡ token.Variable → o.kind ≡ token.Op → o.text ≡ 45 ∷ 62 ∷ [] → u.kind ≡ token.Label
    → TextWrittenAs starts ss ts → TextWrittenAs false (v ∷ o ∷ u ∷ ss)
    (hash_comment v ∷ hash_comment o ∷ hash_comment u ∷ ts)
property_written_as front starts v o u ss ts is op arrow word written_as mark label fresh over depth tiles more m steps same =
    let left = map lexeme ss ++ more in
    let prop = stack_of property (quoted mark label false ∷ over) depth in
    let n : Named mark label fresh over depth v tiles (lexeme o ∷ lexeme u ∷ left) =
    named front mark label fresh over depth v tiles (lexeme o ∷ lexeme u ∷ left) is refl steps same in
    let q : Next o n.next.rest (lexeme u ∷ left) = behind_named front mark label fresh over depth v o tiles (lexeme u ∷ left) refl n in
    let mark_is : tile q.kind q.b q.a ≡ tile Op 45 (62 ∷ []) = arrow_tile o op arrow q.kind q.b q.a q.is q.text in
    let whole = from_named front mark label fresh over depth v o tiles (lexeme u ∷ left) Op 45 (62 ∷ []) n q mark_is in
    let inside = in_property mark label fresh over depth q.rest (begins is_letter (joined q.rest))
    (first (stack_of (quoted mark label fresh) over depth) Variable n.next.b n.next.a (tile Op 45 (62 ∷ []) ∷ q.rest) whole).more in
    let next : Steps V74 prop q.rest = (first prop Op 45 (62 ∷ []) q.rest inside).more in
    let w : Next u q.rest left = next_of front prop property_bare u q.rest left (more_behind ss more m) next q.tokens in
    let at : Steps V74 prop (tile w.kind w.b w.a ∷ w.rest) = subst (λ (l : List Tile). Steps V74 prop l) w.whole next in
    let kind : w.kind ≡ Label = label_tile w.kind w.b w.a (joined w.rest) u.kind word w.is (first prop w.kind w.b w.a w.rest at).longest in
    let last : Steps V74 prop (tile Label w.b w.a ∷ w.rest) = subst (λ (x : Kind). Steps V74 prop (tile x w.b w.a ∷ w.rest)) kind at in
    let r : TextStep ts starts w.rest more = written_as mark label false over depth w.rest more m (first prop Label w.b w.a w.rest last).more w.tokens in
    let v1 : Next v tiles (lexeme o ∷ lexeme u ∷ left) = as_kind Variable v tiles (lexeme o ∷ lexeme u ∷ left) n.next n.kind in
    let o1 : Next o n.next.rest (lexeme u ∷ left) = as_tile Op 45 (62 ∷ []) o n.next.rest (lexeme u ∷ left) q mark_is in
    let u1 : Next u q.rest left = as_kind Label u q.rest left w kind in
    record {
      xs = tile Variable n.next.b n.next.a ∷ tile Op 45 (62 ∷ []) ∷ tile Label w.b w.a ∷ r.xs;
      ys = tile Variable n.next.b n.next.a ∷ tile Op 45 (62 ∷ []) ∷ tile Label w.b w.a ∷ r.ys;
      rest = r.rest;
      split =
          v1.whole
          ∙ ap (λ (l : List Tile). tile Variable n.next.b n.next.a ∷ l)
          (o1.whole ∙ ap (λ (l : List Tile). tile Op 45 (62 ∷ []) ∷ l)
          (u1.whole ∙ ap (λ (l : List Tile). tile Label w.b w.a ∷ l) r.split));
      left = r.left;
      row = row.with_property n.next.b n.next.a w.b w.a r.row;
      starts_is = refl;
      spells =
          next_spells v tiles (lexeme o ∷ lexeme u ∷ left) v1 (tile Op 45 (62 ∷ []) ∷ tile Label w.b w.a ∷ r.ys)
          (new_lexeme (hash_comment o) ∷ new_lexeme (hash_comment u) ∷ map new_lexeme ts)
          (next_spells o n.next.rest (lexeme u ∷ left) o1 (tile Label w.b w.a ∷ r.ys) (new_lexeme (hash_comment u) ∷ map new_lexeme ts)
          (next_spells u q.rest left u1 r.ys (map new_lexeme ts) r.spells));
      clean = r.clean;
    }
