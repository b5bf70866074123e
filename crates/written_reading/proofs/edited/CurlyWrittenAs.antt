-- Code in quoted texts: `{$..}`, and what is written for `${..}`.
use Rattle.std.proofs.Common.{◌≡◌, ℕ, Bool, true, false, not, List, [], ◌∷◌, ◌++◌, map, codes, Some, refl, sym, ap, ◌∙◌, subst, append_assoc, append-nil}
use Rattle.std.proofs.lemmas.Bool.{not-true}
use Rattle.php_tree.specs.declared.version.Version.TheVariants.{V74}
use Rattle.php_tree.specs.declared.token.Token.{Token}
use Rattle.php_tree.specs.declared.token.TokenKind.TheVariants as token
use Rattle.php_spellings.specs.declared.table.Kind.{Kind}
use Rattle.php_spellings.specs.declared.table.Kind.TheVariants.{Variable, Op, CurlyOpen, DollarBrace, VarName}
use Rattle.php_spellings.specs.declared.table.Mark.{Mark}
use Rattle.php_spellings.specs.Words.{token_of}
use Rattle.php_lexer.specs.Modes.{Mode, code, named, quoted}
use Rattle.php_lexer.specs.Lexed.{Lexeme, lexeme}
use Rattle.php_relexing.specs.Tiles.{Tile, tile, joined}
use Rattle.php_relexing.specs.Spelled.{Steps, spelled}
use Rattle.tracked_changes.specs.Pieces.{kept, after}
use Rattle.tracked_changes.specs.Draft.{NewToken}
use Rattle.tracked_changes.specs.Tokens.{retexted, put_also}
use Rattle.syntax_rules.specs.HashComment.{outside, spaced, hash_comment}
use Rattle.syntax_rules.specs.DollarBrace.{curly, dollar_name}
use Rattle.written_tokens.specs.tokens.Written.{new_lexeme}
use Rattle.written_tokens.specs.tokens.Levels.{stack_of}
use Rattle.written_tokens.specs.tiles.IsRewrittenTo.{IsRewrittenTo, RewritingsJoin}
use Rattle.written_tokens.specs.tiles.Going.{any_stops}
use Rattle.written_tokens.specs.texts.TextRows as units
use Rattle.written_tokens.proofs.texts.Stepping.{first}
use Rattle.written_tokens.proofs.texts.QuotedTokens.{curly_next}
use Rattle.written_tokens.specs.names.Fronts.{Front, FrontOfRow}
use Rattle.rewritten_shapes.specs.paired.Tokens.{IsMark}
use Rattle.written_reading.specs.edited.Rows.{all_clean}
use Rattle.written_reading.proofs.edited.Spelling.{Spells, led_spells}
use Rattle.written_reading.proofs.edited.TileFacts.{clean_append}
use Rattle.written_reading.proofs.edited.WrittenAs.{has_more, WrittenAs, parted_spelled, more_behind, news_append}
use Rattle.written_reading.proofs.edited.Leads.{front_of, Means}
use Rattle.written_reading.proofs.edited.Insides.{Inside, inside}
use Rattle.written_reading.proofs.edited.Between.{mark_tile, mark_edge}
use Rattle.written_reading.proofs.edited.FrontsKept.{new_front, old_front, Dollar}
use Rattle.written_reading.proofs.edited.QuotedTiles.{
  tile_by,
  quoted_bare,
  Next,
  next_of,
  next_spells,
  curly_tile,
  dollar_tile,
  next_name,
  is_name_kind,
  no_name_first,
  named_code,
  name_front,
}
use Rattle.written_reading.proofs.edited.TextWrittenAs.{TextStep, TextWrittenAs, as_tile, as_kind}

-- ---- `$` at the front of tiles

joined_append : (ts us : List Tile) → joined (ts ++ us) ≡ joined ts ++ joined us
joined_append [] us = refl
joined_append (tile kind b a ∷ ts) us = ap (λ (u : List ℕ). b ∷ a ++ u) (joined_append ts us) ∙ ap (λ (u : List ℕ). b ∷ u) (sym (append_assoc a (joined ts) (joined us)))

front_cut : (xs : List ℕ) (b : ℕ) (a r : List ℕ) → Dollar (xs ++ (b ∷ a ++ r)) → Dollar (xs ++ b ∷ a)
front_cut [] b a r h = h
front_cut (x ∷ xs) b a r h = h

front_add : (xs : List ℕ) (b : ℕ) (a r : List ℕ) → Dollar (xs ++ b ∷ a) → Dollar (xs ++ (b ∷ a ++ r))
front_add [] b a r h = h
front_add (x ∷ xs) b a r h = h

-- the bytes of a row by its front
front_bytes : (tiles : List Tile) (l : Lexeme) (more : List Lexeme) → (f : Front [] tiles l more) → joined tiles ≡ joined f.trivia ++ (f.b ∷ f.a ++ joined f.rest)
front_bytes tiles l more f = ap joined f.whole ∙ joined_append f.trivia (tile f.kind f.b f.a ∷ f.rest)

front_token : (tiles : List Tile) (l : Lexeme) (more : List Lexeme) → (f : Front [] tiles l more) → joined f.trivia ++ f.b ∷ f.a ≡ l.lead ++ l.text
front_token tiles l more f = ap (λ (x : List ℕ). x ++ f.b ∷ f.a) f.lead ∙ ap (λ (x : List ℕ). l.lead ++ x) f.text

dollar_old : FrontOfRow → (tiles : List Tile) (l : Lexeme) (more : List Lexeme) → has_more more ≡ true
    → spelled [] tiles ≡ l ∷ more → Dollar (joined tiles) → Dollar (l.lead ++ l.text)
dollar_old front tiles l more m same h =
    let f : Front [] tiles l more = front_of front tiles l more m same in
    subst Dollar (front_token tiles l more f) (front_cut (joined f.trivia) f.b f.a (joined f.rest) (subst Dollar (front_bytes tiles l more f) h))

dollar_new : FrontOfRow → (tiles : List Tile) (l : Lexeme) (more : List Lexeme) → has_more more ≡ true
    → spelled [] tiles ≡ l ∷ more → Dollar (l.lead ++ l.text) → Dollar (joined tiles)
dollar_new front tiles l more m same h =
    let f : Front [] tiles l more = front_of front tiles l more m same in
    subst Dollar (sym (front_bytes tiles l more f)) (front_add (joined f.trivia) f.b f.a (joined f.rest) (subst Dollar (sym (front_token tiles l more f)) h))

last_more : (ls ms : List Lexeme) (l : Lexeme) → has_more ((ls ++ l ∷ []) ++ ms) ≡ true
last_more [] ms l = refl
last_more (x ∷ ls) ms l = refl

-- the first of tiles before `}`
first_dollar : (ys : List Tile) → Dollar (joined ((ys ++ tile Op 125 [] ∷ []) ++ [])) → Dollar (joined ys)
first_dollar [] h = absurd cc
first_dollar (tile kind b a ∷ ys) h = h

written_dollar : FrontOfRow → (ys : List Tile) (ns : List NewToken) (l : Lexeme)
    → Spells (ys ++ tile Op 125 [] ∷ []) (map new_lexeme ns ++ l ∷ []) → Dollar (new_front ns) → Dollar (joined ys)
written_dollar front ys [] l p h = absurd cc
written_dollar front ys (n ∷ ns) l p h =
    first_dollar ys
    (dollar_new front ((ys ++ tile Op 125 [] ∷ []) ++ []) (new_lexeme n)
    ((map new_lexeme ns ++ l ∷ []) ++ spelled [] []) (last_more (map new_lexeme ns) (spelled [] []) l) (p []) h)

source_dollar : FrontOfRow → (tiles : List Tile) (cs : List Token) (l : Lexeme) (more : List Lexeme)
    → spelled [] tiles ≡ map lexeme cs ++ l ∷ more → Dollar (joined tiles) → (cs ≡ [] → ⊥) → Dollar (old_front cs)
source_dollar front tiles [] l more same h some = absurd (some refl)
source_dollar front tiles (c ∷ cs) l more same h some = dollar_old front tiles (lexeme c) (map lexeme cs ++ l ∷ more) (more_last cs l more) same h
  where
    more_last : (cs : List Token) (l : Lexeme) (more : List Lexeme) → has_more (map lexeme cs ++ l ∷ more) ≡ true
    more_last [] l more = refl
    more_last (x ∷ cs) l more = refl

-- ---- code up to `}`

-- The tiles of code up to `}`, and those of the text behind it.
pub record Shut (mark : Mark) (label : List ℕ) (over : List Mode) (depth : ℕ) (ns : List NewToken) (starts : Bool)
    (u : Token) (ts : List NewToken) (tiles : List Tile) (more : List Lexeme) : Type 0 where
  pub xs : List Tile
  pub ys : List Tile
  pub row : IsRewrittenTo false (any_stops xs) code code xs ys
  pub clean_row : all_clean ys ≡ true
  pub r_xs : List Tile
  pub r_ys : List Tile
  pub rest : List Tile
  pub split : tiles ≡ (xs ++ tile Op 125 [] ∷ r_xs) ++ rest
  pub left : spelled [] rest ≡ more
  pub text_row : units.TextRow r_xs r_ys
  pub clean_text : all_clean r_ys ≡ true
  pub text_spells : Spells r_ys (map new_lexeme ts)
  pub row_spells :
      (n : NewToken) (k : Kind) (c : ℕ) (e : List ℕ) →
      n.lead ≡ spaced outside u.lead →
      token_of k (c ∷ e) ≡ Some n.kind →
      c ∷ e ≡ after n.text →
      (us : List Tile) (ls : List Lexeme) →
      Spells us ls →
      Spells (ys ++ tile k c e ∷ us) (map new_lexeme ns ++ new_lexeme n ∷ ls)

pub shut : Means → RewritingsJoin → (stop starts : Bool) (u : Token) (cs : List Token) (ns : List NewToken)
    (ss : List Token) (ts : List NewToken) → IsMark 125 u → WrittenAs false stop cs ns → TextWrittenAs starts ss ts
    → (mark : Mark) (label : List ℕ) (over : List Mode) (depth : ℕ) (tiles : List Tile) (more : List Lexeme)
    → has_more more ≡ true → Steps V74 (stack_of code (quoted mark label false ∷ over) depth) tiles
    → spelled [] tiles ≡ map lexeme (cs ++ u ∷ ss) ++ more → Shut mark label over depth ns starts u ts tiles more
shut means join stop starts u cs ns ss ts mu written_as texts mark label over depth tiles more m steps same =
    let low = quoted mark label false ∷ over in
    let i : Inside ns u tiles (map lexeme ss ++ more) low depth =
    inside means join low depth u (map lexeme ss ++ more) stop cs ns tiles (mark_edge u 125 mu) written_as (more_behind ss more m) steps (same ∙ parted_spelled cs (u ∷ ss) more) in
    let end : tile i.kind i.b i.a ≡ tile Op 125 [] = mark_tile u 125 mu i.kind i.b i.a i.is i.text in
    let at : Steps V74 (stack_of code low depth) (tile Op 125 [] ∷ i.rest) = subst (λ (x : Tile). Steps V74 (stack_of code low depth) (x ∷ i.rest)) end i.steps in
    let r : TextStep ts starts i.rest more = texts mark label false over depth i.rest more m (first (stack_of code low depth) Op 125 [] i.rest at).more i.left in
    record {
      xs = i.xs;
      ys = i.ys;
      row = i.row;
      clean_row = i.clean;
      r_xs = r.xs;
      r_ys = r.ys;
      rest = r.rest;
      split =
          i.split
          ∙ ap (λ (x : Tile). i.xs ++ x ∷ i.rest) end
          ∙ ap (λ (l : List Tile). i.xs ++ tile Op 125 [] ∷ l) r.split
          ∙ sym (append_assoc i.xs (tile Op 125 [] ∷ r.xs) r.rest);
      left = r.left;
      text_row = r.row;
      clean_text = r.clean;
      text_spells = r.spells;
      row_spells = i.spells;
    }

kept_end : (u : Token) → IsMark 125 u → 125 ∷ [] ≡ after (hash_comment u).text
kept_end u mu = sym (ap (λ (l : List ℕ). l ++ []) mu.text)

-- ---- `{$..}`

pub curly_written_as : Means → RewritingsJoin → (stop starts : Bool) (t u : Token) (cs : List Token) (ns : List NewToken)
    (ss : List Token) (ts : List NewToken) → t.kind ≡ token.CurlyOpen → IsMark 125 u → (cs ≡ [] → ⊥)
    → (Dollar (old_front cs) → Dollar (new_front ns)) → WrittenAs false stop cs ns → TextWrittenAs starts ss ts
    → TextWrittenAs false (t ∷ (cs ++ u ∷ ss)) (hash_comment t ∷ (ns ++ hash_comment u ∷ ts))
curly_written_as means join stop starts t u cs ns ss ts is mu some dollar written_as texts mark label fresh over depth tiles more m steps same =
    let stack = stack_of (quoted mark label fresh) over depth in
    let left = map lexeme (cs ++ u ∷ ss) ++ more in
    let n : Next t tiles left = next_of means.front stack (quoted_bare mark label fresh) t tiles left (more_behind (cs ++ u ∷ ss) more m) steps same in
    let kind : n.kind ≡ CurlyOpen = tile_by token.CurlyOpen refl n.kind (n.b ∷ n.a) t.kind is n.is in
    let there : Steps V74 stack (tile CurlyOpen n.b n.a ∷ n.rest) =
    subst (λ (x : Kind). Steps V74 stack (tile x n.b n.a ∷ n.rest)) kind (subst (λ (l : List Tile). Steps V74 stack l) n.whole steps) in
    let one : tile CurlyOpen n.b n.a ≡ tile CurlyOpen 123 [] = curly_tile mark label fresh n.b n.a (joined n.rest) (first stack CurlyOpen n.b n.a n.rest there).longest in
    let at = first stack CurlyOpen 123 [] n.rest (subst (λ (x : Tile). Steps V74 stack (x ∷ n.rest)) one there) in
    let s : Shut mark label over depth ns starts u ts n.rest more = shut means join stop starts u cs ns ss ts mu written_as texts mark label over depth n.rest more m at.more n.tokens in
    let old : Dollar (old_front cs) =
    source_dollar means.front n.rest cs (lexeme u) (map lexeme ss ++ more)
    (n.tokens ∙ parted_spelled cs (u ∷ ss) more) (curly_next mark label fresh (joined n.rest) at.longest) some in
    let new : Dollar (joined s.ys) =
    written_dollar means.front s.ys ns (new_lexeme (hash_comment u))
    (s.row_spells (hash_comment u) Op 125 [] refl (ap Some (sym mu.kind)) (kept_end u mu) [] [] (λ rest. refl))
    (dollar old) in
    let p : Next t tiles left = as_tile CurlyOpen 123 [] t tiles left n (ap (λ (x : Kind). tile x n.b n.a) kind ∙ one) in
    record {
      xs = tile CurlyOpen 123 [] ∷ s.xs ++ tile Op 125 [] ∷ s.r_xs;
      ys = tile CurlyOpen 123 [] ∷ s.ys ++ tile Op 125 [] ∷ s.r_ys;
      rest = s.rest;
      split = p.whole ∙ ap (λ (l : List Tile). tile CurlyOpen 123 [] ∷ l) s.split;
      left = s.left;
      row = units.curly false (any_stops s.xs) s.xs s.ys new s.row s.text_row;
      starts_is = refl;
      spells = subst (λ (l : List Lexeme). Spells (tile CurlyOpen 123 [] ∷ s.ys ++ tile Op 125 [] ∷ s.r_ys)
          (new_lexeme (hash_comment t) ∷ l)) (sym (news_append ns (hash_comment u ∷ ts)))
          (next_spells t tiles left p (s.ys ++ tile Op 125 [] ∷ s.r_ys) (map new_lexeme ns ++ new_lexeme (hash_comment u) ∷ map new_lexeme ts)
          (s.row_spells (hash_comment u) Op 125 [] refl (ap Some (sym mu.kind)) (kept_end u mu) s.r_ys (map new_lexeme ts) s.text_spells));
      clean = clean_append s.ys (tile Op 125 [] ∷ s.r_ys) s.clean_row s.clean_text;
    }

-- ---- `${`

-- the tile of `${`, and the steps behind it
pub record Opened (mark : Mark) (label : List ℕ) (over : List Mode) (depth : ℕ) (t : Token) (tiles : List Tile) (more : List Lexeme) : Type 0 where
  pub rest : List Tile
  pub whole : tiles ≡ tile DollarBrace 36 (123 ∷ []) ∷ rest
  pub tokens : spelled [] rest ≡ more
  pub lead : [] ≡ after (spaced outside t.lead)
  pub behind : Steps V74 (stack_of named (quoted mark label false ∷ over) depth) rest

opened : FrontOfRow → (mark : Mark) (label : List ℕ) (fresh : Bool) (over : List Mode) (depth : ℕ) (t : Token)
    (tiles : List Tile) (more : List Lexeme) → t.kind ≡ token.DollarBrace → has_more more ≡ true
    → Steps V74 (stack_of (quoted mark label fresh) over depth) tiles → spelled [] tiles ≡ lexeme t ∷ more
    → Opened mark label over depth t tiles more
opened front mark label fresh over depth t tiles more is m steps same =
    let stack = stack_of (quoted mark label fresh) over depth in
    let n : Next t tiles more = next_of front stack (quoted_bare mark label fresh) t tiles more m steps same in
    let kind : n.kind ≡ DollarBrace = tile_by token.DollarBrace refl n.kind (n.b ∷ n.a) t.kind is n.is in
    let there : Steps V74 stack (tile DollarBrace n.b n.a ∷ n.rest) =
    subst (λ (x : Kind). Steps V74 stack (tile x n.b n.a ∷ n.rest)) kind (subst (λ (l : List Tile). Steps V74 stack l) n.whole steps) in
    let two : tile DollarBrace n.b n.a ≡ tile DollarBrace 36 (123 ∷ []) =
    dollar_tile mark label fresh n.b n.a (joined n.rest) (first stack DollarBrace n.b n.a n.rest there).longest in
    record {
      rest = n.rest;
      whole = n.whole ∙ ap (λ (x : Kind). tile x n.b n.a ∷ n.rest) kind ∙ ap (λ (x : Tile). x ∷ n.rest) two;
      tokens = n.tokens;
      lead = sym (ap (λ (l : List ℕ). after (spaced outside l)) n.lead);
      behind = (first stack DollarBrace 36 (123 ∷ []) n.rest (subst (λ (x : Tile). Steps V74 stack (x ∷ n.rest)) two there)).more;
    }

-- `${name..}`
pub named_written_as : Means → RewritingsJoin → (stop starts : Bool) (t v u : Token) (cs : List Token) (ns : List NewToken)
    (ss : List Token) (ts : List NewToken) → t.kind ≡ token.DollarBrace → v.kind ≡ token.VarName → IsMark 125 u
    → WrittenAs false stop cs ns → TextWrittenAs starts ss ts → TextWrittenAs true (t ∷ v ∷ (cs ++ u ∷ ss))
    (curly (hash_comment t) ∷ dollar_name (hash_comment v) ∷ (ns ++ hash_comment u ∷ ts))
named_written_as means join stop starts t v u cs ns ss ts is name mu written_as texts mark label fresh over depth tiles more m steps same =
    let low = quoted mark label false ∷ over in
    let left = map lexeme (cs ++ u ∷ ss) ++ more in
    let o : Opened mark label over depth t tiles (lexeme v ∷ left) = opened means.front mark label fresh over depth t tiles (lexeme v ∷ left) is refl steps same in
    let n : Next v o.rest left = next_name means.front low depth v o.rest left name (more_behind (cs ++ u ∷ ss) more m) o.behind o.tokens in
    let kind : n.kind ≡ VarName = tile_by token.VarName refl n.kind (n.b ∷ n.a) v.kind name n.is in
    let there : Steps V74 (stack_of named low depth) (tile VarName n.b n.a ∷ n.rest) =
    subst (λ (x : Kind). Steps V74 (stack_of named low depth) (tile x n.b n.a ∷ n.rest)) kind
    (subst (λ (l : List Tile). Steps V74 (stack_of named low depth) l) n.whole o.behind) in
    let s : Shut mark label over depth ns starts u ts n.rest more =
    shut means join stop starts u cs ns ss ts mu written_as texts mark label over depth n.rest more m (first (stack_of named low depth) VarName n.b n.a n.rest there).more n.tokens in
    let p : Next v o.rest left = as_kind VarName v o.rest left n kind in
    let text : 36 ∷ n.b ∷ n.a ≡ after (dollar_name (hash_comment v)).text =
    ap (λ (l : List ℕ). 36 ∷ l) (n.text ∙ sym (append-nil v.text)) ∙ ap (λ (l : List ℕ). 36 ∷ after (spaced outside l ++ kept v.text ∷ [])) (sym n.lead) in
    let behind = s.ys ++ tile Op 125 [] ∷ s.r_ys in
    let last = map new_lexeme ns ++ new_lexeme (hash_comment u) ∷ map new_lexeme ts in
    record {
      xs = tile DollarBrace 36 (123 ∷ []) ∷ tile VarName n.b n.a ∷ s.xs ++ tile Op 125 [] ∷ s.r_xs;
      ys = tile CurlyOpen 123 [] ∷ tile Variable 36 (n.b ∷ n.a) ∷ s.ys ++ tile Op 125 [] ∷ s.r_ys;
      rest = s.rest;
      split = o.whole ∙ ap (λ (l : List Tile). tile DollarBrace 36 (123 ∷ []) ∷ l) (p.whole ∙ ap (λ (l : List Tile). tile VarName n.b n.a ∷ l) s.split);
      left = s.left;
      row = units.dollar_name false (any_stops s.xs) n.b n.a s.xs s.ys s.row s.text_row;
      starts_is = refl;
      spells = subst (λ (l : List Lexeme). Spells (tile CurlyOpen 123 [] ∷ tile Variable 36 (n.b ∷ n.a) ∷ behind)
          (new_lexeme (curly (hash_comment t)) ∷ new_lexeme (dollar_name (hash_comment v)) ∷ l))
          (sym (news_append ns (hash_comment u ∷ ts)))
          (led_spells [] refl CurlyOpen 123 [] (new_lexeme (curly (hash_comment t))) o.lead refl refl
          (tile Variable 36 (n.b ∷ n.a) ∷ behind) (new_lexeme (dollar_name (hash_comment v)) ∷ last)
          (led_spells [] refl Variable 36 (n.b ∷ n.a) (new_lexeme (dollar_name (hash_comment v))) refl refl text behind last
          (s.row_spells (hash_comment u) Op 125 [] refl (ap Some (sym mu.kind)) (kept_end u mu) s.r_ys (map new_lexeme ts) s.text_spells)));
      clean = clean_append s.ys (tile Op 125 [] ∷ s.r_ys) s.clean_row s.clean_text;
    }

-- whether a name behind `${` isn't first
abbrev pub begins_other : List Token → Bool
begins_other [] = true
begins_other (t ∷ ts) = not (is_name_kind t.kind)

other_first : (tiles : List Tile) (cs : List Token) (u : Token) (more : List Lexeme) → begins_other cs ≡ true
    → u.kind ≡ token.Op → spelled [] tiles ≡ map lexeme cs ++ lexeme u ∷ more → units.begins_var_name tiles ≡ false
other_first tiles [] u more h op same = no_name_first tiles (lexeme u) more same (ap is_name_kind op)
other_first tiles (c ∷ cs) u more h op same = no_name_first tiles (lexeme c) (map lexeme cs ++ lexeme u ∷ more) same (not-true (is_name_kind c.kind) h)

-- `${..}`
pub row_written_as : Means → RewritingsJoin → (stop starts : Bool) (t u : Token) (cs : List Token) (ns : List NewToken)
    (ss : List Token) (ts : List NewToken) → t.kind ≡ token.DollarBrace → begins_other cs ≡ true → IsMark 125 u
    → WrittenAs false stop cs ns → TextWrittenAs starts ss ts → TextWrittenAs true (t ∷ (cs ++ u ∷ ss))
    (curly (hash_comment t) ∷ put_also token.Op (codes "$") ∷ put_also token.Op (codes "{")
    ∷ (ns ++ retexted token.Op (codes "}") (hash_comment u) ∷ put_also token.Op (codes "}") ∷ ts))
row_written_as means join stop starts t u cs ns ss ts is other mu written_as texts mark label fresh over depth tiles more m steps same =
    let low = quoted mark label false ∷ over in
    let left = map lexeme (cs ++ u ∷ ss) ++ more in
    let o : Opened mark label over depth t tiles left = opened means.front mark label fresh over depth t tiles left is (more_behind (cs ++ u ∷ ss) more m) steps same in
    let apart : units.begins_var_name o.rest ≡ false = other_first o.rest cs u (map lexeme ss ++ more) other mu.kind (o.tokens ∙ parted_spelled cs (u ∷ ss) more) in
    let s : Shut mark label over depth ns starts u ts o.rest more =
    shut means join stop starts u cs ns ss ts mu written_as texts mark label over depth o.rest more m (named_code low depth o.rest apart o.behind) o.tokens in
    let close = retexted token.Op (codes "}") (hash_comment u) in
    let twice = tile Op 125 [] ∷ s.r_ys in
    let behind = s.ys ++ tile Op 125 [] ∷ twice in
    let last = map new_lexeme ns ++ new_lexeme close ∷ new_lexeme (put_also token.Op (codes "}")) ∷ map new_lexeme ts in
    record {
      xs = tile DollarBrace 36 (123 ∷ []) ∷ s.xs ++ tile Op 125 [] ∷ s.r_xs;
      ys = tile CurlyOpen 123 [] ∷ tile Op 36 [] ∷ tile Op 123 [] ∷ s.ys ++ tile Op 125 [] ∷ tile Op 125 [] ∷ s.r_ys;
      rest = s.rest;
      split = o.whole ∙ ap (λ (l : List Tile). tile DollarBrace 36 (123 ∷ []) ∷ l) s.split;
      left = s.left;
      row = units.dollar_row false (any_stops s.xs) s.xs s.ys
          (name_front s.xs (tile Op 125 [] ∷ s.r_xs ++ s.rest)
          (subst (λ (l : List Tile). units.begins_var_name l ≡ false) (s.split ∙ append_assoc s.xs (tile Op 125 [] ∷ s.r_xs) s.rest) apart)) s.row s.text_row;
      starts_is = refl;
      spells = subst (λ (l : List Lexeme). Spells (tile CurlyOpen 123 [] ∷ tile Op 36 [] ∷ tile Op 123 [] ∷ behind)
          (new_lexeme (curly (hash_comment t)) ∷ new_lexeme (put_also token.Op (codes "$"))
          ∷ new_lexeme (put_also token.Op (codes "{")) ∷ l))
          (sym (news_append ns (close ∷ put_also token.Op (codes "}") ∷ ts)))
          (led_spells [] refl CurlyOpen 123 [] (new_lexeme (curly (hash_comment t))) o.lead refl refl
          (tile Op 36 [] ∷ tile Op 123 [] ∷ behind)
          (new_lexeme (put_also token.Op (codes "$")) ∷ new_lexeme (put_also token.Op (codes "{")) ∷ last)
          (led_spells [] refl Op 36 [] (new_lexeme (put_also token.Op (codes "$"))) refl refl refl (tile Op 123 [] ∷ behind) (new_lexeme (put_also token.Op (codes "{")) ∷ last)
          (led_spells [] refl Op 123 [] (new_lexeme (put_also token.Op (codes "{"))) refl refl refl behind last
          (s.row_spells close Op 125 [] refl refl refl twice (new_lexeme (put_also token.Op (codes "}")) ∷ map new_lexeme ts)
          (led_spells [] refl Op 125 [] (new_lexeme (put_also token.Op (codes "}"))) refl refl refl s.r_ys (map new_lexeme ts) s.text_spells)))));
      clean = clean_append s.ys (tile Op 125 [] ∷ twice) s.clean_row s.clean_text;
    }
