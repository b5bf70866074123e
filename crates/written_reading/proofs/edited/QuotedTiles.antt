-- The tiles of a quoted text: which kinds stand there, and what stands behind them.
use Rattle.std.proofs.Common.{◌≡◌, ℕ, suc, Bool, true, false, cond, ◌&&◌, ◌||◌, nat_eq, List, [], ◌∷◌, ◌++◌, length, Some, refl, sym, ap, ◌∙◌, subst, append-nil}
use Rattle.std.proofs.lemmas.Bool.{and_parts}
use Rattle.php_tree.specs.declared.version.Version.TheVariants.{V74}
use Rattle.php_tree.specs.declared.token.Token.{Token}
use Rattle.php_tree.specs.declared.token.TokenKind.{TokenKind}
use Rattle.php_tree.specs.declared.token.TokenKind.TheVariants as token
use Rattle.php_spellings.specs.declared.table.Kind.{Kind}
use Rattle.php_spellings.specs.declared.table.Kind.TheVariants.{
  Space,
  Comment,
  Tag,
  Variable,
  Word,
  Label,
  Keyword,
  Decimal,
  Octal,
  Hexadecimal,
  Binary,
  Op,
  Piece,
  CurlyOpen,
  DollarBrace,
  VarName,
  QuotedEnd,
}
use Rattle.php_spellings.specs.declared.table.Mark.{Mark}
use Rattle.php_spellings.specs.declared.table.Mark.TheVariants.{Double, Back, Here}
use Rattle.php_spellings.specs.Bytes.{lower, is_empty, begins_by}
use Rattle.php_spellings.specs.Words.{token_of}
use Rattle.php_lexer.specs.Modes.{Mode, code, named, quoted, offset, property, stay, enter, begins_arrow, part_mode_step, mode_step_of, IsLongest}
use Rattle.php_lexer.specs.Lexed.{Lexeme, Stack, lexeme, stepped_by}
use Rattle.php_relexing.specs.Tiles.{Tile, tile, joined}
use Rattle.php_relexing.specs.Spelled.{Steps, done, spelled}
use Rattle.php_relexing.specs.Written.{is_var_name}
use Rattle.php_relexing.proofs.Operators.{mark_same}
use Rattle.php_relexing.proofs.Picked.{longest_meets}
use Rattle.tracked_changes.specs.Pieces.{after}
use Rattle.syntax_rules.specs.HashComment.{outside, spaced, hash_comment}
use Rattle.written_tokens.specs.tokens.Written.{new_lexeme}
use Rattle.written_tokens.specs.tokens.Levels.{stack_of}
use Rattle.written_tokens.specs.tiles.ContinuesAs.{is_trivia}
use Rattle.written_tokens.specs.tiles.Edits.{all_trivia}
use Rattle.written_tokens.specs.texts.TextRows.{is_op, begins_var_name}
use Rattle.written_tokens.proofs.texts.Stepping.{named_steps}
use Rattle.written_tokens.specs.names.Fronts.{Front, FrontOfRow}
use Rattle.rewritten_shapes.specs.paired.Tokens.{is_op as is_op_token}
use Rattle.written_reading.proofs.edited.Spelling.{Spells, led_spells, step_longest, step_behind}
use Rattle.written_reading.proofs.edited.WrittenAs.{has_more}
use Rattle.written_reading.proofs.edited.TileKinds.{token_like, told, some_same}
use Rattle.written_reading.proofs.edited.Leads.{front_of}

-- ---- tiles by the kinds of tokens

-- whether tiles of one kind alone have tokens of the kind
abbrev pub has_one_tile : TokenKind → Bool
has_one_tile token.Variable = true
has_one_tile token.Op = true
has_one_tile token.Piece = true
has_one_tile token.CurlyOpen = true
has_one_tile token.DollarBrace = true
has_one_tile token.VarName = true
has_one_tile token.QuotedEnd = true
has_one_tile _ = false

abbrev pub tile_like : TokenKind → Kind
tile_like token.Variable = Variable
tile_like token.Op = Op
tile_like token.Piece = Piece
tile_like token.CurlyOpen = CurlyOpen
tile_like token.DollarBrace = DollarBrace
tile_like token.VarName = VarName
tile_like token.QuotedEnd = QuotedEnd
tile_like _ = Space

like_one : (kind : Kind) (text : List ℕ) (k : TokenKind) → token_of kind text ≡ Some k → has_one_tile (token_like kind) ≡ true → k ≡ token_like kind
like_one Space text k e h = absurd cc
like_one Comment text k e h = absurd cc
like_one Tag text k e h = absurd cc
like_one Word text k e h = absurd cc
like_one Decimal text k e h = absurd cc
like_one Octal text k e h = absurd cc
like_one Hexadecimal text k e h = absurd cc
like_one Binary text k e h = absurd cc
like_one kind text k e h = some_same (token_like kind) k e

there_back : (kind : Kind) → has_one_tile (token_like kind) ≡ true → tile_like (token_like kind) ≡ kind
there_back Variable h = refl
there_back Op h = refl
there_back Piece h = refl
there_back CurlyOpen h = refl
there_back DollarBrace h = refl
there_back VarName h = refl
there_back QuotedEnd h = refl
there_back kind h = absurd cc

-- the tile of such a token
pub tile_by : (x : TokenKind) → has_one_tile x ≡ true → (kind : Kind) (text : List ℕ) (k : TokenKind) → k ≡ x → token_of kind text ≡ Some k → kind ≡ tile_like x
tile_by x one kind text k same e =
    let h : has_one_tile (token_like kind) ≡ true = sym (told has_one_tile refl refl kind text k e) ∙ ap has_one_tile same ∙ one in
    sym (there_back kind h) ∙ ap tile_like (sym (like_one kind text k e h) ∙ same)

-- ---- modes without trivia

abbrev pub NoTrivia : Mode → Type 0
NoTrivia m = (kind : Kind) (b : ℕ) (a r : List ℕ) → is_trivia kind ≡ true → IsLongest V74 m (b ∷ a ++ r) kind (suc (length a)) → ⊥

pub quoted_bare : (mark : Mark) (label : List ℕ) (fresh : Bool) → NoTrivia (quoted mark label fresh)
quoted_bare Double label fresh kind b a r p h = let none : false ≡ true = longest_meets is_trivia V74 (quoted Double label fresh) (b ∷ a) r kind p h in cc
quoted_bare Back label fresh kind b a r p h = let none : false ≡ true = longest_meets is_trivia V74 (quoted Back label fresh) (b ∷ a) r kind p h in cc
quoted_bare Here label true kind b a r p h = let none : false ≡ true = longest_meets is_trivia V74 (quoted Here label true) (b ∷ a) r kind p h in cc
quoted_bare Here label false kind b a r p h = let none : false ≡ true = longest_meets is_trivia V74 (quoted Here label false) (b ∷ a) r kind p h in cc

pub offset_bare : NoTrivia offset
offset_bare kind b a r p h = let none : false ≡ true = longest_meets is_trivia V74 offset (b ∷ a) r kind p h in cc

pub property_bare : NoTrivia property
property_bare kind b a r p h = let none : false ≡ true = longest_meets is_trivia V74 property (b ∷ a) r kind p h in cc

-- behind a variable of a quoted text
part_bare : (mark : Mark) (label : List ℕ) (stack : Stack) (t u : Bool)
    → NoTrivia (stepped_by (cond t (enter offset (quoted mark label false))
    (cond u (enter property (quoted mark label false)) (stay (quoted mark label false)))) stack).top
part_bare mark label stack true u = offset_bare
part_bare mark label stack false true = property_bare
part_bare mark label stack false false = quoted_bare mark label false

pub behind_bare : (mark : Mark) (label : List ℕ) (stack : Stack) (rest : List ℕ) → NoTrivia (stepped_by (part_mode_step V74 (quoted mark label false) rest) stack).top
behind_bare mark label stack rest = part_bare mark label stack (begins_by 91 rest) (begins_arrow rest)

-- ---- tokens without trivia

-- The row begins with the token's tile.
pub record Next (t : Token) (tiles : List Tile) (more : List Lexeme) : Type 0 where
  pub kind : Kind
  pub b : ℕ
  pub a : List ℕ
  pub rest : List Tile
  pub whole : tiles ≡ tile kind b a ∷ rest
  pub is : token_of kind (b ∷ a) ≡ Some t.kind
  pub text : b ∷ a ≡ t.text
  pub lead : t.lead ≡ []
  pub tokens : spelled [] rest ≡ more

no_gap : (stack : Stack) → NoTrivia stack.top → (ts rest : List Tile) → all_trivia ts ≡ true → Steps V74 stack (ts ++ rest) → ts ≡ []
no_gap stack bare [] rest p steps = refl
no_gap stack bare (tile kind b a ∷ ts) rest p steps = absurd (bare kind b a (joined (ts ++ rest)) (and_parts (is_trivia kind) (all_trivia ts) p).0 (step_longest steps))

next_by : (t : Token) (tiles : List Tile) (more : List Lexeme) → (f : Front [] tiles (lexeme t) more) → f.trivia ≡ [] → Next t tiles more
next_by t tiles more f none = record {
  kind = f.kind;
  b = f.b;
  a = f.a;
  rest = f.rest;
  whole = f.whole ∙ ap (λ (ts : List Tile). ts ++ tile f.kind f.b f.a ∷ f.rest) none;
  is = f.is;
  text = f.text;
  lead = sym f.lead ∙ ap joined none;
  tokens = f.tokens;
}

pub next_of : FrontOfRow → (stack : Stack) → NoTrivia stack.top → (t : Token) (tiles : List Tile) (more : List Lexeme)
    → has_more more ≡ true → Steps V74 stack tiles → spelled [] tiles ≡ lexeme t ∷ more → Next t tiles more
next_of front stack bare t tiles more m steps same =
    let f : Front [] tiles (lexeme t) more = front_of front tiles (lexeme t) more m same in
    next_by t tiles more f
    (no_gap stack bare f.trivia (tile f.kind f.b f.a ∷ f.rest) f.free (subst (λ (ts : List Tile). Steps V74 stack ts) f.whole steps))

-- the tile that is kept for it
pub next_spells : (t : Token) (tiles : List Tile) (more : List Lexeme) → (n : Next t tiles more)
    → (us : List Tile) (ls : List Lexeme) → Spells us ls → Spells (tile n.kind n.b n.a ∷ us)
    (new_lexeme (hash_comment t) ∷ ls)
next_spells t tiles more n us ls p =
    led_spells [] refl n.kind n.b n.a (new_lexeme (hash_comment t)) (sym (ap (λ (l : List ℕ). after (spaced outside l)) n.lead)) n.is (n.text ∙ sym (append-nil t.text)) us ls p

-- ---- single tiles

or_none : (x : Bool) → (x || false) ≡ true → x ≡ true
or_none true h = refl
or_none false h = absurd cc

empty_is : (a : List ℕ) → is_empty a ≡ true → a ≡ []
empty_is [] h = refl
empty_is (b ∷ a) h = absurd cc

abbrev is_curly : Kind → Bool
is_curly CurlyOpen = true
is_curly _ = false

abbrev is_dollar : Kind → Bool
is_dollar DollarBrace = true
is_dollar _ = false

curly_by : (b : ℕ) (a r : List ℕ) (x : Bool) → (nat_eq 123 (lower b) && (is_empty a && x) || false) ≡ true → tile CurlyOpen b a ≡ tile CurlyOpen 123 []
curly_by b a r x h =
    let p = and_parts (nat_eq 123 (lower b)) (is_empty a && x) (or_none _ h) in
    ap (λ (y : ℕ). tile CurlyOpen y a) (mark_same 123 b refl p.0) ∙ ap (tile CurlyOpen 123) (empty_is a (and_parts (is_empty a) x p.1).0)

-- `{` is one byte
pub curly_tile : (mark : Mark) (label : List ℕ) (fresh : Bool) (b : ℕ) (a r : List ℕ)
    → IsLongest V74 (quoted mark label fresh) (b ∷ a ++ r) CurlyOpen (suc (length a))
    → tile CurlyOpen b a ≡ tile CurlyOpen 123 []
curly_tile Double label fresh b a r h = curly_by b a r (begins_by 36 r) (longest_meets is_curly V74 (quoted Double label fresh) (b ∷ a) r CurlyOpen refl h)
curly_tile Back label fresh b a r h = curly_by b a r (begins_by 36 r) (longest_meets is_curly V74 (quoted Back label fresh) (b ∷ a) r CurlyOpen refl h)
curly_tile Here label true b a r h = curly_by b a r (begins_by 36 r) (longest_meets is_curly V74 (quoted Here label true) (b ∷ a) r CurlyOpen refl h)
curly_tile Here label false b a r h = curly_by b a r (begins_by 36 r) (longest_meets is_curly V74 (quoted Here label false) (b ∷ a) r CurlyOpen refl h)

dollar_by : (b : ℕ) (a : List ℕ) (x : Bool) → (nat_eq 36 (lower b) && x || false) ≡ true → (x ≡ true → a ≡ 123 ∷ []) → tile DollarBrace b a ≡ tile DollarBrace 36 (123 ∷ [])
dollar_by b a x h p =
    let q = and_parts (nat_eq 36 (lower b)) x (or_none _ h) in
    ap (λ (y : ℕ). tile DollarBrace y a) (mark_same 36 b refl q.0) ∙ ap (tile DollarBrace 36) (p q.1)

brace_by : (x : ℕ) (a : List ℕ) → (nat_eq 123 (lower x) && (is_empty a && true)) ≡ true → x ∷ a ≡ 123 ∷ []
brace_by x a h =
    let q = and_parts (nat_eq 123 (lower x)) (is_empty a && true) h in
    ap (λ (y : ℕ). y ∷ a) (mark_same 123 x refl q.0) ∙ ap (λ (l : List ℕ). 123 ∷ l) (empty_is a (and_parts (is_empty a) true q.1).0)

-- `${` is two bytes
pub dollar_tile : (mark : Mark) (label : List ℕ) (fresh : Bool) (b : ℕ) (a r : List ℕ)
    → IsLongest V74 (quoted mark label fresh) (b ∷ a ++ r) DollarBrace (suc (length a))
    → tile DollarBrace b a ≡ tile DollarBrace 36 (123 ∷ [])
dollar_tile Double label fresh b [] r h = dollar_by b [] false (longest_meets is_dollar V74 (quoted Double label fresh) (b ∷ []) r DollarBrace refl h) (λ e. absurd cc)
dollar_tile Double label fresh b (x ∷ a) r h = dollar_by b (x ∷ a) (nat_eq 123 (lower x) && (is_empty a && true))
    (longest_meets is_dollar V74 (quoted Double label fresh) (b ∷ x ∷ a) r DollarBrace refl h) (brace_by x a)
dollar_tile Back label fresh b [] r h = dollar_by b [] false (longest_meets is_dollar V74 (quoted Back label fresh) (b ∷ []) r DollarBrace refl h) (λ e. absurd cc)
dollar_tile Back label fresh b (x ∷ a) r h = dollar_by b (x ∷ a) (nat_eq 123 (lower x) && (is_empty a && true))
    (longest_meets is_dollar V74 (quoted Back label fresh) (b ∷ x ∷ a) r DollarBrace refl h) (brace_by x a)
dollar_tile Here label true b [] r h = dollar_by b [] false (longest_meets is_dollar V74 (quoted Here label true) (b ∷ []) r DollarBrace refl h) (λ e. absurd cc)
dollar_tile Here label true b (x ∷ a) r h = dollar_by b (x ∷ a) (nat_eq 123 (lower x) && (is_empty a && true))
    (longest_meets is_dollar V74 (quoted Here label true) (b ∷ x ∷ a) r DollarBrace refl h) (brace_by x a)
dollar_tile Here label false b [] r h = dollar_by b [] false (longest_meets is_dollar V74 (quoted Here label false) (b ∷ []) r DollarBrace refl h) (λ e. absurd cc)
dollar_tile Here label false b (x ∷ a) r h = dollar_by b (x ∷ a) (nat_eq 123 (lower x) && (is_empty a && true))
    (longest_meets is_dollar V74 (quoted Here label false) (b ∷ x ∷ a) r DollarBrace refl h) (brace_by x a)

-- ---- names behind `${`

no_var : (below : List Mode) (depth : ℕ) (ts : List Tile) (b : ℕ) (a : List ℕ) (rest : List Tile)
    → all_trivia ts ≡ true → Steps V74 (stack_of code below depth) (ts ++ tile VarName b a ∷ rest) → ⊥
no_var below depth [] b a rest p steps = let none : false ≡ true = longest_meets is_var_name V74 code (b ∷ a) (joined rest) VarName refl (step_longest steps) in cc
no_var below depth (tile Space x y ∷ ts) b a rest p steps = no_var below depth ts b a rest p (step_behind steps)
no_var below depth (tile Comment x y ∷ ts) b a rest p steps = no_var below depth ts b a rest p (step_behind steps)
no_var below depth (tile Tag x y ∷ ts) b a rest p steps = no_var below depth ts b a rest p (step_behind steps)
no_var below depth (tile _ x y ∷ ts) b a rest p steps = cc

name_gap : (below : List Mode) (depth : ℕ) (ts : List Tile) (b : ℕ) (a : List ℕ) (rest : List Tile)
    → all_trivia ts ≡ true → Steps V74 (stack_of named below depth) (ts ++ tile VarName b a ∷ rest) → ts ≡ []
name_gap below depth [] b a rest p steps = refl
name_gap below depth (tile Space x y ∷ ts) b a rest p steps = absurd (no_var below depth ts b a rest p (step_behind steps))
name_gap below depth (tile Comment x y ∷ ts) b a rest p steps = absurd (no_var below depth ts b a rest p (step_behind steps))
name_gap below depth (tile Tag x y ∷ ts) b a rest p steps = absurd (no_var below depth ts b a rest p (step_behind steps))
name_gap below depth (tile _ x y ∷ ts) b a rest p steps = absurd cc

pub next_name : FrontOfRow → (below : List Mode) (depth : ℕ) (t : Token) (tiles : List Tile) (more : List Lexeme)
    → t.kind ≡ token.VarName → has_more more ≡ true → Steps V74 (stack_of named below depth) tiles
    → spelled [] tiles ≡ lexeme t ∷ more → Next t tiles more
next_name front below depth t tiles more name m steps same =
    let f : Front [] tiles (lexeme t) more = front_of front tiles (lexeme t) more m same in
    let kind : f.kind ≡ VarName = tile_by token.VarName refl f.kind (f.b ∷ f.a) t.kind name f.is in
    let there : Steps V74 (stack_of named below depth) (f.trivia ++ tile VarName f.b f.a ∷ f.rest) =
    subst (λ (x : Kind). Steps V74 (stack_of named below depth) (f.trivia ++ tile x f.b f.a ∷ f.rest)) kind
    (subst (λ (ts : List Tile). Steps V74 (stack_of named below depth) ts) f.whole steps) in
    next_by t tiles more f (name_gap below depth f.trivia f.b f.a f.rest f.free there)

-- ---- code behind `${`

abbrev pub is_name_kind : TokenKind → Bool
is_name_kind token.VarName = true
is_name_kind _ = false

first_name : (b : ℕ) (a : List ℕ) (ts : List Tile) (l : Lexeme) (more : List Lexeme) → spelled [] (tile VarName b a ∷ ts) ≡ l ∷ more → is_name_kind l.kind ≡ true
first_name b a ts l more e = let k : token.VarName ≡ l.kind = cc in ap is_name_kind (sym k)

pub no_name_first : (tiles : List Tile) (l : Lexeme) (more : List Lexeme) → spelled [] tiles ≡ l ∷ more → is_name_kind l.kind ≡ false → begins_var_name tiles ≡ false
no_name_first [] l more e h = refl
no_name_first (tile VarName b a ∷ ts) l more e h = let clash : true ≡ false = sym (first_name b a ts l more e) ∙ h in absurd cc
no_name_first (tile _ b a ∷ ts) l more e h = refl

not_name : (kind : Kind) (b : ℕ) (a : List ℕ) (ts : List Tile) → begins_var_name (tile kind b a ∷ ts) ≡ false → is_var_name kind ≡ false
not_name VarName b a ts h = absurd cc
not_name kind b a ts h = refl

pub named_code : (below : List Mode) (depth : ℕ) (tiles : List Tile) → begins_var_name tiles ≡ false
    → Steps V74 (stack_of named below depth) tiles → Steps V74 (stack_of code below depth) tiles
named_code below depth [] h (done p) = done p
named_code below depth (tile kind b a ∷ ts) h steps = named_steps below depth kind b a ts (not_name kind b a ts h) steps

pub name_front : (xs ys : List Tile) → begins_var_name (xs ++ ys) ≡ false → begins_var_name xs ≡ false
name_front [] ys h = refl
name_front (tile VarName b a ∷ xs) ys h = h
name_front (tile _ b a ∷ xs) ys h = refl

-- ---- simple offsets and properties

pub key_tile : (kind : Kind) → is_op_token (token_like kind) ≡ false → is_op kind ≡ false
key_tile Op h = absurd cc
key_tile kind h = refl

pub offset_stays : (kind : Kind) (text rest : List ℕ) → is_op kind ≡ false → mode_step_of V74 offset kind text rest ≡ stay offset
offset_stays Op text rest h = absurd cc
offset_stays kind text rest h = refl

abbrev is_word_kind : TokenKind → Bool
is_word_kind token.Label = true
is_word_kind token.Keyword = true
is_word_kind _ = false

abbrev is_word_tile : Kind → Bool
is_word_tile Word = true
is_word_tile Keyword = true
is_word_tile _ = false

no_word : (kind : Kind) (b : ℕ) (a r : List ℕ) → is_word_tile kind ≡ true → IsLongest V74 property (b ∷ a ++ r) kind (suc (length a)) → ⊥
no_word kind b a r p h = let none : false ≡ true = longest_meets is_word_tile V74 property (b ∷ a) r kind p h in cc

label_like : (kind : Kind) (b : ℕ) (a r : List ℕ) → is_word_kind (token_like kind) ≡ true → IsLongest V74 property (b ∷ a ++ r) kind (suc (length a)) → kind ≡ Label
label_like Label b a r p h = refl
label_like Word b a r p h = absurd (no_word Word b a r refl h)
label_like Keyword b a r p h = absurd (no_word Keyword b a r refl h)
label_like kind b a r p h = absurd cc

pub label_tile : (kind : Kind) (b : ℕ) (a r : List ℕ) (k : TokenKind) → k ≡ token.Label
    → token_of kind (b ∷ a) ≡ Some k → IsLongest V74 property (b ∷ a ++ r) kind (suc (length a)) → kind ≡ Label
label_tile kind b a r k same e h = label_like kind b a r (sym (told is_word_kind refl refl kind (b ∷ a) k e) ∙ ap is_word_kind same) h
