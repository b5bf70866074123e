-- The parts of a quoted text that stand between pieces, and what becomes of them.
use Rattle.std.proofs.Common.{◌≡◌, ℕ, Bool, true, false, not, cond, ◌&&◌, ◌||◌, nat_eq, nat_lt, length, slice_index, codes, List, refl, sym, ap, ◌∙◌}
use Rattle.std.specs.Char.{to_ascii_lowercase}
use Rattle.std.proofs.lemmas.Bool.{and_from}
use Rattle.php_tree.specs.declared.token.Token.{Token}
use Rattle.php_tree.specs.declared.token.TokenKind.{TokenKind}
use Rattle.php_tree.specs.declared.token.TokenKind.TheVariants as token
use Rattle.php_tree.specs.declared.version.Version.TheVariants.{V83}
use Rattle.php_tree.specs.Tree.{Forest, none, leaf, node, ◌+++◌}
use Rattle.php_terminals.specs.declared.terminal.Terminal.{Terminal}
use Rattle.php_terminals.specs.declared.terminal.Terminal.TheVariants as t
use Rattle.php_terminals.specs.Classify.{cast, cast_letter, name, opening, terminal, terminal_by}
use Rattle.php_terminals.specs.Indents.{fresh_behind, fresh_by, last_text, leaf_fits, leaf_fits_by, node_fits, parts_fit}
use Rattle.php_terminals.specs.Words.{find_row, front, keyword, keywords, label, labels, operator, operators}
use Rattle.php_terminals.specs.Words as words
use Rattle.php_grammar.specs.Accepts.{same_class}
use Rattle.php_shapes.specs.Nearest.{ends_in_if, ends_in_yield, goes_on_if, is_open_if, is_open_yield, is_to}
use Rattle.php_shapes.specs.Notation.{Rule, many}
use Rattle.php_shapes.specs.Shapes.{Fits, no_more, once_more}
use Rattle.syntax_rules.specs.DollarBrace.{is_dollar_brace, is_piece}
use Rattle.rewritten_shapes.proofs.Braces.{is_quiet}
use Rattle.rewritten_shapes.proofs.OperatorWords.{found}
use Rattle.rewritten_shapes.proofs.QuotedLines.{are_blank}
use Rattle.rewritten_shapes.proofs.Sides.{and_left, and_right}

-- ---- parts beside each other

-- whether a line begins behind parts
abbrev pub fresh_past : Bool → Forest → Bool
fresh_past fresh none = fresh
fresh_past fresh (leaf x f) = fresh_past (fresh_behind fresh x) f
fresh_past fresh (node k c f) = fresh_past false f

and_assoc : (a b c : Bool) → (a && (b && c)) ≡ ((a && b) && c)
and_assoc true b c = refl
and_assoc false b c = refl

pub fit_join : (indent : List ℕ) (fresh : Bool) (g h : Forest) → parts_fit indent fresh (g +++ h) ≡ (parts_fit indent fresh g && parts_fit indent (fresh_past fresh g) h)
fit_join indent fresh none h = refl
fit_join indent fresh (leaf x g) h =
    ap (λ (b : Bool). leaf_fits indent fresh x && b) (fit_join indent (fresh_behind fresh x) g h)
    ∙ and_assoc (leaf_fits indent fresh x) (parts_fit indent (fresh_behind fresh x) g) (parts_fit indent (fresh_past (fresh_behind fresh x) g) h)
fit_join indent fresh (node k c g) h =
    ap (λ (b : Bool). node_fits indent fresh && b) (fit_join indent false g h)
    ∙ and_assoc (node_fits indent fresh) (parts_fit indent false g) (parts_fit indent (fresh_past false g) h)

fresh_join : (fresh : Bool) (g h : Forest) → fresh_past fresh (g +++ h) ≡ fresh_past (fresh_past fresh g) h
fresh_join fresh none h = refl
fresh_join fresh (leaf x g) h = fresh_join (fresh_behind fresh x) g h
fresh_join fresh (node k c g) h = fresh_join false g h

pub quiet_join : (g h : Forest) → is_quiet (g +++ h) ≡ (is_quiet g && is_quiet h)
quiet_join none h = refl
quiet_join (leaf x g) h =
    ap (λ (b : Bool). not (goes_on_if (terminal x)) && (not (is_to (terminal x)) && b)) (quiet_join g h)
    ∙ ap (λ (b : Bool). not (goes_on_if (terminal x)) && b) (and_assoc (not (is_to (terminal x))) (is_quiet g) (is_quiet h))
    ∙ and_assoc (not (goes_on_if (terminal x))) (not (is_to (terminal x)) && is_quiet g) (is_quiet h)
quiet_join (node k c g) h = quiet_join g h

-- new parts of a quoted text, for these
pub record Part (r : Rule) (f g : Forest) : Type 0 where
  pub fits : Fits V83 r g
  pub quiet : is_quiet g ≡ true
  pub lines : (indent : List ℕ) (fresh : Bool) → are_blank indent ≡ true → parts_fit indent fresh f ≡ true → parts_fit indent fresh g ≡ true
  pub begins : (fresh : Bool) → fresh_past fresh g ≡ fresh_past fresh f

pub lines_join : (indent : List ℕ) (fresh : Bool) (r : Rule) (f g h i : Forest) → Part r f g → are_blank indent ≡ true
    → ((b : Bool) → parts_fit indent b h ≡ true → parts_fit indent b i ≡ true)
    → parts_fit indent fresh (f +++ h) ≡ true → parts_fit indent fresh (g +++ i) ≡ true
lines_join indent fresh r f g h i p e q d =
    let s = sym (fit_join indent fresh f h) ∙ d in
    let one = p.lines indent fresh e (and_left (parts_fit indent fresh f) (parts_fit indent (fresh_past fresh f) h) s) in
    let two = q (fresh_past fresh f) (and_right (parts_fit indent fresh f) (parts_fit indent (fresh_past fresh f) h) s) in
    fit_join indent fresh g i
    ∙ and_from (parts_fit indent fresh g) (parts_fit indent (fresh_past fresh g) i) one (ap (λ (b : Bool). parts_fit indent b i) (p.begins fresh) ∙ two)

pub part_none : (r : Rule) → Part (many r) none none
part_none r = record { fits = no_more; quiet = refl; lines = λ indent fresh e d. refl; begins = λ fresh. refl }

pub part_more : (r : Rule) (f g h i : Forest) → Part r f g → Part (many r) h i → Part (many r) (f +++ h) (g +++ i)
part_more r f g h i p q = record {
  fits = once_more p.fits q.fits refl;
  quiet = quiet_join g i ∙ and_from (is_quiet g) (is_quiet i) p.quiet q.quiet;
  lines = λ indent fresh e d. lines_join indent fresh r f g h i p e (λ b z. q.lines indent b e z) d;
  begins = λ fresh. fresh_join fresh g i ∙ ap (λ (b : Bool). fresh_past b i) (p.begins fresh) ∙ q.begins (fresh_past fresh f) ∙ sym (fresh_join fresh f h);
}

-- ---- marks

-- a mark of a quoted text that stays
abbrev pub is_still : Terminal → Bool
is_still t.CurlyOpen = true
is_still t.CloseBrace = true
is_still t.VarName = true
is_still t.OpenBracket = true
is_still t.CloseBracket = true
is_still _ = false

-- a mark between pieces
abbrev pub is_mark : Terminal → Bool
is_mark t.DollarBrace = true
is_mark c = is_still c

-- whether parts are marks and nodes
abbrev pub are_marks : Forest → Bool
are_marks none = true
are_marks (leaf x f) = is_mark (terminal x) && are_marks f
are_marks (node k c f) = are_marks f

abbrev pub is_some : Forest → Bool
is_some none = false
is_some (leaf x f) = true
is_some (node k c f) = true

quiet_mark : (c : Terminal) (b : Bool) → is_mark c ≡ true → b ≡ true → (not (goes_on_if c) && (not (is_to c) && b)) ≡ true
quiet_mark t.DollarBrace b e d = d
quiet_mark t.CurlyOpen b e d = d
quiet_mark t.CloseBrace b e d = d
quiet_mark t.VarName b e d = d
quiet_mark t.OpenBracket b e d = d
quiet_mark t.CloseBracket b e d = d
quiet_mark _ b e d = cc

fits_mark : (c : Terminal) (indent : List ℕ) (fresh : Bool) (text : List ℕ) → is_mark c ≡ true → leaf_fits_by c indent fresh text ≡ node_fits indent fresh
fits_mark t.DollarBrace indent fresh text e = refl
fits_mark t.CurlyOpen indent fresh text e = refl
fits_mark t.CloseBrace indent fresh text e = refl
fits_mark t.VarName indent fresh text e = refl
fits_mark t.OpenBracket indent fresh text e = refl
fits_mark t.CloseBracket indent fresh text e = refl
fits_mark _ indent fresh text e = cc

fresh_mark : (c : Terminal) (fresh : Bool) (text : List ℕ) → is_mark c ≡ true → fresh_by c fresh text ≡ false
fresh_mark t.DollarBrace fresh text e = refl
fresh_mark t.CurlyOpen fresh text e = refl
fresh_mark t.CloseBrace fresh text e = refl
fresh_mark t.VarName fresh text e = refl
fresh_mark t.OpenBracket fresh text e = refl
fresh_mark t.CloseBracket fresh text e = refl
fresh_mark _ fresh text e = cc

leaf_mark : (x : Token) (indent : List ℕ) (fresh : Bool) → is_mark (terminal x) ≡ true → leaf_fits indent fresh x ≡ node_fits indent fresh
unfolding leaf_fits
leaf_mark x indent fresh e = fits_mark (terminal x) indent fresh x.text e

behind_mark : (x : Token) (fresh : Bool) → is_mark (terminal x) ≡ true → fresh_behind fresh x ≡ false
unfolding fresh_behind
behind_mark x fresh e = fresh_mark (terminal x) fresh x.text e

marks_quiet : (f : Forest) → are_marks f ≡ true → is_quiet f ≡ true
marks_quiet none e = refl
marks_quiet (leaf x f) e = quiet_mark (terminal x) (is_quiet f) (and_left (is_mark (terminal x)) (are_marks f) e) (marks_quiet f (and_right (is_mark (terminal x)) (are_marks f) e))
marks_quiet (node k c f) e = marks_quiet f e

marks_fresh : (f : Forest) → are_marks f ≡ true → fresh_past false f ≡ false
marks_fresh none e = refl
marks_fresh (leaf x f) e =
    ap (λ (b : Bool). fresh_past b f) (behind_mark x false (and_left (is_mark (terminal x)) (are_marks f) e))
    ∙ marks_fresh f (and_right (is_mark (terminal x)) (are_marks f) e)
marks_fresh (node k c f) e = marks_fresh f e

marks_fit : (indent : List ℕ) (f : Forest) → are_marks f ≡ true → parts_fit indent false f ≡ true
marks_fit indent none e = refl
marks_fit indent (leaf x f) e =
    let m = and_left (is_mark (terminal x)) (are_marks f) e in
    and_from (leaf_fits indent false x) (parts_fit indent (fresh_behind false x) f) (leaf_mark x indent false m)
    (ap (λ (b : Bool). parts_fit indent b f) (behind_mark x false m) ∙ marks_fit indent f (and_right (is_mark (terminal x)) (are_marks f) e))
marks_fit indent (node k c f) e = marks_fit indent f e

and_true : (a b : Bool) → b ≡ true → (a && b) ≡ a
and_true true b e = e
and_true false b e = refl

some_fit : (indent : List ℕ) (fresh : Bool) (f : Forest) → is_some f ≡ true → are_marks f ≡ true → parts_fit indent fresh f ≡ node_fits indent fresh
some_fit indent fresh none s e = cc
some_fit indent fresh (leaf x f) s e =
    let m = and_left (is_mark (terminal x)) (are_marks f) e in
    ap (λ (b : Bool). b && parts_fit indent (fresh_behind fresh x) f) (leaf_mark x indent fresh m)
    ∙ and_true (node_fits indent fresh) (parts_fit indent (fresh_behind fresh x) f)
    (ap (λ (b : Bool). parts_fit indent b f) (behind_mark x fresh m) ∙ marks_fit indent f (and_right (is_mark (terminal x)) (are_marks f) e))
some_fit indent fresh (node k c f) s e = and_true (node_fits indent fresh) (parts_fit indent false f) (marks_fit indent f e)

some_fresh : (fresh : Bool) (f : Forest) → is_some f ≡ true → are_marks f ≡ true → fresh_past fresh f ≡ false
some_fresh fresh none s e = cc
some_fresh fresh (leaf x f) s e =
    ap (λ (b : Bool). fresh_past b f) (behind_mark x fresh (and_left (is_mark (terminal x)) (are_marks f) e))
    ∙ marks_fresh f (and_right (is_mark (terminal x)) (are_marks f) e)
some_fresh fresh (node k c f) s e = marks_fresh f e

-- marks and nodes for marks and nodes
pub marks_part : (r : Rule) (f g : Forest) → is_some f ≡ true → are_marks f ≡ true → is_some g ≡ true → are_marks g ≡ true → Fits V83 r g → Part r f g
marks_part r f g s e u d x = record {
  fits = x;
  quiet = marks_quiet g d;
  lines = λ indent fresh p q. some_fit indent fresh g u d ∙ sym (some_fit indent fresh f s e) ∙ q;
  begins = λ fresh. some_fresh fresh g u d ∙ sym (some_fresh fresh f s e);
}

-- ---- the end

pub last_if : (b : Bool) (g : Forest) (x : Token) → ends_in_if b (g +++ leaf x none) ≡ false
last_if b none x = refl
last_if b (leaf y g) x = last_if false g x
last_if b (node k c g) x = last_if (is_open_if k c || ends_in_if false c) g x

pub last_yield : (b : Bool) (g : Forest) (x : Token) → ends_in_yield b (g +++ leaf x none) ≡ false
last_yield b none x = refl
last_yield b (leaf y g) x = last_yield false g x
last_yield b (node k c g) x = last_yield (is_open_yield k c || ends_in_yield false c) g x

pub last_is : (text : List ℕ) (g : Forest) (x : Token) → last_text text (g +++ leaf x none) ≡ x.text
last_is text none x = refl
last_is text (leaf y g) x = last_is y.text g x
last_is text (node k c g) x = last_is text g x

-- ---- classes and kinds

pub curly_is : (own : Terminal) → same_class t.CurlyOpen own ≡ true → own ≡ t.CurlyOpen
curly_is t.CurlyOpen e = refl
curly_is _ e = absurd cc

pub close_is : (own : Terminal) → same_class t.CloseBrace own ≡ true → own ≡ t.CloseBrace
close_is t.CloseBrace e = refl
close_is _ e = absurd cc

pub dollar_is : (own : Terminal) → same_class t.DollarBrace own ≡ true → own ≡ t.DollarBrace
dollar_is t.DollarBrace e = refl
dollar_is _ e = absurd cc

pub name_is : (own : Terminal) → same_class t.VarName own ≡ true → own ≡ t.VarName
name_is t.VarName e = refl
name_is _ e = absurd cc

pub opens_is : (own : Terminal) → same_class t.OpenBracket own ≡ true → own ≡ t.OpenBracket
opens_is t.OpenBracket e = refl
opens_is _ e = absurd cc

pub shuts_is : (own : Terminal) → same_class t.CloseBracket own ≡ true → own ≡ t.CloseBracket
shuts_is t.CloseBracket e = refl
shuts_is _ e = absurd cc

pub piece_is : (own : Terminal) → same_class t.Piece own ≡ true → own ≡ t.Piece
piece_is t.Piece e = refl
piece_is _ e = absurd cc

pub quote_is : (own : Terminal) → same_class t.QuoteOpen own ≡ true → own ≡ t.QuoteOpen
quote_is t.QuoteOpen e = refl
quote_is _ e = absurd cc

pub end_is : (own : Terminal) → same_class t.QuotedEnd own ≡ true → own ≡ t.QuotedEnd
end_is t.QuotedEnd e = refl
end_is _ e = absurd cc

-- only a token of the kind is a `${`
pub no_dollar : (kind : TokenKind) (text : List ℕ) (c : Terminal) → terminal_by kind text ≡ c → not (same_class t.DollarBrace c) ≡ true → is_dollar_brace kind ≡ false
no_dollar token.DollarBrace text c e d = absurd (let z : false ≡ true = ap (λ (x : Terminal). not (same_class t.DollarBrace x)) e ∙ d in cc)
no_dollar _ text c e d = refl

pub no_piece : (kind : TokenKind) (text : List ℕ) (c : Terminal) → terminal_by kind text ≡ c → not (same_class t.Piece c) ≡ true → is_piece kind ≡ false
no_piece token.Piece text c e d = absurd (let z : false ≡ true = ap (λ (x : Terminal). not (same_class t.Piece x)) e ∙ d in cc)
no_piece _ text c e d = refl

dollar_label : (text : List ℕ) → same_class t.DollarBrace (label text) ≡ true → ⊥
unfolding labels
dollar_label text e = absurd (let z : false ≡ true = found t.DollarBrace t.Label labels text refl e in cc)

dollar_operator : (text : List ℕ) → same_class t.DollarBrace (operator text) ≡ true → ⊥
unfolding operators
dollar_operator text e = absurd (let z : false ≡ true = found t.DollarBrace t.OtherOp operators text refl e in cc)

dollar_row : (text : List ℕ) → same_class t.DollarBrace (find_row t.OtherKeyword keywords text) ≡ true → ⊥
unfolding keywords
dollar_row text e = absurd (let z : false ≡ true = found t.DollarBrace t.OtherKeyword keywords text refl e in cc)

dollar_cond : (b : Bool) (x y : Terminal) → (same_class t.DollarBrace x ≡ true → ⊥) → (same_class t.DollarBrace y ≡ true → ⊥) → same_class t.DollarBrace (cond b x y) ≡ true → ⊥
dollar_cond true x y p q e = p e
dollar_cond false x y p q e = q e

dollar_keyword : (text : List ℕ) → same_class t.DollarBrace (keyword text) ≡ true → ⊥
dollar_keyword text e = dollar_cond (nat_lt 5 (length text) && words.is_word (codes "yield") (front 5 text))
    t.YieldFrom (find_row t.OtherKeyword keywords text) (λ u. cc) (dollar_row text) e

dollar_name : (text : List ℕ) → same_class t.DollarBrace (name text) ≡ true → ⊥
dollar_name text e =
    dollar_cond (words.is_word (codes "\\") (front 1 text)) t.FullName (cond (words.is_word (codes "namespace\\") (front 10 text)) t.RelativeName t.QualifiedName) (λ u. cc)
    (dollar_cond (words.is_word (codes "namespace\\") (front 10 text)) t.RelativeName t.QualifiedName (λ u. cc) (λ u. cc)) e

dollar_cast : (text : List ℕ) → same_class t.DollarBrace (cast text) ≡ true → ⊥
dollar_cast text e =
    dollar_cond (nat_lt (opening text) (length text)) (cast_letter (to_ascii_lowercase (slice_index text (opening text)))) t.Cast
    (dollar_cond (nat_eq (to_ascii_lowercase (slice_index text (opening text))) 114
    || nat_eq (to_ascii_lowercase (slice_index text (opening text))) 117) t.OldCast t.Cast (λ u. cc) (λ u. cc))
    (λ u. cc) e

pub dollar_kind : (kind : TokenKind) (text : List ℕ) → same_class t.DollarBrace (terminal_by kind text) ≡ true → is_dollar_brace kind ≡ true
dollar_kind token.DollarBrace text e = refl
dollar_kind token.Label text e = absurd (dollar_label text e)
dollar_kind token.Keyword text e = absurd (dollar_keyword text e)
dollar_kind token.Op text e = absurd (dollar_operator text e)
dollar_kind token.Name text e = absurd (dollar_name text e)
dollar_kind token.Cast text e = absurd (dollar_cast text e)
dollar_kind _ text e = absurd cc
