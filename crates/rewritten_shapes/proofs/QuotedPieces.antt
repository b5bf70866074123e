-- Pieces and variables of quoted texts.
use Rattle.std.proofs.Common.{◌≡◌, ℕ, Bool, true, false, not, ◌&&◌, if◌then◌else◌, List, [], ◌++◌, Option, refl, sym, ap, ◌∙◌, append-nil}
use Rattle.std.proofs.lemmas.Bool.{and_from}
use Rattle.php_tree.specs.declared.token.Token.{Token}
use Rattle.php_tree.specs.declared.token.TokenKind.{TokenKind}
use Rattle.php_tree.specs.declared.token.TokenKind.TheVariants as token
use Rattle.php_tree.specs.declared.version.Version.TheVariants.{V74, V83}
use Rattle.php_tree.specs.Tree.{Forest, none, leaf, node, ◌+++◌}
use Rattle.php_terminals.specs.declared.terminal.Terminal.{Terminal}
use Rattle.php_terminals.specs.declared.terminal.Terminal.TheVariants as t
use Rattle.php_terminals.specs.Classify.{terminal}
use Rattle.php_terminals.specs.Indents.{ends_line, fresh_behind, fresh_by, is_indented, leaf_fits, leaf_fits_by}
use Rattle.php_grammar.specs.Accepts.{same_class}
use Rattle.php_shapes.specs.Nearest.{goes_on_if, is_to}
use Rattle.php_shapes.specs.Notation.{Rule}
use Rattle.php_shapes.specs.Quoted as rules
use Rattle.php_shapes.specs.Shapes.{Fits, is_first, is_inside, is_second, is_word}
use Rattle.tracked_changes.specs.Draft.{NewToken, Draft, new_leaf}
use Rattle.syntax_rules.specs.Around.{Around}
use Rattle.syntax_rules.specs.DollarBrace.{before_last, begins_dollar_brace, ends_bare, escaped, is_piece, opened, parts}
use Rattle.syntax_rules.specs.HashComment.{hash_comment}
use Rattle.rewritten_shapes.proofs.Calm.{calm_shut, is_calm, shown_is}
use Rattle.rewritten_shapes.proofs.Kept.{AllGood, kept}
use Rattle.rewritten_shapes.proofs.QuotedLines.{are_blank, ends_bare_line, indented_put, put, put_line}
use Rattle.rewritten_shapes.proofs.QuotedParts.{Part, is_mark, marks_part, no_dollar, no_piece}
use Rattle.rewritten_shapes.proofs.Shown.{is_shut, names_whole, new_parts, shown, shown_token, shut_front}
use Rattle.rewritten_shapes.proofs.Sides.{and_left, and_right}
use Rattle.rewritten_shapes.proofs.Tabled.{written}

-- ---- drafts of the parts

-- parts of a quoted text where they stand
abbrev pub drawn : (Bool → Option Around) → Forest → Draft
drawn a f = parts (written a false f)

abbrev pub seen : Draft → Forest
seen d = shown (names_whole d)

-- the new parts
abbrev pub new_quoted : (Bool → Option Around) → Forest → Forest
new_quoted a f = seen (drawn a f)

pub seen_leaf : (u : NewToken) (d : Draft) → is_shut u ≡ true → seen (new_leaf u d) ≡ leaf (shown_token u) (seen d)
seen_leaf u d e = ap shown (shut_front u (names_whole d) e)

-- a token that is neither a piece nor `${`
abbrev stays : Terminal → Bool
stays c = is_calm c && (not (same_class t.DollarBrace c) && not (same_class t.Piece c))

pub leaf_drawn : (b : Bool → Option Around) (p : Bool) (x : Token) (c : Terminal) (f : Forest) → terminal x ≡ c
    → stays c ≡ true → parts (written b p (leaf x f)) ≡ new_leaf (hash_comment x) (drawn b f)
leaf_drawn b p x c f e s =
    let two = and_right (is_calm c) (not (same_class t.DollarBrace c) && not (same_class t.Piece c)) s in
    ap (λ (z : Bool). if z then opened (hash_comment x) (drawn b f) else new_leaf
    (if is_piece x.kind && begins_dollar_brace (written b false f) then escaped (hash_comment x) else hash_comment
    x) (drawn b f))
    (no_dollar x.kind x.text c e (and_left (not (same_class t.DollarBrace c)) (not (same_class t.Piece c)) two))
    ∙ ap (λ (z : Bool). new_leaf (if z && begins_dollar_brace (written b false f) then escaped (hash_comment x) else hash_comment x) (drawn b f))
    (no_piece x.kind x.text c e (and_right (not (same_class t.DollarBrace c)) (not (same_class t.Piece c)) two))

calm_of : (x : Token) (c : Terminal) → terminal x ≡ c → stays c ≡ true → is_calm (terminal x) ≡ true
calm_of x c e s = ap is_calm e ∙ and_left (is_calm c) (not (same_class t.DollarBrace c) && not (same_class t.Piece c)) s

pub leaf_seen : (x : Token) (c : Terminal) (d : Draft) → terminal x ≡ c → stays c ≡ true → seen (new_leaf (hash_comment x) d) ≡ leaf (shown_token (hash_comment x)) (seen d)
leaf_seen x c d e s = seen_leaf (hash_comment x) d (calm_shut x (calm_of x c e s))

pub leaf_stays : (b : Bool → Option Around) (p : Bool) (x : Token) (c : Terminal) (f : Forest) → terminal x ≡ c
    → stays c ≡ true → seen (parts (written b p (leaf x f))) ≡ leaf (shown_token (hash_comment x)) (new_quoted b f)
leaf_stays b p x c f e s = ap seen (leaf_drawn b p x c f e s) ∙ leaf_seen x c (drawn b f) e s

-- ---- tokens

pub shown_class : (x : Token) (c : Terminal) → terminal x ≡ c → terminal (shown_token (hash_comment x)) ≡ c
shown_class x c e = ap terminal (shown_is x) ∙ e

pub mark_of : (x : Token) (c : Terminal) → terminal x ≡ c → is_mark c ≡ true → is_mark (terminal x) ≡ true
mark_of x c e m = ap is_mark e ∙ m

pub shown_mark : (x : Token) (c : Terminal) → terminal x ≡ c → is_mark c ≡ true → is_mark (terminal (shown_token (hash_comment x))) ≡ true
shown_mark x c e m = ap is_mark (shown_class x c e) ∙ m

-- what becomes of a part, in front of others
pub record Step (r : Rule) (b : Bool → Option Around) (f rest : Forest) : Type 0 where
  pub new : Forest
  pub is_part : Part r f new
  pub same : new_quoted b (f +++ rest) ≡ new +++ new_quoted b rest

-- ---- pieces

piece_class : (kind : TokenKind) (lead text : List ℕ) (n : ℕ) → is_piece kind ≡ true → terminal (record { kind = kind; lead = lead; text = text; start = n }) ≡ t.Piece
piece_class token.Piece lead text n e = refl
piece_class _ lead text n e = cc

piece_shut : (u : NewToken) → is_piece u.kind ≡ true → is_shut u ≡ true
piece_shut u e = go u.kind u e refl
  where
    go : (kind : TokenKind) (u : NewToken) → is_piece kind ≡ true → u.kind ≡ kind → is_shut u ≡ true
    go token.Piece u e d = rw d refl
    go _ u e d = cc

piece_lines : (indent : List ℕ) (fresh : Bool) (x : Token) → terminal x ≡ t.Piece → leaf_fits indent fresh x ≡ is_indented indent fresh x.text
unfolding leaf_fits
piece_lines indent fresh x e = ap (λ (c : Terminal). leaf_fits_by c indent fresh x.text) e

piece_begins : (fresh : Bool) (x : Token) → terminal x ≡ t.Piece → fresh_behind fresh x ≡ ends_line fresh x.text
unfolding fresh_behind
piece_begins fresh x e = ap (λ (c : Terminal). fresh_by c fresh x.text) e

-- a piece for a piece
piece_part : (x y : Token) → terminal x ≡ t.Piece → terminal y ≡ t.Piece
    → ((indent : List ℕ) (fresh : Bool) → are_blank indent ≡ true → is_indented indent fresh x.text ≡ true → is_indented indent fresh y.text ≡ true)
    → ((fresh : Bool) → ends_line fresh y.text ≡ ends_line fresh x.text) → Part rules.quoted_part (leaf x none) (leaf y none)
piece_part x y p q h g = record {
  fits = is_first (is_word (ap (same_class t.Piece) q));
  quiet = ap (λ (c : Terminal). not (goes_on_if c) && (not (is_to c) && true)) q;
  lines = λ indent fresh e d.
      and_from (leaf_fits indent fresh y) true
      (piece_lines indent fresh y q ∙ h indent fresh e (sym (piece_lines indent fresh x p) ∙ and_left (leaf_fits indent fresh x) true d)) refl;
  begins = λ fresh. piece_begins fresh y q ∙ g fresh ∙ sym (piece_begins fresh x p);
}

-- the token of a piece
record NewPiece (x : Token) (u : NewToken) : Type 0 where
  shut : is_shut u ≡ true
  pub is_part : Part rules.quoted_part (leaf x none) (leaf (shown_token u) none)

piece_same : (x : Token) → terminal x ≡ t.Piece → NewPiece x (hash_comment x)
piece_same x e = record {
  shut = calm_shut x (ap is_calm e);
  is_part = piece_part x (shown_token (hash_comment x)) e (shown_class x t.Piece e)
      (λ indent fresh p d. ap (λ (y : Token). is_indented indent fresh y.text) (shown_is x) ∙ d)
      (λ fresh. ap (λ (y : Token). ends_line fresh y.text) (shown_is x));
}

piece_put : (x : Token) → terminal x ≡ t.Piece → is_piece x.kind ≡ true → ends_bare false (x.text ++ []) ≡ true
    → NewPiece x (record (hash_comment x) { text = before_last (x.text ++ []) })
piece_put x e p d =
    let s = append-nil x.text in
    let bare : ends_bare false x.text ≡ true = ap (ends_bare false) (sym s) ∙ d in
    record {
      shut = piece_shut (record (hash_comment x) { text = before_last (x.text ++ []) }) p;
      is_part = piece_part x (shown_token (record (hash_comment x) { text = before_last (x.text ++ []) })) e (piece_class x.kind [] (put (x.text ++ [])) 0 p)
          (λ indent fresh q h. ap (λ (y : List ℕ). is_indented indent fresh (put y)) s ∙ indented_put false indent fresh x.text q bare h)
          (λ fresh. ap (λ (y : List ℕ). ends_line fresh (put y)) s ∙ put_line false fresh x.text bare ∙ sym (ends_bare_line false fresh x.text bare));
    }

piece_escaped : (x : Token) (b : Bool) → terminal x ≡ t.Piece → is_piece x.kind ≡ true
    → ends_bare false (x.text ++ []) ≡ b
    → NewPiece x (if b then record (hash_comment x) { text = before_last (x.text ++ []) } else hash_comment x)
piece_escaped x true e p d = piece_put x e p d
piece_escaped x false e p d = piece_same x e

piece_if : (x : Token) (b d : Bool) → terminal x ≡ t.Piece → is_piece x.kind ≡ b → NewPiece x (if b && d then escaped (hash_comment x) else hash_comment x)
piece_if x true true e p = piece_escaped x (ends_bare false (x.text ++ [])) e p refl
piece_if x true false e p = piece_same x e
piece_if x false d e p = piece_same x e

pub piece_step : (b : Bool → Option Around) (x : Token) (rest : Forest) → terminal x ≡ t.Piece → Step rules.quoted_part b (leaf x none) rest
piece_step b x rest e =
    let u = if is_piece x.kind && begins_dollar_brace (written b false rest) then escaped (hash_comment x) else hash_comment x in
    let new = piece_if x (is_piece x.kind) (begins_dollar_brace (written b false rest)) e refl in
    record {
      new = leaf (shown_token u) none;
      is_part = new.is_part;
      same = ap (λ (z : Bool). seen (if z then opened (hash_comment x) (drawn b rest) else new_leaf u (drawn b rest))) (no_dollar x.kind x.text t.Piece e refl)
          ∙ seen_leaf u (drawn b rest) new.shut;
    }

-- ---- variables, offsets and properties

-- parts that are one node
abbrev is_single : Forest → Bool
is_single (node k c none) = true
is_single _ = false

single_interpolated : {f : Forest} → Fits V74 rules.interpolated f → is_single f ≡ true
single_interpolated (is_first (is_inside x near)) = refl
single_interpolated (is_second (is_first (is_inside x near))) = refl
single_interpolated (is_second (is_second (is_inside x near))) = refl

single_step : (b : Bool → Option Around) (f rest : Forest) → is_single f ≡ true → Fits V83 rules.interpolated (new_parts b false f) → Step rules.quoted_part b f rest
single_step b none rest s x = cc
single_step b (leaf y f) rest s x = cc
single_step b (node k c (leaf y f)) rest s x = cc
single_step b (node k c (node j d f)) rest s x = cc
single_step b (node k c none) rest s x = record {
  new = new_parts b false (node k c none);
  is_part = marks_part rules.quoted_part (node k c none) (new_parts b false (node k c none)) refl refl refl refl (is_second (is_first x));
  same = refl;
}

pub interpolated_step : (b : Bool → Option Around) (f rest : Forest) → Fits V74 rules.interpolated f → AllGood f → Step rules.quoted_part b f rest
interpolated_step b f rest x w = single_step b f rest (single_interpolated x) (kept x refl w b false).fits
