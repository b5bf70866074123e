-- What the rules make of a file's parts: names stay within nodes, and tokens are for names what they were.
use Rattle.std.proofs.Common.{◌≡◌, ℕ, Bool, true, false, ◌&&◌, if◌then◌else◌, codes, List, [], ◌∷◌, ◌++◌, Option, ◌==◌, nat_eq, refl, sym, ap, ◌∙◌, subst, append_assoc}
use Rattle.std.specs.Char.{to_ascii_lowercase}
use Rattle.std.specs.Str.{bytes_eq}
use Rattle.std.proofs.lemmas.Bool.{eqb-true, false_from_ne_true}
use Rattle.std.proofs.lemmas.Slice.Eq.{bytes_eq-Decides}
use Rattle.php_terminals.specs.Words.{is_word}
use Rattle.rewritten_shapes.proofs.OperatorWords.{low_word}
use Rattle.rewritten_shapes.proofs.paired.Asked.{both_left, no_clash}
use Rattle.php_tree.specs.declared.kind.NodeKind.{NodeKind}
use Rattle.php_tree.specs.declared.kind.NodeKind.TheVariants as k
use Rattle.php_tree.specs.declared.token.Token.{Token}
use Rattle.php_tree.specs.declared.token.TokenKind.{TokenKind}
use Rattle.php_tree.specs.declared.token.TokenKind.TheVariants as kind
use Rattle.php_tree.specs.Tree.{Forest, none, leaf, node, ◌+++◌}
use Rattle.php_spellings.specs.Bytes.{is_letter}
use Rattle.tracked_changes.specs.Pieces.{before}
use Rattle.tracked_changes.specs.Draft.{Draft, no_more, new_leaf, new_node, ◌then◌, pieces}
use Rattle.tracked_changes.specs.Tokens.{put_also, retexted}
use Rattle.tracked_changes.specs.Walk.{NewTree}
use Rattle.syntax_rules.specs.Around.{Around, within}
use Rattle.syntax_rules.specs.Casts.{bare}
use Rattle.syntax_rules.specs.DollarBrace.{begins_dollar_brace, ends_bare, escaped, parts}
use Rattle.syntax_rules.specs.HashComment.{hash_comment}
use Rattle.syntax_rules.specs.SplitName as names
use Rattle.syntax_rules.specs.RealCast.{is_real_cast, real_cast}
use Rattle.syntax_rules.specs.Rewritten.{wrapping}
use Rattle.syntax_rules.specs.UnsetCast.{is_edited, of_variable, opening, unset_cast}
use Rattle.rewritten_shapes.proofs.Sides.{still_first, written_none}
use Rattle.rewritten_shapes.proofs.Tabled.{changed, written}
use Rattle.rewritten_shapes.specs.paired.Names.{Part, State, blank, edge, mark, other, part_by, root, run, step}
use Rattle.rewritten_shapes.specs.paired.Paired as pairs
use Rattle.rewritten_shapes.specs.paired.Paired.{Paired, Interpolated, IsSimple, IsKey, is_common}
use Rattle.rewritten_shapes.specs.paired.Tokens.{opens_text}
use Rattle.written_reading.proofs.drafts.Drawn.{
  Drawn,
  NodeDrawn,
  drawn_join,
  drawn_leaf,
  drawn_node,
  drawn_none,
  drawn_token,
  escaped_part,
  inner,
  kept_also,
  kept_brace,
  kept_close,
  kept_closing,
  kept_curly,
  kept_dollar,
  kept_escaped,
  kept_float,
  kept_hash,
  kept_name,
  kept_null,
  kept_opening,
  kept_square,
  kept_squared,
  kind_is,
  of_kind,
  of_text,
  null_below,
  plain_node,
  text_is,
  wraps_drawn,
}
use Rattle.written_reading.proofs.drafts.Order.{by_below, is_below}

-- ---- nodes

-- a node where it stands
node_of : (j : NodeKind) (c f : Forest) (a : Bool → Option Around) (b : Bool)
    → NodeDrawn c (changed (j, c) (j, written (within j c) true c)).1 → Drawn f (written a false f)
    → Drawn (node j c f) (written a b (node j c f))
node_of j c f a b n o =
    drawn_node j _ c f _ (written a false f) (wraps_drawn (wrapping (a b) (j, c)) c (changed (j, c) (j, written (within j c) true c)) n) o

pub common_changed : (j : NodeKind) (c : Forest) (t : NewTree) → is_common j ≡ true → changed (j, c) t ≡ t
common_changed k.Quoted c t e = absurd cc
common_changed k.BraceOffset c t e = absurd cc
common_changed k.Cast c t e = absurd cc
common_changed _ c t e = refl

-- ---- casts

abbrev head_of : List ℕ → ℕ
head_of [] = 0
head_of (y ∷ ys) = y

no_root : (y : ℕ) (zs : List ℕ) → nat_eq y 92 ≡ false → bytes_eq (y ∷ zs) (codes "\\") ≡ false
no_root y zs e = false_from_ne_true (bytes_eq (y ∷ zs) (codes "\\")) (λ h. no_clash e (ap (λ (l : List ℕ). nat_eq (head_of l) 92) ((bytes_eq-Decides (y ∷ zs) (codes "\\")).0 h)))

kept_byte : (x : ℕ) (l : List ℕ) → (x == 32) ≡ false → (x == 9) ≡ false → bare (x ∷ l) ≡ to_ascii_lowercase x ∷ bare l
kept_byte x l d g = rw (d, g) refl

is_open : (x : ℕ) (l : List ℕ) → (x == 32) ≡ false → (x == 9) ≡ false → bytes_eq (bare (x ∷ l)) (codes "(unset)") ≡ true → is_word (40 ∷ []) (x ∷ []) ≡ true
is_open x l d g e =
    let same : to_ascii_lowercase x ≡ 40 = ap head_of (sym (kept_byte x l d g) ∙ (bytes_eq-Decides (bare (x ∷ l)) (codes "(unset)")).0 e) in
    ap (λ (y : ℕ). nat_eq 40 y && true) same

-- A text of an operator that is for names a bracket, and doesn't begin with `\`.
abbrev IsMarkText : List ℕ → Type 0
IsMarkText text = (part_by kind.Op text ≡ mark) × (names.begins_root text ≡ false)

-- the text of a cast `(unset)`, whatever follows
first_byte : (x : ℕ) (l rest : List ℕ) → bytes_eq (bare (x ∷ l)) (codes "(unset)") ≡ true → IsMarkText (x ∷ l ++ rest)
first_byte x l rest e = go (x == 32) (x == 9) refl refl
  where
    to_mark : (y : ℕ) → x ≡ y → bytes_eq (y ∷ l ++ rest) (codes "\\") ≡ false → is_letter y ≡ false → (y == 92) ≡ false → IsMarkText (x ∷ l ++ rest)
    to_mark y d r n m = (
      ap (λ (z : ℕ). part_by kind.Op (z ∷ l ++ rest)) d
          ∙ ap (λ (b : Bool). if b then root else (if is_letter y then other else mark)) r
          ∙ ap (λ (b : Bool). if b then other else mark) n,
      ap (λ (z : ℕ). z == 92) d ∙ m,
    )

    go : (b c : Bool) → (x == 32) ≡ b → (x == 9) ≡ c → IsMarkText (x ∷ l ++ rest)
    go true c d g = to_mark 32 (eqb-true x 32 d) (no_root 32 (l ++ rest) refl) refl refl
    go false true d g = to_mark 9 (eqb-true x 9 g) (no_root 9 (l ++ rest) refl) refl refl
    go false false d g = to_mark 40 (ap head_of (low_word (40 ∷ []) (x ∷ []) refl (is_open x l d g e))) (no_root 40 (l ++ rest) refl) refl refl

-- ---- simple variables of quoted texts

key_drawn : {f : Forest} → IsKey f → (a : Bool → Option Around) → Drawn f (written a false f)
key_drawn (pairs.label {t} {u} e m) a = drawn_token t (leaf u none) _ (drawn_token u none _ drawn_none)
key_drawn (pairs.number {t} {u} e m) a = drawn_token t (leaf u none) _ (drawn_token u none _ drawn_none)
key_drawn (pairs.negative {s} {t} {u} n e m) a = drawn_token s (leaf t (leaf u none)) _ (drawn_token t (leaf u none) _ (drawn_token u none _ drawn_none))
key_drawn (pairs.variable {t} {u} e m) a =
    node_of k.Variable (leaf t none) (leaf u none) a false (plain_node (leaf t none) _ (drawn_token t none _ drawn_none)) (drawn_token u none _ drawn_none)

variable_drawn : (t : Token) (f : Forest) (a : Bool → Option Around) (b : Bool) → Drawn f (written a false f)
    → Drawn (node k.Variable (leaf t none) f) (written a b (node k.Variable (leaf t none) f))
variable_drawn t f a b o = node_of k.Variable (leaf t none) f a b (plain_node (leaf t none) _ (drawn_token t none _ drawn_none)) o

simple_node : {j : NodeKind} {c : Forest} → IsSimple j c → NodeDrawn c (changed (j, c) (j, written (within j c) true c)).1
simple_node (pairs.alone {t} e) = plain_node (leaf t none) _ (drawn_token t none _ drawn_none)
simple_node (pairs.with_offset {t} {o} {f} e m q) =
    let c = node k.Variable (leaf t none) (leaf o f) in
    plain_node c _ (variable_drawn t (leaf o f) (within k.Offset c) true (drawn_token o f _ (key_drawn q (within k.Offset c))))
simple_node (pairs.with_property {t} {o} {u} e m a q) =
    let c = node k.Variable (leaf t none) (leaf o (leaf u none)) in
    plain_node c _ (variable_drawn t (leaf o (leaf u none)) (within k.Prop c) true (drawn_token o (leaf u none) _ (drawn_token u none _ drawn_none)))

-- ---- parts of quoted texts, of tokens with their kinds

abbrev Texted : Forest → Type 0
Texted f = (a : Bool → Option Around) (b : Bool) → Drawn f (parts (written a b f))

piece_texted : (x : Token) (f : Forest) → Texted f → Texted (leaf (of_kind kind.Piece x) f)
piece_texted x f o a b = go (begins_dollar_brace (written a false f))
  where
    y : Token
    y = of_kind kind.Piece x

    go : (behind : Bool) → Drawn (leaf (of_kind kind.Piece x) f)
        (new_leaf (if behind then escaped (hash_comment (of_kind kind.Piece x)) else hash_comment
        (of_kind kind.Piece x)) (parts (written a false f)))
    go true =
        drawn_leaf (of_kind kind.Piece x) (escaped (hash_comment (of_kind kind.Piece x))) f (parts (written a false f))
        (kept_escaped x (ends_bare false (before (hash_comment (of_kind kind.Piece x)).text)))
        (escaped_part x (ends_bare false (before (hash_comment (of_kind kind.Piece x)).text))) (o a false)
    go false = drawn_token (of_kind kind.Piece x) f (parts (written a false f)) (o a false)

abbrev OneNode : NodeKind → Forest → Type 0
OneNode j c = (a : Bool → Option Around) (b : Bool) → Drawn (node j c none) (written a b (node j c none))

curly_texted : (x u : Token) (j : NodeKind) (c f : Forest) → OneNode j c → Texted f → Texted (leaf (of_kind kind.CurlyOpen x) (node j c (leaf (of_text 125 u) f)))
curly_texted x u j c f n o a b =
    drawn_token (of_kind kind.CurlyOpen x) (node j c (leaf (of_text 125 u) f)) _
    (drawn_node j _ c (leaf (of_text 125 u) f) _ _ (inner j _ c _ (n a false)) (drawn_token (of_text 125 u) f _ (o a false)))

-- `${name}`
named_below : (u s : State) → is_below u s ≡ true → is_below (step (edge (step (edge (step u other)) other)) mark) (step (step (step s other) other) mark) ≡ true
named_below u s h = by_below (λ u s. is_below (step (edge (step (edge (step u other)) other)) mark) (step (step (step s other) other) mark)) refl u s h

named_texted : (x n u : Token) (f : Forest) → Texted f → Texted (leaf (of_kind kind.DollarBrace x) (leaf (of_kind kind.VarName n) (leaf (of_text 125 u) f)))
named_texted x n u f o a b =
    let rest = o a false in
    record {
      kept = (kept_curly (hash_comment (of_kind kind.DollarBrace x)), ((kept_name (hash_comment (of_kind kind.VarName n)), tt), (kept_hash (of_text 125 u), rest.kept)));
      runs = λ v s h.
          rest.runs (step (edge (step (edge (step v other)) other)) mark) (step (step (step s other) other) mark) (named_below v s h);
    }

-- `${name[..]}`
bracket_below : (u s : State) → is_below u s ≡ true → is_below (step (edge (step (edge (edge (step u other))) other)) mark) (step (step (step s other) other) mark) ≡ true
bracket_below u s h = by_below (λ u s. is_below (step (edge (step (edge (edge (step u other))) other)) mark) (step (step (step s other) other) mark)) refl u s h

close_below : (v r : State) → is_below v r ≡ true → is_below (step (edge (step v mark)) mark) (step (step r mark) mark) ≡ true
close_below v r h = by_below (λ v r. is_below (step (edge (step v mark)) mark) (step (step r mark) mark)) refl v r h

offset_texted : (x n w s u : Token) (j : NodeKind) (c f : Forest) → OneNode j c → Texted f
    → Texted (leaf (of_kind kind.DollarBrace x)
    (leaf (of_kind kind.VarName n) (leaf (of_text 91 w) (node j c (leaf (of_text 93 s) (leaf (of_text 125 u) f))))))
offset_texted x n w s u j c f one o a b =
    let rest = o a false in
    let part = inner j _ c _ (one a false) in
    record {
      kept = (
        kept_curly (hash_comment (of_kind kind.DollarBrace x)),
        (
          (
            (kept_name (hash_comment (of_kind kind.VarName n)), tt),
            (kept_hash (of_text 91 w), (part.kept, (kept_hash (of_text 93 s), tt))),
          ),
          (kept_hash (of_text 125 u), rest.kept),
        ),
      );
      runs = λ v z h.
          let first = bracket_below v z h in
          let second = part.runs (step (edge (step (edge (edge (step v other))) other)) mark) (step (step (step z other) other) mark) first in
          rest.runs _ _ (close_below _ (edge (run (edge (step (step (step z other) other) mark)) c)) second);
    }

-- `${..}`
open_below : (u s : State) → is_below u s ≡ true → is_below (step (step (edge (step u other)) mark) mark) (step s other) ≡ true
open_below u s h = by_below (λ u s. is_below (step (step (edge (step u other)) mark) mark) (step s other)) refl u s h

shut_below : (v r : State) → is_below v r ≡ true → is_below (step (edge (step v mark)) mark) (step r mark) ≡ true
shut_below v r h = by_below (λ v r. is_below (step (edge (step v mark)) mark) (step r mark)) refl v r h

expression_texted : (x u : Token) (j : NodeKind) (c f : Forest) → OneNode j c → Texted f → Texted (leaf (of_kind kind.DollarBrace x) (node j c (leaf (of_text 125 u) f)))
expression_texted x u j c f one o a b =
    let rest = o a false in
    let part = inner j _ c _ (one a false) in
    record {
      kept = (kept_curly (hash_comment (of_kind kind.DollarBrace x)), ((kept_dollar, (kept_brace, (part.kept, (kept_closing u, tt)))), (kept_close, rest.kept)));
      runs = λ v z h.
          let second = part.runs (step (step (edge (step v other)) mark) mark) (step z other) (open_below v z h) in
          rest.runs _ _ (shut_below _ (edge (run (edge (step z other)) c)) second);
    }

-- ---- casts

-- the parentheses with `null` in the place of a cast
nulled : (x : Token) (c : Forest) (d : Draft) → IsMarkText (before (opening d).text)
    → NodeDrawn c (new_leaf (opening d) (new_node k.Constant (new_leaf (put_also kind.Label (codes "null")) no_more)
    (new_leaf (put_also kind.Op (codes ")")) no_more)))
nulled x c d e = record {
  kept = (kept_opening d e.0 e.1, ((kept_null, tt), (kept_also, tt)));
  runs = λ u s h.
      ap (λ (p : Part). is_below (edge (step (edge (step (edge (step (edge u) p)) blank)) mark)) (edge (run (edge s) c))) e.0
      ∙ null_below u s c h;
}

float_drawn : (x : Token) (j : NodeKind) (b : Forest) → OneNode j b → (a : Bool → Option Around)
    → NodeDrawn (leaf (of_kind kind.Cast x) (node j b none))
    (new_leaf (retexted kind.Cast (codes "(float)") (hash_comment (of_kind kind.Cast x)))
    (written a false (node j b none)))
float_drawn x j b n a =
    plain_node (leaf (of_kind kind.Cast x) (node j b none)) _
    (drawn_leaf (of_kind kind.Cast x) (retexted kind.Cast (codes "(float)") (hash_comment (of_kind kind.Cast x)))
    (node j b none) (written a false (node j b none)) (kept_float (hash_comment (of_kind kind.Cast x))) refl
    (n a false))

unset_text : (x : Token) (j : NodeKind) (b : Forest) (d : Draft)
    → is_edited (k.Cast, leaf (of_kind kind.Cast x) (node j b none)) ≡ true
    → IsMarkText (before (opening (new_leaf (hash_comment (of_kind kind.Cast x)) d)).text)
unset_text x j b d e =
    subst IsMarkText (sym (append_assoc x.text (before (pieces d)) []))
    (go x.text (both_left (bytes_eq (bare x.text) (codes "(unset)")) (of_variable (leaf (of_kind kind.Cast x) (node j b none))) e))
  where
    go : (text : List ℕ) → bytes_eq (bare text) (codes "(unset)") ≡ true → IsMarkText (text ++ (before (pieces d) ++ []))
    go [] h = absurd cc
    go (y ∷ l) h = first_byte y l (before (pieces d) ++ []) h

cast_changed : (x : Token) (j : NodeKind) (b : Forest) → OneNode j b
    → NodeDrawn (leaf (of_kind kind.Cast x) (node j b none))
    (changed (k.Cast, leaf (of_kind kind.Cast x) (node j b none)) (
      k.Cast,
      written (within k.Cast (leaf (of_kind kind.Cast x) (node j b none))) true
          (leaf (of_kind kind.Cast x) (node j b none)),
    )).1
cast_changed x j b n = real (is_real_cast (k.Cast, leaf (of_kind kind.Cast x) (node j b none)))
  where
    around : Bool → Option Around
    around = within k.Cast (leaf (of_kind kind.Cast x) (node j b none))

    old : NewTree
    old = (k.Cast, new_leaf (hash_comment (of_kind kind.Cast x)) (written (within k.Cast (leaf (of_kind kind.Cast x) (node j b none))) false (node j b none)))

    unset : (e : Bool) → is_edited (k.Cast, leaf (of_kind kind.Cast x) (node j b none)) ≡ e
        → NodeDrawn (leaf (of_kind kind.Cast x) (node j b none))
        (if e then unset_cast (
          k.Cast,
          new_leaf (hash_comment (of_kind kind.Cast x))
              (written (within k.Cast (leaf (of_kind kind.Cast x) (node j b none))) false (node j b none)),
        ) else (
          k.Cast,
          new_leaf (hash_comment (of_kind kind.Cast x))
              (written (within k.Cast (leaf (of_kind kind.Cast x) (node j b none))) false (node j b none)),
        )).1
    unset true e =
        let d = written (within k.Cast (leaf (of_kind kind.Cast x) (node j b none))) false (node j b none) in
        nulled x (leaf (of_kind kind.Cast x) (node j b none)) (new_leaf (hash_comment (of_kind kind.Cast x)) d) (unset_text x j b d e)
    unset false e =
        plain_node (leaf (of_kind kind.Cast x) (node j b none)) _
        (drawn_token (of_kind kind.Cast x) (node j b none) _ (n (within k.Cast (leaf (of_kind kind.Cast x) (node j b none))) false))

    real : (r : Bool) → NodeDrawn (leaf (of_kind kind.Cast x) (node j b none))
        (if r then real_cast (
          k.Cast,
          new_leaf (hash_comment (of_kind kind.Cast x))
              (written (within k.Cast (leaf (of_kind kind.Cast x) (node j b none))) false (node j b none)),
        ) else
        (if is_edited (k.Cast, leaf (of_kind kind.Cast x) (node j b none)) then unset_cast (
          k.Cast,
          new_leaf (hash_comment (of_kind kind.Cast x))
              (written (within k.Cast (leaf (of_kind kind.Cast x) (node j b none))) false (node j b none)),
        ) else (
          k.Cast,
          new_leaf (hash_comment (of_kind kind.Cast x))
              (written (within k.Cast (leaf (of_kind kind.Cast x) (node j b none))) false (node j b none)),
        ))).1
    real true = float_drawn x j b n (within k.Cast (leaf (of_kind kind.Cast x) (node j b none)))
    real false = unset (is_edited (k.Cast, leaf (of_kind kind.Cast x) (node j b none))) refl

-- ---- offsets in braces, and quoted texts

offset_changed : (i j : NodeKind) (t u : Token) (b c : Forest) → OneNode i b → OneNode j c
    → NodeDrawn (node i b (leaf (of_text 123 t) (node j c (leaf (of_text 125 u) none))))
    (changed (k.BraceOffset, node i b (leaf (of_text 123 t) (node j c (leaf (of_text 125 u) none)))) (
      k.BraceOffset,
      written (within k.BraceOffset
          (node i b (leaf (of_text 123 t) (node j c (leaf (of_text 125 u) none))))) true
          (node i b (leaf (of_text 123 t) (node j c (leaf (of_text 125 u) none)))),
    )).1
offset_changed i j t u b c n m =
    let whole = node i b (leaf (of_text 123 t) (node j c (leaf (of_text 125 u) none))) in
    plain_node whole _
    (drawn_node i _ b (leaf (of_text 123 t) (node j c (leaf (of_text 125 u) none))) _ _ (inner i _ b _ (n (within k.BraceOffset whole) true))
    (drawn_leaf (of_text 123 t) (retexted kind.Op (codes "[") (hash_comment (of_text 123 t))) (node j c (leaf (of_text 125 u) none)) _ (kept_square t) refl
    (drawn_node j _ c (leaf (of_text 125 u) none) _ _ (inner j _ c _ (m (within k.BraceOffset whole) false))
    (drawn_leaf (of_text 125 u) (retexted kind.Op (codes "]") (hash_comment (of_text 125 u))) none no_more (kept_squared u) refl drawn_none))))

quoted_changed : (x : Token) (sort : TokenKind) (c : Forest) → opens_text sort ≡ true → Texted c
    → NodeDrawn (leaf (of_kind sort x) c) (changed (k.Quoted, leaf (of_kind sort x) c)
    (k.Quoted, written (within k.Quoted (leaf (of_kind sort x) c)) true (leaf (of_kind sort x) c))).1
quoted_changed x kind.Quote c e o = plain_node (leaf (of_kind kind.Quote x) c) _
    (drawn_token (of_kind kind.Quote x) c _ (o (within k.Quoted (leaf (of_kind kind.Quote x) c)) false))
quoted_changed x kind.HeredocStart c e o = plain_node (leaf (of_kind kind.HeredocStart x) c) _
    (drawn_token (of_kind kind.HeredocStart x) c _ (o (within k.Quoted (leaf (of_kind kind.HeredocStart x) c)) false))
quoted_changed x kind.Backtick c e o = plain_node (leaf (of_kind kind.Backtick x) c) _
    (drawn_token (of_kind kind.Backtick x) c _ (o (within k.Quoted (leaf (of_kind kind.Backtick x) c)) false))
quoted_changed x _ c e o = absurd cc

-- ---- trees

pair_drawn : (t u : Token) (f g h : Forest) (a : Bool → Option Around) (b : Bool)
    → ((a : Bool → Option Around) (b : Bool) → Drawn g (written a b g))
    → ((a : Bool → Option Around) (b : Bool) → Drawn h (written a b h)) → f ≡ g +++ leaf u h
    → Drawn (leaf t f) (written a b (leaf t f))
pair_drawn t u f g h a b p q e =
    drawn_token t f (written a false f)
    (subst (λ (z : Forest). Drawn z (written a false z)) (sym e)
    (subst (Drawn (g +++ leaf u h)) (sym (written_none a false g (leaf u h)))
    (drawn_join g (leaf u h) (written a false g) (written a (still_first false g) (leaf u h)) (p a false) (drawn_token u h (written a false h) (q a false)))))

mutual
  drawn : {f : Forest} → Paired f → (a : Bool → Option Around) (b : Bool) → Drawn f (written a b f)
  drawn pairs.no_part a b = drawn_none
  drawn (pairs.token {t} {f} e o) a b = drawn_token t f (written a false f) (drawn o a false)
  drawn (pairs.rounds {t} {u} {f} {g} {h} m p n q e) a b = pair_drawn t u f g h a b (drawn p) (drawn q) e
  drawn (pairs.braces {t} {u} {f} {g} {h} m p n q e) a b = pair_drawn t u f g h a b (drawn p) (drawn q) e
  drawn (pairs.part {j} {c} {f} e w p q) a b =
      node_of j c f a b (subst (λ (t : NewTree). NodeDrawn c t.1)
      (sym (common_changed j c (j, written (within j c) true c) e))
      (plain_node c (written (within j c) true c) (drawn p (within j c) true))) (drawn q a false)
  drawn (pairs.brace_offset {i} {j} {t} {u} {b = d} {c} {f} p m q n o) a b =
      subst (λ (x : Token). Drawn (node k.BraceOffset (node i d (leaf x (node j c (leaf u none)))) f)
      (written a b (node k.BraceOffset (node i d (leaf x (node j c (leaf u none)))) f))) (sym (text_is 123 t m))
      (subst (λ (x : Token). Drawn (node k.BraceOffset (node i d (leaf (of_text 123 t) (node j c (leaf x none)))) f)
      (written a b (node k.BraceOffset (node i d (leaf (of_text 123 t) (node j c (leaf x none)))) f)))
      (sym (text_is 125 u n))
      (node_of k.BraceOffset (node i d (leaf (of_text 123 t) (node j c (leaf (of_text 125 u) none)))) f a b (offset_changed i j t u d c (drawn p) (drawn q)) (drawn o a false)))
  drawn (pairs.cast {j} {t} {b = d} {f} e p q) a b =
      subst (λ (x : Token). Drawn (node k.Cast (leaf x (node j d none)) f) (written a b (node k.Cast (leaf x (node j d none)) f))) (sym (kind_is kind.Cast t e))
      (node_of k.Cast (leaf (of_kind kind.Cast t) (node j d none)) f a b (cast_changed t j d (drawn p)) (drawn q a false))
  drawn (pairs.text {t} {c} {f} e o q) a b = node_of k.Quoted (leaf t c) f a b (quoted_changed t t.kind c e (texted o)) (drawn q a false)

  texted : {f : Forest} → Interpolated f → (a : Bool → Option Around) (b : Bool) → Drawn f (parts (written a b f))
  texted (pairs.text_end {t} e) a b =
      subst (λ (x : Token). Drawn (leaf x none) (parts (written a b (leaf x none))))
      (sym (kind_is kind.QuotedEnd t e)) (drawn_token (of_kind kind.QuotedEnd t) none no_more drawn_none)
  texted (pairs.piece {t} {f} e o) a b =
      subst (λ (x : Token). Drawn (leaf x f) (parts (written a b (leaf x f)))) (sym (kind_is kind.Piece t e)) (piece_texted t f (texted o) a b)
  texted (pairs.simple {j} {c} {f} e o) a b =
      drawn_node j _ c f _ (parts (written a false f)) (wraps_drawn (wrapping (a b) (j, c)) c (changed (j, c) (j, written (within j c) true c)) (simple_node e)) (texted o a false)
  texted (pairs.curly {j} {t} {u} {c} {f} e p m o) a b =
      subst (λ (x : Token). Drawn (leaf x (node j c (leaf u f))) (parts (written a b (leaf x (node j c (leaf u f)))))) (sym (kind_is kind.CurlyOpen t e))
      (subst (λ (x : Token). Drawn (leaf (of_kind kind.CurlyOpen t) (node j c (leaf x f)))
      (parts (written a b (leaf (of_kind kind.CurlyOpen t) (node j c (leaf x f)))))) (sym (text_is 125 u m))
      (curly_texted t u j c f (drawn p) (texted o) a b))
  texted (pairs.named {t} {n} {u} {f} e d m o) a b =
      subst (λ (x : Token). Drawn (leaf x (leaf n (leaf u f))) (parts (written a b (leaf x (leaf n (leaf u f)))))) (sym (kind_is kind.DollarBrace t e))
      (subst (λ (x : Token). Drawn (leaf (of_kind kind.DollarBrace t) (leaf x (leaf u f)))
      (parts (written a b (leaf (of_kind kind.DollarBrace t) (leaf x (leaf u f))))))
      (sym (kind_is kind.VarName n d))
      (subst (λ (x : Token). Drawn (leaf (of_kind kind.DollarBrace t) (leaf (of_kind kind.VarName n) (leaf x f)))
      (parts (written a b (leaf (of_kind kind.DollarBrace t) (leaf (of_kind kind.VarName n) (leaf x f))))))
      (sym (text_is 125 u m))
      (named_texted t n u f (texted o) a b)))
  texted (pairs.named_offset {j} {t} {n} {o = w} {s} {u} {c} {f} e d m p q r o) a b =
      subst (λ (x : Token). Drawn (leaf x (leaf n (leaf w (node j c (leaf s (leaf u f))))))
      (parts (written a b (leaf x (leaf n (leaf w (node j c (leaf s (leaf u f)))))))))
      (sym (kind_is kind.DollarBrace t e))
      (subst (λ (x : Token). Drawn (leaf (of_kind kind.DollarBrace t)
      (leaf x (leaf w (node j c (leaf s (leaf u f))))))
      (parts (written a b (leaf (of_kind kind.DollarBrace t) (leaf x (leaf w (node j c (leaf s (leaf u f)))))))))
      (sym (kind_is kind.VarName n d))
      (subst (λ (x : Token). Drawn (leaf (of_kind kind.DollarBrace t)
      (leaf (of_kind kind.VarName n) (leaf x (node j c (leaf s (leaf u f))))))
      (parts (written a b (leaf (of_kind kind.DollarBrace t)
      (leaf (of_kind kind.VarName n) (leaf x (node j c (leaf s (leaf u f))))))))) (sym (text_is 91 w m))
      (subst (λ (x : Token). Drawn (leaf (of_kind kind.DollarBrace t)
      (leaf (of_kind kind.VarName n) (leaf (of_text 91 w) (node j c (leaf x (leaf u f))))))
      (parts (written a b (leaf (of_kind kind.DollarBrace t)
      (leaf (of_kind kind.VarName n) (leaf (of_text 91 w) (node j c (leaf x (leaf u f)))))))))
      (sym (text_is 93 s q))
      (subst (λ (x : Token). Drawn (leaf (of_kind kind.DollarBrace t)
      (leaf (of_kind kind.VarName n) (leaf (of_text 91 w) (node j c (leaf (of_text 93 s) (leaf x f))))))
      (parts (written a b (leaf (of_kind kind.DollarBrace t)
      (leaf (of_kind kind.VarName n) (leaf (of_text 91 w) (node j c (leaf (of_text 93 s) (leaf x f)))))))))
      (sym (text_is 125 u r))
      (offset_texted t n w s u j c f (drawn p) (texted o) a b)))))
  texted (pairs.expression {j} {t} {u} {c} {f} e p m o) a b =
      subst (λ (x : Token). Drawn (leaf x (node j c (leaf u f))) (parts (written a b (leaf x (node j c (leaf u f)))))) (sym (kind_is kind.DollarBrace t e))
      (subst (λ (x : Token). Drawn (leaf (of_kind kind.DollarBrace t) (node j c (leaf x f)))
      (parts (written a b (leaf (of_kind kind.DollarBrace t) (node j c (leaf x f)))))) (sym (text_is 125 u m))
      (expression_texted t u j c f (drawn p) (texted o) a b))

-- the draft of paired parts
pub paired_drawn : {f : Forest} → Paired f → (a : Bool → Option Around) (b : Bool) → Drawn f (written a b f)
paired_drawn p a b = drawn p a b
