-- Tiles in a row, from one stack of modes to another.
use Rattle.std.proofs.Common.{◌≡◌, ℕ, suc, Bool, true, false, ◌||◌, List, [], ◌∷◌, ◌++◌, length, drop, refl, sym, ap, ◌∙◌, subst, append_assoc, append-nil}
use Rattle.std.proofs.Math.Seq.{take-append_seam, drop-append_seam}
use Rattle.php_tree.specs.declared.version.Version.{Version}
use Rattle.php_tree.specs.declared.version.Version.TheVariants.{V74, V83}
use Rattle.php_spellings.specs.declared.table.Kind.{Kind}
use Rattle.php_spellings.specs.declared.table.Kind.TheVariants.{
  Space,
  Comment,
  Tag,
  OpenEcho,
  InlineHtml,
  Variable,
  Word,
  Label,
  Keyword,
  Name,
  Decimal,
  Octal,
  Hexadecimal,
  Binary,
  Digits,
  Float,
  Text,
  Quote,
  Backtick,
  HeredocStart,
  Cast,
  Op,
  AttributeOpen,
  Semi,
  Close,
  Piece,
  CurlyOpen,
  DollarBrace,
  VarName,
  QuotedEnd,
}
use Rattle.php_spellings.specs.declared.table.Mark.{Mark}
use Rattle.php_lexer.specs.Modes.{Mode, html, code, named, quoted, offset, property, IsLongest, mode_step_of, part_mode_step, begins_arrow}
use Rattle.php_lexer.specs.Lexed.{Stack, after, stepped_by}
use Rattle.php_relexing.specs.Tiles.{Tile, tile, joined}
use Rattle.php_relexing.specs.Spelled.{Steps, done, step}
use Rattle.php_relexing.specs.Passes.{Pass, nothing, then, PassesJoin, begins_nullsafe, ModeStepsAgree}

joined_append : (ts us : List Tile) (rest : List ℕ) → joined (ts ++ us) ++ rest ≡ joined ts ++ (joined us ++ rest)
joined_append [] us rest = refl
joined_append (tile kind b a ∷ ts) us rest =
    ap (λ (u : List ℕ). b ∷ u)
    (append_assoc a (joined (ts ++ us)) rest ∙ ap (λ (u : List ℕ). a ++ u) (joined_append ts us rest) ∙ sym (append_assoc a (joined ts) (joined us ++ rest)))

join : {v : Version} {k m n : Stack} {ts us : List Tile} {between : List ℕ} (rest : List ℕ) → between ≡ joined us
    ++ rest → Pass v between k ts m → Pass v rest m us n → Pass v rest k (ts ++ us) n
join rest e nothing q = q
join {v = v} {n = n} {us = us} {between = between} rest e (then {stack = stack} kind b a ts h p) q =
    let same : joined ts ++ between ≡ joined (ts ++ us) ++ rest = ap (λ (u : List ℕ). joined ts ++ u) e ∙ sym (joined_append ts us rest) in
    then kind b a (ts ++ us)
    (subst (λ (u : List ℕ). IsLongest v stack.top (b ∷ a ++ u) kind (suc (length a))) same h)
    (subst (λ (u : List ℕ). Pass v rest (stepped_by (mode_step_of v stack.top kind (b ∷ a) u) stack) (ts ++ us) n) same (join rest e p q))

mode_steps : (v : Version) (k : Stack) (kind : Kind) (b : ℕ) (a rest : List ℕ) → after v k kind (suc (length a)) (b ∷ a ++ rest) ≡ stepped_by (mode_step_of v k.top kind (b ∷ a) rest) k
mode_steps v k kind b a rest =
    ap (λ (u : List ℕ). stepped_by (mode_step_of v k.top kind (b ∷ u) (drop (length a) (a ++ rest))) k) (take-append_seam a rest)
    ∙ ap (λ (u : List ℕ). stepped_by (mode_step_of v k.top kind (b ∷ a) u) k) (drop-append_seam a rest)

steps : {v : Version} {rest : List ℕ} {k n : Stack} {ts : List Tile} → rest ≡ [] → n.depth ≡ 0 → Pass v rest k ts n → Steps v k ts
steps e d nothing = done d
steps e d (then {v = v} {rest = rest} {stack = stack} kind b a ts h p) =
    let same : joined ts ++ rest ≡ joined ts = ap (λ (u : List ℕ). joined ts ++ u) e ∙ append-nil (joined ts) in
    step kind b a ts
    (subst (λ (u : List ℕ). IsLongest v stack.top (b ∷ a ++ u) kind (suc (length a))) same h)
    (subst (λ (k : Stack). Steps v k ts) (sym (mode_steps v stack kind b a (joined ts)))
    (subst (λ (u : List ℕ). Steps v (stepped_by (mode_step_of v stack.top kind (b ∷ a) u) stack) ts) same (steps e d p)))

pub passes_join : PassesJoin
passes_join = record {
  join = λ v rest k m n ts us p q. join rest refl p q;
  steps = λ v k n ts d p. steps refl d p;
  mode_steps = mode_steps;
}

-- ---- turns in both versions

or_false : (x y : Bool) → y ≡ false → x ≡ (x || y)
or_false true y h = refl
or_false false y h = sym h

part_agrees : (mode : Mode) (rest : List ℕ) → begins_nullsafe rest ≡ false → part_mode_step V74 mode rest ≡ part_mode_step V83 mode rest
part_agrees m rest h = rw (h, sym (or_false (begins_arrow rest) false refl)) refl

quoted_agrees : (mark : Mark) (label : List ℕ) (fresh : Bool) (kind : Kind) (text rest : List ℕ)
    → begins_nullsafe rest ≡ false → mode_step_of V74 (quoted mark label fresh) kind text rest ≡ mode_step_of V83
    (quoted mark label fresh) kind text rest
quoted_agrees mark label fresh Space text rest h = refl
quoted_agrees mark label fresh Comment text rest h = refl
quoted_agrees mark label fresh Tag text rest h = refl
quoted_agrees mark label fresh OpenEcho text rest h = refl
quoted_agrees mark label fresh InlineHtml text rest h = refl
quoted_agrees mark label fresh Variable text rest h = part_agrees (quoted mark label false) rest h
quoted_agrees mark label fresh Word text rest h = refl
quoted_agrees mark label fresh Label text rest h = refl
quoted_agrees mark label fresh Keyword text rest h = refl
quoted_agrees mark label fresh Name text rest h = refl
quoted_agrees mark label fresh Decimal text rest h = refl
quoted_agrees mark label fresh Octal text rest h = refl
quoted_agrees mark label fresh Hexadecimal text rest h = refl
quoted_agrees mark label fresh Binary text rest h = refl
quoted_agrees mark label fresh Digits text rest h = refl
quoted_agrees mark label fresh Float text rest h = refl
quoted_agrees mark label fresh Text text rest h = refl
quoted_agrees mark label fresh Quote text rest h = refl
quoted_agrees mark label fresh Backtick text rest h = refl
quoted_agrees mark label fresh HeredocStart text rest h = refl
quoted_agrees mark label fresh Cast text rest h = refl
quoted_agrees mark label fresh Op text rest h = refl
quoted_agrees mark label fresh AttributeOpen text rest h = refl
quoted_agrees mark label fresh Semi text rest h = refl
quoted_agrees mark label fresh Close text rest h = refl
quoted_agrees mark label fresh Piece text rest h = refl
quoted_agrees mark label fresh CurlyOpen text rest h = refl
quoted_agrees mark label fresh DollarBrace text rest h = refl
quoted_agrees mark label fresh VarName text rest h = refl
quoted_agrees mark label fresh QuotedEnd text rest h = refl

pub mode_steps_agree : ModeStepsAgree
mode_steps_agree html kind text rest h = refl
mode_steps_agree code kind text rest h = refl
mode_steps_agree named kind text rest h = refl
mode_steps_agree (quoted mark label fresh) kind text rest h = quoted_agrees mark label fresh kind text rest h
mode_steps_agree offset kind text rest h = refl
mode_steps_agree property kind text rest h = refl
