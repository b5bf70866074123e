-- Parts of quoted texts: children, `{$x}` for `${x}`, and `{$x[..]}` for `${x[..]}`.
use Rattle.std.proofs.Common.{
  ◌≡◌,
  ℕ,
  zero,
  suc,
  ◌+◌,
  Bool,
  true,
  false,
  ◌&&◌,
  cond,
  IsTrue,
  List,
  [],
  ◌∷◌,
  ◌++◌,
  codes,
  Option,
  None,
  Some,
  refl,
  ap,
  sym,
  ◌∙◌,
  subst,
  arith,
  add-zero,
}
use Rattle.std.proofs.Math.Nat.{add-suc}
use Rattle.php_tree.specs.declared.token.TokenKind.{TokenKind}
use Rattle.php_tree.specs.declared.token.TokenKind.TheVariants as token
use Rattle.php_tree.specs.declared.token.Token.{Token}
use Rattle.php_tree.specs.declared.kind.NodeKind.{NodeKind}
use Rattle.php_tree.specs.declared.kind.NodeKind.TheVariants as kind
use Rattle.php_tree.specs.Tree.{Forest, none, leaf, node, count}
use Rattle.php_meaning.specs.values.Value.{Value, Text}
use Rattle.php_meaning.specs.Cause.{NoRule}
use Rattle.php_meaning.specs.runs.World.{Bytes, Place, Before, After, World}
use Rattle.php_meaning.specs.literals.Literals.{found}
use Rattle.php_meaning.specs.literals.Nowdocs.{blanks}
use Rattle.scope_names.specs.Form.{Form, Word, Child, form}
use Rattle.scope_names.specs.Sites.{Site, is_declaration, declarations, one_if, within, beside}
use Rattle.php_meaning.specs.runs.Kinds.{is_expression, is_statement}
use Rattle.php_meaning.specs.names.Tables.{Tables}
use Rattle.php_meaning.specs.runs.Script.{
  Out,
  Val,
  Mode,
  Read,
  Quiet,
  Write,
  Unset,
  Name,
  Later,
  Left,
  Behind,
  Against,
  Into,
  Given,
  Entered,
  Item,
  Target,
  Kid,
  Script,
  Location,
  Found,
  Give,
  Stop,
  Run,
  give,
  given,
  value_then,
  child_value,
}
use Rattle.php_meaning.specs.values.Offsets.{Strict}
use Rattle.php_meaning.specs.expressions.Expressions.{plain_name, offset_of, in_variable}
use Rattle.php_meaning.specs.expressions.QuotedTexts.{
  variable_read,
  Style,
  InQuotes,
  InHeredoc,
  piece,
  ends_line,
  InText,
  InCode,
  BeforeBrace,
  InBrackets,
  BeforeBracket,
  text_then,
  text_at,
  quoted,
  quoted_by,
  quoted_text,
  closing_word,
  ends_here,
  begins_dollar,
}
use Rattle.php_meaning.specs.expressions.QuotedTexts as texts
use Rattle.php_meaning.specs.Rules.{rule, cast, casts, cast_word}
use Rattle.php_meaning.specs.runs.Run.{Mark, Result, then_do, play, Entry, is_stopped, place_in, told, left, going, passes, at_node, step, declared_in}
use Rattle.php_meaning.specs.laws.SameScripts.{HasScriptOf}
use Rattle.php_meaning.specs.laws.Across.{
  Claim,
  world_in,
  Grown,
  FollowsAcross,
  Across,
  DoesAcross,
  IsRewritten,
  nothing,
  token_before,
  token_behind,
  same,
  replaced,
  kept,
  wrapped,
}
use Rattle.php_meaning.proofs.Across.{grown, told_across, step_across, declared_across}
use Rattle.syntax_rules.specs.Keeps.{token_of}
use Rattle.syntax_rules.proofs.Rewrites.{
  IsToken,
  begins,
  Rewrites,
  ends,
  same_token,
  inner,
  changed,
  parens,
  Changed,
  brackets,
  float,
  null,
  curled,
  Curled,
  closing,
  piece as a_piece,
  escaped,
  simple,
  code,
  name,
  offset,
  expression,
}
use Rattle.syntax_rules.proofs.QuotedForms.{
  word_form,
  itself,
  of_kind,
  code_form,
  name_form,
  offset_form,
  closing_same,
  ends_behind,
  no_dollar,
  dollar_first,
  bare_same,
  source_opening,
  target_opening,
}
use Rattle.syntax_rules.proofs.QuotedAcross.{
  same_told,
  left_then,
  variable_node,
  Plays,
  gives_alike,
  stops_alike,
  given_alike,
  value_alike,
  runs_alike,
  text_alike,
  variable_across,
  keyed_across,
  offset_across,
}

-- ---- common steps

-- the same by equal steps
pub moved : (claim : Claim) (m l n p : World → Result) → ((w : World) → m w ≡ l w) → ((w : World) → n w ≡ p w) → Across claim l p → Across claim m n
moved claim m l n p e d h = record {
  grows = λ w. subst (λ r. Grown (world_in r) w) (sym (e w)) (h.grows w);
  follows = λ w u z. subst (λ r. FollowsAcross claim r (n u)) (sym (e w)) (subst (λ r. FollowsAcross claim (l w) r) (sym (d u)) (h.follows w u z));
}

-- ---- pieces

module _ (claim : Claim) (here there : Place) (go to : Target → World → Result) where
  -- a piece, which is outside before `${` where it ends with `$`
  pub piece_alike : (b d e : Bool) (x y : Script) → d ≡ false → (b && e ≡ false → Plays claim here there go to x y)
      → Plays claim here there go to (cond (b && e) (Stop NoRule) x) (cond (d && e) (Stop NoRule) y)
  piece_alike true d true x y h g = stops_alike claim here there go to NoRule (cond (d && true) (Stop NoRule) y)
  piece_alike b true e x y h g = cc
  piece_alike true false false x y h g = g refl
  piece_alike false false e x y h g = g refl

  -- scripts by equal forms
  pub by_forms : (style : Style) (fresh : Bool) (bytes : Bytes) (i j : ℕ) (f g h k : Form) → f ≡ h → g ≡ k
      → Plays claim here there go to (quoted style (InText fresh) bytes i h) (quoted style (InText fresh) bytes j k)
      → Plays claim here there go to (quoted style (InText fresh) bytes i f) (quoted style (InText fresh) bytes j g)
  by_forms style fresh bytes i j f g h k e d p =
      subst (λ x. Plays claim here there go to (quoted style (InText fresh) bytes i x) (quoted style (InText fresh) bytes j g)) (sym e)
      (subst (λ y. Plays claim here there go to (quoted style (InText fresh) bytes i h) (quoted style (InText fresh) bytes j y)) (sym d) p)

-- ---- children behind others

-- the number of a child behind another one
abbrev pub further : ℕ → ℕ → ℕ
further i zero = i
further i (suc n) = further (suc i) n

further_suc : (i n : ℕ) → further (suc i) n ≡ suc (further i n)
further_suc i zero = refl
further_suc i (suc n) = further_suc (suc i) n

pub further_first : (n : ℕ) → further 0 n ≡ n
further_first zero = refl
further_first (suc n) = further_suc 0 n ∙ ap suc (further_first n)

-- the children from one on are those of the parts that are left
abbrev pub Kids : (is_new : Bool) (t : Tables) (marks : List Mark) (lower : Entry → World → Result) (s : Site) (f : Forest) (id i : ℕ)
    (kid : ℕ → Mode → World → Result) → Type 0
Kids is_new t marks lower s f id i kid = (n : ℕ) (m : Mode) (w : World) → kid (further i n) m w ≡ step is_new t marks lower s f id n m w

pub next_lid : (t : Tables) (low : Entry → World → Result) (s u : Site) (jd j : ℕ) (k : NodeKind) (d g : Forest) (lid : ℕ → Mode → World → Result) → beside k d s ≡ u
    → Kids true t [] low s (node k d g) jd j lid → Kids true t [] low u g (suc (jd + count d)) (suc j) lid
next_lid t low s u jd j k d g lid b e n m w = e (suc n) m w ∙ ap (λ z. step true t [] low z g (suc (jd + count d)) n m w) b

-- what a node that reads a variable runs: nothing
abbrev unused : (t : Tables) (low : Entry → World → Result) (s : Site) (x : Token) (jd : ℕ) → World → Target → World → Result
unused t low s x jd u =
    going low (step true t [] low s (leaf x none) (suc jd))
    (passes (place_in s jd) (λ again n y. play true (place_in s jd)
    (going low (step true t [] low s (leaf x none) (suc jd)) again)
    (rule t s kind.Variable n (form (leaf x none))) y) u.turns)

-- a variable's node
variable_step : (t : Tables) (low : Entry → World → Result) (s : Site) (x : Token) (g : Forest) (jd : ℕ) (word : Bytes) → x.text ≡ 36 ∷ word → (u : World)
    → step true t [] low s (node kind.Variable (leaf x none) g) jd 0 Read u ≡ variable_node s jd Read (unused t low s x jd u) word u
variable_step t low s x g jd word e u = ap (λ y. variable_node s jd Read (unused t low s x jd u) (plain_name y) u) e

-- the same as a base that is found
found_step : (t : Tables) (low : Entry → World → Result) (s : Site) (x : Token) (g : Forest) (jd : ℕ) (word : Bytes) → x.text ≡ 36 ∷ word → (l : Location) (u : World)
    → step true t [] low s (node kind.Variable (leaf x none) g) jd 0 (Found l) u ≡ variable_node s jd (Found l) (unused t low s x jd u) word u
found_step t low s x g jd word e l u = ap (λ y. variable_node s jd (Found l) (unused t low s x jd u) (plain_name y) u) e

module _ (claim : Claim) (t : Tables) (marks : List Mark) (lower low : Entry → World → Result) (here there : Place)
    (kid lid : ℕ → Mode → World → Result) (again anew : Mode → World → Result) where
  abbrev pub SourceToTarget : Script → Script → Type 0
  SourceToTarget = Plays claim here there (going lower kid again) (going low lid anew)

  -- a child's value, and what then comes
  pub child_then : (k j : NodeKind) (c d f g : Forest) (s : Site) (id jd a b : ℕ)
      → Across claim (step false t marks lower s (node k c none) id 0 Read) (step true t [] low s (node j d none) jd 0 Read)
      → Kids false t marks lower s (node k c f) id a kid → Kids true t [] low s (node j d g) jd b lid
      → (x y : Value → Script) → ((v : Value) → SourceToTarget (x v) (y v))
      → SourceToTarget (child_value a x) (child_value b y)
  child_then k j c d f g s id jd a b r e l x y q =
      runs_alike claim here there (going lower kid again) (going low lid anew) (Kid a Read) (Kid b Read) (value_then x) (value_then y)
      (moved claim (kid a Read) (step false t marks lower s (node k c none) id 0 Read) (lid b Read) (step true t [] low s (node j d none) jd 0 Read)
      (λ w. e 0 Read w) (λ w. l 0 Read w) r)
      (value_alike claim here there (going lower kid again) (going low lid anew) x y q)

  -- `{$x}` for `${x}`, before what goes on alike
  module _ (style : Style) (fresh : Bool) (s : Site) (jd i j : ℕ) (x v : Token) (text new word : Bytes) (f g : Form) (rest : Forest) (bytes : Bytes)
      (n : x.text ≡ 36 ∷ word) (l : Kids true t [] low s (node kind.Variable (leaf x none) rest) jd j lid)
      (p : (b : Bytes) → SourceToTarget (quoted style (InText false) (bytes ++ b) i f) (quoted style (InText false) (bytes ++ b) (suc j) g)) where
    abbrev new_named : Value → Script
    new_named y = text_then y (λ b. quoted style BeforeBrace (bytes ++ b) (suc j) (Word token.Op (codes "}") ∷ g))

    abbrev named_onward : Out → World → Result
    named_onward o y = play true there (going low lid anew) (value_then new_named o) y

    read_named : (over : Target → World → Result)
        → Across claim (play false here (going lower kid again)
        (variable_read word (λ y. text_then y (λ b. quoted style (InText false) (bytes ++ b) i f))))
        (λ u. then_do (variable_node s jd Read over word u) named_onward)
    read_named over = variable_across claim here (going lower kid again) over s jd Read word (λ y. text_then y (λ b. quoted style (InText false) (bytes ++ b) i f)) named_onward
        (λ y. text_alike claim here there (going lower kid again) (going low lid anew) y
        (λ b. quoted style (InText false) (bytes ++ b) i f)
        (λ b. quoted style BeforeBrace (bytes ++ b) (suc j) (Word token.Op (codes "}") ∷ g)) p)

    pub named_alike : SourceToTarget
        (quoted style (InText fresh) bytes i (Word token.DollarBrace text ∷ Word token.VarName word ∷ Word token.Op (codes "}") ∷ f))
        (quoted style (InText fresh) bytes j (Word token.CurlyOpen new ∷ Child ∷ Word token.Op (codes "}") ∷ g))
    named_alike = record {
      grows = λ w. (read_named (unused t low s x jd w)).grows w;
      follows = λ w u z.
          subst (λ r. FollowsAcross claim (play false here (going lower kid again)
          (variable_read word (λ y. text_then y (λ b. quoted style (InText false) (bytes ++ b) i f))) w)
          (then_do r named_onward))
          (sym (l 0 Read u ∙ variable_step t low s x rest jd word n u))
          ((read_named (unused t low s x jd u)).follows w u z);
    }

  -- `{$x[..]}` for `${x[..]}`, before what goes on alike
  module _ (style : Style) (fresh : Bool) (s : Site) (id jd i j : ℕ) (a b : NodeKind) (c d source : Forest)
      (x o y : Token) (text new word : Bytes) (f g : Form) (rest : Forest) (bytes : Bytes)
      (n : x.text ≡ 36 ∷ word)
      (r : Across claim (step false t marks lower s (node a c none) id 0 Read)
      (step true t [] low (beside kind.Variable (leaf x none) s) (node b d none)
      (suc (suc jd + count (leaf x none))) 0 Read))
      (k : Kids false t marks lower s (node a c source) id i kid)
      (l : Kids true t [] low s (node kind.Offset (node kind.Variable (leaf x none) (leaf o (node b d (leaf y none)))) rest) jd j lid)
      (p : (z : Bytes) → SourceToTarget (quoted style (InText false) (bytes ++ z) (suc i) f) (quoted style (InText false) (bytes ++ z) (suc j) g)) where
    abbrev offset_parts : Forest
    offset_parts = node kind.Variable (leaf x none) (leaf o (node b d (leaf y none)))

    abbrev source_rest : Bytes → Script
    source_rest z = quoted style BeforeBracket (bytes ++ z) (suc i) (Word token.Op (codes "]") ∷ Word token.Op (codes "}") ∷ f)

    abbrev target_rest : Bytes → Script
    target_rest z = quoted style BeforeBrace (bytes ++ z) (suc j) (Word token.Op (codes "}") ∷ g)

    -- in the source the variable is read once its key was evaluated; in the target its node is found then
    abbrev old_offset : Value → Script
    old_offset key = variable_read word (λ value. text_at value key source_rest)

    abbrev base_found : Location
    base_found = in_variable (plain_name x.text)

    abbrev new_offset : Value → Script
    new_offset key = Run (Kid 0 (Found base_found)) (value_then (λ value. offset_of Strict value key))

    -- what the node of the offset runs
    abbrev offset_over : World → Target → World → Result
    offset_over u = going low (step true t [] low s offset_parts (suc jd))
        (passes (place_in s jd) (λ again n w. play true (place_in s jd)
        (going low (step true t [] low s offset_parts (suc jd)) again)
        (rule t s kind.Offset n (form offset_parts)) w) u.turns)

    abbrev text_onward : Out → World → Result
    text_onward e w = play true there (going low lid anew) (value_then (λ value. text_then value target_rest) e) w

    abbrev value_onward : World → Value → Out → World → Result
    value_onward u key e w = then_do (left s jd Read (play true (place_in s jd) (offset_over u) (value_then (λ value. offset_of Strict value key) e) w)) text_onward

    read_value : (u : World) (key : Value) (over : Target → World → Result) → Across claim (play false here (going lower kid again) (old_offset key))
        (λ w. then_do (variable_node s (suc jd) (Found base_found) over word w) (value_onward u key))
    read_value u key over = variable_across claim here (going lower kid again) over s (suc jd) (Found base_found) word
        (λ value. text_at value key source_rest) (value_onward u key)
        (λ value. offset_across claim here there (going lower kid again) (going low lid anew) (offset_over u) s jd source_rest target_rest p value key)

    found_is : (u : World) (key : Value) (w : World)
        → then_do (left s jd Read (play true (place_in s jd) (offset_over u) (new_offset key) w)) text_onward
        ≡ then_do (variable_node s (suc jd) (Found base_found) (unused t low s x (suc jd) w) word w) (value_onward u key)
    found_is u key w =
        left_then s jd Read (step true t [] low s offset_parts (suc jd) 0 (Found base_found) w)
        (λ e z. play true (place_in s jd) (offset_over u) (value_then (λ value. offset_of Strict value key) e) z) text_onward
        ∙ ap (λ e. then_do e (value_onward u key)) (found_step t low s x (leaf o (node b d (leaf y none))) (suc jd) word n base_found w)

    read_offset : (u : World) → Across claim (play false here (going lower kid again) (child_value i old_offset))
        (λ w. then_do (left s jd Read (play true (place_in s jd) (offset_over u) (child_value 1 new_offset) w)) text_onward)
    read_offset u =
        keyed_across claim here there (going lower kid again) (going low lid anew) (offset_over u) s jd source_rest target_rest p old_offset new_offset
        (λ key. record {
          grows = λ w. (read_value u key (unused t low s x (suc jd) w)).grows w;
          follows = λ w z e.
              subst (λ r. FollowsAcross claim (play false here (going lower kid again) (old_offset key) w) r) (sym (found_is u key z))
              ((read_value u key (unused t low s x (suc jd) z)).follows w z e);
        })
        i
        (step false t marks lower s (node a c none) id 0 Read)
        (step true t [] low (beside kind.Variable (leaf x none) s) (node b d none)
        (suc (suc jd + count (leaf x none))) 0 Read)
        r (λ w. k 0 Read w) (λ w. refl)

    -- once the base was evaluated early, which changes nothing
    abbrev begun_at : World → World
    begun_at u = told s (suc jd) After None (told s (suc jd) Before None (told s jd Before None u))

    there_is : (u : World) → play true there (going low lid anew) (child_value j (λ value. text_then value target_rest)) u
        ≡ then_do (left s jd Read (play true (place_in s jd) (offset_over u) (child_value 1 new_offset) (begun_at u))) text_onward
    there_is u = ap (λ e. then_do e text_onward) (l 0 Read u)

    pub offset_alike : SourceToTarget
        (quoted style (InText fresh) bytes i (Word token.DollarBrace text ∷ Word token.VarName word
        ∷ Word token.Op (codes "[") ∷ Child ∷ Word token.Op (codes "]") ∷ Word token.Op (codes "}") ∷ f))
        (quoted style (InText fresh) bytes j (Word token.CurlyOpen new ∷ Child ∷ Word token.Op (codes "}") ∷ g))
    offset_alike = record {
      grows = λ w. (read_offset w).grows w;
      follows = λ w u e.
          subst (λ z. FollowsAcross claim (play false here (going lower kid again) (child_value i old_offset) w) z) (sym (there_is u))
          ((read_offset u).follows w (begun_at u) (same_told s (suc jd) After None (same_told s (suc jd) Before None (same_told s jd Before None e))));
    }
