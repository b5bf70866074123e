-- Units of a quoted text that begin with a simple variable, and ends.
use Rattle.std.proofs.Common.{◌≡◌, ℕ, suc, Bool, true, false, cond, List, [], ◌∷◌, ◌++◌, length, refl, sym, ◌∙◌, subst}
use Rattle.php_tree.specs.declared.version.Version.TheVariants.{V74}
use Rattle.php_spellings.specs.declared.table.Kind.{Kind}
use Rattle.php_spellings.specs.declared.table.Kind.TheVariants.{
  Space,
  Comment,
  Tag,
  OpenEcho,
  InlineHtml,
  Variable,
  Word,
  Label,
  Keyword,
  Name,
  Decimal,
  Octal,
  Hexadecimal,
  Binary,
  Digits,
  Float,
  Text,
  Quote,
  Backtick,
  HeredocStart,
  Cast,
  Op,
  AttributeOpen,
  Semi,
  Close,
  Piece,
  CurlyOpen,
  DollarBrace,
  VarName,
  QuotedEnd,
}
use Rattle.php_spellings.specs.declared.table.Mark.{Mark}
use Rattle.php_spellings.specs.Bytes.{is_letter, begins_by}
use Rattle.php_lexer.specs.Modes.{Mode, quoted, offset, property, ModeStep, stay, enter, begins_arrow, part_mode_step, mode_step_of, IsLongest}
use Rattle.php_lexer.specs.Lexed.{Stack, stepped_by}
use Rattle.php_relexing.specs.Tiles.{Tile, tile, joined}
use Rattle.php_relexing.specs.Spelled.{Steps}
use Rattle.php_relexing.specs.Pieces.{is_labelled}
use Rattle.php_relexing.proofs.Offsets.{offsets_stay}
use Rattle.php_relexing.proofs.Parts.{text_variables_stay, simple_parts_stay}
use Rattle.written_tokens.specs.tokens.Levels.{stack_of}
use Rattle.written_tokens.specs.texts.TextRows.{is_op, Key, bare, minus}
use Rattle.written_tokens.proofs.texts.Stepping.{first, step_by}
use Rattle.written_tokens.proofs.texts.Evenly.{Even, even_label, even_mode_step}
use Rattle.written_tokens.proofs.texts.QuotedTokens.{is_unit, variable_text, property_ends, no_offset, no_property, no_op}
use Rattle.written_tokens.proofs.texts.OpenRows.{Head}

-- ---- a variable alone

module _ (m : Mode) (k : Stack) (kind : Kind) (b : ℕ) (a : List ℕ) (ts : List Tile) (unit : is_unit kind ≡ true) where
  no_square : (stack : Stack) → offset ≡ stack.top → begins_by 91 (b ∷ a ++ joined ts) ≡ true → Steps V74 stack (tile kind b a ∷ ts) → ⊥
  no_square stack top e h =
      let at = (first stack kind b a ts h).longest in
      let out = no_offset kind b a (joined ts) unit (subst (λ (n : Mode). IsLongest V74 n (b ∷ a ++ joined ts) kind (suc (length a))) (sym top) at) in
      let clash : true ≡ false = sym e ∙ out in
      cc

  no_arrow : (stack : Stack) → property ≡ stack.top → Steps V74 stack (tile kind b a ∷ ts) → ⊥
  no_arrow stack top h =
      no_property kind b a (joined ts) unit (subst (λ (n : Mode). IsLongest V74 n (b ∷ a ++ joined ts) kind (suc (length a))) (sym top) (first stack kind b a ts h).longest)

  mode_step_by : (t u : Bool) → begins_by 91 (b ∷ a ++ joined ts) ≡ t
      → Steps V74 (stepped_by (cond t (enter offset m) (cond u (enter property m) (stay m))) k) (tile kind b a ∷ ts)
      → cond t (enter offset m) (cond u (enter property m) (stay m)) ≡ stay m
  mode_step_by true u e h = absurd (no_square (stepped_by (enter offset m) k) refl e h)
  mode_step_by false true e h = absurd (no_arrow (stepped_by (enter property m) k) refl h)
  mode_step_by false false e h = refl

  -- a unit behind a variable is no part of it
  alone_at : Steps V74 (stepped_by (part_mode_step V74 m (b ∷ a ++ joined ts)) k) (tile kind b a ∷ ts) → part_mode_step V74 m (b ∷ a ++ joined ts) ≡ stay m
  alone_at h = mode_step_by (begins_by 91 (b ∷ a ++ joined ts)) (begins_arrow (b ∷ a ++ joined ts)) refl h

alone : (m : Mode) (k : Stack) (ts : List Tile) → Head ts → Steps V74 (stepped_by (part_mode_step V74 m (joined ts)) k) ts → part_mode_step V74 m (joined ts) ≡ stay m
alone m k ts head h =
    subst (λ (u : List Tile). part_mode_step V74 m (joined u) ≡ stay m) (sym head.same)
    (alone_at m k head.kind head.byte head.bytes head.more head.unit
    (subst (λ (u : List Tile). Steps V74 (stepped_by (part_mode_step V74 m (joined u)) k) u) head.same h))

module _ (mark : Mark) (label : List ℕ) (fresh : Bool) where
  abbrev In : List Mode → ℕ → Stack
  In below depth = stack_of (quoted mark label fresh) below depth

  abbrev Next : List Mode → ℕ → Stack
  Next below depth = stack_of (quoted mark label false) below depth

  -- what the source has at a variable alone
  pub record Alone (below : List Mode) (depth : ℕ) (b : ℕ) (a : List ℕ) (ts : List Tile) : Type 0 where
    pub longest : IsLongest V74 (quoted mark label fresh) (b ∷ a ++ joined ts) Variable (suc (length a))
    pub mode_step : part_mode_step V74 (quoted mark label false) (joined ts) ≡ stay (quoted mark label false)
    pub more : Steps V74 (Next below depth) ts

  pub alone_source : (below : List Mode) (depth : ℕ) (b : ℕ) (a : List ℕ) (ts : List Tile) → Head ts
      → Steps V74 (In below depth) (tile Variable b a ∷ ts) → Alone below depth b a ts
  alone_source below depth b a ts head h =
      let at = first (In below depth) Variable b a ts h in
      let mode_step = alone (quoted mark label false) (In below depth) ts head at.more in
      record {
        longest = at.longest;
        mode_step = mode_step;
        more = subst (λ (t : ModeStep). Steps V74 (stepped_by t (In below depth)) ts) mode_step at.more;
      }

  -- and what is written there
  pub alone_written : is_labelled mark label ≡ true → (below over : List Mode) (depth deep : ℕ) (b : ℕ) (a : List ℕ)
      (ts us : List Tile) → Alone below depth b a ts → Even (joined ts) (joined us) → Steps V74 (Next over deep) us
      → Steps V74 (In over deep) (tile Variable b a ∷ us)
  alone_written labelled below over depth deep b a ts us source even written =
      let text = variable_text mark label fresh b a (joined ts) source.longest in
      let mode_step : part_mode_step V74 (quoted mark label false) (joined us) ≡ stay (quoted mark label false) =
      sym (even_mode_step (quoted mark label false) (joined ts) (joined us) even) ∙ source.mode_step in
      step_by (In over deep) Variable b a us
      (text_variables_stay V74 V74 mark label fresh b a (joined ts) (joined us) labelled (sym (even_label even) ∙ text.ends) source.longest)
      (subst (λ (t : ModeStep). Steps V74 (stepped_by t (In over deep)) us) (sym mode_step) written)

-- ---- a simple offset

pub stays_in : (kind : Kind) (text rest : List ℕ) → is_op kind ≡ false → mode_step_of V74 offset kind text rest ≡ stay offset
stays_in Op text rest h = absurd cc
stays_in Space text rest h = refl
stays_in Comment text rest h = refl
stays_in Tag text rest h = refl
stays_in OpenEcho text rest h = refl
stays_in InlineHtml text rest h = refl
stays_in Variable text rest h = refl
stays_in Word text rest h = refl
stays_in Label text rest h = refl
stays_in Keyword text rest h = refl
stays_in Name text rest h = refl
stays_in Decimal text rest h = refl
stays_in Octal text rest h = refl
stays_in Hexadecimal text rest h = refl
stays_in Binary text rest h = refl
stays_in Digits text rest h = refl
stays_in Float text rest h = refl
stays_in Text text rest h = refl
stays_in Quote text rest h = refl
stays_in Backtick text rest h = refl
stays_in HeredocStart text rest h = refl
stays_in Cast text rest h = refl
stays_in AttributeOpen text rest h = refl
stays_in Semi text rest h = refl
stays_in Close text rest h = refl
stays_in Piece text rest h = refl
stays_in CurlyOpen text rest h = refl
stays_in DollarBrace text rest h = refl
stays_in VarName text rest h = refl
stays_in QuotedEnd text rest h = refl

module _ (m : Mode) where
  abbrev Off : List Mode → ℕ → Stack
  Off below depth = stack_of offset (m ∷ below) depth

  shut_source : (below : List Mode) (depth : ℕ) (ts : List Tile) → Steps V74 (Off below depth) (tile Op 93 [] ∷ ts) → Steps V74 (stack_of m below depth) ts
  shut_source below depth ts h = (first (Off below depth) Op 93 [] ts h).more

  shut_written : (over : List Mode) (deep : ℕ) (us : List Tile) → Steps V74 (stack_of m over deep) us → Steps V74 (Off over deep) (tile Op 93 [] ∷ us)
  shut_written over deep us h = step_by (Off over deep) Op 93 [] us (simple_parts_stay.ending V74 (joined us)) h

  bare_source : (below : List Mode) (depth : ℕ) (kind : Kind) (b : ℕ) (a : List ℕ) (ts : List Tile)
      → is_op kind ≡ false → Steps V74 (Off below depth) (tile kind b a ∷ tile Op 93 [] ∷ ts)
      → Steps V74 (stack_of m below depth) ts
  bare_source below depth kind b a ts k h =
      let at = first (Off below depth) kind b a (tile Op 93 [] ∷ ts) h in
      shut_source below depth ts (subst (λ (t : ModeStep). Steps V74 (stepped_by t (Off below depth)) (tile Op 93 [] ∷ ts)) (stays_in kind (b ∷ a) (93 ∷ joined ts) k) at.more)

  bare_written : (below over : List Mode) (depth deep : ℕ) (kind : Kind) (b : ℕ) (a : List ℕ) (ts us : List Tile)
      → is_op kind ≡ false → Steps V74 (Off below depth) (tile kind b a ∷ tile Op 93 [] ∷ ts)
      → Steps V74 (stack_of m over deep) us → Steps V74 (Off over deep) (tile kind b a ∷ tile Op 93 [] ∷ us)
  bare_written below over depth deep kind b a ts us k h written =
      let at = first (Off below depth) kind b a (tile Op 93 [] ∷ ts) h in
      step_by (Off over deep) kind b a (tile Op 93 [] ∷ us) (offsets_stay V74 V74 kind b a (joined ts) (joined us) at.longest)
      (subst (λ (t : ModeStep). Steps V74 (stepped_by t (Off over deep)) (tile Op 93 [] ∷ us)) (sym (stays_in kind (b ∷ a) (93 ∷ joined us) k)) (shut_written over deep us written))

  key_source : {ks : List Tile} → Key ks → (below : List Mode) (depth : ℕ) (ts : List Tile)
      → Steps V74 (Off below depth) (ks ++ tile Op 93 [] ∷ ts) → Steps V74 (stack_of m below depth) ts
  key_source (bare kind b a k) below depth ts h = bare_source below depth kind b a ts k h
  key_source (minus kind b a k) below depth ts h = bare_source below depth kind b a ts k (first (Off below depth) Op 45 [] (tile kind b a ∷ tile Op 93 [] ∷ ts) h).more

  key_written : {ks : List Tile} → Key ks → (below over : List Mode) (depth deep : ℕ) (ts us : List Tile)
      → Steps V74 (Off below depth) (ks ++ tile Op 93 [] ∷ ts) → Steps V74 (stack_of m over deep) us
      → Steps V74 (Off over deep) (ks ++ tile Op 93 [] ∷ us)
  key_written (bare kind b a k) below over depth deep ts us h written = bare_written below over depth deep kind b a ts us k h written
  key_written (minus kind b a k) below over depth deep ts us h written =
      let at = first (Off below depth) Op 45 [] (tile kind b a ∷ tile Op 93 [] ∷ ts) h in
      step_by (Off over deep) Op 45 [] (tile kind b a ∷ tile Op 93 [] ∷ us) (simple_parts_stay.minus V74 (joined (tile kind b a ∷ tile Op 93 [] ∷ us)))
      (bare_written below over depth deep kind b a ts us k at.more written)

module _ (mark : Mark) (label : List ℕ) (fresh : Bool) where
  abbrev At : List Mode → ℕ → Stack
  At below depth = stack_of (quoted mark label fresh) below depth

  abbrev Then : List Mode → ℕ → Stack
  Then below depth = stack_of (quoted mark label false) below depth

  -- behind `[` of a simple offset
  inside : (below : List Mode) (depth : ℕ) (b : ℕ) (a : List ℕ) (ks : List Tile)
      → Steps V74 (At below depth) (tile Variable b a ∷ tile Op 91 [] ∷ ks)
      → Steps V74 (Off (quoted mark label false) below depth) ks
  inside below depth b a ks h =
      (first (Off (quoted mark label false) below depth) Op 91 [] ks (first (At below depth) Variable b a (tile Op 91 [] ∷ ks) h).more).more

  pub offset_source : (below : List Mode) (depth : ℕ) (b : ℕ) (a : List ℕ) (ks ts : List Tile) → Key ks
      → Steps V74 (At below depth) (tile Variable b a ∷ tile Op 91 [] ∷ ks ++ tile Op 93 [] ∷ ts)
      → Steps V74 (Then below depth) ts
  offset_source below depth b a ks ts key h = key_source (quoted mark label false) key below depth ts (inside below depth b a (ks ++ tile Op 93 [] ∷ ts) h)

  pub offset_written : is_labelled mark label ≡ true → (below over : List Mode) (depth deep : ℕ) (b : ℕ) (a : List ℕ)
      (ks ts us : List Tile) → Key ks → Steps V74 (At below depth)
      (tile Variable b a ∷ tile Op 91 [] ∷ ks ++ tile Op 93 [] ∷ ts) → Steps V74 (Then over deep) us
      → Steps V74 (At over deep) (tile Variable b a ∷ tile Op 91 [] ∷ ks ++ tile Op 93 [] ∷ us)
  offset_written labelled below over depth deep b a ks ts us key h written =
      let m = quoted mark label false in
      let old = tile Op 91 [] ∷ ks ++ tile Op 93 [] ∷ ts in
      let new = tile Op 91 [] ∷ ks ++ tile Op 93 [] ∷ us in
      let at = first (At below depth) Variable b a old h in
      step_by (At over deep) Variable b a new (text_variables_stay V74 V74 mark label fresh b a (joined old) (joined new) labelled refl at.longest)
      (step_by (Off m over deep) Op 91 [] (ks ++ tile Op 93 [] ∷ us) (simple_parts_stay.opening V74 (joined (ks ++ tile Op 93 [] ∷ us)))
      (key_written m key below over depth deep ts us (inside below depth b a (ks ++ tile Op 93 [] ∷ ts) h) written))

  -- ---- a simple property

  abbrev Prop : List Mode → ℕ → Stack
  Prop below depth = stack_of property (quoted mark label false ∷ below) depth

  -- what the source has at a variable, `->` and a label
  pub record Fetched (below : List Mode) (depth : ℕ) (b : ℕ) (a : List ℕ) (c : ℕ) (e : List ℕ) (ts : List Tile) : Type 0 where
    pub variable : IsLongest V74 (quoted mark label fresh) (b ∷ a ++ (45 ∷ 62 ∷ c ∷ e ++ joined ts)) Variable (suc (length a))
    pub letter : is_letter c ≡ true
    pub longest : IsLongest V74 property (c ∷ e ++ joined ts) Label (suc (length e))
    pub more : Steps V74 (Then below depth) ts

  module _ (below : List Mode) (depth : ℕ) (b : ℕ) (a : List ℕ) (c : ℕ) (e : List ℕ) (ts : List Tile) where
    abbrev Tail : List Tile
    Tail = tile Label c e ∷ ts

    fetched_by : (t : Bool) → is_letter c ≡ t → IsLongest V74 (quoted mark label fresh)
        (b ∷ a ++ (45 ∷ 62 ∷ c ∷ e ++ joined ts)) Variable (suc (length a))
        → Steps V74 (stepped_by (cond t (enter property (quoted mark label false)) (stay (quoted mark label false)))
        (At below depth)) (tile Op 45 (62 ∷ []) ∷ Tail) → Fetched below depth b a c e ts
    fetched_by false p l h = absurd (no_op mark label false 45 (62 ∷ []) (joined Tail) (first (Then below depth) Op 45 (62 ∷ []) Tail h).longest)
    fetched_by true p l h =
        let arrow = first (Prop below depth) Op 45 (62 ∷ []) Tail h in
        let name = first (Prop below depth) Label c e ts arrow.more in
        record { variable = l; letter = p; longest = name.longest; more = name.more }

    pub fetched_source : Steps V74 (At below depth) (tile Variable b a ∷ tile Op 45 (62 ∷ []) ∷ Tail) → Fetched below depth b a c e ts
    fetched_source h =
        let at = first (At below depth) Variable b a (tile Op 45 (62 ∷ []) ∷ Tail) h in
        fetched_by (is_letter c) refl at.longest at.more

  pub fetched_written : is_labelled mark label ≡ true → (below over : List Mode) (depth deep : ℕ) (b : ℕ) (a : List ℕ)
      (c : ℕ) (e : List ℕ) (ts us : List Tile) → Fetched below depth b a c e ts → Even (joined ts) (joined us)
      → Steps V74 (Then over deep) us → Steps V74 (At over deep)
      (tile Variable b a ∷ tile Op 45 (62 ∷ []) ∷ tile Label c e ∷ us)
  fetched_written labelled below over depth deep b a c e ts us source even written =
      let m = quoted mark label false in
      let stops = sym (even_label even) ∙ property_ends c e (joined ts) source.longest in
      let mode_step : enter property m ≡ part_mode_step V74 m (45 ∷ 62 ∷ c ∷ e ++ joined us) = rw source.letter refl in
      step_by (At over deep) Variable b a (tile Op 45 (62 ∷ []) ∷ tile Label c e ∷ us)
      (text_variables_stay V74 V74 mark label fresh b a (45 ∷ 62 ∷ c ∷ e ++ joined ts) (45 ∷ 62 ∷ c ∷ e ++ joined us) labelled refl source.variable)
      (subst (λ (t : ModeStep). Steps V74 (stepped_by t (At over deep)) (tile Op 45 (62 ∷ []) ∷ tile Label c e ∷ us)) mode_step
      (step_by (Prop over deep) Op 45 (62 ∷ []) (tile Label c e ∷ us) (simple_parts_stay.arrow V74 (c ∷ e ++ joined us))
      (step_by (Prop over deep) Label c e us (simple_parts_stay.label V74 V74 c e (joined ts) (joined us) stops source.longest) written)))
