-- 8.3 takes a row of such tokens as 7.4 does.
use Rattle.std.proofs.Common.{◌≡◌, ℕ, suc, Bool, true, false, cond, not, ◌&&◌, ◌||◌, nat_eq, List, [], ◌∷◌, ◌++◌, length, refl, sym, ap, ◌∙◌, subst}
use Rattle.std.proofs.lemmas.Bool.{and_parts, eqb-true, or_left, and_from}
use Rattle.php_tree.specs.declared.version.Version.TheVariants.{V74}
use Rattle.php_spellings.specs.declared.table.Kind.{Kind}
use Rattle.php_spellings.specs.declared.table.Kind.TheVariants.{
  InlineHtml,
  Variable,
  Word,
  Label,
  Name,
  Quote,
  Backtick,
  HeredocStart,
  Op,
  Close,
  CurlyOpen,
  DollarBrace,
  QuotedEnd,
}
use Rattle.php_spellings.specs.declared.table.Mark.{Mark}
use Rattle.php_spellings.specs.declared.table.Mark.TheVariants.{Double, Back, Here}
use Rattle.php_spellings.specs.Bytes.{begins_by}
use Rattle.php_spellings.specs.Words.{is_keyword}
use Rattle.php_lexer.specs.Modes.{Mode, html, code, named, quoted, offset, property, ModeStep, stay, enter, leave, is_byte, mode_step_of, code_mode_step, quoted_mode_step, begins_property, IsLongest}
use Rattle.php_lexer.specs.Lexed.{Stack, stepped_by}
use Rattle.php_relexing.specs.Tiles.{Tile, tile, joined}
use Rattle.php_relexing.specs.Spelled.{Steps}
use Rattle.php_relexing.proofs.Picked.{longest_meets}
use Rattle.written_tokens.specs.tokens.Levels.{stack_of}
use Rattle.written_tokens.specs.tokens.Names.{is_rooted, are_one, in_front, whole_names}
use Rattle.written_tokens.specs.tokens.Whole.{begins_other, begins_rooted}
use Rattle.written_tokens.proofs.tiles.Stepping.{longest_in}
use Rattle.written_tokens.proofs.names.NamedModes.{mode_ok}
use Rattle.written_tokens.proofs.names.NameTiles.{wordy_first}

-- ---- simple offsets and properties lie on quoted texts

abbrev pub is_simple : Mode → Bool
is_simple offset = true
is_simple property = true
is_simple _ = false

abbrev pub quoted_first : List Mode → Bool
quoted_first [] = false
quoted_first (quoted mark label fresh ∷ ms) = true
quoted_first (_ ∷ ms) = false

abbrev pub modes_sound : List Mode → Bool
modes_sound [] = true
modes_sound (m ∷ ms) = (not (is_simple m) || quoted_first ms) && modes_sound ms

abbrev pub sound : Stack → Bool
sound k = modes_sound (k.top ∷ k.below)

-- what a turn puts above the modes below is sound
abbrev mode_step_sound : ModeStep → List Mode → Bool
mode_step_sound (stay n) ms = not (is_simple n) || quoted_first ms
mode_step_sound (enter above under) ms = (not (is_simple above) || quoted_first (under ∷ [])) && not (is_simple under)
mode_step_sound leave ms = true

chosen : (t : Bool) (x y : ModeStep) (ms : List Mode) → mode_step_sound x ms ≡ true → mode_step_sound y ms ≡ true → mode_step_sound (cond t x y) ms ≡ true
chosen true x y ms p q = p
chosen false x y ms p q = q

code_sound : (kind : Kind) (text : List ℕ) (ms : List Mode) → mode_step_sound (code_mode_step kind text) ms ≡ true
code_sound Op text ms = chosen (is_byte 123 text) (enter code code) (cond (is_byte 125 text) leave (stay code)) ms refl (chosen (is_byte 125 text) leave (stay code) ms refl refl)
code_sound Close text ms = refl
code_sound Quote text ms = refl
code_sound Backtick text ms = refl
code_sound HeredocStart text ms = refl
code_sound _ text ms = refl

quoted_sound : (mark : Mark) (label : List ℕ) (kind : Kind) (text rest : List ℕ) (ms : List Mode) → mode_step_sound (quoted_mode_step V74 mark label kind text rest) ms ≡ true
quoted_sound mark label Variable text rest ms =
    chosen (begins_by 91 rest) (enter offset (quoted mark label false))
    (cond (begins_property V74 rest) (enter property (quoted mark label false)) (stay (quoted mark label false)))
    ms refl
    (chosen (begins_property V74 rest) (enter property (quoted mark label false)) (stay (quoted mark label false)) ms refl refl)
quoted_sound mark label QuotedEnd text rest ms = refl
quoted_sound mark label CurlyOpen text rest ms = refl
quoted_sound mark label DollarBrace text rest ms = refl
quoted_sound mark label _ text rest ms = refl

mode_step_is_sound : (m : Mode) (kind : Kind) (text rest : List ℕ) (ms : List Mode) → (not (is_simple m) || quoted_first ms) ≡ true → mode_step_sound (mode_step_of V74 m kind text rest) ms ≡ true
mode_step_is_sound html InlineHtml text rest ms h = refl
mode_step_is_sound html _ text rest ms h = refl
mode_step_is_sound code kind text rest ms h = code_sound kind text ms
mode_step_is_sound named kind text rest ms h = code_sound kind text ms
mode_step_is_sound (quoted mark label fresh) kind text rest ms h = quoted_sound mark label kind text rest ms
mode_step_is_sound offset Op text rest ms h = chosen (is_byte 93 text) leave (stay offset) ms refl h
mode_step_is_sound offset _ text rest ms h = h
mode_step_is_sound property Label text rest ms h = refl
mode_step_is_sound property _ text rest ms h = h

first_quoted : (m : Mode) (ms : List Mode) → quoted_first (m ∷ []) ≡ true → quoted_first (m ∷ ms) ≡ true
first_quoted (quoted mark label fresh) ms h = refl
first_quoted html ms h = absurd cc
first_quoted code ms h = absurd cc
first_quoted named ms h = absurd cc
first_quoted offset ms h = absurd cc
first_quoted property ms h = absurd cc

entered : (x : Bool) (m : Mode) (ms : List Mode) → (x || quoted_first (m ∷ [])) ≡ true → (x || quoted_first (m ∷ ms)) ≡ true
entered true m ms h = refl
entered false m ms h = first_quoted m ms h

stepped_sound : (t : ModeStep) (m : Mode) (below : List Mode) (depth : ℕ) → mode_step_sound t below ≡ true → modes_sound below ≡ true → sound (stepped_by t (stack_of m below depth)) ≡ true
stepped_sound (stay n) m below depth p q = rw (p, q) refl
stepped_sound (enter above under) m below depth p q =
    let (one, two) = and_parts (not (is_simple above) || quoted_first (under ∷ [])) (not (is_simple under)) p in
    and_from (not (is_simple above) || quoted_first (under ∷ below)) ((not (is_simple under) || quoted_first below) && modes_sound below)
    (entered (not (is_simple above)) under below one)
    (and_from (not (is_simple under) || quoted_first below) (modes_sound below) (or_left (not (is_simple under)) (quoted_first below) two) q)
stepped_sound leave m [] depth p q = refl
stepped_sound leave m (n ∷ below) depth p q = q

pub behind_sound : (m : Mode) (below : List Mode) (depth : ℕ) (kind : Kind) (text rest : List ℕ)
    → sound (stack_of m below depth) ≡ true
    → sound (stepped_by (mode_step_of V74 m kind text rest) (stack_of m below depth)) ≡ true
behind_sound m below depth kind text rest h =
    let (top, others) = and_parts (not (is_simple m) || quoted_first below) (modes_sound below) h in
    stepped_sound (mode_step_of V74 m kind text rest) m below depth (mode_step_is_sound m kind text rest below top) others

-- ---- `\` is an operator of code

abbrev is_op : Kind → Bool
is_op Op = true
is_op _ = false

pub record RootOp (m : Mode) (a : List ℕ) : Type 0 where
  pub mode : m ≡ code
  pub text : a ≡ []

in_code : (a r : List ℕ) → IsLongest V74 code (92 ∷ a ++ r) Op (suc (length a)) → a ≡ []
in_code [] r l = refl
in_code (c ∷ a) r l = absurd (let clash = longest_meets is_op V74 code (92 ∷ c ∷ a) r Op refl l in cc)

pub root_op : (m : Mode) (a r : List ℕ) → mode_ok m ≡ true → IsLongest V74 m (92 ∷ a ++ r) Op (suc (length a)) → RootOp m a
root_op html a r ok l = absurd (let clash = longest_meets is_op V74 html (92 ∷ a) r Op refl l in cc)
root_op code a r ok l = record { mode = refl; text = in_code a r l }
root_op named a r ok l = absurd cc
root_op (quoted Double label fresh) a r ok l = absurd (let clash = longest_meets is_op V74 (quoted Double label fresh) (92 ∷ a) r Op refl l in cc)
root_op (quoted Back label fresh) a r ok l = absurd (let clash = longest_meets is_op V74 (quoted Back label fresh) (92 ∷ a) r Op refl l in cc)
root_op (quoted Here label true) a r ok l = absurd (let clash = longest_meets is_op V74 (quoted Here label true) (92 ∷ a) r Op refl l in cc)
root_op (quoted Here label false) a r ok l = absurd (let clash = longest_meets is_op V74 (quoted Here label false) (92 ∷ a) r Op refl l in cc)
root_op offset a r ok l = absurd (let clash = longest_meets is_op V74 offset (92 ∷ a) r Op refl l in cc)
root_op property a r ok l = absurd (let clash = longest_meets is_op V74 property (92 ∷ a) r Op refl l in cc)

-- ---- a rooted name comes next

abbrev is_name_kind : Kind → Bool
is_name_kind Name = true
is_name_kind _ = false

name_none : (m : Mode) (b : ℕ) (a r : List ℕ) → IsLongest V74 m (b ∷ a ++ r) Name (suc (length a)) → ⊥
name_none html b a r l = let clash = longest_meets is_name_kind V74 html (b ∷ a) r Name refl l in cc
name_none code b a r l = let clash = longest_meets is_name_kind V74 code (b ∷ a) r Name refl l in cc
name_none named b a r l = let clash = longest_meets is_name_kind V74 named (b ∷ a) r Name refl l in cc
name_none (quoted Double label fresh) b a r l = let clash = longest_meets is_name_kind V74 (quoted Double label fresh) (b ∷ a) r Name refl l in cc
name_none (quoted Back label fresh) b a r l = let clash = longest_meets is_name_kind V74 (quoted Back label fresh) (b ∷ a) r Name refl l in cc
name_none (quoted Here label true) b a r l = let clash = longest_meets is_name_kind V74 (quoted Here label true) (b ∷ a) r Name refl l in cc
name_none (quoted Here label false) b a r l = let clash = longest_meets is_name_kind V74 (quoted Here label false) (b ∷ a) r Name refl l in cc
name_none offset b a r l = let clash = longest_meets is_name_kind V74 offset (b ∷ a) r Name refl l in cc
name_none property b a r l = let clash = longest_meets is_name_kind V74 property (b ∷ a) r Name refl l in cc

-- the kinds that may begin a name of 8.3
data MayRoot (k : Kind) (c : ℕ) : Type 0 where
  op : k ≡ Op → nat_eq c 92 ≡ true → MayRoot k c
  word : k ≡ Word → nat_eq c 92 ≡ true → MayRoot k c
  name : k ≡ Name → MayRoot k c

rooted_kind : (k : Kind) (c : ℕ) → is_rooted k c ≡ true → MayRoot k c
rooted_kind Name c h = name refl
rooted_kind _ c h = absurd cc

one_kind : (k : Kind) (c : ℕ) (j : Kind) (d : ℕ) → are_one k c j d ≡ true → nat_eq c 92 ≡ true → MayRoot k c
one_kind Op c j d h r = op refl r
one_kind Word c j d h r = word refl r
one_kind _ c j d h r = absurd cc

front_by : (k : Kind) (c : ℕ) (e : List ℕ) (j : Kind) (d : ℕ) (x : List ℕ) (us : List Tile) (t : Bool)
    → are_one k c j d ≡ t → begins_rooted (cond t (tile Name c (e ++ d ∷ x) ∷ us) (tile k c e ∷ tile j d x ∷ us)) ≡
    true → MayRoot k c
front_by k c e j d x us true p h = one_kind k c j d p h
front_by k c e j d x us false p h = rooted_kind k c h

front_root : (k : Kind) (c : ℕ) (e : List ℕ) (ws : List Tile) → begins_rooted (in_front k c e ws) ≡ true → MayRoot k c
front_root k c e [] h = rooted_kind k c h
front_root k c e (tile j d x ∷ us) h = front_by k c e j d x us (are_one k c j d) refl h

record Rooted (m : Mode) (k : Kind) (c : ℕ) (e : List ℕ) : Type 0 where
  kind : k ≡ Op
  byte : c ≡ 92
  code_mode : m ≡ code
  text : e ≡ []

op_rooted : (m : Mode) (k : Kind) (c : ℕ) (e r : List ℕ) → mode_ok m ≡ true → IsLongest V74 m (c ∷ e ++ r) k (suc (length e)) → k ≡ Op → c ≡ 92 → Rooted m k c e
op_rooted m k c e r ok l p q =
    let there : IsLongest V74 m (92 ∷ e ++ r) Op (suc (length e)) =
    subst (λ (x : ℕ). IsLongest V74 m (x ∷ e ++ r) Op (suc (length e))) q
    (subst (λ (j : Kind). IsLongest V74 m (c ∷ e ++ r) j (suc (length e))) p l) in
    let is = root_op m e r ok there in
    record { kind = p; byte = q; code_mode = is.mode; text = is.text }

rooted_by : (m : Mode) (k : Kind) (c : ℕ) (e r : List ℕ) → mode_ok m ≡ true → IsLongest V74 m (c ∷ e ++ r) k (suc (length e)) → MayRoot k c → Rooted m k c e
rooted_by m k c e r ok l (op p q) = op_rooted m k c e r ok l p (eqb-true c 92 q)
rooted_by m k c e r ok l (word p q) =
    absurd (let there : IsLongest V74 m (c ∷ e ++ r) Word (suc (length e)) = subst (λ (j : Kind). IsLongest V74 m (c ∷ e ++ r) j (suc (length e))) p l in
    let clash : true ≡ false = sym q ∙ wordy_first m Word c e r ok refl there in cc)
rooted_by m k c e r ok l (name p) = absurd (name_none m c e r (subst (λ (j : Kind). IsLongest V74 m (c ∷ e ++ r) j (suc (length e))) p l))

-- the first tile of a row before which a name would be rooted
pub data RootFirst (m : Mode) : List Tile → Type 0 where
  first : {ts : List Tile} → m ≡ code → RootFirst m (tile Op 92 [] ∷ ts)

pub root_first : (ts : List Tile) (m : Mode) (below : List Mode) (depth : ℕ) → mode_ok m ≡ true
    → Steps V74 (stack_of m below depth) ts → begins_rooted (whole_names ts) ≡ true → RootFirst m ts
root_first [] m below depth ok s h = absurd cc
root_first (tile k c e ∷ ts) m below depth ok s h =
    let is = rooted_by m k c e (joined ts) ok (longest_in (stack_of m below depth) k c e ts s) (front_root k c e (whole_names ts) h) in
    subst (λ (t : Tile). RootFirst m (t ∷ ts))
    (sym (ap (λ (j : Kind). tile j c e) is.kind ∙ ap (λ (x : ℕ). tile Op x e) is.byte
    ∙ ap (λ (x : List ℕ). tile Op 92 x) is.text)) (first is.code_mode)

-- ---- a keyword or a label comes next

abbrev pub is_other : Kind → List ℕ → Bool
is_other Word text = is_keyword text
is_other Label text = true
is_other _ text = false

other_kind : (k : Kind) (c : ℕ) (e : List ℕ) (us : List Tile) → begins_other (tile k c e ∷ us) ≡ true → is_other k (c ∷ e) ≡ true
other_kind Word c e us h = h
other_kind Label c e us h = refl
other_kind _ c e us h = absurd cc

other_by : (k : Kind) (c : ℕ) (e : List ℕ) (j : Kind) (d : ℕ) (x : List ℕ) (us : List Tile) (t : Bool)
    → begins_other (cond t (tile Name c (e ++ d ∷ x) ∷ us) (tile k c e ∷ tile j d x ∷ us)) ≡ true
    → is_other k (c ∷ e) ≡ true
other_by k c e j d x us true h = absurd cc
other_by k c e j d x us false h = other_kind k c e (tile j d x ∷ us) h

pub front_other : (k : Kind) (c : ℕ) (e : List ℕ) (ws : List Tile) → begins_other (in_front k c e ws) ≡ true → is_other k (c ∷ e) ≡ true
front_other k c e [] h = other_kind k c e [] h
front_other k c e (tile j d x ∷ us) h = other_by k c e j d x us (are_one k c j d) h
