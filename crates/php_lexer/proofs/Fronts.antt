-- How the tokens of a file are put together from its front on.
use Rattle.std.proofs.Common.{
  ◌≡◌,
  ℕ,
  zero,
  suc,
  ◌+◌,
  ◌-◌,
  ◌<◌,
  ◌≤◌,
  Bool,
  true,
  false,
  cond,
  ◌||◌,
  codes,
  List,
  [],
  ◌∷◌,
  ◌++◌,
  length,
  take,
  drop,
  map,
  reverse,
  slice_range,
  Option,
  Some,
  None,
  Err,
  refl,
  sym,
  ap,
  ◌∙◌,
  subst,
  append_assoc,
  arith,
  length-drop,
}
use Rattle.std.proofs.lemmas.List.{reverse-append, map-append, length-take-le}
use Rattle.php_tree.specs.declared.version.Version.{Version}
use Rattle.php_tree.specs.declared.token.Token.{Token}
use Rattle.php_tree.specs.declared.token.TokenKind.{TokenKind}
use Rattle.php_tree.specs.declared.token.TokenKind.TheVariants.{End}
use Rattle.php_tree.specs.Places.{ArePlaced, behind}
use Rattle.php_spellings.specs.declared.table.Kind.{Kind}
use Rattle.php_spellings.specs.declared.table.Mark.{Mark}
use Rattle.php_spellings.specs.declared.table.Mark.TheVariants.{Double, Back, Here}
use Rattle.php_lexer.specs.declared.fault.LexFault.{LexFault}
use Rattle.php_lexer.specs.declared.fault.LexFault.TheVariants.{OpenText, OpenComment, OpenHeredoc, BadByte, TooLong, Memory}
use Rattle.php_lexer.specs.declared.modes.Mode.{Mode as CodeMode}
use Rattle.php_lexer.specs.declared.modes.Mode.TheVariants.{Html}
use Rattle.php_lexer.specs.declared.modes.ModeStep.{ModeStep as CodeModeStep}
use Rattle.php_spellings.specs.Bytes.{starts_word}
use Rattle.php_spellings.specs.Words.{token_of}
use Rattle.php_lexer.specs.Modes.{Mode, html, code, named, quoted, offset, property, ModeStep, stay, enter, leave, mode_step_of, IsLongest, HasNone}
use Rattle.php_lexer.specs.Lexed.{
  Lexeme,
  Stack,
  Lexed,
  ends,
  trivia,
  token,
  Stops,
  here,
  unended,
  later,
  stepped_by,
  mode_step_at,
  after,
  Effect,
  opens,
  closes,
  keeps,
  effect,
  deeper,
  faults_by,
  opened_by,
  less,
  less_one,
  fault_at,
  code_fault,
  open_fault,
  start,
  lexeme,
  TokensOf,
}
use Rattle.php_lexer.specs.Views.{mode_of, mode_step_seen, below_of, stack_of, top_after, below_after, IsAfter, IsNoted, first_fault, token_cut, lexemes, Front, Meets}
use Rattle.php_lexer.proofs.Labels.{drop_drop}
use Rattle.php_spellings.proofs.StartLemmas.{drop_end}

abbrev Some_fault : LexFault → Option LexFault
Some_fault f = Some f

abbrev stack_parts : Mode → List Mode → ℕ → Stack
stack_parts top below n = record { top = top; below = below; depth = n }

take_add : (i n : ℕ) (bs : List ℕ) → take (i + n) bs ≡ take i bs ++ take n (drop i bs)
take_add zero n bs = ap (λ (k : ℕ). take k bs) (omega arith)
take_add (suc i) zero [] = let e : suc i + zero ≡ suc (i + zero) = omega arith in rw e refl
take_add (suc i) (suc n) [] = let e : suc i + suc n ≡ suc (i + suc n) = omega arith in rw e refl
take_add (suc i) n (b ∷ bs) = let e : suc i + n ≡ suc (i + n) = omega arith in rw e (ap (λ (u : List ℕ). b ∷ u) (take_add i n bs))

pub below_more : (bytes : List ℕ) (ms : List CodeMode) (m : CodeMode) → below_of bytes (ms ++ m ∷ []) ≡ mode_of bytes m ∷ below_of bytes ms
below_more bytes ms m = ap reverse (map-append (mode_of bytes) ms (m ∷ [])) ∙ reverse-append (map (mode_of bytes) ms) (mode_of bytes m ∷ [])

pub faults_more : (fs : List LexFault) (f : LexFault) → reverse (fs ++ f ∷ []) ≡ f ∷ reverse fs
faults_more fs f = reverse-append fs (f ∷ [])

length_less : (fs : List LexFault) → length (less fs) ≡ less_one (length fs)
length_less [] = refl
length_less (f ∷ fs) = refl

pub depth_is : (e : Effect) (at : ℕ) (fs : List LexFault) → length (faults_by e at fs) ≡ deeper e (length fs)
depth_is (opens mark) at fs = refl
depth_is closes at fs = length_less fs
depth_is keeps at fs = refl

-- a fault with a place
abbrev pub IsPlaced : LexFault → Type 0
IsPlaced (OpenText at) = Unit {0}
IsPlaced (OpenComment at) = Unit {0}
IsPlaced (OpenHeredoc at) = Unit {0}
IsPlaced (BadByte at) = Unit {0}
IsPlaced TooLong = ⊥
IsPlaced Memory = Unit {0}

code_by : (a b c : Bool) (at : ℕ) → IsPlaced (cond a (OpenText at) (cond b (OpenComment at) (cond c (OpenHeredoc at) (BadByte at))))
code_by true b c at = tt
code_by false true c at = tt
code_by false false true at = tt
code_by false false false at = tt

code_placed : (at : ℕ) (bytes : List ℕ) → IsPlaced (code_fault at bytes)
code_placed at bytes = code_by (starts_word (codes "'") bytes || starts_word (codes "b'") bytes)
    (starts_word (codes "/*") bytes) (starts_word (codes "<<<") bytes || starts_word (codes "b<<<") bytes) at

pub fault_placed : (m : Mode) (at : ℕ) (bytes : List ℕ) → IsPlaced (fault_at m at bytes)
fault_placed html at bytes = tt
fault_placed code at bytes = code_placed at bytes
fault_placed named at bytes = code_placed at bytes
fault_placed (quoted mark label fresh) at bytes = tt
fault_placed offset at bytes = tt
fault_placed property at bytes = tt

-- the stack behind a turn, by its parts
stack_by : (t : ModeStep) (top : Mode) (below : List Mode) (n : ℕ) (top' : Mode) (below' : List Mode) (n' : ℕ)
    → top' ≡ top_after t below → below' ≡ below_after t below → n' ≡ deeper (effect top t) n
    → stack_parts top' below' n' ≡ stepped_by t (stack_parts top below n)
stack_by t top below n top' below' n' p q r = rw (p, q, r) (by_mode_step t top)
  where
    by_mode_step : (t : ModeStep) (top : Mode) → stack_parts (top_after t below) (below_after t below) (deeper (effect top t) n) ≡ stepped_by t (stack_parts top below n)
    by_mode_step (stay m) html = refl
    by_mode_step (stay m) code = refl
    by_mode_step (stay m) named = refl
    by_mode_step (stay m) (quoted mark label fresh) = refl
    by_mode_step (stay m) offset = refl
    by_mode_step (stay m) property = refl
    by_mode_step (enter above under) top = refl
    by_mode_step leave top = refl

range_is : (bytes : List ℕ) (lead at n : ℕ) → lead ≤ at → slice_range bytes lead (at + n) ≡ slice_range bytes lead at ++ take n (drop at bytes)
range_is bytes lead at n le =
    let whole : at + n - lead ≡ (at - lead) + n = omega arith in
    let place : lead + (at - lead) ≡ at = omega arith in
    rw whole (take_add (at - lead) n (drop lead bytes)) ∙ ap
    (λ (u : List ℕ). take (at - lead) (drop lead bytes) ++ take n u)
    (drop_drop lead (at - lead) bytes ∙ ap (λ (i : ℕ). drop i bytes) place)

empty_range : (bytes : List ℕ) (at : ℕ) → slice_range bytes at at ≡ []
empty_range bytes at = let e : at - at ≡ 0 = omega arith in rw e refl

range_from : (bytes : List ℕ) (at n : ℕ) → slice_range bytes at (at + n) ≡ take n (drop at bytes)
range_from bytes at n = let e : at + n - at ≡ n = omega arith in rw e refl

abbrev lexeme_of : TokenKind → List ℕ → List ℕ → Lexeme
lexeme_of kind lead text = record { kind = kind; lead = lead; text = text }

no_faults : (fs : List LexFault) → None ≡ first_fault fs → length fs ≡ 0
no_faults [] e = refl
no_faults (g ∷ gs) e = absurd cc

pub front_first : (v : Version) (bytes : List ℕ) → Front v bytes [] Html [] [] 0 0
front_first v bytes = record { order = omega arith; within = omega arith; placed = λ ts h. h; tokens = λ ts h. h; stops = λ fault h. h }

-- ---- faults have places

abbrev AllPlaced : List LexFault → Type 0
AllPlaced [] = Unit {0}
AllPlaced (f ∷ fs) = IsPlaced f × AllPlaced fs

open_placed : (mark : Mark) (at : ℕ) → IsPlaced (open_fault mark at)
open_placed Double at = tt
open_placed Back at = tt
open_placed Here at = tt

effect_placed : (e : Effect) (at : ℕ) (fs : List LexFault) → AllPlaced fs → AllPlaced (faults_by e at fs)
effect_placed (opens mark) at fs p = (open_placed mark at, p)
effect_placed closes at [] p = p
effect_placed closes at (f ∷ fs) p = p.1
effect_placed keeps at fs p = p

stops_placed : {v : Version} {stack : Stack} {fs : List LexFault} {at : ℕ} {bytes : List ℕ} {fault : LexFault} → Stops v stack fs at bytes fault → AllPlaced fs → IsPlaced fault
stops_placed (here {stack = stack} {at = at} {bytes = bytes} some none) p = fault_placed stack.top at bytes
stops_placed unended p = p.0
stops_placed (later {version = v} {stack} {fs} {at} {bytes} kind n h s) p = stops_placed s (effect_placed (effect stack.top (mode_step_at v stack kind n bytes)) at fs p)

meets_placed : (v : Version) (bytes : List ℕ) (fault : LexFault) → IsPlaced fault → Stops v start [] 0 bytes fault → Meets v bytes (Err fault)
meets_placed v bytes (OpenText at) p s = s
meets_placed v bytes (OpenComment at) p s = s
meets_placed v bytes (OpenHeredoc at) p s = s
meets_placed v bytes (BadByte at) p s = s
meets_placed v bytes Memory p s = tt
meets_placed v bytes TooLong p s = p

pub meets_stop : (v : Version) (bytes : List ℕ) (fault : LexFault) → Stops v start [] 0 bytes fault → Meets v bytes (Err fault)
meets_stop v bytes fault s = meets_placed v bytes fault (stops_placed s tt) s

-- ---- places

range_length : (bytes : List ℕ) (a b : ℕ) → a ≤ b → b ≤ length bytes → length (slice_range bytes a b) ≡ b - a
range_length bytes a b le within =
    let room = length-drop a bytes in
    length-take-le (b - a) (drop a bytes) (omega arith)

lexemes_append : (ts us : List Token) → lexemes (ts ++ us) ≡ lexemes ts ++ lexemes us
lexemes_append ts us = map-append lexeme ts us

-- a token at its place, and tokens behind it
cut_placed : (bytes : List ℕ) (kind : TokenKind) (lead at end : ℕ) (ts : List Token) → lead ≤ at → at ≤ end
    → end ≤ length bytes → ArePlaced end ts → ArePlaced lead (token_cut bytes kind lead at end ∷ ts)
cut_placed bytes kind lead at end ts p q r h =
    let first = range_length bytes lead at p (omega arith) in
    let second = range_length bytes at end q r in
    let there : behind lead (token_cut bytes kind lead at end) ≡ end = omega arith in
    (omega arith, subst (λ (n : ℕ). ArePlaced n ts) (sym there) h)

module _ (v : Version) (bytes : List ℕ) (front : List Token) (m : CodeMode) (ms : List CodeMode) (fs : List LexFault) (lead at : ℕ) (f : Front v bytes front m ms fs lead at) where
  pub front_stops : at < length bytes → HasNone v (mode_of bytes m) (drop at bytes) → Stops v start [] 0 bytes (fault_at (mode_of bytes m) at (drop at bytes))
  front_stops lt h = f.stops (fault_at (mode_of bytes m) at (drop at bytes)) (here (omega (arith, length-drop at bytes)) h)

  pub front_open : (fault : LexFault) → length bytes ≤ at → Some_fault fault ≡ first_fault (reverse fs) → Stops v start [] 0 bytes fault
  front_open fault le e = f.stops fault (by_list (reverse fs) e (drop_end bytes at le))
    where
      by_list : {stack : Stack} {rest : List ℕ} (open_list : List LexFault) → Some_fault fault ≡ first_fault open_list → rest ≡ [] → Stops v stack open_list at rest fault
      by_list [] e p = absurd cc
      by_list (g ∷ gs) e p = let same : fault ≡ g = cc in rw (p, same) unended

  pub front_ends : (new : List Token) → length bytes ≤ at → None ≡ first_fault (reverse fs) → new ≡ front ++ token_cut bytes End lead at at ∷ [] → TokensOf v bytes new
  front_ends new le e n = record { lexed = lexed_all; placed = placed_all }
    where
      last : lexeme (token_cut bytes End lead at at) ≡ lexeme_of End (slice_range bytes lead at) []
      last = ap (λ (u : List ℕ). lexeme_of End (slice_range bytes lead at) u) (empty_range bytes at)

      views : lexemes new ≡ lexemes front ++ lexeme_of End (slice_range bytes lead at) [] ∷ []
      views = ap lexemes n ∙ lexemes_append front (token_cut bytes End lead at at ∷ []) ∙ ap (λ (x : Lexeme). lexemes front ++ x ∷ []) last

      lexed_all : Lexed v start [] bytes (lexemes new)
      lexed_all = subst (λ (us : List Lexeme). Lexed v start [] bytes us) (sym views)
          (f.tokens (lexeme_of End (slice_range bytes lead at) [] ∷ [])
          (ends (drop_end bytes at le) (no_faults (reverse fs) e)))

      placed_all : ArePlaced 0 new
      placed_all = let o = f.order in let w = f.within in subst (λ (us : List Token). ArePlaced 0 us) (sym n)
          (f.placed (token_cut bytes End lead at at ∷ []) (cut_placed bytes End lead at at [] o (omega arith) w tt))

  module _ (kind : Kind) (n : ℕ) (t : CodeModeStep) (m' : CodeMode) (ms' : List CodeMode) (fs' : List LexFault)
      (h : IsLongest v (mode_of bytes m) (drop at bytes) kind n)
      (mode_steps : mode_step_seen bytes t ≡ mode_step_of v (mode_of bytes m) kind (take n (drop at bytes)) (drop n (drop at bytes)))
      (follows : IsAfter t ms m' ms') (notes : IsNoted m t at fs fs') where
    next_stack : stack_of bytes m' ms' fs' ≡ after v (stack_of bytes m ms fs) kind n (drop at bytes)
    next_stack =
        let p = follows bytes in
        stack_by (mode_step_seen bytes t) (mode_of bytes m) (below_of bytes ms) (length (reverse fs)) (mode_of bytes m')
        (below_of bytes ms') (length (reverse fs')) p.0 p.1
        (ap length (notes bytes) ∙ depth_is (effect (mode_of bytes m) (mode_step_seen bytes t)) at (reverse fs))
        ∙ ap (λ (u : ModeStep). stepped_by u (stack_of bytes m ms fs)) mode_steps

    next_stops : (fault : LexFault) → Stops v (stack_of bytes m' ms' fs') (reverse fs') (at + n) (drop (at + n) bytes) fault → Stops v start [] 0 bytes fault
    next_stops fault s = f.stops fault (later kind n h (rw (
      sym next_stack,
      sym (notes bytes ∙ ap (λ (u : ModeStep). opened_by (mode_of bytes m) u at (reverse fs)) mode_steps),
      drop_drop at n bytes,
    ) s))

    pub front_trivia : token_of kind (take n (drop at bytes)) ≡ None → Front v bytes front m' ms' fs' lead (at + n)
    front_trivia blank = let o = f.order in let w = f.within in let b = h.within in record {
      order = omega arith;
      within = omega (arith, length-drop at bytes);
      placed = f.placed;
      tokens = λ ts l. f.tokens ts (trivia kind n h blank (rw (sym next_stack, sym (range_is bytes lead at n o), drop_drop at n bytes) l));
      stops = next_stops;
    }

    module _ (k : TokenKind) (solid : token_of kind (take n (drop at bytes)) ≡ Some k) (new : List Token) (e : new ≡ front ++ token_cut bytes k lead at (at + n) ∷ []) where
      new_lexeme : lexeme (token_cut bytes k lead at (at + n)) ≡ lexeme_of k (slice_range bytes lead at) (take n (drop at bytes))
      new_lexeme = ap (λ (u : List ℕ). lexeme_of k (slice_range bytes lead at) u) (range_from bytes at n)

      views : lexemes new ≡ lexemes front ++ lexeme_of k (slice_range bytes lead at) (take n (drop at bytes)) ∷ []
      views = ap lexemes e ∙ lexemes_append front (token_cut bytes k lead at (at + n) ∷ []) ∙ ap (λ (x : Lexeme). lexemes front ++ x ∷ []) new_lexeme

      next_tokens : (ts : List Lexeme) → Lexed v (stack_of bytes m' ms' fs') (slice_range bytes (at + n) (at + n))
          (drop (at + n) bytes) ts → Lexed v start [] bytes (lexemes new ++ ts)
      next_tokens ts l =
          let rest : Lexed v (after v (stack_of bytes m ms fs) kind n (drop at bytes)) [] (drop n (drop at bytes)) ts
          = rw (sym next_stack, sym (empty_range bytes (at + n)), drop_drop at n bytes) l in
          subst (λ (us : List Lexeme). Lexed v start [] bytes us)
          (sym (ap (λ (us : List Lexeme). us ++ ts) views
          ∙ append_assoc (lexemes front) (lexeme_of k (slice_range bytes lead at) (take n (drop at bytes)) ∷ [])
          ts)) (f.tokens (lexeme_of k (slice_range bytes lead at) (take n (drop at bytes)) ∷ ts)
          (token kind n k h solid rest))

      next_placed : (ts : List Token) → ArePlaced (at + n) ts → ArePlaced 0 (new ++ ts)
      next_placed ts p =
          let o = f.order in let w = f.within in let b = h.within in
          subst (λ (us : List Token). ArePlaced 0 us)
          (sym (ap (λ (us : List Token). us ++ ts) e ∙ append_assoc front
          (token_cut bytes k lead at (at + n) ∷ []) ts))
          (f.placed (token_cut bytes k lead at (at + n) ∷ ts)
          (cut_placed bytes k lead at (at + n) ts o (omega arith) (omega (arith, length-drop at bytes)) p))

      pub front_token : Front v bytes new m' ms' fs' (at + n) (at + n)
      front_token = let o = f.order in let w = f.within in let b = h.within in record {
        order = omega arith;
        within = omega (arith, length-drop at bytes);
        placed = next_placed;
        tokens = next_tokens;
        stops = next_stops;
      }
