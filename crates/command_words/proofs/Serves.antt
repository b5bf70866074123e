-- The words of `serve`: what a parse that succeeds or fails says of them.
use Rattle.std.proofs.Common.{◌≡◌, ◌≤◌, ◌<◌, ◌^◌, ◌∙◌, ◌++◌, ◌||◌, ℕ, zero, suc, true, false, List, [], ◌∷◌, length, refl, ap, ap₂, sym, subst, codes, inl, inr, arith, slice_index}
use Rattle.std.specs.Prelude.{◌⊎◌, Option, None, Some, option_map, Result, Ok, Err}
use Rattle.std.specs.List.{All, slice_index_or}
use Rattle.std.specs.Str.{bytes_eq}
use Rattle.std.specs.Str.Parse.{ParsesUnsigned, digits_value, without_leading_plus}
use Rattle.std.proofs.lemmas.List.Elements.{All-nil}
use Rattle.clap.specs.Built.{AddsArg, IsParsedFrom, IsPlain, IsPlainArg, SameRules}
use Rattle.clap.specs.Facts.{args_of, groups_of, least_values}
use Rattle.clap.specs.Faults.{fault_of, is_simple_and_free}
use Rattle.clap.specs.Kinds.{Kinds, IsAmong, HasKind}
use Rattle.clap.specs.Matches.{ReadsOne, found_of, one_text}
use Rattle.clap.specs.Simple.{App, HasMatchesOf, is_simple, matches_of}
use Rattle.clap.specs.Values.{IsUnsignedIn, kind_of}
use Rattle.clap.specs.Walk.{Row, Rule, Text, one_of, rows_of}
use Rattle.clap.proofs.CallerLemmas.{added_plain}
use Rattle.clap.proofs.CallerReads.{required_reads}
use Rattle.clap.proofs.OnLiterals.{clap_on_literals}
use Rattle.clap.proofs.WalkLemmas.{one_text-rows}
use Rattle.clap.specs.declared.builder.action.ArgAction.TheVariants.{Set}
use Rattle.clap.specs.declared.builder.arg.Arg.{Arg}
use Rattle.clap.specs.declared.builder.command.Command.{Command}
use Rattle.clap.specs.declared.builder.command.Command.TheViews.{out-Command}
use Rattle.clap.specs.declared.builder.value_parser.ValueParser.TheVariants.{Unsigned}
use Rattle.clap.specs.declared.error.Error.{Error}
use Rattle.clap.specs.declared.error.ErrorKind.TheVariants as kind
use Rattle.clap.specs.declared.parser.matches.ArgMatches.{ArgMatches}
use Rattle.command_words.specs.declared.serve_words.Serving.{Serving}
use Rattle.command_words.specs.ServeWords.{IsNumberOption, number_in, serve_app, serving_by, serving_in}
use Rattle.command_words.specs.Words.{unless_faulty}
use Rattle.command_words.proofs.Decides.{some_fault}

-- ---- the command

-- it is one of which `clap` says exactly what it takes
is_exact : is_simple_and_free serve_app ≡ true
unfolding clap_on_literals
is_exact = refl

is_plain : is_simple serve_app ≡ true
unfolding clap_on_literals
is_plain = refl

-- ---- the two options

-- what an option of a number is, field by field
pub record IsNumber (name : Text) (most : ℕ) (a : Arg) : Type 0 where
  pub id : a.id.now ≡ name
  pub required : a.required ≡ true
  pub action : a.action ≡ Some Set
  pub parser : a.value_parser ≡ Some (Unsigned 1 most)

number : (name : Text) (most : ℕ) (a : Arg) → IsNumberOption name most a → IsNumber name most a
number name most a is = record {
  id = ap (λ (r : Rule). r.id) is.rule;
  required = ap (λ (r : Rule). r.required) is.rule;
  action = ap (λ (r : Rule). r.action) is.rule;
  parser = ap (λ (r : Rule). r.parser) is.rule;
}

-- two arguments of two names stand in one place each
unique : (a b : Arg) → a.id.now ≡ codes "port" → b.id.now ≡ codes "connections" → (k : ℕ) (d : Arg) → k < 2
    → (j : ℕ) (e : Arg) → j < 2
    → bytes_eq (slice_index_or (a ∷ b ∷ []) j e).id.now (slice_index_or (a ∷ b ∷ []) k d).id.now ≡ true → j ≡ k
unique a b p c zero d lt zero e low same = refl
unique a b p c zero d lt (suc zero) e low same =
    let bad : false ≡ true = rw (p, c) at same in cc
unique a b p c (suc zero) d lt zero e low same =
    let bad : false ≡ true = rw (p, c) at same in cc
unique a b p c (suc zero) d lt (suc zero) e low same = refl
unique a b p c (suc (suc k)) d lt j e low same = absurd (omega arith)
unique a b p c k d lt (suc (suc j)) e low same = absurd (omega arith)

-- such an option, of a command with the two, has a number of its range as its one text
one_number : (cmd : Command) (m : ArgMatches) (x a b : Arg) (name : Text) (most k : ℕ) → IsParsedFrom cmd m
    → args_of cmd ≡ a ∷ b ∷ [] → a.id.now ≡ codes "port" → b.id.now ≡ codes "connections" → IsPlain cmd
    → (out-Command cmd).has_globals ≡ false → (out-Command cmd).subcommand_negates_reqs ≡ false
    → k < 2 → slice_index_or (a ∷ b ∷ []) k x ≡ x → IsNumber name most x → x.val_delim ≡ None → 1 ≤ least_values x
    → (name ≡ [] → ⊥) → ((name ≡ codes "help") ⊎ (name ≡ codes "version") → ⊥)
    → (t : Text) × (one_text (found_of m) name ≡ Some t) × IsUnsignedIn 1 most t
one_number cmd m x a b name most k p list port connections plain globals negates lt at is delimiter least named own =
    let there : slice_index_or (args_of cmd) k x ≡ x = subst (λ l. slice_index_or l k x ≡ x) (sym list) at in
    let id : (slice_index_or (args_of cmd) k x).id.now ≡ name = ap (λ (y : Arg). y.id.now) there ∙ is.id in
    let got = required_reads cmd m p plain globals negates k x
    (subst (λ l. k < length l) (sym list) lt)
    (ap (λ (y : Arg). y.required) there ∙ is.required)
    (ap (λ (y : Arg). y.action) there ∙ is.action)
    (ap (λ (y : Arg). y.val_delim) there ∙ delimiter)
    (subst (λ (y : Arg). 1 ≤ least_values y) (sym there) least)
    (subst (λ l. (j : ℕ) (e : Arg) → j < length l
    → bytes_eq (slice_index_or l j e).id.now (slice_index_or l k x).id.now ≡ true → j ≡ k) (sym list)
    (unique a b port connections k x lt))
    (λ h. named (sym id ∙ h))
    (λ h. own (elim h [ inl e ↦ inl (sym id ∙ e) | inr e ↦ inr (sym id ∙ e) ]))
    (Unsigned 1 most)
    (ap (λ (y : Arg). y.value_parser) there ∙ is.parser) in
    (got.0, subst (λ (w : Text). one_text (found_of m) w ≡ Some got.0) id got.1, got.2)

-- names with other first bytes are apart
apart : (t u : Text) → (slice_index t 0 ≡ slice_index u 0 → ⊥) → t ≡ u → ⊥
apart t u first e = first (ap (λ (x : Text). slice_index x 0) e)

port_named : codes "port" ≡ [] → ⊥
port_named = apart (codes "port") [] (λ (h : 112 ≡ 0). absurd (omega arith))

port_own : (codes "port" ≡ codes "help") ⊎ (codes "port" ≡ codes "version") → ⊥
port_own (inl h) = apart (codes "port") (codes "help") (λ (e : 112 ≡ 104). absurd (omega arith)) h
port_own (inr h) = apart (codes "port") (codes "version") (λ (e : 112 ≡ 118). absurd (omega arith)) h

connections_named : codes "connections" ≡ [] → ⊥
connections_named = apart (codes "connections") [] (λ (h : 99 ≡ 0). absurd (omega arith))

connections_own : (codes "connections" ≡ codes "help") ⊎ (codes "connections" ≡ codes "version") → ⊥
connections_own (inl h) = apart (codes "connections") (codes "help") (λ (e : 99 ≡ 104). absurd (omega arith)) h
connections_own (inr h) = apart (codes "connections") (codes "version") (λ (e : 99 ≡ 118). absurd (omega arith)) h

-- both numbers
pub record AreNumbers (m : ArgMatches) : Type 0 where
  pub port : Text
  pub connections : Text
  pub port_is : one_text (found_of m) (codes "port") ≡ Some port
  pub connections_is : one_text (found_of m) (codes "connections") ≡ Some connections
  pub port_in : IsUnsignedIn 1 65535 port
  pub connections_in : IsUnsignedIn 1 1000000 connections

pub both_numbers : (start mid cmd : Command) (a b : Arg) (m : ArgMatches) → AddsArg start a mid → AddsArg mid b cmd
    → args_of start ≡ [] → groups_of start ≡ [] → (out-Command start).has_globals ≡ false
    → (out-Command start).subcommand_negates_reqs ≡ false
    → IsNumberOption (codes "port") 65535 a → IsNumberOption (codes "connections") 1000000 b → IsParsedFrom cmd m
    → AreNumbers m
both_numbers start mid cmd a b m first second args groups globals negates port connections p =
    let list : args_of cmd ≡ first.arg ∷ second.arg ∷ [] =
    second.args ∙ ap (λ l. l ++ second.arg ∷ []) (first.args ∙ ap (λ l. l ++ first.arg ∷ []) args) in
    let start-plain : IsPlain start = (subst (All IsPlainArg) (sym args) (All-nil IsPlainArg), groups) in
    let plain : IsPlain cmd =
    added_plain mid cmd b second (added_plain start mid a first start-plain port.plain) connections.plain in
    let mid-globals : (out-Command mid).has_globals ≡ false =
    first.globals ∙ ap₂ (λ x y. x || y) globals port.global in
    let cmd-globals : (out-Command cmd).has_globals ≡ false =
    second.globals ∙ ap₂ (λ x y. x || y) mid-globals connections.global in
    let cmd-negates = second.negates ∙ (first.negates ∙ negates) in
    let one = number (codes "port") 65535 a port in
    let two = number (codes "connections") 1000000 b connections in
    let one-there = added (codes "port") 65535 a first.arg first.rules one in
    let two-there = added (codes "connections") 1000000 b second.arg second.rules two in
    let p1 = one_number cmd m first.arg first.arg second.arg (codes "port") 65535 0 p list one-there.id two-there.id plain
    cmd-globals cmd-negates (omega arith) refl one-there (first.rules.val_delim ∙ port.delimiter)
    (first.rules.least one.action port.least) port_named port_own in
    let p2 = one_number cmd m second.arg first.arg second.arg (codes "connections") 1000000 1 p list one-there.id two-there.id
    plain cmd-globals cmd-negates (omega arith) refl two-there (second.rules.val_delim ∙ connections.delimiter)
    (second.rules.least two.action connections.least) connections_named connections_own in
    record {
      port = p1.0;
      connections = p2.0;
      port_is = p1.1;
      connections_is = p2.1;
      port_in = p1.2;
      connections_in = p2.2;
    }
  where
    added : (name : Text) (most : ℕ) (x y : Arg) → SameRules x y → IsNumber name most x → IsNumber name most y
    added name most x y same is = record {
      id = ap (λ s. s.now) same.id ∙ is.id;
      required = same.required ∙ is.required;
      action = same.action Set is.action;
      parser = same.parser (Unsigned 1 most) is.parser;
    }

-- ---- the answer

-- a text of a range is read as its number
pub is_read : {E : Type 0} (G : List ℕ → Result ℕ E → Type 0) (bits most : ℕ) (t : Text) (r : Option ℕ) → ReadsOne G t r
    → ((u : List ℕ) (x : Result ℕ E) → G u x → ParsesUnsigned bits 10 u x) → most < 2 ^ bits → IsUnsignedIn 1 most t
    → r ≡ Some (digits_value 10 (without_leading_plus t))
is_read G bits most t None read only fits passed = absurd (only t (Err read.0) read.1 (passed.0, omega arith))
is_read G bits most t (Some v) read only fits passed = ap (λ (n : ℕ). Some n) (only t (Ok v) read).1

-- the number of an option, by what a parse found
numbered : (m : ArgMatches) (words : List Text) (id t : Text) → rows_of (found_of m) ≡ matches_of serve_app words
    → one_text (found_of m) id ≡ Some t → number_in id words ≡ Some (digits_value 10 (without_leading_plus t))
numbered m words id t rows is =
    ap (option_map (λ (u : Text). digits_value 10 (without_leading_plus u)))
    (ap (λ (rs : List Row). one_of id rs) (sym rows) ∙ (sym (one_text-rows (found_of m) id) ∙ is))

-- words that are taken
pub taken : (app : App) (words : List Text) (m : ArgMatches) (p n : Option ℕ) (o : Option Serving) → app ≡ serve_app
    → (is_simple_and_free app ≡ true → fault_of app words ≡ []) → HasMatchesOf app words m
    → (are : AreNumbers m) → p ≡ Some (digits_value 10 (without_leading_plus are.port))
    → n ≡ Some (digits_value 10 (without_leading_plus are.connections)) → o ≡ serving_by p n
    → o ≡ serving_in words
taken app words m p n o e faults has are is_p is_n is =
    let none : fault_of serve_app words ≡ [] =
    subst (λ (a : App). is_simple_and_free a ≡ true → fault_of a words ≡ []) e faults is_exact in
    let rows = (subst (λ (a : App). HasMatchesOf a words m) e has is_plain).0 in
    let port : p ≡ number_in (codes "port") words = is_p ∙ sym (numbered m words (codes "port") are.port rows are.port_is) in
    let connections : n ≡ number_in (codes "connections") words =
    is_n ∙ sym (numbered m words (codes "connections") are.connections rows are.connections_is) in
    is ∙ ap₂ serving_by port connections
    ∙ ap (λ (ks : Kinds). unless_faulty ks (serving_by (number_in (codes "port") words) (number_in (codes "connections") words)))
    (sym none)

-- words that are refused
pub refused : (app : App) (words : List Text) (x : Error) → app ≡ serve_app
    → (is_simple_and_free app ≡ true → HasKind (fault_of app words) x) → (kind_of x ≡ kind.OutOfMemory → ⊥)
    → None ≡ serving_in words
refused app words x e faults other =
    by (subst (λ (a : App). is_simple_and_free a ≡ true → HasKind (fault_of a words) x) e faults is_exact)
  where
    by : (kind_of x ≡ kind.OutOfMemory) ⊎ IsAmong (kind_of x) (fault_of serve_app words) → None ≡ serving_in words
    by (inl h) = absurd (other h)
    by (inr h) = some_fault (kind_of x) (fault_of serve_app words)
        (serving_by (number_in (codes "port") words) (number_in (codes "connections") words)) h
