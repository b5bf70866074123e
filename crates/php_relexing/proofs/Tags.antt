-- The opening tag of a file, with white space behind it.
use Rattle.std.proofs.Common.{◌≡◌, ℕ, Bool, true, false, ◌&&◌, nat_eq, List, [], ◌∷◌, ◌++◌, Some, refl, subst, sym, arith}
use Rattle.std.proofs.lemmas.Bool.{and_parts, eqb-true}
use Rattle.std.proofs.lemmas.Bool.Decides.{nat_tests}
use Rattle.php_tree.specs.declared.version.Version.{Version}
use Rattle.php_spellings.specs.declared.table.Kind.TheVariants.{Tag}
use Rattle.php_spellings.specs.Bytes.{is_space, lower, begins}
use Rattle.php_lexer.specs.Modes.{html, IsLongest}
use Rattle.php_lexer.specs.Lexed.{Lexeme, Lexed, start, trivia}
use Rattle.php_lexer.specs.Scan.{scan}
use Rattle.php_lexer.proofs.Longest.{scanned_longest}
use Rattle.php_lexer.proofs.Dispatch.{other_head}
use Rattle.php_relexing.proofs.Listed.{each}
use Rattle.php_relexing.proofs.Spaces.{all_space, spaces, among_spaces}
use Rattle.php_relexing.proofs.Lexing.{plain, spaced}
use Rattle.php_relexing.proofs.Bools.{and_false}

-- the bytes of a tag before others, with the three letters of `php` in any case
abbrev pub tagged : ℕ → ℕ → ℕ → List ℕ → List ℕ
tagged p h q bs = 60 ∷ 63 ∷ p ∷ h ∷ q ∷ bs

abbrev is_feed : ℕ → Bool
is_feed c = nat_eq c 10

module _ (v : Version) (p h q : ℕ) (is_p : lower p ≡ 112) (is_h : lower h ≡ 104) (is_q : lower q ≡ 112) where
  pub return_scan : (rest : List ℕ) → begins is_feed rest ≡ false → scan v html (tagged p h q (13 ∷ rest)) ≡ Some (Tag, 6)
  return_scan [] e = rw (is_p, is_h, is_q) refl
  return_scan (c ∷ rest) e = let other = other_head 10 c refl e in rw (is_p, is_h, is_q, other) refl

  pub short_scan : (b : ℕ) (rest : List ℕ) → is_space b ≡ true → (nat_eq b 13 && begins is_feed rest) ≡ false → scan v html (tagged p h q (b ∷ rest)) ≡ Some (Tag, 6)
  short_scan b rest space = each (λ x. (nat_eq x 13 && begins is_feed rest) ≡ false → scan v html (tagged p h q (x ∷ rest)) ≡ Some (Tag, 6)) spaces (
    λ e. rw (is_p, is_h, is_q) refl,
    (
      λ e. rw (is_p, is_h, is_q) refl,
      (
        λ e. rw (is_p, is_h, is_q) refl,
        (λ e. return_scan rest e, tt),
      ),
    ),
  ) b (among_spaces b space)

  pub long_scan : (rest : List ℕ) → scan v html (tagged p h q (13 ∷ 10 ∷ rest)) ≡ Some (Tag, 7)
  long_scan rest = rw (is_p, is_h, is_q) refl

  short : (b : ℕ) (a s : List ℕ) (ts : List Lexeme) → is_space b ≡ true
      → (nat_eq b 13 && begins is_feed (a ++ s)) ≡ false → all_space a ≡ true → begins is_space s ≡ false
      → Lexed v plain (tagged p h q (b ∷ a)) s ts → Lexed v start [] (tagged p h q (b ∷ a ++ s)) ts
  short b a s ts space e all stop rest =
      let tag : IsLongest v html (tagged p h q (b ∷ a ++ s)) Tag 6 = scanned_longest v html (tagged p h q (b ∷ a ++ s)) (Some (Tag, 6)) (short_scan b (a ++ s) space e) in
      trivia Tag 6 tag refl (spaced v (tagged p h q (b ∷ [])) a s ts all stop rest)

  long : (a s : List ℕ) (ts : List Lexeme) → all_space a ≡ true → begins is_space s ≡ false
      → Lexed v plain (tagged p h q (13 ∷ 10 ∷ a)) s ts → Lexed v start [] (tagged p h q (13 ∷ 10 ∷ a ++ s)) ts
  long a s ts all stop rest =
      let tag : IsLongest v html (tagged p h q (13 ∷ 10 ∷ a ++ s)) Tag 7 = scanned_longest v html (tagged p h q (13 ∷ 10 ∷ a ++ s)) (Some (Tag, 7)) (long_scan (a ++ s)) in
      trivia Tag 7 tag refl (spaced v (tagged p h q (13 ∷ 10 ∷ [])) a s ts all stop rest)

  by_return : (b c : ℕ) (a s : List ℕ) (ts : List Lexeme) → is_space b ≡ true → all_space (c ∷ a) ≡ true
      → begins is_space s ≡ false → Lexed v plain (tagged p h q (b ∷ c ∷ a)) s ts → (t u : Bool) → nat_eq b 13 ≡ t
      → nat_eq c 10 ≡ u → Lexed v start [] (tagged p h q (b ∷ c ∷ a ++ s)) ts
  by_return b c a s ts space all stop rest true true e f =
      let more = and_parts (is_space c) (all_space a) all in
      let b_is = eqb-true b 13 e in
      let c_is = eqb-true c 10 f in
      subst (λ (x : ℕ). Lexed v start [] (tagged p h q (x ∷ c ∷ a ++ s)) ts) (sym b_is)
      (subst (λ (y : ℕ). Lexed v start [] (tagged p h q (13 ∷ y ∷ a ++ s)) ts) (sym c_is)
      (long a s ts more.1 stop
      (subst (λ (y : ℕ). Lexed v plain (tagged p h q (13 ∷ y ∷ a)) s ts) c_is
      (subst (λ (x : ℕ). Lexed v plain (tagged p h q (x ∷ c ∷ a)) s ts) b_is rest))))
  by_return b c a s ts space all stop rest true false e f = short b (c ∷ a) s ts space (rw (e, f) refl) all stop rest
  by_return b c a s ts space all stop rest false u e f = short b (c ∷ a) s ts space (rw e refl) all stop rest

  no_feed : (b : ℕ) (s : List ℕ) → begins is_space s ≡ false → (nat_eq b 13 && begins is_feed s) ≡ false
  no_feed b [] stop = and_false (nat_eq b 13)
  no_feed b (c ∷ s) stop = let other : nat_eq c 10 ≡ false = grind (arith, nat_tests) in rw other (and_false (nat_eq b 13))

  -- The tag and the white space behind it go to the lead of the first token of code.
  pub opened : (b : ℕ) (a s : List ℕ) (ts : List Lexeme) → is_space b ≡ true → all_space a ≡ true
      → begins is_space s ≡ false → Lexed v plain (tagged p h q (b ∷ a)) s ts
      → Lexed v start [] (tagged p h q (b ∷ a ++ s)) ts
  opened b [] s ts space all stop rest = short b [] s ts space (no_feed b s stop) all stop rest
  opened b (c ∷ a) s ts space all stop rest = by_return b c a s ts space all stop rest (nat_eq b 13) (nat_eq c 10) refl refl
