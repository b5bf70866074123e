-- The longest token is what is scanned.
use Rattle.std.proofs.Common.{◌≡◌, ℕ, List, Option, Some, None, refl, ap, ◌∙◌, sym}
use Rattle.php_tree.specs.declared.version.Version.{Version}
use Rattle.php_spellings.specs.declared.table.Kind.{Kind}
use Rattle.php_lexer.specs.Modes.{Mode, IsLongest}
use Rattle.php_lexer.specs.Scan.{scan}
use Rattle.php_lexer.proofs.Longest.{scanned_longest, scanned_none}
use Rattle.php_lexer.proofs.Single.{same_kind, same_length, clash}

abbrev pub found : Kind → ℕ → Option (Kind × ℕ)
found kind n = Some (kind, n)

abbrev length_found : Option (Kind × ℕ) → ℕ
length_found None = 0
length_found (Some x) = x.1

pub found_length : (k j : Kind) (m n : ℕ) → found k m ≡ found j n → m ≡ n
found_length k j m n e = ap length_found e

scan_by : (v : Version) (m : Mode) (bytes : List ℕ) (kind : Kind) (n : ℕ) (r : Option (Kind × ℕ)) → scan v m bytes ≡ r → IsLongest v m bytes kind n → r ≡ found kind n
scan_by v m bytes kind n None e h = clash h.is (scanned_none v m bytes None e n h.within)
scan_by v m bytes kind n (Some x) e h =
    let there = scanned_longest v m bytes (Some x) e in
    ap (λ (k : Kind). found k x.1) (same_kind v m bytes x.0 kind x.1 n there h)
    ∙ ap (λ (i : ℕ). found kind i) (same_length v m bytes x.0 kind x.1 n there h)

pub scan_of : (v : Version) (m : Mode) (bytes : List ℕ) (kind : Kind) (n : ℕ) → IsLongest v m bytes kind n → scan v m bytes ≡ found kind n
scan_of v m bytes kind n h = scan_by v m bytes kind n (scan v m bytes) refl h

pub longest_of : (v : Version) (m : Mode) (bytes : List ℕ) (kind : Kind) (n : ℕ) → scan v m bytes ≡ found kind n → IsLongest v m bytes kind n
longest_of v m bytes kind n e = scanned_longest v m bytes (found kind n) e

-- what is scanned alike has the same longest token
pub rescanned : (v w : Version) (m m' : Mode) (bytes bytes' : List ℕ) (kind : Kind) (n : ℕ)
    → scan v m bytes ≡ scan w m' bytes' → IsLongest v m bytes kind n → IsLongest w m' bytes' kind n
rescanned v w m m' bytes bytes' kind n e h = longest_of w m' bytes' kind n (sym e ∙ scan_of v m bytes kind n h)
