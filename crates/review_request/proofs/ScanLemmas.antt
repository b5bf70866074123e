-- How far a head was read, byte by byte.
use Rattle.std.proofs.Common.{◌≡◌, ℕ, Bool, List, [], ◌∷◌, ◌++◌, Option, None, Some, ap, sym, ◌∙◌}
use Rattle.std.proofs.lemmas.List.{append-nil, append_assoc}
use Rattle.review_request.specs.HeadBytes.{rest_of, rest_after}
use Rattle.review_request.specs.declared.head_bytes.Line.{Line}

-- the bytes that were read leave the scan here
abbrev pub ScannedTo : List ℕ → Line → Bool → Type 0
ScannedTo bytes line begun = (more : List ℕ) → rest_of (bytes ++ more) ≡ rest_after line begun more

-- one byte more
step : (bytes new : List ℕ) (b : ℕ) (more : List ℕ) → new ≡ bytes ++ b ∷ [] → new ++ more ≡ bytes ++ (b ∷ more)
step bytes new b more e = ap (λ l. l ++ more) e ∙ append_assoc bytes (b ∷ []) more

pub scan_ends : (bytes new : List ℕ) (b : ℕ) (line : Line) (begun : Bool) → ScannedTo bytes line begun → new ≡ bytes
    ++ b ∷ [] → ((more : List ℕ) → rest_after line begun (b ∷ more) ≡ Some more) → (more : List ℕ)
    → rest_of (new ++ more) ≡ Some more
scan_ends bytes new b line begun so_far e ends more = ap rest_of (step bytes new b more e) ∙ so_far (b ∷ more) ∙ ends more

pub scan_goes_on : (bytes new : List ℕ) (b : ℕ) (line next : Line) (begun then_begun : Bool)
    → ScannedTo bytes line begun → new ≡ bytes ++ b ∷ []
    → ((more : List ℕ) → rest_after line begun (b ∷ more) ≡ rest_after next then_begun more)
    → ScannedTo new next then_begun
scan_goes_on bytes new b line next begun then_begun so_far e on more = ap rest_of (step bytes new b more e) ∙ so_far (b ∷ more) ∙ on more

-- the head hasn't ended
pub scan_open : (bytes : List ℕ) (line : Line) (begun : Bool) → ScannedTo bytes line begun → rest_of bytes ≡ None
scan_open bytes line begun so_far = ap rest_of (sym (append-nil bytes)) ∙ so_far []

pub scan_cut : (bytes new : List ℕ) (line : Line) (begun : Bool) → ScannedTo bytes line begun → new ≡ bytes ++ [] → rest_of new ≡ None
scan_cut bytes new line begun so_far e = ap rest_of e ∙ so_far []
