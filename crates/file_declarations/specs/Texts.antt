-- Texts that are lent.
use Rattle.std.specs.Prelude.{◌≡◌, ℕ, List, [], ◌∷◌, Option, Some, None, Vec, option_map}
use Rattle.std.specs.declared.alloc.Global.{Global}
use Rattle.std.specs.Borrow.{Bor}

-- the text, if there is one
abbrev pub text_option : Option (Bor (List ℕ)) → Option (List ℕ)
text_option o = option_map (λ w. w.now) o

-- the bytes, if there are any
abbrev pub bytes_option : Option (Vec ℕ Global) → Option (List ℕ)
bytes_option o = option_map (λ v. v.items) o

-- the first byte of a text, and those behind it
abbrev pub IsFirstByte : Option (ℕ × Bor (List ℕ)) → List ℕ → Type 0
IsFirstByte None text = text ≡ []
IsFirstByte (Some p) text = text ≡ p.0 ∷ p.1.now
