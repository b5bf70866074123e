-- What is true of the tokens of any bytes.
use Rattle.std.specs.Prelude.{◌≡◌, ℕ, List, [], ◌∷◌, IsUtf8}
use Rattle.php_tree.specs.declared.version.Version.{Version}
use Rattle.php_tree.specs.declared.token.Token.{Token}
use Rattle.php_tree.specs.Tree.{tokens_bytes}
use Rattle.php_lexer.specs.declared.fault.LexFault.{LexFault}
use Rattle.php_lexer.specs.Lexed.{TokensOf, StopsAt}

-- bytes have at most one list of tokens
abbrev pub OneTokenList : Type 0
OneTokenList =
    (version : Version) (bytes : List ℕ) (ts us : List Token) →
    TokensOf version bytes ts →
    TokensOf version bytes us →
    ts ≡ us

-- bytes have at most one fault
abbrev pub OneFault : Type 0
OneFault =
    (version : Version) (bytes : List ℕ) (f g : LexFault) →
    StopsAt version bytes f →
    StopsAt version bytes g →
    f ≡ g

-- bytes have no list of tokens where a fault stops them
abbrev pub NotBoth : Type 0
NotBoth =
    (version : Version) (bytes : List ℕ) (ts : List Token) (f : LexFault) →
    TokensOf version bytes ts →
    StopsAt version bytes f →
    ⊥

-- the leads and texts, joined in order, are the bytes
abbrev pub NoByteLost : Type 0
NoByteLost =
    (version : Version) (bytes : List ℕ) (ts : List Token) →
    TokensOf version bytes ts →
    tokens_bytes ts ≡ bytes

-- each lead and text is UTF-8
abbrev pub AllUtf8 : List Token → Type 0
AllUtf8 [] = Unit {0}
AllUtf8 (t ∷ ts) = (IsUtf8 t.lead × IsUtf8 t.text) × AllUtf8 ts

-- of UTF-8 bytes every lead and text is UTF-8
abbrev pub Utf8Kept : Type 0
Utf8Kept =
    (version : Version) (bytes : List ℕ) (ts : List Token) →
    IsUtf8 bytes →
    TokensOf version bytes ts →
    AllUtf8 ts
