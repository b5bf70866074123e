-- Tokens that stay as they are, in code or inline HTML.
use Rattle.std.proofs.Common.{◌≡◌, ℕ, suc, Bool, true, false, cond, not, ◌&&◌, ◌||◌, nat_eq, List, [], ◌∷◌, ◌++◌, length, refl, sym, ap, ◌∙◌, subst, append-nil}
use Rattle.std.proofs.lemmas.Bool.{and_parts, not-true}
use Rattle.php_tree.specs.declared.version.Version.TheVariants.{V74}
use Rattle.php_tree.specs.declared.token.Token.{Token}
use Rattle.php_spellings.specs.declared.table.Kind.{Kind}
use Rattle.php_spellings.specs.declared.table.Kind.TheVariants.{Op}
use Rattle.php_lexer.specs.Modes.{is_byte, IsLongest}
use Rattle.php_lexer.specs.Lexed.{lexeme}
use Rattle.php_relexing.specs.Tiles.{tile, joined}
use Rattle.syntax_rules.specs.HashComment.{hash_comment}
use Rattle.written_tokens.specs.tiles.ContinuesAs.{stops_cast}
use Rattle.written_tokens.specs.tiles.IsRewrittenTo.{IsRewrittenTo}
use Rattle.written_tokens.specs.tiles.Going.{any_stops}
use Rattle.written_tokens.specs.names.Fronts.{Front}
use Rattle.rewritten_shapes.specs.paired.Tokens.{is_code_kind, is_op, is_mark, is_code_token}
use Rattle.written_reading.proofs.edited.Spelling.{step_longest}
use Rattle.written_reading.proofs.edited.TileFacts.{mode_of, leaves_html, stays_open}
use Rattle.written_reading.proofs.edited.WrittenAs.{WrittenAs}
use Rattle.written_reading.proofs.edited.TileKinds.{token_like, told, is_marked, no_html, no_mark}
use Rattle.written_reading.proofs.edited.Leads.{inner_mode, front_of, Means, steps_inner, filled_one, kept, like_clean, op_stops}

-- ---- `)`

second_of : (p q r : Bool) → (p || (q || r)) ≡ false → q ≡ false
second_of true q r h = absurd cc
second_of false true r h = absurd cc
second_of false false r h = refl

-- a token that is no bracket leaves casts open
kept_open : (h : Bool) (kind : Kind) (b : ℕ) (a r : List ℕ) →
    (is_op (token_like kind) ≡ true → is_marked (b ∷ a) ≡ false)
    → IsLongest V74 (mode_of h) (b ∷ a ++ r) kind (suc (length a)) → stays_open (tile kind b a ∷ []) ≡ true
kept_open true Op b a r m l = absurd (no_html Op (b ∷ a) r refl l)
kept_open false Op b a r m l =
    ap not (second_of (nat_eq b 40) (nat_eq b 41) (nat_eq b 123 || nat_eq b 125) (no_mark b a r (m refl) l))
kept_open h kind b a r m l = open_by (stops_cast kind)
  where
    open_by : (s : Bool) → cond s true true ≡ true
    open_by true = refl
    open_by false = refl

-- ---- a token

unmarked : (t : Token) → is_code_token t ≡ true → is_op t.kind ≡ true → is_marked t.text ≡ false
unmarked t p o = by_op (is_op t.kind) o (and_parts (is_code_kind t.kind) (not (is_mark 40 t || (is_mark 41 t || (is_mark 123 t || is_mark 125 t)))) p).1
  where
    by_op : (x : Bool) → x ≡ true → not ((x && is_byte 40 t.text)
        || ((x && is_byte 41 t.text) || ((x && is_byte 123 t.text) || (x && is_byte 125 t.text)))) ≡ true
        → is_marked t.text ≡ false
    by_op true h q = not-true (is_marked t.text) q
    by_op false h q = absurd cc

pub token_written_as : Means → (h : Bool) (t : Token) → is_code_token t ≡ true → WrittenAs h (is_op t.kind) (t ∷ []) (hash_comment t ∷ [])
token_written_as means h t p below depth tiles more m steps same =
    let f : Front [] tiles (lexeme t) more = front_of means.front tiles (lexeme t) more m same in
    let behind = steps_inner means h below depth tiles (lexeme t) more f steps in
    let long : IsLongest V74 (mode_of (inner_mode h f.trivia)) (f.b ∷ f.a ++ joined f.rest) f.kind (suc (length f.a)) = step_longest behind in
    let coded : is_code_kind (token_like f.kind) ≡ true =
    sym (told is_code_kind refl refl f.kind (f.b ∷ f.a) t.kind f.is)
    ∙ (and_parts (is_code_kind t.kind) (not (is_mark 40 t || (is_mark 41 t || (is_mark 123 t || is_mark 125 t))))
    p).0 in
    let op : is_op t.kind ≡ is_op (token_like f.kind) = told is_op refl refl f.kind (f.b ∷ f.a) t.kind f.is in
    let marks : is_op (token_like f.kind) ≡ true → is_marked (f.b ∷ f.a) ≡ false = λ x. ap is_marked f.text ∙ unmarked t p (op ∙ x) in
    filled_one means h (is_op t.kind) below depth t (hash_comment t) tiles more steps f f.kind f.b f.a refl f.is
    (f.text ∙ sym (append-nil t.text))
    (λ x. op_stops means f.kind (sym op ∙ x))
    (kept_open (inner_mode h f.trivia) f.kind f.b f.a (joined f.rest) marks long)
    (like_clean means f.kind f.b f.a coded)
    (subst (λ (x : Bool). IsRewrittenTo false (any_stops (tile f.kind f.b f.a ∷ [])) (mode_of (inner_mode h f.trivia)) (mode_of x) (tile f.kind f.b f.a ∷ []) (tile f.kind f.b f.a ∷ []))
    (sym (told leaves_html refl refl f.kind (f.b ∷ f.a) t.kind f.is))
    (kept means (inner_mode h f.trivia) f.kind f.b f.a (joined f.rest) coded marks long))
