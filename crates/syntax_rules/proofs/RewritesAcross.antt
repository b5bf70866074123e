-- Rewritten trees do in 8.3 what the source's do in 7.4.
use Rattle.std.proofs.Common.{
  ◌≡◌,
  ℕ,
  zero,
  suc,
  ◌+◌,
  Bool,
  true,
  false,
  ◌&&◌,
  cond,
  IsTrue,
  List,
  [],
  ◌∷◌,
  ◌++◌,
  codes,
  Option,
  None,
  Some,
  refl,
  ap,
  sym,
  ◌∙◌,
  subst,
  arith,
  add-zero,
}
use Rattle.std.proofs.Math.Nat.{add-suc}
use Rattle.php_tree.specs.declared.token.TokenKind.{TokenKind}
use Rattle.php_tree.specs.declared.token.TokenKind.TheVariants as token
use Rattle.php_tree.specs.declared.token.Token.{Token}
use Rattle.php_tree.specs.declared.kind.NodeKind.{NodeKind}
use Rattle.php_tree.specs.declared.kind.NodeKind.TheVariants as kind
use Rattle.php_tree.specs.Tree.{Forest, none, leaf, node, count}
use Rattle.php_meaning.specs.values.Value.{Value, Text}
use Rattle.php_meaning.specs.Cause.{NoRule}
use Rattle.php_meaning.specs.runs.World.{Bytes, Place, Before, World}
use Rattle.php_meaning.specs.literals.Literals.{found}
use Rattle.php_meaning.specs.literals.Nowdocs.{blanks}
use Rattle.scope_names.specs.Form.{Form, Word, Child, form}
use Rattle.scope_names.specs.Sites.{Site, is_declaration, declarations, one_if, within, beside}
use Rattle.php_meaning.specs.runs.Kinds.{is_expression, is_statement}
use Rattle.php_meaning.specs.names.Tables.{Tables}
use Rattle.php_meaning.specs.runs.Script.{
  Out,
  Val,
  Mode,
  Read,
  Quiet,
  Write,
  Unset,
  Name,
  Later,
  Left,
  Behind,
  Against,
  Into,
  Given,
  Entered,
  Item,
  Target,
  Kid,
  Script,
  Give,
  Stop,
  Run,
  give,
  given,
  value_then,
  child_value,
  Top,
  Unchanged,
  Early,
  stands,
}
use Rattle.php_meaning.specs.values.Offsets.{Strict}
use Rattle.php_meaning.specs.expressions.Expressions.{plain_name, offset_of}
use Rattle.php_meaning.specs.expressions.QuotedTexts.{
  variable_read,
  Style,
  InQuotes,
  InHeredoc,
  piece,
  ends_line,
  InText,
  InCode,
  BeforeBrace,
  InBrackets,
  BeforeBracket,
  text_then,
  text_at,
  quoted,
  quoted_by,
  quoted_text,
  closing_word,
  ends_here,
  begins_dollar,
}
use Rattle.php_meaning.specs.expressions.QuotedTexts as texts
use Rattle.php_meaning.specs.Rules.{rule, cast, casts, cast_word, cast_again}
use Rattle.php_meaning.specs.runs.Run.{Mark, Result, then_do, play, Entry, is_stopped, place_in, told, left, going, passes, at_node, step, declared_in}
use Rattle.php_meaning.specs.laws.SameScripts.{HasScriptOf}
use Rattle.php_meaning.specs.laws.Across.{
  Claim,
  world_in,
  Grown,
  FollowsAcross,
  Across,
  DoesAcross,
  IsRewritten,
  nothing,
  token_before,
  token_behind,
  same,
  replaced,
  kept,
  wrapped,
}
use Rattle.php_meaning.proofs.Across.{grown, told_across, step_across, declared_across}
use Rattle.syntax_rules.specs.DoTheSame.{UnsetCastsAreNull, BracesDoTheSame, ending}
use Rattle.syntax_rules.specs.Keeps.{token_of}
use Rattle.syntax_rules.proofs.Rewrites.{
  IsToken,
  begins,
  Rewrites,
  ends,
  same_token,
  inner,
  changed,
  parens,
  Changed,
  brackets,
  float,
  null,
  curled,
  Curled,
  closing,
  piece as a_piece,
  escaped,
  simple,
  code,
  name,
  offset,
  expression,
}
use Rattle.syntax_rules.proofs.RewrittenTables.{
  forms_same,
  changed_declares,
  old_expression,
  new_expression,
  within_same,
  beside_same,
  plain_beside,
  node_beside,
  beside_variable,
  changed_beside,
  offset_beside,
  expression_beside,
  declarations_same,
}
use Rattle.syntax_rules.proofs.QuotedForms.{
  word_form,
  itself,
  of_kind,
  code_form,
  name_form,
  offset_form,
  closing_same,
  ends_behind,
  no_dollar,
  dollar_first,
  bare_same,
  source_opening,
  target_opening,
}
use Rattle.syntax_rules.proofs.QuotedAcross.{
  same_told,
  left_then,
  variable_node,
  Plays,
  gives_alike,
  stops_alike,
  given_alike,
  value_alike,
  runs_alike,
  text_alike,
  variable_across,
  keyed_across,
  behind_text,
}
use Rattle.syntax_rules.proofs.QuotedParts.{piece_alike, by_forms, further_first, Kids, next_lid, child_then, named_alike, offset_alike}
use Rattle.syntax_rules.proofs.UnsetCastAcross.{unset_cast_across}

-- ---- common steps

-- a node, and what follows it
others : {claim : Claim} {t t' : Tables} {id : ℕ} {s : Site} {k j : NodeKind} {c d f g : Forest}
    → IsRewritten claim t t' id s (node k c none) (node j d none)
    → IsRewritten claim t t' (suc (id + count c)) (beside k c s) f g
    → IsRewritten claim t t' id s (node k c f) (node j d g)
others (same h e p q) r = same h e p r
others (replaced h q) r = replaced h r
others (kept h q) r = kept h r
others (wrapped e p q) r = wrapped e p r

-- ---- scripts

bracket_script : (t : Tables) (s : Site) (a b x y : TokenKind) (w v z u : Bytes) (m : Mode)
    → rule t s kind.Offset m (Child ∷ Word x z ∷ Child ∷ Word y u ∷ []) ≡ rule t s kind.BraceOffset m (Child ∷ Word a w ∷ Child ∷ Word b v ∷ [])
bracket_script t s a b x y w v z u Read = refl
bracket_script t s a b x y w v z u Quiet = refl
bracket_script t s a b x y w v z u Write = refl
bracket_script t s a b x y w v z u Unset = refl
bracket_script t s a b x y w v z u m = refl

float_script : (t : Tables) (s : Site) (a b : TokenKind) (w v : Bytes) → cast_word w ≡ codes "(real)" → v ≡ codes "(float)" → (m : Mode)
    → rule t s kind.Cast m (Word b v ∷ Child ∷ []) ≡ rule t s kind.Cast m (Word a w ∷ Child ∷ [])
float_script t s a b w v e d Read = ap (λ x. cast (found casts (cast_word x))) d ∙ sym (ap (λ x. cast (found casts x)) e)
float_script t s a b w v e d Quiet = ap (λ x. cast (found casts (cast_word x))) d ∙ sym (ap (λ x. cast (found casts x)) e)
float_script t s a b w v e d Top = ap (λ x. cast (found casts (cast_word x))) d ∙ sym (ap (λ x. cast (found casts x)) e)
float_script t s a b w v e d Early = ap (λ x. cast (found casts (cast_word x))) d ∙ sym (ap (λ x. cast (found casts x)) e)
float_script t s a b w v e d (Unchanged y) = ap (λ x. cast_again (found casts (cast_word x))) d ∙ sym (ap (λ x. cast_again (found casts x)) e)
float_script t s a b w v e d m = refl

-- ---- opening tokens

-- a quoted text by its opening token, where what follows does the same
opened_alike : (claim : Claim) (here there : Place) (go to : Target → World → Result) (x y : Token) (f g u v : Form)
    → u ≡ Word x.kind x.text ∷ f → v ≡ Word y.kind y.text ∷ g → y.kind ≡ x.kind → closing_word g ≡ closing_word f
    → ((style : Style) (fresh : Bool) → Plays claim here there go to (quoted style (InText fresh) [] 0 f) (quoted style (InText fresh) [] 0 g))
    → Plays claim here there go to (quoted_text u) (quoted_text v)
opened_alike claim here there go to x y f g u v a b e c p =
    subst (λ z. Plays claim here there go to (quoted_text z) (quoted_text v)) (sym a)
    (subst (λ z. Plays claim here there go to (quoted_by x.kind f) (quoted_text z)) (sym b)
    (subst (λ q. Plays claim here there go to (quoted_by x.kind f) (quoted_by q g)) (sym e) (by_kind x.kind)))
  where
    by_kind : (q : TokenKind) → Plays claim here there go to (quoted_by q f) (quoted_by q g)
    by_kind token.Quote = p InQuotes false
    by_kind token.HeredocStart =
        subst (λ w. Plays claim here there go to (quoted (InHeredoc (blanks (closing_word f))) (InText true) [] 0 f) (quoted (InHeredoc (blanks w)) (InText true) [] 0 g))
        (sym c) (p (InHeredoc (blanks (closing_word f))) true)
    by_kind q = stops_alike claim here there go to NoRule (Stop NoRule)

-- ---- quoted texts and declarations

module _ (claim : Claim) (t : Tables) where
  -- what the parts of a quoted text do
  abbrev PartsAcross : Forest → Forest → Type 0
  PartsAcross f g =
      (marks : List Mark) (lower low : Entry → World → Result) → ((e : Entry) → Across claim (lower e) (low e))
      → (style : Style) (here there : Place) (s : Site) (id jd i j : ℕ) (kid lid : ℕ → Mode → World → Result) (again anew : Mode → World → Result)
      → Kids false t marks lower s f id i kid → Kids true t [] low s g jd j lid → (fresh : Bool) (bytes : Bytes)
      → Plays claim here there (going lower kid again) (going low lid anew) (quoted style (InText fresh) bytes i (form f)) (quoted style (InText fresh) bytes j (form g))

  abbrev DeclaredAcross : Forest → Forest → Type 0
  DeclaredAcross f g =
      (marks : List Mark) (lower low : Entry → World → Result) → ((e : Entry) → Across claim (lower e) (low e))
      → (id jd : ℕ) (s : Site) (n : ℕ) (m : Mode) (x y : World → Result) → Across claim x y
      → Across claim (declared_in false t marks lower s f id n m x) (declared_in true t [] low s g jd n m y)

  quoted_mode : {f g : Forest} (x y : Token) → y.kind ≡ x.kind → Curled f g → PartsAcross f g → (s : Site) (marks : List Mark) (lower low : Entry → World → Result)
      → ((e : Entry) → Across claim (lower e) (low e)) → (id jd : ℕ) (kid lid : ℕ → Mode → World → Result) (again anew : Mode → World → Result)
      → ((i : ℕ) (m : Mode) (w : World) → kid i m w ≡ step false t marks lower s f (suc id) i m w)
      → ((i : ℕ) (m : Mode) (w : World) → lid i m w ≡ step true t [] low s g (suc jd) i m w)
      → (m : Mode) → Plays claim (place_in s id) (place_in s jd) (going lower kid again) (going low lid anew)
      (rule t s kind.Quoted m (form (leaf x f))) (rule t s kind.Quoted m (form (leaf y g)))
  quoted_mode {f} {g} x y e p q s marks lower low h id jd kid lid again anew k l = by_mode
    where
      opened : Plays claim (place_in s id) (place_in s jd) (going lower kid again) (going low lid anew) (quoted_text (form (leaf x f))) (quoted_text (form (leaf y g)))
      opened =
          opened_alike claim (place_in s id) (place_in s jd) (going lower kid again) (going low lid anew) x y (form f) (form g) (form (leaf x f)) (form (leaf y g))
          (source_opening p x) (target_opening p y) e (closing_same p)
          (λ style fresh. q marks lower low h style (place_in s id) (place_in s jd) s (suc id) (suc jd) 0 0 kid lid again anew
          (λ n m w. ap (λ z. kid z m w) (further_first n) ∙ k n m w) (λ n m w. ap (λ z. lid z m w) (further_first n) ∙ l n m w) fresh [])

      by_mode : (m : Mode) → Plays claim (place_in s id) (place_in s jd) (going lower kid again) (going low lid anew)
          (rule t s kind.Quoted m (form (leaf x f))) (rule t s kind.Quoted m (form (leaf y g)))
      by_mode Read = opened
      by_mode Quiet = opened
      by_mode Top = opened
      by_mode Early = opened
      by_mode (Unchanged v) = gives_alike claim (place_in s id) (place_in s jd) (going lower kid again) (going low lid anew) stands
      by_mode m = stops_alike claim (place_in s id) (place_in s jd) (going lower kid again) (going low lid anew) NoRule (Stop NoRule)

  quoted_at : {f g : Forest} (x y : Token) → y.kind ≡ x.kind → Curled f g → PartsAcross f g → (s : Site) (marks : List Mark) (lower low : Entry → World → Result)
      → ((e : Entry) → Across claim (lower e) (low e)) → (id jd : ℕ) (m : Mode)
      → Across claim (at_node false t lower s kind.Quoted (leaf x f) id (step false t marks lower s (leaf x f) (suc id)) m)
      (at_node true t low s kind.Quoted (leaf y g) jd (step true t [] low s (leaf y g) (suc jd)) m)
  quoted_at {f} {g} x y e p q s marks lower low h id jd m =
      let kid : ℕ → Mode → World → Result = step false t marks lower s (leaf x f) (suc id) in
      let lid : ℕ → Mode → World → Result = step true t [] low s (leaf y g) (suc jd) in
      let old : ℕ → Mode → World → Result = passes (place_in s id) (λ again n u. play false (place_in s id) (going lower kid again) (rule t s kind.Quoted n (form (leaf x f))) u) in
      let new : ℕ → Mode → World → Result = passes (place_in s jd) (λ again n u. play true (place_in s jd) (going low lid again) (rule t s kind.Quoted n (form (leaf y g))) u) in
      let both : (a b : ℕ) → Plays claim (place_in s id) (place_in s jd) (going lower kid (old a))
      (going low lid (new b)) (rule t s kind.Quoted m (form (leaf x f)))
      (rule t s kind.Quoted m (form (leaf y g))) =
      λ a b. quoted_mode x y e p q s marks lower low h id jd kid lid (old a) (new b) (λ i n w. refl) (λ i n w. refl) m in
      record {
        grows = λ w. (both w.turns w.turns).grows w;
        follows = λ w u z. (both w.turns u.turns).follows w u z;
      }

  -- a quoted text, at its node
  quoted_does : {f g : Forest} (x y : Token) (e : y.kind ≡ x.kind) (p : Curled f g) → PartsAcross f g → DeclaredAcross f g → (s : Site)
      → DoesAcross claim t t s kind.Quoted (leaf x f) kind.Quoted (leaf y g)
  quoted_does {f} {g} x y e p q r s = record {
    node = λ marks lower low h id jd m.
        told_across claim (is_stopped marks s.file id) s id jd m m
        (at_node false t lower s kind.Quoted (leaf x f) id (step false t marks lower s (leaf x f) (suc id)) m)
        (at_node true t low s kind.Quoted (leaf y g) jd (step true t [] low s (leaf y g) (suc jd)) m)
        (quoted_at x y e p q s marks lower low h id jd m);
    inside = λ marks lower low h id jd n m a b z. r marks lower low h id jd s n m a b z;
    declaration = refl;
    undeclared = refl;
    beside = changed_beside (curled {t = x} {u = y} e p) s;
  }

  -- declarations in a node and behind it
  node_declared : (k j : NodeKind) (c d f g : Forest) (marks : List Mark) (lower low : Entry → World → Result)
      → ((e : Entry) → Across claim (lower e) (low e)) → (id jd : ℕ) (s : Site) → IsRewritten claim t t id s (node k c none) (node j d none) → beside j d s ≡ beside k c s
      → (n : ℕ) (m : Mode) (x y : World → Result)
      → Across claim (declared_in false t marks lower (beside k c s) f (suc (id + count c)) n m x) (declared_in true t [] low (beside k c s) g (suc (jd + count d)) n m y)
      → Across claim (declared_in false t marks lower s (node k c f) id n m x) (declared_in true t [] low s (node j d g) jd n m y)
  node_declared k j c d f g marks lower low h id jd s r e n m x y a =
      declared_across claim t t marks lower low h id s r jd n m
      (declared_in false t marks lower (beside k c s) f (suc (id + count c)) n m x) (declared_in true t [] low (beside j d s) g (suc (jd + count d)) n m y)
      (subst (λ z. Across claim (declared_in false t marks lower (beside k c s) f (suc (id + count c)) n m x) (declared_in true t [] low z g (suc (jd + count d)) n m y)) (sym e) a)

  held_declared : (k j : NodeKind) (c d f g : Forest) (q : Token) (marks : List Mark) (lower low : Entry → World → Result)
      → ((e : Entry) → Across claim (lower e) (low e)) → (id jd after : ℕ) (s u : Site) → IsRewritten claim t t id s (node k c none) (node j d none) → u ≡ beside k c s
      → (n : ℕ) (m : Mode) (x y : World → Result)
      → Across claim (declared_in false t marks lower (beside k c s) f (suc (id + count c)) n m x) (declared_in true t [] low (beside k c s) g after n m y)
      → Across claim (declared_in false t marks lower s (node k c f) id n m x)
      (declared_in true t [] low s (node j d (leaf q none)) jd n m (declared_in true t [] low u g after n m y))
  held_declared k j c d f g q marks lower low h id jd after s u r e n m x y a =
      declared_across claim t t marks lower low h id s r jd n m
      (declared_in false t marks lower (beside k c s) f (suc (id + count c)) n m x)
      (declared_in true t [] low u g after n m y)
      (subst (λ z. Across claim (declared_in false t marks lower (beside k c s) f (suc (id + count c)) n m x) (declared_in true t [] low z g after n m y)) (sym e) a)

-- ---- trees

module _ (claim : Claim) (plain : (p : Place) → claim.handled p ≡ false) (t : Tables) where
  mutual
    pub rewritten : {f g : Forest} → Rewrites f g → (id : ℕ) (s : Site) → IsRewritten claim t t id s f g
    rewritten ends id s = nothing
    rewritten (same_token i r) id s = token_before (token_behind (rewritten r id s))
    rewritten (inner {k} {c} {d} {f} {g} p q) id s =
        same (record {
          script = λ m. ap (rule t s k m) (forms_same p);
          statement = refl;
          declaration = refl;
          within = within_same k s p;
          beside = beside_same k s p;
        }) (plain (place_in s id)) (rewritten p (suc id) (within k c s)) (rewritten q (suc (id + count c)) (beside k c s))
    rewritten (changed {k} {j} {c} {d} {f} {g} p q) id s = node_rewritten p id s (rewritten q (suc (id + count c)) (beside k c s))
    rewritten (parens {k} {j} {c} {d} {f} {g} {o} {p} e q r) id s =
        wrapped (sym (node_beside (parens {o = o} {p = p} e q ends) s)) (rewritten q id s) (rewritten r (suc (id + count c)) (beside k c s))

    node_rewritten : {k j : NodeKind} {c d f g : Forest} → Changed k c j d → (id : ℕ) (s : Site)
        → IsRewritten claim t t (suc (id + count c)) (beside k c s) f g → IsRewritten claim t t id s (node k c f) (node j d g)
    node_rewritten (brackets {k} {j} {l} {i} {c} {d} {e} {b} {o} {p = m} {q} {r} p n) id s rest =
        same (record {
          script = bracket_script t s o.kind m.kind q.kind r.kind o.text m.text q.text r.text;
          statement = refl;
          declaration = refl;
          within = refl;
          beside = changed_beside (brackets {o = o} {p = m} {q = q} {r = r} p n) s;
        }) (plain (place_in s id))
        (others (rewritten p (suc id) s) (token_before (token_behind
        (others (rewritten n (suc (suc id + count c)) (beside k c s)) (token_before (token_behind nothing)))))) rest
    node_rewritten (float {t = x} {u = y} {k} {j} {c} {d} e v p) id s rest =
        same (record {
          script = float_script t s x.kind y.kind x.text y.text e v;
          statement = refl;
          declaration = refl;
          within = refl;
          beside = changed_beside (float {t = x} {u = y} e v p) s;
        }) (plain (place_in s id)) (token_before (token_behind (rewritten p (suc id) s))) rest
    node_rewritten (null {u} {x} {o} {n} {p} e d) id s rest = kept (unset_cast_across claim t t s u x o n p e d) rest
    node_rewritten (curled {t = x} {u = y} {f} {g} e p) id s rest = kept (quoted_does claim t x y e p (curled_alike p) (curled_declared p) s) rest

    -- the parts of a quoted text
    curled_alike : {f g : Forest} → Curled f g → PartsAcross claim t f g
    curled_alike (closing {lead} {text} {start} q) marks lower low h style here there s id jd i j kid lid again anew k l fresh bytes =
        by_forms claim here there (going lower kid again) (going low lid anew) style fresh bytes i j _ _ _ _
        (word_form (itself token.QuotedEnd lead text start) refl refl none) (word_form q refl refl none)
        (gives_alike claim here there (going lower kid again) (going low lid anew) (Val (Text bytes)))
    curled_alike (a_piece {lead} {text} {start} {u} {f} {g} q p) marks lower low h style here there s id jd i j kid lid again anew k l fresh bytes =
        by_forms claim here there (going lower kid again) (going low lid anew) style fresh bytes i j _ _ _ _
        (word_form (itself token.Piece lead text start) refl refl f) (word_form q refl refl g)
        (piece_alike claim here there (going lower kid again) (going low lid anew) (begins_dollar (form f)) (begins_dollar (form g)) (texts.ends_bare false text) _ _ (no_dollar p)
        (λ no.
        subst (λ b. Plays claim here there (going lower kid again) (going low lid anew)
        (given (piece style fresh (ends_here (form f)) text) (λ x. quoted style (InText (ends_line text)) (bytes ++ x) i (form f)))
        (given (piece style fresh b text) (λ x. quoted style (InText (ends_line text)) (bytes ++ x) j (form g)))) (sym (ends_behind p))
        (given_alike claim here there (going lower kid again) (going low lid anew) (piece style fresh (ends_here (form f)) text) _ _
        (λ x. curled_alike p marks lower low h style here there s id jd i j kid lid again anew k l (ends_line text) (bytes ++ x)))))
    curled_alike (escaped {lead} {text} {new} {start} {u} {f} {g} e b q p) marks lower low h style here there s id jd i j kid lid again anew k l fresh bytes =
        by_forms claim here there (going lower kid again) (going low lid anew) style fresh bytes i j
        (form (leaf (token_of token.Piece lead text start) f)) (form (leaf u g)) (Word token.Piece text ∷ form f)
        (form (leaf u g)) (word_form (itself token.Piece lead text start) refl refl f) refl
        (subst (λ x. Plays claim here there (going lower kid again) (going low lid anew)
        (cond x (Stop NoRule) (given (piece style fresh (ends_here (form f)) text) (λ y. quoted style (InText (ends_line text)) (bytes ++ y) i (form f))))
        (quoted style (InText fresh) bytes j (form (leaf u g))))
        (sym (ap (λ z. z && texts.ends_bare false text) (dollar_first p b) ∙ bare_same false text ∙ e))
        (stops_alike claim here there (going lower kid again) (going low lid anew) NoRule (quoted style (InText fresh) bytes j (form (leaf u g)))))
    curled_alike (simple {k = a} {j = b} {c} {d} {f} {g} r p) marks lower low h style here there s id jd i j kid lid again anew k l fresh bytes =
        child_then claim t marks lower low here there kid lid again anew a b c d f g s id jd i j (step_across claim t t marks lower low h id s (rewritten r id s) jd 0 Read) k l _ _
        (λ v. text_alike claim here there (going lower kid again) (going low lid anew) v _ _
        (λ x. curled_alike p marks lower low h style here there (beside a c s) (suc (id + count c)) (suc (jd + count d)) (suc i) (suc j) kid lid again anew
        (λ n m w. k (suc n) m w) (next_lid t low s (beside a c s) jd j b d g lid (node_beside r s) l) false (bytes ++ x)))
    curled_alike (code {lead} {text} {shut_lead} {start} {shut_start} {k = a} {j = b} {c} {d} {f} {g} {u} {v} q n r p)
        marks lower low h style here there s id jd i j kid lid again anew k l fresh bytes =
        by_forms claim here there (going lower kid again) (going low lid anew) style fresh bytes i j _ _ _ _
        (code_form (itself token.CurlyOpen lead text start) refl refl (itself token.Op shut_lead (codes "}") shut_start) a c f) (code_form q refl refl n b d g)
        (child_then claim t marks lower low here there kid lid again anew a b c d
        (leaf (token_of token.Op shut_lead (codes "}") shut_start) f) (leaf v g) s id jd i j
        (step_across claim t t marks lower low h id s (rewritten r id s) jd 0 Read) k l _ _
        (λ y. text_alike claim here there (going lower kid again) (going low lid anew) y _ _
        (λ x. curled_alike p marks lower low h style here there (beside a c s) (suc (id + count c)) (suc (jd + count d)) (suc i) (suc j) kid lid again anew
        (λ n m w. k (suc n) m w) (next_lid t low s (beside a c s) jd j b d (leaf v g) lid (node_beside r s) l) false (bytes ++ x))))
    curled_alike (name {lead} {text} {word = word} {shut_lead} {start} {word_start} {shut_start} {f} {g} {u} {x} {v} e
        n q p) marks lower low h style here there s id jd i j kid lid again anew k l fresh bytes =
        by_forms claim here there (going lower kid again) (going low lid anew) style fresh bytes i j _ _ _ _
        (name_form lead text word shut_lead start word_start shut_start f) (code_form (of_kind {u = u} e) refl refl q kind.Variable (leaf x none) g)
        (named_alike claim t marks lower low here there kid lid again anew style fresh s jd i j x v text u.text word (form f) (form g) (leaf v g) bytes n l
        (λ y. curled_alike p marks lower low h style here there s id (suc (jd + count (leaf x none))) i (suc j) kid lid again anew k
        (next_lid t low s s jd j kind.Variable (leaf x none) (leaf v g) lid (beside_variable s) l) false (bytes ++ y)))
    curled_alike (offset {lead} {text} {word = word} {open_lead} {shut_lead} {end_lead} {start} {word_start}
        {open_start} {shut_start} {end_start} {k = a} {j = b} {c} {d} {f} {g} {u} {x} {o} {q = y} {v} e n q z r p)
        marks lower low h style here there s id jd i j kid lid again anew k l fresh bytes =
        by_forms claim here there (going lower kid again) (going low lid anew) style fresh bytes i j _ _ _ _
        (offset_form lead text word open_lead shut_lead end_lead start word_start open_start shut_start end_start a c f)
        (code_form (of_kind {u = u} e) refl refl q kind.Offset (node kind.Variable (leaf x none) (leaf o (node b d (leaf y none)))) g)
        (offset_alike claim t marks lower low here there kid lid again anew style fresh s id jd i j a b c d
        (leaf (token_of token.Op shut_lead (codes "]") shut_start)
        (leaf (token_of token.Op end_lead (codes "}") end_start) f)) x o y text u.text word (form f) (form g)
        (leaf v g) bytes n
        (subst (λ s'. Across claim (step false t marks lower s (node a c none) id 0 Read)
        (step true t [] low s' (node b d none) (suc (suc jd + count (leaf x none))) 0 Read))
        (sym (beside_variable s))
        (step_across claim t t marks lower low h id s (rewritten r id s) (suc (suc jd + count (leaf x none))) 0 Read)) k l
        (λ w. curled_alike p marks lower low h style here there (beside a c s) (suc (id + count c))
        (suc (jd + count (node kind.Variable (leaf x none) (leaf o (node b d (leaf y none)))))) (suc i) (suc j)
        kid lid again anew
        (λ n m w. k (suc n) m w)
        (next_lid t low s (beside a c s) jd j kind.Offset
        (node kind.Variable (leaf x none) (leaf o (node b d (leaf y none)))) (leaf v g) lid
        (offset_beside x o y z r s) l) false (bytes ++ w)))
    curled_alike (expression {lead} {text} {shut_lead} {start} {shut_start} {k = a} {j = b} {c} {d} {f} {g} {u}
        {a = x} {b = y} {q = w} {v} e q z r p) marks lower low h style here there s id jd i j kid lid again anew k l
        fresh bytes =
        let target : Form = form (leaf u (node kind.Variable (leaf x (leaf y (node b d (leaf w none)))) (leaf v g))) in
        by_forms claim here there (going lower kid again) (going low lid anew) style fresh bytes i j
        (form (leaf (token_of token.DollarBrace lead text start) (node a c (leaf (token_of token.Op shut_lead (codes "}") shut_start) f)))) target
        (Word token.DollarBrace text ∷ Child ∷ Word token.Op (codes "}") ∷ form f) target
        (code_form (itself token.DollarBrace lead text start) refl refl (itself token.Op shut_lead (codes "}") shut_start) a c f) refl
        (stops_alike claim here there (going lower kid again) (going low lid anew) NoRule (quoted style (InText fresh) bytes j target))

    -- declarations in quoted texts
    curled_declared : {f g : Forest} → Curled f g → DeclaredAcross claim t f g
    curled_declared (closing i) marks lower low h id jd s n m x y a = a
    curled_declared (a_piece i p) marks lower low h id jd s n m x y a = curled_declared p marks lower low h id jd s n m x y a
    curled_declared (escaped e b i p) marks lower low h id jd s n m x y a = curled_declared p marks lower low h id jd s n m x y a
    curled_declared (simple {k} {j} {c} {d} {f} {g} r p) marks lower low h id jd s n m x y a =
        node_declared claim t k j c d f g marks lower low h id jd s (rewritten r id s) (node_beside r s) n m x y
        (curled_declared p marks lower low h (suc (id + count c)) (suc (jd + count d)) (beside k c s) n m x y a)
    curled_declared (code {shut_lead = sl} {shut_start = ss} {k = k} {j = j} {c = c} {d = d} {f = f} {g = g} {v = v} i l r p) marks lower low h id jd s n m x y a =
        node_declared claim t k j c d (leaf (token_of token.Op sl (codes "}") ss) f) (leaf v g) marks lower low h id
        jd s (rewritten r id s) (node_beside r s) n m x y
        (curled_declared p marks lower low h (suc (id + count c)) (suc (jd + count d)) (beside k c s) n m x y a)
    curled_declared (name {f = f} {g = g} {x = z} {v = v} e q i p) marks lower low h id jd s n m x y a =
        subst (λ u. Across claim (declared_in false t marks lower s f id n m x) (declared_in true t [] low u g (suc (jd + count (leaf z none))) n m y)) (sym (beside_variable s))
        (curled_declared p marks lower low h id (suc (jd + count (leaf z none))) s n m x y a)
    curled_declared (offset {k = k} {j = j} {c = c} {d = d} {f = f} {g = g} {x = z} {o = o} {q = u} {v = v} e q i w r p) marks lower low h id jd s n m x y a =
        subst (λ b. Across claim (declared_in false t marks lower s (node k c f) id n m x)
        (declared_in true t [] low b (node j d (leaf u none)) (suc (suc jd + count (leaf z none))) n m
        (declared_in true t [] low (beside kind.Offset (node kind.Variable (leaf z none)
        (leaf o (node j d (leaf u none)))) s) g
        (suc (jd + count (node kind.Variable (leaf z none) (leaf o (node j d (leaf u none)))))) n m y)))
        (sym (beside_variable s))
        (held_declared claim t k j c d f g u marks lower low h id (suc (suc jd + count (leaf z none)))
        (suc (jd + count (node kind.Variable (leaf z none) (leaf o (node j d (leaf u none)))))) s
        (beside kind.Offset (node kind.Variable (leaf z none) (leaf o (node j d (leaf u none)))) s) (rewritten r id s) (offset_beside z o u w r s) n m x y
        (curled_declared p marks lower low h (suc (id + count c)) (suc (jd + count (node kind.Variable (leaf z none) (leaf o (node j d (leaf u none)))))) (beside k c s) n m x y a))
    curled_declared (expression {k = k} {j = j} {c = c} {d = d} {f = f} {g = g} {a = z} {b = o} {q = u} e i w r p) marks lower low h id jd s n m x y a =
        held_declared claim t k j c d f g u marks lower low h id (suc jd) (suc (jd + count (leaf z (leaf o (node j d (leaf u none)))))) s
        (beside kind.Variable (leaf z (leaf o (node j d (leaf u none)))) s) (rewritten r id s) (expression_beside z o u w r s) n m x y
        (curled_declared p marks lower low h (suc (id + count c)) (suc (jd + count (leaf z (leaf o (node j d (leaf u none)))))) (beside k c s) n m x y a)

-- ---- single changes

pub unset_casts_are_null : UnsetCastsAreNull
unset_casts_are_null claim t t' s written variable opening word shut e d = unset_cast_across claim t t' s written variable opening word shut e d

pub braces_do_the_same : BracesDoTheSame
braces_do_the_same claim plain t s quote opening variable dollar_lead dollar_text word brace_lead lead text dollar_start word_start brace_start start e x =
    let p : Curled
    (leaf (token_of token.DollarBrace dollar_lead dollar_text dollar_start) (leaf (token_of token.VarName [] word word_start) (ending brace_lead brace_start lead text start)))
    (leaf opening (node kind.Variable (leaf variable none) (ending brace_lead brace_start lead text start))) =
    name e x (record { kind_is = refl; text_is = refl }) (closing (record { kind_is = refl; text_is = refl })) in
    quoted_does claim t quote quote refl p (curled_alike claim plain t p) (curled_declared claim plain t p) s
