-- In what the walk makes of a tree, tokens that may be parts of names are as they were.
use Rattle.std.proofs.Common.{◌≡◌, ℕ, suc, ◌+◌, Bool, true, false, ◌&&◌, ◌||◌, if◌then◌else◌, cond, IsTrue, List, [], ◌∷◌, ◌++◌, codes, refl, ap, sym, ◌∙◌, subst}
use Rattle.std.specs.Str.{bytes_eq}
use Rattle.php_tree.specs.declared.token.TokenKind.TheVariants as token
use Rattle.php_tree.specs.declared.token.Token.{Token}
use Rattle.php_tree.specs.declared.kind.NodeKind.{NodeKind}
use Rattle.php_tree.specs.declared.kind.NodeKind.TheVariants as kind
use Rattle.php_tree.specs.Tree.{Forest, none, leaf, node, count}
use Rattle.tracked_changes.specs.patches.Patches.{Patches, Wrapping, InParens}
use Rattle.tracked_changes.specs.Pieces.{before, after}
use Rattle.tracked_changes.specs.Draft.{NewToken, Draft, no_more, new_leaf, new_node}
use Rattle.tracked_changes.specs.Leads.{holds_none, without_lead}
use Rattle.tracked_changes.specs.Tokens.{is_text, retexted}
use Rattle.tracked_changes.specs.Walk.{NewTree, drafted}
use Rattle.tracked_changes.specs.Parens.{in_wrappings}
use Rattle.syntax_rules.specs.declared.rules.Rules.{Rules}
use Rattle.syntax_rules.specs.BraceOffset.{bracket, brace_offset}
use Rattle.syntax_rules.specs.Casts.{bare}
use Rattle.syntax_rules.specs.RealCast.{real_cast}
use Rattle.syntax_rules.specs.UnsetCast.{of_variable, unset_cast}
use Rattle.syntax_rules.specs.DollarBrace.{dollar_brace, is_piece, begins_dollar_brace, ends_bare, before_last, escaped, opened, parts}
use Rattle.syntax_rules.specs.SplitName.{is_name, is_label, is_op, is_keyword}
use Rattle.syntax_rules.specs.Together.{rewriting, node_by, token_by}
use Rattle.syntax_rules.specs.Keeps.{
  token_of,
  opens_text,
  is_common,
  AreFormed,
  nothing,
  token_first,
  common,
  braced,
  a_cast,
  text,
  IsQuoted,
  closing,
  piece,
  simple,
  code,
  name,
  offset,
  expression,
}
use Rattle.syntax_rules.proofs.Walked.{braced_is, cast_by, cast_is, chosen, common_stays, opening_kind, quoted_is}
use Rattle.syntax_rules.proofs.NamesKept.{IsKept, as_it_was, put_in_code, IsProper, leads}

no : {A : Type 0} → IsTrue false → A
no h = cc

bare_proper : (d : Draft) → IsProper d → IsProper (without_lead d)
bare_proper no_more p = tt
bare_proper (new_leaf t d) p = (p.0, λ l h. without (p.1 l h), p.2)
  where
    without : IsKept t → IsKept (record t { lead = [] })
    without (as_it_was e) = as_it_was e
    without (put_in_code k e) = put_in_code k e
bare_proper (new_node k c d) p =
    elim (holds_none c) as (λ b. IsProper (cond b (new_node k c (without_lead d)) (new_node k (without_lead c) d)))
    [ true ↦ (p.0, bare_proper d p.1) | false ↦ (bare_proper c p.0, p.1) ]

wraps_proper : (ws : List Wrapping) (t : NewTree) → IsProper t.1 → IsProper (in_wrappings ws t).1
wraps_proper [] t p = p
wraps_proper (InParens ∷ ws) t p = (λ h. no h, λ l h. no l, (bare_proper (in_wrappings ws t).1 (wraps_proper ws t p), (λ h. no h, λ l h. no l, tt)))

bracket_name : (t : NewToken) → before t.text ≡ after t.text → IsTrue (is_name (bracket t).kind) → before (bracket t).text ≡ after (bracket t).text
bracket_name t e = by_text (is_text (codes "{") t) (is_text (codes "}") t)
  where
    by_text : (a b : Bool) → IsTrue (is_name (if a then retexted token.Op (codes "[") t else (if b then retexted token.Op (codes "]") t else t)).kind)
        → before (if a then retexted token.Op (codes "[") t else (if b then retexted token.Op (codes "]") t else t)).text
        ≡ after (if a then retexted token.Op (codes "[") t else (if b then retexted token.Op (codes "]") t else t)).text
    by_text true b h = no h
    by_text false true h = no h
    by_text false false h = e

cast_proper : (r : Rules) (x : Token) (y : NewTree) (real null : Bool) → IsProper y.1
    → IsProper (cast_by real null (kind.Cast, new_leaf (token_by r x) (new_node y.0 y.1 no_more))).1
cast_proper r x y true null p = (λ h. no h, λ l h. no l, (p, tt))
cast_proper r x y false true p = (λ h. no h, λ l h. no l, ((λ h. no h, λ l h. no l, tt), (λ h. no h, λ l h. no l, tt)))
cast_proper r x y false false p = (λ h. refl, λ l h. no l, (p, tt))

either_proper : (b : Bool) (t u : NewTree) → IsProper t.1 → IsProper u.1 → IsProper (if b then t else u).1
either_proper true t u p q = p
either_proper false t u p q = q

piece_proper : (r : Rules) (lead word : List ℕ) (start : ℕ) (d : Draft) (b : Bool) → IsProper d
    → IsProper (new_leaf (if b then escaped (token_by r (token_of token.Piece lead word start)) else token_by r (token_of token.Piece lead word start)) d)
piece_proper r lead word start d false p = (λ h. no h, λ l h. no h, p)
piece_proper r lead word start d true p =
    elim (ends_bare false (word ++ []))
    as (λ b. IsProper (new_leaf (if b then record (token_by r (token_of token.Piece lead word start))
    { text = before_last (word ++ []) } else token_by r (token_of token.Piece lead word start)) d))
    [ true ↦ (λ h. no h, λ l h. no h, p) | false ↦ (λ h. no h, λ l h. no h, p) ]

text_proper : (r : Rules) (x : Token) (d : Draft) → IsTrue (opens_text x.kind) → IsProper (parts d) → IsProper (parts (new_leaf (token_by r x) d))
text_proper r x d h p =
    subst (λ b. IsProper (if b then opened (token_by r x) (parts d) else new_leaf
    (if is_piece x.kind && begins_dollar_brace d then escaped (token_by r x) else token_by r x) (parts d)))
    (sym (opening_kind x.kind h).0)
    (subst (λ b. IsProper (new_leaf (if b && begins_dollar_brace d then escaped (token_by r x) else token_by r x) (parts d))) (sym (opening_kind x.kind h).1)
    (λ h. refl, λ l h. as_it_was refl, p))

mutual
  pub proper : (r : Rules) (p : Patches) (id : ℕ) {f : Forest} → AreFormed f → IsProper (drafted (rewriting (chosen r p)) id f)
  proper r p id nothing = tt
  proper r p id (token_first a) = (λ h. refl, λ l h. as_it_was refl, proper r p id a)
  proper r p id (common {k} {c} {f} h a b) =
      let inside : NewTree = (k, drafted (rewriting (chosen r p)) (suc id) c) in (
        wraps_proper (p id) (node_by r (k, c) inside)
            (subst (λ (t : NewTree). IsProper t.1) (sym (common_stays r k c inside h)) (proper r p (suc id) a)),
        proper r p (suc (id + count c)) b,
      )
  proper r p id (braced {k} {j} {c} {d} {f} {o} {p = q} a b e) =
      let here : Forest = node k c (leaf o (node j d (leaf q none))) in
      let inside : NewTree = (kind.BraceOffset, drafted (rewriting (chosen r p)) (suc id) here) in
      let base = (proper r p (suc id) a).0 in
      let offset = (proper r p (suc (suc id + count c)) b).0 in (
        wraps_proper (p id) (node_by r (kind.BraceOffset, here) inside)
            (subst (λ (t : NewTree). IsProper t.1) (sym (braced_is r (brace_offset inside) _ _ _ inside))
            (either_proper r.brace_offsets (brace_offset inside) inside
            (base, (bracket_name (token_by r o) refl, λ l h. no l, (offset, (bracket_name (token_by r q) refl, λ l h. no l, tt))))
            (base, (λ h. refl, λ l h. no l, (offset, (λ h. refl, λ l h. no l, tt)))))),
        proper r p (suc (id + count here)) e,
      )
  proper r p id (a_cast {t = x} {k} {c} {f} a b) =
      let y : NewTree = in_wrappings (p (suc id)) (node_by r (k, c) (k, drafted (rewriting (chosen r p)) (suc (suc id)) c)) in
      let here : Forest = leaf x (node k c none) in
      let inside : NewTree = (kind.Cast, new_leaf (token_by r x) (new_node y.0 y.1 no_more)) in
      let real : Bool = r.real_casts && bytes_eq (bare x.text) (codes "(real)") in
      let null : Bool = r.unset_casts && (bytes_eq (bare x.text) (codes "(unset)") && of_variable here) in (
        wraps_proper (p id) (node_by r (kind.Cast, here) inside)
            (subst (λ (t : NewTree). IsProper t.1) (sym (cast_is r real null _ _ inside))
            (cast_proper r x y real null (proper r p (suc id) a).0)),
        proper r p (suc (id + count here)) b,
      )
  proper r p id (text {t = x} {c} {f} h q b) =
      let here : Forest = leaf x c in
      let d : Draft = drafted (rewriting (chosen r p)) (suc id) c in
      let inside : NewTree = (kind.Quoted, new_leaf (token_by r x) d) in (
        wraps_proper (p id) (node_by r (kind.Quoted, here) inside)
            (subst (λ (t : NewTree). IsProper t.1) (sym (quoted_is r _ _ _ (dollar_brace inside) inside))
            (either_proper r.dollar_braces (dollar_brace inside) inside
            (text_proper r x d h (quoted_proper r p (suc id) q))
            (λ h. refl, λ l h. as_it_was refl, text_as_is r p (suc id) q))),
        proper r p (suc (id + count here)) b,
      )

  -- a quoted text where `${` stays
  text_as_is : (r : Rules) (p : Patches) (id : ℕ) {f : Forest} → IsQuoted f → IsProper (drafted (rewriting (chosen r p)) id f)
  text_as_is r p id closing = (λ h. refl, λ l h. as_it_was refl, tt)
  text_as_is r p id (piece q) = (λ h. refl, λ l h. as_it_was refl, text_as_is r p id q)
  text_as_is r p id (simple {k} {c} {f} a q) = ((proper r p id a).0, text_as_is r p (suc (id + count c)) q)
  text_as_is r p id (code {k = k} {c = c} a q) =
      (λ h. refl, λ l h. as_it_was refl, ((proper r p id a).0, (λ h. refl, λ l h. as_it_was refl, text_as_is r p (suc (id + count c)) q)))
  text_as_is r p id (name q) =
      (λ h. refl, λ l h. as_it_was refl, (λ h. refl, λ l h. as_it_was refl, (λ h. refl, λ l h. as_it_was refl, text_as_is r p id q)))
  text_as_is r p id (offset {k = k} {c = c} e a q) = (
    λ h. refl,
    λ l h. as_it_was refl,
    (
      λ h. refl,
      λ l h. as_it_was refl,
      (
        λ h. refl,
        λ l h. as_it_was refl,
        ((proper r p id a).0, (λ h. refl, λ l h. as_it_was refl, (λ h. refl, λ l h. as_it_was refl, text_as_is r p (suc (id + count c)) q))),
      ),
    ),
  )
  text_as_is r p id (expression {k = k} {c = c} e a q) =
      (λ h. refl, λ l h. as_it_was refl, ((proper r p id a).0, (λ h. refl, λ l h. as_it_was refl, text_as_is r p (suc (id + count c)) q)))

  quoted_proper : (r : Rules) (p : Patches) (id : ℕ) {f : Forest} → IsQuoted f → IsProper (parts (drafted (rewriting (chosen r p)) id f))
  quoted_proper r p id closing = (λ h. no h, λ l h. no h, tt)
  quoted_proper r p id (piece {lead} {text = word} {start} {f} q) =
      piece_proper r lead word start (parts (drafted (rewriting (chosen r p)) id f)) (begins_dollar_brace (drafted (rewriting (chosen r p)) id f)) (quoted_proper r p id q)
  quoted_proper r p id (simple {k} {c} {f} a q) = ((proper r p id a).0, quoted_proper r p (suc (id + count c)) q)
  quoted_proper r p id (code {k = k} {c = c} a q) =
      (λ h. no h, λ l h. no h, ((proper r p id a).0, (λ h. no h, λ l h. as_it_was refl, quoted_proper r p (suc (id + count c)) q)))
  quoted_proper r p id (name q) =
      (λ h. no h, λ l h. no h, ((λ h. no h, λ l h. no l, tt), (λ h. no h, λ l h. as_it_was refl, quoted_proper r p id q)))
  quoted_proper r p id (offset {k = k} {c = c} e a q) = (
    λ h. no h,
    λ l h. no h,
    (
      ((λ h. no h, λ l h. no l, tt), (λ h. no h, λ l h. no l, ((proper r p id a).0, (λ h. no h, λ l h. no l, tt)))),
      (λ h. no h, λ l h. as_it_was refl, quoted_proper r p (suc (id + count c)) q),
    ),
  )
  quoted_proper r p id (expression {k = k} {c = c} e a q) = (
    λ h. no h,
    λ l h. no h,
    (
      (λ h. no h, λ l h. put_in_code refl refl, (λ h. no h, λ l h. no l, ((proper r p id a).0, (λ h. no h, λ l h. no l, tt)))),
      (λ h. no h, λ l h. put_in_code refl refl, quoted_proper r p (suc (id + count c)) q),
    ),
  )
