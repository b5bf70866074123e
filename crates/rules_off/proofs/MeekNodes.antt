-- What node rules write has no more names behind keywords than the node had.
use Rattle.std.proofs.Common.{◌≡◌, ℕ, Bool, true, false, ◌&&◌, if◌then◌else◌, List, [], ◌∷◌, ◌++◌, refl, ap, sym, ◌∙◌, codes}
use Rattle.std.proofs.lemmas.Bool.{false≢true}
use Rattle.php_tree.specs.declared.token.TokenKind.{TokenKind}
use Rattle.php_tree.specs.declared.token.TokenKind.TheVariants as token
use Rattle.php_tree.specs.declared.kind.NodeKind.{NodeKind}
use Rattle.php_tree.specs.Tree.{Tree}
use Rattle.tracked_changes.specs.Pieces.{before}
use Rattle.tracked_changes.specs.Draft.{NewToken, Draft, no_more, new_leaf, new_node}
use Rattle.tracked_changes.specs.Tokens.{is_text, retexted, put_also}
use Rattle.tracked_changes.specs.Walk.{NewTree}
use Rattle.tracked_changes.proofs.Joining.{before-append}
use Rattle.syntax_rules.specs.declared.rules.Rules.{Rules}
use Rattle.syntax_rules.specs.BraceOffset.{bracket, bracketed, brace_offset, is_brace_offset}
use Rattle.syntax_rules.specs.DollarBrace.{begins_dollar_brace, before_last, curly, dollar_brace, dollar_name, ends_bare, escaped, is_dollar_brace, is_piece, opened, parts, plain, with_node, with_offset}
use Rattle.syntax_rules.specs.RealCast.{float_first, is_real_cast, real_cast}
use Rattle.syntax_rules.specs.SplitName.{is_keyword, is_name, is_nothing, keyword_behind, keyword_last}
use Rattle.syntax_rules.specs.Together.{is_quoted, node_by}
use Rattle.syntax_rules.specs.UnsetCast.{is_edited, unset_cast}
use Rattle.rules_off.proofs.Spaces.{Meek, Meeker, Under, last_under, meek_by, meek_if, meek_retexted, meek_same, meeker_leaf, meeker_node, meeker_same, no_space, spaceless_under}

-- ---- an offset in braces

bracket_meek : (t : NewToken) → Meek t (bracket t)
bracket_meek t =
    meek_if (is_text (codes "{") t) t (retexted token.Op (codes "[") t) (if is_text (codes "}") t then retexted token.Op (codes "]") t else t)
    (meek_retexted token.Op (codes "[") t (refl, refl))
    (meek_if (is_text (codes "}") t) t (retexted token.Op (codes "]") t) t (meek_retexted token.Op (codes "]") t (refl, refl)) (meek_same t))

bracketed_meek : (d : Draft) → Meeker d (bracketed d)
bracketed_meek no_more = meeker_same no_more
bracketed_meek (new_leaf t d) = meeker_leaf t (bracket t) d (bracketed d) (bracket_meek t) (bracketed_meek d)
bracketed_meek (new_node k c d) = meeker_node k k c c d (bracketed d) (meeker_same c) (bracketed_meek d)

-- ---- a cast `(real)`

float_meek : (d : Draft) → Meeker d (float_first d)
float_meek no_more = meeker_same no_more
float_meek (new_leaf t d) =
    meeker_leaf t (retexted token.Cast (codes "(float)") t) d d (meek_retexted token.Cast (codes "(float)") t (refl, refl)) (meeker_same d)
float_meek (new_node k c d) = meeker_same (new_node k c d)

-- ---- a quoted text

curly_meek : (t : NewToken) → Meek t (curly t)
curly_meek t = meek_retexted token.CurlyOpen (codes "{") t (refl, refl)

nothing_both : (xs ys : List ℕ) → is_nothing (xs ++ ys) ≡ (is_nothing xs && is_nothing ys)
nothing_both [] ys = refl
nothing_both (x ∷ xs) ys = refl

-- the trivia of a name belong to the text of its variable
name_behind : (a b l t k : Bool) → Under a b → Under (if l && t then a && true else false) (if t then b && l else k)
name_behind a b false t k u e = absurd (false≢true e)
name_behind a b true false k u e = absurd (false≢true e)
name_behind false b true true k u e = absurd (false≢true e)
name_behind true b true true k u e = rw (u refl) refl

name_meek : (t : NewToken) → Meek t (dollar_name t)
name_meek t a b u h =
    let both : is_nothing (before (t.lead ++ t.text)) ≡ (is_nothing (before t.lead) && is_nothing (before t.text)) =
    ap is_nothing (before-append t.lead t.text) ∙ nothing_both (before t.lead) (before t.text) in
    (no_space a (dollar_name t) refl, rw both (name_behind a b (is_nothing (before t.lead)) (is_nothing (before t.text)) (is_keyword t.kind) u))

-- tokens that are put in by an edit just before
put_behind : (a : Bool) (text : List ℕ) → Under (keyword_behind a (put_also token.Op text)) a
put_behind false text e = e
put_behind true text e = e

before_last_nothing : (bs : List ℕ) → is_nothing (before (before_last bs)) ≡ is_nothing bs
before_last_nothing [] = refl
before_last_nothing (b ∷ []) = refl
before_last_nothing (b ∷ c ∷ bs) = refl

escaped_meek : (t : NewToken) → is_piece t.kind ≡ true → Meek t (escaped t)
escaped_meek t h =
    meek_if (ends_bare false (before t.text)) t (record t { text = before_last (before t.text) }) t
    (meek_by t (record t { text = before_last (before t.text) }) (piece_wordless t.kind h) (before_last_nothing (before t.text)) refl)
    (meek_same t)
  where
    piece_wordless : (k : TokenKind) → is_piece k ≡ true → (is_name k ≡ false) × (is_keyword k ≡ false)
    piece_wordless token.Piece h = (refl, refl)
    piece_wordless k h = absurd cc

-- `${` and a name
plain_meek : (t name : NewToken) (d : Draft) → Meeker (new_leaf t (new_leaf name d)) (plain t name d)
plain_meek t name d a b u h =
    let m = curly_meek t a b u h.0 in
    let n = name_meek name (keyword_behind a (curly t)) (keyword_behind b t) m.1 h.1.0 in
    let x : Bool = keyword_behind (keyword_behind a (curly t)) (dollar_name name) in
    let y : Bool = keyword_behind (keyword_behind b t) name in
    ((m.0, ((n.0, tt), spaceless_under x y d n.1 h.1.1)), last_under x y d n.1)

offset_meek : (t name mark : NewToken) (d : Draft) → Meeker (new_leaf t (new_leaf name (new_leaf mark d))) (with_offset t name mark d)
offset_meek t name mark (new_node k e (new_leaf shut d)) a b u h =
    let m = curly_meek t a b u h.0 in
    let n = name_meek name (keyword_behind a (curly t)) (keyword_behind b t) m.1 h.1.0 in
    let x : Bool = keyword_behind (keyword_behind a (curly t)) (dollar_name name) in
    let y : Bool = keyword_behind (keyword_behind b t) name in
    let o = meek_same mark x y n.1 h.1.1.0 in
    let p = meeker_same e (keyword_behind x mark) (keyword_behind y mark) o.1 h.1.1.1.0 in
    let xe : Bool = keyword_last (keyword_behind x mark) e in
    let ye : Bool = keyword_last (keyword_behind y mark) e in
    let q = meek_same shut xe ye p.1 h.1.1.1.1.0 in
    let r = meeker_same d (keyword_behind xe shut) (keyword_behind ye shut) q.1 h.1.1.1.1.1 in
    ((m.0, (((n.0, tt), (o.0, (p.0, (q.0, tt)))), r.0)), r.1)
offset_meek t name mark no_more a b u h = plain_meek t name (new_leaf mark no_more) a b u h
offset_meek t name mark (new_leaf v d) a b u h = plain_meek t name (new_leaf mark (new_leaf v d)) a b u h
offset_meek t name mark (new_node k e no_more) a b u h = plain_meek t name (new_leaf mark (new_node k e no_more)) a b u h
offset_meek t name mark (new_node k e (new_node j g d)) a b u h = plain_meek t name (new_leaf mark (new_node k e (new_node j g d))) a b u h

node_meek : (t : NewToken) (k : NodeKind) (e d : Draft) → Meeker (new_leaf t (new_node k e d)) (with_node t k e d)
node_meek t k e (new_leaf close d) a b u h =
    let m = curly_meek t a b u h.0 in
    let x : Bool = keyword_behind a (curly t) in
    let dollar : Bool = keyword_behind x (put_also token.Op (codes "$")) in
    let brace : Bool = keyword_behind dollar (put_also token.Op (codes "{")) in
    let under : Under brace (keyword_behind b t) = λ z. m.1 (put_behind x (codes "$") (put_behind dollar (codes "{") z)) in
    let p = meeker_same e brace (keyword_behind b t) under h.1.0 in
    let shut : NewToken = retexted token.Op (codes "}") close in
    let q = meek_retexted token.Op (codes "}") close (refl, refl) (keyword_last brace e) (keyword_last (keyword_behind b t) e) p.1 h.1.1.0 in
    let y : Bool = keyword_behind (keyword_last brace e) shut in
    let z : Bool = keyword_behind (keyword_last (keyword_behind b t) e) close in
    let last : Bool = keyword_behind y (put_also token.Op (codes "}")) in
    let r = meeker_same d last z (λ w. q.1 (put_behind y (codes "}") w)) h.1.1.1 in (
      (
        m.0,
        (
          (no_space x (put_also token.Op (codes "$")) refl, (no_space dollar (put_also token.Op (codes "{")) refl, (p.0, (q.0, tt)))),
          (no_space y (put_also token.Op (codes "}")) refl, r.0),
        ),
      ),
      r.1,
    )
node_meek t k e no_more a b u h = meeker_same (new_leaf t (new_node k e no_more)) a b u h
node_meek t k e (new_node j g d) a b u h = meeker_same (new_leaf t (new_node k e (new_node j g d))) a b u h

opened_if : (x : Bool) (t name mark : NewToken) (d : Draft)
    → Meeker (new_leaf t (new_leaf name (new_leaf mark d))) (if x then with_offset t name mark d else plain t name (new_leaf mark d))
opened_if true t name mark d = offset_meek t name mark d
opened_if false t name mark d = plain_meek t name (new_leaf mark d)

opened_meek : (t : NewToken) (d : Draft) → Meeker (new_leaf t d) (opened t d)
opened_meek t no_more = meeker_same (new_leaf t no_more)
opened_meek t (new_leaf name no_more) = meeker_same (new_leaf t (new_leaf name no_more))
opened_meek t (new_leaf name (new_leaf mark d)) = opened_if (is_text (codes "[") mark) t name mark d
opened_meek t (new_leaf name (new_node k e d)) = meeker_same (new_leaf t (new_leaf name (new_node k e d)))
opened_meek t (new_node k e d) = node_meek t k e d

escaped_if : (x y : Bool) (t : NewToken) → is_piece t.kind ≡ x → Meek t (if x && y then escaped t else t)
escaped_if true true t h = escaped_meek t h
escaped_if true false t h = meek_same t
escaped_if false y t h = meek_same t

part_if : (x y : Bool) (t : NewToken) (d : Draft) → Meeker (new_leaf t d) (if x then opened t d else new_leaf (if is_piece t.kind && y then escaped t else t) d)
part_if true y t d = opened_meek t d
part_if false y t d = meeker_leaf t (if is_piece t.kind && y then escaped t else t) d d (escaped_if (is_piece t.kind) y t refl) (meeker_same d)

parts_meek : (d : Draft) → Meeker d (parts d)
parts_meek no_more a b u h = meeker_same no_more a b u h
parts_meek (new_leaf t d) a b u h =
    let whole : Meeker (new_leaf t d) (new_leaf t (parts d)) = meeker_leaf t t d (parts d) (meek_same t) (parts_meek d) in
    let m = whole a b u h in
    let n = part_if (is_dollar_brace t.kind) (begins_dollar_brace d) t (parts d) a a (λ x. x) m.0 in
    (n.0, λ x. m.1 (n.1 x))
parts_meek (new_node k c d) a b u h = meeker_node k k c c d (parts d) (meeker_same c) (parts_meek d) a b u h

-- ---- a node

meeker_if : (x : Bool) (d e g : Draft) → (x ≡ true → Meeker d e) → (x ≡ false → Meeker d g) → Meeker d (if x then e else g)
meeker_if true d e g p q = p refl
meeker_if false d e g p q = q refl

tree_if : (x : Bool) (d : Draft) (e g : NewTree) → (x ≡ true → Meeker d e.1) → Meeker d g.1 → Meeker d (if x then e else g).1
tree_if true d e g p q = p refl
tree_if false d e g p q = q

-- a node that is no cast `(unset)` that is edited
pub changed_meek : (r : Rules) (s : Tree) (t : NewTree) → (r.unset_casts && is_edited s) ≡ false → Meeker t.1 (node_by r s t).1
changed_meek r s t n =
    tree_if (r.brace_offsets && is_brace_offset s.0) t.1 (brace_offset t) _ (λ h. bracketed_meek t.1)
    (tree_if (r.real_casts && is_real_cast s) t.1 (real_cast t) _ (λ h. float_meek t.1)
    (tree_if (r.unset_casts && is_edited s) t.1 (unset_cast t) _ (λ h. absurd (false≢true (sym n ∙ h)))
    (tree_if (r.dollar_braces && is_quoted s.0) t.1 (dollar_brace t) t (λ h. parts_meek t.1) (meeker_same t.1))))
