-- In each file's draft a token has trivia exactly where it had some before.
use Rattle.std.proofs.Common.{◌≡◌, ℕ, suc, ◌+◌, Bool, true, false, cond, ◌&&◌, List, [], ◌∷◌, ◌++◌, codes, refl}
use Rattle.php_tree.specs.declared.kind.NodeKind.{NodeKind}
use Rattle.php_tree.specs.Tree.{Forest, none, leaf, node, Tree, count}
use Rattle.tracked_changes.specs.patches.Patches.{Patches, Wrapping, InParens}
use Rattle.tracked_changes.specs.Pieces.{Piece, before, after}
use Rattle.tracked_changes.specs.Draft.{NewToken, Draft, no_more, new_leaf, new_node}
use Rattle.tracked_changes.specs.Leads.{holds_none, first_lead, without_lead}
use Rattle.tracked_changes.specs.Parens.{in_wrappings}
use Rattle.tracked_changes.specs.Tokens.{is_text}
use Rattle.tracked_changes.specs.Walk.{NewTree, drafted}
use Rattle.syntax_rules.specs.HashComment.{outside, spaced}
use Rattle.syntax_rules.specs.SplitName.{is_nothing}
use Rattle.syntax_rules.specs.BraceOffset.{is_brace_offset, bracket, bracketed, brace_offset}
use Rattle.syntax_rules.specs.RealCast.{is_real_cast, float_first, real_cast}
use Rattle.syntax_rules.specs.UnsetCast.{is_edited, unset_cast}
use Rattle.syntax_rules.specs.DollarBrace.{is_dollar_brace, plain, with_offset, with_node, opened, ends_bare, escaped, is_piece, begins_dollar_brace, parts, dollar_brace}
use Rattle.syntax_rules.specs.Together.{is_quoted, every_rule, node_by, rewriting, all_on}
use Rattle.syntax_rules.specs.Rewritten.{patches}
use Rattle.written_tokens.specs.tokens.Written.{draft_tokens}
use Rattle.written_tokens.specs.names.NamesPut.{LeadsStay, LeadsOfFilesStay}

abbrev GoodLead : List Piece → Type 0
GoodLead l = is_nothing (after l) ≡ is_nothing (before l)

abbrev Good : NewToken → Type 0
Good t = GoodLead t.lead

abbrev AllGood : Draft → Type 0
AllGood no_more = Unit {0}
AllGood (new_leaf t d) = Good t × AllGood d
AllGood (new_node k c d) = AllGood c × AllGood d

leads_join : (ts us : List NewToken) → LeadsStay ts → LeadsStay us → LeadsStay (ts ++ us)
leads_join [] us g h = h
leads_join (t ∷ ts) us g h = (g.0, leads_join ts us g.1 h)

leads_of : (d : Draft) → AllGood d → LeadsStay (draft_tokens d)
leads_of no_more h = tt
leads_of (new_leaf t d) h = (h.0, leads_of d h.1)
leads_of (new_node k c d) h = leads_join (draft_tokens c) (draft_tokens d) (leads_of c h.0) (leads_of d h.1)

-- ---- parentheses

pick_lead : (b : Bool) (l m : List Piece) → GoodLead l → GoodLead m → GoodLead (cond b l m)
pick_lead true l m g h = g
pick_lead false l m g h = h

first_good : (d : Draft) → AllGood d → GoodLead (first_lead d)
first_good no_more h = refl
first_good (new_leaf t d) h = h.0
first_good (new_node k c d) h = pick_lead (holds_none c) (first_lead d) (first_lead c) (first_good d h.1) (first_good c h.0)

pick : (b : Bool) (c d : Draft) → AllGood c → AllGood d → AllGood (cond b c d)
pick true c d g h = g
pick false c d g h = h

without_good : (d : Draft) → AllGood d → AllGood (without_lead d)
without_good no_more h = tt
without_good (new_leaf t d) h = (refl, h.1)
without_good (new_node k c d) h = pick (holds_none c) (new_node k c (without_lead d)) (new_node k (without_lead c) d) (h.0, without_good d h.1) (without_good c h.0, h.1)

wrapped_good : (ws : List Wrapping) (t : NewTree) → AllGood t.1 → AllGood (in_wrappings ws t).1
wrapped_good [] t h = h
wrapped_good (InParens ∷ ws) t h =
    let inner = wrapped_good ws t h in
    (first_good (in_wrappings ws t).1 inner, (without_good (in_wrappings ws t).1 inner, (refl, tt)))

-- ---- offsets and casts

bracket_by : (t : NewToken) (a b : Bool) → is_text (codes "{") t ≡ a → is_text (codes "}") t ≡ b → Good t → Good (bracket t)
bracket_by t true b e g h = rw e h
bracket_by t false true e g h = rw (e, g) h
bracket_by t false false e g h = rw (e, g) h

bracketed_good : (d : Draft) → AllGood d → AllGood (bracketed d)
bracketed_good no_more h = tt
bracketed_good (new_leaf t d) h = (bracket_by t (is_text (codes "{") t) (is_text (codes "}") t) refl refl h.0, bracketed_good d h.1)
bracketed_good (new_node k c d) h = (h.0, bracketed_good d h.1)

float_good : (d : Draft) → AllGood d → AllGood (float_first d)
float_good no_more h = tt
float_good (new_leaf t d) h = h
float_good (new_node k c d) h = h

-- ---- `${`

escaped_by : (t : NewToken) (b : Bool) → ends_bare false (before t.text) ≡ b → Good t → Good (escaped t)
escaped_by t true e h = rw e h
escaped_by t false e h = rw e h

piece_by : (t : NewToken) (b : Bool) → Good t → Good (cond b (escaped t) t)
piece_by t true h = escaped_by t (ends_bare false (before t.text)) refl h
piece_by t false h = h

plain_good : (t name : NewToken) (d : Draft) → Good t → AllGood d → AllGood (plain t name d)
plain_good t name d g h = (g, ((refl, tt), h))

offset_good : (t name mark : NewToken) (d : Draft) → Good t → Good mark → AllGood d → AllGood (with_offset t name mark d)
offset_good t name mark no_more g m h = plain_good t name (new_leaf mark no_more) g (m, h)
offset_good t name mark (new_leaf u d) g m h = plain_good t name (new_leaf mark (new_leaf u d)) g (m, h)
offset_good t name mark (new_node k e no_more) g m h = plain_good t name (new_leaf mark (new_node k e no_more)) g (m, h)
offset_good t name mark (new_node k e (new_node j c d)) g m h = plain_good t name (new_leaf mark (new_node k e (new_node j c d))) g (m, h)
offset_good t name mark (new_node k e (new_leaf shut d)) g m h = (g, (((refl, tt), (m, (h.0, (h.1.0, tt)))), h.1.1))

node_good : (t : NewToken) (k : NodeKind) (e d : Draft) → Good t → AllGood e → AllGood d → AllGood (with_node t k e d)
node_good t k e no_more g i h = (g, (i, h))
node_good t k e (new_node j c d) g i h = (g, (i, h))
node_good t k e (new_leaf close d) g i h = (g, ((refl, (refl, (i, (h.0, tt)))), (refl, h.1)))

opened_good : (t : NewToken) (d : Draft) → Good t → AllGood d → AllGood (opened t d)
opened_good t no_more g h = (g, h)
opened_good t (new_leaf name no_more) g h = (g, h)
opened_good t (new_leaf name (new_node k c d)) g h = (g, h)
opened_good t (new_leaf name (new_leaf mark d)) g h = pick (is_text (codes "[") mark) (with_offset t name mark d)
    (plain t name (new_leaf mark d)) (offset_good t name mark d g h.1.0 h.1.1)
    (plain_good t name (new_leaf mark d) g h.1)
opened_good t (new_node k e d) g h = node_good t k e d g h.0 h.1

parts_good : (d : Draft) → AllGood d → AllGood (parts d)
parts_good no_more h = tt
parts_good (new_leaf t d) h =
    pick (is_dollar_brace t.kind) (opened t (parts d)) (new_leaf (cond (is_piece t.kind && begins_dollar_brace d) (escaped t) t) (parts d))
    (opened_good t (parts d) h.0 (parts_good d h.1)) (piece_by t (is_piece t.kind && begins_dollar_brace d) h.0, parts_good d h.1)
parts_good (new_node k c d) h = (h.0, parts_good d h.1)

-- ---- trees

spaced_good : (l : List ℕ) → GoodLead (spaced outside l)
spaced_good [] = refl
spaced_good (b ∷ l) = refl

pick_tree : (b : Bool) (t u : NewTree) → AllGood t.1 → AllGood u.1 → AllGood (cond b t u).1
pick_tree true t u g h = g
pick_tree false t u g h = h

unset_good : (t : NewTree) → AllGood t.1 → AllGood (unset_cast t).1
unset_good t h = (first_good t.1 h, ((refl, tt), (refl, tt)))

node_at : (wraps : Patches) (s : Tree) (t : NewTree) → AllGood t.1 → AllGood (node_by every_rule s t).1
node_at wraps s t h =
    pick_tree (is_brace_offset s.0) (brace_offset t) (cond (is_real_cast s) (real_cast t) (cond (is_edited s) (unset_cast t) (cond (is_quoted s.0) (dollar_brace t) t)))
    (bracketed_good t.1 h)
    (pick_tree (is_real_cast s) (real_cast t) (cond (is_edited s) (unset_cast t) (cond (is_quoted s.0) (dollar_brace t) t))
    (float_good t.1 h)
    (pick_tree (is_edited s) (unset_cast t) (cond (is_quoted s.0) (dollar_brace t) t)
    (unset_good t h)
    (pick_tree (is_quoted s.0) (dollar_brace t) t (parts_good t.1 h) h)))

drafted_good : (wraps : Patches) (id : ℕ) (f : Forest) → AllGood (drafted (rewriting (all_on wraps)) id f)
drafted_good wraps id none = tt
drafted_good wraps id (leaf t f) = (spaced_good t.lead, drafted_good wraps id f)
drafted_good wraps id (node k c f) = (
  wrapped_good (wraps id) (node_by every_rule (k, c) (k, drafted (rewriting (all_on wraps)) (suc id) c))
      (node_at wraps (k, c) (k, drafted (rewriting (all_on wraps)) (suc id) c) (drafted_good wraps (suc id) c)),
  drafted_good wraps (suc (id + count c)) f,
)

pub leads_of_files_stay : LeadsOfFilesStay
leads_of_files_stay f = leads_of (drafted (rewriting (all_on (patches f.statements))) 0 f.statements) (drafted_good (patches f.statements) 0 f.statements)
