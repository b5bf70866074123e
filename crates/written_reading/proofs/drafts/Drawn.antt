-- What the rules make of parts keeps each token's part in names, and lets at least as much come behind.
use Rattle.std.proofs.Common.{◌≡◌, ℕ, Bool, true, false, not, cond, ◌&&◌, ◌||◌, if◌then◌else◌, codes, List, [], ◌∷◌, ◌++◌, refl, sym, ap, ◌∙◌, append-nil}
use Rattle.std.specs.Str.{bytes_eq, str_to_ascii_lowercase}
use Rattle.php_tree.specs.declared.kind.NodeKind.{NodeKind}
use Rattle.php_tree.specs.declared.token.Token.{Token}
use Rattle.php_tree.specs.declared.token.TokenKind.{TokenKind}
use Rattle.php_tree.specs.declared.token.TokenKind.TheVariants as kind
use Rattle.php_tree.specs.Tree.{Forest, none, leaf, node, ◌+++◌}
use Rattle.php_spellings.specs.Bytes.{begins, begins_by, is_empty, is_letter}
use Rattle.tracked_changes.specs.patches.Patches.{Wrapping, InParens}
use Rattle.tracked_changes.specs.Pieces.{before, after}
use Rattle.tracked_changes.specs.Draft.{NewToken, Draft, no_more, new_leaf, new_node, ◌then◌}
use Rattle.tracked_changes.specs.Leads.{holds_none, without_lead}
use Rattle.tracked_changes.specs.Parens.{in_parens, in_wrappings}
use Rattle.tracked_changes.specs.Tokens.{put_also, put_in, retexted}
use Rattle.tracked_changes.specs.Walk.{NewTree}
use Rattle.syntax_rules.specs.DollarBrace.{before_last, curly, dollar_name}
use Rattle.syntax_rules.specs.HashComment.{hash_comment, outside, spaced}
use Rattle.syntax_rules.specs.SplitName as names
use Rattle.syntax_rules.specs.UnsetCast.{opening}
use Rattle.written_tokens.specs.tokens.Parted.{SamePart}
use Rattle.written_tokens.specs.tokens.Whole.{is_keyword_kind, is_op_kind}
use Rattle.rewritten_shapes.specs.paired.Names.{Part, State, blank, calm, edge, failed, mark, other, part_by, root, run, step}
use Rattle.rewritten_shapes.specs.paired.Tokens.{IsMark}
use Rattle.rewritten_shapes.proofs.paired.NameTokens.{part_of}
use Rattle.rewritten_shapes.proofs.paired.Asked.{by_either, no_clash}
use Rattle.rewritten_shapes.proofs.paired.States.{all_are, all_states, implied}
use Rattle.written_reading.specs.drafts.Drafts.{new_part, run_draft}
use Rattle.written_reading.proofs.drafts.Order.{below_failed, by_below, edge_below, edge_twice, is_below, run_failed, step_below}

-- ---- tokens

-- A token is for names what it was in the source.
pub record Kept (t : NewToken) : Type 0 where
  pub same : SamePart t
  pub text : is_empty (before t.text) ≡ false → is_empty (after t.text) ≡ false
  -- an operator begins with a letter only if it did
  pub sign : names.is_op t.kind ≡ true → begins is_letter (after t.text) ≡ begins is_letter (before t.text)
  -- the trivia before a `\` are there once they were
  pub lead : names.is_backslash t ≡ true → is_empty (before t.lead) ≡ false → is_empty (after t.lead) ≡ false

op_is : (sort : TokenKind) → names.is_op sort ≡ is_op_kind sort
op_is kind.Op = refl
op_is _ = refl

word_is : (sort : TokenKind) (b : Bool) → (names.is_keyword sort && b) ≡ (if is_keyword_kind sort then b else false)
word_is kind.Keyword b = refl
word_is _ b = refl

root_is : (xs : List ℕ) → names.begins_root xs ≡ begins_by 92 xs
root_is [] = refl
root_is (x ∷ xs) = refl

some_lead : (bs : List ℕ) → is_empty (before (spaced outside bs)) ≡ false → is_empty (after (spaced outside bs)) ≡ false
some_lead [] e = e
some_lead (b ∷ bs) e = refl

pub kept_hash : (x : Token) → Kept (hash_comment x)
kept_hash x = record {
  same = record {
    backslash = ap (λ (b : Bool). b && bytes_eq (x.text ++ []) (codes "\\")) (op_is x.kind);
    word = word_is x.kind (bytes_eq (str_to_ascii_lowercase (x.text ++ [])) (codes "namespace"));
    front = λ h. root_is (x.text ++ []);
  };
  text = λ h. h;
  sign = λ h. refl;
  lead = λ h e. some_lead x.lead e;
}

pub part_hash : (x : Token) → new_part (hash_comment x) ≡ part_of x
part_hash x = ap (part_by x.kind) (append-nil x.text)

pub kept_float : (t : NewToken) → Kept (retexted kind.Cast (codes "(float)") t)
kept_float t = record { same = record { backslash = refl; word = refl; front = λ h. absurd cc }; text = λ h. refl; sign = λ h. absurd cc; lead = λ h e. absurd cc }

pub kept_curly : (t : NewToken) → Kept (curly t)
kept_curly t = record { same = record { backslash = refl; word = refl; front = λ h. absurd cc }; text = λ h. refl; sign = λ h. absurd cc; lead = λ h e. absurd cc }

pub kept_name : (t : NewToken) → Kept (dollar_name t)
kept_name t = record { same = record { backslash = refl; word = refl; front = λ h. absurd cc }; text = λ h. refl; sign = λ h. absurd cc; lead = λ h e. absurd cc }

kept_open : (lead : List _) → Kept (put_in lead (codes "("))
kept_open lead = record { same = record { backslash = refl; word = refl; front = λ h. refl }; text = λ h. absurd cc; sign = λ h. refl; lead = λ h e. absurd cc }

kept_shut : Kept (put_in [] (codes ")"))
kept_shut = record { same = record { backslash = refl; word = refl; front = λ h. refl }; text = λ h. absurd cc; sign = λ h. refl; lead = λ h e. absurd cc }

pub kept_also : Kept (put_also kind.Op (codes ")"))
kept_also = record { same = record { backslash = refl; word = refl; front = λ h. refl }; text = λ h. absurd cc; sign = λ h. refl; lead = λ h e. absurd cc }

pub kept_dollar : Kept (put_also kind.Op (codes "$"))
kept_dollar = record { same = record { backslash = refl; word = refl; front = λ h. refl }; text = λ h. absurd cc; sign = λ h. refl; lead = λ h e. absurd cc }

pub kept_brace : Kept (put_also kind.Op (codes "{"))
kept_brace = record { same = record { backslash = refl; word = refl; front = λ h. refl }; text = λ h. absurd cc; sign = λ h. refl; lead = λ h e. absurd cc }

pub kept_close : Kept (put_also kind.Op (codes "}"))
kept_close = record { same = record { backslash = refl; word = refl; front = λ h. refl }; text = λ h. absurd cc; sign = λ h. refl; lead = λ h e. absurd cc }

pub kept_null : Kept (put_also kind.Label (codes "null"))
kept_null = record { same = record { backslash = refl; word = refl; front = λ h. refl }; text = λ h. absurd cc; sign = λ h. absurd cc; lead = λ h e. absurd cc }

-- tokens by their kinds, and by their texts
abbrev pub of_kind : TokenKind → Token → Token
of_kind sort x = record x { kind = sort }

abbrev pub of_text : ℕ → Token → Token
of_text b x = record x { kind = kind.Op; text = b ∷ [] }

pub kind_is : (sort : TokenKind) (x : Token) → x.kind ≡ sort → x ≡ of_kind sort x
kind_is sort x e = ap (λ (z : TokenKind). of_kind z x) e

pub text_is : (b : ℕ) (x : Token) → IsMark b x → x ≡ of_text b x
text_is b x m = kind_is kind.Op x m.kind ∙ ap (λ (z : List ℕ). record x { kind = kind.Op; text = z }) m.text

-- a brace that becomes a bracket
pub kept_square : (x : Token) → Kept (retexted kind.Op (codes "[") (hash_comment (of_text 123 x)))
kept_square x = record { same = record { backslash = refl; word = refl; front = λ h. refl }; text = λ h. refl; sign = λ h. refl; lead = λ h e. absurd cc }

pub kept_squared : (x : Token) → Kept (retexted kind.Op (codes "]") (hash_comment (of_text 125 x)))
kept_squared x = record { same = record { backslash = refl; word = refl; front = λ h. refl }; text = λ h. refl; sign = λ h. refl; lead = λ h e. absurd cc }

pub kept_closing : (x : Token) → Kept (retexted kind.Op (codes "}") (hash_comment (of_text 125 x)))
kept_closing x = record { same = record { backslash = refl; word = refl; front = λ h. refl }; text = λ h. refl; sign = λ h. refl; lead = λ h e. absurd cc }

last_text : (bs : List ℕ) → is_empty (before (before_last bs)) ≡ false → is_empty (after (before_last bs)) ≡ false
last_text [] h = h
last_text (b ∷ []) h = refl
last_text (b ∷ c ∷ bs) h = refl

pub kept_escaped : (x : Token) (b : Bool)
    → Kept (if b then record (hash_comment (of_kind kind.Piece x))
    { text = before_last (before (hash_comment (of_kind kind.Piece x)).text) } else hash_comment
    (of_kind kind.Piece x))
kept_escaped x true = record {
  same = record { backslash = refl; word = refl; front = λ h. absurd cc };
  text =
      last_text (x.text ++ []);
  sign = λ h. absurd cc;
  lead = λ h e. absurd cc;
}
kept_escaped x false = kept_hash (of_kind kind.Piece x)

pub escaped_part : (x : Token) (b : Bool)
    → new_part (if b then record (hash_comment (of_kind kind.Piece x))
    { text = before_last (before (hash_comment (of_kind kind.Piece x)).text) } else hash_comment
    (of_kind kind.Piece x)) ≡ other
escaped_part x true = refl
escaped_part x false = refl

pub kept_bare : (t : NewToken) → Kept t → Kept (record t { lead = [] })
kept_bare t h = record { same = record { backslash = h.same.backslash; word = h.same.word; front = h.same.front }; text = h.text; sign = h.sign; lead = λ b e. absurd cc }

-- the parenthesis in the place of a cast
pub kept_opening : (d : Draft) → part_by kind.Op (before (opening d).text) ≡ mark → names.begins_root (before (opening d).text) ≡ false → Kept (opening d)
kept_opening d e r = record {
  same = record { backslash = no_backslash (bytes_eq (before (opening d).text) (codes "\\")) e; word = refl; front = λ h. r };
  text = λ h. refl;
  sign = λ h. sym (no_letter (bytes_eq (before (opening d).text) (codes "\\")) (begins is_letter (before (opening d).text)) e);
  lead = λ h z. absurd (no_clash (no_backslash (bytes_eq (before (opening d).text) (codes "\\")) e) h);
}
  where
    not_mark : root ≡ mark → ⊥
    not_mark h = cc

    no_backslash : (b : Bool) → (if b then root else (if begins is_letter (before (opening d).text) then other else mark)) ≡ mark → b ≡ false
    no_backslash true h = absurd (not_mark h)
    no_backslash false h = refl

    not_other : other ≡ mark → ⊥
    not_other h = cc

    no_letter : (b c : Bool) → (if b then root else (if c then other else mark)) ≡ mark → c ≡ false
    no_letter true c h = absurd (not_mark h)
    no_letter false true h = absurd (not_other h)
    no_letter false false h = refl

-- ---- drafts

abbrev pub AllKept : Draft → Type 0
AllKept no_more = Unit {0}
AllKept (new_leaf t d) = Kept t × AllKept d
AllKept (new_node k c d) = AllKept c × AllKept d

-- What is made of parts lets at least as much come.
pub record Drawn (f : Forest) (d : Draft) : Type 0 where
  pub kept : AllKept d
  pub runs : (u s : State) → is_below u s ≡ true → is_below (run_draft u d) (run s f) ≡ true

-- What is made of the parts of a node.
pub record NodeDrawn (c : Forest) (d : Draft) : Type 0 where
  pub kept : AllKept d
  pub runs : (u s : State) → is_below u s ≡ true → is_below (edge (run_draft (edge u) d)) (edge (run (edge s) c)) ≡ true

pub drawn_none : Drawn none no_more
drawn_none = record { kept = tt; runs = λ u s h. h }

pub drawn_leaf : (x : Token) (t : NewToken) (f : Forest) (d : Draft) → Kept t → new_part t ≡ part_of x → Drawn f d → Drawn (leaf x f) (new_leaf t d)
drawn_leaf x t f d q e o = record {
  kept = (q, o.kept);
  runs = λ u s h. o.runs (step u (new_part t)) (step s (part_of x)) (ap (λ (p : Part). is_below (step u p) (step s (part_of x))) e ∙ step_below u s (part_of x) h);
}

-- a token as it is
pub drawn_token : (x : Token) (f : Forest) (d : Draft) → Drawn f d → Drawn (leaf x f) (new_leaf (hash_comment x) d)
drawn_token x f d o = drawn_leaf x (hash_comment x) f d (kept_hash x) (part_hash x) o

pub drawn_node : (j i : NodeKind) (c f : Forest) (b d : Draft) → NodeDrawn c b → Drawn f d → Drawn (node j c f) (new_node i b d)
drawn_node j i c f b d n o = record {
  kept = (n.kept, o.kept);
  runs = λ u s h. o.runs (edge (run_draft (edge u) b)) (edge (run (edge s) c)) (n.runs u s h);
}

pub inner : (j i : NodeKind) (c : Forest) (b : Draft) → Drawn (node j c none) (new_node i b no_more) → NodeDrawn c b
inner j i c b o = record { kept = o.kept.0; runs = o.runs }

pub plain_node : (c : Forest) (d : Draft) → Drawn c d → NodeDrawn c d
plain_node c d o = record {
  kept = o.kept;
  runs = λ u s h. edge_below (run_draft (edge u) d) (run (edge s) c) (o.runs (edge u) (edge s) (edge_below u s h));
}

kept_join : (d e : Draft) → AllKept d → AllKept e → AllKept (d then e)
kept_join no_more e p q = q
kept_join (new_leaf t d) e p q = (p.0, kept_join d e p.1 q)
kept_join (new_node k c d) e p q = (p.0, kept_join d e p.1 q)

draft_join : (u : State) (d e : Draft) → run_draft u (d then e) ≡ run_draft (run_draft u d) e
draft_join u no_more e = refl
draft_join u (new_leaf t d) e = draft_join (step u (new_part t)) d e
draft_join u (new_node k c d) e = draft_join (edge (run_draft (edge u) c)) d e

run_both : (s : State) (f g : Forest) → run s (f +++ g) ≡ run (run s f) g
run_both s none g = refl
run_both s (leaf x f) g = run_both (step s (part_of x)) f g
run_both s (node j c f) g = run_both (edge (run (edge s) c)) f g

pub drawn_join : (f g : Forest) (d e : Draft) → Drawn f d → Drawn g e → Drawn (f +++ g) (d then e)
drawn_join f g d e p q = record {
  kept = kept_join d e p.kept q.kept;
  runs = λ u s h.
      ap (λ (z : State). is_below z (run s (f +++ g))) (draft_join u d e)
      ∙ ap (is_below (run_draft (run_draft u d) e)) (run_both s f g)
      ∙ q.runs (run_draft u d) (run s f) (p.runs u s h);
}

-- what comes behind a cast may come behind `(null)`
abbrev is_calm : State → Bool
is_calm calm = true
is_calm _ = false

abbrev is_failed : State → Bool
is_failed failed = true
is_failed _ = false

calm_is : (s : State) → is_calm s ≡ true → s ≡ calm
calm_is calm e = refl
calm_is _ e = absurd cc

failed_is : (s : State) → is_failed s ≡ true → s ≡ failed
failed_is failed e = refl
failed_is _ e = absurd cc

below_calm : (r : State) → is_below calm r ≡ true
below_calm r = all_are (λ r. is_below calm r) refl r

abbrev behind_null : State → State
behind_null u = edge (step (edge (step (edge (step (edge u) mark)) blank)) mark)

pub null_below : (u s : State) (c : Forest) → is_below u s ≡ true → is_below (edge (step (edge (step (edge (step (edge u) mark)) blank)) mark)) (edge (run (edge s) c)) ≡ true
null_below u s c h =
    by_either (is_calm (behind_null u)) (is_failed (edge s)) (is_below (behind_null u) (edge (run (edge s) c)))
    (λ e. ap (λ (z : State). is_below z (edge (run (edge s) c))) (calm_is (behind_null u) e) ∙ below_calm (edge (run (edge s) c)))
    (λ e. ap (λ (z : State). is_below (behind_null u) (edge z)) (ap (λ (z : State). run z c) (failed_is (edge s) e) ∙ run_failed c) ∙ below_failed (behind_null u))
    (by_below (λ u s. is_calm (behind_null u) || is_failed (edge s)) refl u s h)

-- ---- parentheses

kept_lead : (d : Draft) → AllKept d → AllKept (without_lead d)
kept_lead no_more h = tt
kept_lead (new_leaf t d) h = (kept_bare t h.0, h.1)
kept_lead (new_node k c d) h = by_lead (holds_none c) (h.0, kept_lead d h.1) (kept_lead c h.0, h.1)
  where
    by_lead : (b : Bool) → AllKept c × AllKept (without_lead d) → AllKept (without_lead c) × AllKept d
        → AllKept (cond b (new_node k c (without_lead d)) (new_node k (without_lead c) d))
    by_lead true p q = p
    by_lead false p q = q

run_lead : (d : Draft) (u : State) → run_draft u (without_lead d) ≡ run_draft u d
run_lead no_more u = refl
run_lead (new_leaf t d) u = refl
run_lead (new_node k c d) u = by_lead (holds_none c) (run_lead d (edge (run_draft (edge u) c))) (ap (λ (z : State). run_draft (edge z) d) (run_lead c (edge u)))
  where
    by_lead : (b : Bool) → run_draft (edge (run_draft (edge u) c)) (without_lead d) ≡ run_draft u (new_node k c d)
        → run_draft (edge (run_draft (edge u) (without_lead c))) d ≡ run_draft u (new_node k c d)
        → run_draft u (cond b (new_node k c (without_lead d)) (new_node k (without_lead c) d)) ≡ run_draft u
        (new_node k c d)
    by_lead true p q = p
    by_lead false p q = q

-- a bracket in front of a node, and one behind it
open_below : (u s : State) → is_below u s ≡ true → is_below (step (edge u) mark) (edge s) ≡ true
open_below u s h = by_below (λ u s. is_below (step (edge u) mark) (edge s)) refl u s h

shut_below : (v r : State) → is_below (edge v) (edge r) ≡ true → is_below (edge (step (edge v) mark)) (edge r) ≡ true
shut_below v r h =
    implied (is_below (edge v) (edge r)) (is_below (edge (step (edge v) mark)) (edge r))
    (all_are (λ r. not (is_below (edge v) (edge r)) || is_below (edge (step (edge v) mark)) (edge r))
    (all_are (λ v. all_states (λ r. not (is_below (edge v) (edge r)) || is_below (edge (step (edge v) mark)) (edge r))) refl v) r) h

in_edge : (s : State) (c : Forest) → edge (run (edge (edge s)) c) ≡ edge (run (edge s) c)
in_edge s c = ap (λ (z : State). edge (run z c)) (edge_twice s)

parens_drawn : (c : Forest) (t : NewTree) → NodeDrawn c t.1 → NodeDrawn c (in_parens t).1
parens_drawn c t n = record {
  kept = (kept_open _, (kept_lead t.1 n.kept, (kept_shut, tt)));
  runs = λ u s h.
      let first = n.runs (step (edge u) mark) (edge s) (open_below u s h) in
      let inside = ap (λ (z : State). is_below (edge z) (edge (run (edge s) c)))
      (run_lead t.1 (edge (step (edge u) mark)))
      ∙ ap (is_below (edge (run_draft (edge (step (edge u) mark)) t.1))) (sym (in_edge s c)) ∙ first in
      shut_below (run_draft (edge (step (edge u) mark)) (without_lead t.1)) (run (edge s) c) inside;
}

pub wraps_drawn : (ws : List Wrapping) (c : Forest) (t : NewTree) → NodeDrawn c t.1 → NodeDrawn c (in_wrappings ws t).1
wraps_drawn [] c t n = n
wraps_drawn (InParens ∷ ws) c t n = parens_drawn c (in_wrappings ws t) (wraps_drawn ws c t n)
