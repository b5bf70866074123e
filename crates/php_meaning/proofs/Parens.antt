-- Trees with the same scripts run alike, so parentheses change no run, and nor do marks that it doesn't reach.
use Rattle.std.specs.Prelude.{◌≡◌, ℕ, ◌+◌, Bool, true, false, not, ◌&&◌, ◌||◌, cond, List, [], ◌∷◌, ◌++◌, Option, None, IsTrue, refl}
use Rattle.std.proofs.Common.{ap, ◌∙◌, sym, subst, append_assoc, append-nil, arith}
use Rattle.php_tree.specs.declared.token.TokenKind.TheVariants as token
use Rattle.php_tree.specs.declared.token.Token.{Token}
use Rattle.php_tree.specs.declared.kind.NodeKind.{NodeKind}
use Rattle.php_tree.specs.declared.kind.NodeKind.TheVariants as kind
use Rattle.std.proofs.lemmas.Bool.{true≢false}
use Rattle.php_tree.specs.declared.version.Version.TheVariants.{V74, V83}
use Rattle.php_tree.specs.Tree.{Forest, none, leaf, node}
use Rattle.php_meaning.specs.values.Value.{Value}
use Rattle.php_meaning.specs.runs.World.{Bytes}
use Rattle.php_meaning.specs.runs.Script.{Mode, Read, Quiet, Write, Later, Top, Unchanged, Early, Found, FoundQuietly, Placed, Location}
use Rattle.scope_names.specs.Slot.{Declared}
use Rattle.scope_names.specs.Form.{Form, Part, word, child, part_of, part_before, parts, bits, form, kids, joins, is_name_part, is_namespace, first_is, is_backslash}
use Rattle.scope_names.specs.Sites.{Site, file_site, is_declaration, declarations, one_if, declared_here, within, within_form, beside, names_beside}
use Rattle.php_meaning.specs.runs.Kinds.{is_expression}
use Rattle.php_meaning.specs.names.Refused.{kid_forms, kid_form, kid_before, is_type, is_parameter, type_bits, Around, no_loops, refuses, inside, judged, refused}
use Rattle.php_meaning.specs.names.Tables.{
  Tables,
  tables_of,
  listed,
  is_told,
  entry,
  holder,
  keeps_top,
  refused_file,
  file_entry,
  written_of,
  first_written,
  defined_by,
  defines,
  defining,
}
use Rattle.php_meaning.specs.statements.Loops.{switch}
use Rattle.php_meaning.specs.calls.Bodies.{global_all}
use Rattle.php_meaning.specs.expressions.Expressions.{array_literal, isset, unset_all}
use Rattle.php_meaning.specs.Rules.{rule, reading, reading_quietly, locating, running, run_all, return, choices, exit, echo_all, ternary, at_top, held_again, evaluating_early, finding, finding_quietly, placing}
use Rattle.php_meaning.specs.runs.Run.{Program, is_newer, run}
use Rattle.php_meaning.specs.laws.Laws.{
  IsInside,
  SameRun,
  ParensChangeNoRun,
  ParensKeepMeaning,
  MarksOnlyStop,
  Parenthesized,
  ends,
  token,
  inner,
  parens,
  AreParenthesized,
  no_files,
  file,
}
use Rattle.php_meaning.specs.laws.SameScripts.{
  HasScriptsOf,
  nothing,
  token_before,
  token_behind,
  same,
  wrapped,
  HaveScriptsOf,
  no_more,
  one_more,
  DeclareAlike,
  SameScriptsKeepMeaning,
  NamesAsOneToken,
  counts_children,
  OtherTokensCountNothing,
}
use Rattle.php_meaning.proofs.Alike.{scripts_alike}
use Rattle.php_meaning.proofs.Unasked.{same_where_unasked}

pub same_scripts_keep_meaning : SameScriptsKeepMeaning
same_scripts_keep_meaning source written marks same_files declared same_first entry input n covered =
    let unasked : run V83 source marks entry input n ≡ run V74 source marks entry input n =
    same_where_unasked source marks entry input n covered.unasked in
    subst (λ a. IsInside a.end → SameRun a (run V83 written [] entry input n)) unasked
    (scripts_alike true source written marks same_files declared same_first entry input n) covered.inside

-- ---- parentheses

-- tokens of one kind and text count alike
pub same_before : (t u : Token) (ps : List Part) → u.kind ≡ t.kind → u.text ≡ t.text → part_before u ps ≡ part_before t ps
same_before t u ps k e = by_text u.lead u.start k ∙ by_kind
  where
    by_kind : part_before (record { kind = t.kind; lead = u.lead; text = u.text; start = u.start }) ps ≡ part_before t ps
    by_kind = ap (λ x. part_before (record { kind = t.kind; lead = u.lead; text = x; start = u.start }) ps) e ∙ plain_token ps
      where
        plain_token : (ps : List Part) → part_before (record { kind = t.kind; lead = u.lead; text = t.text; start = u.start }) ps ≡ part_before t ps
        plain_token [] = refl
        plain_token (word false k v ∷ ps) = refl
        plain_token (word true k v ∷ ps) = refl
        plain_token (child ∷ ps) = refl

    by_text : (lead : List ℕ) (start : ℕ) → u.kind ≡ t.kind
        → part_before u ps ≡ part_before (record { kind = t.kind; lead = u.lead; text = u.text; start = u.start }) ps
    by_text lead start h = ap (λ x. part_before (record { kind = x; lead = u.lead; text = u.text; start = u.start }) ps) h

parts_same : {f g : Forest} → Parenthesized f g → parts g ≡ parts f
parts_same ends = refl
parts_same (token {t} {u} {f} {g} k e d) = same_before t u (parts g) k e ∙ ap (part_before t) (parts_same d)
parts_same (inner d e) = ap (λ ps. child ∷ ps) (parts_same e)
parts_same (parens h d e) = ap (λ ps. child ∷ ps) (parts_same e)

forms_same : {f g : Forest} → Parenthesized f g → form g ≡ form f
forms_same p = ap bits (parts_same p)

declarations_same : {f g : Forest} → Parenthesized f g → declarations g ≡ declarations f
declarations_same ends = refl
declarations_same (token k e d) = declarations_same d
declarations_same (inner {k} {c} {d} {f} {g} p q) =
    ap (λ n. one_if (is_declaration k) n + declarations g) (declarations_same p)
    ∙ ap (λ n. one_if (is_declaration k) (declarations c) + n) (declarations_same q)
declarations_same (parens {k} {j} {c} {d} {f} {g} h p q) =
    ap (λ n. n + declarations g) (declarations_same p)
    ∙ ap (λ n. (one_if (is_declaration k) (declarations c) + 0) + n) (declarations_same q)
    ∙ (omega arith)

-- what an expression is not
pub record Plain (k : NodeKind) : Type 0 where
  pub declaration : is_declaration k ≡ false
  pub told : is_told k ≡ false
  pub top : keeps_top k ≡ false
  pub beside : (f : Form) (s : Site) → names_beside k f s ≡ s

pub expression_plain : (k : NodeKind) → IsTrue (is_expression k) → Plain k
expression_plain kind.Function h = absurd (true≢false (sym h))
expression_plain kind.Class h = absurd (true≢false (sym h))
expression_plain kind.Interface h = absurd (true≢false (sym h))
expression_plain kind.Property h = absurd (true≢false (sym h))
expression_plain kind.ClassConst h = absurd (true≢false (sym h))
expression_plain kind.Method h = absurd (true≢false (sym h))
expression_plain kind.Statics h = absurd (true≢false (sym h))
expression_plain kind.Namespace h = absurd (true≢false (sym h))
expression_plain kind.Declare h = absurd (true≢false (sym h))
expression_plain kind.Block h = absurd (true≢false (sym h))
expression_plain kind.Use h = absurd (true≢false (sym h))
expression_plain kind.Const h = absurd (true≢false (sym h))
expression_plain k h = record { declaration = refl; told = refl; top = refl; beside = λ f s. refl }

within_same : (k : NodeKind) (s : Site) {c d : Forest} → Parenthesized c d → within k d s ≡ within k c s
within_same k s p = ap (λ f. within_form k f s) (forms_same p)

beside_same : (k : NodeKind) (s : Site) {c d : Forest} → Parenthesized c d → beside k d s ≡ beside k c s
beside_same k s {c} {d} p =
    ap (λ f. record (names_beside k f s) { number = one_if (is_declaration k) (declarations d) + s.number }) (forms_same p)
    ∙ ap (λ n. record (names_beside k (form c) s) { number = one_if (is_declaration k) n + s.number }) (declarations_same p)

-- a pair of parentheses leads to the same site
beside_parens : (k j : NodeKind) (c d : Forest) (o p : Token) (s : Site) → Plain k → Parenthesized (node k c none) (node j d none)
    → beside k c s ≡ beside kind.Paren (leaf o (node j d (leaf p none))) s
beside_parens k j c d o p s h q =
    ap (λ (r : Site). record r { number = one_if (is_declaration k) (declarations c) + s.number }) (h.beside (form c) s)
    ∙ ap (λ n. record s { number = n + s.number })
    (let e : one_if (is_declaration k) (declarations c) ≡ one_if (is_declaration j) (declarations d) + 0 = omega (arith, declarations_same q) in e)

rule_same : (t : Tables) (s : Site) (k : NodeKind) (m : Mode) {c d : Forest} → Parenthesized c d → rule t s k m (form d) ≡ rule t s k m (form c)
rule_same t s k m p = ap (rule t s k m) (forms_same p)

scripts_kept : (t : Tables) (s : Site) {f g : Forest} → Parenthesized f g → HasScriptsOf t t s f g
scripts_kept t s ends = nothing
scripts_kept t s (token k e d) = token_before (token_behind (scripts_kept t s d))
scripts_kept t s (inner {k} {c} {d} {f} {g} p q) =
    same (record {
      script = λ m. rule_same t s k m p;
      statement = refl;
      declaration = refl;
      within = within_same k s p;
      beside = beside_same k s p;
    }) (scripts_kept t (within k c s) p) (scripts_kept t (beside k c s) q)
scripts_kept t s (parens {k} {j} {c} {d} {f} {g} {o} {p} h q r) =
    wrapped (beside_parens k j c d o p s (expression_plain k h) q) (scripts_kept t s q) (scripts_kept t (beside k c s) r)

files_kept : (t : Tables) {fs gs : List (Bytes × Forest)} → AreParenthesized fs gs → HaveScriptsOf t t fs gs
files_kept t no_files = no_more
files_kept t (file {path} p ps) = one_more (scripts_kept t (file_site path) p) (files_kept t ps)

-- ---- tables

pub no_type : (k : NodeKind) → IsTrue (is_expression k) → is_type k ≡ false
no_type kind.TypeName h = absurd (true≢false (sym h))
no_type k h = refl

type_bits_same : {f g : Forest} → Parenthesized f g → type_bits g ≡ type_bits f
type_bits_same ends = refl
type_bits_same (token k e d) = type_bits_same d
type_bits_same (inner {k} {c} {d} {f} {g} p q) =
    ap (λ x. cond (is_type k) x (type_bits g)) (forms_same p) ∙ ap (λ x. cond (is_type k) (form c) x) (type_bits_same q)
type_bits_same (parens {k} {j} {c} {d} {f} {g} h p q) =
    type_bits_same q ∙ ap (λ b. cond b (form c) (type_bits f)) (sym (no_type k h))

kid_form_same : (k : NodeKind) {c d : Forest} → Parenthesized c d → kid_form k d ≡ kid_form k c
kid_form_same k {c} {d} p =
    ap (λ x. cond (is_parameter k) (type_bits d) [] ++ x) (forms_same p)
    ∙ ap (λ x. cond (is_parameter k) x [] ++ form c) (type_bits_same p)

kid_forms_same : {f g : Forest} → Parenthesized f g → kid_forms g ≡ kid_forms f
kid_forms_same ends = refl
kid_forms_same (token k e d) = kid_forms_same d
kid_forms_same (inner {k} {c} {d} {f} {g} p q) =
    ap (λ x. kid_before (is_expression k) (k, x) (kid_forms g)) (kid_form_same k p)
    ∙ ap (λ ks. kid_before (is_expression k) (k, kid_form k c) ks) (kid_forms_same q)
kid_forms_same (parens {k} {j} {c} {d} {f} {g} h p q) =
    kid_forms_same q ∙ subst (λ b. kid_forms f ≡ kid_before b (k, kid_form k c) (kid_forms f)) (sym h) refl

refused_same : {f g : Forest} → Parenthesized f g → (a : Around) → refused a g ≡ refused a f
refused_same ends a = refl
refused_same (token k e d) a = refused_same d a
refused_same (inner {k} {c} {d} {f} {g} p q) a =
    ap (λ x. judged (is_expression k) (refuses a k x) (refused (inside a k x (kid_forms d)) d) || refused a g) (forms_same p)
    ∙ ap (λ x. judged (is_expression k) (refuses a k (form c)) (refused (inside a k (form c) x) d) || refused a g) (kid_forms_same p)
    ∙ ap (λ x. judged (is_expression k) (refuses a k (form c)) x || refused a g) (refused_same p (inside a k (form c) (kid_forms c)))
    ∙ ap (λ x. judged (is_expression k) (refuses a k (form c)) (refused (inside a k (form c) (kid_forms c)) c) || x) (refused_same q a)
refused_same (parens {k} {j} {c} {d} {f} {g} h p q) a =
    refused_same q a
    ∙ ap (λ b. judged b (refuses a k (form c)) (refused (inside a k (form c) (kid_forms c)) c) || refused a f) (sym h)

-- ---- constants by `define`

written_same : {f g : Forest} → Parenthesized f g → first_written g ≡ first_written f
written_same ends = refl
written_same (token k e d) = written_same d
written_same (inner {k} {c} {d} p q) =
    ap (λ x. written_of k x (first_written d)) (forms_same p) ∙ ap (λ ws. written_of k (form c) ws) (written_same p)
written_same (parens h p q) = written_same p

pub defined_by_same : (k : NodeKind) (f g : Form) (ws vs : List Bytes) → g ≡ f → vs ≡ ws → defined_by k g vs ≡ defined_by k f ws
defined_by_same k f g ws vs e h = ap (λ x. defined_by k x vs) e ∙ ap (λ x. defined_by k f x) h

pub without_end : {a b : List Bytes} → b ++ [] ≡ a ++ [] → b ≡ a
without_end {a} {b} e = sym (append-nil b) ∙ e ∙ append-nil a

pub joined_same : {a b x y : List Bytes} → b ≡ a → y ≡ x → b ++ y ≡ a ++ x
joined_same {a} {b} {x} {y} e h = ap (λ z. z ++ y) e ∙ ap (λ z. a ++ z) h

-- an expression but a call defines nothing by itself
defines_same : {f g : Forest} → Parenthesized f g → defines g ≡ defines f
defines_same ends = refl
defines_same (token k e d) = defines_same d
defines_same (inner {k} {c} {d} p q) =
    joined_same (joined_same (defined_by_same k (form c) (form d) (first_written c) (first_written d) (forms_same p) (written_same p)) (defines_same p))
    (defines_same q)
defines_same (parens {k} {j} {c} {d} h p q) =
    joined_same (append-nil (defined_by j (form d) (first_written d) ++ defines d) ∙ without_end (defines_same p)) (defines_same q)

entry_same : {f g : Forest} → Parenthesized f g → (path : Bytes) → file_entry path g ≡ file_entry path f
entry_same {f} {g} p path =
    ap (λ b. entry b (refused_file path (declarations g)) (defining path (declarations g) (defines g) ∷ [])) (refused_same p no_loops)
    ∙ ap (λ n. entry (refused no_loops f) (refused_file path n) (defining path n (defines g) ∷ [])) (declarations_same p)
    ∙ ap (λ ns. entry (refused no_loops f) (refused_file path (declarations f)) (defining path (declarations f) ns ∷ [])) (defines_same p)

listed_same : {f g : Forest} → Parenthesized f g → (s : Site) (of : Option Declared) (top : Bool) → listed s of top g ≡ listed s of top f
listed_same ends s of top = refl
listed_same (token k e d) s of top = listed_same d s of top
listed_same (inner {k} {c} {d} {f} {g} p q) s of top =
    ap (λ x. entry (is_told k) (record { at = declared_here s; kind = k; site = s; form = x; kids = kid_forms d; of = of; is_top = top })
    (listed (within_form k x s) (holder k s) (keeps_top k && top) d) ++ listed (beside k d s) of top g) (forms_same p)
    ∙ ap (λ x. entry (is_told k) (record { at = declared_here s; kind = k; site = s; form = form c; kids = x; of = of; is_top = top })
    (listed (within k c s) (holder k s) (keeps_top k && top) d) ++ listed (beside k d s) of top g) (kid_forms_same p)
    ∙ ap (λ x. entry (is_told k) (record { at = declared_here s; kind = k; site = s; form = form c; kids = kid_forms c; of = of; is_top = top })
    x ++ listed (beside k d s) of top g) (listed_same p (within k c s) (holder k s) (keeps_top k && top))
    ∙ ap (λ x. entry (is_told k) (record { at = declared_here s; kind = k; site = s; form = form c; kids = kid_forms c; of = of; is_top = top })
    (listed (within k c s) (holder k s) (keeps_top k && top) c) ++ listed x of top g) (beside_same k s p)
    ∙ ap (λ x. entry (is_told k) (record { at = declared_here s; kind = k; site = s; form = form c; kids = kid_forms c; of = of; is_top = top })
    (listed (within k c s) (holder k s) (keeps_top k && top) c) ++ x) (listed_same q (beside k c s) of top)
listed_same (parens {k} {j} {c} {d} {f} {g} {o} {p} h q r) s of top =
    let plain : Plain k = expression_plain k h in
    ap (λ x. x ++ listed (beside kind.Paren (leaf o (node j d (leaf p none))) s) of top g) (listed_same q s None false)
    ∙ ap (λ x. (listed s None false (node k c none)) ++ listed x of top g) (sym (beside_parens k j c d o p s plain q))
    ∙ ap (λ x. (listed s None false (node k c none)) ++ x) (listed_same r (beside k c s) of top)
    ∙ ap (λ x. x ++ listed (beside k c s) of top f) (alone_same k c s of top plain)
  where
    alone_same : (k : NodeKind) (c : Forest) (s : Site) (of : Option Declared) (top : Bool) → Plain k
        → listed s None false (node k c none)
        ≡ entry (is_told k) (record { at = declared_here s; kind = k; site = s; form = form c; kids = kid_forms c; of = of; is_top = top })
        (listed (within k c s) (holder k s) (keeps_top k && top) c)
    alone_same k c s of top h =
        subst (λ b. entry b (record { at = declared_here s; kind = k; site = s; form = form c; kids = kid_forms c; of = None; is_top = false })
        (listed (within k c s) (holder k s) (keeps_top k && false) c) ++ []
        ≡ entry b (record { at = declared_here s; kind = k; site = s; form = form c; kids = kid_forms c; of = of; is_top = top })
        (listed (within k c s) (holder k s) (keeps_top k && top) c)) (sym h.told)
        (subst (λ b. listed (within k c s) (holder k s) (b && false) c ++ [] ≡ listed (within k c s) (holder k s) (b && top) c) (sym h.top)
        (append-nil (listed (within k c s) (holder k s) false c)))

tables_same : {fs gs : List (Bytes × Forest)} → AreParenthesized fs gs → tables_of gs ≡ tables_of fs
tables_same no_files = refl
tables_same (file {path} {f} {g} {fs} {gs} p ps) =
    ap (λ x. x ++ (file_entry path g ++ tables_of gs)) (listed_same p (file_site path) None true)
    ∙ ap (λ x. listed (file_site path) None true f ++ (x ++ tables_of gs)) (entry_same p path)
    ∙ ap (λ x. listed (file_site path) None true f ++ (file_entry path f ++ x)) (tables_same ps)

-- the premises on two programs of which the second has expressions in parentheses
record AlikeFiles (source written : Program) : Type 0 where
  scripts : HaveScriptsOf (tables_of source.files) (tables_of written.files) source.files written.files
  declared : DeclareAlike (tables_of source.files) (tables_of written.files)

parens_alike : (source written : Program) → AreParenthesized source.files written.files → AlikeFiles source written
parens_alike source written p =
    let t : Tables = tables_of source.files in
    record {
      scripts = subst (λ x. HaveScriptsOf t x source.files written.files) (sym (tables_same p)) (files_kept t p);
      declared = subst (λ x. DeclareAlike t x) (sym (tables_same p)) (record { early = λ path n. refl; count = refl });
    }

pub parens_change_no_run : ParensChangeNoRun
parens_change_no_run v source written marks same_files same_first entry input n i =
    (let a : AlikeFiles source written = parens_alike source written same_files in
    scripts_alike (is_newer v) source written marks a.scripts a.declared same_first entry input n i)

pub parens_keep_meaning : ParensKeepMeaning
parens_keep_meaning source written marks same_files same_first entry input n covered =
    (let a : AlikeFiles source written = parens_alike source written same_files in
    same_scripts_keep_meaning source written marks a.scripts a.declared same_first entry input n covered)

-- ---- no parentheses

unchanged : (f : Forest) → Parenthesized f f
unchanged none = ends
unchanged (leaf t f) = token refl refl (unchanged f)
unchanged (node k c f) = inner (unchanged c) (unchanged f)

unchanged_files : (fs : List (Bytes × Forest)) → AreParenthesized fs fs
unchanged_files [] = no_files
unchanged_files (f ∷ fs) = file (unchanged f.1) (unchanged_files fs)

pub marks_only_stop : MarksOnlyStop
marks_only_stop v p marks entry input n i = parens_change_no_run v p p marks (unchanged_files p.files) refl entry input n i

-- ---- names

first_kept : (p : ℕ → Bool) (u v : List ℕ) → first_is p u ≡ true → first_is p (u ++ v) ≡ true
first_kept p [] v h = cc
first_kept p (b ∷ bs) v h = h

-- two words of one name, the second one with what it goes on with
joins_longer : (t : Token) (u v : List ℕ) → joins t u ≡ true → joins t (u ++ v) ≡ true
joins_longer t u v h = longer (is_name_part t.kind t.text) (is_namespace t.kind t.text) h
  where
    longer : (a b : Bool) → (a || (b && first_is is_backslash u)) ≡ true → (a || (b && first_is is_backslash (u ++ v))) ≡ true
    longer true b h = refl
    longer false true h = first_kept is_backslash u v h
    longer false false h = h

-- a name in one token goes on with any name
whole_joins : (whole : Token) (v : List ℕ) → whole.kind ≡ token.Name → joins whole v ≡ true
whole_joins whole v k = ap (λ k. is_name_part k whole.text || (is_namespace k whole.text && first_is is_backslash v)) k

part_joins : (u : Token) (v : List ℕ) → is_name_part u.kind u.text ≡ true → joins u v ≡ true
part_joins u v h = ap (λ b. b || (is_namespace u.kind u.text && first_is is_backslash v)) h

whole_part : (t u whole : Token) → whole.kind ≡ token.Name → whole.text ≡ t.text ++ u.text → part_of whole ≡ word true token.Name (t.text ++ u.text)
whole_part t u whole k e = ap (λ k. word (is_name_part k whole.text) k whole.text) k ∙ ap (word true token.Name) e

-- the same where no name follows
joined_last : (t u whole : Token) (ps : List Part) → whole.kind ≡ token.Name → whole.text ≡ t.text ++ u.text
    → is_name_part u.kind u.text ≡ true → joins t u.text ≡ true
    → part_before t (part_of u ∷ ps) ≡ part_of whole ∷ ps
joined_last t u whole ps k e p j =
    ap (λ b. part_before t (word b u.kind u.text ∷ ps)) p
    ∙ ap (λ b. cond b (word true token.Name (t.text ++ u.text) ∷ ps) (part_of t ∷ word true u.kind u.text ∷ ps)) j
    ∙ ap (λ x. x ∷ ps) (sym (whole_part t u whole k e))

joined_before : (t u whole : Token) (ps : List Part) → whole.kind ≡ token.Name → whole.text ≡ t.text ++ u.text
    → is_name_part u.kind u.text ≡ true → joins t u.text ≡ true
    → part_before t (part_before u ps) ≡ part_before whole ps
joined_before t u whole [] k e p j = joined_last t u whole [] k e p j
joined_before t u whole (word false l v ∷ ps) k e p j = joined_last t u whole (word false l v ∷ ps) k e p j
joined_before t u whole (child ∷ ps) k e p j = joined_last t u whole (child ∷ ps) k e p j
joined_before t u whole (word true l v ∷ ps) k e p j =
    both (joins u v) (part_joins u v p) (joins_longer t u.text v j)
    ∙ ap (λ x. word true token.Name x ∷ ps) (sym (append_assoc t.text u.text v))
    ∙ ap (λ x. word true token.Name (x ++ v) ∷ ps) (sym e)
    ∙ ap (λ b. cond b (word true token.Name (whole.text ++ v) ∷ ps) (part_of whole ∷ word true l v ∷ ps)) (sym (whole_joins whole v k))
  where
    both : (b : Bool) → b ≡ true → joins t (u.text ++ v) ≡ true
        → part_before t (cond b (word true token.Name (u.text ++ v) ∷ ps) (part_of u ∷ word true l v ∷ ps))
        ≡ word true token.Name (t.text ++ (u.text ++ v)) ∷ ps
    both true x y = ap (λ d. cond d (word true token.Name (t.text ++ (u.text ++ v)) ∷ ps) (part_of t ∷ word true token.Name (u.text ++ v) ∷ ps)) y
    both false x y = cc

pub names_joined : (t u whole : Token) (f : Forest) → whole.kind ≡ token.Name → whole.text ≡ t.text ++ u.text
    → is_name_part u.kind u.text ≡ true → joins t u.text ≡ true → parts (leaf t (leaf u f)) ≡ parts (leaf whole f)
names_joined t u whole f k e p j = joined_before t u whole (parts f) k e p j

pub names_as_one_token : NamesAsOneToken
names_as_one_token t u whole f k e p j = ap bits (names_joined t u whole f k e p j)

-- ---- tokens

reading_counts : (t : Tables) (s : Site) (k : NodeKind) (f g : Form) → kids g ≡ kids f → IsTrue (counts_children k) → reading t s k g ≡ reading t s k f
reading_counts t s kind.Block f g e h = ap (run_all 0) e
reading_counts t s kind.Echo f g e h = ap (echo_all 0) e
reading_counts t s kind.Return f g e h = ap return e
reading_counts t s kind.If f g e h = ap (choices 0) e
reading_counts t s kind.Switch f g e h = ap switch e
reading_counts t s kind.Global f g e h = ap (global_all 0) e
reading_counts t s kind.Unset f g e h = ap (unset_all 0) e
reading_counts t s kind.Array f g e h = ap array_literal e
reading_counts t s kind.Isset f g e h = ap (isset 0) e
reading_counts t s kind.Exit f g e h = ap exit e
reading_counts t s kind.Ternary f g e h = ap ternary e
reading_counts t s kind.Empty f g e h = refl
reading_counts t s kind.ExprStmt f g e h = refl
reading_counts t s kind.DoWhile f g e h = refl
reading_counts t s kind.Throw f g e h = refl
reading_counts t s kind.Paren f g e h = refl
reading_counts t s kind.EmptyTest f g e h = refl
reading_counts t s kind.ShortTernary f g e h = refl
reading_counts t s kind.Assign f g e h = refl
reading_counts t s kind.AssignRef f g e h = refl
reading_counts t s kind.Print f g e h = refl
reading_counts t s k f g e h = absurd (true≢false (sym h))

quietly_counts : (t : Tables) (s : Site) (k : NodeKind) (f g : Form) → kids g ≡ kids f → IsTrue (counts_children k) → reading_quietly t s k g ≡ reading_quietly t s k f
quietly_counts t s kind.Variable f g e h = absurd (true≢false (sym h))
quietly_counts t s kind.Offset f g e h = absurd (true≢false (sym h))
quietly_counts t s kind.BraceOffset f g e h = absurd (true≢false (sym h))
quietly_counts t s kind.Prop f g e h = absurd (true≢false (sym h))
quietly_counts t s kind.StaticProp f g e h = absurd (true≢false (sym h))
quietly_counts t s k f g e h = reading_counts t s k f g e h

locating_counts : (t : Tables) (s : Site) (k : NodeKind) (f g : Form) → IsTrue (counts_children k) → locating t s k g ≡ locating t s k f
locating_counts t s kind.Variable f g h = absurd (true≢false (sym h))
locating_counts t s kind.Offset f g h = absurd (true≢false (sym h))
locating_counts t s kind.BraceOffset f g h = absurd (true≢false (sym h))
locating_counts t s kind.Prop f g h = absurd (true≢false (sym h))
locating_counts t s kind.StaticProp f g h = absurd (true≢false (sym h))
locating_counts t s k f g h = refl

running_counts : (t : Tables) (s : Site) (k : NodeKind) (m : Mode) (f g : Form) → IsTrue (counts_children k) → running t s k m g ≡ running t s k m f
running_counts t s kind.Variable m f g h = absurd (true≢false (sym h))
running_counts t s kind.Constant m f g h = absurd (true≢false (sym h))
running_counts t s kind.Prop m f g h = absurd (true≢false (sym h))
running_counts t s kind.Offset m f g h = absurd (true≢false (sym h))
running_counts t s kind.BraceOffset m f g h = absurd (true≢false (sym h))
running_counts t s kind.While m f g h = absurd (true≢false (sym h))
running_counts t s kind.For m f g h = absurd (true≢false (sym h))
running_counts t s kind.Foreach m f g h = absurd (true≢false (sym h))
running_counts t s kind.Case m f g h = absurd (true≢false (sym h))
running_counts t s kind.TypeName m f g h = absurd (true≢false (sym h))
running_counts t s kind.Item m f g h = absurd (true≢false (sym h))
running_counts t s kind.Args m f g h = absurd (true≢false (sym h))
running_counts t s kind.Function m f g h = absurd (true≢false (sym h))
running_counts t s kind.Method m f g h = absurd (true≢false (sym h))
running_counts t s kind.Param m f g h = absurd (true≢false (sym h))
running_counts t s kind.Property m f g h = absurd (true≢false (sym h))
running_counts t s kind.ClassConst m f g h = absurd (true≢false (sym h))
running_counts t s kind.DoWhile Later f g h = refl
running_counts t s k m f g h = refl

top_counts : (t : Tables) (s : Site) (k : NodeKind) (f g : Form) → kids g ≡ kids f → IsTrue (counts_children k) → at_top t s k g ≡ at_top t s k f
top_counts t s kind.Const f g e h = absurd (true≢false (sym h))
top_counts t s kind.Namespace f g e h = absurd (true≢false (sym h))
top_counts t s kind.Use f g e h = absurd (true≢false (sym h))
top_counts t s kind.Declare f g e h = absurd (true≢false (sym h))
top_counts t s k f g e h = reading_counts t s k f g e h

unchanged_counts : (k : NodeKind) (v : Value) (f g : Form) → IsTrue (counts_children k) → held_again k v g ≡ held_again k v f
unchanged_counts kind.Variable v f g h = absurd (true≢false (sym h))
unchanged_counts kind.Cast v f g h = absurd (true≢false (sym h))
unchanged_counts kind.Float v f g h = refl
unchanged_counts kind.List v f g h = refl
unchanged_counts kind.Closure v f g h = refl
unchanged_counts kind.Arrow v f g h = refl
unchanged_counts kind.EvalTest v f g h = refl
unchanged_counts kind.Yield v f g h = refl
unchanged_counts k v f g h = refl

early_counts : (t : Tables) (s : Site) (k : NodeKind) (f g : Form) → kids g ≡ kids f → IsTrue (counts_children k) → evaluating_early t s k g ≡ evaluating_early t s k f
early_counts t s kind.Variable f g e h = absurd (true≢false (sym h))
early_counts t s kind.StaticProp f g e h = absurd (true≢false (sym h))
early_counts t s kind.Offset f g e h = absurd (true≢false (sym h))
early_counts t s kind.BraceOffset f g e h = absurd (true≢false (sym h))
early_counts t s kind.Prop f g e h = absurd (true≢false (sym h))
early_counts t s k f g e h = reading_counts t s k f g e h

finding_counts : (t : Tables) (s : Site) (k : NodeKind) (l : Location) (f g : Form) → IsTrue (counts_children k) → finding t s k l g ≡ finding t s k l f
finding_counts t s kind.Variable l f g h = absurd (true≢false (sym h))
finding_counts t s kind.StaticProp l f g h = absurd (true≢false (sym h))
finding_counts t s kind.Offset l f g h = absurd (true≢false (sym h))
finding_counts t s kind.BraceOffset l f g h = absurd (true≢false (sym h))
finding_counts t s kind.Prop l f g h = absurd (true≢false (sym h))
finding_counts t s k l f g h = refl

found_quietly_counts : (t : Tables) (s : Site) (k : NodeKind) (l : Location) (f g : Form) → IsTrue (counts_children k)
    → finding_quietly t s k l g ≡ finding_quietly t s k l f
found_quietly_counts t s kind.Variable l f g h = absurd (true≢false (sym h))
found_quietly_counts t s kind.StaticProp l f g h = absurd (true≢false (sym h))
found_quietly_counts t s kind.Offset l f g h = absurd (true≢false (sym h))
found_quietly_counts t s kind.BraceOffset l f g h = absurd (true≢false (sym h))
found_quietly_counts t s kind.Prop l f g h = absurd (true≢false (sym h))
found_quietly_counts t s k l f g h = refl

placing_counts : (t : Tables) (s : Site) (k : NodeKind) (l : Location) (f g : Form) → IsTrue (counts_children k) → placing t s k l g ≡ placing t s k l f
placing_counts t s kind.Variable l f g h = absurd (true≢false (sym h))
placing_counts t s kind.StaticProp l f g h = absurd (true≢false (sym h))
placing_counts t s kind.Offset l f g h = absurd (true≢false (sym h))
placing_counts t s kind.BraceOffset l f g h = absurd (true≢false (sym h))
placing_counts t s kind.Prop l f g h = absurd (true≢false (sym h))
placing_counts t s k l f g h = refl

pub other_tokens_count_nothing : OtherTokensCountNothing
other_tokens_count_nothing t s kind.Paren m f g h e = refl
other_tokens_count_nothing t s k Read f g h e = reading_counts t s k f g e h
other_tokens_count_nothing t s k Top f g h e = top_counts t s k f g e h
other_tokens_count_nothing t s k (Unchanged v) f g h e = unchanged_counts k v f g h
other_tokens_count_nothing t s k Early f g h e = early_counts t s k f g e h
other_tokens_count_nothing t s k (Found l) f g h e = finding_counts t s k l f g h
other_tokens_count_nothing t s k (FoundQuietly l) f g h e = found_quietly_counts t s k l f g h
other_tokens_count_nothing t s k (Placed l) f g h e = placing_counts t s k l f g h
other_tokens_count_nothing t s k Quiet f g h e = quietly_counts t s k f g e h
other_tokens_count_nothing t s k Write f g h e = locating_counts t s k f g h
other_tokens_count_nothing t s k m f g h e = running_counts t s k m f g h
