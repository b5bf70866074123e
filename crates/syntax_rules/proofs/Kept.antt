-- The rewritten files do in 8.3 what the source does in 7.4.
use Rattle.std.proofs.Common.{◌≡◌, ℕ, suc, Bool, true, false, IsTrue, List, [], ◌∷◌, map, All, Option, refl, ap, sym, ◌∙◌, subst, arith}
use Rattle.php_tree.specs.Tree.{Forest, File}
use Rattle.php_tree.specs.declared.version.Version.TheVariants.{V74, V83}
use Rattle.php_meaning.specs.runs.World.{Bytes, Place, Visit, Asked}
use Rattle.php_meaning.specs.names.Tables.{Tables, tables_of}
use Rattle.scope_names.specs.Sites.{file_site}
use Rattle.php_meaning.specs.runs.Input.{Input}
use Rattle.php_meaning.specs.runs.Run.{Program, Mark, Answer, run}
use Rattle.php_meaning.specs.laws.Laws.{IsInside, SameRun}
use Rattle.php_meaning.specs.laws.SameScripts.{HaveScriptsOf, DeclareAlike}
use Rattle.php_meaning.specs.laws.Across.{Claim, AskedAt, Show, AreRewritten, no_more, one_more}
use Rattle.php_meaning.proofs.Alike.{scripts_alike}
use Rattle.php_meaning.proofs.Across.{rewritten_runs_across}
use Rattle.tracked_changes.specs.Draft as draft
use Rattle.tracked_changes.specs.Walk.{drafted}
use Rattle.syntax_rules.specs.Together.{rewriting}
use Rattle.syntax_rules.specs.declared.rules.Rules.{Rules}
use Rattle.syntax_rules.specs.NestedTernary.{program}
use Rattle.syntax_rules.specs.Rewritten.{patches_by}
use Rattle.syntax_rules.specs.Keeps.{AreFormed, all_rewritten_by, RewritingKeepsMeaning}
use Rattle.syntax_rules.proofs.RewrittenTables.{AreRewrites, no_file, one_file, tables_same}
use Rattle.syntax_rules.proofs.RewritesAcross.{rewritten}
use Rattle.syntax_rules.proofs.Walked.{chosen, walked}
use Rattle.syntax_rules.proofs.WrapsFit.{table_wraps}
use Rattle.syntax_rules.proofs.NamesKept as names
use Rattle.syntax_rules.proofs.NamesKept.{AreNamed, named_tables, named_files, split_named}
use Rattle.syntax_rules.proofs.ProperDrafts.{proper}

-- a run that asks at no point where the versions differ, whatever it shows
abbrev nowhere : Claim
nowhere = record { handled = λ p. false; good = λ v. true }

shows_all : (vs : List Visit) → Show (λ v. true) vs
shows_all [] = tt
shows_all (v ∷ vs) = (refl, shows_all vs)

asks_at_none : (asked : List Asked) → asked ≡ [] → AskedAt (λ p. false) asked
asks_at_none [] e = tt
asks_at_none (a ∷ more) e = absurd (let f : a ∷ more ≡ [] = e in cc)

-- a tree before names are joined
abbrev parted : Rules → Forest → Forest
parted r f = draft.rewritten (drafted (rewriting (chosen r (patches_by r f))) 0 f)

abbrev parted_files : Rules → List (Bytes × File) → List (Bytes × Forest)
parted_files r files = map (λ f. (f.0, parted r f.1.statements)) files

abbrev sources : List (Bytes × File) → List (Bytes × Forest)
sources files = map (λ f. (f.0, f.1.statements)) files

below : (f : Bytes × File) (fs : List (Bytes × File)) → All (λ f. AreFormed f.1.statements) (f ∷ fs) → All (λ f. AreFormed f.1.statements) fs
below f fs h = λ k d below. h (suc k) d (omega (arith, below))

first : (f : Bytes × File) (fs : List (Bytes × File)) → All (λ f. AreFormed f.1.statements) (f ∷ fs) → AreFormed f.1.statements
first f fs h = h 0 f (omega arith)

are_rewrites : (r : Rules) (files : List (Bytes × File)) → All (λ f. AreFormed f.1.statements) files → AreRewrites (sources files) (parted_files r files)
are_rewrites r [] h = no_file
are_rewrites r (f ∷ fs) h =
    one_file (walked r (patches_by r f.1.statements) 0 (first f fs h) (table_wraps r f.1.statements)) (are_rewrites r fs (below f fs h))

across : (claim : Claim) → ((p : Place) → claim.handled p ≡ false) → (t : Tables) {fs gs : List (Bytes × Forest)} → AreRewrites fs gs → AreRewritten claim t t fs gs
across claim plain t no_file = no_more
across claim plain t (one_file {path} r rs) = one_more (rewritten claim plain t r 0 (file_site path)) (across claim plain t rs)

are_named : (r : Rules) (files : List (Bytes × File)) → All (λ f. AreFormed f.1.statements) files → AreNamed (parted_files r files) (sources (all_rewritten_by r files))
are_named r [] h = names.no_file
are_named r (f ∷ fs) h =
    names.one_file (split_named r (drafted (rewriting (chosen r (patches_by r f.1.statements))) 0 f.1.statements) (proper r (patches_by r f.1.statements) 0 (first f fs h)))
    (are_named r fs (below f fs h))

alike : (t t' : Tables) → t' ≡ t → DeclareAlike t t'
alike t t' e = subst (λ x. DeclareAlike t x) (sym e) (record { early = λ path n. refl; count = refl })

then_same : (a b c : Answer) → SameRun a b → SameRun b c → SameRun a c
then_same a b c x y = record { echo = y.echo ∙ x.echo; end = y.end ∙ x.end }

pub rewriting_keeps_meaning : RewritingKeepsMeaning
rewriting_keeps_meaning r files prepend marks h entry input n covered =
    let source : Program = program files prepend in
    let middle : Program = record { files = parted_files r files; prepend = prepend } in
    let written : Program = program (all_rewritten_by r files) prepend in
    let changed : AreRewrites source.files middle.files = are_rewrites r files h in
    let joined : AreNamed middle.files written.files = are_named r files h in
    let across_versions : SameRun (run V74 source marks entry input n) (run V83 middle [] entry input n) =
    rewritten_runs_across nowhere source middle marks
    (subst (λ t. AreRewritten nowhere (tables_of source.files) t source.files middle.files)
    (sym (tables_same changed)) (across nowhere (λ p. refl) (tables_of source.files) changed))
    (alike (tables_of source.files) (tables_of middle.files) (tables_same changed)) refl (λ p. refl) entry input n covered.inside
    (asks_at_none _ covered.unasked) (shows_all _) in
    let in_one_token : SameRun (run V83 middle [] entry input n) (run V83 written [] entry input n) =
    scripts_alike true middle written []
    (subst (λ t. HaveScriptsOf (tables_of middle.files) t middle.files written.files) (sym (named_tables joined)) (named_files (tables_of middle.files) joined))
    (alike (tables_of middle.files) (tables_of written.files) (named_tables joined)) refl entry input n
    (subst IsInside (sym across_versions.end) covered.inside) in
    then_same (run V74 source marks entry input n) (run V83 middle [] entry input n) (run V83 written [] entry input n) across_versions in_one_token
