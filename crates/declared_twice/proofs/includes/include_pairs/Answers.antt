use Rattle.std.proofs.Common.{◌≤◌, ℕ, List, ◌∷◌, ◌++◌, [], take, length, sym, subst, ◌∙◌, arith}
use Rattle.std.proofs.lemmas.List.{take_all}
use Rattle.std.proofs.lemmas.Option.{none-some}
use Rattle.graph_search.specs.Graph.{pair}
use Rattle.file_declarations.specs.declared.told.Told.{Told}
use Rattle.program_names.specs.Entries.{paths_of}
use Rattle.program_names.specs.Table.{table_of}
use Rattle.declared_twice.specs.Includes.{ArePairs}
use Rattle.declared_twice.proofs.AskedLemmas.{AskedIn, pairs_more, pairs_same, pairs_include}
use Rattle.declared_twice.proofs.EntryLemmas.{take_item}
use Rattle.declared_twice.proofs.includes.include_pairs.Goals as goal

pub loop-one-preserved-in-None : goal.loop-one-preserved-in-None
loop-one-preserved-in-None c =
    let paths = paths_of c.args.program.now.files.items in
    let ts = c.args.told.now in
    let i = c.loop-one.one-index in
    let x = c.one-item.result in
    subst (λ (us : List Told). ArePairs c.loop-one.pairs.items (AskedIn paths us)) (sym (take_item ts i x c.loop-one-test.true c.one-item.is))
    (pairs_same paths c.loop-one.pairs.items (take i ts) x c.loop-one.invariant (λ a b h. none-some (pair a b) ((c.in-None.ensures a b).1 h)))

pub loop-one-preserved : goal.loop-one-preserved
loop-one-preserved c =
    let paths = paths_of c.args.program.now.files.items in
    let ts = c.args.told.now in
    let i = c.loop-one.one-index in
    let x = c.one-item.result in
    subst (λ (us : List Told). ArePairs c.push.new.self.items (AskedIn paths us)) (sym (take_item ts i x c.loop-one-test.true c.one-item.is))
    (subst (λ (ps : List (ℕ × ℕ)). ArePairs ps (AskedIn paths (take i ts ++ x ∷ []))) (sym c.in_ok-push.ensures.items)
    (pairs_more paths c.loop-one.pairs.items c.in-Some.included (take i ts) x c.loop-one.invariant c.in-Some.ensures))

pub returns : goal.returns
returns c =
    let fs = c.args.program.now.files.items in
    let ts = c.args.told.now in
    let i = c.loop-one.one-index in
    let past : length ts ≤ i = omega arith in
    pairs_include (paths_of fs) (table_of fs) c.loop-one.pairs.items
    (subst (λ (us : List Told). ArePairs c.loop-one.pairs.items (AskedIn (paths_of fs) us)) (take_all i ts past ∙ c.requires) c.loop-one.invariant)
