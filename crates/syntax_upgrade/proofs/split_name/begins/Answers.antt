use Rattle.std.proofs.Common.{◌≡◌, ℕ, suc, ◌-◌, Some, drop, sym, ap, ◌∙◌, arith}
use Rattle.php_terminals.specs.Tokens.{tokens_in}
use Rattle.php_rows.specs.Flatten.{leafed}
use Rattle.syntax_upgrade.specs.Heads.{own_of, shown_if_any}
use Rattle.syntax_upgrade.specs.NamesWalked.{begins}
use Rattle.syntax_upgrade.specs.Words.{seen}
use Rattle.syntax_upgrade.proofs.Fronts.{one_before}
use Rattle.syntax_upgrade.proofs.split_name.begins.Goals as goal

pub loop-left-preserved : goal.loop-left-preserved
loop-left-preserved c =
    let ts = tokens_in c.leading-tokens.result in
    let m = c.loop-left.left in
    let t = seen c.word_of.result in
    let one : m ≡ suc (m - 1) = omega (arith, c.loop-left-test.true) in
    record {
      within = omega (arith, c.loop-left.invariant.within);
      ahead = λ r f h.
          let own = own_of r c.args.braces in
          let n = c.args.delete in
          let behind = ap (λ (k : ℕ). shown_if_any (begins n own (leafed (drop k ts) f))) one in
          ap Some (c.in_ok-in_front.ensures r (begins n own (leafed (drop (suc (m - 1)) ts) f)) (c.loop-left.invariant.ahead r f h ∙ behind))
          ∙ sym (ap shown_if_any (one_before n own ts (m - 1) t f c.word_of.ensures));
    }
