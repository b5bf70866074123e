use Rattle.std.proofs.Common.{◌≡◌, zero, false, ap, ◌∙◌}
use Rattle.php_rows.specs.Reading.{forest_in}
use Rattle.syntax_upgrade.specs.Words.{seen}
use Rattle.syntax_upgrade.specs.declared.progress.Progress.TheVariants as code
use Rattle.syntax_upgrade.specs.Heads.{own_of}
use Rattle.syntax_upgrade.specs.Inside.{float_token}
use Rattle.syntax_upgrade.specs.NamesWalked.{walked}
use Rattle.syntax_upgrade.specs.Written.{Written, token_next}
use Rattle.syntax_upgrade.proofs.Starts.{own_false}
use Rattle.syntax_upgrade.proofs.progress.leaf.Goals as goal

pub returns-in_ok-inner-in-Names : goal.returns-in_ok-inner-in-Names
returns-in_ok-inner-in-Names c = λ around i h.
    let e : c.args.progress ≡ code.Names c.in-Names.braces c.in-Names.inner = c.in-Names.is in
    rw e (c.in_ok-inner-in-Names.ensures around i (forest_in c.args.behind) h)

pub returns-in_ok-replaced-in-Float : goal.returns-in_ok-replaced-in-Float
returns-in_ok-replaced-in-Float c = λ around i h.
    let f = forest_in c.args.behind in
    let e : c.args.progress ≡ code.Float = c.in-Float.is in
    rw e
    (ap (λ (w : Written). walked c.args.rules (own_of c.args.rules false) around false zero f w) c.in_ok-replaced-in-Float.ensures
    ∙ own_false c.args.rules around false f (token_next c.args.rules.split_names (float_token c.args.rules (seen c.args.token)) c.args.writer.now))

pub returns-in_ok-role-in-Quoted : goal.returns-in_ok-role-in-Quoted
returns-in_ok-role-in-Quoted c = λ around i h.
    let e : c.args.progress ≡ code.Quoted c.in-Quoted.role = c.in-Quoted.is in
    rw e (c.in_ok-role-in-Quoted.ensures around i)
