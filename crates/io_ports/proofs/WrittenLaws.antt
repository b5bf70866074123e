-- The bytes of a sink of reports are the lines of its list.
use Rattle.std.proofs.Common.{◌≡◌, ℕ, List, [], ◌∷◌, ◌++◌, Option, Some, Result, Ok, Err, IfSome, IsErrOf, refl, sym, ap, ◌∙◌, subst, append_assoc, append-nil}
use Rattle.io_ports.specs.Files.{Appends}
use Rattle.io_ports.specs.Reports.{Takes, lines, Written}
use Rattle.io_ports.specs.declared.fault.PortFault.{PortFault}
use Rattle.io_ports.specs.declared.fault.PortFault.TheVariants.{Failed, Memory}
use Rattle.io_ports.specs.declared.report.Report.{Report}

-- the lines of one report more
pub lines_more : (line_of : Report → List ℕ) (rs : List Report) (r : Report) → lines line_of (rs ++ r ∷ []) ≡ lines line_of rs ++ line_of r
lines_more line_of [] r = simp append-nil refl
lines_more line_of (q ∷ rs) r = ap (λ rest. line_of q ++ rest) (lines_more line_of rs r) ∙ sym (append_assoc (line_of q) (lines line_of rs) (line_of r))

-- a take that puts its line, and doesn't fail
pub take_written : (line_of : Report → List ℕ) (began : List ℕ) (r : Report) (result : Result Unit PortFault)
    (old new : List Report) (before after : Option (List ℕ)) → Takes r result old new
    → IfSome before (λ bytes. Appends (line_of r) result bytes after) → ¬ IsErrOf result Failed
    → Written line_of began old before → Written line_of began new after
take_written line_of began r (Ok u) old new before after t a n w =
    let put : Appends (line_of r) (Ok u) (began ++ lines line_of old) after = subst (λ h. IfSome h (λ bytes. Appends (line_of r) (Ok u) bytes after)) w a in
    put.ok ∙ ap Some (append_assoc began (lines line_of old) (line_of r) ∙ ap (λ l. began ++ l) (sym (lines_more line_of old r) ∙ ap (lines line_of) (sym t.ok)))
take_written line_of began r (Err Failed) old new before after t a n w = absurd (n refl)
take_written line_of began r (Err Memory) old new before after t a n w =
    let put : Appends (line_of r) (Err Memory) (began ++ lines line_of old) after = subst (λ h. IfSome h (λ bytes. Appends (line_of r) (Err Memory) bytes after)) w a in
    put.memory refl ∙ ap (λ rs. Some (began ++ lines line_of rs)) (sym t.err)
