use Rattle.std.proofs.Common.{◌≡◌, ◌++◌, List, ℕ, drop}
use Rattle.bgp_text.specs.Lines.{Writes}
use Rattle.bgp_why.specs.Errors.{errors_in, errors_text}
use Rattle.bgp_why.proofs.Waiting.{IsWaiting, left}
use Rattle.bgp_why.proofs.errors.put_errors.Given as goal

-- what is written and what is left to write are all errors
abbrev pub invariant-loop-error : goal.invariant-loop-error
invariant-loop-error g l =
    (text : List ℕ) × Writes l.fn.lines l.lines text
    × (text ++ left l.word l.waiting (errors_in (drop l.error-index l.errors)) ≡ errors_text l.fn.word (errors_in l.fn.errors))
    × IsWaiting l.waiting
