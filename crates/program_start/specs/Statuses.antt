-- The status of a program that can't run.
use Rattle.std.specs.Prelude.{ℕ}
use Rattle.program_start.specs.declared.no_start.NoStart.{NoStart}
use Rattle.program_start.specs.declared.no_start.NoStart.TheVariants.{Fault, Memory}

-- neither is the status of a run that came to an answer
abbrev pub status_without : NoStart → ℕ
status_without Fault = 5
status_without Memory = 6
