-- How a script can end.
use Rattle.std.specs.Prelude.{ℕ}
use Rattle.metrics_script.specs.declared.failures.Failure.{Failure}
use Rattle.metrics_script.specs.declared.failures.Failure.TheVariants.{BadLine, OutOfMemory, InputOrOutput, BadArguments}

-- the exit status of the program
abbrev pub status_of : Failure → ℕ
status_of (BadLine _) = 2
status_of OutOfMemory = 3
status_of InputOrOutput = 4
status_of BadArguments = 2
