use Rattle.std.specs.Prelude.{◌%◌, ◌^◌}
use Rattle.opentelemetry_sdk.specs.Books.{count_in, sum_in}
use Rattle.opentelemetry_sdk.specs.Providers.{state_of}
use Rattle.otel_bench.proofs.threads.by_workers.Given as goal

abbrev pub ghosts-by_ledgers-C-Ledger : goal.ghosts-by_ledgers-C-Ledger
ghosts-by_ledgers-C-Ledger g a = record { name = a.records.name; parts = a.records.parts }

abbrev pub ghosts-by_ledgers-C-Account : goal.ghosts-by_ledgers-C-Account
ghosts-by_ledgers-C-Account g a = record { before = count_in (state_of a.provider) % 2 ^ 64 }

abbrev pub ghosts-by_ledgers-S-Ledger : goal.ghosts-by_ledgers-S-Ledger
ghosts-by_ledgers-S-Ledger g a = record { name = a.values.name; parts = a.values.parts }

abbrev pub ghosts-by_ledgers-S-Account : goal.ghosts-by_ledgers-S-Account
ghosts-by_ledgers-S-Account g a = record { before = sum_in (state_of a.provider) % 2 ^ 64 }
