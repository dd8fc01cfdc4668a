use Rattle.std.specs.Prelude.{◌%◌, ◌^◌}
use Rattle.opentelemetry_sdk.specs.Books.{count_in, sum_in}
use Rattle.opentelemetry_sdk.specs.Providers.{state_of}
use Rattle.otel_bench.proofs.workers.batches.Given as goal

abbrev pub ghosts-batches_by_ledgers-C-Ledger : goal.ghosts-batches_by_ledgers-C-Ledger
ghosts-batches_by_ledgers-C-Ledger a = record { name = a.records.name; parts = a.records.parts }

abbrev pub ghosts-batches_by_ledgers-C-Account : goal.ghosts-batches_by_ledgers-C-Account
ghosts-batches_by_ledgers-C-Account a = record { before = count_in (state_of a.provider) % 2 ^ 64 }

abbrev pub ghosts-batches_by_ledgers-S-Ledger : goal.ghosts-batches_by_ledgers-S-Ledger
ghosts-batches_by_ledgers-S-Ledger a = record { name = a.values.name; parts = a.values.parts }

abbrev pub ghosts-batches_by_ledgers-S-Account : goal.ghosts-batches_by_ledgers-S-Account
ghosts-batches_by_ledgers-S-Account a = record { before = sum_in (state_of a.provider) % 2 ^ 64 }
