use Rattle.std.specs.Prelude.{◌%◌, ◌^◌}
use Rattle.otel_model.specs.Books.{count_in, sum_in}
use Rattle.opentelemetry_sdk.specs.Providers.{state_of}
use Rattle.otel_tests.proofs.tests.scripts.batches.replies_by_worker.Given as goal

abbrev pub ghosts-share-C-Ledger : goal.ghosts-share-C-Ledger
ghosts-share-C-Ledger g a = record { name = a.records.name; parts = a.records.parts }

abbrev pub ghosts-share-C-Account : goal.ghosts-share-C-Account
ghosts-share-C-Account g a = record { before = count_in (state_of a.provider) % 2 ^ 64 }

abbrev pub ghosts-share-S-Ledger : goal.ghosts-share-S-Ledger
ghosts-share-S-Ledger g a = record { name = a.values.name; parts = a.values.parts }

abbrev pub ghosts-share-S-Account : goal.ghosts-share-S-Account
ghosts-share-S-Account g a = record { before = sum_in (state_of a.provider) % 2 ^ 64 }
