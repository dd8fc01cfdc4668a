use Rattle.std.specs.Prelude.{◌%◌, ◌^◌}
use Rattle.opentelemetry_sdk.specs.Books.{count_in, sum_in}
use Rattle.opentelemetry_sdk.specs.Providers.{state_of}
use Rattle.otel_bench.proofs.refused_memory.shared.share.Given as goal

abbrev pub ghosts-share_with-C-Ledger : goal.ghosts-share_with-C-Ledger
ghosts-share_with-C-Ledger g a = record { name = a.records.name; parts = a.records.parts }

abbrev pub ghosts-share_with-C-Account : goal.ghosts-share_with-C-Account
ghosts-share_with-C-Account g a = record { before = count_in (state_of a.provider) % 2 ^ 64 }

abbrev pub ghosts-share_with-S-Ledger : goal.ghosts-share_with-S-Ledger
ghosts-share_with-S-Ledger g a = record { name = a.values.name; parts = a.values.parts }

abbrev pub ghosts-share_with-S-Account : goal.ghosts-share_with-S-Account
ghosts-share_with-S-Account g a = record { before = sum_in (state_of a.provider) % 2 ^ 64 }
