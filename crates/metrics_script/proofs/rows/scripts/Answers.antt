use Rattle.metrics_script.proofs.RowsScripts.{no_lines}
use Rattle.metrics_script.proofs.rows.scripts.Goals as goal

pub returns : goal.returns
returns c = record { no_lines = no_lines }
