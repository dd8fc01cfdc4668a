use Rattle.std.proofs.Common.{flat_map, take}
use Rattle.std.specs.Io.KnownBytes.{Appends}
use Rattle.metrics_script.specs.Exports.{reply_text}
use Rattle.metrics_script.proofs.exports.print_collections.Given as goal

-- what the replies so far are printed as was written
abbrev pub invariant-loop-reply : goal.invariant-loop-reply
invariant-loop-reply g l = Appends (g.W.Write.contents l.fn.output) (g.W.Write.contents l.output) (flat_map (reply_text l.form) (take l.reply-index l.replies))
