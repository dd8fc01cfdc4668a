use Rattle.std.proofs.Common.{◌≡◌, Ok, Err, ◌<◌, length, [], ◌∷◌, ◌++◌, map, arith, add-one, length-append}
use Rattle.std.proofs.lemmas.Grind.{common_steps}
use Rattle.std.proofs.lemmas.List.{length-map}
use Rattle.otel_stream.proofs.Runs.{ran_more, ran_last, oks_more, joined_more, ends_without_memory, ends_with_fault}
use Rattle.otel_stream.proofs.registered.run_callbacks.Goals as goal

pub returns-in-Err : goal.returns-in-Err
returns-in-Err g c =
    let h = c.loop-callback.invariant in
    let within : c.loop-callback.callback-index < length c.loop-callback.callbacks = omega arith in (
      map Ok h.0 ++ Err c.in-Err.fault ∷ [],
      ran_last _ _ _ _ (map Ok h.0) c.callback-item.result c.run.new.self (Err c.in-Err.fault) (simp length-map h.3) h.1 within c.in-Err.ensures,
      ends_with_fault h.0 c.in-Err.fault,
    )

pub returns-then-is_err : goal.returns-then-is_err
returns-then-is_err g c =
    let h = c.loop-callback.invariant in
    let within : c.loop-callback.callback-index < length c.loop-callback.callbacks = omega arith in (
      map Ok h.0 ++ Ok c.in-Ok.more.items ∷ [],
      ran_last _ _ _ _ (map Ok h.0) c.callback-item.result c.run.new.self (Ok c.in-Ok.more.items) (simp length-map h.3) h.1 within c.in-Ok.ensures,
      rw (← oks_more) (ends_without_memory (h.0 ++ c.in-Ok.more.items ∷ [])),
    )

pub loop-callback-preserved : goal.loop-callback-preserved
loop-callback-preserved g c =
    let h = c.loop-callback.invariant in
    let within : c.loop-callback.callback-index < length c.loop-callback.callbacks = omega arith in
    let grown : c.append.new.self.items ≡ c.loop-callback.observed.items ++ c.in-Ok.more.items = grind (arith, common_steps) in (
      h.0 ++ c.in-Ok.more.items ∷ [],
      rw (oks_more, add-one) (ran_more _ _ _ _ (map Ok h.0) c.callback-item.result c.run.new.self (Ok c.in-Ok.more.items) h.1 within c.in-Ok.ensures),
      rw (joined_more, ← h.2) grown,
      simp length-append (omega arith),
    )

pub returns : goal.returns
returns g c =
    let h = c.loop-callback.invariant in
    let all : c.loop-callback.callback-index ≡ length c.args.callbacks.now = omega arith in
    (h.0, rw (← all) h.1, h.2)
