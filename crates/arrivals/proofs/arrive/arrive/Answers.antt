-- `arrive` meets its contract: what the judgement says comes of it (Arriving).
use Rattle.arrivals.proofs.Arriving.{promise_runs, runs_few, runs_midway, runs_takes, waits_room}
use Rattle.arrivals.proofs.Releasing.{next_fits}
use Rattle.arrivals.proofs.arrive.arrive.Goals as goal

pub judge-requires-clause-kept : goal.judge-requires-clause-kept
judge-requires-clause-kept c = record { heads = c.args.executed.now.heads; kept = c.requires.kept }

pub push-requires : goal.push-requires
push-requires c = let k = c.requires.kept in (k.queued, waits_room _ _ _ k c.args.h.now c.in-Waits.short (rw c.in-Waits.is at c.in_ok-judge.ensures))

pub overflow_add-past : goal.overflow_add-past
overflow_add-past c =
    next_fits c.in-Executes.past (runs_few _ _ _ c.requires.kept c.args.h.now c.requires.fit c.in-Executes.past (rw c.in-Executes.is at c.in_ok-judge.ensures))

pub execute-requires : goal.execute-requires
execute-requires c =
    rw c.with_past.ensures (runs_takes _ _ _ c.requires.kept c.args.h.now c.requires.fit c.in-Executes.past (rw c.in-Executes.is at c.in_ok-judge.ensures))

pub release-done-requires : goal.release-done-requires
release-done-requires c =
    runs_midway _ _ _ c.requires.kept c.args.h.now c.requires.fit c.in-Executes.past (rw c.in-Executes.is at c.in_ok-judge.ensures) _ (rw c.with_past.ensures at c.execute.ensures)

pub returns-in-Executes : goal.returns-in-Executes
returns-in-Executes c =
    promise_runs _ _ _ c.requires.kept c.args.h.now c.requires.fit c.in-Executes.past (rw c.in-Executes.is at c.in_ok-judge.ensures) _
    (rw c.with_past.ensures at c.execute.ensures) _ _ c.release-done.result c.release-done.ensures
