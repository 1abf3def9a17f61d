use Rattle.std.proofs.Common.{arith, refl, get_or}
use Rattle.rules.specs.Machine.{unstarted, with_tasks, no_task}
use Rattle.rules.proofs.Choosing.{not_beyond}
use Rattle.records.specs.Beside.{goes_by, next_of}
use Rattle.records.proofs.Along.{urgent_more, all_seen}
use Rattle.records.proofs.mast_next_task.Goals as goal
use Rattle.records.proofs.mast_next_task.Goals.{in-Some, in_default}

pub loop-q-init : goal.loop-q-init
unfolding next_of
loop-q-init c = refl

pub loop-q-preserved : goal.loop-q-preserved
loop-q-preserved c =
    let ts = c.args.tasks.now in
    let rs = c.args.ready.now in
    let ws = c.args.working.now in
    let best = c.loop-q.best in
    let k = c.loop-q.q-index in
    let q = get_or rs k 0 in
    urgent_more ts rs ws k best.task best.priority q _ _ (omega arith) refl c.loop-q.invariant
    (λ qs. elim c.match-get.branch [
      | in-Some w ↦
          let read = rw w.in-Some.is at (c.get.ensures.lookup.4 (omega arith) no_task) in
          rw w.best-is (w.better-best.ensures (with_tasks unstarted ts) (goes_by ts ws) qs refl (λ _. cc (read, c.index_of.ensures, w.goes_by.ensures)))
      | in_default w ↦
          let l = rw w.in_default.is at c.get.ensures.lookup.3 in
          rw w.best-is (not_beyond (with_tasks unstarted ts) (goes_by ts ws) q best.task best.priority (rw c.index_of.ensures at l) qs)
    ])

pub returns : goal.returns
returns c = all_seen c.args.tasks.now c.args.ready.now c.args.working.now c.loop-q.q-index c.loop-q.best.task c.loop-q.best.priority (omega arith) (omega arith) c.loop-q.invariant
