-- `state::writing::write` meets its contract.
use native.Mathlib.Omega.{arith}
use Rattle.tables.specs.Layout.{model_of}
use Rattle.state.proofs.Written.{tasks_end, slots_end, queues_end, ready_end, file_written}
use Rattle.state.proofs.writing.write.Goals as goal

pub write_tasks-requires : goal.write_tasks-requires
write_tasks-requires c =
    let t = model_of c.args.v.bytes.now in
    (c.requires.0, omega (arith, c.write.auto, tasks_end t c.args.c c.requires.2))

pub write_slots-requires : goal.write_slots-requires
write_slots-requires c =
    let t = model_of c.args.v.bytes.now in
    (c.requires.0, omega (arith, c.write.auto, c.write_tasks.auto, c.slots_start.ensures, slots_end t c.args.c c.requires.2))

pub write_queues-requires : goal.write_queues-requires
write_queues-requires c =
    let t = model_of c.args.v.bytes.now in (
      c.requires.0,
      omega (
        arith,
        c.write.auto,
        c.write_tasks.auto,
        c.write_slots.auto,
        c.queues_start.ensures,
        queues_end t c.args.c c.requires.2,
      ),
    )

pub write_ready-requires : goal.write_ready-requires
write_ready-requires c =
    let t = model_of c.args.v.bytes.now in (
      c.requires.0,
      omega (
        arith,
        c.write.auto,
        c.write_tasks.auto,
        c.write_slots.auto,
        c.write_queues.auto,
        c.ready_start.ensures,
        ready_end t c.args.c c.requires.2,
      ),
    )

pub returns : goal.returns
returns c =
    let t = model_of c.args.v.bytes.now in
    file_written t c.args.c c.requires.2 _ _ _ c.slots_start.ensures c.queues_start.ensures
    c.ready_start.ensures c.args.file.now _ _ _ _ _ c.write.ensures c.write_tasks.ensures
    c.write_slots.ensures c.write_queues.ensures c.write_ready.ensures
