-- `calls::tick::elapse` meets its contract: the tables a tick later.
use Rattle.tables.specs.Layout.{model_of}
use Rattle.calls.proofs.Doing.{has_done}
use Rattle.calls.proofs.Ticking.{tick_done, limited, timed_room, task_queues}
use Rattle.calls.proofs.tick.elapse.Goals as goal

pub tick_tables-requires : goal.tick_tables-requires
tick_tables-requires c = task_queues c.requires

pub returns : goal.returns
returns c =
    let t = model_of c.args.m.now in
    has_done 0 _ (tick_done t) (c.tick_tables.ensures t c.requires.same (limited t c.requires.agrees) (timed_room t c.requires.agrees))
