-- `state::reading::fill` meets its contract: the counts, the tasks, the slots with their queues, and the sequence.
use Rattle.std.proofs.Common.{◌≡◌, ◌∙◌, ap, arith, sym}
use Rattle.std.proofs.lemmas.Result.{err_from_is_err_and}
use Rattle.rules.proofs.Refused.{refused}
use Rattle.rules.specs.Status.{status}
use Rattle.state.specs.Shape.{unless_invalid}
use Rattle.state.proofs.Shape.{headed_of, headed_counts}
use Rattle.state.proofs.Filling.{queues_tested, tables_filled}
use Rattle.state.proofs.reading.fill.Goals as goal

pub counts_in-c-requires : goal.counts_in-c-requires
counts_in-c-requires c = omega (arith, (headed_of _ c.requires.1).long)

pub fill_tasks-requires : goal.fill_tasks-requires
fill_tasks-requires c =
    let h = headed_counts c.args.file.now c.counts_in-c.result c.counts_in-c.ensures c.requires.1 in
    (omega arith, h.0.tasks, omega (arith, h.1))

pub ready_start-ready-requires : goal.ready_start-ready-requires
ready_start-ready-requires c = (headed_counts c.args.file.now c.counts_in-c.result c.counts_in-c.ensures c.requires.1).0

pub slots_start-requires : goal.slots_start-requires
slots_start-requires c = (headed_counts c.args.file.now c.counts_in-c.result c.counts_in-c.ensures c.requires.1).0

pub queues_start-requires : goal.queues_start-requires
queues_start-requires c = (headed_counts c.args.file.now c.counts_in-c.result c.counts_in-c.ensures c.requires.1).0

pub fill_slots-requires : goal.fill_slots-requires
fill_slots-requires c =
    let h = headed_counts c.args.file.now c.counts_in-c.result c.counts_in-c.ensures c.requires.1 in (
      omega arith,
      h.0.slots,
      omega (arith, h.1, c.slots_start.ensures),
      omega (arith, c.queues_start.ensures, c.ready_start-ready.ensures),
      omega (arith, h.1, c.ready_start-ready.ensures),
    )

pub returns-in_err-fill_slots : goal.returns-in_err-fill_slots
returns-in_err-fill_slots c =
    let tested =
    queues_tested c.args.file.now c.counts_in-c.result c.queues_start.result c.ready_start-ready.result c.counts_in-c.ensures c.queues_start.ensures
    c.ready_start-ready.ensures
    in
    let p = err_from_is_err_and c.from_residual.result c.from_residual.ensures.1 in
    let some = refused c.in_err-fill_slots.field-0.0 in
    rw (p.1, p.2) (c.in_err-fill_slots.ensures.0 ∙ ap unless_invalid tested, λ e z. absurd (omega (arith, some, z)))

pub fill_ready-requires : goal.fill_ready-requires
fill_ready-requires c =
    let h = headed_counts c.args.file.now c.counts_in-c.result c.counts_in-c.ensures c.requires.1 in
    (omega (arith, c.requires.0), h.0.ready, omega (arith, h.1, c.ready_start-ready.ensures))

pub returns : goal.returns
returns c =
    let first = c.args in
    let done : status c.fill_slots.result ≡ 0 = ap status c.in_ok-fill_slots.was in (
      sym done ∙ c.fill_slots.ensures.0
          ∙ ap unless_invalid
          (queues_tested first.file.now c.counts_in-c.result c.queues_start.result c.ready_start-ready.result c.counts_in-c.ensures c.queues_start.ensures
          c.ready_start-ready.ensures),
      λ e f.
          tables_filled first.file.now c.counts_in-c.result c.queues_start.result c.ready_start-ready.result c.counts_in-c.ensures
          c.queues_start.ensures c.ready_start-ready.ensures first.m.now _ _ _ _ _ c.slots_start.ensures
          c.store_counts.ensures c.fill_tasks.ensures (λ t l free. c.fill_slots.ensures.1 t l free done)
          c.fill_ready.ensures e,
    )
