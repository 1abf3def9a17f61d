use Rattle.std.proofs.Common.{◌∙◌, arith, sym}
use Rattle.state.proofs.Refused.{invalid, valid}
use borrow.Author.Tests.{eq-eqb, ne_eqb}
use Rattle.state.proofs.Editions.{numbers_within}
use Rattle.state.proofs.Filling.{rest_none, rest_more, no_length, too_long, beyond, slots_none, slots_more, slots_all}
use Rattle.state.proofs.reading.fill_slots.Goals as goal

pub loop-i-init : goal.loop-i-init
loop-i-init c =
    let first = c.args in
    record {
      within = omega arith;
      rest = rest_none first.file.now first.edition first.slots first.at first.queues first.end;
      stored = slots_none first.m.now first.file.now first.edition first.slots first.at first.queues first.end;
    }

pub returns-then-end-queue : goal.returns-then-end-queue
returns-then-end-queue c =
    let first = c.args in (
      invalid _ (sym (no_length first.file.now first.edition first.slots first.at first.queues first.end c.loop-i.i c.loop-i.queue c.loop-i.invariant.rest (omega arith) (omega arith))),
      λ t e free f. absurd (omega arith),
    )

pub returns-then-n-gt-MAX_TASKS : goal.returns-then-n-gt-MAX_TASKS
returns-then-n-gt-MAX_TASKS c =
    let first = c.args in (
      invalid _ (sym (too_long first.file.now first.edition first.slots first.at first.queues first.end c.loop-i.i c.loop-i.queue _ c.loop-i.invariant.rest (omega arith)
          c.word-n.ensures (omega arith) (omega arith))),
      λ t e free f. absurd (omega arith),
    )

pub returns-then-end-queue-2 : goal.returns-then-end-queue-2
returns-then-end-queue-2 c =
    let first = c.args in (
      invalid _ (sym (beyond first.file.now first.edition first.slots first.at first.queues first.end c.loop-i.i c.loop-i.queue _ c.loop-i.invariant.rest (omega arith)
          c.word-n.ensures (omega arith) (omega arith) (omega arith))),
      λ t e free f. absurd (omega arith),
    )

pub fill_slot-requires : goal.fill_slot-requires
fill_slot-requires c =
    let within = numbers_within c.args.edition c.loop-i.i c.args.slots (omega arith) in
    (omega arith, omega arith, omega arith, omega (arith, c.slot_numbers-numbers.ensures, c.requires.2), omega (arith, c.requires.4))

pub loop-i-preserved : goal.loop-i-preserved
loop-i-preserved c =
    let first = c.args in
    record {
      within = omega arith;
      rest =
          rest_more first.file.now first.edition first.slots first.at first.queues first.end c.loop-i.i c.loop-i.queue _ c.loop-i.invariant.rest (omega arith)
          c.word-n.ensures (omega arith) (omega arith) (omega arith);
      stored =
          slots_more first.m.now first.file.now first.edition first.slots first.at first.queues first.end c.loop-i.m _ c.loop-i.i c.loop-i.queue _ _
          c.loop-i.invariant.rest (omega arith) c.word-n.ensures (omega (arith, c.slot_numbers-numbers.ensures)) c.loop-i.invariant.stored c.fill_slot.ensures;
    }

pub returns-then-queue-end : goal.returns-then-queue-end
returns-then-queue-end c =
    let first = c.args in
    let filled =
    slots_all first.m.now first.file.now first.edition first.slots first.at first.queues first.end c.loop-i.m c.loop-i.i c.loop-i.queue (omega arith)
    c.loop-i.invariant.rest c.loop-i.invariant.stored
    in
    let all = eq-eqb c.loop-i.queue first.end c.if-queue-end.true in
    (valid _ (sym filled.0 ∙ all), λ t e free z. filled.1 t e free all)

pub returns-else-queue-end : goal.returns-else-queue-end
returns-else-queue-end c =
    let first = c.args in
    let filled =
    slots_all first.m.now first.file.now first.edition first.slots first.at first.queues first.end c.loop-i.m c.loop-i.i c.loop-i.queue (omega arith)
    c.loop-i.invariant.rest c.loop-i.invariant.stored
    in
    (invalid _ (sym filled.0 ∙ ne_eqb c.loop-i.queue first.end c.if-queue-end.false), λ t e free z. absurd (omega (arith, z)))
