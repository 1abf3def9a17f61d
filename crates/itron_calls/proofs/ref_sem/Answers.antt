use mathlib.Core.Path.{sym, refl, ◌∙◌}
use mir.Syntax.{w32}
use mir.ValLaws.{to_z_pos}
use Rattle.itron.proofs.Signed.{got}
use Rattle.itron_calls.proofs.Telling.{names_slot, slot_there, count_few, reads}
use Rattle.itron_calls.proofs.ref_sem.Goals as goal

pub returns-in_default : goal.returns-in_default
returns-in_default c =
    absurd (names_slot c.args.m.now c.args.list.now c.args.semid (sym c.if-not-is_agreeing.ensures.both) (c.if-not-is_agreeing.ensures.tables refl) c.new-v.ensures
    c.in-Ok.ensures.id c.in_default.ensures)

pub head-s-requires : goal.head-s-requires
head-s-requires c =
    slot_there c.args.m.now c.args.list.now c.args.semid (sym c.if-not-is_agreeing.ensures.both) (c.if-not-is_agreeing.ensures.tables refl) c.new-v.ensures
    c.in-Ok.ensures.id c.in-Some.ensures

pub overflow_cast-result : goal.overflow_cast-result
overflow_cast-result c = record {
  sfits = count_few c.args.m.now c.args.list.now c.args.semid (sym c.if-not-is_agreeing.ensures.both) (c.if-not-is_agreeing.ensures.tables refl) c.new-v.ensures
      c.in-Ok.ensures.id c.in-Some.ensures c.head-s.ensures;
}

pub returns-in-Some : goal.returns-in-Some
returns-in-Some c =
    reads c.args.m.now c.args.list.now c.args.semid (sym c.if-not-is_agreeing.ensures.both) (c.if-not-is_agreeing.ensures.tables refl) c.new-v.ensures
    c.in-Ok.ensures.id c.in-Some.ensures
    c.head-s.ensures c.args.caller c.in-Ok.ensures.code c.next_task-next.ensures (got c.wtsk_of.type_inv ∙ c.wtsk_of.ensures)
    (to_z_pos w32 c.head-s.result.count (count_few c.args.m.now c.args.list.now c.args.semid (sym c.if-not-is_agreeing.ensures.both) (c.if-not-is_agreeing.ensures.tables refl) c.new-v.ensures
    c.in-Ok.ensures.id c.in-Some.ensures c.head-s.ensures))
