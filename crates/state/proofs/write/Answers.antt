-- `state::write` meets its contract: each return is a case of the reply.
use Rattle.std.proofs.Common.{◌∙◌, arith, sym}
use Rattle.laws.proofs.Choose.{and_both}
use Rattle.tables.proofs.LayoutTest.{laid_bounded}
use Rattle.lookup.proofs.Model.{length_tasks}
use Rattle.agreement.specs.Bytes.{agrees_bytes}
use Rattle.manager.proofs.Tested.{passes}
use Rattle.state.proofs.Lengths.{small_counts, file_counted, file_longest}
use Rattle.state.proofs.Entry.{unstarted_written, short_written, done_written}
use Rattle.state.proofs.write.Goals as goal

pub returns-then-task_count-eq0 : goal.returns-then-task_count-eq0
returns-then-task_count-eq0 c = unstarted_written _ _ (omega (arith, length_tasks c.args.v.bytes.now, c.task_count.ensures, c.if-task_count-eq0.true))

pub file_end-length-requires : goal.file_end-length-requires
file_end-length-requires c =
    small_counts c.requires _ c.counts_of-c.ensures (λ e. c.if-task_count-eq0.false (c.task_count.ensures ∙ sym (length_tasks c.args.v.bytes.now) ∙ e))

pub overflow_mul-length : goal.overflow_mul-length
overflow_mul-length c =
    omega (arith, file_counted c.requires _ c.counts_of-c.ensures _ c.file_end-length.ensures, file_longest _ c.requires.agrees)

pub returns-then-file-length : goal.returns-then-file-length
returns-then-file-length c =
    short_written _ _ (λ e. c.if-task_count-eq0.false (c.task_count.ensures ∙ sym (length_tasks c.args.v.bytes.now) ∙ e))
    (omega (arith, c.if-file-length.true, file_counted c.requires _ c.counts_of-c.ensures _ c.file_end-length.ensures))

pub write-requires : goal.write-requires
write-requires c = (
  laid_bounded _ (unfold agrees_bytes in (and_both _ _ (passes c.requires)).0),
  small_counts c.requires _ c.counts_of-c.ensures (λ e. c.if-task_count-eq0.false (c.task_count.ensures ∙ sym (length_tasks c.args.v.bytes.now) ∙ e)),
  c.counts_of-c.ensures,
  omega (arith, c.if-file-length.false, c.file_end-length.ensures),
)

pub overflow_cast-result : goal.overflow_cast-result
overflow_cast-result c =
    omega (arith, file_counted c.requires _ c.counts_of-c.ensures _ c.file_end-length.ensures, file_longest _ c.requires.agrees)

pub returns : goal.returns
returns c =
    done_written _ _ (λ e. c.if-task_count-eq0.false (c.task_count.ensures ∙ sym (length_tasks c.args.v.bytes.now) ∙ e)) _
    (file_counted c.requires _ c.counts_of-c.ensures _ c.file_end-length.ensures) (omega (arith, c.if-file-length.false)) _ c.write.ensures
