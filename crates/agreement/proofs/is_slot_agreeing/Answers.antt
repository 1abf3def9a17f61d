-- `agreement::is_slot_agreeing` meets its contract: each return is a case of the slot's test.
use mathlib.Core.Path.{◌≡◌, ap, sym, ◌∙◌}
use Prim.Native.Nat.{ℕ}
use native.Mathlib.Omega.{arith}
use lib.ListN.{length}
use borrow.Author.Tests.{lt-leb}
use Rattle.rules.specs.Machine.{Slot}
use Rattle.tables.specs.Layout.{slot_with}
use Rattle.tables.specs.View.{seen}
use Rattle.lookup.proofs.Model.{length_tasks}
use Rattle.agreement.specs.Tests.{head_agrees}
use Rattle.agreement.proofs.Slots.{too_late, neither, free, wrong_head, live}
use Rattle.agreement.proofs.Model.{queue_in, head_length, slot_told, told_queue}
use Rattle.agreement.proofs.is_slot_agreeing.Lts as lts
use Rattle.agreement.proofs.is_slot_agreeing.Tie as tie
use Rattle.agreement.proofs.is_slot_agreeing.Reads as reads
use Rattle.agreement.proofs.is_slot_agreeing.Goals as goal

pub returns-else-s-le-MAX_GENERATION : goal.returns-else-s-le-MAX_GENERATION
returns-else-s-le-MAX_GENERATION c =
    slot_told _ c.requires.0 _ c.requires.1 _ c.head-s.ensures _ _ _
    (rw (lt-leb _ _ c.if-s-le-MAX_GENERATION.false) (too_late _ _ _ _ _ c.if-s-le-MAX_GENERATION.false))

pub returns-in-0 : goal.returns-in-0
returns-in-0 c =
    slot_told _ c.requires.0 _ c.requires.1 _ c.head-s.ensures _ _ _
    (free _ _ _ _ c.if-s-le-MAX_GENERATION.true _ c.in-0.is (c.is_clear.ensures _ (head_length _ c.requires.0 _ c.requires.1 _ c.head-s.ensures)))

pub returns-in_default : goal.returns-in_default
returns-in_default c =
    slot_told _ c.requires.0 _ c.requires.1 _ c.head-s.ensures _ _ _
    (neither _ _ _ _ c.if-s-le-MAX_GENERATION.true _ (λ (z : c.head-s.result.live ≡ 0). omega arith) (λ (o : c.head-s.result.live ≡ 1). omega arith))

-- the head's test with the model's N
abbrev After-is_head_agreeing : Type 0
After-is_head_agreeing = lts.After-is_head_agreeing tie.the-claims reads.Pre reads.Post

headed : (c : After-is_head_agreeing)
    → c.is_head_agreeing.result
    ≡ head_agrees (length (seen c.args.v).tasks) (slot_with c.head-s.result (queue_in c.args.v.bytes.now c.args.i))
headed c =
    let s : Slot = slot_with c.head-s.result (queue_in c.args.v.bytes.now c.args.i) in
    c.is_head_agreeing.ensures s.queue (head_length _ c.requires.0 _ c.requires.1 _ c.head-s.ensures)
    ∙ ap (λ (N : ℕ). head_agrees N s) (c.task_count.ensures ∙ sym (length_tasks c.args.v.bytes.now))

pub returns-else-is_head_agreeing : goal.returns-else-is_head_agreeing
returns-else-is_head_agreeing c =
    slot_told _ c.requires.0 _ c.requires.1 _ c.head-s.ensures _ _ _
    (rw c.if-is_head_agreeing.false (wrong_head _ _ _ _ c.if-s-le-MAX_GENERATION.true c.in-1.is _ (sym (headed c.before) ∙ c.if-is_head_agreeing.false)))

pub returns-then-is_head_agreeing : goal.returns-then-is_head_agreeing
returns-then-is_head_agreeing c =
    slot_told _ c.requires.0 _ c.requires.1 _ c.head-s.ensures _ _ _
    (live _ _ _ _ c.if-s-le-MAX_GENERATION.true c.in-1.is _ _ _ (sym (headed c.before.before.before.before) ∙ c.if-is_head_agreeing.true) c.id_of.ensures
    (told_queue _ c.requires.0 _ c.requires.1 _ c.head-s.ensures _ _ _ _ c.is_queue_agreeing.ensures))
