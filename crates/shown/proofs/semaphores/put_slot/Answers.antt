-- `shown::semaphores::put_slot` meets its contract: the line of the slot that was loaded, if it is live.
use mathlib.Core.Path.{sym, ap, subst}
use mathlib.Core.List.{List, []}
use Prim.Native.Nat.{ℕ, suc, ◌≤◌}
use native.Mathlib.Numerals.{add-one}
use native.Mathlib.Omega.{arith}
use borrow.Author.Tests.{eq-eqb, ne_eqb}
use Rattle.laws.specs.Choose.{choose}
use Rattle.rules.specs.Machine.{Slot, is_live}
use Rattle.semaphore.specs.declared.Semaphore.{Semaphore}
use Rattle.semaphore.specs.Record.{slot_from}
use Rattle.calls.proofs.Agreeing.{sized}
use Rattle.shown.specs.Shown.{slot_line, semaphore_line, kind_text}
use Rattle.shown.proofs.Putting.{◌then◌, puts_as, puts_none, puts_yes, puts_no}
use Rattle.shown.proofs.Reading.{slot_loaded, generation_few, waiters_few}
use Rattle.shown.proofs.semaphores.put_slot.Goals as goal

abbrev line_of : ℕ → Slot → List ℕ
line_of i s = choose (is_live s) (semaphore_line (suc i) s) []

pub returns-then-s-ne1 : goal.returns-then-s-ne1
unfolding slot_line
returns-then-s-ne1 c =
    let i = c.args.i in
    let loaded = c.slot-s in
    puts_as (ap (line_of i) (slot_loaded c.args.v.bytes.now i c.requires.1 loaded.result loaded.ensures))
    (puts_no _ (ne_eqb _ _ c.if-s-ne1.true) puts_none)

pub put_kind-requires : goal.put_kind-requires
put_kind-requires c =
    let i = c.args.i in (
      omega (arith, (sized c.requires.0).slots, c.requires.1),
      subst (λ (v : Semaphore). v.generation ≤ 65535) (sym c.slot-s.ensures) (generation_few c.requires.0 i c.requires.1),
    )

pub put_holders-requires : goal.put_holders-requires
put_holders-requires c =
    subst (λ (v : Semaphore). v.waiters ≤ 32) (sym c.slot-s.ensures) (waiters_few c.requires.0 c.args.i c.requires.1)

pub returns : goal.returns
unfolding slot_line semaphore_line
returns c =
    let loaded = c.slot-s in
    let i = c.args.i in
    let whole = puts_as (ap (λ (n : ℕ). kind_text n (slot_from loaded.result)) (add-one i)) c.put_kind.ensures then c.put_holders.ensures in
    puts_as (ap (line_of i) (slot_loaded c.args.v.bytes.now i c.requires.1 loaded.result loaded.ensures))
    (puts_yes _ (eq-eqb _ _ c.if-s-ne1.false) whole)
