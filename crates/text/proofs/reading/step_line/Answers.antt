-- A row of the step's kind, or of none.
use mathlib.Core.Path.{◌≡◌, sym, ap, ◌∙◌}
use Prim.Native.Nat.{ℕ, ◌-◌}
use native.Mathlib.Omega.{arith}
use Rattle.text.specs.Spoken.{said_of}
use Rattle.text.specs.Reading.{Reading, row_line, step_line}
use Rattle.text.specs.Feeding.{Lent, lent, room_of, reading_of}
use Rattle.text.proofs.Lines.{leaves_as}
use Rattle.text.proofs.ByWord.{said_some, step_some, step_row, step_none, step_nothing}
use Rattle.text.proofs.reading.step_line.Goals as goal
use Rattle.text.proofs.reading.step_line.Goals.{in_default-via-in-Some+else-is_step, in_default-via-in_default}

pub overflow_sub-number : goal.overflow_sub-number
overflow_sub-number c = omega (arith, c.number.ensures, step_some _ (sym c.is_step.ensures ∙ c.if-is_step.true))

pub returns-in-Some : goal.returns-in-Some
returns-in-Some c =
    let o = c.args in
    λ bytes ids cells locals events i.
    let l : Lent = lent bytes ids cells locals o.scripts.now events in
    let r : Reading = reading_of o.at l in
    leaves_as
    (ap (λ (n : ℕ). row_line (room_of l) r (n - 10) c.number_at-a.result c.number_at-b.result 0) c.number.ensures
    ∙ step_row (room_of l) r _ _ (sym c.is_step.ensures ∙ c.if-is_step.true) c.number_at-a.ensures c.number_at-b.ensures
    ∙ sym (ap (step_line (room_of l) r) (said_some c.in-Some.is c.in-Some.field-0-is)))
    (c.row_line.ensures bytes ids cells locals events i)

pub returns-in_default : goal.returns-in_default
returns-in_default c =
    let o = c.args in
    λ bytes ids cells locals events i.
    let l : Lent = lent bytes ids cells locals o.scripts.now events in
    let r : Reading = reading_of o.at l in
    let none : row_line (room_of l) r 0 0 0 0 ≡ step_line (room_of l) r (said_of o.spoken) =
    elim c.in_default.branch [
      | in_default-via-in-Some+else-is_step w ↦ step_none (room_of l) r _ _ (sym w.is_step.ensures ∙ w.if-is_step.false) ∙ sym
          (ap (step_line (room_of l) r) (said_some w.in-Some.is w.in-Some.field-0-is))
      | in_default-via-in_default w ↦ step_nothing (room_of l) r ∙ sym (ap (step_line (room_of l) r) (ap said_of w.in_default.is))
    ] in
    leaves_as none (c.row_line-in_default.ensures bytes ids cells locals events i)
