-- A refusal's status number is never 0, which is no refusal.
use Prim.Native.Nat.{◌≤◌}
use native.Mathlib.Omega.{arith}
use Rattle.rules.specs.declared.refusal.Refusal.{Refusal}
use Rattle.rules.specs.declared.refusal.Refusal.TheVariants.{InvalidName, InvalidId, TooMany, InvalidSize, InvalidNumber, NotDefined, ResourceInUse}
use Rattle.rules.specs.declared.refusal.Refusal.TheVariants.{Unsatisfied, IncorrectState, CalledFromIsr, InvalidPriority, NotOwnerOfResource, InternalError}
use Rattle.rules.specs.Status.{status_of}

pub refused : (e : Refusal) → 1 ≤ status_of e
refused InvalidName = omega arith
refused InvalidId = omega arith
refused TooMany = omega arith
refused InvalidSize = omega arith
refused InvalidNumber = omega arith
refused NotDefined = omega arith
refused ResourceInUse = omega arith
refused Unsatisfied = omega arith
refused IncorrectState = omega arith
refused CalledFromIsr = omega arith
refused InvalidPriority = omega arith
refused NotOwnerOfResource = omega arith
refused InternalError = omega arith
