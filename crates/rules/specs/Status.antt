-- The status number of each refusal, and of what a call or a check gives: 0 is no refusal.
use Rattle.std.specs.Prelude.{ℕ, Result, Ok, Err}
use Rattle.rules.specs.declared.refusal.Refusal.{Refusal}
use Rattle.rules.specs.declared.refusal.Refusal.TheVariants.{InvalidName, InvalidId, TooMany, InvalidSize, InvalidNumber, NotDefined, ResourceInUse}
use Rattle.rules.specs.declared.refusal.Refusal.TheVariants.{Unsatisfied, IncorrectState, CalledFromIsr, InvalidPriority, NotOwnerOfResource, InternalError}

abbrev pub status_of : Refusal → ℕ
status_of InvalidName = 3
status_of InvalidId = 4
status_of TooMany = 5
status_of InvalidSize = 8
status_of InvalidNumber = 10
status_of NotDefined = 11
status_of ResourceInUse = 12
status_of Unsatisfied = 13
status_of IncorrectState = 14
status_of CalledFromIsr = 18
status_of InvalidPriority = 19
status_of NotOwnerOfResource = 23
status_of InternalError = 25

abbrev pub status : {A : Type 0} → Result A Refusal → ℕ
status (Ok x) = 0
status (Err e) = status_of e
