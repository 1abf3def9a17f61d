-- The entry point answers by the rules on the bytes of tables that agree.
use mathlib.Core.Path.{◌≡◌, ap, ◌∙◌}
use mathlib.Core.List.{List}
use Prim.Native.Nat.{ℕ}
use Rattle.rules.specs.declared.Call.{Call}
use Rattle.rules.specs.Machine.{Tables}
use Rattle.rules.specs.Agreement.{Agrees}
use Rattle.rules.specs.Calls.{step}
use Rattle.tables.specs.Layout.{laid}
use Rattle.calls.proofs.Agreeing.{model_is, agreeing_laid}
use Rattle.manager.specs.Entry.{reply, reply_to}
use Rattle.manager.proofs.Tested.{passes}
use Rattle.manager.proofs.Runs.{reply_is}

pub entry_is : (t : Tables) → Agrees t → (bs : List ℕ) → bs ≡ laid t → (call : Call) (priorities : List ℕ)
    → reply_to bs call priorities ≡ reply (step t call priorities)
entry_is t a bs e call priorities =
    reply_is bs call priorities (passes (agreeing_laid t a bs e)) ∙ ap (λ (x : Tables). reply (step x call priorities)) (model_is t a bs e)
