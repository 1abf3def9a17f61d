-- `runner::settle::obtainer_of` meets its contract: the kind of the call says it.
use Rattle.std.proofs.Common.{sym, ap}
use Rattle.laws.specs.Choose.{choose}
use Rattle.rules.specs.declared.Call.{Call}
use Rattle.rules.specs.Promises.{kind_of}
use Rattle.sections.specs.Run.{obtainer_of}
use Rattle.runner.proofs.Telling.{none_obtains}
use Rattle.runner.proofs.settle.obtainer_of.Goals as goal

pub returns-in-Obtain : goal.returns-in-Obtain
unfolding kind_of choose
returns-in-Obtain c = sym (ap (λ (x : Call). obtainer_of x) c.in-Obtain.is)

pub returns-in_default : goal.returns-in_default
returns-in_default c = none_obtains c.args.call c.in_default.not-Obtain
