use Rattle.std.proofs.Common.{Some, sym, ap, ◌∙◌}
use Rattle.laws.specs.Choose.{isnt}
use Rattle.sections.specs.Refusals.{has_script, is_allowed}
use Rattle.encoding.specs.Kinds.{event_from}
use Rattle.encoding.proofs.Every.{not_isnt}
use Rattle.refusals.specs.Tests.{input_with, scripts_alone}
use Rattle.refusals.proofs.tests.is_allowed.Goals as goal

pub returns-in-Call : goal.returns-in-Call
returns-in-Call c =
    let ns = c.args.scripts.now in
    λ ids memory.
    not_isnt _
    ∙ ap isnt (c.has_script-in-Call.ensures ∙ ap (has_script (scripts_alone ns)) c.caller_of.ensures)
    ∙ sym (ap (λ x. is_allowed (input_with ns ids memory) (event_from x)) (c.in-Some.is ∙ ap Some c.in-Call.is))
