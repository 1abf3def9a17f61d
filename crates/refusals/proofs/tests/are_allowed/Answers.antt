use Rattle.std.proofs.Common.{◌∙◌, rules}
use borrow.Author.Tests.{tests}
use Rattle.std.proofs.lemmas.Iterator.Search.{all_from_yields_List}
use Rattle.std.proofs.lemmas.Iterator.Consumers.{YieldsList-from_first}
use Rattle.sections.specs.Run.Event.{NoEvent}
use Rattle.sections.specs.Refusals.{is_allowed}
use Rattle.encoding.specs.Events.{events_of}
use Rattle.encoding.specs.Kinds.{event_from, events_left}
use Rattle.encoding.proofs.Every.{list_every}
use Rattle.refusals.specs.Tests.{input_with}
use Rattle.refusals.proofs.tests.are_allowed.Goals as goal

pub returns : goal.returns
returns c =
    λ ids memory.
    let allowed = is_allowed (input_with c.args.scripts.now ids memory) in
    all_from_yields_List allowed c.all.new.self _ _ c.all.ensures.ran (YieldsList-from_first event_from events_left _ c.new.ensures) (λ x b q k. search (rules, tests))
    ∙ list_every allowed NoEvent (events_of c.args.events.now)
