use Rattle.std.proofs.Common.{◌∙◌, rules}
use borrow.Author.Tests.{tests}
use Rattle.std.proofs.lemmas.Iterator.Search.{all_from_yields_List}
use Rattle.std.proofs.lemmas.Iterator.Consumers.{YieldsList-from_first}
use Rattle.sections.specs.Run.Event.{NoEvent}
use Rattle.sections.specs.Refusals.{is_event}
use Rattle.encoding.specs.Events.{events_of}
use Rattle.encoding.specs.Kinds.{event_from, events_left}
use Rattle.encoding.proofs.Every.{list_every}
use Rattle.refusals.proofs.Testing.{some_event}
use Rattle.refusals.proofs.tests.are_events.Goals as goal

pub returns : goal.returns
returns c =
    all_from_yields_List is_event c.all.new.self _ _ c.all.ensures.ran (YieldsList-from_first event_from events_left _ c.new.ensures) (λ x b q k. search (rules, tests, some_event))
    ∙ list_every is_event NoEvent (events_of c.args.events.now)
