-- The numbers of the kinds of events, and the events that code reads.
use Rattle.std.specs.Prelude.{◌≡◌, ℕ, ◌<◌, ◌≤◌, List, [], ◌∷◌, length, Option, Some, None}
use denote.Ref.{Bor}
use Rattle.sections.specs.Run.{Event}
use Rattle.sections.specs.Run.Event.{Turn, Other, NoEvent}
use Rattle.encoding.specs.declared.events.Kind.{Kind}
use Rattle.encoding.specs.declared.events.Kind.TheVariants.{Turn as KindTurn, Start, Create, Ident, Delete, Obtain, Release, Flush, Tick}
use Rattle.encoding.specs.declared.events.Event.{Event as EventRead}
use Rattle.encoding.specs.declared.events.Event.TheVariants.{Turn as TurnRead, Call as CallRead}
use Rattle.encoding.specs.declared.events.Events.{Events}
use Rattle.encoding.specs.Events.{events_of}

abbrev pub number_of : Kind → ℕ
number_of KindTurn = 1
number_of Start = 2
number_of Create = 3
number_of Ident = 4
number_of Delete = 5
number_of Obtain = 6
number_of Release = 7
number_of Flush = 8
number_of Tick = 9

abbrev pub KindOf : ℕ → Option Kind → Type 0
KindOf number (Some kind) = number ≡ number_of kind
KindOf number None = 1 ≤ number → 9 < number

abbrev pub event_from : Option EventRead → Event
event_from (Some (TurnRead task)) = Turn task
event_from (Some (CallRead call priorities)) = Other (record { call = call; priorities = priorities.now })
event_from None = NoEvent

-- the event that numbers begin with, and the numbers behind it
abbrev pub SplitEvent : List ℕ → Option (EventRead × Bor (List ℕ)) → Type 0
SplitEvent ns (Some (event, rest)) = events_of ns ≡ event_from (Some event) ∷ events_of rest.now
SplitEvent ns None = 0 < length ns → events_of ns ≡ NoEvent ∷ []

abbrev pub events_left : Events → List Event
events_left s = events_of s.numbers.now
