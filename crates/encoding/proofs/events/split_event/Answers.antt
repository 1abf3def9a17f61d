use Rattle.std.proofs.Common.{ℕ, ◌-◌, ◌<◌, ◌≤◌, ◌∷◌, length, get_or, drop, sym, ap, ◌∙◌, subst, arith, length-drop, take_all}
use Rattle.encoding.specs.Events.{size_of, events_of}
use Rattle.encoding.specs.Kinds.{number_of, SplitEvent}
use Rattle.encoding.proofs.ReadingEvents.{size_whole, size_cut, no_size, no_kind, kind_size, events_next, events_stop}
use Rattle.encoding.proofs.events.split_event.Goals as goal

pub returns-in_err-kind : goal.returns-in_err-kind
returns-in_err-kind c =
    let e = c.args.e.now in
    subst (SplitEvent e) (sym c.from_residual.ensures)
    (λ h. events_stop e h (no_size e (no_kind (get_or e 0 0) (get_or e 2 0) (subst (λ (n : ℕ). 1 ≤ n → 9 < n) c.number_at.ensures c.in_err-kind.ensures))))

pub returns-then-e-size : goal.returns-then-e-size
returns-then-e-size c =
    λ h. events_stop c.args.e.now h
    (size_cut c.args.e.now _ _ (sym c.number_at.ensures ∙ c.in_ok-kind.ensures)
    (c.size_of-size.ensures ∙ ap (size_of (number_of c.in_ok-kind.kind)) c.number_at-2.ensures) c.if-e-size.true)

pub event_of-requires : goal.event_of-requires
event_of-requires c =
    let first = sym c.number_at.ensures ∙ c.in_ok-kind.ensures in
    let size = size_whole c.args.e.now _ _ first (c.size_of-size.ensures ∙ ap (size_of (number_of c.in_ok-kind.kind)) c.number_at-2.ensures) c.if-e-size.false in
    (omega (arith, size, c.size_of-size.ensures, kind_size c.in_ok-kind.kind c.number_at-2.result), first)

pub returns : goal.returns
returns c =
    let e = c.args.e.now in
    let first = sym c.number_at.ensures ∙ c.in_ok-kind.ensures in
    let size = size_whole e _ _ first (c.size_of-size.ensures ∙ ap (size_of (number_of c.in_ok-kind.kind)) c.number_at-2.ensures) c.if-e-size.false in
    let rest = take_all (length e - c.size_of-size.result) (drop c.size_of-size.result e) (omega (arith, length-drop c.size_of-size.result e)) ∙ ap (λ (n : ℕ). drop n e) size in
    events_next e (omega (arith, size, c.size_of-size.ensures, kind_size c.in_ok-kind.kind c.number_at-2.result))
    ∙ λ i. sym c.event_of.ensures i ∷ events_of (sym rest i)
