use Rattle.std.proofs.Common.{◌≡◌, ℕ, ◌<◌, ap, ◌∙◌, arith}
use Rattle.laws.specs.Choose.{choose}
use Rattle.rules.specs.declared.Call.TheVariants.{Create, Ident, Delete, Obtain, Release, Flush}
use Rattle.rules.specs.Semaphore.{wait_of}
use Rattle.sections.specs.Run.Event.{Turn}
use Rattle.encoding.specs.Events.{call_of}
use Rattle.encoding.specs.Kinds.{number_of}
use Rattle.encoding.proofs.ReadingEvents.{turn_first, other_first, start_fits, start_first}
use Rattle.encoding.proofs.events.event_of.Goals.{in-Create, in-Ident, in-Delete, in-Obtain, in-Release, in-Flush, in-Tick}
use Rattle.encoding.proofs.events.event_of.Goals as goal

pub returns-in-Turn : goal.returns-in-Turn
returns-in-Turn c = ap Turn c.number_at-a.ensures ∙ turn_first c.args.e.now c.requires.0 (c.requires.1 ∙ ap number_of c.in-Turn.is)

pub slice_bounds-result-end : goal.slice_bounds-result-end
slice_bounds-result-end c = omega (arith, start_fits c.args.e.now c.requires.0 (c.requires.1 ∙ ap number_of c.in-Start.is), c.number_at-b.ensures)

pub returns-in-Start : goal.returns-in-Start
returns-in-Start c = start_first c.args.e.now c.requires.0 (c.requires.1 ∙ ap number_of c.in-Start.is) _ _ c.number_at-a.ensures c.number_at-b.ensures

pub returns : goal.returns
unfolding call_of choose
returns c =
    let e = c.args.e.now in
    let is = λ (n : ℕ) (k : number_of c.args.kind ≡ n) (l : 2 < n). other_first e c.requires.0 n (c.requires.1 ∙ k) l c.match-kind.call in
    let a = c.number_at-a.ensures in
    let b = c.number_at-b.ensures in
    elim c.match-kind.branch [
      | in-Create w ↦ is 3 (ap number_of w.in-Create.is) (omega arith) (w.call-is ∙ λ i. Create (a i) (b i) (w.number_at.ensures i) (w.number_at-in-Create.ensures i) (w.number_at-in-Create-2.ensures i))
      | in-Ident w ↦ is 4 (ap number_of w.in-Ident.is) (omega arith) (w.call-is ∙ ap Ident a)
      | in-Delete w ↦ is 5 (ap number_of w.in-Delete.is) (omega arith) (w.call-is ∙ λ i. Delete (a i) (b i))
      | in-Obtain w ↦ is 6 (ap number_of w.in-Obtain.is) (omega arith) (w.call-is ∙ λ i. Obtain (a i) (b i) ((w.wait_of.ensures ∙ λ j. wait_of (w.number_at-in-Obtain.ensures j) (w.number_at-in-Obtain-2.ensures j)) i))
      | in-Release w ↦ is 7 (ap number_of w.in-Release.is) (omega arith) (w.call-is ∙ λ i. Release (a i) (b i))
      | in-Flush w ↦ is 8 (ap number_of w.in-Flush.is) (omega arith) (w.call-is ∙ λ i. Flush (a i) (b i))
      | in-Tick w ↦ is 9 (ap number_of w.in-Tick.is) (omega arith) w.call-is
    ]
