use Rattle.std.proofs.Common.{◌≡◌, ℕ, ◌≤◌, List, refl, ◌∙◌, length, take, arith, rules}
use Rattle.std.specs.declared.option.Option.{Option}
use Rattle.std.specs.Io.KnownBytes.{Consumes, IsAtEnd}
use Rattle.std.proofs.lemmas.Result.{err_from_is_err_and}
use Rattle.playing.proofs.Flowing.{none_heard}
use Rattle.text.specs.Reading.{Room}
use Rattle.text.specs.Feeding.{fault_of, Lent, lent, Kept, room_of, kept_of, take_bytes, at_end}
use Rattle.text.specs.Feeding.Fed.{Keeps, Faults}
use Rattle.mast_sections.proofs.Taking.{in_room, reached_more, said_fault, said_end, far_more, all_fault, all_end, ready_outset, reached_outset, read_outset, same_room}
use Rattle.mast_sections.proofs.reading.read_text.Goals as goal

pub loop-init : goal.loop-init
loop-init g c =
    let l : Lent = lent c.args.m.now c.args.ids.now c.args.cells.now c.args.locals.now c.args.scripts.now c.args.events.now in (
      refl,
      refl,
      refl,
      refl,
      ready_outset c.args.line.now l c.requires,
      reached_outset c.args.line.now l c.requires (room_of l),
      λ some. read_outset c.args.line.now l c.requires (room_of l) (g.R.Read.remaining c.args.reader.now),
    )

pub returns-in_err-last-clause-takes : goal.returns-in_err-last-clause-takes
returns-in_err-last-clause-takes g c =
    let i = c.loop.invariant in
    let l : Lent = lent c.args.m.now c.args.ids.now c.args.cells.now c.args.locals.now c.args.scripts.now c.args.events.now in
    let k : Lent = lent c.loop.m c.loop.ids c.loop.cells c.loop.locals c.loop.scripts c.loop.events in
    let kept : Kept = kept_of c.loop.p c.loop.line k in
    let same : room_of k ≡ room_of l = same_room k l i.0 i.1 i.2 in
    let faulty = c.in_err-last.field-0.0 in
    let p = err_from_is_err_and c.from_residual-in_err-last.result c.from_residual-in_err-last.ensures.1 in
    rw (p.1, p.2) (said_end (room_of l) kept i.5 (Faults faulty.line (fault_of faulty.fault)) (in_room same (λ (room : Room). at_end room kept) c.in_err-last.ensures.fed))

pub returns-in_err-last-clause-read : goal.returns-in_err-last-clause-read
returns-in_err-last-clause-read g c =
    λ some.
    let i = c.loop.invariant in
    let l : Lent = lent c.args.m.now c.args.ids.now c.args.cells.now c.args.locals.now c.args.scripts.now c.args.events.now in
    let k : Lent = lent c.loop.m c.loop.ids c.loop.cells c.loop.locals c.loop.scripts c.loop.events in
    let kept : Kept = kept_of c.loop.p c.loop.line k in
    let same : room_of k ≡ room_of l = same_room k l i.0 i.1 i.2 in
    let u : Option (List ℕ) = g.R.Read.remaining c.loop.reader in
    let u' : Option (List ℕ) = g.R.Read.remaining c.hear.new.reader in
    let faulty = c.in_err-last.field-0.0 in
    let p = err_from_is_err_and c.from_residual-in_err-last.result c.from_residual-in_err-last.ensures.1 in
    let heard : Consumes u u' (take c.in_ok-n.n c.hear.new.input) × (c.in_ok-n.n ≡ 0 → 1 ≤ length c.hear.new.input → IsAtEnd u') = search rules in
    let none = none_heard c.in_ok-n.n u u' c.hear.new.input c.if-n-eq0.true (omega arith) heard in
    rw (p.1, p.2)
    (all_end (room_of l) kept _ u u' (i.6 some) (Faults faulty.line (fault_of faulty.fault)) none.0 none.1 (in_room same (λ (room : Room). at_end room kept) c.in_err-last.ensures.fed))

pub returns-then-n-eq0-clause-takes : goal.returns-then-n-eq0-clause-takes
returns-then-n-eq0-clause-takes g c =
    let i = c.loop.invariant in
    let l : Lent = lent c.args.m.now c.args.ids.now c.args.cells.now c.args.locals.now c.args.scripts.now c.args.events.now in
    let k : Lent = lent c.loop.m c.loop.ids c.loop.cells c.loop.locals c.loop.scripts c.loop.events in
    let kept : Kept = kept_of c.loop.p c.loop.line k in
    let same : room_of k ≡ room_of l = same_room k l i.0 i.1 i.2 in
    let n = c.finish.new in
    let l' : Lent = lent n.m n.ids n.cells n.locals n.scripts n.events in
    (c.in_ok-last.ensures.ready.inside, said_end (room_of l) kept i.5 (Keeps (kept_of c.in_ok-last.last c.loop.line l')) (in_room same (λ (room : Room). at_end room kept) c.in_ok-last.ensures.fed))

pub returns-then-n-eq0-clause-read : goal.returns-then-n-eq0-clause-read
returns-then-n-eq0-clause-read g c =
    λ some.
    let i = c.loop.invariant in
    let l : Lent = lent c.args.m.now c.args.ids.now c.args.cells.now c.args.locals.now c.args.scripts.now c.args.events.now in
    let k : Lent = lent c.loop.m c.loop.ids c.loop.cells c.loop.locals c.loop.scripts c.loop.events in
    let kept : Kept = kept_of c.loop.p c.loop.line k in
    let same : room_of k ≡ room_of l = same_room k l i.0 i.1 i.2 in
    let n = c.finish.new in
    let l' : Lent = lent n.m n.ids n.cells n.locals n.scripts n.events in
    let u : Option (List ℕ) = g.R.Read.remaining c.loop.reader in
    let u' : Option (List ℕ) = g.R.Read.remaining c.hear.new.reader in
    let heard : Consumes u u' (take c.in_ok-n.n c.hear.new.input) × (c.in_ok-n.n ≡ 0 → 1 ≤ length c.hear.new.input → IsAtEnd u') = search rules in
    let none = none_heard c.in_ok-n.n u u' c.hear.new.input c.if-n-eq0.true (omega arith) heard in
    all_end (room_of l) kept _ u u' (i.6 some) (Keeps (kept_of c.in_ok-last.last c.loop.line l')) none.0 none.1 (in_room same (λ (room : Room). at_end room kept) c.in_ok-last.ensures.fed)

pub returns-in_err-p-clause-takes : goal.returns-in_err-p-clause-takes
returns-in_err-p-clause-takes g c =
    let i = c.loop.invariant in
    let l : Lent = lent c.args.m.now c.args.ids.now c.args.cells.now c.args.locals.now c.args.scripts.now c.args.events.now in
    let k : Lent = lent c.loop.m c.loop.ids c.loop.cells c.loop.locals c.loop.scripts c.loop.events in
    let kept : Kept = kept_of c.loop.p c.loop.line k in
    let same : room_of k ≡ room_of l = same_room k l i.0 i.1 i.2 in
    let part : List ℕ = take c.in_ok-n.n c.hear.new.input in
    let faulty = c.in_err-p.field-0.0 in
    let p = err_from_is_err_and c.from_residual-in_err-p.result c.from_residual-in_err-p.ensures.1 in
    rw (p.1, p.2) (said_fault (room_of l) kept i.5 faulty.line (fault_of faulty.fault) part (in_room same (λ (room : Room). take_bytes room kept part) c.in_err-p.ensures.fed))

pub returns-in_err-p-clause-read : goal.returns-in_err-p-clause-read
returns-in_err-p-clause-read g c =
    λ some.
    let i = c.loop.invariant in
    let l : Lent = lent c.args.m.now c.args.ids.now c.args.cells.now c.args.locals.now c.args.scripts.now c.args.events.now in
    let k : Lent = lent c.loop.m c.loop.ids c.loop.cells c.loop.locals c.loop.scripts c.loop.events in
    let kept : Kept = kept_of c.loop.p c.loop.line k in
    let same : room_of k ≡ room_of l = same_room k l i.0 i.1 i.2 in
    let u : Option (List ℕ) = g.R.Read.remaining c.loop.reader in
    let u' : Option (List ℕ) = g.R.Read.remaining c.hear.new.reader in
    let part : List ℕ = take c.in_ok-n.n c.hear.new.input in
    let faulty = c.in_err-p.field-0.0 in
    let p = err_from_is_err_and c.from_residual-in_err-p.result c.from_residual-in_err-p.ensures.1 in
    let read : Consumes u u' part = search rules in
    rw (p.1, p.2) (all_fault (room_of l) kept _ u u' (i.6 some) faulty.line (fault_of faulty.fault) part read (in_room same (λ (room : Room). take_bytes room kept part) c.in_err-p.ensures.fed))

pub loop-preserved : goal.loop-preserved
loop-preserved g c =
    let i = c.loop.invariant in
    let l : Lent = lent c.args.m.now c.args.ids.now c.args.cells.now c.args.locals.now c.args.scripts.now c.args.events.now in
    let k : Lent = lent c.loop.m c.loop.ids c.loop.cells c.loop.locals c.loop.scripts c.loop.events in
    let kept : Kept = kept_of c.loop.p c.loop.line k in
    let same : room_of k ≡ room_of l = same_room k l i.0 i.1 i.2 in
    let n = c.feed.new in
    let l' : Lent = lent n.m n.ids n.cells n.locals n.scripts n.events in
    let u : Option (List ℕ) = g.R.Read.remaining c.loop.reader in
    let u' : Option (List ℕ) = g.R.Read.remaining c.hear.new.reader in
    let part : List ℕ = take c.in_ok-n.n c.hear.new.input in
    let read : Consumes u u' part = search rules in
    let fed = in_room same (λ (room : Room). take_bytes room kept part) c.in_ok-p.ensures.fed in
    let kept' : Kept = kept_of c.in_ok-p.p n.line l' in (
      c.feed.auto.cells ∙ i.0,
      c.feed.auto.scripts ∙ i.1,
      c.feed.auto.events ∙ i.2,
      c.hear.auto.input ∙ i.3,
      c.in_ok-p.ensures.ready,
      reached_more (room_of l) kept i.5 kept' part fed,
      λ some. far_more (room_of l) kept _ u u' (i.6 some) kept' part read fed,
    )
