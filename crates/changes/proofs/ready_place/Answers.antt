use native.Mathlib.Omega.{arith}
use Rattle.words.proofs.WordsInBytes.{Bytes}
use Rattle.changes.proofs.Leaving.{place_begun, place_found, place_more, place_none}
use Rattle.changes.proofs.ready_place.Goals as goal

pub loop-k-init : goal.loop-k-init
loop-k-init c = place_begun c.args.m.now c.args.q

pub returns-then-ready_entry-q-clause-place : goal.returns-then-ready_entry-q-clause-place
returns-then-ready_entry-q-clause-place c =
    let m = c.args.m.now in
    let b : Bytes m = λ k. omega (arith, c.type_inv.m k) in
    place_found m c.args.q c.loop-k.k _ b (omega arith) (omega (arith, c.ready_count-k-end.ensures)) c.ready_entry.ensures c.loop-k.invariant
    c.if-ready_entry-q.true

pub loop-k-preserved : goal.loop-k-preserved
loop-k-preserved c =
    let m = c.args.m.now in
    let b : Bytes m = λ k. omega (arith, c.type_inv.m k) in
    place_more m c.args.q c.loop-k.k _ b (omega arith) (omega (arith, c.ready_count-k-end.ensures)) c.ready_entry.ensures c.loop-k.invariant
    c.if-ready_entry-q.false

pub returns-clause-place : goal.returns-clause-place
returns-clause-place c =
    let m = c.args.m.now in
    place_none m c.args.q c.loop-k.k (λ k. omega (arith, c.type_inv.m k)) (omega (arith, c.ready_count-k-end.ensures)) c.loop-k.invariant
