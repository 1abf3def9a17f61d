-- `encoding::places::add_grant` meets its contract: three stores are one grant more.
use Rattle.std.proofs.Common.{refl, arith}
use Rattle.encoding.proofs.Laid.{grant_count, grant_stored}
use Rattle.encoding.proofs.places.add_grant.Goals as goal

pub returns : goal.returns
returns c =
    let o = c.args in
    let count = c.number_at-count in
    let next = c.wrapping_add_u32 in
    λ ns gs e h.
    let few = grant_count ns gs o.grants.now e in
    grant_stored ns gs o.grants.now e o.q o.section count.result next.result _ _ _ _ _ count.ensures
    (omega (arith, count.ensures, next.ensures)) refl refl
    c.put.ensures
    c.put-2.ensures c.put-3.ensures
