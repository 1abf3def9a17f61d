-- `encoding::places::put_place` meets its contract: two stores are one place put.
use Rattle.std.proofs.Common.{arith}
use Rattle.encoding.proofs.Laid.{place_put}
use Rattle.encoding.proofs.places.put_place.Goals as goal

pub returns : goal.returns
returns c = λ ns ps e h. place_put ns ps c.args.i h c.args.place.section c.args.place.position c.args.places.now _ _ e (omega arith) (omega arith)
