use Rattle.playing.proofs.Flowing.{tells}
use Rattle.playing.proofs.tell.Goals as goal

pub returns : goal.returns
returns g c =
    tells c.write_all-4.result (g.E.Write.contents c.args.err.now) (g.E.Write.contents c.write_all.new.self) (g.E.Write.contents c.write_all-2.new.self)
    (g.E.Write.contents c.write_all-3.new.self) (g.E.Write.contents c.write_all-4.new.self) c.args.what.now c.as_bytes.result.now
    c.in_ok-write_all.ensures.bytes c.in_ok-write_all-2.ensures.bytes c.in_ok-write_all-3.ensures.bytes c.write_all-4.ensures.bytes
