use Rattle.std.proofs.Common.{ℕ, List, length, arith, length-drop, ap}
use Rattle.playing.proofs.Flowing.{written_more, rest_of}
use Rattle.playing.proofs.say.Goals as goal

pub loop-written-preserved : goal.loop-written-preserved
loop-written-preserved g c =
    let said : List ℕ = c.args.said.now in
    let done : ℕ = c.loop-written.written in (
      omega (arith, c.in_ok-n.ensures.bound, ap length (rest_of said done), length-drop done said),
      written_more (g.W.Write.contents c.args.writer.now) (g.W.Write.contents c.loop-written.writer) (g.W.Write.contents c.write.new.self) said done c.in_ok-n.n
          c.loop-written.invariant.1 c.in_ok-n.ensures.bytes,
    )
