use Rattle.std.proofs.Common.{arith, refl}
use Rattle.words.proofs.Stores.{blank_none, blank_more, blank_all}
use Rattle.words.proofs.is_blank.Goals as goal

pub loop-k-init : goal.loop-k-init
loop-k-init c = record { within = omega arith; seen = blank_none _ _ }

pub loop-k-preserved : goal.loop-k-preserved
loop-k-preserved c = record {
  within = omega arith;
  seen = blank_more _ _ c.loop-k.k c.loop-k.seen _ _ (omega arith) c.loop-k.invariant.seen c.raw_word-seen.ensures refl;
}

pub returns : goal.returns
returns c = blank_all _ c.args.from c.loop-k.k c.args.to c.loop-k.seen (omega arith) c.loop-k.invariant.seen
