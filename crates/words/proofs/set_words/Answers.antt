use Rattle.std.proofs.Common.{arith}
use Rattle.words.proofs.Stores.{stored_more, stored_all}
use Rattle.words.proofs.set_words.Goals as goal

pub loop-k-preserved : goal.loop-k-preserved
loop-k-preserved c = stored_more _ _ _ _ c.loop-k.k _ (omega arith) c.loop-k.invariant c.set_word.ensures

pub returns : goal.returns
returns c = stored_all _ _ _ _ c.loop-k.k (omega arith) c.loop-k.invariant
