-- `state::reading::head_in` meets its contract: both editions have the seven numbers.
use Rattle.std.proofs.Common.{arith}
use Rattle.state.proofs.Editions.{numbers_least}
use Rattle.state.proofs.Filling.{head_read}
use Rattle.state.proofs.reading.head_in.Goals as goal

pub word-requires : goal.word-requires
word-requires c = omega (arith, numbers_least c.args.edition)

pub word-requires-2 : goal.word-requires-2
word-requires-2 c = omega (arith, numbers_least c.args.edition)

pub word-requires-3 : goal.word-requires-3
word-requires-3 c = omega (arith, numbers_least c.args.edition)

pub word-requires-4 : goal.word-requires-4
word-requires-4 c = omega (arith, numbers_least c.args.edition)

pub word-requires-5 : goal.word-requires-5
word-requires-5 c = omega (arith, numbers_least c.args.edition)

pub word-requires-6 : goal.word-requires-6
word-requires-6 c = omega (arith, numbers_least c.args.edition)

pub word-requires-7 : goal.word-requires-7
word-requires-7 c = omega (arith, numbers_least c.args.edition)

pub returns : goal.returns
returns c =
    let start = c.args in
    head_read start.file.now start.edition start.at _ _ _ _ _ _ _ _ c.word.ensures c.word-2.ensures
    c.word-3.ensures c.word-4.ensures c.word-5.ensures c.word-6.ensures
    c.word-7.ensures c.maximum_in.ensures
