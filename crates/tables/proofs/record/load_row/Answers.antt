use Rattle.std.proofs.Common.{◌+◌, arith}
use Rattle.laws.proofs.Fit.{tabulate_is}
use Rattle.words.specs.Words.{word_at}
use Rattle.tables.proofs.record.load_row.Goals as goal

pub returns : goal.returns
returns g c = tabulate_is g.row.W (λ k. word_at c.args.m.now (c.args.at + k)) c.loop-k.row 0 (omega arith) (λ k h. c.loop-k.invariant.read k (omega arith))
