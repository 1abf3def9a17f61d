-- `line::word_length` meets its contract: what the search for a space answers.
use mathlib.Core.Path.{◌∙◌}
use Rattle.std.proofs.Common.{rules}
use Rattle.line.proofs.Words.{first_space_is}
use Rattle.line.proofs.word_length.Goals as goal

pub returns : goal.returns
returns c = c.unwrap_or.ensures ∙ first_space_is c.args.line.now c.position.result (search rules)
