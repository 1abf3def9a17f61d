-- `mast_state::command_of` meets its contract: what matches none of the words.
use mathlib.Core.Path.{sym}
use Rattle.std.proofs.Common.{rules}
use Rattle.mast_state.proofs.Commands.{no_command}
use Rattle.mast_state.proofs.command_of.Goals as goal

pub returns-in_default-6 : goal.returns-in_default-6
returns-in_default-6 c = sym (no_command c.args.word.now c.args.count (search rules) (search rules) (search rules))
