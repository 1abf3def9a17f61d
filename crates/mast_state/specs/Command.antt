-- What the program is asked to do: save and resume take a file and perhaps a session, show takes a file.
use Rattle.std.specs.Prelude.{List, ℕ, eqb, codes, Option, Some, None}
use Rattle.laws.specs.Choose.{choose, ◌and◌}
use Rattle.rules.specs.Numbers.{within}
use Rattle.line.specs.Line.{same_bytes}
use Rattle.mast_state.specs.declared.Command.{Command}
use Rattle.mast_state.specs.declared.Command.TheVariants.{Save, Show, Resume}

abbrev pub save_word : List ℕ
save_word = codes "save"

abbrev pub show_word : List ℕ
show_word = codes "show"

abbrev pub resume_word : List ℕ
resume_word = codes "resume"

-- the count is that of all arguments, the program's own name among them
unfoldable pub command_of : List ℕ → ℕ → Option Command
command_of word count =
    choose (within 3 4 count)
    (choose (same_bytes word save_word) (Some Save)
    (choose (same_bytes word resume_word) (Some Resume)
    (choose (eqb count 3 and same_bytes word show_word) (Some Show) None)))
    None
