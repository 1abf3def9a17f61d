-- `state::contents::counts_in` meets its contract: the edition, and four lengths, each by the bytes of its records.
use mathlib.Core.Path.{ap₂, ◌∙◌}
use Rattle.state.specs.Reading.{slots_in}
use Rattle.state.proofs.Shape.{counts_read}
use Rattle.state.proofs.contents.counts_in.Goals as goal

pub returns : goal.returns
returns c =
    counts_read c.args.file.now _ _ _ _ _ c.word-edition.ensures c.word.ensures
    (c.slots_in.ensures ∙ ap₂ slots_in c.word-edition.ensures c.word-2.ensures) c.word-3.ensures c.word-4.ensures
