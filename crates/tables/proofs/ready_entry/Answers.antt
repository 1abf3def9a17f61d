-- `tables::ready_entry` meets its contract: the sequence is read from its places.
use borrow.Author.Rules.{rules}
use mathlib.Core.Path.{◌∙◌}
use Rattle.tables.proofs.LayoutRead.{sequence_word_at}
use Rattle.tables.proofs.ready_entry.Goals as goal

pub returns : goal.returns
returns c =
    let first = c.args in
    c.word.ensures ∙ sequence_word_at first.m.now first.k (search rules)
