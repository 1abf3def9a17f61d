-- `tables::slot_word` meets its contract: a slot's row is read from its place.
use borrow.Author.Rules.{rules}
use mathlib.Core.Path.{◌∙◌}
use Rattle.tables.proofs.LayoutRead.{slot_word_at}
use Rattle.tables.proofs.slot_word.Goals as goal

pub returns : goal.returns
returns c =
    let first = c.args in
    c.word.ensures ∙ slot_word_at first.m.now first.i first.k (search rules)
