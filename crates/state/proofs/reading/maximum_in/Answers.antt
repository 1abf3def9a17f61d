-- `state::reading::maximum_in` meets its contract: the eighth number, or what edition 1 tells of the class.
use mathlib.Core.Path.{refl, sym, ◌∙◌}
use native.Mathlib.Omega.{arith}
use borrow.Author.Tests.{ne_eqb}
use Rattle.laws.proofs.Choose.{if_eq, if_ne}
use Rattle.state.proofs.Editions.{eight, numbers_least}
use Rattle.state.proofs.Filling.{maximum_read, maximum_told}
use Rattle.state.proofs.reading.maximum_in.Goals as goal

pub word-requires : goal.word-requires
word-requires c =
    omega (arith, c.requires, eight c.args.edition 1 (ne_eqb _ _ c.if-edition-ne-FIRST_EDITION.true))

pub returns-then-edition-ne-FIRST_EDITION : goal.returns-then-edition-ne-FIRST_EDITION
returns-then-edition-ne-FIRST_EDITION c =
    let start = c.args in
    maximum_read start.file.now start.edition start.at _ c.if-edition-ne-FIRST_EDITION.true c.word.ensures

pub word-requires-2 : goal.word-requires-2
word-requires-2 c = omega (arith, numbers_least c.args.edition)

pub returns-then-word-ne1 : goal.returns-then-word-ne1
returns-then-word-ne1 c =
    let start = c.args in
    maximum_told start.file.now start.edition start.at _ _ _ c.if-edition-ne-FIRST_EDITION.false c.word-2.ensures refl
    (sym (if_ne _ _ _ _ c.if-word-ne1.true))

pub word-requires-3 : goal.word-requires-3
word-requires-3 c = omega (arith, numbers_least c.args.edition)

pub returns : goal.returns
returns c =
    let start = c.args in
    maximum_told start.file.now start.edition start.at _ _ _ c.if-edition-ne-FIRST_EDITION.false c.word-2.ensures c.word-3.ensures
    (c.class_maximum.ensures ∙ sym (if_eq _ _ _ _ c.if-word-ne1.false))
