-- `shown::writing::Text::put_number` meets its contract: the part of the bytes that is put is the digits.
use Rattle.line.proofs.Printing.{digits_part}
use Rattle.shown.proofs.Putting.{puts_as}
use Rattle.shown.proofs.writing.Text.put_number.Goals as goal

pub returns : goal.returns
returns c =
    let made = c.text_of-text in
    puts_as (digits_part made.result.bytes c.args.v 32 made.result.from made.ensures.0 made.ensures.1 made.ensures.2) c.put.ensures
