-- `line::print_answer` meets its contract: three texts, each where the one before it ends, and each at most eleven bytes.
use native.Mathlib.Omega.{arith}
use Rattle.line.proofs.Printing.{decimal_length, answer_written}
use Rattle.line.proofs.print_answer.Goals as goal

pub put_ended-next_at-requires : goal.put_ended-next_at-requires
put_ended-next_at-requires c = omega (arith, decimal_length c.args.a.status 32)

-- there is room whichever of the numbers come first
pub put_ended-requires : goal.put_ended-requires
put_ended-requires c =
    let a = c.args.a in
    omega (arith, decimal_length a.status 32, decimal_length a.value 32, decimal_length a.next 32)

pub returns : goal.returns
returns c =
    let status = c.put_ended-value_at in
    let value = c.put_ended-next_at in
    let next = c.put_ended in
    answer_written c.args.a c.args.out.now _ _ _ _ _ _ c.requires status.ensures value.ensures next.ensures
