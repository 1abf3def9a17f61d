use Rattle.std.proofs.Common.{length, inl, ap, arith}
use Rattle.encoding.proofs.Found.{scripts_few}
use Rattle.encoding.proofs.scripts.script_count.Goals as goal

pub count-requires-clause-fits : goal.count-requires-clause-fits
count-requires-clause-fits c = inl (omega (arith, ap length c.new.ensures, scripts_few c.args.scripts.now))
