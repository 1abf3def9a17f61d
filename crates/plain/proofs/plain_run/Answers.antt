use mathlib.Core.Path.{refl, sym, subst, ◌∙◌}
use native.Mathlib.Omega.{arith}
use Rattle.encoding.specs.Rows.{scripts_of}
use Rattle.encoding.specs.Laid.{memory}
use Rattle.runner.specs.Turns.{Stepped}
use Rattle.plain.proofs.Granting.{one_grant, no_grants}
use Rattle.plain.proofs.plain_run.Goals as goal

pub loop-i-init : goal.loop-i-init
loop-i-init c = (refl, refl, refl)

pub take_section-requires : goal.take_section-requires
take_section-requires c =
    let at = c.loop-i in
    (c.requires.0, subst (Stepped c.args.scripts.now) (sym at.invariant.0) c.requires.1, at.invariant.1 ∙ c.requires.2)

pub loop-i-preserved : goal.loop-i-preserved
loop-i-preserved c =
    let at = c.loop-i in
    let done = c.take_section in (
      omega arith,
      omega arith,
      one_grant (scripts_of c.args.scripts.now) c.args.grants.now at.i (memory at.cells at.locals) (omega arith) _
          done.ensures ∙ at.invariant.2,
    )

pub returns : goal.returns
returns c =
    let at = c.loop-i in
    sym
    (no_grants (scripts_of c.args.scripts.now) c.args.grants.now at.i (memory at.cells at.locals) (omega arith))
    ∙ at.invariant.2
