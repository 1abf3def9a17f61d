-- `plain::take_section` meets its contract: without a script or a section there are no steps, else they are those of the section found.
use Rattle.std.proofs.Common.{List, ap, ◌∙◌}
use Rattle.sections.specs.Scripts.{Step, do_steps, steps_of}
use Rattle.encoding.specs.Rows.{scripts_of}
use Rattle.encoding.specs.Laid.{memory}
use Rattle.plain.specs.Grants.{granted}
use Rattle.plain.proofs.Granting.{no_section_lem, no_script_lem, task_fits, section_ends, steps_are, steps_reach}
use Rattle.plain.proofs.take_section.Goals as goal

pub returns-in_default : goal.returns-in_default
returns-in_default c =
    let o = c.args in
    no_section_lem o.q (steps_of (scripts_of o.scripts.now) (granted o.q o.section)) (memory o.cells.now o.locals.now)
    (no_script_lem o.scripts.now o.q o.section c.in_default.ensures)

pub returns-in_default-section : goal.returns-in_default-section
returns-in_default-section c =
    let o = c.args in
    no_section_lem o.q (steps_of (scripts_of o.scripts.now) (granted o.q o.section)) (memory o.cells.now o.locals.now)
    (section_ends o.scripts.now o.q o.section _ c.in-Some.script c.in-Some.ensures c.section.result c.section.ensures c.in_default-section.is)

pub take_steps-requires : goal.take_steps-requires
take_steps-requires c =
    let o = c.args in
    let task = task_fits o.scripts.now o.q o.section _ c.in-Some.script c.in-Some.ensures c.requires.0 in (
      task.0,
      task.1,
      c.requires.2,
      steps_reach o.scripts.now o.q o.section _ c.in-Some.script c.in-Some.ensures c.section.result c.section.ensures _ c.in-Some-section.is _ c.requires.1,
    )

pub returns : goal.returns
returns c =
    let o = c.args in
    c.take_steps.ensures
    ∙ ap (λ (x : List Step). do_steps o.q x (memory o.cells.now o.locals.now))
    (steps_are o.scripts.now o.q o.section _ c.in-Some.script c.in-Some.ensures c.section.result c.section.ensures _ c.in-Some-section.is)
