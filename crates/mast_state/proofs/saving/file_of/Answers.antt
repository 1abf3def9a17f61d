use Rattle.mast_state.proofs.FileOf.{files_all, files_none}
use Rattle.mast_state.proofs.saving.file_of.Goals as goal

pub returns-then-answer-ne-SUCCESSFUL : goal.returns-then-answer-ne-SUCCESSFUL
returns-then-answer-ne-SUCCESSFUL c =
    files_none c.args.m.now c.args.file.now c.save-answer.ensures c.requires c.if-answer-ne-SUCCESSFUL.true

pub returns : goal.returns
returns c = files_all c.args.m.now c.args.file.now c.save-answer.ensures c.requires c.if-answer-ne-SUCCESSFUL.false
