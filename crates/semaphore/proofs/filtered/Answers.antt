use borrow.Author.Rules.{rules}
use Rattle.semaphore.proofs.Queue.{kept_without, kept_with}
use Rattle.semaphore.proofs.filtered.Goals as goal
use Rattle.semaphore.proofs.filtered.Goals.{then-not-expired-q, else-not-expired-q}

pub loop-k-preserved : goal.loop-k-preserved
loop-k-preserved c =
    elim c.if-not-expired-q.branch [
      | then-not-expired-q w ↦ rw w.kept-is (kept_with _ _ _ _ c.loop-k.invariant (search rules) (search rules) (search rules))
      | else-not-expired-q w ↦ rw w.kept-is (kept_without _ _ _ _ c.loop-k.invariant (search rules) (search rules))
    ]
