-- Runs of entry points over lent bytes, each on what the one before left.
use Rattle.std.specs.Prelude.{List, [], ◌∷◌, ℕ}
use Rattle.rules.specs.declared.Answer.{Answer}
use Rattle.rules.specs.Runs.{Request}
use Rattle.manager.specs.Entry.{Reply, reply_to}

abbrev pub reply_of : List ℕ → Request → Reply
reply_of bs r = reply_to bs r.call r.priorities

-- the answers to a list of requests, and every byte after them
pub record Replies : Type 0 where
  pub answers : List Answer
  pub bytes : List ℕ

unfoldable pub replies : List ℕ → List Request → Replies
replies bs [] = record { answers = []; bytes = bs }
replies bs (r ∷ rs) =
    let one = reply_of bs r in
    let rest = replies one.bytes rs in
    record { answers = one.answer ∷ rest.answers; bytes = rest.bytes }
