-- What a run does to everything that is lent, of any lengths and any numbers.
use Rattle.std.specs.Prelude.{ℕ, List, ◌==◌}
use Rattle.laws.specs.Choose.{choose}
use Rattle.rules.specs.declared.Answer.{Answer}
use Rattle.rules.specs.Numbers.{internal_error}
use Rattle.rules.specs.Machine.{Tables, next}
use Rattle.tables.specs.Layout.{laid, model_of}
use Rattle.agreement.specs.Bytes.{agrees_bytes}
use Rattle.sections.specs.Run.{Event, State, run_from}
use Rattle.sections.specs.Refusals.{Input, at_first}
use Rattle.encoding.specs.Events.{events_of}
use Rattle.encoding.specs.Laid.{laid_places, laid_grants}
use Rattle.refusals.specs.Defined.{input_of, refusal_where}

-- 25 before the refusals on agreeing tables
unfoldable pub refusal_of : List ℕ → Input → List ℕ → List ℕ → List ℕ → ℕ
refusal_of bs w scripts events places = choose (agrees_bytes bs) (refusal_where (model_of bs) w scripts events places) internal_error

-- refused, nothing is run
unfoldable pub ran_from : ℕ → Tables → Input → List Event → State
ran_from r t w events = choose (r == 0) (run_from w.scripts (at_first t w) events) (at_first t w)

-- everything that a run leaves
pub record RunReply : Type 0 where
  pub answer : Answer
  pub bytes : List ℕ
  pub cells : List ℕ
  pub locals : List ℕ
  pub places : List ℕ
  pub grants : List ℕ

abbrev pub ran : Answer → (bytes cells locals places grants : List ℕ) → RunReply
ran answer bytes cells locals places grants =
    record { answer = answer; bytes = bytes; cells = cells; locals = locals; places = places; grants = grants }

abbrev pub reply_with : ℕ → State → (bs places grants : List ℕ) → RunReply
reply_with r s bs places grants =
    record {
      answer = record { status = r; value = 0; next = choose (r == internal_error) 0 (next s.tables) };
      bytes = choose (r == 0) (laid s.tables) bs;
      cells = s.memory.cells;
      locals = s.memory.locals;
      places = laid_places places s.places;
      grants = laid_grants grants s.grants;
    }

-- refused, bytes, cells and locals stay, places are at the start, no grant is reported
unfoldable pub run_reply : (bs scripts events ids cells locals places grants : List ℕ) → RunReply
run_reply bs scripts events ids cells locals places grants =
    let w = input_of scripts ids cells locals in
    let r = refusal_of bs w scripts events places in
    reply_with r (ran_from r (model_of bs) w (events_of events)) bs places grants
