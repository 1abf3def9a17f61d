-- Document 01, "Guarded sections": the grants that the calls' answers make, read off a history whose entries hold no places.
use Rattle.std.specs.Prelude.{List, [], ◌∷◌, ◌++◌, map, ℕ, pred, ◌+◌, eqb, length, get_or}
use Rattle.laws.specs.Choose.{choose, bit}
use Rattle.laws.specs.Rows.{tabulate, rows}
use Rattle.rules.specs.Numbers.{successful, waiting}
use Rattle.rules.specs.Machine.{Tables}
use Rattle.rules.specs.Calls.{perform}
use Rattle.rules.specs.Runs.{Request}
use Rattle.sections.specs.Scripts.{Script, script_at, index_of, Grant}
use Rattle.sections.specs.Run.{Event, State, obtainer_of, grant_if, Act, act_of, ask, event_of}
use Rattle.sections.specs.Run.Act.{Nothing, Calls, Steps}
use Rattle.sections.specs.Run.Event.{Turn, Other, NoEvent}

-- what an event shows: the task that obtains at it, or 0, the status of its call, and each task's answer after it
pub record Shown : Type 0 where
  pub obtainer : ℕ
  pub status : ℕ
  pub answers : List ℕ

abbrev pub answers_in : Tables → List ℕ
answers_in t = map (λ v. v.answer) t.tasks

abbrev pub shown_none : List ℕ → Shown
shown_none answers = record { obtainer = 0; status = waiting; answers = answers }

abbrev pub shown_call : Tables → Request → List ℕ → Shown
shown_call t r answers = record { obtainer = obtainer_of r.call; status = (perform t r.call r.priorities).answer.status; answers = answers }

abbrev pub shown_act : Tables → Act → List ℕ → Shown
shown_act t Nothing = shown_none
shown_act t (Calls call p) = shown_call t (ask call)
shown_act t (Steps step p) = shown_none

abbrev pub shown_at : List Script → State → Event → List ℕ → Shown
shown_at scripts s (Turn q) = shown_act s.tables (act_of scripts s (index_of q scripts))
shown_at scripts s (Other r) = shown_call s.tables r
shown_at scripts s NoEvent = shown_none

unfoldable pub history : List Script → State → List Event → List Shown
history scripts s [] = []
history scripts s (e ∷ es) = let after = event_of scripts s e in shown_at scripts s e (answers_in after.tables) ∷ history scripts after es

-- the answer to a task's obtain that an event shows: the ending of its wait, or the status of the obtain itself, else 100; `before` has each task's
-- answer before the event
abbrev pub answer_shown : List ℕ → Shown → ℕ → ℕ
answer_shown before h q =
    choose (eqb (get_or before (pred q) 0) waiting) (get_or h.answers (pred q) 0) (choose (eqb h.obtainer q) h.status waiting)

-- the grants shown, where `obtains` has how often each task has obtained before: a task's obtains are those of its sections in turn, so an answer of
-- 0 grants the section of its latest obtain
unfoldable pub grants_shown : List Script → (ℕ → ℕ) → List ℕ → List Shown → List Grant
grants_shown scripts obtains before [] = []
grants_shown scripts obtains before (h ∷ hs) =
    let counted : ℕ → ℕ = λ q. obtains q + bit (eqb h.obtainer q) in
    let granted : ℕ → List Grant = λ q. grant_if (eqb (answer_shown before h q) successful) q (pred (counted q)) in
    rows (tabulate (length scripts) (λ i. granted (script_at scripts i).task)) ++ grants_shown scripts counted h.answers hs
