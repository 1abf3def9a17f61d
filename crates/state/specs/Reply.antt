-- What a write and a read answer, and what they leave, on lent bytes of any length and content.
use Rattle.std.specs.Prelude.{List, ◌++◌, ℕ, leb, length, drop, Result, Ok, Err}
use Rattle.laws.specs.Choose.{choose}
use Rattle.rules.specs.Numbers.{successful, invalid_size, incorrect_state}
use Rattle.rules.specs.Machine.{Tables}
use Rattle.rules.specs.Calls.{Outcome, answered, refused}
use Rattle.tables.specs.Layout.{model_of}
use Rattle.agreement.specs.Bytes.{agrees_bytes}
use Rattle.manager.specs.Entry.{no_next}
use Rattle.state.specs.File.{is_started, state_file}
use Rattle.state.specs.Reading.{tables_in, is_state}
use Rattle.rules.specs.declared.refusal.Refusal.{Refusal}
pub use Rattle.calls.specs.Reply.{Reply, reply, Replied}

-- the value of a read or a write: 0 with a refusal
abbrev pub value : Result ℕ Refusal → ℕ
value (Ok n) = n
value (Err e) = 0

-- ---- write: 25, then 14 for a machine not started, then 8 for a buffer shorter than the file

-- the value is the file's length; the bytes after the file keep their contents
unfoldable pub saved : Tables → List ℕ → Reply
saved t buffer =
    choose (is_started t)
    (choose (leb (length (state_file t)) (length buffer))
    (record { answer = (answered successful (length (state_file t)) t).answer; bytes = state_file t ++ drop (length (state_file t)) buffer })
    (record { answer = (refused t invalid_size).answer; bytes = buffer }))
    (record { answer = (refused t incorrect_state).answer; bytes = buffer })

-- what is left in the buffer; the tables are only read
unfoldable pub save_reply : List ℕ → List ℕ → Reply
save_reply bs buffer = choose (agrees_bytes bs) (saved (model_of bs) buffer) (record { answer = no_next; bytes = buffer })

-- ---- read: 25, then 14 for a started machine, then 8 for any file that no agreeing started tables give in either edition;
-- with 8 the machine is not started, so next is 0

unfoldable pub loaded : Tables → List ℕ → Outcome
loaded t file =
    choose (is_started t) (refused t incorrect_state)
    (choose (is_state file) (answered successful 0 (tables_in file)) (refused t invalid_size))

-- what is left in the tables; the file is only read
unfoldable pub load_reply : List ℕ → List ℕ → Reply
load_reply bs file = choose (agrees_bytes bs) (reply (loaded (model_of bs) file)) (record { answer = no_next; bytes = bs })
