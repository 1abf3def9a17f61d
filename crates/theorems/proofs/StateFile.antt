-- What is promised of the state file, as Theorems.antt has it for the calls: `state_file` is the file of tables, `is_state` the test of a file, `save_reply`
-- and `load_reply` are what `mast_save` and `mast_load` promise. Demand 3 from a load on stands in Theorems.antt.
use mathlib.Core.Path.{◌≡◌}
use mathlib.Core.Bool.{true, false}
use mathlib.Core.List.{List, ◌++◌}
use mathlib.Core.Logic.{◌↔◌, ◌≢◌}
use Prim.Native.Nat.{ℕ, ◌+◌, ◌*◌, ◌≤◌, ◌<◌}
use lib.Dec.{eqb}
use lib.ListN.{length, take, drop}
use Rattle.laws.specs.Choose.{choose}
use Rattle.words.proofs.WordsInBytes.{Bytes}
use Rattle.rules.specs.declared.Call.TheVariants.{Create, Delete}
use Rattle.rules.specs.Machine.{Tables, unstarted, names, next}
use Rattle.rules.specs.Agreement.{Agrees}
use Rattle.rules.specs.Calls.{step}
use Rattle.rules.specs.Runs.{Request, after, answers}
use Rattle.rules.specs.Promises.{NeverAgain}
use Rattle.rules.specs.Fits.{call_fits, calls_fit}
use Rattle.tables.specs.Layout.{laid, model_of}
use Rattle.agreement.specs.Bytes.{agrees_bytes}
use Rattle.calls.specs.Agreeing.{Agreeing}
use Rattle.manager.specs.Entry.{no_next, reply_to}
use Rattle.manager.specs.Runs.{replies}
use Rattle.state.specs.File.{is_started, first_edition, second_edition, edition_file, state_file, longest_file}
use Rattle.state.specs.Reading.{tables_in, edition_in, is_state, HasFirstMaxima, Gives}
use Rattle.state.specs.Reply.{save_reply, load_reply}
use Rattle.state.proofs.Promises as files
use Rattle.state.proofs.Lengths as lengths
use Rattle.state.proofs.Answered as replied
use Rattle.state.proofs.Loading as writes
use Rattle.state.proofs.FromLoad as loads

-- what is written reads back to the same tables, over tables and over the bytes of the two functions
pub written_file_reads_back : (t : Tables) → Agrees t → tables_in (state_file t) ≡ t
written_file_reads_back = files.written_reads_back

pub saved_bytes_load_back : (bs buffer : List ℕ) → Bytes bs → let r = save_reply bs buffer in r.answer.status ≡ 0
    → load_reply (laid unstarted) (take r.answer.value r.bytes)
    ≡ record { answer = record { status = 0; value = 0; next = next (model_of bs) }; bytes = bs }
saved_bytes_load_back = loads.saved_then_loaded

-- what is loaded is written as the edition 2 file of its tables, before what the buffer has behind it
pub loaded_bytes_save_back : (bs file buffer : List ℕ) → Bytes bs → (load_reply bs file).answer.status ≡ 0
    → let out = state_file (tables_in file) in length out ≤ length buffer
    → save_reply (load_reply bs file).bytes buffer
    ≡ record { answer = record { status = 0; value = length out; next = next (tables_in file) }; bytes = out ++ drop (length out) buffer }
loaded_bytes_save_back = loads.loaded_then_saved

-- an edition 2 file that is read is byte for byte what would be written from its tables
pub read_file_is_written : (file : List ℕ) → is_state file ≡ true → edition_in file ≡ second_edition → file ≡ state_file (tables_in file)
read_file_is_written = files.state_is_written

-- a file is valid exactly where agreeing started tables give it, in edition 2, or in edition 1 with the maxima of their classes; any other gets 8, value 0
-- and next task 0, and nothing else does
pub valid_exactly : (file : List ℕ) → (is_state file ≡ true) ↔ ((t : Tables) × Agrees t × (is_started t ≡ true) × Gives t file)
valid_exactly = files.states_exactly

pub eight_exactly_otherwise : (file : List ℕ)
    → ((load_reply (laid unstarted) file).answer.status ≡ 8) ↔ ((t : Tables) → Agrees t → is_started t ≡ true → Gives t file → ⊥)
eight_exactly_otherwise = loads.eight_exactly

-- request 4: an edition 1 file is valid exactly where it is byte for byte what edition 1 has of its tables, whose live slots have 4294967295 or 1 by class, and
-- the edition 2 file so made is valid (and tells the same tables)
pub first_edition_exactly : (file : List ℕ) → edition_in file ≡ first_edition → let made = state_file (tables_in file) in
    (is_state file ≡ true) ↔ ((file ≡ edition_file first_edition (tables_in file)) × (is_state made ≡ true) × (tables_in made ≡ tables_in file))
first_edition_exactly = files.first_exactly

pub first_edition_maxima : (file : List ℕ) → edition_in file ≡ first_edition → HasFirstMaxima (tables_in file)
first_edition_maxima = files.read_first_maxima

pub made_file_is_valid : (file : List ℕ) → is_state file ≡ true → is_state (state_file (tables_in file)) ≡ true
made_file_is_valid = files.made_is_state

-- tables with those maxima are read back from their edition 1 file too
pub first_edition_reads_back : (t : Tables) → Agrees t → HasFirstMaxima t → tables_in (edition_file first_edition t) ≡ t
first_edition_reads_back = files.first_reads_back

-- the length of a file of agreeing tables, and the longest
pub length_of_file : (t : Tables) → Agrees t → length (state_file t) ≡ 56 + 20 * length t.tasks + 36 * length t.slots
length_of_file = lengths.file_length

pub no_file_longer : (t : Tables) → Agrees t → length (state_file t) ≤ longest_file
no_file_longer = lengths.file_longest

-- and some machine's file is that long
pub longest_is_reached : (t : Tables) × Agrees t × (is_started t ≡ true) × (length (state_file t) ≡ longest_file)
longest_is_reached = lengths.longest_reached

-- what a write answers and leaves in the buffer, over any bytes: 25, then 14 where nothing is started, then 8 for a short buffer, else the file
pub write_answers : (bs buffer : List ℕ) → let t = model_of bs in
    let r = save_reply bs buffer in (agrees_bytes bs ≡ false → r ≡ record { answer = no_next; bytes = buffer })
    × (agrees_bytes bs ≡ true → is_started t ≡ false → r ≡ record { answer = record { status = 14; value = 0; next = next t }; bytes = buffer })
    × (agrees_bytes bs ≡ true → is_started t ≡ true → length buffer < length (state_file t)
    → r ≡ record { answer = record { status = 8; value = 0; next = next t }; bytes = buffer })
    × (agrees_bytes bs ≡ true → is_started t ≡ true → length (state_file t) ≤ length buffer
    → r ≡ record { answer = record { status = 0; value = length (state_file t); next = next t }; bytes = state_file t ++ drop (length (state_file t)) buffer })
write_answers = replied.write_answers

-- what a read answers and leaves in the tables: 25, then 14 where one is started, then 8 for a file that is none, else the tables of the file
pub read_answers : (bs file : List ℕ) → Bytes bs → let t = model_of bs in
    let r = load_reply bs file in (agrees_bytes bs ≡ false → r ≡ record { answer = no_next; bytes = bs })
    × (agrees_bytes bs ≡ true → is_started t ≡ true → r ≡ record { answer = record { status = 14; value = 0; next = next t }; bytes = bs })
    × (agrees_bytes bs ≡ true → is_started t ≡ false → is_state file ≡ false → r ≡ record { answer = record { status = 8; value = 0; next = 0 }; bytes = bs })
    × (agrees_bytes bs ≡ true → is_started t ≡ false → is_state file ≡ true
    → r ≡ record { answer = record { status = 0; value = 0; next = next (tables_in file) }; bytes = laid (tables_in file) })
read_answers = replied.read_answers

-- the bytes behind a written file keep their contents; a refusal changes no byte of the buffer or of the tables, its value is 0, and its next task that
-- of the tables, with 25 none
pub bytes_behind_the_file : (bs buffer : List ℕ) → let r = save_reply bs buffer in drop r.answer.value r.bytes ≡ drop r.answer.value buffer
bytes_behind_the_file = writes.behind_the_file

pub refused_write_keeps : (bs buffer : List ℕ) → let r = save_reply bs buffer in r.answer.status ≢ 0
    → (r.bytes ≡ buffer) × (r.answer.value ≡ 0) × (r.answer.next ≡ choose (eqb r.answer.status 25) 0 (next (model_of bs)))
refused_write_keeps = writes.refused_save_keeps

pub refused_read_keeps : (bs file : List ℕ) → Bytes bs → let r = load_reply bs file in r.answer.status ≢ 0
    → (r.bytes ≡ bs) × (r.answer.value ≡ 0) × (r.answer.next ≡ choose (eqb r.answer.status 25) 0 (next (model_of bs)))
refused_read_keeps = writes.refused_load_keeps

-- loaded tables are those of the file and agree, so demand 2 holds from there on: status, tables and next task are those of the rules from the loaded tables;
-- an identifier deleted after the load never comes back (that no two creates give the same, that a slot of the last generation is not used again and what
-- `mast_run` answers is said of any tables, so of these)
pub demand_2_from_the_load : (bs file : List ℕ) → Bytes bs → (load_reply bs file).answer.status ≡ 0 → (requests : List Request) → calls_fit requests ≡ true
    → let r = replies (load_reply bs file).bytes requests in
    (r.answers ≡ answers (tables_in file) requests) × (model_of r.bytes ≡ after (tables_in file) requests) × Agreeing r.bytes
demand_2_from_the_load = loads.answers_from_load

pub deleted_after_the_load_never_again : (bs file : List ℕ) → Bytes bs → (load_reply bs file).answer.status ≡ 0
    → (earlier : List Request) → calls_fit earlier ≡ true → (caller id : ℕ) (priorities : List ℕ) → call_fits (Delete caller id) ≡ true
    → let m = (replies (load_reply bs file).bytes earlier).bytes in (reply_to m (Delete caller id) priorities).answer.status ≡ 0
    → (later : List Request) → calls_fit later ≡ true
    → NeverAgain (λ call others. (reply_to (replies (reply_to m (Delete caller id) priorities).bytes later).bytes call others).answer) id
deleted_after_the_load_never_again = loads.deleted_from_load

-- an identifier that the saved machine gave out after the save is void: it names nothing in the loaded tables
pub void_after_the_load : (t : Tables) → Agrees t → (file : List ℕ) → Gives t file
    → (requests : List Request) (caller name count attributes maximum : ℕ) (priorities : List ℕ)
    → let a = (step (after t requests) (Create caller name count attributes maximum) priorities).answer in
    a.status ≡ 0 → names (tables_in file) a.value ≡ false
void_after_the_load = loads.void_after_load
