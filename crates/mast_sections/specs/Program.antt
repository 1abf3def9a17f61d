-- The program that runs guarded sections from a text: what it prints.
use Rattle.std.specs.Prelude.{◌≡◌, List, [], ℕ, Option, Result, Ok, Err, length, take, replicate}
use Rattle.std.specs.Io.KnownBytes.{Appends}
use Rattle.tables.specs.Layout.{tables_length}
use Rattle.runner.specs.Reply.{run_reply}
use Rattle.report.specs.Report.{report_text}
use Rattle.outcome.specs.Outcome.{report_after}
use Rattle.text.specs.Reading.{Reading, Room, Outcome, read_text}
use Rattle.text.specs.Reading.Outcome.{Says, Fault}
use Rattle.text.specs.Feeding.{Lent, Kept}
use Rattle.playing.specs.Streams.{AppendsFront}
use Rattle.mast_sections.specs.declared.RunError.{RunError}
use Rattle.mast_sections.specs.declared.RunError.TheVariants.{Unread, Unended, Unwritten}
use Rattle.mast_sections.specs.Taken.{ReadSoFar, SaidByAll}

-- 1024 cells, 8192 lines of scripts, sections and steps at four numbers each, and 655360 numbers of events
abbrev pub room : Room
room = record { cells = 1024; scripts = 32768; events = 655360 }

-- the report of the run that was read
unfoldable pub printed : Reading → List ℕ
printed r =
    report_text (report_after (run_reply r.bytes r.scripts r.events r.ids r.cells r.locals (replicate 16384 0) (replicate 513 0))
    r.scripts r.cells r.locals)

-- nothing of a file with a fault
abbrev pub printed_of : Outcome → List ℕ
printed_of (Says r) = printed r
printed_of (Fault line fault) = []

unfoldable pub program : List ℕ → List ℕ
program text = printed_of (read_text room text)

-- ---- what the code does

-- what is lent has the program's room
pub record HasRoom (l : Lent) : Type 0 where
  pub bytes : length l.bytes ≡ tables_length
  pub cells : length l.cells ≡ 1024
  pub scripts : length l.scripts ≡ 32768
  pub events : length l.events ≡ 655360

-- the bytes handed to the writer are the whole report, which stands at the front of the output
pub record Shows (n : ℕ) (report out : List ℕ) : Type 0 where
  pub all : n ≡ length report
  pub front : take n out ≡ report

-- as many bytes are handed to the writer as the program prints for some text
pub record Prints (n : ℕ) : Type 0 where
  pub text : List ℕ
  pub all : n ≡ length (program text)

-- ---- to a writer, from a reader

-- what the program prints of what there was to read is written, once
pub record Handing (n : ℕ) (unread unread' written written' : Option (List ℕ)) : Type 0 where
  pub what : Outcome
  pub said : SaidByAll room what unread unread'
  pub all : n ≡ length (printed_of what)
  pub once : Appends written written' (printed_of what)

-- where writing fails a front of it
pub record Failing (unread unread' written written' : Option (List ℕ)) : Type 0 where
  pub what : Outcome
  pub said : SaidByAll room what unread unread'
  pub front : AppendsFront written written' (printed_of what)

-- nothing is written of a text that could not be read, or had no end
pub record Leaving (unread unread' written written' : Option (List ℕ)) : Type 0 where
  pub kept : Kept
  pub read : ReadSoFar room kept unread unread'
  pub none : Appends written written' []

abbrev pub Answers : Result ℕ RunError → (unread unread' written written' : Option (List ℕ)) → Type 0
Answers (Ok n) unread unread' written written' = Handing n unread unread' written written'
Answers (Err (Unread e)) unread unread' written written' = Leaving unread unread' written written'
Answers (Err Unended) unread unread' written written' = Leaving unread unread' written written'
Answers (Err (Unwritten e)) unread unread' written written' = Failing unread unread' written written'

-- of a known text: all that the program prints of it, once, or nothing; what is written where writing fails `Answers` says
abbrev pub Printed : Result ℕ RunError → List ℕ → (written written' : Option (List ℕ)) → Type 0
Printed (Ok n) text written written' = (n ≡ length (program text)) × Appends written written' (program text)
Printed (Err (Unread e)) text written written' = Appends written written' []
Printed (Err Unended) text written written' = Appends written written' []
Printed (Err (Unwritten e)) text written written' = Unit {0}
