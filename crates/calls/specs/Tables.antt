-- What lent tables hold, and what a call does to them.
use Rattle.std.specs.Prelude.{◌≡◌, List, ℕ}
use Rattle.std.specs.Borrow.{GName}
use Rattle.rules.specs.declared.Answer.{Answer}
use Rattle.rules.specs.declared.Call.{Call}
use Rattle.rules.specs.Machine.{Tables as Machine}
use Rattle.rules.specs.Calls.{perform}
use Rattle.tables.specs.Layout.{model_of}
use Rattle.calls.specs.Reply.{Replied, reply}
use Rattle.calls.specs.declared.lent.Tables.{Tables}

-- which loan of bytes they lie in
abbrev pub loan : Tables → GName
loan t = t.bytes.ghost_name

-- the tables of the rules that they are
abbrev pub machine : Tables → Machine
machine t = model_of t.bytes.now

-- the call's answer, and every byte that it leaves; the tables that lie there then; in the same loan
pub record Performs (old new : Tables) (r : Answer) (call : Call) (priorities : List ℕ) : Type 0 where
  pub replied : Replied r new.bytes.now (reply (perform (machine old) call priorities))
  pub tables : machine new ≡ (perform (machine old) call priorities).tables
  pub loan : loan new ≡ loan old
