-- Document 01, "Guarded sections": scripts, cells and locals, what a step does, and the plain run. Tasks count from 1, all else from 0.
use Rattle.std.specs.Prelude.{List, [], ◌∷◌, ℕ, suc, pred, ◌+◌, ◌*◌, ◌%◌, eqb, get_or, set}
use Rattle.laws.specs.Choose.{choose}

-- load a cell into a local, store a local in a cell, set a local, add one local to another; or what is none of these
pub data Step : Type 0 where
  Load : (cell local : ℕ) → Step
  Store : (local cell : ℕ) → Step
  Set : (local number : ℕ) → Step
  Add : (local other : ℕ) → Step
  NoStep : Step

-- the semaphore, its obtain's options and timeout, and what is done while it is held
pub record Section : Type 0 where
  pub id : ℕ
  pub options : ℕ
  pub timeout : ℕ
  pub steps : List Step

pub record Script : Type 0 where
  pub task : ℕ
  pub sections : List Section

-- 8 locals for each of 32 tasks: local l of task q stands at (q - 1) * 8 + l
pub record Memory : Type 0 where
  pub cells : List ℕ
  pub locals : List ℕ

abbrev pub script_at : List Script → ℕ → Script
script_at scripts i = get_or scripts i (record { task = 0; sections = [] })

abbrev pub section_at : Script → ℕ → Section
section_at script k = get_or script.sections k (record { id = 0; options = 0; timeout = 0; steps = [] })

-- the place of a task's script in the list, or the list's length
unfoldable pub index_of : ℕ → List Script → ℕ
index_of q [] = 0
index_of q (s ∷ ss) = let later = suc (index_of q ss) in choose (eqb s.task q) 0 later

abbrev pub local_of : Memory → ℕ → ℕ → ℕ
local_of m q local = get_or m.locals (pred q * 8 + local) 0

abbrev pub put_local : Memory → ℕ → ℕ → ℕ → Memory
put_local m q local n = record { cells = m.cells; locals = set m.locals (pred q * 8 + local) n }

-- a load writes the cell's number into the task's local, a store the local's into the cell, a set its own number into the local, an add the sum
-- modulo 4294967296 into the local added to
unfoldable pub do_step : ℕ → Step → Memory → Memory
do_step q (Load cell local) m = put_local m q local (get_or m.cells cell 0)
do_step q (Store local cell) m = record { cells = set m.cells cell (local_of m q local); locals = m.locals }
do_step q (Set local number) m = put_local m q local number
do_step q (Add local other) m = put_local m q other ((local_of m q other + local_of m q local) % 4294967296)
do_step q NoStep m = m

unfoldable pub do_steps : ℕ → List Step → Memory → Memory
do_steps q [] m = m
do_steps q (s ∷ ss) m = do_steps q ss (do_step q s m)

-- a section granted: the task, and which section of its script
pub record Grant : Type 0 where
  pub task : ℕ
  pub section : ℕ

abbrev pub steps_of : List Script → Grant → List Step
steps_of scripts g = (section_at (script_at scripts (index_of g.task scripts)) g.section).steps

-- the plain run: all steps of each granted section, first to last, in the order of the grants; no tables, turns or places
unfoldable pub plain : List Script → List Grant → Memory → Memory
plain scripts [] m = m
plain scripts (g ∷ gs) m = plain scripts gs (do_steps g.task (steps_of scripts g) m)
