-- What the model of lent bytes has at an index: the record that stands there in the bytes.
use mathlib.Core.Path.{◌≡◌}
use mathlib.Core.List.{List}
use Prim.Native.Nat.{ℕ, ◌≤◌, ◌<◌}
use lib.ListN.{length, get_or, get_or-eq_default}
use Rattle.laws.proofs.Fit.{length_tabulate, get_d_tabulate}
use Rattle.words.specs.Words.{word_at}
use Rattle.rules.specs.Machine.{no_task, free_slot}
use Rattle.semaphore.specs.Record.{slot_from}
use Rattle.tables.specs.Layout.{model_of, task_at, record_at}

module _ (bs : List ℕ) where
  pub length_tasks : length (model_of bs).tasks ≡ word_at bs 0
  unfolding model_of
  length_tasks = length_tabulate (word_at bs 0) (task_at bs)

  pub length_slots : length (model_of bs).slots ≡ word_at bs 1
  unfolding model_of
  length_slots = length_tabulate (word_at bs 1) (λ i. slot_from (record_at bs i))

  pub task_read : (i : ℕ) → i < word_at bs 0 → get_or (model_of bs).tasks i no_task ≡ task_at bs i
  unfolding model_of
  task_read i h = get_d_tabulate (word_at bs 0) (task_at bs) i no_task h

  pub task_none : (i : ℕ) → word_at bs 0 ≤ i → get_or (model_of bs).tasks i no_task ≡ no_task
  task_none i h = get_or-eq_default (model_of bs).tasks no_task (rw length_tasks h)

  pub slot_read : (i : ℕ) → i < word_at bs 1 → get_or (model_of bs).slots i (free_slot 0) ≡ slot_from (record_at bs i)
  unfolding model_of
  slot_read i h = get_d_tabulate (word_at bs 1) (λ i. slot_from (record_at bs i)) i (free_slot 0) h
