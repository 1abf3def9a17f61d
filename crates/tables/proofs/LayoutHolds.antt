-- Tables that a layout can hold: shown row by row, of bytes, and what it says of the bytes.
use Prim.Native.Nat.{ℕ, zero, suc, ◌≤◌, ◌<◌}
use native.Mathlib.Omega.{arith}
use lib.ListN.{length, get_or}
use Rattle.laws.specs.Rows.{fit}
use Rattle.laws.proofs.Fit.{length_fit, get_d_fit}
use Rattle.words.proofs.WordsInBytes.{Bytes, Words, words_within, bytes_below}
use Rattle.rules.specs.declared.Task.{Task}
use Rattle.rules.specs.Machine.{Slot, Tables, no_task, free_slot}
use Rattle.tables.specs.Codec.{task_row, slot_row}
use Rattle.tables.specs.Layout.{layout, laid}
use Rattle.tables.specs.Sizes.{Holds}
use Rattle.tables.proofs.LayoutWords.{length_layout, task_word, slot_word, ready_word, sequence_word, by_place}
use Rattle.tables.proofs.LayoutRead.{limited_holds}

pub laid_bytes : (t : Tables) → Holds t → Bytes (laid t)
unfolding laid
laid_bytes t h = bytes_below (layout t) h.words

pub holds_bytes : (t : Tables) → length t.tasks ≤ 32 → length t.slots ≤ 64 → length t.ready ≤ 32
    → ((i : ℕ) → i < length t.slots → length (get_or t.slots i (free_slot 0)).queue ≤ 32)
    → Bytes (laid t) → Holds t
holds_bytes t n m r q b = limited_holds t (record { tasks = n; slots = m; ready = r; queues = q }) b

-- ---- rows of words below 2 ^ 32

pub task_row_words : (v : Task) → v.priority < 4294967296 → v.answer < 4294967296 → v.awaited < 4294967296 → v.ticks < 4294967296 → Words (task_row v)
task_row_words v p a w t zero = p
task_row_words v p a w t (suc zero) = a
task_row_words v p a w t (suc (suc zero)) = w
task_row_words v p a w t (suc (suc (suc zero))) = t
task_row_words v p a w t (suc (suc (suc (suc k)))) = omega arith

pub slot_row_words : (s : Slot) → s.generation < 4294967296 → s.live < 4294967296 → s.name < 4294967296 → s.attributes < 4294967296
    → s.count < 4294967296 → s.owner < 4294967296 → s.nest < 4294967296 → s.maximum < 4294967296
    → length s.queue ≤ 32 → Words s.queue → Words (slot_row s)
slot_row_words s g l n a c o e m few q zero = g
slot_row_words s g l n a c o e m few q (suc zero) = l
slot_row_words s g l n a c o e m few q (suc (suc zero)) = n
slot_row_words s g l n a c o e m few q (suc (suc (suc zero))) = a
slot_row_words s g l n a c o e m few q (suc (suc (suc (suc zero)))) = c
slot_row_words s g l n a c o e m few q (suc (suc (suc (suc (suc zero))))) = o
slot_row_words s g l n a c o e m few q (suc (suc (suc (suc (suc (suc zero)))))) = e
slot_row_words s g l n a c o e m few q (suc (suc (suc (suc (suc (suc (suc zero))))))) = m
slot_row_words s g l n a c o e m few q (suc (suc (suc (suc (suc (suc (suc (suc zero)))))))) = omega arith
slot_row_words s g l n a c o e m few q (suc (suc (suc (suc (suc (suc (suc (suc (suc k))))))))) =
    words_within 32 (fit 32 0 s.queue) (length_fit 32 0 s.queue) (λ k b. rw (get_d_fit 32 0 s.queue k b) (q k)) k

pub holds_rows : (t : Tables) → length t.tasks ≤ 32 → length t.slots ≤ 64 → length t.ready ≤ 32
    → ((i : ℕ) → i < length t.slots → length (get_or t.slots i (free_slot 0)).queue ≤ 32)
    → ((i : ℕ) → Words (task_row (get_or t.tasks i no_task)))
    → ((i : ℕ) → Words (slot_row (get_or t.slots i (free_slot 0))))
    → Words t.ready
    → Holds t
holds_rows t n m r q v s w =
    record { limited = record { tasks = n; slots = m; ready = r; queues = q }; words = words_within 2787 (layout t) (length_layout t) within }
  where
    within : (k : ℕ) → k < 2787 → get_or (layout t) k 0 < 4294967296
    within =
        by_place (λ k. get_or (layout t) k 0 < 4294967296) (unfold layout in omega arith) (unfold layout in omega arith)
        (λ i j l b. rw (task_word t i j l b) (v i j))
        (λ i j l b. rw (slot_word t i j l b) (s i j))
        (rw (ready_word t) (omega arith))
        (λ k b. rw (sequence_word t k b) (w k))
