-- What the loads and the stores of a slot come to, on plain lists.
use mathlib.Core.Path.{◌≡◌, refl, ap, sym, ◌∙◌}
use mathlib.Core.List.{List}
use Prim.Native.Nat.{ℕ, ◌+◌, ◌*◌}
use native.Mathlib.Omega.{arith}
use lib.Seq.{sets}
use Rattle.laws.specs.Rows.{tabulate}
use Rattle.laws.proofs.Fit.{sets_join, tabulate_is}
use Rattle.words.specs.Words.{bytes_of, word_at}
use Rattle.semaphore.specs.declared.Semaphore.{Semaphore}
use Rattle.tables.specs.declared.Head.{Head}
use Rattle.tables.specs.Codec.{head_row, head_from, record_row}
use Rattle.tables.specs.Layout.{row_at}
use Rattle.tables.specs.Layout.{slot_place, head_of, record_at}
use Rattle.tables.proofs.LayoutRead.{queue_places, queue_word_at}

-- ---- a slot, stored as its nine words and then its queue

pub slot_stored : (m m₁ m₂ : List ℕ) (at : ℕ) (s : Semaphore) → m₁ ≡ sets m (4 * at) (bytes_of (head_row (head_of s)))
    → m₂ ≡ sets m₁ (4 * (at + 9)) (bytes_of s.queue) → m₂ ≡ sets m (4 * at) (bytes_of (record_row s))
unfolding bytes_of
slot_stored m m₁ m₂ at s e₁ e₂ =
    let p : 4 * (at + 9) ≡ 4 * at + 36 = omega arith in
    e₂
    ∙ ap (λ (l : List ℕ). sets l (4 * (at + 9)) (bytes_of s.queue)) e₁
    ∙ ap (λ (n : ℕ). sets (sets m (4 * at) (bytes_of (head_row (head_of s)))) n (bytes_of s.queue)) p
    ∙ sets_join m (4 * at) (bytes_of (head_row (head_of s))) (bytes_of s.queue)

-- ---- a slot, loaded as its head and its queue

abbrev record_with : Head → List ℕ → Semaphore
record_with s queue =
    record {
      generation = s.generation;
      live = s.live;
      name = s.name;
      attributes = s.attributes;
      count = s.count;
      owner = s.owner;
      nest = s.nest;
      maximum = s.maximum;
      waiters = s.waiters;
      queue = queue;
    }

-- what stands before a queue, with the queue
pub slot_loaded : (s : Semaphore) (head : Head) (queue : List ℕ) → head ≡ head_of s → queue ≡ s.queue → record_with head queue ≡ s
slot_loaded s head queue e q = λ k. record_with (e k) (q k)

-- a slot's first nine words, and those of its queue
module _ (bs : List ℕ) (i : ℕ) where
  pub head_read : head_from (row_at bs (slot_place i) 9) ≡ head_of (record_at bs i)
  unfolding record_at tabulate
  head_read = refl

  pub queue_read : row_at bs (slot_place i + 9) 32 ≡ (record_at bs i).queue
  queue_read = sym (tabulate_is 32 (λ k. word_at bs (slot_place i + 9 + k)) (record_at bs i).queue 0 (queue_places bs i) (λ k h. sym (queue_word_at bs i k h)))
