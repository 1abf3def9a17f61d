-- How long the file of agreeing tables is: each task stands once, in a queue or in the sequence of ready tasks.
use mathlib.Core.Path.{◌≡◌, refl, subst, sym, ap, ◌∙◌}
use mathlib.Core.Bool.{true}
use mathlib.Core.List.{List, [], ◌∷◌, map}
use Prim.Native.Nat.{ℕ, ◌+◌, ◌-◌, ◌*◌, ◌≤◌}
use native.Mathlib.Omega.{arith}
use lib.ListN.{length, replicate, length-append, get_or-replicate}
use borrow.Author.Tests.{leb-true, le-leb}
use Rattle.laws.specs.Choose.{choose}
use Rattle.laws.specs.Rows.{rows}
use Rattle.words.specs.Words.{word_at}
use Rattle.rules.specs.Machine.{Slot, Tables}
use Rattle.rules.specs.Agreement.{Agrees}
use Rattle.rules.specs.Calls.{started}
use Rattle.rules.proofs.Invariants.Agreeing.{sizes_within}
use Rattle.rules.proofs.Invariants.ToTests.{facts_agrees}
use Rattle.rules.proofs.Invariants.Making.{started_facts}
use Rattle.rules.proofs.Invariants.Standing.{standing}
use Rattle.tables.specs.Layout.{ready_place, model_of}
use Rattle.tables.proofs.LayoutRead.{length_ready}
use Rattle.lookup.proofs.Model.{length_tasks, length_slots}
use Rattle.calls.specs.Agreeing.{Agreeing}
use Rattle.calls.proofs.Agreeing.{sized}
use Rattle.state.specs.declared.contents.Counts.{Counts}
use Rattle.state.specs.File.{is_started, second_edition, queue_row, queues_body, state_file, longest_file}
use Rattle.state.specs.Reading.{file_end}
use Rattle.state.specs.Shape.{Small, counts_of}
use Rattle.state.proofs.File.{length_file}
use Rattle.state.proofs.Editions.{eight}

-- a length for each slot, and the queues
length_queues : (ss : List Slot) → length (rows (map queue_row ss)) ≡ length ss + length (rows (map (λ s. s.queue) ss))
unfolding rows
length_queues [] = refl
length_queues (s ∷ ss) =
    omega (
      arith,
      length-append s.queue (rows (map queue_row ss)),
      length-append s.queue (rows (map (λ s. s.queue) ss)),
      length_queues ss,
    )

-- ---- of agreeing tables

module _ (t : Tables) (a : Agrees t) where
  pub queues_length : length (queues_body t) + length t.ready ≡ length t.slots + length t.tasks
  queues_length = omega (arith, length_queues t.slots, standing t a)

  pub file_length : length (state_file t) ≡ 56 + 20 * length t.tasks + 36 * length t.slots
  file_length = omega (arith, length_file second_edition t, queues_length, eight second_edition (length t.slots) refl)

  pub file_longest : length (state_file t) ≤ longest_file
  file_longest = omega (arith, file_length, (sizes_within t a.sizes).tasks, (sizes_within t a.sizes).slots)

  pub counts_small : is_started t ≡ true → Small (counts_of second_edition t)
  counts_small e =
      let s = sizes_within t a.sizes in
      record {
        first = omega arith;
        last = omega arith;
        some = leb-true 1 (length t.tasks) e;
        tasks = s.tasks;
        slots = s.slots;
        queues = omega (arith, s.tasks, s.slots, queues_length);
        ready = omega (arith, s.tasks, standing t a);
      }

-- the counts that a write goes by, where there are tasks
module _ {bs : List ℕ} (g : Agreeing bs) (c : Counts) (e : c ≡ counts_of second_edition (model_of bs)) where
  pub small_counts : (length (model_of bs).tasks ≡ 0 → ⊥) → Small c
  small_counts some = subst Small (sym e) (counts_small (model_of bs) g.agrees (le-leb 1 (length (model_of bs).tasks) (omega arith)))

  pub file_counted : (n : ℕ) → n ≡ file_end c → 4 * n ≡ length (state_file (model_of bs))
  file_counted n f =
      ap (λ (k : ℕ). 4 * k) (f ∙ ap (λ (k : Counts). file_end k) e) ∙ sym (length_file second_edition (model_of bs))

-- the counts that code reads from agreeing bytes
module _ {bs : List ℕ} (g : Agreeing bs) where
  pub ready_within : word_at bs ready_place ≤ word_at bs 0
  ready_within = omega (arith, length_ready bs (sized g).ready, length_tasks bs, standing (model_of bs) g.agrees)

  pub counts_read : (tasks slots ready : ℕ) → tasks ≡ word_at bs 0 → slots ≡ word_at bs 1 → ready ≡ word_at bs ready_place
      → ◌≡◌ {A = Counts} (record { edition = second_edition; tasks = tasks; slots = slots; queues = slots + (tasks - ready); ready = ready })
      (counts_of second_edition (model_of bs))
  counts_read tasks slots ready n s r =
      let N : tasks ≡ length (model_of bs).tasks = omega (arith, length_tasks bs) in
      let S : slots ≡ length (model_of bs).slots = omega (arith, length_slots bs) in
      let R : ready ≡ length (model_of bs).ready = omega (arith, length_ready bs (sized g).ready) in
      let Q : slots + (tasks - ready) ≡ length (queues_body (model_of bs)) = omega (arith, ready_within, queues_length (model_of bs) g.agrees) in
      λ k. record { edition = second_edition; tasks = N k; slots = S k; queues = Q k; ready = R k }

-- 32 tasks and 64 slots give the longest
abbrev largest : Tables
largest = started 64 (replicate 32 1)

largest_agrees : Agrees largest
unfolding choose
largest_agrees =
    facts_agrees largest
    (started_facts 64 (replicate 32 1) refl (λ i h. rw (get_or-replicate {A = ℕ} 32 i 1 0 h) refl))

pub longest_reached : (t : Tables) × Agrees t × (is_started t ≡ true) × (length (state_file t) ≡ longest_file)
unfolding started
longest_reached = (largest, largest_agrees, refl, file_length largest largest_agrees)
