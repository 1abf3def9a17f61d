-- The numbers of a state file: the contents by the counts, then the bodies; and how long each is.
use mathlib.Core.Path.{◌≡◌, refl, sym, ap, ap₂, ◌∙◌}
use mathlib.Core.List.{List, [], ◌∷◌, ◌++◌, map, append-nil}
use Prim.Native.Nat.{ℕ, ◌+◌, ◌*◌}
use native.Mathlib.Omega.{arith}
use lib.ListN.{length, length-append, length-map}
use Rattle.laws.specs.Rows.{rows}
use Rattle.laws.proofs.Rows.{wide_map, length_rows}
use Rattle.words.proofs.WordsInBytes.{length_bytes_of}
use Rattle.rules.specs.Machine.{Tables}
use Rattle.tables.specs.Codec.{task_row}
use Rattle.state.specs.declared.contents.Counts.{Counts}
use Rattle.state.specs.File.{tasks_body, numbers_row, slots_body, queues_body, listed, state_numbers, edition_file}
use Rattle.state.specs.Reading.{slot_numbers, file_end}
use Rattle.state.specs.Shape.{slots_length, contents_for, counts_of}
use Rattle.state.proofs.Editions.{length_numbers_row, numbers_times}

-- rows of one width, for tasks and for slots
length_mapped : {A : Type 0} (w : ℕ) (f : A → List ℕ) → ((a : A) → length (f a) ≡ w) → (xs : List A) → length (rows (map f xs)) ≡ w * length xs
length_mapped w f e xs = length_rows (map f xs) (wide_map w f e xs) ∙ ap (λ (n : ℕ). w * n) (length-map xs f)

pub length_tasks_body : (t : Tables) → length (tasks_body t) ≡ 4 * length t.tasks
length_tasks_body t = length_mapped 4 task_row (λ v. refl) t.tasks

pub length_slots_body : (e : ℕ) (t : Tables) → length (slots_body e t) ≡ slot_numbers e (length t.slots)
length_slots_body e t =
    length_mapped (slot_numbers e 1) (numbers_row e) (length_numbers_row e) t.slots ∙ sym (numbers_times e (length t.slots))

-- the bodies end to end, from the third, the second and the first on
abbrev pub from_queues : Tables → List ℕ
from_queues t = queues_body t ++ t.ready

abbrev pub from_slots : ℕ → Tables → List ℕ
from_slots e t = slots_body e t ++ from_queues t

abbrev pub four_bodies : ℕ → Tables → List ℕ
four_bodies e t = tasks_body t ++ from_slots e t

-- what is listed of four bodies
listed_four : (c : Counts) (vs ss qs rs : List ℕ) → length vs ≡ 4 * c.tasks → length ss ≡ slot_numbers c.edition c.slots → length qs ≡ c.queues
    → length rs ≡ c.ready → c.edition ∷ 4 ∷ listed 1 56 (vs ∷ ss ∷ qs ∷ rs ∷ []) ≡ contents_for c
unfolding listed
listed_four c vs ss qs rs a b q r =
    let la : 4 * length vs ≡ 16 * c.tasks = omega arith in
    let lb : 4 * length ss ≡ slots_length c = ap (λ (n : ℕ). 4 * n) b in
    let lq : 4 * length qs ≡ 4 * c.queues = omega arith in
    let lr : 4 * length rs ≡ 4 * c.ready = omega arith in
    λ k. c.edition ∷ 4 ∷ 1 ∷ 56 ∷ la k ∷ 2 ∷ (56 + la k) ∷ lb k ∷ 3 ∷ (56 + la k + lb k) ∷ lq k ∷ 4 ∷ (56 + la k + lb k + lq k) ∷ lr k ∷ []

module _ (e : ℕ) (t : Tables) where
  pub file_numbers : state_numbers e t ≡ contents_for (counts_of e t) ++ four_bodies e t
  unfolding state_numbers rows
  file_numbers =
      ap₂ (λ (xs ys : List ℕ). xs ++ (tasks_body t ++ (slots_body e t ++ (queues_body t ++ ys))))
      (listed_four (counts_of e t) (tasks_body t) (slots_body e t) (queues_body t) t.ready (length_tasks_body t) (length_slots_body e t) refl refl)
      (append-nil t.ready)

  pub length_numbers : length (state_numbers e t) ≡ file_end (counts_of e t)
  length_numbers =
      ap length file_numbers
      ∙ omega (
        arith,
        length-append (tasks_body t) (from_slots e t),
        length-append (slots_body e t) (from_queues t),
        length-append (queues_body t) t.ready,
        length_tasks_body t,
        length_slots_body e t,
      )

  pub length_file : length (edition_file e t) ≡ 4 * file_end (counts_of e t)
  unfolding edition_file
  length_file = length_bytes_of (state_numbers e t) ∙ ap (λ (n : ℕ). 4 * n) length_numbers
