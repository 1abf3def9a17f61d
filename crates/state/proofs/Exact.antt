-- Which bytes are a state file: those whose contents and queues are right and whose tables agree, as the code tests it.
use mathlib.Core.Path.{◌≡◌, refl, sym, subst, ap, ap₂, ◌∙◌}
use mathlib.Core.Bool.{true, false≢true}
use mathlib.Core.List.{List, [], ◌∷◌, ◌++◌, map}
use mathlib.Core.Logic.{◌↔◌}
use Prim.Native.Nat.{ℕ, zero, suc, ◌+◌, ◌*◌, ◌≤◌}
use native.Mathlib.Omega.{arith}
use lib.ListN.{length}
use borrow.Author.Tests.{leb-true, le-leb, eqb-true, eq-eqb}
use Rattle.laws.specs.Choose.{◌and◌}
use Rattle.laws.proofs.Choose.{and_both, both_and, same_test}
use Rattle.laws.specs.Rows.{tabulate, rows}
use Rattle.laws.proofs.Fit.{length_tabulate}
use Rattle.words.specs.Words.{word_at}
use Rattle.words.proofs.WordsInBytes.{Bytes}
use Rattle.rules.specs.declared.Task.{Task}
use Rattle.rules.specs.Machine.{Tables}
use Rattle.rules.specs.Agreement.{Agrees, agrees}
use Rattle.rules.proofs.Invariants.Agreeing.{agrees_true, true_agrees}
use Rattle.tables.specs.Codec.{task_row}
use Rattle.tables.specs.Layout.{row_at}
use Rattle.calls.proofs.Agreeing.{agrees_holds}
use Rattle.state.specs.declared.contents.Counts.{Counts}
use Rattle.state.specs.File.{is_started, tasks_body, numbers_row, slots_body, queue_row, queues_body, state_numbers, edition_file}
use Rattle.state.specs.Reading.{slot_numbers, counts_in, slots_start, queues_start, ready_start, file_end, tasks_from, slots_from, tables_in}
use Rattle.state.specs.Reading.{same, edition_in, is_edition, is_state}
use Rattle.state.specs.Shape.{Small, contents_for, is_headed, queues_fit, is_filled, counts_of}
use Rattle.state.proofs.File.{from_queues, from_slots, four_bodies, file_numbers, length_tasks_body, length_slots_body, length_numbers, length_file}
use Rattle.state.proofs.Editions.{row_back}
use Rattle.state.proofs.Stands.{Stands, row_stands, stands_none, stands_cons, stands_joined, bytes_stand}
use Rattle.state.proofs.Round.{tasks_at, tasks_at_more, contents_stand, queues_stand, counts_back, file_stands}
use Rattle.state.proofs.Shape.{headed_of, headed_true, queues_end, queues_fit_lem}
use Rattle.state.proofs.Held.{read_tasks, read_slots, read_ready, queues_few, file_words}

-- ---- the same bytes

same_is : (xs ys : List ℕ) → same xs ys ≡ true → xs ≡ ys
unfolding same
same_is [] [] e = refl
same_is [] (y ∷ ys) e = absurd (false≢true e)
same_is (x ∷ xs) [] e = absurd (false≢true e)
same_is (x ∷ xs) (y ∷ ys) e =
    let p = and_both _ _ e in
    ap₂ (λ (z : ℕ) (zs : List ℕ). z ∷ zs) (eqb-true x y p.0) (same_is xs ys p.1)

same_self : (xs : List ℕ) → same xs xs ≡ true
unfolding same
same_self [] = refl
same_self (x ∷ xs) = both_and (eq-eqb x x refl) (same_self xs)

pub same_exactly : (xs ys : List ℕ) → (same xs ys ≡ true) ↔ (xs ≡ ys)
same_exactly xs ys = (same_is xs ys, λ e. subst (λ (zs : List ℕ). same xs zs ≡ true) e (same_self xs))

-- ---- bytes of the right shape are the file of the tables read

-- the rows of what is read stand where it was read
module _ (bs : List ℕ) where
  read_tasks_stand : (n at : ℕ) → Stands bs at (rows (map task_row (tasks_at bs at n)))
  unfolding tabulate rows
  read_tasks_stand zero at = stands_none bs at
  read_tasks_stand (suc n) at =
      subst (λ (vs : List Task). Stands bs at (rows (map task_row vs))) (sym (tasks_at_more bs at n))
      (stands_joined bs at (row_at bs at 4) (rows (map task_row (tasks_at bs (at + 4) n))) (at + 4) refl (row_stands bs at 4) (read_tasks_stand n (at + 4)))

  read_slots_stand : (e n at queue : ℕ) → Stands bs at (rows (map (numbers_row e) (slots_from bs e n at queue)))
  unfolding slots_from rows
  read_slots_stand e zero at queue = stands_none bs at
  read_slots_stand e (suc n) at queue =
      let next : ℕ = at + slot_numbers e 1 in
      let behind : ℕ = suc queue + word_at bs queue in
      let waiters : List ℕ = row_at bs (suc queue) (word_at bs queue) in
      let row : List ℕ = row_at bs at (slot_numbers e 1) in
      let long : length row ≡ slot_numbers e 1 = length_tabulate (slot_numbers e 1) (λ k. word_at bs (at + k)) in
      subst (λ (r : List ℕ). Stands bs at (r ++ rows (map (numbers_row e) (slots_from bs e n next behind)))) (sym (row_back e bs at waiters))
      (stands_joined bs at row (rows (map (numbers_row e) (slots_from bs e n next behind))) next (ap (λ (n : ℕ). at + n) (sym long))
      (row_stands bs at (slot_numbers e 1)) (read_slots_stand e n next behind))

  read_queues_stand : (e n at queue : ℕ) → Stands bs queue (rows (map queue_row (slots_from bs e n at queue)))
  unfolding slots_from rows
  read_queues_stand e zero at queue = stands_none bs queue
  read_queues_stand e (suc n) at queue =
      let next : ℕ = suc queue + word_at bs queue in
      let waiters : List ℕ = row_at bs (suc queue) (word_at bs queue) in
      let long : length waiters ≡ word_at bs queue = length_tabulate (word_at bs queue) (λ k. word_at bs (suc queue + k)) in
      let rest : List ℕ = rows (map queue_row (slots_from bs e n (at + slot_numbers e 1) next)) in
      stands_cons bs queue (length waiters) (waiters ++ rest) (sym long)
      (stands_joined bs (suc queue) waiters rest next (omega arith) (row_stands bs (suc queue) (word_at bs queue))
      (read_queues_stand e n (at + slot_numbers e 1) next))

  module _ (e : is_headed bs ≡ true) (f : is_filled bs ≡ true) where
    abbrev c : Counts
    c = counts_in bs

    abbrev t : Tables
    t = tables_in bs

    read_counts : counts_of (edition_in bs) t ≡ c
    read_counts =
        let q : length (queues_body t) ≡ c.queues =
        unfold tables_in in omega (arith, queues_end bs c.edition c.slots (slots_start c) (queues_start c) (ready_start c) f)
        in
        λ k. record { edition = edition_in bs; tasks = read_tasks bs k; slots = read_slots bs k; queues = q k; ready = read_ready bs k }

    abbrev e₀ : ℕ
    e₀ = edition_in bs

    numbers_stand : Stands bs 0 (state_numbers e₀ t)
    unfolding tables_in tasks_from
    numbers_stand =
        subst (Stands bs 0) (sym (file_numbers e₀ t))
        (stands_joined bs 0 (contents_for (counts_of e₀ t)) (four_bodies e₀ t) 14 refl
        (subst (λ (d : Counts). Stands bs 0 (contents_for d)) (sym read_counts) (headed_of bs e).contents)
        (stands_joined bs 14 (tasks_body t) (from_slots e₀ t) (slots_start c) (omega (arith, length_tasks_body t, read_tasks bs)) (read_tasks_stand c.tasks 14)
        (stands_joined bs (slots_start c) (slots_body e₀ t) (from_queues t) (queues_start c)
        (ap (λ (n : ℕ). slots_start c + n) (sym (length_slots_body e₀ t ∙ ap (slot_numbers e₀) (read_slots bs))))
        (read_slots_stand e₀ c.slots (slots_start c) (queues_start c))
        (stands_joined bs (queues_start c) (queues_body t) t.ready (ready_start c) (ap (λ (d : Counts). queues_start c + d.queues) (sym read_counts))
        (read_queues_stand e₀ c.slots (slots_start c) (queues_start c))
        (row_stands bs (ready_start c) c.ready)))))

    pub shaped : Bytes bs → bs ≡ edition_file e₀ t
    unfolding edition_file
    shaped b =
        bytes_stand bs (state_numbers e₀ t) b ((headed_of bs e).long ∙ sym (ap (λ (n : ℕ). 4 * n) (length_numbers e₀ t ∙ ap file_end read_counts))) numbers_stand

-- ---- the file of tables that are started and agree is of the right shape

module _ (e : ℕ) (f : is_edition e ≡ true) (t : Tables) (a : Agrees t) (s : is_started t ≡ true) where
  last : e ≤ 2
  last = leb-true e 2 (and_both _ _ f).1

  small : Small (counts_of e t)
  small =
      let limited = (agrees_holds t a).limited in
      record {
        first = leb-true 1 e (and_both _ _ f).0;
        last = last;
        some = leb-true 1 (length t.tasks) s;
        tasks = limited.tasks;
        slots = limited.slots;
        queues = queues_few t (agrees_holds t a);
        ready = limited.ready;
      }

  abbrev file : List ℕ
  file = edition_file e t

  stands : Stands file 0 (state_numbers e t)
  stands = file_stands e t (file_words t (agrees_holds t a) e last)

  counts : counts_in file ≡ counts_of e t
  counts = counts_back file e t stands

  pub written_headed : is_headed file ≡ true
  written_headed =
      headed_true file
      (record {
        small = subst Small (sym counts) small;
        long = length_file e t ∙ ap (λ (d : Counts). 4 * file_end d) (sym counts);
        contents = subst (λ (d : Counts). Stands file 0 (contents_for d)) (sym counts) (contents_stand file e t stands);
      })

  pub written_filled : is_filled file ≡ true
  written_filled =
      subst (λ (d : Counts). queues_fit file d.slots (queues_start d) (ready_start d) ≡ true) (sym counts)
      (queues_fit_lem file t.slots (agrees_holds t a).limited.queues (queues_start (counts_of e t)) (ready_start (counts_of e t))
      (queues_stand file e t stands) refl)

-- ---- so the test of the code is the definition's

-- what a state file is
pub record IsState (bs : List ℕ) : Type 0 where
  pub edition : is_edition (edition_in bs) ≡ true
  pub started : is_started (tables_in bs) ≡ true
  pub agreed : Agrees (tables_in bs)
  pub written : bs ≡ edition_file (edition_in bs) (tables_in bs)

pub state_of : (bs : List ℕ) → is_state bs ≡ true → IsState bs
unfolding is_state
state_of bs e =
    let f = and_both _ _ e in
    let p = and_both _ _ f.1 in
    let q = and_both _ _ p.1 in
    record { edition = f.0; started = p.0; agreed = true_agrees (tables_in bs) q.0; written = same_is bs (edition_file (edition_in bs) (tables_in bs)) q.1 }

pub state_true : (bs : List ℕ) → IsState bs → is_state bs ≡ true
unfolding is_state
state_true bs d =
    both_and d.edition
    (both_and d.started
    (both_and (agrees_true (tables_in bs) d.agreed) ((same_exactly bs (edition_file (edition_in bs) (tables_in bs))).1 d.written)))

module _ (bs : List ℕ) (e : is_state bs ≡ true) where
  abbrev d : IsState bs
  d = state_of bs e

  pub state_headed : is_headed bs ≡ true
  state_headed =
      subst (λ (x : List ℕ). is_headed x ≡ true) (sym d.written) (written_headed (edition_in bs) d.edition (tables_in bs) d.agreed d.started)

  pub state_filled : is_filled bs ≡ true
  state_filled =
      subst (λ (x : List ℕ). is_filled x ≡ true) (sym d.written) (written_filled (edition_in bs) d.edition (tables_in bs) d.agreed d.started)

pub exact : (bs : List ℕ) → Bytes bs → is_state bs ≡ (is_headed bs and is_filled bs and agrees (tables_in bs))
exact bs b =
    same_test (is_state bs) (is_headed bs and is_filled bs and agrees (tables_in bs))
    (λ e. both_and (state_headed bs e) (both_and (state_filled bs e) (agrees_true (tables_in bs) (state_of bs e).agreed)))
    (λ e.
    let p = and_both _ _ e in
    let q = and_both _ _ p.1 in
    let small = (headed_of bs p.0).small in
    state_true bs
    (record {
      edition = both_and (le-leb 1 (edition_in bs) small.first) (le-leb (edition_in bs) 2 small.last);
      started = le-leb 1 (length (tables_in bs).tasks) (omega (arith, small.some, read_tasks bs));
      agreed = true_agrees (tables_in bs) q.1;
      written = shaped bs p.0 q.0 b;
    }))
