-- Whom a task lends to, read off lent bytes: each test on the way, and the list of all tasks.
use mathlib.Core.Path.{◌≡◌, refl, sym, ap, ap₂, ◌∙◌}
use mathlib.Core.Bool.{Bool, true, false}
use mathlib.Core.List.{List, [], ◌∷◌, ◌++◌}
use mathlib.Core.Logic.{◌⊎◌, inl, inr, ⊎_elim}
use Rattle.std.specs.Prelude.{min}
use Prim.Native.Nat.{ℕ, zero, suc, pred, ◌+◌, ◌-◌, ◌%◌, ◌≤◌, ◌<◌}
use native.Mathlib.Numerals.{add-one}
use native.Mathlib.Omega.{arith}
use native.Mathlib.Decide.{ℕ_discrete}
use lib.Dec.{leb, ltb}
use lib.ListN.{length, get_or, set}
use borrow.Author.Tests.{ltb-true, ltb-false, eq-eqb, ne_eqb, le-leb, lt-leb}
use Rattle.laws.specs.Choose.{choose, ◌and◌}
use Rattle.laws.specs.Rows.{fit, tabulate}
use Rattle.laws.proofs.Fit.{length_tabulate, get_d_tabulate, tabulate_last, get_d_fit, set_fit_end}
use Rattle.laws.proofs.Choose.{choose_cases, if_yes, if_no, both_and}
use Rattle.words.specs.Words.{word_at}
use Rattle.rules.specs.declared.Task.{Task}
use Rattle.rules.specs.Numbers.{inherits}
use Rattle.rules.specs.Machine.{Slot, Tables, free_slot, task_of, slot_of, is_task, waits, names, slot_named, lends_to, lends, least_of, working_with, urgency}
use Rattle.tables.specs.Layout.{model_of, task_at, record_at, head_of}
use Rattle.tables.specs.declared.Head.{Head}
use Rattle.semaphore.specs.Record.{slot_from}
use Rattle.lookup.proofs.Model.{length_tasks, length_slots, slot_read}
use Rattle.lookup.specs.Lending.{lendings, LendersOf}
use Rattle.rules.proofs.Working.{working_alone, least_alone}
use Rattle.lookup.proofs.Answers.{and_first, and_second, task_of_lem}
use Rattle.lookup.proofs.CallerAndSlot.{Named, named, not_named}

-- ---- one task

module _ (t : Tables) (q : ℕ) where
  -- by the task's record
  lends_by : Task → ℕ
  lends_by v =
      choose (is_task t q and waits v and names t v.awaited and inherits (slot_of t (slot_named t v.awaited)).attributes)
      (slot_of t (slot_named t v.awaited)).owner 0

  lends_as : (v : Task) → task_of t q ≡ v → lends_to t q ≡ lends_by v
  unfolding lends_to lends_by
  lends_as v e = ap lends_by e

module _ (bs : List ℕ) (q : ℕ) where
  abbrev t : Tables
  t = model_of bs

  outside : is_task t q ≡ false → 0 ≡ lends_to t q
  unfolding lends_to
  outside e = sym (if_no _ _ (and_first _ e))

  pub lends_outside : (q < 1) ⊎ (word_at bs 0 < q) → 0 ≡ lends_to t q
  lends_outside =
      ⊎_elim (λ (h : q < 1). outside (and_first _ (lt-leb 1 q h)))
      (λ (h : word_at bs 0 < q). outside (and_second _ (above h)))
    where
      above : word_at bs 0 < q → leb q (length t.tasks) ≡ false
      above h = lt-leb q (length t.tasks) (rw length_tasks h)

  module _ (v : Task) (low : 1 ≤ q) (high : q ≤ word_at bs 0) (loaded : v ≡ task_at bs (q - 1)) where
    by : lends_to t q ≡ lends_by t q v
    by = lends_as t q v (task_of_lem bs q (q - 1) v (omega arith) (omega arith) loaded)

    -- one of the four tests fails
    nothing : (is_task t q and waits v and names t v.awaited and inherits (slot_of t (slot_named t v.awaited)).attributes) ≡ false → 0 ≡ lends_to t q
    unfolding lends_by
    nothing e = sym (by ∙ if_no _ _ e)

    pub lends_unnamed : slot_named t v.awaited ≡ 0 → 0 ≡ lends_to t q
    lends_unnamed z = nothing (and_second _ (and_second _ (and_first _ (not_named t v.awaited z))))

    -- the head at the place where the slot stands that the identifier names, if it names one
    module _ (few : word_at bs 1 ≤ 64) (s : Head) (read : s ≡ head_of (record_at bs ((v.awaited % 65536 + 64 - 1) % 64))) where
      abbrev place : ℕ
      place = (v.awaited % 65536 + 64 - 1) % 64

      slot_at : (n : ℕ) → Named t v.awaited n → slot_of t n ≡ slot_from (record_at bs place)
      slot_at n named =
          let within : n ≤ word_at bs 1 = rw (← length_slots bs) named.high in
          let there : pred n ≡ place = omega (arith, few, within, named.slot, named.low) in
          ap (λ (k : ℕ). get_or t.slots k (free_slot 0)) there ∙ slot_read bs place (omega (arith, within, there, named.low))

      module _ (some : 1 ≤ slot_named t v.awaited) where
        names_it : Named t v.awaited (slot_named t v.awaited)
        names_it = named t v.awaited (slot_named t v.awaited) refl (λ z. omega arith)

        attributes_are : (slot_of t (slot_named t v.awaited)).attributes ≡ s.attributes
        attributes_are = ap (λ (x : Slot). x.attributes) (slot_at _ names_it) ∙ sym (ap (λ (h : Head). h.attributes) read)

        owner_is : (slot_of t (slot_named t v.awaited)).owner ≡ s.owner
        owner_is = ap (λ (x : Slot). x.owner) (slot_at _ names_it) ∙ sym (ap (λ (h : Head). h.owner) read)

        pub lends_owner : s.attributes ≡ 84 → v.answer ≡ 100 → s.owner ≡ lends_to t q
        unfolding lends_by
        lends_owner h waiting =
            let task : is_task t q ≡ true = both_and (le-leb 1 q low) (le-leb q (length t.tasks) (rw length_tasks high)) in
            let lent = both_and task (both_and (eq-eqb v.answer 100 waiting) (both_and names_it.holds (eq-eqb _ 84 (attributes_are ∙ h)))) in
            sym (by ∙ if_yes _ _ lent ∙ owner_is)

      -- it does not inherit, or the task does not wait
      pub lends_nothing : (s.attributes ≡ 84 → ⊥) ⊎ (v.answer ≡ 100 → ⊥) → 0 ≡ lends_to t q
      lends_nothing =
          ⊎_elim (λ (h : s.attributes ≡ 84 → ⊥).
          elim (ℕ_discrete (slot_named t v.awaited) 0) [
            | yes none ↦ lends_unnamed none
            | no some ↦ nothing (and_second _ (and_second _ (and_second _ (ne_eqb _ 84 (λ e. h (sym (attributes_are (omega arith)) ∙ e))))))
          ])
          (λ (h : v.answer ≡ 100 → ⊥). nothing (and_second _ (and_first _ (ne_eqb v.answer 100 h))))

pub ruleset lending = (lends_outside, lends_unnamed, lends_nothing, lends_owner)

-- ---- the list of all tasks

-- of so many tasks the first i are read: whom they lend to, and how many links to follow, none where none of them lends
pub record Read (t : Tables) (tasks i links : ℕ) (to : List ℕ) : Type 0 where
  pub filled : to ≡ fit 32 0 (tabulate i (λ k. lends_to t (suc k)))
  pub some : (links ≡ tasks) ⊎ ((links ≡ 0) × ((r : ℕ) → 1 ≤ r → r ≤ i → lends_to t r ≡ 0))

pub read_none : (t : Tables) (tasks : ℕ) → Read t tasks 0 0 (fit 32 0 [])
unfolding tabulate
read_none t tasks = record { filled = refl; some = inr (refl, λ r l h. absurd (omega arith)) }

module _ (t : Tables) (tasks i links : ℕ) (to : List ℕ) (read : Read t tasks i links to) where
  pub read_next : (q more : ℕ) → i < 32 → q ≡ lends_to t (i + 1) → ((q ≡ 0) × (more ≡ links)) ⊎ (more ≡ tasks) → Read t tasks (i + 1) more (set to i q)
  read_next q more h e m = record { filled = longer; some = again }
    where
      to_next : q ≡ lends_to t (suc i)
      to_next = e ∙ ap (lends_to t) (add-one i)

      long : length (tabulate i (λ k. lends_to t (suc k))) ≡ i
      long = length_tabulate i (λ k. lends_to t (suc k))

      longer : set to i q ≡ fit 32 0 (tabulate (i + 1) (λ k. lends_to t (suc k)))
      longer =
          ap₂ (λ (xs : List ℕ) (k : ℕ). set xs k q) read.filled (sym long)
          ∙ set_fit_end 32 0 (tabulate i (λ k. lends_to t (suc k))) q (omega (arith, long))
          ∙ ap (λ (x : ℕ). fit 32 0 (tabulate i (λ k. lends_to t (suc k)) ++ x ∷ [])) to_next
          ∙ ap (fit 32 0) (tabulate_last i (λ k. lends_to t (suc k)))
          ∙ ap (λ (n : ℕ). fit 32 0 (tabulate n (λ k. lends_to t (suc k)))) (sym (add-one i))

      again : (more ≡ tasks) ⊎ ((more ≡ 0) × ((r : ℕ) → 1 ≤ r → r ≤ i + 1 → lends_to t r ≡ 0))
      again =
          ⊎_elim (λ (z : (q ≡ 0) × (more ≡ links)).
          ⊎_elim (λ (a : links ≡ tasks). inl (z.1 ∙ a))
          (λ n. inr (
            z.1 ∙ n.0,
            λ r l h. elim (ℕ_discrete r (i + 1)) [
              | yes here ↦ ap (lends_to t) here ∙ sym e ∙ z.0
              | no other ↦ n.1 r l (omega arith)
            ],
          )) read.some)
          (λ (a : more ≡ tasks). inl a) m

  -- all are read
  pub read_all : i ≡ tasks → tasks ≡ length t.tasks → LendersOf t (record { links = links; to = to })
  unfolding lendings urgency
  read_all h n =
      record {
        to = read.filled ∙ ap (λ (k : ℕ). fit 32 0 (tabulate k (λ k. lends_to t (suc k)))) (h ∙ n);
        links = λ q. ⊎_elim (λ (a : links ≡ tasks). ap (λ (k : ℕ). working_with t k q) (a ∙ n))
            (λ x. let none : (r : ℕ) → 1 ≤ r → r ≤ length t.tasks → lends_to t r ≡ 0 = λ r l b. x.1 r l (omega arith) in
            working_alone t none links q ∙ sym (working_alone t none (length t.tasks) q)) read.some;
      }

-- what the list holds of each task
pub lending_at : (t : Tables) (i : ℕ) → i < length t.tasks → length t.tasks ≤ 32 → get_or (lendings t) i 0 ≡ lends_to t (suc i)
unfolding lendings
lending_at t i h few =
    get_d_fit 32 0 (tabulate (length t.tasks) (λ k. lends_to t (suc k))) i (omega arith)
    ∙ get_d_tabulate (length t.tasks) (λ k. lends_to t (suc k)) i 0 h

-- ---- the working priority, one task after another

min_choice : (a b : ℕ) → min a b ≡ choose (ltb b a) b a
min_choice a b =
    choose_cases (λ (x : ℕ). min a b ≡ x) (ltb b a) b a
    (λ e. let h : b < a = ltb-true b a e in omega arith) (λ e. let h : a ≤ b = ltb-false b a e in omega arith)

module _ (t : Tables) (q links own : ℕ) (is : own ≡ (task_of t q).priority) where
  pub working_own : links ≡ 0 → own ≡ working_with t links q
  unfolding working_with
  working_own z = is ∙ ap (λ (k : ℕ). working_with t k q) (sym z)

  pub working_nobody : q ≡ 0 → own ≡ working_with t links q
  unfolding working_with
  working_nobody z = is ∙ sym (go links)
    where
      go : (k : ℕ) → working_with t k q ≡ (task_of t q).priority
      go zero = refl
      go (suc k) =
          least_alone (lends t q) (working_with t k) (task_of t q).priority (length t.tasks) (λ r l h. if_no _ _ (lt-leb 1 q (omega arith)))

  -- the least of its own number and of those of the first i tasks that lend to it
  abbrev pub least_to : ℕ → ℕ
  least_to i = least_of (lends t q) (working_with t (links - 1)) own i

  pub least_all : (links ≡ 0 → ⊥) → (i : ℕ) → i ≡ length t.tasks → least_to i ≡ working_with t links q
  unfolding working_with
  least_all some i e =
      let back : suc (links - 1) ≡ links = omega arith in
      ap₂ (λ (p n : ℕ). least_of (lends t q) (working_with t (links - 1)) p n) is e ∙ ap (λ (k : ℕ). working_with t k q) back

  module _ (to : List ℕ) (gathered : to ≡ lendings t) (few : length t.tasks ≤ 32) (i : ℕ) (h : i < length t.tasks) where
    listed : get_or to i 0 ≡ lends_to t (suc i)
    listed = ap (λ (xs : List ℕ). get_or xs i 0) gathered ∙ lending_at t i h few

    pub least_passed : (get_or to i 0 ≡ q → ⊥) → least_to i ≡ least_to (i + 1)
    unfolding least_of
    least_passed n =
        sym (ap least_to (add-one i) ∙ if_no _ _ (if_no _ _ (and_second _ (ne_eqb _ q (λ e. n (listed ∙ e))))))

    pub least_taken : (q ≡ 0 → ⊥) → get_or to i 0 ≡ q → (lent least : ℕ) → lent ≡ working_with t (links - 1) (i + 1) → least ≡ least_to i
        → min least lent ≡ least_to (i + 1)
    unfolding least_of
    least_taken some e lent least l b =
        min_choice least lent
        ∙ ap₂ (λ (x y : ℕ). choose (ltb x y) x y) (l ∙ ap (working_with t (links - 1)) (add-one i)) b
        ∙ sym (ap least_to (add-one i) ∙ ap (λ (c : Bool). choose (c and ltb (working_with t (links - 1) (suc i)) (least_to i))
        (working_with t (links - 1) (suc i)) (least_to i)) passes ∙ ap (λ (c : Bool). choose c (working_with t (links - 1) (suc i)) (least_to i)) (if_yes _ _ refl))
      where
        passes : lends t q (suc i) ≡ true
        passes = both_and (le-leb 1 q (omega arith)) (eq-eqb _ q (sym listed ∙ e))
