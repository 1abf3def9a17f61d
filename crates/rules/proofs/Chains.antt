-- Chains of inheritance (request 8): N links cut nothing off, an owner is at least as urgent as who waits on it, and there is no inversion.
use mathlib.Core.Path.{◌≡◌, refl, sym, subst, fun_ext, ap, ◌∙◌}
use mathlib.Core.Bool.{Bool, true, false}
use mathlib.Core.List.{List, [], ◌∷◌}
use mathlib.Core.Logic.{◌⊎◌, inl, inr, ⊎_elim}
use Prim.Native.Nat.{ℕ, zero, suc, pred, ◌+◌, ◌-◌, ◌≤◌, ◌<◌}
use native.Mathlib.Omega.{arith}
use native.Mathlib.Decide.{dec_le}
use native.Mathlib.Nat.{not-suc-le-zero}
use lib.Dec.{leb, eqb}
use lib.ListN.{length, get_or}
use borrow.Author.Tests.{eqb-true, eq-eqb, leb-true, le-leb}
use Rattle.laws.specs.Choose.{◌and◌}
use Rattle.laws.specs.Rows.{tabulate}
use Rattle.laws.proofs.Choose.{tested, never, and_both, both_and, or_second, if_yes, if_no, choose_cases}
use Rattle.laws.proofs.Fit.{length_tabulate, get_d_tabulate}
use Rattle.rules.specs.Numbers.{max_priority, inherits}
use Rattle.rules.specs.Machine.{Tables, task_of, slot_of, is_task, is_live, id_of, slot_named, lends_to, lends, working_with, urgency, most_urgent, next}
use Rattle.rules.specs.Agreement.{Agrees, is_ready_task, occurs}
use Rattle.rules.specs.Promises.{behind, LeastBehind, NextIs}
use Rattle.rules.specs.Promises.NextIs.{nobody, somebody}
use Rattle.rules.proofs.Working.{Found, least_at, least_is, working_most, working_alone}
use Rattle.rules.proofs.Next.{stands}
use Rattle.rules.proofs.Invariants.Lists.{occurs_none, occurs_cons, bit_yes, bit_no}
use Rattle.rules.proofs.Invariants.Lists.{occurs_at}
use Rattle.rules.proofs.Invariants.Facts.{nth_slot, Unheld, Held, Facts}
use Rattle.rules.proofs.Invariants.FromTests.{agrees_facts}
use Rattle.rules.proofs.Invariants.ToTests.{names_of, entry}
use Rattle.rules.proofs.Invariants.Room.{counts_all, counts_most}

-- ---- a list longer than the numbers that stand in it has one of them twice

record Twice (xs : List ℕ) : Type 0 where
  one : ℕ
  other : ℕ
  before : one < other
  inside : other < length xs
  same : get_or xs one 0 ≡ get_or xs other 0

twice_later : (x : ℕ) (xs : List ℕ) → Twice xs → Twice (x ∷ xs)
twice_later x xs w = record { one = suc w.one; other = suc w.other; before = omega (arith, w.before); inside = omega (arith, w.inside); same = w.same }

once_more : (q x : ℕ) (xs : List ℕ) → occurs q xs ≤ 1 → (1 ≤ occurs x xs → ⊥) → occurs q (x ∷ xs) ≤ 1
once_more q x xs h n =
    ⊎_elim
    (λ (e : eqb q x ≡ true).
    let none : (1 ≤ occurs q xs → ⊥) = λ o. n (subst (λ (k : ℕ). 1 ≤ occurs k xs) (eqb-true q x e) o) in
    omega (arith, occurs_cons q x xs, bit_yes _ e))
    (λ (e : eqb q x ≡ false). omega (arith, occurs_cons q x xs, bit_no _ e)) (tested (eqb q x))

-- each at most once, or one twice
once_or_twice : (xs : List ℕ) → ((q : ℕ) → occurs q xs ≤ 1) ⊎ Twice xs
once_or_twice [] = inl (λ q. omega (arith, occurs_none q))
once_or_twice (x ∷ xs) = go (once_or_twice xs)
  where
    go : ((q : ℕ) → occurs q xs ≤ 1) ⊎ Twice xs → ((q : ℕ) → occurs q (x ∷ xs) ≤ 1) ⊎ Twice (x ∷ xs)
    go rest =
        elim (dec_le 1 (occurs x xs)) [
          | yes h ↦
              let s = stands x xs h in
              inr (record { one = 0; other = suc s.place; before = omega arith; inside = omega (arith, s.inside); same = sym s.here })
          | no n ↦ ⊎_elim (λ (f : (q : ℕ) → occurs q xs ≤ 1). inl (λ q. once_more q x xs (f q) n)) (λ w. inr (twice_later x xs w)) rest
        ]

occurs_some : (q : ℕ) (xs : List ℕ) → 1 ≤ occurs q xs → 1 ≤ length xs
occurs_some q [] h = absurd (omega (arith, occurs_none q))
occurs_some q (x ∷ xs) h = omega arith

-- ---- chains

module _ (t : Tables) where
  -- who lends is a task
  lender_task : (x : ℕ) → 1 ≤ lends_to t x → is_task t x ≡ true
  unfolding lends_to
  lender_task x =
      choose_cases (λ (n : ℕ). 1 ≤ n → is_task t x ≡ true) _ _ _ (λ e h. (and_both _ _ e).0) (λ e h. absurd (omega arith))

  task_low : (x : ℕ) → is_task t x ≡ true → 1 ≤ x
  task_low x e = leb-true 1 x (and_both _ _ e).0

  task_high : (x : ℕ) → is_task t x ≡ true → x ≤ length t.tasks
  task_high x e = leb-true x (length t.tasks) (and_both _ _ e).1

  -- a chain goes on where another ends
  pub behind_join : (r m d k : ℕ) → k ≡ m + d → behind t r k ≡ behind t (behind t r d) m
  unfolding behind
  behind_join r zero d k e = let same : k ≡ d = omega arith in ap (behind t r) same
  behind_join r (suc m) d zero e = absurd (omega arith)
  behind_join r (suc m) d (suc k) e = ap (lends_to t) (behind_join r m d k (omega arith))

  -- all of a chain that ends at a task are tasks
  chain_tasks : (r m d k : ℕ) → k ≡ m + d → is_task t (behind t r k) ≡ true → is_task t (behind t r d) ≡ true
  unfolding behind
  chain_tasks r zero d k e h = let same : k ≡ d = omega arith in subst (λ (j : ℕ). is_task t (behind t r j) ≡ true) same h
  chain_tasks r (suc m) d zero e h = absurd (omega arith)
  chain_tasks r (suc m) d (suc k) e h = chain_tasks r m d k (omega arith) (lender_task (behind t r k) (task_low (lends_to t (behind t r k)) h))

  -- ---- no chain need be longer than N

  record Short (r q : ℕ) : Type 0 where
    links : ℕ
    few : links ≤ length t.tasks
    chain : behind t r links ≡ q

  module _ (r k : ℕ) (task : is_task t (behind t r k) ≡ true) where
    abbrev met : List ℕ
    met = tabulate (suc k) (behind t r)

    met_length : length met ≡ suc k
    met_length = length_tabulate (suc k) (behind t r)

    met_at : (j : ℕ) → j < suc k → get_or met j 0 ≡ behind t r j
    met_at j h = get_d_tabulate (suc k) (behind t r) j 0 h

    within : (j : ℕ) → j < length met → (1 ≤ get_or met j 0) × (get_or met j 0 ≤ length t.tasks)
    within j h =
        let is = met_at j (omega (arith, met_length)) in
        let one = chain_tasks r (k - j) j k (omega (arith, met_length)) task in
        (omega (arith, is, task_low (behind t r j) one), omega (arith, is, task_high (behind t r j) one))

    -- no task is met twice: there are at most N
    distinct : ((q : ℕ) → occurs q met ≤ 1) → k ≤ length t.tasks
    distinct f = omega (arith, met_length, counts_all (length t.tasks) met within, counts_most (length t.tasks) met (λ q. f (suc q)))

    -- one is met twice: what lies between is left out
    cut : (w : Twice met) → behind t r (k - w.other + w.one) ≡ behind t r k
    cut w =
        let last : w.other < suc k = omega (arith, w.inside, met_length) in
        let same : behind t r w.one ≡ behind t r w.other =
        sym (met_at w.one (omega (arith, w.before))) ∙ w.same ∙ met_at w.other last
        in
        behind_join r (k - w.other) w.one (k - w.other + w.one) refl
        ∙ ap (λ (x : ℕ). behind t x (k - w.other)) same
        ∙ sym (behind_join r (k - w.other) w.other k (omega (arith, w.before)))

    -- a chain that is short, or one that a shorter one gives
    shortened : ((j : ℕ) → j < k → is_task t (behind t r j) ≡ true → Short r (behind t r j)) → Short r (behind t r k)
    shortened rest =
        ⊎_elim (λ (f : (q : ℕ) → occurs q met ≤ 1). record { links = k; few = distinct f; chain = refl })
        (λ (w : Twice met).
        let same = cut w in
        let less : k - w.other + w.one < k = omega (arith, w.before, w.inside, met_length) in
        subst (Short r) same (rest (k - w.other + w.one) less (subst (λ (x : ℕ). is_task t x ≡ true) (sym same) task)))
        (once_or_twice met)

  short : (r bound k : ℕ) → k < bound → is_task t (behind t r k) ≡ true → Short r (behind t r k)
  short r zero k h task = absurd (not-suc-le-zero h)
  short r (suc bound) k h task = shortened r k task (λ j less one. short r bound j (omega arith) one)

  -- ---- the working priority is the least of all that stand behind

  bounded : (r d k : ℕ) → d ≤ k → is_task t (behind t r d) ≡ true → working_with t k (behind t r d) ≤ (task_of t r).priority
  unfolding working_with behind
  bounded r zero k h task = working_most t k r
  bounded r (suc d) zero h task = absurd (omega arith)
  bounded r (suc d) (suc k) h task =
      let q : ℕ = lends_to t (behind t r d) in
      let lender = lender_task (behind t r d) (task_low q task) in
      let rest = bounded r d k (omega arith) lender in
      let one = least_at (lends t q) (working_with t k) (task_of t q).priority (length t.tasks) (behind t r d)
      (task_low (behind t r d) lender) (task_high (behind t r d) lender) (both_and (le-leb 1 q (task_low q task)) (eq-eqb q q refl)) in
      omega (arith, rest, one)

  record Attained (q p : ℕ) : Type 0 where
    task : ℕ
    links : ℕ
    chain : behind t task links ≡ q
    has : (task_of t task).priority ≡ p

  attained : (k q : ℕ) → Attained q (working_with t k q)
  unfolding working_with behind
  attained zero q = record { task = q; links = 0; chain = refl; has = refl }
  attained (suc k) q =
      ⊎_elim
      (λ e. record { task = q; links = 0; chain = refl; has = sym e })
      (λ f. passed f (attained k f.number))
      (least_is (lends t q) (working_with t k) (task_of t q).priority (length t.tasks))
    where
      passed : {p : ℕ} (f : Found (lends t q) (working_with t k) (task_of t q).priority p) → Attained f.number (working_with t k f.number) → Attained q p
      passed f a =
          record {
            task = a.task;
            links = suc a.links;
            chain = ap (lends_to t) a.chain ∙ eqb-true _ q (and_both (leb 1 q) _ f.passes).1;
            has = a.has ∙ f.is;
          }

  pub working_is_least : (q : ℕ) → is_task t q ≡ true → LeastBehind t q (urgency t q)
  unfolding urgency
  working_is_least q task =
      let a = attained (length t.tasks) q in
      record {
        least = λ r links e. below r links e;
        task = a.task;
        links = a.links;
        chain = a.chain;
        has = a.has;
      }
    where
      below : (r links : ℕ) → behind t r links ≡ q → working_with t (length t.tasks) q ≤ (task_of t r).priority
      below r links e =
          let s = short r (suc links) links (omega arith) (subst (λ (x : ℕ). is_task t x ≡ true) (sym e) task) in
          let is : behind t r s.links ≡ q = s.chain ∙ e in
          subst (λ (x : ℕ). working_with t (length t.tasks) x ≤ (task_of t r).priority) is
          (bounded r s.links (length t.tasks) s.few (subst (λ (x : ℕ). is_task t x ≡ true) (sym is) task))

  -- who stands at the end of a chain is at least as urgent as who stands at its beginning
  pub chain_urgent : (r links : ℕ) → is_task t (behind t r links) ≡ true → urgency t (behind t r links) ≤ urgency t r
  unfolding behind
  chain_urgent r links task =
      let mine = working_is_least r (chain_tasks r links 0 links (omega arith) task) in
      let there = working_is_least (behind t r links) task in
      let joined = behind_join mine.task links mine.links (links + mine.links) refl ∙ ap (λ (x : ℕ). behind t x links) mine.chain in
      omega (arith, there.least mine.task (links + mine.links) joined, mine.has)

-- ---- on tables that agree

module _ (t : Tables) (f : Facts t) (j : ℕ) (l : is_live (nth_slot t j) ≡ true) (h : inherits (nth_slot t j).attributes ≡ true) (r : ℕ)
    (waiting : 1 ≤ occurs r (nth_slot t j).queue) where
  -- who waits on an inheritance semaphore lends to its owner
  waiter_lends : lends_to t r ≡ (nth_slot t j).owner
  unfolding lends_to
  waiter_lends =
      let w = entry t f j l r waiting in
      let on : (task_of t r).awaited ≡ id_of (suc j) (nth_slot t j) = eqb-true _ _ (and_both _ _ (and_both _ _ w).1).1 in
      let named = names_of t f.sizes (task_of t r).awaited (record { place = j; live = l; is = on }) in
      let slot : slot_named t (task_of t r).awaited ≡ suc j = if_yes _ _ named.0 ∙ named.1 in
      if_yes _ _ (both_and (and_both _ _ w).0 (both_and (and_both _ _ (and_both _ _ w).1).0 (both_and named.0
      (ap (λ (n : ℕ). inherits (slot_of t n).attributes) slot ∙ h))))
      ∙ ap (λ (n : ℕ). (slot_of t n).owner) slot

  -- its owner is a task, since somebody waits
  owner_task : is_task t (nth_slot t j).owner ≡ true
  owner_task =
      let s = (f.slots j).when_live l in
      let some : 1 ≤ length (nth_slot t j).queue = occurs_some r (nth_slot t j).queue waiting in
      ⊎_elim (λ (z : Unheld (nth_slot t j)). absurd (omega (arith, z.count, s.at_zero some)))
      (λ (z : Held (length t.tasks) (nth_slot t j)). both_and (le-leb 1 _ z.task) (le-leb _ _ z.most))
      (s.owned (or_second _ _ (or_second _ _ h)))

  pub owner_first : urgency t (nth_slot t j).owner ≤ urgency t r
  unfolding behind
  owner_first =
      subst (λ (q : ℕ). urgency t q ≤ urgency t r) waiter_lends
      (chain_urgent t r 1 (subst (λ (q : ℕ). is_task t q ≡ true) (sym waiter_lends) owner_task))

-- an owner is at least as urgent as each waiter of its inheritance semaphores
pub owner_urgent : (t : Tables) → Agrees t → (n : ℕ) → is_live (slot_of t n) ≡ true → inherits (slot_of t n).attributes ≡ true
    → (k : ℕ) → k < length (slot_of t n).queue → urgency t (slot_of t n).owner ≤ urgency t (get_or (slot_of t n).queue k 0)
owner_urgent t a n l h k b = owner_first t (agrees_facts t a) (pred n) l h (get_or (slot_of t n).queue k 0) (occurs_at (slot_of t n).queue k b)

-- no inversion: while the task at the end of a chain is ready, the next task is at least as urgent as the one at its beginning
pub no_inversion : (t : Tables) (n : ℕ) → NextIs t n → (r links : ℕ) → is_ready_task t (behind t r links) ≡ true
    → (is_ready_task t n ≡ true) × (urgency t n ≤ urgency t r)
no_inversion t n (nobody e none) r links ready = never ready (none (behind t r links))
no_inversion t n (somebody m) r links ready =
    (m.ready, omega (arith, m.least (behind t r links) ready, chain_urgent t r links (and_both _ _ ready).0))

-- ---- without inheritance

-- where no semaphore inherits, every task goes by its own number
pub own_priorities : (t : Tables) → ((n : ℕ) → inherits (slot_of t n).attributes ≡ false) → urgency t ≡ (λ q. (task_of t q).priority)
unfolding urgency lends_to
own_priorities t none =
    fun_ext (λ q. working_alone t (λ r l h. if_no _ _ (not_last _ _ _ (none (slot_named t (task_of t r).awaited)))) (length t.tasks) q)
  where
    not_last : (a b c : Bool) {d : Bool} → d ≡ false → (a and b and c and d) ≡ false
    not_last a b c {d} e =
        ⊎_elim (λ (y : (a and b and c and d) ≡ true). never (and_both _ _ (and_both _ _ (and_both _ _ y).1).1).1 e)
        (λ (n : (a and b and c and d) ≡ false). n) (tested (a and b and c and d))

-- and so does the next task
pub next_by_own : (t : Tables) → ((n : ℕ) → inherits (slot_of t n).attributes ≡ false)
    → next t ≡ most_urgent t (λ q. (task_of t q).priority) t.ready 0 (suc max_priority)
unfolding next
next_by_own t none = ap (λ (u : ℕ → ℕ). most_urgent t u t.ready 0 (suc max_priority)) (own_priorities t none)
