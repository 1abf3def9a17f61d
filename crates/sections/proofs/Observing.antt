-- Each call, as a task that is not its caller sees it.
use mathlib.Core.Path.{◌≡◌, refl, sym, subst, ap, ◌∙◌}
use mathlib.Core.Bool.{true, false}
use mathlib.Core.List.{List, map}
use mathlib.Core.Logic.{inl, inr, ⊎_elim, ◌≢◌}
use Prim.Native.Nat.{ℕ, zero, suc, pred, ◌≤◌, ◌<◌}
use native.Mathlib.Omega.{arith}
use native.Mathlib.Decide.{ℕ_discrete}
use lib.Dec.{leb, eqb}
use lib.ListN.{length, get_or, length-set, length-map}
use lib.Seq.{get_or-set_same, get_or-set_other}
use borrow.Author.Tests.{eqb-true, eqb-false, leb-true, le-leb, ne_eqb}
use Rattle.laws.specs.Choose.{choose, ◌and◌, ◌or◌, isnt}
use Rattle.laws.proofs.Choose.{choose_cases, and_both, both_and, never, tested, if_yes, if_no, false_isnt}
use Rattle.rules.specs.declared.Call.{Call}
use Rattle.rules.specs.declared.Call.TheVariants.{Start, Create, Ident, Delete, Obtain, Release, Flush, Tick}
use Rattle.rules.specs.declared.Task.{Task}
use Rattle.rules.specs.declared.Wait.{Wait}
use Rattle.rules.specs.Numbers.{is_binary, allowed, allowed_count}
use Rattle.rules.specs.Machine.{Slot, Tables, no_task, free_slot, task_of, slot_of, put_slot, waits, is_live, id_of, names, slot_named, urgency}
use Rattle.rules.specs.Agreement.{occurs}
use Rattle.rules.specs.Semaphore.{handed, owned_by, served_place, serving_order, Taken, take_step, Given, give_step, pass_step, flush_step}
use Rattle.rules.specs.Calls.{Outcome, answered, readied, begin_wait, blocked, wake, wake_all, start_refusal, started, start, open_slot, create_refusal}
use Rattle.rules.specs.Calls.{new_semaphore, create, first_named, ident, delete_refusal, delete, obtain_refusal, obtain, give_of, release_refusal, release}
use Rattle.rules.specs.Calls.{flush_refusal, flush, expires, ticked, ticked_slot, tick, perform}
use Rattle.rules.proofs.Invariants.Lists.{occurs_at, get_d_map}
use Rattle.rules.proofs.Serving.{served_within}
use Rattle.rules.proofs.Invariants.Facts.{nth_task, nth_slot, waits_on, Unheld, Held, Facts, waits_within, live_within}
use Rattle.rules.proofs.Invariants.Links.{SameWait, waits_there}
use Rattle.rules.proofs.Invariants.PartsKept.{below}
use Rattle.rules.proofs.Invariants.Refusals.{must, mustnt, task_only_lem, any_caller_lem, found}
use Rattle.rules.proofs.Invariants.Tick.{ticked_woken, ticked_same, ticked_none, ticked_free}
use Rattle.rules.proofs.Invariants.Making.{Open, first_free_lem}
use Rattle.sections.specs.Run.{caller_of}
use Rattle.sections.proofs.Others.{Watched, watched_same, handed_to, Woken, Handed, Observed, same_wait, observed_same, observed_unless}
use Rattle.sections.proofs.Others.{put_watched, observed_emptied}

module _ (t : Tables) (f : Facts t) (i : ℕ) where
  -- a live binary semaphore with a unit left is nobody's
  pub unheld : (j : ℕ) → is_live (nth_slot t j) ≡ true → is_binary (nth_slot t j).attributes ≡ true → 1 ≤ (nth_slot t j).count → (nth_slot t j).owner ≡ 0
  unheld j l b h =
      ⊎_elim (λ (u : Unheld (nth_slot t j)). u.owner) (λ (z : Held (length t.tasks) (nth_slot t j)). absurd (omega (arith, z.count)))
      (((f.slots j).when_live l).owned b)

  -- ---- start and create

  start_observed : (slots : ℕ) (priorities : List ℕ) → 1 ≤ length t.tasks → Observed t (start t slots priorities).tables i 0
  unfolding start start_refusal
  start_observed slots priorities h =
      observed_unless t i 0 (start_refusal t slots priorities) (answered 0 0 (started slots priorities))
      (λ e. absurd (omega (arith, sym (if_yes {A = ℕ} 14 _ (le-leb 1 (length t.tasks) h)) ∙ e)))

  create_observed : (caller name count attributes maximum : ℕ) → Observed t (create t caller name count attributes maximum).tables i 0
  unfolding create create_refusal
  create_observed caller name count attributes maximum =
      observed_unless t i 0 (create_refusal t caller name count attributes maximum) (answered 0 _ (put_slot t (open_slot t) (made (open_slot t))))
      (λ e.
      let who = task_only_lem t caller _ e in
      let named = mustnt (eqb name 0) 3 _ (omega arith) who.1 in
      let right = must (allowed attributes) _ 11 (omega arith) named.1 in
      let numbers = must (allowed_count count attributes maximum) _ 10 (omega arith) right.1 in
      let room = mustnt (eqb (open_slot t) 0) 5 0 (omega arith) numbers.1 in
      let some : open_slot t ≡ 0 → ⊥ = eqb-false _ _ room.0 in
      opened (open_slot t) (first_free_lem t.slots 0 (omega arith)))
    where
      made : ℕ → Slot
      made n = new_semaphore (slot_of t n).generation caller name count attributes maximum

      opened : (n : ℕ) → Open t.slots 0 n → Observed t (put_slot t n (made n)) i 0
      opened n o =
          let number : n ≡ suc o.place = omega (arith, o.number) in
          subst (λ (n : ℕ). Observed t (put_slot t n (made n)) i 0) (sym number)
          (record {
            size = refl;
            task = inl (same_wait refl);
            slots = put_watched t (put_slot t (suc o.place) (made (suc o.place))) i o.place (made (suc o.place)) o.within refl
                (record { attributes = λ l. never l o.free; keeps = λ l. never l o.free; gains = λ l. never l o.free });
          })

  -- ---- delete and flush

  delete_observed : (caller id : ℕ) → Observed t (delete t caller id).tables i 0
  unfolding delete delete_refusal
  delete_observed caller id =
      observed_unless t i 0 (delete_refusal t caller id) (answered 0 0 (freed (slot_named t id)))
      (λ e.
      let who = task_only_lem t caller _ e in
      let named = must (names t id) _ 4 (omega arith) who.1 in
      let free = mustnt (is_binary (slot_of t (slot_named t id)).attributes and isnt (eqb (slot_of t (slot_named t id)).owner 0)) 12 0 (omega arith) named.1 in
      let s = found t f.sizes id named.0 in
      subst (λ (n : ℕ). (is_binary (slot_of t n).attributes and isnt (eqb (slot_of t n).owner 0)) ≡ false → Observed t (freed n) i 0) (sym s.number)
      (ended s.place s.live) free.0)
    where
      freed : ℕ → Tables
      freed n = wake_all (put_slot t n (free_slot (slot_of t n).generation)) (serving_order (urgency t) (slot_of t n)) 7

      ended : (j : ℕ) → is_live (nth_slot t j) ≡ true → (is_binary (nth_slot t j).attributes and isnt (eqb (nth_slot t j).owner 0)) ≡ false
          → Observed t (freed (suc j)) i 0
      ended j l e =
          observed_emptied t f j (free_slot (nth_slot t j).generation) 7 i 0 l refl (omega arith)
          (λ H. record {
            attributes = λ a b. never b refl;
            keeps = λ a b o. never (both_and b (false_isnt _ (ne_eqb _ _ (λ (z : (nth_slot t j).owner ≡ 0). omega arith)))) e;
            gains = λ a b m. never m refl;
          })

  flush_observed : (caller id : ℕ) → Observed t (flush t caller id).tables i 0
  unfolding flush flush_refusal flush_step
  flush_observed caller id =
      observed_unless t i 0 (flush_refusal t caller id)
      (answered 0 0 (wake_all (put_slot t (slot_named t id) (flush_step (slot_of t (slot_named t id)))) (serving_order (urgency t) (slot_of t (slot_named t id))) 13))
      (λ e.
      let named = must (names t id) 0 4 (omega arith) (any_caller_lem t caller _ e) in
      let s = found t f.sizes id named.0 in
      subst (λ (n : ℕ). Observed t (wake_all (put_slot t n (flush_step (slot_of t n))) (serving_order (urgency t) (slot_of t n)) 13) i 0) (sym s.number)
      (observed_emptied t f s.place (flush_step (nth_slot t s.place)) 13 i 0 s.live refl (omega arith) (λ H. watched_same _ _ refl refl refl refl refl)))

  -- ---- tick

  tick_observed : Observed t (tick t).tables i 0
  unfolding tick ticked_slot ticked
  tick_observed =
      record {
        size = length-map t.tasks ticked;
        task = ⊎_elim (λ (e : expires (nth_task t i) ≡ true). inr (timed_out_lem e))
            (λ (e : expires (nth_task t i) ≡ false). inl (subst (SameWait (nth_task t i)) (sym task_after) (ticked_same (nth_task t i) e)))
            (tested (expires (nth_task t i)));
        slots = λ j. subst (Watched (suc i) (Handed t (tick t).tables i j) (nth_slot t j)) (sym (slot_after j)) (watched_same _ _ refl refl refl refl refl);
      }
    where
      task_after : get_or (map ticked t.tasks) i no_task ≡ ticked (nth_task t i)
      task_after = get_d_map ticked t.tasks i no_task ticked_none

      slot_after : (j : ℕ) → get_or (map (ticked_slot t) t.slots) j (free_slot 0) ≡ ticked_slot t (nth_slot t j)
      slot_after j = get_d_map (ticked_slot t) t.slots j (free_slot 0) (ticked_free t)

      timed_out_lem : expires (nth_task t i) ≡ true → Woken t (tick t).tables i 0
      timed_out_lem e =
          record {
            waited = (and_both _ _ e).0;
            ready = subst (λ (v : Task). waits v ≡ false) (sym task_after) (ticked_woken (nth_task t i) e);
            got = λ z. let six : (nth_task (tick t).tables i).answer ≡ 6 = ap (λ (v : Task). v.answer) (task_after ∙ if_yes _ _ e) in absurd (omega arith);
          }

  -- ---- obtain by another

  module _ (c : ℕ) (other : suc i ≢ c) where
    taken_watched : {H : Type 0} (j : ℕ) (wait : Wait) → is_live (nth_slot t j) ≡ true
        → Watched (suc i) H (nth_slot t j) (take_step (nth_slot t j) c wait).slot
    unfolding take_step
    taken_watched {H} j wait l =
        choose_cases P _ _ _
        (λ e.
        record {
          attributes = λ a m g. refl;
          keeps = λ a b o. absurd (omega (arith, unheld j l b (leb-true _ _ e)));
          gains = λ a b m o. absurd (other (sym o ∙ if_yes _ _ b));
        })
        (λ e. choose_cases P _ _ _
        (λ own. choose_cases P _ _ _ (λ z. watched_same _ _ refl refl refl refl refl)
        (λ z.
        record {
          attributes = λ a m g. refl;
          keeps = λ a b o. absurd (other (sym o ∙ eqb-true _ _ (and_both _ _ (and_both _ _ own).1).0));
          gains = λ a b m o. inl o;
        }))
        (λ own. choose_cases P _ _ _ (λ z. watched_same _ _ refl refl refl refl refl) (λ z. watched_same _ _ refl refl refl refl refl)))
      where
        P : Taken → Type 0
        P x = Watched (suc i) H (nth_slot t j) x.slot

    obtain_observed : (id : ℕ) (wait : Wait) → Observed t (obtain t c id wait).tables i 0
    unfolding obtain obtain_refusal
    obtain_observed id wait =
        observed_unless t i 0 (obtain_refusal t c id wait) (outcome (slot_named t id))
        (λ e.
        let who = task_only_lem t c _ e in
        let named = must (names t id) _ 4 (omega arith) who.1 in
        let s = found t f.sizes id named.0 in
        subst (λ (n : ℕ). Observed t (outcome n).tables i 0) (sym s.number) (at s.place s.live c refl who.0.first))
      where
        taken : ℕ → Taken
        taken n = take_step (slot_of t n) c wait

        outcome : ℕ → Outcome
        outcome n =
            choose (eqb (taken n).status 100) (answered 100 0 (begin_wait (put_slot t n (taken n).slot) c (blocked (task_of t c) id wait)))
            (answered 0 0 (put_slot t n (taken n).slot))

        at : (j : ℕ) → is_live (nth_slot t j) ≡ true → (d : ℕ) → d ≡ c → 1 ≤ d → Observed t (outcome (suc j)).tables i 0
        at j l zero same first = absurd (omega arith)
        at j l (suc d) same first =
            choose_cases (λ (o : Outcome). Observed t o.tables i 0) (eqb (taken (suc j)).status 100) _ _
            (λ e.
            record {
              size = length-set t.tasks (pred c) (blocked (task_of t c) id wait);
              task = inl (same_wait (get_or-set_other t.tasks (pred c) i (blocked (task_of t c) id wait) no_task apart));
              slots = put_watched t (begin_wait (put_slot t (suc j) (taken (suc j)).slot) c (blocked (task_of t c) id wait)) i j (taken (suc j)).slot
                  (live_within t j l) refl (taken_watched j wait l);
            })
            (λ e.
            record {
              size = refl;
              task = inl (same_wait refl);
              slots = put_watched t (put_slot t (suc j) (taken (suc j)).slot) i j (taken (suc j)).slot (live_within t j l) refl
                  (taken_watched j wait l);
            })
          where
            apart : i ≢ pred c
            apart e = other (omega arith)

  -- ---- release by another

  module _ (c : ℕ) (other : suc i ≢ c) (j : ℕ) (l : is_live (nth_slot t j) ≡ true) where
    abbrev given_to : Given → Tables
    given_to g = choose (eqb g.woken 0) (put_slot t (suc j) g.slot) (wake (put_slot t (suc j) g.slot) g.woken 0)

    abbrev Sees : Given → Type 0
    Sees g = g.status ≡ 0 → Observed t (given_to g) i g.woken

    -- not 23: a binary semaphore that is given is the caller's
    not_mine : (is_binary (nth_slot t j).attributes and isnt (owned_by (nth_slot t j) c)) ≡ false → is_binary (nth_slot t j).attributes ≡ true
        → (nth_slot t j).owner ≡ suc i → ⊥
    not_mine e b o =
        ⊎_elim (λ (y : owned_by (nth_slot t j) c ≡ true). other (sym o ∙ eqb-true _ _ (and_both _ _ y).0))
        (λ (n : owned_by (nth_slot t j) c ≡ false). never (both_and b (false_isnt _ n)) e)
        (tested (owned_by (nth_slot t j) c))

    -- nobody is woken
    unwoken : (s : Slot) → ((H : Type 0) → Watched (suc i) H (nth_slot t j) s) → Sees (record { status = 0; slot = s; woken = 0 })
    unwoken s w e =
        subst (λ (z : Tables). Observed t z i 0) (sym (if_yes _ _ refl))
        (record { size = refl; task = inl (same_wait refl); slots = put_watched t (put_slot t (suc j) s) i j s (live_within t j l) refl (w _) })

    -- to the waiter at a place of the queue, who is a task
    handed_on_lem : (is_binary (nth_slot t j).attributes and isnt (owned_by (nth_slot t j) c)) ≡ false → (place : ℕ) → place < length (nth_slot t j).queue
        → (q : ℕ) → get_or (nth_slot t j).queue place 0 ≡ q
        → Sees (record { status = 0; slot = handed (nth_slot t j) place; woken = q })
    handed_on_lem mine place h zero is e =
        absurd (omega (
          arith,
          ((f.slots j).when_live l).entries,
          subst (λ (q : ℕ). 1 ≤ occurs q (nth_slot t j).queue) is (occurs_at (nth_slot t j).queue place h),
        ))
    handed_on_lem mine place h (suc w) is e =
        subst (λ (z : Tables). Observed t z i (suc w)) (sym (if_no _ _ (ne_eqb (suc w) 0 (omega arith))))
        (record {
          size = length-set t.tasks w (readied (nth_task t w) 0);
          task = elim (ℕ_discrete i w) [
            | yes s ↦ inr (woken s)
            | no n ↦ inl (same_wait (get_or-set_other t.tasks w i (readied (nth_task t w) 0) no_task n))
          ];
          slots = put_watched t t' i j (handed (nth_slot t j) place) (live_within t j l) refl
              (record {
                attributes = λ a m g. refl;
                keeps = λ a b o. absurd (not_mine mine b o);
                gains = λ a b m o. let s : suc w ≡ suc i = sym (if_yes _ _ b ∙ is)
                    ∙ o in let z : i ≡ w = omega arith in inr
                    (subst (λ (k : ℕ). waits_on (nth_task t k) (id_of (suc j) (nth_slot t j)) ≡ true) (sym z) there, ap (λ (v : Task). v.answer) (after z));
              });
        })
      where
        t' : Tables
        t' = wake (put_slot t (suc j) (handed (nth_slot t j) place)) (suc w) 0

        there : waits_on (nth_task t w) (id_of (suc j) (nth_slot t j)) ≡ true
        there = waits_there (nth_task t) (nth_slot t) (below t f) f.linked w j l
            (subst (λ (q : ℕ). 1 ≤ occurs q (nth_slot t j).queue) is (occurs_at (nth_slot t j).queue place h))

        after : i ≡ w → nth_task t' i ≡ readied (nth_task t w) 0
        after s = subst (λ (k : ℕ). nth_task t' k ≡ readied (nth_task t w) 0) (sym s)
            (get_or-set_same t.tasks w (readied (nth_task t w) 0) no_task (waits_within t w (and_both _ _ there).0))

        slot_after : nth_slot t' j ≡ handed (nth_slot t j) place
        slot_after = get_or-set_same t.slots j (handed (nth_slot t j) place) (free_slot 0) (live_within t j l)

        woken : i ≡ w → Woken t t' i (suc w)
        woken s =
            record {
              waited = subst (λ (k : ℕ). waits (nth_task t k) ≡ true) (sym s) (and_both _ _ there).0;
              ready = subst (λ (v : Task). waits v ≡ false) (sym (after s)) refl;
              got = λ z.
                  record {
                    place = j;
                    live = l;
                    is = subst (λ (k : ℕ). (nth_task t k).awaited ≡ id_of (suc j) (nth_slot t j)) (sym s) (eqb-true _ _ (and_both _ _ there).1);
                    live' = subst (λ (x : Slot). is_live x ≡ true) (sym slot_after) l;
                    generation = ap (λ (x : Slot). x.generation) slot_after;
                    owned = λ b. (ap (λ (x : Slot). x.owner) slot_after ∙ if_yes _ _ b ∙ is ∙ ap suc (sym s), ap (λ (x : Slot). x.nest) slot_after ∙ if_yes _ _ b);
                    only = ap suc (sym s);
                  };
            }

    give_observed : Sees (give_of t (nth_slot t j) c)
    unfolding give_step pass_step
    give_observed =
        choose_cases Sees (is_binary (nth_slot t j).attributes and isnt (owned_by (nth_slot t j) c)) _ _ (λ b e. absurd (omega arith))
        (λ mine. choose_cases Sees (is_binary (nth_slot t j).attributes and leb 2 (nth_slot t j).nest) _ _
        (λ e. unwoken _ (λ H. record { attributes = λ a m g. refl; keeps = λ a b o. absurd (not_mine mine b o); gains = λ a b m o. inl o }))
        (λ e. choose_cases Sees (leb 1 (length (nth_slot t j).queue)) _ _
        (λ q. handed_on_lem mine (served_place (urgency t) (nth_slot t j)) (served_within (urgency t) (nth_slot t j) (leb-true _ _ q)) _ refl)
        (λ q. choose_cases Sees (eqb (nth_slot t j).count (nth_slot t j).maximum) _ _ (λ m e. absurd (omega arith))
        (λ m. unwoken _ (λ H. record { attributes = λ a m g. refl; keeps = λ a b o. absurd (not_mine mine b o); gains = λ a b m o. absurd (omega arith) })))))

  release_observed : (c id : ℕ) → suc i ≢ c → Observed t (release t c id).tables i (give_of t (slot_of t (slot_named t id)) c).woken
  unfolding release release_refusal
  release_observed c id other =
      observed_unless t i _ (release_refusal t c id) (answered 0 0 (after (slot_named t id)))
      (λ e.
      let named = must (names t id) (give_of t (slot_of t (slot_named t id)) c).status 4 (omega arith) (any_caller_lem t c _ e) in
      let s = found t f.sizes id named.0 in
      subst (λ (m : ℕ). (give_of t (slot_of t m) c).status ≡ 0 → Observed t (after m) i (give_of t (slot_of t m) c).woken) (sym s.number)
      (give_observed c other s.place s.live) named.1)
    where
      after : ℕ → Tables
      after n =
          let given = give_of t (slot_of t n) c in
          choose (eqb given.woken 0) (put_slot t n given.slot) (wake (put_slot t n given.slot) given.woken 0)

  -- ---- every call

  ident_observed : (name : ℕ) → Observed t (ident t name).tables i 0
  unfolding ident
  ident_observed name =
      let n = first_named name t.slots 1 in
      observed_unless t i 0 (choose (eqb name 0 or eqb n 0) 3 0) (answered 0 (id_of n (slot_of t n)) t) (λ e. observed_same t i 0)

  pub observed : (call : Call) (priorities : List ℕ) → 1 ≤ length t.tasks → suc i ≢ caller_of call
      → Observed t (perform t call priorities).tables i (handed_to t call)
  unfolding perform
  observed (Start slots) priorities h n = start_observed slots priorities h
  observed (Create caller name count attributes maximum) priorities h n = create_observed caller name count attributes maximum
  observed (Ident name) priorities h n = ident_observed name
  observed (Delete caller id) priorities h n = delete_observed caller id
  observed (Obtain caller id wait) priorities h n = obtain_observed caller n id wait
  observed (Release caller id) priorities h n = release_observed caller id n
  observed (Flush caller id) priorities h n = flush_observed caller id
  observed Tick priorities h n = tick_observed
