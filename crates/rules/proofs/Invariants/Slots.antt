-- Each step of one live semaphore leaves it as a live semaphore should be.
use mathlib.Core.Path.{◌≡◌, refl, subst, ◌∙◌}
use mathlib.Core.Bool.{true, false}
use mathlib.Core.List.{List, [], ◌∷◌, ◌++◌}
use mathlib.Core.Logic.{◌⊎◌, inl, inr, ⊎_elim, ◌≢◌}
use Prim.Native.Nat.{ℕ, ◌+◌, ◌-◌, ◌≤◌, ◌<◌}
use native.Mathlib.Omega.{arith}
use native.Mathlib.Decide.{dec_le}
use lib.Dec.{eqb}
use lib.ListN.{length, get_or}
use borrow.Author.Tests.{eqb-true, eqb-false, eq-eqb, ne_eqb}
use Rattle.laws.specs.Choose.{choose, bit, ◌and◌, ◌or◌}
use Rattle.laws.proofs.Choose.{tested, never, if_yes, if_no, both_and, or_first, or_second, false_isnt, choose_cases}
use Rattle.rules.specs.Numbers.{max_generation, max_number, allowed, is_binary, is_simple, class_maximum}
use Rattle.rules.specs.Machine.{Slot, is_live}
use Rattle.rules.specs.Agreement.{occurs}
use Rattle.rules.specs.Semaphore.{counted, owned_by, remove_at, handed, flush_step}
use Rattle.rules.specs.Calls.{new_semaphore}
use Rattle.rules.proofs.Invariants.Lists.{bit_no, bit_same, occurs_empty, occurs_none, occurs_rear, occurs_remove}
use Rattle.rules.proofs.Invariants.Facts.{Unheld, Held, Unowned, LiveFits, SlotFits, class_within, maximum_within}

module _ (N : ℕ) (s : Slot) (fits : SlotFits N s) (l : is_live s ≡ true) where
  live : LiveFits N s
  live = fits.when_live l

  -- a step changes count, owner, nest and queue only
  pub counted_fits : (count owner nest : ℕ) (queue : List ℕ) → count ≤ s.maximum → nest ≤ max_number → occurs 0 queue ≡ 0
      → (1 ≤ length queue → count ≡ 0)
      → (is_binary s.attributes ≡ true → Unheld (counted s count owner nest queue) ⊎ Held N (counted s count owner nest queue))
      → (is_binary s.attributes ≡ false → Unowned (counted s count owner nest queue))
      → SlotFits N (counted s count owner nest queue)
  counted_fits count owner nest queue c n entries at_zero owned unowned =
      record {
        generation = fits.generation;
        live = fits.live;
        name = fits.name;
        count = omega (arith, c, maximum_within N s fits);
        nest = n;
        when_live = λ m.
            record {
              generation = live.generation;
              named = live.named;
              attributed = live.attributed;
              entries = entries;
              at_zero = at_zero;
              owned = owned;
              unowned = unowned;
              maximum = record { least = live.maximum.least; most = live.maximum.most; count = c };
            };
        when_free = λ e. never l e;
      }

  -- units left: nobody waits
  pub unqueued : 1 ≤ s.count → length s.queue ≡ 0
  unqueued h =
      elim (dec_le 1 (length s.queue)) [
        | yes q ↦ absurd (omega (arith, live.at_zero q))
        | no q ↦ omega arith
      ]

  -- ---- obtain

  module _ (caller : ℕ) (first : 1 ≤ caller) (last : caller ≤ N) where
    pub take_fits : 1 ≤ s.count → SlotFits N
        (counted s (s.count - 1) (choose (is_binary s.attributes) caller s.owner) (choose (is_binary s.attributes) 1 s.nest) s.queue)
    take_fits h =
        counted_fits _ _ _ s.queue (omega (arith, live.maximum.count))
        (choose_cases (λ (n : ℕ). n ≤ max_number) (is_binary s.attributes) 1 s.nest (λ b. omega arith) (λ b. fits.nest))
        live.entries (λ q. omega (arith, unqueued h)) owned unowned
      where
        slot' : Slot
        slot' = counted s (s.count - 1) (choose (is_binary s.attributes) caller s.owner) (choose (is_binary s.attributes) 1 s.nest) s.queue

        owned : is_binary s.attributes ≡ true → Unheld slot' ⊎ Held N slot'
        owned b =
            let o : choose (is_binary s.attributes) caller s.owner ≡ caller = if_yes _ _ b in
            let n : choose (is_binary s.attributes) 1 s.nest ≡ 1 = if_yes _ _ b in
            ⊎_elim
            (λ (z : Unheld s). inr (record {
              count = omega (arith, z.count);
              task = omega arith;
              most = omega arith;
              apart = occurs_empty _
                  s.queue (unqueued h);
              nest = omega arith;
            }))
            (λ (z : Held N s). absurd (omega (arith, z.count)))
            (live.owned b)

        unowned : is_binary s.attributes ≡ false → Unowned slot'
        unowned b =
            let z = live.unowned b in
            record { owner = if_no _ _ b ∙ z.owner; nest = if_no _ _ b ∙ z.nest; simple = λ m. omega (arith, z.simple m) }

    pub nest_fits : is_binary s.attributes ≡ true → s.owner ≡ caller → s.nest ≢ max_number
        → SlotFits N (counted s s.count s.owner (s.nest + 1) s.queue)
    nest_fits b o n =
        counted_fits _ _ _ s.queue live.maximum.count (omega (arith, fits.nest)) live.entries live.at_zero
        (λ m. ⊎_elim (λ (z : Unheld s). absurd (omega (arith, z.owner)))
        (λ (z : Held N s). inr (record { count = z.count; task = z.task; most = z.most; apart = z.apart; nest = omega arith }))
        (live.owned b))
        (λ m. never b m)

    pub join_fits : s.count < 1 → (is_binary s.attributes and owned_by s caller) ≡ false
        → SlotFits N (counted s s.count s.owner s.nest (s.queue ++ caller ∷ []))
    join_fits h n =
        counted_fits _ _ _ (s.queue ++ caller ∷ []) live.maximum.count fits.nest
        (omega (arith, occurs_rear 0 caller s.queue, live.entries, bit_no _ (ne_eqb 0 caller (omega arith))))
        (λ q. omega arith)
        (λ b. ⊎_elim (λ (z : Unheld s). absurd (omega (arith, z.count))) (λ (z : Held N s). inr (held b z)) (live.owned b))
        (λ b. let z = live.unowned b in record { owner = z.owner; nest = z.nest; simple = z.simple })
      where
        apart : is_binary s.attributes ≡ true → s.owner ≡ caller → ⊥
        apart b e = never (both_and b (both_and (eq-eqb _ _ e) (false_isnt _ (ne_eqb caller 0 (omega arith))))) n

        held : is_binary s.attributes ≡ true → Held N s → Held N (counted s s.count s.owner s.nest (s.queue ++ caller ∷ []))
        held b z =
            record {
              count = z.count;
              task = z.task;
              most = z.most;
              apart = omega (arith, occurs_rear s.owner caller s.queue, z.apart, bit_no _ (ne_eqb s.owner caller (apart b)));
              nest = z.nest;
            }

  -- ---- release

  pub unnest_fits : is_binary s.attributes ≡ true → 2 ≤ s.nest → SlotFits N (counted s s.count s.owner (s.nest - 1) s.queue)
  unnest_fits b n =
      counted_fits _ _ _ s.queue live.maximum.count (omega (arith, fits.nest)) live.entries live.at_zero
      (λ m. ⊎_elim (λ (z : Unheld s). absurd (omega (arith, z.nest)))
      (λ (z : Held N s). inr (record { count = z.count; task = z.task; most = z.most; apart = z.apart; nest = omega arith }))
      (live.owned b))
      (λ m. never b m)

  -- the waiter served is a task of the N, and stands in the queue once
  pub hand_fits : (place : ℕ) → place < length s.queue → let q = get_or s.queue place 0 in
      1 ≤ q → q ≤ N → occurs q s.queue ≤ 1 → SlotFits N (handed s place)
  hand_fits place h first last once =
      counted_fits _ _ _ (remove_at place s.queue) live.maximum.count
      (choose_cases (λ (n : ℕ). n ≤ max_number) (is_binary s.attributes) 1 s.nest (λ b. omega arith) (λ b. fits.nest))
      (omega (arith, occurs_remove 0 place s.queue h, live.entries)) (λ m. live.at_zero (omega arith)) owned unowned
    where
      q : ℕ
      q = get_or s.queue place 0

      owned : is_binary s.attributes ≡ true → Unheld (handed s place) ⊎ Held N (handed s place)
      owned b =
          let o : choose (is_binary s.attributes) q s.owner ≡ q = if_yes _ _ b in
          let n : choose (is_binary s.attributes) 1 s.nest ≡ 1 = if_yes _ _ b in
          let gone : occurs q (remove_at place s.queue) ≡ 0 = omega (arith, occurs_remove q place s.queue h, bit_same q, once) in
          inr (record { count = live.at_zero (omega arith); task = omega arith; most = omega arith; apart = rw o gone; nest = omega arith })

      unowned : is_binary s.attributes ≡ false → Unowned (handed s place)
      unowned b =
          let z = live.unowned b in
          record { owner = if_no _ _ b ∙ z.owner; nest = if_no _ _ b ∙ z.nest; simple = z.simple }

  -- both binary classes have the maximum 1
  most_one : (is_binary s.attributes or is_simple s.attributes) ≡ true → s.maximum ≤ 1
  most_one e = subst (λ (n : ℕ). s.maximum ≤ n) (if_yes _ _ e) live.maximum.most

  pub give_fits : length s.queue ≡ 0 → s.count ≢ s.maximum → SlotFits N (counted s (s.count + 1) 0 0 s.queue)
  give_fits empty n =
      let below = live.maximum.count in
      counted_fits _ _ _ s.queue (omega arith) (omega arith) live.entries (λ q. omega arith)
      (λ b. inl (record { count = omega (arith, most_one (or_first _ _ b)); owner = refl; nest = refl }))
      (λ b. record { owner = refl; nest = refl; simple = λ m. omega (arith, most_one (or_second _ _ m)) })

  -- ---- flush

  pub flush_fits : SlotFits N (flush_step s)
  unfolding flush_step
  flush_fits =
      counted_fits _ _ _ [] live.maximum.count fits.nest (occurs_none 0) (λ q. absurd (omega arith))
      (λ b. ⊎_elim (λ (z : Unheld s). inl (record { count = z.count; owner = z.owner; nest = z.nest }))
      (λ (z : Held N s). inr (record { count = z.count; task = z.task; most = z.most; apart = occurs_none _; nest = z.nest })) (live.owned b))
      (λ b. let z = live.unowned b in record { owner = z.owner; nest = z.nest; simple = z.simple })

-- ---- create

pub new_fits : (N : ℕ) (generation caller name count attributes maximum : ℕ) → generation < max_generation → 1 ≤ caller → caller ≤ N → 1 ≤ name
    → name ≤ max_number → allowed attributes ≡ true → 1 ≤ maximum → maximum ≤ class_maximum attributes → count ≤ maximum
    → SlotFits N (new_semaphore generation caller name count attributes maximum)
unfolding new_semaphore
new_fits N generation caller name count attributes maximum g first last named n a least most within =
    record {
      generation = omega arith;
      live = omega arith;
      name = n;
      count = omega (arith, class_within attributes);
      nest = choose_cases (λ (n : ℕ). n ≤ max_number) (is_binary attributes and eqb count 0) 1 0 (λ b. omega arith) (λ b. omega arith);
      when_live = λ m.
          record {
            generation = omega arith;
            named = named;
            attributed = a;
            entries = occurs_none 0;
            at_zero = λ q. absurd (omega arith);
            owned = λ b. ⊎_elim (held b) (unheld b) (tested (eqb count 0));
            unowned = unowned;
            maximum = record { least = least; most = most; count = within };
          };
      when_free = λ e. never refl e;
    }
  where
    slot : Slot
    slot = new_semaphore generation caller name count attributes maximum

    -- both binary classes have the maximum 1
    few : (is_binary attributes or is_simple attributes) ≡ true → count ≤ 1
    few e = let one : maximum ≤ 1 = subst (λ (n : ℕ). maximum ≤ n) (if_yes _ _ e) most in omega arith

    held : is_binary attributes ≡ true → eqb count 0 ≡ true → Unheld slot ⊎ Held N slot
    held b z =
        let both = both_and b z in
        let o : choose (is_binary attributes and eqb count 0) caller 0 ≡ caller = if_yes _ _ both in
        let n : bit (is_binary attributes and eqb count 0) ≡ 1 = if_yes _ _ both in
        inr (record { count = eqb-true _ _ z; task = omega arith; most = omega arith; apart = occurs_none _; nest = omega arith })

    unheld : is_binary attributes ≡ true → eqb count 0 ≡ false → Unheld slot ⊎ Held N slot
    unheld b z =
        let neither : (is_binary attributes and eqb count 0) ≡ false = if_yes _ _ b ∙ z in
        let some = eqb-false count 0 z in
        inl (record { count = omega (arith, few (or_first _ _ b)); owner = if_no _ _ neither; nest = if_no _ _ neither })

    unowned : is_binary attributes ≡ false → Unowned slot
    unowned b =
        let neither : (is_binary attributes and eqb count 0) ≡ false = if_no _ _ b in
        record { owner = if_no _ _ neither; nest = if_no _ _ neither; simple = λ m. few (or_second _ _ m) }
