-- What the tests of a file's contents and queues say, step by step, and what passes them.
use mathlib.Core.Path.{◌≡◌, sym, subst, ap, ◌∙◌}
use mathlib.Core.Bool.{Bool, true}
use mathlib.Core.List.{List, [], ◌∷◌, ◌++◌, map}
use Prim.Native.Nat.{ℕ, zero, suc, ◌+◌, ◌*◌, ◌/◌, ◌≤◌, ◌<◌}
use native.Mathlib.Omega.{arith}
use lib.Dec.{leb, eqb}
use lib.ListN.{length, get_or, length-append}
use borrow.Author.Tests.{leb-true, eqb-true, le-leb, eq-eqb}
use Rattle.laws.specs.Choose.{◌and◌}
use Rattle.laws.proofs.Choose.{cases, and_both, both_and}
use Rattle.laws.specs.Rows.{rows}
use Rattle.laws.proofs.Fit.{length_tabulate}
use Rattle.words.specs.Words.{word_at, same_words}
use Rattle.rules.specs.Machine.{Slot, free_slot}
use Rattle.tables.specs.Layout.{row_at}
use Rattle.state.specs.declared.contents.Counts.{Counts}
use Rattle.state.specs.File.{queue_row}
use Rattle.state.specs.Reading.{slot_numbers, slots_in, counts_in, file_end, slot_of_row, slots_from}
use Rattle.state.specs.Shape.{Small, is_small, contents_for, is_headed, queues_fit}
use Rattle.state.proofs.Stands.{Stands, tested_stands, stands_tested, stands_first, stands_behind}

-- ---- contents: the counts as they are read, and whether they are small

pub counts_read : (bs : List ℕ) (e a s c d : ℕ) → e ≡ word_at bs 0 → a ≡ word_at bs 4 → s ≡ slots_in (word_at bs 0) (word_at bs 7) → c ≡ word_at bs 10
    → d ≡ word_at bs 13
    → ◌≡◌ {A = Counts} (record { edition = e; tasks = a / 16; slots = s; queues = c / 4; ready = d / 4 }) (counts_in bs)
counts_read bs e a s c d ee ea es ec ed = λ k. record { edition = ee k; tasks = ea k / 16; slots = es k; queues = ec k / 4; ready = ed k / 4 }

pub small_of : (c : Counts) → is_small c ≡ true → Small c
small_of c e =
    let f = and_both _ _ e in
    let g = and_both _ _ f.0 in
    let p = and_both _ _ f.1 in
    let n = and_both _ _ p.0 in
    let q = and_both _ _ p.1 in
    let r = and_both _ _ q.1 in
    record {
      first = leb-true _ _ g.0;
      last = leb-true _ _ g.1;
      some = leb-true _ _ n.0;
      tasks = leb-true _ _ n.1;
      slots = leb-true _ _ q.0;
      queues = leb-true _ _ r.0;
      ready = leb-true _ _ r.1;
    }

pub small_true : (c : Counts) → Small c → is_small c ≡ true
small_true c s =
    both_and (both_and (le-leb _ _ s.first) (le-leb _ _ s.last))
    (both_and (both_and (le-leb _ _ s.some) (le-leb _ _ s.tasks))
    (both_and (le-leb _ _ s.slots) (both_and (le-leb _ _ s.queues) (le-leb _ _ s.ready))))

-- ---- the test of the contents, in its order

abbrev headed_by : List ℕ → Counts → Bool
headed_by bs c = leb 56 (length bs) and is_small c and eqb (length bs) (4 * file_end c) and same_words bs 0 (contents_for c)

-- by the counts that were read
module _ (bs : List ℕ) (c : Counts) (e : c ≡ counts_in bs) (long : 56 ≤ length bs) where
  tested : (r : Bool) → r ≡ headed_by bs c → r ≡ is_headed bs
  unfolding is_headed
  tested r f = f ∙ ap (headed_by bs) e

  pub small_tested : is_small c ≡ true → (r : Bool) → r ≡ (eqb (length bs) (4 * file_end c) and same_words bs 0 (contents_for c)) → r ≡ is_headed bs
  small_tested s r f = tested r (search cases)

-- contents for small counts, and bytes that end where these say
pub record Headed (bs : List ℕ) : Type 0 where
  pub small : Small (counts_in bs)
  pub long : length bs ≡ 4 * file_end (counts_in bs)
  pub contents : Stands bs 0 (contents_for (counts_in bs))

pub headed_of : (bs : List ℕ) → is_headed bs ≡ true → Headed bs
unfolding is_headed
headed_of bs e =
    let p = and_both _ _ (and_both _ _ e).1 in
    let q = and_both _ _ p.1 in
    record { small = small_of (counts_in bs) p.0; long = eqb-true _ _ q.0; contents = tested_stands bs 0 (contents_for (counts_in bs)) q.1 }

pub headed_true : (bs : List ℕ) → Headed bs → is_headed bs ≡ true
unfolding is_headed
headed_true bs h =
    both_and (le-leb 56 (length bs) (omega (arith, h.long)))
    (both_and (small_true (counts_in bs) h.small)
    (both_and (eq-eqb (length bs) (4 * file_end (counts_in bs)) h.long) (stands_tested bs 0 (contents_for (counts_in bs)) h.contents)))

-- by the counts that were read
pub headed_counts : (bs : List ℕ) (c : Counts) → c ≡ counts_in bs → is_headed bs ≡ true → Small c × (length bs ≡ 4 * file_end c)
headed_counts bs c e h =
    let headed = headed_of bs h in
    subst (λ (d : Counts). Small d × (length bs ≡ 4 * file_end d)) (sym e) (headed.small, headed.long)

-- ---- queues

module _ (bs : List ℕ) where
  -- of the first of some queues
  pub record FirstFits (n at end : ℕ) : Type 0 where
    pub inside : suc at + word_at bs at ≤ end
    pub few : word_at bs at ≤ 32
    pub others : queues_fit bs n (suc at + word_at bs at) end ≡ true

  pub first_fits : (n at end : ℕ) → queues_fit bs (suc n) at end ≡ true → FirstFits n at end
  unfolding queues_fit
  first_fits n at end e =
      let p = and_both _ _ (and_both _ _ e).1 in
      let q = and_both _ _ p.1 in
      record { few = leb-true _ _ p.0; inside = leb-true _ _ q.0; others = q.1 }

  pub fits_more : (n at end : ℕ) → FirstFits n at end → queues_fit bs (suc n) at end ≡ true
  unfolding queues_fit
  fits_more n at end f =
      both_and (le-leb (suc at) end (omega (arith, f.inside)))
      (both_and (le-leb (word_at bs at) 32 f.few) (both_and (le-leb (suc at + word_at bs at) end f.inside) f.others))

  -- what is so of every slot whose queue has at most 32 tasks, and of a free one, is so of each slot read
  pub slots_each : (e : ℕ) (P : Slot → Type 0) → P (free_slot 0)
      → ((at queue : ℕ) → word_at bs queue ≤ 32 → P (slot_of_row e (row_at bs at (slot_numbers e 1)) (row_at bs (suc queue) (word_at bs queue))))
      → (n at queue end : ℕ) → queues_fit bs n queue end ≡ true → (i : ℕ) → P (get_or (slots_from bs e n at queue) i (free_slot 0))
  unfolding slots_from
  slots_each e P none one zero at queue end f i = none
  slots_each e P none one (suc n) at queue end f zero = one at queue (first_fits n queue end f).few
  slots_each e P none one (suc n) at queue end f (suc i) =
      slots_each e P none one n (at + slot_numbers e 1) (suc queue + word_at bs queue) end (first_fits n queue end f).others i

  -- the queues read end where they should
  pub queues_end : (e n at queue end : ℕ) → queues_fit bs n queue end ≡ true → queue + length (rows (map queue_row (slots_from bs e n at queue))) ≡ end
  unfolding slots_from rows
  queues_end e zero at queue end f = unfold queues_fit in omega (arith, eqb-true queue end f)
  queues_end e (suc n) at queue end f =
      let waiters : List ℕ = row_at bs (suc queue) (word_at bs queue) in
      let next : ℕ = suc queue + word_at bs queue in
      omega (
        arith,
        length-append waiters (rows (map queue_row (slots_from bs e n (at + slot_numbers e 1) next))),
        length_tabulate (word_at bs queue) (λ k. word_at bs (suc queue + k)),
        queues_end e n (at + slot_numbers e 1) next end (first_fits n queue end f).others,
      )

  -- queues that stand in the bytes fit
  pub queues_fit_lem : (ss : List Slot) → ((i : ℕ) → i < length ss → length (get_or ss i (free_slot 0)).queue ≤ 32)
      → (at end : ℕ) → Stands bs at (rows (map queue_row ss)) → end ≡ at + length (rows (map queue_row ss)) → queues_fit bs (length ss) at end ≡ true
  unfolding rows
  queues_fit_lem [] few at end h e = unfold queues_fit in eq-eqb at end (omega arith)
  queues_fit_lem (s ∷ ss) few at end h e =
      let rest = rows (map queue_row ss) in
      let count : word_at bs at ≡ length s.queue = stands_first bs at (length s.queue) (s.queue ++ rest) h in
      let long = length-append s.queue rest in
      let next : suc at + word_at bs at ≡ at + length (queue_row s) = omega arith in
      fits_more (length ss) at end
      (record {
        inside = omega arith;
        few = omega (arith, few 0 (omega arith));
        others =
            queues_fit_lem ss (λ i l. few (suc i) (omega arith)) (suc at + word_at bs at) end
            (stands_behind bs at (queue_row s) rest (suc at + word_at bs at) next h)
            (omega arith);
      })
