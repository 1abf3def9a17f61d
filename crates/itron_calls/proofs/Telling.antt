-- What ref_sem reads: an entry of a list that agrees is the identifier of a live semaphore whose count is a number with a sign.
use mathlib.Core.Path.{◌≡◌, refl, sym, ap, ap₂, ◌∙◌}
use mathlib.Core.Bool.{true}
use mathlib.Core.List.{List}
use Prim.Native.Nat.{ℕ, pred, ◌-◌, ◌^◌, ◌≤◌, ◌<◌}
use native.Mathlib.Omega.{arith}
use lib.Dec.{leb}
use lib.IntN.{ℤ, pos}
use lib.Signed.{non_neg}
use lib.ListN.{length}
use borrow.Author.Tests.{leb-true}
use Rattle.laws.specs.Choose.{bit}
use Rattle.laws.proofs.Choose.{if_yes, and_both, never}
use Rattle.rules.specs.Machine.{Slot, Tables, slot_of, names, slot_named, next}
use Rattle.tables.specs.declared.Head.{Head}
use Rattle.tables.specs.Layout.{model_of, record_at, head_of}
use Rattle.calls.specs.Agreeing.{Agreeing}
use Rattle.calls.specs.Entered.{Found}
use Rattle.calls.proofs.Entering.{waiters_are, count_within, unnamed, slot_within, found_loaded}
use Rattle.mapping.specs.Mapping.{greatest_count, entry_of, is_counting, is_itron, is_mappable, list_agrees}
use Rattle.mapping.proofs.Agreeing.{list_fits}
use Rattle.itron.specs.declared.Reference.{Reference}
use Rattle.itron.specs.Codes.{e_ok}
use Rattle.itron.specs.Calls.{sig_refusal, ref_sem}
use Rattle.itron_calls.specs.Reply.{both_agree, ref_reply}
use Rattle.itron_calls.proofs.Replying.{list_agrees_lem}

module _ (bs list : List ℕ) (g : Agreeing bs) (l : list_agrees (model_of bs) list ≡ true) (semid : ℕ) (some : 1 ≤ entry_of list semid) where
  abbrev t : Tables
  t = model_of bs

  abbrev id : ℕ
  id = entry_of list semid

  mappable : (names t id ≡ true) × (is_itron (slot_of t (slot_named t id)) ≡ true)
  unfolding is_mappable
  mappable = and_both (names t id) _ ((list_fits l).mappable (pred semid) (λ z. absurd (omega arith)))

  pub is_named : slot_named t id ≡ 0 → ⊥
  is_named z = never mappable.0 (unnamed g id 0 (sym z) refl)

  module _ (n : ℕ) (asked : n ≡ slot_named t id) (first : 1 ≤ n) where
    pub found : Found t id n (record_at bs (n - 1))
    found = found_loaded g id n asked (λ z. absurd (omega arith)) (record_at bs (n - 1)) refl

    pub slot_is : slot_of t n ≡ slot_of t (slot_named t id)
    slot_is = ap {B = Slot} (λ (k : ℕ). slot_of t k) asked

    pub few : (record_at bs (n - 1)).count ≤ greatest_count
    few =
        let s = slot_of t (slot_named t id) in
        let most = leb-true s.maximum greatest_count (and_both (is_counting s.attributes) (leb s.maximum greatest_count) mappable.1).1 in
        omega (arith, most, count_within g.agrees found, ap (λ (s : Slot). s.maximum) (found.stands.same ∙ slot_is))

-- the semaphore that semid stands for
abbrev meant : List ℕ → List ℕ → ℕ → Slot
meant bs list semid = slot_of (model_of bs) (slot_named (model_of bs) (entry_of list semid))

-- what is read by a view with the bytes v
module _ (bs list : List ℕ) (semid : ℕ) (e : both_agree bs list ≡ true) (g : Agreeing bs) {v : List ℕ} (same : v ≡ bs) {id : ℕ}
    (mapped : (id ≡ entry_of list semid) × (1 ≤ id)) where
  some : 1 ≤ entry_of list semid
  some = omega (arith, mapped)

  l : list_agrees (model_of bs) list ≡ true
  l = list_agrees_lem bs list e

  here : slot_named (model_of v) id ≡ slot_named (model_of bs) (entry_of list semid)
  here = ap₂ (λ (bs : List ℕ) (id : ℕ). slot_named (model_of bs) id) same mapped.0

  pub names_slot : slot_named (model_of v) id ≡ 0 → ⊥
  names_slot z = is_named bs list g l semid some (sym here ∙ z)

  module _ {n : ℕ} (named : (n ≡ slot_named (model_of v) id) × (1 ≤ n)) where
    number : (n ≡ slot_named (model_of bs) (entry_of list semid)) × (1 ≤ n)
    number = (named.0 ∙ here, named.1)

    pub slot_there : n - 1 < 64
    slot_there = omega (arith, slot_within g (entry_of list semid) n number.0 (λ z. absurd (omega (arith, number.1))))

    module _ {h : Head} (loaded : h ≡ head_of (record_at v (n - 1))) where
      read_as : h ≡ head_of (record_at bs (n - 1))
      read_as = loaded ∙ ap (λ (bs : List ℕ). head_of (record_at bs (n - 1))) same

      pub count_told : h.count ≡ (meant bs list semid).count
      count_told =
          ap (λ (h : Head). h.count) read_as
          ∙ ap (λ (s : Slot). s.count) ((found bs list g l semid some n number.0 number.1).stands.same ∙ slot_is bs list g l semid some n number.0 number.1)

      pub waiters_told : h.waiters ≡ length (meant bs list semid).queue
      waiters_told =
          ap (λ (h : Head). h.waiters) read_as ∙ waiters_are (found bs list g l semid some n number.0 number.1).stands
          ∙ ap (λ (s : Slot). length s.queue) (slot_is bs list g l semid some n number.0 number.1)

      pub count_few : h.count < 2 ^ 31
      count_few = omega (arith, ap (λ (h : Head). h.count) read_as, few bs list g l semid some n number.0 number.1)

      pub reads : (caller : ℕ) → e_ok ≡ sig_refusal (model_of v) list caller semid → {n : ℕ} → n ≡ next (model_of v) → {wtsk semcnt : ℤ}
          → wtsk ≡ pos (bit (leb 1 h.waiters)) → semcnt ≡ pos h.count
          → (let told : Reference = record { code = e_ok; next = n; exinf = pos 0; wtsk = wtsk; semcnt = semcnt } in told) ≡ ref_reply bs list caller semid
      unfolding ref_reply ref_sem
      reads caller n p w s =
          let unrefused : non_neg (sig_refusal (model_of bs) list caller semid) ≡ true =
          ap non_neg (sym (n ∙ ap {B = ℤ} (λ (bs : List ℕ). sig_refusal (model_of bs) list caller semid) same))
          in
          (λ i. record {
            code = e_ok;
            next = (p ∙ ap (λ (bs : List ℕ). next (model_of bs)) same) i;
            exinf = pos 0;
            wtsk = (w ∙ ap (λ (k : ℕ). pos (bit (leb 1 k))) waiters_told) i;
            semcnt = (s ∙ ap (λ (k : ℕ). pos k) count_told) i;
          })
          ∙ sym (if_yes _ _ e ∙ if_yes _ _ unrefused)
