-- What a call that its checks do not refuse has passed, and that the Classic call passes then too.
use mathlib.Core.Path.{◌≡◌, refl, sym, ap, ◌∙◌}
use mathlib.Core.Bool.{Bool, true, false}
use mathlib.Core.List.{List}
use mathlib.Core.Logic.{◌⊎◌, inl, inr, ◌≢◌, ⊎_elim}
use Prim.Native.Nat.{ℕ, ◌≤◌}
use native.Mathlib.Omega.{arith}
use lib.Dec.{ltb, eqb}
use lib.IntN.{ℤ}
use lib.ListN.{length}
use lib.Signed.{non_neg, le_z}
use borrow.Author.Tests.{eqb-true, eqb-false, eq-eqb, ne_eqb, leb-true, ltb-false, le-ltb}
use Rattle.laws.specs.Choose.{choose, ◌and◌, ◌or◌, isnt}
use Rattle.laws.proofs.Choose.{if_yes, if_no, and_both, tested, never}
use Rattle.rules.specs.Numbers.{within}
use Rattle.rules.specs.Machine.{Tables, task_of, waits}
use Rattle.rules.specs.Calls as classic
use Rattle.rules.proofs.Invariants.Refusals.{Caller}
use Rattle.mapping.specs.Mapping.{entry_of}
use Rattle.itron.specs.Codes.{minus, e_ok, e_ctx, e_id, e_noexs, e_obj, e_rsatr, e_par}
use Rattle.itron.specs.Calls.{any_caller, task_only, in_range, exists, counts_allowed, cre_refusal, del_refusal, sig_refusal, twai_refusal}
use Rattle.family.specs.Family.{is_signed, itron_fits}
use Rattle.family.specs.Family.Itron.{CreSem, TwaiSem}

-- a choice that is no refusal, where one side is one
must : (b : Bool) (x y : ℤ) → non_neg y ≡ false → non_neg (choose b x y) ≡ true → (b ≡ true) × (non_neg x ≡ true)
must b x y n e =
    ⊎_elim (λ (t : b ≡ true). (t, ap non_neg (sym (if_yes x y t)) ∙ e)) (λ (f : b ≡ false). never (ap non_neg (sym (if_no x y f)) ∙ e) n) (tested b)

mustnt : (b : Bool) (x y : ℤ) → non_neg x ≡ false → non_neg (choose b x y) ≡ true → (b ≡ false) × (non_neg y ≡ true)
mustnt b x y n e =
    ⊎_elim (λ (t : b ≡ true). never (ap non_neg (sym (if_yes x y t)) ∙ e) n) (λ (f : b ≡ false). (f, ap non_neg (sym (if_no x y f)) ∙ e)) (tested b)

-- an interrupt, or a ready task of the N
abbrev pub Anyone : Tables → ℕ → Type 0
Anyone t caller = (caller ≡ 0) ⊎ Caller t caller

module _ (t : Tables) (caller : ℕ) where
  any_passed : (rest : ℤ) → non_neg (any_caller t caller rest) ≡ true → Anyone t caller × (non_neg rest ≡ true)
  any_passed rest e =
      ⊎_elim (λ (z : eqb caller 0 ≡ true). (inl (eqb-true caller 0 z), ap non_neg (sym (if_yes _ _ z)) ∙ e))
      (λ (z : eqb caller 0 ≡ false).
      let few = mustnt (ltb (length t.tasks) caller) e_id _ refl (ap non_neg (sym (if_no _ _ z)) ∙ e) in
      let awake = mustnt (waits (task_of t caller)) e_ctx rest refl few.1 in
      let task : caller ≡ 0 → ⊥ = eqb-false caller 0 z in
      (inr (record { first = omega arith; last = ltb-false _ _ few.0; ready = awake.0 }), awake.1))
      (tested (eqb caller 0))

  task_passed : (rest : ℤ) → non_neg (task_only t caller rest) ≡ true → Caller t caller × (non_neg rest ≡ true)
  task_passed rest e =
      let some = mustnt (eqb caller 0) e_ctx _ refl e in
      let any = any_passed rest some.1 in
      (⊎_elim (λ (z : caller ≡ 0). absurd (eqb-false caller 0 some.0 z)) (λ (c : Caller t caller). c) any.0, any.1)

  -- such a caller passes the manager's checks
  caller_may : Caller t caller → classic.caller_refusal t caller ≡ 0
  caller_may c = if_no _ _ (le-ltb (length t.tasks) caller c.last) ∙ if_no _ _ c.ready

  pub task_may : Caller t caller → (rest : ℕ) → classic.task_only t caller rest ≡ rest
  task_may c rest =
      if_no _ _ (ne_eqb caller 0 (λ z. omega (arith, c.first))) ∙ if_yes _ _ (eq-eqb (classic.caller_refusal t caller) 0 (caller_may c))

  pub any_may : Anyone t caller → (rest : ℕ) → classic.any_caller t caller rest ≡ rest
  any_may a rest = if_no _ _ (⊎_elim nobody somebody a)
    where
      stops : Bool
      stops = isnt (eqb caller 0) and isnt (eqb (classic.caller_refusal t caller) 0)

      nobody : caller ≡ 0 → stops ≡ false
      nobody z = if_no _ _ (if_yes _ _ (eq-eqb caller 0 z))

      somebody : Caller t caller → stops ≡ false
      somebody c =
          if_yes _ _ (if_no _ _ (ne_eqb caller 0 (λ z. omega (arith, c.first)))) ∙ if_yes _ _ (eq-eqb (classic.caller_refusal t caller) 0 (caller_may c))

  -- and those of the family
  pub task_let_in : Caller t caller → (rest : ℤ) → task_only t caller rest ≡ rest
  task_let_in c rest =
      let task = ne_eqb caller 0 (λ z. omega (arith, c.first)) in
      if_no _ _ task ∙ if_no _ _ task ∙ if_no _ _ (le-ltb (length t.tasks) caller c.last) ∙ if_no _ _ c.ready

-- semid is one of 1..S
pub record Ranged (t : Tables) (semid : ℕ) : Type 0 where
  pub low : 1 ≤ semid
  pub high : semid ≤ length t.slots

range_passed : (t : Tables) (semid : ℕ) (rest : ℤ) → non_neg (in_range t semid rest) ≡ true → Ranged t semid × (non_neg rest ≡ true)
range_passed t semid rest e =
    let p = must (within 1 (length t.slots) semid) rest e_id refl e in
    let w = and_both _ _ p.0 in
    (record { low = leb-true _ _ w.0; high = leb-true _ _ w.1 }, p.1)

exists_passed : (list : List ℕ) (semid : ℕ) (rest : ℤ) → non_neg (exists list semid rest) ≡ true → entry_of list semid ≢ 0
exists_passed list semid rest e = eqb-false _ _ (mustnt (eqb (entry_of list semid) 0) e_noexs rest refl e).0

-- ---- the signed numbers of a call that fits

pub maxsem_signed : (caller semid sematr : ℕ) (isemcnt maxsem : ℤ) → itron_fits (CreSem caller semid sematr isemcnt maxsem) ≡ true → is_signed maxsem ≡ true
unfolding itron_fits
maxsem_signed caller semid sematr isemcnt maxsem e = (and_both _ _ (and_both _ _ (and_both _ _ (and_both _ _ e).1).1).1).1

pub tmout_signed : (caller semid : ℕ) (tmout : ℤ) → itron_fits (TwaiSem caller semid tmout) ≡ true → is_signed tmout ≡ true
unfolding itron_fits
tmout_signed caller semid tmout e = (and_both _ _ (and_both _ _ e).1).1

-- ---- call by call

-- cre_sem
pub record Makes (t : Tables) (list : List ℕ) (caller semid sematr : ℕ) (isemcnt maxsem : ℤ) : Type 0 where
  pub task : Caller t caller
  pub range : Ranged t semid
  pub nothing : entry_of list semid ≡ 0
  pub attributed : (eqb sematr 0 or eqb sematr 1) ≡ true
  pub counts : counts_allowed isemcnt maxsem ≡ true

-- del_sem and the waits
pub record Uses (t : Tables) (list : List ℕ) (caller semid : ℕ) : Type 0 where
  pub task : Caller t caller
  pub range : Ranged t semid
  pub something : entry_of list semid ≢ 0

-- sig_sem and ref_sem
pub record Signals (t : Tables) (list : List ℕ) (caller semid : ℕ) : Type 0 where
  pub anyone : Anyone t caller
  pub range : Ranged t semid
  pub something : entry_of list semid ≢ 0

module _ (t : Tables) (list : List ℕ) (caller semid : ℕ) where
  pub cre_passed : (sematr : ℕ) (isemcnt maxsem : ℤ) → non_neg (cre_refusal t list caller semid sematr isemcnt maxsem) ≡ true
      → Makes t list caller semid sematr isemcnt maxsem
  unfolding cre_refusal
  cre_passed sematr isemcnt maxsem e =
      let c = task_passed t caller _ e in
      let r = range_passed t semid _ c.1 in
      let o = must (eqb (entry_of list semid) 0) _ e_obj refl r.1 in
      let a = must (eqb sematr 0 or eqb sematr 1) _ e_rsatr refl o.1 in
      let n = must (counts_allowed isemcnt maxsem) e_ok e_par refl a.1 in
      record { task = c.0; range = r.0; nothing = eqb-true _ _ o.0; attributed = a.0; counts = n.0 }

  pub del_passed : non_neg (del_refusal t list caller semid) ≡ true → Uses t list caller semid
  unfolding del_refusal
  del_passed e =
      let c = task_passed t caller _ e in
      let r = range_passed t semid _ c.1 in
      record { task = c.0; range = r.0; something = exists_passed list semid e_ok r.1 }

  pub sig_passed : non_neg (sig_refusal t list caller semid) ≡ true → Signals t list caller semid
  unfolding sig_refusal
  sig_passed e =
      let c = any_passed t caller _ e in
      let r = range_passed t semid _ c.1 in
      record { anyone = c.0; range = r.0; something = exists_passed list semid e_ok r.1 }

  pub twai_passed : (tmout : ℤ) → non_neg (twai_refusal t list caller semid tmout) ≡ true → Uses t list caller semid
  unfolding twai_refusal
  twai_passed tmout e =
      let c = task_passed t caller _ e in
      let r = range_passed t semid _ c.1 in
      let w = mustnt (le_z tmout (minus 2)) e_par _ refl r.1 in
      record { task = c.0; range = r.0; something = exists_passed list semid e_ok w.1 }
