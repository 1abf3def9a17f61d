-- Each call by what its checks gave: that refusal, or what it does with the Classic call that it stands on.
use mathlib.Core.Path.{◌≡◌, sym, ap}
use mathlib.Core.List.{List}
use Prim.Native.Nat.{ℕ}
use lib.IntN.{ℤ, nat_abs}
use Rattle.rules.specs.Numbers.{too_many, unsatisfied}
use Rattle.rules.specs.Machine.{Tables}
use Rattle.rules.specs.Calls.{Outcome, create, delete, obtain, release}
use Rattle.mapping.specs.Mapping.{entry_of}
use Rattle.itron.specs.declared.Coded.{Coded}
use Rattle.itron.specs.Codes.{e_nomem, e_qovr, e_tmout, code_of, status_code}
use Rattle.itron.specs.Calls.{Listed, unless_refused, over, mapped, cre_refusal, attributes_of, cre_sem, del_refusal, del_sem, sig_refusal, sig_sem}
use Rattle.itron.specs.Calls.{twai_refusal, wait_for, twai_sem}

module _ (t : Tables) (list : List ℕ) (caller semid : ℕ) where
  abbrev checked : (Listed Coded) → ℤ → Listed Coded
  checked done x = unless_refused x t list done

  module _ (sematr : ℕ) (isemcnt maxsem : ℤ) where
    abbrev pub cre_outcome : Outcome
    cre_outcome = create t caller semid (nat_abs isemcnt) (attributes_of sematr) (nat_abs maxsem)

    abbrev pub cre_done : Listed Coded
    cre_done = over (status_code too_many e_nomem) (mapped list semid cre_outcome) cre_outcome

    pub cre_checked : (x : ℤ) → x ≡ cre_refusal t list caller semid sematr isemcnt maxsem
        → cre_sem t list caller semid sematr isemcnt maxsem ≡ unless_refused x t list cre_done
    unfolding cre_sem
    cre_checked x e = ap (checked cre_done) (sym e)

  abbrev pub del_outcome : Outcome
  del_outcome = delete t caller (entry_of list semid)

  abbrev pub del_done : Listed Coded
  del_done = over code_of (mapped list semid del_outcome) del_outcome

  pub del_checked : (x : ℤ) → x ≡ del_refusal t list caller semid → del_sem t list caller semid ≡ unless_refused x t list del_done
  unfolding del_sem
  del_checked x e = ap (checked del_done) (sym e)

  abbrev pub sig_done : Listed Coded
  sig_done = over (status_code unsatisfied e_qovr) list (release t caller (entry_of list semid))

  pub sig_checked : (x : ℤ) → x ≡ sig_refusal t list caller semid → sig_sem t list caller semid ≡ unless_refused x t list sig_done
  unfolding sig_sem
  sig_checked x e = ap (checked sig_done) (sym e)

  module _ (tmout : ℤ) where
    abbrev pub twai_done : Listed Coded
    twai_done = over (status_code unsatisfied e_tmout) list (obtain t caller (entry_of list semid) (wait_for tmout))

    pub twai_checked : (x : ℤ) → x ≡ twai_refusal t list caller semid tmout
        → twai_sem t list caller semid tmout ≡ unless_refused x t list twai_done
    unfolding twai_sem
    twai_checked x e = ap (checked twai_done) (sym e)
