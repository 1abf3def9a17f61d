-- Checks one behind the other: the first refusal counts.
use mathlib.Core.Path.{◌≡◌, refl, sym, subst, ap, ◌∙◌}
use mathlib.Core.Bool.{Bool, true, false, false≢true}
use mathlib.Core.List.{List}
use mathlib.Core.Logic.{⊎_elim}
use Prim.Native.Nat.{ℕ, ◌≤◌, ◌<◌}
use native.Mathlib.Omega.{arith}
use lib.Dec.{leb, eqb}
use lib.IntN.{ℤ}
use lib.ListN.{length}
use lib.Signed.{non_neg}
use borrow.Author.Tests.{le-leb, lt-leb, eqb-false, eq-eqb, ne_eqb}
use Rattle.laws.specs.Choose.{choose, ◌and◌, ◌or◌, isnt}
use Rattle.laws.proofs.Choose.{if_yes, if_no, choose_cases, and_both, both_and, or_first, or_second, tested, never}
use Rattle.rules.specs.Calls as classic
use Rattle.rules.specs.Machine.{Tables}
use Rattle.itron.specs.Codes.{e_ok, e_par, e_id, e_noexs, e_ctx}
use Rattle.itron.specs.Calls.{caller_code, any_caller, task_only, in_range, exists, counts_allowed, cre_refusal, tmout_allowed}
-- the counts of a create are natural numbers
pub use Rattle.itron.proofs.Signed.{counts_natural}

-- `first` takes the checks that follow, which count where it refuses nothing
pub record Check (first : ℤ → ℤ) : Type 0 where
  pub then : (rest : ℤ) → first rest ≡ choose (non_neg (first e_ok)) rest (first e_ok)

pub passes : Check (λ rest. rest)
unfolding choose
passes = record { then = λ rest. refl }

pub stops : (code : ℤ) → non_neg code ≡ false → Check (λ rest. code)
stops code n = record { then = λ rest. sym (if_no rest code n) }

pub either : (b : Bool) {f g : ℤ → ℤ} → Check f → Check g → Check (λ rest. choose b (f rest) (g rest))
unfolding choose
either true a b = record { then = λ rest. a.then rest }
either false a b = record { then = λ rest. b.then rest }

-- the caller first, as the manager has it
any_code : (interrupt above waits : Bool)
    → caller_code (choose (isnt interrupt and isnt (eqb (choose above 4 (choose waits 14 0)) 0)) (choose above 4 (choose waits 14 0)) 0)
    ≡ choose interrupt e_ok (choose above e_id (choose waits e_ctx e_ok))
unfolding choose caller_code
any_code true above waits = refl
any_code false true waits = refl
any_code false false true = refl
any_code false false false = refl

task_code : (interrupt above waits : Bool) → let x : ℕ = choose above 4 (choose waits 14 0) in
    caller_code (choose interrupt 18 (choose (eqb x 0) 0 x)) ≡ choose interrupt e_ctx (choose interrupt e_ok (choose above e_id (choose waits e_ctx e_ok)))
unfolding choose caller_code
task_code true above waits = refl
task_code false true waits = refl
task_code false false true = refl
task_code false false false = refl

module _ (t : Tables) (caller : ℕ) where
  pub any_caller_code : caller_code (classic.any_caller t caller 0) ≡ any_caller t caller e_ok
  any_caller_code = any_code _ _ _

  pub task_only_code : caller_code (classic.task_only t caller 0) ≡ task_only t caller e_ok
  task_only_code = task_code _ _ _

  pub any_check : Check (λ rest. any_caller t caller rest)
  any_check = either _ passes (either _ (stops e_id refl) (either _ (stops e_ctx refl) passes))

  pub task_check : Check (λ rest. task_only t caller rest)
  task_check = either _ (stops e_ctx refl) any_check

-- ---- semid, and then what it stands for

module _ (t : Tables) (semid : ℕ) where
  pub range_check : Check (λ rest. in_range t semid rest)
  range_check = either _ passes (stops e_id refl)

  pub below_range : semid < 1 → in_range t semid e_ok ≡ e_id
  below_range h = if_no _ _ (if_no _ _ (lt-leb 1 semid h))

  pub above_range : length t.slots < semid → in_range t semid e_ok ≡ e_id
  above_range h = choose_cases (λ (z : ℤ). z ≡ e_id) _ _ _ (λ e. absurd (never (and_both (leb 1 semid) _ e).1 (lt-leb semid _ h))) (λ e. refl)

  pub within_range : 1 ≤ semid → semid ≤ length t.slots → in_range t semid e_ok ≡ e_ok
  within_range l h = if_yes _ _ (both_and (le-leb 1 semid l) (le-leb semid _ h))

pub exists_check : (list : List ℕ) (semid : ℕ) → Check (λ rest. exists list semid rest)
exists_check list semid = either _ (stops e_noexs refl) passes

pub tmout_check : (tmout : ℤ) → Check (λ rest. tmout_allowed tmout rest)
tmout_check tmout = either _ (stops e_par refl) passes

-- ---- one check behind another

module _ {f g : ℤ → ℤ} (a : Check f) (b : Check g) where
  pub behind : Check (λ rest. f (g rest))
  behind = record { then = λ rest. a.then (g rest) ∙ inner rest }
    where
      inner : (rest : ℤ) → choose (non_neg (f e_ok)) (g rest) (f e_ok) ≡ choose (non_neg (f (g e_ok))) rest (f (g e_ok))
      inner rest =
          ⊎_elim
          (λ (p : non_neg (f e_ok) ≡ true).
          let same : f (g e_ok) ≡ g e_ok = a.then (g e_ok) ∙ if_yes (g e_ok) (f e_ok) p in
          if_yes (g rest) (f e_ok) p ∙ b.then rest ∙ sym (ap (λ (z : ℤ). choose (non_neg z) rest z) same))
          (λ (p : non_neg (f e_ok) ≡ false).
          let same : f (g e_ok) ≡ f e_ok = a.then (g e_ok) ∙ if_no (g e_ok) (f e_ok) p in
          if_no (g rest) (f e_ok) p ∙ sym (if_no rest (f e_ok) p) ∙ sym (ap (λ (z : ℤ). choose (non_neg z) rest z) same))
          (tested (non_neg (f e_ok)))

  -- the code of both, from that of the first
  pub both_code : (x y : ℤ) → x ≡ f e_ok → y ≡ choose (non_neg x) (g e_ok) x → y ≡ f (g e_ok)
  both_code x y p q = q ∙ ap (λ (z : ℤ). choose (non_neg z) (g e_ok) z) p ∙ sym (a.then (g e_ok))

-- what follows counts exactly where a check refuses nothing
module _ {f : ℤ → ℤ} (a : Check f) {x : ℤ} (is : x ≡ f e_ok) (rest : ℤ) where
  pub refused_first : non_neg x ≡ false → x ≡ f rest
  refused_first n = sym (a.then rest ∙ ap (λ (z : ℤ). choose (non_neg z) rest z) (sym is) ∙ if_no rest x n)

  pub passed_first : non_neg x ≡ true → f rest ≡ rest
  passed_first n = a.then rest ∙ ap (λ (z : ℤ). choose (non_neg z) rest z) (sym is) ∙ if_yes rest x n

-- checks that refuse nothing leave what follows to count
pub then_passed : {f : ℤ → ℤ} → Check f → (rest : ℤ) → non_neg (f rest) ≡ true → non_neg rest ≡ true
then_passed {f} c rest p =
    ⊎_elim (λ (e : non_neg (f e_ok) ≡ true). subst (λ (z : ℤ). non_neg z ≡ true) (c.then rest ∙ if_yes rest (f e_ok) e) p)
    (λ (e : non_neg (f e_ok) ≡ false). never (subst (λ (z : ℤ). non_neg z ≡ true) (c.then rest ∙ if_no rest (f e_ok) e) p) e)
    (tested (non_neg (f e_ok)))

-- a create that nothing refuses has counts that are allowed
pub cre_counts : (t : Tables) (list : List ℕ) (caller semid sematr : ℕ) (isemcnt maxsem : ℤ)
    → non_neg (cre_refusal t list caller semid sematr isemcnt maxsem) ≡ true → counts_allowed isemcnt maxsem ≡ true
unfolding cre_refusal
cre_counts t list caller semid sematr isemcnt maxsem p =
    choose_cases P _ _ _
    (λ e. choose_cases P _ _ _ (λ e. choose_cases P _ _ _ (λ e n. e) (λ e n. absurd (false≢true n))) (λ e n. absurd (false≢true n)))
    (λ e n. absurd (false≢true n))
    (then_passed {f = λ r. task_only t caller (in_range t semid r)} (behind (task_check t caller) (range_check t semid)) _ p)
  where
    P : ℤ → Type 0
    P z = non_neg z ≡ true → counts_allowed isemcnt maxsem ≡ true

-- ---- sematr

pub sematr_known : (sematr : ℕ) → sematr ≤ 1 → (eqb sematr 0 or eqb sematr 1) ≡ true
sematr_known sematr h =
    ⊎_elim (λ (e : eqb sematr 0 ≡ true). or_first (eqb sematr 0) (eqb sematr 1) e)
    (λ (e : eqb sematr 0 ≡ false). or_second (eqb sematr 0) (eqb sematr 1) (eq-eqb sematr 1 (omega (arith, eqb-false sematr 0 e))))
    (tested (eqb sematr 0))

pub sematr_other : (sematr : ℕ) → 1 < sematr → (eqb sematr 0 or eqb sematr 1) ≡ false
sematr_other sematr h = if_no true (eqb sematr 1) (ne_eqb sematr 0 (λ e. absurd (omega arith))) ∙ ne_eqb sematr 1 (λ e. absurd (omega arith))
