-- Steps of two tasks in sections of two identifiers touch different cells and locals, so that either may go first.
use mathlib.Core.Path.{◌≡◌, refl, sym, ap, ap₂, ◌∙◌}
use mathlib.Core.Bool.{true, false≢true}
use mathlib.Core.List.{List, [], ◌∷◌}
use mathlib.Core.Logic.{◌≢◌}
use Prim.Native.Nat.{ℕ, zero, suc, pred, ◌+◌, ◌*◌, ◌%◌, ◌≤◌, ◌<◌}
use native.Mathlib.Nat.{not-suc-le-zero}
use native.Mathlib.Omega.{arith}
use lib.ListN.{length, get_or, set, drop}
use lib.Seq.{set_comm, get_or-set_other}
use borrow.Author.Tests.{eqb-true, ltb-true}
use Rattle.laws.proofs.Choose.{and_both}
use Rattle.sections.specs.Scripts.{Step, Memory, do_step, do_steps}
use Rattle.sections.specs.Scripts.Step.{Load, Store, Set, Add, NoStep}
use Rattle.sections.specs.Refusals.{is_step}
use lib.Dec.{ltb}

-- a cell, or a local of some task, by its place in the memory
data Location : Type 0 where
  Cell : ℕ → Location
  Local : ℕ → Location

abbrev read : Memory → Location → ℕ
read m (Cell c) = get_or m.cells c 0
read m (Local l) = get_or m.locals l 0

abbrev write : Memory → Location → ℕ → Memory
write m (Cell c) n = record { cells = set m.cells c n; locals = m.locals }
write m (Local l) n = record { cells = m.cells; locals = set m.locals l n }

read_other : (m : Memory) (a b : Location) (n : ℕ) → b ≢ a → read (write m a n) b ≡ read m b
read_other m (Cell c) (Cell d) n e = get_or-set_other m.cells c d n 0 (λ s. e (ap Cell s))
read_other m (Cell c) (Local l) n e = refl
read_other m (Local l) (Cell c) n e = refl
read_other m (Local l) (Local k) n e = get_or-set_other m.locals l k n 0 (λ s. e (ap Local s))

write_comm : (m : Memory) (a b : Location) (n k : ℕ) → a ≢ b → write (write m a n) b k ≡ write (write m b k) a n
write_comm m (Cell c) (Cell d) n k e = λ i. record { cells = set_comm m.cells c d n k (λ s. e (ap Cell s)) i; locals = m.locals }
write_comm m (Cell c) (Local l) n k e = refl
write_comm m (Local l) (Cell c) n k e = refl
write_comm m (Local l) (Local j) n k e = λ i. record { cells = m.cells; locals = set_comm m.locals l j n k (λ s. e (ap Local s)) i }

-- what a step writes, the two places that it goes by, and the number
abbrev target : ℕ → Step → Location
target q (Load cell local) = Local (pred q * 8 + local)
target q (Store local cell) = Cell cell
target q (Set local number) = Local (pred q * 8 + local)
target q (Add local other) = Local (pred q * 8 + other)
target q NoStep = Cell 0

abbrev first : ℕ → Step → Location
first q (Load cell local) = Cell cell
first q (Store local cell) = Local (pred q * 8 + local)
first q (Set local number) = Local (pred q * 8 + local)
first q (Add local other) = Local (pred q * 8 + other)
first q NoStep = Cell 0

abbrev second : ℕ → Step → Location
second q (Load cell local) = Cell cell
second q (Store local cell) = Local (pred q * 8 + local)
second q (Set local number) = Local (pred q * 8 + local)
second q (Add local other) = Local (pred q * 8 + local)
second q NoStep = Cell 0

abbrev value : Step → ℕ → ℕ → ℕ
value (Load cell local) a b = a
value (Store local cell) a b = a
value (Set local number) a b = number
value (Add local other) a b = (a + b) % 4294967296
value NoStep a b = a

-- of the identifier's cells, or the task's locals
abbrev Own : List ℕ → ℕ → ℕ → Location → Type 0
Own ids x q (Cell c) = get_or ids c 0 ≡ x
Own ids x q (Local l) = (pred q * 8 ≤ l) × (l < pred q * 8 + 8)

apart : (ids : List ℕ) (x y q r : ℕ) (a b : Location) → x ≢ y → pred q ≢ pred r → Own ids x q a → Own ids y r b → a ≢ b
apart ids x y q r (Cell c) (Cell d) n m o p e = n (sym o ∙ ap (λ (z : Location). read (record { cells = ids; locals = [] }) z) e ∙ p)
apart ids x y q r (Cell c) (Local l) n m o p e = let z : ◌≡◌ {A = ℕ} 0 1 = cc in omega arith
apart ids x y q r (Local l) (Cell c) n m o p e = let z : ◌≡◌ {A = ℕ} 0 1 = cc in omega arith
apart ids x y q r (Local l) (Local k) n m o p e = let z : l ≡ k = cc in omega arith

record Touches (ids : List ℕ) (x q : ℕ) (s : Step) : Type 0 where
  writes : (m : Memory) → do_step q s m ≡ write m (target q s) (value s (read m (first q s)) (read m (second q s)))
  to : Own ids x q (target q s)
  one : Own ids x q (first q s)
  two : Own ids x q (second q s)

module _ (ids : List ℕ) (x q : ℕ) where
  within : (l : ℕ) → ltb l 8 ≡ true → Own ids x q (Local (pred q * 8 + l))
  within l e = let h : l < 8 = ltb-true l 8 e in (omega arith, omega arith)

  touches : (s : Step) → is_step ids x s ≡ true → Touches ids x q s
  unfolding do_step
  touches (Load cell local) e =
      let both = and_both _ _ e in
      let c : get_or ids cell 0 ≡ x = eqb-true _ _ (and_both _ _ both.0).1 in
      record { writes = λ m. refl; to = within local both.1; one = c; two = c }
  touches (Store local cell) e =
      let both = and_both _ _ e in
      record { writes = λ m. refl; to = eqb-true _ _ (and_both _ _ both.1).1; one = within local both.0; two = within local both.0 }
  touches (Set local number) e = record { writes = λ m. refl; to = within local e; one = within local e; two = within local e }
  touches (Add local other) e =
      let both = and_both _ _ e in
      record { writes = λ m. refl; to = within other both.1; one = within other both.1; two = within local both.0 }
  touches NoStep e = absurd (false≢true e)

-- every one is a step of the section
abbrev pub AllSteps : List ℕ → ℕ → List Step → Type 0
AllSteps ids x [] = Unit {0}
AllSteps ids x (s ∷ ss) = (is_step ids x s ≡ true) × AllSteps ids x ss

pub all_steps : (ids : List ℕ) (x : ℕ) (ss : List Step) → ((k : ℕ) → k < length ss → is_step ids x (get_or ss k NoStep) ≡ true) → AllSteps ids x ss
all_steps ids x [] f = tt
all_steps ids x (s ∷ ss) f = (f 0 (omega arith), all_steps ids x ss (λ k h. f (suc k) (omega arith)))

pub steps_at_lem : (ids : List ℕ) (x : ℕ) (ss : List Step) (k : ℕ) → AllSteps ids x ss → k < length ss → is_step ids x (get_or ss k NoStep) ≡ true
steps_at_lem ids x [] k a h = absurd (not-suc-le-zero h)
steps_at_lem ids x (s ∷ ss) zero a h = a.0
steps_at_lem ids x (s ∷ ss) (suc k) a h = steps_at_lem ids x ss k a.1 (omega arith)

pub drop_steps : (ids : List ℕ) (x n : ℕ) (ss : List Step) → AllSteps ids x ss → AllSteps ids x (drop n ss)
drop_steps ids x zero ss a = a
drop_steps ids x (suc n) [] a = tt
drop_steps ids x (suc n) (s ∷ ss) a = drop_steps ids x n ss a.1

module _ (ids : List ℕ) (x y q r : ℕ) (other : x ≢ y) (others : pred q ≢ pred r) where
  steps_commute : (a b : Step) (m : Memory) → is_step ids x a ≡ true → is_step ids y b ≡ true → do_step q a (do_step r b m) ≡ do_step r b (do_step q a m)
  steps_commute a b m e f = late
      ∙ write_comm m (target r b) (target q a) vb va (λ z. apart ids x y q r (target q a) (target r b) other others A.to B.to (sym z)) ∙ sym early
    where
      A : Touches ids x q a
      A = touches ids x q a e

      B : Touches ids y r b
      B = touches ids y r b f

      va : ℕ
      va = value a (read m (first q a)) (read m (second q a))

      vb : ℕ
      vb = value b (read m (first r b)) (read m (second r b))

      late : do_step q a (do_step r b m) ≡ write (write m (target r b) vb) (target q a) va
      late =
          ap (do_step q a) (B.writes m) ∙ A.writes (write m (target r b) vb)
          ∙ ap₂ (λ (n k : ℕ). write (write m (target r b) vb) (target q a) (value a n k))
          (read_other m (target r b) (first q a) vb (apart ids x y q r (first q a) (target r b) other others A.one B.to))
          (read_other m (target r b) (second q a) vb (apart ids x y q r (second q a) (target r b) other others A.two B.to))

      swap : {p s : ℕ} → p ≢ s → s ≢ p
      swap n z = n (sym z)

      early : do_step r b (do_step q a m) ≡ write (write m (target q a) va) (target r b) vb
      early =
          ap (do_step r b) (A.writes m) ∙ B.writes (write m (target q a) va)
          ∙ ap₂ (λ (n k : ℕ). write (write m (target q a) va) (target r b) (value b n k))
          (read_other m (target q a) (first r b) va (apart ids y x r q (first r b) (target q a) (swap other) (swap others) B.one A.to))
          (read_other m (target q a) (second r b) va (apart ids y x r q (second r b) (target q a) (swap other) (swap others) B.two A.to))

  -- a step before or after a list of steps
  pub step_commutes : (a : Step) (bs : List Step) (m : Memory) → is_step ids x a ≡ true → AllSteps ids y bs
      → do_steps r bs (do_step q a m) ≡ do_step q a (do_steps r bs m)
  unfolding do_steps
  step_commutes a [] m e f = refl
  step_commutes a (b ∷ bs) m e f = ap (do_steps r bs) (sym (steps_commute a b m e f.0)) ∙ step_commutes a bs (do_step r b m) e f.1
