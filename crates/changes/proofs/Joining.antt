-- The flagged tasks join the end of the sequence of ready tasks.
use mathlib.Core.Path.{◌≡◌, refl, sym, ap, ap₂, ◌∙◌}
use mathlib.Core.Bool.{Bool, true, false}
use mathlib.Core.List.{List, [], ◌∷◌, ◌++◌, map, append_assoc, append-nil}
use Prim.Native.Nat.{ℕ, zero, suc, ◌+◌, ◌≤◌, ◌<◌}
use native.Mathlib.Numerals.{add-one}
use native.Mathlib.Omega.{arith}
use lib.ListN.{length, get_or, drop, length-append, length-map}
use lib.Seq.{drop-cons, drop-length}
use Rattle.laws.specs.Choose.{choose}
use Rattle.laws.specs.Rows.{fit}
use Rattle.rules.specs.declared.Task.{Task}
use Rattle.rules.specs.Machine.{Tables, with_ready}
use Rattle.rules.specs.Calls.{expires, timed_out}
use Rattle.tables.specs.Layout.{laid}
use Rattle.changes.specs.Tick.{expiring, flagged}

flags_timed_out : (vs : List Task) (q : ℕ) → flagged (map (λ v. expires v) vs) q ≡ timed_out vs q
unfolding flagged timed_out
flags_timed_out [] q = refl
flags_timed_out (v ∷ vs) q = ap (λ (r : List ℕ). choose (expires v) (q ∷ r) r) (flags_timed_out vs (suc q))

no_flags : (n q : ℕ) → flagged (fit n false []) q ≡ []
unfolding flagged fit choose
no_flags zero q = refl
no_flags (suc n) q = no_flags n (suc q)

flags_fit : (n : ℕ) (bs : List Bool) (q : ℕ) → length bs ≤ n → flagged (fit n false bs) q ≡ flagged bs q
unfolding flagged fit
flags_fit n [] q h = no_flags n q
flags_fit zero (b ∷ bs) q h = absurd (omega arith)
flags_fit (suc n) (b ∷ bs) q h = ap (λ (r : List ℕ). choose b (q ∷ r) r) (flags_fit n bs (suc q) (omega arith))

pub expiring_timed_out : (t : Tables) → length t.tasks ≤ 32 → flagged (expiring t) 1 ≡ timed_out t.tasks 1
unfolding expiring
expiring_timed_out t h = flags_fit 32 (map (λ v. expires v) t.tasks) 1 (simp length-map (omega arith)) ∙ flags_timed_out t.tasks 1

-- with the flags before i gone through: the sequence, and what is still to join it
pub record JoinedAt (m : List ℕ) (flags : List Bool) (t : Tables) (i : ℕ) : Type 0 where
  pub sequence : List ℕ
  pub same : m ≡ laid (with_ready t sequence)
  pub rest : sequence ++ flagged (drop i flags) (suc i) ≡ t.ready ++ flagged flags 1

abbrev pub Joined : List ℕ → List Bool → List ℕ → ℕ → Type 0
Joined m₀ flags m i = (t : Tables) → m₀ ≡ laid t → length t.ready + length (flagged flags 1) ≤ 32 → JoinedAt m flags t i

pub joined_none : (m₀ : List ℕ) (flags : List Bool) → Joined m₀ flags m₀ 0
joined_none m₀ flags t e h = record { sequence = t.ready; same = e; rest = refl }

module _ (m₀ : List ℕ) (flags : List Bool) (m : List ℕ) (i : ℕ) (l : i < length flags) (j : Joined m₀ flags m i) where
  flags_next : (b : Bool) → get_or flags i false ≡ b → flagged (drop i flags) (suc i) ≡ flagged (b ∷ drop (i + 1) flags) (suc i)
  flags_next b e = ap (λ (bs : List Bool). flagged bs (suc i)) (drop-cons flags i false l ∙ ap₂ (λ (c : Bool) (k : ℕ). c ∷ drop k flags) e (sym (add-one i)))

  pub joined_not : get_or flags i false ≡ false → Joined m₀ flags m (i + 1)
  unfolding flagged choose
  joined_not e t is h =
      let before : JoinedAt m flags t i = j t is h in
      record {
        sequence = before.sequence;
        same = before.same;
        rest = rw add-one (ap (λ (r : List ℕ). before.sequence ++ r) (sym (rw add-one at (flags_next false e))) ∙ before.rest);
      }

  pub joined_more : (m' : List ℕ) → get_or flags i false ≡ true
      → ((t : Tables) → m ≡ laid t → length t.ready < 32 → m' ≡ laid (with_ready t (t.ready ++ (i + 1) ∷ [])))
      → Joined m₀ flags m' (i + 1)
  unfolding flagged choose
  joined_more m' e add t is h =
      let before : JoinedAt m flags t i = j t is h in
      let whole : before.sequence ++ (i + 1) ∷ flagged (drop (i + 1) flags) (suc (i + 1)) ≡ t.ready ++ flagged flags 1 =
      rw add-one (ap (λ (r : List ℕ). before.sequence ++ r) (sym (rw add-one at (flags_next true e))) ∙ before.rest)
      in
      let few : length before.sequence < 32 = omega (arith, simp length-append at (ap length whole)) in
      record {
        sequence = before.sequence ++ (i + 1) ∷ [];
        same = add (with_ready t before.sequence) before.same few;
        rest = append_assoc before.sequence ((i + 1) ∷ []) _ ∙ whole;
      }

pub joined_all : (m₀ : List ℕ) (flags : List Bool) (m : List ℕ) (i : ℕ) → i ≡ length flags → Joined m₀ flags m i
    → (t : Tables) → m₀ ≡ laid t → length t.ready + length (flagged flags 1) ≤ 32 → m ≡ laid (with_ready t (t.ready ++ flagged flags 1))
unfolding flagged
joined_all m₀ flags m i e j t is h =
    let end : JoinedAt m flags t i = j t is h in
    let all : end.sequence ≡ t.ready ++ flagged flags 1 = sym (append-nil end.sequence) ∙ (rw (e, drop-length flags) at end.rest) in
    end.same ∙ ap (λ (qs : List ℕ). laid (with_ready t qs)) all
