-- Scripts, sections and steps found by their places.
use Rattle.std.proofs.Common.{◌≡◌, ℕ, zero, suc, ◌+◌, ◌/◌, ◌<◌, ◌≤◌, Bool, true, false, eqb, cond, List, [], ◌∷◌, length, get_or, drop, add-one, length-drop, Some, None, sym, refl, subst, ap, ◌∙◌, arith}
use Rattle.std.specs.Prelude.{Option, find, option_map}
use Rattle.std.specs.List.{enumerate_from}
use Rattle.laws.specs.Choose.{choose}
use Rattle.laws.proofs.Fit.{length_tabulate}
use Rattle.sections.specs.Scripts.{Script, script_at, index_of}
use Rattle.encoding.specs.declared.rows.Row.{Row}
use Rattle.encoding.specs.declared.rows.Row.TheVariants.{Script as BeginsScript, Section as BeginsSection, Step as Steps}
use Rattle.encoding.specs.declared.scripts.Script.{Script as ScriptFound}
use Rattle.encoding.specs.Rows.{row_at, rows_of, scripts_from, scripts_of}
use Rattle.encoding.specs.Left.{script_from, ScriptOf}

-- ---- what is left of a list

module _ {A : Type 0} (d : A) where
  -- the first of what is left
  pub left_first : (xs : List A) (i : ℕ) {x : A} {ys : List A} → drop i xs ≡ x ∷ ys → (i < length xs) × (get_or xs i d ≡ x) × (drop (i + 1) xs ≡ ys)
  left_first [] zero e = let z : ◌≡◌ {A = ℕ} 0 1 = cc in absurd (omega arith)
  left_first [] (suc i) e = let z : ◌≡◌ {A = ℕ} 0 1 = cc in absurd (omega arith)
  left_first (x ∷ xs) zero e = (omega arith, cc, cc)
  left_first (x ∷ xs) (suc i) e = let r = left_first xs i e in (omega (arith, r.0), r.1, rw add-one (rw add-one at r.2))

  pub left_none : (xs : List A) (i : ℕ) → drop i xs ≡ [] → length xs ≤ i
  left_none xs i e = omega (arith, ap length e, length-drop i xs)

-- ---- how many scripts

few_from : (rs : List Row) → length (scripts_from rs) ≤ length rs
unfolding scripts_from
few_from [] = omega arith
few_from (BeginsScript task ∷ rs) = omega (arith, few_from rs)
few_from (BeginsSection id options timeout ∷ rs) = omega (arith, few_from rs)
few_from (Steps step ∷ rs) = omega (arith, few_from rs)

pub scripts_few : (ns : List ℕ) → length (scripts_of ns) ≤ length ns / 4
unfolding rows_of
scripts_few ns = omega (arith, few_from (rows_of ns), length_tabulate (length ns / 4) (row_at ns))

-- ---- a task's script

-- what a search among scripts numbered from n on finds
abbrev Sought : (n index : ℕ) → List Script → Option (ℕ × Script) → Type 0
Sought n index scripts None = index ≡ length scripts
Sought n index scripts (Some (i, s)) = (i ≡ n + index) × (index < length scripts) × (script_at scripts index ≡ s)

sought_later : (n index : ℕ) (x : Script) (ss : List Script) (r : Option (ℕ × Script)) → Sought (n + 1) index ss r → Sought n (suc index) (x ∷ ss) r
sought_later n index x ss None e = ap suc e
sought_later n index x ss (Some (i, s)) e = (omega (arith, e.0), omega (arith, e.1), e.2)

sought : (q n : ℕ) (scripts : List Script) → Sought n (index_of q scripts) scripts (find (λ p. eqb p.1.task q) (enumerate_from n scripts))
unfolding index_of choose
sought q n [] = refl
sought q n (x ∷ ss) = either (sought q (n + 1) ss) (eqb x.task q)
  where
    either : Sought (n + 1) (index_of q ss) ss (find (λ p. eqb p.1.task q) (enumerate_from (n + 1) ss)) → (b : Bool) → Sought n (choose b 0 (suc (index_of q ss))) (x ∷ ss) (cond b (Some (n, x)) (find (λ p. eqb p.1.task q) (enumerate_from (n + 1) ss)))
    either later true = (omega arith, omega arith, refl)
    either later false = sought_later n (index_of q ss) x ss _ later

abbrev pub numbered : ℕ × ScriptFound → ℕ × Script
numbered p = (p.0, script_from p.1)

pub script_found : (scripts : List Script) (q : ℕ) (r : Option (ℕ × ScriptFound))
    → option_map numbered r ≡ find (λ p. eqb p.1.task q) (enumerate_from 0 scripts) → ScriptOf scripts q r
script_found scripts q r e = shown r (subst (Sought 0 (index_of q scripts) scripts) (sym e) (sought q 0 scripts))
  where
    shown : (r : Option (ℕ × ScriptFound)) → Sought 0 (index_of q scripts) scripts (option_map numbered r) → ScriptOf scripts q r
    shown None s = s
    shown (Some (i, s)) f =
        let at : i ≡ index_of q scripts = omega (arith, f.0) in
        (at, omega (arith, at, f.1), ap (script_at scripts) at ∙ f.2)
