-- The plain run of the grants so far is the present memory after the open sections, in the order of their grants, have taken what is left of them.
use mathlib.Core.Path.{◌≡◌, refl, sym, subst, ap, ◌∙◌}
use mathlib.Core.Bool.{Bool, true, false}
use mathlib.Core.List.{List, [], ◌∷◌, ◌++◌, append-nil}
use mathlib.Core.Logic.{◌⊎◌, ⊎_elim, ◌≢◌}
use Prim.Native.Nat.{ℕ, suc, pred, ◌+◌, ◌≤◌, ◌<◌}
use native.Mathlib.Omega.{arith}
use native.Mathlib.Decide.{ℕ_discrete, dec_lt}
use lib.Dec.{leb, eqb}
use lib.ListN.{length, get_or, drop, length-set, drop_of_length-le, get_or-eq_default}
use lib.Seq.{get_or-set_same, get_or-set_other, drop-cons}
use borrow.Author.Tests.{eqb-true, eq-eqb, ne_eqb, le-leb, lt-leb}
use Rattle.laws.specs.Choose.{choose, ◌and◌, bit}
use Rattle.laws.specs.Rows.{tabulate, rows}
use Rattle.laws.proofs.Choose.{choose_cases, and_both, both_and, tested, never, if_yes, if_no}
use Rattle.rules.proofs.Invariants.Lists.{bit_yes, bit_no}
use Rattle.sections.specs.Scripts.{Step, Script, Memory, Grant, script_at, section_at, index_of, steps_of, do_step, do_steps, plain}
use Rattle.sections.specs.Scripts.Step.{NoStep}
use Rattle.sections.specs.Run.{Place, at, State, place_at, moved, grant_if}
use Rattle.sections.proofs.Finishing.{is_grant, grant_is, times, times_append, finish, plain_finish, finish_append, finish_same, finish_step}
use Rattle.sections.proofs.Indices.{index_task, some_or_none, rows_none, rows_one}

abbrev pub grant_of : List Script → ℕ → ℕ → Grant
grant_of scripts i k = record { task = (script_at scripts i).task; section = k }

-- the steps that a grant has left at a place of its script: none unless it is open there
abbrev pub is_open_at : ℕ → Place → Bool
is_open_at k p = eqb k p.section and leb 1 p.position

abbrev pub rest_at : List Script → Grant → Place → List Step
rest_at scripts g p = choose (is_open_at g.section p) (drop (pred p.position) (steps_of scripts g)) []

abbrev pub rest_of : List Script → State → Grant → List Step
rest_of scripts s g = rest_at scripts g (place_at s (index_of g.task scripts))

pub record Serial (scripts : List Script) (m : Memory) (s : State) : Type 0 where
  pub many : length s.places ≡ length scripts
  -- an open section is granted once, a later one not yet
  pub counts : (i : ℕ) → i < length scripts → (k : ℕ) → (place_at s i).section ≤ k → times (grant_of scripts i k) s.grants ≡ bit (is_open_at k (place_at s i))
  pub serial : plain scripts s.grants m ≡ finish (rest_of scripts s) s.grants s.memory

pub closed : (k : ℕ) (p : Place) → p.position ≡ 0 → is_open_at k p ≡ false
closed k p e =
    choose_cases (λ (b : Bool). b ≡ false) (eqb k p.section) _ false (λ z. lt-leb 1 p.position (omega arith)) (λ z. refl)

pub elsewhere : (k : ℕ) (p : Place) → k ≢ p.section → is_open_at k p ≡ false
elsewhere k p n = if_no _ _ (ne_eqb k p.section n)

-- a script stays at its place, passes a section with nothing left to do, or enters one
pub data Move (steps : List Step) (p p' : Place) (b : Bool) : Type 0 where
  stays : p' ≡ p → b ≡ false → Move steps p p' b
  passes : p' ≡ at (suc p.section) 0 → b ≡ false → (p.position ≡ 0) ⊎ (length steps ≤ pred p.position) → Move steps p p' b
  enters : p' ≡ at p.section 1 → b ≡ true → p.position ≡ 0 → Move steps p p' b

module _ (scripts : List Script) (single : (i : ℕ) → i < length scripts → index_of (script_at scripts i).task scripts ≡ i) (m : Memory) (s : State)
    (I : Serial scripts m s) where
  abbrev N : ℕ
  N = length scripts

  -- two scripts of one task are one
  pub same_script : (i j : ℕ) → i < N → j < N → (script_at scripts i).task ≡ (script_at scripts j).task → i ≡ j
  same_script i j h l e = sym (single i h) ∙ ap (λ (q : ℕ). index_of q scripts) e ∙ single j l

  -- ---- scripts move, and at most one enters a section

  module _ (s' : State) (memory : s'.memory ≡ s.memory) (many' : length s'.places ≡ N) (b : ℕ → Bool)
      (moves : (i : ℕ) → i < N → Move (section_at (script_at scripts i) (place_at s i).section).steps (place_at s i) (place_at s' i) (b i))
      (grants : s'.grants ≡ s.grants ++ rows (tabulate N (λ i. grant_if (b i) (script_at scripts i).task (place_at s i).section)))
      (one : (i k : ℕ) → i < N → k < N → b i ≡ true → b k ≡ true → i ≡ k) where
    rest_moved : (g : Grant) (i : ℕ) → i ≡ index_of g.task scripts
        → Move (section_at (script_at scripts i) (place_at s i).section).steps (place_at s i) (place_at s' i) (b i)
        → (b i ≡ true → g.section ≢ (place_at s i).section) → rest_at scripts g (place_at s i) ≡ rest_at scripts g (place_at s' i)
    rest_moved g i is (stays e n) new = ap (rest_at scripts g) (sym e)
    rest_moved g i is (passes e n left) new = gone ∙ sym (ap (rest_at scripts g) e ∙ if_no _ _ (closed g.section (at (suc (place_at s i).section) 0) refl))
      where
        gone : rest_at scripts g (place_at s i) ≡ []
        gone =
            choose_cases (λ (l : List Step). l ≡ []) (is_open_at g.section (place_at s i)) _ []
            (λ z.
            ⊎_elim (λ (first : (place_at s i).position ≡ 0). never z (closed g.section (place_at s i) first))
            (λ (done : length (section_at (script_at scripts i) (place_at s i).section).steps ≤ pred (place_at s i).position).
            drop_of_length-le (steps_of scripts g)
            (subst (λ (j : ℕ). length (section_at (script_at scripts j) g.section).steps ≤ pred (place_at s i).position) is
            (subst (λ (k : ℕ). length (section_at (script_at scripts i) k).steps ≤ pred (place_at s i).position) (sym (eqb-true _ _ (and_both _ _ z).0)) done)))
            left)
            (λ z. refl)
    rest_moved g i is (enters e y first) new =
        if_no _ _ (closed g.section (place_at s i) first)
        ∙ sym (ap (rest_at scripts g) e ∙ if_no _ _ (elsewhere g.section (at (place_at s i).section 1) (new y)))

    rest_same : (g : Grant) → (index_of g.task scripts < N → b (index_of g.task scripts) ≡ true
        → g.section ≢ (place_at s (index_of g.task scripts)).section) → rest_of scripts s g ≡ rest_of scripts s' g
    rest_same g new =
        elim (dec_lt (index_of g.task scripts) N) [
          | yes h ↦ rest_moved g (index_of g.task scripts) refl (moves _ h) (new h)
          | no n ↦ ap (rest_at scripts g) (beyond s I.many n ∙ sym (beyond s' many' n))
        ]
      where
        beyond : (u : State) → length u.places ≡ N → ¬ (index_of g.task scripts < N) → place_at u (index_of g.task scripts) ≡ at 0 0
        beyond u e n = get_or-eq_default u.places (at 0 0) (omega arith)

    -- a script that enters nothing
    counts_moved : (i : ℕ) → i < N → b i ≡ false → (k : ℕ) → (place_at s' i).section ≤ k
        → Move (section_at (script_at scripts i) (place_at s i).section).steps (place_at s i) (place_at s' i) (b i)
        → times (grant_of scripts i k) s.grants ≡ bit (is_open_at k (place_at s' i))
    counts_moved i h n k l (stays e z) = subst (λ (p : Place). p.section ≤ k → times (grant_of scripts i k) s.grants ≡ bit (is_open_at k p)) (sym e)
        (I.counts i h k) l
    counts_moved i h n k l (passes e z left) =
        let past : suc (place_at s i).section ≤ k = subst (λ (p : Place). p.section ≤ k) e l in
        I.counts i h k (omega arith) ∙ bit_no _ (elsewhere k (place_at s i) (λ w. omega arith))
        ∙ sym (ap (λ (p : Place). bit (is_open_at k p)) e ∙ bit_no _ (closed k (at (suc (place_at s i).section) 0) refl))
    counts_moved i h n k l (enters e y first) = never y n

    -- nobody enters
    none_entered : ((i : ℕ) → i < N → b i ≡ false) → Serial scripts m s'
    none_entered none =
        record {
          many = many';
          counts = λ i h k l. ap (times (grant_of scripts i k)) same ∙ counts_moved i h (none i h) k l (moves i h);
          serial =
              ap (λ (gs : List Grant). plain scripts gs m) same ∙ I.serial
              ∙ finish_same (rest_of scripts s) (rest_of scripts s') s.grants s.memory (λ g t. rest_same g (λ h y. never y (none _ h)))
              ∙ sym (ap (λ (gs : List Grant). finish (rest_of scripts s') gs s'.memory) same ∙ ap (finish (rest_of scripts s') s.grants) memory);
        }
      where
        same : s'.grants ≡ s.grants
        same = grants ∙ ap (λ (gs : List Grant). s.grants ++ gs) (rows_none N b (λ i. grant_of scripts i (place_at s i).section) none) ∙ append-nil s.grants

    -- script j enters
    one_entered : (j : ℕ) → j < N → b j ≡ true → Serial scripts m s'
    one_entered j h y =
        record {
          many = many';
          counts = λ i l k v. ap (times (grant_of scripts i k)) more ∙ times_append (grant_of scripts i k) g s.grants ∙ count i l k v;
          serial =
              ap (λ (gs : List Grant). plain scripts gs m) more ∙ plain_finish scripts (s.grants ++ g ∷ []) m ∙ finish_append (steps_of scripts) s.grants g m
              ∙ ap (do_steps g.task (steps_of scripts g))
              (sym (plain_finish scripts s.grants m) ∙ I.serial ∙ finish_same (rest_of scripts s) (rest_of scripts s') s.grants s.memory kept)
              ∙ ap (λ (ss : List Step). do_steps g.task ss (finish (rest_of scripts s') s.grants s.memory)) (sym whole)
              ∙ sym (finish_append (rest_of scripts s') s.grants g s.memory)
              ∙ sym (ap (λ (gs : List Grant). finish (rest_of scripts s') gs s'.memory) more ∙ ap (finish (rest_of scripts s') (s.grants ++ g ∷ [])) memory);
        }
      where
        g : Grant
        g = grant_of scripts j (place_at s j).section

        more : s'.grants ≡ s.grants ++ g ∷ []
        more = grants ∙ ap (λ (gs : List Grant). s.grants ++ gs)
            (rows_one N b (λ i. grant_of scripts i (place_at s i).section) j h y (λ i l t. one i j l h t y))

        entered : (place_at s' j ≡ at (place_at s j).section 1) × ((place_at s j).position ≡ 0)
        entered = go (moves j h)
          where
            go : Move (section_at (script_at scripts j) (place_at s j).section).steps (place_at s j) (place_at s' j) (b j)
                → (place_at s' j ≡ at (place_at s j).section 1) × ((place_at s j).position ≡ 0)
            go (stays e n) = never y n
            go (passes e n left) = never y n
            go (enters e z first) = (e, first)

        -- it was not granted before
        new : times g s.grants ≡ 0
        new = I.counts j h (place_at s j).section (omega arith) ∙ bit_no _ (closed _ (place_at s j) entered.1)

        kept : (k : Grant) → 1 ≤ times k s.grants → rest_of scripts s k ≡ rest_of scripts s' k
        kept k t =
            rest_same k
            (λ l z e.
            let same : index_of k.task scripts ≡ j = one (index_of k.task scripts) j l h z y in
            let who : k.task ≡ (script_at scripts j).task = sym (index_task k.task scripts l) ∙ ap (λ (i : ℕ). (script_at scripts i).task) same in
            let what : k.section ≡ (place_at s j).section = e ∙ ap (λ (i : ℕ). (place_at s i).section) same in
            let it : k ≡ g = grant_is k g (both_and (eq-eqb _ _ who) (eq-eqb _ _ what)) in
            let some : 1 ≤ times g s.grants = subst (λ (z : Grant). 1 ≤ times z s.grants) it t in
            omega (arith, new))

        whole : rest_of scripts s' g ≡ steps_of scripts g
        whole =
            ap (λ (i : ℕ). rest_at scripts g (place_at s' i)) (single j h) ∙ ap (rest_at scripts g) entered.0
            ∙ if_yes _ _ (both_and (eq-eqb (place_at s j).section (place_at s j).section refl) refl)

        count : (i : ℕ) → i < N → (k : ℕ) → (place_at s' i).section ≤ k
            → times (grant_of scripts i k) s.grants + bit (is_grant (grant_of scripts i k) g) ≡ bit (is_open_at k (place_at s' i))
        count i l k v =
            elim (ℕ_discrete i j) [
              | yes e ↦ subst (λ (n : ℕ). (place_at s' n).section ≤ k
                  → times (grant_of scripts n k) s.grants + bit (is_grant (grant_of scripts n k) g) ≡ bit (is_open_at k (place_at s' n))) (sym e) here v
              | no n ↦
                  let apart : is_grant (grant_of scripts i k) g ≡ false =
                  ⊎_elim (λ (z : is_grant (grant_of scripts i k) g ≡ true). absurd
                  (n (same_script i j l h (ap (λ (q : Grant). q.task) (grant_is (grant_of scripts i k) g z)))))
                  (λ (z : is_grant (grant_of scripts i k) g ≡ false). z)
                  (tested (is_grant (grant_of scripts i k) g)) in
                  let idle : b i ≡ false = ⊎_elim (λ (z : b i ≡ true). absurd (n (one i j l h z y))) (λ (z : b i ≡ false). z) (tested (b i)) in
                  omega (arith, bit_no _ apart, counts_moved i l idle k v (moves i l))
            ]
          where
            here : (place_at s' j).section ≤ k → times (grant_of scripts j k) s.grants + bit (is_grant (grant_of scripts j k) g) ≡ bit (is_open_at k (place_at s' j))
            here w =
                let low : (place_at s j).section ≤ k = subst (λ (p : Place). p.section ≤ k) entered.0 w in
                let none : times (grant_of scripts j k) s.grants ≡ 0 = I.counts j h k low ∙ bit_no _ (closed k (place_at s j) entered.1) in
                let is : is_grant (grant_of scripts j k) g ≡ is_open_at k (place_at s' j) = agree in
                omega (arith, ap bit is)
              where
                agree : is_grant (grant_of scripts j k) g ≡ is_open_at k (place_at s' j)
                agree =
                    if_yes _ _ (eq-eqb g.task g.task refl)
                    ∙ sym (ap (is_open_at k) entered.0
                    ∙ choose_cases (λ (z : Bool). z ≡ eqb k (place_at s j).section) (eqb k (place_at s j).section) true false (λ e. sym e) (λ e. sym e))

    pub all_moved : Serial scripts m s'
    all_moved = ⊎_elim (λ (k : (k : ℕ) × (k < N) × (b k ≡ true)). one_entered k.0 k.1 k.2) (λ (f : (i : ℕ) → i < N → b i ≡ false). none_entered f)
        (some_or_none N b)

  -- ---- an open section takes a step

  module _ (i : ℕ) (h : i < N) (inside : 1 ≤ (place_at s i).position)
      (more : (place_at s i).position ≤ length (section_at (script_at scripts i) (place_at s i).section).steps) where
    abbrev mine : Grant
    mine = grant_of scripts i (place_at s i).section

    abbrev step : Step
    step = get_or (section_at (script_at scripts i) (place_at s i).section).steps (pred (place_at s i).position) NoStep

    abbrev after : State
    after = moved s i (at (place_at s i).section (suc (place_at s i).position)) (do_step (script_at scripts i).task step s.memory)

    pub step_taken : ((g : Grant) → g ≢ mine → (k : Memory)
        → do_steps g.task (rest_of scripts s g) (do_step mine.task step k) ≡ do_step mine.task step (do_steps g.task (rest_of scripts s g) k))
        → Serial scripts m after
    unfolding do_steps
    step_taken commutes =
        record {
          many = length-set s.places i (at (place_at s i).section (suc (place_at s i).position)) ∙ I.many;
          counts = counts';
          serial = I.serial ∙ finish_step (rest_of scripts s) (rest_of scripts after) mine step first same commutes s.grants s.memory once;
        }
      where
        place_here : place_at after i ≡ at (place_at s i).section (suc (place_at s i).position)
        place_here = get_or-set_same s.places i _ (at 0 0) (omega (arith, I.many))

        place_other : (j : ℕ) → j ≢ i → place_at after j ≡ place_at s j
        place_other j n = get_or-set_other s.places i j _ (at 0 0) n

        steps : List Step
        steps = (section_at (script_at scripts i) (place_at s i).section).steps

        own : steps_of scripts mine ≡ steps
        own = ap (λ (j : ℕ). (section_at (script_at scripts j) (place_at s i).section).steps) (single i h)

        rest_of_lem : (u : State) (p : Place) → place_at u i ≡ p → is_open_at (place_at s i).section p ≡ true → rest_of scripts u mine ≡ drop (pred p.position) steps
        rest_of_lem u p e z =
            ap (λ (j : ℕ). rest_at scripts mine (place_at u j)) (single i h) ∙ ap (rest_at scripts mine) e ∙ if_yes _ _ z ∙ ap (drop (pred p.position)) own

        open_here : (n : ℕ) → 1 ≤ n → is_open_at (place_at s i).section (at (place_at s i).section n) ≡ true
        open_here n l = both_and (eq-eqb (place_at s i).section (place_at s i).section refl) (le-leb 1 n l)

        once : times mine s.grants ≡ 1
        once = I.counts i h (place_at s i).section (omega arith) ∙ bit_yes _ (open_here (place_at s i).position inside)

        first : (k : Memory) → do_steps mine.task (rest_of scripts s mine) k ≡ do_steps mine.task (rest_of scripts after mine) (do_step mine.task step k)
        first k =
            ap (λ (ss : List Step). do_steps mine.task ss k)
            (rest_of_lem s (place_at s i) refl (open_here (place_at s i).position inside) ∙ drop-cons steps (pred (place_at s i).position) NoStep (omega arith)
            ∙ ap (λ (n : ℕ). step ∷ drop n steps) here)
            ∙ ap (λ (ss : List Step). do_steps mine.task ss (do_step mine.task step k))
            (sym (rest_of_lem after _ place_here (open_here (suc (place_at s i).position) (omega arith))))
          where
            here : suc (pred (place_at s i).position) ≡ (place_at s i).position
            here = omega arith

        same : (g : Grant) → g ≢ mine → rest_of scripts s g ≡ rest_of scripts after g
        same g n =
            elim (ℕ_discrete (index_of g.task scripts) i) [
              | yes e ↦
                  let k : g.section ≢ (place_at s i).section = λ z. n
                  (grant_is g mine (both_and (eq-eqb _ _ (sym (index_task g.task scripts (omega arith)) ∙ ap (λ (j : ℕ). (script_at scripts j).task) e))
                  (eq-eqb _ _ z))) in
                  ap (λ (j : ℕ). rest_at scripts g (place_at s j)) e ∙ if_no _ _ (elsewhere g.section (place_at s i) k)
                  ∙ sym (ap (λ (j : ℕ). rest_at scripts g (place_at after j)) e ∙ ap (rest_at scripts g) place_here
                  ∙ if_no _ _ (elsewhere g.section (at (place_at s i).section (suc (place_at s i).position)) k))
              | no d ↦ ap (rest_at scripts g) (sym (place_other (index_of g.task scripts) d))
            ]

        counts' : (j : ℕ) → j < N → (k : ℕ) → (place_at after j).section ≤ k → times (grant_of scripts j k) s.grants ≡ bit (is_open_at k (place_at after j))
        counts' j l k v =
            elim (ℕ_discrete j i) [
              | yes e ↦ subst (λ (n : ℕ). (place_at after n).section ≤ k → times (grant_of scripts n k) s.grants ≡ bit (is_open_at k (place_at after n)))
                  (sym e) here v
              | no n ↦ subst (λ (p : Place). p.section ≤ k → times (grant_of scripts j k) s.grants ≡ bit (is_open_at k p)) (sym (place_other j n))
                  (I.counts j l k) v
            ]
          where
            here : (place_at after i).section ≤ k → times (grant_of scripts i k) s.grants ≡ bit (is_open_at k (place_at after i))
            here w =
                I.counts i h k (subst (λ (p : Place). p.section ≤ k) place_here w)
                ∙ ap (λ (z : Bool). bit (eqb k (place_at s i).section and z)) (le-leb 1 (place_at s i).position inside)
                ∙ sym (ap (λ (p : Place). bit (is_open_at k p)) place_here
                ∙ ap (λ (z : Bool). bit (eqb k (place_at s i).section and z)) (le-leb 1 (suc (place_at s i).position) (omega arith)))
