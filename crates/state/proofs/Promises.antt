-- What the paper promises of the state file: a write gives one, a read gives the tables back, and nothing else is one.
use mathlib.Core.Path.{◌≡◌, refl, sym, subst, ap, ap₂, ◌∙◌}
use mathlib.Core.Bool.{true}
use mathlib.Core.List.{List}
use mathlib.Core.Logic.{◌↔◌, ◌⊎◌, inl, inr, ⊎_elim}
use Prim.Native.Nat.{ℕ, ◌≤◌}
use native.Mathlib.Omega.{arith}
use native.Mathlib.Decide.{dec_le}
use lib.ListN.{get_or}
use borrow.Author.Tests.{leb-true, eq-eqb}
use Rattle.laws.specs.Choose.{choose}
use Rattle.laws.proofs.Choose.{never, and_both}
use Rattle.words.proofs.WordsInBytes.{Words}
use Rattle.rules.specs.Machine.{Slot, Tables, free_slot}
use Rattle.rules.specs.Agreement.{Agrees}
use Rattle.calls.proofs.Agreeing.{agrees_holds}
use Rattle.state.specs.File.{is_started, first_edition, second_edition, state_numbers, edition_file, state_file}
use Rattle.state.specs.Reading.{tables_in, edition_in, is_edition, is_state, HasFirstMaxima, Gives}
use Rattle.state.proofs.Editions.{Told}
use Rattle.state.proofs.Round.{edition_back, reads_back}
use Rattle.state.proofs.Held.{read_told, file_words}
use Rattle.state.proofs.Exact.{state_of, state_true}

-- ---- the file of agreeing tables, in either edition

module _ (e : ℕ) (f : is_edition e ≡ true) (t : Tables) (a : Agrees t) (told : (i : ℕ) → Told e (get_or t.slots i (free_slot 0))) where
  words : Words (state_numbers e t)
  words = file_words t (agrees_holds t a) e (leb-true e 2 (and_both _ _ f).1)

  -- reading it gives the tables back
  back : tables_in (edition_file e t) ≡ t
  back = reads_back e t words (λ i l. told i)

  -- it is a state file
  valid : is_started t ≡ true → is_state (edition_file e t) ≡ true
  valid s =
      let r = sym back in
      let g = sym (edition_back e t words) in
      state_true (edition_file e t)
      (record {
        edition = subst (λ (n : ℕ). is_edition n ≡ true) g f;
        started = subst (λ (u : Tables). is_started u ≡ true) r s;
        agreed = subst Agrees r a;
        written = ap₂ edition_file g r;
      })

-- edition 2 tells every maximum
all_told : (s : Slot) → Told second_edition s
all_told s y = never y refl

pub written_reads_back : (t : Tables) → Agrees t → tables_in (state_file t) ≡ t
written_reads_back t a = back second_edition (unfold choose in refl) t a (λ i. all_told (get_or t.slots i (free_slot 0)))

pub written_is_state : (t : Tables) → Agrees t → is_started t ≡ true → is_state (state_file t) ≡ true
written_is_state t a = valid second_edition (unfold choose in refl) t a (λ i. all_told (get_or t.slots i (free_slot 0)))

pub first_reads_back : (t : Tables) → Agrees t → HasFirstMaxima t → tables_in (edition_file first_edition t) ≡ t
first_reads_back t a told = back first_edition (unfold choose in refl) t a (λ i y. told i)

pub first_is_state : (t : Tables) → Agrees t → HasFirstMaxima t → is_started t ≡ true → is_state (edition_file first_edition t) ≡ true
first_is_state t a told = valid first_edition (unfold choose in refl) t a (λ i y. told i)

-- ---- what a state file is

module _ (bs : List ℕ) (e : is_state bs ≡ true) where
  pub state_agrees : Agrees (tables_in bs)
  state_agrees = (state_of bs e).agreed

  pub state_started : is_started (tables_in bs) ≡ true
  state_started = (state_of bs e).started

  -- of edition 2 the file of its tables, byte for byte
  pub state_is_written : edition_in bs ≡ second_edition → bs ≡ state_file (tables_in bs)
  state_is_written f = (state_of bs e).written ∙ ap (λ (n : ℕ). edition_file n (tables_in bs)) f

  -- of edition 1 what that edition has of its tables, and the slots have the maxima that it gives
  pub first_is_written : edition_in bs ≡ first_edition → bs ≡ edition_file first_edition (tables_in bs)
  first_is_written f = (state_of bs e).written ∙ ap (λ (n : ℕ). edition_file n (tables_in bs)) f

  -- the edition 2 file of its tables is valid
  pub made_is_state : is_state (state_file (tables_in bs)) ≡ true
  made_is_state = written_is_state (tables_in bs) state_agrees state_started

  of_either : (edition_in bs ≡ first_edition) ⊎ (edition_in bs ≡ second_edition)
  of_either =
      let p = and_both _ _ (state_of bs e).edition in
      let least : 1 ≤ edition_in bs = leb-true _ _ p.0 in
      let most : edition_in bs ≤ 2 = leb-true _ _ p.1 in
      elim (dec_le 2 (edition_in bs)) [
        | yes h ↦ inr (omega arith)
        | no n ↦ inl (omega arith)
      ]

pub read_first_maxima : (bs : List ℕ) → edition_in bs ≡ first_edition → HasFirstMaxima (tables_in bs)
read_first_maxima bs f i = read_told bs i (eq-eqb (edition_in bs) first_edition f)

-- state files are the files of tables that agree and are started, those of edition 1 of such whose maxima it gives, and nothing else
pub states_exactly : (bs : List ℕ) → (is_state bs ≡ true) ↔ ((t : Tables) × Agrees t × (is_started t ≡ true) × Gives t bs)
states_exactly bs = (
  λ e. (
    tables_in bs,
    state_agrees bs e,
    state_started bs e,
    ⊎_elim (λ f. inr (read_first_maxima bs f, first_is_written bs e f)) (λ f. inl (state_is_written bs e f)) (of_either bs e),
  ),
  λ w.
      ⊎_elim (λ g. subst (λ (x : List ℕ). is_state x ≡ true) (sym g) (written_is_state w.0 w.1 w.2))
      (λ g. subst (λ (x : List ℕ). is_state x ≡ true) (sym g.1) (first_is_state w.0 w.1 g.0 w.2)) w.3,
)

-- an edition 1 file is one exactly where it is what edition 1 has of its tables, and the edition 2 file so made is valid and tells the same tables
pub first_exactly : (bs : List ℕ) → edition_in bs ≡ first_edition → let made = state_file (tables_in bs) in
    (is_state bs ≡ true) ↔ ((bs ≡ edition_file first_edition (tables_in bs)) × (is_state made ≡ true) × (tables_in made ≡ tables_in bs))
first_exactly bs f = (
  λ e. (first_is_written bs e f, made_is_state bs e, written_reads_back (tables_in bs) (state_agrees bs e)),
  λ w.
      let made = state_file (tables_in bs) in
      let a = subst Agrees w.2 (state_agrees made w.1) in
      let s = subst (λ (u : Tables). is_started u ≡ true) w.2 (state_started made w.1) in
      subst (λ (x : List ℕ). is_state x ≡ true) (sym w.0) (first_is_state (tables_in bs) a (read_first_maxima bs f) s),
)

-- a file that agreeing tables give tells these tables
pub given_reads_back : (t : Tables) → Agrees t → (file : List ℕ) → Gives t file → tables_in file ≡ t
given_reads_back t a file =
    ⊎_elim (λ e. ap tables_in e ∙ written_reads_back t a) (λ g. ap tables_in g.1 ∙ first_reads_back t a g.0)

-- no two machines have the same file
pub states_apart : (t u : Tables) → Agrees t → Agrees u → state_file t ≡ state_file u → t ≡ u
states_apart t u a b e = sym (written_reads_back t a) ∙ ap tables_in e ∙ written_reads_back u b
