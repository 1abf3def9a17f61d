-- What looks at slots hand back, what a search has found when it ends, and which bytes it needs.
use mathlib.Core.Path.{◌≡◌, refl, sym, ap, subst, ◌∙◌}
use mathlib.Core.Bool.{true, false, true≢false}
use mathlib.Core.List.{List}
use mathlib.Core.Logic.{⊎_elim}
use Prim.Native.Nat.{ℕ, zero, suc, ◌+◌, ◌*◌, ◌≤◌, ◌<◌}
use native.Mathlib.Numerals.{add-one}
use native.Mathlib.Omega.{arith}
use lib.Dec.{eqb}
use lib.ListN.{length, get_or, take}
use lib.Seq.{length-take-le}
use Rattle.laws.proofs.Choose.{if_no}
use Rattle.words.specs.Words.{word_at}
use Rattle.words.proofs.WordsInBytes.{word_at_cut}
use Rattle.rules.specs.Machine.{free_slot, slot_of}
use Rattle.rules.specs.Calls.{first_named}
use Rattle.rules.proofs.Looking.{Matched, Unmatched, ends, looks_few, looks_same}
use Rattle.semaphore.specs.Record.{slot_from}
use Rattle.semaphore.specs.declared.Semaphore.{Semaphore}
use Rattle.tables.specs.Layout.{slot_place, record_at, model_of}
use Rattle.tables.specs.Sizes.{Sized}
use Rattle.tables.proofs.LayoutRead.{record_cut}
use Rattle.lookup.specs.declared.looks.Look.{Look}
use Rattle.lookup.specs.Search.{no_look, next_look, last_look, is_match, search_length, Reaches}
use Rattle.lookup.proofs.Model.{length_slots, slot_read}
use Rattle.lookup.proofs.Answers.{slot_generation, match_test}

-- ---- looks, one behind the other

pub look_made : (bs : List ℕ) (last : Look) (a b c : ℕ) → a ≡ (record_at bs last.count).generation → b ≡ (record_at bs last.count).live
    → c ≡ (record_at bs last.count).name → ◌≡◌ {A = Look} (record { count = last.count + 1; generation = a; live = b; name = c }) (next_look bs last)
look_made bs last a b c ea eb ec = λ k. record { count = last.count + 1; generation = ea k; live = eb k; name = ec k }

-- n looks have counted n, and the look behind them is one more
pub looks_counted : (bs : List ℕ) (n : ℕ) → (last_look bs n).count ≡ n
unfolding last_look
looks_counted bs zero = refl
looks_counted bs (suc n) = ap (λ (k : ℕ). k + 1) (looks_counted bs n) ∙ add-one n

pub no_look_lem : (bs : List ℕ) → no_look ≡ last_look bs 0
unfolding last_look
no_look_lem bs = refl

pub look_behind : (bs : List ℕ) (last : Look) (n : ℕ) → last ≡ last_look bs n → next_look bs last ≡ last_look bs (n + 1)
unfolding last_look
look_behind bs last n e = ap (next_look bs) e ∙ ap (last_look bs) (sym (add-one n))

-- the look behind n others has the words of the slot at n
abbrev pub look_of : ℕ → Semaphore → Look
look_of n s = record { count = n + 1; generation = s.generation; live = s.live; name = s.name }

pub look_at : (bs : List ℕ) (n : ℕ) → last_look bs (suc n) ≡ look_of n (record_at bs n)
unfolding last_look
look_at bs n = ap (λ (k : ℕ). look_of k (record_at bs k)) (looks_counted bs n)

-- ---- the last look of a search

-- it is the match, and has its generation
pub record Hit (bs : List ℕ) (name : ℕ) (last : Look) : Type 0 where
  pub number : last.count ≡ first_named name (model_of bs).slots 1
  pub some : last.count ≡ 0 → ⊥
  pub within : last.count ≤ word_at bs 1
  pub generation : last.generation ≡ (slot_of (model_of bs) last.count).generation

module _ (bs : List ℕ) (name : ℕ) where
  hit_at : (i : ℕ) → i < word_at bs 1 → first_named name (model_of bs).slots 1 ≡ suc i → Hit bs name (look_of i (record_at bs i))
  hit_at i h e =
      record {
        number = add-one i ∙ sym e;
        some = λ z. omega (arith, z);
        within = omega (arith, h);
        generation = sym (ap (λ (k : ℕ). (get_or (model_of bs).slots k (free_slot 0)).generation) (omega arith) ∙ slot_generation bs i h);
      }

  module _ (last : Look) (e : last ≡ last_look bs (search_length (model_of bs) name)) where
    pub counted : last.count ≡ search_length (model_of bs) name
    counted = ap (λ (l : Look). l.count) e ∙ looks_counted bs (search_length (model_of bs) name)

    -- the search has ended behind slot i
    at_slot : (i : ℕ) → search_length (model_of bs) name ≡ suc i → last ≡ look_of i (record_at bs i)
    at_slot i k = e ∙ ap (last_look bs) k ∙ look_at bs i

    matched : Matched name (model_of bs).slots 0 → (is_match last name ≡ true) × Hit bs name last
    matched m =
        let h : m.place < word_at bs 1 = omega (arith, m.within, length_slots bs) in
        let l = at_slot m.place m.looks in (
          sym (match_test bs m.place h last name (ap (λ (l : Look). l.live) l) (ap (λ (l : Look). l.name) l)) ∙ m.holds,
          subst (Hit bs name) (sym l) (hit_at m.place h (omega (arith, m.number))),
        )

    unmatched : Unmatched name (model_of bs).slots 0 → (n : ℕ) → search_length (model_of bs) name ≡ n → is_match last name ≡ false
    unfolding last_look
    unmatched u zero z = ap (λ (l : Look). is_match l name) (e ∙ ap (last_look bs) z) ∙ if_no (eqb 0 name) false refl
    unmatched u (suc i) k =
        let h : i < word_at bs 1 = omega (arith, k, u.looks, length_slots bs) in
        let l = at_slot i k in
        sym (match_test bs i h last name (ap (λ (l : Look). l.live) l) (ap (λ (l : Look). l.name) l)) ∙ u.fails i (omega (arith, h, length_slots bs))

    pub hit : is_match last name ≡ true → Hit bs name last
    hit t = ⊎_elim (λ m. (matched m).1) (λ u. absurd (true≢false (sym t ∙ unmatched u _ refl))) (ends name (model_of bs).slots 0)

    pub missed : is_match last name ≡ false → first_named name (model_of bs).slots 1 ≡ 0
    missed f = ⊎_elim (λ m. absurd (true≢false (sym (matched m).0 ∙ f))) (λ u. u.number) (ends name (model_of bs).slots 0)

-- ---- the bytes that a search needs

pub sized_reaches : (bs : List ℕ) (slots name : ℕ) → Sized bs → slots ≡ word_at bs 1 → Reaches bs slots name
sized_reaches bs slots name s e =
    let few = looks_few name (model_of bs).slots 0 in
    record { counted = e; few = omega (arith, e, s.slots); long = omega (arith, few, length_slots bs, s.slots, s.long) }

-- they may end with the last slot that it looks at: it gives the same there, so it looks at none behind
module _ (bs : List ℕ) (slots name : ℕ) (r : Reaches bs slots name) where
  abbrev pub cut : List ℕ
  cut = take (4 * slot_place (search_length (model_of bs) name)) bs

  counts : word_at cut 1 ≡ word_at bs 1
  counts = word_at_cut bs (4 * slot_place (search_length (model_of bs) name)) 1 (omega arith)

  same_record : (i : ℕ) → i < search_length (model_of bs) name → record_at cut i ≡ record_at bs i
  same_record i h = record_cut bs (4 * slot_place (search_length (model_of bs) name)) i (omega (arith, h))

  same_slot : (i : ℕ) → i < search_length (model_of bs) name → get_or (model_of bs).slots i (free_slot 0) ≡ get_or (model_of cut).slots i (free_slot 0)
  same_slot i h =
      let l : i < word_at bs 1 = omega (arith, h, looks_few name (model_of bs).slots 0, length_slots bs) in
      slot_read bs i l ∙ ap (λ (s : Semaphore). slot_from s) (sym (same_record i h)) ∙ sym (slot_read cut i (omega (arith, l, counts)))

  pub cut_looks : search_length (model_of bs) name ≡ search_length (model_of cut) name
  cut_looks =
      ap length (looks_same name (model_of bs).slots (model_of cut).slots 1 (length_slots bs ∙ sym counts ∙ sym (length_slots cut)) same_slot)

  pub cut_reaches : Reaches cut slots name
  cut_reaches =
      let long = length-take-le (4 * slot_place (search_length (model_of bs) name)) bs r.long in
      record { counted = r.counted ∙ sym counts; few = r.few; long = omega (arith, long, cut_looks) }

  same_last : (n : ℕ) → n ≤ search_length (model_of bs) name → last_look cut n ≡ last_look bs n
  same_last zero h = sym (no_look_lem cut) ∙ no_look_lem bs
  same_last (suc i) h = look_at cut i ∙ ap (look_of i) (same_record i h) ∙ sym (look_at bs i)

  pub cut_last : last_look cut (search_length (model_of cut) name) ≡ last_look bs (search_length (model_of bs) name)
  cut_last = ap (last_look cut) (sym cut_looks) ∙ same_last (search_length (model_of bs) name) (omega arith)
