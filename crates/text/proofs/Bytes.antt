-- Bytes one after another: the end of a line, one byte, and the turns of the loop over a part.
use mathlib.Core.Path.{◌≡◌, refl, sym, ap, subst, ◌∙◌}
use mathlib.Core.List.{List}
use Prim.Native.Nat.{ℕ, suc, min, ◌+◌, ◌≤◌, ◌<◌}
use native.Mathlib.Decide.{dec_lt}
use native.Mathlib.Numerals.{add-one}
use native.Mathlib.Omega.{arith}
use lib.ListN.{length, get_or, take, drop, drop_of_length-le}
use lib.Seq.{drop-cons}
use Rattle.laws.proofs.Choose.{if_lt, if_not_lt, if_eq, if_ne}
use Rattle.text.specs.declared.At.{At}
use Rattle.std.specs.Prelude.{Ok, Err}
use Rattle.text.specs.declared.Fault.{Fault as LineFault}
use Rattle.text.specs.declared.feeding.Progress.{Progress}
use Rattle.text.specs.declared.feeding.Faulty.{Faulty}
use Rattle.text.specs.Reading.{Room, read_line, one_more}
use Rattle.text.specs.Reading.Read.{Goes, Stops}
use Rattle.text.specs.Feeding.{fault_of, Next, FedTo, Lent, room_of, reading_of, read_of, InsideNext, Leaves, Kept, keeping, kept_of, Fed, fed_of, Ready, ReadyNext, Feeds}
use Rattle.text.specs.Feeding.{Takes}
use Rattle.text.specs.Feeding.{ended, end_line, lengthen, take_byte, take_bytes, at_end, and_next}
use Rattle.text.specs.Feeding.Fed.{Keeps, Faults}

pub feeds_as : {a b : Fed} {r : FedTo} {line : List ℕ} {l : Lent} → a ≡ b → Feeds a r line l → Feeds b r line l
feeds_as {r = r} {line = line} {l = l} e f = subst (λ (x : Fed). Feeds x r line l) e f

-- ---- the end of a line

-- 32 bits count no further
pub counted : (n : ℕ) → n ≤ 4294967295 → min (n + 1) 4294967295 ≡ one_more n
counted n h =
    elim (dec_lt n 4294967295) [
      | yes l ↦ let e : min (n + 1) 4294967295 ≡ suc n = omega arith in e ∙ sym (if_lt n 4294967295 _ _ l)
      | no d ↦ let e : min (n + 1) 4294967295 ≡ n = omega arith in e ∙ sym (if_not_lt n 4294967295 _ _ (omega arith))
    ]

module _ (p : Progress) (line : List ℕ) (l : Lent) (ready : Ready p line l) (next : Next) (after : Lent)
    (left : Leaves (read_line (room_of l) (reading_of p.at l) (take p.begun line)) next after) (count : ℕ) (counts : count ≡ one_more p.count) where
  pub end_goes : (at : At) → next ≡ Ok at → Feeds (end_line (room_of l) (kept_of p line l)) (Ok (record { at = at; begun = 0; count = count })) line after
  unfolding end_line
  end_goes at e =
      let read : read_line (room_of l) (reading_of p.at l) (take p.begun line) ≡ Goes (reading_of at after) =
      sym left.read ∙ ap (λ (n : Next). read_of n after) e in
      record {
        fed = ap (λ (n : ℕ). Keeps (keeping (reading_of at after) line 0 n)) counts ∙ ap (ended (kept_of p line l)) (sym read);
        ready = record { inside = subst (λ (n : Next). InsideNext n after) e left.inside; full = ready.full; begun = omega arith };
      }

  pub end_faults : (f : LineFault) → next ≡ Err f → Feeds (end_line (room_of l) (kept_of p line l)) (Err (record { line = count; fault = f })) line after
  unfolding end_line
  end_faults f e =
      let read : read_line (room_of l) (reading_of p.at l) (take p.begun line) ≡ Stops (fault_of f) =
      sym left.read ∙ ap (λ (n : Next). read_of n after) e in
      record { fed = ap (λ (n : ℕ). Faults n (fault_of f)) counts ∙ ap (ended (kept_of p line l)) (sym read); ready = tt }

-- ---- one byte

module _ (room : Room) (k : Kept) (b : ℕ) where
  pub byte_newline : b ≡ 10 → {r : FedTo} {line : List ℕ} {after : Lent} → Feeds (end_line room k) r line after → Feeds (take_byte room k b) r line after
  unfolding take_byte
  byte_newline e f = feeds_as (sym (if_eq b 10 _ _ e)) f

  pub byte_other : (b ≡ 10 → ⊥) → take_byte room k b ≡ Keeps (lengthen k b)
  unfolding take_byte
  byte_other d = if_ne b 10 _ _ d

pub byte_kept : (p : Progress) (b : ℕ) (line line' : List ℕ) (l : Lent) → Ready p line l → (b ≡ 10 → ⊥) → (n : ℕ)
    → keeping (reading_of p.at l) line' n p.count ≡ lengthen (kept_of p line l) b → n ≤ 257 → length line' ≡ length line
    → Feeds (take_byte (room_of l) (kept_of p line l) b) (Ok (record { at = p.at; begun = n; count = p.count })) line' l
byte_kept p b line line' l ready d n e few same =
    record {
      fed = ap Keeps e ∙ sym (byte_other (room_of l) (kept_of p line l) b d);
      ready = record { inside = ready.inside; full = same ∙ ready.full; begun = few };
    }

-- ---- the end of the text

module _ (room : Room) (k : Kept) where
  pub end_none : k.begun ≡ 0 → at_end room k ≡ Keeps k
  unfolding at_end
  end_none e = if_eq k.begun 0 _ _ e

  pub end_some : (k.begun ≡ 0 → ⊥) → at_end room k ≡ end_line room k
  unfolding at_end
  end_some d = if_ne k.begun 0 _ _ d

-- ---- the bytes of a part

module _ (room : Room) (k : Kept) (input : List ℕ) (i : ℕ) where
  pub bytes_none : length input ≤ i → take_bytes room k (drop i input) ≡ Keeps k
  unfolding take_bytes
  bytes_none h = ap (take_bytes room k) (drop_of_length-le input h)

  bytes_next : i < length input
      → take_bytes room k (drop i input) ≡ and_next (take_byte room k (get_or input i 0)) (λ k'. take_bytes room k' (drop (i + 1) input))
  unfolding take_bytes
  bytes_next h = rw (add-one, drop-cons input i 0 h)

  pub bytes_more : i < length input → (k' : Kept) → take_byte room k (get_or input i 0) ≡ Keeps k'
      → take_bytes room k (drop i input) ≡ take_bytes room k' (drop (i + 1) input)
  bytes_more h k' e = bytes_next h ∙ ap (λ (f : Fed). and_next f (λ k''. take_bytes room k'' (drop (i + 1) input))) e

  pub bytes_fault : i < length input → (line fault : ℕ) → take_byte room k (get_or input i 0) ≡ Faults line fault
      → take_bytes room k (drop i input) ≡ Faults line fault
  bytes_fault h line fault e = bytes_next h ∙ ap (λ (f : Fed). and_next f (λ k''. take_bytes room k'' (drop (i + 1) input))) e

-- all that is lent keeps its lengths
pub record SameSizes (l₀ l : Lent) : Type 0 where
  pub bytes : length l.bytes ≡ length l₀.bytes
  pub ids : length l.ids ≡ length l₀.ids
  pub cells : length l.cells ≡ length l₀.cells
  pub locals : length l.locals ≡ length l₀.locals
  pub scripts : length l.scripts ≡ length l₀.scripts
  pub events : length l.events ≡ length l₀.events

pub same_room : {l₀ l : Lent} → SameSizes l₀ l → room_of l ≡ room_of l₀
same_room s = λ k. record { cells = s.cells k; scripts = s.scripts k; events = s.events k }

-- what holds at each turn, and after the last
pub record Underway (p₀ : Progress) (line₀ : List ℕ) (l₀ : Lent) (input : List ℕ) (p : Progress) (line : List ℕ) (l : Lent) (i : ℕ) : Type 0 where
  pub sizes : SameSizes l₀ l
  pub ready : Ready p line l
  pub within : i ≤ length input
  pub rest : take_bytes (room_of l₀) (kept_of p₀ line₀ l₀) input ≡ take_bytes (room_of l₀) (kept_of p line l) (drop i input)

pub underway_none : (p : Progress) (line : List ℕ) (l : Lent) (input : List ℕ) → Ready p line l → Underway p line l input p line l 0
underway_none p line l input ready =
    record {
      sizes = record { bytes = refl; ids = refl; cells = refl; locals = refl; scripts = refl; events = refl };
      ready = ready;
      within = omega arith;
      rest = refl;
    }

module _ {p₀ : Progress} {line₀ : List ℕ} {l₀ : Lent} {input : List ℕ} {p : Progress} {line : List ℕ} {l : Lent} {i : ℕ}
    (u : Underway p₀ line₀ l₀ input p line l i) where
  pub underway_over : length input ≤ i → Takes (λ room k. take_bytes room k input) p₀ (Ok p) line₀ l₀ line l
  underway_over h = record { fed = sym (u.rest ∙ bytes_none (room_of l₀) (kept_of p line l) input i h); ready = u.ready }

  module _ (h : i < length input) (r : FedTo) (line' : List ℕ) (l' : Lent)
      (took : Takes (λ room k. take_byte room k (get_or input i 0)) p r line l line' l') where
    took_there : take_byte (room_of l₀) (kept_of p line l) (get_or input i 0) ≡ fed_of r line' l'
    took_there = ap (λ (room : Room). take_byte room (kept_of p line l) (get_or input i 0)) (sym (same_room u.sizes)) ∙ sym took.fed

    pub underway_more : (p' : Progress) → r ≡ Ok p' → SameSizes l l' → Underway p₀ line₀ l₀ input p' line' l' (i + 1)
    underway_more p' e s =
        record {
          sizes = record {
            bytes = s.bytes ∙ u.sizes.bytes;
            ids = s.ids ∙ u.sizes.ids;
            cells = s.cells ∙ u.sizes.cells;
            locals = s.locals ∙ u.sizes.locals;
            scripts = s.scripts ∙ u.sizes.scripts;
            events = s.events ∙ u.sizes.events;
          };
          ready = subst (λ (f : FedTo). ReadyNext f line' l') e took.ready;
          within = omega arith;
          rest =
              u.rest
              ∙ bytes_more (room_of l₀) (kept_of p line l) input i h (kept_of p' line' l') (took_there ∙ ap (λ (f : FedTo). fed_of f line' l') e);
        }

    pub underway_fault : (f : Faulty) → r ≡ Err f → Takes (λ room k. take_bytes room k input) p₀ (Err f) line₀ l₀ line' l'
    underway_fault f e =
        record {
          fed =
              sym
              (u.rest
              ∙ bytes_fault (room_of l₀) (kept_of p line l) input i h f.line (fault_of f.fault) (took_there ∙ ap (λ (x : FedTo). fed_of x line' l') e));
          ready = tt;
        }
