-- However a text is cut into parts, feeding them byte by byte from the outset gives what the file says by its lines, or its first fault.
use mathlib.Core.Path.{◌≡◌, refl, sym, ap, ap₂, subst, ◌∙◌}
use mathlib.Core.Bool.{true, false}
use mathlib.Core.List.{List, [], ◌∷◌, ◌++◌, append_assoc, append-nil}
use mathlib.Core.Logic.{⊎_elim}
use Prim.Native.Nat.{ℕ, ◌+◌, ◌≤◌, ◌<◌}
use native.Mathlib.Decide.{dec_lt}
use native.Mathlib.Numerals.{add-one}
use native.Mathlib.Omega.{arith}
use lib.Dec.{eqb}
use lib.ListN.{length, take, set, replicate, length-append, length-set, length-take}
use lib.Seq.{take-suc-set, length-take-le}
use Rattle.laws.specs.Choose.{choose}
use Rattle.laws.proofs.Choose.{if_yes, if_no, if_lt, if_not_lt, tested}
use Rattle.rules.specs.Machine.{unstarted}
use Rattle.tables.specs.Layout.{laid}
use Rattle.session.specs.Session.{lines}
use Rattle.session.specs.Kept.{Response}
use Rattle.session.proofs.Line.{too_long}
use Rattle.session.proofs.Output.{respond_is}
use Rattle.session.proofs.Whole.{Plain, plain_more, lines_newline, lines_end, joined}
use Rattle.text.specs.declared.feeding.Progress.{Progress}
use Rattle.text.specs.declared.feeding.Faulty.{Faulty}
use Rattle.std.specs.Prelude.{Ok, Err}
use Rattle.text.specs.Words.{Said, opens_scripts}
use Rattle.text.specs.Reading.{Reading, Room, Read, Outcome, in_part, with_bytes, script_line, session_line, section_line, event_line, read_line, outset}
use Rattle.text.specs.Reading.{and_then}
use Rattle.text.specs.Reading.{one_more, read_lines, read_text}
use Rattle.text.specs.Reading.Read.{Goes, Stops}
use Rattle.text.specs.Reading.Outcome.{Says, Fault}
use Rattle.text.specs.Feeding.{Lent, Kept, keeping, kept_of, Fed, ended, end_line, lengthen, take_byte, take_bytes, and_next, at_end, fed_in_parts, outcome_of}
use Rattle.text.specs.Feeding.{FedTo, room_of, fed_of, Takes}
use Rattle.text.specs.Feeding.Fed.{Keeps, Faults}
use Rattle.text.proofs.Saying.{long_none}
use Rattle.text.proofs.Bytes.{feeds_as, end_none, end_some, SameSizes, same_room}

-- ---- of a line of more than 256 bytes only its being longer counts

module _ (room : Room) (r : Reading) where
  pub long_same : (a b : List ℕ) → 256 < length a → 256 < length b → read_line room r a ≡ read_line room r b
  unfolding read_line session_line
  long_same a b h k =
      ap₂ (λ (s : Said) (x : Response).
      choose (eqb r.part 0) (choose (opens_scripts s.word) (script_line room (in_part 1 r) s) (Goes (with_bytes x.bytes r)))
      (choose (eqb r.part 1) (script_line room r s) (choose (eqb r.part 2) (section_line room r s) (event_line room r s))))
      (long_none a h ∙ sym (long_none b k))
      (respond_is r.bytes a (too_long a h) ∙ sym (respond_is r.bytes b (too_long b k)))

-- ---- what is kept stands for a reading, a count of lines and the bytes of the line that has begun

pub record Stands (k : Kept) (r : Reading) (n : ℕ) (begun : List ℕ) : Type 0 where
  pub reading : k.reading ≡ r
  pub count : k.count ≡ n
  pub full : length k.line ≡ 257
  pub few : k.begun ≤ 256 → begun ≡ take k.begun k.line
  pub many : 256 < k.begun → 256 < length begun

pub fresh_stands : (r : Reading) (line : List ℕ) (n : ℕ) → length line ≡ 257 → Stands (keeping r line 0 n) r n []
fresh_stands r line n h = record { reading = refl; count = refl; full = h; few = λ _. refl; many = λ l. absurd (omega arith) }

module _ {k : Kept} {r : Reading} {n : ℕ} {begun : List ℕ} (g : Stands k r n begun) where
  line_same : (room : Room) → read_line room r (take k.begun k.line) ≡ read_line room r begun
  line_same room =
      elim (dec_lt 256 k.begun) [
        | yes h ↦ long_same room r (take k.begun k.line) begun (omega (arith, length-take k.begun k.line, g.full)) (g.many h)
        | no d ↦ ap (read_line room r) (sym (g.few (omega arith)))
      ]

  pub end_is : (room : Room) → end_line room k ≡ ended k (read_line room r begun)
  unfolding end_line
  end_is room = ap (λ (x : Reading). ended k (read_line room x (take k.begun k.line))) g.reading ∙ ap (ended k) (line_same room)

  begun_many : 256 ≤ k.begun → 256 ≤ length begun
  begun_many h =
      elim (dec_lt 256 k.begun) [
        | yes l ↦ omega (arith, g.many l)
        | no d ↦ omega (arith, ap length (g.few (omega arith)), length-take-le k.begun k.line (omega (arith, g.full)))
      ]

  -- a byte more
  pub stands_more : (b : ℕ) → Stands (lengthen k b) r n (begun ++ b ∷ [])
  unfolding lengthen
  stands_more b =
      elim (dec_lt k.begun 257) [
        | yes h ↦ subst P (sym (if_lt k.begun 257 _ _ h)) (stored h)
        | no d ↦ subst P (sym (if_not_lt k.begun 257 _ _ (omega arith))) (longer (omega arith))
      ]
    where
      P : Kept → Type 0
      P s = Stands s r n (begun ++ b ∷ [])

      stored : k.begun < 257 → Stands (keeping k.reading (set k.line k.begun b) (k.begun + 1) k.count) r n (begun ++ b ∷ [])
      stored h =
          record {
            reading = g.reading;
            count = g.count;
            full = length-set k.line k.begun b ∙ g.full;
            few = λ l. ap (λ (x : List ℕ). x ++ b ∷ []) (g.few (omega arith))
                ∙ sym (take-suc-set k.line k.begun b (omega (arith, g.full)))
                ∙ ap (λ (m : ℕ). take m (set k.line k.begun b)) (sym (add-one k.begun));
            many = λ l. omega (arith, length-append begun (b ∷ []), begun_many (omega arith));
          }

      longer : 257 ≤ k.begun → Stands k r n (begun ++ b ∷ [])
      longer h =
          record {
            reading = g.reading;
            count = g.count;
            full = g.full;
            few = λ l. absurd (omega arith);
            many = λ l. omega (arith, length-append begun (b ∷ []), g.many (omega arith));
          }

  -- no byte has begun a line exactly where none is kept
  pub none_begun : k.begun ≡ 0 → begun ≡ []
  none_begun e = g.few (omega arith) ∙ ap (λ (m : ℕ). take m k.line) e

  pub none_kept : length begun ≡ 0 → k.begun ≡ 0
  none_kept e =
      elim (dec_lt 256 k.begun) [
        | yes l ↦ absurd (omega (arith, g.many l))
        | no d ↦ omega (arith, ap length (g.few (omega arith)), length-take-le k.begun k.line (omega (arith, g.full)))
      ]

-- ---- steps one after another

pub next_next : (x : Fed) (f g : Kept → Fed) → and_next (and_next x f) g ≡ and_next x (λ k. and_next (f k) g)
next_next (Keeps k) f g = refl
next_next (Faults line fault) f g = refl

next_same : {f g : Kept → Fed} (x : Fed) → ((k : Kept) → f k ≡ g k) → and_next x f ≡ and_next x g
next_same (Keeps k) e = e k
next_same (Faults line fault) e = refl

-- a part after a part
pub bytes_append : (room : Room) (k : Kept) (a b : List ℕ) → take_bytes room k (a ++ b) ≡ and_next (take_bytes room k a) (λ k'. take_bytes room k' b)
unfolding take_bytes
bytes_append room k [] b = refl
bytes_append room k (x ∷ a) b =
    next_same (take_byte room k x) (λ k'. bytes_append room k' a b) ∙ sym (next_next (take_byte room k x) (λ k'. take_bytes room k' a) (λ k'. take_bytes room k' b))

module _ (room : Room) where
  -- the bytes to come, and the end
  abbrev pub to_end : Kept → List ℕ → Fed
  to_end k text = and_next (take_bytes room k text) (λ k'. at_end room k')

  -- the outcome of a line that has ended, and of what follows it
  ended_outcome : (k : Kept) (n : ℕ) (x : Read) (go : Kept → Fed) (after : Reading → Outcome) → k.count ≡ n
      → ((r : Reading) → outcome_of (go (keeping r k.line 0 (one_more n))) ≡ after r)
      → outcome_of (and_next (ended k x) go) ≡ and_then x (one_more n) after
  ended_outcome k n (Goes r) go after e f = ap (λ (m : ℕ). outcome_of (go (keeping r k.line 0 (one_more m)))) e ∙ f r
  ended_outcome k n (Stops fault) go after e f = ap (λ (m : ℕ). Fault (one_more m) fault) e

  at_end_lem : (k : Kept) (r : Reading) (n : ℕ) (begun : List ℕ) → Stands k r n begun → Plain begun
      → outcome_of (at_end room k) ≡ read_lines room r n (lines begun)
  unfolding read_lines lines
  at_end_lem k r n [] g p = ap outcome_of (end_none room k (none_kept g refl)) ∙ ap Says g.reading
  at_end_lem k r n (b ∷ begun) g p =
      ap outcome_of (end_some room k (λ e. omega (arith, ap length (none_begun g e))) ∙ end_is g room ∙ sym (next_keeps (ended k (read_line room r (b ∷ begun)))))
      ∙ ended_outcome k n (read_line room r (b ∷ begun)) Keeps Says g.count (λ r'. refl)
      ∙ sym (ap (read_lines room r n) (lines_end b begun p))
    where
      next_keeps : (x : Fed) → and_next x Keeps ≡ x
      next_keeps (Keeps k') = refl
      next_keeps (Faults line fault) = refl

  module _ (k : Kept) (b : ℕ) (bs : List ℕ) where
    first_byte : (x : Fed) → take_byte room k b ≡ x → to_end k (b ∷ bs) ≡ and_next x (λ k'. to_end k' bs)
    unfolding take_bytes
    first_byte x e =
        next_next (take_byte room k b) (λ k'. take_bytes room k' bs) (λ k'. at_end room k') ∙ ap (λ (y : Fed). and_next y (λ k'. to_end k' bs)) e

    module _ (r : Reading) (n : ℕ) (begun : List ℕ) (g : Stands k r n begun) where
      newline : Plain begun → eqb b 10 ≡ true
          → ((r' : Reading) → outcome_of (to_end (keeping r' k.line 0 (one_more n)) bs) ≡ read_lines room r' (one_more n) (lines bs))
          → outcome_of (to_end k (b ∷ bs)) ≡ read_lines room r n (lines (begun ++ b ∷ bs))
      unfolding take_byte read_lines
      newline p e ih =
          ap outcome_of (first_byte (ended k (read_line room r begun)) (if_yes _ _ e ∙ end_is g room))
          ∙ ended_outcome k n (read_line room r begun) (λ k'. to_end k' bs) (λ r'. read_lines room r' (one_more n) (lines bs)) g.count ih
          ∙ sym (ap (read_lines room r n) (lines_newline begun bs b p e))

      other : eqb b 10 ≡ false → outcome_of (to_end (lengthen k b) bs) ≡ read_lines room r n (lines ((begun ++ b ∷ []) ++ bs))
          → outcome_of (to_end k (b ∷ bs)) ≡ read_lines room r n (lines (begun ++ b ∷ bs))
      unfolding take_byte
      other e ih =
          ap outcome_of (first_byte (Keeps (lengthen k b)) (if_no _ _ e))
          ∙ ih ∙ ap (λ (l : List ℕ). read_lines room r n (lines l)) (append_assoc begun (b ∷ []) bs)

  -- the bytes to come and the end give what the line that has begun and the lines to come say
  pub read_whole : (k : Kept) (r : Reading) (n : ℕ) (begun rest : List ℕ) → Stands k r n begun → Plain begun
      → outcome_of (to_end k rest) ≡ read_lines room r n (lines (begun ++ rest))
  unfolding take_bytes
  read_whole k r n begun [] g p = at_end_lem k r n begun g p ∙ sym (ap (λ (l : List ℕ). read_lines room r n (lines l)) (append-nil begun))
  read_whole k r n begun (b ∷ bs) g p =
      ⊎_elim (λ (e : eqb b 10 ≡ true). newline k b bs r n begun g p e
      (λ r'. read_whole (keeping r' k.line 0 (one_more n)) r' (one_more n) [] bs (fresh_stands r' k.line (one_more n) g.full) tt))
      (λ (e : eqb b 10 ≡ false). other k b bs r n begun g e (read_whole (lengthen k b) r n (begun ++ b ∷ []) bs (stands_more g b) (plain_more begun b p e)))
      (tested (eqb b 10))

  -- bytes one by one from the outset are the lines of the text
  pub text_read : (line : List ℕ) → length line ≡ 257 → (text : List ℕ) → outcome_of (to_end (keeping outset line 0 0) text) ≡ read_text room text
  unfolding read_text
  text_read line h text = read_whole (keeping outset line 0 0) outset 0 [] text (fresh_stands outset line 0 h) tt

  parts_whole : (k : Kept) (ps : List (List ℕ)) → fed_in_parts room k ps ≡ to_end k (joined ps)
  unfolding fed_in_parts take_bytes
  parts_whole k [] = refl
  parts_whole k (p ∷ ps) =
      next_same (take_bytes room k p) (λ k'. parts_whole k' ps)
      ∙ sym (next_next (take_bytes room k p) (λ k'. take_bytes room k' (joined ps)) (λ k'. at_end room k'))
      ∙ ap (λ (x : Fed). and_next x (λ k'. at_end room k')) (sym (bytes_append room k p (joined ps)))

  -- for every way of cutting the text
  pub text_in_parts : (line : List ℕ) → length line ≡ 257 → (parts : List (List ℕ))
      → outcome_of (fed_in_parts room (keeping outset line 0 0) parts) ≡ read_text room (joined parts)
  text_in_parts line h parts = ap outcome_of (parts_whole (keeping outset line 0 0) parts) ∙ text_read line h (joined parts)

-- lent bytes of an unstarted machine and locals of 0, with nothing read, are the outset
pub outset_kept : (p : Progress) (line : List ℕ) (l : Lent)
    → p ≡ record { at = record { part = 0; cells = 0; scripts = 0; events = 0 }; begun = 0; count = 0 }
    → l.bytes ≡ laid unstarted → l.locals ≡ replicate 256 0 → kept_of p line l ≡ keeping outset line 0 0
outset_kept p line l e b f =
    ap (λ (q : Progress). kept_of q line l) e
    ∙ ap₂ (λ (bs ls : List ℕ). keeping (record { part = 0; bytes = bs; ids = []; cells = []; locals = ls; scripts = []; events = [] }) line 0 0) b f

-- ---- for callers: one part fed after another, a fault, and the end

module _ (p p' : Progress) (line line' : List ℕ) (l l' : Lent) (a : List ℕ)
    (fed : Takes (λ room k. take_bytes room k a) p (Ok p') line l line' l') (sizes : SameSizes l l') where
  pub part_more : (b : List ℕ) {r : FedTo} {line'' : List ℕ} {l'' : Lent} → Takes (λ room k. take_bytes room k b) p' r line' l' line'' l''
      → Takes (λ room k. take_bytes room k (a ++ b)) p r line l line'' l''
  part_more b next =
      feeds_as
      (ap (λ (room : Room). take_bytes room (kept_of p' line' l') b) (same_room sizes)
      ∙ sym (bytes_append (room_of l) (kept_of p line l) a b ∙ ap (λ (x : Fed). and_next x (λ k. take_bytes (room_of l) k b)) (sym fed.fed))) next

  pub part_end : kept_of p line l ≡ keeping outset line 0 0 → length line ≡ 257 → {r : FedTo} {line'' : List ℕ} {l'' : Lent}
      → Takes at_end p' r line' l' line'' l'' → outcome_of (fed_of r line'' l'') ≡ read_text (room_of l) a
  part_end e full last =
      ap outcome_of
      (last.fed
      ∙ ap (λ (room : Room). at_end room (kept_of p' line' l')) (same_room sizes)
      ∙ ap (λ (x : Fed). and_next x (λ k. at_end (room_of l) k)) fed.fed
      ∙ ap (λ (k : Kept). to_end (room_of l) k a) e)
      ∙ text_read (room_of l) line full a

pub part_fault : (p : Progress) (line line' : List ℕ) (l l' : Lent) (f : Faulty) (a b : List ℕ)
    → Takes (λ room k. take_bytes room k a) p (Err f) line l line' l'
    → Takes (λ room k. take_bytes room k (a ++ b)) p (Err f) line l line' l'
part_fault p line line' l l' f a b fed =
    record {
      fed =
          ap (λ (x : Fed). and_next x (λ k. take_bytes (room_of l) k b)) fed.fed
          ∙ sym (bytes_append (room_of l) (kept_of p line l) a b);
      ready = tt;
    }
