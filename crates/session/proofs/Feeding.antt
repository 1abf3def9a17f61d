-- A part fed byte by byte: what is kept, what is said and how much is left to take.
use mathlib.Core.Path.{◌≡◌, refl, sym, ap, subst, ◌∙◌}
use mathlib.Core.List.{List, [], ◌∷◌, ◌++◌, append_assoc, append-nil}
use mathlib.Core.Option.{Option, none, some}
use Prim.Native.Nat.{ℕ, suc, ◌+◌, ◌-◌, ◌*◌, ◌≤◌, ◌<◌}
use native.Mathlib.Numerals.{add-one}
use native.Mathlib.Omega.{arith}
use lib.ListN.{length, get_or, take, drop, length-append, drop_of_length-le}
use lib.Seq.{take-suc, drop-cons}
use borrow.Author.Tests.{lt-leb}
use Rattle.laws.proofs.Choose.{if_eq, if_ne, if_le, if_no, choose_cases}
use Rattle.rules.specs.Runs.{Request}
use Rattle.manager.specs.Entry.{reply_to}
use Rattle.line.specs.Line.{line_of}
use Rattle.line.specs.Print.{spliced}
use Rattle.line.proofs.Printing.{answer_length, one_more as text_more}
use Rattle.session.specs.declared.Fed.{Fed}
use Rattle.session.specs.Kept.{Kept, keeps, Response, response_to, respond, end_line, lengthen, after_byte, said_to, after_part, said_to_part, at_end, taken_of}
use Rattle.session.specs.Feeding.{Writes, Took, FedIs}
use Rattle.session.proofs.Output.{front, spliced_fits, unspliced, writes_same}

-- ---- a part after a part

pub after_append : (k : Kept) (a b : List ℕ) → after_part k (a ++ b) ≡ after_part (after_part k a) b
unfolding after_part
after_append k [] b = refl
after_append k (x ∷ a) b = after_append (after_byte k x) a b

pub said_append : (k : Kept) (a b : List ℕ) → said_to_part k (a ++ b) ≡ said_to_part k a ++ said_to_part (after_part k a) b
unfolding after_part said_to_part
said_append k [] b = refl
said_append k (x ∷ a) b = rw (said_append (after_byte k x) a b, append_assoc)

-- ---- one byte

module _ (k : Kept) (b : ℕ) where
  -- a newline
  pub took_newline : b ≡ 10 → {end at : ℕ} {bs before out : List ℕ} → Writes (end_line k) at end bs before out
      → Took k b at end (keeps bs k.line 0) before out
  unfolding after_byte said_to
  took_newline e {end} {at} {bs} {before} {out} w =
      let said : said_to k b ≡ (end_line k).output = if_eq b 10 _ _ e in
      record {
        kept = ap (λ (l : List ℕ). keeps l k.line 0) w.bytes ∙ sym (if_eq b 10 _ _ e);
        ends = w.ends ∙ ap (λ (l : List ℕ). at + length l) (sym said);
        output = w.output ∙ ap (λ (l : List ℕ). spliced at l before) (sym said);
      }

  -- any other byte
  pub took_other : (b ≡ 10 → ⊥) → {k' : Kept} {at : ℕ} {out : List ℕ} → k' ≡ lengthen k b → Took k b at at k' out out
  unfolding after_byte said_to
  took_other e {at = at} {out = out} l =
      let said : said_to k b ≡ [] = if_ne b 10 _ _ e in
      record {
        kept = l ∙ sym (if_ne b 10 _ _ e);
        ends = omega (arith, ap length said);
        output = sym (unspliced at out) ∙ ap (λ (l : List ℕ). spliced at l out) (sym said);
      }

-- ---- what is said to a byte is at most one answer

response_few : (bs : List ℕ) (x : Option Request) → length (response_to bs x).output ≤ 33
response_few bs none = omega arith
response_few bs (some r) = answer_length (reply_to bs r.call r.priorities).answer

answer_few : (k : Kept) → length (end_line k).output ≤ 33
unfolding end_line respond
answer_few k =
    choose_cases (λ (s : Response). length s.output ≤ 33) _ _ _ (λ _. response_few k.bytes (line_of (take k.begun k.line))) (λ _. omega arith)

said_few : (k : Kept) (b : ℕ) → length (said_to k b) ≤ 33
unfolding said_to
said_few k b = choose_cases (λ (l : List ℕ). length l ≤ 33) _ _ _ (λ _. answer_few k) (λ _. omega arith)

pub part_few : (k : Kept) (input : List ℕ) → length (said_to_part k input) ≤ 33 * length input
unfolding said_to_part
part_few k [] = omega arith
part_few k (b ∷ bs) =
    omega (arith, length-append (said_to k b) (said_to_part (after_byte k b) bs), said_few k b, part_few (after_byte k b) bs)

-- ---- where taking stops

pub taken_none : (k : Kept) (input : List ℕ) (n room : ℕ) → length input ≤ n → taken_of k (drop n input) room ≡ 0
unfolding taken_of
taken_none k input n room h = ap (λ (l : List ℕ). taken_of k l room) (drop_of_length-le input h)

pub taken_full : (k : Kept) (input : List ℕ) (room : ℕ) → room < 33 → taken_of k input room ≡ 0
unfolding taken_of
taken_full k [] room h = refl
taken_full k (b ∷ bs) room h = if_no _ _ (lt-leb 33 room h)

taken_byte : (k : Kept) (b : ℕ) (bs : List ℕ) (room : ℕ) → 33 ≤ room
    → taken_of k (b ∷ bs) room ≡ suc (taken_of (after_byte k b) bs (room - length (said_to k b)))
unfolding taken_of
taken_byte k b bs room h = if_le 33 room _ _ h

pub taken_within : (k : Kept) (input : List ℕ) (room : ℕ) → taken_of k input room ≤ length input
unfolding taken_of
taken_within k [] room = omega arith
taken_within k (b ∷ bs) room =
    choose_cases (λ (n : ℕ). n ≤ suc (length bs)) _ _ _
    (λ _. omega (arith, taken_within (after_byte k b) bs (room - length (said_to k b)))) (λ _. omega arith)

-- ---- the turns of the loop over a part

-- what holds at each turn, and after the last
pub record Underway (k : Kept) (input out₀ : List ℕ) (k' : Kept) (out : List ℕ) (taken at : ℕ) : Type 0 where
  pub output : length out ≡ length out₀
  pub inside : taken ≤ length input
  pub fits : at ≤ length out₀
  pub stands : k' ≡ after_part k (take taken input)
  pub ends : at ≡ length (said_to_part k (take taken input))
  pub text : out ≡ spliced 0 (said_to_part k (take taken input)) out₀
  pub rest : taken_of k input (length out₀) ≡ taken + taken_of k' (drop taken input) (length out₀ - at)

pub underway_none : (k : Kept) (input out : List ℕ) → Underway k input out k out 0 0
unfolding after_part said_to_part
underway_none k input out =
    let room : length out ≡ length out - 0 = omega arith in
    record {
      output = refl;
      inside = omega arith;
      fits = omega arith;
      stands = refl;
      ends = refl;
      text = sym (unspliced 0 out);
      rest = omega (arith, ap (taken_of k input) room);
    }

module _ (k : Kept) (input : List ℕ) (n : ℕ) (more : n < length input) where
  byte : ℕ
  byte = get_or input n 0

  one_byte : take (n + 1) input ≡ take n input ++ byte ∷ []
  unfolding byte
  one_byte = ap (λ (j : ℕ). take j input) (add-one n) ∙ take-suc input n 0 more

  next_byte : drop n input ≡ byte ∷ drop (n + 1) input
  unfolding byte
  next_byte = drop-cons input n 0 more ∙ ap (λ (j : ℕ). get_or input n 0 ∷ drop j input) (sym (add-one n))

  after_more : after_part k (take (n + 1) input) ≡ after_byte (after_part k (take n input)) byte
  unfolding after_part
  after_more = ap (after_part k) one_byte ∙ after_append k (take n input) (byte ∷ [])

  said_more : said_to_part k (take (n + 1) input) ≡ said_to_part k (take n input) ++ said_to (after_part k (take n input)) byte
  unfolding said_to_part
  said_more =
      ap (said_to_part k) one_byte ∙ said_append k (take n input) (byte ∷ [])
      ∙ ap (λ (l : List ℕ). said_to_part k (take n input) ++ l) (append-nil (said_to (after_part k (take n input)) byte))

  pub underway_more : (out₀ : List ℕ) (here : Kept) (out : List ℕ) (k' : Kept) (out' : List ℕ) (at end : ℕ) → Underway k input out₀ here out n at
      → 33 ≤ length out - at
      → Took here (get_or input n 0) at end k' out out'
      → length out' ≡ length out
      → Underway k input out₀ k' out' (n + 1) end
  unfolding byte
  underway_more out₀ here out k' out' at end i room t output =
      let said : List ℕ = said_to here byte in
      let fits = spliced_fits at said out (omega (arith, i.fits, i.output)) out' output t.output in
      let before : List ℕ = said_to_part k (take n input) in
      let written = text_more 0 before said out₀ out out' at end (omega (arith, i.ends, i.fits)) (omega (arith, i.ends), i.text) (t.ends, t.output) in
      let whole : before ++ said ≡ said_to_part k (take (n + 1) input) =
      ap (λ (s : Kept). before ++ said_to s byte) i.stands ∙ sym said_more in
      let left : length out₀ - at - length said ≡ length out₀ - end = omega (arith, t.ends) in
      record {
        output = output ∙ i.output;
        inside = omega arith;
        fits = omega (arith, t.ends, i.output);
        stands = t.kept ∙ ap (λ (s : Kept). after_byte s byte) i.stands ∙ sym after_more;
        ends = omega (arith, written.0, ap length whole);
        text = written.1 ∙ ap (λ (l : List ℕ). spliced 0 l out₀) whole;
        rest =
            i.rest
            ∙ omega (
              arith,
              ap (λ (l : List ℕ). taken_of here l (length out₀ - at)) next_byte
                  ∙ taken_byte here byte (drop (n + 1) input) (length out₀ - at) (omega (arith, i.output))
                  ∙ ap (λ (s : Kept). suc (taken_of s (drop (n + 1) input) (length out₀ - at - length said))) (sym t.kept)
                  ∙ ap (λ (j : ℕ). suc (taken_of k' (drop (n + 1) input) j)) left,
            );
      }

-- the turns end where nothing more is taken
pub fed_is : {k k' : Kept} {input out₀ out : List ℕ} {taken at : ℕ} → Underway k input out₀ k' out taken at
    → taken_of k' (drop taken input) (length out₀ - at) ≡ 0
    → FedIs (record { taken = taken; written = at }) k input k' out₀ out
fed_is i e = record { taken = omega (arith, i.rest); kept = i.stands; written = i.ends; output = i.text }

pub fed_all : {k k' : Kept} {input out₀ out : List ℕ} {taken at : ℕ} → Underway k input out₀ k' out taken at
    → taken ≡ length input
    → taken_of k' (drop taken input) (length out₀ - at) ≡ 0
    → FedIs (record { taken = length input; written = at }) k input k' out₀ out
fed_all {k} {k'} {input} {out₀} {out} {taken} {at} i all e =
    subst (λ (n : ℕ). FedIs (record { taken = n; written = at }) k input k' out₀ out) all (fed_is i e)

-- ---- what feeding a part did

module _ {r : Fed} {k k' : Kept} {input before out : List ℕ} (f : FedIs r k input k' before out) where
  pub fed_inside : r.taken ≤ length input
  fed_inside = omega (arith, f.taken, taken_within k input (length before))

  -- with room for an answer something is taken
  pub fed_some : 33 ≤ length before → 1 ≤ length input → 1 ≤ r.taken
  fed_some room h = omega (arith, f.taken, one input h)
    where
      one : (l : List ℕ) → 1 ≤ length l → 1 ≤ taken_of k l (length before)
      one [] l = absurd (omega arith)
      one (b ∷ bs) l = omega (arith, taken_byte k b bs (length before) room)

  module _ (same : length out ≡ length before) where
    pub fed_fits : r.written ≤ length before
    fed_fits = omega (arith, f.written, spliced_fits 0 (said_to_part k (take r.taken input)) before (omega arith) out same f.output)

  pub fed_text : take r.written out ≡ said_to_part k (take r.taken input)
  fed_text =
      let said : List ℕ = said_to_part k (take r.taken input) in
      let end : r.written ≡ 0 + length said = omega (arith, f.written) in
      ap (λ (l : List ℕ). take r.written l) f.output
      ∙ ap (λ (n : ℕ). take n (spliced 0 said before)) end
      ∙ front 0 said before (omega arith)

-- ---- the end of the input

module _ (k : Kept) where
  pub end_none : k.begun ≡ 0 → (out : List ℕ) → Writes (at_end k) 0 0 k.bytes out out
  unfolding at_end
  end_none e out = writes_same (sym (if_eq k.begun 0 _ _ e)) (record { bytes = refl; ends = refl; output = sym (unspliced 0 out) })

  pub at_end_few : length (at_end k).output ≤ 33
  unfolding at_end
  at_end_few = choose_cases (λ (s : Response). length s.output ≤ 33) _ _ _ (λ _. omega arith) (λ _. answer_few k)

  pub end_some : (k.begun ≡ 0 → ⊥) → {end : ℕ} {bs before out : List ℕ} → Writes (end_line k) 0 end bs before out
      → Writes (at_end k) 0 end bs before out
  unfolding at_end
  end_some h w = writes_same (sym (if_ne k.begun 0 _ _ h)) w
