-- What is handed to the writer: the whole report of what was read, which is what the program prints for some text.
use Rattle.std.proofs.Common.{◌≡◌, ℕ, ◌≤◌, List, ◌++◌, Result, Ok, Err, IfOk, Some, None, inl, inr, refl, sym, ap, subst, ◌∙◌, length, take, drop, replicate, arith, length-append, length-take-le, take_at}
use Rattle.std.specs.Prelude.{[], IfSome, MatchResult, is_ok}
use Rattle.std.proofs.Math.ListN.{length-replicate}
use Rattle.std.specs.declared.option.Option.{Option}
use Rattle.std.specs.Io.KnownBytes.{Consumes, Appends}
use Rattle.std.proofs.KnownBytes.{Consumes-whole}
use Rattle.report.specs.Report.{Report, report_text, Reported}
use Rattle.text.specs.Reading.{Room, Outcome, Reading, read_text}
use Rattle.text.specs.Reading.Outcome.{Says, Fault}
use Rattle.text.specs.Feeding.{Lent, room_of}
use Rattle.mast_sections.specs.Taken.{SaidBy, SaidByAll}
use Rattle.playing.specs.Streams.{WritesAll}
use Rattle.mast_sections.specs.Program.{room, printed, printed_of, program, HasRoom, Shows, Prints, Handing, Leaving, Answers, Printed}
use Rattle.mast_sections.specs.declared.RunError.{RunError}
use Rattle.mast_sections.specs.declared.RunError.TheVariants.{Unread, Unended, Unwritten}

-- ---- a report at the front of the output

module _ (r : Report) (before out : List ℕ) (n : ℕ) (w : Reported r before out n) where
  pub report_fits : n ≤ length out
  report_fits = omega (arith, w.0, ap length w.1 ∙ length-append (report_text r) (drop n before))

  pub report_long : n ≡ length (take n out)
  report_long = sym (length-take-le n out report_fits)

  pub shows : (m : ℕ) → m ≡ length (take n out) → Shows m (report_text r) out
  shows m e =
      let all : m ≡ n = e ∙ length-take-le n out report_fits in
      record {
        all = all ∙ w.0;
        front = ap (λ (k : ℕ). take k out) all ∙ ap (take n) w.1 ∙ take_at (report_text r) (drop n before) n (sym w.0);
      }

  pub said_shows : {E : Type 0} (m : Result ℕ E) → IfOk m (λ k. k ≡ length (take n out)) → IfOk m (λ k. Shows k (report_text r) out)
  said_shows (Ok k) e = shows k e
  said_shows (Err x) e = tt

  pub report_is : take n out ≡ report_text r
  report_is = ap (take n) w.1 ∙ take_at (report_text r) (drop n before) n (sym w.0)

pub shown_all : {E : Type 0} (m : Result ℕ E) (report out : List ℕ) → IfOk m (λ k. Shows k report out) → IfOk m (λ k. k ≡ length report)
shown_all (Ok k) report out s = s.all
shown_all (Err x) report out s = tt

-- the front of an array of zeros
pub zeros_front : (n m : ℕ) → n ≤ m → length {A = ℕ} (take n (replicate m 0)) ≡ n
zeros_front n m h = length-take-le {A = ℕ} n (replicate m 0) (omega (arith, length-replicate {A = ℕ} m 0))

-- ---- what a text says

module _ (l : Lent) (h : HasRoom l) where
  room_is : room_of l ≡ room
  room_is =
      let c = h.cells in
      let s = h.scripts in
      let e = h.events in
      cc

  prints : (what : Outcome) → SaidBy (room_of l) what → (n : ℕ) → n ≡ length (printed_of what) → Prints n
  unfolding program
  prints what s n e =
      record {
        text = s.text;
        all = e ∙ ap (λ (o : Outcome). length (printed_of o)) (sym s.says ∙ ap (λ (x : Room). read_text x s.text) room_is);
      }

  pub prints_read : (r : Reading) → SaidBy (room_of l) (Says r) → (n : ℕ) → n ≡ length (printed r) → Prints n
  prints_read r s n e = prints (Says r) s n e

  pub prints_nothing : (line fault : ℕ) → SaidBy (room_of l) (Fault line fault) → Prints 0
  prints_nothing line fault s = prints (Fault line fault) s 0 refl

-- ---- all of some bytes, or a front of them

pub writes_as : {T E : Type 0} (r : Result T E) (w w' : Option (List ℕ)) {xs ys : List ℕ} → xs ≡ ys → WritesAll r w w' xs → WritesAll r w w' ys
writes_as r w w' e h = subst (WritesAll r w w') e h

-- ---- what there was to read

-- what holds of a front whatever follows holds of the whole
of_front : (a b : Option (List ℕ)) (bs : List ℕ) (P : List ℕ → Type 0) → Consumes a b bs → ((rest : List ℕ) → P (bs ++ rest)) → IfSome a P
of_front None b bs P c h = tt
of_front (Some x) None bs P c h = absurd c
of_front (Some x) (Some y) bs P c h = subst P (sym c) (h y)

module _ (l : Lent) (h : HasRoom l) (u u' w w' : Option (List ℕ)) where
  in_room : (what : Outcome) → SaidByAll (room_of l) what u u' → SaidByAll room what u u'
  in_room what s = subst (λ (x : Room). SaidByAll x what u u') (room_is l h) s

  pub handing : (what : Outcome) → SaidByAll (room_of l) what u u' → (n : ℕ) → n ≡ length (printed_of what) → Appends w w' (printed_of what) → Handing n u u' w w'
  handing what s n e a = record { what = what; said = in_room what s; all = e; once = a }

-- where it is known what there is to read
module _ (u u' w w' : Option (List ℕ)) (n : ℕ) (h : Handing n u u' w w') where
  abbrev IsPrinted : List ℕ → Type 0
  IsPrinted text = (n ≡ length (program text)) × Appends w w' (program text)

  prints_as : (text : List ℕ) → read_text room text ≡ h.what → IsPrinted text
  unfolding program
  prints_as text e =
      let same = ap printed_of (sym e) in
      (h.all ∙ ap (length {A = ℕ}) same, subst (Appends w w') same h.once)

  pub printed_known : IfSome u IsPrinted
  printed_known =
      elim h.said.whole [
        | inl end ↦ Consumes-whole u u' h.said.said.text IsPrinted h.said.read end (prints_as h.said.said.text h.said.said.says)
        | inr rest ↦ of_front u u' h.said.said.text IsPrinted h.said.read (λ more. prints_as (h.said.said.text ++ more) (rest more))
      ]

-- what is printed of a known text follows from what is written of what there was to read
module _ (u u' w w' : Option (List ℕ)) where
  pub printed_of_known : (r : Result ℕ RunError) → Answers r u u' w w' → IfSome u (λ text. Printed r text w w')
  printed_of_known (Ok n) h = printed_known u u' w w' n h
  printed_of_known (Err (Unread e)) h = left u h
    where
      left : (x : Option (List ℕ)) → Leaving u u' w w' → IfSome x (λ text. Appends w w' [])
      left None h = tt
      left (Some text) h = h.none
  printed_of_known (Err Unended) h = left u h
    where
      left : (x : Option (List ℕ)) → Leaving u u' w w' → IfSome x (λ text. Appends w w' [])
      left None h = tt
      left (Some text) h = h.none
  printed_of_known (Err (Unwritten e)) h = broken u
    where
      broken : (x : Option (List ℕ)) → IfSome x (λ text. Unit {0})
      broken None = tt
      broken (Some text) = tt

-- an error told otherwise leaves what was handed on
pub if_ok_same : {T E D : Type 0} (P : T → Type 0) (r : Result T E) (r' : Result T D) (Q : E → Type 0) → MatchResult r (λ x. r' ≡ Ok x) Q
    → is_ok r' ≡ is_ok r → IfOk r P → IfOk r' P
if_ok_same P (Ok x) r' Q e v p = subst (λ (z : Result _ _). IfOk z P) (sym e) p
if_ok_same P (Err e) (Ok y) Q q v p = cc
if_ok_same P (Err e) (Err d) Q q v p = tt
