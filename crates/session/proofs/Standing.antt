-- What is kept stands for tables that agree and for the bytes of the line that has begun; each byte keeps it so.
use mathlib.Core.Path.{◌≡◌, refl, sym, ap, subst, ◌∙◌}
use mathlib.Core.List.{List, [], ◌∷◌, ◌++◌}
use mathlib.Core.Option.{Option, none, some}
use Prim.Native.Nat.{ℕ, ◌+◌, ◌≤◌, ◌<◌}
use native.Mathlib.Decide.{dec_lt}
use native.Mathlib.Numerals.{add-one}
use native.Mathlib.Omega.{arith}
use lib.ListN.{length, take, set, length-append, length-set}
use lib.Seq.{take-suc-set, length-take-le}
use Rattle.laws.proofs.Choose.{if_lt, if_not_lt}
use Rattle.rules.specs.Machine.{Tables, unstarted}
use Rattle.rules.specs.Agreement.{Agrees}
use Rattle.rules.specs.Runs.{Request}
use Rattle.rules.proofs.Invariants.Agreeing.{unstarted_agrees}
use Rattle.rules.proofs.Invariants.Kept.{kept}
use Rattle.tables.specs.Layout.{laid}
use Rattle.manager.specs.Entry.{Reply}
use Rattle.line.specs.Line.{line_of}
use Rattle.line.specs.Print.{answer_line}
use Rattle.session.specs.Session.{Answered, answer_of, answer_to}
use Rattle.session.specs.Kept.{Kept, keeps, outset, Response, response_to, respond, end_line, lengthen}
use Rattle.session.proofs.Line.{Fitting, line_fits, too_long}
use Rattle.session.proofs.Held.{entry_is}
use Rattle.session.proofs.Output.{respond_is, end_few, end_many}

pub record Stands (k : Kept) (t : Tables) (begun : List ℕ) : Type 0 where
  pub agrees : Agrees t
  pub bytes : k.bytes ≡ laid t
  pub full : length k.line ≡ 256
  pub few : k.begun ≤ 256 → begun ≡ take k.begun k.line
  pub many : 256 < k.begun → 256 < length begun

-- with no line begun
pub fresh_stands : (t : Tables) → Agrees t → (line : List ℕ) → length line ≡ 256 → Stands (keeps (laid t) line 0) t []
fresh_stands t a line h = record { agrees = a; bytes = refl; full = h; few = λ _. refl; many = λ l. absurd (omega arith) }

pub outset_stands : (line : List ℕ) → length line ≡ 256 → Stands (outset line) unstarted []
outset_stands = fresh_stands unstarted unstarted_agrees

-- ---- a line's answer by the rules is the response on the bytes

abbrev pub on_bytes : Answered → Response
on_bytes a = record { bytes = laid a.tables; output = a.output }

module _ (t : Tables) (a : Agrees t) where
  response_is : (bs : List ℕ) → bs ≡ laid t → (x : Option Request) → response_to bs x ≡ on_bytes (answer_of t x)
  response_is bs e none = ap (λ (l : List ℕ). response_to l none) e
  response_is bs e (some r) =
      ap (λ (o : Reply). record { bytes = o.bytes; output = answer_line o.answer }) (entry_is t a bs e r.call r.priorities)

  answer_agrees : (x : Option Request) → Fitting x → Agrees (answer_of t x).tables
  answer_agrees none f = a
  answer_agrees (some r) f = kept t r.call r.priorities f a

module _ {k : Kept} {t : Tables} {begun : List ℕ} (g : Stands k t begun) where
  pub end_answers : end_line k ≡ on_bytes (answer_to t begun)
  unfolding answer_to
  end_answers =
      elim (dec_lt 256 k.begun) [
        | yes h ↦ end_many k h ∙ response_is t g.agrees k.bytes g.bytes none ∙ ap (λ (x : Option Request). on_bytes (answer_of t x))
            (sym (too_long begun (g.many h)))
        | no d ↦ end_few k (omega arith) ∙ ap (respond k.bytes) (sym (g.few (omega arith))) ∙ respond_is k.bytes begun refl ∙ response_is t
            g.agrees k.bytes g.bytes (line_of begun)
      ]

  -- a newline
  pub stands_newline : Stands (keeps (end_line k).bytes k.line 0) (answer_to t begun).tables []
  unfolding answer_to
  stands_newline =
      record {
        agrees = answer_agrees t g.agrees (line_of begun) (line_fits begun);
        bytes = ap (λ (s : Response). s.bytes) end_answers;
        full = g.full;
        few = λ _. refl;
        many = λ l. absurd (omega arith);
      }

  begun_many : 256 ≤ k.begun → 256 ≤ length begun
  begun_many h =
      elim (dec_lt 256 k.begun) [
        | yes l ↦ omega (arith, g.many l)
        | no d ↦ omega (arith, ap length (g.few (omega arith)), length-take-le k.begun k.line (omega (arith, g.full)))
      ]

  -- any other byte
  pub stands_other : (b : ℕ) → Stands (lengthen k b) t (begun ++ b ∷ [])
  unfolding lengthen
  stands_other b =
      elim (dec_lt k.begun 256) [
        | yes h ↦ subst P (sym (if_lt k.begun 256 _ _ h)) (stored h)
        | no d ↦ subst P
            (sym (if_not_lt k.begun 256 _ _ (omega arith))) (longer (omega arith))
      ]
    where
      P : Kept → Type 0
      P s = Stands s t (begun ++ b ∷ [])

      stored : k.begun < 256 → Stands (keeps k.bytes (set k.line k.begun b) (k.begun + 1)) t (begun ++ b ∷ [])
      stored h =
          record {
            agrees = g.agrees;
            bytes = g.bytes;
            full = length-set k.line k.begun b ∙ g.full;
            few = λ _. ap (λ (x : List ℕ). x ++ b ∷ []) (g.few (omega arith))
                ∙ sym (take-suc-set k.line k.begun b (omega (arith, g.full)))
                ∙ ap (λ (n : ℕ). take n (set k.line k.begun b)) (sym (add-one k.begun));
            many = λ l. absurd (omega arith);
          }

      longer : 256 ≤ k.begun → Stands (keeps k.bytes k.line 257) t (begun ++ b ∷ [])
      longer h =
          record {
            agrees = g.agrees;
            bytes = g.bytes;
            full = g.full;
            few = λ l. absurd (omega arith);
            many = λ _. omega (arith, length-append begun (b ∷ []), begun_many h);
          }

  -- no byte has begun a line exactly where none is kept
  pub none_begun : k.begun ≡ 0 → begun ≡ []
  none_begun e = g.few (omega arith) ∙ ap (λ (n : ℕ). take n k.line) e

  pub none_kept : length begun ≡ 0 → k.begun ≡ 0
  none_kept e =
      elim (dec_lt 256 k.begun) [
        | yes l ↦ absurd (omega (arith, g.many l))
        | no d ↦ omega (arith, ap length (g.few (omega arith)), length-take-le k.begun k.line (omega (arith, g.full)))
      ]
