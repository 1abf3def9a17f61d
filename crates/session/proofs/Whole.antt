-- However the input is cut into parts, what is said to them from the outset, put together, is the session of the whole.
use mathlib.Core.Path.{◌≡◌, refl, sym, ap, ap₂, subst, ◌∙◌}
use mathlib.Core.Bool.{true, false}
use mathlib.Core.List.{List, [], ◌∷◌, ◌++◌, append_assoc, append-nil}
use mathlib.Core.Logic.{⊎_elim}
use Prim.Native.Nat.{ℕ}
use native.Mathlib.Omega.{arith}
use lib.Dec.{eqb}
use lib.ListN.{length}
use Rattle.laws.proofs.Choose.{if_yes, if_no, if_eq, if_ne, tested}
use Rattle.rules.specs.Machine.{Tables}
use Rattle.rules.specs.Agreement.{Agrees}
use Rattle.tables.specs.Layout.{laid}
use Rattle.line.specs.Line.{onto_first}
use Rattle.session.specs.Session.{lines, answer_to, outputs, session}
use Rattle.session.specs.Kept.{Kept, keeps, outset, Response, end_line, lengthen, after_byte, said_to, after_part, said_to_part, at_end, said_in_parts, Reached}
use Rattle.session.proofs.Feeding.{after_append, said_append}
use Rattle.session.proofs.Standing.{Stands, fresh_stands, outset_stands, end_answers, stands_newline, stands_other, none_begun, none_kept}

-- no newline among the bytes of a line
abbrev pub Plain : List ℕ → Type 0
Plain [] = Unit {0}
Plain (b ∷ bs) = (eqb b 10 ≡ false) × Plain bs

pub plain_more : (bs : List ℕ) (b : ℕ) → Plain bs → eqb b 10 ≡ false → Plain (bs ++ b ∷ [])
plain_more [] b p e = (e, tt)
plain_more (x ∷ bs) b p e = (p.0, plain_more bs b p.1 e)

-- a newline ends the line that has begun
pub lines_newline : (begun rest : List ℕ) (b : ℕ) → Plain begun → eqb b 10 ≡ true → lines (begun ++ b ∷ rest) ≡ begun ∷ lines rest
unfolding lines
lines_newline [] rest b p e = if_yes _ _ e
lines_newline (x ∷ begun) rest b p e = if_no _ _ p.0 ∙ ap (onto_first x) (lines_newline begun rest b p.1 e)

-- and so does the end of the input, where a line has begun
pub lines_end : (b : ℕ) (begun : List ℕ) → Plain (b ∷ begun) → lines (b ∷ begun) ≡ (b ∷ begun) ∷ []
unfolding lines
lines_end b [] p = if_no _ _ p.0
lines_end b (x ∷ begun) p = if_no _ _ p.0 ∙ ap (onto_first b) (lines_end x begun p.1)

at_end_lem : (k : Kept) (t : Tables) (begun : List ℕ) → Stands k t begun → Plain begun → (at_end k).output ≡ outputs t (lines begun)
unfolding at_end outputs lines
at_end_lem k t [] g p = ap (λ (s : Response). s.output) (if_eq k.begun 0 _ _ (none_kept g refl))
at_end_lem k t (b ∷ begun) g p =
    ap (λ (s : Response). s.output) (if_ne k.begun 0 _ _ (λ e. omega (arith, ap length (none_begun g e))) ∙ end_answers g)
    ∙ sym (ap (outputs t) (lines_end b begun p) ∙ append-nil (answer_to t (b ∷ begun)).output)

-- what is said to the bytes to come, and at their end
abbrev pub said_to_rest : Kept → List ℕ → List ℕ
said_to_rest k rest = said_to_part k rest ++ (at_end (after_part k rest)).output

module _ (k : Kept) (b : ℕ) (bs : List ℕ) where
  first_byte : (out : List ℕ) (k' : Kept) → said_to k b ≡ out → after_byte k b ≡ k' → said_to_rest k (b ∷ bs) ≡ out ++ said_to_rest k' bs
  unfolding said_to_part after_part
  first_byte out k' e f =
      append_assoc (said_to k b) (said_to_part (after_byte k b) bs) (at_end (after_part (after_byte k b) bs)).output
      ∙ ap₂ (λ (l : List ℕ) (m : Kept). l ++ said_to_rest m bs) e f

  module _ (t : Tables) (begun : List ℕ) (g : Stands k t begun) where
    newline : Plain begun → eqb b 10 ≡ true
        → said_to_rest (keeps (end_line k).bytes k.line 0) bs ≡ outputs (answer_to t begun).tables (lines bs)
        → said_to_rest k (b ∷ bs) ≡ outputs t (lines (begun ++ b ∷ bs))
    unfolding said_to after_byte outputs
    newline p e ih =
        first_byte (end_line k).output (keeps (end_line k).bytes k.line 0) (if_yes _ _ e) (if_yes _ _ e)
        ∙ ap₂ (λ (l m : List ℕ). l ++ m) (ap (λ (s : Response). s.output) (end_answers g)) ih
        ∙ sym (ap (outputs t) (lines_newline begun bs b p e))

    other : eqb b 10 ≡ false → said_to_rest (lengthen k b) bs ≡ outputs t (lines ((begun ++ b ∷ []) ++ bs))
        → said_to_rest k (b ∷ bs) ≡ outputs t (lines (begun ++ b ∷ bs))
    unfolding said_to after_byte
    other e ih =
        first_byte [] (lengthen k b) (if_no _ _ e) (if_no _ _ e)
        ∙ ih ∙ ap (λ (l : List ℕ). outputs t (lines l)) (append_assoc begun (b ∷ []) bs)

-- the rest of the work is the session's output on the line that has begun and the bytes to come
pub said_whole : (k : Kept) (t : Tables) (begun rest : List ℕ) → Stands k t begun → Plain begun
    → said_to_rest k rest ≡ outputs t (lines (begun ++ rest))
unfolding said_to_part after_part
said_whole k t begun [] g p = at_end_lem k t begun g p ∙ sym (ap (λ (l : List ℕ). outputs t (lines l)) (append-nil begun))
said_whole k t begun (b ∷ bs) g p =
    ⊎_elim (λ (e : eqb b 10 ≡ true). newline k b bs t begun g p e
    (said_whole (keeps (end_line k).bytes k.line 0) (answer_to t begun).tables [] bs (stands_newline g) tt))
    (λ (e : eqb b 10 ≡ false). other k b bs t begun g e (said_whole (lengthen k b) t (begun ++ b ∷ []) bs (stands_other g b) (plain_more begun b p e)))
    (tested (eqb b 10))

-- what is said to the bytes as they come, and at their end
pub session_said : (line : List ℕ) → length line ≡ 256 → (input : List ℕ) → said_to_rest (outset line) input ≡ session input
unfolding session
session_said line h input = said_whole (outset line) _ [] input (outset_stands line h) tt

-- ---- parts put together

abbrev pub joined : List (List ℕ) → List ℕ
joined [] = []
joined (p ∷ ps) = p ++ joined ps

parts_whole : (k : Kept) (ps : List (List ℕ)) → said_in_parts k ps ≡ said_to_rest k (joined ps)
unfolding said_in_parts said_to_part after_part
parts_whole k [] = refl
parts_whole k (p ∷ ps) =
    ap (λ (l : List ℕ). said_to_part k p ++ l) (parts_whole (after_part k p) ps)
    ∙ sym (append_assoc (said_to_part k p) _ _)
    ∙ ap₂ (λ (l : List ℕ) (m : Kept). l ++ (at_end m).output) (sym (said_append k p (joined ps))) (sym (after_append k p (joined ps)))

-- for every way of cutting the input
pub session_in_parts : (line : List ℕ) → length line ≡ 256 → (parts : List (List ℕ)) → said_in_parts (outset line) parts ≡ session (joined parts)
session_in_parts line h parts = parts_whole (outset line) parts ∙ session_said line h (joined parts)

-- ---- the tables agree before every line

-- what is kept stands for some tables and some bytes of a line
pub record Standing (k : Kept) : Type 0 where
  pub tables : Tables
  pub begun : List ℕ
  pub stands : Stands k tables begun

stands_after : (k : Kept) (t : Tables) (begun text : List ℕ) → Stands k t begun → Standing (after_part k text)
unfolding after_part after_byte
stands_after k t begun [] g = record { tables = t; begun = begun; stands = g }
stands_after k t begun (b ∷ bs) g =
    ⊎_elim (λ (e : eqb b 10 ≡ true). subst (λ (m : Kept). Standing (after_part m bs)) (sym (if_yes _ _ e))
    (stands_after (keeps (end_line k).bytes k.line 0) (answer_to t begun).tables [] bs (stands_newline g)))
    (λ (e : eqb b 10 ≡ false). subst (λ (m : Kept). Standing (after_part m bs)) (sym (if_no _ _ e))
    (stands_after (lengthen k b) t (begun ++ b ∷ []) bs (stands_other g b)))
    (tested (eqb b 10))

-- whatever the text, from tables that agree
pub reached_stands : (t : Tables) → Agrees t → (k : Kept) → Reached (laid t) k → Standing k
reached_stands t a k r =
    subst Standing (sym r.kept) (stands_after (keeps (laid t) r.line 0) t [] r.text (fresh_stands t a r.line r.full))
