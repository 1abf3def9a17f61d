-- Each code that is listed for a call is given: by some call of its kind, on tables and a list that agree.
use mathlib.Core.Path.{◌≡◌, refl, sym, ap, subst, ◌∙◌}
use mathlib.Core.Bool.{Bool, true, false≢true}
use mathlib.Core.List.{List, [], ◌∷◌, map}
use mathlib.Core.Logic.{⊎_elim}
use Prim.Native.Nat.{ℕ}
use lib.Dec.{eqb}
use lib.IntN.{ℤ, pos, negsuc}
use borrow.Author.Tests.{eqb-true}
use Rattle.laws.specs.Choose.{◌and◌}
use Rattle.laws.proofs.Choose.{if_yes, and_both, or_either}
use Rattle.rules.specs.declared.Call.TheVariants.{Create}
use Rattle.rules.specs.Machine.{Tables}
use Rattle.rules.specs.Agreement.{Agrees}
use Rattle.rules.specs.Fits.{fits}
use Rattle.rules.proofs.Invariants.Agreeing.{true_agrees}
use Rattle.rules.proofs.Asking.{ask, start_with}
use Rattle.tables.specs.Layout.{laid}
use Rattle.calls.proofs.Agreeing.{model_of_agrees, agreeing_bytes}
use Rattle.itron.specs.declared.Coded.{Coded}
use Rattle.itron.specs.declared.Reference.{Reference}
use Rattle.itron.specs.Codes.{minus}
use Rattle.itron.specs.Calls.{ref_sem}
use Rattle.itron_calls.specs.Reply.{both_agree, ListReply, code_reply, ref_reply}
use Rattle.family.specs.Family.{Itron, called, codes, ref_codes, itron_fits}
use Rattle.family.specs.Family.Itron.{CreSem, DelSem, SigSem, WaiSem, PreqSem, TwaiSem}
use Rattle.family.specs.Family.Event.{Family, Classic}
use Rattle.family.specs.Promises.{same_code, is_code, itron_kind, CodeGiven, RefCodeGiven}
use Rattle.family.proofs.Equations.{reply_called}
use Rattle.family.proofs.Replies.{both_laid}
use Rattle.family.proofs.Worked.{run_of}
use Rattle.family.proofs.Runs.{Both, agree_together}

same_code_lem : (y z : ℤ) → same_code y z ≡ true → y ≡ z
same_code_lem (pos a) (pos b) e = ap pos (eqb-true a b e)
same_code_lem (pos a) (negsuc b) e = absurd (false≢true e)
same_code_lem (negsuc a) (pos b) e = absurd (false≢true e)
same_code_lem (negsuc a) (negsuc b) e = ap negsuc (eqb-true a b e)

-- a call on some tables and list
record Witness : Type 0 where
  both : Both
  call : Itron

abbrev on : Both → Itron → Witness
on b call = record { both = b; call = call }

witness_code : Witness → ℤ
witness_code w = (called w.call w.both.tables w.both.list).answer.code

-- every one is of that kind, its numbers are of 32 bits, and its tables and list agree
are_witnesses : ℕ → List Witness → Bool
are_witnesses kind [] = true
are_witnesses kind (w ∷ ws) = (eqb (itron_kind w.call) kind and itron_fits w.call and agree_together w.both) and are_witnesses kind ws

-- laid, they give the same code
laid_code : (w : Witness) → agree_together w.both ≡ true → (code_reply (laid w.both.tables) w.both.list (called w.call)).answer.code ≡ witness_code w
unfolding witness_code
laid_code w a =
    let p = and_both _ _ a in
    ap (λ (r : ListReply Coded). r.answer.code) (reply_called _ _ (both_laid w.both.tables w.both.list p) (called w.call))
    ∙ ap (λ (t : Tables). (called w.call t w.both.list).answer.code) (model_of_agrees w.both.tables (true_agrees _ p.0))

found : (call : Itron) (ws : List Witness) (code : ℤ) → are_witnesses (itron_kind call) ws ≡ true → is_code code (map witness_code ws) ≡ true → CodeGiven call code
unfolding are_witnesses is_code witness_code
found call [] code k i = absurd (false≢true i)
found call (w ∷ ws) code k i =
    ⊎_elim (λ (e : same_code code (witness_code w) ≡ true).
    let right = and_both _ _ (and_both _ _ k).0 in
    let fitting = and_both _ _ right.1 in
    let both = and_both _ _ fitting.1 in
    record {
      bytes = laid w.both.tables;
      are_bytes = agreeing_bytes w.both.tables (true_agrees _ both.0);
      list = w.both.list;
      agree = both_laid w.both.tables w.both.list both;
      other = w.call;
      same_kind = eqb-true _ _ right.0;
      other_fits = fitting.0;
      gives = laid_code w fitting.1 ∙ sym (same_code_lem _ _ e);
    })
    (λ (e : is_code code (map witness_code ws) ≡ true). found call ws code (and_both _ _ k).1 e)
    (or_either _ _ i)

-- two tasks and a slot; with a semaphore in it that semid 1 stands for, or that no semid does; and with task 1 waiting on the former
abbrev fresh : Both
fresh = run_of (Classic (start_with 1 (1 ∷ 2 ∷ [])) ∷ [])

abbrev made : ℕ → Both
made count = run_of (Classic (start_with 1 (1 ∷ 2 ∷ [])) ∷ Family (CreSem 1 1 0 (pos count) (pos 1)) ∷ [])

abbrev taken : Both
taken = run_of (Classic (start_with 1 (1 ∷ 2 ∷ [])) ∷ Classic (ask (Create 1 7 0 0 1)) ∷ [])

abbrev stuck : Both
stuck = run_of (Classic (start_with 1 (1 ∷ 2 ∷ [])) ∷ Family (CreSem 1 1 0 (pos 0) (pos 1)) ∷ Family (WaiSem 1 1) ∷ [])

-- a witness for each listed code, in the list's order
witnesses : Itron → List Witness
witnesses (CreSem caller semid sematr isemcnt maxsem) =
    on fresh (CreSem 1 1 0 (pos 0) (pos 1))
    ∷ on fresh (CreSem 0 1 0 (pos 0) (pos 1))
    ∷ on fresh (CreSem 1 2 0 (pos 0) (pos 1))
    ∷ on (made 0) (CreSem 1 1 0 (pos 0) (pos 1))
    ∷ on fresh (CreSem 1 1 2 (pos 0) (pos 1))
    ∷ on fresh (CreSem 1 1 0 (pos 2) (pos 1))
    ∷ on taken (CreSem 1 1 0 (pos 0) (pos 1))
    ∷ []
witnesses (DelSem caller semid) = on (made 0) (DelSem 1 1) ∷ on (made 0) (DelSem 0 1) ∷ on (made 0) (DelSem 3 1) ∷ on fresh (DelSem 1 1) ∷ []
witnesses (SigSem caller semid) =
    on (made 0) (SigSem 1 1) ∷ on stuck (SigSem 1 1) ∷ on (made 0) (SigSem 0 2) ∷ on fresh (SigSem 0 1) ∷ on (made 1) (SigSem 0 1) ∷ []
witnesses (WaiSem caller semid) =
    on (made 1) (WaiSem 1 1) ∷ on (made 0) (WaiSem 1 1) ∷ on stuck (WaiSem 1 1) ∷ on (made 1) (WaiSem 1 0) ∷ on fresh (WaiSem 1 1) ∷ []
witnesses (PreqSem caller semid) =
    on (made 1) (PreqSem 1 1) ∷ on (made 1) (PreqSem 0 1) ∷ on (made 1) (PreqSem 1 2) ∷ on fresh (PreqSem 1 1) ∷ on (made 0) (PreqSem 1 1) ∷ []
witnesses (TwaiSem caller semid tmout) =
    on (made 1) (TwaiSem 1 1 (pos 5))
    ∷ on (made 0) (TwaiSem 1 1 (pos 5))
    ∷ on (made 1) (TwaiSem 0 1 (pos 5))
    ∷ on (made 1) (TwaiSem 3 1 (pos 5))
    ∷ on fresh (TwaiSem 1 1 (minus 2))
    ∷ on fresh (TwaiSem 1 1 (pos 5))
    ∷ on (made 0) (TwaiSem 1 1 (pos 0))
    ∷ []

codes_are : (call : Itron) → map witness_code (witnesses call) ≡ codes call
unfolding run_of witness_code witnesses
codes_are (CreSem caller semid sematr isemcnt maxsem) = refl
codes_are (DelSem caller semid) = refl
codes_are (SigSem caller semid) = refl
codes_are (WaiSem caller semid) = refl
codes_are (PreqSem caller semid) = refl
codes_are (TwaiSem caller semid tmout) = refl

are_witnesses_lem : (call : Itron) → are_witnesses (itron_kind call) (witnesses call) ≡ true
unfolding run_of are_witnesses itron_kind itron_fits witnesses
are_witnesses_lem (CreSem caller semid sematr isemcnt maxsem) = refl
are_witnesses_lem (DelSem caller semid) = refl
are_witnesses_lem (SigSem caller semid) = refl
are_witnesses_lem (WaiSem caller semid) = refl
are_witnesses_lem (PreqSem caller semid) = refl
are_witnesses_lem (TwaiSem caller semid tmout) = refl

pub codes_given : (call : Itron) (code : ℤ) → is_code code (codes call) ≡ true → CodeGiven call code
codes_given call code i =
    found call (witnesses call) code (are_witnesses_lem call) (subst (λ (l : List ℤ). is_code code l ≡ true) (sym (codes_are call)) i)

-- ---- ref_sem

ref_case : (both : Both) (caller semid : ℕ) (code : ℤ) → agree_together both ≡ true → fits caller ≡ true → fits semid ≡ true
    → same_code code (ref_sem both.tables both.list caller semid).code ≡ true → RefCodeGiven code
unfolding ref_reply
ref_case both caller semid code a c s e = record {
  bytes = laid both.tables;
  are_bytes = agreeing_bytes both.tables agreed;
  list = both.list;
  agree = laid_agree;
  caller = caller;
  caller_fits = c;
  semid = semid;
  semid_fits = s;
  gives =
      ap (λ (r : Reference). r.code) (if_yes _ _ laid_agree)
      ∙ ap (λ (t : Tables). (ref_sem t both.list caller semid).code) (model_of_agrees both.tables agreed) ∙ sym (same_code_lem _ _ e);
}
  where
    agreed : Agrees both.tables
    agreed = true_agrees _ (and_both _ _ a).0

    laid_agree : both_agree (laid both.tables) both.list ≡ true
    laid_agree = both_laid both.tables both.list (and_both _ _ a)

pub ref_codes_given : (code : ℤ) → is_code code ref_codes ≡ true → RefCodeGiven code
unfolding run_of is_code
ref_codes_given code i =
    ⊎_elim (ref_case (made 0) 1 1 code refl refl refl)
    (λ i. ⊎_elim (ref_case stuck 1 1 code refl refl refl)
    (λ i. ⊎_elim (ref_case (made 0) 3 1 code refl refl refl)
    (λ i. ⊎_elim (ref_case fresh 0 1 code refl refl refl) (λ i. absurd (false≢true i)) (or_either _ _ i))
    (or_either _ _ i))
    (or_either _ _ i))
    (or_either _ _ i)
