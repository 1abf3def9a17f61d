-- Worked runs, each call beside its code, and the one place that opens every definition to compute them.
use mathlib.Core.Path.{◌≡◌, refl}
use mathlib.Core.Bool.{Bool, true, false}
use mathlib.Core.List.{List, [], ◌∷◌, ◌++◌, map}
use Prim.Native.Nat.{ℕ}
use lib.IntN.{ℤ, pos}
use lib.ListN.{replicate}
use Rattle.rules.specs.declared.Call.TheVariants.{Create, Delete, Flush, Tick}
use Rattle.rules.specs.Machine.{unstarted, task_of, names, next}
use Rattle.rules.proofs.Asking.{ask, start_with, answers_of}
use Rattle.mapping.specs.Mapping.{list_length, entry_of, is_mappable, is_new, entry_agrees, list_agrees, forgotten}
use Rattle.itron.specs.declared.Reference.{Reference}
use Rattle.itron.specs.Codes.{minus, e_ok, e_sys, e_nomem, e_rsatr, e_par, e_id, e_noexs, e_obj, e_ctx, e_qovr, e_dlt, e_tmout, e_rlwai, began, code_of, status_code}
use Rattle.itron.specs.Calls.{cre_refusal, cre_sem, del_refusal, del_sem, sig_refusal, sig_sem, wait_for, twai_refusal, twai_sem, told_nothing, ref_sem, delete_mapped}
use Rattle.family.specs.Family.{Itron, called, codes, Event}
use Rattle.family.specs.Family.Itron.{CreSem, DelSem, SigSem, WaiSem, PreqSem, TwaiSem}
use Rattle.family.specs.Family.Event.{Family, DeleteMapped, Classic}
use Rattle.family.proofs.Runs.{Both, both_after, both_after_all, both_code}

-- what a run leaves, from the machine not yet started and a list of nothing; to unfold it is to unfold every definition
unfoldable pub run_of : List Event → Both
unfolding answers_of is_mappable is_new entry_agrees list_agrees forgotten code_of status_code cre_refusal cre_sem del_refusal del_sem sig_refusal sig_sem wait_for
    twai_refusal twai_sem ref_sem delete_mapped called codes both_after both_after_all
run_of events = both_after_all (record { tables = unstarted; list = replicate list_length 0 }) events

infixr 70 ◌gives◌
record Line : Type 0 where
  call : Itron
  code : ℤ

abbrev ◌gives◌ : Itron → ℤ → Line
call gives code = record { call = call; code = code }

-- the codes of calls, each on what the one before left
unfoldable codes_of : Both → List Line → List ℤ
codes_of b [] = []
codes_of b (l ∷ ls) = both_code b l.call ∷ codes_of (both_after b (Family l.call)) ls

expected : List Line → List ℤ
expected = map (λ l. l.code)

-- two tasks and two slots
abbrev pub begun : Event
begun = Classic (start_with 2 (1 ∷ 2 ∷ []))

abbrev ran : List Line → Both
ran lines = run_of (begun ∷ map (λ l. Family l.call) lines)

-- a semaphore is made, and signalled up to its maximum
abbrev first : List Line
first = CreSem 1 1 0 (pos 0) (pos 1) gives e_ok ∷ SigSem 0 1 gives e_ok ∷ SigSem 0 1 gives e_qovr ∷ []

-- it is deleted, its semid used again, and a wait begins
abbrev again : List Line
again =
    DelSem 1 1 gives e_ok
    ∷ DelSem 1 1 gives e_noexs
    ∷ CreSem 1 1 1 (pos 0) (pos 1) gives e_ok
    ∷ PreqSem 1 1 gives e_tmout
    ∷ TwaiSem 1 1 (pos 3) gives began
    ∷ WaiSem 1 1 gives e_ctx
    ∷ []

-- the wait ends, and each check is met before the next
abbrev last : List Line
last =
    SigSem 2 1 gives e_ok
    ∷ TwaiSem 1 3 (minus 2) gives e_id
    ∷ TwaiSem 1 2 (minus 2) gives e_par
    ∷ TwaiSem 1 2 (minus 1) gives e_noexs
    ∷ CreSem 0 3 2 (minus 1) (pos 0) gives e_ctx
    ∷ CreSem 3 3 2 (minus 1) (pos 0) gives e_id
    ∷ CreSem 1 1 2 (minus 1) (pos 0) gives e_obj
    ∷ CreSem 1 2 2 (minus 1) (pos 0) gives e_rsatr
    ∷ CreSem 1 2 0 (pos 2) (pos 1) gives e_par
    ∷ CreSem 1 2 0 (minus 1) (pos 1) gives e_par
    ∷ CreSem 1 2 0 (pos 0) (pos 0) gives e_par
    ∷ CreSem 1 2 0 (minus 2147483648) (pos 2147483647) gives e_par
    ∷ CreSem 1 2 0 (pos 2147483647) (pos 2147483647) gives e_ok
    ∷ SigSem 0 2 gives e_qovr
    ∷ SigSem 3 2 gives e_id
    ∷ TwaiSem 1 2 (minus 2147483648) gives e_par
    ∷ TwaiSem 1 2 (pos 0) gives e_ok
    ∷ TwaiSem 1 1 (pos 0) gives e_tmout
    ∷ TwaiSem 1 1 (pos 2147483647) gives began
    ∷ []

run_codes : codes_of (ran []) (first ++ again ++ last) ≡ expected (first ++ again ++ last)
unfolding run_of codes_of expected
run_codes = refl

-- the semid has come back, the identifier has not
first_identifier : entry_of (ran first).list 1 ≡ 65537
unfolding run_of
first_identifier = refl

second_identifier : entry_of (ran (first ++ again)).list 1 ≡ 131073
unfolding run_of
second_identifier = refl

-- what task 1 answers as a code: while it waits, and after each way in which a wait ends
abbrev answer_after : List Event → ℤ
answer_after more = code_of (task_of (run_of (begun ∷ Family (CreSem 1 1 0 (pos 0) (pos 1)) ∷ Family (TwaiSem 1 1 (pos 2)) ∷ more)).tables 1).answer

waits_on_lem : answer_after (Classic (ask Tick) ∷ []) ≡ began
unfolding run_of
waits_on_lem = refl

is_signalled : answer_after (Family (SigSem 2 1) ∷ []) ≡ e_ok
unfolding run_of
is_signalled = refl

times_out : answer_after (Classic (ask Tick) ∷ Classic (ask Tick) ∷ []) ≡ e_tmout
unfolding run_of
times_out = refl

is_deleted : answer_after (Family (DelSem 2 1) ∷ []) ≡ e_dlt
unfolding run_of
is_deleted = refl

is_flushed : answer_after (Classic (ask (Flush 2 65537)) ∷ []) ≡ e_rlwai
unfolding run_of
is_flushed = refl

-- the slots have run out
no_slot : both_code (run_of (begun ∷ Classic (ask (Create 1 7 0 0 1)) ∷ Classic (ask (Create 1 8 0 0 1)) ∷ [])) (CreSem 1 1 0 (pos 0) (pos 1)) ≡ e_nomem
unfolding run_of
no_slot = refl

-- Classic delete of a mapped semaphore: with the list the semid is free, without it the list no longer agrees
with_the_list : both_code (run_of (begun ∷ Family (CreSem 1 1 0 (pos 0) (pos 1)) ∷ DeleteMapped 1 65537 ∷ [])) (CreSem 1 1 0 (pos 0) (pos 1)) ≡ e_ok
unfolding run_of
with_the_list = refl

without_the_list : both_code (run_of (begun ∷ Family (CreSem 1 1 0 (pos 0) (pos 1)) ∷ Classic (ask (Delete 1 65537)) ∷ [])) (CreSem 1 2 0 (pos 0) (pos 1)) ≡ e_sys
unfolding run_of
without_the_list = refl

-- tmout -1 outlasts ticks
waits_for_ever : code_of (task_of
    (run_of (begun ∷ Family (CreSem 1 1 0 (pos 0) (pos 1)) ∷ Family (TwaiSem 1 1 (minus 1)) ∷ Classic (ask Tick) ∷ Classic (ask Tick) ∷ [])).tables 1).answer
    ≡ began
unfolding run_of
waits_for_ever = refl

-- the arguments are looked at before the slots
par_before_nomem : both_code (run_of (begun ∷ Classic (ask (Create 1 7 0 0 1)) ∷ Classic (ask (Create 1 8 0 0 1)) ∷ [])) (CreSem 1 1 0 (pos 2) (pos 1)) ≡ e_par
unfolding run_of
par_before_nomem = refl

-- a list that does not agree is told before the caller
sys_before_ctx : both_code (run_of (begun ∷ Family (CreSem 1 1 0 (pos 0) (pos 1)) ∷ Classic (ask (Delete 1 65537)) ∷ [])) (CreSem 0 2 0 (pos 0) (pos 1)) ≡ e_sys
unfolding run_of
sys_before_ctx = refl

-- before start there is no task and no semid
before_start : codes_of (run_of []) (CreSem 0 1 0 (pos 0) (pos 1) gives e_ctx ∷ CreSem 1 1 0 (pos 0) (pos 1) gives e_id ∷ SigSem 0 1 gives e_id ∷ [])
    ≡ e_ctx ∷ e_id ∷ e_id ∷ []
unfolding run_of codes_of
before_start = refl

-- task 2 waits, and then task 1, which is more urgent: who is next after a signal has the semaphore
abbrev served_of : ℕ → ℕ
served_of sematr =
    next (run_of (begun ∷ Family (CreSem 1 1 sematr (pos 0) (pos 1)) ∷ Family (WaiSem 2 1) ∷ Family (WaiSem 1 1) ∷ Family (SigSem 0 1) ∷ [])).tables

-- sematr 0 serves by arrival, 1 by priority
by_arrival : served_of 0 ≡ 2
unfolding run_of
by_arrival = refl

by_priority_lem : served_of 1 ≡ 1
unfolding run_of
by_priority_lem = refl

-- ---- ref_sem

abbrev told : List Event → ℕ → ℕ → Reference
told events caller semid = let b = run_of (begun ∷ events) in ref_sem b.tables b.list caller semid

tells_a_count : told (Family (CreSem 1 1 0 (pos 2) (pos 5)) ∷ []) 0 1 ≡ record { code = e_ok; next = 1; exinf = pos 0; wtsk = pos 0; semcnt = pos 2 }
unfolding run_of
tells_a_count = refl

tells_of_a_waiter : told (Family (CreSem 1 1 0 (pos 0) (pos 5)) ∷ Family (WaiSem 1 1) ∷ []) 2 1
    ≡ record { code = e_ok; next = 2; exinf = pos 0; wtsk = pos 1; semcnt = pos 0 }
unfolding run_of
tells_of_a_waiter = refl

tells_nothing : told (Family (CreSem 1 1 0 (pos 2) (pos 5)) ∷ []) 0 2 ≡ told_nothing e_noexs 1
unfolding run_of
tells_nothing = refl

-- ---- Classic delete with the list

-- whether semaphore 65537 is still there, and the entry of semid 1, which stands for it
abbrev left_by : ℕ → ℕ → Bool × ℕ
left_by caller id =
    let b = run_of (begun ∷ Family (CreSem 1 1 0 (pos 0) (pos 1)) ∷ Classic (ask (Create 1 8 0 0 1)) ∷ DeleteMapped caller id ∷ []) in
    (names b.tables 65537, entry_of b.list 1)

-- done it drops the mapping; refused, or of a semaphore that is not mapped, it does not
dropped : left_by 1 65537 ≡ (false, 0)
unfolding run_of
dropped = refl

refused_drops_nothing : left_by 0 65537 ≡ (true, 65537)
unfolding run_of
refused_drops_nothing = refl

unmapped_drops_nothing : left_by 1 65538 ≡ (true, 65537)
unfolding run_of
unmapped_drops_nothing = refl

-- ---- lists that agree, and those that do not

-- five slots: counting, up to the greatest count and by priority; counting with a maximum of one more; binary; simple binary
abbrev five : Both
five =
    run_of
    (Classic (start_with 5 (1 ∷ []))
    ∷ Classic (ask (Create 1 7 0 0 2147483647))
    ∷ Classic (ask (Create 1 8 0 4 1))
    ∷ Classic (ask (Create 1 9 0 0 2147483648))
    ∷ Classic (ask (Create 1 10 1 16 1))
    ∷ Classic (ask (Create 1 11 1 32 1))
    ∷ [])

abbrev agreeing : List ℕ → Bool
agreeing list = list_agrees five.tables list

lists_that_agree : map agreeing (replicate 64 0 ∷ (65538 ∷ 65537 ∷ replicate 62 0) ∷ (0 ∷ 0 ∷ 0 ∷ 0 ∷ 65537 ∷ replicate 59 0) ∷ []) ≡ true ∷ true ∷ true ∷ []
unfolding run_of
lists_that_agree = refl

-- of other lengths, with an entry behind S, one twice, one that was never given, and those of the last three slots
lists_that_do_not : map agreeing
    ([]
    ∷ replicate 63 0
    ∷ replicate 65 0
    ∷ (0 ∷ 0 ∷ 0 ∷ 0 ∷ 0 ∷ 65537 ∷ replicate 58 0)
    ∷ (65537 ∷ 65537 ∷ replicate 62 0)
    ∷ (131073 ∷ replicate 63 0)
    ∷ (65539 ∷ replicate 63 0)
    ∷ (65540 ∷ replicate 63 0)
    ∷ (65541 ∷ replicate 63 0)
    ∷ [])
    ≡ replicate 9 false
unfolding run_of
lists_that_do_not = refl

-- a number that is no task's answer is E_SYS
no_answers : map code_of (1 ∷ 5 ∷ 8 ∷ 14 ∷ 25 ∷ 99 ∷ 101 ∷ 4294967295 ∷ []) ≡ replicate 8 e_sys
unfolding run_of
no_answers = refl
