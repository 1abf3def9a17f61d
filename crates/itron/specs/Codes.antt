-- Request 5: ITRON's codes, and what a task's answer is among them.
use Rattle.std.specs.Prelude.{◌≡◌, ℕ, eqb, ℤ, pos, neg_ℤ, Result, Ok, Err}
use Rattle.laws.specs.Choose.{choose}
use Rattle.itron.specs.declared.codes.Code.{Code}
use Rattle.itron.specs.declared.codes.Code.TheVariants.{Sys, NoMem, RsAtr, Par, Id, NoExs, Obj, Ctx, QOvr, Dlt, TmOut, RlWai}
use Rattle.rules.specs.Numbers.{successful, timeout, object_was_deleted, unsatisfied, waiting}

abbrev pub minus : ℕ → ℤ
minus n = neg_ℤ (pos n)

-- error codes are negative numbers, and zero means E_OK
abbrev pub e_ok : ℤ
e_ok = pos 0

abbrev pub e_sys : ℤ
e_sys = minus 5

abbrev pub e_nomem : ℤ
e_nomem = minus 10

abbrev pub e_rsatr : ℤ
e_rsatr = minus 24

abbrev pub e_par : ℤ
e_par = minus 33

abbrev pub e_id : ℤ
e_id = minus 35

abbrev pub e_noexs : ℤ
e_noexs = minus 52

abbrev pub e_obj : ℤ
e_obj = minus 63

abbrev pub e_ctx : ℤ
e_ctx = minus 69

abbrev pub e_qovr : ℤ
e_qovr = minus 73

abbrev pub e_dlt : ℤ
e_dlt = minus 81

abbrev pub e_tmout : ℤ
e_tmout = minus 85

abbrev pub e_rlwai : ℤ
e_rlwai = minus 86

-- the number of each error code
abbrev pub number_of : Code → ℤ
number_of Sys = e_sys
number_of NoMem = e_nomem
number_of RsAtr = e_rsatr
number_of Par = e_par
number_of Id = e_id
number_of NoExs = e_noexs
number_of Obj = e_obj
number_of Ctx = e_ctx
number_of QOvr = e_qovr
number_of Dlt = e_dlt
number_of TmOut = e_tmout
number_of RlWai = e_rlwai

-- what a check gives before the rest: its refusal's number, or theirs
abbrev pub or_rest : {A : Type 0} → Result A Code → ℤ → ℤ
or_rest (Ok x) rest = rest
or_rest (Err e) rest = number_of e

-- and with none behind it
abbrev pub code_or_ok : {A : Type 0} → Result A Code → ℤ
code_or_ok r = or_rest r e_ok

-- a check does what a definition says, whatever checks follow
abbrev pub Checks : {A : Type 0} → Result A Code → (ℤ → ℤ) → Type 0
Checks r check = (rest : ℤ) → or_rest r rest ≡ check rest

-- a wait that begins, or goes on
abbrev pub began : ℤ
began = pos waiting

-- a task's answer as a code: 0 and 100 stay, 6, 7 and 13 are the endings of a wait, any other number is E_SYS
unfoldable pub code_of : ℕ → ℤ
code_of answer =
    choose (eqb answer successful) e_ok
    (choose (eqb answer waiting) began
    (choose (eqb answer timeout) e_tmout
    (choose (eqb answer object_was_deleted) e_dlt
    (choose (eqb answer unsatisfied) e_rlwai e_sys))))

-- a Classic call's status as a code, where one of its refusals has a code of its own
unfoldable pub status_code : ℕ → ℤ → ℕ → ℤ
status_code refusal code status = choose (eqb status refusal) code (code_of status)
