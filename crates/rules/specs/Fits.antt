-- Each number of a call is one that a u32 holds. Priorities need no such test: above 255 they are refused.
use Rattle.std.specs.Prelude.{Bool, true, List, [], ◌∷◌, ℕ, leb}
use Rattle.laws.specs.Choose.{◌and◌}
use Rattle.rules.specs.declared.Wait.{Wait}
use Rattle.rules.specs.declared.Wait.TheVariants.{Poll, Forever, Ticks}
use Rattle.rules.specs.declared.Call.{Call}
use Rattle.rules.specs.declared.Call.TheVariants.{Start, Create, Ident, Delete, Obtain, Release, Flush, Tick}
use Rattle.rules.specs.Numbers.{max_number}
use Rattle.rules.specs.Runs.{Request}

abbrev pub fits : ℕ → Bool
fits n = leb n max_number

abbrev pub wait_fits : Wait → Bool
wait_fits Poll = true
wait_fits Forever = true
wait_fits (Ticks n) = fits n

abbrev pub call_fits : Call → Bool
call_fits (Start slots) = fits slots
call_fits (Create caller name count attributes maximum) = fits caller and fits name and fits count and fits attributes and fits maximum
call_fits (Ident name) = fits name
call_fits (Delete caller id) = fits caller and fits id
call_fits (Obtain caller id wait) = fits caller and fits id and wait_fits wait
call_fits (Release caller id) = fits caller and fits id
call_fits (Flush caller id) = fits caller and fits id
call_fits Tick = true

-- so of every call of a run
unfoldable pub calls_fit : List Request → Bool
calls_fit [] = true
calls_fit (r ∷ rs) = call_fits r.call and calls_fit rs
