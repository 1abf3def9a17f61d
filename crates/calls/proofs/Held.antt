-- The numbers of a call that code holds are those of its type.
use mathlib.Core.Path.{◌≡◌, refl}
use mathlib.Core.Bool.{true}
use mathlib.Core.List.{List}
use native.Mathlib.Omega.{arith}
use borrow.Author.Tests.{le-leb}
use mir.Val.{Val}
use denote.Laws.{Is}
use denote.Enum.Declared.{row, variants}
use denote.Enum.Laws.{Fields, spellss, owed}
use Rattle.laws.proofs.Choose.{both_and}
use Rattle.rules.specs.declared.Wait.{Wait}
use Rattle.rules.specs.declared.Wait.TheVariants.{Poll, Forever, Ticks}
use Rattle.rules.specs.declared.Call.{Call}
use Rattle.rules.specs.declared.Call.TheVariants.{Start, Create, Ident, Delete, Obtain, Release, Flush, Tick}
use Rattle.rules.specs.Numbers.{max_number}
use Rattle.rules.specs.Fits.{wait_fits, call_fits}
use Rattle.rules.specs.contracts.Wait as wait-type
use Rattle.rules.proofs.Wait.TheLaws as wait-laws
use Rattle.rules.specs.contracts.Call as call-type
use Rattle.rules.proofs.Call.TheLaws as call-laws

wait_held : (wait : Wait) (vs : List Val) → Is (row wait-type.the_type) wait vs → wait_fits wait ≡ true
wait_held wait vs is = fits wait (owed wait-type.the_type wait-laws.the_laws wait vs is)
  where
    fits : (wait : Wait) → Fields (variants wait-type.the_type) (spellss (wait-type.the_type).parts wait-laws.the_laws) ((wait-type.the_type).to wait)
        → wait_fits wait ≡ true
    fits Poll f = refl
    fits Forever f = refl
    fits (Ticks n) f = le-leb n max_number (omega arith)

pub call_held : (call : Call) (vs : List Val) → Is (row call-type.the_type) call vs → call_fits call ≡ true
call_held call vs is = fits call (owed call-type.the_type call-laws.the_laws call vs is)
  where
    fits : (call : Call) → Fields (variants call-type.the_type) (spellss (call-type.the_type).parts call-laws.the_laws) ((call-type.the_type).to call)
        → call_fits call ≡ true
    fits (Start slots) f = le-leb slots max_number (omega arith)
    fits (Create caller name count attributes maximum) f =
        both_and (le-leb caller max_number (omega arith))
        (both_and (le-leb name max_number (omega arith)) (both_and (le-leb count max_number (omega arith))
        (both_and (le-leb attributes max_number (omega arith)) (le-leb maximum max_number (omega arith)))))
    fits (Ident name) f = le-leb name max_number (omega arith)
    fits (Delete caller id) f = both_and (le-leb caller max_number (omega arith)) (le-leb id max_number (omega arith))
    fits (Obtain caller id wait) f =
        both_and (le-leb caller max_number (omega arith)) (both_and (le-leb id max_number (omega arith)) (wait_held wait _ f.1.1.0))
    fits (Release caller id) f = both_and (le-leb caller max_number (omega arith)) (le-leb id max_number (omega arith))
    fits (Flush caller id) f = both_and (le-leb caller max_number (omega arith)) (le-leb id max_number (omega arith))
    fits Tick f = refl
