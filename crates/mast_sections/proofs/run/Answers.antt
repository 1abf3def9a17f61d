-- What is lent has the program's room, and is that of a machine not yet started, all zeros.
use Rattle.std.proofs.Common.{ℕ, ◌≤◌, length, replicate, refl, sym, arith}
use Rattle.std.proofs.Math.ListN.{length-replicate}
use Rattle.tables.proofs.LayoutStore.{laid_unstarted}
use Rattle.mast_sections.proofs.run.Goals as goal

pub slice_bounds-work-end : goal.slice_bounds-work-end
slice_bounds-work-end g c = sym (length-replicate {A = ℕ} 11148 0)

pub slice_bounds-work-end-2 : goal.slice_bounds-work-end-2
slice_bounds-work-end-2 g c = sym (length-replicate {A = ℕ} 1024 0)

pub slice_bounds-work-end-3 : goal.slice_bounds-work-end-3
slice_bounds-work-end-3 g c = sym (length-replicate {A = ℕ} 1024 0)

pub slice_bounds-work-end-4 : goal.slice_bounds-work-end-4
slice_bounds-work-end-4 g c = sym (length-replicate {A = ℕ} 256 0)

pub slice_bounds-work-end-5 : goal.slice_bounds-work-end-5
slice_bounds-work-end-5 g c = sym (length-replicate {A = ℕ} 32768 0)

pub slice_bounds-work-end-6 : goal.slice_bounds-work-end-6
slice_bounds-work-end-6 g c = sym (length-replicate {A = ℕ} 655360 0)

pub slice_bounds-work-end-7 : goal.slice_bounds-work-end-7
slice_bounds-work-end-7 g c = sym (length-replicate {A = ℕ} 257 0)

pub slice_bounds-work-end-8 : goal.slice_bounds-work-end-8
slice_bounds-work-end-8 g c = sym (length-replicate {A = ℕ} 65536 0)

pub work-requires : goal.work-requires
work-requires g c = (
  record { bytes = sym laid_unstarted; locals = refl; ids = refl; full = length-replicate {A = ℕ} 257 0 },
  record {
    bytes = length-replicate {A = ℕ} 11148 0;
    cells = length-replicate {A = ℕ} 1024 0;
    scripts = length-replicate {A = ℕ} 32768 0;
    events = length-replicate {A = ℕ} 655360 0;
  },
)

some : 1 ≤ length {A = ℕ} (replicate 65536 0)
some = omega (arith, length-replicate {A = ℕ} 65536 0)

pub returns-clause-answers : goal.returns-clause-answers
returns-clause-answers g c = c.work.ensures.answers some

pub returns-clause-printed : goal.returns-clause-printed
returns-clause-printed g c = c.work.ensures.printed some
