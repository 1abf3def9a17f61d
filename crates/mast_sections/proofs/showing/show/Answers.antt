-- The run is that of what was read, with places and grants of 0.
use Rattle.std.proofs.Common.{ℕ, sym, ◌∙◌, arith, length-take-le}
use Rattle.std.proofs.Math.ListN.{length-replicate}
use Rattle.mast_sections.specs.Program.{printed}
use Rattle.mast_sections.proofs.Printing.{zeros_front, shown_all}
use Rattle.mast_sections.proofs.showing.show.Goals as goal

pub slice_bounds-show_run-end : goal.slice_bounds-show_run-end
slice_bounds-show_run-end g c = sym (length-take-le c.args.at.scripts c.args.scripts.now c.requires.0.scripts)

pub slice_bounds-show_run-end-2 : goal.slice_bounds-show_run-end-2
slice_bounds-show_run-end-2 g c = sym (length-take-le c.args.at.events c.args.events.now c.requires.0.events)

pub slice_bounds-show_run-end-3 : goal.slice_bounds-show_run-end-3
slice_bounds-show_run-end-3 g c = sym (length-take-le c.args.at.cells c.args.ids.now (omega (arith, c.requires.0.cells, c.requires.0.ids)))

pub slice_bounds-show_run-end-5 : goal.slice_bounds-show_run-end-5
slice_bounds-show_run-end-5 g c = sym (length-take-le c.args.at.cells c.args.cells.now c.requires.0.cells)

pub slice_bounds-show_run-end-6 : goal.slice_bounds-show_run-end-6
slice_bounds-show_run-end-6 g c = sym (length-replicate {A = ℕ} 16384 0)

pub slice_bounds-show_run-end-7 : goal.slice_bounds-show_run-end-7
slice_bounds-show_run-end-7 g c = sym (length-replicate {A = ℕ} 513 0)

pub slice_bounds-show_run-end-8 : goal.slice_bounds-show_run-end-8
slice_bounds-show_run-end-8 g c = sym (length-replicate {A = ℕ} 8192 0)

pub slice_bounds-show_run-end-9 : goal.slice_bounds-show_run-end-9
slice_bounds-show_run-end-9 g c = sym (zeros_front c.args.at.cells 1024 (omega (arith, c.requires.0.cells, c.requires.1.cells)))

pub slice_bounds-show_run-end-10 : goal.slice_bounds-show_run-end-10
slice_bounds-show_run-end-10 g c = sym (length-replicate {A = ℕ} 256 0)

pub slice_bounds-show_run-end-11 : goal.slice_bounds-show_run-end-11
slice_bounds-show_run-end-11 g c = sym (length-replicate {A = ℕ} 524288 0)

pub show_run-requires : goal.show_run-requires
show_run-requires g c =
    let cells = length-take-le c.args.at.cells c.args.cells.now c.requires.0.cells in
    record {
      bytes = c.requires.1.bytes;
      scripts = omega (
        arith,
        c.requires.0.scripts,
        c.requires.1.scripts,
        length-take-le c.args.at.scripts c.args.scripts.now c.requires.0.scripts,
      );
      cells = omega (arith, c.requires.0.cells, c.requires.1.cells, cells);
      locals = c.requires.0.locals;
      places = length-replicate {A = ℕ} 16384 0;
      grants = length-replicate {A = ℕ} 513 0;
      tasks = length-replicate {A = ℕ} 8192 0;
      plain_cells = zeros_front c.args.at.cells 1024 (omega (arith, c.requires.0.cells, c.requires.1.cells)) ∙ sym cells;
      plain_locals = length-replicate {A = ℕ} 256 0;
      out = length-replicate {A = ℕ} 524288 0;
    }

pub returns-clause-count : goal.returns-clause-count
unfolding printed
returns-clause-count g c = shown_all c.show_run.result _ _ c.show_run.ensures.shows

pub returns-clause-written : goal.returns-clause-written
unfolding printed
returns-clause-written g c = c.show_run.ensures.written
