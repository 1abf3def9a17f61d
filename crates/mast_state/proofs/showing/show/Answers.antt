use Rattle.std.proofs.Common.{sym, ap, ◌∙◌}
use Rattle.std.specs.Prelude.{is_ok}
use Rattle.mast_state.proofs.FromFile.{shown}
use Rattle.mast_state.proofs.showing.show.Goals as goal

pub returns-in-Ok : goal.returns-in-Ok
returns-in-Ok c = shown (c.load.ensures.when_loaded (sym c.map_err.ensures.variant ∙ ap is_ok c.in_ok-map_err.was)) c.in-Ok.ensures.shows

pub returns-in-Err : goal.returns-in-Err
returns-in-Err c = shown (c.load.ensures.when_loaded (sym c.map_err.ensures.variant ∙ ap is_ok c.in_ok-map_err.was)) c.in-Err.ensures.shows
