use Rattle.std.proofs.Common.{arith, sym, length-take-le, subst}
use Rattle.std.specs.Io.KnownBytes.{Appends}
use Rattle.playing.specs.Streams.{AppendsFront}
use Rattle.mast_state.proofs.FromFile.{loaded_agree, text_fits, text_front, shows}
use Rattle.mast_state.proofs.showing.print.Goals as goal

pub show-length-requires : goal.show-length-requires
show-length-requires g c = (loaded_agree c.requires.0, c.requires.1)

pub slice_bounds-say-end : goal.slice_bounds-say-end
slice_bounds-say-end g c = omega (arith, text_fits _ _ _ _ c.show-length.ensures)

pub slice_bounds-say-end-2 : goal.slice_bounds-say-end-2
slice_bounds-say-end-2 g c =
    sym (length-take-le c.show-length.result c.show-length.new.out (text_fits _ _ _ _ c.show-length.ensures))

pub returns-in-Err-clause-shows : goal.returns-in-Err-clause-shows
returns-in-Err-clause-shows g c =
    shows _ _ _ _ c.show-length.ensures c.show-length.result
    (sym (length-take-le c.show-length.result c.show-length.new.out (text_fits _ _ _ _ c.show-length.ensures)))

pub returns-in-Err-clause-written : goal.returns-in-Err-clause-written
returns-in-Err-clause-written g c = subst (AppendsFront _ _) (text_front _ _ _ _ c.show-length.ensures) c.in-Err.ensures

pub returns-clause-shows : goal.returns-clause-shows
returns-clause-shows g c =
    shows _ _ _ _ c.show-length.ensures c.show-length.result
    (sym (length-take-le c.show-length.result c.show-length.new.out (text_fits _ _ _ _ c.show-length.ensures)))

pub returns-clause-written : goal.returns-clause-written
returns-clause-written g c = subst (Appends _ _) (text_front _ _ _ _ c.show-length.ensures) c.in_default.ensures
