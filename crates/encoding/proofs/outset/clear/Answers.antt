-- `encoding::outset::clear` meets its contract.
use Rattle.std.proofs.Common.{ℕ, replicate, ap, ◌∙◌}
use Rattle.sections.specs.Run.{at}
use Rattle.encoding.specs.Laid.{laid_places}
use Rattle.encoding.proofs.Clearing.{no_grants}
use Rattle.encoding.proofs.outset.clear.Goals as goal

pub returns : goal.returns
returns c =
    let o = c.args in
    let count = c.script_count in record {
      placed = c.clear_places.ensures
          ∙ ap (λ (n : ℕ). laid_places o.places.now (replicate n (at 0 0))) count.ensures;
      ungranted = no_grants o.grants.now _ c.put.ensures;
    }
