-- `runner::turns::call_at` meets its contract: the place is put, then the call is made.
use Rattle.std.proofs.Common.{arith}
use Rattle.sections.specs.Run.{moved}
use Rattle.encoding.specs.Laid.{place_of}
use Rattle.runner.proofs.turns.call_at.Goals as goal

pub make_call-requires : goal.make_call-requires
make_call-requires c = (
  c.requires.0,
  record {
    tasks = c.requires.1.tasks;
    places = omega (
      arith,
      c.requires.1.places,
      c.put_place.auto,
    );
  },
)

pub returns : goal.returns
returns c =
    let o = c.args in
    let put = c.put_place in
    let call = c.make_call in record {
      done = (λ places₀ grants₀ s H h room. call.ensures.noted places₀ grants₀ (moved s o.i (place_of o.place) s.memory)
          (record { tables = H.tables; reports = record { places = put.ensures places₀ s.places H.reports.places h; grants = H.reports.grants } })
          room);
      kept = call.ensures.kept;
    }
