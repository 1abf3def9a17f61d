-- `calls::ident::ident` meets its contract: the answer to what was found, of tables that are only read.
use mathlib.Core.Path.{sym, ap₂, ◌∙◌}
use Prim.Native.Nat.{ℕ}
use Rattle.rules.specs.declared.Answer.{Answer}
use Rattle.rules.specs.Calls.{answered}
use Rattle.tables.specs.Layout.{model_of}
use Rattle.calls.proofs.Reading.{ident_answer}
use Rattle.calls.proofs.ident.ident.Goals as goal

pub returns : goal.returns
returns c =
    let first = c.args in
    let t = model_of first.m.now in
    let d = c.search-sought.ensures in record {
      replied = record {
        answer =
            (rw c.new.ensures at c.answer.ensures) ∙ ap₂ {C = Answer} (λ (s v : ℕ). (answered s v t).answer) d.done.status d.done.value ∙ sym (ident_answer t first.name);
        bytes = d.done.bytes;
      };
      looked = d.looked;
    }
