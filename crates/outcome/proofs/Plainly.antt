-- The plain run beside a run: what it asks where the run is accepted, that it changes nothing where the run is refused, and the report of both.
use mathlib.Core.Path.{◌≡◌, sym, subst, ap, ap₂, ◌∙◌}
use mathlib.Core.List.{List, [], map}
use Prim.Native.Nat.{ℕ}
use lib.ListN.{length}
use Rattle.rules.specs.declared.Answer.{Answer}
use Rattle.tables.specs.Layout.{model_of}
use Rattle.sections.specs.Scripts.{Memory, plain}
use Rattle.encoding.specs.Rows.{scripts_of}
use Rattle.encoding.specs.Laid.{memory}
use Rattle.refusals.specs.Defined.{input_of, refusal_where}
use Rattle.runner.specs.Turns.{Stepped}
use Rattle.runner.specs.Reply.{refusal_of, RunReply, ran, run_reply}
use Rattle.runner.proofs.Replying.{lent_run, stepped_run, locals_run}
use Rattle.runner.proofs.Demands.{accepted, refused_lent}
use Rattle.plain.specs.Grants.{grants_of, task_in, Tasked}
use Rattle.report.specs.Report.{report_of}
use Rattle.outcome.specs.Outcome.{pairs_in, tasks_in, report_after}
use Rattle.outcome.proofs.Pairs.{pairs_none}

pub granted_plainly : (scripts cells locals grants pairs plain_cells plain_locals : List ℕ) (m : Memory) → pairs ≡ pairs_in grants → plain_cells ≡ cells
    → plain_locals ≡ locals → m ≡ plain (scripts_of scripts) (grants_of pairs) (memory plain_cells plain_locals)
    → m ≡ plain (scripts_of scripts) (grants_of (pairs_in grants)) (memory cells locals)
granted_plainly scripts cells locals grants pairs plain_cells plain_locals m g c l h =
    h ∙ λ i. plain (scripts_of scripts) (grants_of (g i)) (memory (c i) (l i))

module _ (bs scripts events ids cells locals places grants : List ℕ) (a : Answer) (bs' cells' locals' places' grants' : List ℕ)
    (e : ran a bs' cells' locals' places' grants' ≡ run_reply bs scripts events ids cells locals places grants) where
  status_is : a.status ≡ refusal_of bs (input_of scripts ids cells locals) scripts events places
  unfolding run_reply
  status_is = ap (λ (r : RunReply). r.answer.status) e

  run_accepted : a.status ≡ 0 → 0 ≡ refusal_where (model_of bs) (input_of scripts ids cells locals) scripts events places
  run_accepted z = sym (accepted bs scripts events ids cells locals places grants (sym status_is ∙ z))

  module _ (plain_cells plain_locals : List ℕ) (c : plain_cells ≡ cells) (l : plain_locals ≡ locals) where
    pub plain_ready : a.status ≡ 0 → Tasked scripts × Stepped scripts (length plain_cells) × (length plain_locals ≡ 256)
    plain_ready z =
        let zero = run_accepted z in (
          (lent_run (model_of bs) scripts events ids cells locals places zero grants).tasks,
          subst (λ (ns : List ℕ). Stepped scripts (length ns)) (sym c) (stepped_run (model_of bs) scripts events ids cells locals places zero),
          ap length l ∙ locals_run (model_of bs) scripts events ids cells locals places zero,
        )

    pub refused_plainly : (a.status ≡ 0 → ⊥)
        → memory plain_cells plain_locals ≡ plain (scripts_of scripts) (grants_of (pairs_in grants')) (memory cells locals)
    unfolding plain grants_of
    refused_plainly n =
        let left = refused_lent bs scripts events ids cells locals places grants (λ z. n (status_is ∙ z)) in
        let none : pairs_in grants' ≡ [] = ap (λ (r : RunReply). pairs_in r.grants) (e ∙ left) ∙ pairs_none grants in
        ap₂ memory c l ∙ ap (λ (ns : List ℕ). plain (scripts_of scripts) (grants_of ns) (memory cells locals)) (sym none)

  -- what is printed is the report of the reply
  pub report_is : (n : ℕ) (tasks pairs plain_cells plain_locals : List ℕ) → n ≡ tasks_in bs' → tasks ≡ map task_in (scripts_of scripts) → pairs ≡ pairs_in grants'
      → memory plain_cells plain_locals ≡ plain (scripts_of scripts) (grants_of (pairs_in grants')) (memory cells locals)
      → report_of a n cells' locals' tasks places' pairs plain_cells plain_locals
      ≡ report_after (run_reply bs scripts events ids cells locals places grants) scripts cells locals
  unfolding report_after
  report_is n tasks pairs plain_cells plain_locals count named granted plainly =
      let here : report_of a n cells' locals' tasks places' pairs plain_cells plain_locals
      ≡ report_after (ran a bs' cells' locals' places' grants') scripts cells locals =
      λ i. record {
        answer = a;
        count = count i;
        cells = cells';
        locals = locals';
        tasks = named i;
        places = places';
        grants = granted i;
        plain_cells = (plainly i).cells;
        plain_locals = (plainly i).locals;
      }
      in
      here ∙ ap (λ (r : RunReply). report_after r scripts cells locals) e
