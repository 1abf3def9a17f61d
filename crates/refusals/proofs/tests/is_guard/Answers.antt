use Rattle.std.proofs.Common.{eqb, sym, refl, ap, ◌∙◌, arith}
use Rattle.rules.specs.Numbers.{is_binary}
use Rattle.tables.specs.declared.Head.{Head}
use Rattle.encoding.proofs.Every.{both, first}
use Rattle.refusals.proofs.Guards.{guard_none, slot_within, guard_slot}
use Rattle.refusals.proofs.tests.is_guard.Goals as goal

pub returns-in_default : goal.returns-in_default
returns-in_default c = guard_none c.args.v.bytes.now c.args.id 0 (sym c.in_default.ensures) refl

pub head-s-requires : goal.head-s-requires
head-s-requires c =
    let slot = slot_within c.args.v.bytes.now c.args.id _ c.in-Some.ensures.0 (λ z. omega (arith, c.in-Some.ensures.1)) in
    omega (arith, slot.0, slot.1, c.args.v.sized.slots)

pub returns-then-is_binary : goal.returns-then-is_binary
returns-then-is_binary c =
    let guard = guard_slot c.args.v.bytes.now c.args.id _ c.in-Some.ensures.0 (λ z. omega (arith, c.in-Some.ensures.1)) _ refl in
    both _ _ _ _ (c.is_binary.ensures ∙ ap (λ (h : Head). is_binary h.attributes) c.head-s.ensures) c.if-is_binary.true
    (ap (λ (h : Head). eqb h.owner 0) c.head-s.ensures)
    ∙ sym guard

pub returns-else-is_binary : goal.returns-else-is_binary
returns-else-is_binary c =
    let guard = guard_slot c.args.v.bytes.now c.args.id _ c.in-Some.ensures.0 (λ z. omega (arith, c.in-Some.ensures.1)) _ refl in
    first _ _ _ (c.is_binary.ensures ∙ ap (λ (h : Head). is_binary h.attributes) c.head-s.ensures) c.if-is_binary.false ∙ sym guard
