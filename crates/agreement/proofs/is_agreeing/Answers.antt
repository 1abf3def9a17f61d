use mathlib.Core.Path.{◌≡◌, ap, sym, ◌∙◌}
use mathlib.Core.Bool.{true, false}
use mathlib.Core.List.{List}
use Prim.Native.Nat.{ℕ}
use native.Mathlib.Omega.{arith}
use Rattle.laws.proofs.Choose.{if_yes, if_no}
use Rattle.tables.specs.Layout.{is_laid, model_of}
use Rattle.tables.proofs.LayoutTest.{laid_bounded}
use Rattle.agreement.specs.Tests.{tables_agree}
use Rattle.agreement.proofs.Bytes.{bytes_tested}
use Rattle.agreement.proofs.is_agreeing.Goals as goal

pub new-requires : goal.new-requires
new-requires c = (laid_bounded _ (sym c.is_layout.ensures ∙ c.if-is_layout.true)).sized

pub do_tables_agree-requires : goal.do_tables_agree-requires
do_tables_agree-requires c = rw c.new.ensures (laid_bounded _ (sym c.is_layout.ensures ∙ c.if-is_layout.true))

pub returns-then-is_layout : goal.returns-then-is_layout
returns-then-is_layout c =
    let laid : is_laid c.args.m.now ≡ true = sym c.is_layout.ensures ∙ c.if-is_layout.true in
    c.do_tables_agree.ensures ∙ ap (λ (bs : List ℕ). tables_agree (model_of bs)) c.new.ensures
    ∙ sym (if_yes _ _ laid) ∙ bytes_tested c.args.m.now (λ k. omega (arith, c.type_inv.m k))

pub returns-else-is_layout : goal.returns-else-is_layout
returns-else-is_layout c =
    let unlaid : is_laid c.args.m.now ≡ false = sym c.is_layout.ensures ∙ c.if-is_layout.false in
    c.if-is_layout.false ∙ sym (if_no _ _ unlaid) ∙ bytes_tested c.args.m.now (λ k. omega (arith, c.type_inv.m k))
