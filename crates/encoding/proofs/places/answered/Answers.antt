-- `encoding::places::answered` meets its contract: nothing, a place that enters with a grant, or one that moves on.
use Rattle.std.proofs.Common.{◌*◌, refl, ap, ◌∙◌, arith}
use Rattle.sections.specs.Run.{Place}
use Rattle.encoding.proofs.Laid.{place_section}
use Rattle.encoding.proofs.Noting.{noted_none, noted_skip, noted_grant}
use Rattle.encoding.proofs.places.answered.Goals as goal

pub returns-in-100 : goal.returns-in-100
returns-in-100 c =
    let first = c.args in
    λ places₀ grants₀ ps gs R h small few.
    noted_none places₀ grants₀ ps gs first.places.now first.grants.now R first.i first.q first.answer c.in-100.is

pub returns-in-0 : goal.returns-in-0
returns-in-0 c =
    let first = c.args in
    λ places₀ grants₀ ps gs R h small few.
    let read = ap (λ (p : Place). p.section) c.place_at-section.ensures ∙ place_section places₀ ps first.i h first.places.now (2 * first.i) R.places refl (omega arith) in
    noted_grant places₀ grants₀ ps gs first.places.now first.grants.now R first.i first.q first.answer c.in-0.is
    _ read _ _ (c.put_place.ensures places₀ ps R.places h) (c.add_grant.ensures grants₀ gs R.grants (few c.in-0.is))

pub returns-in_default : goal.returns-in_default
returns-in_default c =
    let first = c.args in
    λ places₀ grants₀ ps gs R h small few.
    let read = ap (λ (p : Place). p.section) c.place_at-section.ensures ∙ place_section places₀ ps first.i h first.places.now (2 * first.i) R.places refl (omega arith) in
    let low = small (λ z. omega arith) in
    let next = c.wrapping_add_u32-section in
    noted_skip places₀ grants₀ ps gs first.places.now first.grants.now R first.i first.q first.answer (λ z. omega arith) (λ z. omega arith)
    next.result (omega (arith, next.ensures)) _ (c.put_place-in_default.ensures places₀ ps R.places h)
