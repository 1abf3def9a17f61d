use Rattle.std.proofs.Common.{◌≡◌, ℕ, ◌+◌, List, ◌++◌, take, drop, sym, subst, ap, ◌∙◌}
use Rattle.std.proofs.Math.Seq.{take-add}
use Rattle.std.specs.declared.option.Option.{Option}
use Rattle.std.specs.Io.KnownBytes.{Consumes}
use Rattle.std.proofs.KnownBytes.{Consumes-trans}
use Rattle.mast_state.proofs.loading.read_all.Goals as goal

-- what was read stands after what was read before
more : (a b c : Option (List ℕ)) (xs ys : List ℕ) (done n : ℕ) → take done ys ≡ take done xs → Consumes a b (take done xs) → Consumes b c (take n (drop done ys))
    → Consumes a c (take (done + n) ys)
more a b c xs ys done n front first second =
    subst (Consumes a c) (ap (λ (l : List ℕ). l ++ take n (drop done ys)) (sym front) ∙ sym (take-add done n ys)) (Consumes-trans a b c _ _ first second)

pub loop-done-preserved : goal.loop-done-preserved
loop-done-preserved g c = (
  c.in_ok-more.ensures.fits,
  more (g.R.Read.remaining c.args.reader.now) (g.R.Read.remaining c.loop-done.reader) (g.R.Read.remaining c.read_at.new.reader) c.loop-done.file c.read_at.new.file
      c.loop-done.done c.in_ok-more.more c.in_ok-more.ensures.front c.loop-done.invariant.1 c.in_ok-more.ensures.read,
)
