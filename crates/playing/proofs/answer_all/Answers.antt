use Rattle.std.proofs.Common.{◌≡◌, rules, arith, refl, sym, ap₂, subst, ◌∙◌, ◌≤◌, length, take, List, ℕ, []}
use Rattle.std.specs.declared.option.Option.{Option}
use Rattle.std.specs.Io.KnownBytes.{Consumes, IsAtEnd}
use Rattle.std.proofs.KnownBytes.{Consumes-nil}
use Rattle.session.specs.Kept.{keeps}
use Rattle.session.specs.Feeding.{holding}
use Rattle.playing.specs.Streams.{Feeds, fresh}
use Rattle.playing.proofs.Flowing.{on_err, err_unfinished, feeds_none, none_heard, feeds_more, cut_off, unread, ends_played, ends_broken, ran_broken, ran_ended}
use Rattle.playing.proofs.answer_all.Goals as goal

pub loop-init : goal.loop-init
loop-init g c =
    let line = c.new-line in
    let nothing : fresh c.args.m.now ≡ holding c.args.m.now line.result = ap₂ (keeps c.args.m.now) (sym line.ensures.bytes) (sym line.ensures.length) in (
      refl,
      refl,
      subst (Feeds _ _ _ _ (fresh c.args.m.now)) nothing (feeds_none _ _ (fresh c.args.m.now)),
    )

pub returns-in_err-n-clause-broken : goal.returns-in_err-n-clause-broken
returns-in_err-n-clause-broken g c =
    λ some. let none : Consumes (g.R.Read.remaining c.loop.reader) (g.R.Read.remaining c.hear.new.reader) [] = search rules in
    on_err c.from_residual.result (unread c.loop.invariant.2 _ none)

pub returns-then-n-eq0-clause-played : goal.returns-then-n-eq0-clause-played
returns-then-n-eq0-clause-played g c =
    λ some. let unread : Option (List ℕ) = g.R.Read.remaining c.loop.reader in
    let left : Option (List ℕ) = g.R.Read.remaining c.hear.new.reader in
    let heard : Consumes unread left (take c.in_ok-n.n c.hear.new.input) × (c.in_ok-n.n ≡ 0 → 1 ≤ length c.hear.new.input → IsAtEnd left) = search rules in
    let none = none_heard c.in_ok-n.n unread left c.hear.new.input c.if-n-eq0.true (omega (arith, some)) heard in
    ends_played c.loop.invariant.2 left none.0 _ c.answer_end.ensures.bytes _ c.answer_end.result none.1 c.answer_end.ensures.written

pub returns-then-n-eq0-clause-broken : goal.returns-then-n-eq0-clause-broken
returns-then-n-eq0-clause-broken g c =
    λ some. let unread : Option (List ℕ) = g.R.Read.remaining c.loop.reader in
    let left : Option (List ℕ) = g.R.Read.remaining c.hear.new.reader in
    let heard : Consumes unread left (take c.in_ok-n.n c.hear.new.input) × (c.in_ok-n.n ≡ 0 → 1 ≤ length c.hear.new.input → IsAtEnd left) = search rules in
    let none = none_heard c.in_ok-n.n unread left c.hear.new.input c.if-n-eq0.true (omega (arith, some)) heard in
    ends_broken c.loop.invariant.2 left none.0 _ c.answer_end.ensures.bytes _ c.answer_end.result c.answer_end.ensures.written

pub returns-in_err-answer_part-clause-broken : goal.returns-in_err-answer_part-clause-broken
returns-in_err-answer_part-clause-broken g c =
    λ some. let read : Consumes (g.R.Read.remaining c.loop.reader) (g.R.Read.remaining c.hear.new.reader) (take c.in_ok-n.n c.hear.new.input) = search rules in
    on_err c.from_residual-in_err-answer_part.result (cut_off c.loop.invariant.2 _ {k'' = holding c.answer_part.new.m c.answer_part.new.line} _ read c.in_err-answer_part.ensures.cut)

pub loop-preserved : goal.loop-preserved
loop-preserved g c =
    let read : Consumes (g.R.Read.remaining c.loop.reader) (g.R.Read.remaining c.hear.new.reader) (take c.in_ok-n.n c.hear.new.input) = search rules in (
      omega arith,
      c.answer_part.auto.out ∙ c.loop.invariant.1,
      feeds_more c.loop.invariant.2 _ {k'' = holding c.answer_part.new.m c.answer_part.new.line} _ read c.in_ok-answer_part.ensures.fed,
    )

pub returns-clause-broken : goal.returns-clause-broken
returns-clause-broken g c = λ some. unread c.loop.invariant.2 _ (Consumes-nil _)

-- what is left of the lent bytes, whatever room there is to read

pub returns-in_err-n-clause-ran : goal.returns-in_err-n-clause-ran
returns-in_err-n-clause-ran g c =
    let none : Consumes (g.R.Read.remaining c.loop.reader) (g.R.Read.remaining c.hear.new.reader) [] = search rules in
    ran_broken _ (err_unfinished c.from_residual.result c.from_residual.ensures.0) (unread c.loop.invariant.2 _ none)

pub returns-then-n-eq0-clause-ran : goal.returns-then-n-eq0-clause-ran
returns-then-n-eq0-clause-ran g c = ran_ended c.loop.invariant.2 c.answer_end.ensures.bytes _

pub returns-in_err-answer_part-clause-ran : goal.returns-in_err-answer_part-clause-ran
returns-in_err-answer_part-clause-ran g c =
    let read : Consumes (g.R.Read.remaining c.loop.reader) (g.R.Read.remaining c.hear.new.reader) (take c.in_ok-n.n c.hear.new.input) = search rules in
    ran_broken _ (err_unfinished c.from_residual-in_err-answer_part.result c.from_residual-in_err-answer_part.ensures.0)
    (cut_off c.loop.invariant.2 _ {k'' = holding c.answer_part.new.m c.answer_part.new.line} _ read c.in_err-answer_part.ensures.cut)

pub returns-clause-ran : goal.returns-clause-ran
returns-clause-ran g c = ran_broken _ refl (unread c.loop.invariant.2 _ (Consumes-nil _))
