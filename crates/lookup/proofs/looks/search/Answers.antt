use mathlib.Core.Path.{◌≡◌, sym, ap, subst, ◌∙◌}
use mathlib.Core.List.{List}
use Prim.Native.Nat.{ℕ, ◌+◌, ◌<◌}
use native.Mathlib.Omega.{arith}
use lib.ListN.{length, get_or}
use Rattle.rules.specs.Machine.{free_slot}
use Rattle.rules.proofs.Searching.{is_named}
use Rattle.rules.proofs.Looking.{LooksFrom, looks_first, looks_all, looks_matched, looks_on, looks_more}
use Rattle.tables.specs.Layout.{model_of}
use Rattle.lookup.specs.declared.looks.Look.{Look}
use Rattle.lookup.specs.Search.{next_look, last_look}
use Rattle.lookup.proofs.Model.{length_slots}
use Rattle.lookup.proofs.Answers.{match_test}
use Rattle.lookup.proofs.LastLook.{no_look_lem, look_behind}
use Rattle.lookup.proofs.looks.search.Lts as lts
use Rattle.lookup.proofs.looks.search.Tie as tie
use Rattle.lookup.proofs.looks.search.Reads as reads
use Rattle.lookup.proofs.looks.search.Goals as goal

abbrev After-is_match : Type 0
After-is_match = lts.After-is_match tie.the-claims reads.Pre reads.Post goal.the-invariant-loop-last goal.the-decreases-loop-last

abbrev Then1 : Type 0
Then1 = lts.Then1 tie.the-claims reads.Pre reads.Post goal.the-invariant-loop-last goal.the-decreases-loop-last

-- one look has counted one more, and is that behind the others
module _ (bs : List ℕ) (before last : Look) (stood : before ≡ last_look bs before.count) (looked : last ≡ next_look bs before) where
  one_more : last.count ≡ before.count + 1
  one_more = ap (λ (l : Look). l.count) looked

  stands : last ≡ last_look bs last.count
  stands = looked ∙ look_behind bs before before.count stood ∙ ap (last_look bs) (sym one_more)

-- a slot is left to look at
left : (c : Then1)
    → c.loop-last.last.count < length (model_of c.args.m.now).slots
left c =
    omega (arith, length_slots c.args.m.now, c.requires.counted)

-- whether the slot looked at matches, as the slot of the tables
matches : (c : After-is_match)
    → is_named c.args.name (get_or (model_of c.args.m.now).slots c.loop-last.last.count (free_slot 0))
    ≡ c.is_match.result
matches c =
    let h = left c.before.before in
    let looked = c.next_look-last.ensures in
    let i = c.loop-last.last.count in
    match_test c.args.m.now i (omega (arith, h, length_slots c.args.m.now)) c.next_look-last.result c.args.name
    (ap (λ (l : Look). l.live) looked) (ap (λ (l : Look). l.name) looked)
    ∙ sym c.is_match.ensures

pub loop-last-init : goal.loop-last-init
loop-last-init c =
    let none = ap (λ (l : Look). l.count) c.none-last.ensures in (
      omega (arith, none),
      c.none-last.ensures ∙ no_look_lem _ ∙ ap (last_look _) (sym none),
      subst (LooksFrom _ _) (sym none) (looks_first _ _),
    )

pub next_look-last-requires : goal.next_look-last-requires
next_look-last-requires c =
    let turn = c.loop-last in
    let more = looks_more c.args.name (model_of c.args.m.now).slots turn.last.count turn.invariant.2 (left c.before) in
    (omega (arith, c.requires.few), omega (arith, more, c.requires.long))

pub returns-then-is_match : goal.returns-then-is_match
returns-then-is_match c =
    let turn = c.loop-last in
    let bs = c.args.m.now in
    let h = left c.before.before.before.before in
    let last = looks_matched c.args.name (model_of bs).slots turn.last.count turn.invariant.2 h (matches c.before.before ∙ c.if-is_match.true) in
    c.next_look-last.ensures ∙ look_behind bs turn.last turn.last.count turn.invariant.1 ∙ ap (last_look bs) (sym last)

pub loop-last-smaller : goal.loop-last-smaller
loop-last-smaller c =
    let turn = c.loop-last in
    omega (arith, one_more _ turn.last _ turn.invariant.1 c.next_look-last.ensures, left c.before.before.before.before)

pub loop-last-preserved : goal.loop-last-preserved
loop-last-preserved c =
    let turn = c.loop-last in
    let bs = c.args.m.now in
    let looked = c.next_look-last.ensures in
    let more = one_more bs turn.last _ turn.invariant.1 looked in
    let h = left c.before.before.before.before in
    let on = looks_on c.args.name (model_of bs).slots turn.last.count turn.invariant.2 h (matches c.before.before ∙ c.if-is_match.false) in
    (omega (arith, more), stands bs turn.last _ turn.invariant.1 looked, subst (LooksFrom c.args.name (model_of bs).slots) (sym more) on)

pub returns : goal.returns
returns c =
    let turn = c.loop-last in
    let bs = c.args.m.now in
    let all =
    looks_all c.args.name (model_of bs).slots turn.last.count turn.invariant.2 (omega (arith, length_slots bs, c.requires.counted))
    in
    turn.invariant.1 ∙ ap (last_look bs) (sym all)
