use Rattle.std.proofs.Common.{◌∙◌, ◌+◌, rules, arith, length, refl, eqb, get_or, ℕ}
use Rattle.std.proofs.lemmas.Iterator.{YieldsList-from_range}
use Rattle.std.proofs.lemmas.Iterator.Search.{all_from_yields_List}
use Rattle.words.specs.Words.{same_words, word_at}
use Rattle.words.proofs.Ranges.{all_range}
use Rattle.words.proofs.are_words.Goals as goal

pub returns : goal.returns
unfolding same_words
returns c =
    all_from_yields_List (λ (k : ℕ). eqb (word_at c.args.m.now (c.args.i + k)) (get_or c.args.row.now k 0)) c.all.new.self _ _ c.all.ensures.ran
    (YieldsList-from_range 0 (length c.args.row.now) (length c.args.row.now) refl (omega arith)) (λ x b q h. search rules)
    ∙ all_range _ _
