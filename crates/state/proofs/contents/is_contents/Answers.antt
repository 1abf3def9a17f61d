-- `state::contents::is_contents` meets its contract: the row that the counts give, compared.
use Rattle.std.proofs.Common.{◌∙◌, ap, arith, sym, List, ℕ}
use Rattle.laws.proofs.Choose.{if_eq}
use Rattle.words.specs.Words.{same_words}
use Rattle.state.proofs.contents.is_contents.Goals as goal

pub returns-then-file-file_end : goal.returns-then-file-file_end
returns-then-file-file_end c =
    c.are_words.ensures ∙ ap (λ (row : List ℕ). same_words c.args.file.now 0 row) c.row.ensures ∙ sym (if_eq _ _ _ _ (omega (arith, c.file_end.ensures)))
