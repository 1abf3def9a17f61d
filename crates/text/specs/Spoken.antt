-- What the code's words and lines stand for: each word's number, and what a line says.
use Rattle.std.specs.Prelude.{List, [], ◌∷◌, ℕ, Option, Some, None}
use Rattle.line.specs.Line.{start_word, create_word, ident_word, delete_word, obtain_word, release_word, flush_word, tick_word}
use Rattle.text.specs.declared.vocabulary.Word.{Word}
use Rattle.text.specs.declared.vocabulary.Word.TheVariants as w
use Rattle.text.specs.declared.vocabulary.Spoken.{Spoken}
use Rattle.text.specs.Words.{Said, says, turn_word, script_word, section_word, load_word, store_word, set_word, add_word, cell_word, local_word, end_word, run_word}

abbrev pub number_of : Word → ℕ
number_of w.Turn = 1
number_of w.Start = 2
number_of w.Create = 3
number_of w.Ident = 4
number_of w.Delete = 5
number_of w.Obtain = 6
number_of w.Release = 7
number_of w.Flush = 8
number_of w.Tick = 9
number_of w.Script = 11
number_of w.Section = 12
number_of w.Load = 13
number_of w.Store = 14
number_of w.Set = 15
number_of w.Add = 16
number_of w.Cell = 17
number_of w.Local = 18
number_of w.End = 19
number_of w.Run = 20

abbrev pub text_of : Word → List ℕ
text_of w.Turn = turn_word
text_of w.Start = start_word
text_of w.Create = create_word
text_of w.Ident = ident_word
text_of w.Delete = delete_word
text_of w.Obtain = obtain_word
text_of w.Release = release_word
text_of w.Flush = flush_word
text_of w.Tick = tick_word
text_of w.Script = script_word
text_of w.Section = section_word
text_of w.Load = load_word
text_of w.Store = store_word
text_of w.Set = set_word
text_of w.Add = add_word
text_of w.Cell = cell_word
text_of w.Local = local_word
text_of w.End = end_word
text_of w.Run = run_word

abbrev pub every_word : List Word
every_word =
    w.Turn ∷ w.Start ∷ w.Create ∷ w.Ident ∷ w.Delete ∷ w.Obtain ∷ w.Release ∷ w.Flush ∷ w.Tick
    ∷ w.Script ∷ w.Section ∷ w.Load ∷ w.Store ∷ w.Set ∷ w.Add ∷ w.Cell ∷ w.Local ∷ w.End ∷ w.Run ∷ []

-- those of events, and those of scripts
abbrev pub event_words : List Word
event_words = w.Turn ∷ w.Start ∷ w.Create ∷ w.Ident ∷ w.Delete ∷ w.Obtain ∷ w.Release ∷ w.Flush ∷ w.Tick ∷ []

abbrev pub script_words : List Word
script_words = w.Script ∷ w.Section ∷ w.Load ∷ w.Store ∷ w.Set ∷ w.Add ∷ w.Cell ∷ w.Local ∷ w.End ∷ w.Run ∷ []

abbrev pub number_or_none : Option Word → ℕ
number_or_none None = 0
number_or_none (Some v) = number_of v

abbrev pub said_of : Option Spoken → Said
said_of None = says 0 []
said_of (Some s) = says (number_of s.word) s.numbers.now
