-- What is said to a text and its end, from a machine that is not started, is the session of the text.
use Rattle.std.proofs.Common.{◌≡◌, ℕ, List, Ok, Err, Some, None, ap, subst, ◌∙◌, replicate}
use Rattle.std.proofs.Math.ListN.{length-replicate}
use Rattle.std.specs.Prelude.{OnOk, IfSome}
use Rattle.std.specs.declared.option.Option.{Option}
use Rattle.std.specs.declared.result.Result.{Result}
use Rattle.std.specs.Io.KnownBytes.{Consumes, Appends, IsAtEnd}
use Rattle.rules.specs.Machine.{unstarted}
use Rattle.tables.specs.Layout.{laid}
use Rattle.session.specs.Session.{session}
use Rattle.session.proofs.Whole.{session_said}
use Rattle.playing.specs.Streams.{said_to_whole, Played, fresh}

module _ (m : List ℕ) (e : m ≡ laid unstarted) where
  said_is : (text : List ℕ) → said_to_whole (fresh m) text ≡ session text
  said_is text =
      ap (λ (bs : List ℕ). said_to_whole (fresh bs) text) e ∙ session_said (replicate 256 0) (length-replicate {A = ℕ} 256 0) text

  pub answered : {E : Type 0} (r : Result Unit E) (u u' w w' : Option (List ℕ)) (bs : List ℕ) → OnOk r (Played u u' w w' (fresh m) bs)
      → OnOk r ((text : List ℕ) × Consumes u u' text × IsAtEnd u' × Appends w w' (session text))
  answered (Ok x) u u' w w' bs p = (p.text, p.read, p.ended, subst (Appends w w') (said_is p.text) p.said)
  answered (Err x) u u' w w' bs p = p

  known : (u w w' : Option (List ℕ)) → IfSome u (λ input. Appends w w' (said_to_whole (fresh m) input)) → IfSome u (λ input. Appends w w' (session input))
  known None w w' p = p
  known (Some input) w w' p = subst (Appends w w') (said_is input) p

  pub output : {E : Type 0} (r : Result Unit E) (u w w' : Option (List ℕ)) → OnOk r (IfSome u (λ input. Appends w w' (said_to_whole (fresh m) input)))
      → OnOk r (IfSome u (λ input. Appends w w' (session input)))
  output (Ok x) u w w' p = known u w w' p
  output (Err x) u w w' p = p
