-- Reads of the program: one after another they feed a text in order and once, from the outset, and at its end what is read is what it says.
use Rattle.std.proofs.Common.{◌≡◌, ℕ, List, [], ◌++◌, inl, inr, refl, sym, ap, subst, ◌∙◌, append-nil, length, arith}
use Rattle.std.proofs.Math.ListN.{length-replicate}
use Rattle.std.specs.declared.option.Option.{Option}
use Rattle.std.specs.Io.KnownBytes.{Consumes, IsAtEnd}
use Rattle.std.proofs.KnownBytes.{Consumes-nil, Consumes-trans}
use Rattle.text.specs.declared.feeding.Progress.{Progress}
use Rattle.text.specs.Reading.{Room, outset, read_text}
use Rattle.text.specs.Reading.Outcome.{Fault}
use Rattle.text.specs.Feeding.{Lent, Kept, keeping, room_of, kept_of, Fed, and_next, take_bytes, at_end, outcome_of, Ready}
use Rattle.text.specs.Feeding.Fed.{Keeps, Faults}
use Rattle.text.proofs.InParts.{bytes_append, text_read, outset_kept}
use Rattle.mast_sections.specs.Taken.{Fresh, Reached, SaidBy, ReadSoFar, SaidByAll}

-- ---- a text, longer by what a read gave

module _ (room : Room) (k : Kept) (g : Reached room k) where
  pub longer : (part : List ℕ) → take_bytes room (keeping outset g.line 0 0) (g.text ++ part) ≡ take_bytes room k part
  longer part =
      bytes_append room (keeping outset g.line 0 0) g.text part ∙ ap (λ (x : Fed). and_next x (λ k'. take_bytes room k' part)) g.kept

  abbrev pub reached_more : (k' : Kept) (part : List ℕ) → Keeps k' ≡ take_bytes room k part → Reached room k'
  reached_more k' part e = record { line = g.line; full = g.full; text = g.text ++ part; kept = longer part ∙ sym e }

  abbrev pub said_fault : (n fault : ℕ) (part : List ℕ) → Faults n fault ≡ take_bytes room k part → SaidBy room (Fault n fault)
  said_fault n fault part e =
      record {
        text = g.text ++ part;
        says = sym (text_read room g.line g.full (g.text ++ part))
            ∙ ap (λ (x : Fed). outcome_of (and_next x (λ k'. at_end room k'))) (longer part ∙ sym e);
      }

  abbrev pub said_end : (x : Fed) → x ≡ at_end room k → SaidBy room (outcome_of x)
  said_end x e =
      record {
        text = g.text;
        says = sym (text_read room g.line g.full g.text)
            ∙ ap (λ (y : Fed). outcome_of (and_next y (λ k'. at_end room k'))) g.kept ∙ ap outcome_of (sym e);
      }

-- ---- and what there was to read

module _ (room : Room) (k : Kept) (first u u' : Option (List ℕ)) (g : ReadSoFar room k first u) where
  read_more : (part : List ℕ) → Consumes u u' part → Consumes first u' (g.reached.text ++ part)
  read_more part h = Consumes-trans first u u' g.reached.text part g.read h

  pub read_none : Consumes u u' [] → Consumes first u' g.reached.text
  read_none h = subst (Consumes first u') (append-nil g.reached.text) (read_more [] h)

  pub far_more : (k' : Kept) (part : List ℕ) → Consumes u u' part → Keeps k' ≡ take_bytes room k part → ReadSoFar room k' first u'
  far_more k' part h e = record { reached = reached_more room k g.reached k' part e; read = read_more part h }

  -- a fault is one whatever follows
  fault_then : (n fault : ℕ) (part rest : List ℕ) → Faults n fault ≡ take_bytes room k part
      → read_text room ((g.reached.text ++ part) ++ rest) ≡ Fault n fault
  fault_then n fault part rest e =
      let start : Kept = keeping outset g.reached.line 0 0 in
      let text : List ℕ = g.reached.text ++ part in
      sym (text_read room g.reached.line g.reached.full (text ++ rest))
      ∙ ap (λ (x : Fed). outcome_of (and_next x (λ k'. at_end room k')))
      (bytes_append room start text rest ∙ ap (λ (x : Fed). and_next x (λ k'. take_bytes room k' rest)) (longer room k g.reached part ∙ sym e))

  pub all_fault : (n fault : ℕ) (part : List ℕ) → Consumes u u' part → Faults n fault ≡ take_bytes room k part → SaidByAll room (Fault n fault) first u'
  all_fault n fault part h e =
      record { said = said_fault room k g.reached n fault part e; read = read_more part h; whole = inr (λ rest. fault_then n fault part rest e) }

  pub all_end : (x : Fed) → Consumes u u' [] → IsAtEnd u' → x ≡ at_end room k → SaidByAll room (outcome_of x) first u'
  all_end x h ended e = record { said = said_end room k g.reached x e; read = read_none h; whole = inl ended }

-- ---- from the outset

abbrev pub unread : Progress
unread = record { at = record { part = 0; cells = 0; scripts = 0; events = 0 }; begun = 0; count = 0 }

module _ (line : List ℕ) (l : Lent) (f : Fresh line l) where
  pub ready_outset : Ready unread line l
  ready_outset =
      record {
        inside = record {
          cells = omega arith;
          ids = f.ids;
          scripts = omega arith;
          events = omega arith;
          locals = ap length f.locals ∙ length-replicate {A = ℕ} 256 0;
        };
        full = f.full;
        begun = omega arith;
      }

  pub outset_is : (room : Room) → take_bytes room (keeping outset line 0 0) [] ≡ Keeps (kept_of unread line l)
  unfolding take_bytes
  outset_is room = ap Keeps (sym (outset_kept unread line l refl f.bytes f.locals))

  abbrev pub reached_outset : (room : Room) → Reached room (kept_of unread line l)
  reached_outset room = record { line = line; full = f.full; text = []; kept = outset_is room }

  pub read_outset : (room : Room) (u : Option (List ℕ)) → ReadSoFar room (kept_of unread line l) u u
  read_outset room u = record { reached = reached_outset room; read = Consumes-nil u }

-- what is lent keeps its room
pub same_room : (l l' : Lent) → length l.cells ≡ length l'.cells → length l.scripts ≡ length l'.scripts
    → length l.events ≡ length l'.events → room_of l ≡ room_of l'
same_room l l' c s e = cc

pub in_room : {room room' : Room} → room ≡ room' → (step : Room → Fed) → {x : Fed} → x ≡ step room → x ≡ step room'
in_room e step h = h ∙ ap step e
