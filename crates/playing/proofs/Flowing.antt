-- Reads and writes one after another: what is read is fed, and what is said to it is written.
use mathlib.Core.Bool.{false≢true}
use Rattle.std.proofs.Common.{◌≡◌, ℕ, ◌+◌, ◌-◌, ◌≤◌, inl, inr, List, [], ◌∷◌, ◌++◌, Ok, Err, refl, ap, sym, subst, ◌∙◌, append_assoc, append-nil, length, take, drop, replicate, arith, length-drop, take-append-drop}
use Rattle.std.specs.Prelude.{Bool, false, OnOk, OnErr, IfSome, IsErr, is_ok}
use Rattle.std.specs.declared.option.Option.{Option}
use Rattle.std.specs.declared.result.Result.{Result}
use Rattle.std.proofs.Math.ListN.{length-replicate}
use Rattle.std.proofs.Math.Seq.{take-append-add, take-add, take_all}
use Rattle.std.specs.Io.KnownBytes.{Consumes, Appends, IsAtEnd}
use Rattle.std.proofs.KnownBytes.{Appends-nil, Appends-trans, Consumes-nil, Consumes-trans, Consumes-whole}
use Rattle.session.specs.Kept.{Kept, after_part, said_to_part, at_end, Reached}
use Rattle.session.proofs.Feeding.{after_append, said_append}
use Rattle.playing.specs.Turns.{Ran}
use Rattle.playing.specs.Streams.{AppendsFront, WritesAll, FedAll, CutOff, Feeds, said_to_whole, Played, BrokeOff, fresh, Tells}

-- what holds of any error
pub on_err : {T E P : Type 0} (r : Result T E) → P → OnErr r P
on_err (Ok x) p = tt
on_err (Err e) p = p

pub err_unfinished : {T E : Type 0} (r : Result T E) → IsErr r → is_ok r ≡ false
err_unfinished (Ok x) e = absurd (false≢true e)
err_unfinished (Err x) e = refl

-- ---- a front of some bytes

-- all of them
pub front_all : (a b : Option (List ℕ)) (bs : List ℕ) → Appends a b bs → AppendsFront a b bs
front_all a b bs all = (length bs, subst (Appends a b) (sym (take_all (length bs) bs (omega arith))) all)

-- all of some, and a front of what follows
pub front_after : (a b c : Option (List ℕ)) (bs cs : List ℕ) → Appends a b bs → AppendsFront b c cs → AppendsFront a c (bs ++ cs)
front_after a b c bs cs all (n, some) = (length bs + n, subst (Appends a c) (sym (take-append-add bs cs n)) (Appends-trans a b c bs (take n cs) all some))

-- ---- a write

pub rest_of : (xs : List ℕ) (n : ℕ) → take (length xs - n) (drop n xs) ≡ drop n xs
rest_of xs n = take_all (length xs - n) (drop n xs) (omega (arith, length-drop n xs))

-- more of some bytes is written
pub written_more : (a b c : Option (List ℕ)) (xs : List ℕ) (done more : ℕ) → Appends a b (take done xs) → Appends b c (take more (take (length xs - done) (drop done xs)))
    → Appends a c (take (done + more) xs)
written_more a b c xs done more first second =
    subst (Appends a c) (ap (λ (l : List ℕ). take done xs ++ take more l) (rest_of xs done) ∙ sym (take-add done more xs)) (Appends-trans a b c _ _ first second)

-- ---- a part, in as many turns as it takes

pub fed_none : (k : Kept) (input : List ℕ) (w : Option (List ℕ)) → FedAll k (take 0 input) k w w
unfolding after_part said_to_part
fed_none k input w = record { kept = refl; said = Appends-nil w }

module _ (k : Kept) (input : List ℕ) (done : ℕ) {k' : Kept} {a b : Option (List ℕ)} (f : FedAll k (take done input) k' a b) where
  pub fed_whole : length input ≤ done → FedAll k input k' a b
  fed_whole h = subst (λ (l : List ℕ). FedAll k l k' a b) (take_all done input h) f

  module _ (rest : List ℕ) (is : rest ≡ drop done input) where
    module _ (more : ℕ) where
      joined : take done input ++ take more rest ≡ take (done + more) input
      joined = ap (λ (l : List ℕ). take done input ++ take more l) is ∙ sym (take-add done more input)

      kept_more : after_part k' (take more rest) ≡ after_part k (take (done + more) input)
      kept_more =
          ap (λ (s : Kept). after_part s (take more rest)) f.kept ∙ sym (after_append k (take done input) (take more rest)) ∙ ap (after_part k) joined

      said_more : said_to_part k (take done input) ++ said_to_part k' (take more rest) ≡ said_to_part k (take (done + more) input)
      said_more =
          ap (λ (s : Kept). said_to_part k (take done input) ++ said_to_part s (take more rest)) f.kept
          ∙ sym (said_append k (take done input) (take more rest))
          ∙ ap (said_to_part k) joined

    pub fed_more : {k'' : Kept} {c : Option (List ℕ)} (more : ℕ) → FedAll k' (take more rest) k'' b c → FedAll k (take (done + more) input) k'' a c
    fed_more {k''} {c} more n = record { kept = n.kept ∙ kept_more more; said = subst (Appends a c) (said_more more) (Appends-trans a b c _ _ f.said n.said) }

    pub cut_more : {k'' : Kept} {c : Option (List ℕ)} → CutOff k' rest k'' b c → CutOff k input k'' a c
    cut_more {k''} {c} n =
        record {
          taken = done + n.taken;
          some = omega (arith, n.some);
          inside = omega (arith, n.some, n.inside, ap length is, length-drop done input);
          kept = n.kept ∙ kept_more n.taken;
          said = subst (AppendsFront a c) (said_more n.taken) (front_after a b c _ _ f.said n.said);
        }

-- ---- a read after another

-- a read that gave nothing, where there was room, is the last
pub none_heard : (n : ℕ) (u u' : Option (List ℕ)) (input : List ℕ) → n ≡ 0 → 1 ≤ length input
    → Consumes u u' (take n input) × (n ≡ 0 → 1 ≤ length input → IsAtEnd u')
    → Consumes u u' [] × IsAtEnd u'
none_heard n u u' input e some h = (subst (λ (n : ℕ). Consumes u u' (take n input)) e h.0, h.1 e some)

pub feeds_none : (u w : Option (List ℕ)) (k : Kept) → Feeds u u w w k k
unfolding after_part said_to_part
feeds_none u w k = record { text = []; read = Consumes-nil u; kept = refl; said = Appends-nil w }

module _ {u u' w w' : Option (List ℕ)} {k k' : Kept} (f : Feeds u u' w w' k k') (u'' : Option (List ℕ)) where
  module _ (text : List ℕ) where
    fed_then : after_part k' text ≡ after_part k (f.text ++ text)
    fed_then = ap (λ (s : Kept). after_part s text) f.kept ∙ sym (after_append k f.text text)

    said_then : said_to_part k f.text ++ said_to_part k' text ≡ said_to_part k (f.text ++ text)
    said_then = ap (λ (s : Kept). said_to_part k f.text ++ said_to_part s text) f.kept ∙ sym (said_append k f.text text)

  -- a part that was read is fed
  pub feeds_more : {k'' : Kept} {w'' : Option (List ℕ)} (part : List ℕ) → Consumes u' u'' part → FedAll k' part k'' w' w'' → Feeds u u'' w w'' k k''
  feeds_more {k''} {w''} part read n =
      record {
        text = f.text ++ part;
        read = Consumes-trans u u' u'' f.text part f.read read;
        kept = n.kept ∙ fed_then part;
        said = subst (Appends w w'') (said_then part) (Appends-trans w w' w'' _ _ f.said n.said);
      }

  -- or a front of it
  pub cut_off : {k'' : Kept} {w'' : Option (List ℕ)} (part : List ℕ) → Consumes u' u'' part → CutOff k' part k'' w' w'' → BrokeOff u u'' w w'' k k''.bytes
  cut_off {k''} {w''} part read n =
      let front : List ℕ = take n.taken part in
      let left : List ℕ = drop n.taken part in
      record {
        text = f.text ++ front;
        unfed = left;
        read =
            subst (Consumes u u'') (ap (λ (l : List ℕ). f.text ++ l) (sym (take-append-drop n.taken part)) ∙ sym (append_assoc f.text front left))
            (Consumes-trans u u' u'' f.text part f.read read);
        left =
            inl (ap (λ (s : Kept). s.bytes) (n.kept ∙ fed_then front), subst (AppendsFront w w'') (said_then front) (front_after w w' w'' _ _ f.said n.said));
      }

  -- nothing more was read
  pub unread : Consumes u' u'' [] → BrokeOff u u'' w w' k k'.bytes
  unread read =
      record {
        text = f.text;
        unfed = [];
        read = Consumes-trans u u' u'' f.text [] f.read read;
        left = inl (ap (λ (s : Kept). s.bytes) f.kept, front_all w w' _ f.said);
      }

  -- the input has ended
  module _ (read : Consumes u' u'' []) (bs : List ℕ) (bytes : bs ≡ (at_end k').bytes) (w'' : Option (List ℕ)) where
    read_all : Consumes u u'' f.text
    read_all = subst (Consumes u u'') (append-nil f.text) (Consumes-trans u u' u'' f.text [] f.read read)

    bytes_then : bs ≡ (at_end (after_part k f.text)).bytes
    bytes_then = bytes ∙ ap (λ (s : Kept). (at_end s).bytes) f.kept

    whole_then : said_to_part k f.text ++ (at_end k').output ≡ said_to_whole k f.text
    whole_then = ap (λ (s : Kept). said_to_part k f.text ++ (at_end s).output) f.kept

    pub ends_played : {E : Type 0} (r : Result Unit E) → IsAtEnd u'' → WritesAll r w' w'' (at_end k').output → OnOk r (Played u u'' w w'' k bs)
    ends_played (Ok x) ended said =
        record {
          text = f.text;
          read = read_all;
          ended = ended;
          bytes = bytes_then;
          said = subst (Appends w w'') whole_then (Appends-trans w w' w'' _ _ f.said said);
        }
    ends_played (Err e) ended said = tt

    pub ends_broken : {E : Type 0} (r : Result Unit E) → WritesAll r w' w'' (at_end k').output → OnErr r (BrokeOff u u'' w w'' k bs)
    ends_broken (Ok x) said = tt
    ends_broken (Err e) said =
        record {
          text = f.text;
          unfed = [];
          read = Consumes-trans u u' u'' f.text [] f.read read;
          left = inr (bytes_then, subst (AppendsFront w w'') whole_then (front_after w w' w'' _ _ f.said said));
        }

-- ---- the whole

reached_after : (m text : List ℕ) → Reached m (after_part (fresh m) text)
reached_after m text = record { line = replicate 256 0; full = length-replicate {A = ℕ} 256 0; text = text; kept = refl }

-- where it is known what there is to read
pub played_known : {E : Type 0} (r : Result Unit E) (u u' w w' : Option (List ℕ)) (k : Kept) (bs : List ℕ)
    → OnOk r (Played u u' w w' k bs) → OnOk r (IfSome u (λ input. Appends w w' (said_to_whole k input)))
played_known (Ok x) u u' w w' k bs p = Consumes-whole u u' p.text (λ input. Appends w w' (said_to_whole k input)) p.read p.ended p.said
played_known (Err e) u u' w w' k bs p = p

-- what is left of the lent bytes where it broke off
pub ran_broken : {u u' w w' : Option (List ℕ)} {m bs : List ℕ} (done : Bool) → done ≡ false → BrokeOff u u' w w' (fresh m) bs → Ran m done bs
ran_broken {m = m} done e b =
    record {
      last = after_part (fresh m) b.text;
      reached = reached_after m b.text;
      bytes = elim b.left [ inl h ↦ inl (e, h.0) | inr h ↦ inr h.0 ];
    }

-- and where the end was answered
pub ran_ended : {u u' w w' : Option (List ℕ)} {m : List ℕ} {k : Kept} → Feeds u u' w w' (fresh m) k
    → {bs : List ℕ} → bs ≡ (at_end k).bytes → (done : Bool) → Ran m done bs
ran_ended {m = m} f bytes done =
    record {
      last = after_part (fresh m) f.text;
      reached = reached_after m f.text;
      bytes = inr (bytes ∙ ap (λ (s : Kept). (at_end s).bytes) f.kept);
    }

-- ---- a line in four writes

pub tells : {E : Type 0} (r : Result Unit E) (a b c d e : Option (List ℕ)) (what words : List ℕ)
    → Appends a b what → Appends b c (58 ∷ 32 ∷ []) → Appends c d words → OnOk r (Appends d e (10 ∷ [])) → OnOk r (Tells a e what)
tells (Ok x) a b c d e what words first second third last =
    (words, Appends-trans a d e _ _ (Appends-trans a c d _ _ (Appends-trans a b c _ _ first second) third) last)
tells (Err x) a b c d e what words first second third last = last
