-- From the word and the numbers that the code read to the line's request.
use mathlib.Core.Path.{◌≡◌, refl, sym, ap, subst, ◌∙◌}
use mathlib.Core.Bool.{Bool, true, false}
use mathlib.Core.List.{List, [], ◌∷◌}
use mathlib.Core.Logic.{⊎_elim}
use mathlib.Core.Option.{Option, none, some}
use Prim.Native.Nat.{ℕ, zero, suc, ◌-◌, ◌≤◌, ◌<◌}
use native.Mathlib.Nat.{le_refl}
use native.Mathlib.Omega.{arith}
use lib.Dec.{leb, eqb}
use lib.ListN.{length, get_or, take, drop, length-take}
use lib.Seq.{length-take-le, get_or-take, take-nil, take-length}
use borrow.Author.Tests.{eqb-true, leb-true, le-leb, lt-leb}
use Rattle.laws.specs.Choose.{choose, ◌and◌}
use Rattle.laws.proofs.Choose.{tested, if_yes, if_no, choose_same}
use Rattle.rules.specs.declared.Call.{Call}
use Rattle.rules.specs.declared.Call.TheVariants.{Start, Create, Ident, Delete, Obtain, Release, Flush, Tick}
use Rattle.rules.specs.Semaphore.{wait_of}
use Rattle.rules.specs.Runs.{Request}
use Rattle.line.specs.declared.Request.{Request as Asked}
use Rattle.line.specs.declared.Word.{Word}
use Rattle.line.specs.declared.Word.TheVariants as w
use Rattle.std.specs.Prelude.{Option as Answered, Some, None}
use Rattle.line.specs.Line.{line_of, max_line, scanned, request_of, asked, taking, are_numbers, numbers, same_bytes, start_word, create_word}
use Rattle.line.specs.Line.{ident_word, delete_word, obtain_word, release_word, flush_word, tick_word}
use Rattle.line.specs.Scan.{first, others, all_numbers, numbers_read, placed, word_of, with_count, asked_by}
use Rattle.line.proofs.Fields.{word_is, behind_word}

rest_taken : (n : ℕ) (l : List ℕ) → drop 1 (take n l) ≡ take (n - 1) (drop 1 l)
rest_taken zero l = refl
rest_taken (suc m) [] = sym (take-nil (suc m - 1))
rest_taken (suc m) (x ∷ xs) = let s : m ≡ suc m - 1 = omega arith in ap (λ (n : ℕ). take n xs) s

-- what a word asks with the first `k` of `ns`, and none where it is no word
abbrev asked_of : Answered Word → ℕ → List ℕ → Answered Asked
asked_of None k ns = None
asked_of (Some v) k ns = asked_by v k ns

-- ---- the numbers that are read are the first `k` of `ns`

module _ (ns : List ℕ) (k : ℕ) (fits : k ≤ length ns) where
  with_arity : (arity : ℕ) (call : List ℕ → Call) → (k ≡ arity → call (take k ns) ≡ call ns)
      → taking arity (take k ns) (asked (call (take k ns))) ≡ scanned (with_count arity k (call ns)) ns
  with_arity arity call same-call =
      ap (λ (n : ℕ). choose (eqb n arity) (asked (call (take k ns))) none) (length-take-le k ns fits)
      ∙ ⊎_elim
      (λ (t : eqb k arity ≡ true).
      if_yes (asked (call (take k ns))) none t
      ∙ ap asked (same-call (eqb-true k arity t))
      ∙ sym (ap (λ (l : Answered Asked). scanned l ns) (if_yes _ _ t)))
      (λ (t : eqb k arity ≡ false). if_no (asked (call (take k ns))) none t ∙ sym (ap (λ (l : Answered Asked). scanned l ns) (if_no _ _ t)))
      (tested (eqb k arity))

  read_at : (i : ℕ) → i < k → get_or (take k ns) i 0 ≡ get_or ns i 0
  read_at i h = get_or-take k ns i 0 h

  starts : choose (leb 1 (length (take k ns))) (some (record { call = Start (get_or (take k ns) 0 0); priorities = drop 1 (take k ns) })) none
      ≡ scanned (asked_of (Some w.Start) k ns) ns
  unfolding asked_by
  starts =
      let taken : List ℕ = drop 1 (take k ns) in
      let made : ℕ → List ℕ → Option Request = λ x l. some (record { call = Start x; priorities = l }) in
      ap (λ (n : ℕ). choose (leb 1 n) (made (get_or (take k ns) 0 0) taken) none) (length-take-le k ns fits)
      ∙ ⊎_elim
      (λ (t : leb 1 k ≡ true).
      let some_read : 1 ≤ k = leb-true 1 k t in
      if_yes (made (get_or (take k ns) 0 0) taken) none t
      ∙ ap (λ (x : ℕ). made x taken) (read_at 0 (omega arith))
      ∙ ap (made (get_or ns 0 0)) (rest_taken k ns)
      ∙ sym (ap (λ (l : Answered Asked). scanned l ns) (if_yes _ _ t)))
      (λ (t : leb 1 k ≡ false). if_no (made (get_or (take k ns) 0 0) taken) none t ∙ sym (ap (λ (l : Answered Asked). scanned l ns) (if_no _ _ t)))
      (tested (leb 1 k))

  -- a test of the word picks in both
  picks : (t : Bool) (x y : Option Request) (v v' : Answered Word) → x ≡ scanned (asked_of v k ns) ns
      → y ≡ scanned (asked_of v' k ns) ns
      → choose t x y ≡ scanned (asked_of (choose t v v') k ns) ns
  unfolding choose
  picks true x y v v' e f = e
  picks false x y v v' e f = f

  pub request_is : (f : List ℕ) → request_of f (take k ns) ≡ scanned (asked_of (word_of f) k ns) ns
  unfolding request_of word_of asked_by
  request_is f =
      picks (same_bytes f start_word) _ _ _ _ starts
      (picks (same_bytes f create_word) _ _ _ _
      (with_arity 5 (λ l. Create (get_or l 0 0) (get_or l 1 0) (get_or l 2 0) (get_or l 3 0) (get_or l 4 0))
      (λ e. cc (read_at 0 (omega arith), read_at 1 (omega arith), read_at 2 (omega arith), read_at 3 (omega arith), read_at 4 (omega arith))))
      (picks (same_bytes f ident_word) _ _ _ _ (with_arity 1 (λ l. Ident (get_or l 0 0)) (λ e. cc (read_at 0 (omega arith))))
      (picks (same_bytes f delete_word) _ _ _ _
      (with_arity 2 (λ l. Delete (get_or l 0 0) (get_or l 1 0)) (λ e. cc (read_at 0 (omega arith), read_at 1 (omega arith))))
      (picks (same_bytes f obtain_word) _ _ _ _
      (with_arity 4 (λ l. Obtain (get_or l 0 0) (get_or l 1 0) (wait_of (get_or l 2 0) (get_or l 3 0)))
      (λ e. cc (read_at 0 (omega arith), read_at 1 (omega arith), read_at 2 (omega arith), read_at 3 (omega arith))))
      (picks (same_bytes f release_word) _ _ _ _
      (with_arity 2 (λ l. Release (get_or l 0 0) (get_or l 1 0)) (λ e. cc (read_at 0 (omega arith), read_at 1 (omega arith))))
      (picks (same_bytes f flush_word) _ _ _ _ (with_arity 2 (λ l. Flush (get_or l 0 0) (get_or l 1 0)) (λ e. cc (read_at 0 (omega arith), read_at 1 (omega arith))))
      (picks (same_bytes f tick_word) _ _ _ _ (with_arity 0 (λ l. Tick) (λ e. refl)) refl)))))))

-- ---- a line of at most 256 bytes, and a longer one

pub too_long : (bs : List ℕ) → max_line < length bs → line_of bs ≡ none
unfolding line_of choose
too_long bs h = ap (λ (t : Bool). choose (t and are_numbers (others bs)) (request_of (first bs) (numbers (others bs))) none) (lt-leb (length bs) max_line h)

module _ (bs : List ℕ) (n : ℕ) (short : length bs ≤ max_line) (ends : n ≡ length (first bs)) where
  rest_is : others (drop n bs) ≡ others bs
  rest_is = ap (λ (m : ℕ). others (drop m bs)) ends ∙ sym (behind_word bs)

  by_numbers : line_of bs ≡ choose (are_numbers (others bs)) (request_of (first bs) (numbers (others bs))) none
  unfolding line_of choose
  by_numbers = ap (λ (t : Bool). choose (t and are_numbers (others bs)) (request_of (first bs) (numbers (others bs))) none) (le-leb (length bs) max_line short)

  pub line_broken : all_numbers (others (drop n bs)) ≡ none → line_of bs ≡ none
  unfolding all_numbers
  line_broken e =
      ⊎_elim
      (λ (t : are_numbers (others bs) ≡ true). let f = if_yes
      (some (numbers (others bs))) none t in let g = ap all_numbers rest_is in let z : ◌≡◌ {A = ℕ} 0 1 = cc in absurd (omega arith))
      (λ (t : are_numbers (others bs) ≡ false). by_numbers ∙ if_no _ none t)
      (tested (are_numbers (others bs)))

  line_numbers : (ns : List ℕ) → all_numbers (others (drop n bs)) ≡ some ns → line_of bs ≡ request_of (first bs) ns
  unfolding all_numbers
  line_numbers ns e =
      ⊎_elim
      (λ (t : are_numbers (others bs) ≡ true).
      let f = if_yes (some (numbers (others bs))) none t in
      let g = ap all_numbers rest_is in
      let read : numbers (others bs) ≡ ns = cc in
      by_numbers ∙ if_yes _ none t ∙ ap (request_of (first bs)) read)
      (λ (t : are_numbers (others bs) ≡ false). let f = if_no
      (some (numbers (others bs))) none t in let g = ap all_numbers rest_is in let z : ◌≡◌ {A = ℕ} 0 1 = cc in absurd (omega arith))
      (tested (are_numbers (others bs)))

  pub line_read : (ns : List ℕ) (k : ℕ) (r : Answered Asked) → all_numbers (others (drop n bs)) ≡ some (take k ns) → k ≤ length ns
      → r ≡ asked_of (word_of (take n bs)) k ns
      → line_of bs ≡ scanned r ns
  line_read ns k r e fits asks =
      let word : first bs ≡ take n bs = word_is bs ∙ ap (λ (m : ℕ). take m bs) (sym ends) in
      line_numbers (take k ns) e
      ∙ request_is ns k fits (first bs)
      ∙ ap (λ (f : List ℕ). scanned (asked_of (word_of f) k ns) ns) word
      ∙ sym (ap (λ (l : Answered Asked). scanned l ns) asks)

  unknown_word : (ns : List ℕ) → word_of (first bs) ≡ None → request_of (first bs) ns ≡ none
  unfolding asked_by
  unknown_word ns e =
      ap (request_of (first bs)) (sym (take-length ns))
      ∙ request_is ns (length ns) (le_refl (length ns)) (first bs)
      ∙ ap (λ (v : Answered Word). scanned (asked_of v (length ns) ns) ns) e

  -- the same from what the code's functions answer
  pub scan_unknown : (word : Answered Word) → word ≡ word_of (take n bs) → word ≡ None → line_of bs ≡ none
  scan_unknown word is e =
      let there : first bs ≡ take n bs = word_is bs ∙ ap (λ (m : ℕ). take m bs) (sym ends) in
      by_numbers
      ∙ ap (λ (r : Option Request). choose (are_numbers (others bs)) r none) (unknown_word (numbers (others bs)) (ap word_of there ∙ sym is ∙ e))
      ∙ choose_same (are_numbers (others bs)) none

  pub scan_broken : (x : Answered ℕ) (ns : List ℕ) → all_numbers (others (drop n bs)) ≡ numbers_read x ns → x ≡ None → line_of bs ≡ none
  scan_broken x ns e b = line_broken (e ∙ ap (λ (x : Answered ℕ). numbers_read x ns) b)

  pub scan_read : (x : Answered ℕ) (ns : List ℕ) (k : ℕ) (word : Word) (r : Answered Asked) → all_numbers (others (drop n bs)) ≡ numbers_read x ns → placed x ≤ length ns
      → x ≡ Some k
      → Some word ≡ word_of (take n bs)
      → r ≡ asked_by word k ns
      → line_of bs ≡ scanned r ns
  scan_read x ns k word r e fits counts is asks =
      line_read ns k r (e ∙ ap (λ (x : Answered ℕ). numbers_read x ns) counts) (subst (λ (x : Answered ℕ). placed x ≤ length ns) counts fits)
      (asks ∙ ap (λ (v : Answered Word). asked_of v k ns) is)

pub word_fits : (bs : List ℕ) → length (first bs) ≤ length bs
word_fits bs = omega (arith, ap length (word_is bs), length-take (length (first bs)) bs)
