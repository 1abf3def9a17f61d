-- Events read one after another.
use Rattle.std.proofs.Common.{◌≡◌, ℕ, zero, suc, pred, ◌+◌, ◌-◌, ◌<◌, ◌≤◌, eqb, leb, List, [], ◌∷◌, length, get_or, take, drop, sym, refl, ap, ◌∙◌, not-suc-le-zero, arith, leb-true}
use lib.Seq.{drop-length}
use Rattle.laws.specs.Choose.{choose}
use Rattle.laws.proofs.Choose.{if_eq, if_ne, if_le, if_not_le, choose_cases}
use Rattle.rules.specs.declared.Call.{Call}
use Rattle.rules.specs.declared.Call.TheVariants.{Start as StartCall}
use Rattle.sections.specs.Run.{Event}
use Rattle.sections.specs.Run.Event.{Turn, Other, NoEvent}
use Rattle.encoding.specs.declared.events.Kind.{Kind}
use Rattle.encoding.specs.declared.events.Kind.TheVariants.{Turn as KindTurn, Start, Create, Ident, Delete, Obtain, Release, Flush, Tick}
use Rattle.encoding.specs.Kinds.{number_of}
use Rattle.encoding.specs.Events.{size_of, call_of, event_size, priorities_of, event_at, events_from}

-- ---- how many numbers the first event is

module _ (ns : List ℕ) (number size : ℕ) (k : get_or ns 0 0 ≡ number) (e : size ≡ size_of number (get_or ns 2 0)) where
  sized : size ≡ size_of (get_or ns 0 0) (get_or ns 2 0)
  sized = e ∙ ap (λ (n : ℕ). size_of n (get_or ns 2 0)) (sym k)

  pub size_whole : size ≤ length ns → size ≡ event_size ns
  unfolding event_size
  size_whole h = sized ∙ sym (if_le (size_of (get_or ns 0 0) (get_or ns 2 0)) (length ns) _ 0 (omega (arith, sized)))

  pub size_cut : length ns < size → event_size ns ≡ 0
  unfolding event_size
  size_cut h = if_not_le (size_of (get_or ns 0 0) (get_or ns 2 0)) (length ns) _ 0 (omega (arith, sized))

pub no_kind : (number count : ℕ) → (1 ≤ number → 9 < number) → size_of number count ≡ 0
unfolding size_of
no_kind number count h =
    if_ne number 1 _ _ (λ z. omega arith) ∙ if_ne number 2 _ _ (λ z. omega arith) ∙ if_ne number 3 _ _ (λ z. omega arith)
    ∙ if_ne number 4 _ _ (λ z. omega arith) ∙ if_ne number 5 _ _ (λ z. omega arith) ∙ if_ne number 6 _ _ (λ z. omega arith)
    ∙ if_ne number 7 _ _ (λ z. omega arith) ∙ if_ne number 8 _ _ (λ z. omega arith) ∙ if_ne number 9 _ _ (λ z. omega arith)

pub kind_size : (kind : Kind) (count : ℕ) → 1 ≤ size_of (number_of kind) count
unfolding size_of choose
kind_size KindTurn count = omega arith
kind_size Start count = omega arith
kind_size Create count = omega arith
kind_size Ident count = omega arith
kind_size Delete count = omega arith
kind_size Obtain count = omega arith
kind_size Release count = omega arith
kind_size Flush count = omega arith
kind_size Tick count = omega arith

empty_size : event_size [] ≡ 0
unfolding event_size size_of choose
empty_size = refl

pub no_size : (ns : List ℕ) → size_of (get_or ns 0 0) (get_or ns 2 0) ≡ 0 → event_size ns ≡ 0
unfolding event_size
no_size ns e = choose_cases (λ (n : ℕ). n ≡ 0) (leb (size_of (get_or ns 0 0) (get_or ns 2 0)) (length ns)) _ 0 (λ t. e) (λ f. refl)

-- ---- what it is

module _ (ns : List ℕ) (h : 1 ≤ event_size ns) where
  pub turn_first : get_or ns 0 0 ≡ 1 → Turn (get_or ns 1 0) ≡ event_at ns
  unfolding event_at
  turn_first k = sym (if_ne (event_size ns) 0 _ _ (λ z. omega arith) ∙ if_eq (get_or ns 0 0) 1 _ _ k)

  call_first : (number : ℕ) → get_or ns 0 0 ≡ number → 1 < number
      → Other (record { call = call_of number (get_or ns 1 0) (get_or ns 2 0) (get_or ns 3 0) (get_or ns 4 0) (get_or ns 5 0); priorities = priorities_of ns })
      ≡ event_at ns
  unfolding event_at
  call_first number k l =
      sym
      (if_ne (event_size ns) 0 _ _ (λ z. omega arith)
      ∙ if_ne (get_or ns 0 0) 1 _ _ (λ z. omega arith)
      ∙ ap (λ (n : ℕ). Other (record { call = call_of n (get_or ns 1 0) (get_or ns 2 0) (get_or ns 3 0) (get_or ns 4 0) (get_or ns 5 0); priorities = priorities_of ns })) k)

  pub other_first : (number : ℕ) → get_or ns 0 0 ≡ number → 2 < number → (call : Call)
      → call ≡ call_of number (get_or ns 1 0) (get_or ns 2 0) (get_or ns 3 0) (get_or ns 4 0) (get_or ns 5 0)
      → Other (record { call = call; priorities = [] }) ≡ event_at ns
  unfolding priorities_of
  other_first number k l call e =
      let none : [] ≡ priorities_of ns = sym (if_ne (get_or ns 0 0) 2 _ [] (λ z. omega arith)) in
      (λ i. Other (record { call = e i; priorities = none i })) ∙ call_first number k (omega arith)

  -- a start's priorities are there
  pub start_fits : get_or ns 0 0 ≡ 2 → 3 + get_or ns 2 0 ≤ length ns
  unfolding event_size size_of
  start_fits k =
      let size = size_of (get_or ns 0 0) (get_or ns 2 0) in
      let start : size ≡ 3 + get_or ns 2 0 = if_ne (get_or ns 0 0) 1 _ _ (λ z. omega arith) ∙ if_eq (get_or ns 0 0) 2 _ _ k in
      choose_cases (λ (n : ℕ). 1 ≤ n → 3 + get_or ns 2 0 ≤ length ns) (leb size (length ns)) size 0
      (λ e l. omega (arith, leb-true size (length ns) e, start)) (λ e l. absurd (omega arith)) h

  pub start_first : get_or ns 0 0 ≡ 2 → (slots count : ℕ) → slots ≡ get_or ns 1 0 → count ≡ get_or ns 2 0
      → Other (record { call = StartCall slots; priorities = take (3 + count - 3) (drop 3 ns) }) ≡ event_at ns
  unfolding priorities_of call_of choose
  start_first k slots count a b =
      let many : 3 + count - 3 ≡ get_or ns 2 0 = omega arith in
      let all = sym (if_eq (get_or ns 0 0) 2 (take (get_or ns 2 0) (drop 3 ns)) [] k) in
      let these : take (3 + count - 3) (drop 3 ns) ≡ priorities_of ns = ap (λ (n : ℕ). take n (drop 3 ns)) many ∙ all in
      (λ i. Other (record { call = StartCall (a i); priorities = these i })) ∙ call_first 2 k (omega arith)

-- ---- the events that follow

events_skip : (k : ℕ) (ns : List ℕ) → events_from k ns ≡ events_from 0 (drop k ns)
unfolding events_from
events_skip zero [] = refl
events_skip (suc k) [] = refl
events_skip zero (n ∷ ns) = refl
events_skip (suc k) (n ∷ ns) = events_skip k ns

pub events_end : (ns : List ℕ) → length ns ≡ 0 → events_from 0 ns ≡ []
unfolding events_from
events_end [] e = refl
events_end (n ∷ ns) e = absurd (omega arith)

pub events_next : (ns : List ℕ) → 1 ≤ event_size ns → events_from 0 ns ≡ event_at ns ∷ events_from 0 (drop (event_size ns) ns)
unfolding events_from
events_next [] h = absurd (omega (arith, empty_size))
events_next (n ∷ ns) h =
    ap (λ (es : List Event). event_at (n ∷ ns) ∷ es)
    (ap (λ (k : ℕ). events_from k ns) (if_ne (event_size (n ∷ ns)) 0 (length ns) (pred (event_size (n ∷ ns))) (λ z. omega arith))
    ∙ events_skip (pred (event_size (n ∷ ns))) ns
    ∙ ap (events_from 0) (behind (event_size (n ∷ ns)) h))
  where
    behind : (size : ℕ) → 1 ≤ size → drop (pred size) ns ≡ drop size (n ∷ ns)
    behind zero l = absurd (not-suc-le-zero l)
    behind (suc size) l = refl

event_none : (ns : List ℕ) → event_size ns ≡ 0 → event_at ns ≡ NoEvent
unfolding event_at
event_none ns e = if_eq (event_size ns) 0 NoEvent _ e

pub events_stop : (ns : List ℕ) → 0 < length ns → event_size ns ≡ 0 → events_from 0 ns ≡ NoEvent ∷ []
unfolding events_from
events_stop [] h e = absurd (not-suc-le-zero h)
events_stop (n ∷ ns) h e =
    λ i. event_none (n ∷ ns) e i ∷ over i
  where
    over : events_from (choose (eqb (event_size (n ∷ ns)) 0) (length ns) (pred (event_size (n ∷ ns)))) ns ≡ []
    over =
        ap (λ (k : ℕ). events_from k ns) (if_eq (event_size (n ∷ ns)) 0 (length ns) (pred (event_size (n ∷ ns))) e)
        ∙ events_skip (length ns) ns
        ∙ ap (events_from 0) (drop-length ns)
