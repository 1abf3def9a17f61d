-- A choice by a test, and the connectives made of it.
use Rattle.std.specs.Prelude.{Bool, true, false, ℕ}

infixr 30 ◌and◌
infixr 25 ◌or◌
-- the first where the test holds, the second where it does not
unfoldable pub choose : {A : Type 0} → Bool → A → A → A
choose true a b = a
choose false a b = b

abbrev pub ◌and◌ : Bool → Bool → Bool
a and b = choose a b false

abbrev pub ◌or◌ : Bool → Bool → Bool
a or b = choose a true b

abbrev pub isnt : Bool → Bool
isnt a = choose a false true

-- `b`, wherever `a` holds
abbrev pub when : Bool → Bool → Bool
when a b = choose a b true

-- 1 where the test holds, else 0
abbrev pub bit : Bool → ℕ
bit a = choose a 1 0
