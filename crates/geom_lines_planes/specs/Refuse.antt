-- Refusals, by 01's numbers ("Refusal numbers"). A call has a number, 0 or the refusal, and a value, which is read only where the number is 0. Definitions only.
use Rattle.std.specs.Prelude.{ℕ, zero, suc, Bool, true, false}

infix 25 ◌unless◌
infixr 20 ◌then◌
-- `2 unless t`: 0 where the test t passes, else the refusal 2
abbrev pub ◌unless◌ : ℕ → Bool → ℕ
n unless true = 0
n unless false = n

-- `a then b`: the refusal a, or where there is none, b
abbrev pub ◌then◌ : ℕ → ℕ → ℕ
zero then b = b
suc n then b = suc n

-- an answer that is an enum, by 01's numbers: 0 is the case of the value, any other the refusal's
abbrev pub answer : {B A : Type 0} → (B → A) → (ℕ → A) → ℕ → B → A
answer is refused zero v = is v
answer is refused (suc n) v = refused (suc n)
