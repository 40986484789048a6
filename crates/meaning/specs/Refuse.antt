-- Refusals (error.rs; 01, "Refusal numbers"). Each call has a number, 0 or the refusal, a value, and its answer, made of both. Definitions only.
-- A value is total: where the number is not 0 it is whatever the definition gives, and nobody reads it.
use Rattle.std.specs.Prelude.{ℕ, Bool, true, false, List, [], ◌∷◌}
use Rattle.geom_lines_planes.specs.Refuse.{◌unless◌, ◌then◌, answer}
use Rattle.meaning.specs.Model.{Table, has}

pub data Answer (A : Type 0) : Type 0 where
  refused : ℕ → Answer A
  given : A → Answer A

-- 01, "A refusal returns only its number"
abbrev pub answered : {A : Type 0} → ℕ → A → Answer A
answered n a = answer given refused n a

-- a lookup (model.rs, `lookup`): 2 where the record does not exist
abbrev pub lookup : {A : Type 0} → Table A → ℕ → Answer A
lookup t i = answered (2 unless has t i) (t.slot i)

infix 25 ◌if◌
-- `4 if t`: the refusal 4 where t holds, else 0
abbrev pub ◌if◌ : ℕ → Bool → ℕ
n if true = n
n if false = 0

-- the first refusal of a list of tests
unfoldable pub first_refusal : List ℕ → ℕ
first_refusal [] = 0
first_refusal (n ∷ l) = let rest = first_refusal l in n then rest

-- the first refusal among those of the entries, in list order
unfoldable pub first_of : (ℕ → ℕ) → List ℕ → ℕ
first_of f [] = 0
first_of f (x ∷ l) = let rest = first_of f l in f x then rest
