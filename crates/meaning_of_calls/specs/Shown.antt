-- An answer of `meaning`, as a call over lent memory gives it: behind the refusals that come first, and in the call's own type. Definitions only.
use Rattle.std.specs.Prelude.{ℕ, zero, suc, ◌≡◌, List, [], leb, length}
use Rattle.geom_lines_planes.specs.Refuse.{◌unless◌}
use Rattle.meaning.specs.Refuse.{Answer, refused, given, answered}

infixr 15 ◌else◌
-- `9 unless t else a`: the refusal 9, or where there is none, the answer a
abbrev pub ◌else◌ : {A : Type 0} → ℕ → Answer A → Answer A
zero else a = a
suc n else a = refused (suc n)

-- what a call makes of an answer: `is` of the value, `by` of the refusal's number
abbrev pub shown : {A C : Type 0} → (A → C) → (ℕ → C) → Answer A → C
shown is by (given a) = is a
shown is by (refused n) = by n

-- an answer that is a list, where a list of `space` entries is lent: 01, "In walks 2 precedes 8"
abbrev pub on_list : ℕ → Answer (List ℕ) → Answer (List ℕ)
on_list space (given l) = answered (8 unless leb (length l) space) l
on_list space (refused n) = refused n

-- the number n and the list l that a walk gives are those of the answer a
pub record WalkIs (a : Answer (List ℕ)) (n : ℕ) (l : List ℕ) : Type 0 where
  pub number : n ≡ shown (λ _. 0) (λ k. k) a
  pub list : l ≡ shown (λ k. k) (λ _. []) a
