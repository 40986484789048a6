-- What marks and lent lists hold. No reader of a public promise needs this file. Definitions only.
use Rattle.std.specs.Prelude.{ℕ, ◌<◌, ◌≡◌, List, length, get_or}
use Rattle.std.proofs.lemmas.List.Edits.{sets}
use Rattle.meaning.specs.Lists.{member}
use Rattle.meaning.specs.Formed.{bit}

-- the marks say which ids a list has, as far as they reach
pub record Marked (marks l : List ℕ) : Type 0 where
  pub at : (i : ℕ) → i < length marks → get_or marks i 0 ≡ bit (member i l)

-- a list with ids put into it from a place on, as far as it goes
unfoldable pub puts : List ℕ → ℕ → List ℕ → List ℕ
puts d at l = sets d at l
