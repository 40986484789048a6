-- Fields put at a place: a wrong place is told by its number, before any definition is unfolded.
use Prim.Native.Nat.{ℕ}
use mathlib.Core.Path.{◌≡◌}
use mathlib.Core.Bool.{true}
use mathlib.Core.List.{List}
use lib.Ieee.{Float}
use Rattle.edit_core.specs.Answers.{edit_words}

pub placed : (room w : List ℕ) (x : List Float) (k i p q : ℕ) (f v : List ℕ) → v ≡ edit_words room w x true k i p f → p ≡ q → v ≡ edit_words room w x true k i q f
placed room w x k i p q f v e h = rw (← h) e
