-- What the statements (Statements.antt) speak of beside the changes and the walk. Definitions only.
use Rattle.std.specs.Prelude.{ℕ, ◌+◌, ◌≤◌, List, [], ◌∷◌, replicate}
use Rattle.meaning.specs.Model.{Model, largest}
use Rattle.meaning_mends.specs.Mends.{Change, meetings}
use Rattle.meaning_mends.specs.Words.{change_words}
use Rattle.mend_meetings.specs.Machine.{State, held, entry_put, walked}

-- changes put into a list of words from the entry k on, as far as it has entries
unfoldable pub entries_put : List ℕ → ℕ → List Change → List ℕ
entries_put d k [] = d
entries_put d k (c ∷ l) = entries_put (entry_put d k (change_words c)) (k + 1) l

-- what a walk of the body b leaves behind, from the list d, n marks that are 0 and no changes
abbrev pub walk_of : Model → ℕ → List ℕ → ℕ → State
walk_of m b d n = walked m (meetings m b) (held d (replicate n 0) 0)

-- the tables that have marks are no larger than the largest
pub record Small (m : Model) : Type 0 where
  pub regions : m.regions.used ≤ largest.regions
  pub shells : m.shells.used ≤ largest.shells
  pub loops : m.loops.used ≤ largest.loops
  pub fins : m.fins.used ≤ largest.fins
  pub edges : m.edges.used ≤ largest.edges
