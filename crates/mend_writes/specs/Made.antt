-- The words of the tables behind the changes of a mending (W-208, "Applying them to the old tables gives the new ones exactly"). Definitions only.
use Rattle.std.specs.Prelude.{ℕ, ◌+◌, List, [], ◌∷◌, set}
use Rattle.meaning_mends.specs.Mends.{child_table, Change, renamed, enlisted}
use Rattle.memory_layout.specs.Names.{EDGES, AT_EDGE_FINS}
use Rattle.memory_layout.specs.Layout.{word_at}

-- where the fins of an edge stand: how many, then each
abbrev pub fins_at : List ℕ → ℕ → ℕ
fins_at room e = word_at room EDGES e + AT_EDGE_FINS

-- another parent stands where it stood, first in a region, a shell, a loop and a fin; a fin more stands at its place, and its edge has that many and one
unfoldable pub made_word : List ℕ → List ℕ → Change → List ℕ
made_word room w (renamed k i old new) = set w (word_at room (child_table k) i) new
made_word room w (enlisted e place i) = set (set w (fins_at room e + 1 + place) i) (fins_at room e) (place + 1)

-- one after the other
unfoldable pub made_words : List ℕ → List ℕ → List Change → List ℕ
made_words room w [] = w
made_words room w (c ∷ l) = made_words room (made_word room w c) l
