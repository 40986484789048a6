-- A change as six words: the record's class by its table, its id, the field, the place in a list, the old value, the new one. Definitions only.
use Rattle.std.specs.Prelude.{ℕ, List, [], ◌∷◌, ◌++◌}
use Rattle.meaning_mends.specs.Mends.{child_table, Change, renamed, enlisted}

-- the fields: the parent of a region, shell, loop or fin; the fins of an edge
abbrev pub PARENT : ℕ
PARENT = 0

abbrev pub EDGES_FINS : ℕ
EDGES_FINS = 1

-- a parent has no place, and a fin that is added no old value: 0 stands there
abbrev pub change_words : Change → List ℕ
change_words (renamed k i old new) = child_table k ∷ i ∷ PARENT ∷ 0 ∷ old ∷ new ∷ []
change_words (enlisted e place i) = 6 ∷ e ∷ EDGES_FINS ∷ place ∷ 0 ∷ i ∷ []

unfoldable pub changes_words : List Change → List ℕ
changes_words [] = []
changes_words (c ∷ l) = change_words c ++ changes_words l
