-- What the slab profile puts into lent slots, where the number is 0. Definitions only.
use Rattle.std.specs.Prelude.{ℕ, List, [], ◌∷◌}
use Rattle.meaning_slabs.specs.Slabs.{Profile, area, breaks}

-- the broken rule, from 1, and the entity, or two zeros for an accepted body; then the area in all
abbrev pub profile_value : Profile → List ℕ
profile_value (area n) = 0 ∷ 0 ∷ n ∷ []
profile_value (breaks k x) = k ∷ x ∷ 0 ∷ []
