-- The definitions evaluated on two blades, one of each office (meaning_isolation/specs/TwoOffices.antt): what the statements ask can be met. Assumes nothing.
use Rattle.std.specs.Prelude.{ℕ, ◌≡◌, refl, true, List, [], ◌∷◌, map}
use Rattle.meaning.specs.Model.{Model, largest}
use Rattle.meaning.specs.Walks.{edge_walk}
use Rattle.meaning.specs.Formed.{well_formed}
use Rattle.meaning.specs.Offices.{office_split_refusal, OfficeCut, office_after_all}
use Rattle.meaning.specs.Blade.{quarter, shell_is}
use Rattle.meaning.specs.Computing.{computing}
use Rattle.meaning_isolation.specs.TwoOffices.{blades}
use Rattle.meaning_office_laws.specs.Terms.{office_split_edges}

abbrev cut : ℕ → ℕ → OfficeCut
cut o e = record { office = o; edge = e; fraction = quarter }

abbrev refusals : Model → List OfficeCut → List ℕ
refusals m l = map (λ c. office_split_refusal largest m c.office c.edge c.fraction) l

formed : well_formed largest blades ≡ true
unfolding computing
formed = refl

-- each office splits its own edge and not the other's; an edge that is missing; an office above 1
refused : refusals blades (cut 0 0 ∷ cut 0 1 ∷ cut 1 0 ∷ cut 1 1 ∷ cut 0 2 ∷ cut 2 0 ∷ []) ≡ 0 ∷ 2 ∷ 2 ∷ 0 ∷ 2 ∷ 1 ∷ []
unfolding computing
refused = refl

-- the edge 0 as a wire edge of the other's shell too: it is refused to both
shared : refusals (shell_is 1 (1 ∷ []) (0 ∷ []) [] blades) (cut 0 0 ∷ cut 1 0 ∷ cut 1 1 ∷ []) ≡ 2 ∷ 2 ∷ 0 ∷ []
unfolding computing
shared = refl

-- both offices in turn: the new edge of an own one is the office's, and not the other's
abbrev in_turn : List OfficeCut
in_turn = cut 0 0 ∷ cut 1 0 ∷ cut 1 2 ∷ cut 1 1 ∷ cut 2 1 ∷ cut 0 2 ∷ []

turns : office_split_edges largest blades in_turn ≡ 0 ∷ 1 ∷ 2 ∷ []
unfolding computing office_split_edges
turns = refl

walks : map (edge_walk (office_after_all largest blades in_turn)) (0 ∷ 1 ∷ []) ≡ (0 ∷ 2 ∷ 4 ∷ []) ∷ (1 ∷ 3 ∷ []) ∷ []
unfolding computing
walks = refl
