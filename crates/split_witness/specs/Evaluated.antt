-- The trial stone as a model, with the limits of the room that it is lent: well formed, and what splits of it are refused with, by evaluation. Assumes nothing.
use Rattle.std.specs.Prelude.{◌≡◌, refl, true, List, [], ◌∷◌, map, Float}
use Rattle.meaning.specs.Lists.{member}
use Rattle.meaning.specs.Computing.{computing}
use Rattle.meaning.specs.Floats.{◌/ᶠ◌, float_of}
use Rattle.meaning.specs.Walks.{edge_walk}
use Rattle.meaning.specs.Split.{split_refusal, model_after, Cut}
use Rattle.meaning.specs.Formed.{well_formed}
use Rattle.meaning.specs.Stone.{stone}
use Rattle.memory_layout.specs.Limits.{limits}
use Rattle.meaning_split_laws.specs.Terms.{split_edges}
use Rattle.split_witness.specs.Stone.{stone_room}

abbrev pub quarter : Float
quarter = float_of 1 /ᶠ float_of 4

-- A at 0.25, then the new edge
abbrev pub calls : List Cut
calls = record { edge = 0; fraction = quarter } ∷ record { edge = 12; fraction = quarter } ∷ []

pub stone-formed : well_formed (limits stone_room) stone ≡ true
unfolding computing stone_room
stone-formed = refl

pub stone-has-edge : member 0 (edge_walk stone 0) ≡ true
unfolding computing
stone-has-edge = refl

pub stone-refusals : map (split_refusal (limits stone_room) stone 0) (quarter ∷ float_of 0 ∷ []) ≡ 0 ∷ 1 ∷ []
unfolding computing stone_room
stone-refusals = refl

pub split-stone-refusal : split_refusal (limits stone_room) (model_after (limits stone_room) stone 0 quarter) 12 quarter ≡ 8
unfolding computing stone_room
split-stone-refusal = refl

pub stone-edges : split_edges (limits stone_room) stone calls ≡ 0 ∷ []
unfolding computing stone_room split_edges
stone-edges = refl
