-- Why a call is refused ("Both get the reason and the entity"): the row of tests, the part of it, and the record. Definitions only.
-- A call's rows stand in the order of its tests; the first part that refuses is the stop.
use Rattle.std.specs.Prelude.{ℕ, zero, suc, List, [], ◌∷◌, ◌++◌, map}
use Rattle.meaning.specs.Refuse.{first_refusal}
use Rattle.meaning.specs.Faults.{Class, of_body, of_region, of_shell, of_face, of_loop, of_fin, of_edge, of_vertex}

-- ---- "the entity as class and id"

-- the classes of the faults, and behind them the carriers, which no fault is put on
pub data Entity : Type 0 where
  this : Class → ℕ → Entity
  this_curve this_surface : ℕ → Entity
  nothing : Entity

-- a class is its table's number, as in the fault list; where there is no record, the number behind the last table
abbrev pub class_of : Class → ℕ
class_of of_body = 0
class_of of_region = 1
class_of of_shell = 2
class_of of_face = 3
class_of of_loop = 4
class_of of_fin = 5
class_of of_edge = 6
class_of of_vertex = 7

abbrev pub entity_words : Entity → List ℕ
entity_words (this c i) = class_of c ∷ i ∷ []
entity_words (this_curve i) = 8 ∷ i ∷ []
entity_words (this_surface i) = 9 ∷ i ∷ []
entity_words nothing = 10 ∷ 0 ∷ []

-- ---- the parts of a row

-- one test: the refusal, or 0 where it passes; the record that is missing or does not pass; the record that names it
pub record Part : Type 0 where
  pub part : ℕ
  pub number : ℕ
  pub entity : Entity
  pub parent : Entity

abbrev pub part : ℕ → ℕ → Entity → Entity → Part
part k n e p = record { part = k; number = n; entity = e; parent = p }

abbrev pub numbers : List Part → List ℕ
numbers l = map (λ p. p.number) l

pub record Row : Type 0 where
  pub row : ℕ
  pub parts : List Part

infix 15 ◌∶◌
abbrev pub ◌∶◌ : ℕ → List Part → Row
k ∶ l = record { row = k; parts = l }

-- the row's refusal: that of its first part that refuses
unfoldable pub refusal_of : Row → ℕ
refusal_of r = first_refusal (numbers r.parts)

-- ---- the stop

pub record Stop : Type 0 where
  pub number : ℕ
  pub row : ℕ
  pub part : ℕ
  pub entity : Entity
  pub parent : Entity

abbrev pub accepted : Stop
accepted = record { number = 0; row = 0; part = 0; entity = nothing; parent = nothing }

-- in seven words
abbrev pub stop_words : Stop → List ℕ
stop_words s = s.number ∷ s.row ∷ s.part ∷ entity_words s.entity ++ entity_words s.parent

-- at the part p of row k; and what is told where p passes
abbrev pub stop_at : ℕ → Part → Stop
stop_at k p = record { number = p.number; row = k; part = p.part; entity = p.entity; parent = p.parent }

abbrev pub unless_passed : ℕ → Stop → Stop → Stop
unless_passed zero here later = later
unless_passed (suc n) here later = here

unfoldable pub first_part : ℕ → List Part → Stop → Stop
first_part k [] later = later
first_part k (p ∷ l) later = let rest = first_part k l later in unless_passed p.number (stop_at k p) rest

-- "the entity is the first in the order of the tests"
unfoldable pub first_stop : List Row → Stop
first_stop [] = accepted
first_stop (r ∷ l) = let later = first_stop l in first_part r.row r.parts later
