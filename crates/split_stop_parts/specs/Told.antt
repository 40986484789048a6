-- A stop in seven words, by name, and the first of stops. Definitions only.
use Rattle.std.specs.Prelude.{ℕ, zero, suc, List, [], ◌∷◌, get_or}
use Rattle.meaning_stops.specs.Stops as Stops
use Rattle.meaning_stops.specs.Stops.{Entity, entity_words, Part, accepted, first_part}
use Rattle.split_stop_parts.specs.declared.Stop.{Stop}

abbrev pub class_word : Entity → ℕ
class_word e = get_or (entity_words e) 0 0

abbrev pub id_word : Entity → ℕ
id_word e = get_or (entity_words e) 1 0

-- the words of `stop_words`
unfoldable pub told : Stops.Stop → Stop
told s =
    record {
      number = s.number;
      row = s.row;
      part = s.part;
      class = class_word s.entity;
      id = id_word s.entity;
      parent = class_word s.parent;
      over = id_word s.parent;
    }

-- the words of a stop that is told, in their order
abbrev pub told_words : Stop → List ℕ
told_words s = s.number ∷ s.row ∷ s.part ∷ s.class ∷ s.id ∷ s.parent ∷ s.over ∷ []

-- of a refusal, or 0: what is told where it is one, and where it is none
abbrev pub pick : ℕ → Stop → Stop → Stop
pick zero a b = b
pick (suc n) a b = a

abbrev pub none : Stop
none = record { number = 0; row = 0; part = 0; class = 10; id = 0; parent = 10; over = 0 }

-- the stop at a part of a row, of the words themselves
unfoldable pub tell_at : ℕ → ℕ → ℕ → ℕ → ℕ → ℕ → ℕ → Stop
tell_at k j n c i p q = pick n (record { number = n; row = k; part = j; class = c; id = i; parent = p; over = q }) none

-- the stop a, or where it is none, b
unfoldable pub first_told : Stop → Stop → Stop
first_told a b = pick a.number a b

-- the stop of one row alone
unfoldable pub row_told : ℕ → List Part → Stop
row_told k l = told (first_part k l accepted)

abbrev pub tell : ℕ → Part → Stop
tell k p = tell_at k p.part p.number (class_word p.entity) (id_word p.entity) (class_word p.parent) (id_word p.parent)
