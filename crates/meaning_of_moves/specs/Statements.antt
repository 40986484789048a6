-- Moving a stone must not change its weight (W-214, whose words are quoted), as the station's call answers it, for any lent memory. Assumes nothing.
use Rattle.std.specs.Prelude.{ℕ, ◌≡◌, true, List, map, Float}
use Rattle.float_vectors.specs.declared.vector.Point3.{Point3}
use Rattle.meaning.specs.Model.{Limits}
use Rattle.meaning.specs.Walks.{vertex_walk}
use Rattle.meaning.specs.Split.{Cut, after_all}
use Rattle.meaning.specs.Offices.{OfficeCut}
use Rattle.meaning_sheets.specs.Sheets.{Corner, six_volume, stone_refusal}
use Rattle.meaning_shift.specs.Moving.{Movable, Shifted, moved}
use Rattle.meaning_shift.proofs.Statements.{splits-keep-it-movable}
use Rattle.meaning_of_calls.proofs.Sheets.{take_same, sheet-same}
use Rattle.memory_layout.specs.Names.{FACES}
use Rattle.memory_layout.specs.Decode.{decode}
use Rattle.memory_layout.specs.Readable.{readable}
use Rattle.memory_layout.specs.Limits.{limits}
use Rattle.split_sequences.specs.Sequence.{calls_words, calls_reals}
use Rattle.split_sequences.proofs.Statements.{calls-model}
use Rattle.split_offices.specs.Calls.{office_calls_words, office_calls_reals, heard}
use Rattle.split_offices.proofs.Statements.{memory-as-without-offices}
use Rattle.walk_answers.specs.Calls.{reach}
use Rattle.meaning_of_moves.specs.Moves.{Lent, lent_model, Moved, SameTake, body_set, body_numbers}
use Rattle.meaning_of_moves.specs.Sets as Sets
use Rattle.meaning_of_moves.specs.Told.{same_number, told-stone}
use Rattle.meaning_of_moves.specs.Same.{same-movable}

module _ (y : Limits) (room : List ℕ) (before : Lent) (b r : ℕ) (k : Movable y (lent_model room before) b r) where
  -- ---- "Shift every vertex of the body by the same grid vector, staying in range": in any way, to points that are t sixteenths away

  module _ (after : Lent) (t : Corner) (point : ℕ → Point3) (d : Shifted (lent_model room before) b t point) (s : Moved room before after b point) where
    -- 1. "Six times the volume is unchanged": the sheet behind the call is the same, and so is the refusal, for either office and with marks that are long enough both times or neither
    pub moving-keeps-the-answer : (o : ℕ) (face_marks face_marks' : List ℕ) → reach room FACES face_marks' ≡ reach room FACES face_marks → SameTake room before after o b face_marks face_marks'
    moving-keeps-the-answer o face_marks face_marks' e =
        let stone = told-stone y (lent_model room before) (lent_model room after) b r k t point d s.model o in
        record {
          number = take_same room after.words after.reals room before.words before.reals o b face_marks' face_marks s.read-too s.read e stone;
          sheet = sheet-same room after.words after.reals room before.words before.reals o b face_marks' face_marks s.read-too s.read e stone;
        }

    -- 2. the number itself, where the moved stone can be taken in
    pub moving-keeps-the-number : stone_refusal (lent_model room after) b ≡ 0
        → six_volume (lent_model room after) b ≡ six_volume (lent_model room before) b
    moving-keeps-the-number = same_number y (lent_model room before) (lent_model room after) b r k t point d s.model

  -- ---- by the station's calls: `set_vertex` for each vertex of the body

  module _ (read : readable room before.words before.reals ≡ true) where
    -- 3. none of them is refused, and behind them those vertices have moved and nothing else
    pub no-set-refused : (point : ℕ → Point3) → body_numbers room before b point ≡ map (λ _. 0) (vertex_walk (lent_model room before) b)
    no-set-refused point = Sets.none-refused y room before b point read k.formed k.there

    pub sets_move : (point : ℕ → Point3) → Moved room before (body_set room before b point) b point
    sets_move point = Sets.body-moved y room before b point read k.formed k.there

-- ---- what the request takes stays met by a split

calls-keep : (room w : List ℕ) (x : List Float) (b r : ℕ) → readable room w x ≡ true → Movable (limits room) (decode room w x) b r
    → (l : List Cut) → Movable (limits room) (decode room (calls_words room w x l) (calls_reals room w x l)) b r
calls-keep room w x b r read k l =
    same-movable (limits room) (decode room (calls_words room w x l) (calls_reals room w x l)) (after_all (limits room) (decode room w x) l)
    (calls-model room w x l (record { readable = read; formed = k.formed })).model b r (splits-keep-it-movable (limits room) (decode room w x) b r k l)

-- 6. by any calls of `split_line_edge`, one after the other and by both offices, accepted or refused
pub split-calls-keep-it-movable : (room w : List ℕ) (x : List Float) (b r : ℕ) → readable room w x ≡ true → Movable (limits room) (decode room w x) b r
    → (l : List OfficeCut) → Movable (limits room) (decode room (office_calls_words room w x l) (office_calls_reals room w x l)) b r
split-calls-keep-it-movable room w x b r read k l =
    let h = memory-as-without-offices room w x l in
    rw (h.0, h.1) (calls-keep room w x b r read k (heard room w x l))
