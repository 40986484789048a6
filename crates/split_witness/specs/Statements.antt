-- What `split_sequences` asks is met: the trial stone in lent memory with room for one more split is sound, and calls on it are accepted and refused. Assumes nothing.
use Rattle.std.specs.Prelude.{ℕ, ◌<◌, ◌≡◌, true, List, [], ◌∷◌, get_or, Float}
use Rattle.std.proofs.Common.{arith, ap, ◌∙◌}
use Rattle.geom_lines_planes.specs.Refuse.{answer}
use Rattle.meaning.specs.Floats.{float_of}
use Rattle.meaning.specs.Split.{split_refusal, model_after, after_all}
use Rattle.meaning.specs.Formed.{WellFormed, has_edge}
use Rattle.meaning.specs.Stone.{stone}
use Rattle.memory_layout.specs.Decode.{decode}
use Rattle.memory_layout.specs.Limits.{limits}
use Rattle.station_answers.specs.declared.Split.TheVariants.{Is, Refused}
use Rattle.split_edge.specs.After.{split_answer, split_words, split_reals}
use Rattle.meaning_split_laws.specs.Kept.{split-keeps}
use Rattle.meaning_split_laws.specs.Walked.{has-edge}
use Rattle.meaning_split_laws.specs.Statements.{well-formed-is-tested}
use Rattle.split_sequences.specs.Sequence.{calls_words, calls_reals, calls_edges}
use Rattle.split_sequences.specs.Same.{same-formed}
use Rattle.split_sequences.specs.Walked.{walks_same}
use Rattle.split_sequences.specs.Tested.{refusal-same}
use Rattle.split_sequences.specs.Followed.{number_read, followed}
use Rattle.split_sequences.specs.Statements.{Sound}
use Rattle.split_witness.specs.Stone.{stone_room, stone_words, stone_reals, stone-readable, stone-decodes}
use Rattle.split_witness.specs.Evaluated.{quarter, calls, stone-formed, stone-has-edge, stone-refusals, split-stone-refusal, stone-edges}

formed : WellFormed (limits stone_room) stone
formed = (well-formed-is-tested (limits stone_room) stone).0 stone-formed

-- the memory is readable, and holds a well-formed model: the trial stone, record by record and with its precision (`stone-decodes` of laid)
pub stone-sound : Sound stone_room stone_words stone_reals
stone-sound = record { readable = stone-readable; formed = same-formed (limits stone_room) (decode stone_room stone_words stone_reals) stone stone-decodes formed }

answers : (t : Float) (n : ℕ) → split_refusal (limits stone_room) stone 0 t ≡ n
    → split_answer stone_room stone_words stone_reals 0 t ≡ answer Is Refused n (record { original_edge = 0; new_edge = 12; vertex = 8 })
unfolding split_answer decode
answers t n q =
    rw (
      number_read stone_room stone_words stone_reals 0 t stone-readable,
      refusal-same (limits stone_room) (decode stone_room stone_words stone_reals) stone stone-decodes formed 0 t,
      q,
      stone-decodes.edges.used,
      stone-decodes.vertices.used,
    )

-- 01, "Trial stone": A at 0.25 is split, at 0 it is refused with 1
pub stone-is-split : split_answer stone_room stone_words stone_reals 0 quarter ≡ Is (record { original_edge = 0; new_edge = 12; vertex = 8 })
stone-is-split = answers quarter 0 (ap (λ (l : List ℕ). get_or l 0 0) stone-refusals)

pub stone-is-refused : split_answer stone_room stone_words stone_reals 0 (float_of 0) ≡ Refused 1
stone-is-refused = answers (float_of 0) 1 (ap (λ (l : List ℕ). get_or l 1 0) stone-refusals)

pub one-body : 0 < (decode stone_room stone_words stone_reals).bodies.used
one-body = rw stone-decodes.bodies.used (omega arith)

pub has-it : has_edge (decode stone_room stone_words stone_reals) 0 0 ≡ true
has-it =
    let walk = walks_same (decode stone_room stone_words stone_reals) stone stone-decodes 0 (limits stone_room) formed (omega arith) in
    rw (has-edge (limits stone_room) (decode stone_room stone_words stone_reals) stone-sound.formed 0 one-body 0, walk.edges) stone-has-edge

-- behind it there is no more room: the new edge is refused with 8, and of these two calls the first alone is accepted
pub then-no-room : split_answer stone_room (split_words stone_room stone_words stone_reals 0 quarter) (split_reals stone_room stone_words stone_reals 0 quarter) 12 quarter ≡ Refused 8
unfolding split_answer calls_words calls_reals after_all
then-no-room =
    let h = (followed stone_room stone_words stone_reals stone (record { edge = 0; fraction = quarter } ∷ []) stone-readable stone-decodes formed).holds in
    rw (
      number_read stone_room (split_words stone_room stone_words stone_reals 0 quarter) (split_reals stone_room stone_words stone_reals 0 quarter) 12 quarter h.readable,
      refusal-same (limits stone_room) (decode stone_room (split_words stone_room stone_words stone_reals 0 quarter) (split_reals stone_room stone_words stone_reals 0 quarter))
          (model_after (limits stone_room) stone 0 quarter) h.model (split-keeps (limits stone_room) stone 0 quarter formed) 12 quarter,
      split-stone-refusal,
    )

pub first-is-accepted : calls_edges stone_room stone_words stone_reals calls ≡ 0 ∷ []
first-is-accepted = (followed stone_room stone_words stone_reals stone calls stone-readable stone-decodes formed).edges ∙ stone-edges
