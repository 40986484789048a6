-- What `split_line_edge` answers, and what it leaves in the lent memory (euler.rs; 01, "Splitting", from "The parameter is" on). `split_writes` says what it leaves in the
-- words. Definitions only.
use Rattle.std.specs.Prelude.{ℕ, List, Float}
use Rattle.geom_lines_planes.specs.Refuse.{answer}
use Rattle.meaning.specs.Split.{split_point}
use Rattle.memory_layout.specs.Names.{EDGES, VERTICES, FLOAT_EDGE_TOLERANCE}
use Rattle.memory_layout.specs.Layout.{word, real, reals_of}
use Rattle.memory_layout.specs.Decode.{decode}
use Rattle.memory_writes.specs.Put.{unless_refused}
use Rattle.split_pieces.specs.Pieces.{floats_put}
use Rattle.split_writes.specs.Written.{words_split}
use Rattle.split_place.specs.SplitNumber.{split_number, office_split_number}
use Rattle.station_answers.specs.declared.Split.{Split}
use Rattle.station_answers.specs.declared.Split.TheVariants.{Is, Refused}

-- all floats: the edge's own tolerance for the new edge and the new vertex, "lo + (hi - lo)·fraction" on its line for the point
unfoldable pub reals_split : List ℕ → List ℕ → List Float → ℕ → Float → List Float
reals_split room w x e t = floats_put room (word w EDGES) (word w VERTICES) (split_point (decode room w x) e t) (real (reals_of room x EDGES e) FLOAT_EDGE_TOLERANCE) x

-- ---- the split, whoever asks: 9, the thirteen tests, then the writing

module _ (room w : List ℕ) (x : List Float) (e : ℕ) (t : Float) where
  unfoldable pub split_answer : Split
  split_answer = answer Is Refused (split_number room w x e t) (record { original_edge = e; new_edge = word w EDGES; vertex = word w VERTICES })

  unfoldable pub split_words : List ℕ
  split_words = unless_refused (split_number room w x e t) (words_split room w e) w

  unfoldable pub split_reals : List Float
  split_reals = unless_refused (split_number room w x e t) (reals_split room w x e t) x

-- ---- the call that names its office (W-206): "right after 9", then the same tests of what the edge is for the office, then the same writing

module _ (room w : List ℕ) (x : List Float) (o e : ℕ) (t : Float) where
  unfoldable pub office_split_answer : Split
  office_split_answer = answer Is Refused (office_split_number room w x o e t) (record { original_edge = e; new_edge = word w EDGES; vertex = word w VERTICES })

  unfoldable pub office_split_words : List ℕ
  office_split_words = unless_refused (office_split_number room w x o e t) (words_split room w e) w

  unfoldable pub office_split_reals : List Float
  office_split_reals = unless_refused (office_split_number room w x o e t) (reals_split room w x e t) x
