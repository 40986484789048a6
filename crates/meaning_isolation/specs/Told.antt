-- All that is told of a body, each answer whole: the value, or the refusal and its number. Definitions only.
use Rattle.std.specs.Prelude.{ℕ, ◌≡◌, List, map, leb}
use Rattle.geom_lines_planes.specs.Refuse.{◌unless◌, ◌then◌}
use Rattle.meaning.specs.Model.{Model}
use Rattle.meaning.specs.Refuse.{Answer, refused, answered}
use Rattle.meaning.specs.Walks.{body_faces, body_edges, body_vertices}
use Rattle.meaning.specs.Inquire.{body_bounding_box, body_volume}
use Rattle.meaning.specs.Faults.{CheckOptions, check_body, fit_to_saw}
use Rattle.meaning_sheets.specs.Sheets.{Stone, stone_refusal, stone_of, Ask}

-- the stone that a body is for a sheet (W-201), as an answer
abbrev pub body_stone : Model → ℕ → Answer Stone
body_stone m b = answered (stone_refusal m b) (stone_of m b)

-- bodies that one office takes in, one after the other
abbrev pub asked_by : ℕ → List ℕ → List Ask
asked_by o l = map (λ b. record { office = o; body = b }) l

-- the same of the id b in m as of the id c in n
pub record SameAnswers (m n : Model) (b c : ℕ) : Type 0 where
  pub faces : body_faces m b ≡ body_faces n c
  pub edges : body_edges m b ≡ body_edges n c
  pub vertices : body_vertices m b ≡ body_vertices n c
  pub box : body_bounding_box m b ≡ body_bounding_box n c
  pub volume : body_volume m b ≡ body_volume n c
  pub stone : body_stone m b ≡ body_stone n c
  pub report : (o : CheckOptions) → check_body m o b ≡ check_body n o c
  pub fit : fit_to_saw m b ≡ fit_to_saw n c

-- what is told of an id that names no body: 2, and of a report "1 (samples), then 2"
pub record NoSuchBody (m : Model) (b : ℕ) : Type 0 where
  pub faces : body_faces m b ≡ refused 2
  pub edges : body_edges m b ≡ refused 2
  pub vertices : body_vertices m b ≡ refused 2
  pub box : body_bounding_box m b ≡ refused 2
  pub volume : body_volume m b ≡ refused 2
  pub stone : body_stone m b ≡ refused 2
  pub report : (o : CheckOptions) → check_body m o b ≡ refused (1 unless leb o.edge_samples 255 then 2)
  pub fit : fit_to_saw m b ≡ refused 2
