-- What `fin_vertices` answers (model.rs), of the model that the lent memory holds. Definitions only.
use Rattle.std.specs.Prelude.{ℕ, List, Float}
use Rattle.geom_lines_planes.specs.Refuse.{◌unless◌, ◌then◌, answer}
use Rattle.meaning.specs.Walks.{Ends, readable_fin, ends_of}
use Rattle.memory_layout.specs.Decode.{decode}
use Rattle.memory_layout.specs.Readable.{readable}
use Rattle.memory_records.specs.Seen.{seen_ref}
use Rattle.walk_fin_ends.specs.declared.Tips.{Tips}
use Rattle.walk_fin_ends.specs.declared.FinVertices.{FinVertices}
use Rattle.walk_fin_ends.specs.declared.FinVertices.TheVariants.{Is, Refused}

-- the two ends as the call gives them: 01, "`Option` ids an enum"
unfoldable pub seen_ends : Ends → Tips
seen_ends e = record { start = seen_ref e.start; end = seen_ref e.end }

module _ (room w : List ℕ) (x : List Float) where
  -- "Every call tests 9 first"; "2: a named or needed record does not exist": the fin, then its edge
  unfoldable pub fin_vertices_number : ℕ → ℕ
  fin_vertices_number i = 9 unless readable room w x then 2 unless readable_fin (decode room w x) i

  unfoldable pub fin_vertices_answer : ℕ → FinVertices
  fin_vertices_answer i = answer Is Refused (fin_vertices_number i) (seen_ends (ends_of (decode room w x) i))
