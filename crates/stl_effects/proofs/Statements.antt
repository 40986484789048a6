-- Theorems that rest on those of specs/Statements.antt, and are proved by them. Assumes nothing.
use Prim.Native.Nat.{ℕ, zero, suc, ◌+◌, ◌*◌, ◌≤◌, ◌<◌}
use Rattle.std.proofs.Common.{arith, sym, ◌∙◌, subst}
use Rattle.std.specs.Prelude.{◌≡◌, Bool, true, false, List, ◌++◌, leb, Float}
use Rattle.std.proofs.Math.Path.{refl, ap}
use Rattle.std.proofs.Math.ListN.{length, take, drop}
use borrow.Author.Tests.{leb-true}
use Rattle.geom_lines_planes.specs.Refuse.{◌unless◌, ◌then◌}
use Rattle.meaning.specs.Inquire.{Side, solid_sides}
use Rattle.meaning.specs.Offices.{office_refusal}
use Rattle.meaning_list_laws.specs.Tests.{then-zero, unless-zero}
use Rattle.meaning_sheets.specs.Sheets.{triangles}
use Rattle.memory_layout.specs.Names.{FACES}
use Rattle.memory_layout.specs.Decode.{decode}
use Rattle.memory_layout.specs.Readable.{readable}
use Rattle.memory_writes.specs.Put.{over, unless_refused}
use Rattle.memory_writes.specs.Over.{part-written, drop-over}
use Rattle.memory_offices.specs.Sight.{by_office, body_asked}
use Rattle.walk_answers.specs.Calls.{reach}
use Rattle.image_format.specs.Bytes.{little, number}
use Rattle.image_laws.specs.Numbers.{number-little}
use Rattle.stl_format.specs.Stl.{Triangle, triangles_of, triangles_bytes, stl_of, stl_refusal, write_refusal}
use Rattle.stl_format.specs.Laws.{stl-length}
use Rattle.stl_format.specs.Statements.{count-is}
use Rattle.stl_writer.specs.Answers.{length_number, write_number}
use Rattle.office_stl.specs.Answers.{stl_asked, office_length_number, office_write_number, office_written}
use Rattle.stl_effects.specs.Counts.{count_fits}

-- the count that a viewer reads in the file is that number: none outgrows 32 bits
pub count-read : (room w : List ℕ) (x : List Float) (o b : ℕ) → number 4 (drop 80 (stl_asked room w x o b)) ≡ triangles (decode room w x) (solid_sides (decode room w x) (body_asked room w x o b))
count-read room w x o b = ap (number 4) behind ∙ number-little 4 (length all) (triangles_bytes all) small ∙ count-is (decode room w x) sides
  where
    sides : List Side
    sides = solid_sides (decode room w x) (body_asked room w x o b)

    all : List Triangle
    all = triangles_of (decode room w x) sides

    behind : drop 80 (stl_of all) ≡ little 4 (length all) ++ triangles_bytes all
    behind = unfold stl_of in refl

    small : length all < 4294967296
    small = subst (λ (n : ℕ). n < 4294967296) (sym (count-is (decode room w x) sides)) (count_fits room w x (body_asked room w x o b))
