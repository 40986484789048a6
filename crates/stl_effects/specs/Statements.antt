-- What the promises of the length and of the writing say of the refusals and of the lent bytes, in the request's words. Assumes nothing.
use Prim.Native.Nat.{ℕ, zero, suc, ◌+◌, ◌*◌, ◌≤◌, ◌<◌}
use Rattle.std.proofs.Common.{arith, sym, ◌∙◌, subst}
use Rattle.std.specs.Prelude.{◌≡◌, Bool, true, false, List, ◌++◌, leb, Float}
use Rattle.std.proofs.Math.Path.{refl, ap}
use Rattle.std.proofs.Math.ListN.{length, take, drop}
use borrow.Author.Tests.{leb-true}
use Rattle.geom_lines_planes.specs.Refuse.{◌unless◌, ◌then◌}
use Rattle.meaning.specs.Inquire.{Side, solid_sides}
use Rattle.meaning.specs.Offices.{office_refusal}
use Rattle.meaning_list_laws.specs.Tests.{then-zero, unless-zero}
use Rattle.meaning_sheets.specs.Sheets.{triangles}
use Rattle.memory_layout.specs.Names.{FACES}
use Rattle.memory_layout.specs.Decode.{decode}
use Rattle.memory_layout.specs.Readable.{readable}
use Rattle.memory_writes.specs.Put.{over, unless_refused}
use Rattle.memory_writes.specs.Over.{part-written, drop-over}
use Rattle.memory_offices.specs.Sight.{by_office, body_asked}
use Rattle.walk_answers.specs.Calls.{reach}
use Rattle.image_format.specs.Bytes.{little, number}
use Rattle.image_laws.specs.Numbers.{number-little}
use Rattle.stl_format.specs.Stl.{Triangle, triangles_of, triangles_bytes, stl_of, stl_refusal, write_refusal}
use Rattle.stl_format.specs.Laws.{stl-length}
use Rattle.stl_format.specs.Statements.{count-is}
use Rattle.stl_writer.specs.Answers.{length_number, write_number}
use Rattle.office_stl.specs.Answers.{stl_asked, office_length_number, office_write_number, office_written}

-- 9 is tested once
once : (t : Bool) (n k : ℕ) → (9 unless t then n then 9 unless t then k) ≡ (9 unless t then n then k)
once true n k = refl
once false n k = refl

-- the refusals in order: 9, the office's 1, 8 for short marks, then those of the request over the model, of the body that the id is for the office
pub length-told : (room w : List ℕ) (x : List Float) (o b : ℕ) (face_marks : List ℕ)
    → office_length_number room w x o b face_marks ≡ (9 unless readable room w x then office_refusal o then 8 unless reach room FACES face_marks then stl_refusal (decode room w x) (body_asked room w x o b))
unfolding office_length_number by_office length_number
length-told room w x o b face_marks = once (readable room w x) (office_refusal o) (8 unless reach room FACES face_marks then stl_refusal (decode room w x) (body_asked room w x o b))

pub write-told : (room w : List ℕ) (x : List Float) (o b : ℕ) (face_marks bytes : List ℕ)
    → office_write_number room w x o b face_marks bytes ≡ (9 unless readable room w x then office_refusal o then 8 unless reach room FACES face_marks then write_refusal (decode room w x) (body_asked room w x o b) (length bytes))
unfolding office_write_number by_office write_number
write-told room w x o b face_marks bytes = once (readable room w x) (office_refusal o) (8 unless reach room FACES face_marks then write_refusal (decode room w x) (body_asked room w x o b) (length bytes))

-- "80-byte header, a 32-bit count, then 50 bytes for each triangle", "fins minus two, added over the faces taken"
pub file-length : (room w : List ℕ) (x : List Float) (o b : ℕ) → length (stl_asked room w x o b) ≡ 84 + 50 * triangles (decode room w x) (solid_sides (decode room w x) (body_asked room w x o b))
file-length room w x o b =
    let sides = solid_sides (decode room w x) (body_asked room w x o b) in
    stl-length (triangles_of (decode room w x) sides) ∙ ap (λ n. 84 + 50 * n) (count-is (decode room w x) sides)

module _ (room w : List ℕ) (x : List Float) (o b : ℕ) (face_marks bytes : List ℕ) where
  abbrev answered : ℕ
  answered = office_write_number room w x o b face_marks bytes

  abbrev file : List ℕ
  file = stl_asked room w x o b

  -- behind the 8 there is room
  fits : answered ≡ 0 → length file ≤ length bytes
  unfolding office_write_number by_office write_number write_refusal
  fits z =
      let a = (then-zero (office_refusal o) _ (then-zero (9 unless readable room w x) _ z).1).1 in
      let d = (then-zero (8 unless reach room 3 face_marks) _ (then-zero (9 unless readable room w x) _ a).1).1 in
      leb-true (length file) (length bytes) (unless-zero 7 (leb (length file) (length bytes)) (then-zero (stl_refusal (decode room w x) (body_asked room w x o b)) _ d).1)

  -- "the lent bytes are then untouched": whatever the refusal
  pub refused-untouched : (n : ℕ) → answered ≡ suc n → office_written room w x o b face_marks bytes ≡ bytes
  unfolding office_written
  refused-untouched n e = ap (λ k. unless_refused k (over 0 file bytes) bytes) e

  -- the file stands in front
  pub file-in-front : answered ≡ 0 → take (length file) (office_written room w x o b face_marks bytes) ≡ file
  unfolding office_written
  file-in-front z = ap (λ k. take (length file) (unless_refused k (over 0 file bytes) bytes)) z ∙ part-written 0 (length file) file bytes refl (omega arith)

  -- and behind its end the bytes are as they were, written or not
  pub behind-untouched : drop (length file) (office_written room w x o b face_marks bytes) ≡ drop (length file) bytes
  unfolding office_written
  behind-untouched = by answered refl
    where
      by : (k : ℕ) → answered ≡ k → drop (length file) (unless_refused k (over 0 file bytes) bytes) ≡ drop (length file) bytes
      by zero z = let room : length file ≤ length bytes = fits z in drop-over 0 (length file) file bytes (omega arith) (omega arith)
      by (suc k) z = refl
