-- W-202: "Reading what was written gives the same model, and an image that the reader accepts is the one the writer makes." (docs/IMAGE.md has the format.) W-211: images of both versions. W-206: of both offices. Assumes nothing.
use Rattle.std.proofs.Common.{sym, ap, append_assoc}
use Rattle.std.specs.Prelude.{drop, ◌≡◌, true, List, ◌++◌, ℕ}
use Rattle.geom_lines_planes.specs.declared.tolerance.Version.TheVariants.{First, Second}
use Rattle.meaning.specs.Model.{Model, Body, office-0, body}
use Rattle.meaning_list_laws.specs.Tests.{and_both}
use Rattle.memory_layout.specs.Names.{BODIES}
use Rattle.memory_layout.specs.Layout.{word}
use Rattle.memory_writes.specs.Change.{SameModel}
use Rattle.image_format.specs.Bytes.{little, number, same_bytes}
use Rattle.image_format.specs.Fields.{marks, mark_of, record_image, fields_in, body_fields}
use Rattle.image_format.specs.Image.{records_image, version_image, image_of, behind_records, table_bytes, fields_at, model_of, records_in, model_in, held, accepted}
use Rattle.image_laws.specs.Numbers.{drop-little, same_bytes_lem}
use Rattle.image_laws.specs.Models as Models

-- "an image that the reader accepts is the one the writer makes"
pub accepted-is-written : (b : List ℕ) → accepted b ≡ true → image_of (model_in b) ≡ b
unfolding accepted
accepted-is-written b h = same_bytes_lem (image_of (model_in b)) b (and_both (held (model_in b)) (same_bytes (image_of (model_in b)) b) h).1

-- what it makes of it is a model that 01's tables hold
pub accepted-is-held : (b : List ℕ) → accepted b ≡ true → held (model_in b) ≡ true
unfolding accepted
accepted-is-held b h = (and_both (held (model_in b)) (same_bytes (image_of (model_in b)) b) h).0

-- ---- so images and models tell each other apart

-- one model has one image
pub image-same : (m n : Model) → SameModel m n → image_of m ≡ image_of n
image-same m n s = Models.image-same m n s

-- ---- W-211, the versions

-- "A version 2 model's image begins with one more record, with a mark of its own and the version"
pub second-has-one-more : (m : Model) → m.version ≡ Second → image_of m ≡ version_image Second ++ records_image m
unfolding image_of
second-has-one-more m e = rw e

-- "A version 1 model is written as before"
pub first-is-as-before : (m : Model) → m.version ≡ First → image_of m ≡ records_image m
unfolding image_of version_image
first-is-as-before m e = rw e

-- ---- W-206, the offices

-- "W-202 writes office 1's bodies under a second body mark": the rest of the record is that of the same body of office 0
pub mark-alone-differs : (r : Body)
    → record_image BODIES (body_fields r)
    ≡ little 2 (mark_of BODIES r.office) ++ drop 2 (record_image BODIES (body_fields (record { kind = r.kind; office = office-0; regions = r.regions })))
unfolding record_image
mark-alone-differs r = simp append_assoc (ap (λ (s : List ℕ). little 2 (mark_of BODIES r.office) ++ s) (sym (drop-little 2 (word marks BODIES) _)))

-- "so old images read as office 0": any bytes, where body i stands under the mark of before
pub old-mark-is-office-0 : (b : List ℕ) (i : ℕ) → number 2 (behind_records BODIES i (table_bytes (records_in b) BODIES)) ≡ word marks BODIES
    → (body (model_in b) i).office ≡ office-0
unfolding model_in model_of fields_at fields_in
old-mark-is-office-0 b i e = rw e
