-- What a call of `read_stl` leaves in the lent memory, said over the model (W-210). Assumes nothing.
use Rattle.std.specs.Prelude.{ℕ, zero, suc, ◌≡◌, refl, true, List, Float}
use Rattle.std.proofs.Common.{sym, ◌∙◌}
use Rattle.geom_lines_planes.specs.Refuse.{◌unless◌, ◌then◌}
use Rattle.meaning.specs.Refuse.{Answer}
use Rattle.meaning_list_laws.specs.Tests.{then-zero, unless-zero}
use Rattle.memory_layout.specs.Decode.{decode}
use Rattle.memory_layout.specs.Readable.{readable}
use Rattle.memory_layout.specs.Laws.{fit_of}
use Rattle.memory_writes.specs.Change.{SameModel}
use Rattle.memory_writes.specs.Kept.{readable_of}
use Rattle.memory_layout.specs.Limits.{limits}
use Rattle.stl_body.specs.Read.{read_refusal, model_after_read}
use Rattle.stl_reading_effects.proofs.Follows.{accepted-model, accepted-fit}
use Rattle.stl_reader.specs.Answers.{read_stl_number, read_stl_words, read_stl_reals}

module _ (room w : List ℕ) (x : List Float) (o : ℕ) (b : List ℕ) where
  -- where the tables can be read, the call is refused as the request has it of the model
  pub read_told : readable room w x ≡ true → read_stl_number room w x o b ≡ read_refusal (limits room) (decode room w x) o b
  unfolding read_stl_number
  read_told h = rw h

  -- an accepted reading leaves the model that is built, in memory that can be read
  pub read-builds : read_stl_number room w x o b ≡ 0 → SameModel (decode room (read_stl_words room w x o b) (read_stl_reals room w x o b)) (model_after_read (limits room) (decode room w x) o b)
  unfolding read_stl_number read_stl_words read_stl_reals
  read-builds e =
      let p = then-zero (9 unless readable room w x) (read_refusal (limits room) (decode room w x) o b) e in
      rw e (accepted-model room w x o b (fit_of room w x (unless-zero 8 (readable room w x) p.0)) p.1)

  pub read-leaves-readable : read_stl_number room w x o b ≡ 0 → readable room (read_stl_words room w x o b) (read_stl_reals room w x o b) ≡ true
  unfolding read_stl_number read_stl_words read_stl_reals
  read-leaves-readable e =
      let p = then-zero (9 unless readable room w x) (read_refusal (limits room) (decode room w x) o b) e in
      rw e (readable_of room _ _ (accepted-fit room w x o b (fit_of room w x (unless-zero 8 (readable room w x) p.0)) p.1))

  -- "all before anything is written": a refusal leaves every word and float
  pub refused-leaves : (n : ℕ) → read_stl_number room w x o b ≡ suc n → (read_stl_words room w x o b ≡ w) × (read_stl_reals room w x o b ≡ x)
  unfolding read_stl_words read_stl_reals
  refused-leaves n e = rw e (refl, refl)
