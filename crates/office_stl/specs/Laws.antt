-- What an office is told is what is told of the body that the id is for it; above 1, 9 or 1. Assumes nothing.
use Rattle.std.specs.Prelude.{ℕ, ◌<◌, ◌≤◌, ◌≡◌, List, Float}
use Rattle.memory_layout.specs.Readable.{tag_number}
use Rattle.memory_offices.specs.Sight.{body_asked}
use Rattle.memory_offices.proofs.Laws.{answer-there, answer-above, unless-there, unless-above}
use Rattle.stl_writer.specs.declared.StlLength.TheVariants.{Is, Refused}
use Rattle.stl_writer.specs.Answers.{length_number, length_answer, write_number, write_answer, written_bytes}
use Rattle.office_stl.specs.Answers.{office_length_number, office_length, office_write_number, office_write, office_written}

-- an office that there is
module _ (room w : List ℕ) (x : List Float) (o b id : ℕ) (e : id ≡ body_asked room w x o b) (h : o ≤ 1) where
  pub length-there : (f : List ℕ) → length_answer room w x id f ≡ office_length room w x o b f
  unfolding length_number length_answer office_length_number office_length
  length-there f = rw e (answer-there room w x o Is Refused _ _ h)

  pub write-there : (f bytes : List ℕ) → write_answer room w x id f bytes ≡ office_write room w x o b f bytes
  unfolding write_number write_answer office_write_number office_write
  write-there f bytes = rw e (answer-there room w x o Is Refused _ _ h)

  pub written-there : (f bytes : List ℕ) → written_bytes room w x id f bytes ≡ office_written room w x o b f bytes
  unfolding write_number written_bytes office_write_number office_written
  written-there f bytes = rw e (unless-there room w x o _ _ _ h)

-- an office above 1
module _ (room w : List ℕ) (x : List Float) (o b k : ℕ) (h : 1 < o) (e : k ≡ tag_number room w x) where
  pub length_above : (f : List ℕ) → Refused k ≡ office_length room w x o b f
  unfolding office_length_number office_length
  length_above f = answer-above room w x o Is Refused _ k _ h e

  pub write-above : (f bytes : List ℕ) → Refused k ≡ office_write room w x o b f bytes
  unfolding office_write_number office_write
  write-above f bytes = answer-above room w x o Is Refused _ k _ h e

  pub written-above : (f bytes : List ℕ) → bytes ≡ office_written room w x o b f bytes
  unfolding office_write_number office_written
  written-above f bytes = unless-above room w x o _ _ bytes h
