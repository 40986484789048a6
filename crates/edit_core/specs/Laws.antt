-- The tests of an insert and of an edit, as facts. Assumes nothing.
use Rattle.std.specs.Prelude.{ℕ, ◌<◌, ◌≡◌, Bool, List, Float}
use Rattle.std.proofs.Math.Dec.{ltb}
use borrow.Author.Tests.{ltb-true}
use Rattle.geom_lines_planes.specs.Refuse.{◌unless◌, ◌then◌}
use Rattle.meaning_list_laws.specs.Tests.{then-zero, unless-zero}
use Rattle.memory_layout.specs.Layout.{word}
use Rattle.memory_layout.specs.Readable.{readable}
use Rattle.memory_layout.specs.Fit.{Fit}
use Rattle.memory_layout.specs.Laws.{fit_of}
use Rattle.edit_core.specs.Answers.{insert_number, edit_number}

module _ (room w : List ℕ) (x : List Float) where
  -- a record is inserted
  pub insert-open : (ok : Bool) (k : ℕ) → insert_number room w x ok k ≡ 0 → Fit room w x × (word w k < word room k)
  unfolding insert_number
  insert-open ok k e =
      let a = then-zero (9 unless readable room w x) (1 unless ok then 8 unless ltb (word w k) (word room k)) e in
      let b = then-zero (1 unless ok) (8 unless ltb (word w k) (word room k)) a.1 in
      (fit_of room w x (unless-zero 8 (readable room w x) a.0), ltb-true (word w k) (word room k) (unless-zero 7 _ b.1))

  -- a record is edited
  pub edit-open : (ok : Bool) (k i : ℕ) → edit_number room w x ok k i ≡ 0 → Fit room w x × (i < word w k)
  unfolding edit_number
  edit-open ok k i e =
      let a = then-zero (9 unless readable room w x) (1 unless ok then 2 unless ltb i (word w k) then 0) e in
      let b = then-zero (1 unless ok) (2 unless ltb i (word w k) then 0) a.1 in
      let c = then-zero (2 unless ltb i (word w k)) 0 b.1 in
      (fit_of room w x (unless-zero 8 (readable room w x) a.0), ltb-true i (word w k) (unless-zero 1 (ltb i (word w k)) c.0))
