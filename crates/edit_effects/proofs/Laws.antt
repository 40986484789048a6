-- The theorems of specs/Laws.antt that rest on leaves. Assumes nothing.
use Prim.Native.Nat.{ℕ, ◌<◌}
use Rattle.std.proofs.Math.Nat.{lt_of_lt_of_le}
use Rattle.std.proofs.Common.{arith, ◌∙◌}
use Rattle.std.specs.Prelude.{◌≡◌, Bool, true, Float}
use mathlib.Core.List.{List}
use Rattle.std.proofs.Math.ListN.{length}
use Rattle.meaning.specs.Model.{Model}
use Rattle.memory_layout.specs.Layout.{word_strides, word, words_of}
use Rattle.memory_layout.specs.Decode.{decode}
use Rattle.memory_layout.specs.Readable as Readable
use Rattle.memory_layout.specs.Fit.{Fit}
use Rattle.memory_layout.proofs.Laws.{words-length}
use Rattle.memory_writes.specs.Put.{over, put_words, put_reals, new_words, counted}
use Rattle.memory_writes.specs.Over.{length_over}
use Rattle.memory_writes.specs.Frame.{new-length}
use Rattle.memory_writes.specs.Change.{with_record, with_one_more}
use Rattle.memory_writes.specs.Kept.{model-put, fit-put, model-new, fit-new}
use Rattle.edit_core.specs.Answers.{insert_number, insert_words, insert_reals, edit_number, edit_words, edit_reals}
use Rattle.edit_core.specs.Facts.{Fields}
use Rattle.edit_core.specs.Laws.{insert-open, edit-open}
use Rattle.edit_effects.specs.Leaves.{Inserts, Sets}
use Rattle.edit_effects.specs.Laws.{same-to, leaves, insert-ok, edit-ok}

module _ (room w : List ℕ) (x : List Float) where
  module _ (ok : Bool) (k : ℕ) (f : List ℕ) (s : List Float) (n : Model) where
    -- the new record has lists of length 0
    pub inserts : Fields k 0 f s → (ok ≡ true → Readable.record_ok k (new_words k f) s ≡ true) → with_one_more k (new_words k f) s (decode room w x) ≡ n
        → Inserts room w x ok k f s n
    unfolding insert_words insert_reals
    inserts fields passes same =
        let whole : length (new_words k f) ≡ word word_strides k = new-length k f (let h = fields.words in omega arith) in
        leaves room w x (insert_number room w x ok k) (counted k (put_words room k (word w k) (new_words k f) w)) (put_reals room k (word w k) s x) n
        (λ z. let got = insert-open room w x ok k z in
        fit-new room w (new_words k f) x s k got.0 fields.table got.1 whole fields.reals (passes (insert-ok room w x ok k z)))
        (λ z. let got = insert-open room w x ok k z in
        same-to same (model-new room w (new_words k f) x s k got.0 fields.table got.1 whole fields.reals))

    module _ (i p : ℕ) where
      -- the record keeps what stands behind its fields
      pub sets : Fields k p f s
          → (ok ≡ true → Fit room w x → i < word w k → length (words_of room w k i) ≡ word word_strides k → Readable.record_ok k (over p f (words_of room w k i)) s ≡ true)
          → (length (words_of room w k i) ≡ word word_strides k → with_record k i (over p f (words_of room w k i)) s (decode room w x) ≡ n)
          → Sets room w x ok k i p f s n
      unfolding edit_words edit_reals
      sets fields passes same =
          leaves room w x (edit_number room w x ok k i) (put_words room k i (over p f (words_of room w k i)) w) (put_reals room k i s x) n
          (λ z. let got = edit-open room w x ok k i z in
          fit-put room w (over p f (words_of room w k i)) x s k i got.0 fields.table (slot z) (whole z) fields.reals got.1
          (passes (edit-ok room w x ok k i z) got.0 got.1 (long z)))
          (λ z. let got = edit-open room w x ok k i z in
          same-to (same (long z))
          (model-put room w (over p f (words_of room w k i)) x s k i got.0 fields.table (slot z) (whole z) fields.reals got.1))
        where
          slot : edit_number room w x ok k i ≡ 0 → i < word room k
          slot z = let got = edit-open room w x ok k i z in lt_of_lt_of_le got.1 (got.0.sized.counts k fields.table)

          long : edit_number room w x ok k i ≡ 0 → length (words_of room w k i) ≡ word word_strides k
          long z =
              words-length room w k i (record { enough = (edit-open room w x ok k i z).0.sized.words; table = fields.table; slot = slot z })

          whole : edit_number room w x ok k i ≡ 0 → length (over p f (words_of room w k i)) ≡ word word_strides k
          whole z =
              let e = long z in
              let h = fields.words in
              length_over p f (words_of room w k i) (omega arith) ∙ e
