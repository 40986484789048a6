-- Theorems that rest on those of specs/TableRows.antt, and are proved by them. Assumes nothing.
use Rattle.std.specs.Prelude.{ℕ, ◌≤◌, ◌<◌, List, Float, length, drop}
use Rattle.std.proofs.Common.{arith}
use Rattle.memory_layout.specs.Layout.{word_strides, real_strides, word, word_at, real_at}
use Rattle.memory_layout.specs.Fit.{Sized}
use Rattle.memory_layout.specs.Laws.{capacity-le}
use Rattle.memory_layout.specs.TableRows.{TableRows, rows_fit}

pub table-rows : (room w : List ℕ) (x : List Float) (k : ℕ) → Sized room w x → k < 10
    → TableRows k (word w k) (drop (word_at room k 0) w) (drop (real_at room k 0) x)
table-rows room w x k s h =
    let c = s.counts k h in
    let d = capacity-le room s.small k h in
    record {
      table = h;
      few = omega arith;
      words = (rows_fit w 11 word_strides room k (word w k) h c s.words).1;
      reals = (rows_fit x 1 real_strides room k (word w k) h c s.reals).1;
    }

-- where that part begins
pub table-begins : (room w : List ℕ) (x : List Float) (k : ℕ) → Sized room w x → k < 10 → (word_at room k 0 ≤ length w) × (real_at room k 0 ≤ length x)
table-begins room w x k s h =
    ((rows_fit w 11 word_strides room k (word w k) h (s.counts k h) s.words).0, (rows_fit x 1 real_strides room k (word w k) h (s.counts k h) s.reals).0)
