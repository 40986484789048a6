-- What the inner functions ask. No reader of a public promise needs this file. Definitions only.
use Rattle.std.specs.Prelude.{ℕ, ◌+◌, ◌≤◌, ◌<◌, ◌≡◌, List, length, Float}
use Rattle.memory_layout.specs.Layout.{word_strides, real_strides, word}

-- fields of a record of table k, from place p on, and all its floats
pub record Fields (k p : ℕ) (f : List ℕ) (s : List Float) : Type 0 where
  pub table : k < 10
  pub words : p + length f ≤ word word_strides k
  pub reals : length s ≡ word real_strides k
