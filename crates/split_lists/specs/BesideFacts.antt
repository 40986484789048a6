-- What the inner functions ask. No reader of a public promise needs this file. Definitions only.
use Rattle.std.specs.Prelude.{ℕ, ◌+◌, ◌≤◌, ◌<◌, ◌≡◌, List, length, take}
use Rattle.meaning.specs.Lists.{joined}
use Rattle.memory_layout.specs.Layout.{word}
use Rattle.memory_layout.specs.Decode.{list_at}
use Rattle.memory_writes.specs.Put.{over}

-- for each old entry its owner and its sense, and new ids that fit a word
pub record Olds (olds owners senses : List ℕ) (first : ℕ) : Type 0 where
  pub own : length owners ≡ length olds
  pub sense : length senses ≡ length olds
  pub few : length olds ≤ 8
  pub ids : first ≤ 4096

-- a list that stands whole at a place of a record, and has room for what it becomes
pub record Longer (w : List ℕ) (at : ℕ) (f : ℕ → List ℕ) : Type 0 where
  pub place : at < length w
  pub whole : at + word w at < length w
  pub short : word w at ≤ 1024
  pub long : length (joined f (list_at w at)) ≤ 1024
  pub room : at + length (joined f (list_at w at)) < length w

-- what stands for the first j entries of l is written from place q on: the words are w, and p is the place behind it
pub record Written (f : ℕ → List ℕ) (l w₀ : List ℕ) (q j : ℕ) (w : List ℕ) (p : ℕ) : Type 0 where
  pub so_far : j ≤ length l
  pub long : length w ≡ length w₀
  pub behind : p ≡ q + length (joined f (take j l))
  pub list : w ≡ over q (joined f (take j l)) w₀
