-- The ids of a path, and what was met of them. No reader of a public promise needs this file. Definitions only.
use Rattle.std.specs.Prelude.{ℕ, ◌≤◌, ◌≡◌, List, ◌++◌, length, take, drop}
use Rattle.meaning.specs.Lists.{joined, meets, firsts}
use Rattle.walk_marks.specs.Marks.{Marked, puts}
use Rattle.walk_sources.specs.Sources.{part_of}

-- the ids that the sources of a path list, one after the other
abbrev pub ids_of : List ℕ → List ℕ → List ℕ → List ℕ
ids_of room w path = joined (part_of room w) path

-- of a part's n ids, after those before were met, the first r of the buffer are met for the first time
pub record Fresh (before part buf marks : List ℕ) (n r : ℕ) : Type 0 where
  pub short : r ≤ n
  pub new : firsts before ++ take r buf ≡ meets (firsts before) part
  pub marked : Marked marks (before ++ part)

-- a list that was filled with the first meetings, as far as it goes
pub record Visited (ids out₀ out : List ℕ) (n : ℕ) : Type 0 where
  pub count : n ≡ length (firsts ids)
  pub list : out ≡ puts out₀ 0 (firsts ids)

-- on the way: of the part that the buffer held, k ids were looked at, and m of them are new
pub record Freshing (before buf₀ buf marks : List ℕ) (k m : ℕ) : Type 0 where
  pub new : firsts before ++ take m buf ≡ meets (firsts before) (take k buf₀)
  pub rest : drop k buf ≡ drop k buf₀
  pub marked : Marked marks (before ++ take k buf₀)
