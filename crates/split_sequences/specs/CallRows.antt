-- The rows of tests of a call of `split_line_edge`: 01, "Every call tests 9 first", then the thirteen rows of `meaning_split_laws`. Definitions only.
use Rattle.std.specs.Prelude.{ℕ, not, List, [], ◌∷◌, drop, Float}
use Rattle.memory_layout.specs.Decode.{decode}
use Rattle.memory_layout.specs.Readable.{readable}
use Rattle.memory_layout.specs.Limits.{limits}
use Rattle.meaning_split_laws.specs.Rows.{Step, ◌when◌, split_rows}

-- 9 has row 0, which 01's rows leave free
abbrev pub call_rows : List ℕ → List ℕ → List Float → ℕ → Float → List (List Step)
call_rows room w x e t = (9 when not (readable room w x) ∷ []) ∷ drop 1 (split_rows (limits room) (decode room w x) e t)
