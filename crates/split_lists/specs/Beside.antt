-- Lists in which new entries stand beside old ones (01, "A new fin stands after a positive old fin, before a negative one"; "A new wire edge stands after the old one"). Definitions only.
use Rattle.std.specs.Prelude.{ℕ, ◌+◌, cond, ◌&&◌, List, [], ◌∷◌, eqb, ltb, length}
use Rattle.meaning.specs.Lists.{place, joined}
use Rattle.meaning.specs.Split.{beside}
use Rattle.memory_layout.specs.Layout.{word}
use Rattle.memory_layout.specs.Decode.{sense_of, list_at}
use Rattle.memory_writes.specs.Put.{over}

-- what stands for an entry of a list of `owner`: itself, and where it is one of the olds that `owner` has, its new id too, by the old one's sense
unfoldable pub entries_for : List ℕ → List ℕ → List ℕ → ℕ → ℕ → ℕ → List ℕ
entries_for olds owners senses owner first i =
    let k = place i olds in
    cond (ltb k (length olds) && eqb (word owners k) owner) (beside (sense_of (word senses k)) i (first + k)) (i ∷ [])

-- the words of a record whose list at a place has f i for each entry i: the length, then the entries
unfoldable pub doubled : (ℕ → List ℕ) → ℕ → List ℕ → List ℕ
doubled f at r = over at (length (joined f (list_at r at)) ∷ joined f (list_at r at)) r
