-- What `split_line_edge` does to the model that the lent memory holds. Assumes nothing.
use Rattle.std.specs.Prelude.{ℕ, suc, ◌+◌, ◌≤◌, ◌<◌, ◌≡◌, true, List, length, Float}
use Rattle.std.proofs.Math.Path.{refl}
use Rattle.meaning.specs.Model.{Model, Table}
use Rattle.meaning.specs.Split.{after_split}
use Rattle.memory_layout.specs.Names.{SHELLS, LOOPS, EDGES, EDGE_FINS, AT_SHELL_WIRES, AT_LOOP_FINS, AT_EDGE_FINS}
use Rattle.memory_layout.specs.Layout.{word, words_of, reals_of}
use Rattle.memory_layout.specs.Decode.{decode}
use Rattle.memory_layout.specs.Readable.{readable}
use Rattle.memory_layout.specs.Entries.{list_of}
use Rattle.memory_writes.specs.Change.{SameTable, SameModel}
use Rattle.memory_writes.specs.Kept.{readable_of}
use Rattle.split_place.specs.SplitNumber.{split_number}
use Rattle.split_edge.specs.After.{split_words, split_reals}
use Rattle.split_edge.specs.Rooms.{accepted}
use Rattle.split_effect.specs.Reads.{loop-place, shell-place, edge-place, slot-words, slot-floats}
use Rattle.split_effect.specs.Same.{model-split}
use Rattle.split_effect.specs.Stays.{fit-split}

-- the words w' and the floats x' are readable, and hold the model m
pub record HoldsModel (room w' : List ℕ) (x' : List Float) (m : Model) : Type 0 where
  pub readable : readable room w' x' ≡ true
  pub model : SameModel (decode room w' x') m

-- behind the split, the words w' hold what w held at every place of a list behind its last entry: the loops', the shells' wire edges, and those of the new edge, which has n fins
pub record PlacesStay (room w w' : List ℕ) (n : ℕ) : Type 0 where
  pub loops : (i q : ℕ) → i < word w LOOPS → AT_LOOP_FINS + word (words_of room w' LOOPS i) AT_LOOP_FINS < q → word (words_of room w' LOOPS i) q ≡ word (words_of room w LOOPS i) q
  pub wires : (i q : ℕ) → i < word w SHELLS → AT_SHELL_WIRES + word (words_of room w' SHELLS i) AT_SHELL_WIRES < q → word (words_of room w' SHELLS i) q ≡ word (words_of room w SHELLS i) q
  pub new-edge : (q : ℕ) → AT_EDGE_FINS + n < q → word (words_of room w' EDGES (word w EDGES)) q ≡ word (words_of room w EDGES (word w EDGES)) q

same-table : {A : Type 0} (t : Table A) → SameTable t t
same-table t = record { used = refl; slots = λ i h. refl }

pub same-model : (m : Model) → SameModel m m
same-model m =
    record {
      version = refl;
      precision = refl;
      bodies = same-table m.bodies;
      regions = same-table m.regions;
      shells = same-table m.shells;
      faces = same-table m.faces;
      loops = same-table m.loops;
      fins = same-table m.fins;
      edges = same-table m.edges;
      vertices = same-table m.vertices;
      curves = same-table m.curves;
      surfaces = same-table m.surfaces;
    }

module _ (room w : List ℕ) (x : List Float) (e : ℕ) (t : Float) where
  -- an accepted split leaves a readable memory that holds the model after the split
  pub split_done : split_number room w x e t ≡ 0 → HoldsModel room (split_words room w x e t) (split_reals room w x e t) (after_split (decode room w x) e t)
  unfolding split_words split_reals
  split_done z =
      let a = accepted room w x e t z in
      rw z (record { readable = readable_of room _ _ (fit-split room w x e t a); model = model-split room w x e t a })

  -- slots that are not used stay as they were
  pub unused-slots-stay : split_number room w x e t ≡ 0 → (k i : ℕ) → k < 10 → word (split_words room w x e t) k ≤ i → i < word room k
      → (words_of room (split_words room w x e t) k i ≡ words_of room w k i) × (reals_of room (split_reals room w x e t) k i ≡ reals_of room x k i)
  unfolding split_words split_reals
  unused-slots-stay z = let a = accepted room w x e t z in rw z (λ k i h u g. (slot-words room w x e t a k i h u g, slot-floats room w x e t a k i h u g))

  -- and so do places of lists
  pub unused-places-stay : split_number room w x e t ≡ 0 → PlacesStay room w (split_words room w x e t) (length (list_of room w EDGE_FINS e))
  unfolding split_words
  unused-places-stay z =
      let a = accepted room w x e t z in
      rw z (record { loops = loop-place room w x e t a; wires = shell-place room w x e t a; new-edge = edge-place room w x e t a })

  -- a refused one leaves every word and float as it was
  pub split-refused : (n : ℕ) → split_number room w x e t ≡ suc n → (split_words room w x e t ≡ w) × (split_reals room w x e t ≡ x)
  unfolding split_words split_reals
  split-refused n z = rw z (refl, refl)
