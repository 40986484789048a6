-- Sources and their parts, on the lent words. No reader of a public promise needs this file. Definitions only.
use Rattle.std.specs.Prelude.{ℕ, ◌+◌, ◌*◌, ◌/◌, ◌%◌, ◌≤◌, ◌<◌, ◌≡◌, Bool, true, cond, ◌&&◌, List, [], ◌∷◌, ◌++◌, map, eqb, ltb, length}
use Rattle.meaning.specs.Lists.{all}
use Rattle.memory_layout.specs.Names.{REGIONS, SHELLS, FACES, LOOPS, FINS, EDGES, VERTICES, LOOP_FINS, EDGE_FINS, AT_FIN_EDGE, AT_EDGE_START, AT_EDGE_START_ID, AT_EDGE_END, AT_EDGE_END_ID}
use Rattle.memory_layout.specs.Layout.{word, words_of}
use Rattle.memory_layout.specs.Entries.{list_tables, list_of}
use Rattle.walk_marks.specs.Marks.{puts}

-- the table that a list's entries are of
abbrev pub entry_tables : List ℕ
entry_tables = REGIONS ∷ SHELLS ∷ FACES ∷ EDGES ∷ VERTICES ∷ LOOPS ∷ FINS ∷ FINS ∷ []

-- the edge that a fin names
abbrev pub fin_edge : List ℕ → List ℕ → ℕ → ℕ
fin_edge room w i = word (words_of room w FINS i) AT_FIN_EDGE

-- an end by its tag, and the ends in an edge's words
abbrev pub end_of : ℕ → ℕ → List ℕ
end_of tag x = cond (eqb tag 0) [] (x ∷ [])

abbrev pub ends_in : List ℕ → List ℕ
ends_in s = end_of (word s AT_EDGE_START) (word s AT_EDGE_START_ID) ++ end_of (word s AT_EDGE_END) (word s AT_EDGE_END_ID)

-- the ids of list j of record i: the edges for a loop's fins, the ends for an edge's
unfoldable pub part_in : List ℕ → List ℕ → ℕ → ℕ → List ℕ
part_in room w j i =
    cond (eqb j EDGE_FINS) (ends_in (words_of room w EDGES i))
    (cond (eqb j LOOP_FINS) (map (fin_edge room w) (list_of room w LOOP_FINS i)) (list_of room w j i))

unfoldable pub part_of : List ℕ → List ℕ → ℕ → List ℕ
part_of room w source = part_in room w (source % 8) (source / 8)

-- ids as sources of list k
unfoldable pub sourced : ℕ → List ℕ → List ℕ
sourced k l = map (λ i. 8 * i + k) l

-- record i of list j's table exists, and so does all that it lists
unfoldable pub followed : List ℕ → List ℕ → ℕ → ℕ → Bool
followed room w j i = ltb i (word w (word list_tables j)) && all (λ x. ltb x (word w (word entry_tables j))) (list_of room w j i)

-- the source's record exists, and so do a loop's fins
pub record Source (room w : List ℕ) (source : ℕ) : Type 0 where
  pub slot : source / 8 < word w (word list_tables (source % 8))
  pub fins : source % 8 ≡ LOOP_FINS → all (λ x. ltb x (word w FINS)) (list_of room w LOOP_FINS (source / 8)) ≡ true

pub record Sources (room w path : List ℕ) : Type 0 where
  pub at : (p : ℕ) → p < length path → Source room w (word path p)

-- a part was put into the front of a buffer
pub record Took (part buf₀ buf : List ℕ) (n : ℕ) : Type 0 where
  pub count : n ≡ length part
  pub short : n ≤ 1024
  pub list : buf ≡ puts buf₀ 0 part
