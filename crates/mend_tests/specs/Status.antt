-- What the pass from the fins up gives each record: 2 where a record that it leads to is missing, else 1 where it, or a record that it leads to, stands twice in the lists of all parents,
-- else 0. The greatest over a body's regions is what its lists are refused with (`IsRefused-as` in Graded.antt). Definitions only.
use Rattle.std.specs.Prelude.{ℕ, ◌-◌, cond, List, [], ◌∷◌, eqb, leb, ltb, set}
use Rattle.geom_lines_planes.specs.Refuse.{◌unless◌}
use Rattle.meaning.specs.Lists.{run, count, joined}
use Rattle.meaning.specs.Formed.{bit}
use Rattle.memory_layout.specs.Names.{REGIONS, SHELLS, FACES, LOOPS, FINS, EDGES, BODY_REGIONS, REGION_SHELLS, SHELL_FACES, FACE_LOOPS, LOOP_FINS, AT_FIN_EDGE}
use Rattle.memory_layout.specs.Layout.{word, words_of}
use Rattle.memory_layout.specs.Entries.{list_of}
use Rattle.split_foreign.specs.Status.{greater, greatest, entry}

-- by table: the list of its records that names records of the next
abbrev pub followed : List ℕ
followed = BODY_REGIONS ∷ REGION_SHELLS ∷ SHELL_FACES ∷ FACE_LOOPS ∷ LOOP_FINS ∷ []

-- ---- how often an id is listed, up to 2; an id that has no place among the counts is passed over

abbrev pub more : ℕ → ℕ
more n = cond (eqb n 0) 1 2

abbrev pub counted : List ℕ → ℕ → List ℕ
counted c i = set c i (more (word c i))

unfoldable pub tallied : List ℕ → List ℕ → List ℕ
tallied c [] = c
tallied c (i ∷ l) = tallied (counted c i) l

-- a record's own status by its count
abbrev pub again : List ℕ → ℕ → ℕ
again c i = bit (ltb 1 (word c i))

module _ (room w : List ℕ) where
  -- all that the records of table k list
  unfoldable pub listed : ℕ → List ℕ
  listed k = joined (list_of room w (word followed k)) (run 0 (word w k))

  -- the own status of a record whose parents are table k
  unfoldable pub twice : ℕ → ℕ → ℕ
  twice k i = 1 unless leb (count i (listed k)) 1

  -- what record i of table k leads to, where its entries lead to f; a fin leads to its edge
  unfoldable pub follows : ℕ → (ℕ → ℕ) → ℕ → ℕ
  follows k f i = cond (eqb k FINS) (2 unless ltb (word (words_of room w FINS i) AT_FIN_EDGE) (word w EDGES)) (greatest f (list_of room w (word followed k) i))

  -- with its own status, o
  unfoldable pub status : ℕ → (ℕ → ℕ) → (ℕ → ℕ) → ℕ → ℕ
  status k o f i = greater (o i) (follows k f i)

  -- from the fins up; a face may have two parents
  unfoldable pub region_status : ℕ → ℕ
  region_status =
      status REGIONS (twice (REGIONS - 1)) (entry (word w SHELLS)
      (status SHELLS (twice (SHELLS - 1)) (entry (word w FACES)
      (status FACES (λ _. 0) (entry (word w LOOPS)
      (status LOOPS (twice (LOOPS - 1)) (entry (word w FINS)
      (status FINS (twice (FINS - 1)) (λ _. 2)))))))))
