-- The eight lists, by number: 0 a body's regions, 1 a region's shells, 2 a shell's faces, 3 its wire edges, 4 its acorn vertices, 5 a face's loops, 6 a loop's fins,
-- 7 an edge's fins; and the lookup of an entry. Definitions only.
use Rattle.std.specs.Prelude.{ℕ, List, [], ◌∷◌, ltb, length, Float}
use Rattle.geom_lines_planes.specs.Refuse.{◌unless◌, ◌then◌, answer}
use Rattle.memory_layout.specs.Names.{BODIES, REGIONS, SHELLS, FACES, LOOPS, EDGES, AT_BODY_REGIONS, AT_REGION_SHELLS, AT_SHELL_FACES, AT_SHELL_WIRES, AT_SHELL_ACORNS, AT_FACE_LOOPS, AT_LOOP_FINS, AT_EDGE_FINS}
use Rattle.memory_layout.specs.declared.entries.Entry.{Entry}
use Rattle.memory_layout.specs.declared.entries.Entry.TheVariants.{Is, Refused}
use Rattle.memory_layout.specs.Layout.{word, words_of}
use Rattle.memory_layout.specs.Decode.{list_at}
use Rattle.memory_layout.specs.Readable.{readable}

-- the table whose records have the list, where in the record it stands, and how long it may be
abbrev pub list_tables : List ℕ
list_tables = BODIES ∷ REGIONS ∷ SHELLS ∷ SHELLS ∷ SHELLS ∷ FACES ∷ LOOPS ∷ EDGES ∷ []

abbrev pub list_places : List ℕ
list_places = AT_BODY_REGIONS ∷ AT_REGION_SHELLS ∷ AT_SHELL_FACES ∷ AT_SHELL_WIRES ∷ AT_SHELL_ACORNS ∷ AT_FACE_LOOPS ∷ AT_LOOP_FINS ∷ AT_EDGE_FINS ∷ []

abbrev pub list_limits : List ℕ
list_limits = 16 ∷ 16 ∷ 512 ∷ 256 ∷ 64 ∷ 16 ∷ 1024 ∷ 8 ∷ []

-- list j of record i
unfoldable pub list_of : List ℕ → List ℕ → ℕ → ℕ → List ℕ
list_of room w j i = list_at (words_of room w (word list_tables j) i) (word list_places j)

-- an entry: 9, then 1 for a list that there is none of, 2 for a missing record, 1 for a place that isn't there
unfoldable pub entry_refusal : List ℕ → List ℕ → List Float → ℕ → ℕ → ℕ → ℕ
entry_refusal room w x j i place =
    9 unless readable room w x
    then 1 unless ltb j 8
    then 2 unless ltb i (word w (word list_tables j))
    then 1 unless ltb place (length (list_of room w j i))

unfoldable pub entry_answer : List ℕ → List ℕ → List Float → ℕ → ℕ → ℕ → Entry
entry_answer room w x j i place = answer Is Refused (entry_refusal room w x j i place) (word (list_of room w j i) place)
