-- The eight lists by number are the model's lists, the lookup of an entry answers with theirs (proofs/Entries.antt), and an entry is edited by the refusals of `meaning`. Assumes nothing.
use Prim.Native.Nat.{ℕ, zero, suc, ◌<◌}
use Rattle.std.proofs.Common.{arith}
use Rattle.std.specs.Prelude.{◌≡◌, Bool, List, [], ◌∷◌, length, get_or, Float}
use Rattle.std.proofs.Math.Path.{refl, ap}
use Rattle.std.proofs.Math.Bool.{true, false}
use Rattle.std.proofs.Math.Dec.{ltb}
use Rattle.geom_lines_planes.specs.Refuse.{◌unless◌, ◌then◌}
use Rattle.meaning.specs.Model.{Model, has, body, region, shell, face, loop, edge}
use Rattle.meaning.specs.Refuse.{Answer, answered}
use Rattle.meaning.specs.Edits.{edit_refusal}
use Rattle.memory_layout.specs.Layout.{word}
use Rattle.memory_layout.specs.Decode.{decode}
use Rattle.memory_layout.specs.Readable.{readable}
use Rattle.memory_layout.specs.Entries.{list_tables, list_of, entry_refusal}

-- a list of a record: whether the record exists, and the list
pub record RecordList : Type 0 where
  pub there : Bool
  pub entries : List ℕ

-- the lists of the records under the id i, by number
abbrev pub record_lists : Model → ℕ → List RecordList
record_lists m i =
    record { there = has m.bodies i; entries = (body m i).regions }
    ∷ record { there = has m.regions i; entries = (region m i).shells }
    ∷ record { there = has m.shells i; entries = (shell m i).faces }
    ∷ record { there = has m.shells i; entries = (shell m i).wire_edges }
    ∷ record { there = has m.shells i; entries = (shell m i).acorn_vertices }
    ∷ record { there = has m.faces i; entries = (face m i).loops }
    ∷ record { there = has m.loops i; entries = (loop m i).fins }
    ∷ record { there = has m.edges i; entries = (edge m i).fins }
    ∷ []

abbrev pub record_list : Model → ℕ → ℕ → RecordList
record_list m j i = get_or (record_lists m i) j (record { there = false; entries = [] })

-- list j of record i, looked up at a place: 1 for a list that there is none of, 2 for a missing record, 1 for a place that isn't there
abbrev pub placed : RecordList → ℕ → ℕ
placed r place = 2 unless r.there then 1 unless ltb place (length r.entries)

abbrev pub entry : Model → ℕ → ℕ → ℕ → Answer ℕ
entry m j i place = answered (1 unless ltb j 8 then placed (record_list m j i) place) (get_or (record_list m j i).entries place 0)

module _ (room w : List ℕ) (x : List Float) where
  -- list j of record i, and whether there is the record
  pub list-is : (j i : ℕ) → j < 8 → record { there = ltb i (word w (word list_tables j)); entries = list_of room w j i } ≡ record_list (decode room w x) j i
  unfolding list_of decode
  list-is zero i h = refl
  list-is (suc zero) i h = refl
  list-is (suc (suc zero)) i h = refl
  list-is (suc (suc (suc zero))) i h = refl
  list-is (suc (suc (suc (suc zero)))) i h = refl
  list-is (suc (suc (suc (suc (suc zero))))) i h = refl
  list-is (suc (suc (suc (suc (suc (suc zero)))))) i h = refl
  list-is (suc (suc (suc (suc (suc (suc (suc zero))))))) i h = refl
  list-is (suc (suc (suc (suc (suc (suc (suc (suc j)))))))) i h = absurd (omega arith)

  -- an entry put or struck: the refusals of an edit that takes no room
  pub entry-edit-is : (j i place : ℕ)
      → entry_refusal room w x j i place
      ≡ (9 unless readable room w x then edit_refusal (ltb j 8) (ltb i (word w (word list_tables j))) (ltb place (length (list_of room w j i))) true)
  unfolding entry_refusal
  entry-edit-is j i place =
      ap (λ (n : ℕ). 9 unless readable room w x then 1 unless ltb j 8 then 2 unless ltb i (word w (word list_tables j)) then n) (no_room (ltb place (length (list_of room w j i))))
    where
      no_room : (b : Bool) → (1 unless b) ≡ (1 unless b then 8 unless true)
      no_room true = refl
      no_room false = refl
