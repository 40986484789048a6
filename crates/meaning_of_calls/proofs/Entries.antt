-- The lookup of an entry answers with the model's lists: the theorem that rests on `list-is` of specs/Entries.antt. Assumes nothing.
use Prim.Native.Nat.{ℕ, ◌<◌}
use Rattle.std.proofs.Common.{◌∙◌, ltb-true}
use Rattle.std.specs.Prelude.{◌≡◌, Bool, List, length, get_or, Float}
use Rattle.std.proofs.Math.Path.{refl, ap}
use Rattle.std.proofs.Math.Bool.{true, false}
use Rattle.std.proofs.Math.Dec.{ltb}
use Rattle.geom_lines_planes.specs.Refuse.{◌unless◌, ◌then◌, answer}
use Rattle.meaning.specs.Refuse.{answered}
use Rattle.memory_layout.specs.declared.entries.Entry.TheVariants.{Is, Refused}
use Rattle.memory_layout.specs.Layout.{word}
use Rattle.memory_layout.specs.Decode.{decode}
use Rattle.memory_layout.specs.Readable.{readable}
use Rattle.memory_layout.specs.Entries.{list_tables, list_of, entry_refusal, entry_answer}
use Rattle.meaning_of_calls.specs.Shown.{◌else◌, shown}
use Rattle.meaning_of_calls.specs.Laws.{behind-one}
use Rattle.meaning_of_calls.specs.Entries.{RecordList, record_list, placed, entry, list-is}

module _ (room w : List ℕ) (x : List Float) where
  pub entry-is : (j i place : ℕ) → entry_answer room w x j i place ≡ shown Is Refused (9 unless readable room w x else entry (decode room w x) j i place)
  unfolding entry_answer entry_refusal
  entry-is j i place = go (ltb j 8) (ltb-true j 8)
    where
      go : (b : Bool) → (b ≡ true → j < 8)
          → answer Is Refused (9 unless readable room w x then 1 unless b then 2 unless ltb i (word w (word list_tables j)) then 1 unless ltb place (length (list_of room w j i)))
          (word (list_of room w j i) place)
          ≡ shown Is Refused
          (9 unless readable room w x else answered (1 unless b then placed (record_list (decode room w x) j i) place) (get_or (record_list (decode room w x) j i).entries place 0))
      go true h =
          let r = record_list (decode room w x) j i in
          ap (λ (r : RecordList). answer Is Refused (9 unless readable room w x then placed r place) (word r.entries place)) (list-is room w x j i (h refl))
          ∙ behind-one Is Refused (λ v. v) (9 unless readable room w x) (placed r place) (word r.entries place)
      go false h = behind-one Is Refused (λ v. v) (9 unless readable room w x) 1 (word (list_of room w j i) place)
