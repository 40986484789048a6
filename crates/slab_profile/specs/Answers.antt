-- What the slab profile of a body answers, and the lent list behind the call (W-212; "Every call tests 9 first"; "Marks shorter than their table's capacity give 8, right after 9"). Definitions only.
use Rattle.std.specs.Prelude.{ℕ, ◌&&◌, cond, List, Float, length}
use Rattle.geom_lines_planes.specs.Refuse.{◌unless◌, ◌then◌, answer}
use Rattle.meaning.specs.Model.{Model}
use Rattle.meaning_slabs.specs.Slabs as Slabs
use Rattle.meaning_slabs.specs.Slabs.{area, breaks, profile, verdict, is_accepted, areas, profile_refusal}
use Rattle.memory_layout.specs.Names.{FACES, EDGES}
use Rattle.memory_layout.specs.Decode.{decode}
use Rattle.memory_layout.specs.Readable.{readable}
use Rattle.memory_writes.specs.Put.{over, unless_refused}
use Rattle.walk_answers.specs.Calls.{reach}
use Rattle.slab_profile.specs.declared.Profile.{Profile}
use Rattle.slab_profile.specs.declared.Profile.TheVariants as Profiles

-- the enum: the area in all, or the rule and the entity
abbrev pub told : Slabs.Profile → Profile
told (area n) = Profiles.Accepted n
told (breaks k x) = Profiles.Broken (record { rule = k; entity = x })

-- "face by face": of an accepted body the areas in the front of the list, which is else as it was
abbrev pub areas_in : Model → ℕ → List ℕ → List ℕ
areas_in m b list = cond (is_accepted (verdict m b)) (over 0 (areas m b) list) list

module _ (room w : List ℕ) (x : List Float) (b : ℕ) (face_marks edge_marks list : List ℕ) where
  unfoldable pub profile_number : ℕ
  profile_number =
      9 unless readable room w x
      then 8 unless reach room FACES face_marks && reach room EDGES edge_marks
      then profile_refusal (decode room w x) b (length list)

  unfoldable pub profile_answer : Profile
  profile_answer = answer told Profiles.Refused profile_number (profile (decode room w x) b)

  unfoldable pub profile_list : List ℕ
  profile_list = unless_refused profile_number (areas_in (decode room w x) b list) list
