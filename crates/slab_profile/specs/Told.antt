-- What the functions behind the slab profile promise one another. No reader of a public promise needs this file. Definitions only.
use Rattle.std.specs.Prelude.{ℕ, ◌≡◌, List}
use Rattle.geom_lines_planes.specs.Refuse.{◌unless◌, ◌then◌, answer}
use Rattle.meaning.specs.Model.{Model, body}
use Rattle.meaning.specs.Inquire.{is_solid}
use Rattle.meaning_slabs.specs.Slabs.{profile, short_list}
use Rattle.memory_writes.specs.Put.{unless_refused}
use Rattle.slab_profile.specs.declared.Profile.{Profile}
use Rattle.slab_profile.specs.declared.Profile.TheVariants as Profiles
use Rattle.slab_profile.specs.Answers.{told, areas_in}

unfoldable pub solid_number : Model → ℕ → ℕ → ℕ
solid_number m b n = 6 unless is_solid (body m b).kind then short_list m b n

-- what is told with a refusal's number, and the list behind it
pub record Told (m : Model) (b number : ℕ) (before behind : List ℕ) (r : Profile) : Type 0 where
  pub told : r ≡ answer told Profiles.Refused number (profile m b)
  pub list : behind ≡ unless_refused number (areas_in m b before) before
