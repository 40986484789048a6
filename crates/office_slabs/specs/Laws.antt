-- What an office is told is what is told of the body that the id is for it; above 1, 9 or 1. Assumes nothing.
use Rattle.std.specs.Prelude.{ℕ, ◌<◌, ◌≤◌, ◌≡◌, List, Float}
use Rattle.memory_layout.specs.Readable.{tag_number}
use Rattle.memory_offices.specs.Sight.{body_asked}
use Rattle.memory_offices.proofs.Laws.{answer-there, answer-above, unless-there, unless-above}
use Rattle.slab_profile.specs.declared.Profile.TheVariants.{Refused}
use Rattle.slab_profile.specs.Answers.{told, profile_number, profile_answer, profile_list}
use Rattle.office_slabs.specs.Answers.{office_profile_number, office_profile, office_areas}

-- an office that there is
module _ (room w : List ℕ) (x : List Float) (o b id : ℕ) (e : id ≡ body_asked room w x o b) (h : o ≤ 1) (f d l : List ℕ) where
  pub profile-there : profile_answer room w x id f d l ≡ office_profile room w x o b f d l
  unfolding profile_number profile_answer office_profile_number office_profile
  profile-there = rw e (answer-there room w x o told Refused _ _ h)

  pub areas-there : profile_list room w x id f d l ≡ office_areas room w x o b f d l
  unfolding profile_number profile_list office_profile_number office_areas
  areas-there = rw e (unless-there room w x o _ _ _ h)

-- an office above 1
module _ (room w : List ℕ) (x : List Float) (o b k : ℕ) (h : 1 < o) (e : k ≡ tag_number room w x) (f d l : List ℕ) where
  pub profile-above : Refused k ≡ office_profile room w x o b f d l
  unfolding office_profile_number office_profile
  profile-above = answer-above room w x o told Refused _ k _ h e

  pub areas-above : l ≡ office_areas room w x o b f d l
  unfolding office_profile_number office_areas
  areas-above = unless-above room w x o _ _ l h
