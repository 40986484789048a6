-- The cases of a profile: accepted, broken, refused. Assumes nothing.
use Rattle.std.specs.Prelude.{ℕ, ◌≡◌}
use Rattle.std.proofs.Common.{arith, ap}
use Rattle.geom_lines_planes.specs.Laws.{Cases}
use Rattle.meaning_slabs.specs.Slabs as Slabs
use Rattle.meaning_slabs.specs.Slabs.{area, breaks}
use Rattle.slab_rules.specs.declared.Verdict.{Verdict}
use Rattle.slab_profile.specs.declared.Profile.{Profile}
use Rattle.slab_profile.specs.declared.Profile.TheVariants as Profiles
use Rattle.slab_profile.specs.Answers.{told}

pub profile-cases : Cases told Profiles.Refused
profile-cases = record { apart = apart; values = values; numbers = λ m n e. cc }
  where
    apart : (a : Slabs.Profile) (m : ℕ) → told a ≡ Profiles.Refused m → ◌≡◌ {A = ℕ} 0 1
    apart (area n) m e = cc
    apart (breaks k x) m e = cc

    values : (a b : Slabs.Profile) → told a ≡ told b → a ≡ b
    values (area n) (area k) e = let same : n ≡ k = cc in ap area same
    values (area n) (breaks k x) e = absurd (let z : ◌≡◌ {A = ℕ} 0 1 = cc in omega arith)
    values (breaks k x) (area n) e = absurd (let z : ◌≡◌ {A = ℕ} 0 1 = cc in omega arith)
    values (breaks k x) (breaks l y) e =
        let v : Verdict = record { rule = k; entity = x } in
        let w : Verdict = record { rule = l; entity = y } in
        let same : v ≡ w = cc in
        ap (λ (t : Verdict). breaks t.rule t.entity) same
