-- The cases of the first fault: none, a fault, a refusal. Assumes nothing.
use Rattle.std.specs.Prelude.{ℕ, ◌≡◌, refl}
use Rattle.std.proofs.Common.{arith, ap}
use Rattle.std.proofs.Math.Option.{Option, none, some}
use Rattle.geom_lines_planes.specs.Laws.{Cases}
use Rattle.check_report.specs.declared.FaultFound.{FaultFound}
use Rattle.check_report.specs.declared.FirstFault.{FirstFault}
use Rattle.check_report.specs.declared.FirstFault.TheVariants as Firsts
use Rattle.check_report.specs.Calls.{told}

pub first-cases : Cases told Firsts.Refused
first-cases = record { apart = apart; values = values; numbers = λ m n e. cc }
  where
    apart : (a : Option FaultFound) (m : ℕ) → told a ≡ Firsts.Refused m → ◌≡◌ {A = ℕ} 0 1
    apart none m e = cc
    apart (some f) m e = cc

    values : (a b : Option FaultFound) → told a ≡ told b → a ≡ b
    values none none e = refl
    values none (some g) e = absurd (let z : ◌≡◌ {A = ℕ} 0 1 = cc in omega arith)
    values (some f) none e = absurd (let z : ◌≡◌ {A = ℕ} 0 1 = cc in omega arith)
    values (some f) (some g) e = let same : f ≡ g = cc in ap some same
