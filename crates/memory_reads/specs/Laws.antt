-- What the proof of `the_line` cites. Assumes nothing.
use Rattle.std.specs.Prelude.{ℕ, suc, ◌≡◌, refl}
use Rattle.std.proofs.Common.{arith}
use Rattle.geom_carriers.specs.Found.{Found}
use Rattle.std.specs.Prelude.{Some, None}
use Rattle.geom_carriers.specs.declared.Carrier.TheVariants as Carriers
use Rattle.geom_carriers.specs.Queries.{line_refusal, the_line}

-- no line is read where there is none
pub no_line : (f : Found) (n : ℕ) → line_refusal f ≡ suc n → the_line None ≡ the_line f
unfolding line_refusal the_line
no_line None n e = refl
no_line (Some (Carriers.Line l)) n e = absurd (omega arith)
no_line (Some (Carriers.Plane s)) n e = refl
no_line (Some Carriers.Other) n e = refl
