-- `image_bytes::wide` meets its contract: a byte is below 256. Assumes nothing.
use native.Mathlib.Omega.{arith}
use mathlib.Core.Path.{refl}
use Rattle.image_bytes.proofs.wide.Goals as goal

pub returns : goal.returns
returns c = record { value = refl; upper_bound = omega arith }
