-- `trial_image::front` reads no byte behind the image. Assumes nothing.
use mathlib.Core.Path.{sym}
use lib.Seq.{length-take-le}
use native.Mathlib.Omega.{arith}
use borrow.Author.Rules.{rules}
use Rattle.trial_image.proofs.front.Goals as goal

pub slice_bounds-read_image-end-3 : goal.slice_bounds-read_image-end-3
slice_bounds-read_image-end-3 c = let s = c.args in sym (length-take-le s.n s.bytes.now (omega arith))
