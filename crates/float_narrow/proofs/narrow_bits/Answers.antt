-- `float_narrow::narrow_bits` meets its contract: the cast loses nothing. Assumes nothing.
use mathlib.Core.Path.{◌≡◌, sym, ◌∙◌}
use mathlib.Core.Bool.{true, false, not}
use borrow.Author.Rules.{rules}
use borrow.Author.Tests.{not-true, not-false}
use lib.Ieee.{binary32, fits, is_nan}
use lib.Ieee.Fits.{and_i}
use Rattle.float_narrow.specs.Narrow.{narrow, narrow_bits}
use Rattle.float_narrow.specs.Laws.{narrow-number, narrow-fits}
use Rattle.float_narrow.proofs.narrow_bits.Goals as goal

pub returns-then-not-narrow : goal.returns-then-not-narrow
unfolding narrow_bits
returns-then-not-narrow c =
    let wide : narrow c.args.x ≡ false = sym c.narrow.ensures ∙ c.if-not-narrow.true in
    rw wide

pub float_to_float-result : goal.float_to_float-result
float_to_float-result c =
    let x = c.args.x in
    let held : narrow x ≡ true = sym c.narrow.ensures ∙ c.if-not-narrow.false in
    and_i (fits binary32 x) (not (is_nan x)) (narrow-fits x held) (narrow-number x held)

pub float_to_bits-result : goal.float_to_bits-result
float_to_bits-result c =
    let x = c.args.x in
    narrow-number x (sym c.narrow.ensures ∙ c.if-not-narrow.false)

pub returns : goal.returns
unfolding narrow_bits
returns c =
    let held : narrow c.args.x ≡ true = sym c.narrow.ensures ∙ c.if-not-narrow.false in
    rw held
