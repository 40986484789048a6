-- `stl_corners::corners_refusal` meets its contract: all corners are asked for 5 before one is for 1. Assumes nothing.
use native.Mathlib.Omega.{arith}
use mathlib.Core.Path.{◌≡◌, ◌∙◌}
use mathlib.Core.Bool.{true, false}
use Rattle.stl_body.specs.Read.{stl_triangles, corners, all_finite, all_apart}
use Rattle.stl_corners.specs.Laws.{fit_length, of-all}
use Rattle.stl_corners.proofs.corners_refusal.Goals as goal

pub triangles_in-n-requires : goal.triangles_in-n-requires
triangles_in-n-requires c = c.requires

pub all_finite-requires : goal.all_finite-requires
all_finite-requires c = let h = fit_length c.args.bytes.now c.requires in let e = c.triangles_in-n.ensures in omega arith

pub returns-then-not-all_finite : goal.returns-then-not-all_finite
returns-then-not-all_finite c =
    let s = c.args.bytes.now in
    let infinite : all_finite (corners (stl_triangles s)) ≡ false = of-all (λ l. all_finite (corners l)) _ s _ c.triangles_in-n.ensures c.all_finite.ensures ∙ c.if-not-all_finite.true in
    rw infinite

pub all_apart-requires : goal.all_apart-requires
all_apart-requires c = let h = fit_length c.args.bytes.now c.requires in let e = c.triangles_in-n.ensures in omega arith

pub returns-then-not-all_apart : goal.returns-then-not-all_apart
returns-then-not-all_apart c =
    let s = c.args.bytes.now in
    let finite : all_finite (corners (stl_triangles s)) ≡ true = of-all (λ l. all_finite (corners l)) _ s _ c.triangles_in-n.ensures c.all_finite.ensures ∙ c.if-not-all_finite.false in
    let equal : all_apart (stl_triangles s) ≡ false = of-all all_apart _ s _ c.triangles_in-n.ensures c.all_apart.ensures ∙ c.if-not-all_apart.true in
    rw (finite, equal)

pub returns : goal.returns
returns c =
    let s = c.args.bytes.now in
    let finite : all_finite (corners (stl_triangles s)) ≡ true = of-all (λ l. all_finite (corners l)) _ s _ c.triangles_in-n.ensures c.all_finite.ensures ∙ c.if-not-all_finite.false in
    let apart : all_apart (stl_triangles s) ≡ true = of-all all_apart _ s _ c.triangles_in-n.ensures c.all_apart.ensures ∙ c.if-not-all_apart.false in
    rw (finite, apart)
