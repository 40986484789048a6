-- `split_foreign::foreign_edge` meets its contract. Assumes nothing.
use native.Mathlib.Omega.{arith}
use mathlib.Core.Path.{◌≡◌, refl, sym, ◌∙◌}
use mathlib.Core.Bool.{false}
use lib.ListN.{replicate, get_or-replicate}
use Rattle.split_foreign.specs.Status.{standing, others_with}
use Rattle.split_foreign.specs.Laws.{fresh-of, row_fits}
use Rattle.split_foreign.specs.Met.{foreign-is, foreign-none}
use Rattle.split_foreign.proofs.foreign_edge.Goals as goal

pub slice_bounds-other_with-end : goal.slice_bounds-other_with-end
slice_bounds-other_with-end c = refl

pub other_with-requires : goal.other_with-requires
other_with-requires c = c.requires

pub returns-then-not-other_with : goal.returns-then-not-other_with
returns-then-not-other_with c =
    let s = c in
    let n = row_fits s.args.room.now s.args.words.now 0 s.requires (omega arith) in
    let f : others_with s.args.room.now s.args.words.now s.args.office (standing (replicate 64 1)) ≡ false = sym c.other_with.ensures ∙ c.if-not-other_with.true in
    λ x. sym (foreign-none s.args.room.now s.args.words.now x s.args.edge s.args.office (replicate 64 1) (λ b h. get_or-replicate 64 b 1 2 (omega arith)) f)

pub slice_bounds-body_statuses-end : goal.slice_bounds-body_statuses-end
slice_bounds-body_statuses-end c = refl

pub body_statuses-requires : goal.body_statuses-requires
body_statuses-requires c = let s = c in record { lists = s.requires; fresh = fresh-of _ _ (row_fits s.args.room.now s.args.words.now 0 s.requires (omega arith)) }

pub other_with-requires-2 : goal.other_with-requires-2
other_with-requires-2 c = c.requires

pub returns : goal.returns
returns c =
    let s = c in
    λ x. c.other_with-2.ensures ∙ foreign-is s.args.room.now s.args.words.now x s.args.edge s.args.office _ c.body_statuses.ensures
