use mathlib.Core.List.{[], ◌∷◌}
use Rattle.split_pieces.specs.Pieces.{floats_put}
use Rattle.memory_writes.specs.Put.{put_reals}
use mathlib.Core.Path.{refl, ap, ◌∙◌}
use native.Mathlib.Omega.{arith}
use borrow.Author.Rules.{rules}
use Rattle.split_records.proofs.floats.put_floats.Goals as goal

pub put_reals-requires-2 : goal.put_reals-requires-2
put_reals-requires-2 c =
    let s = c in
    let n = c.put_reals.auto.reals in
    let g = s.requires.room_in_bounds.0 in
    record { small = s.requires.small; inside = record { enough = omega arith; table = omega arith; slot = s.requires.room_in_bounds.2 }; a_len = refl }

pub returns : goal.returns
unfolding floats_put
returns c =
    let s = c in
    c.put_reals-2.ensures
    ∙ ap (put_reals s.args.room.now 7 s.args.vertex (s.args.p.x ∷ s.args.p.y ∷ s.args.p.z ∷ s.args.t ∷ [])) c.put_reals.ensures
