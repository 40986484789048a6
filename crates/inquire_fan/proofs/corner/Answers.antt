-- `inquire_fan::corner` meets its contract. Assumes nothing.
use native.Mathlib.Omega.{arith}
use mathlib.Core.Path.{◌∙◌}
use Rattle.memory_layout.specs.Decode.{decode}
use Rattle.inquire_fin_starts.specs.Starts.{start_point}
use Rattle.inquire_fin_starts.specs.Laws.{rim-whole, rim-start}
use Rattle.inquire_fan.specs.Laws.{backwards}
use Rattle.inquire_fan.proofs.corner.Goals as goal

pub overflow_cast-fins : goal.overflow_cast-fins
overflow_cast-fins c = omega (arith, c.type_inv.fins c.place-i.result)

pub start_point-requires : goal.start_point-requires
start_point-requires c =
    let s = c in
    let i = c.place-i.result in
    record { fit = s.requires.fit; whole = rim-whole s.args.room.now s.args.words.now s.args.fins.now i c.place-i.ensures.1 s.requires.rim; i_value = rim-start s.args.room.now s.args.words.now s.args.fins.now i c.place-i.ensures.1 s.requires.rim }

pub returns : goal.returns
returns c =
    let s = c in
    c.start_point.ensures ∙ backwards (start_point (decode s.args.room.now s.args.words.now s.args.reals.now)) s.args.back s.args.fins.now s.args.k _ s.requires.k_in_bounds c.place-i.ensures.0
