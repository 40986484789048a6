-- `split_lists::passes::double_lists` meets its contract. Assumes nothing.
use Rattle.std.specs.Prelude.{◌≡◌}
use Rattle.std.proofs.Common.{refl, ap, ◌∙◌, arith}
use Rattle.memory_layout.specs.Layout.{words_of}
use Rattle.memory_layout.specs.Laws.{capacity-le}
use Rattle.split_lists.specs.Pass.{put_all, doubled_at}
use Rattle.split_lists.specs.Laws.{pass-turn, pass-next}
use Rattle.split_lists.proofs.passes.double_lists.Goals as goal

pub loop-i-init : goal.loop-i-init
unfolding put_all
loop-i-init c = refl

pub owner_if-requires : goal.owner_if-requires
owner_if-requires c =
    let g = capacity-le c.args.room.now c.requires.small c.args.k c.requires.roomy.table in
    let n = c.requires.roomy.slots in
    omega arith

pub double_list-requires : goal.double_list-requires
double_list-requires c =
    let s = c in
    let i = c.loop-i.i in
    let room = s.args.room.now in
    let k = s.args.k in
    let same : words_of room c.loop-i.words k i ≡ words_of room s.args.words.now k i = ap (λ l. words_of room l k i) c.loop-i.invariant ∙ pass-next s.args.room.now s.args.words.now s.args.k s.args.place s.args.n s.args.olds.now s.args.owners.now s.args.senses.now s.args.own s.args.first s.requires.roomy i (omega arith) in
    let n = s.requires.roomy.slots in
    let g = s.requires.roomy.enough in
    record { small = s.requires.small; inside = record { enough = omega arith; table = s.requires.roomy.table; slot = omega arith }; olds = s.requires.olds; longer = rw (c.owner_if.ensures, same) (s.requires.roomy.each i (omega arith)) }

pub loop-i-preserved : goal.loop-i-preserved
unfolding doubled_at
loop-i-preserved c =
    let s = c in
    let i = c.loop-i.i in
    let room = s.args.room.now in
    let k = s.args.k in
    let same : words_of room c.loop-i.words k i ≡ words_of room s.args.words.now k i = ap (λ l. words_of room l k i) c.loop-i.invariant ∙ pass-next s.args.room.now s.args.words.now s.args.k s.args.place s.args.n s.args.olds.now s.args.owners.now s.args.senses.now s.args.own s.args.first s.requires.roomy i (omega arith) in
    rw (c.double_list.ensures, c.owner_if.ensures, same, c.loop-i.invariant) (pass-turn room k (doubled_at s.args.room.now s.args.words.now s.args.k s.args.place s.args.olds.now s.args.owners.now s.args.senses.now s.args.own s.args.first) s.args.words.now i)
