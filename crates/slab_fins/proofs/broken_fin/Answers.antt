-- `slab_fins::broken_fin` meets its contract. Assumes nothing.
use Rattle.std.specs.Prelude.{suc, get_or}
use Rattle.std.proofs.Common.{refl, sym, ap, ◌∙◌, subst, arith}
use Rattle.geom_lines_planes.specs.Refuse.{◌unless◌}
use Rattle.meaning_slab_laws.specs.Steps.{first-none, first-turn, first_done}
use Rattle.memory_layout.specs.Decode.{decode}
use Rattle.walk_marks.specs.Laws.{all-nth}
use Rattle.inquire_fin_starts.specs.Starts.{fin_whole, Whole}
use Rattle.inquire_fin_starts.specs.Laws.{whole_of}
use Rattle.slab_fins.specs.Ends.{open_fin}
use Rattle.slab_fins.specs.Laws.{next-whole}
use Rattle.slab_fins.proofs.broken_fin.Goals as goal

pub loop-k-init : goal.loop-k-init
loop-k-init c x = first-none c.args.fins.now (open_fin (decode c.args.room.now c.args.words.now x))

pub ends_at-requires : goal.ends_at-requires
ends_at-requires c =
    let k = c.loop-k.k in
    record { lists = c.requires.lists; whole = (whole_of c.args.room.now c.args.words.now (get_or c.args.fins.now k 0) (all-nth (fin_whole c.args.room.now c.args.words.now) c.args.fins.now k c.requires.fins_value (omega arith)), subst (Whole c.args.room.now c.args.words.now) (sym c.next_of-next.ensures) (next-whole c.args.room.now c.args.words.now c.args.fins.now k c.requires.fins_value (omega arith))) }

pub loop-k-preserved : goal.loop-k-preserved
loop-k-preserved c x =
    let turn = c.loop-k in
    first-turn c.args.fins.now (open_fin (decode c.args.room.now c.args.words.now x)) turn.k (get_or c.args.fins.now turn.k 0) _ _ _ _ (omega arith) (turn.invariant x) refl c.next_of-next.ensures
    (c.unless_holds.ensures ∙ ap (λ t. suc (get_or c.args.fins.now turn.k 0) unless t) (c.ends_at.ensures x)) c.then-n.ensures

pub returns : goal.returns
returns c x = first_done c.args.fins.now (open_fin (decode c.args.room.now c.args.words.now x)) c.loop-k.k _ (omega arith) (c.loop-k.invariant x)
