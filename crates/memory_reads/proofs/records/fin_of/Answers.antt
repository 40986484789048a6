-- `memory_reads::records::fin_of` meets its contract. Assumes nothing.
use lib.Dec.{lit<}
use Rattle.memory_layout.specs.Layout.{word}
use Rattle.memory_layout.specs.Decode.{flag_at}
use Rattle.memory_records.specs.Seen.{seen_fin}
use Rattle.memory_records.specs.Laws.{within}
use Rattle.memory_reads.proofs.records.fin_of.Goals as goal

pub bounds-w-0 : goal.bounds-w-0
bounds-w-0 c = within 0 c.requires (lit< tt)

pub bounds-w-1 : goal.bounds-w-1
bounds-w-1 c = within 1 c.requires (lit< tt)

pub bounds-w-2 : goal.bounds-w-2
bounds-w-2 c = within 2 c.requires (lit< tt)

pub bounds-w-3 : goal.bounds-w-3
bounds-w-3 c = within 3 c.requires (lit< tt)

pub returns : goal.returns
unfolding seen_fin
returns c =
    let l = c.args.w.now in
    λ i. record { owner = word l 0; edge = word l 1; sense = c.sense_of.ensures i; pcurve = flag_at l 3 }
