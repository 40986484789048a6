-- `memory_reads::fin_at` meets its contract. Assumes nothing.
use mathlib.Core.Path.{ap, ◌∙◌}
use mathlib.Core.List.{List}
use Prim.Native.Nat.{ℕ}
use borrow.Author.Rules.{rules}
use Rattle.memory_layout.specs.Decode.{fin_of, decode}
use Rattle.memory_records.specs.Seen.{seen_fin}
use Rattle.memory_records.specs.Laws.{words-whole}
use Rattle.memory_layout.specs.Laws.{words_inside}
use Rattle.memory_reads.proofs.fin_at.Goals as goal

pub words_of-requires : goal.words_of-requires
words_of-requires c =
    let s = c in
    record { small = s.requires.lists.small; inside = words_inside s.args.room.now s.args.words.now 5 s.args.i s.requires.lists (search rules) s.requires.i_bound }

pub fin_of-requires : goal.fin_of-requires
fin_of-requires c =
    let s = c in
    words-whole s.args.room.now s.args.words.now c.words_of.result.now 5 s.args.i c.words_of.ensures (words_inside s.args.room.now s.args.words.now 5 s.args.i s.requires.lists (search rules) s.requires.i_bound)

pub returns : goal.returns
unfolding decode
returns c = λ x. c.fin_of.ensures ∙ ap (λ (l : List ℕ). seen_fin (fin_of l)) c.words_of.ensures
