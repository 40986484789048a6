use Rattle.memory_writes.specs.Over.{over-whole}
use Rattle.memory_writes.specs.Put.{over}
use Rattle.memory_layout.specs.Entries.{list_of}
use lib.ListN.{length}
use mathlib.Core.Path.{sym, ap, ◌∙◌}
use native.Mathlib.Omega.{arith}
use borrow.Author.Rules.{rules}
use Rattle.split_writes.proofs.copy_fins.Goals as goal

pub write_words-requires : goal.write_words-requires
write_words-requires c = let s = c in let e = ap length c.list.ensures in let g = s.requires.out_len in omega arith

pub returns : goal.returns
returns c =
    let s = c in
    c.write_words.ensures
    ∙ ap (λ l. over 0 l s.args.out.now) c.list.ensures
    ∙ over-whole (list_of s.args.room.now s.args.words.now 7 s.args.edge) s.args.out.now (sym s.requires.out_len)
