use native.Mathlib.Omega.{arith}
use Rattle.split_pieces.specs.Pieces.{counts_put}
use borrow.Author.Rules.{rules}
use Rattle.split_records.proofs.put_counts.Goals as goal

pub write_words-requires : goal.write_words-requires
write_words-requires c = let s = c in let g = s.requires.counts in omega arith

pub returns : goal.returns
unfolding counts_put
returns c = c.write_words.ensures
