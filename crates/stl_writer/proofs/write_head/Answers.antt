-- `stl_writer::write_head` meets its contract: twenty numbers that are 0, and the count. Assumes nothing.
use mathlib.Core.Path.{ap, ◌∙◌}
use mathlib.Core.List.{[], ◌∷◌}
use borrow.Author.Rules.{rules}
use Rattle.memory_writes.specs.Put.{over}
use Rattle.image_format.specs.Bytes.{words}
use Rattle.stl_writer.specs.Laws.{head_bytes}
use Rattle.stl_writer.proofs.write_head.Goals as goal

pub returns : goal.returns
returns c =
    let s = c in
    c.put_words-2.ensures ∙ ap (over 80 (words (s.args.count ∷ []))) c.put_words.ensures ∙ head_bytes s.args.count s.args.bytes.now s.requires.0
