-- `memory_writes::write::write_new` meets its contract. Assumes nothing.
use mathlib.Core.Path.{ap, ◌∙◌}
use Rattle.memory_writes.specs.Put.{over}
use Rattle.memory_writes.proofs.write.write_new.Goals as goal

pub returns : goal.returns
returns c = c.write_words.ensures ∙ ap (over 0 c.args.a.now) c.clear.ensures
