-- `image_writer::version_length` meets its contract. Assumes nothing.
use mathlib.Core.Path.{sym, ap}
use lib.ListN.{length}
use Rattle.image_writer.specs.Laws.{first-bytes, second-long}
use Rattle.image_writer.proofs.version_length.Goals as goal

pub returns-then-words-eq2 : goal.returns-then-words-eq2
returns-then-words-eq2 c = sym (second-long c.args.words.now c.if-words-eq2.true)

pub returns : goal.returns
returns c = sym (ap length (first-bytes c.args.words.now c.if-words-eq2.false))
