-- `sheet_words::readable` meets its contract. Assumes nothing.
use Rattle.std.proofs.Common.{rules}
use Rattle.sheet_words.specs.Laws.{too_many, few-enough}
use Rattle.sheet_words.proofs.readable.Goals as goal

pub returns-then-s-gt65536 : goal.returns-then-s-gt65536
returns-then-s-gt65536 c = too_many c.args.s c.if-s-gt65536.true

pub returns : goal.returns
returns c = few-enough c.args.s c.within.result c.if-s-gt65536.false c.within.ensures
