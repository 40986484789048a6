-- `c_first::put_first` meets its contract. Assumes nothing.
use mathlib.Core.Path.{refl}
use mathlib.Core.Option.{none, some}
use Rattle.c_lent.specs.Laws.{value-crosses, refusal-crosses}
use Rattle.c_first.specs.Laws.{first-cases}
use borrow.Author.Rules.{rules}
use Rattle.c_first.proofs.put_first.Goals as goal

pub returns-in-None : goal.returns-in-None
returns-in-None c = value-crosses first-cases none c.in-None.is refl

pub returns-in-Is : goal.returns-in-Is
returns-in-Is c = value-crosses first-cases (some _) c.in-Is.is c.fault_value.ensures

pub returns-in-Refused : goal.returns-in-Refused
returns-in-Refused c = refusal-crosses first-cases _ c.in-Refused.is
