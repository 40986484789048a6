-- `check_findings::is_solid` meets its contract: by the kind. Assumes nothing.
use borrow.Author.Rules.{rules}
use Rattle.check_findings.proofs.is_solid.Goals as goal

pub returns-in-Acorn : goal.returns-in-Acorn
returns-in-Acorn c = rw c.in-Acorn.is

pub returns-in-Wire : goal.returns-in-Wire
returns-in-Wire c = rw c.in-Wire.is

pub returns-in-Sheet : goal.returns-in-Sheet
returns-in-Sheet c = rw c.in-Sheet.is

pub returns-in-Solid : goal.returns-in-Solid
returns-in-Solid c = rw c.in-Solid.is

pub returns-in-General : goal.returns-in-General
returns-in-General c = rw c.in-General.is
