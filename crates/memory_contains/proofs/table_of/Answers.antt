-- `memory_contains::table_of` meets its contract, case by case. Assumes nothing.
use mathlib.Core.Path.{sym, ap}
use Rattle.memory_contains.specs.Inner.{table_of}
use borrow.Author.Rules.{rules}
use Rattle.memory_contains.proofs.table_of.Goals as goal

pub returns-in-Body : goal.returns-in-Body
unfolding table_of
returns-in-Body c = sym (ap table_of c.in-Body.is)

pub returns-in-Region : goal.returns-in-Region
unfolding table_of
returns-in-Region c = sym (ap table_of c.in-Region.is)

pub returns-in-Shell : goal.returns-in-Shell
unfolding table_of
returns-in-Shell c = sym (ap table_of c.in-Shell.is)

pub returns-in-Face : goal.returns-in-Face
unfolding table_of
returns-in-Face c = sym (ap table_of c.in-Face.is)

pub returns-in-Loop : goal.returns-in-Loop
unfolding table_of
returns-in-Loop c = sym (ap table_of c.in-Loop.is)

pub returns-in-Fin : goal.returns-in-Fin
unfolding table_of
returns-in-Fin c = sym (ap table_of c.in-Fin.is)

pub returns-in-Edge : goal.returns-in-Edge
unfolding table_of
returns-in-Edge c = sym (ap table_of c.in-Edge.is)

pub returns-in-Vertex : goal.returns-in-Vertex
unfolding table_of
returns-in-Vertex c = sym (ap table_of c.in-Vertex.is)
