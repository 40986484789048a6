-- `memory_contains::id_of` meets its contract, case by case. Assumes nothing.
use mathlib.Core.Path.{sym, ap}
use Rattle.memory_contains.specs.Inner.{id_of}
use borrow.Author.Rules.{rules}
use Rattle.memory_contains.proofs.id_of.Goals as goal

pub returns-in-Body : goal.returns-in-Body
unfolding id_of
returns-in-Body c = sym (ap id_of c.in-Body.is)

pub returns-in-Region : goal.returns-in-Region
unfolding id_of
returns-in-Region c = sym (ap id_of c.in-Region.is)

pub returns-in-Shell : goal.returns-in-Shell
unfolding id_of
returns-in-Shell c = sym (ap id_of c.in-Shell.is)

pub returns-in-Face : goal.returns-in-Face
unfolding id_of
returns-in-Face c = sym (ap id_of c.in-Face.is)

pub returns-in-Loop : goal.returns-in-Loop
unfolding id_of
returns-in-Loop c = sym (ap id_of c.in-Loop.is)

pub returns-in-Fin : goal.returns-in-Fin
unfolding id_of
returns-in-Fin c = sym (ap id_of c.in-Fin.is)

pub returns-in-Edge : goal.returns-in-Edge
unfolding id_of
returns-in-Edge c = sym (ap id_of c.in-Edge.is)

pub returns-in-Vertex : goal.returns-in-Vertex
unfolding id_of
returns-in-Vertex c = sym (ap id_of c.in-Vertex.is)
