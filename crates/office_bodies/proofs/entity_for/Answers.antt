-- `office_bodies::entity_for` meets its contract, case by case. Assumes nothing.
use mathlib.Core.Path.{sym, ap, ◌∙◌}
use borrow.Author.Rules.{rules}
use Rattle.memory_layout.specs.Decode.{decode}
use Rattle.memory_contains.specs.declared.EntityRef.TheVariants as Entities
use Rattle.office_bodies.specs.Answers.{entity_for}
use Rattle.office_bodies.proofs.entity_for.Goals as goal

pub returns-in-Body : goal.returns-in-Body
returns-in-Body c room x =
    let s = c in
    ap Entities.Body (c.body_for.ensures room x) ∙ sym (ap (entity_for (decode room s.args.words.now x) s.args.office) c.in-Body.is)

pub returns-in-Region : goal.returns-in-Region
returns-in-Region c room x =
    let s = c in
    sym (ap (entity_for (decode room s.args.words.now x) s.args.office) c.in-Region.is)

pub returns-in-Shell : goal.returns-in-Shell
returns-in-Shell c room x =
    let s = c in
    sym (ap (entity_for (decode room s.args.words.now x) s.args.office) c.in-Shell.is)

pub returns-in-Face : goal.returns-in-Face
returns-in-Face c room x =
    let s = c in
    sym (ap (entity_for (decode room s.args.words.now x) s.args.office) c.in-Face.is)

pub returns-in-Loop : goal.returns-in-Loop
returns-in-Loop c room x =
    let s = c in
    sym (ap (entity_for (decode room s.args.words.now x) s.args.office) c.in-Loop.is)

pub returns-in-Fin : goal.returns-in-Fin
returns-in-Fin c room x =
    let s = c in
    sym (ap (entity_for (decode room s.args.words.now x) s.args.office) c.in-Fin.is)

pub returns-in-Edge : goal.returns-in-Edge
returns-in-Edge c room x =
    let s = c in
    sym (ap (entity_for (decode room s.args.words.now x) s.args.office) c.in-Edge.is)

pub returns-in-Vertex : goal.returns-in-Vertex
returns-in-Vertex c room x =
    let s = c in
    sym (ap (entity_for (decode room s.args.words.now x) s.args.office) c.in-Vertex.is)
