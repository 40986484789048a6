-- `check_report::fit_to_saw` meets its contract: read off the report, and what is asked besides. Assumes nothing.
use Rattle.meaning_list_laws.specs.Tests.{and_both}
use lib.Dec.{eqb}
use Rattle.check_report.specs.Laws.{fit_refused, fit-given, fit-faced}
use borrow.Author.Rules.{rules}
use Rattle.check_report.proofs.fit_to_saw.Goals as goal

pub fit_if-requires : goal.fit_if-requires
fit_if-requires c =
    let s = c in
    λ valid.
    fit-faced s.args.room.now s.args.words.now s.args.reals.now s.args.body s.args.faces.now s.args.edges.now _ c.check_body.ensures.answer _ c.in-Is.is
    (and_both (eqb c.in-Is.counts.faults 0) _ valid).0

pub returns-in-Refused : goal.returns-in-Refused
returns-in-Refused c =
    let s = c in
    record { answer = fit_refused s.args.room.now s.args.words.now s.args.reals.now s.args.body s.args.faces.now s.args.edges.now _ c.check_body.ensures.answer _ c.in-Refused.is; faces = c.check_body.ensures.faces; edges = c.check_body.ensures.edges }

pub returns-in-Is : goal.returns-in-Is
returns-in-Is c =
    let s = c in
    record { answer = fit-given s.args.room.now s.args.words.now s.args.reals.now s.args.body s.args.faces.now s.args.edges.now _ c.check_body.ensures.answer _ c.in-Is.is _ (c.fit_if.ensures s.args.reals.now); faces = c.check_body.ensures.faces; edges = c.check_body.ensures.edges }
