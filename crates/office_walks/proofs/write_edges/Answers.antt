-- `office_walks::write_edges` meets its contract. Assumes nothing.
use mathlib.Core.Path.{ap, ◌∙◌}
use lib.ListN.{length}
use borrow.Author.Rules.{rules}
use Rattle.walk_answers.specs.Calls.{in_front}
use Rattle.office_walks.specs.Laws.{edges-there, edges-above}
use Rattle.office_walks.proofs.write_edges.Goals as goal

pub returns-then-office-gt1 : goal.returns-then-office-gt1
unfolding in_front
returns-then-office-gt1 c =
    let s = c in
    let a = edges-above s.args.room.now s.args.words.now s.args.reals.now s.args.office s.args.body c.unknown_tag.result s.args.faces.now s.args.edges.now s.args.out.now c.if-office-gt1.true c.unknown_tag.ensures in
    record { count = ap length a.handed; list = ap (λ l. in_front l s.args.out.now) a.handed; code = a.number; faces = c.clear.ensures; edges = c.clear-then-office-gt1.ensures }

pub returns : goal.returns
returns c =
    let s = c in
    let a = edges-there s.args.room.now s.args.words.now s.args.reals.now s.args.office s.args.body _ s.args.faces.now s.args.edges.now s.args.out.now (c.body_for-seen.ensures s.args.room.now s.args.reals.now) c.if-office-gt1.false in
    let r = c.write_edges.ensures in
    record { count = r.count ∙ ap length a.handed; list = r.list ∙ ap (λ l. in_front l s.args.out.now) a.handed; code = r.code ∙ a.number; faces = r.faces; edges = r.edges }
