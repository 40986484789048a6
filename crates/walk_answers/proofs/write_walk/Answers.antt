-- `walk_answers::write_walk` meets its contract. Assumes nothing.
use mathlib.Core.Path.{ap, ◌∙◌}
use borrow.Author.Rules.{rules}
use lib.ListN.{length, replicate, length-replicate}
use Rattle.walk_answers.specs.Laws.{marked-zeros, wrote_none, wrote-all}
use Rattle.walk_answers.proofs.write_walk.Goals as goal

pub visit-n-requires : goal.visit-n-requires
visit-n-requires c =
    let s = c in
    record { lists = s.requires.lists; sources = s.requires.sources; path_len_bound = s.requires.path_len_bound; marked = marked-zeros (length s.args.marks.now) _ s.requires.marks_value }

pub returns-then-space-n : goal.returns-then-space-n
returns-then-space-n c = record { wrote = wrote_none _ _ _ _ c.visit-n.ensures c.if-space-n.true; marks_after = c.clear.ensures ∙ ap (λ n. replicate n 0) c.visit-n.auto.marks }

pub visit-m-requires : goal.visit-m-requires
visit-m-requires c =
    let s = c in
    record { lists = s.requires.lists; sources = s.requires.sources; path_len_bound = s.requires.path_len_bound; marked = marked-zeros (length c.visit-n.new.marks) _ c.clear.ensures }

pub returns : goal.returns
returns c = record { wrote = wrote-all _ _ _ _ _ _ c.visit-n.ensures c.if-space-n.false c.visit-m.ensures; marks_after = c.clear-2.ensures ∙ ap (λ n. replicate n 0) (c.visit-m.auto.marks ∙ ap length c.clear.ensures ∙ length-replicate (length c.visit-n.new.marks) 0 ∙ c.visit-n.auto.marks) }
