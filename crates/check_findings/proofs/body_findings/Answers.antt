-- `check_findings::body_findings` meets its contract: one step after the other. Assumes nothing.
use native.Mathlib.Omega.{arith}
use mathlib.Core.Path.{sym, ◌∙◌}
use Rattle.memory_layout.specs.Decode.{decode}
use Rattle.memory_layout.specs.Laws.{fit_of, lists_of}
use Rattle.check_reasons.specs.Laws.{enough-same, enough-first, enough-then, noted-same, noted-then}
use Rattle.check_loop.specs.Loop.{options}
use Rattle.check_findings.specs.Laws.{body-list, body-told}
use borrow.Author.Rules.{rules}
use Rattle.check_findings.proofs.body_findings.Goals as goal

pub overflow_cast-b : goal.overflow_cast-b
overflow_cast-b c = omega (arith, c.requires.n_bound.1, (lists_of _ _ _ (fit_of _ _ _ c.requires.reals_value)).counts 0 (omega arith), (lists_of _ _ _ (fit_of _ _ _ c.requires.reals_value)).small.small 0 (omega arith))

pub list-regions-requires : goal.list-regions-requires
list-regions-requires c = record { lists = (lists_of _ _ _ (fit_of _ _ _ c.requires.reals_value)); j_bound = (search rules, c.requires.n_bound.1) }

pub region_layout-laid-requires : goal.region_layout-laid-requires
region_layout-laid-requires c = record { fit = (fit_of _ _ _ c.requires.reals_value); enough = enough-first _ _ _ (enough-first _ _ _ (enough-same (body-told (decode c.args.room.now c.args.words.now c.args.reals.now) (options c.args.geometry c.args.n) c.args.body _ (c.list-regions.ensures ∙ body-list c.args.room.now c.args.words.now c.args.reals.now c.args.body)) c.requires.enough)) }

pub all_regions-told-requires : goal.all_regions-told-requires
all_regions-told-requires c = record { fit = (fit_of _ _ _ c.requires.reals_value); n_bound = c.requires.n_bound.0; enough = enough-then (enough-first _ _ _ (enough-same (body-told (decode c.args.room.now c.args.words.now c.args.reals.now) (options c.args.geometry c.args.n) c.args.body _ (c.list-regions.ensures ∙ body-list c.args.room.now c.args.words.now c.args.reals.now c.args.body)) c.requires.enough)) c.region_layout-laid.ensures }

pub solid_edges-requires : goal.solid_edges-requires
solid_edges-requires c = record { reals_value = c.requires.reals_value; body_bound = c.requires.n_bound.1; faces_value = c.requires.faces_value; edges_value = c.requires.edges_value; enough = enough-then (enough-same (body-told (decode c.args.room.now c.args.words.now c.args.reals.now) (options c.args.geometry c.args.n) c.args.body _ (c.list-regions.ensures ∙ body-list c.args.room.now c.args.words.now c.args.reals.now c.args.body)) c.requires.enough) (noted-then c.region_layout-laid.ensures c.all_regions-told.ensures) }

pub returns : goal.returns
returns c = record { noted = noted-same (sym (body-told (decode c.args.room.now c.args.words.now c.args.reals.now) (options c.args.geometry c.args.n) c.args.body _ (c.list-regions.ensures ∙ body-list c.args.room.now c.args.words.now c.args.reals.now c.args.body))) (noted-then (noted-then c.region_layout-laid.ensures c.all_regions-told.ensures) c.solid_edges.ensures.noted); faces_after = c.solid_edges.ensures.faces_after; edges_after = c.solid_edges.ensures.edges_after }
