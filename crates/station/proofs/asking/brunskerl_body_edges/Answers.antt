-- `station::asking::brunskerl_body_edges` meets its contract. Assumes nothing.
use borrow.Author.Rules.{rules}
use Rattle.station.proofs.asking.brunskerl_body_edges.Goals as goal

pub returns : goal.returns
returns c = record { count = c.write_edges.ensures.count; list = c.write_edges.ensures.list; code = c.write_edges.ensures.code; faces = c.write_edges.ensures.faces; edges = c.write_edges.ensures.edges }
