-- `station::asking::brunskerl_body_faces` meets its contract. Assumes nothing.
use borrow.Author.Rules.{rules}
use Rattle.station.proofs.asking.brunskerl_body_faces.Goals as goal

pub returns : goal.returns
returns c = record { count = c.write_faces.ensures.count; list = c.write_faces.ensures.list; code = c.write_faces.ensures.code; faces = c.write_faces.ensures.faces }
