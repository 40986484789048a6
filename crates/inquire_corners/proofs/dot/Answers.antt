-- `inquire_corners::dot` meets its contract. Assumes nothing.
use Rattle.inquire_corners.specs.Machines.{term_fits, two-fit, three-fit, dot-is}
use Rattle.inquire_corners.proofs.dot.Goals as goal

pub overflow_mul-result : goal.overflow_mul-result
overflow_mul-result c = let s = c in term_fits s.args.o.x s.args.v.x s.requires.0.x s.requires.1.x

pub overflow_mul-result-2 : goal.overflow_mul-result-2
overflow_mul-result-2 c = let s = c in term_fits s.args.o.y s.args.v.y s.requires.0.y s.requires.1.y

pub overflow_add-result : goal.overflow_add-result
overflow_add-result c = let s = c in two-fit s.args.o s.args.v s.requires.0 s.requires.1

pub overflow_mul-result-3 : goal.overflow_mul-result-3
overflow_mul-result-3 c = let s = c in term_fits s.args.o.z s.args.v.z s.requires.0.z s.requires.1.z

pub overflow_add-result-2 : goal.overflow_add-result-2
overflow_add-result-2 c = let s = c in three-fit s.args.o s.args.v s.requires.0 s.requires.1

pub returns : goal.returns
returns c = let s = c in dot-is s.args.o s.args.v s.requires.0 s.requires.1
