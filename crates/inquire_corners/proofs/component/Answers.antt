-- `inquire_corners::component` meets its contract. Assumes nothing.
use Rattle.inquire_corners.specs.Machines.{area-fits, component-fits, component-is}
use Rattle.inquire_corners.proofs.component.Goals as goal

pub overflow_mul-result : goal.overflow_mul-result
overflow_mul-result c = let h = c.requires in area-fits c.args.a c.args.b h.0 h.1

pub overflow_mul-result-2 : goal.overflow_mul-result-2
overflow_mul-result-2 c = let h = c.requires in area-fits c.args.c c.args.d h.2 h.3

pub overflow_sub-result : goal.overflow_sub-result
overflow_sub-result c = let h = c.requires in component-fits c.args.a c.args.b c.args.c c.args.d h.0 h.1 h.2 h.3

pub returns : goal.returns
returns c = let h = c.requires in component-is c.args.a c.args.b c.args.c c.args.d h.0 h.1 h.2 h.3
