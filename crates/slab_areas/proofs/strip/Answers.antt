-- `slab_areas::strip` meets its contract. Assumes nothing.
use Rattle.slab_areas.specs.Laws.{way-fits, strip-fits, strip-is}
use Rattle.slab_areas.proofs.strip.Goals as goal

pub overflow_sub-result : goal.overflow_sub-result
overflow_sub-result c = way-fits c.args.a c.args.b c.args.c c.requires

pub overflow_mul-result : goal.overflow_mul-result
overflow_mul-result c = strip-fits c.args.a c.args.b c.args.c c.requires

pub returns : goal.returns
returns c = strip-is c.args.a c.args.b c.args.c c.requires
