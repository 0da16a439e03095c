use Rattle.bus_core.proofs.LineLemmas.{line_of, shape_lines}
use Rattle.bus_core.proofs.lines_tell_apart.Goals as goal

pub returns : goal.returns
returns c = λ board shape is_of few_lanes few_masters. (line_of shape, shape_lines board shape is_of few_lanes few_masters)
