use Rattle.bus_core.proofs.LineLemmas.{stands_first}
use Rattle.bus_core.proofs.bus.Bus.new.Goals as goal

pub returns-clause-first : goal.returns-clause-first
returns-clause-first c = stands_first _
