use Rattle.run_waves.proofs.WatchLemmas.{reads_lane, reads_waits}
use Rattle.run_waves.proofs.watch.Watch.reading.Goals as goal

pub returns-in-Lane : goal.returns-in-Lane
returns-in-Lane c = λ m at. let s = c.args.self.now in
    reads_lane c.args.board.now m s.kept s.waits.items s.scene c.args.signal c.in-Lane.lane c.in-Lane.count c.count.result at c.in-Lane.is c.count.ensures

pub returns-in-Waits : goal.returns-in-Waits
returns-in-Waits c = λ m at. let s = c.args.self.now in
    reads_waits c.args.board.now m s.kept s.waits.items s.scene c.args.signal c.in-Waits.master c.waits.result at c.in-Waits.is c.waits.ensures
