use Rattle.std.proofs.Common.{◌≡◌, ◌-◌, ◌++◌, length}
use Rattle.traffic_generator.specs.Draws.{words, words_drawn}
use Rattle.traffic_generator.proofs.draws.Draws.words.Given as goal

-- the words so far and those that are still to be drawn make up the whole
abbrev pub invariant-loop-place : goal.invariant-loop-place
invariant-loop-place l = record {
  many : length l.phases ≡ l._place;
  value : l.phases ++ words (l.count - l._place) l.self.state ≡ words l.count l.fn.self.state;
  state : words_drawn (l.count - l._place) l.self.state ≡ words_drawn l.count l.fn.self.state;
}
