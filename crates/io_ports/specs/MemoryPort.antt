-- Ports over memory, whose calls fail by number.
use Rattle.std.specs.Prelude.{ℕ, ◌-◌, ◌<◌, ◌≡◌, ◌++◌, min, List, length, take, drop, Contains, Result, Ok, Err}
use Rattle.io_ports.specs.declared.failed.Failed.{Failed}
use Rattle.io_ports.specs.Faults.{next_count}

-- a source over memory
pub record SourceState : Type 0 where
  -- the bytes that it still gives
  pub rest : List ℕ
  -- the most bytes that one call gives
  pub most : ℕ
  -- the numbers, from 1, of the calls that fail
  pub failing : List ℕ
  -- how often it was called, and how many of these calls failed
  pub calls : ℕ
  pub faults : ℕ

-- a sink over memory
pub record SinkState : Type 0 where
  -- the bytes that it took
  pub taken : List ℕ
  -- the most bytes that it takes in one call, and in all
  pub most : ℕ
  pub size : ℕ
  -- the numbers, from 1, of the calls that fail
  pub failing : List ℕ
  -- how often it was called, and how many of these calls failed
  pub calls : ℕ
  pub faults : ℕ

-- the next call is one of those that fail
abbrev pub FailsNext : List ℕ → ℕ → Type 0
FailsNext failing calls = Contains failing (next_count calls)

-- the next read has as many bytes as the three of them allow
abbrev pub read_len : SourceState → List ℕ → ℕ
read_len source buf = min source.most (min (length buf) (length source.rest))

-- the source after a call
abbrev pub source_after : SourceState → Result ℕ Failed → SourceState
source_after source (Ok n) = record source { rest = drop n source.rest; calls = next_count source.calls }
source_after source (Err _) = record source { calls = next_count source.calls; faults = next_count source.faults }

-- the sink is full, and has no room for any of the piece
abbrev pub HasNoRoom : SinkState → List ℕ → Type 0
HasNoRoom sink piece = (0 < length piece) × (sink.size ≡ length sink.taken)

-- the next write takes as many bytes as the three of them allow
abbrev pub write_len : SinkState → List ℕ → ℕ
write_len sink piece = min sink.most (min (length piece) (sink.size - length sink.taken))

-- the sink after a call with this piece
abbrev pub sink_after : SinkState → List ℕ → Result ℕ Failed → SinkState
sink_after sink piece (Ok n) = record sink { taken = sink.taken ++ take n piece; calls = next_count sink.calls }
sink_after sink piece (Err _) = record sink { calls = next_count sink.calls; faults = next_count sink.faults }
