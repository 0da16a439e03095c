-- Where a request goes next from a bus.
use Rattle.std.specs.Prelude.{if◌then◌else◌}
use Rattle.board_model.specs.declared.bridge.Place.{Place}
use Rattle.board_model.specs.declared.bridge.Place.TheVariants.{Target as TargetPlace, Header as HeaderPlace, Lane as LanePlace, Nobody as NobodyPlace}
use Rattle.plain_decode.specs.declared.hop.Hop.{Hop}
use Rattle.plain_decode.specs.declared.hop.Hop.TheVariants.{Target, Header, Down, Up, Nobody}

-- to who claims it: a lane that leads up is that of the bus's own bridge
abbrev pub hop_of : Place → Hop
hop_of (TargetPlace target) = Target target
hop_of (HeaderPlace bus) = Header bus
hop_of (LanePlace lane) = if lane.up then Up else Down lane.bus
hop_of NobodyPlace = Nobody
