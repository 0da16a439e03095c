use denote.Param.Send.{sendable}
use Rattle.lane_ends.proofs.ring.SendLemmas.{ring_end_send}
use Rattle.floor_tests.proofs.lane_ring_tests.an_item_crosses_between_threads.Goals as goal

pub for_each_mut-requires-send-T : goal.for_each_mut-requires-send-T
for_each_mut-requires-send-T c κs within = search (sendable, ring_end_send)
