-- An end of a lane may move to another thread.
use denote.RattleType.{RattleType}
use denote.Param.Send.{IsSend, sendable, owning_send, recorded_send, struct_send}
use denote.Struct.Declared.{shape}
use Rattle.std.proofs.Crossing.{frees}
use Rattle.std.proofs.alloc.Global.TheSendSync as heap
use Rattle.std.specs.contracts.snapshot.Snapshot as snapshot
use Rattle.rtrb.proofs.producer.Producer.TheSendSync as producer
use Rattle.rtrb.proofs.consumer.Consumer.TheSendSync as consumer
use Rattle.std.specs.contracts.alloc.Global.{the_row as heap_row}
use Rattle.std.specs.contracts.impls.GlobalAllocator.TheImpl.{ghosts as heap_ghosts}
use Rattle.rtrb.specs.contracts.AnyItems.{the_row as any_row}
use Rattle.rtrb.specs.contracts.AnyItemsProtocol.TheImpl.{ghosts as any_ghosts}
use Rattle.lane_items.proofs.item.Item.TheSendSync as item
use Rattle.arrayvec.proofs.array_vec.ArrayVec.TheSendSync as table_moves
use denote.Builtin.{unit}
use denote.Param.{number}
use Rattle.arrayvec.specs.contracts.array_vec.ArrayVec as table
use Rattle.rtrb.specs.contracts.producer.Producer as producer_contract
use Rattle.rtrb.specs.contracts.consumer.Consumer as consumer_contract
use Rattle.lane_items.specs.contracts.item.Item.{the_row as item_row}
use Rattle.lane_ends.specs.contracts.ring.outward.Outward as outward
use Rattle.lane_ends.specs.contracts.ring.inward.Inward as inward
use Rattle.lane_ends.specs.contracts.ring.ring_end.RingEnd as ring_end

item_send : IsSend item_row
item_send = item.the_send

begun_send : (R : RattleType) → IsSend (snapshot.the_field R).row
begun_send R = owning_send (snapshot.the_type R) (search sendable, tt) (λ d. tt) (λ k x w. tt)

table_send : IsSend (table.the_field item_row (number 32) unit).row
table_send = table_moves.the_send item_row (number 32) unit item_send (search sendable)

outward_send : IsSend outward.the_field.row
outward_send =
    struct_send (shape outward.the_type) (
      producer.the_field_send item_row heap_row any_row heap_ghosts (any_ghosts item_row) item_send heap.the_send frees,
      (begun_send (producer_contract.the_row item_row heap_row any_row heap_ghosts (any_ghosts item_row)), (table_send, tt)),
    )

inward_send : IsSend inward.the_field.row
inward_send =
    struct_send (shape inward.the_type) (
      consumer.the_field_send item_row heap_row any_row heap_ghosts (any_ghosts item_row) item_send heap.the_send frees,
      (begun_send (consumer_contract.the_row item_row heap_row any_row heap_ghosts (any_ghosts item_row)), (table_send, (search sendable, tt))),
    )

-- an end of a bridge, as a field and by itself
pub ring_end_field_send : IsSend ring_end.the_field.row
ring_end_field_send = struct_send (shape ring_end.the_type) (outward_send, (inward_send, tt))

pub ring_end_send : IsSend ring_end.the_row
ring_end_send = recorded_send ring_end.the_field.row _ _ ring_end.the_type.to_one ring_end_field_send
