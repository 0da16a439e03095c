use Rattle.board_model.specs.Limits.{most_posted, most_delayed}
use Rattle.law_local.proofs.room.RoomLemmas.{both_fit, to_limits, of_bridge}
use Rattle.law_local.proofs.room.lanes_have_room.Goals as goal

pub returns-clause-in_limits : goal.returns-clause-in_limits
returns-clause-in_limits c = λ board came part lane left left_back valid ran. both_fit board came part lane left left_back most_posted most_delayed valid (to_limits board lane valid) ran

pub returns-clause-of_bridge : goal.returns-clause-of_bridge
returns-clause-of_bridge c = λ board came part lane left left_back bridge valid is ran. both_fit board came part lane left left_back bridge.posted bridge.delayed valid (of_bridge board lane bridge is) ran
