use Rattle.bus_targets.proofs.PlaceLemmas.{searched_place, searched_none}
use Rattle.bus_targets.proofs.words.found_at.Goals as goal

pub returns-in-Ok : goal.returns-in-Ok
returns-in-Ok c = searched_place c.args.addresses.now c.args.address c.in-Ok.place c.requires c.in-Ok.ensures.position

pub returns-in-Err : goal.returns-in-Err
returns-in-Err c = searched_none c.args.addresses.now c.args.address _ c.requires c.in-Err.ensures.position
