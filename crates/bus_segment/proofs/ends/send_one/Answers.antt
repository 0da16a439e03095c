use Rattle.std.proofs.Common.{length-set, get_or}
use Rattle.std.proofs.lemmas.Option.{slice_get-get_or}
use Rattle.bus_segment.proofs.PlaceLemmas.{one_written}
use Rattle.bus_segment.proofs.ends.send_one.Goals as goal

pub send-requires : goal.send-requires
send-requires g c = c.requires.room _ (slice_get-get_or c.args.ends.now c.args.place c.index-ends-place.result c.requires.place)

pub returns : goal.returns
returns g c =
    record {
      many = length-set c.args.ends.now c.args.place c.send.new.self;
      before = get_or c.args.ends.now c.args.place c.index-ends-place.result;
      after = c.send.new.self;
      one = one_written c.args.ends.now c.args.place c.send.new.self c.index-ends-place.result c.requires.place;
      sent_is = c.send.ensures.sent;
      got_is = c.send.ensures.got;
      had_is = c.send.ensures.had;
      pairs = c.send.ensures.pairs;
    }
