use Rattle.std.proofs.Common.{length-set, get_or}
use Rattle.bus_segment.proofs.PlaceLemmas.{one_written}
use Rattle.bus_segment.proofs.ends.receive_at.Goals as goal

pub returns : goal.returns
returns g c =
    record {
      many = length-set c.args.ends.now c.args.place c.receive.new.self;
      before = get_or c.args.ends.now c.args.place c.index-ends-place.result;
      after = c.receive.new.self;
      one = one_written c.args.ends.now c.args.place c.receive.new.self c.index-ends-place.result c.requires;
      got_is = c.receive.ensures.got;
      sent_is = c.receive.ensures.sent;
      had_is = c.receive.ensures.had;
      kept_is = c.receive.ensures.kept;
      pairs = c.receive.ensures.pairs;
      none = c.receive.ensures.none;
    }
