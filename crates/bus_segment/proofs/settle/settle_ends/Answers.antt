use Rattle.std.proofs.Common.{length-set, get_or}
use Rattle.std.proofs.lemmas.Option.{slice_get-get_or}
use Rattle.bus_segment.proofs.PlaceLemmas.{one_written}
use Rattle.bus_segment.proofs.settle.settle_ends.Goals as goal

pub settle-requires : goal.settle-requires
settle-requires g c =
    let here = slice_get-get_or c.args.here.now c.args.place c.index-here-place.result c.requires.place in
    let there = slice_get-get_or c.args.there.now c.args.other_place c.index-there-other_place.result c.requires.other_place in
    record { paired = c.requires.may.pairs _ _ here there; fits = c.requires.may.fits _ _ here there }

pub returns : goal.returns
returns g c =
    record {
      a = get_or c.args.here.now c.args.place c.index-here-place.result;
      b = get_or c.args.there.now c.args.other_place c.index-there-other_place.result;
      a_after = c.settle.new.a;
      b_after = c.settle.new.b;
      here_one = one_written c.args.here.now c.args.place c.settle.new.a c.index-here-place.result c.requires.place;
      there_one = one_written c.args.there.now c.args.other_place c.settle.new.b c.index-there-other_place.result c.requires.other_place;
      here_many = length-set c.args.here.now c.args.place c.settle.new.a;
      there_many = length-set c.args.there.now c.args.other_place c.settle.new.b;
      settled = record {
        to_b = c.settle.ensures.to_b;
        to_a = c.settle.ensures.to_a;
        a_emptied = c.settle.ensures.a;
        b_emptied = c.settle.ensures.b;
        pairs = c.settle.ensures.paired;
      };
    }
