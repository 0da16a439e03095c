use Rattle.board_headers.proofs.round_trip.read_back.Goals as goal

pub returns : goal.returns
returns c =
    let law = c.encoding_is_read_back.ensures in
    let bridge = c.args.bridge.now in
    let read = law.reading bridge (law.whole_windows bridge c.requires.well_formed) c.requires.numbered in
    cc
