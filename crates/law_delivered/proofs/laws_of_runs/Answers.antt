use Rattle.law_delivered.proofs.laws_of_runs.Goals as goal

pub returns : goal.returns
returns c = λ board h valid run.
    let numbers = c.well_formed_boards.ensures.numbers board valid.well_formed in
    let single = c.well_formed_boards.ensures.single board valid.well_formed in
    record {
      matched = c.matched.ensures.every_run board h numbers single run;
      fresh = c.runs_are_fresh.ensures board h valid run;
      as_left = c.reads_return_what_was_left.ensures.left board h valid run;
      as_held = c.reads_return_what_was_left.ensures.held board h valid run;
      bounded = c.runs_end.ensures.bounded board h valid run;
      goes_on = c.runs_go_on.ensures board h valid run;
      falls = λ later whole. c.runs_end.ensures.follow board later h valid whole;
    }
