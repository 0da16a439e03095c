use Rattle.law_delivered.proofs.left.LeftLemmas.{told_left, returned_held}
use Rattle.law_delivered.proofs.left.reads_return_what_was_left.Goals as goal

pub returns : goal.returns
returns c =
    record {
      left = λ board h valid run w r reading told is_got named. told_left board h w r reading valid run told is_got named;
      held = λ board h valid run r reading is_got. returned_held board h r reading valid run is_got;
    }
