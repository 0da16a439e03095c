use Rattle.law_lanes.proofs.WellFormedLemmas.{WellFormed-numbers, WellFormed-single}
use Rattle.board_model.proofs.form_laws.ValidLemmas.{IsTree-valid}
use Rattle.board_model.proofs.Laws.{op_formed}
use Rattle.law_delivered.specs.Laws.{LawsOfRun}
use Rattle.law_untagged.proofs.RunLemmas.{runs_alike}
use Rattle.law_untagged.proofs.LastLemmas.{fresh_same}
use Rattle.law_untagged.proofs.StaleLemmas.{stale_exactly}
use Rattle.law_untagged.proofs.apart_runs_are_sound.Goals as goal

pub returns : goal.returns
returns c = λ board h valid apart plain. (
    let formed = valid.well_formed in
    let alike = runs_alike board (IsTree-valid board valid) (WellFormed-numbers board formed) (WellFormed-single board formed) (λ q op is. op_formed board q op formed is) apart h in
    let run = alike.run plain in
    let laws : LawsOfRun board h = c.laws_of_runs.ensures board h valid run in
    record {
      run = run;
      fresh = laws.fresh;
      as_left = laws.as_left;
      as_held = laws.as_held;
      matched = laws.matched;
      bounded = laws.bounded;
      none_stale = (stale_exactly board h plain).0 (fresh_same board valid apart h run plain laws.fresh);
    })
