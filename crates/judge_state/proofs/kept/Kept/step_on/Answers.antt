use Rattle.std.proofs.Common.{None, Some, refl}
use Rattle.history_model.specs.declared.rule.Rule.{Rule}
use Rattle.history_model.specs.Runs.{AllowedBy}
use Rattle.law_lanes.proofs.Laws.{WellFormed-single}
use Rattle.judge_state.proofs.FoundLemmas.{found_same}
use Rattle.judge_state.proofs.GoneLemmas.{gone_fits}
use Rattle.judge_state.proofs.SmallLemmas.{parts_small}
use Rattle.judge_state.proofs.StepLemmas.{holds_same, stands_after, rooms_there}
use Rattle.judge_state.proofs.kept.Kept.step_on.Goals as goal

pub happen-requires : goal.happen-requires
happen-requires c =
    let rule : Rule = c.requires.stands.rule in
    let h = c.requires.stands.history in
    let stands = c.requires.stands.stands in
    let formed = c.requires.valid.well_formed in
    let allowed : AllowedBy rule c.args.board.now h c.args.event.now = holds_same rule c.args.board.now h c.args.self.now c.args.event.now None stands c.in-Ok.ensures in
    record {
      formed = formed;
      rooms = rooms_there rule c.args.board.now h c.args.self.now formed c.requires.stands.few stands;
      gone = gone_fits rule c.args.board.now h c.args.self.now.gone c.args.event.now stands.gone (parts_small rule c.args.board.now formed) stands.run allowed;
    }

pub returns-in-Ok : goal.returns-in-Ok
returns-in-Ok c =
    record {
      verdict = λ rule h stands. holds_same rule c.args.board.now h c.args.self.now c.args.event.now None stands c.in-Ok.ensures;
      moved = λ rule h stands.
          let allowed : AllowedBy rule c.args.board.now h c.args.event.now = holds_same rule c.args.board.now h c.args.self.now c.args.event.now None stands c.in-Ok.ensures in
          found_same rule c.args.board.now h c.args.self.now c.args.event.now _ stands allowed c.happen.ensures.found;
      goes_on = λ rule h stands.
          let allowed : AllowedBy rule c.args.board.now h c.args.event.now = holds_same rule c.args.board.now h c.args.self.now c.args.event.now None stands c.in-Ok.ensures in
          rw c.happen.ensures.state (stands_after rule c.args.board.now h c.args.self.now c.args.event.now (WellFormed-single c.args.board.now c.requires.valid.well_formed) stands allowed);
      refused = tt;
    }

pub returns-in-Err : goal.returns-in-Err
returns-in-Err c =
    record {
      verdict = λ rule h stands. holds_same rule c.args.board.now h c.args.self.now c.args.event.now (Some c.in-Err.why) stands c.in-Err.ensures;
      moved = λ rule h stands. tt;
      goes_on = λ rule h stands. tt;
      refused = refl;
    }
