use Rattle.history_model.specs.declared.rule.Rule.TheVariants.{Tagged}
use Rattle.judge_state.proofs.StepLemmas.{few_events}
use Rattle.judge_state.proofs.kept.Kept.step_kept.Goals as goal

pub step_on-requires : goal.step_on-requires
step_on-requires c =
    let h = c.requires.stands.0 in
    let stands = c.requires.stands.1 in
    record {
      valid = c.requires.valid;
      sites = c.requires.sites;
      stands = record {
        rule = Tagged;
        history = h;
        stands = stands;
        few = few_events c.args.board.now h c.requires.valid (c.runs_end.ensures.bounded c.args.board.now h c.requires.valid stands.run);
      };
    }

pub returns : goal.returns
returns c =
    record {
      verdict = λ h stands. c.step_on.ensures.verdict Tagged h stands;
      moved = λ h stands. c.step_on.ensures.moved Tagged h stands;
      goes_on = λ h stands. c.step_on.ensures.goes_on Tagged h stands;
      refused = c.step_on.ensures.refused;
    }
