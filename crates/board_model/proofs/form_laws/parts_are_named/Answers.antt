use Rattle.board_model.proofs.Laws.{Bridge-parts, Bridge-from, Window-parts, Window-from, Target-parts, Target-from, Block-parts, Block-from, Master-parts, Master-from}
use Rattle.board_model.proofs.form_laws.parts_are_named.Goals as goal

pub returns : goal.returns
returns c =
    record {
      bridge_named = Bridge-parts;
      bridge_tested = Bridge-from;
      window_named = Window-parts;
      window_tested = Window-from;
      target_named = Target-parts;
      target_tested = Target-from;
      range_named = Block-parts;
      range_tested = Block-from;
      master_named = Master-parts;
      master_tested = Master-from;
    }
