use Rattle.law_local.proofs.room.SettleLemmas.{may_settle, fewer_left}
use Rattle.law_local.proofs.room.settle_has_room.Goals as goal

pub returns-clause-at_most : goal.returns-clause-at_most
returns-clause-at_most c = may_settle

pub returns-clause-fewer : goal.returns-clause-fewer
returns-clause-fewer c = λ carries board came part lane before had got sent before_back had_back got_back sent_back kept kept_back e valid runs here back order order_back puts.
    fewer_left carries board came part lane before had got sent before_back had_back got_back sent_back kept kept_back valid runs here back order order_back e puts
