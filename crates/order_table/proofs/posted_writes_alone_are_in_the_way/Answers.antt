use Rattle.order_table.proofs.WayLemmas.{posted_alone}
use Rattle.order_table.proofs.posted_writes_alone_are_in_the_way.Goals as goal

pub returns : goal.returns
returns c row column = posted_alone row column
