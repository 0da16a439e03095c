use Rattle.std.proofs.Common.{refl}
use Rattle.board_model.proofs.encoding.encode.Goals as goal

pub returns : goal.returns
returns c =
    rw
    (c.put_2-10.ensures, c.control.ensures, c.put_2-9.ensures, c.io_limit_upper.ensures, c.put_2-8.ensures, c.io_base_upper.ensures, c.put_4-2.ensures, c.prefetchable_limit_upper.ensures, c.put_4.ensures, c.prefetchable_base_upper.ensures, c.put_2-7.ensures, c.prefetchable_limit.ensures, c.put_2-6.ensures, c.prefetchable_base.ensures, c.put_2-5.ensures, c.memory_limit.ensures, c.put_2-4.ensures, c.memory_base.ensures, c.put_2-3.ensures, c.command.ensures, c.put_2-2.ensures, c.put_2.ensures, c.io_base.ensures, c.io_limit.ensures)
    refl
