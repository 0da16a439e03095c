use Rattle.board_tree.proofs.bound.bound_of.Goals as goal

pub sum_of-requires : goal.sum_of-requires
sum_of-requires c =
    rw
    (c.cost_of_programs.ensures, c.as_slice.ensures, c.stalls_of.ensures, c.as_slice-2.ensures, c.longest_way.ensures, c.as_slice-3.ensures, c.as_slice-4.ensures, c.as_slice-5.ensures)
    c.requires.fits
