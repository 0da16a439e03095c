use Rattle.std.proofs.Common.{length}
use Rattle.program_pages.proofs.page.+find_page.Given as goal

abbrev pub decreases-find_page : goal.decreases-find_page
decreases-find_page l = length l.pages.now
