-- The kinds of lines of a log, by what their acts are.
use Rattle.std.specs.Prelude.{Bool, true, false, if◌then◌else◌}
use Rattle.pci_command.specs.Command.{is_read}
use Rattle.board_model.specs.Ways.{is_lane}
use Rattle.observe_told.specs.declared.seen.Ending.{Ending}
use Rattle.observe_told.specs.declared.seen.Ending.TheVariants.{Done, Retry, TargetAbort, Nobody}
use Rattle.observe_told.specs.declared.seen.Who.{Who}
use Rattle.observe_told.specs.declared.seen.Who.TheVariants.{Master, Lane}
use Rattle.observe_told.specs.declared.seen.Seen.{Seen}
use Rattle.observe_told.specs.declared.seen.Log.{Log}
use Rattle.observe_told.specs.Addresses.{is_posted_line, claimant}
use Rattle.observe_log.specs.declared.row.Row.{Row}
use Rattle.observe_log.specs.declared.row.Row.TheVariants.{Silent, Latches, Takes, Reads, ReadsFirst, Writes, Posts, Unclaimed, UnclaimedPosts}

-- a posted write
abbrev pub posted_row : Ending → Row
posted_row Done = Posts
posted_row Retry = Silent
posted_row TargetAbort = Posts
posted_row Nobody = UnclaimedPosts

-- a read where no bridge claims
abbrev pub read_row : Who → Row
read_row (Master master) = Reads
read_row (Lane lane) = ReadsFirst

-- the end of a delayed request, at a bridge or not
abbrev pub end_row : Bool → Seen → Row
end_row true seen = Takes
end_row false seen = if is_read seen.command then read_row seen.who else Writes

-- a delayed request, claimed by a bridge or not
abbrev pub delayed_row : Bool → Seen → Ending → Row
delayed_row lane seen Done = end_row lane seen
delayed_row lane seen Retry = if lane then Latches else Silent
delayed_row lane seen TargetAbort = end_row lane seen
delayed_row lane seen Nobody = Unclaimed

-- what the acts of a line are
abbrev pub row_of : Log → Seen → Row
row_of log seen =
    if is_posted_line seen
    then posted_row seen.ending
    else delayed_row (is_lane (claimant log.board seen)) seen seen.ending
